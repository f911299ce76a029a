use Rattle.lfs_model.proofs.Committed.{no_move_from}
use Rattle.lfs_model.proofs.Indexes.{nothing_there}
use Rattle.lfs_model.proofs.Searches.{slot_of_stands, place_of_belongs, run_length_is}
use Rattle.lfs_model.proofs.shared.search_finds_entry_at_path.Goals as goal

pub returns-clause-stands : goal.returns-clause-stands
returns-clause-stands c = λ disk ps path at first pair id name ok settled leads begins s.
    slot_of_stands disk ps path at ok leads first pair id name (no_move_from ps settled) s begins

pub returns-clause-absent : goal.returns-clause-absent
returns-clause-absent c = λ disk ps path at first pair id name ok settled leads begins belongs.
    (nothing_there disk ps path at _ name leads (place_of_belongs disk ps path at ok leads first pair id name (no_move_from ps settled) belongs begins)).0

pub returns-clause-reads : goal.returns-clause-reads
returns-clause-reads c = run_length_is
