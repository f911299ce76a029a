use Rattle.lfs_operations.proofs.Common.{on_ok_weaker}
use Rattle.lfs_operations.proofs.Stored.{can_store, store_survives, stored}
use Rattle.lfs_operations.proofs.structs.set_struct.Goals as goal

pub commit_or_split-requires-clause-can : goal.commit_or_split-requires-clause-can
commit_or_split-requires-clause-can g c = can_store c.args.thread.now.kept c.args.pair c.args.id c.args.kind c.args.bytes.now c.requires.can

pub returns-clause-is_stored : goal.returns-clause-is_stored
returns-clause-is_stored g c = on_ok_weaker c.commit_or_split.result (λ is store. stored c.args.thread.now.kept c.args.pair c.args.id c.args.kind c.args.bytes.now store c.commit_or_split.new.thread.kept is) c.commit_or_split.ensures.is_put

pub returns-clause-survives : goal.returns-clause-survives
returns-clause-survives g c store = store_survives c.args.thread.now.kept c.args.pair c.args.id c.args.kind c.args.bytes.now store c.commit_or_split.new.thread.kept.history c.commit_or_split.ensures.stops
