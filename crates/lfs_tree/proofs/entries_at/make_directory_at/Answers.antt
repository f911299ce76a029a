use Rattle.std.proofs.Common.{arith, subst, sym}
use Rattle.std.specs.Prelude.{OnOk}
use Rattle.lfs_tree.proofs.Common.{err_from_is_err_and, AreBothChangedOrDropped, CanMakeDirectoryAt, IsDirectoryMade, WritesPairsAndFourFree, tree_with_directory, PowerLossLeavesEither, answered, passed}
use Rattle.lfs_tree.proofs.Carried.{read_is}
use Rattle.lfs_tree.proofs.CarryCreated.{can_make, make_does, vacant_to}
use Rattle.lfs_tree.proofs.CarryPlaces.{place_for, place_found}
use Rattle.lfs_tree.proofs.Operated.{only_read_change, works_reported}
use Rattle.lfs_tree.proofs.entries_at.make_directory_at.Goals as goal

pub insertion_slot-place-requires : goal.insertion_slot-place-requires
insertion_slot-place-requires g c = place_found c.args.thread.now.kept c.args.path.now c.in_ok-target.target.found (vacant_to c.args.thread.now.kept c.args.path.now 4 c.requires.can) c.in_ok-target.ensures.target.leads

pub make_directory-requires-clause-can : goal.make_directory-requires-clause-can
make_directory-requires-clause-can g c =
    let t = c.args.thread.now in
    let mid = c.find_at_path.new.thread.kept in
    let spot = c.insertion_slot-place.result in
    let name = c.in_ok-target.target.name.now in
    let target = c.in_ok-target.ensures.target in
    let place = place_for t.kept c.args.path.now c.in_ok-target.target.found name spot (vacant_to t.kept c.args.path.now 4 c.requires.can) target.leads c.insertion_slot-place.ensures target.named in
    subst (λ k. CanMakeDirectoryAt k spot.pair spot.id name) (sym (read_is t.kept mid c.find_at_path.ensures.reading.only))
    (can_make t c.args.root c.requires.rests c.args.path.now c.lemma_valid_names.ensures c.lemma_block_facts.ensures.large c.lemma_block_facts.ensures.bytes 4 c.requires.can name spot place mid.history (omega arith))

pub returns-in_err-target : goal.returns-in_err-target
returns-in_err-target g c =
    let p = err_from_is_err_and c.from_residual.result c.from_residual.ensures.1 in
    only_read_change c.args.thread.now c.args.root c.requires.rests c.find_at_path.new.thread _ _ c.from_residual.result p.0 p.1
    (passed _ _ c.find_at_path.result c.from_residual.result _ p.0 c.in_err-target.was p.1 p.2 c.find_at_path.ensures.reading)

pub returns : goal.returns
returns g c =
    let t = c.args.thread.now in
    let mid = c.find_at_path.new.thread in
    let new = c.make_directory.new.thread in
    let spot = c.insertion_slot-place.result in
    let name = c.in_ok-target.target.name.now in
    let target = c.in_ok-target.ensures.target in
    let place = place_for t.kept c.args.path.now c.in_ok-target.target.found name spot (vacant_to t.kept c.args.path.now 4 c.requires.can) target.leads c.insertion_slot-place.ensures target.named in
    let read = answered t mid c.find_at_path.result c.in_ok-target.target c.in_ok-target.was c.find_at_path.ensures.reading in
    let is = read_is t.kept mid.kept read.only in
    let e = c.make_directory.ensures in
    make_does t c.args.root c.requires.rests c.args.path.now c.lemma_valid_names.ensures c.lemma_block_facts.ensures.large c.lemma_block_facts.ensures.bytes 4 c.requires.can name spot place mid.kept.history new c.make_directory.result c.lemma_path_bytes.ensures.0 c.lemma_path_bytes.ensures.1
    (omega arith) read.same read.only.reads (subst (λ k. WritesPairsAndFourFree k spot.pair new.kept) is e.device)
    (subst (λ k. OnOk c.make_directory.result ((can : CanMakeDirectoryAt k spot.pair spot.id name) → IsDirectoryMade k new.kept can.path name)) is e.made) (subst (λ k. OnOk c.make_directory.result (AreBothChangedOrDropped k spot.pair new.kept)) is e.alters)
    (record { errors = e.errors.errors; fault = e.errors.fault; no_fault = e.errors.no_fault }) (works_reported new c.make_directory.result e.errors.failed)
    (subst (λ k. (can : CanMakeDirectoryAt k spot.pair spot.id name) → PowerLossLeavesEither k new.kept (tree_with_directory k can.path name)) is e.survives)
