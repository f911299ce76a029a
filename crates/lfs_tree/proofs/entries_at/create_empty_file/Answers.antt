use Rattle.std.proofs.Common.{arith, subst, sym}
use Rattle.std.specs.Prelude.{OnOk}
use Rattle.lfs_tree.proofs.Common.{err_from_is_err_and, IsPairChangedOrDropped, WritesPairAndTwoFree, CanCreateIn, IsFileCreated, tree_with_file, HasFreeBlocks, KeptThread, PowerLossLeavesEither, answered, passed}
use Rattle.lfs_tree.proofs.Carried.{read_is}
use Rattle.lfs_tree.proofs.CarryCreated.{can_create, create_does, vacant_to}
use Rattle.lfs_tree.proofs.CarryPlaces.{place_for, place_found}
use Rattle.lfs_tree.proofs.CarryRooms.{room_for}
use Rattle.lfs_tree.proofs.ReportedFaults.{reported_with_room}
use Rattle.lfs_tree.proofs.Operated.{only_read_change, works_put}
use Rattle.lfs_tree.proofs.entries_at.create_empty_file.Goals as goal

pub insertion_slot-place-requires : goal.insertion_slot-place-requires
insertion_slot-place-requires g c = place_found c.args.thread.now.kept c.args.path.now c.in_ok-target.target.found (vacant_to c.args.thread.now.kept c.args.path.now 2 c.requires.can) c.in_ok-target.ensures.target.leads

pub create_file-requires-clause-can : goal.create_file-requires-clause-can
create_file-requires-clause-can g c =
    let t = c.args.thread.now in
    let mid = c.lookup_unless_known.new.thread.kept in
    let spot = c.insertion_slot-place.result in
    let name = c.in_ok-target.target.name.now in
    let target = c.in_ok-target.ensures.target in
    let place = place_for t.kept c.args.path.now c.in_ok-target.target.found name spot (vacant_to t.kept c.args.path.now 2 c.requires.can) target.leads c.insertion_slot-place.ensures target.named in
    subst (λ k. CanCreateIn k spot.pair spot.id name) (sym (read_is t.kept mid c.lookup_unless_known.ensures.reading.only))
    (can_create t c.args.root c.requires.rests c.args.path.now c.lemma_valid_names.ensures c.lemma_block_facts.ensures.large c.lemma_block_facts.ensures.bytes 2 c.requires.can name spot place mid.history)

pub returns-in_err-target-clause-does : goal.returns-in_err-target-clause-does
returns-in_err-target-clause-does g c =
    let p = err_from_is_err_and c.from_residual.result c.from_residual.ensures.1 in
    only_read_change c.args.thread.now c.args.root c.requires.rests c.lookup_unless_known.new.thread _ _ c.from_residual.result p.0 p.1
    (passed _ _ c.lookup_unless_known.result c.from_residual.result _ p.0 c.in_err-target.was p.1 p.2 c.lookup_unless_known.ensures.reading)

pub returns-in_err-target-clause-few : goal.returns-in_err-target-clause-few
returns-in_err-target-clause-few g c known = let same = c.lookup_unless_known.ensures.unread known in omega (arith, same)

pub returns-clause-does : goal.returns-clause-does
returns-clause-does g c =
    let t = c.args.thread.now in
    let mid = c.lookup_unless_known.new.thread in
    let new = c.create_file.new.thread in
    let spot = c.insertion_slot-place.result in
    let name = c.in_ok-target.target.name.now in
    let target = c.in_ok-target.ensures.target in
    let place = place_for t.kept c.args.path.now c.in_ok-target.target.found name spot (vacant_to t.kept c.args.path.now 2 c.requires.can) target.leads c.insertion_slot-place.ensures target.named in
    let read = answered t mid c.lookup_unless_known.result c.in_ok-target.target c.in_ok-target.was c.lookup_unless_known.ensures.reading in
    let is = read_is t.kept mid.kept read.only in
    let e = c.create_file.ensures in
    create_does t c.args.root c.requires.rests c.args.path.now c.lemma_valid_names.ensures c.lemma_block_facts.ensures.large c.lemma_block_facts.ensures.bytes 2 c.requires.can name spot place mid.kept.history new c.create_file.result c.lemma_path_bytes.ensures.0 c.lemma_path_bytes.ensures.1
    read.same read.only.reads (subst (λ k. WritesPairAndTwoFree k spot.pair new.kept) is e.device)
    (subst (λ k. OnOk c.create_file.result ((can : CanCreateIn k spot.pair spot.id name) → IsFileCreated k new.kept can.path name)) is e.created) (subst (λ k. OnOk c.create_file.result (IsPairChangedOrDropped k spot.pair new.kept)) is e.alters)
    (reported_with_room mid.kept new.kept c.create_file.result (subst (λ (k : KeptThread). HasFreeBlocks 2 k.map) (sym is) (room_for t.kept 2 c.requires.rests.held.sound c.requires.can.room)) e.errors.reports.reports) (works_put new c.create_file.result e.errors.reports.failed)
    (subst (λ k. (can : CanCreateIn k spot.pair spot.id name) → PowerLossLeavesEither k new.kept (tree_with_file k can.path name)) is e.survives)

pub returns-clause-few : goal.returns-clause-few
returns-clause-few g c known = let same = c.lookup_unless_known.ensures.unread known in let few = c.create_file.ensures.few in omega (arith, same, few)
