use Rattle.lfs_operations.proofs.Common.{CanLinkPairAfter, ap, sym, subst, ◌∙◌, arith, on_ok_weaker, Disk, HasEitherTree, address_of_array, disk_tree, ThreadView, ThreadReportsKeepingOthers, address_blocks, tree_with_directory}
use Rattle.lfs_device.specs.declared.error.Error.TheVariants as Error
use Rattle.lfs_operations.proofs.MakingCounts.{no_room}
use Rattle.lfs_operations.proofs.MakingReported.{reports_first, reports_second, given_error}
use Rattle.lfs_operations.proofs.MakingWrites.{survives_both, writes_both, writes_first}
use Rattle.lfs_operations.proofs.Mkdir.{can_enter, left_by_entering, left_between, left_unthreaded, made_alters, made_is, room_left, can_link, has_linked, making, threading_survives}
use Rattle.lfs_operations.proofs.Putting.{not_both, survives_step}
use Rattle.lfs_operations.proofs.new_directories.make_directory.Goals as goal

pub returns-in_default-clause-errors : goal.returns-in_default-clause-errors
returns-in_default-clause-errors g c = let room = c.requires.can.room in absurd (no_room c.args.thread.now.kept.map c.in_default.ensures.none (omega arith))

pub returns-in_default-clause-device : goal.returns-in_default-clause-device
returns-in_default-clause-device g c = let room = c.requires.can.room in absurd (no_room c.args.thread.now.kept.map c.in_default.ensures.none (omega arith))

pub returns-in_default-clause-survives : goal.returns-in_default-clause-survives
returns-in_default-clause-survives g c = let room = c.requires.can.room in absurd (no_room c.args.thread.now.kept.map c.in_default.ensures.none (omega arith))

pub link_pair_after-requires-clause-can : goal.link_pair_after-requires-clause-can
link_pair_after-requires-clause-can g c = subst (λ (s : ThreadView). CanLinkPairAfter s.kept c.last_directory_pair-last.result (address_of_array c.in-Some.fresh)) (sym c.in-Some.ensures.taken)
    (can_link (making c.requires.can c.last_directory_pair-last.ensures c.in-Some.ensures.were_free c.lemma_device_facts.ensures.bytes c.lemma_device_facts.ensures.count))

pub returns-in_err-link_pair_after-clause-errors : goal.returns-in_err-link_pair_after-clause-errors
returns-in_err-link_pair_after-clause-errors g c = reports_first c.from_residual.result (ap (λ (s : ThreadView). s.kept) c.in-Some.ensures.taken) c.in_err-link_pair_after.was c.from_residual.ensures.1 c.link_pair_after.ensures.errors.failed c.link_pair_after.ensures.errors.reported

pub returns-in_err-link_pair_after-clause-device : goal.returns-in_err-link_pair_after-clause-device
returns-in_err-link_pair_after-clause-device g c = writes_first (making c.requires.can c.last_directory_pair-last.ensures c.in-Some.ensures.were_free c.lemma_device_facts.ensures.bytes c.lemma_device_facts.ensures.count) c.link_pair_after.new.thread.kept (ap (λ (s : ThreadView). s.kept) c.in-Some.ensures.taken) c.link_pair_after.ensures.device

pub returns-in_err-link_pair_after-clause-survives : goal.returns-in_err-link_pair_after-clause-survives
returns-in_err-link_pair_after-clause-survives g c can = threading_survives (making can c.last_directory_pair-last.ensures c.in-Some.ensures.were_free c.lemma_device_facts.ensures.bytes c.lemma_device_facts.ensures.count) (ap (λ (s : ThreadView). s.kept) c.in-Some.ensures.taken) c.link_pair_after.ensures.stops

pub create_subdirectory_entry-requires-clause-can : goal.create_subdirectory_entry-requires-clause-can
create_subdirectory_entry-requires-clause-can g c =
    let mk = making c.requires.can c.last_directory_pair-last.ensures c.in-Some.ensures.were_free c.lemma_device_facts.ensures.bytes c.lemma_device_facts.ensures.count in
    let h = has_linked mk (ap (λ (s : ThreadView). s.kept) c.in-Some.ensures.taken) c.in_ok-link_pair_after.ensures.is_joined c.link_pair_after.ensures.device c.lemma_device_facts-2.ensures.bytes in
    can_enter mk h

pub returns-clause-made : goal.returns-clause-made
returns-clause-made g c =
    on_ok_weaker c.create_subdirectory_entry.result (λ is can.
    let mk = making can c.last_directory_pair-last.ensures c.in-Some.ensures.were_free c.lemma_device_facts.ensures.bytes c.lemma_device_facts.ensures.count in
    let h = has_linked mk (ap (λ (s : ThreadView). s.kept) c.in-Some.ensures.taken) c.in_ok-link_pair_after.ensures.is_joined c.link_pair_after.ensures.device c.lemma_device_facts-2.ensures.bytes in
    made_is mk h c.create_subdirectory_entry.new.thread.kept is)
    c.create_subdirectory_entry.ensures.is_put

pub returns-clause-alters : goal.returns-clause-alters
returns-clause-alters g c =
    on_ok_weaker c.create_subdirectory_entry.result (λ is.
    let mk = making c.requires.can c.last_directory_pair-last.ensures c.in-Some.ensures.were_free c.lemma_device_facts.ensures.bytes c.lemma_device_facts.ensures.count in
    let h = has_linked mk (ap (λ (s : ThreadView). s.kept) c.in-Some.ensures.taken) c.in_ok-link_pair_after.ensures.is_joined c.link_pair_after.ensures.device c.lemma_device_facts-2.ensures.bytes in
    made_alters mk h c.create_subdirectory_entry.new.thread.kept is)
    c.create_subdirectory_entry.ensures.is_put

pub returns-clause-device : goal.returns-clause-device
returns-clause-device g c =
    let mk = making c.requires.can c.last_directory_pair-last.ensures c.in-Some.ensures.were_free c.lemma_device_facts.ensures.bytes c.lemma_device_facts.ensures.count in
    let h = has_linked mk (ap (λ (s : ThreadView). s.kept) c.in-Some.ensures.taken) c.in_ok-link_pair_after.ensures.is_joined c.link_pair_after.ensures.device c.lemma_device_facts-2.ensures.bytes in
    writes_both mk h c.create_subdirectory_entry.new.thread.kept c.create_subdirectory_entry.ensures.device

pub returns-clause-survives : goal.returns-clause-survives
returns-clause-survives g c can =
    let mk = making can c.last_directory_pair-last.ensures c.in-Some.ensures.were_free c.lemma_device_facts.ensures.bytes c.lemma_device_facts.ensures.count in
    let h = has_linked mk (ap (λ (s : ThreadView). s.kept) c.in-Some.ensures.taken) c.in_ok-link_pair_after.ensures.is_joined c.link_pair_after.ensures.device c.lemma_device_facts-2.ensures.bytes in
    survives_both mk h c.create_subdirectory_entry.new.thread.kept c.create_subdirectory_entry.ensures.device (threading_survives mk (ap (λ (s : ThreadView). s.kept) c.in-Some.ensures.taken) c.link_pair_after.ensures.stops)
    (survives_step c.args.thread.now.kept.disk (left_by_entering mk h) c.create_subdirectory_entry.ensures.stops)

pub returns-in_default-clause-stands : goal.returns-in_default-clause-stands
returns-in_default-clause-stands g c = let room = c.requires.can.room in absurd (no_room c.args.thread.now.kept.map c.in_default.ensures.none (omega arith))

pub returns-in_err-link_pair_after-clause-stands : goal.returns-in_err-link_pair_after-clause-stands
returns-in_err-link_pair_after-clause-stands g c memory can =
    left_unthreaded (making can c.last_directory_pair-last.ensures c.in-Some.ensures.were_free c.lemma_device_facts.ensures.bytes c.lemma_device_facts.ensures.count) (ap (λ (s : ThreadView). s.kept) c.in-Some.ensures.taken) c.link_pair_after.ensures.device
    (c.link_pair_after.ensures.errors.reported.beside (c.in_err-link_pair_after.was ∙ sym (given_error c.from_residual.result c.from_residual.ensures.1) ∙ memory))

pub returns-clause-errors : goal.returns-clause-errors
returns-clause-errors g c =
    let mk = making c.requires.can c.last_directory_pair-last.ensures c.in-Some.ensures.were_free c.lemma_device_facts.ensures.bytes c.lemma_device_facts.ensures.count in
    let h = has_linked mk (ap (λ (s : ThreadView). s.kept) c.in-Some.ensures.taken) c.in_ok-link_pair_after.ensures.is_joined c.link_pair_after.ensures.device c.lemma_device_facts-2.ensures.bytes in
    let reported = subst (λ (s : ThreadView). ThreadReportsKeepingOthers (address_blocks (address_of_array c.in-Some.fresh)) s.kept c.link_pair_after.new.thread.kept c.link_pair_after.result) c.in-Some.ensures.taken c.link_pair_after.ensures.errors.reported in
    reports_second c.args.thread.now c.link_pair_after.new.thread c.create_subdirectory_entry.new.thread c.create_subdirectory_entry.result
    (reported.no_fault (λ io. not_both c.link_pair_after.result c.in_ok-link_pair_after.field-0 Error.Io c.in_ok-link_pair_after.was io))
    (λ none. room_left mk h (c.create_subdirectory_entry.ensures.errors.reports.reports.no_space none))
    c.create_subdirectory_entry.ensures.errors.reports

pub returns-clause-stands : goal.returns-clause-stands
returns-clause-stands g c memory can =
    let mk = making can c.last_directory_pair-last.ensures c.in-Some.ensures.were_free c.lemma_device_facts.ensures.bytes c.lemma_device_facts.ensures.count in
    let h = has_linked mk (ap (λ (s : ThreadView). s.kept) c.in-Some.ensures.taken) c.in_ok-link_pair_after.ensures.is_joined c.link_pair_after.ensures.device c.lemma_device_facts-2.ensures.bytes in
    subst (λ (d : Disk). HasEitherTree d (disk_tree c.args.thread.now.kept.disk c.args.thread.now.kept.pairs) (tree_with_directory c.args.thread.now.kept can.path c.args.name.now))
    (sym (c.create_subdirectory_entry.ensures.errors.reports.reports.unwritten memory).disk) (left_between mk h)
