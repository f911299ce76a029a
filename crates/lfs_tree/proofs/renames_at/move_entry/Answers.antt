use Rattle.lfs_tree.proofs.ShiftedSlots.{apart_within, if_both, if_done, moved_apart, moved_within, rename_apart, rename_within, reported_across, reported_within, survives_apart, survives_within, writes_apart}
use Rattle.lfs_tree.proofs.renames_at.move_entry.Goals as goal

pub rename-requires-clause-can : goal.rename-requires-clause-can
rename-requires-clause-can g c =
    let can = c.requires.can in
    rename_within c.args.replaces c.args.thread.now.kept can.0 can.1 c.args.source c.args.place c.args.name.now can.2 c.if-from-place.true

pub returns-then-from-place-clause-moved : goal.returns-then-from-place-clause-moved
returns-then-from-place-clause-moved g c =
    if_done c.rename.result c.rename.ensures.renamed
    (λ gives from to can. moved_within c.args.replaces c.args.thread.now.kept from to c.args.source c.args.place c.args.name.now can c.rename.new.thread.kept c.if-from-place.true c.rename.ensures.device gives)

pub returns-then-from-place-clause-errors : goal.returns-then-from-place-clause-errors
returns-then-from-place-clause-errors g c =
    let can = c.requires.can in
    reported_within c.args.thread.now c.rename.new.thread c.args.source.slot.pair _ c.rename.result can.2.can.room c.rename.ensures.errors

pub returns-then-from-place-clause-device : goal.returns-then-from-place-clause-device
returns-then-from-place-clause-device g c =
    let can = c.requires.can in
    apart_within c.args.thread.now.kept can.0 can.1 c.args.source c.args.name.now c.rename.new.thread.kept can.2.can c.rename.ensures.device

pub returns-then-from-place-clause-survives : goal.returns-then-from-place-clause-survives
returns-then-from-place-clause-survives g c from to can =
    survives_within c.args.replaces c.args.thread.now.kept from to c.args.source c.args.place c.args.name.now can c.rename.new.thread.kept c.if-from-place.true c.rename.ensures.survives

pub rename_across-requires-clause-can : goal.rename_across-requires-clause-can
rename_across-requires-clause-can g c =
    let can = c.requires.can in
    rename_apart c.args.replaces c.args.thread.now.kept can.0 can.1 c.args.source c.args.place c.args.name.now can.2 c.if-from-place.false

pub returns-else-from-place-clause-moved : goal.returns-else-from-place-clause-moved
returns-else-from-place-clause-moved g c =
    if_both c.rename_across.result c.rename_across.ensures.renamed c.rename_across.ensures.alters
    (λ gives alters from to can. moved_apart c.args.replaces c.args.thread.now.kept from to c.args.source c.args.place c.args.name.now can c.rename_across.new.thread.kept c.if-from-place.false alters gives)

pub returns-else-from-place-clause-errors : goal.returns-else-from-place-clause-errors
returns-else-from-place-clause-errors g c =
    let can = c.requires.can in
    reported_across c.args.thread.now c.rename_across.new.thread c.args.place.pair _ c.rename_across.result can.2.can.room c.rename_across.ensures.errors

pub returns-else-from-place-clause-device : goal.returns-else-from-place-clause-device
returns-else-from-place-clause-device g c =
    let can = c.requires.can in
    writes_apart c.args.replaces c.args.thread.now.kept can.0 can.1 c.args.source c.args.place c.args.name.now can.2 c.rename_across.new.thread.kept c.rename_across.ensures.device

pub returns-else-from-place-clause-survives : goal.returns-else-from-place-clause-survives
returns-else-from-place-clause-survives g c from to can =
    survives_apart c.args.replaces c.args.thread.now.kept from to c.args.source c.args.place c.args.name.now can c.rename_across.new.thread.kept c.if-from-place.false c.rename_across.ensures.survives
