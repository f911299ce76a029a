use Rattle.lfs_operations.proofs.OntoWritten.{each_among}
use Rattle.lfs_tree.proofs.ShiftedDirectories.{over_apart, over_done_apart, over_done_within, over_survives_apart, over_survives_within, over_within, over_writes_within, reported_over}
use Rattle.lfs_tree.proofs.ShiftedSlots.{if_both, reported_across}
use Rattle.lfs_tree.proofs.renames_at.move_onto_directory.Goals as goal

pub rename_onto_directory-requires-clause-can : goal.rename_onto_directory-requires-clause-can
rename_onto_directory-requires-clause-can g c =
    let can = c.requires.can in
    over_within c.args.thread.now.kept can.0 can.1 c.args.source c.args.slot c.args.gone c.args.name.now can.2 c.if-from-slot.true

pub returns-then-from-slot-clause-shifted : goal.returns-then-from-slot-clause-shifted
returns-then-from-slot-clause-shifted g c =
    if_both c.rename_onto_directory.result c.rename_onto_directory.ensures.renamed c.rename_onto_directory.ensures.alters
    (λ gives alters from to can. over_done_within c.args.thread.now.kept from to c.args.source c.args.slot c.args.gone c.args.name.now can c.rename_onto_directory.new.thread.kept c.if-from-slot.true alters gives)

pub returns-then-from-slot-clause-errors : goal.returns-then-from-slot-clause-errors
returns-then-from-slot-clause-errors g c = reported_over c.args.thread.now c.rename_onto_directory.new.thread c.rename_onto_directory.result c.rename_onto_directory.ensures.errors

pub returns-then-from-slot-clause-device : goal.returns-then-from-slot-clause-device
returns-then-from-slot-clause-device g c =
    let can = c.requires.can in
    over_writes_within c.args.thread.now.kept can.0 can.1 c.args.source c.args.slot c.args.gone c.args.name.now can.2 c.rename_onto_directory.new.thread.kept c.rename_onto_directory.ensures.device

pub returns-then-from-slot-clause-survives : goal.returns-then-from-slot-clause-survives
returns-then-from-slot-clause-survives g c from to can =
    over_survives_within c.args.thread.now.kept from to c.args.source c.args.slot c.args.gone c.args.name.now can c.rename_onto_directory.new.thread.kept c.if-from-slot.true c.rename_onto_directory.ensures.survives

pub replace_across_pairs-requires-clause-can : goal.replace_across_pairs-requires-clause-can
replace_across_pairs-requires-clause-can g c =
    let can = c.requires.can in
    over_apart c.args.thread.now.kept can.0 can.1 c.args.source c.args.slot c.args.gone c.args.name.now can.2 c.if-from-slot.false

pub returns-else-from-slot-clause-shifted : goal.returns-else-from-slot-clause-shifted
returns-else-from-slot-clause-shifted g c =
    if_both c.replace_across_pairs.result c.replace_across_pairs.ensures.renamed c.replace_across_pairs.ensures.alters
    (λ gives alters from to can. over_done_apart c.args.thread.now.kept from to c.args.source c.args.slot c.args.gone c.args.name.now can c.replace_across_pairs.new.thread.kept c.if-from-slot.false alters gives)

pub returns-else-from-slot-clause-errors : goal.returns-else-from-slot-clause-errors
returns-else-from-slot-clause-errors g c =
    let can = c.requires.can in
    reported_across c.args.thread.now c.replace_across_pairs.new.thread c.args.slot.pair _ c.replace_across_pairs.result can.2.can.room c.replace_across_pairs.ensures.errors

pub returns-else-from-slot-clause-device : goal.returns-else-from-slot-clause-device
returns-else-from-slot-clause-device g c = each_among c.args.thread.now.kept c.replace_across_pairs.new.thread.kept c.replace_across_pairs.ensures.device

pub returns-else-from-slot-clause-survives : goal.returns-else-from-slot-clause-survives
returns-else-from-slot-clause-survives g c from to can =
    over_survives_apart c.args.thread.now.kept from to c.args.source c.args.slot c.args.gone c.args.name.now can c.replace_across_pairs.new.thread.kept c.if-from-slot.false c.replace_across_pairs.ensures.survives
