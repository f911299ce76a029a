use Rattle.std.proofs.Common.{◌∙◌, ◌++◌, ap, arith, map, sym, take}
use Rattle.lfs_tool.specs.MemorySources.{memory_view, name_in_folder, names_in_folder}
use Rattle.lfs_tool.proofs.HeldItems.{names_more}
use Rattle.lfs_tool.proofs.source_memory.child_names.Goals as goal

pub loop-one-preserved : goal.loop-one-preserved
loop-one-preserved c =
    let folder = c.args.folder.now in
    let before = names_in_folder (map memory_view (take c.loop-one.one-index c.args.held.now)) folder in
    let more = names_more folder c.args.held.now c.loop-one.one-index c.one-item.result (omega arith) ∙ ap (λ h. before ++ name_in_folder folder (memory_view h)) (sym c.one-item.is) in
    c.in_ok-push_child_name.ensures.names ∙ ap (λ ns. ns ++ name_in_folder folder (memory_view c.one-item.result)) c.loop-one.invariant ∙ sym more
