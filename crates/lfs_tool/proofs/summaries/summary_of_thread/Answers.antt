use Rattle.std.proofs.Common.{◌∙◌, ap, ap₂, arith, subst}
use Rattle.lfs_model.proofs.BlockSets.{used_count-AreUsed}
use Rattle.lfs_model.specs.layers.BlockSets.{BlockStates, used_count}
use Rattle.lfs_tool.proofs.Common.{Disk, block_count, used_blocks, Pair, is_file_item}
use Rattle.lfs_model.specs.layers.ProfileBreaches.{IsBreachIfAny}
use Rattle.lfs_model.specs.format.Thread.{pairs_gstate}
use Rattle.lfs_tool.specs.ImageSummaries.{IsReportedSuperblock, lowered_inline_max, gstate_needs_recovery}
use Rattle.lfs_tool.proofs.Counts.{as_many, files_alike}
use Rattle.lfs_tool.proofs.ActionsDone.{only_trans}
use Rattle.std.proofs.Common.{List, count_by}
use Rattle.lfs_tool.proofs.summaries.summary_of_thread.Goals as goal

pub returns-clause-only : goal.returns-clause-only
returns-clause-only g c =
    let two = c.walk_tree.ensures.reading.only in
    only_trans (only_trans two c.superblock_to_report.ensures.only.0) c.find_profile_breach.ensures.reading.only

pub returns-clause-summary : goal.returns-clause-summary
returns-clause-summary g c =
    let disk = c.args.thread.now.kept.disk in
    let pairs = c.args.thread.now.kept.pairs in
    let items = c.in_ok-items.items.items in
    let two = c.walk_tree.ensures.reading.only in
    let three = only_trans two c.superblock_to_report.ensures.only.0 in
    let four = only_trans three c.find_profile_breach.ensures.reading.only in
    let (entries, (walk, shows)) = c.in_ok-items.ensures.walked in
    let count = c.count_files-files.ensures.count ∙ ap (λ xs. count_by is_file_item xs) c.deref.ensures.value in
    let below = c.count_files-files.ensures.below in
    let same = c.deref.ensures.len in
    let many = as_many disk items entries shows in
    let len = c.len.ensures in
    record {
      entries = entries;
      walk = walk;
      files = count ∙ files_alike disk items entries shows;
      all = omega (arith, below, same, many, len);
      used = c.used_count.ensures ∙ ap (λ (m : BlockStates). used_count m) four.map ∙ used_count-AreUsed c.args.thread.now.kept.map (used_blocks disk pairs) c.requires.accepted.owned_once c.requires.used;
      blocks = c.geometry-geometry.ensures.count ∙ ap block_count four.disk;
      recover = c.has_unfinished_operation.ensures ∙ ap gstate_needs_recovery (c.state-state.ensures ∙ ap pairs_gstate four.pairs);
      superblock = subst (λ (ps : List Pair). IsReportedSuperblock disk.profile ps c.in_ok-superblock.superblock) two.pairs
          (subst (λ (d : Disk). IsReportedSuperblock d.profile c.walk_tree.new.thread.kept.pairs c.in_ok-superblock.superblock) two.disk c.in_ok-superblock.ensures.told);
      inline_max = c.lowered_inline_max.ensures ∙ ap₂ lowered_inline_max (c.geometry-geometry.ensures.profile ∙ ap (λ (d : Disk). d.profile) four.disk) (c.geometry-geometry.ensures.block_size ∙ ap (λ (d : Disk). d.block_size) four.disk);
      breach = subst (λ (ps : List Pair). IsBreachIfAny disk ps c.in_ok-breach.breach) three.pairs
          (subst (λ (d : Disk). IsBreachIfAny d c.superblock_to_report.new.thread.kept.pairs c.in_ok-breach.breach) three.disk c.in_ok-breach.ensures.is);
    }
