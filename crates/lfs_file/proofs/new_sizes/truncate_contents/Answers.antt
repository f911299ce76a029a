use Rattle.std.proofs.Common.{subst}
use Rattle.lfs_file.specs.Contents.{CanTruncateContents}
use Rattle.lfs_file.specs.declared.contents.WriterContents.{WriterContents}
use Rattle.lfs_file.proofs.new_sizes.truncate_contents.Goals as goal

pub truncate_in_memory-requires : goal.truncate_in_memory-requires
truncate_in_memory-requires g c =
    subst (λ (x : WriterContents). CanTruncateContents c.args.map.now (g.D.BlockDevice.blocks c.args.dev.now) (g.D.BlockDevice.geometry c.args.dev.now) x c.args.size) c.in-InMemory.is c.requires

pub truncate_finished_list-requires : goal.truncate_finished_list-requires
truncate_finished_list-requires g c =
    subst (λ (x : WriterContents). CanTruncateContents c.args.map.now (g.D.BlockDevice.blocks c.args.dev.now) (g.D.BlockDevice.geometry c.args.dev.now) x c.args.size) c.in-Finished.is c.requires

pub truncate_unfinished_list-requires : goal.truncate_unfinished_list-requires
truncate_unfinished_list-requires g c =
    subst (λ (x : WriterContents). CanTruncateContents c.args.map.now (g.D.BlockDevice.blocks c.args.dev.now) (g.D.BlockDevice.geometry c.args.dev.now) x c.args.size) c.in-InHand.is c.requires
