use Rattle.std.proofs.Common.{sym, ap, ◌∙◌, length}
use Rattle.lfs_blocks.proofs.SetLemmas.{length-marks_states}
use Rattle.lfs_blocks.proofs.block_map.BlockMap.block_count.Goals as goal

pub returns : goal.returns
returns c = sym (length-marks_states c.self.inside.marks.items c.self.inside.block_count) ∙ ap length c.self.view_is
