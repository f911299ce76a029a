use Rattle.std.proofs.Common.{◌∙◌}
use Rattle.lfs_fs.proofs.SamePaths.{same_bytes}
use Rattle.lfs_fs.proofs.rename_checks.is_same_path.Goals as goal

pub returns : goal.returns
returns c = c.same_path_bytes.ensures ∙ same_bytes c.args.other.now c.args.bytes.now c.requires.other c.requires.given
