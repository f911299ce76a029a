use Rattle.std.proofs.Common.{◌∙◌}
use Rattle.lfs_fs.proofs.PathsBeneath.{is_beneath_bytes}
use Rattle.lfs_fs.proofs.rename_checks.at_or_beneath.Goals as goal

pub returns : goal.returns
returns c = c.is_path_prefix.ensures ∙ is_beneath_bytes c.args.bytes.now c.args.other.now c.requires.entry c.requires.given
