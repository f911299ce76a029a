use Rattle.std.proofs.Common.{◌∙◌, sym}
use Rattle.lfs_mount.proofs.accepted_images.mount_image.Goals as goal

pub returns-in-Err-clause-corrupt : goal.returns-in-Err-clause-corrupt
returns-in-Err-clause-corrupt g c = λ is. c.in-Err.ensures.corrupt (sym c.into.ensures ∙ is)
