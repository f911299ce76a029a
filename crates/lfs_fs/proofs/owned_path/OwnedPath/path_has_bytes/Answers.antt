use Rattle.std.proofs.Common.{◌∙◌, ap}
use Rattle.lfs_fs.proofs.Common.{same_path, same_name, path_or_root}
use Rattle.lfs_fs.proofs.SamePaths.{same_bytes}
use Rattle.lfs_fs.proofs.owned_path.OwnedPath.path_has_bytes.Goals as goal

pub returns : goal.returns
returns c =
    c.same_path_bytes.ensures ∙ ap (λ xs. same_name xs c.args.bytes.now) c.as_slice.ensures.value
    ∙ same_bytes c.self.inside.bytes.items c.args.bytes.now c.self.invariant c.requires ∙ ap (same_path (path_or_root c.args.bytes.now)) c.self.view_is
