use Rattle.std.proofs.Common.{◌∙◌, ap}
use Rattle.lfs_fs.proofs.Common.{list_any, same_path, has_open_file, path_or_root, files_view, is_open_where}
use Rattle.lfs_fs.proofs.OpenFiles.{open_at_is}
use Rattle.lfs_fs.proofs.files.Files.is_open_at.Goals as goal

pub returns : goal.returns
returns c t =
    c.files_have_path.ensures ∙ ap (list_any (is_open_where (same_path (path_or_root c.args.path.now)))) c.deref.ensures.value ∙ open_at_is t (same_path (path_or_root c.args.path.now)) c.self.inside.entries.items
    ∙ ap (λ fs. has_open_file (same_path (path_or_root c.args.path.now)) (files_view t fs)) c.self.view_is
