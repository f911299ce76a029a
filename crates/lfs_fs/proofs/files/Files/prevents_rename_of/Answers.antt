use Rattle.std.proofs.Common.{◌∙◌, ap}
use Rattle.lfs_fs.proofs.Common.{list_any, has_open_file, path_or_root, files_view, is_open_where, prevents_rename}
use Rattle.lfs_fs.proofs.OpenFiles.{open_at_is}
use Rattle.lfs_fs.proofs.files.Files.prevents_rename_of.Goals as goal

pub returns : goal.returns
returns c t =
    c.files_prevent_rename.ensures ∙ ap (list_any (is_open_where (prevents_rename (path_or_root c.args.from.now) (path_or_root c.args.to.now)))) c.deref.ensures.value ∙ open_at_is t (prevents_rename (path_or_root c.args.from.now) (path_or_root c.args.to.now)) c.self.inside.entries.items
    ∙ ap (λ fs. has_open_file (prevents_rename (path_or_root c.args.from.now) (path_or_root c.args.to.now)) (files_view t fs)) c.self.view_is
