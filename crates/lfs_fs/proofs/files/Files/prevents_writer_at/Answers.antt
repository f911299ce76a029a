use Rattle.std.proofs.Common.{◌∙◌, ap, sym}
use Rattle.std.specs.Prelude.{◌||◌}
use Rattle.lfs_fs.proofs.Common.{same_path, has_open_file, path_or_root, files_view}
use Rattle.lfs_fs.proofs.files.Files.prevents_writer_at.Goals as goal

pub returns-else-is_writing : goal.returns-else-is_writing
returns-else-is_writing c t =
    c.is_open_at.ensures t ∙ ap (λ b. b || has_open_file (same_path (path_or_root c.args.path.now)) (files_view t c.args.self.now)) (sym c.if-is_writing.false ∙ c.is_writing.ensures)
