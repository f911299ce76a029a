use Rattle.std.proofs.Common.{◌≡◌, drop}
use Rattle.lfs_fs.proofs.Common.{list_any, same_path, path_or_root, is_open_where}
use Rattle.lfs_fs.proofs.files.files_have_path.Given as goal

abbrev pub invariant-loop-entry : goal.invariant-loop-entry
invariant-loop-entry l = list_any (is_open_where (same_path (path_or_root l.path))) l.entries ≡ list_any (is_open_where (same_path (path_or_root l.path))) (drop l.entry-index l.entries)
