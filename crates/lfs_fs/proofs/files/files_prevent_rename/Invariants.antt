use Rattle.std.proofs.Common.{◌≡◌, drop}
use Rattle.lfs_fs.proofs.Common.{list_any, path_or_root, is_open_where, prevents_rename}
use Rattle.lfs_fs.proofs.files.files_prevent_rename.Given as goal

abbrev pub invariant-loop-entry : goal.invariant-loop-entry
invariant-loop-entry l = list_any (is_open_where (prevents_rename (path_or_root l.from) (path_or_root l.to))) l.entries ≡ list_any (is_open_where (prevents_rename (path_or_root l.from) (path_or_root l.to))) (drop l.entry-index l.entries)
