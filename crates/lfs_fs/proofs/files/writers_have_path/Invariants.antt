use Rattle.std.proofs.Common.{◌≡◌, drop}
use Rattle.lfs_fs.proofs.Common.{list_any, same_path, path_or_root, writers_among}
use Rattle.lfs_fs.proofs.files.writers_have_path.Given as goal

abbrev pub invariant-loop-entry : goal.invariant-loop-entry
invariant-loop-entry l = list_any (λ w. same_path (path_or_root l.path) w.path) (writers_among l.entries) ≡ list_any (λ w. same_path (path_or_root l.path) w.path) (writers_among (drop l.entry-index l.entries))
