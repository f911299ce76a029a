use Rattle.std.proofs.Common.{◌≡◌, ◌≤◌, ◌+◌, false, length, map, take, None}
use Rattle.std.specs.Prelude.{sum_by}
use Rattle.lfs_lookup.proofs.Common.{ancestor_paths, fault_count, read_count, OnlyReadsThread, EachDirectoryPairHasSlot, directory_halving_count}
use Rattle.lfs_lookup.proofs.LoadedDown.{HasSearched}
use Rattle.lfs_lookup.proofs.Descended.{HasDescended}
use Rattle.lfs_lookup.proofs.paths.find_directory.Given as goal

abbrev pub invariant-loop-name : goal.invariant-loop-name
invariant-loop-name g l = record {
  only : OnlyReadsThread l.fn.thread.kept l.thread.kept;
  no_fault : fault_count l.thread.kept.history ≡ fault_count l.fn.thread.kept.history;
  works : l.thread.failed ≡ false;
  searched : HasSearched (map (λ name. name.now) l.fn.path) l.name-index l.fn.thread l.thread;
  end : l.name-index-end ≡ length l.fn.path;
  within : l.name-index ≤ l.name-index-end;
  halves : l.fn.moved ≡ None → EachDirectoryPairHasSlot l.fn.thread.kept.pairs (ancestor_paths (map (λ name. name.now) l.fn.path))
      → read_count l.thread.kept.history ≤ read_count l.fn.thread.kept.history + sum_by (directory_halving_count l.fn.thread.kept.pairs) (ancestor_paths (take l.name-index (map (λ name. name.now) l.fn.path)));
  descended : HasDescended l.fn.thread.kept l.thread.kept (map (λ name. name.now) l.fn.path) l.name-index l.first;
}
