use Rattle.std.proofs.Common.{◌≡◌, None, map, take}
use Rattle.std.specs.Prelude.{find}
use Rattle.std.specs.Str.{bytes_eq}
use Rattle.lfs_tool.specs.MemorySources.{memory_view}
use Rattle.lfs_tool.proofs.source_memory.MemorySourceSource.read.Given as goal

abbrev pub invariant-loop-held : goal.invariant-loop-held
invariant-loop-held l = find (λ e. bytes_eq e.0 l.file) (map memory_view (take l.held-index l.held-items)) ≡ None
