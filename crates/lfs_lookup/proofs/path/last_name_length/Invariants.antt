use Rattle.std.proofs.Common.{◌≡◌, ◌≤◌, drop}
use Rattle.lfs_lookup.proofs.Common.{length_after_slash}
use Rattle.lfs_lookup.proofs.path.last_name_length.Given as goal

abbrev pub invariant-loop-byte : goal.invariant-loop-byte
invariant-loop-byte l = (length_after_slash l.len (drop l.byte-index l.fn.bytes) ≡ length_after_slash 0 l.fn.bytes) × (l.len ≤ l.byte-index)
