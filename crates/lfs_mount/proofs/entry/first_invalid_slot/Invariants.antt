use Rattle.std.proofs.Common.{ℕ, ◌≤◌, map}
use Rattle.lfs_mount.proofs.Common.{slot_view, IsNoEntryAt}
use Rattle.lfs_mount.proofs.entry.first_invalid_slot.Given as goal

abbrev pub invariant-loop-index : goal.invariant-loop-index
invariant-loop-index l = (other : ℕ) → IsNoEntryAt (map slot_view l.slots) other → l.index ≤ other
