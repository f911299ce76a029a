-- The files' lists in the code's slots.
use Rattle.std.specs.Prelude.{ℕ, List, map}
use Rattle.lfs_model.specs.format.Content.{RawSlot}
use Rattle.lfs_tag.specs.declared.content.Slot.{Slot}
use Rattle.lfs_tag.specs.ContentView.{slot_view}
use Rattle.lfs_mount.specs.Marking.{list_heads_and_sizes}

abbrev pub raw_slots_view : List Slot → List RawSlot
raw_slots_view slots = map slot_view slots

abbrev pub lists_view : List Slot → List (ℕ × ℕ)
lists_view slots = list_heads_and_sizes (raw_slots_view slots)
