-- The slot at a position, and the contents of a file's slot.
use Rattle.std.specs.Prelude.{◌≡◌, ◌<◌, Option, length, slice_get, Some, None}
use Rattle.lfs_model.specs.format.Slots.{Slot}
use Rattle.lfs_model.specs.tree.View.{IsWellFormedList}
use Rattle.lfs_thread.specs.Kept.{KeptThread}
use Rattle.lfs_thread.specs.ThreadSteps.{thread_pair}
use Rattle.lfs_lookup.specs.Entry.{IsStorageOfStruct}
use Rattle.lfs_lookup.specs.declared.entry.FileStorage.{FileStorage}
use Rattle.lfs_lookup.specs.declared.paths.VisiblePathLookup.{VisiblePathLookup}
use Rattle.lfs_lookup.specs.declared.paths.VisiblePathLookup.TheVariants.{File}
use Rattle.lfs_lookup.specs.declared.search.SlotPosition.{SlotPosition}

abbrev pub IsSpotSlot : KeptThread → SlotPosition → Slot → Type 0
IsSpotSlot t spot slot = slice_get (thread_pair t spot.pair).content.slots spot.id ≡ Some slot

-- the slot at `spot` is a file's with these contents, whose list is well formed
pub record IsFileAt (t : KeptThread) (spot : SlotPosition) (contents : FileStorage) (slot : Slot) : Type 0 where
  pub below : spot.pair < length t.pairs
  pub there : IsSpotSlot t spot slot
  pub shows : IsStorageOfStruct contents slot.struct
  pub list : IsWellFormedList t.disk slot.struct

-- the slot of the file that was found, and where its bytes are stored
abbrev pub file_slot_and_storage : VisiblePathLookup → Option (SlotPosition × FileStorage)
file_slot_and_storage (File slot contents) = Some (slot, contents)
file_slot_and_storage _ = None
