-- An attribute that a look-up finds.
use Rattle.std.specs.Prelude.{ℕ, ◌≡◌, ◌≤◌, ◌<◌, ◌^◌, ◌+◌, List, Option, Some, None, IfSome, IsSome, Vec, [], length}
use Rattle.std.specs.Option.{option_map, option_map_or}
use Rattle.std.specs.declared.alloc.Global.{Global}
use Rattle.lfs_model.specs.format.Content.{attribute_bytes, attributes_with}
use Rattle.lfs_model.specs.format.Slots.{Attributes, Slot, attributes_size}
use Rattle.lfs_thread.specs.Kept.{KeptThread, ThreadView}
use Rattle.lfs_thread.specs.CachedLog.{cached_log}
use Rattle.lfs_lookup.specs.BytesAt.{IsSpotSlot}
use Rattle.lfs_lookup.specs.declared.paths.VisiblePathLookup.{VisiblePathLookup}
use Rattle.lfs_lookup.specs.declared.paths.VisiblePathLookup.TheVariants as shown
use Rattle.lfs_lookup.specs.declared.search.SlotPosition.{SlotPosition}

-- the attribute of that type, or none
abbrev pub IsAttribute : ℕ → Attributes → Option (Vec ℕ Global) → Type 0
IsAttribute kind attributes found = option_map (λ v. v.items) found ≡ attribute_bytes kind attributes

abbrev pub AttributeFitsTag : Option (Vec ℕ Global) → Type 0
AttributeFitsTag found = IfSome found (λ v. length v.items ≤ 1022)

-- the slot of the entry that was found
abbrev pub lookup_slot_position : VisiblePathLookup → Option SlotPosition
lookup_slot_position (shown.File slot contents) = Some slot
lookup_slot_position (shown.Directory slot first) = Some slot
lookup_slot_position _ = None

-- the block of that slot's pair is cached
abbrev pub IsFoundPairCached : ThreadView → VisiblePathLookup → Type 0
IsFoundPairCached t s = IfSome (lookup_slot_position s) (λ slot. IsSome (cached_log t slot.pair))

-- the attributes of the slot, if there is one
abbrev pub AreAttributesAt : KeptThread → Option SlotPosition → Attributes → Type 0
AreAttributesAt t None attributes = attributes ≡ []
AreAttributesAt t (Some spot) attributes = (slot : Slot) × (IsSpotSlot t spot slot × (slot.attributes ≡ attributes))

-- setting an attribute adds its size, and subtracts that of the one it replaces
abbrev pub SettingAttributeChangesSize : Attributes → Type 0
SettingAttributeChangesSize attributes = (kind : ℕ) (bytes : List ℕ) → attributes_size (attributes_with kind bytes attributes) + option_map_or (λ b. 4 + length b) (attribute_bytes kind attributes) 0 ≡ attributes_size attributes + (4 + length bytes)

-- the attributes use `size` bytes of their pair
pub record IsAttributesSize (attributes : Attributes) (size : ℕ) : Type 0 where
  pub is : size ≡ attributes_size attributes
  pub small : size < 2 ^ 32
  pub put : SettingAttributeChangesSize attributes
