-- Which contents a log can define, and which contents a block can hold.
use Rattle.std.specs.Prelude.{ℕ, ◌≡◌, ◌+◌, ◌/◌, ◌^◌, ◌<◌, ◌≤◌, ◌==◌, ◌&&◌, Bool, true, false, List, [], ◌∷◌, length, slice_index, Option, Some, None, is_some}
use Rattle.lfs_model.specs.format.Tag.{make_tag, tag_data_size, tag_class, removal_length}
use Rattle.lfs_model.specs.format.Log.{LogEntry}
use Rattle.lfs_model.specs.format.Slots.{Attributes, Tail, Gstate, null_address}
use Rattle.lfs_model.specs.format.Content.{RawSlot, RawContent}
use Rattle.lfs_model.specs.format.EntryTypes.{is_known_tag, no_id}

-- The name or struct `part` has a type of the class `class`, and this type allows the length of its
-- bytes.
pub record IsNameOrStruct (class : ℕ) (part : ℕ × List ℕ) : Type 0 where
  pub of_class : part.0 / 2 ^ 8 ≡ class
  pub short : length part.1 < removal_length
  pub in_table : is_known_tag (make_tag part.0 0 (length part.1)) ≡ true

-- There is no name or struct, or it is allowed for the class.
abbrev pub IsNameOrStructIfAny : ℕ → Option (ℕ × List ℕ) → Type 0
IsNameOrStructIfAny class None = Unit {0}
IsNameOrStructIfAny class (Some part) = IsNameOrStruct class part

-- The attributes have strictly ascending types of at least `low`, and each fits in an entry.
abbrev pub AttributesInOrder : ℕ → Attributes → Type 0
AttributesInOrder low [] = Unit {0}
AttributesInOrder low (a ∷ others) = (low ≤ a.0) × (a.0 < 2 ^ 8) × (length a.1 < removal_length) × AttributesInOrder (a.0 + 1) others

-- The slot is one that a log can define.
pub record IsWellFormedSlot (s : RawSlot) : Type 0 where
  pub name : IsNameOrStructIfAny 0 s.name
  pub struct : IsNameOrStructIfAny 2 s.struct
  pub attributes : AttributesInOrder 0 s.attributes

abbrev pub AreWellFormed : List RawSlot → Type 0
AreWellFormed [] = Unit {0}
AreWellFormed (s ∷ slots) = IsWellFormedSlot s × AreWellFormed slots

-- Every slot has a name.
abbrev pub AreNamed : List RawSlot → Type 0
AreNamed [] = Unit {0}
AreNamed (s ∷ slots) = (is_some s.name ≡ true) × AreNamed slots

-- Both addresses fit in 32 bits.
abbrev pub AreU32Addresses : ℕ × ℕ → Type 0
AreU32Addresses pair = (pair.0 < 2 ^ 32) × (pair.1 < 2 ^ 32)

-- True if both addresses are null.
abbrev pub is_null : ℕ × ℕ → Bool
is_null pair = pair.0 == null_address && pair.1 == null_address

-- There is no tail, or its two addresses fit in 32 bits and aren't both null.
abbrev pub IsAllowedTail : Option Tail → Type 0
IsAllowedTail None = Unit {0}
IsAllowedTail (Some t) = AreU32Addresses t.to × (is_null t.to ≡ false)

-- The fields of the move state fit in its entry.
pub record MoveStateFits (g : Gstate) : Type 0 where
  pub kind : g.kind < 2 ^ 11
  pub id : g.id < 2 ^ 10
  pub pair : AreU32Addresses g.pair

-- The content is one that a log can define.
pub record IsWellFormed (c : RawContent) : Type 0 where
  pub slots : AreWellFormed c.slots
  pub tail : IsAllowedTail c.tail
  pub move : MoveStateFits c.move

-- The content is one that a block can hold: a log can define it, every slot has a name, and there
-- are fewer slots than `no_id`.
pub record IsStorable (c : RawContent) : Type 0 where
  pub logged : IsWellFormed c
  pub names : AreNamed c.slots
  pub few : length c.slots < no_id

-- The entry has the number of data bytes that its tag requires. In a tail or a move state, each of
-- them is below 256.
pub record HasTagLength (e : LogEntry) : Type 0 where
  pub size : length e.bytes ≡ tag_data_size e.tag
  pub bytes : 6 ≤ tag_class e.tag → (i : ℕ) → slice_index e.bytes i < 256

abbrev pub HaveTagLengths : List LogEntry → Type 0
HaveTagLengths [] = Unit {0}
HaveTagLengths (e ∷ es) = HasTagLength e × HaveTagLengths es
