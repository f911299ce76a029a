-- A slot without its name, and the changes that create it under a name.
use Rattle.std.specs.Prelude.{ℕ, List, [], ◌∷◌, map, unwrap_or, Option}
use Rattle.lfs_model.specs.layers.Changes.{ContentChange, Create, PutAttribute, PutStruct}
use Rattle.lfs_model.specs.format.Content.{RawSlot}
use Rattle.lfs_model.specs.format.Names.{Name}
use Rattle.lfs_model.specs.format.Slots.{Attributes}

-- The type and the bytes of a name or a struct, or 0 and no bytes if there is none.
abbrev pub type_and_bytes : Option (ℕ × List ℕ) → ℕ × List ℕ
type_and_bytes part = unwrap_or part (0, [])

-- A slot without its name. `kind` is the type of the name.
pub record NamelessSlot : Type 0 where
  pub kind : ℕ
  pub struct : ℕ × List ℕ
  pub attributes : Attributes

abbrev pub slot_without_name : RawSlot → NamelessSlot
slot_without_name s = record { kind = (type_and_bytes s.name).0; struct = type_and_bytes s.struct; attributes = s.attributes }

abbrev pub attribute_changes : ℕ → Attributes → List ContentChange
attribute_changes id attributes = map (λ a. PutAttribute id a.0 a.1) attributes

-- The changes that insert the slot `parts` at `id`, with the name `name`.
abbrev pub slot_creation_changes : ℕ → Name → NamelessSlot → List ContentChange
slot_creation_changes id name parts = Create id parts.kind name ∷ PutStruct id parts.struct.0 parts.struct.1 ∷ attribute_changes id parts.attributes
