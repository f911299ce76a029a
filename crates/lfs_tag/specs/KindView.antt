-- The code's kinds of slots as the definitions see them.
use Rattle.std.specs.Prelude.{ℕ, Bool, false, List, Option, Some, None}
use Rattle.lfs_model.specs.format.Content.{kind_of_type}
use Rattle.lfs_model.specs.format.Slots.{is_superblock_kind}
use Rattle.lfs_model.specs.format.Slots as slots
use Rattle.lfs_tag.specs.declared.slot_kind.SlotNameKind.{SlotNameKind}
use Rattle.lfs_tag.specs.declared.slot_kind.SlotNameKind.TheVariants as variant

abbrev pub name_kind_view : SlotNameKind → slots.SlotKind
name_kind_view variant.File = slots.File
name_kind_view variant.Directory = slots.Directory
name_kind_view variant.Superblock = slots.Superblock

-- Whether the name is a superblock's.
abbrev pub is_superblock_name : Option (ℕ × List ℕ) → Bool
is_superblock_name None = false
is_superblock_name (Some name) = is_superblock_kind (kind_of_type name.0)
