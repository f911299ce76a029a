-- The contents of a file, as they were found.
use Rattle.std.proofs.Common.{ℕ, ◌≡◌, ◌≤◌, List, Option, Some, None, length, refl, subst, sym}
use Rattle.lfs_tree.proofs.Common.{option_map, recursion_from_All, same_Some, Disk, HasBlockSizes, slot_of_path, Attributes, Slot, all_unmoved_slots, all_entries, disk_list_bytes, disk_tree, Pair, Path, struct_node, file_bytes, IsAccepted, IsWellFormedList, IsStorageAt, contents_struct}
use Rattle.lfs_model.proofs.ListSizes.{length-list_bytes}
use Rattle.lfs_lookup.specs.declared.file_contents.FileContents.{FileContents}
use Rattle.lfs_lookup.specs.declared.file_contents.FileContents.TheVariants as contents
use Rattle.lfs_tree.proofs.SlotsHave.{slot_has}

-- its list is well formed
pub list_read : (disk : Disk) (ps : List Pair) (path : Path) (contents : FileContents) → IsAccepted disk ps → IsStorageAt ps path contents → IsWellFormedList disk (contents_struct contents)
list_read disk ps path contents ok h = go (slot_of_path ps path) refl h.struct
  where
    go : (o : Option Slot) → slot_of_path ps path ≡ o → option_map (λ (u : Slot). u.struct) o ≡ Some (contents_struct contents) → IsWellFormedList disk (contents_struct contents)
    go None at e = absurd (cc)
    go (Some u) at e =
        subst (IsWellFormedList disk) (same_Some u.struct (contents_struct contents) e)
        (slot_has (λ (s : Slot). IsWellFormedList disk s.struct) disk ps ok (recursion_from_All (λ (s : Slot). IsWellFormedList disk s.struct) (all_unmoved_slots ps) ok.lists) tt path u at)

-- how many bytes these contents have
abbrev pub size_of_file_contents : FileContents → ℕ
size_of_file_contents (contents.Inline bytes) = length bytes.items
size_of_file_contents (contents.List head size) = size

-- the file has as many bytes
pub contents_sized : (disk : Disk) (ps : List Pair) (path : Path) (c : FileContents) (count : ℕ) → IsAccepted disk ps → (1024 ≤ disk.block_size) × HasBlockSizes disk.block_size count disk.blocks → IsStorageAt ps path c
    → size_of_file_contents c ≡ length (file_bytes (disk_tree disk ps path))
contents_sized disk ps path c count ok shape h = go (slot_of_path ps path) h.struct
  where
    kind : (attributes : Attributes) (d : FileContents) → IsWellFormedList disk (contents_struct d) → size_of_file_contents d ≡ length (file_bytes (Some (struct_node (disk_list_bytes disk) (all_entries ps) attributes (contents_struct d))))
    kind attributes (contents.Inline bytes) list = refl
    kind attributes (contents.List head size) list = sym (length-list_bytes disk.blocks disk.block_size count head size shape.0 shape.1 list)

    go : (o : Option Slot) → option_map (λ (u : Slot). u.struct) o ≡ Some (contents_struct c)
        → size_of_file_contents c ≡ length (file_bytes (option_map (λ (u : Slot). struct_node (disk_list_bytes disk) (all_entries ps) u.attributes u.struct) o))
    go None e = absurd (cc)
    go (Some u) e =
        subst (λ s. size_of_file_contents c ≡ length (file_bytes (Some (struct_node (disk_list_bytes disk) (all_entries ps) u.attributes s)))) (sym (same_Some u.struct (contents_struct c) e)) (kind u.attributes c (list_read disk ps path c ok h))
