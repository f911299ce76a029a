-- What images show, from what computes.
use Rattle.std.proofs.Common.{ℕ, ◌≡◌, Bool, true, false, List, [], ◌∷◌, Option, Some, refl, sym, ap, ◌∙◌, option_map, cond, map}
use Rattle.std.specs.Prelude.{find}
use Rattle.lfs_model.proofs.Common.{Disk, default_profile, Slot, File, Directory, Inline, Ctz, Branch, Tail, Gstate, Pair, pairs_gstate, root_address, Path, Node, root_slot, struct_node, HasDiskView, disk_view, all_entries, disk_list_bytes, disk_tree, used_blocks, same_path, superblock_slot, tree_of_nodes}
use Rattle.lfs_model.specs.examples.Images.{nodes_view}
use Rattle.lfs_model.proofs.Outlines.{Outline, found_in, outlined}
use Rattle.lfs_model.proofs.Acceptance.{IsImage, image_is_accepted, image_is_outlined, outline_in}

-- the nodes of the outline
abbrev pub nodes_in : Disk → List Pair → ℕ → List (Path × Node)
nodes_in disk ps k = map (λ f. (f.0, struct_node (disk_list_bytes disk) (all_entries ps) f.1.attributes f.1.struct)) (outline_in k ps)

found_nodes : (node : Slot → Node) (xs : Outline) (path : Path) → tree_of_nodes (map (λ (f : Path × Slot). (f.0, node f.1)) xs) path ≡ option_map node (found_in path xs)
found_nodes node [] path = refl
found_nodes node (x ∷ xs) path = go (same_path path x.0) (found_nodes node xs path)
  where
    go : (b : Bool) → tree_of_nodes (map (λ (f : Path × Slot). (f.0, node f.1)) xs) path ≡ option_map node (found_in path xs) →
        option_map (λ (n : Path × Node). n.1) (cond b (Some (x.0, node x.1)) (find (λ (n : Path × Node). same_path path n.0) (map (λ (f : Path × Slot). (f.0, node f.1)) xs))) ≡ option_map node (option_map (λ (f : Path × Slot). f.1) (cond b (Some x) (find (λ (f : Path × Slot). same_path path f.0) xs)))
    go true ih = refl
    go false ih = ih

pub image_shows : (disk : Disk) (ps : List Pair) (bytes : List ℕ) (k : ℕ) → IsImage disk ps bytes k →
    (nodes : List (Path × Node)) (gstate : Gstate) (used : List ℕ) → nodes_in disk ps k ≡ nodes → pairs_gstate ps ≡ gstate → used_blocks disk ps ≡ used → HasDiskView disk (nodes_view nodes gstate used)
image_shows disk ps bytes k h nodes gstate used nodes_are gstate_is used_are =
    let tree : disk_tree disk ps ≡ tree_of_nodes nodes = (λ i path. tree_at path i) ∙ ap tree_of_nodes nodes_are in
    let view : disk_view disk ps ≡ nodes_view nodes gstate used = λ i. record { tree = tree i; gstate = gstate_is i; used = used_are i } in
    (ps, (image_is_accepted disk ps bytes k h, sym view))
  where
    tree_at : (path : Path) → disk_tree disk ps path ≡ tree_of_nodes (nodes_in disk ps k) path
    tree_at path =
        ap (option_map (λ s. struct_node (disk_list_bytes disk) (all_entries ps) s.attributes s.struct)) (sym (outlined k (all_entries ps) (root_slot (root_address ps)) (image_is_outlined disk ps bytes k h) path))
        ∙ sym (found_nodes (λ s. struct_node (disk_list_bytes disk) (all_entries ps) s.attributes s.struct) (outline_in k ps) path)

-- ---- pairs, written out

abbrev pub pair : ℕ × ℕ → List Slot → Option Tail → Gstate → Pair
pair at slots tail move = record { at = at; content = record { slots = slots; tail = tail; move = move } }

abbrev pub soft : ℕ × ℕ → Option Tail
soft to = Some (record { hard = false; to = to })

abbrev pub hard : ℕ × ℕ → Option Tail
hard to = Some (record { hard = true; to = to })

abbrev pub file : List ℕ → List ℕ → Slot
file name bytes = record { kind = File; name = name; struct = Inline bytes; attributes = [] }

abbrev pub long_file : List ℕ → ℕ → ℕ → Slot
long_file name head size = record { kind = File; name = name; struct = Ctz head size; attributes = [] }

abbrev pub folder : List ℕ → ℕ × ℕ → Slot
folder name to = record { kind = Directory; name = name; struct = Branch to; attributes = [] }

abbrev pub large_superblock : Slot
large_superblock = superblock_slot default_profile 4096 16
