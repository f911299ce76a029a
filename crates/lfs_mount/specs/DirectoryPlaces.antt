-- The directories of a thread as a graph, in which each is its index in the list of directories.
use Rattle.std.specs.Prelude.{ℕ, suc, ◌≡◌, ◌↔◌, true, if◌then◌else◌, List, [], ◌∷◌, length, map, All, AllPairs, Option, Some, None, slice_get}
use Rattle.std.specs.List.{filter_map}
use Rattle.std.specs.Option.{option_map}
use Rattle.std.specs.declared.cmp.Ordering.TheVariants.{Less}
use Rattle.lfs_model.specs.declared.order.NameOrder.{NameOrder}
use Rattle.lfs_model.specs.format.Names.{name_cmp}
use Rattle.lfs_model.specs.format.Slots.{Slot, same_pair}
use Rattle.lfs_model.specs.format.Thread.{ThreadDirectory, directory_slots, BeginsDirectory}
use Rattle.lfs_model.specs.tree.Tree.{Path, struct_directory_address, address_at_path, names_at}
use Rattle.lfs_mount.specs.Reaching.{Vertex, DirectoryGraph}

-- the index of the directory that begins at an address
abbrev pub directory_index : List ThreadDirectory → ℕ × ℕ → Option ℕ
directory_index [] at = None
directory_index (d ∷ ds) at = if same_pair d.at at then Some 0 else option_map (λ i. suc i) (directory_index ds at)

-- the addresses of the directories that slots name
abbrev pub slots_subdirectory_addresses : List Slot → List (ℕ × ℕ)
slots_subdirectory_addresses slots = filter_map (λ s. struct_directory_address s.struct) slots

-- The vertex describes the directory with these slots: whether its names are sorted, and whether each of its subdirectories is in
-- the list. If each is, the vertex has their indices.
pub record IsVertexOfSlots (by : NameOrder) (ds : List ThreadDirectory) (slots : List Slot) (v : Vertex) : Type 0 where
  pub rises : (v.rises ≡ true) ↔ AllPairs (λ a b. name_cmp by a b ≡ Less) (map (λ s. s.name) slots)
  pub leads : (v.leads ≡ true) ↔ All (BeginsDirectory ds) (slots_subdirectory_addresses slots)
  pub branches : v.leads ≡ true → map (λ b. Some b) v.branches ≡ map (directory_index ds) (slots_subdirectory_addresses slots)

-- the graph of the directories
pub record IsDirectoryGraph (by : NameOrder) (ds : List ThreadDirectory) (graph : DirectoryGraph) : Type 0 where
  pub len : length graph ≡ length ds
  pub each : (i : ℕ) (d : ThreadDirectory) (v : Vertex) → slice_get ds i ≡ Some d → slice_get graph i ≡ Some v → IsVertexOfSlots by ds d.slots v

-- In each directory that a path leads to, the names are sorted. Each path that leads to a directory leads to one of the list. No
-- two paths lead to the same one.
pub record IsTreeFromRoot (by : NameOrder) (ds : List ThreadDirectory) (root : ℕ × ℕ) : Type 0 where
  pub order : (path : Path) (at : ℕ × ℕ) → address_at_path (directory_slots ds) root path ≡ Some at → AllPairs (λ a b. name_cmp by a b ≡ Less) (names_at (directory_slots ds) at)
  pub branches : (path : Path) (at : ℕ × ℕ) → address_at_path (directory_slots ds) root path ≡ Some at → BeginsDirectory ds at
  pub once : (path other : Path) (at to : ℕ × ℕ) → address_at_path (directory_slots ds) root path ≡ Some at → address_at_path (directory_slots ds) root other ≡ Some to
      → same_pair at to ≡ true → path ≡ other

-- a path leads to the directory with this index
pub record IsPathReached (ds : List ThreadDirectory) (root : ℕ × ℕ) (v : ℕ) : Type 0 where
  pub path : Path
  pub at : ℕ × ℕ
  pub leads : address_at_path (directory_slots ds) root path ≡ Some at
  pub index : directory_index ds at ≡ Some v
