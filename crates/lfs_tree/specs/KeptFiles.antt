-- What an operation leaves of a file that it neither removes nor moves.
use Rattle.std.specs.Prelude.{ℕ, ◌≡◌, true, false, List, [], Option, Some, None, All, Contains}
use Rattle.lfs_model.specs.session.TreeEdits.{is_file, same_path}
use Rattle.lfs_model.specs.format.Disk.{Disk, disk_block}
use Rattle.lfs_model.specs.layers.Keeping.{struct_at}
use Rattle.lfs_model.specs.session.Operations as ops
use Rattle.lfs_model.specs.session.Operations.{Operation}
use Rattle.lfs_model.specs.session.SlotEdits.{slot_of_path}
use Rattle.lfs_model.specs.format.Slots.{Slot}
use Rattle.lfs_model.specs.format.Thread.{Pair}
use Rattle.lfs_model.specs.tree.Tree.{Path, Tree}
use Rattle.lfs_model.specs.tree.Shown.{all_unmoved_slots, struct_blocks, disk_tree}
use Rattle.lfs_thread.specs.Kept.{KeptThread}

-- how many blocks an operation may allocate: two for a pair that is split, and two for a new directory's own pair
abbrev pub max_allocated_blocks : Operation → ℕ
max_allocated_blocks (ops.Mkdir path) = 4
max_allocated_blocks (ops.Open path flags) = 2
max_allocated_blocks (ops.Rename from to) = 2
max_allocated_blocks (ops.SetAttr path kind bytes) = 2
max_allocated_blocks _ = 0

-- the blocks of the list that a slot names
abbrev pub slot_blocks : Disk → Option Slot → List ℕ
slot_blocks disk None = []
slot_blocks disk (Some s) = struct_blocks disk s.struct

-- the blocks of the list of the file at a path
abbrev pub list_blocks_at : KeptThread → Path → List ℕ
list_blocks_at t path = slot_blocks t.disk (slot_of_path t.pairs path)

-- the path still has a file with the same struct, and its list has the same blocks, with the same bytes
pub record KeepsFileAt (old new : KeptThread) (path : Path) : Type 0 where
  pub file : is_file (disk_tree new.disk new.pairs path) ≡ true
  pub struct : struct_at new.pairs path ≡ struct_at old.pairs path
  pub list : list_blocks_at new path ≡ list_blocks_at old path
  pub bytes : (b : ℕ) → Contains (list_blocks_at old path) b → disk_block new.disk b ≡ disk_block old.disk b

-- every block of a file's list keeps its bytes
abbrev pub KeepsListBytes : Disk → List Pair → Disk → Type 0
KeepsListBytes disk ps new = All (λ t. All (λ b. disk_block new b ≡ disk_block disk b) (struct_blocks disk t.struct)) (all_unmoved_slots ps)

-- the tree's files, except the one at the path, have the same structs as before
abbrev pub KeepsOtherFiles : Tree → List Pair → Path → List Pair → Type 0
KeepsOtherFiles tree ps path new = (q : Path) → is_file (tree q) ≡ true → same_path path q ≡ false → struct_at new q ≡ struct_at ps q
