-- The effects of an operation's commits on an image, one by one and together.
use Rattle.std.specs.Prelude.{ℕ, ◌≡◌, ◌⊎◌, ◌+◌, Bool, true, cond, not, nat_eq, List, [], ◌∷◌, ◌++◌, map, Option, Some, None}
use Rattle.std.specs.List.{AllByRecursion, flat_map}
use Rattle.lfs_model.specs.format.Disk.{Disk, disk_block}
use Rattle.lfs_model.specs.format.Slots.{Slot, Struct, Attributes, Gstate, zero_gstate, no_move_kind}
use Rattle.lfs_model.specs.format.Thread.{Pair, ThreadDirectory, is_hard_tail, root_address}
use Rattle.lfs_model.specs.tree.Tree.{Path, Tree, FileNode, struct_directory_address, address_at_path}
use Rattle.lfs_model.specs.session.TreeEdits.{tree_with_subtree}
use Rattle.lfs_model.specs.tree.Shown.{all_entries, struct_blocks, disk_tree}
use Rattle.lfs_model.specs.tree.View.{IsAccepted}
use Rattle.lfs_model.specs.tree.Profile.{IsWritable}
use Rattle.lfs_model.specs.session.Operations.{Operation}
use Rattle.lfs_model.specs.session.Session.{Session, DiskSummary}
use Rattle.lfs_model.specs.session.Effects.{operation_effect}
use Rattle.lfs_model.specs.session.Recovery.{IsRecovered}
use Rattle.lfs_model.specs.session.SlotEdits.{slot_of_path}
use Rattle.lfs_model.specs.session.Layout.{IsLayoutAfterOperation}
use Rattle.lfs_model.specs.layers.Keeping.{KeepsOtherStructs}

-- ---- lists

-- The number of times that `b` is in a list.
abbrev pub occurrence_count : ℕ → List ℕ → ℕ
occurrence_count b [] = 0
occurrence_count b (x ∷ xs) = cond (nat_eq b x) 1 0 + occurrence_count b xs

-- At least one of the elements has the property `P`.
abbrev pub HoldsForSome : {X : Type 0} → (X → Type 0) → List X → Type 0
HoldsForSome P [] = ⊥
HoldsForSome P (x ∷ xs) = P x ⊎ HoldsForSome P xs

-- ---- pairs and files

-- True if the last of the pairs has a hard tail. If there are no pairs, it is `b`.
abbrev pub last_tail_is_hard : Bool → List Pair → Bool
last_tail_is_hard b [] = b
last_tail_is_hard b (p ∷ ps) = last_tail_is_hard (is_hard_tail p.content.tail) ps

-- Both lists have pairs with the same addresses and the same slots, in the same order.
abbrev pub SameSlots : List Pair → List Pair → Type 0
SameSlots [] [] = Unit {0}
SameSlots [] (q ∷ qs) = ⊥
SameSlots (p ∷ ps) [] = ⊥
SameSlots (p ∷ ps) (q ∷ qs) = (q.at ≡ p.at) × (q.content.slots ≡ p.content.slots) × SameSlots ps qs

-- The addresses of the directories.
abbrev pub directory_addresses : List ThreadDirectory → List (ℕ × ℕ)
directory_addresses ds = map (λ d. d.at) ds

-- The blocks in the CTZ skip-lists of the slots.
abbrev pub file_blocks : Disk → List Slot → List ℕ
file_blocks disk slots = flat_map (λ s. struct_blocks disk s.struct) slots

-- The blocks in the CTZ skip-list of the struct have the same bytes on both disks.
abbrev pub SameFileBlocks : Disk → Disk → Struct → Type 0
SameFileBlocks disk new s = AllByRecursion (λ b. disk_block new b ≡ disk_block disk b) (struct_blocks disk s)

-- ---- the global state

pub record HasNoMove (g : Gstate) : Type 0 where
  pub kind : g.kind ≡ no_move_kind
  pub id : g.id ≡ 0
  pub pair : g.pair ≡ (0, 0)

-- The delta that inverts the sync bit and nothing else.
abbrev pub sync_bit_delta : Gstate
sync_bit_delta = record zero_gstate { sync = true }

abbrev pub with_sync_inverted : Gstate → Gstate
with_sync_inverted g = record g { sync = not g.sync }

-- ---- changes of a tree

-- The address of the directory at each path, if there is one.
abbrev pub PathAddresses : Type 0
PathAddresses = Path → Option (ℕ × ℕ)

-- The addresses of `d` after the entry at `old` is moved to `new`, with all entries beneath it.
abbrev pub renamed_addresses : Path → Path → PathAddresses → PathAddresses
renamed_addresses old new d = tree_with_subtree new (λ t. d (old ++ t)) (tree_with_subtree old (λ t. None) d)

-- In every tree with a file at `q`, the file is still there after `change`, with the same bytes.
abbrev pub KeepsFileBytes : (Tree → Tree) → Path → Type 0
KeepsFileBytes change q = (t : Tree) (attributes : Attributes) (bytes : List ℕ) → t q ≡ Some (FileNode attributes bytes) →
    (others : Attributes) × (change t q ≡ Some (FileNode others bytes))

-- If there was a slot of a file, there still is one, with the same struct.
abbrev pub KeepsStruct : Option Slot → Option Slot → Type 0
KeepsStruct was now = (u : Slot) → was ≡ Some u → struct_directory_address u.struct ≡ None → (v : Slot) × ((now ≡ Some v) × (v.struct ≡ u.struct))

-- The new image, with the thread `qs`, is accepted. Its tree is that of the old image after
-- `change`, and the addresses of its directories are the old ones after `walk`.
pub record IsChangedImage (disk : Disk) (ps : List Pair) (new : Disk) (qs : List Pair) (change : Tree → Tree) (walk : PathAddresses → PathAddresses) : Type 0 where
  pub accepted : IsAccepted new qs
  pub root : root_address qs ≡ root_address ps
  pub shows : disk_tree new qs ≡ change (disk_tree disk ps)
  pub leads : address_at_path (all_entries qs) (root_address qs) ≡ walk (address_at_path (all_entries ps) (root_address ps))
  -- A file whose bytes `change` keeps has the same struct as before.
  pub stays : (q : Path) → KeepsFileBytes change q → KeepsStruct (slot_of_path ps q) (slot_of_path qs q)

-- ---- the result of an operation

-- The new image, with the thread `qs`, is the old one after `change` and `walk`, and it is in the
-- writing profile.
pub record IsWritableChange (disk : Disk) (ps : List Pair) (new : Disk) (qs : List Pair) (change : Tree → Tree) (walk : PathAddresses → PathAddresses) : Type 0 where
  pub follows : IsChangedImage disk ps new qs change walk
  pub writable : IsWritable new qs

-- The new image, with the thread `qs`, is accepted, in the writing profile, and has nothing to
-- recover. Its tree is that of the session after `op`, and its slots are in the pairs to which `op`
-- assigns them. Files that `op` isn't about keep their structs.
pub record CompletesOperation (disk : Disk) (ps : List Pair) (s : Session) (op : Operation) (new : Disk) (qs : List Pair) : Type 0 where
  pub accepted : IsAccepted new qs
  pub writable : IsWritable new qs
  pub recovered : IsRecovered qs
  pub tree : (around : DiskSummary) → disk_tree new qs ≡ (operation_effect around s op).1.tree
  pub laid_out : IsLayoutAfterOperation disk ps s op new qs
  pub structs : KeepsOtherStructs disk ps s op qs
