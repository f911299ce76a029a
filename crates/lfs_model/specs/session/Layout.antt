-- Where the slots are after an operation: in the pairs where they were. A pair is split only if its
-- slots don't fit, and dropped if and only if it has to be.
use Rattle.std.specs.Prelude.{ℕ, zero, suc, ◌≡◌, ◌≢◌, ◌⊎◌, Bool, true, false, if◌then◌else◌, List, [], ◌∷◌, ◌++◌, Option, Some, None, is_none, unwrap_or, Any}
use Rattle.std.specs.List.{flat_map}
use Rattle.lfs_model.specs.format.Disk.{Disk}
use Rattle.lfs_model.specs.format.Slots.{Slot, same_pair, FitsInPair}
use Rattle.lfs_model.specs.format.Thread.{Pair, is_hard_tail, count_before_root}
use Rattle.lfs_model.specs.tree.Tree.{struct_directory_address}
use Rattle.lfs_model.specs.tree.Shown.{IsReachedDirectory}
use Rattle.lfs_model.specs.tree.View.{IsAccepted}
use Rattle.lfs_model.specs.session.Recovery.{IsRecovered}
use Rattle.lfs_model.specs.session.TreeEdits.{same_path}
use Rattle.lfs_model.specs.session.Operations as ops
use Rattle.lfs_model.specs.session.Operations.{Operation}
use Rattle.lfs_model.specs.session.Session.{Session}
use Rattle.lfs_model.specs.session.Refusals.{path_or_root}
use Rattle.lfs_model.specs.session.SlotEdits.{slot_of_path, pairs_without_moved, EditsSlots}
use Rattle.lfs_model.specs.session.InDirectory.{all_slots}

-- ---- which directories go

-- The address of the directory of a slot, if the slot is a directory's.
abbrev pub slot_directory_addresses : Option Slot → List (ℕ × ℕ)
slot_directory_addresses None = []
slot_directory_addresses (Some s) = addresses (struct_directory_address s.struct)
  where
    addresses : Option (ℕ × ℕ) → List (ℕ × ℕ)
    addresses None = []
    addresses (Some at) = at ∷ []

-- The address of a directory that the operation removes, or that a rename replaces.
abbrev pub removed_directory_addresses : List Pair → Operation → List (ℕ × ℕ)
removed_directory_addresses ps (ops.Remove path) = slot_directory_addresses (slot_of_path ps (path_or_root path))
removed_directory_addresses ps (ops.Rename from to) = if same_path (path_or_root from) (path_or_root to) then [] else slot_directory_addresses (slot_of_path ps (path_or_root to))
removed_directory_addresses ps _ = []

-- No path leads to the directory at the address `begin`, or the operation removes it.
abbrev pub IsUnreachedOrRemoved : List Pair → Operation → ℕ × ℕ → Type 0
IsUnreachedOrRemoved ps op begin = (IsReachedDirectory ps begin → ⊥) ⊎ Any (λ at. same_pair begin at ≡ true) (removed_directory_addresses ps op)

-- ---- what each pair becomes

-- The content of the pair is within the limits of a written pair.
abbrev pub IsFittingPair : Disk → Pair → Type 0
IsFittingPair disk p = FitsInPair disk.block_size disk.page p.content

-- A pair with the slots of `d` becomes these pairs. It stays if its slots fit, and is split into
-- itself and a new pair if they don't. It is dropped if it has no slots and isn't the first of its
-- directory, or if its directory is removed.
abbrev pub IsPairSplitOrDropped : Disk → (first : Bool) → Type 0 → Pair → List Pair → Type 0
IsPairSplitOrDropped disk first goes d [] = goes ⊎ ((first ≡ false) × (d.content.slots ≡ []))
IsPairSplitOrDropped disk first goes d (q ∷ []) = (q.at ≡ d.at) × (q.content.slots ≡ d.content.slots) × IsFittingPair disk d × (goes → ⊥) × (first ≡ false → d.content.slots ≢ [])
IsPairSplitOrDropped disk first goes d (q ∷ f ∷ []) =
    (q.at ≡ d.at) × (all_slots (q ∷ f ∷ []) ≡ d.content.slots) × (IsFittingPair disk d → ⊥) × IsFittingPair disk q × IsFittingPair disk f × (goes → ⊥)
IsPairSplitOrDropped disk first goes d (q ∷ f ∷ g ∷ ps) = ⊥

-- The address of the directory of a pair: `from` if the directory began before the pair, otherwise
-- the pair's address.
abbrev pub directory_address : Option (ℕ × ℕ) → Pair → ℕ × ℕ
directory_address from p = unwrap_or from p.at

-- The address of the directory that the next pair continues, or None if the next pair begins a
-- directory.
abbrev pub continued_directory_address : Option (ℕ × ℕ) → Pair → Option (ℕ × ℕ)
continued_directory_address from p = if is_hard_tail p.content.tail then Some (directory_address from p) else None

-- Each of these lists is what one of the pairs becomes. The first `n` pairs come before the root
-- directory, and are never dropped.
abbrev pub ArePairsSplitOrDropped : Disk → (ℕ × ℕ → Type 0) → ℕ → Option (ℕ × ℕ) → List Pair → List (List Pair) → Type 0
ArePairsSplitOrDropped disk goes n from [] [] = Unit {0}
ArePairsSplitOrDropped disk goes n from [] (now ∷ rest) = ⊥
ArePairsSplitOrDropped disk goes n from (d ∷ ds) [] = ⊥
ArePairsSplitOrDropped disk goes zero from (d ∷ ds) (now ∷ rest) = IsPairSplitOrDropped disk (is_none from) (goes (directory_address from d)) d now × ArePairsSplitOrDropped disk goes zero (continued_directory_address from d) ds rest
ArePairsSplitOrDropped disk goes (suc n) from (d ∷ ds) (now ∷ rest) = IsPairSplitOrDropped disk true ⊥ d now × ArePairsSplitOrDropped disk goes n None ds rest

-- The pairs `ps` become `qs` by the operation, on the disk `new`.
pub record IsLayoutAfterOperation (disk : Disk) (ps : List Pair) (s : Session) (op : Operation) (new : Disk) (qs : List Pair) : Type 0 where
  -- The pairs with the slots that they are to have, before any split.
  pub drafts : List Pair
  pub parts : List (List Pair)
  -- The pair that is added, and the pairs before and after it.
  pub front : List Pair
  pub fresh : List Pair
  pub back : List Pair
  pub edits : EditsSlots new ps s op fresh (pairs_without_moved ps) drafts
  pub stand : ArePairsSplitOrDropped disk (IsUnreachedOrRemoved ps op) (count_before_root ps) None drafts parts
  pub joined : flat_map (λ part. part) parts ≡ front ++ back
  pub is : qs ≡ front ++ (fresh ++ back)

-- A recovery comes first, and leaves an accepted disk with nothing to recover. It turns the pairs
-- `ps` into `between`, and the operation turns these into `qs`.
pub record IsLayoutAfterRecovery (disk : Disk) (ps : List Pair) (s : Session) (op : Operation) (new : Disk) (qs : List Pair) : Type 0 where
  pub middle : Disk
  pub between : List Pair
  pub accepted : IsAccepted middle between
  pub recovered : IsRecovered between
  pub recovery : IsLayoutAfterOperation disk ps s ops.Recover middle between
  pub operation : IsLayoutAfterOperation disk between s op new qs
