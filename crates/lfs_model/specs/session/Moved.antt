-- Pairs that move because they are worn. After an operation at most one does, and none does if the
-- profile has no `pair_cycles`.
use Rattle.std.specs.Prelude.{ℕ, ◌≡◌, ◌≤◌, ◌*◌, ◌%◌, ◌==◌, ◌&&◌, ◌⊎◌, not, Bool, true, false, List, [], ◌∷◌, ◌++◌, length, take, Option, Some, None, All, Any, Contains}
use Rattle.lfs_model.specs.format.Blocks.{Blocks}
use Rattle.lfs_model.specs.format.Disk.{Disk, SameGeometry, block_count}
use Rattle.lfs_model.specs.format.Log.{block_revision}
use Rattle.lfs_model.specs.format.Slots.{Slot, zero_gstate}
use Rattle.lfs_model.specs.format.Content.{current_block}
use Rattle.lfs_model.specs.format.Thread.{Pair, address_blocks, has_slots, is_hard_tail, count_before_root}
use Rattle.lfs_model.specs.tree.Shown.{used_blocks}
use Rattle.lfs_model.specs.tree.View.{IsAccepted}
use Rattle.lfs_model.specs.session.History.{CallEvent}
use Rattle.lfs_model.specs.session.Operations.{Operation}
use Rattle.lfs_model.specs.session.Session.{Session}
use Rattle.lfs_model.specs.session.Layout.{IsLayoutAfterRecovery}

-- ---- which pairs are worn

-- Whether `cycles` isn't 0, and the revision count of the block is a multiple of it.
abbrev pub is_worn_block : ℕ → Option (List ℕ) → Bool
is_worn_block cycles None = false
is_worn_block cycles (Some block) = not (cycles == 0) && block_revision block % cycles == 0

-- Whether the active block of the pair is worn.
abbrev pub is_worn : Disk → Pair → Bool
is_worn disk p = is_worn_block disk.profile.pair_cycles (current_block disk p.at)

-- ---- how a pair moves

-- No pair and no file uses a block of the pair at the address.
abbrev pub AreUnused : Disk → List Pair → ℕ × ℕ → Type 0
AreUnused disk ps at = All (λ b. Contains (used_blocks disk ps) b → ⊥) (address_blocks at)

-- At least an eighth of the blocks is free.
abbrev pub EighthFree : Disk → List Pair → Type 0
EighthFree disk ps = 8 * length (used_blocks disk ps) ≤ 7 * block_count disk

-- The pair with these slots, and with a hard tail to the address.
abbrev pub pair_joined_to : ℕ × ℕ → List Slot → Pair → Pair
pair_joined_to to slots p = record p { content = record p.content { slots = slots; tail = Some (record { hard = true; to = to }) } }

-- The pair at another address, with a zero delta of the global state.
abbrev pub pair_behind : ℕ × ℕ → Pair → Pair
pair_behind to p = record { at = to; content = record p.content { move = zero_gstate } }

-- A pair that a hard tail points to moves whole: its slots, its tail and its delta of the global
-- state. The tail before it points to its new address. Its old blocks are free.
pub record IsPairRelocated (disk : Disk) (ps qs : List Pair) : Type 0 where
  pub front : List Pair
  pub before : Pair
  pub worn : Pair
  pub back : List Pair
  pub to : ℕ × ℕ
  pub was : ps ≡ front ++ before ∷ worn ∷ back
  pub joined : is_hard_tail before.content.tail ≡ true
  pub is : qs ≡ front ++ pair_joined_to to before.content.slots before ∷ record worn { at = to } ∷ back
  pub unused : AreUnused disk ps to
  pub due : is_worn disk worn ≡ true

-- The first pair of a directory other than the root keeps none of its slots. They move to a new
-- pair, linked by a hard tail.
pub record IsFirstPairEmptied (disk : Disk) (ps : List Pair) (new : Disk) (qs : List Pair) : Type 0 where
  pub front : List Pair
  pub before : Pair
  pub worn : Pair
  pub back : List Pair
  pub to : ℕ × ℕ
  pub was : ps ≡ front ++ before ∷ worn ∷ back
  pub first : is_hard_tail before.content.tail ≡ false
  pub some : has_slots worn.content.slots ≡ true
  pub is : qs ≡ front ++ before ∷ pair_joined_to to [] worn ∷ pair_behind to worn ∷ back
  pub unused : AreUnused disk ps to
  pub room : EighthFree new qs
  pub due : is_worn disk worn ≡ true

-- The thread's first pair, which is also the first of the root directory, keeps only its
-- superblock. The root directory then begins at a new pair, linked by a hard tail, with all slots,
-- including a superblock.
pub record IsSuperblockExpanded (disk : Disk) (ps : List Pair) (new : Disk) (qs : List Pair) : Type 0 where
  pub worn : Pair
  pub back : List Pair
  pub to : ℕ × ℕ
  pub was : ps ≡ worn ∷ back
  pub root : count_before_root ps ≡ 0
  pub is : qs ≡ pair_joined_to to (take 1 worn.content.slots) worn ∷ pair_behind to worn ∷ back
  pub unused : AreUnused disk ps to
  pub room : EighthFree new qs
  pub due : is_worn disk worn ≡ true

-- One worn pair moves, or its slots move to a new pair.
abbrev pub IsOnePairRelocated : Disk → List Pair → Disk → List Pair → Type 0
IsOnePairRelocated disk ps new qs = IsPairRelocated disk ps qs ⊎ (IsFirstPairEmptied disk ps new qs ⊎ IsSuperblockExpanded disk ps new qs)

-- Nothing changes, or one worn pair or its slots move.
abbrev pub IsWearLeveled : Disk → List Pair → Disk → List Pair → Type 0
IsWearLeveled disk ps new qs = ((new ≡ disk) × (qs ≡ ps)) ⊎ IsOnePairRelocated disk ps new qs

-- ---- after an operation

-- The device held `blocks` before these calls, after them, or after one of them.
abbrev pub HadBlocks : Disk → List CallEvent → Disk → Blocks → Type 0
HadBlocks disk calls new blocks = (blocks ≡ disk.blocks) ⊎ ((blocks ≡ new.blocks) ⊎ Any (λ e. e.after ≡ blocks) calls)

-- The calls of the operation at some point leave an accepted disk `done`, on which the operation is
-- complete and its slots are laid out. After that, at most one worn pair or its slots move.
pub record IsLayoutAfterRelocation (disk : Disk) (ps : List Pair) (s : Session) (op : Operation) (calls : List CallEvent) (new : Disk) (qs : List Pair) : Type 0 where
  pub done : Disk
  pub after : List Pair
  pub had : HadBlocks disk calls new done.blocks
  pub geometry : SameGeometry disk done
  pub accepted : IsAccepted done after
  pub operation : IsLayoutAfterRecovery disk ps s op done after
  pub spread : IsWearLeveled done after new qs
