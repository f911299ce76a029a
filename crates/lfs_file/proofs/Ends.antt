-- The completion of a draft.
use Rattle.std.proofs.Common.{ℕ, ◌≡◌, ◌≢◌, ◌⊎◌, inl, inr, ⊎_elim, Bool, true, false, if◌then◌else◌, nat_eq, get_or, List, [], take, drop, Some, refl, sym, ap, ◌∙◌, subst, arith}
use Rattle.std.specs.Prelude.{All, Contains}
use Rattle.std.specs.List.{IsDistinct}
use Rattle.lfs_file.proofs.Common.{take-append-drop, All-contains, All-contains_itself, Contains-append_cases, Blocks, SameExceptBlocks, BlockStates, IsFree, IsInFlight, Free, Used, skip_list_block_count, AreListBlocks, IsSkipList, GrowingList, growing_blocks, lasting_blocks, unwritten_block, IsListOrEmpty, blocks_of_list, CanEndOver, IsFinishedList, KeepsUsedBlocks, ReleasesInFlight, ChangesOnlyFree}
use Rattle.std.proofs.lemmas.List.Elements.{All-drop}
use Rattle.lfs_device.specs.declared.geometry.Geometry.{Geometry}
use Rattle.lfs_file.specs.declared.stored_list.StoredList.{StoredList}
use Rattle.lfs_file.proofs.Bases.{blocks_stay, list_stays}
use Rattle.lfs_file.proofs.Hands.{Contains-drop, Contains-take, distinct_parts}
use Rattle.lfs_file.proofs.Spared.{spares_end}
use Rattle.lfs_file.proofs.Takings.{member}

-- the blocks of a base that are taken out of flight
abbrev pub gone_of : Bool → ℕ → List ℕ → List ℕ
gone_of in_flight shared bb = if in_flight then drop shared bb else []

pub none_distinct : IsDistinct nat_eq []
unfolding IsDistinct
none_distinct = tt

pub base_distinct : (d : Blocks) (block_size head size : ℕ) → IsListOrEmpty d block_size head size → IsDistinct nat_eq (blocks_of_list d block_size head size)
base_distinct d block_size head size (inl none) = subst (λ n. IsDistinct nat_eq (blocks_of_list d block_size head n)) (sym none) none_distinct
base_distinct d block_size head size (inr list) = list.blocks.distinct

-- a new list's blocks stay in flight
pub still_apart : (shared : ℕ) (kept bb : List ℕ) (x : ℕ) (in_flight : Bool) → IsDistinct nat_eq bb → take shared kept ≡ take shared bb → All (λ b. All (λ c. c ≢ b) bb) (drop shared kept)
    → Contains kept x → All (λ r. r ≢ x) (gone_of in_flight shared bb)
still_apart shared kept bb x false distinct front behind has = λ k v l. absurd (omega (arith, l))
still_apart shared kept bb x true distinct front behind has = ⊎_elim
    (λ low. distinct_parts shared bb x distinct (subst (λ (l : List ℕ). Contains l x) front low))
    (λ high. All-drop (λ r. r ≢ x) shared bb (All-contains (λ b. All (λ c. c ≢ b) bb) (drop shared kept) x behind high))
    (Contains-append_cases (take shared kept) (drop shared kept) x (subst (λ (l : List ℕ). Contains l x) (sym (take-append-drop shared kept)) has))

-- and no other block does
pub still_flying : (map later : BlockStates) (shared : ℕ) (kept bb : List ℕ) (b : ℕ) (in_flight : Bool) → take shared kept ≡ take shared bb → ReleasesInFlight map later (gone_of in_flight shared bb)
    → (IsInFlight map b → Contains kept b ⊎ ((in_flight ≡ true) × Contains bb b)) → IsInFlight later b → Contains kept b
still_flying map later shared kept bb b in_flight front released was is = ⊎_elim
    (λ has. absurd (All-contains (λ x. ¬ (IsInFlight later x)) (gone_of in_flight shared bb) b released.gone has is))
    (λ apart. ⊎_elim
    (λ has. has)
    (λ both. Contains-take shared kept b (subst (λ (l : List ℕ). Contains l b) (sym front) (Contains-drop shared bb b both.1 (λ has.
    let all : Contains (gone_of in_flight shared bb) b = subst (λ t. Contains (gone_of t shared bb) b) (sym both.0) has in
    absurd (All-contains (λ x. x ≢ b) (gone_of in_flight shared bb) b apart all refl)))))
    (was (sym (released.others b apart) ∙ is)))
    (member (gone_of in_flight shared bb) b)

module _ (map later : BlockStates) (e f : Blocks) (block_size : ℕ) (h : GrowingList) (base : StoredList) (shared head size : ℕ) (hand : CanEndOver map e block_size h base shared) (others : SameExceptBlocks (unwritten_block h) e f)
    (list : IsSkipList f block_size head size) (blocks : blocks_of_list f block_size head size ≡ growing_blocks e h) (released : ReleasesInFlight map later (gone_of base.in_flight shared (blocks_of_list f block_size base.head base.size))) where
  bb : List ℕ
  bb = blocks_of_list e block_size base.head base.size

  stay : blocks_of_list f block_size base.head base.size ≡ blocks_of_list e block_size base.head base.size
  stay = blocks_stay map (unwritten_block h) e f block_size base.head base.size (spares_end map (unwritten_block h) e f others) hand.begun.apart

  out : ReleasesInFlight map later (gone_of base.in_flight shared (blocks_of_list e block_size base.head base.size))
  out = subst (λ (l : List ℕ). ReleasesInFlight map later (gone_of base.in_flight shared l)) stay released

  kept_is : blocks_of_list f block_size head size ≡ lasting_blocks e h
  kept_is = blocks ∙ hand.own

  pub ends : IsFinishedList later f block_size (record { head = head; size = size; in_flight = true })
  ends = record {
    base = inr list;
    count = released.count ∙ hand.begun.marked.count ∙ sym others.count;
    marked = subst (All (λ b. ¬ (IsFree later b))) (sym kept_is) (λ k x l free.
        hand.begun.marked.kept k x l (sym (out.others (get_or (lasting_blocks e h) k x) (still_apart shared (lasting_blocks e h) (blocks_of_list e block_size base.head base.size) (get_or (lasting_blocks e h) k x) base.in_flight
        (base_distinct e block_size base.head base.size hand.begun.list) hand.begun.front hand.begun.behind (All-contains_itself (lasting_blocks e h) k x l))) ∙ free));
    flying = λ b is. (
      refl,
      subst (λ (l : List ℕ). Contains l b) (sym kept_is)
          (still_flying map later shared (lasting_blocks e h) (blocks_of_list e block_size base.head base.size) b base.in_flight hand.begun.front out (hand.begun.flying b) is),
    );
  }

-- under other names of the geometry
pub ends_by : (map later : BlockStates) (e f : Blocks) (geometry now device : Geometry) (h : GrowingList) (base : StoredList) (shared head size : ℕ) → now ≡ geometry → device ≡ geometry → CanEndOver map e geometry.block_size h base shared
    → SameExceptBlocks (unwritten_block h) e f → IsSkipList f now.block_size head size → blocks_of_list f now.block_size head size ≡ growing_blocks e h
    → ReleasesInFlight map later (gone_of base.in_flight shared (blocks_of_list f device.block_size base.head base.size)) → IsFinishedList later f geometry.block_size (record { head = head; size = size; in_flight = true })
ends_by map later e f geometry now device h base shared head size same also hand others list blocks released =
    ends map later e f geometry.block_size h base shared head size hand others
    (subst (λ (k : Geometry). IsSkipList f k.block_size head size) same list)
    (subst (λ (k : Geometry). blocks_of_list f k.block_size head size ≡ growing_blocks e h) same blocks)
    (subst (λ (k : Geometry). ReleasesInFlight map later (gone_of base.in_flight shared (blocks_of_list f k.block_size base.head base.size))) also released)

-- the same blocks are used
pub used_kept : (a b c : BlockStates) (bs : List ℕ) → ChangesOnlyFree a b → ReleasesInFlight b c bs → KeepsUsedBlocks a c
used_kept a b c bs keeps released = record {
  count = released.count ∙ keeps.count;
  used = released.used ∙ keeps.used;
  stays = λ k used. released.stays k (keeps.states k (λ free. let both : Some Free ≡ Some Used = sym free ∙ used in cc) ∙ used);
}

pub used_kept_on : (a b c : BlockStates) → ChangesOnlyFree a b → KeepsUsedBlocks b c → KeepsUsedBlocks a c
used_kept_on a b c keeps later = record {
  count = later.count ∙ keeps.count;
  used = later.used ∙ keeps.used;
  stays = λ k used. later.stays k (keeps.states k (λ free. let both : Some Free ≡ Some Used = sym free ∙ used in cc) ∙ used);
}

pub none_chain : (d : Blocks) (head : ℕ) → AreListBlocks d 0 head
unfolding IsDistinct
none_chain d head = record { in_range = λ k x l. absurd (omega (arith, l)); distinct = tt; pointers = λ i k l less. absurd (omega (arith, l)) }

-- a base's blocks, from the head back
pub base_chain : (d : Blocks) (geometry now : Geometry) (head size n : ℕ) → now ≡ geometry → n ≡ skip_list_block_count now.block_size size → IsListOrEmpty d geometry.block_size head size → AreListBlocks d n head
base_chain d geometry now head size n same is (inl none) = subst (λ k. AreListBlocks d k head) (sym (is ∙ ap (skip_list_block_count now.block_size) none)) (none_chain d head)
base_chain d geometry now head size n same is (inr list) =
    subst (λ k. AreListBlocks d k head) (sym (is ∙ ap (λ (k : Geometry). skip_list_block_count k.block_size size) same)) list.blocks

-- a base stays while the list's last block is written
pub base_end : (map : BlockStates) (e f : Blocks) (geometry device : Geometry) (h : GrowingList) (base : StoredList) (shared : ℕ) → device ≡ geometry → CanEndOver map e geometry.block_size h base shared → SameExceptBlocks (unwritten_block h) e f
    → IsListOrEmpty f device.block_size base.head base.size
base_end map e f geometry device h base shared same hand others =
    subst (λ (k : Geometry). IsListOrEmpty f k.block_size base.head base.size) (sym same)
    (⊎_elim (λ none. inl none) (λ list. inr (list_stays map (unwritten_block h) e f geometry.block_size base.head base.size (spares_end map (unwritten_block h) e f others) hand.begun.apart list)) hand.begun.list)
