-- A writer's contents stay if only other blocks change.
use Rattle.std.proofs.Common.{ℕ, ◌≡◌, ◌≢◌, ◌<◌, ⊎_elim, inl, inr, List, [], ◌∷◌, ◌++◌, drop, length, take, slice_get, sym, ap, ◌∙◌, subst, arith, length-append}
use Rattle.std.specs.Prelude.{All, Contains}
use Rattle.lfs_tree.proofs.Common.{All-from_recursion, Contains-append_left, Contains-append_right, Blocks, block_bytes, BlockStates, IsFree, IsInFlight, blocks_to_head, skip_list_block_count, Contains-occurrence_count, occurrence_count-Contains, each_from_counted, Each, recursion_from_All, AreKnownBlocks, GrowingList, unwritten_block, growing_size_with, IsTakenNotPending, IsListOrEmpty, blocks_of_list, CanEndOver, IsFinishedList, bytes_over_base}
use Rattle.lfs_model.proofs.Counts.{each_counted}
use Rattle.lfs_model.proofs.Files.{Same, back_same, bytes_same, chain_same, data_same, list_same}
use Rattle.lfs_file.specs.Growing.{IsRestAt, SameListLater, growing_bytes, blocks_data, lasting_blocks, rest_block, unwritten_rest_block}
use Rattle.lfs_file.specs.declared.rest.RestLocation.{RestLocation}
use Rattle.lfs_file.specs.declared.rest.RestLocation.TheVariants.{Closed, Shared, Handed, Held}
use Rattle.lfs_file.specs.Hand.{stored_list_bytes}
use Rattle.lfs_file.specs.declared.stored_list.StoredList.{StoredList}

-- what holds of each member
pub each_of : (P : ℕ → Type 0) (bs : List ℕ) → ((b : ℕ) → Contains bs b → P b) → Each P bs
each_of P bs has = each_from_counted P bs (λ b some. has b (Contains-occurrence_count bs b some))

pub of_each : (P : ℕ → Type 0) (bs : List ℕ) → Each P bs → (b : ℕ) → Contains bs b → P b
of_each P bs each b has = each_counted P bs each b (occurrence_count-Contains bs b has)

pub all_of : (P : ℕ → Type 0) (bs : List ℕ) → ((b : ℕ) → Contains bs b → P b) → All P bs
all_of P bs has = All-from_recursion P bs (each_of P bs has)

pub of_all : (P : ℕ → Type 0) (bs : List ℕ) → All P bs → (b : ℕ) → Contains bs b → P b
of_all P bs all b has = of_each P bs (recursion_from_All P bs all) b has

-- These blocks are as they were, on the disk and in the map, and no further block is in flight.
pub record StayAs (map : BlockStates) (d : Blocks) (bs : List ℕ) (later : BlockStates) (e : Blocks) : Type 0 where
  pub size : length later ≡ length map
  pub count : length e ≡ length d
  pub same : (b : ℕ) → Contains bs b → block_bytes e b ≡ block_bytes d b
  pub states : (b : ℕ) → Contains bs b → slice_get later b ≡ slice_get map b
  pub none_comes : (b : ℕ) → IsInFlight later b → IsInFlight map b

stay_left : (map later : BlockStates) (d e : Blocks) (xs ys : List ℕ) → StayAs map d (xs ++ ys) later e → StayAs map d xs later e
stay_left map later d e xs ys s = record {
  size = s.size;
  count = s.count;
  same = λ b has. s.same b (Contains-append_left xs ys b has);
  states = λ b has. s.states b (Contains-append_left xs ys b has);
  none_comes = s.none_comes;
}

stay_right : (map later : BlockStates) (d e : Blocks) (xs ys : List ℕ) → StayAs map d (xs ++ ys) later e → StayAs map d ys later e
stay_right map later d e xs ys s = record {
  size = s.size;
  count = s.count;
  same = λ b has. s.same b (Contains-append_right xs ys b has);
  states = λ b has. s.states b (Contains-append_right xs ys b has);
  none_comes = s.none_comes;
}

not_free : (map later : BlockStates) (b : ℕ) → slice_get later b ≡ slice_get map b → ¬ (IsFree map b) → ¬ (IsFree later b)
not_free map later b same was free = was (sym same ∙ free)

-- ---- a list

module _ (map later : BlockStates) (d e : Blocks) (block_size : ℕ) (s : StoredList) (stay : StayAs map d (blocks_of_list d block_size s.head s.size) later e) where
  each_same : Same d e (blocks_of_list d block_size s.head s.size)
  each_same = each_of (λ b. block_bytes e b ≡ block_bytes d b) (blocks_of_list d block_size s.head s.size) stay.same

  pub list_stays : blocks_of_list e block_size s.head s.size ≡ blocks_of_list d block_size s.head s.size
  list_stays = back_same d e (skip_list_block_count block_size s.size) s.head each_same

  pub base_stays : IsListOrEmpty d block_size s.head s.size → IsListOrEmpty e block_size s.head s.size
  base_stays base = ⊎_elim (λ none. inl none) (λ list. inr (list_same d e block_size s.head s.size stay.count each_same list)) base

  pub bytes_stay : stored_list_bytes e block_size s ≡ stored_list_bytes d block_size s
  bytes_stay = bytes_same d e block_size s.head s.size each_same

  pub stored_stays : IsFinishedList map d block_size s → IsFinishedList later e block_size s
  stored_stays is = record {
    base = base_stays is.base;
    count = stay.size ∙ is.count ∙ sym stay.count;
    marked = subst (All (λ b. ¬ (IsFree later b))) (sym list_stays)
        (all_of (λ b. ¬ (IsFree later b)) (blocks_of_list d block_size s.head s.size) (λ b has. not_free map later b (stay.states b has) (of_all (λ x. ¬ (IsFree map x)) (blocks_of_list d block_size s.head s.size) is.marked b has)));
    flying = λ b flies. let k = is.flying b (stay.none_comes b flies) in (k.0, subst (λ (bs : List ℕ). Contains bs b) (sym list_stays) k.1);
  }

-- ---- a draft, over its stored list

module _ (map later : BlockStates) (d e : Blocks) (block_size : ℕ) (g : GrowingList) (base : StoredList) (shared : ℕ) (hand : CanEndOver map d block_size g base shared)
    (stay : StayAs map d (lasting_blocks d g ++ blocks_of_list d block_size base.head base.size) later e) where
  abbrev own : List ℕ
  own = lasting_blocks d g

  abbrev bb : List ℕ
  bb = blocks_of_list d block_size base.head base.size

  stay_own : StayAs map d (lasting_blocks d g) later e
  stay_own = stay_left map later d e (lasting_blocks d g) (blocks_of_list d block_size base.head base.size) stay

  stay_base : StayAs map d (blocks_of_list d block_size base.head base.size) later e
  stay_base = stay_right map later d e (lasting_blocks d g) (blocks_of_list d block_size base.head base.size) stay

  full_same : Same d e (blocks_to_head d g.full g.head)
  full_same = each_of (λ b. block_bytes e b ≡ block_bytes d b) (blocks_to_head d g.full g.head) (λ b has. stay_own.same b (Contains-append_left (blocks_to_head d g.full g.head) (unwritten_block g) b has))

  full_back : blocks_to_head e g.full g.head ≡ blocks_to_head d g.full g.head
  full_back = back_same d e g.full g.head full_same

  -- no block is shared with the list that has the remaining bytes
  rest_still : (t : RestLocation) → blocks_to_head d g.full g.head ++ rest_block t ≡ blocks_to_head d g.full g.head ++ unwritten_rest_block t → IsRestAt d g.full g.head g.rest t → IsRestAt e g.full g.head g.rest t
  rest_still Closed same is = is
  rest_still (Shared b) same is = absurd (omega (arith, ap length same, length-append (blocks_to_head d g.full g.head) (b ∷ []), length-append (blocks_to_head d g.full g.head) []))
  rest_still (Handed b) same is = record {
    some = is.some;
    in_range = subst (λ n. b < n) (sym stay.count) is.in_range;
    apart = subst (λ (l : List ℕ). All (λ c. c ≢ b) l) (sym full_back) is.apart;
  }
  rest_still Held same is = is

  pub hand_still : SameListLater d e g
  hand_still = record {
    growing = record { chain = chain_same d e g.full g.head stay.count full_same hand.begun.growing.chain; known = subst (λ (l : List ℕ). AreKnownBlocks l g.known) (sym full_back) hand.begun.growing.known; stand = rest_still g.stand hand.own hand.begun.growing.stand };
    content = ap (λ (l : List ℕ). l ++ g.rest) (ap (blocks_data e) full_back ∙ data_same d e 0 (blocks_to_head d g.full g.head) full_same);
    kept = ap (λ (l : List ℕ). l ++ unwritten_block g) full_back;
    blocks = ap (λ (l : List ℕ). l ++ rest_block g.stand) full_back;
  }

  pub base_list : blocks_of_list e block_size base.head base.size ≡ blocks_of_list d block_size base.head base.size
  base_list = list_stays map later d e block_size base stay_base

  pub hand_stays : CanEndOver later e block_size g base shared
  hand_stays = record {
    begun = record {
      growing = hand_still.growing;
      marked = record {
        count = stay.size ∙ hand.begun.marked.count ∙ sym stay.count;
        kept = subst (All (λ b. ¬ (IsFree later b))) (sym hand_still.kept)
            (all_of (λ b. ¬ (IsFree later b)) own (λ b has. not_free map later b (stay_own.states b has) (of_all (λ x. ¬ (IsFree map x)) own hand.begun.marked.kept b has)));
        pending = all_of (IsInFlight later) (unwritten_block g) (λ b has. stay_own.states b (Contains-append_right _ (unwritten_block g) b has) ∙ of_all (IsInFlight map) (unwritten_block g) hand.begun.marked.pending b has);
      };
      list = base_stays map later d e block_size base stay_base hand.begun.list;
      apart = subst (All (IsTakenNotPending later (unwritten_block g))) (sym base_list)
          (all_of (IsTakenNotPending later (unwritten_block g)) bb (λ b has. let k = of_all (IsTakenNotPending map (unwritten_block g)) bb hand.begun.apart b has in (not_free map later b (stay_base.states b has) k.0, k.1)));
      few = hand.begun.few;
      front = ap (take shared) hand_still.kept ∙ hand.begun.front ∙ ap (take shared) (sym base_list);
      behind = subst (λ (l : List ℕ). All (λ b. All (λ c. c ≢ b) l) (drop shared (lasting_blocks e g))) (sym base_list)
          (subst (λ (l : List ℕ). All (λ b. All (λ c. c ≢ b) bb) (drop shared l)) (sym hand_still.kept) hand.begun.behind);
      taken = λ b has used.
          let was : Contains own b = subst (λ (l : List ℕ). Contains l b) hand_still.kept has in
          subst (λ (l : List ℕ). Contains l b) (sym base_list) (hand.begun.taken b was (sym (stay_own.states b was) ∙ used));
      flying = λ b flies. ⊎_elim
          (λ has. inl (subst (λ (l : List ℕ). Contains l b) (sym hand_still.kept) has))
          (λ both. inr (both.0, subst (λ (l : List ℕ). Contains l b) (sym base_list) both.1))
          (hand.begun.flying b (stay.none_comes b flies));
    };
    own = hand_still.blocks ∙ hand.own ∙ sym hand_still.kept;
    many = ap length hand_still.kept ∙ hand.many;
    listed = hand.listed;
  }

  pub hand_bytes_stay : bytes_over_base e block_size g base ≡ bytes_over_base d block_size g base
  hand_bytes_stay = ap (λ (l : List ℕ). l ++ drop (growing_size_with block_size g) (stored_list_bytes e block_size base)) hand_still.content
      ∙ ap (λ (l : List ℕ). growing_bytes d g ++ drop (growing_size_with block_size g) l) (bytes_stay map later d e block_size base stay_base)
