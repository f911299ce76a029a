-- A pair of an accepted image that is changed, or split, and gets any delta of the global state.
use Rattle.lfs_operations.proofs.Common.{ℕ, zero, suc, ◌≡◌, ◌+◌, ◌<◌, ◌≤◌, ◌⊎◌, inl, inr, true, nat_eq, List, [], ◌∷◌, ◌++◌, length, take, drop, Some, refl, sym, ap, subst, ◌∙◌, arith, append-nil, slice_get, IsDistinct, same_Some, take-append-drop, All-from_recursion, recursion_from_All, Blocks, AreUsed, BlockStates, IsFree, IsInFlight, ContentChange, content_at, current_block, Disk, block_count, with_blocks, Slot, PairContent, Gstate, FitsInPair, gstate_xor, pair_with_slots, Pair, pairs_blocks, pairs_gstate, HasFirstLogEntry, superblock_entry, IsAccepted, used_blocks, fits_same, each_right, occurrence_count, gstate_cons, gstate_left, gstate_right, Site, thread_at, IsSite, IsDevice, HasFirst, KeepsOutsideBoth, KeptThread, thread_pair, complete_after, pairs_with_content, SplitOnDisk, SameGeometryAs, HasOldPair, IsPairCommitted, LossLeavesPair, IsPairWritten, BeginWithSuperblock, front_pair, back_pair, PartsFit, All, AreTwoFreeBlocks, IsSplitInto, LeftByCommitOrSplit, AreCommittedOrSplit, OverfillsPair, AddsNoneInFlight, KeepsNonFreeStates, ⊎_elim, each_counted}
use Rattle.lfs_operations.proofs.Owning.{length_now, none_comes_now, stay_taken, used_more}
use Rattle.lfs_model.proofs.Placing.{IsPlaced, device}
use Rattle.lfs_operations.proofs.Threads as thread
use Rattle.lfs_operations.proofs.Threads.{fresh_distinct, fresh_range, one_now, placed_one, placed_still, same_four, shape_same, two_now}
use Rattle.lfs_model.proofs.SetMoves.{HasTurned}

-- ---- what is known before

-- the two parts of a pair that is split
abbrev pub cut_front : ℕ × ℕ → PairContent → ℕ → ℕ × ℕ → Pair
cut_front at c cut fresh = record { at = at; content = record { slots = take cut c.slots; tail = Some (record { hard = true; to = fresh }); move = c.move } }

-- both parts are on the disk
pub record AreOn (t : KeptThread) (index : ℕ) (content : PairContent) (disk : Disk) (fresh : ℕ × ℕ) (cut : ℕ) : Type 0 where
  pub shape : SameGeometryAs t.disk disk
  pub others : KeepsOutsideBoth (thread_pair t index).at fresh t.disk.blocks disk.blocks
  pub front : content_at disk (thread_pair t index).at ≡ Some (front_pair t index content cut fresh).content
  pub back : content_at disk fresh ≡ Some (back_pair content cut fresh).content
  pub parts : PartsFit t index content cut fresh disk

of_fresh : (sets : BlockStates) (fresh : ℕ × ℕ) → AreTwoFreeBlocks sets fresh → (b : ℕ) → 1 ≤ occurrence_count b (fresh.0 ∷ fresh.1 ∷ []) → IsFree sets b
of_fresh sets fresh two b some = each_counted (IsFree sets) (fresh.0 ∷ fresh.1 ∷ []) (two.first, (two.second, tt)) b some

-- the pair's tail, with other slots and another delta
abbrev pub content_with : Pair → List Slot → Gstate → PairContent
content_with p slots move = record { slots = slots; tail = p.content.tail; move = move }

-- At the site stands the pair of that number, and the changes give it these slots and that delta.
pub record IsTurn (t : KeptThread) (index : ℕ) (changes : List ContentChange) (w : Site) (p : Pair) (slots : List Slot) (move : Gstate) : Type 0 where
  pub accepted : IsAccepted t.disk t.pairs
  pub there : t.pairs ≡ thread_at w (p ∷ [])
  pub place : index ≡ length w.chain + length (w.before ++ w.left)
  pub site : IsSite w (p ∷ [])
  pub made : complete_after t index changes ≡ Some (content_with p slots move)
  pub first : HasFirst p.content.slots → BeginWithSuperblock slots

-- the map knows each block that the image uses
pub record IsMapped (t : KeptThread) : Type 0 where
  pub used : AreUsed t.map (used_blocks t.disk t.pairs)
  pub size : length t.map ≡ block_count t.disk

pub record TurnedOn (t : KeptThread) (w : Site) (p : Pair) (slots : List Slot) (move : Gstate) (disk : Disk) : Type 0 where
  pub q : Pair
  pub more : List Pair
  pub turned : HasTurned t.disk w p slots move disk q more
  pub fresh : (b : ℕ) → 1 ≤ occurrence_count b (pairs_blocks more) → IsFree t.map b

-- so do the thread and the map say
pub record TurnedTo (t : KeptThread) (w : Site) (p : Pair) (slots : List Slot) (move : Gstate) (new : KeptThread) : Type 0 where
  pub q : Pair
  pub more : List Pair
  pub turned : HasTurned t.disk w p slots move new.disk q more
  pub pairs : new.pairs ≡ thread_at w (q ∷ more)
  pub used : (owned : List ℕ) → AreUsed t.map owned → AreUsed new.map (pairs_blocks more ++ owned)
  pub size : length new.map ≡ length t.map
  pub shape : SameGeometryAs t.disk new.disk
  pub stays : KeepsNonFreeStates t.map new.map
  pub none_comes : AddsNoneInFlight t.map new.map
  pub fresh : (b : ℕ) → 1 ≤ occurrence_count b (pairs_blocks more) → IsFree t.map b

-- the pair alone, as what a change of it comes to
pub record ChangedOne (t : KeptThread) (index : ℕ) (w : Site) (p : Pair) (slots : List Slot) (move : Gstate) (new : KeptThread) : Type 0 where
  pub turned : HasTurned t.disk w p slots move new.disk (record { at = p.at; content = content_with p slots move }) []
  pub pairs : new.pairs ≡ thread_at w (record { at = p.at; content = content_with p slots move } ∷ [])
  pub is : new.pairs ≡ pairs_with_content t index (content_with p slots move)
  pub map : new.map ≡ t.map
  pub shape : SameGeometryAs t.disk new.disk

front_begins : (cut : ℕ) → 0 < cut → (slots : List Slot) → BeginWithSuperblock slots → BeginWithSuperblock (take cut slots)
front_begins zero some slots e = absurd (omega arith)
front_begins (suc cut) some [] e = e
front_begins (suc cut) some (s ∷ slots) e = e

module _ (t : KeptThread) (index : ℕ) (changes : List ContentChange) (w : Site) (p : Pair) (slots : List Slot) (move : Gstate) (k : IsTurn t index changes w p slots move) where
  abbrev ps : List Pair
  ps = thread_at w (p ∷ [])

  abbrev c : PairContent
  c = content_with p slots move

  pub accepted : IsAccepted t.disk ps
  accepted = subst (IsAccepted t.disk) k.there k.accepted

  pub pair_is : thread_pair t index ≡ p
  pair_is = thread.pair_is t index w p k.there k.place

  at_is : (thread_pair t index).at ≡ p.at
  at_is = ap (λ (z : Pair). z.at) pair_is

  -- ---- on the disk

  placed_two : (disk : Disk) (fresh : ℕ × ℕ) (cut : ℕ) → 0 < cut → AreOn t index c disk fresh cut → IsPlaced t.disk disk p (cut_front p.at c cut fresh) (back_pair c cut fresh ∷ []) (fresh.0 ∷ fresh.1 ∷ [])
  placed_two disk fresh cut some is = record {
    geometry = shape_same t index w p k.there k.place is.shape;
    same = same_four t index w p k.there k.place disk fresh is.others;
    contents = (ap (content_at disk) (sym at_is) ∙ is.front, (is.back, tt));
    first = λ h b. subst (λ at. HasFirstLogEntry (current_block disk at) superblock_entry) at_is
        (is.parts.first (subst (λ at. HasFirstLogEntry (current_block t.disk at) superblock_entry) (sym at_is) b) (front_begins cut some slots (k.first h)));
  }

  -- ---- free blocks

  all_distinct : IsMapped t → (fresh : ℕ × ℕ) → AreTwoFreeBlocks t.map fresh → IsDistinct nat_eq (fresh.0 ∷ fresh.1 ∷ used_blocks t.disk ps)
  all_distinct m fresh two = fresh_distinct t index w p k.there k.place m.used k.accepted.owned_once fresh two

  -- ---- the result

  turned_one : (disk : Disk) → IsPairWritten t index c disk → FitsInPair t.disk.block_size t.disk.page c → HasTurned t.disk w p slots move disk (record { at = p.at; content = c }) []
  turned_one disk is fits = record {
    at = refl;
    delta = gstate_cons (record { at = p.at; content = c }) [] ∙ gstate_right move;
    is = append-nil slots;
    became = (refl, fits_same t.disk (record { at = p.at; content = c }) (pair_with_slots slots p) refl fits);
    device = device t.disk disk w p (record { at = p.at; content = c }) [] [] accepted accepted.owned_once (placed_one t index w p k.there k.place disk c k.first is);
    free = record { distinct = accepted.owned_once; in_range = All-from_recursion (λ b. b < block_count t.disk) [] tt };
    same = (placed_one t index w p k.there k.place disk c k.first is).same;
  }

  turned_two : IsMapped t → (disk : Disk) (fresh : ℕ × ℕ) (cut : ℕ) → AreTwoFreeBlocks t.map fresh → (FitsInPair t.disk.block_size t.disk.page c → ⊥) → AreOn t index c disk fresh cut
      → HasTurned t.disk w p slots move disk (cut_front p.at c cut fresh) (back_pair c cut fresh ∷ [])
  turned_two m disk fresh cut two large is = record {
    at = refl;
    delta = gstate_cons front (back ∷ []) ∙ ap (gstate_xor move) (gstate_cons back [] ∙ gstate_left (pairs_gstate [])) ∙ gstate_right move;
    is = ap (λ z. take cut slots ++ z) (append-nil (drop cut slots)) ∙ take-append-drop cut slots;
    became = (refl, refl, (λ fits. large (fits_same t.disk (pair_with_slots slots p) (record { at = p.at; content = c }) refl fits)), is.parts.front_fits, is.parts.back_fits);
    device = device t.disk disk w p front (back ∷ []) (fresh.0 ∷ fresh.1 ∷ []) accepted (all_distinct m fresh two) (placed_two disk fresh cut (is.parts.inside large).0 is);
    free = record {
      distinct = all_distinct m fresh two;
      in_range = All-from_recursion (λ b. b < block_count t.disk) (fresh.0 ∷ fresh.1 ∷ []) (fresh_range t index w p k.there k.place m.size fresh two);
    };
    same = (placed_two disk fresh cut (is.parts.inside large).0 is).same;
  }
    where
      front : Pair
      front = cut_front p.at (content_with p slots move) cut fresh

      back : Pair
      back = back_pair (content_with p slots move) cut fresh

  made_same : (d : PairContent) → complete_after t index changes ≡ Some d → d ≡ c
  made_same d m = same_Some d c (sym m ∙ k.made)

  too_large : OverfillsPair t index changes → FitsInPair t.disk.block_size t.disk.page c → ⊥
  too_large large = subst (λ d. FitsInPair t.disk.block_size t.disk.page d → ⊥) (made_same large.0 large.1.0) large.1.1

  pub changed_one : (new : KeptThread) → IsPairCommitted t index changes new → ChangedOne t index w p slots move new
  changed_one new is =
      let same = made_same is.content is.made in
      record {
        turned = turned_one new.disk (subst (λ d. IsPairWritten t index d new.disk) same is.written) (subst (FitsInPair t.disk.block_size t.disk.page) same is.fits);
        pairs = is.pairs ∙ one_now t index w p k.there k.place is.content ∙ ap (λ d. thread_at w (record { at = p.at; content = d } ∷ [])) same;
        is = is.pairs ∙ ap (λ d. pairs_with_content t index d) same;
        map = is.map;
        shape = is.written.shape;
      }

  changed_turned : (new : KeptThread) → IsPairCommitted t index changes new → TurnedTo t w p slots move new
  changed_turned new is =
      let x = changed_one new is in
      record {
        q = record { at = p.at; content = c };
        more = [];
        turned = x.turned;
        pairs = x.pairs;
        used = λ owned h. subst (λ m. AreUsed m owned) (sym is.map) h;
        size = ap length is.map;
        shape = is.written.shape;
        stays = λ b taken. ap (λ m. slice_get m b) is.map;
        none_comes = λ b flies. subst (λ m. IsInFlight m b) is.map flies;
        fresh = λ b some. absurd (omega arith);
      }

  cut_turned : IsMapped t → (new : KeptThread) (fresh : ℕ × ℕ) → OverfillsPair t index changes → IsSplitInto t index fresh changes new → TurnedTo t w p slots move new
  cut_turned m new fresh large is =
      let same = made_same is.content is.made in
      let there : new.pairs ≡ thread_at w (front_pair t index is.content is.cut fresh ∷ back_pair is.content is.cut fresh ∷ [])
      = is.pairs ∙ two_now t index w p k.there k.place (front_pair t index is.content is.cut fresh) (back_pair is.content is.cut fresh) in
      let held = recursion_from_All (λ (x : Pair). content_at new.disk x.at ≡ Some x.content) (thread_at w (front_pair t index is.content is.cut fresh ∷ back_pair is.content is.cut fresh ∷ []))
      (subst (All (λ (x : Pair). content_at new.disk x.at ≡ Some x.content)) there is.thread.contents) in
      let here = each_right (λ (x : Pair). content_at new.disk x.at ≡ Some x.content) (w.before ++ w.left) (front_pair t index is.content is.cut fresh ∷ back_pair is.content is.cut fresh ∷ [] ++ (w.right ++ w.after))
      (each_right (λ (x : Pair). content_at new.disk x.at ≡ Some x.content) w.chain ((w.before ++ w.left) ++ (front_pair t index is.content is.cut fresh ∷ back_pair is.content is.cut fresh ∷ [] ++ (w.right ++ w.after))) held) in
      let on = subst (λ d. AreOn t index d new.disk fresh is.cut) same (record { shape = is.shape; others = is.others; front = here.0; back = here.1.0; parts = is.parts }) in
      let f = back_pair c is.cut fresh in
      record {
        q = cut_front p.at c is.cut fresh;
        more = f ∷ [];
        turned = turned_two m new.disk fresh is.cut is.free (too_large large) on;
        pairs = there ∙ ap (λ d. thread_at w (front_pair t index d is.cut fresh ∷ back_pair d is.cut fresh ∷ [])) same
            ∙ ap (λ at. thread_at w (cut_front at c is.cut fresh ∷ f ∷ [])) at_is;
        used = λ owned h. subst (λ m. AreUsed m (fresh.0 ∷ fresh.1 ∷ owned)) (sym is.map) (used_more t.map fresh is.free owned (fresh.0 ∷ fresh.1 ∷ owned) (λ b. omega arith) h);
        size = ap length is.map ∙ length_now t.map fresh is.free;
        shape = is.shape;
        stays = λ b taken. ap (λ m. slice_get m b) is.map ∙ stay_taken t.map fresh is.free b taken;
        none_comes = λ b flies. none_comes_now t.map fresh is.free b (subst (λ m. IsInFlight m b) is.map flies);
        fresh = λ b some. of_fresh t.map fresh is.free b some;
      }

  pub put_turned : IsMapped t → (new : KeptThread) → AreCommittedOrSplit t index changes new → TurnedTo t w p slots move new
  put_turned m new (inl is) = changed_turned new is
  put_turned m new (inr (large, (fresh, is))) = cut_turned m new fresh large is

  -- ---- at a power loss

  abbrev pub Stays : Disk → Type 0
  Stays disk = IsDevice t.disk disk (thread_at w (p ∷ [])) (thread_at w (p ∷ []))

  shape_of : (left : Blocks) → length left ≡ length t.disk.blocks → SameGeometryAs t.disk (with_blocks left t.disk)
  shape_of left e = record { block_size = refl; page = refl; order = refl; profile = refl; count = e }

  pub left_alone : (left : Blocks) → LossLeavesPair t index changes left
      → Stays (with_blocks left t.disk) ⊎ HasTurned t.disk w p slots move (with_blocks left t.disk) (record { at = p.at; content = content_with p slots move }) []
  left_alone left is = go is.is
    where
      go : (is.content ≡ (thread_pair t index).content) ⊎ ((complete_after t index changes ≡ Some is.content) × FitsInPair t.disk.block_size t.disk.page is.content)
          → Stays (with_blocks left t.disk) ⊎ HasTurned t.disk w p slots move (with_blocks left t.disk) (record { at = p.at; content = content_with p slots move }) []
      go (inl e) =
          let same = e ∙ ap (λ (z : Pair). z.content) pair_is in
          inl (device t.disk (with_blocks left t.disk) w p p [] [] accepted accepted.owned_once
          (placed_one t index w p k.there k.place (with_blocks left t.disk) p.content (λ h. (h.kind, h.name)) (subst (λ d. IsPairWritten t index d (with_blocks left t.disk)) same is.written)))
      go (inr (m, fits)) =
          let same = made_same is.content m in
          inr (turned_one (with_blocks left t.disk) (subst (λ d. IsPairWritten t index d (with_blocks left t.disk)) same is.written) (subst (FitsInPair t.disk.block_size t.disk.page) same fits))

  pub left_put : IsMapped t → (left : Blocks) → LeftByCommitOrSplit t index changes left → Stays (with_blocks left t.disk) ⊎ TurnedOn t w p slots move (with_blocks left t.disk)
  left_put m left (inl is) = ⊎_elim (λ d. inl d) (λ x. inr (record { q = record { at = p.at; content = content_with p slots move }; more = []; turned = x; fresh = λ b some. absurd (omega arith) })) (left_alone left is)
  left_put m left (inr (large, (fresh, (two, is)))) = go is.content
    where
      go : HasOldPair t index (with_blocks left t.disk) ⊎ SplitOnDisk t index changes fresh (with_blocks left t.disk) → Stays (with_blocks left t.disk) ⊎ TurnedOn t w p slots move (with_blocks left t.disk)
      go (inl b) = inl (device t.disk (with_blocks left t.disk) w p p [] (fresh.0 ∷ fresh.1 ∷ []) accepted (all_distinct m fresh two)
          (placed_still t index w p k.there k.place (with_blocks left t.disk) fresh (shape_of left is.others.count) is.others b))
      go (inr h) =
          let same = made_same h.content h.made in
          inr (record {
            q = cut_front p.at (content_with p slots move) h.cut fresh;
            more = back_pair (content_with p slots move) h.cut fresh ∷ [];
            turned = turned_two m (with_blocks left t.disk) fresh h.cut two (too_large large)
                (subst (λ d. AreOn t index d (with_blocks left t.disk) fresh h.cut) same
                (record { shape = shape_of left is.others.count; others = is.others; front = h.front; back = h.back; parts = h.parts }));
            fresh = λ b some. of_fresh t.map fresh two b some;
          })
