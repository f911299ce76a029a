-- The result of a relocation: nothing, or a move by the plan.
use Rattle.lfs_operations.proofs.Common.{ℕ, Bool, cond, None, ◌-◌, is_worn, AreTwoFreeBlocks, ◌≡◌, ◌+◌, ◌<◌, ◌≤◌, inl, inr, true, false, List, [], ◌∷◌, ◌++◌, length, Some, refl, sym, ap, ap₂, subst, ◌∙◌, arith, append_assoc, length-append, take, slice_get, same_Some, AllByRecursion, Contains, recursion_from_All, each_left, each_right, Pair, address_of_array, same_pair, count_before_root, all_unmoved_slots, used_blocks, IsPairAt, KeepsOutsideBoth, KeptThread, is_hard_tail, thread_pair, pair_joined_to, IsRecoveredWritableImage, PairContent, tail_target}
use Rattle.std.proofs.lemmas.List.Elements.{All-contains_itself}
use Rattle.lfs_model.specs.session.Moved.{pair_behind}
use Rattle.lfs_model.proofs.BlockSets.{used_count-AreUsed}
use Rattle.std.specs.Bool.{OnTrue}
use Rattle.lfs_operations.specs.Wear.{CanRelocateWornPair, HasRelocated, HasFreeBlocksForSplit, IsWornPairRelocated, IsSuperblockChainExpanded, AreWornPairSlotsMoved, KeepsTreeAndFiles, RelocatesByPlan}
use Rattle.lfs_operations.specs.declared.wear.RelocationPlan.{RelocationPlan}
use Rattle.lfs_operations.proofs.RecoverLists.{files_itself}
use Rattle.lfs_model.proofs.PairLists.{get_behind}
use Rattle.std.proofs.lemmas.Option.{slice_get_within}

-- ---- the pair that is written

pub is_below : (ps : List Pair) (at : ℕ × ℕ) (index : ℕ) → IsPairAt ps at index → index < length ps
is_below ps at index found = slice_get_within ps index found.pair found.there

-- ---- what is known before a move

pub known_there : {P : Type 0} (b : Bool) → OnTrue b P → b ≡ true → P
known_there true h e = h
known_there false h e = absurd (cc)

pub next_joined : (b : Bool) (next index : ℕ) → Some next ≡ cond b (Some (index + 1)) None → (b ≡ true) × (next ≡ index + 1)
next_joined true next index e = (refl, same_Some next (index + 1) e)
next_joined false next index e = absurd (cc)

pub can_go : (t : KeptThread) (index next : ℕ) (fresh : ℕ × ℕ) → IsRecoveredWritableImage t → Some next ≡ cond (is_hard_tail (thread_pair t index).content.tail) (Some (index + 1)) None → next < length t.pairs
    → is_worn t.disk (thread_pair t next) ≡ true → AreTwoFreeBlocks t.map fresh → CanRelocateWornPair t next fresh
can_go t index next fresh ready follows below worn two =
    let k : (is_hard_tail (thread_pair t index).content.tail ≡ true) × (next ≡ index + 1) = next_joined (is_hard_tail (thread_pair t index).content.tail) next index follows in
    let n = k.1 in
    record {
      ready = ready;
      above = omega (arith, n);
      below = below;
      joined = subst (λ i. is_hard_tail (thread_pair t i).content.tail ≡ true) (let e : index ≡ next - 1 = omega (arith, n) in e) k.0;
      worn = worn;
      free = two;
    }

-- ---- nothing moves

same_files : (t : KeptThread) → IsRecoveredWritableImage t → KeepsTreeAndFiles t t
same_files t ready = record {
  ready = ready;
  shows = refl;
  structs = λ path u e b. (u, (e, refl));
  lists = files_itself t.disk (all_unmoved_slots t.pairs);
  flying = λ b. ((λ h. h), (λ h. h));
}

pub none_moves : (t : KeptThread) (root : ℕ) (plan : RelocationPlan) → IsRecoveredWritableImage t → root ≡ count_before_root t.pairs → HasRelocated t plan t root
none_moves t root plan ready root_is = record { moved = inl refl; files = same_files t ready; few = inl (omega arith); root_is = root_is }

-- ---- a move by the plan

module _ (t : KeptThread) (root : ℕ) (index : ℕ) (plan : RelocationPlan) (ready : IsRecoveredWritableImage t) (root_is : root ≡ count_before_root t.pairs) (found : IsPairAt t.pairs (address_of_array plan.at) index) (new : KeptThread) where
  -- the pair p was written, whose number is the plan's, and names y
  by_plan : (front : List Pair) (p : Pair) (gone back : List Pair) (c : PairContent) (y : Pair) → t.pairs ≡ front ++ p ∷ (gone ++ back) → length front ≡ index → new.pairs ≡ front ++ record { at = p.at; content = c } ∷ y ∷ back
      → tail_target c.tail ≡ Some y.at → y.at ≡ address_of_array plan.fresh → KeepsOutsideBoth p.at (address_of_array plan.fresh) t.disk.blocks new.disk.blocks → RelocatesByPlan t plan new
  by_plan front p gone back c y was number is next to others = record {
    front = front;
    written = record { at = p.at; content = c };
    fresh = y;
    back = back;
    is = is;
    stay = each_left (Contains t.pairs) front (p ∷ (gone ++ back)) among;
    stay_behind = each_right (Contains t.pairs) gone back (each_right (Contains t.pairs) front (p ∷ (gone ++ back)) among).1;
    next = next;
    at = ap (λ (z : Pair). same_pair z.at (address_of_array plan.at)) (sym (same_Some found.pair p (sym found.there ∙ ap₂ (λ (z : List Pair) (i : ℕ). slice_get z i) was (sym number) ∙ get_behind front p (gone ++ back)))) ∙ found.same;
    to = to;
    others = subst (λ z. KeepsOutsideBoth p.at z t.disk.blocks new.disk.blocks) (sym to) others;
  }
    where
      among : AllByRecursion (Contains t.pairs) (front ++ p ∷ (gone ++ back))
      among = subst (AllByRecursion (Contains t.pairs)) was (recursion_from_All (Contains t.pairs) t.pairs (All-contains_itself t.pairs))

  pub pair_goes : (next : ℕ) → next ≡ index + 1 → IsWornPairRelocated t next (address_of_array plan.fresh) new → HasRelocated t plan new root
  pair_goes next follows m = record {
    moved = inr (
      inl m.moved,
      by_plan m.moved.front m.moved.before (m.moved.worn ∷ []) m.moved.back (pair_joined_to m.moved.to m.moved.before.content.slots m.moved.before).content (record m.moved.worn { at = m.moved.to })
          m.moved.was (let n = m.number in omega (arith, n, follows)) m.moved.is refl m.to m.others,
    );
    files = m.files;
    few = inl (let e = m.as_many in omega (arith, e));
    root_is = root_is ∙ sym m.root;
  }

  few_used : (limit : ℕ) → HasFreeBlocksForSplit t limit → length (used_blocks new.disk new.pairs) ≡ length (used_blocks t.disk t.pairs) + 2 → length (used_blocks new.disk new.pairs) ≤ limit
  few_used limit room more =
      let e = used_count-AreUsed t.map (used_blocks t.disk t.pairs) ready.accepted.owned_once ready.used in
      let w = room.within in
      omega (arith, e, w, more)

  pub slots_go : HasFreeBlocksForSplit t plan.limit → AreWornPairSlotsMoved t index (address_of_array plan.fresh) new → HasRelocated t plan new root
  slots_go room m = record {
    moved = inr (
      inr (inl m.unloaded),
      by_plan (m.unloaded.front ++ m.unloaded.before ∷ []) m.unloaded.worn [] m.unloaded.back (pair_joined_to m.unloaded.to [] m.unloaded.worn).content (pair_behind m.unloaded.to m.unloaded.worn)
          (m.unloaded.was ∙ sym (append_assoc m.unloaded.front (m.unloaded.before ∷ []) (m.unloaded.worn ∷ m.unloaded.back))) (let n = m.number in let l = length-append m.unloaded.front (m.unloaded.before ∷ []) in omega (arith, n, l))
          (m.unloaded.is ∙ sym (append_assoc m.unloaded.front (m.unloaded.before ∷ []) (pair_joined_to m.unloaded.to [] m.unloaded.worn ∷ pair_behind m.unloaded.to m.unloaded.worn ∷ m.unloaded.back))) refl m.to m.others,
    );
    files = m.files;
    few = inr (few_used plan.limit room m.two_more);
    root_is = root_is ∙ sym m.root;
  }

  pub root_goes : index ≡ 0 → HasFreeBlocksForSplit t plan.limit → IsSuperblockChainExpanded t (address_of_array plan.fresh) new → HasRelocated t plan new 1
  root_goes first room m = record {
    moved = inr (
      inr (inr m.unloaded),
      by_plan [] m.unloaded.worn [] m.unloaded.back (pair_joined_to m.unloaded.to (take 1 m.unloaded.worn.content.slots) m.unloaded.worn).content (pair_behind m.unloaded.to m.unloaded.worn)
          m.unloaded.was (sym first) m.unloaded.is refl m.to m.others,
    );
    files = m.files;
    few = inr (few_used plan.limit room m.two_more);
    root_is = sym m.root;
  }
