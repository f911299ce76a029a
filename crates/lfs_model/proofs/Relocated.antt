-- A pair that a hard tail names is at two other blocks, for the step that moves a worn pair: nothing else changes.
use Rattle.std.proofs.Common.{◌≡◌, ◌<◌, ◌≤◌, true, false, List, [], ◌∷◌, ◌++◌, length, Some, refl, sym, ap, ap₂, subst, ◌∙◌, arith, append_assoc, append-nil, length-append}
use Rattle.std.specs.Prelude.{All}
use Rattle.lfs_model.proofs.Common.{recursion_from_All, Disk, Slot, PairContent, zero_gstate, FitsInPair, gstate_xor, Pair, address_blocks, is_hard_tail, pairs_gstate, begins_with_superblock, count_before_root, IsAccepted, IsWritableSlot, HasNoEmptyPairs, IsWritable, last_tail_is_hard, IsWritableChange}
use Rattle.lfs_model.proofs.Counts.{Each, each_right}
use Rattle.lfs_model.proofs.Global.{HasNoMove, gstate_cons, gstate_kept, gstate_right}
use Rattle.lfs_model.proofs.Listings.{IsRun}
use Rattle.lfs_model.proofs.Sites.{Site, thread_at, IsSite}
use Rattle.lfs_model.proofs.Changes.{chain_now}
use Rattle.lfs_model.proofs.Splices.{all_slots, IsDevice, AreFree, move_shape, splice_change}
use Rattle.lfs_model.proofs.Moves.{IsStep}
use Rattle.lfs_model.proofs.Rests.{slots_stay}
use Rattle.lfs_model.proofs.Writable.{IsWithin}
use Rattle.lfs_model.proofs.Profiles.{step_writable}
use Rattle.lfs_model.proofs.Became.{fits_same}
use Rattle.lfs_model.proofs.Indexes.{HasSite, site_of_number}
use Rattle.lfs_model.proofs.Unthreaded.{SameParts, same_parts, IsReady, Unthreads}

-- On the new disk q is in place of p, with p's slots and delta. Its hard tail names y, which has what x had, at blocks that nobody
-- owned.
pub record IsRelocated (disk new : Disk) (before : List Pair) (p x q y : Pair) (back : List Pair) : Type 0 where
  pub device : IsDevice disk new (before ++ p ∷ x ∷ back) (before ++ q ∷ y ∷ back)
  pub free : AreFree disk (before ++ p ∷ x ∷ back) (address_blocks y.at) []
  pub hard : is_hard_tail p.content.tail ≡ true
  pub at : q.at ≡ p.at
  pub slots : q.content.slots ≡ p.content.slots
  pub delta : q.content.move ≡ p.content.move
  pub tail : q.content.tail ≡ Some (record { hard = true; to = y.at })
  pub same : y.content ≡ x.content

-- On the new disk q is in place of x, with these slots and x's delta. Its hard tail names y, which has all slots of x and its tail,
-- at blocks that nobody owned.
pub record IsUnloaded (disk new : Disk) (before : List Pair) (x q y : Pair) (back : List Pair) (slots_kept : List Slot) : Type 0 where
  pub device : IsDevice disk new (before ++ x ∷ back) (before ++ q ∷ y ∷ back)
  pub free : AreFree disk (before ++ x ∷ back) (address_blocks y.at) []
  pub at : q.at ≡ x.at
  pub kept : q.content.slots ≡ slots_kept
  pub tail : q.content.tail ≡ Some (record { hard = true; to = y.at })
  pub delta : q.content.move ≡ x.content.move
  pub slots : y.content.slots ≡ x.content.slots
  pub last : y.content.tail ≡ x.content.tail
  pub none : y.content.move ≡ zero_gstate

-- ---- the global state stays

pub relocated_gstate : (before : List Pair) (p x q y : Pair) (back : List Pair) → q.content.move ≡ p.content.move → y.content ≡ x.content →
    pairs_gstate (before ++ q ∷ y ∷ back) ≡ pairs_gstate (before ++ p ∷ x ∷ back)
relocated_gstate before p x q y back delta same = gstate_kept before (p ∷ x ∷ []) (q ∷ y ∷ []) back
    (gstate_cons q (y ∷ []) ∙ ap₂ (λ a b. gstate_xor a (pairs_gstate (record { at = y.at; content = b } ∷ []))) delta same ∙ sym (gstate_cons p (x ∷ [])))

pub unloaded_gstate : (before : List Pair) (x q y : Pair) (back : List Pair) → q.content.move ≡ x.content.move → y.content.move ≡ zero_gstate →
    pairs_gstate (before ++ q ∷ y ∷ back) ≡ pairs_gstate (before ++ x ∷ back)
unloaded_gstate before x q y back delta none = gstate_kept before (x ∷ []) (q ∷ y ∷ []) back
    (gstate_cons q (y ∷ []) ∙ ap₂ gstate_xor delta (gstate_cons y [] ∙ gstate_right y.content.move ∙ none) ∙ sym (gstate_cons x []))

-- ---- a pair behind one of its directory

-- a hard tail leads to another pair of the run
record HasNext (left : List Pair) (p : Pair) (right : List Pair) : Type 0 where
  next : Pair
  others : List Pair
  is : right ≡ next ∷ others

run_goes_on : (left : List Pair) (p : Pair) (right : List Pair) → IsRun (left ++ p ∷ right) → is_hard_tail p.content.tail ≡ true → HasNext left p right
run_goes_on [] p [] h e = absurd (let k = sym e ∙ h in cc)
run_goes_on [] p (q ∷ right) h e = record { next = q; others = right; is = refl }
run_goes_on (l ∷ []) p right h e = let n = run_goes_on [] p right h.1 e in record { next = n.next; others = n.others; is = n.is }
run_goes_on (l ∷ m ∷ left) p right h e = let n = run_goes_on (m ∷ left) p right h.1 e in record { next = n.next; others = n.others; is = n.is }

pub each_within : (disk : Disk) (ps : List Pair) → IsWritable disk ps → Each (IsWithin disk.profile disk.block_size disk.page) ps
each_within disk ps ok = go ps (recursion_from_All (λ (r : Pair). FitsInPair disk.block_size disk.page r.content) ps ok.pairs)
    (recursion_from_All (λ (r : Pair). All (IsWritableSlot disk.profile disk.block_size disk.page) r.content.slots) ps ok.slots)
  where
    go : (ps : List Pair) → Each (λ r. FitsInPair disk.block_size disk.page r.content) ps → Each (λ r. All (IsWritableSlot disk.profile disk.block_size disk.page) r.content.slots) ps →
        Each (IsWithin disk.profile disk.block_size disk.page) ps
    go [] h k = tt
    go (r ∷ ps) h k = (record { pair = h.0; slots = k.0 }, go ps h.1 k.1)

-- a pair with the slots of another is within the limits, too
pub within_same : (disk : Disk) (p q : Pair) → q.content.slots ≡ p.content.slots → IsWithin disk.profile disk.block_size disk.page p → IsWithin disk.profile disk.block_size disk.page q
within_same disk p q e h = record {
  pair = fits_same disk p q e h.pair;
  slots = subst (All (IsWritableSlot disk.profile disk.block_size disk.page)) (sym e) h.slots;
}

pub relocate : (disk new : Disk) (chain front : List Pair) (p x q y : Pair) (back : List Pair) → IsReady disk chain (front ++ p ∷ x ∷ back) → IsRelocated disk new (chain ++ front) p x q y back →
    Unthreads disk new chain (front ++ p ∷ x ∷ back) (front ++ q ∷ y ∷ back)
relocate disk new chain front p x q y back r c = record { taken = taken; ready = ready }
  where
    few : length (chain ++ front) < length (chain ++ (front ++ p ∷ x ∷ back))
    few = omega (arith, length-append chain front, length-append chain (front ++ p ∷ x ∷ back), length-append front (p ∷ x ∷ back))

    behind : count_before_root (chain ++ (front ++ p ∷ x ∷ back)) ≤ length (chain ++ front)
    behind = let e = r.is_chain in omega (arith, e, length-append chain front)

    at : HasSite (chain ++ (front ++ p ∷ x ∷ back)) (length (chain ++ front))
    at = site_of_number disk (chain ++ (front ++ p ∷ x ∷ back)) (length (chain ++ front)) r.accepted behind few

    same : SameParts (at.site.chain ++ (at.site.before ++ at.site.left)) at.pair (at.site.right ++ at.site.after) (chain ++ front) p (x ∷ back)
    same = same_parts (at.site.chain ++ (at.site.before ++ at.site.left)) at.pair (at.site.right ++ at.site.after) (chain ++ front) p (x ∷ back) at.number
        (append_assoc at.site.chain (at.site.before ++ at.site.left) (at.pair ∷ (at.site.right ++ at.site.after)) ∙ sym at.is ∙ sym (append_assoc chain front (p ∷ x ∷ back)))

    on : HasNext at.site.left at.pair at.site.right
    on = run_goes_on at.site.left at.pair at.site.right at.is_site.run (ap (λ (z : Pair). is_hard_tail z.content.tail) same.pair ∙ c.hard)

    -- the pair x is the next one of the run
    next : (on.next ≡ x) × (on.others ++ at.site.after ≡ back)
    next = let e : on.next ∷ (on.others ++ at.site.after) ≡ x ∷ back = sym (ap (λ z. z ++ at.site.after) on.is) ∙ same.back in (cc, cc)

    w : Site
    w = record { chain = at.site.chain; before = at.site.before; left = at.site.left; right = on.others; after = at.site.after }

    -- the thread with any pairs there
    there : (xs : List Pair) → chain ++ (front ++ (xs ++ back)) ≡ at.site.chain ++ ((at.site.before ++ at.site.left) ++ (xs ++ (on.others ++ at.site.after)))
    there xs = sym (append_assoc chain front (xs ++ back)) ∙ ap (λ z. z ++ (xs ++ back)) (sym same.front) ∙ append_assoc at.site.chain (at.site.before ++ at.site.left) (xs ++ back)
        ∙ ap (λ z. at.site.chain ++ ((at.site.before ++ at.site.left) ++ (xs ++ z))) (sym next.1)

    old_is : chain ++ (front ++ p ∷ x ∷ back) ≡ thread_at w (p ∷ x ∷ [])
    old_is = there (p ∷ x ∷ [])

    new_is : chain ++ (front ++ q ∷ y ∷ back) ≡ thread_at w (q ∷ y ∷ [])
    new_is = there (q ∷ y ∷ [])

    -- as many superblock's pairs
    chain_length : length at.site.chain ≡ length chain
    chain_length = sym at.is_site.chain ∙ ap count_before_root (sym at.is) ∙ r.is_chain

    site : IsSite w (p ∷ x ∷ [])
    site = record {
      chain = ap count_before_root (sym old_is) ∙ r.is_chain ∙ sym chain_length;
      ends = at.is_site.ends;
      run = subst (λ (z : Pair). IsRun (at.site.left ++ z ∷ x ∷ on.others)) same.pair (subst (λ (z : Pair). IsRun (at.site.left ++ at.pair ∷ z ∷ on.others)) next.0
          (subst (λ (z : List Pair). IsRun (at.site.left ++ at.pair ∷ z)) on.is at.is_site.run));
    }

    old_end : (chain ++ front) ++ p ∷ x ∷ back ≡ thread_at w (p ∷ x ∷ [])
    old_end = append_assoc chain front (p ∷ x ∷ back) ∙ old_is

    new_end : (chain ++ front) ++ q ∷ y ∷ back ≡ thread_at w (q ∷ y ∷ [])
    new_end = append_assoc chain front (q ∷ y ∷ back) ∙ new_is

    -- the same global state
    still : pairs_gstate (thread_at w (q ∷ y ∷ [])) ≡ pairs_gstate (thread_at w (p ∷ x ∷ []))
    still = ap pairs_gstate (sym new_end) ∙ relocated_gstate (chain ++ front) p x q y back c.delta c.same ∙ ap pairs_gstate old_end

    no_move : HasNoMove (pairs_gstate (thread_at w (p ∷ x ∷ [])))
    no_move = subst (λ z. HasNoMove (pairs_gstate z)) old_is r.no_move

    slots_are : all_slots (q ∷ y ∷ []) ≡ all_slots (p ∷ x ∷ [])
    slots_are = ap₂ (λ a b. a ++ (b ++ [])) c.slots (ap (λ (z : PairContent). z.slots) c.same)

    step : IsStep disk new w p (x ∷ []) q (y ∷ []) (address_blocks y.at) [] (all_slots (p ∷ x ∷ [])) [] [] []
    step = record {
      accepted = subst (IsAccepted disk) old_is r.accepted;
      site = site;
      no_move = no_move;
      still_none = subst HasNoMove (sym still) no_move;
      device = subst (λ z. IsDevice disk new z (thread_at w (q ∷ y ∷ []))) old_end (subst (IsDevice disk new ((chain ++ front) ++ p ∷ x ∷ back)) new_end c.device);
      free = subst (λ z. AreFree disk z (address_blocks y.at) []) old_end c.free;
      shape = move_shape p x q y c.at c.tail (ap (λ (z : PairContent). z.tail) c.same) (λ e. ap begins_with_superblock c.slots ∙ e);
      was = sym (append-nil (all_slots (p ∷ x ∷ [])));
      is = slots_are ∙ sym (append-nil (all_slots (p ∷ x ∷ [])));
      splice = record { front = λ e. refl; entries = tt; lists = tt; blocks = λ b. omega arith };
    }

    within : Each (IsWithin disk.profile disk.block_size disk.page) (q ∷ y ∷ [])
    within =
        let k = each_right (IsWithin disk.profile disk.block_size disk.page) front (p ∷ x ∷ back) (each_right (IsWithin disk.profile disk.block_size disk.page) chain (front ++ p ∷ x ∷ back) (each_within disk (chain ++ (front ++ p ∷ x ∷ back)) r.writable)) in
        (within_same disk p q c.slots k.0, (within_same disk x y (ap (λ (z : PairContent). z.slots) c.same) k.1.0, tt))

    empties : HasNoEmptyPairs (last_tail_is_hard false (w.before ++ w.left)) (p ∷ x ∷ (w.right ++ w.after)) → HasNoEmptyPairs (last_tail_is_hard false (w.before ++ w.left)) (q ∷ y ∷ (w.right ++ w.after))
    empties h = (
      (λ e f. h.0 e (sym c.slots ∙ f)),
      (
        (λ e f. h.1.0 c.hard (sym (ap (λ (z : PairContent). z.slots) c.same) ∙ f)),
        subst (λ t. HasNoEmptyPairs (is_hard_tail t) (w.right ++ w.after)) (sym (ap (λ (z : PairContent). z.tail) c.same)) h.1.1,
      ),
    )

    taken : IsWritableChange disk (chain ++ (front ++ p ∷ x ∷ back)) new (chain ++ (front ++ q ∷ y ∷ back)) (λ t. t) (λ d. d)
    taken = subst (λ z. IsWritableChange disk z new (chain ++ (front ++ q ∷ y ∷ back)) (λ t. t) (λ d. d)) (sym old_is)
        (subst (λ z. IsWritableChange disk (thread_at w (p ∷ x ∷ [])) new z (λ t. t) (λ d. d)) (sym new_is) (record {
          follows = slots_stay disk new w p (x ∷ []) q (y ∷ []) (address_blocks y.at) (all_slots (p ∷ x ∷ [])) [] step (λ e. step.accepted.reached (ap (λ g. g.sync) (sym still) ∙ e));
          writable = step_writable disk new w p (x ∷ []) q (y ∷ []) (address_blocks y.at) [] (all_slots (p ∷ x ∷ [])) [] [] [] step (subst (IsWritable disk) old_is r.writable) within empties;
        }))

    ready : IsReady new chain (front ++ q ∷ y ∷ back)
    ready = record {
      accepted = taken.follows.accepted;
      writable = taken.writable;
      no_move = subst (λ z. HasNoMove (pairs_gstate z)) (sym new_is) step.still_none;
      is_chain = ap count_before_root new_is
          ∙ chain_now disk new w.chain (w.before ++ w.left) p (x ∷ []) q (y ∷ []) (w.right ++ w.after) (address_blocks y.at ++ []) site.chain step.accepted
          (splice_change disk new w.chain (w.before ++ w.left) p (x ∷ []) q (y ∷ []) (w.right ++ w.after) (address_blocks y.at) [] (all_slots (p ∷ x ∷ [])) [] [] [] step.accepted step.no_move step.still_none step.device step.free
          step.shape.at (step.shape.links (w.right ++ w.after)) step.shape.front step.shape.blocks step.was step.is step.splice)
          ∙ chain_length;
    }
