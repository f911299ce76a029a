-- The pair of a thread whose slot a pending move names.
use Rattle.lfs_operations.proofs.Common.{ℕ, suc, zero, ◌≡◌, ◌<◌, ◌≤◌, true, false, List, [], ◌∷◌, length, take, Option, Some, None, sym, ap, subst, ◌∙◌, arith, get_or, slice_get, AllByRecursion, same_Some, IsPairAt, same_pair, Pair, pairs_gstate, count_before_root, IsAccepted, set_move_kind, Each, HasNoMove, KeptThread, empty_anchor, IfNone, IfSome, HasMovedSlot}
use Rattle.lfs_model.proofs.MovedSlot.{in_some_directory, named_at, not_nowhere}

get_some : (ps : List Pair) (i : ℕ) (p : Pair) → slice_get ps i ≡ Some p → (i < length ps) × (get_or ps i empty_anchor ≡ p)
get_some [] i p e = absurd (cc)
get_some (x ∷ ps) zero p e = (omega arith, same_Some x p e)
get_some (x ∷ ps) (suc i) p e = let r = get_some ps i p e in ((let l = r.0 in omega arith), r.1)

moved_at : (t : KeptThread) (index : ℕ) → IsAccepted t.disk t.pairs → (pairs_gstate t.pairs).kind ≡ set_move_kind → IsPairAt t.pairs (pairs_gstate t.pairs).pair index → HasMovedSlot t index
moved_at t index ok kind b =
    let m = named_at t.disk t.pairs index ok kind b in
    let here = get_some t.pairs index m.pair m.there in
    record {
      below = here.0;
      kind = kind;
      same = subst (λ (p : Pair). same_pair p.at (pairs_gstate t.pairs).pair ≡ true) (sym here.1) m.same;
      left = m.left;
      slot = m.slot;
      right = m.right;
      held = ap (λ (p : Pair). p.content.slots) here.1 ∙ m.held;
      number = m.number;
      other = m.other;
    }

pub heads : (P : Pair → Type 0) (n : ℕ) (ps : List Pair) (i : ℕ) → i < n → i < length ps → Each P (take n ps) → P (get_or ps i empty_anchor)
heads P n [] i l low h = absurd (omega arith)
heads P zero (p ∷ ps) i l low h = absurd (omega arith)
heads P (suc n) (p ∷ ps) zero l low h = h.0
heads P (suc n) (p ∷ ps) (suc i) l low h = heads P n ps i (omega arith) (omega arith) h.1

pub in_directory : (t : KeptThread) (index : ℕ) → HasMovedSlot t index → count_before_root t.pairs ≤ index
in_directory t index m = in_some_directory t.pairs index empty_anchor m.left m.slot m.right m.held m.other

-- what the search for it found
pub found_there : (t : KeptThread) (o : Option ℕ) → IsAccepted t.disk t.pairs → (pairs_gstate t.pairs).kind ≡ set_move_kind → IfSome o (IsPairAt t.pairs (pairs_gstate t.pairs).pair) → IfSome o (HasMovedSlot t)
found_there t None ok kind h = h
found_there t (Some index) ok kind h = moved_at t index ok kind h

pub found_none : (t : KeptThread) (o : Option ℕ) → IsAccepted t.disk t.pairs → (pairs_gstate t.pairs).kind ≡ set_move_kind → IfNone o (AllByRecursion (λ p. same_pair p.at (pairs_gstate t.pairs).pair ≡ false) t.pairs) → IfNone o (HasNoMove (pairs_gstate t.pairs))
found_none t None ok kind h = absurd (not_nowhere t.disk t.pairs ok kind h)
found_none t (Some index) ok kind h = h
