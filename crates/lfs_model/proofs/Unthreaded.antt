-- The pair after another begins a directory that no path leads to, and goes from the thread. So may any number of pairs, in their
-- order.
use Rattle.std.proofs.Common.{ℕ, ◌≡◌, ◌<◌, ◌≤◌, true, false, List, [], ◌∷◌, ◌++◌, length, refl, sym, ap, ap₂, subst, ◌∙◌, arith, append_assoc, append-nil, length-append}
use Rattle.lfs_model.proofs.Common.{Disk, same_pair, Pair, is_hard_tail, pairs_gstate, count_before_root, begins_with_superblock, Path, IsAccepted, IsWritable, IsDirectoryAtPath}
use Rattle.lfs_model.proofs.Global.{HasNoMove}
use Rattle.lfs_model.proofs.Superblocks.{IsChain}
use Rattle.lfs_model.proofs.Listings.{IsRun}
use Rattle.lfs_model.proofs.Changes.{chain_now}
use Rattle.lfs_model.proofs.Sites.{Site, dirs_at, thread_at}
use Rattle.lfs_model.proofs.Splices.{IsDevice}
use Rattle.lfs_model.proofs.Moves.{AllReachedBut}
use Rattle.lfs_model.proofs.Beside.{last_site}
use Rattle.lfs_model.proofs.Drops.{IsStepDrop, softened, unthread_shape, drop_change, unthreaded}
use Rattle.lfs_model.proofs.Indexes.{HasSite, site_of_number}
use Rattle.lfs_model.proofs.StepsTaken.{IsWritableChange, unthread_taken}

-- lists that part at the same place
pub record SameParts (xs : List Pair) (p : Pair) (ys us : List Pair) (q : Pair) (vs : List Pair) : Type 0 where
  pub front : xs ≡ us
  pub pair : p ≡ q
  pub back : ys ≡ vs

pub same_parts : (xs : List Pair) (p : Pair) (ys us : List Pair) (q : Pair) (vs : List Pair) → length xs ≡ length us → xs ++ p ∷ ys ≡ us ++ q ∷ vs → SameParts xs p ys us q vs
same_parts [] p ys [] q vs n e = record { front = refl; pair = cc; back = cc }
same_parts [] p ys (u ∷ us) q vs n e = absurd (omega arith)
same_parts (x ∷ xs) p ys [] q vs n e = absurd (omega arith)
same_parts (x ∷ xs) p ys (u ∷ us) q vs n e =
    let s = same_parts xs p ys us q vs (omega arith) (cc) in
    record { front = ap₂ (λ a b. a ∷ b) (let h : x ≡ u = cc in h) s.front; pair = s.pair; back = s.back }

-- On the new disk q is in place of p and o, with p's slots and a soft tail to where o's led.
pub record IsUnthreaded (disk new : Disk) (chain front : List Pair) (p o q : Pair) (back : List Pair) : Type 0 where
  pub device : IsDevice disk new (chain ++ (front ++ p ∷ o ∷ back)) (chain ++ (front ++ q ∷ back))
  pub no_move : HasNoMove (pairs_gstate (chain ++ (front ++ q ∷ back)))
  pub soft : is_hard_tail p.content.tail ≡ false
  pub at : q.at ≡ p.at
  pub slots : q.content.slots ≡ p.content.slots
  pub tail : q.content.tail ≡ softened o.content.tail
  -- no path leads to o, and where the sync bit isn't set afterwards, one leads to each other directory
  pub unled : (path : Path) (x : ℕ × ℕ) → IsDirectoryAtPath (chain ++ (front ++ p ∷ o ∷ back)) path x → same_pair o.at x ≡ true → ⊥
  pub reached : (pairs_gstate (chain ++ (front ++ q ∷ back))).sync ≡ false → (is_hard_tail o.content.tail ≡ false) × AllReachedBut (chain ++ (front ++ p ∷ o ∷ back)) o.at

-- the disk is accepted and in the profile, no move is set, and so many pairs are before the root directory
pub record IsReady (disk : Disk) (chain dirs : List Pair) : Type 0 where
  pub accepted : IsAccepted disk (chain ++ dirs)
  pub writable : IsWritable disk (chain ++ dirs)
  pub no_move : HasNoMove (pairs_gstate (chain ++ dirs))
  pub is_chain : IsChain chain dirs

-- a run ends with a soft tail
run_ends : (left : List Pair) (p : Pair) (right : List Pair) → IsRun (left ++ (p ∷ right)) → is_hard_tail p.content.tail ≡ false → right ≡ []
run_ends [] p [] h e = refl
run_ends [] p (q ∷ right) h e = absurd (let k = h.0 in cc)
run_ends (x ∷ []) p right h e = run_ends [] p right h.1 e
run_ends (x ∷ y ∷ left) p right h e = run_ends (y ∷ left) p right h.1 e

pub record Unthreads (disk new : Disk) (chain old now : List Pair) : Type 0 where
  pub taken : IsWritableChange disk (chain ++ old) new (chain ++ now) (λ t. t) (λ d. d)
  pub ready : IsReady new chain now

pub unthread : (disk new : Disk) (chain front : List Pair) (p o q : Pair) (back : List Pair) → IsReady disk chain (front ++ p ∷ o ∷ back) → IsUnthreaded disk new chain front p o q back
    → Unthreads disk new chain (front ++ p ∷ o ∷ back) (front ++ q ∷ back)
unthread disk new chain front p o q back r c = record { taken = taken; ready = ready }
  where
    all : List Pair
    all = chain ++ (front ++ p ∷ o ∷ back)

    few : length (chain ++ front) < length (chain ++ (front ++ p ∷ o ∷ back))
    few = omega (arith, length-append chain front, length-append chain (front ++ p ∷ o ∷ back), length-append front (p ∷ o ∷ back))

    behind : count_before_root (chain ++ (front ++ p ∷ o ∷ back)) ≤ length (chain ++ front)
    behind = let e = r.is_chain in omega (arith, e, length-append chain front)

    at : HasSite (chain ++ (front ++ p ∷ o ∷ back)) (length (chain ++ front))
    at = site_of_number disk (chain ++ (front ++ p ∷ o ∷ back)) (length (chain ++ front)) r.accepted behind few

    w : Site
    w = at.site

    -- the same pairs on both sides
    same : SameParts (at.site.chain ++ (at.site.before ++ at.site.left)) at.pair (at.site.right ++ at.site.after) (chain ++ front) p (o ∷ back)
    same = same_parts (at.site.chain ++ (at.site.before ++ at.site.left)) at.pair (at.site.right ++ at.site.after) (chain ++ front) p (o ∷ back) at.number
        (append_assoc at.site.chain (at.site.before ++ at.site.left) (at.pair ∷ (at.site.right ++ at.site.after)) ∙ sym at.is ∙ sym (append_assoc chain front (p ∷ o ∷ back)))

    none : at.site.right ≡ []
    none = run_ends at.site.left at.pair at.site.right at.is_site.run (ap (λ (x : Pair). is_hard_tail x.content.tail) same.pair ∙ c.soft)

    site : Site
    site = last_site at.site.chain at.site.before at.site.left back

    -- the thread with any pairs there
    there : (xs : List Pair) → chain ++ (front ++ (xs ++ back)) ≡ thread_at (last_site at.site.chain at.site.before at.site.left back) xs
    there xs = sym (append_assoc chain front (xs ++ back)) ∙ ap (λ z. z ++ (xs ++ back)) (sym same.front) ∙ append_assoc at.site.chain (at.site.before ++ at.site.left) (xs ++ back)

    old_is : chain ++ (front ++ p ∷ o ∷ back) ≡ thread_at (last_site at.site.chain at.site.before at.site.left back) (p ∷ ([] ++ o ∷ []))
    old_is = there (p ∷ o ∷ [])

    new_is : chain ++ (front ++ q ∷ back) ≡ thread_at (last_site at.site.chain at.site.before at.site.left back) (q ∷ [])
    new_is = there (q ∷ [])

    -- as many superblock's pairs
    chain_length : length at.site.chain ≡ length chain
    chain_length = sym at.is_site.chain ∙ ap count_before_root (sym at.is) ∙ r.is_chain

    is_chain : IsChain at.site.chain (dirs_at (last_site at.site.chain at.site.before at.site.left back) (p ∷ ([] ++ o ∷ [])))
    is_chain = ap count_before_root (sym old_is) ∙ r.is_chain ∙ sym chain_length

    step : IsStepDrop disk new at.site.chain at.site.before at.site.left back p [] o q [] [] [] p.content.slots [] [] []
    step = record {
      accepted = subst (IsAccepted disk) old_is r.accepted;
      is_chain = is_chain;
      ends = at.is_site.ends;
      run = subst (λ (x : Pair). IsRun (at.site.left ++ x ∷ [])) same.pair (subst (λ (z : List Pair). IsRun (at.site.left ++ (at.pair ∷ [] ++ z))) none at.is_site.run);
      no_move = subst (λ z. HasNoMove (pairs_gstate z)) old_is r.no_move;
      still_none = subst (λ z. HasNoMove (pairs_gstate z)) new_is c.no_move;
      device = subst (λ z. IsDevice disk new z (thread_at (last_site at.site.chain at.site.before at.site.left back) (q ∷ []))) old_is
          (subst (IsDevice disk new (chain ++ (front ++ p ∷ o ∷ back))) new_is c.device);
      free = record { distinct = (subst (IsAccepted disk) old_is r.accepted).owned_once; in_range = λ k d l. absurd (omega arith) };
      shape = unthread_shape p o q c.at c.tail (λ e. ap begins_with_superblock c.slots ∙ e);
      was = refl;
      is = append-nil q.content.slots ∙ c.slots ∙ sym (append-nil p.content.slots);
      splice = record { front = λ e. refl; entries = tt; lists = tt; blocks = λ b. omega arith };
    }

    taken : IsWritableChange disk (chain ++ (front ++ p ∷ o ∷ back)) new (chain ++ (front ++ q ∷ back)) (λ t. t) (λ d. d)
    taken = subst (λ z. IsWritableChange disk z new (chain ++ (front ++ q ∷ back)) (λ t. t) (λ d. d)) (sym old_is)
        (subst (λ z. IsWritableChange disk (thread_at (last_site at.site.chain at.site.before at.site.left back) (p ∷ ([] ++ o ∷ []))) new z (λ t. t) (λ d. d)) (sym new_is)
        (unthread_taken disk new at.site.chain at.site.before at.site.left back p o q p.content.slots [] (λ t. t) (λ d. d) (subst (IsWritable disk) old_is r.writable) c.tail c.slots step
        (unthreaded disk new at.site.chain at.site.before at.site.left back p [] o q [] p.content.slots [] step
        (λ path x l e. c.unled path x (subst (λ z. IsDirectoryAtPath z path x) (sym old_is) l) e)
        (λ e. let k = c.reached (ap (λ z. (pairs_gstate z).sync) new_is ∙ e) in (k.0, subst (λ z. AllReachedBut z o.at) old_is k.1)))))

    ready : IsReady new chain (front ++ q ∷ back)
    ready = record {
      accepted = taken.follows.accepted;
      writable = taken.writable;
      no_move = c.no_move;
      is_chain = ap count_before_root new_is
          ∙ chain_now disk new at.site.chain (at.site.before ++ at.site.left) p ([] ++ o ∷ []) q [] back ([] ++ []) is_chain (subst (IsAccepted disk) old_is r.accepted)
          (drop_change disk new at.site.chain at.site.before at.site.left back p [] o q [] [] [] p.content.slots [] [] [] step)
          ∙ chain_length;
    }
