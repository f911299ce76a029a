-- A recovery, pair by pair in the thread's order: a pair whose directory a path leads to is kept, any other is dropped. It may drop any number.
use Rattle.std.proofs.Common.{ℕ, ◌≡◌, ◌≢◌, inl, true, List, [], ◌∷◌, ◌++◌, length, take, Option, None, refl, sym, ap, subst, ◌∙◌, append_assoc, append-nil, subst₂}
use Rattle.std.specs.Prelude.{is_some}
use Rattle.lfs_model.proofs.Common.{Disk, zero_gstate, Pair, pairs_gstate, slots_not_moved, count_before_root, pairs_from_root, IsAccepted, IsReachedDirectory, disk_tree, IsWritable, Session, directory_address, continued_directory_address}
use Rattle.lfs_model.specs.session.Operations as ops
use Rattle.lfs_model.proofs.Changes.{follows_itself}
use Rattle.lfs_model.proofs.LeftFiles.{ends_same}
use Rattle.lfs_model.proofs.Counts.{Each}
use Rattle.lfs_model.proofs.Global.{HasNoMove, unmoved_all}
use Rattle.lfs_model.proofs.Superblocks.{IsChain}
use Rattle.lfs_model.proofs.Found.{chain_of_thread}
use Rattle.lfs_model.proofs.Laws.{PathAddresses}
use Rattle.lfs_model.proofs.Layouts.{singles, joined_parts, joined_singles, joined_append, onward_all}
use Rattle.lfs_model.proofs.Alike.{SameSlots, alike_itself, alike_append}
use Rattle.lfs_model.proofs.Committed.{CompletesOperation}
use Rattle.lfs_model.proofs.RecoveredImage.{Fates, recover_completed}
use Rattle.lfs_model.proofs.StepsTaken.{IsWritableChange, taken_then}
use Rattle.lfs_model.proofs.Unthreaded.{IsUnthreaded, IsReady, unthread}

-- ---- the pairs still to come

-- The pair is there without the slot that a set move named; or it is gone already, since that was its only one.
abbrev pub Waits : List Pair → Option (ℕ × ℕ) → Pair → List Pair → Type 0
Waits ps from p [] = (is_some from ≡ true) × (slots_not_moved (pairs_gstate ps) p ≡ [])
Waits ps from p (x ∷ []) = (x.at ≡ p.at) × (x.content.slots ≡ slots_not_moved (pairs_gstate ps) p)
Waits ps from p (x ∷ y ∷ xs) = ⊥

abbrev pub AllWait : List Pair → Option (ℕ × ℕ) → List Pair → List (List Pair) → Type 0
AllWait ps from [] [] = Unit {0}
AllWait ps from [] (x ∷ xs) = ⊥
AllWait ps from (p ∷ todo) [] = ⊥
AllWait ps from (p ∷ todo) (now ∷ waits) = Waits ps from p now × AllWait ps (continued_directory_address from p) todo waits

-- ---- on the way

-- Of the pairs ps the ones seen came to parts, which are there as kept; the others, todo, are there as waits say.
pub record IsRecovering (disk : Disk) (ps : List Pair) (now : Disk) (chain seen todo : List Pair) (parts waits : List (List Pair)) (kept : List Pair) : Type 0 where
  pub are : ps ≡ chain ++ (seen ++ todo)
  pub was_chain : IsChain chain (seen ++ todo)
  pub plain : Each (λ p. slots_not_moved (pairs_gstate ps) p ≡ p.content.slots) chain
  pub fates : Fates ps 0 None seen parts
  pub alike : SameSlots (joined_parts parts) kept
  pub wait : AllWait ps (onward_all None seen) todo waits
  pub taken : IsWritableChange disk ps now (chain ++ (kept ++ joined_parts waits)) (λ t. t) (λ d. d)
  pub ready : IsReady now chain (kept ++ joined_parts waits)

fates_append : (ps : List Pair) (from : Option (ℕ × ℕ)) (xs ys : List Pair) (us vs : List (List Pair)) → Fates ps 0 from xs us → Fates ps 0 (onward_all from xs) ys vs → Fates ps 0 from (xs ++ ys) (us ++ vs)
fates_append ps from [] ys [] vs h k = k
fates_append ps from [] ys (u ∷ us) vs h k = absurd h
fates_append ps from (x ∷ xs) ys [] vs h k = absurd h
fates_append ps from (x ∷ xs) ys (u ∷ us) vs h k = (h.0, fates_append ps (continued_directory_address from x) xs ys us vs h.1 k)

fates_behind : (ps chain xs : List Pair) (us : List (List Pair)) → Each (λ p. slots_not_moved (pairs_gstate ps) p ≡ p.content.slots) chain → Fates ps 0 None xs us → Fates ps (length chain) None (chain ++ xs) (singles chain ++ us)
fates_behind ps [] xs us h k = k
fates_behind ps (c ∷ chain) xs us h k = (refl, h.0, fates_behind ps chain xs us h.1 k)

onward_end : (from : Option (ℕ × ℕ)) (xs : List Pair) (p : Pair) → onward_all from (xs ++ p ∷ []) ≡ continued_directory_address (onward_all from xs) p
onward_end from [] p = refl
onward_end from (x ∷ xs) p = onward_end (continued_directory_address from x) xs p

-- one that is seen more
seen_more : (chain seen : List Pair) (p : Pair) (todo : List Pair) → chain ++ (seen ++ p ∷ todo) ≡ chain ++ ((seen ++ p ∷ []) ++ todo)
seen_more chain seen p todo = ap (λ z. chain ++ z) (sym (append_assoc seen (p ∷ []) todo))

alike_last : (xs front : List Pair) (p q : Pair) → q.at ≡ p.at → q.content.slots ≡ p.content.slots → SameSlots xs (front ++ p ∷ []) → SameSlots xs (front ++ q ∷ [])
alike_last [] [] p q e f h = absurd h
alike_last [] (y ∷ front) p q e f h = absurd h
alike_last (x ∷ xs) [] p q e f h = (e ∙ h.0, f ∙ h.1, h.2)
alike_last (x ∷ xs) (y ∷ front) p q e f h = (h.0, h.1, alike_last xs front p q e f h.2)

module _ (disk : Disk) (ps : List Pair) (now : Disk) (chain seen : List Pair) (p : Pair) (todo : List Pair) (parts waits : List (List Pair)) (kept : List Pair) where
  -- a pair whose directory is reached stays
  pub recovery_keeps : (x : Pair) → IsRecovering disk ps now chain seen (p ∷ todo) parts ((x ∷ []) ∷ waits) kept → IsReachedDirectory ps (directory_address (onward_all None seen) p)
      → (is_some (onward_all None seen) ≡ true → slots_not_moved (pairs_gstate ps) p ≢ []) → IsRecovering disk ps now chain (seen ++ p ∷ []) todo (parts ++ (x ∷ []) ∷ []) waits (kept ++ x ∷ [])
  recovery_keeps x r reached some = record {
    are = r.are ∙ seen_more chain seen p todo;
    was_chain = ap count_before_root (sym (seen_more chain seen p todo)) ∙ r.was_chain;
    plain = r.plain;
    fates = fates_append ps None seen (p ∷ []) parts ((x ∷ []) ∷ []) r.fates ((r.wait.0.0, r.wait.0.1, reached, some), tt);
    alike = subst (λ z. SameSlots z (kept ++ x ∷ [])) (sym (joined_append parts ((x ∷ []) ∷ []))) (alike_append (joined_parts parts) (x ∷ []) kept (x ∷ []) r.alike (alike_itself (x ∷ [])));
    wait = subst (λ z. AllWait ps z todo waits) (sym (onward_end None seen p)) r.wait.1;
    taken = subst (λ z. IsWritableChange disk ps now (chain ++ z) (λ t. t) (λ d. d)) (sym (append_assoc kept (x ∷ []) (joined_parts waits))) r.taken;
    ready = subst (IsReady now chain) (sym (append_assoc kept (x ∷ []) (joined_parts waits))) r.ready;
  }

  -- a pair whose directory isn't reached goes
  pub recovery_drops : (new : Disk) (front : List Pair) (before o q : Pair) → kept ≡ front ++ before ∷ [] → IsRecovering disk ps now chain seen (p ∷ todo) parts ((o ∷ []) ∷ waits) kept
      → (IsReachedDirectory ps (directory_address (onward_all None seen) p) → ⊥) → IsUnthreaded now new chain front before o q (joined_parts waits)
      → IsRecovering disk ps new chain (seen ++ p ∷ []) todo (parts ++ [] ∷ []) waits (front ++ q ∷ [])
  recovery_drops new front before o q is r unreached c =
      let here : kept ++ o ∷ joined_parts waits ≡ front ++ before ∷ o ∷ joined_parts waits = ap (λ z. z ++ o ∷ joined_parts waits) is ∙ append_assoc front (before ∷ []) (o ∷ joined_parts waits) in
      let u = unthread now new chain front before o q (joined_parts waits) (subst (IsReady now chain) here r.ready) c in
      let there : front ++ q ∷ joined_parts waits ≡ (front ++ q ∷ []) ++ joined_parts waits = sym (append_assoc front (q ∷ []) (joined_parts waits)) in
      record {
        are = r.are ∙ seen_more chain seen p todo;
        was_chain = ap count_before_root (sym (seen_more chain seen p todo)) ∙ r.was_chain;
        plain = r.plain;
        fates = fates_append ps None seen (p ∷ []) parts ([] ∷ []) r.fates (inl unreached, tt);
        alike = subst (λ z. SameSlots z (front ++ q ∷ [])) (sym (joined_append parts ([] ∷ []) ∙ append-nil (joined_parts parts)))
            (alike_last (joined_parts parts) front before q c.at c.slots (subst (SameSlots (joined_parts parts)) is r.alike));
        wait = subst (λ z. AllWait ps z todo waits) (sym (onward_end None seen p)) r.wait.1;
        taken = taken_then disk now new ps (chain ++ (kept ++ o ∷ joined_parts waits)) (chain ++ ((front ++ q ∷ []) ++ joined_parts waits)) (λ t. t) (λ t. t) (λ d. d) (λ d. d) (ends_same (λ t. t)) r.taken
            (subst₂ (λ y z. IsWritableChange now (chain ++ y) new (chain ++ z) (λ t. t) (λ d. d)) (sym here) there u.taken);
        ready = subst (IsReady new chain) there u.ready;
      }

-- ---- its ends

nothing_done : (disk : Disk) (ps : List Pair) → IsAccepted disk ps → IsWritable disk ps → IsWritableChange disk ps disk ps (λ t. t) (λ d. d)
nothing_done disk ps ok fits = record { follows = follows_itself disk ps ok; writable = fits }

-- where no move is set, all pairs wait as they are
pub recovery_begins : (disk : Disk) (ps : List Pair) → IsAccepted disk ps → IsWritable disk ps → HasNoMove (pairs_gstate ps)
    → IsRecovering disk ps disk (take (count_before_root ps) ps) [] (pairs_from_root ps) [] (singles (pairs_from_root ps)) []
recovery_begins disk ps ok fits none =
    let e = chain_of_thread ps in
    let same : ps ≡ take (count_before_root ps) ps ++ joined_parts (singles (pairs_from_root ps)) = e.0 ∙ ap (λ z. take (count_before_root ps) ps ++ z) (sym (joined_singles (pairs_from_root ps))) in
    record {
      are = e.0;
      was_chain = e.1;
      plain = all_plain (take (count_before_root ps) ps);
      fates = tt;
      alike = tt;
      wait = all_wait None (pairs_from_root ps);
      taken = subst (λ z. IsWritableChange disk ps disk z (λ t. t) (λ d. d)) same (nothing_done disk ps ok fits);
      ready = record {
        accepted = subst (IsAccepted disk) same ok;
        writable = subst (IsWritable disk) same fits;
        no_move = subst (λ z. HasNoMove (pairs_gstate z)) same none;
        is_chain = ap count_before_root (sym same) ∙ ap count_before_root e.0 ∙ e.1;
      };
    }
  where
    all_plain : (xs : List Pair) → Each (λ p. slots_not_moved (pairs_gstate ps) p ≡ p.content.slots) xs
    all_plain [] = tt
    all_plain (x ∷ xs) = (unmoved_all (pairs_gstate ps) none x, all_plain xs)

    all_wait : (from : Option (ℕ × ℕ)) (xs : List Pair) → AllWait ps from xs (singles xs)
    all_wait from [] = tt
    all_wait from (x ∷ xs) = ((refl, sym (unmoved_all (pairs_gstate ps) none x)), all_wait (continued_directory_address from x) xs)

-- All pairs were seen. A last commit may have changed a delta of the global state, which now is none.
pub recovery_ends : (disk : Disk) (ps : List Pair) (now : Disk) (chain seen : List Pair) (parts : List (List Pair)) (kept : List Pair) (new : Disk) (rs : List Pair) (walk : PathAddresses → PathAddresses) (s : Session)
    → IsRecovering disk ps now chain seen [] parts [] kept → IsWritable disk ps → IsWritableChange now (chain ++ (kept ++ [])) new rs (λ t. t) walk → SameSlots (chain ++ kept) rs → pairs_gstate rs ≡ zero_gstate
    → s.tree ≡ disk_tree disk ps → CompletesOperation disk ps s ops.Recover new rs
recovery_ends disk ps now chain seen parts kept new rs walk s r fits last alike settled tree =
    let t = taken_then disk now new ps (chain ++ (kept ++ [])) rs (λ t. t) (λ t. t) (λ d. d) walk (ends_same (λ t. t)) r.taken last in
    let are : ps ≡ chain ++ seen = r.are ∙ ap (λ z. chain ++ z) (append-nil seen) in
    let count : count_before_root ps ≡ length chain = ap count_before_root r.are ∙ r.was_chain in
    recover_completed disk ps new rs (singles chain ++ parts) s (λ d. walk d) fits t.follows t.writable settled
    (subst₂ (λ n z. Fates ps n None z (singles chain ++ parts)) (sym count) (sym are) (fates_behind ps chain seen parts r.plain r.fates))
    (alike_through (joined_parts (singles chain ++ parts)) (chain ++ kept) rs
    (subst (λ z. SameSlots z (chain ++ kept)) (sym (joined_append (singles chain) parts ∙ ap (λ z. z ++ joined_parts parts) (joined_singles chain))) (alike_append chain (joined_parts parts) chain kept (alike_itself chain) r.alike)) alike)
    tree
  where
    alike_through : (xs ys zs : List Pair) → SameSlots xs ys → SameSlots ys zs → SameSlots xs zs
    alike_through [] [] [] h k = tt
    alike_through [] [] (z ∷ zs) h k = absurd k
    alike_through [] (y ∷ ys) zs h k = absurd h
    alike_through (x ∷ xs) [] zs h k = absurd h
    alike_through (x ∷ xs) (y ∷ ys) [] h k = absurd k
    alike_through (x ∷ xs) (y ∷ ys) (z ∷ zs) h k = (k.0 ∙ h.0, k.1 ∙ h.1, alike_through xs ys zs h.2 k.2)
