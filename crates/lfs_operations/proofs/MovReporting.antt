-- The errors of two steps, one after the other, and what a stop in them leaves.
use Rattle.lfs_operations.proofs.Common.{ℕ, zero, suc, ◌≡◌, ◌≢◌, ◌+◌, ◌-◌, ◌<◌, ◌≤◌, ◌⊎◌, inl, inr, Bool, true, false, cond, List, [], ◌∷◌, length, Result, Ok, Err, refl, sym, ap, subst, ◌∙◌, arith, get_or, insert, length-set, set, cases_lt, le-ltb, lt-ltb, ContentChange, Disk, CallEvent, AllCallsSince, fault_count, Blocks, HasEitherTree as IsLeftOf, SurvivesLossSince, with_blocks, Pair, address_blocks, disk_tree, survives_then, HoldsAtLosses-weaker, CleanLossLeaves, KeptThread, ThreadView, SameGeometryAs, IsPairCommitted, ChangesThreadBlocks, back_pair, front_pair, empty_anchor, thread_pair, IfErr, IsErrOf, is_err, Error, Io, NoMemory, NoSpace, IsSplitInto, LeftByCommitOrSplit, AreCommittedOrSplit, WritesPairAndTwoFree, has_failed_after, move_ending_written_pair, CanEndMoveAfterCopy, PowerLossKeepsEitherTree, ReportsAllocatingCommits, WritesPairsAndTwoFree, pair_index_after_insertion, ReportsCommit, ⊎_elim, OnlyReadsThread}
use Rattle.lfs_operations.proofs.Putting.{writes_trans, writes_among}
use Rattle.std.proofs.lemmas.List.Edits.{get_or-insert_above, get_or-insert_at, get_or-insert_below, length-insert}

-- the errors of an operation that has enough free blocks
pub reports_spaced : {X : Type 0} (old new : ThreadView) (index : ℕ) (changes : List ContentChange) (r : Result X Error) → (new.failed ≡ has_failed_after r) ⊎ ((new.failed ≡ false) × OnlyReadsThread old.kept new.kept)
    → IfErr r (λ e. (e ≡ Io) ⊎ (e ≡ NoMemory)) → (IsErrOf r Io → fault_count old.kept.history < fault_count new.kept.history) → (¬ IsErrOf r Io → fault_count new.kept.history ≡ fault_count old.kept.history) → ReportsAllocatingCommits old new index changes r
reports_spaced {X = X} old new index changes r failed errors fault no_fault = record {
  failed = failed;
  errors = wider r errors;
  fault = fault;
  no_fault = no_fault;
  unchanged = λ none. absurd (not_space r errors none);
  no_space = λ none. absurd (not_space r errors none);
  too_large = λ none. absurd (not_space r errors none);
}
  where
    wider : (r : Result X Error) → IfErr r (λ e. (e ≡ Io) ⊎ (e ≡ NoMemory)) → IfErr r (λ e. (e ≡ Io) ⊎ ((e ≡ NoMemory) ⊎ (e ≡ NoSpace)))
    wider (Ok x) k = k
    wider (Err e) (inl k) = inl k
    wider (Err e) (inr k) = inr (inl k)

    not_space : (r : Result X Error) → IfErr r (λ e. (e ≡ Io) ⊎ (e ≡ NoMemory)) → r ≡ Err NoSpace → ⊥
    not_space (Ok x) h e = absurd (cc)
    not_space (Err e) (inl h) k = let z : e ≡ NoSpace = cc in absurd (let w = sym h ∙ z in cc)
    not_space (Err e) (inr h) k = let z : e ≡ NoSpace = cc in absurd (let w = sym h ∙ z in cc)

pub reports_of_end : (old mid new : ThreadView) (index : ℕ) (changes : List ContentChange) (r : Result (Unit {0}) Error) → fault_count mid.kept.history ≡ fault_count old.kept.history → ReportsCommit mid new r → ReportsAllocatingCommits old new index changes r
reports_of_end old mid new index changes r same h =
    reports_spaced old new index changes r (inl (go r h.failed h.reported.errors)) h.reported.errors (λ io. let k = h.reported.fault io in omega (arith, k, same)) (λ other. h.reported.no_fault other ∙ same)
  where
    go : (r : Result (Unit {0}) Error) → new.failed ≡ is_err r → IfErr r (λ e. (e ≡ Io) ⊎ (e ≡ NoMemory)) → new.failed ≡ has_failed_after r
    go (Ok x) f k = f
    go (Err e) f (inl io) = f ∙ sym (ap (λ z. has_failed_after {X = Unit {0}} (Err z)) io)
    go (Err e) f (inr memory) = f ∙ sym (ap (λ z. has_failed_after {X = Unit {0}} (Err z)) memory)

pub not_io : {X : Type 0} (r : Result X Error) (x : X) → r ≡ Ok x → IsErrOf r Io → ⊥
not_io r x is io = absurd (let z = sym is ∙ io in cc)

-- ---- the device

pub writes_first : (old mid : KeptThread) (one other : ℕ) → WritesPairAndTwoFree old other mid → WritesPairsAndTwoFree old one other mid
writes_first old mid one other w = record { fresh = w.fresh; few = w.few; free = w.free; writes = writes_among (λ b some. omega (arith, some)) w.writes }

pub writes_both : (old mid new : KeptThread) (one other place : ℕ) → (thread_pair mid place).at ≡ (thread_pair old one).at → WritesPairAndTwoFree old other mid → ChangesThreadBlocks (address_blocks (thread_pair mid place).at) mid new → WritesPairsAndTwoFree old one other new
unfolding writes_first
writes_both old mid new one other place at w e = record {
  fresh = w.fresh;
  few = w.few;
  free = w.free;
  writes = writes_trans (writes_first old mid one other w).writes (writes_among (λ b some. omega (arith, some)) (subst (λ (a : ℕ × ℕ). ChangesThreadBlocks (address_blocks a) mid new) at e));
}

-- ---- the pair in front of the old one, once the new one has changed

get_set : (xs : List Pair) (i j : ℕ) (p d : Pair) → p.at ≡ (get_or xs i d).at → (get_or (set xs i p) j d).at ≡ (get_or xs j d).at
get_set [] i j p d e = refl
get_set (x ∷ xs) zero zero p d e = e
get_set (x ∷ xs) zero (suc j) p d e = refl
get_set (x ∷ xs) (suc i) zero p d e = refl
get_set (x ∷ xs) (suc i) (suc j) p d e = get_set xs i j p d e

-- the index of a pair after so many were inserted behind another one
abbrev IsNumbered : ℕ → ℕ → ℕ → Type 0
IsNumbered i o n = ((i < o) × (pair_index_after_insertion i o n ≡ i)) ⊎ ((o < i) × (pair_index_after_insertion i o n ≡ i + n))

numbered : (i o n : ℕ) → i ≢ o → IsNumbered i o n
numbered i o n apart = go (cases_lt i o) (cases_lt o i)
  where
    go : (i < o) ⊎ (o ≤ i) → (o < i) ⊎ (i ≤ o) → IsNumbered i o n
    go (inl l) k = inl (l, ap (λ b. cond b i (i + n)) (lt-ltb i o l))
    go (inr l) (inl k) = inr (k, ap (λ b. cond b i (i + n)) (le-ltb i o l))
    go (inr l) (inr k) = absurd (apart (omega (arith, l, k)))

-- Where the first step has put the changes, the second one writes the pair in front of the old one: that is a pair that stood
-- there, or a fresh one.
module _ (old mid new : KeptThread) (index other : ℕ) (changes : List ContentChange) (below : other < length old.pairs) (first : WritesPairAndTwoFree old other mid)
    (second : ChangesThreadBlocks (address_blocks (thread_pair mid (pair_index_after_insertion index other (length mid.pairs - length old.pairs) - 1)).at) mid new)
    (at : IsNumbered index other (length mid.pairs - length old.pairs)) where
  stood : (n : ℕ) → pair_index_after_insertion index other (length mid.pairs - length old.pairs) - 1 ≡ n → (thread_pair mid n).at ≡ (thread_pair old (index - 1)).at → WritesPairsAndTwoFree old (index - 1) other new
  stood n is same = writes_both old mid new (index - 1) other (pair_index_after_insertion index other (length mid.pairs - length old.pairs) - 1) (ap (λ (i : ℕ). (thread_pair mid i).at) is ∙ same) first second

  changed : IsPairCommitted old other changes mid → WritesPairsAndTwoFree old (index - 1) other new
  changed is =
      let p : Pair = record { at = (thread_pair old other).at; content = is.content } in
      let many = ap length is.pairs ∙ length-set old.pairs other p in
      stood (index - 1) (⊎_elim (λ k. let e = k.1 in omega (arith, e)) (λ k. let e = k.1 in omega (arith, e, many)) at) (ap (λ z. (get_or z (index - 1) empty_anchor).at) is.pairs ∙ get_set old.pairs other (index - 1) p empty_anchor refl)

  module _ (fresh : ℕ × ℕ) (is : IsSplitInto old other fresh changes mid) where
    abbrev front : Pair
    front = front_pair old other is.content is.cut fresh

    abbrev back : Pair
    back = back_pair is.content is.cut fresh

    there : (j : ℕ) → (thread_pair mid j).at ≡ (get_or (insert (set old.pairs other front) (other + 1) back) j empty_anchor).at
    there j = ap (λ z. (get_or z j empty_anchor).at) is.pairs

    within : other + 1 ≤ length (set old.pairs other front)
    within = let e = length-set old.pairs other front in omega (arith, e, below)

    one : length mid.pairs - length old.pairs ≡ 1
    one = let e = ap length is.pairs ∙ length-insert (set old.pairs other front) (other + 1) back within in let f = length-set old.pairs other front in omega (arith, e, f)

    cut : IsNumbered index other (length mid.pairs - length old.pairs) → WritesPairsAndTwoFree old (index - 1) other new
    cut (inl (l, e)) = stood (index - 1) (omega (arith, e))
        (there (index - 1) ∙ ap (λ (z : Pair). z.at) (get_or-insert_below (set old.pairs other front) (other + 1) back empty_anchor (index - 1) (omega (arith, l)) within) ∙ get_set old.pairs other (index - 1) front empty_anchor refl)
    cut (inr (l, e)) = go (cases_lt (other + 1) index)
      where
        go : (other + 1 < index) ⊎ (index ≤ other + 1) → WritesPairsAndTwoFree old (index - 1) other new
        go (inl k) = stood (index - 1 + 1) (let m = one in omega (arith, e, m, k))
            (there (index - 1 + 1) ∙ ap (λ (z : Pair). z.at) (get_or-insert_above (set old.pairs other front) (other + 1) back empty_anchor (index - 1) (omega (arith, k)) within) ∙ get_set old.pairs other (index - 1) front empty_anchor refl)
        go (inr k) =
            let next : pair_index_after_insertion index other (length mid.pairs - length old.pairs) - 1 ≡ other + 1 = (let m = one in omega (arith, e, m, l, k)) in
            let same = ap (λ (i : ℕ). (thread_pair mid i).at) next ∙ there (other + 1) ∙ ap (λ (z : Pair). z.at) (get_or-insert_at (set old.pairs other front) (other + 1) back empty_anchor within) in
            record {
              fresh = fresh.0 ∷ fresh.1 ∷ [];
              few = omega arith;
              free = (is.free.first, (is.free.second, tt));
              writes = writes_trans (writes_among (λ b some. omega (arith, some)) is.writes) (writes_among (λ b some. omega (arith, some)) (subst (λ (a : ℕ × ℕ). ChangesThreadBlocks (address_blocks a) mid new) same second));
            }

  writes_in_front : AreCommittedOrSplit old other changes mid → WritesPairsAndTwoFree old (index - 1) other new
  writes_in_front (inl is) = changed is
  writes_in_front (inr (large, (fresh, is))) = cut fresh is at

pub writes_at_end : (old mid new : KeptThread) (old_pair old_id : ℕ) (goes : Bool) (new_pair : ℕ) (changes : List ContentChange) → AreCommittedOrSplit old new_pair changes mid → new_pair < length old.pairs → CanEndMoveAfterCopy old old_pair old_id goes new_pair mid
    → WritesPairAndTwoFree old new_pair mid → ChangesThreadBlocks (address_blocks (thread_pair mid (move_ending_written_pair (pair_index_after_insertion old_pair new_pair (length mid.pairs - length old.pairs)) goes)).at) mid new → WritesPairsAndTwoFree old (move_ending_written_pair old_pair goes) new_pair new
unfolding writes_both
writes_at_end old mid new old_pair old_id false new_pair changes put below ends first second =
    writes_both old mid new old_pair new_pair (pair_index_after_insertion old_pair new_pair (length mid.pairs - length old.pairs)) ends.at first second
writes_at_end old mid new old_pair old_id true new_pair changes put below ends first second =
    writes_in_front old mid new old_pair new_pair changes below first second (numbered old_pair new_pair (length mid.pairs - length old.pairs) ends.apart) put

-- ---- at a power loss

same_disk : (old new : Disk) (blocks : Blocks) → SameGeometryAs old new → with_blocks blocks new ≡ with_blocks blocks old
same_disk old new blocks h = λ j. record { block_size = h.block_size j; page = h.page j; order = h.order j; profile = h.profile j; blocks = blocks }

pub survives_both : (old mid new : KeptThread) (index : ℕ) (changes : List ContentChange) {P : CallEvent → Type 0} → AreCommittedOrSplit old index changes mid → CleanLossLeaves old.history mid.history (LeftByCommitOrSplit old index changes)
    → WritesPairAndTwoFree old index mid → AllCallsSince P mid.history new.history → SurvivesLossSince mid.disk mid.history new.history (disk_tree mid.disk mid.pairs) (disk_tree mid.disk mid.pairs) → PowerLossKeepsEitherTree old index changes new
survives_both old mid new index changes put stops w since second before after first shows =
    survives_then old.disk old.history mid.history new.history before after w.writes.at_worst since (first mid.history stops) (λ clean. HoldsAtLosses-weaker left (second clean))
  where
    left : (blocks : Blocks) → IsLeftOf (with_blocks blocks mid.disk) (disk_tree mid.disk mid.pairs) (disk_tree mid.disk mid.pairs) → IsLeftOf (with_blocks blocks old.disk) before after
    left blocks k = subst (λ d. IsLeftOf d before after) (same_disk old.disk mid.disk blocks w.writes.shape)
        (record { pairs = k.pairs; accepted = k.accepted; writable = k.writable; tree = inr (⊎_elim (λ e. e) (λ e. e) k.tree ∙ shows mid put) })
