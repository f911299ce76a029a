-- A search that begins with the second pair of a directory, whose first one has no slots.
use Rattle.std.proofs.Common.{ℕ, ◌≡◌, ◌≢◌, ◌⊎◌, inl, inr, ◌+◌, ◌<◌, List, [], ◌∷◌, ◌++◌, length, take, drop, refl, sym, ap, ap₂, subst, ◌∙◌, arith, None, Result, IfOk}
use Rattle.std.proofs.lemmas.List.{drop_more}
use Rattle.std.proofs.lemmas.Result.{IfOk-weaker}
use Rattle.lfs_lookup.proofs.Common.{length-take, take-append-drop, drop-append_seam, IsDirectoryPair, Name, Slot, Pair, all_slots, entry_slots, joined_pair_count, joined_pairs, thread_pair, empty_anchor, ArePairsCached, IsNamePositionInDirectory, HaveNoSuperblock, EachPairHasSlot, KeptThread, ThreadView}
use Rattle.lfs_device.specs.declared.error.Error.{Error}
use Rattle.lfs_model.specs.declared.order.NameOrder.{NameOrder}
use Rattle.lfs_lookup.specs.NameSearch.{SearchSkipsEmptyPair, SearchStartsAt}
use Rattle.lfs_lookup.specs.Reads.{ReadsDirectoryOnce}
use Rattle.lfs_lookup.specs.declared.search.NamePositionInDirectory.{NamePositionInDirectory}
use Rattle.lfs_lookup.specs.declared.search.NamePositionInDirectory.TheVariants.{Found, Place}
use Rattle.lfs_lookup.proofs.Directories.{run_hard_on, run_some_on}
use Rattle.lfs_lookup.proofs.Walked.{run_on}

module _ (t : KeptThread) (first next : ℕ) (p : SearchSkipsEmptyPair t first next) where
  abbrev q : Pair
  q = thread_pair t first

  below : first < length t.pairs
  below = let e = p.follows in let l = p.below in omega arith

  longer : joined_pairs (drop first t.pairs) ≡ q ∷ joined_pairs (drop next t.pairs)
  longer = run_hard_on t.pairs first next empty_anchor below p.hard p.follows

  without_slots : (slots : List Slot) → q.content.slots ≡ slots → q.content.slots ≡ []
  without_slots [] e = e
  without_slots (s ∷ slots) e = absurd (let k = ap length e in let n = p.none in omega arith)

  -- the directory's pairs with the first one
  with_first : (index : ℕ) (pair : Pair) (rest : List Pair) → IsDirectoryPair t.pairs next index pair rest → IsDirectoryPair t.pairs first index pair rest
  with_first index pair rest d =
      let behind : drop next t.pairs ≡ d.left ++ pair ∷ rest = ap₂ (λ (n : ℕ) z. drop n z) (sym d.begins) d.parts ∙ drop-append_seam d.front (d.left ++ pair ∷ rest) in
      let on : drop first t.pairs ≡ q ∷ drop next t.pairs = drop_more t.pairs first empty_anchor below ∙ ap (λ (n : ℕ). q ∷ drop n t.pairs) (sym p.follows) in
      record {
        front = take first t.pairs;
        left = q ∷ d.left;
        parts = sym (take-append-drop first t.pairs) ∙ ap (λ z. take first t.pairs ++ z) (on ∙ ap (λ z. q ∷ z) behind);
        begins = (let n = length-take first t.pairs in let l = below in omega (arith, n, l));
        number = (let n = length-take first t.pairs in let l = below in let b = d.begins in let m = d.number in let e = p.follows in omega (arith, n, l, b, m, e));
        joined = (p.hard, d.joined);
      }

  finds : (order : NameOrder) (name : Name) (at : NamePositionInDirectory) → IsNamePositionInDirectory order t.pairs next name at → IsNamePositionInDirectory order t.pairs first name at
  unfolding with_first
  finds order name (Found spot entry) f = (record { pair = f.0.pair; rest = f.0.rest; place = with_first spot.pair f.0.pair f.0.rest f.0.place; stands = f.0.stands }, f.1)
  finds order name (Place spot) b = record {
    pair = b.pair;
    later = b.later;
    rest = b.rest;
    place = with_first spot.pair b.pair (b.later ++ b.rest) b.place;
    runs = b.runs;
    left = b.left;
    right = b.right;
    held = b.held;
    number = b.number;
    less = b.less;
    fronted = b.fronted;
    not_before = none b.not_before;
    not_behind = b.not_behind;
  }
    where
      none : (entry_slots (all_slots b.place.left) ≡ []) ⊎ (entry_slots b.left ≢ []) → (entry_slots (all_slots (q ∷ b.place.left)) ≡ []) ⊎ (entry_slots b.left ≢ [])
      none (inl e) = inl (ap (λ z. entry_slots (z ++ all_slots b.place.left)) (without_slots q.content.slots refl) ∙ e)
      none (inr n) = inr n

-- how few pairs are read
reads : {X : Type 0} (old new : ThreadView) (result : Result X Error) (first next : ℕ) → SearchSkipsEmptyPair old.kept first next → ReadsDirectoryOnce None next old new result → ReadsDirectoryOnce None first old new result
reads old new result first next p r = record {
  few = (
      let few = r.few in
      let more = run_on old.kept.pairs first empty_anchor (below old.kept first next p) p.hard in
      let same = ap (λ (n : ℕ). joined_pair_count (drop n old.kept.pairs)) p.follows in
      omega (arith, few, more, same)
      );
  halves = λ none slots. absurd (let s = (subst EachPairHasSlot run slots).0 in let n = p.none in omega (arith, s, n));
  loads = record {
    none = λ h. r.loads.none (subst (ArePairsCached old) run h).1;
    stay = λ h. r.loads.stay (subst (ArePairsCached old) run h).1;
    one = λ e. absurd (let some = run_some_on old.kept.pairs next empty_anchor p.below in let k = ap length run in omega (arith, e, some, k));
  };
}
  where
    run : joined_pairs (drop first old.kept.pairs) ≡ thread_pair old.kept first ∷ joined_pairs (drop next old.kept.pairs)
    run = longer old.kept first next p

-- ---- from either

pub entries_from : (t : KeptThread) (first start : ℕ) → SearchStartsAt t first start → HaveNoSuperblock (drop (first + 1) t.pairs) → HaveNoSuperblock (drop (start + 1) t.pairs)
entries_from t first start (inl e) h = subst (λ (n : ℕ). HaveNoSuperblock (drop (n + 1) t.pairs)) (sym e) h
entries_from t first start (inr p) h = (subst HaveNoSuperblock (drop_more t.pairs start empty_anchor p.below) (subst (λ (n : ℕ). HaveNoSuperblock (drop n t.pairs)) (sym p.follows) h)).1

pub finds_from : (t : KeptThread) (first start : ℕ) (name : Name) (r : Result NamePositionInDirectory Error) → SearchStartsAt t first start → IfOk r (IsNamePositionInDirectory t.disk.order t.pairs start name) → IfOk r (IsNamePositionInDirectory t.disk.order t.pairs first name)
finds_from t first start name r (inl e) h = subst (λ (n : ℕ). IfOk r (IsNamePositionInDirectory t.disk.order t.pairs n name)) e h
finds_from t first start name r (inr p) h = IfOk-weaker r (IsNamePositionInDirectory t.disk.order t.pairs start name) (IsNamePositionInDirectory t.disk.order t.pairs first name) (finds t first start p t.disk.order name) h

pub reads_from : {X : Type 0} (old new : ThreadView) (result : Result X Error) (first start : ℕ) → SearchStartsAt old.kept first start → ReadsDirectoryOnce None start old new result → ReadsDirectoryOnce None first old new result
reads_from old new result first start (inl e) r = subst (λ (n : ℕ). ReadsDirectoryOnce None n old new result) e r
reads_from old new result first start (inr p) r = reads old new result first start p r
