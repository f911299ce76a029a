-- Marks of the pairs that a path leads to.
use Rattle.std.proofs.Common.{ℕ, zero, suc, ◌≡◌, ◌+◌, ◌<◌, ◌⊎◌, ◌∙◌, inl, inr, Bool, true, false, cond, nat_eq, eqb-true, List, [], ◌∷◌, ◌++◌, length, map, get_or, set, slice_get, Option, Some, None, option_and_then, refl, sym, ap, subst, arith, append-nil, append_assoc, length-append, length-set, replicate}
use Rattle.std.specs.Prelude.{Contains}
use Rattle.std.specs.List.{IsDistinct}
use Rattle.lfs_tree.proofs.Common.{eqb-false, Contains-append_cases, Contains-append_left, Contains-append_right, same_Some, slice_get_within, Disk, IsPairAt, Name, same_name, slot_of_path, Slot, Struct, Inline, Ctz, Branch, same_pair, Pair, pairs_blocks, root_address, count_before_root, Path, struct_directory_address, entry_named, root_slot, slot_at_path, IsAccepted, IsDirectoryAtPath, all_entries, slice_get-set_other, slice_get-set_same, Each, each_right, pair_back, pair_on, HoldsForSome, directory_entries_from, LeadsToPair, DirectoriesBegin, AreReachedMarked, MarksAndQueues, IsFirstPairOfStruct, IsFirstPairOfNamed, unmarked_count, HasFirstPairIfDirectory, root_begins}
use Rattle.lfs_model.specs.tree.Tree.{DirectoryEntryMap, address_from_slot}
use Rattle.lfs_model.proofs.OneCommit.{slot_there}
use Rattle.lfs_model.proofs.Searches.{same_number}
use Rattle.lfs_lookup.specs.Items.{NamedStruct, named_struct}
use Rattle.lfs_tree.specs.Orphans.{IsMarkedReached}
use Rattle.lfs_lookup.proofs.Directories.{begins_with, own_shapes}
use Rattle.lfs_lookup.proofs.Visits.{leads_to, visit_begins}

-- ---- one mark

fewer_set : (m : List Bool) (n : ℕ) → slice_get m n ≡ Some false → unmarked_count (set m n true) + 1 ≡ unmarked_count m
fewer_set [] n e = absurd (cc)
fewer_set (b ∷ m) zero e = let f : b ≡ false = same_Some b false e in subst (λ x. unmarked_count (set (x ∷ m) 0 true) + 1 ≡ unmarked_count (x ∷ m)) (sym f) (go m)
  where
    go : (m : List Bool) → unmarked_count (set (false ∷ m) 0 true) + 1 ≡ unmarked_count (false ∷ m)
    go m = omega arith
fewer_set (b ∷ m) (suc n) e = let k = fewer_set m n e in omega arith

one_of : (n k : ℕ) → Contains (n ∷ []) k → k ≡ n
one_of n k h = go h.0 h.1 h.2
  where
    go : (i : ℕ) → i < length (n ∷ []) → get_or (n ∷ []) i k ≡ k → k ≡ n
    go zero l e = sym e
    go (suc i) l e = absurd (omega arith)

contains_one : (n : ℕ) → Contains (n ∷ []) n
contains_one n = (0, omega arith, refl)

none_in : (k : ℕ) → Contains [] k → ⊥
none_in k h = let l : h.0 < 0 = h.1 in absurd (omega arith)

pub mark_new : (m : List Bool) (p : List ℕ) (n : ℕ) → slice_get m n ≡ Some false → MarksAndQueues (λ k. k ≡ n) m p (set m n true) (p ++ n ∷ [])
mark_new m p n e = record {
  len = length-set m n true;
  stay = λ k h. stay k h (nat_eq k n) refl;
  marked = λ k f. subst (λ z. slice_get (set m n true) z ≡ Some true) (sym f) here;
  from = λ k h. from k h (nat_eq k n) refl;
  kept = λ k h. Contains-append_left p (n ∷ []) k h;
  pend = λ k h. pend k (Contains-append_cases p (n ∷ []) k h);
  less = let f = fewer_set m n e in let l = length-append p (n ∷ []) in omega arith;
}
  where
    here : slice_get (set m n true) n ≡ Some true
    here = slice_get-set_same m n true (slice_get_within m n false e)

    stay : (k : ℕ) → IsMarkedReached m k → (b : Bool) → nat_eq k n ≡ b → IsMarkedReached (set m n true) k
    stay k h true f = subst (λ z. slice_get (set m n true) z ≡ Some true) (sym (eqb-true k n f)) here
    stay k h false f = slice_get-set_other m n k true (eqb-false k n f) ∙ h

    from : (k : ℕ) → IsMarkedReached (set m n true) k → (b : Bool) → nat_eq k n ≡ b → IsMarkedReached m k ⊎ ((k ≡ n) × Contains (p ++ n ∷ []) k)
    from k h true f = inr (eqb-true k n f, subst (Contains (p ++ n ∷ [])) (sym (eqb-true k n f)) (Contains-append_right p (n ∷ []) n (contains_one n)))
    from k h false f = inl (sym (slice_get-set_other m n k true (eqb-false k n f)) ∙ h)

    pend : (k : ℕ) → Contains p k ⊎ Contains (n ∷ []) k → Contains p k ⊎ IsMarkedReached (set m n true) k
    pend k (inl h) = inl h
    pend k (inr h) = inr (subst (λ z. slice_get (set m n true) z ≡ Some true) (sym (one_of n k h)) here)

pub mark_old : (m : List Bool) (p : List ℕ) (n : ℕ) → slice_get m n ≡ Some true → MarksAndQueues (λ k. k ≡ n) m p m p
mark_old m p n e = record {
  len = refl;
  stay = λ k h. h;
  marked = λ k f. subst (λ z. slice_get m z ≡ Some true) (sym f) e;
  from = λ k h. inl h;
  kept = λ k h. h;
  pend = λ k h. inl h;
  less = omega arith;
}

pub mark_none : (P : ℕ → Type 0) (m : List Bool) (p : List ℕ) → ((k : ℕ) → P k → ⊥) → MarksAndQueues P m p m p
mark_none P m p none = record {
  len = refl;
  stay = λ k h. h;
  marked = λ k f. absurd (none k f);
  from = λ k h. inl h;
  kept = λ k h. h;
  pend = λ k h. inl h;
  less = omega arith;
}

pub mark_as : (P Q : ℕ → Type 0) (m n : List Bool) (p q : List ℕ) → ((k : ℕ) → Q k → P k) → ((k : ℕ) → P k → Q k) → MarksAndQueues P m p n q → MarksAndQueues Q m p n q
mark_as P Q m n p q back there h = record {
  len = h.len;
  stay = h.stay;
  marked = λ k x. h.marked k (back k x);
  from = λ k x. go k (h.from k x);
  kept = h.kept;
  pend = h.pend;
  less = h.less;
}
  where
    go : (k : ℕ) → IsMarkedReached m k ⊎ (P k × Contains q k) → IsMarkedReached m k ⊎ (Q k × Contains q k)
    go k (inl x) = inl x
    go k (inr x) = inr (there k x.0, x.1)

-- one after another
pub mark_then : (P Q : ℕ → Type 0) (m n o : List Bool) (p q r : List ℕ) → MarksAndQueues P m p n q → MarksAndQueues Q n q o r → MarksAndQueues (λ k. Q k ⊎ P k) m p o r
mark_then P Q m n o p q r h g = record {
  len = g.len ∙ h.len;
  stay = λ k x. g.stay k (h.stay k x);
  marked = λ k x. marked k x;
  from = λ k x. from k (g.from k x);
  kept = λ k x. g.kept k (h.kept k x);
  pend = λ k x. pend k (g.pend k x);
  less = let a = h.less in let b = g.less in omega arith;
}
  where
    marked : (k : ℕ) → Q k ⊎ P k → IsMarkedReached o k
    marked k (inl x) = g.marked k x
    marked k (inr x) = g.stay k (h.marked k x)

    first : (k : ℕ) → IsMarkedReached m k ⊎ (P k × Contains q k) → IsMarkedReached m k ⊎ ((Q k ⊎ P k) × Contains r k)
    first k (inl x) = inl x
    first k (inr x) = inr (inr x.0, g.kept k x.1)

    from : (k : ℕ) → IsMarkedReached n k ⊎ (Q k × Contains r k) → IsMarkedReached m k ⊎ ((Q k ⊎ P k) × Contains r k)
    from k (inl x) = first k (h.from k x)
    from k (inr x) = inr (inl x.0, x.1)

    early : (k : ℕ) → Contains p k ⊎ IsMarkedReached n k → Contains p k ⊎ IsMarkedReached o k
    early k (inl x) = inl x
    early k (inr x) = inr (g.stay k x)

    pend : (k : ℕ) → Contains q k ⊎ IsMarkedReached o k → Contains p k ⊎ IsMarkedReached o k
    pend k (inl x) = early k (h.pend k x)
    pend k (inr x) = inr x

-- ---- what an entry names

pub begins_same : (ps : List Pair) (a : ℕ × ℕ) (i j : ℕ) → IsDistinct nat_eq (pairs_blocks ps) → IsPairAt ps a i → IsPairAt ps a j → i ≡ j
begins_same ps a i j distinct b c = same_number ps i j b.pair c.pair distinct b.there c.there (pair_on b.pair.at a c.pair.at b.same (pair_back c.pair.at a c.same))

pub mark_named : (disk : Disk) (ps : List Pair) (to : ℕ × ℕ) (number : ℕ) (m n : List Bool) (p q : List ℕ) → IsAccepted disk ps → IsPairAt ps to number → MarksAndQueues (λ k. k ≡ number) m p n q → MarksAndQueues (IsFirstPairOfStruct ps (Branch to)) m p n q
mark_named disk ps to number m n p q ok b h = mark_as (λ k. k ≡ number) (IsFirstPairOfStruct ps (Branch to)) m n p q
    (λ k x. begins_same ps to k number ok.thread.distinct x b) (λ k x. subst (λ z. IsPairAt ps to z) (sym x) b) h

-- ---- entries of directories

named_there : (name : Name) (xs : List Slot) (u : Slot) → entry_named name xs ≡ Some u → (k : ℕ) × (slice_get xs k ≡ Some u)
named_there name [] u e = absurd (cc)
named_there name (x ∷ xs) u e = go (same_name name x.name) e (named_there name xs u)
  where
    go : (b : Bool) → cond b (Some x) (entry_named name xs) ≡ Some u → (entry_named name xs ≡ Some u → (k : ℕ) × (slice_get xs k ≡ Some u)) → (k : ℕ) × (slice_get (x ∷ xs) k ≡ Some u)
    go true f next = (0, f)
    go false f next = let r = next f in (suc r.0, r.1)

among_at : (P : Struct → Type 0) (xs : List Slot) (k : ℕ) (u : Slot) → slice_get xs k ≡ Some u → P u.struct → HoldsForSome (λ (s : NamedStruct). P s.struct) (map named_struct xs)
among_at P [] k u e h = absurd (cc)
among_at P (x ∷ xs) zero u e h = let f = same_Some x u e in inl (subst (λ (z : Slot). P z.struct) (sym f) h)
among_at P (x ∷ xs) (suc k) u e h = inr (among_at P xs k u e h)

record IsFound (P : Struct → Type 0) (xs : List Slot) : Type 0 where
  index : ℕ
  slot : Slot
  there : slice_get xs index ≡ Some slot
  holds : P slot.struct

found_in : (P : Struct → Type 0) (xs : List Slot) → HoldsForSome (λ (s : NamedStruct). P s.struct) (map named_struct xs) → IsFound P xs
found_in P [] h = absurd h
found_in P (x ∷ xs) (inl h) = record { index = 0; slot = x; there = refl; holds = h }
found_in P (x ∷ xs) (inr h) = let r = found_in P xs h in record { index = suc r.index; slot = r.slot; there = r.there; holds = r.holds }

each_shape : (P : Struct → Type 0) (xs : List Slot) → ((k : ℕ) (u : Slot) → slice_get xs k ≡ Some u → P u.struct) → Each (λ (s : NamedStruct). P s.struct) (map named_struct xs)
each_shape P [] h = tt
each_shape P (x ∷ xs) h = (h 0 x refl, each_shape P xs (λ k u e. h (suc k) u e))

module _ (disk : Disk) (ps : List Pair) (ok : IsAccepted disk ps) where
  -- the slot of an entry of a directory on a path
  led_slot : (path : Path) (a : ℕ × ℕ) (k : ℕ) (u : Slot) → IsDirectoryAtPath ps path a → slice_get (all_entries ps a) k ≡ Some u → slot_of_path ps (path ++ u.name ∷ []) ≡ Some u
  led_slot path a k u leads e = slot_there disk ps path a k u ok leads e

  pub all_begin : (n : ℕ) (path : Path) → LeadsToPair ps path n → DirectoriesBegin ps (directory_entries_from ps (Some n))
  all_begin n path on = subst (DirectoriesBegin ps) (sym (own_shapes disk ps path on.at n ok on.leads on.begins))
      (each_shape (HasFirstPairIfDirectory ps) (all_entries ps on.at) (λ k u e. visit_begins disk ps (record { path = path ++ u.name ∷ []; slot = u }) ok (led_slot path on.at k u on.leads e)))

  pub named_led : (n k : ℕ) (path : Path) → LeadsToPair ps path n → IsFirstPairOfNamed ps (directory_entries_from ps (Some n)) k → (below : Path) × LeadsToPair ps below k
  named_led n k path on named =
      let f = found_in (λ s. IsFirstPairOfStruct ps s k) (all_entries ps on.at) (subst (λ z. IsFirstPairOfNamed ps z k) (own_shapes disk ps path on.at n ok on.leads on.begins) named) in
      go f.slot (led_slot path on.at f.index f.slot on.leads f.there) f.slot.struct refl f.holds
    where
      go : (u : Slot) → slot_of_path ps (path ++ u.name ∷ []) ≡ Some u → (s : Struct) → u.struct ≡ s → IsFirstPairOfStruct ps s k → (below : Path) × LeadsToPair ps below k
      go u e (Branch to) f h = (path ++ u.name ∷ [], record { at = to; leads = leads_to ps (path ++ u.name ∷ []) u to e f; begins = h })
      go u e (Inline bytes) f h = absurd h
      go u e (Ctz head size) f h = absurd h

-- ---- the entries of a directory, the last one first

pub record AreTaken (ps : List Pair) (all left : List NamedStruct) (old : List Bool) (waiting : List ℕ) (new : List Bool) (pending : List ℕ) : Type 0 where
  pub done : List NamedStruct
  pub are : all ≡ left ++ done
  pub so_far : MarksAndQueues (IsFirstPairOfNamed ps done) old waiting new pending

pub none_taken : (ps : List Pair) (all : List NamedStruct) (m : List Bool) (p : List ℕ) → AreTaken ps all all m p m p
none_taken ps all m p = record { done = []; are = sym (append-nil all); so_far = mark_none (IsFirstPairOfNamed ps []) m p (λ k h. h) }

module _ (ps : List Pair) (all left rest : List NamedStruct) (s : NamedStruct) where
  split : left ≡ rest ++ s ∷ [] → (done : List NamedStruct) → all ≡ left ++ done → all ≡ rest ++ s ∷ done
  split e done f = f ∙ ap (λ z. z ++ done) e ∙ append_assoc rest (s ∷ []) done

  pub take_begins : (m n : List Bool) (p q : List ℕ) → left ≡ rest ++ s ∷ [] → AreTaken ps all left m p n q → DirectoriesBegin ps all → HasFirstPairIfDirectory ps s.struct
  take_begins m n p q e t h = (each_right (λ (s : NamedStruct). HasFirstPairIfDirectory ps s.struct) rest (s ∷ t.done) (subst (DirectoriesBegin ps) (split e t.done t.are) h)).0

  pub taken_more : (m n o : List Bool) (p q r : List ℕ) → left ≡ rest ++ s ∷ [] → AreTaken ps all left m p n q → MarksAndQueues (IsFirstPairOfStruct ps s.struct) n q o r → AreTaken ps all rest m p o r
  taken_more m n o p q r e t h = record {
    done = s ∷ t.done;
    are = split e t.done t.are;
    so_far = mark_then (IsFirstPairOfNamed ps t.done) (IsFirstPairOfStruct ps s.struct) m n o p q r t.so_far h;
  }

pub all_taken : (ps : List Pair) (all left : List NamedStruct) (m n : List Bool) (p q : List ℕ) → left ≡ [] → AreTaken ps all left m p n q → MarksAndQueues (IsFirstPairOfNamed ps all) m p n q
all_taken ps all left m n p q e t = subst (λ z. MarksAndQueues (IsFirstPairOfNamed ps z) m p n q) (sym (t.are ∙ ap (λ z. z ++ t.done) e)) t.so_far

-- ---- marking

pub record IsMarking (ps : List Pair) (marks : List Bool) (pending : List ℕ) : Type 0 where
  pub len : length marks ≡ length ps
  pub sound : (n : ℕ) → IsMarkedReached marks n → (path : Path) × LeadsToPair ps path n
  pub pend : (n : ℕ) → Contains pending n → IsMarkedReached marks n
  pub rooted : IsMarkedReached marks (count_before_root ps)
  pub closed : (n : ℕ) → IsMarkedReached marks n → Contains pending n ⊎ ((k : ℕ) → IsFirstPairOfNamed ps (directory_entries_from ps (Some n)) k → IsMarkedReached marks k)

fresh_marks : (len n : ℕ) → IsMarkedReached (replicate len false) n → ⊥
fresh_marks zero n e = absurd (cc)
fresh_marks (suc len) zero e = absurd (let f : false ≡ true = same_Some false true e in cc)
fresh_marks (suc len) (suc n) e = fresh_marks len n e

pub marking_begun : (disk : Disk) (ps : List Pair) (len root : ℕ) (marks : List Bool) (pending : List ℕ) → IsAccepted disk ps → len ≡ length ps → length (replicate len false) ≡ len → root ≡ count_before_root ps
    → MarksAndQueues (λ k. k ≡ root) (replicate len false) [] marks pending → IsMarking ps marks pending
marking_begun disk ps len root marks pending ok e sized is h = record {
  len = h.len ∙ sized ∙ e;
  sound = λ n x. sound n (h.from n x);
  pend = λ n x. pend n (h.pend n x);
  rooted = h.marked (count_before_root ps) (sym is);
  closed = λ n x. closed n (h.from n x);
}
  where
    sound : (n : ℕ) → IsMarkedReached (replicate len false) n ⊎ ((n ≡ root) × Contains pending n) → (path : Path) × LeadsToPair ps path n
    sound n (inl x) = absurd (fresh_marks len n x)
    sound n (inr x) = ([], record { at = root_address ps; leads = refl; begins = subst (λ z. IsPairAt ps (root_address ps) z) (sym (x.0 ∙ is)) (root_begins disk ps ok) })

    pend : (n : ℕ) → Contains [] n ⊎ IsMarkedReached marks n → IsMarkedReached marks n
    pend n (inl x) = absurd (none_in n x)
    pend n (inr x) = x

    closed : (n : ℕ) → IsMarkedReached (replicate len false) n ⊎ ((n ≡ root) × Contains pending n) → Contains pending n ⊎ ((k : ℕ) → IsFirstPairOfNamed ps (directory_entries_from ps (Some n)) k → IsMarkedReached marks k)
    closed n (inl x) = absurd (fresh_marks len n x)
    closed n (inr x) = inl x.1

-- the next directory to be visited
pub next_marked : (ps : List Pair) (marks : List Bool) (pending rest : List ℕ) (first : ℕ) → pending ≡ rest ++ first ∷ [] → IsMarking ps marks pending → IsMarkedReached marks first
next_marked ps marks pending rest first e m = m.pend first (subst (λ z. Contains z first) (sym e) (Contains-append_right rest (first ∷ []) first (contains_one first)))

pub marked_within : (ps : List Pair) (marks : List Bool) (pending : List ℕ) (n : ℕ) → IsMarking ps marks pending → IsMarkedReached marks n → n < length ps
marked_within ps marks pending n m h = let l = slice_get_within marks n true h in let e = m.len in omega arith

module _ (disk : Disk) (ps : List Pair) (ok : IsAccepted disk ps) (marks : List Bool) (pending rest : List ℕ) (first : ℕ) (is : pending ≡ rest ++ first ∷ []) (m : IsMarking ps marks pending) where
  first_on : (path : Path) × LeadsToPair ps path first
  first_on = m.sound first (next_marked ps marks pending rest first is m)

  pub first_begin : DirectoriesBegin ps (directory_entries_from ps (Some first))
  first_begin = all_begin disk ps ok first first_on.0 first_on.1

  pub marking_on : (new : List Bool) (more : List ℕ) → MarksAndQueues (IsFirstPairOfNamed ps (directory_entries_from ps (Some first))) marks rest new more → IsMarking ps new more
  marking_on new more h = record {
    len = h.len ∙ m.len;
    sound = λ n x. sound n (h.from n x);
    pend = λ n x. pend n (h.pend n x);
    rooted = h.stay (count_before_root ps) m.rooted;
    closed = λ n x. closed n (h.from n x);
  }
    where
      sound : (n : ℕ) → IsMarkedReached marks n ⊎ (IsFirstPairOfNamed ps (directory_entries_from ps (Some first)) n × Contains more n) → (path : Path) × LeadsToPair ps path n
      sound n (inl x) = m.sound n x
      sound n (inr x) = named_led disk ps ok first n first_on.0 first_on.1 x.0

      pend : (n : ℕ) → Contains rest n ⊎ IsMarkedReached new n → IsMarkedReached new n
      pend n (inl x) = h.stay n (m.pend n (subst (λ z. Contains z n) (sym is) (Contains-append_left rest (first ∷ []) n x)))
      pend n (inr x) = x

      waiting : (n : ℕ) → Contains rest n ⊎ Contains (first ∷ []) n → Contains more n ⊎ ((k : ℕ) → IsFirstPairOfNamed ps (directory_entries_from ps (Some n)) k → IsMarkedReached new k)
      waiting n (inl x) = inl (h.kept n x)
      waiting n (inr x) = inr (λ k y. h.marked k (subst (λ (z : ℕ). IsFirstPairOfNamed ps (directory_entries_from ps (Some z)) k) (one_of first n x) y))

      was : (n : ℕ) → Contains pending n ⊎ ((k : ℕ) → IsFirstPairOfNamed ps (directory_entries_from ps (Some n)) k → IsMarkedReached marks k) → Contains more n ⊎ ((k : ℕ) → IsFirstPairOfNamed ps (directory_entries_from ps (Some n)) k → IsMarkedReached new k)
      was n (inl x) = waiting n (Contains-append_cases rest (first ∷ []) n (subst (λ z. Contains z n) is x))
      was n (inr x) = inr (λ k y. h.stay k (x k y))

      closed : (n : ℕ) → IsMarkedReached marks n ⊎ (IsFirstPairOfNamed ps (directory_entries_from ps (Some first)) n × Contains more n) → Contains more n ⊎ ((k : ℕ) → IsFirstPairOfNamed ps (directory_entries_from ps (Some n)) k → IsMarkedReached new k)
      closed n (inl x) = was n (m.closed n x)
      closed n (inr x) = inl x.1

-- ---- the end

module _ (disk : Disk) (ps : List Pair) (ok : IsAccepted disk ps) (marks : List Bool) (m : IsMarking ps marks []) where
  abbrev E : DirectoryEntryMap
  E = all_entries ps

  closed_all : (n k : ℕ) → IsMarkedReached marks n → IsFirstPairOfNamed ps (directory_entries_from ps (Some n)) k → IsMarkedReached marks k
  closed_all n k x y = go (m.closed n x)
    where
      go : Contains [] n ⊎ ((k : ℕ) → IsFirstPairOfNamed ps (directory_entries_from ps (Some n)) k → IsMarkedReached marks k) → IsMarkedReached marks k
      go (inl z) = absurd (none_in n z)
      go (inr z) = z k y

  -- a directory whose first pair is marked
  record IsMarkedAt (a : ℕ × ℕ) : Type 0 where
    number : ℕ
    begins : IsPairAt ps a number
    marked : IsMarkedReached marks number

  from_leaf : (s : Slot) (path : Path) (at : ℕ × ℕ) → struct_directory_address s.struct ≡ None → address_from_slot (all_entries ps) s path ≡ Some at → ⊥
  from_leaf s [] at e f = absurd (let z = sym e ∙ f in cc)
  from_leaf s (name ∷ path) at e f =
      let z = ap (λ b. option_and_then (λ (found : Slot). struct_directory_address found.struct) (option_and_then (λ child. slot_at_path (all_entries ps) child path) (option_and_then (λ x. entry_named name (all_entries ps x)) b))) e in
      absurd (let w = sym z ∙ f in cc)

  along : (path : Path) (P : Path) (s : Slot) (a : ℕ × ℕ) → slot_of_path ps P ≡ Some s → s.struct ≡ Branch a → IsMarkedAt a → (at : ℕ × ℕ) → address_from_slot (all_entries ps) s path ≡ Some at → IsMarkedAt at
  along [] P s a e f h at l = subst IsMarkedAt (same_Some a at (sym (ap struct_directory_address f) ∙ l)) h
  along (name ∷ path) P s a e f h at l = child (entry_named name (all_entries ps a)) refl
      (sym (ap (λ b. option_and_then (λ (found : Slot). struct_directory_address found.struct) (option_and_then (λ c. slot_at_path (all_entries ps) c path) (option_and_then (λ x. entry_named name (all_entries ps x)) (struct_directory_address b)))) f) ∙ l)
      (λ u b g k x. along path (P ++ u.name ∷ []) u b g k x at)
    where
      below : (u : Slot) (k : ℕ) → slice_get (all_entries ps a) k ≡ Some u → slot_of_path ps (P ++ u.name ∷ []) ≡ Some u → (t : Struct) → u.struct ≡ t → address_from_slot (all_entries ps) u path ≡ Some at
          → ((u : Slot) (b : ℕ × ℕ) → slot_of_path ps (P ++ u.name ∷ []) ≡ Some u → u.struct ≡ Branch b → IsMarkedAt b → address_from_slot (all_entries ps) u path ≡ Some at → IsMarkedAt at) → IsMarkedAt at
      below u k there g (Inline bytes) is d next = absurd (from_leaf u path at (ap struct_directory_address is) d)
      below u k there g (Ctz head size) is d next = absurd (from_leaf u path at (ap struct_directory_address is) d)
      below u k there g (Branch b) is d next =
          let leads = leads_to ps P s a e f in
          let n = begins_with disk ps (P ++ u.name ∷ []) b ok (leads_to ps (P ++ u.name ∷ []) u b g is) in
          let named : IsFirstPairOfNamed ps (directory_entries_from ps (Some h.number)) n.0 = subst (λ z. IsFirstPairOfNamed ps z n.0) (sym (own_shapes disk ps P a h.number ok leads h.begins))
          (among_at (λ z. IsFirstPairOfStruct ps z n.0) (all_entries ps a) k u there (subst (λ z. IsFirstPairOfStruct ps z n.0) (sym is) n.1)) in
          next u b g is (record { number = n.0; begins = n.1; marked = closed_all h.number n.0 h.marked named }) d

      child : (o : Option Slot) → entry_named name (all_entries ps a) ≡ o → option_and_then (λ (found : Slot). struct_directory_address found.struct) (option_and_then (λ c. slot_at_path (all_entries ps) c path) o) ≡ Some at
          → ((u : Slot) (b : ℕ × ℕ) → slot_of_path ps (P ++ u.name ∷ []) ≡ Some u → u.struct ≡ Branch b → IsMarkedAt b → address_from_slot (all_entries ps) u path ≡ Some at → IsMarkedAt at) → IsMarkedAt at
      child None g d next = absurd (cc)
      child (Some u) g d next =
          let t = named_there name (all_entries ps a) u g in
          below u t.0 t.1 (slot_there disk ps P a t.0 u ok (leads_to ps P s a e f) t.1) u.struct refl d next

  pub reach_marks : AreReachedMarked ps marks
  reach_marks = record {
    len = m.len;
    marked = λ n p there r.
        let x = along r.0 [] (root_slot (root_address ps)) (root_address ps) refl refl (record { number = count_before_root ps; begins = root_begins disk ps ok; marked = m.rooted }) r.1 r.2.0 in
        subst (IsMarkedReached marks) (begins_same ps r.1 x.number n ok.thread.distinct x.begins (record { pair = p; there = there; same = r.2.1 })) x.marked;
    reached = λ n p there h.
        let s = m.sound n h in
        (s.0, s.1.at, (s.1.leads, subst (λ (z : Pair). same_pair z.at s.1.at ≡ true) (same_Some s.1.begins.pair p (sym s.1.begins.there ∙ there)) s.1.begins.same));
  }
