-- A binary search among the pairs of a directory: its invariant on the pairs before and behind those that are left.
use Rattle.std.proofs.Common.{ℕ, zero, suc, ◌≡◌, ◌≢◌, ◌⊎◌, inl, inr, ◌+◌, ◌-◌, ◌<◌, ◌≤◌, Bool, true, false, cond, not, List, [], ◌∷◌, ◌++◌, length, take, drop, refl, sym, ap, ap₂, subst, ◌∙◌, arith, append_assoc, append-nil, length-append, get_or, Less}
use Rattle.lfs_lookup.proofs.Common.{AllByRecursion, get_or-drop, length-take, take-append-drop, flat_map-append, filter-append, drop-append_seam, IsInsertionPosition, BeginsWithGreaterName, HaveNoSuperblock, HasHardTail, NameBelongsAtId, AreJoinedByHardTails, IsPositionOfName, HasName, entry_slots, last_has_hard_tail, joined_pair_count, all_slots, Name, name_cmp, Slot, is_superblock, Pair, is_hard_tail, begins_with_superblock, each_left, each_right, IsStructEntry, LastHasNoHardTail, joined_pairs}
use Rattle.std.proofs.lemmas.List.{get_or_append_left}
use Rattle.lfs_model.specs.declared.order.NameOrder.{NameOrder}
use Rattle.lfs_lookup.specs.declared.entry.FileOrDirectory.{FileOrDirectory}
use Rattle.lfs_lookup.proofs.Directories.{run_hard_on, run_on as run_here_on}
use Rattle.lfs_lookup.proofs.Walked.{at_index, run_some}

-- ---- the pairs of a directory

pub run_part : (xs : List Pair) → (after : List Pair) × (xs ≡ joined_pairs xs ++ after)
run_part [] = ([], refl)
run_part (p ∷ ps) = go (is_hard_tail p.content.tail) (run_part ps)
  where
    go : (b : Bool) → ((after : List Pair) × (ps ≡ joined_pairs ps ++ after)) → (after : List Pair) × (p ∷ ps ≡ (p ∷ cond b (joined_pairs ps) []) ++ after)
    go true r = (r.0, ap (λ z. p ∷ z) r.1)
    go false r = (ps, refl)

pub run_count : (xs : List Pair) → length (joined_pairs xs) ≡ joined_pair_count xs
run_count [] = refl
run_count (p ∷ ps) = go (is_hard_tail p.content.tail) (run_count ps)
  where
    go : (b : Bool) → length (joined_pairs ps) ≡ joined_pair_count ps → length (p ∷ cond b (joined_pairs ps) []) ≡ cond b (1 + joined_pair_count ps) 1
    go true e = omega (arith, e)
    go false e = refl

abbrev Chained : List Pair → Type 0
Chained [] = Unit {0}
Chained (p ∷ ps) = AreJoinedByHardTails p ps

chain_more : (p : Pair) (qs : List Pair) → HasHardTail p → Chained qs → AreJoinedByHardTails p qs
chain_more p [] h k = tt
chain_more p (q ∷ qs) h k = (h, k)

run_chained : (xs : List Pair) → Chained (joined_pairs xs)
run_chained [] = tt
run_chained (p ∷ ps) = go (is_hard_tail p.content.tail) refl (run_chained ps)
  where
    go : (b : Bool) → is_hard_tail p.content.tail ≡ b → Chained (joined_pairs ps) → AreJoinedByHardTails p (cond b (joined_pairs ps) [])
    go true e k = chain_more p (joined_pairs ps) e k
    go false e k = tt

chain_left : (left : List Pair) (p : Pair) (rest : List Pair) → Chained (left ++ p ∷ rest) → AllByRecursion HasHardTail left × AreJoinedByHardTails p rest
chain_left [] p rest h = (tt, h)
chain_left (x ∷ []) p rest h = ((h.0, tt), h.1)
chain_left (x ∷ y ∷ left) p rest h = let r = chain_left (y ∷ left) p rest h.1 in ((h.0, r.0), r.1)

runs_front : (p : Pair) (later rest : List Pair) → AreJoinedByHardTails p (later ++ rest) → AreJoinedByHardTails p later
runs_front p [] rest h = tt
runs_front p (q ∷ later) rest h = (h.0, runs_front q later rest h.1)

last_behind : (x : Pair) (left : List Pair) (p : Pair) (rest : List Pair) → last_has_hard_tail x (left ++ p ∷ rest) ≡ last_has_hard_tail p rest
last_behind x [] p rest = refl
last_behind x (y ∷ left) p rest = last_behind y left p rest

soft_end : (left : List Pair) (p : Pair) (rest : List Pair) → LastHasNoHardTail (left ++ p ∷ rest) → last_has_hard_tail p rest ≡ false
soft_end [] p rest h = h
soft_end (x ∷ left) p rest h = sym (last_behind x left p rest) ∙ h

-- what follows in a list after as many elements is the same
same_behind : (xs zs ys ws : List Pair) → xs ++ zs ≡ ys ++ ws → length xs ≡ length ys → zs ≡ ws
same_behind xs zs ys ws e l = sym (drop-append_seam xs zs) ∙ ap₂ (λ (n : ℕ) z. drop n z) l e ∙ drop-append_seam ys ws

-- ---- where they end

pub soft_on : (ps : List Pair) (index next : ℕ) (d : Pair) → next < length ps → is_hard_tail (get_or ps index d).content.tail ≡ true → next ≡ index + 1 → LastHasNoHardTail (joined_pairs (drop next ps)) → LastHasNoHardTail (joined_pairs (drop index ps))
soft_on ps index next d l hard e h = subst LastHasNoHardTail (sym (run_hard_on ps index next d (omega arith) hard e ∙ ap (λ z. get_or ps index d ∷ z) (run_here_on ps next d l))) (subst LastHasNoHardTail (run_here_on ps next d l) h)

-- ---- a pair by its number

pub record IsAt (run : List Pair) (first index : ℕ) (q : Pair) : Type 0 where
  pub before : List Pair
  pub behind : List Pair
  pub parts : run ≡ before ++ q ∷ behind
  pub number : first + length before ≡ index

pub at_run : (ps : List Pair) (first index : ℕ) (d : Pair) → first ≤ index → index < first + joined_pair_count (drop first ps) → IsAt (joined_pairs (drop first ps)) first index (get_or ps index d)
at_run ps first index d from below =
    let part = run_part (drop first ps) in
    let n = run_count (drop first ps) in
    let small : index - first < length (joined_pairs (drop first ps)) = omega arith in
    let a = at_index (joined_pairs (drop first ps)) (index - first) d small in
    let same : first + (index - first) ≡ index = omega arith in
    let is : get_or (joined_pairs (drop first ps)) (index - first) d ≡ get_or ps index d =
    sym (get_or_append_left (joined_pairs (drop first ps)) part.0 d (index - first) small) ∙ ap (λ z. get_or z (index - first) d) (sym part.1)
    ∙ get_or-drop first ps (index - first) d ∙ ap (λ (i : ℕ). get_or ps i d) same in
    subst (IsAt (joined_pairs (drop first ps)) first index) is (record { before = a.front; behind = a.rest; parts = a.parts; number = (let b = a.begins in omega arith) })

-- the directory's pairs in the thread
parts_of : (ps : List Pair) (first : ℕ) (left later more : List Pair) (q : Pair) → joined_pairs (drop first ps) ≡ left ++ q ∷ (later ++ more)
    → ps ≡ take first ps ++ (left ++ q ∷ (later ++ (more ++ (run_part (drop first ps)).0)))
parts_of ps first left later more q e =
    sym (take-append-drop first ps)
    ∙ ap (λ z. take first ps ++ z) (
    (run_part (drop first ps)).1
    ∙ ap (λ z. z ++ (run_part (drop first ps)).0) e
    ∙ append_assoc left (q ∷ (later ++ more)) (run_part (drop first ps)).0
    ∙ ap (λ z. left ++ q ∷ z) (append_assoc later more (run_part (drop first ps)).0))

-- ---- superblocks

drop_more : (n : ℕ) (xs : List Pair) (x : Pair) (ys : List Pair) → drop n xs ≡ x ∷ ys → drop (n + 1) xs ≡ ys
drop_more zero [] x ys e = absurd (cc)
drop_more (suc n) [] x ys e = absurd (cc)
drop_more zero (z ∷ xs) x ys e = ap (λ k. drop 1 k) e
drop_more (suc n) (z ∷ xs) x ys e = let f : suc n + 1 ≡ suc (n + 1) = omega arith in ap (λ (k : ℕ). drop k (z ∷ xs)) f ∙ drop_more n xs x ys e

abbrev IsPlain : Pair → Type 0
IsPlain p = AllByRecursion (λ s. is_superblock s ≡ false) p.content.slots

-- a pair behind the directory's first one has no superblock
plain_at : (ps : List Pair) (first : ℕ) (x : Pair) (left : List Pair) (q : Pair) (behind : List Pair) → HaveNoSuperblock (drop (first + 1) ps) → joined_pairs (drop first ps) ≡ x ∷ (left ++ q ∷ behind) → IsPlain q
plain_at ps first x left q behind plain e =
    let part = run_part (drop first ps) in
    let is = drop_more first ps x ((left ++ q ∷ behind) ++ part.0) (part.1 ∙ ap (λ z. z ++ part.0) e) in
    (each_right IsPlain left (q ∷ behind) (each_left IsPlain (left ++ q ∷ behind) part.0 (subst HaveNoSuperblock is plain))).0

-- slots without a superblock that aren't none have an entry
some_entries : (left right : List Slot) → AllByRecursion (λ s. is_superblock s ≡ false) (left ++ right) → 0 < length left → entry_slots left ≢ []
some_entries [] right plain l e = absurd (omega arith)
some_entries (s ∷ left) right plain l e =
    let k : s ∷ entry_slots left ≡ [] = sym (ap (λ b. cond (not b) (s ∷ entry_slots left) (entry_slots left)) plain.0) ∙ e in
    absurd (cc)

-- no pair before has an entry, or these slots of the pair have one
not_before_here : (ps : List Pair) (first index : ℕ) (q : Pair) (a : IsAt (joined_pairs (drop first ps)) first index q) → HaveNoSuperblock (drop (first + 1) ps) → (left right : List Slot) → q.content.slots ≡ left ++ right
    → (index ≡ first) ⊎ (0 < length left) → (entry_slots (all_slots a.before) ≡ []) ⊎ (entry_slots left ≢ [])
not_before_here ps first index q a plain left right held why = go a.before a.parts a.number why
  where
    go : (before : List Pair) → joined_pairs (drop first ps) ≡ before ++ q ∷ a.behind → first + length before ≡ index → (index ≡ first) ⊎ (0 < length left) → (entry_slots (all_slots before) ≡ []) ⊎ (entry_slots left ≢ [])
    go [] e n w = inl refl
    go (x ∷ before) e n (inl is) = absurd (omega arith)
    go (x ∷ before) e n (inr some) = inr (some_entries left right (subst (AllByRecursion (λ s. is_superblock s ≡ false)) held (plain_at ps first x before q a.behind plain e)) some)

-- ---- entries of pairs

-- the entries of pairs without any, and one more pair
entries_on : (empty : List Pair) (q : Pair) → all_slots empty ≡ [] → entry_slots (all_slots (empty ++ q ∷ [])) ≡ entry_slots q.content.slots
entries_on empty q none =
    ap entry_slots (flat_map-append (λ (p : Pair). p.content.slots) empty (q ∷ []))
    ∙ filter-append (λ (s : Slot). not (is_superblock s)) (all_slots empty) (all_slots (q ∷ []))
    ∙ ap₂ (λ x y. entry_slots x ++ entry_slots y) none (append-nil q.content.slots)

nothing_behind : (slots left right : List Slot) → slots ≡ left ++ right → length slots ≤ length left → right ≡ []
nothing_behind slots left [] e l = refl
nothing_behind slots left (r ∷ right) e l = absurd (let k = ap length e in let m = length-append left (r ∷ right) in omega arith)

pub empty_list : {X : Type 0} (xs : List X) → length xs ≤ 0 → xs ≡ []
empty_list [] l = refl
empty_list (x ∷ xs) l = absurd (omega arith)

-- ---- before and behind

-- the pair of index `at` was looked at, and has lesser names alone. The pairs from it to before number `low` have no slots.
pub record HasLess (by : NameOrder) (run : List Pair) (first : ℕ) (name : Name) (at id low : ℕ) : Type 0 where
  pub left : List Pair
  pub pair : Pair
  pub empty : List Pair
  pub more : List Pair
  pub parts : run ≡ left ++ pair ∷ (empty ++ more)
  pub number : first + length left ≡ at
  pub next : at + 1 + length empty ≡ low
  pub count : length pair.content.slots ≡ id
  pub less : AllByRecursion (λ s. name_cmp by s.name name ≡ Less) (entry_slots pair.content.slots)
  pub not_before : (entry_slots (all_slots left) ≡ []) ⊎ (entry_slots pair.content.slots ≢ [])
  pub none : all_slots empty ≡ []

pub data IsLow (by : NameOrder) (run : List Pair) (first : ℕ) (name : Name) (at id low : ℕ) : Type 0 where
  begun : low ≡ first → at ≡ first → id ≡ 0 → IsLow by run first name at id low
  passed : HasLess by run first name at id low → IsLow by run first name at id low

-- the pair of index `high` begins with a greater name
pub record HasGreater (by : NameOrder) (run : List Pair) (first : ℕ) (name : Name) (high : ℕ) : Type 0 where
  pub before : List Pair
  pub pair : Pair
  pub behind : List Pair
  pub parts : run ≡ before ++ pair ∷ behind
  pub number : first + length before ≡ high
  pub above : BeginsWithGreaterName by name (entry_slots pair.content.slots)
  pub fronted : begins_with_superblock pair.content.slots ≡ false

pub data IsHigh (by : NameOrder) (run : List Pair) (first : ℕ) (name : Name) (high : ℕ) : Type 0 where
  ends : high ≡ first + length run → IsHigh by run first name high
  starts : HasGreater by run first name high → IsHigh by run first name high

module _ (by : NameOrder) (ps : List Pair) (first : ℕ) (name : Name) (index : ℕ) (q : Pair) (a : IsAt (joined_pairs (drop first ps)) first index q) where
  abbrev run : List Pair
  run = joined_pairs (drop first ps)

  joined_here : AllByRecursion HasHardTail a.before
  joined_here = (chain_left a.before q a.behind (subst Chained a.parts (run_chained (drop first ps)))).0

  -- the name is in this pair
  pub stands_at : (below : first < length ps) (id : ℕ) (entry : FileOrDirectory) (s : HasName q.content.slots name id) → IsStructEntry entry s.slot.struct → (t : IsPositionOfName ps first name index id) × IsStructEntry entry t.stands.slot.struct
  stands_at below id entry s shows = (
    record {
      pair = q;
      rest = a.behind ++ (run_part (drop first ps)).0;
      place = record {
        front = take first ps;
        left = a.before;
        parts = parts_of ps first a.before [] a.behind q a.parts;
        begins = (let n = length-take first ps in omega (arith, n));
        number = (let n = length-take first ps in let m = a.number in omega (arith, n, m));
        joined = joined_here;
      };
      stands = s;
    },
    shows,
  )

  -- all its names are less
  pub passes : (plain : HaveNoSuperblock (drop (first + 1) ps)) (id : ℕ) → NameBelongsAtId by q.content.slots name id → (index ≡ first) ⊎ (0 < id) → length q.content.slots ≤ id → HasLess by run first name index id (index + 1)
  passes plain id pl why all =
      let none = nothing_behind q.content.slots pl.left pl.right pl.held (let n = pl.number in omega arith) in
      let is : q.content.slots ≡ pl.left = pl.held ∙ ap (λ z. pl.left ++ z) none ∙ append-nil pl.left in
      record {
        left = a.before;
        pair = q;
        empty = [];
        more = a.behind;
        parts = a.parts;
        number = a.number;
        next = omega arith;
        count = ap length is ∙ pl.number;
        less = subst (λ z. AllByRecursion (λ s. name_cmp by s.name name ≡ Less) (entry_slots z)) (sym is) pl.less;
        not_before = go is (not_before_here ps first index q a plain pl.left pl.right pl.held (some why));
        none = refl;
      }
    where
      some : (index ≡ first) ⊎ (0 < id) → (index ≡ first) ⊎ (0 < length pl.left)
      some (inl e) = inl e
      some (inr l) = inr (let n = pl.number in omega arith)

      go : {A : Type 0} → q.content.slots ≡ pl.left → A ⊎ (entry_slots pl.left ≢ []) → A ⊎ (entry_slots q.content.slots ≢ [])
      go e (inl x) = inl x
      go e (inr n) = inr (subst (λ z. entry_slots z ≢ []) (sym e) n)

  -- all its names are greater
  pub exceeds : (id : ℕ) → NameBelongsAtId by q.content.slots name id → id ≤ 0 → 0 < length q.content.slots → HasGreater by run first name index
  exceeds id pl none some = record {
    before = a.before;
    pair = q;
    behind = a.behind;
    parts = a.parts;
    number = a.number;
    above = go pl.greater;
    fronted = subst (λ z. begins_with_superblock z ≡ false) (sym is) pl.fronted;
  }
    where
      whole : (left : List Slot) → q.content.slots ≡ left ++ pl.right → length left ≡ id → q.content.slots ≡ pl.right
      whole [] e n = e
      whole (s ∷ left) e n = absurd (omega arith)

      is : q.content.slots ≡ pl.right
      is = whole pl.left pl.held pl.number

      go : (pl.right ≡ []) ⊎ BeginsWithGreaterName by name (entry_slots pl.right) → BeginsWithGreaterName by name (entry_slots q.content.slots)
      go (inl e) = absurd (let k = ap length (is ∙ e) in omega arith)
      go (inr b) = subst (λ z. BeginsWithGreaterName by name (entry_slots z)) (sym is) b

  -- the name belongs here, before one of its slots
  pub belongs_inside : (below : first < length ps) (plain : HaveNoSuperblock (drop (first + 1) ps)) (id : ℕ) → NameBelongsAtId by q.content.slots name id → (index ≡ first) ⊎ (0 < id) → id < length q.content.slots → IsInsertionPosition by ps first name index id
  belongs_inside below plain id pl why some = record {
    pair = q;
    later = [];
    rest = a.behind ++ (run_part (drop first ps)).0;
    place = record {
      front = take first ps;
      left = a.before;
      parts = parts_of ps first a.before [] a.behind q a.parts;
      begins = (let n = length-take first ps in omega (arith, n));
      number = (let n = length-take first ps in let m = a.number in omega (arith, n, m));
      joined = joined_here;
    };
    runs = tt;
    left = pl.left;
    right = pl.right;
    held = pl.held;
    number = pl.number;
    less = pl.less;
    fronted = pl.fronted;
    not_before = not_before_here ps first index q a plain pl.left pl.right pl.held (go why);
    not_behind = inl (above pl.greater);
  }
    where
      go : (index ≡ first) ⊎ (0 < id) → (index ≡ first) ⊎ (0 < length pl.left)
      go (inl e) = inl e
      go (inr l) = inr (let n = pl.number in omega arith)

      above : (pl.right ≡ []) ⊎ BeginsWithGreaterName by name (entry_slots pl.right) → BeginsWithGreaterName by name (entry_slots (pl.right ++ []))
      above (inl e) = absurd (let k = ap length pl.held in let m = length-append pl.left pl.right in let r = ap length e in let n = pl.number in omega arith)
      above (inr b) = subst (λ z. BeginsWithGreaterName by name (entry_slots z)) (sym (append-nil pl.right)) b

  -- a pair without slots is passed
  pub passes_empty : (at id : ℕ) → HasLess by run first name at id index → length q.content.slots ≤ 0 → HasLess by run first name at id (index + 1)
  passes_empty at id h few =
      let counts : length (h.left ++ h.pair ∷ h.empty) ≡ length a.before = (let l = length-append h.left (h.pair ∷ h.empty) in let n = h.next in let m = h.number in let k = a.number in omega arith) in
      let is : h.more ≡ q ∷ a.behind = same_behind (h.left ++ h.pair ∷ h.empty) h.more a.before (q ∷ a.behind) (append_assoc h.left (h.pair ∷ h.empty) h.more ∙ sym h.parts ∙ a.parts) counts in
      record {
        left = h.left;
        pair = h.pair;
        empty = h.empty ++ q ∷ [];
        more = a.behind;
        parts = h.parts ∙ ap (λ z. h.left ++ h.pair ∷ (h.empty ++ z)) is ∙ ap (λ z. h.left ++ h.pair ∷ z) (sym (append_assoc h.empty (q ∷ []) a.behind));
        number = h.number;
        next = (let l = length-append h.empty (q ∷ []) in let n = h.next in omega arith);
        count = h.count;
        less = h.less;
        not_before = h.not_before;
        none = flat_map-append (λ (p : Pair). p.content.slots) h.empty (q ∷ []) ∙ ap₂ (λ x y. x ++ (y ++ [])) h.none (empty_list q.content.slots few);
      }

  pub low_past : (at id : ℕ) → IsLow by run first name at id index → first < index → length q.content.slots ≤ 0 → IsLow by run first name at id (index + 1)
  low_past at id (begun e f g) later few = absurd (omega arith)
  low_past at id (passed h) later few = passed (passes_empty at id h few)

-- ---- where they meet

module _ (by : NameOrder) (ps : List Pair) (first : ℕ) (name : Name) (below : first < length ps) (soft : LastHasNoHardTail (joined_pairs (drop first ps))) where
  abbrev whole_run : List Pair
  whole_run = joined_pairs (drop first ps)

  chained : Chained whole_run
  chained = run_chained (drop first ps)

  -- it belongs before all
  at_front : (high : ℕ) → HasGreater by whole_run first name high → high ≡ first → IsInsertionPosition by ps first name first 0
  at_front high h e =
      let none = empty_list h.before (let n = h.number in omega arith) in
      let is : whole_run ≡ h.pair ∷ h.behind = h.parts ∙ ap (λ z. z ++ h.pair ∷ h.behind) none in
      record {
        pair = h.pair;
        later = [];
        rest = h.behind ++ (run_part (drop first ps)).0;
        place = record {
          front = take first ps;
          left = [];
          parts = parts_of ps first [] [] h.behind h.pair is;
          begins = (let n = length-take first ps in omega (arith, n));
          number = (let n = length-take first ps in omega (arith, n));
          joined = tt;
        };
        runs = tt;
        left = [];
        right = h.pair.content.slots;
        held = refl;
        number = refl;
        less = tt;
        fronted = h.fronted;
        not_before = inl refl;
        not_behind = inl (subst (λ z. BeginsWithGreaterName by name (entry_slots z)) (sym (append-nil h.pair.content.slots)) h.above);
      }

  -- behind a pair, where no entry is left
  at_end : (at id low : ℕ) → HasLess by whole_run first name at id low → low ≡ first + length whole_run → IsInsertionPosition by ps first name at id
  at_end at id low h e =
      let none : h.more ≡ [] = empty_list h.more (let k = ap length h.parts in let l = length-append h.left (h.pair ∷ (h.empty ++ h.more)) in let m = length-append h.empty h.more in let n = h.next in let b = h.number in omega arith) in
      let parts = h.parts in
      let c = chain_left h.left h.pair (h.empty ++ h.more) (subst Chained h.parts chained) in
      let last : last_has_hard_tail h.pair h.empty ≡ false =
      ap (last_has_hard_tail h.pair) (sym (ap (λ z. h.empty ++ z) none ∙ append-nil h.empty)) ∙ soft_end h.left h.pair (h.empty ++ h.more) (subst LastHasNoHardTail h.parts soft) in
      record {
        pair = h.pair;
        later = h.empty;
        rest = h.more ++ (run_part (drop first ps)).0;
        place = record {
          front = take first ps;
          left = h.left;
          parts = parts_of ps first h.left h.empty h.more h.pair h.parts;
          begins = (let n = length-take first ps in omega (arith, n));
          number = (let n = length-take first ps in let m = h.number in omega (arith, n, m));
          joined = c.0;
        };
        runs = runs_front h.pair h.empty h.more c.1;
        left = h.pair.content.slots;
        right = [];
        held = sym (append-nil h.pair.content.slots);
        number = h.count;
        less = h.less;
        fronted = refl;
        not_before = h.not_before;
        not_behind = inr (ap entry_slots h.none, last);
      }

  -- behind a pair, where a greater name comes first
  at_seam : (at id low high : ℕ) → HasLess by whole_run first name at id low → (g : HasGreater by whole_run first name high) → low ≡ high → IsInsertionPosition by ps first name at id
  at_seam at id low high h g e =
      let counts : length (h.left ++ h.pair ∷ h.empty) ≡ length g.before = (let l = length-append h.left (h.pair ∷ h.empty) in let n = h.next in let m = h.number in let k = g.number in omega arith) in
      let is : h.more ≡ g.pair ∷ g.behind = same_behind (h.left ++ h.pair ∷ h.empty) h.more g.before (g.pair ∷ g.behind) (append_assoc h.left (h.pair ∷ h.empty) h.more ∙ sym h.parts ∙ g.parts) counts in
      let parts : whole_run ≡ h.left ++ h.pair ∷ ((h.empty ++ g.pair ∷ []) ++ g.behind) =
      h.parts ∙ ap (λ z. h.left ++ h.pair ∷ (h.empty ++ z)) is ∙ ap (λ z. h.left ++ h.pair ∷ z) (sym (append_assoc h.empty (g.pair ∷ []) g.behind)) in
      let c = chain_left h.left h.pair ((h.empty ++ g.pair ∷ []) ++ g.behind) (subst Chained parts chained) in
      record {
        pair = h.pair;
        later = h.empty ++ g.pair ∷ [];
        rest = g.behind ++ (run_part (drop first ps)).0;
        place = record {
          front = take first ps;
          left = h.left;
          parts = parts_of ps first h.left (h.empty ++ g.pair ∷ []) g.behind h.pair parts;
          begins = (let n = length-take first ps in omega (arith, n));
          number = (let n = length-take first ps in let m = h.number in omega (arith, n, m));
          joined = c.0;
        };
        runs = runs_front h.pair (h.empty ++ g.pair ∷ []) g.behind c.1;
        left = h.pair.content.slots;
        right = [];
        held = sym (append-nil h.pair.content.slots);
        number = h.count;
        less = h.less;
        fronted = refl;
        not_before = h.not_before;
        not_behind = inl (subst (BeginsWithGreaterName by name) (sym (entries_on h.empty g.pair h.none)) g.above);
      }

  pub belongs_between : (at id low high : ℕ) → IsLow by whole_run first name at id low → IsHigh by whole_run first name high → low ≡ high → IsInsertionPosition by ps first name at id
  belongs_between at id low high (begun e f g) (ends k) m = absurd (let some = run_some ps first below in let n = run_count (drop first ps) in omega arith)
  belongs_between at id low high (begun e f g) (starts h) m =
      subst (λ (n : ℕ). IsInsertionPosition by ps first name n id) (sym f) (subst (λ (n : ℕ). IsInsertionPosition by ps first name first n) (sym g) (at_front high h (sym m ∙ e)))
  belongs_between at id low high (passed h) (ends k) m = at_end at id low h (m ∙ k)
  belongs_between at id low high (passed h) (starts g) m = at_seam at id low high h g m
