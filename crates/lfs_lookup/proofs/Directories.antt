-- The pairs of a directory, from the index of the first, have its entries.
use Rattle.std.proofs.Common.{ℕ, zero, suc, ◌≡◌, ◌<◌, ◌≤◌, ◌+◌, ◌∙◌, Bool, true, false, cond, List, [], ◌∷◌, ◌++◌, length, map, flat_map, take, drop, get_or, slice_get, Option, Some, None, refl, sym, ap, ap₂, subst, arith, append_assoc, nat_eq}
use Rattle.std.specs.Prelude.{IfNone, IfSome, IsSome}
use Rattle.std.specs.List.{IsDistinct}
use Rattle.lfs_lookup.proofs.Common.{map-append, drop-append_seam, same_Some, slice_get_within, directory_pairs, Disk, Gstate, same_pair, Pair, pairs_blocks, pair_directories, pairs_from_root, directory_slots, pairs_gstate, is_hard_tail, count_before_root, unmoved_entries, Path, IsAccepted, IsDirectoryAtPath, all_entries, IsPairAt, joined_pair_count, Each, pair_back, pair_on, Apart, IsRun, distinct_apart, distinct_right, entries_own, listing, run_directories, same_number, HasDirectory, chain_of_thread, led_directory, NamedStruct, named_struct, joined_pairs, hard_tail_count_from, hard_tail_chain_from, directory_entries_from}
use Rattle.lfs_model.proofs.Searches.{pairs_at}

-- ---- along the hard tails

pub run_on : (ps : List Pair) (index : ℕ) (d : Pair) → index < length ps →
    joined_pairs (drop index ps) ≡ get_or ps index d ∷ cond (is_hard_tail (get_or ps index d).content.tail) (joined_pairs (drop (index + 1) ps)) []
run_on [] index d l = absurd (omega arith)
run_on (p ∷ ps) zero d l = refl
run_on (p ∷ ps) (suc index) d l =
    let e : suc index + 1 ≡ suc (index + 1) = omega arith in
    run_on ps index d (omega arith) ∙ ap (λ n. get_or ps index d ∷ cond (is_hard_tail (get_or ps index d).content.tail) (joined_pairs (drop n (p ∷ ps))) []) (sym e)

-- if it has a hard tail, the next ones follow
pub run_hard_on : (ps : List Pair) (index next : ℕ) (d : Pair) → index < length ps → is_hard_tail (get_or ps index d).content.tail ≡ true → next ≡ index + 1 →
    joined_pairs (drop index ps) ≡ get_or ps index d ∷ joined_pairs (drop next ps)
run_hard_on ps index next d l hard e =
    run_on ps index d l ∙ ap (λ b. get_or ps index d ∷ cond b (joined_pairs (drop (index + 1) ps)) []) hard ∙ ap (λ (n : ℕ). get_or ps index d ∷ joined_pairs (drop n ps)) (sym e)

pub run_some_on : (ps : List Pair) (index : ℕ) (d : Pair) → index < length ps → 1 ≤ length (joined_pairs (drop index ps))
run_some_on ps index d l = let e = ap length (run_on ps index d l) in omega (arith, e)

-- the one of that number, and those that follow; qs are the cached pairs then
pub run_next : (ps qs : List Pair) (index : ℕ) (d : Pair) (from next : Option ℕ) → qs ≡ ps → from ≡ Some index → index < length ps → next ≡ cond (is_hard_tail (get_or qs index d).content.tail) (Some (index + 1)) None →
    hard_tail_chain_from ps from ≡ get_or qs index d ∷ hard_tail_chain_from ps next
run_next ps qs index d from next same at l e =
    ap (hard_tail_chain_from ps) at ∙ run_on ps index d l ∙ ap (λ p. p ∷ cond (is_hard_tail p.content.tail) (joined_pairs (drop (index + 1) ps)) []) (sym (ap (λ rs. get_or rs index d) same))
    ∙ ap (λ run. get_or qs index d ∷ run) (go (is_hard_tail (get_or qs index d).content.tail) ∙ ap (hard_tail_chain_from ps) (sym e))
  where
    go : (b : Bool) → cond b (joined_pairs (drop (index + 1) ps)) [] ≡ hard_tail_chain_from ps (cond b (Some (index + 1)) None)
    go true = refl
    go false = refl

-- what the pairs from a number on show is what the pair of that number shows, and what those show that follow
pub shapes_on : (ps : List Pair) (index : ℕ) (d : Pair) (next : Option ℕ) → index < length ps → next ≡ cond (is_hard_tail (get_or ps index d).content.tail) (Some (index + 1)) None →
    directory_entries_from ps (Some index) ≡ map named_struct (unmoved_entries (pairs_gstate ps) (get_or ps index d)) ++ directory_entries_from ps next
shapes_on ps index d next l e =
    ap (λ run. map named_struct (flat_map (unmoved_entries (pairs_gstate ps)) run)) (run_on ps index d l)
    ∙ map-append named_struct (unmoved_entries (pairs_gstate ps) (get_or ps index d)) (flat_map (unmoved_entries (pairs_gstate ps)) (cond (is_hard_tail (get_or ps index d).content.tail) (joined_pairs (drop (index + 1) ps)) []))
    ∙ ap (λ run. map named_struct (unmoved_entries (pairs_gstate ps) (get_or ps index d)) ++ map named_struct (flat_map (unmoved_entries (pairs_gstate ps)) run))
    (go (is_hard_tail (get_or ps index d).content.tail) ∙ ap (hard_tail_chain_from ps) (sym e))
  where
    go : (b : Bool) → cond b (joined_pairs (drop (index + 1) ps)) [] ≡ hard_tail_chain_from ps (cond b (Some (index + 1)) None)
    go true = refl
    go false = refl

-- one pair more was listed; qs are the cached pairs then
pub list_on : (ps qs : List Pair) (first index : ℕ) (d : Pair) (from next : Option ℕ) (olds more news : List NamedStruct) → qs ≡ ps → from ≡ Some index → index < length ps →
    more ≡ map named_struct (unmoved_entries (pairs_gstate qs) (get_or qs index d)) → next ≡ cond (is_hard_tail (get_or qs index d).content.tail) (Some (index + 1)) None → news ≡ olds ++ more →
    olds ++ directory_entries_from ps from ≡ directory_entries_from ps (Some first) → news ++ directory_entries_from ps next ≡ directory_entries_from ps (Some first)
list_on ps qs first index d from next olds more news same at l m n o before =
    let shown = m ∙ ap (λ rs. map named_struct (unmoved_entries (pairs_gstate rs) (get_or rs index d))) same in
    let goes = n ∙ ap (λ rs. cond (is_hard_tail (get_or rs index d).content.tail) (Some (index + 1)) None) same in
    ap (λ z. z ++ directory_entries_from ps next) (o ∙ ap (λ z. olds ++ z) shown)
    ∙ append_assoc olds (map named_struct (unmoved_entries (pairs_gstate ps) (get_or ps index d))) (directory_entries_from ps next)
    ∙ ap (λ z. olds ++ z) (sym (shapes_on ps index d next l goes) ∙ ap (directory_entries_from ps) (sym at))
    ∙ before

-- ---- how many they are

run_step : (ps : List Pair) (index : ℕ) (d : Pair) → index < length ps → joined_pair_count (drop index ps) ≡ cond (is_hard_tail (get_or ps index d).content.tail) (1 + joined_pair_count (drop (index + 1) ps)) 1
run_step [] index d l = absurd (omega arith)
run_step (p ∷ ps) zero d l = refl
run_step (p ∷ ps) (suc index) d l =
    let e : suc index + 1 ≡ suc (index + 1) = omega arith in
    run_step ps index d (omega arith) ∙ ap (λ (n : ℕ). cond (is_hard_tail (get_or ps index d).content.tail) (1 + joined_pair_count (drop n (p ∷ ps))) 1) (sym e)

-- one is read, the others are left
pub length_on : (ps qs : List Pair) (index : ℕ) (d : Pair) (from next : Option ℕ) → qs ≡ ps → from ≡ Some index → index < length ps →
    next ≡ cond (is_hard_tail (get_or qs index d).content.tail) (Some (index + 1)) None → hard_tail_count_from ps from ≡ 1 + hard_tail_count_from ps next
length_on ps qs index d from next same at l n =
    ap (hard_tail_count_from ps) at ∙ run_step ps index d l ∙ go (is_hard_tail (get_or ps index d).content.tail)
    ∙ ap (λ o. 1 + hard_tail_count_from ps o) (sym (n ∙ ap (λ rs. cond (is_hard_tail (get_or rs index d).content.tail) (Some (index + 1)) None) same))
  where
    go : (b : Bool) → cond b (1 + joined_pair_count (drop (index + 1) ps)) 1 ≡ 1 + hard_tail_count_from ps (cond b (Some (index + 1)) None)
    go true = refl
    go false = refl

pub length_some : (ps : List Pair) (index : ℕ) (d : Pair) (from : Option ℕ) → from ≡ Some index → index < length ps → 1 ≤ hard_tail_count_from ps from
length_some ps index d from at l =
    let next = cond (is_hard_tail (get_or ps index d).content.tail) (Some (index + 1)) None in
    let e = length_on ps ps index d from next refl at l refl in
    omega (arith, e)

-- a run of pairs, cut out of the thread
pub run_is : (p : Pair) (run after : List Pair) → IsRun (p ∷ run) → joined_pairs (p ∷ run ++ after) ≡ p ∷ run
run_is p [] after h = ap (λ b. p ∷ cond b (joined_pairs after) []) h
run_is p (q ∷ run) after h = ap (λ b. p ∷ cond b (joined_pairs (q ∷ run ++ after)) []) h.0 ∙ ap (λ ps. p ∷ ps) (run_is q run after h.1)

-- ---- numbers

get_first : (xs : List Pair) (p : Pair) (ys : List Pair) → slice_get (xs ++ p ∷ ys) (length xs) ≡ Some p
get_first [] p ys = refl
get_first (x ∷ xs) p ys = get_first xs p ys

each_at : (P : Pair → Type 0) (xs : List Pair) (i : ℕ) (x : Pair) → Each P xs → slice_get xs i ≡ Some x → P x
each_at P [] i x h e = absurd (cc)
each_at P (y ∷ xs) zero x h e = subst P (same_Some y x e) h.0
each_at P (y ∷ xs) (suc i) x h e = each_at P xs i x h.1 e

-- ---- in an accepted image

-- if a path leads to a directory: the pairs before it, its own and those behind it
pub record IsCutAt (ps : List Pair) (a : ℕ × ℕ) : Type 0 where
  pub chain : List Pair
  pub directory : HasDirectory (pairs_from_root ps) a
  pub first_is : ps ≡ chain ++ pairs_from_root ps
  pub is : ps ≡ (chain ++ directory.before) ++ (directory.first ∷ directory.run ++ directory.after)

pub cut_at : (disk : Disk) (ps : List Pair) (P : Path) (a : ℕ × ℕ) → IsAccepted disk ps → IsDirectoryAtPath ps P a → IsCutAt ps a
cut_at disk ps P a ok leads =
    let d = led_directory disk ps P a ok leads in
    let c = chain_of_thread ps in
    record {
      chain = take (count_before_root ps) ps;
      directory = d;
      first_is = c.0;
      is = c.0 ∙ ap (λ z. take (count_before_root ps) ps ++ z) d.is ∙ sym (append_assoc (take (count_before_root ps) ps) d.before (d.first ∷ d.run ++ d.after));
    }

-- the directory begins with a pair of the thread
pub begins_with : (disk : Disk) (ps : List Pair) (P : Path) (a : ℕ × ℕ) → IsAccepted disk ps → IsDirectoryAtPath ps P a → (n : ℕ) × IsPairAt ps a n
begins_with disk ps P a ok leads =
    let c = cut_at disk ps P a ok leads in (
      length (c.chain ++ c.directory.before),
      record {
        pair = c.directory.first;
        there = ap (λ z. slice_get z (length (c.chain ++ c.directory.before))) c.is ∙ get_first (c.chain ++ c.directory.before) c.directory.first (c.directory.run ++ c.directory.after);
        same = c.directory.at;
      },
    )

-- the pairs from a number on are those of the directory that begins there
module _ (disk : Disk) (ps : List Pair) (P : Path) (a : ℕ × ℕ) (n : ℕ) (ok : IsAccepted disk ps) (leads : IsDirectoryAtPath ps P a) (b : IsPairAt ps a n) where
  abbrev cut_here : IsCutAt ps a
  cut_here = cut_at disk ps P a ok leads

  run_here : joined_pairs (drop n ps) ≡ cut_here.directory.first ∷ cut_here.directory.run
  run_here =
      let c = cut_at disk ps P a ok leads in
      let d = c.directory in
      let number = same_number ps (length (c.chain ++ d.before)) n d.first b.pair ok.thread.distinct
      (ap (λ z. slice_get z (length (c.chain ++ d.before))) c.is ∙ get_first (c.chain ++ d.before) d.first (d.run ++ d.after)) b.there (pair_on d.first.at a b.pair.at d.at (pair_back b.pair.at a b.same)) in
      ap₂ (λ k z. joined_pairs (drop k z)) (sym number) c.is ∙ ap joined_pairs (drop-append_seam (c.chain ++ d.before) (d.first ∷ d.run ++ d.after)) ∙ run_is d.first d.run d.after d.is_run

  pub own_pairs : joined_pairs (drop n ps) ≡ directory_pairs ps a
  own_pairs = run_here ∙ sym (pairs_at disk ps P a ok leads cut_here.directory)

pub own_run : (disk : Disk) (ps : List Pair) (P : Path) (a : ℕ × ℕ) (n : ℕ) → IsAccepted disk ps → IsDirectoryAtPath ps P a → IsPairAt ps a n →
    flat_map (unmoved_entries (pairs_gstate ps)) (joined_pairs (drop n ps)) ≡ all_entries ps a
own_run disk ps P a n ok leads b =
    ap (flat_map (unmoved_entries g)) (run_here disk ps P a n ok leads b)
    ∙ sym (ap (λ ds. directory_slots ds a) directories_are ∙ entries_own (pair_directories g d.before) (listing d.first.at (flat_map (unmoved_entries g) (d.first ∷ d.run))) (pair_directories g d.after) a apart d.at)
  where
    g : Gstate
    g = pairs_gstate ps

    c : IsCutAt ps a
    c = cut_here disk ps P a n ok leads b

    d : HasDirectory (pairs_from_root ps) a
    d = c.directory

    directories_are : pair_directories g (pairs_from_root ps) ≡ pair_directories g d.before ++ listing d.first.at (flat_map (unmoved_entries g) (d.first ∷ d.run)) ∷ pair_directories g d.after
    directories_are = ap (pair_directories g) d.is ∙ run_directories g d.before d.first d.run d.after d.ends d.is_run

    apart : Apart (pair_directories g d.before ++ listing d.first.at (flat_map (unmoved_entries g) (d.first ∷ d.run)) ∷ pair_directories g d.after)
    apart = subst Apart directories_are (distinct_apart g (pairs_from_root ps) (distinct_right c.chain (pairs_from_root ps) (subst (λ z. IsDistinct nat_eq (pairs_blocks z)) c.first_is ok.thread.distinct)))

pub own_shapes : (disk : Disk) (ps : List Pair) (P : Path) (a : ℕ × ℕ) (n : ℕ) → IsAccepted disk ps → IsDirectoryAtPath ps P a → IsPairAt ps a n →
    directory_entries_from ps (Some n) ≡ map named_struct (all_entries ps a)
own_shapes disk ps P a n ok leads b = ap (map named_struct) (own_run disk ps P a n ok leads b)

-- ---- by the headers

pub within : (ps : List Pair) (a : ℕ × ℕ) (n : ℕ) → IsPairAt ps a n → n < length ps
within ps a n b = slice_get_within ps n b.pair b.there

pub number_within : (ps : List Pair) (a : ℕ × ℕ) (o : Option ℕ) (n : ℕ) → o ≡ Some n → IfSome o (IsPairAt ps a) → n < length ps
number_within ps a o n e h = within ps a n (subst (λ z. IfSome z (IsPairAt ps a)) e h)

away : (ps : List Pair) (a : ℕ × ℕ) (n : ℕ) → Each (λ p. same_pair p.at a ≡ false) ps → IsPairAt ps a n → ⊥
away ps a n h b = let e = sym (each_at (λ p. same_pair p.at a ≡ false) ps n b.pair h b.there) ∙ b.same in absurd (cc)

pub number_some : (ps : List Pair) (a : ℕ × ℕ) (o : Option ℕ) → IfNone o (Each (λ p. same_pair p.at a ≡ false) ps) → (n : ℕ) → IsPairAt ps a n → IsSome o
number_some ps a None h n b = absurd (away ps a n h b)
number_some ps a (Some k) h n b = refl
