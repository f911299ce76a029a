-- How many blocks an operation allocates, by the layout of the slots that it leaves.
use Rattle.std.proofs.Common.{ℕ, zero, suc, ◌≡◌, ◌≤◌, ◌+◌, ◌*◌, ◌⊎◌, ⊎_elim, inl, inr, Bool, true, false, if◌then◌else◌, List, [], ◌∷◌, ◌++◌, length, map, Option, None, refl, ap, arith, drop, flat_map, length-append, remove, take}
use Rattle.std.specs.Prelude.{is_none, sum_by}
use Rattle.lfs_tree.proofs.Common.{length-map, sum_by-append, sum_by-cons, Disk, ArePairsSplitOrDropped, IsFittingPair, directory_address, continued_directory_address, skip_list_block_count, pair_with_slots, pairs_without_moved, Gstate, Slot, Struct, Inline, Ctz, Branch, slot_size, Pair, pairs_blocks, pairs_gstate, all_unmoved_slots, struct_blocks, used_blocks, Each, each_append, length_back, file_blocks}
use Rattle.lfs_model.specs.session.Layout.{IsPairSplitOrDropped}
use Rattle.lfs_model.specs.format.Thread.{slots_not_moved}

-- ---- how many blocks lists have

abbrev pub list_length : ℕ → Struct → ℕ
list_length block_size (Inline bytes) = 0
list_length block_size (Ctz head size) = skip_list_block_count block_size size
list_length block_size (Branch to) = 0

length_file : (disk : Disk) (s : Struct) → length (struct_blocks disk s) ≡ list_length disk.block_size s
length_file disk (Inline bytes) = refl
length_file disk (Ctz head size) = length_back disk.blocks (skip_list_block_count disk.block_size size) head
length_file disk (Branch to) = refl

abbrev pub lists_in : ℕ → List Slot → ℕ
lists_in block_size slots = sum_by (λ (s : Slot). list_length block_size s.struct) slots

length_files : (disk : Disk) (slots : List Slot) → length (file_blocks disk slots) ≡ lists_in disk.block_size slots
length_files disk [] = refl
length_files disk (s ∷ slots) =
    let e = length-append (struct_blocks disk s.struct) (file_blocks disk slots) in
    let f = length_file disk s.struct in
    let g = length_files disk slots in
    let h = sum_by-cons (λ (x : Slot). list_length disk.block_size x.struct) s slots in
    omega arith

-- of pairs
abbrev pub lists_of : ℕ → List Pair → ℕ
lists_of block_size [] = 0
lists_of block_size (p ∷ ps) = lists_in block_size p.content.slots + lists_of block_size ps

pub lists_append : (block_size : ℕ) (ps qs : List Pair) → lists_of block_size (ps ++ qs) ≡ lists_of block_size ps + lists_of block_size qs
lists_append block_size [] qs = omega arith
lists_append block_size (p ∷ ps) qs = let e = lists_append block_size ps qs in omega arith

length_blocks : (ps : List Pair) → length (pairs_blocks ps) ≡ 2 * length ps
length_blocks [] = refl
length_blocks (p ∷ ps) = let e = length_blocks ps in omega arith

-- the blocks of pairs and of all lists that their slots name
abbrev pub total : ℕ → List Pair → ℕ
total block_size ps = 2 * length ps + lists_of block_size ps

-- ---- slots without one of them

take_none : (i : ℕ) → (let none : List Slot = [] in take i none ≡ none)
take_none zero = refl
take_none (suc i) = refl

drop_none : (i : ℕ) → (let none : List Slot = [] in drop i none ≡ none)
drop_none zero = refl
drop_none (suc i) = refl

pub fewer_without : (f : Slot → ℕ) (slots : List Slot) (i : ℕ) → sum_by f (remove slots i) ≤ sum_by f slots
fewer_without f [] i = let a = take_none i in let b = drop_none (suc i) in let e = sum_by-append f (take i []) (drop (suc i) []) in let c = ap (sum_by f) a in let d = ap (sum_by f) b in omega arith
fewer_without f (s ∷ slots) zero = let e = sum_by-cons f s slots in omega arith
fewer_without f (s ∷ slots) (suc i) = let e = sum_by-cons f s slots in let g = sum_by-cons f s (remove slots i) in let h = fewer_without f slots i in omega arith

shorter_without : (slots : List Slot) (i : ℕ) → length (remove slots i) ≤ length slots
shorter_without [] i = let none : List Slot = [] in let e = length-append (take i none) (drop (suc i) none) in let c = ap length (take_none i) in let d = ap length (drop_none (suc i)) in omega arith
shorter_without (s ∷ slots) zero = omega arith
shorter_without (s ∷ slots) (suc i) = let h = shorter_without slots i in omega arith

record IsFewer (xs ys : List Slot) : Type 0 where
  sums : (f : Slot → ℕ) → sum_by f xs ≤ sum_by f ys
  count : length xs ≤ length ys

fewer_unmoved : (g : Gstate) (p : Pair) → IsFewer (slots_not_moved g p) p.content.slots
fewer_unmoved g p = go _
  where
    go : (b : Bool) → IsFewer (if b then remove p.content.slots g.id else p.content.slots) p.content.slots
    go true = record { sums = λ f. fewer_without f p.content.slots g.id; count = shorter_without p.content.slots g.id }
    go false = record { sums = λ f. omega arith; count = omega arith }

fits_fewer : (disk : Disk) (p : Pair) (slots : List Slot) → IsFewer slots p.content.slots → IsFittingPair disk p → IsFittingPair disk (pair_with_slots slots p)
fits_fewer disk p slots fewer fits = record {
  size = (let k = fewer.sums slot_size in let f = fits.size in omega arith);
  count = (let k = fewer.count in let f = fits.count in omega arith);
}

module _ (disk : Disk) where
  abbrev size : ℕ
  size = disk.block_size

  -- the slots that aren't moved away
  pub fit_unmoved : (g : Gstate) (ps : List Pair) → Each (IsFittingPair disk) ps → Each (IsFittingPair disk) (map (λ p. pair_with_slots (slots_not_moved g p) p) ps)
  fit_unmoved g [] h = tt
  fit_unmoved g (p ∷ ps) h = (fits_fewer disk p (slots_not_moved g p) (fewer_unmoved g p) h.0, fit_unmoved g ps h.1)

  pub total_unmoved : (g : Gstate) (ps : List Pair) → total size (map (λ p. pair_with_slots (slots_not_moved g p) p) ps) ≤ total size ps
  total_unmoved g [] = omega arith
  total_unmoved g (p ∷ ps) = let k = total_unmoved g ps in let f = (fewer_unmoved g p).sums (λ (s : Slot). list_length size s.struct) in omega arith

  lists_unmoved : (g : Gstate) (ps : List Pair) → lists_in size (flat_map (slots_not_moved g) ps) ≡ lists_of size (map (λ p. pair_with_slots (slots_not_moved g p) p) ps)
  lists_unmoved g [] = refl
  lists_unmoved g (p ∷ ps) = let e = sum_by-append (λ (s : Slot). list_length size s.struct) (slots_not_moved g p) (flat_map (slots_not_moved g) ps) in let k = lists_unmoved g ps in omega arith

  -- an image uses the blocks of its pairs, and of the lists that aren't moved away
  pub used_total : (ps : List Pair) → length (used_blocks disk ps) ≡ total size (pairs_without_moved ps)
  used_total ps =
      let e = length-append (pairs_blocks ps) (file_blocks disk (all_unmoved_slots ps)) in
      let f = length_blocks ps in
      let g = length_files disk (all_unmoved_slots ps) in
      let h = lists_unmoved (pairs_gstate ps) ps in
      let l = length-map ps (λ (p : Pair). pair_with_slots (slots_not_moved (pairs_gstate ps) p) p) in
      omega arith

  -- ---- pairs that are cut

  -- all but so many fit
  abbrev pub FitBut : ℕ → List Pair → Type 0
  FitBut k [] = Unit {0}
  FitBut k (d ∷ ds) = (IsFittingPair disk d × FitBut k ds) ⊎ ((j : ℕ) × ((k ≡ suc j) × FitBut j ds))

  pub all_fit : (k : ℕ) (ds : List Pair) → Each (IsFittingPair disk) ds → FitBut k ds
  all_fit k [] h = tt
  all_fit k (d ∷ ds) h = inl (h.0, all_fit k ds h.1)

  pub some_fit : (k : ℕ) (xs ys : List Pair) → Each (IsFittingPair disk) xs → FitBut k ys → FitBut k (xs ++ ys)
  some_fit k [] ys h f = f
  some_fit k (x ∷ xs) ys h f = inl (h.0, some_fit k xs ys h.1 f)

  -- the pairs that replace a pair
  stands_few : (first : Bool) (goes : Type 0) (d : Pair) (now : List Pair) → IsPairSplitOrDropped disk first goes d now → (total size now ≤ 2 + lists_in size d.content.slots) ⊎ ((IsFittingPair disk d → ⊥) × (total size now ≤ 4 + lists_in size d.content.slots))
  stands_few first goes d [] h = inl (omega arith)
  stands_few first goes d (q ∷ []) h = inl (let e = ap (lists_in size) h.1 in omega arith)
  stands_few first goes d (q ∷ f ∷ []) h = inr (
    h.2,
    (
        let e = ap (lists_in size) h.1 in
        let a = sum_by-append (λ (s : Slot). list_length size s.struct) q.content.slots (f.content.slots ++ []) in
        let b = sum_by-append (λ (s : Slot). list_length size s.struct) f.content.slots [] in
        omega arith),
  )
  stands_few first goes d (q ∷ f ∷ g ∷ ps) h = absurd h

  stands_fit : (first : Bool) (goes : Type 0) (d : Pair) (now : List Pair) → IsPairSplitOrDropped disk first goes d now → Each (IsFittingPair disk) now
  stands_fit first goes d [] h = tt
  stands_fit first goes d (q ∷ []) h = (record { size = (let e = ap (sum_by slot_size) h.1 in let f = h.2.size in omega arith); count = (let e = ap length h.1 in let f = h.2.count in omega arith) }, tt)
  stands_fit first goes d (q ∷ f ∷ []) h = (h.3, (h.4, tt))
  stands_fit first goes d (q ∷ f ∷ g ∷ ps) h = absurd h

  pub total_append : (xs ys : List Pair) → total size (xs ++ ys) ≡ total size xs + total size ys
  total_append xs ys = let e = length-append xs ys in let f = lists_append size xs ys in omega arith

  step_few : (first : Bool) (goes : Type 0) (d : Pair) (now : List Pair) (ds : List Pair) (rest : List Pair) (k : ℕ) → IsPairSplitOrDropped disk first goes d now → FitBut k (d ∷ ds)
      → ((j : ℕ) → FitBut j ds → total size rest ≤ total size ds + 2 * j) → total size (now ++ rest) ≤ total size (d ∷ ds) + 2 * k
  step_few first goes d now ds rest k h (inl fits) next =
      let e = total_append now rest in
      let n = next k fits.1 in
      ⊎_elim (λ few. omega arith) (λ cut. absurd (cut.0 fits.0)) (stands_few first goes d now h)
  step_few first goes d now ds rest k h (inr cut) next =
      let e = total_append now rest in
      let n = next cut.0 cut.1.1 in
      let s = cut.1.0 in
      ⊎_elim (λ few. omega arith) (λ more. let m = more.1 in omega arith) (stands_few first goes d now h)

  pub all_few : (goes : ℕ × ℕ → Type 0) (n : ℕ) (from : Option (ℕ × ℕ)) (ds : List Pair) (parts : List (List Pair)) → ArePairsSplitOrDropped disk goes n from ds parts → (k : ℕ) → FitBut k ds
      → total size (flat_map (λ part. part) parts) ≤ total size ds + 2 * k
  all_few goes n from [] [] h k f = omega arith
  all_few goes n from [] (now ∷ rest) h k f = absurd h
  all_few goes n from (d ∷ ds) [] h k f = absurd (go n h)
    where
      go : (n : ℕ) → ArePairsSplitOrDropped disk goes n from (d ∷ ds) [] → ⊥
      go zero h = h
      go (suc n) h = h
  all_few goes zero from (d ∷ ds) (now ∷ rest) h k f =
      step_few (is_none from) (goes (directory_address from d)) d now ds (flat_map (λ part. part) rest) k h.0 f (λ j g. all_few goes zero (continued_directory_address from d) ds rest h.1 j g)
  all_few goes (suc n) from (d ∷ ds) (now ∷ rest) h k f =
      step_few true ⊥ d now ds (flat_map (λ part. part) rest) k h.0 f (λ j g. all_few goes n None ds rest h.1 j g)

  pub parts_fit : (goes : ℕ × ℕ → Type 0) (n : ℕ) (from : Option (ℕ × ℕ)) (ds : List Pair) (parts : List (List Pair)) → ArePairsSplitOrDropped disk goes n from ds parts → Each (IsFittingPair disk) (flat_map (λ part. part) parts)
  parts_fit goes n from [] [] h = tt
  parts_fit goes n from [] (now ∷ rest) h = absurd h
  parts_fit goes n from (d ∷ ds) [] h = absurd (go n h)
    where
      go : (n : ℕ) → ArePairsSplitOrDropped disk goes n from (d ∷ ds) [] → ⊥
      go zero h = h
      go (suc n) h = h
  parts_fit goes zero from (d ∷ ds) (now ∷ rest) h = each_append (IsFittingPair disk) now (flat_map (λ part. part) rest) (stands_fit (is_none from) (goes (directory_address from d)) d now h.0) (parts_fit goes zero (continued_directory_address from d) ds rest h.1)
  parts_fit goes (suc n) from (d ∷ ds) (now ∷ rest) h = each_append (IsFittingPair disk) now (flat_map (λ part. part) rest) (stands_fit true ⊥ d now h.0) (parts_fit goes n None ds rest h.1)
