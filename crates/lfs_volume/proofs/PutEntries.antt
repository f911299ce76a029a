-- Entries that are put into tables by number, and the first entry that passes a test.
use Rattle.std.proofs.Common.{inl, inr, ℕ, zero, suc, ◌≡◌, ◌<◌, ◌≤◌, not, Bool, true, false, cond, List, [], ◌∷◌, ◌++◌, length, get_or, Option, Some, None, is_none, unwrap_or, refl, sym, ap, ap₂, subst, ◌∙◌, arith}
use Rattle.std.specs.Prelude.{◌⊎◌, slice_set}
use Rattle.std.specs.List.{position_or_len}
use Rattle.std.specs.Option.{option_map}
use Rattle.std.proofs.lemmas.Bool.{cases_lt, le-ltb, lt-ltb}
use Rattle.std.proofs.lemmas.List.Sums.{fails_before_first, passes_at_first, prefix_len-le-length}
use Rattle.lfs_model.specs.format.Names.{same_name}
use Rattle.lfs_model.proofs.Paths.{name_from_same, same_itself}
use Rattle.lfs_volume.specs.Calls.{free_entry_index, has_path, node_index_for_path, nodes_after_open, with_entry}
use Rattle.lfs_volume.specs.Volume.{NodeView, entry_at, opened_node, resized_node}
use Rattle.lfs_volume.proofs.Entries.{entry_inside, entry_other, entry_set, no_entry, set_same, set_twice}

-- ---- the first that passes

entry_is : {A : Type 0} (xs : List (Option A)) (i : ℕ) → entry_at xs i ≡ get_or xs i None
entry_is [] i = refl
entry_is (x ∷ xs) zero = refl
entry_is (x ∷ xs) (suc i) = entry_is xs i

first_within : {A : Type 0} (p : Option A → Bool) (xs : List (Option A)) → position_or_len p xs ≤ length xs
first_within p xs = prefix_len-le-length (λ x. not (p x)) xs

first_passes : {A : Type 0} (p : Option A → Bool) (xs : List (Option A)) → position_or_len p xs < length xs → p (entry_at xs (position_or_len p xs)) ≡ true
first_passes p xs less = ap p (entry_is xs (position_or_len p xs)) ∙ passes_at_first p xs None less

none_passes : {A : Type 0} (p : Option A → Bool) (xs : List (Option A)) (i : ℕ) (x : A) → length xs ≤ position_or_len p xs → entry_at xs i ≡ Some x → p (Some x) ≡ false
none_passes p xs i x past at =
    let inside = entry_inside xs i x at in
    ap p (sym at ∙ entry_is xs i) ∙ fails_before_first p xs i None (omega arith)

pub free_within : {A : Type 0} (xs : List (Option A)) → free_entry_index xs ≤ length xs
free_within xs = first_within is_none xs

free_is_none : {A : Type 0} (xs : List (Option A)) → entry_at xs (free_entry_index xs) ≡ None
free_is_none {A} xs = go (cases_lt (free_entry_index xs) (length xs))
  where
    none_from : (o : Option A) → is_none o ≡ true → o ≡ None
    none_from None e = refl
    none_from (Some x) e = absurd (cc)

    go : (free_entry_index xs < length xs) ⊎ (length xs ≤ free_entry_index xs) → entry_at xs (free_entry_index xs) ≡ None
    go (inl less) = none_from (entry_at xs (free_entry_index xs)) (first_passes is_none xs less)
    go (inr past) = no_entry xs (free_entry_index xs) past

-- ---- an entry is put

pushed : {A : Type 0} (xs : List (Option A)) (i : ℕ) (o : Option A) → i ≡ length xs → entry_at (xs ++ o ∷ []) i ≡ o
pushed [] zero o e = refl
pushed [] (suc i) o e = absurd (omega arith)
pushed (x ∷ xs) zero o e = absurd (omega arith)
pushed (x ∷ xs) (suc i) o e = pushed xs i o (omega arith)

pushed_elsewhere : {A : Type 0} (xs : List (Option A)) (i j : ℕ) (o : Option A) → i ≡ length xs → (i ≡ j → ⊥) → entry_at (xs ++ o ∷ []) j ≡ entry_at xs j
pushed_elsewhere [] i zero o e ne = absurd (ne e)
pushed_elsewhere [] i (suc j) o e ne = refl
pushed_elsewhere (x ∷ xs) i zero o e ne = refl
pushed_elsewhere (x ∷ xs) i (suc j) o e ne = pushed_elsewhere xs (length xs) j o refl (λ k. ne (e ∙ ap suc k))

pushed_twice : {A : Type 0} (xs : List (Option A)) (i : ℕ) (o p : Option A) → i ≡ length xs → slice_set (xs ++ o ∷ []) i p ≡ xs ++ p ∷ []
pushed_twice [] zero o p e = refl
pushed_twice [] (suc i) o p e = absurd (omega arith)
pushed_twice (x ∷ xs) zero o p e = absurd (omega arith)
pushed_twice (x ∷ xs) (suc i) o p e = ap (λ ys. x ∷ ys) (pushed_twice xs i o p (omega arith))

module _ {A : Type 0} (xs : List (Option A)) (i : ℕ) (within : i ≤ length xs) where
  inside_is : (o : Option A) → i < length xs → with_entry xs i o ≡ slice_set xs i o
  inside_is o less = ap (λ b. cond b (slice_set xs i o) (xs ++ o ∷ [])) (lt-ltb i (length xs) less)

  outside_is : (o : Option A) → length xs ≤ i → with_entry xs i o ≡ xs ++ o ∷ []
  outside_is o past = ap (λ b. cond b (slice_set xs i o) (xs ++ o ∷ [])) (le-ltb i (length xs) past)

  pub put_there : (o : Option A) → entry_at (with_entry xs i o) i ≡ o
  put_there o = go (cases_lt i (length xs))
    where
      go : (i < length xs) ⊎ (length xs ≤ i) → entry_at (with_entry xs i o) i ≡ o
      go (inl less) = ap (λ ys. entry_at ys i) (inside_is o less) ∙ entry_set xs i o less
      go (inr past) = ap (λ ys. entry_at ys i) (outside_is o past) ∙ pushed xs i o (omega arith)

  pub put_elsewhere : (o : Option A) (j : ℕ) → (i ≡ j → ⊥) → entry_at (with_entry xs i o) j ≡ entry_at xs j
  put_elsewhere o j ne = go (cases_lt i (length xs))
    where
      go : (i < length xs) ⊎ (length xs ≤ i) → entry_at (with_entry xs i o) j ≡ entry_at xs j
      go (inl less) = ap (λ ys. entry_at ys j) (inside_is o less) ∙ entry_other xs i j o ne
      go (inr past) = ap (λ ys. entry_at ys j) (outside_is o past) ∙ pushed_elsewhere xs i j o (omega arith) ne

  pub put_twice : (o p : Option A) → slice_set (with_entry xs i o) i p ≡ with_entry xs i p
  put_twice o p = go (cases_lt i (length xs))
    where
      go : (i < length xs) ⊎ (length xs ≤ i) → slice_set (with_entry xs i o) i p ≡ with_entry xs i p
      go (inl less) = ap (λ ys. slice_set ys i p) (inside_is o less) ∙ set_twice xs i o p ∙ sym (inside_is p less)
      go (inr past) = ap (λ ys. slice_set ys i p) (outside_is o past) ∙ pushed_twice xs i o p (omega arith) ∙ sym (outside_is p past)

pub put_over : {A : Type 0} (xs : List (Option A)) (i : ℕ) (x : A) (o : Option A) → entry_at xs i ≡ Some x → with_entry xs i o ≡ slice_set xs i o
put_over xs i x o at = ap (λ b. cond b (slice_set xs i o) (xs ++ o ∷ [])) (lt-ltb i (length xs) (entry_inside xs i x at))

-- ---- the node of a path

-- a node with the path is open, or none is and the number is free
pub data NodeOfPath (nodes : List (Option NodeView)) (path : List ℕ) : Type 0 where
  is_open : (n : NodeView) → entry_at nodes (node_index_for_path nodes path) ≡ Some n → n.path ≡ Some path → NodeOfPath nodes path
  is_new : entry_at nodes (node_index_for_path nodes path) ≡ None → ((j : ℕ) (n : NodeView) → entry_at nodes j ≡ Some n → n.path ≡ Some path → ⊥) → NodeOfPath nodes path

module _ (nodes : List (Option NodeView)) (path : List ℕ) where
  first : ℕ
  first = position_or_len (has_path path) nodes

  has_it : (o : Option NodeView) → has_path path o ≡ true → (n : NodeView) × ((o ≡ Some n) × (n.path ≡ Some path))
  has_it None e = absurd (cc)
  has_it (Some n) e = (n, (refl, from n.path e))
    where
      from : (p : Option (List ℕ)) → unwrap_or (option_map (λ q. same_name q path) p) false ≡ true → p ≡ Some path
      from None k = absurd (cc)
      from (Some q) k = ap Some (name_from_same q path k)

  open_number : position_or_len (has_path path) nodes < length nodes → node_index_for_path nodes path ≡ position_or_len (has_path path) nodes
  open_number less = ap (λ b. cond b (position_or_len (has_path path) nodes) (free_entry_index nodes)) (lt-ltb (position_or_len (has_path path) nodes) (length nodes) less)

  new_number : length nodes ≤ position_or_len (has_path path) nodes → node_index_for_path nodes path ≡ free_entry_index nodes
  new_number past = ap (λ b. cond b (position_or_len (has_path path) nodes) (free_entry_index nodes)) (le-ltb (position_or_len (has_path path) nodes) (length nodes) past)

  pub number_within : node_index_for_path nodes path ≤ length nodes
  number_within = go (cases_lt (position_or_len (has_path path) nodes) (length nodes))
    where
      go : (position_or_len (has_path path) nodes < length nodes) ⊎ (length nodes ≤ position_or_len (has_path path) nodes) → node_index_for_path nodes path ≤ length nodes
      go (inl less) = subst (λ i. i ≤ length nodes) (sym (open_number less)) (first_within (has_path path) nodes)
      go (inr past) = subst (λ i. i ≤ length nodes) (sym (new_number past)) (free_within nodes)

  pub node_there : NodeOfPath nodes path
  node_there = go (cases_lt (position_or_len (has_path path) nodes) (length nodes))
    where
      go : (position_or_len (has_path path) nodes < length nodes) ⊎ (length nodes ≤ position_or_len (has_path path) nodes) → NodeOfPath nodes path
      go (inl less) =
          let n = has_it (entry_at nodes (position_or_len (has_path path) nodes)) (first_passes (has_path path) nodes less) in
          is_open n.0 (ap (entry_at nodes) (open_number less) ∙ n.1.0) n.1.1
      go (inr past) = is_new (ap (entry_at nodes) (new_number past) ∙ free_is_none nodes) (λ j n at p.
          let no = none_passes (has_path path) nodes j n past at in
          let yes : has_path path (Some n) ≡ true = ap (λ o. unwrap_or (option_map (λ q. same_name q path) o) false) p ∙ same_itself path in
          absurd (let k : true ≡ false = sym yes ∙ no in cc))

  -- the table of an open node stays
  pub stays_open : (size : ℕ) → position_or_len (has_path path) nodes < length nodes → nodes ≡ nodes_after_open path size false nodes
  stays_open size less =
      let n = has_it (entry_at nodes (position_or_len (has_path path) nodes)) (first_passes (has_path path) nodes less) in
      let at = ap (entry_at nodes) (open_number less) ∙ n.1.0 in
      sym (ap (λ o. with_entry nodes (node_index_for_path nodes path) (Some (unwrap_or o (opened_node path size)))) at
      ∙ put_over nodes (node_index_for_path nodes path) n.0 (Some n.0) at ∙ ap (slice_set nodes (node_index_for_path nodes path)) (sym at) ∙ set_same nodes (node_index_for_path nodes path))

  -- a new node
  pub is_added : (size : ℕ) → length nodes ≤ position_or_len (has_path path) nodes → with_entry nodes (free_entry_index nodes) (Some (opened_node path size)) ≡ nodes_after_open path size false nodes
  is_added size past =
      sym (ap (λ o. with_entry nodes (node_index_for_path nodes path) (Some (unwrap_or o (opened_node path size)))) (ap (entry_at nodes) (new_number past) ∙ free_is_none nodes)
      ∙ ap (λ i. with_entry nodes i (Some (opened_node path size))) (new_number past))

  -- and it is cut
  pub is_cut : (size : ℕ) → slice_set (nodes_after_open path size false nodes) (node_index_for_path nodes path) (option_map (resized_node 0 []) (entry_at (nodes_after_open path size false nodes) (node_index_for_path nodes path))) ≡ nodes_after_open path size true nodes
  is_cut size =
      let m : NodeView = unwrap_or (entry_at nodes (node_index_for_path nodes path)) (opened_node path size) in
      ap (λ o. slice_set (nodes_after_open path size false nodes) (node_index_for_path nodes path) (option_map (resized_node 0 []) o)) (put_there nodes (node_index_for_path nodes path) number_within (Some m))
      ∙ put_twice nodes (node_index_for_path nodes path) number_within (Some m) (Some (resized_node 0 [] m))

-- ---- how the code finds the number

pub found_open : (nodes : List (Option NodeView)) (path : List ℕ) (i : ℕ) → i ≡ position_or_len (has_path path) nodes → i < length nodes → i ≡ node_index_for_path nodes path
found_open nodes path i is less = is ∙ sym (open_number nodes path (subst (λ k. k < length nodes) is less))

pub found_free : (nodes : List (Option NodeView)) (path : List ℕ) (i j : ℕ) → i ≡ position_or_len (has_path path) nodes → length nodes ≤ i → j ≡ free_entry_index nodes → j ≡ node_index_for_path nodes path
found_free nodes path i j is past free = free ∙ sym (new_number nodes path (subst (λ k. length nodes ≤ k) is past))

pub cut_open : (nodes mid new : List (Option NodeView)) (path : List ℕ) (size number : ℕ) → number ≡ node_index_for_path nodes path → mid ≡ nodes_after_open path size false nodes → new ≡ slice_set mid number (option_map (resized_node 0 []) (entry_at mid number)) → new ≡ nodes_after_open path size true nodes
cut_open nodes mid new path size number is opened cut =
    cut ∙ ap₂ (λ (ns : List (Option NodeView)) (i : ℕ). slice_set ns i (option_map (resized_node 0 []) (entry_at ns i))) opened is ∙ is_cut nodes path size
