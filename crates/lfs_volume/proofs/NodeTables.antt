-- Tables of nodes of which one loses its path, and others get another.
use Rattle.std.proofs.Common.{inl, inr, ℕ, zero, suc, ◌≡◌, ◌<◌, ◌+◌, Bool, true, false, not, cond, List, [], ◌∷◌, ◌++◌, drop, length, map, unwrap_or, Option, Some, None, refl, sym, ap, ap₂, ◌∙◌, arith}
use Rattle.std.specs.Prelude.{◌⊎◌, slice_index_or, slice_set}
use Rattle.std.specs.List.{position_or_len}
use Rattle.std.specs.Option.{option_and_then, option_map}
use Rattle.lfs_model.specs.format.Names.{same_name}
use Rattle.lfs_model.specs.tree.Tree.{Tree}
use Rattle.lfs_model.proofs.Paths.{name_from_same}
use Rattle.lfs_volume.specs.Calls.{nodes_with_change_at, has_path, is_at_or_beneath, node_after_rename, renamed_path, unlink_path, with_path, nodes_with_paths, nodes_without_path}
use Rattle.lfs_volume.specs.Volume.{NodeView, entry_at, loaded_node, node_bytes, unlinked_node}
use Rattle.lfs_volume.proofs.Entries.{changed_entry, entry_index, set_length, set_same}

-- ---- one entry

pub entry_map : (f : NodeView → NodeView) (xs : List (Option NodeView)) (i : ℕ) → entry_at (map (option_map f) xs) i ≡ option_map f (entry_at xs i)
entry_map f [] i = refl
entry_map f (x ∷ xs) zero = refl
entry_map f (x ∷ xs) (suc i) = entry_map f xs i

map_twice : (f g : NodeView → NodeView) (o : Option NodeView) → option_map g (option_map f o) ≡ option_map (λ n. g (f n)) o
map_twice f g None = refl
map_twice f g (Some n) = refl

changed_twice : (i : ℕ) (f g : NodeView → NodeView) (xs : List (Option NodeView)) → nodes_with_change_at i g (nodes_with_change_at i f xs) ≡ nodes_with_change_at i (λ n. g (f n)) xs
changed_twice i f g [] = refl
changed_twice zero f g (x ∷ xs) = ap (λ o. o ∷ xs) (map_twice f g x)
changed_twice (suc i) f g (x ∷ xs) = ap (λ os. x ∷ os) (changed_twice i f g xs)

-- ---- the node with a path

abbrev pub with_it : List ℕ → (NodeView → NodeView) → NodeView → NodeView
with_it path f n = cond (has_path path (Some n)) (f n) n

-- no two nodes have the path
abbrev pub HasPathOnce : List ℕ → List (Option NodeView) → Type 0
HasPathOnce path xs = (i j : ℕ) (n m : NodeView) → entry_at xs i ≡ Some n → entry_at xs j ≡ Some m → has_path path (Some n) ≡ true → has_path path (Some m) ≡ true → i ≡ j

none_has : (path : List ℕ) (f : NodeView → NodeView) (xs : List (Option NodeView)) → ((j : ℕ) (m : NodeView) → entry_at xs j ≡ Some m → has_path path (Some m) ≡ false) → map (option_map (with_it path f)) xs ≡ xs
none_has path f [] h = refl
none_has path f (None ∷ xs) h = ap (λ os. None ∷ os) (none_has path f xs (λ j m e. h (suc j) m e))
none_has path f (Some n ∷ xs) h = ap₂ (λ o os. o ∷ os) (ap (λ b. Some (cond b (f n) n)) (h 0 n refl)) (none_has path f xs (λ j m e. h (suc j) m e))

false_if : (b : Bool) → (b ≡ true → ⊥) → b ≡ false
false_if true h = absurd (h refl)
false_if false h = refl

-- where the first such node is
abbrev first_with : List ℕ → List (Option NodeView) → ℕ
first_with path [] = 0
first_with path (x ∷ xs) = cond (has_path path x) 0 (suc (first_with path xs))

position_is : (path : List ℕ) (xs : List (Option NodeView)) → position_or_len (has_path path) xs ≡ first_with path xs
position_is path [] = refl
position_is path (x ∷ xs) = go (has_path path x) (position_is path xs)
  where
    go : (b : Bool) → position_or_len (has_path path) xs ≡ first_with path xs → cond (not b) (1 + position_or_len (has_path path) xs) 0 ≡ cond b 0 (suc (first_with path xs))
    go true e = refl
    go false e = omega arith

less : (i j : ℕ) → suc i ≡ suc j → i ≡ j
less i j e = omega arith

behind_once : (path : List ℕ) (x : Option NodeView) (xs : List (Option NodeView)) → HasPathOnce path (x ∷ xs) → HasPathOnce path xs
behind_once path x xs once i j n m e f p q = less i j (once (suc i) (suc j) n m e f p q)

only_first : (path : List ℕ) (f : NodeView → NodeView) (xs : List (Option NodeView)) → HasPathOnce path xs → nodes_with_change_at (first_with path xs) f xs ≡ map (option_map (with_it path f)) xs
only_first path f [] once = refl
only_first path f (None ∷ xs) once = ap (λ os. None ∷ os) (only_first path f xs (behind_once path None xs once))
only_first path f (Some n ∷ xs) once = go (has_path path (Some n)) refl (only_first path f xs (behind_once path (Some n) xs once))
  where
    apart : (j : ℕ) → 0 ≡ suc j → ⊥
    apart j e = absurd (omega arith)

    go : (b : Bool) → has_path path (Some n) ≡ b → nodes_with_change_at (first_with path xs) f xs ≡ map (option_map (with_it path f)) xs
        → nodes_with_change_at (cond b 0 (suc (first_with path xs))) f (Some n ∷ xs) ≡ Some (cond b (f n) n) ∷ map (option_map (with_it path f)) xs
    go true e others = ap (λ os. Some (f n) ∷ os) (sym (none_has path f xs (λ j m at. false_if (has_path path (Some m)) (λ k. apart j (once 0 (suc j) n m refl at e k)))))
    go false e others = ap (λ os. Some n ∷ os) others

-- the first node with a path stays the first if it keeps its path
same_first : (path : List ℕ) (f : NodeView → NodeView) (xs : List (Option NodeView)) → ((n : NodeView) → has_path path (Some (f n)) ≡ has_path path (Some n)) → first_with path (nodes_with_change_at (first_with path xs) f xs) ≡ first_with path xs
same_first path f [] h = refl
same_first path f (None ∷ xs) h = ap suc (same_first path f xs h)
same_first path f (Some n ∷ xs) h = go (has_path path (Some n)) refl (same_first path f xs h)
  where
    go : (b : Bool) → has_path path (Some n) ≡ b → first_with path (nodes_with_change_at (first_with path xs) f xs) ≡ first_with path xs
        → first_with path (nodes_with_change_at (cond b 0 (suc (first_with path xs))) f (Some n ∷ xs)) ≡ cond b 0 (suc (first_with path xs))
    go true e others = ap (λ b. cond b 0 (suc (first_with path xs))) (h n ∙ e)
    go false e others = ap (λ b. cond b 0 (suc (first_with path (nodes_with_change_at (first_with path xs) f xs)))) e ∙ ap suc others

-- the table once the node with a path is loaded
abbrev pub loaded_nodes : Tree → ℕ → List (Option NodeView) → List (Option NodeView)
loaded_nodes t i xs = nodes_with_change_at i (λ n. loaded_node (node_bytes t n) n) xs

pub unlinked_table : (t : Tree) (path : List ℕ) (xs : List (Option NodeView)) → HasPathOnce path xs → nodes_without_path path (loaded_nodes t (position_or_len (has_path path) xs) xs) ≡ map (option_map (unlink_path t path)) xs
unlinked_table t path xs once =
    ap (λ i. nodes_without_path path (loaded_nodes t i xs)) (position_is path xs)
    ∙ ap (λ i. nodes_with_change_at i unlinked_node (loaded_nodes t (first_with path xs) xs)) (position_is path (loaded_nodes t (first_with path xs) xs) ∙ same_first path (λ n. loaded_node (node_bytes t n) n) xs (λ n. refl))
    ∙ changed_twice (first_with path xs) (λ n. loaded_node (node_bytes t n) n) unlinked_node xs ∙ only_first path (λ n. unlinked_node (loaded_node (node_bytes t n) n)) xs once

-- ---- paths by number

module _ {V : Type 0} (view : Option V → Option (List ℕ)) where
  -- the last path is given first
  last_path : (ps : List (Option V)) (p : Option V) (xs : List (Option NodeView)) → nodes_with_paths (map view (ps ++ p ∷ [])) xs ≡ nodes_with_paths (map view ps) (nodes_with_change_at (length ps) (with_path (view p)) xs)
  last_path [] p [] = refl
  last_path [] p (x ∷ xs) = refl
  last_path (q ∷ ps) p [] = refl
  last_path (q ∷ ps) p (x ∷ xs) = ap (λ os. option_map (with_path (view q)) x ∷ os) (last_path ps p xs)

  pub one_path_less : (ps qs : List (Option V)) (p : Option V) (xs ys : List (Option NodeView)) (i : ℕ) → ps ≡ qs ++ p ∷ [] → i ≡ length qs → ys ≡ nodes_with_change_at i (with_path (view p)) xs → nodes_with_paths (map view qs) ys ≡ nodes_with_paths (map view ps) xs
  one_path_less ps qs p xs ys i are is changed = ap (nodes_with_paths (map view qs)) (changed ∙ ap (λ k. nodes_with_change_at k (with_path (view p)) xs) is) ∙ sym (ap (λ z. nodes_with_paths (map view z) xs) are ∙ last_path qs p xs)

-- ---- the path of one number

pub nothing_moves : (xs : List (Option NodeView)) (i : ℕ) → xs ≡ nodes_with_change_at i (with_path None) xs
nothing_moves xs i = sym (ap (slice_set xs i) (same (entry_at xs i)) ∙ set_same xs i)
  where
    same : (o : Option NodeView) → option_map (with_path None) o ≡ o
    same None = refl
    same (Some n) = refl

module _ (xs : List (Option NodeView)) (i : ℕ) (o : Option NodeView) (p : Option (List ℕ)) (inside : i < length xs) (is : o ≡ slice_index_or xs i o) where
  pub node_moves : (n : NodeView) → o ≡ Some n → slice_set xs i (Some (with_path p n)) ≡ nodes_with_change_at i (with_path p) xs
  node_moves n some = ap (slice_set xs i) (ap (option_map (with_path p)) (sym (entry_index xs i o inside is ∙ some)))

  pub no_node_moves : o ≡ None → slice_set xs i o ≡ nodes_with_change_at i (with_path p) xs
  no_node_moves none = ap (slice_set xs i) (none ∙ ap (option_map (with_path p)) (sym (entry_index xs i o inside is ∙ none)))

-- ---- all nodes

all_moved : (g : Option NodeView → Option (List ℕ)) (u v : NodeView → NodeView) (xs ys : List (Option NodeView)) → length xs ≡ length ys
    → ((i : ℕ) → option_map (with_path (g (entry_at xs i))) (option_map u (entry_at ys i)) ≡ option_map v (entry_at ys i)) → nodes_with_paths (map g xs) (map (option_map u) ys) ≡ map (option_map v) ys
all_moved g u v [] [] e h = refl
all_moved g u v [] (y ∷ ys) e h = absurd (omega arith)
all_moved g u v (x ∷ xs) [] e h = refl
all_moved g u v (x ∷ xs) (y ∷ ys) e h = ap₂ (λ o os. o ∷ os) (h 0) (all_moved g u v xs ys (omega arith) (λ i. h (suc i)))

-- the node that loses its path doesn't move
pub moved_same : (t : Tree) (old new : List ℕ) (n : NodeView) → is_at_or_beneath old new ≡ false → renamed_path old new (unlink_path t new n) ≡ renamed_path old new n
moved_same t old new n aside = go n.path refl
  where
    by_name : (p : List ℕ) → n.path ≡ Some p → (b : Bool) → same_name p new ≡ b → renamed_path old new (cond b (unlinked_node (loaded_node (node_bytes t n) n)) n) ≡ renamed_path old new n
    by_name p at false e = refl
    by_name p at true e =
        sym (ap (λ o. option_and_then (λ q. cond (is_at_or_beneath old q) (Some (new ++ drop (length old) q)) None) o) (at ∙ ap Some (name_from_same p new e))
        ∙ ap (λ b. cond b (Some (new ++ drop (length old) new)) None) aside)

    go : (o : Option (List ℕ)) → n.path ≡ o → renamed_path old new (unlink_path t new n) ≡ renamed_path old new n
    go None at = ap (λ o. renamed_path old new (cond (unwrap_or (option_map (λ p. same_name p new) o) false) (unlinked_node (loaded_node (node_bytes t n) n)) n)) at
    go (Some p) at = ap (λ o. renamed_path old new (cond (unwrap_or (option_map (λ p. same_name p new) o) false) (unlinked_node (loaded_node (node_bytes t n) n)) n)) at ∙ by_name p at (same_name p new) refl

pub moved_table : (t : Tree) (old new : List ℕ) (xs : List (Option NodeView)) → HasPathOnce new xs → is_at_or_beneath old new ≡ false
    → nodes_with_paths (map (option_and_then (renamed_path old new)) (loaded_nodes t (position_or_len (has_path new) xs) xs)) (nodes_without_path new (loaded_nodes t (position_or_len (has_path new) xs) xs)) ≡ map (option_map (λ n. node_after_rename old new (unlink_path t new n))) xs
moved_table t old new xs once aside =
    let place = position_or_len (has_path new) xs in
    ap (nodes_with_paths (map (option_and_then (renamed_path old new)) (loaded_nodes t place xs))) (unlinked_table t new xs once)
    ∙ all_moved (option_and_then (renamed_path old new)) (unlink_path t new) (λ n. node_after_rename old new (unlink_path t new n)) (loaded_nodes t place xs) xs (set_length xs place (option_map (λ n. loaded_node (node_bytes t n) n) (entry_at xs place))) (λ i. each i (entry_at xs i) refl (changed_entry xs place i (λ n. loaded_node (node_bytes t n) n)))
  where
    each : (i : ℕ) (o : Option NodeView) → entry_at xs i ≡ o
        → (entry_at (loaded_nodes t (position_or_len (has_path new) xs) xs) i ≡ entry_at xs i) ⊎ ((position_or_len (has_path new) xs ≡ i) × (entry_at (loaded_nodes t (position_or_len (has_path new) xs) xs) i ≡ option_map (λ n. loaded_node (node_bytes t n) n) (entry_at xs i)))
        → option_map (with_path (option_and_then (renamed_path old new) (entry_at (loaded_nodes t (position_or_len (has_path new) xs) xs) i))) (option_map (unlink_path t new) (entry_at xs i)) ≡ option_map (λ n. node_after_rename old new (unlink_path t new n)) (entry_at xs i)
    each i None e k =
        ap (λ o. option_map (with_path (option_and_then (renamed_path old new) (entry_at (loaded_nodes t (position_or_len (has_path new) xs) xs) i))) (option_map (unlink_path t new) o)) e ∙ sym (ap (option_map (λ n. node_after_rename old new (unlink_path t new n))) e)
    each i (Some n) e k =
        ap₂ (λ o p. option_map (with_path o) (option_map (unlink_path t new) p)) (its_path k) e ∙ ap (λ o. Some (with_path o (unlink_path t new n))) (sym (moved_same t old new n aside)) ∙ sym (ap (option_map (λ m. node_after_rename old new (unlink_path t new m))) e)
      where
        its_path : (entry_at (loaded_nodes t (position_or_len (has_path new) xs) xs) i ≡ entry_at xs i) ⊎ ((position_or_len (has_path new) xs ≡ i) × (entry_at (loaded_nodes t (position_or_len (has_path new) xs) xs) i ≡ option_map (λ n. loaded_node (node_bytes t n) n) (entry_at xs i)))
            → option_and_then (renamed_path old new) (entry_at (loaded_nodes t (position_or_len (has_path new) xs) xs) i) ≡ renamed_path old new n
        its_path (inl same) = ap (option_and_then (renamed_path old new)) (same ∙ e)
        its_path (inr two) = ap (option_and_then (renamed_path old new)) (two.1 ∙ ap (option_map (λ n. loaded_node (node_bytes t n) n)) e)
