-- Paths of entries, and what comes into a tree at one.
use Rattle.std.proofs.Common.{◌≡◌, ◌∙◌, ◌++◌, true, false, cond, [], ◌∷◌, Some, refl, sym, ap, append-nil, option_map}
use Rattle.std.specs.Prelude.{unwrap_or}
use Rattle.std.specs.List.{list_all}
use Rattle.std.proofs.lemmas.Bool.{and_from}
use Rattle.lfs_tool_run.proofs.Common.{flat_map-append, Name, is_component, Path, Node, Tree, tree_creating, same_path, names_with, node_with_names, path_bytes, path_in_folder, path_or_root, Each, not_longer}
use Rattle.lfs_model.specs.format.Names.{slash_byte}
use Rattle.lfs_model.specs.session.TreeEdits.{last_name, parent_path}
use Rattle.lfs_model.proofs.Paths.{Paths, path_alike, path_unlike, paths, path_itself, parent_is, last_is}
use Rattle.lfs_model.proofs.Spelled.{spelled}

-- ---- bytes

pub path_more : (f : Path) (n : Name) → path_bytes (f ++ n ∷ []) ≡ path_in_folder (path_bytes f) n
path_more f n = flat_map-append (λ (name : Name). slash_byte ∷ name) f (n ∷ []) ∙ ap (λ xs. path_bytes f ++ slash_byte ∷ xs) (append-nil n)

abbrev pub AreComponents : Path → Type 0
AreComponents p = Each (λ n. is_component n ≡ true) p

all_components : (p : Path) → AreComponents p → list_all is_component p ≡ true
all_components [] h = refl
all_components (n ∷ p) h = and_from (is_component n) (list_all is_component p) h.0 (all_components p h.1)

pub read_back : (f : Path) (n : Name) → AreComponents (f ++ n ∷ []) → path_or_root (path_bytes (f ++ n ∷ [])) ≡ f ++ n ∷ []
read_back [] n h = ap (λ o. unwrap_or o []) (spelled n [] (all_components (n ∷ []) h))
read_back (a ∷ f) n h = ap (λ o. unwrap_or o []) (spelled a (f ++ n ∷ []) (all_components (a ∷ (f ++ n ∷ [])) h))

-- ---- a node that comes

other_path : (p q : Path) → (p ≡ q → ⊥) → same_path p q ≡ false
other_path p q ne = go (paths p q)
  where
    go : Paths p q → same_path p q ≡ false
    go (path_alike e s) = absurd (ne e)
    go (path_unlike n s) = s

pub added_there : (p : Path) (node : Node) (t : Tree) → tree_creating p node t p ≡ Some node
added_there p node t = ap (λ b. cond b (Some node) (cond (same_path (parent_path p) p) (option_map (node_with_names (names_with (last_name p))) (t p)) (t p))) (path_itself p)

pub added_above : (f : Path) (n : Name) (node : Node) (t : Tree) → tree_creating (f ++ n ∷ []) node t f ≡ option_map (node_with_names (names_with n)) (t f)
added_above f n node t =
    ap (λ b. cond b (Some node) (cond (same_path (parent_path (f ++ n ∷ [])) f) (option_map (node_with_names (names_with (last_name (f ++ n ∷ [])))) (t f)) (t f))) (other_path (f ++ n ∷ []) f (λ e. not_longer f n [] (sym e)))
    ∙ ap (λ (q : Path). cond (same_path q f) (option_map (node_with_names (names_with (last_name (f ++ n ∷ [])))) (t f)) (t f)) (parent_is f n)
    ∙ ap (λ b. cond b (option_map (node_with_names (names_with (last_name (f ++ n ∷ [])))) (t f)) (t f)) (path_itself f)
    ∙ ap (λ (m : Name). option_map (node_with_names (names_with m)) (t f)) (last_is f n)

pub added_aside : (f : Path) (n : Name) (node : Node) (t : Tree) (q : Path) → (q ≡ f → ⊥) → (q ≡ f ++ n ∷ [] → ⊥) → tree_creating (f ++ n ∷ []) node t q ≡ t q
added_aside f n node t q above there =
    ap (λ b. cond b (Some node) (cond (same_path (parent_path (f ++ n ∷ [])) q) (option_map (node_with_names (names_with (last_name (f ++ n ∷ [])))) (t q)) (t q))) (other_path (f ++ n ∷ []) q (λ e. there (sym e)))
    ∙ ap (λ (r : Path). cond (same_path r q) (option_map (node_with_names (names_with (last_name (f ++ n ∷ [])))) (t q)) (t q)) (parent_is f n)
    ∙ ap (λ b. cond b (option_map (node_with_names (names_with (last_name (f ++ n ∷ [])))) (t q)) (t q)) (other_path f q (λ e. above (sym e)))
