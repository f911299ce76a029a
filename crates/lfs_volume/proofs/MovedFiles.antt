-- The files of a tree after an entry is removed or renamed.
use Rattle.std.proofs.Common.{◌≡◌, Bool, true, false, cond, List, [], ◌∷◌, ◌++◌, length, Option, Some, None, refl, sym, ap, ap₂, subst, ◌∙◌, arith, append_assoc}
use Rattle.std.specs.Prelude.{Contains, unwrap_or}
use Rattle.std.specs.Option.{option_map, option_or}
use Rattle.std.proofs.lemmas.List.{append-nil}
use Rattle.lfs_model.specs.format.Names.{Name}
use Rattle.lfs_model.specs.format.Slots.{Attributes}
use Rattle.lfs_model.specs.tree.Tree.{DirectoryNode, FileNode, Node, Path, Tree}
use Rattle.lfs_model.specs.session.Operations.{Refusal}
use Rattle.lfs_model.specs.session.Session.{directory_refusal, parents_refusal}
use Rattle.lfs_model.specs.session.TreeEdits.{directory_names, file_bytes, is_file, last_name, names_with, names_without, node_with_names, parent_path, same_path, tree_removing, tree_renaming, without_prefix}
use Rattle.lfs_model.proofs.Paths.{IsBelowOrAside, Paths, aside, beyond, path_alike, path_unlike, paths, rest, rest_itself}

-- ---- entries that are alike but for the names in them

pub record LooksAlike (x y : Option Node) : Type 0 where
  pub file : is_file y ≡ is_file x
  pub bytes : file_bytes y ≡ file_bytes x
  pub directory : directory_refusal y ≡ directory_refusal x

looks_alike : (x : Option Node) → LooksAlike x x
looks_alike x = record { file = refl; bytes = refl; directory = refl }

alike_after : (x y z : Option Node) → LooksAlike x y → LooksAlike y z → LooksAlike x z
alike_after x y z a b = record { file = b.file ∙ a.file; bytes = b.bytes ∙ a.bytes; directory = b.directory ∙ a.directory }

renamed_alike : (b : Bool) (f : List Name → List Name) (x : Option Node) → LooksAlike x (cond b (option_map (node_with_names f) x) x)
renamed_alike false f x = looks_alike x
renamed_alike true f None = looks_alike None
renamed_alike true f (Some (FileNode a bytes)) = looks_alike (Some (FileNode a bytes))
renamed_alike true f (Some (DirectoryNode a ns)) = record { file = refl; bytes = refl; directory = refl }

-- ---- paths that lead to a file

-- each directory on the way to a path is one
abbrev pub HasParents : Tree → Path → Type 0
HasParents t q = (x : Path) (n : Name) (s : Path) → (x ≡ [] → ⊥) → q ≡ x ++ n ∷ s → directory_refusal (t x) ≡ None

pub record IsFileAt (t : Tree) (q : Path) : Type 0 where
  pub parents : HasParents t q
  pub file : is_file (t q) ≡ true

both_none : (r s : Option Refusal) → option_or r s ≡ None → (r ≡ None) × (s ≡ None)
both_none None s k = (refl, k)
both_none (Some x) s k = absurd (cc)

parents_above : (t : Tree) (above p : Path) → parents_refusal t above p ≡ None → (a : Name) (x : Path) (n : Name) (s : Path) → p ≡ a ∷ (x ++ n ∷ s) → directory_refusal (t (above ++ a ∷ x)) ≡ None
parents_above t above [] e a x n s is = absurd (cc)
parents_above t above (name ∷ []) e a [] n s is = absurd (cc)
parents_above t above (name ∷ []) e a (b ∷ x) n s is = absurd (cc)
parents_above t above (name ∷ next ∷ more) e a [] n s is =
    let k : name ≡ a = cc in
    subst (λ z. directory_refusal (t (above ++ z ∷ [])) ≡ None) k (both_none _ _ e).0
parents_above t above (name ∷ next ∷ more) e a (b ∷ x) n s is =
    let k : name ≡ a = cc in
    let tail : next ∷ more ≡ b ∷ (x ++ n ∷ s) = cc in
    subst (λ z. directory_refusal (t z) ≡ None) (append_assoc above (name ∷ []) (b ∷ x) ∙ ap (λ z. above ++ z ∷ b ∷ x) k) (parents_above t (above ++ name ∷ []) (next ∷ more) (both_none _ _ e).1 b x n s tail)

pub parents_of : (t : Tree) (q : Path) → parents_refusal t [] q ≡ None → HasParents t q
parents_of t q e [] n s some is = absurd (some refl)
parents_of t q e (a ∷ x) n s some is = parents_above t [] q e a x n s is

parents_below : (t : Tree) (above p : Path) → ((a : Name) (x : Path) (n : Name) (s : Path) → p ≡ a ∷ (x ++ n ∷ s) → directory_refusal (t (above ++ a ∷ x)) ≡ None) → parents_refusal t above p ≡ None
parents_below t above [] all = refl
parents_below t above (name ∷ []) all = refl
parents_below t above (name ∷ next ∷ more) all =
    ap₂ option_or (all name [] next more refl)
    (parents_below t (above ++ name ∷ []) (next ∷ more) (λ a x n s is. subst (λ z. directory_refusal (t z) ≡ None) (sym (append_assoc above (name ∷ []) (a ∷ x))) (all name (a ∷ x) n s (ap (λ z. name ∷ z) is))))

pub parents_from : (t : Tree) (q : Path) → HasParents t q → parents_refusal t [] q ≡ None
parents_from t q all = parents_below t [] q (λ a x n s is. all (a ∷ x) n s (λ e. let k : a ∷ x ≡ [] = e in absurd (cc)) is)

-- ---- beneath a directory without names nothing is

abbrev pub NamesNodes : Tree → Type 0
NamesNodes t = (path : Path) (name : Name) (node : Node) → t (path ++ name ∷ []) ≡ Some node → (attributes : Attributes) × (names : List Name) × (t path ≡ Some (DirectoryNode attributes names)) × Contains names name

file_is_there : (x : Option Node) → is_file x ≡ true → (node : Node) × (x ≡ Some node)
file_is_there None e = absurd (cc)
file_is_there (Some node) e = (node, refl)

directory_is_there : (x : Option Node) → directory_refusal x ≡ None → (node : Node) × (x ≡ Some node)
directory_is_there None e = absurd (cc)
directory_is_there (Some node) e = (node, refl)

not_empty : (p : Path) (n : Name) → p ++ n ∷ [] ≡ [] → ⊥
not_empty [] n e = absurd (cc)
not_empty (a ∷ p) n e = absurd (cc)

pub nothing_beneath : (t : Tree) (p : Path) → NamesNodes t → length (directory_names (t p)) ≡ 0 → (n : Name) (s : Path) → IsFileAt t (p ++ n ∷ s) → ⊥
nothing_beneath t p names none n s f = by (here s f)
  where
    here : (s : Path) → IsFileAt t (p ++ n ∷ s) → (node : Node) × (t (p ++ n ∷ []) ≡ Some node)
    here [] g = file_is_there (t (p ++ n ∷ [])) g.file
    here (m ∷ s) g = directory_is_there (t (p ++ n ∷ [])) (g.parents (p ++ n ∷ []) m s (not_empty p n) (sym (append_assoc p (n ∷ []) (m ∷ s))))

    no_name : (ns : List Name) → length ns ≡ 0 → Contains ns n → ⊥
    no_name ns e c = absurd (let l = c.1 in omega (arith, l))

    by : (node : Node) × (t (p ++ n ∷ []) ≡ Some node) → ⊥
    by (node, is) =
        let above = names p n node is in
        no_name above.1 (ap (λ z. length (directory_names z)) (sym above.2) ∙ none) above.3

-- ---- an entry is removed

pub removed_elsewhere : (p q : Path) (t : Tree) → (p ≡ q → ⊥) → LooksAlike (t q) (tree_removing p t q)
removed_elsewhere p q t apart = go (paths p q)
  where
    go : Paths p q → LooksAlike (t q) (tree_removing p t q)
    go (path_alike e same) = absurd (apart e)
    go (path_unlike other test) =
        subst (λ b. LooksAlike (t q) (cond b None (cond (same_path (parent_path p) q) (option_map (node_with_names (names_without (last_name p))) (t q)) (t q)))) (sym test) (renamed_alike (same_path (parent_path p) q) (names_without (last_name p)) (t q))

pub record StaysFile (t u : Tree) (q to : Path) : Type 0 where
  pub leads : IsFileAt u to
  pub bytes : file_bytes (u to) ≡ file_bytes (t q)

-- The same file, where each path to it and on the way to it looks as before.
stays_alike : (t u : Tree) (q : Path) → ((x : Path) → (s : Path) → q ≡ x ++ s → LooksAlike (t x) (u x)) → IsFileAt t q → StaysFile t u q q
stays_alike t u q alike f = record {
  leads = record {
    parents = λ x n s some is. (alike x (n ∷ s) is).directory ∙ f.parents x n s some is;
    file = (alike q [] (sym (append-nil q))).file ∙ f.file;
  };
  bytes = (alike q [] (sym (append-nil q))).bytes;
}

pub removed_stays : (p q : Path) (t : Tree) → NamesNodes t → length (directory_names (t p)) ≡ 0 → (p ≡ q → ⊥) → IsFileAt t q → StaysFile t (tree_removing p t) q q
removed_stays p q t names none apart f = stays_alike t (tree_removing p t) q (λ x s is. removed_elsewhere p x t (λ same. above s (is ∙ ap (λ z. z ++ s) (sym same)))) f
  where
    above : (s : Path) → q ≡ p ++ s → ⊥
    above [] is = apart (sym (is ∙ append-nil p))
    above (n ∷ s) is = nothing_beneath t p names none n s (subst (IsFileAt t) is f)

-- ---- an entry is renamed

module _ (t : Tree) (old new : Path) (differ : same_path old new ≡ false) where
  -- the tree before the entry is put at its new path
  abbrev changed : Path → Option Node
  changed q = cond (same_path (parent_path new) q) (option_map (node_with_names (λ ns. names_with (last_name new) (names_without (last_name new) ns))) (cond (same_path (parent_path old) q) (option_map (node_with_names (names_without (last_name old))) (t q)) (t q)))
      (cond (same_path (parent_path old) q) (option_map (node_with_names (names_without (last_name old))) (t q)) (t q))

  renaming_is : (q : Path) → tree_renaming old new t q ≡ unwrap_or (option_map (λ r. t (old ++ r)) (without_prefix new q)) (unwrap_or (option_map (λ r. None) (without_prefix old q)) (changed q))
  renaming_is q = ap (λ b. (cond b t (λ (z : Path). unwrap_or (option_map (λ r. t (old ++ r)) (without_prefix new z)) (unwrap_or (option_map (λ r. None) (without_prefix old z)) (changed z)))) q) differ

  pub renamed_there : (r : Path) → tree_renaming old new t (new ++ r) ≡ t (old ++ r)
  renamed_there r = renaming_is (new ++ r) ∙ ap (λ o. unwrap_or (option_map (λ s. t (old ++ s)) o) (unwrap_or (option_map (λ s. None) (without_prefix old (new ++ r))) (changed (new ++ r)))) (rest_itself new r)

  changed_alike : (q : Path) → LooksAlike (t q) (changed q)
  changed_alike q =
      alike_after (t q) (cond (same_path (parent_path old) q) (option_map (node_with_names (names_without (last_name old))) (t q)) (t q)) (changed q)
      (renamed_alike (same_path (parent_path old) q) (names_without (last_name old)) (t q))
      (renamed_alike (same_path (parent_path new) q) (λ ns. names_with (last_name new) (names_without (last_name new) ns)) (cond (same_path (parent_path old) q) (option_map (node_with_names (names_without (last_name old))) (t q)) (t q)))

  pub renamed_elsewhere : (q : Path) → ((r : Path) → q ≡ old ++ r → ⊥) → ((r : Path) → q ≡ new ++ r → ⊥) → LooksAlike (t q) (tree_renaming old new t q)
  renamed_elsewhere q not_old not_new = go (rest old q) (rest new q)
    where
      go : IsBelowOrAside old q → IsBelowOrAside new q → LooksAlike (t q) (tree_renaming old new t q)
      go (beyond r e w) below = absurd (not_old r e)
      go (aside never w) (beyond r e v) = absurd (not_new r e)
      go (aside never w) (aside nor v) =
          subst (LooksAlike (t q)) (sym (renaming_is q ∙ ap₂ (λ o p. unwrap_or (option_map (λ s. t (old ++ s)) o) (unwrap_or (option_map (λ s. None) p) (changed q))) v w)) (changed_alike q)

-- a path and one that goes on from another
data Meets (x new s r : Path) : Type 0 where
  inside : (k : Path) → x ≡ new ++ k → r ≡ k ++ s → Meets x new s r
  above : (m : Name) (k : Path) → new ≡ x ++ m ∷ k → Meets x new s r

meets : (x new s r : Path) → new ++ r ≡ x ++ s → Meets x new s r
meets x [] s r e = inside x refl e
meets [] (b ∷ new) s r e = above b new refl
meets (a ∷ x) (b ∷ new) s r e = onto (let h : b ≡ a = cc in h) (meets x new s r (let h : new ++ r ≡ x ++ s = cc in h))
  where
    onto : b ≡ a → Meets x new s r → Meets (a ∷ x) (b ∷ new) s r
    onto h (inside k is left) = inside k (ap₂ (λ z zs. z ∷ zs) (sym h) is) left
    onto h (above m k is) = above m k (ap₂ (λ z zs. z ∷ zs) h is)

-- the new path isn't at the old one or beneath it, and a file may be moved there
pub record MayRename (t : Tree) (old new : Path) : Type 0 where
  pub differ : same_path old new ≡ false
  pub aside_old : (r : Path) → new ≡ old ++ r → ⊥
  pub not_root : old ≡ [] → ⊥
  pub parents : HasParents t new
  pub names : NamesNodes t
  pub empty : length (directory_names (t new)) ≡ 0

module _ (t : Tree) (old new : Path) (m : MayRename t old new) where
  u : Tree
  u = tree_renaming old new t

  pub moved_stays : (r : Path) → IsFileAt t (old ++ r) → StaysFile t (tree_renaming old new t) (old ++ r) (new ++ r)
  moved_stays r f = record {
    leads = record { parents = λ x n s some is. above_file x n s some (meets x new (n ∷ s) r is); file = ap is_file (renamed_there t old new m.differ r) ∙ f.file };
    bytes = ap file_bytes (renamed_there t old new m.differ r);
  }
    where
      both_empty : (k : Path) → old ++ k ≡ [] → old ≡ []
      both_empty k e = go old e
        where
          go : (z : Path) → z ++ k ≡ [] → z ≡ []
          go [] e = refl
          go (a ∷ z) e = absurd (cc)

      above_file : (x : Path) (n : Name) (s : Path) → (x ≡ [] → ⊥) → Meets x new (n ∷ s) r → directory_refusal (tree_renaming old new t x) ≡ None
      above_file x n s some (inside k is left) =
          ap (λ z. directory_refusal (tree_renaming old new t z)) is ∙ ap directory_refusal (renamed_there t old new m.differ k)
          ∙ f.parents (old ++ k) n s (λ e. m.not_root (both_empty k e)) (ap (λ z. old ++ z) left ∙ sym (append_assoc old k (n ∷ s)))
      above_file x n s some (above b k is) =
          (renamed_elsewhere t old new m.differ x (λ l e. m.aside_old (l ++ b ∷ k) (is ∙ ap (λ z. z ++ b ∷ k) e ∙ append_assoc old l (b ∷ k)))
          (λ l e. longer new l b k (is ∙ ap (λ z. z ++ b ∷ k) e))).directory ∙ m.parents x b k some is
        where
          longer : (z l : Path) (b : Name) (k : Path) → z ≡ (z ++ l) ++ b ∷ k → ⊥
          longer [] [] b k e = absurd (cc)
          longer [] (a ∷ l) b k e = absurd (cc)
          longer (a ∷ z) l b k e = longer z l b k (let h : z ≡ (z ++ l) ++ b ∷ k = cc in h)

  -- no file is beneath the new path
  pub not_beneath_new : (q : Path) → IsFileAt t q → (new ≡ q → ⊥) → (r : Path) → q ≡ new ++ r → ⊥
  not_beneath_new q f apart [] e = apart (sym (e ∙ append-nil new))
  not_beneath_new q f apart (n ∷ s) e = nothing_beneath t new m.names m.empty n s (subst (IsFileAt t) e f)

  pub other_stays : (q : Path) → IsFileAt t q → ((r : Path) → q ≡ old ++ r → ⊥) → (new ≡ q → ⊥) → StaysFile t (tree_renaming old new t) q q
  other_stays q f not_old apart =
      stays_alike t (tree_renaming old new t) q (λ x s is. renamed_elsewhere t old new m.differ x (λ r e. not_old (r ++ s) (is ∙ ap (λ z. z ++ s) e ∙ append_assoc old r s)) (λ r e. not_beneath_new q f apart (r ++ s) (is ∙ ap (λ z. z ++ s) e ∙ append_assoc new r s))) f
