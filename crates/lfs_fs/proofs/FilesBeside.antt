-- Files outside a path without entries beneath it.
use Rattle.std.proofs.Common.{ℕ, ◌≡◌, ◌||◌, ◌++◌, ◌∙◌, Bool, true, false, cond, List, [], ◌∷◌, length, map, Option, Some, None, is_some, refl, sym, ap, arith, append-nil}
use Rattle.lfs_fs.proofs.Common.{option_map, is_file, directory_names, without_prefix, same_path, Slot, Struct, Inline, Ctz, Branch, Path, struct_node, disk_list_bytes, all_entries, path_itself, AllByRecursion, has_open_file, TreeState, visible_tree, RuntimeFiles, files_view, readers_among}
use Rattle.std.specs.Option.{option_and_then}
use Rattle.lfs_model.proofs.Orders.{length_in_order}
use Rattle.lfs_model.specs.declared.order.NameOrder.TheVariants.{ShorterFirst}
use Rattle.lfs_model.specs.tree.Tree.{DirectoryEntryMap, struct_directory_address, root_slot, slot_at_path, slot_subtree}
use Rattle.lfs_model.specs.format.Thread.{root_address}
use Rattle.lfs_model.proofs.Paths.{rest_from}
use Rattle.lfs_model.proofs.Walks.{IsLeaf, leaf_walk, walk_append}
use Rattle.lfs_fs.specs.declared.files.OpenFile.TheVariants as file

-- ---- nothing is beneath what has no names

module _ (c : ℕ → ℕ → List ℕ) (E : DirectoryEntryMap) where
  leaf : (u : Slot) (attributes : List (ℕ × List ℕ)) (s : Struct) → u.struct ≡ s → length (directory_names (Some (struct_node c E attributes s))) ≡ 0 → IsLeaf E u
  leaf u attributes (Inline bytes) e l x b = absurd (let k = sym (ap struct_directory_address e) ∙ b in cc)
  leaf u attributes (Ctz head size) e l x b = absurd (let k = sym (ap struct_directory_address e) ∙ b in cc)
  leaf u attributes (Branch to) e l x b = let k : Some to ≡ Some x = sym (ap struct_directory_address e) ∙ b in bare (E to) (E x) (ap E (let i : to ≡ x = cc in i)) (sym (length_in_order ShorterFirst (map (λ (s : Slot). s.name) (E to))) ∙ l)
    where
      bare : (xs ys : List Slot) → xs ≡ ys → length (map (λ (s : Slot). s.name) xs) ≡ 0 → ys ≡ []
      bare [] ys e l = sym e
      bare (x ∷ xs) ys e l = absurd (omega arith)

  pub bare_beneath : (s : Slot) (P : Path) (m : List ℕ) (r : Path) → length (directory_names (slot_subtree c E s P)) ≡ 0 → slot_subtree c E s (P ++ m ∷ r) ≡ None
  bare_beneath s P m r l = ap (option_map (λ u. struct_node c E u.attributes u.struct)) (walk_append E s P (m ∷ r) ∙ go (slot_at_path E s P) l)
    where
      go : (o : Option Slot) → length (directory_names (option_map (λ (u : Slot). struct_node c E u.attributes u.struct) o)) ≡ 0 → option_and_then (λ u. slot_at_path E u (m ∷ r)) o ≡ None
      go None h = refl
      go (Some u) h = leaf_walk E u (leaf u u.attributes u.struct refl h) m r

pub or_false : (a b : Bool) → (a || b) ≡ false → (a ≡ false) × (b ≡ false)
or_false true b e = absurd (cc)
or_false false b e = (refl, e)

pub not_some : {A : Type 0} (b : Bool) (x : A) → is_some (cond b (Some x) None) ≡ false → b ≡ false
not_some true x e = absurd (cc)
not_some false x e = refl

-- if no file is open at such a path, no reader is
pub no_reader_at : (t : TreeState) (files : RuntimeFiles) (p : Path → Bool) → has_open_file p (files_view t files) ≡ false → AllByRecursion (λ r. p r.path ≡ false) (readers_among files)
no_reader_at t [] p e = tt
no_reader_at t (None ∷ fs) p e = no_reader_at t fs p e
no_reader_at t (Some (file.Reading r) ∷ fs) p e = let k = or_false _ _ e in (not_some _ _ k.0, no_reader_at t fs p k.1)
no_reader_at t (Some (file.Writing w) ∷ fs) p e = no_reader_at t fs p (or_false _ _ e).1

pub none_there : {A : Type 0} (o : Option A) → is_some o ≡ false → o ≡ None
none_there None e = refl
none_there (Some x) e = absurd (cc)

-- a file in the tree isn't beneath the path
pub beside : (t : TreeState) (q x : Path) → length (directory_names (visible_tree t q)) ≡ 0 → is_file (visible_tree t x) ≡ true → same_path q x ≡ false → without_prefix q x ≡ None
beside t q x bare there apart = go (without_prefix q x) refl
  where
    go : (o : Option Path) → without_prefix q x ≡ o → o ≡ None
    go None e = refl
    go (Some []) e = absurd (let k = sym apart ∙ ap (same_path q) (rest_from q x [] e ∙ append-nil q) ∙ path_itself q in cc)
    go (Some (m ∷ r)) e =
        absurd (let k = sym there ∙ ap (λ y. is_file (visible_tree t y)) (rest_from q x (m ∷ r) e) ∙ ap is_file (bare_beneath (disk_list_bytes t.disk) (all_entries t.pairs) (root_slot (root_address t.pairs)) q m r bare) in cc)
