-- Each node of a tree is in a directory that has its name, and each name of a directory has a node.
use Rattle.std.proofs.Common.{ℕ, zero, suc, ◌≡◌, true, cond, List, [], ◌∷◌, ◌++◌, map, Option, Some, None, refl, sym, ap, subst, ◌∙◌, arith, option_and_then, option_map}
use Rattle.std.specs.Prelude.{Contains, is_some}
use Rattle.lfs_model.proofs.Orders.{contains_in_order, contains_back}
use Rattle.lfs_model.specs.declared.order.NameOrder.TheVariants.{ShorterFirst}
use Rattle.lfs_model.proofs.Common.{sorted_names, Name, Slot, Struct, Inline, Ctz, Branch, Attributes, Path, Node, DirectoryNode, DirectoryEntryMap, entry_named, struct_directory_address, slot_at_path, struct_node, names_at, slot_subtree}
use Rattle.lfs_model.proofs.Paths.{Names, alike, unlike, names}
use Rattle.lfs_model.proofs.Walks.{walk_append}

found_contained : (n : Name) (xs : List Slot) (u : Slot) → entry_named n xs ≡ Some u → Contains (map (λ s. s.name) xs) n
found_contained n [] u e = absurd (cc)
found_contained n (x ∷ xs) u e = go (names n x.name) (found_contained n xs u)
  where
    go : Names n x.name → (entry_named n xs ≡ Some u → Contains (map (λ s. s.name) xs) n) → Contains (map (λ s. s.name) (x ∷ xs)) n
    go (alike is same) rest = (0, omega arith, sym is)
    go (unlike apart other) rest =
        let r = rest (sym (ap (λ b. cond b (Some x) (entry_named n xs)) other) ∙ e) in
        (suc r.0, omega (arith, r.1), r.2)

contained_found : (n : Name) (xs : List Slot) → Contains (map (λ s. s.name) xs) n → is_some (entry_named n xs) ≡ true
contained_found n [] (k, l, e) = absurd (omega (arith, l))
contained_found n (x ∷ xs) h = go (names n x.name) h (contained_found n xs)
  where
    go : Names n x.name → Contains (map (λ s. s.name) (x ∷ xs)) n → (Contains (map (λ s. s.name) xs) n → is_some (entry_named n xs) ≡ true) → is_some (entry_named n (x ∷ xs)) ≡ true
    go (alike is same) c rest = ap (λ b. is_some (cond b (Some x) (entry_named n xs))) same
    go (unlike apart other) (zero, l, e) rest = absurd (apart (sym e))
    go (unlike apart other) (suc k, l, e) rest = ap (λ b. is_some (cond b (Some x) (entry_named n xs))) other ∙ rest (k, omega (arith, l), e)

pub parent_has_name : (c : ℕ → ℕ → List ℕ) (E : DirectoryEntryMap) (s : Slot) (path : Path) (n : Name) (node : Node) → slot_subtree c E s (path ++ n ∷ []) ≡ Some node
    → (attributes : Attributes) × (ns : List Name) × (slot_subtree c E s path ≡ Some (DirectoryNode attributes ns)) × Contains ns n
parent_has_name c E s path n node e = go (slot_at_path E s path) (sym (ap (option_map (λ u. struct_node c E u.attributes u.struct)) (walk_append E s path (n ∷ []))) ∙ e)
  where
    found : (to : ℕ × ℕ) (o : Option Slot) → entry_named n (E to) ≡ o → option_map (λ u. struct_node c E u.attributes u.struct) (option_and_then (λ u. Some u) o) ≡ Some node → Contains (names_at E to) n
    found to None is h = absurd (cc)
    found to (Some u) is h = found_contained n (E to) u is

    below : (attributes : Attributes) (t : Struct) → option_map (λ u. struct_node c E u.attributes u.struct) (option_and_then (λ u. Some u) (option_and_then (λ at. entry_named n (E at)) (struct_directory_address t))) ≡ Some node
        → (others : Attributes) × (ns : List Name) × (Some (struct_node c E attributes t) ≡ Some (DirectoryNode others ns)) × Contains ns n
    below attributes (Inline bytes) h = absurd (cc)
    below attributes (Ctz head size) h = absurd (cc)
    below attributes (Branch to) h = (attributes, sorted_names ShorterFirst (names_at E to), refl, contains_in_order ShorterFirst (names_at E to) n (found to (entry_named n (E to)) refl h))

    go : (o : Option Slot) → option_map (λ u. struct_node c E u.attributes u.struct) (option_and_then (λ t. slot_at_path E t (n ∷ [])) o) ≡ Some node
        → (attributes : Attributes) × (ns : List Name) × (option_map (λ u. struct_node c E u.attributes u.struct) o ≡ Some (DirectoryNode attributes ns)) × Contains ns n
    go None h = absurd (cc)
    go (Some t) h = below t.attributes t.struct h

pub name_has_node : (c : ℕ → ℕ → List ℕ) (E : DirectoryEntryMap) (s : Slot) (path : Path) (attributes : Attributes) (ns : List Name) (n : Name) → slot_subtree c E s path ≡ Some (DirectoryNode attributes ns) → Contains ns n
    → is_some (slot_subtree c E s (path ++ n ∷ [])) ≡ true
name_has_node c E s path attributes ns n e has = ap (λ o. is_some (option_map (λ u. struct_node c E u.attributes u.struct) o)) (walk_append E s path (n ∷ [])) ∙ go (slot_at_path E s path) e
  where
    kept : (o : Option Slot) → is_some o ≡ true → is_some (option_map (λ u. struct_node c E u.attributes u.struct) (option_and_then (λ u. Some u) o)) ≡ true
    kept None h = h
    kept (Some u) h = refl

    below : (others : Attributes) (t : Struct) → Some (struct_node c E others t) ≡ Some (DirectoryNode attributes ns)
        → is_some (option_map (λ u. struct_node c E u.attributes u.struct) (option_and_then (λ u. Some u) (option_and_then (λ at. entry_named n (E at)) (struct_directory_address t)))) ≡ true
    below others (Inline bytes) h = absurd (cc)
    below others (Ctz head size) h = absurd (cc)
    below others (Branch to) h =
        let same : ns ≡ sorted_names ShorterFirst (names_at E to) = cc in
        kept (entry_named n (E to)) (contained_found n (E to) (contains_back ShorterFirst (names_at E to) n (subst (λ ms. Contains ms n) same has)))

    go : (o : Option Slot) → option_map (λ u. struct_node c E u.attributes u.struct) o ≡ Some (DirectoryNode attributes ns)
        → is_some (option_map (λ u. struct_node c E u.attributes u.struct) (option_and_then (λ t. slot_at_path E t (n ∷ [])) o)) ≡ true
    go None h = absurd (cc)
    go (Some t) h = below t.attributes t.struct h
