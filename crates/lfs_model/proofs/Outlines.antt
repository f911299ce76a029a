-- All slots that paths lead to, in a list, where no path is longer than a number of names.
use Rattle.std.proofs.Common.{ℕ, zero, suc, ◌≡◌, Bool, true, false, not, ◌&&◌, cond, List, [], ◌∷◌, ◌++◌, map, Option, Some, None, refl, sym, ap, ◌∙◌, option_and_then, option_map}
use Rattle.std.specs.Prelude.{find}
use Rattle.lfs_model.proofs.Common.{AllByRecursion, flat_map, list_all, option_map_or, and_parts, same_Some, Name, same_name, Slot, Path, DirectoryEntryMap, entry_named, struct_directory_address, child_slot, slot_at_path, same_path}
use Rattle.std.specs.Option.{option_or}
use Rattle.std.proofs.lemmas.List.Folds.{find-append}
use Rattle.lfs_model.proofs.Paths.{name_from_same, path_from_same}

-- paths with what they lead to
abbrev pub Outline : Type 0
Outline = List (Path × Slot)

abbrev pub children : DirectoryEntryMap → Slot → List Slot
children E u = option_map_or E (struct_directory_address u.struct) []

abbrev below : Name → Path × Slot → Path × Slot
below name f = (name ∷ f.0, f.1)

abbrev pub outline : ℕ → DirectoryEntryMap → Slot → Outline
outline zero E u = ([], u) ∷ []
outline (suc k) E u = ([], u) ∷ flat_map (λ s. map (below s.name) (outline k E s)) (children E u)

abbrev is_nil : List Slot → Bool
is_nil [] = true
is_nil (s ∷ slots) = false

-- each name stands once
abbrev have_own_names : List Slot → Bool
have_own_names [] = true
have_own_names (s ∷ slots) = list_all (λ t. not (same_name s.name t.name)) slots && have_own_names slots

-- no path is longer
abbrev pub is_outlined : ℕ → DirectoryEntryMap → Slot → Bool
is_outlined zero E u = is_nil (children E u)
is_outlined (suc k) E u = have_own_names (children E u) && list_all (is_outlined k E) (children E u)

abbrev pub found_in : Path → Outline → Option Slot
found_in path outline = option_map (λ f. f.1) (find (λ f. same_path path f.0) outline)

child_is : (E : DirectoryEntryMap) (u : Slot) (n : Name) → child_slot E u n ≡ entry_named n (children E u)
child_is E u n = go (struct_directory_address u.struct)
  where
    go : (b : Option (ℕ × ℕ)) → option_and_then (λ at. entry_named n (E at)) b ≡ entry_named n (option_map_or E b [])
    go None = refl
    go (Some at) = refl

found-append : (path : Path) (xs ys : Outline) → found_in path (xs ++ ys) ≡ option_or (found_in path xs) (found_in path ys)
found-append path xs ys = ap (option_map (λ f. f.1)) (find-append (λ f. same_path path f.0) xs ys) ∙ go (find (λ f. same_path path f.0) xs)
  where
    go : (o : Option (Path × Slot)) → option_map (λ f. f.1) (option_or o (find (λ f. same_path path f.0) ys)) ≡ option_or (option_map (λ f. f.1) o) (found_in path ys)
    go None = refl
    go (Some f) = refl

-- below the name that is looked for
found_below : (n m : Name) (path : Path) (xs : Outline) → same_name n m ≡ true → found_in (n ∷ path) (map (below m) xs) ≡ found_in path xs
found_below n m path [] e = refl
found_below n m path (x ∷ xs) e =
    ap (λ b. option_map (λ f. f.1) (cond (b && same_path path x.0) (Some (below m x)) (find (λ f. same_path (n ∷ path) f.0) (map (below m) xs)))) e
    ∙ go (same_path path x.0) (found_below n m path xs e)
  where
    go : (b : Bool) → found_in (n ∷ path) (map (below m) xs) ≡ found_in path xs →
        option_map (λ f. f.1) (cond b (Some (below m x)) (find (λ f. same_path (n ∷ path) f.0) (map (below m) xs))) ≡ option_map (λ f. f.1) (cond b (Some x) (find (λ f. same_path path f.0) xs))
    go true ih = refl
    go false ih = ih

-- below another
found_beside : (n m : Name) (path : Path) (xs : Outline) → same_name n m ≡ false → found_in (n ∷ path) (map (below m) xs) ≡ None
found_beside n m path [] e = refl
found_beside n m path (x ∷ xs) e =
    ap (λ b. option_map (λ f. f.1) (cond (b && same_path path x.0) (Some (below m x)) (find (λ f. same_path (n ∷ path) f.0) (map (below m) xs)))) e
    ∙ found_beside n m path xs e

-- what an outline finds is what the walk finds
none_named : (k : ℕ) (E : DirectoryEntryMap) (n : Name) (path : Path) (cs : List Slot) → entry_named n cs ≡ None → found_in (n ∷ path) (flat_map (λ s. map (below s.name) (outline k E s)) cs) ≡ None
none_named k E n path [] e = refl
none_named k E n path (c ∷ cs) e =
    found-append (n ∷ path) (map (below c.name) (outline k E c)) (flat_map (λ s. map (below s.name) (outline k E s)) cs)
    ∙ go (none_named k E n path cs) (same_name n c.name) refl e
  where
    go : (entry_named n cs ≡ None → found_in (n ∷ path) (flat_map (λ s. map (below s.name) (outline k E s)) cs) ≡ None) → (b : Bool) → same_name n c.name ≡ b → cond b (Some c) (entry_named n cs) ≡ None →
        option_or (found_in (n ∷ path) (map (below c.name) (outline k E c))) (found_in (n ∷ path) (flat_map (λ s. map (below s.name) (outline k E s)) cs)) ≡ None
    go ih true same h = absurd (cc)
    go ih false other h =
        ap (λ o. option_or o (found_in (n ∷ path) (flat_map (λ s. map (below s.name) (outline k E s)) cs))) (found_beside n c.name path (outline k E c) other)
        ∙ ih h

others_named : (n : Name) (c : Slot) (cs : List Slot) → list_all (λ t. not (same_name c.name t.name)) cs ≡ true → same_name n c.name ≡ true → entry_named n cs ≡ None
others_named n c [] apart same = refl
others_named n c (t ∷ cs) apart same =
    let both = and_parts (not (same_name c.name t.name)) (list_all (λ t. not (same_name c.name t.name)) cs) apart in
    let is : n ≡ c.name = name_from_same n c.name same in
    let other : same_name n t.name ≡ false = ap (λ m. same_name m t.name) is ∙ turned (same_name c.name t.name) both.0 in
    ap (λ b. cond b (Some t) (entry_named n cs)) other ∙ others_named n c cs both.1 same
  where
    turned : (b : Bool) → not b ≡ true → b ≡ false
    turned true e = absurd (cc)
    turned false e = refl

pub outlined : (k : ℕ) (E : DirectoryEntryMap) (u : Slot) → is_outlined k E u ≡ true → (path : Path) → found_in path (outline k E u) ≡ slot_at_path E u path
outlined zero E u whole [] = refl
outlined zero E u whole (n ∷ path) = sym (ap (option_and_then (λ c. slot_at_path E c path)) (child_is E u n ∙ ap (entry_named n) (nil (children E u) whole)))
  where
    nil : (xs : List Slot) → is_nil xs ≡ true → xs ≡ []
    nil [] e = refl
    nil (x ∷ xs) e = absurd (cc)
outlined (suc k) E u whole [] = refl
outlined (suc k) E u whole (n ∷ path) =
    let both = and_parts (have_own_names (children E u)) (list_all (is_outlined k E) (children E u)) whole in
    among (λ c deep. outlined k E c deep path) (children E u) both.0 both.1 ∙ sym (ap (option_and_then (λ c. slot_at_path E c path)) (child_is E u n))
  where
    among : ((c : Slot) → is_outlined k E c ≡ true → found_in path (outline k E c) ≡ slot_at_path E c path) → (cs : List Slot) → have_own_names cs ≡ true → list_all (is_outlined k E) cs ≡ true →
        found_in (n ∷ path) (flat_map (λ s. map (below s.name) (outline k E s)) cs) ≡ option_and_then (λ c. slot_at_path E c path) (entry_named n cs)
    among on [] own each = refl
    among on (c ∷ cs) own each =
        let names = and_parts (list_all (λ t. not (same_name c.name t.name)) cs) (have_own_names cs) own in
        let slots = and_parts (is_outlined k E c) (list_all (is_outlined k E) cs) each in
        found-append (n ∷ path) (map (below c.name) (outline k E c)) (flat_map (λ s. map (below s.name) (outline k E s)) cs)
        ∙ by_name (same_name n c.name) refl names.0 (on c slots.0) (among on cs names.1 slots.1)
      where
        rest : Outline
        rest = flat_map (λ s. map (below s.name) (outline k E s)) cs

        or_none : (o : Option Slot) → option_or o None ≡ o
        or_none None = refl
        or_none (Some s) = refl

        by_name : (b : Bool) → same_name n c.name ≡ b → list_all (λ t. not (same_name c.name t.name)) cs ≡ true → found_in path (outline k E c) ≡ slot_at_path E c path →
            found_in (n ∷ path) rest ≡ option_and_then (λ c. slot_at_path E c path) (entry_named n cs) →
            option_or (found_in (n ∷ path) (map (below c.name) (outline k E c))) (found_in (n ∷ path) rest) ≡ option_and_then (λ c. slot_at_path E c path) (cond b (Some c) (entry_named n cs))
        by_name true same apart deep ih =
            ap (option_or (found_in (n ∷ path) (map (below c.name) (outline k E c)))) (none_named k E n path cs (others_named n c cs apart same))
            ∙ or_none (found_in (n ∷ path) (map (below c.name) (outline k E c)))
            ∙ found_below n c.name path (outline k E c) same ∙ deep
        by_name false other apart deep ih = ap (λ o. option_or o (found_in (n ∷ path) rest)) (found_beside n c.name path (outline k E c) other) ∙ ih

-- what is found is in the outline
pub found_holds : (P : Path → Slot → Type 0) (xs : Outline) → AllByRecursion (λ f. P f.0 f.1) xs → (path : Path) (s : Slot) → found_in path xs ≡ Some s → P path s
found_holds P [] all path s e = absurd (cc)
found_holds P (x ∷ xs) all path s e = go (found_holds P xs all.1 path s) (same_path path x.0) refl e
  where
    go : (found_in path xs ≡ Some s → P path s) → (b : Bool) → same_path path x.0 ≡ b → option_map (λ f. f.1) (cond b (Some x) (find (λ f. same_path path f.0) xs)) ≡ Some s → P path s
    go ih true same h = let is : path ≡ x.0 = path_from_same path x.0 same in let it : x.1 ≡ s = same_Some x.1 s h in rw (is, ← it) all.0
    go ih false other h = ih h
