-- Names in a folder, and what stands at a path, one held thing at a time.
use Rattle.lfs_model.specs.format.Names.{slash_byte}
use Rattle.std.proofs.Common.{◌≡◌, ◌∙◌, ◌<◌, ◌++◌, ◌∷◌, ◌+◌, ap, ℕ, zero, suc, Bool, true, false, List, [], Some, None, cond, arith, drop, get_or, length, lt-ltb, map, not, refl, slice_index, ◌==◌, subst, sym, take}
use Rattle.std.specs.Prelude.{filter, find}
use Rattle.std.specs.List.{list_any}
use Rattle.std.specs.Str.{bytes_eq}
use Rattle.std.proofs.lemmas.List.{get_or-map, length-map, map-append, take-map, take_more}
use Rattle.std.proofs.lemmas.List.Elements.{filter_more}
use Rattle.lfs_tool.specs.MemorySources.{memory_view, PathAndBytes, memory_entry_name, is_directly_in, name_in_folder, names_in_folder}
use Rattle.lfs_tool.specs.declared.entries.SourceEntry.{SourceEntry}

one_name : (path : List ℕ) (e : PathAndBytes) → map (memory_entry_name path) (cond (is_directly_in path e.0) (e ∷ []) []) ≡ name_in_folder path e
one_name path e = go (is_directly_in path e.0)
  where
    go : (b : Bool) → map (memory_entry_name path) (cond b (e ∷ []) []) ≡ cond b (memory_entry_name path e ∷ []) []
    go true = refl
    go false = refl

tree_more : (path : List ℕ) (t : List PathAndBytes) (i : ℕ) (e : PathAndBytes) → i < length t
    → names_in_folder (take (i + 1) t) path ≡ names_in_folder (take i t) path ++ name_in_folder path (get_or t i e)
tree_more path t i e lt =
    ap (map (memory_entry_name path)) (filter_more (λ (x : PathAndBytes). is_directly_in path x.0) t i e lt)
    ∙ map-append (memory_entry_name path) (filter (λ x. is_directly_in path x.0) (take i t)) _ ∙ ap (λ ns. names_in_folder (take i t) path ++ ns) (one_name path (get_or t i e))

pub names_more : (path : List ℕ) (xs : List SourceEntry) (i : ℕ) (h : SourceEntry) → i < length xs
    → names_in_folder (map memory_view (take (i + 1) xs)) path ≡ names_in_folder (map memory_view (take i xs)) path ++ name_in_folder path (memory_view (get_or xs i h))
names_more path xs i h lt =
    ap (λ t. names_in_folder t path) (sym (take-map memory_view (i + 1) xs)) ∙ tree_more path (map memory_view xs) i (memory_view h) (omega (arith, length-map xs memory_view))
    ∙ ap (λ t. names_in_folder t path ++ name_in_folder path (get_or (map memory_view xs) i (memory_view h))) (take-map memory_view i xs)
    ∙ ap (λ e. names_in_folder (map memory_view (take i xs)) path ++ name_in_folder path e) (get_or-map memory_view xs i h (memory_view h) lt)

-- the first at the path
pub found_here : (path : List ℕ) (xs : List SourceEntry) (i : ℕ) (h : SourceEntry) → i < length xs → h ≡ get_or xs i h
    → find (λ e. bytes_eq e.0 path) (map memory_view (take i xs)) ≡ None → bytes_eq h.path.items path ≡ true
    → find (λ e. bytes_eq e.0 path) (map memory_view xs) ≡ Some (memory_view h)
found_here path [] i h lt at none hit = absurd (omega arith)
found_here path (x ∷ xs) zero h lt at none hit =
    let same : bytes_eq x.path.items path ≡ true = subst (λ (y : SourceEntry). bytes_eq y.path.items path ≡ true) at hit in
    rw same (ap (λ (y : SourceEntry). Some (memory_view y)) (sym at))
found_here path (x ∷ xs) (suc i) h lt at none hit = go (bytes_eq x.path.items path) refl (found_here path xs i h (omega arith) at)
  where
    go : (b : Bool) → bytes_eq x.path.items path ≡ b
        → (find (λ e. bytes_eq e.0 path) (map memory_view (take i xs)) ≡ None → bytes_eq h.path.items path ≡ true → find (λ e. bytes_eq e.0 path) (map memory_view xs) ≡ Some (memory_view h))
        → find (λ e. bytes_eq e.0 path) (map memory_view (x ∷ xs)) ≡ Some (memory_view h)
    go true e rest =
        let bad : Some (memory_view x) ≡ None = rw e at none in
        cc
    go false e rest = rw e (rest (rw e at none) hit)

find_past : (path : List ℕ) (es : List PathAndBytes) (e : PathAndBytes) → find (λ x. bytes_eq x.0 path) es ≡ None → bytes_eq e.0 path ≡ false
    → find (λ x. bytes_eq x.0 path) (es ++ e ∷ []) ≡ None
find_past path [] e none miss = rw miss refl
find_past path (x ∷ xs) e none miss = step (bytes_eq x.0 path) refl (λ rest. find_past path xs e rest miss)
  where
    step : (b : Bool) → bytes_eq x.0 path ≡ b → (find (λ y. bytes_eq y.0 path) xs ≡ None → find (λ y. bytes_eq y.0 path) (xs ++ e ∷ []) ≡ None)
        → find (λ y. bytes_eq y.0 path) ((x ∷ xs) ++ e ∷ []) ≡ None
    step true is rest =
        let bad : Some x ≡ None = rw is at none in
        cc
    step false is rest = rw is (rest (rw is at none))

-- and no further one
pub not_here : (path : List ℕ) (xs : List SourceEntry) (i : ℕ) (h : SourceEntry) → i < length xs → h ≡ get_or xs i h
    → find (λ e. bytes_eq e.0 path) (map memory_view (take i xs)) ≡ None → bytes_eq h.path.items path ≡ false
    → find (λ e. bytes_eq e.0 path) (map memory_view (take (i + 1) xs)) ≡ None
not_here path xs i h lt at none miss =
    let same : bytes_eq (get_or xs i h).path.items path ≡ false = subst (λ (y : SourceEntry). bytes_eq y.path.items path ≡ false) at miss in
    rw (take_more xs i h lt, map-append memory_view (take i xs) (get_or xs i h ∷ [])) (find_past path (map memory_view (take i xs)) (memory_view (get_or xs i h)) none same)

-- the tests of `is_directly_in`, one by one
pub is_within_from : (base path : List ℕ) → length base < length path → bytes_eq (take (length base) path) base ≡ true → slice_index path (length base) ≡ 47
    → list_any (λ b. b == slash_byte) (drop (length base + 1) path) ≡ false → is_directly_in base path ≡ true
is_within_from base path lt same slash_byte none = rw (lt-ltb (length base) (length path) lt, same, slash_byte, none) refl

pub not_false : (b : Bool) → false ≡ not b → b ≡ true
not_false true e = refl
not_false false e = cc
