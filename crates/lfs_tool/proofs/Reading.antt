-- A source is read: what waits, last first, and the entries so far.
use Rattle.std.proofs.Common.{◌≡◌, ◌∙◌, ◌++◌, ◌∷◌, ◌⊎◌, ap, append-nil, append_assoc, ℕ, Bool, true, false, [], List, Option, Some, None, Result, Ok, Err, inl, inr, length, map, refl, reverse, subst, sym}
use Rattle.std.specs.Prelude.{Contains, IfSome, IsErrAnd, IsErrOf}
use Rattle.std.specs.List.Sorted.{IsPermutation}
use Rattle.std.proofs.lemmas.List.{map-append, reverse-append, reverse-reverse}
use Rattle.std.proofs.lemmas.List.Elements.{All-contains_itself, recursion_from_All}
use Rattle.std.proofs.lemmas.List.Sorted.{All-permutation, IsPermutation-map}
use Rattle.lfs_model.specs.format.Names.{Name}
use Rattle.lfs_model.specs.layers.Source.{HaveBadOrRepeatedNames, TreeSource, source_names, path_in_folder}
use Rattle.lfs_model.proofs.Counts.{Each, each_append, each_left, each_right}
use Rattle.lfs_tool.specs.SourceTrees.{IsUnchangedIfKnown, listed_view}
use Rattle.lfs_tool.specs.MemorySources.{optional_bytes_view}
use Rattle.lfs_tool.specs.SourceEntries.{AreSourceEntries, AreAscendingComponents, AreDepthFirst, AreSortedFolderNames, HasBadNames, HasSourceContents, IsSourceFolder, IsFolderReached, PathAndKind, listed_name, paths_in_folder}
use Rattle.lfs_tool.specs.declared.source.ListedName.{ListedName}
use Rattle.lfs_tool.specs.declared.entries.SourceEntry.{SourceEntry}
use Rattle.lfs_tool.proofs.Order.{names_given}

-- ---- what a source shows stays

pub rests_both : (a b c : Option TreeSource) → IsUnchangedIfKnown a b → IsUnchangedIfKnown b c → IsUnchangedIfKnown a c
rests_both None b c x y = tt
rests_both (Some t) None c x y = absurd x
rests_both (Some t) (Some u) None x y = absurd y
rests_both (Some t) (Some u) (Some v) x y = y ∙ x

pub along : (P : TreeSource → Type 0) (a b : Option TreeSource) → IsUnchangedIfKnown a b → IfSome b P → IfSome a P
along P None b x p = tt
along P (Some t) None x p = absurd x
along P (Some t) (Some u) x p = subst P x p

pub within_along : (a b : Option TreeSource) (folder : List ℕ) (within : List (Name × Bool)) → IsUnchangedIfKnown a b → AreSortedFolderNames b folder within → AreSortedFolderNames a folder within
within_along a b folder within x h = record { order = h.order; names = along (λ s. IsPermutation (s.names folder) within) a b x h.names }

pub holds_along : (a b : Option TreeSource) (path : List ℕ) (is_folder : Bool) (bytes : Option (List ℕ)) (within : List (Name × Bool)) → IsUnchangedIfKnown a b → HasSourceContents b path is_folder bytes within
    → HasSourceContents a path is_folder bytes within
holds_along a b path false None within x h = absurd h
holds_along a b path false (Some bytes) within x h = (along (λ s. bytes ≡ s.bytes path) a b x h.0, h.1)
holds_along a b path true None within x h = within_along a b path within x h
holds_along a b path true (Some bytes) within x h = absurd h

-- ---- names in a folder

pub within_sorted : (known : Option TreeSource) (folder : List ℕ) (xs ys : List ListedName) → IfSome known (λ s. map listed_view xs ≡ s.names folder) → IsPermutation xs ys → AreAscendingComponents (map listed_name ys)
    → AreSortedFolderNames known folder (map listed_view ys)
within_sorted known folder xs ys e p o = record { order = subst AreAscendingComponents (sym (names_given ys)) o; names = go known e }
  where
    go : (known : Option TreeSource) → IfSome known (λ s. map listed_view xs ≡ s.names folder) → IfSome known (λ s. IsPermutation (s.names folder) (map listed_view ys))
    go None e = tt
    go (Some s) e = subst (λ g. IsPermutation g (map listed_view ys)) e (IsPermutation-map listed_view xs ys p)

map_reverse : {X Y : Type 0} (f : X → Y) (xs : List X) → map f (reverse xs) ≡ reverse (map f xs)
map_reverse f [] = refl
map_reverse f (x ∷ xs) =
    ap (map f) (reverse-append (x ∷ []) xs) ∙ map-append f (reverse xs) (x ∷ []) ∙ ap (λ ys. ys ++ f x ∷ []) (map_reverse f xs) ∙ sym (reverse-append (f x ∷ []) (map f xs))

pub places_reversed : (folder : List ℕ) (xs ys : List ListedName) → ys ≡ reverse xs → paths_in_folder folder (map listed_view ys) ≡ reverse (paths_in_folder folder (map listed_view xs))
places_reversed folder xs ys e =
    ap (λ zs. paths_in_folder folder (map listed_view zs)) e ∙ ap (paths_in_folder folder) (map_reverse listed_view xs) ∙ map_reverse (λ (g : Name × Bool). (path_in_folder folder g.0, g.1)) (map listed_view xs)

-- ---- entries in turn

-- what is read at the places that wait ends the entries
abbrev pub Goes : Option TreeSource → List PathAndKind → List SourceEntry → Type 0
Goes known places entries = (rest : List SourceEntry) → AreDepthFirst known (reverse places) rest → AreSourceEntries known (entries ++ rest)

pub begins : (known : Option TreeSource) (top : List (Name × Bool)) (places : List PathAndKind) → AreSortedFolderNames known [] top → places ≡ reverse (paths_in_folder [] top) → Goes known places []
begins known top places w e = λ rest r. (top, (w, subst (λ ps. AreDepthFirst known ps rest) (ap reverse e ∙ reverse-reverse (paths_in_folder [] top)) r))

pub goes_on : (known : Option TreeSource) (front : List PathAndKind) (p : PathAndKind) (places : List PathAndKind) (es fs : List SourceEntry) (e : SourceEntry) (within : List (Name × Bool)) → Goes known (front ++ p ∷ []) es
    → e.path.items ≡ p.0 → HasSourceContents known p.0 p.1 (optional_bytes_view e.bytes) within → places ≡ front ++ reverse (paths_in_folder p.0 within) → fs ≡ es ++ e ∷ [] → Goes known places fs
goes_on known front p places es fs e within h path holds after more = λ rest r.
    let turned : reverse places ≡ paths_in_folder p.0 within ++ reverse front = ap reverse after ∙ reverse-append front (reverse (paths_in_folder p.0 within)) ∙ ap (λ ps. ps ++ reverse front) (reverse-reverse (paths_in_folder p.0 within)) in
    let here : AreDepthFirst known (p ∷ reverse front) (e ∷ rest) = (path, (within, (holds, subst (λ ps. AreDepthFirst known ps rest) turned r))) in
    let all : AreSourceEntries known (es ++ e ∷ rest) = h (e ∷ rest) (subst (λ ps. AreDepthFirst known ps (e ∷ rest)) (sym (reverse-append front (p ∷ []))) here) in
    subst (AreSourceEntries known) (sym (ap (λ xs. xs ++ rest) more ∙ append_assoc es (e ∷ []) rest)) all

pub all_of : (known : Option TreeSource) (places : List PathAndKind) (es : List SourceEntry) → Goes known places es → places ≡ [] → AreSourceEntries known es
all_of known places es h none = subst (AreSourceEntries known) (append-nil es) (h [] (subst (λ ps. AreDepthFirst known (reverse ps) []) (sym none) tt))

-- ---- folders that wait

abbrev pub LeadsHere : TreeSource → PathAndKind → Type 0
LeadsHere s p = p.1 ≡ true → IsSourceFolder s p.0

abbrev pub AreFolders : Option TreeSource → List PathAndKind → Type 0
AreFolders known places = IfSome known (λ s. Each (LeadsHere s) places)

leads_on : (s : TreeSource) (folder : List ℕ) (names : List Name) (to : List ℕ) (name : Name) → IsFolderReached s folder names to → Contains (s.names to) (name, true) → IsFolderReached s folder (names ++ name ∷ []) (path_in_folder to name)
leads_on s folder [] to name h c = (subst (λ f. Contains (s.names f) (name, true)) h c, ap (λ f. path_in_folder f name) h)
leads_on s folder (n ∷ names) to name h c = (h.0, leads_on s (path_in_folder folder n) names to name h.1 c)

each_leads : (s : TreeSource) (folder : List ℕ) (gs : List (Name × Bool)) → IsSourceFolder s folder → Each (Contains (s.names folder)) gs → Each (LeadsHere s) (paths_in_folder folder gs)
each_leads s folder [] f h = tt
each_leads s folder (g ∷ gs) f h = (
  λ is. (f.0 ++ g.0 ∷ [], leads_on s [] f.0 folder g.0 f.1 (subst (λ b. Contains (s.names folder) (g.0, b)) is h.0)),
  each_leads s folder gs f h.1,
)

each_reversed : {X : Type 0} (P : X → Type 0) (xs : List X) → Each P xs → Each P (reverse xs)
each_reversed P [] h = h
each_reversed P (x ∷ xs) h = subst (Each P) (sym (reverse-append (x ∷ []) xs)) (each_append P (reverse xs) (x ∷ []) (each_reversed P xs h.1) (h.0, tt))

inside : (s : TreeSource) (folder : List ℕ) (gs : List (Name × Bool)) → IsSourceFolder s folder → IsPermutation (s.names folder) gs → Each (LeadsHere s) (reverse (paths_in_folder folder gs))
inside s folder gs f p = each_reversed (LeadsHere s) (paths_in_folder folder gs)
    (each_leads s folder gs f (recursion_from_All (Contains (s.names folder)) gs (All-permutation (Contains (s.names folder)) (s.names folder) gs p (All-contains_itself (s.names folder)))))

pub top_folders : (known : Option TreeSource) (top : List (Name × Bool)) (places : List PathAndKind) → AreSortedFolderNames known [] top → places ≡ reverse (paths_in_folder [] top) → AreFolders known places
top_folders None top places w e = tt
top_folders (Some s) top places w e = subst (Each (LeadsHere s)) (sym e) (inside s [] top ([], refl) w.names)

within_folders : (s : TreeSource) (p : PathAndKind) (is_folder : Bool) (bytes : Option (List ℕ)) (within : List (Name × Bool)) → p.1 ≡ is_folder → LeadsHere s p → HasSourceContents (Some s) p.0 is_folder bytes within
    → Each (LeadsHere s) (reverse (paths_in_folder p.0 within))
within_folders s p false None within is f h = absurd h
within_folders s p false (Some bytes) within is f h = subst (λ gs. Each (LeadsHere s) (reverse (paths_in_folder p.0 gs))) (sym h.1) tt
within_folders s p true None within is f h = inside s p.0 within (f is) h.names
within_folders s p true (Some bytes) within is f h = absurd h

pub folders_on : (known : Option TreeSource) (front : List PathAndKind) (p : PathAndKind) (places : List PathAndKind) (bytes : Option (List ℕ)) (within : List (Name × Bool)) → AreFolders known (front ++ p ∷ [])
    → HasSourceContents known p.0 p.1 bytes within → places ≡ front ++ reverse (paths_in_folder p.0 within) → AreFolders known places
folders_on None front p places bytes within h holds after = tt
folders_on (Some s) front p places bytes within h holds after =
    let here = each_right (LeadsHere s) front (p ∷ []) h in
    subst (Each (LeadsHere s)) (sym after)
    (each_append (LeadsHere s) front (reverse (paths_in_folder p.0 within)) (each_left (LeadsHere s) front (p ∷ []) h) (within_folders s p p.1 bytes within refl here.0 holds))

-- ---- faults

pub bad_below : (known now : Option TreeSource) (front : List PathAndKind) (p : PathAndKind) → AreFolders known (front ++ p ∷ []) → IsUnchangedIfKnown known now → p.1 ≡ true → IfSome now (λ s. HaveBadOrRepeatedNames (source_names (s.names p.0)))
    → IfSome known HasBadNames
bad_below None now front p h x is bad = tt
bad_below (Some s) None front p h x is bad = absurd x
bad_below (Some s) (Some t) front p h x is bad =
    let here = each_right (LeadsHere s) front (p ∷ []) h in
    (p.0, (here.0 is, subst (λ u. HaveBadOrRepeatedNames (source_names (u.names p.0))) x bad))

pub either : (P Q R S : Type 0) → (P → R) → (Q → S) → P ⊎ Q → R ⊎ S
either P Q R S f g (inl p) = inl (f p)
either P Q R S f g (inr q) = inr (g q)

pub none_left : {X Y : Type 0} (f : X → Y) (xs : List X) → length xs ≡ 0 → map f xs ≡ []
none_left f [] e = refl
none_left f (x ∷ xs) e = absurd (cc)

-- an error that is passed on
pub same_error : {T E : Type 0} (r : Result T E) (e f : E) → IsErrAnd r (λ g. g ≡ e) → IsErrOf r f → e ≡ f
same_error (Ok x) e f h is = absurd h
same_error (Err g) e f h is = cc
