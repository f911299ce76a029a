-- From the pairs of a thread to its graph, pair by pair from the front: the pairs of the current directory, and those that
-- follow.
use Rattle.std.proofs.Common.{if◌then◌else◌, ℕ, zero, suc, ◌≡◌, Bool, true, false, cond, List, [], ◌∷◌, ◌++◌, length, map, Some, refl, ap, subst, ◌∙◌, slice_get, append_assoc}
use Rattle.std.specs.Prelude.{All}
use Rattle.lfs_mount.proofs.Common.{same_Some, length-map, Name, is_valid_name, Slot, Gstate, Pair, ThreadDirectory, is_hard_tail, unmoved_entries, directories_with_pair, pair_directories, Each, Ends, Vertex, DirectoryGraph, IsVertexOfSlots, IsDirectoryGraph, NamedReference, named_reference, scan_with_entries, empty_scan, directory_addresses}
use Rattle.lfs_model.specs.declared.order.NameOrder.{NameOrder}
use Rattle.lfs_mount.proofs.Drawn.{IsKnown, known_more, nothing_drawn}

-- ---- the pairs of the current directory, and the pairs that follow

-- whether a pair's tail is hard, and its slots
abbrev pub Shown : Type 0
Shown = Bool × List Slot

abbrev pub shown_in : Gstate → List Pair → List Shown
shown_in g ps = map (λ p. (is_hard_tail p.content.tail, unmoved_entries g p)) ps

-- the slots of each directory, the first one's behind those passed so far
abbrev pub runs : List Slot → List Shown → List (List Slot)
runs hand [] = []
runs hand (p ∷ ps) = if p.0 then runs (hand ++ p.1) ps else (hand ++ p.1) ∷ runs [] ps

-- what is known of each directory, the first one's behind what is known so far
abbrev pub vertices : NameOrder → List (ℕ × ℕ) → Name × Vertex → List (Bool × List NamedReference) → DirectoryGraph
vertices by firsts known [] = []
vertices by firsts known (p ∷ ps) =
    if p.0 then vertices by firsts (scan_with_entries by firsts known p.1) ps
    else (scan_with_entries by firsts known p.1).1 ∷ vertices by firsts empty_scan ps

abbrev pub entries_of : Shown → Bool × List NamedReference
entries_of p = (p.0, map named_reference p.1)

abbrev pub AreDrawn : NameOrder → List ThreadDirectory → List (List Slot) → DirectoryGraph → Type 0
AreDrawn by ds [] [] = Unit {0}
AreDrawn by ds [] (v ∷ vs) = ⊥
AreDrawn by ds (s ∷ ss) [] = ⊥
AreDrawn by ds (s ∷ ss) (v ∷ vs) = IsVertexOfSlots by ds s v × AreDrawn by ds ss vs

-- ---- the same directories from either end

abbrev slots_in : List ThreadDirectory → List (List Slot)
slots_in ds = map (λ d. d.slots) ds

abbrev in_front : List Slot → List (List Slot) → List (List Slot)
in_front hand [] = []
in_front hand (s ∷ ss) = (hand ++ s) ∷ ss

nothing_in_front : (ss : List (List Slot)) → in_front [] ss ≡ ss
nothing_in_front [] = refl
nothing_in_front (s ∷ ss) = refl

never_empty : (at : ℕ × ℕ) (hard : Bool) (slots : List Slot) (ds : List ThreadDirectory) → directories_with_pair at hard slots ds ≡ [] → ⊥
never_empty at hard slots [] e = absurd (cc)
never_empty at true slots (d ∷ ds) e = absurd (cc)
never_empty at false slots (d ∷ ds) e = absurd (cc)

-- one pair more in front of directories
one_joined : (at : ℕ × ℕ) (hard : Bool) (slots hand : List Slot) (rest : List Shown) (ds : List ThreadDirectory) → (ds ≡ [] → ⊥)
    → ((more : List Slot) → runs more rest ≡ in_front more (slots_in ds))
    → cond hard (runs (hand ++ slots) rest) ((hand ++ slots) ∷ runs [] rest) ≡ in_front hand (slots_in (directories_with_pair at hard slots ds))
one_joined at hard slots hand rest [] some next = absurd (some refl)
one_joined at true slots hand rest (d ∷ ds) some next = next (hand ++ slots) ∙ ap (λ s. s ∷ slots_in ds) (append_assoc hand slots d.slots)
one_joined at false slots hand rest (d ∷ ds) some next = ap (λ ss. (hand ++ slots) ∷ ss) (next [])

runs_in_front : (g : Gstate) (ps : List Pair) (hand : List Slot) → Ends ps → runs hand (shown_in g ps) ≡ in_front hand (slots_in (pair_directories g ps))
runs_in_front g [] hand ends = refl
runs_in_front g (p ∷ []) hand ends = ap (λ b. cond b [] ((hand ++ unmoved_entries g p) ∷ [])) ends
runs_in_front g (p ∷ q ∷ ps) hand ends =
    one_joined p.at (is_hard_tail p.content.tail) (unmoved_entries g p) hand (shown_in g (q ∷ ps)) (pair_directories g (q ∷ ps))
    (never_empty q.at (is_hard_tail q.content.tail) (unmoved_entries g q) (pair_directories g ps)) (λ more. runs_in_front g (q ∷ ps) more ends)

pub directories_from_front : (g : Gstate) (ps : List Pair) → Ends ps → runs [] (shown_in g ps) ≡ map (λ d. d.slots) (pair_directories g ps)
directories_from_front g ps ends = runs_in_front g ps [] ends ∙ nothing_in_front (slots_in (pair_directories g ps))

-- ---- what is known of them

abbrev pub Named : Shown → Type 0
Named p = All (λ s. is_valid_name s.name ≡ true) p.1

pub runs_drawn : {by : NameOrder} (ds : List ThreadDirectory) (ps : List Shown) (hand : List Slot) (known : Name × Vertex) → Each Named ps → IsKnown by ds hand known
    → AreDrawn by ds (runs hand ps) (vertices by (directory_addresses ds) known (map entries_of ps))
runs_drawn {by} ds [] hand known named h = tt
runs_drawn {by} ds ((true, slots) ∷ ps) hand known named h =
    runs_drawn ds ps (hand ++ slots) (scan_with_entries by (directory_addresses ds) known (map named_reference slots)) named.1 (known_more ds hand slots known named.0 h)
runs_drawn {by} ds ((false, slots) ∷ ps) hand known named h =
    ((known_more ds hand slots known named.0 h).drawn, runs_drawn ds ps [] empty_scan named.1 (nothing_drawn by ds))

-- ---- the graph

drawn_len : (by : NameOrder) (ds : List ThreadDirectory) (ss : List (List Slot)) (graph : DirectoryGraph) → AreDrawn by ds ss graph → length graph ≡ length ss
drawn_len by ds [] [] h = refl
drawn_len by ds [] (v ∷ vs) h = absurd h
drawn_len by ds (s ∷ ss) [] h = absurd h
drawn_len by ds (s ∷ ss) (v ∷ vs) h = ap (λ n. suc n) (drawn_len by ds ss vs h.1)

drawn_at : (by : NameOrder) (ds es : List ThreadDirectory) (graph : DirectoryGraph) → AreDrawn by ds (slots_in es) graph → (i : ℕ) (d : ThreadDirectory) (v : Vertex) → slice_get es i ≡ Some d → slice_get graph i ≡ Some v → IsVertexOfSlots by ds d.slots v
drawn_at by ds [] graph h i d v e f = absurd (cc)
drawn_at by ds (x ∷ es) [] h i d v e f = absurd h
drawn_at by ds (x ∷ es) (w ∷ vs) h zero d v e f =
    subst (IsVertexOfSlots by ds d.slots) (same_Some w v f) (subst (λ (y : ThreadDirectory). IsVertexOfSlots by ds y.slots w) (same_Some x d e) h.0)
drawn_at by ds (x ∷ es) (w ∷ vs) h (suc i) d v e f = drawn_at by ds es vs h.1 i d v e f

pub draws_from : (by : NameOrder) (ds : List ThreadDirectory) (graph : DirectoryGraph) → AreDrawn by ds (map (λ d. d.slots) ds) graph → IsDirectoryGraph by ds graph
draws_from by ds graph h = record {
  len = drawn_len by ds (slots_in ds) graph h ∙ length-map ds (λ (d : ThreadDirectory). d.slots);
  each = drawn_at by ds ds graph h;
}

-- passing pairs from the front describes the directories
pub thread_drawn : (by : NameOrder) (g : Gstate) (ps : List Pair) → Ends ps → Each Named (shown_in g ps)
    → IsDirectoryGraph by (pair_directories g ps) (vertices by (directory_addresses (pair_directories g ps)) empty_scan (map entries_of (shown_in g ps)))
thread_drawn by g ps ends named =
    draws_from by (pair_directories g ps) (vertices by (directory_addresses (pair_directories g ps)) empty_scan (map entries_of (shown_in g ps)))
    (subst (λ ss. AreDrawn by (pair_directories g ps) ss (vertices by (directory_addresses (pair_directories g ps)) empty_scan (map entries_of (shown_in g ps))))
    (directories_from_front g ps ends)
    (runs_drawn (pair_directories g ps) (shown_in g ps) [] empty_scan named (nothing_drawn by (pair_directories g ps))))
