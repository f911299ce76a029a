-- The walk ends: there are no more levels of directories than pairs, so the entries beneath a directory can be counted.
use Rattle.std.proofs.Common.{ℕ, zero, suc, ◌≡◌, ◌<◌, ◌≤◌, ◌+◌, ◌∙◌, true, false, nat_eq, eqb-true, List, [], ◌∷◌, ◌++◌, length, map, reverse, Option, Some, None, option_and_then, refl, sym, ap, ap₂, subst, arith, length-append, ⊎_elim}
use Rattle.std.specs.List.{IsDistinct, list_any, sum_by}
use Rattle.lfs_lookup.proofs.Common.{false_from_ne_true, append-nil, reverse-append, sum_by-cons, same_Some, Disk, Name, Slot, Struct, Inline, Ctz, Branch, same_pair, Pair, root_address, Path, DirectoryEntryMap, struct_directory_address, entry_named, root_slot, slot_at_path, IsPairAt, slot_of_path, IsAccepted, IsDirectoryAtPath, all_entries, Each, each_weaker, pair_back, pair_on, walk_append, PushesEntriesBelow, PathStruct}
use Rattle.std.proofs.lemmas.Bool.{or_cases}
use Rattle.std.proofs.lemmas.List.Sorted.{sum_by-IsPermutation}
use Rattle.std.proofs.lemmas.Map.Steps.{length-le_from_distinct_below}
use Rattle.lfs_model.specs.tree.Tree.{address_from_slot}
use Rattle.lfs_model.proofs.Paths.{append_step}
use Rattle.lfs_lookup.proofs.ByName.{AreRows}
use Rattle.lfs_lookup.proofs.Directories.{begins_with, within}
use Rattle.lfs_lookup.proofs.Visits.{IsNext, IsVisit, Visit, below, child, children, children_visited, each_both, leads_to, place_at, pushed_children}

-- ---- the depth of directories

-- a path that goes on leads somewhere on its way
leads_before : (E : DirectoryEntryMap) (s : Slot) (p : Path) (n : Name) (r : Path) (a : ℕ × ℕ) → address_from_slot E s (p ++ n ∷ r) ≡ Some a → (y : ℕ × ℕ) × (address_from_slot E s p ≡ Some y)
leads_before E s p n r a e = go (slot_at_path E s p) refl
  where
    whole : option_and_then (λ found. struct_directory_address found.struct) (option_and_then (λ t. slot_at_path E t (n ∷ r)) (slot_at_path E s p)) ≡ Some a
    whole = sym (ap (option_and_then (λ found. struct_directory_address found.struct)) (walk_append E s p (n ∷ r))) ∙ e

    go : (o : Option Slot) → slot_at_path E s p ≡ o → (y : ℕ × ℕ) × (address_from_slot E s p ≡ Some y)
    go None f = absurd (let k = sym (ap (λ o. option_and_then (λ found. struct_directory_address found.struct) (option_and_then (λ t. slot_at_path E t (n ∷ r)) o)) f) ∙ whole in cc)
    go (Some t) f = further (struct_directory_address t.struct) refl
      where
        further : (o : Option (ℕ × ℕ)) → struct_directory_address t.struct ≡ o → (y : ℕ × ℕ) × (address_from_slot E s p ≡ Some y)
        further None g = absurd (let k = sym (ap (λ o. option_and_then (λ found. struct_directory_address found.struct) (option_and_then (λ t. slot_at_path E t (n ∷ r)) o)) f
            ∙ ap (λ b. option_and_then (λ found. struct_directory_address found.struct) (option_and_then (λ c. slot_at_path E c r) (option_and_then (λ at. entry_named n (E at)) b))) g) ∙ whole in cc)
        further (Some y) g = (y, ap (option_and_then (λ found. struct_directory_address found.struct)) f ∙ g)

-- the number of a directory that a path of at least that length leads to
record IsStop (ps : List Pair) (low number : ℕ) : Type 0 where
  path : Path
  at : ℕ × ℕ
  leads : IsDirectoryAtPath ps path at
  long : low ≤ length path
  begins : IsPairAt ps at number

-- so many such numbers, each once
record HasStops (ps : List Pair) (low count : ℕ) : Type 0 where
  numbers : List ℕ
  many : length numbers ≡ count
  distinct : IsDistinct nat_eq numbers
  each : Each (IsStop ps low) numbers

one_begin : (ps : List Pair) (a b : ℕ × ℕ) (n : ℕ) → IsPairAt ps a n → IsPairAt ps b n → same_pair a b ≡ true
one_begin ps a b n h k =
    let same = same_Some h.pair k.pair (sym h.there ∙ k.there) in
    pair_on a h.pair.at b (pair_back h.pair.at a h.same) (ap (λ (p : Pair). same_pair p.at b) same ∙ k.same)

apart_from : (disk : Disk) (ps : List Pair) (p : Path) (a : ℕ × ℕ) (low n m : ℕ) → IsAccepted disk ps → IsDirectoryAtPath ps p a → IsPairAt ps a n → length p < low → IsStop ps low m → nat_eq n m ≡ false
apart_from disk ps p a low n m ok leads begins short stop = false_from_ne_true (nat_eq n m) (λ e.
    let same = one_begin ps a stop.at n begins (subst (IsPairAt ps stop.at) (sym (eqb-true n m e)) stop.begins) in
    let path = ok.once p stop.path a stop.at leads stop.leads same in
    let len = ap length path in
    let long = stop.long in
    absurd (omega arith))

stops : (disk : Disk) (ps : List Pair) (p r : Path) (a : ℕ × ℕ) → IsAccepted disk ps → IsDirectoryAtPath ps (p ++ r) a → HasStops ps (length p) (suc (length r))
unfolding IsDistinct
stops disk ps p [] a ok leads =
    let here = subst (λ q. IsDirectoryAtPath ps q a) (append-nil p) leads in
    let n = begins_with disk ps p a ok here in
    record { numbers = n.0 ∷ []; many = refl; distinct = (tt, tt); each = (record { path = p; at = a; leads = here; long = omega arith; begins = n.1 }, tt) }
stops disk ps p (name ∷ r) a ok leads =
    let y = leads_before (all_entries ps) (root_slot (root_address ps)) p name r a leads in
    let n = begins_with disk ps p y.0 ok y.1 in
    let more = stops disk ps (p ++ name ∷ []) r a ok (subst (λ q. IsDirectoryAtPath ps q a) (sym (append_step p name r)) leads) in
    let long = length-append p (name ∷ []) in
    record {
      numbers = n.0 ∷ more.numbers;
      many = ap suc more.many;
      distinct = (each_weaker (IsStop ps (length (p ++ name ∷ []))) (λ m. nat_eq n.0 m ≡ false) (λ m s. apart_from disk ps p y.0 (length (p ++ name ∷ [])) n.0 m ok y.1 n.1 (omega arith) s) more.numbers more.each, more.distinct);
      each = (
        record { path = p; at = y.0; leads = y.1; long = omega arith; begins = n.1 },
        each_weaker (IsStop ps (length (p ++ name ∷ []))) (IsStop ps (length p)) (λ m s. record { path = s.path; at = s.at; leads = s.leads; long = (let l = s.long in omega arith); begins = s.begins }) more.numbers more.each,
      );
    }

below_any : (n : ℕ) (xs : List ℕ) → Each (λ x. x < n) xs → (q : ℕ) → list_any (nat_eq q) xs ≡ true → q < n
below_any n [] h q e = absurd (cc)
below_any n (x ∷ xs) h q e = ⊎_elim
    (λ f. let same = eqb-true q x f in let l = h.0 in omega arith)
    (λ f. below_any n xs h.1 q f)
    (or_cases (nat_eq q x) (list_any (nat_eq q) xs) e)

-- a path to a directory has fewer names than there are pairs
pub few_names : (disk : Disk) (ps : List Pair) (path : Path) (a : ℕ × ℕ) → IsAccepted disk ps → IsDirectoryAtPath ps path a → length path < length ps
few_names disk ps path a ok leads =
    let s = stops disk ps [] path a ok leads in
    let many = s.many in
    let few = length-le_from_distinct_below s.numbers (length ps) s.distinct (below_any (length ps) s.numbers (each_weaker (IsStop ps 0) (λ x. x < length ps) (λ m t. within ps t.at m t.begins) s.numbers s.each)) in
    omega arith

-- ---- how many entries are beneath one

abbrev pub total : (Slot → ℕ) → List Slot → ℕ
total f [] = 0
total f (s ∷ slots) = f s + total f slots

-- what a struct stands for and all that stands beneath it, so many levels deep
abbrev pub size_within : ℕ → DirectoryEntryMap → Struct → ℕ
size_within zero E s = 1
size_within (suc levels) E s = 1 + total (λ c. size_within levels E c.struct) (below E s)

abbrev pub load_list_into_memory : ℕ → DirectoryEntryMap → List PathStruct → ℕ
load_list_into_memory levels E [] = 0
load_list_into_memory levels E (p ∷ places) = size_within levels E p.struct + load_list_into_memory levels E places

total_same : (f g : Slot → ℕ) (slots : List Slot) → Each (λ s. f s ≡ g s) slots → total f slots ≡ total g slots
total_same f g [] h = refl
total_same f g (s ∷ slots) h = ap₂ (λ x y. x + y) h.0 (total_same f g slots h.1)

total_is : (f : Slot → ℕ) (slots : List Slot) → total f slots ≡ sum_by f slots
total_is f [] = refl
total_is f (s ∷ slots) = ap (λ n. f s + n) (total_is f slots) ∙ sym (sum_by-cons f s slots)

total_rows : (f : Slot → ℕ) (slots rows : List Slot) → AreRows slots rows → total f rows ≡ total f slots
total_rows f slots rows r = total_is f rows ∙ sum_by-IsPermutation f slots rows r.permutation ∙ sym (total_is f slots)

each_slot : (P : Visit → Type 0) (path : Path) (slots : List Slot) → Each P (map (child path) slots) → Each (λ s. P (child path s)) slots
each_slot P path [] h = tt
each_slot P path (s ∷ slots) h = (h.0, each_slot P path slots h.1)

longer : (path : Path) (slots : List Slot) → Each (λ c. length c.path ≡ length path + 1) (map (child path) slots)
longer path [] = tt
longer path (s ∷ slots) = (length-append path (s.name ∷ []), longer path slots)

nothing_below : (E : DirectoryEntryMap) (s : Struct) → ((to : ℕ × ℕ) → s ≡ Branch to → ⊥) → below E s ≡ []
nothing_below E (Branch to) h = absurd (h to refl)
nothing_below E (Inline bytes) h = refl
nothing_below E (Ctz head size) h = refl

-- one level more adds nothing where the levels are enough for the paths
stable : (disk : Disk) (ps : List Pair) (levels : ℕ) (v : Visit) → IsAccepted disk ps → slot_of_path ps v.path ≡ Some v.slot → length ps ≤ levels + length v.path →
    size_within (suc levels) (all_entries ps) v.slot.struct ≡ size_within levels (all_entries ps) v.slot.struct
stable disk ps zero v ok e deep =
    ap (λ slots. 1 + total (λ c. 1) slots) (nothing_below (all_entries ps) v.slot.struct (λ to f. let few = few_names disk ps v.path to ok (leads_to ps v.path v.slot to e f) in absurd (omega arith)))
stable disk ps (suc levels) v ok e deep =
    ap (λ n. 1 + n) (total_same (λ c. size_within (suc levels) (all_entries ps) c.struct) (λ c. size_within levels (all_entries ps) c.struct) (below (all_entries ps) v.slot.struct)
    (each_slot (λ c. size_within (suc levels) (all_entries ps) c.slot.struct ≡ size_within levels (all_entries ps) c.slot.struct) v.path (below (all_entries ps) v.slot.struct)
    (each_weaker (IsVisit_below) (λ c. size_within (suc levels) (all_entries ps) c.slot.struct ≡ size_within levels (all_entries ps) c.slot.struct) (λ c h. stable disk ps levels c ok h.0 (let l = h.1 in omega arith)) (children ps v) deeper)))
  where
    IsVisit_below : Visit → Type 0
    IsVisit_below c = (slot_of_path ps c.path ≡ Some c.slot) × (length c.path ≡ length v.path + 1)

    deeper : Each IsVisit_below (children ps v)
    deeper = each_both (IsVisit disk ps) (λ c. length c.path ≡ length v.path + 1) IsVisit_below (children ps v) (λ c h l. (h.leads, l)) (children_visited disk ps v ok e) (longer v.path (below (all_entries ps) v.slot.struct))

-- ---- what is left to visit

load_append : (levels : ℕ) (E : DirectoryEntryMap) (xs ys : List PathStruct) → load_list_into_memory levels E (xs ++ ys) ≡ load_list_into_memory levels E xs + load_list_into_memory levels E ys
load_append levels E [] ys = omega arith
load_append levels E (x ∷ xs) ys = let e = load_append levels E xs ys in omega arith

load_reverse : (levels : ℕ) (E : DirectoryEntryMap) (xs : List PathStruct) → load_list_into_memory levels E (reverse xs) ≡ load_list_into_memory levels E xs
load_reverse levels E [] = refl
load_reverse levels E (x ∷ xs) =
    let e = load_reverse levels E xs in
    let f = load_append levels E (reverse xs) (x ∷ []) in
    ap (load_list_into_memory levels E) (reverse-append (x ∷ []) xs) ∙ (let one : load_list_into_memory levels E (reverse xs ++ x ∷ []) ≡ load_list_into_memory levels E (x ∷ xs) = omega arith in one)

load_children : (levels : ℕ) (E : DirectoryEntryMap) (path : Path) (slots : List Slot) → load_list_into_memory levels E (map place_at (map (child path) slots)) ≡ total (λ c. size_within levels E c.struct) slots
load_children levels E path [] = refl
load_children levels E path (s ∷ slots) = ap (λ n. size_within levels E s.struct + n) (load_children levels E path slots)

-- Less is left after a visit: what stands beneath, without the one that was visited.
pub less_left : (disk : Disk) (ps : List Pair) (done rest new : List PathStruct) (next : PathStruct) → IsAccepted disk ps → IsNext disk ps done next rest → PushesEntriesBelow ps next rest new →
    load_list_into_memory (length ps) (all_entries ps) new < load_list_into_memory (length ps) (all_entries ps) (rest ++ next ∷ [])
less_left disk ps done rest new next ok n pushed =
    let E = all_entries ps in
    let L = length ps in
    let slots = below E n.visit.slot.struct in
    let r = pushed_children disk ps n.visit rest new ok n.is_visit.leads (subst (λ p. PushesEntriesBelow ps p rest new) n.is pushed) in
    let now = map place_at (map (child n.visit.path) r.0) in
    let a : load_list_into_memory L E new ≡ load_list_into_memory L E now + load_list_into_memory L E (reverse rest) = sym (load_reverse L E new) ∙ ap (load_list_into_memory L E) r.1.1 ∙ load_append L E now (reverse rest) in
    let b : load_list_into_memory L E (reverse rest) ≡ load_list_into_memory L E rest = load_reverse L E rest in
    let c : load_list_into_memory L E now ≡ total (λ s. size_within L E s.struct) slots = load_children L E n.visit.path r.0 ∙ total_rows (λ s. size_within L E s.struct) slots r.0 r.1.0 in
    let d : load_list_into_memory L E (rest ++ next ∷ []) ≡ load_list_into_memory L E rest + load_list_into_memory L E (next ∷ []) = load_append L E rest (next ∷ []) in
    let f : size_within L E next.struct ≡ size_within L E n.visit.slot.struct = ap (λ (p : PathStruct). size_within L E p.struct) n.is in
    let g : 1 + total (λ s. size_within L E s.struct) slots ≡ size_within L E n.visit.slot.struct = stable disk ps L n.visit ok n.is_visit.leads (omega arith) in
    omega arith
