-- The walk of a tree, by what is still to be visited.
use Rattle.std.proofs.Common.{ℕ, zero, suc, ◌≡◌, ◌∙◌, Bool, true, false, cond, not, List, [], ◌∷◌, ◌++◌, map, drop, reverse, slice_get, Some, option_and_then, option_map, refl, sym, ap, ap₂, subst, append_assoc}
use Rattle.lfs_lookup.proofs.Common.{append-nil, map-append, reverse-append, flat_map-append, recursion_from_All, sorted_names, Disk, Name, slash_byte, Slot, Struct, Inline, Ctz, Branch, is_superblock, Pair, pairs_gstate, is_hard_tail, root_address, slots_not_moved, unmoved_entries, Path, DirectoryEntryMap, struct_directory_address, struct_node, root_slot, directory_names, slot_of_path, IsAccepted, IsWellFormedList, IsDirectoryAtPath, all_unmoved_slots, disk_list_bytes, all_entries, disk_tree, Each, each_append, each_joined, each_weaker, slot_there, AreSortedShorterFirst, NamedStruct, named_struct, joined_pairs, directory_entries_from, PushesEntriesBelow, AreEntriesPushed, HasFirstPairIfDirectory, PathStruct, with_full_paths}
use Rattle.std.proofs.lemmas.List.{reverse-reverse}
use Rattle.lfs_model.specs.declared.order.NameOrder.TheVariants.{ShorterFirst}
use Rattle.lfs_model.specs.session.Operations.{path_bytes}
use Rattle.lfs_model.specs.layers.Listing.{PathNode, IsDepthFirst, IsTreeWalk, entry_paths}
use Rattle.lfs_model.proofs.Counts.{each_filter, each_pieces}
use Rattle.lfs_lookup.specs.TreeWalk.{AreTreeItems, AreWalkItems, IsTreeItem, IsStructNode}
use Rattle.lfs_lookup.proofs.ByName.{AreRows, each_row, names_in, no_rows, rows_by_name}
use Rattle.lfs_lookup.proofs.Directories.{begins_with, own_run, own_shapes}

-- a slot and its path
pub record Visit : Type 0 where
  pub path : Path
  pub slot : Slot

abbrev pub place_at : Visit → PathStruct
place_at v = record { path = path_bytes v.path; struct = v.slot.struct }

-- the path leads there, and a file's list is well formed
pub record IsVisit (disk : Disk) (ps : List Pair) (v : Visit) : Type 0 where
  pub leads : slot_of_path ps v.path ≡ Some v.slot
  pub list : IsWellFormedList disk v.slot.struct

abbrev pub child : Path → Slot → Visit
child path s = record { path = path ++ s.name ∷ []; slot = s }

abbrev pub below : DirectoryEntryMap → Struct → List Slot
below E (Branch to) = E to
below E (Inline bytes) = []
below E (Ctz head size) = []

abbrev pub children : List Pair → Visit → List Visit
children ps v = map (child v.path) (below (all_entries ps) v.slot.struct)

abbrev pub entry_in : Disk → List Pair → Visit → PathNode
entry_in disk ps v = record { path = v.path; node = struct_node (disk_list_bytes disk) (all_entries ps) v.slot.attributes v.slot.struct }

abbrev pub paths_of : List Visit → List Path
paths_of visits = map (λ v. v.path) visits

-- ---- what a visit shows

pub leads_to : (ps : List Pair) (P : Path) (s : Slot) (to : ℕ × ℕ) → slot_of_path ps P ≡ Some s → s.struct ≡ Branch to → IsDirectoryAtPath ps P to
leads_to ps P s to e f = ap (option_and_then (λ found. struct_directory_address found.struct)) e ∙ ap struct_directory_address f

-- a directory's names are those of its entries in name order
names_below : (disk : Disk) (E : DirectoryEntryMap) (s : Slot) (rows : List Slot) → AreRows (below E s.struct) rows → directory_names (Some (struct_node (disk_list_bytes disk) E s.attributes s.struct)) ≡ names_in rows
names_below disk E s rows r = go s.struct r.names
  where
    go : (t : Struct) → names_in rows ≡ sorted_names ShorterFirst (names_in (below E t)) → directory_names (Some (struct_node (disk_list_bytes disk) E s.attributes t)) ≡ names_in rows
    go (Branch to) e = sym e
    go (Inline bytes) e = sym e
    go (Ctz head size) e = sym e

children_paths : (P : Path) (slots : List Slot) → map (λ name. P ++ name ∷ []) (names_in slots) ≡ paths_of (map (child P) slots)
children_paths P [] = refl
children_paths P (s ∷ slots) = ap (λ z. (P ++ s.name ∷ []) ∷ z) (children_paths P slots)

pub paths_below : (disk : Disk) (ps : List Pair) (v : Visit) (rows : List Slot) → slot_of_path ps v.path ≡ Some v.slot → AreRows (below (all_entries ps) v.slot.struct) rows
    → entry_paths (disk_tree disk ps) v.path ≡ paths_of (map (child v.path) rows)
paths_below disk ps v rows e r =
    ap (λ o. map (λ name. v.path ++ name ∷ []) (directory_names (option_map (λ found. struct_node (disk_list_bytes disk) (all_entries ps) found.attributes found.struct) o))) e
    ∙ ap (map (λ name. v.path ++ name ∷ [])) (names_below disk (all_entries ps) v.slot rows r)
    ∙ children_paths v.path rows

pub node_at : (disk : Disk) (ps : List Pair) (v : Visit) → slot_of_path ps v.path ≡ Some v.slot → disk_tree disk ps v.path ≡ Some (entry_in disk ps v).node
node_at disk ps v e = ap (option_map (λ found. struct_node (disk_list_bytes disk) (all_entries ps) found.attributes found.struct)) e

shows_node : (disk : Disk) (E : DirectoryEntryMap) (s : Slot) → IsWellFormedList disk s.struct → IsStructNode disk s.struct (struct_node (disk_list_bytes disk) E s.attributes s.struct)
shows_node disk E s list = go s.struct list
  where
    go : (t : Struct) → IsWellFormedList disk t → IsStructNode disk t (struct_node (disk_list_bytes disk) E s.attributes t)
    go (Inline bytes) l = (s.attributes, refl)
    go (Ctz head size) l = (s.attributes, (refl, l))
    go (Branch to) l = (s.attributes, (sorted_names ShorterFirst (map (λ t. t.name) (E to)), refl))

pub visit_shows : (disk : Disk) (ps : List Pair) (v : Visit) → IsVisit disk ps v → IsTreeItem disk (place_at v) (entry_in disk ps v)
visit_shows disk ps v h = record { path = refl; node = shows_node disk (all_entries ps) v.slot h.list }

-- ---- children

path_further : (P : Path) (name : Name) → path_bytes (P ++ name ∷ []) ≡ path_bytes P ++ slash_byte ∷ name
path_further P name = flat_map-append (λ n. slash_byte ∷ n) P (name ∷ []) ∙ ap (λ z. path_bytes P ++ slash_byte ∷ z) (append-nil name)

pub places_of : (P : Path) (slots : List Slot) → with_full_paths (path_bytes P) (map named_struct slots) ≡ map place_at (map (child P) slots)
places_of P [] = refl
places_of P (s ∷ slots) = ap₂ (λ x xs. x ∷ xs) (ap (λ (bytes : List ℕ). record { path = bytes; struct = s.struct }) (sym (path_further P s.name))) (places_of P slots)

each_drop : {X : Type 0} (P : X → Type 0) (n : ℕ) (xs : List X) → Each P xs → Each P (drop n xs)
each_drop P zero xs h = h
each_drop P (suc n) [] h = h
each_drop P (suc n) (x ∷ xs) h = each_drop P n xs h.1

each_run : (P : Pair → Type 0) (ps : List Pair) → Each P ps → Each P (joined_pairs ps)
each_run P [] h = tt
each_run P (p ∷ ps) h = (h.0, go (is_hard_tail p.content.tail) (each_run P ps h.1))
  where
    go : (b : Bool) → Each P (joined_pairs ps) → Each P (cond b (joined_pairs ps) [])
    go true k = k
    go false k = tt

-- what holds of each slot that the pairs show holds of those of a directory
pub each_visible : (Q : Slot → Type 0) (disk : Disk) (ps : List Pair) (P : Path) (a : ℕ × ℕ) → IsAccepted disk ps → IsDirectoryAtPath ps P a → Each (λ p. Each Q (unmoved_entries (pairs_gstate ps) p)) ps → Each Q (all_entries ps a)
each_visible Q disk ps P a ok leads pieces =
    let n = begins_with disk ps P a ok leads in
    subst (Each Q) (own_run disk ps P a n.0 ok leads n.1)
    (each_joined Q (unmoved_entries (pairs_gstate ps)) (joined_pairs (drop n.0 ps)) (each_run (λ p. Each Q (unmoved_entries (pairs_gstate ps) p)) (drop n.0 ps) (each_drop (λ p. Each Q (unmoved_entries (pairs_gstate ps) p)) n.0 ps pieces)))

-- what holds of each slot of the pairs does, too
pub each_entry : (Q : Slot → Type 0) (disk : Disk) (ps : List Pair) (P : Path) (a : ℕ × ℕ) → IsAccepted disk ps → IsDirectoryAtPath ps P a → Each Q (all_unmoved_slots ps) → Each Q (all_entries ps a)
each_entry Q disk ps P a ok leads h =
    each_visible Q disk ps P a ok leads
    (each_weaker (λ p. Each Q (slots_not_moved (pairs_gstate ps) p)) (λ p. Each Q (unmoved_entries (pairs_gstate ps) p)) (λ p k. each_filter Q (λ s. not (is_superblock s)) (slots_not_moved (pairs_gstate ps) p) k) ps
    (each_pieces Q (slots_not_moved (pairs_gstate ps)) ps h))

each_got : {X : Type 0} (P : X → Type 0) (xs : List X) → ((k : ℕ) (x : X) → slice_get xs k ≡ Some x → P x) → Each P xs
each_got P [] h = tt
each_got P (x ∷ xs) h = (h 0 x refl, each_got P xs (λ k y e. h (suc k) y e))

pub each_both : {X : Type 0} (P Q R : X → Type 0) (xs : List X) → ((x : X) → P x → Q x → R x) → Each P xs → Each Q xs → Each R xs
each_both P Q R [] f h k = tt
each_both P Q R (x ∷ xs) f h k = (f x h.0 k.0, each_both P Q R xs f h.1 k.1)

each_child : (P : Visit → Type 0) (path : Path) (slots : List Slot) → Each (λ s. P (child path s)) slots → Each P (map (child path) slots)
each_child P path [] h = tt
each_child P path (s ∷ slots) h = (h.0, each_child P path slots h.1)

slots_visited : (disk : Disk) (ps : List Pair) (v : Visit) → IsAccepted disk ps → slot_of_path ps v.path ≡ Some v.slot → Each (λ s. IsVisit disk ps (child v.path s)) (below (all_entries ps) v.slot.struct)
slots_visited disk ps v ok e = go v.slot.struct refl
  where
    go : (t : Struct) → v.slot.struct ≡ t → Each (λ s. IsVisit disk ps (child v.path s)) (below (all_entries ps) t)
    go (Inline bytes) f = tt
    go (Ctz head size) f = tt
    go (Branch to) f =
        let leads = leads_to ps v.path v.slot to e f in
        each_both (λ s. slot_of_path ps (v.path ++ s.name ∷ []) ≡ Some s) (λ s. IsWellFormedList disk s.struct) (λ s. IsVisit disk ps (child v.path s)) (all_entries ps to) (λ s x y. record { leads = x; list = y })
        (each_got (λ s. slot_of_path ps (v.path ++ s.name ∷ []) ≡ Some s) (all_entries ps to) (λ k u g. slot_there disk ps v.path to k u ok leads g))
        (each_entry (λ s. IsWellFormedList disk s.struct) disk ps v.path to ok leads (recursion_from_All (λ (s : Slot). IsWellFormedList disk s.struct) (all_unmoved_slots ps) ok.lists))

pub children_visited : (disk : Disk) (ps : List Pair) (v : Visit) → IsAccepted disk ps → slot_of_path ps v.path ≡ Some v.slot → Each (IsVisit disk ps) (children ps v)
children_visited disk ps v ok e = each_child (IsVisit disk ps) v.path (below (all_entries ps) v.slot.struct) (slots_visited disk ps v ok e)

rows_visited : (disk : Disk) (ps : List Pair) (v : Visit) (rows : List Slot) → IsAccepted disk ps → slot_of_path ps v.path ≡ Some v.slot → AreRows (below (all_entries ps) v.slot.struct) rows
    → Each (IsVisit disk ps) (map (child v.path) rows)
rows_visited disk ps v rows ok e r =
    each_child (IsVisit disk ps) v.path rows (each_row (λ s. IsVisit disk ps (child v.path s)) (below (all_entries ps) v.slot.struct) rows r (slots_visited disk ps v ok e))

-- a visited directory begins with a pair of the thread
pub visit_begins : (disk : Disk) (ps : List Pair) (v : Visit) → IsAccepted disk ps → slot_of_path ps v.path ≡ Some v.slot → HasFirstPairIfDirectory ps v.slot.struct
visit_begins disk ps v ok e = go v.slot.struct refl
  where
    go : (t : Struct) → v.slot.struct ≡ t → HasFirstPairIfDirectory ps t
    go (Inline bytes) f = tt
    go (Ctz head size) f = tt
    go (Branch to) f = begins_with disk ps v.path to ok (leads_to ps v.path v.slot to e f)

-- the children in name order, which what is pushed shows
abbrev pub IsPushed : Path → List Slot → List PathStruct → List PathStruct → Type 0
IsPushed path slots old new = (rows : List Slot) × (AreRows slots rows × (reverse new ≡ map place_at (map (child path) rows) ++ reverse old))

pushed_from : (ps : List Pair) (path : Path) (first : ℕ) (slots : List Slot) (old new : List PathStruct) → directory_entries_from ps (Some first) ≡ map named_struct slots → AreEntriesPushed ps (path_bytes path) first old new
    → IsPushed path slots old new
pushed_from ps path first slots old new own k =
    let shapes = k.0 in
    let r = rows_by_name slots shapes (subst (λ (z : List NamedStruct). AreSortedShorterFirst z shapes) own k.1.0) in
    let are = ap (with_full_paths (path_bytes path)) r.1.1 ∙ places_of path r.0 in (
      r.0,
      (r.1.0, ap reverse k.1.1 ∙ reverse-append old (reverse (with_full_paths (path_bytes path) shapes)) ∙ ap (λ z. z ++ reverse old) (reverse-reverse (with_full_paths (path_bytes path) shapes) ∙ are)),
    )

pub pushed_children : (disk : Disk) (ps : List Pair) (v : Visit) (old new : List PathStruct) → IsAccepted disk ps → slot_of_path ps v.path ≡ Some v.slot → PushesEntriesBelow ps (place_at v) old new →
    IsPushed v.path (below (all_entries ps) v.slot.struct) old new
pushed_children disk ps v old new ok e h = go v.slot.struct refl h
  where
    go : (t : Struct) → v.slot.struct ≡ t → PushesEntriesBelow ps (record { path = path_bytes v.path; struct = t }) old new → IsPushed v.path (below (all_entries ps) t) old new
    go (Inline bytes) f k = ([], (no_rows, ap reverse k))
    go (Ctz head size) f k = ([], (no_rows, ap reverse k))
    go (Branch to) f k = pushed_from ps v.path k.0 (all_entries ps to) old new (own_shapes disk ps v.path to k.0 ok (leads_to ps v.path v.slot to e f) k.1.0) k.1.1

-- ---- the walk so far

-- These places were visited, those are pending, the next one last: whatever walk of them comes, the tree's goes on with it.
pub record IsUnderWay (disk : Disk) (ps : List Pair) (done pending : List PathStruct) : Type 0 where
  pub visits : List Visit
  pub are : reverse pending ≡ map place_at visits
  pub each : Each (IsVisit disk ps) visits
  pub entries : List PathNode
  pub shown : AreTreeItems disk done entries
  pub goes_on : (es : List PathNode) → IsDepthFirst (disk_tree disk ps) (paths_of visits) es → IsTreeWalk (disk_tree disk ps) (entries ++ es)

-- one of them is taken
pub record IsNext (disk : Disk) (ps : List Pair) (done : List PathStruct) (next : PathStruct) (pending : List PathStruct) : Type 0 where
  pub visit : Visit
  pub is : next ≡ place_at visit
  pub is_visit : IsVisit disk ps visit
  pub visits : List Visit
  pub are : reverse pending ≡ map place_at visits
  pub each : Each (IsVisit disk ps) visits
  pub entries : List PathNode
  pub shown : AreTreeItems disk done entries
  pub goes_on : (es : List PathNode) → IsDepthFirst (disk_tree disk ps) (visit.path ∷ paths_of visits) es → IsTreeWalk (disk_tree disk ps) (entries ++ es)

pub begun : (disk : Disk) (ps : List Pair) (first : ℕ) (pending : List PathStruct) → IsAccepted disk ps → directory_entries_from ps (Some first) ≡ map named_struct (all_entries ps (root_address ps)) → AreEntriesPushed ps [] first [] pending
    → IsUnderWay disk ps [] pending
begun disk ps first pending ok own h =
    let v : Visit = record { path = []; slot = root_slot (root_address ps) } in
    let r = pushed_from ps [] first (all_entries ps (root_address ps)) [] pending own h in
    record {
      visits = map (child []) r.0;
      are = r.1.1 ∙ append-nil (map place_at (map (child []) r.0));
      each = rows_visited disk ps v r.0 ok refl r.1.0;
      entries = [];
      shown = tt;
      goes_on = λ es w. subst (λ z. IsDepthFirst (disk_tree disk ps) z es) (sym (paths_below disk ps v r.0 refl r.1.0)) w;
    }

pub took : (disk : Disk) (ps : List Pair) (done old new : List PathStruct) (next : PathStruct) → old ≡ new ++ next ∷ [] → IsUnderWay disk ps done old → IsNext disk ps done next new
took disk ps done old new next e u = go u.visits refl
  where
    front : next ∷ reverse new ≡ map place_at u.visits
    front = sym (ap reverse e ∙ reverse-append new (next ∷ [])) ∙ u.are

    go : (vs : List Visit) → u.visits ≡ vs → IsNext disk ps done next new
    go [] f = absurd (let k = front ∙ ap (map place_at) f in cc)
    go (v ∷ vs) f =
        let k = front ∙ ap (map place_at) f in
        record {
          visit = v;
          is = first_of next (place_at v) (reverse new) (map place_at vs) k;
          is_visit = (subst (Each (IsVisit disk ps)) f u.each).0;
          visits = vs;
          are = others_of next (place_at v) (reverse new) (map place_at vs) k;
          each = (subst (Each (IsVisit disk ps)) f u.each).1;
          entries = u.entries;
          shown = u.shown;
          goes_on = λ es w. u.goes_on es (subst (λ z. IsDepthFirst (disk_tree disk ps) (paths_of z) es) (sym f) w);
        }
      where
        first_of : (x y : PathStruct) (xs ys : List PathStruct) → x ∷ xs ≡ y ∷ ys → x ≡ y
        first_of x y xs ys h = cc

        others_of : (x y : PathStruct) (xs ys : List PathStruct) → x ∷ xs ≡ y ∷ ys → xs ≡ ys
        others_of x y xs ys h = cc

shown_more : (disk : Disk) (done : List PathStruct) (entries : List PathNode) (place : PathStruct) (entry : PathNode) → AreTreeItems disk done entries → IsTreeItem disk place entry → AreTreeItems disk (done ++ place ∷ []) (entries ++ entry ∷ [])
shown_more disk [] [] place entry h s = (s, tt)
shown_more disk [] (e ∷ es) place entry h s = absurd h
shown_more disk (p ∷ ps) [] place entry h s = absurd h
shown_more disk (p ∷ ps) (e ∷ es) place entry h s = (h.0, shown_more disk ps es place entry h.1 s)

pub moved_on : (disk : Disk) (ps : List Pair) (done old new : List PathStruct) (next : PathStruct) → IsAccepted disk ps → IsNext disk ps done next old → PushesEntriesBelow ps next old new → IsUnderWay disk ps (done ++ next ∷ []) new
moved_on disk ps done old new next ok n pushed =
    let r = pushed_children disk ps n.visit old new ok n.is_visit.leads (subst (λ p. PushesEntriesBelow ps p old new) n.is pushed) in
    let now = map (child n.visit.path) r.0 in
    record {
      visits = now ++ n.visits;
      are = r.1.1 ∙ ap (λ z. map place_at now ++ z) n.are ∙ sym (map-append place_at now n.visits);
      each = each_append (IsVisit disk ps) now n.visits (rows_visited disk ps n.visit r.0 ok n.is_visit.leads r.1.0) n.each;
      entries = n.entries ++ entry_in disk ps n.visit ∷ [];
      shown = shown_more disk done n.entries next (entry_in disk ps n.visit) n.shown (subst (λ p. IsTreeItem disk p (entry_in disk ps n.visit)) (sym n.is) (visit_shows disk ps n.visit n.is_visit));
      goes_on = λ es w.
          subst (IsTreeWalk (disk_tree disk ps)) (sym (append_assoc n.entries (entry_in disk ps n.visit ∷ []) es))
          (n.goes_on (entry_in disk ps n.visit ∷ es) (
            refl,
            node_at disk ps n.visit n.is_visit.leads,
            subst (λ z. IsDepthFirst (disk_tree disk ps) z es) (map-append (λ (v : Visit). v.path) now n.visits ∙ ap (λ z. z ++ paths_of n.visits) (sym (paths_below disk ps n.visit r.0 n.is_visit.leads r.1.0))) w,
          ));
    }

pub ended : (disk : Disk) (ps : List Pair) (done pending : List PathStruct) → pending ≡ [] → IsUnderWay disk ps done pending → AreWalkItems disk ps done
ended disk ps done pending e u = go u.visits refl
  where
    none : map place_at u.visits ≡ []
    none = sym u.are ∙ ap reverse e

    go : (vs : List Visit) → u.visits ≡ vs → AreWalkItems disk ps done
    go [] f = (u.entries ++ [], (u.goes_on [] (subst (λ z. IsDepthFirst (disk_tree disk ps) (paths_of z) []) (sym f) tt), subst (AreTreeItems disk done) (sym (append-nil u.entries)) u.shown))
    go (v ∷ vs) f = absurd (let k = sym none ∙ ap (map place_at) f in cc)

-- the next one's directory is in the thread
pub next_begins : (disk : Disk) (ps : List Pair) (done pending : List PathStruct) (next : PathStruct) → IsAccepted disk ps → IsNext disk ps done next pending → HasFirstPairIfDirectory ps next.struct
next_begins disk ps done pending next ok n = subst (HasFirstPairIfDirectory ps) (sym (ap (λ (p : PathStruct). p.struct) n.is)) (visit_begins disk ps n.visit ok n.is_visit.leads)
