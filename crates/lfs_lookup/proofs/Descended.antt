-- Down a path, a directory at a time.
use Rattle.std.proofs.Common.{subst₂, ℕ, zero, suc, ◌≡◌, ◌<◌, ◌≤◌, ◌+◌, List, [], ◌∷◌, ◌++◌, length, map, take, drop, Option, Some, None, Result, Ok, Err, refl, sym, ap, ap₂, subst, ◌∙◌, arith, append_assoc, append-nil, slice_get, slice_index_or}
use Rattle.std.specs.Prelude.{sum_by, IfOk}
use Rattle.lfs_lookup.proofs.Common.{option_and_then, option_map, option_or, map-append, sum_by-append, sum_by-cons, Disk, directory_pair_count, ancestor_paths, read_count, joined_pair_count, Name, directory_refusal, parents_refusal, slot_of_path, Slot, Struct, Inline, Ctz, Branch, pairs_gstate, Path, Tree, struct_directory_address, struct_node, IsAccepted, IsDirectoryAtPath, disk_list_bytes, all_entries, disk_tree, KeptThread, OnlyReadsThread, LeadsToPair, IsPathParent, IsParentAt, HidesMovedSlot, IsVisibleLookupResult, IsOnlyMovedSlot, run_length_is}
use Rattle.lfs_device.specs.declared.error.Error.{Error}
use Rattle.lfs_model.specs.session.Operations.{Refusal}
use Rattle.lfs_lookup.specs.LookupPaths.{IsVisibleNameLookup, IsNameLookupResult, IsResultOfPath}
use Rattle.lfs_lookup.specs.declared.search.SlotPosition.{SlotPosition}
use Rattle.lfs_lookup.specs.declared.paths.VisiblePathLookup.{VisiblePathLookup}
use Rattle.lfs_lookup.specs.declared.paths.VisiblePathLookup.TheVariants as shown
use Rattle.lfs_lookup.specs.declared.paths.PathLookup.{PathLookup}
use Rattle.lfs_lookup.specs.declared.paths.PathLookup.TheVariants as found
use Rattle.lfs_lookup.specs.declared.paths.Parent.{Parent}
use Rattle.lfs_lookup.specs.declared.paths.Parent.TheVariants as parent

-- ---- lists

pub take_on : (xs : Path) (i : ℕ) (n : Name) → slice_get xs i ≡ Some n → take (i + 1) xs ≡ take i xs ++ n ∷ []
take_on [] i n e = absurd (cc)
take_on (x ∷ xs) zero n e = ap (λ z. z ∷ []) (let k : x ≡ n = cc in k)
take_on (x ∷ xs) (suc i) n e = let k : suc i + 1 ≡ suc (i + 1) = omega arith in ap (λ (m : ℕ). take m (x ∷ xs)) k ∙ ap (λ z. x ∷ z) (take_on xs i n e)

pub drop_on : (xs : Path) (i : ℕ) (n : Name) → slice_get xs i ≡ Some n → drop i xs ≡ n ∷ drop (i + 1) xs
drop_on [] i n e = absurd (cc)
drop_on (x ∷ xs) zero n e = ap (λ z. z ∷ xs) (let k : x ≡ n = cc in k)
drop_on (x ∷ xs) (suc i) n e = let k : suc i + 1 ≡ suc (i + 1) = omega arith in drop_on xs i n e ∙ ap (λ (m : ℕ). n ∷ drop m (x ∷ xs)) (sym k)

take_drop : (i : ℕ) (xs : Path) → xs ≡ take i xs ++ drop i xs
take_drop zero xs = refl
take_drop (suc i) [] = refl
take_drop (suc i) (x ∷ xs) = ap (λ z. x ∷ z) (take_drop i xs)

pub take_whole : (i : ℕ) (xs : Path) → length xs ≤ i → take i xs ≡ xs
take_whole zero [] l = refl
take_whole zero (x ∷ xs) l = absurd (omega arith)
take_whole (suc i) [] l = refl
take_whole (suc i) (x ∷ xs) l = ap (λ z. x ∷ z) (take_whole i xs (omega arith))

drop_whole : (i : ℕ) (xs : Path) → length xs ≤ i → drop i xs ≡ []
drop_whole zero [] l = refl
drop_whole zero (x ∷ xs) l = absurd (omega arith)
drop_whole (suc i) [] l = refl
drop_whole (suc i) (x ∷ xs) l = drop_whole i xs (omega arith)

-- ---- the directories above

pub parents_on : (p : Path) (n : Name) → ancestor_paths (p ++ n ∷ []) ≡ ancestor_paths p ++ p ∷ []
parents_on [] n = refl
parents_on (x ∷ p) n = ap (λ z. [] ∷ map (λ q. x ∷ q) z) (parents_on p n) ∙ ap (λ z. [] ∷ z) (map-append (λ (q : Path). x ∷ q) (ancestor_paths p) (p ∷ []))

pub sum_on : (f : Path → ℕ) (p : Path) (n : Name) → sum_by f (ancestor_paths (p ++ n ∷ [])) ≡ sum_by f (ancestor_paths p) + f p
sum_on f p n = let a = ap (sum_by f) (parents_on p n) in let b = sum_by-append f (ancestor_paths p) (p ∷ []) in let c = sum_by-cons f p [] in omega (arith, a, b, c)

pub sum_more : (f : Path → ℕ) (p q : Path) → sum_by f (ancestor_paths p) ≤ sum_by f (ancestor_paths (p ++ q))
sum_more f p [] = let e = ap (λ z. sum_by f (ancestor_paths z)) (append-nil p) in omega (arith, e)
sum_more f p (n ∷ q) =
    let e = sum_on f p n in
    let r = sum_more f (p ++ n ∷ []) q in
    let s = ap (λ z. sum_by f (ancestor_paths z)) (append_assoc p (n ∷ []) q) in
    omega (arith, e, r, s)

-- ---- faults

fault_step : (t : Tree) (above : Path) (n : Name) (rest : Path) (name : Name)
    → parents_refusal t above (n ∷ (rest ++ name ∷ [])) ≡ option_or (directory_refusal (t (above ++ n ∷ []))) (parents_refusal t (above ++ n ∷ []) (rest ++ name ∷ []))
fault_step t above n [] name = refl
fault_step t above n (r ∷ rest) name = refl

-- a directory refuses nothing
pub directory_is : (t : KeptThread) (path : Path) (at : ℕ × ℕ) → IsDirectoryAtPath t.pairs path at → directory_refusal (disk_tree t.disk t.pairs path) ≡ None
directory_is t path at leads = go (slot_of_path t.pairs path) leads
  where
    by_struct : (f : Slot) (s : Struct) → struct_directory_address s ≡ Some at → directory_refusal (Some (struct_node (disk_list_bytes t.disk) (all_entries t.pairs) f.attributes s)) ≡ None
    by_struct f (Inline bytes) e = absurd (cc)
    by_struct f (Ctz head size) e = absurd (cc)
    by_struct f (Branch to) e = refl

    go : (o : Option Slot) → option_and_then (λ (f : Slot). struct_directory_address f.struct) o ≡ Some at → directory_refusal (option_map (λ (f : Slot). struct_node (disk_list_bytes t.disk) (all_entries t.pairs) f.attributes f.struct) o) ≡ None
    go None e = absurd (cc)
    go (Some f) e = by_struct f f.struct e

-- ---- on the way

-- the first i components of the path are directories, and the last of them begins with the pair of that number
pub record HasDescended (t now : KeptThread) (path : Path) (i first : ℕ) : Type 0 where
  pub begins : LeadsToPair t.pairs (take i path) first
  pub still : (name : Name) → parents_refusal (disk_tree t.disk t.pairs) [] (path ++ name ∷ []) ≡ parents_refusal (disk_tree t.disk t.pairs) (take i path) (drop i path ++ name ∷ [])
  pub few : read_count now.history ≤ read_count t.history + sum_by (directory_pair_count t.pairs) (ancestor_paths (take i path))

module _ (t now next : KeptThread) (path : Path) (i first : ℕ) (n : Name) (d : HasDescended t now path i first) (at : slice_get path i ≡ Some n) where
  pub refused_by : (name : Name) → parents_refusal (disk_tree t.disk t.pairs) [] (path ++ name ∷ [])
      ≡ option_or (directory_refusal (disk_tree t.disk t.pairs (take i path ++ n ∷ []))) (parents_refusal (disk_tree t.disk t.pairs) (take i path ++ n ∷ []) (drop (i + 1) path ++ name ∷ []))
  refused_by name = d.still name ∙ ap (λ z. parents_refusal (disk_tree t.disk t.pairs) (take i path) (z ++ name ∷ [])) (drop_on path i n at) ∙ fault_step (disk_tree t.disk t.pairs) (take i path) n (drop (i + 1) path) name

  pub stops_at : (refusal : Refusal) → directory_refusal (disk_tree t.disk t.pairs (take i path ++ n ∷ [])) ≡ Some refusal → (name : Name) → parents_refusal (disk_tree t.disk t.pairs) [] (path ++ name ∷ []) ≡ Some refusal
  stops_at refusal e name = refused_by name ∙ ap (λ o. option_or o (parents_refusal (disk_tree t.disk t.pairs) (take i path ++ n ∷ []) (drop (i + 1) path ++ name ∷ []))) e

  module _ (more : read_count next.history ≤ read_count now.history + directory_pair_count t.pairs (take i path)) where
    few_on : read_count next.history ≤ read_count t.history + sum_by (directory_pair_count t.pairs) (ancestor_paths (take (i + 1) path))
    few_on =
        let e = sum_on (directory_pair_count t.pairs) (take i path) n in
        let s = ap (λ z. sum_by (directory_pair_count t.pairs) (ancestor_paths z)) (take_on path i n at) in
        let f = d.few in
        omega (arith, e, s, f, more)

    pub few_whole : read_count next.history ≤ read_count t.history + sum_by (directory_pair_count t.pairs) (ancestor_paths path)
    few_whole =
        let m = sum_more (directory_pair_count t.pairs) (take (i + 1) path) (drop (i + 1) path) in
        let s = ap (λ z. sum_by (directory_pair_count t.pairs) (ancestor_paths z)) (take_drop (i + 1) path) in
        let f = few_on in
        omega (arith, m, s, f)

    pub descends_on : (further : ℕ) → LeadsToPair t.pairs (take i path ++ n ∷ []) further → HasDescended t next path (i + 1) further
    descends_on further on = record {
      begins = subst (λ p. LeadsToPair t.pairs p further) (sym (take_on path i n at)) on;
      still = λ name. refused_by name ∙ ap₂ (λ o p. option_or o (parents_refusal (disk_tree t.disk t.pairs) p (drop (i + 1) path ++ name ∷ []))) (directory_is t (take i path ++ n ∷ []) on.at on.leads) (sym (take_on path i n at));
      few = few_on;
    }

pub has_descended : (t now : KeptThread) (path : Path) (i first : ℕ) → HasDescended t now path i first → length path ≤ i → IsPathParent t path (parent.Directory first)
has_descended t now path i first d l = record {
  fault = λ name. d.still name ∙ ap (λ z. parents_refusal (disk_tree t.disk t.pairs) (take i path) (z ++ name ∷ [])) (drop_whole i path l);
  begins = subst (λ p. LeadsToPair t.pairs p first) (take_whole i path l) d.begins;
}

-- the name at an index
pub name_at : {A : Type 0} (f : A → Name) (xs : List A) (i : ℕ) (d : A) → i < length xs → slice_get (map f xs) i ≡ Some (f (slice_index_or xs i d))
name_at f [] i d l = absurd (omega arith)
name_at f (y ∷ xs) zero d l = refl
name_at f (y ∷ xs) (suc i) d l = name_at f xs i d (omega arith)

pub some_at : {A : Type 0} (f : A → Name) (xs : List A) (i : ℕ) → i < length xs → (n : Name) × (slice_get (map f xs) i ≡ Some n)
some_at f [] i l = absurd (omega arith)
some_at f (y ∷ xs) zero l = (f y, refl)
some_at f (y ∷ xs) (suc i) l = some_at f xs i (omega arith)

-- ---- after calls that only read

pub begins_same : (a b : KeptThread) → OnlyReadsThread a b → (path : Path) (first : ℕ) → LeadsToPair a.pairs path first → LeadsToPair b.pairs path first
begins_same a b r path first on = subst (λ ps. LeadsToPair ps path first) (sym r.pairs) on

pub enters_same : (a b : KeptThread) → OnlyReadsThread a b → (path : Path) (p : Parent) → IsParentAt b path p → IsParentAt a path p
enters_same a b r path (parent.Directory first) e = subst (λ ps. LeadsToPair ps path first) r.pairs e
enters_same a b r path parent.File e = ap₂ (λ d ps. directory_refusal (disk_tree d ps path)) (sym r.disk) (sym r.pairs) ∙ e
enters_same a b r path parent.Nothing e = ap₂ (λ d ps. directory_refusal (disk_tree d ps path)) (sym r.disk) (sym r.pairs) ∙ e

pub few_same : (a b : KeptThread) → IsAccepted a.disk a.pairs → OnlyReadsThread a b → (path : Path) (first : ℕ) → LeadsToPair a.pairs path first → joined_pair_count (drop first b.pairs) ≡ directory_pair_count a.pairs path
few_same a b ok r path first on = ap (λ ps. joined_pair_count (drop first ps)) r.pairs ∙ run_length_is a.disk a.pairs path on.at first ok on.leads on.begins

-- ---- the last name of a path

pub names_are : {A : Type 0} (f : A → Name) (xs above : List A) (x : A) → xs ≡ above ++ x ∷ [] → map f xs ≡ map f above ++ f x ∷ []
names_are f xs above x e = ap (map f) e ∙ map-append f above (x ∷ [])

pub sum_is : (f : Path → ℕ) (path above : Path) (n : Name) → path ≡ above ++ n ∷ [] → sum_by f (ancestor_paths path) ≡ sum_by f (ancestor_paths above) + f above
sum_is f path above n e = ap (λ p. sum_by f (ancestor_paths p)) e ∙ sum_on f above n

module _ (t : KeptThread) (path above : Path) (n : Name) (is : path ≡ above ++ n ∷ []) where
  pub leads_there : (found : PathLookup) → parents_refusal (disk_tree t.disk t.pairs) [] (above ++ n ∷ []) ≡ None → IsNameLookupResult t.disk.order t.pairs above n found → IsResultOfPath t path found
  leads_there (found.Directory parent slot first) e there = record { parents = ap (parents_refusal (disk_tree t.disk t.pairs) []) is ∙ e; there = record { above = above; name = n; is = is; there = there } }
  leads_there (found.File parent slot contents) e there = record { parents = ap (parents_refusal (disk_tree t.disk t.pairs) []) is ∙ e; there = record { above = above; name = n; is = is; there = there } }
  leads_there (found.Nothing parent place) e there = record { parents = ap (parents_refusal (disk_tree t.disk t.pairs) []) is ∙ e; there = record { above = above; name = n; is = is; there = there } }
  leads_there found.Root e there = absurd there
  leads_there found.ParentIsFile e there = absurd there
  leads_there found.ParentIsMissing e there = absurd there

  pub leads_past_file : IsPathParent t above parent.File → IsResultOfPath t path found.ParentIsFile
  leads_past_file d = record { parents = ap (parents_refusal (disk_tree t.disk t.pairs) []) is ∙ d.fault n; there = tt }

  pub leads_past_nothing : IsPathParent t above parent.Nothing → IsResultOfPath t path found.ParentIsMissing
  leads_past_nothing d = record { parents = ap (parents_refusal (disk_tree t.disk t.pairs) []) is ∙ d.fault n; there = tt }

pub looked_in : (t next : KeptThread) → OnlyReadsThread t next → (above : Path) (n : Name) (first : ℕ) (result : Result PathLookup Error) → LeadsToPair t.pairs above first
    → IfOk result (λ found. (above : Path) → LeadsToPair next.pairs above first → IsNameLookupResult next.disk.order next.pairs above n found) → (path : Path) → path ≡ above ++ n ∷ []
    → parents_refusal (disk_tree t.disk t.pairs) [] (above ++ n ∷ []) ≡ None → IfOk result (IsResultOfPath t path)
looked_in t next r above n first (Err e) on answer path is fault = tt
looked_in t next r above n first (Ok found) on answer path is fault =
    leads_there t path above n is found fault (subst₂ (λ (d : Disk) ps. IsNameLookupResult d.order ps above n found) r.disk r.pairs (answer above (begins_same t next r above first on)))

shows_there : (t : KeptThread) (moved : Option SlotPosition) (path : Path) (s : VisiblePathLookup) → parents_refusal (disk_tree t.disk t.pairs) [] path ≡ None → IsVisibleNameLookup t.pairs moved path s → IsVisibleLookupResult t moved path s
shows_there t moved path (shown.Directory spot first) e there = (e, there)
shows_there t moved path (shown.File spot contents) e there = (e, there)
shows_there t moved path shown.Nothing e there = (e, there)
shows_there t moved path shown.Root e there = absurd there
shows_there t moved path shown.ParentIsFile e there = absurd there
shows_there t moved path shown.ParentIsMissing e there = absurd there

pub showed_in : (t next : KeptThread) (moved : Option SlotPosition) → OnlyReadsThread t next → (above : Path) (n : Name) (first : ℕ) (result : Result VisiblePathLookup Error) → LeadsToPair t.pairs above first
    → IfOk result (λ s. (above : Path) → LeadsToPair next.pairs above first → IsVisibleNameLookup next.pairs moved (above ++ n ∷ []) s) → (path : Path) → path ≡ above ++ n ∷ []
    → parents_refusal (disk_tree t.disk t.pairs) [] (above ++ n ∷ []) ≡ None → IfOk result (IsVisibleLookupResult t moved path)
showed_in t next moved r above n first (Err e) on answer path is fault = tt
showed_in t next moved r above n first (Ok s) on answer path is fault =
    subst (λ p. IsVisibleLookupResult t moved p s) (sym is) (shows_there t moved (above ++ n ∷ []) s fault (subst (λ ps. IsVisibleNameLookup ps moved (above ++ n ∷ []) s) r.pairs (answer above (begins_same t next r above first on))))

pub hiding_same : (a b : KeptThread) (moved : Option SlotPosition) → OnlyReadsThread a b → HidesMovedSlot a moved → HidesMovedSlot b moved
hiding_same a b moved r h = record {
  accepted = subst (λ d. IsAccepted d b.pairs) (sym r.disk) (subst (IsAccepted a.disk) (sym r.pairs) h.accepted);
  hides = subst (λ ps. IsOnlyMovedSlot (pairs_gstate ps) moved 0 ps) (sym r.pairs) h.hides;
}
