-- The look-ups of a rename's two paths.
use Rattle.std.proofs.Common.{ℕ, ◌≡◌, ◌≤◌, ◌+◌, ◌∙◌, ◌++◌, List, [], ◌∷◌, Option, Some, None, Result, Ok, Err, sym, ap, subst, arith}
use Rattle.std.specs.Prelude.{IfOk, IfSome, sum_by}
use Rattle.lfs_tree.proofs.Common.{sum_by-append, sum_by-cons, Disk, directory_pair_count, ancestor_paths, CallEvent, read_count, Name, slot_of_path, zero_gstate, Pair, pairs_gstate, Path, IsAccepted, disk_tree, KeptThread, ThreadView, OnlyReadsThread, LeadsToPair, IsSlotOfChild, IsResultOfPath, AreRenameResults, rename_parents, TreeState, kept_thread}
use Rattle.lfs_device.specs.declared.error.Error.{Error}
use Rattle.lfs_lookup.specs.AtPath.{IsLookupResult}
use Rattle.lfs_lookup.specs.LookupPaths.{IsVisibleSlot, IsVisibleLookupResult}
use Rattle.lfs_lookup.specs.declared.paths.PathLookup.{PathLookup}
use Rattle.lfs_lookup.specs.declared.paths.PathLookup.TheVariants as found
use Rattle.lfs_lookup.specs.declared.paths.VisiblePathLookup.{VisiblePathLookup}
use Rattle.lfs_lookup.specs.declared.search.SlotPosition.{SlotPosition}
use Rattle.lfs_lookup.proofs.Entered.{hiding_none}
use Rattle.lfs_tree.specs.RenameLookup.{lookup_without_parent}
use Rattle.lfs_tree.specs.declared.rename_paths.RenameLookup.{RenameLookup}
use Rattle.lfs_tree.specs.declared.rename_paths.RenameTargets.{RenameTargets}
use Rattle.lfs_tree.proofs.Carried.{read_is, with_history}

-- ---- the results of the look-ups, after reads

leads_on : (t : KeptThread) (h : List CallEvent) (path : Path) (f : PathLookup) → IsResultOfPath t path f → IsResultOfPath (with_history t h) path f
leads_on t h path found.Root l = record { parents = l.parents; there = l.there }
leads_on t h path found.ParentIsFile l = record { parents = l.parents; there = l.there }
leads_on t h path found.ParentIsMissing l = record { parents = l.parents; there = l.there }
leads_on t h path (found.Nothing parent place) l = record { parents = l.parents; there = l.there }
leads_on t h path (found.Directory parent slot first) l = record { parents = l.parents; there = l.there }
leads_on t h path (found.File parent slot contents) l = record { parents = l.parents; there = l.there }

pub leads_since : (a b : KeptThread) (path : Path) (f : PathLookup) → OnlyReadsThread a b → IsResultOfPath a path f → IsResultOfPath b path f
leads_since a b path f only l = subst (λ z. IsResultOfPath z path f) (sym (read_is a b only)) (leads_on a b.history path f l)

targets_since : (a b : KeptThread) (from to : Path) (r : RenameTargets) → OnlyReadsThread a b → AreRenameResults a from to r → AreRenameResults b from to r
targets_since a b from to r only k = record {
  settled = ap pairs_gstate only.pairs ∙ k.settled;
  entry = leads_since a b from r.entry only k.entry;
  target = leads_since a b to r.target only k.target;
}

-- the tree stays
pub same_tree : (a b : KeptThread) → OnlyReadsThread a b → disk_tree b.disk b.pairs ≡ disk_tree a.disk a.pairs
same_tree a b only = ap (λ (d : Disk). disk_tree d b.pairs) only.disk ∙ ap (λ (ps : List Pair). disk_tree a.disk ps) only.pairs

-- so do those of what was found, if they are known
pub found_since : (a b : KeptThread) (from to : Path) (r : Result RenameLookup Error) → OnlyReadsThread a b → IfOk r (λ found. IfSome found.targets (AreRenameResults a from to)) → IfOk r (λ found. IfSome found.targets (AreRenameResults b from to))
found_since a b from to (Err e) only k = tt
found_since a b from to (Ok x) only k = go x.targets k
  where
    go : (o : Option RenameTargets) → IfSome o (AreRenameResults a from to) → IfSome o (AreRenameResults b from to)
    go None k = tt
    go (Some x) k = targets_since a b from to x only k

-- a recovery before it did nothing
pub known_behind : (old mid : TreeState) (t : ThreadView) (from to : Path) (o : Option RenameTargets) → (pairs_gstate old.pairs ≡ zero_gstate → mid ≡ old) → t.kept ≡ kept_thread mid → IfSome o (AreRenameResults (kept_thread old) from to) → IfSome o (AreRenameResults t.kept from to)
known_behind old mid t from to None idle is k = tt
known_behind old mid t from to (Some x) idle is k = subst (λ z. AreRenameResults z from to x) (sym (is ∙ ap kept_thread (idle k.settled))) k

-- ---- the entries at the paths

-- no slot counts as deleted
not_deleted : (id : ℕ) → ◌≡◌ {A = Option ℕ} None (Some id) → ⊥
not_deleted id k = absurd (cc)

abbrev spot_of_shown_entry : (ps : List Pair) (path above : Path) (name : Name) (parent : ℕ) (slot : SlotPosition) → path ≡ above ++ name ∷ [] → IsSlotOfChild ps above name parent slot → IsVisibleSlot ps None path slot
spot_of_shown_entry ps path above name parent slot e s = record {
  above = above;
  name = name;
  is = e;
  first = parent;
  on = s.on;
  stands = s.stands;
  kept = λ k. not_deleted slot.id k;
  slot = ap (slot_of_path ps) e ∙ s.slot;
}

shows_to : (t : KeptThread) (path : Path) (f : PathLookup) → IsResultOfPath t path f → IsVisibleLookupResult t None path (lookup_without_parent f)
shows_to t path found.Root l = l.there
shows_to t path found.ParentIsFile l = l.parents
shows_to t path found.ParentIsMissing l = l.parents
shows_to t path (found.Nothing parent place) l = (l.parents, ap (slot_of_path t.pairs) l.there.is ∙ l.there.there.nothing)
shows_to t path (found.Directory parent slot first) l =
    (l.parents, (spot_of_shown_entry t.pairs path l.there.above l.there.name parent slot l.there.is l.there.there.0, subst (λ (p : Path). LeadsToPair t.pairs p first) (sym l.there.is) l.there.there.1))
shows_to t path (found.File parent slot contents) l = (l.parents, (spot_of_shown_entry t.pairs path l.there.above l.there.name parent slot l.there.is l.there.there.0, l.there.there.1))

pub shows_found : (t : KeptThread) (path : Path) (f : PathLookup) (s : VisiblePathLookup) → IsAccepted t.disk t.pairs → pairs_gstate t.pairs ≡ zero_gstate → IsResultOfPath t path f → s ≡ lookup_without_parent f → IsLookupResult t path s
shows_found t path f s ok settled l is =
    subst (λ z. IsLookupResult t path z) (sym is) (record { moved = None; hides = (hiding_none t (record { accepted = ok; settled = settled })).hides; shows = shows_to t path f l })

-- ---- how many reads they make

pub sum_of_rename : (f : Path → ℕ) (from to : Path) → sum_by f (rename_parents from to) ≡ sum_by f (ancestor_paths from) + (sum_by f (ancestor_paths from) + (sum_by f (ancestor_paths to) + f to))
sum_of_rename f from to =
    let a = sum_by-append f (ancestor_paths from) (ancestor_paths from ++ (ancestor_paths to ++ to ∷ [])) in
    let b = sum_by-append f (ancestor_paths from) (ancestor_paths to ++ to ∷ []) in
    let c = sum_by-append f (ancestor_paths to) (to ∷ []) in
    let d = sum_by-cons f to [] in
    omega (arith, a, b, c, d)

pub few_since : (a b : KeptThread) (paths : List Path) (n : ℕ) → OnlyReadsThread a b → n ≤ read_count b.history + sum_by (directory_pair_count b.pairs) paths → n ≤ read_count b.history + sum_by (directory_pair_count a.pairs) paths
few_since a b paths n only h = subst (λ (ps : List Pair). n ≤ read_count b.history + sum_by (directory_pair_count ps) paths) only.pairs h

pub own_since : (a b : KeptThread) (path : Path) (n : ℕ) → OnlyReadsThread a b → n ≤ read_count b.history + directory_pair_count b.pairs path → n ≤ read_count b.history + directory_pair_count a.pairs path
own_since a b path n only h = subst (λ (ps : List Pair). n ≤ read_count b.history + directory_pair_count ps path) only.pairs h
