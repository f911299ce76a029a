-- An entry at a path that is removed.
use Rattle.std.proofs.Common.{ℕ, ◌≡◌, ◌≤◌, ◌-◌, ◌∙◌, ◌++◌, true, false, List, [], ◌∷◌, length, Some, None, ◌⊎◌, inl, Result, Ok, Err, refl, sym, ap, subst, arith}
use Rattle.std.specs.Prelude.{nat_lt, IfErr, OnOk, is_err}
use Rattle.lfs_tree.proofs.Common.{option_and_then, ltb-false, length-map, same_Some, slice_get_within, AreByteBlocks, ChangesOnlyMap, ThreadReportsFaults, directory_names, tree_removing, Disk, CallEvent, OnlyReadsSince, fault_count, Slot, Struct, Inline, Ctz, Branch, path_or_root, Pair, count_before_root, addresses_blocks, Path, Tree, struct_directory_address, IsDirectoryAtPath, all_entries, disk_tree, used_blocks, Contains-occurrence_count, occurrence_count-Contains, CompletesOperation, no_move_from, HasSameBlocksInFlight, IsRecoveredWritableImage, IsWritableBeforeMapUpdate, removal_written_address, CanRemoveDirectory, IsDirectoryRemoved, KeptThread, ThreadView, ChangesThreadBlocks, thread_pair, WritesThreadAndFree, CanRemoveEntry, tree_after_call, AppliesBeforeRelocation, HasAppliedCall, CanChangeRecovered, AppliesOrFails, KeepsBlocksOutsideOperation, HasSoundImage, PowerLossLeavesEither, HasPathEntry, IsSlotOfPath, is_entry_found, IsStorageOfStruct, CanRemoveFound, HasRemovedEntry, RemovalKeepsUnrelatedBlocks, uncached_state, IsResultOfPath, IsSlotOfChild, directory_at_path}
use Rattle.lfs_device.specs.declared.error.Error.{Error}
use Rattle.lfs_device.specs.declared.error.Error.TheVariants.{Io, NoMemory}
use Rattle.lfs_model.proofs.Orders.{length_in_order}
use Rattle.lfs_model.specs.declared.order.NameOrder.TheVariants.{ShorterFirst}
use Rattle.lfs_model.specs.session.Operations as ops
use Rattle.lfs_model.specs.tree.Tree.{names_at}
use Rattle.lfs_operations.specs.Removing.{IsFileRemoved, ReportsCommit}
use Rattle.lfs_operations.specs.Unlinking.{ReportsCommits}
use Rattle.lfs_tree.specs.TreeCalls as call
use Rattle.lfs_tree.specs.Removals.{IsFoundAt}
use Rattle.lfs_lookup.specs.declared.entry.FileStorage.{FileStorage}
use Rattle.lfs_lookup.specs.declared.entry.FileStorage.TheVariants as contents
use Rattle.lfs_lookup.specs.declared.paths.PathLookup.{PathLookup}
use Rattle.lfs_lookup.specs.declared.paths.PathLookup.TheVariants as found
use Rattle.lfs_lookup.specs.declared.search.SlotPosition.{SlotPosition}
use Rattle.lfs_tree.proofs.Carried.{among_one, behind_below, carried, with_history}
use Rattle.lfs_tree.proofs.CarryEdited.{can_edit, slot_found}
use Rattle.lfs_tree.proofs.CarryFreed.{shape_geometry, written_pairs}
use Rattle.lfs_tree.proofs.CarrySurvives.{survives_behind, survives_left}
use Rattle.lfs_tree.proofs.ReportedFaults.{ReportsFaultsSince}
use Rattle.lfs_tree.proofs.Operated.{changed, does_remove, quiet_reported, remove_stands}
use Rattle.lfs_tree.proofs.EmptyDirectories.{at_there, bare_there}

-- ---- what is found

pub entry_on : (t : KeptThread) (path : Path) (f : PathLookup) → HasPathEntry (disk_tree t.disk t.pairs) path → IsResultOfPath t path f → IsFoundAt t.disk.order t.pairs path f
entry_on t path f v l = go f l (slot_found t path f v l)
  where
    go : (f : PathLookup) → IsResultOfPath t path f → is_entry_found f ≡ true → IsFoundAt t.disk.order t.pairs path f
    go found.Root l e = absurd (cc)
    go found.ParentIsFile l e = absurd (cc)
    go found.ParentIsMissing l e = absurd (cc)
    go (found.Nothing parent place) l e = absurd (cc)
    go (found.Directory parent slot first) l e = record { ends = l.there; has = e }
    go (found.File parent slot contents) l e = record { ends = l.there; has = e }

pub entry_to_remove : (t : KeptThread) (path : Path) → CanRemoveEntry (uncached_state t true false) path → HasPathEntry (disk_tree t.disk t.pairs) path
entry_to_remove t path can = record { entry = can.entry; parents = can.parents; something = can.something }

file_branch : (c : FileStorage) (s : Struct) → IsStorageOfStruct c s → struct_directory_address s ≡ None
file_branch (contents.Inline len) s h = ap struct_directory_address h.1.0
file_branch (contents.List head size) s h = ap struct_directory_address h

pub branch_is : (s : Struct) (to : ℕ × ℕ) → struct_directory_address s ≡ Some to → s ≡ Branch to
branch_is (Inline bytes) to e = absurd (cc)
branch_is (Ctz head size) to e = absurd (cc)
branch_is (Branch at) to e = ap Branch (same_Some at to e)

-- ---- what may go

-- a directory without names has no entries
pub none_entered : (t : KeptThread) (path : Path) → nat_lt 0 (length (directory_names (disk_tree t.disk t.pairs path))) ≡ false → (at : ℕ × ℕ) → IsDirectoryAtPath t.pairs path at → all_entries t.pairs at ≡ []
none_entered t path bare at leads =
    let d = directory_at_path t.disk t.pairs path at leads in
    let none = ltb-false 0 (length (directory_names (disk_tree t.disk t.pairs path))) bare in
    let e = ap (λ o. length (directory_names o)) d.is in
    let l = length_in_order ShorterFirst (names_at (all_entries t.pairs) at) ∙ length-map (all_entries t.pairs at) (λ (s : Slot). s.name) in
    empty (all_entries t.pairs at) (omega arith)
  where
    empty : (xs : List Slot) → length xs ≤ 0 → xs ≡ []
    empty [] l = refl
    empty (x ∷ xs) l = absurd (omega arith)

module _ (t : ThreadView) (root : ℕ) (rests : CanChangeRecovered t root) (path : Path) (large : 1024 ≤ t.kept.disk.block_size) (bytes : AreByteBlocks t.kept.disk.blocks) (can : CanRemoveEntry (uncached_state t.kept true false) path) (h : List CallEvent) where
  no_entries : (at : ℕ × ℕ) → IsDirectoryAtPath t.kept.pairs path at → all_entries t.kept.pairs at ≡ []
  no_entries at leads = none_entered t.kept path can.empty at leads

  slot_on : (parent : ℕ) (slot : SlotPosition) (ends_above : Path) (name : List ℕ) → path ≡ ends_above ++ name ∷ [] → IsSlotOfChild t.kept.pairs ends_above name parent slot → IsSlotOfPath t.kept.pairs path slot
  slot_on parent slot above name is stands = record { above = above; name = name; first = parent; is = is; stands = stands }

  pub can_go : (f : PathLookup) → IsFoundAt t.kept.disk.order t.kept.pairs path f → CanRemoveFound (with_history t.kept h) path f
  unfolding can_edit slot_on
  can_go found.Root on = absurd (let e = on.has in cc)
  can_go found.ParentIsFile on = absurd (let e = on.has in cc)
  can_go found.ParentIsMissing on = absurd (let e = on.has in cc)
  can_go (found.Nothing parent place) on = absurd (let e = on.has in cc)
  can_go (found.File parent slot contents) on =
      let there = on.ends.there in
      record {
        take = record {
          can = can_edit t root rests path large bytes slot (slot_on parent slot on.ends.above on.ends.name on.ends.is there.0) h;
          file = file_branch contents there.0.stands.stands.slot.struct there.1;
          begins = refl;
        };
        is = on.ends.is;
        shows = there.1;
      }
  can_go (found.Directory parent slot first) on =
      let there = on.ends.there in
      let led : IsDirectoryAtPath t.kept.pairs (on.ends.above ++ on.ends.name ∷ []) there.1.at = there.1.leads in
      let bare = bare_there t.kept.disk t.kept.pairs on.ends.above on.ends.name there.1.at first rests.held.sound.accepted (rests.held.sound.fits refl) (no_move_from t.kept.pairs rests.settled) there.1.leads there.1.begins
      (no_entries there.1.at (subst (λ p. IsDirectoryAtPath t.kept.pairs p there.1.at) (sym on.ends.is) there.1.leads)) in
      record {
        take = record {
          can = can_edit t root rests path large bytes slot (slot_on parent slot on.ends.above on.ends.name on.ends.is there.0) h;
          begins = refl;
          to = there.1.at;
          branch = branch_is there.0.stands.stands.slot.struct there.1.at (sym (ap (option_and_then (λ (f : Slot). struct_directory_address f.struct)) there.0.slot) ∙ there.1.leads);
          below = slice_get_within t.kept.pairs first there.1.begins.pair there.1.begins.there;
          at = at_there t.kept.pairs there.1.at first there.1.begins;
          empty = bare.empty;
          alone = bare.alone;
        };
        is = on.ends.is;
      }

-- ---- the result

ready_from : (t : KeptThread) → IsWritableBeforeMapUpdate t [] [] → IsRecoveredWritableImage t
ready_from t r = record {
  accepted = r.accepted;
  writable = r.writable;
  settled = r.settled;
  used = λ b. (
    (λ h. Contains-occurrence_count (used_blocks t.disk t.pairs) b (let k = occurrence_count-Contains r.used.owned b ((r.used.are b).0 h) in let e = r.used.same b in omega arith)),
    (λ h. (r.used.are b).1 (Contains-occurrence_count r.used.owned b (let k = occurrence_count-Contains (used_blocks t.disk t.pairs) b h in let e = r.used.same b in omega arith))),
  );
  size = r.size;
  large = r.large;
}

pub directory_gone : (old new : KeptThread) (path above : Path) (name : List ℕ) → path ≡ above ++ name ∷ [] → IsDirectoryRemoved old new above name → HasRemovedEntry old path new
directory_gone old new path above name e is = record {
  ready = ready_from new is.now.ready;
  flying = is.now.flying;
  root = is.now.root;
  completed = λ s given tree given_is. is.completed s given tree (given_is ∙ e);
}

-- a file, whose list is freed afterwards
pub file_gone : (old mid new : KeptThread) (path above : Path) (name : List ℕ) (struct : Struct) → path ≡ above ++ name ∷ [] → IsFileRemoved old mid above name struct → ChangesOnlyMap mid new → IsRecoveredWritableImage new → HasSameBlocksInFlight mid.map new.map → HasRemovedEntry old path new
file_gone old mid new path above name struct e is only ready flying = record {
  ready = ready;
  flying = λ b. ((λ flies. (is.now.flying b).0 ((flying b).0 flies)), (λ flies. (flying b).1 ((is.now.flying b).1 flies)));
  root = ap count_before_root only.pairs ∙ is.now.root;
  completed = λ s given tree given_is. subst (λ (d : Disk). CompletesOperation old.disk old.pairs s (ops.Remove given) d new.pairs) (sym only.disk)
      (subst (λ (ps : List Pair). CompletesOperation old.disk old.pairs s (ops.Remove given) mid.disk ps) (sym only.pairs) (is.completed s given tree (given_is ∙ e)));
}

pub directory_writes : (old new : KeptThread) (pair id first gone : ℕ) → CanRemoveDirectory old pair id first gone → ChangesThreadBlocks (addresses_blocks (removal_written_address old pair first) (thread_pair old (gone - 1)).at) old new → WritesThreadAndFree old new
directory_writes old new pair id first gone take w = record {
  blocks = addresses_blocks (removal_written_address old pair first) (thread_pair old (gone - 1)).at;
  each = (
      let k = written_pairs old pair first (behind_below old.pairs take.can.first pair take.can.stands.pair take.can.stands.rest take.can.stands.place) in
      let b = take.below in
      (inl k.0, (inl k.1, among_one old (gone - 1) [] (omega arith) tt))
      );
  writes = w;
}

module _ (t : ThreadView) (root : ℕ) (rests : CanChangeRecovered t root) (path : Path) (h : List CallEvent) (c : KeptThread) (reads : OnlyReadsSince t.kept.disk.blocks t.kept.history h) (w : WritesThreadAndFree (with_history t.kept h) c) where
  removed_at : (given : List ℕ) → HasRemovedEntry (with_history t.kept h) path c → fault_count c.history ≡ fault_count t.kept.history → path_or_root given ≡ path → AppliesBeforeRelocation t.kept (ops.Remove given) c
  removed_at given g quiet e = carried t.kept h (ops.Remove given) c
      (record {
        accepted = rests.held.sound.accepted;
        used = rests.held.sound.used;
        writable = rests.held.sound.fits refl;
        settled = rests.settled;
        reads = reads;
        ready = g.ready;
        stay = λ b flies. (g.flying b).1 flies;
        none_comes = λ b flies. (g.flying b).0 flies;
        completed = λ files. g.completed (record { tree = disk_tree t.kept.disk t.kept.pairs; files = files }) given refl e;
        writes = w;
        no_fault = quiet;
      }) refl refl

-- ---- errors

same_err : {X : Type 0} (a b : Error) (r : Result X Error) → r ≡ Err a → r ≡ Err b → a ≡ b
same_err a b r h k = cc

-- an error of one call that is passed on
pub steps_from : {X Y : Type 0} (old new : ThreadView) (e : Error) (result : Result X Error) (given : Result Y Error) → result ≡ Err e → given ≡ Err e → ReportsCommit old new result → ReportsCommits old new given
steps_from {X} {Y} old new e result given is same t = record {
  failed = t.failed ∙ ap is_err is ∙ sym (ap is_err same);
  errors = subst (λ (r : Result Y Error). IfErr r (λ x. (x ≡ Io) ⊎ (x ≡ NoMemory))) (sym same) (subst (λ (r : Result X Error). IfErr r (λ x. (x ≡ Io) ⊎ (x ≡ NoMemory))) is t.reported.errors);
  fault = λ io. t.reported.fault (is ∙ ap Err (same_err e Io given same io));
  no_fault = λ other. t.reported.no_fault (λ io. other (same ∙ ap Err (same_err e Io result is io)));
}

-- a call that answered, and another
pub steps_both : {X Y : Type 0} (old mid new : ThreadView) (x : X) (result : Result X Error) (given : Result Y Error) → result ≡ Ok x → ReportsCommit old mid result → new.failed ≡ is_err given → ThreadReportsFaults mid.kept new.kept given → ReportsCommits old new given
steps_both old mid new x result given is t failed w =
    let same = t.reported.no_fault (λ io. let z = sym is ∙ io in absurd (cc)) in
    record {
      failed = failed;
      errors = w.errors;
      fault = λ io. let k = w.fault io in omega (arith, k, same);
      no_fault = λ other. w.no_fault other ∙ same;
    }

-- ---- a power loss on the way

-- an entry of a path
pub removal_survives : (old new : KeptThread) (path above : Path) (name : List ℕ) → path ≡ above ++ name ∷ [] → PowerLossLeavesEither old new (tree_removing (above ++ name ∷ []) (disk_tree old.disk old.pairs)) → PowerLossLeavesEither old new (tree_removing path (disk_tree old.disk old.pairs))
removal_survives old new path above name e k = subst (λ p. PowerLossLeavesEither old new (tree_removing p (disk_tree old.disk old.pairs))) (sym e) k

-- a file, whose list is freed afterwards
pub freeing_survives : (old mid new : KeptThread) (path above : Path) (name : List ℕ) (struct : Struct) (bs : List ℕ) → path ≡ above ++ name ∷ [] → ChangesThreadBlocks bs old mid → IsFileRemoved old mid above name struct → ChangesOnlyMap mid new
    → PowerLossLeavesEither old mid (tree_removing (above ++ name ∷ []) (disk_tree old.disk old.pairs)) → PowerLossLeavesEither old new (tree_removing path (disk_tree old.disk old.pairs))
freeing_survives old mid new path above name struct bs e w is only k =
    survives_left old mid new.history (tree_removing path (disk_tree old.disk old.pairs)) (shape_geometry old mid w.shape) w.at_worst is.now.ready.accepted is.now.ready.writable
    (is.now.shows ∙ ap (λ p. tree_removing p (disk_tree old.disk old.pairs)) (sym e)) only.reads (removal_survives old mid path above name e k)

-- ---- all that is said of it

module _ (t : ThreadView) (root : ℕ) (rests : CanChangeRecovered t root) (path : Path) (h : List CallEvent) (new : ThreadView) (reads : OnlyReadsSince t.kept.disk.blocks t.kept.history h) (w : WritesThreadAndFree (with_history t.kept h) new.kept) where
  abbrev before : Tree
  before = disk_tree t.kept.disk t.kept.pairs

  pub remove_does : (r : Result (Unit {0}) Error) (given : List ℕ) → path_or_root given ≡ path → fault_count h ≡ fault_count t.kept.history → OnOk r (HasRemovedEntry (with_history t.kept h) path new.kept) → OnOk r (RemovalKeepsUnrelatedBlocks (with_history t.kept h) path new.kept)
      → ReportsFaultsSince h new.kept.history r → OnOk r (new.failed ≡ false) → PowerLossLeavesEither (with_history t.kept h) new.kept (tree_removing path before) → AppliesOrFails t (call.Remove path) r new
  remove_does r given named quiet gone spared reported works survives =
      changed t new (HasAppliedCall t.kept (call.Remove path)) (tree_after_call (call.Remove path) before) h w.blocks r quiet reads w.writes reported works (go r gone spared (quiet_reported t.kept new.kept h r quiet reported))
      (survives_behind t root rests h new.kept w.blocks (tree_removing path before) reads w.writes survives)
    where
      go : (r : Result (Unit {0}) Error) → OnOk r (HasRemovedEntry (with_history t.kept h) path new.kept) → OnOk r (RemovalKeepsUnrelatedBlocks (with_history t.kept h) path new.kept) → OnOk r (fault_count new.kept.history ≡ fault_count t.kept.history)
          → OnOk r (HasAppliedCall t.kept (call.Remove path) new.kept × HasSoundImage t.kept (tree_after_call (call.Remove path) before) new.kept)
      go (Err e) gone spared same = tt
      go (Ok x) gone spared same = (
        record {
          carries = does_remove (λ op. AppliesBeforeRelocation t.kept op new.kept) path (λ given e. removed_at t root rests path h new.kept reads w given gone same e);
          spares = does_remove (λ op. KeepsBlocksOutsideOperation t.kept op new.kept) path (λ given e none files. spared (record { tree = disk_tree t.kept.disk t.kept.pairs; files = files }) given e);
        },
        remove_stands t.kept new.kept path given named (removed_at t root rests path h new.kept reads w given gone same named) gone.root,
      )
