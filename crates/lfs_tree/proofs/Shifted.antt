-- An entry that gets another path: what is found for it, and what may be done.
use Rattle.std.proofs.Common.{ℕ, ◌≡◌, ◌≤◌, ◌∙◌, ◌&&◌, ◌++◌, not, Bool, true, false, List, [], ◌∷◌, Option, Some, None, Result, Ok, Err, refl, sym, ap, ap₂, subst}
use Rattle.std.specs.Prelude.{OnOk, is_some}
use Rattle.lfs_tree.proofs.Common.{list_all, option_and_then, ltb-false, slice_get_within, AreByteBlocks, last_name, tree_renaming, without_prefix, same_path, half_pair_capacity, CallEvent, OnlyReadsSince, fault_count, IsInsertionPosition, Name, is_component, is_valid_name, Slot, reserved_entry_size, path_or_root, is_root_path, Pair, pairs_gstate, count_before_root, Path, Tree, struct_directory_address, IsDirectoryAtPath, disk_tree, no_move_from, last_is, KeptThread, ThreadView, OnlyReadsThread, WritesThreadAndFree, CanRenamePath, tree_after_call, AppliesBeforeRelocation, HasAppliedCall, CanChangeRecovered, AppliesOrFails, IsLookupWithName, KeepsBlocksOutsideOperation, HasSoundImage, PowerLossLeavesEither, HasPathEntry, uncached_state, tree_summary, LeadsToPair, IsResultOfPath, IsSlotOfChild, CanMoveEntry, CanMoveOntoFound, CanMoveOntoFile, CanMoveOntoDirectory, CanMoveEntryTo, IsStorageOfStruct, Struct, struct_blocks, HasMovedEntry, WorksOrReportsIo, HasRead}
use Rattle.lfs_device.specs.declared.error.Error.{Error}
use Rattle.lfs_model.specs.session.TreeEdits.{is_beneath}
use Rattle.lfs_model.specs.session.Operations as ops
use Rattle.lfs_model.specs.tree.Profile.{IsWritableEntry}
use Rattle.lfs_tree.specs.TreeCalls as call
use Rattle.lfs_tree.specs.MovedEntries.{IsSourceAt, IsFoundSource}
use Rattle.lfs_tree.specs.declared.renames_at.RenameSource.{RenameSource}
use Rattle.lfs_lookup.specs.declared.entry.FileStorage.{FileStorage}
use Rattle.lfs_lookup.specs.declared.entry.FileStorage.TheVariants as shown
use Rattle.lfs_lookup.specs.declared.paths.PathLookup.{PathLookup}
use Rattle.lfs_lookup.specs.declared.paths.PathLookup.TheVariants as found
use Rattle.lfs_lookup.specs.declared.search.SlotPosition.{SlotPosition}
use Rattle.lfs_tree.proofs.Carried.{carried, read_is, with_history}
use Rattle.lfs_tree.proofs.CarryEdited.{attributes_are, can_edit, inline_fits}
use Rattle.lfs_tree.proofs.CarryGone.{branch_is, none_entered}
use Rattle.lfs_tree.proofs.CarryLogged.{logged_there}
use Rattle.lfs_tree.proofs.CarryRooms.{last_is_name, room_for}
use Rattle.lfs_tree.proofs.CarrySurvives.{survives_behind}
use Rattle.lfs_tree.proofs.ReportedFaults.{ReportsFaultsSince}
use Rattle.lfs_tree.proofs.Operated.{changed, does_rename, quiet_reported, rename_stands}
use Rattle.lfs_tree.proofs.EmptyDirectories.{at_there, bare_there}
use Rattle.lfs_tree.proofs.Mounting.{sound_read}

-- ---- what is found

source_is : (ps : List Pair) (path above : Path) (name : Name) (parent : ℕ) (slot : SlotPosition) (source : RenameSource) → path ≡ above ++ name ∷ [] → IsSlotOfChild ps above name parent slot → source ≡ record { slot = slot; first = parent } → IsSourceAt ps path source
source_is ps path above name parent slot source e s h =
    subst (IsSourceAt ps path) (sym h) (record { slot = record { above = above; name = name; first = parent; is = e; stands = s }; first_is = refl })

pub source_for : (t : KeptThread) (path : Path) (f : PathLookup) (source : RenameSource) → IsResultOfPath t path f → IsFoundSource f source → IsSourceAt t.pairs path source
source_for t path found.Root source l h = absurd h
source_for t path found.ParentIsFile source l h = absurd h
source_for t path found.ParentIsMissing source l h = absurd h
source_for t path (found.Nothing parent place) source l h = absurd h
source_for t path (found.Directory parent slot first) source l h = source_is t.pairs path l.there.above l.there.name parent slot source l.there.is l.there.there.0 h
source_for t path (found.File parent slot contents) source l h = source_is t.pairs path l.there.above l.there.name parent slot source l.there.is l.there.there.0 h

-- ---- what may be done

file_branch : (c : FileStorage) (s : Struct) → IsStorageOfStruct c s → struct_directory_address s ≡ None
file_branch (shown.Inline len) s h = ap struct_directory_address h.1.0
file_branch (shown.List head size) s h = ap struct_directory_address h

pub entry_to_rename : (t : KeptThread) (from to : Path) → CanRenamePath (uncached_state t true false) from to → HasPathEntry (disk_tree t.disk t.pairs) from
entry_to_rename t from to can = record { entry = can.entry; parents = can.parents; something = can.something }

-- what isn't beneath it, and is another path, doesn't begin with it
pub goes_elsewhere : (from to : Path) → is_beneath from to ≡ false → same_path from to ≡ false → without_prefix from to ≡ None
goes_elsewhere from to apart other = none (without_prefix from to) (sym (ap (λ b. is_some (without_prefix from to) && not b) other) ∙ apart)
  where
    none : (o : Option Path) → (is_some o && true) ≡ false → o ≡ None
    none None e = refl
    none (Some x) e = absurd (cc)

-- a check on another path
checked_apart : (same b : Bool) → same ≡ false → (not same && b) ≡ false → b ≡ false
checked_apart true b e f = absurd (cc)
checked_apart false b e f = f

module _ (t : ThreadView) (root : ℕ) (rests : CanChangeRecovered t root) (from to : Path) (components : list_all is_component to ≡ true) (large : 1024 ≤ t.kept.disk.block_size) (bytes : AreByteBlocks t.kept.disk.blocks)
    (can : CanRenamePath (uncached_state t.kept true false) from to) (other : same_path from to ≡ false) (source : RenameSource) (is : IsSourceAt t.kept.pairs from source) (h : List CallEvent) where
  pub elsewhere : without_prefix from to ≡ None
  elsewhere = goes_elsewhere from to can.apart other

  named : is_valid_name (last_name to) ≡ true
  named = last_is_name (tree_summary (uncached_state t.kept true false)) to (λ e. let k = sym can.target ∙ ap is_root_path e in absurd (cc)) components can.name

  pub fits_there : IsWritableEntry t.kept.disk.profile t.kept.disk.block_size t.kept.disk.page (record is.slot.stands.stands.stands.slot { name = last_name to })
  fits_there = record {
    charge = subst (λ a. reserved_entry_size t.kept.disk.profile t.kept.disk.block_size (last_name to) a ≤ half_pair_capacity t.kept.disk.block_size t.kept.disk.page) (attributes_are t root rests from large bytes source.slot is.slot h)
        (ltb-false _ _ (checked_apart (same_path from to) _ other can.fits));
    inline = inline_fits t root rests from large bytes source.slot is.slot h;
  }

  can_shift : (above : Path) (first : ℕ) (name : Name) → name ≡ last_name to → to ≡ above ++ name ∷ [] → LeadsToPair t.kept.pairs above first → CanMoveEntry (with_history t.kept h) from to source name
  unfolding can_edit
  can_shift above first name same e on = record {
    old = can_edit t root rests from large bytes source.slot is.slot h;
    old_is = is.slot.is;
    old_first = is.first_is;
    above = above;
    is = e;
    first = first;
    on = on;
    not_beneath = elsewhere;
    fits = subst (λ n. IsWritableEntry t.kept.disk.profile t.kept.disk.block_size t.kept.disk.page (record is.slot.stands.stands.stands.slot { name = n })) (sym same) fits_there;
    logged = λ at. logged_there t.kept.disk at bytes;
    room = room_for t.kept 2 rests.held.sound can.room;
  }

  pub shift_to : (parent : ℕ) (place : SlotPosition) (name : Name) → IsLookupWithName t.kept to (found.Nothing parent place) name → CanMoveEntryTo false (with_history t.kept h) from to source place name
  unfolding can_shift
  shift_to parent place name target =
      let there = target.leads.there in
      let same : name ≡ there.name = target.named ∙ ap last_name there.is ∙ last_is there.above there.name in
      record {
        can = can_shift there.above parent name target.named (there.is ∙ ap (λ n. there.above ++ n ∷ []) (sym same)) there.there.on;
        gone = [];
        target = record {
          belongs = subst (λ n. IsInsertionPosition t.kept.disk.order t.kept.pairs parent n place.pair place.id) (sym same) there.there.belongs;
          is_name = subst (λ n. is_valid_name n ≡ true) (sym target.named) named;
          none = refl;
        };
      }

  pub shift_onto : (parent : ℕ) (slot : SlotPosition) (contents : FileStorage) (name : Name) → IsLookupWithName t.kept to (found.File parent slot contents) name → CanMoveOntoFile (with_history t.kept h) from to source slot contents name
  unfolding can_shift
  shift_onto parent slot contents name target =
      let there = target.leads.there in
      let same : last_name to ≡ there.name = ap last_name there.is ∙ last_is there.above there.name in
      subst (λ n. CanMoveOntoFile (with_history t.kept h) from to source slot contents n) (sym (target.named ∙ same))
      (record {
        onto = record {
          can = can_shift there.above parent there.name (sym same) there.is there.there.0.on;
          gone = struct_blocks t.kept.disk there.there.0.stands.stands.slot.struct;
          target = record { there = there.there.0.stands; file = λ plain. file_branch contents there.there.0.stands.stands.slot.struct there.there.1; blocks = refl };
        };
        shows = there.there.1;
      })

  pub shift_over : (parent : ℕ) (slot : SlotPosition) (first : ℕ) (name : Name) → IsLookupWithName t.kept to (found.Directory parent slot first) name → CanMoveOntoDirectory (with_history t.kept h) from to source slot first name
  unfolding can_shift
  shift_over parent slot first name target =
      let there = target.leads.there in
      let stood = there.there.0 in
      let on = there.there.1 in
      let same : last_name to ≡ there.name = ap last_name there.is ∙ last_is there.above there.name in
      let none = none_entered t.kept to (checked_apart (same_path from to) _ other can.empty) on.at (subst (λ p. IsDirectoryAtPath t.kept.pairs p on.at) (sym there.is) on.leads) in
      let bare = bare_there t.kept.disk t.kept.pairs there.above there.name on.at first rests.held.sound.accepted (rests.held.sound.fits refl) (no_move_from t.kept.pairs rests.settled) on.leads on.begins none in
      subst (λ n. CanMoveOntoDirectory (with_history t.kept h) from to source slot first n) (sym (target.named ∙ same))
      (record {
        can = can_shift there.above parent there.name (sym same) there.is stood.on;
        target = stood.stands;
        at = on.at;
        branch = branch_is stood.stands.stands.slot.struct on.at (sym (ap (option_and_then (λ (s : Slot). struct_directory_address s.struct)) stood.slot) ∙ on.leads);
        below = slice_get_within t.kept.pairs first on.begins.pair on.begins.there;
        there = at_there t.kept.pairs on.at first on.begins;
        empty = bare.empty;
        alone = bare.alone;
      })

  pub shift_found : (f : PathLookup) (name : Name) → IsLookupWithName t.kept to f name → CanMoveOntoFound (with_history t.kept h) from to source f name
  shift_found found.Root name target = let k = sym can.target ∙ ap is_root_path target.leads.there in absurd (cc)
  shift_found found.ParentIsFile name target = let k = sym can.target_parents ∙ target.leads.parents in absurd (cc)
  shift_found found.ParentIsMissing name target = let k = sym can.target_parents ∙ target.leads.parents in absurd (cc)
  shift_found (found.Nothing parent place) name target = shift_to parent place name target
  shift_found (found.File parent slot contents) name target = shift_onto parent slot contents name target
  shift_found (found.Directory parent slot first) name target = shift_over parent slot first name target

-- ---- the result

module _ (t : ThreadView) (root : ℕ) (rests : CanChangeRecovered t root) (from to : Path) (other : same_path from to ≡ false) (h : List CallEvent) (c : KeptThread) (reads : OnlyReadsSince t.kept.disk.blocks t.kept.history h) (w : WritesThreadAndFree (with_history t.kept h) c) where
  shifted_at : (given to_given : List ℕ) → HasMovedEntry (with_history t.kept h) from to c → fault_count c.history ≡ fault_count t.kept.history → path_or_root given ≡ from → path_or_root to_given ≡ to → AppliesBeforeRelocation t.kept (ops.Rename given to_given) c
  shifted_at given to_given is quiet e f = carried t.kept h (ops.Rename given to_given) c
      (record {
        accepted = rests.held.sound.accepted;
        used = rests.held.sound.used;
        writable = rests.held.sound.fits refl;
        settled = rests.settled;
        reads = reads;
        ready = is.ready;
        stay = λ b flies. (is.flying b).1 flies;
        none_comes = λ b flies. (is.flying b).0 flies;
        completed = λ files. is.completed (record { tree = disk_tree t.kept.disk t.kept.pairs; files = files }) given to_given refl e f;
        writes = w;
        no_fault = quiet;
      }) (ap₂ same_path e f ∙ other) refl

module _ (t : ThreadView) (root : ℕ) (rests : CanChangeRecovered t root) (from to : Path) (other : same_path from to ≡ false) (h : List CallEvent) (new : ThreadView) (reads : OnlyReadsSince t.kept.disk.blocks t.kept.history h) (w : WritesThreadAndFree (with_history t.kept h) new.kept) where
  abbrev before : Tree
  before = disk_tree t.kept.disk t.kept.pairs

  -- all that is said of it
  pub rename_does : (r : Result (Unit {0}) Error) (given to_given : List ℕ) → path_or_root given ≡ from → path_or_root to_given ≡ to → fault_count h ≡ fault_count t.kept.history → OnOk r (HasMovedEntry (with_history t.kept h) from to new.kept)
      → ReportsFaultsSince h new.kept.history r → OnOk r (new.failed ≡ false) → PowerLossLeavesEither (with_history t.kept h) new.kept (tree_renaming from to before) → AppliesOrFails t (call.Rename from to) r new
  rename_does r given to_given named to_named quiet shifted reported works survives =
      changed t new (HasAppliedCall t.kept (call.Rename from to)) (tree_after_call (call.Rename from to) before) h w.blocks r quiet reads w.writes reported works (go r shifted (quiet_reported t.kept new.kept h r quiet reported))
      (survives_behind t root rests h new.kept w.blocks (tree_renaming from to before) reads w.writes survives)
    where
      go : (r : Result (Unit {0}) Error) → OnOk r (HasMovedEntry (with_history t.kept h) from to new.kept) → OnOk r (fault_count new.kept.history ≡ fault_count t.kept.history)
          → OnOk r (HasAppliedCall t.kept (call.Rename from to) new.kept × HasSoundImage t.kept (tree_after_call (call.Rename from to) before) new.kept)
      go (Err e) shifted same = tt
      go (Ok x) shifted same = (
        record {
          carries = does_rename (λ op. AppliesBeforeRelocation t.kept op new.kept) from to (λ given to_given e f. shifted_at t root rests from to other h new.kept reads w given to_given shifted same e f);
          spares = does_rename (λ op. KeepsBlocksOutsideOperation t.kept op new.kept) from to (λ given to_given e f none files. shifted.alone (record { tree = disk_tree t.kept.disk t.kept.pairs; files = files }) given to_given e f);
        },
        rename_stands t.kept new.kept from to given to_given named to_named (shifted_at t root rests from to other h new.kept reads w given to_given shifted same named to_named) shifted.root,
      )

pub rests_still : (t mid : ThreadView) (root : ℕ) → CanChangeRecovered t root → OnlyReadsThread t.kept mid.kept → mid.failed ≡ false → CanChangeRecovered mid root
rests_still t mid root rests only works = record {
  held = record {
    works = works;
    sound = sound_read t.kept mid.kept true false false only rests.held.sound;
    root_is = rests.held.root_is ∙ ap count_before_root (sym only.pairs);
  };
  settled = ap pairs_gstate only.pairs ∙ rests.settled;
}

-- a move after calls that only read
pub move_does : (t mid new : ThreadView) (root : ℕ) → CanChangeRecovered t root → (from to : Path) → same_path from to ≡ false → HasRead t mid → (given to_given : List ℕ) × (path_or_root given ≡ from) × (path_or_root to_given ≡ to) → (r : Result (Unit {0}) Error)
    → OnOk r (HasMovedEntry mid.kept from to new.kept) → WorksOrReportsIo mid new r → WritesThreadAndFree mid.kept new.kept → PowerLossLeavesEither mid.kept new.kept (tree_renaming from to (disk_tree mid.kept.disk mid.kept.pairs)) → AppliesOrFails t (call.Rename from to) r new
move_does t mid new root rests from to other read paths r shifted told w survives =
    let is = read_is t.kept mid.kept read.only in
    rename_does t root rests from to other mid.kept.history new read.only.reads (subst (λ k. WritesThreadAndFree k new.kept) is w) r paths.0 paths.1 paths.2 paths.3 read.same
    (subst (λ k. OnOk r (HasMovedEntry k from to new.kept)) is shifted) (record { errors = told.errors; fault = told.fault; no_fault = told.no_fault }) told.works
    (subst (λ k. PowerLossLeavesEither k new.kept (tree_renaming from to (disk_tree k.disk k.pairs))) is survives)

leads_back : (t : KeptThread) (h : List CallEvent) (path : Path) (f : PathLookup) → IsResultOfPath (with_history t h) path f → IsResultOfPath t path f
leads_back t h path found.Root l = record { parents = l.parents; there = l.there }
leads_back t h path found.ParentIsFile l = record { parents = l.parents; there = l.there }
leads_back t h path found.ParentIsMissing l = record { parents = l.parents; there = l.there }
leads_back t h path (found.Nothing parent place) l = record { parents = l.parents; there = l.there }
leads_back t h path (found.Directory parent slot first) l = record { parents = l.parents; there = l.there }
leads_back t h path (found.File parent slot contents) l = record { parents = l.parents; there = l.there }

-- the result of a look-up after calls that only read
pub target_back : (a b : KeptThread) (path : Path) (f : PathLookup) (name : Name) → OnlyReadsThread a b → IsLookupWithName b path f name → IsLookupWithName a path f name
target_back a b path f name only target =
    let k = subst (λ z. IsLookupWithName z path f name) (read_is a b only) target in
    record { leads = leads_back a b.history path f k.leads; named = k.named }
