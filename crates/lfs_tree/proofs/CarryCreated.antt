-- A new file or directory at a path.
use Rattle.std.proofs.Common.{ℕ, ◌≡◌, ◌≢◌, ◌≤◌, ◌∙◌, ◌++◌, inr, true, false, List, [], ◌∷◌, Result, Ok, Err, refl, sym, ap, subst, arith}
use Rattle.lfs_tree.proofs.Common.{list_all, ltb-false, same_Some, AreByteBlocks, KeepsUnrelatedBlocks, changed_paths, OpenFilesByNumber, Session, Pair, tree_creating, last_name, BlockStates, IsFree, IsInFlight, Free, InFlight, half_pair_capacity, CallEvent, OnlyReadsSince, fault_count, Name, is_component, is_valid_name, FlagsOfOpen, Operation, reserved_entry_size, path_or_root, Path, Tree, DirectoryNode, FileNode, disk_tree, each_weaker, last_is, here, WritesPairAndTwoFree, IsPairChangedOrDropped, CanCreateIn, IsFileCreated, tree_with_file, AreBothChangedOrDropped, CanMakeDirectoryAt, IsDirectoryMade, WritesPairsAndFourFree, tree_with_directory, IsRecoveredWritableImage, KeptThread, ThreadView, ChangesThreadBlocks, thread_pair, CanAddEntry, tree_after_call, AppliesBeforeRelocation, HasAppliedCall, CanChangeRecovered, AppliesOrFails, IsInsertionSlot, IsVacantPath, HasSoundImage, PowerLossLeavesEither, uncached_state, tree_summary}
use Rattle.lfs_device.specs.declared.error.Error.{Error}
use Rattle.lfs_model.specs.session.Operations as ops
use Rattle.lfs_operations.specs.Ready.{KeepsNonFreeStates}
use Rattle.lfs_tree.proofs.LeftAlone.{IsConcernedOrFree, concerned_alone, concerned_pair, rest_left_alone}
use Rattle.lfs_tree.specs.TreeCalls as call
use Rattle.lfs_lookup.specs.declared.search.SlotPosition.{SlotPosition}
use Rattle.lfs_tree.proofs.Carried.{among_one, among_two, behind_below, carried, with_history}
use Rattle.lfs_tree.proofs.CarryLogged.{logged_there}
use Rattle.lfs_tree.proofs.CarrySurvives.{survives_behind}
use Rattle.lfs_tree.proofs.CarryRooms.{last_is_name, room_for}
use Rattle.lfs_tree.proofs.ReportedFaults.{ReportsFaultsSince}
use Rattle.lfs_tree.proofs.Operated.{changed, create_stands, does_create, does_mkdir, mkdir_stands, quiet_reported}
use Rattle.std.specs.Prelude.{Contains, OnOk}

pub ready_to : (t : ThreadView) (root : ℕ) (h : List CallEvent) → CanChangeRecovered t root → 1024 ≤ t.kept.disk.block_size → IsRecoveredWritableImage (with_history t.kept h)
ready_to t root h rests large = record {
  accepted = rests.held.sound.accepted;
  writable = rests.held.sound.fits refl;
  settled = rests.settled;
  used = rests.held.sound.used;
  size = rests.held.sound.size;
  large = large;
}

pub vacant_to : (t : KeptThread) (path : Path) (need : ℕ) → CanAddEntry (uncached_state t true false) path need → IsVacantPath (disk_tree t.disk t.pairs) path
vacant_to t path need can = record { parents = can.parents; nothing = can.nothing }

pub stay_in_flight : (old new : BlockStates) → KeepsNonFreeStates old new → (b : ℕ) → IsInFlight old b → IsInFlight new b
stay_in_flight old new stays b flies = stays b (λ free. let k : InFlight ≡ Free = same_Some InFlight Free (sym flies ∙ free) in absurd (cc)) ∙ flies

any_flags : FlagsOfOpen
any_flags = record { read = false; write = true; create = true; exclusive = false; truncate = false; append = false; unknown = false }

module _ (t : ThreadView) (root : ℕ) (rests : CanChangeRecovered t root) (path : Path) (components : list_all is_component path ≡ true) (large : 1024 ≤ t.kept.disk.block_size) (bytes : AreByteBlocks t.kept.disk.blocks)
    (need : ℕ) (can : CanAddEntry (uncached_state t.kept true false) path need) (name : Name) (spot : SlotPosition) (place : IsInsertionSlot t.kept.disk.order t.kept.pairs path name spot) (h : List CallEvent) where
  name_is : last_name path ≡ name
  name_is = ap last_name place.is ∙ last_is place.above name

  has_some : path ≢ []
  has_some e = none place.above (sym e ∙ place.is)
    where
      none : (xs : Path) → [] ≡ xs ++ name ∷ [] → ⊥
      none [] k = absurd (cc)
      none (x ∷ xs) k = absurd (cc)

  named : is_valid_name name ≡ true
  named = subst (λ n. is_valid_name n ≡ true) name_is (last_is_name (tree_summary (uncached_state t.kept true false)) path has_some components can.name)

  fits : reserved_entry_size t.kept.disk.profile t.kept.disk.block_size name [] ≤ half_pair_capacity t.kept.disk.block_size t.kept.disk.page
  fits = subst (λ n. reserved_entry_size t.kept.disk.profile t.kept.disk.block_size n [] ≤ half_pair_capacity t.kept.disk.block_size t.kept.disk.page) name_is (ltb-false _ _ can.fits)

  pub can_create : CanCreateIn (with_history t.kept h) spot.pair spot.id name
  can_create = record {
    ready = ready_to t root h rests large;
    path = place.above;
    at = place.on.at;
    leads = place.on.leads;
    first = place.first;
    begins = place.on.begins;
    belongs = place.belongs;
    is_name = named;
    fits = record { charge = fits; inline = omega arith };
    logged = logged_there t.kept.disk _ bytes;
  }

  pub can_make : 4 ≤ need → CanMakeDirectoryAt (with_history t.kept h) spot.pair spot.id name
  can_make enough = record {
    ready = ready_to t root h rests large;
    path = place.above;
    at = place.on.at;
    leads = place.on.leads;
    first = place.first;
    begins = place.on.begins;
    belongs = place.belongs;
    is_name = named;
    fits = fits;
    room = let r = room_for t.kept need rests.held.sound can.room in omega (arith, r, enough);
  }

  created_at : (c : KeptThread) (given : List ℕ) (flags : FlagsOfOpen) → fault_count c.history ≡ fault_count t.kept.history → OnlyReadsSince t.kept.disk.blocks t.kept.history h → WritesPairAndTwoFree (with_history t.kept h) spot.pair c
      → ((can : CanCreateIn (with_history t.kept h) spot.pair spot.id name) → IsFileCreated (with_history t.kept h) c can.path name) → path_or_root given ≡ path → AppliesBeforeRelocation t.kept (ops.Open given flags) c
  unfolding can_create
  created_at c given flags quiet reads writes gives e =
      let is : IsFileCreated (with_history t.kept h) c place.above name = gives can_create in
      carried t.kept h (ops.Open given flags) c
      (record {
        accepted = rests.held.sound.accepted;
        used = rests.held.sound.used;
        writable = rests.held.sound.fits refl;
        settled = rests.settled;
        reads = reads;
        ready = is.now.ready;
        stay = stay_in_flight t.kept.map c.map is.now.stays;
        none_comes = is.now.none_comes;
        completed = λ files. is.completed (record { tree = disk_tree t.kept.disk t.kept.pairs; files = files }) given flags refl (e ∙ place.is);
        writes = record {
          blocks = _;
          each = among_one t.kept spot.pair writes.fresh (behind_below t.kept.pairs place.first spot.pair place.belongs.pair _ place.belongs.place) writes.free;
          writes = writes.writes;
        };
        no_fault = quiet;
      }) refl refl

  created_alone : (c : KeptThread) (op : Operation) (files : OpenFilesByNumber) → WritesPairAndTwoFree (with_history t.kept h) spot.pair c → IsPairChangedOrDropped (with_history t.kept h) spot.pair c
      → KeepsUnrelatedBlocks t.kept.disk t.kept.pairs (record { tree = disk_tree t.kept.disk t.kept.pairs; files = files }) op c.disk c.pairs
  created_alone c op files w alters =
      let b = place.belongs in
      let is : thread_pair t.kept spot.pair ≡ b.pair = here (with_history t.kept h) (ready_to t root h rests large) place.first spot.pair b.pair (b.later ++ b.rest) b.place in
      rest_left_alone (with_history t.kept h) c place.first spot.pair b.pair (b.later ++ b.rest) w.fresh (record { tree = disk_tree t.kept.disk t.kept.pairs; files = files }) op
      rests.held.sound.accepted rests.held.sound.used b.place w.free
      (subst (λ (z : Pair). ChangesThreadBlocks (z.at.0 ∷ z.at.1 ∷ w.fresh) (with_history t.kept h) c) is w.writes)
      (λ has n. alters (subst (Contains c.pairs) (sym is) has))

  made_at : (c : KeptThread) (given : List ℕ) → fault_count c.history ≡ fault_count t.kept.history → OnlyReadsSince t.kept.disk.blocks t.kept.history h → WritesPairsAndFourFree (with_history t.kept h) spot.pair c
      → ((can : CanMakeDirectoryAt (with_history t.kept h) spot.pair spot.id name) → IsDirectoryMade (with_history t.kept h) c can.path name) → 4 ≤ need → path_or_root given ≡ path → AppliesBeforeRelocation t.kept (ops.Mkdir given) c
  unfolding can_make
  made_at c given quiet reads writes gives enough e =
      let is : IsDirectoryMade (with_history t.kept h) c place.above name = gives (can_make enough) in
      carried t.kept h (ops.Mkdir given) c
      (record {
        accepted = rests.held.sound.accepted;
        used = rests.held.sound.used;
        writable = rests.held.sound.fits refl;
        settled = rests.settled;
        reads = reads;
        ready = is.now.ready;
        stay = stay_in_flight t.kept.map c.map is.now.stays;
        none_comes = is.now.none_comes;
        completed = λ files. is.completed (record { tree = disk_tree t.kept.disk t.kept.pairs; files = files }) given refl (e ∙ place.is);
        writes = record {
          blocks = _;
          each = among_two t.kept spot.pair writes.last writes.fresh (behind_below t.kept.pairs place.first spot.pair place.belongs.pair _ place.belongs.place) writes.is_last.below writes.free;
          writes = writes.writes;
        };
        no_fault = quiet;
      }) refl refl

  made_alone : (c : KeptThread) (op : Operation) (files : OpenFilesByNumber) → WritesPairsAndFourFree (with_history t.kept h) spot.pair c → AreBothChangedOrDropped (with_history t.kept h) spot.pair c
      → KeepsUnrelatedBlocks t.kept.disk t.kept.pairs (record { tree = disk_tree t.kept.disk t.kept.pairs; files = files }) op c.disk c.pairs
  made_alone c op files w alters =
      let s : Session = record { tree = disk_tree t.kept.disk t.kept.pairs; files = files } in
      let old = with_history t.kept h in
      let entry = concerned_pair old (changed_paths s op) c.pairs spot.pair (behind_below t.kept.pairs place.first spot.pair place.belongs.pair _ place.belongs.place) (inr alters.entry) in
      let end = concerned_pair old (changed_paths s op) c.pairs w.last w.is_last.below (inr (alters.end w.last w.is_last)) in
      concerned_alone old c s op _ rests.held.sound.accepted rests.held.sound.used
      (entry.0, (entry.1, (end.0, (end.1, each_weaker (IsFree t.kept.map) (IsConcernedOrFree old (changed_paths s op) c.pairs) (λ b f. inr f) w.fresh w.free)))) w.writes

  abbrev before : Tree
  before = disk_tree t.kept.disk t.kept.pairs

  created_survives : (c : KeptThread) → OnlyReadsSince t.kept.disk.blocks t.kept.history h → WritesPairAndTwoFree (with_history t.kept h) spot.pair c
      → ((can : CanCreateIn (with_history t.kept h) spot.pair spot.id name) → PowerLossLeavesEither (with_history t.kept h) c (tree_with_file (with_history t.kept h) can.path name)) → PowerLossLeavesEither t.kept c (tree_creating path (FileNode [] []) before)
  unfolding can_create
  created_survives c reads writes gives =
      subst (λ p. PowerLossLeavesEither t.kept c (tree_creating p (FileNode [] []) before)) (sym place.is) (survives_behind t root rests h c _ (tree_creating (place.above ++ name ∷ []) (FileNode [] []) before) reads writes.writes (gives can_create))

  made_survives : (c : KeptThread) → OnlyReadsSince t.kept.disk.blocks t.kept.history h → WritesPairsAndFourFree (with_history t.kept h) spot.pair c
      → ((can : CanMakeDirectoryAt (with_history t.kept h) spot.pair spot.id name) → PowerLossLeavesEither (with_history t.kept h) c (tree_with_directory (with_history t.kept h) can.path name)) → 4 ≤ need → PowerLossLeavesEither t.kept c (tree_creating path (DirectoryNode [] []) before)
  unfolding can_make
  made_survives c reads writes gives enough =
      subst (λ p. PowerLossLeavesEither t.kept c (tree_creating p (DirectoryNode [] []) before)) (sym place.is) (survives_behind t root rests h c _ (tree_creating (place.above ++ name ∷ []) (DirectoryNode [] []) before) reads writes.writes (gives (can_make enough)))

  -- ---- all that is said of it

  pub create_does : (new : ThreadView) (r : Result (Unit {0}) Error) (given : List ℕ) → path_or_root given ≡ path → fault_count h ≡ fault_count t.kept.history → OnlyReadsSince t.kept.disk.blocks t.kept.history h → WritesPairAndTwoFree (with_history t.kept h) spot.pair new.kept
      → OnOk r ((can : CanCreateIn (with_history t.kept h) spot.pair spot.id name) → IsFileCreated (with_history t.kept h) new.kept can.path name) → OnOk r (IsPairChangedOrDropped (with_history t.kept h) spot.pair new.kept) → ReportsFaultsSince h new.kept.history r → OnOk r (new.failed ≡ false)
      → ((can : CanCreateIn (with_history t.kept h) spot.pair spot.id name) → PowerLossLeavesEither (with_history t.kept h) new.kept (tree_with_file (with_history t.kept h) can.path name)) → AppliesOrFails t (call.Create path) r new
  create_does new r given named quiet reads w gives alters reported works survives =
      changed t new (HasAppliedCall t.kept (call.Create path)) (tree_after_call (call.Create path) before) h _ r quiet reads w.writes reported works (go r gives alters (quiet_reported t.kept new.kept h r quiet reported)) (created_survives new.kept reads w survives)
    where
      go : (r : Result (Unit {0}) Error) → OnOk r ((can : CanCreateIn (with_history t.kept h) spot.pair spot.id name) → IsFileCreated (with_history t.kept h) new.kept can.path name) → OnOk r (IsPairChangedOrDropped (with_history t.kept h) spot.pair new.kept)
          → OnOk r (fault_count new.kept.history ≡ fault_count t.kept.history) → OnOk r (HasAppliedCall t.kept (call.Create path) new.kept × HasSoundImage t.kept (tree_after_call (call.Create path) before) new.kept)
      go (Err e) gives alters same = tt
      go (Ok x) gives alters same = (
        record {
          carries = does_create (λ op. AppliesBeforeRelocation t.kept op new.kept) path (λ given flags e. created_at new.kept given flags same reads w gives e);
          spares = λ op does none files. created_alone new.kept op files w alters;
        },
        create_stands t.kept new.kept path given any_flags can.nothing named (created_at new.kept given any_flags same reads w gives named) (gives can_create).now.root,
      )

  pub make_does : (new : ThreadView) (r : Result (Unit {0}) Error) (given : List ℕ) → path_or_root given ≡ path → 4 ≤ need → fault_count h ≡ fault_count t.kept.history → OnlyReadsSince t.kept.disk.blocks t.kept.history h → WritesPairsAndFourFree (with_history t.kept h) spot.pair new.kept
      → OnOk r ((can : CanMakeDirectoryAt (with_history t.kept h) spot.pair spot.id name) → IsDirectoryMade (with_history t.kept h) new.kept can.path name) → OnOk r (AreBothChangedOrDropped (with_history t.kept h) spot.pair new.kept) → ReportsFaultsSince h new.kept.history r → OnOk r (new.failed ≡ false)
      → ((can : CanMakeDirectoryAt (with_history t.kept h) spot.pair spot.id name) → PowerLossLeavesEither (with_history t.kept h) new.kept (tree_with_directory (with_history t.kept h) can.path name)) → AppliesOrFails t (call.Mkdir path) r new
  make_does new r given named enough quiet reads w gives alters reported works survives =
      changed t new (HasAppliedCall t.kept (call.Mkdir path)) (tree_after_call (call.Mkdir path) before) h _ r quiet reads w.writes reported works (go r gives alters (quiet_reported t.kept new.kept h r quiet reported)) (made_survives new.kept reads w survives enough)
    where
      go : (r : Result (Unit {0}) Error) → OnOk r ((can : CanMakeDirectoryAt (with_history t.kept h) spot.pair spot.id name) → IsDirectoryMade (with_history t.kept h) new.kept can.path name) → OnOk r (AreBothChangedOrDropped (with_history t.kept h) spot.pair new.kept)
          → OnOk r (fault_count new.kept.history ≡ fault_count t.kept.history) → OnOk r (HasAppliedCall t.kept (call.Mkdir path) new.kept × HasSoundImage t.kept (tree_after_call (call.Mkdir path) before) new.kept)
      go (Err e) gives alters same = tt
      go (Ok x) gives alters same = (
        record {
          carries = does_mkdir (λ op. AppliesBeforeRelocation t.kept op new.kept) path (λ given e. made_at new.kept given same reads w gives enough e);
          spares = λ op does none files. made_alone new.kept op files w alters;
        },
        mkdir_stands t.kept new.kept path given named (made_at new.kept given same reads w gives enough named) (gives (can_make enough)).now.root,
      )
