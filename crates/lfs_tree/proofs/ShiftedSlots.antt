-- An entry that is renamed: the premises and the results of the operations on slots.
use Rattle.std.proofs.Common.{ℕ, ◌≡◌, ◌≢◌, ◌⊎◌, inl, inr, ◌<◌, ◌≤◌, ◌∙◌, ◌++◌, Bool, true, false, List, [], ◌∷◌, length, Result, Ok, Err, sym, ap, ap₂, subst, arith}
use Rattle.std.specs.Prelude.{IfErr, OnOk, slice_get}
use Rattle.lfs_tree.proofs.Common.{All-from_recursion, same_Some, tree_renaming, without_prefix, IsUsedBlock, Free, Used, ContentChange, disk_block, Name, Slot, pairs_blocks, Path, all_unmoved_slots, struct_blocks, disk_tree, used_blocks, Contains-occurrence_count, occurrence_count-Contains, occurrence_count, count_append, each_from_counted, each_weaker, SameFileBlocks, file_blocks, WritesChangedPairsOrFree, HasTwoFreeBlocks, WritesPairAndTwoFree, has_failed_after, CanEditIn, editable_slot, HasFreeBlocks, WritesPairsAndTwoFree, move_ending_pair, WritesThreadAndFree, IsRenamedBetweenPairs, tree_with_entry_moved, IsRecoveredWritableImage, IsWritableBeforeMapUpdate, drops_pair_after_removal, tree_with_entry_renamed, KeptThread, ThreadView, PowerLossLeavesEither, CanMoveEntry, CanMoveEntryTo, HasMovedEntry, HasMovedReplacingFile, IsRenameTargetPosition, route_blocks, WorksOrReportsIo}
use Rattle.lfs_device.specs.declared.error.Error.{Error}
use Rattle.lfs_device.specs.declared.error.Error.TheVariants.{Io, NoMemory, NoSpace}
use Rattle.lfs_operations.specs.MoveEnds.{move_ending_written_pair}
use Rattle.lfs_operations.specs.MovingSteps.{ReportsAllocatingCommits}
use Rattle.lfs_operations.specs.MovingAcross.{CanMoveBetweenPairs}
use Rattle.lfs_operations.specs.Renaming.{CanRenameInPair, IsRenamedInPair, ReportsReadCommitOrSplit}
use Rattle.lfs_tree.specs.declared.renames_at.RenameSource.{RenameSource}
use Rattle.lfs_lookup.specs.declared.search.SlotPosition.{SlotPosition}
use Rattle.lfs_tree.proofs.Carried.{IsPairsOrFree, among_one, among_two, behind_below}
use Rattle.lfs_tree.proofs.CarryCreated.{stay_in_flight}
use Rattle.lfs_tree.proofs.KeptFiles.{among_files}
use Rattle.lfs_tree.proofs.CarryFreed.{apart_from_pairs, each_here}
use Rattle.lfs_tree.proofs.CarryRooms.{no_room}
use Rattle.lfs_tree.proofs.ShiftedAlone.{route_to, spares_apart, spares_within}
use Rattle.lfs_tree.proofs.ShiftedPlaces.{IsPairOf, one_place, other_name, pair_of_target, target_path}

-- ---- errors

pub if_done : {X P Q : Type 0} (r : Result X Error) → OnOk r P → (P → Q) → OnOk r Q
if_done (Ok x) h f = f h
if_done (Err e) h f = tt

pub if_both : {X P Q R : Type 0} (r : Result X Error) → OnOk r P → OnOk r Q → (P → Q → R) → OnOk r R
if_both (Ok x) h k f = f h k
if_both (Err e) h k f = tt

-- there was room, so it never returns NoSpace
reported_errors : {X : Type 0} (old : KeptThread) (r : Result X Error) → HasFreeBlocks 2 old.map → ((r ≡ Err NoSpace) → (HasTwoFreeBlocks old.map → ⊥)) → IfErr r (λ e. (e ≡ Io) ⊎ ((e ≡ NoMemory) ⊎ (e ≡ NoSpace))) → IfErr r (λ e. (e ≡ Io) ⊎ (e ≡ NoMemory))
reported_errors old (Ok x) room none h = tt
reported_errors old (Err e) room none (inl io) = inl io
reported_errors old (Err e) room none (inr (inl memory)) = inr memory
reported_errors old (Err e) room none (inr (inr space)) = absurd (no_room old.map room (none (ap Err space)))

works_on : {X : Type 0} (new : ThreadView) (P : Type 0) (r : Result X Error) → (new.failed ≡ has_failed_after r) ⊎ ((new.failed ≡ false) × P) → OnOk r (new.failed ≡ false)
works_on new P (Ok x) (inl h) = h
works_on new P (Ok x) (inr h) = h.0
works_on new P (Err e) h = tt

pub reported_within : {X : Type 0} (old new : ThreadView) (index : ℕ) (changes : List ContentChange) (r : Result X Error) → HasFreeBlocks 2 old.kept.map → ReportsReadCommitOrSplit old new index changes r → WorksOrReportsIo old new r
reported_within old new index changes r room t = record {
  works = works_on new _ r t.failed;
  errors = reported_errors old.kept r room t.reports.no_space t.reports.errors;
  fault = t.reports.fault;
  no_fault = t.reports.no_fault;
}

pub reported_across : {X : Type 0} (old new : ThreadView) (index : ℕ) (changes : List ContentChange) (r : Result X Error) → HasFreeBlocks 2 old.kept.map → ReportsAllocatingCommits old new index changes r → WorksOrReportsIo old new r
reported_across old new index changes r room t = record {
  works = works_on new _ r t.failed;
  errors = reported_errors old.kept r room t.no_space t.errors;
  fault = t.fault;
  no_fault = t.no_fault;
}

-- ---- which blocks are written

pub apart_within : (t : KeptThread) (from to : Path) (source : RenameSource) (name : Name) (new : KeptThread) → CanMoveEntry t from to source name → WritesPairAndTwoFree t source.slot.pair new → WritesThreadAndFree t new
apart_within t from to source name new can w = record {
  blocks = _;
  writes = w.writes;
  each = among_one t source.slot.pair w.fresh (behind_below t.pairs can.old.first source.slot.pair can.old.stands.pair can.old.stands.rest can.old.stands.place) w.free;
}

source_below : (t : KeptThread) (from to : Path) (source : RenameSource) (name : Name) → CanMoveEntry t from to source name → source.slot.pair < length t.pairs
source_below t from to source name can = behind_below t.pairs can.old.first source.slot.pair can.old.stands.pair can.old.stands.rest can.old.stands.place

-- the pair that the second step writes
left_below : (t : KeptThread) (index first : ℕ) → index < length t.pairs → move_ending_pair t index first < length t.pairs
left_below t index first below = go (drops_pair_after_removal t index first)
  where
    go : (b : Bool) → move_ending_written_pair index b < length t.pairs
    go true = omega arith
    go false = below

pub apart_across : (t : KeptThread) (from to : Path) (source : RenameSource) (name : Name) (other : ℕ) (new : KeptThread) → CanMoveEntry t from to source name → other < length t.pairs → WritesPairsAndTwoFree t (move_ending_pair t source.slot.pair source.first) other new → WritesThreadAndFree t new
apart_across t from to source name other new can below w = record {
  blocks = _;
  writes = w.writes;
  each = among_two t other (move_ending_pair t source.slot.pair source.first) w.fresh below (left_below t source.slot.pair source.first (source_below t from to source name can)) w.free;
}

-- none of them is a file's
file_used : (t : KeptThread) (index id : ℕ) (can : CanEditIn t index id) (b : ℕ) → 1 ≤ occurrence_count b (struct_blocks t.disk (editable_slot can).struct) → IsUsedBlock t.map b
file_used t index id can b some =
    let l = each_here (λ (s : Slot). occurrence_count b (struct_blocks t.disk s.struct) ≤ occurrence_count b (file_blocks t.disk (all_unmoved_slots t.pairs))) t index id can (among_files b t.disk (all_unmoved_slots t.pairs)) in
    let e = count_append b (pairs_blocks t.pairs) (file_blocks t.disk (all_unmoved_slots t.pairs)) in
    (can.ready.used b).1 (Contains-occurrence_count (used_blocks t.disk t.pairs) b (omega (arith, l, e, some)))

pub file_beside : (t new : KeptThread) (index id : ℕ) (can : CanEditIn t index id) → WritesThreadAndFree t new → SameFileBlocks t.disk new.disk (editable_slot can).struct
file_beside t new index id can w = each_from_counted (λ b. disk_block new.disk b ≡ disk_block t.disk b) (struct_blocks t.disk (editable_slot can).struct)
    (λ b some. w.writes.others.others b (All-from_recursion (λ c. c ≢ b) w.blocks (each_weaker (IsPairsOrFree t) (λ c. c ≢ b) (other b some) w.blocks w.each)))
  where
    other : (b : ℕ) → 1 ≤ occurrence_count b (struct_blocks t.disk (editable_slot can).struct) → (c : ℕ) → IsPairsOrFree t c → c ≢ b
    other b some c (inl own) e =
        let k = ap (λ z. occurrence_count z (pairs_blocks t.pairs)) e in
        let has = occurrence_count-Contains (pairs_blocks t.pairs) c own in
        let n = apart_from_pairs t index id can b some in
        absurd (omega (arith, k, n, has))
    other b some c (inr free) e = let k : Used ≡ Free = same_Some Used Free (sym (file_used t index id can b some) ∙ ap (slice_get t.map) (sym e) ∙ free) in absurd (cc)

-- nothing is gone
pub none_gone : (t : KeptThread) → IsWritableBeforeMapUpdate t [] [] → IsRecoveredWritableImage t
none_gone t r = record {
  accepted = r.accepted;
  writable = r.writable;
  settled = r.settled;
  used = λ b. (
    (λ h. Contains-occurrence_count (used_blocks t.disk t.pairs) b (let k = occurrence_count-Contains r.used.owned b ((r.used.are b).0 h) in let e = r.used.same b in omega (arith, k, e))),
    (λ h. (r.used.are b).1 (Contains-occurrence_count r.used.owned b (let k = occurrence_count-Contains (used_blocks t.disk t.pairs) b h in let e = r.used.same b in omega (arith, k, e)))),
  );
  size = r.size;
  large = r.large;
}

-- ---- paths

pub survives_at : (t new : KeptThread) (from to p q : Path) → from ≡ p → to ≡ q → PowerLossLeavesEither t new (tree_renaming p q (disk_tree t.disk t.pairs)) → PowerLossLeavesEither t new (tree_renaming from to (disk_tree t.disk t.pairs))
survives_at t new from to p q e f k =
    subst (λ z. PowerLossLeavesEither t new (tree_renaming z to (disk_tree t.disk t.pairs))) (sym e) (subst (λ z. PowerLossLeavesEither t new (tree_renaming p z (disk_tree t.disk t.pairs))) (sym f) k)

pub shows_at : (t new : KeptThread) (from to p q : Path) → from ≡ p → to ≡ q → disk_tree new.disk new.pairs ≡ tree_renaming p q (disk_tree t.disk t.pairs) → disk_tree new.disk new.pairs ≡ tree_renaming from to (disk_tree t.disk t.pairs)
shows_at t new from to p q e f k = k ∙ ap₂ (λ a b. tree_renaming a b (disk_tree t.disk t.pairs)) (sym e) (sym f)

-- ---- a new name, or a file's

module _ (replaces : Bool) (t : KeptThread) (from to : Path) (source : RenameSource) (place : SlotPosition) (name : Name) (can : CanMoveEntryTo replaces t from to source place name) where
  abbrev pub shift : CanMoveEntry t from to source name
  shift = can.can

  there : IsPairOf t.pairs shift.first place.pair
  there = pair_of_target replaces false t shift.first name place.pair place.id can.gone can.target

  path_here : source.slot.pair ≡ place.pair → to ≡ shift.old.path ++ name ∷ []
  path_here = target_path t from to source place name shift there

  pub rename_within : source.slot.pair ≡ place.pair → CanRenameInPair replaces t source.slot.pair source.slot.id place.id name
  rename_within e = record {
    can = shift.old;
    gone = can.gone;
    target = subst (λ i. IsRenameTargetPosition replaces false t shift.old.first name i place.id can.gone) (sym e)
        (subst (λ f. IsRenameTargetPosition replaces false t f name place.pair place.id can.gone) (one_place t from to source place name shift there e) can.target);
    differs = λ on. other_name t from to source place name shift there e;
    fits = shift.fits;
  }

  pub survives_within : (new : KeptThread) → source.slot.pair ≡ place.pair → ((rename : CanRenameInPair replaces t source.slot.pair source.slot.id place.id name) → PowerLossLeavesEither t new (tree_with_entry_renamed t rename.can.path rename.can.name name))
      → PowerLossLeavesEither t new (tree_renaming from to (disk_tree t.disk t.pairs))
  unfolding rename_within
  survives_within new e gives = survives_at t new from to _ _ shift.old_is (path_here e) (gives (rename_within e))

  pub moved_within : (new : KeptThread) → source.slot.pair ≡ place.pair → WritesPairAndTwoFree t source.slot.pair new
      → ((rename : CanRenameInPair replaces t source.slot.pair source.slot.id place.id name) → IsRenamedInPair t new rename.can.path rename.can.name name rename.gone) → HasMovedReplacingFile t from to can.gone new
  unfolding rename_within
  moved_within new e w gives =
      let is : IsRenamedInPair t new shift.old.path shift.old.name name can.gone = gives (rename_within e) in
      record {
        ready = is.now.ready;
        once = is.once;
        shows = shows_at t new from to _ _ shift.old_is (path_here e) is.now.shows;
        flying = λ b. (is.now.none_comes b, stay_in_flight t.map new.map is.now.stays b);
        root = is.now.root;
        completed = λ s given to_given tree f k. is.completed s given to_given tree (f ∙ shift.old_is) (k ∙ path_here e);
        alone = spares_within t new from to source name shift w;
      }

  -- ---- in another pair

  pub rename_apart : source.slot.pair ≢ place.pair → CanMoveBetweenPairs replaces false t (route_to source place) name
  rename_apart ne = record {
    old = shift.old;
    begins_old = shift.old_first;
    path = shift.above;
    at = shift.on.at;
    leads = shift.on.leads;
    to_first = shift.first;
    begins = shift.on.begins;
    gone = can.gone;
    target = can.target;
    logged = shift.logged _;
    apart = ne;
    not_beneath = ap₂ without_prefix (sym shift.old_is) (sym shift.is) ∙ shift.not_beneath;
    fits = shift.fits;
  }

  pub survives_apart : (new : KeptThread) → source.slot.pair ≢ place.pair → ((rename : CanMoveBetweenPairs replaces false t (route_to source place) name) → PowerLossLeavesEither t new (tree_with_entry_moved t rename.old.path rename.old.name rename.path name))
      → PowerLossLeavesEither t new (tree_renaming from to (disk_tree t.disk t.pairs))
  unfolding rename_apart
  survives_apart new ne gives = survives_at t new from to _ _ shift.old_is shift.is (gives (rename_apart ne))

  pub moved_apart : (new : KeptThread) → source.slot.pair ≢ place.pair → WritesChangedPairsOrFree t (route_blocks replaces t (route_to source place)) new
      → ((rename : CanMoveBetweenPairs replaces false t (route_to source place) name) → IsRenamedBetweenPairs t new rename.old.path rename.old.name rename.path name rename.gone) → HasMovedReplacingFile t from to can.gone new
  unfolding rename_apart
  moved_apart new ne alters gives =
      let is : IsRenamedBetweenPairs t new shift.old.path shift.old.name shift.above name can.gone = gives (rename_apart ne) in
      record {
        ready = is.now.ready;
        once = is.once;
        shows = shows_at t new from to _ _ shift.old_is shift.is is.now.shows;
        flying = is.now.flying;
        root = is.now.root;
        completed = λ s given to_given tree f k. is.completed s given to_given tree (f ∙ shift.old_is) (k ∙ shift.is);
        alone = spares_apart t new from to source name shift replaces place can.gone can.target alters;
      }

  pub writes_apart : (new : KeptThread) → WritesPairsAndTwoFree t (move_ending_pair t source.slot.pair source.first) place.pair new → WritesThreadAndFree t new
  writes_apart new w = apart_across t from to source name place.pair new shift (behind_below t.pairs shift.first place.pair there.pair there.rest there.place) w

-- the path had no file
pub moved_new : (t new : KeptThread) (from to : Path) (gone : List ℕ) → gone ≡ [] → HasMovedReplacingFile t from to gone new → HasMovedEntry t from to new
moved_new t new from to gone none is = record { ready = none_gone new (subst (λ z. IsWritableBeforeMapUpdate new z []) none is.ready); flying = is.flying; root = is.root; completed = is.completed; alone = is.alone }
