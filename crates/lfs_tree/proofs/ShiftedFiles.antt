-- An entry that replaces a file, whose list is freed afterwards.
use Rattle.std.proofs.Common.{ℕ, ◌≡◌, ◌⊎◌, ◌≤◌, ◌+◌, ◌∙◌, false, List, [], Result, Ok, Err, sym, ap, subst, arith}
use Rattle.std.specs.Prelude.{IfErr, OnOk, is_err}
use Rattle.lfs_device.specs.declared.error.Error.{Error}
use Rattle.lfs_device.specs.declared.error.Error.TheVariants.{Io, NoMemory}
use Rattle.lfs_tree.proofs.Common.{ChangesOnlyMap, ThreadReportsFaults, KeepsUnrelatedBlocks, count_before_root, tree_renaming, Name, Path, disk_tree, CompletesOperation, HasSameBlocksInFlight, CanEditIn, WritesThreadAndFree, IsRecoveredWritableImage, KeptThread, ThreadView, PowerLossLeavesEither, CanMoveEntry, CanMoveOntoFile, HasMovedEntry, WorksOrReportsIo, HasMovedReplacingFile, IsWritableBeforeMapUpdate, occurrence_count, used_blocks}
use Rattle.lfs_model.specs.session.Operations as ops
use Rattle.lfs_tree.specs.Removals.{CanFreeList}
use Rattle.lfs_tree.specs.declared.renames_at.RenameSource.{RenameSource}
use Rattle.lfs_lookup.specs.declared.entry.FileStorage.{FileStorage}
use Rattle.lfs_lookup.specs.declared.search.SlotPosition.{SlotPosition}
use Rattle.lfs_tree.proofs.CarryFreed.{can_free, shape_geometry, writes_then}
use Rattle.lfs_tree.proofs.CarrySurvives.{survives_left}
use Rattle.lfs_tree.proofs.ShiftedSlots.{file_beside}

module _ (t : KeptThread) (from to : Path) (source : RenameSource) (slot : SlotPosition) (contents : FileStorage) (name : Name) (can : CanMoveOntoFile t from to source slot contents name) where
  abbrev shift : CanMoveEntry t from to source name
  shift = can.onto.can

  -- the file's slot, as one that may be edited
  target_edit : CanEditIn t slot.pair slot.id
  target_edit = record {
    ready = shift.old.ready;
    path = shift.above;
    at = shift.on.at;
    leads = shift.on.leads;
    first = shift.first;
    begins = shift.on.begins;
    name = name;
    stands = can.onto.target.there;
    logged = shift.logged _;
  }

  pub onto_frees : (mid : KeptThread) → WritesThreadAndFree t mid → HasMovedReplacingFile t from to can.onto.gone mid → CanFreeList mid contents
  unfolding target_edit
  onto_frees mid w is = can_free t mid slot.pair slot.id target_edit contents can.shows (shape_geometry t mid w.writes.shape) (file_beside t mid slot.pair slot.id target_edit w)
      (subst (λ z. IsWritableBeforeMapUpdate mid z []) (sym can.onto.target.blocks) is.ready)
      (subst (λ z. (b : ℕ) → occurrence_count b (used_blocks mid.disk mid.pairs) + occurrence_count b z ≤ 1) (sym can.onto.target.blocks) is.once)

-- ---- the file's list is freed afterwards

pub onto_done : (t mid new : KeptThread) (from to : Path) (gone : List ℕ) → HasMovedReplacingFile t from to gone mid → ChangesOnlyMap mid new → IsRecoveredWritableImage new → HasSameBlocksInFlight mid.map new.map → HasMovedEntry t from to new
onto_done t mid new from to gone is only ready flying = record {
  ready = ready;
  flying = λ b. ((λ h. (is.flying b).0 ((flying b).0 h)), (λ h. (flying b).1 ((is.flying b).1 h)));
  root = ap count_before_root only.pairs ∙ is.root;
  completed = λ s given to_given tree f k.
      subst (λ ps. CompletesOperation t.disk t.pairs s (ops.Rename given to_given) new.disk ps) (sym only.pairs)
      (subst (λ disk. CompletesOperation t.disk t.pairs s (ops.Rename given to_given) disk mid.pairs) (sym only.disk) (is.completed s given to_given tree f k));
  alone = λ s given to_given f k.
      subst (λ ps. KeepsUnrelatedBlocks t.disk t.pairs s (ops.Rename given to_given) new.disk ps) (sym only.pairs)
      (subst (λ disk. KeepsUnrelatedBlocks t.disk t.pairs s (ops.Rename given to_given) disk mid.pairs) (sym only.disk) (is.alone s given to_given f k));
}

pub apart_then : (t mid new : KeptThread) → WritesThreadAndFree t mid → ChangesOnlyMap mid new → WritesThreadAndFree t new
apart_then t mid new w only = record { blocks = w.blocks; writes = writes_then t mid new w.blocks w.writes only; each = w.each }

pub reported_then : {X Y : Type 0} (old mid new : ThreadView) (x : X) (result : Result X Error) (given : Result Y Error) → result ≡ Ok x → WorksOrReportsIo old mid result → new.failed ≡ is_err given → ThreadReportsFaults mid.kept new.kept given → WorksOrReportsIo old new given
reported_then {X} {Y} old mid new x result given is t failed w =
    let same = t.no_fault (λ io. let z = sym is ∙ io in absurd (cc)) in
    record {
      works = works given failed;
      errors = w.errors;
      fault = λ io. let k = w.fault io in omega (arith, k, same);
      no_fault = λ other. w.no_fault other ∙ same;
    }
  where
    works : (r : Result Y Error) → new.failed ≡ is_err r → OnOk r (new.failed ≡ false)
    works (Ok y) e = e
    works (Err e) f = tt

pub reported_of : {X Y : Type 0} (old new : ThreadView) (e : Error) (result : Result X Error) (given : Result Y Error) → result ≡ Err e → given ≡ Err e → WorksOrReportsIo old new result → WorksOrReportsIo old new given
reported_of {X} {Y} old new e result given is same t = record {
  works = subst (λ (r : Result Y Error). OnOk r (new.failed ≡ false)) (sym same) tt;
  errors = subst (λ (r : Result Y Error). IfErr r (λ x. (x ≡ Io) ⊎ (x ≡ NoMemory))) (sym same) (subst (λ (r : Result X Error). IfErr r (λ x. (x ≡ Io) ⊎ (x ≡ NoMemory))) is t.errors);
  fault = λ io. t.fault (is ∙ ap Err (error_is e Io given same io));
  no_fault = λ other. t.no_fault (λ io. other (same ∙ ap Err (error_is e Io result is io)));
}
  where
    error_is : {Z : Type 0} (a b : Error) (r : Result Z Error) → r ≡ Err a → r ≡ Err b → a ≡ b
    error_is a b r h k = cc

pub onto_survives : (t mid new : KeptThread) (from to : Path) (gone : List ℕ) → WritesThreadAndFree t mid → HasMovedReplacingFile t from to gone mid → ChangesOnlyMap mid new → PowerLossLeavesEither t mid (tree_renaming from to (disk_tree t.disk t.pairs))
    → PowerLossLeavesEither t new (tree_renaming from to (disk_tree t.disk t.pairs))
onto_survives t mid new from to gone w is only k =
    survives_left t mid new.history (tree_renaming from to (disk_tree t.disk t.pairs)) (shape_geometry t mid w.writes.shape) w.writes.at_worst is.ready.accepted is.ready.writable is.shows only.reads k
