-- The effect of a step on a thread, whatever the order of its names.
use Rattle.std.proofs.Common.{◌≡◌, ◌∙◌, ℕ, false, List, Some, subst, ap, inl, inr, refl, Result, Ok, Err}
use Rattle.std.specs.Prelude.{OnOk, is_err}
use Rattle.lfs_device.specs.declared.error.Error.{Error}
use Rattle.lfs_device.specs.declared.device.BlockDevice.{Ghosts}
use Rattle.lfs_thread.proofs.Common.{BlockStates, Blocks, ContentChange, Disk, disk_with_order, CallEvent, PairContent, HoldsAtLosses-weaker, KeepsPairBlocks, CleanLossLeaves, KeptThread, SplitOnDisk, CanChangePair, CanDropNext, CanSplitAt, CanThreadIn, HasOldPair, RefusesChanges, IsNextDropped, IsPairCommitted, HasSplit, IsPairWritten, RefusesThreading, LossLeavesPair, LossLeavesThreadSplit, PartsFit}
use Rattle.lfs_model.specs.declared.order.NameOrder.{NameOrder}
use Rattle.lfs_thread.specs.Joins.{CanHold, HasNextRevision, IsJoined, JoinedOnDisk, LossLeavesJoined, content_behind, pairs_joined}
use Rattle.lfs_thread.specs.Moves.{BeginsWithAnySuperblock}
use Rattle.lfs_thread.specs.ThreadSteps.{SameGeometryAs, thread_pair}
use Rattle.lfs_thread.specs.declared.joins.Behind.{Behind}
use Rattle.lfs_thread.specs.declared.joins.Behind.TheVariants as kind

-- the same thread, with its names in that order
abbrev pub in_order : NameOrder → KeptThread → KeptThread
in_order order t = record t { disk = disk_with_order order t.disk }

module _ (order : NameOrder) where
  -- ---- the premises of a step

  pub can_change : (t : KeptThread) (index : ℕ) (changes : List ContentChange) → CanChangePair (in_order order t) index changes → CanChangePair t index changes
  can_change t index changes can = record { below = can.below; content = can.content; made = can.made; next = can.next }

  pub can_split : (t : KeptThread) (index : ℕ) (fresh : ℕ × ℕ) (changes : List ContentChange) → CanSplitAt (in_order order t) index fresh changes → CanSplitAt t index fresh changes
  can_split t index fresh changes can = record { can = can_change t index changes can.can; held = can.held; raw = can.raw; made = can.made; cut = can.cut }

  pub can_thread_in : (t : KeptThread) (index : ℕ) (fresh : ℕ × ℕ) (changes : List ContentChange) → CanThreadIn (in_order order t) index fresh changes → CanThreadIn t index fresh changes
  can_thread_in t index fresh changes can = record { below = can.below; content = can.content; made = can.made; next = can.next; held = can.held }

  pub can_drop : (t : KeptThread) (index : ℕ) (changes : List ContentChange) → CanDropNext (in_order order t) index changes → CanDropNext t index changes
  can_drop t index changes can = record { below = can.below; content = can.content; made = can.made; next = can.next }

  pub can_hold : (b : Behind) (t : KeptThread) (index : ℕ) → CanHold (in_order order t) index b → CanHold t index b
  can_hold kind.Empty t index holds = tt
  can_hold kind.Slots t index holds = holds
  can_hold kind.Next t index holds = holds

  -- ---- what a step does

  shape_in : {old new : Disk} → SameGeometryAs old new → SameGeometryAs (disk_with_order order old) (disk_with_order order new)
  shape_in shape = record { block_size = shape.block_size; page = shape.page; order = refl; profile = shape.profile; count = shape.count }

  written_in : (old : KeptThread) (index : ℕ) (content : PairContent) (disk : Disk) → IsPairWritten old index content disk → IsPairWritten (in_order order old) index content (disk_with_order order disk)
  written_in old index content disk w = record { holds = w.holds; others = w.others; shape = shape_in w.shape; first = w.first }

  pub changed_in : (old new : KeptThread) (index : ℕ) (changes : List ContentChange) → IsPairCommitted old index changes new → IsPairCommitted (in_order order old) index changes (in_order order new)
  changed_in old new index changes is = record {
    content = is.content;
    made = is.made;
    written = written_in old index is.content new.disk is.written;
    fits = is.fits;
    pairs = is.pairs;
    thread = is.thread;
    map = is.map;
  }

  pub refused_in : (old new : KeptThread) (index : ℕ) (changes : List ContentChange) → RefusesChanges old index changes new → RefusesChanges (in_order order old) index changes (in_order order new)
  refused_in old new index changes is = record {
    content = is.content;
    made = is.made;
    too_large = is.too_large;
    only = record { disk = ap (disk_with_order order) is.only.disk; reads = is.only.reads; pairs = is.only.pairs; map = is.only.map };
  }

  parts_in : (old : KeptThread) (index : ℕ) (content : PairContent) (cut : ℕ) (fresh : ℕ × ℕ) (disk : Disk) → PartsFit old index content cut fresh disk → PartsFit (in_order order old) index content cut fresh (disk_with_order order disk)
  parts_in old index content cut fresh disk parts = record { front_fits = parts.front_fits; back_fits = parts.back_fits; inside = parts.inside; first = parts.first }

  pub split_in : (old new : KeptThread) (index : ℕ) (fresh : ℕ × ℕ) (changes : List ContentChange) → HasSplit old index fresh changes new → HasSplit (in_order order old) index fresh changes (in_order order new)
  split_in old new index fresh changes is = record {
    content = is.content;
    made = is.made;
    cut = is.cut;
    parts = parts_in old index is.content is.cut fresh new.disk is.parts;
    pairs = is.pairs;
    thread = is.thread;
    map = is.map;
  }

  behind_in : (b : Behind) (t : KeptThread) (index : ℕ) → content_behind t index b ≡ content_behind (in_order order t) index b
  behind_in kind.Empty t index = refl
  behind_in kind.Slots t index = refl
  behind_in kind.Next t index = refl

  pub joined_in : (old new : KeptThread) (index : ℕ) (b : Behind) (fresh : ℕ × ℕ) (changes : List ContentChange) → IsJoined old index b fresh changes new → IsJoined (in_order order old) index b fresh changes (in_order order new)
  joined_in old new index b fresh changes is = record {
    content = is.content;
    made = is.made;
    fits = is.fits;
    first = is.first;
    pairs = is.pairs ∙ ap (λ c. pairs_joined b old.pairs index (record { at = (thread_pair old index).at; content = is.content }) (record { at = fresh; content = c })) (behind_in b old index);
    thread = is.thread;
    map = is.map;
    anew = subst (λ c. BeginsWithAnySuperblock (record { at = fresh; content = c }) (disk_with_order order new.disk)) (behind_in b old index) is.anew;
    revision = revision_in b is.revision;
  }
    where
      revision_in : (b : Behind) → HasNextRevision old index b fresh new.disk → HasNextRevision (in_order order old) index b fresh (disk_with_order order new.disk)
      revision_in kind.Empty has = tt
      revision_in kind.Slots has = has
      revision_in kind.Next has = has

  pub threading_refused_in : (old new : KeptThread) (index : ℕ) (fresh : ℕ × ℕ) (changes : List ContentChange) → RefusesThreading old index fresh changes new → RefusesThreading (in_order order old) index fresh changes (in_order order new)
  threading_refused_in old new index fresh changes is = record { content = is.content; made = is.made; too_large = is.too_large; pairs = is.pairs; map = is.map; others = is.others }

  pub dropped_in : (old new : KeptThread) (index : ℕ) (changes : List ContentChange) → IsNextDropped old index changes new → IsNextDropped (in_order order old) index changes (in_order order new)
  dropped_in old new index changes is = record {
    content = is.content;
    made = is.made;
    written = written_in old index is.content new.disk is.written;
    fits = is.fits;
    pairs = is.pairs;
    thread = is.thread;
    map = is.map;
  }

  -- ---- what a loss of power leaves of a step

  pub left_changed_in : (old : KeptThread) (index : ℕ) (changes : List ContentChange) (left : Blocks) → LossLeavesPair old index changes left → LossLeavesPair (in_order order old) index changes left
  left_changed_in old index changes left is = record { content = is.content; is = is.is; written = written_in old index is.content (record old.disk { blocks = left }) is.written }

  old_in : (old : KeptThread) (index : ℕ) (disk : Disk) → HasOldPair old index disk → HasOldPair (in_order order old) index (disk_with_order order disk)
  old_in old index disk has = record { holds = has.holds; first = has.first }

  pub left_split_in : (old : KeptThread) (index : ℕ) (fresh : ℕ × ℕ) (changes : List ContentChange) (left : Blocks) → LossLeavesThreadSplit old index fresh changes left → LossLeavesThreadSplit (in_order order old) index fresh changes left
  left_split_in old index fresh changes left is = record {
    others = is.others;
    content = elim is.content [
      | inl has ↦ inl (old_in old index (record old.disk { blocks = left }) has)
      | inr both ↦
          let there : SplitOnDisk (in_order order old) index changes fresh (record (disk_with_order order old.disk) { blocks = left }) = record {
            content = both.content;
            made = both.made;
            cut = both.cut;
            front = both.front;
            back = both.back;
            parts = parts_in old index both.content both.cut fresh (record old.disk { blocks = left }) both.parts;
          } in
          inr there
    ];
  }

  pub left_joined_in : (old : KeptThread) (index : ℕ) (b : Behind) (fresh : ℕ × ℕ) (changes : List ContentChange) (left : Blocks) → LossLeavesJoined old index b fresh changes left → LossLeavesJoined (in_order order old) index b fresh changes left
  left_joined_in old index b fresh changes left is = record {
    others = is.others;
    content = elim is.content [
      | inl has ↦ inl (old_in old index (record old.disk { blocks = left }) has)
      | inr both ↦
          let there : JoinedOnDisk (in_order order old) index b fresh changes (record (disk_with_order order old.disk) { blocks = left }) = record {
            content = both.content;
            made = both.made;
            fits = both.fits;
            holds = both.holds;
            behind = both.behind ∙ ap Some (behind_in b old index);
            first = both.first;
            anew = subst (λ c. BeginsWithAnySuperblock (record { at = fresh; content = c }) (record (disk_with_order order old.disk) { blocks = left })) (behind_in b old index) both.anew;
          } in
          inr there
    ];
  }

-- work that leaves the pairs alone
pub leaves_in : {D : Type 0} (g : Ghosts D) (order : NameOrder) (t : KeptThread) (device : D) (map : BlockStates) (later : D) (later_map : BlockStates) → KeepsPairBlocks g (in_order order t) device map later later_map → KeepsPairBlocks g t device map later later_map
leaves_in g order t device map later later_map leaves = record { geometry = leaves.geometry; count = leaves.count; same = leaves.same; stays = leaves.stays; size = leaves.size; used = leaves.used }

pub stops_in : {before after : List CallEvent} {P Q : Blocks → Type 0} → ((left : Blocks) → P left → Q left) → CleanLossLeaves before after P → CleanLossLeaves before after Q
stops_in f stops clean = HoldsAtLosses-weaker f (stops clean)

-- what holds at Ok holds where the result isn't an error
pub at_ok : {X : Type 0} (r : Result X Error) {P : Type 0} → OnOk r P → is_err r ≡ false → P
at_ok (Ok x) h ok = h
at_ok (Err e) h ok = absurd (cc)

pub on_ok : {X : Type 0} (r : Result X Error) {P Q : Type 0} → (P → Q) → OnOk r P → OnOk r Q
on_ok (Ok x) f h = f h
on_ok (Err e) f h = tt
