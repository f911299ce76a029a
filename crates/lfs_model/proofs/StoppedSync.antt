-- A stop in the program of a sync leaves the file with its old bytes or with the new ones.
use Rattle.std.proofs.Common.{ℕ, ◌≡◌, inl, inr, true, false, List, [], ◌∷◌, Option, Some, None, refl, sym, ap, subst, ◌∙◌}
use Rattle.std.specs.Prelude.{All, codes, slice_get}
use Rattle.lfs_model.proofs.Common.{All-from_recursion, Blocks, block_bytes, overwritten_at, SameExcept, Disk, disk_block, SameGeometry, content_at, current_block, Slot, Pair, file_slot, superblock_pair_address, HasFirstLogEntry, superblock_entry, Tree, Session, DiskSummary, operation_result, operation_effect, operation_refusal, unless_refused, HasEitherTree, IsHealthySession, with_blocks, SurvivesPowerLoss, IsAccepted, IsWritable, LeftByLoss}
use Rattle.lfs_model.specs.format.Crc.{crc_of, checksum_after_bits}
use Rattle.lfs_model.specs.format.Log.{LogEntry, block_entries, chain_of, bounded_commit_sequence, bounded_commit_at, entry_at, closes}
use Rattle.lfs_model.specs.format.Content.{has_commit, later_committed_block, content_after, decoded_content, empty_raw_content}
use Rattle.std.specs.Option.{option_and_then}
use Rattle.lfs_model.specs.format.Slots.{PairContent, FitsInPair}
use Rattle.lfs_model.specs.tree.Profile.{IsWritableSlot}
use Rattle.lfs_model.specs.crash.Stops.{SameLog}
use Rattle.lfs_model.specs.crash.PowerLoss.{SurvivesStoppedCalls}
use Rattle.lfs_model.specs.session.Operations as ops
use Rattle.lfs_model.specs.examples.Runs.{blockless_disk, image_after_open}
use Rattle.lfs_model.specs.examples.Written.{image_after_sync, written_session, state_after_write, state_after_sync, programming, synced_commit}
use Rattle.lfs_model.proofs.Files.{SameFileBlocks}
use Rattle.lfs_model.proofs.Splices.{IsDevice}
use Rattle.lfs_model.proofs.SameLogs.{entries_same, has_commit_same}
use Rattle.lfs_model.proofs.Unchanged.{same_follows}
use Rattle.lfs_model.proofs.SessionSteps.{tree_step}
use Rattle.lfs_model.proofs.Surviving.{same_surroundings, session_step_survives_loss}
use Rattle.lfs_model.proofs.TreesLeft.{same_session}
use Rattle.lfs_model.proofs.FreshSession.{none_accepted}
use Rattle.lfs_model.proofs.OpenedFile as before
use Rattle.lfs_model.proofs.OpenedFile.{around, opened_over}
use Rattle.lfs_model.proofs.WrittenFile.{root, named, superblock, synced, synced_holds, synced_begins, synced_completed, written_over, sync_step}

-- ---- a disk whose root has the log of another

current_two : (a b : List ℕ) → has_commit a ≡ true → has_commit b ≡ false → later_committed_block a b ≡ Some a
current_two a b e f = rw e (rw f refl)

abbrev content_of : List LogEntry → Option PairContent
content_of es = option_and_then decoded_content (content_after empty_raw_content es)

abbrev content_of_block : Option (List ℕ) → Option PairContent
content_of_block o = option_and_then decoded_content (option_and_then (λ block. content_after empty_raw_content (block_entries block)) o)

module _ (image left : Disk) (file : Slot) (geometry : SameGeometry image left) (log : SameLog (disk_block left 0) (disk_block image 0)) (other : disk_block left 1 ≡ disk_block image 1)
    (has : has_commit (disk_block image 0) ≡ true) (none : has_commit (disk_block image 1) ≡ false) (holds : content_at image superblock_pair_address ≡ Some (root (file ∷ [])).content)
    (begins : HasFirstLogEntry (current_block image superblock_pair_address) superblock_entry) (files : SameFileBlocks image left file.struct) (inside : IsAccepted image (root (file ∷ []) ∷ [])) where
  current_left : current_block left superblock_pair_address ≡ Some (disk_block left 0)
  current_left = current_two (disk_block left 0) (disk_block left 1) (has_commit_same (disk_block left 0) (disk_block image 0) log ∙ has) (ap has_commit other ∙ none)

  current_image : current_block image superblock_pair_address ≡ Some (disk_block image 0)
  current_image = current_two (disk_block image 0) (disk_block image 1) has none

  entries : block_entries (disk_block left 0) ≡ block_entries (disk_block image 0)
  entries = entries_same (disk_block left 0) (disk_block image 0) log

  holds_left : content_at left superblock_pair_address ≡ Some (root (file ∷ [])).content
  holds_left = ap content_of_block current_left ∙ ap content_of entries ∙ sym (ap content_of_block current_image) ∙ holds

  begins_left : HasFirstLogEntry (current_block left superblock_pair_address) superblock_entry
  begins_left = subst (λ o. HasFirstLogEntry o superblock_entry) (sym current_left)
      (subst (λ (es : List LogEntry). slice_get es 0 ≡ Some superblock_entry) (sym entries) (subst (λ o. HasFirstLogEntry o superblock_entry) current_image begins))

  device : IsDevice image left (root (file ∷ []) ∷ []) (root (file ∷ []) ∷ [])
  device = record {
    geometry = geometry;
    contents = All-from_recursion (λ r. content_at left r.at ≡ Some r.content) (root (file ∷ []) ∷ []) (holds_left, tt);
    first = begins_left;
    files = All-from_recursion (λ s. SameFileBlocks image left s.struct) (superblock ∷ file ∷ []) (tt, (files, tt));
  }

-- ---- the two logs that a stop leaves

open_has : has_commit (disk_block image_after_open 0) ≡ true
unfolding chain_of bounded_commit_sequence bounded_commit_at entry_at closes crc_of checksum_after_bits
open_has = refl

sync_has : has_commit (disk_block image_after_sync 0) ≡ true
unfolding chain_of bounded_commit_sequence bounded_commit_at entry_at closes crc_of checksum_after_bits
sync_has = refl

empty_beside : has_commit (disk_block image_after_open 1) ≡ false
unfolding chain_of bounded_commit_sequence bounded_commit_at entry_at closes crc_of checksum_after_bits
empty_beside = refl

none_beside : (disk : Disk) → disk_block disk 1 ≡ disk_block image_after_open 1 → has_commit (disk_block disk 1) ≡ false
none_beside disk e = ap has_commit e ∙ empty_beside

-- the program done
done_is : overwritten_at (disk_block image_after_open 0) 512 synced_commit ≡ disk_block image_after_sync 0
done_is = refl

-- ---- the disk that is left

-- it is in the writing profile
writable_left : (disk left : Disk) (ps : List Pair) → disk.profile ≡ left.profile → disk.block_size ≡ left.block_size → disk.page ≡ left.page → IsWritable disk ps → IsWritable left ps
writable_left disk left ps e f g w = record {
  pairs = subst (λ b. All (λ p. FitsInPair b left.page p.content) ps) f (subst (λ z. All (λ p. FitsInPair disk.block_size z p.content) ps) g w.pairs);
  slots = subst (λ k. All (λ p. All (IsWritableSlot k left.block_size left.page) p.content.slots) ps) e
      (subst (λ b. All (λ p. All (IsWritableSlot disk.profile b left.page) p.content.slots) ps) f (subst (λ z. All (λ p. All (IsWritableSlot disk.profile disk.block_size z) p.content.slots) ps) g w.slots));
  no_empty_pair = w.no_empty_pair;
}

module _ (blocks : Blocks) (same : SameExcept 0 image_after_open.blocks blocks) where
  abbrev left : Disk
  left = with_blocks blocks image_after_open

  shape_open : SameGeometry image_after_open left
  shape_open = record { block_size = refl; page = refl; order = refl; profile = refl; count = same.count }

  shape_sync : SameGeometry image_after_sync left
  shape_sync = record { block_size = refl; page = refl; order = refl; profile = refl; count = same.count }

  beside : block_bytes blocks 1 ≡ disk_block image_after_open 1
  beside = same.others 1 (λ e. absurd (cc))

  old_left : SameLog (block_bytes blocks 0) (disk_block image_after_open 0) → (after : Tree) → HasEitherTree left written_session.tree after
  old_left log after =
      let d = device image_after_open left (file_slot (codes "b")) shape_open log beside open_has (none_beside image_after_open refl) before.holds before.begins tt before.completed.accepted in
      let f = same_follows image_after_open left [] before.next [] refl before.completed.accepted d in
      record { pairs = before.next ∷ []; accepted = f.accepted; writable = writable_left image_after_open left (before.next ∷ []) refl refl refl before.completed.writable; tree = inl (f.shows ∙ before.completed.tree around) }

  new_left : SameLog (block_bytes blocks 0) (disk_block image_after_sync 0) → (before : Tree) → HasEitherTree left before (operation_effect around written_session (ops.Sync 0)).1.tree
  new_left log before =
      let d = device image_after_sync left (named (codes "b") (codes "hi")) shape_sync log beside sync_has (none_beside image_after_sync refl) synced_holds synced_begins tt synced_completed.accepted in
      let f = same_follows image_after_sync left [] synced [] refl synced_completed.accepted d in
      record { pairs = synced ∷ []; accepted = f.accepted; writable = writable_left image_after_sync left (synced ∷ []) refl refl refl synced_completed.writable; tree = inr (f.shows ∙ synced_completed.tree around) }

either_left : (blocks : Blocks) → LeftByLoss (programming 512 synced_commit image_after_open image_after_sync) blocks → HasEitherTree (with_blocks blocks image_after_open) written_session.tree (operation_effect around written_session (ops.Sync 0)).1.tree
either_left blocks (same, inl log) = old_left blocks same log _
either_left blocks (same, inr (inl log)) = new_left blocks same (subst (SameLog (block_bytes blocks 0)) done_is log) _
either_left blocks (same, inr (inr (first, none))) = absurd (cc)

-- ---- the sync

same_result : (a b : DiskSummary) → a ≡ b → operation_refusal b written_session (ops.Sync 0) ≡ None → (operation_result a written_session (ops.Sync 0)).1.tree ≡ (operation_effect b written_session (ops.Sync 0)).1.tree
same_result a b e accepted = ap (λ z. (operation_result z written_session (ops.Sync 0)).1.tree) e ∙ ap (λ r. (unless_refused r written_session (operation_effect b written_session (ops.Sync 0))).1.tree) accepted

stops : SurvivesStoppedCalls state_after_write (ops.Sync 0) state_after_sync
stops s ps about work clean = record { events = programming 512 synced_commit image_after_open image_after_sync ∷ []; extends = refl; each = (leaves, tt) }
  where
    Left : Tree → Tree → Blocks → Type 0
    Left before after blocks = HasEitherTree (with_blocks blocks image_after_open) before after

    around_is : about ≡ around
    around_is = same_surroundings image_after_open ps (before.next ∷ []) about around work.accepted written_over.accepted work.surrounds written_over.surrounds

    same_s : written_session ≡ s
    same_s = same_session written_session s work.healthy

    leaves : (blocks : Blocks) → LeftByLoss (programming 512 synced_commit image_after_open image_after_sync) blocks → Left s.tree (operation_result about s (ops.Sync 0)).1.tree blocks
    leaves blocks stop = subst (λ (t : Session). Left t.tree (operation_result about t (ops.Sync 0)).1.tree blocks) same_s
        (subst (λ after. Left written_session.tree after blocks) (sym (same_result about around around_is refl)) (either_left blocks stop))

pub sync_survives : SurvivesPowerLoss state_after_write (ops.Sync 0) state_after_sync
sync_survives = session_step_survives_loss state_after_write (ops.Sync 0) ops.Done state_after_sync (before.next ∷ [], (written_over.accepted, written_over.tree)) (tree_step state_after_write state_after_sync (ops.Sync 0) ops.Done sync_step) stops

-- where no block is left, no tree is
pub not_lost : SurvivesPowerLoss state_after_write (ops.Sync 0) (record state_after_sync { disk = blockless_disk }) → ⊥
not_lost h =
    let work : IsHealthySession state_after_write written_session (before.next ∷ []) around = record { healthy = refl; accepted = written_over.accepted; writable = before.completed.writable; surrounds = written_over.surrounds } in
    let k = h.stands written_session (before.next ∷ []) around work
    (record { events = programming 512 synced_commit image_after_open image_after_sync ∷ []; extends = refl; each = (tt, tt) })
    (record { events = programming 512 synced_commit image_after_open image_after_sync ∷ []; extends = refl; each = ((λ e. absurd (cc)), tt) }) in
    none_accepted k.pairs k.accepted
