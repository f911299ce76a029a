-- The content on the disk of a pair that a header describes.
use Rattle.std.proofs.Common.{ℕ, zero, suc, ◌≡◌, ◌<◌, Bool, true, false, cond, List, [], ◌∷◌, length, slice_get, Option, Some, None, sym, ap, subst, ◌∙◌, option_and_then, option_map}
use Rattle.std.specs.Prelude.{unwrap_or}
use Rattle.lfs_mount.proofs.Common.{same_Some, slice_get-map, RawContent, decoded_slots, decoded_content, content_after, content_at, current_block, empty_raw_content, Disk, disk_block, block_count, CallEvent, block_entries, zero_gstate, Pair, is_hard_tail, completed_parts, tail_view, move_view, header_address, PairHeader, AreHeaders, IsHeader, header_pairs}
use Rattle.lfs_model.specs.format.Slots.{PairContent}
use Rattle.lfs_model.proofs.Completed.{complete_length}
use Rattle.lfs_pair.specs.Pair.{active_block_at, is_second_active}
use Rattle.lfs_thread.specs.Kept.{disk_pair_at}

abbrev pub pair_of : Disk → PairHeader → Pair
pair_of disk h = disk_pair_at disk (header_address h)

pub record IsSeen (disk : Disk) (h : PairHeader) : Type 0 where
  pub active : h.active < block_count disk
  pub held : RawContent
  pub log : content_after empty_raw_content (block_entries (disk_block disk h.active)) ≡ Some held
  pub slots : decoded_slots held.slots ≡ Some (pair_of disk h).content.slots
  pub move : move_view h.move_state ≡ (pair_of disk h).content.move
  pub count : h.slot_count ≡ length (pair_of disk h).content.slots
  pub hard : is_hard_tail (option_map tail_view h.tail) ≡ is_hard_tail (pair_of disk h).content.tail
  pub holds : current_block disk (header_address h) ≡ Some (disk_block disk h.active)
  pub content : content_at disk (header_address h) ≡ Some (pair_of disk h).content

content_on : (disk : Disk) (at : ℕ × ℕ) (c : PairContent) → content_at disk at ≡ Some c → (disk_pair_at disk at).content ≡ c
content_on disk at c e = ap (λ (o : Option PairContent). unwrap_or o (record { slots = []; tail = None; move = zero_gstate })) e

active_within : (disk : Disk) (at : ℕ × ℕ) → at.0 < block_count disk → at.1 < block_count disk → active_block_at disk at < block_count disk
active_within disk at first second = go (is_second_active (disk_block disk at.0) (disk_block disk at.1))
  where
    go : (b : Bool) → cond b at.1 at.0 < block_count disk
    go true = second
    go false = first

pub seen_from : (disk : Disk) (history : List CallEvent) (h : PairHeader) → IsHeader disk history h → IsSeen disk h
seen_from disk history h is =
    let at = header_address h in
    let whole : content_at disk at ≡ Some is.content = ap (option_and_then decoded_content) is.raw ∙ is.complete in
    let content : (pair_of disk h).content ≡ is.content = content_on disk at is.content whole in
    let parts = completed_parts is.held is.content is.complete in
    let slots : decoded_slots is.held.slots ≡ Some (pair_of disk h).content.slots = parts.slots ∙ ap (λ (c : PairContent). Some c.slots) (sym content) in
    let d = is.is_pair.describes in
    record {
      active = subst (λ b. b < block_count disk) (sym is.is_pair.active) (active_within disk at is.address.first is.address.second);
      held = is.held;
      log = d.content;
      slots = slots;
      move = d.sums.move ∙ sym parts.move ∙ ap (λ (c : PairContent). c.move) (sym content);
      count = d.sums.slot_count ∙ sym (complete_length is.held.slots (pair_of disk h).content.slots slots);
      hard = ap is_hard_tail (d.sums.tail ∙ sym parts.tail ∙ ap (λ (c : PairContent). c.tail) (sym content));
      content = whole ∙ ap (λ (c : PairContent). Some c) (sym content);
      holds = is.is_pair.holds;
    }

-- the header at an index
pub header_at : (disk : Disk) (history : List CallEvent) (hs : List PairHeader) (k : ℕ) (h : PairHeader) → AreHeaders disk history hs → slice_get hs k ≡ Some h → IsSeen disk h
header_at disk history [] k h is e = absurd (cc)
header_at disk history (x ∷ hs) zero h is e = subst (IsSeen disk) (same_Some x h e) (seen_from disk history x is.0)
header_at disk history (x ∷ hs) (suc k) h is e = header_at disk history hs k h is.1 e

-- its pair
pub pair_at : (disk : Disk) (hs : List PairHeader) (k : ℕ) (h : PairHeader) → slice_get hs k ≡ Some h → slice_get (header_pairs disk hs) k ≡ Some (pair_of disk h)
pair_at disk hs k h e = slice_get-map (pair_of disk) hs k ∙ ap (option_map (pair_of disk)) e
