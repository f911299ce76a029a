-- A content, written into an erased block as its first commit.
use Rattle.std.proofs.Common.{ℕ, ◌≡◌, ◌+◌, ◌≤◌, Bool, false, List, [], ◌∷◌, Some, inl, inr, refl, sym, ap, ◌∙◌, subst, arith, option_map}
use Rattle.lfs_pair.proofs.Common.{Blocks, block_bytes, SameExcept, IsValidGeometry, RawContent, empty_raw_content, encoded_size, aligned_commit_end, RawContentFitsInPair, content_entries, AreNamed, IsWellFormed, CallEvent, call_event, Erase, AllCallsSince, HoldsAtLosses, ErasesCleanly, LeftByLoss, appended_content, began, goes_on, goes_on_by, HoldsAtLosses-weaker, AllCallsSince-until, AllCallsSince-only, SameExcept-trans, PartialCommit, padded_commit_end, commit_with_entries, LogGetsCommit, HasOneCommit, LossLeavesCommit, LossLeavesRewritten, DiffersInBlock}
use Rattle.lfs_model.specs.layers.LoggedContent.{IsStorable}
use Rattle.lfs_model.specs.crash.Stops.{MayEraseLeave}
use Rattle.lfs_model.specs.format.Log.{BlockLog}
use Rattle.lfs_model.proofs.Pages.{page_positive, aligned_commit_end-below}
use Rattle.lfs_model.proofs.WrittenAnew.{entries_of-reads}
use Rattle.lfs_model.proofs.WrittenSizes.{written_size}
use Rattle.lfs_pair.proofs.Committed.{Gets-has_commit}

-- the commit, in a buffer of a block
abbrev pub anew : (size page revision : ℕ) → RawContent → PartialCommit
anew size page revision c = record { page = page; room = size; previous = 0xffffffff; revision = Some revision; entries = content_entries c }

pub is_anew : {b started : PartialCommit} {size page revision room paged previous : ℕ} (c : RawContent) → b ≡ commit_with_entries (content_entries c) started
    → started ≡ record { page = paged; room = room; previous = previous; revision = Some revision; entries = [] } → room ≡ size → paged ≡ page → previous ≡ 0xffffffff → b ≡ anew size page revision c
is_anew {size = size} {page = page} {revision = revision} {room = room} {paged = paged} {previous = previous} c pushed start long pages before =
    pushed ∙ ap (commit_with_entries (content_entries c)) (start
    ∙ ap (λ n. record { page = paged; room = n; previous = previous; revision = Some revision; entries = [] }) long
    ∙ ap (λ n. record { page = n; room = size; previous = previous; revision = Some revision; entries = [] }) pages
    ∙ ap (λ n. record { page = page; room = size; previous = n; revision = Some revision; entries = [] }) before)

-- ---- it fits the block

anew_ends : (size page count revision : ℕ) (c : RawContent) → IsValidGeometry size page count → RawContentFitsInPair size page c → padded_commit_end (anew size page revision c) ≤ size
anew_ends size page count revision c valid fits =
    let end = aligned_commit_end-below page (4 + encoded_size (content_entries c)) (page_positive page valid.power) in
    omega (arith, end, written_size c, fits.size, valid.pages, valid.no_smaller)

pub anew_room : {b : PartialCommit} {size page count revision : ℕ} {c : RawContent} → b ≡ anew size page revision c → IsValidGeometry size page count → RawContentFitsInPair size page c → padded_commit_end b ≤ b.room
anew_room {size = size} {page} {count} {revision} {c} is valid fits = subst (λ (d : PartialCommit). padded_commit_end d ≤ d.room) (sym is) (anew_ends size page count revision c valid fits)

-- if it begins at 0
pub anew_within : {b : PartialCommit} {size page count revision : ℕ} {c : RawContent} → b ≡ anew size page revision c → IsValidGeometry size page count → RawContentFitsInPair size page c → 0 + padded_commit_end b ≤ size
anew_within {size = size} {page} {count} {revision} {c} is valid fits =
    let ends = anew_ends size page count revision c valid fits in subst (λ (d : PartialCommit). 0 + padded_commit_end d ≤ size) (sym is) (omega arith)

-- ---- what the block then holds

pub fits_sound : {c : RawContent} {size page : ℕ} → IsWellFormed c → AreNamed c.slots → RawContentFitsInPair size page c → IsStorable c
fits_sound logged names fits = record { logged = logged; names = names; few = omega (arith, fits.count) }

pub anew_holds : {b : PartialCommit} {size page revision : ℕ} {c : RawContent} {old : List ℕ} (new : List ℕ) → b ≡ anew size page revision c → IsStorable c → LogGetsCommit b old new → HasOneCommit revision c new
anew_holds {c = c} {old = old} new is sound gets =
    let got = subst (λ (d : PartialCommit). LogGetsCommit d old new) is gets in
    record {
      has_commit = Gets-has_commit got;
      revision_is = got.revision;
      content = appended_content new [] (content_entries c) got.checksum empty_raw_content c got.commits got.class refl (entries_of-reads c sound);
      checksum = got.checksum;
      class = got.class;
      commits = got.commits;
    }

-- ---- what a stop leaves before it is done

left_by_erase : {block revision : ℕ} {c : RawContent} {old : Blocks} (disk : Blocks) → SameExcept block old disk × MayEraseLeave (block_bytes old block) (block_bytes disk block)
    → DiffersInBlock block (LossLeavesRewritten revision c) old disk
left_by_erase disk left = (left.0, elim left.1 [ inl same ↦ inl same | inr none ↦ inr (inl none) ])

pub leaves_erase : {block revision : ℕ} {c : RawContent} {old mid : Blocks} {failed : Bool} {before after : List CallEvent} → after ≡ call_event (Erase block) old mid failed ∷ before
    → HoldsAtLosses LeftByLoss before after (DiffersInBlock block (LossLeavesRewritten revision c) old)
leaves_erase is = goes_on began is left_by_erase

left_anew : {b : PartialCommit} {size page revision : ℕ} {c : RawContent} (old mid left : List ℕ) → b ≡ anew size page revision c → IsStorable c → MayEraseLeave old mid
    → LossLeavesCommit b 0 mid left → LossLeavesRewritten revision c old left
left_anew old mid left is sound erased stopped = elim stopped [
  | inl same ↦ elim erased [ inl was ↦ inl (ap (option_map (λ (log : BlockLog). log.revision)) same ∙ was) | inr none ↦ inr (inl (same ∙ none)) ]
  | inr more ↦ elim more [
    | inl none ↦ inr (inl none.1)
    | inr gets ↦ inr (inr (anew_holds left is sound gets))
  ]
]

-- of an erase that leaves a log with the old one's revision or none, and of the commit behind it
pub leaves_anew : {b : PartialCommit} {size page revision block : ℕ} {c : RawContent} {old mid : Blocks} {before erased after : List CallEvent} → b ≡ anew size page revision c → IsStorable c
    → SameExcept block old mid → erased ≡ call_event (Erase block) old mid false ∷ before → HoldsAtLosses LeftByLoss erased after (DiffersInBlock block (LossLeavesCommit b 0) mid) → AllCallsSince ErasesCleanly before after
    → HoldsAtLosses LeftByLoss before after (DiffersInBlock block (LossLeavesRewritten revision c) old)
leaves_anew {revision = revision} {block = block} {c = c} {old = old} {mid = mid} {before = before} {erased = erased} is sound same here behind clean =
    let first : HoldsAtLosses LeftByLoss before erased (DiffersInBlock block (LossLeavesRewritten revision c) old) = leaves_erase here in
    let left : MayEraseLeave (block_bytes old block) (block_bytes mid block) = AllCallsSince-only (AllCallsSince-until clean first behind) here in
    goes_on_by first (HoldsAtLosses-weaker (λ disk stopped. (SameExcept-trans same stopped.0, left_anew (block_bytes old block) (block_bytes mid block) (block_bytes disk block) is sound left stopped.1)) behind)

-- ---- the end

pub nothing_more : (n : ℕ) → 0 + n ≡ n
nothing_more n = omega arith

pub anew_end : {b : PartialCommit} {size page revision : ℕ} (c : RawContent) (end : ℕ) → end ≡ 0 + padded_commit_end b → b ≡ anew size page revision c → end ≡ aligned_commit_end page (4 + encoded_size (content_entries c))
anew_end {page = page} c end is built = is ∙ ap (λ (d : PartialCommit). 0 + padded_commit_end d) built ∙ nothing_more (aligned_commit_end page (4 + encoded_size (content_entries c)))
