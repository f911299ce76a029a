-- A pair keeps its content if nothing is written to its two blocks.
use Rattle.std.specs.Prelude.{All}
use Rattle.std.proofs.Common.{ℕ, ◌≡◌, ◌≢◌, Bool, true, false, cond, List, Some, sym, ap, ap₂, ◌∙◌, subst}
use Rattle.lfs_pair.proofs.Common.{Blocks, SameExceptBlocks, Disk, disk_block, block_revision, CallEvent, OthersStayUnprogrammed, RawContent, AreElsewhere, current_block-stays, raw_content-stays, IsTrueHeader, HeaderDescribesLog, is_second_active, active_block_at, header_address, HeaderSaysActive, HasWrittenContent}
use Rattle.lfs_model.proofs.Histories.{AreUnprogrammed-stays}
use Rattle.lfs_pair.specs.declared.pair.Pair.{Pair}

-- ---- on the disk

pub active_block_at-stays : {at : ℕ × ℕ} {bs : List ℕ} (disk : Disk) {blocks : Blocks} → AreElsewhere at bs → SameExceptBlocks bs disk.blocks blocks
    → active_block_at (record disk { blocks = blocks }) at ≡ active_block_at disk at
active_block_at-stays {at} disk elsewhere same =
    ap₂ (λ a b. cond (is_second_active a b) at.1 at.0) (same.others at.0 elsewhere.first) (same.others at.1 elsewhere.second)

-- ---- as the pair says

-- the active block isn't one of those either
pub active_elsewhere : {at : ℕ × ℕ} {bs : List ℕ} (disk : Disk) (active : ℕ) → AreElsewhere at bs → active ≡ active_block_at disk at → All (λ b. b ≢ active) bs
active_elsewhere {at} {bs} disk active elsewhere is = go (is_second_active (disk_block disk at.0) (disk_block disk at.1)) is
  where
    go : (s : Bool) → active ≡ cond s at.1 at.0 → All (λ b. b ≢ active) bs
    go true e = subst (λ (a : ℕ). All (λ b. b ≢ a) bs) (sym e) elsewhere.second
    go false e = subst (λ (a : ℕ). All (λ b. b ≢ a) bs) (sym e) elsewhere.first

pub HeaderSaysActive-stays : {bs : List ℕ} {disk : Disk} {blocks : Blocks} {pair : Pair} → AreElsewhere (header_address pair) bs → SameExceptBlocks bs disk.blocks blocks
    → HeaderSaysActive disk pair → HeaderSaysActive (record disk { blocks = blocks }) pair
HeaderSaysActive-stays {disk = disk} {pair = pair} elsewhere same is =
    let block = same.others pair.active (active_elsewhere disk pair.active elsewhere is.active) in
    record {
      active = is.active ∙ sym (active_block_at-stays disk elsewhere same);
      holds = current_block-stays disk elsewhere same ∙ is.holds ∙ ap Some (sym block);
      revision_is = is.revision_is ∙ ap block_revision (sym block);
    }

pub IsTrueHeader-stays : {bs : List ℕ} {disk : Disk} {blocks : Blocks} {before after : List CallEvent} {pair : Pair} {held : RawContent}
    → AreElsewhere (header_address pair) bs → SameExceptBlocks bs disk.blocks blocks → OthersStayUnprogrammed bs before after → IsTrueHeader disk before pair held → IsTrueHeader (record disk { blocks = blocks }) after pair held
IsTrueHeader-stays {disk = disk} {pair = pair} {held} elsewhere same stay is =
    let apart = active_elsewhere disk pair.active elsewhere is.active in
    let block = same.others pair.active apart in
    record {
      active = is.active ∙ sym (active_block_at-stays disk elsewhere same);
      holds = current_block-stays disk elsewhere same ∙ is.holds ∙ ap Some (sym block);
      describes = subst (λ b. HeaderDescribesLog b pair held) (sym block) is.describes;
      whole_pages = is.whole_pages;
      unprogrammed = λ written. AreUnprogrammed-stays pair.active stay apart (is.unprogrammed written);
    }

-- a pair's address is that of its blocks
pub NowHolds-stays : {at : ℕ × ℕ} {bs : List ℕ} {disk : Disk} {blocks : Blocks} {before after : List CallEvent} {pair : Pair} {held : RawContent}
    → AreElsewhere at bs → SameExceptBlocks bs disk.blocks blocks → OthersStayUnprogrammed bs before after → HasWrittenContent disk before at pair held → HasWrittenContent (record disk { blocks = blocks }) after at pair held
NowHolds-stays {bs = bs} {disk = disk} elsewhere same stay holds = record {
  is_pair = IsTrueHeader-stays (subst (λ a. AreElsewhere a bs) (sym holds.same) elsewhere) same stay holds.is_pair;
  same = holds.same;
  content = raw_content-stays disk elsewhere same ∙ holds.content;
  written = holds.written;
}
