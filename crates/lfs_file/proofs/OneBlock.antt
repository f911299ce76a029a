-- Bytes of a file that are all in one block of its list.
use Rattle.std.proofs.Common.{ℕ, ◌≡◌, ◌*◌, ◌+◌, ◌-◌, ◌<◌, ◌≤◌, ◌^◌, List, min, take, drop, slice_index, slice_range, sym, ap, subst, ◌∙◌, arith}
use Rattle.lfs_file.proofs.Common.{Blocks, HasBlockSizes, block_bytes, CallEvent, read_count, IsByteInListBlock, IsSkipList, bytes_before_block, list_bytes, skip_list_block_count, blocks_to_head, pointer_count, part_of_bytes, AreKnownBlocks, IsKnownIndex, ReadsKnownList, index_row}
use Rattle.lfs_file.specs.declared.known.IndexCache.{IndexCache}
use Rattle.lfs_file.proofs.Chains.{length_back}
use Rattle.lfs_file.proofs.Sizes.{place-le, place-lt, place_unique, pointer_count-le}

-- n bytes from a position on are in the block with this index, which is known
pub record IsInKnownBlock (known : IndexCache) (block_size size pos n i off block : ℕ) : Type 0 where
  pub large : 1024 ≤ block_size
  pub high : size < 2 ^ 32
  pub some : 1 ≤ n
  pub within : pos + n ≤ size
  pub first : IsByteInListBlock block_size pos i off
  pub end : ℕ
  pub last : IsByteInListBlock block_size (pos + n - 1) i end
  pub known_at : IsKnownIndex known i
  pub block_is : block ≡ slice_index known.blocks (index_row i)

module _ {known : IndexCache} {block_size size pos n i off block : ℕ} (there : IsInKnownBlock known block_size size pos n i off block) where
  pub fits_block : off + n ≤ block_size
  fits_block =
      let at = there.first.at in
      let low = there.first.from in
      let high = there.last.below in
      let some = there.some in
      let large = there.large in
      let few = pointer_count-le i in
      omega arith

  index_low : i < skip_list_block_count block_size size
  index_low = let some = there.some in let within = there.within in place-lt block_size size pos i off there.large there.first (omega arith)

  pub few_for_one : (count : ℕ) (old new : List CallEvent) → n ≡ min count (size - pos) → read_count new ≤ read_count old + 1 → ReadsKnownList block_size size pos count known known old new
  few_for_one count old new is one first last off' end' at_first at_last =
      let same_first = place_unique block_size pos i first off off' there.first at_first in
      let same_last = place_unique block_size (pos + n - 1) i last there.end end' there.last (subst (λ k. IsByteInListBlock block_size (pos + k - 1) last end') (sym is) at_last) in
      record {
        now = λ some. subst (IsKnownIndex known) same_last there.known_at;
        few = λ m le. omega arith;
        near = λ j is_known low below. omega arith;
      }

  pub known_bytes : (d : Blocks) (count head : ℕ) → HasBlockSizes block_size count d → IsSkipList d block_size head size → AreKnownBlocks (blocks_to_head d (skip_list_block_count block_size size) head) known
      → slice_range (block_bytes d block) off (off + n) ≡ slice_range (list_bytes d block_size head size) pos (pos + n)
  known_bytes d count head shape ok listed =
      let low = index_low in
      let small = place-le block_size pos i off there.large there.first in
      let some = there.some in
      let within = there.within in
      let size_high = there.high in
      let last = there.last.below in
      let from = there.first.from in
      let len = length_back d (skip_list_block_count block_size size) head in
      let at : slice_index known.indices (index_row i) ≡ i = there.known_at in
      let row : index_row i < 32 = omega arith in
      let is = listed (index_row i) row (omega (arith, at)) (omega (arith, at, len)) in
      let block_at : block ≡ slice_index (blocks_to_head d (skip_list_block_count block_size size) head) i = there.block_is ∙ is ∙ ap (slice_index (blocks_to_head d (skip_list_block_count block_size size) head)) at in
      let short : off + n - off ≡ n = omega arith in
      ap (λ k. take k (drop off (block_bytes d block))) short
      ∙ ap (λ k. take n (drop k (block_bytes d block))) there.first.at
      ∙ ap (λ b. take n (drop (4 * pointer_count i + (pos - bytes_before_block block_size i)) (block_bytes d b))) block_at
      ∙ sym (part_of_bytes d block_size there.large head size count shape ok.blocks i pos n low from (omega arith) within)
