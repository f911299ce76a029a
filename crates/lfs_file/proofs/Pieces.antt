-- The bytes of a list, read from its blocks one after another.
use Rattle.std.proofs.Common.{ℕ, ◌≡◌, ◌+◌, ◌-◌, ◌<◌, ◌≤◌, get_or, min, List, length, take, drop, slice_index, sym, ap, ◌∙◌, subst, arith, length-drop}
use Rattle.std.specs.Prelude.{All, slice_range}
use Rattle.lfs_file.proofs.Common.{get_or-drop, Blocks, HasBlockSizes, block_bytes, BlockStates, IsByteInListBlock, IsSkipList, skip_list_block_count, list_bytes, length_back, IsTakenNotPending, KeepsTakenBytes, blocks_of_list, part_of_bytes, place-lt}
use Rattle.lfs_device.specs.declared.geometry.Geometry.{Geometry}
use Rattle.lfs_model.proofs.ListSizes.{pointer_count-le}
use Rattle.lfs_model.proofs.ListParts.{place-mono}
use Rattle.lfs_file.proofs.Releasings.{in_range_at}

-- a place by another name of the geometry
pub placed_by : (geometry made : Geometry) (pos i off : ℕ) → made ≡ geometry → IsByteInListBlock made.block_size pos i off → IsByteInListBlock geometry.block_size pos i off
placed_by geometry made pos i off same is = subst (λ (k : Geometry). IsByteInListBlock k.block_size pos i off) same is

module _ (d : Blocks) (block_size head size start from skip : ℕ) (items : List ℕ) (large : 1024 ≤ block_size) (begins : IsByteInListBlock block_size start from skip) (behind : items ≡ drop from (blocks_of_list d block_size head size)) where
  -- the block of a later byte is among those from an index on
  pub among : (pos i off : ℕ) → IsByteInListBlock block_size pos i off → start ≤ pos → pos < size → (from ≤ i) × (i - from < length items)
  among pos i off there le lt =
      let low = place-mono block_size start pos from i skip off begins there le in
      let index = place-lt block_size size pos i off large there lt in
      (low, omega (arith, ap length behind, length-drop from (blocks_of_list d block_size head size), length_back d (skip_list_block_count block_size size) head))

  pub is_there : (i block : ℕ) → from ≤ i → block ≡ get_or items (i - from) 0 → block ≡ slice_index (blocks_of_list d block_size head size) i
  is_there i block le is =
      let at : from + (i - from) ≡ i = omega arith in
      is
      ∙ ap (λ (l : List ℕ). get_or l (i - from) 0) behind
      ∙ get_or-drop from (blocks_of_list d block_size head size) (i - from) 0
      ∙ ap (λ k. get_or (blocks_of_list d block_size head size) k 0) at

module _ (d : Blocks) (block_size count head size : ℕ) (large : 1024 ≤ block_size) (shape : HasBlockSizes block_size count d) (list : IsSkipList d block_size head size) where
  pub on_device : (pos i off block : ℕ) → IsByteInListBlock block_size pos i off → pos < size → block ≡ slice_index (blocks_of_list d block_size head size) i → block < count
  on_device pos i off block place lt is =
      let within = in_range_at d (skip_list_block_count block_size size) head i list.blocks (place-lt block_size size pos i off large place lt) in
      omega (arith, within, is, shape.count)

  -- what was read from a block that stands apart
  pub piece : (map : BlockStates) (pending : List ℕ) (e : Blocks) (pos n i off block : ℕ) (taken : List ℕ) → KeepsTakenBytes map pending d e → All (IsTakenNotPending map pending) (blocks_of_list d block_size head size)
      → IsByteInListBlock block_size pos i off → pos < size → n ≡ min (block_size - off) (size - pos) → block ≡ slice_index (blocks_of_list d block_size head size) i
      → taken ≡ slice_range (block_bytes e block) off (off + n) → taken ≡ slice_range (list_bytes d block_size head size) pos (pos + n)
  piece map pending e pos n i off block taken spared apart place lt many is read =
      let b : ℕ = slice_index (blocks_of_list d block_size head size) i in
      let low = place.from in
      let high = place.below in
      let at = place.at in
      let few = pointer_count-le i in
      let index = place-lt block_size size pos i off large place lt in
      let same : block_bytes e b ≡ block_bytes d b = spared.same b (apart i 0 (omega (arith, index, length_back d (skip_list_block_count block_size size) head))) in
      let short : off + n - off ≡ n = omega arith in
      read
      ∙ ap (λ k. take k (drop off (block_bytes e block))) short
      ∙ ap (λ x. take n (drop off (block_bytes e x))) is
      ∙ ap (λ (l : List ℕ). take n (drop off l)) same
      ∙ ap (λ k. take n (drop k (block_bytes d b))) at
      ∙ sym (part_of_bytes d block_size large head size count shape list.blocks i pos n index low (omega arith) (omega arith))
