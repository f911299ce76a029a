use Rattle.std.proofs.Common.{ℕ, ◌≡◌, ◌≤◌, ◌+◌, ◌-◌, take, slice_index, ap, subst, ◌∙◌, arith}
use Rattle.lfs_file.proofs.Common.{err_from_is_err_and, Blocks, HasBlockSizes, AreListBlocks, IsSkipList, IsByteInListBlock, blocks_to_head, skip_list_block_count, list_bytes, ListHoldsBytes}
use Rattle.lfs_device.specs.declared.geometry.Geometry.{Geometry}
use Rattle.lfs_file.proofs.Geometries.{chain, last_is, shaped, sized}
use Rattle.lfs_file.proofs.Resumed.{front_end}
use Rattle.lfs_file.proofs.Sizes.{blocks_for-last, place-lt}
use Rattle.lfs_file.proofs.front.truncated_head.Goals as goal

pub overflow_sub-blocks_for : goal.overflow_sub-blocks_for
overflow_sub-blocks_for g c =
    let some = c.requires.some in
    let within = c.requires.within in
    let last = blocks_for-last c.geometry-block_size.result.block_size c.args.size c.geometry-block_size.result.valid.no_smaller (omega arith) in
    omega (arith, last.1.0, c.blocks_for.ensures)

pub find_block_at-requires : goal.find_block_at-requires
find_block_at-requires g c =
    let lt = place-lt c.geometry-block_size.result.block_size c.args.size _ _ _ c.geometry-block_size.result.valid.no_smaller c.place-index.ensures (let s = c.requires.some in let w = c.requires.within in omega arith) in
    omega (arith, lt, c.blocks_for.ensures)

front_of : (d : Blocks) (geometry made : Geometry) (head size keep n i off block : ℕ) → made ≡ geometry → n ≡ skip_list_block_count made.block_size size → HasBlockSizes geometry.block_size geometry.block_count d → 1 ≤ keep → keep ≤ size
    → IsByteInListBlock made.block_size (keep - 1) i off → (AreListBlocks d (n - 1 + 1) head → block ≡ slice_index (blocks_to_head d (n - 1 + 1) head) i) → IsSkipList d geometry.block_size head size
    → ListHoldsBytes d geometry.block_size block keep (take keep (list_bytes d geometry.block_size head size)) (take (skip_list_block_count geometry.block_size keep) (blocks_to_head d (skip_list_block_count geometry.block_size size) head))
front_of d geometry made head size keep n i off block e is shape some within place found list =
    let large = made.valid.no_smaller in
    let same = sized d head size geometry made e list in
    let here : block ≡ slice_index (blocks_to_head d (skip_list_block_count made.block_size size) head) i =
    found (chain d made.block_size head size n large is same) ∙ ap (λ k. slice_index (blocks_to_head d k head) i) (last_is made.block_size size n large list.size_low is) in
    subst (λ (k : Geometry). ListHoldsBytes d k.block_size block keep (take keep (list_bytes d k.block_size head size)) (take (skip_list_block_count k.block_size keep) (blocks_to_head d (skip_list_block_count k.block_size size) head))) e
    (front_end d made.block_size geometry.block_count head size keep i off block large (shaped d geometry made e shape) same some within place here (let high = list.size_high in omega arith))

pub returns-clause-front : goal.returns-clause-front
returns-clause-front g c list =
    front_of (g.D.BlockDevice.blocks c.args.dev.now) _ _ c.args.head c.args.size c.args.keep _ _ _ _ c.geometry-block_size.ensures c.blocks_for.ensures (g.met.D.BlockDevice.shape c.args.dev.now) c.requires.some c.requires.within
    c.place-index.ensures c.in_ok-block.ensures.found list

pub returns-in_err-block-clause-corrupt : goal.returns-in_err-block-clause-corrupt
returns-in_err-block-clause-corrupt g c =
    let p = err_from_is_err_and c.from_residual.result c.from_residual.ensures.1 in
    rw (p.1, p.2) (λ is list. c.in_err-block.ensures.corrupt is
    (chain _ _ _ _ _ c.geometry-block_size.result.valid.no_smaller c.blocks_for.ensures (sized _ _ _ _ _ c.geometry-block_size.ensures list)))
