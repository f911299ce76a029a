use Rattle.std.proofs.Common.{ℕ, ◌≡◌, ◌<◌, ◌≤◌, ◌+◌, ◌-◌, ◌^◌, min, slice_index, slice_range, sym, ap, subst, ◌∙◌, arith}
use Rattle.lfs_device.specs.declared.geometry.Geometry.{Geometry}
use Rattle.lfs_file.proofs.Common.{Blocks, block_bytes, IsByteInListBlock, list_bytes, skip_list_block_count, ReadsKnownList, index_row}
use Rattle.lfs_file.specs.declared.known.IndexCache.{IndexCache}
use Rattle.lfs_file.proofs.Geometries.{shaped, sized}
use Rattle.lfs_file.proofs.OneBlock.{IsInKnownBlock, few_for_one, known_bytes}
use Rattle.lfs_file.proofs.Recalled.{known_by}
use Rattle.lfs_file.proofs.known.IndexCache.find_cached_part.Goals as goal

found_in : (known : IndexCache) (block_size size pos room n i off last end row : ℕ) → 1024 ≤ block_size → size < 2 ^ 32 → pos < size → 1 ≤ room → n ≡ min room (size - pos) → IsByteInListBlock block_size pos i off → IsByteInListBlock block_size (pos + n - 1) last end
    → last ≡ i → row ≡ index_row i → slice_index known.indices row ≡ i → IsInKnownBlock known block_size size pos n i off (slice_index known.blocks row)
found_in known block_size size pos room n i off last end row large high low some is first there same row_is at = record {
  large = large;
  high = high;
  some = omega arith;
  within = omega arith;
  first = first;
  end = end;
  last = subst (λ k. IsByteInListBlock block_size (pos + n - 1) k end) same there;
  known_at = ap (slice_index known.indices) (sym row_is) ∙ at;
  block_is = ap (slice_index known.blocks) row_is;
}

pub returns-clause-bytes : goal.returns-clause-bytes
returns-clause-bytes g c head ok listed =
    let d : Blocks = g.D.BlockDevice.blocks c.args.dev.now in
    let made = c.geometry-geometry.ensures in
    let room = c.if-room-eq0.false in
    let there = found_in c.args.self.now c.geometry-geometry.result.block_size c.args.size c.args.pos c.args.room c.min-len.result _ _ _ _ _ c.geometry-geometry.result.valid.no_smaller (omega (arith, c.ranges.size.fits)) (omega arith) (omega arith) c.min-len.ensures
    c.place-index.ensures c.place-last.ensures c.if-last-index.false c.index_row-row.ensures c.if-self-row.false in
    subst (λ (k : Geometry). slice_range (block_bytes d (slice_index c.args.self.now.blocks c.index_row-row.result)) c.place-index.result.1 (c.place-index.result.1 + c.min-len.result) ≡ slice_range (list_bytes d k.block_size head c.args.size) c.args.pos (c.args.pos + c.min-len.result)) made
    (known_bytes there d _ head (shaped d _ _ made (g.met.D.BlockDevice.shape c.args.dev.now)) (sized d head c.args.size _ _ made ok)
    (known_by d head _ _ c.args.self.now (sym (ap (λ (k : Geometry). skip_list_block_count k.block_size c.args.size) made)) listed))

pub returns-clause-few : goal.returns-clause-few
returns-clause-few g c old new one =
    let made = c.geometry-geometry.ensures in
    let room = c.if-room-eq0.false in
    let there = found_in c.args.self.now c.geometry-geometry.result.block_size c.args.size c.args.pos c.args.room c.min-len.result _ _ _ _ _ c.geometry-geometry.result.valid.no_smaller (omega (arith, c.ranges.size.fits)) (omega arith) (omega arith) c.min-len.ensures
    c.place-index.ensures c.place-last.ensures c.if-last-index.false c.index_row-row.ensures c.if-self-row.false in
    subst (λ (k : Geometry). ReadsKnownList k.block_size c.args.size c.args.pos c.args.room c.args.self.now c.args.self.now old new) made (few_for_one there c.args.room old new c.min-len.ensures one)
