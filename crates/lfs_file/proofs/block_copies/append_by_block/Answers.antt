use Rattle.std.proofs.Common.{rules, ℕ, inl, ◌≡◌, ◌+◌, ◌-◌, ◌<◌, ◌≤◌, get_or, List, ◌++◌, length, min, take, drop, slice_index, refl, sym, ap, ◌∙◌, subst, arith}
use Rattle.lfs_file.proofs.Common.{length-take-le, err_from_is_err_and, Blocks, HasBlockSizes, IsByteInListBlock, IsSkipList, blocks_to_head, skip_list_block_count, list_bytes, skip_list_block_count-more, DiskHasList, growing_bytes, lasting_blocks, growing_size_with, GrowsInFree, HasBlocksTaken, blocks_of_list, CanEndAlone, place-lt}
use Rattle.std.proofs.lemmas.List.{get_or_read}
use Rattle.lfs_device.specs.declared.geometry.Geometry.{Geometry}
use Rattle.lfs_file.proofs.ContentsCalled.{apart_on, apart_read, apart_reads, quiet, reported_as, reported_on}
use Rattle.lfs_file.proofs.Copies.{base_list, grown_on, copied, none_behind, sized}
use Rattle.lfs_file.proofs.Growth.{GrowsInFree-refl, Keeps-refl, Keeps-trans}
use Rattle.lfs_file.proofs.Pieces.{among, is_there, on_device, piece, placed_by}
use Rattle.lfs_file.proofs.block_copies.append_by_block.Goals as goal

pub blocks_from_index-requires-clause-within : goal.blocks_from_index-requires-clause-within
blocks_from_index-requires-clause-within g c =
    let behind = c.requires.behind in
    let lt = place-lt c.geometry-block_size.result.block_size c.args.base.size _ _ _ c.geometry-block_size.result.valid.no_smaller c.place-from.ensures (omega (arith, c.size.ensures)) in
    omega (arith, lt, c.blocks_for.ensures)

pub returns-in_err-blocks-clause-writing : goal.returns-in_err-blocks-clause-writing
returns-in_err-blocks-clause-writing g c =
    let p = err_from_is_err_and c.from_residual.result c.from_residual.ensures.1 in
    let reports = c.in_err-blocks.ensures.reports in
    rw (p.1, p.2) (record {
      map = Keeps-refl _;
      device = apart_reads g.D.BlockDevice _ _ c.blocks_from_index.ensures.device;
      reports = record { faults = reported_as g.D.BlockDevice reports.faults; errors = reports.errors };
    })

pub copying-init : goal.copying-init
copying-init g c =
    let was = c.args.list.now in
    let map = c.args.map.now in
    let d : Blocks = g.D.BlockDevice.blocks c.args.dev.now in
    let block_size : ℕ = c.args.list.now.geometry.block_size in
    let same = c.blocks_from_index.ensures.device.same in
    record {
      growing = subst (λ x. DiskHasList x was) (sym same) c.requires.can.growing;
      same = refl;
      grown = subst (λ x. GrowsInFree map d was map x was) (sym same) (GrowsInFree-refl _ _ _);
      marked = subst (λ x. HasBlocksTaken map x was) (sym same) c.requires.can.marked;
      map = Keeps-refl _;
      device = apart_reads g.D.BlockDevice _ _ c.blocks_from_index.ensures.device;
      own = subst (λ x. CanEndAlone x was) (sym same) c.requires.can.own;
      some = omega arith;
      top = omega arith;
      bytes = ap (λ (x : Blocks). growing_bytes x was ++ drop (growing_size_with block_size was) (list_bytes d block_size c.args.base.head c.args.base.size)) same;
      quiet = quiet g.D.BlockDevice c.in_ok-blocks.ensures.reports.faults;
    }

-- the blocks that were collected, by the geometry of the list
collected : (d : Blocks) (geometry made : Geometry) (head size n from : ℕ) (items : List ℕ) → made ≡ geometry → n ≡ skip_list_block_count made.block_size size → items ≡ drop from (blocks_to_head d n head)
    → items ≡ drop from (blocks_of_list d geometry.block_size head size)
collected d geometry made head size n from items same count is = is ∙ ap (λ k. drop from (blocks_to_head d k head)) (count ∙ ap (λ (k : Geometry). skip_list_block_count k.block_size size) same)

pub overflow_sub-index : goal.overflow_sub-index
overflow_sub-index g c =
    let inv = c.copying.invariant in
    let d : Blocks = g.D.BlockDevice.blocks c.args.dev.now in
    let geometry : Geometry = c.args.list.now.geometry in
    let made = c.geometry-block_size.ensures ∙ c.requires.can.geometry in
    let here = sized geometry c.copying.list.geometry c.copying.list inv.same in
    let some = inv.some in
    let start = c.size.ensures in
    let at = c.size-pos.ensures in
    let test = c.copying-test.true in
    let len = c.size-in-copying.ensures in
    (among d geometry.block_size c.args.base.head c.args.base.size c.size.result c.place-from.result.0 c.place-from.result.1 c.in_ok-blocks.blocks.items geometry.valid.no_smaller
    (placed_by geometry _ _ _ _ made c.place-from.ensures) (collected d geometry _ c.args.base.head c.args.base.size _ _ _ made c.blocks_for.ensures c.in_ok-blocks.ensures.blocks)
    c.size-pos.result c.place-index.result.0 c.place-index.result.1 (placed_by geometry _ _ _ _ made c.place-index.ensures) (omega arith) (omega arith)).0

pub index-block-requires : goal.index-block-requires
index-block-requires g c =
    let inv = c.copying.invariant in
    let d : Blocks = g.D.BlockDevice.blocks c.args.dev.now in
    let geometry : Geometry = c.args.list.now.geometry in
    let made = c.geometry-block_size.ensures ∙ c.requires.can.geometry in
    let here = sized geometry c.copying.list.geometry c.copying.list inv.same in
    let some = inv.some in
    let start = c.size.ensures in
    let at = c.size-pos.ensures in
    let test = c.copying-test.true in
    let len = c.size-in-copying.ensures in
    let lt = (among d geometry.block_size c.args.base.head c.args.base.size c.size.result c.place-from.result.0 c.place-from.result.1 c.in_ok-blocks.blocks.items geometry.valid.no_smaller
    (placed_by geometry _ _ _ _ made c.place-from.ensures) (collected d geometry _ c.args.base.head c.args.base.size _ _ _ made c.blocks_for.ensures c.in_ok-blocks.ensures.blocks)
    c.size-pos.result c.place-index.result.0 c.place-index.result.1 (placed_by geometry _ _ _ _ made c.place-index.ensures) (omega arith) (omega arith)).1 in
    omega (arith, lt, c.in_ok-blocks.blocks.ok.0)

-- the block that was read of those that were collected
read_of : (d : Blocks) (geometry made : Geometry) (head size n start from skip pos i off block : ℕ) (items : List ℕ) → made ≡ geometry → n ≡ skip_list_block_count made.block_size size → items ≡ drop from (blocks_to_head d n head)
    → IsByteInListBlock made.block_size start from skip → IsByteInListBlock made.block_size pos i off → start ≤ pos → pos < size → ((i - from < length items) → block ≡ get_or items (i - from) 0)
    → block ≡ slice_index (blocks_of_list d geometry.block_size head size) i
read_of d geometry made head size n start from skip pos i off block items same count is begins place le lt read =
    let whole = collected d geometry made head size n from items same count is in
    let first = placed_by geometry made start from skip same begins in
    let there = placed_by geometry made pos i off same place in
    let large = geometry.valid.no_smaller in
    let both = among d geometry.block_size head size start from skip items large first whole pos i off there le lt in
    is_there d geometry.block_size head size start from skip items large first whole i block both.0 (read both.1)

shaped : (d : Blocks) (geometry now : Geometry) → now ≡ geometry → HasBlockSizes now.block_size now.block_count d → HasBlockSizes geometry.block_size geometry.block_count d
shaped d geometry now same shape = subst (λ (k : Geometry). HasBlockSizes k.block_size k.block_count d) same shape

pub read_from_block-requires-clause-place : goal.read_from_block-requires-clause-place
read_from_block-requires-clause-place g c =
    let inv = c.copying.invariant in
    let d : Blocks = g.D.BlockDevice.blocks c.args.dev.now in
    let geometry : Geometry = c.args.list.now.geometry in
    let made = c.geometry-block_size.ensures ∙ c.requires.can.geometry in
    let here = sized geometry c.copying.list.geometry c.copying.list inv.same in
    let some = inv.some in
    let start = c.size.ensures in
    let at = c.size-pos.ensures in
    let test = c.copying-test.true in
    let len = c.size-in-copying.ensures in
    let list : IsSkipList d geometry.block_size c.args.base.head c.args.base.size = base_list d geometry.block_size c.args.base.head c.args.base.size (omega arith) c.requires.can.apart.base in
    let is = read_of d geometry _ c.args.base.head c.args.base.size _ c.size.result c.place-from.result.0 c.place-from.result.1 c.size-pos.result c.place-index.result.0 c.place-index.result.1 c.index-block.result.now c.in_ok-blocks.blocks.items
    made c.blocks_for.ensures c.in_ok-blocks.ensures.blocks c.place-from.ensures c.place-index.ensures (omega arith) (omega arith) (λ lt. get_or_read c.in_ok-blocks.blocks.items _ _ lt c.index-block.ensures 0) in
    let lt = on_device d geometry.block_size geometry.block_count c.args.base.head c.args.base.size geometry.valid.no_smaller (shaped d geometry _ c.requires.can.geometry (g.met.D.BlockDevice.shape c.args.dev.now)) list
    c.size-pos.result c.place-index.result.0 c.place-index.result.1 c.index-block.result.now (placed_by geometry _ _ _ _ made c.place-index.ensures) (omega arith) is in
    let same = inv.device.geometry ∙ c.requires.can.geometry in
    (subst (λ (k : Geometry). c.index-block.result.now < k.block_count) (sym same) lt, (let at = c.place-index.ensures.at in let from = c.place-index.ensures.from in let below = c.place-index.ensures.below in let e = ap (λ (k : Geometry). k.block_size) inv.device.geometry in let made = ap (λ (k : Geometry). k.block_size) c.geometry-block_size.ensures in omega arith))

pub returns-in_err-count-clause-writing : goal.returns-in_err-count-clause-writing
returns-in_err-count-clause-writing g c =
    let inv = c.copying.invariant in
    let p = err_from_is_err_and c.from_residual-in_err-count.result c.from_residual-in_err-count.ensures.1 in
    let reading = c.in_err-count.ensures.reading in
    rw (p.1, p.2) (record {
      map = inv.map;
      device = apart_read g.D.BlockDevice inv.device reading.device;
      reports = record { faults = reported_on g.D.BlockDevice inv.quiet (reported_as g.D.BlockDevice reading.reports.faults); errors = inl reading.reports.errors };
    })

pub returns-in_err-extend_list-clause-writing : goal.returns-in_err-extend_list-clause-writing
returns-in_err-extend_list-clause-writing g c =
    let inv = c.copying.invariant in
    let p = err_from_is_err_and c.from_residual-in_err-extend_list.result c.from_residual-in_err-extend_list.ensures.1 in
    let reports = c.in_err-extend_list.ensures.reports in
    rw (p.1, p.2) (record {
      map = Keeps-trans inv.map c.extend_list.ensures.map;
      device = apart_on g.D.BlockDevice inv.grown.apart (apart_read g.D.BlockDevice inv.device c.read_from_block.ensures.reading.device) c.extend_list.ensures.device;
      reports = record {
        faults = reported_on g.D.BlockDevice (quiet g.D.BlockDevice c.in_ok-count.ensures.reading.reports.faults ∙ inv.quiet) (reported_as g.D.BlockDevice reports.faults);
        errors = reports.errors;
      };
    })

pub extend_list-requires : goal.extend_list-requires
extend_list-requires g c = record {
  growing = search rules;
  geometry = search rules;
  some = search rules;
  small = search rules;
  marked = search rules;
  room =
      let inv = c.copying.invariant in
      let geometry : Geometry = c.args.list.now.geometry in
      let block_size : ℕ = geometry.block_size in
      let now = c.copying.list in
      let n : ℕ = c.in_ok-count.count in
      let at = c.size-pos.ensures in
      let test = c.copying-test.true in
      let len = c.size-in-copying.ensures in
      let here = sized geometry c.copying.list.geometry now inv.same in
      let some_read = c.in_ok-count.ensures.read.some in
      let few = c.in_ok-count.ensures.read.least in
      let long : length (take n c.read_from_block.new.buf) ≡ n = length-take-le n c.read_from_block.new.buf c.in_ok-count.ensures.read.within in
      let more = skip_list_block_count-more block_size (growing_size_with block_size now + length (take n c.read_from_block.new.buf)) c.args.base.size (omega arith) in
      let same = ap (λ (k : Geometry). skip_list_block_count k.block_size (growing_size_with k.block_size now + length (take n c.read_from_block.new.buf))) inv.same in
      let kept = ap (λ (x : Blocks). length (lasting_blocks x now)) c.read_from_block.ensures.reading.device.same in
      let count = inv.grown.count in
      let states = inv.map.count in
      let used = inv.map.used in
      let room = c.requires.can.room in
      omega arith;
}

pub copying-preserved : goal.copying-preserved
copying-preserved g c =
    let inv = c.copying.invariant in
    let geometry : Geometry = c.args.list.now.geometry in
    let block_size : ℕ = geometry.block_size in
    let d : Blocks = g.D.BlockDevice.blocks c.args.dev.now in
    let base : List ℕ = list_bytes d block_size c.args.base.head c.args.base.size in
    let now = c.copying.list in
    let new = c.extend_list.new.list in
    let n : ℕ = c.in_ok-count.count in
    let pos : ℕ = c.size-pos.result in
    let made = c.geometry-block_size.ensures ∙ c.requires.can.geometry in
    let more = c.in_ok-extend_list.ensures.extended in
    let here = sized geometry c.copying.list.geometry now inv.same in
    let there = sized geometry c.extend_list.new.list.geometry new (more.geometry ∙ inv.same) in
    let start = c.size.ensures in
    let at = c.size-pos.ensures in
    let test = c.copying-test.true in
    let len = c.size-in-copying.ensures in
    let sum = more.sum in
    let some_read = c.in_ok-count.ensures.read.some in
    let few = c.in_ok-count.ensures.read.least in
    let long : length (take n c.read_from_block.new.buf) ≡ n = length-take-le n c.read_from_block.new.buf c.in_ok-count.ensures.read.within in
    let some = inv.some in
    let list : IsSkipList d block_size c.args.base.head c.args.base.size = base_list d block_size c.args.base.head c.args.base.size (omega arith) c.requires.can.apart.base in
    let is = read_of d geometry _ c.args.base.head c.args.base.size _ c.size.result c.place-from.result.0 c.place-from.result.1 pos c.place-index.result.0 c.place-index.result.1 c.index-block.result.now c.in_ok-blocks.blocks.items
    made c.blocks_for.ensures c.in_ok-blocks.ensures.blocks c.place-from.ensures c.place-index.ensures (omega arith) (omega arith) (λ lt. get_or_read c.in_ok-blocks.blocks.items _ _ lt c.index-block.ensures 0) in
    let many = few ∙ ap (λ (k : Geometry). min (k.block_size - c.place-index.result.1) (c.args.base.size - pos)) (inv.device.geometry ∙ c.requires.can.geometry) in
    let chunk = piece d block_size geometry.block_count c.args.base.head c.args.base.size geometry.valid.no_smaller (shaped d geometry _ c.requires.can.geometry (g.met.D.BlockDevice.shape c.args.dev.now)) list
    _ _ _ pos n c.place-index.result.0 c.place-index.result.1 c.index-block.result.now (take n c.read_from_block.new.buf) inv.device.spared c.requires.can.apart.apart
    (placed_by geometry _ _ _ _ made c.place-index.ensures) (omega arith) many is c.in_ok-count.ensures.read.bytes in
    record {
      growing = more.growing;
      same = more.geometry ∙ inv.same;
      grown = grown_on _ _ _ _ _ _ _ _ _ _ c.read_from_block.ensures.reading.device.same inv.map inv.grown more.grown;
      marked = more.marked;
      map = Keeps-trans inv.map c.extend_list.ensures.map;
      device = apart_on g.D.BlockDevice inv.grown.apart (apart_read g.D.BlockDevice inv.device c.read_from_block.ensures.reading.device) c.extend_list.ensures.device;
      own = more.own;
      some = omega arith;
      top = omega arith;
      bytes = ap (λ (l : List ℕ). l ++ drop (growing_size_with block_size new) base) (more.content ∙ ap (λ (x : Blocks). growing_bytes x now ++ take n c.read_from_block.new.buf) c.read_from_block.ensures.reading.device.same)
          ∙ ap (λ k. growing_bytes (g.D.BlockDevice.blocks c.copying.dev) now ++ take n c.read_from_block.new.buf ++ drop k base) (let k : growing_size_with block_size new ≡ pos + n = omega arith in k)
          ∙ copied (growing_bytes (g.D.BlockDevice.blocks c.copying.dev) now) (take n c.read_from_block.new.buf) base pos n chunk
          ∙ ap (λ k. growing_bytes (g.D.BlockDevice.blocks c.copying.dev) now ++ drop k base) (let k : pos ≡ growing_size_with block_size now = omega arith in k)
          ∙ inv.bytes;
      quiet = quiet g.D.BlockDevice c.in_ok-extend_list.ensures.reports.faults ∙ quiet g.D.BlockDevice c.in_ok-count.ensures.reading.reports.faults ∙ inv.quiet;
    }

pub returns-clause-extended : goal.returns-clause-extended
returns-clause-extended g c =
    let inv = c.copying.invariant in
    let geometry : Geometry = c.args.list.now.geometry in
    let block_size : ℕ = geometry.block_size in
    let d : Blocks = g.D.BlockDevice.blocks c.args.dev.now in
    let now = c.copying.list in
    let here = sized geometry c.copying.list.geometry now inv.same in
    let test = c.copying-test.false in
    let len = c.size-in-copying.ensures in
    let some = inv.some in
    let top = inv.top in
    record {
      geometry = inv.same;
      growing = inv.growing;
      content = sym (none_behind d block_size c.args.base.head c.args.base.size (growing_size_with block_size now) (growing_bytes (g.D.BlockDevice.blocks c.copying.dev) now) (omega arith)) ∙ inv.bytes;
      sum = omega arith;
      own = inv.own;
      grown = inv.grown;
      marked = inv.marked;
    }

pub returns-clause-writing : goal.returns-clause-writing
returns-clause-writing g c =
    let inv = c.copying.invariant in
    record { map = inv.map; device = inv.device; reports = record { faults = record { fault = λ is. absurd (cc); no_fault = λ _. inv.quiet }; errors = tt } }
