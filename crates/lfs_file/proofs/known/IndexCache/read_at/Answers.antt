use Rattle.std.proofs.Common.{suc, ℕ, Bool, false, ◌==◌, ◌≡◌, ◌≤◌, ◌<◌, ◌+◌, ◌-◌, ◌*◌, ◌++◌, min, List, length, length-append, length-drop, take, drop, slice_index, slice_range, refl, sym, ap, subst, ◌∙◌, arith}
use Rattle.lfs_file.proofs.Common.{nat_tests, take_at, err_from_is_err_and, Blocks, HasBlockSizes, block_bytes, IsByteInListBlock, IsSkipList, pointer_count, skip_list_block_count, blocks_to_head, list_bytes, word_at}
use Rattle.lfs_device.specs.declared.geometry.Geometry.{Geometry}
use Rattle.lfs_file.proofs.Sizes.{blocks_for-last, place-lt, place_unique, place-mono, placed}
use Rattle.lfs_file.proofs.Gathered.{IsPart, IsReadPass, filled, turn_bytes, turn_rest, turn_before, turn_index}
use Rattle.lfs_file.proofs.Geometries.{count_by, last_is, chain, sized, shaped}
use Rattle.lfs_file.proofs.Chains.{in_range_at, length_back}
use Rattle.lfs_file.proofs.Recalled.{all_read, found_at, found_by, found_first, known_by, read_more}
use Rattle.lfs_file.proofs.Called.{list_as, list_io, list_ok, list_on, read_on, quiet, reported_on}
use Rattle.lfs_file.proofs.known.IndexCache.read_at.Goals as goal

pub overflow_sub-blocks_for : goal.overflow_sub-blocks_for
overflow_sub-blocks_for g c =
    let large = c.geometry-block_size.result.valid.no_smaller in
    let last = blocks_for-last c.geometry-block_size.result.block_size c.args.size large (omega arith) in
    omega (arith, last.1.0, c.blocks_for.ensures)

some_room : (len size pos n : ℕ) (empty : Bool) → pos < size → empty ≡ (len == 0) → empty ≡ false → n ≡ min len (size - pos) → (1 ≤ n) × (pos + n ≤ size)
some_room len size pos n empty lt is not_empty e =
    let some : (len ≡ 0) → ⊥ = grind (arith, nat_tests) in
    (omega arith, omega arith)

pub find_block-requires : goal.find_block-requires
find_block-requires g c =
    let large = c.geometry-block_size.result.valid.no_smaller in
    let room = some_room (length c.args.buf.now) c.args.size c.args.pos c.min-len.result false (omega arith) c.if-is_empty.ensures refl c.min-len.ensures in
    let lt = place-lt c.geometry-block_size.result.block_size c.args.size _ _ _ large c.place-index.ensures (omega arith) in
    omega (arith, lt, c.blocks_for.ensures)

same_count : (geometry made : Geometry) (size : ℕ) → made ≡ geometry → skip_list_block_count made.block_size size ≡ skip_list_block_count geometry.block_size size
same_count geometry made size e = ap (λ (k : Geometry). skip_list_block_count k.block_size size) e

pub returns-in_err-block-clause-corrupt : goal.returns-in_err-block-clause-corrupt
returns-in_err-block-clause-corrupt g c =
    let p = err_from_is_err_and c.from_residual.result c.from_residual.ensures.1 in
    rw (p.1, p.2) (λ is ok known.
    let large = c.geometry-block_size.result.valid.no_smaller in
    let list = sized _ c.args.head c.args.size _ _ c.geometry-block_size.ensures ok in
    c.in_err-block.ensures.corrupt is (chain _ _ _ _ _ large c.blocks_for.ensures list)
    (known_by _ c.args.head _ _ c.args.self.now (sym (count_by _ _ c.args.size _ c.geometry-block_size.ensures list.size_low c.blocks_for.ensures)) known))

pub returns-in_err-block-clause-known : goal.returns-in_err-block-clause-known
returns-in_err-block-clause-known g c ok known =
    let large = c.geometry-block_size.result.valid.no_smaller in
    let list = sized _ c.args.head c.args.size _ _ c.geometry-block_size.ensures ok in
    let count = count_by _ _ c.args.size _ c.geometry-block_size.ensures list.size_low c.blocks_for.ensures in
    known_by _ c.args.head _ _ c.find_block.new.self count (c.find_block.ensures.found.known (chain _ _ _ _ _ large c.blocks_for.ensures list) (known_by _ c.args.head _ _ c.args.self.now (sym count) known))

nothing_yet : (bytes buf : List ℕ) (pos n len : ℕ) → n ≡ len → drop n buf ≡ slice_range bytes (pos + n) (pos + len) ++ drop len buf
nothing_yet bytes buf pos n len is =
    let none : pos + len - (pos + n) ≡ 0 = omega arith in
    ap (λ k. drop k buf) is ∙ ap (λ k. take k (drop (pos + n) bytes) ++ drop len buf) (sym none)

pub blocks-2-init : goal.blocks-2-init
blocks-2-init g c =
    let old : Blocks = g.D.BlockDevice.blocks c.args.dev.now in
    let size : ℕ = c.geometry-block_size.result.block_size in
    let large = c.geometry-block_size.result.valid.no_smaller in
    let room = some_room (length c.args.buf.now) c.args.size c.args.pos c.min-len.result false (omega arith) c.if-is_empty.ensures refl c.min-len.ensures in
    let count = last_is size c.args.size c.blocks_for.result large (omega arith) c.blocks_for.ensures in
    record {
      some = room.0;
      high = omega (arith, c.min-len.ensures);
      in_range = c.in_ok-block.ensures.in_range;
      found = λ ok known i off is.
          c.in_ok-block.ensures.found.found (chain old size c.args.head c.args.size c.blocks_for.result large c.blocks_for.ensures ok) (known_by old c.args.head _ _ c.args.self.now (sym count) known)
          ∙ ap (λ n. slice_index (blocks_to_head old n c.args.head) c.place-index.result.0) count
          ∙ ap (slice_index (blocks_to_head old (skip_list_block_count size c.args.size) c.args.head)) (place_unique size _ _ _ _ _ c.place-index.ensures is);
      known = λ ok known. known_by old c.args.head _ _ c.find_block.new.self count
          (c.find_block.ensures.found.known (chain old size c.args.head c.args.size c.blocks_for.result large c.blocks_for.ensures ok) (known_by old c.args.head _ _ c.args.self.now (sym count) known));
      bytes = λ ok known. nothing_yet (list_bytes old size c.args.head c.args.size) c.args.buf.now c.args.pos c.min-len.result _ c.min-len.ensures;
      rest = refl;
      device = c.find_block.ensures.reading.device;
      quiet = quiet g.D.BlockDevice c.in_ok-block.ensures.reading.faults;
      few = λ i last off end is there.
          let at = place_unique size _ _ _ _ _ c.place-index.ensures is in
          let same = place_unique size _ _ _ _ _ c.place-index.ensures (subst (λ n. IsByteInListBlock size (c.args.pos + n - 1) last end) (sym c.min-len.ensures) there) in
          found_at same (omega arith) (found_first count c.in_ok-block.ensures.few);
    }

pub returns-in_err-read_into_range-clause-reading : goal.returns-in_err-read_into_range-clause-reading
returns-in_err-read_into_range-clause-reading g c =
    let inv = c.blocks-2.invariant in
    let read = c.in_err-read_into_range.ensures in
    let p = err_from_is_err_and c.from_residual-in_err-read_into_range.result c.from_residual-in_err-read_into_range.ensures.1 in
    rw (p.1, p.2) (list_io g.D.BlockDevice (read_on g.D.BlockDevice inv.device c.read_into_range.ensures.reading.device) (reported_on g.D.BlockDevice inv.quiet read.reading.reports.faults) read.reading.reports.errors)

-- what is read at an iteration
is_part : (block_size pos left n i off k : ℕ) → IsByteInListBlock block_size (pos + left - 1) i off → k ≡ pointer_count i → n ≡ min left (off + 1 - 4 * k) → IsPart block_size pos left n i off
is_part block_size pos left n i off k there many is = record { place = there; size = is ∙ ap (λ p. min left (off + 1 - 4 * p)) many }

is_filled : (d same : Blocks) (new buf : List ℕ) (start n off block : ℕ) → same ≡ d → new ≡ take start buf ++ (take n (drop off (block_bytes same block)) ++ drop (start + n) buf) → new ≡ filled buf start n off (block_bytes d block)
is_filled d same new buf start n off block e is = is ∙ ap (λ b. filled buf start n off (block_bytes b block)) e

-- all of it is there
all_there : (bytes new rest : List ℕ) (pos left len : ℕ) → left ≡ 0 → length new ≡ len + length rest → drop left new ≡ slice_range bytes (pos + left) (pos + len) ++ rest → take len new ≡ slice_range bytes pos (pos + len)
all_there bytes new rest pos left len none size is =
    let start : pos + left ≡ pos = omega arith in
    let whole : new ≡ slice_range bytes pos (pos + len) ++ rest = ap (λ k. drop k new) (sym none) ∙ is ∙ ap (λ k. slice_range bytes k (pos + len) ++ rest) start in
    ap (take len) whole ∙ take_at (slice_range bytes pos (pos + len)) rest len (omega (arith, ap length whole, length-append (slice_range bytes pos (pos + len)) rest, size))

-- what an iteration knows, as a turn
turn_of : (d same : Blocks) (geometry made : Geometry) (size pos len left n i off k block : ℕ) (buf new old : List ℕ)
    → made ≡ geometry → HasBlockSizes geometry.block_size geometry.block_count d → IsByteInListBlock made.block_size (pos + left - 1) i off → k ≡ pointer_count i → n ≡ min left (off + 1 - 4 * k)
    → 1 ≤ left → left ≤ len → len ≡ min (length old) (size - pos) → pos < size → length buf ≡ length old → block < geometry.block_count → same ≡ d
    → new ≡ take (left - n) buf ++ (take n (drop (off + 1 - n) (block_bytes same block)) ++ drop (left - n + n) buf)
    → IsReadPass d made.block_size geometry.block_count size pos len left n i off block buf new
turn_of d same geometry made size pos len left n i off k block buf new old e shape there many is some le len_is lt room in_range s bytes = record {
  large = made.valid.no_smaller;
  shape = shaped d geometry made e shape;
  part = is_part made.block_size pos left n i off k there many is;
  some = some;
  le = le;
  within = omega arith;
  room = omega arith;
  in_range = in_range;
  is = is_filled d same new buf (left - n) n (off + 1 - n) block s bytes;
}

-- when nothing is left
at_end : (d : Blocks) (geometry made : Geometry) (head size pos left len n : ℕ) (new buf old : List ℕ) → made ≡ geometry → n ≡ len → left ≡ 0 → length new ≡ length buf → length buf ≡ length old → len ≤ length old
    → drop left new ≡ slice_range (list_bytes d made.block_size head size) (pos + left) (pos + len) ++ drop len old
    → take n new ≡ slice_range (list_bytes d geometry.block_size head size) pos (pos + n)
at_end d geometry made head size pos left len n new buf old e n_is none kept was room is =
    ap (λ k. take k new) n_is
    ∙ all_there (list_bytes d made.block_size head size) new (drop len old) pos left len none (omega (arith, length-drop len old)) is
    ∙ ap (λ (k : Geometry). slice_range (list_bytes d k.block_size head size) pos (pos + len)) e
    ∙ ap (λ k. slice_range (list_bytes d geometry.block_size head size) pos (pos + k)) (sym n_is)

pub returns-then-left-eq0-clause-bytes : goal.returns-then-left-eq0-clause-bytes
returns-then-left-eq0-clause-bytes g c listed there =
    let inv = c.blocks-2.invariant in
    let turn = turn_of _ _ _ _ c.args.size c.args.pos _ _ _ _ _ _ _ _ _ c.args.buf.now c.geometry-block_size.ensures (g.met.D.BlockDevice.shape c.args.dev.now) c.place-index-in-blocks-2.ensures c.pointer_count_at.ensures c.min-part.ensures
    inv.some inv.high refl (omega arith) c.blocks-2.auto.buf inv.in_range inv.device.same c.in_ok-read_into_range.ensures.bytes in
    let ok = sized _ c.args.head c.args.size _ _ c.geometry-block_size.ensures listed in
    let known = known_by _ c.args.head _ _ c.args.self.now (sym (same_count _ _ c.args.size c.geometry-block_size.ensures)) there in
    at_end _ _ _ c.args.head c.args.size c.args.pos _ _ _ _ _ _ c.geometry-block_size.ensures c.min-len.ensures c.if-left-eq0.true c.read_into_range.auto.buf c.blocks-2.auto.buf (omega arith)
    (turn_bytes turn c.args.head _ ok (inv.found ok known _ _ c.place-index-in-blocks-2.ensures) (inv.bytes ok known))

pub returns-then-left-eq0-clause-count : goal.returns-then-left-eq0-clause-count
returns-then-left-eq0-clause-count g c =
    let inv = c.blocks-2.invariant in
    let turn = turn_of _ _ _ _ c.args.size c.args.pos _ _ _ _ _ _ _ _ _ c.args.buf.now c.geometry-block_size.ensures (g.met.D.BlockDevice.shape c.args.dev.now) c.place-index-in-blocks-2.ensures c.pointer_count_at.ensures c.min-part.ensures
    inv.some inv.high refl (omega arith) c.blocks-2.auto.buf inv.in_range inv.device.same c.in_ok-read_into_range.ensures.bytes in
    (c.min-len.ensures, ap (λ k. drop k c.read_into_range.new.buf) c.min-len.ensures ∙ turn_rest turn ∙ inv.rest ∙ ap (λ k. drop k c.args.buf.now) (sym c.min-len.ensures))

pub returns-then-left-eq0-clause-reading : goal.returns-then-left-eq0-clause-reading
returns-then-left-eq0-clause-reading g c =
    let inv = c.blocks-2.invariant in
    list_ok g.D.BlockDevice (read_on g.D.BlockDevice inv.device c.read_into_range.ensures.reading.device) (quiet g.D.BlockDevice c.in_ok-read_into_range.ensures.reading.reports.faults ∙ inv.quiet)

-- a place by the geometry of the device
placed_by : (geometry made : Geometry) (pos i off : ℕ) → made ≡ geometry → IsByteInListBlock geometry.block_size pos i off → IsByteInListBlock made.block_size pos i off
placed_by geometry made pos i off e is = subst (λ (k : Geometry). IsByteInListBlock k.block_size pos i off) (sym e) is

pub returns-then-left-eq0-clause-known : goal.returns-then-left-eq0-clause-known
returns-then-left-eq0-clause-known g c listed there =
    let ok = sized _ c.args.head c.args.size _ _ c.geometry-block_size.ensures listed in
    let same = same_count _ _ c.args.size c.geometry-block_size.ensures in
    known_by _ c.args.head _ _ c.find_block.new.self same (c.blocks-2.invariant.known ok (known_by _ c.args.head _ _ c.args.self.now (sym same) there))

pub returns-then-left-eq0-clause-few : goal.returns-then-left-eq0-clause-few
returns-then-left-eq0-clause-few g c first last off end is there =
    let inv = c.blocks-2.invariant in
    let made = c.geometry-block_size.ensures in
    let now = c.place-index-in-blocks-2.ensures in
    let is_first = placed_by _ _ _ first off made is in
    let is_last = placed_by _ _ _ last end made there in
    let low = place-mono _ _ _ _ _ _ _ is_first now (let s = inv.some in omega arith) in
    let one = c.read_into_range.ensures.few in
    all_read _ (omega (arith, low)) (read_more 1 (omega (arith, one)) (found_by (same_count _ _ c.args.size made) (inv.few _ last _ end now is_last)))

-- the block before is one of the list
before_in : (d : Blocks) (geometry made now : Geometry) (head size i j : ℕ) → made ≡ geometry → now ≡ geometry → length d ≡ geometry.block_count → IsSkipList d made.block_size head size → i ≡ suc j → i < skip_list_block_count made.block_size size
    → now.block_count ≤ slice_index (blocks_to_head d (skip_list_block_count made.block_size size) head) (i - 1) → ⊥
before_in d geometry made now head size i j e f len ok next low past =
    let lt = in_range_at d (skip_list_block_count made.block_size size) head (i - 1) ok.blocks (omega arith) in
    omega (arith, lt, len, past, ap (λ (k : Geometry). k.block_count) f)

pub returns-in_err-block-2-clause-corrupt : goal.returns-in_err-block-2-clause-corrupt
returns-in_err-block-2-clause-corrupt g c =
    let inv = c.blocks-2.invariant in
    let turn = turn_of _ _ _ _ c.args.size c.args.pos _ _ _ _ _ _ _ _ _ c.args.buf.now c.geometry-block_size.ensures (g.met.D.BlockDevice.shape c.args.dev.now) c.place-index-in-blocks-2.ensures c.pointer_count_at.ensures c.min-part.ensures
    inv.some inv.high refl (omega arith) c.blocks-2.auto.buf inv.in_range inv.device.same c.in_ok-read_into_range.ensures.bytes in
    let p = err_from_is_err_and c.from_residual-in_err-block-2.result c.from_residual-in_err-block-2.ensures.1 in
    rw (p.1, p.2) (λ is listed there.
    let size : ℕ = c.geometry-block_size.result.block_size in
    let ok = sized _ c.args.head c.args.size _ _ c.geometry-block_size.ensures listed in
    let known = known_by _ c.args.head _ _ c.args.self.now (sym (same_count _ _ c.args.size c.geometry-block_size.ensures)) there in
    let old : Blocks = g.D.BlockDevice.blocks c.args.dev.now in
    let more : 1 ≤ c.blocks-2.left - c.min-part.result = omega arith in
    let before = placed size (c.args.pos + (c.blocks-2.left - c.min-part.result) - 1) c.geometry-block_size.result.valid.no_smaller in
    let next = turn_index turn more before.0 before.1.0 before.1.1 in
    let low = place-lt size c.args.size _ _ _ c.geometry-block_size.result.valid.no_smaller c.place-index-in-blocks-2.ensures (let h = inv.high in omega arith) in
    let all : List ℕ = blocks_to_head old (skip_list_block_count size c.args.size) c.args.head in
    before_in old _ _ _ c.args.head c.args.size _ before.0 c.geometry-block_size.ensures (c.read_into_range.ensures.reading.device.geometry ∙ inv.device.geometry) (g.met.D.BlockDevice.shape c.args.dev.now).count ok next low
    (c.in_err-block-2.ensures.corrupt all is (inv.known ok known) (omega (arith, low, length_back old (skip_list_block_count size c.args.size) c.args.head))
    (ap (λ b. word_at (block_bytes b c.blocks-2.block) 0) (c.read_into_range.ensures.reading.device.same ∙ inv.device.same)
    ∙ turn_before turn c.args.head ok (inv.found ok known _ _ c.place-index-in-blocks-2.ensures) more before.0 before.1.0 before.1.1 ∙ ap (slice_index all) (let k : before.0 ≡ c.place-index-in-blocks-2.result.0 - 1 = omega (arith, next) in k))))

pub returns-in_err-block-2-clause-known : goal.returns-in_err-block-2-clause-known
returns-in_err-block-2-clause-known g c listed there =
    let ok = sized _ c.args.head c.args.size _ _ c.geometry-block_size.ensures listed in
    let same = same_count _ _ c.args.size c.geometry-block_size.ensures in
    known_by _ c.args.head _ _ c.find_block.new.self same (c.blocks-2.invariant.known ok (known_by _ c.args.head _ _ c.args.self.now (sym same) there))

pub returns-in_err-block-2-clause-reading : goal.returns-in_err-block-2-clause-reading
returns-in_err-block-2-clause-reading g c =
    let inv = c.blocks-2.invariant in
    let p = err_from_is_err_and c.from_residual-in_err-block-2.result c.from_residual-in_err-block-2.ensures.1 in
    rw (p.1, p.2) (list_on g.D.BlockDevice (read_on g.D.BlockDevice inv.device c.read_into_range.ensures.reading.device) (quiet g.D.BlockDevice c.in_ok-read_into_range.ensures.reading.reports.faults ∙ inv.quiet)
    (list_as g.D.BlockDevice c.in_err-block-2.ensures.reading))

pub blocks-2-preserved : goal.blocks-2-preserved
blocks-2-preserved g c =
    let inv = c.blocks-2.invariant in
    let now = c.place-index-in-blocks-2.ensures in
    let turn = turn_of _ _ _ _ c.args.size c.args.pos _ _ _ _ _ _ _ _ _ c.args.buf.now c.geometry-block_size.ensures (g.met.D.BlockDevice.shape c.args.dev.now) now c.pointer_count_at.ensures c.min-part.ensures
    inv.some inv.high refl (omega arith) c.blocks-2.auto.buf inv.in_range inv.device.same c.in_ok-read_into_range.ensures.bytes in
    let size : ℕ = c.geometry-block_size.result.block_size in
    let large = c.geometry-block_size.result.valid.no_smaller in
    let old : Blocks = g.D.BlockDevice.blocks c.args.dev.now in
    let some : 1 ≤ c.blocks-2.left - c.min-part.result = omega arith in
    let device = read_on g.D.BlockDevice inv.device c.read_into_range.ensures.reading.device in
    record {
      some = some;
      high = (let h = inv.high in omega arith);
      in_range = (let lt = c.in_ok-block-2.ensures.in_range in omega (arith, lt, ap (λ (k : Geometry). k.block_count) device.geometry));
      found = λ ok known j end is.
          let next = turn_index turn some j end is in
          let low = place-lt size c.args.size _ _ _ large now (let h = inv.high in omega arith) in
          let all : List ℕ = blocks_to_head old (skip_list_block_count size c.args.size) c.args.head in
          let back : j ≡ c.place-index-in-blocks-2.result.0 - 1 = omega (arith, next) in
          c.in_ok-block-2.ensures.found all (inv.known ok known) (omega (arith, low, length_back old (skip_list_block_count size c.args.size) c.args.head))
          (ap (λ b. word_at (block_bytes b c.blocks-2.block) 0) device.same ∙ turn_before turn c.args.head ok (inv.found ok known _ _ now) some j end is ∙ ap (slice_index all) back)
          ∙ ap (slice_index all) (sym back);
      known = inv.known;
      bytes = λ ok known. turn_bytes turn c.args.head _ ok (inv.found ok known _ _ now) (inv.bytes ok known);
      rest = turn_rest turn ∙ inv.rest;
      device = read_on g.D.BlockDevice device c.block_before.ensures.reading.device;
      quiet = quiet g.D.BlockDevice c.in_ok-block-2.ensures.reading.faults ∙ quiet g.D.BlockDevice c.in_ok-read_into_range.ensures.reading.reports.faults ∙ inv.quiet;
      few = λ j last off end is there.
          let next = turn_index turn some j off is in
          let order = place-mono _ _ _ _ _ _ _ now there (let h = inv.high in omega arith) in
          let one = c.read_into_range.ensures.few in
          let other = c.block_before.ensures.few in
          found_at refl (omega (arith, next, order)) (read_more 2 (omega (arith, one, other)) (inv.few _ last _ end now there));
    }
