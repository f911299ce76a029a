use Rattle.std.proofs.Common.{ℕ, ◌≡◌, ◌≢◌, ◌-◌, ◌<◌, slice_index, sym, ap, ◌∙◌, subst, arith}
use Rattle.lfs_file.proofs.Common.{err_from_is_err_and, Blocks, blocks_to_head}
use Rattle.lfs_device.specs.declared.geometry.Geometry.{Geometry}
use Rattle.lfs_file.proofs.ContentsCalled.{quiet, read_on, reported_as, reported_on}
use Rattle.lfs_file.proofs.Releasings.{in_range_at, next_is, next_there}
use Rattle.lfs_file.proofs.Settlings.{never_corrupt}
use Rattle.lfs_file.proofs.SharedFronts.{apart_is, is_shared}
use Rattle.lfs_file.proofs.shared_blocks.shared_block_count.Goals as goal

-- an index stays the same by another name of the blocks
at_same : (d e : Blocks) (count head index block : ℕ) → e ≡ d → (0 < index → block ≡ slice_index (blocks_to_head e count head) (index - 1)) → 0 < index → block ≡ slice_index (blocks_to_head d count head) (index - 1)
at_same d e count head index block same is some = is some ∙ ap (λ (x : Blocks). slice_index (blocks_to_head x count head) (index - 1)) same

pub returns-in_err-twin-clause-reading : goal.returns-in_err-twin-clause-reading
returns-in_err-twin-clause-reading g c =
    let p = err_from_is_err_and c.from_residual-in_err-twin.result c.from_residual-in_err-twin.ensures.1 in
    let read = c.in_err-twin.ensures.reading in
    rw (p.1, p.2) (record {
      device = read_on g.D.BlockDevice c.list_block_before.ensures.reading.device read.device;
      reports = record { faults = reported_on g.D.BlockDevice (quiet g.D.BlockDevice c.in_ok-block.ensures.reading.reports.faults) (reported_as g.D.BlockDevice read.reports.faults); errors = read.reports.errors };
    })

pub returns-then-index-eq0-clause-shared : goal.returns-then-index-eq0-clause-shared
returns-then-index-eq0-clause-shared g c =
    let none = c.min-index.ensures in
    is_shared (g.D.BlockDevice.blocks c.args.dev.now) c.args.count c.args.head c.args.other_count c.args.other c.requires.chain c.requires.other 0 (omega arith) (omega arith) (λ some. absurd (omega arith)) (λ low high. absurd (omega arith))

pub sharing-init : goal.sharing-init
sharing-init g c =
    let d : Blocks = g.D.BlockDevice.blocks c.args.dev.now in
    let least = c.min-index.ensures in
    let one = c.in_ok-block.ensures.reading.few in
    let two = c.in_ok-twin.ensures.reading.few in
    record {
      within = omega arith;
      below = omega arith;
      here = c.in_ok-block.ensures.block;
      there = at_same d _ c.args.other_count c.args.other c.min-index.result c.in_ok-twin.twin c.list_block_before.ensures.reading.device.same c.in_ok-twin.ensures.block;
      most = λ first second. absurd (omega arith);
      device = read_on g.D.BlockDevice c.list_block_before.ensures.reading.device c.list_block_before-2.ensures.reading.device;
      quiet = quiet g.D.BlockDevice c.in_ok-twin.ensures.reading.reports.faults ∙ quiet g.D.BlockDevice c.in_ok-block.ensures.reading.reports.faults;
      few = omega arith;
    }

pub returns-then-block-twin-clause-shared : goal.returns-then-block-twin-clause-shared
returns-then-block-twin-clause-shared g c =
    let inv = c.sharing.invariant in
    is_shared (g.D.BlockDevice.blocks c.args.dev.now) c.args.count c.args.head c.args.other_count c.args.other c.requires.chain c.requires.other
    c.sharing.index inv.within inv.below (λ some. sym (inv.here some) ∙ c.if-block-twin.true ∙ inv.there some) inv.most

pub returns-then-block-twin-clause-few : goal.returns-then-block-twin-clause-few
returns-then-block-twin-clause-few g c =
    let inv = c.sharing.invariant in
    let few = inv.few in
    let within = inv.within in
    let below = inv.below in
    let apart = apart_is (g.D.BlockDevice.blocks c.args.dev.now) c.args.count c.args.head c.args.other_count c.args.other c.sharing.index in
    omega arith

pub head_before_block-requires : goal.head_before_block-requires
head_before_block-requires g c =
    let inv = c.sharing.invariant in
    let d : Blocks = g.D.BlockDevice.blocks c.args.dev.now in
    let test = c.sharing-test.true in
    let within = inv.within in
    let here = inv.here (omega arith) in
    let there = in_range_at d c.args.count c.args.head (c.sharing.index - 1) c.requires.chain (omega arith) in
    let shape = (g.met.D.BlockDevice.shape c.args.dev.now).count in
    let same = ap (λ (k : Geometry). k.block_count) inv.device.geometry in
    omega arith

pub head_before_block-requires-in-sharing : goal.head_before_block-requires-in-sharing
head_before_block-requires-in-sharing g c =
    let inv = c.sharing.invariant in
    let d : Blocks = g.D.BlockDevice.blocks c.args.dev.now in
    let test = c.sharing-test.true in
    let below = inv.below in
    let here = inv.there (omega arith) in
    let there = in_range_at d c.args.other_count c.args.other (c.sharing.index - 1) c.requires.other (omega arith) in
    let shape = (g.met.D.BlockDevice.shape c.args.dev.now).count in
    let same = ap (λ (k : Geometry). k.block_count) (c.head_before_block.ensures.reading.device.geometry ∙ inv.device.geometry) in
    omega arith

pub returns-in_err-block-2-clause-reading : goal.returns-in_err-block-2-clause-reading
returns-in_err-block-2-clause-reading g c =
    let inv = c.sharing.invariant in
    let test = c.sharing-test.true in
    let within = inv.within in
    let shape = (g.met.D.BlockDevice.shape c.args.dev.now).count in
    let same = ap (λ (k : Geometry). k.block_count) inv.device.geometry in
    let p = err_from_is_err_and c.from_residual-in_err-block-2.result c.from_residual-in_err-block-2.ensures.1 in
    let reported = c.in_err-block-2.ensures.reading in
    rw (p.1, p.2) (record {
      device = read_on g.D.BlockDevice c.sharing.invariant.device c.head_before_block.ensures.reading.device;
      reports = record {
        faults = reported_on g.D.BlockDevice inv.quiet (reported_as g.D.BlockDevice reported.faults);
        errors = never_corrupt {T = ℕ} _ reported.errors (λ is.
            next_there (g.D.BlockDevice.blocks c.args.dev.now) _ c.args.count c.args.head (c.sharing.index - 1) c.sharing.block _ inv.device.same c.requires.chain (omega arith) (inv.here (omega arith)) (omega arith)
            (c.in_err-block-2.ensures.corrupt is).0 (c.in_err-block-2.ensures.corrupt is).1);
      };
    })

pub returns-in_err-twin-2-clause-reading : goal.returns-in_err-twin-2-clause-reading
returns-in_err-twin-2-clause-reading g c =
    let inv = c.sharing.invariant in
    let test = c.sharing-test.true in
    let below = inv.below in
    let first = c.head_before_block.ensures.reading.device in
    let shape = (g.met.D.BlockDevice.shape c.args.dev.now).count in
    let same = ap (λ (k : Geometry). k.block_count) (first.geometry ∙ inv.device.geometry) in
    let p = err_from_is_err_and c.from_residual-in_err-twin-2.result c.from_residual-in_err-twin-2.ensures.1 in
    let reported = c.in_err-twin-2.ensures.reading in
    rw (p.1, p.2) (record {
      device = read_on g.D.BlockDevice (read_on g.D.BlockDevice c.sharing.invariant.device c.head_before_block.ensures.reading.device) c.head_before_block-in-sharing.ensures.reading.device;
      reports = record {
        faults = reported_on g.D.BlockDevice (quiet g.D.BlockDevice c.in_ok-block-2.ensures.reading.faults ∙ inv.quiet) (reported_as g.D.BlockDevice reported.faults);
        errors = never_corrupt {T = ℕ} _ reported.errors (λ is.
            next_there (g.D.BlockDevice.blocks c.args.dev.now) _ c.args.other_count c.args.other (c.sharing.index - 1) c.sharing.twin _ (first.same ∙ inv.device.same) c.requires.other (omega arith) (inv.there (omega arith)) (omega arith)
            (c.in_err-twin-2.ensures.corrupt is).0 (c.in_err-twin-2.ensures.corrupt is).1);
      };
    })

pub sharing-preserved : goal.sharing-preserved
sharing-preserved g c =
    let inv = c.sharing.invariant in
    let d : Blocks = g.D.BlockDevice.blocks c.args.dev.now in
    let index : ℕ = c.sharing.index in
    let test = c.sharing-test.true in
    let within = inv.within in
    let below = inv.below in
    let few = inv.few in
    let one = c.in_ok-block-2.ensures.few in
    let two = c.in_ok-twin-2.ensures.few in
    let first = c.head_before_block.ensures.reading.device in
    record {
      within = omega arith;
      below = omega arith;
      here = λ some. next_is d _ c.args.count c.args.head (index - 1) c.sharing.block _ inv.device.same c.requires.chain some (omega arith) (inv.here (omega arith)) (c.in_ok-block-2.ensures.word some);
      there = λ some. next_is d _ c.args.other_count c.args.other (index - 1) c.sharing.twin _ (first.same ∙ inv.device.same) c.requires.other some (omega arith) (inv.there (omega arith)) (c.in_ok-twin-2.ensures.word some);
      most = λ low high same. c.if-block-twin.false (inv.here (omega arith) ∙ same ∙ sym (inv.there (omega arith)));
      device = read_on g.D.BlockDevice (read_on g.D.BlockDevice inv.device first) c.head_before_block-in-sharing.ensures.reading.device;
      quiet = quiet g.D.BlockDevice c.in_ok-twin-2.ensures.reading.faults ∙ quiet g.D.BlockDevice c.in_ok-block-2.ensures.reading.faults ∙ inv.quiet;
      few = omega arith;
    }

pub returns-clause-shared : goal.returns-clause-shared
returns-clause-shared g c =
    let inv = c.sharing.invariant in
    let d : Blocks = g.D.BlockDevice.blocks c.args.dev.now in
    let test = c.sharing-test.false in
    let none : c.sharing.index ≡ 0 = omega arith in
    is_shared d c.args.count c.args.head c.args.other_count c.args.other c.requires.chain c.requires.other 0 (omega arith) (omega arith) (λ some. absurd (omega arith))
    (subst (λ n. n < c.args.count → n < c.args.other_count → slice_index (blocks_to_head d c.args.count c.args.head) n ≢ slice_index (blocks_to_head d c.args.other_count c.args.other) n) none inv.most)

pub returns-clause-few : goal.returns-clause-few
returns-clause-few g c =
    let few = c.sharing.invariant.few in
    let apart = apart_is (g.D.BlockDevice.blocks c.args.dev.now) c.args.count c.args.head c.args.other_count c.args.other 0 in
    omega arith
