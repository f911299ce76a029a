use Rattle.std.proofs.Common.{ℕ, ◌≡◌, ◌-◌, slice_index, refl, ap, ◌∙◌, arith}
use Rattle.lfs_file.proofs.Common.{err_from_is_err_and, Blocks, blocks_to_head}
use Rattle.lfs_device.specs.declared.geometry.Geometry.{Geometry}
use Rattle.lfs_file.proofs.ContentsCalled.{not_read, quiet, read_on, reported_as, reported_on}
use Rattle.lfs_file.proofs.Releasings.{next_is, next_there}
use Rattle.lfs_file.proofs.Settlings.{head_is, never_corrupt}
use Rattle.lfs_file.proofs.shared_blocks.list_block_before.Goals as goal

pub going-init : goal.going-init
going-init g c = record {
  high = omega arith;
  low = c.requires.within;
  here = head_is (g.D.BlockDevice.blocks c.args.dev.now) c.args.count c.args.head;
  device = not_read g.D.BlockDevice c.args.dev.now;
  quiet = refl;
  few = omega arith;
}

pub returns-in_err-block-clause-reading : goal.returns-in_err-block-clause-reading
returns-in_err-block-clause-reading g c =
    let inv = c.going.invariant in
    let test = c.going-test.true in
    let high = inv.high in
    let shape = (g.met.D.BlockDevice.shape c.args.dev.now).count in
    let same = ap (λ (k : Geometry). k.block_count) inv.device.geometry in
    let p = err_from_is_err_and c.from_residual.result c.from_residual.ensures.1 in
    let reported = c.in_err-block.ensures.reading in
    rw (p.1, p.2) (record {
      device = read_on g.D.BlockDevice inv.device c.head_before_block.ensures.reading.device;
      reports = record {
        faults = reported_on g.D.BlockDevice inv.quiet (reported_as g.D.BlockDevice reported.faults);
        errors = never_corrupt {T = ℕ} _ reported.errors (λ is.
            next_there (g.D.BlockDevice.blocks c.args.dev.now) _ c.args.count c.args.head (c.going.at - 1) c.going.block _ inv.device.same c.requires.chain (omega arith) (inv.here (omega arith)) (omega arith)
            (c.in_err-block.ensures.corrupt is).0 (c.in_err-block.ensures.corrupt is).1);
      };
      few = tt;
    })

pub going-preserved : goal.going-preserved
going-preserved g c =
    let inv = c.going.invariant in
    let d : Blocks = g.D.BlockDevice.blocks c.args.dev.now in
    let at : ℕ = c.going.at in
    let test = c.going-test.true in
    let high = inv.high in
    let few = inv.few in
    let more = c.in_ok-block.ensures.few in
    record {
      high = omega arith;
      low = omega arith;
      here = λ some. next_is d _ c.args.count c.args.head (at - 1) c.going.block _ inv.device.same c.requires.chain some (omega arith) (inv.here (omega arith)) (c.in_ok-block.ensures.word some);
      device = read_on g.D.BlockDevice inv.device c.head_before_block.ensures.reading.device;
      quiet = quiet g.D.BlockDevice c.in_ok-block.ensures.reading.faults ∙ inv.quiet;
      few = omega arith;
    }

pub returns-clause-block : goal.returns-clause-block
returns-clause-block g c =
    let inv = c.going.invariant in
    let low = inv.low in
    let test = c.going-test.false in
    let same : c.going.at ≡ c.args.index = omega arith in
    λ some. inv.here (omega arith) ∙ ap (λ n. slice_index (blocks_to_head (g.D.BlockDevice.blocks c.args.dev.now) c.args.count c.args.head) (n - 1)) same

pub returns-clause-reading : goal.returns-clause-reading
returns-clause-reading g c =
    let inv = c.going.invariant in
    let few = inv.few in
    let low = inv.low in
    let high = inv.high in
    let test = c.going-test.false in
    record { device = inv.device; reports = record { faults = record { fault = λ is. absurd (cc); no_fault = λ _. inv.quiet }; errors = tt }; few = omega arith }
