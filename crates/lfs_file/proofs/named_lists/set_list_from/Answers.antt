use Rattle.std.proofs.Common.{ℕ, ◌≡◌, ◌+◌, ◌-◌, List, drop, slice_index, refl, sym, ap, ◌∙◌, subst, arith}
use Rattle.lfs_file.proofs.Common.{drop_all, err_from_is_err_and, Blocks, blocks_to_head, length_back, SetsState, used_or_free}
use Rattle.lfs_device.specs.declared.geometry.Geometry.{Geometry}
use Rattle.lfs_file.proofs.ContentsCalled.{not_read, quiet, read_on, reported_as, reported_on}
use Rattle.lfs_file.proofs.Releasings.{in_range_at, next_is, next_there}
use Rattle.lfs_file.proofs.Others.{others_drop, puts_others}
use Rattle.lfs_file.proofs.Settlings.{head_is, never_corrupt, puts_here, puts_none}
use Rattle.lfs_file.proofs.named_lists.set_list_from.Goals as goal

pub putting-init : goal.putting-init
putting-init g c =
    let d : Blocks = g.D.BlockDevice.blocks c.args.dev.now in
    record {
      high = omega arith;
      low = c.requires.within;
      here = λ some. head_is d c.args.count c.args.head (omega arith);
      done = subst (λ (l : List ℕ). SetsState (used_or_free c.args.used) c.args.map.now c.args.map.now l) (sym (drop_all c.args.count (blocks_to_head d c.args.count c.args.head) (let l = length_back d c.args.count c.args.head in omega arith))) (puts_none (used_or_free c.args.used) c.args.map.now);
      device = not_read g.D.BlockDevice c.args.dev.now;
      quiet = refl;
      few = omega arith;
    }

pub set_used-requires : goal.set_used-requires
set_used-requires g c =
    let inv = c.putting.invariant in
    let d : Blocks = g.D.BlockDevice.blocks c.args.dev.now in
    let test = c.putting-test.true in
    let high = inv.high in
    let within = in_range_at d c.args.count c.args.head (c.putting.index - 1) c.requires.chain (omega arith) in
    let here = inv.here (omega arith) in
    omega (arith, within, here, inv.done.count, c.requires.map)

pub returns-in_err-block-clause-reading : goal.returns-in_err-block-clause-reading
returns-in_err-block-clause-reading g c =
    let inv = c.putting.invariant in
    let test = c.putting-test.true in
    let high = inv.high in
    let shape = (g.met.D.BlockDevice.shape c.args.dev.now).count in
    let same = ap (λ (k : Geometry). k.block_count) inv.device.geometry in
    let p = err_from_is_err_and c.from_residual.result c.from_residual.ensures.1 in
    let reported = c.in_err-block.ensures.reading in
    rw (p.1, p.2) (record {
      device = read_on g.D.BlockDevice inv.device c.head_before_block.ensures.reading.device;
      reports = record {
        faults = reported_on g.D.BlockDevice inv.quiet (reported_as g.D.BlockDevice reported.faults);
        errors = never_corrupt {T = ℕ} _ reported.errors (λ is.
            next_there (g.D.BlockDevice.blocks c.args.dev.now) _ c.args.count c.args.head (c.putting.index - 1) c.putting.block _ inv.device.same c.requires.chain (omega arith) (inv.here (omega arith)) (omega arith)
            (let some = (c.in_err-block.ensures.corrupt is).0 in omega arith) (c.in_err-block.ensures.corrupt is).1);
      };
      few = tt;
    })

pub putting-preserved : goal.putting-preserved
putting-preserved g c =
    let inv = c.putting.invariant in
    let d : Blocks = g.D.BlockDevice.blocks c.args.dev.now in
    let count : ℕ = c.args.count in
    let head : ℕ = c.args.head in
    let index : ℕ = c.putting.index in
    let test = c.putting-test.true in
    let high = inv.high in
    let here : c.putting.block ≡ slice_index (blocks_to_head d count head) (index - 1) = inv.here (omega arith) in
    let next : index - 1 + 1 ≡ index = omega arith in
    let one = c.set_used.ensures in
    let few = inv.few in
    let more = c.in_ok-block.ensures.few in
    record {
      high = omega arith;
      low = omega arith;
      here = λ some. next_is d _ count head (index - 1) c.putting.block _ inv.device.same c.requires.chain (omega arith) (omega arith) here (c.in_ok-block.ensures.word (omega arith));
      done = puts_here (used_or_free c.args.used) c.args.map.now c.putting.map c.set_used.new.map d count head (index - 1) c.putting.block (omega arith) here
          (subst (λ n. SetsState (used_or_free c.args.used) c.args.map.now c.putting.map (drop n (blocks_to_head d count head))) (sym next) inv.done) one;
      device = read_on g.D.BlockDevice inv.device c.head_before_block.ensures.reading.device;
      quiet = quiet g.D.BlockDevice c.in_ok-block.ensures.reading.faults ∙ inv.quiet;
      few = omega arith;
    }

pub returns-clause-put : goal.returns-clause-put
returns-clause-put g c =
    let inv = c.putting.invariant in
    let low = inv.low in
    let test = c.putting-test.false in
    let same : c.putting.index ≡ c.args.from = omega arith in
    subst (λ n. SetsState (used_or_free c.args.used) c.args.map.now c.putting.map (drop n (blocks_to_head (g.D.BlockDevice.blocks c.args.dev.now) c.args.count c.args.head))) same inv.done

pub returns-clause-reading : goal.returns-clause-reading
returns-clause-reading g c =
    let inv = c.putting.invariant in
    let few = inv.few in
    let low = inv.low in
    let high = inv.high in
    let test = c.putting-test.false in
    record { device = inv.device; reports = record { faults = record { fault = λ is. absurd (cc); no_fault = λ _. inv.quiet }; errors = tt }; few = omega arith }

pub returns-clause-others : goal.returns-clause-others
returns-clause-others g c = others_drop _ _ c.putting.index (blocks_to_head (g.D.BlockDevice.blocks c.args.dev.now) c.args.count c.args.head) (puts_others c.putting.invariant.done)

pub returns-in_err-block-clause-others : goal.returns-in_err-block-clause-others
returns-in_err-block-clause-others g c =
    let inv = c.putting.invariant in
    let d : Blocks = g.D.BlockDevice.blocks c.args.dev.now in
    let count : ℕ = c.args.count in
    let head : ℕ = c.args.head in
    let index : ℕ = c.putting.index in
    let test = c.putting-test.true in
    let high = inv.high in
    let here : c.putting.block ≡ slice_index (blocks_to_head d count head) (index - 1) = inv.here (omega arith) in
    let next : index - 1 + 1 ≡ index = omega arith in
    let within = in_range_at d count head (index - 1) c.requires.chain (omega arith) in
    let one = c.set_used.ensures in
    others_drop _ _ (index - 1) (blocks_to_head d count head)
    (puts_others (puts_here (used_or_free c.args.used) c.args.map.now c.putting.map c.set_used.new.map d count head (index - 1) c.putting.block (omega arith) here
    (subst (λ n. SetsState (used_or_free c.args.used) c.args.map.now c.putting.map (drop n (blocks_to_head d count head))) (sym next) inv.done) one))
