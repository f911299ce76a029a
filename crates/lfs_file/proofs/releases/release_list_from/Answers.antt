use Rattle.std.proofs.Common.{ℕ, ◌≡◌, ◌+◌, ◌-◌, ◌<◌, ◌⊎◌, inl, inr, List, drop, slice_index, Result, Err, refl, sym, ap, ◌∙◌, subst, arith}
use Rattle.lfs_file.proofs.Common.{drop_all, err_from_is_err_and, Blocks, blocks_to_head, length_back, head_of_back, ReleasesInFlight}
use Rattle.lfs_device.specs.declared.error.Error.{Error}
use Rattle.lfs_device.specs.declared.geometry.Geometry.{Geometry}
use Rattle.lfs_file.proofs.ContentsCalled.{not_read, quiet, read_on, reported_as, reported_on}
use Rattle.lfs_file.proofs.Releasings.{releases_none, next_is, next_there, releases_here}
use Rattle.lfs_file.proofs.releases.release_list_from.Goals as goal

-- the head is the last block
head_is : (d : Blocks) (count head : ℕ) → 0 < count → head ≡ slice_index (blocks_to_head d count head) (count - 1)
head_is d count head some =
    let e : count - 1 + 1 ≡ count = omega arith in
    sym (head_of_back d (count - 1) head) ∙ ap (λ n. slice_index (blocks_to_head d n head) (count - 1)) e

pub releasing-init : goal.releasing-init
releasing-init g c =
    let d : Blocks = g.D.BlockDevice.blocks c.args.dev.now in
    record {
      low = c.requires.within;
      high = omega arith;
      here = head_is d c.args.count c.args.head;
      released = subst (λ (l : List ℕ). ReleasesInFlight c.args.map.now c.args.map.now l) (sym (drop_all c.args.count (blocks_to_head d c.args.count c.args.head) (let l = length_back d c.args.count c.args.head in omega arith))) (releases_none c.args.map.now);
      device = not_read g.D.BlockDevice c.args.dev.now;
      quiet = refl;
    }

-- a list's blocks are all there
never_corrupt : {T : Type 0} (x : Error) → (x ≡ Error.Io) ⊎ (x ≡ Error.Corrupt) → (◌≡◌ {A = Result T Error} (Err x) (Err Error.Corrupt) → ⊥) → x ≡ Error.Io
never_corrupt x (inl is) other = is
never_corrupt x (inr is) other = absurd (other (ap Err is))

pub returns-in_err-block-clause-reading : goal.returns-in_err-block-clause-reading
returns-in_err-block-clause-reading g c =
    let inv = c.releasing.invariant in
    let test = c.releasing-test.true in
    let low = inv.low in
    let high = inv.high in
    let shape = (g.met.D.BlockDevice.shape c.args.dev.now).count in
    let same = ap (λ (k : Geometry). k.block_count) inv.device.geometry in
    let p = err_from_is_err_and c.from_residual.result c.from_residual.ensures.1 in
    rw (p.1, p.2) (record {
      device = read_on g.D.BlockDevice c.releasing.invariant.device c.head_before_block.ensures.reading.device;
      reports = record {
        faults = reported_on g.D.BlockDevice c.releasing.invariant.quiet (reported_as g.D.BlockDevice c.in_err-block.ensures.reading.faults);
        errors = never_corrupt {T = ℕ} _ c.in_err-block.ensures.reading.errors (λ is.
            next_there (g.D.BlockDevice.blocks c.args.dev.now) _ c.args.count c.args.head (c.releasing.index - 1) c.releasing.block _ inv.device.same c.requires.chain (omega arith) (inv.here (omega arith)) (omega arith)
            (c.in_err-block.ensures.corrupt is).0 (c.in_err-block.ensures.corrupt is).1);
      };
    })

pub releasing-preserved : goal.releasing-preserved
releasing-preserved g c =
    let inv = c.releasing.invariant in
    let d : Blocks = g.D.BlockDevice.blocks c.args.dev.now in
    let count : ℕ = c.args.count in
    let head : ℕ = c.args.head in
    let index : ℕ = c.releasing.index in
    let test = c.releasing-test.true in
    let low = inv.low in
    let high = inv.high in
    let here : c.releasing.block ≡ slice_index (blocks_to_head d count head) (index - 1) = inv.here (omega arith) in
    let next : index - 1 + 1 ≡ index = omega arith in
    record {
      low = omega arith;
      high = omega arith;
      here = λ some. next_is d _ count head (index - 1) c.releasing.block _ inv.device.same c.requires.chain some (omega arith) here (c.in_ok-block.ensures.word some);
      released = releases_here c.args.map.now c.releasing.map c.release_block.new.map d count head (index - 1) c.releasing.block (omega arith) here
          (subst (λ n. ReleasesInFlight c.args.map.now c.releasing.map (drop n (blocks_to_head d count head))) (sym next) inv.released) c.release_block.ensures;
      device = read_on g.D.BlockDevice inv.device c.head_before_block.ensures.reading.device;
      quiet = quiet g.D.BlockDevice c.in_ok-block.ensures.reading.faults ∙ inv.quiet;
    }
