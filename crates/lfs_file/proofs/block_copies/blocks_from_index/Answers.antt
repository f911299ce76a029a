use Rattle.std.proofs.Common.{ℕ, ◌≡◌, ◌+◌, ◌-◌, ◌<◌, ◌≤◌, List, ◌∷◌, length, drop, slice_index, slice_set, refl, sym, ap, ◌∙◌, arith}
use Rattle.lfs_file.proofs.Common.{drop_all, length-set, err_from_is_err_and, Blocks, blocks_to_head, length_back}
use Rattle.std.proofs.lemmas.List.{drop-set}
use Rattle.lfs_device.specs.declared.geometry.Geometry.{Geometry}
use Rattle.lfs_file.proofs.ContentsCalled.{not_read, quiet, read_on, reported_as, reported_on}
use Rattle.lfs_file.proofs.Copies.{not_corrupt}
use Rattle.lfs_file.proofs.Releasings.{drop_here, next_is, next_there}
use Rattle.lfs_file.proofs.Settlings.{head_is}
use Rattle.lfs_file.proofs.block_copies.blocks_from_index.Goals as goal

pub going-init : goal.going-init
going-init g c =
    let d : Blocks = g.D.BlockDevice.blocks c.args.dev.now in
    let count : ℕ = c.args.count in
    let head : ℕ = c.args.head in
    let within = c.requires.within in
    let items = c.in_ok-blocks.blocks.items in
    let long : length items ≡ count - c.args.from = omega (arith, c.in_ok-blocks.ensures.len, c.in_ok-blocks.blocks.ok.0) in
    record {
      high = omega arith;
      low = within;
      here = λ some. head_is d count head (omega arith);
      long = long;
      done = drop_all (count - c.args.from) items (omega arith) ∙ sym (drop_all count (blocks_to_head d count head) (let l = length_back d count head in omega arith));
      device = not_read g.D.BlockDevice c.args.dev.now;
      quiet = refl;
      few = omega arith;
    }

pub returns-in_err-block-clause-device : goal.returns-in_err-block-clause-device
returns-in_err-block-clause-device g c = read_on g.D.BlockDevice c.going.invariant.device c.head_before_block.ensures.reading.device

pub returns-in_err-block-clause-reports : goal.returns-in_err-block-clause-reports
returns-in_err-block-clause-reports g c =
    let inv = c.going.invariant in
    let test = c.going-test.true in
    let high = inv.high in
    let shape = (g.met.D.BlockDevice.shape c.args.dev.now).count in
    let same = ap (λ (k : Geometry). k.block_count) inv.device.geometry in
    let p = err_from_is_err_and c.from_residual-in_err-block.result c.from_residual-in_err-block.ensures.1 in
    let reported = c.in_err-block.ensures.reading in
    rw (p.1, p.2) (record {
      faults = reported_on g.D.BlockDevice inv.quiet (reported_as g.D.BlockDevice reported.faults);
      errors = not_corrupt {T = ℕ} _ reported.errors (λ is.
          next_there (g.D.BlockDevice.blocks c.args.dev.now) _ c.args.count c.args.head (c.going.index - 1) c.going.block _ inv.device.same c.requires.chain (omega arith) (inv.here (omega arith)) (omega arith)
          (let some = (c.in_err-block.ensures.corrupt is).0 in omega arith) (c.in_err-block.ensures.corrupt is).1);
    })

-- a block is put before those that are there
put_before : (items all : List ℕ) (from index block : ℕ) → from < index → index - from ≤ length items → block ≡ slice_index all (index - 1) → drop (index - from) items ≡ drop index all
    → drop (index - 1) all ≡ slice_index all (index - 1) ∷ drop (index - 1 + 1) all → drop (index - 1 - from) (slice_set items (index - 1 - from) block) ≡ drop (index - 1) all
put_before items all from index block lt long here done next =
    let at : index - 1 - from + 1 ≡ index - from = omega arith in
    let end : index - 1 + 1 ≡ index = omega arith in
    drop-set items (index - 1 - from) block (omega arith)
    ∙ ap (λ n. block ∷ drop n items) at
    ∙ ap (λ (l : List ℕ). block ∷ l) done
    ∙ ap (λ b. b ∷ drop index all) here
    ∙ ap (λ n. slice_index all (index - 1) ∷ drop n all) (sym end)
    ∙ sym next

pub going-preserved : goal.going-preserved
going-preserved g c =
    let inv = c.going.invariant in
    let d : Blocks = g.D.BlockDevice.blocks c.args.dev.now in
    let count : ℕ = c.args.count in
    let head : ℕ = c.args.head in
    let from : ℕ = c.args.from in
    let index : ℕ = c.going.index in
    let test = c.going-test.true in
    let high = inv.high in
    let low = inv.low in
    let long = inv.long in
    let items : List ℕ = c.going.blocks.items in
    let here : c.going.block ≡ slice_index (blocks_to_head d count head) (index - 1) = inv.here (omega arith) in
    let few = inv.few in
    let more = c.in_ok-block.ensures.few in
    record {
      high = omega arith;
      low = omega arith;
      here = λ some. next_is d _ count head (index - 1) c.going.block _ inv.device.same c.requires.chain (omega arith) (omega arith) here (c.in_ok-block.ensures.word (omega arith));
      long = length-set items (index - 1 - from) c.going.block ∙ long;
      done = put_before items (blocks_to_head d count head) from index c.going.block (omega arith) (omega arith) here inv.done (drop_here d count head (index - 1) (omega arith));
      device = read_on g.D.BlockDevice inv.device c.head_before_block.ensures.reading.device;
      quiet = quiet g.D.BlockDevice c.in_ok-block.ensures.reading.faults ∙ inv.quiet;
      few = omega arith;
    }
