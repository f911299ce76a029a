use Rattle.std.proofs.Common.{ℕ, ◌≡◌, ◌+◌, ◌<◌, ◌≤◌, List, [], length, min, sym, ap, ◌∙◌, arith}
use Rattle.lfs_file.proofs.Common.{err_from_is_err_and, used_count, skip_list_block_count, Blocks, written_contents, buffered_bytes, InHand, InMemory}
use Rattle.lfs_file.specs.Contents.{memory_limit}
use Rattle.lfs_device.specs.declared.geometry.Geometry.{Geometry}
use Rattle.lfs_file.proofs.ContentsCalled.{writes_as, writes_none, writes_same}
use Rattle.lfs_file.proofs.ContentsMemories.{held_size}
use Rattle.lfs_file.proofs.Truncations.{length-resized, resized, truncated_held, truncated_longer}
use Rattle.lfs_file.proofs.new_sizes.truncate_in_memory.Goals as goal

pub returns-then-size-inline_limit-clause-truncated : goal.returns-then-size-inline_limit-clause-truncated
returns-then-size-inline_limit-clause-truncated g c =
    let filled = c.in_ok-hand.ensures.filled in
    let base = c.in_ok-hand.ensures.base in
    let hand = c.in_ok-hand.hand in
    let known : c.inline_limit.result ≡ memory_limit (g.D.BlockDevice.geometry c.args.dev.now) = c.inline_limit.ensures ∙ ap (λ k. memory_limit k) c.geometry.ensures in
    let many : memory_limit (g.D.BlockDevice.geometry c.args.dev.now) < c.args.size = (let test = c.if-size-inline_limit.true in omega arith) in
    let few = c.requires.fits.large in
    record {
      stands = filled.going;
      has = filled.bytes;
      form = ap (λ k. InHand k hand.base.size hand.base.in_flight) filled.size ∙ ap (λ k. InHand c.args.size k hand.base.in_flight) base.0 ∙ ap (InHand c.args.size 0) base.1
          ∙ truncated_longer (memory_limit (g.D.BlockDevice.geometry c.args.dev.now)) c.args.size (InMemory (length (buffered_bytes c.args.list))) (omega arith) many;
    }

pub returns-clause-truncated : goal.returns-clause-truncated
returns-clause-truncated g c =
    let d : Blocks = g.D.BlockDevice.blocks c.args.dev.now in
    let old : List ℕ = buffered_bytes c.args.list in
    let quiet = c.requires.stands in
    let all = held_size c.args.list quiet.resting.held in
    let size = c.size.ensures in
    let low = c.min.ensures in
    let known : c.inline_limit.result ≡ memory_limit (g.D.BlockDevice.geometry c.args.dev.now) = c.inline_limit.ensures ∙ ap (λ k. memory_limit k) c.geometry.ensures in
    let keep : c.min.result ≡ min (length old) c.args.size = omega arith in
    let has = c.write_buffered_at.ensures.rest ∙ ap (λ (l : List ℕ). written_contents l c.args.size []) c.truncate_buffered.ensures.rest ∙ resized old c.min.result c.args.size keep in
    record {
      stands = record {
        idle = quiet.idle;
        resting = record { geometry = quiet.resting.geometry ∙ sym ((c.write_buffered_at.ensures.holds d).geometry ∙ (c.truncate_buffered.ensures.holds d).geometry); held = c.write_buffered_at.ensures.held };
      };
      has = has;
      form = ap InMemory (ap length has ∙ length-resized c.args.size old) ∙ truncated_held (memory_limit (g.D.BlockDevice.geometry c.args.dev.now)) c.args.size (length old) (let few = c.if-size-inline_limit.false in omega arith);
    }

pub write_buffered_at-requires-clause-room : goal.write_buffered_at-requires-clause-room
write_buffered_at-requires-clause-room g c =
    let d : Blocks = g.D.BlockDevice.blocks c.args.dev.now in
    let same = ap (λ (k : Geometry). k.block_size) ((c.truncate_buffered.ensures.holds d).geometry ∙ sym c.requires.stands.resting.geometry) in
    let known : c.inline_limit.result ≡ memory_limit (g.D.BlockDevice.geometry c.args.dev.now) = c.inline_limit.ensures ∙ ap (λ k. memory_limit k) c.geometry.ensures in
    let few = c.if-size-inline_limit.false in
    let short = c.requires.fits.short in
    omega arith

pub fill_memory_contents-requires-clause-quiet : goal.fill_memory_contents-requires-clause-quiet
fill_memory_contents-requires-clause-quiet g c = c.requires.stands

pub fill_memory_contents-requires-clause-room : goal.fill_memory_contents-requires-clause-room
fill_memory_contents-requires-clause-room g c =
    let few : length (buffered_bytes c.args.list) ≤ memory_limit (g.D.BlockDevice.geometry c.args.dev.now) = c.requires.fits.large in
    let known : c.inline_limit.result ≡ memory_limit (g.D.BlockDevice.geometry c.args.dev.now) = c.inline_limit.ensures ∙ ap (λ k. memory_limit k) c.geometry.ensures in
    let many : memory_limit (g.D.BlockDevice.geometry c.args.dev.now) < c.args.size = (let test = c.if-size-inline_limit.true in omega arith) in
    let room : used_count c.args.map.now + skip_list_block_count (g.D.BlockDevice.geometry c.args.dev.now).block_size c.args.size ≤ length c.args.map.now = c.requires.fits.room many in
    record { longer = omega arith; small = c.requires.fits.small; room = omega arith }

pub returns-in_err-hand-clause-writing : goal.returns-in_err-hand-clause-writing
returns-in_err-hand-clause-writing g c =
    let p = err_from_is_err_and c.from_residual.result c.from_residual.ensures.1 in
    rw (p.1, p.2) (writes_as g.D.BlockDevice c.in_err-hand.ensures.writing)

pub returns-then-size-inline_limit-clause-writing : goal.returns-then-size-inline_limit-clause-writing
returns-then-size-inline_limit-clause-writing g c = writes_same g.D.BlockDevice c.in_ok-hand.ensures.writing

pub returns-clause-writing : goal.returns-clause-writing
returns-clause-writing g c = writes_none g.D.BlockDevice c.args.map.now c.args.dev.now
