use Rattle.std.proofs.Common.{ℕ, ◌≡◌, ◌+◌, List, length, max, sym, ap, ◌∙◌, arith}
use Rattle.lfs_file.proofs.Common.{Blocks, buffered_bytes, InHand, InMemory}
use Rattle.lfs_file.specs.Contents.{memory_limit}
use Rattle.lfs_file.proofs.Forms.{length-written, written_few, written_many}
use Rattle.lfs_file.proofs.ContentsMemories.{held_size}
use Rattle.lfs_file.proofs.contents.write_in_memory.Goals as goal

pub returns-then-size-inline_limit-clause-written : goal.returns-then-size-inline_limit-clause-written
returns-then-size-inline_limit-clause-written g c =
    let d : Blocks = g.D.BlockDevice.blocks c.args.dev.now in
    let old : List ℕ = buffered_bytes c.args.list in
    let n : ℕ = length c.args.bytes.now in
    let quiet = c.requires.stands in
    let m = c.max-size.ensures in
    let size = c.size.ensures in
    let all = held_size c.args.list quiet.resting.held in
    let known : c.inline_limit.result ≡ memory_limit (g.D.BlockDevice.geometry c.args.dev.now) = c.inline_limit.ensures ∙ ap (λ k. memory_limit k) c.geometry.ensures in
    let test = c.if-size-inline_limit.true in
    let long : length (buffered_bytes c.write_buffered_at.new.self) ≡ max (length old) (c.args.place + n) = ap length c.write_buffered_at.ensures.rest ∙ length-written old c.args.place c.args.bytes.now in
    record {
      stands = record {
        idle = quiet.idle;
        resting = record { geometry = quiet.resting.geometry ∙ sym ((c.write_buffered_at.ensures.holds d).geometry); held = c.write_buffered_at.ensures.held };
      };
      has = c.write_buffered_at.ensures.rest;
      form = ap InMemory long ∙ sym (written_few (memory_limit (g.D.BlockDevice.geometry c.args.dev.now)) c.args.place n (InMemory (length old)) (omega arith));
    }

pub begin_from_memory-requires-clause-room : goal.begin_from_memory-requires-clause-room
begin_from_memory-requires-clause-room g c =
    let m = c.max-size.ensures in
    let size = c.size.ensures in
    let all = held_size c.args.list c.requires.stands.resting.held in
    let known : c.inline_limit.result ≡ memory_limit (g.D.BlockDevice.geometry c.args.dev.now) = c.inline_limit.ensures ∙ ap (λ k. memory_limit k) c.geometry.ensures in
    let test = c.if-size-inline_limit.false in
    let some = c.requires.fits.some in
    let room = c.requires.fits.room (omega arith) in
    record { longer = omega arith; small = c.requires.fits.small; room = omega arith }

pub returns-clause-written : goal.returns-clause-written
returns-clause-written g c =
    let n : ℕ = length c.args.bytes.now in
    let hand = c.in_ok-hand.hand in
    let wrote = c.in_ok-hand.ensures.written in
    let base = c.in_ok-hand.ensures.base in
    let m = c.max-size.ensures in
    let size = c.size.ensures in
    let all = held_size c.args.list c.requires.stands.resting.held in
    let known : c.inline_limit.result ≡ memory_limit (g.D.BlockDevice.geometry c.args.dev.now) = c.inline_limit.ensures ∙ ap (λ k. memory_limit k) c.geometry.ensures in
    let test = c.if-size-inline_limit.false in
    record {
      stands = wrote.going;
      has = wrote.bytes;
      form = ap (λ k. InHand k hand.base.size hand.base.in_flight) wrote.size ∙ ap (λ k. InHand (c.args.place + n) k hand.base.in_flight) base.0 ∙ ap (InHand (c.args.place + n) 0) base.1
          ∙ sym (written_many (memory_limit (g.D.BlockDevice.geometry c.args.dev.now)) c.args.place n (InMemory (length (buffered_bytes c.args.list))) (omega arith));
    }
