use Rattle.std.proofs.Common.{ℕ, ◌≡◌, ◌+◌, List, length, max, sym, ap, ◌∙◌, arith}
use Rattle.lfs_file.proofs.Common.{take_all, Blocks, written_contents, buffered_bytes, InHand, InMemory, Finished, stored_list_bytes}
use Rattle.lfs_file.specs.Contents.{memory_limit}
use Rattle.lfs_device.specs.declared.geometry.Geometry.{Geometry}
use Rattle.lfs_file.proofs.Owning.{hand_owned, owned_is}
use Rattle.lfs_file.proofs.ContentsCalled.{used_reads}
use Rattle.lfs_file.proofs.Flights.{length-base}
use Rattle.lfs_file.proofs.Forms.{length-written, written_few, written_many}
use Rattle.lfs_file.proofs.contents.write_over_finished.Goals as goal

pub returns-in_err-list-clause-device : goal.returns-in_err-list-clause-device
returns-in_err-list-clause-device g c = used_reads g.D.BlockDevice c.args.map.now c.load_first_bytes.ensures.reading.device

pub returns-then-size-inline_limit-clause-device : goal.returns-then-size-inline_limit-clause-device
returns-then-size-inline_limit-clause-device g c = used_reads g.D.BlockDevice c.args.map.now c.load_first_bytes.ensures.reading.device

pub returns-then-size-inline_limit-clause-written : goal.returns-then-size-inline_limit-clause-written
returns-then-size-inline_limit-clause-written g c =
    let stored = c.args.stored in
    let d : Blocks = g.D.BlockDevice.blocks c.args.dev.now in
    let geometry : Geometry = g.D.BlockDevice.geometry c.args.dev.now in
    let old : List ℕ = stored_list_bytes d geometry.block_size stored in
    let n : ℕ = length c.args.bytes.now in
    let m = c.max-size.ensures in
    let known : c.inline_limit.result ≡ memory_limit geometry = c.inline_limit.ensures ∙ ap (λ k. memory_limit k) c.geometry.ensures in
    let test = c.if-size-inline_limit.true in
    let all = length-base d geometry.block_size geometry.block_count stored.head stored.size geometry.valid.no_smaller (g.met.D.BlockDevice.shape c.args.dev.now) c.requires.stands.base in
    let kept : buffered_bytes c.in_ok-list.list ≡ old = c.in_ok-list.ensures.bytes ∙ take_all stored.size old (omega arith) in
    let has : buffered_bytes c.write_buffered_at.new.self ≡ written_contents old c.args.place c.args.bytes.now = c.write_buffered_at.ensures.rest ∙ ap (λ (l : List ℕ). written_contents l c.args.place c.args.bytes.now) kept in
    let long : length (buffered_bytes c.write_buffered_at.new.self) ≡ max stored.size (c.args.place + n) = ap length has ∙ length-written old c.args.place c.args.bytes.now ∙ ap (λ k. max k (c.args.place + n)) all in
    record {
      stands = record {
        idle = record {
          count = c.requires.stands.count ∙ sym (ap length c.load_first_bytes.ensures.reading.device.same);
          none = λ b is. (let large = c.requires.fits.large (c.requires.stands.flying b is).0 in absurd (omega arith));
        };
        resting = record { geometry = c.in_ok-list.ensures.resting.geometry ∙ sym ((c.write_buffered_at.ensures.holds d).geometry); held = c.write_buffered_at.ensures.held };
      };
      has = has;
      form = ap InMemory long ∙ sym (written_few (memory_limit geometry) c.args.place n (Finished stored.size stored.in_flight) (omega arith));
    }

pub returns-clause-owned : goal.returns-clause-owned
returns-clause-owned g c =
    hand_owned c.begin_with_bytes.new.map (g.D.BlockDevice.blocks c.begin_with_bytes.new.dev) (g.D.BlockDevice.geometry c.args.dev.now) c.in_ok-hand.hand _ c.in_ok-hand.ensures.written.going (owned_is _ c.in_ok-hand.ensures.base.blocks)

pub returns-clause-written : goal.returns-clause-written
returns-clause-written g c =
    let stored = c.args.stored in
    let geometry : Geometry = g.D.BlockDevice.geometry c.args.dev.now in
    let n : ℕ = length c.args.bytes.now in
    let hand = c.in_ok-hand.hand in
    let wrote = c.in_ok-hand.ensures.written in
    let m = c.max-size.ensures in
    let known : c.inline_limit.result ≡ memory_limit geometry = c.inline_limit.ensures ∙ ap (λ k. memory_limit k) c.geometry.ensures in
    let test = c.if-size-inline_limit.false in
    record {
      stands = wrote.going;
      has = wrote.bytes;
      form = ap (λ k. InHand k hand.base.size hand.base.in_flight) wrote.size ∙ ap (λ s. InHand (c.args.place + n) s.size s.in_flight) c.in_ok-hand.ensures.base.same
          ∙ sym (written_many (memory_limit geometry) c.args.place n (Finished stored.size stored.in_flight) (omega arith));
    }
