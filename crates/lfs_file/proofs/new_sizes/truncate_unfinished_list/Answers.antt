use Rattle.std.proofs.Common.{◌≡◌, sym, ap, ◌∙◌, arith}
use Rattle.lfs_file.proofs.Common.{err_from_is_err_and, Blocks, growing_size, InHand, unfinished_bytes, unfinished_length}
use Rattle.lfs_file.specs.Contents.{memory_limit}
use Rattle.lfs_device.specs.declared.geometry.Geometry.{Geometry}
use Rattle.lfs_file.proofs.Owning.{hand_owned, owned_right}
use Rattle.lfs_file.proofs.ContentsCalled.{writes_as, writes_none, writes_same}
use Rattle.lfs_file.proofs.Flights.{length-hand, shaped}
use Rattle.lfs_file.proofs.Truncations.{lengthened_hand, resized_none, truncated_ended, truncated_same}
use Rattle.lfs_file.proofs.new_sizes.truncate_unfinished_list.Goals as goal

pub returns-then-size-length-clause-truncated : goal.returns-then-size-length-clause-truncated
returns-then-size-length-clause-truncated g c =
    let hand = c.args.hand in
    let geometry : Geometry = hand.list.geometry in
    let d : Blocks = g.D.BlockDevice.blocks c.args.dev.now in
    let going = c.requires.stands in
    let len : c.max-length.result ≡ unfinished_length hand = (let s = c.size.ensures in let l = c.max-length.ensures in omega arith) in
    let same : c.args.size ≡ unfinished_length hand = c.if-size-length.true ∙ len in
    let all = length-hand d geometry.block_size (g.D.BlockDevice.geometry c.args.dev.now).block_count hand.list hand.base geometry.valid.no_smaller (shaped d _ _ going.geometry (g.met.D.BlockDevice.shape c.args.dev.now)) going.list.begun.growing going.list.begun.list in
    record {
      stands = going;
      has = resized_none (unfinished_bytes d hand) c.args.size (same ∙ sym all);
      form = truncated_same (memory_limit (g.D.BlockDevice.geometry c.args.dev.now)) c.args.size (InHand (growing_size hand.list) hand.base.size hand.base.in_flight) same;
    }

pub lengthen_unfinished_list-requires-clause-going : goal.lengthen_unfinished_list-requires-clause-going
lengthen_unfinished_list-requires-clause-going g c = c.requires.stands

pub lengthen_unfinished_list-requires-clause-longer : goal.lengthen_unfinished_list-requires-clause-longer
lengthen_unfinished_list-requires-clause-longer g c =
    let len : c.max-length.result ≡ unfinished_length c.args.hand = (let s = c.size.ensures in let l = c.max-length.ensures in omega arith) in
    let longer = c.if-length-size.true in
    (omega arith, c.requires.fits.small)

pub lengthen_unfinished_list-requires-clause-room : goal.lengthen_unfinished_list-requires-clause-room
lengthen_unfinished_list-requires-clause-room g c =
    let len : c.max-length.result ≡ unfinished_length c.args.hand = (let s = c.size.ensures in let l = c.max-length.ensures in omega arith) in
    let longer = c.if-length-size.true in
    c.requires.fits.room (λ e. absurd (omega arith))

pub returns-then-length-size-clause-truncated : goal.returns-then-length-size-clause-truncated
returns-then-length-size-clause-truncated g c =
    let hand = c.args.hand in
    let wrote = c.in_ok-hand.ensures.lengthened in
    let over = c.in_ok-hand.ensures.over.over in
    let len : c.max-length.result ≡ unfinished_length hand = (let s = c.size.ensures in let l = c.max-length.ensures in omega arith) in
    let longer = c.if-length-size.true in
    let large = c.requires.fits.large in
    record {
      stands = wrote.going;
      has = wrote.bytes;
      form = lengthened_hand (memory_limit (g.D.BlockDevice.geometry c.args.dev.now)) (growing_size hand.list) hand.base.size c.args.size hand.base.in_flight _ _ _ (omega arith) (omega arith) wrote.size
          (λ e. (ap (λ s. s.size) (over.same e), ap (λ s. s.in_flight) (over.same e))) (λ ne. (over.size ne, over.flying ne));
    }

pub shorten_unfinished_list-requires-clause-can : goal.shorten_unfinished_list-requires-clause-can
shorten_unfinished_list-requires-clause-can g c = c.requires

pub returns-then-size-length-clause-writing : goal.returns-then-size-length-clause-writing
returns-then-size-length-clause-writing g c = writes_none g.D.BlockDevice c.args.map.now c.args.dev.now

pub returns-in_err-hand-clause-writing : goal.returns-in_err-hand-clause-writing
returns-in_err-hand-clause-writing g c =
    let p = err_from_is_err_and c.from_residual.result c.from_residual.ensures.1 in
    rw (p.1, p.2) (writes_as g.D.BlockDevice c.in_err-hand.ensures.writing)

pub returns-then-length-size-clause-writing : goal.returns-then-length-size-clause-writing
returns-then-length-size-clause-writing g c = writes_same g.D.BlockDevice c.in_ok-hand.ensures.writing

pub returns-in_err-cut-clause-writing : goal.returns-in_err-cut-clause-writing
returns-in_err-cut-clause-writing g c =
    let p = err_from_is_err_and c.from_residual-in_err-cut.result c.from_residual-in_err-cut.ensures.1 in
    rw (p.1, p.2) (writes_as g.D.BlockDevice c.in_err-cut.ensures.writing)

pub returns-clause-writing : goal.returns-clause-writing
returns-clause-writing g c = writes_same g.D.BlockDevice c.in_ok-cut.ensures.writing

pub returns-clause-truncated : goal.returns-clause-truncated
returns-clause-truncated g c =
    let hand = c.args.hand in
    let cut = c.in_ok-cut.ensures.truncated in
    let len : c.max-length.result ≡ unfinished_length hand = (let s = c.size.ensures in let l = c.max-length.ensures in omega arith) in
    let less = c.if-length-size.false in
    let ne = c.if-size-length.false in
    record {
      stands = cut.stands;
      has = cut.has;
      form = cut.form ∙ truncated_ended (memory_limit (g.D.BlockDevice.geometry c.args.dev.now)) c.args.size (growing_size hand.list) hand.base.size hand.base.in_flight (omega arith);
    }

pub returns-then-length-size-clause-owned : goal.returns-then-length-size-clause-owned
returns-then-length-size-clause-owned g c =
    hand_owned c.lengthen_unfinished_list.new.map (g.D.BlockDevice.blocks c.lengthen_unfinished_list.new.dev) (g.D.BlockDevice.geometry c.args.dev.now) c.in_ok-hand.hand _ c.in_ok-hand.ensures.lengthened.going (owned_right _ c.in_ok-hand.ensures.over.owned)
