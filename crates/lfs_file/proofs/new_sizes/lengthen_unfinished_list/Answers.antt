use Rattle.std.proofs.Common.{rules, ℕ, ◌≡◌, ◌≢◌, ◌+◌, ◌*◌, ◌-◌, ◌<◌, ◌≤◌, Bool, if◌then◌else◌, max, sym, ap, ◌∙◌, subst, arith}
use Rattle.lfs_device.specs.declared.geometry.Geometry.{Geometry}
use Rattle.lfs_file.proofs.Common.{Blocks, skip_list_block_count, skip_list_block_count-more, growing_size, truncation_room, InHand, CanEndUnfinished, unfinished_bytes, unfinished_length, err_from_is_err_and}
use Rattle.lfs_file.proofs.Owning.{owned_kept}
use Rattle.lfs_file.proofs.ContentsCalled.{writes_as, writes_fail, writes_on}
use Rattle.lfs_file.proofs.Flights.{in_flight_limit-le, either_fits, length-hand, shaped}
use Rattle.lfs_file.proofs.ContentsMemories.{lengthened}
use Rattle.lfs_file.proofs.Truncations.{room_anew, room_on}
use Rattle.lfs_file.proofs.new_sizes.lengthen_unfinished_list.Goals as goal

-- the room that the form of the contents takes: for the list in hand, or for another one over it
on_room : (block_size size end base used all : ℕ) (flying : Bool) → max end base < size → used + truncation_room block_size size (InHand end base flying) ≤ all → end ≡ max end base
    → used + skip_list_block_count block_size size + (if flying then skip_list_block_count block_size base else 0) ≤ all
on_room block_size size end base used all flying longer room same = let e = room_on block_size size end base flying longer same in omega arith

anew_room : (block_size size end base used all : ℕ) (flying : Bool) → max end base < size → used + truncation_room block_size size (InHand end base flying) ≤ all → end ≢ max end base → used + 2 * skip_list_block_count block_size size ≤ all
anew_room block_size size end base used all flying longer room ne = let e = room_anew block_size size end base flying longer ne in omega arith

pub reposition_draft-requires-clause-room : goal.reposition_draft-requires-clause-room
reposition_draft-requires-clause-room g c ne =
    let hand = c.args.hand in
    let now : Geometry = g.D.BlockDevice.geometry c.args.dev.now in
    let len : c.max-length.result ≡ unfinished_length hand = (let s = c.size.ensures in let l = c.max-length.ensures in omega arith) in
    let longer = c.requires.longer.0 in
    let room = anew_room now.block_size c.args.size (growing_size hand.list) hand.base.size _ _ hand.base.in_flight longer c.requires.room (λ e. ne (e ∙ sym len)) in
    let few = in_flight_limit-le now.block_size hand.base in
    let more = skip_list_block_count-more now.block_size hand.base.size c.args.size (omega arith) in
    omega arith

pub write_zeros-requires : goal.write_zeros-requires
write_zeros-requires g c = record {
  begun = search rules;
  small =
      let len : c.max-length.result ≡ unfinished_length c.args.hand = (let s = c.size.ensures in let l = c.max-length.ensures in omega arith) in
      let longer = c.requires.longer.0 in
      let small = c.requires.longer.1 in
      let at = c.in_ok-turned.ensures.turned.size in
      omega arith;
  room =
      let hand = c.args.hand in
      let now : Geometry = g.D.BlockDevice.geometry c.args.dev.now in
      let len : c.max-length.result ≡ unfinished_length hand = (let s = c.size.ensures in let l = c.max-length.ensures in omega arith) in
      let longer = c.requires.longer.0 in
      let turned = c.in_ok-turned.turned in
      let at = c.in_ok-turned.ensures.turned.size in
      let over = c.in_ok-turned.ensures.over.over in
      let keeps = c.in_ok-turned.ensures.writing.map in
      let most : max (unfinished_length hand) c.args.size ≡ c.args.size = omega arith in
      let same : skip_list_block_count now.block_size (max (unfinished_length hand) c.args.size) ≡ skip_list_block_count now.block_size c.args.size = ap (skip_list_block_count now.block_size) most in
      either_fits now (g.D.BlockDevice.geometry c.reposition_draft.new.dev) turned.base hand.base _ _ _ _ (growing_size hand.list) (unfinished_length hand) (unfinished_length hand) c.args.size
      (growing_size turned.list + (c.args.size - c.max-length.result)) c.reposition_draft.ensures.writing.device.geometry keeps.used keeps.count (omega arith)
      (λ e. over.same (e ∙ sym len)) (λ ne. over.size (λ e. ne (e ∙ len))) (on_room now.block_size c.args.size (growing_size hand.list) hand.base.size _ _ hand.base.in_flight longer c.requires.room)
      (λ ne. let room = anew_room now.block_size c.args.size (growing_size hand.list) hand.base.size _ _ hand.base.in_flight longer c.requires.room ne in omega arith);
}

pub returns-in_err-turned-clause-writing : goal.returns-in_err-turned-clause-writing
returns-in_err-turned-clause-writing g c =
    let p = err_from_is_err_and c.from_residual.result c.from_residual.ensures.1 in
    rw (p.1, p.2) (writes_as g.D.BlockDevice c.in_err-turned.ensures.writing)

pub returns-clause-writing : goal.returns-clause-writing
returns-clause-writing g c = writes_on g.D.BlockDevice c.in_ok-turned.ensures.writing c.write_zeros.ensures.map c.write_zeros.ensures.device c.in_ok-write_zeros.ensures.reports

pub returns-clause-lengthened : goal.returns-clause-lengthened
returns-clause-lengthened g c =
    let hand = c.args.hand in
    let geometry : Geometry = hand.list.geometry in
    let d : Blocks = g.D.BlockDevice.blocks c.args.dev.now in
    let going = c.requires.going in
    let len : c.max-length.result ≡ unfinished_length hand = (let s = c.size.ensures in let l = c.max-length.ensures in omega arith) in
    let longer = c.requires.longer.0 in
    let at = c.in_ok-turned.ensures.turned in
    let sum = at.size in
    let zeroed = c.in_ok-write_zeros.ensures.zeroed in
    let end = zeroed.at.size in
    let all = length-hand d geometry.block_size (g.D.BlockDevice.geometry c.args.dev.now).block_count hand.list hand.base geometry.valid.no_smaller (shaped d _ _ going.geometry (g.met.D.BlockDevice.shape c.args.dev.now)) going.list.begun.growing going.list.begun.list in
    record {
      going = subst (λ (k : Geometry). CanEndUnfinished c.write_zeros.new.map (g.D.BlockDevice.blocks c.write_zeros.new.dev) k c.write_zeros.new.hand) c.reposition_draft.ensures.writing.device.geometry (zeroed.going (omega arith));
      size = omega arith;
      bytes = lengthened (unfinished_bytes d hand) _ _ c.max-length.result _ c.args.size (all ∙ sym len) (omega arith) at.bytes sum zeroed.at.bytes;
    }

pub returns-in_err-write_zeros-clause-writing : goal.returns-in_err-write_zeros-clause-writing
returns-in_err-write_zeros-clause-writing g c =
    let p = err_from_is_err_and c.from_residual-in_err-write_zeros.result c.from_residual-in_err-write_zeros.ensures.1 in
    rw (p.1, p.2) (writes_fail g.D.BlockDevice c.in_ok-turned.ensures.writing c.write_zeros.ensures.map c.write_zeros.ensures.device c.in_err-write_zeros.ensures.reports)

pub returns-clause-over : goal.returns-clause-over
returns-clause-over g c =
    let hand = c.args.hand in
    let len : c.max-length.result ≡ unfinished_length hand = (let s = c.size.ensures in let l = c.max-length.ensures in omega arith) in
    let over = c.in_ok-turned.ensures.over.over in
    let base = c.write_zeros.ensures.base.same in
    record {
      over = record {
        same = λ e. base ∙ over.same (e ∙ sym len);
        size = λ ne. ap (λ s. s.size) base ∙ over.size (λ e. ne (e ∙ len));
        flying = λ ne. ap (λ s. s.in_flight) base ∙ over.flying (λ e. ne (e ∙ len));
      };
      owned = owned_kept _ _ (g.D.BlockDevice.geometry c.args.dev.now) (g.D.BlockDevice.geometry c.reposition_draft.new.dev) _ _ _ _ _ c.reposition_draft.ensures.writing.device.geometry c.write_zeros.ensures.map c.in_ok-turned.ensures.over.owned c.write_zeros.ensures.base;
    }
