use Rattle.std.proofs.Common.{rules, ℕ, ◌≡◌, ◌≢◌, ◌+◌, ◌*◌, ◌≤◌, Bool, if◌then◌else◌, length, max, min, sym, ap, ◌∙◌, arith}
use Rattle.lfs_file.proofs.Common.{eq-eqb, ne_eqb, skip_list_block_count, write_room, InHand, skip_list_block_count-more, growing_size, unfinished_length, err_from_is_err_and}
use Rattle.lfs_device.specs.declared.geometry.Geometry.{Geometry}
use Rattle.lfs_file.proofs.Owning.{owned_kept}
use Rattle.lfs_file.proofs.ContentsCalled.{writes_as, writes_fail, writes_on}
use Rattle.lfs_file.proofs.Flights.{in_flight_limit-le, either_fits}
use Rattle.lfs_file.proofs.reposition.write_at_position.Goals as goal

-- the room that the form of the contents takes: for the list in hand, or for another one over it
on_room : (block_size place count end base used all : ℕ) (flying : Bool) → used + write_room block_size place count (InHand end base flying) ≤ all → end ≡ min place (max end base)
    → used + skip_list_block_count block_size (place + count) + (if flying then skip_list_block_count block_size base else 0) ≤ all
on_room block_size place count end base used all flying room same =
    let most : ℕ = skip_list_block_count block_size (place + count) in
    let e : write_room block_size place count (InHand end base flying) ≡ most + (if flying then skip_list_block_count block_size base else 0) =
    ap (λ (t : Bool). if t then most + (if flying then skip_list_block_count block_size base else 0) else 2 * skip_list_block_count block_size (max (max end base) (place + count))) (eq-eqb end (min place (max end base)) same) in
    omega arith

anew_room : (block_size place count end base used all : ℕ) (flying : Bool) → used + write_room block_size place count (InHand end base flying) ≤ all → end ≢ min place (max end base)
    → used + 2 * skip_list_block_count block_size (max (max end base) (place + count)) ≤ all
anew_room block_size place count end base used all flying room ne =
    let most : ℕ = skip_list_block_count block_size (place + count) in
    let e : write_room block_size place count (InHand end base flying) ≡ 2 * skip_list_block_count block_size (max (max end base) (place + count)) =
    ap (λ (t : Bool). if t then most + (if flying then skip_list_block_count block_size base else 0) else 2 * skip_list_block_count block_size (max (max end base) (place + count))) (ne_eqb end (min place (max end base)) ne) in
    omega arith

pub reposition_draft-requires-clause-room : goal.reposition_draft-requires-clause-room
reposition_draft-requires-clause-room g c ne =
    let hand = c.args.hand in
    let now : Geometry = g.D.BlockDevice.geometry c.args.dev.now in
    let most : ℕ = max (unfinished_length hand) (c.args.place + length c.args.bytes.now) in
    let begin : c.min.result ≡ min c.args.place (unfinished_length hand) = (let s = c.size.ensures in let l = c.max-length.ensures in let b = c.min.ensures in omega arith) in
    let room = anew_room now.block_size c.args.place (length c.args.bytes.now) (growing_size hand.list) hand.base.size _ _ hand.base.in_flight c.requires.room (λ e. ne (e ∙ sym begin)) in
    let few = in_flight_limit-le now.block_size hand.base in
    let more = skip_list_block_count-more now.block_size hand.base.size most (omega arith) in
    omega arith

pub fill_and_write-requires : goal.fill_and_write-requires
fill_and_write-requires g c = record {
  begun = search rules;
  at = search rules;
  some = search rules;
  small = search rules;
  room =
      let hand = c.args.hand in
      let begin : c.min.result ≡ min c.args.place (unfinished_length hand) = (let s = c.size.ensures in let l = c.max-length.ensures in let b = c.min.ensures in omega arith) in
      let over = c.in_ok-turned.ensures.over.over in
      let keeps = c.in_ok-turned.ensures.writing.map in
      either_fits (g.D.BlockDevice.geometry c.args.dev.now) (g.D.BlockDevice.geometry c.reposition_draft.new.dev) c.in_ok-turned.turned.base hand.base _ _ _ _ (growing_size hand.list) (min c.args.place (unfinished_length hand)) (unfinished_length hand)
      (c.args.place + length c.args.bytes.now) (c.args.place + length c.args.bytes.now) c.reposition_draft.ensures.writing.device.geometry keeps.used keeps.count (omega arith)
      (λ e. over.same (e ∙ sym begin)) (λ ne. over.size (λ e. ne (e ∙ begin))) (on_room _ c.args.place (length c.args.bytes.now) (growing_size hand.list) hand.base.size _ _ hand.base.in_flight c.requires.room)
      (anew_room _ c.args.place (length c.args.bytes.now) (growing_size hand.list) hand.base.size _ _ hand.base.in_flight c.requires.room);
}

pub returns-clause-writing : goal.returns-clause-writing
returns-clause-writing g c = writes_on g.D.BlockDevice c.in_ok-turned.ensures.writing c.fill_and_write.ensures.map c.fill_and_write.ensures.device c.in_ok-fill_and_write.ensures.reports

pub returns-clause-over : goal.returns-clause-over
returns-clause-over g c =
    let hand = c.args.hand in
    let begin : c.min.result ≡ min c.args.place (unfinished_length hand) = (let s = c.size.ensures in let l = c.max-length.ensures in let b = c.min.ensures in omega arith) in
    let over = c.in_ok-turned.ensures.over.over in
    let base = c.fill_and_write.ensures.base.same in
    record {
      over = record {
        same = λ e. base ∙ over.same (e ∙ sym begin);
        size = λ ne. ap (λ s. s.size) base ∙ over.size (λ e. ne (e ∙ begin));
        flying = λ ne. ap (λ s. s.in_flight) base ∙ over.flying (λ e. ne (e ∙ begin));
      };
      owned = owned_kept _ _ (g.D.BlockDevice.geometry c.args.dev.now) (g.D.BlockDevice.geometry c.reposition_draft.new.dev) _ _ _ _ _ c.reposition_draft.ensures.writing.device.geometry c.fill_and_write.ensures.map c.in_ok-turned.ensures.over.owned c.fill_and_write.ensures.base;
    }

pub returns-in_err-turned-clause-writing : goal.returns-in_err-turned-clause-writing
returns-in_err-turned-clause-writing g c =
    let p = err_from_is_err_and c.from_residual.result c.from_residual.ensures.1 in
    rw (p.1, p.2) (writes_as g.D.BlockDevice c.in_err-turned.ensures.writing)

pub returns-in_err-fill_and_write-clause-writing : goal.returns-in_err-fill_and_write-clause-writing
returns-in_err-fill_and_write-clause-writing g c =
    let p = err_from_is_err_and c.from_residual-in_err-fill_and_write.result c.from_residual-in_err-fill_and_write.ensures.1 in
    rw (p.1, p.2) (writes_fail g.D.BlockDevice c.in_ok-turned.ensures.writing c.fill_and_write.ensures.map c.fill_and_write.ensures.device c.in_err-fill_and_write.ensures.reports)
