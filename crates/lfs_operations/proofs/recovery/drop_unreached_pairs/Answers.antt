use Rattle.lfs_operations.proofs.Common.{suc, ◌≡◌, ◌+◌, ◌-◌, ap, sym, subst, ◌∙◌, drop, length, arith, refl, Err, on_ok_weaker, err_from_is_err_and, pairs_blocks, pairs_gstate, KeptThread, move_view}
use Rattle.lfs_operations.proofs.RecoverEnd.{can_end, end_survives, ends, none_reported, reports_steps}
use Rattle.lfs_operations.proofs.RecoverUnderWay.{IsUnderWay, begins, can_take, moves_on, stays_by, survives_on, writes_on, enough_behind, none_left, taking}
use Rattle.lfs_operations.proofs.RecoverWrites.{writes_fewer}
use Rattle.lfs_operations.proofs.Putting.{writes_trans}
use Rattle.lfs_operations.proofs.recovery.drop_unreached_pairs.Goals as goal

pub loop-dropped-init : goal.loop-dropped-init
loop-dropped-init g c = record {
  end = refl;
  within = omega arith;
  works = c.requires.works;
  no_fault = refl;
  still = λ none. refl;
  way = begins c.args.thread.now.kept c.args.unreached.now c.requires.can;
}

pub overflow_sub-behind : goal.overflow_sub-behind
overflow_sub-behind g c = enough_behind c.args.thread.now.kept c.loop-dropped.thread.kept c.args.unreached.now c.loop-dropped.dropped c.loop-dropped-test.true c.loop-dropped.invariant.way

pub drop_pair_at-requires-clause-can : goal.drop_pair_at-requires-clause-can
drop_pair_at-requires-clause-can g c = can_take
    (taking c.args.thread.now.kept c.loop-dropped.thread.kept c.args.unreached.now c.loop-dropped.dropped (move_view c.gstate_after_drop-wanted.result) c.loop-dropped-test.true c.loop-dropped.invariant.way c.gstate_after_drop-wanted.ensures)

pub returns-in_err-drop_pair_at-clause-errors : goal.returns-in_err-drop_pair_at-clause-errors
returns-in_err-drop_pair_at-clause-errors g c =
    let p = err_from_is_err_and c.from_residual.result c.from_residual.ensures.1 in
    reports_steps c.args.thread.now c.loop-dropped.thread c.drop_pair_at.new.thread p.0 c.drop_pair_at.result c.from_residual.result c.loop-dropped.invariant.no_fault (c.in_err-drop_pair_at.was ∙ ap Err (sym p.2)) p.1 c.drop_pair_at.ensures.errors

pub returns-in_err-drop_pair_at-clause-device : goal.returns-in_err-drop_pair_at-clause-device
returns-in_err-drop_pair_at-clause-device g c = writes_on
    (taking c.args.thread.now.kept c.loop-dropped.thread.kept c.args.unreached.now c.loop-dropped.dropped (move_view c.gstate_after_drop-wanted.result) c.loop-dropped-test.true c.loop-dropped.invariant.way c.gstate_after_drop-wanted.ensures)
    c.drop_pair_at.new.thread.kept c.drop_pair_at.ensures.device

pub returns-in_err-drop_pair_at-clause-survives : goal.returns-in_err-drop_pair_at-clause-survives
returns-in_err-drop_pair_at-clause-survives g c = survives_on
    (taking c.args.thread.now.kept c.loop-dropped.thread.kept c.args.unreached.now c.loop-dropped.dropped (move_view c.gstate_after_drop-wanted.result) c.loop-dropped-test.true c.loop-dropped.invariant.way c.gstate_after_drop-wanted.ensures)
    c.drop_pair_at.new.thread.kept (stays_by _ c.loop-dropped.thread.kept c.drop_pair_at.new.thread.kept c.drop_pair_at.ensures.device) c.drop_pair_at.ensures.stops

pub loop-dropped-preserved : goal.loop-dropped-preserved
loop-dropped-preserved g c =
    let d = c.loop-dropped.dropped in
    let low = c.loop-dropped-test.true in
    let one : suc d ≡ d + 1 = omega arith in
    record {
      end = refl;
      within = omega arith;
      works = c.in_ok-drop_pair_at.ensures.errors.failed;
      no_fault = c.in_ok-drop_pair_at.ensures.errors.reported.no_fault (λ e. absurd (let k : _ = e in cc)) ∙ c.loop-dropped.invariant.no_fault;
      still = λ none. absurd (omega arith);
      way = subst (λ k. IsUnderWay c.args.thread.now.kept c.drop_pair_at.new.thread.kept k (drop k c.args.unreached.now)) one (moves_on
          (taking c.args.thread.now.kept c.loop-dropped.thread.kept c.args.unreached.now c.loop-dropped.dropped (move_view c.gstate_after_drop-wanted.result) c.loop-dropped-test.true c.loop-dropped.invariant.way c.gstate_after_drop-wanted.ensures)
          c.drop_pair_at.new.thread.kept c.in_ok-drop_pair_at.ensures.is_dropped c.drop_pair_at.ensures.device c.drop_pair_at.ensures.stops);
    }

pub clear_sync_bit-requires-clause-can : goal.clear_sync_bit-requires-clause-can
clear_sync_bit-requires-clause-can g c =
    let past = c.loop-dropped-test.false in
    can_end c.args.thread.now.kept c.loop-dropped.thread.kept c.loop-dropped.dropped
    (none_left c.args.thread.now.kept c.loop-dropped.thread.kept c.args.unreached.now c.loop-dropped.dropped (omega (arith, past)) c.loop-dropped.invariant.way)

pub returns-clause-device : goal.returns-clause-device
returns-clause-device g c = writes_trans c.loop-dropped.invariant.way.writes (writes_fewer _ (pairs_blocks c.args.thread.now.kept.pairs) c.loop-dropped.invariant.way.fewer c.clear_sync_bit.ensures.device)

pub returns-clause-recovered : goal.returns-clause-recovered
returns-clause-recovered g c =
    on_ok_weaker c.clear_sync_bit.result (λ is.
    let past = c.loop-dropped-test.false in
    ends c.args.thread.now.kept c.loop-dropped.thread.kept c.loop-dropped.dropped
    (none_left c.args.thread.now.kept c.loop-dropped.thread.kept c.args.unreached.now c.loop-dropped.dropped (omega (arith, past)) c.loop-dropped.invariant.way)
    c.requires.can.writable c.requires.can.large c.clear_sync_bit.new.thread.kept c.args.unreached.now c.requires.can.reported
    (writes_trans c.loop-dropped.invariant.way.writes (writes_fewer _ (pairs_blocks c.args.thread.now.kept.pairs) c.loop-dropped.invariant.way.fewer c.clear_sync_bit.ensures.device)) (stays_by _ c.loop-dropped.thread.kept c.clear_sync_bit.new.thread.kept c.clear_sync_bit.ensures.device) is)
    c.clear_sync_bit.ensures.is_cleared

pub returns-clause-survives : goal.returns-clause-survives
returns-clause-survives g c =
    let past = c.loop-dropped-test.false in
    end_survives c.args.thread.now.kept c.loop-dropped.thread.kept c.loop-dropped.dropped
    (none_left c.args.thread.now.kept c.loop-dropped.thread.kept c.args.unreached.now c.loop-dropped.dropped (omega (arith, past)) c.loop-dropped.invariant.way)
    c.clear_sync_bit.new.thread.kept (stays_by _ c.loop-dropped.thread.kept c.clear_sync_bit.new.thread.kept c.clear_sync_bit.ensures.device) c.clear_sync_bit.ensures.survives

pub returns-in_err-drop_pair_at-clause-nothing : goal.returns-in_err-drop_pair_at-clause-nothing
returns-in_err-drop_pair_at-clause-nothing g c recovered =
    let none = ap length (none_reported c.args.thread.now.kept.pairs c.args.unreached.now recovered c.requires.can.reported) in
    let low = c.loop-dropped-test.true in
    absurd (omega arith)

pub returns-clause-nothing : goal.returns-clause-nothing
returns-clause-nothing g c recovered =
    let none = ap length (none_reported c.args.thread.now.kept.pairs c.args.unreached.now recovered c.requires.can.reported) in
    let in_all = c.loop-dropped.invariant.within in
    let same = c.loop-dropped.invariant.still (omega arith) in
    c.clear_sync_bit.ensures.nothing (ap (λ (t : KeptThread). pairs_gstate t.pairs) same ∙ recovered.gstate) ∙ same
