use Rattle.std.proofs.Common.{arith, refl, subst, sym}
use Rattle.std.proofs.lemmas.Bool.{false_from_ne_true}
use Rattle.lfs_model.specs.session.Operations as ops
use Rattle.lfs_fs.specs.CallEffects.{IsCall}
use Rattle.lfs_volume.specs.Saves.{dirty_bytes}
use Rattle.lfs_volume.specs.SessionCalls.{error_result}
use Rattle.lfs_volume.proofs.Steps.{passed_err}
use Rattle.lfs_volume.proofs.Saving.{IsCut, cut_by, cut_ends, dirty_range_is_written, not_cut, size_of_one, write_ends}
use Rattle.std.proofs.Common.{length, Ok}
use Rattle.lfs_volume.proofs.saves.write_dirty_range.Goals as goal
use Rattle.lfs_volume.proofs.saves.write_dirty_range.Goals.{then-branch+in_ok-truncate, else-branch}

pub returns-in_err-truncate-clause-ended : goal.returns-in_err-truncate-clause-ended
returns-in_err-truncate-clause-ended g c =
    passed_err c.from_residual-in_err-truncate.result _ _ c.from_residual-in_err-truncate.ensures.1 (λ tree path stored zero can.
    let k = size_of_one c.args.session.now tree _ c.args.fd c.in_ok-size.field-0 can.opened zero c.in_ok-size.ensures in
    let t = c.if-branch.true in
    (cut_ends c.args.session.now c.truncate.new.self tree path stored c.args.bytes.now c.args.dirty_range c.args.fd (length c.args.bytes.now) c.in_ok-size.field-0 _ can zero refl k t c.in_err-truncate.ensures).0)

pub returns-in_err-truncate-clause-failed : goal.returns-in_err-truncate-clause-failed
returns-in_err-truncate-clause-failed g c =
    passed_err c.from_residual-in_err-truncate.result _ _ c.from_residual-in_err-truncate.ensures.1 (λ tree path stored zero can.
    let k = size_of_one c.args.session.now tree _ c.args.fd c.in_ok-size.field-0 can.opened zero c.in_ok-size.ensures in
    let t = c.if-branch.true in
    false_from_ne_true _ (cut_ends c.args.session.now c.truncate.new.self tree path stored c.args.bytes.now c.args.dirty_range c.args.fd (length c.args.bytes.now) c.in_ok-size.field-0 _ can zero refl k t c.in_err-truncate.ensures).1)

pub returns-in_err-write-clause-ended : goal.returns-in_err-write-clause-ended
returns-in_err-write-clause-ended g c =
    passed_err c.from_residual-in_err-write.result _ _ c.from_residual-in_err-write.ensures.1 (λ tree path stored zero can.
    let k = size_of_one c.args.session.now tree _ c.args.fd c.in_ok-size.field-0 can.opened zero c.in_ok-size.ensures in
    let cut : IsCut c.args.session.now tree path stored c.args.bytes.now c.args.dirty_range.from c.if-branch.session =
    elim c.if-branch.branch [
      | then-branch+in_ok-truncate w ↦
          subst (IsCut c.args.session.now tree path stored c.args.bytes.now c.args.dirty_range.from) (sym w.session-is)
          (cut_by c.args.session.now w.truncate.new.self tree path stored c.args.bytes.now c.args.dirty_range c.args.fd (length c.args.bytes.now) c.in_ok-size.field-0 can zero refl k w.if-branch.true w.in_ok-truncate.ensures)
      | else-branch w ↦
          subst (IsCut c.args.session.now tree path stored c.args.bytes.now c.args.dirty_range.from) (sym w.session-is)
          (not_cut c.args.session.now tree path stored c.args.bytes.now c.args.dirty_range can (let f = w.if-branch.false in omega arith))
    ] in
    (write_ends c.args.session.now c.if-branch.session c.write.new.self tree path stored c.args.bytes.now (dirty_bytes c.args.dirty_range c.args.bytes.now) c.args.dirty_range _ cut can.differs refl
    (subst (λ z. IsCall c.if-branch.session (ops.Write z (dirty_bytes c.args.dirty_range c.args.bytes.now)) (error_result c.in_err-write.field-0.0) c.write.new.self) zero c.in_err-write.ensures)).0)

pub returns-in_err-write-clause-failed : goal.returns-in_err-write-clause-failed
returns-in_err-write-clause-failed g c =
    passed_err c.from_residual-in_err-write.result _ _ c.from_residual-in_err-write.ensures.1 (λ tree path stored zero can.
    let k = size_of_one c.args.session.now tree _ c.args.fd c.in_ok-size.field-0 can.opened zero c.in_ok-size.ensures in
    let cut : IsCut c.args.session.now tree path stored c.args.bytes.now c.args.dirty_range.from c.if-branch.session =
    elim c.if-branch.branch [
      | then-branch+in_ok-truncate w ↦
          subst (IsCut c.args.session.now tree path stored c.args.bytes.now c.args.dirty_range.from) (sym w.session-is)
          (cut_by c.args.session.now w.truncate.new.self tree path stored c.args.bytes.now c.args.dirty_range c.args.fd (length c.args.bytes.now) c.in_ok-size.field-0 can zero refl k w.if-branch.true w.in_ok-truncate.ensures)
      | else-branch w ↦
          subst (IsCut c.args.session.now tree path stored c.args.bytes.now c.args.dirty_range.from) (sym w.session-is)
          (not_cut c.args.session.now tree path stored c.args.bytes.now c.args.dirty_range can (let f = w.if-branch.false in omega arith))
    ] in
    false_from_ne_true _ (write_ends c.args.session.now c.if-branch.session c.write.new.self tree path stored c.args.bytes.now (dirty_bytes c.args.dirty_range c.args.bytes.now) c.args.dirty_range _ cut can.differs refl
    (subst (λ z. IsCall c.if-branch.session (ops.Write z (dirty_bytes c.args.dirty_range c.args.bytes.now)) (error_result c.in_err-write.field-0.0) c.write.new.self) zero c.in_err-write.ensures)).1)

pub returns-clause-written : goal.returns-clause-written
returns-clause-written g c tree path stored zero can =
    let k = size_of_one c.args.session.now tree _ c.args.fd c.in_ok-size.field-0 can.opened zero c.in_ok-size.ensures in
    let cut : IsCut c.args.session.now tree path stored c.args.bytes.now c.args.dirty_range.from c.if-branch.session =
    elim c.if-branch.branch [
      | then-branch+in_ok-truncate w ↦
          subst (IsCut c.args.session.now tree path stored c.args.bytes.now c.args.dirty_range.from) (sym w.session-is)
          (cut_by c.args.session.now w.truncate.new.self tree path stored c.args.bytes.now c.args.dirty_range c.args.fd (length c.args.bytes.now) c.in_ok-size.field-0 can zero refl k w.if-branch.true w.in_ok-truncate.ensures)
      | else-branch w ↦
          subst (IsCut c.args.session.now tree path stored c.args.bytes.now c.args.dirty_range.from) (sym w.session-is)
          (not_cut c.args.session.now tree path stored c.args.bytes.now c.args.dirty_range can (let f = w.if-branch.false in omega arith))
    ] in
    dirty_range_is_written c.args.session.now c.if-branch.session c.write.new.self tree path stored c.args.bytes.now (dirty_bytes c.args.dirty_range c.args.bytes.now) c.args.dirty_range c.in_ok-write.field-0 cut can.differs refl
    (subst (λ z. IsCall c.if-branch.session (ops.Write z (dirty_bytes c.args.dirty_range c.args.bytes.now)) (Ok (ops.Count c.in_ok-write.field-0)) c.write.new.self) zero c.in_ok-write.ensures)
