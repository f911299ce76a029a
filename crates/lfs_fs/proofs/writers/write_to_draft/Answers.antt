use Rattle.std.proofs.Common.{◌∙◌, Err, ap, refl, subst, sym}
use Rattle.std.specs.Prelude.{IfErr}
use Rattle.lfs_fs.proofs.Common.{err_from_is_err_and, HasErrorCause}
use Rattle.lfs_fs.proofs.Questions.{error_either}
use Rattle.lfs_fs.proofs.WritersInPlace.{has_contents, has_size, same_bytes, same_form}
use Rattle.lfs_fs.proofs.Writing.{beside_later, broken_after, can_write, has_written}
use Rattle.lfs_fs.proofs.Stopping.{nothing_yet, then_reads}
use Rattle.lfs_fs.proofs.StoppedCalls.{beside_left}
use Rattle.lfs_fs.proofs.writers.write_to_draft.Goals as goal

pub contents_of_writer-requires-clause-file : goal.contents_of_writer-requires-clause-file
contents_of_writer-requires-clause-file g c = has_contents c.args.tree.now c.args.writer.now c.take-unsaved.result c.requires.can c.take-unsaved.ensures.value

pub contents_of_writer-requires-clause-size : goal.contents_of_writer-requires-clause-size
contents_of_writer-requires-clause-size g c = has_size c.args.tree.now c.args.writer.now c.take-unsaved.result c.requires.can c.take-unsaved.ensures.value

pub write-requires : goal.write-requires
write-requires g c =
    let k = c.in_ok-contents.ensures in
    can_write c.args.tree.now c.contents_of_writer.new.tree c.args.writer.now c.args.bytes.now c.place-place.result c.in_ok-contents.contents _ c.requires k.asked c.place-place.ensures k.over refl
    (same_form c.args.tree.now c.args.writer.now c.take-unsaved.result c.in_ok-contents.contents c.take-unsaved.ensures.value k.form)
    c.lemma_reserve_suffices.ensures.large c.lemma_reserve_suffices.ensures.write

pub returns-in_err-contents-2-clause-broken : goal.returns-in_err-contents-2-clause-broken
returns-in_err-contents-2-clause-broken g c = broken_after c.args.tree.now c.contents_of_writer.new.tree c.write.new.self c.from_residual-in_err-contents-2.result c.in_ok-contents.ensures.asked c.in_err-contents-2.ensures.writes.broken

pub returns-in_err-contents-2-clause-errors : goal.returns-in_err-contents-2-clause-errors
returns-in_err-contents-2-clause-errors g c =
    let p = err_from_is_err_and c.from_residual-in_err-contents-2.result c.from_residual-in_err-contents-2.ensures.1 in
    subst (λ r. IfErr r (HasErrorCause c.args.tree.now c.write.new.self)) (sym p.1)
    (subst (λ r. IfErr r (HasErrorCause c.args.tree.now c.write.new.self)) (c.in_err-contents-2.was ∙ ap Err (sym p.2))
    (error_either c.args.tree.now c.contents_of_writer.new.tree c.write.new.self c.write.result c.in_ok-contents.ensures.asked c.write.ensures.writes.errors))

pub returns-clause-written : goal.returns-clause-written
returns-clause-written g c =
    let k = c.in_ok-contents.ensures in
    let l = c.in_ok-contents-2.ensures in
    has_written c.args.tree.now c.contents_of_writer.new.tree c.write.new.self c.args.writer.now c.args.bytes.now c.place-place.result c.min.result _ c.nonsequential_after_change-has_turned.result c.in_ok-contents.contents c.in_ok-contents-2.contents _
    c.requires k.asked c.place-place.ensures k.over refl
    (same_form c.args.tree.now c.args.writer.now c.take-unsaved.result c.in_ok-contents.contents c.take-unsaved.ensures.value k.form)
    (same_bytes c.args.tree.now c.args.writer.now c.take-unsaved.result _ c.take-unsaved.ensures.value k.bytes)
    c.lemma_forms_fit.ensures.written l.writes.beside l.over l.written.bytes l.written.form c.min.ensures c.nonsequential_after_change-has_turned.ensures c.max-writer.ensures

pub returns-clause-beside : goal.returns-clause-beside
returns-clause-beside g c = beside_later c.args.tree.now c.contents_of_writer.new.tree c.write.new.self c.in_ok-contents.ensures.asked c.in_ok-contents-2.ensures.writes.beside

pub returns-in_err-contents-clause-survives : goal.returns-in_err-contents-clause-survives
returns-in_err-contents-clause-survives g c sound = then_reads c.args.tree.now c.args.tree.now c.contents_of_writer.new.tree.history _ (nothing_yet c.args.tree.now sound c.requires.can.written.writable) c.in_err-contents.ensures.broken.reads

pub returns-in_err-contents-2-clause-survives : goal.returns-in_err-contents-2-clause-survives
returns-in_err-contents-2-clause-survives g c sound =
    beside_left c.args.tree.now c.contents_of_writer.new.tree c.write.new.self c.in_err-contents-2.ensures.writes.broken.calls sound c.requires.can.written.writable c.in_ok-contents.ensures.asked c.in_err-contents-2.ensures.writes.broken.called c.write.ensures.writes.survives

pub returns-clause-survives : goal.returns-clause-survives
returns-clause-survives g c sound =
    beside_left c.args.tree.now c.contents_of_writer.new.tree c.write.new.self c.in_ok-contents-2.ensures.writes.beside.calls sound c.requires.can.written.writable c.in_ok-contents.ensures.asked c.in_ok-contents-2.ensures.writes.beside.called c.write.ensures.writes.survives
