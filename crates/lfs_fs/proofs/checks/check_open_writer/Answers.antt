use Rattle.std.proofs.Common.{◌∙◌, [], ap, refl, sym}
use Rattle.lfs_model.specs.session.Operations as ops
use Rattle.lfs_fs.proofs.Common.{pairs_gstate, TreeState, flags_view, session_view}
use Rattle.lfs_fs.proofs.Answered.{ready_later}
use Rattle.lfs_fs.proofs.Errors.{given_on}
use Rattle.lfs_fs.proofs.Late.{writer_late}
use Rattle.lfs_fs.proofs.Checked.{lookup_failed}
use Rattle.lfs_fs.proofs.WriterOpens.{parents_checked, passes_first, writer_checked}
use Rattle.lfs_fs.proofs.checks.check_open_writer.Goals as goal
use Rattle.lfs_fs.proofs.checks.check_open_writer.Goals.{then-is_nothing, else-is_nothing}

pub creation_refusal-refusal-requires-clause-ready : goal.creation_refusal-refusal-requires-clause-ready
creation_refusal-refusal-requires-clause-ready g c = ready_later _ _ c.args.files.now (c.requires.ready (sym c.if-has_failed.ensures)) c.in_ok-found.ensures.asks.asked

pub creation_refusal-refusal-requires-clause-passes : goal.creation_refusal-refusal-requires-clause-passes
creation_refusal-refusal-requires-clause-passes g c = passes_first c.args.tree.now c.look_up_creation.new.self c.args.bytes.now c.in-Some.path (flags_view c.args.flags) c.in_ok-found.found.entry c.if-has_failed.ensures c.if-not-is_writable.ensures c.in-Some.ensures c.requires.write c.if-not-is_allowed.ensures c.in_ok-found.ensures.asks.asked c.in_ok-found.ensures.found c.in_default-fault.is

pub existing_entry_refusal-refusal-requires-clause-passes : goal.existing_entry_refusal-refusal-requires-clause-passes
existing_entry_refusal-refusal-requires-clause-passes g c = passes_first c.args.tree.now c.look_up_creation.new.self c.args.bytes.now c.in-Some.path (flags_view c.args.flags) c.in_ok-found.found.entry c.if-has_failed.ensures c.if-not-is_writable.ensures c.in-Some.ensures c.requires.write c.if-not-is_allowed.ensures c.in_ok-found.ensures.asks.asked c.in_ok-found.ensures.found c.in_default-fault.is

pub returns-in-Some-fault : goal.returns-in-Some-fault
returns-in-Some-fault g c =
    parents_checked (session_view c.args.tree.now c.args.files.now) c.args.bytes.now c.in-Some.path (flags_view c.args.flags) c.in_ok-found.found.entry c.error.result c.in-Some-fault.fault c.look_up_creation.new.self
    c.if-has_failed.ensures c.if-not-is_writable.ensures c.in-Some.ensures c.requires.write c.if-not-is_allowed.ensures c.in_ok-found.ensures.asks.asked c.in_ok-found.ensures.found c.in-Some-fault.is c.error.ensures.refusal c.error.ensures.is

pub returns : goal.returns
returns g c =
    writer_checked c.args.tree.now c.look_up_creation.new.self c.args.files.now c.args.bytes.now c.in-Some.path (flags_view c.args.flags) c.in_ok-found.found.entry c.size.result c.in_ok-found.found.target c.if-is_nothing.refusal c.value_or_refusal.result
    c.if-has_failed.ensures c.if-not-is_writable.ensures c.in-Some.ensures c.requires.write c.if-not-is_allowed.ensures c.in_ok-found.ensures.asks.asked c.in_ok-found.ensures.found
    (elim c.if-is_nothing.branch [ then-is_nothing w ↦ w.refusal-is ∙ w.creation_refusal-refusal.ensures | else-is_nothing w ↦ w.refusal-is ∙ w.existing_entry_refusal-refusal.ensures ])
    c.size.ensures c.in_ok-found.ensures.target (λ settled. c.in_ok-found.ensures.handed_on (sym (ap (λ (t : TreeState). pairs_gstate t.pairs) c.in_ok-found.ensures.asks.asked.same) ∙ settled)) c.value_or_refusal.ensures

pub returns-in_err-found : goal.returns-in_err-found
returns-in_err-found g c =
    lookup_failed (session_view c.args.tree.now c.args.files.now) (ops.Open c.args.bytes.now (flags_view c.args.flags)) _ c.in_err-found.field-0.0 _ c.from_residual.result c.if-has_failed.ensures c.in_err-found.ensures.asks.broken c.in_err-found.ensures.asks.errors (writer_late (session_view c.args.tree.now c.args.files.now) c.args.bytes.now c.in-Some.path (flags_view c.args.flags) c.if-has_failed.ensures c.if-not-is_writable.ensures c.in-Some.ensures c.requires.write c.if-not-is_allowed.ensures)
    (given_on _ c.from_residual.result c.from_residual.ensures.1)

pub returns-then-not-is_writable : goal.returns-then-not-is_writable
returns-then-not-is_writable g c =
    let works = c.if-has_failed.ensures in
    let writable = c.if-not-is_writable.ensures in (
      record { same = refl; failed = λ _. refl; reads = record { events = []; extends = refl; each = tt }; no_fault = refl },
      rw (sym works, sym writable, c.requires.write) refl,
      λ _. refl,
    )
