use Rattle.std.proofs.Common.{◌∙◌, ap, arith, refl, rules, subst, sym}
use Rattle.lfs_tool.proofs.Common.{IsReadToEnd}
use Rattle.lfs_tool.proofs.KnownBytes.{ended_behind, past_the_most, read_ended, read_full}
use Rattle.lfs_tool.specs.Streams.{has_failed}
use Rattle.lfs_tool.proofs.stream.read_image.Goals as goal
use Rattle.lfs_tool.proofs.stream.read_image.Goals.{else-loop-buffer-test, then-loop-buffer-test+in-Ok-eq0}

pub returns-clause-bytes : goal.returns-clause-bytes
returns-clause-bytes g c = elim c.loop-buffer-test.branch [
  | else-loop-buffer-test w ↦ read_full _ _ c.loop-buffer.bytes.items 268435457 (omega arith) c.loop-buffer.invariant.read
  | then-loop-buffer-test+in-Ok-eq0 w ↦ read_ended _ _ _ c.loop-buffer.bytes.items w.read_part.new.buf 268435457 w.in-Ok-eq0.field-0 (omega arith) c.loop-buffer.invariant.read
      w.in-Ok-eq0.field-0-test w.in-Ok-eq0.ensures.bytes.0 (w.in-Ok-eq0.ensures.bytes.1 w.in-Ok-eq0.field-0-test (search rules))
]

pub returns-then-is_err-clause-err : goal.returns-then-is_err-clause-err
returns-then-is_err-clause-err g c = (refl, c.in-Ok.ensures.kept ∙ c.loop-buffer.invariant.same)

pub returns-clause-kept : goal.returns-clause-kept
returns-clause-kept g c = elim c.loop-buffer-test.branch [
  | else-loop-buffer-test w ↦ ap has_failed w.image-is ∙ c.loop-buffer.invariant.same
  | then-loop-buffer-test+in-Ok-eq0 w ↦ ap has_failed w.image-is ∙ (w.in-Ok-eq0.ensures.kept ∙ c.loop-buffer.invariant.same)
]

pub returns-clause-read : goal.returns-clause-read
returns-clause-read g c =
    let first = g.R.Read.remaining c.args.image.now.inner in
    elim c.loop-buffer-test.branch [
      | else-loop-buffer-test w ↦ subst (λ i. IsReadToEnd first (g.R.Read.remaining i.inner)) (sym w.image-is) (past_the_most first _ c.loop-buffer.bytes.items c.loop-buffer.invariant.read (omega arith))
      | then-loop-buffer-test+in-Ok-eq0 w ↦ subst (λ i. IsReadToEnd first (g.R.Read.remaining i.inner)) (sym w.image-is)
          (ended_behind first _ _ c.loop-buffer.bytes.items _ c.loop-buffer.invariant.read w.in-Ok-eq0.ensures.bytes.0 (w.in-Ok-eq0.ensures.bytes.1 w.in-Ok-eq0.field-0-test (search rules)))
    ]
