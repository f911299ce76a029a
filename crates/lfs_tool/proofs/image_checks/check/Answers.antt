use Rattle.std.proofs.Common.{◌∙◌, subst}
use Rattle.lfs_tool.proofs.Common.{Appends, AppendsPrefix}
use Rattle.lfs_tool.proofs.image_checks.check.Goals as goal

pub returns-in_err-write_and_flush-clause-beginning : goal.returns-in_err-write_and_flush-clause-beginning
returns-in_err-write_and_flush-clause-beginning g c = λ is.
    let old = g.W.Write.contents c.args.out.now.inner in
    let new = g.W.Write.contents c.write_and_flush.new.out.inner in
    let beginning = subst (λ text. AppendsPrefix old new text) (c.as_slice.ensures.value ∙ c.in_ok-text.ensures) c.in_err-write_and_flush.ensures.beginning in
    (c.in_ok-checked.checked, (c.in_ok-checked.ensures.checked, beginning))

pub returns-clause-ok : goal.returns-clause-ok
returns-clause-ok g c =
    let old = g.W.Write.contents c.args.out.now.inner in
    let new = g.W.Write.contents c.write_and_flush.new.out.inner in
    let written = subst (λ text. Appends old new text) (c.as_slice.ensures.value ∙ c.in_ok-text.ensures) c.in_ok-write_and_flush.ensures.ok in
    (c.in_ok-checked.checked, (c.in_ok-checked.ensures.checked, c.is_result_accepted.ensures, written))
