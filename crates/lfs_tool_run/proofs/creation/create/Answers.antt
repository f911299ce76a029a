use Rattle.std.proofs.Common.{◌≡◌, ◌∙◌, refl, subst, sym}
use Rattle.lfs_tool_run.proofs.Common.{IfOk-weaker, ram_bytes, IsFirstEntriesRefusal}
use Rattle.lfs_tool.proofs.Writers.{reports_written}
use Rattle.lfs_tool_run.proofs.ImagesMade.{made, passed}
use Rattle.lfs_tool_run.proofs.Walking.{carry_over}
use Rattle.lfs_tool_run.proofs.creation.create.Goals as goal

pub returns-in-Ok-clause-ok : goal.returns-in-Ok-clause-ok
returns-in-Ok-clause-ok g c =
    let entries = c.args.entries.now in
    let l = passed c.args.geometry c.args.order entries entries (ram_bytes c.in-Ok.image) c.bytes.result.now refl c.bytes.ensures.bytes c.in-Ok.ensures.ok in
    IfOk-weaker c.write_and_flush.result _ _
    (λ _ appends. (c.bytes.result.now, (l, ((λ known all. (carry_over known entries all, made c.args.geometry c.args.order known entries c.bytes.result.now all l)), appends)))) c.write_and_flush.ensures.ok

pub returns-in-Ok-clause-writer : goal.returns-in-Ok-clause-writer
returns-in-Ok-clause-writer g c = reports_written _ _ c.write_and_flush.result c.write_and_flush.ensures.kept c.write_and_flush.ensures.failed

pub returns-in-Ok-clause-beginning : goal.returns-in-Ok-clause-beginning
returns-in-Ok-clause-beginning g c = λ _.
    let entries = c.args.entries.now in
    let l = passed c.args.geometry c.args.order entries entries (ram_bytes c.in-Ok.image) c.bytes.result.now refl c.bytes.ensures.bytes c.in-Ok.ensures.ok in
    (c.bytes.result.now, (l, ((λ known all. (carry_over known entries all, made c.args.geometry c.args.order known entries c.bytes.result.now all l)), c.write_and_flush.ensures.beginning)))

pub returns-in-Err-clause-refused : goal.returns-in-Err-clause-refused
returns-in-Err-clause-refused g c = λ e is not_memory.
    let error : c.in-Err.error ≡ e = cc in
    subst (IsFirstEntriesRefusal c.args.geometry c.args.order c.args.entries.now) error (c.in-Err.ensures.err (λ x. not_memory (sym error ∙ x)))
