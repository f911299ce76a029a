use Rattle.std.proofs.Common.{◌∙◌, Err, ap}
use Rattle.lfs_fs.proofs.Common.{result_unless_refused}
use Rattle.lfs_fs.proofs.Errors.{passed_on}
use Rattle.lfs_fs.proofs.check_order.value_or_refusal.Goals as goal

pub returns-in-Some : goal.returns-in-Some
returns-in-Some g c =
    ap (λ z. Err z) (passed_on _ _ c.error.ensures.refusal c.error.ensures.is) ∙ ap (λ z. result_unless_refused z c.args.value) c.in-Some.ensures
