use Rattle.std.proofs.Common.{◌≡◌, Some, subst}
use Rattle.lfs_tool.specs.declared.verdict.ImageVerdict.TheVariants as verdict
use Rattle.lfs_tool.proofs.Common.{IsWrongSuperblockField}
use Rattle.lfs_tool.specs.CheckResults.{IsBytesVerdict}
use Rattle.lfs_tool.proofs.check_results.check_result_of_verdict.Goals as goal

pub returns-in-Some-Accepted : goal.returns-in-Some-Accepted
returns-in-Some-Accepted c layout image stated judged given =
    let e = c.in-Some-Accepted in
    let outer = e.is in
    let inner = e.field-0-is in
    let is : c.args.verdict ≡ Some (verdict.Accepted e.summary e.orders) = cc in
    subst (IsBytesVerdict layout image) is judged

pub returns-in-Some-Refused : goal.returns-in-Some-Refused
returns-in-Some-Refused c layout image stated judged given =
    let e = c.in-Some-Refused in
    let outer = e.is in
    let inner = e.field-0-is in
    let is : c.args.verdict ≡ Some (verdict.Refused e.rule) = cc in
    let j = subst (IsBytesVerdict layout image) is judged in
    c.refused_check_result.ensures layout image (λ image_is. j.1.0) stated (λ is. (subst (IsWrongSuperblockField layout image) is stated, (j.0, j.1.1))) given

pub returns-in-None : goal.returns-in-None
returns-in-None c layout image stated judged given =
    let j = subst (IsBytesVerdict layout image) c.in-None.is judged in
    c.refused_check_result-in-None.ensures layout image (λ image_is. absurd (j image_is)) stated (λ is. (subst (IsWrongSuperblockField layout image) is stated, j)) given
