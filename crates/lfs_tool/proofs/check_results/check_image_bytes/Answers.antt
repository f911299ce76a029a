use Rattle.std.proofs.Common.{◌≤◌, ℕ, List, arith, length, subst, sym}
use Rattle.lfs_tool.proofs.Common.{IsWrongSuperblockField}
use Rattle.lfs_tool.proofs.Checks.{number_or_none}
use Rattle.lfs_tool.proofs.check_results.check_image_bytes.Goals as goal

pub returns-clause-checked : goal.returns-clause-checked
returns-clause-checked c =
    let items = c.args.image.items in
    let stated = c.wrong_superblock_field-stated in
    let fits = subst (λ (b : List ℕ). length b ≤ 268435456) (sym c.deref.ensures.value) c.requires in
    let number = number_or_none c.args.layout c.deref.result.now stated.result stated.ensures.found stated.ensures.none fits in
    let len = c.len.ensures in
    c.check_result_of_verdict.ensures c.args.layout items (subst (λ (b : List ℕ). IsWrongSuperblockField c.args.layout b stated.result) c.deref.ensures.value number) c.in_ok-verdict.ensures.judged
    (c.of-given.ensures items (omega (arith, len)))
