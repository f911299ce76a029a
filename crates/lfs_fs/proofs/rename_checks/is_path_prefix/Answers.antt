use Rattle.std.proofs.Common.{◌∙◌, refl}
use Rattle.lfs_fs.proofs.PathsBeneath.{not_begun, ends_there, goes_with, same_numbers, strictly}
use Rattle.lfs_fs.proofs.rename_checks.is_path_prefix.Goals as goal

pub returns-then-not-starts_with : goal.returns-then-not-starts_with
returns-then-not-starts_with c = not_begun c.args.bytes.now c.args.other.now c.starts_with.result c.starts_with.ensures.value c.if-not-starts_with.true

pub returns-then-other-bytes : goal.returns-then-other-bytes
returns-then-other-bytes c =
    same_numbers _ _ c.if-other-bytes.true ∙ ends_there c.args.bytes.now c.args.other.now c.starts_with.result c.starts_with.ensures.value c.if-not-starts_with.false c.if-other-bytes.true

pub returns-else-other-bytes : goal.returns-else-other-bytes
returns-else-other-bytes c =
    let b = c.if-not-starts_with.ensures.bound refl in
    let n = c.if-other-bytes.false in
    goes_with c.args.bytes.now c.args.other.now c.starts_with.result c.starts_with.ensures.value c.if-not-starts_with.false (strictly _ _ b n)
