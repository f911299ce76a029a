use Rattle.std.proofs.Common.{◌∙◌, None, Some}
use Rattle.lfs_tool.proofs.Digits.{not_empty}
use Rattle.lfs_tool.proofs.Pointed.{none_of_units, units_of_pointed}
use Rattle.lfs_tool.proofs.numbers.fractional_number.Goals as goal

pub returns-in_default : goal.returns-in_default
returns-in_default c = none_of_units c.args.unit c.args.whole.now c.args.fraction.now c.requires.some (not_empty _ _ c.is_empty.ensures c.if-is_empty.false) c.in_default.ensures

pub returns-in_default-bytes_of_fraction : goal.returns-in_default-bytes_of_fraction
returns-in_default-bytes_of_fraction c =
    units_of_pointed c.args.unit c.args.whole.now c.args.fraction.now c.in-Some.count None (not_empty _ _ c.is_empty.ensures c.if-is_empty.false) c.in-Some.ensures c.in_default-bytes_of_fraction.ensures

pub returns : goal.returns
returns c =
    c.bytes_of_units.ensures ∙ units_of_pointed c.args.unit c.args.whole.now c.args.fraction.now c.in-Some.count (Some c.in-Some-bytes_of_fraction.more) (not_empty _ _ c.is_empty.ensures c.if-is_empty.false)
    c.in-Some.ensures c.in-Some-bytes_of_fraction.ensures
