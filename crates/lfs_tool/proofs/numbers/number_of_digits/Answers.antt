use Rattle.std.proofs.Common.{◌≡◌, arith, get_or}
use Rattle.std.specs.Char.{digit_value}
use Rattle.lfs_tool.specs.Numbers.{number_of_digits, u32_or_none}
use Rattle.lfs_tool.proofs.Digits.{large_from_digit}
use Rattle.lfs_tool.proofs.numbers.number_of_digits.Goals as goal

pub returns-then-number-gt4294967295 : goal.returns-then-number-gt4294967295
returns-then-number-gt4294967295 c =
    let value : c.in-Some.digit ≡ digit_value (get_or c.args.digits.now c.loop-byte.byte-index 0) = c.in-Some.ensures.value.1 in
    large_from_digit c.args.radix c.loop-byte.number c.args.digits.now c.loop-byte.byte-index (u32_or_none (number_of_digits c.args.radix c.args.digits.now))
    (omega arith) (omega arith) c.in-Some.ensures.value.0 (omega (arith, value)) c.loop-byte.invariant.same
