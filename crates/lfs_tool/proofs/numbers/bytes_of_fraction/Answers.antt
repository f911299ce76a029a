use Rattle.std.proofs.Common.{◌≡◌, ◌-◌, ◌*◌, ◌+◌, ◌%◌, ◌∙◌, ℕ, arith, get_or, ap}
use Rattle.std.specs.Char.{digit_value}
use Rattle.lfs_tool.proofs.Fractions.{none_at_digit, none_at_letter, some_at_start}
use Rattle.lfs_tool.proofs.numbers.bytes_of_fraction.Goals as goal

pub returns-in_default : goal.returns-in_default
returns-in_default c =
    none_at_letter c.args.unit c.args.digits.now (c.loop-at.at - 1) c.loop-at.at c.loop-at.bytes (omega arith) (omega arith) c.loop-at.invariant.same
    (omega (arith, c.in_default.ensures.value))

pub returns-then-tenths-ne0 : goal.returns-then-tenths-ne0
returns-then-tenths-ne0 c =
    let value : c.in-Some.digit ≡ digit_value (get_or c.args.digits.now (c.loop-at.at - 1) 0) = c.in-Some.ensures.value.1 in
    none_at_digit c.args.unit c.args.digits.now (c.loop-at.at - 1) c.loop-at.at c.loop-at.bytes (omega arith) (omega arith) c.loop-at.invariant.same
    c.in-Some.ensures.value.0 (λ zero_is. c.if-tenths-ne0.true (ap (λ (x : ℕ). (x * c.args.unit + c.loop-at.bytes) % 10) value ∙ zero_is))

pub returns : goal.returns
returns c = some_at_start c.args.unit c.args.digits.now c.loop-at.at c.loop-at.bytes c.loop-at-test.false c.loop-at.invariant.same
