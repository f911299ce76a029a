use Rattle.std.proofs.Common.{◌≡◌, ◌<◌, ◌^◌, drop}
use Rattle.lfs_tool.specs.Numbers.{append_digits, number_of_digits, u32_or_none}
use Rattle.lfs_tool.proofs.numbers.number_of_digits.Given as goal

abbrev pub invariant-loop-byte : goal.invariant-loop-byte
invariant-loop-byte l = record {
  fits : l.number < 2 ^ 32;
  same : u32_or_none (append_digits l.radix l.number (drop l.byte-index l.digits)) ≡ u32_or_none (number_of_digits l.radix l.digits);
}
