-- How C says what a file is opened for.
use Rattle.std.specs.Prelude.{ℕ, ◌==◌, not}
use Rattle.std.specs.Int.RustNames.{bit_and}
use Rattle.lfs_model.specs.session.Operations.{FlagsOfOpen}

-- how a file is opened, by the bits of a number
abbrev pub flags_of_number : ℕ → FlagsOfOpen
flags_of_number n = record {
  read = bit_and n 0x1 == 0x1;
  write = bit_and n 0x2 == 0x2;
  create = bit_and n 0x100 == 0x100;
  exclusive = bit_and n 0x200 == 0x200;
  truncate = bit_and n 0x400 == 0x400;
  append = bit_and n 0x800 == 0x800;
  unknown = not (bit_and n 0xf03 == n);
}
