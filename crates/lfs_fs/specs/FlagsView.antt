-- The flags of an open in contracts.
use Rattle.std.specs.Prelude.{◌==◌, ◌||◌, not}
use Rattle.std.specs.Int.RustNames.{bit_and}
use Rattle.lfs_model.specs.session.Operations.{FlagsOfOpen}
use Rattle.lfs_fs.specs.declared.flags.OpenFlags.{OpenFlags}

abbrev pub flags_view : OpenFlags → FlagsOfOpen
flags_view f = record {
  read = bit_and f.0 0x1 == 0x1;
  write = bit_and f.0 0x2 == 0x2;
  create = bit_and f.0 0x100 == 0x100;
  exclusive = bit_and f.0 0x200 == 0x200;
  truncate = bit_and f.0 0x400 == 0x400;
  append = bit_and f.0 0x800 == 0x800;
  unknown = not (bit_and f.0 0xf03 == f.0);
}

-- the flags of both
abbrev pub flags_union : FlagsOfOpen → FlagsOfOpen → FlagsOfOpen
flags_union f g = record {
  read = f.read || g.read;
  write = f.write || g.write;
  create = f.create || g.create;
  exclusive = f.exclusive || g.exclusive;
  truncate = f.truncate || g.truncate;
  append = f.append || g.append;
  unknown = f.unknown || g.unknown;
}
