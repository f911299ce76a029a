use Rattle.std.proofs.Common.{sym, ◌≡◌, ◌%◌, bit_and}
use Rattle.lfs_tag.proofs.Common.{and_mask}
use Rattle.lfs_tag.proofs.Table.{by_low_byte}
use Rattle.lfs_tag.proofs.crc_table.crc_after_bits.Goals as goal

pub returns : goal.returns
returns c =
    let low : bit_and c.args.x 255 ≡ c.args.x % 256 = and_mask c.args.x 8 in
    rw (c.crc_of_byte.ensures, low) (sym (by_low_byte c.args.x))
