use Rattle.std.proofs.Common.{arith, sym, ◌≡◌, ◌+◌, ◌*◌, ◌/◌, ◌%◌, ◌^◌, bit_and}
use Rattle.lfs_tag.proofs.Common.{and_mask}
use Rattle.lfs_tag.proofs.Words.{word_apart}
use Rattle.lfs_tag.proofs.crc_table.crc_of_word.Goals as goal

pub returns : goal.returns
returns c =
    let row = c.args.row in
    let x = c.args.word in
    let a : bit_and x 255 ≡ x % 256 = and_mask x 8 in
    let b : bit_and (x / 2 ^ 8) 255 ≡ x / 2 ^ 8 % 256 = and_mask (x / 2 ^ 8) 8 in
    let d : bit_and (x / 2 ^ 16) 255 ≡ x / 2 ^ 16 % 256 = and_mask (x / 2 ^ 16) 8 in
    let e : 8 * (row + 3 + 1) ≡ 8 * row + 32 = omega arith in
    let f : 8 * (row + 2 + 1) ≡ 8 * row + 24 = omega arith in
    let g : 8 * (row + 1 + 1) ≡ 8 * row + 16 = omega arith in
    let h : 8 * (row + 1) ≡ 8 * row + 8 = omega arith in
    rw (c.crc_of_byte.ensures, c.crc_of_byte-2.ensures, c.crc_of_byte-3.ensures, c.crc_of_byte-4.ensures, a, b, d, e, f, g, h) (sym (word_apart (8 * row) x (omega arith)))
