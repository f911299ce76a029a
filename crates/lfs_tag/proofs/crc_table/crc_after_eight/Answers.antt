use Rattle.std.proofs.Common.{arith, ℕ, sym, ap, ◌∙◌, ◌≡◌, ◌+◌, ◌-◌, take, drop, length}
use Rattle.lfs_tag.proofs.Common.{take_all, length-drop, bit_xor, AreBytes, crc-append}
use Rattle.std.proofs.lemmas.List.{get_or-drop}
use Rattle.std.proofs.Math.Seq.{take-add}
use Rattle.byteorder.specs.Endian.{little_from}
use Rattle.lfs_model.specs.format.Crc.{crc_of, checksum_after_bits}
use Rattle.lfs_tag.proofs.Words.{crc-number, checksum_after_bits-sum, checksum_after_bits-append}
use Rattle.lfs_tag.proofs.crc_table.crc_after_eight.Goals as goal

pub returns : goal.returns
returns c =
    let bytes = c.args.bytes.now in
    let are : AreBytes bytes = λ i. omega (arith, c.type_inv.bytes i) in
    let x = bit_xor c.args.sum (little_from 0 4 bytes) in
    let behind = drop 4 bytes in
    let they_are : AreBytes behind = λ i. rw (get_or-drop 4 bytes i 0) (are (4 + i)) in
    let all : take (length bytes - 4) behind ≡ behind = take_all (length bytes - 4) behind (omega (arith, length-drop 4 bytes)) in
    let second : c.read_u32-2.result ≡ little_from 0 4 behind = rw all at c.read_u32-2.ensures in
    let front : crc_of c.args.sum (take 4 bytes) ≡ checksum_after_bits 32 x = crc-number c.args.sum 0 4 bytes are (omega arith) in
    let back : crc_of (checksum_after_bits 32 x) (take 4 behind) ≡ checksum_after_bits 32 (bit_xor (checksum_after_bits 32 x) (little_from 0 4 behind)) = crc-number (checksum_after_bits 32 x) 0 4 behind they_are (omega (arith, length-drop 4 bytes)) in
    let whole : crc_of c.args.sum (take 8 bytes) ≡ checksum_after_bits 32 (bit_xor (checksum_after_bits 32 x) (little_from 0 4 behind)) =
    ap (crc_of c.args.sum) (take-add 4 4 bytes) ∙ crc-append c.args.sum (take 4 bytes) (take 4 behind) ∙ rw front back in
    rw (c.crc_of_word.ensures, c.crc_of_word-2.ensures, c.read_u32.ensures, second, whole) (ap (λ (y : ℕ). bit_xor y (checksum_after_bits 32 (little_from 0 4 behind))) (checksum_after_bits-append 32 32 x) ∙ sym (checksum_after_bits-sum 32 (checksum_after_bits 32 x) (little_from 0 4 behind)))
