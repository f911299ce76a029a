use Rattle.std.proofs.Common.{◌≡◌, ℕ, List, ◌+◌, ◌-◌, ◌≤◌, ◌<◌, ◌^◌, ◌++◌, length, take, drop, replicate, refl, ap, subst, ◌∙◌, arith}
use Rattle.lfs_tag.proofs.Common.{length-drop, length-replicate, overwritten_at}
use Rattle.std.proofs.lemmas.List.{length-take}
use Rattle.byteorder.specs.Endian.{big_bytes, little_bytes}
use Rattle.lfs_model.specs.format.Crc.{crc_of}
use Rattle.lfs_tag.proofs.BuilderWrites.{put_mid-part, put_mid-front, overwritten_at-twice, length-overwritten, take-overwritten}
use borrow.Rule.Slice.PartMut.{put_mid}
use Rattle.lfs_tag.proofs.builder.write_checksum.Goals as goal

-- the three writes, over what the buffer held before each
written : (at stored end sum : ℕ) (old one two now second third : List ℕ) → at + 8 ≤ end → end ≤ length old
    → one ≡ overwritten_at old at (big_bytes 4 stored)
    → sum ≡ crc_of 0xffffffff (take (at + 4) one)
    → second ≡ little_bytes 4 sum ++ drop 4 (take (length one - (at + 4)) (drop (at + 4) one))
    → two ≡ put_mid (at + 4) (length one - (at + 4)) one second
    → third ≡ replicate (length (take (end - (at + 8)) (drop (at + 8) two))) 255
    → now ≡ put_mid (at + 8) (end - (at + 8)) two third
    → now ≡ overwritten_at old at (big_bytes 4 stored ++ (little_bytes 4 (crc_of 0xffffffff (take at old ++ big_bytes 4 stored)) ++ replicate (end - (at + 8)) 255))
written at stored end sum old one two now second third room within first checks writes twice pads last =
    let tag = big_bytes 4 stored in
    let long : length one ≡ length old = ap length first ∙ length-overwritten at old tag (omega arith) in
    let covered : take (at + 4) one ≡ take at old ++ tag = ap (take (at + 4)) first ∙ take-overwritten at (at + 4) old tag (omega arith) refl in
    let two_is : two ≡ overwritten_at old at (tag ++ little_bytes 4 sum) =
    twice ∙ put_mid-front (at + 4) 4 one (little_bytes 4 sum) second writes refl (omega arith) ∙ ap (λ (l : List ℕ). overwritten_at l (at + 4) (little_bytes 4 sum)) first
    ∙ overwritten_at-twice at (at + 4) old tag (little_bytes 4 sum) (omega arith) refl in
    let two_long : length two ≡ length old = ap length two_is ∙ length-overwritten at old (tag ++ little_bytes 4 sum) (omega arith) in
    let part : length (take (end - (at + 8)) (drop (at + 8) two)) ≡ end - (at + 8) = omega (arith, length-take (end - (at + 8)) (drop (at + 8) two), length-drop (at + 8) two) in
    let third_is : third ≡ replicate (end - (at + 8)) 255 = pads ∙ ap (λ (n : ℕ). replicate n 255) part in
    let third_long : length third ≡ end - (at + 8) = ap length third_is ∙ length-replicate (end - (at + 8)) 255 in
    last ∙ put_mid-part (at + 8) (end - (at + 8)) two third third_long ∙ ap (λ (l : List ℕ). overwritten_at l (at + 8) third) two_is
    ∙ overwritten_at-twice at (at + 8) old (tag ++ little_bytes 4 sum) third (omega arith) refl
    ∙ ap (λ (s : ℕ). overwritten_at old at (tag ++ (little_bytes 4 s ++ third))) (checks ∙ ap (crc_of 0xffffffff) covered)
    ∙ ap (λ (l : List ℕ). overwritten_at old at (tag ++ (little_bytes 4 (crc_of 0xffffffff (take at old ++ tag)) ++ l))) third_is

pub returns-clause-fits : goal.returns-clause-fits
returns-clause-fits c =
    let old = c.args.buf.now in
    let tag = big_bytes 4 c.args.stored in
    let first = put_mid-front c.args.at 4 old tag c.write_u32.new.buf c.write_u32.ensures refl (omega arith) in
    let sum = c.crc-sum.ensures.value ∙ ap (λ (l : List ℕ). crc_of 0xffffffff (take (c.args.at + 4) l)) first ∙ ap (crc_of 0xffffffff) (take-overwritten c.args.at (c.args.at + 4) old tag (omega arith) refl) in
    subst (λ (n : ℕ). n < 2 ^ 32) sum c.crc-sum.type_inv

pub returns-clause-bytes : goal.returns-clause-bytes
returns-clause-bytes c =
    let old = c.args.buf.now in
    let first = put_mid-front c.args.at 4 old (big_bytes 4 c.args.stored) c.write_u32.new.buf c.write_u32.ensures refl (omega arith) in
    written c.args.at c.args.stored c.args.end c.crc-sum.result old _ _ _ c.write_u32-2.new.buf c.fill.new.self c.requires.room c.requires.within first c.crc-sum.ensures.value c.write_u32-2.ensures refl (c.fill.ensures.after (λ y h. h)) refl
