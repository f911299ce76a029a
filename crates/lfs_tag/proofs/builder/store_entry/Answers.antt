use Rattle.std.proofs.Common.{◌+◌, ◌-◌, length, refl, ◌∙◌, arith}
use Rattle.byteorder.specs.Endian.{big_bytes}
use Rattle.lfs_tag.proofs.Common.{overwritten_at}
use Rattle.lfs_tag.proofs.BuilderWrites.{put_mid-part, put_mid-front, overwritten_at-twice}
use Rattle.lfs_tag.proofs.builder.store_entry.Goals as goal

pub returns : goal.returns
returns c =
    let old = c.args.buf.now in
    let tag = big_bytes 4 c.args.stored in
    let first = put_mid-front c.args.at 4 old tag c.write_u32.new.buf c.write_u32.ensures refl (omega arith) in
    rw (first, c.copy_from_slice.ensures.after)
    (put_mid-part (c.args.at + 4) (c.args.at + 4 + length c.args.bytes.now - (c.args.at + 4)) (overwritten_at old c.args.at tag) c.args.bytes.now (omega arith)
    ∙ overwritten_at-twice c.args.at (c.args.at + 4) old tag c.args.bytes.now (omega arith) refl)
