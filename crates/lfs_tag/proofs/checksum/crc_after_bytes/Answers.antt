use Rattle.std.proofs.Common.{arith, sym, ◌∙◌, ◌≡◌, drop, []}
use Rattle.std.proofs.lemmas.List.{drop_all}
use Rattle.lfs_model.specs.format.Crc.{crc_of}
use Rattle.lfs_model.proofs.Checksums.{crc-drop}
use Rattle.lfs_tag.proofs.checksum.crc_after_bytes.Goals as goal

pub loop-byte-preserved : goal.loop-byte-preserved
loop-byte-preserved c = rw (c.crc_after_bits-sum.ensures, c.from.ensures) (sym (crc-drop c.loop-byte.sum c.loop-byte.byte-index c.args.bytes.now (omega arith)) ∙ c.loop-byte.invariant)

pub returns : goal.returns
unfolding crc_of
returns c = let e : drop c.loop-byte.byte-index c.args.bytes.now ≡ [] = drop_all c.loop-byte.byte-index c.args.bytes.now (omega arith) in rw e at c.loop-byte.invariant
