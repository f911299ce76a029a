use Rattle.std.proofs.Common.{◌≡◌, drop}
use Rattle.lfs_model.specs.format.Crc.{crc_of}
use Rattle.lfs_tag.proofs.checksum.crc_after_bytes.Given as goal

abbrev pub invariant-loop-byte : goal.invariant-loop-byte
invariant-loop-byte l = crc_of l.sum (drop l.byte-index l.bytes) ≡ crc_of l.fn.start l.bytes
