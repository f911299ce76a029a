use Rattle.std.proofs.Common.{◌≡◌, length}
use Rattle.lfs_model.specs.format.Crc.{crc_of}
use Rattle.lfs_tag.proofs.checksum.crc.Given as goal

abbrev pub invariant-loop-rest : goal.invariant-loop-rest
invariant-loop-rest l = crc_of l.sum l.rest ≡ crc_of l.initial.sum l.initial.rest

abbrev pub decreases-loop-rest : goal.decreases-loop-rest
decreases-loop-rest l = length l.rest
