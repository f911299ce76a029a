use Rattle.std.proofs.Common.{refl}
use Rattle.lfs_model.specs.format.Crc.{crc_of, checksum_after_bits}
use Rattle.lfs_model.proofs.Checksums.{are_bytes, crc_lt, crc_is_remainder, one_checksum}
use Rattle.lfs_model.proofs.log.checksum_is_remainder.Goals as goal

pub returns-clause-small : goal.returns-clause-small
returns-clause-small c = λ start bytes lt all. crc_lt start bytes lt (are_bytes bytes all)

pub returns-clause-remainder : goal.returns-clause-remainder
returns-clause-remainder c = λ start bytes lt all. crc_is_remainder start bytes lt (are_bytes bytes all)

pub returns-clause-only : goal.returns-clause-only
returns-clause-only c = λ start bytes other lt all small is.
    one_checksum start bytes other (crc_of start bytes) small (crc_lt start bytes lt (are_bytes bytes all)) is (crc_is_remainder start bytes lt (are_bytes bytes all))

pub returns-clause-example : goal.returns-clause-example
unfolding crc_of checksum_after_bits
returns-clause-example c = refl
