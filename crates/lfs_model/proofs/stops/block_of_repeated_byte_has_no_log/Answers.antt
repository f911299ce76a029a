use Rattle.lfs_model.proofs.RepeatedBytes.{no_log-repeated}
use Rattle.lfs_model.proofs.stops.block_of_repeated_byte_has_no_log.Goals as goal

pub returns : goal.returns
returns c = no_log-repeated
