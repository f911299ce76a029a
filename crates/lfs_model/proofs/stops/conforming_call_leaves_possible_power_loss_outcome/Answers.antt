use Rattle.lfs_model.proofs.Conformance.{conforming_stops_among}
use Rattle.lfs_model.proofs.stops.conforming_call_leaves_possible_power_loss_outcome.Goals as goal

pub returns : goal.returns
returns c = conforming_stops_among
