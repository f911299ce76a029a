-- The newest call of a history.
use Rattle.std.proofs.Common.{◌≡◌, ◌∙◌, Bool, List, [], ◌∷◌, sym, ap}
use Rattle.lfs_model.specs.format.Blocks.{Blocks}
use Rattle.lfs_model.specs.session.History.{DeviceCall, CallEvent, call_event, LeftByLatestCall}

abbrev left_by : List CallEvent → Blocks
left_by [] = []
left_by (e ∷ older) = e.after

pub newest_call : (call : DeviceCall) (before after now : Blocks) (failed : Bool) (older events : List CallEvent) → events ≡ call_event call before after failed ∷ older → now ≡ after → LeftByLatestCall events now
newest_call call before after now failed older events is same e rest other = ap left_by (sym other ∙ is) ∙ sym same
