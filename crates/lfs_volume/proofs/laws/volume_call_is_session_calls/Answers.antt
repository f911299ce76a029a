use Rattle.lfs_volume.proofs.VolumeLives.{call_lives, call_shows, steps_fail, steps_live, steps_match, steps_survive}
use Rattle.lfs_volume.proofs.laws.volume_call_is_session_calls.Goals as goal

pub returns : goal.returns
returns c = record { call = call_lives; shows = call_shows; lived = steps_live; headline = steps_match; survives = steps_survive; ended = steps_fail }
