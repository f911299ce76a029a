use Rattle.std.proofs.Common.{refl}
use Rattle.lfs_model.proofs.sessions.example_session_gets_these_replies.Goals as goal

pub returns : goal.returns
unfolding lib.Count.count_trailing_zeros
returns c = refl
