use Rattle.std.proofs.Common.{◌≡◌, ◌≤◌, length}
use Rattle.std.specs.Prelude.{MatchOption}
use Rattle.lfs_lookup.proofs.Common.{BreaksProfile}
use Rattle.lfs_lookup.proofs.Profiled.{EachFits}
use Rattle.lfs_lookup.proofs.Reading.{HasRead}
use Rattle.lfs_lookup.proofs.profile.find_profile_breach.Given as goal

abbrev pub invariant-loop-index : goal.invariant-loop-index
invariant-loop-index g l = record {
  end : l.index-end ≡ length l.fn.thread.kept.pairs;
  within : l.index ≤ l.index-end;
  read : HasRead l.fn.thread l.thread;
  breach : MatchOption l.found (EachFits l.fn.thread.kept.disk l.fn.root l.fn.thread.kept.pairs l.index) (BreaksProfile l.fn.thread.kept.disk l.fn.thread.kept.pairs);
}
