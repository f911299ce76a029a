use Rattle.lfs_operations.proofs.Common.{◌≡◌, ◌≤◌, drop, false, length, fault_count}
use Rattle.lfs_operations.proofs.RecoverUnderWay.{IsUnderWay}
use Rattle.lfs_operations.proofs.recovery.drop_unreached_pairs.Given as goal

abbrev pub invariant-loop-dropped : goal.invariant-loop-dropped
invariant-loop-dropped g l = record {
  end : l.dropped-end ≡ length l.fn.unreached;
  within : l.dropped ≤ l.dropped-end;
  works : l.thread.failed ≡ false;
  no_fault : fault_count l.thread.kept.history ≡ fault_count l.fn.thread.kept.history;
  still : l.dropped ≡ 0 → l.thread.kept ≡ l.fn.thread.kept;
  way : IsUnderWay l.fn.thread.kept l.thread.kept l.dropped (drop l.dropped l.fn.unreached);
}
