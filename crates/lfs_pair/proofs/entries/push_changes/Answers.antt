use Rattle.lfs_pair.proofs.Common.{change_entries, is_storable, change_view}
use Rattle.lfs_pair.proofs.Applied.{all_at}
use Rattle.lfs_pair.proofs.Pushed.{flat_more}
use Rattle.lfs_pair.proofs.entries.push_changes.Goals as goal

pub push_change-requires : goal.push_change-requires
push_change-requires c = all_at is_storable change_view c.args.changes.now c.loop-change.change-index _ c.requires c.loop-change-test.true

pub loop-change-preserved : goal.loop-change-preserved
loop-change-preserved c =
    flat_more change_view change_entries c.args.changes.now c.loop-change.change-index _ c.args.builder.now c.loop-change.builder c.push_change.new.builder c.loop-change-test.true c.loop-change.invariant c.push_change.ensures
