use Rattle.lfs_pair.proofs.Common.{attribute_view}
use Rattle.lfs_pair.proofs.Pushed.{attributes_more, short_at}
use Rattle.lfs_pair.proofs.entries.push_attributes.Goals as goal

pub push_log_entry-requires-clause-bytes : goal.push_log_entry-requires-clause-bytes
push_log_entry-requires-clause-bytes c = short_at attribute_view 0 c.args.attributes.now c.loop-attribute.attribute-index _ c.requires.attributes c.loop-attribute-test.true

pub loop-attribute-preserved : goal.loop-attribute-preserved
loop-attribute-preserved c =
    attributes_more c.args.id c.from.result c.args.attributes.now c.loop-attribute.attribute-index _ c.args.builder.now c.loop-attribute.builder c.push_log_entry.new.builder c.loop-attribute-test.true c.from.ensures c.loop-attribute.invariant c.push_log_entry.ensures
