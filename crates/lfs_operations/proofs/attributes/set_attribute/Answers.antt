use Rattle.lfs_operations.proofs.Common.{on_ok_weaker}
use Rattle.lfs_operations.proofs.Edited.{can_set, has_set, set_survives}
use Rattle.lfs_operations.proofs.attributes.set_attribute.Goals as goal

pub commit_or_split-requires-clause-can : goal.commit_or_split-requires-clause-can
commit_or_split-requires-clause-can g c = can_set c.args.thread.now.kept c.args.pair c.args.id c.args.kind c.args.bytes.now c.ranges.kind.fits c.requires.can

pub returns-clause-is_set : goal.returns-clause-is_set
returns-clause-is_set g c =
    on_ok_weaker c.commit_or_split.result (λ is set.
    has_set c.args.thread.now.kept c.args.pair c.args.id c.args.kind c.args.bytes.now c.ranges.kind.fits set c.commit_or_split.new.thread.kept is)
    c.commit_or_split.ensures.is_put

pub returns-clause-survives : goal.returns-clause-survives
returns-clause-survives g c set =
    set_survives c.args.thread.now.kept c.args.pair c.args.id c.args.kind c.args.bytes.now c.ranges.kind.fits set c.commit_or_split.new.thread.kept.history c.commit_or_split.ensures.stops
