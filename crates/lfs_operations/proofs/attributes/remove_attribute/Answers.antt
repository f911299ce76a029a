use Rattle.lfs_operations.proofs.Common.{on_ok_weaker}
use Rattle.lfs_operations.proofs.Edited.{can_remove, has_removed, remove_survives}
use Rattle.lfs_operations.proofs.attributes.remove_attribute.Goals as goal

pub commit_without_split-requires-clause-can : goal.commit_without_split-requires-clause-can
commit_without_split-requires-clause-can g c = can_remove c.args.thread.now.kept c.args.pair c.args.id c.args.kind c.ranges.kind.fits c.requires.can

pub returns-clause-is_removed : goal.returns-clause-is_removed
returns-clause-is_removed g c = on_ok_weaker c.commit_without_split.result (λ is can. has_removed c.args.thread.now.kept c.args.pair c.args.id c.args.kind c.ranges.kind.fits can c.commit_without_split.new.thread.kept is) c.commit_without_split.ensures.is_changed

pub returns-clause-survives : goal.returns-clause-survives
returns-clause-survives g c can = remove_survives c.args.thread.now.kept c.args.pair c.args.id c.args.kind c.ranges.kind.fits can c.commit_without_split.new.thread.kept.history c.commit_without_split.ensures.stops
