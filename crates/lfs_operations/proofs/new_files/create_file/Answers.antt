use Rattle.lfs_operations.proofs.Common.{on_ok_weaker}
use Rattle.lfs_operations.proofs.Created.{alters, can_put, created, create_survives}
use Rattle.lfs_operations.proofs.new_files.create_file.Goals as goal

pub commit_or_split-requires-clause-can : goal.commit_or_split-requires-clause-can
commit_or_split-requires-clause-can g c = can_put c.args.thread.now.kept c.args.pair c.args.id c.args.name.now c.requires.can

pub returns-clause-created : goal.returns-clause-created
returns-clause-created g c = on_ok_weaker c.commit_or_split.result (λ is can. created c.args.thread.now.kept c.args.pair c.args.id c.args.name.now can c.commit_or_split.new.thread.kept is) c.commit_or_split.ensures.is_put

pub returns-clause-survives : goal.returns-clause-survives
returns-clause-survives g c can = create_survives c.args.thread.now.kept c.args.pair c.args.id c.args.name.now can c.commit_or_split.new.thread.kept.history c.commit_or_split.ensures.stops

pub returns-clause-alters : goal.returns-clause-alters
returns-clause-alters g c = on_ok_weaker c.commit_or_split.result (λ is. alters c.args.thread.now.kept c.args.pair c.args.id c.args.name.now (c.requires.can) c.commit_or_split.new.thread.kept is) c.commit_or_split.ensures.is_put
