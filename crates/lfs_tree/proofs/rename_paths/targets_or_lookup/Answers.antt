use Rattle.std.proofs.Common.{refl, subst}
use Rattle.std.specs.Prelude.{IfSome}
use Rattle.lfs_tree.proofs.Common.{answers, begun, AreRenameResults}
use Rattle.lfs_tree.proofs.rename_paths.targets_or_lookup.Goals as goal

pub returns-in-Some-clause-targets : goal.returns-in-Some-clause-targets
returns-in-Some-clause-targets g c = subst (λ o. IfSome o (AreRenameResults c.args.thread.now.kept c.args.from.now c.args.to.now)) c.in-Some.is c.requires.known

pub returns-in-Some-clause-reading : goal.returns-in-Some-clause-reading
returns-in-Some-clause-reading g c = answers _ _ _ _ refl (begun c.args.thread.now c.requires.rests.held.works)
