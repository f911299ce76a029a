use Rattle.std.proofs.Common.{refl}
use Rattle.std.specs.Prelude.{codes}
use Rattle.lfs_model.proofs.Common.{creating_flags, empty_tree, large_fresh_state, mounted_session, state_after_open}
use Rattle.lfs_model.proofs.OpenedFile.{turn}
use Rattle.lfs_model.proofs.Openings.{accepted_open, put_again}
use Rattle.lfs_model.proofs.Passing.{accepted_step}
use Rattle.lfs_model.proofs.SessionSteps.{tree_step}
use Rattle.lfs_model.proofs.life_trees.accepted_operations_have_their_effect.Goals as goal

pub returns-clause-effect : goal.returns-clause-effect
returns-clause-effect c = accepted_step

pub returns-clause-open : goal.returns-clause-open
returns-clause-open c = accepted_open

pub returns-clause-file : goal.returns-clause-file
returns-clause-file c = put_again

pub returns-clause-made : goal.returns-clause-made
returns-clause-made c = accepted_open large_fresh_state state_after_open (mounted_session empty_tree) (codes "/b") creating_flags 0 refl (tree_step large_fresh_state state_after_open _ _ turn)
