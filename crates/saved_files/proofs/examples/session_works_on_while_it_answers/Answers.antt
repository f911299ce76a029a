use Rattle.std.proofs.Common.{inl, [], refl}
use Rattle.lfs_model.specs.examples.Images.{small_image}
use Rattle.lfs_model.specs.examples.Runs.{fresh_state, failed_state}
use Rattle.lfs_model.proofs.FreshLife.{agrees, premises}
use Rattle.lfs_model.proofs.LivedOn.{life_defined}
use Rattle.lfs_model.proofs.TreesLeft.{any_summary, start_has}
use Rattle.saved_files.proofs.FreshFiles.{fresh, keeps_tree, mounts}
use Rattle.saved_files.proofs.examples.session_works_on_while_it_answers.Goals as goal

pub returns-clause-works : goal.returns-clause-works
returns-clause-works c = record { turns = []; lived = refl; answered = refl; stayed = refl }

pub returns-clause-failed : goal.returns-clause-failed
returns-clause-failed c = λ w. absurd (let k = life_defined any_summary w.turns fresh_state failed_state fresh w.answered refl agrees w.lived in cc)

pub returns-clause-survives : goal.returns-clause-survives
returns-clause-survives c = keeps_tree

pub returns-clause-lost : goal.returns-clause-lost
returns-clause-lost c = λ h. start_has _ small_image (h small_image premises (inl refl)) fresh_state refl mounts
