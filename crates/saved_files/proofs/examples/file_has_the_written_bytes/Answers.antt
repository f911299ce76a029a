use Rattle.std.proofs.Common.{[], ◌∷◌, refl}
use Rattle.std.specs.Prelude.{codes}
use Rattle.lfs_model.specs.tree.Tree.{FileNode}
use Rattle.lfs_model.specs.tree.Fresh.{empty_tree}
use Rattle.saved_files.proofs.Written.{created_elsewhere}
use Rattle.saved_files.proofs.examples.file_has_the_written_bytes.Goals as goal

pub returns-clause-same : goal.returns-clause-same
returns-clause-same c = created_elsewhere (codes "a" ∷ []) (FileNode [] []) empty_tree

pub returns-clause-other : goal.returns-clause-other
returns-clause-other c = λ h. absurd (let k = h (codes "a" ∷ []) refl refl in cc)
