use Rattle.std.proofs.Common.{inl, inr, [], ◌∷◌, refl}
use Rattle.std.specs.Prelude.{codes}
use Rattle.lfs_model.specs.tree.Tree.{FileNode}
use Rattle.lfs_model.specs.tree.Fresh.{empty_tree}
use Rattle.lfs_model.specs.session.TreeEdits.{tree_creating}
use Rattle.saved_files.specs.Writing.{IsBeforeOrAfterWrite, saving_flags}
use Rattle.saved_files.proofs.Written.{created_elsewhere}
use Rattle.saved_files.proofs.examples.file_is_written_whole.Goals as goal

pub returns-clause-written : goal.returns-clause-written
returns-clause-written c = record { elsewhere = created_elsewhere (codes "a" ∷ []) (FileNode [] (codes "bc")) empty_tree; file = refl }

pub returns-clause-not_written : goal.returns-clause-not_written
returns-clause-not_written c = λ h. absurd (let k = h.file in cc)

pub returns-clause-empty : goal.returns-clause-empty
returns-clause-empty c = inl (record { elsewhere = created_elsewhere (codes "a" ∷ []) (FileNode [] []) empty_tree; has = refl })

neither : IsBeforeOrAfterWrite (codes "a" ∷ []) saving_flags (codes "bc") empty_tree (tree_creating (codes "a" ∷ []) (FileNode [] (codes "b")) empty_tree) → ⊥
neither (inl h) = absurd (let k = h.has in cc)
neither (inr h) = absurd (let k = h.has in cc)

pub returns-clause-part : goal.returns-clause-part
returns-clause-part c = neither
