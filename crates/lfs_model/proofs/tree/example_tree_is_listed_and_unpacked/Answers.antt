use Rattle.std.proofs.Common.{[], ◌∷◌, refl, arith}
use Rattle.std.specs.Prelude.{List, codes}
use Rattle.std.proofs.lemmas.Fmt.{decimal_digit}
use Rattle.lfs_model.proofs.Common.{FileNode, DirectoryNode, PathNode, entry_paths, tree_of_nodes}
use Rattle.lfs_model.specs.layers.Listing.{IsTreeWalk}
use Rattle.lfs_model.specs.examples.Images.{small_nodes}
use Rattle.lfs_model.proofs.Walked.{same_walk}
use Rattle.lfs_model.proofs.tree.example_tree_is_listed_and_unpacked.Goals as goal

abbrev entries : List PathNode
entries =
    record { path = codes "a" ∷ []; node = FileNode [] (codes "hello") }
    ∷ record { path = codes "d" ∷ []; node = DirectoryNode [] (codes "x" ∷ []) }
    ∷ record { path = codes "d" ∷ codes "x" ∷ []; node = FileNode [] [] }
    ∷ []

walk : IsTreeWalk (tree_of_nodes small_nodes) entries
walk = (refl, refl, (refl, refl, (refl, refl, tt)))

pub returns-clause-lines : goal.returns-clause-lines
returns-clause-lines c = (entries, (walk, rw (decimal_digit 5 (omega arith), decimal_digit 0 (omega arith)) refl))

pub returns-clause-actions : goal.returns-clause-actions
returns-clause-actions c = (entries, (walk, refl))

pub returns-clause-operations : goal.returns-clause-operations
returns-clause-operations c = (entries, (walk, refl))

pub returns-clause-escapes : goal.returns-clause-escapes
returns-clause-escapes c = rw (decimal_digit 0 (omega arith)) refl

pub returns-clause-one : goal.returns-clause-one
returns-clause-one c = λ tree a b p q. same_walk tree (entry_paths tree []) a b p q
