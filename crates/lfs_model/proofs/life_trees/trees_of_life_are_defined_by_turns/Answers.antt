use Rattle.std.proofs.Common.{◌≡◌, ◌⊎◌, inl, inr, [], None, ap}
use Rattle.lfs_model.specs.tree.Tree.{Tree}
use Rattle.lfs_model.specs.tree.Fresh.{empty_tree}
use Rattle.lfs_model.proofs.life_trees.trees_of_life_are_defined_by_turns.Goals as goal

none : ◌≡◌ {A = Tree} (λ path. None) empty_tree → ⊥
none e = absurd (let k = ap (λ (t : Tree). t []) e in cc)

either : (◌≡◌ {A = Tree} (λ path. None) empty_tree) ⊎ (◌≡◌ {A = Tree} (λ path. None) empty_tree) → ⊥
either (inl e) = none e
either (inr e) = none e

pub returns-clause-not_refused : goal.returns-clause-not_refused
returns-clause-not_refused c = λ around b h. either h
