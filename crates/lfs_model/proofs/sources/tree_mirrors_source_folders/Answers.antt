use Rattle.std.proofs.Common.{Bool, true, false, cond, ◌&&◌, [], ◌∷◌, Option, Some, None, refl, arith}
use Rattle.std.specs.Prelude.{codes}
use Rattle.lfs_model.proofs.Common.{option_and_then, option_map, Name, same_name, Path, Node, FileNode, DirectoryNode, tree_of_nodes}
use Rattle.std.proofs.lemmas.List.Sorted.{IsPermutation-refl}
use Rattle.lfs_model.specs.layers.Source.{IsSourceNode, SourceNode, AFile, path_in_folder, node_at}
use Rattle.lfs_model.specs.examples.Sources.{file_source}
use Rattle.lfs_model.proofs.sources.tree_mirrors_source_folders.Goals as goal

-- by whether the name is the file's, and whether anything follows
here : (b : Bool) (deeper : Option SourceNode) → IsSourceNode (option_and_then (λ f. cond f deeper (Some (AFile (codes "hello")))) (option_map (λ (g : Name × Bool). g.1) (cond b (Some (codes "a", false)) None)))
    (option_map (λ (n : Path × Node). n.1) (cond (b && true) (Some (codes "a" ∷ [], FileNode [] (codes "hello"))) None))
here true deeper = (refl, refl)
here false deeper = tt

beneath : (b : Bool) (deeper : Option SourceNode) → IsSourceNode (option_and_then (λ f. cond f deeper None) (option_map (λ (g : Name × Bool). g.1) (cond b (Some (codes "a", false)) None)))
    (option_map (λ (n : Path × Node). n.1) (cond (b && false) (Some (codes "a" ∷ [], FileNode [] (codes "hello"))) None))
beneath true deeper = tt
beneath false deeper = tt

shown : (path : Path) → IsSourceNode (node_at file_source [] path) (tree_of_nodes (([], DirectoryNode [] (codes "a" ∷ [])) ∷ (codes "a" ∷ [], FileNode [] (codes "hello")) ∷ []) path)
shown [] = (refl, IsPermutation-refl (codes "a" ∷ []), λ i j d m k. absurd (omega arith))
shown (name ∷ []) = here (same_name name (codes "a")) (node_at file_source (path_in_folder [] name) [])
shown (name ∷ next ∷ rest) = beneath (same_name name (codes "a")) (node_at file_source (path_in_folder [] name) (next ∷ rest))

pub returns-clause-one : goal.returns-clause-one
returns-clause-one c = shown

pub returns-clause-not_empty : goal.returns-clause-not_empty
returns-clause-not_empty c = λ h. h (codes "a" ∷ [])
