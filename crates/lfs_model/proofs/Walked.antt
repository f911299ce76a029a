-- A walk is determined by its tree.
use Rattle.std.proofs.Common.{◌≡◌, List, [], ◌∷◌, ◌++◌, Some, refl, ap, sym, ◌∙◌}
use Rattle.lfs_model.proofs.Common.{Path, Node, Tree, PathNode, entry_paths}
use Rattle.lfs_model.specs.layers.Listing.{IsDepthFirst}

abbrev entry : Path → Node → PathNode
entry path node = record { path = path; node = node }

same_entry : (e f : PathNode) → e.path ≡ f.path → e.node ≡ f.node → e ≡ f
same_entry e f path node = ap (λ p. entry p e.node) path ∙ ap (λ n. entry f.path n) node

same_node : (m n : Node) → Some m ≡ Some n → m ≡ n
same_node m n e = cc

pub same_walk : (tree : Tree) (ps : List Path) (es fs : List PathNode) → IsDepthFirst tree ps es → IsDepthFirst tree ps fs → es ≡ fs
same_walk tree [] [] [] w v = refl
same_walk tree [] [] (f ∷ fs) w v = absurd v
same_walk tree [] (e ∷ es) fs w v = absurd w
same_walk tree (p ∷ ps) [] fs w v = absurd w
same_walk tree (p ∷ ps) (e ∷ es) [] w v = absurd v
same_walk tree (p ∷ ps) (e ∷ es) (f ∷ fs) w v =
    let same : e ≡ f = same_entry e f (w.0 ∙ sym v.0) (same_node e.node f.node (sym w.1 ∙ v.1)) in
    let rest : es ≡ fs = same_walk tree (entry_paths tree p ++ ps) es fs w.2 v.2 in
    ap (λ x. x ∷ es) same ∙ ap (λ xs. f ∷ xs) rest
