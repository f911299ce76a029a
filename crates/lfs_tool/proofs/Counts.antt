-- What was found beneath the root, counted.
use Rattle.std.proofs.Common.{◌≡◌, ◌∙◌, ◌+◌, Bool, cond, suc, List, [], ◌∷◌, length, count_by, refl, sym, ap, ap₂}
use Rattle.std.proofs.lemmas.List.Sums.{sum_by-cons}
use Rattle.lfs_tool.proofs.Common.{Disk, PathNode, Branch, Ctz, Inline, Struct, Node, owned_view, AreTreeItems, IsStructNode, tree_items_view, is_file_item}
use Rattle.lfs_lookup.specs.declared.walks.TreeItem.{TreeItem}
use Rattle.lfs_tool.specs.ImageSummaries.{is_file_entry, is_file_node, is_file_struct}

file_alike : (disk : Disk) (s : Struct) (n : Node) → IsStructNode disk s n → is_file_struct s ≡ is_file_node n
file_alike disk (Inline bytes) n (attributes, is) = ap is_file_node (sym is)
file_alike disk (Ctz head size) n (attributes, (is, list)) = ap is_file_node (sym is)
file_alike disk (Branch to) n (attributes, (names, is)) = ap is_file_node (sym is)

pub files_alike : (disk : Disk) (items : List TreeItem) (entries : List PathNode) → AreTreeItems disk (tree_items_view items) entries → count_by is_file_item items ≡ count_by is_file_entry entries
files_alike disk [] [] s = refl
files_alike disk [] (e ∷ es) s = absurd s
files_alike disk (x ∷ items) [] s = absurd s
files_alike disk (x ∷ items) (e ∷ es) s =
    sum_by-cons (λ i. cond (is_file_item i) 1 0) x items
    ∙ ap₂ (λ (b : Bool) n. cond b 1 0 + n) (file_alike disk (owned_view x.structure) e.node s.0.node) (files_alike disk items es s.1)
    ∙ sym (sum_by-cons (λ i. cond (is_file_entry i) 1 0) e es)

pub as_many : (disk : Disk) (items : List TreeItem) (entries : List PathNode) → AreTreeItems disk (tree_items_view items) entries → length items ≡ length entries
as_many disk [] [] s = refl
as_many disk [] (e ∷ es) s = absurd s
as_many disk (x ∷ items) [] s = absurd s
as_many disk (x ∷ items) (e ∷ es) s = ap suc (as_many disk items es s.1)
