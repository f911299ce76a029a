use Rattle.std.proofs.Common.{refl}
use Rattle.lfs_model.specs.declared.order.NameOrder.TheVariants.{ShorterFirst}
use Rattle.lfs_model.proofs.Common.{sorted_names, root_slot, names_at, root_address, disk_list_bytes, all_entries}
use Rattle.lfs_model.proofs.Parents.{parent_has_name, name_has_node}
use Rattle.lfs_model.proofs.tree.tree_nodes_match_directory_names.Goals as goal

pub returns-clause-root : goal.returns-clause-root
returns-clause-root c = λ disk ps. (sorted_names ShorterFirst (names_at (all_entries ps) (root_address ps)), refl)

pub returns-clause-parent : goal.returns-clause-parent
returns-clause-parent c = λ disk ps. parent_has_name (disk_list_bytes disk) (all_entries ps) (root_slot (root_address ps))

pub returns-clause-child : goal.returns-clause-child
returns-clause-child c = λ disk ps. name_has_node (disk_list_bytes disk) (all_entries ps) (root_slot (root_address ps))
