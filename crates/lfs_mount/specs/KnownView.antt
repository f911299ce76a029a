-- The code's scan of a directory, for one order of names: the last name, and a vertex of the definitions' graph.
use Rattle.lfs_model.specs.format.Names.{Name}
use Rattle.lfs_model.specs.declared.order.NameOrder.{NameOrder}
use Rattle.lfs_mount.specs.Reaching.{Vertex}
use Rattle.lfs_mount.specs.DirectoryView.{vertex_view}
use Rattle.lfs_mount.specs.declared.directory_scan.ScannedDirectory.{ScannedDirectory}

abbrev pub scan_view : NameOrder → ScannedDirectory → Name × Vertex
scan_view order k = (k.last.items, vertex_view order k.directory)
