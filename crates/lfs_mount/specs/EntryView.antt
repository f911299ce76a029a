-- The code's entries as the definitions see them.
use Rattle.lfs_tag.specs.StructView.{struct_view}
use Rattle.lfs_mount.specs.DirectoryEntries as entries
use Rattle.lfs_mount.specs.declared.entry.NamedStruct.{NamedStruct}

abbrev pub entry_view : NamedStruct → entries.NamedReference
entry_view e = (e.name.now, entries.struct_reference (struct_view e.target))
