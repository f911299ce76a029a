-- An entry as the definitions see it, without its address in memory.
use Rattle.lfs_tag.specs.declared.entry.Entry.{Entry}
use Rattle.lfs_model.specs.format.Log.{LogEntry}

abbrev pub log_entry_view : Entry → LogEntry
log_entry_view e = record { tag = e.tag; bytes = e.bytes.now }
