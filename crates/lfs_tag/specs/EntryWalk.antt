-- The entries that an iterator over a log hasn't returned yet.
use Rattle.std.specs.Prelude.{List}
use Rattle.lfs_tag.specs.declared.entries.Entries.TheInside.{Inside}
use Rattle.lfs_model.specs.format.Log.{LogEntry, AreEntriesBetween, entries_between}

-- The entries from the iterator's offset to the end of the log.
abbrev pub entries_left : Inside → List LogEntry
entries_left s = entries_between s.block.now s.at s.before s.end

-- The block has the entries that are left, from the iterator's offset to the end of the log.
pub record AreIteratorEntries (s : Inside) : Type 0 where
  pub run : AreEntriesBetween s.block.now s.at s.before (entries_left s) s.end s.last
