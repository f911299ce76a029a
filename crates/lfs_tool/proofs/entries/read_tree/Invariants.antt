use Rattle.std.proofs.Common.{◌≡◌, false, map}
use Rattle.lfs_tool.specs.SourceTrees.{IsUnchangedIfKnown}
use Rattle.lfs_tool.specs.SourceEntries.{pending_entry_view}
use Rattle.lfs_tool.proofs.Reading.{AreFolders, Goes}
use Rattle.lfs_tool.proofs.entries.read_tree.Given as goal

abbrev pub invariant-loop : goal.invariant-loop
invariant-loop g l = record {
  goes : Goes (g.S.Source.shown l.fn.source) (map pending_entry_view l.waiting.items) l.entries.items;
  folders : AreFolders (g.S.Source.shown l.fn.source) (map pending_entry_view l.waiting.items);
  shown : IsUnchangedIfKnown (g.S.Source.shown l.fn.source) (g.S.Source.shown l.source);
  kept : g.S.Source.has_failed l.source ≡ false;
}
