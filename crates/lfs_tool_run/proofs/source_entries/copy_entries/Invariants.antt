use Rattle.std.proofs.Common.{take}
use Rattle.lfs_tool_run.proofs.Common.{system_state, AreApplied, entries_operations}
use Rattle.lfs_tool_run.proofs.source_entries.copy_entries.Given as goal

abbrev pub invariant-loop-entry : goal.invariant-loop-entry
invariant-loop-entry g l = AreApplied (system_state l.initial.session) (entries_operations (take l.entry-index l.entries)) (system_state l.session)
