use Rattle.std.proofs.Common.{◌∙◌, ap, subst, sym, take}
use Rattle.lfs_tool_run.proofs.Common.{fault_count, system_state, AreApplied, AppliesUpToError, entry_operations}
use Rattle.lfs_tool.specs.declared.entries.SourceEntry.{SourceEntry}
use Rattle.lfs_tool_run.proofs.Refusing.{first_refused, no_file}
use Rattle.lfs_tool_run.proofs.Runs.{entry_more}
use Rattle.lfs_tool_run.proofs.source_entries.copy_entries.Goals as goal

pub copy_entry-requires : goal.copy_entry-requires
copy_entry-requires g c =
    no_file (system_state c.args.session.now) (system_state c.loop-entry.session) (take c.loop-entry.entry-index c.args.entries.now) (record { fresh = c.requires.fresh; mounts = c.requires.mounts }) c.loop-entry.invariant

pub returns-in-Err-clause-refused : goal.returns-in-Err-clause-refused
returns-in-Err-clause-refused g c =
    first_refused c.in-Err.error c.args.entries.now c.loop-entry.entry-index c.entry-item.result (system_state c.args.session.now) (system_state c.loop-entry.session) (system_state c.copy_entry.new.session) c.loop-entry-test.true
    c.loop-entry.invariant
    (subst (λ (e : SourceEntry). AppliesUpToError c.in-Err.error (system_state c.loop-entry.session) (entry_operations e) (system_state c.copy_entry.new.session)) c.entry-item.is c.in-Err.ensures)
    (ap fault_count (sym c.device-device.ensures.history) ∙ c.device-device.result.now.no_fault)

pub loop-entry-preserved : goal.loop-entry-preserved
loop-entry-preserved g c =
    entry_more c.args.entries.now c.loop-entry.entry-index c.entry-item.result (system_state c.args.session.now) (system_state c.loop-entry.session) (system_state c.copy_entry.new.session) c.loop-entry-test.true c.loop-entry.invariant
    (subst (λ (e : SourceEntry). AreApplied (system_state c.loop-entry.session) (entry_operations e) (system_state c.copy_entry.new.session)) c.entry-item.is c.in_default.ensures)
