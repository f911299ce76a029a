use Rattle.std.proofs.Common.{ap₂, List, ℕ, Option, subst, sym, refl}
use Rattle.lfs_tool_run.proofs.Common.{node_copy_operations, system_state, optional_bytes_view, AppliesUntilError, node_of_optional_bytes}
use Rattle.lfs_model.specs.session.Operations as ops
use Rattle.lfs_tool_run.proofs.Runs.{carries_one}
use Rattle.lfs_tool_run.proofs.source_entries.copy_entry.Goals as goal

pub returns-in-None : goal.returns-in-None
returns-in-None c =
    subst (λ operations. AppliesUntilError (system_state c.args.session.now) operations c.mkdir.result (system_state c.mkdir.new.self))
    (ap₂ (λ (path : List ℕ) (bytes : Option _). node_copy_operations path (node_of_optional_bytes (optional_bytes_view bytes))) c.deref-in-None.ensures.value (sym c.in-None.is))
    (carries_one c.args.session.now c.mkdir.new.self (ops.Mkdir c.deref-in-None.result.now) ops.Done c.mkdir.result refl c.mkdir.ensures.answers)
