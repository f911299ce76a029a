use Rattle.std.proofs.Common.{◌∙◌, ap, [], ◌∷◌}
use Rattle.lfs_model.specs.format.EntryTypes.{move_state_type, no_id}
use Rattle.lfs_pair.proofs.Common.{log_entry, commit_with_entries}
use Rattle.lfs_pair.proofs.entries.push_move.Goals as goal

pub returns : goal.returns
returns c = c.push_log_entry.ensures ∙ ap (λ z. commit_with_entries (log_entry move_state_type no_id z ∷ []) c.args.builder.now) c.move_state_bytes.ensures.bytes
