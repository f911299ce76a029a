-- Sessions for contracts that show replies.
use Rattle.std.specs.Prelude.{ℕ, true, false, List, [], ◌∷◌, map, replicate}
use Rattle.lfs_model.specs.format.Disk.{default_profile}
use Rattle.lfs_model.specs.format.Slots.{zero_gstate}
use Rattle.lfs_model.specs.session.Operations.{Operation, Reply, FlagsOfOpen}
use Rattle.lfs_model.specs.session.Session.{Session, DiskSummary}
use Rattle.lfs_model.specs.session.Effects.{operation_result}
use Rattle.lfs_model.specs.session.State.{mounted_session}
use Rattle.lfs_model.specs.tree.Fresh.{empty_tree}

-- A disk of this geometry in the writing profile. The number of its used blocks is `used`.
abbrev pub writable_summary : ℕ → ℕ → ℕ → ℕ → DiskSummary
writable_summary block_size page block_count used = record { writable = true; profile = default_profile; block_size = block_size; page = page; block_count = block_count; used = replicate used 0; gstate = zero_gstate }

-- The replies to operations, each given with the number of used blocks before it.
abbrev pub replies_to_operations : (ℕ → DiskSummary) → Session → List (ℕ × Operation) → List Reply
replies_to_operations disk s [] = []
replies_to_operations disk s (step ∷ steps) = (operation_result (disk step.0) s step.1).0 ∷ replies_to_operations disk (operation_result (disk step.0) s step.1).1 steps

-- The replies to operations of a session just mounted on a fresh disk, each given with the number
-- of used blocks before it.
abbrev pub fresh_replies : ℕ → ℕ → ℕ → List (ℕ × Operation) → List Reply
fresh_replies block_size page block_count = replies_to_operations (writable_summary block_size page block_count) (mounted_session empty_tree)

-- The operations, each with the same number of used blocks.
abbrev pub with_used_count : ℕ → List Operation → List (ℕ × Operation)
with_used_count used ops = map (λ op. (used, op)) ops

-- ---- flags

abbrev pub no_flags : FlagsOfOpen
no_flags = record { read = false; write = false; create = false; exclusive = false; truncate = false; append = false; unknown = false }

abbrev pub read_flags : FlagsOfOpen
read_flags = record no_flags { read = true }

abbrev pub write_flags : FlagsOfOpen
write_flags = record no_flags { write = true }

abbrev pub creating_flags : FlagsOfOpen
creating_flags = record write_flags { create = true }
