-- A returned global state in contracts.
use Rattle.std.specs.Prelude.{ℕ, ◌==◌, if◌then◌else◌, List, Option, Some, None}
use Rattle.std.specs.Option.{option_map}
use Rattle.lfs_model.specs.format.Slots.{Gstate, address_of_array}
use Rattle.lfs_model.specs.session.Operations as ops
use Rattle.lfs_fs.specs.declared.gstate.Gstate as answered

abbrev pub pending_move_view : Option (List ℕ × ℕ) → Option ((ℕ × ℕ) × ℕ)
pending_move_view moving = option_map (λ m. (address_of_array m.0, m.1)) moving

abbrev pub returned_gstate_reply : answered.Gstate → ops.Reply
returned_gstate_reply g = ops.GstateIs g.sync (pending_move_view g.moving)

-- the reply with the global state of a disk
abbrev pub gstate_reply_from_disk : Gstate → ops.Reply
gstate_reply_from_disk g = ops.GstateIs g.sync (if g.kind == 0x4ff then Some (g.pair, g.id) else None)
