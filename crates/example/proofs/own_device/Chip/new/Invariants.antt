use Rattle.std.proofs.Common.{[]}
use Rattle.example.proofs.own_device.Chip.new.Given as goal

abbrev pub ghost-with_ghost_history : goal.ghost-with_ghost_history
ghost-with_ghost_history a = []
