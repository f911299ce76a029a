-- The options of a line whose value is one of several names.
use Rattle.std.specs.Prelude.{◌≡◌, List, Some}
use Rattle.clap.specs.Words.{Row}
use Rattle.lfs_tool.specs.Matches.{HasOneMode, IsModeOf, board_in_rows, order_in_rows}
use Rattle.lfs_tool.specs.declared.line.Choices.{Choices}

-- each is the one that the words name, or its default
pub record AreChoicesOf (rows : List Row) (choices : Choices) : Type 0 where
  pub one_mode : HasOneMode rows
  pub mode : IsModeOf rows choices.mode
  pub order : order_in_rows rows ≡ Some choices.order
  pub board : board_in_rows rows ≡ Some choices.board
