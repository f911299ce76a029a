-- What holds with the board that is given.
use Rattle.std.proofs.Common.{◌≡◌, ◌∙◌, ap, sym, List, Option, Some, codes, unwrap_or, ℕ}
use Rattle.clap.specs.Words.{Row}
use Rattle.lfs_tool.specs.Boards.{board_block_size, board_profile}
use Rattle.lfs_tool.specs.Limits.{first_broken_limit}
use Rattle.lfs_tool.specs.Matches.{broken_limit, given_block_size, board_in_rows, profile_given_or, given_profile}
use Rattle.lfs_tool.specs.Values.{number_or}
use Rattle.lfs_tool.specs.declared.board.Board.{Board}
use Rattle.lfs_tool.specs.declared.board.Board.TheVariants.{Unnamed}
use Rattle.lfs_tool.specs.declared.limits.Limit.{Limit}

pub block_size_with_board : (rows : List Row) (board : Board) → board_in_rows rows ≡ Some board
    → given_block_size rows ≡ number_or (board_block_size board) (codes "block") rows
block_size_with_board rows board is = ap (λ (o : Option Board). number_or (board_block_size (unwrap_or o Unnamed)) (codes "block") rows) is

pub profile_with_board : (rows : List Row) (board : Board) → board_in_rows rows ≡ Some board
    → given_profile rows ≡ profile_given_or (board_profile board) rows
profile_with_board rows board is = ap (λ (o : Option Board). profile_given_or (board_profile (unwrap_or o Unnamed)) rows) is

pub broken_limit_with_block_size : (rows : List Row) (size : ℕ) (r : Option Limit) → given_block_size rows ≡ size
    → r ≡ first_broken_limit size rows → broken_limit rows ≡ r
broken_limit_with_block_size rows size r is first = ap (λ (n : ℕ). first_broken_limit n rows) is ∙ sym first
