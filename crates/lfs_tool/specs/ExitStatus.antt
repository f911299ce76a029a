-- The exit status of a fault, and its line.
use Rattle.std.specs.Prelude.{◌++◌, ℕ, List, Option, Some, None, Bool, true, false, codes}
use Rattle.clap.specs.Words.{kind_of}
use Rattle.clap.specs.declared.error.ErrorKind.{ErrorKind}
use Rattle.clap.specs.declared.error.ErrorKind.TheVariants as kind
use Rattle.lfs_tool.specs.declared.line.LineError.TheVariants.{Modes, NotUtf8, Order, Parser}
use Rattle.lfs_tool.specs.declared.line.LineError.TheVariants as line_error
use Rattle.lfs_tool.specs.declared.limits.Limit.{Limit}
use Rattle.lfs_tool.specs.RunOptions.{misuse_rule}
use Rattle.lfs_tool.specs.Limits.{limit_rule}
use Rattle.lfs_model.specs.layers.Listing.{newline}
use Rattle.lfs_tool.specs.Errors.{error_line, error_line_of, error_status}
use Rattle.lfs_device.specs.declared.error.Error.TheVariants.{NoMemory}
use Rattle.lfs_tool.specs.declared.errors.Fault.{Fault}
use Rattle.lfs_tool.specs.declared.errors.Fault.TheVariants.{Line, Tool}

-- the writer of the parser's text
pub data ParserOutcome : Type 0 where
  memory : ParserOutcome
  help : ParserOutcome
  mistake : ParserOutcome

abbrev pub parser_outcome : ErrorKind → ParserOutcome
parser_outcome kind.OutOfMemory = memory
parser_outcome kind.DisplayHelp = help
parser_outcome kind.DisplayVersion = help
parser_outcome _ = mistake

abbrev pub outcome_status : ParserOutcome → ℕ
outcome_status memory = 1
outcome_status help = 0
outcome_status mistake = 2

abbrev pub failure_status : Fault → ℕ
failure_status (Line Modes) = 2
failure_status (Line Order) = 2
failure_status (Line line_error.Board) = 2
failure_status (Line (line_error.Limit limit)) = 2
failure_status (Line (line_error.Misuse misuse)) = 2
failure_status (Line line_error.Part) = 2
failure_status (Line NotUtf8) = 2
failure_status (Line (Parser e)) = outcome_status (parser_outcome (kind_of e))
failure_status (Tool e) = error_status e

abbrev pub outcome_line : ParserOutcome → Option (List ℕ)
outcome_line memory = Some (error_line NoMemory)
outcome_line help = None
outcome_line mistake = None

-- the line with the rule that a limit breaks
abbrev pub broken_limit_line : Limit → List ℕ
broken_limit_line limit = codes "error: " ++ limit_rule limit ++ newline

-- the line on the standard error, if it is the tool's own
abbrev pub failure_line : Fault → Option (List ℕ)
failure_line (Line Modes) = Some (codes "error: give exactly one of -c, -u, -l" ++ newline)
failure_line (Line Order) = Some (codes "error: --order is longer-first or shorter-first" ++ newline)
failure_line (Line line_error.Board) = Some (codes "error: --board is esp8266, esp32, rp2040 or micropython" ++ newline)
failure_line (Line (line_error.Limit limit)) = Some (broken_limit_line limit)
failure_line (Line (line_error.Misuse misuse)) = Some (codes "error: " ++ misuse_rule misuse ++ newline)
failure_line (Line line_error.Part) = Some (codes "error: -b auto and --offset are for -l, -u, --check and --cat" ++ newline)
failure_line (Line NotUtf8) = Some (codes "error: the command line is not UTF-8" ++ newline)
failure_line (Line (Parser e)) = outcome_line (parser_outcome (kind_of e))
failure_line (Tool e) = Some (error_line_of e)

abbrev pub is_help_outcome : ParserOutcome → Bool
is_help_outcome help = true
is_help_outcome _ = false

-- the fault is a request for help, which is no mistake
abbrev pub is_help_request : Fault → Bool
is_help_request (Line (Parser e)) = is_help_outcome (parser_outcome (kind_of e))
is_help_request _ = false
