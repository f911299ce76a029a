-- The line of an error, and the exit status of the program.
use Rattle.std.specs.Prelude.{◌++◌, ℕ, List, codes}
use Rattle.std.specs.Fmt.{decimal}
use Rattle.lfs_model.specs.layers.Listing.{newline}
use Rattle.lfs_device.specs.Error.{error_name, error_number}
use Rattle.lfs_device.specs.declared.error.Error.{Error}
use Rattle.lfs_tool.specs.declared.errors.ToolError.{ToolError}
use Rattle.lfs_tool.specs.declared.errors.ToolError.TheVariants.{Fs, Input, Output}

-- `error: <name> (<number>)`
abbrev pub error_line : Error → List ℕ
error_line e = codes "error: " ++ error_name e ++ codes " (" ++ decimal (error_number e) ++ codes ")" ++ newline

abbrev pub error_line_of : ToolError → List ℕ
error_line_of (Fs e) = error_line e
error_line_of Input = codes "error: input" ++ newline
error_line_of Output = codes "error: output" ++ newline

abbrev pub error_status : ToolError → ℕ
error_status (Fs e) = 1
error_status Input = 3
error_status Output = 3
