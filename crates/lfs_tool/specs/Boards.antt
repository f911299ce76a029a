-- The sizes and limits of boards and of firmware.
use Rattle.std.specs.Prelude.{ℕ, if◌then◌else◌, Option, Some, None, codes}
use Rattle.std.specs.Str.{bytes_eq}
use Rattle.clap.specs.Words.{Text}
use Rattle.lfs_model.specs.format.Disk.{default_profile}
use Rattle.lfs_model.specs.declared.limits.AcceptedVersions.TheVariants.{AlsoTwoOne}
use Rattle.lfs_model.specs.declared.limits.Profile.{Profile}
use Rattle.lfs_tool.specs.declared.board.Board.{Board}
use Rattle.lfs_tool.specs.declared.board.Board.TheVariants as board

-- the board of this name, if there is one
abbrev pub board_named : Text → Option Board
board_named text =
    if bytes_eq text (codes "esp8266") then Some board.Esp8266
    else (if bytes_eq text (codes "esp32") then Some board.Esp32
    else (if bytes_eq text (codes "rp2040") then Some board.Rp2040
    else (if bytes_eq text (codes "micropython") then Some board.Micropython else None)))

-- the default size of a block, in bytes
abbrev pub board_block_size : Board → ℕ
board_block_size board.Unnamed = 4096
board_block_size board.Esp8266 = 8192
board_block_size board.Esp32 = 4096
board_block_size board.Rp2040 = 4096
board_block_size board.Micropython = 4096

-- the profile of firmware with names of at most `name_max` bytes and inline files of at most `inline_max` bytes
abbrev pub profile_of_firmware : ℕ → ℕ → Profile
profile_of_firmware name_max inline_max = record default_profile { versions = AlsoTwoOne; name_max = name_max; inline_max = inline_max }

-- the default limits and versions
abbrev pub board_profile : Board → Profile
board_profile board.Unnamed = default_profile
board_profile board.Esp8266 = profile_of_firmware 32 64
board_profile board.Esp32 = profile_of_firmware 64 512
board_profile board.Rp2040 = profile_of_firmware 255 256
board_profile board.Micropython = profile_of_firmware 255 128
