-- The values in the words of a command line.
use Rattle.std.specs.Prelude.{◌≡◌, ◌≤◌, ◌+◌, ◌∷◌, ◌||◌, ◌&&◌, if◌then◌else◌, ℕ, [], Bool, List, Option, Some, None, false, true, codes, is_some, nat_eq, not, unwrap_or, count_by}
use Rattle.std.specs.Str.{bytes_eq}
use Rattle.clap.specs.Words.{Kinds, Row, Text, all_of, fault_of, first_of, matches_of}
use Rattle.clap.specs.Kinds.{or_else}
use Rattle.clap.specs.Words.{HasKind, first_value}
use Rattle.clap.specs.declared.parser.matches.Found.{Found}
use Rattle.lfs_model.specs.declared.limits.AcceptedVersions.{AcceptedVersions}
use Rattle.lfs_model.specs.declared.limits.AcceptedVersions.TheVariants.{AlsoTwoOne}
use Rattle.lfs_model.specs.declared.limits.Profile.{Profile}
use Rattle.lfs_model.specs.declared.order.NameOrder.{NameOrder}
use Rattle.lfs_model.specs.declared.order.NameOrder.TheVariants.{LongerFirst, ShorterFirst}
use Rattle.lfs_tool.specs.Boards.{board_block_size, board_named, board_profile}
use Rattle.lfs_tool.specs.Command.{mklittlefs}
use Rattle.lfs_tool.specs.RunOptions.{AreRunOptionsOf, first_option_misuse}
use Rattle.lfs_tool.specs.Limits.{first_broken_limit}
use Rattle.lfs_tool.specs.Values.{flag_in_rows, is_option_auto, number_errors, number_or}
use Rattle.lfs_tool.specs.declared.board.Board.{Board}
use Rattle.lfs_tool.specs.declared.board.Board.TheVariants.{Unnamed}
use Rattle.lfs_tool.specs.declared.limits.Limit.{Limit}
use Rattle.lfs_tool.specs.declared.line.Line.{Line}
use Rattle.lfs_tool.specs.declared.line.LineError.{LineError}
use Rattle.lfs_tool.specs.declared.line.LineError.TheVariants as error
use Rattle.lfs_tool.specs.declared.line.LineError.TheVariants.{Modes, NotUtf8, Order, Parser}
use Rattle.lfs_tool.specs.declared.line.Mode.{Mode}
use Rattle.lfs_tool.specs.declared.line.Request.{Request}
use Rattle.lfs_tool.specs.declared.line.Mode.TheVariants as mode
use Rattle.lfs_tool.specs.declared.modes.GivenModes.{GivenModes}
use Rattle.lfs_tool.specs.declared.modes.GivenModes.TheVariants as given

-- the matches of the words, by clap's definition of a simple command
unfoldable pub rows : List Text → List Row
rows words = matches_of mklittlefs words

-- the error that refuses the words: that of clap, or that of a text that is no number; empty if they are accepted
unfoldable pub faults : List Text → Kinds
faults words = or_else (fault_of mklittlefs words) (number_errors (rows words))

abbrev pub ParserAccepts : List Text → Type 0
ParserAccepts words = faults words ≡ []

abbrev pub asks_list : List Row → Bool
asks_list rows = flag_in_rows (codes "list") rows

abbrev pub asks_check : List Row → Bool
asks_check rows = flag_in_rows (codes "check") rows

abbrev pub asks_explanation : List Row → Bool
asks_explanation rows = flag_in_rows (codes "explain") rows

-- whether each of -c, -u, -l and --check is given
abbrev pub folder_mode_flags : List Row → List Bool
folder_mode_flags rows = is_some (first_of (codes "create") rows)
    ∷ is_some (first_of (codes "unpack") rows) ∷ asks_list rows ∷ asks_check rows ∷ []

-- the two texts of a list of two
abbrev pub exactly_two_texts : Option (List Text) → Option (Text × Text)
exactly_two_texts (Some (first ∷ second ∷ [])) = Some (first, second)
exactly_two_texts _ = None

-- the two texts of an option
abbrev pub given_two_texts : Text → List Row → Option (Text × Text)
given_two_texts id rows = exactly_two_texts (all_of id rows)

-- whether each of --cat, --put, --remove and --mkdir is given
abbrev pub path_mode_flags : List Row → List Bool
path_mode_flags rows = is_some (first_of (codes "cat") rows)
    ∷ is_some (given_two_texts (codes "put") rows) ∷ is_some (first_of (codes "remove") rows) ∷ is_some (first_of (codes "mkdir") rows) ∷ []

-- how many of these are given
abbrev pub true_flag_count : List Bool → ℕ
true_flag_count flags = count_by (λ b. b) flags

-- how many modes are given
abbrev pub mode_count : List Row → ℕ
mode_count rows = true_flag_count (folder_mode_flags rows) + true_flag_count (path_mode_flags rows)

abbrev pub HasOneMode : List Row → Type 0
HasOneMode rows = mode_count rows ≡ 1

-- the mode is the one that is given
abbrev pub IsModeOf : List Row → Mode → Type 0
IsModeOf rows (mode.Create dir) = first_of (codes "create") rows ≡ Some dir.now
IsModeOf rows (mode.Unpack dir) = first_of (codes "unpack") rows ≡ Some dir.now
IsModeOf rows mode.List = asks_list rows ≡ true
IsModeOf rows mode.Check = asks_check rows ≡ true
IsModeOf rows (mode.Cat path) = first_of (codes "cat") rows ≡ Some path.now
IsModeOf rows (mode.Put file path) = given_two_texts (codes "put") rows ≡ Some (file.now, path.now)
IsModeOf rows (mode.Remove path) = first_of (codes "remove") rows ≡ Some path.now
IsModeOf rows (mode.Mkdir path) = first_of (codes "mkdir") rows ≡ Some path.now

-- whether none, one or several of the modes with these flags are given
abbrev pub AreGivenModes : List Bool → List Row → GivenModes → Type 0
AreGivenModes flags rows given.None = true_flag_count flags ≡ 0
AreGivenModes flags rows (given.One mode) = (true_flag_count flags ≡ 1) × IsModeOf rows mode
AreGivenModes flags rows given.Several = 2 ≤ true_flag_count flags

-- the order of names with this name
abbrev pub order_named : Text → Option NameOrder
order_named text = if bytes_eq text (codes "longer-first") then Some LongerFirst else (if bytes_eq text (codes "shorter-first") then Some ShorterFirst else None)

abbrev pub order_if_present : Option Text → Option NameOrder
order_if_present None = None
order_if_present (Some text) = order_named text

abbrev pub order_in_rows : List Row → Option NameOrder
order_in_rows rows = order_if_present (first_of (codes "order") rows)

-- the order that is given is one of the two
abbrev pub HasValidOrder : List Row → Type 0
HasValidOrder rows = is_some (order_in_rows rows) ≡ true

-- the board that is given, or the default
abbrev pub board_if_present : Option Text → Option Board
board_if_present None = Some Unnamed
board_if_present (Some text) = board_named text

abbrev pub board_in_rows : List Row → Option Board
board_in_rows rows = board_if_present (first_of (codes "board") rows)

-- the board that is given is one of the four
abbrev pub HasKnownBoard : List Row → Type 0
HasKnownBoard rows = is_some (board_in_rows rows) ≡ true

abbrev pub board_or_default : List Row → Board
board_or_default rows = unwrap_or (board_in_rows rows) Unnamed

-- the size of a block that is given, or the board's
abbrev pub given_block_size : List Row → ℕ
given_block_size rows = number_or (board_block_size (board_or_default rows)) (codes "block") rows

-- the accepted versions: 2.0 and 2.1 if `--also-2.1` is given
abbrev pub versions_given_or : AcceptedVersions → List Row → AcceptedVersions
versions_given_or other rows = if flag_in_rows (codes "also-2.1") rows then AlsoTwoOne else other

-- a profile with the limits and versions that are given
abbrev pub profile_given_or : Profile → List Row → Profile
profile_given_or other rows = record other {
  versions = versions_given_or other.versions rows;
  name_max = number_or other.name_max (codes "name-max") rows;
  file_max = number_or other.file_max (codes "file-max") rows;
  attr_max = number_or other.attr_max (codes "attr-max") rows;
  inline_max = number_or other.inline_max (codes "inline-max") rows;
  pair_cycles = number_or other.pair_cycles (codes "pair-cycles") rows;
}

-- the profile: the board's, with the limits and versions that are given
abbrev pub given_profile : List Row → Profile
given_profile rows = profile_given_or (board_profile (board_or_default rows)) rows

-- the first limit that breaks its rule
abbrev pub broken_limit : List Row → Option Limit
broken_limit rows = first_broken_limit (given_block_size rows) rows

-- the superblock decides the size and the number of blocks
abbrev pub has_auto_blocks : List Row → Bool
has_auto_blocks rows = is_option_auto (codes "block") rows || flag_in_rows (codes "auto") rows

-- each part of the line is the value in the words, or its default
pub record IsLineOf (rows : List Row) (line : Line) : Type 0 where
  pub one_mode : HasOneMode rows
  pub mode : IsModeOf rows line.mode
  pub known_board : HasKnownBoard rows
  pub block_size : given_block_size rows ≡ line.block_size
  pub is_auto : has_auto_blocks rows ≡ line.is_auto
  pub has_own_limits : flag_in_rows (codes "auto") rows ≡ line.has_own_limits
  pub offset : number_or 0 (codes "offset") rows ≡ line.offset
  pub page : number_or 256 (codes "page") rows ≡ line.page
  pub size : number_or 65536 (codes "size") rows ≡ line.size
  pub order : order_in_rows rows ≡ Some line.order
  pub explain : asks_explanation rows ≡ line.explain
  pub limits : broken_limit rows ≡ None
  pub profile : given_profile rows ≡ line.profile
  pub image : first_of (codes "image") rows ≡ Some line.image.now

-- an option for a part of a file is given, so the rest of the file might not be kept
abbrev pub has_image_range : Line → Bool
has_image_range line = not (nat_eq line.offset 0) || (line.is_auto && not line.has_own_limits)

abbrev pub is_range_misused : Mode → Bool → Bool
is_range_misused (mode.Create dir) part = part
is_range_misused (mode.Put file path) part = part
is_range_misused (mode.Remove path) part = part
is_range_misused (mode.Mkdir path) part = part
is_range_misused other part = false

-- the line's mode writes an image, and an option for a part of a file is given
abbrev pub has_misused_range : Line → Bool
has_misused_range line = is_range_misused line.mode (has_image_range line)

-- the line, and its requests besides the image
pub record IsRequestOf (rows : List Row) (request : Request) : Type 0 where
  pub line : IsLineOf rows request.line
  pub extras : AreRunOptionsOf rows request.extras
  pub whole : has_misused_range request.line ≡ false

-- the image is given
abbrev pub HasImage : Found → Type 0
HasImage f = is_some (first_value f (codes "image")) ≡ true

-- the parser accepts the words, which name one mode, and a known order and board
abbrev pub HasValidModeChoices : List Text → Type 0
HasValidModeChoices words = ParserAccepts words × HasOneMode (rows words) × HasValidOrder (rows words) × HasKnownBoard (rows words)

-- The reason why there is no line: the parser refuses the words; or it accepts them, and not exactly one mode is given; or the
-- order is neither of the two; or the board is none of the four; or a limit breaks its rule, and none before it does; or an
-- option for a part of a file is given, in a mode that writes an image; or an option is misused, and none before it is. Text is
-- UTF-8.
abbrev pub IsLineError : List Text → LineError → Type 0
IsLineError words (Parser e) = HasKind (faults words) e
IsLineError words Modes = ParserAccepts words × ¬ HasOneMode (rows words)
IsLineError words Order = ParserAccepts words × HasOneMode (rows words) × ¬ HasValidOrder (rows words)
IsLineError words error.Board = ParserAccepts words × HasOneMode (rows words) × HasValidOrder (rows words) × ¬ HasKnownBoard (rows words)
IsLineError words (error.Limit limit) = HasValidModeChoices words × (broken_limit (rows words) ≡ Some limit)
IsLineError words (error.Misuse misuse) = HasValidModeChoices words × (broken_limit (rows words) ≡ None) × (first_option_misuse (rows words) ≡ Some misuse)
IsLineError words error.Part = ParserAccepts words × ((line : Line) × (IsLineOf (rows words) line × (has_misused_range line ≡ true)))
IsLineError words NotUtf8 = ⊥
