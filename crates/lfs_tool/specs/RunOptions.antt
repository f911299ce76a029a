-- The requests of the words besides the image.
use Rattle.std.specs.Prelude.{◌≡◌, ◌&&◌, ◌||◌, if◌then◌else◌, ℕ, Bool, List, Option, Some, None, codes, [], false, is_some, map, not, unwrap_or}
use Rattle.std.specs.Borrow.{Bor}
use Rattle.std.specs.Global.{Vec}
use Rattle.std.specs.Str.{bytes_eq}
use Rattle.clap.specs.Words.{Row, Text, all_of, first_of}
use Rattle.lfs_tool.specs.Values.{flag_in_rows, is_option_auto, number_or}
use Rattle.lfs_tool.specs.declared.extras.RunOptions.{RunOptions}
use Rattle.lfs_tool.specs.declared.extras.Misuse.{Misuse}
use Rattle.lfs_tool.specs.declared.extras.Misuse.TheVariants as misuse

-- the patterns are those of the words
abbrev pub AreExcludePatternsOf : List Row → Vec (Bor Text) → Type 0
AreExcludePatternsOf rows patterns = unwrap_or (all_of (codes "exclude") rows) [] ≡ map (λ pattern. pattern.now) patterns.items

-- each flag and number is the one of the words
pub record AreRunOptionsOf (rows : List Row) (extras : RunOptions) : Type 0 where
  pub is_size_auto : is_option_auto (codes "size") rows ≡ extras.is_size_auto
  pub spare : number_or 0 (codes "spare") rows ≡ extras.spare
  pub follow_links : flag_in_rows (codes "follow-links") rows ≡ extras.follow_links
  pub skip_links : flag_in_rows (codes "skip-links") rows ≡ extras.skip_links
  pub times : flag_in_rows (codes "times") rows ≡ extras.times
  pub json : flag_in_rows (codes "json") rows ≡ extras.json
  pub exclude : AreExcludePatternsOf rows extras.exclude

-- an option with a text is given
abbrev pub is_given : Text → List Row → Bool
is_given id rows = is_some (first_of id rows)

-- the text of a file names a standard stream
abbrev pub names_stream : Option Text → Bool
names_stream None = false
names_stream (Some text) = bytes_eq text (codes "-")

abbrev pub is_standard_stream : Text → List Row → Bool
is_standard_stream id rows = names_stream (first_of id rows)

-- an image is to be changed in place
abbrev pub changes_image : List Row → Bool
changes_image rows = is_given (codes "put") rows || (is_given (codes "remove") rows || is_given (codes "mkdir") rows)

-- an option is given for something that the image's superblock decides
abbrev pub has_auto_conflict : List Row → Bool
has_auto_conflict rows =
    (is_given (codes "block") rows || is_given (codes "board") rows)
    || ((is_given (codes "name-max") rows || is_given (codes "file-max") rows)
    || (is_given (codes "attr-max") rows || flag_in_rows (codes "also-2.1") rows))

-- the misuse of `--auto`, if there is one
abbrev pub auto_misuse : List Row → Option Misuse
auto_misuse rows =
    if flag_in_rows (codes "auto") rows then
    (if is_given (codes "create") rows then Some misuse.Auto else (if has_auto_conflict rows then Some misuse.Decided else None))
    else None

-- the first misused option of those for sizes, times, pairs and files
abbrev pub run_option_misuse : List Row → Option Misuse
run_option_misuse rows =
    if not (is_given (codes "create") rows) && is_option_auto (codes "size") rows then Some misuse.Size else
    (if is_given (codes "spare") rows && not (is_option_auto (codes "size") rows) then Some misuse.Spare else
    (if flag_in_rows (codes "times") rows && not (is_given (codes "create") rows || is_given (codes "unpack") rows) then Some misuse.Times else
    (if is_given (codes "pair-cycles") rows && not (changes_image rows) then Some misuse.Cycles else
    (if is_standard_stream (codes "put") rows && is_standard_stream (codes "image") rows then Some misuse.Streams else auto_misuse rows))))

-- the first misused option
abbrev pub first_option_misuse : List Row → Option Misuse
first_option_misuse rows =
    if not (is_given (codes "create") rows)
    && (is_given (codes "exclude") rows || (flag_in_rows (codes "follow-links") rows || flag_in_rows (codes "skip-links") rows))
    then Some misuse.Folder else
    (if flag_in_rows (codes "follow-links") rows && flag_in_rows (codes "skip-links") rows then Some misuse.Links else
    (if flag_in_rows (codes "json") rows && not (flag_in_rows (codes "list") rows || flag_in_rows (codes "check") rows)
    then Some misuse.Json else run_option_misuse rows))

-- the rule that the option breaks, as its error line states it
abbrev pub misuse_rule : Misuse → List ℕ
misuse_rule misuse.Folder = codes "--exclude, --follow-links and --skip-links are for -c"
misuse_rule misuse.Links = codes "give one of --follow-links and --skip-links"
misuse_rule misuse.Json = codes "--json is for -l and --check"
misuse_rule misuse.Size = codes "--size auto is for -c"
misuse_rule misuse.Spare = codes "--spare is for -c with --size auto"
misuse_rule misuse.Times = codes "--times is for -c and -u"
misuse_rule misuse.Cycles = codes "--pair-cycles is for --put, --remove and --mkdir"
misuse_rule misuse.Streams = codes "--put takes - as FILE or as IMAGE, not as both"
misuse_rule misuse.Auto = codes "--auto is for all modes but -c"
misuse_rule misuse.Decided = codes "--auto replaces -b, --board, --also-2.1, --name-max, --file-max and --attr-max"
