-- The command line of mklittlefs, as clap's definitions see it.
use Rattle.std.specs.Prelude.{◌∷◌, ℕ, [], List, Option, Some, None, true, codes, length}
use Rattle.clap.specs.Words.{App, Rule, Text, new_app, new_rule, with_rule}
use Rattle.clap.specs.declared.builder.ArgAction.TheVariants.{Append, Set, SetTrue}
use Rattle.lfs_tool.specs.declared.options.OptionRow.{OptionRow}
use Rattle.lfs_tool.specs.declared.options.Value.{Value}
use Rattle.lfs_tool.specs.declared.options.Value.TheVariants as value

-- an option whose long name is its id, with a letter or without one, and with so many values
abbrev pub value_option_rule : Text → Option ℕ → ℕ → Rule
value_option_rule name letter count = record (new_rule name) { short = letter; long = Some name; action = Some Set; value_names = count }

-- an option with this default
abbrev pub option_with_default : Text → Text → Rule
option_with_default name default = record (value_option_rule name None 1) { defaults = default ∷ [] }

-- an option that may be given several times
abbrev pub repeatable_option : Text → Rule
repeatable_option name = record (value_option_rule name None 1) { action = Some Append }

-- an option without a value
abbrev pub flag_rule : Text → Option ℕ → Rule
flag_rule name letter = record (new_rule name) { short = letter; long = Some name; action = Some SetTrue }

-- a required argument
abbrev pub needed : Text → Rule
needed name = record (new_rule name) { action = Some Set; value_names = 1; required = true }

-- the rule of a row of a table
abbrev pub rule_of_row : OptionRow → Rule
rule_of_row row = go row.value
  where
    go : Value → Rule
    go value.Nothing = flag_rule row.name.now row.letter
    go (value.One name) = value_option_rule row.name.now row.letter 1
    go (value.Each names) = value_option_rule row.name.now row.letter (length names.now)
    go (value.Several name) = record (repeatable_option row.name.now) { short = row.letter }
    go (value.Default name default) = record (option_with_default row.name.now default.now) { short = row.letter }
    go (value.Needed name) = needed row.name.now

-- the modes, the options that are used most, and the image
abbrev pub common_rules : List Rule
common_rules =
    needed (codes "image")
    ∷ value_option_rule (codes "create") (Some 99) 1 ∷ value_option_rule (codes "unpack") (Some 117) 1
    ∷ flag_rule (codes "list") (Some 108) ∷ flag_rule (codes "check") None
    ∷ value_option_rule (codes "cat") None 1 ∷ value_option_rule (codes "put") None 2
    ∷ value_option_rule (codes "remove") None 1 ∷ value_option_rule (codes "mkdir") None 1
    ∷ flag_rule (codes "auto") None ∷ value_option_rule (codes "board") None 1
    ∷ value_option_rule (codes "block") (Some 98) 1 ∷ value_option_rule (codes "page") (Some 112) 1 ∷ value_option_rule (codes "size") (Some 115) 1
    ∷ flag_rule (codes "also-2.1") None ∷ flag_rule (codes "json") None ∷ flag_rule (codes "explain") None ∷ []

-- the other options
abbrev pub further_rules : List Rule
further_rules =
    value_option_rule (codes "spare") None 1 ∷ value_option_rule (codes "offset") None 1
    ∷ option_with_default (codes "order") (codes "longer-first")
    ∷ value_option_rule (codes "name-max") None 1 ∷ value_option_rule (codes "file-max") None 1
    ∷ value_option_rule (codes "attr-max") None 1 ∷ value_option_rule (codes "inline-max") None 1 ∷ value_option_rule (codes "pair-cycles") None 1
    ∷ repeatable_option (codes "exclude") ∷ flag_rule (codes "follow-links") None ∷ flag_rule (codes "skip-links") None ∷ flag_rule (codes "times") None ∷ []

abbrev pub with_rules : App → List Rule → App
with_rules app [] = app
with_rules app (rule ∷ rules) = with_rules (with_rule app rule) rules

-- the command without its arguments, which prints its version on request
abbrev pub command_without_options : App
command_without_options = let app = new_app (codes "mklittlefs") in record app { top = record app.top { has_version = true } }

-- the command with its arguments
unfoldable pub mklittlefs : App
mklittlefs = with_rules (with_rules command_without_options common_rules) further_rules
