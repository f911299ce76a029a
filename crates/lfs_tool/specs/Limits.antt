-- The limits that options set, and their rules.
use Rattle.std.specs.Prelude.{◌/◌, ◌&&◌, if◌then◌else◌, nat_le, min, ℕ, List, Bool, true, Option, Some, None, codes}
use Rattle.lfs_model.specs.format.Disk.{attribute_limit, file_size_limit}
use Rattle.lfs_model.specs.format.Names.{name_limit}
use Rattle.lfs_model.specs.format.Tag.{tag_data_limit}
use Rattle.clap.specs.Words.{Row}
use Rattle.lfs_tool.specs.Values.{number_in_rows}
use Rattle.lfs_tool.specs.declared.limits.Limit.{Limit}
use Rattle.lfs_tool.specs.declared.limits.Limit.TheVariants as limit

-- the number is from 1 to `most`, or isn't given
abbrev pub is_limit_within : ℕ → Option ℕ → Bool
is_limit_within most None = true
is_limit_within most (Some n) = nat_le 1 n && nat_le n most

-- the first limit that breaks its rule, with blocks of this size in bytes
abbrev pub first_broken_limit : ℕ → List Row → Option Limit
first_broken_limit block_size rows =
    if is_limit_within name_limit (number_in_rows (codes "name-max") rows) then
    (if is_limit_within file_size_limit (number_in_rows (codes "file-max") rows) then
    (if is_limit_within attribute_limit (number_in_rows (codes "attr-max") rows) then
    (if is_limit_within (min (block_size / 8) tag_data_limit) (number_in_rows (codes "inline-max") rows) then None
    else Some limit.Inline) else Some limit.Attr) else Some limit.File) else Some limit.Name

-- the text of the limit's rule
abbrev pub limit_rule : Limit → List ℕ
limit_rule limit.Name = codes "--name-max is from 1 to 255"
limit_rule limit.File = codes "--file-max is from 1 to 2147483647"
limit_rule limit.Attr = codes "--attr-max is from 1 to 1022"
limit_rule limit.Inline = codes "--inline-max is from 1 to 1022, and at most an eighth of -b"
