-- The lines of a check.
use Rattle.std.specs.Prelude.{ℕ, ◌-◌, ◌/◌, ◌%◌, ◌==◌, ◌++◌, if◌then◌else◌, Bool, true, false, List, [], Option, Some, None, codes}
use Rattle.std.specs.Fmt.{decimal}
use Rattle.lfs_model.specs.format.Disk.{default_profile}
use Rattle.lfs_model.specs.format.Slots.{address_of_array}
use Rattle.lfs_model.specs.declared.breaches.OtherLimit.{OtherLimit}
use Rattle.lfs_model.specs.declared.breaches.OtherLimit.TheVariants as limit
use Rattle.lfs_model.specs.declared.breaches.ProfileBreach.{ProfileBreach}
use Rattle.lfs_model.specs.declared.breaches.ProfileBreach.TheVariants as breach
use Rattle.lfs_tag.specs.declared.fields.Superblock.{Superblock}
use Rattle.lfs_tool.specs.NumberTexts.{no_image_text, pair_text, wrong_field_text}
use Rattle.lfs_tool.specs.declared.verdict.CheckResult.{CheckResult}
use Rattle.lfs_tool.specs.declared.verdict.CheckResult.TheVariants as checked
use Rattle.lfs_tool.specs.declared.verdict.CheckedSizes.{CheckedSizes}
use Rattle.lfs_tool.specs.declared.verdict.RefusalReason.{RefusalReason}
use Rattle.lfs_tool.specs.declared.verdict.RefusalReason.TheVariants as reason
use Rattle.lfs_tool.specs.declared.verdict.AcceptedOrders.{AcceptedOrders}
use Rattle.lfs_tool.specs.declared.verdict.AcceptedOrders.TheVariants as orders
use Rattle.lfs_tool.specs.declared.verdict.ImageSummary.{ImageSummary}

-- ---- an accepted image

abbrev pub orders_text : AcceptedOrders → List ℕ
orders_text orders.LongerFirst = codes "longer-first"
orders_text orders.ShorterFirst = codes "shorter-first"
orders_text orders.Either = codes "either"

-- `version 2.1`; nothing if it is 2.0
abbrev pub version_line : ℕ → List ℕ
version_line version = if version == 0x00020000 then [] else codes "version " ++ decimal (version / 65536) ++ codes "." ++ decimal (version % 65536) ++ codes "\n"

-- the name and the limit; nothing if it is the default one
abbrev pub limit_line : List ℕ → ℕ → ℕ → List ℕ
limit_line name default limit = if limit == default then [] else name ++ codes " " ++ decimal limit ++ codes "\n"

-- the version and each limit that isn't the default one, if the superblock is known
abbrev pub superblock_lines : Option Superblock → List ℕ
superblock_lines None = []
superblock_lines (Some s) =
    version_line s.version ++ limit_line (codes "name_max") default_profile.name_max s.name_max
    ++ limit_line (codes "file_max") default_profile.file_max s.file_max ++ limit_line (codes "attr_max") default_profile.attr_max s.attr_max

-- `name_max N`
abbrev pub other_limit_text : OtherLimit → List ℕ
other_limit_text (limit.Name n) = codes "name_max " ++ decimal n
other_limit_text (limit.File n) = codes "file_max " ++ decimal n
other_limit_text (limit.Attr n) = codes "attr_max " ++ decimal n

-- the profile's limit of inline files, if it is less than an eighth of a block
abbrev pub inline_limit_text : Option ℕ → List ℕ
inline_limit_text None = codes "an eighth of a block"
inline_limit_text (Some n) = codes "inline_max " ++ decimal n

-- the rule of the writing profile that an image breaks
abbrev pub breach_text : Option ℕ → ProfileBreach → List ℕ
breach_text inline_max (breach.OtherLimits pair slot limit) =
    pair_text (address_of_array pair) ++ codes ", slot " ++ decimal slot ++ codes ": a superblock with other limits than the options give, " ++ other_limit_text limit
breach_text inline_max (breach.LongInline pair slot) =
    pair_text (address_of_array pair) ++ codes ", slot " ++ decimal slot ++ codes ": more bytes inline than " ++ inline_limit_text inline_max
breach_text inline_max (breach.EmptyPair pair) = pair_text (address_of_array pair) ++ codes ": no entry, but a directory goes on in it"
breach_text inline_max (breach.TooLarge pair) = codes "a pair or an entry is larger than this library writes"

abbrev pub writable_text : Option ℕ → Option ProfileBreach → List ℕ
writable_text inline_max None = codes "yes"
writable_text inline_max (Some b) = codes "no: " ++ breach_text inline_max b

abbrev pub yes_no_text : Bool → List ℕ
yes_no_text true = codes "yes"
yes_no_text false = codes "no"

abbrev pub counts_text : ImageSummary → List ℕ
counts_text s = codes "ok\nfiles " ++ decimal s.files ++ codes "\ndirectories " ++ decimal s.directories ++ codes "\n"

abbrev pub blocks_text : ImageSummary → List ℕ
blocks_text s = codes "used " ++ decimal s.used ++ codes " of " ++ decimal s.blocks ++ codes " blocks\nfree " ++ decimal (s.blocks - s.used) ++ codes "\n"

abbrev pub order_line : AcceptedOrders → List ℕ
order_line orders = codes "order " ++ orders_text orders ++ codes "\n"

abbrev pub recover_line : Bool → List ℕ
recover_line recover = codes "recover " ++ yes_no_text recover ++ codes "\n"

abbrev pub writable_line : Option ℕ → Option ProfileBreach → List ℕ
writable_line inline_max b = codes "writable " ++ writable_text inline_max b ++ codes "\n"

abbrev pub summary_text : ImageSummary → AcceptedOrders → List ℕ
summary_text s orders = counts_text s ++ blocks_text s ++ order_line orders ++ superblock_lines s.superblock ++ recover_line s.recover ++ writable_line s.inline_max s.breach

-- ---- why one isn't accepted

abbrev pub reason_text : CheckedSizes → RefusalReason → List ℕ
reason_text given (reason.WrongNumber stated) = wrong_field_text given stated
reason_text given reason.NoImage = no_image_text given
reason_text given (reason.Broken rule) = rule.line.items

abbrev pub result_text : CheckResult → List ℕ
result_text (checked.Accepted summary orders) = summary_text summary orders
result_text (checked.Refused reason given) = codes "corrupt\n" ++ reason_text given reason ++ codes "\n"
