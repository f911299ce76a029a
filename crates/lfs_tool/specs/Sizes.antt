-- The rules for the sizes of an image, and the lines of broken ones.
use Rattle.std.specs.Prelude.{◌≡◌, ◌<◌, ◌≢◌, ◌⊎◌, ◌*◌, ◌/◌, ◌%◌, ◌++◌, ℕ, [], List, false, codes}
use Rattle.std.specs.Fmt.{decimal}
use Rattle.lfs_model.specs.format.Geometry.{IsValidGeometry, is_valid_page_size}
use Rattle.lfs_model.specs.layers.Listing.{newline}
use Rattle.lfs_tool.specs.declared.sizes.Sizes.{Sizes}
use Rattle.lfs_tool.specs.declared.sizes.SizeRule.{SizeRule}
use Rattle.lfs_tool.specs.declared.sizes.SizeRule.TheVariants as rule

-- the sizes break the rule
abbrev pub BreaksSizeRule : Sizes → SizeRule → Type 0
BreaksSizeRule s rule.PageSize = is_valid_page_size s.page ≡ false
BreaksSizeRule s rule.BlockSize = (s.block_size < 1024) ⊎ (65536 < s.block_size)
BreaksSizeRule s rule.EightPages = s.block_size < 8 * s.page
BreaksSizeRule s rule.WholePages = s.block_size % s.page ≢ 0
BreaksSizeRule s rule.ImageSize = 268435456 < s.size
BreaksSizeRule s rule.WholeBlocks = s.size % s.block_size ≢ 0
BreaksSizeRule s rule.BlockCount = (s.size / s.block_size < 2) ⊎ (65536 < s.size / s.block_size)

-- the index of the rule among the rules
abbrev pub rule_index : SizeRule → ℕ
rule_index rule.PageSize = 0
rule_index rule.BlockSize = 1
rule_index rule.EightPages = 2
rule_index rule.WholePages = 3
rule_index rule.ImageSize = 4
rule_index rule.WholeBlocks = 5
rule_index rule.BlockCount = 6

-- the sizes break no rule before this index
abbrev pub BreaksNoneBefore : Sizes → ℕ → Type 0
BreaksNoneBefore s place = (rule : SizeRule) → rule_index rule < place → ¬ BreaksSizeRule s rule

-- the sizes break the rule, and none before it
abbrev pub IsFirstBrokenRule : Sizes → SizeRule → Type 0
IsFirstBrokenRule s rule = BreaksSizeRule s rule × BreaksNoneBefore s (rule_index rule)

-- there are images of these sizes
abbrev pub AreValidImageSizes : Sizes → Type 0
AreValidImageSizes s = (s.size % s.block_size ≡ 0) × IsValidGeometry s.block_size s.page (s.size / s.block_size)

abbrev pub number_text : List ℕ → ℕ → List ℕ
number_text before n = before ++ decimal n

-- the sizes that the rule is about
abbrev pub sizes_text : Sizes → SizeRule → List ℕ
sizes_text s rule.PageSize = number_text (codes "page ") s.page
sizes_text s rule.BlockSize = number_text (codes "block ") s.block_size
sizes_text s rule.EightPages = number_text (codes "block ") s.block_size ++ number_text (codes ", page ") s.page
sizes_text s rule.WholePages = number_text (codes "block ") s.block_size ++ number_text (codes ", page ") s.page
sizes_text s rule.ImageSize = []
sizes_text s rule.WholeBlocks = number_text (codes "size ") s.size ++ number_text (codes ", block ") s.block_size
sizes_text s rule.BlockCount = number_text (codes "size ") s.size ++ number_text (codes ", block ") s.block_size

-- the text of the rule
abbrev pub rule_words : SizeRule → List ℕ
rule_words rule.PageSize = codes ": a page has 8, 16, 32, 64, 128, 256 or 512 bytes" ++ newline
rule_words rule.BlockSize = codes ": a block has from 1024 to 65536 bytes" ++ newline
rule_words rule.EightPages = codes ": a page is at most an eighth of a block" ++ newline
rule_words rule.WholePages = codes ": a block is a whole number of pages" ++ newline
rule_words rule.ImageSize = codes "an image has at most 268435456 bytes" ++ newline
rule_words rule.WholeBlocks = codes ": an image is a whole number of blocks" ++ newline
rule_words rule.BlockCount = codes ": an image has from 2 to 65536 blocks" ++ newline

-- the line that says that the sizes break the rule
abbrev pub broken_rule_line : Sizes → SizeRule → List ℕ
broken_rule_line s r = sizes_text s r ++ rule_words r
