-- Addresses and wrong numbers, as lines print them.
use Rattle.std.specs.Prelude.{ℕ, ◌/◌, ◌%◌, ◌++◌, List, codes}
use Rattle.std.specs.Fmt.{decimal}
use Rattle.lfs_tool.specs.declared.verdict.WrongNumber.{WrongNumber}
use Rattle.lfs_tool.specs.declared.verdict.WrongNumber.TheVariants as stated
use Rattle.lfs_tool.specs.declared.verdict.CheckedSizes.{CheckedSizes}

-- `pair A B`
abbrev pub pair_text : ℕ × ℕ → List ℕ
pair_text at = codes "pair " ++ decimal at.0 ++ codes " " ++ decimal at.1

-- the wrong number of a superblock
abbrev pub wrong_field_text : CheckedSizes → WrongNumber → List ℕ
wrong_field_text given (stated.BlockSize n) = codes "superblock: block size " ++ decimal n ++ codes ", given " ++ decimal given.block_size
wrong_field_text given (stated.BlockCount n) = codes "superblock: block count " ++ decimal n ++ codes ", given " ++ decimal given.blocks
wrong_field_text given (stated.Version n) = codes "superblock: version " ++ decimal (n / 65536) ++ codes "." ++ decimal (n % 65536)

-- no image has these sizes
abbrev pub no_image_text : CheckedSizes → List ℕ
no_image_text given = (codes "no image of blocks of " ++ decimal given.block_size ++ codes " bytes") ++ codes " and pages of " ++ decimal given.page ++ codes " has a length of " ++ decimal given.size
