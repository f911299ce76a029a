-- What is checked of an image's bytes.
use Rattle.std.proofs.Common.{◌≡◌, ◌<◌, ℕ, List, Option, Some, None, arith, length, refl}
use Rattle.std.specs.Prelude.{IfSome}
use Rattle.lfs_tool.proofs.Common.{IsWholeImage, IsWrongSuperblockField, SuperblocksAreRight}
use Rattle.lfs_tool.specs.declared.image_layout.ImageLayout.{ImageLayout}
use Rattle.lfs_tool.specs.CheckResults.{FitsInLargestImage}
use Rattle.lfs_tool.specs.WrongNumbers.{HasWrongSuperblockField}
use Rattle.lfs_tool.specs.declared.verdict.WrongNumber.{WrongNumber}
use Rattle.lfs_tool.proofs.Images.{image_fits}

-- ---- the reason that comes first

-- a number that was looked for
pub number_or_none : (layout : ImageLayout) (image : List ℕ) (stated : Option WrongNumber) → IfSome stated (HasWrongSuperblockField image layout.block_size layout.profile.versions) → (stated ≡ None → SuperblocksAreRight image layout.block_size layout.profile.versions) → FitsInLargestImage image → IsWrongSuperblockField layout image stated
number_or_none layout image None found none fits = λ short. none refl
number_or_none layout image (Some number) found none fits = (fits, found)

-- ---- more bytes than an image may have

pub no_image : (block_size page : ℕ) (bytes : List ℕ) → 268435456 < length bytes → IsWholeImage block_size page bytes → ⊥
no_image block_size page bytes long is = let short = image_fits block_size page bytes is in omega arith
