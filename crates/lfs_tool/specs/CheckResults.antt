-- The result of a check of an image.
use Rattle.std.specs.Prelude.{ℕ, ◌≡◌, ◌<◌, ◌≤◌, ◌/◌, Bool, true, false, List, length, Option, Some, None}
use Rattle.lfs_tool.specs.declared.image_layout.ImageLayout.{ImageLayout}
use Rattle.lfs_tool.specs.WrongNumbers.{SuperblocksAreRight, HasWrongSuperblockField}
use Rattle.lfs_tool.specs.Verdict.{BreaksInSomeOrder, IsSummarized, IsRejectedDisk, IsDiskVerdict}
use Rattle.lfs_tool.specs.declared.verdict.ImageVerdict.{ImageVerdict}
use Rattle.lfs_model.specs.format.Disk.{Disk, IsWholeImage, disk_of_image}
use Rattle.lfs_model.specs.declared.order.NameOrder.TheVariants.{LongerFirst}
use Rattle.lfs_tool.specs.declared.verdict.WrongNumber.{WrongNumber}
use Rattle.lfs_tool.specs.declared.verdict.CheckResult.{CheckResult}
use Rattle.lfs_tool.specs.declared.verdict.CheckResult.TheVariants as checked
use Rattle.lfs_tool.specs.declared.verdict.CheckedSizes.{CheckedSizes}
use Rattle.lfs_tool.specs.declared.verdict.RefusalReason.{RefusalReason}
use Rattle.lfs_tool.specs.declared.verdict.RefusalReason.TheVariants as reason

-- the bytes are a whole image, and P holds of its disk
abbrev pub HoldsOfImageDisk : ImageLayout → List ℕ → (Disk → Type 0) → Type 0
HoldsOfImageDisk layout image P = IsWholeImage layout.block_size layout.page image × P (disk_of_image layout.block_size layout.page layout.profile LongerFirst image)

-- the bytes are no more than the largest image has
abbrev pub FitsInLargestImage : List ℕ → Type 0
FitsInLargestImage image = length image ≤ 268435456

-- no number of a superblock is wrong, unless the bytes are more than the largest image has
abbrev pub NoWrongSuperblockField : ImageLayout → List ℕ → Type 0
NoWrongSuperblockField layout image = FitsInLargestImage image → SuperblocksAreRight image layout.block_size layout.profile.versions

-- the number is wrong in a superblock of these bytes; None if no number is
abbrev pub IsWrongSuperblockField : ImageLayout → List ℕ → Option WrongNumber → Type 0
IsWrongSuperblockField layout image None = NoWrongSuperblockField layout image
IsWrongSuperblockField layout image (Some stated) = FitsInLargestImage image × HasWrongSuperblockField image layout.block_size layout.profile.versions stated

-- the reason is true of the refused bytes; a wrong number precedes any other reason
abbrev pub IsRefusalReason : ImageLayout → List ℕ → RefusalReason → Type 0
IsRefusalReason layout image (reason.WrongNumber stated) = IsWrongSuperblockField layout image (Some stated)
IsRefusalReason layout image reason.NoImage = IsWrongSuperblockField layout image None × ¬ IsWholeImage layout.block_size layout.page image
IsRefusalReason layout image (reason.Broken rule) = IsWrongSuperblockField layout image None × HoldsOfImageDisk layout image (λ disk. BreaksInSomeOrder disk rule.violation)

-- the sizes are those of the layout, with the numbers of bytes and of whole blocks, unless there are more bytes than the largest
-- image has
pub record AreCheckedSizes (layout : ImageLayout) (image : List ℕ) (given : CheckedSizes) : Type 0 where
  pub size_is : given.block_size ≡ layout.block_size
  pub page_is : given.page ≡ layout.page
  pub length_is : FitsInLargestImage image → given.size ≡ length image
  pub past_is : 268435456 < length image → 268435456 < given.size
  pub count_is : 0 < layout.block_size → FitsInLargestImage image → given.blocks ≡ length image / layout.block_size

-- the bytes aren't an image that is accepted in either order of names
abbrev pub AreRejectedBytes : ImageLayout → List ℕ → Type 0
AreRejectedBytes layout image = IsWholeImage layout.block_size layout.page image → IsRejectedDisk (disk_of_image layout.block_size layout.page layout.profile LongerFirst image)

-- The bytes are an accepted image, in these orders of names and with this summary; or they are refused, for this reason.
abbrev pub IsCheckResult : ImageLayout → List ℕ → CheckResult → Type 0
IsCheckResult layout image (checked.Accepted summary orders) = HoldsOfImageDisk layout image (λ disk. IsSummarized disk summary orders)
IsCheckResult layout image (checked.Refused reason given) = AreRejectedBytes layout image × IsRefusalReason layout image reason × AreCheckedSizes layout image given

abbrev pub is_accepted_result : CheckResult → Bool
is_accepted_result (checked.Accepted summary orders) = true
is_accepted_result (checked.Refused reason given) = false

-- the verdict on an image; None if the bytes are no image
abbrev pub IsBytesVerdict : ImageLayout → List ℕ → Option ImageVerdict → Type 0
IsBytesVerdict layout image None = ¬ IsWholeImage layout.block_size layout.page image
IsBytesVerdict layout image (Some verdict) = HoldsOfImageDisk layout image (λ disk. IsDiskVerdict disk verdict)
