-- The layout of an image, by its own superblock.
use Rattle.std.specs.Prelude.{◌≡◌, ◌*◌, ◌/◌, ℕ, List, min}
use Rattle.lfs_device.specs.declared.error.Error.{Error}
use Rattle.lfs_device.specs.declared.error.Error.TheVariants as error
use Rattle.lfs_model.specs.declared.limits.AcceptedVersions.TheVariants.{AlsoTwoOne}
use Rattle.lfs_model.specs.declared.limits.Profile.{Profile}
use Rattle.lfs_model.specs.format.EntryTypes.{SuperblockFields}
use Rattle.lfs_model.specs.tree.Profile.{profile_with_limits}
use Rattle.lfs_tag.specs.FieldsView.{superblock_view}
use Rattle.lfs_tag.specs.declared.fields.Superblock.{Superblock}
use Rattle.lfs_tool.specs.WrongNumbers.{IsFirstSuperblock, IsSuperblockAt}
use Rattle.lfs_tool.specs.declared.image_layout.ImageLayout.{ImageLayout}
use Rattle.lfs_tool.specs.declared.superblock_layouts.SuperblockLayout.{SuperblockLayout}
use Rattle.lfs_tool.specs.Sizes.{AreValidImageSizes, IsFirstBrokenRule}
use Rattle.lfs_tool.specs.declared.sizes.Sizes.{Sizes}
use Rattle.lfs_tool.specs.declared.sizes.SizeRule.{SizeRule}

-- a layout with the blocks of the superblock, in which a page is at most an eighth of a block
abbrev pub own_layout : ImageLayout → Superblock → SuperblockLayout
own_layout layout s = record {
  layout = record layout { block_size = s.block_size; page = min layout.page (s.block_size / 8) };
  size = s.block_size * s.block_count;
}

-- a profile with the limits of the superblock, if an image may have them; it accepts both versions
abbrev pub profile_with_superblock_limits : Profile → Superblock → Profile
profile_with_superblock_limits profile s = record (profile_with_limits (superblock_view s) profile) { versions = AlsoTwoOne }

abbrev pub superblock_layout_sizes : SuperblockLayout → Sizes
superblock_layout_sizes own = record { size = own.size; block_size = own.layout.block_size; page = own.layout.page }

-- the layout of `--auto`, by this superblock
abbrev pub superblock_layout_and_profile : ImageLayout → Superblock → SuperblockLayout
superblock_layout_and_profile layout s = own_layout (record layout { profile = profile_with_superblock_limits layout.profile s }) s

-- the layout has the blocks of the image's first superblock
abbrev pub HasSuperblockGeometry : List ℕ → ImageLayout → SuperblockLayout → Type 0
HasSuperblockGeometry head layout own = (s : Superblock) × (IsFirstSuperblock head s × (own ≡ own_layout layout s))

-- the layout is that of the image's first superblock, and there are images of its sizes
abbrev pub IsSuperblockLayout : List ℕ → ImageLayout → SuperblockLayout → Type 0
IsSuperblockLayout head layout own = (s : Superblock) × (IsFirstSuperblock head s × (own ≡ superblock_layout_and_profile layout s) × AreValidImageSizes (superblock_layout_sizes own))

-- block 0 doesn't begin with a superblock; or the sizes in the image's first superblock break a rule
abbrev pub IsSuperblockLayoutError : List ℕ → ImageLayout → Error → Type 0
IsSuperblockLayoutError head layout error.Corrupt = (fields : SuperblockFields) → ¬ IsSuperblockAt head 0 fields
IsSuperblockLayoutError head layout error.Invalid =
    (s : Superblock) × (IsFirstSuperblock head s × ((rule : SizeRule) × IsFirstBrokenRule (superblock_layout_sizes (superblock_layout_and_profile layout s)) rule))
IsSuperblockLayoutError head layout other = ⊥
