-- What is made of a source, and why nothing is.
use Rattle.std.specs.Prelude.{ℕ, ◌≡◌, ◌*◌, Bool, false, List, length, Option, Result, Err, IfSome}
use Rattle.std.specs.Io.KnownBytes.{Appends}
use Rattle.lfs_model.specs.format.Disk.{IsWholeImage, block_count, disk_of_image}
use Rattle.lfs_model.specs.tree.Fresh.{IsFreshDisk, empty_tree}
use Rattle.lfs_model.specs.layers.Listing.{AreCopyOperations}
use Rattle.lfs_model.specs.session.Operations.{Operation}
use Rattle.lfs_model.specs.session.Run.{SystemState}
use Rattle.lfs_model.specs.format.Slots.{zero_gstate}
use Rattle.lfs_model.specs.layers.Source.{TreeSource, IsSourceTree}
use Rattle.lfs_model.specs.session.State.{Healthy, mounted_session}
use Rattle.lfs_model.specs.format.Thread.{Pair, pairs_gstate}
use Rattle.lfs_model.specs.tree.Tree.{Tree}
use Rattle.lfs_model.specs.tree.View.{IsAccepted}
use Rattle.lfs_model.specs.declared.order.NameOrder.{NameOrder}
use Rattle.lfs_model.specs.tree.Profile.{IsWritable}
use Rattle.lfs_model.specs.tree.Shown.{disk_tree}
use Rattle.lfs_device.specs.declared.error.Error.{Error}
use Rattle.lfs_device.specs.declared.geometry.Geometry.{Geometry}
use Rattle.lfs_tool.specs.declared.errors.ToolError.{ToolError}
use Rattle.lfs_tool.specs.declared.errors.ToolError.TheVariants.{Input}
use Rattle.lfs_tool.specs.KnownBytes.{AppendsPrefix}
use Rattle.lfs_tool_run.specs.AppliedOperations.{AreApplied, IsFirstRefusal, entries_operations}
use Rattle.lfs_tool.specs.SourceEntries.{AreSourceEntries, HasFaultOr, HasBadNames}
use Rattle.lfs_tool.specs.declared.entries.SourceEntry.{SourceEntry}

-- ---- a run

-- A session begins on a fresh disk of the geometry, with its names in that order.
pub record IsFreshSession (geometry : Geometry) (order : NameOrder) (from : SystemState) : Type 0 where
  pub fresh : IsFreshDisk from.disk
  pub block_size : from.disk.block_size ≡ geometry.block_size
  pub page : from.disk.page ≡ geometry.page
  pub order_is : from.disk.order ≡ order
  pub profile : from.disk.profile ≡ geometry.profile
  pub count : block_count from.disk ≡ geometry.block_count
  pub mounts : from.state ≡ Healthy (mounted_session empty_tree)

-- A session that began so has performed the operations of the entries, none of them refused.
pub record HasCopiedEntries (geometry : Geometry) (order : NameOrder) (entries : List SourceEntry) (to : SystemState) : Type 0 where
  pub from : SystemState
  pub begins : IsFreshSession geometry order from
  pub carried : AreApplied from (entries_operations entries) to

-- These are the bytes of the disk that the operations of the entries leave, none of them refused.
pub record AreImageBytes (geometry : Geometry) (order : NameOrder) (entries : List SourceEntry) (bytes : List ℕ) : Type 0 where
  pub from : SystemState
  pub begins : IsFreshSession geometry order from
  pub to : SystemState
  pub carried : AreApplied from (entries_operations entries) to
  pub len : length bytes ≡ geometry.block_size * geometry.block_count
  pub disk : to.disk ≡ disk_of_image geometry.block_size geometry.page geometry.profile order bytes

-- An operation of the entries is refused, and this is the first refusal.
pub record IsFirstEntriesRefusal (geometry : Geometry) (order : NameOrder) (entries : List SourceEntry) (e : Error) : Type 0 where
  pub from : SystemState
  pub begins : IsFreshSession geometry order from
  pub first : IsFirstRefusal from (entries_operations entries) e

-- These operations copy the source's tree, where it is known what the source shows.
abbrev pub AreSourceCopyOperations : Option TreeSource → List Operation → Type 0
AreSourceCopyOperations known operations = IfSome known (λ s. (tree : Tree) × (IsSourceTree s tree × AreCopyOperations tree operations))

-- ---- an image

-- An image of the geometry that is accepted, in the writing profile, without a delta of the global state, and shows the
-- source's tree.
pub record IsSourceImage (geometry : Geometry) (order : NameOrder) (known : Option TreeSource) (bytes : List ℕ) : Type 0 where
  pub len : length bytes ≡ geometry.block_size * geometry.block_count
  pub image : IsWholeImage geometry.block_size geometry.page bytes
  pub pairs : List Pair
  pub accepted : IsAccepted (disk_of_image geometry.block_size geometry.page geometry.profile order bytes) pairs
  pub writable : IsWritable (disk_of_image geometry.block_size geometry.page geometry.profile order bytes) pairs
  pub gstate : pairs_gstate pairs ≡ zero_gstate
  pub tree : IfSome known (λ s. IsSourceTree s (disk_tree (disk_of_image geometry.block_size geometry.page geometry.profile order bytes) pairs))

-- of each source that has these entries its tree is copied, and this is an image of it
abbrev pub IsImageOfSource : Geometry → NameOrder → List SourceEntry → List ℕ → Type 0
IsImageOfSource geometry order entries image = (known : Option TreeSource) → AreSourceEntries known entries → AreSourceCopyOperations known (entries_operations entries) × IsSourceImage geometry order known image

-- what is known to be written grew by one image of the entries
abbrev pub HasWrittenImage : Geometry → NameOrder → List SourceEntry → Option (List ℕ) → Option (List ℕ) → Type 0
HasWrittenImage geometry order entries old new = (image : List ℕ) × (AreImageBytes geometry order entries image × (IsImageOfSource geometry order entries image × Appends old new image))

-- what is known to be written grew by a beginning of one
abbrev pub HasWrittenImagePrefix : Geometry → NameOrder → List SourceEntry → Option (List ℕ) → Option (List ℕ) → Type 0
HasWrittenImagePrefix geometry order entries old new = (image : List ℕ) × (AreImageBytes geometry order entries image × (IsImageOfSource geometry order entries image × AppendsPrefix old new image))

-- `Input` comes if the source's last call failed, or if it didn't and a folder in it has bad names. After any other result it
-- didn't fail.
abbrev pub ReportsSourceFaults : {X : Type 0} → Bool → Option TreeSource → Result X ToolError → Type 0
ReportsSourceFaults failed known (Err Input) = HasFaultOr failed (IfSome known HasBadNames)
ReportsSourceFaults failed known other = failed ≡ false
