-- The summary of an accepted image.
use Rattle.std.specs.Prelude.{ℕ, ◌≡◌, ◌≢◌, ◌+◌, ◌/◌, ◌==◌, ◌||◌, if◌then◌else◌, nat_lt, min, not, Bool, true, false, List, Option, None, Some, length, count_by, option_map}
use Rattle.lfs_model.specs.format.Disk.{disk_with_order, Disk, block_count, default_profile}
use Rattle.lfs_model.specs.layers.Listing.{PathNode, IsTreeWalk}
use Rattle.lfs_model.specs.tree.Profile.{image_superblock_fields}
use Rattle.lfs_model.specs.layers.ProfileBreaches.{IsBreachIfAny}
use Rattle.lfs_model.specs.tree.Shown.{disk_tree, used_blocks}
use Rattle.lfs_model.specs.format.Slots.{Gstate, Struct, Inline, Ctz, Branch, no_move_kind}
use Rattle.lfs_model.specs.format.Tag.{tag_data_limit}
use Rattle.lfs_model.specs.format.Thread.{Pair, pairs_gstate}
use Rattle.lfs_model.specs.tree.Tree.{Node, FileNode, DirectoryNode}
use Rattle.lfs_model.specs.tree.View.{IsAccepted}
use Rattle.lfs_model.specs.declared.limits.Profile.{Profile}
use Rattle.lfs_model.specs.declared.order.NameOrder.{NameOrder}
use Rattle.lfs_model.specs.declared.order.NameOrder.TheVariants as order
use Rattle.lfs_tag.specs.FieldsView.{superblock_view}
use Rattle.lfs_tag.specs.declared.fields.Superblock.{Superblock}
use Rattle.lfs_lookup.specs.Items.{owned_view}
use Rattle.lfs_lookup.specs.declared.walks.TreeItem.{TreeItem}
use Rattle.lfs_tool.specs.declared.verdict.ImageSummary.{ImageSummary}
use Rattle.lfs_tool.specs.declared.verdict.AcceptedOrders.{AcceptedOrders}
use Rattle.lfs_tool.specs.declared.verdict.AcceptedOrders.TheVariants as orders

-- ---- files and directories

abbrev pub is_file_node : Node → Bool
is_file_node (FileNode attributes bytes) = true
is_file_node (DirectoryNode attributes names) = false

abbrev pub is_file_entry : PathNode → Bool
is_file_entry e = is_file_node e.node

abbrev pub is_file_struct : Struct → Bool
is_file_struct (Inline bytes) = true
is_file_struct (Ctz head size) = true
is_file_struct (Branch to) = false

abbrev pub is_file_item : TreeItem → Bool
is_file_item i = is_file_struct (owned_view i.structure)

-- ---- an accepted image

-- the global state has an operation to complete
abbrev pub gstate_needs_recovery : Gstate → Bool
gstate_needs_recovery g = g.sync || not (g.kind == no_move_kind)

-- by the default profile no superblock is reported, and by any other one that at the beginning of the root directory
abbrev pub IsReportedSuperblock : Profile → List Pair → Option Superblock → Type 0
IsReportedSuperblock profile ps told = (profile ≡ default_profile → told ≡ None) × (profile ≢ default_profile → option_map superblock_view told ≡ image_superblock_fields ps)

-- the profile's own limit of inline files, if it is less than that of the blocks
abbrev pub lowered_inline_max : Profile → ℕ → Option ℕ
lowered_inline_max profile block_size = if nat_lt profile.inline_max (min (block_size / 8) tag_data_limit) then Some profile.inline_max else None

-- the summary of the image of these pairs: all entries beneath its root are files or directories
pub record HasSummary (disk : Disk) (ps : List Pair) (c : ImageSummary) : Type 0 where
  pub entries : List PathNode
  pub walk : IsTreeWalk (disk_tree disk ps) entries
  pub files : c.files ≡ count_by is_file_entry entries
  pub all : c.files + c.directories ≡ length entries
  pub used : c.used ≡ length (used_blocks disk ps)
  pub blocks : c.blocks ≡ block_count disk
  pub recover : c.recover ≡ gstate_needs_recovery (pairs_gstate ps)
  pub superblock : IsReportedSuperblock disk.profile ps c.superblock
  pub inline_max : c.inline_max ≡ lowered_inline_max disk.profile disk.block_size
  pub breach : IsBreachIfAny disk ps c.breach

-- ---- orders of names

abbrev pub AcceptedInOrder : NameOrder → Disk → Type 0
AcceptedInOrder o disk = (ps : List Pair) × IsAccepted (disk_with_order o disk) ps

-- the image is accepted in these orders of names, and in no other
abbrev pub HasAcceptedOrders : Disk → AcceptedOrders → Type 0
HasAcceptedOrders disk orders.LongerFirst = AcceptedInOrder order.LongerFirst disk × ¬ AcceptedInOrder order.ShorterFirst disk
HasAcceptedOrders disk orders.ShorterFirst = (¬ AcceptedInOrder order.LongerFirst disk) × AcceptedInOrder order.ShorterFirst disk
HasAcceptedOrders disk orders.Either = AcceptedInOrder order.LongerFirst disk × AcceptedInOrder order.ShorterFirst disk
