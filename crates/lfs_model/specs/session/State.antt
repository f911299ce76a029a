-- A session over a disk: the data it uses from the disk, and when it fails.
use Rattle.std.specs.Prelude.{◌≡◌, Bool, true, false, if◌then◌else◌, List, [], Option, Some, None}
use Rattle.lfs_model.specs.format.Disk.{Disk, block_count}
use Rattle.lfs_model.specs.format.Thread.{Pair, pairs_gstate}
use Rattle.lfs_model.specs.tree.Tree.{Tree}
use Rattle.lfs_model.specs.tree.Shown.{used_blocks}
use Rattle.lfs_model.specs.tree.Profile.{IsWritable}
use Rattle.lfs_model.specs.session.Operations as ops
use Rattle.lfs_model.specs.session.Operations.{Operation, Reply, Failed}
use Rattle.lfs_model.specs.session.Session.{Session, DiskSummary}
use Rattle.lfs_model.specs.session.Effects.{operation_result}

-- The record `around` has the data of an accepted disk with the pairs `ps`.
pub record IsDiskSummary (disk : Disk) (ps : List Pair) (around : DiskSummary) : Type 0 where
  pub profile : around.profile ≡ disk.profile
  pub block_size : around.block_size ≡ disk.block_size
  pub page : around.page ≡ disk.page
  pub block_count : around.block_count ≡ block_count disk
  pub used : around.used ≡ used_blocks disk ps
  pub gstate : around.gstate ≡ pairs_gstate ps
  pub writable : (around.writable ≡ true → IsWritable disk ps) × (IsWritable disk ps → around.writable ≡ true)

-- A session fails if one of its calls has a device fault or runs out of memory, or if a remount
-- finds no accepted disk.
pub data SessionHealth : Type 0 where
  HasFailed : SessionHealth
  Healthy : (session : Session) → SessionHealth

-- The session right after a mount: no file is open.
abbrev pub mounted_session : Tree → Session
mounted_session tree = record { tree = tree; files = [] }

abbrev pub is_remount : Operation → Bool
is_remount ops.Remount = true
is_remount _ = false

-- The result of a remount that finds this tree on the disk. With None, the disk is accepted in
-- neither order of names: the remount fails, and there is no reply.
abbrev pub remount_result : Option Tree → Option Reply × SessionHealth
remount_result None = (None, HasFailed)
remount_result (Some tree) = (Some ops.Done, Healthy (mounted_session tree))

-- The reply to an operation other than a remount, and the state after it.
abbrev pub nonremount_result : DiskSummary → SessionHealth → Operation → Option Reply × SessionHealth
nonremount_result around HasFailed op = (Some (ops.Refused Failed), HasFailed)
nonremount_result around (Healthy s) op = (Some (operation_result around s op).0, Healthy (operation_result around s op).1)

-- The reply to an operation, or None if it returns an error instead, and the state after it.
-- `shown` is the tree that a remount finds.
abbrev pub result_and_health : DiskSummary → Option Tree → SessionHealth → Operation → Option Reply × SessionHealth
result_and_health around shown state op = if is_remount op then remount_result shown else nonremount_result around state op
