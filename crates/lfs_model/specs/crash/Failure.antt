-- Operations that an error ends without a reply: the device had a fault, memory ran out, or a
-- remount found no accepted disk.
use Rattle.std.specs.Prelude.{◌≡◌, true, false, List, [], ◌++◌}
use Rattle.lfs_model.specs.format.Disk.{SameGeometry}
use Rattle.lfs_model.specs.format.Thread.{Pair}
use Rattle.lfs_model.specs.tree.View.{IsAccepted}
use Rattle.lfs_model.specs.tree.Profile.{IsWritable}
use Rattle.lfs_model.specs.session.History.{AllCalls, CallEvent, IsRead}
use Rattle.lfs_model.specs.session.Operations.{Operation}
use Rattle.lfs_model.specs.session.Session.{Session}
use Rattle.lfs_model.specs.session.State.{HasFailed, Healthy, is_remount}
use Rattle.lfs_model.specs.session.Run.{SystemState, is_read_only, renames_itself, IsUntouched}

-- The session failed in the operation. A query, a rename of a path to itself and a remount write
-- nothing, and neither does any operation on an image outside the writing profile. A remount only
-- reads. A session that had failed before makes no calls except for a remount.
pub record OperationFails (from : SystemState) (op : Operation) (to : SystemState) : Type 0 where
  pub failed : to.state ≡ HasFailed
  pub geometry : SameGeometry from.disk to.disk
  pub calls : List CallEvent
  pub called : to.calls ≡ calls ++ from.calls
  pub asks : (s : Session) → from.state ≡ Healthy s → is_read_only s op ≡ true → IsUntouched from.disk calls to.disk
  pub itself : renames_itself op ≡ true → IsUntouched from.disk calls to.disk
  pub unwritten : ((ps : List Pair) → IsAccepted from.disk ps → IsWritable from.disk ps → ⊥) → IsUntouched from.disk calls to.disk
  pub remounted : is_remount op ≡ true → IsUntouched from.disk calls to.disk
  pub reads : is_remount op ≡ true → AllCalls (IsRead from.disk.blocks) calls
  pub silent : from.state ≡ HasFailed → is_remount op ≡ false → (to.disk ≡ from.disk) × (calls ≡ [])
