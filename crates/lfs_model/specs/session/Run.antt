-- A session over a device: operations in order, the reply to each, and its effect on the disk.
use Rattle.std.specs.Prelude.{ℕ, ◌≡◌, ◌==◌, Bool, true, false, not, if◌then◌else◌, List, [], ◌∷◌, ◌++◌, length, Option, Some, None, is_some}
use Rattle.lfs_model.specs.declared.order.NameOrder.{NameOrder}
use Rattle.lfs_model.specs.declared.order.NameOrder.TheVariants.{LongerFirst, ShorterFirst}
use Rattle.lfs_model.specs.format.Disk.{Disk, SameGeometry, disk_with_order}
use Rattle.lfs_model.specs.format.Slots.{zero_gstate}
use Rattle.lfs_model.specs.format.Thread.{Pair, pairs_gstate}
use Rattle.lfs_model.specs.tree.Tree.{Tree}
use Rattle.lfs_model.specs.session.TreeEdits.{same_path}
use Rattle.lfs_model.specs.tree.View.{DiskView, HasDiskView, IsAccepted}
use Rattle.lfs_model.specs.tree.Profile.{IsWritable}
use Rattle.lfs_model.specs.tree.Shown.{disk_tree}
use Rattle.lfs_model.specs.session.History.{AllCalls, CallEvent, IsRead, program_count, erase_count}
use Rattle.lfs_model.specs.session.Operations as ops
use Rattle.lfs_model.specs.session.Operations.{Operation, Reply}
use Rattle.lfs_model.specs.session.Session.{Session, DiskSummary, OpenFile, Reading, Writing, FileWriter, file_reader, file_writer, file_numbered}
use Rattle.lfs_model.specs.session.Refusals.{path_or_root}
use Rattle.lfs_model.specs.session.State.{IsDiskSummary, SessionHealth, HasFailed, Healthy, is_remount, result_and_health}
use Rattle.lfs_model.specs.session.Recovery.{IsRecovered, recovers_first}
use Rattle.lfs_model.specs.session.Moved.{IsLayoutAfterRelocation}

-- The state between two operations: the disk, the device's calls so far, the newest first, and the
-- session.
pub record SystemState : Type 0 where
  pub disk : Disk
  pub calls : List CallEvent
  pub state : SessionHealth

-- The disk shows this tree. With None, it is accepted in neither order of names.
abbrev pub ShowsTree : Disk → Option Tree → Type 0
ShowsTree disk None = (order : NameOrder) (ps : List Pair) → IsAccepted (disk_with_order order disk) ps → ⊥
ShowsTree disk (Some tree) = (ps : List Pair) × (IsAccepted disk ps × (tree ≡ disk_tree disk ps))

-- A healthy session has the disk's tree.
abbrev pub HealthyHasDiskTree : Disk → SessionHealth → Type 0
HealthyHasDiskTree disk HasFailed = Unit {0}
HealthyHasDiskTree disk (Healthy session) = ShowsTree disk (Some session.tree)

-- The reply and the state `after` are those defined for the operation on this disk. A remount reads
-- the disk with its names in the order `order`.
pub record IsReply (disk : Disk) (order : NameOrder) (state : SessionHealth) (op : Operation) (reply : Reply) (after : SessionHealth) : Type 0 where
  pub around : DiskSummary
  pub shown : Option Tree
  pub surrounds : (session : Session) → state ≡ Healthy session → (ps : List Pair) × (IsAccepted disk ps × IsDiskSummary disk ps around)
  pub shows : is_remount op ≡ true → ShowsTree (disk_with_order order disk) shown
  pub answers : result_and_health around shown state op ≡ (Some reply, after)

abbrev pub is_refusal : Reply → Bool
is_refusal (ops.Refused error) = true
is_refusal _ = false

-- ---- which operations leave the device alone

-- Whether the file is open for writing, with contents that aren't in the tree yet.
abbrev pub is_dirty : Option OpenFile → Bool
is_dirty None = false
is_dirty (Some (Reading r)) = false
is_dirty (Some (Writing w)) = w.dirty

-- Whether the operation only queries, moves a position, opens or closes a reader, or remounts.
abbrev pub is_read_only : Session → Operation → Bool
is_read_only s (ops.Open path flags) = not flags.write
is_read_only s (ops.Read fd count) = true
is_read_only s (ops.Seek fd position) = true
is_read_only s (ops.Close fd) = is_some (file_reader (file_numbered s.files fd))
is_read_only s (ops.ListAll path) = true
is_read_only s (ops.Stat path) = true
is_read_only s (ops.GetAttr path kind) = true
is_read_only s ops.AskGstate = true
is_read_only s (ops.IsUsed block) = true
is_read_only s ops.UsedCount = true
is_read_only s ops.Remount = true
is_read_only s _ = false

-- Whether the operation opens a file that already exists.
abbrev pub opens_existing_file : Session → Operation → Bool
opens_existing_file s (ops.Open path flags) = is_some (s.tree (path_or_root path))
opens_existing_file s _ = false

-- Whether the operation changes the contents of a writer, and thus writes only to blocks outside
-- the tree.
abbrev pub writes_or_truncates : Operation → Bool
writes_or_truncates (ops.Write fd bytes) = true
writes_or_truncates (ops.Truncate fd size) = true
writes_or_truncates _ = false

-- Whether the file is open for writing, and its contents already have this size.
abbrev pub has_size : Option FileWriter → ℕ → Bool
has_size None size = false
has_size (Some w) size = size == length w.contents

-- Whether the operation needs no call of the device: it writes no bytes, the size stays, the file
-- isn't dirty, or the session knows the answer.
abbrev pub needs_no_device : Session → Operation → Bool
needs_no_device s (ops.Write fd []) = true
needs_no_device s (ops.Truncate fd size) = has_size (file_writer (file_numbered s.files fd)) size
needs_no_device s (ops.Sync fd) = not (is_dirty (file_numbered s.files fd))
needs_no_device s (ops.Close fd) = not (is_dirty (file_numbered s.files fd))
needs_no_device s ops.AskGstate = true
needs_no_device s (ops.IsUsed block) = true
needs_no_device s ops.UsedCount = true
needs_no_device s _ = false

-- Whether the operation renames a path to itself.
abbrev pub renames_itself : Operation → Bool
renames_itself (ops.Rename old new) = same_path (path_or_root old) (path_or_root new)
renames_itself _ = false

abbrev pub is_recover : Operation → Bool
is_recover ops.Recover = true
is_recover _ = false

-- Whether the operation changes slots.
abbrev pub edits_slots : Session → Operation → Bool
edits_slots s (ops.Sync fd) = is_dirty (file_numbered s.files fd)
edits_slots s (ops.Close fd) = is_dirty (file_numbered s.files fd)
edits_slots s op = recovers_first op

-- No call is a program or an erase.
abbrev pub WriteNothing : List CallEvent → Type 0
WriteNothing calls = (program_count calls ≡ 0) × (erase_count calls ≡ 0)

-- The calls wrote nothing, and the disk is unchanged.
abbrev pub IsUntouched : Disk → List CallEvent → Disk → Type 0
IsUntouched disk calls new = (new ≡ disk) × WriteNothing calls

-- The disk that an operation works on. A remount may change the order of names to `order`.
abbrev pub operation_disk : Operation → NameOrder → Disk → Disk
operation_disk op order disk = if is_remount op then disk_with_order order disk else disk

-- A remount only reads, and finds the order of names. If the disk is accepted in both orders, the
-- longer names come first.
pub record IsRemountedDisk (disk : Disk) (calls : List CallEvent) (new : Disk) : Type 0 where
  pub untouched : IsUntouched (disk_with_order new.order disk) calls new
  pub reads : AllCalls (IsRead disk.blocks) calls
  pub longer : new.order ≡ ShorterFirst → (ps : List Pair) → IsAccepted (disk_with_order LongerFirst disk) ps → ⊥

-- ---- an operation

-- An accepted operation of a healthy session changes the disk, by these calls, only as follows. The
-- pairs are `ps` before it, and `qs` after it.
pub record IsDiskEffect (disk : Disk) (ps : List Pair) (s : Session) (op : Operation) (calls : List CallEvent) (new : Disk) (qs : List Pair) : Type 0 where
  -- Operations that write nothing.
  pub asks : is_read_only s op ≡ true → IsUntouched (operation_disk op new.order disk) calls new
  pub opens : opens_existing_file s op ≡ true → pairs_gstate ps ≡ zero_gstate → new ≡ disk
  pub itself : renames_itself op ≡ true → IsUntouched disk calls new
  pub nothing_left : is_recover op ≡ true → IsRecovered ps → IsUntouched disk calls new
  pub silent : needs_no_device s op ≡ true → (new ≡ disk) × (calls ≡ [])
  -- Writes and truncations change no pair, and nothing that the disk shows.
  pub fills : writes_or_truncates op ≡ true → (qs ≡ ps) × ((view : DiskView) → HasDiskView disk view → HasDiskView new view)
  -- Nothing is left to recover after these operations.
  pub recovered : recovers_first op ≡ true → IsRecovered qs
  pub stays : IsRecovered ps → IsRecovered qs
  pub profile : IsWritable disk ps → IsWritable new qs

-- The operation has this effect on the disk, and if it changes slots, they are laid out as defined.
pub record IsDiskEffectWithLayout (disk : Disk) (ps : List Pair) (s : Session) (op : Operation) (calls : List CallEvent) (new : Disk) (qs : List Pair) : Type 0 where
  pub effect : IsDiskEffect disk ps s op calls new qs
  pub arranged : edits_slots s op ≡ true → IsLayoutAfterRelocation disk ps s op calls new qs

-- A relation of a disk, its pairs, a session, an operation, its calls, and the disk and its pairs
-- after the operation.
abbrev pub EffectRelation : Type 1
EffectRelation = Disk → List Pair → Session → Operation → List CallEvent → Disk → List Pair → Type 0

-- One operation leads from the state `from` to the state `to`. If it is accepted, it has the effect
-- `Effect` on the disk.
pub record IsStepWith (Effect : EffectRelation) (from : SystemState) (op : Operation) (reply : Reply) (to : SystemState) : Type 0 where
  pub answered : IsReply from.disk to.disk.order from.state op reply to.state
  pub agrees : HealthyHasDiskTree to.disk to.state
  pub geometry : SameGeometry (operation_disk op to.disk.order from.disk) to.disk
  pub calls : List CallEvent
  pub called : to.calls ≡ calls ++ from.calls
  pub refused : is_refusal reply ≡ true → IsUntouched from.disk calls to.disk
  pub remounted : is_remount op ≡ true → IsRemountedDisk from.disk calls to.disk
  pub failed : is_remount op ≡ false → from.state ≡ HasFailed → calls ≡ []
  pub effect_on_disk : is_refusal reply ≡ false → (s : Session) → from.state ≡ Healthy s → (ps qs : List Pair)
      → IsAccepted from.disk ps → IsAccepted to.disk qs → Effect from.disk ps s op calls to.disk qs

-- One operation leads from one state to the other, with its effect on the tree that the disk shows.
abbrev pub IsTreeStep : SystemState → Operation → Reply → SystemState → Type 0
IsTreeStep from op reply to = IsStepWith IsDiskEffect from op reply to

-- One operation leads from one state to the other, with its effect on the tree and on the layout of
-- the slots.
abbrev pub IsStep : SystemState → Operation → Reply → SystemState → Type 0
IsStep from op reply to = IsStepWith IsDiskEffectWithLayout from op reply to

-- The operations, in order and with these replies, lead from one state to the other.
abbrev pub AreSteps : SystemState → List Operation → List Reply → SystemState → Type 0
AreSteps from [] [] to = from ≡ to
AreSteps from [] (reply ∷ replies) to = ⊥
AreSteps from (op ∷ operations) [] to = ⊥
AreSteps from (op ∷ operations) (reply ∷ replies) to = (next : SystemState) × (IsStep from op reply next × AreSteps next operations replies to)
