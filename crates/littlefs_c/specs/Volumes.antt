-- What a call does to a volume that C holds.
use Rattle.std.specs.Prelude.{Bool, ℕ, ℤ, ◌≡◌, ◌≤◌, pos, [], List, length, drop, take, MatchResult, Option, Vec, None, Some, Result, Ok, Err}
use Rattle.lfs_device.specs.declared.error.Error.{Error}
use Rattle.lfs_model.specs.format.Blocks.{overwritten_at}
use Rattle.lfs_model.specs.format.Disk.{Disk, IsWholeImage, disk_of_image}
use Rattle.lfs_model.specs.session.Operations as ops
use Rattle.lfs_model.specs.session.Operations.{Operation, Reply}
use Rattle.lfs_lookup.specs.Finds.{stat_view}
use Rattle.lfs_lookup.specs.declared.kinds.ListItem.{ListItem}
use Rattle.lfs_lookup.specs.declared.kinds.Stat.{Stat}
use Rattle.lfs_fs.specs.Replies.{reply_from}
use Rattle.lfs_fs.specs.SessionView.{SessionView}
use Rattle.lfs_volume.specs.Calls as calls
use Rattle.lfs_volume.specs.Calls.{Call}
use Rattle.lfs_volume.specs.SessionCalls.{error_result}
use Rattle.lfs_volume.specs.Volume.{VolumeView}
use Rattle.lfs_volume.specs.VolumeCalls.{IsVolumeRemount, IsSessionCall, IsVolumeCall}
use Rattle.littlefs_values.specs.Buffers.{FillsWithLines, buffer_if_fitting, filled_buffer}
use Rattle.littlefs_values.specs.Codes.{bool_number, closed_code, result_code, stat_number}
use Rattle.littlefs_c.specs.Directories.{ClosesDirectory, IsListing, StoresOpenDirectory, ReadsDirectory, RewindsDirectory, SeeksDirectory, ReturnsDirectoryPosition}
use Rattle.littlefs_c.specs.declared.entry_infos.EntryInfo.{EntryInfo}
use Rattle.littlefs_c.specs.declared.mounted.Mounted.{Mounted}
use Rattle.std.specs.Global.{Global}

-- Nothing is mounted before or after, and the code says so; or something is before and after, and P holds of them.
abbrev pub CallsVolume : (Mounted → Mounted → Type 0) → ℤ → Option Mounted → Option Mounted → Type 0
CallsVolume P code None None = code ≡ closed_code
CallsVolume P code (Some old) (Some new) = P old new
CallsVolume P code old new = ⊥

-- ---- calls with a number alone

-- The volume goes from one view to the other by P of a result that has this code. Open directories stay.
abbrev pub IsCodedCall : {X : Type 0} → (X → ℕ) → (VolumeView → Result Reply Error → VolumeView → Type 0) → (X → Reply) → ℤ → Mounted → Mounted → Type 0
IsCodedCall {X} number P reply code old new =
    (new.directories ≡ old.directories) × ((r : Result X Error) × ((code ≡ result_code number r) × P old.volume (reply_from reply r) new.volume))

-- the volume's call, of those that return nothing or a number
abbrev pub IsUnitCall : Call → ℤ → Mounted → Mounted → Type 0
IsUnitCall call code old new = IsCodedCall {X = Unit} (λ _. 0) (λ v r w. IsVolumeCall v call r w) (λ _. ops.Done) code old new

abbrev pub IsCountCall : Call → (ℕ → Reply) → ℤ → Mounted → Mounted → Type 0
IsCountCall call reply code old new = IsCodedCall {X = ℕ} (λ n. n) (λ v r w. IsVolumeCall v call r w) reply code old new

-- the same of calls that are one operation of the session
abbrev pub IsUnitOperation : Operation → ℤ → Mounted → Mounted → Type 0
IsUnitOperation op code old new = IsCodedCall {X = Unit} (λ _. 0) (λ v r w. IsSessionCall v op r w) (λ _. ops.Done) code old new

abbrev pub IsCountOperation : Operation → (ℕ → Reply) → ℤ → Mounted → Mounted → Type 0
IsCountOperation op reply code old new = IsCodedCall {X = ℕ} (λ n. n) (λ v r w. IsSessionCall v op r w) reply code old new

abbrev pub IsStatCall : List ℕ → ℤ → Mounted → Mounted → Type 0
IsStatCall path code old new = IsCodedCall {X = Stat} stat_number (λ v r w. IsSessionCall v (ops.Stat path) r w) (λ stat. ops.StatIs (stat_view stat)) code old new

-- the same of a question
abbrev pub IsBoolCall : Operation → (Bool → Reply) → ℤ → Mounted → Mounted → Type 0
IsBoolCall op reply code old new = IsCodedCall {X = Bool} bool_number (λ v r w. IsSessionCall v op r w) reply code old new

-- the volume's remount, whose result has this code; no directory is open then
abbrev pub IsRemountCall : ℤ → Mounted → Mounted → Type 0
IsRemountCall code old new =
    (new.directories.items ≡ []) × ((r : Result Unit Error) × ((code ≡ result_code (λ _. 0) r) × IsVolumeRemount old.volume (reply_from (λ _. ops.Done) r) new.volume))

-- ---- calls with a buffer

-- a volume's call of that operation, whose bytes are put into a buffer
abbrev pub IsBytesCall : Operation → ℤ → List ℕ → List ℕ → Mounted → Mounted → Type 0
IsBytesCall op code buffer filled old new =
    (new.directories ≡ old.directories) × ((r : Result (Vec ℕ Global) Error) × ((code ≡ result_code (λ (v : Vec ℕ Global). length v.items) r) × ((filled ≡ filled_buffer r buffer) × IsSessionCall old.volume op (reply_from (λ (v : Vec ℕ Global). ops.Bytes v.items) r) new.volume)))

-- the result of a read that left so many bytes at the beginning of a buffer
abbrev pub read_result : Result ℕ Error → List ℕ → Result Reply Error
read_result (Ok n) filled = Ok (ops.Bytes (take n filled))
read_result (Err e) filled = error_result e

-- A volume's read of an open file into a buffer, whose rest stays. All of it stays after an error.
abbrev pub IsReadCall : ℕ → ℤ → List ℕ → List ℕ → Mounted → Mounted → Type 0
IsReadCall file code buffer filled old new =
    (new.directories ≡ old.directories) × ((r : Result ℕ Error) × ((code ≡ result_code (λ n. n) r)
    × (MatchResult r (λ n. (n ≤ length buffer) × (drop n filled ≡ drop n buffer)) (λ e. filled ≡ buffer) × IsVolumeCall old.volume (calls.Read file (length buffer)) (read_result r filled) new.volume)))

-- a listing, whose lines are put into a buffer
abbrev pub IsListCall : List ℕ → ℤ → List ℕ → List ℕ → Mounted → Mounted → Type 0
IsListCall path code buffer filled old new =
    (new.directories ≡ old.directories) × ((r : Result (Vec ListItem Global) Error) × ((t : Result ℕ Error) × ((code ≡ result_code (λ n. n) t) × (FillsWithLines r t buffer filled × IsListing path r old.volume new.volume))))

-- ---- directories

-- a directory is opened: a listing is kept
abbrev pub IsDirOpen : List ℕ → ℤ → Mounted → Mounted → Type 0
IsDirOpen path code old new =
    (r : Result (Vec ListItem Global) Error) × ((t : Result ℕ Error) × ((code ≡ result_code (λ n. n) t) × (StoresOpenDirectory path r t old.directories.items new.directories.items × IsListing path r old.volume new.volume)))

-- a call of open directories alone, whose result has this code
abbrev pub IsDirCall : {X : Type 0} → (X → ℕ) → (Result X Error → Mounted → Mounted → Type 0) → ℤ → Mounted → Mounted → Type 0
IsDirCall {X} number P code old new = (new.volume ≡ old.volume) × ((r : Result X Error) × ((code ≡ result_code number r) × P r old new))

abbrev pub IsDirRead : ℕ → EntryInfo → EntryInfo → List ℕ → List ℕ → ℤ → Mounted → Mounted → Type 0
IsDirRead dir before after name filled code old new =
    IsDirCall {X = Bool} bool_number (λ r m n. ReadsDirectory dir r m.directories.items n.directories.items before after name filled) code old new

abbrev pub IsDirSeek : ℕ → ℕ → ℤ → Mounted → Mounted → Type 0
IsDirSeek dir position code old new = IsDirCall {X = Unit} (λ _. 0) (λ r m n. SeeksDirectory dir position r m.directories.items n.directories.items) code old new

abbrev pub IsDirTell : ℕ → ℤ → Mounted → Mounted → Type 0
IsDirTell dir code old new = IsDirCall {X = ℕ} (λ n. n) (λ r m n. (n.directories ≡ m.directories) × ReturnsDirectoryPosition dir m.directories.items r) code old new

abbrev pub IsDirClose : ℕ → ℤ → Mounted → Mounted → Type 0
IsDirClose dir code old new = IsDirCall {X = Unit} (λ _. 0) (λ r m n. ClosesDirectory dir r m.directories.items n.directories.items) code old new

abbrev pub IsDirRewind : ℕ → ℤ → Mounted → Mounted → Type 0
IsDirRewind dir code old new =
    (r : Result Unit Error) × ((code ≡ result_code (λ _. 0) r) × RewindsDirectory dir r old.volume old.directories.items new.volume new.directories.items)

-- ---- calls of the library alone

-- all stays, and P holds of the session and of an answer with this code
abbrev pub WithCode : {X : Type 0} → (X → ℤ) → (SessionView → X → Type 0) → ℤ → Mounted → Mounted → Type 0
WithCode {X} number P code old new = (new ≡ old) × ((x : X) × ((code ≡ number x) × P old.volume.session x))

-- ---- the image

-- The bytes are an image whose disk is that one.
pub record IsDiskImage (disk : Disk) (bytes : List ℕ) : Type 0 where
  pub whole : IsWholeImage disk.block_size disk.page bytes
  pub holds : disk ≡ disk_of_image disk.block_size disk.page disk.profile disk.order bytes

-- The buffer has the image of the session, if it fits, which takes that room.
pub record CopiesImage (s : SessionView) (room : ℕ) (buffer filled : List ℕ) : Type 0 where
  pub bytes : List ℕ
  pub image : IsDiskImage s.tree.disk bytes
  pub takes : room ≡ length bytes
  pub copied : filled ≡ buffer_if_fitting bytes buffer

-- The buffer begins with as many bytes of the session's image as it has room for, from an offset on.
pub record CopiesImageRange (s : SessionView) (offset count : ℕ) (buffer filled : List ℕ) : Type 0 where
  pub bytes : List ℕ
  pub image : IsDiskImage s.tree.disk bytes
  pub takes : count ≡ length (take (length buffer) (drop offset bytes))
  pub copied : filled ≡ overwritten_at buffer 0 (take (length buffer) (drop offset bytes))

-- all stays, and P holds of the session and the code
abbrev pub IsAnswerFromSession : (SessionView → ℕ → Type 0) → ℤ → Mounted → Mounted → Type 0
IsAnswerFromSession P code old new = (new ≡ old) × ((n : ℕ) × ((code ≡ pos n) × P old.volume.session n))
