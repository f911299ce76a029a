-- What a call does to a session that C holds.
use Rattle.std.specs.Prelude.{ℕ, ℤ, Bool, ◌≡◌, ◌≤◌, ◌↔◌, IsTrue, true, pos, List, length, drop, take, map, MatchResult, Option, Box, Vec, None, Some, Result, Ok, Err}
use Rattle.std.specs.Option.{option_map}
use Rattle.lfs_device.specs.declared.error.Error.{Error}
use Rattle.lfs_model.specs.session.Operations as ops
use Rattle.lfs_model.specs.session.Operations.{Operation, Reply}
use Rattle.lfs_lookup.specs.Finds.{listed_item_view, stat_view}
use Rattle.lfs_lookup.specs.RefusalErrors.{is_refusal}
use Rattle.lfs_lookup.specs.declared.kinds.ListItem.{ListItem}
use Rattle.lfs_lookup.specs.declared.kinds.Stat.{Stat}
use Rattle.lfs_model.specs.declared.breaches.ProfileBreach.{ProfileBreach}
use Rattle.lfs_model.specs.format.EntryTypes.{SuperblockFields}
use Rattle.lfs_model.specs.tree.Profile.{image_superblock_fields}
use Rattle.lfs_fs.specs.CallEffects.{IsCall}
use Rattle.lfs_fs.specs.GstateView.{returned_gstate_reply}
use Rattle.lfs_fs.specs.ImageLimits.{FailedByRead, OnlyReadsSession}
use Rattle.lfs_fs.specs.ReadOnly.{IsReadOnlyReason, IsWritableSession}
use Rattle.lfs_fs.specs.Replies.{reply_from}
use Rattle.lfs_fs.specs.SessionView.{SessionView}
use Rattle.lfs_fs.specs.declared.gstate.Gstate.{Gstate}
use Rattle.littlefs_values.specs.Buffers.{FillsWithLines, filled_buffer}
use Rattle.littlefs_values.specs.declared.info.FsInfo.{FsInfo}
use Rattle.littlefs_values.specs.Codes.{bool_number, closed_code, result_code, stat_number}
use Rattle.littlefs_flash.specs.Codes.{gstate_number, order_number, optional_breach_number}
use Rattle.std.specs.Global.{Global}

-- There is no session before or after, and the code says so; or there is one before and after, and P holds of them.
abbrev pub IsCallOnSession : (SessionView → SessionView → Type 0) → ℤ → Option SessionView → Option SessionView → Type 0
IsCallOnSession P code None None = code ≡ closed_code
IsCallOnSession P code (Some old) (Some new) = P old new
IsCallOnSession P code old new = ⊥

-- the value in a box, if there is one
abbrev pub boxed_value : {X : Type 0} → Option (Box X Global) → Option X
boxed_value held = option_map (λ b. b.value) held

-- the same of a session in a box
abbrev pub IsCallOnBox : (SessionView → SessionView → Type 0) → ℤ → Option (Box SessionView Global) → Option (Box SessionView Global) → Type 0
IsCallOnBox P code old new = IsCallOnSession P code (boxed_value old) (boxed_value new)

-- ---- calls with a number alone

-- a session's call of that operation, whose result has this code
abbrev pub IsCodedCall : {X : Type 0} → (X → ℕ) → Operation → (X → Reply) → ℤ → SessionView → SessionView → Type 0
IsCodedCall {X} number op reply code old new = (r : Result X Error) × ((code ≡ result_code number r) × IsCall old op (reply_from reply r) new)

-- the same of calls that return nothing, a number, or a file's or a directory's size
abbrev pub IsUnitCall : Operation → ℤ → SessionView → SessionView → Type 0
IsUnitCall op code old new = IsCodedCall {X = Unit} (λ _. 0) op (λ _. ops.Done) code old new

abbrev pub IsCountCall : Operation → (ℕ → Reply) → ℤ → SessionView → SessionView → Type 0
IsCountCall op reply code old new = IsCodedCall {X = ℕ} (λ n. n) op reply code old new

abbrev pub IsStatCall : List ℕ → ℤ → SessionView → SessionView → Type 0
IsStatCall path code old new = IsCodedCall {X = Stat} stat_number (ops.Stat path) (λ stat. ops.StatIs (stat_view stat)) code old new

-- the same of a question about a block, and of what a recovery has to end
abbrev pub IsUsedCall : ℕ → ℤ → SessionView → SessionView → Type 0
IsUsedCall block code old new = IsCodedCall {X = Bool} bool_number (ops.IsUsed block) ops.Yes code old new

abbrev pub IsGstateCall : ℤ → SessionView → SessionView → Type 0
IsGstateCall code old new = IsCodedCall {X = Gstate} gstate_number ops.AskGstate returned_gstate_reply code old new

-- ---- calls with a buffer

-- a session's call of that operation, whose bytes are copied to a buffer
abbrev pub IsBytesCall : Operation → ℤ → List ℕ → List ℕ → SessionView → SessionView → Type 0
IsBytesCall op code buffer filled old new = (r : Result (Vec ℕ Global) Error) × ((code ≡ result_code (λ (v : Vec ℕ Global). length v.items) r) × ((filled ≡ filled_buffer r buffer) × IsCall old op (reply_from (λ (v : Vec ℕ Global). ops.Bytes v.items) r) new))

-- A session's read of an open file into a buffer, whose rest stays. All of it stays if the read is refused.
abbrev pub IsReadCall : ℕ → ℤ → List ℕ → List ℕ → SessionView → SessionView → Type 0
IsReadCall file code buffer filled old new = (r : Result ℕ Error) × ((code ≡ result_code (λ n. n) r) × (MatchResult r (λ n. (n ≤ length buffer) × (drop n filled ≡ drop n buffer)) (λ e. is_refusal e ≡ true → filled ≡ buffer) × IsCall old (ops.Read file (length buffer)) (reply_from (λ n. ops.Bytes (take n filled)) r) new))

-- a session's listing, whose lines are copied to a buffer
abbrev pub IsListCall : List ℕ → ℤ → List ℕ → List ℕ → SessionView → SessionView → Type 0
IsListCall path code buffer filled old new = (r : Result (Vec ListItem Global) Error) × ((t : Result ℕ Error) × ((code ≡ result_code (λ n. n) t) × (FillsWithLines r t buffer filled × IsCall old (ops.ListAll path) (reply_from (λ (items : Vec ListItem Global). ops.Items (map listed_item_view items.items)) r) new)))

-- ---- calls of the library alone

-- the session stays, and P holds of it and of an answer with this code
abbrev pub WithCode : {X : Type 0} → (X → ℤ) → (SessionView → X → Type 0) → ℤ → SessionView → SessionView → Type 0
WithCode {X} number P code old new = (new ≡ old) × ((x : X) × ((code ≡ number x) × P old x))

-- an answer about an open file
abbrev pub IsFileAnswer : (SessionView → Result ℕ Error → Type 0) → ℤ → SessionView → SessionView → Type 0
IsFileAnswer P code old new = WithCode {X = Result ℕ Error} (λ r. result_code (λ n. n) r) P code old new

-- the answer whether a session may write, and the one that tells its image's order of names
abbrev pub IsWritableAnswer : ℤ → SessionView → SessionView → Type 0
IsWritableAnswer code old new = WithCode {X = Bool} (λ b. pos (bool_number b)) (λ s b. IsTrue b ↔ IsWritableSession s) code old new

abbrev pub IsOrderAnswer : ℤ → SessionView → SessionView → Type 0
IsOrderAnswer code old new = (new ≡ old) × (code ≡ pos (order_number old.tree.disk.order))

-- ---- the reason why an image is read only

-- The answer is that the session may write, or a rule that its image breaks, and the session was only read; or it failed by a read.
abbrev pub ReadsReason : Result (Option ProfileBreach) Error → SessionView → SessionView → Type 0
ReadsReason (Ok reason) old new = IsReadOnlyReason old reason × OnlyReadsSession old new
ReadsReason (Err e) old new = FailedByRead old new e

-- the same of an answer with this code; a session that may write stays
abbrev pub IsReasonCall : ℤ → SessionView → SessionView → Type 0
IsReasonCall code old new = (r : Result (Option ProfileBreach) Error) × ((code ≡ result_code optional_breach_number r) × (ReadsReason r old new × (IsWritableSession old → new ≡ old)))

-- ---- the superblock

abbrev pub info_fields : FsInfo → SuperblockFields
info_fields i = record {
  version = i.version;
  block_size = i.block_size;
  block_count = i.block_count;
  name_max = i.name_max;
  file_max = i.file_max;
  attr_max = i.attr_max;
}

-- The fields are those of the image's superblock, and the session was only read; or they are as they were, and the session failed by a read.
abbrev pub ReadsInfo : Result Unit Error → FsInfo → FsInfo → SessionView → SessionView → Type 0
ReadsInfo (Ok x) info filled old new = (image_superblock_fields old.tree.pairs ≡ Some (info_fields filled)) × OnlyReadsSession old new
ReadsInfo (Err e) info filled old new = (filled ≡ info) × FailedByRead old new e

-- the same of a result with this code
abbrev pub IsInfoCall : FsInfo → FsInfo → ℤ → SessionView → SessionView → Type 0
IsInfoCall info filled code old new = (r : Result Unit Error) × ((code ≡ result_code (λ _. 0) r) × ReadsInfo r info filled old new)
