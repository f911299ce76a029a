-- What C gets of a change.
use Rattle.std.specs.Prelude.{ℕ, ℤ, ◌≡◌, ◌≤◌, pos, ◌-ℤ◌, IfSome, List, length, Option, None, Some, slice_get}
use Rattle.lfs_model.specs.session.History.{DeviceCall}
use Rattle.lfs_model.specs.session.History.DeviceCall.{Read, Program, Erase, Blank}
use Rattle.littlefs_values.specs.Buffers.{buffer_if_fitting}
use Rattle.littlefs_c.specs.ChangeLog.{history_writes}
use Rattle.littlefs_c.specs.Volumes.{WithCode}
use Rattle.littlefs_c.specs.declared.changes.Fetched.{Fetched}
use Rattle.littlefs_c.specs.declared.changes.Fetched.TheVariants as fetched
use Rattle.littlefs_c.specs.declared.changes.ChangeInfo.{ChangeInfo}
use Rattle.littlefs_c.specs.declared.mounted.Mounted.{Mounted}

-- ---- a change

-- the change is that program or erase
abbrev pub IsChangeInfo : DeviceCall → ChangeInfo → Type 0
IsChangeInfo (Read block off len) shown = ⊥
IsChangeInfo (Program block off bytes) shown = (shown.kind ≡ 1) × (shown.block ≡ block) × (shown.offset ≡ off) × (shown.len ≡ length bytes)
IsChangeInfo (Erase block) shown = (shown.kind ≡ 2) × (shown.block ≡ block) × (shown.offset ≡ 0) × (shown.len ≡ 0)
IsChangeInfo (Blank block off len) shown = ⊥

-- a buffer with the bytes of a program, if they fit
abbrev pub buffer_after_change : DeviceCall → List ℕ → List ℕ
buffer_after_change (Read block off len) buffer = buffer
buffer_after_change (Program block off bytes) buffer = buffer_if_fitting bytes buffer
buffer_after_change (Erase block) buffer = buffer
buffer_after_change (Blank block off len) buffer = buffer

-- C gets the call of that number, with its bytes, if they fit.
pub record FillsChangeInfo (calls : List DeviceCall) (number : ℕ) (shown : ChangeInfo) (buffer filled : List ℕ) : Type 0 where
  pub call : DeviceCall
  pub is : slice_get calls number ≡ Some call
  pub shows : IsChangeInfo call shown
  pub bytes : filled ≡ buffer_after_change call buffer

-- C gets the change of that number; or there are no more changes than so many; or it isn't kept
abbrev pub FetchesChange : List DeviceCall → ℕ → Fetched → ChangeInfo → ChangeInfo → List ℕ → List ℕ → Type 0
FetchesChange calls number fetched.Change old new buffer filled = FillsChangeInfo calls number new buffer filled
FetchesChange calls number fetched.NoneYet old new buffer filled = (length calls ≤ number) × (new ≡ old) × (filled ≡ buffer)
FetchesChange calls number fetched.NotKept old new buffer filled = (new ≡ old) × (filled ≡ buffer)

-- the number of the next change, if there are numbers
abbrev pub IsNextChange : List DeviceCall → Option ℕ → Type 0
IsNextChange calls number = IfSome number (λ n. n ≡ length calls)

-- ---- answers

-- minus 202, where a change isn't kept
abbrev pub lost_change_code : ℤ
lost_change_code = pos 0 -ℤ pos 202

abbrev pub code_of_fetch_result : Fetched → ℤ
code_of_fetch_result fetched.Change = pos 1
code_of_fetch_result fetched.NoneYet = pos 0
code_of_fetch_result fetched.NotKept = lost_change_code

abbrev pub next_change_code : Option ℕ → ℤ
next_change_code (Some n) = pos n
next_change_code None = lost_change_code

-- a fetch of a volume's change
abbrev pub IsFetchAnswer : ℕ → ChangeInfo → ChangeInfo → List ℕ → List ℕ → ℤ → Mounted → Mounted → Type 0
IsFetchAnswer number shown after buffer filled code old new = WithCode {X = Fetched} code_of_fetch_result (λ s answer. FetchesChange (history_writes s.tree.history) number answer shown after buffer filled) code old new

-- the number of a volume's next change
abbrev pub IsChangeNumber : ℤ → Mounted → Mounted → Type 0
IsChangeNumber code old new = WithCode {X = Option ℕ} next_change_code (λ s number. IsNextChange (history_writes s.tree.history) number) code old new
