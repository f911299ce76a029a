-- The calls of a device so far, the newest first, and what follows from them.
use Rattle.std.specs.Prelude.{◌≡◌, ◌≢◌, All, ◌≤◌, ◌<◌, ℕ, ◌+◌, Bool, true, false, not, ◌&&◌, if◌then◌else◌, ◌==◌, nat_le, nat_lt, List, [], ◌∷◌, ◌++◌, length}
use Rattle.lfs_model.specs.format.Blocks.{Blocks, SameExcept}

-- A call of a device. `Blank` is a blank check: unless it fails, the device confirms that bytes of
-- a block are unprogrammed. A check with the answer no isn't in a history.
pub data DeviceCall : Type 0 where
  Read : (block off len : ℕ) → DeviceCall
  Program : (block off : ℕ) (bytes : List ℕ) → DeviceCall
  Erase : (block : ℕ) → DeviceCall
  Blank : (block off len : ℕ) → DeviceCall

-- A call, with the blocks before and after it, and whether it failed.
pub record CallEvent : Type 0 where
  pub call : DeviceCall
  pub before : Blocks
  pub after : Blocks
  pub failed : Bool

abbrev pub call_event : DeviceCall → Blocks → Blocks → Bool → CallEvent
call_event call before after failed = record { call = call; before = before; after = after; failed = failed }

-- 1 for a read, 0 for any other call.
abbrev pub call_reads : DeviceCall → ℕ
call_reads (Read block off len) = 1
call_reads (Program block off bytes) = 0
call_reads (Erase block) = 0
call_reads (Blank block off len) = 0

-- 1 for a program, 0 for any other call.
abbrev pub call_programs : DeviceCall → ℕ
call_programs (Read block off len) = 0
call_programs (Program block off bytes) = 1
call_programs (Erase block) = 0
call_programs (Blank block off len) = 0

-- 1 for an erase, 0 for any other call.
abbrev pub call_erases : DeviceCall → ℕ
call_erases (Read block off len) = 0
call_erases (Program block off bytes) = 0
call_erases (Erase block) = 1
call_erases (Blank block off len) = 0

-- 1 for a blank check, 0 for any other call.
abbrev pub call_blank_answers : DeviceCall → ℕ
call_blank_answers (Read block off len) = 0
call_blank_answers (Program block off bytes) = 0
call_blank_answers (Erase block) = 0
call_blank_answers (Blank block off len) = 1

-- The number of reads in a history.
abbrev pub read_count : List CallEvent → ℕ
read_count [] = 0
read_count (e ∷ older) = read_count older + call_reads e.call

-- The number of programs in a history.
abbrev pub program_count : List CallEvent → ℕ
program_count [] = 0
program_count (e ∷ older) = program_count older + call_programs e.call

-- The number of erases in a history.
abbrev pub erase_count : List CallEvent → ℕ
erase_count [] = 0
erase_count (e ∷ older) = erase_count older + call_erases e.call

-- The number of blank checks in a history.
abbrev pub blank_answer_count : List CallEvent → ℕ
blank_answer_count [] = 0
blank_answer_count (e ∷ older) = blank_answer_count older + call_blank_answers e.call

-- The number of failed calls in a history.
abbrev pub fault_count : List CallEvent → ℕ
fault_count [] = 0
fault_count (e ∷ older) = fault_count older + (if e.failed then 1 else 0)

-- Whether byte `k` of block `b` is unprogrammed after a call, given whether it `was` before.
abbrev pub unprogrammed_after : DeviceCall → Bool → ℕ → ℕ → Bool → Bool
unprogrammed_after (Read block off len) failed b k was = was
unprogrammed_after (Program block off bytes) failed b k was = was && not (b == block && nat_le off k && nat_lt k (off + length bytes))
unprogrammed_after (Erase block) failed b k was = if b == block then not failed else was
unprogrammed_after (Blank block off len) failed b k was = if not failed && (b == block && nat_le off k && nat_lt k (off + len)) then true else was

-- Whether byte `k` of block `b` is unprogrammed. With no calls yet, every byte counts as
-- programmed.
abbrev pub is_unprogrammed_byte : List CallEvent → ℕ → ℕ → Bool
is_unprogrammed_byte [] b k = false
is_unprogrammed_byte (e ∷ older) b k = unprogrammed_after e.call e.failed b k (is_unprogrammed_byte older b k)

-- The bytes of block `b` from offset `low` up to, but not including, `high` are unprogrammed.
abbrev pub AreUnprogrammed : List CallEvent → ℕ → ℕ → ℕ → Type 0
AreUnprogrammed history b low high = (k : ℕ) → low ≤ k → k < high → is_unprogrammed_byte history b k ≡ true

-- Every byte outside the blocks `bs` that was unprogrammed after `old` is unprogrammed after `new`.
pub record OthersStayUnprogrammed (bs : List ℕ) (old new : List CallEvent) : Type 0 where
  pub stays : (b k : ℕ) → All (λ c. c ≢ b) bs → is_unprogrammed_byte old b k ≡ true → is_unprogrammed_byte new b k ≡ true

-- Every call of a history has the property `P`.
abbrev pub AllCalls : (CallEvent → Type 0) → List CallEvent → Type 0
AllCalls P [] = Unit {0}
AllCalls P (e ∷ older) = P e × AllCalls P older

-- The history `new` continues `old`, and every call since has the property `P`.
pub record AllCallsSince (P : CallEvent → Type 0) (old new : List CallEvent) : Type 0 where
  pub events : List CallEvent
  pub extends : new ≡ events ++ old
  pub each : AllCalls P events

-- The call is a read, and the device holds `blocks` before and after it.
pub record IsRead (blocks : Blocks) (e : CallEvent) : Type 0 where
  pub reads : call_reads e.call ≡ 1
  pub before : e.before ≡ blocks
  pub after : e.after ≡ blocks

-- All calls since the history `old` are reads, and the device holds `blocks` throughout.
abbrev pub OnlyReadsSince : Blocks → List CallEvent → List CallEvent → Type 0
OnlyReadsSince blocks old new = AllCallsSince (IsRead blocks) old new

-- A power loss during the call may, at worst, leave the blocks `disk`: after a program or an erase,
-- its block may hold any bytes.
abbrev pub may_leave_at_worst : DeviceCall → Blocks → Blocks → Type 0
may_leave_at_worst (Read block off len) before disk = disk ≡ before
may_leave_at_worst (Program block off bytes) before disk = SameExcept block before disk
may_leave_at_worst (Erase block) before disk = SameExcept block before disk
may_leave_at_worst (Blank block off len) before disk = disk ≡ before

-- A power loss in the call `e` may, at worst, leave the blocks `disk`.
abbrev pub LossLeavesAtWorst : CallEvent → Blocks → Type 0
LossLeavesAtWorst e disk = may_leave_at_worst e.call e.before disk

-- Every disk that a power loss during a call since `old` may leave has the property `P`. The
-- relation `stops` holds if a power loss in a call may leave a disk.
abbrev pub HoldsAtLosses : (CallEvent → Blocks → Type 0) → List CallEvent → List CallEvent → (Blocks → Type 0) → Type 0
HoldsAtLosses stops old new P = AllCallsSince (λ e. (disk : Blocks) → stops e disk → P disk) old new

-- The history with another outcome of its newest call: the blocks after it, and whether it failed.
abbrev pub history_with_outcome : List CallEvent → Blocks → Bool → List CallEvent
history_with_outcome [] after failed = []
history_with_outcome (e ∷ older) after failed = call_event e.call e.before after failed ∷ older

-- The newest call, if there is one, left `blocks`.
abbrev pub LeftByLatestCall : List CallEvent → Blocks → Type 0
LeftByLatestCall history blocks = (e : CallEvent) (older : List CallEvent) → history ≡ e ∷ older → e.after ≡ blocks
