-- The blocks that a power loss in a call of the device may leave.
use Rattle.std.specs.Prelude.{ℕ, ◌≡◌, ◌⊎◌, Bool, true, false, List, Option, None}
use Rattle.std.specs.Option.{option_map}
use Rattle.lfs_model.specs.format.Blocks.{Blocks, block_bytes, overwritten_at, SameExcept}
use Rattle.lfs_model.specs.format.Log.{block_log}
use Rattle.lfs_model.specs.session.History.{DeviceCall, Read, Program, Erase, Blank, CallEvent}

-- Both blocks have the same log, or neither has one.
abbrev pub SameLog : List ℕ → List ℕ → Type 0
SameLog new old = block_log new ≡ block_log old

-- The block has no log.
abbrev pub HasNoLog : List ℕ → Type 0
HasNoLog block = block_log block ≡ None

-- The revision count of a block's log, or None if the block has no log.
abbrev pub log_revision : List ℕ → Option ℕ
log_revision block = option_map (λ log. log.revision) (block_log block)

-- The logs of both blocks have the same revision count, or neither block has a log.
abbrev pub SameRevision : List ℕ → List ℕ → Type 0
SameRevision new old = log_revision new ≡ log_revision old

-- A power loss in a program may leave `new`: its log is the one from before the program, or the one
-- from after the whole program. A program at offset 0 may leave no log.
abbrev pub MayProgramLeave : (off : ℕ) (bytes old new : List ℕ) → Type 0
MayProgramLeave off bytes old new = SameLog new old ⊎ (SameLog new (overwritten_at old off bytes) ⊎ ((off ≡ 0) × HasNoLog new))

-- An erase, complete or cut short by a power loss, may leave `new`: it has no log, or one with the
-- revision count of the old log.
abbrev pub MayEraseLeave : (old new : List ℕ) → Type 0
MayEraseLeave old new = SameRevision new old ⊎ HasNoLog new

-- A power loss in the call may leave the blocks `disk`: a read or a blank check changes nothing,
-- and a program or an erase changes only its block, as `MayProgramLeave` or `MayEraseLeave` allows.
abbrev pub power_loss_may_leave : DeviceCall → Blocks → Blocks → Type 0
power_loss_may_leave (Read block off len) before disk = disk ≡ before
power_loss_may_leave (Program block off bytes) before disk = SameExcept block before disk × MayProgramLeave off bytes (block_bytes before block) (block_bytes disk block)
power_loss_may_leave (Erase block) before disk = SameExcept block before disk × MayEraseLeave (block_bytes before block) (block_bytes disk block)
power_loss_may_leave (Blank block off len) before disk = disk ≡ before

-- A power loss in the call `e` may leave the blocks `disk`.
abbrev pub LeftByLoss : CallEvent → Blocks → Type 0
LeftByLoss e disk = power_loss_may_leave e.call e.before disk

-- A successful erase leaves a block without a log, or with a log that has the revision count of the
-- old one. Devices may behave otherwise, since an erase may leave any bytes, so each guarantee
-- about power losses has this premise.
abbrev pub erases_cleanly : DeviceCall → Bool → Blocks → Blocks → Type 0
erases_cleanly (Read block off len) failed before after = Unit {0}
erases_cleanly (Program block off bytes) failed before after = Unit {0}
erases_cleanly (Erase block) true before after = Unit {0}
erases_cleanly (Erase block) false before after = MayEraseLeave (block_bytes before block) (block_bytes after block)
erases_cleanly (Blank block off len) failed before after = Unit {0}

-- The call, if it is a successful erase, leaves no log or one with the old revision count.
abbrev pub ErasesCleanly : CallEvent → Type 0
ErasesCleanly e = erases_cleanly e.call e.failed e.before e.after
