-- The programs and erases of a device, and those of them that are kept.
use Rattle.std.specs.Prelude.{ℕ, ◌≡◌, ◌+◌, ◌<◌, ◌^◌, ◌++◌, List, [], ◌∷◌, drop, length, map}
use Rattle.lfs_model.specs.session.History.{DeviceCall, CallEvent}
use Rattle.lfs_model.specs.session.History.DeviceCall.{Read, Program, Erase, Blank}
use Rattle.littlefs_c.specs.declared.notes.Change.{Change}
use Rattle.littlefs_c.specs.declared.notes.Change.TheVariants as change

abbrev pub change_call : Change → DeviceCall
change_call (change.Program block off bytes) = Program block off bytes.items
change_call (change.Erase block) = Erase block

-- the call, if it is a program or an erase
abbrev pub call_if_writing : DeviceCall → List DeviceCall
call_if_writing (Read block off len) = []
call_if_writing (Program block off bytes) = Program block off bytes ∷ []
call_if_writing (Erase block) = Erase block ∷ []
call_if_writing (Blank block off len) = []

-- the programs and erases of a history, the oldest first
abbrev pub history_writes : List CallEvent → List DeviceCall
history_writes [] = []
history_writes (e ∷ older) = history_writes older ++ call_if_writing e.call

-- The kept changes are the calls from the number `first` on, all of them and in order, as long as there are numbers for them.
abbrev pub AreRecordedChanges : ℕ → List Change → List DeviceCall → Type 0
AreRecordedChanges first kept calls = first < 2 ^ 62 → (first + length kept ≡ length calls) × (map change_call kept ≡ drop first calls)
