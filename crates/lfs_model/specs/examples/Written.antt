-- A file `b` that is written, synced, closed, renamed to `c` and removed: the disk and the session
-- after each operation.
use Rattle.std.specs.Prelude.{List, [], ◌∷◌, ◌++◌, ℕ, true, false, take, None, codes}
use Rattle.lfs_model.specs.format.Disk.{Disk, default_profile}
use Rattle.lfs_model.specs.format.Thread.{Pair, superblock_pair_address}
use Rattle.lfs_model.specs.session.History.{CallEvent, Program, call_event}
use Rattle.lfs_model.specs.session.Operations as ops
use Rattle.lfs_model.specs.session.Operations.{Operation}
use Rattle.lfs_model.specs.session.Session.{Session}
use Rattle.lfs_model.specs.session.Effects.{operation_effect}
use Rattle.lfs_model.specs.session.State.{Healthy, mounted_session}
use Rattle.lfs_model.specs.session.Run.{SystemState}
use Rattle.lfs_model.specs.tree.Fresh.{empty_tree, superblock_slot}
use Rattle.lfs_model.specs.layers.BlockBytes.{block_padded, unwritten_bytes}
use Rattle.lfs_model.specs.examples.Images.{large_disk_with, large_commit, shifting_commits}
use Rattle.lfs_model.specs.examples.Sessions.{writable_summary, creating_flags, write_flags}
use Rattle.lfs_model.specs.examples.Runs.{image_after_open, state_after_open, pair_with_tail, example_tail}

-- The session after an operation that isn't refused.
abbrev pub session_after_effect : Session → Operation → Session
session_after_effect s op = (operation_effect (writable_summary 4096 256 16 2) s op).1

-- ---- what each operation commits

-- The commit of the sync: the contents `hi` of `b`.
abbrev pub synced_commit : List ℕ
synced_commit =
    0x70 ∷ 0x1f ∷ 0xf8 ∷ 0xed ∷ codes "hi" ++  -- 0x20100402 XOR 0x500ffcef: an inline struct of id 1
    0x70 ∷ 0x1f ∷ 0xf8 ∷ 0xf4 ∷  -- 0x500ffcf6 XOR 0x20100402: a checksum entry of 246 bytes
    0xf3 ∷ 0xd6 ∷ 0xc9 ∷ 0xbd ∷ unwritten_bytes 242

-- The commit of the rename from `b` to `c`.
abbrev pub renamed_commit : List ℕ
renamed_commit =
    0x10 ∷ 0x1f ∷ 0xf4 ∷ 0xf6 ∷  -- 0x40100800 XOR 0x500ffcf6: create id 2
    0x40 ∷ 0x00 ∷ 0x00 ∷ 0x01 ∷ codes "c" ++  -- a file's name of id 2
    0x20 ∷ 0x00 ∷ 0x00 ∷ 0x03 ∷ codes "hi" ++  -- an inline struct of id 2
    0x6f ∷ 0xe0 ∷ 0x0c ∷ 0x02 ∷  -- 0x4ff00400 XOR 0x20100802: delete id 1
    0x1f ∷ 0xff ∷ 0xf8 ∷ 0xe9 ∷  -- 0x500ffce9 XOR 0x4ff00400: a checksum entry of 233 bytes
    0x3d ∷ 0x90 ∷ 0xba ∷ 0xb3 ∷ unwritten_bytes 229

-- The commit of the removal of `c`.
abbrev pub removed_commit : List ℕ
removed_commit =
    0x1f ∷ 0xff ∷ 0xf8 ∷ 0xe9 ∷  -- 0x4ff00400 XOR 0x500ffce9: delete id 1
    0x1f ∷ 0xff ∷ 0xf8 ∷ 0xf8 ∷  -- 0x500ffcf8 XOR 0x4ff00400: a checksum entry of 248 bytes
    0x44 ∷ 0x15 ∷ 0x94 ∷ 0xa8 ∷ unwritten_bytes 244

-- The disk whose root block has the commit of the open, and these commits after it.
abbrev pub image_with_commits : List ℕ → Disk
image_with_commits commits = large_disk_with (block_padded 4096 (large_commit ++ take 256 shifting_commits ++ commits) ∷ [])

abbrev pub image_after_sync : Disk
image_after_sync = image_with_commits synced_commit

abbrev pub image_after_rename : Disk
image_after_rename = image_with_commits (synced_commit ++ renamed_commit)

abbrev pub image_after_remove : Disk
image_after_remove = image_with_commits (synced_commit ++ renamed_commit ++ removed_commit)

-- The program of `bytes` at the offset `off` of block 0, from one disk to the other.
abbrev pub programming : ℕ → List ℕ → Disk → Disk → CallEvent
programming off bytes disk new = call_event (Program 0 off bytes) disk.blocks new.blocks false

-- ---- the session after each

abbrev pub opened_session : Session
opened_session = session_after_effect (mounted_session empty_tree) (ops.Open (codes "/b") creating_flags)

abbrev pub written_session : Session
written_session = session_after_effect opened_session (ops.Write 0 (codes "hi"))

abbrev pub synced_session : Session
synced_session = session_after_effect written_session (ops.Sync 0)

abbrev pub closed_session : Session
closed_session = session_after_effect synced_session (ops.Close 0)

abbrev pub renamed_session : Session
renamed_session = session_after_effect closed_session (ops.Rename (codes "/b") (codes "/c"))

abbrev pub removed_session : Session
removed_session = session_after_effect renamed_session (ops.Remove (codes "/c"))

-- The session after the closed file `b` is opened again for writing.
abbrev pub reopened_session : Session
reopened_session = session_after_effect closed_session (ops.Open (codes "/b") write_flags)

-- The state after the write, whose bytes are still in memory.
abbrev pub state_after_write : SystemState
state_after_write = record state_after_open { state = Healthy written_session }

abbrev pub state_after_sync : SystemState
state_after_sync = record { disk = image_after_sync; calls = programming 512 synced_commit image_after_open image_after_sync ∷ state_after_open.calls; state = Healthy synced_session }

abbrev pub state_after_close : SystemState
state_after_close = record state_after_sync { state = Healthy closed_session }

abbrev pub state_after_reopen : SystemState
state_after_reopen = record state_after_sync { state = Healthy reopened_session }

abbrev pub state_after_rename : SystemState
state_after_rename = record { disk = image_after_rename; calls = programming 768 renamed_commit image_after_sync image_after_rename ∷ state_after_sync.calls; state = Healthy renamed_session }

abbrev pub state_after_remove : SystemState
state_after_remove = record { disk = image_after_remove; calls = programming 1024 removed_commit image_after_rename image_after_remove ∷ state_after_rename.calls; state = Healthy removed_session }

-- The pairs of a root: one with the superblock, and one without slots.
abbrev pub root_and_empty_pair : List Pair
root_and_empty_pair = pair_with_tail superblock_pair_address (superblock_slot default_profile 4096 16 ∷ []) (example_tail true (2, 3)) ∷ pair_with_tail (2, 3) [] None ∷ []
