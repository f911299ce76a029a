-- Volumes on a fresh disk, for contracts that show the replies to their calls.
use Rattle.std.specs.Prelude.{ℕ, true, false, List, [], ◌∷◌, Some, codes}
use Rattle.lfs_model.specs.tree.Fresh.{empty_tree}
use Rattle.lfs_model.specs.session.Operations.{FlagsOfOpen, Reply}
use Rattle.lfs_model.specs.session.Session.{DiskSummary}
use Rattle.lfs_model.specs.examples.Sessions.{creating_flags, writable_summary}
use Rattle.lfs_volume.specs.Calls.{Call, call_result}
use Rattle.lfs_volume.specs.Volume.{Volume, opened_node}

-- an empty tree, and no open file
abbrev pub fresh_volume : Volume
fresh_volume = record { tree = empty_tree; nodes = []; handles = [] }

abbrev pub replies_from : DiskSummary → Volume → List Call → List Reply
replies_from around v [] = []
replies_from around v (call ∷ calls) = (call_result around v call).0 ∷ replies_from around (call_result around v call).1 calls

abbrev pub volume_after_calls : DiskSummary → Volume → List Call → Volume
volume_after_calls around v [] = v
volume_after_calls around v (call ∷ calls) = volume_after_calls around (call_result around v call).1 calls

-- the replies on a disk of `block_count` blocks of 128 bytes, of which two are used
abbrev pub volume_replies : ℕ → List Call → List Reply
volume_replies block_count calls = replies_from (writable_summary 128 16 block_count 2) fresh_volume calls

-- for reading and writing; creates a file that isn't there
abbrev pub new_flags : FlagsOfOpen
new_flags = record creating_flags { read = true }

abbrev pub volume_after : ℕ → List Call → Volume
volume_after block_count calls = volume_after_calls (writable_summary 128 16 block_count 2) fresh_volume calls

-- a file of four bytes that is open for reading and writing
abbrev pub volume_with_open_file : Volume
volume_with_open_file = record { tree = empty_tree; nodes = Some (opened_node (codes "/a") 4) ∷ []; handles = Some (record { node = 0; position = 0; reads = true; writes = true; appends = false }) ∷ [] }
