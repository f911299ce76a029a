-- The refusal of an operation: the first check that fails, in a fixed order.
use Rattle.std.specs.Prelude.{ℕ, ◌+◌, Bool, true, false, not, ◌&&◌, ◌||◌, ◌==◌, nat_le, nat_lt, if◌then◌else◌, List, [], ◌∷◌, length, Option, Some, None, is_some, is_none, unwrap_or}
use Rattle.std.specs.List.{list_any}
use Rattle.lfs_model.specs.format.Disk.{profile_file_max, profile_attr_max}
use Rattle.lfs_model.specs.format.Content.{attribute_bytes, attributes_with}
use Rattle.lfs_model.specs.tree.Tree.{Path}
use Rattle.lfs_model.specs.session.Operations as ops
use Rattle.lfs_model.specs.session.Operations.{Refusal, NoEnt, BadFile, Busy, Exist, NotDir, IsDir, Invalid, TooBig, NoSpace, ReadOnly, NameTooLong, NotEmpty, NoAttr, EntryFull, FlagsOfOpen, Operation, parse_path}
use Rattle.lfs_model.specs.session.TreeEdits.{same_path, without_prefix, is_beneath, last_name, is_directory, is_file, node_attributes_of, file_bytes, directory_names}
use Rattle.lfs_model.specs.session.Session.{Session, DiskSummary, FileWriter, file_numbered, file_reader, file_writer, has_open_file, all_readers, all_writers, refuse_if, first_refusal, parents_refusal, flags_allowed, has_long_name, lacks_room, overfills_disk, exceeds_half_pair}
use Rattle.lfs_model.specs.session.Writers.{write_position, writer_after_write, truncated_writer, opened_writer}

abbrev pub is_root_path : Path → Bool
is_root_path [] = true
is_root_path (name ∷ p) = false

-- Whether the path is invalid, or the root, which is no entry.
abbrev pub path_unusable : Option Path → Bool
path_unusable None = true
path_unusable (Some p) = is_root_path p

-- The path that `bytes` denotes, or the root if it is invalid.
abbrev pub path_or_root : List ℕ → Path
path_or_root bytes = unwrap_or (parse_path bytes) []

-- The refusal of an open. `given` is None if the path is invalid, and then `p` is the root.
abbrev pub open_refusal : DiskSummary → Session → Option Path → Path → FlagsOfOpen → Option Refusal
open_refusal around s given p flags = first_refusal (
    refuse_if (flags.write && not around.writable) ReadOnly
    ∷ refuse_if (is_none given || not (flags_allowed flags)) Invalid
    ∷ parents_refusal s.tree [] p
    ∷ refuse_if (is_none (s.tree p) && flags.create && has_long_name around p) NameTooLong
    ∷ refuse_if (is_none (s.tree p) && not flags.create) NoEnt
    ∷ refuse_if (is_some (s.tree p) && flags.exclusive) Exist
    ∷ refuse_if (is_directory (s.tree p)) IsDir
    ∷ refuse_if (if flags.write
    then nat_lt 0 (length (all_writers s.files)) || has_open_file (same_path p) s.files
    else list_any (λ w. same_path p w.path) (all_writers s.files) || nat_le 16 (length (all_readers s.files))) Busy
    ∷ refuse_if (is_none (s.tree p) && exceeds_half_pair around (last_name p) []) EntryFull
    ∷ refuse_if (is_none (s.tree p) && lacks_room around s.files 2) NoSpace
    ∷ refuse_if (flags.truncate && overfills_disk around (opened_writer p flags (file_bytes (s.tree p)))) NoSpace
    ∷ [])

-- The refusal of a rename. `given_old` and `given_new` are None if that path is invalid.
abbrev pub rename_refusal : DiskSummary → Session → Option Path → Option Path → Path → Path → Option Refusal
rename_refusal around s given_old given_new old new = first_refusal (
    refuse_if (not around.writable) ReadOnly
    ∷ refuse_if (path_unusable given_old || path_unusable given_new || is_beneath old new) Invalid
    ∷ parents_refusal s.tree [] old
    ∷ parents_refusal s.tree [] new
    ∷ refuse_if (has_long_name around new) NameTooLong
    ∷ refuse_if (is_none (s.tree old)) NoEnt
    ∷ refuse_if (not (same_path old new) && is_directory (s.tree old) && is_file (s.tree new)) NotDir
    ∷ refuse_if (not (same_path old new) && is_file (s.tree old) && is_directory (s.tree new)) IsDir
    ∷ refuse_if (not (same_path old new) && nat_lt 0 (length (directory_names (s.tree new)))) NotEmpty
    ∷ refuse_if (has_open_file (λ p. is_some (without_prefix old p) || same_path new p) s.files) Busy
    ∷ refuse_if (not (same_path old new) && exceeds_half_pair around (last_name new) (node_attributes_of (s.tree old))) EntryFull
    ∷ refuse_if (lacks_room around s.files 2) NoSpace
    ∷ [])

-- The refusal by the first check that fails, or None if all checks pass.
abbrev pub operation_refusal : DiskSummary → Session → Operation → Option Refusal
operation_refusal around s (ops.Open path flags) = open_refusal around s (parse_path path) (path_or_root path) flags
operation_refusal around s (ops.Read fd count) = refuse_if (is_none (file_reader (file_numbered s.files fd))) BadFile
operation_refusal around s (ops.Write fd bytes) = write_refusal (file_writer (file_numbered s.files fd))
  where
    write_refusal : Option FileWriter → Option Refusal
    write_refusal None = Some BadFile
    write_refusal (Some w) = first_refusal (
        refuse_if (nat_lt 0 (length bytes) && nat_lt (profile_file_max around.profile) (write_position w + length bytes)) TooBig
        ∷ refuse_if (nat_lt 0 (length bytes) && overfills_disk around (writer_after_write w bytes)) NoSpace
        ∷ [])
operation_refusal around s (ops.Seek fd position) = first_refusal (
    refuse_if (is_none (file_numbered s.files fd)) BadFile
    ∷ refuse_if (nat_lt (profile_file_max around.profile) position) Invalid
    ∷ [])
operation_refusal around s (ops.Truncate fd size) = truncate_refusal (file_writer (file_numbered s.files fd))
  where
    truncate_refusal : Option FileWriter → Option Refusal
    truncate_refusal None = Some BadFile
    truncate_refusal (Some w) = first_refusal (
        refuse_if (nat_lt (profile_file_max around.profile) size) TooBig
        ∷ refuse_if (not (size == length w.contents) && overfills_disk around (truncated_writer w size)) NoSpace
        ∷ [])
operation_refusal around s (ops.Sync fd) = refuse_if (is_none (file_numbered s.files fd)) BadFile
operation_refusal around s (ops.Close fd) = refuse_if (is_none (file_numbered s.files fd)) BadFile
operation_refusal around s (ops.Mkdir path) = first_refusal (
    refuse_if (not around.writable) ReadOnly
    ∷ refuse_if (is_none (parse_path path)) Invalid
    ∷ parents_refusal s.tree [] (path_or_root path)
    ∷ refuse_if (has_long_name around (path_or_root path)) NameTooLong
    ∷ refuse_if (is_some (s.tree (path_or_root path))) Exist
    ∷ refuse_if (exceeds_half_pair around (last_name (path_or_root path)) []) EntryFull
    ∷ refuse_if (lacks_room around s.files 4) NoSpace
    ∷ [])
operation_refusal around s (ops.Remove path) = first_refusal (
    refuse_if (not around.writable) ReadOnly
    ∷ refuse_if (path_unusable (parse_path path)) Invalid
    ∷ parents_refusal s.tree [] (path_or_root path)
    ∷ refuse_if (is_none (s.tree (path_or_root path))) NoEnt
    ∷ refuse_if (nat_lt 0 (length (directory_names (s.tree (path_or_root path))))) NotEmpty
    ∷ refuse_if (has_open_file (same_path (path_or_root path)) s.files) Busy
    ∷ [])
operation_refusal around s (ops.Rename old new) = rename_refusal around s (parse_path old) (parse_path new) (path_or_root old) (path_or_root new)
operation_refusal around s (ops.ListAll path) = first_refusal (
    refuse_if (is_none (parse_path path)) Invalid
    ∷ parents_refusal s.tree [] (path_or_root path)
    ∷ refuse_if (is_none (s.tree (path_or_root path))) NoEnt
    ∷ refuse_if (is_file (s.tree (path_or_root path))) NotDir
    ∷ [])
operation_refusal around s (ops.Stat path) = first_refusal (
    refuse_if (is_none (parse_path path)) Invalid
    ∷ parents_refusal s.tree [] (path_or_root path)
    ∷ refuse_if (is_none (s.tree (path_or_root path))) NoEnt
    ∷ [])
operation_refusal around s (ops.GetAttr path kind) = first_refusal (
    refuse_if (path_unusable (parse_path path)) Invalid
    ∷ parents_refusal s.tree [] (path_or_root path)
    ∷ refuse_if (is_none (s.tree (path_or_root path))) NoEnt
    ∷ refuse_if (is_none (attribute_bytes kind (node_attributes_of (s.tree (path_or_root path))))) NoAttr
    ∷ [])
operation_refusal around s (ops.SetAttr path kind bytes) = first_refusal (
    refuse_if (not around.writable) ReadOnly
    ∷ refuse_if (path_unusable (parse_path path)) Invalid
    ∷ parents_refusal s.tree [] (path_or_root path)
    ∷ refuse_if (is_none (s.tree (path_or_root path))) NoEnt
    ∷ refuse_if (nat_lt (profile_attr_max around.profile) (length bytes)) TooBig
    ∷ refuse_if (exceeds_half_pair around (last_name (path_or_root path)) (attributes_with kind bytes (node_attributes_of (s.tree (path_or_root path))))) EntryFull
    ∷ refuse_if (lacks_room around s.files 2) NoSpace
    ∷ [])
operation_refusal around s (ops.RemoveAttr path kind) = first_refusal (
    refuse_if (not around.writable) ReadOnly
    ∷ refuse_if (path_unusable (parse_path path)) Invalid
    ∷ parents_refusal s.tree [] (path_or_root path)
    ∷ refuse_if (is_none (s.tree (path_or_root path))) NoEnt
    ∷ refuse_if (is_none (attribute_bytes kind (node_attributes_of (s.tree (path_or_root path))))) NoAttr
    ∷ [])
operation_refusal around s ops.AskGstate = None
operation_refusal around s (ops.IsUsed block) = refuse_if (nat_le around.block_count block) Invalid
operation_refusal around s ops.UsedCount = None
operation_refusal around s ops.Recover = refuse_if (not around.writable) ReadOnly
operation_refusal around s ops.Remount = None
