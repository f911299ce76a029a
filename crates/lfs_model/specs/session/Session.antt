-- A session: a tree, the open files, and how each operation changes them.
use Rattle.std.specs.Prelude.{ℕ, ◌+◌, ◌*◌, Bool, true, false, not, ◌&&◌, ◌||◌, nat_le, nat_lt, if◌then◌else◌, List, [], ◌∷◌, ◌++◌, length, Option, Some, None, is_some, is_none, sum_by, slice_get, slice_set}
use Rattle.std.specs.List.{list_any, position_or_len}
use Rattle.std.specs.Option.{option_and_then, option_or, option_flatten}
use Rattle.lfs_model.specs.declared.limits.Profile.{Profile}
use Rattle.lfs_model.specs.format.Names.{Name}
use Rattle.lfs_model.specs.format.Slots.{Attributes, Gstate}
use Rattle.lfs_model.specs.format.Disk.{inline_limit, profile_name_max, half_pair_capacity}
use Rattle.lfs_model.specs.format.Slots.{reserved_entry_size}
use Rattle.lfs_model.specs.format.SkipLists.{skip_list_block_count}
use Rattle.lfs_model.specs.tree.Tree.{Path, Node, FileNode, DirectoryNode, Tree}
use Rattle.lfs_model.specs.session.Operations.{Refusal, NoEnt, NotDir, FlagsOfOpen}
use Rattle.lfs_model.specs.session.TreeEdits.{last_name}

-- A file that is open for reading.
pub record FileReader : Type 0 where
  pub path : Path
  pub position : ℕ

-- A file that is open for writing. Its contents are `dirty` if the tree doesn't have them yet. It
-- is `turned`, and may need a second list, if a write since the last sync didn't begin where the
-- one before it ended, at `last_end`, or if a truncation followed a write.
pub record FileWriter : Type 0 where
  pub path : Path
  pub contents : List ℕ
  pub position : ℕ
  pub append : Bool
  pub dirty : Bool
  pub turned : Bool
  pub last_end : Option ℕ

-- An open file: a reader or a writer.
pub data OpenFile : Type 0 where
  Reading : (reader : FileReader) → OpenFile
  Writing : (writer : FileWriter) → OpenFile

-- The open files. A file's index in the list is its number.
abbrev pub OpenFilesByNumber : Type 0
OpenFilesByNumber = List (Option OpenFile)

-- A session: its tree and its open files.
pub record Session : Type 0 where
  pub tree : Tree
  pub files : OpenFilesByNumber

-- The data of the disk that the result of an operation depends on. `used` has the used blocks.
pub record DiskSummary : Type 0 where
  pub writable : Bool
  pub profile : Profile
  pub block_size : ℕ
  pub page : ℕ
  pub block_count : ℕ
  pub used : List ℕ
  pub gstate : Gstate

-- ---- free blocks

-- The number of blocks in the CTZ skip-list of a file with `n` bytes: 0 if the file is inline.
abbrev pub file_block_count : Profile → ℕ → ℕ → ℕ
file_block_count profile block_size n = if nat_le n (inline_limit profile block_size) then 0 else skip_list_block_count block_size n

-- ---- open files

-- The number of blocks reserved for a writer: none if it isn't dirty, otherwise a pair and one
-- list, or two lists if it is `turned`.
abbrev pub reserved_for_writer : Profile → ℕ → FileWriter → ℕ
reserved_for_writer profile block_size w =
    if not w.dirty then 0
    else 2 + (if w.turned then 2 else 1) * file_block_count profile block_size (length w.contents)

-- The open file with the number `fd`.
abbrev pub file_numbered : OpenFilesByNumber → ℕ → Option OpenFile
file_numbered files fd = option_flatten (slice_get files fd)

-- The reader, if the open file is one.
abbrev pub file_reader : Option OpenFile → Option FileReader
file_reader None = None
file_reader (Some (Reading r)) = Some r
file_reader (Some (Writing w)) = None

-- The writer, if the open file is one.
abbrev pub file_writer : Option OpenFile → Option FileWriter
file_writer None = None
file_writer (Some (Reading r)) = None
file_writer (Some (Writing w)) = Some w

abbrev pub file_path : OpenFile → Path
file_path (Reading r) = r.path
file_path (Writing w) = w.path

-- Whether the path of any open file satisfies `p`.
abbrev pub has_open_file : (Path → Bool) → OpenFilesByNumber → Bool
has_open_file p files = list_any (λ f. is_some (option_and_then (λ o. if p (file_path o) then Some o else None) f)) files

-- The open readers, in the order of their numbers.
abbrev pub all_readers : OpenFilesByNumber → List FileReader
all_readers [] = []
all_readers (f ∷ files) = onto (file_reader f) (all_readers files)
  where
    onto : Option FileReader → List FileReader → List FileReader
    onto None rest = rest
    onto (Some r) rest = r ∷ rest

-- The open writers, in the order of their numbers.
abbrev pub all_writers : OpenFilesByNumber → List FileWriter
all_writers [] = []
all_writers (f ∷ files) = onto_writer (file_writer f) (all_writers files)
  where
    onto_writer : Option FileWriter → List FileWriter → List FileWriter
    onto_writer None rest = rest
    onto_writer (Some w) rest = w ∷ rest

-- The number of blocks reserved for all writers.
abbrev pub reserved_for_writers : Profile → ℕ → OpenFilesByNumber → ℕ
reserved_for_writers profile block_size files = sum_by (reserved_for_writer profile block_size) (all_writers files)

-- The least number that no open file has.
abbrev pub free_number_of : OpenFilesByNumber → ℕ
free_number_of files = position_or_len is_none files

-- The open files after `file` is stored under the number `fd`.
abbrev pub files_with_file : OpenFilesByNumber → ℕ → Option OpenFile → OpenFilesByNumber
files_with_file files fd file = if nat_lt fd (length files) then slice_set files fd file else files ++ file ∷ []

-- ---- refusals, in the order of their checks

-- The refusal `error` if the condition holds, otherwise None.
abbrev pub refuse_if : Bool → Refusal → Option Refusal
refuse_if true error = Some error
refuse_if false error = None

-- The first refusal in the list, or None if there is none.
abbrev pub first_refusal : List (Option Refusal) → Option Refusal
first_refusal [] = None
first_refusal (r ∷ rs) = option_or r (first_refusal rs)

-- The refusal of a path through this node: `NoEnt` if there is none, `NotDir` if it is a file.
abbrev pub directory_refusal : Option Node → Option Refusal
directory_refusal None = Some NoEnt
directory_refusal (Some (FileNode attributes bytes)) = Some NotDir
directory_refusal (Some (DirectoryNode attributes names)) = None

-- The refusal by the first parent of a path that isn't a directory. `above` is the path already
-- checked, and the last name isn't checked.
abbrev pub parents_refusal : Tree → Path → Path → Option Refusal
parents_refusal t above [] = None
parents_refusal t above (name ∷ []) = None
parents_refusal t above (name ∷ next ∷ rest) =
    option_or (directory_refusal (t (above ++ name ∷ []))) (parents_refusal t (above ++ name ∷ []) (next ∷ rest))

-- Whether the flags are a valid combination: no unknown bit, exactly one of `read` and `write`,
-- other flags only with `write`, and `exclusive` only with `create`.
abbrev pub flags_allowed : FlagsOfOpen → Bool
flags_allowed f =
    not f.unknown && (if f.write then not f.read && (f.create || not f.exclusive)
    else f.read && not (f.create || f.exclusive || f.truncate || f.append))

-- Whether the last name of the path is longer than the profile allows.
abbrev pub has_long_name : DiskSummary → Path → Bool
has_long_name around p = nat_lt (profile_name_max around.profile) (length (last_name p))

-- Whether fewer than `n` blocks are neither used nor reserved for writers.
abbrev pub lacks_room : DiskSummary → OpenFilesByNumber → ℕ → Bool
lacks_room around files n = nat_lt around.block_count (length around.used + reserved_for_writers around.profile around.block_size files + n)

-- Whether the used blocks and those reserved for the writer are more than the disk has.
abbrev pub overfills_disk : DiskSummary → FileWriter → Bool
overfills_disk around w = nat_lt around.block_count (length around.used + reserved_for_writer around.profile around.block_size w)

-- Whether an entry with this name and these attributes is charged more than the limit.
abbrev pub exceeds_half_pair : DiskSummary → Name → Attributes → Bool
exceeds_half_pair around name attributes =
    nat_lt (half_pair_capacity around.block_size around.page) (reserved_entry_size around.profile around.block_size name attributes)
