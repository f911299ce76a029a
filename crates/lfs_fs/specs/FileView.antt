-- The open files in contracts.
use Rattle.std.specs.Prelude.{ℕ, ◌+◌, ◌*◌, Bool, false, if◌then◌else◌, List, [], ◌∷◌, ◌++◌, length, map, nat_lt, Option, Some, None, is_none, is_some, slice_get, slice_set, sum_by}
use Rattle.std.specs.List.{list_any, position_or_len}
use Rattle.std.specs.Option.{option_flatten, option_map}
use Rattle.lfs_model.specs.declared.limits.Profile.{Profile}
use Rattle.lfs_model.specs.session.TreeEdits.{file_bytes}
use Rattle.lfs_model.specs.session.Session as session
use Rattle.lfs_model.specs.session.Session.{file_block_count}
use Rattle.lfs_file.specs.declared.known.IndexCache.{IndexCache}
use Rattle.lfs_model.specs.format.Disk.{Disk}
use Rattle.lfs_model.specs.tree.Tree.{Path, Tree}
use Rattle.lfs_tree.specs.TreeState.{TreeState, visible_tree}
use Rattle.lfs_file.specs.Contents.{contents_bytes}
use Rattle.lfs_fs.specs.declared.files.Reader.{Reader}
use Rattle.lfs_fs.specs.declared.files.Writer.{Writer}
use Rattle.lfs_fs.specs.declared.files.UnsavedContents.{UnsavedContents}
use Rattle.lfs_fs.specs.declared.files.OpenFile.{OpenFile}
use Rattle.lfs_fs.specs.declared.files.OpenFile.TheVariants as file

-- the open files by number, as the code has them
abbrev pub RuntimeFiles : Type 0
RuntimeFiles = List (Option OpenFile)

-- ---- as the definitions have them

abbrev pub reader_view : Reader → session.FileReader
reader_view r = record { path = r.path; position = r.position }

abbrev pub is_draft_nonsequential : Option UnsavedContents → Bool
is_draft_nonsequential None = false
is_draft_nonsequential (Some u) = u.has_turned

abbrev pub last_change_end : Option UnsavedContents → Option ℕ
last_change_end None = None
last_change_end (Some u) = u.last_end

-- the contents of a writer: its draft, or those of the file if there is none
abbrev pub writer_bytes : Disk → Tree → Path → Option UnsavedContents → List ℕ
writer_bytes disk tree path None = file_bytes (tree path)
writer_bytes disk tree path (Some u) = contents_bytes disk.blocks disk.block_size u.contents

abbrev pub writer_view_on_tree : Disk → Tree → Writer → session.FileWriter
writer_view_on_tree disk tree w = record {
  path = w.path;
  contents = writer_bytes disk tree w.path w.unsaved;
  position = w.position;
  append = w.appends;
  dirty = is_some w.unsaved;
  turned = is_draft_nonsequential w.unsaved;
  last_end = last_change_end w.unsaved;
}

abbrev pub file_view_on_tree : Disk → Tree → OpenFile → session.OpenFile
file_view_on_tree disk tree (file.Reading r) = session.Reading (reader_view r)
file_view_on_tree disk tree (file.Writing w) = session.Writing (writer_view_on_tree disk tree w)

abbrev pub draft_or_stored_bytes : TreeState → Path → Option UnsavedContents → List ℕ
draft_or_stored_bytes t path unsaved = writer_bytes t.disk (visible_tree t) path unsaved

abbrev pub writer_view : TreeState → Writer → session.FileWriter
writer_view t w = writer_view_on_tree t.disk (visible_tree t) w

abbrev pub file_view : TreeState → OpenFile → session.OpenFile
file_view t f = file_view_on_tree t.disk (visible_tree t) f

abbrev pub files_view : TreeState → RuntimeFiles → session.OpenFilesByNumber
files_view t files = map (option_map (file_view_on_tree t.disk (visible_tree t))) files

-- ---- as they are kept

abbrev pub open_file_at : RuntimeFiles → ℕ → Option OpenFile
open_file_at files fd = option_flatten (slice_get files fd)

abbrev pub open_file_position : OpenFile → ℕ
open_file_position (file.Reading r) = r.position
open_file_position (file.Writing w) = w.position

abbrev pub as_reader : Option OpenFile → Option Reader
as_reader None = None
as_reader (Some (file.Reading r)) = Some r
as_reader (Some (file.Writing w)) = None

abbrev pub writer_if_any : Option OpenFile → Option Writer
writer_if_any None = None
writer_if_any (Some (file.Reading r)) = None
writer_if_any (Some (file.Writing w)) = Some w

abbrev pub prepend_if_some : {A : Type 0} → Option A → List A → List A
prepend_if_some None rest = rest
prepend_if_some (Some x) rest = x ∷ rest

abbrev pub filter_map_files : {A : Type 0} → (Option OpenFile → Option A) → RuntimeFiles → List A
filter_map_files kind [] = []
filter_map_files kind (f ∷ files) = prepend_if_some (kind f) (filter_map_files kind files)

abbrev pub readers_among : RuntimeFiles → List Reader
readers_among files = filter_map_files as_reader files

abbrev pub writers_among : RuntimeFiles → List Writer
writers_among files = filter_map_files writer_if_any files

-- the paths of the writers
abbrev pub writers_paths : RuntimeFiles → List Path
writers_paths files = map (λ w. w.path) (writers_among files)

-- the least number that isn't open
abbrev pub lowest_free_fd : RuntimeFiles → ℕ
lowest_free_fd files = position_or_len is_none files

abbrev pub files_with_entry : RuntimeFiles → ℕ → Option OpenFile → RuntimeFiles
files_with_entry files fd entry = if nat_lt fd (length files) then slice_set files fd entry else files ++ entry ∷ []

abbrev pub file_with_position : ℕ → OpenFile → OpenFile
file_with_position position (file.Reading r) = file.Reading (record r { position = position })
file_with_position position (file.Writing w) = file.Writing (record w { position = position })

abbrev pub file_with_index_cache : IndexCache → OpenFile → OpenFile
file_with_index_cache known (file.Reading r) = file.Reading (record r { known = known })
file_with_index_cache known (file.Writing w) = file.Writing w

-- how many free blocks are reserved for a draft of so many bytes
abbrev pub draft_block_reserve : Profile → ℕ → Bool → ℕ → ℕ
draft_block_reserve profile block_size turned size = 2 + (if turned then 2 else 1) * file_block_count profile block_size size

-- how many free blocks are reserved for a writer, by its size
abbrev pub writer_block_reserve : Profile → ℕ → Writer → ℕ
writer_block_reserve profile block_size w = if is_none w.unsaved then 0 else draft_block_reserve profile block_size (is_draft_nonsequential w.unsaved) w.size

abbrev pub writers_block_reserve : Profile → ℕ → RuntimeFiles → ℕ
writers_block_reserve profile block_size files = sum_by (writer_block_reserve profile block_size) (writers_among files)

-- a writer has changes that aren't synced
abbrev pub has_unsaved : RuntimeFiles → Bool
has_unsaved files = list_any (λ w. is_some w.unsaved) (writers_among files)

-- the file is open, at a path that meets the predicate
abbrev pub is_open_where : (Path → Bool) → Option OpenFile → Bool
is_open_where p None = false
is_open_where p (Some (file.Reading r)) = p r.path
is_open_where p (Some (file.Writing w)) = p w.path

abbrev pub is_writer_with_draft : Option OpenFile → Bool
is_writer_with_draft None = false
is_writer_with_draft (Some (file.Reading r)) = false
is_writer_with_draft (Some (file.Writing w)) = is_some w.unsaved
