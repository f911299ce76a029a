-- The bytes of metadata blocks, made from log entries. Checksums are given as numbers.
use Rattle.std.specs.Prelude.{ℕ, ◌-◌, List, [], ◌∷◌, ◌++◌, length, replicate}
use Rattle.byteorder.specs.Endian.{little_bytes}
use Rattle.lfs_model.specs.format.Log.{LogEntry}
use Rattle.lfs_model.specs.layers.Commit.{encoded_entries}
use Rattle.lfs_model.specs.format.Names.{Name}
use Rattle.lfs_model.specs.format.EntryTypes.{file_name_type, directory_name_type, directory_struct_type, inline_struct_type, ctz_struct_type, move_state_type, no_id}
use Rattle.lfs_model.specs.layers.WrittenContent.{log_entry, address_bytes}
use Rattle.lfs_model.specs.tree.View.{superblock_entry}
use Rattle.lfs_model.specs.declared.limits.Profile.{Profile}
use Rattle.lfs_model.specs.tree.Fresh.{superblock_bytes}

-- `size` bytes that nothing was written to.
abbrev pub unwritten_bytes : ℕ → List ℕ
unwritten_bytes size = replicate size 0xff

-- The bytes of a block of `size` bytes that begins with `bytes`; nothing was written to the rest.
abbrev pub block_padded : ℕ → List ℕ → List ℕ
block_padded size bytes = bytes ++ unwritten_bytes (size - length bytes)

-- ---- entries

-- The entries of an inline file: its name and its struct.
abbrev pub inline_file_entries : ℕ → Name → List ℕ → List LogEntry
inline_file_entries id name bytes = log_entry file_name_type id name ∷ log_entry inline_struct_type id bytes ∷ []

-- The entries of a file with a CTZ skip-list: its name and its struct.
abbrev pub list_file_entries : ℕ → Name → ℕ → ℕ → List LogEntry
list_file_entries id name head size = log_entry file_name_type id name ∷ log_entry ctz_struct_type id (address_bytes (head, size)) ∷ []

-- The entries of a directory: its name and its struct.
abbrev pub directory_slot_entries : ℕ → Name → ℕ × ℕ → List LogEntry
directory_slot_entries id name to = log_entry directory_name_type id name ∷ log_entry directory_struct_type id (address_bytes to) ∷ []

-- The entries of a superblock: its name and its struct.
abbrev pub superblock_entries : Profile → ℕ → ℕ → List LogEntry
superblock_entries profile block_size block_count = superblock_entry ∷ log_entry inline_struct_type 0 (superblock_bytes profile block_size block_count) ∷ []

-- The entry of a move state with the first word `word` and the pair `pair`.
abbrev pub move_state_entry : ℕ → ℕ × ℕ → LogEntry
move_state_entry word pair = log_entry move_state_type no_id (little_bytes 4 word ++ address_bytes pair)

-- The entry of the checksum `number`, with `padding` unwritten bytes at its end.
abbrev pub checksum_entry : ℕ → ℕ → LogEntry
checksum_entry number padding = log_entry 0x500 no_id (little_bytes 4 number ++ unwritten_bytes padding)

-- ---- blocks

-- The bytes of a metadata block with this revision count and these entries.
abbrev pub metadata_block_bytes : ℕ → ℕ → List LogEntry → List ℕ
metadata_block_bytes block_size revision entries = block_padded block_size (little_bytes 4 revision ++ encoded_entries 0xffffffff entries)
