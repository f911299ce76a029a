-- The number of reads that a mount of an image costs.
use Rattle.std.specs.Prelude.{ℕ, ◌+◌, List, [], length, sum_by}
use Rattle.std.specs.Option.{option_and_then, option_map_or}
use Rattle.lfs_model.specs.format.Content.{content_after, empty_raw_content}
use Rattle.lfs_model.specs.format.Disk.{Disk, disk_block}
use Rattle.lfs_model.specs.tree.Shown.{all_unmoved_slots}
use Rattle.lfs_model.specs.format.SkipLists.{skip_list_block_count}
use Rattle.lfs_model.specs.format.Slots.{Branch, Ctz, Inline, Struct}
use Rattle.lfs_model.specs.format.Thread.{Pair}
use Rattle.lfs_model.specs.format.Log.{block_entries}
use Rattle.lfs_thread.specs.HeaderReading.{thread_reads}
use Rattle.lfs_mount.specs.Marking.{list_heads_and_sizes}
use Rattle.lfs_mount.specs.Taken.{raw_entry_slots}
use Rattle.lfs_mount.specs.declared.pass.DirectoryPairHeader.{DirectoryPairHeader}

-- the reads of a list: one for each block
abbrev pub list_reads : ℕ → ℕ × ℕ → ℕ
list_reads block_size l = skip_list_block_count block_size l.1

-- the last block and the size of each list in a pair
abbrev pub described_lists : Disk → DirectoryPairHeader → List (ℕ × ℕ)
described_lists disk member = option_map_or list_heads_and_sizes (option_and_then (λ c. raw_entry_slots member c.slots) (content_after empty_raw_content (block_entries (disk_block disk member.active)))) []

-- the reads of a pair: one, and those of its lists
abbrev pub pair_reads : Disk → DirectoryPairHeader → ℕ
pair_reads disk member = 1 + sum_by (list_reads disk.block_size) (described_lists disk member)

-- the reads of a file's list, if it has one
abbrev pub list_reads_of_struct : ℕ → Struct → ℕ
list_reads_of_struct block_size (Ctz head size) = list_reads block_size (head, size)
list_reads_of_struct block_size (Inline bytes) = 0
list_reads_of_struct block_size (Branch to) = 0

-- the reads of all files' lists
abbrev pub lists_reads : Disk → List Pair → ℕ
lists_reads disk ps = sum_by (λ s. list_reads_of_struct disk.block_size s.struct) (all_unmoved_slots ps)

-- the reads of a check: one for each pair, two more for the superblock, and those of all files' lists
abbrev pub check_reads : Disk → List Pair → ℕ
check_reads disk ps = length ps + 2 + lists_reads disk ps

-- the reads of a mount: those of the thread's headers, and those of the check
abbrev pub mount_reads : Disk → List Pair → ℕ
mount_reads disk ps = thread_reads disk ps + check_reads disk ps
