-- The number of reads that lists and pairs cost.
use Rattle.std.proofs.Common.{ℕ, ◌≡◌, ◌+◌, ◌<◌, List, [], ◌∷◌, length, set, take, get_or, Option, Some, None, sym, ap, ◌∙◌, slice_get, option_and_then, append-nil}
use Rattle.std.specs.Prelude.{sum_by}
use Rattle.lfs_mount.proofs.Common.{option_map_or, length-set, take_more, BlockStates, Used, RawContent, Disk, Name, lists_view, MarksFreeBlocksUsed, list_heads_and_sizes, Vertex, list_reads, described_lists, pair_reads, ScansPair, raw_entry_slots}
use Rattle.std.proofs.lemmas.List.Sums.{sum_by_push}
use Rattle.lfs_tag.specs.declared.content.Slot.{Slot}
use Rattle.lfs_mount.specs.declared.pass.DirectoryPairHeader.{DirectoryPairHeader}
use Rattle.lfs_mount.proofs.MarkedLists.{list_view, lists_next}

-- ---- marks leave as many blocks

pub marks_length : (bs : List ℕ) (old new : BlockStates) → MarksFreeBlocksUsed old bs new → length new ≡ length old
marks_length [] old new e = ap length (sym e)
marks_length (b ∷ bs) old new (free, marks) = marks_length bs (set old b Used) new marks ∙ length-set old b Used

-- ---- the lists of slots

pub reads_stay : (block_size : ℕ) (slots : List Slot) (i : ℕ) (s : Slot) → slice_get slots i ≡ Some s → list_view s ≡ None
    → sum_by (list_reads block_size) (lists_view (take (i + 1) slots)) ≡ sum_by (list_reads block_size) (lists_view (take i slots))
reads_stay block_size slots i s e f = ap (sum_by (list_reads block_size)) (lists_next slots i s None e f ∙ append-nil (lists_view (take i slots)))

pub reads_more : (block_size : ℕ) (slots : List Slot) (i : ℕ) (s : Slot) (l : ℕ × ℕ) → slice_get slots i ≡ Some s → list_view s ≡ Some l
    → sum_by (list_reads block_size) (lists_view (take (i + 1) slots)) ≡ sum_by (list_reads block_size) (lists_view (take i slots)) + list_reads block_size l
reads_more block_size slots i s l e f =
    ap (sum_by (list_reads block_size)) (lists_next slots i s (Some l) e f) ∙ sum_by_push (list_reads block_size) (lists_view (take i slots)) l

-- ---- pairs

pub takes_lists : (disk : Disk) (firsts : List (ℕ × ℕ)) (member : DirectoryPairHeader) (known new : Name × Vertex) (sets marked : BlockStates) → (t : ScansPair disk firsts member known sets new marked)
    → described_lists disk member ≡ list_heads_and_sizes t.entries
takes_lists disk firsts member known new sets marked t =
    ap (λ (o : Option RawContent). option_map_or list_heads_and_sizes (option_and_then (λ c. raw_entry_slots member c.slots) o) []) t.content ∙ ap (λ o. option_map_or list_heads_and_sizes o []) t.kept

pub pairs_more : (disk : Disk) (members : List DirectoryPairHeader) (i : ℕ) (d : DirectoryPairHeader) → i < length members
    → sum_by (pair_reads disk) (take (i + 1) members) ≡ sum_by (pair_reads disk) (take i members) + pair_reads disk (get_or members i d)
pairs_more disk members i d lt = ap (sum_by (pair_reads disk)) (take_more members i d lt) ∙ sum_by_push (pair_reads disk) (take i members) (get_or members i d)
