-- What a disk has at an address, and a file's list, where none of their blocks changed.
use Rattle.std.specs.Prelude.{All}
use Rattle.std.proofs.Common.{ℕ, ◌≡◌, ◌≢◌, List, get_or, ap, ap₂}
use Rattle.lfs_model.proofs.Common.{option_and_then, recursion_from_All, Blocks, SameExceptBlocks, block_bytes, Disk, disk_block, block_entries, later_committed_block, current_block, content_after, empty_raw_content, skip_list_block_count, blocks_to_head, IsSkipList, list_bytes}
use Rattle.lfs_model.specs.format.Content.{raw_content}
use Rattle.lfs_model.proofs.Files.{Same, list_same, bytes_same}

-- ---- at an address

-- neither block of a pair is one of those
pub record AreElsewhere (at : ℕ × ℕ) (bs : List ℕ) : Type 0 where
  pub first : All (λ b. b ≢ at.0) bs
  pub second : All (λ b. b ≢ at.1) bs

-- both blocks of a pair are the same on two disks
pub record IsSameAt (disk new : Disk) (at : ℕ × ℕ) : Type 0 where
  pub first : disk_block new at.0 ≡ disk_block disk at.0
  pub second : disk_block new at.1 ≡ disk_block disk at.1

pub same_elsewhere : {at : ℕ × ℕ} {bs : List ℕ} (disk new : Disk) → AreElsewhere at bs → SameExceptBlocks bs disk.blocks new.blocks → IsSameAt disk new at
same_elsewhere {at} disk new elsewhere same = record { first = same.others at.0 elsewhere.first; second = same.others at.1 elsewhere.second }

pub holder_same : {at : ℕ × ℕ} {disk new : Disk} → IsSameAt disk new at → current_block new at ≡ current_block disk at
holder_same {at} {disk} {new} same = ap₂ later_committed_block same.first same.second

pub raw_same : {at : ℕ × ℕ} {disk new : Disk} → IsSameAt disk new at → raw_content new at ≡ raw_content disk at
raw_same same = ap (option_and_then (λ block. content_after empty_raw_content (block_entries block))) (holder_same same)

-- with other blocks changed
pub current_block-stays : {at : ℕ × ℕ} {bs : List ℕ} (disk : Disk) {blocks : Blocks} → AreElsewhere at bs → SameExceptBlocks bs disk.blocks blocks
    → current_block (record disk { blocks = blocks }) at ≡ current_block disk at
current_block-stays disk {blocks} elsewhere same = holder_same (same_elsewhere disk (record disk { blocks = blocks }) elsewhere same)

pub raw_content-stays : {at : ℕ × ℕ} {bs : List ℕ} (disk : Disk) {blocks : Blocks} → AreElsewhere at bs → SameExceptBlocks bs disk.blocks blocks
    → raw_content (record disk { blocks = blocks }) at ≡ raw_content disk at
raw_content-stays disk {blocks} elsewhere same = raw_same (same_elsewhere disk (record disk { blocks = blocks }) elsewhere same)

-- ---- a list

-- none of these blocks is one of those
abbrev pub AreApart : List ℕ → List ℕ → Type 0
AreApart own bs = All (λ c. All (λ b. b ≢ c) bs) own

pub same_apart : (own : List ℕ) {bs : List ℕ} (old new : Blocks) → AreApart own bs → SameExceptBlocks bs old new → Same old new own
same_apart own old new apart same = recursion_from_All (λ b. block_bytes new b ≡ block_bytes old b) own (λ k x l. same.others (get_or own k x) (apart k x l))

module _ (old new : Blocks) (bs : List ℕ) (same : SameExceptBlocks bs old new) where
  pub list-stays : (block_size head size : ℕ) → AreApart (blocks_to_head old (skip_list_block_count block_size size) head) bs → IsSkipList old block_size head size → IsSkipList new block_size head size
  list-stays block_size head size apart ok = list_same old new block_size head size same.count (same_apart (blocks_to_head old (skip_list_block_count block_size size) head) old new apart same) ok

  pub bytes-stay : (block_size head size : ℕ) → AreApart (blocks_to_head old (skip_list_block_count block_size size) head) bs → list_bytes new block_size head size ≡ list_bytes old block_size head size
  bytes-stay block_size head size apart = bytes_same old new block_size head size (same_apart (blocks_to_head old (skip_list_block_count block_size size) head) old new apart same)
