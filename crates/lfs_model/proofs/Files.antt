-- A file's list on a disk where its blocks are the same.
use Rattle.std.proofs.Common.{ℕ, zero, suc, ◌≡◌, ◌+◌, ◌*◌, ◌-◌, ◌<◌, ◌^◌, List, [], ◌∷◌, ◌++◌, length, drop, take, refl, sym, ap, ap₂, subst, ◌∙◌, arith, flat_map, length-append}
use Rattle.std.specs.Prelude.{All, slice_index}
use Rattle.lfs_model.proofs.Common.{enumerate_from, All-from_recursion, Blocks, block_bytes, Disk, SameGeometry, Struct, Inline, Ctz, Branch, word_at, pointer_count, skip_list_block_count, blocks_to_head, AreListBlocks, IsSkipList, block_data, list_bytes, disk_list_bytes, struct_blocks, IsWellFormedList, SameFileBlocks}
use Rattle.lfs_model.proofs.Counts.{Each, each_left, each_right}
pub use Rattle.lfs_model.specs.layers.Steps.{SameFileBlocks}

abbrev pub Same : Blocks → Blocks → List ℕ → Type 0
Same d e = Each (λ b. block_bytes e b ≡ block_bytes d b)

pub back_same : (d e : Blocks) (n head : ℕ) → Same d e (blocks_to_head d n head) → blocks_to_head e n head ≡ blocks_to_head d n head
back_same d e zero head h = refl
back_same d e (suc zero) head h = refl
back_same d e (suc (suc n)) head h =
    let same : word_at (block_bytes e head) 0 ≡ word_at (block_bytes d head) 0 = ap (λ z. word_at z 0) (each_right (λ b. block_bytes e b ≡ block_bytes d b) (blocks_to_head d (suc n) (word_at (block_bytes d head) 0)) (head ∷ []) h).0 in
    ap (λ z. blocks_to_head e (suc n) z ++ head ∷ []) same
    ∙ ap (λ z. z ++ head ∷ []) (back_same d e (suc n) (word_at (block_bytes d head) 0) (each_left (λ b. block_bytes e b ≡ block_bytes d b) (blocks_to_head d (suc n) (word_at (block_bytes d head) 0)) (head ∷ []) h))

pub length_back : (d : Blocks) (n head : ℕ) → length (blocks_to_head d n head) ≡ n
length_back d zero head = refl
length_back d (suc zero) head = refl
length_back d (suc (suc n)) head = length-append (blocks_to_head d (suc n) (word_at (block_bytes d head) 0)) (head ∷ []) ∙ ap (λ z. z + 1) (length_back d (suc n) (word_at (block_bytes d head) 0)) ∙ omega arith

-- the first blocks of a list that grows
pub chain_same : (d e : Blocks) (count head : ℕ) → length e ≡ length d → Same d e (blocks_to_head d count head) → AreListBlocks d count head → AreListBlocks e count head
chain_same d e count head l h ok = record {
  in_range = subst (λ bs. All (λ b. b < length e) bs) (sym back) (subst (λ n. All (λ b. b < n) (blocks_to_head d count head)) (sym l) ok.in_range);
  distinct = rw back ok.distinct;
  pointers = λ i k m j. ap (λ bs. word_at (block_bytes e (slice_index bs i)) (4 * k)) back
      ∙ ap (λ z. word_at z (4 * k)) (All-from_recursion (λ b. block_bytes e b ≡ block_bytes d b) (blocks_to_head d count head) h i 0 (let n = length_back d count head in omega arith))
      ∙ ok.pointers i k m j ∙ ap (λ bs. slice_index bs (i - 2 ^ k)) (sym back);
}
  where
    back : blocks_to_head e count head ≡ blocks_to_head d count head
    back = back_same d e count head h

pub list_same : (d e : Blocks) (block_size head size : ℕ) → length e ≡ length d → Same d e (blocks_to_head d (skip_list_block_count block_size size) head) →
    IsSkipList d block_size head size → IsSkipList e block_size head size
list_same d e block_size head size l h ok = record {
  size_low = ok.size_low;
  size_high = ok.size_high;
  blocks = chain_same d e (skip_list_block_count block_size size) head l h ok.blocks;
}

pub data_same : (d e : Blocks) (n : ℕ) (bs : List ℕ) → Same d e bs → flat_map (block_data e) (enumerate_from n bs) ≡ flat_map (block_data d) (enumerate_from n bs)
data_same d e n [] h = refl
data_same d e n (b ∷ bs) h = ap₂ (λ y z. drop (4 * pointer_count n) y ++ z) h.0 (data_same d e (n + 1) bs h.1)

pub bytes_same : (d e : Blocks) (block_size head size : ℕ) → Same d e (blocks_to_head d (skip_list_block_count block_size size) head) →
    list_bytes e block_size head size ≡ list_bytes d block_size head size
bytes_same d e block_size head size h =
    ap (λ bs. take size (flat_map (block_data e) (enumerate_from 0 bs))) (back_same d e (skip_list_block_count block_size size) head h)
    ∙ ap (take size) (data_same d e 0 (blocks_to_head d (skip_list_block_count block_size size) head) h)

-- ---- of a disk

pub file_blocks_same : (disk new : Disk) (s : Struct) → SameGeometry disk new → SameFileBlocks disk new s → struct_blocks new s ≡ struct_blocks disk s
file_blocks_same disk new (Inline bytes) g h = refl
file_blocks_same disk new (Branch to) g h = refl
file_blocks_same disk new (Ctz head size) g h =
    ap (λ b. blocks_to_head new.blocks (skip_list_block_count b size) head) g.block_size ∙ back_same disk.blocks new.blocks (skip_list_block_count disk.block_size size) head h

pub is_list_same : (disk new : Disk) (s : Struct) → SameGeometry disk new → SameFileBlocks disk new s → IsWellFormedList disk s → IsWellFormedList new s
is_list_same disk new (Inline bytes) g h ok = tt
is_list_same disk new (Branch to) g h ok = tt
is_list_same disk new (Ctz head size) g h ok =
    subst (λ b. IsSkipList new.blocks b head size) (sym g.block_size) (list_same disk.blocks new.blocks disk.block_size head size g.count h ok)

pub contents_same : (disk new : Disk) (s : Struct) (head size : ℕ) → s ≡ Ctz head size → SameGeometry disk new → SameFileBlocks disk new s →
    disk_list_bytes new head size ≡ disk_list_bytes disk head size
contents_same disk new s head size e g h =
    ap (λ b. list_bytes new.blocks b head size) g.block_size
    ∙ bytes_same disk.blocks new.blocks disk.block_size head size (subst (SameFileBlocks disk new) e h)
