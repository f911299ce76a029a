-- A thread stays as it is kept if no block of its pairs changes.
use Rattle.std.proofs.Common.{ℕ, ◌≡◌, ◌≤◌, List, [], ◌∷◌, length, Some, None, refl, sym, ap, ap₂, subst, ◌∙◌, arith}
use Rattle.std.specs.Prelude.{unwrap_or}
use Rattle.lfs_thread.proofs.Common.{option_and_then, disk_of_blocks, Blocks, block_bytes, BlockStates, IsUsedBlock, CachedBlocks, decoded_content, Disk, CallEvent, zero_gstate, AreLinkedByTails, superblock_pair_address, pairs_blocks, Contains-occurrence_count, occurrence_count, count_here, IsSameAt, raw_same, header_address, AllBlocksUsed, AreHeaders, PairHeader, IsCacheCurrent, disk_pair_at, header_pairs, kept_of_device, disk_of_device, KeepsPairBlocks}
use Rattle.lfs_device.specs.declared.device.BlockDevice.{Ghosts}
use Rattle.lfs_device.specs.declared.geometry.Geometry.{Geometry}
use Rattle.lfs_blocks.specs.UsedBlocks.{KeepsUsed}
use Rattle.lfs_thread.specs.Kept.{IsKept}
use Rattle.lfs_thread.proofs.Coming.{used_at}
use Rattle.lfs_thread.proofs.Keeping.{IsAsItWas, header_same}

-- ---- one pair

pub disk_pair_at-beside : (disk : Disk) (blocks : Blocks) (at : ℕ × ℕ) → block_bytes blocks at.0 ≡ block_bytes disk.blocks at.0 → block_bytes blocks at.1 ≡ block_bytes disk.blocks at.1
    → disk_pair_at (record disk { blocks = blocks }) at ≡ disk_pair_at disk at
disk_pair_at-beside disk blocks at first second =
    let same : IsSameAt disk (record disk { blocks = blocks }) at = record { first = first; second = second } in
    ap (λ r. record { at = at; content = unwrap_or (option_and_then decoded_content r) (record { slots = []; tail = None; move = zero_gstate }) }) (raw_same same)

-- ---- all of them

behind : (b a : ℕ) (bs : List ℕ) → occurrence_count b bs ≤ occurrence_count b (a ∷ bs)
behind b a bs = omega arith

module _ (disk : Disk) (blocks : Blocks) (before after : List CallEvent) (size : length blocks ≡ length disk.blocks) where
  pub headers_beside : (hs : List PairHeader) → ((b : ℕ) → 1 ≤ occurrence_count b (pairs_blocks (header_pairs disk hs)) → IsAsItWas disk.blocks blocks before after b)
      → AreHeaders disk before hs → AreHeaders (record disk { blocks = blocks }) after hs
  headers_beside [] was are = tt
  headers_beside (h ∷ hs) was are =
      let first = (header_address h).0 in let second = (header_address h).1 in let rest = pairs_blocks (header_pairs disk hs) in (
        header_same disk blocks before after h size (was first (let m = count_here first (second ∷ rest) in omega arith))
            (was second (let m = count_here second rest in let k = behind second first (second ∷ rest) in omega arith)) are.0,
        headers_beside hs (λ b k. was b (let m = behind b first (second ∷ rest) in let n = behind b second rest in omega arith)) are.1,
      )

  pub pairs_beside : (hs : List PairHeader) → ((b : ℕ) → 1 ≤ occurrence_count b (pairs_blocks (header_pairs disk hs)) → IsAsItWas disk.blocks blocks before after b)
      → header_pairs (record disk { blocks = blocks }) hs ≡ header_pairs disk hs
  pairs_beside [] was = refl
  pairs_beside (h ∷ hs) was =
      let first = (header_address h).0 in let second = (header_address h).1 in let rest = pairs_blocks (header_pairs disk hs) in
      ap₂ (λ p ps. p ∷ ps)
      (disk_pair_at-beside disk blocks (header_address h) (was first (let m = count_here first (second ∷ rest) in omega arith)).same
      (was second (let m = count_here second rest in let k = behind second first (second ∷ rest) in omega arith)).same)
      (pairs_beside hs (λ b k. was b (let m = behind b first (second ∷ rest) in let n = behind b second rest in omega arith)))

pub used_beside : (sets later : BlockStates) (bs : List ℕ) → AllBlocksUsed sets bs → ((b : ℕ) → 1 ≤ occurrence_count b bs → IsUsedBlock sets b → IsUsedBlock later b) → AllBlocksUsed later bs
used_beside sets later [] used f = tt
used_beside sets later (b ∷ bs) used f = (f b (let m = count_here b bs in omega arith) used.0, used_beside sets later bs used.1 (λ c k. f c (let m = behind c b bs in omega arith)))

-- ---- a thread

module _ {D : Type 0} (g : Ghosts D) (device : D) (map : BlockStates) (later : D) (later_map : BlockStates) (hs : List PairHeader)
    (kept : IsKept g device hs map) (leaves : KeepsPairBlocks g (kept_of_device g device hs map) device map later later_map) where
  abbrev bs : List ℕ
  bs = pairs_blocks (header_pairs (disk_of_device g device) hs)

  was : (b : ℕ) → 1 ≤ occurrence_count b bs → IsAsItWas (g.blocks device) (g.blocks later) (g.history device) (g.history later) b
  was b k = let u = used_at map b bs kept.used k in let in_pairs = Contains-occurrence_count bs b k in record {
    same = leaves.same b u;
    stays = λ k. leaves.stays b k in_pairs u;
  }

  now_is : disk_of_device g later ≡ record (disk_of_device g device) { blocks = g.blocks later }
  now_is = ap (λ (x : Geometry). disk_of_blocks x (g.blocks later)) leaves.geometry

  pub pairs_left : header_pairs (disk_of_device g later) hs ≡ header_pairs (disk_of_device g device) hs
  pairs_left = ap (λ d. header_pairs d hs) now_is ∙ pairs_beside (disk_of_device g device) (g.blocks later) (g.history device) (g.history later) leaves.count hs was

  pub kept_left : IsKept g later hs later_map
  kept_left = record {
    each = subst (λ d. AreHeaders d (g.history later) hs) (sym now_is) (headers_beside (disk_of_device g device) (g.blocks later) (g.history device) (g.history later) leaves.count hs was kept.each);
    links = subst (AreLinkedByTails (Some superblock_pair_address)) (sym pairs_left) kept.links;
    distinct = rw pairs_left kept.distinct;
    size = leaves.size ∙ kept.size ∙ sym leaves.count;
    used = subst (λ ps. AllBlocksUsed later_map (pairs_blocks ps)) (sym pairs_left)
        (used_beside map later_map bs kept.used (λ b k u. leaves.used b (Contains-occurrence_count bs b k) u));
  }

-- used blocks that don't change stay current in the cache
pub used_stay_current : (blocks later : Blocks) (map : BlockStates) (old new : CachedBlocks) → KeepsUsed map old new → IsCacheCurrent blocks old
    → ((b : ℕ) → IsUsedBlock map b → block_bytes later b ≡ block_bytes blocks b) → IsCacheCurrent later new
used_stay_current blocks later map old new keeps current same b bytes has = current b bytes (keeps.same b bytes has) ∙ sym (same b (keeps.used b bytes has))
