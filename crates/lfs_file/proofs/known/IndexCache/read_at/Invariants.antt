use Rattle.std.proofs.Common.{ℕ, ◌≡◌, ◌≤◌, ◌<◌, ◌+◌, ◌-◌, ◌*◌, ◌++◌, min, length, drop, slice_index, slice_range}
use Rattle.lfs_file.proofs.Common.{ReadsOnly, fault_count, IsSkipList, IsByteInListBlock, blocks_to_head, skip_list_block_count, list_bytes, AreKnownBlocks}
use Rattle.lfs_file.proofs.Recalled.{FindsWithMoreReads}
use Rattle.lfs_file.proofs.known.IndexCache.read_at.Given as goal

abbrev pub invariant-blocks-2 : goal.invariant-blocks-2
invariant-blocks-2 g l =
    let geometry = g.D.BlockDevice.geometry in
    let blocks = g.D.BlockDevice.blocks in
    let history = g.D.BlockDevice.history in
    let old = l.fn.dev in
    let len = min (length l.fn.buf) (l.fn.size - l.fn.pos) in
    record {
      some : 1 ≤ l.left;
      high : l.left ≤ len;
      in_range : l.block < (geometry old).block_count;
      found : IsSkipList (blocks old) l.block_size l.fn.head l.fn.size → AreKnownBlocks (blocks_to_head (blocks old) (skip_list_block_count l.block_size l.fn.size) l.fn.head) l.fn.self → (i off : ℕ) → IsByteInListBlock l.block_size (l.fn.pos + l.left - 1) i off
          → l.block ≡ slice_index (blocks_to_head (blocks old) (skip_list_block_count l.block_size l.fn.size) l.fn.head) i;
      known : IsSkipList (blocks old) l.block_size l.fn.head l.fn.size → AreKnownBlocks (blocks_to_head (blocks old) (skip_list_block_count l.block_size l.fn.size) l.fn.head) l.fn.self
          → AreKnownBlocks (blocks_to_head (blocks old) (skip_list_block_count l.block_size l.fn.size) l.fn.head) l.self;
      bytes : IsSkipList (blocks old) l.block_size l.fn.head l.fn.size → AreKnownBlocks (blocks_to_head (blocks old) (skip_list_block_count l.block_size l.fn.size) l.fn.head) l.fn.self
          → drop l.left l.buf ≡ slice_range (list_bytes (blocks old) l.block_size l.fn.head l.fn.size) (l.fn.pos + l.left) (l.fn.pos + len) ++ drop len l.fn.buf;
      rest : drop len l.buf ≡ drop len l.fn.buf;
      device : ReadsOnly g.D.BlockDevice old l.dev;
      quiet : fault_count (history l.dev) ≡ fault_count (history old);
      few : (i last off end : ℕ) → IsByteInListBlock l.block_size (l.fn.pos + l.left - 1) i off → IsByteInListBlock l.block_size (l.fn.pos + len - 1) last end
          → FindsWithMoreReads l.fn.self (skip_list_block_count l.block_size l.fn.size) last l.self (history old) (history l.dev) (2 * (last - i));
    }

abbrev pub decreases-blocks-2 : goal.decreases-blocks-2
decreases-blocks-2 g l = l.left
