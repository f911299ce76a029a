use Rattle.std.proofs.Common.{ℕ, ◌≡◌, ◌≤◌, ◌<◌, ◌+◌, ◌-◌, ◌*◌, ◌^◌, length, drop, slice_index}
use Rattle.lfs_file.proofs.Common.{ReadsOnly, fault_count, read_count, blocks_to_head, pointer_count, word_at, ArePointersKnown}
use Rattle.lfs_file.specs.Front.{KeepsFullBlocks}
use Rattle.lfs_file.proofs.block.write_pointers.Given as goal

abbrev pub invariant-loop-k : goal.invariant-loop-k
invariant-loop-k g l =
    let blocks = g.D.BlockDevice.blocks in
    let history = g.D.BlockDevice.history in
    let old = l.fn.dev in
    let head = l.fn.front.head in
    record {
      at : l.to ≡ slice_index (blocks_to_head (blocks old) l.index head) (l.index - 2 ^ l.k);
      words : (j : ℕ) → j < l.k + 1 → word_at l.buf (4 * j) ≡ slice_index (blocks_to_head (blocks old) l.index head) (l.index - 2 ^ j);
      rest : drop (4 * pointer_count l.index) l.buf ≡ drop (4 * pointer_count l.index) l.fn.buf;
      len : length l.buf ≡ length l.fn.buf;
      front : KeepsFullBlocks (blocks_to_head (blocks old) l.index head) l.fn.front l.front;
      few : read_count (history l.dev) ≤ read_count (history old) + l.k;
      none : ArePointersKnown l.index l.fn.front.known → (l.front.known ≡ l.fn.front.known) × (read_count (history l.dev) ≡ read_count (history old));
      device : ReadsOnly g.D.BlockDevice old l.dev;
      quiet : fault_count (history l.dev) ≡ fault_count (history old);
    }
