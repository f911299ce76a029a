-- Writes in memory, to the partial block.
use Rattle.std.proofs.Common.{ℕ, suc, ◌≡◌, ◌+◌, ◌<◌, true, List, ◌++◌, length, drop, refl, sym, ap, ◌∙◌, subst, arith, length-append, append_assoc}
use Rattle.lfs_file.proofs.Common.{and_parts, ltb-true, Blocks, HasBlockSizes, BlockStates, block_capacity, skip_list_block_count, blocks_to_head, written_contents, skip_list_block_count-more, IsRestAt, growing_bytes, blocks_data, growing_size, unwritten_rest_block, unwritten_block, AreUsedAmong, contents_blocks, HaveBytesInForm, contents_form, written_form, stored_list_bytes, CanEndUnfinished, unfinished_bytes, unfinished_length}
use Rattle.lfs_device.specs.declared.geometry.Geometry.{Geometry}
use Rattle.lfs_file.specs.Growing.{fits_unwritten_block}
use Rattle.lfs_file.specs.declared.contents.WriterContents.TheVariants.{InHand}
use Rattle.lfs_file.specs.declared.rest.RestLocation.{RestLocation}
use Rattle.lfs_file.specs.declared.rest.RestLocation.TheVariants.{Closed, Shared, Handed, Held}
use Rattle.lfs_file.specs.declared.writes.PendingList.{PendingList}
use Rattle.lfs_file.proofs.Flights.{length-content, written_on}
use Rattle.lfs_file.proofs.Forms.{written_hand}
use Rattle.lfs_file.proofs.Pushed.{length-kept}
use Rattle.lfs_file.proofs.Sizes.{skip_list_block_count-within}

-- the block that waits is one, and more bytes can wait for it
one_waits : (t : RestLocation) → 0 < length (unwritten_rest_block t) → length (unwritten_rest_block t) ≡ 1
one_waits Closed none = absurd (omega arith)
one_waits (Shared b) none = absurd (omega arith)
one_waits (Handed b) some = refl
one_waits Held none = absurd (omega arith)

waits_on : (d : Blocks) (full head : ℕ) (rest bytes : List ℕ) (t : RestLocation) → 0 < length (unwritten_rest_block t) → IsRestAt d full head rest t → IsRestAt d full head (rest ++ bytes) t
waits_on d full head rest bytes Closed none stand = absurd (omega arith)
waits_on d full head rest bytes (Shared b) none stand = absurd (omega arith)
waits_on d full head rest bytes (Handed b) some stand = record { some = omega (arith, length-append rest bytes, stand.some); in_range = stand.in_range; apart = stand.apart }
waits_on d full head rest bytes Held none stand = absurd (omega arith)

-- the list in hand, with more bytes
abbrev pub longer_hand : PendingList → List ℕ → PendingList
longer_hand hand bytes = record hand { list = record hand.list { rest = hand.list.rest ++ bytes } }

module _ (map : BlockStates) (d : Blocks) (now : Geometry) (hand : PendingList) (bytes : List ℕ) (going : CanEndUnfinished map d now hand) (fits : fits_unwritten_block hand.list (length bytes) ≡ true) where
  waits : 0 < length (unwritten_block hand.list)
  waits = ltb-true _ _ (and_parts _ _ fits).0

  short : length hand.list.rest + length bytes < block_capacity hand.list.geometry.block_size hand.list.full
  short = ltb-true _ _ (and_parts _ _ fits).1

  size_longer : growing_size (longer_hand hand bytes).list ≡ growing_size hand.list + length bytes
  size_longer = omega (arith, length-append hand.list.rest bytes)

  -- it takes no further block
  many : hand.list.full + 1 ≡ skip_list_block_count hand.list.geometry.block_size (growing_size (longer_hand hand bytes).list)
  many =
      let kept = length-kept d hand.list in
      let one = one_waits hand.list.stand waits in
      let all = going.list.many in
      let large = hand.list.geometry.valid.no_smaller in
      let sum = length-append hand.list.rest bytes in
      let within = skip_list_block_count-within hand.list.geometry.block_size (growing_size (longer_hand hand bytes).list) (suc hand.list.full) large (let lt = short in omega arith) in
      let more = skip_list_block_count-more hand.list.geometry.block_size (growing_size hand.list) (growing_size (longer_hand hand bytes).list) (omega arith) in
      omega arith

  pub going_on : CanEndUnfinished map d now (longer_hand hand bytes)
  going_on =
      let begun = going.list.begun in
      record {
        geometry = going.geometry;
        list = record {
          begun = record {
            growing = record { chain = begun.growing.chain; known = begun.growing.known; stand = waits_on d _ _ hand.list.rest bytes hand.list.stand waits begun.growing.stand };
            marked = record { count = begun.marked.count; kept = begun.marked.kept; pending = begun.marked.pending };
            list = begun.list;
            apart = begun.apart;
            few = begun.few;
            front = begun.front;
            behind = begun.behind;
            taken = begun.taken;
            flying = begun.flying;
          };
          own = going.list.own;
          many = (let kept = length-kept d hand.list in let one = one_waits hand.list.stand waits in let all = many in omega arith);
          listed = going.list.listed;
        };
        some = (let sum = size_longer in let some = going.some in omega arith);
      }

  pub bytes_on : (count : ℕ) → HasBlockSizes now.block_size count d → unfinished_bytes d (longer_hand hand bytes) ≡ written_contents (unfinished_bytes d hand) (growing_size hand.list) bytes
  bytes_on count shape =
      let base = stored_list_bytes d hand.list.geometry.block_size hand.base in
      let full = blocks_data d (blocks_to_head d hand.list.full hand.list.head) in
      let here = subst (λ (k : Geometry). HasBlockSizes k.block_size count d) going.geometry shape in
      ap (λ l. l ++ drop (growing_size (longer_hand hand bytes).list) base) (sym (append_assoc full hand.list.rest bytes))
      ∙ ap (λ n. (growing_bytes d hand.list ++ bytes) ++ drop n base) size_longer
      ∙ written_on (growing_bytes d hand.list) base bytes (growing_size hand.list) (length-content d hand.list.geometry.block_size count hand.list hand.list.geometry.valid.no_smaller here going.list.begun.growing)

  pub written_within : (limit place count : ℕ) → HasBlockSizes now.block_size count d → growing_size hand.list ≡ place → limit < unfinished_length hand
      → HaveBytesInForm map d now (InHand (longer_hand hand bytes)) (written_contents (unfinished_bytes d hand) place bytes) (written_form limit place (length bytes) (contents_form (InHand hand)))
  written_within limit place count shape at large = record {
    stands = going_on;
    has = bytes_on count shape ∙ ap (λ n. written_contents (unfinished_bytes d hand) n bytes) at;
    form = written_hand limit place (length bytes) (growing_size hand.list) hand.base.size hand.base.in_flight _ _ _ large (let sum = size_longer in omega arith) (λ e. (refl, refl)) (λ ne. absurd (ne (omega arith)));
  }

  pub owned_within : AreUsedAmong map (contents_blocks d now.block_size (InHand hand)) (contents_blocks d now.block_size (InHand (longer_hand hand bytes)))
  owned_within = record { each = λ b has used. has }
