-- A skip list is well formed where tests say so, which compute on literal blocks.
use Rattle.std.proofs.Common.{ℕ, zero, suc, ◌≡◌, ◌<◌, ◌*◌, ◌-◌, ◌^◌, ◌==◌, Bool, true, ◌&&◌, List, length, refl, arith, inl, inr, eqb-true, ltb-true, leb-true, eq-eqb, lt-ltb, le-leb}
use Rattle.std.specs.Prelude.{slice_index, nat_lt, nat_le}
use Rattle.lfs_model.proofs.Common.{list_all, and_parts, and_from, cases_lt, Blocks, block_bytes, word_at, pointer_count, skip_list_block_count, blocks_to_head, IsSkipList}
use Rattle.lfs_model.proofs.Acceptance.{all_from, all_to, are_apart, distinct_from, apart_from}

-- the test passes below a number
abbrev pub all_below : (ℕ → Bool) → ℕ → Bool
all_below p zero = true
all_below p (suc n) = p n && all_below p n

pub below_from : (p : ℕ → Bool) (n : ℕ) → all_below p n ≡ true → (i : ℕ) → i < n → p i ≡ true
below_from p zero e i l = absurd (omega arith)
below_from p (suc n) e i l =
    let both = and_parts (p n) (all_below p n) e in
    elim (cases_lt i n) [
      | inl less ↦ below_from p n both.1 i less
      | inr more ↦ let is : i ≡ n = omega arith in rw is both.0
    ]

abbrev points : Blocks → List ℕ → ℕ → ℕ → Bool
points disk bs i k = word_at (block_bytes disk (slice_index bs i)) (4 * k) == slice_index bs (i - 2 ^ k)

abbrev pub is_list : Blocks → ℕ → ℕ → ℕ → Bool
is_list disk block_size head size =
    nat_le 1 size && (nat_lt size (2 ^ 31)
    && (list_all (λ b. nat_lt b (length disk)) (blocks_to_head disk (skip_list_block_count block_size size) head)
    && (are_apart (blocks_to_head disk (skip_list_block_count block_size size) head)
    && all_below (λ i. all_below (points disk (blocks_to_head disk (skip_list_block_count block_size size) head) i) (pointer_count i)) (skip_list_block_count block_size size))))

pub list_from : (disk : Blocks) (block_size head size : ℕ) → is_list disk block_size head size ≡ true → IsSkipList disk block_size head size
list_from disk block_size head size e =
    let n = skip_list_block_count block_size size in
    let bs = blocks_to_head disk n head in
    let pointers = all_below (λ i. all_below (points disk bs i) (pointer_count i)) n in
    let one = and_parts (nat_le 1 size) (nat_lt size (2 ^ 31) && (list_all (λ b. nat_lt b (length disk)) bs && (are_apart bs && pointers))) e in
    let two = and_parts (nat_lt size (2 ^ 31)) (list_all (λ b. nat_lt b (length disk)) bs && (are_apart bs && pointers)) one.1 in
    let three = and_parts (list_all (λ b. nat_lt b (length disk)) bs) (are_apart bs && pointers) two.1 in
    let four = and_parts (are_apart bs) pointers three.1 in
    record {
      size_low = leb-true 1 size one.0;
      size_high = ltb-true size (2 ^ 31) two.0;
      blocks = record {
        in_range = all_from (λ b. nat_lt b (length disk)) (λ b. b < length disk) (λ b. ltb-true b (length disk)) bs three.0;
        distinct = distinct_from bs four.0;
        pointers = λ i k l m.
            let here = below_from (λ i. all_below (points disk bs i) (pointer_count i)) n four.1 i l in
            eqb-true (word_at (block_bytes disk (slice_index bs i)) (4 * k)) (slice_index bs (i - 2 ^ k)) (below_from (points disk bs i) (pointer_count i) here k m);
      };
    }

below_to : (p : ℕ → Bool) (n : ℕ) → ((i : ℕ) → i < n → p i ≡ true) → all_below p n ≡ true
below_to p zero h = refl
below_to p (suc n) h = and_from (p n) (all_below p n) (h n (omega arith)) (below_to p n (λ i l. h i (omega arith)))

pub list_to : (disk : Blocks) (block_size head size : ℕ) → IsSkipList disk block_size head size → is_list disk block_size head size ≡ true
list_to disk block_size head size h =
    let n = skip_list_block_count block_size size in
    let bs = blocks_to_head disk n head in
    and_from _ _ (le-leb 1 size h.size_low) (and_from _ _ (lt-ltb size (2 ^ 31) h.size_high)
    (and_from _ _ (all_to (λ b. nat_lt b (length disk)) (λ b. b < length disk) (λ b. lt-ltb b (length disk)) bs h.blocks.in_range)
    (and_from _ _ (apart_from bs h.blocks.distinct)
    (below_to (λ i. all_below (points disk bs i) (pointer_count i)) n
    (λ i l. below_to (points disk bs i) (pointer_count i) (λ k m. eq-eqb (word_at (block_bytes disk (slice_index bs i)) (4 * k)) (slice_index bs (i - 2 ^ k)) (h.blocks.pointers i k l m)))))))
