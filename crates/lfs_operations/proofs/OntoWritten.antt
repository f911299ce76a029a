-- Steps that write blocks of pairs, and at most two blocks that were free.
use Rattle.lfs_operations.proofs.Common.{ℕ, zero, suc, ◌≡◌, ◌≤◌, ◌<◌, ◌⊎◌, inl, inr, ◌+◌, Bool, true, false, List, [], ◌∷◌, ◌++◌, length, get_or, insert, remove, set, length-set, refl, ap, ◌∙◌, arith, IsFree, ContentChange, Pair, pairs_blocks, address_blocks, Contains-occurrence_count, occurrence_count-Contains, occurrence_count, count_append, each_append, each_from_counted, each_weaker, KeptThread, ChangesThreadBlocks, back_pair, front_pair, empty_anchor, thread_pair, Contains, AreCommittedOrSplit, WritesThreadAndTwoFree, WritesPairAndTwoFree, AllocatesAtMostTwoBlocks, HasEndedMoveAt, content_after_move_ended, move_ending_written_pair, pairs_after_move_ended, WritesThreadAndFree, WritesPairsAndTwoFree}
use Rattle.lfs_operations.proofs.MovStep.{blocks_alike}
use Rattle.lfs_operations.proofs.Putting.{writes_trans, writes_among}

-- ---- blocks of pairs

blocks_set : (xs : List Pair) (n : ℕ) (p d : Pair) → p.at ≡ (get_or xs n d).at → pairs_blocks (set xs n p) ≡ pairs_blocks xs
blocks_set [] n p d e = refl
blocks_set (x ∷ xs) zero p d e = ap (λ (at : ℕ × ℕ). at.0 ∷ at.1 ∷ pairs_blocks xs) e
blocks_set (x ∷ xs) (suc n) p d e = ap (λ z. x.at.0 ∷ x.at.1 ∷ z) (blocks_set xs n p d e)

blocks_inserted : (xs : List Pair) (n : ℕ) (p : Pair) → n ≤ length xs → (b : ℕ) → occurrence_count b (pairs_blocks (insert xs n p)) ≡ occurrence_count b (address_blocks p.at) + occurrence_count b (pairs_blocks xs)
blocks_inserted xs zero p l b = count_append b (address_blocks p.at) (pairs_blocks xs)
blocks_inserted [] (suc n) p l b = absurd (omega arith)
blocks_inserted (x ∷ xs) (suc n) p l b =
    let k = blocks_inserted xs n p (omega arith) b in
    let e = count_append b (address_blocks x.at) (pairs_blocks (insert xs n p)) in
    let f = count_append b (address_blocks x.at) (pairs_blocks xs) in
    omega (arith, k, e, f)

blocks_removed : (xs : List Pair) (n b : ℕ) → occurrence_count b (pairs_blocks (remove xs n)) ≤ occurrence_count b (pairs_blocks xs)
blocks_removed [] zero b = omega arith
blocks_removed [] (suc n) b = omega arith
blocks_removed (x ∷ xs) zero b = let e = count_append b (address_blocks x.at) (pairs_blocks xs) in omega (arith, e)
blocks_removed (x ∷ xs) (suc n) b =
    let k = blocks_removed xs n b in
    let e = count_append b (address_blocks x.at) (pairs_blocks (remove xs n)) in
    let f = count_append b (address_blocks x.at) (pairs_blocks xs) in
    omega (arith, k, e, f)

-- those of one of them
pub there_counted : (xs : List Pair) (i : ℕ) (d : Pair) → i < length xs → (b : ℕ) → occurrence_count b (address_blocks (get_or xs i d).at) ≤ occurrence_count b (pairs_blocks xs)
there_counted [] i d l b = absurd (omega arith)
there_counted (x ∷ xs) zero d l b = let e = count_append b (address_blocks x.at) (pairs_blocks xs) in omega (arith, e)
there_counted (x ∷ xs) (suc i) d l b = let k = there_counted xs i d (omega arith) b in let e = count_append b (address_blocks x.at) (pairs_blocks xs) in omega (arith, k, e)

-- ---- steps

-- those of two pairs
pub writes_one : (t m : KeptThread) (one other : ℕ) → one < length t.pairs → other < length t.pairs → WritesPairsAndTwoFree t one other m → WritesThreadAndTwoFree t m
writes_one t m one other l k w = record {
  fresh = w.fresh;
  few = w.few;
  free = w.free;
  writes = writes_among (λ b some.
      let e = count_append b (pairs_blocks t.pairs) w.fresh in
      let f = there_counted t.pairs one empty_anchor l b in
      let g = there_counted t.pairs other empty_anchor k b in
      omega (arith, some, e, f, g)
      ) w.writes;
}

-- those of one pair
pub writes_of_pair : (t m : KeptThread) (index : ℕ) → index < length t.pairs → WritesPairAndTwoFree t index m → WritesThreadAndTwoFree t m
writes_of_pair t m index l w = record {
  fresh = w.fresh;
  few = w.few;
  free = w.free;
  writes = writes_among (λ b some.
      let e = count_append b (pairs_blocks t.pairs) w.fresh in
      let f = there_counted t.pairs index empty_anchor l b in
      omega (arith, some, e, f)
      ) w.writes;
}

-- those of a pair that is changed, or split in two
pub put_within : (old mid : KeptThread) (index : ℕ) (changes : List ContentChange) → index < length old.pairs → AreCommittedOrSplit old index changes mid → WritesPairAndTwoFree old index mid → AllocatesAtMostTwoBlocks old mid
unfolding writes_of_pair
put_within old mid index changes l (inl is) w = record {
  written = writes_of_pair old mid index l w;
  within = λ b h.
      let k = occurrence_count-Contains (pairs_blocks mid.pairs) b h in
      let same = ap (λ z. occurrence_count b (pairs_blocks z)) is.pairs ∙ ap (occurrence_count b) (blocks_set old.pairs index (record { at = (thread_pair old index).at; content = is.content }) empty_anchor refl) in
      let e = count_append b (pairs_blocks old.pairs) w.fresh in
      Contains-occurrence_count (pairs_blocks old.pairs ++ w.fresh) b (omega (arith, k, same, e));
}
put_within old mid index changes l (inr (large, (fresh, is))) w =
    let front = front_pair old index is.content is.cut fresh in
    let back = back_pair is.content is.cut fresh in
    record {
      written = writes_of_pair old mid index l (record { fresh = address_blocks fresh; few = omega arith; free = (is.free.first, (is.free.second, tt)); writes = is.writes });
      within = λ b h.
          let k = occurrence_count-Contains (pairs_blocks mid.pairs) b h in
          let n = length-set old.pairs index front in
          let same = ap (λ z. occurrence_count b (pairs_blocks z)) is.pairs ∙ blocks_inserted (set old.pairs index front) (index + 1) back (omega (arith, l, n)) b in
          let were = ap (occurrence_count b) (blocks_set old.pairs index front empty_anchor refl) in
          let e = count_append b (pairs_blocks old.pairs) (address_blocks fresh) in
          Contains-occurrence_count (pairs_blocks old.pairs ++ address_blocks fresh) b (omega (arith, k, same, were, e));
    }

-- and a pair of the thread then
pub more : (old mid new : KeptThread) (i : ℕ) → AllocatesAtMostTwoBlocks old mid → i < length mid.pairs → ChangesThreadBlocks (address_blocks (thread_pair mid i).at) mid new → WritesThreadAndTwoFree old new
more old mid new i w l second = record {
  fresh = w.written.fresh;
  few = w.written.few;
  free = w.written.free;
  writes = writes_trans w.written.writes (writes_among (λ b some.
      let k = there_counted mid.pairs i empty_anchor l b in
      occurrence_count-Contains (pairs_blocks old.pairs ++ w.written.fresh) b (w.within b (Contains-occurrence_count (pairs_blocks mid.pairs) b (omega (arith, some, k))))
      ) second);
}

fewer_ended : (t : KeptThread) (pair id : ℕ) (goes : Bool) (b : ℕ) → occurrence_count b (pairs_blocks (pairs_after_move_ended t pair id goes)) ≤ occurrence_count b (pairs_blocks t.pairs)
fewer_ended t pair id true b = blocks_removed t.pairs pair b
fewer_ended t pair id false b = let e = ap (occurrence_count b) (blocks_set t.pairs pair (record { at = (thread_pair t pair).at; content = content_after_move_ended t pair id }) empty_anchor refl) in omega (arith, e)

-- the pair that the second step writes
pub end_below : (n pair : ℕ) (goes : Bool) → pair < n → move_ending_written_pair pair goes < n
end_below n pair true l = omega (arith, l)
end_below n pair false l = l

pub end_within : (old mid new : KeptThread) (pair id : ℕ) (goes : Bool) → AllocatesAtMostTwoBlocks old mid → pair < length mid.pairs → HasEndedMoveAt mid pair id goes new → ChangesThreadBlocks (address_blocks (thread_pair mid (move_ending_written_pair pair goes)).at) mid new → AllocatesAtMostTwoBlocks old new
unfolding more
end_within old mid new pair id goes w l ended second = record {
  written = more old mid new (move_ending_written_pair pair goes) w (end_below (length mid.pairs) pair goes l) second;
  within = λ b h. w.within b (
      let k = occurrence_count-Contains (pairs_blocks new.pairs) b h in
      let same = ap (occurrence_count b) (blocks_alike (pairs_after_move_ended mid pair id goes) new.pairs ended.alike) in
      let f = fewer_ended mid pair id goes b in
      Contains-occurrence_count (pairs_blocks mid.pairs) b (omega (arith, k, same, f))
      );
}

-- ---- said of each block

-- it is a pair's, or was free
abbrev IsPairsOrFree : KeptThread → ℕ → Type 0
IsPairsOrFree t b = Contains (pairs_blocks t.pairs) b ⊎ IsFree t.map b

pub each_among : (old new : KeptThread) → WritesThreadAndTwoFree old new → WritesThreadAndFree old new
each_among old new w = record {
  blocks = pairs_blocks old.pairs ++ w.fresh;
  each = each_append (IsPairsOrFree old) (pairs_blocks old.pairs) w.fresh (each_from_counted (IsPairsOrFree old) (pairs_blocks old.pairs) (λ b some. inl (Contains-occurrence_count (pairs_blocks old.pairs) b some)))
      (each_weaker (IsFree old.map) (IsPairsOrFree old) (λ b free. inr free) w.fresh w.free);
  writes = w.writes;
}
