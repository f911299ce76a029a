-- Reads that continue from a cached block.
use Rattle.std.proofs.Common.{ℕ, ◌≡◌, ◌+◌, ◌*◌, ◌-◌, ◌<◌, ◌≤◌, ◌^◌, min, List, Result, Ok, Err, subst, arith}
use Rattle.std.specs.Prelude.{OnOk}
use Rattle.lfs_file.proofs.Common.{Blocks, IsByteInListBlock, skip_list_block_count, blocks_to_head, CallEvent, read_count, AreKnownBlocks, IsKnownIndex, ReadsKnownList}
use Rattle.lfs_file.specs.Known.{FindsFew, ReadsFewPointers}
use Rattle.lfs_file.specs.declared.known.IndexCache.{IndexCache}

-- a block was found, and so many reads came after
pub record FindsWithMoreReads (known : IndexCache) (count last : ℕ) (later : IndexCache) (old new : List CallEvent) (more : ℕ) : Type 0 where
  pub now : IsKnownIndex later last
  pub few : (m : ℕ) → count ≤ 2 ^ m → read_count new ≤ read_count old + 2 * m + more
  pub near : (i : ℕ) → IsKnownIndex known i → last ≤ i → i < count → read_count new ≤ read_count old + (i - last) + more

-- known blocks of a list whose length is said in another way
pub known_by : (d : Blocks) (head n m : ℕ) (known : IndexCache) → n ≡ m → AreKnownBlocks (blocks_to_head d n head) known → AreKnownBlocks (blocks_to_head d m head) known
known_by d head n m known e there = subst (λ k. AreKnownBlocks (blocks_to_head d k head) known) e there

pub found_by : {known later : IndexCache} {n m last more : ℕ} {old new : List CallEvent} → n ≡ m → FindsWithMoreReads known n last later old new more → FindsWithMoreReads known m last later old new more
found_by {known} {later} {last = last} {more = more} {old = old} {new = new} e there = subst (λ k. FindsWithMoreReads known k last later old new more) e there

pub found_at : {known later : IndexCache} {count last other more less : ℕ} {old new : List CallEvent} → last ≡ other → more ≡ less → FindsWithMoreReads known count last later old new more → FindsWithMoreReads known count other later old new less
found_at {known} {later} {count} {last} {other} {more} {less} {old} {new} e f there = subst (λ k. FindsWithMoreReads known count k later old new less) e (subst (λ k. FindsWithMoreReads known count last later old new k) f there)

pub found_first : {known later : IndexCache} {old new : List CallEvent} {head last count : ℕ} → head + 1 ≡ count → FindsFew known head last later old new → FindsWithMoreReads known count last later old new 0
found_first is found = record {
  now = found.now;
  few = λ m le. (let k = found.few m (omega arith) in omega arith);
  near = λ i there low high. (let k = found.near i there low (omega arith) in omega arith);
}

pub read_more : {known later : IndexCache} {old mid new : List CallEvent} {last count more : ℕ} (n : ℕ) → read_count new ≤ read_count mid + n → FindsWithMoreReads known count last later old mid more → FindsWithMoreReads known count last later old new (more + n)
read_more n few found = record {
  now = found.now;
  few = λ m le. (let k = found.few m le in omega arith);
  near = λ i there low high. (let k = found.near i there low high in omega arith);
}

pub all_read : {known later : IndexCache} {old new : List CallEvent} {first last count more : ℕ} (bytes : ℕ) → more ≤ 2 * (last - first) + 1 → FindsWithMoreReads known count last later old new more → ReadsFewPointers known count first last bytes later old new
all_read bytes few found = record {
  now = λ some. found.now;
  few = λ m le. (let k = found.few m le in omega arith);
  near = λ i there low high. (let k = found.near i there low high in omega arith);
}

-- where nothing was to be read
pub none_read : {known : IndexCache} {old : List CallEvent} {first last count : ℕ} (bytes : ℕ) → bytes ≡ 0 → ReadsFewPointers known count first last bytes known old old
none_read bytes none = record {
  now = λ some. absurd (omega arith);
  few = λ m le. omega arith;
  near = λ i there low high. omega arith;
}

-- the bound of a read that begins with no known blocks
pub few_at_once : {X : Type 0} (known later : IndexCache) (block_size size position count : ℕ) (old new : List CallEvent) (result : Result ℕ X) (m first last off end : ℕ) → OnOk result (ReadsKnownList block_size size position count known later old new)
    → skip_list_block_count block_size size ≤ 2 ^ m → IsByteInListBlock block_size position first off → IsByteInListBlock block_size (position + min count (size - position) - 1) last end
    → OnOk result (read_count new ≤ read_count old + 2 * m + 2 * (last - first) + 1)
few_at_once known later block_size size position count old new (Ok n) m first last off end reads le is there = (reads first last off end is there).few m le
few_at_once known later block_size size position count old new (Err e) m first last off end reads le is there = tt
