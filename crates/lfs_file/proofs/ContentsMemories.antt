-- Writes to contents in memory, also if they move to a list.
use Rattle.std.proofs.Common.{ℕ, ◌≢◌, ap₂, refl, subst, inl, ◌≡◌, ◌+◌, ◌-◌, ◌≤◌, ⊎_elim, Bool, true, false, [], if◌then◌else◌, List, ◌++◌, length, take, drop, max, min, replicate, sym, ap, ◌∙◌, arith, length-append, append_assoc}
use Rattle.lfs_file.proofs.Common.{cases_lt, append-nil, take_all, drop_all, length-replicate, length-take-le, replicate-append-replicate, take_at, take-append-le, take-take, written_contents, zero_padded, take-add, Blocks, BlockStates, IsFree, IsInFlight, AreListBlocks, IsSkipList, blocks_to_head, skip_list_block_count, bytes_before_block, list_bytes, GrowingList, DiskHasList, IsAllBuffered, IsRestAt, growing_bytes, lacks_last_block, blocks_data, lasting_blocks, unwritten_rest_block, unwritten_block, growing_size_with, growing_size, IsListOrEmpty, blocks_of_list, buffered_bytes, IsUnfinishedTo, in_flight_limit, skip_list_block_count-more}
use Rattle.lfs_model.specs.format.Blocks.{overwritten_at as in_block}
use Rattle.lfs_device.specs.declared.geometry.Geometry.{Geometry}
use Rattle.std.specs.Prelude.{All, Contains, slice_range}
use Rattle.lfs_file.specs.declared.rest.RestLocation.{RestLocation}
use Rattle.lfs_file.specs.declared.rest.RestLocation.TheVariants.{Closed, Shared, Handed, Held}
use Rattle.lfs_file.specs.Contents.{IsInMemory}
use Rattle.lfs_file.proofs.Copies.{base_list, none_behind}
use Rattle.lfs_file.proofs.Ends.{none_chain}
use Rattle.lfs_file.specs.declared.stored_list.StoredList.{StoredList}
use Rattle.lfs_file.proofs.Flights.{zeros_not, as_block, at_end}

long_zeros : (n : ℕ) (old : List ℕ) → length (zero_padded n old) ≡ max n (length old)
long_zeros n old = omega (arith, length-append old (replicate (n - length old) 0), length-replicate {A = ℕ} (n - length old) 0)

-- more zeros behind a place
front_zeros : (at size : ℕ) (old : List ℕ) → at ≤ size → take at (zero_padded size old) ≡ take at (zero_padded at old)
front_zeros at size old le = ⊎_elim
    (λ less.
    take-append-le at old (replicate (size - length old) 0) (omega arith) ∙ sym (ap (take at) (zeros_not old at (omega arith))))
    (λ ge.
    let gap : ℕ = at - length old in
    let more : ℕ = size - at in
    let sum : size - length old ≡ gap + more = omega arith in
    let split : zero_padded size old ≡ zero_padded at old ++ replicate more 0 =
    ap (λ n. old ++ replicate n 0) sum ∙ ap (λ (l : List ℕ). old ++ l) (sym (replicate-append-replicate gap more 0)) ∙ sym (append_assoc old (replicate gap 0) (replicate more 0)) in
    ap (take at) split ∙ take_at (zero_padded at old) (replicate more 0) at (omega (arith, long_zeros at old))
    ∙ sym (take_all at (zero_padded at old) (omega (arith, long_zeros at old))))
    (cases_lt at (length old))

-- bytes over contents that were filled up to hold them
pub filled : (old now new bytes : List ℕ) (at size : ℕ) → size ≡ max (length old) (at + length bytes) → now ≡ take size (zero_padded size old) → new ≡ in_block now at bytes → new ≡ written_contents old at bytes
filled old now new bytes at size is grown wrote =
    let all : List ℕ = zero_padded size old in
    let whole : now ≡ all = grown ∙ take_all size all (omega (arith, long_zeros size old)) in
    wrote ∙ ap (λ (l : List ℕ). in_block l at bytes) whole ∙ ⊎_elim
    (λ past.
    let front = front_zeros at size old (omega arith) in
    ap (λ (l : List ℕ). l ++ bytes ++ drop (at + length bytes) all) front
    ∙ ap (λ (l : List ℕ). take at (zero_padded at old) ++ bytes ++ l) (drop_all (at + length bytes) all (omega (arith, long_zeros size old)) ∙ sym (drop_all (at + length bytes) old (omega arith))))
    (λ within.
    ap (λ (l : List ℕ). in_block l at bytes) (zeros_not old size (omega arith)) ∙ sym (as_block old at bytes (omega arith)))
    (cases_lt (length old) (at + length bytes))

-- what stands behind a place doesn't matter where the bytes reach the end
pub wrote_cut : (old bytes : List ℕ) (place keep : ℕ) → keep ≡ min place (length old) → length old ≤ place + length bytes → written_contents (take keep old) place bytes ≡ written_contents old place bytes
wrote_cut old bytes place keep is behind = ⊎_elim
    (λ less.
    let e : keep ≡ place = omega arith in
    let cut : List ℕ = take place old in
    let long : length cut ≡ place = length-take-le place old (omega arith) in
    ap (λ n. written_contents (take n old) place bytes) e
    ∙ at_end cut bytes place (omega arith)
    ∙ ap (λ (l : List ℕ). l ++ bytes) (zeros_not cut place (omega arith))
    ∙ sym (as_block old place bytes (omega arith) ∙ ap (λ (l : List ℕ). cut ++ bytes ++ l) (drop_all (place + length bytes) old (omega arith)) ∙ append-nil (cut ++ bytes)))
    (λ ge. ap (λ (l : List ℕ). written_contents l place bytes) (take_all keep old (omega arith)))
    (cases_lt place (length old))

-- room for a list is room for its first bytes, over no base
pub no_base_fits : (geometry now : Geometry) (s : StoredList) (used was all was_all size most : ℕ) → now ≡ geometry → s.in_flight ≡ false → size ≤ most → used ≡ was → all ≡ was_all → was + skip_list_block_count geometry.block_size most ≤ was_all
    → used + skip_list_block_count now.block_size size + in_flight_limit now.block_size s ≤ all
no_base_fits geometry now s used was all was_all size most same none le is count room =
    let first = skip_list_block_count-more now.block_size size most le in
    let e : skip_list_block_count now.block_size most ≡ skip_list_block_count geometry.block_size most = ap (λ (k : Geometry). skip_list_block_count k.block_size most) same in
    let f : in_flight_limit now.block_size s ≡ 0 = ap (λ (t : Bool). if t then skip_list_block_count now.block_size s.size else 0) none in
    omega arith

-- zeros behind the end
pub lengthened : (old zeroed new : List ℕ) (len at size : ℕ) → length old ≡ len → len ≤ size → zeroed ≡ old → at ≡ len → new ≡ written_contents zeroed at (replicate (size - len) 0) → new ≡ take size (zero_padded size old)
lengthened old zeroed new len at size is le same here wrote =
    let gap : List ℕ = replicate (size - len) 0 in
    let end : List ℕ = zero_padded size old in
    let sum : len ≡ length old = sym is in
    wrote ∙ ap (λ (l : List ℕ). written_contents l at gap) same ∙ ap (λ n. written_contents old n gap) here ∙ at_end old gap len (omega arith) ∙ ap (λ (l : List ℕ). l ++ gap) (zeros_not old len (omega arith))
    ∙ ap (λ n. old ++ replicate (size - n) 0) sum ∙ sym (take_all size end (omega (arith, long_zeros size old)))

-- the first bytes, where there are as many
pub shortened_bytes : (old : List ℕ) (size : ℕ) → size ≤ length old → take size old ≡ take size (zero_padded size old)
shortened_bytes old size le = sym (ap (take size) (zeros_not old size le))

-- bytes that stand in memory alone are as many as the list has
pub held_size : (e : GrowingList) → IsAllBuffered e → growing_size e ≡ length e.rest
held_size e held = omega (arith, ap (bytes_before_block e.geometry.block_size) held.none)

-- more of them are loaded
pub loaded : (bytes old part : List ℕ) (pos n : ℕ) → old ≡ take pos bytes → pos + n ≤ length bytes → part ≡ take n (drop pos bytes) → written_contents old pos part ≡ take (pos + n) bytes
loaded bytes old part pos n is le read =
    let long : length old ≡ pos = omega (arith, ap length is, length-take-le pos bytes (omega arith)) in
    at_end old part pos (omega arith) ∙ ap (λ (l : List ℕ). l ++ part) (zeros_not old pos (omega arith)) ∙ ap₂ (λ (a b : List ℕ). a ++ b) is read ∙ sym (take-add pos n bytes)

-- the list on the device as it is now
pub listed_on : (d e : Blocks) (geometry now : Geometry) (head size : ℕ) → e ≡ d → now ≡ geometry → 1 ≤ size → IsListOrEmpty d geometry.block_size head size → IsSkipList e now.block_size head size
listed_on d e geometry now head size same is some base =
    subst (λ x. IsSkipList x now.block_size head size) (sym same) (subst (λ (k : Geometry). IsSkipList d k.block_size head size) (sym is) (base_list d geometry.block_size head size some base))

pub bytes_on : (d e : Blocks) (geometry now : Geometry) (head size : ℕ) → e ≡ d → now ≡ geometry → list_bytes e now.block_size head size ≡ list_bytes d geometry.block_size head size
bytes_on d e geometry now head size same is = ap (λ x. list_bytes x now.block_size head size) same ∙ ap (λ (k : Geometry). list_bytes d k.block_size head size) is

-- ---- bytes in memory as the beginning of a list

never : (t : RestLocation) → (full : ℕ) → lacks_last_block t ≡ true → full ≡ 0 → (disk : Blocks) (head : ℕ) (rest : List ℕ) → IsRestAt disk full head rest t
never Closed full held none disk head rest = absurd (cc)
never (Shared b) full held none disk head rest = absurd (cc)
never (Handed b) full held none disk head rest = absurd (cc)
never Held full held none disk head rest = none

pending_held : (t : RestLocation) → lacks_last_block t ≡ true → unwritten_rest_block t ≡ []
pending_held Closed held = absurd (cc)
pending_held (Shared b) held = absurd (cc)
pending_held (Handed b) held = absurd (cc)
pending_held Held held = refl

pub held_pending : (g : GrowingList) → IsAllBuffered g → unwritten_block g ≡ []
held_pending g held = pending_held g.stand held.held

pub held_growing : (disk : Blocks) (g : GrowingList) → IsAllBuffered g → DiskHasList disk g
held_growing disk g held = record {
  chain = subst (λ n. AreListBlocks disk n g.head) (sym held.none) (none_chain disk g.head);
  known = λ row lt small within. absurd (omega (arith, within, ap (λ n. length (blocks_to_head disk n g.head)) held.none));
  stand = never g.stand g.full held.held held.none disk g.head g.rest;
}

pub held_kept : (disk : Blocks) (g : GrowingList) → IsAllBuffered g → lasting_blocks disk g ≡ []
held_kept disk g held = ap₂ (λ n (p : List ℕ). blocks_to_head disk n g.head ++ p) held.none (held_pending g held)

pub held_content : (disk : Blocks) (g : GrowingList) → IsAllBuffered g → growing_bytes disk g ≡ g.rest
held_content disk g held = ap (λ n. blocks_data disk (blocks_to_head disk n g.head) ++ g.rest) held.none

-- what a call finds of the bytes that it reads
pub part_read : (bytes buf found : List ℕ) (pos n part : ℕ) → part ≤ n → found ≡ take n buf → found ≡ slice_range bytes pos (pos + n) → take part buf ≡ take part (drop pos bytes)
part_read bytes buf found pos n part le is read =
    sym (take-take part n buf le) ∙ ap (take part) (sym is ∙ read ∙ ap (λ k. take k (drop pos bytes)) (let k : pos + n - pos ≡ n = omega arith in k)) ∙ take-take part n (drop pos bytes) le

-- over no base
pub begins_none : (map : BlockStates) (d : Blocks) (now : Geometry) (e : GrowingList) → IsInMemory map d now e → IsUnfinishedTo map d now (record { list = e; base = record { head = 0; size = 0; in_flight = false }; shared = 0 }) (length (buffered_bytes e)) (buffered_bytes e)
begins_none map d now e quiet =
    let g : GrowingList = e in
    let held = quiet.resting.held in
    let none : lasting_blocks d g ≡ [] = held_kept d g held in
    let block_size : ℕ = e.geometry.block_size in
    record {
      begun = record {
        geometry = quiet.resting.geometry;
        begun = record {
          growing = held_growing d g held;
          marked = record {
            count = quiet.idle.count;
            kept = subst (All (λ b. ¬ (IsFree map b))) (sym none) (λ k x l. absurd (omega (arith, l)));
            pending = subst (All (IsInFlight map)) (sym (held_pending g held)) (λ k x l. absurd (omega (arith, l)));
          };
          list = inl refl;
          apart = λ k x l. absurd (omega (arith, l));
          few = omega arith;
          front = refl;
          behind = subst (All (λ b. All (λ c. c ≢ b) (blocks_of_list d block_size 0 0))) (sym none) (λ k x l. absurd (omega (arith, l)));
          taken = λ b has used. absurd (omega (arith, (subst (λ (l : List ℕ). Contains l b) none has).1));
          flying = λ b is. absurd (quiet.idle.none b is);
        };
      };
      size = held_size e held;
      bytes = none_behind d block_size 0 0 (growing_size_with block_size g) (growing_bytes d g) (omega arith) ∙ held_content d g held;
    }
