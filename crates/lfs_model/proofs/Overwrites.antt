-- Bytes written over others, and blocks that differ in one.
use Rattle.std.specs.Prelude.{All}
use Rattle.std.proofs.Common.{◌≡◌, ◌≢◌, ℕ, ◌+◌, ◌-◌, ◌<◌, ◌≤◌, List, [], ◌++◌, length, take, drop, slice_set, slice_range, inl, inr, refl, sym, ◌∙◌, ap, arith, append_assoc, length-append, length-drop}
use Rattle.lfs_model.proofs.Common.{drop-append-add, append-nil, take_at, take-take, drop-take, take-append-drop, drop-append-le, drop-drop, length-take-le, length-set, get_or-set_other, get_or-set_same, cases_eq, Blocks, block_bytes, overwritten_at, programmed, SameExcept, SameExceptBlocks}
use Rattle.std.proofs.lemmas.List.{drop_all, take_all, ext_get_or, set-get_or}
use Rattle.lfs_model.specs.format.Blocks.{SameOutside}

-- Bytes of one block.

pub SameOutside-refl : (low high : ℕ) (bytes : List ℕ) → SameOutside low high bytes bytes
SameOutside-refl low high bytes = record { below = refl; above = refl }

pub SameOutside-trans : {low high : ℕ} {old mid new : List ℕ} → SameOutside low high old mid → SameOutside low high mid new → SameOutside low high old new
SameOutside-trans first second = record { below = second.below ∙ first.below; above = second.above ∙ first.above }

-- within wider bounds
pub SameOutside-wider : {low high : ℕ} {old new : List ℕ} (from to : ℕ) → SameOutside low high old new → from ≤ low → high ≤ to → SameOutside from to old new
SameOutside-wider {low} {high} {old} {new} from to same before behind = record {
  below = sym (take-take from low new before) ∙ ap (take from) same.below ∙ take-take from low old before;
  above = sym (further new) ∙ ap (drop (to - high)) same.above ∙ further old;
}
  where
    further : (bytes : List ℕ) → drop (to - high) (drop high bytes) ≡ drop to bytes
    further bytes = drop-drop (to - high) high bytes ∙ ap (λ n. drop n bytes) (omega arith)

pub length-overwritten : (block : List ℕ) (at : ℕ) (new : List ℕ) → at + length new ≤ length block → length (overwritten_at block at new) ≡ length block
length-overwritten block at new fits =
    omega (arith, length-append (take at block ++ new) (drop (at + length new) block), length-append (take at block) new, length-take-le at block (omega arith), length-drop (at + length new) block)

-- what lies in front
pub take-overwritten : (block : List ℕ) (at : ℕ) (new : List ℕ) → at ≤ length block → take at (overwritten_at block at new) ≡ take at block
take-overwritten block at new fits =
    ap (take at) (append_assoc (take at block) new (drop (at + length new) block)) ∙ take_at (take at block) (new ++ drop (at + length new) block) at (length-take-le at block fits)

-- what comes after
pub drop-overwritten : (block : List ℕ) (at : ℕ) (new : List ℕ) → at ≤ length block → drop (at + length new) (overwritten_at block at new) ≡ drop (at + length new) block
drop-overwritten block at new fits =
    ap (λ n. drop n (overwritten_at block at new)) (omega (arith, length-append (take at block) new, length-take-le at block fits))
    ∙ drop-append-add (take at block ++ new) (drop (at + length new) block) 0

pub SameOutside-overwritten_at : (block : List ℕ) (at : ℕ) (new : List ℕ) → at ≤ length block → SameOutside at (at + length new) block (overwritten_at block at new)
SameOutside-overwritten_at block at new fits = record { below = take-overwritten block at new fits; above = drop-overwritten block at new fits }

pub overwritten_whole : (block new : List ℕ) → length new ≡ length block → overwritten_at block 0 new ≡ new
overwritten_whole block new size = ap (λ (l : List ℕ). new ++ l) (drop_all (0 + length new) block (omega arith)) ∙ append-nil new

-- one write after another is one write of both
pub overwritten_next : (block : List ℕ) (at : ℕ) (first second : List ℕ) → at ≤ length block
    → overwritten_at (overwritten_at block at first) (at + length first) second ≡ overwritten_at block at (first ++ second)
overwritten_next block at first second fits =
    let written : List ℕ = overwritten_at block at first in
    let more : at + length first + length second ≡ at + length (first ++ second) = omega (arith, length-append first second) in
    let front : take (at + length first) written ≡ take at block ++ first =
    take_at (take at block ++ first) (drop (at + length first) block) (at + length first) (omega (arith, length-append (take at block) first, length-take-le at block fits)) in
    let behind : drop (at + length first + length second) written ≡ drop (at + length (first ++ second)) block =
    sym (drop-drop (length second) (at + length first) written)
    ∙ ap (drop (length second)) (drop-overwritten block at first fits)
    ∙ drop-drop (length second) (at + length first) block
    ∙ ap (λ n. drop n block) more in
    ap (λ (l : List ℕ). l ++ second ++ drop (at + length first + length second) written) front
    ∙ ap (λ (l : List ℕ). take at block ++ first ++ second ++ l) behind
    ∙ ap (λ (l : List ℕ). l ++ drop (at + length (first ++ second)) block) (append_assoc (take at block) first second)

-- a part of a source is written after the part that is there already
pub take-overwritten_next : (block source : List ℕ) (off n : ℕ) → off ≤ length block → off + n ≤ length source → take off block ≡ take off source
    → take (off + n) (overwritten_at block off (take n (drop off source))) ≡ take (off + n) source
take-overwritten_next block source off n fits room so_far =
    take_at (take off block ++ take n (drop off source)) (drop (off + length (take n (drop off source))) block) (off + n) size
    ∙ ap (λ (l : List ℕ). l ++ take n (drop off source)) so_far
    ∙ ap (λ (l : List ℕ). l ++ take n (drop off source)) (sym (take-take off (off + n) source (omega arith)))
    ∙ ap (λ (l : List ℕ). take off (take (off + n) source) ++ l) (sym (drop-take off n source))
    ∙ take-append-drop off (take (off + n) source)
  where
    size : length (take off block ++ take n (drop off source)) ≡ off + n
    size = omega (arith, length-append (take off block) (take n (drop off source)), length-take-le off block fits, length-take-le n (drop off source) (omega (arith, length-drop off source)))

pub slice_range_whole : (block : List ℕ) (n : ℕ) → n ≡ length block → slice_range block 0 (0 + n) ≡ block
slice_range_whole block n is = take_all (0 + n - 0) block (omega arith)

-- Blocks that differ at most in one.

pub SameExcept-refl : (b : ℕ) (blocks : Blocks) → SameExcept b blocks blocks
SameExcept-refl b blocks = record { count = refl; size = refl; others = λ other ne. refl }

pub SameExcept-trans : {b : ℕ} {old mid new : Blocks} → SameExcept b old mid → SameExcept b mid new → SameExcept b old new
SameExcept-trans first second = record {
  count = second.count ∙ first.count;
  size = second.size ∙ first.size;
  others = λ other ne. second.others other ne ∙ first.others other ne;
}

-- the block has these bytes then
pub block_bytes-set : (blocks : Blocks) (b : ℕ) (bytes : List ℕ) → b < length blocks → block_bytes (slice_set blocks b bytes) b ≡ bytes
block_bytes-set blocks b bytes lt = get_or-set_same blocks b bytes [] lt

pub SameExcept-set : (blocks : Blocks) (b : ℕ) (bytes : List ℕ) → b < length blocks → length bytes ≡ length (block_bytes blocks b) → SameExcept b blocks (slice_set blocks b bytes)
SameExcept-set blocks b bytes lt size = record {
  count = length-set blocks b bytes;
  size = ap length (block_bytes-set blocks b bytes lt) ∙ size;
  others = λ other ne. get_or-set_other blocks b other bytes [] ne;
}

-- only the block's bytes are new
pub SameExcept-is : (b : ℕ) (old new : Blocks) (bytes : List ℕ) → b < length old → SameExcept b old new → block_bytes new b ≡ bytes → new ≡ slice_set old b bytes
SameExcept-is b old new bytes lt same is =
    ext_get_or [] new (slice_set old b bytes) (same.count ∙ sym (length-set old b bytes)) (λ k below. elim (cases_eq k b) [
      | inl at ↦ ap (block_bytes new) at ∙ is ∙ sym (block_bytes-set old b bytes lt) ∙ ap (block_bytes (slice_set old b bytes)) (sym at)
      | inr ne ↦ same.others k ne ∙ sym (get_or-set_other old b k bytes [] ne)
    ])

pub SameExcept-programmed : (blocks : Blocks) (b at : ℕ) (new : List ℕ) → b < length blocks → at + length new ≤ length (block_bytes blocks b) → SameExcept b blocks (programmed blocks b at new)
SameExcept-programmed blocks b at new lt fits = SameExcept-set blocks b (overwritten_at (block_bytes blocks b) at new) lt (length-overwritten (block_bytes blocks b) at new fits)

pub block_bytes-programmed : (blocks : Blocks) (b at : ℕ) (new : List ℕ) → b < length blocks → block_bytes (programmed blocks b at new) b ≡ overwritten_at (block_bytes blocks b) at new
block_bytes-programmed blocks b at new lt = block_bytes-set blocks b (overwritten_at (block_bytes blocks b) at new) lt

pub block_bytes-programmed_whole : (blocks : Blocks) (b : ℕ) (new : List ℕ) → b < length blocks → length new ≡ length (block_bytes blocks b) → block_bytes (programmed blocks b 0 new) b ≡ new
block_bytes-programmed_whole blocks b new lt size = block_bytes-programmed blocks b 0 new lt ∙ overwritten_whole (block_bytes blocks b) new size

pub SameOutside-programmed : (blocks : Blocks) (b at : ℕ) (new : List ℕ) → b < length blocks → at ≤ length (block_bytes blocks b) → SameOutside at (at + length new) (block_bytes blocks b) (block_bytes (programmed blocks b at new) b)
SameOutside-programmed blocks b at new lt fits = rw (block_bytes-programmed blocks b at new lt) (SameOutside-overwritten_at (block_bytes blocks b) at new fits)

-- a write of nothing
pub overwritten_none : (block : List ℕ) (at : ℕ) → overwritten_at block at [] ≡ block
overwritten_none block at =
    ap (λ (l : List ℕ). l ++ drop (at + 0) block) (append-nil (take at block))
    ∙ ap (λ n. take at block ++ drop n block) (omega arith)
    ∙ take-append-drop at block

pub programmed_none : (blocks : Blocks) (b at : ℕ) → programmed blocks b at [] ≡ blocks
programmed_none blocks b at = ap (slice_set blocks b) (overwritten_none (block_bytes blocks b) at) ∙ set-get_or blocks b []

-- one program after another is one program of both
pub programmed_next : (blocks : Blocks) (b at : ℕ) (first second : List ℕ) → b < length blocks → at + length first + length second ≤ length (block_bytes blocks b)
    → programmed (programmed blocks b at first) b (at + length first) second ≡ programmed blocks b at (first ++ second)
programmed_next blocks b at first second lt room =
    let mid : Blocks = programmed blocks b at first in
    let there : b < length mid = omega (arith, length-set blocks b (overwritten_at (block_bytes blocks b) at first)) in
    let fits : at + length first ≤ length (block_bytes blocks b) = omega arith in
    let size : length (block_bytes mid b) ≡ length (block_bytes blocks b) = ap length (block_bytes-programmed blocks b at first lt) ∙ length-overwritten (block_bytes blocks b) at first fits in
    SameExcept-is b blocks (programmed mid b (at + length first) second) (overwritten_at (block_bytes blocks b) at (first ++ second)) lt
    (SameExcept-trans (SameExcept-programmed blocks b at first lt fits) (SameExcept-programmed mid b (at + length first) second there (omega (arith, size))))
    (block_bytes-programmed mid b (at + length first) second there
    ∙ ap (λ (l : List ℕ). overwritten_at l (at + length first) second) (block_bytes-programmed blocks b at first lt)
    ∙ overwritten_next (block_bytes blocks b) at first second (omega arith))

-- a write of more, of which the rest is what was there
pub overwritten_beginning : (block : List ℕ) (at n : ℕ) (new : List ℕ) → length new ≤ n → at + n ≤ length block → overwritten_at block at (new ++ drop (length new) (take n (drop at block))) ≡ overwritten_at block at new
overwritten_beginning block at n new short fits =
    let there : List ℕ = drop at block in
    let rest : List ℕ = drop (length new) (take n there) in
    let part : length (take n there) ≡ n = length-take-le n there (omega (arith, length-drop at block)) in
    let long : at + length (new ++ rest) ≡ at + n = omega (arith, length-append new rest, length-drop (length new) (take n there)) in
    let joined : rest ++ drop (at + length (new ++ rest)) block ≡ drop (at + length new) block =
    ap (λ k. rest ++ drop k block) long
    ∙ ap (λ (l : List ℕ). rest ++ l) (sym (drop-drop n at block))
    ∙ sym (drop-append-le (length new) (take n there) (drop n there) (omega (arith, part)))
    ∙ ap (drop (length new)) (take-append-drop n there)
    ∙ drop-drop (length new) at block in
    ap (λ (l : List ℕ). l ++ drop (at + length (new ++ rest)) block) (sym (append_assoc (take at block) new rest))
    ∙ append_assoc (take at block ++ new) rest (drop (at + length (new ++ rest)) block)
    ∙ ap (λ (l : List ℕ). take at block ++ new ++ l) joined

-- Blocks that differ at most in some.

pub SameExceptBlocks-refl : (bs : List ℕ) (blocks : Blocks) → SameExceptBlocks bs blocks blocks
SameExceptBlocks-refl bs blocks = record { count = refl; sizes = λ b. refl; others = λ other apart. refl }

-- one of them changes
pub SameExceptBlocks-one : (bs : List ℕ) (block : ℕ) (old mid new : Blocks) → ((other : ℕ) → All (λ b. b ≢ other) bs → block ≢ other) → SameExceptBlocks bs old mid → SameExcept block mid new → SameExceptBlocks bs old new
SameExceptBlocks-one bs block old mid new among first second = record {
  count = second.count ∙ first.count;
  sizes = λ b. elim (cases_eq b block) [
    | inl is ↦ ap (λ k. length (block_bytes new k)) is ∙ second.size ∙ ap (λ k. length (block_bytes mid k)) (sym is) ∙ first.sizes b
    | inr ne ↦ ap length (second.others b ne) ∙ first.sizes b
  ];
  others = λ other apart. second.others other (λ is. among other apart (sym is)) ∙ first.others other apart;
}

pub SameExceptBlocks-trans : {bs : List ℕ} {old mid new : Blocks} → SameExceptBlocks bs old mid → SameExceptBlocks bs mid new → SameExceptBlocks bs old new
SameExceptBlocks-trans first second = record {
  count = second.count ∙ first.count;
  sizes = λ b. second.sizes b ∙ first.sizes b;
  others = λ other apart. second.others other apart ∙ first.others other apart;
}

-- at most in more
pub SameExceptBlocks-wider : {bs : List ℕ} (cs : List ℕ) {old new : Blocks} → ((other : ℕ) → All (λ c. c ≢ other) cs → All (λ c. c ≢ other) bs) → SameExceptBlocks bs old new → SameExceptBlocks cs old new
SameExceptBlocks-wider cs among same = record { count = same.count; sizes = same.sizes; others = λ other apart. same.others other (among other apart) }
