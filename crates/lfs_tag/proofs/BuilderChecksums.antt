-- The checksum entry of a commit's pages in a block.
use Rattle.std.proofs.Common.{◌≡◌, ℕ, zero, suc, ◌+◌, ◌*◌, ◌/◌, ◌%◌, ◌^◌, ◌<◌, ◌≤◌, Bool, true, false, cond, ltb, leb, ◌||◌, ◌⊎◌, inl, inr, List, length, take, drop, get_or, bit_xor, Option, Some, None, IfSome, refl, sym, ap, ◌∙◌, arith}
use Rattle.std.specs.Int.Bits.{xor_zero_l}
use Rattle.lfs_tag.proofs.Common.{nat_tests, xor_shr, IsValidTag, tag_type, tag_length, tag_class, tag_chunk, tag_data_size, tag_for_next_xor, make_tag, LogEntry, tag_at, is_valid_page_size, no_id, four_bytes_at, checksum_type, PartialCommit, checksum_start, padded_commit_end}
use Rattle.byteorder.specs.Endian.{big_number}
use Rattle.byteorder.specs.Numbers.{big_from-take}
use Rattle.lfs_model.specs.format.Log.{entry_at}
use Rattle.lfs_tag.proofs.BuilderCommits.{IsChecksumKind, class_of_kind, not_forward}

-- ---- the checksum's tag

page_bounds : (n : ℕ) → is_valid_page_size n ≡ true → (8 ≤ n) × (n ≤ 512)
page_bounds n h = (grind (arith, nat_tests, h), grind (arith, nat_tests, h))

-- its length, and the padding
pub record Padded (b : PartialCommit) : Type 0 where
  pub low : checksum_start b + 8 ≤ padded_commit_end b
  pub high : padded_commit_end b < checksum_start b + 8 + 512

pub padded : (b : PartialCommit) → is_valid_page_size b.page ≡ true → Padded b
padded b h =
    let bounds = page_bounds b.page h in
    record { low = omega arith; high = omega (arith, bounds.0, bounds.1) }

abbrev pub IsKind : ℕ → Type 0
IsKind kind = (kind ≡ 0x500) ⊎ (kind ≡ 0x501)

pub kind_cases : (next : Option (List ℕ)) → IsKind (checksum_type next)
kind_cases None = inl refl
kind_cases (Some bytes) = by_bit (ltb (get_or bytes 0 0) 128)
  where
    by_bit : (t : Bool) → IsKind (cond t 0x501 0x500)
    by_bit true = inr refl
    by_bit false = inl refl

pub kind_is : (kind size : ℕ) → IsKind kind → size < 2 ^ 10 → tag_type (make_tag kind no_id size) ≡ kind
kind_is kind size (inl h) small = omega arith
kind_is kind size (inr h) small = omega arith

pub kind_of_cases : (kind tag : ℕ) → IsKind kind → tag_type tag ≡ kind → IsChecksumKind tag
kind_of_cases kind tag (inl h) is = inl (is ∙ h)
kind_of_cases kind tag (inr h) is = inr (is ∙ h)

pub valid_is : (kind size : ℕ) → IsKind kind → size < 2 ^ 10 → IsValidTag (make_tag kind no_id size)
valid_is kind size (inl h) small = omega arith
valid_is kind size (inr h) small = omega arith

pub len_is : (kind size : ℕ) → size < 2 ^ 10 → tag_length (make_tag kind no_id size) ≡ size
len_is kind size small = omega arith

-- ---- nothing follows

-- what the bytes after the commit give as a tag
top_of : (tag stored turn : ℕ) → tag < 2 ^ 31 → stored / 2 ^ 31 + turn ≡ 1 → bit_xor stored (bit_xor tag (turn * 2 ^ 31)) / 2 ^ 31 ≡ 1
top_of tag stored turn lt is =
    let none : tag / 2 ^ 31 ≡ 0 = omega arith in
    let whole : turn * 2 ^ 31 / 2 ^ 31 ≡ turn = omega arith in
    let turned : bit_xor tag (turn * 2 ^ 31) / 2 ^ 31 ≡ turn = xor_shr tag (turn * 2 ^ 31) 31 ∙ rw (none, whole) (xor_zero_l turn) in
    xor_shr stored (bit_xor tag (turn * 2 ^ 31)) 31 ∙ rw turned (one (stored / 2 ^ 31) turn is)
  where
    one : (s t : ℕ) → s + t ≡ 1 → bit_xor s t ≡ 1
    one zero t h = let e : t ≡ 1 = omega arith in rw e refl
    one (suc s) t h = let e : t ≡ 0 = omega arith in let f : suc s ≡ 1 = omega arith in rw (e, f) refl

-- each of the bytes that were told is one
abbrev pub AreBytes : List ℕ → Type 0
AreBytes bytes = (i : ℕ) → get_or bytes i 0 < 256

-- the top bit of four bytes is that of the first
top_byte : (bytes : List ℕ) → AreBytes bytes → big_number 4 bytes / 2 ^ 31 ≡ get_or bytes 0 0 / 2 ^ 7
top_byte bytes h = omega (arith, h 0, h 1, h 2, h 3)

-- and the checksum's kind turns it to 1
turns : (bytes : List ℕ) → AreBytes bytes → big_number 4 bytes / 2 ^ 31 + checksum_type (Some bytes) % 2 ≡ 1
turns bytes h = grind (arith, nat_tests, top_byte bytes h, h 0)

-- what a checksum's tag carries: the lowest bit of its kind is in the top bit
carried_is : (kind size : ℕ) → IsKind kind → size < 2 ^ 10 → tag_for_next_xor (make_tag kind no_id size) ≡ bit_xor (make_tag kind no_id size) (kind % 2 * 2 ^ 31)
carried_is kind size k small =
    let is = kind_is kind size k small in
    let class : tag_class (make_tag kind no_id size) ≡ 5 = class_of_kind (make_tag kind no_id size) (kind_of_cases kind (make_tag kind no_id size) k is) in
    let bit : tag_chunk (make_tag kind no_id size) % 2 ≡ kind % 2 = ap (λ (n : ℕ). n % 2 ^ 8 % 2) is ∙ omega arith in
    let plain = not_forward (make_tag kind no_id size) (kind_of_cases kind (make_tag kind no_id size) k is) in
    rw (class, plain, bit) refl

pub nothing_follows : (block : List ℕ) (end size : ℕ) (next : Option (List ℕ)) → IfSome next AreBytes → size < 2 ^ 10 → four_bytes_at block end ≡ next
    → entry_at block end (tag_for_next_xor (make_tag (checksum_type next) no_id size)) ≡ None
unfolding entry_at
nothing_follows block end size None are small is =
    let short : ltb (length block) (end + 4) ≡ true = reported (ltb (length block) (end + 4)) is in
    rw short refl
  where
    reported : (t : Bool) → cond t None (Some (take 4 (drop end block))) ≡ None → t ≡ true
    reported true h = refl
    reported false h = absurd (cc)
nothing_follows block end size (Some bytes) are small is =
    let tag = make_tag (checksum_type (Some bytes)) no_id size in
    let held : take 4 (drop end block) ≡ bytes = reported (ltb (length block) (end + 4)) is in
    let number : big_number 4 (drop end block) ≡ big_number 4 bytes = sym (big_from-take 0 4 4 (drop end block) (omega arith)) ∙ ap (big_number 4) held in
    let high : tag_at block end (tag_for_next_xor tag) / 2 ^ 31 ≡ 1 =
    rw (number, carried_is (checksum_type (Some bytes)) size (kind_cases (Some bytes)) small)
    (top_of tag (big_number 4 bytes) (checksum_type (Some bytes) % 2) (valid_is (checksum_type (Some bytes)) size (kind_cases (Some bytes)) small) (turns bytes are)) in
    let invalid : leb (2 ^ 31) (tag_at block end (tag_for_next_xor tag)) ≡ true = grind (arith, nat_tests, high) in
    rw invalid (either (ltb (length block) (end + 4)) (ltb (length block) (end + 4 + tag_data_size (tag_at block end (tag_for_next_xor tag)))) _)
  where
    reported : (t : Bool) → cond t None (Some (take 4 (drop end block))) ≡ Some bytes → take 4 (drop end block) ≡ bytes
    reported true h = absurd (cc)
    reported false h = cc

    either : (a b : Bool) (e : LogEntry) → cond (a || (true || b)) None (Some e) ≡ None
    either true b e = refl
    either false b e = refl
