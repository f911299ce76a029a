-- The bytes of a commit are read back as that commit.
use Rattle.std.proofs.Common.{◌≡◌, subst, ℕ, ◌+◌, ◌-◌, ◌/◌, ◌^◌, ◌<◌, ◌≤◌, true, false, eqb, leb, ◌||◌, ◌⊎◌, inl, inr, List, [], ◌∷◌, ◌++◌, length, take, drop, slice_range, bit_xor, Some, refl, sym, ap, eq-eqb, ◌∙◌, arith, add-zero, append_assoc, length-append}
use Rattle.lfs_tag.proofs.Common.{xor_assoc, xor_zero_r, nat_tests, drop-drop, length-drop, sum_by-cons, take-append_seam, drop-append_seam, IsValidTag, tag_type, tag_length, tag_class, tag_data_size, tag_for_next_xor, LogEntry, entry_end, is_checksum_entry, IsCommit, encoded_entries, encoded_size, carried_tag, AreStorableEntries}
use Rattle.std.specs.Int.Bits.{xor_self}
use Rattle.byteorder.specs.Endian.{big_number, big_bytes, little_number, little_bytes}
use Rattle.byteorder.specs.Numbers.{big_number-reads_back, little_number-reads_back}
use Rattle.lfs_model.specs.format.Crc.{crc_of}
use Rattle.lfs_model.specs.format.Tag.{is_forward_checksum}
use Rattle.lfs_model.specs.format.Log.{entry_at, closes}
use Rattle.lfs_tag.proofs.Local.{from_lies}
use Rattle.lfs_tag.proofs.BuilderEntries.{carried_other}

-- the stored tag gives the tag back
tag_back : (tag before : ℕ) → tag ≡ bit_xor (bit_xor tag before) before
tag_back tag before = sym (xor_assoc tag before before ∙ ap (bit_xor tag) (xor_self before) ∙ xor_zero_r tag)

-- an entry is read where its tag and its bytes lie
entry_read : (block rest : List ℕ) (at before : ℕ) (e : LogEntry) → IsValidTag e.tag → length e.bytes ≡ tag_data_size e.tag → bit_xor e.tag before < 2 ^ 32
    → drop at block ≡ big_bytes 4 (bit_xor e.tag before) ++ (e.bytes ++ rest) → entry_at block at before ≡ Some e
entry_read block rest at before e valid size fits here =
    let long : length (drop at block) ≡ 4 + (length e.bytes + length rest) = ap length here ∙ omega (arith, length-append e.bytes rest) in
    let behind : drop (at + 4) block ≡ e.bytes ++ rest = sym (drop-drop 4 at block) ∙ ap (drop 4) here in
    from_lies block at before e (record {
      tag = tag_back e.tag before ∙ ap (λ (n : ℕ). bit_xor n before) (sym (ap (big_number 4) here ∙ big_number-reads_back 4 (bit_xor e.tag before) (e.bytes ++ rest) fits));
      valid = valid;
      size = size;
      within = omega (arith, long, length-drop at block);
      bytes = sym (ap (take (tag_data_size e.tag)) behind ∙ ap (λ (n : ℕ). take n (e.bytes ++ rest)) (sym size) ∙ take-append_seam e.bytes rest);
    })

-- one entry before a commit
commit_cons : (block : List ℕ) (start at before : ℕ) (e : LogEntry) (es : List LogEntry) (end last : ℕ) → entry_at block at before ≡ Some e → is_checksum_entry e ≡ false
    → IsCommit block start (entry_end at e) e.tag es end last → IsCommit block start at before (e ∷ es) end last
commit_cons block start at before e [] end last is other rest = absurd rest
commit_cons block start at before e (f ∷ es) end last is other rest = (is, other, rest)

-- entries as they are stored, before a checksum's
pub entries_read : (block rest : List ℕ) (start at before : ℕ) (es : List LogEntry) (ck : LogEntry) (end last : ℕ) → AreStorableEntries before es → drop at block ≡ encoded_entries before es ++ rest
    → IsCommit block start (at + encoded_size es) (carried_tag before es) (ck ∷ []) end last → IsCommit block start at before (es ++ ck ∷ []) end last
entries_read block rest start at before [] ck end last all here base = rw add-zero at base
entries_read block rest start at before (e ∷ es) ck end last all here base =
    let tag = big_bytes 4 (bit_xor e.tag before) in
    let later = encoded_entries (tag_for_next_xor e.tag) es in
    let more = later ++ rest in
    let here' : drop at block ≡ tag ++ (e.bytes ++ more) = here ∙ append_assoc (tag ++ e.bytes) later rest ∙ append_assoc tag e.bytes more in
    let read = entry_read block more at before e all.0.valid all.0.size all.0.fits here' in
    let behind : drop (entry_end at e) block ≡ more =
    sym (drop-drop (length e.bytes) (at + 4) block) ∙ ap (drop (length e.bytes)) (sym (drop-drop 4 at block) ∙ ap (drop 4) here') ∙ drop-append_seam e.bytes more in
    let place : at + encoded_size (e ∷ es) ≡ entry_end at e + encoded_size es = omega (arith, sum_by-cons (λ (e : LogEntry). 4 + length e.bytes) e es) in
    let ends = entries_read block rest start (entry_end at e) (tag_for_next_xor e.tag) es ck end last all.1 behind (rw place at base) in
    commit_cons block start at before e (es ++ ck ∷ []) end last read all.0.other
    (subst (λ (n : ℕ). IsCommit block start (entry_end at e) n (es ++ ck ∷ []) end last) (carried_other e all.0.other) ends)

-- ---- the checksum's entry

abbrev pub IsChecksumKind : ℕ → Type 0
IsChecksumKind tag = (tag_type tag ≡ 0x500) ⊎ (tag_type tag ≡ 0x501)

pub class_of_kind : (tag : ℕ) → IsChecksumKind tag → tag_class tag ≡ 5
class_of_kind tag (inl h) = ap (λ (k : ℕ). k / 2 ^ 8) h
class_of_kind tag (inr h) = ap (λ (k : ℕ). k / 2 ^ 8) h

-- a checksum is no forward checksum
pub not_forward : (tag : ℕ) → IsChecksumKind tag → is_forward_checksum tag ≡ false
not_forward tag (inl h) = rw h refl
not_forward tag (inr h) = rw h refl

kind_passes : (tag : ℕ) → IsChecksumKind tag → (eqb (tag_type tag) 0x500 || eqb (tag_type tag) 0x501) ≡ true
kind_passes tag (inl h) = rw h refl
kind_passes tag (inr h) = rw h refl

-- It closes the commit: all bytes from the start to the end of its tag have its checksum.
pub closing : (block front rest pad : List ℕ) (start at tag before sum : ℕ) → IsChecksumKind tag → IsValidTag tag → bit_xor tag before < 2 ^ 32 → sum < 2 ^ 32
    → 4 + length pad ≡ tag_length tag → tag_length tag ≤ 1022 → at ≡ start + length front → sum ≡ crc_of 0xffffffff (front ++ big_bytes 4 (bit_xor tag before))
    → drop start block ≡ front ++ (big_bytes 4 (bit_xor tag before) ++ ((little_bytes 4 sum ++ pad) ++ rest))
    → IsCommit block start at before (record { tag = tag; bytes = little_bytes 4 sum ++ pad } ∷ []) (at + 4 + tag_length tag) (tag_for_next_xor tag)
unfolding closes
closing block front rest pad start at tag before sum kind valid fits small size most place covers here =
    let e : LogEntry = record { tag = tag; bytes = little_bytes 4 sum ++ pad } in
    let stored_tag = big_bytes 4 (bit_xor tag before) in
    let behind : drop at block ≡ stored_tag ++ (e.bytes ++ rest) = ap (λ (n : ℕ). drop n block) place ∙ sym (drop-drop (length front) start block) ∙ ap (drop (length front)) here ∙ drop-append_seam front (stored_tag ++ (e.bytes ++ rest)) in
    let bytes_size : length e.bytes ≡ tag_data_size tag = grind (arith, nat_tests, size, most) in
    let read : entry_at block at before ≡ Some e = entry_read block rest at before e valid bytes_size fits behind in
    let sum_class : is_checksum_entry e ≡ true = rw (class_of_kind tag kind, not_forward tag kind) refl in
    let low : leb 4 (tag_length tag) ≡ true = grind (arith, nat_tests, size) in
    let high : leb (tag_length tag) 1022 ≡ true = grind (arith, nat_tests, most) in
    let range : slice_range block start (at + 4) ≡ front ++ stored_tag =
    ap (take (at + 4 - start)) (here ∙ sym (append_assoc front stored_tag (e.bytes ++ rest)))
    ∙ ap (λ (n : ℕ). take n ((front ++ stored_tag) ++ (e.bytes ++ rest))) (let n : at + 4 - start ≡ length (front ++ stored_tag) = omega (arith, place, length-append front stored_tag) in n)
    ∙ take-append_seam (front ++ stored_tag) (e.bytes ++ rest) in
    let right : little_number 4 e.bytes ≡ crc_of 0xffffffff (slice_range block start (at + 4)) = little_number-reads_back 4 sum pad small ∙ covers ∙ sym (ap (crc_of 0xffffffff) range) in
    let same : eqb (little_number 4 e.bytes) (crc_of 0xffffffff (slice_range block start (at + 4))) ≡ true = eq-eqb _ _ right in
    (read, sum_class, rw (kind_passes tag kind, low, high, same) refl, omega (arith, size), refl)
