-- One more entry in a commit.
use Rattle.std.proofs.Common.{◌≡◌, false, ℕ, ◌+◌, ◌-◌, ◌≤◌, ◌^◌, List, [], ◌∷◌, ◌++◌, length, take, min, bit_xor, Option, Some, None, refl, sym, ap, ◌∙◌, arith, append_assoc, length-append}
use Rattle.lfs_tag.proofs.Common.{append-nil, sum_by-cons, overwritten_at, tag_for_next_xor, LogEntry, is_checksum_entry, encoded_entries, encoded_size, PartialCommit, commit_adding_entry, entries_start, checksum_start, carried_tag, revision_bytes, checksummed_bytes, IsStorableEntry, AreStorableEntries, BuildsCommit}
use Rattle.std.proofs.lemmas.List.Sums.{sum_by_push}
use Rattle.byteorder.specs.Endian.{big_bytes}
use Rattle.lfs_tag.proofs.BuilderWrites.{take-overwritten}

-- what isn't a checksum carries its tag
pub carried_other : (e : LogEntry) → is_checksum_entry e ≡ false → tag_for_next_xor e.tag ≡ e.tag
carried_other e other = rw other refl

stored-push : (before : ℕ) (es : List LogEntry) (e : LogEntry) → encoded_entries before (es ++ e ∷ []) ≡ encoded_entries before es ++ (big_bytes 4 (bit_xor e.tag (carried_tag before es)) ++ e.bytes)
stored-push before [] e = append-nil (big_bytes 4 (bit_xor e.tag before) ++ e.bytes)
stored-push before (d ∷ es) e =
    let first = big_bytes 4 (bit_xor d.tag before) ++ d.bytes in
    ap (λ (l : List ℕ). first ++ l) (stored-push (tag_for_next_xor d.tag) es e)
    ∙ sym (append_assoc first (encoded_entries (tag_for_next_xor d.tag) es) (big_bytes 4 (bit_xor e.tag (carried_tag (tag_for_next_xor d.tag) es)) ++ e.bytes))

carried_tag-push : (before : ℕ) (es : List LogEntry) (e : LogEntry) → carried_tag before (es ++ e ∷ []) ≡ tag_for_next_xor e.tag
carried_tag-push before [] e = refl
carried_tag-push before (d ∷ es) e = carried_tag-push (tag_for_next_xor d.tag) es e

AreStorableEntries-push : (before : ℕ) (es : List LogEntry) (e : LogEntry) → AreStorableEntries before es → IsStorableEntry (carried_tag before es) e → AreStorableEntries before (es ++ e ∷ [])
AreStorableEntries-push before [] e all one = (one, tt)
AreStorableEntries-push before (d ∷ es) e all one = (all.0, AreStorableEntries-push (tag_for_next_xor d.tag) es e all.1 one)

encoded_size-push : (es : List LogEntry) (e : LogEntry) → encoded_size (es ++ e ∷ []) ≡ encoded_size es + (4 + length e.bytes)
encoded_size-push es e = sum_by_push (λ (e : LogEntry). 4 + length e.bytes) es e

pub length-stored : (before : ℕ) (es : List LogEntry) → length (encoded_entries before es) ≡ encoded_size es
length-stored before [] = refl
length-stored before (e ∷ es) = omega (arith, length-append e.bytes (encoded_entries (tag_for_next_xor e.tag) es), length-stored (tag_for_next_xor e.tag) es, sum_by-cons (λ (e : LogEntry). 4 + length e.bytes) e es)

pub length-checksummed_bytes : (b : PartialCommit) → length (checksummed_bytes b) ≡ checksum_start b
length-checksummed_bytes b = by_revision b.revision
  where
    by_revision : (r : Option ℕ) → length (revision_bytes r ++ encoded_entries b.previous b.entries) ≡ entries_start r + encoded_size b.entries
    by_revision None = length-stored b.previous b.entries ∙ omega arith
    by_revision (Some r) = omega (arith, length-stored b.previous b.entries)

checksummed_bytes-push : (b : PartialCommit) (e : LogEntry) → checksummed_bytes (commit_adding_entry e b) ≡ checksummed_bytes b ++ (big_bytes 4 (bit_xor e.tag (carried_tag b.previous b.entries)) ++ e.bytes)
checksummed_bytes-push b e =
    ap (λ (l : List ℕ). revision_bytes b.revision ++ l) (stored-push b.previous b.entries e)
    ∙ sym (append_assoc (revision_bytes b.revision) (encoded_entries b.previous b.entries) (big_bytes 4 (bit_xor e.tag (carried_tag b.previous b.entries)) ++ e.bytes))

pub push_keeps : (page len last encoded_entries end : ℕ) (buf now : List ℕ) (b : PartialCommit) (e : LogEntry) → BuildsCommit page len last buf b → IsStorableEntry last e → encoded_entries ≡ bit_xor e.tag last
    → end ≡ min (len + 4 + length e.bytes) (2 ^ 64 - 1) → (end ≤ length buf → end ≡ len + 4 + length e.bytes) → length now ≡ length buf
    → (end ≤ length buf → now ≡ overwritten_at buf len (big_bytes 4 encoded_entries ++ e.bytes)) → BuildsCommit page end e.tag now (commit_adding_entry e b)
push_keeps page len last encoded_entries end buf now b e k one is ends exact same writes =
    let tag_is : encoded_entries ≡ bit_xor e.tag (carried_tag b.previous b.entries) = is ∙ ap (bit_xor e.tag) k.last_is in
    record {
      page_is = k.page_is;
      power = k.power;
      room = same ∙ k.room;
      len_is = omega (arith, ends, k.len_is, encoded_size-push b.entries e);
      last_is = sym (carried_tag-push b.previous b.entries e ∙ carried_other e one.other);
      revision = k.revision;
      entries = AreStorableEntries-push b.previous b.entries e k.entries (rw k.last_is at one);
      bytes = λ le.
          let fits : end ≤ length buf = omega (arith, le, same) in
          let stop : end ≡ len + length (big_bytes 4 encoded_entries ++ e.bytes) = omega (arith, exact fits) in
          ap (take end) (writes fits) ∙ take-overwritten len end buf (big_bytes 4 encoded_entries ++ e.bytes) (omega (arith, fits, exact fits)) stop
          ∙ ap (λ (l : List ℕ). l ++ (big_bytes 4 encoded_entries ++ e.bytes)) (k.bytes (omega (arith, fits, exact fits)))
          ∙ ap (λ (n : ℕ). checksummed_bytes b ++ (big_bytes 4 n ++ e.bytes)) tag_is ∙ sym (checksummed_bytes-push b e);
    }
