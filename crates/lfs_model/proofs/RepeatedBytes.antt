-- A block of one repeated byte has no commit. Its first tag is an invalid one, or a checksum of no known type, or the one after
-- it is invalid, since it is decoded with the same bytes.
use Rattle.std.proofs.Common.{ℕ, zero, suc, ◌≡◌, ◌-◌, ◌^◌, ◌<◌, ◌≤◌, ◌==◌, ◌||◌, ◌&&◌, not, Bool, true, false, List, replicate, Some, None, refl, sym, ap, ◌∙◌, arith, bit_xor}
use Rattle.std.specs.Prelude.{nat_le}
use Rattle.lfs_model.proofs.Common.{option_map, and_parts, nat_tests, tag_type, LogEntry, CommitSequence, with_entry, entry_end, is_checksum_entry, commit_at}
use Rattle.std.proofs.lemmas.List.{drop-replicate, length-replicate}
use Rattle.byteorder.specs.Endian.{big_number}
use Rattle.lfs_model.specs.format.Tag.{is_commit_end}
use Rattle.lfs_model.specs.format.Log.{entry_at, closes, chain_of, log_if_committed, block_revision}
use Rattle.lfs_model.specs.crash.Stops.{HasNoLog}
use Rattle.lfs_model.proofs.Chains.{lies, commit_none, commit_refused, commit_on, chain_none}
use Rattle.lfs_model.proofs.Skips.{all_below, below_from}

-- the stored tag of four such bytes
abbrev word : ℕ → ℕ
word byte = big_number 4 (replicate 4 byte)

abbrev first_tag : ℕ → ℕ
first_tag byte = bit_xor (word byte) 0xffffffff

-- the first tag ends no commit rightly, and the one after it is invalid
abbrev ends : ℕ → Bool
ends byte =
    not (is_commit_end (first_tag byte) && (tag_type (first_tag byte) == 0x500 || tag_type (first_tag byte) == 0x501))
    && nat_le (2 ^ 31) (bit_xor (word byte) (first_tag byte))

each_byte : all_below ends 256 ≡ true
each_byte = refl

word_of : (n byte : ℕ) → 4 ≤ n → big_number 4 (replicate n byte) ≡ word byte
word_of zero byte le = absurd (omega arith)
word_of (suc zero) byte le = absurd (omega arith)
word_of (suc (suc zero)) byte le = absurd (omega arith)
word_of (suc (suc (suc zero))) byte le = absurd (omega arith)
word_of (suc (suc (suc (suc n)))) byte le = refl

tag_of : (n byte at before : ℕ) (e : LogEntry) → entry_at (replicate n byte) at before ≡ Some e → e.tag ≡ bit_xor (word byte) before
tag_of n byte at before e is =
    let l = lies (replicate n byte) at before e is in
    l.tag ∙ ap (λ x. bit_xor x before) (ap (big_number 4) (drop-replicate at n byte) ∙ word_of (n - at) byte (omega (arith, l.within, length-replicate n byte)))

-- what the test says
ended : (a b : Bool) (next : ℕ) → (not (a && b) && nat_le (2 ^ 31) next) ≡ true → (a ≡ true → b ≡ false) × (2 ^ 31 ≤ next)
ended a b next is =
    let both = and_parts (not (a && b)) (nat_le (2 ^ 31) next) is in
    (other a b both.0, grind (arith, nat_tests, both.1))
  where
    other : (a b : Bool) → not (a && b) ≡ true → a ≡ true → b ≡ false
    other true true is here = absurd (cc)
    other true false is here = refl
    other false b is here = absurd (cc)

not_closed : (block : List ℕ) (start at : ℕ) (e : LogEntry) → (tag_type e.tag == 0x500 || tag_type e.tag == 0x501) ≡ false → closes block start at e ≡ false
unfolding closes
not_closed block start at e other = rw other refl

no_second : (n byte at : ℕ) (e : LogEntry) → e.tag ≡ first_tag byte → 2 ^ 31 ≤ bit_xor (word byte) (first_tag byte) → entry_at (replicate n byte) at e.tag ≡ None
no_second n byte at e is invalid =
    elim (entry_at (replicate n byte) at e.tag) as (λ o. entry_at (replicate n byte) at e.tag ≡ o → o ≡ None) [
      | None ↦ λ here. refl
      | Some f ↦ λ here.
          let tag : f.tag ≡ bit_xor (word byte) (first_tag byte) = tag_of n byte at e.tag f here ∙ ap (bit_xor (word byte)) is in
          absurd (omega (arith, tag, invalid, (lies (replicate n byte) at e.tag f here).valid))
    ] refl

no_first : (n byte : ℕ) → byte < 256 → commit_at (replicate n byte) 0 4 0xffffffff ≡ None
no_first n byte small =
    let block : List ℕ = replicate n byte in
    let right = ended (is_commit_end (first_tag byte)) (tag_type (first_tag byte) == 0x500 || tag_type (first_tag byte) == 0x501) (bit_xor (word byte) (first_tag byte)) (below_from ends 256 each_byte byte small) in
    elim (entry_at block 4 0xffffffff) as (λ o. entry_at block 4 0xffffffff ≡ o → commit_at block 0 4 0xffffffff ≡ None) [
      | None ↦ λ is. commit_none block 0 4 0xffffffff is
      | Some e ↦ λ is.
          let tag : e.tag ≡ first_tag byte = tag_of n byte 4 0xffffffff e is in
          elim (is_checksum_entry e) as (λ b. is_checksum_entry e ≡ b → commit_at block 0 4 0xffffffff ≡ None) [
            | true ↦ λ sum.
                let other = ap (λ t. tag_type t == 0x500 || tag_type t == 0x501) tag ∙ right.0 (sym (ap is_commit_end tag) ∙ sum) in
                commit_refused block 0 4 0xffffffff e is sum (not_closed block 0 4 e other)
            | false ↦ λ other.
                commit_on block 0 4 0xffffffff e is other
                ∙ ap (option_map (with_entry e)) (commit_none block 0 (entry_end 4 e) e.tag (no_second n byte (entry_end 4 e) e tag right.1))
          ] refl
    ] refl

pub no_log-repeated : (n byte : ℕ) → byte < 256 → HasNoLog (replicate n byte)
unfolding chain_of
no_log-repeated n byte small =
    ap (λ (c : CommitSequence). log_if_committed (block_revision (replicate n byte)) c.commits) (chain_none (replicate n byte) 0 4 0xffffffff (no_first n byte small))
