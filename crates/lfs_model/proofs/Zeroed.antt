-- A block that begins with zeros has no commit.
use Rattle.std.proofs.Common.{ℕ, ◌≡◌, ◌+◌, ◌-◌, ◌^◌, ◌<◌, ◌≤◌, ◌||◌, Bool, true, false, cond, List, ◌++◌, length, take, drop, replicate, Option, Some, None, refl, sym, ap, ◌∙◌, arith, bit_xor}
use Rattle.std.specs.Prelude.{nat_lt, nat_le}
use Rattle.std.proofs.lemmas.List.{replicate-append-replicate}
use Rattle.byteorder.specs.Endian.{big_number}
use Rattle.lfs_model.proofs.Common.{Blocks, block_bytes, overwritten_at, programmed, tag_data_size, CommitSequence, has_commit}
use Rattle.lfs_model.specs.format.Log.{entry_at, chain_of}
use Rattle.lfs_model.proofs.Chains.{chain_none, commit_none}
use Rattle.lfs_model.proofs.Overwrites.{block_bytes-programmed}

or_none : {X : Type 0} (few no_room : Bool) (some : Option X) → cond (few || (true || no_room)) None some ≡ None
or_none true no_room some = refl
or_none false no_room some = refl

-- a first tag of zeros is an invalid one, as all its bits are flipped
no_entry : (block : List ℕ) → big_number 4 (drop 4 block) ≡ 0 → entry_at block 4 0xffffffff ≡ None
unfolding entry_at
no_entry block zero =
    ap (λ n. cond (nat_lt (length block) 8 || (nat_le (2 ^ 31) (bit_xor n 0xffffffff) || nat_lt (length block) (8 + tag_data_size (bit_xor n 0xffffffff)))) None
    (Some (record { tag = bit_xor n 0xffffffff; bytes = take (tag_data_size (bit_xor n 0xffffffff)) (drop 8 block) }))) zero
    ∙ or_none (nat_lt (length block) 8) (nat_lt (length block) (8 + tag_data_size 0xffffffff)) (Some (record { tag = 0xffffffff; bytes = take (tag_data_size 0xffffffff) (drop 8 block) }))

no_commit : (block : List ℕ) → big_number 4 (drop 4 block) ≡ 0 → has_commit block ≡ false
unfolding chain_of
no_commit block zero = ap (λ (c : CommitSequence). nat_lt 0 (length c.commits)) (chain_none block 0 4 0xffffffff (commit_none block 0 4 0xffffffff (no_entry block zero)))

pub no_commit-zeros : (block : List ℕ) (n : ℕ) → 8 ≤ n → has_commit (overwritten_at block 0 (replicate n 0)) ≡ false
no_commit-zeros block n some =
    let split : replicate n 0 ≡ replicate 8 0 ++ replicate (n - 8) 0 = ap (λ k. replicate k 0) (omega arith) ∙ sym (replicate-append-replicate 8 (n - 8) 0) in
    ap (λ (l : List ℕ). has_commit (overwritten_at block 0 l)) split
    ∙ no_commit (overwritten_at block 0 (replicate 8 0 ++ replicate (n - 8) 0)) refl

-- a block whose beginning is programmed with zeros
pub no_commit-programmed : (old new : Blocks) (b n : ℕ) (bytes : List ℕ) → new ≡ programmed old b 0 bytes → b < length old → bytes ≡ replicate n 0 → 8 ≤ n → has_commit (block_bytes new b) ≡ false
no_commit-programmed old new b n bytes is below zeros some =
    ap (λ d. has_commit (block_bytes d b)) is
    ∙ ap has_commit (block_bytes-programmed old b 0 bytes below)
    ∙ ap (λ (l : List ℕ). has_commit (overwritten_at (block_bytes old b) 0 l)) zeros
    ∙ no_commit-zeros (block_bytes old b) n some
