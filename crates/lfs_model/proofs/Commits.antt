-- A block has a commit exactly where its chain ends past its beginning.
use Rattle.std.proofs.Common.{ℕ, ◌≡◌, ◌+◌, ◌-◌, ◌<◌, ◌≤◌, List, [], ◌∷◌, length, refl, sym, ◌∙◌, arith}
use Rattle.std.specs.Prelude.{nat_lt}
use Rattle.lfs_model.proofs.Common.{lt-ltb, le-ltb, LogEntry, AreAdjacentCommits, has_commit}
use Rattle.lfs_model.specs.format.Log.{chain_of}
use Rattle.lfs_model.proofs.Chains.{chain_sound, commit_space}

-- what a chain's end shows of its commits
pub data Reach (at end : ℕ) (cs : List (List LogEntry)) : Type 0 where
  nowhere : length cs ≡ 0 → end ≡ at → Reach at end cs
  somewhere : 0 < length cs → at < end → Reach at end cs

reach : (block : List ℕ) (start at before : ℕ) (cs : List (List LogEntry)) (end last : ℕ) → AreAdjacentCommits block start at before cs end last → Reach at end cs
reach block start at before [] end last h = nowhere refl h.0
reach block start at before (c ∷ cs) end last (mid, carry, commit, rest) =
    somewhere (omega arith) (go (reach block mid mid carry cs end last rest) (commit_space block start at before c mid carry commit).after)
  where
    go : Reach mid end cs → at + 4 ≤ mid → at < end
    go (nowhere n e) l = omega arith
    go (somewhere n e) l = omega arith

pub chain_reach : (block : List ℕ) → Reach 4 (chain_of block).end (chain_of block).commits
unfolding chain_of
chain_reach block = reach block 0 4 0xffffffff _ _ _ (chain_sound (length block - 4) block 0 4 0xffffffff)

pub has_commit-end : (block : List ℕ) → has_commit block ≡ nat_lt 4 (chain_of block).end
has_commit-end block = go (chain_reach block)
  where
    go : Reach 4 (chain_of block).end (chain_of block).commits → has_commit block ≡ nat_lt 4 (chain_of block).end
    go (nowhere n e) = le-ltb 0 (length (chain_of block).commits) (omega arith) ∙ sym (le-ltb 4 (chain_of block).end (omega arith))
    go (somewhere n e) = lt-ltb 0 (length (chain_of block).commits) n ∙ sym (lt-ltb 4 (chain_of block).end e)

ends_within : (block : List ℕ) (start at before : ℕ) (cs : List (List LogEntry)) (end last : ℕ) → AreAdjacentCommits block start at before cs end last → at ≤ length block → end ≤ length block
ends_within block start at before [] end last h below = omega (arith, h.0)
ends_within block start at before (c ∷ cs) end last (mid, carry, commit, rest) below =
    ends_within block mid mid carry cs end last rest (commit_space block start at before c mid carry commit).within

-- a chain ends within its block
pub chain_ends : (block : List ℕ) → 4 ≤ length block → (chain_of block).end ≤ length block
unfolding chain_of
chain_ends block room = ends_within block 0 4 0xffffffff _ _ _ (chain_sound (length block - 4) block 0 4 0xffffffff) room
