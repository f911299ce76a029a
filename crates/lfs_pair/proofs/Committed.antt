-- A block after a commit's pages were programmed, and after a stop in that.
use Rattle.std.proofs.Common.{ℕ, ◌≡◌, ◌+◌, ◌≤◌, true, List, [], ◌∷◌, ◌++◌, length, Option, inl, inr, sym, ap, ◌∙◌, subst, arith, length-append}
use Rattle.lfs_pair.proofs.Common.{lt-ltb, Blocks, block_bytes, overwritten_at, SameExcept, LogEntry, has_commit, SameLog, PartialCommit, IsCommitOffset, earlier_commits, padded_commit_end, LogGetsCommit, LossLeavesCommit, DiffersInBlock}
use Rattle.lfs_model.specs.format.Log.{chain_of}
use Rattle.lfs_model.specs.layers.Commit.{four_bytes_at}
use Rattle.lfs_model.specs.crash.Stops.{MayProgramLeave}
use Rattle.lfs_tag.specs.Builder.{AreCommitPages, checksum_entry}
use Rattle.lfs_model.proofs.SameLogs.{commits_same, revision_same}

-- a block that got a commit has one
pub Gets-has_commit : {b : PartialCommit} {old new : List ℕ} → LogGetsCommit b old new → has_commit new ≡ true
Gets-has_commit {b} {old} {new} gets =
    lt-ltb 0 (length (chain_of new).commits)
    (omega (arith, ap (λ (cs : List (List LogEntry)). length cs) gets.commits, length-append (earlier_commits b.revision old) ((b.entries ++ gets.checksum ∷ []) ∷ [])))

pub Gets-same : {b : PartialCommit} {old new : List ℕ} (left : List ℕ) → LogGetsCommit b old new → SameLog left new → LogGetsCommit b old left
Gets-same {b} {old} {new} left gets same = record {
  checksum = gets.checksum;
  class = gets.class;
  commits = commits_same left new same ∙ gets.commits;
  revision = revision_same left new same (Gets-has_commit gets) ∙ gets.revision;
}

-- the block has room for the pages, they are programmed there, and these bytes follow them
pub record GoInto (b : PartialCommit) (next : Option (List ℕ)) (pages : List ℕ) (at : ℕ) (block : List ℕ) : Type 0 where
  pub commit : AreCommitPages b next pages
  pub goes : IsCommitOffset b.revision b.previous block at
  pub room : at + length pages ≤ length block
  pub behind : four_bytes_at block (at + length pages) ≡ next

pub goes_into : {b : PartialCommit} {next : Option (List ℕ)} {pages : List ℕ} {at size end : ℕ} {block : List ℕ} → AreCommitPages b next pages → length pages ≡ padded_commit_end b → IsCommitOffset b.revision b.previous block at
    → length block ≡ size → at + padded_commit_end b ≤ size → end ≡ at + padded_commit_end b → next ≡ four_bytes_at block end → GoInto b next pages at block
goes_into {b} {pages = pages} {at = at} {block = block} commit long goes whole ends is next = record {
  commit = commit;
  goes = goes;
  room = omega arith;
  behind = ap (λ n. four_bytes_at block (at + n)) long ∙ ap (four_bytes_at block) (sym is) ∙ sym next;
}

pub gets_commit : {b : PartialCommit} {next : Option (List ℕ)} {pages : List ℕ} {at : ℕ} {block : List ℕ} → GoInto b next pages at block → LogGetsCommit b block (overwritten_at block at pages)
gets_commit {b} {next} {pages} {at} {block} into = record {
  checksum = checksum_entry b next pages;
  class = into.commit.class;
  commits = ap (λ k. k.commits) (into.commit.log block at into.goes into.room into.behind);
  revision = into.commit.revision block at into.goes into.room;
}

pub left_by_commit : {b : PartialCommit} {next : Option (List ℕ)} {pages : List ℕ} {at : ℕ} {block : List ℕ} (left : List ℕ) → GoInto b next pages at block → MayProgramLeave at pages block left → LossLeavesCommit b at block left
left_by_commit left into stopped = elim stopped [
  | inl same ↦ inl same
  | inr more ↦ elim more [
    | inl same ↦ inr (inr (Gets-same left (gets_commit into) same))
    | inr none ↦ inr (inl none)
  ]
]

-- the same among other blocks
pub left_in_block : {b : PartialCommit} {next : Option (List ℕ)} {pages : List ℕ} {at block : ℕ} {old before : Blocks} (disk : Blocks) → before ≡ old → GoInto b next pages at (block_bytes old block)
    → SameExcept block before disk × MayProgramLeave at pages (block_bytes before block) (block_bytes disk block) → DiffersInBlock block (LossLeavesCommit b at) old disk
left_in_block {pages = pages} {at = at} {block = block} disk is into stopped =
    let same = subst (λ d. SameExcept block d disk × MayProgramLeave at pages (block_bytes d block) (block_bytes disk block)) is stopped in
    (same.0, left_by_commit (block_bytes disk block) into same.1)
