-- What blocks of the same log share.
use Rattle.std.proofs.Common.{ℕ, ◌≡◌, Bool, true, false, cond, List, [], ◌∷◌, length, Option, Some, None, refl, sym, ap, ◌∙◌, flat_map, option_map, arith}
use Rattle.std.specs.Prelude.{nat_lt}
use Rattle.std.proofs.lemmas.Bool.{lt-ltb}
use Rattle.lfs_model.specs.format.Log.{LogEntry, block_revision, block_entries}
use Rattle.lfs_model.specs.format.Content.{has_commit}
use Rattle.lfs_model.specs.crash.Stops.{SameLog, SameRevision, HasNoLog, log_revision}
use Rattle.lfs_model.specs.format.Log.{BlockLog, chain_of, log_if_committed}

abbrev commits_in : Option BlockLog → List (List LogEntry)
commits_in None = []
commits_in (Some log) = log.commits

abbrev revision_in : Option BlockLog → ℕ
revision_in None = 0
revision_in (Some log) = log.revision

commits_reported : (r : ℕ) (cs : List (List LogEntry)) → commits_in (log_if_committed r cs) ≡ cs
commits_reported r [] = refl
commits_reported r (c ∷ cs) = refl

revision_reported : (r : ℕ) (cs : List (List LogEntry)) → nat_lt 0 (length cs) ≡ true → revision_in (log_if_committed r cs) ≡ r
revision_reported r [] some = absurd (cc)
revision_reported r (c ∷ cs) some = refl

pub commits_same : (x y : List ℕ) → SameLog x y → (chain_of x).commits ≡ (chain_of y).commits
commits_same x y same =
    sym (commits_reported (block_revision x) (chain_of x).commits) ∙ ap commits_in same ∙ commits_reported (block_revision y) (chain_of y).commits

pub entries_same : (x y : List ℕ) → SameLog x y → block_entries x ≡ block_entries y
entries_same x y same = ap (flat_map (λ (c : List LogEntry). c)) (commits_same x y same)

pub has_commit_same : (x y : List ℕ) → SameLog x y → has_commit x ≡ has_commit y
has_commit_same x y same = ap (λ (cs : List (List LogEntry)). nat_lt 0 (length cs)) (commits_same x y same)

-- a block without a commit has a revision too, which its log doesn't tell
pub revision_same : (x y : List ℕ) → SameLog x y → has_commit y ≡ true → block_revision x ≡ block_revision y
revision_same x y same has =
    sym (revision_reported (block_revision x) (chain_of x).commits (has_commit_same x y same ∙ has))
    ∙ ap revision_in same
    ∙ revision_reported (block_revision y) (chain_of y).commits has

pub no_commits : (x : List ℕ) → HasNoLog x → (chain_of x).commits ≡ []
no_commits x none = sym (commits_reported (block_revision x) (chain_of x).commits) ∙ ap commits_in none

pub has_no_commit : (x : List ℕ) → HasNoLog x → has_commit x ≡ false
has_no_commit x none = ap (λ (cs : List (List LogEntry)). nat_lt 0 (length cs)) (no_commits x none)

-- ---- logs with the same revision

told : (x : List ℕ) (h : Bool) → has_commit x ≡ h → log_revision x ≡ cond h (Some (block_revision x)) None
told x h = go (chain_of x).commits refl h
  where
    go : (cs : List (List LogEntry)) → (chain_of x).commits ≡ cs → (h : Bool) → has_commit x ≡ h → log_revision x ≡ cond h (Some (block_revision x)) None
    go cs is h has = ap (λ k. option_map (λ (log : BlockLog). log.revision) (log_if_committed (block_revision x) k)) is ∙ by_commits cs h (sym (ap (λ (k : List (List LogEntry)). nat_lt 0 (length k)) is) ∙ has)
      where
        by_commits : (cs : List (List LogEntry)) (h : Bool) → nat_lt 0 (length cs) ≡ h → option_map (λ (log : BlockLog). log.revision) (log_if_committed (block_revision x) cs) ≡ cond h (Some (block_revision x)) None
        by_commits [] true is = absurd (cc)
        by_commits [] false is = refl
        by_commits (c ∷ cs) true is = refl
        by_commits (c ∷ cs) false is = let some : nat_lt 0 (length (c ∷ cs)) ≡ true = lt-ltb 0 (length (c ∷ cs)) (omega arith) in absurd (cc)

-- where the new block has a log, the old one has
pub has_commit_told : (new old : List ℕ) → SameRevision new old → has_commit new ≡ true → has_commit old ≡ true
has_commit_told new old same has = go (has_commit old) refl
  where
    go : (h : Bool) → has_commit old ≡ h → h ≡ true
    go true is = refl
    go false is = let e : Some (block_revision new) ≡ None = sym (told new true has) ∙ same ∙ told old false is in absurd (cc)

pub revision_told : (new old : List ℕ) → SameRevision new old → has_commit new ≡ true → block_revision new ≡ block_revision old
revision_told new old same has =
    let e : Some (block_revision new) ≡ Some (block_revision old) = sym (told new true has) ∙ same ∙ told old true (has_commit_told new old same has) in cc
