-- The content of a pair, by which of its two blocks was written.
use Rattle.std.proofs.Common.{ℕ, ◌≡◌, ◌≢◌, ◌⊎◌, ◌+◌, ◌%◌, ◌^◌, ◌<◌, ◌==◌, Bool, true, false, cond, List, [], ◌∷◌, refl, sym, ap, ◌∙◌, subst, arith, eq-eqb, inl, inr}
use Rattle.std.specs.Prelude.{All}
use Rattle.lfs_pair.proofs.Common.{ne_eqb, option_and_then, Blocks, SameExcept, block_bytes, Disk, disk_block, block_revision, block_entries, SameLog, SameRevision, HasNoLog, has_commit, is_later, raw_content, content_after, empty_raw_content, is_second_active, active_block_at, IsPairAddress, KeepsOutsidePair, SameExceptBlocks-refl}
use Rattle.lfs_model.specs.format.Disk.{block_count}
use Rattle.lfs_pair.specs.Pair.{opposite_block}
use Rattle.lfs_model.proofs.Overwrites.{SameExceptBlocks-one}
use Rattle.lfs_pair.proofs.Holders.{holder_is, is_second_active-written, first_holds-written}
use Rattle.lfs_model.proofs.SameLogs.{has_commit_same, has_commit_told, revision_same, revision_told, has_no_commit}

-- ---- the block that holds

picked : (disk : Disk) (at : ℕ × ℕ) (s : Bool) → disk_block disk (cond s at.1 at.0) ≡ cond s (disk_block disk at.1) (disk_block disk at.0)
picked disk at true = refl
picked disk at false = refl

pub active_block : (disk : Disk) (at : ℕ × ℕ) (active : ℕ) → active ≡ active_block_at disk at
    → disk_block disk active ≡ cond (is_second_active (disk_block disk at.0) (disk_block disk at.1)) (disk_block disk at.1) (disk_block disk at.0)
active_block disk at active is = ap (disk_block disk) is ∙ picked disk at (is_second_active (disk_block disk at.0) (disk_block disk at.1))

-- a pair holds what its active block does
pub raw_is : (disk : Disk) (at : ℕ × ℕ) (active : ℕ) → active ≡ active_block_at disk at → has_commit (disk_block disk active) ≡ true
    → raw_content disk at ≡ content_after empty_raw_content (block_entries (disk_block disk active))
raw_is disk at active is has =
    let same = active_block disk at active is in
    ap (option_and_then (λ block. content_after empty_raw_content (block_entries block))) (holder_is (disk_block disk at.0) (disk_block disk at.1) (sym (ap has_commit same) ∙ has))
    ∙ ap (λ block. content_after empty_raw_content (block_entries block)) (sym same)

-- which of the two is the active one
pub data Sides (disk : Disk) (at : ℕ × ℕ) (active other : ℕ) : Type 0 where
  first : is_second_active (disk_block disk at.0) (disk_block disk at.1) ≡ false → active ≡ at.0 → other ≡ at.1 → Sides disk at active other
  second : is_second_active (disk_block disk at.0) (disk_block disk at.1) ≡ true → active ≡ at.1 → other ≡ at.0 → Sides disk at active other

pub sides : (disk : Disk) (at : ℕ × ℕ) (active : ℕ) → at.0 ≢ at.1 → active ≡ active_block_at disk at → Sides disk at active (opposite_block at active)
sides disk at active apart is = go (is_second_active (disk_block disk at.0) (disk_block disk at.1)) refl
  where
    go : (s : Bool) → is_second_active (disk_block disk at.0) (disk_block disk at.1) ≡ s → Sides disk at active (opposite_block at active)
    go true e =
        let here : active ≡ at.1 = is ∙ ap (λ s. cond s at.1 at.0) e in
        let differs : active == at.0 ≡ false = ne_eqb active at.0 (λ same. apart (sym same ∙ here)) in
        second e here (ap (λ s. cond s at.1 at.0) differs)
    go false e =
        let here : active ≡ at.0 = is ∙ ap (λ s. cond s at.1 at.0) e in
        let same : active == at.0 ≡ true = eq-eqb active at.0 here in
        first e here (ap (λ s. cond s at.1 at.0) same)

-- ---- another block, whose log is at most what it was

pub record Weaker (old new : List ℕ) : Type 0 where
  pub had : has_commit new ≡ true → has_commit old ≡ true
  pub revision_is : has_commit new ≡ true → block_revision new ≡ block_revision old

pub weaker_same : (old new : List ℕ) → new ≡ old → Weaker old new
weaker_same old new same = record { had = λ h. sym (ap has_commit same) ∙ h; revision_is = λ h. ap block_revision same }

pub weaker_revision : (old new : List ℕ) → SameRevision new old → Weaker old new
weaker_revision old new same = record { had = has_commit_told new old same; revision_is = revision_told new old same }

pub weaker_none : (old new : List ℕ) → HasNoLog new → Weaker old new
weaker_none old new none = record { had = λ h. absurd (let no = has_no_commit new none in cc); revision_is = λ h. absurd (let no = has_no_commit new none in cc) }

-- a block that held, and has a commit and the same revision
pub record Stays (old new : List ℕ) : Type 0 where
  pub had : has_commit old ≡ true
  pub has : has_commit new ≡ true
  pub revision_is : block_revision new ≡ block_revision old

pub stays_same : (old new : List ℕ) → has_commit old ≡ true → new ≡ old → Stays old new
stays_same old new had same = record { had = had; has = ap has_commit same ∙ had; revision_is = ap block_revision same }

pub stays_log : (old new : List ℕ) → has_commit old ≡ true → SameLog new old → Stays old new
stays_log old new had same = record { had = had; has = has_commit_same new old same ∙ had; revision_is = revision_same new old same had }

second_stays : (a b c d : List ℕ) → is_second_active a b ≡ true → Stays b d → Weaker a c → is_second_active c d ≡ true
second_stays a b c d held stays weaker = go (has_commit c) refl
  where
    go : (h : Bool) → has_commit c ≡ h → is_second_active c d ≡ true
    go false e = rw (stays.has, e) refl
    go true e =
        let later : is_second_active a b ≡ is_later (block_revision a) (block_revision b) = rw (stays.had, weaker.had e) refl in
        rw (stays.has, e, weaker.revision_is e, stays.revision_is) (sym later ∙ held)

first_stays : (a b c d : List ℕ) → is_second_active a b ≡ false → Stays a c → Weaker b d → is_second_active c d ≡ false
first_stays a b c d held stays weaker = go (has_commit d) refl
  where
    go : (h : Bool) → has_commit d ≡ h → is_second_active c d ≡ false
    go false e = rw e refl
    go true e =
        let later : is_second_active a b ≡ is_later (block_revision a) (block_revision b) = rw (stays.had, weaker.had e) refl in
        rw (stays.has, e, weaker.revision_is e, stays.revision_is) (sym later ∙ held)

-- the block that held still does
pub still_active : (disk : Disk) (at : ℕ × ℕ) (active other : ℕ) (left : Blocks) → Sides disk at active other
    → Stays (disk_block disk active) (block_bytes left active) → Weaker (disk_block disk other) (block_bytes left other)
    → active ≡ active_block_at (record disk { blocks = left }) at
still_active disk at active other left (first e is also) stays weaker =
    is ∙ sym (ap (λ s. cond s at.1 at.0) (first_stays (disk_block disk at.0) (disk_block disk at.1) (block_bytes left at.0) (block_bytes left at.1) e
    (subst (λ b. Stays (disk_block disk b) (block_bytes left b)) is stays) (subst (λ b. Weaker (disk_block disk b) (block_bytes left b)) also weaker)))
still_active disk at active other left (second e is also) stays weaker =
    is ∙ sym (ap (λ s. cond s at.1 at.0) (second_stays (disk_block disk at.0) (disk_block disk at.1) (block_bytes left at.0) (block_bytes left at.1) e
    (subst (λ b. Stays (disk_block disk b) (block_bytes left b)) is stays) (subst (λ b. Weaker (disk_block disk b) (block_bytes left b)) also weaker)))

-- the other block is active, as it has the next revision
pub other_active : (disk : Disk) (at : ℕ × ℕ) (active other : ℕ) (left : Blocks) → Sides disk at active other
    → has_commit (block_bytes left active) ≡ true → has_commit (block_bytes left other) ≡ true → block_revision (block_bytes left active) < 2 ^ 32
    → block_revision (block_bytes left other) ≡ (block_revision (block_bytes left active) + 1) % 2 ^ 32
    → other ≡ active_block_at (record disk { blocks = left }) at
other_active disk at active other left (first e is also) had has small next =
    also ∙ sym (ap (λ s. cond s at.1 at.0) (is_second_active-written (block_bytes left at.0) (block_bytes left at.1)
    (ap (λ b. has_commit (block_bytes left b)) (sym is) ∙ had) (ap (λ b. has_commit (block_bytes left b)) (sym also) ∙ has)
    (subst (λ b. block_revision (block_bytes left b) < 2 ^ 32) is small)
    (ap (λ b. block_revision (block_bytes left b)) (sym also) ∙ next ∙ ap (λ b. (block_revision (block_bytes left b) + 1) % 2 ^ 32) is)))
other_active disk at active other left (second e is also) had has small next =
    also ∙ sym (ap (λ s. cond s at.1 at.0) (first_holds-written (block_bytes left at.0) (block_bytes left at.1)
    (ap (λ b. has_commit (block_bytes left b)) (sym is) ∙ had) (ap (λ b. has_commit (block_bytes left b)) (sym also) ∙ has)
    (subst (λ b. block_revision (block_bytes left b) < 2 ^ 32) is small)
    (ap (λ b. block_revision (block_bytes left b)) (sym also) ∙ next ∙ ap (λ b. (block_revision (block_bytes left b) + 1) % 2 ^ 32) is)))

-- ---- other blocks

among_two : (at : ℕ × ℕ) (b : ℕ) → (b ≡ at.0) ⊎ (b ≡ at.1) → (other : ℕ) → All (λ b. b ≢ other) (at.0 ∷ at.1 ∷ []) → b ≢ other
among_two at b (inl is) other apart same = apart 0 0 (omega arith) (sym is ∙ same)
among_two at b (inr is) other apart same = apart 1 0 (omega arith) (sym is ∙ same)

pub active_is : (disk : Disk) (at : ℕ × ℕ) (active other : ℕ) → Sides disk at active other → (active ≡ at.0) ⊎ (active ≡ at.1)
active_is disk at active other (first e is also) = inl is
active_is disk at active other (second e is also) = inr is

pub other_is : (disk : Disk) (at : ℕ × ℕ) (active other : ℕ) → Sides disk at active other → (other ≡ at.0) ⊎ (other ≡ at.1)
other_is disk at active other (first e is also) = inr also
other_is disk at active other (second e is also) = inl also

pub outside_one : (at : ℕ × ℕ) (b : ℕ) (old new : Blocks) → (b ≡ at.0) ⊎ (b ≡ at.1) → SameExcept b old new → KeepsOutsidePair at old new
outside_one at b old new is same = SameExceptBlocks-one (at.0 ∷ at.1 ∷ []) b old old new (among_two at b is) (SameExceptBlocks-refl (at.0 ∷ at.1 ∷ []) old) same

-- the two differ
pub sides_apart : (disk : Disk) (at : ℕ × ℕ) (active other : ℕ) → at.0 ≢ at.1 → Sides disk at active other → other ≢ active
sides_apart disk at active other apart (first e is also) same = apart (sym is ∙ sym same ∙ also)
sides_apart disk at active other apart (second e is also) same = apart (sym also ∙ same ∙ is)

pub below_count : (disk : Disk) (at : ℕ × ℕ) (b : ℕ) → IsPairAddress disk at → (b ≡ at.0) ⊎ (b ≡ at.1) → b < block_count disk
below_count disk at b on (inl is) = subst (λ k. k < block_count disk) (sym is) on.first
below_count disk at b on (inr is) = subst (λ k. k < block_count disk) (sym is) on.second
