-- The active block of a pair, before and after a write.
use Rattle.std.proofs.Common.{ℕ, ◌≡◌, ◌+◌, ◌-◌, ◌%◌, ◌^◌, ◌<◌, Bool, true, false, cond, not, ◌&&◌, ◌||◌, List, Some, None, refl, sym, ap, subst, ◌∙◌, arith}
use Rattle.lfs_pair.proofs.Common.{option_and_then, Disk, disk_block, block_entries, block_revision, has_commit, is_later, current_block, content_after, empty_raw_content, raw_content, is_second_active}
use Rattle.std.proofs.lemmas.Option.{same_Some}
use Rattle.lfs_model.specs.format.Content.{later_committed_block}

-- the block that holds, by which of the two it is
pub holder_is : (a b : List ℕ) → has_commit (cond (is_second_active a b) b a) ≡ true → later_committed_block a b ≡ Some (cond (is_second_active a b) b a)
holder_is a b h = go (has_commit a) (has_commit b) (is_later (block_revision a) (block_revision b)) refl refl h
  where
    go : (ca cb later : Bool) → has_commit a ≡ ca → has_commit b ≡ cb → has_commit (cond (cb && (not ca || later)) b a) ≡ true
        → cond (not ca) (cond cb (Some b) None) (cond (cb && later) (Some b) (Some a)) ≡ Some (cond (cb && (not ca || later)) b a)
    go true true true e f h = refl
    go true true false e f h = refl
    go true false later e f h = refl
    go false true later e f h = refl
    go false false later e f h = absurd (let k = sym e ∙ h in cc)

-- the block that holds has a commit
holder_has : (a b block : List ℕ) → later_committed_block a b ≡ Some block → has_commit block ≡ true
holder_has a b block h = go (has_commit a) (has_commit b) (is_later (block_revision a) (block_revision b)) refl refl h
  where
    this : (x : List ℕ) → has_commit x ≡ true → Some x ≡ Some block → has_commit block ≡ true
    this x has is = subst (λ y. has_commit y ≡ true) (same_Some x block is) has

    go : (ca cb later : Bool) → has_commit a ≡ ca → has_commit b ≡ cb → cond (not ca) (cond cb (Some b) None) (cond (cb && later) (Some b) (Some a)) ≡ Some block → has_commit block ≡ true
    go true true true e f is = this b f is
    go true true false e f is = this a e is
    go true false later e f is = this a e is
    go false true later e f is = this b f is
    go false false later e f is = absurd (cc)

pub held_commit : (disk : Disk) (at : ℕ × ℕ) (active : ℕ) → current_block disk at ≡ Some (disk_block disk active) → has_commit (disk_block disk active) ≡ true
held_commit disk at active holds = holder_has (disk_block disk at.0) (disk_block disk at.1) (disk_block disk active) holds

-- a pair holds what the block that holds does
pub raw_held : (disk : Disk) (at : ℕ × ℕ) (active : ℕ) → current_block disk at ≡ Some (disk_block disk active) → raw_content disk at ≡ content_after empty_raw_content (block_entries (disk_block disk active))
raw_held disk at active holds = ap (option_and_then (λ block. content_after empty_raw_content (block_entries block))) holds

-- ---- a commit behind others

-- ---- a first commit in the other block, with the next revision

later : (x : ℕ) → x < 2 ^ 32 → is_later x ((x + 1) % 2 ^ 32) ≡ true
later x l =
    let one : ((x + 1) % 2 ^ 32 + 2 ^ 32 - x) % 2 ^ 32 ≡ 1 = omega arith in rw one refl

not_later : (x : ℕ) → x < 2 ^ 32 → is_later ((x + 1) % 2 ^ 32) x ≡ false
not_later x l =
    let last : (x + 2 ^ 32 - (x + 1) % 2 ^ 32) % 2 ^ 32 ≡ 2 ^ 32 - 1 = omega arith in rw last refl

pub is_second_active-written : (a new : List ℕ) → has_commit a ≡ true → has_commit new ≡ true → block_revision a < 2 ^ 32 → block_revision new ≡ (block_revision a + 1) % 2 ^ 32 → is_second_active a new ≡ true
is_second_active-written a new e f l r = rw (e, f, r) (later (block_revision a) l)

pub first_holds-written : (new b : List ℕ) → has_commit b ≡ true → has_commit new ≡ true → block_revision b < 2 ^ 32 → block_revision new ≡ (block_revision b + 1) % 2 ^ 32 → is_second_active new b ≡ false
first_holds-written new b e f l r = rw (e, f, r) (not_later (block_revision b) l)
