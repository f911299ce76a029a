-- The block of a pair that a fetch finds active, once it has read both revisions.
use Rattle.std.proofs.Common.{ℕ, ◌≡◌, Bool, true, false, cond, List, Some, refl, sym, ap, ◌∙◌, subst, Ok, Err}
use Rattle.std.specs.Prelude.{IfOk, Result}
use Rattle.lfs_pair.proofs.Common.{option_and_then, RawContent, has_commit, is_later, current_block, content_after, empty_raw_content, raw_content, Disk, disk_block, CallEvent, block_entries, block_revision, address_of_array, HeaderDescribesLog, active_block_at}
use Rattle.lfs_device.specs.declared.error.Error.{Error}
use Rattle.lfs_pair.specs.Pair.{FetchFinds, later_block_first}
use Rattle.lfs_pair.specs.declared.pair.Pair.{Pair}

-- that block of the pair is the one that holds
pub record HoldsAt (disk : Disk) (at : ℕ × ℕ) (block : ℕ) : Type 0 where
  pub active : block ≡ active_block_at disk at
  pub holds : current_block disk at ≡ Some (disk_block disk block)

pub later_holds : (disk : Disk) (at order : ℕ × ℕ) → order ≡ later_block_first disk at → has_commit (disk_block disk order.0) ≡ true → HoldsAt disk at order.0
later_holds disk at order is has = subst (λ (o : ℕ × ℕ). HoldsAt disk at o.0) (sym is) (go (has_commit (disk_block disk at.0)) (has_commit (disk_block disk at.1)) (is_later (block_revision (disk_block disk at.0)) (block_revision (disk_block disk at.1))) refl refl refl (sym (ap (λ (o : ℕ × ℕ). has_commit (disk_block disk o.0)) is) ∙ has))
  where
    go : (ca cb later : Bool) → has_commit (disk_block disk at.0) ≡ ca → has_commit (disk_block disk at.1) ≡ cb → is_later (block_revision (disk_block disk at.0)) (block_revision (disk_block disk at.1)) ≡ later
        → has_commit (disk_block disk (cond later (at.1, at.0) at).0) ≡ true → HoldsAt disk at (cond later (at.1, at.0) at).0
    go true true true e f l h = record { active = rw (e, f, l) refl; holds = rw (e, f, l) refl }
    go true true false e f l h = record { active = rw (e, f, l) refl; holds = rw (e, f, l) refl }
    go true false true e f l h = absurd (let k = sym f ∙ h in cc)
    go true false false e f l h = record { active = rw (e, f) refl; holds = rw (e, f) refl }
    go false true true e f l h = record { active = rw (e, f) refl; holds = rw (e, f) refl }
    go false cb false e f l h = absurd (let k = sym e ∙ h in cc)
    go false false true e f l h = absurd (let k = sym f ∙ h in cc)

pub other_holds : (disk : Disk) (at order : ℕ × ℕ) → order ≡ later_block_first disk at → has_commit (disk_block disk order.0) ≡ false → has_commit (disk_block disk order.1) ≡ true → HoldsAt disk at order.1
other_holds disk at order is none has = subst (λ (o : ℕ × ℕ). HoldsAt disk at o.1) (sym is) (go (has_commit (disk_block disk at.0)) (has_commit (disk_block disk at.1)) (is_later (block_revision (disk_block disk at.0)) (block_revision (disk_block disk at.1))) refl refl refl
    (sym (ap (λ (o : ℕ × ℕ). has_commit (disk_block disk o.0)) is) ∙ none) (sym (ap (λ (o : ℕ × ℕ). has_commit (disk_block disk o.1)) is) ∙ has))
  where
    go : (ca cb later : Bool) → has_commit (disk_block disk at.0) ≡ ca → has_commit (disk_block disk at.1) ≡ cb → is_later (block_revision (disk_block disk at.0)) (block_revision (disk_block disk at.1)) ≡ later
        → has_commit (disk_block disk (cond later (at.1, at.0) at).0) ≡ false → has_commit (disk_block disk (cond later (at.1, at.0) at).1) ≡ true → HoldsAt disk at (cond later (at.1, at.0) at).1
    go true false true e f l n h = record { active = rw (e, f) refl; holds = rw (e, f) refl }
    go false true false e f l n h = record { active = rw (e, f) refl; holds = rw (e, f) refl }
    go ca true true e f l n h = absurd (let k = sym f ∙ n in cc)
    go true cb false e f l n h = absurd (let k = sym e ∙ n in cc)
    go false cb true e f l n h = absurd (let k = sym e ∙ h in cc)
    go false false false e f l n h = absurd (let k = sym f ∙ h in cc)

-- what a pair holds, by the block that holds
pub content_held : (disk : Disk) (at : ℕ × ℕ) (block : ℕ) → HoldsAt disk at block → raw_content disk at ≡ content_after empty_raw_content (block_entries (disk_block disk block))
content_held disk at block h = ap (option_and_then (λ b. content_after empty_raw_content (block_entries b))) h.holds

-- the header that was made of the block that holds
pub fetches : (disk : Disk) (history : List CallEvent) (blocks : List ℕ) (bytes : List ℕ) (active : ℕ) (r : Result Pair Error) → HoldsAt disk (address_of_array blocks) active → bytes ≡ disk_block disk active
    → IfOk r (λ pair. (held : RawContent) × HeaderDescribesLog bytes pair held) → IfOk r (λ pair. pair.blocks ≡ blocks) → IfOk r (λ pair. pair.active ≡ active) → IfOk r (λ pair. pair.is_fetched ≡ true)
    → IfOk r (λ pair. FetchFinds disk history (address_of_array blocks) pair)
fetches disk history blocks bytes active (Err e) h same described at is fetched = tt
fetches disk history blocks bytes active (Ok pair) h same described at is fetched =
    let address = ap address_of_array at in
    let block = same ∙ ap (disk_block disk) (sym is) in
    let described_block = subst (λ b. HeaderDescribesLog b pair described.0) block described.1 in
    record {
      held = described.0;
      is_pair = record {
        active = is ∙ h.active ∙ ap (active_block_at disk) (sym address);
        holds = ap (current_block disk) address ∙ h.holds ∙ ap (λ (b : ℕ). Some (disk_block disk b)) (sym is);
        describes = described_block;
        whole_pages = λ e. absurd (let k = sym fetched ∙ e in cc);
        unprogrammed = λ e. absurd (let k = sym fetched ∙ e in cc);
      };
      at = address;
      content = content_held disk (address_of_array blocks) active h ∙ ap (λ b. content_after empty_raw_content (block_entries b)) (ap (disk_block disk) (sym is)) ∙ described_block.content;
      fetched = fetched;
    }
