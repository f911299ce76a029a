use Rattle.std.proofs.Common.{ℕ, ◌≡◌, ◌≤◌, ◌+◌, Bool, true, false, List, [], ◌∷◌, length, Option, Some, refl, sym, ap, subst, arith, ◌∙◌, append-nil}
use Rattle.lfs_model.proofs.Common.{lt-ltb, program_count, Tree, used_blocks, Reply, empty_tree, DiskSummary, Healthy, SessionHealth, mounted_session, AreLinkedByTails, Pair, superblock_pair_address, small_image}
use Rattle.std.specs.Prelude.{codes}
use Rattle.lfs_model.specs.session.Operations as ops
use Rattle.lfs_model.specs.session.Session.{has_long_name, exceeds_half_pair, lacks_room}
use Rattle.lfs_model.specs.session.State.{result_and_health}
use Rattle.lfs_model.proofs.OpenedFile.{op}
use Rattle.lfs_model.proofs.runs.open_without_space_is_refused.Goals as goal

pub returns-clause-no_program : goal.returns-clause-no_program
returns-clause-no_program c = λ h. absurd (let k = ap program_count (h.called ∙ append-nil h.calls) ∙ (h.refused refl).1.0 in cc)

-- two blocks are too few, since one is used
some_used : (ps : List Pair) → AreLinkedByTails (Some superblock_pair_address) ps → 1 ≤ length (used_blocks small_image ps)
some_used [] links = absurd (cc)
some_used (p ∷ ps) links = omega arith

lacking : (around : DiskSummary) → around.block_count ≡ 2 → 1 ≤ length around.used → lacks_room around [] 2 ≡ true
lacking around count some = lt-ltb around.block_count (length around.used + 0 + 2) (omega arith)

abbrev is_opened : Option Reply → Bool
is_opened (Some (ops.Opened fd)) = true
is_opened _ = false

refused : (around : DiskSummary) (shown : Option Tree) (after : SessionHealth) → lacks_room around [] 2 ≡ true → (w : Bool) → around.writable ≡ w → (t : Bool) → has_long_name around (codes "b" ∷ []) ≡ t → (o : Bool) → exceeds_half_pair around (codes "b") [] ≡ o
    → result_and_health around shown (Healthy (mounted_session empty_tree)) op ≡ (Some (ops.Opened 0), after) → ⊥
refused around shown after lack w is t long o over e = absurd (let z : false ≡ true = sym (go w is t long o over) ∙ ap (λ (x : Option Reply × SessionHealth). is_opened x.0) e in cc)
  where
    go : (w : Bool) → around.writable ≡ w → (t : Bool) → has_long_name around (codes "b" ∷ []) ≡ t → (o : Bool) → exceeds_half_pair around (codes "b") [] ≡ o → is_opened (result_and_health around shown (Healthy (mounted_session empty_tree)) op).0 ≡ false
    go false f t h o g = rw f refl
    go true f true h o g = rw f (rw h refl)
    go true f false h true g = rw f (rw h (rw g refl))
    go true f false h false g = rw f (rw h (rw g (rw lack refl)))

pub returns-clause-no_space : goal.returns-clause-no_space
returns-clause-no_space c = λ to h.
    let a = h.answered in
    let s = a.surrounds (mounted_session empty_tree) refl in
    let some = subst (λ (bs : List ℕ). 1 ≤ length bs) (sym s.1.1.used) (some_used s.0 s.1.0.thread.links) in
    refused a.around a.shown to.state (lacking a.around s.1.1.block_count some) a.around.writable refl (has_long_name a.around (codes "b" ∷ [])) refl (exceeds_half_pair a.around (codes "b") []) refl a.answers
