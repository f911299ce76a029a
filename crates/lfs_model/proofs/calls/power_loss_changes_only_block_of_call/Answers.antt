use Rattle.std.proofs.Common.{◌≡◌, [], ◌∷◌, refl, sym, ap, ◌∙◌, subst, arith, append-nil}
use Rattle.std.specs.Prelude.{slice_index}
use Rattle.lfs_model.proofs.Common.{Blocks, block_bytes, AllCalls, LossLeavesAtWorst, example_before_erase, after_read}
use Rattle.lfs_model.proofs.calls.power_loss_changes_only_block_of_call.Goals as goal

pub returns-clause-block_1 : goal.returns-clause-block_1
returns-clause-block_1 c = record {
  events = after_read;
  extends = refl;
  each = (
    (λ disk e. ap (λ (b : Blocks). block_bytes b 1) e),
    ((λ disk same. same.others 1 (λ e. absurd (omega arith))), ((λ disk same. same.others 1 (λ e. absurd (omega arith))), tt)),
  );
}

-- the erase was stopped before it began
pub returns-clause-block_0 : goal.returns-clause-block_0
returns-clause-block_0 c = λ h. absurd (
    let each = subst (AllCalls (λ e. (disk : Blocks) → LossLeavesAtWorst e disk → block_bytes disk 0 ≡ 9 ∷ 9 ∷ 0xff ∷ 0xff ∷ [])) (sym (h.extends ∙ append-nil h.events)) h.each in
    let k = ap (λ b. slice_index b 0) (each.1.1.0 example_before_erase (record { count = refl; size = refl; others = λ other e. refl })) in
    omega arith)
