use Rattle.std.proofs.Common.{ℕ, ◌≡◌, List, [], ◌∷◌, refl, sym, ap, arith}
use Rattle.std.specs.Prelude.{codes, slice_index}
use Rattle.lfs_model.proofs.Common.{disk_block, fresh_pair, empty_tree, mounted_session, HoldsSlotOfPath, KeepsUnrelatedBlocks, small_image, two_commit_image}
use Rattle.lfs_model.specs.session.Operations as ops
use Rattle.lfs_model.proofs.Sites.{among_from}
use Rattle.lfs_model.proofs.runs.operation_keeps_unrelated_blocks.Goals as goal

not_same : KeepsUnrelatedBlocks small_image (fresh_pair small_image ∷ []) (mounted_session empty_tree) (ops.Stat (codes "/")) two_commit_image (fresh_pair small_image ∷ []) → ⊥
not_same h =
    let same = h.pairs (fresh_pair small_image) (0, omega arith, refl) (0, omega arith, refl) (λ a. among_from (HoldsSlotOfPath (fresh_pair small_image ∷ []) (fresh_pair small_image)) [] a) in
    apart (slice_index (disk_block small_image 0) 128) (slice_index (disk_block two_commit_image 0) 128) refl refl (sym (ap (λ (b : List ℕ). slice_index b 128) same.0))
  where
    apart : (m n : ℕ) → m ≡ 0xff → n ≡ 0x10 → m ≡ n → ⊥
    apart m n e f g = absurd (omega arith)

pub returns-clause-same : goal.returns-clause-same
returns-clause-same c = not_same
