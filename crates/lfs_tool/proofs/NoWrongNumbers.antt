-- Where each superblock of two blocks has right numbers, none is wrong.
use Rattle.std.proofs.Common.{ℕ, ◌≡◌, ◌/◌, ⊎_elim, List, length, true, false, ap, subst, sym, ◌∙◌}
use Rattle.lfs_model.specs.declared.limits.AcceptedVersions.{AcceptedVersions}
use Rattle.lfs_model.specs.tree.View.{accepts_version}
use Rattle.lfs_model.specs.format.EntryTypes.{SuperblockFields}
use Rattle.lfs_tool.proofs.Common.{AreFieldsRight, SuperblocksAreRight}
use Rattle.lfs_tool.specs.WrongNumbers.{IsSuperblockAt, IsWrongField}
use Rattle.lfs_tool.specs.declared.verdict.WrongNumber.{WrongNumber}
use Rattle.lfs_tool.specs.declared.verdict.WrongNumber.TheVariants as stated

-- fields with these sizes and version have no wrong number
pub right_fields : (block_size count : ℕ) (versions : AcceptedVersions) (fields : SuperblockFields) (number : WrongNumber) → AreFieldsRight block_size count versions fields → IsWrongField block_size count versions fields number → ⊥
right_fields block_size count versions fields (stated.BlockSize n) right (is, other) = other (sym is ∙ right.same_size)
right_fields block_size count versions fields (stated.BlockCount n) right (is, other) = other (sym is ∙ right.same_count)
right_fields block_size count versions fields (stated.Version n) right (is, other) = absurd (let e : true ≡ false = sym right.version ∙ ap (accepts_version versions) is ∙ other in cc)

pub no_wrong_number : (bytes : List ℕ) (block_size : ℕ) (versions : AcceptedVersions) → ((fields : SuperblockFields) → IsSuperblockAt bytes 0 fields → AreFieldsRight block_size (length bytes / block_size) versions fields)
    → ((fields : SuperblockFields) → IsSuperblockAt bytes block_size fields → AreFieldsRight block_size (length bytes / block_size) versions fields) → SuperblocksAreRight bytes block_size versions
no_wrong_number bytes block_size versions first second number wrong = ⊎_elim
    (λ is. right_fields block_size (length bytes / block_size) versions wrong.fields number (first wrong.fields (subst (λ (from : ℕ). IsSuperblockAt bytes from wrong.fields) is wrong.stands)) wrong.unlike)
    (λ is. right_fields block_size (length bytes / block_size) versions wrong.fields number (second wrong.fields (subst (λ (from : ℕ). IsSuperblockAt bytes from wrong.fields) is wrong.stands)) wrong.unlike)
    wrong.block
