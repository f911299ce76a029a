-- Whether a pair of a thread is worn, by the revision of its log.
use Rattle.std.proofs.Common.{ℕ, ◌≡◌, ◌%◌, ◌==◌, ◌&&◌, not, nat_eq, List, Option, Some, None, sym, ap, ◌∙◌}
use Rattle.lfs_model.proofs.Common.{ne_eqb, same_Some, option_map}
use Rattle.lfs_model.specs.format.Log.{block_revision}
use Rattle.lfs_model.specs.declared.limits.Profile.{Profile}
use Rattle.lfs_model.specs.session.Moved.{is_worn_block}

worn_is : (cycles revision : ℕ) (block : Option (List ℕ)) → option_map block_revision block ≡ Some revision → is_worn_block cycles block ≡ (not (cycles == 0) && revision % cycles == 0)
worn_is cycles revision None e = absurd (cc)
worn_is cycles revision (Some block) e = ap (λ r. not (cycles == 0) && r % cycles == 0) (same_Some (block_revision block) revision e)

-- the profile that a device gives is the disk's
pub worn_at : (given own : Profile) (revision : ℕ) (block : Option (List ℕ)) → given ≡ own → option_map block_revision block ≡ Some revision → (given.pair_cycles ≡ 0 → ⊥)
    → nat_eq (revision % given.pair_cycles) 0 ≡ is_worn_block own.pair_cycles block
worn_at given own revision block same e some =
    sym (ap (λ (k : Profile). is_worn_block k.pair_cycles block) (sym same) ∙ worn_is given.pair_cycles revision block e ∙ ap (λ b. not b && nat_eq (revision % given.pair_cycles) 0) (ne_eqb given.pair_cycles 0 some))
