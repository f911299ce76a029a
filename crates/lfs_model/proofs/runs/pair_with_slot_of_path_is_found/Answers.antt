use Rattle.std.proofs.Common.{◌⊎◌, inl, inr, [], ◌∷◌, refl, arith}
use Rattle.std.specs.Prelude.{codes, Any}
use Rattle.lfs_model.proofs.Common.{default_profile, Slot, file_slot, superblock_slot}
use Rattle.lfs_model.specs.crash.Frame.{IsEntryNamed}
use Rattle.lfs_model.proofs.Sites.{among_from, any_from}
use Rattle.lfs_model.proofs.runs.pair_with_slot_of_path_is_found.Goals as goal

pub returns-clause-file : goal.returns-clause-file
returns-clause-file c = ((4, 5), (refl, (0, omega arith, refl), any_from (IsEntryNamed (codes "a")) (file_slot (codes "a") ∷ []) (inl (refl, refl))))

none_named : (s : Slot) → (IsEntryNamed (codes "a") s → ⊥) → Any (IsEntryNamed (codes "a")) (s ∷ []) → ⊥
none_named s n h = go (among_from (IsEntryNamed (codes "a")) (s ∷ []) h)
  where
    go : IsEntryNamed (codes "a") s ⊎ ⊥ → ⊥
    go (inl k) = n k
    go (inr k) = k

pub returns-clause-other_pair : goal.returns-clause-other_pair
returns-clause-other_pair c = λ h. none_named (file_slot (codes "z")) (λ k. absurd (let e = k.1 in cc)) h.1.2

pub returns-clause-superblock : goal.returns-clause-superblock
returns-clause-superblock c = λ h. go (among_from (IsEntryNamed (codes "littlefs")) (superblock_slot default_profile 1024 2 ∷ []) h.1.2)
  where
    go : IsEntryNamed (codes "littlefs") (superblock_slot default_profile 1024 2) ⊎ ⊥ → ⊥
    go (inl k) = absurd (let e = k.0 in cc)
    go (inr k) = k
