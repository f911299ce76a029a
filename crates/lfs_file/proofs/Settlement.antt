-- A map in which a list was settled has the used blocks of the image again.
use Rattle.std.proofs.Common.{ℕ, ◌≡◌, ◌+◌, ◌≤◌, ⊎_elim, List, Some, sym, ◌∙◌, arith}
use Rattle.std.specs.Prelude.{Contains}
use Rattle.lfs_file.proofs.Common.{All-contains, BlockStates, IsUsedBlock, Free, Used, occurrence_count-Contains, occurrence_count, SettlesList}
use Rattle.lfs_model.specs.layers.BlockSets.{AreUsed}
use Rattle.lfs_model.proofs.BlockSets.{Contains-occurrence_count}
use Rattle.lfs_file.proofs.Outside.{none_or_some, not_there}

module _ (sets later : BlockStates) (owned used before now gone come : List ℕ) (are : AreUsed sets owned) (once : (b : ℕ) → occurrence_count b owned ≤ 1) (counted : (b : ℕ) → occurrence_count b owned + occurrence_count b come ≡ occurrence_count b used + occurrence_count b gone)
    (lists : (b : ℕ) → occurrence_count b now + occurrence_count b gone ≡ occurrence_count b come + occurrence_count b before) (within : (b : ℕ) → Contains now b → Contains used b) (settled : SettlesList sets later before now) where
  used_is : (b : ℕ) → IsUsedBlock later b → Contains used b
  used_is b is = ⊎_elim
      (λ none. ⊎_elim
      (λ never. Contains-occurrence_count used b
      (let same = settled.others b (not_there b before never) (not_there b now none) in
      let has = occurrence_count-Contains owned b ((are b).0 (sym same ∙ is)) in
      let e = counted b in let f = lists b in omega arith))
      (λ was. absurd (let free = settled.freed b (Contains-occurrence_count before b was) (not_there b now none) in let both : Some Free ≡ Some Used = sym free ∙ is in cc))
      (none_or_some (occurrence_count b before)))
      (λ some. within b (Contains-occurrence_count now b some))
      (none_or_some (occurrence_count b now))

  is_used : (b : ℕ) → Contains used b → IsUsedBlock later b
  is_used b has =
      let k = occurrence_count-Contains used b has in
      ⊎_elim
      (λ none.
      let e = counted b in
      let f = lists b in
      let o = once b in
      let never : occurrence_count b before ≡ 0 = omega arith in
      settled.others b (not_there b before never) (not_there b now none) ∙ (are b).1 (Contains-occurrence_count owned b (omega arith)))
      (λ some. All-contains (IsUsedBlock later) now b settled.used (Contains-occurrence_count now b some))
      (none_or_some (occurrence_count b now))

  pub settled_exactly : AreUsed later used
  settled_exactly b = (used_is b, is_used b)
