-- A rename onto an empty directory: no path leads to that one any more, and every other directory is still reached. So its pair may go.
use Rattle.std.proofs.Common.{ℕ, ◌≡◌, ◌⊎◌, inl, inr, true, false, List, [], ◌∷◌, ◌++◌, Option, Some, None, sym, ap, subst, ◌∙◌, append-nil}
use Rattle.std.specs.Prelude.{All}
use Rattle.lfs_model.proofs.Common.{All-from_recursion, recursion_from_All, same_Some, Disk, same_pair, Pair, ThreadDirectory, is_hard_tail, root_address, Path, address_at_path, without_prefix, tree_with_subtree, tree_renaming, IsReachedDirectory, all_directories, all_entries}
use Rattle.lfs_model.proofs.LeftFiles.{ends_same}
use Rattle.lfs_model.proofs.Paths.{IsBelowOrAside, beyond, aside, rest, rest_itself}
use Rattle.lfs_model.proofs.Pairs.{pair_back, pair_on}
use Rattle.lfs_model.proofs.Edits.{planted_off, planted_on}
use Rattle.lfs_model.proofs.Counts.{each_weaker}
use Rattle.lfs_model.proofs.Sites.{IsLedTo}
use Rattle.lfs_model.proofs.Moves.{AllReached, AllReachedBut}
use Rattle.lfs_model.proofs.Renames.{renamed_addresses}
use Rattle.lfs_model.proofs.Committed.{no_move_from}
use Rattle.lfs_model.proofs.StepsTaken.{IsWritableChange, taken_then}
use Rattle.lfs_model.proofs.Unthreaded.{IsReady, unthread}
use Rattle.lfs_model.proofs.RmdirSteps.{IsGone}

-- The path `new` leads to the directory at d, beneath which nothing is, and isn't beneath `old`. No two paths lead to one directory.
pub record IsReplaced (was : Path → Option (ℕ × ℕ)) (old new : Path) (d : ℕ × ℕ) : Type 0 where
  pub apart : without_prefix old new ≡ None
  pub there : was new ≡ Some d
  pub alone : (t : Path) (at : ℕ × ℕ) → was (new ++ t) ≡ Some at → t ≡ []
  pub once : (path other : Path) (at to : ℕ × ℕ) → was path ≡ Some at → was other ≡ Some to → same_pair at to ≡ true → path ≡ other

module _ (was : Path → Option (ℕ × ℕ)) (old new : Path) (d : ℕ × ℕ) (c : IsReplaced was old new d) where
  not_old : (t : Path) → old ++ t ≡ new → ⊥
  not_old t e = absurd (let k : without_prefix old new ≡ Some t = ap (without_prefix old) (sym e) ∙ rest_itself old t in let a = c.apart in cc)

  pub replaced_unled : (path : Path) (x : ℕ × ℕ) → renamed_addresses old new was path ≡ Some x → same_pair d x ≡ true → ⊥
  replaced_unled path x h s = at_new (rest new path)
    where
      at_new : IsBelowOrAside new path → ⊥
      at_new (beyond t e f) = not_old t (c.once (old ++ t) new x d (sym (planted_on new (λ t. was (old ++ t)) (tree_with_subtree old (λ t. None) was) path t f) ∙ h) c.there (pair_back d x s))
      at_new (aside n f) = at_old (rest old path)
        where
          left : tree_with_subtree old (λ t. None) was path ≡ Some x
          left = sym (planted_off new (λ t. was (old ++ t)) (tree_with_subtree old (λ t. None) was) path f) ∙ h

          at_old : IsBelowOrAside old path → ⊥
          at_old (beyond t e g) = absurd (let k = sym (planted_on old (λ t. None) was path t g) ∙ left in cc)
          at_old (aside m g) = n [] (c.once path new x d (sym (planted_off old (λ t. None) was path g) ∙ left) c.there (pair_back d x s) ∙ sym (append-nil new))

  pub replaced_reached : (x : ℕ × ℕ) → IsLedTo was x → IsLedTo (renamed_addresses old new was) x ⊎ (same_pair x d ≡ true)
  replaced_reached x (path, at, (k, s)) = at_old (rest old path)
    where
      at_old : IsBelowOrAside old path → IsLedTo (renamed_addresses old new was) x ⊎ (same_pair x d ≡ true)
      at_old (beyond t e f) = inl (new ++ t, at, (planted_on new (λ t. was (old ++ t)) (tree_with_subtree old (λ t. None) was) (new ++ t) t (rest_itself new t) ∙ ap was (sym e) ∙ k, s))
      at_old (aside n f) = at_new (rest new path)
        where
          at_new : IsBelowOrAside new path → IsLedTo (renamed_addresses old new was) x ⊎ (same_pair x d ≡ true)
          at_new (aside m g) = inl (path, at, (planted_off new (λ t. was (old ++ t)) (tree_with_subtree old (λ t. None) was) path g ∙ planted_off old (λ t. None) was path f ∙ k, s))
          at_new (beyond t e g) =
              let none : t ≡ [] = c.alone t at (ap was (sym e) ∙ k) in
              let here : at ≡ d = same_Some at d (sym k ∙ ap was (e ∙ ap (λ z. new ++ z) none ∙ append-nil new) ∙ c.there) in
              inr (subst (λ z. same_pair x z ≡ true) here s)

-- ---- on the disk

-- The first step makes the rename, with the sync bit set; the second drops the pair o of the directory.
module _ (disk middle new : Disk) (ps : List Pair) (old_path new_path : Path) (d : ℕ × ℕ) (chain front : List Pair) (x o y : Pair) (back : List Pair)
    (first : IsWritableChange disk ps middle (chain ++ (front ++ x ∷ o ∷ back)) (tree_renaming old_path new_path) (renamed_addresses old_path new_path)) (ready : IsReady middle chain (front ++ x ∷ o ∷ back))
    (replaced : IsReplaced (address_at_path (all_entries ps) (root_address ps)) old_path new_path d) (reached : AllReached ps)
    (every : (Q : ℕ × ℕ → Type 0) → All (λ z. Q z.at) (all_directories ps) → All (λ z. Q z.at) (all_directories (chain ++ (front ++ x ∷ o ∷ back))))
    (address : same_pair o.at d ≡ true) (alone : is_hard_tail o.content.tail ≡ false) (gone : IsGone middle new chain front x o y back) where
  abbrev qs : List Pair
  qs = chain ++ (front ++ x ∷ o ∷ back)

  but_o : AllReachedBut (chain ++ (front ++ x ∷ o ∷ back)) o.at
  but_o = every (λ z. IsReachedDirectory qs z ⊎ (same_pair z o.at ≡ true)) (All-from_recursion (λ (z : ThreadDirectory). IsReachedDirectory qs z.at ⊎ (same_pair z.at o.at ≡ true)) (all_directories ps)
      (each_weaker (λ (z : ThreadDirectory). IsReachedDirectory ps z.at) (λ (z : ThreadDirectory). IsReachedDirectory qs z.at ⊎ (same_pair z.at o.at ≡ true)) (λ z h. go z.at (replaced_reached (address_at_path (all_entries ps) (root_address ps)) old_path new_path d replaced z.at h))
      (all_directories ps) (recursion_from_All (λ (z : ThreadDirectory). IsReachedDirectory ps z.at) (all_directories ps) reached)))
    where
      go : (z : ℕ × ℕ) → IsLedTo (renamed_addresses old_path new_path (address_at_path (all_entries ps) (root_address ps))) z ⊎ (same_pair z d ≡ true) → IsReachedDirectory qs z ⊎ (same_pair z o.at ≡ true)
      go z (inl (path, at, (k, s))) = inl (path, at, (ap (λ walk. walk path) first.follows.leads ∙ k, s))
      go z (inr e) = inr (pair_on z d o.at e (pair_back o.at d address))

  pub replacing_taken : IsWritableChange disk ps new (chain ++ (front ++ y ∷ back)) (tree_renaming old_path new_path) (renamed_addresses old_path new_path)
  replacing_taken = taken_then disk middle new ps qs (chain ++ (front ++ y ∷ back)) (tree_renaming old_path new_path) (λ t. t) (renamed_addresses old_path new_path) (λ z. z) (ends_same (tree_renaming old_path new_path)) first
      (unthread middle new chain front x o y back ready (record {
        device = gone.device;
        no_move = no_move_from (chain ++ (front ++ y ∷ back)) gone.settled;
        soft = gone.soft;
        at = gone.at;
        slots = gone.slots;
        tail = gone.tail;
        unled = λ path z k e. replaced_unled (address_at_path (all_entries ps) (root_address ps)) old_path new_path d replaced path z (sym (ap (λ walk. walk path) first.follows.leads) ∙ k) (pair_on d o.at z (pair_back o.at d address) e);
        reached = λ e. (alone, but_o);
      })).taken
