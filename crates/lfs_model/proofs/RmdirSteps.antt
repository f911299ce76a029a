-- An empty directory is removed by the steps themselves: its entry goes with the sync bit set, and then its pair goes from the thread.
use Rattle.std.proofs.Common.{ℕ, ◌≡◌, ◌⊎◌, inl, inr, true, false, List, [], ◌∷◌, ◌++◌, Some, None, sym, ap, subst}
use Rattle.lfs_model.proofs.Common.{All-from_recursion, recursion_from_All, Disk, Slot, Branch, zero_gstate, is_superblock, same_pair, Pair, ThreadDirectory, pairs_gstate, is_hard_tail, Path, IsAccepted, IsReachedDirectory, IsDirectoryAtPath, all_directories, all_entries, IsWritable, tree_removing, tree_with_subtree, slot_of_path}
use Rattle.lfs_model.proofs.LeftFiles.{ends_same}
use Rattle.lfs_model.proofs.Counts.{each_weaker}
use Rattle.lfs_model.proofs.Pairs.{pair_back, pair_on}
use Rattle.lfs_model.proofs.Global.{HasNoMove}
use Rattle.lfs_model.proofs.Superblocks.{IsChain}
use Rattle.lfs_model.proofs.Changes.{chain_now}
use Rattle.lfs_model.proofs.Sites.{Site, dirs_at, thread_at, begin_of}
use Rattle.lfs_model.proofs.Splices.{IsDevice, splice_change}
use Rattle.lfs_model.proofs.Moves.{IsStep, AllReachedBut, place_at, goes_from, directory_goes, directory_goes_reached, directory_goes_unled}
use Rattle.lfs_model.proofs.OneCommit.{slot_there}
use Rattle.lfs_model.proofs.Committed.{recovered_from, no_move_from}
use Rattle.lfs_model.proofs.Drops.{softened}
use Rattle.lfs_model.proofs.StepsTaken.{IsWritableChange, taken_then}
use Rattle.lfs_model.proofs.Unthreaded.{Unthreads, unthread}

-- as many superblock's pairs are in front after a step
pub step_chain : (disk new : Disk) (w : Site) (p : Pair) (mid : List Pair) (q : Pair) (more : List Pair) (extra fresh : List ℕ) (l olds news r : List Slot)
    → IsStep disk new w p mid q more extra fresh l olds news r → IsChain w.chain (dirs_at w (q ∷ more))
step_chain disk new w p mid q more extra fresh l olds news r step =
    chain_now disk new w.chain (w.before ++ w.left) p mid q more (w.right ++ w.after) (extra ++ fresh) step.site.chain step.accepted
    (splice_change disk new w.chain (w.before ++ w.left) p mid q more (w.right ++ w.after) extra fresh l olds news r step.accepted step.no_move step.still_none step.device step.free
    step.shape.at (step.shape.links (w.right ++ w.after)) step.shape.front step.shape.blocks step.was step.is step.splice)

-- the pair o after x goes in the second step, and x becomes y
pub record IsGone (middle new : Disk) (chain front : List Pair) (x o y : Pair) (back : List Pair) : Type 0 where
  pub device : IsDevice middle new (chain ++ (front ++ x ∷ o ∷ back)) (chain ++ (front ++ y ∷ back))
  pub settled : pairs_gstate (chain ++ (front ++ y ∷ back)) ≡ zero_gstate
  pub soft : is_hard_tail x.content.tail ≡ false
  pub at : y.at ≡ x.at
  pub slots : y.content.slots ≡ x.content.slots
  pub tail : y.content.tail ≡ softened o.content.tail

module _ (disk middle new : Disk) (w : Site) (p : Pair) (mids : List Pair) (q : Pair) (l r : List Slot) (u : Slot) (step : IsStep disk middle w p mids q [] [] [] l (u ∷ []) [] r) (other : is_superblock u ≡ false)
    (writable : IsWritable middle (thread_at w (q ∷ [])))
    (P : Path) (a : ℕ × ℕ) (leads : IsDirectoryAtPath (thread_at w (p ∷ mids)) P a) (same : same_pair (begin_of w (p ∷ mids)) a ≡ true)
    (d : ℕ × ℕ) (branch : u.struct ≡ Branch d) (empty : all_entries (thread_at w (p ∷ mids)) d ≡ []) (sync : (pairs_gstate (thread_at w (q ∷ []))).sync ≡ true)
    (settled : pairs_gstate (thread_at w (p ∷ mids)) ≡ zero_gstate)
    (front : List Pair) (x o y : Pair) (back : List Pair) (there : dirs_at w (q ∷ []) ≡ front ++ x ∷ o ∷ back) (address : same_pair o.at d ≡ true) (alone : is_hard_tail o.content.tail ≡ false)
    (gone : IsGone middle new w.chain front x o y back) where
  abbrev ps : List Pair
  ps = thread_at w (p ∷ mids)

  first : IsWritableChange disk (thread_at w (p ∷ mids)) middle (thread_at w (q ∷ [])) (tree_removing (P ++ u.name ∷ [])) (tree_with_subtree (P ++ u.name ∷ []) (λ t. None))
  first = record { follows = directory_goes disk middle w p mids q [] [] [] l r u step other P a leads same d branch empty sync; writable = writable }

  thread_is : thread_at w (q ∷ []) ≡ w.chain ++ (front ++ x ∷ o ∷ back)
  thread_is = ap (λ z. w.chain ++ z) there

  but_o : AllReachedBut (thread_at w (q ∷ [])) o.at
  but_o = All-from_recursion (λ z. IsReachedDirectory (thread_at w (q ∷ [])) z.at ⊎ (same_pair z.at o.at ≡ true)) (all_directories (thread_at w (q ∷ [])))
      (each_weaker (λ (z : ThreadDirectory). IsReachedDirectory (thread_at w (q ∷ [])) z.at ⊎ (same_pair z.at d ≡ true)) (λ (z : ThreadDirectory). IsReachedDirectory (thread_at w (q ∷ [])) z.at ⊎ (same_pair z.at o.at ≡ true)) (λ z k. go z k) (all_directories (thread_at w (q ∷ [])))
      (recursion_from_All (λ (z : ThreadDirectory). IsReachedDirectory (thread_at w (q ∷ [])) z.at ⊎ (same_pair z.at d ≡ true)) (all_directories (thread_at w (q ∷ [])))
      (directory_goes_reached disk middle w p mids q [] [] [] l r u step other P a leads same d branch empty sync (recovered_from disk (thread_at w (p ∷ mids)) step.accepted settled).reached)))
    where
      go : (z : ThreadDirectory) → IsReachedDirectory (thread_at w (q ∷ [])) z.at ⊎ (same_pair z.at d ≡ true) → IsReachedDirectory (thread_at w (q ∷ [])) z.at ⊎ (same_pair z.at o.at ≡ true)
      go z (inl k) = inl k
      go z (inr k) = inr (pair_on z.at d o.at k (pair_back o.at d address))

  second : Unthreads middle new w.chain (front ++ x ∷ o ∷ back) (front ++ y ∷ back)
  second = unthread middle new w.chain front x o y back
      (record {
        accepted = subst (IsAccepted middle) thread_is first.follows.accepted;
        writable = subst (IsWritable middle) thread_is writable;
        no_move = subst (λ z. HasNoMove (pairs_gstate z)) thread_is step.still_none;
        is_chain = subst (IsChain w.chain) there (step_chain disk middle w p mids q [] [] [] l (u ∷ []) [] r step);
      })
      (record {
        device = gone.device;
        no_move = no_move_from (w.chain ++ (front ++ y ∷ back)) gone.settled;
        soft = gone.soft;
        at = gone.at;
        slots = gone.slots;
        tail = gone.tail;
        unled = λ other_path z k e. directory_goes_unled disk middle w p mids q [] [] [] l r u step other P a leads same d branch empty sync other_path z
            (subst (λ xs. IsDirectoryAtPath xs other_path z) (sym thread_is) k) (pair_on d o.at z (pair_back o.at d address) e);
        reached = λ e. (alone, subst (λ xs. AllReachedBut xs o.at) thread_is but_o);
      })

  pub rmdir_taken : IsWritableChange disk (thread_at w (p ∷ mids)) new (w.chain ++ (front ++ y ∷ back)) (tree_removing (P ++ u.name ∷ [])) (tree_with_subtree (P ++ u.name ∷ []) (λ t. None))
  rmdir_taken = taken_then disk middle new ps (thread_at w (q ∷ [])) (w.chain ++ (front ++ y ∷ back)) (tree_removing (P ++ u.name ∷ [])) (λ t. t) (tree_with_subtree (P ++ u.name ∷ []) (λ t. None)) (λ z. z) (ends_same (tree_removing (P ++ u.name ∷ []))) first
      (subst (λ z. IsWritableChange middle z new (w.chain ++ (front ++ y ∷ back)) (λ t. t) (λ z. z)) (sym thread_is) second.taken)

  pub rmdir_named : slot_of_path (thread_at w (p ∷ mids)) (P ++ u.name ∷ []) ≡ Some u
  rmdir_named = slot_there disk ps P a (place_at w l) u step.accepted leads (goes_from disk middle w p mids q [] [] [] l r u step other P a leads same)
