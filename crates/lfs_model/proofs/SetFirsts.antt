-- Where directories begin once a set move has ended: where they did.
use Rattle.std.proofs.Common.{ℕ, ◌≡◌, List, [], ◌∷◌, ◌++◌, refl, sym, ap, ◌∙◌}
use Rattle.lfs_model.proofs.Common.{Disk, Gstate, Slot, Pair, pair_directories, pairs_gstate, unmoved_entries, all_directories}
use Rattle.lfs_model.proofs.Changes.{chain_now, rearranged_chain}
use Rattle.lfs_model.proofs.Counts.{each_always}
use Rattle.lfs_model.proofs.Listings.{IsRun, SameVisible}
use Rattle.lfs_model.proofs.MoveSets.{IsMoveSet, SameAround, directory_addresses, set_rearranged, firsts_same, site_firsts}
use Rattle.lfs_model.proofs.Rests.{IsMoveEnd, end_change}
use Rattle.lfs_model.proofs.Sites.{Site, dirs_at, run_changed, thread_at}
use Rattle.lfs_model.proofs.Superblocks.{IsChain, pairs_behind}

module _ (disk new : Disk) (w : Site) (p : Pair) (mid : List Pair) (q : Pair) (more : List Pair) (l : List Slot) (u : Slot) (r : List Slot) (step : IsMoveEnd disk new w p mid q more l u r) where
  abbrev g : Gstate
  g = pairs_gstate (thread_at w (p ∷ mid))

  abbrev h : Gstate
  h = pairs_gstate (thread_at w (q ∷ more))

  chain_after : IsChain w.chain (dirs_at w (q ∷ more))
  chain_after = chain_now disk new w.chain (w.before ++ w.left) p mid q more (w.right ++ w.after) [] step.site.chain step.accepted (end_change disk new w p mid q more l u r step)

  run_after : IsRun (w.left ++ (q ∷ more ++ w.right))
  run_after = run_changed w.left p (mid ++ w.right) q (more ++ w.right) (step.shape.run w.right) step.site.run

  same_under : (k : Gstate) (ss : List Pair) → SameVisible k k ss
  same_under k ss = each_always (λ s. unmoved_entries k s ≡ unmoved_entries k s) (λ s. refl) ss

  around : SameAround h h w
  around = record { before = same_under h w.before; left = same_under h w.left; right = same_under h w.right; after = same_under h w.after }

  pub end_firsts : directory_addresses (all_directories (thread_at w (q ∷ more))) ≡ directory_addresses (all_directories (thread_at w (p ∷ mid)))
  end_firsts = ap (λ z. directory_addresses (pair_directories h z)) (pairs_behind w.chain (dirs_at w (q ∷ more)) chain_after)
      ∙ site_firsts h h w p mid q more step.site.ends step.site.run run_after step.shape.at around
      ∙ firsts_same g h (dirs_at w (p ∷ mid)) ∙ ap (λ z. directory_addresses (pair_directories g z)) (sym (pairs_behind w.chain (dirs_at w (p ∷ mid)) step.site.chain))

-- ---- where one is set

module _ (disk new : Disk) (wo : Site) (o : Pair) (lo : List Slot) (u : Slot) (ro : List Slot) (w : Site) (p : Pair) (mid : List Pair) (q : Pair) (more : List Pair) (extra : List ℕ) (l olds : List Slot) (v : Slot) (r : List Slot)
    (step : IsMoveSet disk new wo o lo u ro w p mid q more extra l olds v r) where
  abbrev g2 : Gstate
  g2 = pairs_gstate (thread_at w (p ∷ mid))

  abbrev h2 : Gstate
  h2 = pairs_gstate (thread_at w (q ∷ more))

  chain_set : IsChain w.chain (dirs_at w (q ∷ more))
  chain_set = rearranged_chain disk new w.chain (w.before ++ w.left) p mid q more (w.right ++ w.after) (extra ++ []) step.site.chain step.accepted (set_rearranged disk new wo o lo u ro w p mid q more extra l olds v r step)

  run_set : IsRun (w.left ++ (q ∷ more ++ w.right))
  run_set = run_changed w.left p (mid ++ w.right) q (more ++ w.right) (step.shape.run w.right) step.site.run

  same_set : (k : Gstate) (ss : List Pair) → SameVisible k k ss
  same_set k ss = each_always (λ s. unmoved_entries k s ≡ unmoved_entries k s) (λ s. refl) ss

  around_set : SameAround h2 h2 w
  around_set = record { before = same_set h2 w.before; left = same_set h2 w.left; right = same_set h2 w.right; after = same_set h2 w.after }

  pub set_firsts : directory_addresses (all_directories (thread_at w (q ∷ more))) ≡ directory_addresses (all_directories (thread_at w (p ∷ mid)))
  set_firsts = ap (λ z. directory_addresses (pair_directories h2 z)) (pairs_behind w.chain (dirs_at w (q ∷ more)) chain_set)
      ∙ site_firsts h2 h2 w p mid q more step.site.ends step.site.run run_set step.shape.at around_set
      ∙ firsts_same g2 h2 (dirs_at w (p ∷ mid)) ∙ ap (λ z. directory_addresses (pair_directories g2 z)) (sym (pairs_behind w.chain (dirs_at w (p ∷ mid)) step.site.chain))
