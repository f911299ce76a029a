-- Properties of pairs at a site, and of those that replace them.
use Rattle.lfs_operations.proofs.Common.{ℕ, ◌≡◌, ◌+◌, ◌∙◌, sym, length, length-append, HasSite, KeptThread, thread_pair, List, [], ◌∷◌, ◌++◌, inl, inr, ⊎_elim, Pair, Each, each_right, HoldsForSome, Site, among_left, among_parts, among_right, dirs_at, thread_at}
use Rattle.lfs_operations.proofs.Threads.{pair_is}

-- a property of each pair is one of those at a site, and of those behind them
pub each_from : (P : Pair → Type 0) (w : Site) (ps : List Pair) → Each P (thread_at w ps) → Each P (ps ++ (w.right ++ w.after))
each_from P w ps h = each_right P (w.before ++ w.left) (ps ++ (w.right ++ w.after)) (each_right P w.chain (dirs_at w ps) h)

among_behind : (P : Pair → Type 0) (xs ys zs : List Pair) → (HoldsForSome P ys → HoldsForSome P zs) → HoldsForSome P (xs ++ ys) → HoldsForSome P (xs ++ zs)
among_behind P [] ys zs f h = f h
among_behind P (x ∷ xs) ys zs f (inl h) = inl h
among_behind P (x ∷ xs) ys zs f (inr h) = inr (among_behind P xs ys zs f h)

-- a property of some pair still holds if others replace those at the site
pub among_turned : (P : Pair → Type 0) (w : Site) (ps qs : List Pair) → (HoldsForSome P ps → HoldsForSome P qs) → HoldsForSome P (thread_at w ps) → HoldsForSome P (thread_at w qs)
among_turned P w ps qs f h = among_behind P w.chain (dirs_at w ps) (dirs_at w qs) (λ a. among_behind P (w.before ++ w.left) (ps ++ (w.right ++ w.after)) (qs ++ (w.right ++ w.after)) front a) h
  where
    front : HoldsForSome P (ps ++ (w.right ++ w.after)) → HoldsForSome P (qs ++ (w.right ++ w.after))
    front a = ⊎_elim (λ here. among_left P qs (w.right ++ w.after) (f here)) (λ behind. among_right P qs (w.right ++ w.after) behind) (among_parts P ps (w.right ++ w.after) a)

-- ---- the site of a pair's number

pub site_place : {ps : List Pair} {index : ℕ} (h : HasSite ps index) → index ≡ length h.site.chain + length (h.site.before ++ h.site.left)
site_place h = sym h.number ∙ length-append h.site.chain (h.site.before ++ h.site.left)

pub site_pair : (t : KeptThread) {index : ℕ} (h : HasSite t.pairs index) → thread_pair t index ≡ h.pair
site_pair t {index} h = pair_is t index h.site h.pair h.is (site_place h)
