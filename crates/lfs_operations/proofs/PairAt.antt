-- A pair of a directory at a path, in an image that may be changed: what is known of it as a site of the thread.
use Rattle.lfs_operations.proofs.Common.{ℕ, ◌≡◌, ◌+◌, true, List, [], ◌∷◌, ◌++◌, length, sym, ap, subst, ◌∙◌, Path, IsPairAt, IsDirectoryPair, IsWritable, IsDirectoryAtPath, Pair, pairs_gstate, IsAccepted, same_pair, zero_gstate, is_site, number_is, same, site, thread_is, IsSite, Site, begin_of, thread_at, KeptThread, IsRecoveredWritableImage}

pub record HasPairAt (t : KeptThread) (index : ℕ) (path : Path) (at : ℕ × ℕ) (w : Site) (p : Pair) : Type 0 where
  pub there : t.pairs ≡ thread_at w (p ∷ [])
  pub site : IsSite w (p ∷ [])
  pub number : index ≡ length w.chain + length (w.before ++ w.left)
  pub begin : same_pair (begin_of w (p ∷ [])) at ≡ true
  pub leads : IsDirectoryAtPath (thread_at w (p ∷ [])) path at
  pub accepted : IsAccepted t.disk (thread_at w (p ∷ []))
  pub writable : IsWritable t.disk (thread_at w (p ∷ []))
  pub settled : pairs_gstate (thread_at w (p ∷ [])) ≡ zero_gstate

pub pair_at : (t : KeptThread) (ready : IsRecoveredWritableImage t) (path : Path) (at : ℕ × ℕ) (leads : IsDirectoryAtPath t.pairs path at) (first index : ℕ) (p : Pair) (rest : List Pair) (place : IsDirectoryPair t.pairs first index p rest) (begins : IsPairAt t.pairs at first)
    → HasPairAt t index path at (site t.disk t.pairs path at ready.accepted leads first index p rest place begins) p
pair_at t ready path at leads first index p rest place begins = record {
  there = there;
  site = is_site t.disk t.pairs path at ready.accepted leads first index p rest place begins;
  number = number_is t.disk t.pairs path at ready.accepted leads first index p rest place begins;
  begin = same t.disk t.pairs path at ready.accepted leads first index p rest place begins;
  leads = subst (λ z. IsDirectoryAtPath z path at) there leads;
  accepted = subst (IsAccepted t.disk) there ready.accepted;
  writable = subst (IsWritable t.disk) there ready.writable;
  settled = ap pairs_gstate (sym there) ∙ ready.settled;
}
  where
    there : t.pairs ≡ thread_at (site t.disk t.pairs path at ready.accepted leads first index p rest place begins) (p ∷ [])
    there = thread_is t.disk t.pairs path at ready.accepted leads first index p rest place begins
