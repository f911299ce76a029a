-- From the parts of the check to the image.
use Rattle.std.proofs.Common.{ℕ, ◌≡◌, inr, ◌++◌, List, ◌∷◌, Option, drop, sym, ap, subst, ◌∙◌}
use Rattle.lfs_mount.proofs.Common.{BlockStates, Disk, CallEvent, Gstate, Pair, pairs_gstate, IsAccepted, HasValidMove, used_blocks, Breaks, PairsBreak, PairHeader, header_pairs, IsHeaderCheckResult, MapUsesBlocks, IsThreadCheckResult, AreThreadHeaders, HasSuperblockChainLength, IsThreadRead, IsHeaderThread, HeadersHaveGstate, MoveSourceIsEntry}
use Rattle.lfs_model.specs.declared.violations.Violation.{Violation}
use Rattle.lfs_mount.proofs.KnownMoves.{directories_behind, joined_global}
use Rattle.lfs_mount.proofs.KnownThread.{known_thread}

pub has_headers : (disk : Disk) (history : List CallEvent) (hs : List PairHeader) (sets : BlockStates) (g : Gstate) → IsThreadRead disk history hs sets g → AreThreadHeaders disk history hs
has_headers disk history hs sets g r = record { each = r.kept.each; thread = r.thread }

module _ (disk : Disk) (history : List CallEvent) (hs : List PairHeader) (sets : BlockStates) (g : Gstate) (count : ℕ) (r : IsThreadRead disk history hs sets g) (head : HasSuperblockChainLength disk (header_pairs disk hs) count) where
  abbrev dirs : List PairHeader
  dirs = drop count hs

  directories : HeadersHaveGstate g dirs head.chain head.p head.rest
  directories = subst (λ s. HeadersHaveGstate s dirs head.chain head.p head.rest) (joined_global disk history hs r.kept.each ∙ sym r.global) (directories_behind disk history hs count (has_headers disk history hs sets g r) head)

  known : IsHeaderThread disk sets g dirs head.chain head.p head.rest
  known = known_thread disk history hs sets g count r head

  -- what the pairs of the thread break, the disk breaks
  breaks : (violation : Violation) → PairsBreak disk (head.chain ++ head.p ∷ head.rest) violation → Breaks disk violation
  breaks violation h = inr (header_pairs disk hs, (r.thread, subst (λ ps. PairsBreak disk ps violation) (sym head.parts) h))

  pub move_breaks : (xs : List PairHeader) → xs ≡ dirs → (violation : Violation) → ((d : Disk) (chain : List Pair) (p : Pair) (rest : List Pair) → HeadersHaveGstate g xs chain p rest → PairsBreak d (chain ++ p ∷ rest) violation) → Breaks disk violation
  move_breaks xs e violation broken = breaks violation (broken disk head.chain head.p head.rest (subst (λ ys. HeadersHaveGstate g ys head.chain head.p head.rest) (sym e) directories))

  pub pairs_break : (now : Disk) → now ≡ disk → (xs : List PairHeader) → xs ≡ dirs → (violation : Violation)
      → ((chain : List Pair) (p : Pair) (rest : List Pair) → IsHeaderThread now sets g xs chain p rest → PairsBreak now (chain ++ p ∷ rest) violation) → Breaks disk violation
  pairs_break now same xs e violation broken = breaks violation (subst (λ d. PairsBreak d (head.chain ++ head.p ∷ head.rest) violation) same
      (broken head.chain head.p head.rest (subst (λ d. IsHeaderThread d sets g xs head.chain head.p head.rest) (sym same) (subst (λ ys. IsHeaderThread disk sets g ys head.chain head.p head.rest) (sym e) known))))

  pub has_image : (now : Disk) → now ≡ disk → (new : BlockStates) (xs : List PairHeader) → xs ≡ dirs
      → ((chain : List Pair) (p : Pair) (rest : List Pair) → HeadersHaveGstate g xs chain p rest → MoveSourceIsEntry g (p ∷ rest) → HasValidMove (chain ++ p ∷ rest) g)
      → (broken_rule : Option Violation) → ((chain : List Pair) (p : Pair) (rest : List Pair) → IsHeaderThread now sets g xs chain p rest → IsThreadCheckResult now broken_rule sets new chain p rest)
      → IsHeaderCheckResult disk hs broken_rule sets new
  has_image now same new xs e move broken_rule judged =
      let ps : List Pair = head.chain ++ head.p ∷ head.rest in
      let thread = subst (λ d. IsHeaderThread d sets g xs head.chain head.p head.rest) (sym same) (subst (λ ys. IsHeaderThread disk sets g ys head.chain head.p head.rest) (sym e) known) in
      let is : IsThreadCheckResult disk broken_rule sets new head.chain head.p head.rest = subst (λ d. IsThreadCheckResult d broken_rule sets new head.chain head.p head.rest) same (judged head.chain head.p head.rest thread) in
      let global : g ≡ pairs_gstate ps = r.global ∙ ap pairs_gstate head.parts in
      let has = subst (λ ys. HeadersHaveGstate g ys head.chain head.p head.rest) (sym e) directories in
      let moves = move head.chain head.p head.rest has (subst (λ s. MoveSourceIsEntry s (head.p ∷ head.rest)) (sym global) is.moved) in
      record {
        marked = subst (λ qs. MapUsesBlocks sets new (used_blocks disk qs)) (sym head.parts) (is.marked head.bytes head.head);
        accepted = λ fit. subst (IsAccepted disk) (sym head.parts) (is.accepted fit head.bytes head.head (subst (HasValidMove ps) global moves));
        broken = λ violation found. breaks violation (is.broken violation found);
      }
