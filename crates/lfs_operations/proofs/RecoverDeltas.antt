-- The content of a pair after a commit that sets the global state.
use Rattle.lfs_operations.proofs.Common.{ℕ, ◌≡◌, ◌<◌, List, [], ◌∷◌, Some, refl, sym, ap, subst, ◌∙◌, arith, get_or, length, zero, suc, same_Some, recursion_from_All, PutMove, content_with_changes, RawContent, decoded_content, content_at, raw_content, MoveStateFits, FitsInPair, Gstate, gstate_xor, Pair, pairs_gstate, completed_from, completed_parts, Each, each_weaker, does_first, does_nothing, puts_move, KeptThread, CanChangePair, RefusesChanges, complete_after, empty_anchor, thread_pair, option_and_then, CanSetGstate, gstate_changes, delta_reaching_gstate, content_reaching_gstate, AreByteBlocks}
use Rattle.lfs_operations.proofs.Held.{completes_to}
use Rattle.lfs_operations.proofs.DroppedTails.{all_again, move_xor, moves_joined, IsWritableAgain}

-- what holds of each pair holds of the one at an index
pub each_at : (P : Pair → Type 0) (ps : List Pair) (index : ℕ) → index < length ps → Each P ps → P (get_or ps index empty_anchor)
each_at P [] index low h = absurd (omega arith)
each_at P (p ∷ ps) zero low h = h.0
each_at P (p ∷ ps) (suc index) low h = each_at P ps index (omega arith) h.1

module _ (t : KeptThread) (index : ℕ) (g : Gstate) (can : CanSetGstate t index g) (bytes : AreByteBlocks t.disk.blocks) where
  abbrev p : Pair
  p = thread_pair t index

  all_hold : Each (λ p. content_at t.disk p.at ≡ Some p.content) t.pairs
  all_hold = recursion_from_All (λ (p : Pair). content_at t.disk p.at ≡ Some p.content) t.pairs can.accepted.thread.contents

  again : Each (λ p. IsWritableAgain p.content) t.pairs
  again = all_again t.disk t.pairs bytes all_hold

  delta_fits : MoveStateFits (delta_reaching_gstate t index g)
  delta_fits = move_xor (gstate_xor g (pairs_gstate t.pairs)) p.content.move
      (move_xor g (pairs_gstate t.pairs) can.storable (moves_joined t.pairs (each_weaker (λ (p : Pair). IsWritableAgain p.content) (λ (p : Pair). MoveStateFits p.content.move) (λ p h. h.move) t.pairs again)))
      (each_at (λ p. IsWritableAgain p.content) t.pairs index can.below again).move

  pub set_made : complete_after t index (gstate_changes t index g) ≡ Some (content_reaching_gstate t index g)
  set_made =
      let k = completes_to (raw_content t.disk p.at) p.content (each_at (λ p. content_at t.disk p.at ≡ Some p.content) t.pairs index can.below all_hold) in
      let parts = completed_parts k.raw p.content k.complete in
      let now = record k.raw { move = delta_reaching_gstate t index g } in
      ap (λ o. option_and_then decoded_content (option_and_then (λ (x : RawContent). content_with_changes x (gstate_changes t index g)) o)) k.is
      ∙ ap (λ o. option_and_then decoded_content o) (does_first (PutMove (delta_reaching_gstate t index g)) [] k.raw now now
      (puts_move k.raw (delta_reaching_gstate t index g) delta_fits) (does_nothing now))
      ∙ completed_from now p.content.slots parts.slots
      ∙ ap (λ tail. Some (record { slots = p.content.slots; tail = tail; move = delta_reaching_gstate t index g })) (sym parts.tail)

  pub can_set : CanChangePair t index (gstate_changes t index g)
  can_set = record { below = can.below; content = content_reaching_gstate t index g; made = set_made; next = refl }

  pub set_fits : FitsInPair t.disk.block_size t.disk.page (content_reaching_gstate t index g)
  set_fits =
      let f = each_at (λ x. FitsInPair t.disk.block_size t.disk.page x.content) t.pairs index can.below
      (recursion_from_All (λ (x : Pair). FitsInPair t.disk.block_size t.disk.page x.content) t.pairs can.writable.pairs) in
      record { size = f.size; count = f.count }

-- ---- it is never refused

pub set_not_refused : (t : KeptThread) (index : ℕ) (g : Gstate) → CanSetGstate t index g → AreByteBlocks t.disk.blocks → (new : KeptThread) → RefusesChanges t index (gstate_changes t index g) new → ⊥
set_not_refused t index g can bytes new is =
    is.too_large (subst (FitsInPair t.disk.block_size t.disk.page) (sym (same_Some is.content (content_reaching_gstate t index g) (sym is.made ∙ set_made t index g can bytes))) (set_fits t index g can bytes))
