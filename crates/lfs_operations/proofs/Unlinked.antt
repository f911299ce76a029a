-- The removal of an entry, which may flip the sync bit, as a change of its pair.
use Rattle.lfs_operations.proofs.Common.{ℕ, ◌≡◌, List, [], ◌∷◌, ◌++◌, length, Some, sym, ap, ap₂, subst, ◌∙◌, arith, length-append, remove, sum_by, same_Some, sum_by-append, sum_by-cons, Delete, PutMove, content_with_changes, RawContent, decoded_content, raw_content, MoveStateFits, FitsInPair, Gstate, Slot, gstate_xor, slot_size, Pair, complete_length, complete_remove, completed_from, completed_parts, deletes, does_first, does_nothing, puts_move, sync_bit_delta, remove_here, KeptThread, complete_after, thread_pair, option_and_then, CanEditIn, tail_target, CanCommit, ContentChange}
use Rattle.lfs_operations.proofs.DroppedTails.{move_xor}
use Rattle.lfs_operations.proofs.Held.{CompletesTo, below, fits_there, here, raw_there}
use Rattle.lfs_operations.proofs.MovTurned.{content_with}

pub sync_small : MoveStateFits sync_bit_delta
sync_small = record { kind = omega arith; id = omega arith; pair = (omega arith, omega arith) }

-- the changes make this delta of the pair's
pub record MakesDelta (p : Pair) (changes : List ContentChange) (move : Gstate) : Type 0 where
  pub makes : (raw : RawContent) → raw.move ≡ p.content.move → MoveStateFits raw.move → content_with_changes raw changes ≡ Some (record raw { move = move })

pub delta_stays : (p : Pair) → MakesDelta p [] p.content.move
delta_stays p = record { makes = λ raw same small. does_nothing raw ∙ ap (λ m. Some (record raw { move = m })) same }

-- it flips the sync bit
delta_turns : (p : Pair) → MakesDelta p (PutMove (gstate_xor p.content.move sync_bit_delta) ∷ []) (gstate_xor p.content.move sync_bit_delta)
delta_turns p = record {
  makes = λ raw same small.
      let delta = gstate_xor p.content.move sync_bit_delta in
      let now : RawContent = record raw { move = delta } in
      does_first (PutMove delta) [] raw now now (puts_move raw delta (move_xor p.content.move sync_bit_delta (subst MoveStateFits same small) sync_small)) (does_nothing now);
}

module _ {t : KeptThread} {index id : ℕ} (can : CanEditIn t index id) where
  abbrev p : Pair
  p = can.stands.pair

  abbrev l : List Slot
  l = can.stands.stands.left

  abbrev r : List Slot
  r = can.stands.stands.right

  abbrev u : Slot
  u = can.stands.stands.slot

  pub pair_there : thread_pair t index ≡ can.stands.pair
  pair_there = here t can.ready can.first index p can.stands.rest can.stands.place

  fits_held : FitsInPair t.disk.block_size t.disk.page p.content
  fits_held = fits_there t can.ready can.first index p can.stands.rest can.stands.place

  c : CompletesTo (raw_content t.disk (thread_pair t index).at) p.content
  c = raw_there t can.ready can.first index p can.stands.rest can.stands.place

  -- what is left fits
  pub fits_gone : (move : Gstate) → FitsInPair t.disk.block_size t.disk.page (content_with can.stands.pair (can.stands.stands.left ++ can.stands.stands.right) move)
  fits_gone move =
      let a = ap (sum_by slot_size) can.stands.stands.held in
      let b = sum_by-append slot_size l (u ∷ r) in
      let d = sum_by-cons slot_size u r in
      let g = sum_by-append slot_size l r in
      let h = ap length can.stands.stands.held in
      let i = length-append l (u ∷ r) in
      let k = length-append l r in
      let s = fits_held.size in
      let n = fits_held.count in
      record { size = omega arith; count = omega arith }

  module _ {more : List ContentChange} {move : Gstate} (k : MakesDelta can.stands.pair more move) where
    abbrev raw_now : RawContent
    raw_now = record { slots = remove c.raw.slots id; tail = c.raw.tail; move = move }

    changed_now : content_with_changes c.raw (Delete id ∷ more) ≡ Some raw_now
    changed_now =
        let few = fits_held.count in
        let parts = completed_parts c.raw p.content c.complete in
        let n = complete_length c.raw.slots p.content.slots parts.slots in
        let h = ap length can.stands.stands.held in
        let a = length-append l (u ∷ r) in
        let m = can.stands.stands.number in
        let middle : RawContent = record c.raw { slots = remove c.raw.slots id } in
        does_first (Delete id) more c.raw middle raw_now (deletes c.raw id (omega arith) (omega arith)) (k.makes middle (sym parts.move) (can.logged c.raw c.is).move)

    pub going_made : complete_after t index (Delete id ∷ more) ≡ Some (content_with can.stands.pair (can.stands.stands.left ++ can.stands.stands.right) move)
    going_made =
        let parts = completed_parts c.raw p.content c.complete in
        let gone = ap₂ (λ (z : List Slot) (i : ℕ). remove z i) can.stands.stands.held (sym can.stands.stands.number) ∙ remove_here l r u in
        ap (λ o. option_and_then decoded_content (option_and_then (λ (x : RawContent). content_with_changes x (Delete id ∷ more)) o)) c.is
        ∙ ap (λ o. option_and_then decoded_content o) changed_now
        ∙ completed_from raw_now (remove p.content.slots id) (complete_remove c.raw.slots p.content.slots id parts.slots)
        ∙ ap₂ (λ s z. Some (record { slots = s; tail = z; move = move })) gone (sym parts.tail)

    pub can_go : CanCommit t index (Delete id ∷ more)
    can_go = record {
      can = record {
        below = below t can.ready can.first index p can.stands.rest can.stands.place;
        content = content_with p (l ++ r) move;
        made = going_made;
        next = ap (λ (z : Pair). tail_target z.content.tail) (sym pair_there);
      };
      fits = λ new is. is.too_large (subst (FitsInPair t.disk.block_size t.disk.page) (same_Some (content_with p (l ++ r) move) is.content (sym going_made ∙ is.made)) (fits_gone move));
    }

  -- the sync bit turns
  pub unlink_turns : MakesDelta can.stands.pair (PutMove (gstate_xor (thread_pair t index).content.move sync_bit_delta) ∷ []) (gstate_xor can.stands.pair.content.move sync_bit_delta)
  unlink_turns = subst (λ (z : Pair). MakesDelta p (PutMove (gstate_xor z.content.move sync_bit_delta) ∷ []) (gstate_xor p.content.move sync_bit_delta)) (sym pair_there) (delta_turns p)
