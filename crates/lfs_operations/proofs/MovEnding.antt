-- The end of a pending move, as a step of the thread.
use Rattle.lfs_operations.proofs.Common.{ℕ, ◌≡◌, ◌≢◌, ◌-◌, ◌<◌, ◌⊎◌, inl, inr, true, false, take, List, [], ◌∷◌, Option, ◌++◌, length, Some, refl, sym, ap, ap₂, subst, ◌∙◌, arith, length-append, remove, subst₂, xor_lt, same_Some, recursion_from_All, Blocks, Delete, PutMove, content_with_changes, RawContent, content_at, raw_content, decoded_content, Disk, CallEvent, AreU32Addresses, MoveStateFits, HasEitherTree as IsLeftOf, SurvivesLossSince, with_blocks, Slot, FitsInPair, Gstate, Tail, gstate_xor, same_pair, Pair, pairs_gstate, tail_target, count_before_root, IsAccepted, IsWritable, all_directories, disk_tree, used_blocks, SameSlots, alike_itself, IsCompleted, complete_length, complete_remove, completed_parts, completed_from, Each, occurrence_count, deletes, does_first, does_nothing, puts_move, HoldsAtLosses-weaker, HasSite, site_of_number, directory_addresses, remove_here, HoldsForSome, Site, dirs_at, thread_at, IsWritableChange, pairs_behind, last_tail_is_hard, CleanLossLeaves, KeptThread, CanChangePair, IsPairCommitted, LossLeavesPair, RefusesChanges, BeginWithSuperblock, complete_after, thread_pair, pairs_with_content, option_and_then, CanEndMoveAt, HasEndedMoveAt, content_after_move_ended, move_ending_changes, continues_directory, gstate_without_sync, delta_without_move, gstate_without_move}
use Rattle.lfs_operations.proofs.Held.{CompletesTo, completes_to}
use Rattle.lfs_model.proofs.MoveEnds.{IsEnding, ended, ended_count, ended_firsts, ended_state, ended_chain, ended_leads}
use Rattle.lfs_model.proofs.SetMoves.{HasTurned}
use Rattle.lfs_operations.proofs.MovTurned.{ChangedOne, IsTurn, Stays, changed_one, content_with, left_alone}
use Rattle.lfs_model.proofs.Placing.{left_after, left_still}
use Rattle.lfs_model.proofs.PairLists.{take_front}
use Rattle.lfs_model.proofs.RecoveryLayouts.{GoOnAlike}
use Rattle.lfs_operations.proofs.AtSite.{among_turned, each_from, site_pair, site_place}
use Rattle.lfs_operations.proofs.Replacing.{fits_replaced}

pub led_is : (w : Site) (p : Pair) (i : ℕ) → count_before_root (thread_at w (p ∷ [])) ≡ length w.chain → length (w.chain ++ (w.before ++ w.left)) ≡ i → continues_directory (thread_at w (p ∷ [])) i ≡ last_tail_is_hard false (w.before ++ w.left)
led_is w p i chain number =
    ap₂ (λ n z. last_tail_is_hard false (take (i - n) z)) chain (pairs_behind w.chain (dirs_at w (p ∷ [])) chain)
    ∙ ap (last_tail_is_hard false) (take_front (w.before ++ w.left) (p ∷ [] ++ (w.right ++ w.after)) (i - length w.chain) (let l = length-append w.chain (w.before ++ w.left) in omega arith))

module _ (t : KeptThread) (pair id : ℕ) (can : CanEndMoveAt t pair id false) (address : AreU32Addresses (delta_without_move t pair).pair) where
  abbrev h : HasSite t.pairs pair
  h = site_of_number t.disk t.pairs pair can.accepted can.begins can.below

  abbrev w : Site
  w = h.site

  abbrev p : Pair
  p = h.pair

  here : thread_pair t pair ≡ p
  here = site_pair t h

  abbrev l : List Slot
  l = can.stands.left

  abbrev u : Slot
  u = can.stands.slot

  abbrev r : List Slot
  r = can.stands.right

  held : p.content.slots ≡ l ++ u ∷ r
  held = ap (λ (z : Pair). z.content.slots) (sym here) ∙ can.stands.held

  abbrev move : Gstate
  move = delta_without_move t pair

  -- ---- what the changes make

  at_site : (P : Pair → Type 0) → Each P t.pairs → P p
  at_site P e = (each_from P w (p ∷ []) (subst (Each P) h.is e)).0

  c : CompletesTo (raw_content t.disk (thread_pair t pair).at) p.content
  c = completes_to (raw_content t.disk (thread_pair t pair).at) p.content (ap (λ (z : Pair). content_at t.disk z.at) here
      ∙ at_site (λ x. content_at t.disk x.at ≡ Some x.content) (recursion_from_All (λ (x : Pair). content_at t.disk x.at ≡ Some x.content) t.pairs can.accepted.thread.contents))

  fits_there : FitsInPair t.disk.block_size t.disk.page p.content
  fits_there = at_site (λ x. FitsInPair t.disk.block_size t.disk.page x.content) (recursion_from_All (λ (x : Pair). FitsInPair t.disk.block_size t.disk.page x.content) t.pairs can.writable.pairs)

  within : id < length p.content.slots
  within = let e = ap length held in let k = length-append l (u ∷ r) in let n = can.stands.number in omega arith

  parts : IsCompleted c.raw p.content
  parts = completed_parts c.raw p.content c.complete

  delta_is : MoveStateFits p.content.move
  delta_is = subst MoveStateFits (sym parts.move) (can.logged c.raw c.is).move

  is_state : MoveStateFits move
  is_state =
      let few = fits_there.count in
      let m = within in
      let own = ap (λ (z : Pair). z.content.move) here in
      record {
        kind = xor_lt 11 (pairs_gstate t.pairs).kind (thread_pair t pair).content.move.kind (let e = can.kind in omega arith) (let k = delta_is.kind in let e = ap (λ (z : Gstate). z.kind) own in omega arith);
        id = xor_lt 10 (pairs_gstate t.pairs).id (thread_pair t pair).content.move.id (let e = can.id_is in omega arith) (let k = delta_is.id in let e = ap (λ (z : Gstate). z.id) own in omega arith);
        pair = address;
      }

  abbrev raw_mid : RawContent
  raw_mid = record c.raw { slots = remove c.raw.slots id }

  abbrev raw_now : RawContent
  raw_now = record c.raw { slots = remove c.raw.slots id; move = delta_without_move t pair }

  changed_now : content_with_changes c.raw (move_ending_changes t pair id) ≡ Some raw_now
  changed_now =
      let few = fits_there.count in
      let n = complete_length c.raw.slots p.content.slots parts.slots in
      let m = within in
      does_first (Delete id) (PutMove move ∷ []) c.raw raw_mid raw_now (deletes c.raw id (omega arith) (omega arith))
      (does_first (PutMove move) [] raw_mid raw_now raw_now (puts_move raw_mid move is_state) (does_nothing raw_now))

  slots_now : remove p.content.slots id ≡ l ++ r
  slots_now = ap₂ (λ (z : List Slot) (i : ℕ). remove z i) held (sym can.stands.number) ∙ remove_here l r u

  made : complete_after t pair (move_ending_changes t pair id) ≡ Some (content_with p (l ++ r) move)
  made =
      ap (λ o. option_and_then decoded_content (option_and_then (λ (x : RawContent). content_with_changes x (move_ending_changes t pair id)) o)) c.is
      ∙ ap (λ o. option_and_then decoded_content o) changed_now
      ∙ completed_from raw_now (remove p.content.slots id) (complete_remove c.raw.slots p.content.slots id parts.slots)
      ∙ ap₂ (λ s (z : Option Tail). Some (record { slots = s; tail = z; move = move })) slots_now (sym parts.tail)

  pub can_end : CanChangePair t pair (move_ending_changes t pair id)
  can_end = record {
    below = can.below;
    content = content_with p (l ++ r) move;
    made = made;
    next = ap (λ (z : Pair). tail_target z.content.tail) (sym here);
  }

  -- what is left fits
  still_fits : FitsInPair t.disk.block_size t.disk.page (content_with p (l ++ r) move)
  still_fits = fits_replaced t.disk.block_size t.disk.page p.content (content_with p (l ++ r) move) l (u ∷ []) [] r held refl (omega arith) (omega arith) fits_there

  pub end_not_refused : (new : KeptThread) → RefusesChanges t pair (move_ending_changes t pair id) new → ⊥
  end_not_refused new is = is.too_large (subst (FitsInPair t.disk.block_size t.disk.page) (sym (same_Some is.content (content_with p (l ++ r) move) (sym is.made ∙ made))) still_fits)

  -- ---- in the image

  first_kept : (l : List Slot) → BeginWithSuperblock (l ++ u ∷ r) → BeginWithSuperblock (l ++ r)
  first_kept [] e = absurd (let z = sym can.stands.entry ∙ e.0 in cc)
  first_kept (s ∷ l) e = e

  turn : IsTurn t pair (move_ending_changes t pair id) w p (l ++ r) move
  turn = record {
    accepted = can.accepted;
    there = h.is;
    place = site_place h;
    site = h.is_site;
    made = made;
    first = λ e. first_kept l (subst BeginWithSuperblock held (e.kind, e.name));
  }

  filled : last_tail_is_hard false (w.before ++ w.left) ≡ true → l ++ r ≢ []
  filled hard none =
      let led = ap (λ z. continues_directory z pair) h.is ∙ led_is w p pair h.is_site.chain h.number ∙ hard in
      let many = can.stays refl led in
      let e = ap length can.stands.held in
      let i = length-append l (u ∷ r) in
      let j = ap length none in
      let k = length-append l r in
      absurd (omega arith)

  ending : IsEnding t.disk w p l u r
  ending = record {
    accepted = subst (IsAccepted t.disk) h.is can.accepted;
    writable = subst (IsWritable t.disk) h.is can.writable;
    site = h.is_site;
    kind = sym (ap (λ z. (pairs_gstate z).kind) h.is) ∙ can.kind;
    pair = ap₂ (λ z (x : Pair). same_pair (pairs_gstate z).pair x.at) (sym h.is) (sym here) ∙ can.named;
    id = sym (ap (λ z. (pairs_gstate z).id) h.is) ∙ can.id_is ∙ sym can.stands.number;
    held = held;
    other = can.stands.entry;
    filled = filled;
  }

  abbrev end_delta : Gstate
  end_delta = gstate_xor (gstate_without_sync (pairs_gstate (thread_at w (p ∷ [])))) p.content.move

  move_is : move ≡ end_delta
  move_is = ap₂ (λ z (x : Pair). gstate_xor (gstate_without_sync (pairs_gstate z)) x.content.move) h.is here

  -- the pair alone, with the other slots
  abbrev pub q_of : Pair
  q_of = record { at = p.at; content = content_with p (l ++ r) move }

  pub turned_alone : (disk : Disk) → HasTurned t.disk w p (l ++ r) move disk q_of [] → IsWritableChange t.disk (thread_at w (p ∷ [])) disk (thread_at w (q_of ∷ [])) (λ t. t) (λ d. d)
  turned_alone disk x = ended t.disk w p l u r ending disk q_of (subst (λ m. HasTurned t.disk w p (l ++ r) m disk q_of []) move_is x)

  -- the others stay
  still_there : (z : Pair) → z.content.slots ≡ [] → HoldsForSome (λ y. y ≡ z) (thread_at w (p ∷ [])) → HoldsForSome (λ y. y ≡ z) (thread_at w (q_of ∷ []))
  still_there z none among = among_turned (λ y. y ≡ z) w (p ∷ []) (q_of ∷ []) gone among
    where
      has_none : (xs : List Slot) → xs ++ u ∷ r ≡ [] → ⊥
      has_none [] e = absurd (cc)
      has_none (s ∷ xs) e = absurd (cc)

      gone : HoldsForSome (λ y. y ≡ z) (p ∷ []) → HoldsForSome (λ y. y ≡ z) (q_of ∷ [])
      gone (inl is) = absurd (has_none l (sym held ∙ ap (λ (y : Pair). y.content.slots) is ∙ none))
      gone (inr a) = inr a

  pub has_ended : (new : KeptThread) → IsPairCommitted t pair (move_ending_changes t pair id) new → HasEndedMoveAt t pair id false new
  has_ended new is = go (changed_one t pair (move_ending_changes t pair id) w p (l ++ r) move turn new is)
    where
      go : ChangedOne t pair w p (l ++ r) move new → HasEndedMoveAt t pair id false new
      go x =
          let all = subst₂ (λ z qs. IsWritableChange t.disk z new.disk qs (λ t. t) (λ d. d)) (sym h.is) (sym x.pairs) (turned_alone new.disk x.turned) in
          let y = subst (λ m. HasTurned t.disk w p (l ++ r) m new.disk q_of []) move_is x.turned in
          let state : pairs_gstate new.pairs ≡ gstate_without_move (pairs_gstate t.pairs) = ap pairs_gstate x.pairs ∙ ended_state t.disk w p l u r ending new.disk q_of y ∙ ap (λ z. gstate_without_move (pairs_gstate z)) (sym h.is) in
          let root = ap count_before_root x.pairs ∙ ended_chain t.disk w p l u r ending new.disk q_of y ∙ sym (ap count_before_root h.is ∙ h.is_site.chain) in
          record {
            taken = all;
            state = state;
            alike = subst (SameSlots (pairs_with_content t pair (content_after_move_ended t pair id))) (sym (x.is ∙ ap (λ d. pairs_with_content t pair d) (ap₂ (λ s (z : Pair). record { slots = s; tail = z.content.tail; move = move })
                (sym slots_now ∙ ap (λ (z : Pair). remove z.content.slots id) (sym here)) (sym here)))) (alike_itself (pairs_with_content t pair (content_after_move_ended t pair id)));
            map = x.map;
            blocks = λ b. (let e = ap (λ z. occurrence_count b (used_blocks new.disk z)) x.pairs ∙ ended_count t.disk w p l u r ending new.disk q_of y b ∙ ap (λ z. occurrence_count b (used_blocks t.disk z)) (sym h.is) in omega arith);
            shape = x.shape;
            begins = ap (λ z. directory_addresses (all_directories z)) x.pairs ∙ ended_firsts t.disk w p l u r ending new.disk q_of y ∙ ap (λ z. directory_addresses (all_directories z)) (sym h.is);
            root = root;
            leads_on = subst₂ (λ a z. GoOnAlike t.disk a new.disk z) (sym h.is) (sym x.pairs) (ended_leads t.disk w p l u r ending new.disk q_of y);
            kept = λ z none soft among. subst (HoldsForSome (λ y. y ≡ z)) (sym x.pairs) (still_there z none (subst (HoldsForSome (λ y. y ≡ z)) h.is among));
          }

  -- ---- at a power loss

  left_tree : (left : Blocks) → LossLeavesPair t pair (move_ending_changes t pair id) left → IsLeftOf (with_blocks left t.disk) (disk_tree t.disk t.pairs) (disk_tree t.disk t.pairs)
  left_tree left is = go (left_alone t pair (move_ending_changes t pair id) w p (l ++ r) move turn left is)
    where
      go : Stays t pair (move_ending_changes t pair id) w p (l ++ r) move turn (with_blocks left t.disk) ⊎ HasTurned t.disk w p (l ++ r) move (with_blocks left t.disk) q_of []
          → IsLeftOf (with_blocks left t.disk) (disk_tree t.disk t.pairs) (disk_tree t.disk t.pairs)
      go (inl d) = left_still t.disk left (thread_at w (p ∷ [])) (subst (IsAccepted t.disk) h.is can.accepted) (subst (IsWritable t.disk) h.is can.writable) d (inl (ap (disk_tree t.disk) (sym h.is)))
      go (inr x) = left_after (turned_alone (with_blocks left t.disk) x) (inl (ap (disk_tree t.disk) (sym h.is)))

  pub end_survives : (new : List CallEvent) → CleanLossLeaves t.history new (LossLeavesPair t pair (move_ending_changes t pair id)) → SurvivesLossSince t.disk t.history new (disk_tree t.disk t.pairs) (disk_tree t.disk t.pairs)
  end_survives new stops clean = HoldsAtLosses-weaker left_tree (stops clean)
