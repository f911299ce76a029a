-- The end of a pending move that drops the pair with its slot, as a step of the thread.
use Rattle.lfs_operations.proofs.Common.{ℕ, ◌≡◌, ◌≢◌, inl, inr, ◌-◌, true, false, List, [], ◌∷◌, ◌++◌, length, refl, sym, ap, ap₂, subst, ◌∙◌, arith, append-nil, length-append, remove, subst₂, Disk, CallEvent, MoveStateFits, SurvivesLossSince, PairContent, Gstate, Slot, same_pair, Pair, pairs_gstate, is_hard_tail, count_before_root, IsAccepted, IsWritable, all_directories, disk_tree, used_blocks, SameSlots, alike_append, alike_itself, occurrence_count, HoldsAtLosses-weaker, HasSite, site_of_number, directory_addresses, HoldsForSome, Site, thread_at, IsWritableChange, last_tail_is_hard, CleanLossLeaves, KeptThread, IsPairWritten, thread_pair, map_freeing, CanDropAt, IsPairDropped, LeftByDrop, content_after_drop, CanEndMoveAt, HasEndedMoveAt, continues_directory, gstate_without_move}
use Rattle.lfs_operations.proofs.Dropped.{IsToBeDropped, can_drop_pair, device_left, grouped, is, left_dropped, pairs_left, slots_left, state_left, tail_left}
use Rattle.lfs_operations.proofs.DroppedTails.{remove_next}
use Rattle.lfs_operations.proofs.MovEnding.{led_is}
use Rattle.lfs_model.proofs.WholeEnds.{HasTakenOver, IsEndingWhole, whole_count, whole_ended, whole_firsts, whole_chain, whole_leads}
use Rattle.lfs_model.proofs.Placing.{left_after}
use Rattle.lfs_operations.proofs.Removed.{flag_ends}
use Rattle.lfs_operations.proofs.RemovedWhole.{only_slot, over_hard}
use Rattle.lfs_model.proofs.PairsInFront.{StandsBehind, stands_behind}
use Rattle.lfs_model.proofs.RecoveryLayouts.{GoOnAlike}
use Rattle.lfs_operations.proofs.AtSite.{among_turned, site_pair, site_place}

sync_state : (g : Gstate) → MoveStateFits (gstate_without_move g)
sync_state g = record { kind = omega arith; id = omega arith; pair = (omega arith, omega arith) }

module _ (t : KeptThread) (index id : ℕ) (can : CanEndMoveAt t index id true) where
  abbrev h : HasSite t.pairs index
  h = site_of_number t.disk t.pairs index can.accepted can.begins can.below

  abbrev v : Site
  v = h.site

  abbrev o : Pair
  o = h.pair

  abbrev u : Slot
  u = can.stands.slot

  here : thread_pair t index ≡ o
  here = site_pair t h

  held : o.content.slots ≡ u ∷ []
  held =
      let e = (can.alone refl).1 in
      let k = ap length can.stands.held in
      ap (λ (z : Pair). z.content.slots) (sym here) ∙ can.stands.held ∙ only_slot can.stands.left can.stands.right u (sym k ∙ e)

  first : id ≡ 0
  first =
      let e = (can.alone refl).1 in
      let k = ap length can.stands.held in
      let l = length-append can.stands.left (u ∷ can.stands.right) in
      let n = can.stands.number in
      omega arith

  -- ---- the pair in front

  led : last_tail_is_hard false (v.before ++ v.left) ≡ true
  led = sym (ap (λ z. continues_directory z index) h.is ∙ led_is v o index h.is_site.chain h.number) ∙ (can.alone refl).0

  some_left : v.left ≢ []
  some_left none = absurd (let z = sym led ∙ ap (λ z. last_tail_is_hard false (v.before ++ z)) none ∙ ap (last_tail_is_hard false) (append-nil v.before) ∙ flag_ends v.before h.is_site.ends in cc)

  before_it : StandsBehind t.pairs v o index
  before_it = stands_behind t.pairs v o index h.is h.is_site (site_place h) some_left

  abbrev x : Pair
  x = before_it.x

  abbrev w : Site
  w = before_it.w

  there : t.pairs ≡ thread_at w (x ∷ o ∷ [])
  there = before_it.there

  dropping : IsToBeDropped t index (gstate_without_move (pairs_gstate t.pairs)) w x o
  dropping = record { accepted = can.accepted; writable = can.writable; storable = sync_state (pairs_gstate t.pairs); there = there; number = before_it.number }

  pub can_drop_moved : CanDropAt t index (gstate_without_move (pairs_gstate t.pairs))
  can_drop_moved = can_drop_pair dropping

  -- ---- what it leaves

  abbrev c : PairContent
  c = content_after_drop t (index - 1) (gstate_without_move (pairs_gstate t.pairs))

  abbrev q : Pair
  q = record { at = x.at; content = c }

  ending : IsEndingWhole t.disk w x o u
  ending = record {
    accepted = subst (IsAccepted t.disk) there can.accepted;
    writable = subst (IsWritable t.disk) there can.writable;
    site = before_it.site;
    kind = sym (ap (λ z. (pairs_gstate z).kind) there) ∙ can.kind;
    pair = ap₂ (λ z (y : Pair). same_pair (pairs_gstate z).pair y.at) (sym there) (sym here) ∙ can.named;
    id = sym (ap (λ z. (pairs_gstate z).id) there) ∙ can.id_is ∙ first;
    held = held;
    other = can.stands.entry;
  }

  over_on : (disk : Disk) → IsPairWritten t (index - 1) c disk → HasTakenOver t.disk w x o disk q
  over_on disk written = record {
    at = refl;
    slots = slots_left dropping;
    tail = tail_left dropping ∙ over_hard x.content.tail o.content.tail before_it.hard;
    state = state_left dropping ∙ ap (λ z. gstate_without_move (pairs_gstate z)) there;
    device = device_left dropping disk written;
  }

  goes_on : (disk : Disk) → IsPairWritten t (index - 1) c disk → IsWritableChange t.disk (thread_at w (x ∷ o ∷ [])) disk (thread_at w (q ∷ [])) (λ t. t) (λ d. d)
  goes_on disk written = whole_ended t.disk w x o u ending disk q (over_on disk written)

  -- the others stay
  still_there : (z : Pair) → z.content.slots ≡ [] → is_hard_tail z.content.tail ≡ false → HoldsForSome (λ y. y ≡ z) t.pairs → HoldsForSome (λ y. y ≡ z) (thread_at w (q ∷ []))
  still_there z none soft among = among_turned (λ y. y ≡ z) w (x ∷ o ∷ []) (q ∷ []) gone (subst (HoldsForSome (λ y. y ≡ z)) there among)
    where
      gone : HoldsForSome (λ y. y ≡ z) (x ∷ o ∷ []) → HoldsForSome (λ y. y ≡ z) (q ∷ [])
      gone (inl e) = absurd (let k = sym before_it.hard ∙ ap (λ (y : Pair). is_hard_tail y.content.tail) e ∙ soft in cc)
      gone (inr (inl e)) = absurd (let k = sym held ∙ ap (λ (y : Pair). y.content.slots) e ∙ none in cc)
      gone (inr (inr a)) = inr a

  pub has_gone : (new : KeptThread) → IsPairDropped t (index - 1) (gstate_without_move (pairs_gstate t.pairs)) new → HasEndedMoveAt t index id true new
  has_gone new d =
      let ahead = w.chain ++ (w.before ++ w.left) in
      let back = w.right ++ w.after in
      let pairs = pairs_left dropping new d in
      let over = over_on new.disk d.written in
      let all = subst₂ (λ z qs. IsWritableChange t.disk z new.disk qs (λ t. t) (λ d. d)) (sym there) (sym pairs) (goes_on new.disk d.written) in
      let root = ap count_before_root pairs ∙ whole_chain t.disk w x o u ending new.disk q over ∙ sym (ap count_before_root there ∙ before_it.site.chain) in
      let left : remove t.pairs index ≡ ahead ++ x ∷ back = ap₂ (λ (z : List Pair) (i : ℕ). remove z i) (is dropping) (sym before_it.number) ∙ remove_next ahead x o back in
      record {
        taken = all;
        state = d.gstate;
        alike = subst (λ z. SameSlots z new.pairs) (sym left) (subst (SameSlots (ahead ++ x ∷ back)) (sym (pairs ∙ grouped dropping (q ∷ [])))
            (alike_append ahead (x ∷ back) ahead (q ∷ back) (alike_itself ahead) (refl, slots_left dropping, alike_itself back)));
        map = d.map ∙ ap (λ (i : ℕ). map_freeing t.map (thread_pair t i).at) (let e = before_it.number in omega arith);
        blocks = λ b.
            let e = whole_count t.disk w x o u ending new.disk q over b in
            let f = ap (λ z. occurrence_count b (used_blocks new.disk z)) pairs in
            let g = ap (λ z. occurrence_count b (used_blocks t.disk z)) there in
            let k = ap (λ (z : Pair). occurrence_count b (z.at.0 ∷ z.at.1 ∷ [])) here in
            omega arith;
        shape = d.written.shape;
        begins = ap (λ z. directory_addresses (all_directories z)) pairs ∙ whole_firsts t.disk w x o u ending new.disk q over ∙ ap (λ z. directory_addresses (all_directories z)) (sym there);
        root = root;
        leads_on = subst₂ (λ a z. GoOnAlike t.disk a new.disk z) (sym there) (sym pairs) (whole_leads t.disk w x o u ending new.disk q over before_it.hard);
        kept = λ z none soft among. subst (HoldsForSome (λ y. y ≡ z)) (sym pairs) (still_there z none soft among);
      }

  -- ---- at a power loss

  pub goes_survives : (new : List CallEvent) → CleanLossLeaves t.history new (LeftByDrop t (index - 1) (gstate_without_move (pairs_gstate t.pairs))) → SurvivesLossSince t.disk t.history new (disk_tree t.disk t.pairs) (disk_tree t.disk t.pairs)
  goes_survives new stops clean = HoldsAtLosses-weaker
      (left_dropped dropping (inl refl) (λ disk written. left_after (goes_on disk written) (inl (ap (disk_tree t.disk) (sym there))))) (stops clean)
