-- The removal of a file with its pair, which has no other slot and isn't the first of its directory, as a step of the thread.
use Rattle.lfs_operations.proofs.Common.{ℕ, ◌≡◌, inl, inr, ◌+◌, ◌-◌, ◌&&◌, not, true, false, nat_eq, eqb-true, List, [], ◌∷◌, ◌++◌, length, Option, Some, None, refl, sym, ap, subst, ◌∙◌, arith, IsDistinct, tree_removing, Blocks, Disk, CallEvent, IsPairAt, HasEitherTree as IsLeftOf, SurvivesLossSince, with_blocks, PairContent, Slot, Tail, zero_gstate, same_pair, Pair, pairs_blocks, pairs_gstate, is_hard_tail, Tree, struct_directory_address, IsAccepted, IsWritable, IsDirectoryAtPath, struct_blocks, disk_tree, used_blocks, IsChangedImage, CompletesOperation, no_move_from, recovered_from, occurrence_count, count_append, once_from_distinct, HasNoMove, HoldsAtLosses-weaker, file_goes, IsSite, Site, begin_of, thread_at, file_blocks, last_tail_is_hard, CleanLossLeaves, KeptThread, IsPairWritten, thread_pair, CanDropAt, IsPairDropped, LeftByDrop, predecessor_tail_after_drop, content_after_drop, CanEditIn, editable_slot, IsFileRemoved, drops_pair_after_removal, tree_without_entry, subst₂, IsWritableChange, and_parts, eq-eqb, Gstate, MoveStateFits}
use Rattle.lfs_model.specs.session.Operations as ops
use Rattle.lfs_model.proofs.Dropped.{IsDrop, drop_completed, drop_step, drop_writable}
use Rattle.lfs_operations.proofs.Dropped.{IsToBeDropped, can_drop_pair, device_left, left_dropped, pairs_left, slots_left, state_left, tail_left, used_left, shows_after}
use Rattle.lfs_operations.proofs.DroppedTails.{no_move_state}
use Rattle.lfs_model.proofs.Placing.{left_after}
use Rattle.lfs_model.proofs.PairsInFront.{not_alone, StandsBehind, stands_behind}
use Rattle.lfs_operations.proofs.PairAt.{HasPairAt}
use Rattle.lfs_operations.proofs.Unlinked.{pair_there}
use Rattle.lfs_operations.proofs.Removed.{entry_site, entry_stands}

-- a hard tail takes over what comes
pub over_hard : (f g : Option Tail) → is_hard_tail f ≡ true → predecessor_tail_after_drop f g ≡ g
over_hard f None h = refl
over_hard f (Some t) h = ap (λ b. Some (record { hard = b && t.hard; to = t.to })) h

pub only_slot : (l r : List Slot) (u : Slot) → length (l ++ u ∷ r) ≡ 1 → l ++ u ∷ r ≡ u ∷ []
only_slot [] [] u e = refl
only_slot [] (s ∷ r) u e = absurd (omega arith)
only_slot (s ∷ []) r u e = absurd (omega arith)
only_slot (s ∷ x ∷ l) r u e = absurd (omega arith)

-- The pair o of the slot stands behind x, whose hard tail leads to it, and holds nothing else.
pub record StandsWhole (t : KeptThread) (index id : ℕ) (can : CanEditIn t index id) : Type 0 where
  pub w : Site
  pub x : Pair
  pub there : t.pairs ≡ thread_at w (x ∷ can.stands.pair ∷ [])
  pub site : IsSite w (x ∷ can.stands.pair ∷ [])
  pub number : length (w.chain ++ (w.before ++ w.left)) + 1 ≡ index
  pub hard : is_hard_tail x.content.tail ≡ true
  pub same : same_pair (begin_of w (x ∷ can.stands.pair ∷ [])) can.at ≡ true
  pub held : can.stands.pair.content.slots ≡ can.stands.stands.slot ∷ []

-- so it may be dropped
pub dropping_whole : {t : KeptThread} {index id : ℕ} {can : CanEditIn t index id} (s : StandsWhole t index id can) (state : Gstate) → MoveStateFits state → IsToBeDropped t index state s.w s.x can.stands.pair
dropping_whole {can = can} s state fits = record { accepted = can.ready.accepted; writable = can.ready.writable; storable = fits; there = s.there; number = s.number }

module _ (t : KeptThread) (index id first : ℕ) (can : CanEditIn t index id) (begins : can.first ≡ first) (goes : drops_pair_after_removal t index first ≡ true) where
  abbrev o : Pair
  o = can.stands.pair

  abbrev u : Slot
  u = can.stands.stands.slot

  abbrev v : Site
  v = entry_site can

  stand : HasPairAt t index can.path can.at v o
  stand = entry_stands can

  -- ---- what is known by it

  alone_there : (index ≡ can.first → ⊥) × (length (thread_pair t index).content.slots ≡ 1)
  alone_there =
      let both = and_parts (not (nat_eq index first)) (nat_eq (length (thread_pair t index).content.slots) 1) goes in
      ((λ same. absurd (let k = sym both.0 ∙ ap not (eq-eqb index first (same ∙ begins)) in cc)), eqb-true (length (thread_pair t index).content.slots) 1 both.1)

  held : o.content.slots ≡ u ∷ []
  held =
      let n = ap length can.stands.stands.held in
      let e = ap (λ (z : Pair). length z.content.slots) (pair_there can) in
      can.stands.stands.held ∙ only_slot can.stands.stands.left can.stands.stands.right u (sym n ∙ sym e ∙ alone_there.1)

  behind : StandsBehind t.pairs v o index
  behind = stands_behind t.pairs v o index stand.there stand.site stand.number
      (not_alone v.chain v.before v.left (v.right ++ v.after) o can.at can.first (subst (λ z. IsDistinct nat_eq (pairs_blocks z)) stand.there can.ready.accepted.thread.distinct) stand.begin
      (subst (λ z. IsPairAt z can.at can.first) stand.there can.begins) (λ e. alone_there.0 (stand.number ∙ e)))

  -- a hard tail leads to the pair
  pub flag_whole : last_tail_is_hard false (v.before ++ v.left) ≡ true
  flag_whole = behind.led

  pub stands_whole : StandsWhole t index id can
  stands_whole = record { w = behind.w; x = behind.x; there = behind.there; site = behind.site; number = behind.number; hard = behind.hard; same = subst (λ z. same_pair z can.at ≡ true) behind.begin stand.begin; held = held }

  pub can_drop_whole : (state : Gstate) → MoveStateFits state → CanDropAt t index state
  can_drop_whole state fits = can_drop_pair (dropping_whole stands_whole state fits)

  pub can_drop_file : CanDropAt t index zero_gstate
  can_drop_file = can_drop_whole zero_gstate no_move_state

  abbrev w : Site
  w = stands_whole.w

  abbrev x : Pair
  x = stands_whole.x

  there : t.pairs ≡ thread_at w (x ∷ o ∷ [])
  there = stands_whole.there

  dropping : IsToBeDropped t index zero_gstate w x o
  dropping = dropping_whole stands_whole zero_gstate no_move_state

  -- ---- what it leaves

  abbrev c : PairContent
  c = content_after_drop t (index - 1) zero_gstate

  abbrev q : Pair
  q = record { at = x.at; content = c }

  drop_on : (disk : Disk) → IsPairWritten t (index - 1) c disk → IsDrop t.disk disk w x o q u
  drop_on disk written = record {
    accepted = subst (IsAccepted t.disk) there can.ready.accepted;
    writable = subst (IsWritable t.disk) there can.ready.writable;
    settled = ap pairs_gstate (sym there) ∙ can.ready.settled;
    still = state_left dropping;
    site = stands_whole.site;
    device = device_left dropping disk written;
    at = refl;
    tail = tail_left dropping ∙ over_hard x.content.tail o.content.tail stands_whole.hard;
    slots = slots_left dropping;
    held = held;
    other = can.stands.stands.entry;
  }

  -- ---- a file

  module _ (file : struct_directory_address can.stands.stands.slot.struct ≡ None) where
    abbrev turn : Tree → Tree
    turn = tree_removing (can.path ++ can.name ∷ [])

    leads_now : IsDirectoryAtPath (thread_at w (x ∷ o ∷ [])) can.path can.at
    leads_now = subst (λ z. IsDirectoryAtPath z can.path can.at) there can.leads

    follows : (disk : Disk) → IsPairWritten t (index - 1) c disk → IsChangedImage t.disk (thread_at w (x ∷ o ∷ [])) disk (thread_at w (q ∷ [])) turn (λ d. d)
    follows disk written = subst (λ n. IsChangedImage t.disk (thread_at w (x ∷ o ∷ [])) disk (thread_at w (q ∷ [])) (tree_removing (can.path ++ n ∷ [])) (λ d. d)) can.stands.stands.named
        (file_goes t.disk disk w x (o ∷ []) q [] [] [] x.content.slots [] u (drop_step t.disk disk w x o q u (drop_on disk written)) can.stands.stands.entry can.path can.at leads_now stands_whole.same file
        (λ e. (recovered_from t.disk (thread_at w (x ∷ o ∷ [])) (drop_on disk written).accepted (drop_on disk written).settled).reached))

    taken : (disk : Disk) → IsPairWritten t (index - 1) c disk → IsWritableChange t.disk (thread_at w (x ∷ o ∷ [])) disk (thread_at w (q ∷ [])) turn (λ d. d)
    taken disk written = record { follows = follows disk written; writable = drop_writable t.disk disk w x o q u (drop_on disk written) }

    list_is : (b : ℕ) → occurrence_count b (struct_blocks t.disk u.struct) ≡ occurrence_count b (file_blocks t.disk o.content.slots)
    list_is b = let m = ap (λ z. occurrence_count b (file_blocks t.disk z)) held in let n = count_append b (struct_blocks t.disk u.struct) [] in omega arith

    module _ (new : KeptThread) (h : IsPairDropped t (index - 1) zero_gstate new) where
      none : HasNoMove (pairs_gstate t.pairs)
      none = no_move_from t.pairs can.ready.settled

      pub gone_whole : IsFileRemoved t new can.path can.name (editable_slot can).struct
      gone_whole = record {
        now = shows_after dropping new h none can.ready.used (struct_blocks t.disk u.struct) list_is can.ready.size can.ready.large stands_whole.site.chain
            (subst₂ (λ y z. IsWritableChange t.disk y new.disk z turn (λ d. d)) (sym there) (sym (pairs_left dropping new h)) (taken new.disk h.written)) refl;
        completed = λ z given tree is_path. subst (λ y. CompletesOperation t.disk y z (ops.Remove given) new.disk new.pairs) (sym there)
            (subst (λ y. CompletesOperation t.disk (thread_at w (x ∷ o ∷ [])) z (ops.Remove given) new.disk y) (sym (pairs_left dropping new h))
            (drop_completed t.disk new.disk w x o q u (drop_on new.disk h.written) file can.path can.at leads_now stands_whole.same z given (tree ∙ ap (disk_tree t.disk) there)
            (is_path ∙ ap (λ n. can.path ++ n ∷ []) (sym can.stands.stands.named))));
        once = λ b.
            let e = list_is b in
            let n = used_left dropping new h none (record { kind = refl; id = refl; pair = refl }) b in
            let o = once_from_distinct (used_blocks t.disk t.pairs) can.ready.accepted.owned_once b in
            omega arith;
      }

    -- ---- at a power loss

    left_tree : (left : Blocks) → LeftByDrop t (index - 1) zero_gstate left → IsLeftOf (with_blocks left t.disk) (disk_tree t.disk t.pairs) (turn (disk_tree t.disk t.pairs))
    left_tree = left_dropped dropping (inl refl) (λ disk written. left_after (taken disk written) (inr (ap (λ z. turn (disk_tree t.disk z)) (sym there))))

    pub whole_survives : (new : List CallEvent) → CleanLossLeaves t.history new (LeftByDrop t (index - 1) zero_gstate)
        → SurvivesLossSince t.disk t.history new (disk_tree t.disk t.pairs) (tree_without_entry t can.path can.name)
    whole_survives new stops clean = HoldsAtLosses-weaker left_tree (stops clean)
