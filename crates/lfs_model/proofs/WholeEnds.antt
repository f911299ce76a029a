-- A set move ends where the slot that it hides is all that its pair holds: the pair goes with it, and the one in front of it takes over its tail.
use Rattle.std.proofs.Common.{ℕ, ◌≡◌, ◌+◌, true, false, cond, nat_eq, List, [], ◌∷◌, ◌++◌, sym, ap, ap₂, subst, ◌∙◌, arith, append_assoc, remove, length, length-append}
use Rattle.std.specs.Prelude.{◌&&◌}
use Rattle.std.specs.List.{IsDistinct}
use Rattle.lfs_model.proofs.Common.{flat_map, Disk, Slot, Gstate, is_superblock, same_pair, Pair, pairs_blocks, pairs_gstate, begins_with_superblock, slots_not_moved, is_hard_tail, count_before_root, IsAccepted, IsWritable, all_directories, used_blocks, set_move_kind, pair_with_slots}
use Rattle.lfs_model.specs.layers.StepResults.{gstate_without_move}
use Rattle.lfs_model.proofs.Counts.{Each, each_append, each_left, each_right, each_weaker, occurrence_count}
use Rattle.lfs_model.proofs.Global.{HasNoMove}
use Rattle.lfs_model.proofs.Listings.{flip_false}
use Rattle.lfs_model.proofs.Pairs.{pair_back}
use Rattle.lfs_model.proofs.Rests.{IsMoveEnd, move_ends, unmoved_elsewhere}
use Rattle.lfs_model.proofs.Searches.{avoids_behind, avoids_front}
use Rattle.lfs_model.proofs.Sites.{Site, thread_at, IsSite}
use Rattle.lfs_model.proofs.Splices.{drop_shape, IsDevice}
use Rattle.lfs_model.proofs.StepsTaken.{IsWritableChange, end_drop_taken}
use Rattle.lfs_model.proofs.MoveSets.{directory_addresses}
use Rattle.lfs_model.proofs.SetFirsts.{end_firsts}
use Rattle.lfs_model.proofs.MoveEnds.{end_count, end_chain}
use Rattle.lfs_model.proofs.RecoveryLayouts.{GoOnAlike, hidden, hidden_append, hidden_far, hidden_length, laid_out_gap}

-- At the site stand p and o behind it, joined by a hard tail, and the move hides o's only slot u.
pub record IsEndingWhole (disk : Disk) (w : Site) (p o : Pair) (u : Slot) : Type 0 where
  pub accepted : IsAccepted disk (thread_at w (p ∷ o ∷ []))
  pub writable : IsWritable disk (thread_at w (p ∷ o ∷ []))
  pub site : IsSite w (p ∷ o ∷ [])
  pub kind : (pairs_gstate (thread_at w (p ∷ o ∷ []))).kind ≡ set_move_kind
  pub pair : same_pair (pairs_gstate (thread_at w (p ∷ o ∷ []))).pair o.at ≡ true
  pub id : (pairs_gstate (thread_at w (p ∷ o ∷ []))).id ≡ 0
  pub held : o.content.slots ≡ u ∷ []
  pub other : is_superblock u ≡ false

-- q has p's slots and o's tail, and no move is set with it
pub record HasTakenOver (disk : Disk) (w : Site) (p o : Pair) (new : Disk) (q : Pair) : Type 0 where
  pub at : q.at ≡ p.at
  pub slots : q.content.slots ≡ p.content.slots
  pub tail : q.content.tail ≡ o.content.tail
  pub state : pairs_gstate (thread_at w (q ∷ [])) ≡ gstate_without_move (pairs_gstate (thread_at w (p ∷ o ∷ [])))
  pub device : IsDevice disk new (thread_at w (p ∷ o ∷ [])) (thread_at w (q ∷ []))

module _ (disk : Disk) (w : Site) (p o : Pair) (u : Slot) (k : IsEndingWhole disk w p o u) where
  abbrev g : Gstate
  g = pairs_gstate (thread_at w (p ∷ o ∷ []))

  abbrev ahead : List Pair
  ahead = w.before ++ w.left

  abbrev back : List Pair
  back = w.right ++ w.after

  abbrev Far : Pair → Type 0
  Far s = same_pair (pairs_gstate (thread_at w (p ∷ o ∷ []))).pair s.at ≡ false

  grouped : thread_at w (p ∷ o ∷ []) ≡ ((w.chain ++ ahead) ++ p ∷ []) ++ o ∷ back
  grouped = sym (append_assoc w.chain ahead (p ∷ o ∷ back)) ∙ sym (append_assoc (w.chain ++ ahead) (p ∷ []) (o ∷ back))

  distinct_there : IsDistinct nat_eq (pairs_blocks (((w.chain ++ ahead) ++ p ∷ []) ++ o ∷ back))
  distinct_there = subst (λ z. IsDistinct nat_eq (pairs_blocks z)) grouped k.accepted.thread.distinct

  flipped : (ss : List Pair) → Each (λ s. same_pair s.at (pairs_gstate (thread_at w (p ∷ o ∷ []))).pair ≡ false) ss → Each Far ss
  flipped ss h = each_weaker (λ s. same_pair s.at (pairs_gstate (thread_at w (p ∷ o ∷ []))).pair ≡ false) Far (λ s e. flip_false s.at g.pair e) ss h

  far_front : Each Far ((w.chain ++ ahead) ++ p ∷ [])
  far_front = flipped ((w.chain ++ ahead) ++ p ∷ []) (avoids_front ((w.chain ++ ahead) ++ p ∷ []) o back g.pair distinct_there (pair_back g.pair o.at k.pair))

  far_ahead : Each Far (w.chain ++ ahead)
  far_ahead = each_left Far (w.chain ++ ahead) (p ∷ []) far_front

  far_p : Far p
  far_p = (each_right Far (w.chain ++ ahead) (p ∷ []) far_front).0

  far_back : Each Far back
  far_back = flipped back (avoids_behind ((w.chain ++ ahead) ++ p ∷ []) o back g.pair distinct_there (pair_back g.pair o.at k.pair))

  hides : slots_not_moved g o ≡ []
  hides = ap₂ (λ k b. cond (nat_eq k 0x4ff && b) (remove o.content.slots g.id) o.content.slots) k.kind k.pair ∙ ap₂ (λ s i. remove s i) k.held k.id

  hidden_two : flat_map (slots_not_moved g) (p ∷ o ∷ []) ≡ p.content.slots ++ []
  hidden_two = ap₂ (λ x y. x ++ (y ++ [])) (unmoved_elsewhere g p far_p) hides

  module _ (new : Disk) (q : Pair) (x : HasTakenOver disk w p o new q) where
    still_none : HasNoMove (pairs_gstate (thread_at w (q ∷ [])))
    still_none = record { kind = ap (λ (z : Gstate). z.kind) x.state; id = ap (λ (z : Gstate). z.id) x.state; pair = ap (λ (z : Gstate). z.pair) x.state }

    pub whole_step : IsMoveEnd disk new w p (o ∷ []) q [] p.content.slots u []
    whole_step = record {
      accepted = k.accepted;
      site = k.site;
      still_none = still_none;
      device = x.device;
      shape = drop_shape p o q x.at x.tail (λ e. ap begins_with_superblock x.slots ∙ e);
      was = ap (λ z. p.content.slots ++ (z ++ [])) k.held;
      is = ap (λ z. z ++ []) x.slots;
      other = k.other;
      hidden = hidden_two;
      elsewhere = each_append Far w.chain (ahead ++ back) (each_left Far w.chain ahead far_ahead) (each_append Far ahead back (each_right Far w.chain ahead far_ahead) far_back);
    }

    pub whole_ended : IsWritableChange disk (thread_at w (p ∷ o ∷ [])) new (thread_at w (q ∷ [])) (λ t. t) (λ d. d)
    whole_ended = end_drop_taken disk w p o q (record { writable = k.writable; tail = x.tail; slots = x.slots }) new p.content.slots u [] (λ t. t) (λ d. d) whole_step
        (move_ends disk new w p (o ∷ []) q [] p.content.slots u [] whole_step (λ e. k.accepted.reached (sym (ap (λ (z : Gstate). z.sync) x.state) ∙ e)))

    -- the directories begin where they did
    pub whole_firsts : directory_addresses (all_directories (thread_at w (q ∷ []))) ≡ directory_addresses (all_directories (thread_at w (p ∷ o ∷ [])))
    whole_firsts = end_firsts disk new w p (o ∷ []) q [] p.content.slots u [] whole_step

    pub whole_chain : count_before_root (thread_at w (q ∷ [])) ≡ length w.chain
    whole_chain = end_chain disk new w p (o ∷ []) q p.content.slots u [] whole_step

    -- a recovery may go on
    pub whole_leads : is_hard_tail p.content.tail ≡ true → GoOnAlike disk (thread_at w (p ∷ o ∷ [])) new (thread_at w (q ∷ []))
    whole_leads hard = laid_out_gap disk new (thread_at w (p ∷ o ∷ [])) (thread_at w (q ∷ [])) whole_ended.follows x.device.geometry.block_size x.device.geometry.page still_none (whole_chain ∙ sym k.site.chain)
        (hidden g (w.chain ++ ahead)) (pair_with_slots (slots_not_moved g p) p) (pair_with_slots (slots_not_moved g o) o) (hidden g back) (w.chain ++ ahead) q back
        (ap (hidden g) (sym (append_assoc w.chain ahead (p ∷ o ∷ back))) ∙ hidden_append g (w.chain ++ ahead) (p ∷ o ∷ back))
        (sym (append_assoc w.chain ahead (q ∷ back)))
        (let c = k.site.chain in let l = hidden_length g (w.chain ++ ahead) in let a = length-append w.chain ahead in omega arith)
        (hidden_far g (w.chain ++ ahead) far_ahead) (record { at = x.at; slots = x.slots ∙ sym (unmoved_elsewhere g p far_p); led = hard; tail = ap is_hard_tail x.tail; none = hides }) (hidden_far g back far_back)

    -- the blocks that the image used, without the pair's
    pub whole_count : (b : ℕ) → occurrence_count b (used_blocks new (thread_at w (q ∷ []))) + occurrence_count b (pairs_blocks (o ∷ [])) ≡ occurrence_count b (used_blocks disk (thread_at w (p ∷ o ∷ [])))
    whole_count b =
        let e = end_count disk new w p (o ∷ []) q p.content.slots u [] whole_step b in
        let at = ap (λ (a : ℕ × ℕ). occurrence_count b (a.0 ∷ a.1 ∷ [])) x.at in
        omega arith
