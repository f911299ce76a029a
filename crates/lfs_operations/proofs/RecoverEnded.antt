-- A recovery ends a pending move: the pair of the step, and its result.
use Rattle.lfs_operations.proofs.Common.{ℕ, ◌≡◌, ◌≢◌, ◌≤◌, ◌<◌, ◌+◌, ◌-◌, ◌⊎◌, inl, inr, ◌&&◌, ◌==◌, Bool, true, false, List, [], ◌∷◌, ◌++◌, length, take, refl, sym, ap, ap₂, subst, ◌∙◌, arith, append_assoc, length-append, eqb-true, eq-eqb, nat_lt, and_parts, cases_lt, lt-ltb, recursion_from_All, used_blocks, Pair, pairs_gstate, is_hard_tail, count_before_root, BeginsWithSuperblock, once_from_distinct, HasNoMove, HasSite, site_of_number, pair_back, last_tail_is_hard, KeptThread, thread_pair, tail_is_hard, CanEndMove, HasEndedMove, HasMovedSlot, drops_pair_after_move, CanEndMoveAt, HasEndedMoveAt, continues_directory, move_ending_written_pair, IsLogContentDecodable}
use Rattle.lfs_operations.proofs.Dropped.{HasMapWithout, map_ended}
use Rattle.lfs_operations.proofs.DroppedTails.{front_is}
use Rattle.lfs_operations.proofs.MovEnding.{led_is}
use Rattle.lfs_operations.proofs.RecoverMoved.{heads, in_directory}
use Rattle.lfs_operations.proofs.RemovedWhole.{only_slot}
use Rattle.lfs_model.proofs.PairsInFront.{last_pair, flag_last}

pub written_below : (t : KeptThread) (index : ℕ) (goes : Bool) → index < length t.pairs → move_ending_written_pair index goes < length t.pairs
written_below t index true low = omega arith
written_below t index false low = low

module _ (t : KeptThread) (can : CanEndMove t) (index : ℕ) (m : HasMovedSlot t index) where
  h : HasSite t.pairs index
  h = site_of_number t.disk t.pairs index can.accepted (in_directory t index m) m.below

  abbrev front : List Pair
  front = h.site.before ++ h.site.left

  abbrev back : List Pair
  back = h.site.right ++ h.site.after

  -- ---- whether a hard tail names the pair

  named : continues_directory t.pairs index ≡ last_tail_is_hard false front
  named = ap (λ z. continues_directory z index) h.is ∙ led_is h.site h.pair index h.is_site.chain h.number

  before_is : (l : List Pair) (z : Pair) → front ≡ l ++ z ∷ [] → thread_pair t (index - 1) ≡ z
  before_is l z e = front_is t (index - 1) (h.site.chain ++ l) z h.pair back
      (h.is ∙ ap (λ y. h.site.chain ++ (y ++ h.pair ∷ back)) e ∙ ap (λ y. h.site.chain ++ y) (append_assoc l (z ∷ []) (h.pair ∷ back)) ∙ sym (append_assoc h.site.chain l (z ∷ h.pair ∷ back)))
      (let n = h.number in let a = length-append h.site.chain front in let b = ap length e in let c = length-append l (z ∷ []) in let d = length-append h.site.chain l in omega arith)

  front_led : front ≢ [] → continues_directory t.pairs index ≡ tail_is_hard t (index - 1)
  front_led some =
      let l = last_pair front some in
      named ∙ ap (last_tail_is_hard false) l.is ∙ flag_last l.front l.last false ∙ ap (λ (z : Pair). is_hard_tail z.content.tail) (sym (before_is l.front l.last l.is))

  abbrev goes : Bool
  goes = drops_pair_after_move t index

  stays : drops_pair_after_move t index ≡ false → continues_directory t.pairs index ≡ true → 1 < length (thread_pair t index).content.slots
  stays alone led = go (cases_lt 1 (length (thread_pair t index).content.slots))
    where
      some : front ≢ []
      some none = absurd (let z = sym (named ∙ ap (last_tail_is_hard false) none) ∙ led in cc)

      above : 0 < index
      above =
          let l = last_pair front some in
          let a = ap length l.is in
          let b = length-append l.front (l.last ∷ []) in
          let c = length-append h.site.chain front in
          let n = h.number in
          omega arith

      go : (1 < length (thread_pair t index).content.slots) ⊎ (length (thread_pair t index).content.slots ≤ 1) → 1 < length (thread_pair t index).content.slots
      go (inl many) = many
      go (inr few) =
          let one : (length (thread_pair t index).content.slots == 1) ≡ true = eq-eqb (length (thread_pair t index).content.slots) 1
          (let a = ap length m.held in let b = length-append m.left (m.slot ∷ m.right) in omega arith) in
          absurd (let z = sym alone ∙ ap₂ (λ a b. a && (b && tail_is_hard t (index - 1))) (lt-ltb 0 index above) one ∙ sym (front_led some) ∙ led in cc)

  alone : drops_pair_after_move t index ≡ true → (continues_directory t.pairs index ≡ true) × (length (thread_pair t index).content.slots ≡ 1)
  alone whole = (front_led some ∙ parts.1, single)
    where
      parts : ((length (thread_pair t index).content.slots == 1) ≡ true) × (tail_is_hard t (index - 1) ≡ true)
      parts = and_parts (length (thread_pair t index).content.slots == 1) (tail_is_hard t (index - 1)) (and_parts (nat_lt 0 index) (length (thread_pair t index).content.slots == 1 && tail_is_hard t (index - 1)) whole).1

      single : length (thread_pair t index).content.slots ≡ 1
      single = eqb-true (length (thread_pair t index).content.slots) 1 parts.0

      slots_are : (thread_pair t index).content.slots ≡ m.slot ∷ []
      slots_are = m.held ∙ only_slot m.left m.right m.slot (sym (ap length m.held) ∙ single)

      -- the pair isn't the root's first, which has a superblock
      later : (count_before_root t.pairs < index) ⊎ (index ≤ count_before_root t.pairs) → count_before_root t.pairs < index
      later (inl l) = l
      later (inr l) = absurd (let k = (subst (BeginsWithSuperblock t.disk.profile.versions can.accepted.superblock.0) slots_are
          (heads (λ p. BeginsWithSuperblock t.disk.profile.versions can.accepted.superblock.0 p.content.slots) (count_before_root t.pairs + 1) t.pairs index (omega arith) m.below
          (recursion_from_All (λ (p : Pair). BeginsWithSuperblock t.disk.profile.versions can.accepted.superblock.0 p.content.slots) (take (count_before_root t.pairs + 1) t.pairs) can.accepted.superblock.1.1))).0 in
          let z = sym k ∙ m.other in cc)

      some : front ≢ []
      some none =
          let l = later (cases_lt (count_before_root t.pairs) index) in
          let c = ap count_before_root h.is ∙ h.is_site.chain in
          let a = length-append h.site.chain front in
          let b = ap length none in
          let n = h.number in
          absurd (omega arith)

  pub can_at : IsLogContentDecodable t.disk (thread_pair t index).at → CanEndMoveAt t index (pairs_gstate t.pairs).id (drops_pair_after_move t index)
  can_at logged = record {
    accepted = can.accepted;
    writable = can.writable;
    begins = in_directory t index m;
    below = m.below;
    logged = logged;
    kind = m.kind;
    named = pair_back (thread_pair t index).at (pairs_gstate t.pairs).pair m.same;
    id_is = refl;
    name = m.slot.name;
    stands = record { left = m.left; slot = m.slot; right = m.right; held = m.held; number = m.number; entry = m.other; named = refl };
    stays = stays;
    alone = alone;
  }

  -- ---- the result

  pub ended_at : (new : KeptThread) → HasEndedMoveAt t index (pairs_gstate t.pairs).id (drops_pair_after_move t index) new → HasEndedMove t new
  ended_at new e = record {
    taken = e.taken;
    none = subst HasNoMove (sym e.state) (record { kind = refl; id = refl; pair = refl });
    used = map_is.used;
    size = map_is.size ∙ can.size ∙ sym e.shape.count;
    fewer = λ b. let u = e.blocks b in omega arith;
    flying = map_is.flying;
    root = e.root;
    leads_on = e.leads_on;
  }
    where
      map_is : HasMapWithout t.map new.map (used_blocks new.disk new.pairs)
      map_is = map_ended t index (drops_pair_after_move t index) (used_blocks t.disk t.pairs) (used_blocks new.disk new.pairs) can.used (λ b. once_from_distinct (used_blocks t.disk t.pairs) can.accepted.owned_once b) e.blocks new.map e.map
