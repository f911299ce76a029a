-- The tail and the delta that a dropped pair leaves to the one before it, as changes of that one.
use Rattle.lfs_operations.proofs.Common.{ℕ, zero, suc, ◌≡◌, ◌+◌, ◌<◌, false, cond, inl, inr, ◌⊎◌, List, [], ◌∷◌, ◌++◌, length, Option, Some, None, refl, sym, ap, ap₂, subst, ◌∙◌, arith, get_or, set, remove, xor_lt, same_Some, Blocks, PutMove, PutTail, content_with_changes, RawContent, decoded_content, content_at, raw_content, Disk, MoveStateFits, PairContent, FitsInPair, Gstate, Tail, gstate_xor, zero_gstate, Pair, pairs_gstate, tail_target, completed_from, completed_parts, Each, each_right, each_weaker, Does, does_first, does_nothing, puts_move, puts_tail, gstate_assoc, gstate_comm, gstate_cons, gstate_moved, gstate_right, gstate_self, KeptThread, CanDropNext, IsNextDropped, LossLeavesPair, RefusesChanges, IsPairWritten, complete_after, empty_anchor, thread_pair, tail_change, pairs_with_content, option_and_then, AreByteBlocks, IsAllowedTail, ends_tail, IsPairDropped, LeftByDrop, delta_after_drop, tail_after_drop, predecessor_tail_after_drop, dropping_changes, content_after_drop, append_assoc, length-append, recursion_from_All, ◌-◌, CanDropAt, ContentChange}
use Rattle.lfs_operations.proofs.Held.{completes_to}
use Rattle.lfs_model.proofs.PairLists.{get_at, set_at}
use Rattle.lfs_operations.proofs.MakingContents.{logged_there}

-- ---- what a log comes to

-- its tail and its delta can be written again
pub record IsWritableAgain (c : PairContent) : Type 0 where
  pub tail : IsAllowedTail c.tail
  pub move : MoveStateFits c.move

pub logged_content : (disk : Disk) (at : ℕ × ℕ) (c : PairContent) → AreByteBlocks disk.blocks → content_at disk at ≡ Some c → IsWritableAgain c
logged_content disk at c bytes is =
    let k = completes_to (raw_content disk at) c is in
    let l = logged_there disk at bytes k.raw k.is in
    let parts = completed_parts k.raw c k.complete in
    record { tail = subst IsAllowedTail (sym parts.tail) l.tail; move = subst MoveStateFits (sym parts.move) l.move }

-- ---- deltas

pub move_xor : (g h : Gstate) → MoveStateFits g → MoveStateFits h → MoveStateFits (gstate_xor g h)
move_xor g h a b = record {
  kind = xor_lt 11 g.kind h.kind a.kind b.kind;
  id = xor_lt 10 g.id h.id a.id b.id;
  pair = (xor_lt 32 g.pair.0 h.pair.0 a.pair.0 b.pair.0, xor_lt 32 g.pair.1 h.pair.1 a.pair.1 b.pair.1);
}

pub no_move_state : MoveStateFits zero_gstate
no_move_state = record { kind = omega arith; id = omega arith; pair = (omega arith, omega arith) }

pub moves_joined : (ps : List Pair) → Each (λ p. MoveStateFits p.content.move) ps → MoveStateFits (pairs_gstate ps)
moves_joined [] h = no_move_state
moves_joined (p ∷ ps) h = subst MoveStateFits (sym (gstate_cons p ps)) (move_xor p.content.move (pairs_gstate ps) h.0 (moves_joined ps h.1))

pub all_again : (disk : Disk) (ps : List Pair) → AreByteBlocks disk.blocks → Each (λ p. content_at disk p.at ≡ Some p.content) ps → Each (λ p. IsWritableAgain p.content) ps
all_again disk ps bytes h = each_weaker (λ (p : Pair). content_at disk p.at ≡ Some p.content) (λ (p : Pair). IsWritableAgain p.content) (λ p e. logged_content disk p.at p.content bytes e) ps h

-- ---- two pairs of the thread, one behind the other

pub record TwoAt (ps : List Pair) (n : ℕ) : Type 0 where
  pub ahead : List Pair
  pub one : Pair
  pub other : Pair
  pub back : List Pair
  pub is : ps ≡ ahead ++ one ∷ other ∷ back
  pub number : length ahead ≡ n

pub two_at : (ps : List Pair) (n : ℕ) → n + 1 < length ps → TwoAt ps n
two_at [] n l = absurd (omega arith)
two_at (p ∷ []) zero l = absurd (omega arith)
two_at (p ∷ q ∷ ps) zero l = record { ahead = []; one = p; other = q; back = ps; is = refl; number = refl }
two_at (p ∷ ps) (suc n) l = let t = two_at ps n (omega arith) in record { ahead = p ∷ t.ahead; one = t.one; other = t.other; back = t.back; is = ap (λ z. p ∷ z) t.is; number = ap suc t.number }

get_next : (xs : List Pair) (p q : Pair) (zs : List Pair) (d : Pair) → get_or (xs ++ p ∷ q ∷ zs) (length xs + 1) d ≡ q
get_next xs p q zs d = ap₂ (λ (z : List Pair) (n : ℕ). get_or z n d) (sym (append_assoc xs (p ∷ []) (q ∷ zs))) (sym (length-append xs (p ∷ []))) ∙ get_at (xs ++ p ∷ []) q zs d

pub remove_next : (xs : List Pair) (q o : Pair) (zs : List Pair) → remove (xs ++ q ∷ o ∷ zs) (length xs + 1) ≡ xs ++ q ∷ zs
remove_next [] q o zs = refl
remove_next (x ∷ xs) q o zs =
    let e : suc (length xs) + 1 ≡ suc (length xs + 1) = omega arith in
    ap (λ (n : ℕ). remove (x ∷ (xs ++ q ∷ o ∷ zs)) n) e ∙ ap (λ z. x ∷ z) (remove_next xs q o zs)

module _ (t : KeptThread) (front : ℕ) (ahead : List Pair) (p o : Pair) (back : List Pair) (is : t.pairs ≡ ahead ++ p ∷ o ∷ back) (number : length ahead ≡ front) where
  pub front_is : thread_pair t front ≡ p
  front_is = ap₂ (λ (z : List Pair) (i : ℕ). get_or z i empty_anchor) is (sym number) ∙ get_at ahead p (o ∷ back) empty_anchor

  pub gone_is : thread_pair t (front + 1) ≡ o
  gone_is = ap₂ (λ (z : List Pair) (i : ℕ). get_or z (i + 1) empty_anchor) is (sym number) ∙ get_next ahead p o back empty_anchor

  -- the thread without the second one
  pub without_is : (c : PairContent) → remove (pairs_with_content t front c) (front + 1) ≡ ahead ++ record { at = p.at; content = c } ∷ back
  without_is c =
      let q : Pair = record { at = p.at; content = c } in
      ap (λ (z : Pair). remove (set t.pairs front (record { at = z.at; content = c })) (front + 1)) front_is
      ∙ ap₂ (λ (z : List Pair) (i : ℕ). remove (set z i q) (i + 1)) is (sym number)
      ∙ ap (λ (z : List Pair). remove z (length ahead + 1)) (set_at ahead p (o ∷ back) q) ∙ remove_next ahead q o back

  -- what the two deltas and the turn of the global state come to
  deltas : (d : Gstate) (q : Pair) → q.content.move ≡ gstate_xor (gstate_xor p.content.move o.content.move) d → pairs_gstate (q ∷ []) ≡ gstate_xor d (pairs_gstate (p ∷ o ∷ []))
  deltas d q e =
      let two : pairs_gstate (p ∷ o ∷ []) ≡ gstate_xor p.content.move o.content.move
      = gstate_cons p (o ∷ []) ∙ ap (gstate_xor p.content.move) (gstate_cons o [] ∙ gstate_right o.content.move) in
      gstate_cons q [] ∙ gstate_right q.content.move ∙ e ∙ gstate_comm (gstate_xor p.content.move o.content.move) d ∙ ap (gstate_xor d) (sym two)

  turned_back : (g s : Gstate) → gstate_xor (gstate_xor g s) g ≡ s
  turned_back g s = ap (λ z. gstate_xor z g) (gstate_comm g s) ∙ gstate_assoc s g g ∙ ap (gstate_xor s) (gstate_self g) ∙ gstate_right s

  pub gstate_is : (state : Gstate) (q : Pair) → q.content.move ≡ delta_after_drop t front state → pairs_gstate (ahead ++ q ∷ back) ≡ state
  gstate_is state q e =
      let d = gstate_xor (pairs_gstate t.pairs) state in
      gstate_moved d ahead (p ∷ o ∷ []) (q ∷ []) back
      (deltas d q (e ∙ ap₂ (λ (x y : Pair). gstate_xor (gstate_xor x.content.move y.content.move) d) front_is gone_is))
      ∙ ap (λ z. gstate_xor d (pairs_gstate z)) (sym is) ∙ turned_back (pairs_gstate t.pairs) state

-- ---- the changes

over_again : (f g : Option Tail) → IsAllowedTail g → IsAllowedTail (predecessor_tail_after_drop f g)
over_again f None h = tt
over_again f (Some t) h = h

pub over_next : (f g : Option Tail) → tail_target (predecessor_tail_after_drop f g) ≡ tail_target g
over_next f None = refl
over_next f (Some t) = refl

pub takes : (raw : RawContent) (tail : Option Tail) (m : Gstate) → IsAllowedTail tail → MoveStateFits m
    → content_with_changes raw (tail_change tail ∷ PutMove m ∷ []) ≡ Some (record { slots = raw.slots; tail = tail; move = m })
takes raw None m h k =
    let now : RawContent = record raw { tail = None } in
    let end : RawContent = record { slots = raw.slots; tail = None; move = m } in
    does_first (PutTail false None) (PutMove m ∷ []) raw now end (ends_tail raw false) (does_first (PutMove m) [] now end end (puts_move now m k) (does_nothing end))
takes raw (Some t) m h k =
    let now : RawContent = record raw { tail = Some t } in
    let end : RawContent = record { slots = raw.slots; tail = Some t; move = m } in
    does_first (PutTail t.hard (Some t.to)) (PutMove m ∷ []) raw now end
    (subst (λ z. Does (PutTail t.hard (Some t.to)) raw (record raw { tail = z })) (ap (λ b. cond b None (Some (record { hard = t.hard; to = t.to }))) h.1) (puts_tail raw t.hard t.to h.0))
    (does_first (PutMove m) [] now end end (puts_move now m k) (does_nothing end))

pub takes_tail : (c : PairContent) (raw : RawContent) (tail : Option Tail) (m : Gstate) → decoded_content raw ≡ Some c → IsAllowedTail tail → MoveStateFits m
    → option_and_then decoded_content (content_with_changes raw (tail_change tail ∷ PutMove m ∷ [])) ≡ Some (record { slots = c.slots; tail = tail; move = m })
takes_tail c raw tail m complete h k =
    ap (option_and_then decoded_content) (takes raw tail m h k)
    ∙ completed_from (record { slots = raw.slots; tail = tail; move = m }) c.slots (completed_parts raw c complete).slots

module _ (t : KeptThread) (index : ℕ) (state : Gstate) (can : CanDropAt t index state) where
  abbrev front : ℕ
  front = index - 1

  abbrev c : PairContent
  c = content_after_drop t front state

  below : front + 1 < length t.pairs
  below = let a = can.above in let b = can.below in omega arith

  two : TwoAt t.pairs front
  two = two_at t.pairs front below

  there : (P : Pair → Type 0) → Each P t.pairs → P (thread_pair t front) × P (thread_pair t (front + 1))
  there P h =
      let k = each_right P two.ahead (two.one ∷ two.other ∷ two.back) (subst (Each P) two.is h) in (
        subst P (sym (front_is t front two.ahead two.one two.other two.back two.is two.number)) k.0,
        subst P (sym (gone_is t front two.ahead two.one two.other two.back two.is two.number)) k.1.0,
      )

  pub taking_made : AreByteBlocks t.disk.blocks → complete_after t (index - 1) (dropping_changes t (index - 1) state) ≡ Some (content_after_drop t (index - 1) state)
  taking_made bytes =
      let contents = recursion_from_All (λ (p : Pair). content_at t.disk p.at ≡ Some p.content) t.pairs can.thread.contents in
      let again = all_again t.disk t.pairs bytes contents in
      let k = there (λ p. IsWritableAgain p.content) again in
      let all = moves_joined t.pairs (each_weaker (λ (p : Pair). IsWritableAgain p.content) (λ (p : Pair). MoveStateFits p.content.move) (λ p h. h.move) t.pairs again) in
      let small = move_xor (gstate_xor (thread_pair t front).content.move (thread_pair t (front + 1)).content.move) (gstate_xor (pairs_gstate t.pairs) state)
      (move_xor (thread_pair t front).content.move (thread_pair t (front + 1)).content.move k.0.move k.1.move) (move_xor (pairs_gstate t.pairs) state all can.storable) in
      let held = completes_to (raw_content t.disk (thread_pair t front).at) (thread_pair t front).content (there (λ p. content_at t.disk p.at ≡ Some p.content) contents).0 in
      ap (λ o. option_and_then decoded_content (option_and_then (λ (x : RawContent). content_with_changes x (dropping_changes t front state)) o)) held.is
      ∙ takes_tail (thread_pair t front).content held.raw (tail_after_drop t front) (delta_after_drop t front state) held.complete
      (over_again (thread_pair t front).content.tail (thread_pair t (front + 1)).content.tail k.1.tail) small

  -- changes that make it of the pair in front
  module _ (changes : List ContentChange) (made : complete_after t (index - 1) changes ≡ Some (content_after_drop t (index - 1) state)) where
    pub can_drop : CanDropNext t (index - 1) changes
    can_drop = record {
      below = below;
      content = c;
      made = made;
      next = over_next (thread_pair t (index - 1)).content.tail (thread_pair t (index - 1 + 1)).content.tail;
    }

    -- the slots stay, so it fits
    pub drop_not_refused : (new : KeptThread) → RefusesChanges t (index - 1) changes new → ⊥
    drop_not_refused new is = is.too_large (subst (FitsInPair t.disk.block_size t.disk.page) (same_Some c is.content (sym made ∙ is.made)) (record { size = can.fits.size; count = can.fits.count }))

    pub has_dropped : (new : KeptThread) → IsNextDropped t (index - 1) changes new → IsPairDropped t (index - 1) state new
    has_dropped new is =
        let same = same_Some is.content c (sym is.made ∙ made) in
        let pairs = is.pairs ∙ ap (λ d. remove (pairs_with_content t (index - 1) d) (index - 1 + 1)) same in
        record {
          written = subst (λ d. IsPairWritten t (index - 1) d new.disk) same is.written;
          pairs = pairs;
          gstate = ap pairs_gstate (pairs ∙ without_is t (index - 1) two.ahead two.one two.other two.back two.is two.number c)
              ∙ gstate_is t (index - 1) two.ahead two.one two.other two.back two.is two.number state (record { at = two.one.at; content = c }) refl;
          thread = is.thread;
          map = is.map;
        }

    pub left_by_drop : (left : Blocks) → LossLeavesPair t (index - 1) changes left → LeftByDrop t (index - 1) state left
    left_by_drop left is = record { content = is.content; is = go is.is; written = is.written }
      where
        go : (is.content ≡ (thread_pair t (index - 1)).content) ⊎ ((complete_after t (index - 1) changes ≡ Some is.content) × FitsInPair t.disk.block_size t.disk.page is.content)
            → (is.content ≡ (thread_pair t (index - 1)).content) ⊎ (is.content ≡ content_after_drop t (index - 1) state)
        go (inl e) = inl e
        go (inr k) = inr (same_Some is.content c (sym k.0 ∙ made))
