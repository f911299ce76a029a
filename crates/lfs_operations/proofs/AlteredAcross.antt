-- The pairs that the steps of a rename across pairs leave as they were.
use Rattle.lfs_operations.proofs.Common.{ℕ, ◌≡◌, ◌-◌, ◌<◌, ◌≤◌, ◌⊎◌, inl, Bool, true, false, List, [], ◌∷◌, ◌++◌, length, None, refl, sym, ap, subst, ◌∙◌, arith, append_assoc, IsFree, ContentChange, Name, pair_with_slots, Slot, gstate_xor, Pair, pairs_blocks, address_blocks, Path, IsAccepted, all_unmoved_slots, used_blocks, SameSlots, Each, occurrence_count, count_append, count_here, once_from_distinct, HoldsForSome, Site, among_right, dirs_at, file_blocks, two, KeptThread, thread_pair, Contains, IsBlockOfChangedPair, IsPairChangedOrDropped, HasEndedMoveAt, gstate_with_move, CanEndMoveAfterCopy, pair_index_after_insertion}
use Rattle.lfs_model.proofs.BlockSets.{Contains-head, Contains-tail}
use Rattle.lfs_operations.proofs.AlteredBehind.{entered_alters, gone_alters}
use Rattle.lfs_model.proofs.AcrossSteps.{Arranged}
use Rattle.lfs_operations.proofs.MovStep.{IsFirst, IsLeftOver, arr, last_taken, left_over}
use Rattle.lfs_operations.proofs.MovTurned.{TurnedTo, pair_is}
use Rattle.lfs_model.proofs.UsedCounts.{not_used}

-- ---- the pair of the new slot

-- a pair is there, and those of its second half
record IsWithin (xs : List Pair) (q : Pair) (more : List Pair) : Type 0 where
  before : List Pair
  behind : List Pair
  is : xs ≡ before ++ q ∷ (more ++ behind)

within_two : (b : Bool) (chain front os mid : List Pair) (q : Pair) (more back : List Pair) → IsWithin (chain ++ two b front os mid (q ∷ more) back) q more
within_two true chain front os mid q more back = record {
  before = chain ++ (front ++ (os ++ mid));
  behind = back;
  is = ap (λ z. chain ++ (front ++ z)) (sym (append_assoc os mid (q ∷ (more ++ back)))) ∙ ap (λ z. chain ++ z) (sym (append_assoc front (os ++ mid) (q ∷ (more ++ back))))
      ∙ sym (append_assoc chain (front ++ (os ++ mid)) (q ∷ (more ++ back)));
}
within_two false chain front os mid q more back = record { before = chain ++ front; behind = mid ++ (os ++ back); is = sym (append_assoc chain front (q ∷ (more ++ (mid ++ (os ++ back))))) }

module _ {t : KeptThread} {sync : Bool} {old_pair : ℕ} {goes : Bool} {new_pair : ℕ} {changes : List ContentChange} {wo : Site} {o : Pair} {lo : List Slot} {u : Slot} {ro : List Slot} {w : Site} {p : Pair} {l : List Slot} {v : Slot} {r : List Slot}
    {old_path new_path : Path} {name : Name} (k : IsFirst t sync old_pair goes new_pair changes wo o lo u ro w p l None v r old_path new_path name)
    (mid : KeptThread) (x : TurnedTo t w p (l ++ v ∷ r) (gstate_xor (gstate_with_move sync o.at (length lo)) p.content.move) mid)
    (last : KeptThread) (e : HasEndedMoveAt mid (pair_index_after_insertion old_pair new_pair (length mid.pairs - length t.pairs)) (length lo) goes last) where
  abbrev a : Arranged t.disk wo o w p x.q x.more
  a = arr k mid x

  left : IsLeftOver k mid x last e
  left = left_over k mid x last e

  place : IsWithin (w.chain ++ two a.b a.front left.os a.mid (x.q ∷ x.more) a.back) x.q x.more
  place = within_two a.b w.chain a.front left.os a.mid x.q x.more a.back

  -- it has one slot more, or is split
  pub moved_alters : IsPairChangedOrDropped t new_pair last
  moved_alters has = entered_alters t last t.disk p (pair_with_slots (l ++ v ∷ r) p) x.q x.more place.before place.behind l r v k.ready.accepted
      (last_taken k mid x last e).follows.accepted
      (subst (λ z. SameSlots z last.pairs) (ap (λ z. w.chain ++ z) (sym (a.cut left.os)) ∙ place.is) left.alike)
      x.turned.at x.turned.is k.setting.was x.turned.became
      (λ b some. let n = not_used t.map (used_blocks t.disk t.pairs) k.ready.used b (x.fresh b some) in let c = count_append b (pairs_blocks t.pairs) (file_blocks t.disk (all_unmoved_slots t.pairs)) in omega (arith, n, c))
      (subst (HoldsForSome (λ y. y ≡ p)) (sym k.turn.there) (among_right (λ y. y ≡ p) w.chain (dirs_at w (p ∷ [])) (among_right (λ y. y ≡ p) (w.before ++ w.left) (p ∷ (w.right ++ w.after)) (inl refl))))
      (subst (Contains last.pairs) (pair_is t new_pair changes w p (l ++ v ∷ r) (gstate_xor (gstate_with_move sync o.at (length lo)) p.content.move) k.turn) has)

-- ---- the pair in front of the old one

-- the old one is gone
pub ended_alters : (t mid m new : KeptThread) (old_pair old_id new_pair : ℕ) → 0 < old_pair → old_pair < length t.pairs → IsAccepted t.disk t.pairs → CanEndMoveAfterCopy t old_pair old_id true new_pair mid
    → HasEndedMoveAt mid (pair_index_after_insertion old_pair new_pair (length mid.pairs - length t.pairs)) old_id true m → IsAccepted new.disk new.pairs → ((b : ℕ) → occurrence_count b (used_blocks new.disk new.pairs) ≤ occurrence_count b (used_blocks m.disk m.pairs)) → IsPairChangedOrDropped t (old_pair - 1) new
ended_alters t mid m new old_pair old_id new_pair some low ok ends ended now fewer =
    let b = (thread_pair t old_pair).at.0 in
    let e = ended.blocks b in
    let f = once_from_distinct (used_blocks mid.disk mid.pairs) ends.can.accepted.owned_once b in
    let g = ap (λ at. occurrence_count b (address_blocks at)) ends.at in
    let h = count_here b ((thread_pair t old_pair).at.1 ∷ []) in
    let i = fewer b in
    let j = count_append b (pairs_blocks new.pairs) (file_blocks new.disk (all_unmoved_slots new.pairs)) in
    gone_alters t new old_pair some low ok now (omega (arith, e, f, g, h, i, j))

-- ---- the blocks that the steps write

abbrev pub IsKnown : KeptThread → KeptThread → List ℕ → ℕ → Type 0
IsKnown t new bs b = Contains bs b ⊎ (IsBlockOfChangedPair t new b ⊎ IsFree t.map b)

pub each_known : (t new : KeptThread) (bs : List ℕ) (at : ℕ × ℕ) (rest : List ℕ) → ((b : ℕ) → Contains (address_blocks at) b → IsKnown t new bs b) → Each (IsKnown t new bs) rest → Each (IsKnown t new bs) (at.0 ∷ at.1 ∷ rest)
each_known t new bs at rest own behind = (own at.0 (Contains-head at.0 (at.1 ∷ [])), (own at.1 (Contains-tail at.0 at.1 (at.1 ∷ []) (Contains-head at.1 [])), behind))
