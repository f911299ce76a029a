-- The pairs that a rename across pairs leaves as they were.
use Rattle.lfs_operations.proofs.Common.{ℕ, ◌≡◌, ◌-◌, ◌<◌, ◌≤◌, inl, inr, Bool, false, true, List, ◌∷◌, length, Option, subst, arith, Name, Pair, Path, Site, Slot, used_blocks, IsAccepted, Contains-occurrence_count, occurrence_count-Contains, occurrence_count, count_append, KeptThread, thread_pair, address_blocks, addresses_blocks, Contains, WritesChangedPairsOrFree, HasEndedMoveAt, CanEndMoveAfterCopy, IsMoveCopiedAndEnded, WritesPairsAndTwoFree, move_ending_pair, pair_index_after_insertion, CanEditIn, move_start_changes, CanMoveBetweenPairs, IsMovedBetweenPairs, route_blocks, drops_pair_after_removal, refl, IsFree, Each, each_weaker, move_ending_written_pair, Route}
use Rattle.lfs_operations.proofs.AlteredAcross.{IsKnown, ended_alters, each_known}
use Rattle.lfs_operations.proofs.Held.{below}
use Rattle.lfs_operations.proofs.MovPlaced.{IsAimed, ends_aimed}
use Rattle.lfs_operations.proofs.MovLater.{new_below, renamed_across}
use Rattle.lfs_operations.proofs.MovRename.{across_alters, aimed_new}
use Rattle.lfs_operations.proofs.MovReplace.{aimed_onto}
use Rattle.lfs_operations.proofs.RemovedWhole.{can_drop_file}

first_of_four : (a c : ℕ × ℕ) (b : ℕ) → Contains (address_blocks a) b → Contains (addresses_blocks a c) b
first_of_four a c b h = Contains-occurrence_count (addresses_blocks a c) b (let k = occurrence_count-Contains (address_blocks a) b h in let e = count_append b (address_blocks a) (address_blocks c) in omega arith)

second_of_four : (a c : ℕ × ℕ) (b : ℕ) → Contains (address_blocks c) b → Contains (addresses_blocks a c) b
second_of_four a c b h = Contains-occurrence_count (addresses_blocks a c) b (let k = occurrence_count-Contains (address_blocks c) b h in let e = count_append b (address_blocks a) (address_blocks c) in omega arith)

pub old_low : {t : KeptThread} {pair id : ℕ} (can : CanEditIn t pair id) → pair < length t.pairs
old_low {t = t} {pair = pair} can = below t can.ready can.first pair can.stands.pair can.stands.rest can.stands.place

-- ---- the blocks that the steps wrote, as seen from an image behind them

module _ {t m : KeptThread} {route : Route} {name : Name} {replaces sync : Bool} {old : CanEditIn t route.old_pair route.old_id} {path : Path} {w : Site} {p : Pair} {l : List Slot} {target : Option Slot} {r : List Slot}
    (begins : old.first ≡ route.first) (a : IsAimed replaces sync t route name old path w p l target r) (is : IsMoveCopiedAndEnded t route.old_pair route.old_id (drops_pair_after_removal t route.old_pair route.first) route.new_pair (move_start_changes replaces sync t route name) m)
    {new : KeptThread} (now : IsAccepted new.disk new.pairs) (fewer : (b : ℕ) → occurrence_count b (used_blocks new.disk new.pairs) ≤ occurrence_count b (used_blocks m.disk m.pairs))
    (bs : List ℕ) (within : (b : ℕ) → Contains (address_blocks (thread_pair t route.old_pair).at) b → Contains bs b) (entered : (b : ℕ) → Contains (address_blocks (thread_pair t route.new_pair).at) b → IsKnown t new bs b) where
  -- the pair before the old one is changed if the old one is dropped
  front_known : (b : ℕ) → Contains (address_blocks (thread_pair t (move_ending_pair t route.old_pair route.first)).at) b → IsKnown t new bs b
  front_known b = go (drops_pair_after_removal t route.old_pair route.first) refl
    where
      go : (g : Bool) → drops_pair_after_removal t route.old_pair route.first ≡ g → Contains (address_blocks (thread_pair t (move_ending_written_pair route.old_pair g)).at) b → IsKnown t new bs b
      go false stays own = inl (within b own)
      go true whole own = inr (inl (record {
        index = route.old_pair - 1;
        below = (let low = old_low old in omega (arith, low));
        own = own;
        alters = ended_alters t is.mid m new route.old_pair route.old_id route.new_pair (can_drop_file t route.old_pair route.old_id route.first old begins whole).above (old_low old) old.ready.accepted
            (subst (λ b. CanEndMoveAfterCopy t route.old_pair route.old_id b route.new_pair is.mid) whole (ends_aimed a is.mid is.put))
            (subst (λ b. HasEndedMoveAt is.mid (pair_index_after_insertion route.old_pair route.new_pair (length is.mid.pairs - length t.pairs)) route.old_id b m) whole is.ended) now fewer;
      }))

  steps_known : (w : WritesPairsAndTwoFree t (move_ending_pair t route.old_pair route.first) route.new_pair m) → Each (IsKnown t new bs)
      ((thread_pair t route.new_pair).at.0 ∷ (thread_pair t route.new_pair).at.1 ∷ (thread_pair t (move_ending_pair t route.old_pair route.first)).at.0 ∷ (thread_pair t (move_ending_pair t route.old_pair route.first)).at.1 ∷ w.fresh)
  steps_known w = each_known t new bs (thread_pair t route.new_pair).at ((thread_pair t (move_ending_pair t route.old_pair route.first)).at.0 ∷ (thread_pair t (move_ending_pair t route.old_pair route.first)).at.1 ∷ w.fresh) entered
      (each_known t new bs (thread_pair t (move_ending_pair t route.old_pair route.first)).at w.fresh front_known (each_weaker (IsFree t.map) (IsKnown t new bs) (λ b f. inr (inr f)) w.fresh w.free))

-- onto an entry
pub onto_known : {sync : Bool} {t m new : KeptThread} {route : Route} {name : Name} (rename : CanMoveBetweenPairs true sync t route name) → IsMovedBetweenPairs true sync t route name m
    → IsAccepted new.disk new.pairs → ((b : ℕ) → occurrence_count b (used_blocks new.disk new.pairs) ≤ occurrence_count b (used_blocks m.disk m.pairs)) → (w : WritesPairsAndTwoFree t (move_ending_pair t route.old_pair route.first) route.new_pair m)
    → Each (IsKnown t new (route_blocks true t route))
    ((thread_pair t route.new_pair).at.0 ∷ (thread_pair t route.new_pair).at.1 ∷ (thread_pair t (move_ending_pair t route.old_pair route.first)).at.0 ∷ (thread_pair t (move_ending_pair t route.old_pair route.first)).at.1 ∷ w.fresh)
onto_known {sync = sync} {t = t} {route = route} {name = name} rename h now fewer w =
    let a = (thread_pair t route.old_pair).at in
    let c = (thread_pair t route.new_pair).at in
    steps_known rename.begins_old (aimed_onto sync t route name rename h.address) h.done now fewer (route_blocks true t route) (first_of_four a c) (λ b own. inl (second_of_four a c b own)) w

-- to a new name, or onto a file
pub altered_across : (replaces : Bool) {t new : KeptThread} {route : Route} {name : Name} (rename : CanMoveBetweenPairs replaces false t route name) → IsMovedBetweenPairs replaces false t route name new
    → WritesPairsAndTwoFree t (move_ending_pair t route.old_pair route.first) route.new_pair new → WritesChangedPairsOrFree t (route_blocks replaces t route) new
altered_across false {t = t} {route = route} {name = name} rename h w = record {
  blocks = _;
  writes = w.writes;
  each = steps_known rename.begins_old (aimed_new false t route name rename h.address) h.done (renamed_across rename h).now.ready.accepted (λ b. omega arith) (route_blocks false t route) (λ b own. own)
      (λ b own. inr (inl (record { index = route.new_pair; below = new_below false false t route name rename; own = own; alters = across_alters rename h }))) w;
}
altered_across true rename h w = record { blocks = _; writes = w.writes; each = onto_known rename h (renamed_across rename h).now.ready.accepted (λ b. omega arith) w }
