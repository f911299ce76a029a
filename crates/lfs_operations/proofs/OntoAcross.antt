-- A rename across pairs over an empty directory: the index of the directory's pair after the move, and the result of the last
-- step.
use Rattle.lfs_operations.proofs.Common.{ℕ, zero, suc, ◌≡◌, ◌<◌, ◌⊎◌, inl, inr, ◌-◌, Bool, true, false, cond, nat_eq, slice_get, take, List, [], ◌∷◌, ◌++◌, length, map, Some, None, sym, ap, ap₂, subst, ◌∙◌, arith, append_assoc, append-nil, refl, AllByRecursion, IsDistinct, recursion_from_All, same_Some, last_name, tree_renaming, without_prefix, Blocks, IsPairAt, IsPositionOfName, IsFittingPair, IsUnreachedOrRemoved, Name, HasEitherTree as IsLeftOf, with_blocks, slot_of_path, pair_with_slots, Branch, Ctz, Inline, Slot, Struct, gstate_xor, zero_gstate, same_pair, path_or_root, ThreadDirectory, Pair, superblock_pair_address, pairs_blocks, pairs_from_root, first_address, pairs_gstate, root_address, count_before_root, Path, struct_directory_address, address_at_path, HasNoEmptyPairs, IsWritable, IsAccepted, IsReachedDirectory, IsDirectoryAtPath, all_directories, all_entries, disk_tree, used_blocks, SameSlots, IsChangedImage, CompletesOperation, no_move_from, recovered_from, Each, occurrence_count, count_append, each_right, each_weaker, HasDirectory, chain_of_thread, site_shows, NoneGoes, joined_parts, none_where, rest_all, entry_only, get_here, place_at, shown_before, shown_behind, some_filled, pair_itself, pair_on, last_is, Gains, Keeps, Piece, Stays, olds_of, segment_of, renamed_addresses, IsReplaced, avoids_behind, avoids_front, same, site, drafts_of, parts_of, HoldsForSome, Site, dirs_at, thread_at, file_blocks, IsWritableChange, IsChain, pairs_behind, OldStays, from_old, two, KeptThread, empty_anchor, thread_pair, HasNoMove, Any, all_at_firsts, begins_at_firsts, CanDropAt, IsPairDropped, LeftByDrop, CanEditIn, HasEndedMoveAt, gstate_with_move, IsMoveCopiedAndEnded, pair_index_after_insertion, IsRenamedBetweenPairs, tree_with_entry_moved, CanReplaceDirectoryBetweenPairs, CanMoveBetweenPairs, IsMovedBetweenPairs, move_start_changes, drops_pair_after_removal, WritesPairsAndTwoFree, WritesThreadAndTwoFree, move_ending_pair, once_from_distinct, Route}
use Rattle.lfs_model.specs.session.TreeEdits.{same_path}
use Rattle.lfs_model.specs.session.Layout.{slot_directory_addresses, removed_directory_addresses}
use Rattle.lfs_model.specs.session.Operations as ops
use Rattle.lfs_model.proofs.Alike.{Stood}
use Rattle.lfs_model.proofs.Found.{directory_found, links_behind}
use Rattle.lfs_model.proofs.Pieces.{GoesAt, pieces_stood}
use Rattle.lfs_model.proofs.RenamedOnto.{IsRenameOnto, onto_completed}
use Rattle.lfs_model.proofs.Trees.{not_before}
use Rattle.lfs_model.proofs.TwoPlaces.{fits_fewer}
use Rattle.lfs_operations.proofs.Held.{below, fits_there}
use Rattle.lfs_operations.proofs.MovReplace.{aimed_onto}
use Rattle.lfs_operations.proofs.MovStep.{IsFirst, IsLeftOver, arr, first_turned, last_firsts, last_flying, last_kept, last_root, last_shape, last_size, last_state, last_taken, last_used, left_over}
use Rattle.lfs_operations.proofs.MovTurned.{TurnedTo}
use Rattle.lfs_model.proofs.AcrossSteps.{Arranged}
use Rattle.lfs_operations.proofs.OntoGone.{replaced_by, replaced_drops}
use Rattle.lfs_model.proofs.CutPieces.{AreKnown, IsCutOut, alike_then, alike_without, cut_out, joined_stays}
use Rattle.lfs_model.proofs.UsedCounts.{used_same}
use Rattle.lfs_model.proofs.EmptyDirectories.{HasFront, front_of, get_some, not_the_root, number_of_first, soft_end}
use Rattle.lfs_operations.proofs.OwnPair.{HasOwnPair, led_to, own_pair}
use Rattle.lfs_operations.proofs.LastDrop.{IsAllButDropped, alike_end, can_drop_last, left_last, shows_dropped, taken_end}
use Rattle.lfs_operations.proofs.OntoWritten.{end_below, writes_one}

-- ---- lists

among_there : (xs : List Pair) (k : ℕ) (o : Pair) → slice_get xs k ≡ Some o → HoldsForSome (λ y. y ≡ o) xs
among_there [] k o e = absurd (cc)
among_there (x ∷ xs) zero o e = inl (same_Some x o e)
among_there (x ∷ xs) (suc k) o e = inr (among_there xs k o e)

somewhere : (xs : List Pair) (o : Pair) → HoldsForSome (λ y. y ≡ o) xs → (k : ℕ) × (slice_get xs k ≡ Some o)
somewhere [] o h = absurd h
somewhere (x ∷ xs) o (inl e) = (0, ap Some e)
somewhere (x ∷ xs) o (inr h) = let s = somewhere xs o h in (suc s.0, s.1)

pub two_written : {t : KeptThread} {route : Route} {name : Name} {gone : ℕ} (rename : CanReplaceDirectoryBetweenPairs t route name gone) {m : KeptThread}
    → WritesPairsAndTwoFree t (move_ending_pair t route.old_pair route.first) route.new_pair m → WritesThreadAndTwoFree t m
two_written {t = t} {route = route} rename {m = m} w =
    let can = rename.onto.old in
    let b = rename.onto.target.there in
    writes_one t m (move_ending_pair t route.old_pair route.first) route.new_pair (end_below (length t.pairs) route.old_pair (drops_pair_after_removal t route.old_pair route.first) (below t can.ready can.first route.old_pair can.stands.pair can.stands.rest can.stands.place))
    (below t can.ready rename.onto.to_first route.new_pair b.pair b.rest b.place) w

module _ {t : KeptThread} {route : Route} {name : Name} {gone : ℕ} (rename : CanReplaceDirectoryBetweenPairs t route name gone) {m : KeptThread}
    (h : IsMovedBetweenPairs true true t route name m) where
  abbrev is : IsMoveCopiedAndEnded t route.old_pair route.old_id (drops_pair_after_removal t route.old_pair route.first) route.new_pair (move_start_changes true true t route name) m
  is = h.done

  abbrev onto : CanMoveBetweenPairs true true t route name
  onto = rename.onto

  abbrev can : CanEditIn t route.old_pair route.old_id
  can = onto.old

  abbrev tb : IsPositionOfName t.pairs onto.to_first name route.new_pair route.new_id
  tb = onto.target.there

  abbrev p : Pair
  p = tb.pair

  abbrev g : Slot
  g = tb.stands.slot

  abbrev l : List Slot
  l = tb.stands.left

  abbrev r : List Slot
  r = tb.stands.right

  abbrev q0 : Pair
  q0 = can.stands.pair

  abbrev lo : List Slot
  lo = can.stands.stands.left

  abbrev ro : List Slot
  ro = can.stands.stands.right

  abbrev s : Slot
  s = can.stands.stands.slot

  abbrev v : Slot
  v = record s { name = name }

  abbrev wo : Site
  wo = site t.disk t.pairs can.path can.at can.ready.accepted can.leads can.first route.old_pair q0 can.stands.rest can.stands.place can.begins

  abbrev w : Site
  w = site t.disk t.pairs onto.path onto.at can.ready.accepted onto.leads onto.to_first route.new_pair p tb.rest tb.place onto.begins

  abbrev from : Path
  from = can.path ++ can.name ∷ []

  abbrev to : Path
  to = onto.path ++ name ∷ []

  abbrev goes : Bool
  goes = drops_pair_after_removal t route.old_pair route.first

  abbrev o : Pair
  o = thread_pair t gone

  first_step : IsFirst t true route.old_pair goes route.new_pair (move_start_changes true true t route name) wo q0 lo s ro w p l (Some g) v r from to name
  first_step = (aimed_onto true t route name onto h.address).way

  x : TurnedTo t w p (l ++ v ∷ r) (gstate_xor (gstate_with_move true q0.at (length lo)) p.content.move) is.mid
  x = first_turned first_step is.mid is.put

  e : HasEndedMoveAt is.mid (pair_index_after_insertion route.old_pair route.new_pair (length is.mid.pairs - length t.pairs)) (length lo) goes m
  e = subst (λ i. HasEndedMoveAt is.mid (pair_index_after_insertion route.old_pair route.new_pair (length is.mid.pairs - length t.pairs)) i goes m) (sym can.stands.stands.number) is.ended

  -- ---- the directory before

  entry_there : slice_get (all_entries (thread_at w (p ∷ [])) onto.at) (place_at w l) ≡ Some g
  entry_there = ap (λ z. slice_get z (place_at w l)) (site_shows t.disk w p l (g ∷ []) r onto.at first_step.setting.accepted first_step.setting.site (no_move_from (thread_at w (p ∷ [])) first_step.setting.settled)
      (same t.disk t.pairs onto.path onto.at can.ready.accepted onto.leads onto.to_first route.new_pair p tb.rest tb.place onto.begins) tb.stands.held
      ∙ ap (λ z. shown_before w l ++ (z ++ shown_behind w r)) (entry_only g tb.stands.entry)) ∙ get_here (shown_before w l) (shown_behind w r) g

  led_there : IsDirectoryAtPath t.pairs (onto.path ++ name ∷ []) rename.to
  led_there = led_to t can.ready onto.path onto.at onto.leads onto.to_first route.new_pair route.new_id name tb onto.begins rename.to rename.branch

  own : HasOwnPair t w.chain (dirs_at w (p ∷ [])) gone rename.to
  own = own_pair t can.ready w.chain (dirs_at w (p ∷ [])) first_step.turn.there first_step.setting.site.chain onto.path name rename.to gone led_there rename.below rename.alike rename.empty rename.alone

  abbrev front : HasFront (dirs_at w (p ∷ [])) rename.to
  front = own.front

  o_there : slice_get t.pairs gone ≡ Some o
  o_there = get_some t.pairs gone empty_anchor rename.below

  pub gone_above : 0 < gone
  gone_above = let e = own.number in omega arith

  not_new : p ≡ o → ⊥
  not_new k = some_filled l r g (sym tb.stands.held ∙ ap (λ (z : Pair). z.content.slots) k ∙ rename.empty)

  not_old : q0 ≡ o → ⊥
  not_old k = some_filled lo ro s (sym can.stands.stands.held ∙ ap (λ (z : Pair). z.content.slots) k ∙ rename.empty)

  -- ---- and after the move

  moved : IsWritableChange t.disk t.pairs m.disk m.pairs (tree_renaming (can.path ++ can.name ∷ []) (onto.path ++ name ∷ [])) (renamed_addresses (can.path ++ can.name ∷ []) (onto.path ++ name ∷ []))
  moved = last_taken first_step is.mid x m e

  found : HasDirectory (pairs_from_root m.pairs) rename.to
  found =
      let k = links_behind (Some superblock_pair_address) (count_before_root m.pairs) m.pairs moved.follows.accepted.thread.links in
      directory_found (pairs_gstate m.pairs) rename.to k.0 (pairs_from_root m.pairs) k.1
      (begins_at_firsts (all_directories t.pairs) (all_directories m.pairs) (last_firsts first_step is.mid x m e) rename.to (can.ready.accepted.branches (onto.path ++ name ∷ []) rename.to led_there))

  now : HasFront (pairs_from_root m.pairs) rename.to
  now = front_of (pairs_from_root m.pairs) rename.to found (λ none. not_the_root t.disk t.pairs onto.path name rename.to can.ready.accepted led_there
      (subst (λ z. same_pair z rename.to ≡ true) (sym (ap first_address (found.is ∙ ap (λ z. z ++ (found.first ∷ found.run ++ found.after)) none)) ∙ moved.follows.root) found.at))

  abbrev chain : List Pair
  chain = take (count_before_root m.pairs) m.pairs

  whole : m.pairs ≡ take (count_before_root m.pairs) m.pairs ++ pairs_from_root m.pairs
  whole = (chain_of_thread m.pairs).0

  accepted_now : IsAccepted m.disk (take (count_before_root m.pairs) m.pairs ++ pairs_from_root m.pairs)
  accepted_now = subst (IsAccepted m.disk) whole moved.follows.accepted

  still_there : (k : ℕ) × (slice_get m.pairs k ≡ Some o)
  still_there = somewhere m.pairs o (last_kept first_step is.mid x m e o not_new rename.empty rename.alone (among_there t.pairs gone o o_there))

  dirs_now : pairs_from_root m.pairs ≡ now.front ++ now.before ∷ o ∷ (now.run ++ now.after)
  dirs_now = now.is ∙ ap (λ z. now.front ++ now.before ∷ z ∷ (now.run ++ now.after))
      (number_of_first m.disk chain (pairs_from_root m.pairs) rename.to accepted_now now still_there.0 o (subst (λ z. slice_get z still_there.0 ≡ Some o) whole still_there.1) rename.alike).1

  there_now : m.pairs ≡ take (count_before_root m.pairs) m.pairs ++ (now.front ++ now.before ∷ o ∷ (now.run ++ now.after))
  there_now = whole ∙ ap (λ z. take (count_before_root m.pairs) m.pairs ++ z) dirs_now

  module _ {n : ℕ} (at : IsPairAt m.pairs (thread_pair t gone).at n) where
    no_move_now : HasNoMove (pairs_gstate m.pairs)
    no_move_now = subst HasNoMove (sym (last_state first_step is.mid x m e)) (record { kind = refl; id = refl; pair = refl })

    chain_now : IsChain (take (count_before_root m.pairs) m.pairs) (now.front ++ now.before ∷ o ∷ (now.run ++ now.after))
    chain_now = subst (IsChain (take (count_before_root m.pairs) m.pairs)) dirs_now (chain_of_thread m.pairs).1

    pub replacing_across : IsAllButDropped t m o n (tree_renaming (can.path ++ can.name ∷ []) (onto.path ++ name ∷ [])) (renamed_addresses (can.path ++ can.name ∷ []) (onto.path ++ name ∷ []))
    replacing_across = record {
      ready = can.ready;
      taken = moved;
      no_move = no_move_now;
      chain = take (count_before_root m.pairs) m.pairs;
      front = now.front;
      x = now.before;
      back = now.run ++ now.after;
      there = there_now;
      is_chain = chain_now;
      number = sym (number_of_first m.disk chain (pairs_from_root m.pairs) rename.to accepted_now now n at.pair (subst (λ z. slice_get z n ≡ Some at.pair) whole at.there)
          (pair_on at.pair.at o.at rename.to at.same rename.alike)).0;
      soft = now.soft;
      drops = replaced_drops t m from to rename.to (take (count_before_root m.pairs) m.pairs) now.front now.before o (now.run ++ now.after) can.ready moved no_move_now there_now chain_now
          (subst (λ z. IsReplaced (address_at_path (all_entries z) (root_address z)) from to rename.to) (sym first_step.turn.there)
          (subst (λ (n : Name). IsReplaced (address_at_path (all_entries (thread_at w (p ∷ []))) (root_address (thread_at w (p ∷ [])))) from (onto.path ++ n ∷ []) rename.to) tb.stands.named
          (replaced_by t.disk (thread_at w (p ∷ [])) onto.path onto.at (place_at w l) g rename.to from first_step.setting.accepted (subst (λ z. IsDirectoryAtPath z onto.path onto.at) first_step.turn.there onto.leads) entry_there rename.branch own.empty
          (ap (λ (n : Name). without_prefix from (onto.path ++ n ∷ [])) tb.stands.named ∙ onto.not_beneath))))
          (λ Q h. all_at_firsts Q (all_directories t.pairs) (all_directories m.pairs) (last_firsts first_step is.mid x m e) h)
          rename.alike rename.alone;
      empty = rename.empty;
      used = used_same m.map (used_blocks m.disk m.pairs ++ file_blocks t.disk (g ∷ [])) (used_blocks m.disk m.pairs)
          (λ b. let a = count_append b (used_blocks m.disk m.pairs) (file_blocks t.disk (g ∷ [])) in let c : occurrence_count b (file_blocks t.disk (g ∷ [])) ≡ 0 = ap (λ z. occurrence_count b (file_blocks t.disk (record g { struct = z } ∷ []))) rename.branch in omega arith) (last_used first_step is.mid x m e);
      size = last_size first_step is.mid x m e;
      flying = last_flying first_step is.mid x m e;
      root = last_root first_step is.mid x m e;
      shape = last_shape first_step is.mid x m e;
    }

    -- ---- the layout of the slots

    module _ {new : KeptThread} (d : IsPairDropped m (n - 1) zero_gstate new) where
      abbrev a : Arranged t.disk wo q0 w p x.q x.more
      a = arr first_step is.mid x

      left : IsLeftOver first_step is.mid x m e
      left = left_over first_step is.mid x m e

      abbrev pieces_of : Bool → List Piece
      pieces_of true = Stays a.front ∷ Keeps q0 (lo ++ ro) left.os ∷ Stays a.mid ∷ Gains p (l ++ v ∷ r) x.q x.more ∷ Stays a.back ∷ []
      pieces_of false = Stays a.front ∷ Gains p (l ++ v ∷ r) x.q x.more ∷ Stays a.mid ∷ Keeps q0 (lo ++ ro) left.os ∷ Stays a.back ∷ []

      olds : (b : Bool) → olds_of (pieces_of b) ≡ two b a.front (q0 ∷ []) a.mid (p ∷ []) a.back
      olds true = ap (λ z. a.front ++ q0 ∷ (a.mid ++ p ∷ z)) (append-nil a.back)
      olds false = ap (λ z. a.front ++ p ∷ (a.mid ++ q0 ∷ z)) (append-nil a.back)

      drafts : (b : Bool) → drafts_of (map segment_of (pieces_of b)) ≡ two b a.front (pair_with_slots (lo ++ ro) q0 ∷ []) a.mid (pair_with_slots (l ++ v ∷ r) p ∷ []) a.back
      drafts true = ap (λ z. a.front ++ pair_with_slots (lo ++ ro) q0 ∷ (a.mid ++ pair_with_slots (l ++ v ∷ r) p ∷ z)) (append-nil a.back)
      drafts false = ap (λ z. a.front ++ pair_with_slots (l ++ v ∷ r) p ∷ (a.mid ++ pair_with_slots (lo ++ ro) q0 ∷ z)) (append-nil a.back)

      last_piece : joined_parts (parts_of (map segment_of (Stays a.back ∷ []))) ≡ a.back
      last_piece = joined_stays a.back [] ∙ append-nil a.back

      joined : (b : Bool) → joined_parts (parts_of (map segment_of (pieces_of b))) ≡ two b a.front left.os a.mid (x.q ∷ x.more) a.back
      joined true = joined_stays a.front (Keeps q0 (lo ++ ro) left.os ∷ Stays a.mid ∷ Gains p (l ++ v ∷ r) x.q x.more ∷ Stays a.back ∷ [])
          ∙ ap (λ z. a.front ++ (left.os ++ z)) (joined_stays a.mid (Gains p (l ++ v ∷ r) x.q x.more ∷ Stays a.back ∷ []) ∙ ap (λ z. a.mid ++ ((x.q ∷ x.more) ++ z)) last_piece)
      joined false = joined_stays a.front (Gains p (l ++ v ∷ r) x.q x.more ∷ Stays a.mid ∷ Keeps q0 (lo ++ ro) left.os ∷ Stays a.back ∷ [])
          ∙ ap (λ z. a.front ++ ((x.q ∷ x.more) ++ z)) (joined_stays a.mid (Keeps q0 (lo ++ ro) left.os ∷ Stays a.back ∷ []) ∙ ap (λ z. a.mid ++ (left.os ++ z)) last_piece)

      o_fits : IsFittingPair t.disk (pair_with_slots (lo ++ ro) q0)
      o_fits = fits_fewer t.disk q0 lo ro s can.stands.stands.held (fits_there t can.ready can.first route.old_pair q0 can.stands.rest can.stands.place)

      known : (b : Bool) → OldStays (from_old b a.front a.mid p) q0 (lo ++ ro) left.os → AreKnown t.disk o None (pieces_of b)
      known true stays = (o_fits, stays, not_old, (x.turned.at, x.turned.is, x.turned.became, some_filled l r v, not_new, tt))
      known false stays = (x.turned.at, x.turned.is, x.turned.became, some_filled l r v, not_new, (o_fits, stays, not_old, tt))

      -- ---- before

      two_chain : IsChain w.chain (two a.b a.front (q0 ∷ []) a.mid (p ∷ []) a.back)
      two_chain = ap count_before_root (sym a.old_is) ∙ first_step.setting.site.chain

      two_is : dirs_at w (p ∷ []) ≡ two a.b a.front (q0 ∷ []) a.mid (p ∷ []) a.back
      two_is = sym (pairs_behind w.chain (dirs_at w (p ∷ [])) first_step.setting.site.chain) ∙ ap pairs_from_root a.old_is ∙ pairs_behind w.chain (two a.b a.front (q0 ∷ []) a.mid (p ∷ []) a.back) two_chain

      abbrev ahead : List Pair
      ahead = front.front ++ front.before ∷ []

      abbrev behind : List Pair
      behind = front.run ++ front.after

      dirs_were : dirs_at w (p ∷ []) ≡ ahead ++ o ∷ behind
      dirs_were = own.dirs_are ∙ sym (append_assoc front.front (front.before ∷ []) (o ∷ (front.run ++ front.after)))

      distinct_were : IsDistinct nat_eq (pairs_blocks ((w.chain ++ ahead) ++ o ∷ behind))
      distinct_were = subst (λ z. IsDistinct nat_eq (pairs_blocks z)) (ap (λ z. w.chain ++ z) dirs_were ∙ sym (append_assoc w.chain ahead (o ∷ behind))) first_step.setting.accepted.thread.distinct

      cut : IsCutOut t.disk rename.to o None (pieces_of a.b)
      cut = cut_out t.disk rename.to o rename.alike rename.alone None (pieces_of a.b) ahead behind (olds a.b ∙ sym two_is ∙ dirs_were) (soft_end None front.front front.before front.soft)
          (each_right (λ (z : Pair). same_pair z.at rename.to ≡ false) w.chain ahead (avoids_front (w.chain ++ ahead) o behind rename.to distinct_were rename.alike)) (avoids_behind (w.chain ++ ahead) o behind rename.to distinct_were rename.alike) (known a.b left.stays)

      all_olds : olds_of cut.all ≡ two a.b a.front (q0 ∷ []) a.mid (p ∷ []) a.back
      all_olds = cut.olds ∙ olds a.b

      -- ---- after

      abbrev ahead_now : List Pair
      ahead_now = take (count_before_root m.pairs) m.pairs ++ (now.front ++ now.before ∷ [])

      abbrev behind_now : List Pair
      behind_now = now.run ++ now.after

      regrouped : (zs : List Pair) → take (count_before_root m.pairs) m.pairs ++ (now.front ++ now.before ∷ zs) ≡ ahead_now ++ zs
      regrouped zs = ap (λ z. take (count_before_root m.pairs) m.pairs ++ z) (sym (append_assoc now.front (now.before ∷ []) zs))
          ∙ sym (append_assoc (take (count_before_root m.pairs) m.pairs) (now.front ++ now.before ∷ []) zs)

      distinct_now : IsDistinct nat_eq (pairs_blocks (ahead_now ++ o ∷ behind_now))
      distinct_now = subst (λ z. IsDistinct nat_eq (pairs_blocks z)) (there_now ∙ regrouped (o ∷ behind_now)) moved.follows.accepted.thread.distinct

      alike_before : SameSlots ((w.chain ++ cut.left) ++ o ∷ cut.right) (ahead_now ++ o ∷ behind_now)
      alike_before = subst (λ z. SameSlots z (ahead_now ++ o ∷ behind_now))
          (ap (λ z. w.chain ++ z) (sym (a.cut left.os) ∙ sym (joined a.b) ∙ cut.were) ∙ sym (append_assoc w.chain cut.left (o ∷ cut.right)))
          (subst (SameSlots (w.chain ++ (a.pre ++ (left.os ++ a.post)))) (there_now ∙ regrouped (o ∷ behind_now)) left.alike)

      alike_after : SameSlots (w.chain ++ joined_parts (parts_of (map segment_of cut.all))) new.pairs
      unfolding replacing_across
      alike_after = subst (λ z. SameSlots z new.pairs) (append_assoc w.chain cut.left cut.right ∙ ap (λ z. w.chain ++ z) (sym cut.are))
          (alike_then ((w.chain ++ cut.left) ++ cut.right) (ahead_now ++ behind_now) new.pairs
          (alike_without t.disk rename.to o rename.alike rename.alone (w.chain ++ cut.left) cut.right ahead_now behind_now alike_before
          (avoids_front ahead_now o behind_now rename.to distinct_now rename.alike) (avoids_behind ahead_now o behind_now rename.to distinct_now rename.alike))
          (subst (λ z. SameSlots z new.pairs) (regrouped behind_now) (alike_end replacing_across new d)))

      -- ---- the operation

      abbrev ps : List Pair
      ps = w.chain ++ two a.b a.front (q0 ∷ []) a.mid (p ∷ []) a.back

      were : t.pairs ≡ ps
      were = first_step.turn.there ∙ a.old_is

      unreached : NoneGoes (λ z. IsReachedDirectory ps z → ⊥) None (two a.b a.front (q0 ∷ []) a.mid (p ∷ []) a.back)
      unreached = subst (NoneGoes (λ z. IsReachedDirectory ps z → ⊥) None) (pairs_behind w.chain (two a.b a.front (q0 ∷ []) a.mid (p ∷ []) a.back) two_chain)
          (none_where (λ z. IsReachedDirectory ps z → ⊥) (pairs_gstate ps) None (pairs_from_root ps) (λ z f. absurd (cc))
          (subst (Each (λ (z : ThreadDirectory). (IsReachedDirectory ps z.at → ⊥) → ⊥)) (sym (rest_all (all_directories ps)))
          (each_weaker (λ (z : ThreadDirectory). IsReachedDirectory ps z.at) (λ (z : ThreadDirectory). (IsReachedDirectory ps z.at → ⊥) → ⊥) (λ z h n. n h) (all_directories ps)
          (recursion_from_All (λ (z : ThreadDirectory). IsReachedDirectory ps z.at) (all_directories ps) (recovered_from t.disk ps (subst (IsAccepted t.disk) were can.ready.accepted) (ap pairs_gstate (sym were) ∙ can.ready.settled)).reached))))

      writable : IsWritable t.disk ps
      writable = subst (IsWritable t.disk) were can.ready.writable

      stood : Stood t.disk (GoesAt (λ z. IsReachedDirectory ps z → ⊥) rename.to) (length w.chain) None (w.chain ++ drafts_of (map segment_of cut.all)) new.pairs
      stood = pieces_stood t.disk (λ z. IsReachedDirectory ps z → ⊥) rename.to w.chain cut.all new.pairs
          (subst (λ z. Each (IsFittingPair t.disk) (w.chain ++ z)) (sym all_olds) (recursion_from_All (IsFittingPair t.disk) ps writable.pairs))
          (subst (HasNoEmptyPairs false) (pairs_behind w.chain (two a.b a.front (q0 ∷ []) a.mid (p ∷ []) a.back) two_chain ∙ sym all_olds) writable.no_empty_pair)
          (subst (NoneGoes (λ z. IsReachedDirectory ps z → ⊥) None) (sym all_olds) unreached) cut.there alike_after

      to_slot : slot_of_path ps to ≡ Some g
      to_slot = subst (λ z. slot_of_path z to ≡ Some g) a.old_is first_step.to_slot

      removes : (given to_given : List ℕ) → path_or_root given ≡ from → path_or_root to_given ≡ to → removed_directory_addresses ps (ops.Rename given to_given) ≡ rename.to ∷ []
      removes given to_given given_is to_is = ap (λ z. cond z [] (slot_directory_addresses (slot_of_path ps (path_or_root to_given)))) (ap₂ same_path given_is to_is ∙ not_before from to onto.not_beneath)
          ∙ ap slot_directory_addresses (ap (slot_of_path ps) to_is ∙ to_slot) ∙ go g.struct rename.branch
        where
          go : (z : Struct) → z ≡ Branch rename.to → slot_directory_addresses (Some (record g { struct = z })) ≡ rename.to ∷ []
          go (Branch b) k = ap (λ y. y ∷ []) (same_Some b rename.to (ap struct_directory_address k))
          go (Inline bytes) k = absurd (cc)
          go (Ctz head size) k = absurd (cc)

      laid : (given to_given : List ℕ) → path_or_root given ≡ from → path_or_root to_given ≡ to → IsRenameOnto t.disk new.disk new.pairs a.b w.chain a.front a.mid a.back q0 p lo s ro l g r given to_given name
      laid given to_given given_is to_is = record {
        settled = ap pairs_gstate (sym were) ∙ can.ready.settled;
        still = d.gstate;
        walk = renamed_addresses from to;
        follows = subst (λ y. IsChangedImage t.disk ps new.disk new.pairs (tree_renaming y (path_or_root to_given)) (renamed_addresses from to)) (sym given_is)
            (subst (λ y. IsChangedImage t.disk ps new.disk new.pairs (tree_renaming from y) (renamed_addresses from to)) (sym to_is)
            (subst (λ z. IsChangedImage t.disk z new.disk new.pairs (tree_renaming from to) (renamed_addresses from to)) were (taken_end replacing_across new d).follows));
        still_writable = (taken_end replacing_across new d).writable;
        held = can.stands.stands.held;
        was = tb.stands.held;
        from_slot = ap (slot_of_path ps) given_is ∙ subst (λ z. slot_of_path z from ≡ Some s) a.old_is first_step.from_slot;
        to_slot = ap (slot_of_path ps) to_is ∙ to_slot;
        to_name = ap last_name to_is ∙ last_is onto.path name;
        stood = subst (λ k. Stood t.disk (IsUnreachedOrRemoved ps (ops.Rename given to_given)) k None (w.chain ++ two a.b a.front (pair_with_slots (lo ++ ro) q0 ∷ []) a.mid (pair_with_slots (l ++ v ∷ r) p ∷ []) a.back) new.pairs) (sym two_chain)
            (subst (λ z. Stood t.disk (IsUnreachedOrRemoved ps (ops.Rename given to_given)) (length w.chain) None (w.chain ++ z) new.pairs) (cut.drafts ∙ drafts a.b)
            (subst (λ ds. Stood t.disk (λ y. (IsReachedDirectory ps y → ⊥) ⊎ Any (λ at. same_pair y at ≡ true) ds) (length w.chain) None (w.chain ++ drafts_of (map segment_of cut.all)) new.pairs) (sym (removes given to_given given_is to_is)) stood));
      }

      pub renamed_onto : IsRenamedBetweenPairs t new can.path can.name onto.path name []
      renamed_onto = record {
        now = shows_dropped replacing_across new d;
        once = λ b. let k = once_from_distinct (used_blocks new.disk new.pairs) (shows_dropped replacing_across new d).ready.accepted.owned_once b in omega (arith, k);
        completed = λ z given to_given tree given_is to_is. subst (λ y. CompletesOperation t.disk y z (ops.Rename given to_given) new.disk new.pairs) (sym were)
            (onto_completed t.disk new.disk new.pairs a.b w.chain a.front a.mid a.back q0 p lo s ro l g r given to_given name (laid given to_given given_is to_is) z (tree ∙ ap (disk_tree t.disk) were));
      }

    pub can_drop_onto : CanDropAt m n zero_gstate
    can_drop_onto = can_drop_last replacing_across

    pub left_across : (left : Blocks) → LeftByDrop m (n - 1) zero_gstate left → IsLeftOf (with_blocks left t.disk) (disk_tree t.disk t.pairs) (tree_with_entry_moved t can.path can.name onto.path name)
    left_across left h = left_last replacing_across left h

  pub not_nowhere : AllByRecursion (λ z. same_pair z.at o.at ≡ false) m.pairs → ⊥
  not_nowhere none = go m.pairs none (last_kept first_step is.mid x m e o not_new rename.empty rename.alone (among_there t.pairs gone o o_there))
    where
      go : (xs : List Pair) → AllByRecursion (λ z. same_pair z.at o.at ≡ false) xs → HoldsForSome (λ y. y ≡ o) xs → ⊥
      go [] h k = k
      go (y ∷ ys) h (inl k) = absurd (let z = sym h.0 ∙ ap (λ (z : Pair). same_pair z.at o.at) k ∙ pair_itself o.at in cc)
      go (y ∷ ys) h (inr k) = go ys h.1 k
