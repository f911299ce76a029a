-- A rename over an empty directory within a pair: the index of the directory's pair, and the result of the two steps.
use Rattle.lfs_operations.proofs.Common.{ℕ, ◌≡◌, ◌-◌, slice_get, [], ◌∷◌, ◌++◌, length, Some, None, refl, sym, ap, subst, ◌∙◌, arith, append-nil, length-append, recursion_from_All, tree_renaming, without_prefix, AreUsed, Blocks, Name, HasEitherTree as IsLeftOf, with_blocks, slot_of_path, pair_with_slots, Slot, gstate_xor, zero_gstate, Pair, pairs_gstate, root_address, count_before_root, Path, address_at_path, IsAccepted, IsWritable, all_unmoved_slots, all_directories, all_entries, disk_tree, used_blocks, SameSlots, fits_same, IsChangedImage, SameFiles, SameFileBlocks, CompletesOperation, no_move_from, occurrence_count, IsStep, entry_only, get_here, place_at, shown_before, shown_behind, site_shows, last_is, renamed_addresses, sibling_apart, IsReplaced, step_chain, slot_of_stands, Site, dirs_at, thread_at, file_blocks, IsWritableChange, IsChain, KeptThread, IsPairCommitted, thread_pair, sync_bit_delta, HasNoMove, some_filled, All, step_each, IsPairDropped, LeftByDrop, HasSameBlocksInFlight, CanEditIn, tree_with_entry_renamed, CanRenameOverDirectory, CanReplaceDirectory, IsRenamedOverDirectory, replace_directory_changes, HasName}
use Rattle.lfs_model.specs.session.Operations as ops
use Rattle.lfs_model.proofs.RenamedWithinOnto.{IsRenameWithinOnto, within_onto_completed}
use Rattle.lfs_operations.proofs.OntoGone.{replaced_by, replaced_drops}
use Rattle.lfs_model.proofs.UsedCounts.{turned_count, used_same}
use Rattle.lfs_operations.proofs.RenameOver.{HasOver, has_over, over_changed, over_fits, turning, renamed_over}
use Rattle.lfs_operations.proofs.MovTurned.{ChangedOne}
use Rattle.lfs_operations.proofs.TurnedSync.{pair_turned, state_turned, step_turned}
use Rattle.lfs_operations.proofs.RenamePlaced.{blocks_now, with_name}
use Rattle.lfs_model.proofs.EmptyDirectories.{HasFront, HasPlaceOver, place_over}
use Rattle.lfs_operations.proofs.OwnPair.{HasOwnPair, led_to, own_pair}
use Rattle.lfs_operations.proofs.LastDrop.{IsAllButDropped, alike_end, left_last, shows_dropped, taken_end}
use Rattle.lfs_operations.proofs.PairAt.{HasPairAt}
use Rattle.lfs_operations.proofs.RenameReplaced.{target_held}
use Rattle.lfs_operations.proofs.RenameMade.{site_of, stand_of}

-- ---- the two steps

module _ (t : KeptThread) (index id place : ℕ) (name : Name) (gone : ℕ) (rename : CanRenameOverDirectory t index id place name gone) (m : KeptThread) (r : IsPairCommitted t index (replace_directory_changes t index id place name) m) where
  abbrev over : CanReplaceDirectory t index id place name
  over = rename.over

  abbrev can : CanEditIn t index id
  can = over.can

  abbrev p : Pair
  p = can.stands.pair

  abbrev onto : HasName over.target.pair.content.slots name place
  onto = over.target.stands

  abbrev o : Pair
  o = thread_pair t gone

  abbrev w : Site
  w = site_of can

  stand : HasPairAt t index can.path can.at w p
  stand = stand_of can

  abbrev from : Path
  from = can.path ++ can.name ∷ []

  abbrev to : Path
  to = can.path ++ name ∷ []

  apart : without_prefix (can.path ++ can.name ∷ []) (can.path ++ name ∷ []) ≡ None
  apart = sibling_apart can.path can.name name over.differs

  -- ---- the pair that is dropped

  held : p.content.slots ≡ onto.left ++ onto.slot ∷ onto.right
  held = target_held t index id place name can over.target over.differs over.fits

  entry_there : slice_get (all_entries (thread_at w (p ∷ [])) can.at) (place_at w onto.left) ≡ Some onto.slot
  entry_there = ap (λ s. slice_get s (place_at w onto.left)) (site_shows t.disk w p onto.left (onto.slot ∷ []) onto.right can.at stand.accepted stand.site (no_move_from (thread_at w (p ∷ [])) stand.settled) stand.begin held
      ∙ ap (λ s. shown_before w onto.left ++ (s ++ shown_behind w onto.right)) (entry_only onto.slot over.target.stands.entry)) ∙ get_here (shown_before w onto.left) (shown_behind w onto.right) onto.slot

  own : HasOwnPair t w.chain (dirs_at w (p ∷ [])) gone over.to
  own = own_pair t can.ready w.chain (dirs_at w (p ∷ [])) stand.there stand.site.chain can.path name over.to gone
      (led_to t can.ready can.path can.at can.leads can.first index place name over.target can.begins over.to over.branch) rename.below rename.at rename.empty rename.alone

  abbrev front : HasFront (dirs_at w (p ∷ [])) over.to
  front = own.front

  not_itself : p ≡ o → ⊥
  not_itself e = some_filled onto.left onto.right onto.slot (sym held ∙ ap (λ (z : Pair). z.content.slots) e ∙ rename.empty)

  -- ---- the first step

  abbrev h : HasOver t index id place name over
  h = has_over t index id place name over

  abbrev q : Pair
  q = pair_turned (turning t index id place name over h)

  abbrev x : ChangedOne t index w p (h.x ++ with_name can.stands.stands.slot name ∷ h.y) (gstate_xor p.content.move sync_bit_delta) m
  x = over_changed t index id place name over h m r

  stepped : IsStep t.disk m.disk w p [] q [] [] [] h.l h.olds h.news h.r
  stepped = step_turned (turning t index id place name over h) m.disk x.turned

  taken_now : IsWritableChange t.disk t.pairs m.disk m.pairs (tree_renaming (can.path ++ can.name ∷ []) (can.path ++ name ∷ [])) (renamed_addresses (can.path ++ can.name ∷ []) (can.path ++ name ∷ []))
  taken_now = (renamed_over t index id place name over m r).taken

  placed : HasPlaceOver w p q o over.to (length front.front)
  placed = place_over w p q o over.to rename.at stand.accepted.thread.distinct refl front.front front.before (front.run ++ front.after) own.dirs_are front.soft not_itself

  used_now : (b : ℕ) → occurrence_count b (used_blocks m.disk m.pairs) ≡ occurrence_count b (used_blocks t.disk t.pairs)
  used_now b =
      let files : SameFiles t.disk m.disk (all_unmoved_slots t.pairs) = subst (λ z. SameFiles t.disk m.disk (all_unmoved_slots z)) (sym stand.there)
      (recursion_from_All (λ (x : Slot). SameFileBlocks t.disk m.disk x.struct) (all_unmoved_slots (thread_at w (p ∷ []))) stepped.device.files) in
      let e = turned_count t.disk m.disk w p q [] h.l h.olds h.news h.r (file_blocks t.disk (onto.slot ∷ [])) [] (record {
        none = stepped.no_move;
        still = stepped.still_none;
        device = stepped.device;
        at = refl;
        was = h.placed.was;
        is = stepped.is;
      }) (λ b. let n = blocks_now t index (replace_directory_changes t index id place name) w p h.l h.olds h.news h.r (onto.slot ∷ []) can.stands.stands.slot (with_name can.stands.stands.slot name) h.placed m.disk stepped.device.geometry files b in omega arith) b in
      let f = ap (λ z. occurrence_count b (used_blocks m.disk z)) x.pairs in
      let g = ap (λ z. occurrence_count b (used_blocks t.disk z)) stand.there in
      let none : occurrence_count b (file_blocks t.disk (onto.slot ∷ [])) ≡ 0 = ap (λ z. occurrence_count b (file_blocks t.disk (record onto.slot { struct = z } ∷ []))) over.branch in
      omega arith

  thread_now : m.pairs ≡ w.chain ++ (placed.front ++ placed.x ∷ o ∷ placed.back)
  thread_now = x.pairs ∙ ap (λ z. w.chain ++ z) placed.there

  chain_now : IsChain w.chain (placed.front ++ placed.x ∷ o ∷ placed.back)
  chain_now = subst (IsChain w.chain) placed.there (step_chain t.disk m.disk w p [] q [] [] [] h.l h.olds h.news h.r stepped)

  no_move_now : HasNoMove (pairs_gstate m.pairs)
  no_move_now = subst HasNoMove (sym (ap pairs_gstate x.pairs ∙ state_turned (turning t index id place name over h))) (record { kind = refl; id = refl; pair = refl })

  pub replacing : IsAllButDropped t m o gone (tree_renaming (can.path ++ can.name ∷ []) (can.path ++ name ∷ [])) (renamed_addresses (can.path ++ can.name ∷ []) (can.path ++ name ∷ []))
  replacing = record {
    ready = can.ready;
    taken = taken_now;
    no_move = no_move_now;
    chain = w.chain;
    front = placed.front;
    x = placed.x;
    back = placed.back;
    there = thread_now;
    is_chain = chain_now;
    number = (let a = length-append w.chain placed.front in let b = length-append w.chain front.front in let n = placed.number in let f = own.number in omega arith);
    soft = placed.soft;
    drops = replaced_drops t m from to over.to w.chain placed.front placed.x o placed.back can.ready taken_now no_move_now thread_now chain_now
        (subst (λ z. IsReplaced (address_at_path (all_entries z) (root_address z)) from to over.to) (sym stand.there)
        (subst (λ (n : Name). IsReplaced (address_at_path (all_entries (thread_at w (p ∷ []))) (root_address (thread_at w (p ∷ [])))) from (can.path ++ n ∷ []) over.to) over.target.stands.named
        (replaced_by t.disk (thread_at w (p ∷ [])) can.path can.at (place_at w onto.left) onto.slot over.to from stand.accepted stand.leads entry_there over.branch own.empty
        (ap (λ (n : Name). without_prefix from (can.path ++ n ∷ [])) over.target.stands.named ∙ apart))))
        (λ Q k. subst (λ z. All (λ y. Q y.at) (all_directories z)) (sym x.pairs)
        (step_each t.disk m.disk w p [] q [] [] [] h.l h.olds h.news h.r stepped can.path can.at stand.leads stand.begin Q (subst (λ z. All (λ y. Q y.at) (all_directories z)) stand.there k)))
        rename.at rename.alone;
    empty = rename.empty;
    used = subst (λ s. AreUsed s (used_blocks m.disk m.pairs)) (sym r.map) (used_same t.map (used_blocks t.disk t.pairs) (used_blocks m.disk m.pairs) used_now can.ready.used);
    size = ap length r.map ∙ can.ready.size ∙ sym r.written.shape.count;
    flying = subst (HasSameBlocksInFlight t.map) (sym r.map) (λ b. ((λ k. k), (λ k. k)));
    root = ap count_before_root x.pairs ∙ step_chain t.disk m.disk w p [] q [] [] [] h.l h.olds h.news h.r stepped ∙ sym (ap count_before_root stand.there ∙ stand.site.chain);
    shape = r.written.shape;
  }

  -- ---- both

  module _ (new : KeptThread) (g : IsPairDropped m (gone - 1) zero_gstate new) where
    ended : IsWritableChange t.disk t.pairs new.disk new.pairs (tree_renaming (can.path ++ can.name ∷ []) (can.path ++ name ∷ [])) (renamed_addresses (can.path ++ can.name ∷ []) (can.path ++ name ∷ []))
    ended = taken_end replacing new g

    laid : IsRenameWithinOnto t.disk new.disk new.pairs placed.b w.chain placed.one placed.mid placed.other p o q [] can.stands.stands.left can.stands.stands.slot can.stands.stands.right h.x onto.slot h.y over.to
        (can.path ++ can.name ∷ []) (can.path ++ name ∷ []) name
    unfolding replacing
    laid = record {
      is_chain = ap count_before_root (sym placed.were) ∙ stand.site.chain;
      accepted = subst (IsAccepted t.disk) placed.were stand.accepted;
      writable = subst (IsWritable t.disk) placed.were stand.writable;
      settled = ap pairs_gstate (sym placed.were) ∙ stand.settled;
      still = g.gstate;
      walk = renamed_addresses from to;
      follows = subst (λ z. IsChangedImage t.disk z new.disk new.pairs (tree_renaming from to) (renamed_addresses from to)) (stand.there ∙ placed.were) ended.follows;
      still_writable = ended.writable;
      held = can.stands.stands.held;
      left_over = h.over.0;
      at = refl;
      is = append-nil q.content.slots;
      became = (refl, fits_same t.disk q (pair_with_slots (h.x ++ record can.stands.stands.slot { name = name } ∷ h.y) p) refl (over_fits t index id place name over h.x h.y h.over));
      branch = over.branch;
      alike_address = rename.at;
      soft = rename.alone;
      begins = placed.begins;
      apart = placed.apart;
      alike = subst (λ z. SameSlots (w.chain ++ z) new.pairs) (sym placed.are) (alike_end replacing new g);
      from_slot = subst (λ z. slot_of_path z from ≡ Some can.stands.stands.slot) (stand.there ∙ placed.were)
          (slot_of_stands t.disk t.pairs can.path can.at can.ready.accepted can.leads can.first index id can.name (no_move_from t.pairs can.ready.settled) can.stands can.begins);
      to_slot = subst (λ z. slot_of_path z to ≡ Some onto.slot) (stand.there ∙ placed.were)
          (slot_of_stands t.disk t.pairs can.path can.at can.ready.accepted can.leads can.first index place name (no_move_from t.pairs can.ready.settled) over.target can.begins);
      to_name = last_is can.path name;
      not_beneath = apart;
    }

    pub renamed_onto_directory : IsRenamedOverDirectory t new rename.over.can.path rename.over.can.name name
    renamed_onto_directory = record {
      now = shows_dropped replacing new g;
      completed = λ s given to_given tree given_is to_is. subst (λ z. CompletesOperation t.disk z s (ops.Rename given to_given) new.disk new.pairs) (sym (stand.there ∙ placed.were))
          (within_onto_completed t.disk new.disk new.pairs placed.b w.chain placed.one placed.mid placed.other p o q [] can.stands.stands.left can.stands.stands.slot can.stands.stands.right h.x onto.slot h.y over.to from to name laid s given to_given
          (tree ∙ ap (disk_tree t.disk) (stand.there ∙ placed.were)) given_is to_is);
    }

  pub left_within : (left : Blocks) → LeftByDrop m (gone - 1) zero_gstate left → IsLeftOf (with_blocks left t.disk) (disk_tree t.disk t.pairs) (tree_with_entry_renamed t rename.over.can.path rename.over.can.name name)
  left_within left g = left_last replacing left g
