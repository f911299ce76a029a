-- An entry that moves to another pair, by a move that is set first.
use Rattle.lfs_operations.proofs.Common.{◌≢◌, nat_eq, Bool, ℕ, ◌≡◌, ◌+◌, ◌<◌, ◌⊎◌, inl, inr, true, false, List, [], ◌∷◌, ◌++◌, length, Some, refl, sym, ap, subst, ◌∙◌, arith, append-nil, Option, ◌-◌, ◌≤◌, IsDistinct, ContentChange, Disk, IsPairAt, Name, is_valid_name, Slot, gstate_xor, Pair, pairs_blocks, begins_with_superblock, count_before_root, Path, tree_renaming, IsWritableEntry, slot_of_path, IsChangedImage, no_move_from, last_is, slot_of_stands, Site, thread_at, last_tail_is_hard, KeptThread, BeginWithSuperblock, complete_after, thread_pair, IsNoDirectory, target_slots, CanEditIn, gstate_with_move, IsLogContentDecodable, drops_pair_after_removal, CanCommitOrSplit, AreCommittedOrSplit, move_start_changes, CanEndMoveAt, HasEndedMoveAt, CanEndMoveAfterCopy, IsMoveCopiedAndEnded, pair_index_after_insertion, tree_with_entry_moved, disk_tree, HasTreeAfterDrops, file_blocks, used_blocks, occurrence_count, Session, path_or_root, CompletesOperation, is_some, ap₂, subst₂, xor_lt, length-append, PutMove, FitsInPair, Gstate, MoveStateFits, AreU32Addresses, removal_changes, HasName, Route}
use Rattle.lfs_operations.proofs.Held.{here}
use Rattle.lfs_model.proofs.SetMoves.{HasTurned, IsSetting, chain_same, walk_by}
use Rattle.lfs_operations.proofs.MovStep.{IsFirst, first_turned, grown, mid_ends, mid_shows, rename_becomes, rename_completed, rename_once, same_at}
use Rattle.lfs_model.specs.session.Operations as ops
use Rattle.lfs_operations.proofs.MovTurned.{content_with}
use Rattle.lfs_operations.proofs.Removed.{alone, flag_ends, stays_there}
use Rattle.lfs_operations.proofs.RemovedWhole.{flag_whole, stands_whole}
use Rattle.lfs_operations.proofs.PairAt.{HasPairAt}
use Rattle.lfs_operations.proofs.RenameMade.{IsLoggedPair, Leaves, c, can_put, delta_fits, fits_left, fits_whole, entry_at, logged_of, site_of, stand_of, leaves_target, leaves_turned, made, pair_here, source, within}
use Rattle.lfs_operations.proofs.TurnedSync.{first_kept}

-- The entry may have the name at the place in the pair p at the site w, where the target stands, if there is one.
pub record IsPlaceInOtherPair (t : KeptThread) (route : Route) (can : CanEditIn t route.old_pair route.old_id) (path : Path) (at : ℕ × ℕ) (w : Site) (p : Pair) (l : List Slot) (target : Option Slot) (r : List Slot) (name : Name) : Type 0 where
  pub logged : IsLoggedPair t route.new_pair p
  pub stand : HasPairAt t route.new_pair path at w p
  pub number : length l ≡ route.new_id
  pub apart : route.old_pair ≢ route.new_pair
  pub was : p.content.slots ≡ l ++ (target_slots target ++ r)
  pub front : l ≡ [] → begins_with_superblock (target_slots target ++ r) ≡ false
  pub named : is_valid_name name ≡ true
  pub fits : IsWritableEntry t.disk.profile t.disk.block_size t.disk.page (record can.stands.stands.slot { name = name })

-- The entry may come into the pair p at the site w, between l and r, where the target stands, if there is one.
pub record IsAimed (replaces sync : Bool) (t : KeptThread) (route : Route) (name : Name) (old : CanEditIn t route.old_pair route.old_id) (path : Path) (w : Site) (p : Pair) (l : List Slot) (target : Option Slot) (r : List Slot) : Type 0 where
  pub apart : route.old_pair ≢ route.new_pair
  pub can : CanCommitOrSplit t route.new_pair (move_start_changes replaces sync t route name)
  pub way : IsFirst t sync route.old_pair (drops_pair_after_removal t route.old_pair route.first) route.new_pair (move_start_changes replaces sync t route name) (site_of old)
      old.stands.pair old.stands.stands.left old.stands.stands.slot old.stands.stands.right w p l target (record old.stands.stands.slot { name = name }) r (old.path ++ old.name ∷ []) (path ++ name ∷ []) name

module _ {t : KeptThread} {replaces sync : Bool} {route : Route} {name : Name} {old : CanEditIn t route.old_pair route.old_id} {path : Path} {w : Site} {p : Pair} {l : List Slot} {target : Option Slot} {r : List Slot}
    (a : IsAimed replaces sync t route name old path w p l target r) where
  pub ends_aimed : (mid : KeptThread) → AreCommittedOrSplit t route.new_pair (move_start_changes replaces sync t route name) mid → CanEndMoveAfterCopy t route.old_pair route.old_id (drops_pair_after_removal t route.old_pair route.first) route.new_pair mid
  ends_aimed mid is =
      let x = first_turned a.way mid is in
      record {
        apart = a.apart;
        grown = grown a.way mid x;
        can = subst (λ i. CanEndMoveAt mid (pair_index_after_insertion route.old_pair route.new_pair (length mid.pairs - length t.pairs)) i (drops_pair_after_removal t route.old_pair route.first)) old.stands.stands.number (mid_ends a.way mid x);
        at = same_at a.way mid x;
      }

  pub shows_aimed : (mid : KeptThread) → AreCommittedOrSplit t route.new_pair (move_start_changes replaces sync t route name) mid → disk_tree mid.disk mid.pairs ≡ tree_with_entry_moved t old.path old.name path name
  shows_aimed mid is = mid_shows a.way mid (first_turned a.way mid is)

  module _ {new : KeptThread} (is : IsMoveCopiedAndEnded t route.old_pair route.old_id (drops_pair_after_removal t route.old_pair route.first) route.new_pair (move_start_changes replaces sync t route name) new) where
    pub ended_aimed : HasEndedMoveAt is.mid (pair_index_after_insertion route.old_pair route.new_pair (length is.mid.pairs - length t.pairs)) (length old.stands.stands.left) (drops_pair_after_removal t route.old_pair route.first) new
    ended_aimed = subst (λ i. HasEndedMoveAt is.mid (pair_index_after_insertion route.old_pair route.new_pair (length is.mid.pairs - length t.pairs)) i (drops_pair_after_removal t route.old_pair route.first) new) (sym old.stands.stands.number) is.ended

    pub shows_moved : sync ≡ false → HasTreeAfterDrops t new (tree_with_entry_moved t old.path old.name path name) (file_blocks t.disk (target_slots target))
    shows_moved plain = rename_becomes a.way is.mid (first_turned a.way is.mid is.put) new ended_aimed plain

    pub once_moved : (b : ℕ) → occurrence_count b (used_blocks new.disk new.pairs) + occurrence_count b (file_blocks t.disk (target_slots target)) ≤ 1
    once_moved = rename_once a.way is.mid (first_turned a.way is.mid is.put) new ended_aimed

    pub completed_moved : sync ≡ false → (z : Session) (given to_given : List ℕ) → z.tree ≡ disk_tree t.disk t.pairs → path_or_root given ≡ old.path ++ old.name ∷ [] → path_or_root to_given ≡ path ++ name ∷ []
        → CompletesOperation t.disk t.pairs z (ops.Rename given to_given) new.disk new.pairs
    completed_moved plain = rename_completed a.way is.mid (first_turned a.way is.mid is.put) new ended_aimed plain

module _ {t : KeptThread} {route : Route} {can : CanEditIn t route.old_pair route.old_id} (begins_old : can.first ≡ route.first)
    {path : Path} {to_at : ℕ × ℕ} {w : Site} {p : Pair} {l : List Slot} {target : Option Slot} {r : List Slot} {name : Name} (k : IsPlaceInOtherPair t route can path to_at w p l target r name) where
  abbrev goes : Bool
  goes = drops_pair_after_removal t route.old_pair route.first

  abbrev q : Pair
  q = can.stands.pair

  abbrev h : HasName can.stands.pair.content.slots can.name route.old_id
  h = can.stands.stands

  abbrev v : Slot
  v = record h.slot { name = name }

  abbrev wo : Site
  wo = site_of can

  stand_old : HasPairAt t route.old_pair can.path can.at wo q
  stand_old = stand_of can

  pub setting : IsSetting t.disk wo q h.left h.slot h.right w p l (target_slots target) v r
  setting = record {
    accepted = k.stand.accepted;
    writable = k.stand.writable;
    settled = k.stand.settled;
    site = k.stand.site;
    there = sym stand_old.there ∙ k.stand.there;
    old_site = stand_old.site;
    held = h.held;
    other = h.entry;
    apart = λ e.
        let chains = sym stand_old.site.chain ∙ ap count_before_root (sym stand_old.there ∙ k.stand.there) ∙ k.stand.site.chain in
        let m = stand_old.number in
        let n = k.stand.number in
        k.apart (omega arith);
    was = k.was;
    front = k.front;
    entry = record { name = k.named; struct = (entry_at can.ready can.stands).struct };
    struct = refl;
    fit = ((λ e. absurd (let z = sym h.entry ∙ e in cc)), (λ e. k.fits));
  }

  led_first : route.old_pair ≡ can.first → last_tail_is_hard false (wo.before ++ wo.left) ≡ false
  led_first e =
      let none_before = alone wo.chain wo.before wo.left (wo.right ++ wo.after) q can.at can.first (subst (λ z. IsDistinct nat_eq (pairs_blocks z)) stand_old.there can.ready.accepted.thread.distinct) stand_old.begin
      (subst (λ z. IsPairAt z can.at can.first) stand_old.there can.begins) (sym e ∙ stand_old.number) in
      ap (λ z. last_tail_is_hard false (wo.before ++ z)) none_before ∙ ap (last_tail_is_hard false) (append-nil wo.before) ∙ flag_ends wo.before setting.old_site.ends

  stays : goes ≡ false → last_tail_is_hard false (wo.before ++ wo.left) ≡ true → 1 < length q.content.slots
  stays remains hard = go (stays_there t route.old_pair route.old_id route.first can begins_old remains)
    where
      go : (route.old_pair ≡ can.first) ⊎ (1 < length (thread_pair t route.old_pair).content.slots) → 1 < length q.content.slots
      go (inl e) = absurd (let z = sym hard ∙ led_first e in cc)
      go (inr many) = subst (λ (z : Pair). 1 < length z.content.slots) (here t can.ready can.first route.old_pair q can.stands.rest can.stands.place) many

  goes_alone : goes ≡ true → (last_tail_is_hard false (wo.before ++ wo.left) ≡ true) × (length q.content.slots ≡ 1)
  goes_alone whole =
      let k = stands_whole t route.old_pair route.old_id route.first can begins_old whole in
      (flag_whole t route.old_pair route.old_id route.first can begins_old whole, ap length k.held)

  -- ---- what the changes make of the other pair

  module _ (sync : Bool) (address : AreU32Addresses (thread_pair t route.old_pair).at) where
    abbrev move : Gstate
    move = gstate_xor (gstate_with_move sync (thread_pair t route.old_pair).at route.old_id) (thread_pair t route.new_pair).content.move

    abbrev delta : Gstate
    delta = gstate_xor (gstate_with_move sync q.at (length h.left)) p.content.move

    abbrev changes : List ContentChange
    changes = move_start_changes (is_some target) sync t route name

    move_is : move ≡ delta
    move_is = ap₂ (λ (x : Pair) (i : ℕ). gstate_xor (gstate_with_move sync x.at i) (thread_pair t route.new_pair).content.move) (pair_here (logged_of can)) (sym h.number)
        ∙ ap (λ (x : Pair). gstate_xor (gstate_with_move sync q.at (length h.left)) x.content.move) (pair_here k.logged)

    is_state : MoveStateFits move
    is_state =
        let g = delta_fits k.logged in
        let few = (fits_whole (logged_of can)).count in
        let m = within (logged_of can) can.stands.stands in
        record {
          kind = xor_lt 11 0x4ff (thread_pair t route.new_pair).content.move.kind (omega arith) g.kind;
          id = xor_lt 10 route.old_id (thread_pair t route.new_pair).content.move.id (omega arith) g.id;
          pair = (xor_lt 32 (thread_pair t route.old_pair).at.0 (thread_pair t route.new_pair).content.move.pair.0 address.0 g.pair.0, xor_lt 32 (thread_pair t route.old_pair).at.1 (thread_pair t route.new_pair).content.move.pair.1 address.1 g.pair.1);
        }

    left : Leaves (c k.logged).raw (PutMove move ∷ removal_changes (is_some target) route.new_id) (l ++ r) delta
    left =
        let few = (fits_whole k.logged).count in
        let h = ap length k.was in
        let m = length-append l (target_slots target ++ r) in
        let n = k.number in
        leaves_target l target r (subst₂ (Leaves (c k.logged).raw (PutMove move ∷ [])) k.was move_is (leaves_turned k.logged move is_state)) route.new_id (omega arith) k.number

    fits_rest : FitsInPair t.disk.block_size t.disk.page (record p.content { slots = l ++ r })
    fits_rest = fits_left t.disk.block_size t.disk.page p.content l target r k.was (fits_whole k.logged)

    can_put_moved : CanCommitOrSplit t route.new_pair changes
    can_put_moved = can_put k.logged (source (logged_of can) can.stands.stands) l r left fits_rest route.new_id k.number name k.named k.fits

    made_moved : complete_after t route.new_pair changes ≡ Some (content_with p (l ++ v ∷ r) delta)
    made_moved = made k.logged (source (logged_of can) can.stands.stands) l r left fits_rest route.new_id k.number name k.named k.fits

    pub aimed : ((disk : Disk) (x : Pair) (more : List Pair) → HasTurned t.disk w p (l ++ record h.slot { name = name } ∷ r) (gstate_xor (gstate_with_move sync can.stands.pair.at (length h.left)) p.content.move) disk x more
        → IsChangedImage t.disk (thread_at w (p ∷ [])) disk (thread_at w (x ∷ more)) (tree_renaming (can.path ++ can.name ∷ []) (path ++ name ∷ [])) (walk_by (can.path ++ can.name ∷ []) (path ++ name ∷ [])))
        → slot_of_path t.pairs (path ++ name ∷ []) ≡ target → (sync ≡ false → IsNoDirectory target)
        → IsAimed (is_some target) sync t route name can path w p l target r
    aimed follows to_slot file = record {
      apart = k.apart;
      can = can_put_moved;
      way = record {
        ready = can.ready;
        turn = record {
          accepted = can.ready.accepted;
          there = k.stand.there;
          place = k.stand.number;
          site = k.stand.site;
          made = made_moved;
          first = λ h. first_kept l (target_slots target) (v ∷ []) r k.front (subst BeginWithSuperblock k.was (h.kind, h.name));
        };
        setting = setting;
        chain = chain_same t.disk wo q h.left h.slot h.right w p l (target_slots target) v r setting;
        old_place = stand_old.number;
        old_is = ap (λ (z : Pair). z.at) (pair_here (logged_of can));
        logged = subst (λ (z : Pair). IsLogContentDecodable t.disk z.at) (pair_here (logged_of can)) can.logged;
        same_slot = refl;
        follows = follows;
        stays = stays;
        alone = goes_alone;
        from_slot = subst (λ z. slot_of_path z (can.path ++ can.name ∷ []) ≡ Some h.slot) k.stand.there
            (slot_of_stands t.disk t.pairs can.path can.at can.ready.accepted can.leads can.first route.old_pair route.old_id can.name (no_move_from t.pairs can.ready.settled) can.stands can.begins);
        to_slot = subst (λ z. slot_of_path z (path ++ name ∷ []) ≡ target) k.stand.there to_slot;
        to_name = last_is path name;
        file = file;
      };
    }
