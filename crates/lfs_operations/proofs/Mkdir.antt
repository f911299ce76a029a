-- The making of a directory, as two steps of the thread.
use Rattle.lfs_operations.proofs.Common.{ℕ, ◌≡◌, ◌+◌, ◌<◌, ◌≤◌, ◌^◌, ◌⊎◌, inl, inr, true, List, [], ◌∷◌, ◌++◌, length, Some, refl, sym, ap, ap₂, subst, ◌∙◌, arith, length-append, insert, slice_get, recursion_from_All, tree_creating, Blocks, SameExceptBlocks, IsFree, IsInFlight, Free, content_at, Disk, block_count, half_pair_capacity, IsInsertionPosition, AreU32Addresses, Name, HasEitherTree as IsLeftOf, with_blocks, FitsInPair, Gstate, Slot, zero_gstate, gstate_xor, same_pair, directory_slot, pair_with_slots, Pair, pairs_blocks, pairs_gstate, is_hard_tail, tail_target, count_before_root, address_blocks, addresses_blocks, DirectoryNode, IsWritableEntry, IsWritable, IsAccepted, IsDirectoryAtPath, all_entries, disk_tree, Became, last_site, chain_now, InTwo, mkdir_in_two, CompletesOperation, no_move_from, recovered_from, HasNoMove, gstate_cons, gstate_self, sync_bit_delta, with_sync_inverted, turned_is, entry_small, place_at, insert_here, IsPlace, step_writable, site, place_of_belongs, HoldsForSome, Site, among_left, among_right, begin_of, dirs_at, thread_at, IsSite, IsChain, KeptThread, IsThreadedIn, LossLeavesThreaded, ChangesThreadBlocks, thread_pair, complete_after, All, Contains, AreByteBlocks, reserved_entry_size, IsPairChangedOrDropped, AreTwoFreeBlocks, CanCommitOrSplit, HasTwoFreeBlocks, LeftByCommitOrSplit, AreCommittedOrSplit, map_allocating_two, AreBothChangedOrDropped, CanMakeDirectoryAt, HasFreeBlocks, IsDirectoryEnd, IsDirectoryMade, directory_entry_changes, threading_changes, tree_with_directory, SameGeometryAs, CallEvent, CanLinkPairAfter, CleanLossLeaves, SurvivesLossSince, PutMove, address_bytes, directory_name_type, directory_struct_type, AreUsed, BeginWithSuperblock, ContentChange, IsStep, append-nil, became_front, became_shape, count_append, gstate_right, occurrence_count, site_gstate_moved, some_filled, begins_with_superblock, used_blocks}
use Rattle.lfs_model.specs.declared.limits.Profile.{Profile}
use Rattle.lfs_model.specs.session.Operations as ops
use Rattle.lfs_model.proofs.Beside.{change}
use Rattle.lfs_model.proofs.StepsTaken as taken
use Rattle.lfs_operations.proofs.Altered.{put_alters}
use Rattle.lfs_operations.proofs.AlteredTails.{other_tail}
use Rattle.lfs_operations.proofs.MakingCounts.{freed, less_room, no_room, used_count_now}
use Rattle.lfs_operations.proofs.MakingContents.{logged_there, threaded_made, IsNewEntry, can_put_entry, directory_entry, entry_made}
use Rattle.lfs_operations.proofs.Threads.{below, pair_is}
use Rattle.lfs_model.proofs.MkdirRoutes.{IsAhead, IsOne, IsRoute, route, run_right, site_behind, fresh_pair, naming_pair}
use Rattle.lfs_operations.proofs.MakingThreaded.{HasThreaded, entries_still, first_taken, fits_now, has_threaded, left_beside, left_threading, put_there, settled_there, state_now, sync_now}
use Rattle.lfs_operations.proofs.Owning.{none_comes_now, stay_taken}
use Rattle.lfs_model.proofs.Placing.{left_still}
use Rattle.lfs_operations.proofs.Putting.{held, with_map, survives_step}
use Rattle.lfs_model.proofs.RootStays.{root_stays}
use Rattle.lfs_operations.proofs.Taking.{within}
use Rattle.lfs_model.proofs.SlotParts.{name_length}
use Rattle.lfs_operations.proofs.PairAt.{HasPairAt, pair_at}
use Rattle.lfs_model.proofs.SetMoves.{HasTurned}
use Rattle.lfs_operations.proofs.MovTurned.{Stays, IsMapped, IsTurn, TurnedOn, TurnedTo, content_with, left_put, put_turned}
use Rattle.lfs_operations.proofs.AtSite.{each_from}
use Rattle.lfs_model.proofs.UsedCounts.{used_same}

-- what the pair at a site holds
holds_at : (t : KeptThread) (index : ℕ) (w : Site) (p : Pair) → t.pairs ≡ thread_at w (p ∷ []) → index ≡ length w.chain + length (w.before ++ w.left) → IsAccepted t.disk t.pairs
    → content_at t.disk (thread_pair t index).at ≡ Some p.content
holds_at t index w p there place ok =
    ap (λ (z : Pair). content_at t.disk z.at) (pair_is t index w p there place)
    ∙ (each_from (λ (x : Pair). content_at t.disk x.at ≡ Some x.content) w (p ∷ []) (recursion_from_All (λ (x : Pair). content_at t.disk x.at ≡ Some x.content) (thread_at w (p ∷ [])) (subst (λ z. All (λ (x : Pair). content_at t.disk x.at ≡ Some x.content) z) there ok.thread.contents))).0

-- The directory's last pair is known, where the entry's pair stands. Two blocks are free for the new one.
pub record IsMaking (t : KeptThread) (index id : ℕ) (name : Name) : Type 0 where
  pub can : CanMakeDirectoryAt t index id name
  pub last : ℕ
  pub is_last : IsDirectoryEnd t.pairs index last
  pub fresh : ℕ × ℕ
  pub two : AreTwoFreeBlocks t.map fresh
  pub bytes : AreByteBlocks t.disk.blocks
  pub many : block_count t.disk < 2 ^ 32

abbrev pub making : {t : KeptThread} {index id : ℕ} {name : Name} {last : ℕ} {fresh : ℕ × ℕ} → CanMakeDirectoryAt t index id name → IsDirectoryEnd t.pairs index last → AreTwoFreeBlocks t.map fresh → AreByteBlocks t.disk.blocks → block_count t.disk < 2 ^ 32
    → IsMaking t index id name
making {last = last} {fresh = fresh} can is_last two bytes many = record { can = can; last = last; is_last = is_last; fresh = fresh; two = two; bytes = bytes; many = many }

module _ {t : KeptThread} {index id : ℕ} {name : Name} (mk : IsMaking t index id name) where
  abbrev b : IsInsertionPosition t.disk.order t.pairs mk.can.first name index id
  b = mk.can.belongs

  abbrev p : Pair
  p = b.pair

  abbrev u : Slot
  u = directory_slot name mk.fresh

  abbrev w : Site
  w = site t.disk t.pairs mk.can.path mk.can.at mk.can.ready.accepted mk.can.leads mk.can.first index p (b.later ++ b.rest) b.place mk.can.begins

  stand : HasPairAt t index mk.can.path mk.can.at w p
  stand = pair_at t mk.can.ready mk.can.path mk.can.at mk.can.leads mk.can.first index p (b.later ++ b.rest) b.place mk.can.begins

  pub way : IsRoute t.disk t.pairs mk.last w p mk.fresh b.left b.right mk.can.path name
  way = route t.disk t.pairs index mk.last w p stand.there stand.number stand.site mk.is_last mk.fresh b.left b.right mk.can.path name

  abbrev x : Pair
  x = way.x

  abbrev y : Pair
  y = naming_pair x mk.fresh

  abbrev f : Pair
  f = fresh_pair x mk.fresh

  -- where the mk.last pair stands
  abbrev here : Site
  here = last_site w.chain w.before way.left w.after

  leads_here : IsDirectoryAtPath (thread_at here (x ∷ [])) mk.can.path mk.can.at
  leads_here = subst (λ z. IsDirectoryAtPath z mk.can.path mk.can.at) way.end.there mk.can.leads

  same_here : same_pair (begin_of here (x ∷ [])) mk.can.at ≡ true
  same_here = ap (λ z. same_pair z mk.can.at) way.began ∙ stand.begin

  -- ---- the mk.fresh pair is threaded

  address : AreU32Addresses mk.fresh
  address = let s = mk.can.ready.size in let g = within t.map mk.fresh.0 Free mk.two.first in let h = within t.map mk.fresh.1 Free mk.two.second in (omega arith, omega arith)

  made : complete_after t mk.last (threading_changes t mk.last mk.fresh) ≡ Some y.content
  made = threaded_made t mk.last x (pair_is t mk.last here x way.end.there way.end.place) (holds_at t mk.last here x way.end.there way.end.place mk.can.ready.accepted)
      (logged_there t.disk (thread_pair t mk.last).at mk.bytes) mk.fresh address mk.two.apart

  pub can_link : CanLinkPairAfter (with_map t (map_allocating_two t.map mk.fresh)) mk.last mk.fresh
  can_link = record {
    can = record { below = below t mk.last here x way.end.there way.end.place; content = y.content; made = made; next = refl; held = held t.map mk.fresh mk.two };
    fits = λ c m. fits_now t mk.can.ready mk.last w.chain w.before way.left w.after x way.end mk.fresh mk.two made c m;
  }

  pub threading_survives : {s : KeptThread} {new : List CallEvent} → s ≡ with_map t (map_allocating_two t.map mk.fresh) → CleanLossLeaves s.history new (LossLeavesThreaded s mk.last mk.fresh (threading_changes s mk.last mk.fresh))
      → SurvivesLossSince t.disk t.history new (disk_tree t.disk t.pairs) (tree_with_directory t mk.can.path name)
  threading_survives {new = new} taken stops = survives_step t.disk
      (λ left is. left_threading t mk.can.ready mk.last w.chain w.before way.left w.after x way.end mk.fresh mk.two made mk.can.path mk.can.at leads_here same_here left (tree_with_directory t mk.can.path name) is)
      (subst (λ (s : KeptThread). CleanLossLeaves s.history new (LossLeavesThreaded s mk.last mk.fresh (threading_changes s mk.last mk.fresh))) taken stops)

  -- if memory for the step couldn't be allocated
  pub left_unthreaded : {s new : KeptThread} → s ≡ with_map t (map_allocating_two t.map mk.fresh) → ChangesThreadBlocks (addresses_blocks (thread_pair s mk.last).at mk.fresh) s new → SameExceptBlocks (address_blocks mk.fresh) s.disk.blocks new.disk.blocks
      → IsLeftOf new.disk (disk_tree t.disk t.pairs) (tree_with_directory t mk.can.path name)
  left_unthreaded {s = s} {new = new} taken writes others = subst (λ (d : Disk). IsLeftOf d (disk_tree t.disk t.pairs) (tree_with_directory t mk.can.path name)) same_disk
      (left_beside t mk.can.ready mk.last w.chain w.before way.left w.after x way.end mk.fresh mk.two made new.disk.blocks (tree_with_directory t mk.can.path name)
      (subst (λ (s : KeptThread). SameExceptBlocks (address_blocks mk.fresh) s.disk.blocks new.disk.blocks) taken others))
    where
      shape : SameGeometryAs t.disk new.disk
      shape = subst (λ (s : KeptThread). SameGeometryAs s.disk new.disk) taken writes.shape

      same_disk : with_blocks new.disk.blocks t.disk ≡ new.disk
      same_disk = λ j. record { block_size = sym shape.block_size j; page = sym shape.page j; order = sym shape.order j; profile = sym shape.profile j; blocks = new.disk.blocks }

  -- ---- the entry is created

  -- after the first step
  pub record HasLinked (m : KeptThread) : Type 0 where
    pub threaded : HasThreaded t w.chain w.before way.left w.after x mk.fresh m
    pub writes : ChangesThreadBlocks (addresses_blocks (thread_pair t mk.last).at mk.fresh) (with_map t (map_allocating_two t.map mk.fresh)) m
    pub bytes_now : AreByteBlocks m.disk.blocks

  pub has_linked : {s m : KeptThread} → s ≡ with_map t (map_allocating_two t.map mk.fresh) → IsThreadedIn s mk.last mk.fresh (threading_changes s mk.last mk.fresh) m
      → ChangesThreadBlocks (addresses_blocks (thread_pair s mk.last).at mk.fresh) s m → AreByteBlocks m.disk.blocks → HasLinked m
  has_linked {m = m} taken is writes bytes_now =
      let w_now = subst (λ (s : KeptThread). ChangesThreadBlocks (addresses_blocks (thread_pair s mk.last).at mk.fresh) s m) taken writes in
      record {
        threaded = has_threaded t mk.can.ready mk.last w.chain w.before way.left w.after x way.end mk.fresh mk.two made m
            (subst (λ (s : KeptThread). IsThreadedIn s mk.last mk.fresh (threading_changes s mk.last mk.fresh) m) taken is) w_now;
        writes = w_now;
        bytes_now = bytes_now;
      }

  module _ {m : KeptThread} (linked : HasLinked m) where
    abbrev h : HasThreaded t w.chain w.before way.left w.after x mk.fresh m
    h = linked.threaded

    pub room_left : (HasTwoFreeBlocks m.map → ⊥) → ⊥
    room_left none = no_room m.map none (subst (HasFreeBlocks 2) (sym h.map) (less_room 2 t.map mk.fresh mk.two mk.can.room))

    abbrev v : Site
    v = site_behind w way.right f

    first : taken.IsWritableChange t.disk (thread_at here (x ∷ [])) m.disk (thread_at here (y ∷ ([] ++ f ∷ []))) (λ z. z) (λ d. d)
    first = first_taken t mk.can.ready mk.last w.chain w.before way.left w.after x way.end mk.fresh mk.two made mk.can.path mk.can.at leads_here same_here m.disk h.step

    -- between the steps the tree is the one from before
    pub left_between : IsLeftOf m.disk (disk_tree t.disk t.pairs) (tree_with_directory t mk.can.path name)
    left_between = subst (λ z. IsLeftOf m.disk (disk_tree t.disk z) (tree_with_directory t mk.can.path name)) (sym way.end.there)
        (taken.taken_before t.disk (thread_at here (x ∷ [])) m.disk (thread_at here (y ∷ ([] ++ f ∷ []))) (λ d. d) (tree_with_directory t mk.can.path name) first)

    same_thread : thread_at here (y ∷ ([] ++ f ∷ [])) ≡ thread_at v (way.p2 ∷ [])
    same_thread = ap (λ z. w.chain ++ z) way.dirs

    there_now : m.pairs ≡ thread_at v (way.p2 ∷ [])
    there_now = h.pairs ∙ same_thread

    site_now : IsSite v (way.p2 ∷ [])
    site_now = record {
      chain = subst (IsChain w.chain) way.dirs
          (chain_now t.disk m.disk w.chain (w.before ++ way.left) x [] y (f ∷ []) w.after ((mk.fresh.0 ∷ mk.fresh.1 ∷ []) ++ []) way.end.site.chain h.step.accepted
          (change t.disk m.disk w.chain w.before way.left w.after x [] y [] f (mk.fresh.0 ∷ mk.fresh.1 ∷ []) [] x.content.slots [] [] [] h.step mk.can.path mk.can.at leads_here same_here));
      ends = stand.site.ends;
      run = way.run;
    }

    accepted_now : IsAccepted m.disk m.pairs
    accepted_now = subst (IsAccepted m.disk) (sym h.pairs) first.follows.accepted

    writable_now : IsWritable m.disk m.pairs
    writable_now = subst (IsWritable m.disk) (sym h.pairs) first.writable

    state_is : pairs_gstate m.pairs ≡ sync_bit_delta
    state_is = ap pairs_gstate h.pairs ∙ state_now t mk.can.ready mk.last w.chain w.before way.left w.after x way.end mk.fresh mk.two made

    fits_there : FitsInPair m.disk.block_size m.disk.page way.p2.content
    fits_there = (taken.within_at m.disk v way.p2 [] (subst (IsWritable m.disk) there_now writable_now)).pair

    was : way.p2.content.slots ≡ b.left ++ b.right
    was = way.slots ∙ b.held

    id_within : id ≤ length way.p2.content.slots
    id_within = let e = ap length was in let l = length-append b.left b.right in let n = b.number in omega arith

    pair_now : thread_pair m index ≡ way.p2
    pair_now = pair_is m index v way.p2 there_now stand.number

    entry_fits : IsWritableEntry m.disk.profile m.disk.block_size m.disk.page u
    entry_fits = record {
      charge = subst (λ (x : Profile). reserved_entry_size x m.disk.block_size name [] ≤ half_pair_capacity m.disk.block_size m.disk.page) (sym h.step.device.geometry.profile)
          (subst (λ (z : ℕ). reserved_entry_size t.disk.profile z name [] ≤ half_pair_capacity z m.disk.page) (sym h.step.device.geometry.block_size)
          (subst (λ (z : ℕ). reserved_entry_size t.disk.profile t.disk.block_size name [] ≤ half_pair_capacity t.disk.block_size z) (sym h.step.device.geometry.page) mk.can.fits));
      inline = tt;
    }

    large_now : 1024 ≤ m.disk.block_size
    large_now = subst (λ n. 1024 ≤ n) (sym h.step.device.geometry.block_size) mk.can.ready.large

    abbrev changes : List ContentChange
    changes = directory_entry_changes m index id name mk.fresh

    abbrev slots : List Slot
    slots = b.left ++ u ∷ b.right

    abbrev move : Gstate
    move = with_sync_inverted way.p2.content.move

    slots_now : insert way.p2.content.slots id u ≡ b.left ++ u ∷ b.right
    slots_now = ap₂ (λ (z : List Slot) (i : ℕ). insert z i u) was (sym b.number) ∙ insert_here b.left b.right u

    holds_now : content_at m.disk (thread_pair m index).at ≡ Some way.p2.content
    holds_now = holds_at m index v way.p2 there_now stand.number accepted_now

    new_entry : IsNewEntry m way.p2 id directory_name_type name directory_struct_type (address_bytes mk.fresh) u (PutMove (with_sync_inverted (thread_pair m index).content.move) ∷ []) move
    new_entry = directory_entry m index way.p2 pair_now holds_now (logged_there m.disk (thread_pair m index).at linked.bytes_now) id name mk.fresh (name_length name mk.can.is_name) address id_within fits_there
        (entry_small m.disk.profile m.disk.block_size m.disk.page u large_now entry_fits)

    made_now : complete_after m index changes ≡ Some (content_with way.p2 slots move)
    made_now = entry_made m index way.p2 pair_now holds_now (logged_there m.disk (thread_pair m index).at linked.bytes_now) new_entry ∙ ap (λ z. Some (content_with way.p2 z move)) slots_now

    pub can_enter : CanCommitOrSplit m index (directory_entry_changes m index id name mk.fresh)
    can_enter = can_put_entry m index way.p2 pair_now holds_now (logged_there m.disk (thread_pair m index).at linked.bytes_now) new_entry (below m index v way.p2 there_now stand.number)

    -- the superblock stays in slot 0
    first_kept : (l : List Slot) → BeginWithSuperblock (l ++ b.right) → BeginWithSuperblock (l ++ u ∷ b.right)
    first_kept [] e = absurd (let z = sym b.fronted ∙ e.0 in cc)
    first_kept (s ∷ l) e = e

    front_kept : (l : List Slot) → begins_with_superblock (l ++ b.right) ≡ true → begins_with_superblock (l ++ u ∷ b.right) ≡ true
    front_kept [] e = absurd (let z = sym b.fronted ∙ e in cc)
    front_kept (s ∷ l) e = e

    turn : IsTurn m index changes v way.p2 slots move
    turn = record {
      accepted = accepted_now;
      there = there_now;
      place = stand.number;
      site = site_now;
      made = made_now;
      first = λ h. first_kept b.left (subst BeginWithSuperblock was (h.kind, h.name));
    }

    mapped : IsMapped m
    mapped = record { used = h.used; size = h.size }

    -- the pair stands where it stood
    pub at_still : (thread_pair m index).at ≡ (thread_pair t index).at
    at_still = ap (λ (z : Pair). z.at) pair_now ∙ way.at ∙ ap (λ (z : Pair). z.at) (sym (pair_is t index w p stand.there stand.number))

    -- ---- after it

    place_there : IsPlace m.disk.order (all_entries (thread_at v (way.p2 ∷ [])) mk.can.at) (place_at v b.left) name
    place_there = subst (λ o. IsPlace o (all_entries (thread_at v (way.p2 ∷ [])) mk.can.at) (place_at v b.left) name) (sym h.step.device.geometry.order)
        (subst (λ z. IsPlace t.disk.order z (place_at v b.left) name)
        (ap (λ z. all_entries z mk.can.at) way.end.there
        ∙ sym (entries_still t mk.can.ready mk.last w.chain w.before way.left w.after x way.end mk.fresh mk.two made mk.can.path mk.can.at leads_here same_here m.disk h.step)
        ∙ ap (λ z. all_entries z mk.can.at) same_thread)
        (place_of_belongs t.disk t.pairs mk.can.path mk.can.at mk.can.ready.accepted mk.can.leads mk.can.first index id name (no_move_from t.pairs mk.can.ready.settled) b mk.can.begins))

    sync : (pairs_gstate (thread_at here (y ∷ ([] ++ f ∷ [])))).sync ≡ true
    sync = sync_now t mk.can.ready mk.last w.chain w.before way.left w.after x way.end mk.fresh mk.two made mk.can.path mk.can.at leads_here same_here

    settled : pairs_gstate (thread_at here (x ∷ [])) ≡ zero_gstate
    settled = settled_there t mk.can.ready mk.last w.chain w.before way.left w.after x way.end mk.fresh mk.two made

    -- the pair became that on the disk, or that and a new one behind it
    module _ (disk : Disk) (q : Pair) (more : List Pair) (e : HasTurned m.disk v way.p2 slots move disk q more) where
      -- the sync bit is cleared
      still_now : pairs_gstate (thread_at v (q ∷ more)) ≡ zero_gstate
      still_now = site_gstate_moved sync_bit_delta v (way.p2 ∷ []) (q ∷ more) (e.delta ∙ sym (turned_is way.p2.content.move) ∙ ap (gstate_xor sync_bit_delta) (sym (gstate_cons way.p2 [] ∙ gstate_right way.p2.content.move)))
          ∙ ap (gstate_xor sync_bit_delta) (ap pairs_gstate (sym there_now) ∙ state_is) ∙ gstate_self sync_bit_delta

      step : IsStep m.disk disk v way.p2 [] q more (pairs_blocks more) [] b.left [] (u ∷ []) b.right
      step = record {
        accepted = subst (IsAccepted m.disk) there_now accepted_now;
        site = site_now;
        no_move = subst (λ z. HasNoMove (pairs_gstate z)) there_now (subst HasNoMove (sym state_is) (record { kind = refl; id = refl; pair = refl }));
        still_none = no_move_from (thread_at v (q ∷ more)) still_now;
        device = e.device;
        free = e.free;
        shape = became_shape m.disk way.p2 (pair_with_slots slots way.p2) q more e.at e.became (became_front m.disk way.p2 (pair_with_slots slots way.p2) q more e.is e.became (λ h. front_kept b.left (sym (ap begins_with_superblock was) ∙ h)));
        was = append-nil way.p2.content.slots ∙ was;
        is = e.is;
        splice = record { front = λ k. b.fronted; entries = (record { name = mk.can.is_name; struct = tt }, tt); lists = (tt, tt); blocks = λ b. omega arith };
      }

      put : taken.IsPut m.disk v way.p2 q more b.left [] (u ∷ []) b.right
      put = record {
        writable = subst (IsWritable m.disk) there_now writable_now;
        was = was;
        is = e.is;
        became = e.became;
        fit = (((λ k. absurd (cc)), (λ k. entry_fits)), tt);
        filled = λ k. some_filled b.left b.right u;
      }

      both : InTwo t.disk (thread_at here (x ∷ [])) m.disk (thread_at v (way.p2 ∷ [])) disk (thread_at v (q ∷ more)) (λ z. z) (tree_creating (mk.can.path ++ name ∷ []) (DirectoryNode [] []))
      both = mkdir_in_two t.disk m.disk disk w.chain w.before way.left w.after x [] y [] f (mk.fresh.0 ∷ mk.fresh.1 ∷ []) x.content.slots [] h.step mk.can.path mk.can.at leads_here same_here sync
          v way.p2 q more (pairs_blocks more) b.left b.right u step same_thread mk.can.path mk.can.at
          (subst (λ z. IsDirectoryAtPath z mk.can.path mk.can.at) same_thread (ap (λ d. d mk.can.path) first.follows.leads ∙ leads_here))
          (ap (λ z. same_pair z mk.can.at) way.begins ∙ stand.begin) place_there refl
          (recovered_from t.disk (thread_at here (x ∷ [])) h.step.accepted settled).reached

      still_writable : IsWritable disk (thread_at v (q ∷ more))
      still_writable = step_writable m.disk disk v way.p2 [] q more (pairs_blocks more) [] b.left [] (u ∷ []) b.right step put.writable
          (taken.put_within m.disk v way.p2 q more b.left [] (u ∷ []) b.right put) (taken.put_filled m.disk v way.p2 q more b.left [] (u ∷ []) b.right put)

      shows_now : disk_tree disk (thread_at v (q ∷ more)) ≡ tree_with_directory t mk.can.path name
      shows_now = both.end.shows ∙ ap (λ z. tree_creating (mk.can.path ++ name ∷ []) (DirectoryNode [] []) (disk_tree t.disk z)) (sym way.end.there)

      count_now : (b : ℕ) → occurrence_count b (used_blocks disk (thread_at v (q ∷ more))) ≡ occurrence_count b (pairs_blocks more) + occurrence_count b (used_blocks m.disk (thread_at v (way.p2 ∷ [])))
      count_now c = used_count_now m.disk disk v way.p2 q more b.left (u ∷ []) b.right step.no_move step.still_none step.device e.at was step.is (λ b. refl) c

    pub made_is : (new : KeptThread) → AreCommittedOrSplit m index (directory_entry_changes m index id name mk.fresh) new → IsDirectoryMade t new mk.can.path name
    made_is new is = go (put_turned m index changes v way.p2 slots move turn mapped new is)
      where
        go : TurnedTo m v way.p2 slots move new → IsDirectoryMade t new mk.can.path name
        go e = record {
          now = record {
            ready = record {
              accepted = subst (IsAccepted new.disk) (sym e.pairs) (both new.disk e.q e.more e.turned).end.accepted;
              writable = subst (IsWritable new.disk) (sym e.pairs) (still_writable new.disk e.q e.more e.turned);
              settled = ap pairs_gstate e.pairs ∙ still_now new.disk e.q e.more e.turned;
              used = subst (λ z. AreUsed new.map (used_blocks new.disk z)) (sym e.pairs) (used_same new.map owned (used_blocks new.disk (thread_at v (e.q ∷ e.more)))
                  (λ c. let n = count_now new.disk e.q e.more e.turned c in let k = count_append c (pairs_blocks e.more) (used_blocks m.disk (thread_at v (way.p2 ∷ []))) in omega arith)
                  (e.used (used_blocks m.disk (thread_at v (way.p2 ∷ []))) (subst (λ z. AreUsed m.map (used_blocks m.disk z)) there_now h.used)));
              size = e.size ∙ h.size ∙ sym e.shape.count;
              large = subst (λ n. 1024 ≤ n) (sym e.shape.block_size) large_now;
            };
            shows = ap (disk_tree new.disk) e.pairs ∙ shows_now new.disk e.q e.more e.turned;
            stays = λ c taken_before. e.stays c (λ free. taken_before (was_free c free)) ∙ kept c taken_before;
            none_comes = λ c flies. none_comes_now t.map mk.fresh mk.two c (subst (λ s. IsInFlight s c) h.map (e.none_comes c flies));
            root = ap count_before_root e.pairs
                ∙ root_stays t.disk new.disk w.chain (dirs_at here (x ∷ [])) (dirs_at v (e.q ∷ e.more)) way.end.site.chain h.step.accepted (both new.disk e.q e.more e.turned).end.accepted (both new.disk e.q e.more e.turned).end.root
                ∙ sym (ap count_before_root way.end.there);
          };
          completed = λ s given tree is_path.
              subst (λ z. CompletesOperation t.disk z s (ops.Mkdir given) new.disk new.pairs) (sym way.end.there)
              (subst (λ z. CompletesOperation t.disk (thread_at here (x ∷ [])) s (ops.Mkdir given) new.disk z) (sym e.pairs)
              (way.completed m.disk new.disk e.q e.more h.step (put_there t mk.can.ready mk.last w.chain w.before way.left w.after x way.end mk.fresh mk.two made) (step new.disk e.q e.more e.turned) (put new.disk e.q e.more e.turned)
              mk.can.at leads_here same_here place_there sync settled (still_now new.disk e.q e.more e.turned) s given (tree ∙ ap (disk_tree t.disk) way.end.there) is_path));
        }
          where
            owned : List ℕ
            owned = pairs_blocks e.more ++ used_blocks m.disk (thread_at v (way.p2 ∷ []))

            kept : (c : ℕ) → (IsFree t.map c → ⊥) → slice_get m.map c ≡ slice_get t.map c
            kept c taken_before = ap (λ s. slice_get s c) h.map ∙ stay_taken t.map mk.fresh mk.two c taken_before

            was_free : (c : ℕ) → IsFree m.map c → IsFree t.map c
            was_free c free = freed t.map mk.fresh mk.two c (subst (λ s. IsFree s c) h.map free)

    -- neither pair stays with what it held
    pub made_alters : (new : KeptThread) → AreCommittedOrSplit m index (directory_entry_changes m index id name mk.fresh) new → AreBothChangedOrDropped t index new
    made_alters new is = go (put_turned m index changes v way.p2 slots move turn mapped new is)
      where
        x_was : HoldsForSome (λ z. z ≡ x) t.pairs
        x_was = subst (HoldsForSome (λ z. z ≡ x)) (sym way.end.there) (among_right (λ z. z ≡ x) w.chain (dirs_at here (x ∷ [])) (among_right (λ z. z ≡ x) (w.before ++ way.left) (x ∷ w.after) (inl refl)))

        go : TurnedTo m v way.p2 slots move new → AreBothChangedOrDropped t index new
        go e = by way.which
          where
            ok : IsAccepted new.disk (thread_at v (e.q ∷ e.more))
            ok = (both new.disk e.q e.more e.turned).end.accepted

            -- the mk.last one, by the tail of the pair that stands there now
            end_goes : (z : Pair) → HoldsForSome (λ y. y ≡ z) (thread_at v (e.q ∷ e.more)) → z.at ≡ x.at → (tail_target z.content.tail ≡ Some mk.fresh) ⊎ (is_hard_tail z.content.tail ≡ true) → Contains new.pairs x → ⊥
            end_goes z h at tail has =
                other_tail t z x mk.fresh mk.can.ready mk.two.first x_was (run_right way.left x [] way.end.site.run) (thread_at v (e.q ∷ e.more)) ok.thread.distinct h at tail (subst (λ ps. Contains ps x) e.pairs has)

            end_alters : (Contains new.pairs x → ⊥) → (i : ℕ) → IsDirectoryEnd t.pairs index i → IsPairChangedOrDropped t i new
            end_alters gone i is_i =
                let a = is_i.is in
                let b = mk.is_last.is in
                let number : mk.last ≡ i = omega arith in
                subst (λ (j : ℕ). IsPairChangedOrDropped t j new) number (subst (λ z. Contains new.pairs z → ⊥) (sym (pair_is t mk.last here x way.end.there way.end.place)) gone)

            entry_alters : (Contains new.pairs p → ⊥) → IsPairChangedOrDropped t index new
            entry_alters = subst (λ z. Contains new.pairs z → ⊥) (sym (pair_is t index w p stand.there stand.number))

            at_now : e.q.at ≡ p.at
            at_now = e.turned.at ∙ way.at

            by : IsOne p x way.p2 mk.fresh ⊎ IsAhead p x way.p2 way.right mk.fresh → AreBothChangedOrDropped t index new
            by (inl h) = record { entry = entry_alters (subst (λ z. Contains new.pairs z → ⊥) h.same gone); end = end_alters gone }
              where
                tail_now : (more : List Pair) → Became m.disk way.p2 (pair_with_slots slots way.p2) e.q more → (tail_target e.q.content.tail ≡ Some mk.fresh) ⊎ (is_hard_tail e.q.content.tail ≡ true)
                tail_now [] k = inl (ap tail_target k.0 ∙ ap (λ (z : Pair). tail_target z.content.tail) h.names)
                tail_now (f ∷ []) k = inr (ap is_hard_tail k.0)
                tail_now (f ∷ g ∷ more) k = absurd k

                gone : Contains new.pairs x → ⊥
                gone = end_goes e.q (among_right (λ z. z ≡ e.q) v.chain (dirs_at v (e.q ∷ e.more)) (among_right (λ z. z ≡ e.q) (v.before ++ v.left) (e.q ∷ e.more ++ (v.right ++ v.after)) (inl refl)))
                    (at_now ∙ ap (λ (z : Pair). z.at) (sym h.same)) (tail_now e.more e.turned.became)
            by (inr h) = record { entry = entry_alters entry; end = end_alters gone }
              where
                gone : Contains new.pairs x → ⊥
                gone = end_goes y (among_right (λ z. z ≡ y) v.chain (dirs_at v (e.q ∷ e.more)) (among_right (λ z. z ≡ y) (v.before ++ v.left) ((e.q ∷ e.more) ++ (v.right ++ v.after))
                    (among_right (λ z. z ≡ y) (e.q ∷ e.more) (v.right ++ v.after) (among_left (λ z. z ≡ y) v.right v.after h.names)))) refl (inl refl)

                entry : Contains new.pairs p → ⊥
                entry has = put_alters m.disk new.disk v way.p2 e.q [] b.left [] (u ∷ []) b.right (λ k. absurd (omega arith)) e.more ok e.turned.at was e.turned.is e.turned.became
                    (subst (Contains (thread_at v (e.q ∷ e.more))) (sym h.stays) (subst (λ ps. Contains ps p) e.pairs has))

    -- a power loss leaves the tree from before it or from after it
    pub left_by_entering : (left : Blocks) → LeftByCommitOrSplit m index (directory_entry_changes m index id name mk.fresh) left → IsLeftOf (with_blocks left t.disk) (disk_tree t.disk t.pairs) (tree_with_directory t mk.can.path name)
    left_by_entering left is = subst (λ (d : Disk). IsLeftOf d (disk_tree t.disk t.pairs) (tree_with_directory t mk.can.path name)) same_disk
        (go (left_put m index changes v way.p2 slots move turn mapped left is))
      where
        same_disk : with_blocks left m.disk ≡ with_blocks left t.disk
        same_disk = λ j. record { block_size = h.step.device.geometry.block_size j; page = h.step.device.geometry.page j; order = h.step.device.geometry.order j; profile = h.step.device.geometry.profile j; blocks = left }

        go : Stays m index changes v way.p2 slots move turn (with_blocks left m.disk) ⊎ TurnedOn m v way.p2 slots move (with_blocks left m.disk) → IsLeftOf (with_blocks left m.disk) (disk_tree t.disk t.pairs) (tree_with_directory t mk.can.path name)
        go (inl d) = left_still m.disk left (thread_at v (way.p2 ∷ [])) (subst (IsAccepted m.disk) there_now accepted_now) (subst (IsWritable m.disk) there_now writable_now) d
            (inl (ap (disk_tree m.disk) (sym same_thread) ∙ first.follows.shows ∙ ap (disk_tree t.disk) (sym way.end.there)))
        go (inr e) = record {
          pairs = thread_at v (e.q ∷ e.more);
          accepted = (both (with_blocks left m.disk) e.q e.more e.turned).end.accepted;
          writable = still_writable (with_blocks left m.disk) e.q e.more e.turned;
          tree = inr (shows_now (with_blocks left m.disk) e.q e.more e.turned);
        }
