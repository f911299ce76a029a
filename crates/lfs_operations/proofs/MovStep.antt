-- The first step of a rename across pairs, as a step of the thread, and what the second one makes of it.
use Rattle.lfs_operations.proofs.Common.{ℕ, ◌≡◌, ◌≢◌, ◌+◌, ◌-◌, ◌<◌, ◌≤◌, ◌⊎◌, inl, inr, Bool, true, false, cond, take, List, [], ◌∷◌, ◌++◌, length, Option, Some, refl, sym, ap, ap₂, subst, ◌∙◌, arith, append_assoc, length-append, get_or, set, remove, le-ltb, lt-ltb, Blocks, AreUsed, Free, InFlight, ContentChange, content_after, later_committed_block, empty_raw_content, raw_content, block_count, Disk, disk_block, block_entries, Name, HasEitherTree as IsLeftOf, with_blocks, Slot, Gstate, gstate_xor, zero_gstate, same_pair, slot_of_path, Pair, pairs_blocks, pairs_gstate, is_hard_tail, count_before_root, Path, Tree, last_name, tree_renaming, Session, path_or_root, all_directories, all_unmoved_slots, struct_blocks, disk_tree, used_blocks, IsAccepted, IsWritable, flat_map, SameSlots, IsChangedImage, rearranged_chain, CompletesOperation, occurrence_count, count_append, count_here, once_from_distinct, remove_here, directory_addresses, set_rearranged, pair_itself, IsNoDirectory, target_slots, HoldsForSome, Site, among_right, dirs_at, thread_at, file_blocks, IsWritableChange, IsChain, pairs_behind, OldStays, from_old, two, last_tail_is_hard, KeptThread, SameGeometryAs, empty_anchor, thread_pair, option_and_then, taken_then, LeftByCommitOrSplit, AreCommittedOrSplit, HasTreeAfterDrops, HasSameBlocksInFlight, CanEndMoveAt, HasEndedMoveAt, move_ending_dropped_blocks, content_after_move_ended, continues_directory, gstate_with_move, pairs_after_move_ended, pair_index_after_insertion, IsLogContentDecodable, IsRecoveredWritableImage, KeepsRootPairIndex, gstate_without_move}
use Rattle.lfs_model.specs.session.Operations as ops
use Rattle.lfs_model.proofs.LeftFiles.{ends_same}
use Rattle.lfs_operations.proofs.Dropped.{HasMapWithout, map_ended}
use Rattle.lfs_model.proofs.AcrossSteps.{Arranged, arrangement, completed}
use Rattle.lfs_model.proofs.SetFirsts.{set_firsts}
use Rattle.lfs_model.proofs.SetMoves.{HasTurned, IsSetting, set_count, set_step, state_is, taken_by, walk_by}
use Rattle.lfs_operations.proofs.MovTurned.{IsTurn, Stays, TurnedOn, TurnedTo, left_put, put_turned}
use Rattle.lfs_model.proofs.Placing.{blocks_append, left_after, left_still}
use Rattle.lfs_model.proofs.PairLists.{get_at, set_at, take_front}

-- ---- lists

remove_at : (xs : List Pair) (p : Pair) (zs : List Pair) → remove (xs ++ p ∷ zs) (length xs) ≡ xs ++ zs
remove_at [] p zs = refl
remove_at (x ∷ xs) p zs = ap (λ z. x ∷ z) (remove_at xs p zs)

only_left : (l r : List Slot) (u : Slot) → length (l ++ u ∷ r) ≡ 1 → l ++ r ≡ []
only_left [] [] u e = refl
only_left [] (s ∷ r) u e = absurd (omega arith)
only_left (s ∷ l) r u e = absurd (let k = length-append l (u ∷ r) in omega arith)

pub blocks_alike : (xs ys : List Pair) → SameSlots xs ys → pairs_blocks ys ≡ pairs_blocks xs
blocks_alike [] [] h = refl
blocks_alike [] (y ∷ ys) h = absurd h
blocks_alike (x ∷ xs) [] h = absurd h
blocks_alike (x ∷ xs) (y ∷ ys) h = ap₂ (λ (at : ℕ × ℕ) (z : List ℕ). at.0 ∷ at.1 ∷ z) h.0 (blocks_alike xs ys h.2)

led_at : (chain pre back : List Pair) (i : ℕ) → IsChain chain (pre ++ back) → i ≡ length chain + length pre → continues_directory (chain ++ (pre ++ back)) i ≡ last_tail_is_hard false pre
led_at chain pre back i is_chain number =
    ap₂ (λ n z. last_tail_is_hard false (take (i - n) z)) is_chain (pairs_behind chain (pre ++ back) is_chain)
    ∙ ap (last_tail_is_hard false) (take_front pre back (i - length chain) (omega arith))

-- what holds of one of a list holds of one of another behind the same pairs
among_behind : (P : Pair → Type 0) (xs ys zs : List Pair) → (HoldsForSome P ys → HoldsForSome P zs) → HoldsForSome P (xs ++ ys) → HoldsForSome P (xs ++ zs)
among_behind P [] ys zs f h = f h
among_behind P (x ∷ xs) ys zs f (inl h) = inl h
among_behind P (x ∷ xs) ys zs f (inr h) = inr (among_behind P xs ys zs f h)

count_apart : (front os mid ns back : List Pair) (b : ℕ) → occurrence_count b (pairs_blocks os) + occurrence_count b (pairs_blocks ns) ≤ occurrence_count b (pairs_blocks (front ++ (os ++ (mid ++ (ns ++ back)))))
count_apart front os mid ns back b =
    let a = blocks_append front (os ++ (mid ++ (ns ++ back))) b in
    let c = blocks_append os (mid ++ (ns ++ back)) b in
    let d = blocks_append mid (ns ++ back) b in
    let e = blocks_append ns back b in
    omega arith

count_two : (s : Bool) (front os mid ns back : List Pair) (b : ℕ) → occurrence_count b (pairs_blocks os) + occurrence_count b (pairs_blocks ns) ≤ occurrence_count b (pairs_blocks (two s front os mid ns back))
count_two true front os mid ns back b = count_apart front os mid ns back b
count_two false front os mid ns back b = let k = count_apart front ns mid os back b in omega (arith, k)

-- ---- what is known before

-- The changes put the slot v into the pair p at the site w, and set a move that hides u in the pair o at the site wo.
pub record IsFirst (t : KeptThread) (sync : Bool) (old_pair : ℕ) (goes : Bool) (new_pair : ℕ) (changes : List ContentChange) (wo : Site) (o : Pair) (lo : List Slot) (u : Slot) (ro : List Slot) (w : Site) (p : Pair) (l : List Slot) (target : Option Slot) (v : Slot) (r : List Slot)
    (old_path new_path : Path) (name : Name) : Type 0 where
  pub ready : IsRecoveredWritableImage t
  pub turn : IsTurn t new_pair changes w p (l ++ v ∷ r) (gstate_xor (gstate_with_move sync o.at (length lo)) p.content.move)
  pub setting : IsSetting t.disk wo o lo u ro w p l (target_slots target) v r
  pub chain : wo.chain ≡ w.chain
  pub old_place : old_pair ≡ length wo.chain + length (wo.before ++ wo.left)
  pub old_is : (thread_pair t old_pair).at ≡ o.at
  pub logged : IsLogContentDecodable t.disk o.at
  pub same_slot : v ≡ record u { name = name }
  pub follows : (disk : Disk) (q : Pair) (more : List Pair) → HasTurned t.disk w p (l ++ v ∷ r) (gstate_xor (gstate_with_move sync o.at (length lo)) p.content.move) disk q more
      → IsChangedImage t.disk (thread_at w (p ∷ [])) disk (thread_at w (q ∷ more)) (tree_renaming old_path new_path) (walk_by old_path new_path)
  pub stays : goes ≡ false → last_tail_is_hard false (wo.before ++ wo.left) ≡ true → 1 < length o.content.slots
  pub alone : goes ≡ true → (last_tail_is_hard false (wo.before ++ wo.left) ≡ true) × (length o.content.slots ≡ 1)
  pub from_slot : slot_of_path (thread_at w (p ∷ [])) old_path ≡ Some u
  pub to_slot : slot_of_path (thread_at w (p ∷ [])) new_path ≡ target
  pub to_name : last_name new_path ≡ name
  pub file : sync ≡ false → IsNoDirectory target

module _ {t : KeptThread} {sync : Bool} {old_pair : ℕ} {goes : Bool} {new_pair : ℕ} {changes : List ContentChange} {wo : Site} {o : Pair} {lo : List Slot} {u : Slot} {ro : List Slot} {w : Site} {p : Pair} {l : List Slot} {target : Option Slot} {v : Slot} {r : List Slot}
    {old_path new_path : Path} {name : Name} (k : IsFirst t sync old_pair goes new_pair changes wo o lo u ro w p l target v r old_path new_path name) where
  abbrev ps : List Pair
  ps = thread_at w (p ∷ [])

  abbrev slots : List Slot
  slots = l ++ v ∷ r

  abbrev move : Gstate
  move = gstate_xor (gstate_with_move sync o.at (length lo)) p.content.move

  abbrev pub after : Tree
  after = tree_renaming old_path new_path (disk_tree t.disk t.pairs)

  first_taken : (disk : Disk) (q : Pair) (more : List Pair) → HasTurned t.disk w p slots move disk q more
      → IsWritableChange t.disk (thread_at w (p ∷ [])) disk (thread_at w (q ∷ more)) (tree_renaming old_path new_path) (walk_by old_path new_path)
  first_taken disk q more x = taken_by t.disk wo o lo u ro w p l (target_slots target) v r k.setting sync disk q more x (tree_renaming old_path new_path) (walk_by old_path new_path) (k.follows disk q more x)

  -- ---- at a power loss in the first step

  pub left_tree : (left : Blocks) → LeftByCommitOrSplit t new_pair changes left → IsLeftOf (with_blocks left t.disk) (disk_tree t.disk t.pairs) (tree_renaming old_path new_path (disk_tree t.disk t.pairs))
  left_tree left is = go (left_put t new_pair changes w p slots move k.turn (record { used = k.ready.used; size = k.ready.size }) left is)
    where
      go : Stays t new_pair changes w p slots move k.turn (with_blocks left t.disk) ⊎ TurnedOn t w p slots move (with_blocks left t.disk)
          → IsLeftOf (with_blocks left t.disk) (disk_tree t.disk t.pairs) (tree_renaming old_path new_path (disk_tree t.disk t.pairs))
      go (inl d) = left_still t.disk left (thread_at w (p ∷ [])) k.setting.accepted k.setting.writable d (inl (ap (disk_tree t.disk) (sym k.turn.there)))
      go (inr x) = left_after (first_taken (with_blocks left t.disk) x.q x.more x.turned) (inr (ap (λ z. tree_renaming old_path new_path (disk_tree t.disk z)) (sym k.turn.there)))

  -- ---- after the first step

  pub first_turned : (mid : KeptThread) → AreCommittedOrSplit t new_pair changes mid → TurnedTo t w p slots move mid
  first_turned mid is = put_turned t new_pair changes w p slots move k.turn (record { used = k.ready.used; size = k.ready.size }) mid is

  module _ (mid : KeptThread) (x : TurnedTo t w p slots move mid) where
    abbrev pub arr : Arranged t.disk wo o w p x.q x.more
    arr = arrangement t.disk mid.disk mid.disk wo o lo u ro w p l target v r k.setting x.q x.more sync x.turned

    taken : IsWritableChange t.disk (thread_at w (p ∷ [])) mid.disk (thread_at w (x.q ∷ x.more)) (tree_renaming old_path new_path) (walk_by old_path new_path)
    taken = first_taken mid.disk x.q x.more x.turned

    pub mid_shows : disk_tree mid.disk mid.pairs ≡ tree_renaming old_path new_path (disk_tree t.disk t.pairs)
    mid_shows = ap (disk_tree mid.disk) x.pairs ∙ taken.follows.shows ∙ ap (λ z. tree_renaming old_path new_path (disk_tree t.disk z)) (sym k.turn.there)

    mid_state : pairs_gstate mid.pairs ≡ gstate_with_move sync o.at (length lo)
    mid_state = ap pairs_gstate x.pairs ∙ state_is t.disk wo o lo u ro w p l (target_slots target) v r k.setting sync mid.disk x.q x.more x.turned

    mid_is : mid.pairs ≡ w.chain ++ (arr.pre ++ o ∷ arr.post)
    mid_is = x.pairs ∙ arr.mid_is

    mid_chain : IsChain w.chain (arr.pre ++ o ∷ arr.post)
    mid_chain = ap count_before_root (sym arr.mid_is)
        ∙ rearranged_chain t.disk mid.disk w.chain (w.before ++ w.left) p [] x.q x.more (w.right ++ w.after) (pairs_blocks x.more ++ []) k.setting.site.chain k.setting.accepted
        (set_rearranged t.disk mid.disk wo o lo u ro w p [] x.q x.more (pairs_blocks x.more) l (target_slots target) v r (set_step t.disk wo o lo u ro w p l (target_slots target) v r k.setting sync mid.disk x.q x.more x.turned))

    -- where the old pair stands
    lengths : length mid.pairs ≡ length t.pairs + length x.more
    lengths =
        let a = ap length x.pairs in
        let b = ap length k.turn.there in
        let c = length-append w.chain (dirs_at w (x.q ∷ x.more)) in
        let d = length-append w.chain (dirs_at w (p ∷ [])) in
        let e = length-append (w.before ++ w.left) (x.q ∷ x.more ++ (w.right ++ w.after)) in
        let f = length-append (w.before ++ w.left) (p ∷ [] ++ (w.right ++ w.after)) in
        let g = length-append x.more (w.right ++ w.after) in
        omega arith

    pub grown : length t.pairs ≤ length mid.pairs
    grown = let e = lengths in omega (arith, e)

    abbrev pub index : ℕ
    index = pair_index_after_insertion old_pair new_pair (length mid.pairs - length t.pairs)

    index_is : pair_index_after_insertion old_pair new_pair (length mid.pairs - length t.pairs) ≡ length w.chain + length arr.pre
    index_is = go arr.number
      where
        old_at : old_pair ≡ length w.chain + length (wo.before ++ wo.left)
        old_at = k.old_place ∙ ap (λ (z : List Pair). length z + length (wo.before ++ wo.left)) k.chain

        go : ((length (wo.before ++ wo.left) < length (w.before ++ w.left)) × (length arr.pre ≡ length (wo.before ++ wo.left)))
            ⊎ ((length (w.before ++ w.left) < length (wo.before ++ wo.left)) × (length arr.pre ≡ length (wo.before ++ wo.left) + length x.more))
            → pair_index_after_insertion old_pair new_pair (length mid.pairs - length t.pairs) ≡ length w.chain + length arr.pre
        go (inl (less, is)) =
            let e = k.turn.place in let f = old_at in
            ap (λ b. cond b old_pair (old_pair + (length mid.pairs - length t.pairs))) (lt-ltb old_pair new_pair (omega arith)) ∙ omega arith
        go (inr (less, is)) =
            let e = k.turn.place in let f = old_at in let g = lengths in
            ap (λ b. cond b old_pair (old_pair + (length mid.pairs - length t.pairs))) (le-ltb old_pair new_pair (omega arith)) ∙ omega arith

    grouped : mid.pairs ≡ (w.chain ++ arr.pre) ++ o ∷ arr.post
    grouped = mid_is ∙ sym (append_assoc w.chain arr.pre (o ∷ arr.post))

    index_at : pair_index_after_insertion old_pair new_pair (length mid.pairs - length t.pairs) ≡ length (w.chain ++ arr.pre)
    index_at = index_is ∙ sym (length-append w.chain arr.pre)

    here : thread_pair mid index ≡ o
    here = ap₂ (λ (z : List Pair) (i : ℕ). get_or z i empty_anchor) grouped index_at ∙ get_at (w.chain ++ arr.pre) o arr.post empty_anchor

    -- ---- the old pair isn't written

    unwritten : (b : ℕ) → 1 ≤ occurrence_count b (pairs_blocks (o ∷ [])) → disk_block mid.disk b ≡ disk_block t.disk b
    unwritten b some = x.turned.same b (
        let once = once_from_distinct ((pairs_blocks x.more ++ []) ++ used_blocks t.disk ps) x.turned.free.distinct b in
        let c = count_append b (pairs_blocks x.more ++ []) (used_blocks t.disk ps) in
        let d = count_append b (pairs_blocks x.more) [] in
        let e = count_append b (pairs_blocks ps) (flat_map (λ s. struct_blocks t.disk s.struct) (all_unmoved_slots ps)) in
        let f = ap (λ z. occurrence_count b (pairs_blocks z)) arr.old_is ∙ blocks_append w.chain (two arr.b arr.front (o ∷ []) arr.mid (p ∷ []) arr.back) b in
        let g = count_append b (pairs_blocks x.more) (pairs_blocks (p ∷ [])) in
        let h = count_two arr.b arr.front (o ∷ []) arr.mid (p ∷ []) arr.back b in
        omega arith)

    raw_same : raw_content mid.disk o.at ≡ raw_content t.disk o.at
    raw_same = ap (λ h. option_and_then (λ block. content_after empty_raw_content (block_entries block)) h) (ap₂ later_committed_block
        (unwritten o.at.0 (let e = count_here o.at.0 (o.at.1 ∷ []) in omega arith))
        (unwritten o.at.1 (let e = count_here o.at.1 [] in let f = count_append o.at.1 (o.at.0 ∷ []) (o.at.1 ∷ []) in omega arith)))

    led_same : continues_directory mid.pairs index ≡ last_tail_is_hard false (wo.before ++ wo.left)
    led_same = ap (λ z. continues_directory z index) mid_is ∙ led_at w.chain arr.pre (o ∷ arr.post) index mid_chain index_is ∙ arr.led

    pub mid_ends : CanEndMoveAt mid (pair_index_after_insertion old_pair new_pair (length mid.pairs - length t.pairs)) (length lo) goes
    mid_ends = record {
      accepted = subst (IsAccepted mid.disk) (sym x.pairs) taken.follows.accepted;
      writable = subst (IsWritable mid.disk) (sym x.pairs) taken.writable;
      begins = (let e = ap count_before_root mid_is ∙ mid_chain in let f = index_is in omega arith);
      below = (let e = ap length grouped in let f = length-append (w.chain ++ arr.pre) (o ∷ arr.post) in let g = index_at in omega arith);
      logged = λ raw is. k.logged raw (sym raw_same ∙ ap (λ (z : Pair). raw_content mid.disk z.at) (sym here) ∙ is);
      kind = ap (λ (g : Gstate). g.kind) mid_state;
      named = ap₂ (λ (g : Gstate) (z : Pair). same_pair g.pair z.at) mid_state here ∙ pair_itself o.at;
      id_is = ap (λ (g : Gstate). g.id) mid_state;
      name = u.name;
      stands = record {
        left = lo;
        slot = u;
        right = ro;
        held = ap (λ (z : Pair). z.content.slots) here ∙ k.setting.held;
        number = refl;
        entry = k.setting.other;
        named = refl;
      };
      stays = λ stays led. subst (λ (z : Pair). 1 < length z.content.slots) (sym here) (k.stays stays (sym led_same ∙ led));
      alone = λ goes. (let a = k.alone goes in (led_same ∙ a.0, ap (λ (z : Pair). length z.content.slots) here ∙ a.1));
    }

    pub same_at : (thread_pair mid (pair_index_after_insertion old_pair new_pair (length mid.pairs - length t.pairs))).at ≡ (thread_pair t old_pair).at
    same_at = ap (λ (z : Pair). z.at) here ∙ sym k.old_is

    -- ---- after the second step

    module _ (last : KeptThread) (e : HasEndedMoveAt mid (pair_index_after_insertion old_pair new_pair (length mid.pairs - length t.pairs)) (length lo) goes last) where
      abbrev o2 : Pair
      o2 = record { at = (thread_pair mid index).at; content = content_after_move_ended mid index (length lo) }

      pub last_state : pairs_gstate last.pairs ≡ record zero_gstate { sync = sync }
      last_state = e.state ∙ ap gstate_without_move mid_state

      settled_last : sync ≡ false → pairs_gstate last.pairs ≡ zero_gstate
      settled_last plain = last_state ∙ ap (λ b. record zero_gstate { sync = b }) plain

      filled : goes ≡ false → last_tail_is_hard false (wo.before ++ wo.left) ≡ true → lo ++ ro ≢ []
      filled stays hard none =
          let m = k.stays stays hard in
          let a = ap length k.setting.held in
          let b = length-append lo (u ∷ ro) in
          let c = ap length none in
          let d = length-append lo ro in
          absurd (omega arith)

      -- what is left of the old pair
      pub record IsLeftOver : Type 0 where
        pub os : List Pair
        pub stays : OldStays (from_old arr.b arr.front arr.mid p) o (lo ++ ro) os
        pub alike : SameSlots (w.chain ++ (arr.pre ++ (os ++ arr.post))) last.pairs

      pub left_over : IsLeftOver
      left_over = go goes refl
        where
          go : (b : Bool) → goes ≡ b → IsLeftOver
          go false is = record {
            os = o2 ∷ [];
            stays = (ap (λ (z : Pair). z.at) here, ap (λ (z : Pair). remove z.content.slots (length lo)) here ∙ ap (λ z. remove z (length lo)) k.setting.held ∙ remove_here lo ro u, (λ from. filled is (sym arr.from ∙ from)));
            alike = subst (λ z. SameSlots z last.pairs)
                (ap₂ (λ (z : List Pair) (i : ℕ). set z i o2) grouped index_at ∙ set_at (w.chain ++ arr.pre) o arr.post o2 ∙ append_assoc w.chain arr.pre (o2 ∷ arr.post))
                (subst (λ b. SameSlots (pairs_after_move_ended mid index (length lo) b) last.pairs) is e.alike);
          }
          go true is = record {
            os = [];
            stays = (arr.from ∙ (k.alone is).0, only_left lo ro u (sym (ap length k.setting.held) ∙ (k.alone is).1));
            alike = subst (λ z. SameSlots z last.pairs)
                (ap₂ (λ (z : List Pair) (i : ℕ). remove z i) grouped index_at ∙ remove_at (w.chain ++ arr.pre) o arr.post ∙ append_assoc w.chain arr.pre arr.post)
                (subst (λ b. SameSlots (pairs_after_move_ended mid index (length lo) b) last.pairs) is e.alike);
          }

      second : IsWritableChange mid.disk (thread_at w (x.q ∷ x.more)) last.disk last.pairs (λ t. t) (λ d. d)
      second = subst (λ z. IsWritableChange mid.disk z last.disk last.pairs (λ t. t) (λ d. d)) x.pairs e.taken

      -- both steps
      pub last_taken : IsWritableChange t.disk t.pairs last.disk last.pairs (tree_renaming old_path new_path) (walk_by old_path new_path)
      last_taken = subst (λ z. IsWritableChange t.disk z last.disk last.pairs (tree_renaming old_path new_path) (walk_by old_path new_path)) (sym k.turn.there)
          (taken_then t.disk mid.disk last.disk (thread_at w (p ∷ [])) (thread_at w (x.q ∷ x.more)) last.pairs (tree_renaming old_path new_path) (λ t. t) (walk_by old_path new_path) (λ d. d) (ends_same (tree_renaming old_path new_path)) taken second)

      pub last_firsts : directory_addresses (all_directories last.pairs) ≡ directory_addresses (all_directories t.pairs)
      last_firsts = e.begins ∙ ap (λ z. directory_addresses (all_directories z)) x.pairs
          ∙ set_firsts t.disk mid.disk wo o lo u ro w p [] x.q x.more (pairs_blocks x.more) l (target_slots target) v r (set_step t.disk wo o lo u ro w p l (target_slots target) v r k.setting sync mid.disk x.q x.more x.turned)
          ∙ ap (λ z. directory_addresses (all_directories z)) (sym k.turn.there)

      -- a pair stays that isn't one of the two, has no slots and ends its directory
      pub last_kept : (z : Pair) → (p ≡ z → ⊥) → z.content.slots ≡ [] → is_hard_tail z.content.tail ≡ false → HoldsForSome (λ y. y ≡ z) t.pairs → HoldsForSome (λ y. y ≡ z) last.pairs
      last_kept z other none soft h = e.kept z none soft (subst (HoldsForSome (λ y. y ≡ z)) (sym x.pairs)
          (among_behind (λ y. y ≡ z) w.chain (dirs_at w (p ∷ [])) (dirs_at w (x.q ∷ x.more)) (among_behind (λ y. y ≡ z) (w.before ++ w.left) (p ∷ (w.right ++ w.after)) (x.q ∷ x.more ++ (w.right ++ w.after)) behind) (subst (HoldsForSome (λ y. y ≡ z)) k.turn.there h)))
        where
          behind : HoldsForSome (λ y. y ≡ z) (p ∷ (w.right ++ w.after)) → HoldsForSome (λ y. y ≡ z) (x.q ∷ x.more ++ (w.right ++ w.after))
          behind (inl is) = absurd (other is)
          behind (inr h) = among_right (λ y. y ≡ z) (x.q ∷ x.more) (w.right ++ w.after) h

      pub last_shape : SameGeometryAs t.disk last.disk
      last_shape = record { block_size = e.shape.block_size ∙ x.shape.block_size; page = e.shape.page ∙ x.shape.page; order = e.shape.order ∙ x.shape.order; profile = e.shape.profile ∙ x.shape.profile; count = e.shape.count ∙ x.shape.count }

      pub rename_completed : sync ≡ false → (s : Session) (old_bytes new_bytes : List ℕ) → s.tree ≡ disk_tree t.disk t.pairs → path_or_root old_bytes ≡ old_path → path_or_root new_bytes ≡ new_path
          → CompletesOperation t.disk t.pairs s (ops.Rename old_bytes new_bytes) last.disk last.pairs
      rename_completed plain s old_bytes new_bytes tree old_as new_as = subst (λ z. CompletesOperation t.disk z s (ops.Rename old_bytes new_bytes) last.disk last.pairs) (sym k.turn.there)
          (completed t.disk mid.disk last.disk wo o lo u ro w p l target v r k.setting x.q x.more sync x.turned name k.same_slot old_path new_path (walk_by old_path new_path) taken.follows
          left_over.os last.pairs left_over.stays left_over.alike second (settled_last plain) k.from_slot k.to_slot k.to_name (k.file plain) s old_bytes new_bytes (tree ∙ ap (disk_tree t.disk) k.turn.there) old_as new_as)

      -- ---- the map

      abbrev kept : List ℕ
      kept = used_blocks last.disk last.pairs ++ file_blocks t.disk (target_slots target)

      before_last : (b : ℕ) → occurrence_count b kept + occurrence_count b (move_ending_dropped_blocks mid index goes) ≡ occurrence_count b (pairs_blocks x.more ++ used_blocks t.disk t.pairs)
      before_last b =
          let a = e.blocks b in
          let c = ap (λ z. occurrence_count b (used_blocks mid.disk z)) x.pairs in
          let d = set_count t.disk wo o lo u ro w p l (target_slots target) v r k.setting sync mid.disk x.q x.more x.turned b in
          let f = ap (λ z. occurrence_count b (used_blocks t.disk z)) k.turn.there in
          let g = count_append b (pairs_blocks x.more) (used_blocks t.disk t.pairs) in
          let h = count_append b (used_blocks last.disk last.pairs) (file_blocks t.disk (target_slots target)) in
          omega arith

      once_before : (b : ℕ) → occurrence_count b (pairs_blocks x.more ++ used_blocks t.disk t.pairs) ≤ 1
      once_before b =
          let once = once_from_distinct ((pairs_blocks x.more ++ []) ++ used_blocks t.disk ps) x.turned.free.distinct b in
          let c = count_append b (pairs_blocks x.more ++ []) (used_blocks t.disk ps) in
          let d = count_append b (pairs_blocks x.more) [] in
          let f = ap (λ z. occurrence_count b (used_blocks t.disk z)) k.turn.there in
          let g = count_append b (pairs_blocks x.more) (used_blocks t.disk t.pairs) in
          omega arith

      map_is : HasMapWithout mid.map last.map (used_blocks last.disk last.pairs ++ file_blocks t.disk (target_slots target))
      map_is = map_ended mid index goes (pairs_blocks x.more ++ used_blocks t.disk t.pairs) kept (x.used (used_blocks t.disk t.pairs) k.ready.used) once_before before_last last.map e.map

      pub rename_once : (b : ℕ) → occurrence_count b (used_blocks last.disk last.pairs) + occurrence_count b (file_blocks t.disk (target_slots target)) ≤ 1
      rename_once b =
          let a = before_last b in
          let c = once_before b in
          let h = count_append b (used_blocks last.disk last.pairs) (file_blocks t.disk (target_slots target)) in
          omega arith

      pub last_used : AreUsed last.map (used_blocks last.disk last.pairs ++ file_blocks t.disk (target_slots target))
      last_used = map_is.used

      pub last_size : length last.map ≡ block_count last.disk
      last_size = map_is.size ∙ x.size ∙ k.ready.size ∙ sym x.shape.count ∙ sym e.shape.count

      pub last_flying : HasSameBlocksInFlight t.map last.map
      last_flying b = (
        (λ h. x.none_comes b ((map_is.flying b).0 h)),
        (λ h. (map_is.flying b).1 (x.stays b (λ free. absurd (let z : Some InFlight ≡ Some Free = sym h ∙ free in cc)) ∙ h)),
      )

      -- the root directory begins with the same pair
      pub last_root : KeepsRootPairIndex t last
      last_root = e.root ∙ ap count_before_root mid_is ∙ mid_chain ∙ sym (ap count_before_root k.turn.there ∙ k.setting.site.chain)

      pub rename_becomes : sync ≡ false → HasTreeAfterDrops t last (tree_renaming old_path new_path (disk_tree t.disk t.pairs)) (file_blocks t.disk (target_slots target))
      rename_becomes plain = record {
        ready = record {
          accepted = e.taken.follows.accepted;
          writable = e.taken.writable;
          settled = settled_last plain;
          used = record {
            owned = used_blocks last.disk last.pairs ++ file_blocks t.disk (target_slots target);
            are = last_used;
            same = λ b. (let h = count_append b (used_blocks last.disk last.pairs) (file_blocks t.disk (target_slots target)) in omega arith);
          };
          size = last_size;
          large = subst (λ n. 1024 ≤ n) (sym (e.shape.block_size ∙ x.shape.block_size)) k.ready.large;
        };
        shows = e.taken.follows.shows ∙ mid_shows;
        flying = last_flying;
        root = last_root;
      }
