-- A worn pair moves its slots to a fresh pair behind it, and keeps its first ones: the image has the same tree, also in a power
-- loss.
use Rattle.std.proofs.Common.{ℕ, ◌≡◌, ◌≢◌, ◌+◌, ◌-◌, ◌*◌, ◌%◌, ◌^◌, ◌<◌, ◌≤◌, ◌⊎◌, inl, inr, true, false, cond, List, [], ◌∷◌, ◌++◌, length, refl, sym, ap, ap₂, subst, subst₂, ◌∙◌, arith, append_assoc, length-append, slice_get, take, drop}
use Rattle.std.specs.Prelude.{All}
use Rattle.std.proofs.lemmas.Bool.{and_from}
use Rattle.lfs_operations.proofs.Common.{take-append-drop, Blocks, AreUsed, Disk, FitsInPair, IsWritable, HasNoMove, no_move_from, HasEitherTree, with_blocks, Slot, Pair, pairs_gstate, is_hard_tail, addresses_blocks, has_superblock, chain_may_continue, count_before_root, begins_with_superblock, IsAccepted, disk_tree, used_blocks, each_right, IsChain, HasFirst, file_blocks, KeptThread, HasOldPair, ChangesThreadBlocks, BeginWithSuperblock, thread_pair, KeepsOutsideBoth, option_map, length-take-le, pairs_from_nonempty, has_slots, has_no_entry, is_worn, pair_joined_to, first_slot_name, IsFileOrDirectory, IsSameWritable, Unthreads, pair_revision, KeepsSuperblockFirst, pairs_split, CanUnload, IsUnloaded, LossLeavesUnloaded, AreTwoFreeBlocks, map_allocating_two, HasSameBlocksInFlight, IsRecoveredWritableImage, CallEvent, CleanLossLeaves, SurvivesLossSince, WritesPairAndTwoFree, Site}
use Rattle.lfs_model.specs.format.Disk.{block_count}
use Rattle.lfs_model.specs.layers.BlockSets.{used_count}
use Rattle.lfs_model.specs.layers.Steps.{last_tail_is_hard}
use Rattle.lfs_model.specs.session.Moved.{EighthFree, pair_behind, AreUnused}
use Rattle.lfs_model.specs.tree.View.{RepeatsSuperblockStruct, IsSuperblockFirst}
use Rattle.lfs_model.proofs.BlockSets.{used_count-AreUsed}
use Rattle.lfs_model.proofs.MovedBlocks.{unloaded_blocks, unloaded_length}
use Rattle.lfs_model.proofs.Relocated as laws
use Rattle.lfs_model.proofs.RootSteps.{kept_bare, root_unloads}
use Rattle.lfs_model.proofs.Superblocks.{StructMark, hold_each, hold_from_rules, meets_starting, starts, starts_not}
use Rattle.lfs_model.proofs.Unloaded.{unload}
use Rattle.lfs_thread.specs.Unloads.{UnloadedOnDisk}
use Rattle.lfs_operations.specs.Wear.{CanExpandSuperblockChain, CanMovePairSlots, IsSuperblockChainExpanded, AreWornPairSlotsMoved, KeepsTreeAndFiles}
use Rattle.lfs_operations.proofs.DroppedTails.{TwoAt, front_is, two_at}
use Rattle.lfs_operations.proofs.FreshBeside as beside
use Rattle.lfs_operations.proofs.FreshBeside.{IsWrittenBeside, shape_left}
use Rattle.lfs_operations.proofs.Owning.{length_now, used_more}
use Rattle.lfs_model.proofs.Placing.{device}
use Rattle.lfs_operations.proofs.Putting.{held, with_map, survives_step, writes_in}
use Rattle.lfs_operations.proofs.Threads.{two_now, pair_is}
use Rattle.lfs_model.proofs.PairsInFront.{flag_last}
use Rattle.lfs_model.proofs.AcrossSteps.{flag_append}

-- The pair of that number is to keep so many slots. The law of a move says what comes of it.
pub record IsUnloading (t : KeptThread) (index keep : ℕ) (fresh : ℕ × ℕ) (root : ℕ) : Type 0 where
  pub ready : IsRecoveredWritableImage t
  pub two : AreTwoFreeBlocks t.map fresh
  pub ahead : List Pair
  pub x : Pair
  pub back : List Pair
  pub is : t.pairs ≡ ahead ++ x ∷ back
  pub place : index ≡ length ahead + 0
  pub marked : HasFirst x.content.slots → BeginWithSuperblock (take keep x.content.slots)
  pub bare : (disk : Disk) → laws.IsUnloaded t.disk disk ahead x (pair_joined_to fresh (take keep x.content.slots) x) (pair_behind fresh x) back (take keep x.content.slots)
      → file_blocks disk (take keep x.content.slots) ≡ []
  pub kept : keep ≤ length x.content.slots
  pub taken : (disk : Disk) → laws.IsUnloaded t.disk disk ahead x (pair_joined_to fresh (take keep x.content.slots) x) (pair_behind fresh x) back (take keep x.content.slots)
      → IsSameWritable t.disk (ahead ++ x ∷ back) disk (ahead ++ pair_joined_to fresh (take keep x.content.slots) x ∷ pair_behind fresh x ∷ back)
      × (count_before_root (ahead ++ pair_joined_to fresh (take keep x.content.slots) x ∷ pair_behind fresh x ∷ back) ≡ root)

module _ {t : KeptThread} {index keep : ℕ} {fresh : ℕ × ℕ} {root : ℕ} (u : IsUnloading t index keep fresh root) where
  abbrev x : Pair
  x = u.x

  abbrev q : Pair
  q = pair_joined_to fresh (take keep u.x.content.slots) u.x

  abbrev y : Pair
  y = pair_behind fresh u.x

  abbrev qs : List Pair
  qs = u.ahead ++ q ∷ y ∷ u.back

  -- where the pair stands
  abbrev w : Site
  w = record { chain = u.ahead; before = []; left = []; right = []; after = u.back }

  there : thread_pair t index ≡ u.x
  there = beside.pair_there t u.ready index w x u.is u.place fresh u.two

  pub can_unload : {s : KeptThread} → s ≡ with_map t (map_allocating_two t.map fresh) → CanUnload s index fresh keep
  can_unload taken = subst (λ (s : KeptThread). CanUnload s index fresh keep) (sym taken) (record {
    below = let l = ap length u.is in let a = length-append u.ahead (x ∷ u.back) in let n = u.place in omega arith;
    slots = subst (λ (z : Pair). keep ≤ length z.content.slots) (sym there) u.kept;
    fits = subst (λ (z : Pair). FitsInPair t.disk.block_size t.disk.page z.content) (sym there) (beside.fit t u.ready index w x u.is u.place fresh u.two).0;
    held = held t.map fresh u.two;
  })

  unused : AreUnused t.disk t.pairs fresh
  unused = beside.unused t u.ready index w x u.is u.place fresh u.two

  unloaded : (disk : Disk) → IsWrittenBeside t index fresh q.content y.content disk → laws.IsUnloaded t.disk disk u.ahead x q y u.back (take keep u.x.content.slots)
  unloaded disk on = record {
    device = beside.device_beside t u.ready index w x u.is u.place fresh u.two disk q.content y.content u.marked on;
    free = beside.free t u.ready index w x u.is u.place fresh u.two;
    at = refl;
    kept = refl;
    tail = refl;
    delta = refl;
    slots = refl;
    last = refl;
    none = refl;
  }

  left_unloaded : (left : Blocks) → LossLeavesUnloaded (with_map t (map_allocating_two t.map fresh)) index fresh keep left → HasEitherTree (with_blocks left t.disk) (disk_tree t.disk t.pairs) (disk_tree t.disk t.pairs)
  left_unloaded left l = go l.content
    where
      go : HasOldPair (with_map t (map_allocating_two t.map fresh)) index (with_blocks left t.disk) ⊎ UnloadedOnDisk (with_map t (map_allocating_two t.map fresh)) index fresh keep (with_blocks left t.disk)
          → HasEitherTree (with_blocks left t.disk) (disk_tree t.disk t.pairs) (disk_tree t.disk t.pairs)
      go (inl b) = beside.left_old t u.ready index w x u.is u.place fresh u.two left l.others b
      go (inr n) = beside.shows_tree t u.ready index w x u.is u.place fresh u.two (with_blocks left t.disk) qs (u.taken (with_blocks left t.disk) (unloaded (with_blocks left t.disk)
          (subst (λ (z : Pair). IsWrittenBeside t index fresh (pair_joined_to fresh (take keep z.content.slots) z).content (pair_behind fresh z).content (with_blocks left t.disk)) there
          (record { shape = shape_left t left l.others.count; others = l.others; here = n.keeps; behind = n.behind; first = n.first })))).0

  pub unload_survives : {s : KeptThread} {new : List CallEvent} → s ≡ with_map t (map_allocating_two t.map fresh) → CleanLossLeaves s.history new (LossLeavesUnloaded s index fresh keep)
      → SurvivesLossSince t.disk t.history new (disk_tree t.disk t.pairs) (disk_tree t.disk t.pairs)
  unload_survives {new = new} taken stops = survives_step t.disk left_unloaded (subst (λ (s : KeptThread). CleanLossLeaves s.history new (LossLeavesUnloaded s index fresh keep)) taken stops)

  pub unload_writes : {s new : KeptThread} → s ≡ with_map t (map_allocating_two t.map fresh) → ChangesThreadBlocks (addresses_blocks (thread_pair s index).at fresh) s new → WritesPairAndTwoFree t index new
  unload_writes {new = new} taken writes = writes_in t index fresh [] u.two new (subst (λ (s : KeptThread). ChangesThreadBlocks (addresses_blocks (thread_pair s index).at fresh) s new) taken writes)

  -- ---- it was done

  module _ {s new : KeptThread} (taken : s ≡ with_map t (map_allocating_two t.map fresh)) (is_done : IsUnloaded s index fresh keep new) (are_written : ChangesThreadBlocks (addresses_blocks (thread_pair s index).at fresh) s new) where
    done : IsUnloaded (with_map t (map_allocating_two t.map fresh)) index fresh keep new
    done = subst (λ (s : KeptThread). IsUnloaded s index fresh keep new) taken is_done

    writes : ChangesThreadBlocks (addresses_blocks (thread_pair t index).at fresh) (with_map t (map_allocating_two t.map fresh)) new
    writes = subst (λ (s : KeptThread). ChangesThreadBlocks (addresses_blocks (thread_pair s index).at fresh) s new) taken are_written

    pairs : new.pairs ≡ u.ahead ++ pair_joined_to fresh (take keep u.x.content.slots) u.x ∷ pair_behind fresh u.x ∷ u.back
    pairs = done.pairs ∙ ap (λ (z : Pair). pairs_split t.pairs index (pair_joined_to fresh (take keep z.content.slots) z) (pair_behind fresh z)) there ∙ two_now t index w x u.is u.place q y

    now : laws.IsUnloaded t.disk new.disk u.ahead x q y u.back (take keep u.x.content.slots)
    now = unloaded new.disk (beside.written_now t u.ready index w x u.is u.place fresh u.two new w q.content y.content pairs done.thread.contents
        (subst (λ (z : Pair). KeepsSuperblockFirst t.disk (thread_pair t index).at (pair_joined_to fresh (take keep z.content.slots) z).content new.disk) there done.first) writes)

    no_move : HasNoMove (pairs_gstate (u.ahead ++ u.x ∷ u.back))
    no_move = beside.no_move t u.ready index w x u.is u.place fresh u.two

    two_more : length (used_blocks new.disk new.pairs) ≡ length (used_blocks t.disk t.pairs) + 2
    two_more =
        let l = unloaded_length t.disk new.disk u.ahead x q y u.back (take keep u.x.content.slots) no_move now (u.bare new.disk now) in
        ap (λ z. length (used_blocks new.disk z)) pairs ∙ (let e = ap (λ z. length (used_blocks t.disk z)) u.is in omega arith)

    eighth : 8 * (used_count t.map + 2) ≤ 7 * block_count t.disk → EighthFree new.disk new.pairs
    eighth room =
        let e = used_count-AreUsed t.map (used_blocks t.disk t.pairs) u.ready.accepted.owned_once u.ready.used in
        let c = writes.shape.count in
        let l = two_more in
        omega arith

    others : KeepsOutsideBoth u.x.at fresh t.disk.blocks new.disk.blocks
    others = subst (λ (z : Pair). KeepsOutsideBoth z.at fresh t.disk.blocks new.disk.blocks) there writes.others

    revision_now : pair_revision new.disk fresh ≡ option_map (λ r. (r + 1) % 2 ^ 32) (pair_revision t.disk u.x.at)
    revision_now = done.revision ∙ ap (λ (z : Pair). option_map (λ r. (r + 1) % 2 ^ 32) (pair_revision t.disk z.at)) there

    root_now : count_before_root new.pairs ≡ root
    root_now = ap count_before_root pairs ∙ (u.taken new.disk now).1

    files : KeepsTreeAndFiles t new
    files = beside.shows_files t u.ready index w x u.is u.place fresh u.two new qs pairs (u.taken new.disk now).0 now.device
        (subst (λ m. AreUsed m (used_blocks new.disk qs)) (sym done.map) (used_more t.map fresh u.two (used_blocks t.disk (u.ahead ++ x ∷ u.back)) (used_blocks new.disk qs)
        (unloaded_blocks t.disk new.disk u.ahead x q y u.back (take keep u.x.content.slots) no_move now (u.bare new.disk now)) (subst (λ z. AreUsed t.map (used_blocks t.disk z)) u.is u.ready.used)))
        (ap length done.map ∙ length_now t.map fresh u.two) (subst (HasSameBlocksInFlight t.map) (sym done.map) (beside.flying t u.ready index w x u.is u.place fresh u.two))

-- ---- a directory's first pair

-- the pairs in front of one that stands behind the root directory's first
record HasRoot (ahead : List Pair) (n : ℕ) : Type 0 where
  chain : List Pair
  first : Pair
  rest : List Pair
  is : ahead ≡ chain ++ first ∷ rest
  count : length chain ≡ n

has_root : (ahead : List Pair) (n : ℕ) → n < length ahead → HasRoot ahead n
has_root ahead n few = go (drop n ahead) refl
  where
    go : (rest : List Pair) → drop n ahead ≡ rest → HasRoot ahead n
    go [] e = absurd (let t = ap length (take-append-drop n ahead) in let l = length-append (take n ahead) (drop n ahead) in let k = length-take-le n ahead (omega arith) in let d = ap length e in omega arith)
    go (f ∷ rest) e = record { chain = take n ahead; first = f; rest = rest; is = sym (take-append-drop n ahead) ∙ ap (λ z. take n ahead ++ z) e; count = length-take-le n ahead (omega arith) }

module _ (t : KeptThread) (index : ℕ) (fresh : ℕ × ℕ) (can : CanMovePairSlots t index fresh) where
  -- the pair before the worn one, and the worn one
  at : TwoAt t.pairs (index - 1)
  at = two_at t.pairs (index - 1) (let a = can.begins.behind in let b = can.below in omega arith)

  abbrev pairs_ahead : List Pair
  pairs_ahead = at.ahead ++ at.one ∷ []

  pairs_are : t.pairs ≡ (at.ahead ++ at.one ∷ []) ++ at.other ∷ at.back
  pairs_are = at.is ∙ sym (append_assoc at.ahead (at.one ∷ []) (at.other ∷ at.back))

  number_is : index ≡ length (at.ahead ++ at.one ∷ []) + 0
  number_is = let l = length-append at.ahead (at.one ∷ []) in let n = at.number in let r = can.begins.behind in omega arith

  one_there : thread_pair t (index - 1) ≡ at.one
  one_there = front_is t (index - 1) at.ahead at.one at.other at.back at.is at.number

  worn_there : thread_pair t index ≡ at.other
  worn_there = pair_is t index (record { chain = pairs_ahead; before = []; left = []; right = []; after = at.back }) at.other pairs_are number_is

  soft : is_hard_tail at.one.content.tail ≡ false
  soft = ap (λ (z : Pair). is_hard_tail z.content.tail) (sym one_there) ∙ can.begins.first

  some : has_slots at.other.content.slots ≡ true
  some = ap (λ (z : Pair). has_slots z.content.slots) (sym worn_there) ∙ can.begins.some

  r : HasRoot (at.ahead ++ at.one ∷ []) (count_before_root t.pairs)
  r = has_root pairs_ahead (count_before_root t.pairs) (let n = number_is in let c = can.begins.behind in omega arith)

  there_is : (zs : List Pair) → (at.ahead ++ at.one ∷ []) ++ zs ≡ r.chain ++ (r.first ∷ r.rest ++ zs)
  there_is zs = ap (λ z. z ++ zs) r.is ∙ append_assoc r.chain (r.first ∷ r.rest) zs

  is_chain : IsChain r.chain (r.first ∷ r.rest ++ at.other ∷ at.back)
  is_chain = ap count_before_root (sym (there_is (at.other ∷ at.back)) ∙ sym pairs_are) ∙ sym r.count

  ok : IsAccepted t.disk (r.chain ++ (r.first ∷ r.rest ++ at.other ∷ at.back))
  ok = subst (IsAccepted t.disk) (pairs_are ∙ there_is (at.other ∷ at.back)) can.ready.accepted

  -- only the root's first pair has a superblock
  no_superblock : begins_with_superblock at.other.content.slots ≡ false
  no_superblock = starts_not at.other.content.slots (each_right (λ z. All IsFileOrDirectory z.content.slots) r.rest (at.other ∷ at.back) (hold_each (StructMark t.disk.profile.versions ok.superblock.0) (r.rest ++ at.other ∷ at.back)
      (hold_from_rules (StructMark t.disk.profile.versions ok.superblock.0) r.chain r.first (r.rest ++ at.other ∷ at.back) is_chain ok.superblock.1.1 ok.root ok.slots).1.1)).0

  ends_soft : last_tail_is_hard false (r.first ∷ r.rest) ≡ false
  ends_soft = sym (flag_append false r.chain (r.first ∷ r.rest)) ∙ ap (last_tail_is_hard false) (sym r.is) ∙ flag_last at.ahead at.one false ∙ soft

  module _ (disk : Disk) (c : laws.IsUnloaded t.disk disk (at.ahead ++ at.one ∷ []) at.other (pair_joined_to fresh [] at.other) (pair_behind fresh at.other) at.back []) where
    abbrev stub : Pair
    stub = pair_joined_to fresh [] at.other

    abbrev loaded : Pair
    loaded = pair_behind fresh at.other

    taken : Unthreads t.disk disk r.chain (r.first ∷ r.rest ++ at.other ∷ at.back) (r.first ∷ r.rest ++ pair_joined_to fresh [] at.other ∷ pair_behind fresh at.other ∷ at.back)
    taken = unload t.disk disk r.chain r.first r.rest at.other stub loaded at.back (record {
      accepted = ok;
      writable = subst (IsWritable t.disk) (pairs_are ∙ there_is (at.other ∷ at.back)) can.ready.writable;
      no_move = no_move_from (r.chain ++ (r.first ∷ r.rest ++ at.other ∷ at.back)) (ap pairs_gstate (sym (there_is (at.other ∷ at.back)) ∙ sym pairs_are) ∙ can.ready.settled);
      is_chain = is_chain;
    }) (subst (λ z. laws.IsUnloaded t.disk disk z at.other stub loaded at.back []) r.is c) ends_soft (λ none. absurd (let z = sym some ∙ ap has_slots none in cc))

    same_tree : IsSameWritable t.disk ((at.ahead ++ at.one ∷ []) ++ at.other ∷ at.back) disk ((at.ahead ++ at.one ∷ []) ++ pair_joined_to fresh [] at.other ∷ pair_behind fresh at.other ∷ at.back)
    same_tree = subst₂ (λ a b. IsSameWritable t.disk a disk b) (sym (there_is (at.other ∷ at.back))) (sym (there_is (stub ∷ loaded ∷ at.back))) (record {
      same = record {
        accepted = taken.taken.follows.accepted;
        shows = taken.taken.follows.shows;
        stays = λ path. taken.taken.follows.stays path (λ tree attributes bytes k. (attributes, k));
        gstate = ap pairs_gstate (sym (there_is (stub ∷ loaded ∷ at.back))) ∙ laws.unloaded_gstate pairs_ahead at.other stub loaded at.back refl refl ∙ ap pairs_gstate (there_is (at.other ∷ at.back));
      };
      writable = taken.taken.writable;
    })

  pub unloading : IsUnloading t index 0 fresh (count_before_root t.pairs)
  unloading = record {
    ready = can.ready;
    two = can.free;
    ahead = at.ahead ++ at.one ∷ [];
    x = at.other;
    back = at.back;
    is = pairs_are;
    place = number_is;
    marked = λ h. absurd (let k = sym h.kind ∙ no_superblock in cc);
    bare = λ disk c. refl;
    kept = omega arith;
    taken = λ disk c. (same_tree disk c, ap count_before_root (there_is (pair_joined_to fresh [] at.other ∷ pair_behind fresh at.other ∷ at.back)) ∙ (taken disk c).ready.is_chain ∙ r.count);
  }

  pub unloaded_at : {s new : KeptThread} → s ≡ with_map t (map_allocating_two t.map fresh) → IsUnloaded s index fresh 0 new → ChangesThreadBlocks (addresses_blocks (thread_pair s index).at fresh) s new → AreWornPairSlotsMoved t index fresh new
  unfolding unloading
  unloaded_at taken done writes = record {
    unloaded = record {
      front = at.ahead;
      before = at.one;
      worn = at.other;
      back = at.back;
      to = fresh;
      was = at.is;
      first = soft;
      some = some;
      is = pairs unloading taken done writes ∙ append_assoc at.ahead (at.one ∷ []) (pair_joined_to fresh [] at.other ∷ pair_behind fresh at.other ∷ at.back);
      unused = unused unloading;
      room = eighth unloading taken done writes can.eighth;
      due = ap (is_worn t.disk) (sym worn_there) ∙ can.worn;
    };
    to = refl;
    number = let n = at.number in let c = can.begins.behind in omega arith;
    files = files unloading taken done writes;
    others = others unloading taken done writes;
    revision = revision_now unloading taken done writes;
    two_more = two_more unloading taken done writes;
    root = root_now unloading taken done writes;
  }

-- ---- the thread's first pair

take_named : (slots : List Slot) → option_map (λ s. s.name) (slice_get (take 1 slots) 0) ≡ option_map (λ s. s.name) (slice_get slots 0)
take_named [] = refl
take_named (s ∷ slots) = refl

take_started : (slots : List Slot) → begins_with_superblock (take 1 slots) ≡ begins_with_superblock slots
take_started [] = refl
take_started (s ∷ slots) = refl

take_bare : (slots : List Slot) → begins_with_superblock slots ≡ true → has_no_entry (take 1 slots) ≡ true
take_bare [] e = refl
take_bare (s ∷ slots) e = e

take_few : (slots : List Slot) → begins_with_superblock slots ≡ true → 1 ≤ length slots
take_few [] e = absurd (cc)
take_few (s ∷ slots) e = omega arith

-- the thread's first pair, and the others
pub record HasFirstPair (ps : List Pair) : Type 0 where
  pub first : Pair
  pub others : List Pair
  pub is : ps ≡ first ∷ others

first_pair : (ps : List Pair) → ps ≢ [] → HasFirstPair ps
first_pair [] filled = absurd (filled refl)
first_pair (p ∷ ps) filled = record { first = p; others = ps; is = refl }

module _ (t : KeptThread) (fresh : ℕ × ℕ) (can : CanExpandSuperblockChain t fresh) where
  begin : HasFirstPair t.pairs
  begin = first_pair t.pairs (λ none. absurd (let k = ap (λ z. first_slot_name (pairs_from_nonempty z)) (sym none) ∙ can.ready.accepted.named in cc))

  root_accepted : IsAccepted t.disk (begin.first ∷ begin.others)
  root_accepted = subst (IsAccepted t.disk) begin.is can.ready.accepted

  root_writable : IsWritable t.disk (begin.first ∷ begin.others)
  root_writable = subst (IsWritable t.disk) begin.is can.ready.writable

  root_none : HasNoMove (pairs_gstate (begin.first ∷ begin.others))
  root_none = no_move_from (begin.first ∷ begin.others) (ap pairs_gstate (sym begin.is) ∙ can.ready.settled)

  root_number : count_before_root (begin.first ∷ begin.others) ≡ 0
  root_number = ap count_before_root (sym begin.is) ∙ can.root

  root_held : IsSuperblockFirst (RepeatsSuperblockStruct t.disk.profile.versions root_accepted.superblock.0) begin.first.content.slots
  root_held = (hold_from_rules (StructMark t.disk.profile.versions root_accepted.superblock.0) [] begin.first begin.others root_number root_accepted.superblock.1.1 root_accepted.root root_accepted.slots).1.0

  root_starts : begins_with_superblock begin.first.content.slots ≡ true
  root_starts = starts begin.first.content.slots (StructMark t.disk.profile.versions root_accepted.superblock.0) root_held

  pub expanding : IsUnloading t 0 1 fresh 1
  expanding = record {
    ready = can.ready;
    two = can.free;
    ahead = [];
    x = begin.first;
    back = begin.others;
    is = begin.is;
    place = refl;
    marked = λ h. (take_started begin.first.content.slots ∙ h.kind, take_named begin.first.content.slots ∙ h.name);
    bare = λ disk c. kept_bare t.disk disk begin.first (pair_joined_to fresh (take 1 begin.first.content.slots) begin.first) (pair_behind fresh begin.first) begin.others root_accepted root_writable root_none root_number c;
    kept = take_few begin.first.content.slots root_starts;
    taken = λ disk c. (
      root_unloads t.disk disk begin.first (pair_joined_to fresh (take 1 begin.first.content.slots) begin.first) (pair_behind fresh begin.first) begin.others root_accepted root_writable root_none root_number c,
      root_next,
    );
  }
    where
      root_next : count_before_root (pair_joined_to fresh (take 1 begin.first.content.slots) begin.first ∷ pair_behind fresh begin.first ∷ begin.others) ≡ 1
      root_next = ap₂ (λ b n. cond b (1 + n) 0)
          (and_from (has_superblock (pair_behind fresh begin.first ∷ begin.others)) (chain_may_continue (pair_joined_to fresh (take 1 begin.first.content.slots) begin.first)) (meets_starting (pair_behind fresh begin.first) begin.others root_starts)
          (and_from (has_no_entry (take 1 begin.first.content.slots)) true (take_bare begin.first.content.slots root_starts) refl)) root_number

  pub root_expanded : {s new : KeptThread} → s ≡ with_map t (map_allocating_two t.map fresh) → IsUnloaded s 0 fresh 1 new → ChangesThreadBlocks (addresses_blocks (thread_pair s 0).at fresh) s new → IsSuperblockChainExpanded t fresh new
  unfolding expanding
  root_expanded taken done writes = record {
    unloaded = record {
      worn = begin.first;
      back = begin.others;
      to = fresh;
      was = begin.is;
      root = can.root;
      is = pairs expanding taken done writes;
      unused = unused expanding;
      room = eighth expanding taken done writes can.eighth;
      due = ap (is_worn t.disk) (sym (there expanding)) ∙ can.worn;
    };
    to = refl;
    files = files expanding taken done writes;
    others = others expanding taken done writes;
    revision = revision_now expanding taken done writes;
    two_more = two_more expanding taken done writes;
    root = root_now expanding taken done writes;
  }
