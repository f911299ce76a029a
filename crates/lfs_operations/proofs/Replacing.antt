-- An entry that becomes another of the same name, as a step of the thread.
use Rattle.lfs_operations.proofs.Common.{nat_eq, ℕ, ◌≡◌, ◌+◌, ◌<◌, ◌≤◌, false, List, [], ◌∷◌, ◌++◌, length, Some, refl, sym, ap, ap₂, subst, ◌∙◌, arith, length-append, set, sum_by, same_Some, sum_by-append, sum_by-cons, ContentChange, content_with_changes, RawContent, RawSlot, raw_content, decoded_slot, decoded_content, slot_changed_at, slot_of_id, Disk, SameGeometry, disk_block, IsPositionOfName, Slot, PairContent, FitsInPair, is_superblock, slot_size, Pair, pairs_gstate, tail_target, IsFileOrDirectory, IsWellFormedList, IsWritableEntry, all_unmoved_slots, struct_blocks, used_blocks, no_move_from, completed_parts, completed_from, Each, each_pieces, each_right, occurrence_count, count_append, Does, does_first, does_nothing, SameFileBlocks, entry_small, site, same, IsDistinct, IsInFlight, Site, thread_at, unmoved_in, logged_changed, changed_pair_content, KeptThread, RefusesChanges, thread_pair, complete_after, is_some, option_and_then, IsNamed, set_here, CanCommitOrSplit, CanEditIn, editable_slot, subst₂, All, AllReached, AreCommittedOrSplit, CallEvent, CleanLossLeaves, CompletesOperation, IsChangedImage, IsStep, IsWritableSlot, LeftByCommitOrSplit, Name, Operation, Session, HasTreeBeforeMapUpdate, SurvivesLossSince, commit_step, disk_tree, pairs_blocks, recovered_from, recursion_from_All, some_filled, tree_with_change}
use Rattle.lfs_model.proofs.Completed.{complete_set}
use Rattle.lfs_model.proofs.Halves.{set_cut}
use Rattle.lfs_model.proofs.Superblocks.{entry_is_other}
use Rattle.lfs_operations.proofs.Held.{CompletesTo, IsEntryIfOther, below, each_pair, fits_there, here, other_entries, raw_there}
use Rattle.lfs_model.proofs.RawSlots.{IsRaw, is_named, is_raw}
use Rattle.lfs_operations.proofs.Splicing.{IsSplicing, Commits}
use Rattle.lfs_model.specs.tree.Tree.{Node}
use Rattle.lfs_operations.proofs.Stepped.{AllFollow, HasStep, becomes, put_step, survives}
use Rattle.lfs_operations.proofs.PairAt.{HasPairAt, pair_at}

-- the change makes that of the slot at the id
abbrev pub Makes : ContentChange → ℕ → (RawSlot → RawSlot) → Type 0
Makes change id g = (c : RawContent) → id < 0x3ff → IsNamed c.slots id → Does change c (record c { slots = slot_changed_at g c.slots id })

-- of what is complete it makes something complete
abbrev pub Turns : (RawSlot → RawSlot) → Slot → Slot → Type 0
Turns g u v = (x : RawSlot) → decoded_slot x ≡ Some u → decoded_slot (g x) ≡ Some v

-- where some slots come in place of others and take no more, the pair fits as it did
pub fits_replaced : (block_size page : ℕ) (c d : PairContent) (left olds news right : List Slot) → c.slots ≡ left ++ (olds ++ right) → d.slots ≡ left ++ (news ++ right) → sum_by slot_size news ≤ sum_by slot_size olds → length news ≤ length olds
    → FitsInPair block_size page c → FitsInPair block_size page d
fits_replaced block_size page c d left olds news right was now small few f =
    let a = ap (sum_by slot_size) was ∙ sum_by-append slot_size left (olds ++ right) in
    let b = sum_by-append slot_size olds right in
    let e = ap (sum_by slot_size) now ∙ sum_by-append slot_size left (news ++ right) in
    let g = sum_by-append slot_size news right in
    let h = ap length was ∙ length-append left (olds ++ right) in
    let i = length-append olds right in
    let j = ap length now ∙ length-append left (news ++ right) in
    let k = length-append news right in
    let size = f.size in
    let number = f.count in
    record { size = omega arith; count = omega arith }

-- ---- the entry in the image

module _ {t : KeptThread} {index id : ℕ} (can : CanEditIn t index id) where
  abbrev pub s : IsPositionOfName t.pairs can.first can.name index id
  s = can.stands

  abbrev pub p : Pair
  p = s.pair

  abbrev pub l : List Slot
  l = s.stands.left

  abbrev pub r : List Slot
  r = s.stands.right

  abbrev pub u : Slot
  u = s.stands.slot

  abbrev pub w : Site
  w = site t.disk t.pairs can.path can.at can.ready.accepted can.leads can.first index p s.rest s.place can.begins

  pub stand : HasPairAt t index can.path can.at w p
  stand = pair_at t can.ready can.path can.at can.leads can.first index p s.rest s.place can.begins

  -- what holds of all slots holds of it
  pub of_slot : (P : Slot → Type 0) → Each P (all_unmoved_slots t.pairs) → P u
  of_slot P h =
      let on = subst (Each P) (unmoved_in (pairs_gstate t.pairs) (no_move_from t.pairs can.ready.settled) t.pairs) h in
      let here = each_pair t can.ready can.first index p s.rest s.place (λ x. Each P x.content.slots) (each_pieces P (λ (x : Pair). x.content.slots) t.pairs on) in
      (each_right P l (u ∷ r) (subst (Each P) s.stands.held here)).0

  pub other : is_superblock u ≡ false
  other = s.stands.entry

  pub entry : IsFileOrDirectory u
  entry =
      let here = each_pair t can.ready can.first index p s.rest s.place (λ x. Each IsEntryIfOther x.content.slots) (other_entries t.disk t.pairs can.ready.accepted) in
      (each_right IsEntryIfOther l (u ∷ r) (subst (Each IsEntryIfOther) s.stands.held here)).0 other

  -- the image may have it
  pub fits_was : IsWritableEntry t.disk.profile t.disk.block_size t.disk.page u
  fits_was =
      let here = each_pair t can.ready can.first index p s.rest s.place (λ x. All (IsWritableSlot t.disk.profile t.disk.block_size t.disk.page) x.content.slots)
      (recursion_from_All (λ (x : Pair). All (IsWritableSlot t.disk.profile t.disk.block_size t.disk.page) x.content.slots) t.pairs can.ready.writable.slots) in
      let slots = subst (Each (IsWritableSlot t.disk.profile t.disk.block_size t.disk.page)) s.stands.held (recursion_from_All (IsWritableSlot t.disk.profile t.disk.block_size t.disk.page) p.content.slots here) in
      (each_right (IsWritableSlot t.disk.profile t.disk.block_size t.disk.page) l (u ∷ r) slots).0.1 other

  -- The slot in its place, and the blocks that the two name. Some that only the old one names are gone, and some came.
  pub record Names (v : Slot) (gone come : List ℕ) : Type 0 where
    pub entry : IsFileOrDirectory v
    pub flying : Each (IsInFlight t.map) come
    pub apart : IsDistinct nat_eq (come ++ used_blocks t.disk t.pairs)
    pub lists : (disk : Disk) → SameGeometry t.disk disk → SameFileBlocks t.disk disk u.struct → Each (λ b. disk_block disk b ≡ disk_block t.disk b) come → IsWellFormedList disk v.struct
    pub blocks : (disk : Disk) → SameGeometry t.disk disk → SameFileBlocks t.disk disk u.struct → Each (λ b. disk_block disk b ≡ disk_block t.disk b) come
        → (b : ℕ) → occurrence_count b (struct_blocks disk v.struct) + occurrence_count b gone ≡ occurrence_count b come + occurrence_count b (struct_blocks t.disk u.struct)

-- ---- what the change makes

-- the change makes that slot of the entry's, and the image may have it
pub record IsReplacing (t : KeptThread) (index id : ℕ) (can : CanEditIn t index id) (v : Slot) (change : ContentChange) : Type 0 where
  pub g : RawSlot → RawSlot
  pub does : Makes change id g
  pub turns : Turns g (editable_slot can) v
  pub fits : IsWritableEntry t.disk.profile t.disk.block_size t.disk.page v

module _ {t : KeptThread} {index id : ℕ} {can : CanEditIn t index id} {v : Slot} {change : ContentChange} (k : IsReplacing t index id can v change) where
  within : id < length can.stands.pair.content.slots
  within = let h = ap length can.stands.stands.held in let m = length-append (l can) (u can ∷ r can) in let n = can.stands.stands.number in omega arith

  abbrev c : CompletesTo (raw_content t.disk (thread_pair t index).at) can.stands.pair.content
  c = raw_there t can.ready can.first index can.stands.pair can.stands.rest can.stands.place

  raw : IsRaw c.raw.slots (l can) (u can)
  raw = is_raw c.raw.slots (l can) (u can) (r can) ((completed_parts c.raw can.stands.pair.content c.complete).slots ∙ ap Some can.stands.stands.held)

  there_raw : slot_of_id c.raw.slots id ≡ raw.here
  there_raw = ap (slot_of_id c.raw.slots) (sym can.stands.stands.number) ∙ raw.there

  fits_there_now : FitsInPair t.disk.block_size t.disk.page can.stands.pair.content
  fits_there_now = fits_there t can.ready can.first index can.stands.pair can.stands.rest can.stands.place

  abbrev raw_now : RawContent
  raw_now = record c.raw { slots = slot_changed_at k.g c.raw.slots id }

  changed_now : content_with_changes c.raw (change ∷ []) ≡ Some raw_now
  changed_now =
      let few = fits_there_now.count in
      let m = within in
      does_first change [] c.raw raw_now raw_now (k.does c.raw (omega arith) (ap (λ (z : RawSlot). is_some z.name) there_raw ∙ is_named raw.here (u can) raw.is)) (does_nothing raw_now)

  made_raw : changed_pair_content t.disk (thread_pair t index).at (change ∷ []) ≡ Some raw_now
  made_raw = ap (λ o. option_and_then (λ (x : RawContent). content_with_changes x (change ∷ [])) o) c.is ∙ changed_now

  abbrev now : PairContent
  now = record { slots = set can.stands.pair.content.slots id v; tail = can.stands.pair.content.tail; move = can.stands.pair.content.move }

  slots_now : set can.stands.pair.content.slots id v ≡ l can ++ (v ∷ [] ++ r can)
  slots_now = ap₂ (λ (z : List Slot) (i : ℕ). set z i v) can.stands.stands.held (sym can.stands.stands.number) ∙ set_here (l can) (r can) (u can) v

  now_complete : decoded_content raw_now ≡ Some now
  now_complete =
      let parts = completed_parts c.raw can.stands.pair.content c.complete in
      completed_from raw_now (set can.stands.pair.content.slots id v) (complete_set c.raw.slots can.stands.pair.content.slots id (k.g (slot_of_id c.raw.slots id)) v parts.slots
      (ap (λ (z : RawSlot). decoded_slot (k.g z)) there_raw ∙ k.turns raw.here raw.is))
      ∙ ap₂ (λ t m. Some (record { slots = set can.stands.pair.content.slots id v; tail = t; move = m })) (sym parts.tail) (sym parts.move)

  made : complete_after t index (change ∷ []) ≡ Some now
  made = ap (λ o. option_and_then decoded_content o) made_raw ∙ now_complete

  -- where it takes no more than it did, what the change makes fits the pair, as what it held did
  fits_as_before : slot_size v ≤ slot_size (editable_slot can) → FitsInPair t.disk.block_size t.disk.page now
  fits_as_before less = fits_replaced t.disk.block_size t.disk.page can.stands.pair.content now (l can) (u can ∷ []) (v ∷ []) (r can) can.stands.stands.held slots_now
      (let a = sum_by-cons slot_size v [] in let b = sum_by-cons slot_size (u can) [] in omega arith) (omega arith) fits_there_now

  pub not_refused : slot_size v ≤ slot_size (editable_slot can) → (new : KeptThread) → RefusesChanges t index (change ∷ []) new → ⊥
  not_refused less new is = is.too_large (subst (FitsInPair t.disk.block_size t.disk.page) (sym (same_Some is.content now (sym is.made ∙ made))) (fits_as_before less))

  pub can_put : CanCommitOrSplit t index (change ∷ [])
  can_put = record {
    can = record {
      below = below t can.ready can.first index can.stands.pair can.stands.rest can.stands.place;
      content = now;
      made = made;
      next = ap (λ (z : Pair). tail_target z.content.tail) (sym (here t can.ready can.first index can.stands.pair can.stands.rest can.stands.place));
    };
    raw = raw_now;
    made = made_raw;
    cut = set_cut t.disk.block_size t.disk.page raw_now now can.stands.pair.content (l can) (u can) v (r can) (logged_changed c.raw (change ∷ []) raw_now (can.logged c.raw c.is) changed_now) now_complete can.stands.stands.held slots_now
        (entry_small t.disk.profile t.disk.block_size t.disk.page v can.ready.large k.fits) fits_there_now;
  }

  -- ---- as a step of the thread

  module _ {gone come : List ℕ} (n : Names can v gone come) where
    splicing : IsSplicing t index (change ∷ []) (w can) can.stands.pair (l can) (u can ∷ []) (v ∷ []) (r can) gone come
    splicing = record {
      ready = can.ready;
      there = (stand can).there;
      place = (stand can).number;
      site = (stand can).site;
      content = now;
      made = made;
      tail = refl;
      move = refl;
      was = can.stands.stands.held;
      now = slots_now;
      front = λ e. other can;
      entries = (n.entry, tt);
      fit = (((λ e. absurd (let z = sym (entry_is_other v n.entry) ∙ e in cc)), (λ e. k.fits)), tt);
      flying = n.flying;
      apart = n.apart;
      lists = λ disk geometry files same. (n.lists disk geometry (of_slot can (λ x. SameFileBlocks t.disk disk x.struct) files) same, tt);
      blocks = λ disk geometry files same b.
          let e = n.blocks disk geometry (of_slot can (λ x. SameFileBlocks t.disk disk x.struct) files) same b in
          let f = count_append b (struct_blocks disk v.struct) [] in
          let h = count_append b (struct_blocks t.disk (u can).struct) [] in
          omega arith;
    }

    abbrev pub Replaces : Disk → Pair → List Pair → Type 0
    Replaces disk q more = Commits t (w can) can.stands.pair (l can) (u can ∷ []) (v ∷ []) (r can) come disk q more

    abbrev pub HasReplaced : KeptThread → Type 0
    HasReplaced new = HasStep t (w can) can.stands.pair (l can) (u can ∷ []) (v ∷ []) (r can) gone come new

    pub replaced : (new : KeptThread) → AreCommittedOrSplit t index (change ∷ []) new → HasReplaced new
    replaced new is = put_step t index (change ∷ []) (w can) can.stands.pair (l can) (u can ∷ []) (v ∷ []) (r can) gone come splicing new is

    -- the file that the old slot names is as it was
    pub file_kept : (disk : Disk) (q : Pair) (more : List Pair) → Replaces disk q more → SameFileBlocks t.disk disk (editable_slot can).struct
    file_kept disk q more c = of_slot can (λ x. SameFileBlocks t.disk disk x.struct)
        (subst (λ z. Each (λ x. SameFileBlocks t.disk disk x.struct) (all_unmoved_slots z)) (sym (stand can).there)
        (recursion_from_All (λ (x : Slot). SameFileBlocks t.disk disk x.struct) (all_unmoved_slots (thread_at (w can) (can.stands.pair ∷ []))) c.commit.device.files))

    pub step_of : (disk : Disk) (q : Pair) (more : List Pair) → Replaces disk q more
        → IsStep t.disk disk (w can) can.stands.pair [] q more (pairs_blocks more) come (l can) (u can ∷ []) (v ∷ []) (r can)
    step_of disk q more c = commit_step t.disk disk (w can) can.stands.pair q more come (l can) (u can ∷ []) (v ∷ []) (r can) c.commit

    pub reached_before : (disk : Disk) (q : Pair) (more : List Pair) → Replaces disk q more → AllReached (thread_at (w can) (can.stands.pair ∷ []))
    reached_before disk q more c = (recovered_from t.disk (thread_at (w can) (can.stands.pair ∷ [])) c.commit.accepted c.commit.settled).reached

    pub completed : (new : KeptThread) (x : HasReplaced new) (z : Session) (op : Operation) → CompletesOperation t.disk (thread_at (w can) (can.stands.pair ∷ [])) z op new.disk (thread_at (w can) (x.q ∷ x.more))
        → CompletesOperation t.disk t.pairs z op new.disk new.pairs
    completed new x z op h = subst₂ (λ a b. CompletesOperation t.disk a z op new.disk b) (sym (stand can).there) (sym x.pairs) h

    -- where each commit turns the node of that name
    module _ (turn : Node → Node) (follows : (disk : Disk) (q : Pair) (more : List Pair) → Replaces disk q more
        → IsChangedImage t.disk (thread_at (w can) (can.stands.pair ∷ [])) disk (thread_at (w can) (q ∷ more)) (tree_with_change (can.path ++ (editable_slot can).name ∷ []) turn) (λ d. d)) where
      all_follow : AllFollow t index (change ∷ []) (w can) can.stands.pair (l can) (u can ∷ []) (v ∷ []) (r can) gone come splicing (tree_with_change (can.path ++ can.name ∷ []) turn)
      all_follow disk q more c = (
        (λ d. d),
        subst (λ (n : Name). IsChangedImage t.disk (thread_at (w can) (can.stands.pair ∷ [])) disk (thread_at (w can) (q ∷ more)) (tree_with_change (can.path ++ n ∷ []) turn) (λ d. d)) can.stands.stands.named (follows disk q more c),
      )

      pub shows_turned : (new : KeptThread) → HasReplaced new → HasTreeBeforeMapUpdate t new (tree_with_change (can.path ++ can.name ∷ []) turn (disk_tree t.disk t.pairs)) gone come
      shows_turned new x = becomes t index (change ∷ []) (w can) can.stands.pair (l can) (u can ∷ []) (v ∷ []) (r can) gone come splicing (tree_with_change (can.path ++ can.name ∷ []) turn) all_follow
          (λ e. some_filled (l can) (r can) v) new x

      pub survives_turn : (new : List CallEvent) → CleanLossLeaves t.history new (LeftByCommitOrSplit t index (change ∷ [])) → SurvivesLossSince t.disk t.history new (disk_tree t.disk t.pairs) (tree_with_change (can.path ++ can.name ∷ []) turn (disk_tree t.disk t.pairs))
      survives_turn new stops = survives t index (change ∷ []) (w can) can.stands.pair (l can) (u can ∷ []) (v ∷ []) (r can) gone come splicing (tree_with_change (can.path ++ can.name ∷ []) turn) all_follow
          (λ e. some_filled (l can) (r can) v) new stops
