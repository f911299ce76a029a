-- The image after a commit of contents, before and after their lists are settled.
use Rattle.std.proofs.Common.{ℕ, ◌≡◌, ◌≢◌, ◌<◌, ◌≤◌, ◌+◌, ◌∙◌, inl, inr, ⊎_elim, List, [], ◌∷◌, ◌++◌, length, None, Some, true, false, refl, sym, ap, subst, arith, append_assoc}
use Rattle.std.specs.Prelude.{All, Contains}
use Rattle.lfs_tree.proofs.Common.{cases_lt, All-contains, All-from_recursion, same_Some, AreByteBlocks, HoldsForSome, among_right, HoldsSlotOfPath, tree_with_change, same_path, AreUsed, IsFree, IsInFlight, IsUsedBlock, Free, InFlight, Used, Disk, SameGeometry, disk_block, block_count, CallEvent, OnlyReadsSince, IsLayoutAfterOperation, Name, struct_at, Session, HasEitherTree, with_blocks, slot_of_path, Slot, node_with_bytes, Pair, pairs_blocks, pairs_gstate, count_before_root, Path, IsAccepted, IsWritable, struct_blocks, disk_tree, used_blocks, survives_then, Contains-occurrence_count, occurrence_count-Contains, occurrence_count, count_append, each_from_counted, each_weaker, once_from_distinct, SameFileBlocks, file_blocks_same, is_list_same, HoldsAtLosses-read_count, HoldsAtLosses-trans, HoldsAtLosses-weaker, HoldsAtLosses-worst, LeftByLoss-read, IsNewContentsStruct, CanReplaceUsedList, ChangesOnlyMap, IsUsedListReplaced, stored_list_blocks, here, WritesPairAndTwoFree, HasStoredContents, tree_with_contents, KeptThread, ThreadView, thread_pair, ChangesThreadBlocks, IsLaterOnSameDevice, CanChangeRecovered, PowerLossLeavesEither, writer_contents_bytes, CanCommitContents, CanPutContents, HasCommittedBytes, IsPathFile, finished_list, list_in_struct, finished_struct, ChangesPathPair, SizedLists}
use Rattle.lfs_model.specs.session.History.{HoldsAtLosses}
use Rattle.lfs_model.specs.session.Operations as ops
use Rattle.lfs_model.specs.session.Session.{FileWriter, Writing}
use Rattle.lfs_model.specs.crash.Stops.{LeftByLoss}
use Rattle.lfs_file.proofs.Settlement.{settled_exactly}
use Rattle.lfs_tree.proofs.CarryCreated.{ready_to}
use Rattle.lfs_tree.proofs.LeftAlone.{contains_among, holds_slot}
use Rattle.lfs_tree.specs.declared.contents_at.FileSlot.{FileSlot}
use Rattle.lfs_tree.proofs.Carried.{pair_blocks, with_history}
use Rattle.lfs_tree.proofs.CarryEdited.{can_edit, slot_below}
use Rattle.lfs_tree.proofs.CarryFreed.{none_there}
use Rattle.lfs_tree.proofs.CarrySurvives.{survives_behind}
use Rattle.lfs_tree.proofs.CommitContents.{base_before, base_now, blocks_before_is, blocks_now_is, can_read, coming_apart, coming_taken, distinct_list, flying_in, list_apart, list_there, list_used, may_come, over_read, room_there}
use Rattle.lfs_tree.proofs.OpenedFiles.{no_flight, not_free}
use Rattle.lfs_file.specs.declared.contents.WriterContents.{WriterContents}

not_there : (b : ℕ) (bs : List ℕ) → occurrence_count b bs ≤ 0 → All (λ x. x ≢ b) bs
not_there b bs none = All-from_recursion (λ x. x ≢ b) bs (none_there b bs none)

-- ---- the slot gets them

module _ (t : KeptThread) (path : Path) (u : Slot) (ok : IsAccepted t.disk t.pairs) (used : AreUsed t.map (used_blocks t.disk t.pairs)) (at : slot_of_path t.pairs path ≡ Some u) (sized : SizedLists t.disk)
    (c : WriterContents) (can : CanCommitContents t path c) (pair : ℕ) (below : pair < length t.pairs) (new : KeptThread) (w : WritesPairAndTwoFree t pair new) (above : Path) (name : Name) (come : IsNewContentsStruct t (writer_contents_bytes t c) u.struct (finished_struct c))
    (is : HasStoredContents t new above name (writer_contents_bytes t c) come.gone come.come) where
  -- a block that isn't free and no pair's isn't written
  untouched : (b : ℕ) → (IsFree t.map b → ⊥) → occurrence_count b (pairs_blocks t.pairs) ≡ 0 → disk_block new.disk b ≡ disk_block t.disk b
  untouched b taken none =
      let k = pair_blocks t.pairs pair below in
      let off : (x : ℕ) → Contains (pairs_blocks t.pairs) x → x ≢ b = λ x has e. (let some = occurrence_count-Contains (pairs_blocks t.pairs) x has in let z = ap (λ y. occurrence_count y (pairs_blocks t.pairs)) e in absurd (omega arith)) in
      w.writes.others.others b
      (All-from_recursion (λ x. x ≢ b) ((thread_pair t pair).at.0 ∷ (thread_pair t pair).at.1 ∷ w.fresh)
      (off (thread_pair t pair).at.0 k.0, (off (thread_pair t pair).at.1 k.1, each_weaker (IsFree t.map) (λ x. x ≢ b) (λ x f e. taken (subst (IsFree t.map) e f)) w.fresh w.free)))

  geometry : SameGeometry t.disk new.disk
  geometry = record { block_size = w.writes.shape.block_size; page = w.writes.shape.page; order = w.writes.shape.order; profile = w.writes.shape.profile; count = w.writes.shape.count }

  was_taken : (b : ℕ) → 1 ≤ occurrence_count b (struct_blocks t.disk u.struct) → IsFree t.map b → ⊥
  was_taken b some = not_free t.map b (list_used t path u ok used at sized b some)

  now_taken : (b : ℕ) → 1 ≤ occurrence_count b (struct_blocks t.disk (finished_struct c)) → IsFree t.map b → ⊥
  now_taken b some = coming_taken t path u ok used at sized c can.over can.finished b some

  was_same : SameFileBlocks t.disk new.disk u.struct
  was_same = each_from_counted (λ b. disk_block new.disk b ≡ disk_block t.disk b) (struct_blocks t.disk u.struct) (λ b some. untouched b (was_taken b some) (list_apart t path u ok used at sized b some))

  now_same : SameFileBlocks t.disk new.disk (finished_struct c)
  now_same = each_from_counted (λ b. disk_block new.disk b ≡ disk_block t.disk b) (struct_blocks t.disk (finished_struct c))
      (λ b some. untouched b (now_taken b some) (coming_apart t path u ok used at sized c can.over can.finished b some))

  before_is : stored_list_blocks new (list_in_struct u.struct) ≡ struct_blocks t.disk u.struct
  before_is = blocks_before_is new u.struct ∙ file_blocks_same t.disk new.disk u.struct geometry was_same

  now_is : stored_list_blocks new (finished_list c) ≡ struct_blocks t.disk (finished_struct c)
  now_is = blocks_now_is new c ∙ file_blocks_same t.disk new.disk (finished_struct c) geometry now_same

  -- no block of the pairs is in either list
  lists_apart : (b : ℕ) → Contains (pairs_blocks new.pairs) b → ¬ (Contains (stored_list_blocks new (list_in_struct u.struct) ++ stored_list_blocks new (finished_list c)) b)
  lists_apart b has both =
      let some = occurrence_count-Contains (stored_list_blocks new (list_in_struct u.struct) ++ stored_list_blocks new (finished_list c)) b both in
      let e = count_append b (stored_list_blocks new (list_in_struct u.struct)) (stored_list_blocks new (finished_list c)) in
      let f = ap (occurrence_count b) before_is in
      let g = ap (occurrence_count b) now_is in
      ⊎_elim
      (λ k. ⊎_elim (λ was. absurd (let n = list_apart t path u ok used at sized b k in let m = occurrence_count-Contains (pairs_blocks t.pairs) b was in omega arith))
      (λ free. absurd (was_taken b k free)) (is.places b has))
      (λ none. let k : 1 ≤ occurrence_count b (struct_blocks t.disk (finished_struct c)) = omega arith in
      ⊎_elim (λ was. absurd (let n = coming_apart t path u ok used at sized c can.over can.finished b k in let m = occurrence_count-Contains (pairs_blocks t.pairs) b was in omega arith))
      (λ free. absurd (now_taken b k free)) (is.places b has))
      (cases_lt 0 (occurrence_count b (struct_blocks t.disk u.struct)))

  pub can_settle : CanReplaceUsedList new (list_in_struct u.struct) (finished_list c)
  can_settle = record {
    was = base_before new.disk u.struct (is_list_same t.disk new.disk u.struct geometry was_same (list_there t path u ok used at sized));
    list = base_now new.disk c (is_list_same t.disk new.disk (finished_struct c) geometry now_same come.list);
    size = is.now.ready.size;
    apart = lists_apart;
    shared = record {
      used = λ b has _.
          let some = occurrence_count-Contains (stored_list_blocks new (list_in_struct u.struct)) b has in
          let f = ap (occurrence_count b) before_is in
          let was : 1 ≤ occurrence_count b (struct_blocks t.disk u.struct) = omega arith in
          is.now.stays b (was_taken b was) ∙ list_used t path u ok used at sized b was;
    };
  }

  -- ---- the lists are settled

  lists_are : (b : ℕ) → occurrence_count b (stored_list_blocks new (finished_list c)) + occurrence_count b come.gone ≡ occurrence_count b come.come + occurrence_count b (stored_list_blocks new (list_in_struct u.struct))
  lists_are b = let e = come.blocks b in let f = ap (occurrence_count b) before_is in let g = ap (occurrence_count b) now_is in omega arith

  -- the image names the list that came
  list_within : (b : ℕ) → Contains (stored_list_blocks new (finished_list c)) b → Contains (used_blocks new.disk new.pairs) b
  list_within b has =
      let some = occurrence_count-Contains (stored_list_blocks new (finished_list c)) b has in
      let s = is.now.ready.used.same b in
      let l = lists_are b in
      let f = ap (occurrence_count b) before_is in
      Contains-occurrence_count (used_blocks new.disk new.pairs) b (⊎_elim
      (λ was.
      let own = occurrence_count-Contains is.now.ready.used.owned b ((is.now.ready.used.are b).0 (is.now.stays b (was_taken b was) ∙ list_used t path u ok used at sized b was)) in
      let o = is.once b in
      let once = once_from_distinct (struct_blocks t.disk u.struct) (distinct_list t.disk u.struct (list_there t path u ok used at sized)) b in
      omega arith)
      (λ none. omega arith)
      (cases_lt 0 (occurrence_count b (struct_blocks t.disk u.struct))))

  module _ (later : KeptThread) (only : ChangesOnlyMap new later) (settled : IsUsedListReplaced new (list_in_struct u.struct) (finished_list c) later) where
    on : (P : Disk → List Pair → Type 0) → P new.disk new.pairs → P later.disk later.pairs
    on P p = subst (λ (d : Disk). P d later.pairs) (sym only.disk) (subst (P new.disk) (sym only.pairs) p)

    used_later : AreUsed later.map (used_blocks new.disk new.pairs)
    used_later = settled_exactly new.map later.map is.now.ready.used.owned (used_blocks new.disk new.pairs) (stored_list_blocks new (list_in_struct u.struct)) (stored_list_blocks new (finished_list c)) come.gone come.come
        is.now.ready.used.are (λ b. let s = is.now.ready.used.same b in let o = is.once b in omega arith) is.now.ready.used.same lists_are list_within settled

    none_later : (b : ℕ) → ¬ (IsInFlight later.map b)
    none_later b flies = ⊎_elim
        (λ some. absurd (let k : Used ≡ InFlight = same_Some Used InFlight (sym (All-contains (IsUsedBlock later.map) (stored_list_blocks new (finished_list c)) b settled.used (Contains-occurrence_count (stored_list_blocks new (finished_list c)) b some)) ∙ flies) in cc))
        (λ none. ⊎_elim
        (λ was. absurd (let k : Free ≡ InFlight = same_Some Free InFlight (sym (settled.freed b (Contains-occurrence_count (stored_list_blocks new (list_in_struct u.struct)) b was) (not_there b (stored_list_blocks new (finished_list c)) none)) ∙ flies) in cc))
        (λ never.
        let there = is.now.none_comes b (sym (settled.others b (not_there b (stored_list_blocks new (list_in_struct u.struct)) never) (not_there b (stored_list_blocks new (finished_list c)) none)) ∙ flies) in
        let some = occurrence_count-Contains (struct_blocks t.disk (finished_struct c)) b (flying_in t path u ok used at sized c can.over can.finished b there) in
        let g = ap (occurrence_count b) now_is in
        absurd (omega arith))
        (cases_lt 0 (occurrence_count b (stored_list_blocks new (list_in_struct u.struct)))))
        (cases_lt 0 (occurrence_count b (stored_list_blocks new (finished_list c))))

    pub committed : path ≡ above ++ name ∷ [] → ChangesPathPair t.disk t.pairs path new.disk → HasCommittedBytes t path (writer_contents_bytes t c) later
    committed e alone = record {
      sound = record {
        accepted = on (λ d ps. IsAccepted d ps) is.now.ready.accepted;
        fits = λ w. on (λ d ps. IsWritable d ps) is.now.ready.writable;
        is_kept = λ w. refl;
        used = on (λ d ps. AreUsed later.map (used_blocks d ps)) used_later;
        size = settled.count ∙ is.now.ready.size ∙ sym (ap (λ (d : Disk). block_count d) only.disk);
      };
      fits = on (λ d ps. IsWritable d ps) is.now.ready.writable;
      settled = ap pairs_gstate only.pairs ∙ is.now.ready.settled;
      root = ap count_before_root only.pairs ∙ is.now.root;
      shows = on (λ d ps. disk_tree d ps ≡ tree_with_change path (node_with_bytes (writer_contents_bytes t c)) (disk_tree t.disk t.pairs)) (is.now.shows ∙ ap (λ p. tree_with_change p (node_with_bytes (writer_contents_bytes t c)) (disk_tree t.disk t.pairs)) (sym e));
      synced = λ files fd writer wr. on (λ d ps. IsLayoutAfterOperation t.disk t.pairs (record { tree = disk_tree t.disk t.pairs; files = files }) (ops.Sync fd) d ps)
          (is.synced (record { tree = disk_tree t.disk t.pairs; files = files }) fd writer refl (wr.0, (wr.1.0, (wr.1.1.0 ∙ e, wr.1.1.1)))).laid_out;
      closed = λ files fd writer wr. on (λ d ps. IsLayoutAfterOperation t.disk t.pairs (record { tree = disk_tree t.disk t.pairs; files = files }) (ops.Close fd) d ps)
          (is.closed (record { tree = disk_tree t.disk t.pairs; files = files }) fd writer refl (wr.0, (wr.1.0, (wr.1.1.0 ∙ e, wr.1.1.1)))).laid_out;
      others = λ q file apart.
          let writer : FileWriter = record { path = above ++ name ∷ []; contents = writer_contents_bytes t c; position = 0; append = false; dirty = true; turned = false; last_end = None } in
          let s : Session = record { tree = disk_tree t.disk t.pairs; files = Some (Writing writer) ∷ [] } in
          ap (λ (ps : List Pair). struct_at ps q) only.pairs ∙ (is.synced s 0 writer refl (refl, (refl, (refl, refl)))).structs q file refl (subst (λ p. same_path p q ≡ false) e apart);
      alone = subst (λ (d : Disk). ChangesPathPair t.disk t.pairs path d) (sym only.disk) alone;
      none_in_flight = no_flight later.map none_later;
    }

pub committed_read : (t : KeptThread) (h : List CallEvent) (path : Path) (bytes : List ℕ) (later : KeptThread) → HasCommittedBytes (with_history t h) path bytes later → HasCommittedBytes t path bytes later
committed_read t h path bytes later k =
    record { sound = k.sound; fits = k.fits; settled = k.settled; root = k.root; shows = k.shows; others = k.others; synced = k.synced; closed = k.closed; alone = k.alone; none_in_flight = k.none_in_flight }

-- ---- after calls that only read

module _ (t : ThreadView) (root : ℕ) (rests : CanChangeRecovered t root) (path : Path) (large : 1024 ≤ t.kept.disk.block_size) (bytes : AreByteBlocks t.kept.disk.blocks) (c : WriterContents) (can : CanCommitContents t.kept path c)
    (file : FileSlot) (slot : IsPathFile t.kept.pairs path file) (sized : SizedLists t.kept.disk) (h : List CallEvent) where
  abbrev u : Slot
  u = slot.slot.stands.stands.stands.slot

  abbrev ok : IsAccepted t.kept.disk t.kept.pairs
  ok = rests.held.sound.accepted

  abbrev used : AreUsed t.kept.map (used_blocks t.kept.disk t.kept.pairs)
  used = rests.held.sound.used

  at : slot_of_path t.kept.pairs path ≡ Some slot.slot.stands.stands.stands.slot
  at = ap (slot_of_path t.kept.pairs) slot.slot.is ∙ slot.slot.stands.slot

  come : IsNewContentsStruct (with_history t.kept h) (writer_contents_bytes (with_history t.kept h) c) slot.slot.stands.stands.stands.slot.struct (finished_struct c)
  come = may_come (with_history t.kept h) path u ok used at sized c (over_read t.kept h path c can.over) can.finished

  below : file.spot.pair < length t.kept.pairs
  below = slot_below t root rests path large bytes file.spot slot.slot h

  pub can_put : CanPutContents (with_history t.kept h) file.spot c
  unfolding can_edit
  can_put = record {
    can = can_edit t root rests path large bytes file.spot slot.slot h;
    stands = (over_read t.kept h path c can.over).stands;
    leaf = slot.leaf;
    finished = can.finished;
    come = come;
    room = room_there (with_history t.kept h) path u ok used at sized c (can_read t.kept h path c can);
  }

  module _ (new : KeptThread) (w : WritesPairAndTwoFree (with_history t.kept h) file.spot.pair new)
      (gives : (put : CanPutContents (with_history t.kept h) file.spot c)
      → HasStoredContents (with_history t.kept h) new put.can.path put.can.name (writer_contents_bytes (with_history t.kept h) c) put.come.gone put.come.come) where
    is : HasStoredContents (with_history t.kept h) new slot.slot.above slot.slot.name (writer_contents_bytes (with_history t.kept h) c) come.gone come.come
    unfolding can_put can_edit
    is = gives can_put

    pub settles : CanReplaceUsedList new file.list (finished_list c)
    settles = subst (λ l. CanReplaceUsedList new l (finished_list c)) (sym slot.list)
        (can_settle (with_history t.kept h) path u ok used at sized c (can_read t.kept h path c can) file.spot.pair below new w slot.slot.above slot.slot.name come is)

    -- the pair of the slot is written, and blocks that were free
    changes : ChangesPathPair t.kept.disk t.kept.pairs path new.disk
    changes =
        let s = slot.slot.stands.stands in
        let place = s.place in
        let is : thread_pair t.kept file.spot.pair ≡ s.pair = here (with_history t.kept h) (ready_to t root h rests large) slot.slot.first file.spot.pair s.pair s.rest s.place in
        let writes = subst (λ (z : Pair). ChangesThreadBlocks (z.at.0 ∷ z.at.1 ∷ w.fresh) (with_history t.kept h) new) is w.writes in
        record {
          pair = s.pair;
          there = contains_among s.pair t.kept.pairs (subst (HoldsForSome (λ y. y ≡ s.pair)) (sym place.parts)
              (among_right (λ y. y ≡ s.pair) place.front (place.left ++ s.pair ∷ s.rest) (among_right (λ y. y ≡ s.pair) place.left (s.pair ∷ s.rest) (inl refl))));
          holds = subst (HoldsSlotOfPath t.kept.pairs s.pair) (sym slot.slot.is)
              (holds_slot t.kept.pairs slot.slot.above slot.slot.stands.on.at slot.slot.first slot.slot.name file.spot.pair file.spot.id ok.thread.distinct slot.slot.stands.on.leads slot.slot.stands.on.begins s);
          others = λ b has first second. writes.others.others b (All-from_recursion (λ x. x ≢ b) (s.pair.at.0 ∷ s.pair.at.1 ∷ w.fresh)
              ((λ e. first (sym e)), ((λ e. second (sym e)), each_weaker (IsFree t.kept.map) (λ x. x ≢ b) (λ x f e. not_free t.kept.map b ((used b).1 has) (subst (IsFree t.kept.map) e f)) w.fresh w.free)));
        }

    module _ (later : KeptThread) (only : ChangesOnlyMap new later) where
      pub commits : IsUsedListReplaced new file.list (finished_list c) later → HasCommittedBytes t.kept path (writer_contents_bytes t.kept c) later
      commits settled = committed_read t.kept h path (writer_contents_bytes t.kept c) later
          (committed (with_history t.kept h) path u ok used at sized c (can_read t.kept h path c can) file.spot.pair below new w slot.slot.above slot.slot.name come is later only
          (subst (λ l. IsUsedListReplaced new l (finished_list c) later) slot.list settled) slot.slot.is changes)

      -- the calls that settle only read
      pub survives_settled : OnlyReadsSince t.kept.disk.blocks t.kept.history h → PowerLossLeavesEither t.kept new (tree_with_change path (node_with_bytes (writer_contents_bytes t.kept c)) (disk_tree t.kept.disk t.kept.pairs))
          → PowerLossLeavesEither t.kept later (tree_with_change path (node_with_bytes (writer_contents_bytes t.kept c)) (disk_tree t.kept.disk t.kept.pairs))
      survives_settled reads k =
          let after = tree_with_change path (node_with_bytes (writer_contents_bytes t.kept c)) (disk_tree t.kept.disk t.kept.pairs) in
          let disk_is : new.disk ≡ with_blocks new.disk.blocks t.kept.disk = λ i. record { block_size = w.writes.shape.block_size i; page = w.writes.shape.page i; order = w.writes.shape.order i; profile = w.writes.shape.profile i; blocks = new.disk.blocks } in
          let first : HoldsAtLosses LeftByLoss t.kept.history new.history (λ d. Unit {0}) = HoldsAtLosses-trans (HoldsAtLosses-read_count LeftByLoss-read reads tt) (HoldsAtLosses-weaker (λ d p. tt) (HoldsAtLosses-worst w.writes.at_worst)) in
          survives_then t.kept.disk t.kept.history new.history later.history (disk_tree t.kept.disk t.kept.pairs) after first only.reads k
          (λ clean. HoldsAtLosses-read_count LeftByLoss-read only.reads
          (subst (λ (d : Disk). HasEitherTree d (disk_tree t.kept.disk t.kept.pairs) (tree_with_change path (node_with_bytes (writer_contents_bytes t.kept c)) (disk_tree t.kept.disk t.kept.pairs))) disk_is
          (record {
            pairs = new.pairs;
            accepted = is.now.ready.accepted;
            writable = is.now.ready.writable;
            tree = inr (is.now.shows ∙ ap (λ p. tree_with_change p (node_with_bytes (writer_contents_bytes t.kept c)) (disk_tree t.kept.disk t.kept.pairs)) (sym slot.slot.is));
          })))

  pub survives_put : (new : KeptThread) (w : WritesPairAndTwoFree (with_history t.kept h) file.spot.pair new) → OnlyReadsSince t.kept.disk.blocks t.kept.history h
      → ((put : CanPutContents (with_history t.kept h) file.spot c) → PowerLossLeavesEither (with_history t.kept h) new (tree_with_contents (with_history t.kept h) put.can.path put.can.name (writer_contents_bytes (with_history t.kept h) c)))
      → PowerLossLeavesEither t.kept new (tree_with_change path (node_with_bytes (writer_contents_bytes t.kept c)) (disk_tree t.kept.disk t.kept.pairs))
  unfolding can_put can_edit
  survives_put new w reads gives =
      subst (λ p. PowerLossLeavesEither t.kept new (tree_with_change p (node_with_bytes (writer_contents_bytes t.kept c)) (disk_tree t.kept.disk t.kept.pairs))) (sym slot.slot.is)
      (survives_behind t root rests h new _ (tree_with_contents t.kept slot.slot.above slot.slot.name (writer_contents_bytes t.kept c)) reads w.writes (gives can_put))

pub called_beside : (a b c : KeptThread) → IsLaterOnSameDevice a b → ChangesOnlyMap b c → IsLaterOnSameDevice a c
called_beside a b c k r = record {
  geometry = subst (λ (d : Disk). SameGeometry a.disk d) (sym r.disk) k.geometry;
  calls = r.reads.events ++ k.calls;
  called = r.reads.extends ∙ ap (λ z. r.reads.events ++ z) k.called ∙ sym (append_assoc r.reads.events k.calls a.history);
}
