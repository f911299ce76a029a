-- A writer's contents that are finished and then committed.
use Rattle.std.proofs.Common.{ℕ, ◌≡◌, ◌≤◌, ◌+◌, ◌∙◌, Bool, true, false, List, [], ◌∷◌, ◌++◌, length, Result, Ok, Err, refl, sym, ap, ap₂, subst, arith, append_assoc}
use Rattle.std.specs.Prelude.{IfErr, OnOk, Contains}
use Rattle.lfs_device.specs.declared.error.Error.{Error}
use Rattle.lfs_tree.proofs.Common.{HoldsSlotOfPath, tree_with_change, Blocks, used_count, Disk, block_count, inline_limit, AllCalls, AllCallsSince, CallEvent, fault_count, IsLayoutAfterOperation, Operation, HasEitherTree, SurvivesLossSince, with_blocks, Session, file_block_count, node_with_bytes, Pair, pairs_gstate, Path, Tree, IsAccepted, disk_tree, used_blocks, survives_then, arranged_after, recovered_stays, recovered_from, HoldsAtLosses-weaker, HoldsAtLosses-worst, CanWriteRemainingDraft, HaveContentsForm, KeepsPairs, contents_list_blocks, KeptThread, ThreadView, IsLaterOnSameDevice, CanChangeRecovered, PowerLossLeavesEither, HasThreadCause, IsSoundUnlessFailed, uncached_state, thread_state, KeepsListBytes, CanStoreContents, writer_contents_bytes, IsSoundState, TreeState, visible_tree, CanCommitContents, HasCommittedBytes, StoresBeforeRelocation, IsFinishedForm, ChangesPathPair, contents_bytes, finish_room, form_after_finish, contents_form, ContentsForm, AreUsedAmong}
use Rattle.lfs_model.specs.session.Operations as ops
use Rattle.lfs_model.proofs.Unmoved.{nothing_moves}
use Rattle.lfs_tree.proofs.LeftAlone.{files_of_alone, pair_of_alone}
use Rattle.lfs_tree.proofs.Asking.{seen_working}
use Rattle.lfs_tree.specs.KeptFiles.{KeepsOtherFiles}
use Rattle.lfs_tree.proofs.KeptFiles.{list_stays}
use Rattle.lfs_tree.specs.OpenContents.{IsWriterLayoutAfterOperation, InlineWithinLimit, IsStoreApplied, kept_thread}
use Rattle.lfs_tree.specs.Stores.{IsLayoutAfterStore}
use Rattle.lfs_tree.proofs.BesideWritten.{accepted_beside, bytes_of_held, geometry_beside, left_beside, over_beside, rooted_beside, tree_beside}
use Rattle.lfs_tree.proofs.UsedBlocks.{count_is}
use Rattle.lfs_file.specs.Form as form
use Rattle.lfs_file.specs.declared.contents.WriterContents.{WriterContents}

-- ---- calls, one after another

pub each_any : (events : List CallEvent) → AllCalls (λ e. Unit {0}) events
each_any [] = tt
each_any (e ∷ events) = (tt, each_any events)

pub called_beside_image : (a b : KeptThread) → KeepsPairs a b → IsLaterOnSameDevice a b
called_beside_image a b l = record { geometry = geometry_beside a b l; calls = l.at_worst.events; called = l.at_worst.extends }

pub called_then : (a b c : KeptThread) → IsLaterOnSameDevice a b → IsLaterOnSameDevice b c → IsLaterOnSameDevice a c
called_then a b c k m = record {
  geometry = record { block_size = m.geometry.block_size ∙ k.geometry.block_size; page = m.geometry.page ∙ k.geometry.page; order = m.geometry.order ∙ k.geometry.order; profile = m.geometry.profile ∙ k.geometry.profile; count = m.geometry.count ∙ k.geometry.count };
  calls = m.calls ++ k.calls;
  called = m.called ∙ ap (λ z. m.calls ++ z) k.called ∙ sym (append_assoc m.calls k.calls a.history);
}

pub errors_then : {X : Type 0} (a b c : KeptThread) (r : Result X Error) → fault_count b.history ≡ fault_count a.history → IfErr r (HasThreadCause b c) → IfErr r (HasThreadCause a c)
errors_then a b c (Ok x) same t = tt
errors_then a b c (Err e) same t = record {
  errors = t.errors;
  fault = λ io. (let k = t.fault io in omega (arith, k, same));
  no_fault = λ other. t.no_fault other ∙ same;
}

-- ---- what is asked for

room_on : (t : KeptThread) → IsSoundState (uncached_state t true false) → (need : ℕ) → length (used_blocks t.disk t.pairs) + need ≤ block_count t.disk → used_count t.map + need ≤ length t.map
room_on t sound need room = let e = count_is (uncached_state t true false) sound in let s = sound.size in omega arith

finished_form : (limit : ℕ) (f : ContentsForm) → InlineWithinLimit limit f → IsFinishedForm limit (form_after_finish f)
finished_form limit (form.InMemory size) h = h
finished_form limit (form.Finished size flying) h = h
finished_form limit (form.InHand stop base flying) h = h

module _ (t : ThreadView) (root : ℕ) (rests : CanChangeRecovered t root) (path : Path) (contents : WriterContents) (can : CanStoreContents (uncached_state t.kept true false) path contents) where
  abbrev sound : IsSoundState (uncached_state t.kept true false)
  sound = rests.held.sound

  pub can_finish : CanWriteRemainingDraft t.kept contents
  can_finish = record { stands = can.over.stands; room = room_on t.kept sound (finish_room t.kept.disk.block_size (contents_form contents)) can.end }

  -- the draft was finished
  module _ (b : ThreadView) (still : b.failed ≡ false) (leaves : KeepsPairs t.kept b.kept) where
    pub rests_beside : CanChangeRecovered b root
    rests_beside = record { held = rooted_beside t b root true rests.held still leaves; settled = ap pairs_gstate leaves.pairs ∙ rests.settled }

    pub survives_beside : (after : Tree) → PowerLossLeavesEither t.kept b.kept after
    survives_beside after clean = HoldsAtLosses-weaker (λ blocks spared. left_beside t.kept blocks sound.accepted (sound.fits refl) sound.used spared) (HoldsAtLosses-worst leaves.at_worst)

    module _ (c : WriterContents) (holds : HaveContentsForm b.kept c (contents_bytes t.kept.disk.blocks t.kept.disk.block_size contents) (form_after_finish (contents_form contents))) (owned : AreUsedAmong b.kept.map (contents_list_blocks t.kept contents) (contents_list_blocks b.kept c)) where
      bytes_same : writer_contents_bytes b.kept c ≡ writer_contents_bytes t.kept contents
      bytes_same = bytes_of_held b.kept c (contents_bytes t.kept.disk.blocks t.kept.disk.block_size contents) (form_after_finish (contents_form contents)) holds

      pub can_commit : CanCommitContents b.kept path c
      can_commit = record {
        over = over_beside t.kept b.kept leaves sound.accepted sound.used path contents c _ _ can.over holds owned;
        finished = subst (λ (f : ContentsForm). IsFinishedForm (inline_limit b.kept.disk.profile b.kept.disk.block_size) f) (sym holds.has.form)
            (subst (λ (n : ℕ). IsFinishedForm n (form_after_finish (contents_form contents))) (sym (ap₂ (λ p n. inline_limit p n) leaves.shape.profile leaves.shape.block_size)) (finished_form (inline_limit t.kept.disk.profile t.kept.disk.block_size) (contents_form contents) can.form));
        room = (let l : file_block_count b.kept.disk.profile b.kept.disk.block_size (length (writer_contents_bytes b.kept c)) ≡ file_block_count t.kept.disk.profile t.kept.disk.block_size (length (writer_contents_bytes t.kept contents))
            = ap₂ (λ p n. file_block_count p n (length (writer_contents_bytes b.kept c))) leaves.shape.profile leaves.shape.block_size ∙ ap (λ z. file_block_count t.kept.disk.profile t.kept.disk.block_size (length z)) bytes_same in
            let r = can.room in
            let k : length (used_blocks t.kept.disk t.kept.pairs) + (file_block_count t.kept.disk.profile t.kept.disk.block_size (length (writer_contents_bytes t.kept contents)) + 2) ≤ block_count t.kept.disk = omega arith in
            let m = room_on t.kept sound (file_block_count t.kept.disk.profile t.kept.disk.block_size (length (writer_contents_bytes t.kept contents)) + 2) k in
            let u = leaves.map.used in
            let n = leaves.map.count in
            omega arith);
      }

      abbrev turn : Tree
      turn = tree_with_change path (node_with_bytes (writer_contents_bytes t.kept contents)) (disk_tree t.kept.disk t.kept.pairs)

      tree_same : disk_tree b.kept.disk b.kept.pairs ≡ disk_tree t.kept.disk t.kept.pairs
      tree_same = tree_beside t.kept b.kept leaves sound.accepted sound.used

      turn_same : tree_with_change path (node_with_bytes (writer_contents_bytes b.kept c)) (disk_tree b.kept.disk b.kept.pairs) ≡ tree_with_change path (node_with_bytes (writer_contents_bytes t.kept contents)) (disk_tree t.kept.disk t.kept.pairs)
      turn_same = ap (λ (x : Tree). tree_with_change path (node_with_bytes (writer_contents_bytes b.kept c)) x) tree_same ∙ ap (λ z. tree_with_change path (node_with_bytes z) (disk_tree t.kept.disk t.kept.pairs)) bytes_same

      -- seen from before the end of the list
      arranged_before : (new : KeptThread) (op : ℕ → Operation) → IsLayoutAfterStore b.kept path (writer_contents_bytes b.kept c) op new → IsWriterLayoutAfterOperation (uncached_state t.kept true false) path (writer_contents_bytes t.kept contents) op (uncached_state new true false)
      arranged_before new op laid files fd writer wr =
          let s : Session = record { tree = disk_tree t.kept.disk t.kept.pairs; files = files } in
          let stays = recovered_stays t.kept.disk t.kept.pairs (record { tree = disk_tree t.kept.disk t.kept.pairs; files = files }) sound.accepted (sound.fits refl) rests.settled in
          arranged_after t.kept.disk b.kept.disk new.disk t.kept.pairs t.kept.pairs new.pairs (record { tree = disk_tree t.kept.disk t.kept.pairs; files = files }) (op fd)
          (geometry_beside t.kept b.kept leaves) (subst (IsAccepted b.kept.disk) leaves.pairs (accepted_beside t.kept b.kept leaves sound.accepted sound.used)) (recovered_from t.kept.disk t.kept.pairs sound.accepted rests.settled)
          (record { drafts = stays.drafts; parts = stays.parts; front = stays.front; fresh = stays.fresh; back = stays.back; edits = stays.edits; stand = stays.stand; joined = stays.joined; is = stays.is })
          (subst (λ (ps : List Pair). IsLayoutAfterOperation b.kept.disk ps (record { tree = disk_tree t.kept.disk t.kept.pairs; files = files }) (op fd) new.disk new.pairs) leaves.pairs
          (subst (λ (x : Tree). IsLayoutAfterOperation b.kept.disk b.kept.pairs (record { tree = x; files = files }) (op fd) new.disk new.pairs) tree_same
          (laid files fd writer (wr.0, (wr.1.0, (wr.1.1.0, wr.1.1.1 ∙ sym bytes_same))))))

      -- what the end of the list wrote wasn't used
      changes_before : (new : Disk) → ChangesPathPair b.kept.disk b.kept.pairs path new → ChangesPathPair t.kept.disk t.kept.pairs path new
      changes_before new k = record {
        pair = k.pair;
        there = subst (λ (ps : List Pair). Contains ps k.pair) leaves.pairs k.there;
        holds = subst (λ (ps : List Pair). HoldsSlotOfPath ps k.pair path) leaves.pairs k.holds;
        others = λ x has first second.
            let is = (sound.used x).1 has in
            k.others x ((rests_beside.held.sound.used x).0 (leaves.map.stays x is)) first second ∙ leaves.spared.same x is;
      }

      -- the other files keep what they have
      others_before : (new : KeptThread) → HasCommittedBytes b.kept path (writer_contents_bytes b.kept c) new → KeepsOtherFiles (disk_tree t.kept.disk t.kept.pairs) t.kept.pairs path new.pairs
      others_before new k = subst (λ (ps : List Pair). KeepsOtherFiles (disk_tree t.kept.disk t.kept.pairs) ps path new.pairs) leaves.pairs
          (subst (λ (x : Tree). KeepsOtherFiles x b.kept.pairs path new.pairs) tree_same k.others)

      lists_before : (new : KeptThread) → ChangesPathPair b.kept.disk b.kept.pairs path new.disk → KeepsListBytes t.kept.disk t.kept.pairs new.disk
      lists_before new k = files_of_alone t.kept.disk new.disk t.kept.pairs [] path sound.accepted (changes_before new.disk k)

      stored_before : (new : KeptThread) → IsLaterOnSameDevice t.kept new → fault_count new.history ≡ fault_count t.kept.history → HasCommittedBytes b.kept path (writer_contents_bytes b.kept c) new → StoresBeforeRelocation t.kept path (writer_contents_bytes t.kept contents) new
      stored_before new called quiet k = record { stored = stored; synced = synced; closed = closed }
        where
          synced : IsWriterLayoutAfterOperation (uncached_state t.kept true false) path (writer_contents_bytes t.kept contents) ops.Sync (uncached_state new true false)
          synced = arranged_before new ops.Sync k.synced

          closed : IsWriterLayoutAfterOperation (uncached_state t.kept true false) path (writer_contents_bytes t.kept contents) ops.Close (uncached_state new true false)
          closed = arranged_before new ops.Close k.closed

          stored : IsStoreApplied (uncached_state t.kept true false) path (writer_contents_bytes t.kept contents) (uncached_state new true false)
          stored = record {
            works = refl;
            sound = k.sound;
            writable = refl;
            geometry = called.geometry;
            calls = called.calls;
            called = called.called;
            no_fault = quiet;
            fits = k.fits;
            recovered = recovered_from new.disk new.pairs k.sound.accepted k.settled;
            shows = k.shows ∙ turn_same;
            others = others_before new k;
            lists = λ q file apart. list_stays t.kept.disk new.disk t.kept.pairs new.pairs q sound.accepted called.geometry (lists_before new k.alone) (others_before new k q file apart);
            synced = λ was files fd writer wr. nothing_moves t.kept.disk t.kept.pairs (record { tree = disk_tree t.kept.disk t.kept.pairs; files = files }) (ops.Sync fd) called.calls new.disk new.pairs called.geometry k.sound.accepted (synced files fd writer wr);
            closed = λ was files fd writer wr. nothing_moves t.kept.disk t.kept.pairs (record { tree = disk_tree t.kept.disk t.kept.pairs; files = files }) (ops.Close fd) called.calls new.disk new.pairs called.geometry k.sound.accepted (closed files fd writer wr);
            alone = λ files op. pair_of_alone t.kept.disk new.disk t.kept.pairs new.pairs path sound.accepted (changes_before new.disk k.alone) (record { tree = disk_tree t.kept.disk t.kept.pairs; files = files }) op;
            none_in_flight = k.none_in_flight;
          }

      pub all_stored : (new : KeptThread) (r : Result (Unit {0}) Error) → IsLaterOnSameDevice t.kept new → fault_count b.kept.history ≡ fault_count t.kept.history → OnOk r (fault_count new.history ≡ fault_count b.kept.history) → OnOk r (HasCommittedBytes b.kept path (writer_contents_bytes b.kept c) new) → OnOk r (StoresBeforeRelocation t.kept path (writer_contents_bytes t.kept contents) new)
      all_stored new (Ok u) called same quiet k = stored_before new called (quiet ∙ same) k
      all_stored new (Err e) called same quiet k = tt

      pub survives_then_commit : (new : KeptThread) → IsLaterOnSameDevice b.kept new → PowerLossLeavesEither b.kept new (tree_with_change path (node_with_bytes (writer_contents_bytes b.kept c)) (disk_tree b.kept.disk b.kept.pairs))
          → PowerLossLeavesEither t.kept new (tree_with_change path (node_with_bytes (writer_contents_bytes t.kept contents)) (disk_tree t.kept.disk t.kept.pairs))
      survives_then_commit new called k =
          let second : AllCallsSince (λ e. Unit {0}) b.kept.history new.history = record { events = called.calls; extends = called.called; each = each_any called.calls } in
          let after = tree_with_change path (node_with_bytes (writer_contents_bytes t.kept contents)) (disk_tree t.kept.disk t.kept.pairs) in
          let same : (blocks : Blocks) → with_blocks blocks b.kept.disk ≡ with_blocks blocks t.kept.disk = λ blocks. λ i. record { block_size = leaves.shape.block_size i; page = leaves.shape.page i; order = leaves.shape.order i; profile = leaves.shape.profile i; blocks = blocks } in
          survives_then t.kept.disk t.kept.history b.kept.history new.history (disk_tree t.kept.disk t.kept.pairs) after leaves.at_worst second (survives_beside after)
          (λ clean. HoldsAtLosses-weaker (λ blocks left.
          subst (λ (d : Disk). HasEitherTree d (disk_tree t.kept.disk t.kept.pairs) (tree_with_change path (node_with_bytes (writer_contents_bytes t.kept contents)) (disk_tree t.kept.disk t.kept.pairs))) (same blocks)
          (subst (λ (x : Tree). HasEitherTree (with_blocks blocks b.kept.disk) x (tree_with_change path (node_with_bytes (writer_contents_bytes t.kept contents)) (disk_tree t.kept.disk t.kept.pairs))) tree_same
          (subst (λ (x : Tree). HasEitherTree (with_blocks blocks b.kept.disk) (disk_tree b.kept.disk b.kept.pairs) x) turn_same left))) (k clean))

-- ---- seen from a tree

module _ (thread : ThreadView) (root : ℕ) (writable : Bool) (now : TreeState) (kept : IsSoundUnlessFailed thread root writable) (view : thread_state thread writable ≡ now) (works : now.failed ≡ false) (may : now.writable ≡ true) (path : Path) (contents : WriterContents) where
  pub stored_working : (new : ThreadView) → new.failed ≡ false → StoresBeforeRelocation thread.kept path (writer_contents_bytes thread.kept contents) new.kept → IsStoreApplied now path (writer_contents_bytes (kept_thread now) contents) (thread_state new writable)
  stored_working new still k =
      subst (λ a. IsStoreApplied now path (writer_contents_bytes (kept_thread now) contents) (uncached_state new.kept a new.failed)) (sym (ap (λ (s : TreeState). s.writable) view ∙ may))
      (subst (λ b. IsStoreApplied now path (writer_contents_bytes (kept_thread now) contents) (uncached_state new.kept true b)) (sym still)
      (subst (λ (s : TreeState). IsStoreApplied s path (writer_contents_bytes (kept_thread s) contents) (uncached_state new.kept true false)) (sym (seen_working thread root writable now kept view works may)) k.stored))

  pub all_stored_working : (r : Result (Unit {0}) Error) (new : ThreadView) → OnOk r (StoresBeforeRelocation thread.kept path (writer_contents_bytes thread.kept contents) new.kept) → OnOk r (new.failed ≡ false) → OnOk r (IsStoreApplied now path (writer_contents_bytes (kept_thread now) contents) (thread_state new writable))
  all_stored_working (Ok x) new k still = stored_working new still k
  all_stored_working (Err e) new k still = tt

  pub survives_stored : (new : List CallEvent) → SurvivesLossSince thread.kept.disk thread.kept.history new (disk_tree thread.kept.disk thread.kept.pairs) (tree_with_change path (node_with_bytes (writer_contents_bytes thread.kept contents)) (disk_tree thread.kept.disk thread.kept.pairs))
      → SurvivesLossSince now.disk now.history new (visible_tree now) (tree_with_change path (node_with_bytes (writer_contents_bytes (kept_thread now) contents)) (visible_tree now))
  survives_stored new k =
      subst (λ (s : TreeState). SurvivesLossSince s.disk s.history new (visible_tree s) (tree_with_change path (node_with_bytes (writer_contents_bytes (kept_thread s) contents)) (visible_tree s))) (sym (seen_working thread root writable now kept view works may)) k
