-- What a session's calls leave alone.
use Rattle.std.proofs.Common.{ℕ, ◌≡◌, Bool, true, false, cond, List, [], Some, Result, Ok, Err, refl, sym, ap, subst, ◌∙◌}
use Rattle.std.specs.Prelude.{All, OnOk, is_err}
use Rattle.lfs_fs.proofs.Common.{All-from_recursion, content_at, KeepsUnrelatedBlocks, ReadsEachPairOnce, is_session_query, is_look_up, searched_directories, Disk, disk_with_order, disk_block, block_count, CallEvent, Operation, Reply, HasEitherTree, SurvivesStoppedCalls, SurvivesPowerLoss, operation_result, HealthyHasDiskTree, IsStep, SystemState, is_read_only, Session, file_numbered, all_unmoved_slots, struct_blocks, Slot, zero_gstate, Healthy, is_remount, Pair, pairs_gstate, IsAccepted, recovered_from, one_thread, IsStoreApplied, KeepsImage, is_refusal, error_refusal, OnlyReadsTree, IsOperationApplied, IsSoundState, KeepsOthersIfRecovered, TreeState, option_map, RuntimeFiles, open_file_at, file_view, files_view, MeetsReplyRules, StepsOrFails, SessionView, IsReady, session_view, view_with_files, system_state, viewed_session, ReadsSearchedPairsOnce, CachedLookupReadsNothing, NoReadsIfCached, reply_from, AlwaysReadsPairsOnce, IsCall, KeepsUnrelatedIfRecovered, AreFewOnePairDirectories, HasCachedDirectories}
use Rattle.lfs_device.specs.declared.error.Error.{Error}
use Rattle.lfs_model.specs.declared.order.NameOrder.{NameOrder}
use Rattle.lfs_model.specs.crash.Frame.{open_file_paths, changed_paths}
use Rattle.lfs_model.specs.session.Operations as ops
use Rattle.lfs_model.specs.session.Run as model
use Rattle.lfs_model.specs.session.Run.{IsDiskEffect}
use Rattle.lfs_model.proofs.Counts.{each_always}
use Rattle.lfs_model.proofs.SessionSteps.{tree_step}
use Rattle.lfs_model.proofs.Surviving.{session_step_survives_loss}
use Rattle.lfs_fs.specs.declared.files.OpenFile.TheVariants as file
use Rattle.lfs_fs.specs.declared.files.Writer.{Writer}
use Rattle.lfs_fs.specs.LookUps.{CachesSearchedDirectories}
use Rattle.lfs_fs.specs.CallEffects.{StatCachesDirectories}
use Rattle.lfs_fs.proofs.KeptLookUps.{reads_none}
use Rattle.lfs_fs.proofs.FewReads.{reads_few}
use Rattle.lfs_fs.proofs.OpenFiles.{file_is}
use Rattle.lfs_fs.proofs.Stopping.{kept_call, session_at, works_at}
use Rattle.lfs_fs.proofs.WrittenAlone.{written_alone}
use Rattle.lfs_fs.proofs.Surviving.{ready_agrees, stood_before}

-- ---- where the disk is as it was

-- also where a remount found its names in another order
same_alone : (disk new : Disk) (order : NameOrder) (ps qs : List Pair) (s : Session) (op : Operation) → new ≡ disk_with_order order disk → KeepsUnrelatedBlocks disk ps s op new qs
same_alone disk new order ps qs s op e = subst (λ z. KeepsUnrelatedBlocks disk ps s op z qs) (sym e) (record {
  files = All-from_recursion (λ t. All (λ b. disk_block disk b ≡ disk_block disk b) (struct_blocks disk t.struct)) (all_unmoved_slots ps)
      (each_always (λ (t : Slot). All (λ b. disk_block disk b ≡ disk_block disk b) (struct_blocks disk t.struct))
      (λ t. All-from_recursion (λ b. disk_block disk b ≡ disk_block disk b) (struct_blocks disk t.struct) (each_always (λ b. disk_block disk b ≡ disk_block disk b) (λ b. refl) (struct_blocks disk t.struct))) (all_unmoved_slots ps));
  pairs = λ p a b n. (refl, refl);
})

pub untouched_others : (from : SystemState) (op : Operation) (to : SystemState) → to.disk ≡ from.disk → KeepsUnrelatedIfRecovered from op to
untouched_others from op to e s at ps qs a b none = same_alone from.disk to.disk from.disk.order ps qs s op e

in_its_order : (disk new : Disk) → new ≡ disk → new ≡ disk_with_order new.order disk
in_its_order disk new e = e ∙ sym (ap (λ (d : Disk). disk_with_order d.order disk) e)

in_found_order : (b : Bool) (disk new : Disk) → new ≡ cond b (disk_with_order new.order disk) disk → new ≡ disk_with_order new.order disk
in_found_order true disk new e = e
in_found_order false disk new e = in_its_order disk new e

-- the turn tells that nothing was written, where nothing was to be recovered
abbrev pub WritesNothing : SystemState → Operation → SystemState → Type 0
WritesNothing from op to = (s : Session) → from.state ≡ Healthy s → (ps qs : List Pair) (calls : List CallEvent) → IsAccepted from.disk ps → pairs_gstate ps ≡ zero_gstate → IsDiskEffect from.disk ps s op calls to.disk qs → to.disk ≡ disk_with_order to.disk.order from.disk

turn_others : (from : SystemState) (op : Operation) (reply : Reply) (to : SystemState) → IsStep from op reply to → WritesNothing from op to → KeepsUnrelatedIfRecovered from op to
turn_others from op reply to turn nothing s at ps qs a b none = go (model.is_refusal reply) refl
  where
    go : (x : Bool) → model.is_refusal reply ≡ x → KeepsUnrelatedBlocks from.disk ps s op to.disk qs
    go true e = same_alone from.disk to.disk from.disk.order ps qs s op (turn.refused e).0
    go false e = same_alone from.disk to.disk to.disk.order ps qs s op (nothing s at ps qs turn.calls a none (turn.effect_on_disk e s at ps qs a b).effect)

pub turned_others : {A : Type 0} (old : SessionView) (op : Operation) (reply : A → Reply) (r : Result A Error) (new : SessionView) → StepsOrFails old op (reply_from reply r) new → WritesNothing (system_state old) op (system_state new) → OnOk r (KeepsUnrelatedIfRecovered (system_state old) op (system_state new))
turned_others old op reply (Ok x) new turn nothing = turn_others (system_state old) op (reply x) (system_state new) turn nothing
turned_others old op reply (Err e) new answers nothing = tt

pub recovered_others : (old : SessionView) (r : Result (Unit {0}) Error) (new : SessionView) → StepsOrFails old ops.Recover (reply_from (λ u. ops.Done) r) new → OnOk r (KeepsUnrelatedIfRecovered (system_state old) ops.Recover (system_state new))
recovered_others old r new answers = turned_others old ops.Recover (λ u. ops.Done) r new answers (λ s at ps qs calls a none c. in_its_order old.tree.disk new.tree.disk (c.nothing_left refl (recovered_from old.tree.disk ps a none)).0)

-- ---- where the tree tells it

others_from : (t new : TreeState) (fs : RuntimeFiles) (now : SessionView) (op : Operation) → session_view t fs ≡ now → (t.failed ≡ false → IsReady t fs) → IsSoundState new →
    (IsSoundState t → pairs_gstate t.pairs ≡ zero_gstate → KeepsUnrelatedBlocks t.disk t.pairs (viewed_session (session_view t fs)) op new.disk new.pairs) → KeepsUnrelatedIfRecovered (system_state now) op (system_state (view_with_files new []))
others_from t new fs now op same ready after alone = subst (λ (z : SessionView). KeepsUnrelatedIfRecovered (system_state z) op (system_state (view_with_files new []))) same here
  where
    here : KeepsUnrelatedIfRecovered (system_state (session_view t fs)) op (system_state (view_with_files new []))
    here s at ps qs a b none =
        let sound = (ready (works_at (session_view t fs) s at)).sound in
        let p = one_thread (content_at t.disk) (block_count t.disk) t.pairs ps sound.accepted.thread a.thread in
        let q = one_thread (content_at new.disk) (block_count new.disk) new.pairs qs after.accepted.thread b.thread in
        subst (λ z. KeepsUnrelatedBlocks t.disk ps z op new.disk qs) (session_at (session_view t fs) s at)
        (subst (λ z. KeepsUnrelatedBlocks t.disk z (viewed_session (session_view t fs)) op new.disk qs) p
        (subst (λ z. KeepsUnrelatedBlocks t.disk t.pairs (viewed_session (session_view t fs)) op new.disk z) q (alone sound (subst (λ z. pairs_gstate z ≡ zero_gstate) (sym p) none))))

-- an operation of the tree behind reads
pub rest_others : (t mid new : TreeState) (fs : RuntimeFiles) (now : SessionView) (op : Operation) → session_view t fs ≡ now → (t.failed ≡ false → IsReady t fs) → OnlyReadsTree t mid → IsSoundState new → KeepsOthersIfRecovered mid op new → KeepsUnrelatedIfRecovered (system_state now) op (system_state (view_with_files new []))
rest_others t mid new fs now op same ready asked after rest = others_from t new fs now op same ready after (λ sound none. subst (λ (z : TreeState). KeepsOthersIfRecovered z op new) asked.same rest none (session_view t fs).files)

-- the same, where it was carried out
pub done_others : (C K : Type 0) (t mid new : TreeState) (fs : RuntimeFiles) (now : SessionView) (op : Operation) (r : Result (Unit {0}) Error) → session_view t fs ≡ now → (t.failed ≡ false → IsReady t fs) → OnlyReadsTree t mid → OnOk r C → (C → IsOperationApplied mid op new) →
    OnOk r K → (K → KeepsOthersIfRecovered mid op new) → OnOk r (KeepsUnrelatedIfRecovered (system_state now) op (system_state (view_with_files new [])))
done_others C K t mid new fs now op (Ok u) same ready asked c carried k rest = rest_others t mid new fs now op same ready asked (carried c).sound (rest k)
done_others C K t mid new fs now op (Err e) same ready asked c carried k rest = tt

-- a recovery alone
pub begun_others : (t mid new : TreeState) (fs : RuntimeFiles) (now : SessionView) (op : Operation) → session_view t fs ≡ now → (t.failed ≡ false → IsReady t fs) → OnlyReadsTree t mid → IsOperationApplied mid ops.Recover new → KeepsUnrelatedIfRecovered (system_state now) op (system_state (view_with_files new []))
begun_others t mid new fs now op same ready asked carried =
    others_from t new fs now op same ready carried.sound (λ sound none. same_alone t.disk new.disk t.disk.order t.pairs new.pairs (viewed_session (session_view t fs)) op
    ((subst (λ (z : TreeState). IsOperationApplied z ops.Recover new) asked.same carried).nothing_left refl (recovered_from t.disk t.pairs sound.accepted none)).0)

-- the contents of a writer come into the tree
pub stored_others : (t new : TreeState) (fs : RuntimeFiles) (now : SessionView) (op : Operation) (fd : ℕ) (w : Writer) (bytes : List ℕ) → session_view t fs ≡ now → (t.failed ≡ false → IsReady t fs) → Some (file.Writing w) ≡ open_file_at fs fd →
    ((s : Session) → changed_paths s op ≡ open_file_paths (file_numbered s.files fd)) → IsStoreApplied t w.path bytes new → KeepsUnrelatedIfRecovered (system_state now) op (system_state (view_with_files new []))
stored_others t new fs now op fd w bytes same ready is about stored =
    others_from t new fs now op same ready stored.sound
    (λ sound none. stored.alone (files_view t fs) op (about (viewed_session (session_view t fs)) ∙ ap open_file_paths (file_is t fs fd ∙ ap (option_map (file_view t)) (sym is))))

-- contents are written beside the image
pub beside_others : (t new : TreeState) (fs : RuntimeFiles) (now : SessionView) (op : Operation) → session_view t fs ≡ now → (t.failed ≡ false → IsReady t fs) → KeepsImage t new → KeepsUnrelatedIfRecovered (system_state now) op (system_state (view_with_files new []))
beside_others t new fs now op same ready beside =
    others_from t new fs now op same ready beside.sound (λ sound none. written_alone t.disk new.disk t.pairs beside.stay new.pairs (viewed_session (session_view t fs)) op)

-- ---- calls

pub few_asked : (t new : TreeState) (fs : RuntimeFiles) (op : Operation) → (t.failed ≡ false → IsSoundState t) → (is_look_up op ≡ true → ReadsSearchedPairsOnce t op new) → AlwaysReadsPairsOnce (system_state (session_view t fs)) op (system_state (view_with_files new []))
few_asked t new fs op sound few s at ps a calls is looks =
    let p = one_thread (content_at t.disk) (block_count t.disk) t.pairs ps (sound (works_at (session_view t fs) s at)).accepted.thread a.thread in
    subst (λ z. ReadsEachPairOnce z op calls) p (λ l. reads_few t new op (few l) calls is l) looks

-- an error leaves the disk as it was, too
asking_stands : (old : SessionView) (op : Operation) (r : Result Reply Error) (new : SessionView) → HealthyHasDiskTree old.tree.disk (system_state old).state → ((s : Session) → is_read_only s op ≡ true) → StepsOrFails old op r new → SurvivesStoppedCalls (system_state old) op (system_state new) →
    SurvivesPowerLoss (system_state old) op (system_state new)
asking_stands old op (Ok reply) new agrees asks turn survives = session_step_survives_loss (system_state old) op reply (system_state new) agrees (tree_step (system_state old) (system_state new) op reply turn) survives
asking_stands old op (Err e) new agrees asks fails survives = record {
  stops = survives;
  stands = λ s ps around work clean stopped. subst (λ d. HasEitherTree d s.tree (operation_result around s op).1.tree) (sym (fails.fails.asks s work.healthy (asks s)).0) (stood_before (system_state old) op agrees s ps around work);
}

pub ok_others : {A : Type 0} (old : SessionView) (op : Operation) (reply : A → Reply) (r : Result A Error) (new : SessionView) → StepsOrFails old op (reply_from reply r) new → OnOk r (KeepsUnrelatedIfRecovered (system_state old) op (system_state new)) → is_err (reply_from reply r) ≡ false → KeepsUnrelatedIfRecovered (system_state old) op (system_state new)
ok_others old op reply (Ok x) new answers k e = k
ok_others old op reply (Err x) new answers k e = go (is_refusal x) answers e
  where
    go : (b : Bool) → StepsOrFails old op (cond b (Ok (ops.Refused (error_refusal x))) (Err x)) new → is_err (cond b (Ok (ops.Refused (error_refusal x))) (Err x)) ≡ false → KeepsUnrelatedIfRecovered (system_state old) op (system_state new)
    go true turn e = untouched_others (system_state old) op (system_state new) (turn.refused refl).0
    go false fails e = absurd (cc)

asking_others : (old : SessionView) (op : Operation) (r : Result Reply Error) (new : SessionView) → ((s : Session) → is_read_only s op ≡ true) → StepsOrFails old op r new → is_err r ≡ false → KeepsUnrelatedIfRecovered (system_state old) op (system_state new)
asking_others old op (Ok reply) new asks turn e = turn_others (system_state old) op reply (system_state new) turn (λ s at ps qs calls a none c. in_found_order (is_remount op) old.tree.disk new.tree.disk (c.asks (asks s)).0)
asking_others old op (Err x) new asks fails e = absurd (cc)

same_ok : (x y : Reply) → (let z : Result Reply Error = Ok x in z) ≡ Ok y → x ≡ y
same_ok x y e = cc

-- a refused stat isn't accepted
pub stat_hand : {A : Type 0} (reply : A → Reply) (r : Result A Error) (P : Type 0) → OnOk r P → (path : List ℕ) (answer : Reply) → reply_from reply r ≡ Ok answer → model.is_refusal answer ≡ false → P
stat_hand reply (Ok x) P there path answer is accepted = there
stat_hand reply (Err e) P there path answer is accepted = go (is_refusal e) is
  where
    go : (b : Bool) → cond b (Ok (ops.Refused (error_refusal e))) (Err e) ≡ Ok answer → P
    go true same = absurd (let k : ops.Refused (error_refusal e) ≡ answer = same_ok _ _ same in let l = ap model.is_refusal k ∙ accepted in cc)
    go false same = absurd (cc)

-- how a look-up asks
pub record AsksBy (t : TreeState) (op : Operation) (r : Result Reply Error) (new : SessionView) : Type 0 where
  pub few : is_look_up op ≡ true → ReadsSearchedPairsOnce t op new.tree
  pub none : is_look_up op ≡ true → CachedLookupReadsNothing t op new.tree
  pub hand : StatCachesDirectories op r new

pub stat_asks : {A : Type 0} (reply : A → Reply) (t : TreeState) (path : List ℕ) (r : Result A Error) (new : SessionView) → (new.tree.failed ≡ false → OnlyReadsTree t new.tree) → (new.tree.failed ≡ false → IsSoundState new.tree) → ReadsSearchedPairsOnce t (ops.Stat path) new.tree →
    CachedLookupReadsNothing t (ops.Stat path) new.tree → CachesSearchedDirectories t (ops.Stat path) r new.tree → AsksBy t (ops.Stat path) (reply_from reply r) new
stat_asks reply t path r new asked sound few none leaves = record { few = λ l. few; none = λ l. none; hand = hand }
  where
    hand : StatCachesDirectories (ops.Stat path) (reply_from reply r) new
    hand given answer is same accepted s at ps a small =
        let works = works_at new s at in
        let e : new.tree.pairs ≡ ps = one_thread (content_at new.tree.disk) (block_count new.tree.disk) new.tree.pairs ps (sound works).accepted.thread a.thread in
        let f : new.tree.pairs ≡ t.pairs = ap (λ (z : TreeState). z.pairs) (asked works).same in
        stat_hand reply r (HasCachedDirectories new.tree (searched_directories (ops.Stat path))) (leaves (subst (λ z. AreFewOnePairDirectories z (searched_directories (ops.Stat path))) (sym e ∙ f) small)) given answer same accepted

-- no other operation looks up
pub asks_not : (t : TreeState) (op : Operation) (r : Result Reply Error) (new : SessionView) → is_look_up op ≡ false → AsksBy t op r new
asks_not t op r new silent = record {
  few = λ l. absurd (let m = sym silent ∙ l in cc);
  none = λ l. absurd (let m = sym silent ∙ l in cc);
  hand = λ path reply is same accepted s at ps a small. absurd (let m = sym silent ∙ ap is_look_up is in cc);
}

-- a call that asks only
pub asking_call : (t : TreeState) (fs : RuntimeFiles) (now : SessionView) (op : Operation) (r : Result Reply Error) (new : SessionView) → session_view t fs ≡ now → (t.failed ≡ false → IsReady t fs) → ((s : Session) → is_read_only s op ≡ true) →
    (is_session_query op ≡ true → new ≡ now) → AsksBy t op r new → MeetsReplyRules now op r new → StepsOrFails now op r new → SurvivesStoppedCalls (system_state now) op (system_state new) → IsCall now op r new
asking_call t fs now op r new same ready asks kept by ends answers survives = record {
  answers = answers;
  ends = ends;
  survives_loss = asking_stands now op r new (subst (λ (z : SessionView). HealthyHasDiskTree z.tree.disk (system_state z).state) same (ready_agrees t fs ready)) asks answers survives;
  alone = λ e. asking_others now op r new asks answers e;
  asks = record {
    asked = kept;
    few = subst (λ (z : SessionView). AlwaysReadsPairsOnce (system_state z) op (system_state new)) same (few_asked t new.tree fs op (λ w. (ready w).sound) by.few);
    none = λ l. subst (λ (z : SessionView). NoReadsIfCached z.tree op new.tree) same (reads_none t new.tree op (by.none l));
    hand = by.hand;
  };
}

-- the same where no call is made
pub kept_asking : (t : TreeState) (fs : RuntimeFiles) (now : SessionView) (op : Operation) (r : Result Reply Error) → session_view t fs ≡ now → (t.failed ≡ false → IsReady t fs) → ((s : Session) → is_read_only s op ≡ true) → is_look_up op ≡ false → MeetsReplyRules now op r now → StepsOrFails now op r now → IsCall now op r now
kept_asking t fs now op r same ready asks silent ends answers =
    asking_call t fs now op r now same ready asks (λ k. refl) (asks_not t op r now silent) ends answers (kept_call (session_view t fs) now op same (λ w. (ready w).sound))

-- the same of an operation by another name
pub performed_call : (old new : SessionView) (op : Operation) (o : Operation) (r q : Result Reply Error) → o ≡ op → q ≡ r → IsCall old op r new → IsCall old o q new
performed_call old new op o r q is same call = subst (λ z. IsCall old z q new) (sym is) (subst (λ z. IsCall old op z new) (sym same) call)
