-- A call of a tree: what a power loss left is ended first.
use Rattle.std.proofs.Common.{ℕ, ◌≡◌, ◌∙◌, ◌||◌, Bool, false, true, Result, Ok, Err, refl, sym, ap, ap₂, subst}
use Rattle.std.specs.Prelude.{Option, IfErr, OnErr, OnOk, is_err}
use Rattle.lfs_device.specs.declared.error.Error.{Error}
use Rattle.lfs_model.specs.session.Operations as ops
use Rattle.lfs_tree.proofs.Common.{Operation, zero_gstate, pairs_gstate, Tree, disk_tree, KeptThread, ThreadView, IsOperationCall, tree_after_call, IsLaterOnSameDevice, HasSoundImage, HasAppliedCall, CanChangeRecovered, ChangesTreeOrFails, AppliesOrFails, PowerLossLeavesEither, HasThreadCause, IsSoundUnlessFailed, IsSoundWithRoot, uncached_state, thread_state, HasRecovered, IsFailedTree, IsOperationApplied, HasErrorCause, IsSoundState, TreeState, without_cache, kept_thread, visible_tree}
use Rattle.lfs_tree.specs.TreeCalls as calls
use Rattle.lfs_tree.specs.TreeCalls.{TreeCall, AppliesCallOrFails}
use Rattle.lfs_operations.specs.declared.wear.RelocationPlan.{RelocationPlan}
use Rattle.lfs_tree.specs.KeptFiles.{max_allocated_blocks}
use Rattle.lfs_tree.specs.TreeState.{IsOperationAppliedWith, KeepsOthersIfRecovered, PowerLossesLeaveEither}
use Rattle.lfs_tree.specs.Wear.{CanRelocateByPlan, IsRelocationPlanned, RelocatesUnlessChangeFailed, RelocatesOrFails}
use Rattle.lfs_tree.proofs.Relocated.{alone_moved, applied_moved, breaks_moved, can_spread, reports_moved, survives_moved}
use Rattle.lfs_tree.proofs.NotedErrors.{noted, noted_failed, noted_held}
use Rattle.lfs_tree.proofs.Operated.{IsPlain}
use Rattle.lfs_tree.proofs.Carried.{lists_from}
use Rattle.lfs_tree.proofs.Recovered.{none_survives, recovered_already}
use Rattle.lfs_tree.proofs.RecoveredFirst.{called_after, carried_after, spares_after, survives_after, survives_before, reported_after, tree_is}

-- ---- what a change of the thread is for who sees the tree

module _ (t : ThreadView) (writable : Bool) (now : TreeState) (view : thread_state t writable ≡ now) (Done : KeptThread → Type 0) (after : Tree) {X : Type 0} (r : Result X Error) (new : ThreadView) (w : ChangesTreeOrFails t Done after r new) where
  pub breaks : OnErr r (new.failed ≡ true) → OnErr r (IsFailedTree now (thread_state new writable))
  breaks failed = subst (λ (s : TreeState). OnErr r (IsFailedTree s (thread_state new writable))) view (go r failed)
    where
      go : (r : Result X Error) → OnErr r (new.failed ≡ true) → OnErr r (IsFailedTree (thread_state t writable) (thread_state new writable))
      go (Ok x) f = tt
      go (Err e) f = record { failed = f; geometry = w.called.geometry; calls = w.called.calls; called = w.called.called }

  pub reports : IfErr r (HasErrorCause now (thread_state new writable))
  reports = subst (λ (s : TreeState). IfErr r (HasErrorCause s (thread_state new writable))) view (go r w.errors)
    where
      go : (r : Result X Error) → IfErr r (HasThreadCause t.kept new.kept) → IfErr r (HasErrorCause (thread_state t writable) (thread_state new writable))
      go (Ok x) k = tt
      go (Err e) k = record { errors = k.errors; fault = k.fault; no_fault = k.no_fault }

-- ---- the recovery itself

module _ (t : ThreadView) (writable : Bool) (now : TreeState) (view : thread_state t writable ≡ now) (works : t.failed ≡ false) (may : writable ≡ true) (left : pairs_gstate t.kept.pairs ≡ zero_gstate → ⊥)
    {X : Type 0} (r : Result X Error) (new : ThreadView) (w : ChangesTreeOrFails t (HasRecovered t.kept) (disk_tree t.kept.disk t.kept.pairs) r new) where
  pub recovers : OnErr r (new.failed ≡ true) → AppliesCallOrFails now calls.Recover r (thread_state new writable)
  recovers failed = subst (λ (s : TreeState). AppliesCallOrFails s calls.Recover r (thread_state new writable)) view (record {
    done = done r w.done w.works;
    alone = alone r;
    broken = breaks t writable (thread_state t writable) refl (HasRecovered t.kept) (disk_tree t.kept.disk t.kept.pairs) r new w failed;
    errors = reports t writable (thread_state t writable) refl (HasRecovered t.kept) (disk_tree t.kept.disk t.kept.pairs) r new w;
    survives = w.survives;
  })
    where
      done : (r : Result X Error) → OnOk r (HasRecovered t.kept new.kept) → OnOk r (new.failed ≡ false) → OnOk r ((op : Operation) → IsOperationCall calls.Recover op → IsOperationApplied (thread_state t writable) op (thread_state new writable))
      done (Err e) k still = tt
      done (Ok x) k still = λ op is.
          subst (λ o. IsOperationApplied (thread_state t writable) o (thread_state new writable)) (sym is)
          (subst (λ (s : TreeState). IsOperationAppliedWith s ops.Recover (uncached_state new.kept writable new.failed)) (ap₂ (λ a b. uncached_state t.kept a b) (sym may) (sym works))
          (subst (λ (s : TreeState). IsOperationAppliedWith (uncached_state t.kept true false) ops.Recover s) (ap₂ (λ a b. uncached_state new.kept a b) (sym may) (sym still)) k.carries))

      alone : (r : Result X Error) → OnOk r ((op : Operation) → IsOperationCall calls.Recover op → KeepsOthersIfRecovered (thread_state t writable) op (thread_state new writable))
      alone (Err e) = tt
      alone (Ok x) = λ op is none. absurd (left none)

  pub settles_seen : OnOk r (HasRecovered (kept_thread now) new.kept)
  settles_seen = subst (λ (s : TreeState). OnOk r (HasRecovered (kept_thread s) new.kept)) view w.done

-- if nothing is left to recover, nothing is done
leaves_itself : (t : TreeState) (op : Operation) → KeepsOthersIfRecovered t op t
leaves_itself t op none files = record {
  files = lists_from t.disk t.disk t.pairs (λ b some. refl);
  pairs = λ p here there other. (refl, refl);
}

pub recovers_nothing : (t : TreeState) → t.failed ≡ false → t.writable ≡ true → IsSoundState t → pairs_gstate t.pairs ≡ zero_gstate → (r : Result (Unit {0}) Error) → r ≡ Ok tt → AppliesCallOrFails t calls.Recover r t
recovers_nothing t works may sound none r is = subst (λ (z : Result (Unit {0}) Error). AppliesCallOrFails t calls.Recover z t) (sym is) (record {
  done = λ op does. subst (λ o. IsOperationApplied t o t) (sym does) (recovered_already t works may sound none);
  alone = λ op does. leaves_itself t op;
  broken = tt;
  errors = tt;
  survives = none_survives t (visible_tree t);
})

-- with another result
pub recovers_with : {X Y : Type 0} (old mid : TreeState) (r : Result X Error) (x : X) (y : Y) → r ≡ Ok x → AppliesCallOrFails old calls.Recover r mid → (let s : Result Y Error = Ok y in AppliesCallOrFails old calls.Recover s mid)
recovers_with {X} {Y} old mid r x y is k = go (subst (λ (z : Result X Error). AppliesCallOrFails old calls.Recover z mid) is k)
  where
    go : (let z : Result X Error = Ok x in AppliesCallOrFails old calls.Recover z mid) → (let s : Result Y Error = Ok y in AppliesCallOrFails old calls.Recover s mid)
    go k = record { done = k.done; alone = k.alone; broken = tt; errors = tt; survives = k.survives }

-- if it failed, so did the call
pub recovery_failed : {X Y : Type 0} (old mid : TreeState) (call : TreeCall) (r : Result X Error) (s : Result Y Error) (e f : Error) → r ≡ Err e → s ≡ Err f → f ≡ e → AppliesCallOrFails old calls.Recover r mid → AppliesCallOrFails old call s mid
recovery_failed {X} {Y} old mid call r s e f was is same k =
    subst (λ (z : Result Y Error). AppliesCallOrFails old call z mid) (sym (is ∙ ap Err same)) (go (subst (λ (z : Result X Error). AppliesCallOrFails old calls.Recover z mid) was k))
  where
    go : (let z : Result X Error = Err e in AppliesCallOrFails old calls.Recover z mid) → (let z : Result Y Error = Err e in AppliesCallOrFails old call z mid)
    go k = record { done = tt; alone = tt; broken = k.broken; errors = k.errors; survives = survives_before (kept_thread old) (kept_thread mid) (tree_after_call call (visible_tree old)) k.survives }

-- ---- how many blocks it allocates

abbrev pub call_room : TreeCall → ℕ
call_room (calls.Mkdir path) = 4
call_room (calls.Create path) = 2
call_room (calls.Remove path) = 0
call_room (calls.Rename from to) = 2
call_room (calls.SetAttr path kind bytes) = 2
call_room (calls.RemoveAttr path kind) = 0
call_room calls.Recover = 0

room_of_call : (call : TreeCall) (op : Operation) → IsOperationCall call op → max_allocated_blocks op ≡ call_room call
room_of_call (calls.Mkdir path) op d = ap max_allocated_blocks d.1.0
room_of_call (calls.Create path) op d = ap max_allocated_blocks d.1.1.0
room_of_call (calls.Remove path) op d = ap max_allocated_blocks d.1.0
room_of_call (calls.Rename from to) op d = ap max_allocated_blocks d.1.1.0
room_of_call (calls.SetAttr path kind bytes) op d = ap max_allocated_blocks d.1.0
room_of_call (calls.RemoveAttr path kind) op d = ap max_allocated_blocks d.1.0
room_of_call calls.Recover op d = ap max_allocated_blocks d

-- ---- what is done after it

module _ (old mid : TreeState) (works : old.failed ≡ false) (may : old.writable ≡ true) (done : IsOperationApplied old ops.Recover mid) (settled : HasRecovered (kept_thread old) (kept_thread mid))
    (t : ThreadView) (root : ℕ) (writable : Bool) (held : IsSoundUnlessFailed t root writable) (view : thread_state t writable ≡ mid) where
  pub writes : writable ≡ true
  writes = ap (λ (s : TreeState). s.writable) view ∙ done.writable

  kept_is : t.kept ≡ kept_thread mid
  kept_is = ap kept_thread view

  pub settled_here : HasRecovered (kept_thread old) t.kept
  settled_here = subst (λ (k : KeptThread). HasRecovered (kept_thread old) k) (sym kept_is) settled

  bare_is : without_cache old ≡ uncached_state (kept_thread old) true false
  bare_is = ap₂ (λ a b. uncached_state (kept_thread old) a b) may works

  -- what is asked for
  pub allowed : (P : TreeState → Type 0) → P (without_cache old) → P (uncached_state (kept_thread old) true false)
  allowed P h = subst P bare_is h

  pub rests_behind : CanChangeRecovered t root
  rests_behind = record {
    held = subst (λ a. IsSoundWithRoot t root a) writes (held (ap (λ (s : TreeState). s.failed) view ∙ done.works));
    settled = subst (λ (k : KeptThread). pairs_gstate k.pairs ≡ zero_gstate) (sym kept_is) done.recovered.gstate;
  }

  module _ (call : TreeCall) (plain : (op : Operation) → IsOperationCall call op → IsPlain op) (first : PowerLossesLeaveEither old mid (visible_tree old)) where
    operates : {X : Type 0} (r : Result X Error) (new : ThreadView) → AppliesOrFails t call r new → OnErr r (new.failed ≡ true) → AppliesCallOrFails old call r (thread_state new writable)
    operates {X} r new w failed = record {
      done = dones r w.done w.works;
      alone = alone r w.done;
      broken = broken r failed;
      errors = errors r w.errors;
      survives = survives_after (kept_thread old) t.kept settled_here new.kept (tree_after_call call) w.called
          (subst (λ (k : KeptThread). PowerLossLeavesEither (kept_thread old) k (visible_tree old)) (sym kept_is) first) w.survives;
    }
      where
        all : IsLaterOnSameDevice (kept_thread old) new.kept
        all = called_after (kept_thread old) t.kept settled_here new.kept w.called

        dones : (r : Result X Error) → OnOk r (HasAppliedCall t.kept call new.kept) → OnOk r (new.failed ≡ false) → OnOk r ((op : Operation) → IsOperationCall call op → IsOperationApplied old op (thread_state new writable))
        dones (Err e) k still = tt
        dones (Ok x) k still = λ op does.
            subst (λ (s : TreeState). IsOperationAppliedWith s op (uncached_state new.kept writable new.failed)) (sym bare_is)
            (subst (λ (s : TreeState). IsOperationAppliedWith (uncached_state (kept_thread old) true false) op s) (ap₂ (λ a b. uncached_state new.kept a b) (sym writes) (sym still))
            (carried_after (kept_thread old) t.kept settled_here new.kept op (plain op does).0 (plain op does).1 (k.carries op does)).applied)

        alone : (r : Result X Error) → OnOk r (HasAppliedCall t.kept call new.kept) → OnOk r ((op : Operation) → IsOperationCall call op → KeepsOthersIfRecovered old op (thread_state new writable))
        alone (Err e) k = tt
        alone (Ok x) k = λ op does. spares_after (kept_thread old) t.kept settled_here new.kept op (k.spares op does)

        broken : (r : Result X Error) → OnErr r (new.failed ≡ true) → OnErr r (IsFailedTree old (thread_state new writable))
        broken (Ok x) f = tt
        broken (Err e) f = record { failed = f; geometry = all.geometry; calls = all.calls; called = all.called }

        errors : (r : Result X Error) → IfErr r (HasThreadCause t.kept new.kept) → IfErr r (HasErrorCause old (thread_state new writable))
        errors (Ok x) k = tt
        errors (Err e) k = let m = reported_after (kept_thread old) t.kept settled_here new.kept e k in record { errors = m.errors; fault = m.fault; no_fault = m.no_fault }

    module _ {X : Type 0} (b new : ThreadView) (r : Result X Error) (w : AppliesOrFails t call r b) (f : new ≡ record b { failed = is_err r || b.failed }) where
      pub operates_noted : AppliesCallOrFails old call r (thread_state new writable)
      operates_noted = operates r new (noted t b new (HasAppliedCall t.kept call) (tree_after_call call (disk_tree t.kept.disk t.kept.pairs)) r w f) (noted_failed t b new (HasAppliedCall t.kept call) (tree_after_call call (disk_tree t.kept.disk t.kept.pairs)) r w f)

      pub held_noted : IsSoundUnlessFailed new root writable
      held_noted = subst (λ a. IsSoundUnlessFailed new root a) (sym writes) (noted_held t b new (HasAppliedCall t.kept call) (tree_after_call call (disk_tree t.kept.disk t.kept.pairs)) r w f root rests_behind.held)

    -- a pair may move after it
    module _ (b new : ThreadView) (r : Result (Unit {0}) Error) (w : AppliesOrFails t call r b) (f : new ≡ record b { failed = is_err r || b.failed })
        (plan : Option RelocationPlan) (planned : IsRelocationPlanned old (call_room call) plan) where
      abbrev seen : TreeState
      seen = thread_state new writable

      made : AppliesOrFails t call r new
      made = noted t b new (HasAppliedCall t.kept call) (tree_after_call call (disk_tree t.kept.disk t.kept.pairs)) r w f

      further : IsLaterOnSameDevice (kept_thread old) new.kept
      further = called_after (kept_thread old) t.kept settled_here new.kept made.called

      sound_seen : new.failed ≡ false → IsSoundState (uncached_state new.kept true false) → IsSoundState seen
      sound_seen still k = subst IsSoundState (ap₂ (λ a c. uncached_state new.kept a c) (sym writes) (sym still)) k

      pub may_move : OnOk r (CanRelocateByPlan seen plan)
      may_move = go r made.works made.stands
        where
          go : (r : Result (Unit {0}) Error) → OnOk r (new.failed ≡ false) → OnOk r (HasSoundImage t.kept (tree_after_call call (disk_tree t.kept.disk t.kept.pairs)) new.kept) → OnOk r (CanRelocateByPlan seen plan)
          go (Err e) still k = tt
          go (Ok x) still k = can_spread old seen plan (call_room call) planned.plan planned.sound (sound_seen still k.sound) further.geometry still writes k.recovered

      pub operates_moving : (s : Result (Unit {0}) Error) (last : TreeState) → RelocatesUnlessChangeFailed seen plan r s last → AppliesCallOrFails old call s last
      operates_moving s last h = go r (operates_noted b new r w f) made.done made.stands h
        where
          moves : (u : Unit {0}) (s : Result (Unit {0}) Error) → (let z : Result (Unit {0}) Error = Ok u in AppliesCallOrFails old call z seen) → HasAppliedCall t.kept call new.kept → HasSoundImage t.kept (tree_after_call call (disk_tree t.kept.disk t.kept.pairs)) new.kept → RelocatesOrFails seen plan s last → AppliesCallOrFails old call s last
          moves u (Err e) base does k m = record {
            done = tt;
            alone = tt;
            broken = breaks_moved old seen last further.calls further.called further.geometry m.broken;
            errors = reports_moved old seen last e (k.no_fault ∙ settled_here.carries.no_fault) m.errors;
            survives = survives_moved old seen last (tree_after_call call (visible_tree old)) further.calls m.broken.calls further.called m.broken.called further.geometry
                (k.shows ∙ ap (tree_after_call call) (tree_is (kept_thread old) t.kept settled_here)) base.survives m.survives;
          }
          moves u (Ok v) base does k m = record {
            done = λ op is. applied_moved old seen last plan (call_room call) planned.plan planned.sound k.sound.accepted m.done op (room_of_call call op is) (plain op is).0 (plain op is).1 planned.newest m.newest (base.alone op is) (base.done op is)
                (carried_after (kept_thread old) t.kept settled_here new.kept op (plain op is).0 (plain op is).1 (does.carries op is)).stays;
            alone = λ op is. alone_moved old seen last plan (call_room call) planned.plan planned.sound k.sound.accepted m.done op (base.alone op is);
            broken = tt;
            errors = tt;
            survives = survives_moved old seen last (tree_after_call call (visible_tree old)) further.calls m.done.calls further.called m.done.called further.geometry
                (k.shows ∙ ap (tree_after_call call) (tree_is (kept_thread old) t.kept settled_here)) base.survives m.survives;
          }

          go : (r : Result (Unit {0}) Error) → AppliesCallOrFails old call r seen → OnOk r (HasAppliedCall t.kept call new.kept) → OnOk r (HasSoundImage t.kept (tree_after_call call (disk_tree t.kept.disk t.kept.pairs)) new.kept) → RelocatesUnlessChangeFailed seen plan r s last → AppliesCallOrFails old call s last
          go (Err e) base does k m = subst (λ (z : Result (Unit {0}) Error). AppliesCallOrFails old call z last) (sym m.0) (subst (λ (z : TreeState). let y : Result (Unit {0}) Error = Err e in AppliesCallOrFails old call y z) (sym m.1) base)
          go (Ok u) base does k m = moves u s base does k m
