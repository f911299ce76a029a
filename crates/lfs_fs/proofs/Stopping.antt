-- A power loss during a session's call, from a power loss during the tree's calls.
use Rattle.std.proofs.Common.{◌≡◌, inl, inr, Bool, true, false, List, [], ◌∷◌, ◌++◌, None, Result, Ok, Err, refl, sym, ap, subst, ◌∙◌, append_assoc}
use Rattle.std.specs.Prelude.{◌⊎◌, OnOk, OnErr}
use Rattle.lfs_device.specs.declared.error.Error.{Error}
use Rattle.lfs_fs.proofs.Common.{Blocks, content_at, Disk, SameGeometry, block_count, CallEvent, AllCalls, OnlyReadsSince, Operation, HasEitherTree, SurvivesStoppedCalls, SystemState, Session, HasFailed, Healthy, SessionHealth, operation_result, operation_effect, Tree, disk_tree, one_thread, is_refusal, OnlyReadsTree, IsFailedTree, IsOperationApplied, IsSoundState, TreeState, PowerLossesLeaveEither, tree_summary, visible_tree, IsChecksResult, FailsChecks, SessionView, view_with_files, system_state, refusal_by_checks, viewed_session}
use Rattle.lfs_model.specs.session.History.{AllCallsSince}
use Rattle.lfs_model.specs.crash.PowerLoss.{SurvivesLossSince, with_blocks}
use Rattle.lfs_model.specs.session.Effects.{unless_refused}
use Rattle.lfs_model.specs.tree.Profile.{IsWritable}
use Rattle.lfs_model.proofs.AfterStops.{survives_then, survives_weaker}
use Rattle.lfs_model.proofs.Histories.{HoldsAtLosses-read_count, HoldsAtLosses-weaker, LeftByLoss-read, began}
use Rattle.lfs_model.proofs.Surviving.{same_surroundings}
use Rattle.lfs_fs.proofs.Answered.{is_over, not_refused, sound_later}
use Rattle.lfs_fs.proofs.Failing.{failed_system, healthy_system}

-- ---- a session at work

pub works_at : (h : SessionView) (s : Session) → (system_state h).state ≡ Healthy s → h.tree.failed ≡ false
works_at h s e = go h.tree.failed refl
  where
    go : (b : Bool) → h.tree.failed ≡ b → h.tree.failed ≡ false
    go false f = f
    go true f = absurd (let k : HasFailed ≡ Healthy s = sym (ap (λ (m : SystemState). m.state) (failed_system h f)) ∙ e in cc)

pub session_at : (h : SessionView) (s : Session) → (system_state h).state ≡ Healthy s → viewed_session h ≡ s
session_at h s e = ap or_else (sym (ap (λ (m : SystemState). m.state) (healthy_system h (works_at h s e))) ∙ e)
  where
    or_else : SessionHealth → Session
    or_else HasFailed = s
    or_else (Healthy z) = z

-- The disk and the calls at its end are what matters of the later moment.
survives_at_work : (old : SessionView) (op : Operation) (new : TreeState) → (old.tree.failed ≡ false → IsSoundState old.tree) →
    (old.tree.failed ≡ false → old.tree.writable ≡ true → SurvivesLossSince old.tree.disk old.tree.history new.history (visible_tree old.tree) (operation_result (tree_summary old.tree) (viewed_session old) op).1.tree) →
    SurvivesStoppedCalls (system_state old) op (system_state (view_with_files new []))
survives_at_work old op new sound leaves s ps around work =
    let works = works_at old s work.healthy in
    let ok = sound works in
    let same = one_thread (content_at old.tree.disk) (block_count old.tree.disk) ps old.tree.pairs work.accepted.thread ok.accepted.thread in
    let fits = ok.is_kept (subst (IsWritable old.tree.disk) same work.writable) in
    subst (λ (z : Session). SurvivesLossSince old.tree.disk old.tree.history new.history z.tree (operation_result around z op).1.tree) (session_at old s work.healthy)
    (subst (λ z. SurvivesLossSince old.tree.disk old.tree.history new.history (visible_tree old.tree) (operation_result z (viewed_session old) op).1.tree)
    (same_surroundings old.tree.disk old.tree.pairs ps (tree_summary old.tree) around ok.accepted work.accepted (is_over old.tree old.files ok).surrounds work.surrounds) (leaves works fits))

-- ---- where the tree stayed so far

-- a moment of a call: the tree is the one from its beginning, and a stop until then leaves it
pub record KeepsTree (t m : TreeState) : Type 0 where
  pub sound : IsSoundState m
  pub writable : m.writable ≡ true
  pub geometry : SameGeometry t.disk m.disk
  pub tree : visible_tree m ≡ visible_tree t
  pub calls : List CallEvent
  pub called : m.history ≡ calls ++ t.history
  pub survives : PowerLossesLeaveEither t m (visible_tree t)

some_since : (events old new : List CallEvent) → new ≡ events ++ old → AllCallsSince (λ e. Unit {0}) old new
some_since events old new e = record { events = events; extends = e; each = all_some events }
  where
    all_some : (events : List CallEvent) → AllCalls (λ e. Unit {0}) events
    all_some [] = tt
    all_some (e ∷ older) = (tt, all_some older)

pub same_blocks : (disk new : Disk) (blocks : Blocks) → SameGeometry disk new → with_blocks blocks new ≡ with_blocks blocks disk
same_blocks disk new blocks g = λ j. record { block_size = g.block_size j; page = g.page j; order = g.order j; profile = g.profile j; blocks = blocks }

-- the tree from before is left, so it is also one of two
left_still : (before after : Tree) (left : Disk) → HasEitherTree left before before → HasEitherTree left before after
left_still before after left h = record { pairs = h.pairs; accepted = h.accepted; writable = h.writable; tree = inl (one h.tree) }
  where
    one : (disk_tree left h.pairs ≡ before) ⊎ (disk_tree left h.pairs ≡ before) → disk_tree left h.pairs ≡ before
    one (inl e) = e
    one (inr e) = e

-- then a call
pub then_changes : (t m : TreeState) (calls history : List CallEvent) (after : Tree) → KeepsTree t m → history ≡ calls ++ m.history → SurvivesLossSince m.disk m.history history (visible_tree m) after →
    SurvivesLossSince t.disk t.history history (visible_tree t) after
then_changes t m calls history after k called survives =
    survives_then t.disk t.history m.history history (visible_tree t) after (some_since k.calls t.history m.history k.called) (some_since calls m.history history called)
    (survives_weaker t.disk t.history m.history (visible_tree t) (visible_tree t) (visible_tree t) after (left_still (visible_tree t) after) k.survives)
    (λ clean. HoldsAtLosses-weaker (λ blocks left. subst (λ d. HasEitherTree d (visible_tree t) after) (same_blocks t.disk m.disk blocks k.geometry) (subst (λ z. HasEitherTree (with_blocks blocks m.disk) z after) k.tree left)) (survives clean))

-- then reads
pub then_reads : (t m : TreeState) (history : List CallEvent) (after : Tree) → KeepsTree t m → OnlyReadsSince m.disk.blocks m.history history → SurvivesLossSince t.disk t.history history (visible_tree t) after
then_reads t m history after k reads =
    then_changes t m reads.events history after k reads.extends
    (λ clean. HoldsAtLosses-read_count LeftByLoss-read reads (record { pairs = m.pairs; accepted = k.sound.accepted; writable = k.sound.fits k.writable; tree = inl refl }))

pub nothing_yet : (t : TreeState) → IsSoundState t → t.writable ≡ true → KeepsTree t t
nothing_yet t sound writable = record {
  sound = sound;
  writable = writable;
  geometry = record { block_size = refl; page = refl; order = refl; profile = refl; count = refl };
  tree = refl;
  calls = [];
  called = refl;
  survives = λ clean. began;
}

pub still_asked : (t m new : TreeState) → KeepsTree t m → OnlyReadsTree m new → KeepsTree t new
still_asked t m new k asked = record {
  sound = sound_later m new k.sound asked;
  writable = ap (λ (z : TreeState). z.writable) asked.same ∙ k.writable;
  geometry = subst (λ (z : TreeState). SameGeometry t.disk z.disk) (sym asked.same) k.geometry;
  tree = ap visible_tree asked.same ∙ k.tree;
  calls = asked.reads.events ++ k.calls;
  called = asked.reads.extends ∙ ap (λ z. asked.reads.events ++ z) k.called ∙ sym (append_assoc asked.reads.events k.calls t.history);
  survives = then_reads t m new.history (visible_tree t) k asked.reads;
}

pub kept_by_reads : (t m : TreeState) → IsSoundState t → t.writable ≡ true → OnlyReadsTree t m → KeepsTree t m
kept_by_reads t m sound writable asked = still_asked t t m (nothing_yet t sound writable) asked

-- ---- how a session's call ends

-- it only read
pub only_read : (old now : SessionView) (op : Operation) (new : TreeState) → old ≡ now → (old.tree.failed ≡ false → IsSoundState old.tree) → OnlyReadsSince old.tree.disk.blocks old.tree.history new.history → SurvivesStoppedCalls (system_state now) op (system_state (view_with_files new []))
only_read old now op new same sound reads =
    subst (λ z. SurvivesStoppedCalls (system_state z) op (system_state (view_with_files new []))) same
    (survives_at_work old op new sound (λ works writable. then_reads old.tree old.tree new.history (operation_result (tree_summary old.tree) (viewed_session old) op).1.tree (nothing_yet old.tree (sound works) writable) reads))

-- no call was made
pub no_call : (old now : SessionView) (op : Operation) (new : TreeState) → old ≡ now → (old.tree.failed ≡ false → IsSoundState old.tree) → new.history ≡ old.tree.history → SurvivesStoppedCalls (system_state now) op (system_state (view_with_files new []))
no_call old now op new same sound e = only_read old now op new same sound (record { events = []; extends = e; each = tt })

-- the session is as it was
pub kept_call : (old now : SessionView) (op : Operation) → old ≡ now → (old.tree.failed ≡ false → IsSoundState old.tree) → SurvivesStoppedCalls (system_state now) op (system_state now)
kept_call old now op same sound = subst (λ z. SurvivesStoppedCalls (system_state z) op (system_state z)) same (no_call old old op old.tree refl sound refl)

-- the session failed without a call, whatever it had
pub failing_survives : (old new : SessionView) (op : Operation) → new ≡ record old { tree = record old.tree { failed = true } } → SurvivesStoppedCalls (system_state old) op (system_state new)
failing_survives old new op is s ps around work clean = record { events = []; extends = ap (λ (h : SessionView). h.tree.history) is; each = tt }

-- the tree was changed by a call of its own
pub tree_changed : (old now : SessionView) (op : Operation) (new : TreeState) (after : Tree) → old ≡ now → (old.tree.failed ≡ false → IsSoundState old.tree) → refusal_by_checks old op ≡ None → PowerLossesLeaveEither old.tree new after →
    after ≡ (operation_effect (tree_summary old.tree) (viewed_session old) op).1.tree → SurvivesStoppedCalls (system_state now) op (system_state (view_with_files new []))
tree_changed old now op new after same sound e survives is =
    subst (λ z. SurvivesStoppedCalls (system_state z) op (system_state (view_with_files new []))) same
    (survives_at_work old op new sound (λ works writable.
    subst (PowerLossesLeaveEither old.tree new) (is ∙ sym (ap (λ r. (unless_refused r (viewed_session old) (operation_effect (tree_summary old.tree) (viewed_session old) op)).1.tree) (not_refused old op e))) survives))

-- a call of the tree came last, behind what kept the tree
pub one_changed : (old now : SessionView) (op : Operation) (mid : TreeState) (new : TreeState) (after : Tree) → old ≡ now → (old.tree.failed ≡ false → IsSoundState old.tree) → refusal_by_checks old op ≡ None →
    (old.tree.failed ≡ false → old.tree.writable ≡ true → KeepsTree old.tree mid) → (calls : List CallEvent) × (new.history ≡ calls ++ mid.history) → PowerLossesLeaveEither mid new after →
    after ≡ (operation_effect (tree_summary old.tree) (viewed_session old) op).1.tree → SurvivesStoppedCalls (system_state now) op (system_state (view_with_files new []))
one_changed old now op mid new after same sound e keeps called survives is =
    subst (λ z. SurvivesStoppedCalls (system_state z) op (system_state (view_with_files new []))) same
    (survives_at_work old op new sound (λ works writable.
    subst (λ z. SurvivesLossSince old.tree.disk old.tree.history new.history (visible_tree old.tree) z) (is ∙ sym (ap (λ r. (unless_refused r (viewed_session old) (operation_effect (tree_summary old.tree) (viewed_session old) op)).1.tree) (not_refused old op e)))
    (then_changes old.tree mid called.0 new.history after (keeps works writable) called.1 survives)))

-- the same after reads
pub asked_changed : (old now : SessionView) (op : Operation) (mid : TreeState) (new : TreeState) (after : Tree) → old ≡ now → (old.tree.failed ≡ false → IsSoundState old.tree) → refusal_by_checks old op ≡ None →
    OnlyReadsTree old.tree mid → (calls : List CallEvent) × (new.history ≡ calls ++ mid.history) → PowerLossesLeaveEither mid new after →
    after ≡ (operation_effect (tree_summary old.tree) (viewed_session old) op).1.tree → SurvivesStoppedCalls (system_state now) op (system_state (view_with_files new []))
asked_changed old now op mid new after same sound e asked called survives is =
    one_changed old now op mid new after same sound e (λ works writable. kept_by_reads old.tree mid (sound works) writable asked) called survives is

-- the calls of an operation, whether or not it failed
pub called_by : {A K : Type 0} (op : Operation) (mid new : TreeState) (r : Result A Error) → OnOk r K → (K → IsOperationApplied mid op new) → OnErr r (IsFailedTree mid new) → (calls : List CallEvent) × (new.history ≡ calls ++ mid.history)
called_by op mid new (Ok x) k carried broken = ((carried k).calls, (carried k).called)
called_by op mid new (Err e) k carried broken = (broken.calls, broken.called)

-- ---- what the checks did

pub reads_of_ended : (h : SessionView) (op : Operation) (e : Error) (tree : TreeState) → FailsChecks (is_refusal e) h op e tree → OnlyReadsSince h.tree.disk.blocks h.tree.history tree.history
reads_of_ended h op e tree k = go (is_refusal e) k
  where
    go : (b : Bool) → FailsChecks b h op e tree → OnlyReadsSince h.tree.disk.blocks h.tree.history tree.history
    go true k = k.0.reads
    go false k = k.0.reads

pub reads_of_checks : {A : Type 0} (h : SessionView) (op : Operation) (P : A → Type 0) (r : Result A Error) (tree : TreeState) → IsChecksResult h op P r tree → OnlyReadsSince h.tree.disk.blocks h.tree.history tree.history
reads_of_checks h op P (Ok x) tree k = k.0.reads
reads_of_checks h op P (Err e) tree k = reads_of_ended h op e tree k

-- the session failed after reads
pub reads_failing : (t mid new : TreeState) → new ≡ record mid { failed = true } → OnlyReadsSince t.disk.blocks t.history mid.history → OnlyReadsSince t.disk.blocks t.history new.history
reads_failing t mid new is reads = subst (λ (z : TreeState). OnlyReadsSince t.disk.blocks t.history z.history) (sym is) reads
