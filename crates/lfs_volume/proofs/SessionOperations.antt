-- Calls of a volume that are one operation of its session.
use Rattle.std.proofs.Common.{inl, inr, ◌≡◌, Bool, true, false, cond, not, List, [], ◌∷◌, Option, Some, None, Result, Ok, Err, refl, sym, ap, ap₂, subst, ◌∙◌}
use Rattle.std.specs.Prelude.{◌⊎◌}
use Rattle.lfs_device.specs.declared.error.Error.{Error}
use Rattle.lfs_device.specs.declared.error.Error.TheVariants.{Corrupt, Io, NoMemory}
use Rattle.lfs_lookup.specs.RefusalErrors as refusals
use Rattle.lfs_lookup.specs.RefusalErrors.{refusal_error}
use Rattle.lfs_model.specs.tree.Tree.{Tree}
use Rattle.lfs_model.specs.session.Operations as ops
use Rattle.lfs_model.specs.session.Operations.{Operation, Refusal, Reply}
use Rattle.lfs_model.specs.session.Session.{DiskSummary, OpenFilesByNumber, Session}
use Rattle.lfs_model.specs.session.State.{is_remount}
use Rattle.lfs_model.specs.session.Refusals.{operation_refusal}
use Rattle.lfs_model.specs.session.Effects.{operation_effect}
use Rattle.lfs_model.specs.session.Effects as effects
use Rattle.lfs_model.specs.session.Run.{ShowsTree, is_refusal}
use Rattle.lfs_tree.specs.TreeState.{visible_tree, tree_summary}
use Rattle.lfs_fs.specs.CallEffects.{IsCall}
use Rattle.lfs_fs.specs.SessionView.{SessionFails, SessionView, system_state, viewed_session}
use Rattle.lfs_volume.specs.declared.handles.Handle.{Handle}
use Rattle.lfs_volume.specs.Calls.{Call, Perform, call_result, nodes_after_operation, unless_refused}
use Rattle.lfs_volume.specs.Opened.{HasNoOpenFiles}
use Rattle.lfs_volume.specs.SessionCalls.{error_result}
use Rattle.lfs_volume.specs.Volume.{NodeView, Volume, VolumeView, idle_session, volume_of}
use Rattle.lfs_volume.specs.VolumeCalls.{IsSessionCall, IsSessionCallSequence, IsSoundIfWorking, IsSoundVolume, IsVolumeCall, IsHealthyVolumeCall}
use Rattle.lfs_volume.proofs.Steps.{answered}
use Rattle.lfs_volume.proofs.VolumeSteps.{same_as}

-- ---- operations that leave the open files alone

-- an operation that is about no open file, and that no open file's path is about
abbrev pub is_alone : Operation → Bool
is_alone (ops.Mkdir path) = true
is_alone (ops.ListAll path) = true
is_alone (ops.Stat path) = true
is_alone (ops.GetAttr path kind) = true
is_alone (ops.SetAttr path kind bytes) = true
is_alone (ops.RemoveAttr path kind) = true
is_alone ops.AskGstate = true
is_alone (ops.IsUsed block) = true
is_alone ops.UsedCount = true
is_alone ops.Recover = true
is_alone _ = false

abbrev pub with_files : Tree → OpenFilesByNumber → Session
with_files t files = record { tree = t; files = files }

-- It is refused or answered as where no file ever was open, and leaves the tables of a volume.
pub record LeavesTables (t : Tree) (around : DiskSummary) (files : OpenFilesByNumber) (op : Operation) : Type 0 where
  pub other : is_remount op ≡ false
  pub refusal : operation_refusal around (with_files t files) op ≡ operation_refusal around (idle_session t) op
  pub reply : (operation_effect around (with_files t files) op).0 ≡ (operation_effect around (idle_session t) op).0
  pub tree : (operation_effect around (with_files t files) op).1.tree ≡ (operation_effect around (idle_session t) op).1.tree
  pub nodes : (ns : List (Option NodeView)) → nodes_after_operation t op ns ≡ ns

no_files : {X : Type 0} (f : OpenFilesByNumber → X) (files : OpenFilesByNumber) → f (None ∷ []) ≡ f [] → HasNoOpenFiles files → f files ≡ f []
no_files f files e (inl k) = ap f k
no_files f files e (inr k) = ap f k ∙ e

leaves : (t : Tree) (around : DiskSummary) (files : OpenFilesByNumber) (op : Operation) → HasNoOpenFiles files → is_remount op ≡ false → operation_refusal around (with_files t (None ∷ [])) op ≡ operation_refusal around (with_files t []) op
    → (operation_effect around (with_files t (None ∷ [])) op).0 ≡ (operation_effect around (with_files t []) op).0 → (operation_effect around (with_files t (None ∷ [])) op).1.tree ≡ (operation_effect around (with_files t []) op).1.tree
    → ((ns : List (Option NodeView)) → nodes_after_operation t op ns ≡ ns) → LeavesTables t around files op
leaves t around files op n other refusal reply tree nodes = record {
  other = other;
  refusal = no_files (λ fs. operation_refusal around (with_files t fs) op) files refusal n;
  reply = no_files (λ fs. (operation_effect around (with_files t fs) op).0) files reply n;
  tree = no_files (λ fs. (operation_effect around (with_files t fs) op).1.tree) files tree n;
  nodes = nodes;
}

pub leaves_tables : (t : Tree) (around : DiskSummary) (files : OpenFilesByNumber) (op : Operation) → HasNoOpenFiles files → is_alone op ≡ true → LeavesTables t around files op
leaves_tables t around files (ops.Mkdir path) n is = leaves t around files (ops.Mkdir path) n refl refl refl refl (λ ns. refl)
leaves_tables t around files (ops.ListAll path) n is = leaves t around files (ops.ListAll path) n refl refl refl refl (λ ns. refl)
leaves_tables t around files (ops.Stat path) n is = leaves t around files (ops.Stat path) n refl refl refl refl (λ ns. refl)
leaves_tables t around files (ops.GetAttr path kind) n is = leaves t around files (ops.GetAttr path kind) n refl refl refl refl (λ ns. refl)
leaves_tables t around files (ops.SetAttr path kind bytes) n is = leaves t around files (ops.SetAttr path kind bytes) n refl refl refl refl (λ ns. refl)
leaves_tables t around files (ops.RemoveAttr path kind) n is = leaves t around files (ops.RemoveAttr path kind) n refl refl refl refl (λ ns. refl)
leaves_tables t around files ops.AskGstate n is = leaves t around files ops.AskGstate n refl refl refl refl (λ ns. refl)
leaves_tables t around files (ops.IsUsed block) n is = leaves t around files (ops.IsUsed block) n refl refl refl refl (λ ns. refl)
leaves_tables t around files ops.UsedCount n is = leaves t around files ops.UsedCount n refl refl refl refl (λ ns. refl)
leaves_tables t around files ops.Recover n is = leaves t around files ops.Recover n refl refl refl refl (λ ns. refl)
leaves_tables t around files op n is = absurd (cc)

pub not_remount : (op : Operation) → is_alone op ≡ true → is_remount op ≡ false
not_remount ops.Remount is = absurd (cc)
not_remount op is = refl

-- ---- the results

-- the volume's result of such an operation, by the session's
result_is : (r q : Option Refusal) (s : Session) (v : Volume) (one two : Reply × Session) (ns : List (Option NodeView)) (hs : List (Option Handle)) → r ≡ q → s.tree ≡ v.tree → one.0 ≡ two.0 → one.1.tree ≡ two.1.tree → ns ≡ v.nodes → hs ≡ v.handles
    → ((unless_refused q v (two.0, record { tree = two.1.tree; nodes = ns; handles = hs })).0 ≡ (effects.unless_refused r s one).0)
    × (((effects.unless_refused r s one).1.tree ≡ (unless_refused q v (two.0, record { tree = two.1.tree; nodes = ns; handles = hs })).1.tree)
    × (v.nodes ≡ (unless_refused q v (two.0, record { tree = two.1.tree; nodes = ns; handles = hs })).1.nodes)
    × (v.handles ≡ (unless_refused q v (two.0, record { tree = two.1.tree; nodes = ns; handles = hs })).1.handles))
result_is None None s v one two ns hs same tree reply shows nodes handles = (sym reply, (shows, sym nodes, sym handles))
result_is (Some a) (Some b) s v one two ns hs same tree reply shows nodes handles = (let k : a ≡ b = cc in ap ops.Refused (sym k), (tree, refl, refl))
result_is None (Some b) s v one two ns hs same tree reply shows nodes handles = absurd (cc)
result_is (Some a) None s v one two ns hs same tree reply shows nodes handles = absurd (cc)

refusal_is : (r : Refusal) → error_result (refusal_error r) ≡ Ok (ops.Refused r)
refusal_is ops.NoEnt = refl
refusal_is r = refl

refusal_is_one : (r : Refusal) → refusals.is_refusal (refusal_error r) ≡ true
refusal_is_one ops.NoEnt = refl
refusal_is_one r = refl

-- what the session did in one operation
one_operation : (old new : SessionView) (op : Operation) (reply : Reply) (b : Bool) → is_refusal reply ≡ b → is_remount op ≡ false → IsCall old op (Ok reply) new → IsSessionCallSequence old (op ∷ []) new
one_operation old new op reply false is other call = inl (inr (record {
  before = [];
  change = op;
  after = [];
  are = refl;
  first = old;
  second = new;
  quiet = refl;
  changed = record { reply = reply; accepted = is; call = call; other = other };
  rest = refl;
}))
one_operation old new op (ops.Refused r) true is other call =
    inr (refusal_error r, (refusal_is_one r, record { before = []; next = op; others = []; are = refl; at = old; quiet = refl; ends = subst (λ z. IsCall old op z new) (sym (refusal_is r)) call }))
one_operation old new op reply true is other call = absurd (cc)

-- a session fails by no refusal
pub no_refusal : (e : Error) (old new : SessionView) (op : Operation) → SessionFails e (system_state old) op (system_state new) → refusals.is_refusal e ≡ false
no_refusal e old new op f = go f.errors
  where
    go : (e ≡ Io) ⊎ ((e ≡ NoMemory) ⊎ ((e ≡ Corrupt) × (is_remount op ≡ true) × ShowsTree (system_state old).disk None)) → refusals.is_refusal e ≡ false
    go (inl k) = ap refusals.is_refusal k
    go (inr (inl k)) = ap refusals.is_refusal k
    go (inr (inr k)) = ap refusals.is_refusal k.0

pub performed : (old new : VolumeView) (op : Operation) (x : Result Reply Error) → is_alone op ≡ true → IsSoundVolume old → IsCall old.session op x new.session → new.nodes ≡ old.nodes → new.handles ≡ old.handles → IsHealthyVolumeCall old (Perform op) x new
performed old new op (Ok reply) alone sound call nodes handles =
    let t = visible_tree old.session.tree in
    let other = not_remount op alone in
    let a = answered old.session op reply new.session other sound.idle.works call.answers in
    let l = leaves_tables t a.around old.session.files op sound.idle.files alone in
    let r = result_is (operation_refusal a.around (viewed_session old.session) op) (operation_refusal a.around (idle_session t) op) (viewed_session old.session) (volume_of old) (operation_effect a.around (viewed_session old.session) op) (operation_effect a.around (idle_session t) op)
    (nodes_after_operation t op old.nodes) old.handles l.refusal refl l.reply l.tree (l.nodes old.nodes) refl in
    record {
      around = a.around;
      at = old.session;
      pairs = a.pairs;
      accepted = a.accepted;
      surrounds = a.surrounds;
      shows = refl;
      before = [];
      reached = refl;
      reply_is = r.0 ∙ ap (λ (z : Reply × Session). z.0) a.is;
      next = same_as (call_result a.around (volume_of old) (Perform op)).1 (volume_of new) (sym (ap (λ (z : Reply × Session). z.1.tree) a.is) ∙ r.1.0) (nodes ∙ r.1.1) (handles ∙ r.1.2);
      operations = op ∷ [];
      session_part = one_operation old.session new.session op reply (is_refusal reply) refl other call;
    }
performed old new op (Err e) alone sound call nodes handles =
    let not = no_refusal e old.session new.session op call.answers in
    inr (not, (op ∷ [], record { before = []; next = op; others = []; are = refl; at = old.session; quiet = refl; ends = subst (λ b. IsCall old.session op (cond b (Ok (ops.Refused (refusals.error_refusal e))) (Err e)) new.session) (sym not) call }))

-- ---- a volume that may have failed

-- a session that has failed says so, and nothing changes
pub asked_failed : (old new : SessionView) (op : Operation) (x : Result Reply Error) → is_remount op ≡ false → IsCall old op x new → old.tree.failed ≡ true → (x ≡ Ok (ops.Refused ops.Failed)) × (new ≡ old)
asked_failed old new op x other call failed = (
  call.ends.failed failed other,
  call.ends.at_once ops.Failed (ap (λ b. cond b (Some ops.Failed) (operation_refusal (tree_summary old.tree) (viewed_session old) op)) failed) (ap not other),
)

pub same_view : (old new : VolumeView) → new.session ≡ old.session → new.nodes ≡ old.nodes → new.handles ≡ old.handles → new ≡ old
same_view old new session nodes handles = ap at session ∙ ap₂ with_tables nodes handles
  where
    at : SessionView → VolumeView
    at h = record { session = h; nodes = new.nodes; handles = new.handles }

    with_tables : List (Option NodeView) → List (Option Handle) → VolumeView
    with_tables ns hs = record { session = old.session; nodes = ns; handles = hs }

pub sound_same : (old new : VolumeView) → IsSoundIfWorking old → new.session ≡ old.session → new.nodes ≡ old.nodes → new.handles ≡ old.handles → IsSoundIfWorking new
sound_same old new sound session nodes handles = subst IsSoundIfWorking (sym (same_view old new session nodes handles)) sound

-- one operation of the session, that leaves the tables of a volume that has failed
pub operation_call : (old new : VolumeView) (call : Call) (op : Operation) (x : Result Reply Error) → is_remount op ≡ false → IsCall old.session op x new.session → new.nodes ≡ old.nodes → new.handles ≡ old.handles → IsSoundIfWorking old → (IsSoundVolume old → IsHealthyVolumeCall old call x new) → IsVolumeCall old call x new
operation_call old new call op x other does nodes handles sound is = record {
  failed = λ f. (let k = asked_failed old.session new.session op x other does f in (k.0, same_view old new k.1 nodes handles));
  works = λ w. is (sound w);
}

pub operation_keeps : (old new : VolumeView) (op : Operation) (x : Result Reply Error) → is_remount op ≡ false → IsCall old.session op x new.session → IsSoundIfWorking old → (IsSoundVolume old → IsSoundIfWorking new) → IsSoundIfWorking new
operation_keeps old new op x other does sound keeps works = go old.session.tree.failed refl
  where
    go : (b : Bool) → old.session.tree.failed ≡ b → IsSoundVolume new
    go false w = keeps (sound w) works
    go true f = absurd (let k : true ≡ false = sym f ∙ sym (ap (λ (h : SessionView). h.tree.failed) (asked_failed old.session new.session op x other does f).1) ∙ works in cc)

pub performed_call : (old new : VolumeView) (op : Operation) (x : Result Reply Error) → is_alone op ≡ true → IsSoundIfWorking old → IsCall old.session op x new.session → new.nodes ≡ old.nodes → new.handles ≡ old.handles → IsSessionCall old op x new
performed_call old new op x alone sound call nodes handles = record {
  call = operation_call old new (Perform op) op x (not_remount op alone) call nodes handles sound (λ s. performed old new op x alone s call nodes handles);
  session = call;
}
