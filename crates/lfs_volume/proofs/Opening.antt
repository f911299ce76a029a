-- An open of a file, by the definitions.
use Rattle.std.proofs.Common.{inl, inr, ℕ, ◌≡◌, not, Bool, true, false, cond, List, [], ◌∷◌, length, Option, Some, None, refl, sym, ap, ap₂, subst, ◌∙◌}
use Rattle.std.specs.Option.{option_or}
use Rattle.lfs_device.specs.declared.error.Error.{Error}
use Rattle.lfs_lookup.specs.RefusalErrors as refusals
use Rattle.lfs_model.specs.session.Operations as ops
use Rattle.lfs_model.specs.session.Operations.{FlagsOfOpen, Invalid, Refusal}
use Rattle.lfs_model.specs.session.Refusals.{operation_refusal, path_or_root}
use Rattle.lfs_model.specs.session.Session.{DiskSummary, Session, first_refusal, refuse_if}
use Rattle.lfs_model.specs.session.TreeEdits.{file_bytes}
use Rattle.lfs_tree.specs.TreeState.{visible_tree}
use Rattle.lfs_fs.specs.CallEffects.{IsCall}
use Rattle.lfs_fs.specs.SessionView.{SessionView}
use Rattle.lfs_volume.specs.declared.handles.Handle.{Handle}
use Rattle.lfs_volume.specs.Calls.{Open, call_effect, call_refusal, free_entry_index, new_handle, node_index_for_path, open_volume, nodes_after_open, session_flags, unless_refused, volume_flags_allowed, with_entry}
use Rattle.lfs_volume.specs.Opened.{IsIdleSession, reading_flags, writing_flags}
use Rattle.lfs_volume.specs.Saves.{OpensAndClosesFile, found_tree}
use Rattle.lfs_volume.specs.SessionCalls.{MayChangeTreeOnce, FailsInCalls, error_result}
use Rattle.lfs_volume.specs.Volume.{NodeView, VolumeView, idle_session, volume_of}
use Rattle.lfs_volume.specs.VolumeCalls.{IsVolumeReply, DiffersOnlyByLoads, IsSessionCallSequence, IsSoundVolume, IsHealthyVolumeCall, IsWorkingSession, LacksMemory}
use Rattle.lfs_volume.proofs.NodeCalls.{open_when_idle}
use Rattle.lfs_volume.proofs.Saving.{one_quiet}
use Rattle.lfs_volume.proofs.Steps.{refusal_step, refused}
use Rattle.lfs_volume.proofs.VolumeSteps.{failed_call, refusal_reply, refused_at_once, same_as}

-- the session is never asked to cut a file
pub uncut_flags : (f : FlagsOfOpen) → (session_flags f).truncate ≡ false
uncut_flags f = go f.write
  where
    go : (b : Bool) → (cond b (record writing_flags { create = f.create; exclusive = f.exclusive }) reading_flags).truncate ≡ false
    go true = refl
    go false = refl

-- by the checks of the session, where the flags go together
checks_are : (v : VolumeView) (path : List ℕ) (flags : FlagsOfOpen) (around : DiskSummary) (r : Option Refusal) → volume_flags_allowed flags ≡ true → operation_refusal around (idle_session (visible_tree v.session.tree)) (ops.Open path (session_flags flags)) ≡ r → call_refusal around (volume_of v) (Open path flags) ≡ option_or r None
checks_are v path flags around r allowed is = ap₂ (λ b x. first_refusal (refuse_if (not b) Invalid ∷ x ∷ [])) allowed is

-- ---- errors

pub open_forbidden : (v : VolumeView) (path : List ℕ) (flags : FlagsOfOpen) → IsWorkingSession v.session → volume_flags_allowed flags ≡ false → IsVolumeReply v (Open path flags) (ops.Refused Invalid) v
open_forbidden v path flags working e =
    refused_at_once v (Open path flags) Invalid working (λ around k. ap (λ b. first_refusal (refuse_if (not b) Invalid ∷ operation_refusal around (idle_session (visible_tree v.session.tree)) (ops.Open path (session_flags flags)) ∷ [])) e)

-- nothing has changed
pub wants_own_memory : (old new : VolumeView) (path : List ℕ) (flags : FlagsOfOpen) → IsSoundVolume old → new.session ≡ old.session → new.nodes ≡ old.nodes → new.handles ≡ old.handles → LacksMemory old (Open path flags) new
wants_own_memory old new path flags sound session nodes handles = record {
  may = refl;
  works = ap (λ (s : SessionView). s.tree.failed) session ∙ sound.idle.works;
  same = same_as (volume_of old) (volume_of new) (ap (λ (s : SessionView). visible_tree s.tree) session) nodes handles;
  operations = [];
  calls = sym session;
}

-- what the session did where its open ended in an error
pub open_part : (e : Error) (old new : SessionView) (path : List ℕ) (flags : FlagsOfOpen) → refusals.is_refusal e ≡ true → IsCall old (ops.Open path flags) (error_result e) new → IsSessionCallSequence old (ops.Open path flags ∷ []) new
open_part e old new path flags is call = inr (e, (is, record { before = []; next = ops.Open path flags; others = []; are = refl; at = old; quiet = refl; ends = call }))

pub open_fails : (e : Error) (old new : SessionView) (path : List ℕ) (flags : FlagsOfOpen) → refusals.is_refusal e ≡ false → IsCall old (ops.Open path flags) (error_result e) new → FailsInCalls e old new
open_fails e old new path flags not call = (not, (ops.Open path flags ∷ [], record { before = []; next = ops.Open path flags; others = []; are = refl; at = old; quiet = refl; ends = call }))

pub open_ended : (e : Error) (old new : VolumeView) (path : List ℕ) (flags : FlagsOfOpen) → IsSoundVolume old → volume_flags_allowed flags ≡ true → IsCall old.session (ops.Open path (session_flags flags)) (error_result e) new.session → new.nodes ≡ old.nodes → new.handles ≡ old.handles → IsHealthyVolumeCall old (Open path flags) (error_result e) new
open_ended e old new path flags sound allowed call nodes handles = go (refusals.is_refusal e) refl
  where
    go : (b : Bool) → refusals.is_refusal e ≡ b → IsHealthyVolumeCall old (Open path flags) (error_result e) new
    go false is = failed_call e old new (Open path flags) (open_fails e old.session new.session path (session_flags flags) is call)
    go true is =
        let r = refused old.session (ops.Open path (session_flags flags)) (refusals.error_refusal e) new.session refl sound.idle.works (λ around. refl) (refusal_step old.session (ops.Open path (session_flags flags)) e new.session is call.answers) in
        let refuses : call_refusal r.around (volume_of old) (Open path flags) ≡ Some (refusals.error_refusal e) =
        checks_are old path flags r.around (Some (refusals.error_refusal e)) allowed (sym (open_when_idle old.session path (session_flags flags) r.around sound.idle.files) ∙ r.by) in
        let shows : visible_tree new.session.tree ≡ visible_tree old.session.tree = ap (λ (s : Session). s.tree) r.stays in
        let both = subst (λ (x : Option Refusal). ((unless_refused x (volume_of old) (call_effect r.around (volume_of old) (Open path flags))).0 ≡ ops.Refused (refusals.error_refusal e)) × DiffersOnlyByLoads (unless_refused x (volume_of old) (call_effect r.around (volume_of old) (Open path flags))).1 (volume_of new))
        (sym refuses) (refl, same_as (volume_of old) (volume_of new) shows nodes handles) in
        refusal_reply e old new (Open path flags) is (record {
          around = r.around;
          at = old.session;
          pairs = r.pairs;
          accepted = r.accepted;
          surrounds = r.surrounds;
          shows = refl;
          before = [];
          reached = refl;
          reply_is = both.0;
          next = both.1;
          operations = ops.Open path (session_flags flags) ∷ [];
          session_part = open_part e old.session new.session path (session_flags flags) is call;
        })

-- ---- the file is open

-- The file was found, and the tables have the node and the handle.
pub record IsOpened (old : VolumeView) (path : List ℕ) (flags : FlagsOfOpen) (new : VolumeView) : Type 0 where
  pub size : ℕ
  pub found : OpensAndClosesFile old.session path (session_flags flags) size new.session
  pub nodes : new.nodes ≡ nodes_after_open path size flags.truncate old.nodes
  pub handles : new.handles ≡ with_entry old.handles (free_entry_index old.handles) (Some (new_handle (node_index_for_path old.nodes path) flags))

pub open_steps : (old new : SessionView) (path : List ℕ) (flags : FlagsOfOpen) (size : ℕ) → OpensAndClosesFile old path flags size new → MayChangeTreeOnce old (ops.Open path flags ∷ ops.Close 0 ∷ []) new
open_steps old new path flags size f = inr (record {
  before = [];
  change = ops.Open path flags;
  after = ops.Close 0 ∷ [];
  are = refl;
  first = old;
  second = f.between;
  quiet = refl;
  changed = f.opens;
  rest = one_quiet f.between new (ops.Close 0) f.closes f.kept;
})

pub open_done : (old new : VolumeView) (path : List ℕ) (flags : FlagsOfOpen) (number : ℕ) → volume_flags_allowed flags ≡ true → number ≡ free_entry_index old.handles → IsOpened old path flags new → IsVolumeReply old (Open path flags) (ops.Opened number) new
open_done old new path flags number allowed is o = record {
  around = o.found.around;
  at = old.session;
  pairs = o.found.pairs;
  accepted = o.found.accepted;
  surrounds = o.found.surrounds;
  shows = refl;
  before = [];
  reached = refl;
  reply_is = ap (λ r. (unless_refused r (volume_of old) (call_effect o.found.around (volume_of old) (Open path flags))).0) passes ∙ ap ops.Opened (sym is);
  next = subst (λ r. DiffersOnlyByLoads (unless_refused r (volume_of old) (call_effect o.found.around (volume_of old) (Open path flags))).1 (volume_of new)) (sym passes)
      (same_as (open_volume (found_tree (visible_tree old.session.tree) (path_or_root path)) path flags (volume_of old)).1 (volume_of new) o.found.idle.shows nodes o.handles);
  operations = ops.Open path (session_flags flags) ∷ ops.Close 0 ∷ [];
  session_part = inl (open_steps old.session new.session path (session_flags flags) o.size o.found);
}
  where
    passes : call_refusal o.found.around (volume_of old) (Open path flags) ≡ None
    passes = checks_are old path flags o.found.around None allowed o.found.passes

    nodes : new.nodes ≡ nodes_after_open path (length (file_bytes (found_tree (visible_tree old.session.tree) (path_or_root path) (path_or_root path)))) flags.truncate old.nodes
    nodes = o.nodes ∙ ap (λ s. nodes_after_open path s flags.truncate old.nodes) o.found.size_is

-- ---- from what the parts of the call ensure

pub open_ended_by : (e : Error) (old new : VolumeView) (path : List ℕ) (flags asked : FlagsOfOpen) → asked ≡ session_flags flags → IsSoundVolume old → volume_flags_allowed flags ≡ true
    → (IsIdleSession old.session (visible_tree old.session.tree) → asked.truncate ≡ false → IsCall old.session (ops.Open path asked) (error_result e) new.session) → new.nodes ≡ old.nodes → new.handles ≡ old.handles → IsHealthyVolumeCall old (Open path flags) (error_result e) new
open_ended_by e old new path flags asked is sound allowed ends nodes handles =
    open_ended e old new path flags sound allowed (subst (λ f. IsCall old.session (ops.Open path f) (error_result e) new.session) is (ends sound.idle (ap (λ (f : FlagsOfOpen). f.truncate) is ∙ uncut_flags flags))) nodes handles

pub opened_by : (old new : VolumeView) (path own : List ℕ) (flags asked : FlagsOfOpen) (size number node : ℕ) (truncates : Bool) (nodes : List (Option NodeView)) (handles : List (Option Handle)) (h : Handle)
    → own ≡ path → nodes ≡ old.nodes → handles ≡ old.handles → truncates ≡ flags.truncate → asked ≡ session_flags flags → number ≡ free_entry_index old.handles → node ≡ node_index_for_path nodes own → new.nodes ≡ nodes_after_open own size truncates nodes
    → h ≡ new_handle node flags → new.handles ≡ with_entry handles number (Some h) → IsSoundVolume old → (IsIdleSession old.session (visible_tree old.session.tree) → asked.truncate ≡ false → OpensAndClosesFile old.session path asked size new.session) → IsOpened old path flags new
opened_by old new path own flags asked size number node truncates nodes handles h own_is nodes_are handles_are truncates_is asked_is number_is node_is listed h_is put sound found = record {
  size = size;
  found = subst (λ f. OpensAndClosesFile old.session path f size new.session) asked_is (found sound.idle (ap (λ (f : FlagsOfOpen). f.truncate) asked_is ∙ uncut_flags flags));
  nodes = listed ∙ ap₂ (λ (p : List ℕ) (ns : List (Option NodeView)). nodes_after_open p size truncates ns) own_is nodes_are ∙ ap (λ b. nodes_after_open path size b old.nodes) truncates_is;
  handles =
      put ∙ ap₂ (λ (hs : List (Option Handle)) (i : ℕ). with_entry hs i (Some h)) handles_are number_is
      ∙ ap (λ (g : Handle). with_entry old.handles (free_entry_index old.handles) (Some g)) (h_is ∙ ap (λ i. new_handle i flags) (node_is ∙ ap₂ node_index_for_path nodes_are own_is));
}
