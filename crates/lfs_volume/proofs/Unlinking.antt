-- Calls of a volume that load a node, and then perform one operation of the session: a remove, a rename.
use Rattle.std.proofs.Common.{inl, inr, ℕ, ◌≡◌, Bool, true, false, cond, List, [], ◌∷◌, ◌++◌, length, Option, Some, None, Ok, refl, sym, ap, subst, ◌∙◌}
use Rattle.std.specs.Prelude.{slice_set}
use Rattle.std.specs.Option.{option_map}
use Rattle.lfs_device.specs.declared.error.Error.{Error}
use Rattle.lfs_lookup.specs.RefusalErrors as refusals
use Rattle.lfs_model.specs.format.Disk.{disk_with_order}
use Rattle.lfs_model.specs.tree.Tree.{Tree}
use Rattle.lfs_model.specs.session.Operations as ops
use Rattle.lfs_model.specs.session.Operations.{Operation, Reply}
use Rattle.lfs_model.specs.session.Session.{DiskSummary, OpenFilesByNumber, Session}
use Rattle.lfs_model.specs.session.State.{is_remount}
use Rattle.lfs_model.specs.session.Refusals.{operation_refusal}
use Rattle.lfs_model.specs.session.Effects.{operation_effect}
use Rattle.lfs_model.specs.session.Run.{is_refusal}
use Rattle.lfs_tree.specs.TreeState.{visible_tree}
use Rattle.lfs_fs.specs.CallEffects.{IsCall}
use Rattle.lfs_fs.specs.SessionView.{SessionView, viewed_session}
use Rattle.lfs_volume.specs.Calls.{Perform, call_effect, call_result, nodes_after_operation, unless_refused}
use Rattle.lfs_volume.specs.Opened.{HasNoOpenFiles, IsIdleSession}
use Rattle.lfs_volume.specs.SessionCalls.{EndsAtErrorOperation, error_result}
use Rattle.lfs_volume.specs.Volume.{NodeView, Volume, VolumeView, entry_at, idle_session, loaded_node, node_bytes, volume_of}
use Rattle.lfs_volume.specs.VolumeCalls.{IsLoadedAt, IsVolumeReply, DiffersOnlyByLoads, IsSoundIfWorking, IsSoundVolume, IsHealthyVolumeCall}
use Rattle.lfs_volume.proofs.Entries.{set_same}
use Rattle.lfs_volume.proofs.SessionOperations.{with_files}
use Rattle.lfs_volume.proofs.Soundness.{failed_not_working, handles_stay, loaded_sound, part_profile, sound_in_memory, sound_kept}
use Rattle.lfs_volume.proofs.Saving.{quiet_profile}
use Rattle.lfs_volume.proofs.Steps.{IsDone, IsRefused, done, refusal_step, refused}
use Rattle.lfs_volume.proofs.VolumeSteps.{failed_call, refusal_reply, same_as, same_when_loaded}

-- ---- a node was loaded

-- A node was brought into memory, by calls that kept the tree.
pub record IsReady (old mid : VolumeView) (place : ℕ) : Type 0 where
  pub loaded : IsLoadedAt old.session old.nodes place mid.session mid.nodes
  pub handles : mid.handles ≡ old.handles

pub ready_sound : (old mid : VolumeView) (place : ℕ) → IsSoundVolume old → IsReady old mid place → IsSoundVolume mid
ready_sound old mid place sound r = go (entry_at old.nodes place) refl
  where
    go : (o : Option NodeView) → entry_at old.nodes place ≡ o → IsSoundVolume mid
    go None e =
        sound_kept old mid sound r.loaded.idle (quiet_profile old.session mid.session r.loaded.operations r.loaded.calls)
        (r.loaded.are ∙ ap (λ (o : Option NodeView). slice_set old.nodes place (option_map (λ n. loaded_node (node_bytes (visible_tree old.session.tree) n) n) o)) e ∙ ap (slice_set old.nodes place) (sym e) ∙ set_same old.nodes place) r.handles
    go (Some n) e =
        sound_in_memory old mid mid place n (loaded_node (node_bytes (visible_tree old.session.tree) n) n) sound e r.loaded refl
        (r.loaded.are ∙ ap (λ (o : Option NodeView). slice_set old.nodes place (option_map (λ k. loaded_node (node_bytes (visible_tree old.session.tree) k) k) o)) e) refl (loaded_sound old.session n (sound.nodes place n e)) (handles_stay old.handles mid.handles r.handles)

-- ---- the operation

-- It is refused as where no file ever was open. It changes the tree alone, and by what the tree is.
pub record ChangesTree (t : Tree) (around : DiskSummary) (files : OpenFilesByNumber) (op : Operation) : Type 0 where
  pub refusal : operation_refusal around (with_files t files) op ≡ operation_refusal around (idle_session t) op
  pub reply : (operation_effect around (with_files t files) op).0 ≡ (operation_effect around (idle_session t) op).0
  pub tree : (operation_effect around (with_files t files) op).1.tree ≡ (operation_effect around (idle_session t) op).1.tree
  pub same_files : (operation_effect around (with_files t files) op).1.files ≡ files

-- an operation on entries, of which none is open in the session
pub record IsOnEntries (op : Operation) : Type 0 where
  pub other : is_remount op ≡ false
  pub proper : (around : DiskSummary) (s : Session) → is_refusal (operation_effect around s op).0 ≡ false
  pub changes : (t : Tree) (around : DiskSummary) (files : OpenFilesByNumber) → HasNoOpenFiles files → ChangesTree t around files op

without_files : {X : Type 0} (f : OpenFilesByNumber → X) (files : OpenFilesByNumber) → f (None ∷ []) ≡ f [] → HasNoOpenFiles files → f files ≡ f []
without_files f files e (inl k) = ap f k
without_files f files e (inr k) = ap f k ∙ e

pub remove_on_entries : (path : List ℕ) → IsOnEntries (ops.Remove path)
remove_on_entries path = record {
  other = refl;
  proper = λ around s. refl;
  changes = λ t around files n. record { refusal = without_files (λ fs. operation_refusal around (with_files t fs) (ops.Remove path)) files refl n; reply = refl; tree = refl; same_files = refl };
}

pub rename_on_entries : (from to : List ℕ) → IsOnEntries (ops.Rename from to)
rename_on_entries from to = record {
  other = refl;
  proper = λ around s. refl;
  changes = λ t around files n. record { refusal = without_files (λ fs. operation_refusal around (with_files t fs) (ops.Rename from to)) files refl n; reply = refl; tree = refl; same_files = refl };
}

module _ (old mid : VolumeView) (place : ℕ) (sound : IsSoundVolume old) (r : IsReady old mid place) (op : Operation) (o : IsOnEntries op) where
  -- the tree from before, as the session shows it now
  abbrev t : Tree
  t = visible_tree mid.session.tree

  abbrev started : Tree → Volume
  started tree = record { tree = tree; nodes = old.nodes; handles = old.handles }

  pub is_done : (new : SessionView) (reply : Reply) → is_refusal reply ≡ false → IsCall mid.session op (Ok reply) new → IsDone mid.session op reply new
  is_done new reply accepted call = done mid.session op reply new o.other r.loaded.idle.works accepted call.answers

  -- no check refused it
  pub passes_alone : (new : SessionView) (reply : Reply) (d : IsDone mid.session op reply new) → operation_refusal d.around (idle_session (visible_tree mid.session.tree)) op ≡ None
  passes_alone new reply d = sym (o.changes t d.around mid.session.files r.loaded.idle.files).refusal ∙ d.passes

  pub tree_after : (new : SessionView) (reply : Reply) (d : IsDone mid.session op reply new) → visible_tree new.tree ≡ (operation_effect d.around (idle_session (visible_tree mid.session.tree)) op).1.tree
  tree_after new reply d = sym (ap (λ (z : Reply × Session). z.1.tree) d.is) ∙ (o.changes t d.around mid.session.files r.loaded.idle.files).tree

  pub idle_after : (new : SessionView) (reply : Reply) → IsDone mid.session op reply new → IsIdleSession new (visible_tree new.tree)
  idle_after new reply d = record {
    works = d.works;
    shows = refl;
    files = subst HasNoOpenFiles (sym (sym (ap (λ (z : Reply × Session). z.1.files) d.is) ∙ (o.changes t d.around mid.session.files r.loaded.idle.files).same_files)) r.loaded.idle.files;
  }

  pub profile_after : (new : SessionView) (reply : Reply) → IsCall mid.session op (Ok reply) new → new.tree.disk.profile ≡ mid.session.tree.disk.profile
  profile_after new reply call = call.answers.geometry.profile ∙ ap (λ b. (cond b (disk_with_order new.tree.disk.order mid.session.tree.disk) mid.session.tree.disk).profile) o.other

  -- it was accepted
  pub accepted_after : (new : VolumeView) (reply : Reply) → is_refusal reply ≡ false → IsCall mid.session op (Ok reply) new.session → new.nodes ≡ nodes_after_operation (visible_tree mid.session.tree) op old.nodes → new.handles ≡ old.handles → IsVolumeReply old (Perform op) reply new
  accepted_after new reply accepted call nodes handles =
      let d = is_done new.session reply accepted call in
      let c = o.changes t d.around mid.session.files r.loaded.idle.files in
      let result : call_result d.around (started t) (Perform op) ≡ call_effect d.around (started t) (Perform op) = ap (λ z. unless_refused z (started t) (call_effect d.around (started t) (Perform op))) (passes_alone new.session reply d) in
      record {
        around = d.around;
        at = mid.session;
        pairs = d.pairs;
        accepted = d.accepted;
        surrounds = d.surrounds;
        shows = r.loaded.idle.shows;
        before = r.loaded.operations;
        reached = r.loaded.calls;
        reply_is = subst (λ (tree : Tree). (call_result d.around (record { tree = tree; nodes = old.nodes; handles = old.handles }) (Perform op)).0 ≡ reply) r.loaded.idle.shows
            (ap (λ (z : Reply × Volume). z.0) result ∙ sym c.reply ∙ ap (λ (z : Reply × Session). z.0) d.is);
        next = subst (λ (tree : Tree). DiffersOnlyByLoads (call_result d.around (record { tree = tree; nodes = old.nodes; handles = old.handles }) (Perform op)).1 (volume_of new)) r.loaded.idle.shows
            (subst (λ (z : Reply × Volume). DiffersOnlyByLoads z.1 (volume_of new)) (sym result) (same_as (call_effect d.around (started t) (Perform op)).1 (volume_of new) (tree_after new.session reply d) nodes handles));
        operations = r.loaded.operations ++ op ∷ [];
        session_part = inl (inr (record {
          before = r.loaded.operations;
          change = op;
          after = [];
          are = refl;
          first = mid.session;
          second = new.session;
          quiet = r.loaded.calls;
          changed = record { reply = reply; accepted = accepted; call = call; other = o.other };
          rest = refl;
        }));
      }

  -- it ended in an error
  pub ends_in : (e : Error) (new : SessionView) → IsCall mid.session op (error_result e) new → EndsAtErrorOperation e old.session (r.loaded.operations ++ op ∷ []) new
  ends_in e new call = record { before = r.loaded.operations; next = op; others = []; are = refl; at = mid.session; quiet = r.loaded.calls; ends = call }

  is_refused : (e : Error) (new : SessionView) → refusals.is_refusal e ≡ true → IsCall mid.session op (error_result e) new → IsRefused mid.session op (refusals.error_refusal e) new
  is_refused e new is call = refused mid.session op (refusals.error_refusal e) new o.other r.loaded.idle.works (λ around. o.proper around (viewed_session mid.session)) (refusal_step mid.session op e new is call.answers)

  refused_after : (e : Error) (new : VolumeView) → refusals.is_refusal e ≡ true → IsCall mid.session op (error_result e) new.session → new.nodes ≡ mid.nodes → new.handles ≡ old.handles → IsVolumeReply old (Perform op) (ops.Refused (refusals.error_refusal e)) new
  refused_after e new is call nodes handles =
      let k = is_refused e new.session is call in
      let error = refusals.error_refusal e in
      let c = o.changes t k.around mid.session.files r.loaded.idle.files in
      let by : operation_refusal k.around (idle_session t) op ≡ Some error = sym c.refusal ∙ k.by in
      let refuses = subst (λ (tree : Tree). operation_refusal k.around (idle_session tree) op ≡ Some error) r.loaded.idle.shows by in
      let result : call_result k.around (volume_of old) (Perform op) ≡ (ops.Refused error, volume_of old) = ap (λ z. unless_refused z (volume_of old) (call_effect k.around (volume_of old) (Perform op))) refuses in
      let shows : visible_tree new.session.tree ≡ visible_tree mid.session.tree = ap (λ (s : Session). s.tree) k.stays in
      let same = same_when_loaded old mid place r.loaded r.handles in
      let next : DiffersOnlyByLoads (volume_of old) (volume_of new) = record {
        tree = shows ∙ same.tree;
        handles = handles;
        count = ap length nodes ∙ same.count;
        none = λ i z. ap (λ (ns : List (Option NodeView)). entry_at ns i) nodes ∙ same.none i z;
        some = λ i n z. (let one = same.some i n z in (one.0, (ap (λ (ns : List (Option NodeView)). entry_at ns i) nodes ∙ one.1.0, one.1.1)));
      } in
      record {
        around = k.around;
        at = mid.session;
        pairs = k.pairs;
        accepted = k.accepted;
        surrounds = k.surrounds;
        shows = r.loaded.idle.shows;
        before = r.loaded.operations;
        reached = r.loaded.calls;
        reply_is = ap (λ (z : Reply × Volume). z.0) result;
        next = subst (λ (z : Reply × Volume). DiffersOnlyByLoads z.1 (volume_of new)) (sym result) next;
        operations = r.loaded.operations ++ op ∷ [];
        session_part = inr (e, (is, ends_in e new.session call));
      }

  pub ended_after : (e : Error) (new : VolumeView) → IsCall mid.session op (error_result e) new.session → new.nodes ≡ mid.nodes → new.handles ≡ old.handles → IsHealthyVolumeCall old (Perform op) (error_result e) new
  ended_after e new call nodes handles = go (refusals.is_refusal e) refl
    where
      go : (b : Bool) → refusals.is_refusal e ≡ b → IsHealthyVolumeCall old (Perform op) (error_result e) new
      go true is = refusal_reply e old new (Perform op) is (refused_after e new is call nodes handles)
      go false not = failed_call e old new (Perform op) (not, (r.loaded.operations ++ op ∷ [], ends_in e new.session call))

  pub ended_sound : (e : Error) (new : VolumeView) → IsCall mid.session op (error_result e) new.session → new.nodes ≡ mid.nodes → new.handles ≡ old.handles → IsSoundIfWorking new
  ended_sound e new call nodes handles works = go (refusals.is_refusal e) refl
    where
      go : (b : Bool) → refusals.is_refusal e ≡ b → IsSoundVolume new
      go true is =
          let k = is_refused e new.session is call in
          sound_kept mid new (ready_sound old mid place sound r) (record { works = works; shows = ap (λ (s : Session). s.tree) k.stays; files = subst HasNoOpenFiles (sym (ap (λ (s : Session). s.files) k.stays)) r.loaded.idle.files })
          (part_profile mid.session new.session (op ∷ []) (inr (e, (is, record { before = []; next = op; others = []; are = refl; at = mid.session; quiet = refl; ends = call })))) nodes (handles ∙ sym r.handles)
      go false not = absurd (failed_not_working e old.session new.session (not, (r.loaded.operations ++ op ∷ [], ends_in e new.session call)) works)
