-- Calls of a volume, from what its parts ensure.
use Rattle.std.proofs.Common.{inl, inr, ℕ, ◌≡◌, ◌+◌, ◌==◌, ◌<◌, ◌≤◌, ◌&&◌, max, nat_lt, not, Bool, true, false, cond, List, [], ◌∷◌, length, take, drop, Option, Some, None, Result, Ok, Err, is_none, unwrap_or, refl, sym, ap, ap₂, subst, ◌∙◌, arith}
use Rattle.std.specs.Prelude.{◌⊎◌, IsErrAnd, IsSome, IfSome, slice_set}
use Rattle.std.specs.Option.{option_and_then, option_map}
use Rattle.std.proofs.lemmas.Bool.{le-ltb, lt-ltb}
use Rattle.lfs_device.specs.declared.error.Error.{Error}
use Rattle.lfs_device.specs.declared.error.Error.TheVariants as error
use Rattle.lfs_lookup.specs.RefusalErrors as refusals
use Rattle.lfs_model.specs.declared.limits.Profile.{Profile}
use Rattle.lfs_model.specs.format.Disk.{profile_file_max}
use Rattle.lfs_model.specs.tree.Tree.{Tree}
use Rattle.lfs_model.specs.session.Operations as ops
use Rattle.lfs_model.specs.session.Operations.{BadFile, Invalid, TooBig, Operation, Refusal, Reply}
use Rattle.lfs_model.specs.session.Refusals.{operation_refusal}
use Rattle.lfs_model.specs.session.Session.{DiskSummary, first_refusal, file_block_count, refuse_if}
use Rattle.lfs_model.specs.session.Writers.{zero_padded}
use Rattle.lfs_tree.specs.TreeState.{visible_tree}
use Rattle.lfs_fs.specs.Replies.{reply_from}
use Rattle.lfs_fs.specs.SessionView.{SessionView}
use Rattle.lfs_volume.specs.declared.handles.Handle.{Handle}
use Rattle.lfs_volume.specs.Calls.{Call, Close, Read, Seek, Size, Sync, Tell, Truncate, Write, call_effect, call_refusal, call_result, close_effect, nodes_after_close, volume_after_close, handle_node, would_extend_node, may_need_memory, volume_after_seek, named, needs_sync, handle_node_index, read_effect, stored_node, sync_node, sync_refusal, tree_after_sync, unless_refused, write_effect, would_write_extend, write_too_big, written_size}
use Rattle.lfs_volume.specs.DirtyRanges.{resize_dirty_range}
use Rattle.lfs_volume.specs.Opened.{IsIdleSession, writing_flags}
use Rattle.lfs_volume.specs.SessionCalls.{AreTreePreservingCalls, MayChangeTreeOnce, FailsInCalls, error_result}
use Rattle.lfs_volume.specs.Volume.{NodeView, Volume, VolumeView, entry_at, idle_session, loaded_node, node_bytes, resized_node, volume_of, with_position, write_offset, written_node}
use Rattle.lfs_volume.specs.VolumeCalls.{FailsSyncAt, IsAllowedWriteOffset, IsHandleDropped, WriteExceedsFileMax, IsHandleLookup, IsLoadedAt, IsNodeSyncRefused, IsNodeSynced, IsReadyToRead, IsVolumeReply, IsNodeOrLoadedNode, DiffersOnlyByLoads, IsSessionCallSequence, IsSoundNode, IsSoundVolume, IsSyncRefusal, IsSyncedAt, IsVolumeCall, IsHealthyVolumeCall, IsWorkingSession, LacksMemory}
use Rattle.lfs_volume.proofs.Asking.{same_volume}
use Rattle.lfs_volume.proofs.Entries.{changed_entry, entry_inside, entry_set, set_length, set_same, set_twice}
use Rattle.lfs_volume.proofs.Steps.{done}

-- ---- the relation of a call

pub some_from : {A : Type 0} (o : Option A) → IsSome o → (x : A) × (o ≡ Some x)
some_from None is = absurd (cc)
some_from (Some x) is = (x, refl)

-- the same tables and the same tree
pub same_as : (a w : Volume) → w.tree ≡ a.tree → w.nodes ≡ a.nodes → w.handles ≡ a.handles → DiffersOnlyByLoads a w
same_as a w tree nodes handles = record {
  tree = tree;
  handles = handles;
  count = ap length nodes;
  none = λ i e. ap (λ (ns : List (Option NodeView)). entry_at ns i) nodes ∙ e;
  some = λ i n e. (n, (ap (λ (ns : List (Option NodeView)). entry_at ns i) nodes ∙ e, inl refl));
}

-- a volume of which one node's bytes came into memory
pub same_when_loaded : (old new : VolumeView) (i : ℕ) → IsLoadedAt old.session old.nodes i new.session new.nodes → new.handles ≡ old.handles → DiffersOnlyByLoads (volume_of old) (volume_of new)
same_when_loaded old new i l handles = record {
  tree = l.idle.shows;
  handles = handles;
  count = ap length l.are ∙ set_length old.nodes i (option_map (λ n. loaded_node (node_bytes (visible_tree old.session.tree) n) n) (entry_at old.nodes i));
  none = λ j e. ap (λ (ns : List (Option NodeView)). entry_at ns j) l.are ∙ none j e (changed_entry old.nodes i j (λ n. loaded_node (node_bytes (visible_tree old.session.tree) n) n));
  some = λ j n e. some j n e (changed_entry old.nodes i j (λ n. loaded_node (node_bytes (visible_tree old.session.tree) n) n));
}
  where
    changed : List (Option NodeView)
    changed = slice_set old.nodes i (option_map (λ n. loaded_node (node_bytes (visible_tree old.session.tree) n) n) (entry_at old.nodes i))

    none : (j : ℕ) → entry_at old.nodes j ≡ None → (entry_at changed j ≡ entry_at old.nodes j) ⊎ ((i ≡ j) × (entry_at changed j ≡ option_map (λ n. loaded_node (node_bytes (visible_tree old.session.tree) n) n) (entry_at old.nodes j))) → entry_at changed j ≡ None
    none j e (inl k) = k ∙ e
    none j e (inr p) = p.1 ∙ ap (option_map (λ n. loaded_node (node_bytes (visible_tree old.session.tree) n) n)) e

    some : (j : ℕ) (n : NodeView) → entry_at old.nodes j ≡ Some n → (entry_at changed j ≡ entry_at old.nodes j) ⊎ ((i ≡ j) × (entry_at changed j ≡ option_map (λ n. loaded_node (node_bytes (visible_tree old.session.tree) n) n) (entry_at old.nodes j)))
        → (m : NodeView) × ((entry_at new.nodes j ≡ Some m) × IsNodeOrLoadedNode (visible_tree old.session.tree) n m)
    some j n e (inl k) = (n, (ap (λ (ns : List (Option NodeView)). entry_at ns j) l.are ∙ k ∙ e, inl refl))
    some j n e (inr p) = (loaded_node (node_bytes (visible_tree old.session.tree) n) n, (ap (λ (ns : List (Option NodeView)). entry_at ns j) l.are ∙ p.1 ∙ ap (option_map (λ n. loaded_node (node_bytes (visible_tree old.session.tree) n) n)) e, inr refl))

pub volume_equal : (a w : Volume) → w.tree ≡ a.tree → w.nodes ≡ a.nodes → w.handles ≡ a.handles → w ≡ a
volume_equal a w tree nodes handles = volume_at tree ∙ ap₂ tables_at nodes handles
  where
    at_tree : Tree → Volume
    at_tree t = record { tree = t; nodes = w.nodes; handles = w.handles }

    volume_at : w.tree ≡ a.tree → w ≡ at_tree a.tree
    volume_at e = ap at_tree e

    tables_at : List (Option NodeView) → List (Option Handle) → Volume
    tables_at ns hs = record { tree = a.tree; nodes = ns; handles = hs }

-- what is known of a summary of the disk before
abbrev pub Around : VolumeView → DiskSummary → Type 0
Around old around = around.profile ≡ old.session.tree.disk.profile

pub replied : (old new : VolumeView) (call : Call) (reply : Reply) (operations : List Operation) → IsWorkingSession old.session → IsSessionCallSequence old.session operations new.session
    → ((around : DiskSummary) → Around old around → ((call_result around (volume_of old) call).0 ≡ reply) × DiffersOnlyByLoads (call_result around (volume_of old) call).1 (volume_of new)) → IsVolumeReply old call reply new
replied old new call reply operations (works, (n, asked)) part is =
    let d = done old.session ops.UsedCount (ops.Count n) old.session refl works refl asked.answers in
    let result = is d.around d.surrounds.profile in
    record {
      around = d.around;
      at = old.session;
      pairs = d.pairs;
      accepted = d.accepted;
      surrounds = d.surrounds;
      shows = refl;
      before = [];
      reached = refl;
      reply_is = result.0;
      next = result.1;
      operations = operations;
      session_part = part;
    }

-- no check refuses it
pub accepted_call : (old new : VolumeView) (call : Call) (reply : Reply) (operations : List Operation) → IsWorkingSession old.session → MayChangeTreeOnce old.session operations new.session → ((around : DiskSummary) → Around old around → call_refusal around (volume_of old) call ≡ None)
    → ((around : DiskSummary) → ((call_effect around (volume_of old) call).0 ≡ reply) × DiffersOnlyByLoads (call_effect around (volume_of old) call).1 (volume_of new)) → IsVolumeReply old call reply new
accepted_call old new call reply operations working steps passes effect =
    replied old new call reply operations working (inl steps) (λ around same.
    subst (λ r. ((unless_refused r (volume_of old) (call_effect around (volume_of old) call)).0 ≡ reply) × DiffersOnlyByLoads (unless_refused r (volume_of old) (call_effect around (volume_of old) call)).1 (volume_of new)) (sym (passes around same)) (effect around))

-- a check refuses it
pub refused_call : (old new : VolumeView) (call : Call) (error : Refusal) (operations : List Operation) → IsWorkingSession old.session → MayChangeTreeOnce old.session operations new.session → DiffersOnlyByLoads (volume_of old) (volume_of new)
    → ((around : DiskSummary) → Around old around → call_refusal around (volume_of old) call ≡ Some error) → IsVolumeReply old call (ops.Refused error) new
refused_call old new call error operations working steps same refuses =
    replied old new call (ops.Refused error) operations working (inl steps) (λ around k.
    subst (λ r. ((unless_refused r (volume_of old) (call_effect around (volume_of old) call)).0 ≡ ops.Refused error) × DiffersOnlyByLoads (unless_refused r (volume_of old) (call_effect around (volume_of old) call)).1 (volume_of new)) (sym (refuses around k)) (refl, same))

-- at once
pub refused_at_once : (v : VolumeView) (call : Call) (error : Refusal) → IsWorkingSession v.session → ((around : DiskSummary) → Around v around → call_refusal around (volume_of v) call ≡ Some error) → IsVolumeReply v call (ops.Refused error) v
refused_at_once v call error working refuses = refused_call v v call error [] working (inl refl) (same_volume (volume_of v)) refuses

-- ---- errors

-- an error that is passed on
pub ended_call : {A : Type 0} (reply : A → Reply) (r : Result A Error) (e : Error) (old new : VolumeView) (call : Call) → IsErrAnd r (λ f. f ≡ e) → IsHealthyVolumeCall old call (error_result e) new → IsHealthyVolumeCall old call (reply_from reply r) new
ended_call reply (Ok x) e old new call is h = absurd is
ended_call reply (Err f) e old new call is h = subst (λ z. IsHealthyVolumeCall old call (error_result z) new) (sym is) h

-- the session failed
pub failed_call : (e : Error) (old new : VolumeView) (call : Call) → FailsInCalls e old.session new.session → IsHealthyVolumeCall old call (error_result e) new
failed_call e old new call (not, ends) = subst (λ b. IsHealthyVolumeCall old call (cond b (Ok (ops.Refused (refusals.error_refusal e))) (Err e)) new) (sym not) (inr (not, ends))

-- ---- the whole relation

not_both : {X : Type 0} (h : SessionView) → h.tree.failed ≡ true → h.tree.failed ≡ false → X
not_both h failed works = absurd (let k : true ≡ false = sym failed ∙ works in cc)

-- of a volume that works
pub working_call : (old new : VolumeView) (call : Call) (r : Result Reply Error) → old.session.tree.failed ≡ false → IsHealthyVolumeCall old call r new → IsVolumeCall old call r new
working_call old new call r works is = record { failed = λ f. not_both old.session f works; works = λ w. is }

-- of one that has failed
pub failed_reply : (e : Error) (v : VolumeView) (call : Call) → (e ≡ error.Failed) × (v.session.tree.failed ≡ true) → IsVolumeCall v call (error_result e) v
failed_reply e v call (is, failed) = record { failed = λ f. (ap error_result is, refl); works = λ w. not_both v.session failed w }

-- no handle has the number
pub no_handle : (e : Error) (v : VolumeView) (handle : ℕ) (call : Call) → IsHandleLookup v handle (Err e) → ((around : DiskSummary) → entry_at v.handles handle ≡ None → call_refusal around (volume_of v) call ≡ Some BadFile) → IsVolumeCall v call (error_result e) v
no_handle e v handle call (inl failed) refuses = failed_reply e v call failed
no_handle e v handle call (inr (bad, working, none)) refuses =
    working_call v v call (error_result e) working.0 (subst (λ z. IsHealthyVolumeCall v call (error_result z) v) (sym bad) (refused_at_once v call BadFile working (λ around k. refuses around none)))

-- an error that is passed on
pub passed_error : {A : Type 0} (reply : A → Reply) (r : Result A Error) (e : Error) (P : Result Reply Error → Type 0) → IsErrAnd r (λ f. f ≡ e) → P (error_result e) → P (reply_from reply r)
passed_error reply (Ok x) e P is h = absurd is
passed_error reply (Err f) e P is h = subst (λ z. P (error_result z)) (sym is) h

pub wants_memory : (old new : VolumeView) (call : Call) (i : ℕ) → IsLoadedAt old.session old.nodes i new.session new.nodes → new.handles ≡ old.handles → may_need_memory (volume_of old) call ≡ true → LacksMemory old call new
wants_memory old new call i l handles may = record {
  may = may;
  works = l.idle.works;
  same = same_when_loaded old new i l handles;
  operations = l.operations;
  calls = l.calls;
}

pub sound_at : (v : VolumeView) (i : ℕ) → IsSoundVolume v → (n : NodeView) → entry_at v.nodes i ≡ Some n → IsSoundNode v.session n
sound_at v i sound n e = sound.nodes i n e

-- ---- a position

pub tell_none : (v : VolumeView) (handle : ℕ) (around : DiskSummary) → entry_at v.handles handle ≡ None → call_refusal around (volume_of v) (Tell handle) ≡ Some BadFile
tell_none v handle around none = ap (λ (o : Option Handle). refuse_if (is_none o) BadFile) none

-- ---- a size

pub size_none : (v : VolumeView) (handle : ℕ) (around : DiskSummary) → entry_at v.handles handle ≡ None → call_refusal around (volume_of v) (Size handle) ≡ Some BadFile
size_none v handle around none = ap (λ (o : Option Handle). refuse_if (is_none o) BadFile) none

pub size_found : (v : VolumeView) (handle : ℕ) (h : Handle) (n : NodeView) → IsWorkingSession v.session × (entry_at v.handles handle ≡ Some h) → Some n ≡ entry_at v.nodes h.node → IsVolumeReply v (Size handle) (ops.Count n.size) v
size_found v handle h n (working, found) at =
    accepted_call v v (Size handle) (ops.Count n.size) [] working (inl refl) (λ around k. ap (λ (o : Option Handle). refuse_if (is_none o) BadFile) found) (λ around. (
      ap (λ (o : Option Handle). ops.Count (unwrap_or (option_map (λ (m : NodeView). m.size) (option_and_then (λ (x : Handle). entry_at v.nodes x.node) o)) 0)) found ∙ ap (λ (o : Option NodeView). ops.Count (unwrap_or (option_map (λ (m : NodeView). m.size) o) 0)) (sym at),
      same_volume (volume_of v),
    ))

pub node_missing : (v : VolumeView) (handle : ℕ) (h : Handle) → IsSoundVolume v → entry_at v.handles handle ≡ Some h → entry_at v.nodes h.node ≡ None → ⊥
node_missing v handle h sound found none = (let s = some_from (entry_at v.nodes h.node) (sound.named handle h found) in let k : Some s.0 ≡ None = sym s.1 ∙ none in absurd (cc))

-- ---- a seek

pub seek_none : (v : VolumeView) (handle position : ℕ) (around : DiskSummary) → entry_at v.handles handle ≡ None → call_refusal around (volume_of v) (Seek handle position) ≡ Some BadFile
seek_none v handle position around none = ap (λ (o : Option Handle). first_refusal (refuse_if (is_none o) BadFile ∷ refuse_if (nat_lt (profile_file_max around.profile) position) Invalid ∷ [])) none

seek_checks : (v : VolumeView) (handle position : ℕ) (h : Handle) (b : Bool) (around : DiskSummary) → Around v around → entry_at v.handles handle ≡ Some h → nat_lt (profile_file_max v.session.tree.disk.profile) position ≡ b → call_refusal around (volume_of v) (Seek handle position) ≡ first_refusal (None ∷ refuse_if b Invalid ∷ [])
seek_checks v handle position h b around same found test =
    ap₂ (λ (o : Option Handle) (p : Profile). first_refusal (refuse_if (is_none o) BadFile ∷ refuse_if (nat_lt (profile_file_max p) position) Invalid ∷ [])) found same ∙ ap (λ x. first_refusal (None ∷ refuse_if x Invalid ∷ [])) test

pub seek_too_far : (v : VolumeView) (handle position : ℕ) (h : Handle) → IsWorkingSession v.session × (entry_at v.handles handle ≡ Some h) → profile_file_max v.session.tree.disk.profile < position → IsVolumeReply v (Seek handle position) (ops.Refused Invalid) v
seek_too_far v handle position h (working, found) far = refused_at_once v (Seek handle position) Invalid working (λ around k. seek_checks v handle position h true around k found (lt-ltb (profile_file_max v.session.tree.disk.profile) position far))

pub seek_done : (v new : VolumeView) (handle position : ℕ) (h : Handle) → IsWorkingSession v.session × (entry_at v.handles handle ≡ Some h) → position ≤ profile_file_max v.session.tree.disk.profile → new.session ≡ v.session → new.nodes ≡ v.nodes → new.handles ≡ slice_set v.handles handle (option_map (with_position position) (entry_at v.handles handle))
    → IsVolumeReply v (Seek handle position) ops.Done new
seek_done v new handle position h (working, found) near session nodes handles =
    accepted_call v new (Seek handle position) ops.Done [] working (inl (sym session)) (λ around k. seek_checks v handle position h false around k found (le-ltb (profile_file_max v.session.tree.disk.profile) position near))
    (λ around. (refl, same_as (volume_after_seek handle position (volume_of v)) (volume_of new) (ap (λ (s : SessionView). visible_tree s.tree) session) nodes handles))

-- ---- a read

pub read_none : (v : VolumeView) (handle count : ℕ) (around : DiskSummary) → entry_at v.handles handle ≡ None → call_refusal around (volume_of v) (Read handle count) ≡ Some BadFile
read_none v handle count around none = ap (λ (o : Option Handle). refuse_if (not (unwrap_or (option_map (λ (h : Handle). h.reads) o) false)) BadFile) none

read_check : (v : VolumeView) (handle count : ℕ) (h : Handle) (b : Bool) (around : DiskSummary) → entry_at v.handles handle ≡ Some h → h.reads ≡ b → call_refusal around (volume_of v) (Read handle count) ≡ refuse_if (not b) BadFile
read_check v handle count h b around found is = ap (λ (o : Option Handle). refuse_if (not (unwrap_or (option_map (λ (k : Handle). k.reads) o) false)) BadFile) found ∙ ap (λ x. refuse_if (not x) BadFile) is

pub read_forbidden : (v : VolumeView) (handle count : ℕ) (h : Handle) → IsWorkingSession v.session × (entry_at v.handles handle ≡ Some h) → h.reads ≡ false → IsVolumeReply v (Read handle count) (ops.Refused BadFile) v
read_forbidden v handle count h (working, found) is = refused_at_once v (Read handle count) BadFile working (λ around k. read_check v handle count h false around found is)

-- the node of a handle, once it is loaded
pub loaded_entry : (old new : SessionView) (nodes loaded : List (Option NodeView)) (i : ℕ) (n : NodeView) → entry_at nodes i ≡ Some n → IsLoadedAt old nodes i new loaded → entry_at loaded i ≡ Some (loaded_node (node_bytes (visible_tree old.tree) n) n)
loaded_entry old new nodes loaded i n at l =
    ap (λ (ns : List (Option NodeView)). entry_at ns i) l.are ∙ entry_set nodes i (option_map (λ k. loaded_node (node_bytes (visible_tree old.tree) k) k) (entry_at nodes i)) (entry_inside nodes i n at) ∙ ap (option_map (λ k. loaded_node (node_bytes (visible_tree old.tree) k) k)) at

pub read_done : (old mid new : VolumeView) (handle count p : ℕ) (h : Handle) (bytes : List ℕ) → IsSoundVolume old → IsReadyToRead old handle h mid → ((n : NodeView) → entry_at mid.nodes h.node ≡ Some n → bytes ≡ take count (drop h.position (unwrap_or n.contents []))) → p ≡ h.position + length bytes
    → new.session ≡ mid.session → new.nodes ≡ mid.nodes → new.handles ≡ slice_set mid.handles handle (option_map (with_position p) (entry_at mid.handles handle)) → IsVolumeReply old (Read handle count) (ops.Bytes bytes) new
read_done old mid new handle count p h bytes sound ready is moves session nodes handles =
    let s = some_from (entry_at old.nodes h.node) (sound.named handle h ready.at) in
    let l = ready.loaded in
    let found = is (loaded_node (node_bytes (visible_tree old.session.tree) s.0) s.0) (loaded_entry old.session mid.session old.nodes mid.nodes h.node s.0 s.1 l) in
    let same_bytes : take count (drop h.position (unwrap_or (option_map (node_bytes (visible_tree old.session.tree)) (entry_at old.nodes h.node)) [])) ≡ bytes =
    ap (λ (o : Option NodeView). take count (drop h.position (unwrap_or (option_map (node_bytes (visible_tree old.session.tree)) o) []))) s.1 ∙ sym found in
    accepted_call old new (Read handle count) (ops.Bytes bytes) l.operations ready.working (inl (subst (λ z. AreTreePreservingCalls old.session l.operations z) (sym session) l.calls)) (λ around k. read_check old handle count h true around ready.at ready.reads)
    (λ around. subst (λ o. ((read_effect (volume_of old) handle count o).0 ≡ ops.Bytes bytes) × DiffersOnlyByLoads (read_effect (volume_of old) handle count o).1 (volume_of new)) (sym ready.at) (
      ap ops.Bytes same_bytes,
      same_as (read_effect (volume_of old) handle count (Some h)).1 (volume_of new) (ap (λ (z : SessionView). visible_tree z.tree) session ∙ l.idle.shows) (nodes ∙ l.are)
          (handles ∙ ap₂ (λ (hs : List (Option Handle)) (q : ℕ). slice_set hs handle (option_map (with_position q) (entry_at hs handle))) ready.handles (moves ∙ ap (λ (bs : List ℕ). h.position + length bs) (sym same_bytes))),
    ))

-- ---- a write

pub write_none : (v : VolumeView) (handle : ℕ) (bytes : List ℕ) (around : DiskSummary) → entry_at v.handles handle ≡ None → call_refusal around (volume_of v) (Write handle bytes) ≡ Some BadFile
write_none v handle bytes around none =
    ap (λ (o : Option Handle). first_refusal (refuse_if (not (unwrap_or (option_map (λ (h : Handle). h.writes) o) false)) BadFile ∷ refuse_if (write_too_big around bytes o (option_and_then (λ (x : Handle). entry_at v.nodes x.node) o)) TooBig ∷ [])) none

write_checks : (v : VolumeView) (handle : ℕ) (bytes : List ℕ) (h : Handle) (n : NodeView) (w b : Bool) (around : DiskSummary) → entry_at v.handles handle ≡ Some h → entry_at v.nodes h.node ≡ Some n → h.writes ≡ w → write_too_big around bytes (Some h) (Some n) ≡ b
    → call_refusal around (volume_of v) (Write handle bytes) ≡ first_refusal (refuse_if (not w) BadFile ∷ refuse_if b TooBig ∷ [])
write_checks v handle bytes h n w b around found at is test =
    ap (λ (o : Option Handle). first_refusal (refuse_if (not (unwrap_or (option_map (λ (k : Handle). k.writes) o) false)) BadFile ∷ refuse_if (write_too_big around bytes o (option_and_then (λ (x : Handle). entry_at v.nodes x.node) o)) TooBig ∷ [])) found
    ∙ ap (λ (m : Option NodeView). first_refusal (refuse_if (not h.writes) BadFile ∷ refuse_if (write_too_big around bytes (Some h) m) TooBig ∷ [])) at ∙ ap₂ (λ x y. first_refusal (refuse_if (not x) BadFile ∷ refuse_if y TooBig ∷ [])) is test

pub write_forbidden : (v : VolumeView) (handle : ℕ) (bytes : List ℕ) (h : Handle) → IsSoundVolume v → IsWorkingSession v.session × (entry_at v.handles handle ≡ Some h) → h.writes ≡ false → IsVolumeReply v (Write handle bytes) (ops.Refused BadFile) v
write_forbidden v handle bytes h sound (working, found) is =
    let s = some_from (entry_at v.nodes h.node) (sound.named handle h found) in
    refused_at_once v (Write handle bytes) BadFile working (λ around k. write_checks v handle bytes h s.0 false (write_too_big around bytes (Some h) (Some s.0)) around found s.1 is refl)

pub write_nothing : (v : VolumeView) (handle : ℕ) (bytes : List ℕ) (h : Handle) → IsSoundVolume v → IsWorkingSession v.session × (entry_at v.handles handle ≡ Some h) → h.writes ≡ true → length bytes ≡ 0 → IsVolumeReply v (Write handle bytes) (ops.Count 0) v
write_nothing v handle (b ∷ bytes) h sound (working, found) is none = absurd (omega arith)
write_nothing v handle [] h sound (working, found) is none =
    let s = some_from (entry_at v.nodes h.node) (sound.named handle h found) in
    accepted_call v v (Write handle []) (ops.Count 0) [] working (inl refl) (λ around k. write_checks v handle [] h s.0 true false around found s.1 is refl) (λ around. (refl, same_volume (volume_of v)))

too_big_test : (around : DiskSummary) (v : VolumeView) (bytes : List ℕ) (h : Handle) (n : NodeView) (b : Bool) → Around v around → 0 < length bytes → nat_lt (profile_file_max v.session.tree.disk.profile) (written_size h n bytes) ≡ b → write_too_big around bytes (Some h) (Some n) ≡ b
too_big_test around v bytes h n b same some test = ap₂ (λ x (p : Profile). x && nat_lt (profile_file_max p) (written_size h n bytes)) (lt-ltb 0 (length bytes) some) same ∙ test

pub write_too_long : (v : VolumeView) (handle : ℕ) (bytes : List ℕ) (h : Handle) → IsSoundVolume v → IsWorkingSession v.session × (entry_at v.handles handle ≡ Some h) → h.writes ≡ true → 0 < length bytes → WriteExceedsFileMax v h (length bytes) → IsVolumeReply v (Write handle bytes) (ops.Refused TooBig) v
write_too_long v handle bytes h sound (working, found) is some long =
    let s = some_from (entry_at v.nodes h.node) (sound.named handle h found) in
    let more : profile_file_max v.session.tree.disk.profile < max s.0.size (write_offset h s.0 + length bytes) = subst (λ o. IfSome o (λ n. profile_file_max v.session.tree.disk.profile < max n.size (write_offset h n + length bytes))) s.1 long in
    refused_at_once v (Write handle bytes) TooBig working (λ around k. write_checks v handle bytes h s.0 true true around found s.1 is (too_big_test around v bytes h s.0 true k some (lt-ltb (profile_file_max v.session.tree.disk.profile) (written_size h s.0 bytes) more)))

-- what was written into a node that was loaded
written_nodes : (old mid new : List (Option NodeView)) (i : ℕ) (n : NodeView) (nb bytes : List ℕ) (at : ℕ) → entry_at old i ≡ Some n → 0 < length bytes → mid ≡ slice_set old i (option_map (λ k. loaded_node nb k) (entry_at old i)) → new ≡ slice_set mid i (Some (written_node at bytes nb (loaded_node nb n)))
    → new ≡ slice_set old i (option_map (written_node at bytes nb) (entry_at old i))
written_nodes old mid new i n nb [] at found some loads writes = absurd (omega arith)
written_nodes old mid new i n nb (b ∷ bytes) at found some loads writes =
    writes ∙ ap (λ (ns : List (Option NodeView)). slice_set ns i (Some (written_node at (b ∷ bytes) nb n))) loads ∙ set_twice old i (option_map (λ k. loaded_node nb k) (entry_at old i)) (Some (written_node at (b ∷ bytes) nb n))
    ∙ sym (ap (λ (o : Option NodeView). slice_set old i (option_map (written_node at (b ∷ bytes) nb) o)) found)

loaded_only : (old new : SessionView) (nodes loaded : List (Option NodeView)) (i : ℕ) (n : NodeView) → entry_at nodes i ≡ Some n → IsLoadedAt old nodes i new loaded → loaded ≡ slice_set nodes i (option_map (λ k. loaded_node (node_bytes (visible_tree old.tree) n) k) (entry_at nodes i))
loaded_only old new nodes loaded i n at l =
    l.are ∙ ap (λ (o : Option NodeView). slice_set nodes i (option_map (λ k. loaded_node (node_bytes (visible_tree old.tree) k) k) o)) at ∙ sym (ap (λ (o : Option NodeView). slice_set nodes i (option_map (λ k. loaded_node (node_bytes (visible_tree old.tree) n) k) o)) at)

write_result : (v : Volume) (handle : ℕ) (bytes : List ℕ) (h : Handle) (n : NodeView) → 0 < length bytes → write_effect v handle bytes (Some h) (Some n)
    ≡ (ops.Count (length bytes), volume_after_seek handle (write_offset h n + length bytes) (record v { nodes = slice_set v.nodes h.node (option_map (written_node (write_offset h n) bytes (node_bytes v.tree n)) (entry_at v.nodes h.node)) }))
write_result v handle [] h n some = absurd (omega arith)
write_result v handle (b ∷ bytes) h n some = refl

pub write_done : (old mid new : VolumeView) (handle at p : ℕ) (bytes : List ℕ) (h : Handle) → IsSoundVolume old → IsWorkingSession old.session × (entry_at old.handles handle ≡ Some h) → h.writes ≡ true → 0 < length bytes → IsAllowedWriteOffset old h (length bytes) at → IsLoadedAt old.session old.nodes h.node mid.session mid.nodes
    → mid.handles ≡ old.handles → ((n : NodeView) (was : List ℕ) → entry_at mid.nodes h.node ≡ Some n → n.contents ≡ Some was → new.nodes ≡ slice_set mid.nodes h.node (Some (written_node at bytes was n))) → p ≡ at + length bytes
    → new.session ≡ mid.session → new.handles ≡ slice_set mid.handles handle (option_map (with_position p) (entry_at mid.handles handle)) → IsVolumeReply old (Write handle bytes) (ops.Count (length bytes)) new
write_done old mid new handle at p bytes h sound (working, found) is some fits l kept writes moves session handles =
    let s = some_from (entry_at old.nodes h.node) (sound.named handle h found) in
    let f = subst (λ o. IfSome o (λ n. (at ≡ write_offset h n) × (max n.size (at + length bytes) ≤ profile_file_max old.session.tree.disk.profile))) s.1 fits in
    let nb = node_bytes (visible_tree old.session.tree) s.0 in
    let wrote = writes (loaded_node nb s.0) nb (loaded_entry old.session mid.session old.nodes mid.nodes h.node s.0 s.1 l) refl in
    let are = written_nodes old.nodes mid.nodes new.nodes h.node s.0 nb bytes at s.1 some (loaded_only old.session mid.session old.nodes mid.nodes h.node s.0 s.1 l) wrote in
    let less : nat_lt (profile_file_max old.session.tree.disk.profile) (written_size h s.0 bytes) ≡ false = le-ltb (profile_file_max old.session.tree.disk.profile) (written_size h s.0 bytes) (subst (λ (k : ℕ). max s.0.size (k + length bytes) ≤ profile_file_max old.session.tree.disk.profile) f.0 f.1) in
    accepted_call old new (Write handle bytes) (ops.Count (length bytes)) l.operations working (inl (subst (λ z. AreTreePreservingCalls old.session l.operations z) (sym session) l.calls))
    (λ around k. write_checks old handle bytes h s.0 true false around found s.1 is (too_big_test around old bytes h s.0 false k some less))
    (λ around. subst (λ z. (z.0 ≡ ops.Count (length bytes)) × DiffersOnlyByLoads z.1 (volume_of new))
    (sym (ap (λ (o : Option Handle). write_effect (volume_of old) handle bytes o (option_and_then (λ (x : Handle). entry_at old.nodes x.node) o)) found ∙ ap (λ (o : Option NodeView). write_effect (volume_of old) handle bytes (Some h) o) s.1 ∙ write_result (volume_of old) handle bytes h s.0 some)) (
      refl,
      same_as (volume_after_seek handle (write_offset h s.0 + length bytes) (record (volume_of old) { nodes = slice_set old.nodes h.node (option_map (written_node (write_offset h s.0) bytes nb) (entry_at old.nodes h.node)) })) (volume_of new)
          (ap (λ (z : SessionView). visible_tree z.tree) session ∙ l.idle.shows) (are ∙ ap (λ (k : ℕ). slice_set old.nodes h.node (option_map (written_node k bytes nb) (entry_at old.nodes h.node))) f.0)
          (handles ∙ ap₂ (λ (hs : List (Option Handle)) (q : ℕ). slice_set hs handle (option_map (with_position q) (entry_at hs handle))) kept (moves ∙ ap (λ (k : ℕ). k + length bytes) f.0)),
    ))

-- ---- another size

pub truncate_none : (v : VolumeView) (handle size : ℕ) (around : DiskSummary) → entry_at v.handles handle ≡ None → call_refusal around (volume_of v) (Truncate handle size) ≡ Some BadFile
truncate_none v handle size around none = ap (λ (o : Option Handle). first_refusal (refuse_if (not (unwrap_or (option_map (λ (h : Handle). h.writes) o) false)) BadFile ∷ refuse_if (nat_lt (profile_file_max around.profile) size) TooBig ∷ [])) none

truncate_checks : (v : VolumeView) (handle size : ℕ) (h : Handle) (w b : Bool) (around : DiskSummary) → Around v around → entry_at v.handles handle ≡ Some h → h.writes ≡ w → nat_lt (profile_file_max v.session.tree.disk.profile) size ≡ b
    → call_refusal around (volume_of v) (Truncate handle size) ≡ first_refusal (refuse_if (not w) BadFile ∷ refuse_if b TooBig ∷ [])
truncate_checks v handle size h w b around same found is test =
    ap₂ (λ (o : Option Handle) (p : Profile). first_refusal (refuse_if (not (unwrap_or (option_map (λ (k : Handle). k.writes) o) false)) BadFile ∷ refuse_if (nat_lt (profile_file_max p) size) TooBig ∷ [])) found same
    ∙ ap₂ (λ x y. first_refusal (refuse_if (not x) BadFile ∷ refuse_if y TooBig ∷ [])) is test

pub truncate_forbidden : (v : VolumeView) (handle size : ℕ) (h : Handle) → IsWorkingSession v.session × (entry_at v.handles handle ≡ Some h) → h.writes ≡ false → IsVolumeReply v (Truncate handle size) (ops.Refused BadFile) v
truncate_forbidden v handle size h (working, found) is = refused_at_once v (Truncate handle size) BadFile working (λ around k. truncate_checks v handle size h false (nat_lt (profile_file_max v.session.tree.disk.profile) size) around k found is refl)

pub truncate_too_long : (v : VolumeView) (handle size : ℕ) (h : Handle) → IsWorkingSession v.session × (entry_at v.handles handle ≡ Some h) → h.writes ≡ true → profile_file_max v.session.tree.disk.profile < size → IsVolumeReply v (Truncate handle size) (ops.Refused TooBig) v
truncate_too_long v handle size h (working, found) is more = refused_at_once v (Truncate handle size) TooBig working (λ around k. truncate_checks v handle size h true true around k found is (lt-ltb (profile_file_max v.session.tree.disk.profile) size more))

resized_if : (size : ℕ) (nb : List ℕ) (n : NodeView) (b : Bool) → (size == n.size) ≡ b → (resized_node size nb n ≡ n) × (resized_node size nb (loaded_node nb n) ≡ loaded_node nb n) ⊎ (resized_node size nb (loaded_node nb n) ≡ resized_node size nb n)
resized_if size nb n true e = inl (ap (λ b. cond b n changed) e, ap (λ b. cond b (loaded_node nb n) changed) e)
  where
    changed : NodeView
    changed = record n { size = size; contents = Some (take size (zero_padded size nb)); dirty_range = Some (resize_dirty_range n.dirty_range n.size size) }
resized_if size nb n false e = inr (ap (λ b. cond b (loaded_node nb n) changed) e ∙ sym (ap (λ b. cond b n changed) e))
  where
    changed : NodeView
    changed = record n { size = size; contents = Some (take size (zero_padded size nb)); dirty_range = Some (resize_dirty_range n.dirty_range n.size size) }

resized_volume : (old mid new : VolumeView) (size : ℕ) (i : ℕ) (n : NodeView) → entry_at old.nodes i ≡ Some n → IsLoadedAt old.session old.nodes i mid.session mid.nodes → mid.handles ≡ old.handles → new.session ≡ mid.session → new.handles ≡ mid.handles
    → new.nodes ≡ slice_set mid.nodes i (Some (resized_node size (node_bytes (visible_tree old.session.tree) n) (loaded_node (node_bytes (visible_tree old.session.tree) n) n)))
    → DiffersOnlyByLoads (record (volume_of old) { nodes = slice_set old.nodes i (option_map (λ k. resized_node size (node_bytes (visible_tree old.session.tree) k) k) (entry_at old.nodes i)) }) (volume_of new)
resized_volume old mid new size i n at l kept session handles are = go (resized_if size nb n (size == n.size) refl)
  where
    nb : List ℕ
    nb = node_bytes (visible_tree old.session.tree) n

    nodes_are : new.nodes ≡ slice_set old.nodes i (Some (resized_node size nb (loaded_node nb n)))
    nodes_are = are ∙ ap (λ (ns : List (Option NodeView)). slice_set ns i (Some (resized_node size nb (loaded_node nb n)))) l.are ∙ set_twice old.nodes i (option_map (λ k. loaded_node (node_bytes (visible_tree old.session.tree) k) k) (entry_at old.nodes i)) (Some (resized_node size nb (loaded_node nb n)))

    wanted : slice_set old.nodes i (option_map (λ k. resized_node size (node_bytes (visible_tree old.session.tree) k) k) (entry_at old.nodes i)) ≡ slice_set old.nodes i (Some (resized_node size nb n))
    wanted = ap (λ (o : Option NodeView). slice_set old.nodes i (option_map (λ k. resized_node size (node_bytes (visible_tree old.session.tree) k) k) o)) at

    tree : visible_tree new.session.tree ≡ visible_tree old.session.tree
    tree = ap (λ (z : SessionView). visible_tree z.tree) session ∙ l.idle.shows

    kept_too : new.handles ≡ old.handles
    kept_too = handles ∙ kept

    go : (resized_node size nb n ≡ n) × (resized_node size nb (loaded_node nb n) ≡ loaded_node nb n) ⊎ (resized_node size nb (loaded_node nb n) ≡ resized_node size nb n) →
        DiffersOnlyByLoads (record (volume_of old) { nodes = slice_set old.nodes i (option_map (λ k. resized_node size (node_bytes (visible_tree old.session.tree) k) k) (entry_at old.nodes i)) }) (volume_of new)
    go (inl e) =
        let back : old.nodes ≡ slice_set old.nodes i (option_map (λ k. resized_node size (node_bytes (visible_tree old.session.tree) k) k) (entry_at old.nodes i)) = sym (set_same old.nodes i) ∙ ap (slice_set old.nodes i) (at ∙ ap Some (sym e.0)) ∙ sym wanted in
        subst (λ (ns : List (Option NodeView)). DiffersOnlyByLoads (record (volume_of old) { nodes = ns }) (volume_of new)) back
        (same_when_loaded old new i (record {
          are = nodes_are ∙ ap (λ k. slice_set old.nodes i (Some k)) e.1 ∙ sym (ap (λ (o : Option NodeView). slice_set old.nodes i (option_map (λ k. loaded_node (node_bytes (visible_tree old.session.tree) k) k) o)) at);
          idle = subst (λ z. IsIdleSession z (visible_tree old.session.tree)) (sym session) l.idle;
          operations = l.operations;
          calls = subst (λ z. AreTreePreservingCalls old.session l.operations z) (sym session) l.calls;
        }) kept_too)
    go (inr e) = same_as (record (volume_of old) { nodes = slice_set old.nodes i (option_map (λ k. resized_node size (node_bytes (visible_tree old.session.tree) k) k) (entry_at old.nodes i)) }) (volume_of new) tree (nodes_are ∙ ap (λ k. slice_set old.nodes i (Some k)) e ∙ sym wanted) kept_too

pub truncate_done : (old mid new : VolumeView) (handle size : ℕ) (h : Handle) → IsSoundVolume old → IsWorkingSession old.session × (entry_at old.handles handle ≡ Some h) → h.writes ≡ true → size ≤ profile_file_max old.session.tree.disk.profile → IsLoadedAt old.session old.nodes h.node mid.session mid.nodes
    → mid.handles ≡ old.handles → ((n : NodeView) (was : List ℕ) → entry_at mid.nodes h.node ≡ Some n → n.contents ≡ Some was → new.nodes ≡ slice_set mid.nodes h.node (Some (resized_node size was n))) → new.session ≡ mid.session → new.handles ≡ mid.handles → IsVolumeReply old (Truncate handle size) ops.Done new
truncate_done old mid new handle size h sound (working, found) is small l kept resizes session handles =
    let s = some_from (entry_at old.nodes h.node) (sound.named handle h found) in
    let nb = node_bytes (visible_tree old.session.tree) s.0 in
    let are = resizes (loaded_node nb s.0) nb (loaded_entry old.session mid.session old.nodes mid.nodes h.node s.0 s.1 l) refl in
    accepted_call old new (Truncate handle size) ops.Done l.operations working (inl (subst (λ z. AreTreePreservingCalls old.session l.operations z) (sym session) l.calls))
    (λ around k. truncate_checks old handle size h true false around k found is (le-ltb (profile_file_max old.session.tree.disk.profile) size small))
    (λ around. (
      refl,
      subst (λ (i : ℕ). DiffersOnlyByLoads (record (volume_of old) { nodes = slice_set old.nodes i (option_map (λ k. resized_node size (node_bytes (visible_tree old.session.tree) k) k) (entry_at old.nodes i)) }) (volume_of new))
          (sym (ap (λ (o : Option Handle). unwrap_or (option_map (λ (x : Handle). x.node) o) (length old.nodes)) found)) (resized_volume old mid new size h.node s.0 s.1 l kept session handles are),
    ))

-- ---- memory

-- the size of a node stays as it is loaded
size_before : (old new : SessionView) (nodes loaded : List (Option NodeView)) (i size : ℕ) (n : NodeView) → entry_at nodes i ≡ Some n → IsLoadedAt old nodes i new loaded → IfSome (entry_at loaded i) (λ m. m.size < size) → n.size < size
size_before old new nodes loaded i size n at l more = subst (λ (o : Option NodeView). IfSome o (λ m. m.size < size)) (loaded_entry old new nodes loaded i n at l) more

handle_node_is : (v : VolumeView) (handle : ℕ) (h : Handle) (n : NodeView) → entry_at v.handles handle ≡ Some h → entry_at v.nodes h.node ≡ Some n → handle_node (volume_of v) handle ≡ Some n
handle_node_is v handle h n found at = ap (λ (o : Option Handle). option_and_then (λ (x : Handle). entry_at v.nodes x.node) o) found ∙ at

pub truncate_may : (old mid : VolumeView) (handle size : ℕ) (h : Handle) → IsSoundVolume old → IsWorkingSession old.session × (entry_at old.handles handle ≡ Some h) → IsLoadedAt old.session old.nodes h.node mid.session mid.nodes → IfSome (entry_at mid.nodes h.node) (λ n. n.size < size)
    → may_need_memory (volume_of old) (Truncate handle size) ≡ true
truncate_may old mid handle size h sound (working, found) l more =
    let s = some_from (entry_at old.nodes h.node) (sound.named handle h found) in
    ap (λ (o : Option NodeView). would_extend_node o size) (handle_node_is old handle h s.0 found s.1) ∙ lt-ltb s.0.size size (size_before old.session mid.session old.nodes mid.nodes h.node size s.0 s.1 l more)

pub write_may : (old mid : VolumeView) (handle at : ℕ) (bytes : List ℕ) (h : Handle) → IsSoundVolume old → IsWorkingSession old.session × (entry_at old.handles handle ≡ Some h) → IsAllowedWriteOffset old h (length bytes) at → IsLoadedAt old.session old.nodes h.node mid.session mid.nodes
    → IfSome (entry_at mid.nodes h.node) (λ n. n.size < at + length bytes) → may_need_memory (volume_of old) (Write handle bytes) ≡ true
write_may old mid handle at bytes h sound (working, found) fits l more =
    let s = some_from (entry_at old.nodes h.node) (sound.named handle h found) in
    let f = subst (λ o. IfSome o (λ n. (at ≡ write_offset h n) × (max n.size (at + length bytes) ≤ profile_file_max old.session.tree.disk.profile))) s.1 fits in
    let less : s.0.size < at + length bytes = size_before old.session mid.session old.nodes mid.nodes h.node (at + length bytes) s.0 s.1 l more in
    ap₂ (λ (o : Option Handle) (m : Option NodeView). would_write_extend o m bytes) found (handle_node_is old handle h s.0 found s.1)
    ∙ lt-ltb s.0.size (write_offset h s.0 + length bytes) (subst (λ (k : ℕ). s.0.size < k + length bytes) f.0 less)

-- ---- a sync

pub sync_none : (v : VolumeView) (handle : ℕ) (around : DiskSummary) → entry_at v.handles handle ≡ None → call_refusal around (volume_of v) (Sync handle) ≡ Some BadFile
sync_none v handle around none = ap (λ (o : Option Handle). first_refusal (refuse_if (is_none o) BadFile ∷ sync_refusal around (visible_tree v.session.tree) (option_and_then (λ (x : Handle). entry_at v.nodes x.node) o) ∷ [])) none

sync_checks : (v : VolumeView) (handle : ℕ) (h : Handle) (n : NodeView) (r : Option Refusal) (around : DiskSummary) → entry_at v.handles handle ≡ Some h → entry_at v.nodes h.node ≡ Some n → sync_refusal around (visible_tree v.session.tree) (Some n) ≡ r → call_refusal around (volume_of v) (Sync handle) ≡ first_refusal (None ∷ r ∷ [])
sync_checks v handle h n r around found at is =
    ap (λ (o : Option Handle). first_refusal (refuse_if (is_none o) BadFile ∷ sync_refusal around (visible_tree v.session.tree) (option_and_then (λ (x : Handle). entry_at v.nodes x.node) o) ∷ [])) found
    ∙ ap (λ (m : Option NodeView). first_refusal (None ∷ sync_refusal around (visible_tree v.session.tree) m ∷ [])) at ∙ ap (λ x. first_refusal (None ∷ x ∷ [])) is

-- a call whose summary is a sync's
replied_in_sync : (old new : VolumeView) (call : Call) (reply : Reply) (n : NodeView) (r : Option Refusal) (operations : List Operation) → IsSyncRefusal old.session n r → IsSessionCallSequence old.session operations new.session
    → ((around : DiskSummary) → sync_refusal around (visible_tree old.session.tree) (Some n) ≡ r → ((call_result around (volume_of old) call).0 ≡ reply) × DiffersOnlyByLoads (call_result around (volume_of old) call).1 (volume_of new)) → IsVolumeReply old call reply new
replied_in_sync old new call reply n r operations s part is =
    let result = is s.around s.is in
    record {
      around = s.around;
      at = s.at;
      pairs = s.pairs;
      accepted = s.accepted;
      surrounds = s.surrounds;
      shows = s.shows;
      before = s.before;
      reached = s.reached;
      reply_is = result.0;
      next = result.1;
      operations = operations;
      session_part = part;
    }

-- what is known of a node that was stored, or had nothing to store
sync_passes : (v : VolumeView) (new : SessionView) (n : NodeView) → IsWorkingSession v.session → IsNodeSynced v.session n new (stored_node n) → IsSyncRefusal v.session n None
sync_passes v new n (works, (count, asked)) s = go (needs_sync n) refl
  where
    go : (b : Bool) → needs_sync n ≡ b → IsSyncRefusal v.session n None
    go true e = s.passes e
    go false e =
        let d = done v.session ops.UsedCount (ops.Count count) v.session refl works refl asked.answers in
        record {
          around = d.around;
          at = v.session;
          pairs = d.pairs;
          accepted = d.accepted;
          surrounds = d.surrounds;
          shows = refl;
          before = [];
          reached = refl;
          is = ap (λ b. cond b (first_refusal (operation_refusal d.around (idle_session (visible_tree v.session.tree)) (ops.Open (unwrap_or n.path []) writing_flags)
              ∷ refuse_if (nat_lt d.around.block_count (length d.around.used + (2 + file_block_count d.around.profile d.around.block_size n.size))) ops.NoSpace ∷ [])) None) e;
        }

-- the volume after a sync
synced_volume : (old new : VolumeView) (handle : ℕ) (h : Handle) (n : NodeView) → entry_at old.handles handle ≡ Some h → entry_at old.nodes h.node ≡ Some n → IsSyncedAt old.session old.nodes h.node new.session new.nodes → new.handles ≡ old.handles → volume_of new ≡ sync_node (handle_node_index (volume_of old) handle) (volume_of old)
synced_volume old new handle h n found at s handles =
    let one = s.node n at in
    volume_equal (sync_node h.node (volume_of old)) (volume_of new) (one.idle.shows ∙ sym (ap (tree_after_sync (visible_tree old.session.tree)) at)) s.are handles
    ∙ sym (ap (λ (o : Option Handle). sync_node (unwrap_or (option_map (λ (x : Handle). x.node) o) (length old.nodes)) (volume_of old)) found)

pub sync_done : (old new : VolumeView) (handle : ℕ) (h : Handle) → IsSoundVolume old → IsWorkingSession old.session × (entry_at old.handles handle ≡ Some h) → IsSyncedAt old.session old.nodes h.node new.session new.nodes → new.handles ≡ old.handles → IsVolumeReply old (Sync handle) ops.Done new
sync_done old new handle h sound (working, found) s handles =
    let k = some_from (entry_at old.nodes h.node) (sound.named handle h found) in
    let one = s.node k.0 k.1 in
    replied_in_sync old new (Sync handle) ops.Done k.0 None one.operations (sync_passes old new.session k.0 working one) (inl one.steps) (λ around is.
    subst (λ r. ((unless_refused r (volume_of old) (call_effect around (volume_of old) (Sync handle))).0 ≡ ops.Done) × DiffersOnlyByLoads (unless_refused r (volume_of old) (call_effect around (volume_of old) (Sync handle))).1 (volume_of new))
    (sym (sync_checks old handle h k.0 None around found k.1 is)) (refl, subst (λ z. DiffersOnlyByLoads z (volume_of new)) (synced_volume old new handle h k.0 found k.1 s handles) (same_volume (volume_of new))))

pub refusal_reply : (e : Error) (old new : VolumeView) (call : Call) → refusals.is_refusal e ≡ true → IsVolumeReply old call (ops.Refused (refusals.error_refusal e)) new → IsHealthyVolumeCall old call (error_result e) new
refusal_reply e old new call is r = subst (λ b. IsHealthyVolumeCall old call (cond b (Ok (ops.Refused (refusals.error_refusal e))) (Err e)) new) (sym is) r

pub sync_ended : (e : Error) (old new : VolumeView) (handle : ℕ) (h : Handle) → IsSoundVolume old → IsWorkingSession old.session × (entry_at old.handles handle ≡ Some h) → FailsSyncAt e old.session old.nodes h.node new.session → new.nodes ≡ old.nodes → new.handles ≡ old.handles → IsHealthyVolumeCall old (Sync handle) (error_result e) new
sync_ended e old new handle h sound (working, found) s nodes handles = go s.ends
  where
    go : IsNodeSyncRefused e old.session s.node new.session ⊎ FailsInCalls e old.session new.session → IsHealthyVolumeCall old (Sync handle) (error_result e) new
    go (inr f) = failed_call e old new (Sync handle) f
    go (inl r) = refusal_reply e old new (Sync handle) r.is_one (replied_in_sync old new (Sync handle) (ops.Refused (refusals.error_refusal e)) s.node (Some (refusals.error_refusal e)) r.operations r.refused r.part (λ around is.
        subst (λ x. ((unless_refused x (volume_of old) (call_effect around (volume_of old) (Sync handle))).0 ≡ ops.Refused (refusals.error_refusal e)) × DiffersOnlyByLoads (unless_refused x (volume_of old) (call_effect around (volume_of old) (Sync handle))).1 (volume_of new))
        (sym (sync_checks old handle h s.node (Some (refusals.error_refusal e)) around found s.is is)) (refl, same_as (volume_of old) (volume_of new) r.idle.shows nodes handles)))

-- ---- a close

pub close_none : (v : VolumeView) (handle : ℕ) (around : DiskSummary) → entry_at v.handles handle ≡ None → call_refusal around (volume_of v) (Close handle) ≡ Some BadFile
close_none v handle around none = ap (λ (o : Option Handle). refuse_if (is_none o) BadFile) none

dropped_volume : (v new : VolumeView) (handle : ℕ) (h : Handle) → entry_at v.handles handle ≡ Some h → IsHandleDropped v handle h new → volume_of new ≡ volume_after_close handle (volume_of v)
dropped_volume v new handle h found d =
    volume_equal (volume_after_close handle (volume_of v)) (volume_of new) (ap (λ (z : SessionView). visible_tree z.tree) d.session)
    (d.nodes ∙ ap (λ (hs : List (Option Handle)). cond (named hs h.node) v.nodes (slice_set v.nodes h.node None)) d.handles ∙ sym (ap (λ (o : Option Handle). nodes_after_close (slice_set v.handles handle None) v.nodes (option_map (λ (x : Handle). x.node) o)) found)) d.handles

close_effect_is : (v : VolumeView) (handle : ℕ) (h : Handle) (n : NodeView) (r : Option Refusal) (around : DiskSummary) → entry_at v.handles handle ≡ Some h → entry_at v.nodes h.node ≡ Some n → sync_refusal around (visible_tree v.session.tree) (Some n) ≡ r → call_result around (volume_of v) (Close handle) ≡ close_effect (volume_of v) handle r
close_effect_is v handle h n r around found at is =
    ap (λ (o : Option Handle). unless_refused (refuse_if (is_none o) BadFile) (volume_of v) (close_effect (volume_of v) handle (sync_refusal around (visible_tree v.session.tree) (handle_node (volume_of v) handle)))) found
    ∙ ap (λ (m : Option NodeView). close_effect (volume_of v) handle (sync_refusal around (visible_tree v.session.tree) m)) (handle_node_is v handle h n found at) ∙ ap (close_effect (volume_of v) handle) is

pub close_done : (old mid new : VolumeView) (handle : ℕ) (h : Handle) → IsSoundVolume old → IsWorkingSession old.session × (entry_at old.handles handle ≡ Some h) → IsSyncedAt old.session old.nodes h.node mid.session mid.nodes → mid.handles ≡ old.handles → IsHandleDropped mid handle h new → IsVolumeReply old (Close handle) ops.Done new
close_done old mid new handle h sound (working, found) s kept d =
    let k = some_from (entry_at old.nodes h.node) (sound.named handle h found) in
    let one = s.node k.0 k.1 in
    let ends : volume_of new ≡ volume_after_close handle (sync_node (handle_node_index (volume_of old) handle) (volume_of old)) =
    dropped_volume mid new handle h (ap (λ (hs : List (Option Handle)). entry_at hs handle) kept ∙ found) d ∙ ap (volume_after_close handle) (synced_volume old mid handle h k.0 found k.1 s kept) in
    replied_in_sync old new (Close handle) ops.Done k.0 None one.operations (sync_passes old mid.session k.0 working one) (inl (subst (λ z. MayChangeTreeOnce old.session one.operations z) (sym d.session) one.steps)) (λ around is.
    subst (λ z. (z.0 ≡ ops.Done) × DiffersOnlyByLoads z.1 (volume_of new)) (sym (close_effect_is old handle h k.0 None around found k.1 is)) (refl, subst (λ z. DiffersOnlyByLoads z (volume_of new)) ends (same_volume (volume_of new))))

pub close_ended : (e : Error) (old mid new : VolumeView) (handle : ℕ) (h : Handle) → IsSoundVolume old → IsWorkingSession old.session × (entry_at old.handles handle ≡ Some h) → FailsSyncAt e old.session old.nodes h.node mid.session → mid.nodes ≡ old.nodes → mid.handles ≡ old.handles → IsHandleDropped mid handle h new
    → IsHealthyVolumeCall old (Close handle) (error_result e) new
close_ended e old mid new handle h sound (working, found) s nodes kept d = go s.ends
  where
    go : IsNodeSyncRefused e old.session s.node mid.session ⊎ FailsInCalls e old.session mid.session → IsHealthyVolumeCall old (Close handle) (error_result e) new
    go (inr f) = failed_call e old new (Close handle) (subst (λ z. FailsInCalls e old.session z) (sym d.session) f)
    go (inl r) =
        let ends : volume_of new ≡ volume_after_close handle (volume_of old) = dropped_volume mid new handle h (ap (λ (hs : List (Option Handle)). entry_at hs handle) kept ∙ found) d ∙ ap (volume_after_close handle) (volume_equal (volume_of old) (volume_of mid) r.idle.shows nodes kept) in
        refusal_reply e old new (Close handle) r.is_one (replied_in_sync old new (Close handle) (ops.Refused (refusals.error_refusal e)) s.node (Some (refusals.error_refusal e)) r.operations r.refused (subst (λ z. IsSessionCallSequence old.session r.operations z) (sym d.session) r.part) (λ around is.
        subst (λ z. (z.0 ≡ ops.Refused (refusals.error_refusal e)) × DiffersOnlyByLoads z.1 (volume_of new)) (sym (close_effect_is old handle h s.node (Some (refusals.error_refusal e)) around found s.is is)) (refl, subst (λ z. DiffersOnlyByLoads z (volume_of new)) ends (same_volume (volume_of new)))))

-- ---- a volume by its fields

-- what holds of a volume that is put together from its parts
pub of_whole : (parts whole : VolumeView) → parts ≡ whole → (P : VolumeView → Type 0) → (IsSoundVolume parts → P parts) → IsSoundVolume whole → P whole
of_whole parts whole e P f sound = subst P e (f (subst IsSoundVolume (sym e) sound))

-- a call of a volume that works
pub call_in_parts : (parts whole new : VolumeView) (call : Call) (r : Result Reply Error) → parts ≡ whole → IsSoundVolume whole → (IsSoundVolume parts → IsHealthyVolumeCall parts call r new) → IsVolumeCall whole call r new
call_in_parts parts whole new call r same sound f = working_call whole new call r sound.idle.works (of_whole parts whole same (λ v. IsHealthyVolumeCall v call r new) f sound)

-- the session failed
pub failed_parts : (e : Error) (parts whole new : VolumeView) (call : Call) → parts ≡ whole → (IsSoundVolume parts → FailsInCalls e parts.session new.session) → IsSoundVolume whole → IsHealthyVolumeCall whole call (error_result e) new
failed_parts e parts whole new call same fails = of_whole parts whole same (λ v. IsHealthyVolumeCall v call (error_result e) new) (λ sound. failed_call e parts new call (fails sound))

-- the volume wanted memory
pub no_memory : (e : Error) (old new : VolumeView) (call : Call) → e ≡ error.NoMemory → LacksMemory old call new → IsHealthyVolumeCall old call (error_result e) new
no_memory e old new call is wants = subst (λ z. IsHealthyVolumeCall old call (error_result z) new) (sym is) (inl (refl, wants))

-- a refusal that is passed on
pub passed_refusal : (e f : Error) (old new : VolumeView) (call : Call) → e ≡ f → IsHealthyVolumeCall old call (error_result f) new → IsHealthyVolumeCall old call (error_result e) new
passed_refusal e f old new call is h = subst (λ z. IsHealthyVolumeCall old call (error_result z) new) (sym is) h

pub not_then : (b : Bool) → not b ≡ true → b ≡ false
not_then true e = absurd (cc)
not_then false e = refl

pub not_else : (b : Bool) → not b ≡ false → b ≡ true
not_else true e = refl
not_else false e = absurd (cc)

-- a node that was loaded, in a table that then stayed
pub loaded_kept : (old new : SessionView) (nodes loaded kept : List (Option NodeView)) (i : ℕ) → kept ≡ loaded → IsLoadedAt old nodes i new loaded → IsLoadedAt old nodes i new kept
loaded_kept old new nodes loaded kept i same l = subst (λ ns. IsLoadedAt old nodes i new ns) (sym same) l
