-- In a run from a fresh disk in memory each error but want of memory is a refusal, the first.
use Rattle.std.proofs.Common.{ℕ, ◌≡◌, ◌≢◌, ◌∙◌, ◌+◌, ◌<◌, ◌++◌, ◌⊎◌, inl, inr, Bool, true, false, List, [], ◌∷◌, length, take, drop, get_or, Option, Some, None, refl, sym, ap, subst, add-one, append_assoc, arith, drop-cons, flat_map}
use Rattle.lfs_tool_run.proofs.Common.{flat_map-append, recursion_from_All, IsFreshDisk, empty_tree, session_after_all, fault_count, node_copy_operations, Operation, SystemState, is_refusal, DiskSummary, Healthy, is_remount, mounted_session, Each, each_right, fresh_defined, EndsInError, optional_bytes_view, AreApplied, AppliesUpToError, IsHealthyWithoutFiles, IsFirstRefusal, node_of_optional_bytes, entry_operations}
use Rattle.std.proofs.lemmas.List.{take-append-drop}
use Rattle.lfs_device.specs.declared.error.Error.{Error}
use Rattle.lfs_device.specs.declared.error.Error.TheVariants.{Io, NoMemory, Corrupt}
use Rattle.lfs_model.specs.format.Disk.{default_profile}
use Rattle.lfs_model.specs.session.Headline.{LeadsFromFresh}
use Rattle.lfs_model.specs.session.Run.{ShowsTree}
use Rattle.lfs_model.specs.format.Slots.{zero_gstate}
use Rattle.lfs_fs.specs.SessionView.{SessionFails}
use Rattle.lfs_lookup.specs.RefusalErrors as refusals
use Rattle.lfs_tool.specs.declared.entries.SourceEntry.{SourceEntry}
use Rattle.lfs_tool_run.proofs.Runs.{ended_before, ended_on}
use Rattle.lfs_tool_run.proofs.Stepping.{HasCarried, carried_from}

-- ---- a run from a fresh disk

pub record IsFromFresh (from : SystemState) : Type 0 where
  pub fresh : IsFreshDisk from.disk
  pub mounts : from.state ≡ Healthy (mounted_session empty_tree)

pub comes : (from to : SystemState) (operations : List Operation) (f : IsFromFresh from) (c : AreApplied from operations to) → LeadsFromFresh operations c.replies to
comes from to operations f c = record { from = from; fresh = f.fresh; mounts = f.mounts; session_steps = c.session_steps }

-- any surroundings: what accepted operations leave doesn't depend on them
abbrev pub anywhere : DiskSummary
anywhere = record { writable = true; profile = default_profile; block_size = 0; page = 0; block_count = 0; used = []; gstate = zero_gstate }

pub has_carried : (from to : SystemState) (es : List SourceEntry) (f : IsFromFresh from) (c : AreApplied from (flat_map entry_operations es) to) →
    HasCarried (session_after_all anywhere (mounted_session empty_tree) (flat_map entry_operations es) c.replies) es empty_tree
has_carried from to es f c = carried_from anywhere es empty_tree [] c.replies from to tt (recursion_from_All (λ r. is_refusal r ≡ false) c.replies c.accepted) c.session_steps

pub no_file : (from to : SystemState) (es : List SourceEntry) → IsFromFresh from → AreApplied from (flat_map entry_operations es) to → IsHealthyWithoutFiles to
no_file from to es f c = record {
  session = session_after_all anywhere (mounted_session empty_tree) (flat_map entry_operations es) c.replies;
  healthy = fresh_defined (flat_map entry_operations es) c.replies to anywhere (comes from to (flat_map entry_operations es) f c);
  closed = (has_carried from to es f c).closed;
}

-- ---- errors

pub no_remount : (e : SourceEntry) → Each (λ op. is_remount op ≡ false) (entry_operations e)
no_remount e = go (optional_bytes_view e.bytes)
  where
    go : (o : Option (List ℕ)) → Each (λ op. is_remount op ≡ false) (node_copy_operations e.path.items (node_of_optional_bytes o))
    go None = (refl, tt)
    go (Some bytes) = (refl, (refl, (refl, tt)))

-- no call of the device has failed
only_memory : (e : Error) (at to : SystemState) (op : Operation) → SessionFails e at op to → is_remount op ≡ false → fault_count to.calls ≡ 0 → e ≡ NoMemory
only_memory e at to op h other none = go h.errors
  where
    go : (e ≡ Io) ⊎ ((e ≡ NoMemory) ⊎ ((e ≡ Corrupt) × (is_remount op ≡ true) × ShowsTree at.disk None)) → e ≡ NoMemory
    go (inl io) = absurd (let l = h.fault io in omega (arith, l, none))
    go (inr (inl memory)) = memory
    go (inr (inr corrupt)) = absurd (let k = sym other ∙ corrupt.1 in cc)

refusal_first : (e : Error) (from to : SystemState) (operations : List Operation) → AppliesUpToError e from operations to → refusals.is_refusal e ≡ true → IsFirstRefusal from operations e
refusal_first e from to operations k is = record {
  done = k.done;
  next = k.next;
  others = k.others;
  are = k.are;
  at = k.at;
  carried = k.carried;
  to = to;
  refused = subst (λ b. EndsInError b e k.at k.next to) is k.ends;
  refusal = is;
}

-- the entries that come before one and behind it
parts : (es : List SourceEntry) (i : ℕ) (d : SourceEntry) → i < length es → flat_map entry_operations es ≡ (flat_map entry_operations (take i es) ++ entry_operations (get_or es i d)) ++ flat_map entry_operations (drop (i + 1) es)
parts es i d lt =
    ap (flat_map entry_operations) (sym (take-append-drop i es) ∙ ap (λ zs. take i es ++ zs) (drop-cons es i d lt ∙ ap (λ n. get_or es i d ∷ drop n es) (sym (add-one i))))
    ∙ flat_map-append entry_operations (take i es) (get_or es i d ∷ drop (i + 1) es)
    ∙ sym (append_assoc (flat_map entry_operations (take i es)) (entry_operations (get_or es i d)) (flat_map entry_operations (drop (i + 1) es)))

-- an error of one entry's operations that isn't want of memory is a refusal
refused_in_entry : (e : Error) (x : SourceEntry) (at to : SystemState) → AppliesUpToError e at (entry_operations x) to → fault_count to.calls ≡ 0 → e ≢ NoMemory → refusals.is_refusal e ≡ true
refused_in_entry e x at to k none not_memory = go (refusals.is_refusal e) refl
  where
    other : is_remount k.next ≡ false
    other = (each_right (λ op. is_remount op ≡ false) k.done (k.next ∷ k.others) (subst (Each (λ op. is_remount op ≡ false)) k.are (no_remount x))).0

    go : (b : Bool) → refusals.is_refusal e ≡ b → refusals.is_refusal e ≡ true
    go true is = is
    go false is = absurd (not_memory (only_memory e k.at to k.next (subst (λ b. EndsInError b e k.at k.next to) is k.ends) other none))

module _ (e : Error) (es : List SourceEntry) (i : ℕ) (d : SourceEntry) (from at to : SystemState) (lt : i < length es) (c : AreApplied from (flat_map entry_operations (take i es)) at)
    (k : AppliesUpToError e at (entry_operations (get_or es i d)) to) (none : fault_count to.calls ≡ 0) where
  pub first_refused : e ≢ NoMemory → IsFirstRefusal from (flat_map entry_operations es) e
  first_refused not_memory = refusal_first e from to (flat_map entry_operations es)
      (subst (λ xs. AppliesUpToError e from xs to) (sym (parts es i d lt)) (ended_before e (flat_map entry_operations (take i es) ++ entry_operations (get_or es i d)) (flat_map entry_operations (drop (i + 1) es)) from to
      (ended_on e (flat_map entry_operations (take i es)) (entry_operations (get_or es i d)) from at to c k)))
      (refused_in_entry e (get_or es i d) at to k none not_memory)
