-- A node that is loaded or stored.
use Rattle.std.proofs.Common.{inl, inr, ℕ, ◌≡◌, ◌+◌, ◌<◌, ◌≤◌, ◌&&◌, ◌||◌, nat_le, nat_lt, not, Bool, true, false, cond, List, [], ◌∷◌, ◌++◌, length, Option, Some, None, is_none, is_some, unwrap_or, refl, sym, ap, ap₂, subst, ◌∙◌}
use Rattle.std.specs.Prelude.{IsSome, ◌⊎◌, if◌then◌else◌}
use Rattle.std.specs.List.{list_any}
use Rattle.std.proofs.lemmas.Bool.{cases_lt, le-ltb, lt-ltb}
use Rattle.lfs_device.specs.declared.error.Error.{Error}
use Rattle.lfs_device.specs.declared.error.Error.TheVariants as error
use Rattle.lfs_lookup.specs.RefusalErrors as refusals
use Rattle.lfs_model.specs.format.Disk.{Disk, block_count, profile_file_max}
use Rattle.lfs_model.specs.format.Thread.{Pair}
use Rattle.lfs_model.specs.tree.Profile.{IsWritable}
use Rattle.lfs_model.specs.tree.Shown.{used_blocks}
use Rattle.lfs_model.specs.tree.Tree.{Node, Path}
use Rattle.lfs_model.specs.tree.View.{IsAccepted}
use Rattle.lfs_model.specs.session.Operations as ops
use Rattle.lfs_model.specs.session.Operations.{Busy, EntryFull, Exist, FlagsOfOpen, Invalid, IsDir, NameTooLong, NoEnt, NoSpace, ReadOnly, Operation, Refusal, parse_path}
use Rattle.lfs_model.specs.session.Session.{DiskSummary, OpenFilesByNumber, Session, all_readers, all_writers, exceeds_half_pair, first_refusal, flags_allowed, has_long_name, has_open_file, lacks_room, file_block_count, overfills_disk, parents_refusal, refuse_if}
use Rattle.lfs_model.specs.session.State.{IsDiskSummary}
use Rattle.lfs_model.specs.session.Refusals.{operation_refusal, path_or_root}
use Rattle.lfs_model.specs.session.TreeEdits.{file_bytes, is_directory, last_name, same_path, tree_with_change}
use Rattle.lfs_model.specs.session.Writers.{opened_writer}
use Rattle.lfs_model.specs.session.Effects.{node_with_bytes}
use Rattle.lfs_tree.specs.TreeState.{visible_tree}
use Rattle.lfs_fs.specs.CallEffects.{IsCall}
use Rattle.lfs_fs.specs.SessionView.{SessionView, viewed_session}
use Rattle.lfs_volume.specs.declared.dirty_range.DirtyRange.{DirtyRange}
use Rattle.lfs_volume.specs.Calls.{needs_sync, sync_refusal, tree_after_sync}
use Rattle.lfs_volume.specs.DirtyRanges.{DiffersInDirtyRange}
use Rattle.lfs_volume.specs.Opened.{HasNoOpenFiles, IsIdleSession, blocks_for_save, writing_flags}
use Rattle.lfs_volume.specs.Saves.{CanSave, FailsSave, IsLoaded, IsSaveRefused, IsSaved, RefusesSaveNoSpace, free_block_query_operations, loading_operations, path_bytes_of, saving_operations}
use Rattle.lfs_volume.specs.SessionCalls.{AreTreePreservingCalls, EndsAtErrorOperation, error_result}
use Rattle.lfs_volume.specs.Volume.{NodeView, idle_session, loaded_node, node_bytes, stored_bytes, synced_node}
use Rattle.lfs_volume.specs.VolumeCalls.{FailsNodeSync, IsNodeLoaded, IsNodeSyncRefused, IsNodeSynced, IsSoundNode, IsSyncRefusal}
use Rattle.lfs_volume.proofs.Steps.{done, healthy_view, refused, refusal_step, there_already, writable_already}
use Rattle.lfs_volume.proofs.Saving.{idle_stays, one_quiet, quiet_joined}

-- ---- the file is opened, and the room is asked for

-- What is known when the room is asked for: by what the disk holds then, the open passes too.
pub record IsAsked (old : SessionView) (path : List ℕ) (at : SessionView) : Type 0 where
  pub around : DiskSummary
  pub pairs : List Pair
  pub accepted : IsAccepted at.tree.disk pairs
  pub surrounds : IsDiskSummary at.tree.disk pairs around
  pub shows : visible_tree at.tree ≡ visible_tree old.tree
  pub opens : operation_refusal around (idle_session (visible_tree old.tree)) (ops.Open path writing_flags) ≡ None

-- an open is refused by no file that was closed
pub open_when_idle : (h : SessionView) (path : List ℕ) (flags : FlagsOfOpen) (around : DiskSummary) → HasNoOpenFiles h.files → operation_refusal around (viewed_session h) (ops.Open path flags) ≡ operation_refusal around (idle_session (visible_tree h.tree)) (ops.Open path flags)
open_when_idle h path flags around (inl e) = ap (λ fs. operation_refusal around (record { tree = visible_tree h.tree; files = fs }) (ops.Open path flags)) e
open_when_idle h path flags around (inr e) = ap (λ fs. operation_refusal around (record { tree = visible_tree h.tree; files = fs }) (ops.Open path flags)) e

-- for a file that is there, an open for writing asks the disk for no more than whether it is writable
abbrev pub writing_checks : DiskSummary → Bool → Option Path → Option Refusal → Bool → Option Node → OpenFilesByNumber → Path → Option Refusal
writing_checks around writable given parents missing o files p = first_refusal (
    refuse_if (writing_flags.write && not writable) ReadOnly
    ∷ refuse_if (is_none given || not (flags_allowed writing_flags)) Invalid
    ∷ parents
    ∷ refuse_if (missing && writing_flags.create && has_long_name around p) NameTooLong
    ∷ refuse_if (missing && not writing_flags.create) NoEnt
    ∷ refuse_if (is_some o && writing_flags.exclusive) Exist
    ∷ refuse_if (is_directory o) IsDir
    ∷ refuse_if (if writing_flags.write
    then nat_lt 0 (length (all_writers files)) || has_open_file (same_path p) files
    else list_any (λ w. same_path p w.path) (all_writers files) || nat_le 16 (length (all_readers files))) Busy
    ∷ refuse_if (missing && exceeds_half_pair around (last_name p) []) EntryFull
    ∷ refuse_if (missing && lacks_room around files 2) NoSpace
    ∷ refuse_if (writing_flags.truncate && overfills_disk around (opened_writer p writing_flags (file_bytes o))) NoSpace
    ∷ [])

writing_same : (a b : DiskSummary) (s : Session) (path : List ℕ) → is_none (s.tree (path_or_root path)) ≡ false → a.writable ≡ true → b.writable ≡ true → operation_refusal a s (ops.Open path writing_flags) ≡ operation_refusal b s (ops.Open path writing_flags)
writing_same a b s path there x y =
    ap₂ (λ w m. writing_checks a w (parse_path path) (parents_refusal s.tree [] (path_or_root path)) m (s.tree (path_or_root path)) s.files (path_or_root path)) x there
    ∙ sym (ap₂ (λ w m. writing_checks b w (parse_path path) (parents_refusal s.tree [] (path_or_root path)) m (s.tree (path_or_root path)) s.files (path_or_root path)) y there)

pub asked_to_save : (old at : SessionView) (path : List ℕ) (from : ℕ) → IsIdleSession old (visible_tree old.tree) → AreTreePreservingCalls old (free_block_query_operations path from) at → IsAsked old path at
asked_to_save old at path from idle (h1, (opens, same1, (h2, (seek, same2, (h3, (used, same3, end)))))) =
    let d0 = done old (ops.Open path writing_flags) opens.reply h1 refl idle.works opens.accepted opens.call.answers in
    let d1 = done h1 (ops.Seek 0 from) seek.reply h2 refl d0.works seek.accepted seek.call.answers in
    let d2 = done h2 ops.UsedCount used.reply h3 refl d1.works used.accepted used.call.answers in
    let first : IsWritable old.tree.disk d0.pairs = d0.surrounds.writable.0 (writable_already d0.around (viewed_session old) path writing_flags refl d0.passes) in
    let second = (opens.call.answers.effect_on_disk opens.accepted (viewed_session old) (healthy_view old idle.works) d0.pairs d1.pairs d0.accepted d1.accepted).effect.profile first in
    let third = (seek.call.answers.effect_on_disk seek.accepted (viewed_session h1) (healthy_view h1 d0.works) d1.pairs d2.pairs d1.accepted d2.accepted).effect.profile second in
    let there = there_already d0.around (viewed_session old) path writing_flags refl d0.passes in
    subst (λ h. IsAsked old path h) (sym (used.call.asks.asked refl) ∙ end) (record {
      around = d2.around;
      pairs = d2.pairs;
      accepted = d2.accepted;
      surrounds = d2.surrounds;
      shows = same2 ∙ same1;
      opens = sym (open_when_idle old path writing_flags d2.around idle.files) ∙ writing_same d2.around d0.around (viewed_session old) path there (d2.surrounds.writable.1 third) (writable_already d0.around (viewed_session old) path writing_flags refl d0.passes) ∙ d0.passes;
    })

-- ---- the test for room

room_test : (around : DiskSummary) (disk : Disk) (ps : List Pair) (size : ℕ) → IsDiskSummary disk ps around →
    nat_lt around.block_count (length around.used + (2 + file_block_count around.profile around.block_size size)) ≡ nat_lt (block_count disk) (length (used_blocks disk ps) + blocks_for_save disk size)
room_test around disk ps size sum =
    ap₂ (λ c u. nat_lt c (length u + (2 + file_block_count around.profile around.block_size size))) sum.block_count sum.used ∙ ap₂ (λ p b. nat_lt (block_count disk) (length (used_blocks disk ps) + (2 + file_block_count p b size))) sum.profile sum.block_size

has_test : (n m : ℕ) → n ≤ m → nat_lt m n ≡ false
has_test n m le = le-ltb m n le

lacks_test : (n m : ℕ) → (n ≤ m → ⊥) → nat_lt m n ≡ true
lacks_test n m lacks = go (cases_lt m n)
  where
    go : (m < n) ⊎ (n ≤ m) → nat_lt m n ≡ true
    go (inl lt) = lt-ltb m n lt
    go (inr le) = absurd (lacks le)

first_alone : (r : Option Refusal) → first_refusal (None ∷ r ∷ []) ≡ r
first_alone None = refl
first_alone (Some x) = refl

-- ---- a node that is stored

module _ (old : SessionView) (n : NodeView) (path bytes : List ℕ) (dirty_range : DirtyRange) (at : Some path ≡ n.path) (in_memory : Some bytes ≡ n.contents) (is : Some dirty_range ≡ n.dirty_range) where
  pub can_sync : IsIdleSession old (visible_tree old.tree) → IsSoundNode old n → length bytes ≡ n.size → CanSave old path bytes dirty_range
  can_sync idle sound size = record {
    idle = idle;
    small = subst (λ k. k ≤ profile_file_max old.tree.disk.profile) (sym size) (sound.small (subst IsSome is refl));
    differs = subst (DiffersInDirtyRange (stored_bytes (visible_tree old.tree) (Some path)) bytes) (sym is) (sound.differs path bytes (sym at) (sym in_memory));
  }

  needed : needs_sync n ≡ true
  needed = ap₂ (λ p h. is_some h && is_some p) (sym at) (sym is)

  tree_is : tree_after_sync (visible_tree old.tree) (Some n) ≡ tree_with_change (path_or_root path) (node_with_bytes bytes) (visible_tree old.tree)
  tree_is =
      ap (λ b. cond b (tree_with_change (path_or_root (unwrap_or n.path [])) (node_with_bytes (node_bytes (visible_tree old.tree) n)) (visible_tree old.tree)) (visible_tree old.tree)) needed
      ∙ ap₂ (λ p c. tree_with_change (path_or_root (unwrap_or p [])) (node_with_bytes (unwrap_or c (stored_bytes (visible_tree old.tree) n.path))) (visible_tree old.tree)) (sym at) (sym in_memory)

  refusal_is : (around : DiskSummary) → sync_refusal around (visible_tree old.tree) (Some n)
      ≡ first_refusal (operation_refusal around (idle_session (visible_tree old.tree)) (ops.Open path writing_flags) ∷ refuse_if (nat_lt around.block_count (length around.used + (2 + file_block_count around.profile around.block_size n.size))) NoSpace ∷ [])
  refusal_is around =
      ap (λ b. cond b (checks n.path) None) needed ∙ ap checks (sym at)
    where
      checks : Option (List ℕ) → Option Refusal
      checks p = first_refusal (operation_refusal around (idle_session (visible_tree old.tree)) (ops.Open (unwrap_or p []) writing_flags) ∷ refuse_if (nat_lt around.block_count (length around.used + (2 + file_block_count around.profile around.block_size n.size))) NoSpace ∷ [])

  by_room : (asked : SessionView) (b : Bool) → AreTreePreservingCalls old (free_block_query_operations path dirty_range.from) asked → IsAsked old path asked → ((ps : List Pair) → IsAccepted asked.tree.disk ps → nat_lt (block_count asked.tree.disk) (length (used_blocks asked.tree.disk ps) + blocks_for_save asked.tree.disk n.size) ≡ b) → IsSyncRefusal old n (refuse_if b NoSpace)
  by_room asked b quiet a test = record {
    before = free_block_query_operations path dirty_range.from;
    reached = quiet;
    around = a.around;
    at = asked;
    pairs = a.pairs;
    accepted = a.accepted;
    surrounds = a.surrounds;
    shows = a.shows;
    is = refusal_is a.around ∙ ap₂ (λ r x. first_refusal (r ∷ refuse_if x NoSpace ∷ [])) a.opens (room_test a.around asked.tree.disk a.pairs n.size a.surrounds ∙ test a.pairs a.accepted) ∙ first_alone (refuse_if b NoSpace);
  }

  pub node_synced : (new : SessionView) (m : NodeView) → IsIdleSession old (visible_tree old.tree) → length bytes ≡ n.size → m ≡ synced_node n → IsSaved old path bytes dirty_range new → IsNodeSynced old n new m
  node_synced new m begins size same s = record {
    node = same ∙ ap (λ b. cond b (synced_node n) n) (sym needed);
    idle = subst (IsIdleSession new) (sym tree_is) s.idle;
    operations = saving_operations (length (path_bytes_of old path)) path bytes dirty_range ++ ops.Close 0 ∷ [];
    steps = inr (record {
      before = saving_operations (length (path_bytes_of old path)) path bytes dirty_range;
      change = ops.Close 0;
      after = [];
      are = refl;
      first = s.at;
      second = new;
      quiet = s.quiet;
      changed = s.closed;
      rest = refl;
    });
    passes = λ is_needed. by_room s.asked_at false s.asked (asked_to_save old s.asked_at path dirty_range.from begins s.asked) (λ ps ok.
        ap (λ k. nat_lt (block_count s.asked_at.tree.disk) (length (used_blocks s.asked_at.tree.disk ps) + blocks_for_save s.asked_at.tree.disk k)) (sym size) ∙ has_test _ _ (s.room ps ok));
  }

  pub sync_ends : (e : Error) (new : SessionView) → IsIdleSession old (visible_tree old.tree) → length bytes ≡ n.size → FailsSave e old path bytes dirty_range new → IsSaveRefused e old path bytes dirty_range new → FailsNodeSync e old n new
  sync_ends e new begins size ends refuses = go (refusals.is_refusal e) refl
    where
      no_room : RefusesSaveNoSpace old path bytes dirty_range new → IsNodeSyncRefused error.NoSpace old n new
      no_room l = record {
        is_one = refl;
        refused = by_room l.at true l.asked (asked_to_save old l.at path dirty_range.from begins l.asked) (λ ps ok.
            ap (λ k. nat_lt (block_count l.at.tree.disk) (length (used_blocks l.at.tree.disk ps) + blocks_for_save l.at.tree.disk k)) (sym size) ∙ lacks_test _ _ (l.lacks ps ok));
        idle = l.idle;
        operations = free_block_query_operations path dirty_range.from ++ ops.Close 0 ∷ [];
        part = inl (inl (quiet_joined old l.at new (free_block_query_operations path dirty_range.from) (ops.Close 0 ∷ []) l.asked (one_quiet l.at new (ops.Close 0) l.closed (l.idle.shows ∙ sym (asked_to_save old l.at path dirty_range.from begins l.asked).shows))));
      }

      no_open : refusals.is_refusal e ≡ true → IsCall old (ops.Open path writing_flags) (error_result e) new → IsNodeSyncRefused e old n new
      no_open is call =
          let r = refused old (ops.Open path writing_flags) (refusals.error_refusal e) new refl begins.works (λ around. refl) (refusal_step old (ops.Open path writing_flags) e new is call.answers) in
          record {
            is_one = is;
            refused = record {
              around = r.around;
              at = old;
              pairs = r.pairs;
              accepted = r.accepted;
              surrounds = r.surrounds;
              shows = refl;
              before = [];
              reached = refl;
              is = refusal_is r.around ∙ ap (λ x. first_refusal (x ∷ refuse_if (nat_lt r.around.block_count (length r.around.used + (2 + file_block_count r.around.profile r.around.block_size n.size))) NoSpace ∷ [])) (sym (open_when_idle old path writing_flags r.around begins.files) ∙ r.by);
            };
            idle = idle_stays old new begins r.works r.stays;
            operations = ops.Open path writing_flags ∷ [];
            part = inr (e, (is, record { before = []; next = ops.Open path writing_flags; others = []; are = refl; at = old; quiet = refl; ends = call }));
          }

      go : (b : Bool) → refusals.is_refusal e ≡ b → FailsNodeSync e old n new
      go false is = inr (is, unrefused ends)
        where
          unrefused : FailsSave e old path bytes dirty_range new → (operations : List Operation) × EndsAtErrorOperation e old operations new
          unrefused (inl (same, l)) = absurd (let k : true ≡ false = sym (ap refusals.is_refusal same) ∙ is in cc)
          unrefused (inr k) = (_, k)
      go true is = inl (elim (refuses is) as (λ x. IsNodeSyncRefused e old n new) [ inl l ↦ subst (λ z. IsNodeSyncRefused z old n new) (sym l.0) (no_room l.1) | inr call ↦ no_open is call ])

-- ---- a node that is loaded

in_memory_already : (old : SessionView) (n : NodeView) (bytes : List ℕ) → n.contents ≡ Some bytes → n ≡ loaded_node (node_bytes (visible_tree old.tree) n) n
in_memory_already old n bytes e = ap (λ c. record n { contents = c }) (e ∙ ap (λ c. Some (unwrap_or c (stored_bytes (visible_tree old.tree) n.path))) (sym e))

pub already_loaded : (old : SessionView) (n : NodeView) → is_some n.contents ≡ true → IsIdleSession old (visible_tree old.tree) → IsNodeLoaded old n old n
already_loaded old n is idle = go n.contents refl is
  where
    go : (o : Option (List ℕ)) → n.contents ≡ o → is_some o ≡ true → IsNodeLoaded old n old n
    go None e k = absurd (cc)
    go (Some bytes) e k = record { node = in_memory_already old n bytes e; idle = idle; operations = []; calls = refl }

pub loaded_from : (old new : SessionView) (n m : NodeView) (path bytes : List ℕ) → n.contents ≡ None → Some path ≡ n.path → m ≡ loaded_node bytes n → IsLoaded old path bytes new → IsNodeLoaded old n new m
loaded_from old new n m path bytes none at is l = record {
  node = is ∙ ap (λ b. loaded_node b n) (l.is ∙ sym (ap₂ (λ c p. unwrap_or c (stored_bytes (visible_tree old.tree) p)) none (sym at)));
  idle = l.idle;
  operations = loading_operations path (length bytes);
  calls = l.calls;
}

pub loaded_empty : (old : SessionView) (n m : NodeView) → n.contents ≡ None → n.path ≡ None → m ≡ loaded_node [] n → IsIdleSession old (visible_tree old.tree) → IsNodeLoaded old n old m
loaded_empty old n m none at is idle = record {
  node = is ∙ ap (λ b. loaded_node b n) (sym (ap₂ (λ c p. unwrap_or c (stored_bytes (visible_tree old.tree) p)) none at));
  idle = idle;
  operations = [];
  calls = refl;
}
