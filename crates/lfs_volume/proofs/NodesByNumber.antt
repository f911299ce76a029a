-- Nodes by number: loaded, stored.
use Rattle.std.proofs.Common.{ℕ, ◌≡◌, ◌<◌, ◌≤◌, List, [], length, Option, Some, None, refl, sym, ap, subst, ◌∙◌}
use Rattle.std.specs.Prelude.{slice_index_or, slice_set}
use Rattle.std.specs.Option.{option_map}
use Rattle.lfs_device.specs.declared.error.Error.{Error}
use Rattle.lfs_tree.specs.TreeState.{visible_tree}
use Rattle.lfs_fs.specs.SessionView.{SessionView}
use Rattle.lfs_volume.specs.Calls.{stored_node}
use Rattle.lfs_volume.specs.Opened.{IsIdleSession}
use Rattle.lfs_volume.specs.Saves.{IsLoaded, loading_operations}
use Rattle.lfs_volume.specs.SessionCalls.{FailsInCalls}
use Rattle.lfs_volume.specs.Volume.{NodeView, entry_at, loaded_node, node_bytes, stored_bytes}
use Rattle.lfs_volume.specs.VolumeCalls.{AreStoredBytes, FailsNodeSync, FailsSyncAt, IsLoadedAt, IsNodeLoaded, IsNodeSynced, IsSoundAt, IsSoundNode, IsSyncedAt}
use Rattle.lfs_volume.proofs.Entries.{entry_index, no_entry, set_same}

-- the bytes of a node's path
pub stored_read : (old new : SessionView) (n : NodeView) (path bytes : List ℕ) → Some path ≡ n.path → IsLoaded old path bytes new → AreStoredBytes old n new bytes
stored_read old new n path bytes at l = record {
  are = l.is ∙ ap (stored_bytes (visible_tree old.tree)) at;
  idle = l.idle;
  operations = loading_operations path (length bytes);
  calls = l.calls;
}

nothing_set : (nodes : List (Option NodeView)) (i : ℕ) (f : NodeView → NodeView) → entry_at nodes i ≡ None → nodes ≡ slice_set nodes i (option_map f (entry_at nodes i))
nothing_set nodes i f e = sym (set_same nodes i) ∙ ap (slice_set nodes i) (e ∙ ap (option_map f) (sym e))

module _ (old : SessionView) (nodes : List (Option NodeView)) (i : ℕ) (o : Option NodeView) (n : NodeView) (inside : i < length nodes) (is : o ≡ slice_index_or nodes i o) (some : o ≡ Some n) where
  there : entry_at nodes i ≡ Some n
  there = entry_index nodes i o inside is ∙ some

  pub loaded_at : (new : SessionView) (m : NodeView) → (IsIdleSession old (visible_tree old.tree) → IsSoundNode old n → IsNodeLoaded old n new m) → IsIdleSession old (visible_tree old.tree) → IsSoundAt old nodes i → IsLoadedAt old nodes i new (slice_set nodes i (Some m))
  loaded_at new m loads idle sound =
      let l = loads idle (sound n there) in
      record {
        are = ap (slice_set nodes i) (ap Some l.node ∙ sym (ap (option_map (λ k. loaded_node (node_bytes (visible_tree old.tree) k) k)) there));
        idle = l.idle;
        operations = l.operations;
        calls = l.calls;
      }

  pub failed_at : (e : Error) (new : SessionView) → (IsIdleSession old (visible_tree old.tree) → IsSoundNode old n → FailsInCalls e old new) → IsIdleSession old (visible_tree old.tree) → IsSoundAt old nodes i → FailsInCalls e old new
  failed_at e new fails idle sound = fails idle (sound n there)

  pub synced_at : (new : SessionView) (m : NodeView) → (IsIdleSession old (visible_tree old.tree) → IsSoundNode old n → IsNodeSynced old n new m) → IsIdleSession old (visible_tree old.tree) → IsSoundAt old nodes i → IsSyncedAt old nodes i new (slice_set nodes i (Some m))
  synced_at new m syncs idle sound =
      let s = syncs idle (sound n there) in
      record {
        are = ap (slice_set nodes i) (ap Some s.node ∙ sym (ap (option_map stored_node) there));
        node = λ k e. subst (λ z. IsNodeSynced old z new (stored_node z)) (same_some n k (sym there ∙ e)) (record { node = refl; idle = s.idle; operations = s.operations; steps = s.steps; passes = s.passes });
      }
    where
      same_some : (a b : NodeView) → Some a ≡ Some b → a ≡ b
      same_some a b e = cc

  pub ended_at : (e : Error) (new : SessionView) → (IsIdleSession old (visible_tree old.tree) → IsSoundNode old n → FailsNodeSync e old n new) → IsIdleSession old (visible_tree old.tree) → IsSoundAt old nodes i → FailsSyncAt e old nodes i new
  ended_at e new ends idle sound = record { node = n; is = there; ends = ends idle (sound n there) }

nothing_synced : (old : SessionView) (nodes kept : List (Option NodeView)) (i : ℕ) → entry_at nodes i ≡ None → kept ≡ nodes → IsSyncedAt old nodes i old kept
nothing_synced old nodes kept i none same = record {
  are = same ∙ nothing_set nodes i stored_node none;
  node = λ k e. absurd (let z : Some k ≡ None = sym e ∙ none in cc);
}

pub no_node_synced : (old : SessionView) (nodes : List (Option NodeView)) (i : ℕ) → length nodes ≤ i → IsIdleSession old (visible_tree old.tree) → IsSoundAt old nodes i → IsSyncedAt old nodes i old nodes
no_node_synced old nodes i outside idle sound = nothing_synced old nodes nodes i (no_entry nodes i outside) refl

module _ (old : SessionView) (nodes : List (Option NodeView)) (i : ℕ) (o : Option NodeView) (inside : i < length nodes) (is : o ≡ slice_index_or nodes i o) (none : o ≡ None) where
  at_none : entry_at nodes i ≡ None
  at_none = entry_index nodes i o inside is ∙ none

  stays : slice_set nodes i o ≡ nodes
  stays = ap (slice_set nodes i) (sym (entry_index nodes i o inside is)) ∙ set_same nodes i

  pub none_loaded : IsIdleSession old (visible_tree old.tree) → IsSoundAt old nodes i → IsLoadedAt old nodes i old (slice_set nodes i o)
  none_loaded idle sound = record {
    are = stays ∙ nothing_set nodes i (λ k. loaded_node (node_bytes (visible_tree old.tree) k) k) at_none;
    idle = idle;
    operations = [];
    calls = refl;
  }

  pub none_synced : IsIdleSession old (visible_tree old.tree) → IsSoundAt old nodes i → IsSyncedAt old nodes i old (slice_set nodes i o)
  none_synced idle sound = nothing_synced old nodes (slice_set nodes i o) i at_none stays
