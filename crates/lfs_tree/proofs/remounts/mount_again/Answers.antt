use Rattle.std.proofs.Common.{◌≡◌, ◌<◌, ◌⊎◌, inl, inr, List, sym, ap, subst, subst₂, ◌∙◌}
use Rattle.lfs_device.specs.declared.error.Error.TheVariants.{Io, NoMemory, Corrupt}
use Rattle.lfs_tree.proofs.Common.{Disk, disk_with_order, CallEvent, fault_count, Pair, IsAccepted, KeptThread, IsMountedTree}
use Rattle.lfs_model.specs.declared.order.NameOrder.{NameOrder}
use Rattle.lfs_model.specs.declared.order.NameOrder.TheVariants.{LongerFirst}
use Rattle.lfs_mount.specs.MountFaults.{MountMayReport}
use Rattle.lfs_blocks.specs.Next.{BeginsAt}
use Rattle.lfs_thread.specs.Kept.{ThreadView}
use Rattle.lfs_tree.specs.RootedThreads.{thread_state}
use Rattle.lfs_tree.specs.TreeState.{IsRemountedTree}
use Rattle.lfs_tree.proofs.remounts.mount_again.Goals as goal

-- the search is no part of what contracts see of a tree
same_tree : (g : _) (c : goal.After-drop-cache-inside g) → thread_state c.start_search_at-first.new.self c.tree-in-Ok.inside.is_writable ≡ c.in-Ok.tree
same_tree g c = ap (λ (t : ThreadView). thread_state t c.tree-in-Ok.inside.is_writable) c.start_search_at-first.ensures.same ∙ c.tree-in-Ok.view_is

pub returns-in-Ok-clause-mounted : goal.returns-in-Ok-clause-mounted
returns-in-Ok-clause-mounted g c = subst (IsRemountedTree c.args.tree) (sym (same_tree g c)) (record {
  mounted = subst₂ (λ (disk : Disk) (history : List CallEvent). IsMountedTree disk history c.in-Ok.tree) (ap (disk_with_order c.in-Ok.tree.disk.order) c.into_device.ensures.disk) c.into_device.ensures.history c.in-Ok.ensures.mounted;
  longer = λ shorter ps a. c.in-Ok.ensures.longer shorter ps (subst (λ (disk : Disk). IsAccepted disk ps) (sym (ap (disk_with_order LongerFirst) c.into_device.ensures.disk)) a);
})

pub returns-in-Ok-clause-goes_on : goal.returns-in-Ok-clause-goes_on
returns-in-Ok-clause-goes_on g c =
    subst (λ (t : ThreadView). BeginsAt t.kept.map c.args.spare.start c.start_search_at-first.result) (sym c.start_search_at-first.ensures.same) c.start_search_at-first.ensures.begins

pub returns-in-Err-clause-errors : goal.returns-in-Err-clause-errors
returns-in-Err-clause-errors g c = record {
  errors = go c.in-Err.ensures.errors;
  fault = λ is. subst₂ (λ (before after : List CallEvent). fault_count before < fault_count after) c.into_device.ensures.history (sym here) (c.in-Err.ensures.back.fault is);
  no_fault = λ not. ap fault_count here ∙ c.in-Err.ensures.back.no_fault not ∙ ap fault_count c.into_device.ensures.history;
}
  where
    here : c.failed_thread-thread.result.kept.history ≡ g.D.BlockDevice.history c.in-Err.device
    here = ap (λ (kept : KeptThread). kept.history) c.failed_thread-thread.ensures.kept

    go : MountMayReport c.in-Err.error → (c.in-Err.error ≡ Io) ⊎ ((c.in-Err.error ≡ NoMemory) ⊎ ((c.in-Err.error ≡ Corrupt) × ((order : NameOrder) (ps : List Pair) → IsAccepted (disk_with_order order c.args.tree.disk) ps → ⊥)))
    go (inl is) = inl is
    go (inr (inr is)) = inr (inl is)
    go (inr (inl is)) = inr (inr (is, λ order ps a. c.in-Err.ensures.corrupt is order ps (subst (λ (disk : Disk). IsAccepted disk ps) (sym (ap (disk_with_order order) c.into_device.ensures.disk)) a)))
