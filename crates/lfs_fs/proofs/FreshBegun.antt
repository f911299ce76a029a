-- A session just after a format or a mount.
use Rattle.std.proofs.Common.{◌≡◌, ◌∙◌, false, cond, List, [], refl, ap, ap₂, subst}
use Rattle.lfs_fs.proofs.Common.{content_at, Disk, block_count, CallEvent, IsJustMounted, OpenFilesByNumber, HasFailed, Healthy, mounted_session, Pair, Tree, IsAccepted, disk_tree, one_thread, IsMountedTree, TreeState, RuntimeFiles, files_view, SessionView, session_view, system_state, viewed_session}
use Rattle.lfs_model.specs.tree.Fresh.{IsFreshDisk, empty_tree}
use Rattle.lfs_model.proofs.Fresh.{accepted, shows}

tree_is_empty : (disk : Disk) (ps : List Pair) → IsFreshDisk disk → IsAccepted disk ps → disk_tree disk ps ≡ empty_tree
tree_is_empty disk ps fresh ok = ap (disk_tree disk) (one_thread (content_at disk) (block_count disk) ps _ ok.thread (accepted disk fresh).thread) ∙ shows disk

pub fresh_state : (h : SessionView) → h.tree.failed ≡ false → h.files ≡ [] → IsAccepted h.tree.disk h.tree.pairs → IsFreshDisk h.tree.disk → (system_state h).state ≡ Healthy (mounted_session empty_tree)
fresh_state h works none ok fresh =
    ap (λ b. cond b HasFailed (Healthy (viewed_session h))) works
    ∙ ap₂ (λ (t : Tree) (f : OpenFilesByNumber). Healthy (record { tree = t; files = f })) (tree_is_empty h.tree.disk h.tree.pairs fresh ok) none

pub mount_state : (disk : Disk) (history : List CallEvent) (t : TreeState) (files : RuntimeFiles) → IsMountedTree disk history t → files ≡ [] → IsJustMounted disk (system_state (session_view t files))
mount_state disk history t files m none = record {
  on = m.disk_is;
  tree = disk_tree disk t.pairs;
  shows = (t.pairs, (subst (λ d. IsAccepted d t.pairs) m.disk_is m.sound.accepted, refl));
  healthy = ap (λ b. cond b HasFailed (Healthy (viewed_session (session_view t files)))) m.works
      ∙ ap₂ (λ (d : Disk) (f : OpenFilesByNumber). Healthy (record { tree = disk_tree d t.pairs; files = f })) m.disk_is (ap (files_view t) none);
}
