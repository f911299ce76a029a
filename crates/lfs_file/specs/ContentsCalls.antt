-- The blocks that a call leaves alone: `g` is what a contract sees of the device, `old` and `new` are the device before and
-- after.
use Rattle.std.specs.Prelude.{ℕ, ◌≡◌, List}
use Rattle.lfs_device.specs.declared.device.BlockDevice.{Ghosts}
use Rattle.lfs_model.specs.layers.BlockSets.{BlockStates}
use Rattle.lfs_model.specs.session.History.{LossLeavesAtWorst, HoldsAtLosses}
use Rattle.lfs_file.specs.BlocksApart.{KeepsTakenBytes, TakenStayUnprogrammed}
use Rattle.lfs_file.specs.Hand.{KeepsUsedBytes, UsedStayUnprogrammed}

-- No block that was taken changes, except the unwritten one, and its bytes that were unprogrammed still are. A loss of power
-- during the call leaves it as it was.
pub record KeepsTakenBlocks {D : Type 0} (g : Ghosts D) (map : BlockStates) (pending : List ℕ) (old new : D) : Type 0 where
  pub spared : KeepsTakenBytes map pending (g.blocks old) (g.blocks new)
  pub pages : TakenStayUnprogrammed map pending (g.history old) (g.history new)
  pub geometry : g.geometry new ≡ g.geometry old
  pub at_worst : HoldsAtLosses LossLeavesAtWorst (g.history old) (g.history new) (KeepsTakenBytes map pending (g.blocks old))

-- the same for the used blocks
pub record CallKeepsUsed {D : Type 0} (g : Ghosts D) (map : BlockStates) (old new : D) : Type 0 where
  pub spared : KeepsUsedBytes map (g.blocks old) (g.blocks new)
  pub pages : UsedStayUnprogrammed map (g.history old) (g.history new)
  pub geometry : g.geometry new ≡ g.geometry old
  pub at_worst : HoldsAtLosses LossLeavesAtWorst (g.history old) (g.history new) (KeepsUsedBytes map (g.blocks old))
