-- Why a device in memory, which has no fault, fails.
use Rattle.std.proofs.Common.{◌≡◌, ◌∙◌, ◌⊎◌, ◌<◌, ℕ, List, ap, false, inl, inr, arith, subst, sym}
use Rattle.lfs_device.specs.declared.error.Error.{Error}
use Rattle.lfs_device.specs.declared.error.Error.TheVariants as error
use Rattle.lfs_lookup.specs.Searchable.{CanSearchFromRoot}
use Rattle.lfs_model.specs.format.Thread.{count_before_root}
use Rattle.lfs_thread.specs.Kept.{ThreadView}
use Rattle.lfs_tool.proofs.Common.{disk_with_order, Disk, CallEvent, fault_count, Pair, IsAccepted, IsMountError, OnlyReadsThread}
use Rattle.lfs_mount.specs.MountFaults.{MountMayReport}
use Rattle.lfs_model.specs.declared.order.NameOrder.{NameOrder}

pub not_mounted : (disk : Disk) (e : Error) (old new : List CallEvent) → MountMayReport e → (e ≡ error.Corrupt → (order : NameOrder) (ps : List Pair) → IsAccepted (disk_with_order order disk) ps → ⊥)
    → (e ≡ error.Io → fault_count old < fault_count new) → fault_count new ≡ fault_count old → IsMountError disk e
not_mounted disk e old new (inl io) corrupt fault none = let more = fault io in absurd (omega (arith, more, none))
not_mounted disk e old new (inr (inl broken)) corrupt fault none = subst (IsMountError disk) (sym broken) (corrupt broken)
not_mounted disk e old new (inr (inr memory)) corrupt fault none = subst (IsMountError disk) (sym memory) tt

pub only_memory : (e : Error) (old new : List CallEvent) → (e ≡ error.Io) ⊎ (e ≡ error.NoMemory) → (e ≡ error.Io → fault_count old < fault_count new) → fault_count new ≡ 0 → e ≡ error.NoMemory
only_memory e old new (inl io) fault none = let more = fault io in absurd (omega (arith, more, none))
only_memory e old new (inr memory) fault none = memory

-- a thread that was only read can be searched as before
pub can_still : (old new : ThreadView) (root : ℕ) → OnlyReadsThread old.kept new.kept → new.failed ≡ false → CanSearchFromRoot old root → CanSearchFromRoot new root
can_still old new root only works can = record {
  works = works;
  accepted = subst (λ (d : Disk). IsAccepted d new.kept.pairs) (sym only.disk) (subst (λ (ps : List Pair). IsAccepted old.kept.disk ps) (sym only.pairs) can.accepted);
  root = can.root ∙ ap count_before_root (sym only.pairs);
}
