-- A thread that was read, with its names in another order.
use Rattle.std.proofs.Common.{◌≡◌, ◌∙◌, List, None, ap, subst, sym}
use Rattle.lfs_device.specs.declared.device.BlockDevice.{Ghosts}
use Rattle.lfs_device.specs.declared.error.Error.TheVariants.{Corrupt}
use Rattle.lfs_mount.proofs.Common.{BlockStates, CallEvent, Disk, disk_with_order, OnlyReadsSince, fault_count, GivesDeviceBack, KeptThread, PairHeader, ThreadView, disk_of_device}
use Rattle.lfs_model.specs.declared.order.NameOrder.TheVariants.{LongerFirst}
use Rattle.lfs_model.specs.declared.order.NameOrder.{NameOrder}
use Rattle.lfs_thread.specs.Kept.{kept_in_order, kept_of_device}
use Rattle.lfs_mount.specs.Orders.{violation_in_order}
use Rattle.lfs_mount.specs.ReadImage.{IsReadImage, IsMountedImage, thread_with_order}
use Rattle.lfs_mount.specs.declared.findings.ImageFindings.{ImageFindings}

-- the thread in an order of names that its image has
pub mounted_image : (disk : Disk) (history : List CallEvent) (t u : ThreadView) (found : ImageFindings) (order : NameOrder) → IsReadImage disk history t found
    → violation_in_order order found.violations ≡ None → u ≡ thread_with_order order t → IsMountedImage disk history u found
mounted_image disk history t u found order read fits is = subst (λ (v : ThreadView). IsMountedImage disk history v found) (sym is) (record {
  mounted = read.mounted order fits;
  root = read.root;
  fits = fits;
  accepted = λ other none. (read.mounted other none).accepted;
  broken = read.broken;
})

-- the device of a thread that was read, if the image isn't accepted in the order that is wanted
pub refused_back : {D : Type 0} (g : Ghosts D) (old back : D) (t : ThreadView) (found : ImageFindings) → IsReadImage (disk_of_device g old) (g.history old) t found
    → disk_with_order t.kept.disk.order (disk_of_device g back) ≡ t.kept.disk → g.history back ≡ t.kept.history → GivesDeviceBack g old back Corrupt
refused_back g old back t found read disk history = record {
  disk = ap (disk_with_order LongerFirst) (disk ∙ read.disk_is);
  reads = subst (OnlyReadsSince (g.blocks old) (g.history old)) (sym history) read.reads;
  fault = λ is. absurd (cc);
  no_fault = λ other. ap fault_count history ∙ read.no_fault;
}

-- the parts of a thread that was read, whose order is as after a reading
pub plain_again : {D : Type 0} (g : Ghosts D) (old now : D) (order : NameOrder) (items : List PairHeader) (sets : BlockStates) (t : KeptThread) → kept_in_order g order now items sets ≡ t → t.disk ≡ disk_of_device g old → kept_of_device g now items sets ≡ t
plain_again g old now order items sets t same read =
    ap (λ (k : KeptThread). record k { disk = disk_with_order LongerFirst k.disk }) same
    ∙ ap (λ (d : Disk). record t { disk = disk_with_order LongerFirst d }) read
    ∙ ap (λ (d : Disk). record t { disk = d }) (sym read)
