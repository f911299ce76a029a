use Rattle.std.proofs.Common.{ℕ, ◌∙◌, List, sym, subst₂}
use Rattle.std.specs.Prelude.{IfOk}
use Rattle.lfs_mount.proofs.Common.{disk_with_order, Pair, move_view, disk_of_device, IsThreadCheckResult, IsDescribedThread, violation_in_order}
use Rattle.lfs_model.specs.declared.order.NameOrder.{NameOrder}
use Rattle.lfs_mount.specs.declared.pass.DirectoryPairHeader.{DirectoryPairHeader}
use Rattle.lfs_mount.proofs.accepted_images.check_directories.Goals as goal

pub returns-clause-ok : goal.returns-clause-ok
returns-clause-ok g c =
    let disk = disk_of_device g.D.BlockDevice c.args.device.now in
    subst₂ (λ (firsts : List (ℕ × ℕ)) (ms : List DirectoryPairHeader). IfOk c.check_thread.result (λ found. (order : NameOrder) (chain : List Pair) (p : Pair) (rest : List Pair)
    → IsDescribedThread (disk_with_order order disk) c.args.map.now firsts ms (move_view c.args.state.now).sync chain p rest
    → IsThreadCheckResult (disk_with_order order disk) (violation_in_order order found) c.args.map.now c.check_thread.new.map chain p rest))
    c.in-Ok-directory_start_addresses.ensures.places (c.deref.ensures.value ∙ c.in-Ok.ensures.members) c.check_thread.ensures.ok

pub returns-clause-broken : goal.returns-clause-broken
returns-clause-broken g c = λ v is order chain p rest known.
    c.check_thread.ensures.broken v is order chain p rest
    (subst₂ (λ (firsts : List (ℕ × ℕ)) (ms : List DirectoryPairHeader). IsDescribedThread (disk_with_order order (disk_of_device g.D.BlockDevice c.args.device.now)) c.args.map.now firsts ms (move_view c.args.state.now).sync chain p rest)
    (sym c.in-Ok-directory_start_addresses.ensures.places) (sym (c.deref.ensures.value ∙ c.in-Ok.ensures.members)) known)
