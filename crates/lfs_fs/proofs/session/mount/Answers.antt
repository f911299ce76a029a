use Rattle.std.proofs.Common.{ap, subst, sym}
use Rattle.lfs_fs.proofs.Common.{Disk, IsAccepted, files_view, IsReady}
use Rattle.lfs_fs.proofs.FreshBegun.{mount_state}
use Rattle.lfs_fs.proofs.Remounting.{mounted_ready}
use Rattle.lfs_fs.proofs.session.mount.Goals as goal

pub invariant_of-result : goal.invariant_of-result
invariant_of-result g c = record {
  ready = λ works. subst (IsReady c.in-Ok.tree) (sym c.without_open_files.ensures) (mounted_ready _ _ c.in-Ok.tree c.in-Ok.ensures.mounted);
  reported = λ works. c.lemma_calls_conform.ensures;
}

pub returns-in-Ok-clause-begun : goal.returns-in-Ok-clause-begun
returns-in-Ok-clause-begun g c =
    let m = c.in-Ok.ensures.mounted in
    record {
      works = m.works;
      disk_is = m.disk_is;
      accepted = subst (λ (d : Disk). IsAccepted d c.in-Ok.tree.pairs) m.disk_is m.sound.accepted;
      reads = m.reads;
      no_fault = m.no_fault;
      no_files = ap (files_view c.in-Ok.tree) c.without_open_files.ensures;
    }

pub returns-in-Ok-clause-state : goal.returns-in-Ok-clause-state
returns-in-Ok-clause-state g c = mount_state _ _ c.in-Ok.tree c.without_open_files.result c.in-Ok.ensures.mounted c.without_open_files.ensures
