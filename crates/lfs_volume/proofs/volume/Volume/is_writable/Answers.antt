use Rattle.std.proofs.Common.{subst}
use Rattle.std.specs.Prelude.{◌↔◌, IsTrue}
use Rattle.lfs_fs.specs.ReadOnly.{IsWritableSession}
use Rattle.lfs_volume.specs.Volume.{VolumeView}
use Rattle.lfs_volume.proofs.volume.Volume.is_writable.Goals as goal

pub returns : goal.returns
returns g c = subst (λ (v : VolumeView). IsTrue c.is_writable.result ↔ IsWritableSession v.session) c.self.view_is c.is_writable.ensures
