use Rattle.std.proofs.Common.{Ok}
use Rattle.lfs_model.specs.session.Operations as ops
use Rattle.lfs_volume.specs.Calls.{Tell}
use Rattle.lfs_volume.specs.VolumeCalls.{IsVolumeCall}
use Rattle.lfs_volume.proofs.Asking.{tell_found}
use Rattle.lfs_volume.proofs.VolumeSteps.{no_handle, passed_error, tell_none, working_call}
use Rattle.lfs_volume.proofs.volume.Volume.position.Goals as goal

pub returns-in_err-find_handle : goal.returns-in_err-find_handle
returns-in_err-find_handle g c =
    passed_error ops.Count c.from_residual.result _ (λ z. IsVolumeCall c.args.self.now (Tell c.args.handle) z c.args.self.now) c.from_residual.ensures.1
    (no_handle _ c.args.self.now c.args.handle (Tell c.args.handle) c.in_err-find_handle.ensures.found (λ around none. tell_none c.args.self.now c.args.handle around none))

pub returns : goal.returns
returns g c =
    working_call c.args.self.now c.args.self.now (Tell c.args.handle) (Ok (ops.Count c.in_ok-find_handle.field-0.position)) c.in_ok-find_handle.ensures.sound.idle.works
    (tell_found c.args.self.now c.args.handle c.in_ok-find_handle.field-0 c.in_ok-find_handle.ensures.found)
