use Rattle.std.proofs.Common.{refl, sym, ap, subst, ◌∙◌, ◌≤◌, ◌<◌, arith, Ok}
use Rattle.lfs_model.specs.format.Disk.{profile_file_max}
use Rattle.lfs_model.specs.session.Operations as ops
use Rattle.lfs_volume.specs.Calls.{Seek}
use Rattle.lfs_volume.specs.Volume.{VolumeView}
use Rattle.lfs_volume.specs.VolumeCalls.{IsHandleLookup, IsSoundIfWorking, IsVolumeCall}
use Rattle.lfs_volume.proofs.Soundness.{handles_move, sound_moved}
use Rattle.lfs_volume.proofs.VolumeSteps.{call_in_parts, no_handle, of_whole, passed_error, seek_done, seek_none, seek_too_far, working_call}
use Rattle.lfs_volume.proofs.volume.Volume.seek.Goals as goal

pub returns-in_err-find_handle : goal.returns-in_err-find_handle
returns-in_err-find_handle g c =
    passed_error (λ _. ops.Done) c.from_residual.result _ (λ z. IsVolumeCall c.args.self.now (Seek c.args.handle c.args.position) z c.args.self.now) c.from_residual.ensures.1
    (no_handle _ c.args.self.now c.args.handle (Seek c.args.handle c.args.position) c.in_err-find_handle.ensures.found (λ around none. seek_none c.args.self.now c.args.handle c.args.position around none))

pub returns-then-position-file_max : goal.returns-then-position-file_max
returns-then-position-file_max g c =
    let sound = c.in_ok-find_handle.ensures.sound in
    let far : profile_file_max c.args.self.now.session.tree.disk.profile < c.args.position = (let m = c.file_max.ensures in omega arith) in
    working_call c.args.self.now c.args.self.now (Seek c.args.handle c.args.position) (Ok (ops.Refused ops.Invalid)) sound.idle.works (
    seek_too_far c.args.self.now c.args.handle c.args.position c.in_ok-find_handle.field-0 c.in_ok-find_handle.ensures.found far)

pub returns : goal.returns
returns g c =
    let start : VolumeView = record { session = c.self.inside.session; nodes = c.self.inside.nodes.items; handles = c.self.inside.handles.items } in
    let new : VolumeView = record { session = c.self.inside.session; nodes = c.self.inside.nodes.items; handles = c.set_position.new.handles.items } in
    let most = c.file_max.ensures ∙ ap (λ (v : VolumeView). profile_file_max v.session.tree.disk.profile) (sym c.self.view_is) in
    let near : c.args.position ≤ profile_file_max c.self.inside.session.tree.disk.profile = omega arith in
    call_in_parts start c.args.self.now new (Seek c.args.handle c.args.position) (Ok ops.Done) c.self.view_is c.in_ok-find_handle.ensures.sound (λ sound.
    seek_done start new c.args.handle c.args.position c.in_ok-find_handle.field-0 (subst (λ v. IsHandleLookup v c.args.handle (Ok c.in_ok-find_handle.field-0)) (sym c.self.view_is) c.in_ok-find_handle.ensures.found) near refl refl c.set_position.ensures)

pub invariant_of-self : goal.invariant_of-self
invariant_of-self g c =
    let start : VolumeView = record { session = c.self.inside.session; nodes = c.self.inside.nodes.items; handles = c.self.inside.handles.items } in
    let new : VolumeView = record { session = c.self.inside.session; nodes = c.self.inside.nodes.items; handles = c.set_position.new.handles.items } in
    of_whole start c.args.self.now c.self.view_is (λ v. IsSoundIfWorking new) (λ sound works. sound_moved start new sound refl refl (handles_move start.handles new.handles c.args.handle c.args.position c.set_position.ensures)) c.in_ok-find_handle.ensures.sound
