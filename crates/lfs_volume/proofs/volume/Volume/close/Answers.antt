use Rattle.std.proofs.Common.{refl, sym, subst, Ok}
use Rattle.lfs_model.specs.session.Operations as ops
use Rattle.lfs_volume.specs.Calls.{Close}
use Rattle.lfs_volume.specs.SessionCalls.{error_result}
use Rattle.lfs_volume.specs.Volume.{VolumeView}
use Rattle.lfs_volume.specs.VolumeCalls.{IsHandleLookup, IsSoundIfWorking, IsVolumeCall}
use Rattle.lfs_volume.proofs.Soundness.{sound_after_sync, sound_if_working}
use Rattle.lfs_volume.proofs.VolumeSteps.{call_in_parts, close_done, close_ended, close_none, no_handle, of_whole, passed_error}
use Rattle.lfs_volume.proofs.volume.Volume.close.Goals as goal

pub returns-in_err-found : goal.returns-in_err-found
returns-in_err-found g c =
    passed_error (λ _. ops.Done) c.from_residual.result _ (λ z. IsVolumeCall c.args.self.now (Close c.args.handle) z c.args.self.now) c.from_residual.ensures.1
    (no_handle _ c.args.self.now c.args.handle (Close c.args.handle) c.in_err-found.ensures.found (λ around none. close_none c.args.self.now c.args.handle around none))

pub returns-in-Ok : goal.returns-in-Ok
returns-in-Ok g c =
    let start : VolumeView = record { session = c.self.inside.session; nodes = c.self.inside.nodes.items; handles = c.self.inside.handles.items } in
    let mid : VolumeView = record { session = c.sync_node_at.new.session; nodes = c.sync_node_at.new.nodes.items; handles = c.self.inside.handles.items } in
    let found = subst (λ v. IsHandleLookup v c.args.handle (Ok c.in_ok-found.found)) (sym c.self.view_is) c.in_ok-found.ensures.found in
    call_in_parts start c.args.self.now c.drop_handle.new.self (Close c.args.handle) (Ok ops.Done) c.self.view_is c.in_ok-found.ensures.sound (λ sound.
    close_done start mid c.drop_handle.new.self c.args.handle c.in_ok-found.found sound found (c.in-Ok.ensures.synced sound.idle (λ n e. sound.nodes c.in_ok-found.found.node n e)) refl c.drop_handle.ensures)

pub returns-in-Err : goal.returns-in-Err
returns-in-Err g c =
    let start : VolumeView = record { session = c.self.inside.session; nodes = c.self.inside.nodes.items; handles = c.self.inside.handles.items } in
    let mid : VolumeView = record { session = c.sync_node_at.new.session; nodes = c.sync_node_at.new.nodes.items; handles = c.self.inside.handles.items } in
    let found = subst (λ v. IsHandleLookup v c.args.handle (Ok c.in_ok-found.found)) (sym c.self.view_is) c.in_ok-found.ensures.found in
    call_in_parts start c.args.self.now c.drop_handle-in-Err.new.self (Close c.args.handle) (error_result c.in-Err.error) c.self.view_is c.in_ok-found.ensures.sound (λ sound.
    close_ended c.in-Err.error start mid c.drop_handle-in-Err.new.self c.args.handle c.in_ok-found.found sound found (c.in-Err.ensures.ended sound.idle (λ n e. sound.nodes c.in_ok-found.found.node n e)) c.in-Err.ensures.kept refl c.drop_handle-in-Err.ensures)

pub invariant_of-self : goal.invariant_of-self
invariant_of-self g c =
    let start : VolumeView = record { session = c.self.inside.session; nodes = c.self.inside.nodes.items; handles = c.self.inside.handles.items } in
    let mid : VolumeView = record { session = c.sync_node_at.new.session; nodes = c.sync_node_at.new.nodes.items; handles = c.self.inside.handles.items } in
    let found = subst (λ v. IsHandleLookup v c.args.handle (Ok c.in_ok-found.found)) (sym c.self.view_is) c.in_ok-found.ensures.found in
    of_whole start c.args.self.now c.self.view_is (λ v. IsSoundIfWorking mid) (λ sound works.
    sound_after_sync start mid c.args.handle c.in_ok-found.found sound found.1 (c.in-Ok.ensures.synced sound.idle (λ n e. sound.nodes c.in_ok-found.found.node n e)) refl) c.in_ok-found.ensures.sound

pub invariant_of-self-in-Err : goal.invariant_of-self-in-Err
invariant_of-self-in-Err g c =
    let start : VolumeView = record { session = c.self.inside.session; nodes = c.self.inside.nodes.items; handles = c.self.inside.handles.items } in
    let mid : VolumeView = record { session = c.sync_node_at.new.session; nodes = c.sync_node_at.new.nodes.items; handles = c.self.inside.handles.items } in
    of_whole start c.args.self.now c.self.view_is (λ v. IsSoundIfWorking mid) (λ sound.
    sound_if_working c.in-Err.error start mid c.in_ok-found.found.node sound (c.in-Err.ensures.ended sound.idle (λ n e. sound.nodes c.in_ok-found.found.node n e)) c.in-Err.ensures.kept refl) c.in_ok-found.ensures.sound
