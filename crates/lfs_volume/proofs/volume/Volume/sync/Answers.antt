use Rattle.std.proofs.Common.{refl, sym, subst, Ok}
use Rattle.lfs_fs.specs.Replies.{reply_from}
use Rattle.lfs_model.specs.session.Operations as ops
use Rattle.lfs_volume.specs.Calls.{Sync}
use Rattle.lfs_volume.specs.Volume.{VolumeView}
use Rattle.lfs_volume.specs.VolumeCalls.{IsHandleLookup, IsSoundIfWorking, IsVolumeCall}
use Rattle.lfs_volume.proofs.Soundness.{sound_after_sync, sound_if_working}
use Rattle.lfs_volume.proofs.VolumeSteps.{call_in_parts, ended_call, no_handle, of_whole, passed_error, sync_done, sync_ended, sync_none}
use Rattle.lfs_volume.proofs.volume.Volume.sync.Goals as goal

pub returns-in_err-found : goal.returns-in_err-found
returns-in_err-found g c =
    passed_error (λ _. ops.Done) c.from_residual.result _ (λ z. IsVolumeCall c.args.self.now (Sync c.args.handle) z c.args.self.now) c.from_residual.ensures.1
    (no_handle _ c.args.self.now c.args.handle (Sync c.args.handle) c.in_err-found.ensures.found (λ around none. sync_none c.args.self.now c.args.handle around none))

pub returns-in_err-sync_node_at : goal.returns-in_err-sync_node_at
returns-in_err-sync_node_at g c =
    let start : VolumeView = record { session = c.self.inside.session; nodes = c.self.inside.nodes.items; handles = c.self.inside.handles.items } in
    let new : VolumeView = record { session = c.sync_node_at.new.session; nodes = c.sync_node_at.new.nodes.items; handles = c.self.inside.handles.items } in
    let found = subst (λ v. IsHandleLookup v c.args.handle (Ok c.in_ok-found.found)) (sym c.self.view_is) c.in_ok-found.ensures.found in
    call_in_parts start c.args.self.now new (Sync c.args.handle) (reply_from (λ _. ops.Done) c.from_residual-in_err-sync_node_at.result) c.self.view_is c.in_ok-found.ensures.sound (λ sound.
    ended_call (λ _. ops.Done) c.from_residual-in_err-sync_node_at.result _ start new (Sync c.args.handle) c.from_residual-in_err-sync_node_at.ensures.1
    (sync_ended _ start new c.args.handle c.in_ok-found.found sound found (c.in_err-sync_node_at.ensures.ended sound.idle (λ n e. sound.nodes c.in_ok-found.found.node n e)) c.in_err-sync_node_at.ensures.kept refl))

pub returns : goal.returns
returns g c =
    let start : VolumeView = record { session = c.self.inside.session; nodes = c.self.inside.nodes.items; handles = c.self.inside.handles.items } in
    let new : VolumeView = record { session = c.sync_node_at.new.session; nodes = c.sync_node_at.new.nodes.items; handles = c.self.inside.handles.items } in
    let found = subst (λ v. IsHandleLookup v c.args.handle (Ok c.in_ok-found.found)) (sym c.self.view_is) c.in_ok-found.ensures.found in
    call_in_parts start c.args.self.now new (Sync c.args.handle) (Ok ops.Done) c.self.view_is c.in_ok-found.ensures.sound (λ sound.
    sync_done start new c.args.handle c.in_ok-found.found sound found (c.in_ok-sync_node_at.ensures.synced sound.idle (λ n e. sound.nodes c.in_ok-found.found.node n e)) refl)

pub invariant_of-self : goal.invariant_of-self
invariant_of-self g c =
    let start : VolumeView = record { session = c.self.inside.session; nodes = c.self.inside.nodes.items; handles = c.self.inside.handles.items } in
    let new : VolumeView = record { session = c.sync_node_at.new.session; nodes = c.sync_node_at.new.nodes.items; handles = c.self.inside.handles.items } in
    of_whole start c.args.self.now c.self.view_is (λ v. IsSoundIfWorking new) (λ sound. sound_if_working _ start new c.in_ok-found.found.node sound (c.in_err-sync_node_at.ensures.ended sound.idle (λ n e. sound.nodes c.in_ok-found.found.node n e)) c.in_err-sync_node_at.ensures.kept refl) c.in_ok-found.ensures.sound

pub invariant_of-self-2 : goal.invariant_of-self-2
invariant_of-self-2 g c =
    let start : VolumeView = record { session = c.self.inside.session; nodes = c.self.inside.nodes.items; handles = c.self.inside.handles.items } in
    let new : VolumeView = record { session = c.sync_node_at.new.session; nodes = c.sync_node_at.new.nodes.items; handles = c.self.inside.handles.items } in
    let found = subst (λ v. IsHandleLookup v c.args.handle (Ok c.in_ok-found.found)) (sym c.self.view_is) c.in_ok-found.ensures.found in
    of_whole start c.args.self.now c.self.view_is (λ v. IsSoundIfWorking new) (λ sound works. sound_after_sync start new c.args.handle c.in_ok-found.found sound found.1 (c.in_ok-sync_node_at.ensures.synced sound.idle (λ n e. sound.nodes c.in_ok-found.found.node n e)) refl) c.in_ok-found.ensures.sound
