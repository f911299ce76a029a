use Rattle.std.proofs.Common.{refl, sym, ap, ◌≡◌, ◌∙◌, List, Option, true, false, Ok}
use Rattle.std.specs.List.{position_or_len}
use Rattle.lfs_fs.specs.Replies.{reply_from}
use Rattle.lfs_model.specs.session.Operations as ops
use Rattle.lfs_volume.specs.Calls.{Perform, has_path}
use Rattle.lfs_volume.specs.Volume.{NodeView, VolumeView}
use Rattle.lfs_volume.specs.VolumeCalls.{IsSoundIfWorking, IsSoundVolume, IsVolumeCall}
use Rattle.lfs_volume.proofs.PathMoves.{sound_removed, unlinked_nodes}
use Rattle.lfs_volume.proofs.Soundness.{failed_not_working}
use Rattle.lfs_volume.proofs.Unlinking.{IsReady, accepted_after, ended_after, ended_sound, remove_on_entries}
use Rattle.lfs_volume.proofs.VolumeSteps.{call_in_parts, ended_call, failed_call, failed_reply, of_whole, passed_error}
use Rattle.lfs_volume.proofs.volume.Volume.remove.Goals as goal

pub returns-in_err-check_not_failed : goal.returns-in_err-check_not_failed
returns-in_err-check_not_failed g c =
    passed_error (λ _. ops.Done) c.from_residual.result _ (λ z. IsVolumeCall c.args.self.now (Perform (ops.Remove c.args.path.now)) z c.args.self.now) c.from_residual.ensures.1 (failed_reply _ c.args.self.now (Perform (ops.Remove c.args.path.now)) c.in_err-check_not_failed.ensures.failed)

pub returns-in_err-load_node_at : goal.returns-in_err-load_node_at
returns-in_err-load_node_at g c =
    let start : VolumeView = record { session = c.self.inside.session; nodes = c.self.inside.nodes.items; handles = c.self.inside.handles.items } in
    let new : VolumeView = record { session = c.load_node_at.new.session; nodes = c.load_node_at.new.nodes.items; handles = c.self.inside.handles.items } in
    call_in_parts start c.args.self.now new (Perform (ops.Remove c.args.path.now)) (reply_from (λ _. ops.Done) c.from_residual-in_err-load_node_at.result) c.self.view_is c.in_ok-check_not_failed.ensures.sound (λ sound.
    ended_call (λ _. ops.Done) c.from_residual-in_err-load_node_at.result _ start new (Perform (ops.Remove c.args.path.now)) c.from_residual-in_err-load_node_at.ensures.1
    (failed_call _ start new (Perform (ops.Remove c.args.path.now)) (c.in_err-load_node_at.ensures.failed sound.idle (λ n e. sound.nodes c.find_node_index-place.result n e))))

pub invariant_of-self : goal.invariant_of-self
invariant_of-self g c =
    let start : VolumeView = record { session = c.self.inside.session; nodes = c.self.inside.nodes.items; handles = c.self.inside.handles.items } in
    let new : VolumeView = record { session = c.load_node_at.new.session; nodes = c.load_node_at.new.nodes.items; handles = c.self.inside.handles.items } in
    of_whole start c.args.self.now c.self.view_is (λ v. IsSoundIfWorking new) (λ sound works. absurd (failed_not_working _ start.session new.session (c.in_err-load_node_at.ensures.failed sound.idle (λ n e. sound.nodes c.find_node_index-place.result n e)) works)) c.in_ok-check_not_failed.ensures.sound

pub returns-in_err-remove : goal.returns-in_err-remove
returns-in_err-remove g c =
    let start : VolumeView = record { session = c.self.inside.session; nodes = c.self.inside.nodes.items; handles = c.self.inside.handles.items } in
    let mid : VolumeView = record { session = c.load_node_at.new.session; nodes = c.load_node_at.new.nodes.items; handles = c.self.inside.handles.items } in
    let new : VolumeView = record { session = c.remove.new.self; nodes = c.load_node_at.new.nodes.items; handles = c.self.inside.handles.items } in
    let ready = λ (sound : IsSoundVolume start). (let r : IsReady start mid c.find_node_index-place.result = record { loaded = c.in_ok-load_node_at.ensures.loaded sound.idle (λ n e. sound.nodes c.find_node_index-place.result n e); handles = refl } in r) in
    call_in_parts start c.args.self.now new (Perform (ops.Remove c.args.path.now)) (reply_from (λ _. ops.Done) c.from_residual-in_err-remove.result) c.self.view_is c.in_ok-check_not_failed.ensures.sound (λ sound.
    ended_call (λ _. ops.Done) c.from_residual-in_err-remove.result _ start new (Perform (ops.Remove c.args.path.now)) c.from_residual-in_err-remove.ensures.1
    (ended_after start mid c.find_node_index-place.result sound (ready sound) (ops.Remove c.args.path.now) (remove_on_entries c.args.path.now) _ new c.in_err-remove.ensures refl refl))

pub invariant_of-self-in_err-remove : goal.invariant_of-self-in_err-remove
invariant_of-self-in_err-remove g c =
    let start : VolumeView = record { session = c.self.inside.session; nodes = c.self.inside.nodes.items; handles = c.self.inside.handles.items } in
    let mid : VolumeView = record { session = c.load_node_at.new.session; nodes = c.load_node_at.new.nodes.items; handles = c.self.inside.handles.items } in
    let new : VolumeView = record { session = c.remove.new.self; nodes = c.load_node_at.new.nodes.items; handles = c.self.inside.handles.items } in
    of_whole start c.args.self.now c.self.view_is (λ v. IsSoundIfWorking new) (λ sound.
    let ready : IsReady start mid c.find_node_index-place.result = record { loaded = c.in_ok-load_node_at.ensures.loaded sound.idle (λ n e. sound.nodes c.find_node_index-place.result n e); handles = refl } in
    ended_sound start mid c.find_node_index-place.result sound ready (ops.Remove c.args.path.now) (remove_on_entries c.args.path.now) _ new c.in_err-remove.ensures refl refl) c.in_ok-check_not_failed.ensures.sound

pub returns : goal.returns
returns g c =
    let start : VolumeView = record { session = c.self.inside.session; nodes = c.self.inside.nodes.items; handles = c.self.inside.handles.items } in
    let mid : VolumeView = record { session = c.load_node_at.new.session; nodes = c.load_node_at.new.nodes.items; handles = c.self.inside.handles.items } in
    let new : VolumeView = record { session = c.remove.new.self; nodes = c.unlink_path.new.nodes.items; handles = c.self.inside.handles.items } in
    call_in_parts start c.args.self.now new (Perform (ops.Remove c.args.path.now)) (Ok ops.Done) c.self.view_is c.in_ok-check_not_failed.ensures.sound (λ sound.
    let ready : IsReady start mid c.find_node_index-place.result = record { loaded = c.in_ok-load_node_at.ensures.loaded sound.idle (λ n e. sound.nodes c.find_node_index-place.result n e); handles = refl } in
    accepted_after start mid c.find_node_index-place.result sound ready (ops.Remove c.args.path.now) (remove_on_entries c.args.path.now) new ops.Done refl c.in_ok-remove.ensures
    (unlinked_nodes start mid c.find_node_index-place.result c.args.path.now new.nodes sound ready (c.find_node_index-place.ensures ∙ ap (λ (ns : List (Option NodeView)). position_or_len (has_path c.args.path.now) ns) c.deref.ensures.value) c.unlink_path.ensures) refl)

pub invariant_of-self-2 : goal.invariant_of-self-2
invariant_of-self-2 g c =
    let start : VolumeView = record { session = c.self.inside.session; nodes = c.self.inside.nodes.items; handles = c.self.inside.handles.items } in
    let mid : VolumeView = record { session = c.load_node_at.new.session; nodes = c.load_node_at.new.nodes.items; handles = c.self.inside.handles.items } in
    let new : VolumeView = record { session = c.remove.new.self; nodes = c.unlink_path.new.nodes.items; handles = c.self.inside.handles.items } in
    of_whole start c.args.self.now c.self.view_is (λ v. IsSoundIfWorking new) (λ sound works.
    let ready : IsReady start mid c.find_node_index-place.result = record { loaded = c.in_ok-load_node_at.ensures.loaded sound.idle (λ n e. sound.nodes c.find_node_index-place.result n e); handles = refl } in
    sound_removed start mid new c.find_node_index-place.result c.args.path.now sound ready c.in_ok-remove.ensures
    (unlinked_nodes start mid c.find_node_index-place.result c.args.path.now new.nodes sound ready (c.find_node_index-place.ensures ∙ ap (λ (ns : List (Option NodeView)). position_or_len (has_path c.args.path.now) ns) c.deref.ensures.value) c.unlink_path.ensures) refl) c.in_ok-check_not_failed.ensures.sound
