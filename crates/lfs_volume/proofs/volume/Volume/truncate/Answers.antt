use Rattle.std.proofs.Common.{refl, sym, ap, subst, ◌∙◌, ◌≤◌, ◌<◌, arith, Ok}
use Rattle.lfs_fs.specs.Replies.{reply_from}
use Rattle.lfs_model.specs.format.Disk.{profile_file_max}
use Rattle.lfs_model.specs.session.Operations as ops
use Rattle.lfs_volume.specs.Calls.{Truncate}
use Rattle.lfs_volume.specs.Volume.{VolumeView}
use Rattle.lfs_volume.specs.VolumeCalls.{IsHandleLookup, IsSoundIfWorking, IsVolumeCall}
use Rattle.lfs_volume.proofs.Soundness.{failed_not_working, handles_stay, sound_loaded, sound_resized}
use Rattle.lfs_volume.proofs.VolumeSteps.{call_in_parts, ended_call, failed_parts, loaded_kept, no_handle, no_memory, not_else, not_then, of_whole, passed_error, truncate_done, truncate_forbidden, truncate_may, truncate_none, truncate_too_long, wants_memory, working_call}
use Rattle.lfs_volume.proofs.volume.Volume.truncate.Goals as goal

pub returns-in_err-found : goal.returns-in_err-found
returns-in_err-found g c =
    passed_error (λ _. ops.Done) c.from_residual.result _ (λ z. IsVolumeCall c.args.self.now (Truncate c.args.handle c.args.size) z c.args.self.now) c.from_residual.ensures.1
    (no_handle _ c.args.self.now c.args.handle (Truncate c.args.handle c.args.size) c.in_err-found.ensures.found (λ around none. truncate_none c.args.self.now c.args.handle c.args.size around none))

pub returns-then-not-found : goal.returns-then-not-found
returns-then-not-found g c =
    let sound = c.in_ok-found.ensures.sound in
    working_call c.args.self.now c.args.self.now (Truncate c.args.handle c.args.size) (Ok (ops.Refused ops.BadFile)) sound.idle.works (truncate_forbidden c.args.self.now c.args.handle c.args.size c.in_ok-found.found c.in_ok-found.ensures.found (not_then c.in_ok-found.found.writes c.if-not-found.true))

pub returns-then-size-file_max : goal.returns-then-size-file_max
returns-then-size-file_max g c =
    let sound = c.in_ok-found.ensures.sound in
    let long : profile_file_max c.args.self.now.session.tree.disk.profile < c.args.size = (let m = c.file_max.ensures in omega arith) in
    working_call c.args.self.now c.args.self.now (Truncate c.args.handle c.args.size) (Ok (ops.Refused ops.TooBig)) sound.idle.works (
    truncate_too_long c.args.self.now c.args.handle c.args.size c.in_ok-found.found c.in_ok-found.ensures.found (not_else c.in_ok-found.found.writes c.if-not-found.false) long)

pub returns-in_err-load_node_at : goal.returns-in_err-load_node_at
returns-in_err-load_node_at g c =
    let sound = c.in_ok-found.ensures.sound in
    let new : VolumeView = record { session = c.load_node_at.new.session; nodes = c.load_node_at.new.nodes.items; handles = c.self.inside.handles.items } in
    working_call c.args.self.now new (Truncate c.args.handle c.args.size) (reply_from (λ _. ops.Done) c.from_residual-in_err-load_node_at.result) sound.idle.works (
    ended_call (λ _. ops.Done) c.from_residual-in_err-load_node_at.result _ c.args.self.now new (Truncate c.args.handle c.args.size) c.from_residual-in_err-load_node_at.ensures.1
    (failed_parts _ (record { session = c.self.inside.session; nodes = c.self.inside.nodes.items; handles = c.self.inside.handles.items }) c.args.self.now new (Truncate c.args.handle c.args.size) c.self.view_is (λ sound. c.in_err-load_node_at.ensures.failed sound.idle (λ n e. sound.nodes c.in_ok-found.found.node n e)) sound))

pub returns-in_err-resize_at : goal.returns-in_err-resize_at
returns-in_err-resize_at g c =
    let start : VolumeView = record { session = c.self.inside.session; nodes = c.self.inside.nodes.items; handles = c.self.inside.handles.items } in
    let mid : VolumeView = record { session = c.load_node_at.new.session; nodes = c.load_node_at.new.nodes.items; handles = c.self.inside.handles.items } in
    let new : VolumeView = record { session = c.load_node_at.new.session; nodes = c.resize_at.new.nodes.items; handles = c.self.inside.handles.items } in
    let found = subst (λ v. IsHandleLookup v c.args.handle (Ok c.in_ok-found.found)) (sym c.self.view_is) c.in_ok-found.ensures.found in
    call_in_parts start c.args.self.now new (Truncate c.args.handle c.args.size) (reply_from (λ _. ops.Done) c.from_residual-in_err-resize_at.result) c.self.view_is c.in_ok-found.ensures.sound (λ sound.
    let loaded = c.in_ok-load_node_at.ensures.loaded sound.idle (λ n e. sound.nodes c.in_ok-found.found.node n e) in
    ended_call (λ _. ops.Done) c.from_residual-in_err-resize_at.result _ start new (Truncate c.args.handle c.args.size) c.from_residual-in_err-resize_at.ensures.1
    (no_memory _ start new (Truncate c.args.handle c.args.size) c.in_err-resize_at.ensures.none
    (wants_memory start new (Truncate c.args.handle c.args.size) c.in_ok-found.found.node (loaded_kept start.session new.session start.nodes c.load_node_at.new.nodes.items new.nodes c.in_ok-found.found.node c.in_err-resize_at.ensures.err loaded) refl
    (truncate_may start mid c.args.handle c.args.size c.in_ok-found.found sound found loaded c.in_err-resize_at.ensures.full))))

pub returns : goal.returns
returns g c =
    let start : VolumeView = record { session = c.self.inside.session; nodes = c.self.inside.nodes.items; handles = c.self.inside.handles.items } in
    let mid : VolumeView = record { session = c.load_node_at.new.session; nodes = c.load_node_at.new.nodes.items; handles = c.self.inside.handles.items } in
    let new : VolumeView = record { session = c.load_node_at.new.session; nodes = c.resize_at.new.nodes.items; handles = c.self.inside.handles.items } in
    let found = subst (λ v. IsHandleLookup v c.args.handle (Ok c.in_ok-found.found)) (sym c.self.view_is) c.in_ok-found.ensures.found in
    let most = c.file_max.ensures ∙ ap (λ (v : VolumeView). profile_file_max v.session.tree.disk.profile) (sym c.self.view_is) in
    let small : c.args.size ≤ profile_file_max c.self.inside.session.tree.disk.profile = omega arith in
    call_in_parts start c.args.self.now new (Truncate c.args.handle c.args.size) (Ok ops.Done) c.self.view_is c.in_ok-found.ensures.sound (λ sound.
    truncate_done start mid new c.args.handle c.args.size c.in_ok-found.found sound found (not_else c.in_ok-found.found.writes c.if-not-found.false) small (c.in_ok-load_node_at.ensures.loaded sound.idle (λ n e. sound.nodes c.in_ok-found.found.node n e)) refl c.in_ok-resize_at.ensures.ok refl refl)

pub invariant_of-self : goal.invariant_of-self
invariant_of-self g c =
    let start : VolumeView = record { session = c.self.inside.session; nodes = c.self.inside.nodes.items; handles = c.self.inside.handles.items } in
    let new : VolumeView = record { session = c.load_node_at.new.session; nodes = c.load_node_at.new.nodes.items; handles = c.self.inside.handles.items } in
    of_whole start c.args.self.now c.self.view_is (λ v. IsSoundIfWorking new) (λ sound works. absurd (failed_not_working _ start.session new.session (c.in_err-load_node_at.ensures.failed sound.idle (λ n e. sound.nodes c.in_ok-found.found.node n e)) works)) c.in_ok-found.ensures.sound

pub invariant_of-self-in_err-resize_at : goal.invariant_of-self-in_err-resize_at
invariant_of-self-in_err-resize_at g c =
    let start : VolumeView = record { session = c.self.inside.session; nodes = c.self.inside.nodes.items; handles = c.self.inside.handles.items } in
    let mid : VolumeView = record { session = c.load_node_at.new.session; nodes = c.load_node_at.new.nodes.items; handles = c.self.inside.handles.items } in
    let new : VolumeView = record { session = c.load_node_at.new.session; nodes = c.resize_at.new.nodes.items; handles = c.self.inside.handles.items } in
    let found = subst (λ v. IsHandleLookup v c.args.handle (Ok c.in_ok-found.found)) (sym c.self.view_is) c.in_ok-found.ensures.found in
    of_whole start c.args.self.now c.self.view_is (λ v. IsSoundIfWorking new) (λ sound works.
    sound_loaded start mid new c.args.handle c.in_ok-found.found sound found.1 (c.in_ok-load_node_at.ensures.loaded sound.idle (λ n e. sound.nodes c.in_ok-found.found.node n e)) refl c.in_err-resize_at.ensures.err (handles_stay start.handles new.handles refl)) c.in_ok-found.ensures.sound

pub invariant_of-self-2 : goal.invariant_of-self-2
invariant_of-self-2 g c =
    let start : VolumeView = record { session = c.self.inside.session; nodes = c.self.inside.nodes.items; handles = c.self.inside.handles.items } in
    let mid : VolumeView = record { session = c.load_node_at.new.session; nodes = c.load_node_at.new.nodes.items; handles = c.self.inside.handles.items } in
    let new : VolumeView = record { session = c.load_node_at.new.session; nodes = c.resize_at.new.nodes.items; handles = c.self.inside.handles.items } in
    let found = subst (λ v. IsHandleLookup v c.args.handle (Ok c.in_ok-found.found)) (sym c.self.view_is) c.in_ok-found.ensures.found in
    let most = c.file_max.ensures ∙ ap (λ (v : VolumeView). profile_file_max v.session.tree.disk.profile) (sym c.self.view_is) in
    let small : c.args.size ≤ profile_file_max c.self.inside.session.tree.disk.profile = omega arith in
    of_whole start c.args.self.now c.self.view_is (λ v. IsSoundIfWorking new) (λ sound works.
    sound_resized start mid new c.args.handle c.args.size c.in_ok-found.found sound found.1 small (c.in_ok-load_node_at.ensures.loaded sound.idle (λ n e. sound.nodes c.in_ok-found.found.node n e)) c.in_ok-resize_at.ensures.ok refl (handles_stay start.handles new.handles refl)) c.in_ok-found.ensures.sound
