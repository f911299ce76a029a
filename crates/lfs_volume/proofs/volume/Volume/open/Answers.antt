use Rattle.std.proofs.Common.{◌≡◌, List, Option, true, Ok, refl, sym, ap, ◌∙◌}
use Rattle.lfs_fs.specs.FlagsView.{flags_view}
use Rattle.lfs_fs.specs.Replies.{reply_from}
use Rattle.lfs_model.specs.session.Operations as ops
use Rattle.lfs_volume.specs.declared.handles.Handle.{Handle}
use Rattle.lfs_volume.specs.Calls.{Open, free_entry_index, volume_flags_allowed}
use Rattle.lfs_volume.specs.Volume.{VolumeView}
use Rattle.lfs_volume.specs.VolumeCalls.{IsSoundIfWorking, IsVolumeCall}
use Rattle.lfs_volume.proofs.OpenedFiles.{sound_if_refused_by, sound_opened}
use Rattle.lfs_volume.proofs.Opening.{open_done, open_ended_by, open_forbidden, opened_by, wants_own_memory}
use Rattle.lfs_volume.proofs.SessionOperations.{sound_same}
use Rattle.lfs_volume.proofs.VolumeSteps.{call_in_parts, ended_call, failed_reply, no_memory, of_whole, passed_error, working_call}
use Rattle.lfs_volume.proofs.volume.Volume.open.Goals as goal

pub returns-in_err-check_not_failed : goal.returns-in_err-check_not_failed
returns-in_err-check_not_failed g c =
    passed_error ops.Opened c.from_residual.result _ (λ z. IsVolumeCall c.args.self.now (Open c.args.path.now (flags_view c.args.flags)) z c.args.self.now) c.from_residual.ensures.1 (failed_reply _ c.args.self.now (Open c.args.path.now (flags_view c.args.flags)) c.in_err-check_not_failed.ensures.failed)

pub returns-then-not-allows_volume_flags : goal.returns-then-not-allows_volume_flags
returns-then-not-allows_volume_flags g c =
    let sound = c.in_ok-check_not_failed.ensures.sound in
    working_call c.args.self.now c.args.self.now (Open c.args.path.now (flags_view c.args.flags)) (Ok (ops.Refused ops.Invalid)) sound.idle.works (open_forbidden c.args.self.now c.args.path.now (flags_view c.args.flags) c.in_ok-check_not_failed.ensures.works (sym c.allows_volume_flags.ensures ∙ c.if-not-allows_volume_flags.true))

pub returns-in_err-reserve_entry : goal.returns-in_err-reserve_entry
returns-in_err-reserve_entry g c =
    let start : VolumeView = record { session = c.self.inside.session; nodes = c.self.inside.nodes.items; handles = c.self.inside.handles.items } in
    let new : VolumeView = record { session = c.self.inside.session; nodes = c.self.inside.nodes.items; handles = c.reserve_entry.new.entries.items } in
    call_in_parts start c.args.self.now new (Open c.args.path.now (flags_view c.args.flags)) (reply_from ops.Opened c.from_residual-in_err-reserve_entry.result) c.self.view_is c.in_ok-check_not_failed.ensures.sound (λ sound.
    ended_call ops.Opened c.from_residual-in_err-reserve_entry.result _ start new (Open c.args.path.now (flags_view c.args.flags)) c.from_residual-in_err-reserve_entry.ensures.1
    (no_memory _ start new (Open c.args.path.now (flags_view c.args.flags)) c.in_err-reserve_entry.ensures.none (wants_own_memory start new c.args.path.now (flags_view c.args.flags) sound refl refl c.reserve_entry.ensures.same)))

pub returns-in_err-reserve_entry-2 : goal.returns-in_err-reserve_entry-2
returns-in_err-reserve_entry-2 g c =
    let start : VolumeView = record { session = c.self.inside.session; nodes = c.self.inside.nodes.items; handles = c.self.inside.handles.items } in
    let new : VolumeView = record { session = c.self.inside.session; nodes = c.reserve_entry-2.new.entries.items; handles = c.reserve_entry.new.entries.items } in
    call_in_parts start c.args.self.now new (Open c.args.path.now (flags_view c.args.flags)) (reply_from ops.Opened c.from_residual-in_err-reserve_entry-2.result) c.self.view_is c.in_ok-check_not_failed.ensures.sound (λ sound.
    ended_call ops.Opened c.from_residual-in_err-reserve_entry-2.result _ start new (Open c.args.path.now (flags_view c.args.flags)) c.from_residual-in_err-reserve_entry-2.ensures.1
    (no_memory _ start new (Open c.args.path.now (flags_view c.args.flags)) c.in_err-reserve_entry-2.ensures.none (wants_own_memory start new c.args.path.now (flags_view c.args.flags) sound refl c.reserve_entry-2.ensures.same c.reserve_entry.ensures.same)))

pub returns-in_err-own_path : goal.returns-in_err-own_path
returns-in_err-own_path g c =
    let start : VolumeView = record { session = c.self.inside.session; nodes = c.self.inside.nodes.items; handles = c.self.inside.handles.items } in
    let new : VolumeView = record { session = c.self.inside.session; nodes = c.reserve_entry-2.new.entries.items; handles = c.reserve_entry.new.entries.items } in
    call_in_parts start c.args.self.now new (Open c.args.path.now (flags_view c.args.flags)) (reply_from ops.Opened c.from_residual-in_err-own_path.result) c.self.view_is c.in_ok-check_not_failed.ensures.sound (λ sound.
    ended_call ops.Opened c.from_residual-in_err-own_path.result _ start new (Open c.args.path.now (flags_view c.args.flags)) c.from_residual-in_err-own_path.ensures.1
    (no_memory _ start new (Open c.args.path.now (flags_view c.args.flags)) c.in_err-own_path.ensures.none (wants_own_memory start new c.args.path.now (flags_view c.args.flags) sound refl c.reserve_entry-2.ensures.same c.reserve_entry.ensures.same)))

pub returns-in_err-number : goal.returns-in_err-number
returns-in_err-number g c =
    let start : VolumeView = record { session = c.self.inside.session; nodes = c.self.inside.nodes.items; handles = c.self.inside.handles.items } in
    let new : VolumeView = record { session = c.self.inside.session; nodes = c.reserve_entry-2.new.entries.items; handles = c.reserve_entry.new.entries.items } in
    call_in_parts start c.args.self.now new (Open c.args.path.now (flags_view c.args.flags)) (reply_from ops.Opened c.from_residual-in_err-number.result) c.self.view_is c.in_ok-check_not_failed.ensures.sound (λ sound.
    ended_call ops.Opened c.from_residual-in_err-number.result _ start new (Open c.args.path.now (flags_view c.args.flags)) c.from_residual-in_err-number.ensures.1
    (no_memory _ start new (Open c.args.path.now (flags_view c.args.flags)) c.in_err-number.ensures.none (wants_own_memory start new c.args.path.now (flags_view c.args.flags) sound refl c.reserve_entry-2.ensures.same c.reserve_entry.ensures.same)))

pub returns-in_err-size : goal.returns-in_err-size
returns-in_err-size g c =
    let start : VolumeView = record { session = c.self.inside.session; nodes = c.self.inside.nodes.items; handles = c.self.inside.handles.items } in
    let new : VolumeView = record { session = c.find_file.new.session; nodes = c.reserve_entry-2.new.entries.items; handles = c.reserve_entry.new.entries.items } in
    let allowed : volume_flags_allowed (flags_view c.args.flags) ≡ true = sym c.allows_volume_flags.ensures ∙ c.if-not-allows_volume_flags.false in
    call_in_parts start c.args.self.now new (Open c.args.path.now (flags_view c.args.flags)) (reply_from ops.Opened c.from_residual-in_err-size.result) c.self.view_is c.in_ok-check_not_failed.ensures.sound (λ sound.
    ended_call ops.Opened c.from_residual-in_err-size.result _ start new (Open c.args.path.now (flags_view c.args.flags)) c.from_residual-in_err-size.ensures.1
    (open_ended_by _ start new c.args.path.now (flags_view c.args.flags) (flags_view c.session_flags.result) c.session_flags.ensures sound allowed c.in_err-size.ensures.ended c.reserve_entry-2.ensures.same c.reserve_entry.ensures.same))

pub invariant_of-self : goal.invariant_of-self
invariant_of-self g c =
    let start : VolumeView = record { session = c.self.inside.session; nodes = c.self.inside.nodes.items; handles = c.self.inside.handles.items } in
    let new : VolumeView = record { session = c.self.inside.session; nodes = c.self.inside.nodes.items; handles = c.reserve_entry.new.entries.items } in
    sound_same start new c.self.invariant refl refl c.reserve_entry.ensures.same

pub invariant_of-self-in_err-size : goal.invariant_of-self-in_err-size
invariant_of-self-in_err-size g c =
    let start : VolumeView = record { session = c.self.inside.session; nodes = c.self.inside.nodes.items; handles = c.self.inside.handles.items } in
    let new : VolumeView = record { session = c.find_file.new.session; nodes = c.reserve_entry-2.new.entries.items; handles = c.reserve_entry.new.entries.items } in
    of_whole start c.args.self.now c.self.view_is (λ v. IsSoundIfWorking new) (λ sound.
    sound_if_refused_by _ start new c.args.path.now (flags_view c.args.flags) (flags_view c.session_flags.result) c.session_flags.ensures sound c.in_err-size.ensures.ended c.reserve_entry-2.ensures.same c.reserve_entry.ensures.same) c.in_ok-check_not_failed.ensures.sound

pub returns : goal.returns
returns g c =
    let start : VolumeView = record { session = c.self.inside.session; nodes = c.self.inside.nodes.items; handles = c.self.inside.handles.items } in
    let new : VolumeView = record { session = c.find_file.new.session; nodes = c.open_node-node.new.nodes.items; handles = c.put_entry.new.entries.items } in
    let allowed : volume_flags_allowed (flags_view c.args.flags) ≡ true = sym c.allows_volume_flags.ensures ∙ c.if-not-allows_volume_flags.false in
    let number : c.in_ok-number.number ≡ free_entry_index c.self.inside.handles.items = c.in_ok-number.ensures.is ∙ ap (λ (hs : List (Option Handle)). free_entry_index hs) (c.deref.ensures.value ∙ c.reserve_entry.ensures.same) in
    call_in_parts start c.args.self.now new (Open c.args.path.now (flags_view c.args.flags)) (Ok (ops.Opened c.in_ok-number.number)) c.self.view_is c.in_ok-check_not_failed.ensures.sound (λ sound.
    open_done start new c.args.path.now (flags_view c.args.flags) c.in_ok-number.number allowed number
    (opened_by start new c.args.path.now c.in_ok-own_path.own_path.items (flags_view c.args.flags) (flags_view c.session_flags.result) c.in_ok-size.size c.in_ok-number.number c.open_node-node.result c.truncates.result
    c.reserve_entry-2.new.entries.items c.reserve_entry.new.entries.items c.new_handle.result c.in_ok-own_path.ensures.are c.reserve_entry-2.ensures.same c.reserve_entry.ensures.same c.truncates.ensures c.session_flags.ensures number c.open_node-node.ensures.number c.open_node-node.ensures.nodes c.new_handle.ensures c.put_entry.ensures sound c.in_ok-size.ensures.found))

pub invariant_of-self-2 : goal.invariant_of-self-2
invariant_of-self-2 g c =
    let start : VolumeView = record { session = c.self.inside.session; nodes = c.self.inside.nodes.items; handles = c.self.inside.handles.items } in
    let new : VolumeView = record { session = c.find_file.new.session; nodes = c.open_node-node.new.nodes.items; handles = c.put_entry.new.entries.items } in
    let number : c.in_ok-number.number ≡ free_entry_index c.self.inside.handles.items = c.in_ok-number.ensures.is ∙ ap (λ (hs : List (Option Handle)). free_entry_index hs) (c.deref.ensures.value ∙ c.reserve_entry.ensures.same) in
    of_whole start c.args.self.now c.self.view_is (λ v. IsSoundIfWorking new) (λ sound works.
    sound_opened start new c.args.path.now (flags_view c.args.flags) sound
    (opened_by start new c.args.path.now c.in_ok-own_path.own_path.items (flags_view c.args.flags) (flags_view c.session_flags.result) c.in_ok-size.size c.in_ok-number.number c.open_node-node.result c.truncates.result
    c.reserve_entry-2.new.entries.items c.reserve_entry.new.entries.items c.new_handle.result c.in_ok-own_path.ensures.are c.reserve_entry-2.ensures.same c.reserve_entry.ensures.same c.truncates.ensures c.session_flags.ensures number c.open_node-node.ensures.number c.open_node-node.ensures.nodes c.new_handle.ensures c.put_entry.ensures sound c.in_ok-size.ensures.found)) c.in_ok-check_not_failed.ensures.sound
