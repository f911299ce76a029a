use Rattle.std.proofs.Common.{refl, sym, subst, ◌<◌, ◌+◌, arith, length, Ok}
use Rattle.lfs_device.specs.declared.error.Error.TheVariants as error
use Rattle.lfs_fs.specs.Replies.{reply_from}
use Rattle.lfs_model.specs.session.Operations as ops
use Rattle.lfs_volume.specs.Calls.{Write}
use Rattle.lfs_volume.specs.Volume.{VolumeView}
use Rattle.lfs_volume.specs.VolumeCalls.{IsAllowedWriteOffset, IsHandleLookup, IsSoundIfWorking, IsVolumeCall}
use Rattle.lfs_volume.proofs.Soundness.{failed_not_working, handles_move, handles_stay, sound_loaded, sound_written}
use Rattle.lfs_volume.proofs.VolumeSteps.{call_in_parts, ended_call, failed_parts, loaded_kept, no_handle, no_memory, not_else, not_then, of_whole, passed_error, passed_refusal, wants_memory, write_may, working_call, write_done, write_forbidden, write_none, write_nothing, write_too_long}
use Rattle.lfs_volume.proofs.volume.Volume.write.Goals as goal

pub returns-in_err-found : goal.returns-in_err-found
returns-in_err-found g c =
    passed_error ops.Count c.from_residual.result _ (λ z. IsVolumeCall c.args.self.now (Write c.args.handle c.args.bytes.now) z c.args.self.now) c.from_residual.ensures.1
    (no_handle _ c.args.self.now c.args.handle (Write c.args.handle c.args.bytes.now) c.in_err-found.ensures.found (λ around none. write_none c.args.self.now c.args.handle c.args.bytes.now around none))

pub returns-then-not-found : goal.returns-then-not-found
returns-then-not-found g c =
    let sound = c.in_ok-found.ensures.sound in
    working_call c.args.self.now c.args.self.now (Write c.args.handle c.args.bytes.now) (Ok (ops.Refused ops.BadFile)) sound.idle.works (write_forbidden c.args.self.now c.args.handle c.args.bytes.now c.in_ok-found.found sound c.in_ok-found.ensures.found (not_then c.in_ok-found.found.writes c.if-not-found.true))

pub returns-then-bytes-eq0 : goal.returns-then-bytes-eq0
returns-then-bytes-eq0 g c =
    let sound = c.in_ok-found.ensures.sound in
    working_call c.args.self.now c.args.self.now (Write c.args.handle c.args.bytes.now) (Ok (ops.Count 0)) sound.idle.works (write_nothing c.args.self.now c.args.handle c.args.bytes.now c.in_ok-found.found sound c.in_ok-found.ensures.found (not_else c.in_ok-found.found.writes c.if-not-found.false) (omega arith))

pub returns-in_err-at : goal.returns-in_err-at
returns-in_err-at g c =
    let sound = c.in_ok-found.ensures.sound in
    let some : 0 < length c.args.bytes.now = omega arith in
    working_call c.args.self.now c.args.self.now (Write c.args.handle c.args.bytes.now) (reply_from ops.Count c.from_residual-in_err-at.result) sound.idle.works (
    ended_call ops.Count c.from_residual-in_err-at.result _ c.args.self.now c.args.self.now (Write c.args.handle c.args.bytes.now) c.from_residual-in_err-at.ensures.1
    (passed_refusal _ error.TooBig c.args.self.now c.args.self.now (Write c.args.handle c.args.bytes.now) c.in_err-at.ensures.long.0
    (write_too_long c.args.self.now c.args.handle c.args.bytes.now c.in_ok-found.found sound c.in_ok-found.ensures.found (not_else c.in_ok-found.found.writes c.if-not-found.false) some c.in_err-at.ensures.long.1)))

pub returns-in_err-load_node_at : goal.returns-in_err-load_node_at
returns-in_err-load_node_at g c =
    let sound = c.in_ok-found.ensures.sound in
    let new : VolumeView = record { session = c.load_node_at.new.session; nodes = c.load_node_at.new.nodes.items; handles = c.self.inside.handles.items } in
    working_call c.args.self.now new (Write c.args.handle c.args.bytes.now) (reply_from ops.Count c.from_residual-in_err-load_node_at.result) sound.idle.works (
    ended_call ops.Count c.from_residual-in_err-load_node_at.result _ c.args.self.now new (Write c.args.handle c.args.bytes.now) c.from_residual-in_err-load_node_at.ensures.1
    (failed_parts _ (record { session = c.self.inside.session; nodes = c.self.inside.nodes.items; handles = c.self.inside.handles.items }) c.args.self.now new (Write c.args.handle c.args.bytes.now) c.self.view_is (λ sound. c.in_err-load_node_at.ensures.failed sound.idle (λ n e. sound.nodes c.in_ok-found.found.node n e)) sound))

pub returns-in_err-write_at : goal.returns-in_err-write_at
returns-in_err-write_at g c =
    let start : VolumeView = record { session = c.self.inside.session; nodes = c.self.inside.nodes.items; handles = c.self.inside.handles.items } in
    let mid : VolumeView = record { session = c.load_node_at.new.session; nodes = c.load_node_at.new.nodes.items; handles = c.self.inside.handles.items } in
    let new : VolumeView = record { session = c.load_node_at.new.session; nodes = c.write_at.new.nodes.items; handles = c.self.inside.handles.items } in
    let found = subst (λ v. IsHandleLookup v c.args.handle (Ok c.in_ok-found.found)) (sym c.self.view_is) c.in_ok-found.ensures.found in
    let fits = subst (λ v. IsAllowedWriteOffset v c.in_ok-found.found (length c.args.bytes.now) c.in_ok-at.at) (sym c.self.view_is) c.in_ok-at.ensures.fits in
    call_in_parts start c.args.self.now new (Write c.args.handle c.args.bytes.now) (reply_from ops.Count c.from_residual-in_err-write_at.result) c.self.view_is c.in_ok-found.ensures.sound (λ sound.
    let loaded = c.in_ok-load_node_at.ensures.loaded sound.idle (λ n e. sound.nodes c.in_ok-found.found.node n e) in
    ended_call ops.Count c.from_residual-in_err-write_at.result _ start new (Write c.args.handle c.args.bytes.now) c.from_residual-in_err-write_at.ensures.1
    (no_memory _ start new (Write c.args.handle c.args.bytes.now) c.in_err-write_at.ensures.none
    (wants_memory start new (Write c.args.handle c.args.bytes.now) c.in_ok-found.found.node (loaded_kept start.session new.session start.nodes c.load_node_at.new.nodes.items new.nodes c.in_ok-found.found.node c.in_err-write_at.ensures.err loaded) refl
    (write_may start mid c.args.handle c.in_ok-at.at c.args.bytes.now c.in_ok-found.found sound found fits loaded c.in_err-write_at.ensures.full))))

pub returns : goal.returns
returns g c =
    let start : VolumeView = record { session = c.self.inside.session; nodes = c.self.inside.nodes.items; handles = c.self.inside.handles.items } in
    let mid : VolumeView = record { session = c.load_node_at.new.session; nodes = c.load_node_at.new.nodes.items; handles = c.self.inside.handles.items } in
    let new : VolumeView = record { session = c.load_node_at.new.session; nodes = c.write_at.new.nodes.items; handles = c.set_position.new.handles.items } in
    let found = subst (λ v. IsHandleLookup v c.args.handle (Ok c.in_ok-found.found)) (sym c.self.view_is) c.in_ok-found.ensures.found in
    let fits = subst (λ v. IsAllowedWriteOffset v c.in_ok-found.found (length c.args.bytes.now) c.in_ok-at.at) (sym c.self.view_is) c.in_ok-at.ensures.fits in
    let some : 0 < length c.args.bytes.now = omega arith in
    call_in_parts start c.args.self.now new (Write c.args.handle c.args.bytes.now) (Ok (ops.Count (length c.args.bytes.now))) c.self.view_is c.in_ok-found.ensures.sound (λ sound.
    write_done start mid new c.args.handle c.in_ok-at.at (c.in_ok-at.at + length c.args.bytes.now) c.args.bytes.now c.in_ok-found.found sound found (not_else c.in_ok-found.found.writes c.if-not-found.false) some fits (c.in_ok-load_node_at.ensures.loaded sound.idle (λ n e. sound.nodes c.in_ok-found.found.node n e)) refl c.in_ok-write_at.ensures.ok refl refl
    c.set_position.ensures)

pub invariant_of-self : goal.invariant_of-self
invariant_of-self g c =
    let start : VolumeView = record { session = c.self.inside.session; nodes = c.self.inside.nodes.items; handles = c.self.inside.handles.items } in
    let new : VolumeView = record { session = c.load_node_at.new.session; nodes = c.load_node_at.new.nodes.items; handles = c.self.inside.handles.items } in
    of_whole start c.args.self.now c.self.view_is (λ v. IsSoundIfWorking new) (λ sound works. absurd (failed_not_working _ start.session new.session (c.in_err-load_node_at.ensures.failed sound.idle (λ n e. sound.nodes c.in_ok-found.found.node n e)) works)) c.in_ok-found.ensures.sound

pub invariant_of-self-in_err-write_at : goal.invariant_of-self-in_err-write_at
invariant_of-self-in_err-write_at g c =
    let start : VolumeView = record { session = c.self.inside.session; nodes = c.self.inside.nodes.items; handles = c.self.inside.handles.items } in
    let mid : VolumeView = record { session = c.load_node_at.new.session; nodes = c.load_node_at.new.nodes.items; handles = c.self.inside.handles.items } in
    let new : VolumeView = record { session = c.load_node_at.new.session; nodes = c.write_at.new.nodes.items; handles = c.self.inside.handles.items } in
    let found = subst (λ v. IsHandleLookup v c.args.handle (Ok c.in_ok-found.found)) (sym c.self.view_is) c.in_ok-found.ensures.found in
    of_whole start c.args.self.now c.self.view_is (λ v. IsSoundIfWorking new) (λ sound works.
    sound_loaded start mid new c.args.handle c.in_ok-found.found sound found.1 (c.in_ok-load_node_at.ensures.loaded sound.idle (λ n e. sound.nodes c.in_ok-found.found.node n e)) refl c.in_err-write_at.ensures.err (handles_stay start.handles new.handles refl)) c.in_ok-found.ensures.sound

pub invariant_of-self-2 : goal.invariant_of-self-2
invariant_of-self-2 g c =
    let start : VolumeView = record { session = c.self.inside.session; nodes = c.self.inside.nodes.items; handles = c.self.inside.handles.items } in
    let mid : VolumeView = record { session = c.load_node_at.new.session; nodes = c.load_node_at.new.nodes.items; handles = c.self.inside.handles.items } in
    let new : VolumeView = record { session = c.load_node_at.new.session; nodes = c.write_at.new.nodes.items; handles = c.set_position.new.handles.items } in
    let found = subst (λ v. IsHandleLookup v c.args.handle (Ok c.in_ok-found.found)) (sym c.self.view_is) c.in_ok-found.ensures.found in
    let fits = subst (λ v. IsAllowedWriteOffset v c.in_ok-found.found (length c.args.bytes.now) c.in_ok-at.at) (sym c.self.view_is) c.in_ok-at.ensures.fits in
    let some : 0 < length c.args.bytes.now = omega arith in
    of_whole start c.args.self.now c.self.view_is (λ v. IsSoundIfWorking new) (λ sound works.
    sound_written start mid new c.args.handle c.in_ok-at.at c.args.bytes.now c.in_ok-found.found sound found.1 some fits (c.in_ok-load_node_at.ensures.loaded sound.idle (λ n e. sound.nodes c.in_ok-found.found.node n e)) c.in_ok-write_at.ensures.ok refl
    (handles_move start.handles new.handles c.args.handle (c.in_ok-at.at + length c.args.bytes.now) c.set_position.ensures)) c.in_ok-found.ensures.sound
