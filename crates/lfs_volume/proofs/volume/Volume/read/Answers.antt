use Rattle.std.proofs.Common.{refl, sym, ap, subst, ◌∙◌, ◌≡◌, ◌+◌, arith, false, Ok}
use Rattle.lfs_fs.specs.Replies.{reply_from}
use Rattle.lfs_model.specs.session.Operations as ops
use Rattle.lfs_volume.specs.Calls.{Read}
use Rattle.lfs_volume.specs.Volume.{VolumeView, entry_at}
use Rattle.lfs_volume.specs.VolumeCalls.{IsReadyToRead, IsVolumeCall}
use Rattle.lfs_volume.proofs.Soundness.{handles_move, sound_moved}
use Rattle.lfs_volume.proofs.VolumeSteps.{ended_call, no_memory, passed_error, read_done, wants_memory, working_call}
use Rattle.lfs_volume.proofs.volume.Volume.read.Goals as goal

pub returns-in_err-found : goal.returns-in_err-found
returns-in_err-found g c =
    passed_error (λ v. ops.Bytes v.items) c.from_residual.result _ (λ z. IsVolumeCall c.args.self.now (Read c.args.handle c.args.count) z c.find_readable_handle.new.self) c.from_residual.ensures.1 (c.in_err-found.ensures.ended c.args.count)

pub returns-in_err-bytes : goal.returns-in_err-bytes
returns-in_err-bytes g c =
    let ready = c.in_ok-found.ensures.found in
    working_call c.args.self.now c.find_readable_handle.new.self (Read c.args.handle c.args.count) (reply_from (λ v. ops.Bytes v.items) c.from_residual-in_err-bytes.result) ready.sound.idle.works
    (ended_call (λ v. ops.Bytes v.items) c.from_residual-in_err-bytes.result _ c.args.self.now c.find_readable_handle.new.self (Read c.args.handle c.args.count) c.from_residual-in_err-bytes.ensures.1
    (no_memory _ c.args.self.now c.find_readable_handle.new.self (Read c.args.handle c.args.count) c.in_err-bytes.ensures.none (wants_memory c.args.self.now c.find_readable_handle.new.self (Read c.args.handle c.args.count) c.in_ok-found.found.node ready.loaded ready.handles refl)))

pub returns : goal.returns
returns g c =
    let mid : VolumeView = record { session = c.self.inside.session; nodes = c.self.inside.nodes.items; handles = c.self.inside.handles.items } in
    let new : VolumeView = record { session = c.self.inside.session; nodes = c.self.inside.nodes.items; handles = c.set_position.new.handles.items } in
    let ready = subst (IsReadyToRead c.args.self.now c.args.handle c.in_ok-found.found) (sym c.self.view_is) c.in_ok-found.ensures.found in
    working_call c.args.self.now new (Read c.args.handle c.args.count) (Ok (ops.Bytes c.in_ok-bytes.bytes.items)) ready.sound.idle.works
    (read_done c.args.self.now mid new c.args.handle c.args.count (c.in_ok-found.found.position + c.len.result) c.in_ok-found.found c.in_ok-bytes.bytes.items ready.sound ready
    (λ n e. c.in_ok-bytes.ensures.are ∙ c.bytes_at.ensures.are n (sym (ap (λ (v : VolumeView). entry_at v.nodes c.in_ok-found.found.node) c.self.view_is) ∙ e)) (let l = c.len.ensures in let k = c.in_ok-bytes.bytes.ok.0 in omega arith) refl refl c.set_position.ensures)

pub invariant_of-self : goal.invariant_of-self
invariant_of-self g c works =
    let mid : VolumeView = record { session = c.self.inside.session; nodes = c.self.inside.nodes.items; handles = c.self.inside.handles.items } in
    let new : VolumeView = record { session = c.self.inside.session; nodes = c.self.inside.nodes.items; handles = c.set_position.new.handles.items } in
    sound_moved mid new (c.self.invariant works) refl refl (handles_move mid.handles new.handles c.args.handle (c.in_ok-found.found.position + c.len.result) c.set_position.ensures)
