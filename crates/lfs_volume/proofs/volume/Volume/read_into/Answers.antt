use Rattle.std.proofs.Common.{refl, sym, ap, subst, ◌∙◌, ◌≡◌, ◌+◌, arith, length, List, ℕ, false, Ok}
use Rattle.std.specs.Prelude.{◌++◌, drop, take}
use Rattle.std.proofs.lemmas.List.{take-append-le, take_all}
use Rattle.lfs_model.specs.session.Operations as ops
use Rattle.lfs_volume.specs.Calls.{Read}
use Rattle.lfs_volume.specs.Volume.{VolumeView, entry_at}
use Rattle.lfs_volume.specs.VolumeCalls.{IsReadyToRead}
use Rattle.lfs_volume.proofs.Soundness.{handles_move, sound_moved}
use Rattle.lfs_volume.proofs.VolumeSteps.{read_done, working_call}
use Rattle.lfs_volume.proofs.volume.Volume.read_into.Goals as goal

taken : (bytes rest buf : List ℕ) → buf ≡ bytes ++ rest → take (length bytes) buf ≡ bytes
taken bytes rest buf e = ap (take (length bytes)) e ∙ take-append-le (length bytes) bytes rest (omega arith) ∙ take_all (length bytes) bytes (omega arith)

pub returns-clause-call : goal.returns-clause-call
returns-clause-call g c =
    let mid : VolumeView = record { session = c.self.inside.session; nodes = c.self.inside.nodes.items; handles = c.self.inside.handles.items } in
    let new : VolumeView = record { session = c.self.inside.session; nodes = c.self.inside.nodes.items; handles = c.set_position.new.handles.items } in
    let ready = subst (IsReadyToRead c.args.self.now c.args.handle c.in_ok-found.found) (sym c.self.view_is) c.in_ok-found.ensures.found in
    let same = taken c.bytes_at-bytes.result.now (drop (length c.bytes_at-bytes.result.now) c.args.buf.now) c.copy_into.new.buf c.copy_into.ensures in
    working_call c.args.self.now new (Read c.args.handle (length c.args.buf.now)) (Ok (ops.Bytes (take (length c.bytes_at-bytes.result.now) c.copy_into.new.buf))) ready.sound.idle.works
    (read_done c.args.self.now mid new c.args.handle (length c.args.buf.now) (c.in_ok-found.found.position + length c.bytes_at-bytes.result.now) c.in_ok-found.found (take (length c.bytes_at-bytes.result.now) c.copy_into.new.buf) ready.sound ready
    (λ n e. same ∙ c.bytes_at-bytes.ensures.are n (sym (ap (λ (v : VolumeView). entry_at v.nodes c.in_ok-found.found.node) c.self.view_is) ∙ e)) (ap (λ (bs : List ℕ). c.in_ok-found.found.position + length bs) (sym same)) refl refl c.set_position.ensures)

pub invariant_of-self : goal.invariant_of-self
invariant_of-self g c works =
    let mid : VolumeView = record { session = c.self.inside.session; nodes = c.self.inside.nodes.items; handles = c.self.inside.handles.items } in
    let new : VolumeView = record { session = c.self.inside.session; nodes = c.self.inside.nodes.items; handles = c.set_position.new.handles.items } in
    sound_moved mid new (c.self.invariant works) refl refl (handles_move mid.handles new.handles c.args.handle (c.in_ok-found.found.position + length c.bytes_at-bytes.result.now) c.set_position.ensures)
