use Rattle.std.proofs.Common.{◌+◌, List, ℕ, length, ◌∙◌, refl, ap}
use Rattle.std.specs.Prelude.{slice_range}
use Rattle.lfs_model.proofs.Cuts.{slice_range-block_bytes}
use Rattle.lfs_model.proofs.Conformance.{conforms_read, conforms_next}
use Rattle.example.proofs.own_device.ChipBlockDevice.read.Goals as goal

pub returns-clause-bytes : goal.returns-clause-bytes
returns-clause-bytes c =
    let d = c.args.self.now in
    let n = length c.args.buf.now in
    c.copy_from_slice.ensures.after
    ∙ ap (λ (b : List ℕ). slice_range b c.position-start.result (c.position-start.result + n)) c.deref.ensures.value
    ∙ ap (λ at. slice_range d.bytes.items at (at + n)) c.position-start.ensures
    ∙ slice_range-block_bytes d.geometry.block_size d.geometry.block_count d.bytes.items c.args.block c.args.off n c.requires.within.in_device c.requires.within.in_block

pub invariant_of-self-clause-conforms : goal.invariant_of-self-clause-conforms
invariant_of-self-clause-conforms c = conforms_next c.with_ghost_history-self.ensures (conforms_read _ _ _ _ _ _ refl) c.args.self.now.conforms
