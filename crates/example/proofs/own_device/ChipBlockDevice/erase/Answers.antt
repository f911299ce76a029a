use Rattle.std.proofs.Common.{◌≡◌, ◌<◌, ◌+◌, ◌*◌, ℕ, List, length, replicate, ◌∙◌, ap, arith}
use Rattle.std.proofs.lemmas.List.{length-replicate}
use Rattle.lfs_model.specs.format.Blocks.{SameExcept, overwritten_at, cut, programmed}
use Rattle.lfs_model.proofs.Cuts.{HasBlockSizes-cut, cut-overwritten_at, size_fits}
use Rattle.lfs_model.proofs.Conformance.{conforms_erase, conforms_next}
use Rattle.lfs_model.proofs.Overwrites.{length-overwritten, SameExcept-programmed}
use Rattle.lfs_device.proofs.Newest.{newest_call}
use Rattle.example.proofs.own_device.ChipBlockDevice.erase.Goals as goal

-- the blocks after an erase
after : (size count block at : ℕ) (bytes new : List ℕ) → length bytes ≡ size * count → block < count → new ≡ overwritten_at bytes at (replicate size 255) → at ≡ size * block + 0
    → cut size count new ≡ programmed (cut size count bytes) block 0 (replicate size 255)
after size count block at bytes new is lt filled from =
    ap (cut size count) (filled ∙ ap (λ at. overwritten_at bytes at (replicate size 255)) from)
    ∙ cut-overwritten_at size count bytes block 0 (replicate size 255) is lt (omega (arith, length-replicate {A = ℕ} size 255))

-- no other block is changed
alone : (size count block : ℕ) (bytes : List ℕ) → length bytes ≡ size * count → block < count → SameExcept block (cut size count bytes) (programmed (cut size count bytes) block 0 (replicate size 255))
alone size count block bytes is lt =
    let shape = HasBlockSizes-cut size count bytes is in
    SameExcept-programmed (cut size count bytes) block 0 (replicate size 255) (omega (arith, shape.count)) (omega (arith, length-replicate {A = ℕ} size 255, shape.sizes block lt))

pub invariant_of-self-clause-size : goal.invariant_of-self-clause-size
invariant_of-self-clause-size c =
    let d = c.args.self.now in
    let size = d.geometry.block_size in
    let room = size_fits size d.geometry.block_count c.args.block (length d.bytes.items) c.requires d.size in
    ap length c.fill_with_erased_bytes.ensures.filled ∙ length-overwritten d.bytes.items c.position-start.result (replicate size 255) (omega (arith, room, length-replicate {A = ℕ} size 255)) ∙ d.size

pub returns-clause-others : goal.returns-clause-others
returns-clause-others c =
    let d = c.args.self.now in
    rw (after d.geometry.block_size d.geometry.block_count c.args.block _ d.bytes.items _ d.size c.requires c.fill_with_erased_bytes.ensures.filled c.position-start.ensures)
    (alone d.geometry.block_size d.geometry.block_count c.args.block d.bytes.items d.size c.requires)

pub returns-clause-history : goal.returns-clause-history
returns-clause-history c =
    let d = c.args.self.now in
    rw (after d.geometry.block_size d.geometry.block_count c.args.block _ d.bytes.items _ d.size c.requires c.fill_with_erased_bytes.ensures.filled c.position-start.ensures) c.with_ghost_history-trace.ensures

pub invariant_of-self-clause-newest : goal.invariant_of-self-clause-newest
invariant_of-self-clause-newest c =
    let d = c.args.self.now in
    newest_call _ _ _ _ _ _ _ c.with_ghost_history-trace.ensures
    (after d.geometry.block_size d.geometry.block_count c.args.block _ d.bytes.items _ d.size c.requires c.fill_with_erased_bytes.ensures.filled c.position-start.ensures)

pub invariant_of-self-clause-conforms : goal.invariant_of-self-clause-conforms
invariant_of-self-clause-conforms c =
    let d = c.args.self.now in
    conforms_next c.with_ghost_history-trace.ensures (conforms_erase _ _ _ _ (alone d.geometry.block_size d.geometry.block_count c.args.block d.bytes.items d.size c.requires)) d.conforms
