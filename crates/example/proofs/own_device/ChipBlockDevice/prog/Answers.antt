use Rattle.std.proofs.Common.{rules, ◌≡◌, length, ◌∙◌, refl, ap, arith}
use Rattle.lfs_model.specs.format.Blocks.{Blocks, overwritten_at, cut, programmed}
use Rattle.lfs_model.proofs.Cuts.{HasBlockSizes-cut, cut-overwritten_at, size_fits}
use Rattle.lfs_model.proofs.Conformance.{conforms_program, conforms_next}
use Rattle.lfs_model.proofs.Overwrites.{length-overwritten, SameExcept-programmed}
use Rattle.lfs_device.proofs.Newest.{newest_call}
use Rattle.example.proofs.own_device.ChipBlockDevice.prog.Goals as goal

pub invariant_of-self-clause-size : goal.invariant_of-self-clause-size
invariant_of-self-clause-size c =
    let d = c.args.self.now in
    let room = size_fits d.geometry.block_size d.geometry.block_count c.args.block (length d.bytes.items) c.requires.can.in_device d.size in
    ap length c.overwrite_bytes.ensures ∙ length-overwritten d.bytes.items c.position-start.result c.args.bytes.now (omega (arith, room)) ∙ d.size

-- the blocks after the program
stored : (c : goal.After-self-1) → cut c.args.self.now.geometry.block_size c.args.self.now.geometry.block_count c.overwrite_bytes.new.all.items
    ≡ programmed (cut c.args.self.now.geometry.block_size c.args.self.now.geometry.block_count c.args.self.now.bytes.items) c.args.block c.args.off c.args.bytes.now
stored c =
    let d = c.args.self.now in
    ap (cut d.geometry.block_size d.geometry.block_count) (c.overwrite_bytes.ensures ∙ ap (λ at. overwritten_at d.bytes.items at c.args.bytes.now) c.position-start.ensures)
    ∙ cut-overwritten_at d.geometry.block_size d.geometry.block_count d.bytes.items c.args.block c.args.off c.args.bytes.now d.size c.requires.can.in_device c.requires.can.in_block

pub returns-clause-programs : goal.returns-clause-programs
returns-clause-programs c = record {
  ok = stored c;
  err = search rules;
  others =
      let d = c.args.self.now in
      let disk : Blocks = cut d.geometry.block_size d.geometry.block_count d.bytes.items in
      let shape = HasBlockSizes-cut d.geometry.block_size d.geometry.block_count d.bytes.items d.size in
      rw (stored c) (SameExcept-programmed disk c.args.block c.args.off c.args.bytes.now (omega (arith, shape.count)) (omega (arith, shape.sizes c.args.block c.requires.can.in_device)));
}

pub returns-clause-history : goal.returns-clause-history
returns-clause-history c = rw (stored c) c.with_ghost_history-trace.ensures

pub invariant_of-self-clause-newest : goal.invariant_of-self-clause-newest
invariant_of-self-clause-newest c =
    let d = c.args.self.now in
    newest_call _ _ _ _ _ _ _ c.with_ghost_history-trace.ensures
    (ap (cut d.geometry.block_size d.geometry.block_count) (c.overwrite_bytes.ensures ∙ ap (λ at. overwritten_at d.bytes.items at c.args.bytes.now) c.position-start.ensures)
    ∙ cut-overwritten_at d.geometry.block_size d.geometry.block_count d.bytes.items c.args.block c.args.off c.args.bytes.now d.size c.requires.can.in_device c.requires.can.in_block)

pub invariant_of-self-clause-conforms : goal.invariant_of-self-clause-conforms
invariant_of-self-clause-conforms c =
    let d = c.args.self.now in
    let disk : Blocks = cut d.geometry.block_size d.geometry.block_count d.bytes.items in
    let shape = HasBlockSizes-cut d.geometry.block_size d.geometry.block_count d.bytes.items d.size in
    let same = SameExcept-programmed disk c.args.block c.args.off c.args.bytes.now (omega (arith, shape.count)) (omega (arith, shape.sizes c.args.block c.requires.can.in_device)) in
    conforms_next c.with_ghost_history-trace.ensures (conforms_program _ _ _ _ _ _ (λ ok. refl) same) d.conforms
