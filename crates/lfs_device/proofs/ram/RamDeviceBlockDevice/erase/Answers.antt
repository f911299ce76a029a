use Rattle.std.proofs.Common.{◌≡◌, ◌∙◌, ap}
use Rattle.lfs_model.specs.format.Blocks.{cut}
use Rattle.lfs_model.proofs.Cuts.{HasBlockSizes-cut}
use Rattle.lfs_model.proofs.Conformance.{conforms_erase, conforms_next}
use Rattle.lfs_device.specs.Erased.{erased_range, blocks_after_erase}
use Rattle.lfs_device.specs.RamDevice.{ram_blocks}
use Rattle.lfs_device.proofs.Erasures.{cut-erased, SameExcept-erased, block_bytes-erased}
use Rattle.lfs_device.proofs.Newest.{newest_call}
use Rattle.lfs_device.proofs.Premises.{meets_erase, premises_after}
use Rattle.lfs_device.proofs.ram.RamDeviceBlockDevice.erase.Goals as goal

-- the blocks after the erase
after : (c : goal.After-self-1) → cut c.args.self.now.geometry.block_size c.args.self.now.geometry.block_count c.fill_erased.new.all.items
    ≡ blocks_after_erase c.args.self.now.erased c.args.self.now.geometry.block_size (ram_blocks c.args.self.now) c.args.block
after c =
    let d = c.args.self.now in
    ap (cut d.geometry.block_size d.geometry.block_count) (c.fill_erased.ensures.erased ∙ ap (λ at. erased_range d.erased d.bytes.items at d.geometry.block_size) c.byte_index-start.ensures)
    ∙ cut-erased d.erased d.geometry.block_size d.geometry.block_count d.bytes.items c.args.block d.size c.requires

pub returns-clause-bytes : goal.returns-clause-bytes
returns-clause-bytes c =
    let d = c.args.self.now in
    rw (after c) (block_bytes-erased d.erased d.geometry.block_size d.geometry.block_count (ram_blocks d) c.args.block (HasBlockSizes-cut d.geometry.block_size d.geometry.block_count d.bytes.items d.size) c.requires)

pub returns-clause-others : goal.returns-clause-others
returns-clause-others c =
    let d = c.args.self.now in
    rw (after c) (SameExcept-erased d.erased d.geometry.block_size d.geometry.block_count (ram_blocks d) c.args.block (HasBlockSizes-cut d.geometry.block_size d.geometry.block_count d.bytes.items d.size) c.requires)

pub returns-clause-history : goal.returns-clause-history
returns-clause-history c = rw (after c) c.with_ghost_history-trace.ensures

pub invariant_of-self-clause-newest : goal.invariant_of-self-clause-newest
invariant_of-self-clause-newest c =
    let d = c.args.self.now in
    newest_call _ _ _ _ _ _ _ c.with_ghost_history-trace.ensures
    (ap (cut d.geometry.block_size d.geometry.block_count) (c.fill_erased.ensures.erased ∙ ap (λ at. erased_range d.erased d.bytes.items at d.geometry.block_size) c.byte_index-start.ensures)
    ∙ cut-erased d.erased d.geometry.block_size d.geometry.block_count d.bytes.items c.args.block d.size c.requires)

pub invariant_of-self-clause-conforms : goal.invariant_of-self-clause-conforms
invariant_of-self-clause-conforms c =
    let d = c.args.self.now in
    let shape = HasBlockSizes-cut d.geometry.block_size d.geometry.block_count d.bytes.items d.size in
    conforms_next c.with_ghost_history-trace.ensures (conforms_erase _ _ _ _ (SameExcept-erased d.erased d.geometry.block_size d.geometry.block_count (ram_blocks d) c.args.block shape c.requires)) d.conforms

pub invariant_of-self-clause-premises : goal.invariant_of-self-clause-premises
invariant_of-self-clause-premises c =
    let d = c.args.self.now in
    let shape = HasBlockSizes-cut d.geometry.block_size d.geometry.block_count d.bytes.items d.size in
    premises_after c.with_ghost_history-trace.ensures
    (meets_erase d.erased c.args.block _ _ c.fill_erased.ensures.by_byte (block_bytes-erased d.erased d.geometry.block_size d.geometry.block_count (ram_blocks d) c.args.block shape c.requires)) d.premises
