use Rattle.std.proofs.Common.{rules, ℕ, ◌+◌, ◌-◌, List, refl, ap, ◌∙◌, subst, arith}
use Rattle.lfs_file.proofs.Common.{err_from_is_err_and, Blocks, growing_size, stored_list_bytes, CanEndUnfinished, unfinished_bytes}
use Rattle.lfs_device.specs.declared.geometry.Geometry.{Geometry}
use Rattle.lfs_file.proofs.Owning.{list_from}
use Rattle.lfs_file.proofs.ContentsCalled.{writes_as, writes_fail, writes_of_reads, writes_on}
use Rattle.lfs_file.proofs.Flights.{length-base, part_fits}
use Rattle.lfs_file.proofs.ContentsMemories.{lengthened}
use Rattle.lfs_file.proofs.Spared.{KeepsUsedBlocks-refl}
use Rattle.lfs_file.proofs.new_sizes.fill_finished_list.Goals as goal

pub write_zeros-requires : goal.write_zeros-requires
write_zeros-requires g c = record {
  begun = search rules;
  small =
      let at = (c.in_ok-begun.ensures.begun c.args.map.now c.requires.stored).size in
      let longer = c.requires.room.longer in
      let small = c.requires.room.small in
      omega arith;
  room =
      let hand = c.in_ok-begun.begun in
      let at = (c.in_ok-begun.ensures.begun c.args.map.now c.requires.stored).size in
      let longer = c.requires.room.longer in
      part_fits (g.D.BlockDevice.geometry c.args.dev.now) (g.D.BlockDevice.geometry c.start_draft.new.dev) hand.base c.args.stored _ _ _ _ (growing_size hand.list + (c.args.size - c.args.stored.size)) c.args.size
      c.start_draft.ensures.device.geometry c.in_ok-begun.ensures.base (omega arith) refl refl c.requires.room.room;
}

pub returns-in_err-begun-clause-writing : goal.returns-in_err-begun-clause-writing
returns-in_err-begun-clause-writing g c =
    let p = err_from_is_err_and c.from_residual.result c.from_residual.ensures.1 in
    rw (p.1, p.2) (writes_as g.D.BlockDevice (writes_of_reads g.D.BlockDevice (KeepsUsedBlocks-refl c.args.map.now) c.start_draft.ensures.device c.in_err-begun.ensures.reports))

pub returns-in_err-write_zeros-clause-writing : goal.returns-in_err-write_zeros-clause-writing
returns-in_err-write_zeros-clause-writing g c =
    let p = err_from_is_err_and c.from_residual-in_err-write_zeros.result c.from_residual-in_err-write_zeros.ensures.1 in
    let first = writes_of_reads g.D.BlockDevice (KeepsUsedBlocks-refl c.args.map.now) c.start_draft.ensures.device c.in_ok-begun.ensures.reports in
    rw (p.1, p.2) (writes_fail g.D.BlockDevice first c.write_zeros.ensures.map c.write_zeros.ensures.device c.in_err-write_zeros.ensures.reports)

pub returns-clause-writing : goal.returns-clause-writing
returns-clause-writing g c =
    let first = writes_of_reads g.D.BlockDevice (KeepsUsedBlocks-refl c.args.map.now) c.start_draft.ensures.device c.in_ok-begun.ensures.reports in
    writes_on g.D.BlockDevice first c.write_zeros.ensures.map c.write_zeros.ensures.device c.in_ok-write_zeros.ensures.reports

pub returns-clause-filled : goal.returns-clause-filled
returns-clause-filled g c =
    let stored = c.args.stored in
    let d : Blocks = g.D.BlockDevice.blocks c.args.dev.now in
    let now : Geometry = g.D.BlockDevice.geometry c.args.dev.now in
    let old : List ℕ = stored_list_bytes d now.block_size stored in
    let hand = c.in_ok-begun.begun in
    let read = c.start_draft.ensures.device in
    let at = c.in_ok-begun.ensures.begun c.args.map.now c.requires.stored in
    let longer = c.requires.room.longer in
    let sum = at.size in
    let zeroed = c.in_ok-write_zeros.ensures.zeroed in
    let end = zeroed.at.size in
    let all = length-base d now.block_size now.block_count stored.head stored.size now.valid.no_smaller (g.met.D.BlockDevice.shape c.args.dev.now) c.requires.stored.base in
    record {
      going = subst (λ (k : Geometry). CanEndUnfinished c.write_zeros.new.map (g.D.BlockDevice.blocks c.write_zeros.new.dev) k c.write_zeros.new.hand) read.geometry (zeroed.going (omega arith));
      size = omega arith;
      bytes = lengthened old (unfinished_bytes (g.D.BlockDevice.blocks c.start_draft.new.dev) hand) _ stored.size (growing_size hand.list) c.args.size all (omega arith) (ap (λ (x : Blocks). unfinished_bytes x hand) read.same ∙ at.bytes) sum zeroed.at.bytes;
    }

pub returns-clause-base : goal.returns-clause-base
returns-clause-base g c =
    let read = c.start_draft.ensures.device in
    list_from _ _ _ _ _ _ _ _ read.geometry read.same c.in_ok-begun.ensures.base c.write_zeros.ensures.base
