use Rattle.std.proofs.Common.{◌≡◌, ◌+◌, ◌-◌, length, replicate, refl, ap, ◌∙◌, arith}
use Rattle.lfs_file.proofs.Common.{err_from_is_err_and, Blocks, written_contents, growing_size, buffered_bytes, unfinished_bytes}
use Rattle.lfs_device.specs.declared.geometry.Geometry.{Geometry}
use Rattle.lfs_file.proofs.ContentsCalled.{quiet, reported_as, writes_well}
use Rattle.lfs_file.proofs.ContentsMemories.{held_size, lengthened, no_base_fits}
use Rattle.lfs_file.proofs.new_sizes.fill_memory_contents.Goals as goal

pub write_zeros-requires : goal.write_zeros-requires
write_zeros-requires g c = record {
  begun = (c.list_without_base-hand.ensures.begun c.args.map.now (g.D.BlockDevice.blocks c.args.dev.now) (g.D.BlockDevice.geometry c.args.dev.now) c.requires.quiet).begun;
  small =
      let at = (c.list_without_base-hand.ensures.begun c.args.map.now (g.D.BlockDevice.blocks c.args.dev.now) (g.D.BlockDevice.geometry c.args.dev.now) c.requires.quiet).size in
      let all = held_size c.args.list c.requires.quiet.resting.held in
      let longer = c.requires.room.longer in
      let small = c.requires.room.small in
      let size = c.size.ensures in
      omega arith;
  room =
      let now : Geometry = g.D.BlockDevice.geometry c.args.dev.now in
      let hand = c.list_without_base-hand.result in
      let at = (c.list_without_base-hand.ensures.begun c.args.map.now (g.D.BlockDevice.blocks c.args.dev.now) now c.requires.quiet).size in
      let all = held_size c.args.list c.requires.quiet.resting.held in
      let longer = c.requires.room.longer in
      let size = c.size.ensures in
      no_base_fits now now hand.base _ _ _ _ (growing_size hand.list + (c.args.size - c.size.result)) c.args.size refl c.list_without_base-hand.ensures.base.1 (omega arith) refl refl (let room = c.requires.room.room in omega arith);
}

pub returns-clause-filled : goal.returns-clause-filled
returns-clause-filled g c =
    let d : Blocks = g.D.BlockDevice.blocks c.args.dev.now in
    let hand = c.list_without_base-hand.result in
    let old = buffered_bytes c.args.list in
    let at = c.list_without_base-hand.ensures.begun c.args.map.now d (g.D.BlockDevice.geometry c.args.dev.now) c.requires.quiet in
    let all = held_size c.args.list c.requires.quiet.resting.held in
    let longer = c.requires.room.longer in
    let size = c.size.ensures in
    let sum = at.size in
    let zeroed = c.in_ok-write_zeros.ensures.zeroed in
    let end = zeroed.at.size in
    let gap : c.args.size - c.size.result ≡ c.args.size - length old = omega arith in
    record {
      going = zeroed.going (omega arith);
      size = omega arith;
      bytes = lengthened old (unfinished_bytes d hand) _ (length old) (growing_size hand.list) c.args.size refl (omega arith) at.bytes sum
          (zeroed.at.bytes ∙ ap (λ n. written_contents (unfinished_bytes d hand) (growing_size hand.list) (replicate n 0)) gap);
    }

pub returns-in_err-write_zeros-clause-writing : goal.returns-in_err-write_zeros-clause-writing
returns-in_err-write_zeros-clause-writing g c =
    let p = err_from_is_err_and c.from_residual.result c.from_residual.ensures.1 in
    let reports = c.in_err-write_zeros.ensures.reports in
    rw (p.1, p.2) (record { map = c.write_zeros.ensures.map; device = c.write_zeros.ensures.device; reports = record { faults = reported_as g.D.BlockDevice reports.faults; errors = reports.errors } })

pub returns-clause-writing : goal.returns-clause-writing
returns-clause-writing g c = writes_well g.D.BlockDevice c.write_zeros.ensures.map c.write_zeros.ensures.device (quiet g.D.BlockDevice c.in_ok-write_zeros.ensures.reports.faults)
