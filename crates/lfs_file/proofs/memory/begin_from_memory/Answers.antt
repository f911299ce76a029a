use Rattle.std.proofs.Common.{rules, ℕ, ◌≡◌, ◌+◌, List, length, min, refl, sym, ap, ◌∙◌, arith}
use Rattle.lfs_file.proofs.Common.{length-take-le, err_from_is_err_and, Blocks, written_contents, buffered_bytes}
use Rattle.lfs_device.specs.declared.geometry.Geometry.{Geometry}
use Rattle.lfs_file.proofs.ContentsCalled.{quiet, reported_as, writes_well}
use Rattle.lfs_file.proofs.ContentsMemories.{held_size, no_base_fits, wrote_cut}
use Rattle.lfs_file.proofs.memory.begin_from_memory.Goals as goal

pub fill_and_write-requires : goal.fill_and_write-requires
fill_and_write-requires g c = record {
  begun =
      let d : Blocks = g.D.BlockDevice.blocks c.args.dev.now in
      let quiet = c.requires.quiet in
      (c.list_without_base-hand.ensures.begun c.args.map.now d (g.D.BlockDevice.geometry c.args.dev.now)
      (record { idle = quiet.idle; resting = record { geometry = quiet.resting.geometry ∙ sym ((c.truncate_buffered.ensures.holds d).geometry); held = c.truncate_buffered.ensures.held } })).begun;
  at =
      let d : Blocks = g.D.BlockDevice.blocks c.args.dev.now in
      let quiet = c.requires.quiet in
      let at = (c.list_without_base-hand.ensures.begun c.args.map.now d (g.D.BlockDevice.geometry c.args.dev.now)
      (record { idle = quiet.idle; resting = record { geometry = quiet.resting.geometry ∙ sym ((c.truncate_buffered.ensures.holds d).geometry); held = c.truncate_buffered.ensures.held } })).size in
      let none = c.list_without_base-hand.ensures.base.0 in
      let size = c.size.ensures in
      let all = held_size c.args.list quiet.resting.held in
      let keep = c.min-keep.ensures in
      let cut = ap length c.truncate_buffered.ensures.rest ∙ length-take-le c.min-keep.result (buffered_bytes c.args.list) (omega arith) in
      omega arith;
  some = search rules;
  small = search rules;
  room =
      let now : Geometry = g.D.BlockDevice.geometry c.args.dev.now in
      let most : ℕ = c.args.place + length c.args.bytes.now in
      no_base_fits now now c.list_without_base-hand.result.base _ _ _ _ most most refl c.list_without_base-hand.ensures.base.1 (omega arith) refl refl (let room = c.requires.room.room in omega arith);
}

pub returns-clause-written : goal.returns-clause-written
returns-clause-written g c =
    let d : Blocks = g.D.BlockDevice.blocks c.args.dev.now in
    let quiet = c.requires.quiet in
    let at = (c.list_without_base-hand.ensures.begun c.args.map.now d (g.D.BlockDevice.geometry c.args.dev.now)
    (record { idle = quiet.idle; resting = record { geometry = quiet.resting.geometry ∙ sym ((c.truncate_buffered.ensures.holds d).geometry); held = c.truncate_buffered.ensures.held } })).bytes in
    let wrote = c.in_ok-fill_and_write.ensures.written in
    let size = c.size.ensures in
    let all = held_size c.args.list quiet.resting.held in
    let keep : c.min-keep.result ≡ min c.args.place (length (buffered_bytes c.args.list)) = (let k = c.min-keep.ensures in omega arith) in
    record {
      going = wrote.going;
      size = wrote.size;
      bytes = wrote.bytes ∙ ap (λ (l : List ℕ). written_contents l c.args.place c.args.bytes.now) (at ∙ c.truncate_buffered.ensures.rest) ∙ wrote_cut (buffered_bytes c.args.list) c.args.bytes.now c.args.place c.min-keep.result keep c.requires.behind;
    }

pub returns-in_err-fill_and_write-clause-writing : goal.returns-in_err-fill_and_write-clause-writing
returns-in_err-fill_and_write-clause-writing g c =
    let p = err_from_is_err_and c.from_residual.result c.from_residual.ensures.1 in
    let reports = c.in_err-fill_and_write.ensures.reports in
    rw (p.1, p.2) (record {
      map = c.fill_and_write.ensures.map;
      device = c.fill_and_write.ensures.device;
      reports = record { faults = reported_as g.D.BlockDevice reports.faults; errors = reports.errors };
    })

pub returns-clause-writing : goal.returns-clause-writing
returns-clause-writing g c = writes_well g.D.BlockDevice c.fill_and_write.ensures.map c.fill_and_write.ensures.device (quiet g.D.BlockDevice c.in_ok-fill_and_write.ensures.reports.faults)
