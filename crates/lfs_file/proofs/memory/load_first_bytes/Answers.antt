use Rattle.std.proofs.Common.{ℕ, ◌≡◌, ◌≤◌, ◌+◌, List, length, take, slice_range, refl, sym, ap, ◌∙◌, arith}
use Rattle.lfs_file.proofs.Common.{length-take-le, err_from_is_err_and, Blocks, growing_size, buffered_bytes, stored_list_bytes}
use Rattle.lfs_device.specs.declared.geometry.Geometry.{Geometry}
use Rattle.lfs_file.proofs.ContentsCalled.{not_read, quiet, read_on, reported_as, reported_on}
use Rattle.lfs_file.proofs.Copies.{not_corrupt}
use Rattle.lfs_file.proofs.Flights.{length-base}
use Rattle.lfs_file.proofs.ContentsMemories.{bytes_on, held_size, listed_on, loaded, part_read}
use Rattle.lfs_file.proofs.memory.load_first_bytes.Goals as goal

pub loading-init : goal.loading-init
loading-init g c =
    let d : Blocks = g.D.BlockDevice.blocks c.args.dev.now in
    let now : Geometry = g.D.BlockDevice.geometry c.args.dev.now in
    let size = held_size c.replace_buffered.new.self c.replace_buffered.ensures.held in
    let none = ap length c.replace_buffered.ensures.rest in
    let zero : growing_size c.replace_buffered.new.self ≡ 0 = omega arith in
    record {
      resting = record { geometry = sym ((c.replace_buffered.ensures.holds d).geometry ∙ (c.in_ok-list.ensures.started.grown d).geometry ∙ c.geometry.ensures); held = c.replace_buffered.ensures.held };
      bytes = c.replace_buffered.ensures.rest ∙ sym (ap (λ n. take n (stored_list_bytes d now.block_size c.args.stored)) zero);
      few = omega arith;
      device = not_read g.D.BlockDevice c.args.dev.now;
      quiet = refl;
    }

pub loading-preserved : goal.loading-preserved
loading-preserved g c =
    let inv = c.loading.invariant in
    let d : Blocks = g.D.BlockDevice.blocks c.args.dev.now in
    let now : Geometry = g.D.BlockDevice.geometry c.args.dev.now in
    let bytes : List ℕ = stored_list_bytes d now.block_size c.args.stored in
    let pos : ℕ = c.size-pos.result in
    let n : ℕ = c.in_ok-count.count in
    let part : ℕ = c.min-part.result in
    let at = c.size-pos.ensures in
    let few = c.min-part.ensures in
    let test = c.loading-test.true in
    let len = c.size.ensures in
    let within = c.requires.within in
    let below : pos ≤ c.args.keep = (let f = inv.few in omega arith) in
    let some : 1 ≤ c.args.stored.size = omega arith in
    let list = listed_on d (g.D.BlockDevice.blocks c.loading.dev) now (g.D.BlockDevice.geometry c.loading.dev) c.args.stored.head c.args.stored.size inv.device.same inv.device.geometry some c.requires.base in
    let read = c.in_ok-count.ensures.bytes list ∙ ap (λ (l : List ℕ). slice_range l pos (pos + n)) (bytes_on d (g.D.BlockDevice.blocks c.loading.dev) now (g.D.BlockDevice.geometry c.loading.dev) c.args.stored.head c.args.stored.size inv.device.same inv.device.geometry) in
    let found = part_read bytes c.read_at.new.buf (take n c.read_at.new.buf) pos n part (omega arith) refl read in
    let long = length-base d now.block_size now.block_count c.args.stored.head c.args.stored.size now.valid.no_smaller (g.met.D.BlockDevice.shape c.args.dev.now) c.requires.base in
    let old : buffered_bytes c.loading.list ≡ take pos bytes = inv.bytes ∙ ap (λ k. take k bytes) (sym at) in
    let wrote : buffered_bytes c.write_buffered_at.new.self ≡ take (pos + part) bytes = c.write_buffered_at.ensures.rest ∙ loaded bytes (buffered_bytes c.loading.list) (take part c.read_at.new.buf) pos part old (omega arith) found in
    let more = ap length wrote ∙ length-take-le (pos + part) bytes (omega arith) in
    let size : growing_size c.write_buffered_at.new.self ≡ pos + part = held_size c.write_buffered_at.new.self c.write_buffered_at.ensures.held ∙ more in
    record {
      resting = record { geometry = inv.resting.geometry ∙ sym ((c.write_buffered_at.ensures.holds d).geometry); held = c.write_buffered_at.ensures.held };
      bytes = wrote ∙ ap (λ k. take k bytes) (sym size);
      few = omega arith;
      device = read_on g.D.BlockDevice inv.device c.read_at.ensures.reading.device;
      quiet = quiet g.D.BlockDevice c.in_ok-count.ensures.reading.faults ∙ inv.quiet;
    }

pub returns-clause-reading : goal.returns-clause-reading
returns-clause-reading g c =
    let inv = c.loading.invariant in
    record { device = inv.device; reports = record { faults = record { fault = λ is. absurd (cc); no_fault = λ _. inv.quiet }; errors = tt } }

pub returns-in_err-count-clause-reading : goal.returns-in_err-count-clause-reading
returns-in_err-count-clause-reading g c =
    let inv = c.loading.invariant in
    let d : Blocks = g.D.BlockDevice.blocks c.args.dev.now in
    let now : Geometry = g.D.BlockDevice.geometry c.args.dev.now in
    let test = c.loading-test.true in
    let p = err_from_is_err_and c.from_residual-in_err-count.result c.from_residual-in_err-count.ensures.1 in
    rw (p.1, p.2) (record {
      device = read_on g.D.BlockDevice inv.device c.read_at.ensures.reading.device;
      reports = record {
        faults = reported_on g.D.BlockDevice inv.quiet (reported_as g.D.BlockDevice c.in_err-count.ensures.reading.faults);
        errors = not_corrupt {T = ℕ} _ c.in_err-count.ensures.reading.errors (λ is. c.in_err-count.ensures.corrupt is
            (listed_on d (g.D.BlockDevice.blocks c.loading.dev) now (g.D.BlockDevice.geometry c.loading.dev) c.args.stored.head c.args.stored.size inv.device.same inv.device.geometry (let within = c.requires.within in omega arith) c.requires.base));
      };
    })
