use Rattle.std.proofs.Common.{ℕ, ◌≡◌, ◌+◌, ◌<◌, ◌≤◌, inl, List, length, sym, ap, ◌∙◌, arith}
use Rattle.lfs_file.proofs.Common.{err_from_is_err_and, used_count, skip_list_block_count, in_flight_limit, Blocks, Finished, InHand, InMemory, stored_list_bytes}
use Rattle.lfs_file.specs.Contents.{memory_limit}
use Rattle.lfs_device.specs.declared.geometry.Geometry.{Geometry}
use Rattle.lfs_file.proofs.Owning.{hand_owned, owned_is}
use Rattle.lfs_file.proofs.ContentsCalled.{quiet, reported_as, used_reads, writes_as, writes_none, writes_of_reads, writes_same, writes_well}
use Rattle.lfs_file.proofs.Flights.{length-base}
use Rattle.lfs_file.proofs.ContentsMemories.{shortened_bytes}
use Rattle.lfs_file.proofs.Truncations.{length-resized, resized_none, truncated_cut, truncated_few, truncated_longer, truncated_same}
use Rattle.lfs_file.proofs.new_sizes.truncate_finished_list.Goals as goal

pub returns-then-size-stored-clause-truncated : goal.returns-then-size-stored-clause-truncated
returns-then-size-stored-clause-truncated g c =
    let stored = c.args.stored in
    let d : Blocks = g.D.BlockDevice.blocks c.args.dev.now in
    let now : Geometry = g.D.BlockDevice.geometry c.args.dev.now in
    let old : List ℕ = stored_list_bytes d now.block_size stored in
    let all = length-base d now.block_size now.block_count stored.head stored.size now.valid.no_smaller (g.met.D.BlockDevice.shape c.args.dev.now) c.requires.stands.base in
    let same : c.args.size ≡ stored.size = c.if-size-stored.true in
    record {
      stands = c.requires.stands;
      has = resized_none old c.args.size (same ∙ sym all);
      form = truncated_same (memory_limit now) c.args.size (Finished stored.size stored.in_flight) same;
    }

pub returns-then-size-inline_limit-clause-truncated : goal.returns-then-size-inline_limit-clause-truncated
returns-then-size-inline_limit-clause-truncated g c =
    let stored = c.args.stored in
    let old : List ℕ = stored_list_bytes (g.D.BlockDevice.blocks c.args.dev.now) (g.D.BlockDevice.geometry c.args.dev.now).block_size stored in
    let known : c.inline_limit.result ≡ memory_limit (g.D.BlockDevice.geometry c.args.dev.now) = c.inline_limit.ensures ∙ ap (λ k. memory_limit k) c.geometry.ensures in
    let bound : c.args.size ≤ memory_limit (g.D.BlockDevice.geometry c.args.dev.now) = (let test = c.if-size-inline_limit.true in omega arith) in
    record {
      stands = c.in_ok-list.ensures.quiet;
      has = c.in_ok-list.ensures.bytes;
      form = ap InMemory (ap length c.in_ok-list.ensures.bytes ∙ length-resized c.args.size old) ∙ truncated_few (memory_limit (g.D.BlockDevice.geometry c.args.dev.now)) c.args.size (Finished stored.size stored.in_flight) c.if-size-stored.false bound;
    }

pub shorten_to_memory-requires-clause-stored : goal.shorten_to_memory-requires-clause-stored
shorten_to_memory-requires-clause-stored g c = c.requires.stands

pub shorten_to_memory-requires-clause-short : goal.shorten_to_memory-requires-clause-short
shorten_to_memory-requires-clause-short g c =
    let known : c.inline_limit.result ≡ memory_limit (g.D.BlockDevice.geometry c.args.dev.now) = c.inline_limit.ensures ∙ ap (λ k. memory_limit k) c.geometry.ensures in
    let test = c.if-size-inline_limit.true in
    let short = c.requires.fits.short in
    omega arith

pub fill_finished_list-requires-clause-stored : goal.fill_finished_list-requires-clause-stored
fill_finished_list-requires-clause-stored g c = c.requires.stands

pub fill_finished_list-requires-clause-room : goal.fill_finished_list-requires-clause-room
fill_finished_list-requires-clause-room g c =
    let n : ℕ = (g.D.BlockDevice.geometry c.args.dev.now).block_size in
    let longer : c.args.stored.size < c.args.size = c.if-stored-size.true in
    let known : c.inline_limit.result ≡ memory_limit (g.D.BlockDevice.geometry c.args.dev.now) = c.inline_limit.ensures ∙ ap (λ k. memory_limit k) c.geometry.ensures in
    let bound : memory_limit (g.D.BlockDevice.geometry c.args.dev.now) < c.args.size = (let test = c.if-size-inline_limit.false in omega arith) in
    let room : used_count c.args.map.now + (skip_list_block_count n c.args.size + in_flight_limit n c.args.stored) ≤ length c.args.map.now = c.requires.fits.room (bound, longer) in
    record { longer = longer; small = c.requires.fits.small; room = omega arith }

pub shorten_stored_list-requires-clause-stored : goal.shorten_stored_list-requires-clause-stored
shorten_stored_list-requires-clause-stored g c = c.requires.stands

pub returns-then-size-stored-clause-writing : goal.returns-then-size-stored-clause-writing
returns-then-size-stored-clause-writing g c = writes_none g.D.BlockDevice c.args.map.now c.args.dev.now

pub returns-in_err-list-clause-writing : goal.returns-in_err-list-clause-writing
returns-in_err-list-clause-writing g c =
    let p = err_from_is_err_and c.from_residual.result c.from_residual.ensures.1 in
    let read = c.in_err-list.ensures.reading in
    rw (p.1, p.2) (writes_as g.D.BlockDevice (writes_of_reads g.D.BlockDevice c.shorten_to_memory.ensures.map read.device read.reports))

pub returns-then-size-inline_limit-clause-writing : goal.returns-then-size-inline_limit-clause-writing
returns-then-size-inline_limit-clause-writing g c =
    let read = c.in_ok-list.ensures.reading in
    writes_same g.D.BlockDevice (writes_of_reads g.D.BlockDevice c.shorten_to_memory.ensures.map read.device read.reports)

pub returns-in_err-hand-clause-writing : goal.returns-in_err-hand-clause-writing
returns-in_err-hand-clause-writing g c =
    let p = err_from_is_err_and c.from_residual-in_err-hand.result c.from_residual-in_err-hand.ensures.1 in
    rw (p.1, p.2) (writes_as g.D.BlockDevice c.in_err-hand.ensures.writing)

pub returns-then-stored-size-clause-writing : goal.returns-then-stored-size-clause-writing
returns-then-stored-size-clause-writing g c = writes_same g.D.BlockDevice c.in_ok-hand.ensures.writing

pub returns-then-stored-size-clause-truncated : goal.returns-then-stored-size-clause-truncated
returns-then-stored-size-clause-truncated g c =
    let stored = c.args.stored in
    let filled = c.in_ok-hand.ensures.filled in
    let base = c.in_ok-hand.ensures.base.same in
    let hand = c.in_ok-hand.hand in
    let known : c.inline_limit.result ≡ memory_limit (g.D.BlockDevice.geometry c.args.dev.now) = c.inline_limit.ensures ∙ ap (λ k. memory_limit k) c.geometry.ensures in
    let bound : memory_limit (g.D.BlockDevice.geometry c.args.dev.now) < c.args.size = (let test = c.if-size-inline_limit.false in omega arith) in
    record {
      stands = filled.going;
      has = filled.bytes;
      form = ap (λ k. InHand k hand.base.size hand.base.in_flight) filled.size ∙ ap (λ s. InHand c.args.size s.size s.in_flight) base
          ∙ truncated_longer (memory_limit (g.D.BlockDevice.geometry c.args.dev.now)) c.args.size (Finished stored.size stored.in_flight) c.if-stored-size.true bound;
    }

pub returns-in_err-cut-clause-writing : goal.returns-in_err-cut-clause-writing
returns-in_err-cut-clause-writing g c =
    let p = err_from_is_err_and c.from_residual-in_err-cut.result c.from_residual-in_err-cut.ensures.1 in
    let read = c.in_err-cut.ensures.reading in
    rw (p.1, p.2) (record {
      map = c.shorten_stored_list.ensures.map;
      device = used_reads g.D.BlockDevice c.args.map.now read.device;
      reports = record { faults = reported_as g.D.BlockDevice read.reports.faults; errors = inl read.reports.errors };
    })

pub returns-clause-writing : goal.returns-clause-writing
returns-clause-writing g c =
    let read = c.in_ok-cut.ensures.reading in
    writes_well g.D.BlockDevice c.shorten_stored_list.ensures.map (used_reads g.D.BlockDevice c.args.map.now read.device) (quiet g.D.BlockDevice read.reports.faults)

pub returns-clause-truncated : goal.returns-clause-truncated
returns-clause-truncated g c =
    let stored = c.args.stored in
    let d : Blocks = g.D.BlockDevice.blocks c.args.dev.now in
    let now : Geometry = g.D.BlockDevice.geometry c.args.dev.now in
    let old : List ℕ = stored_list_bytes d now.block_size stored in
    let all = length-base d now.block_size now.block_count stored.head stored.size now.valid.no_smaller (g.met.D.BlockDevice.shape c.args.dev.now) c.requires.stands.base in
    let ended = c.in_ok-cut.ensures.cut in
    let less = c.if-stored-size.false in
    let ne = c.if-size-stored.false in
    let known : c.inline_limit.result ≡ memory_limit now = c.inline_limit.ensures ∙ ap (λ k. memory_limit k) c.geometry.ensures in
    let bound : memory_limit now < c.args.size = (let test = c.if-size-inline_limit.false in omega arith) in
    record {
      stands = ended.stored;
      has = ended.bytes ∙ shortened_bytes old c.args.size (omega arith);
      form = ap (λ k. Finished k c.in_ok-cut.cut.in_flight) ended.count ∙ ap (Finished c.args.size) c.in_ok-cut.ensures.front.flying
          ∙ truncated_cut (memory_limit now) c.args.size (Finished stored.size stored.in_flight) (omega arith) bound;
    }

pub returns-then-stored-size-clause-owned : goal.returns-then-stored-size-clause-owned
returns-then-stored-size-clause-owned g c =
    hand_owned c.fill_finished_list.new.map (g.D.BlockDevice.blocks c.fill_finished_list.new.dev) (g.D.BlockDevice.geometry c.args.dev.now) c.in_ok-hand.hand _ c.in_ok-hand.ensures.filled.going (owned_is _ c.in_ok-hand.ensures.base.blocks)
