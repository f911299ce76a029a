use Rattle.std.proofs.Common.{ℕ, [], ◌≡◌, take, refl, sym, ap, ◌∙◌, subst, arith}
use Rattle.std.specs.Prelude.{Contains, List}
use Rattle.lfs_file.proofs.Common.{err_from_is_err_and, Blocks, skip_list_block_count, list_bytes, skip_list_block_count-more, SameExceptBlocks-refl, blocks_of_list, IsFinishedList, ReleasesInFlight}
use Rattle.lfs_device.specs.declared.geometry.Geometry.{Geometry}
use Rattle.lfs_file.proofs.Hands.{Contains-take}
use Rattle.lfs_file.proofs.ContentsCalled.{quiet, read_on, reported_as, reported_on}
use Rattle.lfs_file.proofs.Copies.{base_list}
use Rattle.lfs_file.proofs.Cuts.{cuts}
use Rattle.lfs_file.proofs.Ends.{gone_of}
use Rattle.lfs_file.proofs.list_cuts.shorten_stored_list.Goals as goal

pub release_base_from-requires-clause-within : goal.release_base_from-requires-clause-within
release_base_from-requires-clause-within g c =
    let n : ℕ = (g.D.BlockDevice.geometry c.truncated_head.new.dev).block_size in
    let more = skip_list_block_count-more n c.args.keep c.args.stored.size c.requires.length.1 in
    let same = c.blocks_for-count.ensures ∙ ap (λ (k : Geometry). skip_list_block_count k.block_size c.args.keep) c.geometry.ensures in
    omega arith

pub returns-in_err-release_base_from-clause-reading : goal.returns-in_err-release_base_from-clause-reading
returns-in_err-release_base_from-clause-reading g c =
    let p = err_from_is_err_and c.from_residual-in_err-release_base_from.result c.from_residual-in_err-release_base_from.ensures.1 in
    let read = c.in_err-release_base_from.ensures.reading in
    rw (p.1, p.2) (record {
      device = read_on g.D.BlockDevice c.truncated_head.ensures.reading.device read.device;
      reports = record {
        faults = reported_on g.D.BlockDevice (quiet g.D.BlockDevice c.in_ok-head.ensures.reading.faults) (reported_as g.D.BlockDevice read.reports.faults);
        errors = read.reports.errors;
      };
    })

pub returns-clause-reading : goal.returns-clause-reading
returns-clause-reading g c =
    let read = c.in_ok-release_base_from.ensures.reading in
    record {
      device = read_on g.D.BlockDevice c.truncated_head.ensures.reading.device read.device;
      reports = record {
        faults = record { fault = λ is. absurd (cc); no_fault = λ _. quiet g.D.BlockDevice read.reports.faults ∙ quiet g.D.BlockDevice c.in_ok-head.ensures.reading.faults };
        errors = tt;
      };
    }

pub returns-clause-cut : goal.returns-clause-cut
returns-clause-cut g c =
    let now : Geometry = g.D.BlockDevice.geometry c.args.dev.now in
    let stored = c.args.stored in
    let d : Blocks = g.D.BlockDevice.blocks c.args.dev.now in
    let read = c.truncated_head.ensures.reading.device in
    let all = c.release_base_from.ensures.reading.device.same ∙ read.same in
    let some = c.requires.length.0 in
    let within = c.requires.length.1 in
    let front = c.in_ok-head.ensures.front (base_list d now.block_size stored.head stored.size (omega arith) c.requires.stored.base) in
    let count : c.blocks_for-count.result ≡ skip_list_block_count now.block_size c.args.keep = c.blocks_for-count.ensures ∙ ap (λ (k : Geometry). skip_list_block_count k.block_size c.args.keep) (c.geometry.ensures ∙ read.geometry) in
    let released = subst (λ (k : Geometry). ReleasesInFlight c.args.map.now c.release_base_from.new.map (gone_of stored.in_flight c.blocks_for-count.result (blocks_of_list d k.block_size stored.head stored.size))) read.geometry
    (subst (λ (x : Blocks). ReleasesInFlight c.args.map.now c.release_base_from.new.map (gone_of stored.in_flight c.blocks_for-count.result (blocks_of_list x (g.D.BlockDevice.geometry c.truncated_head.new.dev).block_size stored.head stored.size))) read.same c.in_ok-release_base_from.ensures.released) in
    let blocks = front.blocks ∙ ap (λ n. take n (blocks_of_list d now.block_size stored.head stored.size)) (sym count) in
    let at : Blocks → Type 0 = λ x. IsFinishedList c.release_base_from.new.map x now.block_size (record { head = c.in_ok-head.head; size = c.args.keep; in_flight = stored.in_flight }) in
    record {
      stored = subst at (sym all) (cuts c.args.map.now d d now.block_size stored [] c.requires.stored refl (SameExceptBlocks-refl [] d) c.release_base_from.new.map c.blocks_for-count.result c.in_ok-head.head c.args.keep front.list blocks released);
      count = refl;
      bytes = ap (λ x. list_bytes x now.block_size c.in_ok-head.head c.args.keep) all ∙ front.bytes;
    }

pub returns-clause-front : goal.returns-clause-front
returns-clause-front g c =
    let now : Geometry = g.D.BlockDevice.geometry c.args.dev.now in
    let stored = c.args.stored in
    let d : Blocks = g.D.BlockDevice.blocks c.args.dev.now in
    let all = c.release_base_from.ensures.reading.device.same ∙ c.truncated_head.ensures.reading.device.same in
    let some = c.requires.length.0 in
    let within = c.requires.length.1 in
    let front = c.in_ok-head.ensures.front (base_list d now.block_size stored.head stored.size (omega arith) c.requires.stored.base) in
    record {
      flying = refl;
      among = λ b has. Contains-take _ (blocks_of_list d now.block_size stored.head stored.size) b
          (subst (λ (l : List ℕ). Contains l b) (ap (λ x. blocks_of_list x now.block_size c.in_ok-head.head c.args.keep) all ∙ front.blocks) has);
    }
