use Rattle.std.proofs.Common.{◌≡◌, inl, true, refl, sym, ap, ◌∙◌, subst, arith}
use Rattle.lfs_file.proofs.Common.{err_from_is_err_and, Blocks, skip_list_block_count, list_bytes, unwritten_block, IsFinishedList, in_flight_limit, blocks_of_list}
use Rattle.lfs_device.specs.declared.geometry.Geometry.{Geometry}
use Rattle.lfs_file.proofs.Bases.{blocks_stay}
use Rattle.lfs_file.proofs.Owning.{ends_over}
use Rattle.lfs_file.proofs.Spared.{KeepsUsedBlocks-refl, after_release}
use Rattle.lfs_file.proofs.ContentsCalled.{apart_end, apart_on, quiet, reported_as, reported_on, used_of, used_read, writes_well}
use Rattle.lfs_file.proofs.Ends.{base_end, ends_by, used_kept, used_kept_on}
use Rattle.lfs_file.proofs.Flights.{begun_flying}
use Rattle.lfs_file.proofs.Handed.{extended_hand}
use Rattle.lfs_file.proofs.list_ends.complete_draft.Goals as goal

pub copy_stored_tail-requires : goal.copy_stored_tail-requires
copy_stored_tail-requires g c =
    let hand = c.args.hand in
    let going = c.requires.going in
    let begun = going.list.begun in
    let flying = begun_flying c.args.map.now (g.D.BlockDevice.blocks c.args.dev.now) hand.list.geometry.block_size hand.list hand.base hand.shared begun in
    let room = c.requires.room in
    let some = ap (λ (k : Geometry). in_flight_limit k.block_size hand.base) going.geometry in
    let rest = ap (λ (k : Geometry). skip_list_block_count k.block_size hand.base.size) going.geometry in
    record {
      growing = begun.growing;
      geometry = going.geometry;
      marked = begun.marked;
      own = record { own = going.list.own; many = going.list.many; listed = going.list.listed };
      apart = record { base = begun.list; apart = begun.apart };
      room = omega arith;
    }

pub returns-in_err-copy_stored_tail-clause-writing : goal.returns-in_err-copy_stored_tail-clause-writing
returns-in_err-copy_stored_tail-clause-writing g c =
    let p = err_from_is_err_and c.from_residual.result c.from_residual.ensures.1 in
    let wrote = c.in_err-copy_stored_tail.ensures.writing in
    rw (p.1, p.2) (record {
      map = used_kept_on _ _ _ wrote.map (KeepsUsedBlocks-refl _);
      device = used_of g.D.BlockDevice c.args.hand.list c.requires.going.list.begun.marked wrote.device;
      reports = record { faults = reported_as g.D.BlockDevice wrote.reports.faults; errors = wrote.reports.errors };
    })

pub returns-in_err-head-clause-writing : goal.returns-in_err-head-clause-writing
returns-in_err-head-clause-writing g c =
    let p = err_from_is_err_and c.from_residual-in_err-head.result c.from_residual-in_err-head.ensures.1 in
    let wrote = c.in_ok-copy_stored_tail.ensures.writing in
    let io = c.in_err-head.ensures.io in
    rw (p.1, p.2) (record {
      map = used_kept_on _ _ _ wrote.map (KeepsUsedBlocks-refl _);
      device = used_of g.D.BlockDevice c.args.hand.list c.requires.going.list.begun.marked
          (apart_on g.D.BlockDevice c.in_ok-copy_stored_tail.ensures.extended.grown.apart wrote.device (apart_end g.D.BlockDevice _ c.finish.ensures.device));
      reports = record { faults = reported_on g.D.BlockDevice (quiet g.D.BlockDevice wrote.reports.faults) (reported_as g.D.BlockDevice io.faults); errors = inl io.errors };
    })

pub returns-in_err-release_base_from-clause-writing : goal.returns-in_err-release_base_from-clause-writing
returns-in_err-release_base_from-clause-writing g c =
    let p = err_from_is_err_and c.from_residual-in_err-release_base_from.result c.from_residual-in_err-release_base_from.ensures.1 in
    let wrote = c.in_ok-copy_stored_tail.ensures.writing in
    let read = c.in_err-release_base_from.ensures.reading in
    rw (p.1, p.2) (record {
      map = used_kept_on _ _ _ wrote.map c.release_base_from.ensures.map;
      device = used_read g.D.BlockDevice (used_of g.D.BlockDevice c.args.hand.list c.requires.going.list.begun.marked
          (apart_on g.D.BlockDevice c.in_ok-copy_stored_tail.ensures.extended.grown.apart wrote.device (apart_end g.D.BlockDevice _ c.finish.ensures.device))) read.device;
      reports = record {
        faults = reported_on g.D.BlockDevice (quiet g.D.BlockDevice c.in_ok-head.ensures.io.faults ∙ quiet g.D.BlockDevice wrote.reports.faults) (reported_as g.D.BlockDevice read.reports.faults);
        errors = inl read.reports.errors;
      };
    })

pub returns-clause-writing : goal.returns-clause-writing
returns-clause-writing g c =
    let wrote = c.in_ok-copy_stored_tail.ensures.writing in
    let read = c.in_ok-release_base_from.ensures.reading in
    writes_well g.D.BlockDevice (used_kept _ _ _ _ wrote.map c.in_ok-release_base_from.ensures.released)
    (used_read g.D.BlockDevice (used_of g.D.BlockDevice c.args.hand.list c.requires.going.list.begun.marked
    (apart_on g.D.BlockDevice c.in_ok-copy_stored_tail.ensures.extended.grown.apart wrote.device (apart_end g.D.BlockDevice _ c.finish.ensures.device))) read.device)
    (quiet g.D.BlockDevice read.reports.faults ∙ quiet g.D.BlockDevice c.in_ok-head.ensures.io.faults ∙ quiet g.D.BlockDevice wrote.reports.faults)

pub release_base_from-requires-clause-base : goal.release_base_from-requires-clause-base
release_base_from-requires-clause-base g c =
    let hand = c.args.hand in
    let whole = extended_hand c.args.map.now c.copy_stored_tail.new.map (g.D.BlockDevice.blocks c.args.dev.now) (g.D.BlockDevice.blocks c.copy_stored_tail.new.dev) hand.list c.copy_stored_tail.new.list hand.base hand.shared _ _
    c.requires.going.list.begun c.copy_stored_tail.ensures.writing.device.spared c.copy_stored_tail.ensures.writing.map c.in_ok-copy_stored_tail.ensures.extended in
    let device = c.finish.ensures.device.geometry ∙ c.copy_stored_tail.ensures.writing.device.geometry ∙ c.requires.going.geometry in
    base_end c.copy_stored_tail.new.map (g.D.BlockDevice.blocks c.copy_stored_tail.new.dev) _ hand.list.geometry _ c.copy_stored_tail.new.list hand.base hand.shared device whole c.finish.ensures.device.others

pub returns-clause-ended : goal.returns-clause-ended
returns-clause-ended g c =
    let hand = c.args.hand in
    let geometry : Geometry = hand.list.geometry in
    let now : Geometry = g.D.BlockDevice.geometry c.args.dev.now in
    let longer = c.copy_stored_tail.new.list in
    let more = c.in_ok-copy_stored_tail.ensures.extended in
    let finished = c.in_ok-head.ensures.finished in
    let is : now ≡ geometry = c.requires.going.geometry in
    let whole = extended_hand c.args.map.now c.copy_stored_tail.new.map (g.D.BlockDevice.blocks c.args.dev.now) (g.D.BlockDevice.blocks c.copy_stored_tail.new.dev) hand.list longer hand.base hand.shared _ _
    c.requires.going.list.begun c.copy_stored_tail.ensures.writing.device.spared c.copy_stored_tail.ensures.writing.map more in
    let device = c.finish.ensures.device.geometry ∙ c.copy_stored_tail.ensures.writing.device.geometry ∙ is in
    let stored = ends_by c.copy_stored_tail.new.map c.release_base_from.new.map (g.D.BlockDevice.blocks c.copy_stored_tail.new.dev) (g.D.BlockDevice.blocks c.finish.new.dev) geometry longer.geometry _ longer hand.base hand.shared
    c.in_ok-head.head c.in_ok-head.size more.geometry device whole c.finish.ensures.device.others finished.list finished.blocks c.in_ok-release_base_from.ensures.released in
    let at : Blocks → Geometry → Type 0 = λ x k. IsFinishedList c.release_base_from.new.map x k.block_size (record { head = c.in_ok-head.head; size = c.in_ok-head.size; in_flight = true }) in
    record {
      stored = subst (λ x. at x now) (sym c.release_base_from.ensures.reading.device.same) (subst (at (g.D.BlockDevice.blocks c.finish.new.dev)) (sym is) stored);
      count = c.in_ok-head.ensures.size ∙ more.sum;
      bytes = ap (λ x. list_bytes x now.block_size c.in_ok-head.head c.in_ok-head.size) c.release_base_from.ensures.reading.device.same
          ∙ ap (λ (k : Geometry). list_bytes (g.D.BlockDevice.blocks c.finish.new.dev) k.block_size c.in_ok-head.head c.in_ok-head.size) (is ∙ sym more.geometry)
          ∙ finished.bytes ∙ more.content;
    }

pub returns-clause-own : goal.returns-clause-own
returns-clause-own g c =
    let hand = c.args.hand in
    let geometry : Geometry = hand.list.geometry in
    let now : Geometry = g.D.BlockDevice.geometry c.args.dev.now in
    let longer = c.copy_stored_tail.new.list in
    let more = c.in_ok-copy_stored_tail.ensures.extended in
    let finished = c.in_ok-head.ensures.finished in
    let going = c.requires.going in
    let d = g.D.BlockDevice.blocks c.args.dev.now in
    let e = g.D.BlockDevice.blocks c.copy_stored_tail.new.dev in
    let whole = extended_hand c.args.map.now c.copy_stored_tail.new.map d e hand.list longer hand.base hand.shared _ _ going.list.begun c.copy_stored_tail.ensures.writing.device.spared c.copy_stored_tail.ensures.writing.map more in
    ends_over c.copy_stored_tail.new.map c.release_base_from.new.map d e (g.D.BlockDevice.blocks c.release_base_from.new.dev) geometry now longer hand.base hand.shared
    (record { head = c.in_ok-head.head; size = c.in_ok-head.size; in_flight = true }) going.geometry whole (after_release c.in_ok-release_base_from.ensures.released)
    (blocks_stay c.args.map.now (unwritten_block hand.list) d e geometry.block_size hand.base.head hand.base.size c.copy_stored_tail.ensures.writing.device.spared going.list.begun.apart)
    (ap (λ x. blocks_of_list x geometry.block_size c.in_ok-head.head c.in_ok-head.size) c.release_base_from.ensures.reading.device.same
    ∙ ap (λ (k : Geometry). blocks_of_list (g.D.BlockDevice.blocks c.finish.new.dev) k.block_size c.in_ok-head.head c.in_ok-head.size) (sym more.geometry) ∙ finished.blocks ∙ whole.own) refl
