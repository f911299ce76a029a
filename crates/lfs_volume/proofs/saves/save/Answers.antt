use Rattle.std.proofs.Common.{refl, inl, inr, length, arith}
use Rattle.lfs_volume.proofs.Steps.{passed_err}
use Rattle.lfs_volume.proofs.Saving.{begun, clean_close_works, closed_ends, closed_refused, closed_saved, count_not_refused, lacking, lacks_room, save_ends_at_open, save_ends_at_room, save_ends_at_write}
use Rattle.lfs_model.specs.session.Refusals.{path_or_root}
use Rattle.lfs_tree.specs.TreeState.{visible_tree}
use Rattle.lfs_volume.specs.Saves.{path_bytes_of}
use Rattle.lfs_volume.proofs.saves.save.Goals as goal

pub returns-in_err-fd-clause-ended : goal.returns-in_err-fd-clause-ended
returns-in_err-fd-clause-ended g c =
    passed_err c.from_residual.result _ _ c.from_residual.ensures.1 (λ can. save_ends_at_open _ c.args.session.now c.args.session.now c.open_writer_at.new.session c.args.path.now c.args.bytes.now c.args.dirty_range 0 (c.in_err-fd.ensures.ended can.idle))

pub returns-in_err-fd-clause-refused : goal.returns-in_err-fd-clause-refused
returns-in_err-fd-clause-refused g c =
    passed_err c.from_residual.result _ _ c.from_residual.ensures.1 (λ can is.
    let order = can.differs.order in
    let inside = can.differs.inside in
    let small = can.small in
    inr (c.in_err-fd.ensures.refused can.idle (omega arith) is))

pub returns-in_err-has_room-clause-ended : goal.returns-in_err-has_room-clause-ended
returns-in_err-has_room-clause-ended g c =
    passed_err c.from_residual-in_err-has_room.result _ _ c.from_residual-in_err-has_room.ensures.1 (λ can.
    let o = c.in_ok-fd.ensures.opened can.idle in
    save_ends_at_room _ c.args.session.now c.open_writer_at.new.session c.open_writer_at.new.session c.args.path.now c.args.bytes.now c.args.dirty_range c.in_ok-fd.fd o (c.in_err-has_room.ensures o.opened.works))

pub returns-in_err-has_room-clause-refused : goal.returns-in_err-has_room-clause-refused
returns-in_err-has_room-clause-refused g c =
    passed_err c.from_residual-in_err-has_room.result _ _ c.from_residual-in_err-has_room.ensures.1 (λ can is.
    let o = c.in_ok-fd.ensures.opened can.idle in
    absurd (count_not_refused _ c.open_writer_at.new.session c.open_writer_at.new.session o.opened.works (c.in_err-has_room.ensures o.opened.works) is))

pub returns-in_err-write_dirty_range-clause-ended : goal.returns-in_err-write_dirty_range-clause-ended
returns-in_err-write_dirty_range-clause-ended g c =
    passed_err c.from_residual-in_err-write_dirty_range.result _ _ c.from_residual-in_err-write_dirty_range.ensures.1 (λ can.
    let k = begun c.args.session.now c.open_writer_at.new.session c.args.path.now c.args.bytes.now c.args.dirty_range c.in_ok-fd.fd c.in_ok-has_room.has_room can c.in_ok-fd.ensures.opened c.if-has_room.true c.in_ok-has_room.ensures in
    save_ends_at_write _ c.args.session.now c.open_writer_at.new.session c.write_dirty_range.new.session c.args.path.now c.args.bytes.now c.args.dirty_range c.in_ok-fd.fd k.o k.asked
    (c.in_err-write_dirty_range.ensures.ended (visible_tree c.args.session.now.tree) (path_or_root c.args.path.now) (path_bytes_of c.args.session.now c.args.path.now) k.o.number k.can))

pub returns-in_err-write_dirty_range-clause-refused : goal.returns-in_err-write_dirty_range-clause-refused
returns-in_err-write_dirty_range-clause-refused g c =
    passed_err c.from_residual-in_err-write_dirty_range.result _ _ c.from_residual-in_err-write_dirty_range.ensures.1 (λ can is.
    let k = begun c.args.session.now c.open_writer_at.new.session c.args.path.now c.args.bytes.now c.args.dirty_range c.in_ok-fd.fd c.in_ok-has_room.has_room can c.in_ok-fd.ensures.opened c.if-has_room.true c.in_ok-has_room.ensures in
    let f = c.in_err-write_dirty_range.ensures.failed (visible_tree c.args.session.now.tree) (path_or_root c.args.path.now) (path_bytes_of c.args.session.now c.args.path.now) k.o.number k.can in
    absurd (cc))

pub returns-in_ok-write_dirty_range-clause-saved : goal.returns-in_ok-write_dirty_range-clause-saved
returns-in_ok-write_dirty_range-clause-saved g c =
    closed_saved c.close.result c.args.session.now c.open_writer_at.new.session c.write_dirty_range.new.session c.close.new.self c.args.path.now c.args.bytes.now c.args.dirty_range c.in_ok-fd.fd
    (λ can. begun c.args.session.now c.open_writer_at.new.session c.args.path.now c.args.bytes.now c.args.dirty_range c.in_ok-fd.fd c.in_ok-has_room.has_room can c.in_ok-fd.ensures.opened c.if-has_room.true c.in_ok-has_room.ensures) c.in_ok-write_dirty_range.ensures.written c.close.ensures

pub returns-in_ok-write_dirty_range-clause-ended : goal.returns-in_ok-write_dirty_range-clause-ended
returns-in_ok-write_dirty_range-clause-ended g c =
    closed_ends c.close.result c.args.session.now c.open_writer_at.new.session c.write_dirty_range.new.session c.close.new.self c.args.path.now c.args.bytes.now c.args.dirty_range c.in_ok-fd.fd
    (λ can. begun c.args.session.now c.open_writer_at.new.session c.args.path.now c.args.bytes.now c.args.dirty_range c.in_ok-fd.fd c.in_ok-has_room.has_room can c.in_ok-fd.ensures.opened c.if-has_room.true c.in_ok-has_room.ensures) c.in_ok-write_dirty_range.ensures.written c.close.ensures

pub returns-in_ok-write_dirty_range-clause-refused : goal.returns-in_ok-write_dirty_range-clause-refused
returns-in_ok-write_dirty_range-clause-refused g c =
    closed_refused c.close.result c.args.session.now c.open_writer_at.new.session c.write_dirty_range.new.session c.close.new.self c.args.path.now c.args.bytes.now c.args.dirty_range c.in_ok-fd.fd
    (λ can. begun c.args.session.now c.open_writer_at.new.session c.args.path.now c.args.bytes.now c.args.dirty_range c.in_ok-fd.fd c.in_ok-has_room.has_room can c.in_ok-fd.ensures.opened c.if-has_room.true c.in_ok-has_room.ensures) c.in_ok-write_dirty_range.ensures.written c.close.ensures

pub returns-in_err-close-clause-ended : goal.returns-in_err-close-clause-ended
returns-in_err-close-clause-ended g c =
    passed_err c.from_residual-in_err-close.result _ _ c.from_residual-in_err-close.ensures.1 (λ can.
    let l = lacking c.args.session.now c.open_writer_at.new.session c.args.path.now c.args.bytes.now c.args.dirty_range c.in_ok-fd.fd c.in_ok-has_room.has_room can c.in_ok-fd.ensures.opened c.if-has_room.false c.in_ok-has_room.ensures in
    absurd (clean_close_works _ c.open_writer_at.new.session c.close-else-has_room.new.self (visible_tree c.args.session.now.tree) (path_or_root c.args.path.now) (path_bytes_of c.args.session.now c.args.path.now) c.args.dirty_range.from c.in_ok-fd.fd l.0.opened l.0.number c.in_err-close.ensures))

pub returns-in_err-close-clause-refused : goal.returns-in_err-close-clause-refused
returns-in_err-close-clause-refused g c =
    passed_err c.from_residual-in_err-close.result _ _ c.from_residual-in_err-close.ensures.1 (λ can.
    let l = lacking c.args.session.now c.open_writer_at.new.session c.args.path.now c.args.bytes.now c.args.dirty_range c.in_ok-fd.fd c.in_ok-has_room.has_room can c.in_ok-fd.ensures.opened c.if-has_room.false c.in_ok-has_room.ensures in
    absurd (clean_close_works _ c.open_writer_at.new.session c.close-else-has_room.new.self (visible_tree c.args.session.now.tree) (path_or_root c.args.path.now) (path_bytes_of c.args.session.now c.args.path.now) c.args.dirty_range.from c.in_ok-fd.fd l.0.opened l.0.number c.in_err-close.ensures))

pub returns-in_ok-close-clause-ended : goal.returns-in_ok-close-clause-ended
returns-in_ok-close-clause-ended g c can =
    let l = lacking c.args.session.now c.open_writer_at.new.session c.args.path.now c.args.bytes.now c.args.dirty_range c.in_ok-fd.fd c.in_ok-has_room.has_room can c.in_ok-fd.ensures.opened c.if-has_room.false c.in_ok-has_room.ensures in
    inl (refl, lacks_room c.args.session.now c.open_writer_at.new.session c.close-else-has_room.new.self c.args.path.now c.args.bytes.now c.args.dirty_range c.in_ok-fd.fd (length c.args.bytes.now) l.0 l.1.0 refl l.1.1 c.in_ok-close.ensures)

pub returns-in_ok-close-clause-refused : goal.returns-in_ok-close-clause-refused
returns-in_ok-close-clause-refused g c can is =
    let l = lacking c.args.session.now c.open_writer_at.new.session c.args.path.now c.args.bytes.now c.args.dirty_range c.in_ok-fd.fd c.in_ok-has_room.has_room can c.in_ok-fd.ensures.opened c.if-has_room.false c.in_ok-has_room.ensures in
    inl (refl, lacks_room c.args.session.now c.open_writer_at.new.session c.close-else-has_room.new.self c.args.path.now c.args.bytes.now c.args.dirty_range c.in_ok-fd.fd (length c.args.bytes.now) l.0 l.1.0 refl l.1.1 c.in_ok-close.ensures)
