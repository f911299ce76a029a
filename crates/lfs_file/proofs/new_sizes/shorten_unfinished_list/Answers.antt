use Rattle.std.proofs.Common.{ℕ, ◌≡◌, ◌<◌, List, take, sym, ap, ◌∙◌, subst, arith}
use Rattle.lfs_file.proofs.Common.{err_from_is_err_and, growing_size, zero_padded, Finished, truncated_form, IsFinishedList, stored_list_bytes, unfinished_length, AreUsedAmong, contents_blocks, stored_blocks}
use Rattle.lfs_device.specs.declared.geometry.Geometry.{Geometry}
use Rattle.lfs_file.specs.Contents.{AreSoundContents, contents_bytes, memory_limit}
use Rattle.lfs_file.proofs.Owning.{owned_on, owned_right}
use Rattle.lfs_file.proofs.ContentsCalled.{writes_as, writes_fail, writes_on}
use Rattle.lfs_file.proofs.Truncations.{room_shorter}
use Rattle.lfs_file.proofs.new_sizes.shorten_unfinished_list.Goals as goal

pub complete_draft-requires-clause-going : goal.complete_draft-requires-clause-going
complete_draft-requires-clause-going g c = c.requires.can.stands

pub complete_draft-requires-clause-room : goal.complete_draft-requires-clause-room
complete_draft-requires-clause-room g c =
    let hand = c.args.hand in
    let shorter = c.requires.shorter in
    let room = c.requires.can.fits.room (λ e. absurd (omega arith)) in
    let e = room_shorter (g.D.BlockDevice.geometry c.args.dev.now).block_size c.args.size (growing_size hand.list) hand.base.size hand.base.in_flight shorter in
    omega arith

pub truncate_finished_list-requires : goal.truncate_finished_list-requires
truncate_finished_list-requires g c =
    let is = c.complete_draft.ensures.writing.device.geometry in
    let count : c.in_ok-stored.stored.size ≡ unfinished_length c.args.hand = c.in_ok-stored.ensures.ended.count in
    let shorter = c.requires.shorter in
    let large : memory_limit (g.D.BlockDevice.geometry c.args.dev.now) < unfinished_length c.args.hand = c.requires.can.fits.large in
    record {
      stands = subst (λ (k : Geometry). IsFinishedList c.complete_draft.new.map (g.D.BlockDevice.blocks c.complete_draft.new.dev) k.block_size c.in_ok-stored.stored) (sym is) c.in_ok-stored.ensures.ended.stored;
      fits = record {
        large = λ flying. subst (λ (k : Geometry). memory_limit k < c.in_ok-stored.stored.size) (sym is) (omega arith);
        short = subst (λ (k : Geometry). memory_limit k < k.block_size) (sym is) c.requires.can.fits.short;
        small = c.requires.can.fits.small;
        room = λ needs. (let longer : c.in_ok-stored.stored.size < c.args.size = needs.1 in absurd (omega arith));
      };
    }

pub returns-in_err-stored-clause-writing : goal.returns-in_err-stored-clause-writing
returns-in_err-stored-clause-writing g c =
    let p = err_from_is_err_and c.from_residual.result c.from_residual.ensures.1 in
    rw (p.1, p.2) (writes_as g.D.BlockDevice c.in_err-stored.ensures.writing)

pub returns-in_err-cut-clause-writing : goal.returns-in_err-cut-clause-writing
returns-in_err-cut-clause-writing g c =
    let p = err_from_is_err_and c.from_residual-in_err-cut.result c.from_residual-in_err-cut.ensures.1 in
    let cut = c.in_err-cut.ensures.writing in
    rw (p.1, p.2) (writes_fail g.D.BlockDevice c.in_ok-stored.ensures.writing cut.map cut.device cut.reports)

pub returns-clause-writing : goal.returns-clause-writing
returns-clause-writing g c =
    let cut = c.in_ok-cut.ensures.writing in
    writes_on g.D.BlockDevice c.in_ok-stored.ensures.writing cut.map cut.device cut.reports

pub returns-clause-truncated : goal.returns-clause-truncated
returns-clause-truncated g c =
    let stored = c.in_ok-stored.stored in
    let ended = c.in_ok-stored.ensures.ended in
    let cut = c.in_ok-cut.ensures.truncated in
    let is = c.complete_draft.ensures.writing.device.geometry in
    let d = g.D.BlockDevice.blocks c.complete_draft.new.dev in
    let limit : ℕ = memory_limit (g.D.BlockDevice.geometry c.args.dev.now) in
    record {
      stands = subst (λ (k : Geometry). AreSoundContents c.truncate_finished_list.new.map (g.D.BlockDevice.blocks c.truncate_finished_list.new.dev) k c.in_ok-cut.cut) is cut.stands;
      has = sym (ap (λ (k : Geometry). contents_bytes (g.D.BlockDevice.blocks c.truncate_finished_list.new.dev) k.block_size c.in_ok-cut.cut) is) ∙ cut.has
          ∙ ap (λ (l : List ℕ). take c.args.size (zero_padded c.args.size l)) (ap (λ (k : Geometry). stored_list_bytes d k.block_size stored) is ∙ ended.bytes);
      form = cut.form ∙ ap (λ (k : Geometry). truncated_form (memory_limit k) c.args.size (Finished stored.size stored.in_flight)) is
          ∙ ap (λ k. truncated_form limit c.args.size (Finished k stored.in_flight)) ended.count ∙ ap (λ t. truncated_form limit c.args.size (Finished (unfinished_length c.args.hand) t)) c.in_ok-stored.ensures.own.flying;
    }

pub returns-clause-owned : goal.returns-clause-owned
returns-clause-owned g c =
    owned_right _ (owned_on c.truncate_finished_list.ensures.writing.map c.in_ok-stored.ensures.own.owned
    (subst (λ (k : Geometry). AreUsedAmong c.truncate_finished_list.new.map (stored_blocks (g.D.BlockDevice.blocks c.complete_draft.new.dev) k.block_size c.in_ok-stored.stored)
    (contents_blocks (g.D.BlockDevice.blocks c.truncate_finished_list.new.dev) k.block_size c.in_ok-cut.cut)) c.complete_draft.ensures.writing.device.geometry c.in_ok-cut.ensures.owned))
