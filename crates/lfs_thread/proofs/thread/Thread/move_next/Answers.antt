use Rattle.std.proofs.Common.{◌∙◌, ◌∷◌, ◌≤◌, [], Err, Ok, Some, ap, arith, length, refl, true}
use Rattle.lfs_thread.specs.Moves.{pair_leading_to}
use Rattle.lfs_thread.proofs.Common.{PutTail, ThreadView, address_of_array}
use Rattle.lfs_thread.proofs.InOrder.{stops_in}
use Rattle.lfs_thread.proofs.Moving.{lead_in, left_moved_from, moved_from, never_full}
use Rattle.lfs_thread.proofs.Reported.{reported_again}
use Rattle.lfs_thread.proofs.thread.Thread.move_next.Goals as goal

pub join-requires-clause-can : goal.join-requires-clause-can
join-requires-clause-can g c =
    let few : length (g.D.BlockDevice.blocks c.self.inside.parts.device) ≤ 65536 = let s = (g.met.D.BlockDevice.shape c.self.inside.parts.device).count in let m = (g.D.BlockDevice.geometry c.self.inside.parts.device).valid.no_more in omega arith in
    let works = ap (λ (v : ThreadView). v.failed) c.self.view_is ∙ c.requires.works in
    let made = lead_in g.D.BlockDevice c.self.inside.parts.order c.self.inside.parts.device c.self.inside.parts.pairs.items c.self.inside.parts.map c.args.index (address_of_array c.args.fresh) few (c.self.invariant works).0 c.args.self.now.kept (ap (λ (v : ThreadView). v.kept) c.self.view_is) c.requires.can in
    record { below = let b = c.requires.can.below in omega (arith, b); content = (pair_leading_to c.args.self.now.kept c.args.index (address_of_array c.args.fresh)).content; made = made; next = refl; held = c.requires.can.held }

pub unreachable-requires : goal.unreachable-requires
unreachable-requires g c =
    let few : length (g.D.BlockDevice.blocks c.self.inside.parts.device) ≤ 65536 = let s = (g.met.D.BlockDevice.shape c.self.inside.parts.device).count in let m = (g.D.BlockDevice.geometry c.self.inside.parts.device).valid.no_more in omega arith in
    let works = ap (λ (v : ThreadView). v.failed) c.self.view_is ∙ c.requires.works in
    let made = lead_in g.D.BlockDevice c.self.inside.parts.order c.self.inside.parts.device c.self.inside.parts.pairs.items c.self.inside.parts.map c.args.index (address_of_array c.args.fresh) few (c.self.invariant works).0 c.args.self.now.kept (ap (λ (v : ThreadView). v.kept) c.self.view_is) c.requires.can in
    let fits = c.requires.can.fits in
    never_full c.args.self.now.kept c.args.index (address_of_array c.args.fresh) (PutTail true (Some (address_of_array c.args.fresh)) ∷ []) (pair_leading_to c.args.self.now.kept c.args.index (address_of_array c.args.fresh)).content made (c.join.ensures.full (c.in-Ok-Full.is ∙ ap Ok c.in-Ok-Full.field-0-is)) (record { size = fits.size; count = fits.count })

pub returns-in-Ok-Done-clause-done : goal.returns-in-Ok-Done-clause-done
returns-in-Ok-Done-clause-done g c =
    let few : length (g.D.BlockDevice.blocks c.self.inside.parts.device) ≤ 65536 = let s = (g.met.D.BlockDevice.shape c.self.inside.parts.device).count in let m = (g.D.BlockDevice.geometry c.self.inside.parts.device).valid.no_more in omega arith in
    let works = ap (λ (v : ThreadView). v.failed) c.self.view_is ∙ c.requires.works in
    let made = lead_in g.D.BlockDevice c.self.inside.parts.order c.self.inside.parts.device c.self.inside.parts.pairs.items c.self.inside.parts.map c.args.index (address_of_array c.args.fresh) few (c.self.invariant works).0 c.args.self.now.kept (ap (λ (v : ThreadView). v.kept) c.self.view_is) c.requires.can in
    moved_from c.args.self.now.kept c.args.index (address_of_array c.args.fresh) (PutTail true (Some (address_of_array c.args.fresh)) ∷ []) made (c.join.ensures.done (c.in-Ok-Done.is ∙ ap Ok c.in-Ok-Done.field-0-is))

pub returns-in-Ok-Done-clause-stops : goal.returns-in-Ok-Done-clause-stops
returns-in-Ok-Done-clause-stops g c =
    let few : length (g.D.BlockDevice.blocks c.self.inside.parts.device) ≤ 65536 = let s = (g.met.D.BlockDevice.shape c.self.inside.parts.device).count in let m = (g.D.BlockDevice.geometry c.self.inside.parts.device).valid.no_more in omega arith in
    let works = ap (λ (v : ThreadView). v.failed) c.self.view_is ∙ c.requires.works in
    let made = lead_in g.D.BlockDevice c.self.inside.parts.order c.self.inside.parts.device c.self.inside.parts.pairs.items c.self.inside.parts.map c.args.index (address_of_array c.args.fresh) few (c.self.invariant works).0 c.args.self.now.kept (ap (λ (v : ThreadView). v.kept) c.self.view_is) c.requires.can in
    stops_in (left_moved_from c.args.self.now.kept c.args.index (address_of_array c.args.fresh) (PutTail true (Some (address_of_array c.args.fresh)) ∷ []) made) c.join.ensures.stops

pub returns-in-Err-clause-errors : goal.returns-in-Err-clause-errors
returns-in-Err-clause-errors g c = reported_again c.in-Err.error c.join.result (Err c.in-Err.error) c.in-Err.is refl c.join.ensures.errors

pub returns-in-Err-clause-stops : goal.returns-in-Err-clause-stops
returns-in-Err-clause-stops g c =
    let few : length (g.D.BlockDevice.blocks c.self.inside.parts.device) ≤ 65536 = let s = (g.met.D.BlockDevice.shape c.self.inside.parts.device).count in let m = (g.D.BlockDevice.geometry c.self.inside.parts.device).valid.no_more in omega arith in
    let works = ap (λ (v : ThreadView). v.failed) c.self.view_is ∙ c.requires.works in
    let made = lead_in g.D.BlockDevice c.self.inside.parts.order c.self.inside.parts.device c.self.inside.parts.pairs.items c.self.inside.parts.map c.args.index (address_of_array c.args.fresh) few (c.self.invariant works).0 c.args.self.now.kept (ap (λ (v : ThreadView). v.kept) c.self.view_is) c.requires.can in
    stops_in (left_moved_from c.args.self.now.kept c.args.index (address_of_array c.args.fresh) (PutTail true (Some (address_of_array c.args.fresh)) ∷ []) made) c.join.ensures.stops
