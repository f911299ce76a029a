use Rattle.std.proofs.Common.{◌∙◌, ◌-◌, ◌≤◌, Err, List, Ok, ap, arith, length, refl}
use Rattle.lfs_thread.specs.Unloads.{unloaded_pair}
use Rattle.lfs_thread.proofs.Common.{ContentChange, ThreadView, address_of_array, changes_view, complete_after, thread_pair}
use Rattle.lfs_thread.proofs.InOrder.{stops_in}
use Rattle.lfs_thread.proofs.Moving.{fewer_fit, gone_count, hard_to, leave_in, left_unloaded_from, never_full, unloaded_from}
use Rattle.lfs_thread.proofs.Reported.{reported_again}
use Rattle.lfs_thread.proofs.thread.Thread.unload.Goals as goal

pub overflow_sub-count : goal.overflow_sub-count
overflow_sub-count g c = let held = c.slot_count.ensures in let from = c.from.ensures in let all = c.requires.can.slots in omega (arith, held, all, from)

pub join-requires-clause-can : goal.join-requires-clause-can
join-requires-clause-can g c =
    let few : length (g.D.BlockDevice.blocks c.self.inside.parts.device) ≤ 65536 = let s = (g.met.D.BlockDevice.shape c.self.inside.parts.device).count in let m = (g.D.BlockDevice.geometry c.self.inside.parts.device).valid.no_more in omega arith in
    let works = ap (λ (v : ThreadView). v.failed) c.self.view_is ∙ c.requires.works in
    let made = ap (λ (x : List ContentChange). complete_after c.args.self.now.kept c.args.index x) (ap changes_view c.deref.ensures.value ∙ c.in-Ok.ensures.changes)
    ∙ leave_in g.D.BlockDevice c.self.inside.parts.order c.self.inside.parts.device c.self.inside.parts.pairs.items c.self.inside.parts.map c.args.index (address_of_array c.args.fresh) few (c.self.invariant works).0 c.args.self.now.kept (ap (λ (v : ThreadView). v.kept) c.self.view_is)
    c.args.keep (c.slot_count.result - c.from.result) c.requires.can (gone_count c.slot_count.ensures c.from.ensures c.requires.can.slots) in
    record { below = c.requires.can.below; content = (unloaded_pair c.args.self.now.kept c.args.index (address_of_array c.args.fresh) c.args.keep).content; made = made; next = refl; held = c.requires.can.held }

pub unreachable-requires : goal.unreachable-requires
unreachable-requires g c =
    let few : length (g.D.BlockDevice.blocks c.self.inside.parts.device) ≤ 65536 = let s = (g.met.D.BlockDevice.shape c.self.inside.parts.device).count in let m = (g.D.BlockDevice.geometry c.self.inside.parts.device).valid.no_more in omega arith in
    let works = ap (λ (v : ThreadView). v.failed) c.self.view_is ∙ c.requires.works in
    let made = ap (λ (x : List ContentChange). complete_after c.args.self.now.kept c.args.index x) (ap changes_view c.deref.ensures.value ∙ c.in-Ok.ensures.changes)
    ∙ leave_in g.D.BlockDevice c.self.inside.parts.order c.self.inside.parts.device c.self.inside.parts.pairs.items c.self.inside.parts.map c.args.index (address_of_array c.args.fresh) few (c.self.invariant works).0 c.args.self.now.kept (ap (λ (v : ThreadView). v.kept) c.self.view_is)
    c.args.keep (c.slot_count.result - c.from.result) c.requires.can (gone_count c.slot_count.ensures c.from.ensures c.requires.can.slots) in
    let p = thread_pair c.args.self.now.kept c.args.index in
    never_full c.args.self.now.kept c.args.index (address_of_array c.args.fresh) (changes_view c.deref.result.now) (unloaded_pair c.args.self.now.kept c.args.index (address_of_array c.args.fresh) c.args.keep).content made (c.join.ensures.full (c.in-Ok-Full.is ∙ ap Ok c.in-Ok-Full.field-0-is))
    (fewer_fit _ _ c.args.keep p.content (hard_to (address_of_array c.args.fresh)) c.requires.can.fits)

pub returns-in-Ok-Done-clause-done : goal.returns-in-Ok-Done-clause-done
returns-in-Ok-Done-clause-done g c =
    let few : length (g.D.BlockDevice.blocks c.self.inside.parts.device) ≤ 65536 = let s = (g.met.D.BlockDevice.shape c.self.inside.parts.device).count in let m = (g.D.BlockDevice.geometry c.self.inside.parts.device).valid.no_more in omega arith in
    let works = ap (λ (v : ThreadView). v.failed) c.self.view_is ∙ c.requires.works in
    let made = ap (λ (x : List ContentChange). complete_after c.args.self.now.kept c.args.index x) (ap changes_view c.deref.ensures.value ∙ c.in-Ok.ensures.changes)
    ∙ leave_in g.D.BlockDevice c.self.inside.parts.order c.self.inside.parts.device c.self.inside.parts.pairs.items c.self.inside.parts.map c.args.index (address_of_array c.args.fresh) few (c.self.invariant works).0 c.args.self.now.kept (ap (λ (v : ThreadView). v.kept) c.self.view_is)
    c.args.keep (c.slot_count.result - c.from.result) c.requires.can (gone_count c.slot_count.ensures c.from.ensures c.requires.can.slots) in
    unloaded_from c.args.self.now.kept c.args.index (address_of_array c.args.fresh) (changes_view c.deref.result.now) c.args.keep made (c.join.ensures.done (c.in-Ok-Done.is ∙ ap Ok c.in-Ok-Done.field-0-is))

pub returns-in-Ok-Done-clause-stops : goal.returns-in-Ok-Done-clause-stops
returns-in-Ok-Done-clause-stops g c =
    let few : length (g.D.BlockDevice.blocks c.self.inside.parts.device) ≤ 65536 = let s = (g.met.D.BlockDevice.shape c.self.inside.parts.device).count in let m = (g.D.BlockDevice.geometry c.self.inside.parts.device).valid.no_more in omega arith in
    let works = ap (λ (v : ThreadView). v.failed) c.self.view_is ∙ c.requires.works in
    let made = ap (λ (x : List ContentChange). complete_after c.args.self.now.kept c.args.index x) (ap changes_view c.deref.ensures.value ∙ c.in-Ok.ensures.changes)
    ∙ leave_in g.D.BlockDevice c.self.inside.parts.order c.self.inside.parts.device c.self.inside.parts.pairs.items c.self.inside.parts.map c.args.index (address_of_array c.args.fresh) few (c.self.invariant works).0 c.args.self.now.kept (ap (λ (v : ThreadView). v.kept) c.self.view_is)
    c.args.keep (c.slot_count.result - c.from.result) c.requires.can (gone_count c.slot_count.ensures c.from.ensures c.requires.can.slots) in
    stops_in (left_unloaded_from c.args.self.now.kept c.args.index (address_of_array c.args.fresh) (changes_view c.deref.result.now) c.args.keep made) c.join.ensures.stops

pub returns-clause-errors : goal.returns-clause-errors
returns-clause-errors g c = reported_again c.in-Err-join.error c.join.result (Err c.in-Err-join.error) c.in-Err-join.is refl c.join.ensures.errors

pub returns-clause-stops : goal.returns-clause-stops
returns-clause-stops g c =
    let few : length (g.D.BlockDevice.blocks c.self.inside.parts.device) ≤ 65536 = let s = (g.met.D.BlockDevice.shape c.self.inside.parts.device).count in let m = (g.D.BlockDevice.geometry c.self.inside.parts.device).valid.no_more in omega arith in
    let works = ap (λ (v : ThreadView). v.failed) c.self.view_is ∙ c.requires.works in
    let made = ap (λ (x : List ContentChange). complete_after c.args.self.now.kept c.args.index x) (ap changes_view c.deref.ensures.value ∙ c.in-Ok.ensures.changes)
    ∙ leave_in g.D.BlockDevice c.self.inside.parts.order c.self.inside.parts.device c.self.inside.parts.pairs.items c.self.inside.parts.map c.args.index (address_of_array c.args.fresh) few (c.self.invariant works).0 c.args.self.now.kept (ap (λ (v : ThreadView). v.kept) c.self.view_is)
    c.args.keep (c.slot_count.result - c.from.result) c.requires.can (gone_count c.slot_count.ensures c.from.ensures c.requires.can.slots) in
    stops_in (left_unloaded_from c.args.self.now.kept c.args.index (address_of_array c.args.fresh) (changes_view c.deref.result.now) c.args.keep made) c.join.ensures.stops
