use Rattle.std.proofs.Common.{ap, ap₂, sym, subst, ◌∙◌, ◌≡◌, ◌<◌, ◌≤◌, ◌+◌, length}
use Rattle.std.specs.Prelude.{IsSome, OnOk}
use Rattle.lfs_thread.proofs.Common.{disk_of_blocks, cached_bytes, IsCacheCurrent, IsKeptOnDisk, ThreadView, disk_of_device, kept_in_order, cached_log, read_count, ThreadReportsErrors}
use Rattle.lfs_thread.specs.CachedLog.{loaded_cache}
use Rattle.lfs_thread.proofs.CachedLogs.{current_filled, filled_front, filled_there}
use Rattle.lfs_thread.proofs.Changing.{at_there, kept_read}
use Rattle.lfs_thread.proofs.Reported.{reported_from}
use Rattle.lfs_thread.proofs.CachedPair.{active_is, active_there, few_reads}
use Rattle.lfs_thread.proofs.thread.Thread.load_pair.Goals as goal

pub fill-requires : goal.fill-requires
fill-requires g c =
    let works = ap (λ (v : ThreadView). v.failed) c.self.view_is ∙ c.requires.works in
    let below = subst (λ (v : ThreadView). c.args.index < length v.kept.pairs) (sym c.self.view_is) c.requires.below in
    let disk = disk_of_device g.D.BlockDevice c.self.inside.parts.device in
    let a = at_there disk c.self.inside.parts.pairs.items c.args.index c.index.result.now below c.index.ensures in
    active_there disk _ c.self.inside.parts.pairs.items c.self.inside.parts.map c.args.index c.index.result.now a (c.self.invariant works).0 _ (g.met.D.BlockDevice.shape c.self.inside.parts.device).count

pub invariant_of-self : goal.invariant_of-self
invariant_of-self g c ok =
    let works = ap (λ (v : ThreadView). v.failed) c.self.view_is ∙ c.requires.works in
    let e = c.fill.ensures in (
      subst (λ d. IsKeptOnDisk d (g.D.BlockDevice.history c.fill.new.device) c.self.inside.parts.pairs.items c.self.inside.parts.map) (sym (ap₂ disk_of_blocks e.reading.device.geometry e.reading.device.same))
          (kept_read _ _ _ _ c.self.inside.parts.pairs.items c.self.inside.parts.map e.reading.device.reads (c.self.invariant works).0),
      subst (λ bs. IsCacheCurrent bs c.fill.new.self) (sym e.reading.device.same) (current_filled _ _ _ c.index.result.now.active c.fill.result e.filled e.err (c.self.invariant works).1),
    )

pub returns-clause-cached_log : goal.returns-clause-cached_log
returns-clause-cached_log g c =
    let works = ap (λ (v : ThreadView). v.failed) c.self.view_is ∙ c.requires.works in
    let below = subst (λ (v : ThreadView). c.args.index < length v.kept.pairs) (sym c.self.view_is) c.requires.below in
    let disk = disk_of_device g.D.BlockDevice c.self.inside.parts.device in
    let a = at_there disk c.self.inside.parts.pairs.items c.args.index c.index.result.now below c.index.ensures in
    let e = c.fill.ensures in
    let kept = subst (λ d. IsKeptOnDisk d (g.D.BlockDevice.history c.fill.new.device) c.self.inside.parts.pairs.items c.self.inside.parts.map) (sym (ap₂ disk_of_blocks e.reading.device.geometry e.reading.device.same))
    (kept_read _ _ _ _ c.self.inside.parts.pairs.items c.self.inside.parts.map e.reading.device.reads (c.self.invariant works).0) in
    subst (λ b. OnOk c.fill.result (IsSome (cached_bytes c.fill.new.self b)))
    (active_is (disk_of_device g.D.BlockDevice c.fill.new.device) (g.D.BlockDevice.history c.fill.new.device) c.self.inside.parts.pairs.items c.self.inside.parts.map c.args.index c.index.result.now a kept)
    (filled_there _ _ _ c.index.result.now.active c.fill.result e.filled)

pub returns-clause-no_call : goal.returns-clause-no_call
returns-clause-no_call g c there =
    let works = ap (λ (v : ThreadView). v.failed) c.self.view_is ∙ c.requires.works in
    let below = subst (λ (v : ThreadView). c.args.index < length v.kept.pairs) (sym c.self.view_is) c.requires.below in
    let disk = disk_of_device g.D.BlockDevice c.self.inside.parts.device in
    let a = at_there disk c.self.inside.parts.pairs.items c.args.index c.index.result.now below c.index.ensures in
    let here = subst (λ (v : ThreadView). IsSome (cached_log v c.args.index)) (sym c.self.view_is) there in
    let is = subst (λ b. IsSome (cached_bytes c.self.inside.parts.cache b))
    (sym (active_is disk (g.D.BlockDevice.history c.self.inside.parts.device) c.self.inside.parts.pairs.items c.self.inside.parts.map c.args.index c.index.result.now a (c.self.invariant works).0)) here in
    ap (λ d. kept_in_order g.D.BlockDevice c.self.inside.parts.order d c.self.inside.parts.pairs.items c.self.inside.parts.map) (c.fill.ensures.calls.no_call is) ∙ ap (λ (v : ThreadView). v.kept) c.self.view_is

pub returns-clause-few : goal.returns-clause-few
returns-clause-few g c =
    subst (λ (v : ThreadView). read_count (g.D.BlockDevice.history c.fill.new.device) ≤ read_count v.kept.history + 1) c.self.view_is
    (few_reads g.D.BlockDevice _ _ c.self.inside.parts.device c.fill.new.device c.fill.result c.fill.ensures.calls c.fill.ensures.reading.reports.errors)

pub returns-clause-errors : goal.returns-clause-errors
returns-clause-errors g c =
    let e = c.fill.ensures in
    subst (λ (v : ThreadView). ThreadReportsErrors v.kept (kept_in_order g.D.BlockDevice c.self.inside.parts.order c.fill.new.device c.self.inside.parts.pairs.items c.self.inside.parts.map) c.fill.result) c.self.view_is
    (reported_from g.D.BlockDevice c.self.inside.parts.order c.self.inside.parts.device c.fill.new.device c.self.inside.parts.pairs.items c.self.inside.parts.pairs.items c.self.inside.parts.map c.self.inside.parts.map c.fill.result (record { errors = e.reading.reports.errors; faults = e.reading.reports.faults; unwritten = λ no. e.reading.device }))

pub returns-clause-recent : goal.returns-clause-recent
returns-clause-recent g c =
    let works = ap (λ (v : ThreadView). v.failed) c.self.view_is ∙ c.requires.works in
    let below = subst (λ (v : ThreadView). c.args.index < length v.kept.pairs) (sym c.self.view_is) c.requires.below in
    let disk = disk_of_device g.D.BlockDevice c.self.inside.parts.device in
    let a = at_there disk c.self.inside.parts.pairs.items c.args.index c.index.result.now below c.index.ensures in
    let kept = (c.self.invariant works).0 in
    let at = active_is disk (g.D.BlockDevice.history c.self.inside.parts.device) c.self.inside.parts.pairs.items c.self.inside.parts.map c.args.index c.index.result.now a kept in
    subst (λ (v : ThreadView). OnOk c.fill.result (c.fill.new.self ≡ loaded_cache v c.args.index)) c.self.view_is
    (filled_front (g.D.BlockDevice.blocks c.self.inside.parts.device) c.self.inside.parts.cache c.fill.new.self c.index.result.now.active _ c.fill.result at (c.self.invariant works).1 c.fill.ensures.filled)
