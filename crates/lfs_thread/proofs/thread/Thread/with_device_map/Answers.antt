use Rattle.std.proofs.Common.{◌≡◌, refl, sym, ap, subst, ◌∙◌}
use Rattle.lfs_thread.proofs.Common.{ThreadView, disk_of_device, kept_of_device, disk_with_order, KeepsPairBlocks}
use Rattle.lfs_blocks.specs.UsedBlocks.{KeepsUsed}
use Rattle.lfs_thread.proofs.InOrder.{leaves_in}
use Rattle.lfs_thread.proofs.Beside.{kept_left, pairs_left, used_stay_current}
use Rattle.lfs_thread.proofs.thread.Thread.with_device_map.Goals as goal

pub work-requires : goal.work-requires
work-requires g c =
    (c.requires.can c.self.inside.parts.device c.self.inside.parts.map
    (record { disk = subst (λ (v : ThreadView). disk_with_order v.kept.disk.order (disk_of_device g.D.BlockDevice c.self.inside.parts.device) ≡ v.kept.disk) c.self.view_is refl; history = ap (λ (v : ThreadView). v.kept.history) c.self.view_is; map = ap (λ (v : ThreadView). v.kept.map) c.self.view_is })).can
    _ _ refl refl

pub invariant_of-self : goal.invariant_of-self
invariant_of-self g c _ =
    let works = ap (λ (v : ThreadView). v.failed) c.self.view_is ∙ c.requires.works in
    let leaves = c.requires.leaves c.self.inside.parts.device c.self.inside.parts.map c.work.result c.work.new.arg2 c.work.new.arg3
    (record { disk = subst (λ (v : ThreadView). disk_with_order v.kept.disk.order (disk_of_device g.D.BlockDevice c.self.inside.parts.device) ≡ v.kept.disk) c.self.view_is refl; history = ap (λ (v : ThreadView). v.kept.history) c.self.view_is; map = ap (λ (v : ThreadView). v.kept.map) c.self.view_is })
    (record { shown = _; shows = refl; shown_map = _; shows_map = refl; left = _; left_map = _; met = c.work.ensures; leaves = refl; leaves_map = refl }) in
    let here = leaves_in g.D.BlockDevice c.self.inside.parts.order (kept_of_device g.D.BlockDevice c.self.inside.parts.device c.self.inside.parts.pairs.items c.self.inside.parts.map) c.self.inside.parts.device c.self.inside.parts.map c.work.new.arg2 c.work.new.arg3
    (subst (λ (v : ThreadView). KeepsPairBlocks g.D.BlockDevice v.kept c.self.inside.parts.device c.self.inside.parts.map c.work.new.arg2 c.work.new.arg3) (sym c.self.view_is) leaves) in (
      kept_left g.D.BlockDevice c.self.inside.parts.device c.self.inside.parts.map c.work.new.arg2 c.work.new.arg3 c.self.inside.parts.pairs.items (c.self.invariant works).0 here,
      used_stay_current (g.D.BlockDevice.blocks c.self.inside.parts.device) (g.D.BlockDevice.blocks c.work.new.arg2) c.self.inside.parts.map c.self.inside.parts.cache c.forget_unused.new.self
          c.forget_unused.ensures (c.self.invariant works).1 leaves.same,
    )

pub returns-clause-ran : goal.returns-clause-ran
returns-clause-ran g c = record {
  device = c.self.inside.parts.device;
  map = c.self.inside.parts.map;
  later = c.work.new.arg2;
  later_map = c.work.new.arg3;
  before = record { disk = subst (λ (v : ThreadView). disk_with_order v.kept.disk.order (disk_of_device g.D.BlockDevice c.self.inside.parts.device) ≡ v.kept.disk) c.self.view_is refl; history = ap (λ (v : ThreadView). v.kept.history) c.self.view_is; map = ap (λ (v : ThreadView). v.kept.map) c.self.view_is };
  after = record { disk = refl; history = refl; map = refl };
  order = ap (λ (v : ThreadView). v.kept.disk.order) c.self.view_is;
  run = record { shown = _; shows = refl; shown_map = _; shows_map = refl; left = _; left_map = _; met = c.work.ensures; leaves = refl; leaves_map = refl };
}

pub returns-clause-pairs : goal.returns-clause-pairs
returns-clause-pairs g c =
    let works = ap (λ (v : ThreadView). v.failed) c.self.view_is ∙ c.requires.works in
    let leaves = c.requires.leaves c.self.inside.parts.device c.self.inside.parts.map c.work.result c.work.new.arg2 c.work.new.arg3
    (record { disk = subst (λ (v : ThreadView). disk_with_order v.kept.disk.order (disk_of_device g.D.BlockDevice c.self.inside.parts.device) ≡ v.kept.disk) c.self.view_is refl; history = ap (λ (v : ThreadView). v.kept.history) c.self.view_is; map = ap (λ (v : ThreadView). v.kept.map) c.self.view_is })
    (record { shown = _; shows = refl; shown_map = _; shows_map = refl; left = _; left_map = _; met = c.work.ensures; leaves = refl; leaves_map = refl }) in
    let here = leaves_in g.D.BlockDevice c.self.inside.parts.order (kept_of_device g.D.BlockDevice c.self.inside.parts.device c.self.inside.parts.pairs.items c.self.inside.parts.map) c.self.inside.parts.device c.self.inside.parts.map c.work.new.arg2 c.work.new.arg3
    (subst (λ (v : ThreadView). KeepsPairBlocks g.D.BlockDevice v.kept c.self.inside.parts.device c.self.inside.parts.map c.work.new.arg2 c.work.new.arg3) (sym c.self.view_is) leaves) in
    pairs_left g.D.BlockDevice c.self.inside.parts.device c.self.inside.parts.map c.work.new.arg2 c.work.new.arg3 c.self.inside.parts.pairs.items (c.self.invariant works).0 here
    ∙ ap (λ (v : ThreadView). v.kept.pairs) c.self.view_is

pub returns-clause-cache : goal.returns-clause-cache
returns-clause-cache g c = subst (λ (v : ThreadView). KeepsUsed v.kept.map v.cache c.forget_unused.new.self) c.self.view_is c.forget_unused.ensures
