use Rattle.std.proofs.Common.{◌≡◌, ◌∙◌, ap, refl, subst}
use Rattle.std.specs.Prelude.{IfSome}
use Rattle.lfs_device.specs.declared.geometry.Geometry.{Geometry}
use Rattle.lfs_model.specs.session.History.{LeftByLatestCall}
use Rattle.lfs_operations.specs.Wear.{IsRelocationPlanFor}
use Rattle.lfs_tree.proofs.Common.{Disk, TreeState, kept_thread}
use Rattle.lfs_tree.proofs.Recovered.{held_sound}
use Rattle.lfs_tree.proofs.SpreadWear.{newest_of}
use Rattle.lfs_tree.proofs.tree.Tree.plan_move.Goals as goal

pub returns-then-geometry-eq0-clause-planned : goal.returns-then-geometry-eq0-clause-planned
returns-then-geometry-eq0-clause-planned g c =
    let device = c.device-device.result.now in
    record {
      sound = held_sound c.self.inside.thread c.self.inside.root c.self.inside.is_writable c.args.self.now c.self.invariant c.self.view_is c.requires;
      newest = subst (λ (s : TreeState). LeftByLatestCall s.history s.disk.blocks) c.self.view_is
          (newest_of (g.D.BlockDevice.history device) c.self.inside.thread.kept.history (g.D.BlockDevice.blocks device) c.self.inside.thread.kept.disk.blocks (ap (λ (d : Disk). d.blocks) c.device-device.ensures.disk) c.device-device.ensures.history (g.met.D.BlockDevice.newest device));
      plan = tt;
      none = λ e. refl;
    }

pub returns-clause-planned : goal.returns-clause-planned
returns-clause-planned g c =
    let device = c.device-device.result.now in
    let cycles : c.geometry.result.profile.pair_cycles ≡ c.args.self.now.disk.profile.pair_cycles =
    ap (λ (x : Geometry). x.profile.pair_cycles) c.geometry.ensures ∙ ap (λ (d : Disk). d.profile.pair_cycles) c.device-device.ensures.disk ∙ ap (λ (s : TreeState). s.disk.profile.pair_cycles) c.self.view_is in
    record {
      sound = held_sound c.self.inside.thread c.self.inside.root c.self.inside.is_writable c.args.self.now c.self.invariant c.self.view_is c.requires;
      newest = subst (λ (s : TreeState). LeftByLatestCall s.history s.disk.blocks) c.self.view_is
          (newest_of (g.D.BlockDevice.history device) c.self.inside.thread.kept.history (g.D.BlockDevice.blocks device) c.self.inside.thread.kept.disk.blocks (ap (λ (d : Disk). d.blocks) c.device-device.ensures.disk) c.device-device.ensures.history (g.met.D.BlockDevice.newest device));
      plan = subst (λ (s : TreeState). IfSome c.plan_move.result (IsRelocationPlanFor (kept_thread s) c.args.room)) c.self.view_is c.plan_move.ensures.plan;
      none = λ e. absurd (c.if-geometry-eq0.false (cycles ∙ e));
    }
