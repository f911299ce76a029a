use Rattle.std.proofs.Common.{◌∙◌, ◌==◌, ap}
use Rattle.lfs_tree.proofs.Common.{list_any, used_blocks, TreeState}
use Rattle.lfs_tree.proofs.Asking.{rooted_held}
use Rattle.lfs_tree.proofs.UsedBlocks.{used_is}
use Rattle.lfs_tree.proofs.tree.Tree.is_used.Goals as goal

pub returns : goal.returns
returns g c =
    let held = rooted_held c.self.inside.thread c.self.inside.root c.self.inside.is_writable c.args.self.now c.self.invariant c.self.view_is c.requires.works in
    let t = c.self.inside.thread.kept in
    used_is t.map (used_blocks t.disk t.pairs) c.args.block c.is_used.result held.sound.used c.is_used.ensures
    ∙ ap (λ (s : TreeState). list_any (λ b. b == c.args.block) (used_blocks s.disk s.pairs)) c.self.view_is
