use Rattle.std.proofs.Common.{◌∙◌, ap, false, length}
use Rattle.lfs_tree.proofs.Common.{used_blocks, uncached_state, TreeState}
use Rattle.lfs_tree.proofs.Asking.{rooted_held}
use Rattle.lfs_tree.proofs.UsedBlocks.{count_is}
use Rattle.lfs_tree.proofs.tree.Tree.used_count.Goals as goal

pub returns : goal.returns
returns g c =
    let held = rooted_held c.self.inside.thread c.self.inside.root c.self.inside.is_writable c.args.self.now c.self.invariant c.self.view_is c.requires in
    c.used_count.ensures ∙ count_is (uncached_state c.self.inside.thread.kept c.self.inside.is_writable false) held.sound
    ∙ ap (λ (s : TreeState). length (used_blocks s.disk s.pairs)) c.self.view_is
