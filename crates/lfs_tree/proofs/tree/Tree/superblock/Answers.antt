use Rattle.std.proofs.Common.{◌≡◌, ◌≤◌, ◌+◌, Some, subst, sym}
use Rattle.std.specs.Prelude.{IfOk}
use Rattle.lfs_tree.proofs.Common.{read_count, TreeState, ThreadView}
use Rattle.lfs_model.specs.tree.Profile.{image_superblock_fields}
use Rattle.lfs_tag.specs.FieldsView.{superblock_view}
use Rattle.lfs_tree.proofs.Asking.{asking, held, rooted_held}
use Rattle.lfs_tree.proofs.tree.Tree.superblock.Goals as goal

pub invariant_of-self : goal.invariant_of-self
invariant_of-self g c =
    held c.self.inside.thread c.superblock-superblock.new.thread c.self.inside.root c.self.inside.is_writable (rooted_held c.self.inside.thread c.self.inside.root c.self.inside.is_writable c.args.self.now c.self.invariant c.self.view_is c.requires) c.superblock-superblock.result c.fail_on_error.new.thread c.fail_on_error.ensures c.superblock-superblock.ensures.reading

pub returns-clause-asks : goal.returns-clause-asks
returns-clause-asks g c =
    asking c.self.inside.thread c.superblock-superblock.new.thread c.self.inside.root c.self.inside.is_writable (rooted_held c.self.inside.thread c.self.inside.root c.self.inside.is_writable c.args.self.now c.self.invariant c.self.view_is c.requires) c.args.self.now c.superblock-superblock.result c.fail_on_error.new.thread c.self.view_is c.fail_on_error.ensures c.superblock-superblock.ensures.reading

pub returns-clause-is : goal.returns-clause-is
returns-clause-is g c =
    subst (λ (s : TreeState). IfOk c.superblock-superblock.result (λ f. image_superblock_fields s.pairs ≡ Some (superblock_view f))) c.self.view_is c.superblock-superblock.ensures.is

pub returns-clause-few : goal.returns-clause-few
returns-clause-few g c =
    subst (λ (t : ThreadView). read_count t.kept.history ≤ read_count c.args.self.now.history + 1) (sym c.fail_on_error.ensures)
    (subst (λ (s : TreeState). read_count c.superblock-superblock.new.thread.kept.history ≤ read_count s.history + 1) c.self.view_is c.superblock-superblock.ensures.few)
