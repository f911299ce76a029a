use Rattle.std.proofs.Common.{sym, subst}
use Rattle.std.specs.Prelude.{IfOk}
use Rattle.lfs_tree.proofs.Common.{CanTruncateIn, AreTreeContents, AreThreadContents, TreeState, ThreadView}
use Rattle.lfs_tree.proofs.Asking.{rooted_held}
use Rattle.lfs_tree.proofs.BesideWritten.{all_over, can_truncate, held_beside, writing}
use Rattle.lfs_tree.proofs.tree.Tree.truncate.Goals as goal

pub truncate_file-truncated-requires-clause-can : goal.truncate_file-truncated-requires-clause-can
truncate_file-truncated-requires-clause-can g c =
    let held = rooted_held c.self.inside.thread c.self.inside.root c.self.inside.is_writable c.args.self.now c.self.invariant c.self.view_is c.requires.works in
    can_truncate c.self.inside.thread.kept c.self.inside.is_writable held.sound c.self.inside.thread.failed c.args.contents c.args.size (subst (λ (s : TreeState). CanTruncateIn s c.args.contents c.args.size) (sym c.self.view_is) c.requires)

pub invariant_of-self : goal.invariant_of-self
invariant_of-self g c =
    let held = rooted_held c.self.inside.thread c.self.inside.root c.self.inside.is_writable c.args.self.now c.self.invariant c.self.view_is c.requires.works in
    held_beside c.self.inside.thread c.truncate_file-truncated.new.thread c.self.inside.root c.self.inside.is_writable held c.truncate_file-truncated.ensures.works c.truncate_file-truncated.ensures.leaves c.truncate_file-truncated.result c.fail_on_error.new.thread c.fail_on_error.ensures

pub returns-clause-over : goal.returns-clause-over
returns-clause-over g c path over =
    let held = rooted_held c.self.inside.thread c.self.inside.root c.self.inside.is_writable c.args.self.now c.self.invariant c.self.view_is c.requires.works in
    subst (λ (t : ThreadView). IfOk c.truncate_file-truncated.result (AreThreadContents t.kept path)) (sym c.fail_on_error.ensures)
    (all_over c.self.inside.thread c.truncate_file-truncated.new.thread c.self.inside.root c.self.inside.is_writable held c.truncate_file-truncated.ensures.works c.truncate_file-truncated.ensures.leaves
    path c.args.contents _ _ c.truncate_file-truncated.result (subst (λ (s : TreeState). AreTreeContents s path c.args.contents) (sym c.self.view_is) over) c.truncate_file-truncated.ensures.truncated c.truncate_file-truncated.ensures.owned)

pub returns-clause-writes : goal.returns-clause-writes
returns-clause-writes g c =
    let held = rooted_held c.self.inside.thread c.self.inside.root c.self.inside.is_writable c.args.self.now c.self.invariant c.self.view_is c.requires.works in
    writing c.self.inside.thread c.truncate_file-truncated.new.thread c.self.inside.root c.self.inside.is_writable held c.truncate_file-truncated.ensures.works c.truncate_file-truncated.ensures.leaves c.args.self.now c.truncate_file-truncated.result c.fail_on_error.new.thread c.self.view_is c.fail_on_error.ensures c.truncate_file-truncated.ensures.reports
