use Rattle.std.proofs.Common.{sym, subst}
use Rattle.std.specs.Prelude.{IfOk, length}
use Rattle.lfs_tree.proofs.Common.{CanWriteIn, AreTreeContents, AreThreadContents, TreeState, ThreadView}
use Rattle.lfs_tree.proofs.Asking.{rooted_held}
use Rattle.lfs_tree.proofs.BesideWritten.{all_over, can_write, held_beside, writing}
use Rattle.lfs_tree.proofs.tree.Tree.write.Goals as goal

pub write_file-written-requires-clause-can : goal.write_file-written-requires-clause-can
write_file-written-requires-clause-can g c =
    let held = rooted_held c.self.inside.thread c.self.inside.root c.self.inside.is_writable c.args.self.now c.self.invariant c.self.view_is c.requires.works in
    can_write c.self.inside.thread.kept c.self.inside.is_writable held.sound c.self.inside.thread.failed c.args.contents c.args.place (length c.args.bytes.now) (subst (λ (s : TreeState). CanWriteIn s c.args.contents c.args.place (length c.args.bytes.now)) (sym c.self.view_is) c.requires)

pub invariant_of-self : goal.invariant_of-self
invariant_of-self g c =
    let held = rooted_held c.self.inside.thread c.self.inside.root c.self.inside.is_writable c.args.self.now c.self.invariant c.self.view_is c.requires.works in
    held_beside c.self.inside.thread c.write_file-written.new.thread c.self.inside.root c.self.inside.is_writable held c.write_file-written.ensures.works c.write_file-written.ensures.leaves c.write_file-written.result c.fail_on_error.new.thread c.fail_on_error.ensures

pub returns-clause-over : goal.returns-clause-over
returns-clause-over g c path over =
    let held = rooted_held c.self.inside.thread c.self.inside.root c.self.inside.is_writable c.args.self.now c.self.invariant c.self.view_is c.requires.works in
    subst (λ (t : ThreadView). IfOk c.write_file-written.result (AreThreadContents t.kept path)) (sym c.fail_on_error.ensures)
    (all_over c.self.inside.thread c.write_file-written.new.thread c.self.inside.root c.self.inside.is_writable held c.write_file-written.ensures.works c.write_file-written.ensures.leaves
    path c.args.contents _ _ c.write_file-written.result (subst (λ (s : TreeState). AreTreeContents s path c.args.contents) (sym c.self.view_is) over) c.write_file-written.ensures.written c.write_file-written.ensures.owned)

pub returns-clause-writes : goal.returns-clause-writes
returns-clause-writes g c =
    let held = rooted_held c.self.inside.thread c.self.inside.root c.self.inside.is_writable c.args.self.now c.self.invariant c.self.view_is c.requires.works in
    writing c.self.inside.thread c.write_file-written.new.thread c.self.inside.root c.self.inside.is_writable held c.write_file-written.ensures.works c.write_file-written.ensures.leaves c.args.self.now c.write_file-written.result c.fail_on_error.new.thread c.self.view_is c.fail_on_error.ensures c.write_file-written.ensures.reports
