use Rattle.std.proofs.Common.{◌≡◌, ◌∙◌, ap, sym, subst, true}
use Rattle.std.specs.Prelude.{IfOk}
use Rattle.lfs_tree.proofs.Common.{is_file, in_flight_count, AreThreadContents, TreeState, visible_tree, ThreadView}
use Rattle.lfs_tree.proofs.Asking.{rooted_held}
use Rattle.lfs_tree.proofs.OpenedFiles.{idle_is, over_empty}
use Rattle.lfs_tree.proofs.tree.Tree.empty_contents.Goals as goal

pub empty_writer_contents-contents-requires : goal.empty_writer_contents-contents-requires
empty_writer_contents-contents-requires g c =
    let held = rooted_held c.self.inside.thread c.self.inside.root c.self.inside.is_writable c.args.self.now c.self.invariant c.self.view_is c.requires.works in
    idle_is c.self.inside.thread.kept (ap (λ (s : TreeState). in_flight_count s.map) c.self.view_is ∙ c.requires.idle) held.sound.size

pub returns-clause-over : goal.returns-clause-over
returns-clause-over g c path file =
    subst (λ (t : ThreadView). IfOk c.empty_writer_contents-contents.result (AreThreadContents t.kept path)) (sym c.fail_on_error.ensures)
    (over_empty c.self.inside.thread.kept path c.empty_writer_contents-contents.result (subst (λ (s : TreeState). is_file (visible_tree s path) ≡ true) (sym c.self.view_is) file) c.empty_writer_contents-contents.ensures.opened)
