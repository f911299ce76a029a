use Rattle.lfs_tree.proofs.Asking.{asking, held, rooted_held}
use Rattle.lfs_tree.proofs.tree.Tree.open_writer_contents.Goals as goal
use Rattle.std.proofs.Common.{ap, length, subst, sym, ◌≡◌}
use Rattle.std.specs.Prelude.{IfOk}
use Rattle.lfs_tree.proofs.Common.{file_bytes, visible_tree, contents_form, writer_contents_bytes, IsOpenedForm, KeptThread, ThreadView, TreeState}

pub invariant_of-self : goal.invariant_of-self
invariant_of-self g c =
    held c.self.inside.thread c.open_contents_at-contents.new.thread c.self.inside.root c.self.inside.is_writable (rooted_held c.self.inside.thread c.self.inside.root c.self.inside.is_writable c.args.self.now c.self.invariant c.self.view_is c.requires.works) c.open_contents_at-contents.result c.fail_on_error.new.thread c.fail_on_error.ensures c.open_contents_at-contents.ensures.reading

pub returns-clause-asks : goal.returns-clause-asks
returns-clause-asks g c =
    asking c.self.inside.thread c.open_contents_at-contents.new.thread c.self.inside.root c.self.inside.is_writable (rooted_held c.self.inside.thread c.self.inside.root c.self.inside.is_writable c.args.self.now c.self.invariant c.self.view_is c.requires.works) c.args.self.now c.open_contents_at-contents.result c.fail_on_error.new.thread c.self.view_is c.fail_on_error.ensures c.open_contents_at-contents.ensures.reading

pub returns-clause-bytes : goal.returns-clause-bytes
returns-clause-bytes g c =
    let r = c.open_contents_at-contents.result in
    subst (λ (k : KeptThread). IfOk r (λ x. writer_contents_bytes k x ≡ file_bytes (visible_tree c.args.self.now c.args.path.now))) (sym (ap (λ (t : ThreadView). t.kept) c.fail_on_error.ensures))
    (subst (λ (s : TreeState). IfOk r (λ x. writer_contents_bytes c.open_contents_at-contents.new.thread.kept x ≡ file_bytes (visible_tree s c.args.path.now))) c.self.view_is c.open_contents_at-contents.ensures.bytes)

pub returns-clause-form : goal.returns-clause-form
returns-clause-form g c =
    subst (λ (s : TreeState). IfOk c.open_contents_at-contents.result (λ x. IsOpenedForm s.disk.profile s.disk.block_size (length (file_bytes (visible_tree s c.args.path.now))) (contents_form x))) c.self.view_is c.open_contents_at-contents.ensures.form
