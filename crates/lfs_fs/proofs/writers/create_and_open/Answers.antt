use Rattle.std.proofs.Common.{◌∙◌, [], sym, subst, true, refl}
use Rattle.std.specs.Prelude.{IfSome}
use Rattle.lfs_model.specs.session.Operations as ops
use Rattle.lfs_fs.proofs.Common.{tree_creating, FileNode, IsCreationResult, CanCreateFile, PowerLossesLeaveEither, kept_thread, visible_tree, flags_view}
use Rattle.lfs_fs.proofs.Beginning.{begun_made}
use Rattle.lfs_fs.proofs.writers.create_and_open.Goals as goal

pub create-requires-clause-can : goal.create-requires-clause-can
create-requires-clause-can g c = subst (λ p. CanCreateFile c.args.tree.now p) (sym c.lend.ensures) c.requires.can

pub create-requires-clause-known : goal.create-requires-clause-known
create-requires-clause-known g c = subst (λ p. IfSome c.args.known (IsCreationResult (kept_thread c.args.tree.now) p)) (sym c.lend.ensures) c.requires.known

pub returns-clause-made : goal.returns-clause-made
returns-clause-made g c = λ bytes flags is write. (c.in_ok-create.ensures.does.done (ops.Open bytes flags) (bytes, (flags, (refl, is ∙ sym c.lend.ensures))), c.in_ok-create.ensures.does.alone (ops.Open bytes flags) (bytes, (flags, (refl, is ∙ sym c.lend.ensures))))

pub returns-clause-begun : goal.returns-clause-begun
returns-clause-begun g c =
    begun_made c.args.tree.now c.create.new.self c.path.inside.bytes.items (record (flags_view c.args.flags) { write = true }) c.args.path (flags_view c.args.flags) c.contains.result c.path.view_is c.requires.can
    (c.in_ok-create.ensures.does.done (ops.Open c.path.inside.bytes.items (record (flags_view c.args.flags) { write = true })) (c.path.inside.bytes.items, (record (flags_view c.args.flags) { write = true }, (refl, c.path.view_is ∙ sym c.lend.ensures)))) (c.contains.ensures tt)

pub returns-in_err-create-clause-survives : goal.returns-in_err-create-clause-survives
returns-in_err-create-clause-survives g c = subst (λ p. PowerLossesLeaveEither c.args.tree.now c.create.new.self (tree_creating p (FileNode [] []) (visible_tree c.args.tree.now))) c.lend.ensures c.create.ensures.does.survives

pub returns-clause-survives : goal.returns-clause-survives
returns-clause-survives g c = subst (λ p. PowerLossesLeaveEither c.args.tree.now c.create.new.self (tree_creating p (FileNode [] []) (visible_tree c.args.tree.now))) c.lend.ensures c.create.ensures.does.survives
