use Rattle.std.proofs.Common.{sym, ap, ◌∙◌}
use Rattle.lfs_volume.specs.Calls.{nodes_after_open}
use Rattle.lfs_volume.proofs.PutEntries.{cut_open}
use Rattle.lfs_volume.proofs.nodes.open_node.Goals as goal

pub returns-then-not-truncates-clause-nodes : goal.returns-then-not-truncates-clause-nodes
returns-then-not-truncates-clause-nodes c = c.find_or_add-number.ensures.nodes ∙ ap (λ b. nodes_after_open c.args.path.items c.args.size b c.args.nodes.now.items) (sym c.if-not-truncates.true)

pub returns-clause-nodes : goal.returns-clause-nodes
returns-clause-nodes c =
    cut_open c.args.nodes.now.items c.find_or_add-number.new.nodes.items c.clear_node_at.new.nodes.items c.args.path.items c.args.size c.find_or_add-number.result c.find_or_add-number.ensures.number c.find_or_add-number.ensures.nodes c.clear_node_at.ensures
    ∙ ap (λ b. nodes_after_open c.args.path.items c.args.size b c.args.nodes.now.items) (sym c.if-not-truncates.false)
