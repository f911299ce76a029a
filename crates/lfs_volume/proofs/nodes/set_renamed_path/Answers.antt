use Rattle.std.proofs.Common.{List, Option, Some, ℕ, arith, sym, ap, ◌∙◌}
use Rattle.std.specs.Prelude.{slice_set}
use Rattle.std.specs.Option.{option_map}
use Rattle.lfs_volume.specs.Calls.{nodes_with_change_at, with_path}
use Rattle.lfs_volume.specs.Volume.{NodeView}
use Rattle.lfs_volume.proofs.NodeTables.{no_node_moves, node_moves, nothing_moves}
use Rattle.lfs_volume.proofs.nodes.set_renamed_path.Goals as goal

pub returns-in_default : goal.returns-in_default
returns-in_default c =
    nothing_moves c.args.nodes.now.items c.args.number ∙ ap (λ (o : Option (List ℕ)). nodes_with_change_at c.args.number (with_path o) c.args.nodes.now.items) (sym (ap (option_map (λ p. p.items)) c.in_default.is))

pub returns-in-Some-index_mut : goal.returns-in-Some-index_mut
returns-in-Some-index_mut c =
    ap (λ (m : NodeView). slice_set c.args.nodes.now.items c.args.number (Some m)) c.set_path.ensures
    ∙ node_moves c.args.nodes.now.items c.args.number c.index_mut.result.now (Some c.in-Some.path.items) (omega arith) c.index_mut.ensures.value c.in-Some-index_mut.node c.in-Some-index_mut.is
    ∙ ap (λ (o : Option (List ℕ)). nodes_with_change_at c.args.number (with_path o) c.args.nodes.now.items) (sym (ap (option_map (λ p. p.items)) c.in-Some.is))

pub returns-in_default-index_mut : goal.returns-in_default-index_mut
returns-in_default-index_mut c = no_node_moves c.args.nodes.now.items c.args.number c.index_mut.result.now (option_map (λ p. p.items) c.args.path) (omega arith) c.index_mut.ensures.value c.in_default-index_mut.is
