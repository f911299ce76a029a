use Rattle.std.proofs.Common.{ℕ, ◌≡◌, ◌<◌, ◌≤◌, List, length, Option, Some, subst, ap, ap₂, ◌∙◌, arith}
use Rattle.std.specs.List.{position_or_len}
use Rattle.lfs_volume.specs.Calls.{free_entry_index, has_path, with_entry}
use Rattle.lfs_volume.specs.Volume.{NodeView}
use Rattle.lfs_volume.proofs.PutEntries.{is_added, stays_open}
use Rattle.lfs_volume.proofs.nodes.find_or_add.Goals as goal

pub returns-then-open-len-clause-nodes : goal.returns-then-open-len-clause-nodes
returns-then-open-len-clause-nodes c =
    let at : c.find_node_index-open.result ≡ position_or_len (has_path c.args.path.items) c.args.nodes.now.items = c.find_node_index-open.ensures ∙ ap₂ (λ (p : List ℕ) (ns : List (Option NodeView)). position_or_len (has_path p) ns) c.deref-2.ensures.value c.deref.ensures.value in
    let less : c.find_node_index-open.result < length c.args.nodes.now.items = omega arith in
    stays_open c.args.nodes.now.items c.args.path.items c.args.size (subst (λ i. i < length c.args.nodes.now.items) at less)

pub returns-clause-nodes : goal.returns-clause-nodes
returns-clause-nodes c =
    let at : c.find_node_index-open.result ≡ position_or_len (has_path c.args.path.items) c.args.nodes.now.items = c.find_node_index-open.ensures ∙ ap₂ (λ (p : List ℕ) (ns : List (Option NodeView)). position_or_len (has_path p) ns) c.deref-2.ensures.value c.deref.ensures.value in
    let past : length c.args.nodes.now.items ≤ c.find_node_index-open.result = omega arith in
    c.put_entry.ensures ∙ ap₂ (λ (i : ℕ) (n : NodeView). with_entry c.args.nodes.now.items i (Some n)) (c.free_entry_index-number.ensures ∙ ap (λ (ns : List (Option NodeView)). free_entry_index ns) c.deref-3.ensures.value) c.opened.ensures
    ∙ is_added c.args.nodes.now.items c.args.path.items c.args.size (subst (λ i. length c.args.nodes.now.items ≤ i) at past)
