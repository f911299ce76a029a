use Rattle.std.proofs.Common.{◌∙◌, ◌++◌, ◌∷◌, ◌-◌, [], ap, arith, length, length-append, take}
use Rattle.lfs_tree.proofs.Common.{map-append, items_view}
use Rattle.lfs_lookup.specs.Items.{item_view}
use Rattle.lfs_tree.proofs.Reached.{all_taken, none_taken, take_begins, taken_more}
use Rattle.lfs_tree.proofs.orphans.mark_directories.Goals as goal

pub loop-item-init : goal.loop-item-init
loop-item-init g c = none_taken c.args.thread.now.kept.pairs (items_view c.args.items.items) c.args.marks.now.items c.args.pending.now.items

pub mark_directory-requires-clause-begins : goal.mark_directory-requires-clause-begins
mark_directory-requires-clause-begins g c =
    let are = ap items_view c.in-Some.ensures.items ∙ map-append item_view c.pop.new.self.items (c.in-Some.item ∷ []) in
    take_begins c.args.thread.now.kept.pairs (items_view c.args.items.items) (items_view c.loop-item.items.items) (items_view c.pop.new.self.items) (item_view c.in-Some.item)
    c.args.marks.now.items c.loop-item.marks.items c.args.pending.now.items c.loop-item.pending.items are c.loop-item.invariant c.requires.begin

pub mark_directory-requires-clause-len : goal.mark_directory-requires-clause-len
mark_directory-requires-clause-len g c = c.loop-item.invariant.so_far.len ∙ c.requires.len

pub loop-item-smaller-in_ok-mark_directory : goal.loop-item-smaller-in_ok-mark_directory
loop-item-smaller-in_ok-mark_directory g c = let e = ap length c.in-Some.ensures.items in let l = length-append c.pop.new.self.items (c.in-Some.item ∷ []) in omega (arith, e, l)

pub loop-item-smaller : goal.loop-item-smaller
loop-item-smaller g c = let e = ap length c.in-Some.ensures.items in let l = length-append c.pop.new.self.items (c.in-Some.item ∷ []) in omega (arith, e, l)

pub loop-item-preserved-in_ok-mark_directory : goal.loop-item-preserved-in_ok-mark_directory
loop-item-preserved-in_ok-mark_directory g c =
    let are = ap items_view c.in-Some.ensures.items ∙ map-append item_view c.pop.new.self.items (c.in-Some.item ∷ []) in
    taken_more c.args.thread.now.kept.pairs (items_view c.args.items.items) (items_view c.loop-item.items.items) (items_view c.pop.new.self.items) (item_view c.in-Some.item)
    c.args.marks.now.items c.loop-item.marks.items c.mark_directory.new.marks.items c.args.pending.now.items c.loop-item.pending.items c.mark_directory.new.pending.items are c.loop-item.invariant c.in_ok-mark_directory.ensures

pub loop-item-preserved : goal.loop-item-preserved
loop-item-preserved g c =
    let are = ap items_view c.in-Some.ensures.items ∙ map-append item_view c.pop.new.self.items (c.in-Some.item ∷ []) in
    taken_more c.args.thread.now.kept.pairs (items_view c.args.items.items) (items_view c.loop-item.items.items) (items_view c.pop.new.self.items) (item_view c.in-Some.item)
    c.args.marks.now.items c.loop-item.marks.items c.mark_directory.new.marks.items c.args.pending.now.items c.loop-item.pending.items c.mark_directory.new.pending.items are c.loop-item.invariant c.in_ok-mark_directory.ensures

pub returns : goal.returns
returns g c = all_taken c.args.thread.now.kept.pairs (items_view c.args.items.items) (items_view c.loop-item.items.items) c.args.marks.now.items c.loop-item.marks.items c.args.pending.now.items c.loop-item.pending.items
    (ap items_view (c.in_default.ensures.items ∙ ap (λ items. items ++ []) (c.in_default.ensures.rest ∙ ap (λ n. take (n - 1) c.loop-item.items.items) c.in_default.ensures.cases.0)))
    c.loop-item.invariant
