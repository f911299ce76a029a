use Rattle.std.proofs.Common.{sym, subst, arith}
use Rattle.std.specs.Prelude.{IfSome}
use Rattle.lfs_tree.proofs.Common.{IsPairAt, MarksAndQueues, IsFirstPairOfStruct, HasFirstPairIfDirectory}
use Rattle.lfs_model.specs.format.Slots.{address_of_array}
use Rattle.lfs_lookup.specs.Items.{owned_view}
use Rattle.lfs_lookup.proofs.Directories.{number_some, number_within}
use Rattle.lfs_tree.proofs.Reached.{mark_named}
use Rattle.lfs_tree.proofs.orphans.mark_directory.Goals as goal

pub unwrap-number-requires : goal.unwrap-number-requires
unwrap-number-requires g c =
    let begins = subst (λ s. HasFirstPairIfDirectory c.args.thread.now.kept.pairs (owned_view s)) c.in-Branch.is c.requires.begins in
    number_some c.args.thread.now.kept.pairs (address_of_array c.in-Branch.to) c.number_at_address.result c.number_at_address.ensures.nowhere begins.0 begins.1

pub mark_reached-requires : goal.mark_reached-requires
mark_reached-requires g c =
    let l = number_within c.args.thread.now.kept.pairs (address_of_array c.in-Branch.to) c.number_at_address.result c.unwrap-number.result c.unwrap-number.ensures c.number_at_address.ensures.there in
    let e = c.requires.len in
    omega (arith, l, e)

pub returns-in_ok-mark_reached : goal.returns-in_ok-mark_reached
returns-in_ok-mark_reached g c =
    let ps = c.args.thread.now.kept.pairs in
    subst (λ s. MarksAndQueues (IsFirstPairOfStruct c.args.thread.now.kept.pairs (owned_view s)) c.args.marks.now.items c.args.pending.now.items c.mark_reached.new.marks.items c.mark_reached.new.pending.items) (sym c.in-Branch.is)
    (mark_named c.args.thread.now.kept.disk ps (address_of_array c.in-Branch.to) c.unwrap-number.result c.args.marks.now.items c.mark_reached.new.marks.items c.args.pending.now.items c.mark_reached.new.pending.items c.requires.accepted
    (subst (λ o. IfSome o (IsPairAt ps (address_of_array c.in-Branch.to))) c.unwrap-number.ensures c.number_at_address.ensures.there) c.in_ok-mark_reached.ensures)
