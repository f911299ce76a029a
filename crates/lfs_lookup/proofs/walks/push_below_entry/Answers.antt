use Rattle.std.proofs.Common.{ℕ, ◌≡◌, false, List, sym, subst}
use Rattle.std.specs.Prelude.{IfNone, IfSome}
use Rattle.lfs_lookup.proofs.Common.{AllByRecursion, address_of_array, same_pair, SameAddressAt, owned_view, AreEntriesPushed, HasFirstPairIfDirectory, tree_items_view}
use Rattle.lfs_lookup.specs.TreeWalk.{PushesIfDirectory}
use Rattle.lfs_lookup.proofs.PairAddresses.{place_begins, place_there}
use Rattle.lfs_lookup.proofs.walks.push_below_entry.Goals as goal

pub unwrap-first-requires : goal.unwrap-first-requires
unwrap-first-requires g c =
    let begins = subst (λ s. HasFirstPairIfDirectory c.args.thread.now.kept.pairs (owned_view s)) c.in-Branch.is c.requires.begins in
    place_there c.args.thread.now.kept.pairs (address_of_array c.in-Branch.to) begins.0 c.find.result begins.1
    (subst (λ xs. IfNone c.find.result (AllByRecursion (λ a. same_pair a (address_of_array c.in-Branch.to) ≡ false) xs)) c.requires.all c.find.ensures.nowhere)

pub returns-in_ok-push_directory_items-clause-pushed : goal.returns-in_ok-push_directory_items-clause-pushed
returns-in_ok-push_directory_items-clause-pushed g c =
    let place = subst (λ xs. SameAddressAt xs (address_of_array c.in-Branch.to) c.unwrap-first.result) c.requires.all
    (subst (λ o. IfSome o (SameAddressAt c.args.addresses.now (address_of_array c.in-Branch.to))) c.unwrap-first.ensures c.find.ensures.there) in
    subst (λ s. PushesIfDirectory c.args.thread.now.kept.pairs c.args.found.now.path.items (owned_view s) (tree_items_view c.args.pending.now.items) (tree_items_view c.push_directory_items.new.pending.items)) (sym c.in-Branch.is) (
      c.unwrap-first.result,
      (
        place_begins c.args.thread.now.kept.pairs (address_of_array c.in-Branch.to) c.unwrap-first.result place,
        subst (λ (path : List ℕ). AreEntriesPushed c.args.thread.now.kept.pairs path c.unwrap-first.result (tree_items_view c.args.pending.now.items) (tree_items_view c.push_directory_items.new.pending.items)) c.deref.ensures.value
            c.in_ok-push_directory_items.ensures.pushed,
      ),
    )
