use Rattle.std.proofs.Common.{◌++◌, ◌∷◌, [], subst, sym}
use Rattle.lfs_tree.proofs.Common.{ancestor_paths, ReadsPairsOnce, TreeState, ThreadView}
use Rattle.lfs_tree.proofs.Asking.{asking, held, rooted_held}
use Rattle.lfs_tree.proofs.tree.Tree.list.Goals as goal

pub list_directory-listing-requires : goal.list_directory-listing-requires
list_directory-listing-requires g c =
    let held = rooted_held c.self.inside.thread c.self.inside.root c.self.inside.is_writable c.args.self.now c.self.invariant c.self.view_is c.requires in
    record { works = held.works; accepted = held.sound.accepted; root = held.root_is }

pub invariant_of-self : goal.invariant_of-self
invariant_of-self g c =
    held c.self.inside.thread c.list_directory-listing.new.thread c.self.inside.root c.self.inside.is_writable (rooted_held c.self.inside.thread c.self.inside.root c.self.inside.is_writable c.args.self.now c.self.invariant c.self.view_is c.requires) c.list_directory-listing.result c.fail_on_error.new.thread c.fail_on_error.ensures c.list_directory-listing.ensures.reading

pub returns-clause-asks : goal.returns-clause-asks
returns-clause-asks g c =
    asking c.self.inside.thread c.list_directory-listing.new.thread c.self.inside.root c.self.inside.is_writable (rooted_held c.self.inside.thread c.self.inside.root c.self.inside.is_writable c.args.self.now c.self.invariant c.self.view_is c.requires) c.args.self.now c.list_directory-listing.result c.fail_on_error.new.thread c.self.view_is c.fail_on_error.ensures c.list_directory-listing.ensures.reading

pub returns-clause-few : goal.returns-clause-few
returns-clause-few g c =
    subst (λ (t : ThreadView). ReadsPairsOnce (ancestor_paths c.args.path.now ++ c.args.path.now ∷ []) c.args.self.now t.kept.history) (sym c.fail_on_error.ensures)
    (subst (λ (s : TreeState). ReadsPairsOnce (ancestor_paths c.args.path.now ++ c.args.path.now ∷ []) s c.list_directory-listing.new.thread.kept.history) c.self.view_is (record { few = c.list_directory-listing.ensures.few; none = c.list_directory-listing.ensures.kept }))
