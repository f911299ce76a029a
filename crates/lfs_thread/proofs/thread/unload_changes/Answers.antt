use Rattle.std.proofs.Common.{◌∙◌, ◌++◌, List, [], ◌∷◌, Some, ap, true}
use Rattle.lfs_thread.proofs.Common.{map-append, address_of_array, ContentChange, PutTail, changes_view}
use Rattle.lfs_pair.specs.ChangeView.{change_view}
use Rattle.lfs_pair.specs.declared.change.Change.{Change}
use Rattle.lfs_pair.specs.declared.change.Change.TheVariants as changes
use Rattle.lfs_thread.proofs.Moving.{map_replicate}
use Rattle.lfs_thread.proofs.thread.unload_changes.Goals as goal

pub returns-clause-changes : goal.returns-clause-changes
returns-clause-changes c =
    ap changes_view c.in_ok-push.ensures.items
    ∙ ap (λ (xs : List Change). changes_view (xs ++ changes.Tail true (Some c.args.fresh) ∷ [])) (c.in_ok-changes.ensures.items_if_clones_equal (λ y same. same))
    ∙ map-append change_view _ (changes.Tail true (Some c.args.fresh) ∷ [])
    ∙ ap (λ (xs : List ContentChange). xs ++ PutTail true (Some (address_of_array c.args.fresh)) ∷ []) (map_replicate change_view c.args.count (changes.Delete c.args.keep))
