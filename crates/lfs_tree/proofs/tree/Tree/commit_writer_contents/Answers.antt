use Rattle.std.proofs.Common.{◌∙◌, ap, subst, sym}
use Rattle.lfs_tree.proofs.Common.{node_with_bytes, disk_tree, pairs_gstate, tree_with_change, IsSoundUnlessFailed, IsSoundWithRoot, CanStoreContents, writer_contents_bytes, TreeState, StoresBeforeRelocation}
use Rattle.lfs_tree.proofs.Asking.{rooted_held, seen_working}
use Rattle.lfs_tree.proofs.NotedErrors.{noted_held}
use Rattle.lfs_tree.proofs.StoredMoving.{may_move_stored, stores_moving}
use Rattle.lfs_tree.proofs.tree.Tree.commit_writer_contents.Goals as goal

pub store_contents_at-stored-requires-clause-rests : goal.store_contents_at-stored-requires-clause-rests
store_contents_at-stored-requires-clause-rests g c = record {
  held = subst (λ a. IsSoundWithRoot c.self.inside.thread c.self.inside.root a) (ap (λ (s : TreeState). s.writable) (c.self.view_is ∙ c.plan_move-plan.ensures.same) ∙ c.requires.writable) (rooted_held c.self.inside.thread c.self.inside.root c.self.inside.is_writable c.args.self.now c.self.invariant (c.self.view_is ∙ c.plan_move-plan.ensures.same) c.requires.works);
  settled = ap (λ (s : TreeState). pairs_gstate s.pairs) (c.self.view_is ∙ c.plan_move-plan.ensures.same) ∙ c.requires.settled;
}

pub store_contents_at-stored-requires-clause-can : goal.store_contents_at-stored-requires-clause-can
store_contents_at-stored-requires-clause-can g c =
    subst (λ s. CanStoreContents s c.args.path.now c.args.contents) (seen_working c.self.inside.thread c.self.inside.root c.self.inside.is_writable c.args.self.now c.self.invariant (c.self.view_is ∙ c.plan_move-plan.ensures.same) c.requires.works c.requires.writable) c.requires

pub invariant_of-self : goal.invariant_of-self
invariant_of-self g c =
    let t = c.self.inside.thread in
    let writes = ap (λ (s : TreeState). s.writable) (c.self.view_is ∙ c.plan_move-plan.ensures.same) ∙ c.requires.writable in
    subst (λ a. IsSoundUnlessFailed c.fail_on_error.new.thread c.self.inside.root a) (sym writes)
    (noted_held t c.store_contents_at-stored.new.thread c.fail_on_error.new.thread (StoresBeforeRelocation t.kept c.args.path.now (writer_contents_bytes t.kept c.args.contents)) (tree_with_change c.args.path.now (node_with_bytes (writer_contents_bytes t.kept c.args.contents)) (disk_tree t.kept.disk t.kept.pairs)) c.store_contents_at-stored.result c.store_contents_at-stored.ensures c.fail_on_error.ensures c.self.inside.root
    (subst (λ a. IsSoundWithRoot c.self.inside.thread c.self.inside.root a) writes (rooted_held c.self.inside.thread c.self.inside.root c.self.inside.is_writable c.args.self.now c.self.invariant (c.self.view_is ∙ c.plan_move-plan.ensures.same) c.requires.works)))

pub relocate-requires : goal.relocate-requires
relocate-requires g c =
    may_move_stored c.self.inside.thread c.self.inside.root c.self.inside.is_writable c.args.self.now c.self.invariant (c.self.view_is ∙ c.plan_move-plan.ensures.same) c.requires.works c.requires.writable c.args.path.now c.args.contents
    c.store_contents_at-stored.new.thread c.fail_on_error.new.thread c.store_contents_at-stored.result c.store_contents_at-stored.ensures c.fail_on_error.ensures c.plan_move-plan.result c.plan_move-plan.ensures.planned

pub returns-clause-stored : goal.returns-clause-stored
returns-clause-stored g c =
    (stores_moving c.self.inside.thread c.self.inside.root c.self.inside.is_writable c.args.self.now c.self.invariant (c.self.view_is ∙ c.plan_move-plan.ensures.same) c.requires.works c.requires.writable c.args.path.now c.args.contents
    c.store_contents_at-stored.new.thread c.fail_on_error.new.thread c.store_contents_at-stored.result c.store_contents_at-stored.ensures c.fail_on_error.ensures c.plan_move-plan.result c.plan_move-plan.ensures.planned
    c.relocate.result c.relocate.new.self c.relocate.ensures.does).stored

pub returns-clause-broken : goal.returns-clause-broken
returns-clause-broken g c =
    (stores_moving c.self.inside.thread c.self.inside.root c.self.inside.is_writable c.args.self.now c.self.invariant (c.self.view_is ∙ c.plan_move-plan.ensures.same) c.requires.works c.requires.writable c.args.path.now c.args.contents
    c.store_contents_at-stored.new.thread c.fail_on_error.new.thread c.store_contents_at-stored.result c.store_contents_at-stored.ensures c.fail_on_error.ensures c.plan_move-plan.result c.plan_move-plan.ensures.planned
    c.relocate.result c.relocate.new.self c.relocate.ensures.does).broken

pub returns-clause-errors : goal.returns-clause-errors
returns-clause-errors g c =
    (stores_moving c.self.inside.thread c.self.inside.root c.self.inside.is_writable c.args.self.now c.self.invariant (c.self.view_is ∙ c.plan_move-plan.ensures.same) c.requires.works c.requires.writable c.args.path.now c.args.contents
    c.store_contents_at-stored.new.thread c.fail_on_error.new.thread c.store_contents_at-stored.result c.store_contents_at-stored.ensures c.fail_on_error.ensures c.plan_move-plan.result c.plan_move-plan.ensures.planned
    c.relocate.result c.relocate.new.self c.relocate.ensures.does).errors

pub returns-clause-survives : goal.returns-clause-survives
returns-clause-survives g c =
    (stores_moving c.self.inside.thread c.self.inside.root c.self.inside.is_writable c.args.self.now c.self.invariant (c.self.view_is ∙ c.plan_move-plan.ensures.same) c.requires.works c.requires.writable c.args.path.now c.args.contents
    c.store_contents_at-stored.new.thread c.fail_on_error.new.thread c.store_contents_at-stored.result c.store_contents_at-stored.ensures c.fail_on_error.ensures c.plan_move-plan.result c.plan_move-plan.ensures.planned
    c.relocate.result c.relocate.new.self c.relocate.ensures.does).survives
