use Rattle.std.proofs.Common.{◌∙◌, ap, map, subst, rules}
use Rattle.lfs_lookup.proofs.Common.{ancestor_paths, ReadsAtMostBinarySearches}
use Rattle.lfs_lookup.proofs.Roots.{root_leads}
use Rattle.lfs_lookup.proofs.ShownFindings.{shows_at}
use Rattle.lfs_lookup.proofs.by_path.look_up_path.Goals as goal

pub look_up_visible-requires-clause-root : goal.look_up_visible-requires-clause-root
look_up_visible-requires-clause-root g c = root_leads c.args.thread.now.kept.disk c.args.thread.now.kept.pairs c.args.root c.requires.accepted c.requires.root

pub returns-clause-shown : goal.returns-clause-shown
returns-clause-shown g c =
    shows_at c.args.thread.now.kept _ c.args.path.now _ c.moved_slot_position-moved.result c.look_up_visible.result (ap (map (λ name. name.now)) c.deref.ensures.value ∙ c.in_ok-names.ensures) c.state-state.ensures c.moved_slot_position-moved.ensures.hides c.look_up_visible.ensures.answer

pub returns-clause-reads : goal.returns-clause-reads
returns-clause-reads g c = record {
  few = search rules;
  halves = λ settled. (
      subst (λ names. ReadsAtMostBinarySearches c.args.thread.now c.look_up_visible.new.thread (ancestor_paths names)) (ap (map (λ name. name.now)) c.deref.ensures.value ∙ c.in_ok-names.ensures)
      (c.look_up_visible.ensures.reads.halves (c.moved_slot_position-moved.ensures.none (c.state-state.ensures ∙ settled)))
      );
  loads = search rules;
}
