use Rattle.std.proofs.Common.{ap, map, subst, ◌∙◌}
use Rattle.lfs_tree.proofs.Common.{last_name, IsResultOfPath}
use Rattle.lfs_lookup.proofs.Roots.{root_leads}
use Rattle.lfs_tree.proofs.entries_at.find_at_path.Goals as goal

pub look_up-requires-clause-root : goal.look_up-requires-clause-root
look_up-requires-clause-root g c = root_leads c.args.thread.now.kept.disk c.args.thread.now.kept.pairs c.args.root c.requires.held.sound.accepted c.requires.held.root_is

pub returns-clause-target : goal.returns-clause-target
returns-clause-target g c =
    let t = c.args.thread.now.kept in
    let first = ap (map (λ name. name.now)) c.deref.ensures.value ∙ c.in_ok-names.ensures in
    let second = ap (map (λ name. name.now)) c.deref-2.ensures.value ∙ c.in_ok-names.ensures in
    record { leads = subst (λ p. IsResultOfPath t p c.in_ok-found.found) first c.in_ok-found.ensures.answer; named = c.last_name_of.ensures ∙ ap last_name second }
