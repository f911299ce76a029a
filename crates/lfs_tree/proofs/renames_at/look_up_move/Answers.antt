use Rattle.std.proofs.Common.{◌∙◌, ap, map, refl, subst, sym}
use Rattle.lfs_tree.proofs.Common.{last_name, IsLookupWithName, CanMoveOntoFound, answered, answers}
use Rattle.lfs_tree.proofs.Carried.{read_is}
use Rattle.lfs_tree.proofs.CarryEdited.{slot_found}
use Rattle.lfs_tree.proofs.Shifted.{entry_to_rename, shift_found, source_for}
use Rattle.lfs_tree.proofs.renames_at.look_up_move.Goals as goal

pub found_rename_source-source-requires : goal.found_rename_source-source-requires
found_rename_source-source-requires g c = slot_found c.args.thread.now.kept c.args.from.now c.in_ok-targets.targets.entry (entry_to_rename c.args.thread.now.kept c.args.from.now c.args.to.now c.requires.can) c.in_ok-targets.ensures.targets.entry

pub returns-clause-can : goal.returns-clause-can
returns-clause-can g c =
    let t = c.args.thread.now in
    let mid = c.targets_or_lookup.new.thread in
    let source = c.found_rename_source-source.result in
    let targets = c.in_ok-targets.targets in
    let name = c.last_name_of.result.now in
    let are = c.in_ok-targets.ensures.targets in
    let target : IsLookupWithName t.kept c.args.to.now targets.target name = record { leads = are.target; named = c.last_name_of.ensures ∙ ap last_name (ap (map (λ name. name.now)) c.deref.ensures.value ∙ c.in_ok-names.ensures) } in
    subst (λ k. CanMoveOntoFound k c.args.from.now c.args.to.now source targets.target name) (sym (read_is t.kept mid.kept c.targets_or_lookup.ensures.reading.only))
    (shift_found t c.args.root c.requires.rests c.args.from.now c.args.to.now c.lemma_valid_names.ensures c.lemma_block_facts.ensures.large c.lemma_block_facts.ensures.bytes c.requires.can c.requires.apart source
    (source_for t.kept c.args.from.now targets.entry source are.entry c.found_rename_source-source.ensures) mid.kept.history targets.target name target)

pub returns-clause-paths : goal.returns-clause-paths
returns-clause-paths g c = (c.lemma_path_bytes.ensures.0, c.lemma_path_bytes-2.ensures.0, c.lemma_path_bytes.ensures.1, c.lemma_path_bytes-2.ensures.1)

pub returns-clause-reading : goal.returns-clause-reading
returns-clause-reading g c = answers _ _ _ _ refl (answered _ _ c.targets_or_lookup.result c.in_ok-targets.targets c.in_ok-targets.was c.targets_or_lookup.ensures.reading)
