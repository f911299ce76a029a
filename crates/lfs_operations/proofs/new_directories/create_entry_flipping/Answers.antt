use Rattle.lfs_operations.proofs.Common.{ap, subst, ◌∙◌, ◌∷◌, [], on_ok_weaker, PutMove, PutStruct, directory_name_type, directory_struct_type, Gstate, with_sync_inverted, AreCommittedOrSplit}
use Rattle.lfs_model.specs.layers.Changes.{Create}
use Rattle.lfs_operations.proofs.new_directories.create_entry_flipping.Goals as goal

pub returns-clause-is_put : goal.returns-clause-is_put
returns-clause-is_put g c =
    on_ok_weaker c.commit_or_split.result (λ is.
    subst (λ (m : Gstate). AreCommittedOrSplit c.args.thread.now.kept c.args.pair (Create c.args.id directory_name_type c.args.name.now ∷ PutStruct c.args.id directory_struct_type c.args.branch.now ∷ PutMove m ∷ []) c.commit_or_split.new.thread.kept)
    (c.flip_sync_bit.ensures ∙ ap with_sync_inverted c.delta.ensures) is)
    c.commit_or_split.ensures.is_put
