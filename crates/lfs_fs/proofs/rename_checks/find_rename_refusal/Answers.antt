use Rattle.std.proofs.Common.{◌∙◌, refl}
use Rattle.lfs_fs.proofs.OpenFiles.{lacks_is}
use Rattle.lfs_fs.proofs.RenameChecks.{found_refused, three_of}
use Rattle.lfs_fs.proofs.rename_checks.find_rename_refusal.Goals as goal

pub returns : goal.returns
returns g c =
    c.find_first_refusal.ensures
    ∙ found_refused c.args.tree.now c.args.files.now c.args.paths.now.old.now c.args.paths.now.new.now c.args.paths.now c.args.found.now c.name_len-name_len.result c.exceeds_name_max.result c.is_nothing.result _ _ _ c.exceeds_entry_limit-overfills.result _ c.lacks_free_blocks.result c.prevents_rename_of.result
    c.refuse_if.result c.refuse_if-2.result c.replaced_entry_refusal.result c.replaced_entry_refusal-2.result c.replaced_entry_refusal-3.result c.refuse_if-3.result c.replaced_entry_refusal-4.result c.refuse_if-4.result
    c.requires.passes c.requires.found
    c.name_len-name_len.ensures.len c.exceeds_name_max.ensures c.refuse_if.ensures c.is_nothing.ensures c.refuse_if-2.ensures
    (three_of _ _ _ _ _ _ _ refl c.are_both_true-puts_directory.ensures c.is_directory.ensures c.is_file.ensures) c.replaced_entry_refusal.ensures (three_of _ _ _ _ _ _ _ refl c.are_both_true-puts_file.ensures c.is_file-2.ensures c.is_directory-2.ensures) c.replaced_entry_refusal-2.ensures
    refl c.replaced_entry_refusal-3.ensures (c.prevents_rename_of.ensures c.args.tree.now) c.refuse_if-3.ensures
    c.exceeds_entry_limit-overfills.ensures refl c.replaced_entry_refusal-4.ensures
    (c.lacks_free_blocks.ensures ∙ lacks_is c.args.tree.now c.args.files.now 2 c.requires.ready) c.refuse_if-4.ensures
