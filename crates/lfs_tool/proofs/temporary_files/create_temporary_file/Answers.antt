use Rattle.std.proofs.Common.{◌∙◌, ap, ◌++◌}
use Rattle.std.specs.Fmt.{decimal}
use Rattle.std.specs.String.{string_bytes}
use Rattle.lfs_tool.specs.TemporaryNames.{temporary_prefix}
use Rattle.lfs_tool.proofs.NamesBeside.{beside_by_number}
use Rattle.lfs_tool.proofs.temporary_files.create_temporary_file.Goals as goal

pub returns-in-Ok-clause-beside : goal.returns-in-Ok-clause-beside
returns-in-Ok-clause-beside g c =
    let at = c.in_ok-set_temporary_number.ensures.beside ∙ ap (λ path. temporary_prefix (string_bytes path) ++ decimal c.loop-number.number) c.loop-number.invariant in
    (c.loop-number.number, at ∙ beside_by_number (string_bytes c.args.paths.now.path) c.loop-number.number)
