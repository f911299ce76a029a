use Rattle.std.proofs.Common.{◌∙◌, ◌+◌, ap, arith, drop, length, sym}
use Rattle.std.specs.List.{list_any}
use Rattle.std.specs.Prelude.{◌==◌}
use Rattle.std.proofs.lemmas.List.{length-drop, take_all}
use Rattle.lfs_tool.proofs.HeldItems.{is_within_from, not_false}
use Rattle.lfs_tool.proofs.source_memory.child_name.Goals as goal

pub returns-else-has_slash : goal.returns-else-has_slash
returns-else-has_slash c =
    let rest = take_all _ (drop (length c.args.folder.now + 1) c.args.path.now) (omega (arith, length-drop (length c.args.folder.now + 1) c.args.path.now)) in
    let none = ap (list_any (λ b. b == 47)) (sym rest) ∙ (sym c.has_slash.ensures ∙ c.if-has_slash.false) in
    (is_within_from c.args.folder.now c.args.path.now (omega arith) (not_false _ c.if-ne.ensures) c.if-path-at-ne47.false none, rest)
