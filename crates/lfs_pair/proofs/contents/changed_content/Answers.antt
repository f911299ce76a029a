use Rattle.std.proofs.Common.{◌≡◌, ◌∙◌, ap, arith, true, Some, sym}
use Rattle.std.specs.Prelude.{is_some}
use Rattle.lfs_pair.proofs.Common.{option_and_then, logged, content_after, empty_raw_content, content_with_changes, block_entries, content_view, changes_view}
use Rattle.lfs_pair.proofs.Made.{logged_made}
use Rattle.lfs_pair.proofs.contents.changed_content.Goals as goal

pub returns-in-Ok-apply_all_changes-clause-logged : goal.returns-in-Ok-apply_all_changes-clause-logged
returns-in-Ok-apply_all_changes-clause-logged c =
    let held : content_after empty_raw_content (block_entries c.args.block.now) ≡ Some (content_view c.in-Ok.content) = ap (λ z. content_after empty_raw_content (block_entries z)) (sym c.with_known_end-log.ensures) ∙ c.in-Ok.ensures.content in
    let some : is_some (content_with_changes (content_view c.in-Ok.content) (changes_view c.args.changes.now)) ≡ true =
    ap (λ z. is_some (option_and_then (λ h. content_with_changes h (changes_view c.args.changes.now)) z)) (sym held) ∙ c.requires.made in
    logged_made (content_view c.in-Ok.content) (changes_view c.args.changes.now) (content_view c.apply_all_changes.new.content) (logged c.args.block.now (content_view c.in-Ok.content) (λ i. omega (arith, c.type_inv.block i)) held) some c.in-Ok-apply_all_changes.ensures
