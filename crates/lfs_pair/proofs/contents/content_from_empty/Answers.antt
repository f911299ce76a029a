use Rattle.std.proofs.Common.{◌∙◌, ap, sym}
use Rattle.lfs_pair.proofs.Common.{nothing_logged, empty_raw_content, content_after, entries_of_changes, content_view, changes_view}
use Rattle.lfs_pair.proofs.Made.{logged_made}
use Rattle.lfs_pair.proofs.contents.content_from_empty.Goals as goal

pub returns-in-Ok-clause-logged : goal.returns-in-Ok-clause-logged
returns-in-Ok-clause-logged c =
    logged_made empty_raw_content (changes_view c.args.changes.now) (content_view c.apply_all_changes.new.content) nothing_logged c.requires
    (ap (λ z. content_after z (entries_of_changes (changes_view c.args.changes.now))) (sym c.empty_content-content.ensures) ∙ c.in-Ok.ensures)
