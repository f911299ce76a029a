use Rattle.std.proofs.Common.{◌+◌, ◌∙◌, take, drop, ap}
use Rattle.lfs_pair.proofs.Common.{content_after, entries_of_changes, is_storable, content_view, change_view, changes_view}
use Rattle.lfs_pair.proofs.Applied.{all_at, mapped_front, mapped_split, one_more, one_fails, fails_on}
use Rattle.lfs_pair.proofs.change.apply_all_changes.Goals as goal

pub apply_change-requires : goal.apply_change-requires
apply_change-requires c = all_at is_storable change_view c.args.changes.now c.loop-change.change-index _ c.requires c.loop-change-test.true

pub returns-in-Err : goal.returns-in-Err
returns-in-Err c = fails_on c.in-Err.error _ _ (λ none.
    ap (λ z. content_after (content_view c.args.content.now) (entries_of_changes z)) (mapped_split change_view c.args.changes.now c.loop-change.change-index _ c.loop-change-test.true)
    ∙ one_fails (content_view c.args.content.now) (content_view c.loop-change.content) (changes_view (take c.loop-change.change-index c.args.changes.now)) _ (changes_view (drop (c.loop-change.change-index + 1) c.args.changes.now)) c.loop-change.invariant none) c.in-Err.ensures

pub loop-change-preserved : goal.loop-change-preserved
loop-change-preserved c =
    ap (λ z. content_after (content_view c.args.content.now) (entries_of_changes z)) (mapped_front change_view c.args.changes.now c.loop-change.change-index _ c.loop-change-test.true)
    ∙ one_more (content_view c.args.content.now) (content_view c.loop-change.content) (content_view c.apply_change.new.content) (changes_view (take c.loop-change.change-index c.args.changes.now)) _ c.loop-change.invariant c.in-Ok.ensures
