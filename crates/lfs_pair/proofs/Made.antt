-- A changed content can be written again.
use Rattle.std.proofs.Common.{◌≡◌, Bool, true, false, cond, List, Some, None}
use Rattle.std.specs.Prelude.{is_some}
use Rattle.lfs_pair.proofs.Common.{list_all, IsWellFormed, RawContent, content_after, ContentChange, entries_of_changes, is_storable, content_with_changes}
use Rattle.lfs_model.proofs.StoredChanges.{logged_changed}

pub logged_made : (c : RawContent) (changes : List ContentChange) (d : RawContent) → IsWellFormed c → is_some (content_with_changes c changes) ≡ true → content_after c (entries_of_changes changes) ≡ Some d → IsWellFormed d
logged_made c changes d h some is = logged_changed c changes d h (go (list_all is_storable changes) some)
  where
    go : (b : Bool) → is_some (cond b (content_after c (entries_of_changes changes)) None) ≡ true → cond b (content_after c (entries_of_changes changes)) None ≡ Some d
    go true s = is
    go false s = absurd (cc)
