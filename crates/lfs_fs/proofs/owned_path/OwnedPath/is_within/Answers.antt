use Rattle.std.proofs.Common.{◌∙◌, ap, is_some, subst, sym, true, ◌≡◌}
use Rattle.lfs_fs.proofs.Common.{without_prefix, parse_path, path_or_root}
use Rattle.lfs_fs.proofs.owned_path.OwnedPath.is_within.Goals as goal

pub at_or_beneath-requires-clause-given : goal.at_or_beneath-requires-clause-given
at_or_beneath-requires-clause-given c = subst (λ xs. is_some (parse_path xs) ≡ true) (sym c.as_slice.ensures.value) c.self.invariant

pub returns : goal.returns
returns c =
    c.at_or_beneath.ensures ∙ ap (λ xs. is_some (without_prefix (path_or_root c.args.bytes.now) (path_or_root xs))) c.as_slice.ensures.value
    ∙ ap (λ p. is_some (without_prefix (path_or_root c.args.bytes.now) p)) c.self.view_is
