-- Bytes that are an entry's path, and bytes that aren't.
use Rattle.std.proofs.Common.{ℕ, ◌≡◌, true, false, cond, List, [], ◌∷◌, Option, Some, None, refl, sym, ap, ◌∙◌}
use Rattle.lfs_fs.proofs.Common.{parse_path, path_unusable, is_root_path, Path, entry_path}

bad_if_none : (o : Option Path) → None ≡ cond (path_unusable o) None o → path_unusable o ≡ true
bad_if_none None e = refl
bad_if_none (Some []) e = refl
bad_if_none (Some (n ∷ p)) e = absurd (cc)

good_if_some : (o : Option Path) (p : Path) → Some p ≡ cond (path_unusable o) None o → (o ≡ Some p) × (path_unusable o ≡ false)
good_if_some None p e = absurd (cc)
good_if_some (Some []) p e = absurd (cc)
good_if_some (Some (n ∷ q)) p e = (sym e, refl)

pub no_entry : (bytes : List ℕ) → None ≡ entry_path bytes → path_unusable (parse_path bytes) ≡ true
no_entry bytes e = bad_if_none (parse_path bytes) e

pub is_entry : (bytes : List ℕ) (p : Path) → Some p ≡ entry_path bytes → (parse_path bytes ≡ Some p) × (path_unusable (parse_path bytes) ≡ false)
is_entry bytes p e = good_if_some (parse_path bytes) p e

pub root_false : (bytes : List ℕ) (p : Path) → Some p ≡ entry_path bytes → is_root_path p ≡ false
root_false bytes p e = let k = is_entry bytes p e in sym (ap path_unusable k.0) ∙ k.1
