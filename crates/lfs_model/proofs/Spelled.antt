-- A path's bytes are read back as the path.
use Rattle.std.proofs.Common.{ℕ, ◌≡◌, ◌≤◌, ◌==◌, ◌||◌, Bool, true, false, not, cond, [], ◌∷◌, ◌++◌, length, Some, None, refl, ap, ◌∙◌, arith, nat_le, nat_lt, length-append}
use Rattle.std.specs.Prelude.{All}
use Rattle.lfs_model.proofs.Common.{list_all, and_parts, lt-ltb, leb-true, append-nil, Name, is_component, Path}
use Rattle.std.specs.List.{slice_split}
use Rattle.std.proofs.lemmas.Bool.{not-true, or_parts}
use Rattle.std.proofs.lemmas.List.Sums.{AllPass-from_list_all}
use Rattle.std.proofs.lemmas.List.Splits.{slice_split_none, slice_split_at}
use Rattle.lfs_model.specs.format.Names.{slash_byte}
use Rattle.lfs_model.specs.session.Operations.{parse_path, path_bytes}

abbrev is_slash : ℕ → Bool
is_slash c = c == slash_byte

-- what a component is, in parts
has_bytes : (name : Name) → is_component name ≡ true → 1 ≤ length name
has_bytes name h =
    let e : nat_le 1 (length name) ≡ true = (and_parts _ _ (and_parts _ _ (and_parts _ _ h).0).0).0 in
    leb-true 1 (length name) e

no_slash : (name : Name) → is_component name ≡ true → All (λ c. is_slash c ≡ false) name
no_slash name h k d below =
    let e = AllPass-from_list_all (λ b. not (b == 0 || b == slash_byte)) name (and_parts _ _ (and_parts _ _ (and_parts _ _ h).0).0).1 k d below in
    (or_parts _ _ (not-true _ e)).1

split : (name : Name) (rest : Path) → list_all is_component (name ∷ rest) ≡ true → slice_split is_slash (name ++ path_bytes rest) ≡ name ∷ rest
split name [] h = ap (slice_split is_slash) (append-nil name) ∙ slice_split_none is_slash name (no_slash name (and_parts _ _ h).0)
split name (next ∷ rest) h =
    slice_split_at is_slash name slash_byte (next ++ path_bytes rest) (no_slash name (and_parts _ _ h).0) refl
    ∙ ap (λ xs. name ∷ xs) (split next rest (and_parts _ _ h).1)

pub spelled : (name : Name) (rest : Path) → list_all is_component (name ∷ rest) ≡ true → parse_path (path_bytes (name ∷ rest)) ≡ Some (name ∷ rest)
spelled name rest h =
    ap (λ b. cond b (cond (list_all is_component (slice_split is_slash (name ++ path_bytes rest))) (Some (slice_split is_slash (name ++ path_bytes rest))) None) (Some [])) long
    ∙ ap (λ (xs : Path). cond (list_all is_component xs) (Some xs) None) (split name rest h)
    ∙ ap (λ b. cond b (Some (name ∷ rest)) None) h
  where
    long : nat_lt 0 (length (name ++ path_bytes rest)) ≡ true
    long = let l = has_bytes name (and_parts _ _ h).0 in lt-ltb 0 (length (name ++ path_bytes rest)) (omega (arith, length-append name (path_bytes rest)))
