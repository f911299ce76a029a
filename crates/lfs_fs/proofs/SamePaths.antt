-- Two paths are the same exactly if their bytes are.
use Rattle.std.proofs.Common.{ℕ, ◌≡◌, ◌==◌, Bool, true, false, not, cond, List, [], ◌∷◌, length, Option, Some, None, is_some, unwrap_or, refl, sym, ap, ◌∙◌, arith}
use Rattle.lfs_fs.proofs.Common.{slice_split, list_all, onto_first, same_Some, eqb-true, lt-ltb, is_component, same_name, slash_byte, same_path, parse_path, path_or_root, Path, Names, alike, unlike, names, path_itself, path_from_same}
use Rattle.std.specs.List.{join_with_byte}
use Rattle.std.proofs.lemmas.List.Splits.{join_with_byte-slice_split}

-- the bytes of a path
spelling : Path → List ℕ
spelling [] = slash_byte ∷ []
spelling (n ∷ p) = slash_byte ∷ join_with_byte slash_byte (n ∷ p)

behind : (xs : List ℕ) → slash_byte ∷ xs ≡ slash_byte ∷ join_with_byte slash_byte (slice_split (λ c. c == slash_byte) xs)
behind xs = ap (λ z. slash_byte ∷ z) (sym (join_with_byte-slice_split slash_byte xs))

of_parts : (parts : Path) (x : ℕ) (xs : List ℕ) → slice_split (λ c. c == slash_byte) (x ∷ xs) ≡ parts → slash_byte ∷ x ∷ xs ≡ spelling parts
unfolding spelling
of_parts [] x xs e = go (x == slash_byte) (slice_split (λ c. c == slash_byte) xs) e
  where
    go : (b : Bool) (rest : Path) → cond b ([] ∷ rest) (onto_first x rest) ≡ [] → slash_byte ∷ x ∷ xs ≡ spelling []
    go true rest k = absurd (cc)
    go false [] k = absurd (cc)
    go false (q ∷ qs) k = absurd (cc)
of_parts (n ∷ p) x xs e = behind (x ∷ xs) ∙ ap (λ z. slash_byte ∷ join_with_byte slash_byte z) e

spelled : (xs : List ℕ) (p : Path) → parse_path xs ≡ Some p → xs ≡ spelling p
unfolding spelling
spelled [] p e = absurd (cc)
spelled (b ∷ []) p e = go (b == slash_byte) refl e
  where
    go : (s : Bool) → (b == slash_byte) ≡ s → cond (not s) None (Some []) ≡ Some p → b ∷ [] ≡ spelling p
    go false h k = absurd (cc)
    go true h k = ap (λ z. z ∷ []) (eqb-true b slash_byte h) ∙ ap spelling (same_Some [] p k)
spelled (b ∷ x ∷ xs) p e = go (b == slash_byte) refl (list_all is_component parts) (sym path_is ∙ e)
  where
    parts : Path
    parts = slice_split (λ c. c == slash_byte) (x ∷ xs)

    path_is : parse_path (b ∷ x ∷ xs) ≡ cond (not (b == slash_byte)) None (cond (list_all is_component parts) (Some parts) None)
    path_is = ap (λ z. cond (not (b == slash_byte)) None (cond z (cond (list_all is_component parts) (Some parts) None) (Some []))) (lt-ltb 0 (length (x ∷ xs)) (omega arith))

    go : (s : Bool) → (b == slash_byte) ≡ s → (l : Bool) → cond (not s) None (cond l (Some parts) None) ≡ Some p → b ∷ x ∷ xs ≡ spelling p
    go false h l k = absurd (cc)
    go true h false k = absurd (cc)
    go true h true k = ap (λ z. z ∷ x ∷ xs) (eqb-true b slash_byte h) ∙ of_parts parts x xs refl ∙ ap spelling (same_Some parts p k)

held_by_some : (o : Option Path) → is_some o ≡ true → o ≡ Some (unwrap_or o [])
held_by_some None e = absurd (cc)
held_by_some (Some p) e = refl

pub same_bytes : (xs ys : List ℕ) → is_some (parse_path xs) ≡ true → is_some (parse_path ys) ≡ true → same_name xs ys ≡ same_path (path_or_root ys) (path_or_root xs)
same_bytes xs ys h k = go (names xs ys)
  where
    other : (xs ≡ ys → ⊥) → (b : Bool) → same_path (path_or_root ys) (path_or_root xs) ≡ b → b ≡ false
    other ne false e = refl
    other ne true e = absurd (ne (spelled xs (path_or_root xs) (held_by_some (parse_path xs) h) ∙ ap spelling (sym (path_from_same (path_or_root ys) (path_or_root xs) e)) ∙ sym (spelled ys (path_or_root ys) (held_by_some (parse_path ys) k))))

    go : Names xs ys → same_name xs ys ≡ same_path (path_or_root ys) (path_or_root xs)
    go (alike e s) = s ∙ sym (path_itself (path_or_root ys)) ∙ ap (λ z. same_path (path_or_root ys) (path_or_root z)) (sym e)
    go (unlike n s) = s ∙ sym (other n (same_path (path_or_root ys) (path_or_root xs)) refl)
