-- Whether a path is beneath another, by their bytes.
use Rattle.std.proofs.Common.{ℕ, ◌≤◌, nat_eq, take, subst, length-append, ◌<◌, nat_lt, ◌≡◌, ◌==◌, ◌&&◌, ◌++◌, Bool, true, false, not, cond, if◌then◌else◌, List, [], ◌∷◌, length, drop, get_or, Option, Some, None, is_some, unwrap_or, eqb-true, refl, sym, ap, ap₂, ◌∙◌, arith}
use Rattle.lfs_fs.proofs.Common.{slice_split, list_all, onto_first, lt-ltb, ltb-true, ltb-false, without_prefix, is_component, same_name, slash_byte, parse_path, path_or_root, path_unusable, Path, Names, alike, unlike, names}
use Rattle.std.specs.Cmp.Lexicographic.{pointwise}
use Rattle.std.proofs.lemmas.Slice.Eq.{starts_is}
use Rattle.std.proofs.lemmas.Bool.{and_parts}
use Rattle.std.proofs.lemmas.Bool.Decides.{Decides-eqb}
use Rattle.lfs_model.specs.format.Names.{Name}
use Rattle.lfs_model.proofs.Paths.{same_itself, unlike_test}
use Rattle.lfs_fs.specs.RenamePaths.{is_path_prefix}

same_number : (n : ℕ) → (n == n) ≡ true
same_number n = (Decides-eqb n n).1 refl

-- ---- by bytes

pub continued : (xs rest : List ℕ) → is_path_prefix xs (xs ++ rest) ≡ is_path_prefix [] rest
continued [] rest = refl
continued (x ∷ xs) rest = ap (λ b. b && is_path_prefix xs (xs ++ rest)) (same_number x) ∙ continued xs rest

pub begins : (xs ys : List ℕ) → is_path_prefix xs ys ≡ true → (rest : List ℕ) × (ys ≡ xs ++ rest)
begins [] ys e = (ys, refl)
begins (x ∷ xs) [] e = absurd (cc)
begins (x ∷ xs) (y ∷ ys) e =
    let k = and_parts (x == y) (is_path_prefix xs ys) e in
    let l = begins xs ys k.1 in
    (l.0, ap₂ (λ z zs. z ∷ zs) (sym (eqb-true x y k.0)) l.1)

-- ---- by names

first_names : (a b : ℕ) (n m : Name) → same_name (a ∷ n) (b ∷ m) ≡ ((a == b) && same_name n m)
first_names a b n m = go (a == b) refl
  where
    rest : a ≡ b → Names n m → same_name (a ∷ n) (b ∷ m) ≡ same_name n m
    rest e (alike f s) = ap₂ (λ x y. same_name (a ∷ n) (x ∷ y)) (sym e) (sym f) ∙ same_itself (a ∷ n) ∙ sym s
    rest e (unlike f s) = unlike_test (a ∷ n) (b ∷ m) (λ k. f (ap (drop 1) k)) ∙ sym s

    go : (c : Bool) → (a == b) ≡ c → same_name (a ∷ n) (b ∷ m) ≡ (c && same_name n m)
    go true e = rest (eqb-true a b e) (names n m)
    go false e = unlike_test (a ∷ n) (b ∷ m) (λ k. absurd (let f : a ≡ b = ap (λ xs. get_or xs 0 0) k in let t = sym e ∙ ap (λ z. a == z) (sym f) ∙ same_number a in cc))

abbrev part : ℕ → List ℕ → Path → Path
part x xs rest = if x == slash_byte then [] ∷ rest else onto_first x rest

abbrev is_on : Path → Path → Bool
is_on p q = is_some (without_prefix p q)

-- the parts of bytes are at least one
record IsParts (parts : Path) : Type 0 where
  first : Name
  rest : Path
  are : parts ≡ first ∷ rest

parts_are : (xs : List ℕ) → IsParts (slice_split (λ c. c == slash_byte) xs)
parts_are [] = record { first = []; rest = []; are = refl }
parts_are (x ∷ xs) = go (x == slash_byte) (parts_are xs)
  where
    go : (b : Bool) → IsParts (slice_split (λ c. c == slash_byte) xs) → IsParts (if b then [] ∷ slice_split (λ c. c == slash_byte) xs else onto_first x (slice_split (λ c. c == slash_byte) xs))
    go true k = record { first = []; rest = slice_split (λ c. c == slash_byte) xs; are = refl }
    go false k = record { first = x ∷ k.first; rest = k.rest; are = ap (onto_first x) k.are }

split_on : (xs ys : List ℕ) → is_on (slice_split (λ c. c == slash_byte) xs) (slice_split (λ c. c == slash_byte) ys) ≡ is_path_prefix xs ys
split_on [] [] = refl
split_on [] (y ∷ ys) = go (y == slash_byte) (parts_are ys)
  where
    go : (b : Bool) → IsParts (slice_split (λ c. c == slash_byte) ys) → is_on ([] ∷ []) (if b then [] ∷ slice_split (λ c. c == slash_byte) ys else onto_first y (slice_split (λ c. c == slash_byte) ys)) ≡ b
    go true k = refl
    go false k = ap (λ z. is_on ([] ∷ []) (onto_first y z)) k.are
split_on (x ∷ xs) [] = go (x == slash_byte) (parts_are xs)
  where
    go : (b : Bool) → IsParts (slice_split (λ c. c == slash_byte) xs) → is_on (if b then [] ∷ slice_split (λ c. c == slash_byte) xs else onto_first x (slice_split (λ c. c == slash_byte) xs)) ([] ∷ []) ≡ false
    go true k = ap (λ z. is_on ([] ∷ z) ([] ∷ [])) k.are
    go false k = ap (λ z. is_on (onto_first x z) ([] ∷ [])) k.are
split_on (x ∷ xs) (y ∷ ys) = go (split_on xs ys) (x == slash_byte) (y == slash_byte) refl refl (parts_are xs) (parts_are ys)
  where
    ps : Path
    ps = slice_split (λ c. c == slash_byte) xs

    qs : Path
    qs = slice_split (λ c. c == slash_byte) ys

    apart : (x == y) ≡ false → ((x == y) && is_path_prefix xs ys) ≡ false
    apart e = ap (λ b. b && is_path_prefix xs ys) e

    differs : (a b : Bool) → (x == slash_byte) ≡ a → (y == slash_byte) ≡ b → (a ≡ b → ⊥) → (x == y) ≡ false
    differs a b e f ne = stays (x == y) refl
      where
        stays : (c : Bool) → (x == y) ≡ c → c ≡ false
        stays false k = refl
        stays true k = absurd (ne (sym e ∙ ap (λ z. z == slash_byte) (eqb-true x y k) ∙ f))

    go : is_on ps qs ≡ is_path_prefix xs ys → (a b : Bool) → (x == slash_byte) ≡ a → (y == slash_byte) ≡ b → IsParts ps → IsParts qs → is_on (if a then [] ∷ ps else onto_first x ps) (if b then [] ∷ qs else onto_first y qs) ≡ ((x == y) && is_path_prefix xs ys)
    go so true true e f k l =
        so ∙ sym (ap (λ b. b && is_path_prefix xs ys) (ap (λ z. z == y) (eqb-true x slash_byte e) ∙ ap (λ z. slash_byte == z) (eqb-true y slash_byte f) ∙ same_number slash_byte))
    go so true false e f k l = ap (λ z. is_on ([] ∷ ps) (onto_first y z)) l.are ∙ sym (apart (differs true false e f (λ z. absurd (cc))))
    go so false true e f k l = ap (λ z. is_on (onto_first x z) ([] ∷ qs)) k.are ∙ sym (apart (differs false true e f (λ z. absurd (cc))))
    go so false false e f k l =
        ap₂ (λ z w. is_on (onto_first x z) (onto_first y w)) k.are l.are
        ∙ ap (λ c. is_some (cond c (without_prefix k.rest l.rest) None)) (first_names x y k.first l.first)
        ∙ halves (x == y) (same_name k.first l.first) (without_prefix k.rest l.rest)
        ∙ ap (λ b. (x == y) && b) (sym (ap₂ is_on k.are l.are) ∙ so)
      where
        halves : (a b : Bool) (o : Option Path) → is_some (cond (a && b) o None) ≡ (a && is_some (cond b o None))
        halves true b o = refl
        halves false b o = refl

parts_of : (b : ℕ) (xs : List ℕ) → is_some (parse_path (b ∷ xs)) ≡ true → (b ≡ slash_byte) × (path_or_root (b ∷ xs) ≡ cond (nat_lt 0 (length xs)) (slice_split (λ c. c == slash_byte) xs) [])
parts_of b xs h = go (b == slash_byte) (nat_lt 0 (length xs)) (list_all is_component (slice_split (λ c. c == slash_byte) xs)) refl h
  where
    go : (s l c : Bool) → (b == slash_byte) ≡ s → is_some (cond (not s) None (cond l (cond c (Some (slice_split (λ c. c == slash_byte) xs)) None) (Some []))) ≡ true
        → (b ≡ slash_byte) × (unwrap_or (cond (not s) None (cond l (cond c (Some (slice_split (λ c. c == slash_byte) xs)) None) (Some []))) [] ≡ cond l (slice_split (λ c. c == slash_byte) xs) [])
    go false l c e k = absurd (cc)
    go true false c e k = (eqb-true b slash_byte e, refl)
    go true true false e k = absurd (cc)
    go true true true e k = (eqb-true b slash_byte e, refl)

good : (o : Option Path) → path_unusable o ≡ false → is_some o ≡ true
good None e = absurd (cc)
good (Some p) e = refl

-- the path of the second bytes is that of the first, which is an entry's, or lies beneath it
pub is_beneath_bytes : (xs ys : List ℕ) → path_unusable (parse_path xs) ≡ false → is_some (parse_path ys) ≡ true → is_path_prefix xs ys ≡ is_some (without_prefix (path_or_root xs) (path_or_root ys))
is_beneath_bytes [] ys e f = absurd (let k = good (parse_path []) e in cc)
is_beneath_bytes (x ∷ []) ys e f = absurd (go (x == slash_byte) e)
  where
    go : (s : Bool) → path_unusable (cond (not s) None (Some [])) ≡ false → ⊥
    go true k = absurd (cc)
    go false k = absurd (cc)
is_beneath_bytes (x ∷ a ∷ xs) [] e f = absurd (cc)
is_beneath_bytes (x ∷ a ∷ xs) (y ∷ ys) e f = both ys (parts_of x (a ∷ xs) (good (parse_path (x ∷ a ∷ xs)) e)) (parts_of y ys f) (parts_are (a ∷ xs))
  where
    from : Path
    from = slice_split (λ c. c == slash_byte) (a ∷ xs)

    both : (ys : List ℕ) → (x ≡ slash_byte) × (path_or_root (x ∷ a ∷ xs) ≡ cond (nat_lt 0 (length (a ∷ xs))) from []) → (y ≡ slash_byte) × (path_or_root (y ∷ ys) ≡ cond (nat_lt 0 (length ys)) (slice_split (λ c. c == slash_byte) ys) []) → IsParts from
        → is_path_prefix (x ∷ a ∷ xs) (y ∷ ys) ≡ is_some (without_prefix (path_or_root (x ∷ a ∷ xs)) (path_or_root (y ∷ ys)))
    both [] h k p =
        ap (λ b. b && false) first ∙ sym (ap₂ (λ p q. is_some (without_prefix p q)) (h.1 ∙ ap (λ b. cond b from []) (lt-ltb 0 (length (a ∷ xs)) (omega arith)) ∙ p.are) k.1)
      where
        first : (x == y) ≡ true
        first = ap₂ (λ z w. z == w) h.0 k.0 ∙ same_number slash_byte
    both (b ∷ ys) h k p =
        ap (λ z. z && is_path_prefix (a ∷ xs) (b ∷ ys)) first ∙ sym (split_on (a ∷ xs) (b ∷ ys))
        ∙ sym (ap₂ (λ p q. is_some (without_prefix p q)) (h.1 ∙ ap (λ z. cond z from []) (lt-ltb 0 (length (a ∷ xs)) (omega arith)))
        (k.1 ∙ ap (λ z. cond z (slice_split (λ c. c == slash_byte) (b ∷ ys)) []) (lt-ltb 0 (length (b ∷ ys)) (omega arith))))
      where
        first : (x == y) ≡ true
        first = ap₂ (λ z w. z == w) h.0 k.0 ∙ same_number slash_byte

-- ---- what a search for the beginning says

pub not_begun : (xs ys : List ℕ) (r : Bool) → r ≡ pointwise nat_eq xs (take (length xs) ys) → r ≡ false → false ≡ is_path_prefix xs ys
not_begun xs ys r is other = go (is_path_prefix xs ys) refl
  where
    go : (b : Bool) → is_path_prefix xs ys ≡ b → false ≡ b
    go false e = refl
    go true e = let k = begins xs ys e in let t = (starts_is Decides-eqb ys xs r is).1 k.0 k.1 in absurd (cc)

at_end : (xs rest : List ℕ) → get_or (xs ++ rest) (length xs) 0 ≡ get_or rest 0 0
at_end [] rest = refl
at_end (x ∷ xs) rest = at_end xs rest

-- behind the beginning
ends : (xs rest : List ℕ) → length (xs ++ rest) ≡ length xs → true ≡ is_path_prefix xs (xs ++ rest)
ends xs [] e = sym (continued xs [])
ends xs (z ∷ rest) e = absurd (let k = length-append xs (z ∷ rest) in omega (arith, k, e))

goes : (xs rest : List ℕ) → length xs < length (xs ++ rest) → nat_eq (get_or (xs ++ rest) (length xs) 0) 47 ≡ is_path_prefix xs (xs ++ rest)
goes xs [] l = absurd (let k = length-append xs [] in omega (arith, k, l))
goes xs (z ∷ rest) l = ap (λ n. nat_eq n 47) (at_end xs (z ∷ rest)) ∙ sym (continued xs (z ∷ rest))

pub ends_there : (xs ys : List ℕ) (r : Bool) → r ≡ pointwise nat_eq xs (take (length xs) ys) → r ≡ true → length ys ≡ length xs → true ≡ is_path_prefix xs ys
ends_there xs ys r is begun e = let k = (starts_is Decides-eqb ys xs r is).0 begun in subst (λ zs. true ≡ is_path_prefix xs zs) (sym k) (ends xs (drop (length xs) ys) (ap length (sym k) ∙ e))

pub goes_with : (xs ys : List ℕ) (r : Bool) → r ≡ pointwise nat_eq xs (take (length xs) ys) → r ≡ true → length xs < length ys → nat_eq (get_or ys (length xs) 0) 47 ≡ is_path_prefix xs ys
goes_with xs ys r is begun l =
    let k = (starts_is Decides-eqb ys xs r is).0 begun in
    subst (λ zs. nat_eq (get_or zs (length xs) 0) 47 ≡ is_path_prefix xs zs) (sym k) (goes xs (drop (length xs) ys) (subst (λ zs. length xs < length zs) k l))

pub same_numbers : (m n : ℕ) → m ≡ n → nat_eq m n ≡ true
same_numbers m n e = (Decides-eqb m n).1 e

pub strictly : (m n : ℕ) → m ≤ n → (n ≡ m → ⊥) → m < n
strictly m n l ne = go (nat_lt m n) refl
  where
    go : (b : Bool) → nat_lt m n ≡ b → m < n
    go true e = ltb-true m n e
    go false e = absurd (ne (let k = ltb-false m n e in omega (arith, k, l)))
