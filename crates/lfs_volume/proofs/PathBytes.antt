-- Paths as bytes: each is read as one path, and one begins another where its path does.
use Rattle.std.proofs.Common.{inl, inr, ℕ, ◌≡◌, ◌==◌, ◌||◌, nat_lt, not, Bool, true, false, cond, List, [], ◌∷◌, ◌++◌, length, drop, Some, None, refl, sym, ap, ap₂, ◌∙◌, arith, length-append}
use Rattle.std.specs.Prelude.{◌⊎◌, nat_eq}
use Rattle.std.specs.List.{list_all, slice_split, onto_first, starts_with}
use Rattle.std.proofs.lemmas.Bool.{and_from, and_parts, or_cases, ltb-false}
use Rattle.std.proofs.lemmas.Bool.Decides.{Decides-eqb}
use Rattle.std.proofs.lemmas.List.{append-nil}
use Rattle.std.proofs.lemmas.List.Concat.{flat_map-append}
use Rattle.std.proofs.lemmas.Slice.Eq.{starts_is}
use Rattle.lfs_model.specs.format.Names.{is_component, slash_byte}
use Rattle.lfs_model.specs.tree.Tree.{Path}
use Rattle.lfs_model.specs.session.Operations.{parse_path, path_bytes}
use Rattle.lfs_model.specs.session.Refusals.{is_root_path}
use Rattle.lfs_model.proofs.Paths.{IsBelowOrAside, aside, beyond, rest}
use Rattle.lfs_model.proofs.Spelled.{spelled}
use Rattle.lfs_volume.specs.Calls.{is_at_or_beneath}

abbrev is_slash : ℕ → Bool
is_slash c = c == slash_byte

-- ---- parts between slashes

-- the parts, each behind a slash
pub joined : (xs : List ℕ) → path_bytes (slice_split is_slash xs) ≡ slash_byte ∷ xs
joined [] = refl
joined (x ∷ xs) = go (is_slash x) refl (joined xs)
  where
    onto : (parts : Path) → path_bytes parts ≡ slash_byte ∷ xs → path_bytes (onto_first x parts) ≡ slash_byte ∷ x ∷ xs
    onto [] e = absurd (cc)
    onto (part ∷ parts) e =
        let k : part ++ path_bytes parts ≡ xs = cc in
        ap (λ ys. slash_byte ∷ x ∷ ys) k

    go : (b : Bool) → is_slash x ≡ b → path_bytes (slice_split is_slash xs) ≡ slash_byte ∷ xs → path_bytes (cond b ([] ∷ slice_split is_slash xs) (onto_first x (slice_split is_slash xs))) ≡ slash_byte ∷ x ∷ xs
    go true e others = ap (λ ys. slash_byte ∷ ys) others ∙ ap (λ y. slash_byte ∷ y ∷ xs) (sym ((Decides-eqb x slash_byte).0 e))
    go false e others = onto (slice_split is_slash xs) others

-- a slash parts the parts
parts_apart : (xs ys : List ℕ) → slice_split is_slash (xs ++ slash_byte ∷ ys) ≡ slice_split is_slash xs ++ slice_split is_slash ys
parts_apart [] ys = refl
parts_apart (x ∷ xs) ys = go (is_slash x) (parts_apart xs ys)
  where
    onto : (parts more : Path) → path_bytes parts ≡ slash_byte ∷ xs → onto_first x (parts ++ more) ≡ onto_first x parts ++ more
    onto [] more e = absurd (cc)
    onto (part ∷ parts) more e = refl

    go : (b : Bool) → slice_split is_slash (xs ++ slash_byte ∷ ys) ≡ slice_split is_slash xs ++ slice_split is_slash ys
        → cond b ([] ∷ slice_split is_slash (xs ++ slash_byte ∷ ys)) (onto_first x (slice_split is_slash (xs ++ slash_byte ∷ ys))) ≡ cond b ([] ∷ slice_split is_slash xs) (onto_first x (slice_split is_slash xs)) ++ slice_split is_slash ys
    go true others = ap (λ ps. [] ∷ ps) others
    go false others = ap (onto_first x) others ∙ onto (slice_split is_slash xs) (slice_split is_slash ys) (joined xs)

-- ---- how a path is read

-- the bytes of a path: the root's slash, or a slash before each component
pub data Spelling (bytes : List ℕ) (p : Path) : Type 0 where
  root : bytes ≡ slash_byte ∷ [] → p ≡ [] → Spelling bytes p
  parts : (tail : List ℕ) → bytes ≡ slash_byte ∷ tail → p ≡ slice_split is_slash tail → list_all is_component p ≡ true → Spelling bytes p

pub spelling : (bytes : List ℕ) (p : Path) → parse_path bytes ≡ Some p → Spelling bytes p
spelling [] p e = absurd (cc)
spelling (b ∷ bytes) p e = go (is_slash b) refl e
  where
    ps : Path
    ps = slice_split is_slash bytes

    same : (q : Path) → Some q ≡ Some p → q ≡ p
    same q k = cc

    none : {X : Type 0} → None ≡ Some p → X
    none k = absurd (cc)

    of_parts : b ≡ slash_byte → (t : Bool) → list_all is_component ps ≡ t → cond t (Some ps) None ≡ Some p → Spelling (b ∷ bytes) p
    of_parts is true k f = parts bytes (ap (λ x. x ∷ bytes) is) (sym (same ps f)) (ap (list_all is_component) (sym (same ps f)) ∙ k)
    of_parts is false k f = none f

    nothing : (xs : List ℕ) → nat_lt 0 (length xs) ≡ false → xs ≡ []
    nothing [] k = refl
    nothing (x ∷ xs) k = absurd (let l = ltb-false 0 (length (x ∷ xs)) k in omega arith)

    of_rest : b ≡ slash_byte → (t : Bool) → nat_lt 0 (length bytes) ≡ t → cond t (cond (list_all is_component ps) (Some ps) None) (Some []) ≡ Some p → Spelling (b ∷ bytes) p
    of_rest is true k f = of_parts is (list_all is_component ps) refl f
    of_rest is false k f = root (ap₂ (λ x xs. x ∷ xs) is (nothing bytes k)) (sym (same [] f))

    go : (t : Bool) → is_slash b ≡ t → cond (not t) None (cond (nat_lt 0 (length bytes)) (cond (list_all is_component ps) (Some ps) None) (Some [])) ≡ Some p → Spelling (b ∷ bytes) p
    go true k f = of_rest ((Decides-eqb b slash_byte).0 k) (nat_lt 0 (length bytes)) refl f
    go false k f = none f

-- a path that isn't the root's
pub record IsSpelled (bytes : List ℕ) (p : Path) : Type 0 where
  pub tail : List ℕ
  pub is : bytes ≡ slash_byte ∷ tail
  pub parts : p ≡ slice_split is_slash tail
  pub components : list_all is_component p ≡ true
  pub bytes_are : bytes ≡ path_bytes p

pub spelled_as : (bytes : List ℕ) (p : Path) → parse_path bytes ≡ Some p → is_root_path p ≡ false → IsSpelled bytes p
spelled_as bytes p e not_root = go (spelling bytes p e)
  where
    go : Spelling bytes p → IsSpelled bytes p
    go (root is none) = absurd (let k : true ≡ false = ap is_root_path (sym none) ∙ not_root in cc)
    go (parts tail is are good) = record { tail = tail; is = is; parts = are; components = good; bytes_are = is ∙ sym (joined tail) ∙ ap path_bytes (sym are) }

-- no two paths are read as the same
pub one_spelling : (a b : List ℕ) (p : Path) → parse_path a ≡ Some p → parse_path b ≡ Some p → a ≡ b
one_spelling a b p ea eb = go (spelling a p ea) (spelling b p eb)
  where
    never : (tail : List ℕ) → p ≡ [] → p ≡ slice_split is_slash tail → a ≡ b
    never tail none are = absurd (let k : [] ≡ slash_byte ∷ tail = ap path_bytes (sym none ∙ are) ∙ joined tail in cc)

    go : Spelling a p → Spelling b p → a ≡ b
    go (root is none) (root too also) = is ∙ sym too
    go (root is none) (parts tail too are good) = never tail none are
    go (parts tail is are good) (root too none) = never tail none are
    go (parts tail is are good) (parts other too also fine) = is ∙ sym (joined tail) ∙ ap path_bytes (sym are ∙ also) ∙ joined other ∙ sym too

-- ---- a path at another or beneath it

all_append : (ps qs : Path) → list_all is_component ps ≡ true → list_all is_component qs ≡ true → list_all is_component (ps ++ qs) ≡ true
all_append [] qs a b = b
all_append (p ∷ ps) qs a b = let k = and_parts (is_component p) (list_all is_component ps) a in and_from _ _ k.0 (all_append ps qs k.1 b)

all_behind : (ps qs : Path) → list_all is_component (ps ++ qs) ≡ true → list_all is_component qs ≡ true
all_behind [] qs e = e
all_behind (p ∷ ps) qs e = all_behind ps qs (and_parts (is_component p) (list_all is_component (ps ++ qs)) e).1

pub joined_paths : (p r : Path) → path_bytes (p ++ r) ≡ path_bytes p ++ path_bytes r
joined_paths p r = flat_map-append (λ name. slash_byte ∷ name) p r

-- a path behind another, as bytes
pub appended : (new : List ℕ) (p q r old : Path) → IsSpelled new p → q ≡ old ++ r → list_all is_component q ≡ true → parse_path (new ++ path_bytes r) ≡ Some (p ++ r)
appended new [] q r old s e good = absurd (let k : [] ≡ slash_byte ∷ s.tail = ap path_bytes s.parts ∙ joined s.tail in cc)
appended new (name ∷ p) q r old s e good =
    ap (λ bs. parse_path (bs ++ path_bytes r)) s.bytes_are ∙ ap parse_path (sym (joined_paths (name ∷ p) r))
    ∙ spelled name (p ++ r) (all_append (name ∷ p) r s.components (all_behind old r (ap (list_all is_component) (sym e) ∙ good)))

-- what follows one path's bytes in another's
pub data Beneath (old path : List ℕ) (p q : Path) : Type 0 where
  there : (r : Path) → q ≡ p ++ r → is_at_or_beneath old path ≡ true → drop (length old) path ≡ path_bytes r → Beneath old path p q
  elsewhere : ((r : Path) → q ≡ p ++ r → ⊥) → is_at_or_beneath old path ≡ false → Beneath old path p q

starts : (path old : List ℕ) → (starts_with nat_eq path old ≡ true → path ≡ old ++ drop (length old) path) × ((more : List ℕ) → path ≡ old ++ more → starts_with nat_eq path old ≡ true)
starts path old = starts_is Decides-eqb path old (starts_with nat_eq path old) refl

dropped : (old more : List ℕ) → drop (length old) (old ++ more) ≡ more
dropped [] more = refl
dropped (x ∷ old) more = dropped old more

same_length : (a b : List ℕ) → a ≡ b → (length a == length b) ≡ true
same_length a b e = (Decides-eqb (length a) (length b)).1 (ap length e)

or_true : (b : Bool) → (b || true) ≡ true
or_true true = refl
or_true false = refl

none_left : (xs : List ℕ) → length xs ≡ 0 → xs ≡ []
none_left [] e = refl
none_left (x ∷ xs) e = absurd (omega arith)

-- a path that begins with another's bytes
pub whole_path : (old path : List ℕ) → is_at_or_beneath old path ≡ true → path ≡ old ++ drop (length old) path
whole_path old path e = (starts path old).0 (and_parts _ _ e).0

pub beneath : (old path : List ℕ) (p q : Path) → IsSpelled old p → IsSpelled path q → Beneath old path p q
beneath old path p q o s = go (rest p q)
  where
    behind : (r : Path) → path ≡ old ++ path_bytes r → ((length path == length old) || starts_with nat_eq (path_bytes r) (slash_byte ∷ [])) ≡ true
    behind [] e = ap (λ b. b || starts_with nat_eq [] (slash_byte ∷ [])) (same_length path old (e ∙ append-nil old))
    behind (name ∷ r) e = or_true (length path == length old)

    bytes_there : (r : Path) → q ≡ p ++ r → path ≡ old ++ path_bytes r
    bytes_there r e = s.bytes_are ∙ ap path_bytes e ∙ joined_paths p r ∙ ap (λ bs. bs ++ path_bytes r) (sym o.bytes_are)

    found : (r : Path) → q ≡ p ++ r → Beneath old path p q
    found r e =
        let at = bytes_there r e in
        let left : drop (length old) path ≡ path_bytes r = ap (drop (length old)) at ∙ dropped old (path_bytes r) in
        there r e (and_from _ _ ((starts path old).1 (path_bytes r) at) (ap (λ bs. (length path == length old) || starts_with nat_eq bs (slash_byte ∷ [])) left ∙ behind r at)) left

    at_slash : (left : List ℕ) → starts_with nat_eq left (slash_byte ∷ []) ≡ true → (more : List ℕ) × (left ≡ slash_byte ∷ more)
    at_slash left e = (drop 1 left, (starts left (slash_byte ∷ [])).0 e)

    goes_on : (more : List ℕ) → path ≡ old ++ slash_byte ∷ more → q ≡ p ++ slice_split is_slash more
    goes_on more e =
        let tails : s.tail ≡ o.tail ++ slash_byte ∷ more = (let k : slash_byte ∷ s.tail ≡ slash_byte ∷ (o.tail ++ slash_byte ∷ more) = sym s.is ∙ e ∙ ap (λ bs. bs ++ slash_byte ∷ more) o.is in cc) in
        s.parts ∙ ap (slice_split is_slash) tails ∙ parts_apart o.tail more ∙ ap (λ z. z ++ slice_split is_slash more) (sym o.parts)

    same : path ≡ old → q ≡ p ++ []
    same e =
        let tails : s.tail ≡ o.tail = (let k : slash_byte ∷ s.tail ≡ slash_byte ∷ o.tail = sym s.is ∙ e ∙ o.is in cc) in
        s.parts ∙ ap (slice_split is_slash) tails ∙ sym o.parts ∙ sym (append-nil p)

    from_test : ((r : Path) → q ≡ p ++ r → ⊥) → is_at_or_beneath old path ≡ true → ⊥
    from_test never e =
        let k = and_parts _ _ e in
        let whole = (starts path old).0 k.0 in
        by whole (or_cases _ _ k.1)
      where
        by : path ≡ old ++ drop (length old) path → ((length path == length old) ≡ true) ⊎ (starts_with nat_eq (drop (length old) path) (slash_byte ∷ []) ≡ true) → ⊥
        by whole (inl long) =
            let l : length path ≡ length old = (Decides-eqb (length path) (length old)).0 long in
            let z : length (drop (length old) path) ≡ 0 = omega (arith, ap length whole, length-append old (drop (length old) path)) in
            never [] (same (whole ∙ ap (λ bs. old ++ bs) (none_left (drop (length old) path) z) ∙ append-nil old))
        by whole (inr slash) =
            let m = at_slash (drop (length old) path) slash in
            never (slice_split is_slash m.0) (goes_on m.0 (whole ∙ ap (λ bs. old ++ bs) m.1))

    not_true : (b : Bool) → (b ≡ true → ⊥) → b ≡ false
    not_true true h = absurd (h refl)
    not_true false h = refl

    go : IsBelowOrAside p q → Beneath old path p q
    go (beyond r e w) = found r e
    go (aside never w) = elsewhere never (not_true (is_at_or_beneath old path) (from_test never))
