-- The last name of a path's bytes.
use Rattle.std.proofs.Common.{ℕ, ◌≡◌, ◌+◌, ◌==◌, ◌≤◌, ◌<◌, Bool, true, false, not, if◌then◌else◌, List, [], ◌∷◌, length, nat_lt, Option, Some, None, is_some, unwrap_or, refl, sym, ap, ◌∙◌, arith}
use Rattle.std.specs.List.{list_all, onto_first, slice_split}
use Rattle.std.proofs.lemmas.Bool.{lt-ltb}
use Rattle.lfs_lookup.proofs.Common.{last_name, Name, is_component, slash_byte, is_root_path, length_after_slash}
use Rattle.lfs_model.specs.session.Operations.{parse_path}
use Rattle.lfs_model.specs.session.Refusals.{path_or_root}

abbrev parts_of : List ℕ → List Name
parts_of bytes = slice_split (λ c. c == slash_byte) bytes

-- the length of the last part, where n bytes stand in front of the first
abbrev last_len : ℕ → List Name → ℕ
last_len n [] = n
last_len n (part ∷ []) = n + length part
last_len n (part ∷ next ∷ parts) = length (last_name (next ∷ parts))

last_onto : (n b : ℕ) (parts : List Name) → last_len n (onto_first b parts) ≡ last_len (n + 1) parts
last_onto n b [] = refl
last_onto n b (part ∷ []) = omega arith
last_onto n b (part ∷ next ∷ parts) = refl

last_none : (parts : List Name) → last_len 0 parts ≡ length (last_name parts)
last_none [] = refl
last_none (part ∷ []) = omega arith
last_none (part ∷ next ∷ parts) = refl

record IsCutUp (bytes : List ℕ) : Type 0 where
  part : Name
  parts : List Name
  is : parts_of bytes ≡ part ∷ parts

onto_some : (b : ℕ) (xs : List Name) (c : Bool) → (part : Name) × ((parts : List Name) × ((if c then [] ∷ xs else onto_first b xs) ≡ part ∷ parts))
onto_some b xs true = ([], (xs, refl))
onto_some b [] false = (b ∷ [], ([], refl))
onto_some b (x ∷ xs) false = (b ∷ x, (xs, refl))

cut_up : (bytes : List ℕ) → IsCutUp bytes
cut_up [] = record { part = []; parts = []; is = refl }
cut_up (b ∷ bytes) = let o = onto_some b (parts_of bytes) (b == slash_byte) in record { part = o.0; parts = o.1.0; is = o.1.1 }

last_behind : (n : ℕ) (bytes : List ℕ) → last_len n ([] ∷ parts_of bytes) ≡ length (last_name (parts_of bytes))
last_behind n bytes = let c = cut_up bytes in ap (λ (xs : List Name). last_len n ([] ∷ xs)) c.is ∙ sym (ap (λ (xs : List Name). length (last_name xs)) c.is)

last_step : (n b : ℕ) (bytes : List ℕ) (c : Bool) → last_len n (if c then [] ∷ parts_of bytes else onto_first b (parts_of bytes)) ≡ last_len (if c then 0 else n + 1) (parts_of bytes)
last_step n b bytes true = last_behind n bytes ∙ sym (last_none (parts_of bytes))
last_step n b bytes false = last_onto n b (parts_of bytes)

behind_is : (n : ℕ) (bytes : List ℕ) → length_after_slash n bytes ≡ last_len n (parts_of bytes)
behind_is n [] = omega arith
behind_is n (b ∷ bytes) = behind_is (if b == slash_byte then 0 else n + 1) bytes ∙ sym (last_step n b bytes (b == slash_byte))

-- for the bytes of a path
pub last_name_len : (bytes : List ℕ) → is_some (parse_path bytes) ≡ true → length_after_slash 0 bytes ≡ length (last_name (path_or_root bytes))
last_name_len [] h = absurd (cc)
last_name_len (b ∷ bytes) h = first (b == slash_byte) refl h
  where
    whole : List ℕ → Option (List Name)
    whole rest = if nat_lt 0 (length rest) then (if list_all is_component (parts_of rest) then Some (parts_of rest) else None) else Some []

    cut : (rest : List ℕ) (c : Bool) → list_all is_component (parts_of rest) ≡ c → is_some (if c then Some (parts_of rest) else None) ≡ true
        → length_after_slash 0 rest ≡ length (last_name (unwrap_or (if c then Some (parts_of rest) else None) []))
    cut rest true e k = behind_is 0 rest ∙ last_none (parts_of rest)
    cut rest false e k = absurd (cc)

    rest_of : (rest : List ℕ) → is_some (whole rest) ≡ true → length_after_slash 0 rest ≡ length (last_name (unwrap_or (whole rest) []))
    rest_of [] k = refl
    rest_of (x ∷ xs) k = go (nat_lt 0 (length (x ∷ xs))) refl k
      where
        shown : Option (List Name)
        shown = if list_all is_component (parts_of (x ∷ xs)) then Some (parts_of (x ∷ xs)) else None

        go : (d : Bool) → nat_lt 0 (length (x ∷ xs)) ≡ d → is_some (if d then shown else Some []) ≡ true
            → length_after_slash 0 (x ∷ xs) ≡ length (last_name (unwrap_or (if d then shown else Some []) []))
        go true e k = cut (x ∷ xs) (list_all is_component (parts_of (x ∷ xs))) refl k
        go false e k = absurd (let t = sym (lt-ltb 0 (length (x ∷ xs)) (omega arith)) ∙ e in cc)

    first : (c : Bool) → (b == slash_byte) ≡ c → is_some (if not c then None else whole bytes) ≡ true
        → length_after_slash (if c then 0 else 0 + 1) bytes ≡ length (last_name (unwrap_or (if not c then None else whole bytes) []))
    first true e k = rest_of bytes k
    first false e k = absurd (cc)

-- ---- the names of a path, by its bytes

pub long_path : (b : ℕ) (bytes : List ℕ) → is_some (parse_path (b ∷ bytes)) ≡ true → 0 < length bytes → path_or_root (b ∷ bytes) ≡ slice_split (λ c. c == slash_byte) bytes
long_path b bytes h l = first (b == slash_byte) refl h
  where
    inner : Bool → Option (List Name)
    inner c = if c then Some (parts_of bytes) else None

    outer : Bool → Option (List Name)
    outer d = if d then inner (list_all is_component (parts_of bytes)) else Some []

    cut : (c : Bool) → is_some (inner c) ≡ true → unwrap_or (inner c) [] ≡ parts_of bytes
    cut true k = refl
    cut false k = absurd (cc)

    long : (d : Bool) → d ≡ true → is_some (outer d) ≡ true → unwrap_or (outer d) [] ≡ parts_of bytes
    long true e k = cut (list_all is_component (parts_of bytes)) k
    long false e k = absurd (cc)

    first : (c : Bool) → (b == slash_byte) ≡ c → is_some (if not c then None else outer (nat_lt 0 (length bytes))) ≡ true
        → unwrap_or (if not c then None else outer (nat_lt 0 (length bytes))) [] ≡ parts_of bytes
    first true e k = long (nat_lt 0 (length bytes)) (lt-ltb 0 (length bytes) l) k
    first false e k = absurd (cc)

-- there is one
pub some_name : (b : ℕ) (bytes : List ℕ) → is_some (parse_path (b ∷ bytes)) ≡ true → 0 < length bytes → is_root_path (path_or_root (b ∷ bytes)) ≡ false
some_name b bytes h l = ap is_root_path (long_path b bytes h l) ∙ ap is_root_path (cut_up bytes).is

pub long_root : (bytes : List ℕ) → is_some (parse_path bytes) ≡ true → 2 ≤ length bytes → is_root_path (path_or_root bytes) ≡ false
long_root [] h l = absurd (omega arith)
long_root (b ∷ bytes) h l = some_name b bytes h (omega arith)
