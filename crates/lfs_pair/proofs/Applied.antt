-- Changes, applied one by one.
use Rattle.std.proofs.Common.{ℕ, zero, suc, ◌≡◌, ◌+◌, ◌<◌, Bool, true, List, [], ◌∷◌, ◌++◌, length, take, drop, map, get_or, Option, Some, None, refl, ap, ◌∙◌, arith}
use Rattle.lfs_pair.proofs.Common.{list_all, and_parts, append-nil, flat_map-append, RawContent, content_after, ContentChange, change_entries, entries_of_changes, option_and_then}
use Rattle.lfs_model.proofs.WrittenAnew.{then, content_after-append}
use Rattle.lfs_tag.specs.declared.content.ContentError.{ContentError}
use Rattle.lfs_tag.specs.declared.content.ContentError.TheVariants.{Malformed, NoMemory}
use Rattle.lfs_tag.specs.ContentGives.{IsContentError}

pub all_at : {X Y : Type 0} (p : Y → Bool) (f : X → Y) (xs : List X) (i : ℕ) (d : X) → list_all p (map f xs) ≡ true → i < length xs → p (f (get_or xs i d)) ≡ true
all_at p f [] i d h l = absurd (omega arith)
all_at p f (x ∷ xs) zero d h l = (and_parts (p (f x)) (list_all p (map f xs)) h).0
all_at p f (x ∷ xs) (suc i) d h l = all_at p f xs i d (and_parts (p (f x)) (list_all p (map f xs)) h).1 (omega arith)

-- the first i + 1, as the first i and one more
pub mapped_front : {X Y : Type 0} (f : X → Y) (xs : List X) (i : ℕ) (d : X) → i < length xs → map f (take (i + 1) xs) ≡ map f (take i xs) ++ f (get_or xs i d) ∷ []
mapped_front f [] i d l = absurd (omega arith)
mapped_front f (x ∷ xs) zero d l = refl
mapped_front f (x ∷ xs) (suc i) d l =
    let more : suc i + 1 ≡ suc (i + 1) = omega arith in rw more (ap (λ ys. f x ∷ ys) (mapped_front f xs i d (omega arith)))

-- all, as the first i, one more and the others
pub mapped_split : {X Y : Type 0} (f : X → Y) (xs : List X) (i : ℕ) (d : X) → i < length xs → map f xs ≡ map f (take i xs) ++ f (get_or xs i d) ∷ map f (drop (i + 1) xs)
mapped_split f [] i d l = absurd (omega arith)
mapped_split f (x ∷ xs) zero d l = refl
mapped_split f (x ∷ xs) (suc i) d l =
    let more : suc i + 1 ≡ suc (i + 1) = omega arith in rw more (ap (λ ys. f x ∷ ys) (mapped_split f xs i d (omega arith)))

-- one more change
pub one_more : (c mid new : RawContent) (front : List ContentChange) (change : ContentChange) → content_after c (entries_of_changes front) ≡ Some mid → content_after mid (change_entries change) ≡ Some new
    → content_after c (entries_of_changes (front ++ change ∷ [])) ≡ Some new
one_more c mid new front change so_far here =
    ap (content_after c) (flat_map-append change_entries front (change ∷ []) ∙ ap (λ z. entries_of_changes front ++ z) (append-nil (change_entries change)))
    ∙ then c mid (entries_of_changes front) (change_entries change) (Some new) so_far here

-- a change that fails makes all fail
pub one_fails : (c mid : RawContent) (front : List ContentChange) (change : ContentChange) (others : List ContentChange) → content_after c (entries_of_changes front) ≡ Some mid → content_after mid (change_entries change) ≡ None
    → content_after c (entries_of_changes (front ++ change ∷ others)) ≡ None
one_fails c mid front change others so_far here =
    ap (content_after c) (flat_map-append change_entries front (change ∷ others))
    ∙ then c mid (entries_of_changes front) (change_entries change ++ entries_of_changes others) None so_far
    (content_after-append mid (change_entries change) (entries_of_changes others) ∙ ap (option_and_then (λ d. content_after d (entries_of_changes others))) here)

-- an error of one step is one of all
pub fails_on : {X Y : Type 0} (e : ContentError) (o : Option X) (p : Option Y) → (o ≡ None → p ≡ None) → IsContentError e o → IsContentError e p
fails_on Malformed o p h f = h f
fails_on NoMemory o p h f = tt
