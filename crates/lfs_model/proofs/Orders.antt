-- The orders of names are total, and names put in order.
use Rattle.std.proofs.Common.{ℕ, zero, suc, ◌≡◌, ◌⊎◌, inl, inr, Bool, true, false, not, cond, List, [], ◌∷◌, length, refl, sym, ap, ap₂, subst, ◌∙◌, nat_cmp, Ordering, Less, Equal, Greater, Contains, arith, insert}
use Rattle.lfs_model.proofs.Common.{ordering_then, ranked, nat_list_cmp_total, tied_itself, Name, name_cmp, same_name, is_equal, is_less, sorted_names, names_without}
use Rattle.std.specs.Ordering.{ordering_reverse}
use Rattle.std.proofs.lemmas.Cmp.{nat_cmp_total}
use Rattle.std.specs.Cmp.{IsTotalOrder}
use Rattle.lfs_model.specs.declared.order.NameOrder.{NameOrder}
use Rattle.lfs_model.specs.declared.order.NameOrder.TheVariants.{ShorterFirst, LongerFirst}
use Rattle.lfs_model.specs.format.Names.{cmp_longer_first, insert_name}
use Rattle.lfs_model.proofs.Paths.{name_from_equal, same_itself, unlike_test}

-- ---- the order that has the longer one first

then_back : (o p : Ordering) → ordering_then (ordering_reverse o) (ordering_reverse p) ≡ ordering_reverse (ordering_then o p)
then_back Less p = refl
then_back Equal p = refl
then_back Greater p = refl

longer_back : (a b : Name) → cmp_longer_first a b ≡ ordering_reverse (cmp_longer_first b a)
longer_back [] [] = refl
longer_back [] (y ∷ ys) = refl
longer_back (x ∷ xs) [] = refl
longer_back (x ∷ xs) (y ∷ ys) = ap₂ ordering_then (nat_cmp_total.antisymm x y) (longer_back xs ys) ∙ then_back (nat_cmp y x) (cmp_longer_first ys xs)

longer_equal : (a b : Name) → cmp_longer_first a b ≡ Equal → a ≡ b
longer_equal [] [] e = refl
longer_equal [] (y ∷ ys) e = absurd (cc)
longer_equal (x ∷ xs) [] e = absurd (cc)
longer_equal (x ∷ xs) (y ∷ ys) e = go (nat_cmp x y) refl e (longer_equal xs ys)
  where
    go : (o : Ordering) → nat_cmp x y ≡ o → ordering_then o (cmp_longer_first xs ys) ≡ Equal → (cmp_longer_first xs ys ≡ Equal → xs ≡ ys) → x ∷ xs ≡ y ∷ ys
    go Less f h rest = absurd (cc)
    go Equal f h rest = ap₂ (λ z zs. z ∷ zs) (ranked x y Equal (sym f)) (rest h)
    go Greater f h rest = absurd (cc)

longer_trans : (a b c : Name) → cmp_longer_first a b ≡ Less → cmp_longer_first b c ≡ Less → cmp_longer_first a c ≡ Less
longer_trans [] [] c h g = absurd (cc)
longer_trans [] (y ∷ ys) c h g = absurd (cc)
longer_trans (x ∷ xs) [] [] h g = absurd (cc)
longer_trans (x ∷ xs) [] (z ∷ zs) h g = absurd (cc)
longer_trans (x ∷ xs) (y ∷ ys) [] h g = refl
longer_trans (x ∷ xs) (y ∷ ys) (z ∷ zs) h g = go (nat_cmp x y) (nat_cmp y z) refl refl h g (longer_trans xs ys zs)
  where
    go : (o p : Ordering) → nat_cmp x y ≡ o → nat_cmp y z ≡ p → ordering_then o (cmp_longer_first xs ys) ≡ Less → ordering_then p (cmp_longer_first ys zs) ≡ Less
        → (cmp_longer_first xs ys ≡ Less → cmp_longer_first ys zs ≡ Less → cmp_longer_first xs zs ≡ Less) → ordering_then (nat_cmp x z) (cmp_longer_first xs zs) ≡ Less
    go Less Less e f h g rest = ap (λ o. ordering_then o (cmp_longer_first xs zs)) (nat_cmp_total.trans x y z e f)
    go Less Equal e f h g rest = ap (λ o. ordering_then o (cmp_longer_first xs zs)) (ap (nat_cmp x) (sym (ranked y z Equal (sym f))) ∙ e)
    go Less Greater e f h g rest = absurd (cc)
    go Equal Less e f h g rest = ap (λ o. ordering_then o (cmp_longer_first xs zs)) (nat_cmp_total.congr x y z e ∙ f)
    go Equal Equal e f h g rest = ap (λ o. ordering_then o (cmp_longer_first xs zs)) (nat_cmp_total.congr x y z e ∙ f) ∙ rest h g
    go Equal Greater e f h g rest = absurd (cc)
    go Greater p e f h g rest = absurd (cc)

longer_total : IsTotalOrder cmp_longer_first
longer_total = record {
  antisymm = longer_back;
  trans = longer_trans;
  congr = λ a b c e. ap (λ z. cmp_longer_first z c) (longer_equal a b e);
}

-- ---- each order

pub name_order : (o : NameOrder) → IsTotalOrder (name_cmp o)
name_order ShorterFirst = nat_list_cmp_total
name_order LongerFirst = longer_total

pub equal_names : (o : NameOrder) (a b : Name) → name_cmp o a b ≡ Equal → a ≡ b
equal_names ShorterFirst a b e = name_from_equal a b e
equal_names LongerFirst a b e = longer_equal a b e

pub order_itself : (o : NameOrder) (a : Name) → name_cmp o a a ≡ Equal
order_itself o a = tied_itself (name_order o) a

pub greater : (o : NameOrder) (a b : Name) → name_cmp o a b ≡ Less → name_cmp o b a ≡ Greater
greater o a b e = (name_order o).antisymm b a ∙ ap ordering_reverse e

pub less_differs : (o : NameOrder) (a b : Name) → name_cmp o a b ≡ Less → a ≡ b → ⊥
less_differs o a b e same = absurd (let f : Less ≡ Equal = sym e ∙ ap (name_cmp o a) (sym same) ∙ order_itself o a in cc)

pub less_apart : (o : NameOrder) (a b : Name) → name_cmp o a b ≡ Less → same_name a b ≡ false
less_apart o a b e = unlike_test a b (less_differs o a b e)

pub more_apart : (o : NameOrder) (a b : Name) → name_cmp o a b ≡ Less → same_name b a ≡ false
more_apart o a b e = unlike_test b a (λ s. less_differs o a b e (sym s))

-- how two names stand
pub data Stand (o : NameOrder) (a b : Name) : Type 0 where
  below : name_cmp o a b ≡ Less → is_less (name_cmp o a b) ≡ true → is_less (name_cmp o b a) ≡ false → Stand o a b
  same : a ≡ b → is_less (name_cmp o a b) ≡ false → Stand o a b
  above : name_cmp o b a ≡ Less → is_less (name_cmp o b a) ≡ true → is_less (name_cmp o a b) ≡ false → Stand o a b

pub stand : (o : NameOrder) (a b : Name) → Stand o a b
stand o a b = go (name_cmp o a b) refl
  where
    go : (r : Ordering) → name_cmp o a b ≡ r → Stand o a b
    go Less e = below e (ap is_less e) (ap is_less (greater o a b e))
    go Equal e = same (equal_names o a b e) (ap is_less e)
    go Greater e = let f : name_cmp o b a ≡ Less = (name_order o).antisymm b a ∙ ap ordering_reverse e in above f (ap is_less f) (ap is_less e)

-- ---- a name in its place

first_put : (o : NameOrder) (n x : Name) (xs : List Name) → is_less (name_cmp o n x) ≡ true → insert_name o n (x ∷ xs) ≡ n ∷ x ∷ xs
first_put o n x xs e = ap (λ b. cond b (n ∷ x ∷ xs) (x ∷ insert_name o n xs)) e

later_put : (o : NameOrder) (n x : Name) (xs : List Name) → is_less (name_cmp o n x) ≡ false → insert_name o n (x ∷ xs) ≡ x ∷ insert_name o n xs
later_put o n x xs e = ap (λ b. cond b (n ∷ x ∷ xs) (x ∷ insert_name o n xs)) e

-- two names can be put in either order
both_first : (o : NameOrder) (n m : Name) (xs : List Name) → insert_name o n xs ≡ n ∷ xs → insert_name o m xs ≡ m ∷ xs
    → insert_name o n (insert_name o m xs) ≡ insert_name o m (insert_name o n xs)
both_first o n m xs e f = go (stand o n m)
  where
    go : Stand o n m → insert_name o n (insert_name o m xs) ≡ insert_name o m (insert_name o n xs)
    go (below l is_so not_so) =
        ap (insert_name o n) f ∙ first_put o n m xs is_so ∙ sym (ap (insert_name o m) e ∙ later_put o m n xs not_so ∙ ap (λ z. n ∷ z) f)
    go (same is not_so) = ap (λ z. insert_name o n (insert_name o z xs)) (sym is) ∙ ap (λ z. insert_name o z (insert_name o n xs)) is
    go (above l is_so not_so) =
        ap (insert_name o n) f ∙ later_put o n m xs not_so ∙ ap (λ z. m ∷ z) e ∙ sym (ap (insert_name o m) e ∙ first_put o m n xs is_so)

one_first : (o : NameOrder) (n m x : Name) (xs : List Name) → name_cmp o n x ≡ Less → is_less (name_cmp o m x) ≡ false
    → insert_name o n (insert_name o m (x ∷ xs)) ≡ insert_name o m (insert_name o n (x ∷ xs))
one_first o n m x xs less fails =
    ap (insert_name o n) (later_put o m x xs fails) ∙ first_put o n x (insert_name o m xs) (ap is_less less)
    ∙ sym (ap (insert_name o m) (first_put o n x xs (ap is_less less)) ∙ later_put o m n (x ∷ xs) (go (stand o m n)) ∙ ap (λ z. n ∷ z) (later_put o m x xs fails))
  where
    go : Stand o m n → is_less (name_cmp o m n) ≡ false
    go (below l is_so not_more) = absurd (let k = ap is_less ((name_order o).trans m n x l less) in let c : true ≡ false = sym k ∙ fails in cc)
    go (same is not_less) = not_less
    go (above l is_so not_less) = not_less

pub put_both : (o : NameOrder) (n m : Name) (xs : List Name) → insert_name o n (insert_name o m xs) ≡ insert_name o m (insert_name o n xs)
put_both o n m [] = both_first o n m [] refl refl
put_both o n m (x ∷ xs) = go (is_less (name_cmp o n x)) (is_less (name_cmp o m x)) refl refl (put_both o n m xs)
  where
    less_from : (r : Ordering) → is_less r ≡ true → r ≡ Less
    less_from Less e = refl
    less_from Equal e = absurd (cc)
    less_from Greater e = absurd (cc)

    go : (a b : Bool) → is_less (name_cmp o n x) ≡ a → is_less (name_cmp o m x) ≡ b → insert_name o n (insert_name o m xs) ≡ insert_name o m (insert_name o n xs)
        → insert_name o n (insert_name o m (x ∷ xs)) ≡ insert_name o m (insert_name o n (x ∷ xs))
    go true true e f h = both_first o n m (x ∷ xs) (first_put o n x xs e) (first_put o m x xs f)
    go true false e f h = one_first o n m x xs (less_from (name_cmp o n x) e) f
    go false true e f h = sym (one_first o m n x xs (less_from (name_cmp o m x) f) e)
    go false false e f h =
        ap (insert_name o n) (later_put o m x xs f) ∙ later_put o n x (insert_name o m xs) e ∙ ap (λ z. x ∷ z) h
        ∙ sym (ap (insert_name o m) (later_put o n x xs e) ∙ later_put o m x (insert_name o n xs) f)

-- ---- names in order

pub in_order_insert : (o : NameOrder) (xs : List Name) (k : ℕ) (n : Name) → sorted_names o (insert xs k n) ≡ insert_name o n (sorted_names o xs)
in_order_insert o xs zero n = refl
in_order_insert o [] (suc k) n = refl
in_order_insert o (x ∷ xs) (suc k) n = ap (insert_name o x) (in_order_insert o xs k n) ∙ put_both o x n (sorted_names o xs)

-- ---- without a name

pub without_put : (o : NameOrder) (n : Name) (xs : List Name) → names_without n (insert_name o n xs) ≡ names_without n xs
without_put o n [] = ap (λ b. cond (not b) (n ∷ []) []) (same_itself n)
without_put o n (x ∷ xs) = go (is_less (name_cmp o n x)) refl (without_put o n xs)
  where
    go : (b : Bool) → is_less (name_cmp o n x) ≡ b → names_without n (insert_name o n xs) ≡ names_without n xs → names_without n (insert_name o n (x ∷ xs)) ≡ names_without n (x ∷ xs)
    go true e h = ap (names_without n) (first_put o n x xs e) ∙ ap (λ b. cond (not b) (n ∷ names_without n (x ∷ xs)) (names_without n (x ∷ xs))) (same_itself n)
    go false e h = ap (names_without n) (later_put o n x xs e) ∙ ap (λ z. cond (not (same_name n x)) (x ∷ z) z) h

-- a name is none of these
abbrev pub IsNone : Name → List Name → Type 0
IsNone n [] = Unit {0}
IsNone n (x ∷ xs) = (same_name n x ≡ false) × IsNone n xs

none_put : (o : NameOrder) (n m : Name) (xs : List Name) → same_name n m ≡ false → IsNone n xs → IsNone n (insert_name o m xs)
none_put o n m [] e h = (e, tt)
none_put o n m (x ∷ xs) e h = go (is_less (name_cmp o m x)) refl (none_put o n m xs e h.1)
  where
    go : (b : Bool) → is_less (name_cmp o m x) ≡ b → IsNone n (insert_name o m xs) → IsNone n (insert_name o m (x ∷ xs))
    go true f k = subst (IsNone n) (sym (first_put o m x xs f)) (e, h)
    go false f k = subst (IsNone n) (sym (later_put o m x xs f)) (h.0, k)

pub none_in_order : (o : NameOrder) (n : Name) (xs : List Name) → IsNone n xs → IsNone n (sorted_names o xs)
none_in_order o n [] h = tt
none_in_order o n (x ∷ xs) h = none_put o n x (sorted_names o xs) h.0 (none_in_order o n xs h.1)

pub without_none : (n : Name) (xs : List Name) → IsNone n xs → names_without n xs ≡ xs
without_none n [] h = refl
without_none n (x ∷ xs) h =
    ap (λ b. cond (not b) (x ∷ names_without n xs) (names_without n xs)) h.0 ∙ ap (λ z. x ∷ z) (without_none n xs h.1)

-- ---- the same names

abbrev Among : Name → List Name → Type 0
Among n [] = ⊥
Among n (x ∷ xs) = (n ≡ x) ⊎ Among n xs

among_put : (o : NameOrder) (m n : Name) (xs : List Name) → Among n (m ∷ xs) → Among n (insert_name o m xs)
among_put o m n [] h = h
among_put o m n (x ∷ xs) h = go (is_less (name_cmp o m x)) refl h (among_put o m n xs)
  where
    go : (b : Bool) → is_less (name_cmp o m x) ≡ b → Among n (m ∷ x ∷ xs) → (Among n (m ∷ xs) → Among n (insert_name o m xs)) → Among n (insert_name o m (x ∷ xs))
    go true e h next = subst (Among n) (sym (first_put o m x xs e)) h
    go false e (inl is) next = subst (Among n) (sym (later_put o m x xs e)) (inr (next (inl is)))
    go false e (inr (inl is)) next = subst (Among n) (sym (later_put o m x xs e)) (inl is)
    go false e (inr (inr a)) next = subst (Among n) (sym (later_put o m x xs e)) (inr (next (inr a)))

among_from_put : (o : NameOrder) (m n : Name) (xs : List Name) → Among n (insert_name o m xs) → Among n (m ∷ xs)
among_from_put o m n [] h = h
among_from_put o m n (x ∷ xs) h = go (is_less (name_cmp o m x)) refl h (among_from_put o m n xs)
  where
    past : Among n (m ∷ xs) → Among n (m ∷ x ∷ xs)
    past (inl is) = inl is
    past (inr a) = inr (inr a)

    at : (n ≡ x) ⊎ Among n (insert_name o m xs) → (Among n (insert_name o m xs) → Among n (m ∷ xs)) → Among n (m ∷ x ∷ xs)
    at (inl is) next = inr (inl is)
    at (inr a) next = past (next a)

    go : (b : Bool) → is_less (name_cmp o m x) ≡ b → Among n (insert_name o m (x ∷ xs)) → (Among n (insert_name o m xs) → Among n (m ∷ xs)) → Among n (m ∷ x ∷ xs)
    go true e h next = subst (Among n) (first_put o m x xs e) h
    go false e h next = at (subst (Among n) (later_put o m x xs e) h) next

among_in_order : (o : NameOrder) (n : Name) (xs : List Name) → Among n xs → Among n (sorted_names o xs)
among_in_order o n [] h = h
among_in_order o n (x ∷ xs) (inl is) = among_put o x n (sorted_names o xs) (inl is)
among_in_order o n (x ∷ xs) (inr a) = among_put o x n (sorted_names o xs) (inr (among_in_order o n xs a))

among_back : (o : NameOrder) (n : Name) (xs : List Name) → Among n (sorted_names o xs) → Among n xs
among_back o n [] h = h
among_back o n (x ∷ xs) h = go (among_from_put o x n (sorted_names o xs) h) (among_back o n xs)
  where
    go : Among n (x ∷ sorted_names o xs) → (Among n (sorted_names o xs) → Among n xs) → Among n (x ∷ xs)
    go (inl is) next = inl is
    go (inr a) next = inr (next a)

to_among : (n : Name) (xs : List Name) → Contains xs n → Among n xs
to_among n [] (k, l, e) = absurd (omega (arith, l))
to_among n (x ∷ xs) (zero, l, e) = inl (sym e)
to_among n (x ∷ xs) (suc k, l, e) = inr (to_among n xs (k, omega (arith, l), e))

from_among : (n : Name) (xs : List Name) → Among n xs → Contains xs n
from_among n [] h = absurd h
from_among n (x ∷ xs) (inl is) = (0, omega arith, sym is)
from_among n (x ∷ xs) (inr a) = let (k, l, e) = from_among n xs a in (suc k, omega (arith, l), e)

pub contains_in_order : (o : NameOrder) (xs : List Name) (n : Name) → Contains xs n → Contains (sorted_names o xs) n
contains_in_order o xs n h = from_among n (sorted_names o xs) (among_in_order o n xs (to_among n xs h))

pub contains_back : (o : NameOrder) (xs : List Name) (n : Name) → Contains (sorted_names o xs) n → Contains xs n
contains_back o xs n h = from_among n xs (among_back o n xs (to_among n (sorted_names o xs) h))

length_put : (o : NameOrder) (n : Name) (xs : List Name) → length (insert_name o n xs) ≡ suc (length xs)
length_put o n [] = refl
length_put o n (x ∷ xs) = go (is_less (name_cmp o n x)) refl (length_put o n xs)
  where
    go : (b : Bool) → is_less (name_cmp o n x) ≡ b → length (insert_name o n xs) ≡ suc (length xs) → length (insert_name o n (x ∷ xs)) ≡ suc (suc (length xs))
    go true e h = ap length (first_put o n x xs e)
    go false e h = ap length (later_put o n x xs e) ∙ ap suc h

pub length_in_order : (o : NameOrder) (xs : List Name) → length (sorted_names o xs) ≡ length xs
length_in_order o [] = refl
length_in_order o (x ∷ xs) = length_put o x (sorted_names o xs) ∙ ap suc (length_in_order o xs)

-- ---- the same names, in each order

pub same_by : (o : NameOrder) (a b : Name) → is_equal (name_cmp o a b) ≡ same_name a b
same_by o a b = go (name_cmp o a b) refl
  where
    go : (r : Ordering) → name_cmp o a b ≡ r → is_equal (name_cmp o a b) ≡ same_name a b
    go Less e = ap is_equal e ∙ sym (less_apart o a b e)
    go Equal e = ap is_equal e ∙ sym (ap (same_name a) (sym (equal_names o a b e)) ∙ same_itself a)
    go Greater e = ap is_equal e ∙ sym (more_apart o b a ((name_order o).antisymm b a ∙ ap ordering_reverse e))
