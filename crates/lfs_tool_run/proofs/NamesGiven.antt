-- Names in order, and the kinds that are given with them.
use Rattle.std.proofs.Common.{suc, ◌≡◌, ◌∙◌, ◌++◌, Bool, true, false, cond, List, [], ◌∷◌, Option, Some, None, refl, sym, ap, ap₂, subst, arith, AllPairs, option_map}
use Rattle.std.specs.Prelude.{Contains, find}
use Rattle.lfs_tool_run.proofs.Common.{IsPermutation, All-contains, All-contains_itself, All-from_recursion, recursion_from_All, Contains-permutation, IsPermutation-sym, same_Some, Name, name_cmp, names_with, is_named_folder, source_names, Each, each_both, each_right, greater}
use Rattle.std.specs.declared.cmp.Ordering.TheVariants.{Less}
use Rattle.lfs_model.specs.declared.order.NameOrder.TheVariants.{ShorterFirst}
use Rattle.lfs_model.specs.format.Names.{same_name, is_less}
use Rattle.lfs_model.proofs.Paths.{Names, alike, unlike, names, name_itself, same_itself, unlike_test}

-- ---- order

-- each comes before those behind it
abbrev pub Rising : List Name → Type 0
Rising [] = Unit {0}
Rising (n ∷ ns) = Each (λ m. name_cmp ShorterFirst n m ≡ Less) ns × Rising ns

pub rising_from : (ns : List Name) → AllPairs (λ a b. name_cmp ShorterFirst a b ≡ Less) ns → Rising ns
rising_from [] h = tt
rising_from (n ∷ ns) h = (
  recursion_from_All (λ m. name_cmp ShorterFirst n m ≡ Less) ns (λ k d lt. h 0 (suc k) d (omega arith) (omega arith)),
  rising_from ns (λ i j d l m. h (suc i) (suc j) d (omega arith) (omega arith)),
)

pub before_it : (ns : List Name) (n : Name) (rest : List Name) → Rising (ns ++ n ∷ rest) → Each (λ m. name_cmp ShorterFirst m n ≡ Less) ns
before_it [] n rest h = tt
before_it (m ∷ ns) n rest h = ((each_right (λ k. name_cmp ShorterFirst m k ≡ Less) ns (n ∷ rest) h.0).0, before_it ns n rest h.1)

pub rising_right : (ns rest : List Name) → Rising (ns ++ rest) → Rising rest
rising_right [] rest h = h
rising_right (n ∷ ns) rest h = rising_right ns rest h.1

-- the greatest name comes to the end
pub name_at_end : (n : Name) (ns : List Name) → Each (λ m. name_cmp ShorterFirst m n ≡ Less) ns → names_with n ns ≡ ns ++ n ∷ []
name_at_end n [] h = refl
name_at_end n (m ∷ ns) h = ap (λ b. cond b (n ∷ m ∷ ns) (m ∷ names_with n ns)) (ap is_less (greater ShorterFirst m n h.0)) ∙ ap (λ z. m ∷ z) (name_at_end n ns h.1)

pub less_unlike : (a b : Name) → name_cmp ShorterFirst a b ≡ Less → a ≡ b → ⊥
less_unlike a b h e = let f = sym h ∙ ap (name_cmp ShorterFirst a) (sym e) ∙ name_itself a in cc

pub each_names : (P : Name → Type 0) (gs : List (Name × Bool)) → Each P (source_names gs) → Each (λ g. P g.0) gs
each_names P [] h = tt
each_names P (g ∷ gs) h = (h.0, each_names P gs h.1)

-- ---- the kind of a name

kind_first : (m : Name) (g : Name × Bool) (gs : List (Name × Bool)) → same_name m g.0 ≡ true → is_named_folder m (g ∷ gs) ≡ Some g.1
kind_first m g gs e = ap (λ b. option_map (λ (x : Name × Bool). x.1) (cond b (Some g) (find (λ x. same_name m x.0) gs))) e

kind_past : (m : Name) (g : Name × Bool) (gs : List (Name × Bool)) → same_name m g.0 ≡ false → is_named_folder m (g ∷ gs) ≡ is_named_folder m gs
kind_past m g gs e = ap (λ b. option_map (λ (x : Name × Bool). x.1) (cond b (Some g) (find (λ x. same_name m x.0) gs))) e

pub each_given : (P : Name × Bool → Type 0) (m : Name) (gs : List (Name × Bool)) (k : Bool) → is_named_folder m gs ≡ Some k → Each P gs → P (m, k)
each_given P m [] k e h = absurd (cc)
each_given P m (g ∷ gs) k e h = go (names m g.0) (λ f. each_given P m gs k f h.1)
  where
    go : Names m g.0 → (is_named_folder m gs ≡ Some k → P (m, k)) → P (m, k)
    go (alike is same) next =
        let kind : g.1 ≡ k = same_Some g.1 k (sym (kind_first m g gs same) ∙ e) in
        let both : (g.0, g.1) ≡ (m, k) = ap₂ (λ (a : Name) (b : Bool). (a, b)) (sym is) kind in
        subst P both h.0
    go (unlike apart other) next = next (sym (kind_past m g gs other) ∙ e)

pub none_given : (m : Name) (gs : List (Name × Bool)) → is_named_folder m gs ≡ None → Each (λ g. m ≡ g.0 → ⊥) gs
none_given m [] e = tt
none_given m (g ∷ gs) e = go (names m g.0) (none_given m gs)
  where
    go : Names m g.0 → (is_named_folder m gs ≡ None → Each (λ h. m ≡ h.0 → ⊥) gs) → Each (λ h. m ≡ h.0 → ⊥) (g ∷ gs)
    go (alike is same) next = absurd (let f = sym (kind_first m g gs same) ∙ e in cc)
    go (unlike apart other) next = (apart, next (sym (kind_past m g gs other) ∙ e))

pub each_found : (gs : List (Name × Bool)) → Rising (source_names gs) → Each (λ g. is_named_folder g.0 gs ≡ Some g.1) gs
each_found [] h = tt
each_found (g ∷ gs) h = (
  kind_first g.0 g gs (same_itself g.0),
  each_both (λ (x : Name × Bool). name_cmp ShorterFirst g.0 x.0 ≡ Less) (λ (x : Name × Bool). is_named_folder x.0 gs ≡ Some x.1) (λ (x : Name × Bool). is_named_folder x.0 (g ∷ gs) ≡ Some x.1)
      (λ x less found. kind_past x.0 g gs (unlike_test x.0 g.0 (λ e. less_unlike g.0 x.0 less (sym e))) ∙ found) gs (each_names (λ n. name_cmp ShorterFirst g.0 n ≡ Less) gs h.0) (each_found gs h.1),
)

-- names that come once have their kinds in any order
pub kind_moved : (xs ys : List (Name × Bool)) → IsPermutation xs ys → Rising (source_names ys) → (m : Name) → is_named_folder m xs ≡ is_named_folder m ys
kind_moved xs ys moved rising m = go (is_named_folder m xs) refl
  where
    itself : (zs : List (Name × Bool)) (k : Bool) → is_named_folder m zs ≡ Some k → Contains zs (m, k)
    itself zs k e = each_given (Contains zs) m zs k e (recursion_from_All (Contains zs) zs (All-contains_itself zs))

    there : (k : Bool) → Contains ys (m, k) → is_named_folder m ys ≡ Some k
    there k c = All-contains (λ (g : Name × Bool). is_named_folder g.0 ys ≡ Some g.1) ys (m, k) (All-from_recursion (λ (g : Name × Bool). is_named_folder g.0 ys ≡ Some g.1) ys (each_found ys rising)) c

    neither : is_named_folder m xs ≡ None → (o : Option Bool) → is_named_folder m ys ≡ o → is_named_folder m xs ≡ is_named_folder m ys
    neither e None f = e ∙ sym f
    neither e (Some k) f =
        let c = Contains-permutation ys xs (m, k) (IsPermutation-sym xs ys moved) (itself ys k f) in
        absurd (All-contains (λ (g : Name × Bool). m ≡ g.0 → ⊥) xs (m, k) (All-from_recursion (λ (g : Name × Bool). m ≡ g.0 → ⊥) xs (none_given m xs e)) c refl)

    go : (o : Option Bool) → is_named_folder m xs ≡ o → is_named_folder m xs ≡ is_named_folder m ys
    go None e = neither e (is_named_folder m ys) refl
    go (Some k) e = e ∙ sym (there k (Contains-permutation xs ys (m, k) moved (itself xs k e)))
