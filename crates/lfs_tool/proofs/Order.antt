-- Names in order, and names that aren't.
use Rattle.std.proofs.Common.{◌≡◌, ◌∙◌, ◌+◌, ◌&&◌, ℕ, suc, Bool, true, false, cond, get_or, inl, inr, List, [], ◌∷◌, Less, Equal, Greater, Option, Some, None, Ordering, ap, arith, map, refl, subst, sym}
use Rattle.std.specs.Prelude.{AllPairs, IfSome}
use Rattle.std.specs.List.Sorted.{IsPermutation, IsSortedBy}
use Rattle.std.specs.Ordering.{ordering_reverse}
use Rattle.std.proofs.lemmas.Bool.{and_parts}
use Rattle.std.proofs.lemmas.Cmp.{nat_list_cmp_total}
use Rattle.std.proofs.lemmas.List.Elements.{All-from_recursion}
use Rattle.std.proofs.lemmas.List.Kept.{AllPairs-cons}
use Rattle.std.proofs.lemmas.List.Sums.{sum_by-cons}
use Rattle.std.proofs.lemmas.List.Sorted.{IsPermutation-map, sum_by-IsPermutation}
use Rattle.lfs_model.specs.declared.order.NameOrder.TheVariants.{ShorterFirst}
use Rattle.lfs_model.specs.format.Names.{Name, name_cmp, same_name, is_component, is_less}
use Rattle.lfs_model.specs.layers.Source.{HaveBadOrRepeatedNames, TreeSource, source_names, name_occurrences}
use Rattle.lfs_tool.specs.SourceTrees.{listed_view}
use Rattle.lfs_model.proofs.Counts.{Each, each_weaker}
use Rattle.lfs_model.proofs.Paths.{name_from_equal, same_itself}
use Rattle.lfs_tool.specs.SourceEntries.{AreAscendingComponents, is_listed_before, listed_name, are_ascending_after}
use Rattle.lfs_tool.specs.declared.source.ListedName.{ListedName}

-- ---- in order

less_from : (o : Ordering) → is_less o ≡ true → o ≡ Less
less_from Less e = refl
less_from Equal e = absurd (cc)
less_from Greater e = absurd (cc)

record Rises (last : Name) (ns : List Name) : Type 0 where
  components : Each (λ n. is_component n ≡ true) ns
  above : Each (λ n. name_cmp ShorterFirst last n ≡ Less) ns
  pairs : AllPairs (λ a b. name_cmp ShorterFirst a b ≡ Less) ns

rises_from : (last : Name) (ns : List Name) → are_ascending_after last ns ≡ true → Rises last ns
rises_from last [] e = record { components = tt; above = tt; pairs = λ i j d l m. absurd (omega arith) }
rises_from last (n ∷ ns) e =
    let one = and_parts (is_component n && is_less (name_cmp ShorterFirst last n)) (are_ascending_after n ns) e in
    let two = and_parts (is_component n) (is_less (name_cmp ShorterFirst last n)) one.0 in
    let less = less_from (name_cmp ShorterFirst last n) two.1 in
    let rest = rises_from n ns one.1 in
    record {
      components = (two.0, rest.components);
      above = (less, each_weaker (λ m. name_cmp ShorterFirst n m ≡ Less) (λ m. name_cmp ShorterFirst last m ≡ Less) (λ m k. nat_list_cmp_total.trans last n m less k) ns rest.above);
      pairs = AllPairs-cons (λ a b. name_cmp ShorterFirst a b ≡ Less) n ns (All-from_recursion (λ m. name_cmp ShorterFirst n m ≡ Less) ns rest.above) rest.pairs;
    }

pub in_order : (ns : List Name) → are_ascending_after [] ns ≡ true → AreAscendingComponents ns
in_order ns e =
    let r = rises_from [] ns e in
    record { components = All-from_recursion (λ n. is_component n ≡ true) ns r.components; rise = r.pairs }

-- ---- not in order

abbrev NeverFall : List Name → Type 0
NeverFall [] = Unit {0}
NeverFall (n ∷ []) = Unit {0}
NeverFall (n ∷ m ∷ ns) = (is_less (name_cmp ShorterFirst m n) ≡ false) × NeverFall (m ∷ ns)

never_fall : (xs : List ListedName) → IsSortedBy is_listed_before xs → NeverFall (map listed_name xs)
never_fall [] h = tt
never_fall (x ∷ []) h = tt
never_fall (x ∷ y ∷ xs) h = (
  h 0 x (omega arith) (omega arith),
  never_fall (y ∷ xs) (λ k d l m.
      let next : suc k + 1 ≡ suc (k + 1) = omega arith in
      subst (λ i. is_listed_before (get_or (x ∷ y ∷ xs) i d) (get_or (y ∷ xs) k d) ≡ false) next (h (suc k) d (omega arith) (omega arith))),
)

times_more : (name n : Name) (ns : List Name) → name_occurrences name (n ∷ ns) ≡ cond (same_name name n) 1 0 + name_occurrences name ns
times_more name n ns = sum_by-cons (λ m. cond (same_name name m) 1 0) n ns

here_too : (n : Name) (ns : List Name) → name_occurrences n (n ∷ ns) ≡ 1 + name_occurrences n ns
here_too n ns = times_more n n ns ∙ ap (λ b. cond b 1 0 + name_occurrences n ns) (same_itself n)

bad_later : (n : Name) (ns : List Name) → HaveBadOrRepeatedNames ns → HaveBadOrRepeatedNames (n ∷ ns)
bad_later n ns (inl h) = inl (h.0, h.1, omega (arith, h.2, times_more h.0 n ns))
bad_later n ns (inr h) = inr (h.0, omega (arith, h.1, times_more h.0 n ns))

odd_here : (n : Name) (ns : List Name) → is_component n ≡ false → HaveBadOrRepeatedNames (n ∷ ns)
odd_here n ns e = inl (n, e, omega (arith, here_too n ns))

twice : (n : Name) (ns : List Name) → HaveBadOrRepeatedNames (n ∷ n ∷ ns)
twice n ns = inr (n, omega (arith, here_too n (n ∷ ns), here_too n ns))

bad_behind : (last : Name) (ns : List Name) → NeverFall (last ∷ ns) → are_ascending_after last ns ≡ false → HaveBadOrRepeatedNames (last ∷ ns)
bad_behind last [] h e = absurd (cc)
bad_behind last (n ∷ ns) h e = go (is_component n) (name_cmp ShorterFirst last n) refl refl e (bad_behind n ns h.1)
  where
    go : (c : Bool) (o : Ordering) → is_component n ≡ c → name_cmp ShorterFirst last n ≡ o → (c && is_less o && are_ascending_after n ns) ≡ false → (are_ascending_after n ns ≡ false → HaveBadOrRepeatedNames (n ∷ ns)) → HaveBadOrRepeatedNames (last ∷ n ∷ ns)
    go false o is cmp f next = bad_later last (n ∷ ns) (odd_here n ns is)
    go true Less is cmp f next = bad_later last (n ∷ ns) (next f)
    go true Equal is cmp f next = subst (λ m. HaveBadOrRepeatedNames (last ∷ m ∷ ns)) (name_from_equal last n cmp) (twice last ns)
    go true Greater is cmp f next =
        let back : name_cmp ShorterFirst n last ≡ Less = nat_list_cmp_total.antisymm n last ∙ ap ordering_reverse cmp in
        let wrong : true ≡ false = sym (ap is_less back) ∙ h.0 in
        absurd (cc)

above_nothing : (n : Name) → is_component n ≡ true → is_less (name_cmp ShorterFirst [] n) ≡ true
above_nothing [] e = absurd (cc)
above_nothing (b ∷ n) e = refl

bad_from : (ns : List Name) → NeverFall ns → are_ascending_after [] ns ≡ false → HaveBadOrRepeatedNames ns
bad_from [] h e = absurd (cc)
bad_from (n ∷ ns) h e = go (is_component n) refl e
  where
    go : (c : Bool) → is_component n ≡ c → (c && is_less (name_cmp ShorterFirst [] n) && are_ascending_after n ns) ≡ false → HaveBadOrRepeatedNames (n ∷ ns)
    go false is f = odd_here n ns is
    go true is f = bad_behind n ns h (sym (ap (λ b. b && are_ascending_after n ns) (above_nothing n is)) ∙ f)

pub bad_names : (xs : List ListedName) → IsSortedBy is_listed_before xs → are_ascending_after [] (map listed_name xs) ≡ false → HaveBadOrRepeatedNames (map listed_name xs)
bad_names xs h e = bad_from (map listed_name xs) (never_fall xs h) e

-- ---- in another order

same_times : (xs ys : List ListedName) (name : Name) → IsPermutation xs ys → name_occurrences name (map listed_name ys) ≡ name_occurrences name (map listed_name xs)
same_times xs ys name h = sum_by-IsPermutation (λ n. cond (same_name name n) 1 0) (map listed_name xs) (map listed_name ys) (IsPermutation-map listed_name xs ys h)

bad_before : (xs ys : List ListedName) → IsPermutation xs ys → HaveBadOrRepeatedNames (map listed_name ys) → HaveBadOrRepeatedNames (map listed_name xs)
bad_before xs ys h (inl b) = inl (b.0, b.1, omega (arith, b.2, same_times xs ys b.0 h))
bad_before xs ys h (inr b) = inr (b.0, omega (arith, b.1, same_times xs ys b.0 h))

pub names_given : (xs : List ListedName) → source_names (map listed_view xs) ≡ map listed_name xs
names_given [] = refl
names_given (x ∷ xs) = ap (λ ns. x.name.items ∷ ns) (names_given xs)

-- what is bad once it is sorted was bad as it was given
pub bad_given : (known : Option TreeSource) (folder : List ℕ) (xs ys zs : List ListedName) → IfSome known (λ s. map listed_view xs ≡ s.names folder) → IsPermutation xs ys → zs ≡ ys → HaveBadOrRepeatedNames (map listed_name zs)
    → IfSome known (λ s. HaveBadOrRepeatedNames (source_names (s.names folder)))
bad_given None folder xs ys zs e h same b = tt
bad_given (Some s) folder xs ys zs e h same b =
    subst (λ g. HaveBadOrRepeatedNames (source_names g)) e (subst HaveBadOrRepeatedNames (sym (names_given xs)) (bad_before xs ys h (subst (λ v. HaveBadOrRepeatedNames (map listed_name v)) same b)))
