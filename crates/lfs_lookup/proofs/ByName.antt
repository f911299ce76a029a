-- Entries in the order of their names: the slots that they show, and the tree's names.
use Rattle.std.proofs.Common.{ℕ, zero, suc, ◌≡◌, ◌<◌, ◌+◌, ◌∙◌, Bool, true, false, cond, List, [], ◌∷◌, length, map, refl, sym, ap, ap₂, subst, arith, get_or, set}
use Rattle.std.specs.List.{swap}
use Rattle.lfs_lookup.proofs.Common.{IsPermutation, length-map, recursion_from_All, Name, name_cmp, is_less, sorted_names, Slot, Each, AreSortedShorterFirst, NamedStruct, item_view, items_view, named_struct}
use Rattle.std.specs.List.Sorted.{IsSortedBy}
use Rattle.std.specs.Cmp.Lexicographic.{slice_cmp}
use Rattle.std.specs.Ordering.{is_lt, nat_cmp}
use Rattle.std.specs.declared.cmp.Ordering.{Ordering}
use Rattle.std.specs.declared.cmp.Ordering.TheVariants.{Less, Equal, Greater}
use Rattle.std.proofs.Math.ListN.{get_or-map as map_read}
use Rattle.std.proofs.lemmas.List.{get_or-map, map-set}
use Rattle.std.proofs.lemmas.List.Edits.{swap_is}
use Rattle.std.proofs.lemmas.List.Sorted.{All-permutation, IsPermutation-keeps, IsPermutation-map, IsPermutation-refl, IsPermutation-swap, IsPermutation-trans, length_permutation}
use Rattle.std.proofs.lemmas.List.Elements.{All-from_recursion}
use Rattle.lfs_model.specs.declared.order.NameOrder.{NameOrder}
use Rattle.lfs_model.specs.declared.order.NameOrder.TheVariants.{ShorterFirst}
use Rattle.lfs_model.specs.format.Names.{insert_name}
use Rattle.lfs_model.proofs.Orders.{Stand, below, same, above, stand, put_both}
use Rattle.lfs_lookup.specs.ByName.{precedes_shorter}
use Rattle.lfs_lookup.specs.declared.items.NameAndOwnedStruct.{NameAndOwnedStruct}

-- one of some
some_in : {X : Type 0} (xs : List X) → 0 < length xs → X
some_in [] l = absurd (omega arith)
some_in (x ∷ xs) l = x

-- ---- another order of the list

module _ (o : NameOrder) where
  set_put : (xs : List Name) (j : ℕ) (d a : Name) → j < length xs → insert_name o (get_or xs j d) (sorted_names o (set xs j a)) ≡ insert_name o a (sorted_names o xs)
  set_put [] j d a l = absurd (omega arith)
  set_put (x ∷ xs) zero d a l = put_both o x a (sorted_names o xs)
  set_put (x ∷ xs) (suc j) d a l =
      put_both o (get_or xs j d) x (sorted_names o (set xs j a)) ∙ ap (insert_name o x) (set_put xs j d a (omega arith)) ∙ put_both o x a (sorted_names o xs)

  swapped : (xs : List Name) (i j : ℕ) (d : Name) → i < length xs → j < length xs → sorted_names o (set (set xs i (get_or xs j d)) j (get_or xs i d)) ≡ sorted_names o xs
  swapped [] i j d l m = absurd (omega arith)
  swapped (x ∷ xs) zero zero d l m = refl
  swapped (x ∷ xs) zero (suc j) d l m = set_put xs j d x (omega arith)
  swapped (x ∷ xs) (suc i) zero d l m = set_put xs i d x (omega arith)
  swapped (x ∷ xs) (suc i) (suc j) d l m = ap (insert_name o x) (swapped xs i j d (omega arith) (omega arith))

  pub in_order_shuffled : (xs ys : List Name) → IsPermutation xs ys → sorted_names o ys ≡ sorted_names o xs
  in_order_shuffled xs ys = IsPermutation-keeps xs (λ l. sorted_names o l ≡ sorted_names o xs) refl
      (λ l i j p q h. let d = some_in l (omega arith) in ap (sorted_names o) (sym (swap_is l i j d p q)) ∙ swapped l i j d p q ∙ h) ys

  -- ---- names that don't fall

  abbrev NeverFall : List Name → Type 0
  NeverFall [] = Unit {0}
  NeverFall (n ∷ []) = Unit {0}
  NeverFall (n ∷ m ∷ ns) = (is_less (name_cmp o m n) ≡ false) × NeverFall (m ∷ ns)

  fall_later : (n : Name) (ns : List Name) → NeverFall (n ∷ ns) → NeverFall ns
  fall_later n [] h = tt
  fall_later n (m ∷ ns) h = h.1

  put_low : (n : Name) (ns : List Name) → NeverFall (n ∷ ns) → insert_name o n ns ≡ n ∷ ns
  put_low n [] h = refl
  put_low n (m ∷ ns) h = go (stand o n m) (put_low n ns)
    where
      go : Stand o n m → (NeverFall (n ∷ ns) → insert_name o n ns ≡ n ∷ ns) → insert_name o n (m ∷ ns) ≡ n ∷ m ∷ ns
      go (below l is not_back) next = ap (λ b. cond b (n ∷ m ∷ ns) (m ∷ insert_name o n ns)) is
      go (same is not_less) next =
          ap (λ b. cond b (n ∷ m ∷ ns) (m ∷ insert_name o n ns)) not_less
          ∙ ap (λ z. m ∷ z) (next (subst (λ z. NeverFall (z ∷ ns)) (sym is) h.1)) ∙ ap₂ (λ a b. a ∷ b ∷ ns) (sym is) is
      go (above l is not_less) next = absurd (let c : true ≡ false = sym is ∙ h.0 in cc)

  pub in_order_unfallen : (ns : List Name) → NeverFall ns → sorted_names o ns ≡ ns
  in_order_unfallen [] h = refl
  in_order_unfallen (n ∷ ns) h = ap (insert_name o n) (in_order_unfallen ns (fall_later n ns h)) ∙ put_low n ns h

-- ---- what a sort makes of entries

less_is : (r : Ordering) → is_less r ≡ is_lt r
less_is Less = refl
less_is Equal = refl
less_is Greater = refl

abbrev pub is_named_before : NameAndOwnedStruct → NameAndOwnedStruct → Bool
is_named_before a b = is_lt (slice_cmp nat_cmp a.name.items b.name.items)

pub seen_by_name : (old new : List NameAndOwnedStruct) → IsPermutation old new → IsSortedBy is_named_before new → AreSortedShorterFirst (items_view old) (items_view new)
seen_by_name old new same_items rise = record {
  permutation = IsPermutation-map item_view old new same_items;
  sorted = λ k d l m.
      let long = length-map new item_view in
      let e : NameAndOwnedStruct = some_in new (omega (arith, m, long)) in
      ap₂ precedes_shorter (get_or-map item_view new (k + 1) e d (omega (arith, m, long))) (get_or-map item_view new k e d (omega (arith, m, long)))
      ∙ less_is (slice_cmp nat_cmp (get_or new (k + 1) e).name.items (get_or new k e).name.items) ∙ rise k e l (omega (arith, m, long));
}

-- ---- the slots that entries show

abbrev pub names_in : List Slot → List Name
names_in slots = map (λ (s : Slot). s.name) slots

-- the same slots, in the order of their names
pub record AreRows (slots rows : List Slot) : Type 0 where
  pub permutation : IsPermutation slots rows
  pub names : names_in rows ≡ sorted_names ShorterFirst (names_in slots)

pub no_rows : AreRows [] []
no_rows = record { permutation = IsPermutation-refl []; names = refl }

pub each_row : (P : Slot → Type 0) (slots rows : List Slot) → AreRows slots rows → Each P slots → Each P rows
each_row P slots rows r h = recursion_from_All P rows (All-permutation P slots rows r.permutation (All-from_recursion P slots h))

pub nothing_moved : (shapes : List NamedStruct) → IsPermutation [] shapes → shapes ≡ []
nothing_moved [] h = refl
nothing_moved (x ∷ shapes) h = absurd (let k = length_permutation [] (x ∷ shapes) h in omega (arith, k))

map_swap : (slots : List Slot) (i j : ℕ) → map named_struct (swap slots i j) ≡ swap (map named_struct slots) i j
map_swap [] i j = refl
map_swap (s ∷ slots) i j =
    map-set named_struct (set (s ∷ slots) i (get_or (s ∷ slots) j s)) j (get_or (s ∷ slots) i s)
    ∙ ap₂ (λ zs z. set zs j z) (map-set named_struct (s ∷ slots) i (get_or (s ∷ slots) j s) ∙ ap (set (map named_struct (s ∷ slots)) i) (sym (map_read named_struct (s ∷ slots) j s)))
    (sym (map_read named_struct (s ∷ slots) i s))

-- shapes in another order are those of slots in another order
record AreMoved (slots : List Slot) (shapes : List NamedStruct) : Type 0 where
  now : List Slot
  permutation : IsPermutation slots now
  are : shapes ≡ map named_struct now

moved : (slots : List Slot) (shapes : List NamedStruct) → IsPermutation (map named_struct slots) shapes → AreMoved slots shapes
moved slots = IsPermutation-keeps (map named_struct slots) (AreMoved slots) (record { now = slots; permutation = IsPermutation-refl slots; are = refl }) (λ l i j p q m.
    let long : length l ≡ length m.now = ap length m.are ∙ length-map m.now named_struct in
    record {
      now = swap m.now i j;
      permutation = IsPermutation-trans slots m.now (swap m.now i j) m.permutation (IsPermutation-swap m.now (swap m.now i j) i j (omega (arith, p, long)) (omega (arith, q, long)) refl);
      are = ap (λ (z : List NamedStruct). swap z i j) m.are ∙ sym (map_swap m.now i j);
    })

never_fall : (slots : List Slot) → IsSortedBy precedes_shorter (map named_struct slots) → NeverFall ShorterFirst (names_in slots)
never_fall [] h = tt
never_fall (s ∷ []) h = tt
never_fall (s ∷ t ∷ slots) h = (
  h 0 (named_struct s) (omega arith) (omega arith),
  never_fall (t ∷ slots) (λ k d l m.
      let next : suc k + 1 ≡ suc (k + 1) = omega arith in
      subst (λ i. precedes_shorter (get_or (map named_struct (s ∷ t ∷ slots)) i d) (get_or (map named_struct (t ∷ slots)) k d) ≡ false) next (h (suc k) d (omega arith) (omega arith))),
)

pub rows_by_name : (slots : List Slot) (shapes : List NamedStruct) → AreSortedShorterFirst (map named_struct slots) shapes → (rows : List Slot) × (AreRows slots rows × (shapes ≡ map named_struct rows))
rows_by_name slots shapes h =
    let m = moved slots shapes h.permutation in
    let names = IsPermutation-map (λ (s : Slot). s.name) slots m.now m.permutation in (
      m.now,
      (
        record {
          permutation = m.permutation;
          names = sym (in_order_unfallen ShorterFirst (names_in m.now) (never_fall m.now (subst (IsSortedBy precedes_shorter) m.are h.sorted))) ∙ in_order_shuffled ShorterFirst (names_in slots) (names_in m.now) names;
        },
        m.are,
      ),
    )
