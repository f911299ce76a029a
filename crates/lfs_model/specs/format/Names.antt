-- Names of files and directories: 1 to 255 bytes, without 0 and '/', and neither "." nor "..".
use Rattle.std.specs.Prelude.{ℕ, Bool, true, false, not, ◌&&◌, ◌||◌, ◌==◌, nat_le, if◌then◌else◌, List, [], ◌∷◌, length}
use Rattle.std.specs.List.{list_all}
use Rattle.std.specs.Cmp.Lexicographic.{slice_cmp}
use Rattle.std.specs.Ordering.{nat_cmp, ordering_then}
use Rattle.std.specs.declared.cmp.Ordering.{Ordering}
use Rattle.std.specs.declared.cmp.Ordering.TheVariants.{Less, Equal, Greater}
use Rattle.lfs_model.specs.declared.order.NameOrder.{NameOrder}
use Rattle.lfs_model.specs.declared.order.NameOrder.TheVariants.{ShorterFirst, LongerFirst}

abbrev pub Name : Type 0
Name = List ℕ

-- The order of two names by unsigned bytes. If one is a prefix of the other, the longer one comes
-- first.
abbrev pub cmp_longer_first : Name → Name → Ordering
cmp_longer_first [] [] = Equal
cmp_longer_first [] (y ∷ ys) = Greater
cmp_longer_first (x ∷ xs) [] = Less
cmp_longer_first (x ∷ xs) (y ∷ ys) = ordering_then (nat_cmp x y) (cmp_longer_first xs ys)

-- The order of two names by unsigned bytes. If one is a prefix of the other, the `NameOrder`
-- decides which of them comes first.
abbrev pub name_cmp : NameOrder → Name → Name → Ordering
name_cmp ShorterFirst = slice_cmp nat_cmp
name_cmp LongerFirst = cmp_longer_first

abbrev pub is_less : Ordering → Bool
is_less Less = true
is_less Equal = false
is_less Greater = false

abbrev pub is_equal : Ordering → Bool
is_equal Less = false
is_equal Equal = true
is_equal Greater = false

abbrev pub same_name : Name → Name → Bool
same_name a b = is_equal (slice_cmp nat_cmp a b)

abbrev pub dot_byte : ℕ
dot_byte = 46

abbrev pub slash_byte : ℕ
slash_byte = 47

-- True if `name` can be a component of a path: it isn't empty, "." or "..", and has no byte 0 or
-- '/'. Its length isn't limited.
abbrev pub is_component : Name → Bool
is_component name =
    nat_le 1 (length name) && list_all (λ b. not (b == 0 || b == slash_byte)) name
    && not (same_name name (dot_byte ∷ [])) && not (same_name name (dot_byte ∷ dot_byte ∷ []))

abbrev pub name_limit : ℕ
name_limit = 255

abbrev pub is_valid_name : Name → Bool
is_valid_name name = is_component name && nat_le (length name) name_limit

-- ---- lists of names

-- The list of names with `name` inserted before the first greater one. A sorted list stays sorted.
abbrev pub insert_name : NameOrder → Name → List Name → List Name
insert_name order name [] = name ∷ []
insert_name order name (n ∷ ns) = if is_less (name_cmp order name n) then name ∷ n ∷ ns else n ∷ insert_name order name ns

-- The same names, sorted by `order`.
abbrev pub sorted_names : NameOrder → List Name → List Name
sorted_names order [] = []
sorted_names order (n ∷ ns) = insert_name order n (sorted_names order ns)
