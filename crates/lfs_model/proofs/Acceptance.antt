-- An image is accepted where tests say so, which compute on a literal image.
use Rattle.std.proofs.Common.{ℕ, ◌≡◌, ◌<◌, inl, inr, Bool, true, false, not, ◌&&◌, ◌||◌, ◌==◌, nat_eq, List, [], ◌∷◌, Option, Some, None, refl, ap, AllPairs, arith, option_and_then, length, eqb-true, ltb-true, ◌⊎◌, ap₂, drop}
use Rattle.std.specs.Prelude.{All, Any, nat_lt, slice_get, codes}
use Rattle.lfs_model.proofs.Common.{AllByRecursion, list_all, option_map_or, and_parts, and_from, or_cases, All-from_recursion, All-head, All-tail, Disk, block_count, Name, name_cmp, same_name, is_less, is_valid_name, Slot, SlotKind, File, Directory, Superblock, Struct, Inline, Ctz, Branch, Gstate, same_pair, is_superblock, content_at, current_block, Pair, superblock_pair_address, AreLinkedByTails, pairs_blocks, pairs_from_root, first_address, pairs_from_nonempty, pairs_gstate, root_address, begins_with_superblock, Path, root_slot, struct_directory_address, slot_at_path, address_at_path, names_at, accepts_version, first_slot_name, first_pair_slots, IsAccepted, HasFirstLogEntry, IsSuperblockStruct, BeginsWithSuperblock, SameExceptVersion, IsFileOrDirectory, IsKindOfStruct, IsWellFormedList, HasValidMove, IsThreadEntry, IsEntry, superblock_entry, superblock_chain_pairs, pairs_after_chain, IsDirectoryAtPath, IsReachedDirectory, all_directories, all_entries, all_unmoved_slots, used_blocks, same_path}
use Rattle.std.specs.List.{list_any, IsDistinct}
use Rattle.std.specs.declared.cmp.Ordering.{Ordering}
use Rattle.std.specs.declared.cmp.Ordering.TheVariants.{Less, Equal, Greater}
use Rattle.std.proofs.lemmas.List.Folds.{Any-from_list_any}
use Rattle.std.proofs.lemmas.List.Kept.{AllPairs-cons}
use Rattle.byteorder.specs.Endian.{little_number}
use Rattle.lfs_model.specs.declared.order.NameOrder.{NameOrder}
use Rattle.lfs_model.specs.declared.limits.AcceptedVersions.{AcceptedVersions}
use Rattle.lfs_model.proofs.Paths.{name_from_same, path_from_same}
use Rattle.lfs_model.proofs.Outlines.{Outline, outline, is_outlined, outlined, found_in, found_holds}

-- ---- lists

each_from : {X : Type 0} (p : X → Bool) (xs : List X) → list_all p xs ≡ true → AllByRecursion (λ x. p x ≡ true) xs
each_from p [] e = tt
each_from p (x ∷ xs) e = let both = and_parts (p x) (list_all p xs) e in (both.0, each_from p xs both.1)

each_as : {X : Type 0} (P Q : X → Type 0) → ((x : X) → P x → Q x) → (xs : List X) → AllByRecursion P xs → AllByRecursion Q xs
each_as P Q f [] h = tt
each_as P Q f (x ∷ xs) h = (f x h.0, each_as P Q f xs h.1)

pub all_from : {X : Type 0} (p : X → Bool) (P : X → Type 0) → ((x : X) → p x ≡ true → P x) → (xs : List X) → list_all p xs ≡ true → All P xs
all_from p P f xs e = All-from_recursion P xs (each_as (λ x. p x ≡ true) P f xs (each_from p xs e))

pub all_to : {X : Type 0} (p : X → Bool) (P : X → Type 0) → ((x : X) → P x → p x ≡ true) → (xs : List X) → All P xs → list_all p xs ≡ true
all_to p P f [] h = refl
all_to p P f (x ∷ xs) h = and_from (p x) (list_all p xs) (f x (All-head P x xs h)) (all_to p P f xs (All-tail P x xs h))

turned : (b : Bool) → not b ≡ true → b ≡ false
turned true e = absurd (cc)
turned false e = refl

abbrev pub are_apart : List ℕ → Bool
are_apart [] = true
are_apart (x ∷ xs) = list_all (λ y. not (nat_eq x y)) xs && are_apart xs

pub distinct_from : (xs : List ℕ) → are_apart xs ≡ true → IsDistinct nat_eq xs
unfolding IsDistinct
distinct_from [] e = tt
distinct_from (x ∷ xs) e =
    let both = and_parts (list_all (λ y. not (nat_eq x y)) xs) (are_apart xs) e in
    (each_as (λ y. not (nat_eq x y) ≡ true) (λ y. nat_eq x y ≡ false) (λ y. turned (nat_eq x y)) xs (each_from (λ y. not (nat_eq x y)) xs both.0), distinct_from xs both.1)

pub apart_from : (xs : List ℕ) → IsDistinct nat_eq xs → are_apart xs ≡ true
unfolding IsDistinct
apart_from [] h = refl
apart_from (x ∷ xs) h = and_from (list_all (λ y. not (nat_eq x y)) xs) (are_apart xs) (each x xs h.0) (apart_from xs h.1)
  where
    each : (x : ℕ) (ys : List ℕ) → AllByRecursion (λ y. nat_eq x y ≡ false) ys → list_all (λ y. not (nat_eq x y)) ys ≡ true
    each x [] h = refl
    each x (y ∷ ys) h = and_from (not (nat_eq x y)) (list_all (λ y. not (nat_eq x y)) ys) (ap not h.0) (each x ys h.1)

abbrev pub rise : NameOrder → List Name → Bool
rise by [] = true
rise by (n ∷ ns) = list_all (λ m. is_less (name_cmp by n m)) ns && rise by ns

less_from : (o : Ordering) → is_less o ≡ true → o ≡ Less
less_from Less e = refl
less_from Equal e = absurd (cc)
less_from Greater e = absurd (cc)

pub rise_from : (by : NameOrder) (ns : List Name) → rise by ns ≡ true → AllPairs (λ a b. name_cmp by a b ≡ Less) ns
rise_from by [] e = λ i j d l m. absurd (omega arith)
rise_from by (n ∷ ns) e =
    let both = and_parts (list_all (λ m. is_less (name_cmp by n m)) ns) (rise by ns) e in
    AllPairs-cons (λ a b. name_cmp by a b ≡ Less) n ns (all_from (λ m. is_less (name_cmp by n m)) (λ m. name_cmp by n m ≡ Less) (λ m. less_from (name_cmp by n m)) ns both.0) (rise_from by ns both.1)

-- ---- slots

abbrev pub has_struct_of_its_kind : SlotKind → Struct → Bool
has_struct_of_its_kind File (Inline bytes) = true
has_struct_of_its_kind File (Ctz head size) = true
has_struct_of_its_kind Directory (Branch to) = true
has_struct_of_its_kind File (Branch to) = false
has_struct_of_its_kind Directory (Inline bytes) = false
has_struct_of_its_kind Directory (Ctz head size) = false
has_struct_of_its_kind Superblock s = false

abbrev pub is_entry : Slot → Bool
is_entry s = is_valid_name s.name && has_struct_of_its_kind s.kind s.struct

suits_from : (k : SlotKind) (s : Struct) → has_struct_of_its_kind k s ≡ true → IsKindOfStruct k s
suits_from File (Inline bytes) e = tt
suits_from File (Ctz head size) e = tt
suits_from File (Branch to) e = absurd (cc)
suits_from Directory (Inline bytes) e = absurd (cc)
suits_from Directory (Ctz head size) e = absurd (cc)
suits_from Directory (Branch to) e = tt
suits_from Superblock s e = absurd (cc)

entry_from : (s : Slot) → is_entry s ≡ true → IsFileOrDirectory s
entry_from s e = let both = and_parts (is_valid_name s.name) (has_struct_of_its_kind s.kind s.struct) e in record { name = both.0; struct = suits_from s.kind s.struct both.1 }

abbrev pub is_inline : AcceptedVersions → List ℕ → Struct → Bool
is_inline versions bytes (Inline held) = length held == length bytes && (accepts_version versions (little_number 4 held) && same_name (drop 4 held) (drop 4 bytes))
is_inline versions bytes (Ctz head size) = false
is_inline versions bytes (Branch to) = false

inline_from : (versions : AcceptedVersions) (bytes : List ℕ) (s : Struct) → is_inline versions bytes s ≡ true → (own : List ℕ) × ((s ≡ Inline own) × SameExceptVersion versions bytes own)
inline_from versions bytes (Inline held) e =
    let one = and_parts (length held == length bytes) (accepts_version versions (little_number 4 held) && same_name (drop 4 held) (drop 4 bytes)) e in
    let two = and_parts (accepts_version versions (little_number 4 held)) (same_name (drop 4 held) (drop 4 bytes)) one.1 in
    (held, (refl, record { len = eqb-true (length held) (length bytes) one.0; version = two.0; rest = name_from_same (drop 4 held) (drop 4 bytes) two.1 }))
inline_from versions bytes (Ctz head size) e = absurd (cc)
inline_from versions bytes (Branch to) e = absurd (cc)

abbrev pub has_superblock : AcceptedVersions → List ℕ → List Slot → Bool
has_superblock versions bytes [] = true
has_superblock versions bytes (s ∷ slots) = is_superblock s && (is_inline versions bytes s.struct && list_all is_entry slots)

superblock_from : (versions : AcceptedVersions) (bytes : List ℕ) (slots : List Slot) → has_superblock versions bytes slots ≡ true → BeginsWithSuperblock versions bytes slots
superblock_from versions bytes [] e = tt
superblock_from versions bytes (s ∷ slots) e =
    let one = and_parts (is_superblock s) (is_inline versions bytes s.struct && list_all is_entry slots) e in
    let two = and_parts (is_inline versions bytes s.struct) (list_all is_entry slots) one.1 in
    (one.0, inline_from versions bytes s.struct two.0, all_from is_entry IsFileOrDirectory entry_from slots two.1)

-- ---- what a path leads to

abbrev pub on_branches : (Path → ℕ × ℕ → Bool) → Outline → Bool
on_branches T xs = list_all (λ f. option_map_or (T f.0) (struct_directory_address f.1.struct) true) xs

on_branch : (T : Path → ℕ × ℕ → Bool) (xs : Outline) (path : Path) (s : Slot) (at : ℕ × ℕ) → on_branches T xs ≡ true → found_in path xs ≡ Some s → struct_directory_address s.struct ≡ Some at → T path at ≡ true
on_branch T xs path s at e found branch =
    let here : option_map_or (T path) (struct_directory_address s.struct) true ≡ true =
    found_holds (λ p u. option_map_or (T p) (struct_directory_address u.struct) true ≡ true) xs (each_from (λ f. option_map_or (T f.0) (struct_directory_address f.1.struct) true) xs e) path s found in
    rw branch at here

-- the directories that paths of at most k names lead to
abbrev pub outline_in : ℕ → List Pair → Outline
outline_in k ps = outline k (all_entries ps) (root_slot (root_address ps))

pub led : (k : ℕ) (ps : List Pair) → is_outlined k (all_entries ps) (root_slot (root_address ps)) ≡ true → (T : Path → ℕ × ℕ → Bool) → on_branches T (outline_in k ps) ≡ true →
    (path : Path) (at : ℕ × ℕ) → IsDirectoryAtPath ps path at → T path at ≡ true
led k ps whole T e path at leads = go (slot_at_path (all_entries ps) (root_slot (root_address ps)) path) (outlined k (all_entries ps) (root_slot (root_address ps)) whole path) leads
  where
    go : (o : Option Slot) → found_in path (outline_in k ps) ≡ o → option_and_then (λ s. struct_directory_address s.struct) o ≡ Some at → T path at ≡ true
    go None found is = absurd (cc)
    go (Some s) found is = on_branch T (outline_in k ps) path s at e found is

abbrev pub begins : List Pair → ℕ × ℕ → Bool
begins ps at = list_any (λ d. same_pair d.at at) (all_directories ps)

-- no other path leads to the same directory
abbrev is_once : Outline → Path → ℕ × ℕ → Bool
is_once xs path at = on_branches (λ other to. not (same_pair at to) || same_path path other) xs

-- a path of the outline leads to the directory
abbrev leads_to : List Pair → ℕ × ℕ → Path → Bool
leads_to ps first path = option_map_or (same_pair first) (address_at_path (all_entries ps) (root_address ps) path) false

reached_from : (ps : List Pair) (first : ℕ × ℕ) (xs : Outline) → list_any (λ f. leads_to ps first f.0) xs ≡ true → IsReachedDirectory ps first
reached_from ps first [] e = absurd (cc)
reached_from ps first (x ∷ xs) e = go (or_cases (leads_to ps first x.0) (list_any (λ f. leads_to ps first f.0) xs) e) (reached_from ps first xs)
  where
    here : (o : Option (ℕ × ℕ)) → address_at_path (all_entries ps) (root_address ps) x.0 ≡ o → option_map_or (same_pair first) o false ≡ true → IsReachedDirectory ps first
    here None leads h = absurd (cc)
    here (Some at) leads h = (x.0, at, (leads, h))

    go : (leads_to ps first x.0 ≡ true) ⊎ (list_any (λ f. leads_to ps first f.0) xs ≡ true) → (list_any (λ f. leads_to ps first f.0) xs ≡ true → IsReachedDirectory ps first) → IsReachedDirectory ps first
    go (inl h) ih = here (address_at_path (all_entries ps) (root_address ps) x.0) refl h
    go (inr h) ih = ih h

abbrev pub is_other : Option Slot → Bool
is_other None = false
is_other (Some s) = not (is_superblock s)

other_from : (o : Option Slot) → is_other o ≡ true → IsEntry o
other_from None e = absurd (cc)
other_from (Some s) e = turned (is_superblock s) e

abbrev pub names_slot : List Pair → ℕ × ℕ → ℕ → Bool
names_slot ps pair id = list_any (λ p. same_pair pair p.at && is_other (slice_get p.content.slots id)) ps

named_from : (ps : List Pair) (pair : ℕ × ℕ) (id : ℕ) → names_slot ps pair id ≡ true → IsThreadEntry ps pair id
named_from ps pair id e =
    Any-as (λ p. (same_pair pair p.at && is_other (slice_get p.content.slots id)) ≡ true) (λ p. (same_pair pair p.at ≡ true) × IsEntry (slice_get p.content.slots id))
    (λ p h. let both = and_parts (same_pair pair p.at) (is_other (slice_get p.content.slots id)) h in (both.0, other_from (slice_get p.content.slots id) both.1))
    (Any-from_list_any (λ p. same_pair pair p.at && is_other (slice_get p.content.slots id)) ps e)
  where
    Any-as : (P Q : Pair → Type 0) → ((p : Pair) → P p → Q p) → Any P ps → Any Q ps
    Any-as P Q f h = (h.0, h.1, h.2, h.3, f h.1 h.4)

abbrev pub is_move : List Pair → Gstate → Bool
is_move ps g =
    g.kind == 0x000 && (g.id == 0 && (g.pair.0 == 0 && g.pair.1 == 0)) || g.kind == 0x4ff && names_slot ps g.pair g.id

move_from : (ps : List Pair) (g : Gstate) → is_move ps g ≡ true → HasValidMove ps g
move_from ps g e = go (or_cases (g.kind == 0x000 && (g.id == 0 && (g.pair.0 == 0 && g.pair.1 == 0))) (g.kind == 0x4ff && names_slot ps g.pair g.id) e)
  where
    go : ((g.kind == 0x000 && (g.id == 0 && (g.pair.0 == 0 && g.pair.1 == 0))) ≡ true) ⊎ ((g.kind == 0x4ff && names_slot ps g.pair g.id) ≡ true) → HasValidMove ps g
    go (inl h) =
        let one = and_parts (g.kind == 0x000) (g.id == 0 && (g.pair.0 == 0 && g.pair.1 == 0)) h in
        let two = and_parts (g.id == 0) (g.pair.0 == 0 && g.pair.1 == 0) one.1 in
        let three = and_parts (g.pair.0 == 0) (g.pair.1 == 0) two.1 in
        inl (eqb-true g.kind 0 one.0, eqb-true g.id 0 two.0, ap₂ (λ (x y : ℕ). (x, y)) (eqb-true g.pair.0 0 three.0) (eqb-true g.pair.1 0 three.1))
    go (inr h) = let both = and_parts (g.kind == 0x4ff) (names_slot ps g.pair g.id) h in inr (eqb-true g.kind 0x4ff both.0, named_from ps g.pair g.id both.1)

-- ---- images

abbrev pub is_struct : Disk → List ℕ → Bool
is_struct disk bytes =
    length bytes == 24 && (accepts_version disk.profile.versions (little_number 4 bytes) && (little_number 4 (drop 4 bytes) == disk.block_size && little_number 4 (drop 8 bytes) == block_count disk))

struct_from : (disk : Disk) (bytes : List ℕ) → is_struct disk bytes ≡ true → IsSuperblockStruct disk bytes
struct_from disk bytes e =
    let one = and_parts (length bytes == 24) (accepts_version disk.profile.versions (little_number 4 bytes) && (little_number 4 (drop 4 bytes) == disk.block_size && little_number 4 (drop 8 bytes) == block_count disk)) e in
    let two = and_parts (accepts_version disk.profile.versions (little_number 4 bytes)) (little_number 4 (drop 4 bytes) == disk.block_size && little_number 4 (drop 8 bytes) == block_count disk) one.1 in
    let three = and_parts (little_number 4 (drop 4 bytes) == disk.block_size) (little_number 4 (drop 8 bytes) == block_count disk) two.1 in
    record {
      len = eqb-true (length bytes) 24 one.0;
      version = two.0;
      block_size = eqb-true (little_number 4 (drop 4 bytes)) disk.block_size three.0;
      block_count = eqb-true (little_number 4 (drop 8 bytes)) (block_count disk) three.1;
    }

-- the tests of pairs whose superblock has that struct, where no path has more than k names
abbrev pub tests : Disk → List Pair → List ℕ → ℕ → List Bool
tests disk ps bytes k =
    list_all (λ b. nat_lt b (block_count disk)) (pairs_blocks ps)
    ∷ are_apart (pairs_blocks ps)
    ∷ is_struct disk bytes
    ∷ list_all (λ p. has_superblock disk.profile.versions bytes p.content.slots) (superblock_chain_pairs ps)
    ∷ list_all (λ p. list_all is_entry p.content.slots) (pairs_after_chain ps)
    ∷ is_outlined k (all_entries ps) (root_slot (root_address ps))
    ∷ on_branches (λ path at. rise disk.order (names_at (all_entries ps) at)) (outline_in k ps)
    ∷ on_branches (λ path at. begins ps at) (outline_in k ps)
    ∷ on_branches (is_once (outline_in k ps)) (outline_in k ps)
    ∷ ((pairs_gstate ps).sync || list_all (λ d. list_any (λ f. leads_to ps d.at f.0) (outline_in k ps)) (all_directories ps))
    ∷ is_move ps (pairs_gstate ps)
    ∷ are_apart (used_blocks disk ps)
    ∷ begins_with_superblock (first_pair_slots (pairs_from_root ps))
    ∷ []

-- these pairs are on the disk, and the tests pass
pub record IsImage (disk : Disk) (ps : List Pair) (bytes : List ℕ) (k : ℕ) : Type 0 where
  pub links : AreLinkedByTails (Some superblock_pair_address) ps
  pub contents : AllByRecursion (λ p. content_at disk p.at ≡ Some p.content) ps
  pub first : HasFirstLogEntry (current_block disk (first_address (pairs_from_nonempty ps))) superblock_entry
  pub named : first_slot_name (pairs_from_nonempty ps) ≡ Some (codes "littlefs")
  pub lists : AllByRecursion (λ s. IsWellFormedList disk s.struct) (all_unmoved_slots ps)
  pub pass : list_all (λ b. b) (tests disk ps bytes k) ≡ true

pub image_is_outlined : (disk : Disk) (ps : List Pair) (bytes : List ℕ) (k : ℕ) → IsImage disk ps bytes k → is_outlined k (all_entries ps) (root_slot (root_address ps)) ≡ true
image_is_outlined disk ps bytes k h = (each_from (λ b. b) (tests disk ps bytes k) h.pass).1.1.1.1.1.0

pub image_is_accepted : (disk : Disk) (ps : List Pair) (bytes : List ℕ) (k : ℕ) → IsImage disk ps bytes k → IsAccepted disk ps
image_is_accepted disk ps bytes k h =
    let t = each_from (λ b. b) (tests disk ps bytes k) h.pass in
    let whole = image_is_outlined disk ps bytes k h in
    record {
      thread = record {
        links = h.links;
        contents = All-from_recursion (λ p. content_at disk p.at ≡ Some p.content) ps h.contents;
        in_range = all_from (λ b. nat_lt b (block_count disk)) (λ b. b < block_count disk) (λ b. ltb-true b (block_count disk)) (pairs_blocks ps) t.0;
        distinct = distinct_from (pairs_blocks ps) t.1.0;
      };
      first = h.first;
      named = h.named;
      root = t.1.1.1.1.1.1.1.1.1.1.1.1.0;
      superblock = (bytes, (struct_from disk bytes t.1.1.0, all_from (λ p. has_superblock disk.profile.versions bytes p.content.slots) (λ p. BeginsWithSuperblock disk.profile.versions bytes p.content.slots) (λ p. superblock_from disk.profile.versions bytes p.content.slots) (superblock_chain_pairs ps) t.1.1.1.0));
      slots = all_from (λ p. list_all is_entry p.content.slots) (λ p. All IsFileOrDirectory p.content.slots) (λ p. all_from is_entry IsFileOrDirectory entry_from p.content.slots) (pairs_after_chain ps) t.1.1.1.1.0;
      order = λ path at l. rise_from disk.order (names_at (all_entries ps) at) (led k ps whole (λ path at. rise disk.order (names_at (all_entries ps) at)) t.1.1.1.1.1.1.0 path at l);
      branches = λ path at l. Any-from_list_any (λ d. same_pair d.at at) (all_directories ps) (led k ps whole (λ path at. begins ps at) t.1.1.1.1.1.1.1.0 path at l);
      once = λ path other at to l m same. one path other at to same (led k ps whole (λ other to. not (same_pair at to) || same_path path other) (led k ps whole (is_once (outline_in k ps)) t.1.1.1.1.1.1.1.1.0 path at l) other to m);
      reached = λ clear. let here = rw clear at t.1.1.1.1.1.1.1.1.1.0 in all_from (λ d. list_any (λ f. leads_to ps d.at f.0) (outline_in k ps)) (λ d. IsReachedDirectory ps d.at) (λ d. reached_from ps d.at (outline_in k ps)) (all_directories ps) here;
      move = move_from ps (pairs_gstate ps) t.1.1.1.1.1.1.1.1.1.1.0;
      lists = All-from_recursion (λ s. IsWellFormedList disk s.struct) (all_unmoved_slots ps) h.lists;
      owned_once = distinct_from (used_blocks disk ps) t.1.1.1.1.1.1.1.1.1.1.1.0;
    }
  where
    one : (path other : Path) (at to : ℕ × ℕ) → same_pair at to ≡ true → (not (same_pair at to) || same_path path other) ≡ true → path ≡ other
    one path other at to same e = let f = rw same at e in path_from_same path other f
