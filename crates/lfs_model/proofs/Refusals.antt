-- An image is refused where a rule fails, by tests that compute on a literal image.
use Rattle.std.proofs.Common.{ℕ, suc, ◌≡◌, ◌<◌, inl, inr, Bool, true, false, not, ◌&&◌, ◌==◌, nat_eq, List, [], ◌∷◌, ◌++◌, Option, Some, None, refl, sym, ap, subst, ◌∙◌, AllPairs, arith, length, drop, eq-eqb, lt-ltb, get_or}
use Rattle.std.specs.Prelude.{All, slice_get, nat_lt}
use Rattle.lfs_model.proofs.Common.{AllByRecursion, list_all, and_from, or_left, or_right, same_Some, slice_get_within, get_or_from_slice_get, All-from_recursion, All-head, All-tail, list_any-from_Any, drop-drop, Disk, block_count, disk_block, Name, name_cmp, is_less, is_valid_name, same_name, PairContent, Slot, SlotKind, File, Directory, Superblock, Struct, Inline, Ctz, Branch, Gstate, same_pair, content_at, has_commit, Pair, superblock_pair_address, AreLinkedByTails, tail_target, pairs_blocks, pairs_from_root, begins_with_superblock, pairs_gstate, root_address, ThreadDirectory, Path, root_slot, names_at, same_path, IsAccepted, first_pair_slots, HasValidMove, IsThreadEntry, IsEntry, IsFileOrDirectory, IsKindOfStruct, BeginsWithSuperblock, SameExceptVersion, IsSuperblockStruct, superblock_chain_pairs, pairs_after_chain, IsWellFormedList, IsWritable, IsWritableSlot, IsDirectoryAtPath, IsReachedDirectory, all_directories, all_entries, used_blocks, all_unmoved_slots}
use Rattle.std.specs.List.{IsDistinct}
use Rattle.std.specs.declared.cmp.Ordering.TheVariants.{Less}
use Rattle.byteorder.specs.Endian.{little_number}
use Rattle.lfs_model.specs.declared.order.NameOrder.{NameOrder}
use Rattle.lfs_model.specs.declared.limits.AcceptedVersions.{AcceptedVersions}
use Rattle.lfs_model.specs.examples.Images.{IsNotAccepted, IsNotWritable}
use Rattle.lfs_model.proofs.Acceptance.{are_apart, apart_from, all_to, rise, begins, led, on_branches, outline_in, is_move, names_slot, is_other, is_entry, has_struct_of_its_kind, is_inline, has_superblock, is_struct}
use Rattle.lfs_model.proofs.Outlines.{is_outlined}
use Rattle.lfs_model.proofs.Paths.{path_itself, same_itself}
use Rattle.lfs_model.proofs.Skips.{is_list, list_to}
use Rattle.lfs_model.proofs.Uniqueness.{one_way}

-- ---- the thread

-- what the thread begins with
record Begun (disk : Disk) (at : Option (ℕ × ℕ)) (ps : List Pair) (c : PairContent) (here : ℕ × ℕ) : Type 0 where
  rest : List Pair
  is : ps ≡ record { at = here; content = c } ∷ rest
  links : AreLinkedByTails (tail_target c.tail) rest
  contents : All (λ p. content_at disk p.at ≡ Some p.content) rest

begun : (disk : Disk) (ps : List Pair) (c : PairContent) (here : ℕ × ℕ) → AreLinkedByTails (Some here) ps → All (λ p. content_at disk p.at ≡ Some p.content) ps → content_at disk here ≡ Some c → Begun disk (Some here) ps c here
begun disk [] c here l all is = absurd (cc)
begun disk (p ∷ ps) c here l all is =
    let P : Pair → Type 0 = λ p. content_at disk p.at ≡ Some p.content in
    let at : here ≡ p.at = same_Some here p.at l.0 in
    let content : c ≡ p.content = same_Some c p.content (sym is ∙ ap (content_at disk) at ∙ All-head P p ps all) in
    record { rest = ps; is = rw (at, content) refl; links = rw content l.1; contents = All-tail P p ps all }

none_stands : (disk : Disk) (ps : List Pair) (here : ℕ × ℕ) → AreLinkedByTails (Some here) ps → All (λ p. content_at disk p.at ≡ Some p.content) ps → content_at disk here ≡ None → ⊥
none_stands disk [] here l all is = cc
none_stands disk (p ∷ ps) here l all is =
    let at : here ≡ p.at = same_Some here p.at l.0 in
    let no : None ≡ Some p.content = sym is ∙ ap (content_at disk) at ∙ All-head (λ p. content_at disk p.at ≡ Some p.content) p ps all in
    cc

-- the first pair holds nothing
pub no_first : (disk : Disk) → content_at disk superblock_pair_address ≡ None → IsNotAccepted disk
no_first disk is ps a = none_stands disk ps superblock_pair_address a.thread.links a.thread.contents is

-- neither of its blocks has a commit
pub no_commit : (disk : Disk) → has_commit (disk_block disk 0) ≡ false → has_commit (disk_block disk 1) ≡ false → IsNotAccepted disk
no_commit disk first second = no_first disk (rw (first, second) refl)

-- the second pair holds nothing
pub no_second : (disk : Disk) (c : PairContent) (to : ℕ × ℕ) → content_at disk superblock_pair_address ≡ Some c → tail_target c.tail ≡ Some to → content_at disk to ≡ None → IsNotAccepted disk
no_second disk c to first next none ps a =
    let b = begun disk ps c superblock_pair_address a.thread.links a.thread.contents first in
    none_stands disk b.rest to (rw (← next) b.links) b.contents none

-- the second pair has a block of the first, or one block twice
pub no_distinct : (disk : Disk) (c d : PairContent) (to : ℕ × ℕ) → content_at disk superblock_pair_address ≡ Some c → tail_target c.tail ≡ Some to → content_at disk to ≡ Some d →
    are_apart (0 ∷ 1 ∷ to.0 ∷ to.1 ∷ []) ≡ false → IsNotAccepted disk
unfolding IsDistinct
no_distinct disk c d to first next second twice ps a =
    let b = begun disk ps c superblock_pair_address a.thread.links a.thread.contents first in
    let e = begun disk b.rest d to (rw (← next) b.links) b.contents second in
    let is : ps ≡ record { at = superblock_pair_address; content = c } ∷ record { at = to; content = d } ∷ e.rest = b.is ∙ ap (λ (xs : List Pair). record { at = superblock_pair_address; content = c } ∷ xs) e.is in
    let distinct : IsDistinct nat_eq (0 ∷ 1 ∷ to.0 ∷ to.1 ∷ pairs_blocks e.rest) = subst (λ xs. IsDistinct nat_eq (pairs_blocks xs)) is a.thread.distinct in
    let apart : are_apart (0 ∷ 1 ∷ to.0 ∷ to.1 ∷ []) ≡ true = apart_from (0 ∷ 1 ∷ to.0 ∷ to.1 ∷ []) (front (0 ∷ 1 ∷ to.0 ∷ to.1 ∷ []) (pairs_blocks e.rest) distinct) in
    absurd (cc)
  where
    left : (x : ℕ) (xs ys : List ℕ) → AllByRecursion (λ y. nat_eq x y ≡ false) (xs ++ ys) → AllByRecursion (λ y. nat_eq x y ≡ false) xs
    left x [] ys h = tt
    left x (z ∷ xs) ys h = (h.0, left x xs ys h.1)

    front : (xs ys : List ℕ) → IsDistinct nat_eq (xs ++ ys) → IsDistinct nat_eq xs
    front [] ys h = tt
    front (x ∷ xs) ys h = (left x xs ys h.0, front xs ys h.1)

-- these pairs are the thread, so no others are accepted
pub refused_with : (disk : Disk) (qs : List Pair) → AreLinkedByTails (Some superblock_pair_address) qs → AllByRecursion (λ p. content_at disk p.at ≡ Some p.content) qs → (IsAccepted disk qs → ⊥) → IsNotAccepted disk
refused_with disk qs links contents never ps a =
    let is : ps ≡ qs = one_way (content_at disk) (Some superblock_pair_address) ps qs a.thread.links links a.thread.contents (All-from_recursion (λ p. content_at disk p.at ≡ Some p.content) qs contents) in
    never (subst (IsAccepted disk) is a)

-- ---- rules that fail

pub rise_to : (by : NameOrder) (ns : List Name) → AllPairs (λ a b. name_cmp by a b ≡ Less) ns → rise by ns ≡ true
rise_to by [] h = refl
rise_to by (n ∷ ns) h =
    and_from (list_all (λ m. is_less (name_cmp by n m)) ns) (rise by ns)
    (all_to (λ m. is_less (name_cmp by n m)) (λ m. name_cmp by n m ≡ Less) (λ m e. ap is_less e) ns (λ j d l. h 0 (suc j) d (omega arith) (omega arith)))
    (rise_to by ns (λ i j d l m. h (suc i) (suc j) d (omega arith) (omega arith)))

-- a block isn't there
pub fails_range : (disk : Disk) (ps : List Pair) → list_all (λ b. nat_lt b (block_count disk)) (pairs_blocks ps) ≡ false → IsAccepted disk ps → ⊥
fails_range disk ps fails a = let e = all_to (λ b. nat_lt b (block_count disk)) (λ b. b < block_count disk) (λ b. lt-ltb b (block_count disk)) (pairs_blocks ps) a.thread.in_range in cc

-- the names of a directory don't rise
pub fails_order : (disk : Disk) (ps : List Pair) (path : Path) (at : ℕ × ℕ) → IsDirectoryAtPath ps path at → rise disk.order (names_at (all_entries ps) at) ≡ false → IsAccepted disk ps → ⊥
fails_order disk ps path at leads fails a = let e = rise_to disk.order (names_at (all_entries ps) at) (a.order path at leads) in cc

-- a path leads to what is no directory
pub fails_branches : (disk : Disk) (ps : List Pair) (path : Path) (at : ℕ × ℕ) → IsDirectoryAtPath ps path at → begins ps at ≡ false → IsAccepted disk ps → ⊥
fails_branches disk ps path at leads fails a = let e = list_any-from_Any (λ d. same_pair d.at at) (all_directories ps) (a.branches path at leads) in cc

-- two paths lead to one directory
pub fails_once : (disk : Disk) (ps : List Pair) (path other : Path) (at to : ℕ × ℕ) → IsDirectoryAtPath ps path at → IsDirectoryAtPath ps other to → same_pair at to ≡ true → same_path path other ≡ false → IsAccepted disk ps → ⊥
fails_once disk ps path other at to leads second same apart a =
    let is = a.once path other at to leads second same in
    let e : same_path path path ≡ false = rw (← is) at apart in
    let f = path_itself path in
    cc

-- no path leads to a directory, and the sync bit is clear
pub fails_reached : (disk : Disk) (ps : List Pair) (k : ℕ) → (pairs_gstate ps).sync ≡ false → is_outlined k (all_entries ps) (root_slot (root_address ps)) ≡ true →
    (i : ℕ) (d : ThreadDirectory) → slice_get (all_directories ps) i ≡ Some d → on_branches (λ path at. not (same_pair d.at at)) (outline_in k ps) ≡ true → IsAccepted disk ps → ⊥
fails_reached disk ps k clear whole i d is none a =
    let within = slice_get_within (all_directories ps) i d is in
    let here : get_or (all_directories ps) i d ≡ d = get_or_from_slice_get (all_directories ps) i d d is in
    let r : IsReachedDirectory ps d.at = subst (λ x. IsReachedDirectory ps x.at) here (a.reached clear i d within) in
    let e = led k ps whole (λ path at. not (same_pair d.at at)) none r.0 r.1 r.2.0 in
    let f : not (same_pair d.at r.1) ≡ not true = ap not r.2.1 in
    cc

pub move_to : (ps : List Pair) (g : Gstate) → HasValidMove ps g → is_move ps g ≡ true
move_to ps g (inl h) =
    or_left (g.kind == 0x000 && (g.id == 0 && (g.pair.0 == 0 && g.pair.1 == 0))) (g.kind == 0x4ff && names_slot ps g.pair g.id)
    (and_from _ _ (eq-eqb g.kind 0 h.0) (and_from _ _ (eq-eqb g.id 0 h.1) (and_from _ _ (eq-eqb g.pair.0 0 (ap (λ (x : ℕ × ℕ). x.0) h.2)) (eq-eqb g.pair.1 0 (ap (λ (x : ℕ × ℕ). x.1) h.2)))))
move_to ps g (inr h) =
    or_right (g.kind == 0x000 && (g.id == 0 && (g.pair.0 == 0 && g.pair.1 == 0))) (g.kind == 0x4ff && names_slot ps g.pair g.id)
    (and_from _ _ (eq-eqb g.kind 0x4ff h.0) (named_to h.1))
  where
    other_to : (o : Option Slot) → IsEntry o → is_other o ≡ true
    other_to None e = absurd e
    other_to (Some s) e = ap not e

    named_to : IsThreadEntry ps g.pair g.id → names_slot ps g.pair g.id ≡ true
    named_to n = list_any-from_Any (λ p. same_pair g.pair p.at && is_other (slice_get p.content.slots g.id)) ps
        (n.0, n.1, n.2, n.3, and_from (same_pair g.pair n.1.at) (is_other (slice_get n.1.content.slots g.id)) n.4.0 (other_to (slice_get n.1.content.slots g.id) n.4.1))

-- the global state names no slot, and isn't zero
pub fails_move : (disk : Disk) (ps : List Pair) → is_move ps (pairs_gstate ps) ≡ false → IsAccepted disk ps → ⊥
fails_move disk ps fails a = let e = move_to ps (pairs_gstate ps) a.move in cc

-- a block is owned twice
pub fails_owners : (disk : Disk) (ps : List Pair) → are_apart (used_blocks disk ps) ≡ false → IsAccepted disk ps → ⊥
fails_owners disk ps fails a = let e = apart_from (used_blocks disk ps) a.owned_once in cc

suits_to : (k : SlotKind) (s : Struct) → IsKindOfStruct k s → has_struct_of_its_kind k s ≡ true
suits_to File (Inline bytes) e = refl
suits_to File (Ctz head size) e = refl
suits_to File (Branch to) e = absurd e
suits_to Directory (Inline bytes) e = absurd e
suits_to Directory (Ctz head size) e = absurd e
suits_to Directory (Branch to) e = refl
suits_to Superblock s e = absurd e

pub entry_to : (s : Slot) → IsFileOrDirectory s → is_entry s ≡ true
entry_to s h = and_from (is_valid_name s.name) (has_struct_of_its_kind s.kind s.struct) h.name (suits_to s.kind s.struct h.struct)

-- a slot after the superblock's pairs is no entry
pub fails_slots : (disk : Disk) (ps : List Pair) → list_all (λ p. list_all is_entry p.content.slots) (pairs_after_chain ps) ≡ false → IsAccepted disk ps → ⊥
fails_slots disk ps fails a = let e = all_to (λ p. list_all is_entry p.content.slots) (λ p. All IsFileOrDirectory p.content.slots) (λ p. all_to is_entry IsFileOrDirectory entry_to p.content.slots) (pairs_after_chain ps) a.slots in cc

-- the root directory doesn't begin with a superblock
pub fails_root : (disk : Disk) (ps : List Pair) → begins_with_superblock (first_pair_slots (pairs_from_root ps)) ≡ false → IsAccepted disk ps → ⊥
fails_root disk ps fails a = let e = sym a.root ∙ fails in cc

same_to : (xs ys : List ℕ) → xs ≡ ys → same_name xs ys ≡ true
same_to xs ys e = ap (same_name xs) (sym e) ∙ same_itself xs

-- bytes that are the same as the superblock's but for an accepted version
module _ (versions : AcceptedVersions) (held bytes : List ℕ) (same : SameExceptVersion versions held bytes) where
  pub inline_to : (s : Struct) (own : List ℕ) → s ≡ Inline own → SameExceptVersion versions held own → is_inline versions bytes s ≡ true
  inline_to s own e h =
      ap (is_inline versions bytes) e
      ∙ and_from _ _ (eq-eqb (length own) (length bytes) (h.len ∙ sym same.len)) (and_from _ _ h.version (same_to (drop 4 own) (drop 4 bytes) (h.rest ∙ sym same.rest)))

  superblock_to : (slots : List Slot) → BeginsWithSuperblock versions held slots → has_superblock versions bytes slots ≡ true
  superblock_to [] h = refl
  superblock_to (s ∷ slots) h = and_from _ _ h.0 (and_from _ _ (inline_to s.struct h.1.0 h.1.1.0 h.1.1.1) (all_to is_entry IsFileOrDirectory entry_to slots h.2))

pub struct_to : (disk : Disk) (held bytes : List ℕ) → IsSuperblockStruct disk held → SameExceptVersion disk.profile.versions held bytes → is_struct disk bytes ≡ true
struct_to disk held bytes h same =
    let size : little_number 4 (drop 4 bytes) ≡ disk.block_size = ap (little_number 4) same.rest ∙ h.block_size in
    let count : little_number 4 (drop 8 bytes) ≡ block_count disk =
    ap (little_number 4) (sym (drop-drop 4 4 bytes) ∙ ap (drop 4) same.rest ∙ drop-drop 4 4 held) ∙ h.block_count in
    and_from _ _ (eq-eqb (length bytes) 24 (same.len ∙ h.len)) (and_from _ _ same.version
    (and_from _ _ (eq-eqb (little_number 4 (drop 4 bytes)) disk.block_size size) (eq-eqb (little_number 4 (drop 8 bytes)) (block_count disk) count)))

-- the superblock's bytes aren't those of the disk, or not those of each of its pairs
pub fails_superblock : (disk : Disk) (ps : List Pair) (p : Pair) (rest : List Pair) (bytes : List ℕ) → superblock_chain_pairs ps ≡ p ∷ rest →
    ((held : List ℕ) → BeginsWithSuperblock disk.profile.versions held p.content.slots → (own : List ℕ) × ((Inline bytes ≡ Inline own) × SameExceptVersion disk.profile.versions held own)) →
    (is_struct disk bytes && list_all (λ q. has_superblock disk.profile.versions bytes q.content.slots) (superblock_chain_pairs ps)) ≡ false → IsAccepted disk ps → ⊥
fails_superblock disk ps p rest bytes are first fails a =
    let held = a.superblock.0 in
    let V = disk.profile.versions in
    let each = a.superblock.1.1 in
    let here : BeginsWithSuperblock V held p.content.slots = All-head (λ q. BeginsWithSuperblock V held q.content.slots) p rest (subst (All (λ q. BeginsWithSuperblock V held q.content.slots)) are each) in
    let f = first held here in
    let is : bytes ≡ f.0 = let e = f.1.0 in cc in
    let same : SameExceptVersion V held bytes = subst (SameExceptVersion V held) (sym is) f.1.1 in
    let struct = struct_to disk held bytes a.superblock.1.0 same in
    let pairs = all_to (λ q. has_superblock V bytes q.content.slots) (λ q. BeginsWithSuperblock V held q.content.slots) (λ q. superblock_to V held bytes same q.content.slots) (superblock_chain_pairs ps) each in
    let pass : (is_struct disk bytes && list_all (λ q. has_superblock V bytes q.content.slots) (superblock_chain_pairs ps)) ≡ true = and_from (is_struct disk bytes) (list_all (λ q. has_superblock V bytes q.content.slots) (superblock_chain_pairs ps)) struct pairs in
    cc

abbrev pub is_list_if_ctz : Disk → Struct → Bool
is_list_if_ctz disk (Ctz head size) = is_list disk.blocks disk.block_size head size
is_list_if_ctz disk (Inline bytes) = true
is_list_if_ctz disk (Branch to) = true

pub ctz_to : (disk : Disk) (s : Struct) → IsWellFormedList disk s → is_list_if_ctz disk s ≡ true
ctz_to disk (Ctz head size) h = list_to disk.blocks disk.block_size head size h
ctz_to disk (Inline bytes) h = refl
ctz_to disk (Branch to) h = refl

-- a file's list isn't well formed
pub fails_lists : (disk : Disk) (ps : List Pair) → list_all (λ s. is_list_if_ctz disk s.struct) (all_unmoved_slots ps) ≡ false → IsAccepted disk ps → ⊥
fails_lists disk ps fails a = let e = all_to (λ s. is_list_if_ctz disk s.struct) (λ s. IsWellFormedList disk s.struct) (λ s. ctz_to disk s.struct) (all_unmoved_slots ps) a.lists in cc

-- ---- images that may not be written

pub read_only_with : (disk : Disk) (qs : List Pair) → AreLinkedByTails (Some superblock_pair_address) qs → AllByRecursion (λ p. content_at disk p.at ≡ Some p.content) qs → (IsWritable disk qs → ⊥) → IsNotWritable disk
read_only_with disk qs links contents never ps a w =
    let is : ps ≡ qs = one_way (content_at disk) (Some superblock_pair_address) ps qs a.thread.links links a.thread.contents (All-from_recursion (λ p. content_at disk p.at ≡ Some p.content) qs contents) in
    never (subst (IsWritable disk) is w)

-- a slot of a pair that doesn't fit
pub fails_slot : (disk : Disk) (ps : List Pair) (i k : ℕ) (p : Pair) (s : Slot) → slice_get ps i ≡ Some p → slice_get p.content.slots k ≡ Some s → (IsWritableSlot disk.profile disk.block_size disk.page s → ⊥) → IsWritable disk ps → ⊥
fails_slot disk ps i k p s pair slot never w =
    let P : Pair → Type 0 = λ p. All (IsWritableSlot disk.profile disk.block_size disk.page) p.content.slots in
    let held : P p = subst P (get_or_from_slice_get ps i p p pair) (w.slots i p (slice_get_within ps i p pair)) in
    never (subst (IsWritableSlot disk.profile disk.block_size disk.page) (get_or_from_slice_get p.content.slots k s s slot) (held k s (slice_get_within p.content.slots k s slot)))
