-- The root directory begins at another pair, for the step that moves a worn one: the image shows the same tree.
use Rattle.std.proofs.Common.{ℕ, ◌≡◌, inl, inr, ◌+◌, ◌<◌, ◌≤◌, Bool, true, false, cond, not, nat_eq, ◌&&◌, List, [], ◌∷◌, ◌++◌, length, Some, refl, sym, ap, ap₂, subst, ◌∙◌, arith, filter, option_and_then, AllPairs, Less}
use Rattle.std.specs.Prelude.{All}
use Rattle.lfs_model.proofs.Common.{option_map, false_from_ne_true, and_parts, All-from_recursion, recursion_from_All, flat_map-append, Disk, SameGeometry, block_count, Name, name_cmp, superblock_fields, Slot, Inline, Ctz, Branch, Gstate, is_superblock, same_pair, content_at, current_block, Pair, superblock_pair_address, AreLinkedByTails, pairs_from_nonempty, is_hard_tail, has_no_entry, chain_may_continue, has_superblock, count_before_root, IsThread, pairs_blocks, pairs_gstate, pairs_from_root, root_address, first_address, slots_not_moved, unmoved_entries, ThreadDirectory, directories_with_pair, pair_directories, directory_slots, BeginsDirectory, Path, DirectoryEntryMap, entry_named, struct_directory_address, slot_at_path, root_slot, address_at_path, names_at, struct_node, slot_subtree, root_subtree, all_directories, all_entries, IsDirectoryAtPath, IsReachedDirectory, disk_list_bytes, struct_blocks, disk_tree, all_unmoved_slots, used_blocks, accepts_version, IsSuperblockStruct, HasFirstLogEntry, superblock_entry, IsSuperblockFirst, SuperblockFirstIfAny, RepeatsSuperblockStruct, BeginsWithSuperblock, first_slot_name, superblock_chain_pairs, IsWellFormedList, IsAccepted, slot_of_path, occurrence_count, HoldsForSome, KeepsStruct}
use Rattle.std.specs.List.{IsDistinct}
use Rattle.lfs_model.specs.declared.limits.AcceptedVersions.{AcceptedVersions}
use Rattle.lfs_model.specs.declared.limits.Profile.{Profile}
use Rattle.lfs_model.proofs.Counts.{Each, each_append, each_right, each_both, each_pieces, each_counted, each_from_counted, count_append, once_from_distinct, distinct_from_once}
use Rattle.lfs_model.proofs.Global.{HasNoMove, unmoved_all}
use Rattle.lfs_model.proofs.Files.{SameFileBlocks, is_list_same, contents_same}
use Rattle.lfs_model.proofs.LeftFiles.{stays_same}
use Rattle.lfs_model.proofs.Pairs.{pair_itself, pair_back, pair_on}
use Rattle.lfs_model.proofs.Walks.{bind_same, walk_agrees, nodes_same, contents_agree}
use Rattle.lfs_model.proofs.Listings.{listing, Apart, distinct_apart, distinct_right, entries_first}
use Rattle.lfs_model.proofs.Superblocks.{Mark, StructMark, HasMark, IsChain, pairs_behind, HoldSlots, hold_from_rules, superblock_rule, root_rule, slots_rule}
use Rattle.lfs_model.proofs.Changes.{SameFiles, slots_files, shown_holds, listed_hold, entries_hold}
use Rattle.lfs_model.proofs.Sites.{any_from, among_from}
use Rattle.lfs_model.proofs.Splices.{all_slots, file_blocks, unmoved_in, count_files, AreFree}

-- ---- the superblock's pairs name no file

pub chain_bare : (chain dirs : List Pair) → IsChain chain dirs → Each (λ q. has_no_entry q.content.slots ≡ true) chain
chain_bare [] dirs h = tt
chain_bare (c ∷ chain) dirs h = go (has_superblock (chain ++ dirs) && chain_may_continue c) refl h (chain_bare chain dirs)
  where
    go : (t : Bool) → (has_superblock (chain ++ dirs) && chain_may_continue c) ≡ t → cond t (1 + count_before_root (chain ++ dirs)) 0 ≡ length (c ∷ chain) →
        (IsChain chain dirs → Each (λ q. has_no_entry q.content.slots ≡ true) chain) → Each (λ q. has_no_entry q.content.slots ≡ true) (c ∷ chain)
    go true e k next = ((and_parts (has_no_entry c.content.slots) (is_hard_tail c.content.tail) (and_parts (has_superblock (chain ++ dirs)) (chain_may_continue c) e).1).0, next (omega arith))
    go false e k next = absurd (omega arith)

abbrev IsInline : Slot → Type 0
IsInline u = (own : List ℕ) × (u.struct ≡ Inline own)

inline_slots : (versions : AcceptedVersions) (bytes : List ℕ) (slots : List Slot) → has_no_entry slots ≡ true → SuperblockFirstIfAny (RepeatsSuperblockStruct versions bytes) slots → Each IsInline slots
inline_slots versions bytes [] e h = tt
inline_slots versions bytes (u ∷ []) e h = ((h.1.0, h.1.1.0), tt)
inline_slots versions bytes (u ∷ v ∷ slots) e h = absurd (cc)

inline_chain : (versions : AcceptedVersions) (bytes : List ℕ) (ps : List Pair) → Each (λ q. has_no_entry q.content.slots ≡ true) ps → Each (λ q. BeginsWithSuperblock versions bytes q.content.slots) ps → Each IsInline (all_slots ps)
inline_chain versions bytes [] e h = tt
inline_chain versions bytes (p ∷ ps) e h = each_append IsInline p.content.slots (all_slots ps) (inline_slots versions bytes p.content.slots e.0 h.0) (inline_chain versions bytes ps e.1 h.1)

inline_none : (disk : Disk) (slots : List Slot) → Each IsInline slots → file_blocks disk slots ≡ []
inline_none disk [] h = refl
inline_none disk (u ∷ slots) h = ap₂ (λ x y. x ++ y) (ap (struct_blocks disk) h.0.1) (inline_none disk slots h.1)

inline_formed : (disk : Disk) (slots : List Slot) → Each IsInline slots → Each (λ u. IsWellFormedList disk u.struct) slots
inline_formed disk [] h = tt
inline_formed disk (u ∷ slots) h = (subst (IsWellFormedList disk) (sym h.0.1) tt, inline_formed disk slots h.1)

-- ---- the first directory, and the others

abbrev own_slots : Bool → List Slot → List ThreadDirectory → List Slot
own_slots hard slots [] = slots
own_slots true slots (d ∷ ds) = slots ++ d.slots
own_slots false slots (d ∷ ds) = slots

abbrev other_directories : Bool → List ThreadDirectory → List ThreadDirectory
other_directories hard [] = []
other_directories true (d ∷ ds) = ds
other_directories false (d ∷ ds) = d ∷ ds

first_of : (at : ℕ × ℕ) (hard : Bool) (slots : List Slot) (ds : List ThreadDirectory) → directories_with_pair at hard slots ds ≡ listing at (own_slots hard slots ds) ∷ other_directories hard ds
first_of at hard slots [] = refl
first_of at true slots (d ∷ ds) = refl
first_of at false slots (d ∷ ds) = refl

-- none of these directories begins at an address
not_among : (a x : ℕ × ℕ) (ds : List ThreadDirectory) → Each (λ d. same_pair a d.at ≡ false) ds → HoldsForSome (λ d. same_pair d.at x ≡ true) ds → same_pair a x ≡ true → ⊥
not_among a x [] h k e = k
not_among a x (d ∷ ds) h (inl k) e = let z = pair_on a x d.at e (pair_back d.at x k) in absurd (let y = sym z ∙ h.0 in cc)
not_among a x (d ∷ ds) h (inr k) e = not_among a x ds h.1 k e

pub pairs_count : (b : ℕ) (xs ys : List Pair) → occurrence_count b (pairs_blocks (xs ++ ys)) ≡ occurrence_count b (pairs_blocks xs) + occurrence_count b (pairs_blocks ys)
pairs_count b xs ys = ap (occurrence_count b) (flat_map-append (λ (p : Pair). p.at.0 ∷ p.at.1 ∷ []) xs ys) ∙ count_append b (pairs_blocks xs) (pairs_blocks ys)

-- ---- the change

-- On the new disk the root directory begins at s, with the slots and the tail of r, behind other pairs of the superblock. The rest
-- of the thread is the same.
pub record IsRootMoved (disk new : Disk) (chain : List Pair) (r : Pair) (now : List Pair) (s : Pair) (rest : List Pair) (extra : List ℕ) : Type 0 where
  pub geometry : SameGeometry disk new
  pub contents : All (λ p. content_at new p.at ≡ Some p.content) (now ++ s ∷ rest)
  pub first : HasFirstLogEntry (current_block new (first_address (pairs_from_nonempty (now ++ s ∷ rest)))) superblock_entry
  pub files : All (λ u. SameFileBlocks disk new u.struct) (all_unmoved_slots (chain ++ r ∷ rest))
  pub links : AreLinkedByTails (Some superblock_pair_address) (now ++ s ∷ rest)
  pub slots : s.content.slots ≡ r.content.slots
  pub tail : s.content.tail ≡ r.content.tail
  pub still : pairs_gstate (now ++ s ∷ rest) ≡ pairs_gstate (chain ++ r ∷ rest)
  -- the superblock's pairs
  pub is_chain : IsChain now (s ∷ rest)
  pub marked : (m : Mark) → Each (λ q. SuperblockFirstIfAny (HasMark m) q.content.slots) chain → IsSuperblockFirst (HasMark m) r.content.slots → Each (λ q. SuperblockFirstIfAny (HasMark m) q.content.slots) now
  pub named : first_slot_name (pairs_from_nonempty (now ++ s ∷ rest)) ≡ first_slot_name (pairs_from_nonempty (chain ++ r ∷ rest))
  -- blocks
  pub blocks : (b : ℕ) → occurrence_count b (pairs_blocks (now ++ s ∷ [])) ≤ occurrence_count b extra + occurrence_count b (pairs_blocks (chain ++ r ∷ []))
  pub free : AreFree disk (chain ++ r ∷ rest) extra []

-- The new image is accepted, and shows the same tree. Each file has its struct, and the global state is the same.
pub record IsSameImage (disk : Disk) (ps : List Pair) (new : Disk) (qs : List Pair) : Type 0 where
  pub accepted : IsAccepted new qs
  pub shows : disk_tree new qs ≡ disk_tree disk ps
  pub stays : (path : Path) → KeepsStruct (slot_of_path ps path) (slot_of_path qs path)
  pub gstate : pairs_gstate qs ≡ pairs_gstate ps

module _ (disk new : Disk) (chain : List Pair) (r : Pair) (now : List Pair) (s : Pair) (rest : List Pair) (extra : List ℕ)
    (was_chain : IsChain chain (r ∷ rest)) (ok : IsAccepted disk (chain ++ r ∷ rest)) (none : HasNoMove (pairs_gstate (chain ++ r ∷ rest)))
    (c : IsRootMoved disk new chain r now s rest extra) where
  abbrev ps : List Pair
  ps = chain ++ r ∷ rest

  abbrev qs : List Pair
  qs = now ++ s ∷ rest

  abbrev g : Gstate
  g = pairs_gstate ps

  abbrev h : Gstate
  h = pairs_gstate qs

  none_now : HasNoMove h
  none_now = subst HasNoMove (sym c.still) none

  -- ---- the superblock's pairs

  abbrev bytes : List ℕ
  bytes = ok.superblock.0

  held : Each (λ q. BeginsWithSuperblock disk.profile.versions bytes q.content.slots) chain × HoldSlots (StructMark disk.profile.versions bytes) true (r ∷ rest)
  held = hold_from_rules (StructMark disk.profile.versions bytes) chain r rest was_chain ok.superblock.1.1 ok.root ok.slots

  held_now : HoldSlots (StructMark disk.profile.versions bytes) true (s ∷ rest)
  held_now = (subst (IsSuperblockFirst (RepeatsSuperblockStruct disk.profile.versions bytes)) (sym c.slots) held.1.0, held.1.1)

  marked_now : Each (λ q. BeginsWithSuperblock disk.profile.versions bytes q.content.slots) now
  marked_now = c.marked (StructMark disk.profile.versions bytes) held.0 held.1.0

  superblock_now : All (λ q. BeginsWithSuperblock new.profile.versions bytes q.content.slots) (superblock_chain_pairs qs)
  superblock_now = subst (λ (k : Profile). All (λ q. BeginsWithSuperblock k.versions bytes q.content.slots) (superblock_chain_pairs qs)) (sym c.geometry.profile)
      (superblock_rule (StructMark disk.profile.versions bytes) now s rest c.is_chain marked_now held_now)

  superblock_struct : IsSuperblockStruct new bytes
  superblock_struct =
      let z = ok.superblock.1.0 in
      record { len = z.len; version = ap (λ (v : Profile). accepts_version v.versions (superblock_fields bytes).version) c.geometry.profile ∙ z.version; block_size = z.block_size ∙ sym c.geometry.block_size; block_count = z.block_count ∙ sym c.geometry.count }

  -- ---- slots and blocks

  inline_now : Each IsInline (all_slots now)
  inline_now = inline_chain disk.profile.versions bytes now (chain_bare now (s ∷ rest) c.is_chain) marked_now

  abbrev left_slots : List Slot
  left_slots = r.content.slots ++ all_slots rest

  all_now : all_unmoved_slots qs ≡ all_slots now ++ left_slots
  all_now = unmoved_in h none_now qs ∙ flat_map-append (λ (p : Pair). p.content.slots) now (s ∷ rest) ∙ ap (λ z. all_slots now ++ (z ++ all_slots rest)) c.slots

  all_were : all_unmoved_slots ps ≡ all_slots chain ++ left_slots
  all_were = unmoved_in g none ps ∙ flat_map-append (λ (p : Pair). p.content.slots) chain (r ∷ rest)

  left_of : (P : Slot → Type 0) → All P (all_unmoved_slots ps) → Each P left_slots
  left_of P k = each_right P (all_slots chain) left_slots (subst (Each P) all_were (recursion_from_All P (all_unmoved_slots ps) k))

  same : SameFiles disk new left_slots
  same = left_of (λ u. SameFileBlocks disk new u.struct) c.files

  lists_now : All (λ u. IsWellFormedList new u.struct) (all_unmoved_slots qs)
  lists_now = subst (All (λ u. IsWellFormedList new u.struct)) (sym all_now) (All-from_recursion (λ u. IsWellFormedList new u.struct) (all_slots now ++ left_slots)
      (each_append (λ u. IsWellFormedList new u.struct) (all_slots now) left_slots (inline_formed new (all_slots now) inline_now)
      (each_both (λ u. SameFileBlocks disk new u.struct) (λ u. IsWellFormedList disk u.struct) (λ u. IsWellFormedList new u.struct) (λ u. is_list_same disk new u.struct c.geometry) left_slots same
      (left_of (λ u. IsWellFormedList disk u.struct) ok.lists))))

  pair_blocks : (b : ℕ) → occurrence_count b (pairs_blocks qs) ≤ occurrence_count b extra + occurrence_count b (pairs_blocks ps)
  pair_blocks b = omega (arith, c.blocks b, pairs_count b now (s ∷ rest), pairs_count b (s ∷ []) rest, pairs_count b now (s ∷ []), pairs_count b chain (r ∷ rest), pairs_count b (r ∷ []) rest, pairs_count b chain (r ∷ []))

  file_count : (b : ℕ) → occurrence_count b (file_blocks new (all_unmoved_slots qs)) ≤ occurrence_count b (file_blocks disk (all_unmoved_slots ps))
  file_count b =
      let a1 = ap (λ z. occurrence_count b (file_blocks new z)) all_now in
      let a2 = ap (λ z. occurrence_count b (file_blocks disk z)) all_were in
      let b1 = count_files b new (all_slots now) left_slots in
      let b2 = count_files b disk (all_slots chain) left_slots in
      let c1 = ap (occurrence_count b) (inline_none new (all_slots now) inline_now) in
      let c2 = ap (occurrence_count b) (slots_files disk new left_slots c.geometry same) in
      omega arith

  owned_now : IsDistinct nat_eq (used_blocks new qs)
  owned_now = distinct_from_once (used_blocks new qs) (λ b.
      let a = once_from_distinct ((extra ++ []) ++ used_blocks disk ps) c.free.distinct b in
      let a1 = count_append b (extra ++ []) (used_blocks disk ps) in
      let a2 = count_append b extra [] in
      let a3 = count_append b (pairs_blocks ps) (file_blocks disk (all_unmoved_slots ps)) in
      let a4 = count_append b (pairs_blocks qs) (file_blocks new (all_unmoved_slots qs)) in
      let k = pair_blocks b in
      let l = file_count b in
      omega arith)

  thread_now : IsThread (content_at new) (block_count new) qs
  thread_now = record {
    links = c.links;
    contents = c.contents;
    in_range = subst (λ n. All (λ b. b < n) (pairs_blocks qs)) (sym c.geometry.count) (All-from_recursion (λ b. b < block_count disk) (pairs_blocks qs)
        (each_from_counted (λ b. b < block_count disk) (pairs_blocks qs) (λ b m. each_counted (λ b. b < block_count disk) (extra ++ pairs_blocks ps)
        (each_append (λ b. b < block_count disk) extra (pairs_blocks ps) (recursion_from_All (λ (b : ℕ). b < block_count disk) extra c.free.in_range) (recursion_from_All (λ (b : ℕ). b < block_count disk) (pairs_blocks ps) ok.thread.in_range)) b
        (let e = pair_blocks b in let f = count_append b extra (pairs_blocks ps) in omega arith))));
    distinct = distinct_from_once (pairs_blocks qs) (λ b.
        let k = once_from_distinct (used_blocks new qs) owned_now b in
        let l = count_append b (pairs_blocks qs) (file_blocks new (all_unmoved_slots qs)) in omega arith);
  }

  -- ---- directories

  abbrev S : List Slot
  S = own_slots (is_hard_tail r.content.tail) (unmoved_entries g r) (pair_directories g rest)

  abbrev ds : List ThreadDirectory
  ds = other_directories (is_hard_tail r.content.tail) (pair_directories g rest)

  with_root : pair_directories g (r ∷ rest) ≡ listing r.at S ∷ ds
  with_root = first_of r.at (is_hard_tail r.content.tail) (unmoved_entries g r) (pair_directories g rest)

  with_new : pair_directories g (s ∷ rest) ≡ listing s.at S ∷ ds
  with_new = ap₂ (λ t e. directories_with_pair s.at (is_hard_tail t) e (pair_directories g rest)) c.tail
      (ap (filter (λ u. not (is_superblock u))) (unmoved_all g none s ∙ c.slots ∙ sym (unmoved_all g none r)))
      ∙ first_of s.at (is_hard_tail r.content.tail) (unmoved_entries g r) (pair_directories g rest)

  were : all_directories ps ≡ listing r.at S ∷ ds
  were = ap (pair_directories g) (pairs_behind chain (r ∷ rest) was_chain) ∙ with_root

  are : all_directories qs ≡ listing s.at S ∷ ds
  are = ap (pair_directories h) (pairs_behind now (s ∷ rest) c.is_chain) ∙ ap (λ z. pair_directories z (s ∷ rest)) c.still ∙ with_new

  apart_old : Apart (listing r.at S ∷ ds)
  apart_old = subst Apart with_root (distinct_apart g (r ∷ rest) (distinct_right chain (r ∷ rest) ok.thread.distinct))

  apart_new : Apart (listing s.at S ∷ ds)
  apart_new = subst Apart with_new (distinct_apart g (s ∷ rest) (distinct_right now (s ∷ rest) thread_now.distinct))

  root_was : root_address ps ≡ r.at
  root_was = ap first_address (pairs_behind chain (r ∷ rest) was_chain)

  root_is : root_address qs ≡ s.at
  root_is = ap first_address (pairs_behind now (s ∷ rest) c.is_chain)

  -- ---- where paths lead

  abbrev E : DirectoryEntryMap
  E = all_entries ps

  abbrev F : DirectoryEntryMap
  F = all_entries qs

  root_shows : F s.at ≡ E r.at
  root_shows = ap (λ z. directory_slots z s.at) are ∙ entries_first (listing s.at S) ds s.at (pair_itself s.at) ∙ sym (ap (λ z. directory_slots z r.at) were ∙ entries_first (listing r.at S) ds r.at (pair_itself r.at))

  led : (path : Path) (x : ℕ × ℕ) → address_at_path E r.at path ≡ Some x → IsDirectoryAtPath ps path x
  led path x l = ap (λ z. address_at_path E z path) root_was ∙ l

  -- another directory isn't at either place
  not_root : (n : Name) (q : Path) (x : ℕ × ℕ) → address_at_path E r.at (n ∷ q) ≡ Some x → same_pair r.at x ≡ false
  not_root n q x l = false_from_ne_true (same_pair r.at x) (λ t. let e : [] ≡ n ∷ q = ok.once [] (n ∷ q) r.at x (led [] r.at refl) (led (n ∷ q) x l) t in absurd (cc))

  among_others : (n : Name) (q : Path) (x : ℕ × ℕ) → address_at_path E r.at (n ∷ q) ≡ Some x → HoldsForSome (λ d. same_pair d.at x ≡ true) ds
  among_others n q x l = go (among_from (λ (d : ThreadDirectory). same_pair d.at x ≡ true) (listing r.at S ∷ ds) (subst (λ z. BeginsDirectory z x) were (ok.branches (n ∷ q) x (led (n ∷ q) x l))))
    where
      go : HoldsForSome (λ d. same_pair d.at x ≡ true) (listing r.at S ∷ ds) → HoldsForSome (λ d. same_pair d.at x ≡ true) ds
      go (inl a) = absurd (let k = sym a ∙ not_root n q x l in cc)
      go (inr a) = a

  not_new : (n : Name) (q : Path) (x : ℕ × ℕ) → address_at_path E r.at (n ∷ q) ≡ Some x → same_pair s.at x ≡ false
  not_new n q x l = false_from_ne_true (same_pair s.at x) (not_among s.at x ds apart_new.0 (among_others n q x l))

  agrees : (n : Name) (q : Path) (x : ℕ × ℕ) → address_at_path E r.at (n ∷ q) ≡ Some x → F x ≡ E x
  agrees n q x l = ap (λ z. directory_slots z x) are ∙ ap (λ b. cond b S (directory_slots ds x)) (not_new n q x l)
      ∙ sym (ap (λ z. directory_slots z x) were ∙ ap (λ b. cond b S (directory_slots ds x)) (not_root n q x l))

  slot_same : (n : Name) (q : Path) → slot_at_path F (root_slot s.at) (n ∷ q) ≡ slot_at_path E (root_slot r.at) (n ∷ q)
  slot_same n q = ap (λ z. option_and_then (λ u. slot_at_path F u q) (entry_named n z)) root_shows
      ∙ bind_same (λ u. slot_at_path F u q) (λ u. slot_at_path E u q) (entry_named n (E r.at)) (λ u e. walk_agrees E F u
      (λ p x l. agrees n p x (ap (λ o. option_and_then (λ v. struct_directory_address v.struct) (option_and_then (λ z. slot_at_path E z p) o)) e ∙ l)) q)

  leads_same : (n : Name) (q : Path) → address_at_path F s.at (n ∷ q) ≡ address_at_path E r.at (n ∷ q)
  leads_same n q = ap (option_and_then (λ u. struct_directory_address u.struct)) (slot_same n q)

  -- the old path to a directory beneath the root
  old_lead : (n : Name) (q : Path) (x : ℕ × ℕ) → IsDirectoryAtPath qs (n ∷ q) x → address_at_path E r.at (n ∷ q) ≡ Some x
  old_lead n q x l = sym (leads_same n q) ∙ ap (λ z. address_at_path F z (n ∷ q)) (sym root_is) ∙ l

  new_root : (x : ℕ × ℕ) → IsDirectoryAtPath qs [] x → s.at ≡ x
  new_root x l = let e : Some s.at ≡ Some x = ap (λ z. address_at_path F z []) (sym root_is) ∙ l in cc

  -- ---- the tree

  same_contents : (path : Path) (u : Slot) (head size : ℕ) → slot_at_path E (root_slot r.at) path ≡ Some u → u.struct ≡ Ctz head size → disk_list_bytes new head size ≡ disk_list_bytes disk head size
  same_contents path u head size e f = contents_same disk new u.struct head size f c.geometry
      (shown_holds (λ v. SameFileBlocks disk new v.struct) E (entries_hold (λ v. SameFileBlocks disk new v.struct) (all_directories ps) listed) (root_slot r.at) path u tt e)
    where
      listed : Each (λ d. Each (λ v. SameFileBlocks disk new v.struct) d.slots) (all_directories ps)
      listed = listed_hold (λ v. SameFileBlocks disk new v.struct) g (pairs_from_root ps)
          (subst (Each (λ q. SameFiles disk new (slots_not_moved g q))) (sym (pairs_behind chain (r ∷ rest) was_chain))
          (each_right (λ q. SameFiles disk new (slots_not_moved g q)) chain (r ∷ rest)
          (each_pieces (λ v. SameFileBlocks disk new v.struct) (slots_not_moved g) ps (recursion_from_All (λ (v : Slot). SameFileBlocks disk new v.struct) (all_unmoved_slots ps) c.files))))

  shows_same : (path : Path) → slot_subtree (disk_list_bytes new) F (root_slot s.at) path ≡ slot_subtree (disk_list_bytes new) E (root_slot r.at) path
  shows_same [] = ap (λ z. Some (struct_node (disk_list_bytes new) (λ y. z) [] (Branch s.at))) root_shows
  shows_same (n ∷ q) = ap (option_map (λ u. struct_node (disk_list_bytes new) F u.attributes u.struct)) (slot_same n q)
      ∙ nodes_same (disk_list_bytes new) E F (slot_at_path E (root_slot r.at) (n ∷ q)) (λ x l. agrees n q x l)

  tree_same : disk_tree new qs ≡ disk_tree disk ps
  tree_same = ap (root_subtree (disk_list_bytes new) F) root_is
      ∙ (λ i path. (shows_same path ∙ contents_agree (disk_list_bytes disk) (disk_list_bytes new) E (root_slot r.at) same_contents path) i)
      ∙ ap (root_subtree (disk_list_bytes disk) E) (sym root_was)

  -- ---- the rules on directories

  order_now : (path : Path) (x : ℕ × ℕ) → IsDirectoryAtPath qs path x → AllPairs (λ a b. name_cmp disk.order a b ≡ Less) (names_at F x)
  order_now [] x l = subst (λ z. AllPairs (λ a b. name_cmp disk.order a b ≡ Less) (names_at F z)) (new_root x l)
      (subst (λ (z : List Slot). AllPairs (λ a b. name_cmp disk.order a b ≡ Less) (names_at (λ y. z) s.at)) (sym root_shows) (ok.order [] r.at (led [] r.at refl)))
  order_now (n ∷ q) x l =
      let k = old_lead n q x l in
      subst (λ (z : List Slot). AllPairs (λ a b. name_cmp disk.order a b ≡ Less) (names_at (λ y. z) x)) (sym (agrees n q x k)) (ok.order (n ∷ q) x (led (n ∷ q) x k))

  branches_now : (path : Path) (x : ℕ × ℕ) → IsDirectoryAtPath qs path x → BeginsDirectory (all_directories qs) x
  branches_now path x l = subst (λ z. BeginsDirectory z x) (sym are) (any_from (λ (d : ThreadDirectory). same_pair d.at x ≡ true) (listing s.at S ∷ ds) (go path l))
    where
      go : (path : Path) → IsDirectoryAtPath qs path x → HoldsForSome (λ d. same_pair d.at x ≡ true) (listing s.at S ∷ ds)
      go [] l = inl (subst (λ z. same_pair s.at z ≡ true) (new_root x l) (pair_itself s.at))
      go (n ∷ q) l = inr (among_others n q x (old_lead n q x l))

  once_now : (path other : Path) (x y : ℕ × ℕ) → IsDirectoryAtPath qs path x → IsDirectoryAtPath qs other y → same_pair x y ≡ true → path ≡ other
  once_now [] [] x y l m e = refl
  once_now [] (n ∷ q) x y l m e = absurd (let k = not_new n q y (old_lead n q y m) in let z = subst (λ a. same_pair a y ≡ true) (sym (new_root x l)) e in let w = sym z ∙ k in cc)
  once_now (n ∷ q) [] x y l m e = absurd (let k = not_new n q x (old_lead n q x l) in let z = subst (λ a. same_pair a x ≡ true) (sym (new_root y m)) (pair_back x y e) in let w = sym z ∙ k in cc)
  once_now (n ∷ q) (o ∷ p) x y l m e = ok.once (n ∷ q) (o ∷ p) x y (led (n ∷ q) x (old_lead n q x l)) (led (o ∷ p) y (old_lead o p y m)) e

  reached_now : h.sync ≡ false → All (λ d. IsReachedDirectory qs d.at) (all_directories qs)
  reached_now e = subst (All (λ d. IsReachedDirectory qs d.at)) (sym are) (All-from_recursion (λ d. IsReachedDirectory qs d.at) (listing s.at S ∷ ds) (
    ([], s.at, (ap (λ z. address_at_path F z []) root_is, pair_itself s.at)),
    others ds apart_old.0 (recursion_from_All (λ (d : ThreadDirectory). IsReachedDirectory ps d.at) (listing r.at S ∷ ds) (subst (All (λ d. IsReachedDirectory ps d.at)) were (ok.reached (ap (λ z. z.sync) (sym c.still) ∙ e)))).1,
  ))
    where
      other : (d : ThreadDirectory) → same_pair r.at d.at ≡ false → IsReachedDirectory ps d.at → IsReachedDirectory qs d.at
      other d f ([], x, (l, m)) = absurd (let z : Some r.at ≡ Some x = ap (λ z. address_at_path E z []) (sym root_was) ∙ l in let y = subst (λ a. same_pair d.at a ≡ true) (let k : x ≡ r.at = cc in k) m in let w = sym (pair_back d.at r.at y) ∙ f in cc)
      other d f (n ∷ q, x, (l, m)) = (n ∷ q, x, (ap (λ z. address_at_path F z (n ∷ q)) root_is ∙ leads_same n q ∙ ap (λ z. address_at_path E z (n ∷ q)) (sym root_was) ∙ l, m))

      others : (es : List ThreadDirectory) → Each (λ d. same_pair r.at d.at ≡ false) es → Each (λ d. IsReachedDirectory ps d.at) es → Each (λ d. IsReachedDirectory qs d.at) es
      others [] a k = tt
      others (d ∷ es) a k = (other d a.0 k.0, others es a.1 k.1)

  -- ---- the image

  pub root_moved : IsSameImage disk ps new qs
  root_moved = record {
    accepted = record {
      thread = thread_now;
      first = c.first;
      named = c.named ∙ ok.named;
      root = root_rule (StructMark disk.profile.versions bytes) now s rest c.is_chain held_now;
      superblock = (bytes, (superblock_struct, superblock_now));
      slots = slots_rule (StructMark disk.profile.versions bytes) now s rest c.is_chain held_now;
      order = λ path x l. subst (λ o. AllPairs (λ a b. name_cmp o a b ≡ Less) (names_at F x)) (sym c.geometry.order) (order_now path x l);
      branches = branches_now;
      once = once_now;
      reached = reached_now;
      move = inl (none_now.kind, none_now.id, none_now.pair);
      lists = lists_now;
      owned_once = owned_now;
    };
    shows = tree_same;
    stays = stays;
    gstate = c.still;
  }
    where
      stays : (path : Path) → KeepsStruct (slot_of_path ps path) (slot_of_path qs path)
      stays [] = λ u e f. absurd (let z : root_slot (root_address ps) ≡ u = cc in let y = ap (λ (v : Slot). struct_directory_address v.struct) z ∙ f in cc)
      stays (n ∷ q) = stays_same (slot_of_path ps (n ∷ q)) (slot_of_path qs (n ∷ q)) (ap (λ z. slot_at_path F (root_slot z) (n ∷ q)) root_is ∙ slot_same n q ∙ ap (λ z. slot_at_path E (root_slot z) (n ∷ q)) (sym root_was))
