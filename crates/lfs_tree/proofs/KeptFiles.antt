-- Files whose lists stay in the same blocks.
use Rattle.std.proofs.Common.{ℕ, ◌≡◌, ◌≤◌, ◌∙◌, true, List, [], ◌∷◌, Option, Some, None, refl, sym, ap, subst, arith}
use Rattle.std.specs.Prelude.{All, Contains}
use Rattle.lfs_tree.proofs.Common.{recursion_from_All, option_map, is_file, AreUsed, IsUsedBlock, Disk, SameGeometry, disk_block, struct_at, slot_of_path, Slot, Struct, Inline, Ctz, Branch, Attributes, Pair, pairs_blocks, Path, struct_node, IsAccepted, all_unmoved_slots, disk_list_bytes, all_entries, struct_blocks, disk_tree, used_blocks, Contains-occurrence_count, occurrence_count-Contains, Each, occurrence_count, count_append, each_from_counted, once_from_distinct, file_blocks_same, file_blocks, KeptThread, KeepsListBytes, KeepsFileAt}
use Rattle.lfs_tree.specs.KeptFiles.{slot_blocks, list_blocks_at}
use Rattle.lfs_tree.proofs.SlotsHave.{slot_has}

-- ---- the blocks of a file's list

-- each of a slot's is one of the image's files
pub among_files : (b : ℕ) (disk : Disk) (slots : List Slot) → Each (λ (s : Slot). occurrence_count b (struct_blocks disk s.struct) ≤ occurrence_count b (file_blocks disk slots)) slots
among_files b disk [] = tt
among_files b disk (s ∷ slots) =
    let e = count_append b (struct_blocks disk s.struct) (file_blocks disk slots) in
    (omega arith, weaker slots (among_files b disk slots))
  where
    weaker : (xs : List Slot) → Each (λ (x : Slot). occurrence_count b (struct_blocks disk x.struct) ≤ occurrence_count b (file_blocks disk slots)) xs
        → Each (λ (x : Slot). occurrence_count b (struct_blocks disk x.struct) ≤ occurrence_count b (file_blocks disk (s ∷ slots))) xs
    weaker [] h = tt
    weaker (x ∷ xs) h = (let l = h.0 in let e = count_append b (struct_blocks disk s.struct) (file_blocks disk slots) in omega arith, weaker xs h.1)

list_counted : (t : KeptThread) (path : Path) → IsAccepted t.disk t.pairs → (b : ℕ) → occurrence_count b (list_blocks_at t path) ≤ occurrence_count b (file_blocks t.disk (all_unmoved_slots t.pairs))
list_counted t path accepted b = go (slot_of_path t.pairs path) refl
  where
    go : (o : Option Slot) → slot_of_path t.pairs path ≡ o → occurrence_count b (slot_blocks t.disk o) ≤ occurrence_count b (file_blocks t.disk (all_unmoved_slots t.pairs))
    go None e = omega arith
    go (Some s) e = slot_has (λ (x : Slot). occurrence_count b (struct_blocks t.disk x.struct) ≤ occurrence_count b (file_blocks t.disk (all_unmoved_slots t.pairs))) t.disk t.pairs accepted (among_files b t.disk (all_unmoved_slots t.pairs)) (omega arith) path s e

-- they are used
pub list_used : (t : KeptThread) (path : Path) → IsAccepted t.disk t.pairs → AreUsed t.map (used_blocks t.disk t.pairs) → (b : ℕ) → Contains (list_blocks_at t path) b → IsUsedBlock t.map b
list_used t path accepted used b has =
    let k = occurrence_count-Contains (list_blocks_at t path) b has in
    let l = list_counted t path accepted b in
    let e = count_append b (pairs_blocks t.pairs) (file_blocks t.disk (all_unmoved_slots t.pairs)) in
    (used b).1 (Contains-occurrence_count (used_blocks t.disk t.pairs) b (omega arith))

-- and no pair's
pub no_pairs : (t : KeptThread) (path : Path) → IsAccepted t.disk t.pairs → (b : ℕ) → Contains (list_blocks_at t path) b → Contains (pairs_blocks t.pairs) b → ⊥
no_pairs t path accepted b has pairs =
    let k = occurrence_count-Contains (list_blocks_at t path) b has in
    let p = occurrence_count-Contains (pairs_blocks t.pairs) b pairs in
    let l = list_counted t path accepted b in
    let e = count_append b (pairs_blocks t.pairs) (file_blocks t.disk (all_unmoved_slots t.pairs)) in
    let o = once_from_distinct (used_blocks t.disk t.pairs) accepted.owned_once b in
    absurd (omega arith)

-- ---- a file that is kept

module _ (old new : KeptThread) (path : Path) (file : is_file (disk_tree old.disk old.pairs path) ≡ true) (same : struct_at new.pairs path ≡ struct_at old.pairs path) (geometry : SameGeometry old.disk new.disk)
    (bytes : (b : ℕ) → Contains (list_blocks_at old path) b → disk_block new.disk b ≡ disk_block old.disk b) where
  is_kept : (attributes others : Attributes) (s u : Struct) → u ≡ s → is_file (Some (struct_node (disk_list_bytes old.disk) (all_entries old.pairs) attributes s)) ≡ true
      → is_file (Some (struct_node (disk_list_bytes new.disk) (all_entries new.pairs) others u)) ≡ true
  is_kept attributes others s (Inline own) e h = refl
  is_kept attributes others s (Ctz head size) e h = refl
  is_kept attributes others s (Branch to) e h =
      absurd (let k : is_file (Some (struct_node (disk_list_bytes old.disk) (all_entries old.pairs) attributes (Branch to))) ≡ true = subst (λ (z : Struct). is_file (Some (struct_node (disk_list_bytes old.disk) (all_entries old.pairs) attributes z)) ≡ true) (sym e) h in cc)

  list_kept : (s u : Struct) → u ≡ s → ((b : ℕ) → Contains (struct_blocks old.disk s) b → disk_block new.disk b ≡ disk_block old.disk b) → struct_blocks new.disk u ≡ struct_blocks old.disk s
  list_kept s u e k = ap (struct_blocks new.disk) e
      ∙ file_blocks_same old.disk new.disk s geometry (each_from_counted (λ b. disk_block new.disk b ≡ disk_block old.disk b) (struct_blocks old.disk s) (λ b some. k b (Contains-occurrence_count (struct_blocks old.disk s) b some)))

  abbrev StaysAt : Option Slot → Option Slot → Type 0
  StaysAt was now = (is_file (option_map (λ (u : Slot). struct_node (disk_list_bytes new.disk) (all_entries new.pairs) u.attributes u.struct) now) ≡ true) × (slot_blocks new.disk now ≡ slot_blocks old.disk was)

  slots_kept : (was now : Option Slot) → option_map (λ (u : Slot). u.struct) now ≡ option_map (λ (u : Slot). u.struct) was
      → is_file (option_map (λ (u : Slot). struct_node (disk_list_bytes old.disk) (all_entries old.pairs) u.attributes u.struct) was) ≡ true
      → ((b : ℕ) → Contains (slot_blocks old.disk was) b → disk_block new.disk b ≡ disk_block old.disk b) → StaysAt was now
  slots_kept None now e h k = absurd (cc)
  slots_kept (Some s) None e h k = absurd (cc)
  slots_kept (Some s) (Some u) e h k =
      let is : u.struct ≡ s.struct = cc in
      (is_kept s.attributes u.attributes s.struct u.struct is h, list_kept s.struct u.struct is k)

  pub keeps_by : KeepsFileAt old new path
  keeps_by =
      let k = slots_kept (slot_of_path old.pairs path) (slot_of_path new.pairs path) same file bytes in
      record { file = k.0; struct = same; list = k.1; bytes = bytes }

pub keeps_same : (t : KeptThread) (path : Path) → is_file (disk_tree t.disk t.pairs path) ≡ true → KeepsFileAt t t path
keeps_same t path file = record { file = file; struct = refl; list = refl; bytes = λ b has. refl }

pub keeps_then : (a b c : KeptThread) (path : Path) → KeepsFileAt a b path → KeepsFileAt b c path → KeepsFileAt a c path
keeps_then a b c path first second = record {
  file = second.file;
  struct = second.struct ∙ first.struct;
  list = second.list ∙ first.list;
  bytes = λ x has. second.bytes x (subst (λ (l : List ℕ). Contains l x) (sym first.list) has) ∙ first.bytes x has;
}

-- the list of a file whose struct stays, if no block of a list changed
module _ (disk new : Disk) (ps qs : List Pair) (path : Path) (accepted : IsAccepted disk ps) (geometry : SameGeometry disk new) (keeps : KeepsListBytes disk ps new) where
  abbrev Stays : Slot → Type 0
  Stays s = All (λ b. disk_block new b ≡ disk_block disk b) (struct_blocks disk s.struct)

  stays_at : (s : Slot) → slot_of_path ps path ≡ Some s → Stays s
  stays_at s at = slot_has Stays disk ps accepted (recursion_from_All Stays (all_unmoved_slots ps) keeps) (λ i d lt. absurd (omega (arith, lt))) path s at

  same_list : (was now : Option Slot) → slot_of_path ps path ≡ was → option_map (λ (u : Slot). u.struct) now ≡ option_map (λ (u : Slot). u.struct) was → slot_blocks new now ≡ slot_blocks disk was
  same_list None None at e = refl
  same_list None (Some u) at e = absurd (cc)
  same_list (Some s) None at e = absurd (cc)
  same_list (Some s) (Some u) at e =
      let is : u.struct ≡ s.struct = cc in
      ap (struct_blocks new) is
      ∙ file_blocks_same disk new s.struct geometry (recursion_from_All (λ b. disk_block new b ≡ disk_block disk b) (struct_blocks disk s.struct) (stays_at s at))

  pub list_stays : struct_at qs path ≡ struct_at ps path → slot_blocks new (slot_of_path qs path) ≡ slot_blocks disk (slot_of_path ps path)
  list_stays same = same_list (slot_of_path ps path) (slot_of_path qs path) refl same
