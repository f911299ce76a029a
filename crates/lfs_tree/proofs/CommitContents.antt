-- A commit of finished contents: the file gets them, and its lists are settled.
use Rattle.std.proofs.Common.{ℕ, ◌≡◌, ◌<◌, ◌≤◌, inl, inr, ⊎_elim, nat_eq, nat_le, leb-true, Bool, true, false, cond, List, [], length, Option, Some, refl, sym, ap, subst, arith}
use Rattle.std.specs.Prelude.{Contains}
use Rattle.lfs_tree.proofs.Common.{flat_map, cases_lt, All-contains, All-from_recursion, recursion_from_All, AreUsed, IsFree, IsInFlight, IsUsedBlock, in_flight_count, Disk, inline_limit, CallEvent, skip_list_block_count, list_bytes, file_block_count, slot_of_path, Slot, Struct, Inline, Ctz, Branch, pairs_blocks, Path, IsAccepted, IsWellFormedList, all_unmoved_slots, struct_blocks, used_blocks, few_flying, Contains-occurrence_count, occurrence_count-Contains, Each, occurrence_count, count_append, each_from_counted, each_pieces, once_from_distinct, length_back, IsNewContentsStruct, stored_list_blocks, AreContentsOnDisk, HasFreeBlocks, KeptThread, AreThreadContents, slot_blocks, writer_contents_bytes, CanCommitContents, IsFinishedForm, finished_list, list_in_struct, finished_struct, SizedLists, IsListOrEmpty, contents_form}
use Rattle.std.specs.List.{IsDistinct}
use Rattle.lfs_tree.proofs.Coming.{inline_comes, list_comes}
use Rattle.lfs_tree.proofs.Carried.{with_history}
use Rattle.lfs_tree.proofs.OpenedFiles.{marked_there, no_flight}
use Rattle.lfs_tree.proofs.SlotsHave.{slot_has}
use Rattle.lfs_file.specs.Hand.{IsFinishedList as IsStoredList}
use Rattle.lfs_file.specs.declared.contents.WriterContents.{WriterContents}
use Rattle.lfs_file.specs.declared.contents.WriterContents.TheVariants.{InMemory, Finished, InHand}
use Rattle.lfs_file.specs.declared.stored_list.StoredList.{StoredList}

-- ---- lists

none_distinct : IsDistinct nat_eq []
unfolding IsDistinct
none_distinct = tt

pub distinct_list : (disk : Disk) (s : Struct) → IsWellFormedList disk s → IsDistinct nat_eq (struct_blocks disk s)
distinct_list disk (Inline bytes) ok = none_distinct
distinct_list disk (Ctz head size) ok = ok.blocks.distinct
distinct_list disk (Branch to) ok = none_distinct

-- a slot's list, by what it says
pub blocks_before_is : (t : KeptThread) (s : Struct) → stored_list_blocks t (list_in_struct s) ≡ struct_blocks t.disk s
blocks_before_is t (Inline bytes) = refl
blocks_before_is t (Ctz head size) = refl
blocks_before_is t (Branch to) = refl

pub blocks_now_is : (t : KeptThread) (c : WriterContents) → stored_list_blocks t (finished_list c) ≡ struct_blocks t.disk (finished_struct c)
blocks_now_is t (InMemory list) = refl
blocks_now_is t (Finished s) = refl
blocks_now_is t (InHand hand) = refl

pub base_before : (disk : Disk) (s : Struct) → IsWellFormedList disk s → IsListOrEmpty disk.blocks disk.block_size (list_in_struct s).head (list_in_struct s).size
base_before disk (Inline bytes) ok = inl refl
base_before disk (Ctz head size) ok = inr ok
base_before disk (Branch to) ok = inl refl

pub base_now : (disk : Disk) (c : WriterContents) → IsWellFormedList disk (finished_struct c) → IsListOrEmpty disk.blocks disk.block_size (finished_list c).head (finished_list c).size
base_now disk (InMemory list) ok = inl refl
base_now disk (Finished s) ok = inr ok
base_now disk (InHand hand) ok = inl refl

-- ---- what may come

module _ (t : KeptThread) (path : Path) (u : Slot) (ok : IsAccepted t.disk t.pairs) (used : AreUsed t.map (used_blocks t.disk t.pairs)) (at : slot_of_path t.pairs path ≡ Some u) (sized : SizedLists t.disk) where
  pub list_there : IsWellFormedList t.disk u.struct
  list_there = slot_has (λ (s : Slot). IsWellFormedList t.disk s.struct) t.disk t.pairs ok (recursion_from_All (λ (s : Slot). IsWellFormedList t.disk s.struct) (all_unmoved_slots t.pairs) ok.lists) tt path u at

  -- a block of the file's list is no pair's
  pub list_apart : (b : ℕ) → 1 ≤ occurrence_count b (struct_blocks t.disk u.struct) → occurrence_count b (pairs_blocks t.pairs) ≡ 0
  list_apart b some =
      let files = flat_map (λ (s : Slot). struct_blocks t.disk s.struct) (all_unmoved_slots t.pairs) in
      let each = slot_has (λ (s : Slot). Each (λ c. 1 ≤ occurrence_count c (flat_map (λ (x : Slot). struct_blocks t.disk x.struct) (all_unmoved_slots t.pairs))) (struct_blocks t.disk s.struct)) t.disk t.pairs ok
      (each_pieces (λ c. 1 ≤ occurrence_count c (flat_map (λ (x : Slot). struct_blocks t.disk x.struct) (all_unmoved_slots t.pairs))) (λ (s : Slot). struct_blocks t.disk s.struct) (all_unmoved_slots t.pairs)
      (each_from_counted (λ c. 1 ≤ occurrence_count c (flat_map (λ (x : Slot). struct_blocks t.disk x.struct) (all_unmoved_slots t.pairs))) (flat_map (λ (x : Slot). struct_blocks t.disk x.struct) (all_unmoved_slots t.pairs)) (λ c h. h))) tt path u at in
      let here : 1 ≤ occurrence_count b (flat_map (λ (x : Slot). struct_blocks t.disk x.struct) (all_unmoved_slots t.pairs))
      = All-contains (λ c. 1 ≤ occurrence_count c (flat_map (λ (x : Slot). struct_blocks t.disk x.struct) (all_unmoved_slots t.pairs))) (struct_blocks t.disk u.struct) b
      (All-from_recursion (λ c. 1 ≤ occurrence_count c (flat_map (λ (x : Slot). struct_blocks t.disk x.struct) (all_unmoved_slots t.pairs))) (struct_blocks t.disk u.struct) each) (Contains-occurrence_count (struct_blocks t.disk u.struct) b some) in
      let e = count_append b (pairs_blocks t.pairs) (flat_map (λ (x : Slot). struct_blocks t.disk x.struct) (all_unmoved_slots t.pairs)) in
      let o = once_from_distinct (used_blocks t.disk t.pairs) ok.owned_once b in
      omega arith

  pub list_used : (b : ℕ) → 1 ≤ occurrence_count b (struct_blocks t.disk u.struct) → IsUsedBlock t.map b
  list_used b some = All-contains (IsUsedBlock t.map) (struct_blocks t.disk u.struct) b (marked_there t path u ok used at) (Contains-occurrence_count (struct_blocks t.disk u.struct) b some)

  stored_of : (s : StoredList) → AreContentsOnDisk t (Finished s) → IsStoredList t.map t.disk.blocks t.disk.block_size s
  stored_of s stands = subst (λ (n : ℕ). IsStoredList t.map t.disk.blocks n s) stands.divided.block_size stands.stands

  size_of_list : (s : StoredList) (limit : ℕ) → limit < s.size → AreContentsOnDisk t (Finished s) → s.size ≡ length (writer_contents_bytes t (Finished s))
  size_of_list s limit large stands = sym (sized s.head s.size (⊎_elim (λ none. absurd (omega arith)) (λ list. list) (stored_of s stands).base))

  pub may_come : (c : WriterContents) → AreThreadContents t path c → IsFinishedForm (inline_limit t.disk.profile t.disk.block_size) (contents_form c) → IsNewContentsStruct t (writer_contents_bytes t c) u.struct (finished_struct c)
  may_come (InMemory list) over few = inline_comes t (writer_contents_bytes t (InMemory list)) u.struct few
  may_come (Finished s) over large =
      let size = size_of_list s (inline_limit t.disk.profile t.disk.block_size) large over.stands in
      list_comes t s (writer_contents_bytes t (Finished s)) (contents_form (Finished s)) u.struct
      (record {
        geometry = over.stands.geometry;
        divided = over.stands.divided;
        has = record { stands = over.stands.stands; has = ap (λ (n : ℕ). list_bytes t.disk.blocks n s.head s.size) over.stands.divided.block_size; form = refl };
      }) size (omega arith)
      (record { each = λ b has is. subst (λ (o : Option Slot). Contains (slot_blocks t.disk o) b) at (over.owned.each b has is) })
      (distinct_list t.disk u.struct list_there)
  may_come (InHand hand) over never = absurd never

  -- blocks in flight are those of the contents
  pub flying_in : (c : WriterContents) → AreThreadContents t path c → IsFinishedForm (inline_limit t.disk.profile t.disk.block_size) (contents_form c) → (b : ℕ) → IsInFlight t.map b → Contains (struct_blocks t.disk (finished_struct c)) b
  flying_in (InMemory list) over few b flies = absurd (over.stands.stands.idle.none b flies)
  flying_in (Finished s) over large b flies = ((stored_of s over.stands).flying b flies).1
  flying_in (InHand hand) over never b flies = absurd never

  -- none of these is free, or a pair's
  pub coming_taken : (c : WriterContents) → AreThreadContents t path c → IsFinishedForm (inline_limit t.disk.profile t.disk.block_size) (contents_form c) → (b : ℕ) → 1 ≤ occurrence_count b (struct_blocks t.disk (finished_struct c)) → IsFree t.map b → ⊥
  coming_taken (InMemory list) over few b some = absurd (omega arith)
  coming_taken (Finished s) over large b some = All-contains (λ x. ¬ (IsFree t.map x)) (stored_list_blocks t s) b (stored_of s over.stands).marked (Contains-occurrence_count (stored_list_blocks t s) b some)
  coming_taken (InHand hand) over never b some = absurd never

  pub coming_apart : (c : WriterContents) → AreThreadContents t path c → IsFinishedForm (inline_limit t.disk.profile t.disk.block_size) (contents_form c) → (b : ℕ) → 1 ≤ occurrence_count b (struct_blocks t.disk (finished_struct c)) → occurrence_count b (pairs_blocks t.pairs) ≡ 0
  coming_apart (InMemory list) over few b some = absurd (omega arith)
  coming_apart (Finished s) over large b some = ⊎_elim
      (λ is. absurd (
      let e = count_append b (pairs_blocks t.pairs) (flat_map (λ (x : Slot). struct_blocks t.disk x.struct) (all_unmoved_slots t.pairs)) in
      let u_is = (used b).1 (Contains-occurrence_count (used_blocks t.disk t.pairs) b (omega arith)) in
      let own = subst (λ (o : Option Slot). Contains (slot_blocks t.disk o) b) at (over.owned.each b (Contains-occurrence_count (stored_list_blocks t s) b some) u_is) in
      let none = list_apart b (occurrence_count-Contains (struct_blocks t.disk u.struct) b own) in
      omega arith))
      (λ none. omega arith)
      (cases_lt 0 (occurrence_count b (pairs_blocks t.pairs)))
  coming_apart (InHand hand) over never b some = absurd never

  list_room : (c : WriterContents) → AreThreadContents t path c → IsFinishedForm (inline_limit t.disk.profile t.disk.block_size) (contents_form c) → in_flight_count t.map ≤ file_block_count t.disk.profile t.disk.block_size (length (writer_contents_bytes t c))
  list_room (InMemory list) over few = let e = no_flight t.map (λ b. over.stands.stands.idle.none b) in omega arith
  list_room (Finished s) over large =
      let size = size_of_list s (inline_limit t.disk.profile t.disk.block_size) large over.stands in
      let few = few_flying (stored_list_blocks t s) t.map (λ b flies. ((stored_of s over.stands).flying b flies).1) in
      let l = length_back t.disk.blocks (skip_list_block_count t.disk.block_size s.size) s.head in
      let k : file_block_count t.disk.profile t.disk.block_size s.size ≡ skip_list_block_count t.disk.block_size s.size
      = ap (λ b. cond b 0 (skip_list_block_count t.disk.block_size s.size)) (past s.size (inline_limit t.disk.profile t.disk.block_size) large) in
      let m = ap (file_block_count t.disk.profile t.disk.block_size) size in
      omega arith
    where
      past : (n limit : ℕ) → limit < n → nat_le n limit ≡ false
      past n limit l = go (nat_le n limit) refl
        where
          go : (b : Bool) → nat_le n limit ≡ b → b ≡ false
          go false e = refl
          go true e = absurd (let k = leb-true n limit e in omega arith)
  list_room (InHand hand) over never = absurd never

  pub room_there : (c : WriterContents) → CanCommitContents t path c → HasFreeBlocks 2 t.map
  room_there c can = let l = list_room c can.over can.finished in let r = can.room in omega arith

pub over_read : (t : KeptThread) (h : List CallEvent) (path : Path) (c : WriterContents) → AreThreadContents t path c → AreThreadContents (with_history t h) path c
over_read t h path c over = record {
  file = over.file;
  stands = record { geometry = over.stands.geometry; divided = over.stands.divided; stands = over.stands.stands };
  owned = over.owned;
}

pub can_read : (t : KeptThread) (h : List CallEvent) (path : Path) (c : WriterContents) → CanCommitContents t path c → CanCommitContents (with_history t h) path c
can_read t h path c can = record { over = over_read t h path c can.over; finished = can.finished; room = can.room }
