-- Finished contents can be committed.
use Rattle.std.proofs.Common.{ℕ, ◌≡◌, ◌≤◌, ◌<◌, ⊎_elim, nat_eq, get_or, List, [], length, Some, refl, sym, ap, subst, ◌∙◌, arith}
use Rattle.std.specs.List.{IsDistinct, slice_get}
use Rattle.lfs_tree.proofs.Common.{All-contains, slice_get-get_or, BlockState, BlockStates, IsFree, IsInFlight, IsUsedBlock, Free, InFlight, Used, inline_limit, IsSkipList, list_bytes, Struct, Ctz, Inline, struct_blocks, Contains-occurrence_count, occurrence_count-Contains, occurrence_count, each_from_counted, once_from_distinct, KeptThread, ContentsForm, IsFinishedList, AreUsedAmong, IsNewContentsStruct, stored_list_blocks, HaveContentsForm}
use Rattle.lfs_file.specs.declared.contents.WriterContents.TheVariants.{Finished}
use Rattle.lfs_file.specs.declared.stored_list.StoredList.{StoredList}
use Rattle.lfs_file.proofs.Ends.{none_distinct}
use Rattle.lfs_file.proofs.Outside.{came, come_apart, counted_both, outside}

flying_else : (sets : BlockStates) (b : ℕ) → b < length sets → (IsFree sets b → ⊥) → (IsUsedBlock sets b → ⊥) → IsInFlight sets b
flying_else sets b lt free used = go (get_or sets b Free) (slice_get-get_or sets b Free lt)
  where
    go : (s : BlockState) → slice_get sets b ≡ Some s → IsInFlight sets b
    go Free is = absurd (free is)
    go InFlight is = is
    go Used is = absurd (used is)

module _ (t : KeptThread) (s : StoredList) (was : List ℕ) (stored : IsFinishedList t.map t.disk.blocks t.disk.block_size s) (list : IsSkipList t.disk.blocks t.disk.block_size s.head s.size) (owned : AreUsedAmong t.map was (stored_list_blocks t s)) where
  come_flies : (b : ℕ) → 1 ≤ occurrence_count b (outside was (stored_list_blocks t s)) → IsInFlight t.map b
  come_flies b some =
      let both = came b was (stored_list_blocks t s) some in
      let has = Contains-occurrence_count (stored_list_blocks t s) b both.1 in
      flying_else t.map b
      (let within = All-contains (λ x. x < length t.disk.blocks) (stored_list_blocks t s) b list.blocks.in_range has in omega (arith, stored.count, within))
      (All-contains (λ x. IsFree t.map x → ⊥) (stored_list_blocks t s) b stored.marked has)
      (λ used. absurd (let k = occurrence_count-Contains was b (owned.each b has used) in let z = both.0 in omega arith))

-- a list
pub list_comes : (t : KeptThread) (s : StoredList) (bytes : List ℕ) (form : ContentsForm) (was : Struct) → HaveContentsForm t (Finished s) bytes form → s.size ≡ length bytes → inline_limit t.disk.profile t.disk.block_size < length bytes
    → AreUsedAmong t.map (struct_blocks t.disk was) (stored_list_blocks t s) → IsDistinct nat_eq (struct_blocks t.disk was) → IsNewContentsStruct t bytes was (Ctz s.head s.size)
list_comes t s bytes form was holds size large owned distinct =
    let stored : IsFinishedList t.map t.disk.blocks t.disk.block_size s = subst (λ (n : ℕ). IsFinishedList t.map t.disk.blocks n s) holds.divided.block_size holds.has.stands in
    let list : IsSkipList t.disk.blocks t.disk.block_size s.head s.size = ⊎_elim (λ none. absurd (omega arith)) (λ is. is) stored.base in
    let once = once_from_distinct (stored_list_blocks t s) list.blocks.distinct in
    let once_was = once_from_distinct (struct_blocks t.disk was) distinct in
    record {
      stores = (size, ap (λ (n : ℕ). list_bytes t.disk.blocks n s.head s.size) (sym holds.divided.block_size) ∙ holds.has.has, large);
      list = list;
      gone = outside (stored_list_blocks t s) (struct_blocks t.disk was);
      come = outside (struct_blocks t.disk was) (stored_list_blocks t s);
      flying = each_from_counted (IsInFlight t.map) (outside (struct_blocks t.disk was) (stored_list_blocks t s)) (come_flies t s (struct_blocks t.disk was) stored list owned);
      apart = come_apart (stored_list_blocks t s) (struct_blocks t.disk was) once once_was;
      blocks = counted_both (stored_list_blocks t s) (struct_blocks t.disk was) once once_was;
    }

-- inline
pub inline_comes : (t : KeptThread) (bytes : List ℕ) (was : Struct) → length bytes ≤ inline_limit t.disk.profile t.disk.block_size → IsNewContentsStruct t bytes was (Inline bytes)
inline_comes t bytes was few = record {
  stores = (refl, few);
  list = tt;
  gone = struct_blocks t.disk was;
  come = [];
  flying = tt;
  apart = none_distinct;
  blocks = λ b. refl;
}
