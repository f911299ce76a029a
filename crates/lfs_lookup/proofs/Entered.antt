-- From a directory on a path to what one of its names leads to.
use Rattle.std.proofs.Common.{refl, ℕ, ◌≡◌, ◌+◌, false, List, [], ◌∷◌, ◌++◌, drop, Option, Some, None, sym, ap, subst, ◌∙◌, arith, rules}
use Rattle.std.specs.Prelude.{IfNone, IsSome}
use Rattle.lfs_lookup.proofs.Common.{AllByRecursion, option_and_then, option_map, IsInsertionPosition, HaveNoSuperblock, IsPositionOfName, Name, NoEnt, NotDir, directory_refusal, slot_of_path, Slot, Branch, same_pair, Pair, pairs_from_root, Path, struct_directory_address, struct_node, IsAccepted, IsDirectoryAtPath, disk_list_bytes, all_entries, disk_tree, each_right, chain_of_thread, led_directory, begins_directory, plain_behind, KeptThread, IsStorageOfStruct, LeadsToPair, HidesMovedSlot, IsOnlyMovedSlot, IsNameAbsentFrom, IsNameAtVisibleSlot}
use Rattle.lfs_model.specs.format.Slots.{zero_gstate}
use Rattle.lfs_model.proofs.Committed.{no_move_from}
use Rattle.lfs_model.proofs.Indexes.{nothing_there}
use Rattle.lfs_model.proofs.Searches.{place_of_belongs, slot_of_stands}
use Rattle.lfs_lookup.specs.declared.entry.FileStorage.{FileStorage}
use Rattle.lfs_lookup.specs.declared.entry.FileStorage.TheVariants as contents
use Rattle.lfs_lookup.specs.LookupPaths.{IsAcceptedRecovered}
use Rattle.lfs_lookup.specs.declared.entry.FileOrDirectory.{FileOrDirectory}
use Rattle.lfs_lookup.specs.declared.search.SlotPosition.{SlotPosition}
use Rattle.lfs_lookup.proofs.ShownSlots.{shown_is, absent_is_shown}

module _ (t : KeptThread) (ok : IsAcceptedRecovered t) (path : Path) (first : ℕ) (on : LeadsToPair t.pairs path first) where
  pub plain_on : HaveNoSuperblock (drop (first + 1) t.pairs)
  plain_on =
      let i = begins_directory t.disk t.pairs path on.at first ok.accepted on.leads on.begins in
      plain_behind t.disk t.pairs first ok.accepted (let n = i.number in omega (arith, n))

  -- ---- a name that is found

  module _ (name : Name) (pair id : ℕ) (s : IsPositionOfName t.pairs first name pair id) where
    pub slot_is : slot_of_path t.pairs (path ++ name ∷ []) ≡ Some s.stands.slot
    slot_is = slot_of_stands t.disk t.pairs path on.at ok.accepted on.leads first pair id name (no_move_from t.pairs ok.settled) s on.begins

    pub leads_to : (to : ℕ × ℕ) → s.stands.slot.struct ≡ Branch to → IsDirectoryAtPath t.pairs (path ++ name ∷ []) to
    leads_to to e = ap (option_and_then (λ (f : Slot). struct_directory_address f.struct)) slot_is ∙ ap struct_directory_address e

  -- ---- a name that belongs there

  pub absent_is : (name : Name) (pair id : ℕ) → IsInsertionPosition t.disk.order t.pairs first name pair id → slot_of_path t.pairs (path ++ name ∷ []) ≡ None
  absent_is name pair id b = (nothing_there t.disk t.pairs path on.at _ name on.leads (place_of_belongs t.disk t.pairs path on.at ok.accepted on.leads first pair id name (no_move_from t.pairs ok.settled) b on.begins)).0

-- ---- a directory that a path leads to is at its address

pub is_somewhere : (t : KeptThread) → IsAccepted t.disk t.pairs → (path : Path) (at : ℕ × ℕ) → IsDirectoryAtPath t.pairs path at → AllByRecursion (λ p. same_pair p.at at ≡ false) t.pairs → ⊥
is_somewhere t ok path at leads none =
    let d = led_directory t.disk t.pairs path at ok leads in
    let chain = (chain_of_thread t.pairs).0 in
    let behind = each_right (λ (p : Pair). same_pair p.at at ≡ false) _ (pairs_from_root t.pairs) (subst (AllByRecursion (λ p. same_pair p.at at ≡ false)) chain none) in
    let here = each_right (λ (p : Pair). same_pair p.at at ≡ false) d.before (d.first ∷ (d.run ++ d.after)) (subst (AllByRecursion (λ p. same_pair p.at at ≡ false)) d.is behind) in
    absurd (let k = sym d.at ∙ here.0 in cc)

pub some_there : {A : Type 0} (o : Option A) (P : Type 0) → IfNone o P → (P → ⊥) → IsSome o
some_there None P h not_so = absurd (not_so h)
some_there (Some x) P h not_so = search rules

-- ---- by the slot at a path

module _ (t : KeptThread) (path : Path) (slot : Slot) (is : slot_of_path t.pairs path ≡ Some slot) where
  pub leads_by : (to : ℕ × ℕ) → slot.struct ≡ Branch to → IsDirectoryAtPath t.pairs path to
  leads_by to e = ap (option_and_then (λ (f : Slot). struct_directory_address f.struct)) is ∙ ap struct_directory_address e

  node_by : disk_tree t.disk t.pairs path ≡ Some (struct_node (disk_list_bytes t.disk) (all_entries t.pairs) slot.attributes slot.struct)
  node_by = ap (option_map (λ (f : Slot). struct_node (disk_list_bytes t.disk) (all_entries t.pairs) f.attributes f.struct)) is

  pub file_by : (contents : FileStorage) → IsStorageOfStruct contents slot.struct → directory_refusal (disk_tree t.disk t.pairs path) ≡ Some NotDir
  file_by (contents.Inline len) shows = ap directory_refusal (node_by ∙ ap (λ z. Some (struct_node (disk_list_bytes t.disk) (all_entries t.pairs) slot.attributes z)) shows.1.0)
  file_by (contents.List head size) shows = ap directory_refusal (node_by ∙ ap (λ z. Some (struct_node (disk_list_bytes t.disk) (all_entries t.pairs) slot.attributes z)) shows)

pub nothing_by : (t : KeptThread) (path : Path) → slot_of_path t.pairs path ≡ None → directory_refusal (disk_tree t.disk t.pairs path) ≡ Some NoEnt
nothing_by t path is = ap directory_refusal (ap (option_map (λ (f : Slot). struct_node (disk_list_bytes t.disk) (all_entries t.pairs) f.attributes f.struct)) is)

-- ---- if a slot counts as deleted

module _ (t : KeptThread) (moved : Option SlotPosition) (h : HidesMovedSlot t moved) (path : Path) (first : ℕ) (on : LeadsToPair t.pairs path first) (name : Name) where
  pub shown_slot : (spot : SlotPosition) (entry : FileOrDirectory) (s : IsNameAtVisibleSlot t.pairs moved first name spot entry) → slot_of_path t.pairs (path ++ name ∷ []) ≡ Some s.stands.stands.slot
  shown_slot spot entry s = shown_is t.disk t.pairs path on.at moved first name spot entry h.accepted h.hides on.leads on.begins s

  pub no_slot : IsNameAbsentFrom moved first (drop first t.pairs) name → slot_of_path t.pairs (path ++ name ∷ []) ≡ None
  no_slot absent = absent_is_shown t.disk t.pairs path on.at moved first name h.accepted h.hides on.leads on.begins absent

-- ---- nothing is to be recovered, so no slot counts as deleted

hides_none : (index : ℕ) (ps : List Pair) → IsOnlyMovedSlot zero_gstate None index ps
hides_none index [] = tt
hides_none index (p ∷ ps) = (refl, hides_none (index + 1) ps)

pub hiding_none : (t : KeptThread) → IsAcceptedRecovered t → HidesMovedSlot t None
hiding_none t ok = record { accepted = ok.accepted; hides = subst (λ g. IsOnlyMovedSlot g None 0 t.pairs) (sym ok.settled) (hides_none 0 t.pairs) }
