-- A disk that has the same thread and files is accepted too, and shows the same tree. What the first pair has.
use Rattle.std.proofs.Common.{ℕ, ◌≡◌, ◌<◌, true, List, [], ◌∷◌, ◌++◌, Some, refl, sym, ap, subst, ◌∙◌, arith}
use Rattle.std.specs.Prelude.{slice_get, codes}
use Rattle.lfs_model.proofs.Common.{option_map, All-from_recursion, recursion_from_All, flat_map-append, Disk, block_count, Slot, Pair, pairs_blocks, pairs_from_nonempty, pairs_gstate, begins_with_superblock, slots_not_moved, IsWellFormedList, IsAccepted, first_slot_name, all_unmoved_slots, used_blocks, slot_of_path}
use Rattle.lfs_model.proofs.Counts.{Each, each_always, each_both, each_right, occurrence_count}
use Rattle.lfs_model.proofs.LeftFiles.{stays_same}
use Rattle.lfs_model.proofs.Changes.{IsChangedImage, SameFiles, rearranged_follows, owned_same}
use Rattle.lfs_model.proofs.Files.{SameFileBlocks, is_list_same}
use Rattle.lfs_model.proofs.Splices.{IsDevice}
use Rattle.lfs_model.proofs.Superblocks.{IsChain, meets_first, meets_from}
use Rattle.lfs_model.proofs.Uses.{accepted_sound}

-- ---- the first pair that has a slot

-- it has the superblock, by its name, in slot 0
pub record HasFirst (slots : List Slot) : Type 0 where
  pub kind : begins_with_superblock slots ≡ true
  pub name : option_map (λ s. s.name) (slice_get slots 0) ≡ Some (codes "littlefs")

-- some pair has a slot
pub record HasFilled (ps : List Pair) : Type 0 where
  pub pair : Pair
  pub rest : List Pair
  pub is : pairs_from_nonempty ps ≡ pair ∷ rest

pub accepted_filled : (disk : Disk) (ps : List Pair) → IsAccepted disk ps → HasFilled ps
accepted_filled disk ps ok = go (pairs_from_nonempty ps) refl ok.named
  where
    go : (qs : List Pair) → pairs_from_nonempty ps ≡ qs → first_slot_name qs ≡ Some (codes "littlefs") → HasFilled ps
    go [] e k = absurd (cc)
    go (p ∷ rest) e k = record { pair = p; rest = rest; is = e }

pub accepted_first : (disk : Disk) (ps : List Pair) (p : Pair) (rest : List Pair) → IsAccepted disk ps → pairs_from_nonempty ps ≡ p ∷ rest → HasFirst p.content.slots
accepted_first disk ps p rest ok is = record { kind = meets_first ps p rest is (meets_from ps ok.root); name = ap first_slot_name (sym is) ∙ ok.named }

-- ---- the global state

-- ---- nothing came of it

-- whatever move is set
module _ (disk new : Disk) (chain : List Pair) (p : Pair) (rest : List Pair) (is_chain : IsChain chain (p ∷ rest)) (ok : IsAccepted disk (chain ++ p ∷ rest))
    (device_same : IsDevice disk new (chain ++ p ∷ rest) (chain ++ p ∷ rest)) where
  abbrev same_pairs : List Pair
  same_pairs = chain ++ p ∷ rest

  files_same : SameFiles disk new (all_unmoved_slots same_pairs)
  files_same = recursion_from_All (λ (s : Slot). SameFileBlocks disk new s.struct) (all_unmoved_slots same_pairs) device_same.files

  owns_same : used_blocks new same_pairs ≡ used_blocks disk same_pairs
  owns_same = owned_same disk new (pairs_gstate same_pairs) (pairs_gstate same_pairs) same_pairs device_same.geometry
      (each_always (λ r. slots_not_moved (pairs_gstate same_pairs) r ≡ slots_not_moved (pairs_gstate same_pairs) r) (λ r. refl) same_pairs) files_same

  in_range_here : Each (λ b. b < block_count disk) (pairs_blocks (p ∷ []))
  in_range_here =
      let e = recursion_from_All (λ (b : ℕ). b < block_count disk) (pairs_blocks same_pairs) ok.thread.in_range in
      let k = each_right (λ b. b < block_count disk) (pairs_blocks chain) (pairs_blocks (p ∷ rest)) (subst (Each (λ b. b < block_count disk)) (flat_map-append (λ (s : Pair). s.at.0 ∷ s.at.1 ∷ []) chain (p ∷ rest)) e) in
      (k.0, (k.1.0, tt))

  pub same_follows : IsChangedImage disk same_pairs new same_pairs (λ t. t) (λ d. d)
  same_follows = rearranged_follows disk new chain [] p [] p [] rest [] is_chain ok
      (record {
        geometry = device_same.geometry;
        contents = device_same.contents;
        first = device_same.first;
        files = device_same.files;
        at = refl;
        links = λ from h. h;
        slots = λ m root h. h;
        move = ok.move;
        in_range = All-from_recursion (λ b. b < block_count disk) (pairs_blocks (p ∷ [])) in_range_here;
        blocks = λ b. let e = ap (occurrence_count b) owns_same in omega arith;
        free = ok.owned_once;
        lists = All-from_recursion (λ s. IsWellFormedList new s.struct) (all_unmoved_slots same_pairs)
            (each_both (λ s. SameFileBlocks disk new s.struct) (λ s. IsWellFormedList disk s.struct) (λ s. IsWellFormedList new s.struct) (λ s. is_list_same disk new s.struct device_same.geometry) (all_unmoved_slots same_pairs)
            files_same (recursion_from_All (λ (s : Slot). IsWellFormedList disk s.struct) (all_unmoved_slots same_pairs) ok.lists));
      })
      (λ t. t) (λ d. d) (record {
        shows = refl;
        leads = refl;
        sound = accepted_sound disk same_pairs ok;
        stays = λ q l. stays_same (slot_of_path same_pairs q) (slot_of_path same_pairs q) refl;
      }) ok.branches ok.reached
