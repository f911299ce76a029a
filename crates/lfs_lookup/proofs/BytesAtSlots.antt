-- The bytes of a file, as its slot has them.
use Rattle.std.proofs.Common.{ℕ, zero, suc, ◌≡◌, ◌+◌, ◌^◌, ◌<◌, ◌==◌, ◌∙◌, Bool, true, false, cond, List, [], ◌∷◌, ◌++◌, length, length-append, Option, Some, None, refl, sym, ap, ap₂, subst, slice_get, get_or, arith, append_assoc}
use Rattle.std.specs.List.{enumerate_from, flat_map}
use Rattle.lfs_lookup.proofs.Common.{option_and_then, option_map, length-take, same_Some, is_file, RawSlot, decoded_slot, decoded_slots, kind_of_type, slot_of_id, decoded_struct, inline_struct_type, directory_struct_type, decoded_address, Disk, IsDirectoryPair, IsPositionOfName, slot_bytes, bytes_if_type, Name, Slot, Struct, Inline, Ctz, Branch, slot_of_path, Pair, Path, struct_node, recursion_from_All, Each, each_right, IsWritableSlot, IsWritable, IsAccepted, IsWellFormedList, disk_list_bytes, all_entries, disk_tree, complete_parts, KeptThread, empty_anchor, IsLookupResult, file_slot_and_storage, IsStorageOfStruct, IsVisibleSlot}
use Rattle.lfs_model.specs.session.TreeEdits.{file_bytes}
use Rattle.lfs_model.specs.format.Disk.{inline_limit}
use Rattle.lfs_model.specs.format.SkipLists.{block_data, blocks_to_head, skip_list_block_count}
use Rattle.lfs_model.specs.session.Operations as ops
use Rattle.std.specs.Prelude.{All}
use Rattle.lfs_model.specs.tree.Profile.{InlineBytesFit}
use Rattle.lfs_lookup.specs.BytesAt.{IsFileAt}
use Rattle.lfs_lookup.specs.FileBytes.{struct_file_bytes}
use Rattle.lfs_lookup.specs.declared.entry.FileStorage.{FileStorage}
use Rattle.lfs_lookup.specs.declared.entry.FileStorage.TheVariants as contents
use Rattle.lfs_lookup.specs.declared.paths.VisiblePathLookup.{VisiblePathLookup}
use Rattle.lfs_lookup.specs.declared.paths.VisiblePathLookup.TheVariants as shown
use Rattle.lfs_lookup.specs.declared.search.SlotPosition.{SlotPosition}
use Rattle.lfs_lookup.proofs.AtPaths.{directory_at_path, list_at_path, nothing_at, refused_none}

-- ---- in a block

pub raw_slot : (raw : List RawSlot) (slots : List Slot) (id : ℕ) (t : Slot) → decoded_slots raw ≡ Some slots → slice_get slots id ≡ Some t → decoded_slot (slot_of_id raw id) ≡ Some t
raw_slot [] slots id t e is = absurd (let k : slots ≡ [] = sym (same_Some [] slots e) in let m = ap (λ z. slice_get z id) k in cc)
raw_slot (s ∷ raw) slots zero t e is =
    let p = complete_parts s raw slots e in
    let same : p.first ≡ t = let k = sym (ap (λ z. slice_get z 0) p.all_are) ∙ is in cc in
    p.is_first ∙ ap Some same
raw_slot (s ∷ raw) slots (suc id) t e is =
    let p = complete_parts s raw slots e in
    raw_slot raw p.others id t p.are_others (sym (ap (λ z. slice_get z (suc id)) p.all_are) ∙ is)

same_inline : (a b : List ℕ) → Inline a ≡ Inline b → a ≡ b
same_inline a b e = cc

pub inline_held : (s : RawSlot) (t : Slot) (bytes : List ℕ) → decoded_slot s ≡ Some t → t.struct ≡ Inline bytes → slot_bytes inline_struct_type s ≡ Some bytes
inline_held s t bytes e h = go s.name s.struct e
  where
    by_type : (held : List ℕ) (to : ℕ × ℕ) (head size : ℕ) (a b : Bool) → cond a (Inline held) (cond b (Branch to) (Ctz head size)) ≡ Inline bytes → cond a (Some held) None ≡ Some bytes
    by_type held to head size true b k = ap Some (same_inline held bytes k)
    by_type held to head size false true k = absurd (cc)
    by_type held to head size false false k = absurd (cc)

    go : (n p : Option (ℕ × List ℕ)) →
        option_and_then (λ name. option_map (λ struct. record { kind = kind_of_type name.0; name = name.1; struct = decoded_struct struct.0 struct.1; attributes = s.attributes }) p) n ≡ Some t → bytes_if_type inline_struct_type p ≡ Some bytes
    go None p k = absurd (cc)
    go (Some n) None k = absurd (cc)
    go (Some n) (Some p) k =
        by_type p.1 (decoded_address p.1) _ _ (p.0 == inline_struct_type) (p.0 == directory_struct_type)
        (ap (λ (x : Slot). x.struct) (same_Some (record { kind = kind_of_type n.0; name = n.1; struct = decoded_struct p.0 p.1; attributes = s.attributes }) t k) ∙ h)

-- ---- in a pair

pair_behind : (left : List Pair) (p : Pair) (right : List Pair) (d : Pair) → get_or (left ++ p ∷ right) (length left) d ≡ p
pair_behind [] p right d = refl
pair_behind (x ∷ left) p right d = pair_behind left p right d

slot_behind : (left : List Slot) (s : Slot) (right : List Slot) → slice_get (left ++ s ∷ right) (length left) ≡ Some s
slot_behind [] s right = refl
slot_behind (x ∷ left) s right = slot_behind left s right

pub behind_below : (ps : List Pair) (first index : ℕ) (pair : Pair) (rest : List Pair) → IsDirectoryPair ps first index pair rest → index < length ps
behind_below ps first index pair rest b =
    let l = ap length b.parts ∙ length-append b.front (b.left ++ pair ∷ rest) in
    let m = length-append b.left (pair ∷ rest) in
    let n = b.number in
    omega (arith, l, m, n)

pub pair_is : (ps : List Pair) (first index : ℕ) (pair : Pair) (rest : List Pair) (d : Pair) → IsDirectoryPair ps first index pair rest → get_or ps index d ≡ pair
pair_is ps first index pair rest d b =
    let n : length (b.front ++ b.left) ≡ index = length-append b.front b.left ∙ b.number in
    ap₂ (λ qs i. get_or qs i d) (b.parts ∙ sym (append_assoc b.front b.left (pair ∷ rest))) (sym n) ∙ pair_behind (b.front ++ b.left) pair rest d

pub slot_stands : (ps : List Pair) (first : ℕ) (name : Name) (index id : ℕ) (s : IsPositionOfName ps first name index id) → slice_get (get_or ps index empty_anchor).content.slots id ≡ Some s.stands.slot
slot_stands ps first name index id s =
    ap (λ (p : Pair). slice_get p.content.slots id) (pair_is ps first index s.pair s.rest empty_anchor s.place)
    ∙ ap₂ (λ xs i. slice_get xs i) s.stands.held (sym s.stands.number) ∙ slot_behind s.stands.left s.stands.slot s.stands.right

-- ---- at a path

module _ (t : KeptThread) (path : Path) (ok : IsAccepted t.disk t.pairs) (moved : Option SlotPosition) (spot : SlotPosition) (contents : FileStorage) where
  pub file_stands : (s : IsVisibleSlot t.pairs moved path spot) → IsStorageOfStruct contents s.stands.stands.slot.struct → IsFileAt t spot contents s.stands.stands.slot
  file_stands s k = record {
    below = behind_below t.pairs s.first spot.pair s.stands.pair s.stands.rest s.stands.place;
    there = slot_stands t.pairs s.first s.name spot.pair spot.id s.stands;
    shows = k;
    list = list_at_path t.disk t.pairs s.above s.name s.on.at s.stands.stands.slot ok s.on.leads (sym (ap (slot_of_path t.pairs) s.is) ∙ s.slot);
  }

node_bytes : (disk : Disk) (ps : List Pair) (x : Slot) (s : Struct) → file_bytes (Some (struct_node (disk_list_bytes disk) (all_entries ps) x.attributes s)) ≡ struct_file_bytes disk s
node_bytes disk ps x (Inline bytes) = refl
node_bytes disk ps x (Ctz head size) = refl
node_bytes disk ps x (Branch to) = refl

pub bytes_of_slot : (disk : Disk) (ps : List Pair) (path : Path) (x : Slot) → slot_of_path ps path ≡ Some x → struct_file_bytes disk x.struct ≡ file_bytes (disk_tree disk ps path)
bytes_of_slot disk ps path x e =
    sym (node_bytes disk ps x x.struct) ∙ ap (λ (o : Option Slot). file_bytes (option_map (λ (f : Slot). struct_node (disk_list_bytes disk) (all_entries ps) f.attributes f.struct) o)) (sym e)

-- a file has less than 2^31 bytes
pub few_shown : (disk : Disk) (contents : FileStorage) (s : Struct) → IsStorageOfStruct contents s → IsWellFormedList disk s → length (struct_file_bytes disk s) < 2 ^ 31
few_shown disk (contents.Inline len) s k list = let l = ap (λ z. length (struct_file_bytes disk z)) k.1.0 in let m = k.1.1.0 in let n = k.1.1.1 in omega (arith, l, m, n)
few_shown disk (contents.List head size) s k list =
    let l = subst (IsWellFormedList disk) k list in
    let e = ap (λ z. length (struct_file_bytes disk z)) k in
    let h = l.size_high in
    let n = length-take size (flat_map (block_data disk.blocks) (enumerate_from 0 (blocks_to_head disk.blocks (skip_list_block_count disk.block_size size) head))) in
    omega (arith, e, h, n)

-- ---- what is shown

pub is_file_of : (x : VisiblePathLookup) (slot : SlotPosition) (contents : FileStorage) → file_slot_and_storage x ≡ Some (slot, contents) → x ≡ shown.File slot contents
is_file_of shown.Root slot contents e = absurd (cc)
is_file_of (shown.Directory s first) slot contents e = absurd (cc)
is_file_of (shown.File s c) slot contents e =
    let k = same_Some (s, c) (slot, contents) e in
    ap₂ (λ a b. shown.File a b) (ap (λ (p : SlotPosition × FileStorage). p.0) k) (ap (λ (p : SlotPosition × FileStorage). p.1) k)
is_file_of shown.Nothing slot contents e = absurd (cc)
is_file_of shown.ParentIsFile slot contents e = absurd (cc)
is_file_of shown.ParentIsMissing slot contents e = absurd (cc)

-- if no file is found, there is none
module _ (t : KeptThread) (path : Path) where
  pub not_file : (x : VisiblePathLookup) → IsLookupResult t path x → file_slot_and_storage x ≡ None → is_file (disk_tree t.disk t.pairs path) ≡ false
  not_file shown.Root s e = ap (λ p. is_file (disk_tree t.disk t.pairs p)) s.shows
  not_file (shown.Directory slot first) s e = ap is_file (directory_at_path t.disk t.pairs path s.shows.1.1.at s.shows.1.1.leads).is
  not_file (shown.File slot contents) s e = absurd (cc)
  not_file shown.Nothing s e = ap is_file (nothing_at t.disk t.pairs path s.shows.1)
  not_file shown.ParentIsFile s e = ap is_file (nothing_at t.disk t.pairs path (refused_none t.disk t.pairs path [] ops.NotDir s.shows))
  not_file shown.ParentIsMissing s e = ap is_file (nothing_at t.disk t.pairs path (refused_none t.disk t.pairs path [] ops.NoEnt s.shows))

-- an entry of the writing profile has few bytes in its slot
inline_within : (disk : Disk) (ps : List Pair) (first : ℕ) (name : Name) (index id : ℕ) (s : IsPositionOfName ps first name index id) → IsWritable disk ps → InlineBytesFit (inline_limit disk.profile disk.block_size) s.stands.slot.struct
inline_within disk ps first name index id s fits =
    let fit : Slot → Type 0 = IsWritableSlot disk.profile disk.block_size disk.page in
    let all = recursion_from_All (λ (p : Pair). All fit p.content.slots) ps fits.slots in
    let one = (each_right (λ (p : Pair). All fit p.content.slots) s.place.left (s.pair ∷ s.rest)
    (each_right (λ (p : Pair). All fit p.content.slots) s.place.front (s.place.left ++ s.pair ∷ s.rest) (subst (Each (λ (p : Pair). All fit p.content.slots)) s.place.parts all))).0 in
    let here = (each_right fit s.stands.left (s.stands.slot ∷ s.stands.right) (subst (Each fit) s.stands.held (recursion_from_All fit s.pair.content.slots one))).0 in
    (here.1 s.stands.entry).inline

-- what is found of the file at a path
pub record IsFileOf (t : KeptThread) (path : Path) (slot : SlotPosition) (contents : FileStorage) : Type 0 where
  pub held : Slot
  pub file : IsFileAt t slot contents held
  pub bytes : struct_file_bytes t.disk held.struct ≡ file_bytes (disk_tree t.disk t.pairs path)
  pub few : length (struct_file_bytes t.disk held.struct) < 2 ^ 31
  pub at : slot_of_path t.pairs path ≡ Some held
  pub inline : IsWritable t.disk t.pairs → InlineBytesFit (inline_limit t.disk.profile t.disk.block_size) held.struct

pub file_of_path : (t : KeptThread) (path : Path) (x : VisiblePathLookup) (slot : SlotPosition) (contents : FileStorage) → IsAccepted t.disk t.pairs → IsLookupResult t path x → file_slot_and_storage x ≡ Some (slot, contents) → IsFileOf t path slot contents
file_of_path t path x slot contents ok shows e =
    let found = subst (λ z. IsLookupResult t path z) (is_file_of x slot contents e) shows in
    let (h, (s, k)) = found.shows in
    let file = file_stands t path ok found.moved slot contents s k in
    record {
      held = s.stands.stands.slot;
      file = file;
      bytes = bytes_of_slot t.disk t.pairs path s.stands.stands.slot s.slot;
      few = few_shown t.disk contents s.stands.stands.slot.struct k file.list;
      at = s.slot;
      inline = λ fits. inline_within t.disk t.pairs s.first s.name slot.pair slot.id s.stands fits;
    }

-- the file is that of a thread that was only read since
pub file_since : (a b : KeptThread) (slot : SlotPosition) (contents : FileStorage) (held : Slot) → b.pairs ≡ a.pairs → b.disk ≡ a.disk → IsFileAt a slot contents held → IsFileAt b slot contents held
file_since a b slot contents held pairs disk h = record {
  below = subst (λ (ps : List Pair). slot.pair < length ps) (sym pairs) h.below;
  there = subst (λ (ps : List Pair). slice_get (get_or ps slot.pair empty_anchor).content.slots slot.id ≡ Some held) (sym pairs) h.there;
  shows = h.shows;
  list = subst (λ (d : Disk). IsWellFormedList d held.struct) (sym disk) h.list;
}
