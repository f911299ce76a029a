-- A disk whose first pair was just made, with the superblock alone.
use Rattle.std.proofs.Common.{ℕ, zero, suc, ◌≡◌, ◌⊎◌, inl, inr, ◌<◌, ◌≤◌, Bool, true, false, not, cond, ◌&&◌, List, [], ◌∷◌, ◌++◌, length, Some, None, refl, sym, ap, ap₂, subst, ◌∙◌, arith, set, replicate, nat_eq}
use Rattle.std.specs.Prelude.{Contains, slice_get, unwrap_or}
use Rattle.std.specs.Bool.{IsTrue, OnTrue}
use Rattle.lfs_tree.proofs.Common.{flat_map, option_and_then, length-replicate, same_Some, Blocks, AreInFlight, AreUsed, BlockStates, BlockState, IsFree, ContentChange, has_commit, later_committed_block, current_block, is_later, empty_raw_content, Disk, disk_block, block_count, disk_with_order, CallEvent, block_revision, zero_gstate, superblock_pair_address, pairs_blocks, address_blocks, HasFirstLogEntry, IsAccepted, superblock_entry, IsWritable, Contains-cons, Contains-head, Contains-tail, KeptThread, kept_in_order, ChangesThreadBlocks, IsFreshlyFormatted, IsEmptyWritable}
use Rattle.std.specs.List.{IsDistinct}
use Rattle.std.proofs.lemmas.Bool.{OnTrue_at}
use Rattle.lfs_device.specs.declared.geometry.Geometry.{Geometry}
use Rattle.lfs_device.specs.declared.device.BlockDevice.{Ghosts}
use Rattle.lfs_device.specs.DeviceCalls.{ChangesTheseBlocks}
use Rattle.lfs_device.specs.DeviceDisk.{disk_of_blocks}
use Rattle.lfs_model.specs.layers.BlockSets.{Free, InFlight, Used}
use Rattle.lfs_model.specs.layers.Changes.{content_with_changes}
use Rattle.lfs_model.specs.format.Content.{decoded_content, raw_content}
use Rattle.lfs_model.specs.declared.order.NameOrder.{NameOrder}
use Rattle.lfs_model.specs.tree.Fresh.{fresh_content, fresh_pair, superblock_bytes}
use Rattle.lfs_model.specs.format.Geometry.{IsValidGeometry}
use Rattle.lfs_model.specs.format.Thread.{AreLinkedByTails}
use Rattle.lfs_model.specs.tree.View.{disk_view}
use Rattle.lfs_model.specs.layers.WrittenContent.{content_entries}
use Rattle.lfs_model.proofs.Histories.{began}
use Rattle.lfs_model.proofs.Fresh.{accepted, shows, writable}
use Rattle.lfs_pair.specs.Commits.{IsPairAddress}
use Rattle.lfs_pair.specs.FreshPair as pair
use Rattle.lfs_pair.specs.Writing.{HasOneCommit}
use Rattle.lfs_thread.specs.Kept.{AllBlocksUsed, PairHeader, WasKeptOnDisk, disk_pair_at, header_pairs, kept_view}
use Rattle.lfs_tree.specs.Formats.{IsFormattedMap, IsRootHeader, IsRootThread, superblock_slot_changes, superblock_content}

-- ---- the map

free_alone : (n b : ℕ) (s : BlockState) → slice_get (replicate n Free) b ≡ Some s → Free ≡ s
free_alone zero b s e = absurd (cc)
free_alone (suc n) zero s e = same_Some Free s e
free_alone (suc n) (suc b) s e = free_alone n b s e

none_there : (b : ℕ) → Contains [] b → ⊥
none_there b has = let below : has.0 < 0 = has.1 in omega arith

two_used : (m : ℕ) → AreUsed (Used ∷ Used ∷ replicate m Free) (0 ∷ 1 ∷ [])
two_used m zero = (λ _. Contains-head 0 (1 ∷ []), λ _. refl)
two_used m (suc zero) = (λ _. Contains-tail 0 1 (1 ∷ []) (Contains-head 1 []), λ _. refl)
two_used m (suc (suc b)) = (λ used. absurd (let e : Free ≡ Used = free_alone m b Used used in cc), λ has. absurd (first (Contains-cons 0 (suc (suc b)) (1 ∷ []) has)))
  where
    second : (1 ≡ suc (suc b)) ⊎ Contains [] (suc (suc b)) → ⊥
    second (inl e) = omega (arith, e)
    second (inr has) = none_there (suc (suc b)) has

    first : (0 ≡ suc (suc b)) ⊎ Contains (1 ∷ []) (suc (suc b)) → ⊥
    first (inl e) = omega (arith, e)
    first (inr has) = second (Contains-cons 1 (suc (suc b)) [] has)

none_in_flight : (m : ℕ) → AreInFlight (Used ∷ Used ∷ replicate m Free) []
none_in_flight m zero = (λ flies. absurd (let e : Used ≡ InFlight = same_Some Used InFlight flies in cc), λ has. absurd (none_there zero has))
none_in_flight m (suc zero) = (λ flies. absurd (let e : Used ≡ InFlight = same_Some Used InFlight flies in cc), λ has. absurd (none_there (suc zero) has))
none_in_flight m (suc (suc b)) = (λ flies. absurd (let e : Free ≡ InFlight = free_alone m b InFlight flies in cc), λ has. absurd (none_there (suc (suc b)) has))

empty_map : (n : ℕ) → 2 ≤ n → IsFormattedMap n (set (set (replicate n Free) 0 Used) 1 Used)
empty_map zero few = absurd (omega arith)
empty_map (suc zero) few = absurd (omega arith)
empty_map (suc (suc m)) few = record {
  size = ap (λ k. suc (suc k)) (length-replicate m Free);
  used = two_used m;
  in_flight = none_in_flight m;
}

first_free : (n : ℕ) → 2 ≤ n → IsFree (replicate n Free) 0
first_free zero few = absurd (omega arith)
first_free (suc n) few = refl

second_free : (n : ℕ) → 2 ≤ n → IsFree (set (replicate n Free) 0 Used) 1
second_free zero few = absurd (omega arith)
second_free (suc zero) few = absurd (omega arith)
second_free (suc (suc n)) few = refl

-- the first block is marked, and then the second
pub marked_first : (n : ℕ) (was now : BlockStates) (is_free : Bool) → 2 ≤ n → was ≡ replicate n Free → (IsFree was 0 → IsTrue is_free) → OnTrue is_free (now ≡ set was 0 Used)
    → now ≡ set (replicate n Free) 0 Used
marked_first n was now is_free few e free marked =
    OnTrue_at (free (subst (λ s. IsFree s 0) (sym e) (first_free n few))) marked ∙ ap (λ s. set s 0 Used) e

pub marked_both : (n : ℕ) (now last : BlockStates) (is_free : Bool) → 2 ≤ n → now ≡ set (replicate n Free) 0 Used → (IsFree now 1 → IsTrue is_free) → OnTrue is_free (last ≡ set now 1 Used)
    → IsFormattedMap n last
marked_both n now last is_free few e free marked =
    subst (IsFormattedMap n) (sym (OnTrue_at (free (subst (λ s. IsFree s 1) (sym e) (second_free n few))) marked ∙ ap (λ s. set s 1 Used) e)) (empty_map n few)

-- ---- the pair

-- what the superblock's changes make of nothing
made : (disk : Disk) → content_with_changes empty_raw_content (superblock_slot_changes (superblock_bytes disk.profile disk.block_size (block_count disk))) ≡ Some (superblock_content disk)
made disk = refl

completes : (disk : Disk) → decoded_content (superblock_content disk) ≡ Some (fresh_content disk.profile disk.block_size (block_count disk))
completes disk = refl

address : (disk : Disk) → 2 ≤ block_count disk → IsPairAddress disk superblock_pair_address
address disk few = record { apart = λ e. absurd (omega (arith, e)); first = omega (arith, few); second = omega (arith, few) }

can_be_fresh : (disk : Disk) → IsValidGeometry disk.block_size disk.page (block_count disk) → pair.CanMakeFresh disk superblock_pair_address (superblock_slot_changes (superblock_bytes disk.profile disk.block_size (block_count disk)))
can_be_fresh disk g = record {
  address = address disk g.no_fewer;
  new = superblock_content disk;
  changed = made disk;
  names = (refl, tt);
  fits = record { size = omega (arith, g.pages, g.no_smaller); count = omega arith };
}

-- the first block holds, since no log is in the second
holder_first : (a b : List ℕ) → has_commit a ≡ true → has_commit b ≡ false → later_committed_block a b ≡ Some a
holder_first a b first second =
    ap₂ (λ p q. cond (not p) (cond q (Some b) None) (cond (q && is_later (block_revision a) (block_revision b)) (Some b) (Some a))) first second

module _ (disk : Disk) (before history : List CallEvent) (h : PairHeader) (g : IsValidGeometry disk.block_size disk.page (block_count disk))
    (is : pair.IsFreshPair before (superblock_slot_changes (superblock_bytes disk.profile disk.block_size (block_count disk))) disk history superblock_pair_address h) where
  new_is : is.new ≡ superblock_content disk
  new_is = same_Some is.new (superblock_content disk) (sym is.made ∙ made disk)

  begins : HasFirstLogEntry (current_block disk superblock_pair_address) superblock_entry
  begins =
      subst (λ o. HasFirstLogEntry o superblock_entry) (sym (holder_first (disk_block disk 0) (disk_block disk 1) is.fresh.anew.has_commit is.fresh.cleared))
      (ap (λ commits. slice_get (flat_map (λ c. c) commits) 0) is.fresh.anew.commits
      ∙ ap (λ c. slice_get (flat_map (λ c. c) ((content_entries c ++ is.fresh.anew.checksum ∷ []) ∷ [])) 0) new_is)

  is_root : IsRootHeader disk history h
  is_root = record {
    header = record {
      address = subst (IsPairAddress disk) (sym is.holds.same) (address disk g.no_fewer);
      held = is.new;
      is_pair = is.holds.is_pair;
      raw = ap (raw_content disk) is.holds.same ∙ is.holds.content;
      content = fresh_content disk.profile disk.block_size (block_count disk);
      complete = ap decoded_content new_is ∙ completes disk;
    };
    at = is.holds.same;
    fresh = record {
      geometry = g;
      content = ap (option_and_then decoded_content) is.holds.content ∙ ap decoded_content new_is ∙ completes disk;
      first = begins;
    };
    first = subst (λ c. HasOneCommit 1 c (disk_block disk 0)) new_is is.fresh.anew;
    second = is.fresh.cleared;
  }

-- ---- of a device

-- the changes are those of a disk of that geometry
changes_are : (k : Geometry) (n : ℕ) (changes : List ContentChange) (bytes fields : List ℕ) → n ≡ k.block_count → changes ≡ superblock_slot_changes bytes → bytes ≡ fields → fields ≡ superblock_bytes k.profile k.block_size k.block_count
    → changes ≡ superblock_slot_changes (superblock_bytes k.profile k.block_size n)
changes_are k n changes bytes fields count e f b = e ∙ ap superblock_slot_changes (f ∙ b ∙ ap (superblock_bytes k.profile k.block_size) (sym count))

geometry_is : (k : Geometry) (blocks : Blocks) → length blocks ≡ k.block_count → IsValidGeometry k.block_size k.page (length blocks)
geometry_is k blocks count = subst (IsValidGeometry k.block_size k.page) (sym count) k.valid

pub can_root : (k asked : Geometry) (blocks : Blocks) (changes : List ContentChange) (bytes fields : List ℕ) → length blocks ≡ k.block_count → asked ≡ k → changes ≡ superblock_slot_changes bytes → bytes ≡ fields
    → fields ≡ superblock_bytes asked.profile asked.block_size asked.block_count → pair.CanMakeFresh (disk_of_blocks k blocks) superblock_pair_address changes
can_root k asked blocks changes bytes fields count same e f b =
    subst (pair.CanMakeFresh (disk_of_blocks k blocks) superblock_pair_address) (sym (changes_are k (length blocks) changes bytes fields count e f (b ∙ ap (λ (j : Geometry). superblock_bytes j.profile j.block_size j.block_count) same)))
    (can_be_fresh (disk_of_blocks k blocks) (geometry_is k blocks count))

pub device_root : (k asked : Geometry) (blocks : Blocks) (before history : List CallEvent) (h : PairHeader) (changes : List ContentChange) (bytes fields : List ℕ) → length blocks ≡ k.block_count → asked ≡ k → changes ≡ superblock_slot_changes bytes → bytes ≡ fields
    → fields ≡ superblock_bytes asked.profile asked.block_size asked.block_count → pair.IsFreshPair before changes (disk_of_blocks k blocks) history superblock_pair_address h → IsRootHeader (disk_of_blocks k blocks) history h
device_root k asked blocks before history h changes bytes fields count same e f b is =
    is_root (disk_of_blocks k blocks) before history h (geometry_is k blocks count)
    (subst (λ z. pair.IsFreshPair before z (disk_of_blocks k blocks) history superblock_pair_address h) (changes_are k (length blocks) changes bytes fields count e f (b ∙ ap (λ (j : Geometry). superblock_bytes j.profile j.block_size j.block_count) same)) is)

-- ---- what is kept

pairs_are : (disk : Disk) (history : List CallEvent) (h : PairHeader) → IsRootHeader disk history h → header_pairs disk (h ∷ []) ≡ fresh_pair disk ∷ []
pairs_are disk history h root =
    ap (λ at. disk_pair_at disk at ∷ []) root.at
    ∙ ap (λ o. record { at = superblock_pair_address; content = unwrap_or o (record { slots = []; tail = None; move = zero_gstate }) } ∷ []) root.fresh.content

kept : (disk : Disk) (history : List CallEvent) (h : PairHeader) (sets : BlockStates) → IsRootHeader disk history h → IsFormattedMap (block_count disk) sets → WasKeptOnDisk disk history (h ∷ []) sets
unfolding IsDistinct
kept disk history h sets root map = record {
  before = history;
  since = began;
  each = (root.header, tt);
  links = subst (λ ps. AreLinkedByTails (Some superblock_pair_address) ps) (sym (pairs_are disk history h root)) (refl, refl);
  distinct = subst (λ ps. IsDistinct nat_eq (pairs_blocks ps)) (sym (pairs_are disk history h root)) ((refl, tt), (tt, tt));
  size = map.size;
  used = subst (λ ps. AllBlocksUsed sets (pairs_blocks ps)) (sym (pairs_are disk history h root))
      ((map.used 0).1 (Contains-head 0 (1 ∷ [])), ((map.used 1).1 (Contains-tail 0 1 (1 ∷ []) (Contains-head 1 [])), tt));
}

pub empty_kept : (disk : Disk) (history : List CallEvent) (hs : List PairHeader) (sets : BlockStates) (n : ℕ) → block_count disk ≡ n → IsRootThread disk history hs → IsFormattedMap n sets → WasKeptOnDisk disk history hs sets
empty_kept disk history hs sets n count thread map =
    subst (λ z. WasKeptOnDisk disk history z sets) (sym thread.only) (kept disk history thread.first sets thread.root (subst (λ k. IsFormattedMap k sets) (sym count) map))

pub empty_formatted : (order : NameOrder) (disk : Disk) (history : List CallEvent) (hs : List PairHeader) (sets : BlockStates) (n : ℕ) → block_count disk ≡ n → IsRootThread disk history hs → IsFormattedMap n sets → IsFreshlyFormatted (kept_view (disk_with_order order disk) history hs sets)
empty_formatted order disk history hs sets n count thread map = record {
  fresh = record { geometry = thread.root.fresh.geometry; content = thread.root.fresh.content; first = thread.root.fresh.first };
  first = thread.root.first;
  second = thread.root.second;
  pairs = ap (header_pairs disk) thread.only ∙ pairs_are disk history thread.first thread.root;
  used = map.used;
  in_flight = map.in_flight;
  size = map.size ∙ sym count;
}

pub shows_empty : (t : KeptThread) → IsFreshlyFormatted t → IsEmptyWritable t
shows_empty t h = record {
  accepted = subst (IsAccepted t.disk) (sym h.pairs) (accepted t.disk h.fresh);
  writable = subst (IsWritable t.disk) (sym h.pairs) (writable t.disk h.fresh);
  view = ap (disk_view t.disk) h.pairs ∙ ap (λ tree. record { tree = tree; gstate = zero_gstate; used = address_blocks superblock_pair_address }) (shows t.disk);
}

-- what was written of the device, in the words of the thread
pub wrote : {D : Type 0} (g : Ghosts D) (order : NameOrder) {old new : D} (hs : List PairHeader) (sets : BlockStates) (bs : List ℕ) → ChangesTheseBlocks g bs old new → ChangesThreadBlocks bs (kept_in_order g order old [] []) (kept_in_order g order new hs sets)
wrote g order hs sets bs w = record {
  others = w.others;
  elsewhere = w.elsewhere;
  shape = record {
    block_size = ap (λ (k : Geometry). k.block_size) w.geometry;
    page = ap (λ (k : Geometry). k.page) w.geometry;
    order = refl;
    profile = ap (λ (k : Geometry). k.profile) w.geometry;
    count = w.others.count;
  };
  at_worst = w.at_worst;
}
