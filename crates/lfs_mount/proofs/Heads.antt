-- The number of pairs of the superblock's chain before the root's first one.
use Rattle.std.proofs.Common.{ℕ, zero, suc, ◌≡◌, ◌⊎◌, inl, inr, ◌==◌, ◌&&◌, ◌||◌, ◌+◌, ◌-◌, ◌<◌, ◌≤◌, Bool, true, false, cond, List, [], ◌∷◌, ◌++◌, length, drop, slice_get, slice_index_or, Option, Some, None, refl, sym, ap, ap₂, subst, ◌∙◌, arith, eqb-true, option_and_then, option_map}
use Rattle.lfs_mount.proofs.Common.{and_from, and_parts, length-map, same_Some, slice_get_read, slice_get_within, Blocks, current_block, Disk, disk_block, block_count, CallEvent, Slot, Inline, address_of_array, Pair, first_address, has_no_entry, is_hard_tail, has_superblock, begins_with_superblock, count_before_root, pairs_from_root, RepeatsSuperblockStruct, IsSuperblockStruct, PairsBreak, Each, tail_view, AreHeaders, PairHeader, header_pairs, FirstSlotIsSuperblock, HasOnlySuperblockSlot, IsEmptyOrOnlySuperblock, AreThreadHeaders, BreaksFirstSuperblock, HasSuperblockChainLength, first_filled, first_repeats_superblock, first_slot_struct}
use Rattle.std.proofs.lemmas.Bool.{and_right, eqb-false}
use Rattle.lfs_device.specs.declared.geometry.Geometry.{Geometry}
use Rattle.lfs_model.specs.format.Blocks.{block_bytes}
use Rattle.lfs_model.specs.format.Thread as Thread
use Rattle.lfs_model.specs.format.Thread.{pairs_from_nonempty, has_slots, superblock_first_or_empty}
use Rattle.lfs_model.specs.tree.View.{HasFirstLogEntry, first_pair_slots, first_slot_name, superblock_entry}
use Rattle.lfs_model.specs.layers.Violations.{HasFirstSlot, first_nonempty_address}
use Rattle.lfs_model.specs.declared.limits.AcceptedVersions.{AcceptedVersions}
use Rattle.lfs_model.specs.declared.violations.Violation.{Violation}
use Rattle.lfs_model.specs.declared.violations.Violation.TheVariants as violation
use Rattle.lfs_model.proofs.Superblocks.{meets_from, meets_starting}
use Rattle.lfs_mount.specs.SuperblockChain.{BlockHasSuperblock, may_superblock_chain_continue, repeats_superblock, superblock_in_log}
use Rattle.lfs_mount.proofs.FirstSlots.{IsFirst, begins_struct, first_begins, first_found, first_is, first_of_disk, repeats_false, repeats_none, repeats_true, struct_described}
use Rattle.lfs_mount.proofs.Headers.{IsSeen, header_at, pair_at, pair_of, seen_from}

-- ---- pairs of the superblock's chain

-- a pair in front of the root's first one; `v` are the versions that are accepted
abbrev pub IsLink : AcceptedVersions → List ℕ → Pair → Type 0
IsLink v bytes p = IsEmptyOrOnlySuperblock v bytes p × (is_hard_tail p.content.tail ≡ true)

-- so many of them
abbrev pub Linked : AcceptedVersions → List ℕ → ℕ → List Pair → Type 0
Linked v bytes zero ps = Unit {0}
Linked v bytes (suc k) [] = ⊥
Linked v bytes (suc k) (p ∷ ps) = IsLink v bytes p × Linked v bytes k ps

-- and behind them one that begins with the superblock
abbrev pub Led : AcceptedVersions → List ℕ → ℕ → List Pair → Type 0
Led v bytes k [] = ⊥
Led v bytes zero (p ∷ ps) = FirstSlotIsSuperblock v bytes p.content.slots
Led v bytes (suc k) (p ∷ ps) = IsLink v bytes p × Led v bytes k ps

starts_so : (v : AcceptedVersions) (bytes : List ℕ) (slots : List Slot) → FirstSlotIsSuperblock v bytes slots → begins_with_superblock slots ≡ true
starts_so v bytes [] h = absurd h
starts_so v bytes (s ∷ slots) h = h.0

alone_start : (v : AcceptedVersions) (bytes : List ℕ) (p : Pair) → HasOnlySuperblockSlot v bytes p → FirstSlotIsSuperblock v bytes p.content.slots
alone_start v bytes p a = subst (FirstSlotIsSuperblock v bytes) (sym a.slots) (a.superblock, a.struct)

link_bare : (v : AcceptedVersions) (bytes : List ℕ) (p : Pair) → IsEmptyOrOnlySuperblock v bytes p → has_no_entry p.content.slots ≡ true
link_bare v bytes p (inl none) = ap has_no_entry none
link_bare v bytes p (inr alone) = ap has_no_entry alone.slots ∙ alone.superblock

link_leads : (v : AcceptedVersions) (bytes : List ℕ) (p : Pair) → IsLink v bytes p → Thread.chain_may_continue p ≡ true
link_leads v bytes p h = and_from (has_no_entry p.content.slots) (is_hard_tail p.content.tail) (link_bare v bytes p h.0) h.1

link_meets : (v : AcceptedVersions) (bytes : List ℕ) (p : Pair) (ps : List Pair) → IsLink v bytes p → has_superblock ps ≡ true → has_superblock (p ∷ ps) ≡ true
link_meets v bytes p ps (inl none, hard) e = ap (λ z. superblock_first_or_empty z (is_hard_tail p.content.tail && has_superblock ps)) none ∙ and_from (is_hard_tail p.content.tail) (has_superblock ps) hard e
link_meets v bytes p ps (inr alone, hard) e = meets_starting p ps (starts_so v bytes p.content.slots (alone_start v bytes p alone))

before_link : (v : AcceptedVersions) (bytes : List ℕ) (p : Pair) (ps : List Pair) → IsLink v bytes p → has_superblock ps ≡ true → count_before_root (p ∷ ps) ≡ suc (count_before_root ps)
before_link v bytes p ps h e = ap (λ b. cond b (1 + count_before_root ps) 0) (and_from (has_superblock ps) (Thread.chain_may_continue p) e (link_leads v bytes p h)) ∙ (let n = count_before_root ps in omega arith)

linked_meets : (v : AcceptedVersions) (bytes : List ℕ) (k : ℕ) (ps : List Pair) → Linked v bytes k ps → has_superblock (drop k ps) ≡ true → has_superblock ps ≡ true
linked_meets v bytes zero ps h e = e
linked_meets v bytes (suc k) [] h e = absurd h
linked_meets v bytes (suc k) (p ∷ ps) h e = link_meets v bytes p ps h.0 (linked_meets v bytes k ps h.1 e)

linked_before : (v : AcceptedVersions) (bytes : List ℕ) (k : ℕ) (ps : List Pair) → Linked v bytes k ps → has_superblock (drop k ps) ≡ true → count_before_root ps ≡ k + count_before_root (drop k ps)
linked_before v bytes zero ps h e = omega arith
linked_before v bytes (suc k) [] h e = absurd h
linked_before v bytes (suc k) (p ∷ ps) h e =
    let one = before_link v bytes p ps h.0 (linked_meets v bytes k ps h.1 e) in
    let more = linked_before v bytes k ps h.1 e in
    omega arith

linked_more : (v : AcceptedVersions) (bytes : List ℕ) (k : ℕ) (ps : List Pair) (p : Pair) → Linked v bytes k ps → slice_get ps k ≡ Some p → IsLink v bytes p → Linked v bytes (suc k) ps
linked_more v bytes k [] p h e link = absurd (cc)
linked_more v bytes zero (x ∷ ps) p h e link = (subst (IsLink v bytes) (sym (same_Some x p e)) link, tt)
linked_more v bytes (suc k) (x ∷ ps) p h e link = (h.0, linked_more v bytes k ps p h.1 e link)

led_from : (v : AcceptedVersions) (bytes : List ℕ) (k : ℕ) (ps : List Pair) (p : Pair) → Linked v bytes k ps → slice_get ps k ≡ Some p → FirstSlotIsSuperblock v bytes p.content.slots → Led v bytes k ps
led_from v bytes k [] p h e start = absurd (cc)
led_from v bytes zero (x ∷ ps) p h e start = subst (λ (z : Pair). FirstSlotIsSuperblock v bytes z.content.slots) (sym (same_Some x p e)) start
led_from v bytes (suc k) (x ∷ ps) p h e start = (h.0, led_from v bytes k ps p h.1 e start)

led_linked : (v : AcceptedVersions) (bytes : List ℕ) (k : ℕ) (ps : List Pair) → Led v bytes k ps → Linked v bytes k ps
led_linked v bytes k [] l = absurd l
led_linked v bytes zero (p ∷ ps) l = tt
led_linked v bytes (suc k) (p ∷ ps) l = (l.0, led_linked v bytes k ps l.1)

led_start : (v : AcceptedVersions) (bytes : List ℕ) (k : ℕ) (ps : List Pair) (p : Pair) → Led v bytes k ps → slice_get ps k ≡ Some p → FirstSlotIsSuperblock v bytes p.content.slots
led_start v bytes k [] p l e = absurd l
led_start v bytes zero (x ∷ ps) p l e = subst (λ (z : Pair). FirstSlotIsSuperblock v bytes z.content.slots) (same_Some x p e) l
led_start v bytes (suc k) (x ∷ ps) p l e = led_start v bytes k ps p l.1 e

dropped : (ps : List Pair) (k : ℕ) (p : Pair) → slice_get ps k ≡ Some p → drop k ps ≡ p ∷ drop (suc k) ps
dropped [] k p e = absurd (cc)
dropped (x ∷ ps) zero p e = ap (λ (z : Pair). z ∷ ps) (same_Some x p e)
dropped (x ∷ ps) (suc k) p e = dropped ps k p e

led_meets : (v : AcceptedVersions) (bytes : List ℕ) (k : ℕ) (ps : List Pair) → Led v bytes k ps → has_superblock (drop k ps) ≡ true
led_meets v bytes k [] l = absurd l
led_meets v bytes zero (p ∷ ps) l = meets_starting p ps (starts_so v bytes p.content.slots l)
led_meets v bytes (suc k) (p ∷ ps) l = led_meets v bytes k ps l.1

-- ---- from one superblock on, by pairs without slots

-- if the chain doesn't continue behind the pair at an index, the root begins at the last superblock
pub record IsWalked (v : AcceptedVersions) (bytes : List ℕ) (ps : List Pair) (root index : ℕ) : Type 0 where
  pub led : Led v bytes root ps
  pub linked : Linked v bytes index ps
  pub below : root ≤ index
  pub bare : (p : Pair) → slice_get ps index ≡ Some p → (p.content.slots ≡ []) ⊎ FirstSlotIsSuperblock v bytes p.content.slots
  pub ends : (p : Pair) → slice_get ps index ≡ Some p → (has_superblock (drop (suc index) ps) && Thread.chain_may_continue p) ≡ false → count_before_root ps ≡ root

walked_at : (v : AcceptedVersions) (bytes : List ℕ) (k : ℕ) (ps : List Pair) → Led v bytes k ps → IsWalked v bytes ps k k
walked_at v bytes k ps l = record {
  led = l;
  linked = led_linked v bytes k ps l;
  below = omega arith;
  bare = λ p e. inr (led_start v bytes k ps p l e);
  ends = λ p e halts.
      let none = ap count_before_root (dropped ps k p e) ∙ ap (λ b. cond b (1 + count_before_root (drop (suc k) ps)) 0) halts in
      let all = linked_before v bytes k ps (led_linked v bytes k ps l) (led_meets v bytes k ps l) in
      omega arith;
}

few_le : (n : ℕ) → (n == 0 || n == 1) ≡ true → n ≤ 1
few_le n f = go (n == 0) refl (n == 1) refl f
  where
    go : (a : Bool) → (n == 0) ≡ a → (b : Bool) → (n == 1) ≡ b → (a || b) ≡ true → n ≤ 1
    go true e b g h = let z = eqb-true n 0 e in omega arith
    go false e true g h = let z = eqb-true n 1 g in omega arith
    go false e false g h = absurd (cc)

bare_from : (v : AcceptedVersions) (bytes : List ℕ) (p : Pair) → (p.content.slots ≡ []) ⊎ FirstSlotIsSuperblock v bytes p.content.slots → (length p.content.slots == 0 || length p.content.slots == 1) ≡ true → IsEmptyOrOnlySuperblock v bytes p
bare_from v bytes p (inl none) few = inl none
bare_from v bytes p (inr start) few = go p.content.slots refl start (few_le (length p.content.slots) few)
  where
    go : (slots : List Slot) → p.content.slots ≡ slots → FirstSlotIsSuperblock v bytes slots → length p.content.slots ≤ 1 → IsEmptyOrOnlySuperblock v bytes p
    go [] is k f = absurd k
    go (s ∷ []) is k f = inr (record { slot = s; slots = is; superblock = k.0; struct = k.1 })
    go (s ∷ t ∷ slots) is k f = absurd (let l = ap length is in omega arith)

many_slots : (slots : List Slot) → (length slots == 0 || length slots == 1) ≡ false → has_no_entry slots ≡ false
many_slots [] f = absurd (let clash : true ≡ false = f in cc)
many_slots (s ∷ []) f = absurd (let clash : true ≡ false = f in cc)
many_slots (s ∷ t ∷ slots) f = refl

-- the chain stops at a pair that doesn't lead on
stops : (p : Pair) → ((length p.content.slots == 0 || length p.content.slots == 1) && is_hard_tail p.content.tail) ≡ false → Thread.chain_may_continue p ≡ false
stops p e = go (length p.content.slots == 0 || length p.content.slots == 1) refl e
  where
    go : (b : Bool) → (length p.content.slots == 0 || length p.content.slots == 1) ≡ b → (b && is_hard_tail p.content.tail) ≡ false → Thread.chain_may_continue p ≡ false
    go false f k = ap (λ b. b && is_hard_tail p.content.tail) (many_slots p.content.slots f)
    go true f k = and_right (has_no_entry p.content.slots) (is_hard_tail p.content.tail) k

meets_slots : (slots : List Slot) (later : Bool) → (slots ≡ [] → ⊥) → superblock_first_or_empty slots later ≡ begins_with_superblock slots
meets_slots [] later some = absurd (some refl)
meets_slots (s ∷ slots) later some = refl

-- ---- the pairs come apart so

record IsSplit (v : AcceptedVersions) (bytes : List ℕ) (k : ℕ) (ps : List Pair) : Type 0 where
  chain : List Pair
  p : Pair
  rest : List Pair
  parts : ps ≡ chain ++ p ∷ rest
  chain_is : length chain ≡ k
  bare : Each (IsEmptyOrOnlySuperblock v bytes) chain
  start : FirstSlotIsSuperblock v bytes p.content.slots

split : (v : AcceptedVersions) (bytes : List ℕ) (k : ℕ) (ps : List Pair) → Led v bytes k ps → IsSplit v bytes k ps
split v bytes k [] l = absurd l
split v bytes zero (p ∷ ps) l = record { chain = []; p = p; rest = ps; parts = refl; chain_is = refl; bare = tt; start = l }
split v bytes (suc k) (p ∷ ps) l =
    let s = split v bytes k ps l.1 in
    record { chain = p ∷ s.chain; p = s.p; rest = s.rest; parts = ap (λ (qs : List Pair). p ∷ qs) s.parts; chain_is = ap suc s.chain_is; bare = (l.0.0, s.bare); start = s.start }

-- ---- the first slot

-- the superblock's struct in the first slot of all
abbrev pub IsFirstStruct : List Pair → List ℕ → Type 0
IsFirstStruct ps bytes = (s : Slot) × (HasFirstSlot ps s × (s.struct ≡ Inline bytes))

some_first : (slots : List Slot) → (slots ≡ [] → ⊥) → (s : Slot) × (slice_get slots 0 ≡ Some s)
some_first [] some = absurd (some refl)
some_first (s ∷ slots) some = (s, refl)

starting_some : (slots : List Slot) → begins_with_superblock slots ≡ true → slots ≡ [] → ⊥
starting_some [] h e = cc
starting_some (s ∷ slots) h e = cc

starting_so : (v : AcceptedVersions) (bytes : List ℕ) (slots : List Slot) (s : Slot) → slice_get slots 0 ≡ Some s → begins_with_superblock slots ≡ true → RepeatsSuperblockStruct v bytes s → FirstSlotIsSuperblock v bytes slots
starting_so v bytes [] s e starts h = absurd (cc)
starting_so v bytes (x ∷ slots) s e starts h = (starts, subst (RepeatsSuperblockStruct v bytes) (sym (same_Some x s e)) h)

-- ---- headers

-- one pair in front of another
pub record IsStep (hs : List PairHeader) (index : ℕ) (h next : PairHeader) : Type 0 where
  pub k : ℕ
  pub is : index ≡ suc k
  pub here : slice_get hs k ≡ Some h
  pub there : slice_get hs (suc k) ≡ Some next

pub step_at : (hs : List PairHeader) (index : ℕ) (h next : PairHeader) → 1 ≤ index → index < length hs → h ≡ slice_index_or hs (index - 1) h → next ≡ slice_index_or hs index next → IsStep hs index h next
step_at hs index h next low high e f =
    let is : index ≡ suc (index - 1) = omega arith in
    record {
      k = index - 1;
      is = is;
      here = slice_get_read hs (length hs) (index - 1) h refl (omega arith) e;
      there = subst (λ i. slice_get hs i ≡ Some next) is (slice_get_read hs (length hs) index next refl high f);
    }

-- the same for another geometry, and for equal blocks and bytes
pub same_block : (was now : Geometry) (blocks then : Blocks) (bytes read : List ℕ) (h : PairHeader) (o : Option Bool) → now ≡ was → then ≡ blocks → read ≡ bytes
    → repeats_superblock now.profile.versions read (block_bytes then h.active) ≡ o → repeats_superblock was.profile.versions bytes (block_bytes blocks h.active) ≡ o
same_block was now blocks then bytes read h o g b r f =
    ap₂ (λ (x : Blocks) (y : List ℕ). repeats_superblock was.profile.versions y (block_bytes x h.active)) (sym b) (sym r)
    ∙ ap (λ (x : Geometry). repeats_superblock x.profile.versions read (block_bytes then h.active)) (sym g) ∙ f

-- the first one of a pair that has a slot, with pairs of the chain in front of it
record IsFilled (disk : Disk) (hs : List PairHeader) (k : ℕ) (bytes : List ℕ) : Type 0 where
  header : PairHeader
  here : slice_get hs k ≡ Some header
  some : (pair_of disk header).content.slots ≡ [] → ⊥
  linked : Linked disk.profile.versions bytes k (header_pairs disk hs)
  rest : List Pair
  from : pairs_from_nonempty (header_pairs disk hs) ≡ pair_of disk header ∷ rest

no_slots : (slots : List Slot) → length slots ≡ 0 → slots ≡ []
no_slots [] e = refl
no_slots (s ∷ slots) e = absurd (omega arith)

filled_slots : (slots : List Slot) → (slots ≡ [] → ⊥) → has_slots slots ≡ true
filled_slots [] some = absurd (some refl)
filled_slots (s ∷ slots) some = refl

filled : (disk : Disk) (history : List CallEvent) (bytes : List ℕ) (hs : List PairHeader) (k : ℕ) → AreHeaders disk history hs → first_filled hs ≡ Some k → IsFilled disk hs k bytes
filled disk history bytes [] k each e = absurd (cc)
filled disk history bytes (x ∷ hs) k each e =
    go (x.slot_count == 0) refl (is_hard_tail (option_map tail_view x.tail)) refl (first_filled hs) refl e (λ j f. filled disk history bytes hs j each.1 f)
  where
    seen : IsSeen disk x
    seen = seen_from disk history x each.0

    go : (a : Bool) → (x.slot_count == 0) ≡ a → (b : Bool) → is_hard_tail (option_map tail_view x.tail) ≡ b → (o : Option ℕ) → first_filled hs ≡ o
        → cond a (cond b (option_map (λ n. suc n) o) None) (Some 0) ≡ Some k → ((j : ℕ) → first_filled hs ≡ Some j → IsFilled disk hs j bytes) → IsFilled disk (x ∷ hs) k bytes
    go false n b hard o f is next = subst (λ i. IsFilled disk (x ∷ hs) i bytes) (same_Some 0 k is) (record {
      header = x;
      here = refl;
      some = some;
      linked = tt;
      rest = header_pairs disk hs;
      from = ap (λ t. cond t (pair_of disk x ∷ header_pairs disk hs) (pairs_from_nonempty (header_pairs disk hs))) (filled_slots (pair_of disk x).content.slots some);
    })
      where
        some : (pair_of disk x).content.slots ≡ [] → ⊥
        some none = eqb-false x.slot_count 0 n (seen.count ∙ ap length none)
    go true n false hard o f is next = absurd (cc)
    go true n true hard None f is next = absurd (cc)
    go true n true hard (Some j) f is next = subst (λ i. IsFilled disk (x ∷ hs) i bytes) (same_Some (suc j) k is) (record {
      header = (next j f).header;
      here = (next j f).here;
      some = (next j f).some;
      linked = ((inl empty, sym seen.hard ∙ hard), (next j f).linked);
      rest = (next j f).rest;
      from = ap (λ z. cond (has_slots z) (pair_of disk x ∷ header_pairs disk hs) (pairs_from_nonempty (header_pairs disk hs))) empty ∙ (next j f).from;
    })
      where
        empty : (pair_of disk x).content.slots ≡ []
        empty = no_slots (pair_of disk x).content.slots (sym seen.count ∙ eqb-true x.slot_count 0 n)

none_filled : (disk : Disk) (history : List CallEvent) (hs : List PairHeader) → AreHeaders disk history hs → first_filled hs ≡ None → has_superblock (header_pairs disk hs) ≡ false
none_filled disk history [] each e = refl
none_filled disk history (x ∷ hs) each e = go (x.slot_count == 0) refl (is_hard_tail (option_map tail_view x.tail)) refl (first_filled hs) refl e (λ f. none_filled disk history hs each.1 f)
  where
    seen : IsSeen disk x
    seen = seen_from disk history x each.0

    go : (a : Bool) → (x.slot_count == 0) ≡ a → (b : Bool) → is_hard_tail (option_map tail_view x.tail) ≡ b → (o : Option ℕ) → first_filled hs ≡ o
        → cond a (cond b (option_map (λ n. suc n) o) None) (Some 0) ≡ None → (first_filled hs ≡ None → has_superblock (header_pairs disk hs) ≡ false) → has_superblock (header_pairs disk (x ∷ hs)) ≡ false
    go false n b hard o f is next = absurd (cc)
    go true n true hard (Some j) f is next = absurd (cc)
    go true n true hard None f is next = empty ∙ ap (λ b. is_hard_tail (pair_of disk x).content.tail && b) (next f) ∙ and_right (is_hard_tail (pair_of disk x).content.tail) false refl
      where
        empty : has_superblock (header_pairs disk (x ∷ hs)) ≡ (is_hard_tail (pair_of disk x).content.tail && has_superblock (header_pairs disk hs))
        empty = ap (λ z. superblock_first_or_empty z (is_hard_tail (pair_of disk x).content.tail && has_superblock (header_pairs disk hs))) (no_slots (pair_of disk x).content.slots (sym seen.count ∙ eqb-true x.slot_count 0 n))
    go true n false hard o f is next = empty ∙ ap (λ b. b && has_superblock (header_pairs disk hs)) (sym seen.hard ∙ hard)
      where
        empty : has_superblock (header_pairs disk (x ∷ hs)) ≡ (is_hard_tail (pair_of disk x).content.tail && has_superblock (header_pairs disk hs))
        empty = ap (λ z. superblock_first_or_empty z (is_hard_tail (pair_of disk x).content.tail && has_superblock (header_pairs disk hs))) (no_slots (pair_of disk x).content.slots (sym seen.count ∙ eqb-true x.slot_count 0 n))

with_true : (b : Bool) → (b && true) ≡ b
with_true true = refl
with_true false = refl

turned : (a b : Bool) → (a && b) ≡ (b && a)
turned true true = refl
turned true false = refl
turned false true = refl
turned false false = refl

module _ (disk : Disk) (history : List CallEvent) (hs : List PairHeader) (has : AreThreadHeaders disk history hs) where
  abbrev ps : List Pair
  ps = header_pairs disk hs

  abbrev v : AcceptedVersions
  v = disk.profile.versions

  -- ---- one step

  leads_seen : (h : PairHeader) → IsSeen disk h → may_superblock_chain_continue h ≡ ((length (pair_of disk h).content.slots == 0 || length (pair_of disk h).content.slots == 1) && is_hard_tail (pair_of disk h).content.tail)
  leads_seen h seen = ap₂ (λ n b. (n == 0 || n == 1) && b) seen.count seen.hard

  -- the chain stops at a pair that doesn't lead on
  pub halts : (bytes : List ℕ) (root index : ℕ) (h : PairHeader) → slice_get hs index ≡ Some h → IsWalked v bytes ps root index → may_superblock_chain_continue h ≡ false → count_before_root ps ≡ root
  halts bytes root index h here w e = w.ends (pair_of disk h) (pair_at disk hs index h here)
      (and_right (has_superblock (drop (suc index) ps)) (Thread.chain_may_continue (pair_of disk h)) (stops (pair_of disk h) (sym (leads_seen h (header_at disk history hs index h has.each here)) ∙ e)))

  module _ (bytes : List ℕ) (root index : ℕ) (h next : PairHeader) (s : IsStep hs index h next) (walked : IsWalked v bytes ps root (index - 1)) where
    abbrev p : Pair
    p = pair_of disk h

    abbrev q : Pair
    q = pair_of disk next

    w : IsWalked v bytes ps root s.k
    w = subst (IsWalked v bytes ps root) (let is = s.is in omega arith) walked

    p_at : slice_get ps s.k ≡ Some p
    p_at = pair_at disk hs s.k h s.here

    q_at : slice_get ps (suc s.k) ≡ Some q
    q_at = pair_at disk hs (suc s.k) next s.there

    seen : IsSeen disk h
    seen = header_at disk history hs s.k h has.each s.here

    abbrev seen_next : IsSeen disk next
    seen_next = header_at disk history hs (suc s.k) next has.each s.there

    repeats : repeats_superblock v bytes (disk_block disk next.active) ≡ first_repeats_superblock v bytes seen_next.held.slots
    repeats = ap (option_and_then (λ c. first_repeats_superblock v bytes c.slots)) seen_next.log

    pub within : next.active < block_count disk
    within = seen_next.active

    leads_is : may_superblock_chain_continue h ≡ ((length p.content.slots == 0 || length p.content.slots == 1) && is_hard_tail p.content.tail)
    leads_is = leads_seen h seen

    module _ (leads : may_superblock_chain_continue h ≡ true) where
      link : IsLink v bytes p
      link =
          let both = and_parts (length p.content.slots == 0 || length p.content.slots == 1) (is_hard_tail p.content.tail) (sym leads_is ∙ leads) in
          (bare_from v bytes p (w.bare p p_at) both.0, both.1)

      linked : Linked v bytes (suc s.k) ps
      linked = linked_more v bytes s.k ps p w.linked p_at link

      goes : (has_superblock (drop (suc s.k) ps) && Thread.chain_may_continue p) ≡ has_superblock (drop (suc s.k) ps)
      goes = ap (λ b. has_superblock (drop (suc s.k) ps) && b) (link_leads v bytes p link) ∙ with_true (has_superblock (drop (suc s.k) ps))

      meets : has_superblock (drop (suc s.k) ps) ≡ superblock_first_or_empty q.content.slots (is_hard_tail q.content.tail && has_superblock (drop (suc (suc s.k)) ps))
      meets = ap has_superblock (dropped ps (suc s.k) q q_at)

      -- no slot
      pub passes : next.slot_count ≡ 0 → IsWalked v bytes ps root (index + 1 - 1)
      passes none = subst (IsWalked v bytes ps root) (let is = s.is in omega arith) (record {
        led = w.led;
        linked = linked;
        below = (let b = w.below in omega arith);
        bare = λ x e. inl (subst (λ (z : Pair). z.content.slots ≡ []) (same_Some q x (sym q_at ∙ e)) empty);
        ends = λ x e k. w.ends p p_at (goes ∙ meets ∙ ap (λ z. superblock_first_or_empty z (is_hard_tail q.content.tail && has_superblock (drop (suc (suc s.k)) ps))) empty ∙ turned (is_hard_tail q.content.tail) (has_superblock (drop (suc (suc s.k)) ps))
            ∙ ap (λ z. has_superblock (drop (suc (suc s.k)) ps) && (has_no_entry z && is_hard_tail q.content.tail)) (sym empty)
            ∙ ap (λ (z : Pair). has_superblock (drop (suc (suc s.k)) ps) && Thread.chain_may_continue z) (same_Some q x (sym q_at ∙ e)) ∙ k);
      })
        where
          empty : q.content.slots ≡ []
          empty = no_slots q.content.slots (sym seen_next.count ∙ none)

      some : (next.slot_count ≡ 0 → ⊥) → q.content.slots ≡ [] → ⊥
      some filled e = filled (seen_next.count ∙ ap length e)

      -- the superblock again
      pub more : repeats_superblock v bytes (disk_block disk next.active) ≡ Some true → IsWalked v bytes ps index (index + 1 - 1)
      more is = subst (IsWalked v bytes ps index) (omega arith) (subst (λ n. IsWalked v bytes ps n n) (sym s.is) (walked_at v bytes (suc s.k) ps
          (led_from v bytes (suc s.k) ps q linked q_at (repeats_true v bytes seen_next.held.slots q.content.slots seen_next.slots (sym repeats ∙ is)))))

      -- other slots
      pub ends : (next.slot_count ≡ 0 → ⊥) → repeats_superblock v bytes (disk_block disk next.active) ≡ Some false → count_before_root ps ≡ root
      ends filled is = w.ends p p_at (goes ∙ meets ∙ meets_slots q.content.slots (is_hard_tail q.content.tail && has_superblock (drop (suc (suc s.k)) ps)) (some filled)
          ∙ repeats_false v bytes seen_next.held.slots q.content.slots seen_next.slots (sym repeats ∙ is))

      -- a superblock with another struct
      pub differs : IsFirstStruct ps bytes → repeats_superblock v bytes (disk_block disk next.active) ≡ None → PairsBreak disk ps (violation.OtherSuperblock next.blocks)
      differs first is =
          let other = repeats_none v bytes seen_next.held.slots q.content.slots seen_next.slots (sym repeats ∙ is) in
          let own = some_first q.content.slots (starting_some q.content.slots other.0) in
          let before = linked_before v bytes (suc s.k) ps linked (meets ∙ meets_slots q.content.slots (is_hard_tail q.content.tail && has_superblock (drop (suc (suc s.k)) ps)) (starting_some q.content.slots other.0) ∙ other.0) in
          record {
            index = suc s.k;
            pair = q;
            there = q_at;
            at_is = refl;
            in_chain = omega (arith, before);
            slot = own.0;
            slot_is = own.1;
            first = first.0;
            first_is = first.1.0;
            bytes = bytes;
            inline = first.1.1;
            differs = λ h. other.1 (starting_so v bytes q.content.slots own.0 own.1 other.0 h);
          }

  -- ---- the first header of a pair that has a slot, as it is read

  pub no_superblock : first_filled hs ≡ None → PairsBreak disk ps violation.NoSuperblock
  no_superblock none = go (begins_with_superblock (first_pair_slots (pairs_from_root ps))) refl
    where
      go : (b : Bool) → begins_with_superblock (first_pair_slots (pairs_from_root ps)) ≡ b → b ≡ false
      go true starts = absurd (let e = sym (meets_from ps starts) ∙ none_filled disk history hs has.each none in cc)
      go false starts = refl

  module _ (k : ℕ) (found : first_filled hs ≡ Some k) where
    pub within_first : k < length hs
    within_first = let f = filled disk history [] hs k has.each found in slice_get_within hs k f.header f.here

    module _ (h : PairHeader) (is : h ≡ slice_index_or hs k h) where
      here : slice_get hs k ≡ Some h
      here = slice_get_read hs (length hs) k h refl within_first is

      first : Pair
      first = pair_of disk h

      first_pair : slice_get ps k ≡ Some (pair_of disk h)
      first_pair = pair_at disk hs k h here

      abbrev first_seen : IsSeen disk h
      first_seen = header_at disk history hs k h has.each here

      pub active_within : h.active < block_count disk
      active_within = first_seen.active

      abbrev f : (bytes : List ℕ) → IsFilled disk hs k bytes
      f bytes = filled disk history bytes hs k has.each found

      same_header : (bytes : List ℕ) → (f bytes).header ≡ h
      same_header bytes = same_Some (f bytes).header h (sym (f bytes).here ∙ here)

      linked_first : (bytes : List ℕ) → Linked v bytes k ps
      linked_first bytes = (f bytes).linked

      from : pairs_from_nonempty ps ≡ pair_of disk h ∷ (f []).rest
      from = (f []).from ∙ ap (λ (x : PairHeader). pair_of disk x ∷ (f []).rest) (same_header [])

      some_slot : (pair_of disk h).content.slots ≡ [] → ⊥
      some_slot = subst (λ (x : PairHeader). (pair_of disk x).content.slots ≡ [] → ⊥) (same_header []) (f []).some

      held_first : current_block disk (first_address (pairs_from_nonempty ps)) ≡ Some (disk_block disk h.active)
      held_first = ap (λ (qs : List Pair). current_block disk (first_address qs)) from ∙ first_seen.holds

      -- the superblock that its block has
      abbrev pub HasFound : List ℕ → Type 0
      HasFound bytes = BlockHasSuperblock disk h.active bytes

      is_first : (bytes : List ℕ) → HasFound bytes → IsFirst v disk.block_size (block_count disk) bytes (pair_of disk h).content.slots
      is_first bytes s =
          first_found v disk.block_size (block_count disk) first_seen.held.slots (pair_of disk h).content.slots bytes first_seen.slots
          (sym (ap (option_and_then (λ c. first_slot_struct v disk.block_size (block_count disk) c.slots)) first_seen.log) ∙ s.struct)

      struct_read : (bytes : List ℕ) → HasFound bytes → IsSuperblockStruct disk bytes
      struct_read bytes s = struct_described disk bytes (is_first bytes s).describes

      pub found_length : (bytes : List ℕ) → HasFound bytes → length bytes ≡ 24
      found_length bytes s = (struct_read bytes s).len

      pub begun : (bytes : List ℕ) → HasFound bytes → IsWalked v bytes ps k (k + 1 - 1)
      begun bytes s = subst (λ n. IsWalked v bytes ps k n) (omega arith)
          (walked_at v bytes k ps (led_from v bytes k ps (pair_of disk h) (linked_first bytes) first_pair (first_begins disk bytes (pair_of disk h).content.slots (struct_read bytes s) (is_first bytes s).start)))

      -- ---- it has none

      at_first : first_nonempty_address ps ≡ address_of_array h.blocks
      at_first = ap first_address from

      -- the log begins with another entry
      pub other_entry : (HasFirstLogEntry (Some (disk_block disk h.active)) superblock_entry → ⊥) → PairsBreak disk ps (violation.FirstEntry h.blocks)
      other_entry not = (at_first, λ begins. not (subst (λ o. HasFirstLogEntry o superblock_entry) first_seen.holds begins))

      -- slot 0 is no superblock of the disk
      pub no_struct : superblock_in_log v disk.block_size (block_count disk) (disk_block disk h.active) ≡ None → PairsBreak disk ps (violation.Superblock h.blocks)
      no_struct none =
          let own = some_first (pair_of disk h).content.slots some_slot in (
            at_first,
            own.0,
            (
              ap (λ (qs : List Pair). slice_get (first_pair_slots qs) 0) from ∙ own.1,
              λ is_so.
                  let some = ap (option_and_then (λ c. first_slot_struct v disk.block_size (block_count disk) c.slots)) first_seen.log
                  ∙ first_is v disk.block_size (block_count disk) first_seen.held.slots (pair_of disk h).content.slots is_so.bytes first_seen.slots (first_of_disk disk (pair_of disk h).content.slots own.0 own.1 is_so) in
                  let clash : Some is_so.bytes ≡ None = sym some ∙ none in cc,
            ),
          )

      -- the violation that its block proves
      pub first_breaks : (broken : Violation) → BreaksFirstSuperblock disk h broken → PairsBreak disk ps broken
      first_breaks (violation.FirstEntry pair) (same, not) = subst (λ at. PairsBreak disk ps (violation.FirstEntry at)) (sym same) (other_entry not)
      first_breaks (violation.Superblock pair) (same, none) = subst (λ at. PairsBreak disk ps (violation.Superblock at)) (sym same) (no_struct none)
      first_breaks _ b = absurd b

      pub first_struct : (bytes : List ℕ) → HasFound bytes → IsFirstStruct ps bytes
      first_struct bytes s =
          let own = begins_struct bytes (pair_of disk h).content.slots (is_first bytes s).start in
          (own.0, (ap (λ (qs : List Pair). slice_get (first_pair_slots qs) 0) from ∙ own.1.0, own.1.1))

      -- ---- the head

      pub head_is : (bytes : List ℕ) (root index : ℕ) → HasFound bytes → IsWalked v bytes ps root index → count_before_root ps ≡ root → HasSuperblockChainLength disk ps root
      head_is bytes root index s w before =
          let apart = split v bytes root ps w.led in
          let d = is_first bytes s in
          record {
            chain = apart.chain;
            p = apart.p;
            rest = apart.rest;
            parts = apart.parts;
            chain_is = apart.chain_is;
            before = before;
            bytes = bytes;
            head = record {
              first = subst (λ (qs : List Pair). HasFirstLogEntry (current_block disk (first_address (pairs_from_nonempty qs))) superblock_entry) apart.parts
                  (subst (λ o. HasFirstLogEntry o superblock_entry) (sym held_first) s.begins);
              named = ap (λ (qs : List Pair). first_slot_name (pairs_from_nonempty qs)) (sym apart.parts) ∙ ap first_slot_name from ∙ d.named;
              struct = struct_read bytes s;
              bare = apart.bare;
              start = apart.start;
            };
          }

      -- behind the last pair there is none
      pub last_is : (bytes : List ℕ) (root index : ℕ) → HasFound bytes → IsWalked v bytes ps root index → suc index ≡ length hs → HasSuperblockChainLength disk ps root
      last_is bytes root index s w last = head_is bytes root index s w (go (slice_get ps index) refl)
        where
          none_behind : (qs : List Pair) → length qs ≤ suc index → drop (suc index) qs ≡ []
          none_behind qs low = drop_all qs (suc index) low
            where
              drop_all : (xs : List Pair) (n : ℕ) → length xs ≤ n → drop n xs ≡ []
              drop_all [] zero l = refl
              drop_all [] (suc n) l = refl
              drop_all (x ∷ xs) zero l = absurd (omega arith)
              drop_all (x ∷ xs) (suc n) l = drop_all xs n (omega arith)

          beyond : (qs : List Pair) (n : ℕ) → n < length qs → slice_get qs n ≡ None → ⊥
          beyond [] n l e = omega arith
          beyond (x ∷ qs) zero l e = cc
          beyond (x ∷ qs) (suc n) l e = beyond qs n (omega arith) e

          go : (o : Option Pair) → slice_get ps index ≡ o → count_before_root ps ≡ root
          go (Some p) e = w.ends p e (ap (λ (qs : List Pair). has_superblock qs && Thread.chain_may_continue p) (none_behind ps (let l = length-map hs (pair_of disk) in omega arith)))
          go None e = absurd (beyond ps index (let l = length-map hs (pair_of disk) in omega arith) e)
