-- From the pairs one by one to the writing profile.
use Rattle.std.proofs.Common.{ℕ, zero, suc, ◌≡◌, ◌≢◌, ◌<◌, ◌≤◌, ◌+◌, ◌-◌, ◌∙◌, ◌&&◌, ◌⊎◌, inl, inr, Bool, true, false, List, [], ◌∷◌, length, take, drop, refl, sym, ap, subst, lt-ltb, ltb→lt, T, arith}
use Rattle.std.specs.Prelude.{All, MatchOption, None, Option, nat_lt, map, slice_get, slice_index_or, Some}
use Rattle.lfs_lookup.proofs.Common.{get_or-drop, get_or-take, length-map, length-take, slice_get-get_or, slice_get_within, RawSlot, decoded_slot, decoded_slots, Disk, BreaksProfile, FitsInPair, Inline, PairContent, Slot, is_superblock, is_superblock_kind, address_of_array, Pair, is_hard_tail, count_before_root, IsWritableSlot, IsWritable, BeginsWithSuperblock, IsAccepted, IsFileOrDirectory, complete_length, complete_parts, empty_anchor, PairBreaksProfile, IsWritablePair, HasSuperblockStruct}
use Rattle.std.proofs.lemmas.List.{get_or_default, length-drop}
use Rattle.std.proofs.lemmas.Option.{get_or_from_slice_get}
use Rattle.lfs_device.specs.declared.geometry.Geometry.{Geometry}
use Rattle.lfs_model.specs.declared.limits.AcceptedVersions.{AcceptedVersions}
use Rattle.lfs_model.specs.declared.limits.Profile.{Profile}
use Rattle.lfs_model.specs.layers.ProfileBreaches.{IsBreachIfAny, IsSmallContent, EmptyPairAt, IsPairTooLarge}
use Rattle.lfs_model.specs.format.Slots.{Directory, File, SlotKind, Superblock}
use Rattle.lfs_model.specs.tree.Profile.{HasNoEmptyPairs}
use Rattle.lfs_model.specs.tree.View.{IsKindOfStruct}
use Rattle.lfs_model.specs.layers.Violations.{IsSlotAt}
use Rattle.lfs_model.specs.declared.breaches.ProfileBreach.{ProfileBreach}
use Rattle.lfs_model.specs.declared.breaches.ProfileBreach.TheVariants as breach
use Rattle.lfs_thread.specs.Beside.{HasGeometry}
use Rattle.lfs_lookup.specs.ProfileChecks.{EntryFitsHalfPair, IsPairBreachIfAny, follows_hard_tail_at}

abbrev flag_at : Bool → List Pair → ℕ → Bool
flag_at b xs zero = b
flag_at b xs (suc j) = is_hard_tail (slice_index_or xs j empty_anchor).content.tail

abbrev AreFilled : Bool → List Pair → Type 0
AreFilled b xs = (j : ℕ) → j < length xs → flag_at b xs j ≡ true → (slice_index_or xs j empty_anchor).content.slots ≢ []

flag_on : (b : Bool) (x : Pair) (xs : List Pair) (j : ℕ) → flag_at (is_hard_tail x.content.tail) xs j ≡ flag_at b (x ∷ xs) (suc j)
flag_on b x xs zero = refl
flag_on b x xs (suc j) = refl

have_from : (b : Bool) (xs : List Pair) → AreFilled b xs → HasNoEmptyPairs b xs
have_from b [] h = tt
have_from b (x ∷ xs) h = (λ e. h 0 (omega arith) e, have_from (is_hard_tail x.content.tail) xs (λ j l e. h (suc j) (omega (arith, l)) (sym (flag_on b x xs j) ∙ e)))

both : (a b : Bool) → a ≡ true → b ≡ true → (a && b) ≡ true
both a b e f = ap (λ x. x && b) e ∙ f

left : (a b : Bool) → (a && b) ≡ true → a ≡ true
left true b e = refl
left false b e = absurd (cc)

right : (a b : Bool) → (a && b) ≡ true → b ≡ true
right true b e = e
right false b e = absurd (cc)

-- ---- from the root on

abbrev AreFilledFrom : ℕ → List Pair → Type 0
AreFilledFrom root ps = (i : ℕ) → i < length ps → follows_hard_tail_at root ps i ≡ true → (slice_index_or ps i empty_anchor).content.slots ≢ []

filled_from : (root : ℕ) (ps : List Pair) → AreFilledFrom root ps → AreFilled false (drop root ps)
filled_from root ps h zero l e = absurd (cc)
filled_from root ps h (suc k) l e =
    let n = length-drop root ps in
    let behind : nat_lt root (root + suc k) ≡ true = lt-ltb root (root + suc k) (omega arith) in
    let place : root + k ≡ root + suc k - 1 = omega arith in
    let hard = ap (λ i. is_hard_tail (slice_index_or ps i empty_anchor).content.tail) (sym place) ∙ ap (λ (p : Pair). is_hard_tail p.content.tail) (sym (get_or-drop root ps k empty_anchor)) ∙ e in
    subst (λ (p : Pair). p.content.slots ≢ []) (sym (get_or-drop root ps (suc k) empty_anchor))
    (h (root + suc k) (omega (arith, n, l)) (both (nat_lt root (root + suc k)) (is_hard_tail (slice_index_or ps (root + suc k - 1) empty_anchor).content.tail) behind hard))

-- ---- the image

abbrev pub EachFits : Disk → ℕ → List Pair → ℕ → Type 0
EachFits disk root ps n = (i : ℕ) → i < n → IsWritablePair disk.profile disk.block_size disk.page (follows_hard_tail_at root ps i) (slice_index_or ps i empty_anchor).content

pub writable_from : (disk : Disk) (ps : List Pair) → EachFits disk (count_before_root ps) ps (length ps) → IsWritable disk ps
writable_from disk ps h = record {
  pairs = λ i d l. subst (λ (p : Pair). FitsInPair disk.block_size disk.page p.content) (get_or_default ps i empty_anchor d l) (h i l).pair;
  slots = λ i d l. subst (λ (p : Pair). All (IsWritableSlot disk.profile disk.block_size disk.page) p.content.slots) (get_or_default ps i empty_anchor d l) (h i l).slots;
  no_empty_pair = have_from false (drop (count_before_root ps) ps) (filled_from (count_before_root ps) ps (λ i l. (h i l).filled));
}

-- ---- superblocks have 24 bytes

below_or_not : (a b : ℕ) → (a < b) ⊎ (b ≤ a)
below_or_not a zero = inr (omega arith)
below_or_not zero (suc b) = inl (omega arith)
below_or_not (suc a) (suc b) = go (below_or_not a b)
  where
    go : (a < b) ⊎ (b ≤ a) → (suc a < suc b) ⊎ (suc b ≤ suc a)
    go (inl l) = inl (omega (arith, l))
    go (inr l) = inr (omega (arith, l))

shaped_entry : (s : Slot) → IsFileOrDirectory s → HasSuperblockStruct s
shaped_entry s e k = go s.kind k e.struct
  where
    go : (kind : SlotKind) → is_superblock_kind kind ≡ true → IsKindOfStruct kind s.struct → (bytes : List ℕ) × ((s.struct ≡ Inline bytes) × (length bytes ≡ 24))
    go File k e = absurd (cc)
    go Directory k e = absurd (cc)
    go Superblock k e = absurd e

shaped_headed : (versions : AcceptedVersions) (bytes : List ℕ) (slots : List Slot) → length bytes ≡ 24 → BeginsWithSuperblock versions bytes slots → All HasSuperblockStruct slots
shaped_headed versions bytes [] n h i d l = absurd (omega (arith, l))
shaped_headed versions bytes (s ∷ slots) n h zero d l = λ k. (h.1.0, (h.1.1.0, h.1.1.1.len ∙ n))
shaped_headed versions bytes (s ∷ slots) n h (suc i) d l = shaped_entry (slice_index_or slots i d) (h.2 i d (omega (arith, l)))

pub shaped_all : (disk : Disk) (ps : List Pair) (i : ℕ) → IsAccepted disk ps → i < length ps → All HasSuperblockStruct (slice_index_or ps i empty_anchor).content.slots
shaped_all disk ps i ok l = go (below_or_not i (count_before_root ps + 1))
  where
    go : (i < count_before_root ps + 1) ⊎ (count_before_root ps + 1 ≤ i) → All HasSuperblockStruct (slice_index_or ps i empty_anchor).content.slots
    go (inl a) =
        let n = length-take (count_before_root ps + 1) ps in
        let s = ok.superblock in
        subst (λ (p : Pair). All HasSuperblockStruct p.content.slots) (get_or-take (count_before_root ps + 1) ps i empty_anchor a)
        (shaped_headed disk.profile.versions s.0 (slice_index_or (take (count_before_root ps + 1) ps) i empty_anchor).content.slots s.1.0.len (s.1.1 i empty_anchor (omega (arith, n, l, a))))
    go (inr a) =
        let n = length-drop (count_before_root ps + 1) ps in
        let k = i - (count_before_root ps + 1) in
        let at : count_before_root ps + 1 + k ≡ i = omega (arith, a) in
        subst (λ (p : Pair). All HasSuperblockStruct p.content.slots) (get_or-drop (count_before_root ps + 1) ps k empty_anchor ∙ ap (λ j. slice_index_or ps j empty_anchor) at)
        (λ j d m. shaped_entry (slice_index_or (slice_index_or (drop (count_before_root ps + 1) ps) k empty_anchor).content.slots j d) (ok.slots k empty_anchor (omega (arith, n, l, a)) j d m))

-- ---- the slots of a log, one by one

pub complete_there : {X : Type 0} (f : X → RawSlot) (xs : List X) (all : List Slot) (i : ℕ) (x : X) (d : Slot) → decoded_slots (map f xs) ≡ Some all → i < length xs → x ≡ slice_index_or xs i x →
    decoded_slot (f x) ≡ Some (slice_index_or all i d)
complete_there f [] all i x d e l at = absurd (omega (arith, l))
complete_there f (y ∷ ys) all zero x d e l at =
    let p = complete_parts (f y) (map f ys) all e in
    ap (λ z. decoded_slot (f z)) at ∙ p.is_first ∙ ap (λ (us : List Slot). Some (slice_index_or us 0 d)) (sym p.all_are)
complete_there f (y ∷ ys) all (suc i) x d e l at =
    let p = complete_parts (f y) (map f ys) all e in
    complete_there f ys p.others i x d p.are_others (omega (arith, l)) at ∙ ap (λ (us : List Slot). Some (slice_index_or us (suc i) d)) (sym p.all_are)

pub complete_count : {X : Type 0} (f : X → RawSlot) (xs : List X) (all : List Slot) → decoded_slots (map f xs) ≡ Some all → length all ≡ length xs
complete_count f xs all e = complete_length (map f xs) all e ∙ length-map xs f

abbrev pub no_slot : Slot
no_slot = record { kind = File; name = []; struct = Inline []; attributes = [] }

pub fits_next : (profile : Profile) (block_size page : ℕ) (all : List Slot) (n : ℕ) → n < length all → ((k : ℕ) (d : Slot) → k < n → IsWritableSlot profile block_size page (slice_index_or all k d)) →
    IsWritableSlot profile block_size page (slice_index_or all n no_slot) → (k : ℕ) (d : Slot) → k < n + 1 → IsWritableSlot profile block_size page (slice_index_or all k d)
fits_next profile block_size page all n m h f k d l = go (below_or_not k n)
  where
    go : (k < n) ⊎ (n ≤ k) → IsWritableSlot profile block_size page (slice_index_or all k d)
    go (inl a) = h k d a
    go (inr a) =
        let same : n ≡ k = omega (arith, a, l) in
        subst (IsWritableSlot profile block_size page) (get_or_default all n no_slot d m ∙ ap (λ i. slice_index_or all i d) same) f

fits_more : (disk : Disk) (root : ℕ) (ps : List Pair) (n : ℕ) → EachFits disk root ps n → IsWritablePair disk.profile disk.block_size disk.page (follows_hard_tail_at root ps n) (slice_index_or ps n empty_anchor).content → EachFits disk root ps (n + 1)
fits_more disk root ps n h f i l = go (below_or_not i n)
  where
    go : (i < n) ⊎ (n ≤ i) → IsWritablePair disk.profile disk.block_size disk.page (follows_hard_tail_at root ps i) (slice_index_or ps i empty_anchor).content
    go (inl a) = h i a
    go (inr a) =
        let same : n ≡ i = omega (arith, a, l) in
        subst (λ k. IsWritablePair disk.profile disk.block_size disk.page (follows_hard_tail_at root ps k) (slice_index_or ps k empty_anchor).content) same f

-- ---- which of two breaches is reported

at_some : (N : Type 0) (S : ProfileBreach → Type 0) (o : Option ProfileBreach) (b : ProfileBreach) → o ≡ Some b → MatchOption o N S → S b
at_some N S o b e h = subst (λ x. MatchOption x N S) e h

-- both are none, or it is one of them
pub told : (M N P : Type 0) (S : ProfileBreach → Type 0) (first next r : Option ProfileBreach) → (r ≡ None → (first ≡ None) × (next ≡ None)) → (r ≡ first) ⊎ (r ≡ next)
    → MatchOption first M S → MatchOption next N S → (M → N → P) → MatchOption r P S
told M N P S first next None none either f g whole = let e = none refl in whole (subst (λ x. MatchOption x M S) e.0 f) (subst (λ x. MatchOption x N S) e.1 g)
told M N P S first next (Some b) none (inl e) f g whole = at_some M S first b (sym e) f
told M N P S first next (Some b) none (inr e) f g whole = at_some N S next b (sym e) g

pub weaker : (M N : Type 0) (S T : ProfileBreach → Type 0) (o : Option ProfileBreach) → MatchOption o M S → (M → N) → ((b : ProfileBreach) → S b → T b) → MatchOption o N T
weaker M N S T None h f g = f h
weaker M N S T (Some b) h f g = g b h

pub stated : (disk : Disk) (ps : List Pair) (o : Option ProfileBreach) → MatchOption o (IsWritable disk ps) (BreaksProfile disk ps) → IsBreachIfAny disk ps o
stated disk ps None h = h
stated disk ps (Some b) h = h

pub broken : (N : Type 0) (disk : Disk) (ps : List Pair) (o : Option ProfileBreach) (b : ProfileBreach) → o ≡ Some b → MatchOption o N (BreaksProfile disk ps) → IsBreachIfAny disk ps o
broken N disk ps o b e h = subst (IsBreachIfAny disk ps) (sym e) (at_some N (BreaksProfile disk ps) o b e h)

-- ---- what a pair breaks the image breaks

charged : (profile : Profile) (block_size page : ℕ) (c : PairContent) (id : ℕ) (s : Slot) → slice_get c.slots id ≡ Some s → is_superblock s ≡ false → ¬ EntryFitsHalfPair profile block_size page s → ¬ IsSmallContent profile block_size page c
charged profile block_size page c id s there entry large small =
    large (subst (λ (t : Slot). is_superblock t ≡ false → EntryFitsHalfPair profile block_size page t) (get_or_from_slice_get c.slots id s s there) (small.entries id s (slice_get_within c.slots id s there)) entry)

empty_pair : (root : ℕ) (ps : List Pair) (i : ℕ) (at : ℕ × ℕ) → root ≡ count_before_root ps → i < length ps → at ≡ (slice_index_or ps i empty_anchor).at → follows_hard_tail_at root ps i ≡ true
    → (slice_index_or ps i empty_anchor).content.slots ≡ [] → EmptyPairAt ps at
empty_pair root ps i at is l same follows empty =
    let a = left (nat_lt root i) (is_hard_tail (slice_index_or ps (i - 1) empty_anchor).content.tail) follows in
    let less : root < i = ltb→lt root i (subst T (sym a) tt) in
    let next : i - 1 + 1 ≡ i = omega (arith, less) in
    record {
      index = i - 1;
      before = slice_index_or ps (i - 1) empty_anchor;
      pair = slice_index_or ps i empty_anchor;
      first = slice_get-get_or ps (i - 1) empty_anchor (omega (arith, l));
      next = ap (slice_get ps) next ∙ slice_get-get_or ps i empty_anchor l;
      root = omega (arith, is, less);
      hard = right (nat_lt root i) (is_hard_tail (slice_index_or ps (i - 1) empty_anchor).content.tail) follows;
      at_is = sym same;
      empty = empty;
    }

slot_of_pair : (ps : List Pair) (i : ℕ) (at : ℕ × ℕ) (slot id : ℕ) (s : Slot) → i < length ps → at ≡ (slice_index_or ps i empty_anchor).at → slot ≡ id → slice_get (slice_index_or ps i empty_anchor).content.slots id ≡ Some s
    → IsSlotAt ps at slot s
slot_of_pair ps i at slot id s l same is there = record {
  index = i;
  pair = slice_index_or ps i empty_anchor;
  there = slice_get-get_or ps i empty_anchor l;
  at_is = sym same;
  slot = ap (slice_get (slice_index_or ps i empty_anchor).content.slots) is ∙ there;
}

large_pair : (disk : Disk) (ps : List Pair) (i : ℕ) (at : ℕ × ℕ) → i < length ps → at ≡ (slice_index_or ps i empty_anchor).at
    → ¬ IsSmallContent disk.profile disk.block_size disk.page (slice_index_or ps i empty_anchor).content → IsPairTooLarge disk ps at
large_pair disk ps i at l same large = record {
  index = i;
  pair = slice_index_or ps i empty_anchor;
  there = slice_get-get_or ps i empty_anchor l;
  at_is = sym same;
  large = large;
}

breaks_image : (disk : Disk) (root : ℕ) (ps : List Pair) (i : ℕ) (b : ProfileBreach) → root ≡ count_before_root ps → i < length ps
    → PairBreaksProfile disk.profile disk.block_size disk.page (follows_hard_tail_at root ps i) (slice_index_or ps i empty_anchor) b → BreaksProfile disk ps b
breaks_image disk root ps i (breach.OtherLimits pair slot limit) is l (inl h) = (h.1.0, (slot_of_pair ps i (address_of_array pair) slot h.0 h.1.0 l h.1.1.1.0 h.1.1.1.1 h.1.1.0, h.1.1.1.2))
breaks_image disk root ps i (breach.OtherLimits pair slot limit) is l (inr h) = absurd h
breaks_image disk root ps i (breach.LongInline pair slot) is l (inl h) = (h.1.0, (slot_of_pair ps i (address_of_array pair) slot h.0 h.1.0 l h.1.1.1.0 h.1.1.1.1 h.1.1.0, h.1.1.1.2))
breaks_image disk root ps i (breach.LongInline pair slot) is l (inr h) = absurd h
breaks_image disk root ps i (breach.EmptyPair pair) is l (inl h) = absurd h.1.1.1
breaks_image disk root ps i (breach.EmptyPair pair) is l (inr h) = empty_pair root ps i (address_of_array pair) is l h.0 h.1 h.2
breaks_image disk root ps i (breach.TooLarge pair) is l (inl h) =
    large_pair disk ps i (address_of_array pair) l h.1.1.1.0 (charged disk.profile disk.block_size disk.page (slice_index_or ps i empty_anchor).content h.0 h.1.0 h.1.1.0 h.1.1.1.1 h.1.1.1.2)
breaks_image disk root ps i (breach.TooLarge pair) is l (inr h) = large_pair disk ps i (address_of_array pair) l h.0 (λ small. h.1 small.pair)

-- what a pair of the thread as it was read breaks, in the words of the thread before
pub as_before : (disk : Disk) (root : ℕ) (qs ps : List Pair) (i : ℕ) (geometry : Geometry) (follows : Bool) → HasGeometry geometry disk → qs ≡ ps → follows ≡ follows_hard_tail_at root qs i →
    (b : Option ProfileBreach) → IsPairBreachIfAny geometry.profile geometry.block_size geometry.page follows (slice_index_or qs i empty_anchor) b
    → IsPairBreachIfAny disk.profile disk.block_size disk.page (follows_hard_tail_at root ps i) (slice_index_or ps i empty_anchor) b
as_before disk root qs ps i geometry follows divided g h b k =
    subst (λ (xs : List Pair). IsPairBreachIfAny disk.profile disk.block_size disk.page (follows_hard_tail_at root xs i) (slice_index_or xs i empty_anchor) b) g
    (subst (λ w. IsPairBreachIfAny disk.profile disk.block_size disk.page w (slice_index_or qs i empty_anchor) b) h
    (subst (λ n. IsPairBreachIfAny disk.profile disk.block_size n follows (slice_index_or qs i empty_anchor) b) divided.page
    (subst (λ n. IsPairBreachIfAny disk.profile n geometry.page follows (slice_index_or qs i empty_anchor) b) divided.block_size
    (subst (λ (v : Profile). IsPairBreachIfAny v geometry.block_size geometry.page follows (slice_index_or qs i empty_anchor) b) divided.profile k))))

-- one more pair
pub pair_on : (disk : Disk) (root : ℕ) (ps : List Pair) (i : ℕ) (first next r : Option ProfileBreach) → root ≡ count_before_root ps → i < length ps → (r ≡ None → (first ≡ None) × (next ≡ None)) → (r ≡ first) ⊎ (r ≡ next)
    → MatchOption first (EachFits disk root ps i) (BreaksProfile disk ps) → IsPairBreachIfAny disk.profile disk.block_size disk.page (follows_hard_tail_at root ps i) (slice_index_or ps i empty_anchor) next
    → MatchOption r (EachFits disk root ps (i + 1)) (BreaksProfile disk ps)
pair_on disk root ps i first next r is l none either so_far here =
    let follows = follows_hard_tail_at root ps i in
    let p = slice_index_or ps i empty_anchor in
    let Fits : Type 0 = IsWritablePair disk.profile disk.block_size disk.page follows p.content in
    told (EachFits disk root ps i) Fits (EachFits disk root ps (i + 1)) (BreaksProfile disk ps) first next r none either so_far
    (weaker Fits Fits (PairBreaksProfile disk.profile disk.block_size disk.page follows p) (BreaksProfile disk ps) next here (λ h. h) (λ b. breaks_image disk root ps i b is l)) (fits_more disk root ps i)
