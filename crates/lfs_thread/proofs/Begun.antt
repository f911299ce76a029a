-- The pairs of a thread, read one after the other.
use Rattle.std.proofs.Common.{ℕ, zero, suc, ◌≡◌, ◌≢◌, ◌⊎◌, inl, inr, ◌↔◌, ◌+◌, ◌<◌, ◌≤◌, nat_eq, true, false, List, [], ◌∷◌, ◌++◌, length, Option, Some, None, refl, sym, ap, subst, ◌∙◌, arith, set, replicate}
use Rattle.std.specs.Prelude.{Contains, is_some, slice_get}
use Rattle.lfs_thread.proofs.Common.{option_and_then, option_map, eqb_tells, slice_get_within, map-append, length-set, ReadsOnly, Blocks, Free, InFlight, Used, BlockStates, IsFree, IsInFlight, IsUsedBlock, Disk, block_count, CallEvent, OnlyReadsSince, PairContent, decoded_content, content_at, raw_content, Pair, superblock_pair_address, AreLinkedByTails, tail_target, pairs_blocks, slice_get-set_same, slice_get-set_other, Contains-occurrence_count, completed_parts, goes_on_by, occurrence_count, count_here, once_from_distinct, distinct_from_once, tail_view, IsPairAddress, header_address, PairHeader, disk_pair_at, header_pairs, IsHeader, AllBlocksUsed, IsKeptOnDisk, ThreadBeginsWith, IsThreadBeginning}
use Rattle.std.proofs.lemmas.List.{length-replicate}
use Rattle.lfs_device.specs.declared.device.BlockDevice.{Ghosts}
use Rattle.lfs_model.specs.layers.BlockSets.{AreInFlight}
use Rattle.lfs_model.specs.layers.Violations.{AreLinkedUpTo}
use Rattle.lfs_model.proofs.BlockSets.{occurrence_count-Contains, used_count-AreUsed, counts_le}
use Rattle.lfs_pair.specs.Pair.{FetchFinds}
use Rattle.lfs_thread.specs.Begun.{OnFreeBlocks}
use Rattle.lfs_thread.proofs.Keeping.{headers_append, header_content, header_contents, pair_on_content, blocks_append}
use Rattle.lfs_thread.proofs.Changing.{headers_read}
use Rattle.lfs_thread.proofs.Coming.{two_unused, free_unused}

-- ---- a pair that was fetched

pub fetched_header : (disk : Disk) (history : List CallEvent) (at : ℕ × ℕ) (pair : PairHeader) → IsPairAddress disk at → FetchFinds disk history at pair → pair.is_complete ≡ true → IsHeader disk history pair
fetched_header disk history at pair on f full = go (decoded_content f.held) refl (sym f.is_pair.describes.sums.complete ∙ full)
  where
    go : (o : Option PairContent) → decoded_content f.held ≡ o → is_some {T = PairContent} o ≡ true → IsHeader disk history pair
    go None e k = absurd (cc)
    go (Some c) e k = record {
      address = subst (IsPairAddress disk) (sym f.at) on;
      held = f.held;
      is_pair = f.is_pair;
      raw = ap (raw_content disk) f.at ∙ f.content;
      content = c;
      complete = e;
    }

pub fetched_stands : (disk : Disk) (history : List CallEvent) (at : ℕ × ℕ) (pair : PairHeader) (sets : BlockStates) → IsPairAddress disk at → FetchFinds disk history at pair → pair.is_complete ≡ true
    → IsFree sets at.0 → IsFree (set sets at.0 Used) at.1 → OnFreeBlocks disk sets at
fetched_stands disk history at pair sets on f full first second =
    let h = fetched_header disk history at pair on f full in
    record {
      apart = on.apart;
      first_free = first;
      second_free = sym (slice_get-set_other sets at.0 at.1 Used (λ e. on.apart (sym e))) ∙ second;
      content = h.content;
      holds = ap (content_at disk) (sym f.at) ∙ header_content disk history pair h;
    }

-- no content, if a slot lacks its name or its struct
pub fetched_incomplete : (disk : Disk) (history : List CallEvent) (at : ℕ × ℕ) (pair : PairHeader) → FetchFinds disk history at pair → pair.is_complete ≡ false → content_at disk at ≡ None
fetched_incomplete disk history at pair f not_full = ap (option_and_then decoded_content) f.content ∙ go (decoded_content f.held) (sym f.is_pair.describes.sums.complete ∙ not_full)
  where
    go : (o : Option PairContent) → is_some {T = PairContent} o ≡ false → o ≡ None
    go None k = refl
    go (Some c) k = absurd (cc)

pub on_disk : (disk : Disk) (n : ℕ) (at : ℕ × ℕ) → block_count disk ≡ n → at.0 ≢ at.1 → at.0 < n → at.1 < n → IsPairAddress disk at
on_disk disk n at is apart first second = record { apart = apart; first = subst (λ k. at.0 < k) (sym is) first; second = subst (λ k. at.1 < k) (sym is) second }

-- ---- nothing is read yet

none_used : (n b : ℕ) → IsUsedBlock (replicate n Free) b → ⊥
none_used zero b u = absurd (cc)
none_used (suc n) zero u = absurd (cc)
none_used (suc n) (suc b) u = none_used n b u

all_free : (n b : ℕ) → b < n → IsFree (replicate n Free) b
all_free zero b l = absurd (omega arith)
all_free (suc n) zero l = refl
all_free (suc n) (suc b) l = all_free n b (omega arith)

pub begun_none : (disk : Disk) (history : List CallEvent) (n : ℕ) → n ≡ block_count disk → IsThreadBeginning disk history [] (replicate n Free) (Some superblock_pair_address)
begun_none disk history n e = record {
  each = tt;
  links = refl;
  distinct = distinct_from_once [] (λ b. omega arith);
  size = length-replicate n Free ∙ e;
  marked = λ b. ((λ u. absurd (none_used n b u)), (λ h. absurd (omega (arith, occurrence_count-Contains [] b h))));
  others = λ b l. inr (all_free n b (let k = length-replicate n Free in omega arith));
}

-- ---- one more

leads_on : (at : Option (ℕ × ℕ)) (ps : List Pair) (p : Pair) → AreLinkedUpTo at ps (Some p.at) → AreLinkedUpTo at (ps ++ p ∷ []) (tail_target p.content.tail)
leads_on at [] p l = (l, refl)
leads_on at (q ∷ ps) p l = (l.0, leads_on (tail_target q.content.tail) ps p l.1)

all_used : (sets : BlockStates) (bs : List ℕ) → ((b : ℕ) → Contains bs b → IsUsedBlock sets b) → AllBlocksUsed sets bs
all_used sets [] f = tt
all_used sets (b ∷ bs) f = (f b (Contains-occurrence_count (b ∷ bs) b (let k = count_here b bs in omega arith)), all_used sets bs (λ c h. f c (Contains-occurrence_count (b ∷ bs) c (let k = occurrence_count-Contains bs c h in let l = more c b bs in omega arith))))
  where
    more : (x b : ℕ) (bs : List ℕ) → occurrence_count x bs ≤ occurrence_count x (b ∷ bs)
    more x b bs = omega arith

used_now : (disk : Disk) (history : List CallEvent) (hs : List PairHeader) (sets : BlockStates) (next : Option (ℕ × ℕ)) → IsThreadBeginning disk history hs sets next → AllBlocksUsed sets (pairs_blocks (header_pairs disk hs))
used_now disk history hs sets next begun = all_used sets (pairs_blocks (header_pairs disk hs)) (λ b h. (begun.marked b).1 h)

module _ (disk : Disk) (blocks : Blocks) (before after : List CallEvent) (hs : List PairHeader) (sets : BlockStates) (at : ℕ × ℕ) (h : PairHeader)
    (reads : OnlyReadsSince blocks before after) (begun : IsThreadBeginning disk before hs sets (Some at)) (is : IsHeader disk after h) (same : header_address h ≡ at) (stands : OnFreeBlocks disk sets at) where
  abbrev p : Pair
  p = disk_pair_at disk (header_address h)

  abbrev now : BlockStates
  now = set (set sets at.0 Used) at.1 Used

  tail_is : p.content.tail ≡ option_map tail_view h.tail
  tail_is = ap (λ (q : Pair). q.content.tail) (pair_on_content disk (header_address h) is.content (header_content disk after h is))
      ∙ (completed_parts is.held is.content is.complete).tail ∙ sym is.is_pair.describes.sums.tail

  pairs_now : header_pairs disk (hs ++ h ∷ []) ≡ header_pairs disk hs ++ p ∷ []
  pairs_now = map-append (λ x. disk_pair_at disk (header_address x)) hs (h ∷ [])

  counts : (b : ℕ) → occurrence_count b (pairs_blocks (header_pairs disk (hs ++ h ∷ []))) ≡ occurrence_count b (pairs_blocks (header_pairs disk hs)) + occurrence_count b (at.0 ∷ at.1 ∷ [])
  counts b = ap (λ z. occurrence_count b (pairs_blocks z)) pairs_now ∙ blocks_append (header_pairs disk hs) (p ∷ []) b
      ∙ ap (λ (x : ℕ × ℕ). occurrence_count b (pairs_blocks (header_pairs disk hs)) + occurrence_count b (x.0 ∷ x.1 ∷ [])) same

  first_within : at.0 < length sets
  first_within = slice_get_within sets at.0 Free stands.first_free

  second_within : at.1 < length (set sets at.0 Used)
  second_within = let l = slice_get_within sets at.1 Free stands.second_free in let e = length-set sets at.0 Used in omega arith

  first_used : IsUsedBlock now at.0
  first_used = slice_get-set_other (set sets at.0 Used) at.1 at.0 Used stands.apart ∙ slice_get-set_same sets at.0 Used first_within

  second_used : IsUsedBlock now at.1
  second_used = slice_get-set_same (set sets at.0 Used) at.1 Used second_within

  other_same : (b : ℕ) → b ≢ at.0 → b ≢ at.1 → slice_get now b ≡ slice_get sets b
  other_same b f g = slice_get-set_other (set sets at.0 Used) at.1 b Used g ∙ slice_get-set_other sets at.0 b Used f

  -- one of the two, or another
  which : (b : ℕ) → ((b ≡ at.0) ⊎ (b ≡ at.1)) ⊎ ((b ≢ at.0) × (b ≢ at.1))
  which b = go (eqb_tells b at.0) (eqb_tells b at.1)
    where
      go : ((nat_eq b at.0 ≡ true) × (b ≡ at.0)) ⊎ ((nat_eq b at.0 ≡ false) × (b ≢ at.0)) → ((nat_eq b at.1 ≡ true) × (b ≡ at.1)) ⊎ ((nat_eq b at.1 ≡ false) × (b ≢ at.1))
          → ((b ≡ at.0) ⊎ (b ≡ at.1)) ⊎ ((b ≢ at.0) × (b ≢ at.1))
      go (inl k) l = inl (inl k.1)
      go (inr k) (inl l) = inl (inr l.1)
      go (inr k) (inr l) = inr (k.1, l.1)

  one_of : (b : ℕ) → (b ≡ at.0) ⊎ (b ≡ at.1) → (IsUsedBlock now b) × (1 ≤ occurrence_count b (at.0 ∷ at.1 ∷ []))
  one_of b (inl e) = (subst (IsUsedBlock now) (sym e) first_used, (let k = ap (λ x. occurrence_count x (at.0 ∷ at.1 ∷ [])) e in let l = count_here at.0 (at.1 ∷ []) in omega arith))
  one_of b (inr e) = (subst (IsUsedBlock now) (sym e) second_used, (let k = ap (λ x. occurrence_count x (at.0 ∷ at.1 ∷ [])) e in let l = count_here at.1 [] in let m = more at.1 at.0 (at.1 ∷ []) in omega arith))
    where
      more : (x b : ℕ) (bs : List ℕ) → occurrence_count x bs ≤ occurrence_count x (b ∷ bs)
      more x b bs = omega arith

  no_other : (b : ℕ) → b ≢ at.0 → b ≢ at.1 → occurrence_count b (at.0 ∷ at.1 ∷ []) ≡ 0
  no_other b f g = go (eqb_tells b at.0) (eqb_tells b at.1)
    where
      go : ((nat_eq b at.0 ≡ true) × (b ≡ at.0)) ⊎ ((nat_eq b at.0 ≡ false) × (b ≢ at.0)) → ((nat_eq b at.1 ≡ true) × (b ≡ at.1)) ⊎ ((nat_eq b at.1 ≡ false) × (b ≢ at.1))
          → occurrence_count b (at.0 ∷ at.1 ∷ []) ≡ 0
      go (inl k) l = absurd (f k.1)
      go (inr k) (inl l) = absurd (g l.1)
      go (inr k) (inr l) = rw (k.0, l.0) refl

  marked_now : (b : ℕ) → IsUsedBlock now b ↔ Contains (pairs_blocks (header_pairs disk (hs ++ h ∷ []))) b
  marked_now b = (to, from)
    where
      to : IsUsedBlock now b → Contains (pairs_blocks (header_pairs disk (hs ++ h ∷ []))) b
      to u = go (which b)
        where
          go : ((b ≡ at.0) ⊎ (b ≡ at.1)) ⊎ ((b ≢ at.0) × (b ≢ at.1)) → Contains (pairs_blocks (header_pairs disk (hs ++ h ∷ []))) b
          go (inl k) = Contains-occurrence_count (pairs_blocks (header_pairs disk (hs ++ h ∷ []))) b (let e = counts b in let l = (one_of b k).1 in omega arith)
          go (inr k) = Contains-occurrence_count (pairs_blocks (header_pairs disk (hs ++ h ∷ []))) b
              (let e = counts b in let l = occurrence_count-Contains (pairs_blocks (header_pairs disk hs)) b ((begun.marked b).0 (sym (other_same b k.0 k.1) ∙ u)) in omega arith)

      from : Contains (pairs_blocks (header_pairs disk (hs ++ h ∷ []))) b → IsUsedBlock now b
      from c = go (which b)
        where
          go : ((b ≡ at.0) ⊎ (b ≡ at.1)) ⊎ ((b ≢ at.0) × (b ≢ at.1)) → IsUsedBlock now b
          go (inl k) = (one_of b k).0
          go (inr k) = other_same b k.0 k.1 ∙ (begun.marked b).1 (Contains-occurrence_count (pairs_blocks (header_pairs disk hs)) b
              (let e = counts b in let l = occurrence_count-Contains (pairs_blocks (header_pairs disk (hs ++ h ∷ []))) b c in let m = no_other b k.0 k.1 in omega arith))

  others_now : (b : ℕ) → b < length now → IsUsedBlock now b ⊎ IsFree now b
  others_now b l = go (which b)
    where
      was : b < length sets
      was = let e = length-set (set sets at.0 Used) at.1 Used in let f = length-set sets at.0 Used in omega arith

      go : ((b ≡ at.0) ⊎ (b ≡ at.1)) ⊎ ((b ≢ at.0) × (b ≢ at.1)) → IsUsedBlock now b ⊎ IsFree now b
      go (inl k) = inl (one_of b k).0
      go (inr k) = side (begun.others b was)
        where
          side : IsUsedBlock sets b ⊎ IsFree sets b → IsUsedBlock now b ⊎ IsFree now b
          side (inl u) = inl (other_same b k.0 k.1 ∙ u)
          side (inr f) = inr (other_same b k.0 k.1 ∙ f)

  pub begun_more : IsThreadBeginning disk after (hs ++ h ∷ []) now (tail_target (option_map tail_view h.tail))
  begun_more = record {
    each = headers_append disk after hs (h ∷ []) (headers_read disk blocks before after hs reads begun.each) (is, tt);
    links = subst (λ ps. AreLinkedUpTo (Some superblock_pair_address) ps (tail_target (option_map tail_view h.tail))) (sym pairs_now)
        (subst (λ t. AreLinkedUpTo (Some superblock_pair_address) (header_pairs disk hs ++ p ∷ []) (tail_target t)) tail_is
        (leads_on (Some superblock_pair_address) (header_pairs disk hs) p (subst (λ a. AreLinkedUpTo (Some superblock_pair_address) (header_pairs disk hs) (Some a)) (sym same) begun.links)));
    distinct = distinct_from_once (pairs_blocks (header_pairs disk (hs ++ h ∷ []))) (λ b.
        let e = counts b in
        let k = two_unused sets at.0 at.1 (pairs_blocks (header_pairs disk hs)) (free_unused sets at.0 stands.first_free) (free_unused sets at.1 stands.second_free) stands.apart (used_now disk before hs sets (Some at) begun) (once_from_distinct (pairs_blocks (header_pairs disk hs)) begun.distinct) b in
        omega arith);
    size = length-set (set sets at.0 Used) at.1 Used ∙ length-set sets at.0 Used ∙ begun.size;
    marked = marked_now;
    others = others_now;
  }

-- ---- at the end

leads_linked : (at : Option (ℕ × ℕ)) (ps : List Pair) → AreLinkedUpTo at ps None → AreLinkedByTails at ps
leads_linked at [] l = l
leads_linked at (p ∷ ps) l = (l.0, leads_linked (tail_target p.content.tail) ps l.1)

pub begun_kept : (disk : Disk) (history : List CallEvent) (hs : List PairHeader) (sets : BlockStates) → IsThreadBeginning disk history hs sets None → IsKeptOnDisk disk history hs sets
begun_kept disk history hs sets begun = record {
  each = begun.each;
  links = leads_linked (Some superblock_pair_address) (header_pairs disk hs) begun.links;
  distinct = begun.distinct;
  size = begun.size;
  used = used_now disk history hs sets None begun;
}

pub begun_none_in_flight : (disk : Disk) (history : List CallEvent) (hs : List PairHeader) (sets : BlockStates) (next : Option (ℕ × ℕ)) → IsThreadBeginning disk history hs sets next → AreInFlight sets []
begun_none_in_flight disk history hs sets next begun b = (
  λ flies. absurd (go flies (begun.others b (slice_get_within sets b InFlight flies))),
  λ (none : Contains [] b). absurd (let below : none.0 < 0 = none.1 in omega arith),
)
  where
    go : IsInFlight sets b → IsUsedBlock sets b ⊎ IsFree sets b → ⊥
    go flies (inl used) = absurd (let e : Some InFlight ≡ Some Used = sym flies ∙ used in cc)
    go flies (inr free) = absurd (let e : Some InFlight ≡ Some Free = sym flies ∙ free in cc)

pub begun_before : (disk : Disk) (history : List CallEvent) (hs : List PairHeader) (sets : BlockStates) (next : Option (ℕ × ℕ)) (at : ℕ × ℕ) → next ≡ Some at → IsThreadBeginning disk history hs sets next
    → ThreadBeginsWith disk sets (header_pairs disk hs) at
begun_before disk history hs sets next at is begun = record {
  begins = record { links = subst (AreLinkedUpTo (Some superblock_pair_address) (header_pairs disk hs)) is begun.links; contents = header_contents disk history hs begun.each };
  marked = begun.marked;
  others = begun.others;
}

-- there are at least two blocks for each pair
pub begun_few : (disk : Disk) (history : List CallEvent) (hs : List PairHeader) (sets : BlockStates) (next : Option (ℕ × ℕ)) → IsThreadBeginning disk history hs sets next → length hs + length hs ≤ block_count disk
begun_few disk history hs sets next begun =
    let u = used_count-AreUsed sets (pairs_blocks (header_pairs disk hs)) begun.distinct begun.marked in
    let c = counts_le sets in
    let s = begun.size in
    let d = doubled hs in
    omega arith
  where
    doubled : (hs : List PairHeader) → length (pairs_blocks (header_pairs disk hs)) ≡ length hs + length hs
    doubled [] = refl
    doubled (h ∷ hs) = let d = doubled hs in omega arith

-- ---- in the code's words

pub then_reads : {blocks mid_blocks : Blocks} {old mid new : List CallEvent} → OnlyReadsSince blocks old mid → mid_blocks ≡ blocks → OnlyReadsSince mid_blocks mid new → OnlyReadsSince blocks old new
then_reads {mid = mid} {new = new} first same second = goes_on_by first (subst (λ b. OnlyReadsSince b mid new) same second)

pub read_on : {D : Type 0} {g : Ghosts D} {old mid new : D} → ReadsOnly g old mid → ReadsOnly g mid new → ReadsOnly g old new
read_on first second = record {
  same = second.same ∙ first.same;
  geometry = second.geometry ∙ first.geometry;
  reads = then_reads first.reads first.same second.reads;
}

pub begun_first : (disk : Disk) (history : List CallEvent) (hs : List PairHeader) (sets : BlockStates) (n : ℕ) → n ≡ block_count disk → hs ≡ [] → sets ≡ replicate n Free → IsThreadBeginning disk history hs sets (Some superblock_pair_address)
begun_first disk history hs sets n e f g =
    subst (λ z. IsThreadBeginning disk history z sets (Some superblock_pair_address)) (sym f) (subst (λ s. IsThreadBeginning disk history [] s (Some superblock_pair_address)) (sym g) (begun_none disk history n e))

pub begun_next : (disk now : Disk) (blocks : Blocks) (before after : List CallEvent) (hs items : List PairHeader) (sets marked : BlockStates) (next : Option (ℕ × ℕ)) (at : ℕ × ℕ) (h : PairHeader) (behind : Option (ℕ × ℕ))
    → now ≡ disk → OnlyReadsSince blocks before after → next ≡ Some at → IsThreadBeginning disk before hs sets next → IsHeader disk after h → header_address h ≡ at → OnFreeBlocks disk sets at
    → items ≡ hs ++ h ∷ [] → marked ≡ set (set sets at.0 Used) at.1 Used → behind ≡ tail_target (option_map tail_view h.tail) → IsThreadBeginning now after items marked behind
begun_next disk now blocks before after hs items sets marked next at h behind e reads is begun header same stands items_are marked_is behind_is =
    subst (λ d. IsThreadBeginning d after items marked behind) (sym e)
    (subst (λ z. IsThreadBeginning disk after z marked behind) (sym items_are)
    (subst (λ s. IsThreadBeginning disk after (hs ++ h ∷ []) s behind) (sym marked_is)
    (subst (λ n. IsThreadBeginning disk after (hs ++ h ∷ []) (set (set sets at.0 Used) at.1 Used) n) (sym behind_is)
    (begun_more disk blocks before after hs sets at h reads (subst (IsThreadBeginning disk before hs sets) is begun) header same stands))))
