-- A drop of the pair behind another one.
use Rattle.std.proofs.Common.{ℕ, suc, ◌≡◌, ◌+◌, ◌<◌, ◌≤◌, List, [], ◌∷◌, ◌++◌, length, Some, refl, sym, ap, ap₂, subst, ◌∙◌, arith, get_or, set, remove, append_assoc, length-append}
use Rattle.lfs_thread.proofs.Common.{same_Some, map-append, length-map, length-set, flat_map-append, set-append_seam, disk_of_blocks, Blocks, Free, BlockStates, Disk, CallEvent, ContentChange, raw_content, content_at, decoded_content, Pair, AreLinkedByTails, tail_target, pairs_blocks, fits_pair, slice_get-set_other, occurrence_count, count_here, once_from_distinct, header_address, IsPairAddress, CommitsChanges, KeepsOutsidePair, OutsideStaysUnprogrammed, superblock_entry, superblock_anew, PairHeader, kept_view, disk_pair_at, header_pairs, IsHeader, AllBlocksUsed, IsKeptOnDisk, thread_pair, pairs_with_content, CanDropNext, IsNextDropped, map_freeing, KeepsSuperblockFirst}
use Rattle.lfs_device.specs.declared.geometry.Geometry.{Geometry}
use Rattle.lfs_thread.proofs.Keeping.{kept_thread, header_content, pair_on_content, used_left, used_right, blocks_append, IsReplaced, pairs_are, kept_replaced}
use Rattle.lfs_thread.proofs.Changing.{IsAt, at_index, header_at_index, pair_at_index, made_of_header}

-- the header behind one
pub record HasNext (hs : List PairHeader) (index : ℕ) (h : PairHeader) : Type 0 where
  pub front : List PairHeader
  pub next : PairHeader
  pub back : List PairHeader
  pub parts : hs ≡ front ++ h ∷ next ∷ back
  pub place : index ≡ length front

pub next_at : (hs : List PairHeader) (index : ℕ) (h : PairHeader) → IsAt hs index h → index + 1 < length hs → HasNext hs index h
next_at hs index h a l = go a.back a.parts
  where
    go : (back : List PairHeader) → hs ≡ a.front ++ h ∷ back → HasNext hs index h
    go [] e = absurd (let n = ap length e ∙ length-append a.front (h ∷ []) in let p = a.place in omega arith)
    go (o ∷ back) e = record { front = a.front; next = o; back = back; parts = e; place = a.place }

pub here_at : (hs : List PairHeader) (index : ℕ) (h : PairHeader) → HasNext hs index h → IsAt hs index h
here_at hs index h n = record { front = n.front; back = n.next ∷ n.back; parts = n.parts; place = n.place }

pub there_at : (hs : List PairHeader) (index : ℕ) (h : PairHeader) (n : HasNext hs index h) → IsAt hs (index + 1) n.next
there_at hs index h n = record {
  front = n.front ++ h ∷ [];
  back = n.back;
  parts = n.parts ∙ sym (append_assoc n.front (h ∷ []) (n.next ∷ n.back));
  place = let e = length-append n.front (h ∷ []) in let p = n.place in omega arith;
}

pub get_behind : {X : Type 0} (xs : List X) (y z : X) (ys : List X) (d : X) → get_or (xs ++ y ∷ z ∷ ys) (length xs + 1) d ≡ z
get_behind [] y z ys d = refl
get_behind (x ∷ xs) y z ys d = let e : suc (length xs) + 1 ≡ suc (length xs + 1) = omega arith in ap (λ (n : ℕ). get_or (x ∷ (xs ++ y ∷ z ∷ ys)) n d) e ∙ get_behind xs y z ys d

pub remove_behind : {X : Type 0} (xs : List X) (y z : X) (ys : List X) → remove (xs ++ y ∷ z ∷ ys) (length xs + 1) ≡ xs ++ y ∷ ys
remove_behind [] y z ys = refl
remove_behind (x ∷ xs) y z ys = let e : suc (length xs) + 1 ≡ suc (length xs + 1) = omega arith in ap (λ (n : ℕ). remove (x ∷ (xs ++ y ∷ z ∷ ys)) n) e ∙ ap (λ t. x ∷ t) (remove_behind xs y z ys)

set_next : (hs : List PairHeader) (index : ℕ) (h new : PairHeader) (n : HasNext hs index h) → set hs index new ≡ n.front ++ new ∷ n.next ∷ n.back
set_next hs index h new n = ap₂ (λ (z : List PairHeader) (i : ℕ). set z i new) n.parts n.place ∙ set-append_seam n.front h (n.next ∷ n.back) new

-- the header that is removed is the next one
pub gone_is : (hs : List PairHeader) (index : ℕ) (h new gone : PairHeader) (n : HasNext hs index h) → gone ≡ get_or (set hs index new) (index + 1) gone → gone ≡ n.next
gone_is hs index h new gone n value = value ∙ ap₂ (λ (z : List PairHeader) (i : ℕ). get_or z (i + 1) gone) (set_next hs index h new n) n.place ∙ get_behind n.front new n.next n.back gone

-- the header at the index, with the one behind it
pub next_there : (disk : Disk) (hs : List PairHeader) (index : ℕ) (h : PairHeader) → index + 1 < length (header_pairs disk hs) → h ≡ get_or hs index h → HasNext hs index h
next_there disk hs index h below value =
    let l = length-map hs (λ x. disk_pair_at disk (header_address x)) in
    next_at hs index h (subst (IsAt hs index) (sym value) (at_index hs index h (omega arith))) (omega arith)

-- ---- the map

released : (sets : BlockStates) (x : ℕ) (bs : List ℕ) → occurrence_count x bs ≡ 0 → AllBlocksUsed sets bs → AllBlocksUsed (set sets x Free) bs
released sets x [] none used = tt
released sets x (b ∷ bs) none used = (
  slice_get-set_other sets x b Free (λ e. let k = subst (λ (y : ℕ). occurrence_count x (y ∷ bs) ≡ 0) e none in let m = count_here x bs in absurd (omega arith)) ∙ used.0,
  released sets x bs (let k = none in omega arith) used.1,
)

pub both_released : (sets : BlockStates) (at : ℕ × ℕ) (bs : List ℕ) → occurrence_count at.0 bs ≡ 0 → occurrence_count at.1 bs ≡ 0 → AllBlocksUsed sets bs → AllBlocksUsed (map_freeing sets at) bs
both_released sets at bs f g used = released (set sets at.0 Free) at.1 bs g (released sets at.0 bs f used)

pub next_used : (disk : Disk) (before : List CallEvent) (hs : List PairHeader) (sets : BlockStates) (index : ℕ) (h : PairHeader) (n : HasNext hs index h) → IsKeptOnDisk disk before hs sets
    → ((header_address n.next).0 < length sets) × ((header_address n.next).1 < length sets)
next_used disk before hs sets index h n kept =
    let on = (header_at_index disk before hs (index + 1) n.next (there_at hs index h n) kept.each).address in
    let s = kept.size in
    ((let l = on.first in omega arith), (let l = on.second in omega arith))

-- ---- after the commit

module _ (disk : Disk) (before : List CallEvent) (blocks : Blocks) (after : List CallEvent) (hs : List PairHeader) (sets : BlockStates) (index : ℕ) (h new : PairHeader) (changes : List ContentChange)
    (n : HasNext hs index h) (kept : IsKeptOnDisk disk before hs sets) (can : CanDropNext (kept_view disk before hs sets) index changes)
    (commits : CommitsChanges disk before changes h (record disk { blocks = blocks }) after new) (others : KeepsOutsidePair (header_address h) disk.blocks blocks) (stay : OutsideStaysUnprogrammed (header_address h) before after) where
  abbrev left : Disk
  left = record disk { blocks = blocks }

  abbrev two : List PairHeader
  two = h ∷ n.next ∷ []

  abbrev now : BlockStates
  now = map_freeing sets (header_address n.next)

  kept_parts : IsKeptOnDisk disk before (n.front ++ (two ++ n.back)) sets
  kept_parts = subst (λ z. IsKeptOnDisk disk before z sets) n.parts kept

  was_pair : thread_pair (kept_view disk before hs sets) index ≡ disk_pair_at disk (header_address h)
  was_pair = pair_at_index disk before hs sets index h (here_at hs index h n)

  next_pair : thread_pair (kept_view disk before hs sets) (index + 1) ≡ disk_pair_at disk (header_address n.next)
  next_pair = pair_at_index disk before hs sets (index + 1) n.next (there_at hs index h n)

  whole : decoded_content commits.new ≡ Some can.content
  whole = let m = made_of_header disk before hs sets index h changes can.content (here_at hs index h n) can.made in
      ap decoded_content (same_Some commits.new m.raw (sym commits.made ∙ m.is)) ∙ m.complete

  now_header : IsHeader left after new
  now_header =
      let on = (header_at_index disk before hs index h (here_at hs index h n) kept.each).address in
      record {
        address = subst (IsPairAddress left) (sym commits.holds.same) (record {
          apart = on.apart;
          first = subst (λ k. (header_address h).0 < k) (sym others.count) on.first;
          second = subst (λ k. (header_address h).1 < k) (sym others.count) on.second;
        });
        held = commits.new;
        is_pair = commits.holds.is_pair;
        raw = ap (raw_content left) commits.holds.same ∙ commits.holds.content;
        content = can.content;
        complete = whole;
      }

  now_pair : disk_pair_at left (header_address new) ≡ record { at = header_address h; content = can.content }
  unfolding now_header
  now_pair = pair_on_content left (header_address new) can.content (header_content left after new now_header) ∙ ap (λ at. record { at = at; content = can.content }) commits.holds.same

  same_next : tail_target (disk_pair_at left (header_address new)).content.tail ≡ tail_target (disk_pair_at disk (header_address n.next)).content.tail
  same_next = ap (λ (p : Pair). tail_target p.content.tail) now_pair ∙ can.next ∙ ap (λ (p : Pair). tail_target p.content.tail) next_pair

  same_blocks : pairs_blocks (header_pairs left (new ∷ [])) ≡ pairs_blocks (header_pairs disk (h ∷ []))
  same_blocks = ap (λ (at : ℕ × ℕ). at.0 ∷ at.1 ∷ []) commits.holds.same

  -- how often a block occurs in each part
  counts : (b : ℕ) → occurrence_count b (pairs_blocks (header_pairs disk n.front)) + (occurrence_count b (pairs_blocks (header_pairs disk (h ∷ []))) + (occurrence_count b (pairs_blocks (header_pairs disk (n.next ∷ []))) + occurrence_count b (pairs_blocks (header_pairs disk n.back)))) ≤ 1
  counts b =
      let o = once_from_distinct (pairs_blocks (header_pairs disk (n.front ++ (two ++ n.back)))) kept_parts.distinct b in
      let e = ap (λ ps. occurrence_count b (pairs_blocks ps)) (map-append (λ x. disk_pair_at disk (header_address x)) n.front (two ++ n.back)) in
      let f = blocks_append (header_pairs disk n.front) (header_pairs disk (two ++ n.back)) b in
      let g = blocks_append (header_pairs disk (h ∷ [])) (header_pairs disk (n.next ∷ n.back)) b in
      let k = blocks_append (header_pairs disk (n.next ∷ [])) (header_pairs disk n.back) b in
      omega arith

  first_once : 1 ≤ occurrence_count (header_address n.next).0 (pairs_blocks (header_pairs disk (n.next ∷ [])))
  first_once = let m = count_here (header_address n.next).0 ((header_address n.next).1 ∷ []) in omega arith

  second_once : 1 ≤ occurrence_count (header_address n.next).1 (pairs_blocks (header_pairs disk (n.next ∷ [])))
  second_once = let m = count_here (header_address n.next).1 [] in omega arith

  stay_used : (bs : List ℕ) → ((b : ℕ) → 1 ≤ occurrence_count b (pairs_blocks (header_pairs disk (n.next ∷ []))) → occurrence_count b bs ≡ 0) → AllBlocksUsed sets bs → AllBlocksUsed now bs
  stay_used bs f used = both_released sets (header_address n.next) bs (f (header_address n.next).0 first_once) (f (header_address n.next).1 second_once) used

  used_parts : AllBlocksUsed sets (pairs_blocks (header_pairs disk n.front)) × (AllBlocksUsed sets (pairs_blocks (header_pairs disk (h ∷ []))) × AllBlocksUsed sets (pairs_blocks (header_pairs disk n.back)))
  used_parts =
      let all = subst (λ ps. AllBlocksUsed sets (pairs_blocks ps)) (map-append (λ x. disk_pair_at disk (header_address x)) n.front (two ++ n.back)) kept_parts.used in
      let cut = subst (AllBlocksUsed sets) (flat_map-append (λ (s : Pair). s.at.0 ∷ s.at.1 ∷ []) (header_pairs disk n.front) (header_pairs disk (two ++ n.back))) all in
      let right = used_right sets (pairs_blocks (header_pairs disk n.front)) (pairs_blocks (header_pairs disk (two ++ n.back))) cut in
      (used_left sets (pairs_blocks (header_pairs disk n.front)) (pairs_blocks (header_pairs disk (two ++ n.back))) cut, ((right.0, (right.1.0, tt)), right.1.1.1.1))

  replaced : IsReplaced disk before blocks after n.front two (new ∷ []) n.back ((header_address h).0 ∷ (header_address h).1 ∷ []) [] now
  replaced = record {
    same = others;
    stay = stay;
    touched = λ b k. omega arith;
    free = λ b. let o = once_from_distinct (pairs_blocks (header_pairs disk (n.front ++ (two ++ n.back)))) kept_parts.distinct b in omega arith;
    each = (now_header, tt);
    no_more = λ b. let e = ap (occurrence_count b) same_blocks in omega arith;
    links = λ ys from l. (l.0 ∙ ap Some (sym commits.holds.same), subst (λ x. AreLinkedByTails x ys) (sym same_next) l.1.1);
    size = length-set (set sets (header_address n.next).0 Free) (header_address n.next).1 Free ∙ length-set sets (header_address n.next).0 Free ∙ kept_parts.size;
    used = (
      stay_used (pairs_blocks (header_pairs disk n.front)) (λ b k. let c = counts b in omega arith) used_parts.0,
      (
        subst (AllBlocksUsed now) (sym same_blocks) (stay_used (pairs_blocks (header_pairs disk (h ∷ []))) (λ b k. let c = counts b in omega arith) used_parts.1.0),
        stay_used (pairs_blocks (header_pairs disk n.back)) (λ b k. let c = counts b in omega arith) used_parts.1.1,
      ),
    );
  }

  abbrev headers : List PairHeader
  headers = remove (set hs index new) (index + 1)

  headers_are : headers ≡ n.front ++ new ∷ n.back
  headers_are = ap₂ (λ (z : List PairHeader) (i : ℕ). remove z (i + 1)) (set_next hs index h new n) n.place ∙ remove_behind n.front new n.next n.back

  pub dropped_kept : IsKeptOnDisk left after headers now
  dropped_kept = subst (λ z. IsKeptOnDisk left after z now) (sym headers_are)
      (kept_replaced disk before blocks after n.front two (new ∷ []) n.back ((header_address h).0 ∷ (header_address h).1 ∷ []) [] sets now kept_parts replaced)

  abbrev p : Pair
  p = record { at = (thread_pair (kept_view disk before hs sets) index).at; content = can.content }

  dropped_pairs : header_pairs left headers ≡ remove (pairs_with_content (kept_view disk before hs sets) index can.content) (index + 1)
  dropped_pairs = ap (header_pairs left) headers_are
      ∙ pairs_are disk before blocks after n.front two (new ∷ []) n.back ((header_address h).0 ∷ (header_address h).1 ∷ []) [] sets now kept_parts replaced
      ∙ ap (λ q. header_pairs disk n.front ++ q ∷ header_pairs disk n.back) (now_pair ∙ ap (λ (q : Pair). record { at = q.at; content = can.content }) (sym was_pair))
      ∙ sym (ap₂ (λ (z : List Pair) (i : ℕ). remove (set z i p) (i + 1))
      (ap (header_pairs disk) n.parts ∙ map-append (λ x. disk_pair_at disk (header_address x)) n.front (h ∷ n.next ∷ n.back)) (n.place ∙ sym (length-map n.front (λ x. disk_pair_at disk (header_address x))))
      ∙ ap (λ z. remove z (length (header_pairs disk n.front) + 1)) (set-append_seam (header_pairs disk n.front) (disk_pair_at disk (header_address h)) (header_pairs disk (n.next ∷ n.back)) p)
      ∙ remove_behind (header_pairs disk n.front) p (disk_pair_at disk (header_address n.next)) (header_pairs disk n.back))

  pub is_dropped : IsNextDropped (kept_view disk before hs sets) index changes (kept_view left after headers now)
  unfolding now_header
  is_dropped = record {
    content = can.content;
    made = can.made;
    fits = fits_pair disk.block_size disk.page commits.new can.content commits.logged whole commits.fits;
    written = record {
      holds = ap (content_at left) (ap (λ (q : Pair). q.at) was_pair ∙ sym commits.holds.same) ∙ header_content left after new now_header;
      others = subst (λ (q : Pair). KeepsOutsidePair q.at disk.blocks blocks) (sym was_pair) others;
      shape = record { block_size = refl; page = refl; order = refl; profile = refl; count = others.count };
      first = subst (λ (q : Pair). KeepsSuperblockFirst disk q.at can.content left) (sym was_pair) (λ begins has. commits.first superblock_entry begins (superblock_anew commits.new can.content commits.logged.slots whole has.0 has.1));
    };
    pairs = dropped_pairs;
    map = ap (λ (q : Pair). map_freeing sets q.at) (sym next_pair);
    thread = kept_thread left after headers now dropped_kept;
  }

-- ---- in the code's words

module _ (geometry later : Geometry) (old blocks : Blocks) (before after : List CallEvent) (hs : List PairHeader) (sets : BlockStates) (index : ℕ) (h new : PairHeader) (changes : List ContentChange)
    (same : later ≡ geometry) (n : HasNext hs index h) (kept : IsKeptOnDisk (disk_of_blocks geometry old) before hs sets) (can : CanDropNext (kept_view (disk_of_blocks geometry old) before hs sets) index changes)
    (commits : CommitsChanges (disk_of_blocks geometry old) before changes h (disk_of_blocks later blocks) after new) (others : KeepsOutsidePair (header_address h) old blocks) (stay : OutsideStaysUnprogrammed (header_address h) before after)
    (items : List PairHeader) (are : items ≡ remove (set hs index new) (index + 1)) (now : BlockStates) (is_now : now ≡ map_freeing sets (header_address n.next)) where
  commits_there : CommitsChanges (disk_of_blocks geometry old) before changes h (disk_of_blocks geometry blocks) after new
  commits_there = subst (λ k. CommitsChanges (disk_of_blocks geometry old) before changes h (disk_of_blocks k blocks) after new) same commits

  pub device_dropped : IsKeptOnDisk (disk_of_blocks later blocks) after items now
  device_dropped = subst (λ k. IsKeptOnDisk (disk_of_blocks k blocks) after items now) (sym same) (subst (λ z. IsKeptOnDisk (disk_of_blocks geometry blocks) after z now) (sym are) (subst (λ m. IsKeptOnDisk (disk_of_blocks geometry blocks) after (remove (set hs index new) (index + 1)) m) (sym is_now)
      (dropped_kept (disk_of_blocks geometry old) before blocks after hs sets index h new changes n kept can commits_there others stay)))

  pub device_is_dropped : IsNextDropped (kept_view (disk_of_blocks geometry old) before hs sets) index changes (kept_view (disk_of_blocks later blocks) after items now)
  device_is_dropped = subst (λ k. IsNextDropped (kept_view (disk_of_blocks geometry old) before hs sets) index changes (kept_view (disk_of_blocks k blocks) after items now)) (sym same)
      (subst (λ z. IsNextDropped (kept_view (disk_of_blocks geometry old) before hs sets) index changes (kept_view (disk_of_blocks geometry blocks) after z now)) (sym are)
      (subst (λ m. IsNextDropped (kept_view (disk_of_blocks geometry old) before hs sets) index changes (kept_view (disk_of_blocks geometry blocks) after (remove (set hs index new) (index + 1)) m)) (sym is_now)
      (is_dropped (disk_of_blocks geometry old) before blocks after hs sets index h new changes n kept can commits_there others stay)))
