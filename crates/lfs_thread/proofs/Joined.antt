-- A pair is added to the thread: it is written first, and then another pair's tail names it.
use Rattle.std.proofs.Common.{ℕ, suc, nat_eq, ◌≡◌, ◌+◌, ◌<◌, ◌≤◌, List, [], ◌∷◌, ◌++◌, length, Option, Some, refl, sym, ap, ap₂, subst, ◌∙◌, arith, set, insert, remove}
use Rattle.lfs_thread.proofs.Common.{same_Some, map-append, length-map, length-set, flat_map-append, set-append_seam, Blocks, BlockStates, Free, IsDistinct, IsUsedBlock, option_and_then, Disk, CallEvent, PairContent, ContentChange, Pair, AreLinkedByTails, superblock_pair_address, decoded_content, raw_content, raw_content-stays, tail_target, pairs_blocks, pairs_split, AllBlocksUsed, AreApart, AreElsewhere, CommitsChanges, IsHeader, IsKeptOnDisk, IsPairAddress, KeepsOutsidePair, OutsideStaysUnprogrammed, PairHeader, changed_pair_content, complete_after, content_after_changes, count_here, disk_pair_at, header_address, header_pairs, kept_view, map_freeing, occurrence_count, once_from_distinct, thread_pair}
use Rattle.lfs_thread.specs.Joins.{headers_without, map_without, pairs_joined, source_index}
use Rattle.lfs_thread.specs.declared.joins.Behind.{Behind}
use Rattle.lfs_thread.specs.declared.joins.Behind.TheVariants as kind
use Rattle.lfs_thread.proofs.Keeping.{AllElsewhere, blocks_append, elsewhere_from, headers-stay, pairs-stay, header-stays, header_content, pair_on_content, disk_pair_at-stays, used_left, used_right, IsReplaced, pairs_are, kept_replaced, pair_elsewhere, fresh_elsewhere}
use Rattle.lfs_thread.proofs.Changing.{IsAt, header_at_index, pair_at_index, made_of_header}
use Rattle.lfs_thread.proofs.Coming.{count_other, used_at, two_unused, used_still, SettlesTwo}
use Rattle.lfs_thread.proofs.Dropped.{HasNext, both_released, next_at, there_at}
use Rattle.lfs_thread.proofs.Parting.{insert_behind}

-- ---- the fresh pair is written, and nothing names it yet

module _ (disk : Disk) (before : List CallEvent) (blocks : Blocks) (after : List CallEvent) (hs : List PairHeader) (sets : BlockStates) (fresh : ℕ × ℕ) (kept : IsKeptOnDisk disk before hs sets)
    (first : ¬ IsUsedBlock sets fresh.0) (second : ¬ IsUsedBlock sets fresh.1) (others : KeepsOutsidePair fresh disk.blocks blocks) (stay : OutsideStaysUnprogrammed fresh before after) where
  elsewhere : AllElsewhere (fresh.0 ∷ fresh.1 ∷ []) hs
  elsewhere = elsewhere_from disk (fresh.0 ∷ fresh.1 ∷ []) hs (λ b k.
      let used = used_at sets b (pairs_blocks (header_pairs disk hs)) kept.used k in
      count_other b fresh.0 (fresh.1 ∷ []) (λ e. first (subst (IsUsedBlock sets) e used)) ∙ count_other b fresh.1 [] (λ e. second (subst (IsUsedBlock sets) e used)))

  pub beside_pairs : header_pairs (record disk { blocks = blocks }) hs ≡ header_pairs disk hs
  beside_pairs = pairs-stay disk hs elsewhere others

  pub beside_kept : IsKeptOnDisk (record disk { blocks = blocks }) after hs sets
  beside_kept = record {
    each = headers-stay disk before after hs elsewhere others stay kept.each;
    links = subst (AreLinkedByTails (Some superblock_pair_address)) (sym beside_pairs) kept.links;
    distinct = subst (λ ps. IsDistinct nat_eq (pairs_blocks ps)) (sym beside_pairs) kept.distinct;
    size = kept.size ∙ sym others.count;
    used = subst (λ ps. AllBlocksUsed sets (pairs_blocks ps)) (sym beside_pairs) kept.used;
  }

-- the changed content of a pair is the same once the fresh pair is written
pub beside_made : (disk : Disk) (before : List CallEvent) (blocks : Blocks) (after : List CallEvent) (hs : List PairHeader) (sets : BlockStates) (fresh : ℕ × ℕ) (index : ℕ) (h : PairHeader) (changes : List ContentChange) → IsAt hs index h
    → IsKeptOnDisk disk before hs sets → ¬ IsUsedBlock sets fresh.0 → ¬ IsUsedBlock sets fresh.1 → KeepsOutsidePair fresh disk.blocks blocks
    → complete_after (kept_view (record disk { blocks = blocks }) after hs sets) index changes ≡ complete_after (kept_view disk before hs sets) index changes
beside_made disk before blocks after hs sets fresh index h changes a kept first second others =
    ap (λ (p : Pair). option_and_then decoded_content (changed_pair_content (record disk { blocks = blocks }) p.at changes)) (pair_at_index (record disk { blocks = blocks }) after hs sets index h a)
    ∙ ap (λ r. option_and_then decoded_content (content_after_changes r changes)) (raw_content-stays disk (pair_elsewhere apart) others)
    ∙ ap (λ (p : Pair). option_and_then decoded_content (changed_pair_content disk p.at changes)) (sym (pair_at_index disk before hs sets index h a))
  where
    used : AllBlocksUsed sets ((header_address h).0 ∷ (header_address h).1 ∷ [])
    used =
        let all = subst (λ z. AllBlocksUsed sets (pairs_blocks (header_pairs disk z))) a.parts kept.used in
        let parts = subst (λ ps. AllBlocksUsed sets (pairs_blocks ps)) (map-append (λ x. disk_pair_at disk (header_address x)) a.front (h ∷ a.back)) all in
        let cut = subst (AllBlocksUsed sets) (flat_map-append (λ (s : Pair). s.at.0 ∷ s.at.1 ∷ []) (header_pairs disk a.front) (header_pairs disk (h ∷ a.back))) parts in
        let right = used_right sets (pairs_blocks (header_pairs disk a.front)) (pairs_blocks (header_pairs disk (h ∷ a.back))) cut in
        (right.0, (right.1.0, tt))

    apart : AreApart (header_address h) fresh
    apart = record {
      first_first = λ e. first (subst (IsUsedBlock sets) e used.0);
      first_second = λ e. second (subst (IsUsedBlock sets) e used.0);
      second_first = λ e. first (subst (IsUsedBlock sets) e used.1.0);
      second_second = λ e. second (subst (IsUsedBlock sets) e used.1.0);
    }

-- ---- the headers before and after

set_behind : {X : Type 0} (xs : List X) (y z w : X) (ys : List X) → set (xs ++ y ∷ z ∷ ys) (length xs + 1) w ≡ xs ++ y ∷ w ∷ ys
set_behind [] y z w ys = refl
set_behind (x ∷ xs) y z w ys = let e : suc (length xs) + 1 ≡ suc (length xs + 1) = omega arith in ap (λ (n : ℕ). set (x ∷ (xs ++ y ∷ z ∷ ys)) n w) e ∙ ap (λ t. x ∷ t) (set_behind xs y z w ys)

remove_third : {X : Type 0} (xs : List X) (y z w : X) (ys : List X) → remove (xs ++ y ∷ z ∷ w ∷ ys) (length xs + 2) ≡ xs ++ y ∷ z ∷ ys
remove_third [] y z w ys = refl
remove_third (x ∷ xs) y z w ys = let e : suc (length xs) + 2 ≡ suc (length xs + 2) = omega arith in ap (λ (n : ℕ). remove (x ∷ (xs ++ y ∷ z ∷ w ∷ ys)) n) e ∙ ap (λ t. x ∷ t) (remove_third xs y z w ys)

-- The headers `mid` behind `h` are removed. `new` and `f` replace `h`, and the blocks of `mid` may be no longer used.
pub record IsJoint (disk : Disk) (join : List Pair → ℕ → Pair → Pair → List Pair) (hs : List PairHeader) (index : ℕ) (h : PairHeader) (sets now : BlockStates) (items : List PairHeader) (new f : PairHeader) (target : Option (ℕ × ℕ)) : Type 0 where
  pub front : List PairHeader
  pub mid : List PairHeader
  pub back : List PairHeader
  pub parts : hs ≡ front ++ ((h ∷ mid) ++ back)
  pub are : items ≡ front ++ new ∷ f ∷ back
  pub pairs : (p q : Pair) → join (header_pairs disk hs) index p q ≡ header_pairs disk front ++ p ∷ q ∷ header_pairs disk back
  pub links : (ys : List Pair) (from : Option (ℕ × ℕ)) → AreLinkedByTails from (header_pairs disk (h ∷ mid) ++ ys) → AreLinkedByTails target ys
  pub size : length now ≡ length sets
  pub stays : (bs : List ℕ) → ((b : ℕ) → 1 ≤ occurrence_count b (pairs_blocks (header_pairs disk mid)) → occurrence_count b bs ≡ 0) → AllBlocksUsed sets bs → AllBlocksUsed now bs

module _ (disk : Disk) (hs : List PairHeader) (index : ℕ) (h : PairHeader) (sets : BlockStates) (new f : PairHeader) where
  pub joint_alone : (a : IsAt hs index h) → IsJoint disk pairs_split hs index h sets sets (insert (set hs index new) (index + 1) f) new f (tail_target (disk_pair_at disk (header_address h)).content.tail)
  joint_alone a = record {
    front = a.front;
    mid = [];
    back = a.back;
    parts = a.parts;
    are = ap₂ (λ (z : List PairHeader) (i : ℕ). insert (set z i new) (i + 1) f) a.parts a.place
        ∙ ap (λ z. insert z (length a.front + 1) f) (set-append_seam a.front h a.back new) ∙ insert_behind a.front new a.back f;
    pairs = λ p q.
        ap₂ (λ (z : List Pair) (i : ℕ). pairs_split z i p q)
        (ap (header_pairs disk) a.parts ∙ map-append (λ x. disk_pair_at disk (header_address x)) a.front (h ∷ a.back)) (a.place ∙ sym (length-map a.front (λ x. disk_pair_at disk (header_address x))))
        ∙ ap (λ z. insert z (length (header_pairs disk a.front) + 1) q) (set-append_seam (header_pairs disk a.front) (disk_pair_at disk (header_address h)) (header_pairs disk a.back) p)
        ∙ insert_behind (header_pairs disk a.front) p (header_pairs disk a.back) q;
    links = λ ys from l. l.1;
    size = refl;
    stays = λ bs f used. used;
  }

  pub joint_next : (n : HasNext hs index h)
      → IsJoint disk (pairs_joined kind.Next) hs index h sets (map_freeing sets (header_address n.next)) (remove (insert (set hs index new) (index + 1) f) (index + 2)) new f (tail_target (disk_pair_at disk (header_address n.next)).content.tail)
  joint_next n = record {
    front = n.front;
    mid = n.next ∷ [];
    back = n.back;
    parts = n.parts;
    are = ap₂ (λ (z : List PairHeader) (i : ℕ). remove (insert (set z i new) (i + 1) f) (i + 2)) n.parts n.place
        ∙ ap (λ z. remove (insert z (length n.front + 1) f) (length n.front + 2)) (set-append_seam n.front h (n.next ∷ n.back) new)
        ∙ ap (λ z. remove z (length n.front + 2)) (insert_behind n.front new (n.next ∷ n.back) f)
        ∙ remove_third n.front new f n.next n.back;
    pairs = λ p q.
        ap₂ (λ (z : List Pair) (i : ℕ). set (set z i p) (i + 1) q)
        (ap (header_pairs disk) n.parts ∙ map-append (λ x. disk_pair_at disk (header_address x)) n.front (h ∷ n.next ∷ n.back)) (n.place ∙ sym (length-map n.front (λ x. disk_pair_at disk (header_address x))))
        ∙ ap (λ z. set z (length (header_pairs disk n.front) + 1) q) (set-append_seam (header_pairs disk n.front) (disk_pair_at disk (header_address h)) (header_pairs disk (n.next ∷ n.back)) p)
        ∙ set_behind (header_pairs disk n.front) p (disk_pair_at disk (header_address n.next)) q (header_pairs disk n.back);
    links = λ ys from l. l.1.1;
    size = length-set (set sets (header_address n.next).0 Free) (header_address n.next).1 Free ∙ length-set sets (header_address n.next).0 Free;
    stays = λ bs none used.
        let first : 1 ≤ occurrence_count (header_address n.next).0 (pairs_blocks (header_pairs disk (n.next ∷ []))) = let m = count_here (header_address n.next).0 ((header_address n.next).1 ∷ []) in omega arith in
        let second : 1 ≤ occurrence_count (header_address n.next).1 (pairs_blocks (header_pairs disk (n.next ∷ []))) = let m = count_here (header_address n.next).1 [] in omega arith in
        both_released sets (header_address n.next) bs (none (header_address n.next).0 first) (none (header_address n.next).1 second) used;
  }

-- the headers, once the fresh pair is in the thread
abbrev pub headers_joined : Behind → List PairHeader → ℕ → PairHeader → PairHeader → List PairHeader
headers_joined b hs index new f = headers_without b (insert (set hs index new) (index + 1) f) (index + 2)

pub joint : (b : Behind) (disk : Disk) (history : List CallEvent) (hs : List PairHeader) (sets using : BlockStates) (index : ℕ) (h new f : PairHeader) → IsAt hs index h → source_index index b < length hs
    → IsJoint disk (pairs_joined b) hs index h using (map_without b using (thread_pair (kept_view disk history hs sets) (index + 1)).at) (headers_joined b hs index new f) new f (tail_target (thread_pair (kept_view disk history hs sets) (source_index index b)).content.tail)
joint kind.Empty disk history hs sets using index h new f a there =
    subst (λ (p : Pair). IsJoint disk (pairs_joined kind.Empty) hs index h using using (insert (set hs index new) (index + 1) f) new f (tail_target p.content.tail)) (sym (pair_at_index disk history hs sets index h a)) (joint_alone disk hs index h using new f a)
joint kind.Slots disk history hs sets using index h new f a there =
    subst (λ (p : Pair). IsJoint disk (pairs_joined kind.Slots) hs index h using using (insert (set hs index new) (index + 1) f) new f (tail_target p.content.tail)) (sym (pair_at_index disk history hs sets index h a)) (joint_alone disk hs index h using new f a)
joint kind.Next disk history hs sets using index h new f a there =
    let n = next_at hs index h a there in
    subst (λ (p : Pair). IsJoint disk (pairs_joined kind.Next) hs index h using (map_freeing using p.at) (remove (insert (set hs index new) (index + 1) f) (index + 2)) new f (tail_target p.content.tail))
    (sym (pair_at_index disk history hs sets (index + 1) n.next (there_at hs index h n))) (joint_next disk hs index h using new f n)

-- ---- the tail names it

module _ (disk : Disk) (before : List CallEvent) (blocks : Blocks) (after : List CallEvent) (join : List Pair → ℕ → Pair → Pair → List Pair) (hs : List PairHeader) (sets using now : BlockStates) (items : List PairHeader) (index : ℕ) (h new f : PairHeader) (fresh : ℕ × ℕ) (changes : List ContentChange) (c behind : PairContent)
    (a : IsAt hs index h) (j : IsJoint disk join hs index h using now items new f (tail_target behind.tail)) (kept : IsKeptOnDisk disk before hs sets) (made : complete_after (kept_view disk before hs sets) index changes ≡ Some c) (next : tail_target c.tail ≡ Some fresh)
    (commits : CommitsChanges disk before changes h (record disk { blocks = blocks }) after new) (others : KeepsOutsidePair (header_address h) disk.blocks blocks) (stay : OutsideStaysUnprogrammed (header_address h) before after)
    (beside : IsHeader disk before f) (at_fresh : header_address f ≡ fresh) (has : beside.content ≡ behind) (uses : SettlesTwo sets fresh using) where
  abbrev left : Disk
  left = record disk { blocks = blocks }

  abbrev olds : List PairHeader
  olds = h ∷ j.mid

  kept_parts : IsKeptOnDisk disk before (j.front ++ (olds ++ j.back)) sets
  kept_parts = subst (λ z. IsKeptOnDisk disk before z sets) j.parts kept

  whole : decoded_content commits.new ≡ Some c
  whole = let m = made_of_header disk before hs sets index h changes c a made in
      ap decoded_content (same_Some commits.new m.raw (sym commits.made ∙ m.is)) ∙ m.complete

  now_header : IsHeader left after new
  now_header =
      let on = (header_at_index disk before hs index h a kept.each).address in
      record {
        address = subst (IsPairAddress left) (sym commits.holds.same) (record {
          apart = on.apart;
          first = subst (λ n. (header_address h).0 < n) (sym others.count) on.first;
          second = subst (λ n. (header_address h).1 < n) (sym others.count) on.second;
        });
        held = commits.new;
        is_pair = commits.holds.is_pair;
        raw = ap (raw_content left) commits.holds.same ∙ commits.holds.content;
        content = c;
        complete = whole;
      }

  now_pair : disk_pair_at left (header_address new) ≡ record { at = header_address h; content = c }
  unfolding now_header
  now_pair = pair_on_content left (header_address new) c (header_content left after new now_header) ∙ ap (λ at. record { at = at; content = c }) commits.holds.same

  -- how often a block occurs in each part
  counts : (b : ℕ) → occurrence_count b (pairs_blocks (header_pairs disk j.front)) + (occurrence_count b (pairs_blocks (header_pairs disk (h ∷ []))) + (occurrence_count b (pairs_blocks (header_pairs disk j.mid)) + occurrence_count b (pairs_blocks (header_pairs disk j.back)))) ≤ 1
  counts b =
      let o = once_from_distinct (pairs_blocks (header_pairs disk (j.front ++ (olds ++ j.back)))) kept_parts.distinct b in
      let e = ap (λ ps. occurrence_count b (pairs_blocks ps)) (map-append (λ x. disk_pair_at disk (header_address x)) j.front (olds ++ j.back)) in
      let l = blocks_append (header_pairs disk j.front) (header_pairs disk (olds ++ j.back)) b in
      let m = blocks_append (header_pairs disk (h ∷ [])) (header_pairs disk (j.mid ++ j.back)) b in
      let d = ap (λ ps. occurrence_count b (pairs_blocks ps)) (map-append (λ x. disk_pair_at disk (header_address x)) j.mid j.back) in
      let k = blocks_append (header_pairs disk j.mid) (header_pairs disk j.back) b in
      omega arith

  used_parts : AllBlocksUsed sets (pairs_blocks (header_pairs disk j.front)) × (AllBlocksUsed sets (pairs_blocks (header_pairs disk (h ∷ []))) × (AllBlocksUsed sets (pairs_blocks (header_pairs disk j.mid)) × AllBlocksUsed sets (pairs_blocks (header_pairs disk j.back))))
  used_parts =
      let cut = both_used j.front (olds ++ j.back) kept_parts.used in
      let rest = both_used j.mid j.back cut.1.1.1 in
      (cut.0, ((cut.1.0, (cut.1.1.0, tt)), rest))
    where
      both_used : (xs ys : List PairHeader) → AllBlocksUsed sets (pairs_blocks (header_pairs disk (xs ++ ys))) → AllBlocksUsed sets (pairs_blocks (header_pairs disk xs)) × AllBlocksUsed sets (pairs_blocks (header_pairs disk ys))
      both_used xs ys used =
          let cut = subst (AllBlocksUsed sets) (ap pairs_blocks (map-append (λ x. disk_pair_at disk (header_address x)) xs ys) ∙ flat_map-append (λ (s : Pair). s.at.0 ∷ s.at.1 ∷ []) (header_pairs disk xs) (header_pairs disk ys)) used in
          (used_left sets (pairs_blocks (header_pairs disk xs)) (pairs_blocks (header_pairs disk ys)) cut, used_right sets (pairs_blocks (header_pairs disk xs)) (pairs_blocks (header_pairs disk ys)) cut)

  apart : AreApart (header_address h) fresh
  apart = record {
    first_first = λ e. uses.first_unused (subst (IsUsedBlock sets) e used_parts.1.0.0);
    first_second = λ e. uses.second_unused (subst (IsUsedBlock sets) e used_parts.1.0.0);
    second_first = λ e. uses.first_unused (subst (IsUsedBlock sets) e used_parts.1.0.1.0);
    second_second = λ e. uses.second_unused (subst (IsUsedBlock sets) e used_parts.1.0.1.0);
  }

  f_elsewhere : AreElsewhere (header_address f) ((header_address h).0 ∷ (header_address h).1 ∷ [])
  f_elsewhere = subst (λ x. AreElsewhere x ((header_address h).0 ∷ (header_address h).1 ∷ [])) (sym at_fresh) (fresh_elsewhere apart)

  pub f_header : IsHeader left after f
  f_header = header-stays f f_elsewhere others stay beside

  f_pair : disk_pair_at left (header_address f) ≡ record { at = fresh; content = behind }
  f_pair = disk_pair_at-stays disk (header_address f) f_elsewhere others
      ∙ pair_on_content disk (header_address f) beside.content (header_content disk before f beside)
      ∙ ap₂ (λ (at : ℕ × ℕ) (x : PairContent). record { at = at; content = x }) at_fresh has

  new_blocks : pairs_blocks (header_pairs left (new ∷ f ∷ [])) ≡ (header_address h).0 ∷ (header_address h).1 ∷ fresh.0 ∷ fresh.1 ∷ []
  new_blocks = ap₂ (λ (x y : ℕ × ℕ). x.0 ∷ x.1 ∷ y.0 ∷ y.1 ∷ []) commits.holds.same at_fresh

  -- what isn't among the blocks of those that go is used
  still_used : (bs : List ℕ) → ((b : ℕ) → 1 ≤ occurrence_count b (pairs_blocks (header_pairs disk j.mid)) → occurrence_count b bs ≡ 0) → AllBlocksUsed sets bs → AllBlocksUsed now bs
  still_used bs none used = j.stays bs none (used_still sets using fresh bs uses used)

  fresh_used : AllBlocksUsed now (fresh.0 ∷ fresh.1 ∷ [])
  fresh_used = j.stays (fresh.0 ∷ fresh.1 ∷ []) (λ b k.
      let used = used_at sets b (pairs_blocks (header_pairs disk j.mid)) used_parts.1.1.0 k in
      count_other b fresh.0 (fresh.1 ∷ []) (λ e. uses.first_unused (subst (IsUsedBlock sets) e used)) ∙ count_other b fresh.1 [] (λ e. uses.second_unused (subst (IsUsedBlock sets) e used)))
      (uses.first, (uses.second, tt))

  here_used : AllBlocksUsed now (pairs_blocks (header_pairs disk (h ∷ [])))
  here_used = still_used (pairs_blocks (header_pairs disk (h ∷ []))) (λ b k. let c = counts b in omega arith) used_parts.1.0

  replaced : IsReplaced disk before blocks after j.front olds (new ∷ f ∷ []) j.back ((header_address h).0 ∷ (header_address h).1 ∷ []) (fresh.0 ∷ fresh.1 ∷ []) now
  replaced = record {
    same = others;
    stay = stay;
    touched = λ b k. omega arith;
    free = two_unused sets fresh.0 fresh.1 (pairs_blocks (header_pairs disk (j.front ++ (olds ++ j.back)))) uses.first_unused uses.second_unused uses.apart kept_parts.used
        (once_from_distinct (pairs_blocks (header_pairs disk (j.front ++ (olds ++ j.back)))) kept_parts.distinct);
    each = (now_header, (f_header, tt));
    no_more = λ b. let e = ap (occurrence_count b) new_blocks in omega arith;
    links = λ ys from l. (
      l.0 ∙ ap Some (sym commits.holds.same),
      (ap (λ (p : Pair). tail_target p.content.tail) now_pair ∙ next ∙ ap Some (sym at_fresh), subst (λ t. AreLinkedByTails t ys) (ap (λ (p : Pair). tail_target p.content.tail) (sym f_pair)) (j.links ys from l)),
    );
    size = j.size ∙ uses.size ∙ kept_parts.size;
    used = (
      still_used (pairs_blocks (header_pairs disk j.front)) (λ b k. let c = counts b in omega arith) used_parts.0,
      (
        subst (AllBlocksUsed now) (sym new_blocks) (here_used.0, (here_used.1.0, fresh_used)),
        still_used (pairs_blocks (header_pairs disk j.back)) (λ b k. let c = counts b in omega arith) used_parts.1.1.1,
      ),
    );
  }

  pub joined_kept : IsKeptOnDisk left after items now
  joined_kept = subst (λ z. IsKeptOnDisk left after z now) (sym j.are)
      (kept_replaced disk before blocks after j.front olds (new ∷ f ∷ []) j.back ((header_address h).0 ∷ (header_address h).1 ∷ []) (fresh.0 ∷ fresh.1 ∷ []) sets now kept_parts replaced)

  pub joined_pairs : header_pairs left items ≡ join (header_pairs disk hs) index (record { at = header_address h; content = c }) (record { at = fresh; content = behind })
  joined_pairs = ap (header_pairs left) j.are
      ∙ pairs_are disk before blocks after j.front olds (new ∷ f ∷ []) j.back ((header_address h).0 ∷ (header_address h).1 ∷ []) (fresh.0 ∷ fresh.1 ∷ []) sets now kept_parts replaced
      ∙ ap₂ (λ p q. header_pairs disk j.front ++ p ∷ q ∷ header_pairs disk j.back) now_pair f_pair
      ∙ sym (j.pairs (record { at = header_address h; content = c }) (record { at = fresh; content = behind }))
