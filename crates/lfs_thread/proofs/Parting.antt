-- A split of a pair of the thread.
use Rattle.std.proofs.Common.{ℕ, zero, suc, ◌≡◌, ◌⊎◌, inl, inr, ◌+◌, ◌-◌, ◌<◌, true, List, [], ◌∷◌, ◌++◌, length, take, drop, Option, Some, None, refl, sym, ap, ap₂, subst, ◌∙◌, arith, set, insert}
use Rattle.lfs_thread.proofs.Common.{option_and_then, option_map, same_Some, map-append, length-map, flat_map-append, set-append_seam, Blocks, BlockStates, IsUsedBlock, disk_of_blocks, Disk, CallEvent, Slot, PairContent, FitsInPair, Gstate, Tail, zero_gstate, AreWellFormed, IsWellFormed, nothing_logged, HasFirstLogEntry, superblock_entry, ContentChange, RawSlot, RawContent, current_block, raw_content, content_at, content_after, decoded_content, decoded_slots, empty_raw_content, block_entries, Pair, AreLinkedByTails, tail_target, pairs_blocks, occurrence_count, once_from_distinct, complete_parts, complete_take, completed_from, fits_pair, header_address, IsPairAddress, CanCommit, HasOldContent, KeepsFirstEntry, changed_pair_content, content_after_changes, superblock_anew, KeepsOutsideBoth, KeptThread, PairHeader, kept_view, disk_pair_at, header_pairs, IsHeader, AllBlocksUsed, IsKeptOnDisk, thread_pair, CanSplitAt, map_using, pairs_split, HasSplit, SplitOnDisk, PartsFit, HasOldPair, LossLeavesThreadSplit}
use Rattle.std.proofs.lemmas.List.Edits.{insert-append_right}
use Rattle.lfs_device.specs.declared.geometry.Geometry.{Geometry}
use Rattle.lfs_model.proofs.Completed.{complete_drop}
use Rattle.lfs_pair.specs.HalfCut.{AreSplittable, SlotsFitPair, IsFittingSplit}
use Rattle.lfs_pair.specs.Split.{CanSplitPair, BothHaveSlots, SplitsPair, OutsideBothStaysUnprogrammed, LossLeavesSplit, PairsHaveParts, split_front, split_back}
use Rattle.lfs_thread.specs.ThreadSteps.{front_pair, back_pair}
use Rattle.lfs_thread.proofs.Coming.{two_unused, used_still, SettlesTwo, settles_two, held_address}
use Rattle.lfs_thread.proofs.Keeping.{kept_thread, header_content, pair_on_content, used_left, used_right, IsReplaced, pairs_are, kept_replaced}
use Rattle.lfs_thread.proofs.Changing.{IsAt, header_at_index, pair_at_index, Completes, made_of_header, can_commit}

-- ---- the parts of a complete content

record IsComplete (raw : RawContent) (c : PairContent) : Type 0 where
  pub slots : decoded_slots raw.slots ≡ Some c.slots
  pub tail : c.tail ≡ raw.tail
  pub move : c.move ≡ raw.move

is_complete : (raw : RawContent) (c : PairContent) → decoded_content raw ≡ Some c → IsComplete raw c
is_complete raw c h = go (decoded_slots raw.slots) refl h
  where
    go : (o : Option (List Slot)) → decoded_slots raw.slots ≡ o → option_map (λ slots. record { slots = slots; tail = raw.tail; move = raw.move }) o ≡ Some c → IsComplete raw c
    go None e k = absurd (cc)
    go (Some all) e k =
        let is : record { slots = all; tail = raw.tail; move = raw.move } ≡ c = same_Some (record { slots = all; tail = raw.tail; move = raw.move }) c k in
        record {
          slots = e ∙ ap (λ (d : PairContent). Some d.slots) is;
          tail = ap (λ (d : PairContent). d.tail) (sym is);
          move = ap (λ (d : PairContent). d.move) (sym is);
        }

front_complete : (raw : RawContent) (c : PairContent) (cut : ℕ) (fresh : ℕ × ℕ) → IsComplete raw c
    → decoded_content (split_front raw cut fresh) ≡ Some (record { slots = take cut c.slots; tail = Some (record { hard = true; to = fresh }); move = c.move })
front_complete raw c cut fresh is =
    ap (option_map (λ (slots : List Slot). record { slots = slots; tail = Some (record { hard = true; to = fresh }); move = raw.move })) (complete_take cut raw.slots c.slots is.slots)
    ∙ ap (λ m. Some (record { slots = take cut c.slots; tail = Some (record { hard = true; to = fresh }); move = m })) (sym is.move)

back_complete : (raw : RawContent) (c : PairContent) (cut : ℕ) → IsComplete raw c → decoded_content (split_back raw cut) ≡ Some (record { slots = drop cut c.slots; tail = c.tail; move = zero_gstate })
back_complete raw c cut is =
    ap (option_map (λ (slots : List Slot). record { slots = slots; tail = raw.tail; move = zero_gstate })) (complete_drop cut raw.slots c.slots is.slots)
    ∙ ap (λ t. Some (record { slots = drop cut c.slots; tail = t; move = zero_gstate })) (sym is.tail)

HaveParts-take : (n : ℕ) (slots : List RawSlot) → AreWellFormed slots → AreWellFormed (take n slots)
HaveParts-take zero slots have = tt
HaveParts-take (suc n) [] have = tt
HaveParts-take (suc n) (s ∷ slots) have = (have.0, HaveParts-take n slots have.1)

HaveParts-drop : (n : ℕ) (slots : List RawSlot) → AreWellFormed slots → AreWellFormed (drop n slots)
HaveParts-drop zero slots have = have
HaveParts-drop (suc n) [] have = tt
HaveParts-drop (suc n) (s ∷ slots) have = HaveParts-drop n slots have.1

slots_fit : (block_size page : ℕ) (slots : List RawSlot) (us : List Slot) (tail : Option Tail) (move : Gstate) → AreWellFormed slots → decoded_slots slots ≡ Some us → SlotsFitPair block_size page slots
    → FitsInPair block_size page (record { slots = us; tail = tail; move = move })
slots_fit block_size page slots us tail move have e fit =
    let f = fits_pair block_size page (record { slots = slots; tail = None; move = zero_gstate }) (record { slots = us; tail = None; move = zero_gstate })
    (record { slots = have; tail = tt; move = nothing_logged.move }) (completed_from (record { slots = slots; tail = None; move = zero_gstate }) us e) (record { size = fit.size; count = fit.count }) in
    record { size = f.size; count = f.count }

complete_length : (slots : List RawSlot) (all : List Slot) → decoded_slots slots ≡ Some all → length all ≡ length slots
complete_length [] all e = ap length (sym (same_Some [] all e))
complete_length (s ∷ slots) all e =
    let p = complete_parts s slots all e in
    ap length p.all_are ∙ ap suc (complete_length slots p.others p.are_others)

parts_of_cut : (old : KeptThread) (index : ℕ) (raw : RawContent) (c : PairContent) (cut : ℕ) (fresh : ℕ × ℕ) (disk : Disk) → IsComplete raw c → decoded_content raw ≡ Some c → IsWellFormed raw → IsFittingSplit old.disk.block_size old.disk.page raw.slots cut
    → BothHaveSlots old.disk.block_size old.disk.page raw cut
    → KeepsFirstEntry old.disk (thread_pair old index).at (Some (split_front raw cut fresh)) disk → PartsFit old index c cut fresh disk
parts_of_cut old index raw c cut fresh disk is whole logged is_cut is_inside keeps = record {
  inside = λ too_large. let i = is_inside (λ f. too_large (fits_pair old.disk.block_size old.disk.page raw c logged whole f)) in let l = complete_length raw.slots c.slots is.slots in (i.0, omega arith);
  front_fits = slots_fit old.disk.block_size old.disk.page (take cut raw.slots) (take cut c.slots) (Some (record { hard = true; to = fresh })) c.move
      (HaveParts-take cut raw.slots logged.slots) (complete_take cut raw.slots c.slots is.slots) is_cut.front;
  back_fits = slots_fit old.disk.block_size old.disk.page (drop cut raw.slots) (drop cut c.slots) c.tail zero_gstate
      (HaveParts-drop cut raw.slots logged.slots) (complete_drop cut raw.slots c.slots is.slots) is_cut.back;
  first = λ begins has. keeps superblock_entry begins (superblock_anew (split_front raw cut fresh) (record { slots = take cut c.slots; tail = Some (record { hard = true; to = fresh }); move = c.move })
      (HaveParts-take cut raw.slots logged.slots) (front_complete raw c cut fresh is) has.0 has.1);
}

pub insert_behind : {X : Type 0} (xs : List X) (y : X) (ys : List X) (z : X) → insert (xs ++ y ∷ ys) (length xs + 1) z ≡ xs ++ y ∷ z ∷ ys
insert_behind xs y ys z =
    let e : length xs + 1 - length xs ≡ 1 = omega arith in
    insert-append_right xs (y ∷ ys) (length xs) (length xs + 1) z refl (omega arith) ∙ ap (λ n. xs ++ insert (y ∷ ys) n z) e

-- ---- before

pub can_split : (disk : Disk) (before : List CallEvent) (hs : List PairHeader) (sets : BlockStates) (index : ℕ) (h : PairHeader) (fresh : ℕ × ℕ) (changes : List ContentChange) → IsAt hs index h → IsKeptOnDisk disk before hs sets
    → CanSplitAt (kept_view disk before hs sets) index fresh changes → CanSplitPair disk before h fresh changes
can_split disk before hs sets index h fresh changes a kept can =
    let commit = can_commit disk before hs sets index h changes a kept can.can.content can.can.made in
    let used = blocks_used in
    let unused = settles_two sets fresh can.held in
    record {
      commit = commit;
      fresh_is = held_address disk before hs sets fresh kept can.held;
      apart = record {
        first_first = λ e. unused.first_unused (subst (IsUsedBlock sets) e used.0);
        first_second = λ e. unused.second_unused (subst (IsUsedBlock sets) e used.0);
        second_first = λ e. unused.first_unused (subst (IsUsedBlock sets) e used.1);
        second_second = λ e. unused.second_unused (subst (IsUsedBlock sets) e used.1);
      };
      cut = subst (λ (r : RawContent). AreSplittable disk.block_size disk.page r.slots) (raw_same commit) can.cut;
    }
  where
    m : Completes (changed_pair_content disk (header_address h) changes) can.can.content
    m = made_of_header disk before hs sets index h changes can.can.content a can.can.made

    held_raw : (commit : CanCommit disk before h changes) → raw_content disk (header_address h) ≡ Some commit.held
    held_raw commit = ap (option_and_then (λ block. content_after empty_raw_content (block_entries block))) commit.is_pair.holds ∙ commit.is_pair.describes.content

    raw_same : (commit : CanCommit disk before h changes) → can.raw ≡ commit.new
    raw_same commit = same_Some can.raw commit.new (sym can.made ∙ ap (λ (p : Pair). changed_pair_content disk p.at changes) (pair_at_index disk before hs sets index h a)
        ∙ ap (λ r. content_after_changes r changes) (held_raw commit) ∙ commit.changed)

    blocks_used : IsUsedBlock sets (header_address h).0 × IsUsedBlock sets (header_address h).1
    blocks_used =
        let all = subst (λ z. AllBlocksUsed sets (pairs_blocks (header_pairs disk z))) a.parts kept.used in
        let parts = subst (λ ps. AllBlocksUsed sets (pairs_blocks ps)) (map-append (λ x. disk_pair_at disk (header_address x)) a.front (h ∷ a.back)) all in
        let cut = subst (AllBlocksUsed sets) (flat_map-append (λ (s : Pair). s.at.0 ∷ s.at.1 ∷ []) (header_pairs disk a.front) (header_pairs disk (h ∷ a.back))) parts in
        let right = used_right sets (pairs_blocks (header_pairs disk a.front)) (pairs_blocks (header_pairs disk (h ∷ a.back))) cut in
        (right.0, right.1.0)

-- ---- after

module _ (disk : Disk) (before : List CallEvent) (blocks : Blocks) (after : List CallEvent) (hs : List PairHeader) (sets : BlockStates) (index : ℕ) (h new f : PairHeader) (fresh : ℕ × ℕ) (changes : List ContentChange)
    (a : IsAt hs index h) (kept : IsKeptOnDisk disk before hs sets) (can : CanSplitAt (kept_view disk before hs sets) index fresh changes)
    (splits : SplitsPair disk before changes h fresh (record disk { blocks = blocks }) after new f) (others : KeepsOutsideBoth (header_address h) fresh disk.blocks blocks)
    (stay : OutsideBothStaysUnprogrammed (header_address h) fresh before after) where
  abbrev left : Disk
  left = record disk { blocks = blocks }

  abbrev now : BlockStates
  now = map_using sets fresh

  uses : SettlesTwo sets fresh now
  uses = settles_two sets fresh can.held

  abbrev c : PairContent
  c = can.can.content

  kept_parts : IsKeptOnDisk disk before (a.front ++ (h ∷ [] ++ a.back)) sets
  kept_parts = subst (λ z. IsKeptOnDisk disk before z sets) a.parts kept

  was_pair : thread_pair (kept_view disk before hs sets) index ≡ disk_pair_at disk (header_address h)
  was_pair = pair_at_index disk before hs sets index h a

  is_whole : decoded_content splits.new ≡ Some c
  is_whole = let m = made_of_header disk before hs sets index h changes c a can.can.made in ap decoded_content (same_Some splits.new m.raw (sym splits.made ∙ m.is)) ∙ m.complete

  parts_of : IsComplete splits.new c
  parts_of = is_complete splits.new c is_whole

  new_header : IsHeader left after new
  new_header =
      let on = (header_at_index disk before hs index h a kept.each).address in
      record {
        address = subst (IsPairAddress left) (sym splits.front.same) (record {
          apart = on.apart;
          first = subst (λ n. (header_address h).0 < n) (sym others.count) on.first;
          second = subst (λ n. (header_address h).1 < n) (sym others.count) on.second;
        });
        held = split_front splits.new splits.cut fresh;
        is_pair = splits.front.is_pair;
        raw = ap (raw_content left) splits.front.same ∙ splits.front.content;
        content = record { slots = take splits.cut c.slots; tail = Some (record { hard = true; to = fresh }); move = c.move };
        complete = front_complete splits.new c splits.cut fresh parts_of;
      }

  fresh_header : IsHeader left after f
  fresh_header = record {
    address = subst (IsPairAddress left) (sym splits.back.same) (let on = held_address disk before hs sets fresh kept can.held in record {
      apart = on.apart;
      first = subst (λ n. fresh.0 < n) (sym others.count) on.first;
      second = subst (λ n. fresh.1 < n) (sym others.count) on.second;
    });
    held = split_back splits.new splits.cut;
    is_pair = splits.back.is_pair;
    raw = ap (raw_content left) splits.back.same ∙ splits.back.content;
    content = record { slots = drop splits.cut c.slots; tail = c.tail; move = zero_gstate };
    complete = back_complete splits.new c splits.cut parts_of;
  }

  new_pair : disk_pair_at left (header_address new) ≡ front_pair (kept_view disk before hs sets) index c splits.cut fresh
  unfolding new_header
  new_pair = pair_on_content left (header_address new) (record { slots = take splits.cut c.slots; tail = Some (record { hard = true; to = fresh }); move = c.move }) (header_content left after new new_header)
      ∙ ap (λ at. record { at = at; content = record { slots = take splits.cut c.slots; tail = Some (record { hard = true; to = fresh }); move = c.move } }) (splits.front.same ∙ ap (λ (p : Pair). p.at) (sym was_pair))

  fresh_pair : disk_pair_at left (header_address f) ≡ back_pair c splits.cut fresh
  unfolding fresh_header
  fresh_pair = pair_on_content left (header_address f) (record { slots = drop splits.cut c.slots; tail = c.tail; move = zero_gstate }) (header_content left after f fresh_header)
      ∙ ap (λ at. record { at = at; content = record { slots = drop splits.cut c.slots; tail = c.tail; move = zero_gstate } }) splits.back.same

  used_parts : AllBlocksUsed sets (pairs_blocks (header_pairs disk a.front)) × (AllBlocksUsed sets (pairs_blocks (header_pairs disk (h ∷ []))) × AllBlocksUsed sets (pairs_blocks (header_pairs disk a.back)))
  used_parts =
      let all = subst (λ ps. AllBlocksUsed sets (pairs_blocks ps)) (map-append (λ x. disk_pair_at disk (header_address x)) a.front (h ∷ a.back)) kept_parts.used in
      let cut = subst (AllBlocksUsed sets) (flat_map-append (λ (s : Pair). s.at.0 ∷ s.at.1 ∷ []) (header_pairs disk a.front) (header_pairs disk (h ∷ a.back))) all in
      let right = used_right sets (pairs_blocks (header_pairs disk a.front)) (pairs_blocks (header_pairs disk (h ∷ a.back))) cut in
      (used_left sets (pairs_blocks (header_pairs disk a.front)) (pairs_blocks (header_pairs disk (h ∷ a.back))) cut, ((right.0, (right.1.0, tt)), right.1.1))

  new_blocks : pairs_blocks (header_pairs left (new ∷ f ∷ [])) ≡ (header_address h).0 ∷ (header_address h).1 ∷ fresh.0 ∷ fresh.1 ∷ []
  new_blocks = ap₂ (λ (x y : ℕ × ℕ). x.0 ∷ x.1 ∷ y.0 ∷ y.1 ∷ []) splits.front.same splits.back.same

  same_next : tail_target (disk_pair_at left (header_address f)).content.tail ≡ tail_target (disk_pair_at disk (header_address h)).content.tail
  same_next = ap (λ (p : Pair). tail_target p.content.tail) fresh_pair ∙ can.can.next ∙ ap (λ (p : Pair). tail_target p.content.tail) was_pair

  replaced : IsReplaced disk before blocks after a.front (h ∷ []) (new ∷ f ∷ []) a.back ((header_address h).0 ∷ (header_address h).1 ∷ fresh.0 ∷ fresh.1 ∷ []) (fresh.0 ∷ fresh.1 ∷ []) now
  replaced = record {
    same = others;
    stay = stay;
    touched = λ b k. omega arith;
    free = two_unused sets fresh.0 fresh.1 (pairs_blocks (header_pairs disk (a.front ++ (h ∷ [] ++ a.back)))) uses.first_unused uses.second_unused uses.apart kept_parts.used
        (once_from_distinct (pairs_blocks (header_pairs disk (a.front ++ (h ∷ [] ++ a.back)))) kept_parts.distinct);
    each = (new_header, (fresh_header, tt));
    no_more = λ b. let e = ap (occurrence_count b) new_blocks in omega arith;
    links = λ ys from l. (
      l.0 ∙ ap Some (sym splits.front.same),
      (ap (λ (p : Pair). tail_target p.content.tail) new_pair ∙ ap Some (sym splits.back.same), subst (λ n. AreLinkedByTails n ys) (sym same_next) l.1),
    );
    size = uses.size ∙ kept_parts.size;
    used = (
      used_still sets now fresh (pairs_blocks (header_pairs disk a.front)) uses used_parts.0,
      (
        subst (AllBlocksUsed now) (sym new_blocks) ((used_still sets now fresh (pairs_blocks (header_pairs disk (h ∷ []))) uses used_parts.1.0).0, ((used_still sets now fresh (pairs_blocks (header_pairs disk (h ∷ []))) uses used_parts.1.0).1.0, (uses.first, (uses.second, tt)))),
        used_still sets now fresh (pairs_blocks (header_pairs disk a.back)) uses used_parts.1.1,
      ),
    );
  }

  abbrev headers : List PairHeader
  headers = insert (set hs index new) (index + 1) f

  headers_are : headers ≡ a.front ++ new ∷ f ∷ a.back
  headers_are = ap₂ (λ (z : List PairHeader) (i : ℕ). insert (set z i new) (i + 1) f) a.parts a.place
      ∙ ap (λ z. insert z (length a.front + 1) f) (set-append_seam a.front h a.back new) ∙ insert_behind a.front new a.back f

  pub split_kept : IsKeptOnDisk left after headers now
  split_kept = subst (λ z. IsKeptOnDisk left after z now) (sym headers_are)
      (kept_replaced disk before blocks after a.front (h ∷ []) (new ∷ f ∷ []) a.back ((header_address h).0 ∷ (header_address h).1 ∷ fresh.0 ∷ fresh.1 ∷ []) (fresh.0 ∷ fresh.1 ∷ []) sets now kept_parts replaced)

  split_pairs : header_pairs left headers ≡ pairs_split (header_pairs disk hs) index (front_pair (kept_view disk before hs sets) index c splits.cut fresh) (back_pair c splits.cut fresh)
  split_pairs = ap (header_pairs left) headers_are
      ∙ pairs_are disk before blocks after a.front (h ∷ []) (new ∷ f ∷ []) a.back ((header_address h).0 ∷ (header_address h).1 ∷ fresh.0 ∷ fresh.1 ∷ []) (fresh.0 ∷ fresh.1 ∷ []) sets now kept_parts replaced
      ∙ ap₂ (λ p q. header_pairs disk a.front ++ p ∷ q ∷ header_pairs disk a.back) new_pair fresh_pair
      ∙ sym (there)
    where
      p : Pair
      p = front_pair (kept_view disk before hs sets) index c splits.cut fresh

      there : pairs_split (header_pairs disk hs) index (front_pair (kept_view disk before hs sets) index c splits.cut fresh) (back_pair c splits.cut fresh)
          ≡ header_pairs disk a.front ++ front_pair (kept_view disk before hs sets) index c splits.cut fresh ∷ back_pair c splits.cut fresh ∷ header_pairs disk a.back
      there = ap₂ (λ (z : List Pair) (i : ℕ). pairs_split z i (front_pair (kept_view disk before hs sets) index c splits.cut fresh) (back_pair c splits.cut fresh))
          (ap (header_pairs disk) a.parts ∙ map-append (λ x. disk_pair_at disk (header_address x)) a.front (h ∷ a.back)) (a.place ∙ sym (length-map a.front (λ x. disk_pair_at disk (header_address x))))
          ∙ ap (λ z. insert z (length (header_pairs disk a.front) + 1) (back_pair c splits.cut fresh)) (set-append_seam (header_pairs disk a.front) (disk_pair_at disk (header_address h)) (header_pairs disk a.back) (front_pair (kept_view disk before hs sets) index c splits.cut fresh))
          ∙ insert_behind (header_pairs disk a.front) (front_pair (kept_view disk before hs sets) index c splits.cut fresh) (header_pairs disk a.back) (back_pair c splits.cut fresh)

  pub is_split : HasSplit (kept_view disk before hs sets) index fresh changes (kept_view left after headers now)
  is_split = record {
    content = c;
    made = can.can.made;
    cut = splits.cut;
    parts = parts_of_cut (kept_view disk before hs sets) index splits.new c splits.cut fresh left parts_of is_whole splits.logged splits.is_cut splits.inside
        (subst (λ (p : Pair). KeepsFirstEntry disk p.at (Some (split_front splits.new splits.cut fresh)) left) (sym was_pair) splits.first);
    pairs = split_pairs;
    thread = kept_thread left after headers now split_kept;
    map = refl;
  }

-- ---- in the code's words

module _ (geometry later : Geometry) (old blocks : Blocks) (before after : List CallEvent) (hs : List PairHeader) (sets : BlockStates) (index : ℕ) (h new f : PairHeader) (fresh : ℕ × ℕ) (changes : List ContentChange)
    (same : later ≡ geometry) (a : IsAt hs index h) (kept : IsKeptOnDisk (disk_of_blocks geometry old) before hs sets) (can : CanSplitAt (kept_view (disk_of_blocks geometry old) before hs sets) index fresh changes)
    (splits : SplitsPair (disk_of_blocks geometry old) before changes h fresh (disk_of_blocks later blocks) after new f) (others : KeepsOutsideBoth (header_address h) fresh old blocks)
    (stay : OutsideBothStaysUnprogrammed (header_address h) fresh before after) (items : List PairHeader) (are : items ≡ insert (set hs index new) (index + 1) f) (now : BlockStates) (is_now : now ≡ map_using sets fresh) where
  splits_there : SplitsPair (disk_of_blocks geometry old) before changes h fresh (disk_of_blocks geometry blocks) after new f
  splits_there = subst (λ k. SplitsPair (disk_of_blocks geometry old) before changes h fresh (disk_of_blocks k blocks) after new f) same splits

  pub device_split : IsKeptOnDisk (disk_of_blocks later blocks) after items now
  device_split = subst (λ k. IsKeptOnDisk (disk_of_blocks k blocks) after items now) (sym same) (subst (λ z. IsKeptOnDisk (disk_of_blocks geometry blocks) after z now) (sym are) (subst (λ m. IsKeptOnDisk (disk_of_blocks geometry blocks) after (insert (set hs index new) (index + 1) f) m) (sym is_now)
      (split_kept (disk_of_blocks geometry old) before blocks after hs sets index h new f fresh changes a kept can splits_there others stay)))

  pub device_is_split : HasSplit (kept_view (disk_of_blocks geometry old) before hs sets) index fresh changes (kept_view (disk_of_blocks later blocks) after items now)
  device_is_split = subst (λ k. HasSplit (kept_view (disk_of_blocks geometry old) before hs sets) index fresh changes (kept_view (disk_of_blocks k blocks) after items now)) (sym same)
      (subst (λ z. HasSplit (kept_view (disk_of_blocks geometry old) before hs sets) index fresh changes (kept_view (disk_of_blocks geometry blocks) after z now)) (sym are)
      (subst (λ m. HasSplit (kept_view (disk_of_blocks geometry old) before hs sets) index fresh changes (kept_view (disk_of_blocks geometry blocks) after (insert (set hs index new) (index + 1) f) m)) (sym is_now)
      (is_split (disk_of_blocks geometry old) before blocks after hs sets index h new f fresh changes a kept can splits_there others stay)))

-- what stands behind the header at an index is put there, and then it and the header are set
pub placed : (hs : List PairHeader) (index : ℕ) (h x new f : PairHeader) → IsAt hs index h → set (set (insert hs (index + 1) x) index new) (index + 1) f ≡ insert (set hs index new) (index + 1) f
placed hs index h x new f a =
    ap₂ (λ (z : List PairHeader) (i : ℕ). set (set (insert z (i + 1) x) i new) (i + 1) f) a.parts a.place
    ∙ ap (λ z. set (set z (length a.front) new) (length a.front + 1) f) (insert_behind a.front h a.back x)
    ∙ ap (λ z. set z (length a.front + 1) f) (set-append_seam a.front h (x ∷ a.back) new)
    ∙ behind a.front
    ∙ sym (ap₂ (λ (z : List PairHeader) (i : ℕ). insert (set z i new) (i + 1) f) a.parts a.place
    ∙ ap (λ z. insert z (length a.front + 1) f) (set-append_seam a.front h a.back new) ∙ insert_behind a.front new a.back f)
  where
    behind : (front : List PairHeader) → set (front ++ new ∷ x ∷ a.back) (length front + 1) f ≡ front ++ new ∷ f ∷ a.back
    behind [] = refl
    behind (y ∷ front) = let e : suc (length front) + 1 ≡ suc (length front + 1) = omega arith in ap (λ (n : ℕ). set (y ∷ (front ++ new ∷ x ∷ a.back)) n f) e ∙ ap (λ z. y ∷ z) (behind front)

-- ---- at a stop

pub left_by_split : (disk : Disk) (before : List CallEvent) (hs : List PairHeader) (sets : BlockStates) (index : ℕ) (h : PairHeader) (fresh : ℕ × ℕ) (changes : List ContentChange) (blocks : Blocks) → IsAt hs index h → IsKeptOnDisk disk before hs sets
    → CanSplitAt (kept_view disk before hs sets) index fresh changes → LossLeavesSplit disk (header_address h) fresh changes blocks
    → LossLeavesThreadSplit (kept_view disk before hs sets) index fresh changes blocks
left_by_split disk before hs sets index h fresh changes blocks a kept can l = record {
  others = subst (λ (p : Pair). KeepsOutsideBoth p.at fresh disk.blocks blocks) (sym e) l.others;
  content = sides l.content;
}
  where
    e : thread_pair (kept_view disk before hs sets) index ≡ disk_pair_at disk (header_address h)
    e = pair_at_index disk before hs sets index h a

    is : IsHeader disk before h
    is = header_at_index disk before hs index h a kept.each

    was : content_at disk (header_address h) ≡ Some (thread_pair (kept_view disk before hs sets) index).content
    was = header_content disk before h is ∙ ap (λ (p : Pair). Some p.content) (sym (e ∙ pair_on_content disk (header_address h) is.content (header_content disk before h is)))

    made_whole : (raw : RawContent) → changed_pair_content disk (header_address h) changes ≡ Some raw → decoded_content raw ≡ Some can.can.content
    made_whole raw made = let m = made_of_header disk before hs sets index h changes can.can.content a can.can.made in ap decoded_content (same_Some raw m.raw (sym made ∙ m.is)) ∙ m.complete

    whole : (raw : RawContent) → changed_pair_content disk (header_address h) changes ≡ Some raw → IsComplete raw can.can.content
    whole raw made = is_complete raw can.can.content (made_whole raw made)

    sides : HasOldContent disk (header_address h) (record disk { blocks = blocks }) ⊎ PairsHaveParts disk (header_address h) fresh changes (record disk { blocks = blocks })
        → HasOldPair (kept_view disk before hs sets) index (record disk { blocks = blocks })
        ⊎ SplitOnDisk (kept_view disk before hs sets) index changes fresh (record disk { blocks = blocks })
    sides (inl k) = inl (record {
      holds = ap (λ (p : Pair). content_at (record disk { blocks = blocks }) p.at) e ∙ ap (λ o. option_and_then decoded_content o) k.content ∙ was;
      first = subst (λ (p : Pair). HasFirstLogEntry (current_block disk p.at) superblock_entry → HasFirstLogEntry (current_block (record disk { blocks = blocks }) p.at) superblock_entry) (sym e) (k.first superblock_entry);
    })
    sides (inr k) = inr (record {
      content = can.can.content;
      made = can.can.made;
      cut = k.cut;
      front = ap (λ (p : Pair). content_at (record disk { blocks = blocks }) p.at) e ∙ ap (λ o. option_and_then decoded_content o) k.front.content ∙ front_complete k.new can.can.content k.cut fresh (whole k.new k.made);
      back = ap (λ o. option_and_then decoded_content o) k.back ∙ back_complete k.new can.can.content k.cut (whole k.new k.made);
      parts = parts_of_cut (kept_view disk before hs sets) index k.new can.can.content k.cut fresh (record disk { blocks = blocks }) (whole k.new k.made) (made_whole k.new k.made) k.logged k.is_cut k.inside
          (subst (λ (p : Pair). KeepsFirstEntry disk p.at (Some (split_front k.new k.cut fresh)) (record disk { blocks = blocks })) (sym e) k.front.first);
    })
