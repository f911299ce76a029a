-- A commit to one pair of the thread.
use Rattle.std.proofs.Common.{ℕ, zero, suc, ◌≡◌, ◌⊎◌, inl, inr, ◌<◌, true, false, List, [], ◌∷◌, ◌++◌, length, Option, Some, None, refl, sym, ap, ap₂, subst, ◌∙◌, arith, get_or, set, Ok, Err, Result}
use Rattle.std.specs.Prelude.{is_some, is_err}
use Rattle.lfs_thread.proofs.Common.{option_and_then, option_map, same_Some, map-append, length-map, set-append_seam, flat_map-append, Blocks, BlockStates, Disk, CallEvent, OnlyReadsSince, Slot, PairContent, FitsInPair, ContentChange, content_with_changes, AreNamed, RawSlot, RawContent, raw_content, content_at, decoded_content, decoded_slots, Pair, AreLinkedByTails, tail_target, pairs_blocks, occurrence_count, once_from_distinct, complete_parts, fits_pair, disk_of_blocks, header_address, CanCommit, CommitsChanges, IsPairAddress, KeepsOutsidePair, OutsideStaysUnprogrammed, HasChangedContent, HasOldContent, LossLeavesChanged, changed_pair_content, superblock_entry, superblock_anew, PairHeader, kept_view, disk_pair_at, header_pairs, IsHeader, AreHeaders, AllBlocksUsed, IsKeptOnDisk, thread_pair, empty_anchor, complete_after, CanChangePair, pairs_with_content, KeepsSuperblockFirst, IsPairWritten, IsPairCommitted, RefusesChanges, LossLeavesPair}
use Rattle.lfs_model.specs.format.Content.{decoded_slot, kind_of_type, decoded_struct}
use Rattle.lfs_model.proofs.Histories.{is_unprogrammed_byte-read_count}
use Rattle.lfs_device.specs.declared.error.Error.{Error}
use Rattle.lfs_device.specs.declared.geometry.Geometry.{Geometry}
use Rattle.lfs_pair.specs.declared.commits.Outcome.{Outcome}
use Rattle.lfs_pair.specs.declared.commits.Outcome.TheVariants.{Done, Full}
use Rattle.lfs_pair.specs.Commits.{HasWrittenContent}
use Rattle.lfs_thread.specs.ThreadSteps.{OnlyReadsThread}
use Rattle.lfs_thread.proofs.Keeping.{IsAsItWas, header_same, kept_thread, headers_right, header_content, pair_on_content, used_left, used_right, IsReplaced, pairs_are, kept_replaced}

-- ---- the header at an index

pub record IsAt (hs : List PairHeader) (index : ℕ) (h : PairHeader) : Type 0 where
  pub front : List PairHeader
  pub back : List PairHeader
  pub parts : hs ≡ front ++ h ∷ back
  pub place : index ≡ length front

pub at_index : (hs : List PairHeader) (index : ℕ) (d : PairHeader) → index < length hs → IsAt hs index (get_or hs index d)
at_index [] index d l = absurd (omega arith)
at_index (h ∷ hs) zero d l = record { front = []; back = hs; parts = refl; place = refl }
at_index (h ∷ hs) (suc index) d l =
    let a = at_index hs index d (omega arith) in
    record { front = h ∷ a.front; back = a.back; parts = ap (λ z. h ∷ z) a.parts; place = ap suc a.place }

pub pair_at_index : (disk : Disk) (history : List CallEvent) (hs : List PairHeader) (sets : BlockStates) (index : ℕ) (h : PairHeader) → IsAt hs index h
    → thread_pair (kept_view disk history hs sets) index ≡ disk_pair_at disk (header_address h)
pair_at_index disk history hs sets index h a =
    ap₂ (λ (z : List PairHeader) (i : ℕ). get_or (header_pairs disk z) i empty_anchor) a.parts a.place ∙ go a.front
  where
    go : (front : List PairHeader) → get_or (header_pairs disk (front ++ h ∷ a.back)) (length front) empty_anchor ≡ disk_pair_at disk (header_address h)
    go [] = refl
    go (x ∷ front) = go front

pub header_at_index : (disk : Disk) (history : List CallEvent) (hs : List PairHeader) (index : ℕ) (h : PairHeader) → IsAt hs index h → AreHeaders disk history hs → IsHeader disk history h
header_at_index disk history hs index h a are = (headers_right disk history a.front (h ∷ a.back) (subst (AreHeaders disk history) a.parts are)).0

-- ---- before the commit

complete_named : (s : RawSlot) (t : Slot) → decoded_slot s ≡ Some t → is_some s.name ≡ true
complete_named s t h = go s.name h
  where
    go : (o : Option (ℕ × List ℕ)) → option_and_then (λ name. option_map (λ struct. record {
      kind = kind_of_type name.0;
      name = name.1;
      struct = decoded_struct struct.0 struct.1;
      attributes = s.attributes;
    }) s.struct) o ≡ Some t → is_some o ≡ true
    go None k = absurd (cc)
    go (Some n) k = refl

pub named_from_complete : (slots : List RawSlot) (all : List Slot) → decoded_slots slots ≡ Some all → AreNamed slots
named_from_complete [] all h = tt
named_from_complete (s ∷ slots) all h =
    let p = complete_parts s slots all h in
    (complete_named s p.first p.is_first, named_from_complete slots p.others p.are_others)

-- a content that is complete comes of one that is there
pub record Completes (o : Option RawContent) (c : PairContent) : Type 0 where
  pub raw : RawContent
  pub is : o ≡ Some raw
  pub complete : decoded_content raw ≡ Some c
  pub names : AreNamed raw.slots

pub completes : (o : Option RawContent) (c : PairContent) → option_and_then decoded_content o ≡ Some c → Completes o c
completes None c h = absurd (cc)
completes (Some raw) c h = record { raw = raw; is = refl; complete = h; names = go (decoded_slots raw.slots) refl h }
  where
    go : (o : Option (List Slot)) → decoded_slots raw.slots ≡ o → option_map (λ slots. record { slots = slots; tail = raw.tail; move = raw.move }) o ≡ Some c → AreNamed raw.slots
    go None e k = absurd (cc)
    go (Some all) e k = named_from_complete raw.slots all e

-- what the changes make of the pair that the header is of
pub made_of_header : (disk : Disk) (history : List CallEvent) (hs : List PairHeader) (sets : BlockStates) (index : ℕ) (h : PairHeader) (changes : List ContentChange) (c : PairContent) → IsAt hs index h
    → complete_after (kept_view disk history hs sets) index changes ≡ Some c → Completes (changed_pair_content disk (header_address h) changes) c
made_of_header disk history hs sets index h changes c a made =
    completes (changed_pair_content disk (header_address h) changes) c (ap (λ (p : Pair). option_and_then decoded_content (changed_pair_content disk p.at changes)) (sym (pair_at_index disk history hs sets index h a)) ∙ made)

pub can_commit : (disk : Disk) (history : List CallEvent) (hs : List PairHeader) (sets : BlockStates) (index : ℕ) (h : PairHeader) (changes : List ContentChange) → IsAt hs index h → IsKeptOnDisk disk history hs sets
    → (c : PairContent) → complete_after (kept_view disk history hs sets) index changes ≡ Some c → CanCommit disk history h changes
can_commit disk history hs sets index h changes a kept c made =
    let is = header_at_index disk history hs index h a kept.each in
    let m = made_of_header disk history hs sets index h changes c a made in
    record {
      address = is.address;
      held = is.held;
      is_pair = is.is_pair;
      new = m.raw;
      changed = ap (λ o. option_and_then (λ (r : RawContent). content_with_changes r changes) o) (sym is.raw) ∙ m.is;
      names = m.names;
    }

-- ---- after it

module _ (disk : Disk) (before : List CallEvent) (blocks : Blocks) (after : List CallEvent) (hs : List PairHeader) (sets : BlockStates) (index : ℕ) (h new : PairHeader) (changes : List ContentChange)
    (a : IsAt hs index h) (kept : IsKeptOnDisk disk before hs sets) (can : CanChangePair (kept_view disk before hs sets) index changes)
    (commits : CommitsChanges disk before changes h (record disk { blocks = blocks }) after new) (others : KeepsOutsidePair (header_address h) disk.blocks blocks) (stay : OutsideStaysUnprogrammed (header_address h) before after) where
  abbrev left : Disk
  left = record disk { blocks = blocks }

  kept_parts : IsKeptOnDisk disk before (a.front ++ (h ∷ [] ++ a.back)) sets
  kept_parts = subst (λ z. IsKeptOnDisk disk before z sets) a.parts kept

  holds : HasWrittenContent left after (header_address h) new commits.new
  holds = commits.holds

  whole : decoded_content commits.new ≡ Some can.content
  whole = let m = made_of_header disk before hs sets index h changes can.content a can.made in
      ap decoded_content (same_Some commits.new m.raw (sym commits.made ∙ m.is)) ∙ m.complete

  now_header : IsHeader left after new
  now_header =
      let on = (header_at_index disk before hs index h a kept.each).address in
      record {
        address = subst (IsPairAddress left) (sym holds.same) (record {
          apart = on.apart;
          first = subst (λ n. (header_address h).0 < n) (sym others.count) on.first;
          second = subst (λ n. (header_address h).1 < n) (sym others.count) on.second;
        });
        held = commits.new;
        is_pair = holds.is_pair;
        raw = ap (raw_content left) holds.same ∙ holds.content;
        content = can.content;
        complete = whole;
      }

  now_pair : disk_pair_at left (header_address new) ≡ record { at = header_address h; content = can.content }
  unfolding now_header
  now_pair = pair_on_content left (header_address new) can.content (header_content left after new now_header) ∙ ap (λ at. record { at = at; content = can.content }) holds.same

  was_pair : thread_pair (kept_view disk before hs sets) index ≡ disk_pair_at disk (header_address h)
  was_pair = pair_at_index disk before hs sets index h a

  same_next : tail_target (disk_pair_at left (header_address new)).content.tail ≡ tail_target (disk_pair_at disk (header_address h)).content.tail
  same_next = ap (λ (p : Pair). tail_target p.content.tail) now_pair ∙ can.next ∙ ap (λ (p : Pair). tail_target p.content.tail) was_pair

  used_parts : AllBlocksUsed sets (pairs_blocks (header_pairs disk a.front)) × (AllBlocksUsed sets (pairs_blocks (header_pairs disk (h ∷ []))) × AllBlocksUsed sets (pairs_blocks (header_pairs disk a.back)))
  used_parts =
      let all = subst (λ ps. AllBlocksUsed sets (pairs_blocks ps)) (map-append (λ x. disk_pair_at disk (header_address x)) a.front (h ∷ a.back)) kept_parts.used in
      let cut = subst (AllBlocksUsed sets) (flat_map-append (λ (s : Pair). s.at.0 ∷ s.at.1 ∷ []) (header_pairs disk a.front) (header_pairs disk (h ∷ a.back))) all in
      let right = used_right sets (pairs_blocks (header_pairs disk a.front)) (pairs_blocks (header_pairs disk (h ∷ a.back))) cut in
      (used_left sets (pairs_blocks (header_pairs disk a.front)) (pairs_blocks (header_pairs disk (h ∷ a.back))) cut, ((right.0, (right.1.0, tt)), right.1.1))

  same_blocks : pairs_blocks (header_pairs left (new ∷ [])) ≡ pairs_blocks (header_pairs disk (h ∷ []))
  same_blocks = ap (λ (at : ℕ × ℕ). at.0 ∷ at.1 ∷ []) holds.same

  replaced : IsReplaced disk before blocks after a.front (h ∷ []) (new ∷ []) a.back ((header_address h).0 ∷ (header_address h).1 ∷ []) [] sets
  replaced = record {
    same = others;
    stay = stay;
    touched = λ b k. omega arith;
    free = λ b. let o = once_from_distinct (pairs_blocks (header_pairs disk (a.front ++ (h ∷ [] ++ a.back)))) kept_parts.distinct b in omega arith;
    each = (now_header, tt);
    no_more = λ b. let e = ap (occurrence_count b) same_blocks in omega arith;
    links = λ ys from l. (l.0 ∙ ap Some (sym holds.same), subst (λ n. AreLinkedByTails n ys) (sym same_next) l.1);
    size = kept_parts.size;
    used = (used_parts.0, (subst (AllBlocksUsed sets) (sym same_blocks) used_parts.1.0, used_parts.1.1));
  }

  set_there : set hs index new ≡ a.front ++ new ∷ a.back
  set_there = ap₂ (λ (z : List PairHeader) (i : ℕ). set z i new) a.parts a.place ∙ set-append_seam a.front h a.back new

  pub changed_kept : IsKeptOnDisk left after (set hs index new) sets
  changed_kept = subst (λ z. IsKeptOnDisk left after z sets) (sym set_there)
      (kept_replaced disk before blocks after a.front (h ∷ []) (new ∷ []) a.back ((header_address h).0 ∷ (header_address h).1 ∷ []) [] sets sets kept_parts replaced)

  pub changed_pairs : header_pairs left (set hs index new) ≡ pairs_with_content (kept_view disk before hs sets) index can.content
  changed_pairs = ap (header_pairs left) set_there
      ∙ pairs_are disk before blocks after a.front (h ∷ []) (new ∷ []) a.back ((header_address h).0 ∷ (header_address h).1 ∷ []) [] sets sets kept_parts replaced
      ∙ ap (λ p. header_pairs disk a.front ++ p ∷ header_pairs disk a.back) (now_pair ∙ ap (λ (p : Pair). record { at = p.at; content = can.content }) (sym was_pair))
      ∙ sym (set-append_seam (header_pairs disk a.front) (disk_pair_at disk (header_address h)) (header_pairs disk a.back) (record { at = (thread_pair (kept_view disk before hs sets) index).at; content = can.content }))
      ∙ ap₂ (λ (z : List Pair) (i : ℕ). set z i (record { at = (thread_pair (kept_view disk before hs sets) index).at; content = can.content }))
      (sym (ap (header_pairs disk) a.parts ∙ map-append (λ x. disk_pair_at disk (header_address x)) a.front (h ∷ a.back)))
      (length-map a.front (λ x. disk_pair_at disk (header_address x)) ∙ sym a.place)

  pub is_changed : IsPairCommitted (kept_view disk before hs sets) index changes (kept_view left after (set hs index new) sets)
  unfolding now_header
  is_changed = record {
    content = can.content;
    made = can.made;
    fits = fits_pair disk.block_size disk.page commits.new can.content commits.logged whole commits.fits;
    written = record {
      holds = ap (content_at left) (ap (λ (p : Pair). p.at) was_pair ∙ sym holds.same) ∙ header_content left after new now_header;
      others = subst (λ (p : Pair). KeepsOutsidePair p.at disk.blocks blocks) (sym was_pair) others;
      shape = record { block_size = refl; page = refl; order = refl; profile = refl; count = others.count };
      first = subst (λ (p : Pair). KeepsSuperblockFirst disk p.at can.content left) (sym was_pair) (λ begins has. commits.first superblock_entry begins (superblock_anew commits.new can.content commits.logged.slots whole has.0 has.1));
    };
    pairs = changed_pairs;
    thread = kept_thread left after (set hs index new) sets changed_kept;
    map = refl;
  }

-- the same for a device that keeps its geometry
module _ (geometry later : Geometry) (old blocks : Blocks) (before after : List CallEvent) (hs : List PairHeader) (sets : BlockStates) (index : ℕ) (h new : PairHeader) (changes : List ContentChange)
    (same : later ≡ geometry) (a : IsAt hs index h) (kept : IsKeptOnDisk (disk_of_blocks geometry old) before hs sets) (can : CanChangePair (kept_view (disk_of_blocks geometry old) before hs sets) index changes)
    (commits : CommitsChanges (disk_of_blocks geometry old) before changes h (disk_of_blocks later blocks) after new) (others : KeepsOutsidePair (header_address h) old blocks) (stay : OutsideStaysUnprogrammed (header_address h) before after) where
  commits_there : CommitsChanges (disk_of_blocks geometry old) before changes h (disk_of_blocks geometry blocks) after new
  commits_there = subst (λ k. CommitsChanges (disk_of_blocks geometry old) before changes h (disk_of_blocks k blocks) after new) same commits

  pub device_kept : IsKeptOnDisk (disk_of_blocks later blocks) after (set hs index new) sets
  device_kept = subst (λ k. IsKeptOnDisk (disk_of_blocks k blocks) after (set hs index new) sets) (sym same)
      (changed_kept (disk_of_blocks geometry old) before blocks after hs sets index h new changes a kept can commits_there others stay)

  pub device_changed : IsPairCommitted (kept_view (disk_of_blocks geometry old) before hs sets) index changes (kept_view (disk_of_blocks later blocks) after (set hs index new) sets)
  device_changed = subst (λ k. IsPairCommitted (kept_view (disk_of_blocks geometry old) before hs sets) index changes (kept_view (disk_of_blocks k blocks) after (set hs index new) sets)) (sym same)
      (is_changed (disk_of_blocks geometry old) before blocks after hs sets index h new changes a kept can commits_there others stay)

pub at_there : (disk : Disk) (hs : List PairHeader) (index : ℕ) (h : PairHeader) → index < length (header_pairs disk hs) → h ≡ get_or hs index h → IsAt hs index h
at_there disk hs index h below value =
    subst (IsAt hs index) (sym value) (at_index hs index h (let l = length-map hs (λ x. disk_pair_at disk (header_address x)) in omega arith))

-- ---- after reads alone

pub headers_read : (disk : Disk) (blocks : Blocks) (before after : List CallEvent) (hs : List PairHeader) → OnlyReadsSince blocks before after → AreHeaders disk before hs → AreHeaders disk after hs
headers_read disk blocks before after [] reads are = tt
headers_read disk blocks before after (h ∷ hs) reads are =
    (header_same disk disk.blocks before after h refl (there (header_address h).0) (there (header_address h).1) are.0, headers_read disk blocks before after hs reads are.1)
  where
    there : (b : ℕ) → IsAsItWas disk.blocks disk.blocks before after b
    there b = record { same = refl; stays = λ k was. is_unprogrammed_byte-read_count b k reads ∙ was }

pub kept_read : (disk : Disk) (blocks : Blocks) (before after : List CallEvent) (hs : List PairHeader) (sets : BlockStates) → OnlyReadsSince blocks before after → IsKeptOnDisk disk before hs sets → IsKeptOnDisk disk after hs sets
kept_read disk blocks before after hs sets reads kept = record {
  each = headers_read disk blocks before after hs reads kept.each;
  links = kept.links;
  distinct = kept.distinct;
  size = kept.size;
  used = kept.used;
}

pub set_same : (hs : List PairHeader) (index : ℕ) (h : PairHeader) → IsAt hs index h → set hs index h ≡ hs
set_same hs index h a = ap₂ (λ (z : List PairHeader) (i : ℕ). set z i h) a.parts a.place ∙ set-append_seam a.front h a.back h ∙ sym a.parts

-- ---- at a stop

pub left_in_thread : (disk : Disk) (history : List CallEvent) (hs : List PairHeader) (sets : BlockStates) (index : ℕ) (h : PairHeader) (changes : List ContentChange) (blocks : Blocks) → IsAt hs index h → IsKeptOnDisk disk history hs sets
    → (c : PairContent) → complete_after (kept_view disk history hs sets) index changes ≡ Some c → LossLeavesChanged disk (header_address h) changes blocks → LossLeavesPair (kept_view disk history hs sets) index changes blocks
left_in_thread disk history hs sets index h changes blocks a kept made_content made l = sides l.content
  where
    e : thread_pair (kept_view disk history hs sets) index ≡ disk_pair_at disk (header_address h)
    e = pair_at_index disk history hs sets index h a

    is : IsHeader disk history h
    is = header_at_index disk history hs index h a kept.each

    was : content_at disk (header_address h) ≡ Some (thread_pair (kept_view disk history hs sets) index).content
    was = header_content disk history h is ∙ ap (λ (p : Pair). Some p.content) (sym (e ∙ pair_on_content disk (header_address h) is.content (header_content disk history h is)))

    written : (c : PairContent) → content_at (record disk { blocks = blocks }) (header_address h) ≡ Some c → KeepsSuperblockFirst disk (header_address h) c (record disk { blocks = blocks })
        → IsPairWritten (kept_view disk history hs sets) index c (record disk { blocks = blocks })
    written c holds first = record {
      holds = ap (λ (p : Pair). content_at (record disk { blocks = blocks }) p.at) e ∙ holds;
      others = subst (λ (p : Pair). KeepsOutsidePair p.at disk.blocks blocks) (sym e) l.others;
      shape = record { block_size = refl; page = refl; order = refl; profile = refl; count = l.others.count };
      first = subst (λ (p : Pair). KeepsSuperblockFirst disk p.at c (record disk { blocks = blocks })) (sym e) first;
    }

    made_here : Completes (changed_pair_content disk (header_address h) changes) made_content
    made_here = made_of_header disk history hs sets index h changes made_content a made

    whole : (k : HasChangedContent disk (header_address h) changes (record disk { blocks = blocks })) → decoded_content k.new ≡ Some made_content
    whole k = ap decoded_content (same_Some k.new made_here.raw (sym k.made ∙ made_here.is)) ∙ made_here.complete

    sides : HasOldContent disk (header_address h) (record disk { blocks = blocks }) ⊎ HasChangedContent disk (header_address h) changes (record disk { blocks = blocks })
        → LossLeavesPair (kept_view disk history hs sets) index changes blocks
    sides (inl k) = record {
      content = (thread_pair (kept_view disk history hs sets) index).content;
      is = inl refl;
      written = written (thread_pair (kept_view disk history hs sets) index).content (ap (λ o. option_and_then decoded_content o) k.content ∙ was) (λ begins has. k.first superblock_entry begins);
    }
    sides (inr k) = record {
      content = made_content;
      is = inr (made, fits_pair disk.block_size disk.page k.new made_content k.logged (whole k) k.fits);
      written = written made_content (ap (λ o. option_and_then decoded_content o) k.now.content ∙ whole k) (λ begins has. k.now.first superblock_entry begins (superblock_anew k.new made_content k.logged.slots (whole k) has.0 has.1));
    }

-- ---- what a commit leaves, by its outcome

pub ok_outcome : (r : Result Outcome Error) → is_err r ≡ false → (r ≡ Ok Done) ⊎ (r ≡ Ok Full)
ok_outcome (Ok Done) e = inl refl
ok_outcome (Ok Full) e = inr refl
ok_outcome (Err error) e = absurd (cc)

pub full_kept : (disk new : Disk) (before after : List CallEvent) (hs : List PairHeader) (sets : BlockStates) (index : ℕ) (h same : PairHeader) → IsAt hs index h → IsKeptOnDisk disk before hs sets → new ≡ disk → same ≡ h
    → OnlyReadsSince disk.blocks before after → IsKeptOnDisk new after (set hs index same) sets
full_kept disk new before after hs sets index h same a kept e f reads =
    subst (λ d. IsKeptOnDisk d after (set hs index same) sets) (sym e)
    (subst (λ z. IsKeptOnDisk disk after z sets) (sym (ap (set hs index) f ∙ set_same hs index h a)) (kept_read disk disk.blocks before after hs sets reads kept))

pub full_read : (disk new : Disk) (before after : List CallEvent) (hs : List PairHeader) (sets : BlockStates) (index : ℕ) (h same : PairHeader) → IsAt hs index h → new ≡ disk → same ≡ h
    → OnlyReadsSince disk.blocks before after → OnlyReadsThread (kept_view disk before hs sets) (kept_view new after (set hs index same) sets)
full_read disk new before after hs sets index h same a e f reads = record {
  disk = e;
  reads = reads;
  pairs = ap₂ header_pairs e (ap (set hs index) f ∙ set_same hs index h a);
  map = refl;
}

-- what doesn't fit, in the words of the pair's commit, doesn't fit the thread's pair
pub refused : (disk new : Disk) (before after : List CallEvent) (hs : List PairHeader) (sets : BlockStates) (index : ℕ) (h same : PairHeader) (changes : List ContentChange) (c : PairContent) → IsAt hs index h
    → complete_after (kept_view disk before hs sets) index changes ≡ Some c
    → ((raw : RawContent) (d : PairContent) → changed_pair_content disk (header_address h) changes ≡ Some raw → decoded_content raw ≡ Some d → FitsInPair disk.block_size disk.page d → ⊥)
    → new ≡ disk → same ≡ h → OnlyReadsSince disk.blocks before after → RefusesChanges (kept_view disk before hs sets) index changes (kept_view new after (set hs index same) sets)
refused disk new before after hs sets index h same changes c a made too_large e f reads =
    let m = made_of_header disk before hs sets index h changes c a made in
    record {
      content = c;
      made = made;
      too_large = too_large m.raw c m.is m.complete;
      only = full_read disk new before after hs sets index h same a e f reads;
    }
