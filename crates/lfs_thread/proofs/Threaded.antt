-- A fresh pair, before a tail names it and after.
use Rattle.std.proofs.Common.{ℕ, arith, length-append, ◌≡◌, ◌⊎◌, inl, inr, get_or, ◌+◌, ◌<◌, ◌≤◌, List, [], ◌∷◌, length, Some, refl, sym, ap, ap₂, subst, ◌∙◌, set, insert, remove}
use Rattle.lfs_thread.proofs.Common.{same_Some, map-append, flat_map-append, Blocks, option_and_then, fits_pair, HasFirstLogEntry, superblock_entry, BlockStates, IsUsedBlock, Disk, disk_of_blocks, LossLeavesAtWorst, CallEvent, HoldsAtLosses, OnlyReadsSince, LeftByLoss, AllCallsSince-behind, HoldsAtLosses-weaker, HoldsAtLosses-worst, goes_on_by, PairContent, FitsInPair, ContentChange, RawContent, current_block, raw_content, content_at, decoded_content, Pair, pairs_blocks, header_address, IsWellFormed, CanCommit, CommitsChanges, HasChangedContent, HasOldContent, KeepsFirstEntry, LossLeavesChanged, changed_pair_content, KeepsOutsidePair, OutsideStaysUnprogrammed, AreApart, KeepsOutsideBoth, superblock_anew, AreElsewhere, raw_content-stays, KeptThread, PairHeader, kept_view, disk_pair_at, header_pairs, IsHeader, AllBlocksUsed, IsKeptOnDisk, CleanLossLeaves, thread_pair, empty_anchor, RefusesThreading, complete_after, CanThreadIn, HasSuperblock, HasOldPair, KeepsSuperblockFirst, map_using, tail_target, pair_revision, length-map, length-set, map_freeing, Used}
use Rattle.std.proofs.lemmas.List.Edits.{length-insert}
use Rattle.lfs_device.specs.declared.geometry.Geometry.{Geometry}
use Rattle.lfs_thread.specs.Joins.{CanDropCopied, CanHold, IsJoined, IsWrittenBehind, JoinedOnDisk, LossLeavesJoined, map_without, pair_behind, pairs_joined, source_index}
use Rattle.lfs_thread.specs.Moves.{BeginsWithAnySuperblock}
use Rattle.lfs_thread.specs.declared.joins.Behind.{Behind}
use Rattle.lfs_thread.specs.declared.joins.Behind.TheVariants as kind
use Rattle.lfs_thread.proofs.Keeping.{kept_thread, header_content, pair_on_content, used_right, pair_elsewhere, fresh_elsewhere, first_stays}
use Rattle.lfs_thread.proofs.Changing.{IsAt, Completes, can_commit, kept_read, header_at_index, pair_at_index, made_of_header}
use Rattle.lfs_thread.proofs.Coming.{SettlesTwo, settles_two, held_address}
use Rattle.lfs_thread.proofs.Dropped.{remove_behind}
use Rattle.lfs_thread.proofs.Parting.{insert_behind}
use Rattle.lfs_thread.proofs.Reported.{keeps_by_both, keeps_by_fresh}
use Rattle.lfs_thread.proofs.Joined.{IsJoint, beside_pairs, beside_kept, beside_made, headers_joined, joint, joined_kept, joined_pairs, f_header}
use Rattle.lfs_thread.proofs.WrittenBehind.{IsBehindHeader, revision_at, written_header}

-- ---- before a tail names it, and after

module _ (disk : Disk) (history : List CallEvent) (hs : List PairHeader) (sets : BlockStates) (index : ℕ) (h : PairHeader) (fresh : ℕ × ℕ) (changes : List ContentChange)
    (a : IsAt hs index h) (kept : IsKeptOnDisk disk history hs sets) (can : CanThreadIn (kept_view disk history hs sets) index fresh changes)
    (b : Behind) (mid : Blocks) (then : List CallEvent) (others : KeepsOutsidePair fresh disk.blocks mid) (stay : OutsideStaysUnprogrammed fresh history then) where
  abbrev old : KeptThread
  old = kept_view disk history hs sets

  abbrev beside : Disk
  beside = record disk { blocks = mid }

  uses : SettlesTwo sets fresh (map_using sets fresh)
  uses = settles_two sets fresh can.held

  pub still_kept : IsKeptOnDisk beside then hs sets
  still_kept = beside_kept disk history mid then hs sets fresh kept uses.first_unused uses.second_unused others stay

  pub still_pairs : header_pairs beside hs ≡ header_pairs disk hs
  still_pairs = beside_pairs disk history mid then hs sets fresh kept uses.first_unused uses.second_unused others stay

  pub still_made : complete_after (kept_view beside then hs sets) index changes ≡ Some can.content
  still_made = beside_made disk history mid then hs sets fresh index h changes a kept uses.first_unused uses.second_unused others ∙ can.made

  pub then_can : CanCommit beside then h changes
  then_can = can_commit beside then hs sets index h changes a still_kept can.content still_made

  was_pair : thread_pair old index ≡ disk_pair_at disk (header_address h)
  was_pair = pair_at_index disk history hs sets index h a

  is_header : IsHeader disk history h
  is_header = header_at_index disk history hs index h a kept.each

  was_content : content_at disk (header_address h) ≡ Some (thread_pair old index).content
  was_content = header_content disk history h is_header
      ∙ ap (λ (p : Pair). Some p.content) (sym (was_pair ∙ pair_on_content disk (header_address h) is_header.content (header_content disk history h is_header)))

  blocks_used : AllBlocksUsed sets ((header_address h).0 ∷ (header_address h).1 ∷ [])
  blocks_used =
      let all = subst (λ z. AllBlocksUsed sets (pairs_blocks (header_pairs disk z))) a.parts kept.used in
      let parts = subst (λ ps. AllBlocksUsed sets (pairs_blocks ps)) (map-append (λ x. disk_pair_at disk (header_address x)) a.front (h ∷ a.back)) all in
      let cut = subst (AllBlocksUsed sets) (flat_map-append (λ (s : Pair). s.at.0 ∷ s.at.1 ∷ []) (header_pairs disk a.front) (header_pairs disk (h ∷ a.back))) parts in
      let right = used_right sets (pairs_blocks (header_pairs disk a.front)) (pairs_blocks (header_pairs disk (h ∷ a.back))) cut in
      (right.0, (right.1.0, tt))

  pub apart : AreApart (header_address h) fresh
  apart = record {
    first_first = λ e. uses.first_unused (subst (IsUsedBlock sets) e blocks_used.0);
    first_second = λ e. uses.second_unused (subst (IsUsedBlock sets) e blocks_used.0);
    second_first = λ e. uses.first_unused (subst (IsUsedBlock sets) e blocks_used.1.0);
    second_second = λ e. uses.second_unused (subst (IsUsedBlock sets) e blocks_used.1.0);
  }

  same_raw : raw_content beside (header_address h) ≡ raw_content disk (header_address h)
  same_raw = raw_content-stays disk (pair_elsewhere apart) others

  -- the log that holds begins as it did
  still_first : (left : Disk) (c : PairContent) → (HasFirstLogEntry (current_block beside (header_address h)) superblock_entry → HasSuperblock c → HasFirstLogEntry (current_block left (header_address h)) superblock_entry)
      → KeepsSuperblockFirst disk (header_address h) c left
  still_first left c f begins has = f (first_stays disk (pair_elsewhere apart) others superblock_entry begins) has

  -- ---- a stop before the commit

  pub old_beside : (left : Blocks) → KeepsOutsidePair fresh disk.blocks left → HasOldPair old index (record disk { blocks = left })
  old_beside left keeps = record {
    holds = ap (λ (p : Pair). content_at (record disk { blocks = left }) p.at) was_pair
        ∙ ap (λ r. option_and_then decoded_content r) (raw_content-stays disk (pair_elsewhere apart) keeps) ∙ was_content;
    first = subst (λ (p : Pair). HasFirstLogEntry (current_block disk p.at) superblock_entry → HasFirstLogEntry (current_block (record disk { blocks = left }) p.at) superblock_entry) (sym was_pair)
        (first_stays disk (pair_elsewhere apart) keeps superblock_entry);
  }

  pub left_beside : (left : Blocks) → KeepsOutsidePair fresh disk.blocks left → LossLeavesJoined old index b fresh changes left
  left_beside left keeps = record { others = keeps_by_fresh (thread_pair old index).at fresh keeps; content = inl (old_beside left keeps) }

  -- ---- a stop in the commit, and its end

  pub old_still : (left : Blocks) → HasOldContent beside (header_address h) (record disk { blocks = left }) → HasOldPair old index (record disk { blocks = left })
  old_still left k = record {
    holds = ap (λ (p : Pair). content_at (record disk { blocks = left }) p.at) was_pair ∙ ap (λ o. option_and_then decoded_content o) (k.content ∙ same_raw) ∙ was_content;
    first = subst (λ (p : Pair). HasFirstLogEntry (current_block disk p.at) superblock_entry → HasFirstLogEntry (current_block (record disk { blocks = left }) p.at) superblock_entry) (sym was_pair)
        (λ begins. k.first superblock_entry (first_stays disk (pair_elsewhere apart) others superblock_entry begins));
  }

  pub made_beside : Completes (changed_pair_content beside (header_address h) changes) can.content
  made_beside = made_of_header beside then hs sets index h changes can.content a still_made

  -- the content that the changes make is complete
  pub whole_made : (new : RawContent) → changed_pair_content beside (header_address h) changes ≡ Some new → decoded_content new ≡ Some can.content
  whole_made new made = ap decoded_content (same_Some new made_beside.raw (sym made ∙ made_beside.is)) ∙ made_beside.complete

  pub content_made_there : (left : Blocks) (new : RawContent) → changed_pair_content beside (header_address h) changes ≡ Some new → raw_content (record disk { blocks = left }) (header_address h) ≡ Some new
      → content_at (record disk { blocks = left }) (thread_pair old index).at ≡ Some can.content
  content_made_there left new made is = ap (λ (p : Pair). content_at (record disk { blocks = left }) p.at) was_pair ∙ ap (λ o. option_and_then decoded_content o) is ∙ whole_made new made

  pub first_made : (left : Blocks) (new : RawContent) → changed_pair_content beside (header_address h) changes ≡ Some new → IsWellFormed new → KeepsFirstEntry beside (header_address h) (Some new) (record disk { blocks = left })
      → KeepsSuperblockFirst disk (thread_pair old index).at can.content (record disk { blocks = left })
  first_made left new made logged first = subst (λ (p : Pair). KeepsSuperblockFirst disk p.at can.content (record disk { blocks = left })) (sym was_pair)
      (still_first (record disk { blocks = left }) can.content (λ begins has. first superblock_entry begins (superblock_anew new can.content logged.slots (whole_made new made) has.0 has.1)))

  -- ---- with the fresh pair

  module _ (f : PairHeader) (is : IsBehindHeader old index b fresh beside then f) where
    f_elsewhere : AreElsewhere (header_address f) ((header_address h).0 ∷ (header_address h).1 ∷ [])
    f_elsewhere = subst (λ x. AreElsewhere x ((header_address h).0 ∷ (header_address h).1 ∷ [])) (sym is.at) (fresh_elsewhere apart)

    begins_anew : (left : Blocks) → KeepsOutsidePair (header_address h) mid left → BeginsWithAnySuperblock (pair_behind old index b fresh) (record disk { blocks = left })
    begins_anew left keeps has = first_stays beside (subst (λ x. AreElsewhere x ((header_address h).0 ∷ (header_address h).1 ∷ [])) is.at f_elsewhere) keeps superblock_entry (is.anew has)

    -- a stop in the commit
    pub left_by_join : (left : Blocks) → LossLeavesChanged beside (header_address h) changes left → LossLeavesJoined old index b fresh changes left
    left_by_join left l = record {
      others = subst (λ (p : Pair). KeepsOutsideBoth p.at fresh disk.blocks left) (sym was_pair) (keeps_by_both (header_address h) fresh others l.others);
      content = sides l.content;
    }
      where
        sides : HasOldContent beside (header_address h) (record disk { blocks = left }) ⊎ HasChangedContent beside (header_address h) changes (record disk { blocks = left })
            → HasOldPair old index (record disk { blocks = left }) ⊎ JoinedOnDisk old index b fresh changes (record disk { blocks = left })
        sides (inl k) = inl (old_still left k)
        sides (inr k) = inr (record {
          content = can.content;
          made = can.made;
          fits = fits_pair disk.block_size disk.page k.new can.content k.logged (whole_made k.new k.made) k.fits;
          holds = content_made_there left k.new k.made k.now.content;
          behind = ap (content_at (record disk { blocks = left })) (sym is.at)
              ∙ ap (λ r. option_and_then decoded_content r) (raw_content-stays beside f_elsewhere l.others)
              ∙ header_content beside then f is.header ∙ ap Some is.content;
          first = first_made left k.new k.made k.logged k.now.first;
          anew = begins_anew left l.others;
        })

    -- after the commit
    module _ (below : source_index index b < length hs) (blocks : Blocks) (after : List CallEvent) (new : PairHeader) (commits : CommitsChanges beside then changes h (record disk { blocks = blocks }) after new)
        (keeps : KeepsOutsidePair (header_address h) mid blocks) (stays : OutsideStaysUnprogrammed (header_address h) then after) where
      abbrev left : Disk
      left = record disk { blocks = blocks }

      abbrev items : List PairHeader
      items = headers_joined b hs index new f

      abbrev now : BlockStates
      now = map_without b (map_using sets fresh) (thread_pair old (index + 1)).at

      same_thread : (i : ℕ) → thread_pair (kept_view beside then hs sets) i ≡ thread_pair old i
      same_thread i = ap (λ ps. get_or ps i empty_anchor) still_pairs

      -- the headers before and after
      joins : IsJoint beside (pairs_joined b) hs index h (map_using sets fresh) now items new f (tail_target (pair_behind old index b fresh).content.tail)
      joins = subst (λ (p : Pair). IsJoint beside (pairs_joined b) hs index h (map_using sets fresh) (map_without b (map_using sets fresh) p.at) items new f (tail_target (pair_behind old index b fresh).content.tail)) (same_thread (index + 1))
          (subst (λ t. IsJoint beside (pairs_joined b) hs index h (map_using sets fresh) (map_without b (map_using sets fresh) (thread_pair (kept_view beside then hs sets) (index + 1)).at) items new f t)
          (ap (λ (p : Pair). tail_target p.content.tail) (same_thread (source_index index b)) ∙ ap tail_target (same_tail b))
          (joint b beside then hs sets (map_using sets fresh) index h new f a below))
        where
          same_tail : (b : Behind) → (thread_pair old (source_index index b)).content.tail ≡ (pair_behind old index b fresh).content.tail
          same_tail kind.Empty = refl
          same_tail kind.Slots = refl
          same_tail kind.Next = refl

      pub is_kept : IsKeptOnDisk left after items now
      is_kept = joined_kept beside then blocks after (pairs_joined b) hs sets (map_using sets fresh) now items index h new f fresh changes can.content (pair_behind old index b fresh).content a joins still_kept still_made can.next commits keeps stays is.header is.at is.content uses

      pub is_joined : IsJoined old index b fresh changes (kept_view left after items now)
      is_joined = record {
        content = can.content;
        made = can.made;
        fits = fits_pair disk.block_size disk.page commits.new can.content commits.logged (whole_made commits.new commits.made) commits.fits;
        first = first_made blocks commits.new commits.made commits.logged commits.first;
        pairs = joined_pairs beside then blocks after (pairs_joined b) hs sets (map_using sets fresh) now items index h new f fresh changes can.content (pair_behind old index b fresh).content a joins still_kept still_made can.next commits keeps stays is.header is.at is.content uses
            ∙ ap₂ (λ (ps : List Pair) (at : ℕ × ℕ). pairs_joined b ps index (record { at = at; content = can.content }) (record { at = fresh; content = (pair_behind old index b fresh).content })) still_pairs (ap (λ (p : Pair). p.at) (sym was_pair));
        thread = kept_thread left after items now is_kept;
        map = refl;
        anew = begins_anew blocks keeps;
        revision = is.revision left (ap (pair_revision left) (sym is.at)
            ∙ revision_at left after f (f_header beside then blocks after (pairs_joined b) hs sets (map_using sets fresh) now items index h new f fresh changes can.content (pair_behind old index b fresh).content a joins still_kept still_made can.next commits keeps stays is.header is.at is.content uses));
      }

-- ---- in the code's words

module _ (geometry later : Geometry) (old mid : Blocks) (before then : List CallEvent) (hs : List PairHeader) (sets : BlockStates) (index : ℕ) (h : PairHeader) (fresh : ℕ × ℕ) (changes : List ContentChange)
    (b : Behind) (same : later ≡ geometry) (a : IsAt hs index h) (kept : IsKeptOnDisk (disk_of_blocks geometry old) before hs sets) (can : CanThreadIn (kept_view (disk_of_blocks geometry old) before hs sets) index fresh changes)
    (others : KeepsOutsidePair fresh old mid) (stay : OutsideStaysUnprogrammed fresh before then) where
  abbrev was : KeptThread
  was = kept_view (disk_of_blocks geometry old) before hs sets

  pub device_can : CanCommit (disk_of_blocks later mid) then h changes
  device_can = subst (λ k. CanCommit (disk_of_blocks k mid) then h changes) (sym same) (then_can (disk_of_blocks geometry old) before hs sets index h fresh changes a kept can b mid then others stay)

  pub device_left_beside : HoldsAtLosses LossLeavesAtWorst before then (KeepsOutsidePair fresh old) → HoldsAtLosses LeftByLoss before then (LossLeavesJoined was index b fresh changes)
  device_left_beside worst = HoldsAtLosses-weaker (λ left keeps. left_beside (disk_of_blocks geometry old) before hs sets index h fresh changes a kept can b mid then others stay left keeps) (HoldsAtLosses-worst worst)

  pub beside_read : (disk : Disk) (after : List CallEvent) → disk ≡ disk_of_blocks later mid → OnlyReadsSince mid then after → IsKeptOnDisk disk after hs sets
  beside_read disk after e reads = subst (λ d. IsKeptOnDisk d after hs sets) (sym e) (subst (λ k. IsKeptOnDisk (disk_of_blocks k mid) after hs sets) (sym same)
      (kept_read (disk_of_blocks geometry mid) mid then after hs sets reads (still_kept (disk_of_blocks geometry old) before hs sets index h fresh changes a kept can b mid then others stay)))

  pub is_beside : (disk : Disk) (after : List CallEvent) → disk ≡ disk_of_blocks later mid
      → ((raw : RawContent) (d : PairContent) → changed_pair_content (disk_of_blocks later mid) (header_address h) changes ≡ Some raw → decoded_content raw ≡ Some d → FitsInPair later.block_size later.page d → ⊥)
      → RefusesThreading was index fresh changes (kept_view disk after hs sets)
  is_beside disk after e too_large = subst (λ d. RefusesThreading was index fresh changes (kept_view d after hs sets)) (sym e) (subst (λ k. RefusesThreading was index fresh changes (kept_view (disk_of_blocks k mid) after hs sets)) (sym same) (record {
    content = can.content;
    made = can.made;
    too_large = λ f.
        let m = made_of_header (disk_of_blocks geometry mid) then hs sets index h changes can.content a (still_made (disk_of_blocks geometry old) before hs sets index h fresh changes a kept can b mid then others stay) in
        subst (λ k. (raw : RawContent) (d : PairContent) → changed_pair_content (disk_of_blocks k mid) (header_address h) changes ≡ Some raw → decoded_content raw ≡ Some d → FitsInPair k.block_size k.page d → ⊥) same too_large m.raw can.content m.is m.complete f;
    pairs = still_pairs (disk_of_blocks geometry old) before hs sets index h fresh changes a kept can b mid then others stay;
    map = refl;
    others = others;
  }))

  module _ (source f : PairHeader) (at_source : IsAt hs (source_index index b) source) (holds : CanHold was index b) (written : IsWrittenBehind (disk_of_blocks geometry old) before source b (disk_of_blocks later mid) then fresh f) (few : length old ≤ 65536) where
    fresh_there : IsBehindHeader was index b fresh (disk_of_blocks geometry mid) then f
    fresh_there = written_header b (disk_of_blocks geometry old) before hs sets index source fresh at_source kept (held_address (disk_of_blocks geometry old) before hs sets fresh kept can.held) few mid then others f
        (subst (λ k. IsWrittenBehind (disk_of_blocks geometry old) before source b (disk_of_blocks k mid) then fresh f) same written)

    below : source_index index b < length hs
    below = go b holds
      where
        go : (b : Behind) → CanHold was index b → source_index index b < length hs
        go kind.Empty none = subst (λ k. index < k) (length-map hs (λ x. disk_pair_at (disk_of_blocks geometry old) (header_address x))) can.below
        go kind.Slots fits = subst (λ k. index < k) (length-map hs (λ x. disk_pair_at (disk_of_blocks geometry old) (header_address x))) can.below
        go kind.Next both = subst (λ k. index + 1 < k) (length-map hs (λ x. disk_pair_at (disk_of_blocks geometry old) (header_address x))) both.0

    pub device_stops : (after : List CallEvent) → HoldsAtLosses LossLeavesAtWorst before then (KeepsOutsidePair fresh old) → HoldsAtLosses LossLeavesAtWorst then after (KeepsOutsidePair (header_address h) mid)
        → CleanLossLeaves then after (LossLeavesChanged (disk_of_blocks later mid) (header_address h) changes) → CleanLossLeaves before after (LossLeavesJoined was index b fresh changes)
    device_stops after first second stops cleanly = goes_on_by (device_left_beside first)
        (HoldsAtLosses-weaker (λ left l. left_by_join (disk_of_blocks geometry old) before hs sets index h fresh changes a kept can b mid then others stay f fresh_there left
        (subst (λ k. LossLeavesChanged (disk_of_blocks k mid) (header_address h) changes left) same l)) (stops (AllCallsSince-behind cleanly first second)))

    module _ (now_geometry : Geometry) (blocks : Blocks) (after : List CallEvent) (new : PairHeader) (still : now_geometry ≡ later) (commits : CommitsChanges (disk_of_blocks later mid) then changes h (disk_of_blocks now_geometry blocks) after new)
        (keeps : KeepsOutsidePair (header_address h) mid blocks) (stays : OutsideStaysUnprogrammed (header_address h) then after) (items : List PairHeader) (are : items ≡ headers_joined b hs index new f)
        (now : BlockStates) (is_now : now ≡ map_without b (map_using sets fresh) (thread_pair was (index + 1)).at) where
      commits_there : CommitsChanges (disk_of_blocks geometry mid) then changes h (disk_of_blocks geometry blocks) after new
      commits_there = subst (λ k. CommitsChanges (disk_of_blocks k mid) then changes h (disk_of_blocks k blocks) after new) same (subst (λ k. CommitsChanges (disk_of_blocks later mid) then changes h (disk_of_blocks k blocks) after new) still commits)

      there : now_geometry ≡ geometry
      there = still ∙ same

      pub device_joined : IsKeptOnDisk (disk_of_blocks now_geometry blocks) after items now
      device_joined = subst (λ k. IsKeptOnDisk (disk_of_blocks k blocks) after items now) (sym there) (subst (λ z. IsKeptOnDisk (disk_of_blocks geometry blocks) after z now) (sym are)
          (subst (λ m. IsKeptOnDisk (disk_of_blocks geometry blocks) after (headers_joined b hs index new f) m) (sym is_now)
          (is_kept (disk_of_blocks geometry old) before hs sets index h fresh changes a kept can b mid then others stay f fresh_there below blocks after new commits_there keeps stays)))

      pub device_is_joined : IsJoined was index b fresh changes (kept_view (disk_of_blocks now_geometry blocks) after items now)
      device_is_joined = subst (λ k. IsJoined was index b fresh changes (kept_view (disk_of_blocks k blocks) after items now)) (sym there)
          (subst (λ z. IsJoined was index b fresh changes (kept_view (disk_of_blocks geometry blocks) after z now)) (sym are)
          (subst (λ m. IsJoined was index b fresh changes (kept_view (disk_of_blocks geometry blocks) after (headers_joined b hs index new f) m)) (sym is_now)
          (is_joined (disk_of_blocks geometry old) before hs sets index h fresh changes a kept can b mid then others stay f fresh_there below blocks after new commits_there keeps stays)))

-- a header that was inserted behind another one is removed again
pub unplaced : (hs : List PairHeader) (index : ℕ) (h x : PairHeader) → IsAt hs index h → remove (insert hs (index + 1) x) (index + 1) ≡ hs
unplaced hs index h x a =
    ap₂ (λ (z : List PairHeader) (i : ℕ). remove (insert z (i + 1) x) (i + 1)) a.parts a.place
    ∙ ap (λ z. remove z (length a.front + 1)) (insert_behind a.front h a.back x) ∙ remove_behind a.front h x a.back ∙ sym a.parts

-- ---- the pair that is copied

pub source_below : (b : Behind) (t : KeptThread) (index : ℕ) → index < length t.pairs → CanHold t index b → source_index index b < length t.pairs
source_below kind.Empty t index l holds = l
source_below kind.Slots t index l holds = l
source_below kind.Next t index l holds = holds.0

-- the header of the copied pair can be removed
pub can_drop : (b : Behind) (disk : Disk) (history : List CallEvent) (hs : List PairHeader) (sets : BlockStates) (index : ℕ) (h new f source : PairHeader) (fresh : ℕ × ℕ) → IsAt hs index h → IsAt hs (source_index index b) source → IsKeptOnDisk disk history hs sets
    → {items : List PairHeader} → items ≡ insert (set hs index new) (index + 1) f → {now : BlockStates} → now ≡ map_using sets fresh → CanDropCopied b items (index + 2) source now
can_drop kind.Empty disk history hs sets index h new f source fresh a s kept are is_now = tt
can_drop kind.Slots disk history hs sets index h new f source fresh a s kept are is_now = tt
can_drop kind.Next disk history hs sets index h new f source fresh a s kept {items} are {now} is_now =
    let on = (header_at_index disk history hs (index + 1) source s kept.each).address in
    let size = kept.size in
    let long = ap length is_now ∙ length-set (set sets fresh.0 Used) fresh.1 Used ∙ length-set sets fresh.0 Used in
    let front = ap length s.parts ∙ length-append s.front (source ∷ s.back) in
    let place = s.place in
    let longer = ap length are ∙ length-insert (set hs index new) (index + 1) f (let l = length-set hs index new in omega arith) in
    let same = length-set hs index new in
    ((omega arith), ((let l = on.first in omega arith), (let l = on.second in omega arith)))

-- the map in which the blocks of the copied pair are free
pub freed : (b : Behind) (disk : Disk) (history : List CallEvent) (hs : List PairHeader) (sets : BlockStates) (index : ℕ) {source : PairHeader} → IsAt hs (source_index index b) source
    → {settled using : BlockStates} → settled ≡ using → map_without b settled (header_address source) ≡ map_without b using (thread_pair (kept_view disk history hs sets) (index + 1)).at
freed kind.Empty disk history hs sets index s same = same
freed kind.Slots disk history hs sets index s same = same
freed kind.Next disk history hs sets index {source} s same = ap₂ map_freeing same (ap (λ (p : Pair). p.at) (sym (pair_at_index disk history hs sets (index + 1) source s)))
