-- A pair whose active block is cached.
use Rattle.std.proofs.Common.{ℕ, ◌≡◌, ◌<◌, ◌≤◌, ◌^◌, ◌+◌, true, false, List, [], ◌∷◌, ◌++◌, length, Option, None, Some, Result, Ok, Err, ◌⊎◌, inl, inr, rules, refl, sym, ap, subst, ◌∙◌, arith}
use Rattle.lfs_thread.proofs.Common.{option_map, ElementsAreBytes, length-map, map-append, flat_map-append, BlockStates, IsUsedBlock, CachedBlocks, cached_bytes, cache_without, cached_bytes-without_other, Disk, disk_block, block_count, CallEvent, read_count, block_entries, content_after, current_block, empty_raw_content, PairContent, Tail, Pair, superblock_pair_address, pairs_blocks, AreLinkedByTails, is_hard_tail, tail_target, complete_length, completed_parts, tail_view, move_view, active_block_at, header_address, is_second_active, ChangesReadingFew, AllBlocksUsed, PairHeader, IsHeader, IsKeptOnDisk, disk_pair_at, header_pairs, kept_view, IsContentLog, reads_unless_cached, FreshInFlight, thread_pair}
use Rattle.std.specs.Prelude.{IfErr}
use Rattle.lfs_device.specs.declared.device.BlockDevice.{Ghosts}
use Rattle.lfs_device.specs.declared.error.Error.{Error}
use Rattle.lfs_device.specs.declared.error.Error.TheVariants.{Io, NoMemory}
use Rattle.lfs_blocks.specs.BlockReads.{ReadsUnlessCached, read_block_event}
use Rattle.lfs_model.specs.format.Log.{chain_of}
use Rattle.lfs_thread.specs.CachedLog.{cached_block_log}
use Rattle.lfs_thread.proofs.Keeping.{header_content, of_two, pair_on_content, used_right}
use Rattle.lfs_thread.proofs.Coming.{in_flight_unused}
use Rattle.lfs_thread.proofs.Changing.{IsAt, header_at_index, pair_at_index}

-- a hard tail leads somewhere
hard_leads : (t : Option Tail) → is_hard_tail t ≡ true → tail_target t ≡ None → ⊥
hard_leads None e f = absurd (cc)
hard_leads (Some t) e f = absurd (cc)

behind_hard : (front : List Pair) (p : Pair) (back : List Pair) (from : Option (ℕ × ℕ)) → AreLinkedByTails from (front ++ p ∷ back) → is_hard_tail p.content.tail ≡ true → length front + 1 < length (front ++ p ∷ back)
behind_hard [] p [] from links hard = absurd (hard_leads p.content.tail hard links.1)
behind_hard [] p (q ∷ back) from links hard = omega arith
behind_hard (x ∷ front) p back from links hard = let rest = behind_hard front p back (tail_target x.content.tail) links.1 hard in omega arith

module _ (disk : Disk) (history : List CallEvent) (hs : List PairHeader) (sets : BlockStates) (index : ℕ) (h : PairHeader) (a : IsAt hs index h) (kept : IsKeptOnDisk disk history hs sets) where
  there : IsHeader disk history h
  there = header_at_index disk history hs index h a kept.each

  content_is : there.content ≡ (thread_pair (kept_view disk history hs sets) index).content
  content_is = sym (ap (λ (p : Pair). p.content) (pair_at_index disk history hs sets index h a ∙ pair_on_content disk (header_address h) there.content (header_content disk history h there)))

  pub active_is : h.active ≡ active_block_at disk (thread_pair (kept_view disk history hs sets) index).at
  active_is = there.is_pair.active ∙ ap (λ (p : Pair). active_block_at disk p.at) (sym (pair_at_index disk history hs sets index h a))

  -- what holds of both blocks of the pair holds of the active one
  one_of_both : (P : ℕ → Type 0) → P (header_address h).0 → P (header_address h).1 → P h.active
  one_of_both P first second =
      subst P (sym there.is_pair.active) (of_two P (is_second_active (disk_block disk (header_address h).0) (disk_block disk (header_address h).1)) (header_address h) first second)

  pub active_there : (count : ℕ) → block_count disk ≡ count → h.active < count
  active_there count e = let below = one_of_both (λ b. b < block_count disk) there.address.first there.address.second in omega (arith, below, e)

  pub block_there : (bytes : List ℕ) → bytes ≡ disk_block disk h.active → length bytes ≤ 2 ^ 16 → ElementsAreBytes bytes → IsContentLog bytes (thread_pair (kept_view disk history hs sets) index).content
  block_there bytes e short are = record {
    raw = there.held;
    log = ap (λ b. content_after empty_raw_content (block_entries b)) e ∙ there.is_pair.describes.content;
    complete = there.complete ∙ ap Some content_is;
    short = short;
    bytes = are;
  }

  -- the end of its log, and its last tag
  pub end_there : (bytes : List ℕ) → bytes ≡ disk_block disk h.active → h.end ≡ (chain_of bytes).end
  end_there bytes e = there.is_pair.describes.end ∙ ap (λ b. (chain_of b).end) (sym e)

  pub last_there : (bytes : List ℕ) → bytes ≡ disk_block disk h.active → h.last ≡ (chain_of bytes).last
  last_there bytes e = there.is_pair.describes.last ∙ ap (λ b. (chain_of b).last) (sym e)

  pub holder_there : (bytes : List ℕ) → bytes ≡ disk_block disk h.active → current_block disk (thread_pair (kept_view disk history hs sets) index).at ≡ Some bytes
  holder_there bytes e = ap (λ (p : Pair). current_block disk p.at) (pair_at_index disk history hs sets index h a)
      ∙ there.is_pair.holds ∙ ap Some (sym e)

  pub count_there : h.slot_count ≡ length (thread_pair (kept_view disk history hs sets) index).content.slots
  count_there = there.is_pair.describes.sums.slot_count ∙ sym (complete_length there.held.slots there.content.slots (completed_parts there.held there.content there.complete).slots) ∙ ap (λ (c : PairContent). length c.slots) content_is

  pub tail_there : option_map tail_view h.tail ≡ (thread_pair (kept_view disk history hs sets) index).content.tail
  tail_there = there.is_pair.describes.sums.tail ∙ sym (completed_parts there.held there.content there.complete).tail ∙ ap (λ (c : PairContent). c.tail) content_is

  pub move_there : move_view h.move_state ≡ (thread_pair (kept_view disk history hs sets) index).content.move
  move_there = there.is_pair.describes.sums.move ∙ sym (completed_parts there.held there.content there.complete).move ∙ ap (λ (c : PairContent). c.move) content_is

  pub next_there : is_hard_tail (thread_pair (kept_view disk history hs sets) index).content.tail ≡ true → index + 1 < length (header_pairs disk hs)
  next_there hard =
      let parts : header_pairs disk hs ≡ header_pairs disk a.front ++ disk_pair_at disk (header_address h) ∷ header_pairs disk a.back = ap (header_pairs disk) a.parts ∙ map-append (λ x. disk_pair_at disk (header_address x)) a.front (h ∷ a.back) in
      let l = length-map a.front (λ x. disk_pair_at disk (header_address x)) in
      let e = ap length parts in
      let p = a.place in
      let k = behind_hard (header_pairs disk a.front) (disk_pair_at disk (header_address h)) (header_pairs disk a.back) (Some superblock_pair_address) (subst (AreLinkedByTails (Some superblock_pair_address)) parts kept.links)
      (sym (ap (λ (q : Pair). is_hard_tail q.content.tail) (pair_at_index disk history hs sets index h a)) ∙ hard) in
      omega arith

  -- ---- the reads of a step

  active_used : IsUsedBlock sets h.active
  active_used =
      let all = subst (λ z. AllBlocksUsed sets (pairs_blocks (header_pairs disk z))) a.parts kept.used in
      let parts = subst (λ ps. AllBlocksUsed sets (pairs_blocks ps)) (map-append (λ x. disk_pair_at disk (header_address x)) a.front (h ∷ a.back)) all in
      let cut = subst (AllBlocksUsed sets) (flat_map-append (λ (s : Pair). s.at.0 ∷ s.at.1 ∷ []) (header_pairs disk a.front) (header_pairs disk (h ∷ a.back))) parts in
      let right = used_right sets (pairs_blocks (header_pairs disk a.front)) (pairs_blocks (header_pairs disk (h ∷ a.back))) cut in
      one_of_both (IsUsedBlock sets) right.0 right.1.0

  -- if two blocks in flight are no longer cached, this one still is
  pub cached_beside : (fresh : ℕ × ℕ) → FreshInFlight sets fresh → (cache now : CachedBlocks) → now ≡ cache_without (cache_without cache fresh.0) fresh.1 → cached_bytes now h.active ≡ cached_bytes cache h.active
  cached_beside fresh held cache now is =
      ap (λ z. cached_bytes z h.active) is
      ∙ cached_bytes-without_other (cache_without cache fresh.0) fresh.1 h.active (λ e. in_flight_unused sets fresh.1 held.second (subst (IsUsedBlock sets) e active_used))
      ∙ cached_bytes-without_other cache fresh.0 h.active (λ e. in_flight_unused sets fresh.0 held.first (subst (IsUsedBlock sets) e active_used))

  -- in the words of the thread
  pub reading_there : {D : Type 0} (g : Ghosts D) (old new : D) (blocks : ℕ × ℕ → List ℕ) (base : ℕ) (cache : CachedBlocks) {given : Option (List ℕ)} → given ≡ cached_bytes cache h.active
      → ChangesReadingFew g (base + reads_unless_cached given) (blocks (header_address h)) old new
      → ChangesReadingFew g (base + reads_unless_cached (cached_block_log (kept_view disk history hs sets) cache index)) (blocks (thread_pair (kept_view disk history hs sets) index).at) old new
  reading_there g old new blocks base cache is w =
      subst (λ (p : Pair). ChangesReadingFew g (base + reads_unless_cached (cached_block_log (kept_view disk history hs sets) cache index)) (blocks p.at) old new) (sym (pair_at_index disk history hs sets index h a))
      (subst (λ o. ChangesReadingFew g (base + reads_unless_cached o) (blocks (header_address h)) old new) (is ∙ ap (cached_bytes cache) active_is) w)

-- ---- the reads of a block that is loaded into the cache

-- at most one read, whatever the result
pub few_reads : {D : Type 0} (g : Ghosts D) (was : Option (List ℕ)) (b : ℕ) (old new : D) (result : Result (Unit {0}) Error) → ReadsUnlessCached g was b old new result → IfErr result (λ e. (e ≡ Io) ⊎ (e ≡ NoMemory))
    → read_count (g.history new) ≤ read_count (g.history old) + 1
few_reads g (Some bytes) b old new result r e = let s = ap (λ d. read_count (g.history d)) (r.no_call (search rules)) in omega (arith, s)
few_reads g None b old new (Ok u) r e = let s = ap read_count (r.read refl) in omega (arith, s)
few_reads g None b old new (Err e) r (inl io) = let s = ap read_count (r.failed (ap Err io)) in omega (arith, s)
few_reads g None b old new (Err e) r (inr memory) = go (r.no_memory (ap Err memory))
  where
    go : (g.history new ≡ g.history old) ⊎ (g.history new ≡ read_block_event (g.geometry old).block_size (g.blocks old) b false ∷ g.history old) → read_count (g.history new) ≤ read_count (g.history old) + 1
    go (inl s) = let k = ap read_count s in omega (arith, k)
    go (inr s) = let k = ap read_count s in omega (arith, k)

-- none if it is cached
pub fill_reads : {D : Type 0} (g : Ghosts D) (was : Option (List ℕ)) (b : ℕ) (old new : D) (result : Result (Unit {0}) Error) → ReadsUnlessCached g was b old new result → IfErr result (λ e. (e ≡ Io) ⊎ (e ≡ NoMemory))
    → read_count (g.history new) ≤ read_count (g.history old) + reads_unless_cached was
fill_reads g (Some bytes) b old new result r e = let s = ap (λ d. read_count (g.history d)) (r.no_call (search rules)) in omega (arith, s)
fill_reads g None b old new result r e = few_reads g None b old new result r e
