-- A pair of an accepted image in which some slots are replaced by others, as a commit of the laws.
use Rattle.lfs_operations.proofs.Common.{ℕ, zero, suc, ◌≡◌, ◌+◌, ◌<◌, ◌≤◌, false, nat_eq, List, [], ◌∷◌, ◌++◌, length, Some, refl, sym, ap, subst, ◌∙◌, arith, ◌⊎◌, inl, inr, IsDistinct, flat_map, recursion_from_All, BlockStates, IsFree, IsInFlight, Free, InFlight, ContentChange, Disk, disk_block, SameGeometry, Slot, PairContent, gstate_xor, Pair, pairs_blocks, pairs_gstate, begins_with_superblock, struct_blocks, all_unmoved_slots, used_blocks, IsAccepted, IsFileOrDirectory, IsWellFormedList, IsWritable, IsWritableSlot, SameFiles, IsCommit, Each, each_counted, each_from_counted, occurrence_count, count_append, once_from_distinct, distinct_from_once, SameFileBlocks, gstate_append, gstate_cons, gstate_kept, gstate_right, Site, thread_at, IsSite, file_blocks, KeptThread, complete_after, BeginWithSuperblock, cases_lt, IsRecoveredWritableImage}
use Rattle.lfs_operations.proofs.MovTurned.{IsTurn}
use Rattle.lfs_model.proofs.SetMoves.{HasTurned}
use Rattle.lfs_model.proofs.UsedCounts.{count_pairs}
pub use Rattle.lfs_model.proofs.UsedCounts.{not_used}

-- ---- what is known before

-- At the site stands the pair of that number. The changes make a content of it with the same tail and the same delta of the
-- global state, in which `news` stand where `olds` did.
pub record IsSplicing (t : KeptThread) (index : ℕ) (changes : List ContentChange) (w : Site) (p : Pair) (l olds news r : List Slot) (gone come : List ℕ) : Type 0 where
  pub ready : IsRecoveredWritableImage t
  pub there : t.pairs ≡ thread_at w (p ∷ [])
  pub place : index ≡ length w.chain + length (w.before ++ w.left)
  pub site : IsSite w (p ∷ [])
  pub content : PairContent
  pub made : complete_after t index changes ≡ Some content
  pub tail : content.tail ≡ p.content.tail
  pub move : content.move ≡ p.content.move
  pub was : p.content.slots ≡ l ++ (olds ++ r)
  pub now : content.slots ≡ l ++ (news ++ r)
  pub front : l ≡ [] → begins_with_superblock (olds ++ r) ≡ false
  pub entries : Each IsFileOrDirectory news
  pub fit : Each (IsWritableSlot t.disk.profile t.disk.block_size t.disk.page) news
  -- blocks that come are in flight; they name these now, and those that are gone no more
  pub flying : Each (IsInFlight t.map) come
  pub apart : IsDistinct nat_eq (come ++ used_blocks t.disk t.pairs)
  pub lists : (disk : Disk) → SameGeometry t.disk disk → SameFiles t.disk disk (all_unmoved_slots t.pairs) → Each (λ b. disk_block disk b ≡ disk_block t.disk b) come → Each (λ s. IsWellFormedList disk s.struct) news
  pub blocks : (disk : Disk) → SameGeometry t.disk disk → SameFiles t.disk disk (all_unmoved_slots t.pairs) → Each (λ b. disk_block disk b ≡ disk_block t.disk b) come
      → (b : ℕ) → occurrence_count b (file_blocks disk news) + occurrence_count b gone ≡ occurrence_count b come + occurrence_count b (file_blocks t.disk olds)

-- a commit, on a disk where the blocks that come are as they were
pub record Commits (t : KeptThread) (w : Site) (p : Pair) (l olds news r : List Slot) (come : List ℕ) (disk : Disk) (q : Pair) (more : List Pair) : Type 0 where
  pub commit : IsCommit t.disk disk w p q more come l olds news r
  pub come_same : Each (λ b. disk_block disk b ≡ disk_block t.disk b) come
  pub files : SameFiles t.disk disk (all_unmoved_slots t.pairs)

-- nor is it in flight
not_flying : (sets : BlockStates) (bs : List ℕ) → Each (IsInFlight sets) bs → (b : ℕ) → IsFree sets b → occurrence_count b bs ≡ 0
not_flying sets bs flying b free = go (occurrence_count b bs) refl
  where
    go : (n : ℕ) → occurrence_count b bs ≡ n → n ≡ 0
    go zero e = refl
    go (suc n) e = absurd (let wrong : Some Free ≡ Some InFlight = sym free ∙ each_counted (IsInFlight sets) bs flying b (omega arith) in cc)

module _ (t : KeptThread) (index : ℕ) (changes : List ContentChange) (w : Site) (p : Pair) (l olds news r : List Slot) (gone come : List ℕ) (k : IsSplicing t index changes w p l olds news r gone come) where
  pub accepted : IsAccepted t.disk (thread_at w (p ∷ []))
  accepted = subst (IsAccepted t.disk) k.there k.ready.accepted

  -- so the pair gets those slots, and keeps its delta
  pub turn : IsTurn t index changes w p (l ++ (news ++ r)) p.content.move
  turn = record {
    accepted = k.ready.accepted;
    there = k.there;
    place = k.place;
    site = k.site;
    made = k.made ∙ ap (λ (c : PairContent). Some c) (λ j. record { slots = k.now j; tail = k.tail j; move = k.move j });
    first = λ h. go l k.front (subst BeginWithSuperblock k.was (h.kind, h.name));
  }
    where
      -- the superblock stays in slot 0
      go : (l : List Slot) → (l ≡ [] → begins_with_superblock (olds ++ r) ≡ false) → BeginWithSuperblock (l ++ (olds ++ r)) → BeginWithSuperblock (l ++ (news ++ r))
      go [] f e = absurd (let z = sym (f refl) ∙ e.0 in cc)
      go (s ∷ l) f e = e

  -- ---- the commit

  pub commits : (disk : Disk) (q : Pair) (more : List Pair) → HasTurned t.disk w p (l ++ (news ++ r)) p.content.move disk q more → ((b : ℕ) → 1 ≤ occurrence_count b (pairs_blocks more) → IsFree t.map b)
      → Commits t w p l olds news r come disk q more
  commits disk q more x fresh = record {
    commit = record {
      accepted = accepted;
      writable = subst (IsWritable t.disk) k.there k.ready.writable;
      settled = ap pairs_gstate (sym k.there) ∙ k.ready.settled;
      still = gstate_append w.chain ((w.before ++ w.left) ++ (q ∷ more ++ (w.right ++ w.after)))
          ∙ ap (gstate_xor (pairs_gstate w.chain)) (gstate_kept (w.before ++ w.left) (p ∷ []) (q ∷ more) (w.right ++ w.after) (x.delta ∙ sym (gstate_cons p [] ∙ gstate_right p.content.move)))
          ∙ sym (gstate_append w.chain ((w.before ++ w.left) ++ (p ∷ [] ++ (w.right ++ w.after)))) ∙ ap pairs_gstate (sym k.there) ∙ k.ready.settled;
      site = k.site;
      device = x.device;
      free = record { distinct = distinct; in_range = x.free.in_range };
      at = x.at;
      was = k.was;
      is = x.is;
      became = x.became;
      splice = record {
        front = k.front;
        entries = k.entries;
        lists = k.lists disk x.device.geometry files come_there;
        blocks = λ b. let e = k.blocks disk x.device.geometry files come_there b in omega arith;
      };
      fit = k.fit;
    };
    come_same = come_there;
    files = files;
  }
    where
      -- a free block is neither used nor one of those that come
      distinct : IsDistinct nat_eq ((pairs_blocks more ++ come) ++ used_blocks t.disk (thread_at w (p ∷ [])))
      distinct = distinct_from_once ((pairs_blocks more ++ come) ++ used_blocks t.disk (thread_at w (p ∷ []))) (λ b. go b (cases_lt 0 (occurrence_count b (pairs_blocks more))))
        where
          go : (b : ℕ) → (0 < occurrence_count b (pairs_blocks more)) ⊎ (occurrence_count b (pairs_blocks more) ≤ 0) → occurrence_count b ((pairs_blocks more ++ come) ++ used_blocks t.disk (thread_at w (p ∷ []))) ≤ 1
          go b (inl some) =
              let n = not_flying t.map come k.flying b (fresh b some) in
              let o = once_from_distinct ((pairs_blocks more ++ []) ++ used_blocks t.disk (thread_at w (p ∷ []))) x.free.distinct b in
              let e = count_append b (pairs_blocks more ++ []) (used_blocks t.disk (thread_at w (p ∷ []))) in
              let f = count_append b (pairs_blocks more) [] in
              let g = count_append b (pairs_blocks more ++ come) (used_blocks t.disk (thread_at w (p ∷ []))) in
              let h = count_append b (pairs_blocks more) come in
              omega arith
          go b (inr none) =
              let o = once_from_distinct (come ++ used_blocks t.disk (thread_at w (p ∷ []))) (subst (λ z. IsDistinct nat_eq (come ++ used_blocks t.disk z)) k.there k.apart) b in
              let e = count_append b come (used_blocks t.disk (thread_at w (p ∷ []))) in
              let g = count_append b (pairs_blocks more ++ come) (used_blocks t.disk (thread_at w (p ∷ []))) in
              let h = count_append b (pairs_blocks more) come in
              omega arith

      -- what comes isn't written
      come_there : Each (λ b. disk_block disk b ≡ disk_block t.disk b) come
      come_there = each_from_counted (λ b. disk_block disk b ≡ disk_block t.disk b) come (λ b some. x.same b (
          let n = once_from_distinct ((pairs_blocks more ++ come) ++ used_blocks t.disk (thread_at w (p ∷ []))) distinct b in
          let e = count_append b (pairs_blocks more ++ come) (used_blocks t.disk (thread_at w (p ∷ []))) in
          let f = count_append b (pairs_blocks more) come in
          let g = count_append b (pairs_blocks more) (pairs_blocks (p ∷ [])) in
          let h = count_append b (pairs_blocks (thread_at w (p ∷ []))) (flat_map (λ s. struct_blocks t.disk s.struct) (all_unmoved_slots (thread_at w (p ∷ [])))) in
          let i = count_pairs b w (p ∷ []) in
          omega arith))

      files : SameFiles t.disk disk (all_unmoved_slots t.pairs)
      files = subst (λ z. SameFiles t.disk disk (all_unmoved_slots z)) (sym k.there) (recursion_from_All (λ (s : Slot). SameFileBlocks t.disk disk s.struct) (all_unmoved_slots (thread_at w (p ∷ []))) x.device.files)
