-- At a site of an accepted image a pair becomes others, on a disk where only its blocks and some that nobody owned differ.
use Rattle.std.proofs.Common.{ℕ, ◌≡◌, ◌⊎◌, inl, inr, ◌+◌, ◌≤◌, true, cond, nat_eq, List, [], ◌∷◌, ◌++◌, take, Some, refl, sym, ap, subst, ◌∙◌, arith, append_assoc}
use Rattle.std.specs.Prelude.{◌≢◌, All}
use Rattle.std.specs.List.{IsDistinct}
use Rattle.lfs_model.proofs.Common.{flat_map, All-from_recursion, flat_map-append, Disk, disk_block, SameGeometry, Blocks, HasEitherTree, with_blocks, IsWritableSlot, IsWritable, FitsInPair, Slot, Tree, content_at, current_block, Pair, pairs_blocks, first_address, count_before_root, pairs_from_root, begins_with_superblock, HasFirstLogEntry, superblock_entry, IsAccepted, first_pair_slots, all_unmoved_slots, disk_tree, used_blocks, struct_blocks, append-nil, pairs_from_nonempty, has_slots, first_slot_name}
use Rattle.lfs_model.specs.layers.Steps.{PathAddresses, IsWritableChange}
use Rattle.lfs_model.specs.declared.limits.Profile.{Profile}
use Rattle.lfs_model.proofs.Counts.{Each, occurrence_count, count_append, once_from_distinct, each_from_counted}
use Rattle.lfs_model.proofs.Sites.{Site, thread_at}
use Rattle.lfs_model.proofs.Splices.{IsDevice}
use Rattle.lfs_model.proofs.Changes.{IsChangedImage}
use Rattle.lfs_model.proofs.Found.{chain_of_thread}
use Rattle.lfs_model.proofs.Superblocks.{IsChain, Behind, FromSlots, InFront, first_counted, from_front}
use Rattle.lfs_model.proofs.Unchanged.{HasFirst, accepted_first, same_follows}
use Rattle.lfs_model.proofs.Devices.{device_from, first_same}

-- ---- blocks

pub all_apart : (bs : List ℕ) (b : ℕ) → occurrence_count b bs ≡ 0 → All (λ k. k ≢ b) bs
all_apart bs b none = All-from_recursion (λ k. k ≢ b) bs (each_from_counted (λ k. k ≢ b) bs (λ k some e. absurd (let h = ap (λ z. occurrence_count z bs) e in omega arith)))

pub blocks_append : (xs ys : List Pair) (b : ℕ) → occurrence_count b (pairs_blocks (xs ++ ys)) ≡ occurrence_count b (pairs_blocks xs) + occurrence_count b (pairs_blocks ys)
blocks_append xs ys b = ap (occurrence_count b) (flat_map-append (λ (s : Pair). s.at.0 ∷ s.at.1 ∷ []) xs ys) ∙ count_append b (pairs_blocks xs) (pairs_blocks ys)

-- ---- one pair became others

pub record IsPlaced (old disk : Disk) (p q : Pair) (more : List Pair) (extra : List ℕ) : Type 0 where
  pub geometry : SameGeometry old disk
  pub same : (b : ℕ) → occurrence_count b (extra ++ pairs_blocks (p ∷ [])) ≡ 0 → disk_block disk b ≡ disk_block old b
  pub contents : Each (λ x. content_at disk x.at ≡ Some x.content) (q ∷ more)
  pub first : HasFirst p.content.slots → HasFirstLogEntry (current_block old p.at) superblock_entry → HasFirstLogEntry (current_block disk p.at) superblock_entry

module _ (old disk : Disk) (w : Site) (p q : Pair) (more : List Pair) (extra : List ℕ) (ok : IsAccepted old (thread_at w (p ∷ [])))
    (free : IsDistinct nat_eq (extra ++ used_blocks old (thread_at w (p ∷ [])))) (is : IsPlaced old disk p q more extra) where
  abbrev ps : List Pair
  ps = thread_at w (p ∷ [])

  abbrev front : List Pair
  front = w.chain ++ (w.before ++ w.left)

  abbrev back : List Pair
  back = w.right ++ w.after

  grouped : ps ≡ front ++ p ∷ back
  grouped = sym (append_assoc w.chain (w.before ++ w.left) (p ∷ (w.right ++ w.after)))

  -- no extra block is one of the thread's
  apart : (b : ℕ) → 1 ≤ occurrence_count b (pairs_blocks ps) → occurrence_count b extra ≡ 0
  apart b some =
      let n = once_from_distinct (extra ++ used_blocks old ps) free b in
      let e = count_append b extra (used_blocks old ps) in
      let f = count_append b (pairs_blocks ps) (flat_map (λ (s : Slot). struct_blocks old s.struct) (all_unmoved_slots ps)) in
      omega arith

  abbrev Begins : ℕ × ℕ → Type 0
  Begins at = HasFirstLogEntry (current_block disk at) superblock_entry

  -- a pair of the others, whose blocks are none that changed
  other_first : (c : Pair) → first_address (pairs_from_nonempty ps) ≡ c.at → 1 ≤ occurrence_count c.at.0 (pairs_blocks front) + occurrence_count c.at.0 (pairs_blocks back) → 1 ≤ occurrence_count c.at.1 (pairs_blocks front) + occurrence_count c.at.1 (pairs_blocks back) → Begins (first_address (pairs_from_nonempty ps))
  other_first c e f s = subst Begins (sym e) (first_same old disk c.at (still c.at.0 f) (still c.at.1 s) (subst (λ at. HasFirstLogEntry (current_block old at) superblock_entry) e ok.first))
    where
      still : (b : ℕ) → 1 ≤ occurrence_count b (pairs_blocks front) + occurrence_count b (pairs_blocks back) → disk_block disk b ≡ disk_block old b
      still b some = is.same b (
          let n = once_from_distinct (pairs_blocks ps) ok.thread.distinct b in
          let w = ap (λ z. occurrence_count b (pairs_blocks z)) grouped ∙ blocks_append front (p ∷ back) b in
          let v = blocks_append (p ∷ []) back b in
          let a = apart b in
          let k = count_append b extra (pairs_blocks (p ∷ [])) in
          let none = a (omega arith) in
          omega arith)

  still_first : Begins (first_address (pairs_from_nonempty ps))
  still_first = go (from_front front)
    where
      is_front : (qs : List Pair) → pairs_from_nonempty (front ++ p ∷ back) ≡ qs → pairs_from_nonempty ps ≡ qs
      is_front qs e = ap pairs_from_nonempty grouped ∙ e

      behind : ((qs : List Pair) → pairs_from_nonempty (front ++ qs) ≡ pairs_from_nonempty qs) → (slots : List Slot) → p.content.slots ≡ slots → FromSlots back → Begins (first_address (pairs_from_nonempty ps))
      behind all (s ∷ slots) e f =
          let here = is_front (p ∷ back) (all (p ∷ back) ∙ ap (λ z. cond (has_slots z) (p ∷ back) (pairs_from_nonempty back)) e) in
          subst Begins (sym (ap first_address here)) (is.first (accepted_first old ps p back ok here) (subst (λ at. HasFirstLogEntry (current_block old at) superblock_entry) (ap first_address here) ok.first))
      behind all [] e (InFront c rest there more) =
          let here = is_front (c ∷ rest) (all (p ∷ back) ∙ ap (λ z. cond (has_slots z) (p ∷ back) (pairs_from_nonempty back)) e ∙ there) in
          let n = first_counted back c rest there in
          other_first c (ap first_address here) (let l = n.0 in omega arith) (let l = n.1 in omega arith)
      behind all [] e (Behind none more) =
          let here = is_front [] (all (p ∷ back) ∙ ap (λ z. cond (has_slots z) (p ∷ back) (pairs_from_nonempty back)) e ∙ ap pairs_from_nonempty (sym (append-nil back)) ∙ more []) in
          absurd (let k = ap first_slot_name (sym here) ∙ ok.named in cc)

      go : FromSlots front → Begins (first_address (pairs_from_nonempty ps))
      go (InFront c rest there all) =
          let n = first_counted front c rest there in
          other_first c (ap first_address (is_front (c ∷ rest ++ p ∷ back) (all (p ∷ back)))) (let l = n.0 in omega arith) (let l = n.1 in omega arith)
      go (Behind none all) = behind all p.content.slots refl (from_front back)

  pub device : IsDevice old disk (thread_at w (p ∷ [])) (thread_at w (q ∷ more))
  device = device_from old disk w.chain (w.before ++ w.left) p [] q more (w.right ++ w.after) extra ok free
      (record { geometry = is.geometry; same = is.same }) still_first (All-from_recursion (λ x. content_at disk x.at ≡ Some x.content) (q ∷ more) is.contents)

-- ---- nothing came of it

-- the disk has the thread and the files that it had: it is accepted as before, and shows the same tree
pub nothing_came : (old disk : Disk) (ps : List Pair) → IsAccepted old ps → IsDevice old disk ps ps → IsChangedImage old ps disk ps (λ t. t) (λ d. d)
nothing_came old disk ps ok device = go (take (count_before_root ps) ps) (pairs_from_root ps) (chain_of_thread ps).0 (chain_of_thread ps).1 ok.root
  where
    go : (chain rest : List Pair) → ps ≡ chain ++ rest → IsChain chain rest → begins_with_superblock (first_pair_slots rest) ≡ true → IsChangedImage old ps disk ps (λ t. t) (λ d. d)
    go chain [] e is_chain root = absurd (cc)
    go chain (x ∷ rest) e is_chain root = subst (λ z. IsChangedImage old z disk z (λ t. t) (λ d. d)) (sym e)
        (same_follows old disk chain x rest is_chain (subst (IsAccepted old) e ok) (subst (λ z. IsDevice old disk z z) e device))

pub profile_same : (disk new : Disk) (ps : List Pair) → new.block_size ≡ disk.block_size → new.page ≡ disk.page → new.profile ≡ disk.profile → IsWritable disk ps → IsWritable new ps
profile_same disk new ps e f g h = record {
  pairs = subst (λ (n : ℕ). All (λ p. FitsInPair n new.page p.content) ps) (sym e) (subst (λ (n : ℕ). All (λ p. FitsInPair disk.block_size n p.content) ps) (sym f) h.pairs);
  slots = subst (λ (x : Profile). All (λ p. All (IsWritableSlot x new.block_size new.page) p.content.slots) ps) (sym g)
      (subst (λ (n : ℕ). All (λ p. All (IsWritableSlot disk.profile n new.page) p.content.slots) ps) (sym e) (subst (λ (n : ℕ). All (λ p. All (IsWritableSlot disk.profile disk.block_size n) p.content.slots) ps) (sym f) h.slots));
  no_empty_pair = h.no_empty_pair;
}

-- ---- at a stop

either : {A B C D : Type 0} → (A → C) → (B → D) → A ⊎ B → C ⊎ D
either f g (inl a) = inl (f a)
either f g (inr b) = inr (g b)

-- what is left has the thread after the step
pub left_after : {old new : Disk} {ps qs : List Pair} {change : Tree → Tree} {walk : PathAddresses → PathAddresses} {before after : Tree} → IsWritableChange old ps new qs change walk
    → (change (disk_tree old ps) ≡ before) ⊎ (change (disk_tree old ps) ≡ after) → HasEitherTree new before after
left_after {qs = qs} f shows = record { pairs = qs; accepted = f.follows.accepted; writable = f.writable; tree = either (λ e. f.follows.shows ∙ e) (λ e. f.follows.shows ∙ e) shows }

-- or the thread that was there
pub left_still : (old : Disk) (left : Blocks) (ps : List Pair) {before after : Tree} → IsAccepted old ps → IsWritable old ps → IsDevice old (with_blocks left old) ps ps → (disk_tree old ps ≡ before) ⊎ (disk_tree old ps ≡ after)
    → HasEitherTree (with_blocks left old) before after
left_still old left ps ok writable device = left_after (record { follows = nothing_came old (with_blocks left old) ps ok device; writable = profile_same old (with_blocks left old) ps refl refl refl writable })
