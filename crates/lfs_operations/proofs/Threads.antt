-- The pair of an index at its site, and the blocks that change with it.
use Rattle.lfs_operations.proofs.Common.{ℕ, ◌≡◌, ◌+◌, ◌<◌, ◌≤◌, Bool, true, false, cond, eqb-true, nat_eq, List, [], ◌∷◌, ◌++◌, length, Some, refl, sym, ap, ap₂, subst, ◌∙◌, arith, append_assoc, length-append, get_or, set, insert, IsDistinct, AreUsed, IsFree, Free, content_at, current_block, Disk, disk_block, block_count, SameGeometry, PairContent, gstate_xor, zero_gstate, Pair, pairs_blocks, pairs_gstate, HasFirstLogEntry, superblock_entry, used_blocks, Each, occurrence_count, once_from_distinct, distinct_from_once, Site, thread_at, HasFirst, KeepsOutsideBoth, KeptThread, thread_pair, empty_anchor, pairs_with_content, SameGeometryAs, HasOldPair, IsPairWritten, BeginWithSuperblock, gstate_comm, gstate_cons, gstate_right, sync_bit_delta, site_gstate_moved, pairs_split, AreTwoFreeBlocks}
use Rattle.lfs_pair.specs.Commits.{KeepsOutsidePair}
use Rattle.lfs_model.proofs.PairLists.{get_at, insert_at, set_at}
use Rattle.lfs_model.proofs.Placing.{IsPlaced, all_apart}
use Rattle.lfs_operations.proofs.Taking.{within}
use Rattle.lfs_model.proofs.UsedCounts.{not_used}

-- ---- at a site

module _ (t : KeptThread) (index : ℕ) (w : Site) (p : Pair) (there : t.pairs ≡ thread_at w (p ∷ [])) (place : index ≡ length w.chain + length (w.before ++ w.left)) where
  abbrev ahead : List Pair
  ahead = w.chain ++ (w.before ++ w.left)

  abbrev behind : List Pair
  behind = w.right ++ w.after

  grouped : (q : Pair) (more : List Pair) → thread_at w (q ∷ more) ≡ ahead ++ q ∷ (more ++ behind)
  grouped q more = sym (append_assoc w.chain (w.before ++ w.left) (q ∷ (more ++ behind)))

  place_is : index ≡ length ahead
  place_is = place ∙ sym (length-append w.chain (w.before ++ w.left))

  pub pair_is : thread_pair t index ≡ p
  pair_is = ap₂ (λ (z : List Pair) (i : ℕ). get_or z i empty_anchor) (there ∙ grouped p []) place_is ∙ get_at ahead p behind empty_anchor

  pub at_is : (thread_pair t index).at ≡ p.at
  at_is = ap (λ (z : Pair). z.at) pair_is

  pub below : index < length t.pairs
  below = let e = ap length (there ∙ grouped p []) in let l = length-append ahead (p ∷ behind) in let n = place_is in omega arith

  -- the thread with another pair there, or two
  pub one_now : (c : PairContent) → pairs_with_content t index c ≡ thread_at w (record { at = p.at; content = c } ∷ [])
  one_now c =
      let q : Pair = record { at = p.at; content = c } in
      ap (λ (z : Pair). set t.pairs index (record { at = z.at; content = c })) pair_is
      ∙ ap₂ (λ (z : List Pair) (i : ℕ). set z i q) (there ∙ grouped p []) place_is ∙ set_at ahead p behind q ∙ sym (grouped q [])

  pub two_now : (q f : Pair) → pairs_split t.pairs index q f ≡ thread_at w (q ∷ f ∷ [])
  two_now q f =
      ap₂ (λ (z : List Pair) (i : ℕ). insert (set z i q) (i + 1) f) (there ∙ grouped p []) place_is
      ∙ ap (λ (z : List Pair). insert z (length ahead + 1) f) (set_at ahead p behind q) ∙ insert_at ahead q behind f ∙ sym (grouped q (f ∷ []))

  -- ---- on another disk

  pub shape_same : {disk : Disk} → SameGeometryAs t.disk disk → SameGeometry t.disk disk
  shape_same s = record { block_size = s.block_size; page = s.page; order = s.order; profile = s.profile; count = s.count }

  pub same_two : (disk : Disk) → KeepsOutsidePair (thread_pair t index).at t.disk.blocks disk.blocks → (b : ℕ) → occurrence_count b (pairs_blocks (p ∷ [])) ≡ 0 → disk_block disk b ≡ disk_block t.disk b
  same_two disk others b none = (subst (λ at. KeepsOutsidePair at t.disk.blocks disk.blocks) at_is others).others b (all_apart (p.at.0 ∷ p.at.1 ∷ []) b none)

  pub same_four : (disk : Disk) (fresh : ℕ × ℕ) → KeepsOutsideBoth (thread_pair t index).at fresh t.disk.blocks disk.blocks → (b : ℕ) → occurrence_count b (fresh.0 ∷ fresh.1 ∷ pairs_blocks (p ∷ [])) ≡ 0
      → disk_block disk b ≡ disk_block t.disk b
  same_four disk fresh others b none = (subst (λ at. KeepsOutsideBoth at fresh t.disk.blocks disk.blocks) at_is others).others b (all_apart (p.at.0 ∷ p.at.1 ∷ fresh.0 ∷ fresh.1 ∷ []) b (omega arith))

  pub placed_one : (disk : Disk) (c : PairContent) → (HasFirst p.content.slots → BeginWithSuperblock c.slots) → IsPairWritten t index c disk → IsPlaced t.disk disk p (record { at = p.at; content = c }) [] []
  placed_one disk c first is = record {
    geometry = shape_same is.shape;
    same = same_two disk is.others;
    contents = (ap (content_at disk) (sym at_is) ∙ is.holds, tt);
    first = λ h b. subst (λ at. HasFirstLogEntry (current_block disk at) superblock_entry) at_is (is.first (subst (λ at. HasFirstLogEntry (current_block t.disk at) superblock_entry) (sym at_is) b) (first h));
  }

  pub placed_still : (disk : Disk) (fresh : ℕ × ℕ) → SameGeometryAs t.disk disk → KeepsOutsideBoth (thread_pair t index).at fresh t.disk.blocks disk.blocks → HasOldPair t index disk → IsPlaced t.disk disk p p [] (fresh.0 ∷ fresh.1 ∷ [])
  placed_still disk fresh shape others is = record {
    geometry = shape_same shape;
    same = same_four disk fresh others;
    contents = (subst (λ (z : Pair). content_at disk z.at ≡ Some z.content) pair_is is.holds, tt);
    first = λ h b. subst (λ at. HasFirstLogEntry (current_block disk at) superblock_entry) at_is (is.first (subst (λ at. HasFirstLogEntry (current_block t.disk at) superblock_entry) (sym at_is) b));
  }

  -- ---- free blocks

  free_apart : AreUsed t.map (used_blocks t.disk t.pairs) → (b : ℕ) → IsFree t.map b → occurrence_count b (used_blocks t.disk (thread_at w (p ∷ []))) ≡ 0
  free_apart used b free = not_used t.map (used_blocks t.disk (thread_at w (p ∷ []))) (subst (λ z. AreUsed t.map (used_blocks t.disk z)) there used) b free

  pub fresh_distinct : AreUsed t.map (used_blocks t.disk t.pairs) → IsDistinct nat_eq (used_blocks t.disk t.pairs) → (fresh : ℕ × ℕ) → AreTwoFreeBlocks t.map fresh
      → IsDistinct nat_eq (fresh.0 ∷ fresh.1 ∷ used_blocks t.disk (thread_at w (p ∷ [])))
  fresh_distinct used once fresh two = distinct_from_once (fresh.0 ∷ fresh.1 ∷ used_blocks t.disk (thread_at w (p ∷ []))) (λ b. go b (nat_eq b fresh.0) (nat_eq b fresh.1) refl refl)
    where
      once_there : IsDistinct nat_eq (used_blocks t.disk (thread_at w (p ∷ [])))
      once_there = subst (λ z. IsDistinct nat_eq (used_blocks t.disk z)) there once

      go : (b : ℕ) (x y : Bool) → nat_eq b fresh.0 ≡ x → nat_eq b fresh.1 ≡ y → cond x 1 0 + (cond y 1 0 + occurrence_count b (used_blocks t.disk (thread_at w (p ∷ [])))) ≤ 1
      go b false false e f = let n = once_from_distinct (used_blocks t.disk (thread_at w (p ∷ []))) once_there b in omega arith
      go b true true e f = absurd (two.apart (sym (eqb-true b fresh.0 e) ∙ eqb-true b fresh.1 f))
      go b true false e f = let n = free_apart used b (subst (IsFree t.map) (sym (eqb-true b fresh.0 e)) two.first) in omega arith
      go b false true e f = let n = free_apart used b (subst (IsFree t.map) (sym (eqb-true b fresh.1 f)) two.second) in omega arith

  pub fresh_range : length t.map ≡ block_count t.disk → (fresh : ℕ × ℕ) → AreTwoFreeBlocks t.map fresh → Each (λ b. b < block_count t.disk) (fresh.0 ∷ fresh.1 ∷ [])
  fresh_range size fresh two = let f = within t.map fresh.0 Free two.first in let g = within t.map fresh.1 Free two.second in (omega arith, (omega arith, tt))

-- ---- the sync bit is set with the pair

pub sync_turned : (w : Site) (p q : Pair) → q.content.move ≡ gstate_xor p.content.move sync_bit_delta → pairs_gstate (thread_at w (p ∷ [])) ≡ zero_gstate → pairs_gstate (thread_at w (q ∷ [])) ≡ sync_bit_delta
sync_turned w p q move settled =
    site_gstate_moved sync_bit_delta w (p ∷ []) (q ∷ [])
    (gstate_cons q [] ∙ gstate_right q.content.move ∙ move ∙ gstate_comm p.content.move sync_bit_delta ∙ ap (gstate_xor sync_bit_delta) (sym (gstate_cons p [] ∙ gstate_right p.content.move)))
    ∙ ap (gstate_xor sync_bit_delta) settled ∙ gstate_right sync_bit_delta
