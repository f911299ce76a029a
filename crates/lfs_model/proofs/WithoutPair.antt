-- A pair that went from a list of pairs: what the device holds then, and which blocks are theirs.
use Rattle.std.proofs.Common.{ℕ, ◌≡◌, ◌+◌, List, [], ◌∷◌, ◌++◌, ap, subst, ◌∙◌, arith, Some}
use Rattle.lfs_model.proofs.Common.{All-from_recursion, recursion_from_All, content_at, Disk, Slot, Pair, pairs_blocks, pairs_gstate, address_blocks, all_unmoved_slots}
use Rattle.lfs_model.proofs.Changes.{SameFiles, slots_files}
use Rattle.lfs_model.proofs.Counts.{each_append, each_left, each_right, occurrence_count}
use Rattle.lfs_model.proofs.Files.{SameFileBlocks}
use Rattle.lfs_model.proofs.Global.{HasNoMove}
use Rattle.lfs_model.proofs.Splices.{IsDevice, count_files, file_blocks, all_slots, unmoved_in}
use Rattle.lfs_model.proofs.Placing.{blocks_append}
use Rattle.lfs_model.proofs.UsedCounts.{slots_append}

-- ---- the device

-- where a pair more is on the device, those without it are
pub device_without : (disk new : Disk) (ps ahead : List Pair) (q o : Pair) (back : List Pair) → IsDevice disk new ps (ahead ++ q ∷ o ∷ back) → IsDevice disk new ps (ahead ++ q ∷ back)
device_without disk new ps ahead q o back d = record {
  geometry = d.geometry;
  contents =
      let F = λ (x : Pair). content_at new x.at ≡ Some x.content in
      let all = recursion_from_All (λ (x : Pair). content_at new x.at ≡ Some x.content) (ahead ++ q ∷ o ∷ back) d.contents in
      let behind = each_right (λ (x : Pair). content_at new x.at ≡ Some x.content) ahead (q ∷ o ∷ back) all in
      All-from_recursion (λ x. content_at new x.at ≡ Some x.content) (ahead ++ q ∷ back)
      (each_append (λ (x : Pair). content_at new x.at ≡ Some x.content) ahead (q ∷ back) (each_left (λ (x : Pair). content_at new x.at ≡ Some x.content) ahead (q ∷ o ∷ back) all) (behind.0, behind.1.1));
  first = d.first;
  files = d.files;
}

-- ---- the blocks

module _ (disk new : Disk) (ahead : List Pair) (p o q : Pair) (back : List Pair) (none : HasNoMove (pairs_gstate (ahead ++ p ∷ o ∷ back)))
    (d : IsDevice disk new (ahead ++ p ∷ o ∷ back) (ahead ++ q ∷ back)) (slots : q.content.slots ≡ p.content.slots) where
  same : SameFiles disk new (all_slots ahead ++ (p.content.slots ++ (o.content.slots ++ all_slots back)))
  same = subst (SameFiles disk new) (unmoved_in (pairs_gstate (ahead ++ p ∷ o ∷ back)) none (ahead ++ p ∷ o ∷ back) ∙ slots_append ahead (p ∷ o ∷ back))
      (recursion_from_All (λ (s : Slot). SameFileBlocks disk new s.struct) (all_unmoved_slots (ahead ++ p ∷ o ∷ back)) d.files)

  kept : (ss : List Slot) → SameFiles disk new ss → (b : ℕ) → occurrence_count b (file_blocks new ss) ≡ occurrence_count b (file_blocks disk ss)
  kept ss h b = ap (occurrence_count b) (slots_files disk new ss d.geometry h)

  pub files_dropped : (b : ℕ) → occurrence_count b (file_blocks new (all_slots (ahead ++ q ∷ back))) + occurrence_count b (file_blocks disk o.content.slots)
      ≡ occurrence_count b (file_blocks disk (all_slots (ahead ++ p ∷ o ∷ back)))
  files_dropped b =
      let g = all_slots back in
      let f = all_slots ahead in
      let h1 = each_left (λ (s : Slot). SameFileBlocks disk new s.struct) f (p.content.slots ++ (o.content.slots ++ g)) same in
      let h2 = each_right (λ (s : Slot). SameFileBlocks disk new s.struct) f (p.content.slots ++ (o.content.slots ++ g)) same in
      let h3 = each_left (λ (s : Slot). SameFileBlocks disk new s.struct) p.content.slots (o.content.slots ++ g) h2 in
      let h4 = each_right (λ (s : Slot). SameFileBlocks disk new s.struct) o.content.slots g (each_right (λ (s : Slot). SameFileBlocks disk new s.struct) p.content.slots (o.content.slots ++ g) h2) in
      let e1 = kept f h1 b in
      let e2 = kept p.content.slots h3 b in
      let e3 = kept g h4 b in
      let b1 = ap (λ z. occurrence_count b (file_blocks new z)) (slots_append ahead (q ∷ back)) in
      let b2 = ap (λ z. occurrence_count b (file_blocks disk z)) (slots_append ahead (p ∷ o ∷ back)) in
      let c1 = count_files b new f (q.content.slots ++ g) in
      let c2 = count_files b new q.content.slots g in
      let c3 = ap (λ z. occurrence_count b (file_blocks new z)) slots in
      let c4 = count_files b disk f (p.content.slots ++ (o.content.slots ++ g)) in
      let c5 = count_files b disk p.content.slots (o.content.slots ++ g) in
      let c6 = count_files b disk o.content.slots g in
      omega arith

pub blocks_dropped : (ahead : List Pair) (p o q : Pair) (back : List Pair) → q.at ≡ p.at → (b : ℕ) → occurrence_count b (pairs_blocks (ahead ++ q ∷ back)) + occurrence_count b (address_blocks o.at) ≡ occurrence_count b (pairs_blocks (ahead ++ p ∷ o ∷ back))
blocks_dropped ahead p o q back at b =
    let d1 = blocks_append ahead (q ∷ back) b in
    let d2 = blocks_append ahead (p ∷ o ∷ back) b in
    let d3 = blocks_append (q ∷ []) back b in
    let d4 = blocks_append (p ∷ []) (o ∷ back) b in
    let d5 = blocks_append (o ∷ []) back b in
    let d6 = ap (λ (a : ℕ × ℕ). occurrence_count b (a.0 ∷ a.1 ∷ [])) at in
    omega arith
