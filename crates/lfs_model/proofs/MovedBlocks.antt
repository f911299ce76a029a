-- Which blocks an image uses after a worn pair has moved.
use Rattle.std.proofs.Common.{ℕ, ◌≡◌, ◌+◌, List, [], ◌∷◌, ◌++◌, length, sym, ap, ap₂, subst, ◌∙◌, arith, length-append}
use Rattle.lfs_model.proofs.Common.{recursion_from_All, flat_map-append, Disk, Slot, PairContent, Pair, address_blocks, pairs_blocks, pairs_gstate, struct_blocks, all_unmoved_slots, used_blocks, occurrence_count}
use Rattle.lfs_model.proofs.Counts.{count_append}
use Rattle.lfs_model.proofs.Global.{HasNoMove}
use Rattle.lfs_model.proofs.Files.{SameFileBlocks}
use Rattle.lfs_model.proofs.Changes.{SameFiles, slots_files}
use Rattle.lfs_model.proofs.Splices.{all_slots, file_blocks, unmoved_in}
use Rattle.lfs_model.proofs.RootMoved.{pairs_count}
use Rattle.lfs_model.proofs.Relocated.{IsRelocated, IsUnloaded, relocated_gstate, unloaded_gstate}

slots_of : (xs ys : List Pair) → all_slots (xs ++ ys) ≡ all_slots xs ++ all_slots ys
slots_of xs ys = flat_map-append (λ (p : Pair). p.content.slots) xs ys

lengths_of : (xs ys : List Pair) → length (pairs_blocks (xs ++ ys)) ≡ length (pairs_blocks xs) + length (pairs_blocks ys)
lengths_of xs ys = ap length (flat_map-append (λ (p : Pair). p.at.0 ∷ p.at.1 ∷ []) xs ys) ∙ length-append (pairs_blocks xs) (pairs_blocks ys)

-- the files that no pair changes
files_of : (disk new : Disk) (ps : List Pair) → HasNoMove (pairs_gstate ps) → SameFiles disk new (all_unmoved_slots ps) → SameFiles disk new (all_slots ps)
files_of disk new ps none h = subst (SameFiles disk new) (unmoved_in (pairs_gstate ps) none ps) h

module _ (disk new : Disk) (before : List Pair) (p x q y : Pair) (back : List Pair) (none : HasNoMove (pairs_gstate (before ++ p ∷ x ∷ back))) (c : IsRelocated disk new before p x q y back) where
  abbrev ps : List Pair
  ps = before ++ p ∷ x ∷ back

  abbrev qs : List Pair
  qs = before ++ q ∷ y ∷ back

  relocated_slots : all_slots qs ≡ all_slots ps
  relocated_slots = slots_of before (q ∷ y ∷ back) ∙ ap₂ (λ a b. all_slots before ++ (a ++ (b ++ all_slots back))) c.slots (ap (λ (z : PairContent). z.slots) c.same) ∙ sym (slots_of before (p ∷ x ∷ back))

  relocated_files : file_blocks new (all_unmoved_slots qs) ≡ file_blocks disk (all_unmoved_slots ps)
  relocated_files = ap (file_blocks new) (unmoved_in (pairs_gstate qs) (subst HasNoMove (sym (relocated_gstate before p x q y back c.delta c.same)) none) qs ∙ relocated_slots)
      ∙ slots_files disk new (all_slots ps) c.device.geometry (files_of disk new ps none (recursion_from_All (λ (s : Slot). SameFileBlocks disk new s.struct) (all_unmoved_slots ps) c.device.files))
      ∙ ap (file_blocks disk) (sym (unmoved_in (pairs_gstate ps) none ps))

  -- the new blocks in place of the old ones
  pub relocated_blocks : (b : ℕ) → occurrence_count b (used_blocks new qs) + occurrence_count b (address_blocks x.at) ≡ occurrence_count b (address_blocks y.at) + occurrence_count b (used_blocks disk ps)
  relocated_blocks b =
      let a1 = count_append b (pairs_blocks qs) (file_blocks new (all_unmoved_slots qs)) in
      let a2 = count_append b (pairs_blocks ps) (file_blocks disk (all_unmoved_slots ps)) in
      let e = ap (occurrence_count b) relocated_files in
      let b1 = pairs_count b before (q ∷ y ∷ back) in
      let b2 = pairs_count b before (p ∷ x ∷ back) in
      let c1 = pairs_count b (q ∷ []) (y ∷ back) in
      let c2 = pairs_count b (p ∷ []) (x ∷ back) in
      let d1 = pairs_count b (y ∷ []) back in
      let d2 = pairs_count b (x ∷ []) back in
      let f = ap (λ (z : ℕ × ℕ). occurrence_count b (z.0 ∷ z.1 ∷ [])) c.at in
      omega arith

  -- as many
  pub relocated_length : length (used_blocks new qs) ≡ length (used_blocks disk ps)
  relocated_length = omega (
    arith,
    length-append (pairs_blocks qs) (file_blocks new (all_unmoved_slots qs)),
    length-append (pairs_blocks ps) (file_blocks disk (all_unmoved_slots ps)),
    ap length relocated_files,
    lengths_of before (q ∷ y ∷ back),
    lengths_of before (p ∷ x ∷ back),
  )

module _ (disk new : Disk) (before : List Pair) (x q y : Pair) (back : List Pair) (kept : List Slot) (none : HasNoMove (pairs_gstate (before ++ x ∷ back))) (c : IsUnloaded disk new before x q y back kept)
    (bare : file_blocks new kept ≡ []) where
  abbrev ps_2 : List Pair
  ps_2 = before ++ x ∷ back

  abbrev qs_2 : List Pair
  qs_2 = before ++ q ∷ y ∷ back

  joined_files : (slots others : List Slot) → file_blocks new (slots ++ others) ≡ file_blocks new slots ++ file_blocks new others
  joined_files slots others = flat_map-append (λ (s : Slot). struct_blocks new s.struct) slots others

  unloaded_slots : file_blocks new (all_slots qs_2) ≡ file_blocks new (all_slots ps_2)
  unloaded_slots = ap (file_blocks new) (slots_of before (q ∷ y ∷ back) ∙ ap₂ (λ a b. all_slots before ++ (a ++ (b ++ all_slots back))) c.kept c.slots)
      ∙ joined_files (all_slots before) (kept ++ (x.content.slots ++ all_slots back)) ∙ ap (λ z. file_blocks new (all_slots before) ++ z) (joined_files kept (x.content.slots ++ all_slots back) ∙ ap (λ z. z ++ file_blocks new (x.content.slots ++ all_slots back)) bare)
      ∙ sym (joined_files (all_slots before) (x.content.slots ++ all_slots back)) ∙ ap (file_blocks new) (sym (slots_of before (x ∷ back)))

  unloaded_files : file_blocks new (all_unmoved_slots qs_2) ≡ file_blocks disk (all_unmoved_slots ps_2)
  unloaded_files = ap (file_blocks new) (unmoved_in (pairs_gstate qs_2) (subst HasNoMove (sym (unloaded_gstate before x q y back c.delta c.none)) none) qs_2) ∙ unloaded_slots
      ∙ slots_files disk new (all_slots ps_2) c.device.geometry (files_of disk new ps_2 none (recursion_from_All (λ (s : Slot). SameFileBlocks disk new s.struct) (all_unmoved_slots ps_2) c.device.files))
      ∙ ap (file_blocks disk) (sym (unmoved_in (pairs_gstate ps_2) none ps_2))

  -- the new blocks beside the old ones
  pub unloaded_blocks : (b : ℕ) → occurrence_count b (used_blocks new qs_2) ≡ occurrence_count b (address_blocks y.at) + occurrence_count b (used_blocks disk ps_2)
  unloaded_blocks b =
      let a1 = count_append b (pairs_blocks qs_2) (file_blocks new (all_unmoved_slots qs_2)) in
      let a2 = count_append b (pairs_blocks ps_2) (file_blocks disk (all_unmoved_slots ps_2)) in
      let e = ap (occurrence_count b) unloaded_files in
      let b1 = pairs_count b before (q ∷ y ∷ back) in
      let b2 = pairs_count b before (x ∷ back) in
      let c1 = pairs_count b (q ∷ []) (y ∷ back) in
      let c2 = pairs_count b (x ∷ []) back in
      let d1 = pairs_count b (y ∷ []) back in
      let f = ap (λ (z : ℕ × ℕ). occurrence_count b (z.0 ∷ z.1 ∷ [])) c.at in
      omega arith

  -- two more
  pub unloaded_length : length (used_blocks new qs_2) ≡ 2 + length (used_blocks disk ps_2)
  unloaded_length = omega (
    arith,
    length-append (pairs_blocks qs_2) (file_blocks new (all_unmoved_slots qs_2)),
    length-append (pairs_blocks ps_2) (file_blocks disk (all_unmoved_slots ps_2)),
    ap length unloaded_files,
    lengths_of before (q ∷ y ∷ back),
    lengths_of before (x ∷ back),
  )
