-- An image of which no used block changed.
use Rattle.std.proofs.Common.{ℕ, ◌≡◌, ◌≤◌, ◌+◌, ◌∙◌, List, [], ◌∷◌, ◌++◌, length, length-append, take, Some, refl, sym, ap, subst, arith}
use Rattle.std.specs.Prelude.{All, Contains}
use Rattle.lfs_tree.proofs.Common.{flat_map, All-from_recursion, recursion_from_All, slice_get_within, current_block, Disk, SameGeometry, disk_block, FitsInPair, Slot, Pair, pairs_blocks, pairs_from_root, first_address, count_before_root, HasFirstLogEntry, IsAccepted, superblock_entry, IsWritableSlot, IsWritable, all_unmoved_slots, struct_blocks, used_blocks, Contains-occurrence_count, IsChangedImage, slots_files, Each, occurrence_count, count_append, count_here, each_from_counted, each_pieces, SameFileBlocks, chain_of_thread, root_begins}
use Rattle.lfs_model.specs.format.Content.{content_at}
use Rattle.lfs_model.specs.declared.limits.Profile.{Profile}
use Rattle.lfs_model.specs.format.Thread.{pairs_from_nonempty}
use Rattle.lfs_model.proofs.Devices.{content_same, first_same}
use Rattle.lfs_model.proofs.Splices.{IsDevice}
use Rattle.lfs_model.proofs.Superblocks.{IsChain, first_counted}
use Rattle.lfs_model.proofs.Unchanged.{accepted_filled, same_follows}

pub writable_on : (disk new : Disk) (ps : List Pair) → SameGeometry disk new → IsWritable disk ps → IsWritable new ps
writable_on disk new ps g h = record {
  pairs = subst (λ (n : ℕ). All (λ p. FitsInPair n new.page p.content) ps) (sym g.block_size) (subst (λ (n : ℕ). All (λ p. FitsInPair disk.block_size n p.content) ps) (sym g.page) h.pairs);
  slots = subst (λ (x : Profile). All (λ p. All (IsWritableSlot x new.block_size new.page) p.content.slots) ps) (sym g.profile)
      (subst (λ (n : ℕ). All (λ p. All (IsWritableSlot disk.profile n new.page) p.content.slots) ps) (sym g.block_size) (subst (λ (n : ℕ). All (λ p. All (IsWritableSlot disk.profile disk.block_size n) p.content.slots) ps) (sym g.page) h.slots));
  no_empty_pair = h.no_empty_pair;
}

pub geometry_back : (disk new : Disk) → SameGeometry disk new → SameGeometry new disk
geometry_back disk new g = record { block_size = sym g.block_size; page = sym g.page; order = sym g.order; profile = sym g.profile; count = sym g.count }

-- pairs of which no block changed
contents_still : (disk new : Disk) (ps : List Pair) → ((b : ℕ) → 1 ≤ occurrence_count b (pairs_blocks ps) → disk_block new b ≡ disk_block disk b) → Each (λ (p : Pair). content_at disk p.at ≡ Some p.content) ps
    → Each (λ (p : Pair). content_at new p.at ≡ Some p.content) ps
contents_still disk new [] same was = tt
contents_still disk new (p ∷ ps) same was = (
  content_same disk new p.at
      (same p.at.0 (let e = count_here p.at.0 (p.at.1 ∷ pairs_blocks ps) in omega arith))
      (same p.at.1 (let e = count_here p.at.1 (pairs_blocks ps) in omega arith)) ∙ was.0,
  contents_still disk new ps (λ b some. same b (omega arith)) was.1,
)

first_still : (disk new : Disk) (ps : List Pair) → IsAccepted disk ps → ((b : ℕ) → 1 ≤ occurrence_count b (pairs_blocks ps) → disk_block new b ≡ disk_block disk b)
    → HasFirstLogEntry (current_block new (first_address (pairs_from_nonempty ps))) superblock_entry
first_still disk new ps ok same =
    let f = accepted_filled disk ps ok in
    let n = first_counted ps f.pair f.rest f.is in
    let e = ap first_address f.is in
    subst (λ at. HasFirstLogEntry (current_block new at) superblock_entry) (sym e)
    (first_same disk new f.pair.at (same f.pair.at.0 n.0) (same f.pair.at.1 n.1) (subst (λ at. HasFirstLogEntry (current_block disk at) superblock_entry) e ok.first))

module _ (disk new : Disk) (ps : List Pair) (ok : IsAccepted disk ps) (geometry : SameGeometry disk new) (same : (b : ℕ) → Contains (used_blocks disk ps) b → disk_block new b ≡ disk_block disk b) where
  counted : (b : ℕ) → occurrence_count b (used_blocks disk ps) ≡ occurrence_count b (pairs_blocks ps) + occurrence_count b (flat_map (λ (s : Slot). struct_blocks disk s.struct) (all_unmoved_slots ps))
  counted b = count_append b (pairs_blocks ps) (flat_map (λ (s : Slot). struct_blocks disk s.struct) (all_unmoved_slots ps))

  pair_still : (b : ℕ) → 1 ≤ occurrence_count b (pairs_blocks ps) → disk_block new b ≡ disk_block disk b
  pair_still b some = same b (Contains-occurrence_count (used_blocks disk ps) b (let e = counted b in omega arith))

  pub files_still : Each (λ (s : Slot). SameFileBlocks disk new s.struct) (all_unmoved_slots ps)
  files_still = each_pieces (λ b. disk_block new b ≡ disk_block disk b) (λ (s : Slot). struct_blocks disk s.struct) (all_unmoved_slots ps)
      (each_from_counted (λ b. disk_block new b ≡ disk_block disk b) (flat_map (λ (s : Slot). struct_blocks disk s.struct) (all_unmoved_slots ps))
      (λ b some. same b (Contains-occurrence_count (used_blocks disk ps) b (let e = counted b in omega arith))))

  device_still : IsDevice disk new ps ps
  device_still = record {
    geometry = geometry;
    contents = All-from_recursion (λ (p : Pair). content_at new p.at ≡ Some p.content) ps
        (contents_still disk new ps pair_still (recursion_from_All (λ (p : Pair). content_at disk p.at ≡ Some p.content) ps ok.thread.contents));
    first = first_still disk new ps ok pair_still;
    files = All-from_recursion (λ (s : Slot). SameFileBlocks disk new s.struct) (all_unmoved_slots ps) files_still;
  }

  -- it is accepted as before, and shows the same tree
  pub still_follows : IsChangedImage disk ps new ps (λ t. t) (λ d. d)
  still_follows = go (pairs_from_root ps) refl
    where
      chain : List Pair
      chain = take (count_before_root ps) ps

      go : (behind : List Pair) → pairs_from_root ps ≡ behind → IsChangedImage disk ps new ps (λ t. t) (λ d. d)
      go [] e = absurd (
          let c = chain_of_thread ps in
          let root = root_begins disk ps ok in
          let w = slice_get_within ps (count_before_root ps) root.pair root.there in
          let l = ap length (c.0 ∙ ap (λ z. take (count_before_root ps) ps ++ z) e) in
          let k : count_before_root ps ≡ length (take (count_before_root ps) ps) = ap count_before_root c.0 ∙ c.1 in
          let n = length-append (take (count_before_root ps) ps) [] in
          omega arith)
      go (x ∷ rest) e =
          let c = chain_of_thread ps in
          let are : ps ≡ take (count_before_root ps) ps ++ (x ∷ rest) = c.0 ∙ ap (λ z. take (count_before_root ps) ps ++ z) e in
          subst (λ z. IsChangedImage disk z new z (λ t. t) (λ d. d)) (sym are)
          (same_follows disk new (take (count_before_root ps) ps) x rest (subst (IsChain (take (count_before_root ps) ps)) e c.1) (subst (IsAccepted disk) are ok) (subst (λ z. IsDevice disk new z z) are device_still))

  pub used_still : used_blocks new ps ≡ used_blocks disk ps
  used_still = ap (λ z. pairs_blocks ps ++ z) (slots_files disk new (all_unmoved_slots ps) geometry files_still)
