-- If no used block changed, the operation left alone what it doesn't concern.
use Rattle.std.proofs.Common.{ℕ, zero, suc, ◌≡◌, ◌≤◌, [], ◌∷◌, List, ap, arith}
use Rattle.std.specs.Prelude.{All, Contains}
use Rattle.lfs_fs.proofs.Common.{All-from_recursion, KeepsUnrelatedBlocks, Disk, disk_block, Operation, Session, all_unmoved_slots, struct_blocks, used_blocks, Slot, Pair, pairs_blocks, Each, each_weaker}
use Rattle.lfs_model.specs.format.Thread.{address_blocks}
use Rattle.lfs_model.proofs.BlockSets.{Contains-occurrence_count}
use Rattle.lfs_model.proofs.Counts.{occurrence_count, count_append, count_here, each_from_counted, each_pieces}
use Rattle.lfs_model.proofs.Splices.{file_blocks}

owner_counted : (b : ℕ) (p : Pair) (zs : List Pair) → Contains zs p → 1 ≤ occurrence_count b (address_blocks p.at) → 1 ≤ occurrence_count b (pairs_blocks zs)
owner_counted b p [] (k, l, e) some = absurd (omega arith)
owner_counted b p (z ∷ zs) (zero, l, e) some = let m = ap (λ (x : Pair). occurrence_count b (address_blocks x.at)) e in let c = count_append b (address_blocks z.at) (pairs_blocks zs) in omega arith
owner_counted b p (z ∷ zs) (suc k, l, e) some = let o = owner_counted b p zs (k, omega arith, e) some in let c = count_append b (address_blocks z.at) (pairs_blocks zs) in omega arith

module _ (disk new : Disk) (ps : List Pair) (stay : (b : ℕ) → Contains (used_blocks disk ps) b → disk_block new b ≡ disk_block disk b) where
  abbrev IsSame : ℕ → Type 0
  IsSame b = disk_block new b ≡ disk_block disk b

  of_pair : (p : Pair) → Contains ps p → (b : ℕ) → 1 ≤ occurrence_count b (address_blocks p.at) → disk_block new b ≡ disk_block disk b
  of_pair p has b some =
      stay b (Contains-occurrence_count (used_blocks disk ps) b
      (let o = owner_counted b p ps has some in let e = count_append b (pairs_blocks ps) (file_blocks disk (all_unmoved_slots ps)) in omega arith))

  of_files : Each (λ (s : Slot). Each IsSame (struct_blocks disk s.struct)) (all_unmoved_slots ps)
  of_files = each_pieces IsSame (λ (s : Slot). struct_blocks disk s.struct) (all_unmoved_slots ps) (each_from_counted IsSame (file_blocks disk (all_unmoved_slots ps))
      (λ b some. stay b (Contains-occurrence_count (used_blocks disk ps) b (let e = count_append b (pairs_blocks ps) (file_blocks disk (all_unmoved_slots ps)) in omega arith))))

  pub written_alone : (qs : List Pair) (s : Session) (op : Operation) → KeepsUnrelatedBlocks disk ps s op new qs
  written_alone qs s op = record {
    files = All-from_recursion (λ (s : Slot). All IsSame (struct_blocks disk s.struct)) (all_unmoved_slots ps)
        (each_weaker (λ (s : Slot). Each IsSame (struct_blocks disk s.struct)) (λ (s : Slot). All IsSame (struct_blocks disk s.struct)) (λ s h. All-from_recursion IsSame (struct_blocks disk s.struct) h) (all_unmoved_slots ps) of_files);
    pairs = λ p has now about. (
      of_pair p has p.at.0 (let k = count_here p.at.0 (p.at.1 ∷ []) in omega arith),
      of_pair p has p.at.1 (let k = count_here p.at.1 [] in let c = count_append p.at.1 (p.at.0 ∷ []) (p.at.1 ∷ []) in omega arith),
    );
  }
