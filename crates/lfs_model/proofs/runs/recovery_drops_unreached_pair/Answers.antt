use Rattle.std.proofs.Common.{◌≡◌, ◌≤◌, inl, inr, true, List, [], ◌∷◌, ◌++◌, None, refl, sym, ap, subst, ◌∙◌, arith, flat_map, length}
use Rattle.std.specs.Prelude.{sum_by}
use Rattle.lfs_model.proofs.Common.{same_Some, Disk, pair_capacity, slots_limit, default_profile, Gstate, slot_size, same_pair, Pair, IsReachedDirectory, fresh_pair, superblock_slot, IsUnreachedOrRemoved, IsFittingPair, ArePairsSplitOrDropped, large_image}
use Rattle.lfs_model.specs.session.Operations as ops
use Rattle.lfs_model.specs.examples.Runs.{root_with_sync_bit, root_and_unreached_pair}
use Rattle.lfs_model.proofs.Sites.{among_from}
use Rattle.lfs_model.proofs.runs.recovery_drops_unreached_pair.Goals as goal

not_reached : IsReachedDirectory root_and_unreached_pair (2, 3) → ⊥
not_reached ([], at, (k, s)) = let e = subst (λ x. same_pair (2, 3) x ≡ true) (sym (same_Some (0, 1) at k)) s in absurd (cc)
not_reached (name ∷ path, at, (k, s)) = absurd (cc)

root_stays : IsUnreachedOrRemoved root_and_unreached_pair ops.Recover (0, 1) → ⊥
root_stays (inl n) = n ([], (0, 1), (refl, refl))
root_stays (inr a) = among_from (λ at. same_pair (0, 1) at ≡ true) [] a

abbrev root : Pair
root = fresh_pair large_image

fits : (disk : Disk) (p : Pair) → p.content.slots ≡ superblock_slot default_profile 4096 16 ∷ [] → disk.block_size ≡ 4096 → disk.page ≡ 256 → IsFittingPair disk p
fits disk p e b g = record {
  size = subst (λ slots. sum_by slot_size slots ≤ pair_capacity disk.block_size disk.page) (sym e) (subst (λ x. 40 ≤ pair_capacity x disk.page) (sym b) (subst (λ x. 40 ≤ pair_capacity 4096 x) (sym g) (omega arith)));
  count = subst (λ slots. length slots ≤ slots_limit) (sym e) (omega arith);
}

pub returns-clause-dropped : goal.returns-clause-dropped
returns-clause-dropped c = λ disk b g. record {
  drafts = root_and_unreached_pair;
  parts = (root ∷ []) ∷ [] ∷ [];
  front = root ∷ [];
  fresh = [];
  back = [];
  edits = (refl, refl);
  stand = ((refl, refl, fits disk root_with_sync_bit refl b g, root_stays, λ e. absurd (cc)), (inl (inl not_reached), tt));
  joined = refl;
  is = refl;
}

two : (disk : Disk) (q f : Pair) → disk.block_size ≡ 4096 → disk.page ≡ 256 → (parts : List (List Pair)) → ArePairsSplitOrDropped disk (IsUnreachedOrRemoved root_and_unreached_pair ops.Recover) 0 None root_and_unreached_pair parts →
    flat_map (λ part. part) parts ≡ q ∷ f ∷ [] → ⊥
two disk q f b g [] h e = h
two disk q f b g (now ∷ []) h e = h.1
two disk q f b g (now ∷ (x ∷ []) ∷ parts) h e = h.1.0.3 (inl not_reached)
two disk q f b g (now ∷ (x ∷ y ∷ []) ∷ parts) h e = h.1.0.5 (inl not_reached)
two disk q f b g (now ∷ (x ∷ y ∷ z ∷ more) ∷ parts) h e = h.1.0
two disk q f b g (now ∷ [] ∷ z ∷ parts) h e = h.1.1
two disk q f b g ([] ∷ [] ∷ []) h e = absurd (cc)
two disk q f b g ((x ∷ []) ∷ [] ∷ []) h e = absurd (cc)
two disk q f b g ((x ∷ y ∷ []) ∷ [] ∷ []) h e = h.0.2 (fits disk root_with_sync_bit refl b g)
two disk q f b g ((x ∷ y ∷ z ∷ now) ∷ [] ∷ []) h e = h.0

pub returns-clause-not_left : goal.returns-clause-not_left
returns-clause-not_left c = λ disk q f b g h.
    two disk q f b g h.parts (subst (λ ds. ArePairsSplitOrDropped disk (IsUnreachedOrRemoved root_and_unreached_pair ops.Recover) 0 None ds h.parts) h.edits.1 h.stand)
    (h.joined ∙ ap (λ z. h.front ++ (z ++ h.back)) (sym h.edits.0) ∙ sym h.is)

pub returns-clause-unrecovered : goal.returns-clause-unrecovered
returns-clause-unrecovered c = λ h. let e = ap (λ (g : Gstate). g.sync) h.gstate in absurd (cc)
