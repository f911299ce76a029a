use Rattle.std.proofs.Common.{◌≡◌, ◌≤◌, ◌<◌, ◌%◌, ℕ, Option, Some, None, IfSome, length, ap, sym, ◌∙◌, subst, ⊎_elim, arith}
use Rattle.lfs_model.specs.layers.BlockSets.{BlockStates, IsFree}
use Rattle.lfs_blocks.specs.Next.{IsNextFree}
use Rattle.lfs_blocks.proofs.SetLemmas.{length-marks_states}
use Rattle.lfs_blocks.proofs.block_map.BlockMap.next_free.Goals as goal

ahead_of : (sets : BlockStates) (from b : ℕ) → from ≤ b → IsFree sets b
    → ((other : ℕ) → from ≤ other → other < b → ¬ (IsFree sets other)) → IsNextFree sets from b
ahead_of sets from b behind free first = record {
  free = free;
  ahead = λ _. first;
  around = λ before. absurd (omega (arith, before, behind));
}

-- where none is free from a place on, the search begins again with the first block
around_to : (sets : BlockStates) (from : ℕ) (r : Option ℕ) → ((b : ℕ) → from ≤ b → ¬ (IsFree sets b)) → IfSome r (IsFree sets)
    → IfSome r (λ found. (other : ℕ) → 0 ≤ other → other < found → ¬ (IsFree sets other)) → IfSome r (IsNextFree sets from)
around_to sets from None none free first = tt
around_to sets from (Some b) none free first = record {
  free = free;
  ahead = λ behind. absurd (none b behind free);
  around = λ before other way. ⊎_elim (none other) (first other (omega arith)) way;
}

pub first_free_from-requires : goal.first_free_from-requires
first_free_from-requires c =
    let positive = c.if-self-eq0.false in
    omega (arith, positive, ap length c.self.view_is, length-marks_states c.self.inside.marks.items c.self.inside.block_count)

count_is : (sets states : BlockStates) (n : ℕ) → states ≡ sets → length states ≡ n → n ≡ length sets
count_is sets states n is size = sym size ∙ ap length is

pub returns-in-Some-clause-next : goal.returns-in-Some-clause-next
returns-in-Some-clause-next c =
    let count = count_is c.args.self.now _ c.self.inside.block_count c.self.view_is (length-marks_states c.self.inside.marks.items c.self.inside.block_count) in
    subst (λ n. IsNextFree c.args.self.now (c.args.number % n) c.in-Some.block) count
    (ahead_of c.args.self.now (c.args.number % c.self.inside.block_count) c.in-Some.block c.in-Some.ensures.behind c.in-Some.ensures.found c.in-Some.ensures.first)

pub returns-in-None-clause-next : goal.returns-in-None-clause-next
returns-in-None-clause-next c =
    let count = count_is c.args.self.now _ c.self.inside.block_count c.self.view_is (length-marks_states c.self.inside.marks.items c.self.inside.block_count) in
    subst (λ n. IfSome c.first_free_from-in-None.result (IsNextFree c.args.self.now (c.args.number % n))) count
    (around_to c.args.self.now (c.args.number % c.self.inside.block_count) c.first_free_from-in-None.result c.in-None.ensures.none c.first_free_from-in-None.ensures.found c.first_free_from-in-None.ensures.first)
