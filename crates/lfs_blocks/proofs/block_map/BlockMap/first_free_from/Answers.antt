use Rattle.std.proofs.Common.{arith, rules, ap, sym, ◌∙◌, ◌≡◌, ◌<◌, ◌^◌, get_or}
use Rattle.std.proofs.lemmas.List.{get_or_read}
use Rattle.lfs_blocks.specs.Marks.{state_at_bit}
use Rattle.lfs_blocks.specs.BlockMap.{free_marks}
use Rattle.lfs_blocks.proofs.SetLemmas.{IsFree-marks_states, free_at, none_free_before}
use Rattle.lfs_blocks.proofs.block_map.BlockMap.first_free_from.Goals as goal
use Rattle.lfs_blocks.proofs.block_map.BlockMap.first_free_from.Goals.{In-Some}

few_marks : (c : In-Some) → (c.loop-index.index < c.self.inside.block_count) × (c.self.inside.block_count < 2 ^ 32)
few_marks c = (omega (arith, c.self.inside.marks.ok.0), search rules)

read : (c : In-Some) → c.index.result.now ≡ get_or c.self.inside.marks.items c.loop-index.index free_marks
read c = get_or_read c.self.inside.marks.items c.loop-index.index c.index.result.now (omega (arith, c.self.inside.marks.ok.0)) c.index.ensures free_marks

pub overflow_mul-block : goal.overflow_mul-block
overflow_mul-block c = search (rules, few_marks c)

pub overflow_add-block : goal.overflow_add-block
overflow_add-block c = search (rules, few_marks c, c.in-Some.ensures.within)

pub returns-then-block-block_count-clause-found : goal.returns-then-block-block_count-clause-found
returns-then-block-block_count-clause-found c =
    let early = (goal.at.returns-then-block-block_count-clause-found c).In-Some in
    rw (← c.self.view_is) (free_at c.self.inside.marks.items c.self.inside.block_count c.loop-index.index c.in-Some.free c.in-Some.ensures.within.1 c.if-block-block_count.true
    (ap (λ m. state_at_bit m c.in-Some.free) (sym (read early)) ∙ c.in-Some.ensures.found))

pub returns-then-block-block_count-clause-behind : goal.returns-then-block-block_count-clause-behind
returns-then-block-block_count-clause-behind c = omega (arith, c.loop-index.invariant.begins, c.in-Some.ensures.within.0)

pub returns-then-block-block_count-clause-first : goal.returns-then-block-block_count-clause-first
returns-then-block-block_count-clause-first c =
    let early = (goal.at.returns-then-block-block_count-clause-first c).In-Some in
    rw (← c.self.view_is) (none_free_before c.self.inside.marks.items c.self.inside.block_count c.args.start c.loop-index.index c.loop-index.place c.in-Some.free
    c.in-Some.ensures.within.1 c.loop-index.invariant.passed
    (λ k from before free. c.in-Some.ensures.first k from before (ap (λ m. state_at_bit m k) (read early) ∙ free)))

pub returns-else-block-block_count-clause-none : goal.returns-else-block-block_count-clause-none
returns-else-block-block_count-clause-none c =
    let early = (goal.at.returns-else-block-block_count-clause-none c).In-Some in
    rw (← c.self.view_is) (λ b from free.
    none_free_before c.self.inside.marks.items c.self.inside.block_count c.args.start c.loop-index.index c.loop-index.place c.in-Some.free
    c.in-Some.ensures.within.1 c.loop-index.invariant.passed
    (λ k from before free. c.in-Some.ensures.first k from before (ap (λ m. state_at_bit m k) (read early) ∙ free))
    b from (omega (arith, (IsFree-marks_states c.self.inside.marks.items c.self.inside.block_count b free).0, c.if-block-block_count.false)) free)

pub returns-clause-none : goal.returns-clause-none
returns-clause-none c =
    rw (← c.self.view_is) (λ b from free.
    let here = IsFree-marks_states c.self.inside.marks.items c.self.inside.block_count b free in
    c.loop-index.invariant.passed b from (omega (arith, here.0, c.self.inside.marks.ok.0)) here.1)
