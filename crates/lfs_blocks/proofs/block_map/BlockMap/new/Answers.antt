use Rattle.std.proofs.Common.{arith, ap, ◌∙◌, ◌≡◌, replicate}
use Rattle.lfs_blocks.specs.BlockMap.{marks_states}
use Rattle.lfs_blocks.proofs.SetLemmas.{IsMap-replicate, sets_of-replicate}
use Rattle.lfs_blocks.proofs.block_map.BlockMap.new.Goals as goal
use Rattle.lfs_blocks.proofs.block_map.BlockMap.new.Goals.{In_ok-marks}

items_are : (c : In_ok-marks) → c.in_ok-marks.marks.items ≡ replicate c.div_ceil.result c.all_free.result
items_are c = c.in_ok-marks.ensures.items_if_clones_equal (λ y same. same)

pub invariant_of-result : goal.invariant_of-result
invariant_of-result c =
    rw (items_are c) (IsMap-replicate c.args.block_count c.div_ceil.result c.all_free.result c.all_free.ensures
    (omega (arith, c.div_ceil.ensures)) (omega (arith, c.div_ceil.ensures)))

pub returns-clause-free : goal.returns-clause-free
returns-clause-free c =
    ap (λ items. marks_states items c.args.block_count) (items_are c)
    ∙ sets_of-replicate c.args.block_count c.div_ceil.result c.all_free.result c.all_free.ensures (omega (arith, c.div_ceil.ensures))
