use Rattle.std.proofs.Common.{◌<◌, length, sym, ◌∙◌, arith}
use Rattle.lfs_tag.proofs.Ranks.{first_here, first_later}
use Rattle.lfs_tag.proofs.lookup.first_wanted_id.Goals as goal

pub returns-then-named_as_wanted-clause-first : goal.returns-then-named_as_wanted-clause-first
returns-then-named_as_wanted-clause-first c = λ t is count.
    let below : c.loop-id.id < length t.slots = omega (arith, count, c.loop-id-test.true) in
    first_here c.args.order c.args.name.now c.args.same c.args.skip t.slots c.loop-id.id c.compare_slot_name-rank.result below (c.compare_slot_name-rank.ensures t is) (sym c.named_as_wanted.ensures ∙ c.if-named_as_wanted.true)
    ∙ c.loop-id.invariant t is count

pub loop-id-preserved : goal.loop-id-preserved
loop-id-preserved c = λ t is count.
    let below : c.loop-id.id < length t.slots = omega (arith, count, c.loop-id-test.true) in
    first_later c.args.order c.args.name.now c.args.same c.args.skip t.slots c.loop-id.id c.compare_slot_name-rank.result below (c.compare_slot_name-rank.ensures t is) (sym c.named_as_wanted.ensures ∙ c.if-named_as_wanted.false)
    ∙ c.loop-id.invariant t is count
