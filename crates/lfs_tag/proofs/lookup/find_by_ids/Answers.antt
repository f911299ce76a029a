use Rattle.std.proofs.Common.{◌≡◌, ◌<◌, ◌≤◌, true, false, ltb, length, map, ap, ◌∙◌, arith}
use Rattle.lfs_tag.proofs.Common.{nat_tests, length-map, block_entries, comparison_with_slot, first_wanted_slot}
use Rattle.lfs_tag.specs.declared.lookup.Lookup.TheVariants.{Found, Place}
use Rattle.lfs_tag.proofs.Counts.{counted}
use Rattle.lfs_tag.proofs.lookup.find_by_ids.Goals as goal

pub returns-then-found-count : goal.returns-then-found-count
returns-then-found-count c = λ t is.
    let ranks = map (comparison_with_slot c.args.order c.args.name.now) t.slots in
    let count = c.slot_count-count.ensures.count ∙ counted (block_entries c.args.log.now) t is in
    let len = length-map t.slots (comparison_with_slot c.args.order c.args.name.now) in
    let found = c.first_wanted_id-found.ensures.first t is count in
    let below : first_wanted_slot true c.args.skip 0 ranks < length ranks = omega (arith, count, len, found, c.if-found-count.true) in
    let test : ltb (first_wanted_slot true c.args.skip 0 ranks) (length ranks) ≡ true = grind (arith, nat_tests) in
    rw test (ap Found found)

pub returns-else-found-count : goal.returns-else-found-count
returns-else-found-count c = λ t is.
    let ranks = map (comparison_with_slot c.args.order c.args.name.now) t.slots in
    let count = c.slot_count-count.ensures.count ∙ counted (block_entries c.args.log.now) t is in
    let len = length-map t.slots (comparison_with_slot c.args.order c.args.name.now) in
    let found = c.first_wanted_id-found.ensures.first t is count in
    let past : length ranks ≤ first_wanted_slot true c.args.skip 0 ranks = omega (arith, count, len, found, c.if-found-count.false) in
    let test : ltb (first_wanted_slot true c.args.skip 0 ranks) (length ranks) ≡ false = grind (arith, nat_tests) in
    rw test (ap Place (c.first_wanted_id.ensures.first t is count))
