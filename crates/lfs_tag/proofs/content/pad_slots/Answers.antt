use Rattle.std.proofs.Common.{◌≡◌, ◌+◌, ◌-◌, ◌∙◌, ap, arith, map, length, [], ◌∷◌}
use Rattle.lfs_tag.proofs.Common.{map-append, length-append, slot_view}
use Rattle.lfs_tag.proofs.Places.{one_more}
use Rattle.lfs_tag.proofs.content.pad_slots.Goals as goal

pub loop-alloc-preserved : goal.loop-alloc-preserved
loop-alloc-preserved c =
    let old = c.args.slots.now.items in
    let now = c.loop-alloc.slots.items in
    let items = c.in_ok-push.ensures.items in
    let len : length c.push.new.self.items ≡ length now + 1 = ap length items ∙ length-append now (c.empty_slot.result ∷ []) in
    let count : length c.push.new.self.items - length old ≡ length now - length old + 1 = omega (arith, len, c.loop-alloc.invariant.longer) in
    record {
      longer = omega (arith, len, c.loop-alloc.invariant.longer);
      within = omega (arith, len, c.loop-alloc.invariant.within, c.len.ensures);
      filled = rw (count, items, map-append slot_view now (c.empty_slot.result ∷ []), c.empty_slot.ensures) (one_more (map slot_view old) (map slot_view now) (length now - length old) c.loop-alloc.invariant.filled);
    }
