use Rattle.std.proofs.Common.{arith, ◌∙◌, ◌*◌, ◌≡◌, ◌+◌, length, map, subst, sym, List}
use Rattle.lfs_pair.proofs.Common.{ltb-true, length-map, RawSlot, slot_view, IsHalfCut}
use Rattle.std.proofs.lemmas.Bool.{ltb-false}
use Rattle.lfs_pair.proofs.Cutting.{cut_at_end, cut_where_fits, cut_where_full, fits_more, nothing_in_front, passes_where_back, passes_where_small, sums_of, total_is}
use Rattle.lfs_pair.proofs.cut.middle_cut.Goals as goal
use Rattle.lfs_pair.proofs.cut.middle_cut.Goals.{then-not-fits_pair-via-then-not-fits_pair, then-not-fits_pair-via-else-not-fits_pair+then-longer-total, then-back_fits, else-back_fits}

pub loop-slot-init : goal.loop-slot-init
loop-slot-init c = record {
  total = total_is c.args.geometry.block_size _ (map slot_view c.args.slots.now) c.slots_size-total.result (omega arith) c.requires c.slots_size-total.ensures;
  cut = omega arith;
  front = omega arith;
  fronts = nothing_in_front c.args.geometry.block_size c.args.geometry.page (map slot_view c.args.slots.now);
}

pub overflow_add-longer : goal.overflow_add-longer
overflow_add-longer c = let s = sums_of slot_view c.args.geometry.block_size _ c.args.slots.now c.loop-slot.slot-index c.slot-item.result c.slot_size.result (omega arith) c.requires c.loop-slot-test.true c.slot-item.is c.slot_size.ensures in omega arith

pub overflow_sub-total : goal.overflow_sub-total
overflow_sub-total c = let s = sums_of slot_view c.args.geometry.block_size _ c.args.slots.now c.loop-slot.slot-index c.slot-item.result c.slot_size.result (omega arith) c.requires c.loop-slot-test.true c.slot-item.is c.slot_size.ensures in omega arith

pub returns-then-not-fits_pair : goal.returns-then-not-fits_pair
returns-then-not-fits_pair c =
    let s = sums_of slot_view c.args.geometry.block_size _ c.args.slots.now c.loop-slot.slot-index c.slot-item.result c.slot_size.result (omega arith) c.requires c.loop-slot-test.true c.slot-item.is c.slot_size.ensures in
    let slots : List RawSlot = map slot_view c.args.slots.now in
    let count : length slots ≡ length c.args.slots.now = length-map c.args.slots.now slot_view in
    subst (IsHalfCut c.args.geometry.block_size c.args.geometry.page slots) (sym c.loop-slot.invariant.cut) (elim c.then-not-fits_pair.branch [
      | then-not-fits_pair-via-then-not-fits_pair w ↦
          cut_where_full c.args.geometry.block_size c.args.geometry.page slots c.loop-slot.slot-index (omega arith) c.loop-slot.invariant.fronts c.requires
          (λ few small. let fits = c.fits_pair.ensures.1 (omega arith, omega arith) in cc (w.if-not-fits_pair.true, fits))
      | then-not-fits_pair-via-else-not-fits_pair+then-longer-total w ↦ elim w.if-back_fits.branch [
        | then-back_fits v ↦
            let fits = c.fits_pair-back_fits.ensures.0 v.if-back_fits.true in
            cut_where_fits c.args.geometry.block_size c.args.geometry.page slots c.loop-slot.slot-index (omega arith) c.loop-slot.invariant.fronts (omega (arith, fits.1)) (omega (arith, fits.0))
            (omega (arith, ltb-true c.slots_size-total.result (2 * (c.loop-slot.front + c.slot_size.result)) (sym v.value-is ∙ w.if-longer-total.true)))
        | else-back_fits v ↦ absurd (cc (w.if-longer-total.true, v.value-is))
      ]
    ])

pub loop-slot-preserved : goal.loop-slot-preserved
loop-slot-preserved c =
    let s = sums_of slot_view c.args.geometry.block_size _ c.args.slots.now c.loop-slot.slot-index c.slot-item.result c.slot_size.result (omega arith) c.requires c.loop-slot-test.true c.slot-item.is c.slot_size.ensures in
    let slots : List RawSlot = map slot_view c.args.slots.now in
    let count : length slots ≡ length c.args.slots.now = length-map c.args.slots.now slot_view in
    let fits = c.fits_pair.ensures.0 c.if-not-fits_pair.false in
    record {
      total = c.loop-slot.invariant.total;
      cut = omega arith;
      front = omega arith;
      fronts = record {
        fits = fits_more slot_view c.args.geometry.block_size c.args.geometry.page c.args.slots.now c.loop-slot.slot-index c.loop-slot-test.true (omega (arith, fits.0)) (omega (arith, fits.1));
        passes = elim c.if-back_fits.branch [
          | then-back_fits v ↦ passes_where_small c.args.geometry.block_size c.args.geometry.page slots c.loop-slot.slot-index
              (omega (arith, ltb-false c.slots_size-total.result (2 * (c.loop-slot.front + c.slot_size.result)) (sym v.value-is ∙ c.if-longer-total.false)))
          | else-back_fits v ↦
              passes_where_back c.args.geometry.block_size c.args.geometry.page slots c.loop-slot.slot-index (omega arith) c.loop-slot.invariant.fronts.fits
              (λ few small. let back = c.fits_pair-back_fits.ensures.1 (omega arith, omega arith) in cc (v.if-back_fits.false, back))
        ];
      };
    }

pub returns : goal.returns
returns c =
    let slots : List RawSlot = map slot_view c.args.slots.now in
    subst (IsHalfCut c.args.geometry.block_size c.args.geometry.page slots) (sym c.loop-slot.invariant.cut)
    (cut_at_end c.args.geometry.block_size c.args.geometry.page slots c.loop-slot.slot-index (omega (arith, length-map c.args.slots.now slot_view)) c.loop-slot.invariant.fronts)
