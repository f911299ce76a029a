use Rattle.std.proofs.Common.{sym, subst, arith}
use Rattle.lfs_file.proofs.Sizes.{IsPlaceBy, place_at_guess, place_before_guess}
use Rattle.lfs_file.proofs.size.place.Goals as goal
use Rattle.lfs_file.proofs.size.place.Goals.{then-pos-mean, else-pos-mean}

pub overflow_sub-result-2 : goal.overflow_sub-result-2
overflow_sub-result-2 c = elim c.if-pos-mean.branch [
  | then-pos-mean w ↦ (subst (IsPlaceBy c.args.block_size c.args.pos c.requires) (sym w.index-is) (place_before_guess c.args.block_size c.args.pos c.requires (omega arith) c.if-guess-eq0.false w.if-pos-mean.true)).0
  | else-pos-mean w ↦ (subst (IsPlaceBy c.args.block_size c.args.pos c.requires) (sym w.index-is) (place_at_guess c.args.block_size c.args.pos c.requires (omega arith) c.if-guess-eq0.false (omega (arith, w.if-pos-mean.false)))).0
]

pub returns : goal.returns
returns c = elim c.if-pos-mean.branch [
  | then-pos-mean w ↦ (subst (IsPlaceBy c.args.block_size c.args.pos c.requires) (sym w.index-is) (place_before_guess c.args.block_size c.args.pos c.requires (omega arith) c.if-guess-eq0.false w.if-pos-mean.true)).1
  | else-pos-mean w ↦ (subst (IsPlaceBy c.args.block_size c.args.pos c.requires) (sym w.index-is) (place_at_guess c.args.block_size c.args.pos c.requires (omega arith) c.if-guess-eq0.false (omega (arith, w.if-pos-mean.false)))).1
]
