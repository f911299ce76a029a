use Rattle.std.proofs.Common.{◌≡◌, ◌∙◌, subst, sym}
use Rattle.lfs_mount.proofs.Common.{PairsBreak, move_view}
use Rattle.lfs_model.specs.declared.violations.Violation.TheVariants as violation
use Rattle.lfs_mount.proofs.KnownMoves.{known_right, unknown_breaks}
use Rattle.lfs_mount.proofs.moves.check_move.Goals as goal

pub returns-then-is_move_within-clause-right : goal.returns-then-is_move_within-clause-right
returns-then-is_move_within-clause-right c = λ chain p rest has moved.
    known_right (move_view c.args.state.now) c.args.pairs.now chain p rest has (sym c.is_move_within.ensures ∙ c.if-is_move_within.true) moved

pub returns-else-is_move_within-clause-broken : goal.returns-else-is_move_within-clause-broken
returns-else-is_move_within-clause-broken c = λ v is disk chain p rest has.
    let which : violation.Move ≡ v = cc in
    subst (PairsBreak disk _) which (unknown_breaks (move_view c.args.state.now) c.args.pairs.now disk chain p rest has (sym c.is_move_within.ensures ∙ c.if-is_move_within.false))
