use Rattle.std.proofs.Common.{◌≡◌, sym, subst}
use Rattle.lfs_file.specs.declared.extender.ExtenderState.{ExtenderState}
use Rattle.lfs_file.proofs.Common.{growing_size}
use Rattle.lfs_file.proofs.Rests.{counted}
use Rattle.lfs_file.proofs.extender.Extender.size.Goals as goal

pub returns : goal.returns
returns c = subst (λ (e : ExtenderState). e.size ≡ growing_size c.args.self.now) (sym c.deref.ensures) (counted c.self.inside.state.value c.args.self.now c.self.invariant c.self.view_is).sum
