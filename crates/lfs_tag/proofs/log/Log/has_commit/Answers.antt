use Rattle.std.proofs.Common.{◌∙◌, ap, ℕ, List, ltb}
use Rattle.lfs_tag.proofs.Common.{has_commit}
use Rattle.lfs_tag.proofs.Runs.{goes_on}
use Rattle.lfs_tag.proofs.log.Log.has_commit.Goals as goal

pub returns : goal.returns
returns c = ap (λ (end : ℕ). ltb 4 end) c.self.invariant.end ∙ goes_on c.self.inside.block.now ∙ ap (λ (block : List ℕ). has_commit block) c.self.view_is
