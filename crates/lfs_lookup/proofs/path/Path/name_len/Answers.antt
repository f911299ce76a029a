use Rattle.std.proofs.Common.{◌∙◌, ap, length}
use Rattle.lfs_lookup.proofs.Common.{last_name}
use Rattle.lfs_lookup.proofs.LastNames.{last_name_len}
use Rattle.lfs_lookup.proofs.path.Path.name_len.Goals as goal

pub returns-clause-len : goal.returns-clause-len
returns-clause-len c = c.last_name_length.ensures.len ∙ last_name_len c.self.inside.bytes.now c.self.invariant ∙ ap (λ p. length (last_name p)) c.self.view_is
