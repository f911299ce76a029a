use Rattle.std.proofs.Common.{◌∙◌, ap, arith, sym}
use Rattle.lfs_lookup.proofs.Common.{is_root_path}
use Rattle.lfs_lookup.proofs.LastNames.{long_root}
use Rattle.lfs_lookup.proofs.path.Path.is_root.Goals as goal

pub returns-in_default : goal.returns-in_default
returns-in_default c =
    let l = c.in_default.len_at_least in
    sym (long_root c.self.inside.bytes.now c.self.invariant (omega (arith, l))) ∙ ap is_root_path c.self.view_is
