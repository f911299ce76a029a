use Rattle.lfs_file.proofs.Releasings.{releases_one}
use Rattle.lfs_file.proofs.releases.release_block.Goals as goal

pub returns-then-not-is_used : goal.returns-then-not-is_used
returns-then-not-is_used c =
    releases_one c.args.map.now c.release.new.self c.args.block c.requires (λ used. let yes = c.is_used.ensures.1 used in let no = c.if-not-is_used.true in cc) c.release.ensures
