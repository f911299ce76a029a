use Rattle.std.proofs.Common.{◌≡◌, length, arith, ◌∙◌}
use Rattle.std.specs.Option.{option_map}
use Rattle.lfs_volume.proofs.NodeTables.{one_path_less}
use Rattle.lfs_volume.proofs.nodes.set_renamed_paths.Goals as goal

pub loop-path-preserved : goal.loop-path-preserved
loop-path-preserved c =
    let l = c.len.ensures in
    let k = c.pop.new.self.ok.0 in
    let is : c.len.result ≡ length c.pop.new.self.items = omega arith in
    one_path_less (option_map (λ p. p.items)) c.loop-path.paths.items c.pop.new.self.items c.in-Some.path c.loop-path.nodes.items c.set_renamed_path.new.nodes.items c.len.result c.in-Some.ensures.items is c.set_renamed_path.ensures ∙ c.loop-path.invariant
