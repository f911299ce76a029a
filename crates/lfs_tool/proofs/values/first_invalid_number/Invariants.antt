use Rattle.std.proofs.Common.{◌≡◌, map, drop}
use Rattle.clap.specs.Words.{found_of, rows_of}
use Rattle.lfs_tool.specs.Values.{first_bad_number}
use Rattle.lfs_tool.proofs.values.first_invalid_number.Given as goal

abbrev pub invariant-loop-id : goal.invariant-loop-id
invariant-loop-id l = first_bad_number (map (λ id. id.now) (drop l.id-index l.ids)) (rows_of (found_of l.matches))
    ≡ first_bad_number (map (λ id. id.now) l.ids) (rows_of (found_of l.matches))
