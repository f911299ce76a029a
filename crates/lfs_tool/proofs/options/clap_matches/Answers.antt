use Rattle.std.proofs.Common.{map}
use Rattle.clap.specs.Words.{app_of}
use Rattle.lfs_tool.proofs.Complete.{parsed_image}
use Rattle.lfs_tool.proofs.Simple.{faults_are, rows_are}
use Rattle.lfs_tool.proofs.options.clap_matches.Goals as goal

pub returns-clause-kinds : goal.returns-clause-kinds
returns-clause-kinds g c = faults_are (app_of c.in_ok-mklittlefs_command.field-0) (map g.S.AsStr.text c.args.words.now) c.try_get_matches_from.result c.in_ok-mklittlefs_command.ensures c.try_get_matches_from.ensures.kinds

pub returns-clause-matches : goal.returns-clause-matches
returns-clause-matches g c = rows_are (app_of c.in_ok-mklittlefs_command.field-0) (map g.S.AsStr.text c.args.words.now) c.try_get_matches_from.result c.in_ok-mklittlefs_command.ensures c.try_get_matches_from.ensures.matches

pub returns-clause-image : goal.returns-clause-image
returns-clause-image g c = parsed_image c.in_ok-mklittlefs_command.field-0 c.try_get_matches_from.result c.in_ok-mklittlefs_command.ensures c.try_get_matches_from.ensures.parsed
