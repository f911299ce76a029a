use Rattle.std.proofs.Common.{◌∙◌, ap}
use Rattle.clap.specs.Words.{found_of}
use Rattle.clap.proofs.WalkLemmas.{raw_values-rows}
use Rattle.lfs_tool.specs.Matches.{exactly_two_texts}
use Rattle.lfs_tool.proofs.modes.pair_of_texts.Goals as goal

pub returns-in-Some : goal.returns-in-Some
returns-in-Some c = c.two_texts.ensures ∙ ap exactly_two_texts (c.in-Some.ensures ∙ raw_values-rows (found_of c.args.matches.now) c.args.id.now)

pub returns-in-None : goal.returns-in-None
returns-in-None c = ap exactly_two_texts (c.in-None.ensures ∙ raw_values-rows (found_of c.args.matches.now) c.args.id.now)
