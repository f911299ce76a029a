use Rattle.std.proofs.Common.{map}
use Rattle.clap.specs.Words.{found_of, rows_of}
use Rattle.lfs_tool.proofs.Simple.{bad_number_refused, good_numbers_taken, refused_words}
use Rattle.lfs_tool.proofs.options.parse_words.Goals as goal

pub returns-in-Err-clause-kinds : goal.returns-in-Err-clause-kinds
returns-in-Err-clause-kinds g c = refused_words (map g.S.AsStr.text c.args.words.now) c.in-Err.error c.in-Err.ensures.kinds

pub returns-in-Some-clause-kinds : goal.returns-in-Some-clause-kinds
returns-in-Some-clause-kinds g c =
    bad_number_refused (map g.S.AsStr.text c.args.words.now) (rows_of (found_of c.in-Ok.matches)) c.in-Some.text.now c.in_ok-number_error.field-0
    c.in-Ok.ensures.kinds c.in-Ok.ensures.matches c.in-Some.ensures c.in_ok-number_error.ensures

pub returns-clause-kinds : goal.returns-clause-kinds
returns-clause-kinds g c =
    good_numbers_taken (map g.S.AsStr.text c.args.words.now) (rows_of (found_of c.in-Ok.matches)) c.in-Ok.ensures.kinds c.in-Ok.ensures.matches c.in_default.ensures
