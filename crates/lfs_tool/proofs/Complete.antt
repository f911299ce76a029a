-- A parse by the command of mklittlefs has the image.
use Rattle.std.proofs.Common.{◌≡◌, codes, lit<, refl}
use Rattle.std.proofs.lemmas.Result.{IfOk-weaker}
use Rattle.std.specs.Prelude.{IfOk, Result}
use Rattle.clap.specs.Words.{IsParsedFrom, app_of, found_of}
use Rattle.clap.specs.Facts.{args_of}
use Rattle.clap.specs.declared.builder.arg.Arg.{Arg}
use Rattle.clap.specs.declared.builder.command.Command.{Command}
use Rattle.clap.specs.declared.error.Error.{Error}
use Rattle.clap.specs.declared.parser.matches.ArgMatches.{ArgMatches}
use Rattle.lfs_tool.specs.Command.{needed, mklittlefs}
use Rattle.lfs_tool.specs.Matches.{HasImage}
use Rattle.lfs_tool.proofs.Given.{IsPlainApp, an_arg, args_there, required_reads}

plain_app : IsPlainApp mklittlefs
unfolding mklittlefs
plain_app = record { ready = refl; leaves = refl; free = refl; negates = refl }

with_image : (c : Command) (m : ArgMatches) (d : Arg) → app_of c ≡ mklittlefs → IsParsedFrom c m → HasImage (found_of m)
unfolding mklittlefs
with_image c m d same p = required_reads c m mklittlefs same plain_app p 0 d (needed (codes "image")) (lit< tt) refl refl refl refl refl refl

pub parsed_image : (c : Command) (r : Result ArgMatches Error) → app_of c ≡ mklittlefs → IfOk r (λ m. IsParsedFrom c m) → IfOk r (λ m. HasImage (found_of m))
unfolding mklittlefs
parsed_image c r same h = IfOk-weaker r _ _ (λ m p. with_image c m (an_arg (args_of c) (args_there c mklittlefs same (lit< tt))) same p) h
