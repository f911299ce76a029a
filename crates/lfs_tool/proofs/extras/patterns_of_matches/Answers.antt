use Rattle.std.proofs.Common.{◌∙◌, ap, sym, codes, map, unwrap_or, List, [], Option, Bor}
use Rattle.clap.specs.Words.{Text, found_of}
use Rattle.clap.proofs.WalkLemmas.{raw_values-rows}
use Rattle.lfs_tool.proofs.extras.patterns_of_matches.Goals as goal

pub returns-in_ok-from_slice-in-Some : goal.returns-in_ok-from_slice-in-Some
returns-in_ok-from_slice-in-Some c =
    let given = c.in-Some.ensures ∙ raw_values-rows (found_of c.args.matches.now) (codes "exclude") in
    sym (ap (λ (o : Option (List Text)). unwrap_or o []) given) ∙ ap (λ (xs : List (Bor Text)). map (λ x. x.now) xs) (sym c.in_ok-from_slice-in-Some.ensures.items)

pub returns-in-None : goal.returns-in-None
returns-in-None c =
    let given = c.in-None.ensures ∙ raw_values-rows (found_of c.args.matches.now) (codes "exclude") in
    sym (ap (λ (o : Option (List Text)). unwrap_or o []) given) ∙ ap (λ (xs : List (Bor Text)). map (λ x. x.now) xs) (sym c.new.ensures.items)
