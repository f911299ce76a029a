use Rattle.std.proofs.Common.{ℕ, ◌≡◌, [], ◌∷◌, refl, arith}
use Rattle.std.specs.Prelude.{codes, Contains}
use Rattle.lfs_model.proofs.Common.{All-from_recursion, directory_pair_count, root_and_two_pairs}
use Rattle.lfs_model.specs.session.Operations as ops
use Rattle.lfs_model.specs.crash.Frame.{SearchesSameDirectories, searched_directories}
use Rattle.lfs_model.proofs.runs.second_look_up_reads_nothing.Goals as goal

kept : SearchesSameDirectories root_and_two_pairs (ops.Stat (codes "/d")) (ops.Stat (codes "/e"))
kept = record {
  path = codes "/d";
  stat = refl;
  below = refl;
  again = refl;
  within = All-from_recursion (λ p. Contains (searched_directories (ops.Stat (codes "/d"))) p) ([] ∷ []) ((0, omega arith, refl), tt);
  few = omega arith;
  small = All-from_recursion (λ p. directory_pair_count root_and_two_pairs p ≡ 1) ([] ∷ []) (refl, tt);
}

not_kept : SearchesSameDirectories root_and_two_pairs (ops.Stat (codes "/d/a")) (ops.ListAll (codes "/d")) → ⊥
not_kept h = apart (directory_pair_count root_and_two_pairs (codes "d" ∷ [])) refl (h.small 1 [] (omega arith))
  where
    apart : (n : ℕ) → n ≡ 2 → n ≡ 1 → ⊥
    apart n e f = absurd (omega arith)

pub returns-clause-not_kept : goal.returns-clause-not_kept
returns-clause-not_kept c = not_kept

pub returns-clause-kept : goal.returns-clause-kept
returns-clause-kept c = kept

pub returns-clause-no_more : goal.returns-clause-no_more
returns-clause-no_more c = λ h. absurd (let e = h kept in omega arith)
