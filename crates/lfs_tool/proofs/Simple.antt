-- The command is one of those whose matches clap gives as a function of the words.
use Rattle.std.proofs.Common.{◌≡◌, ◌∷◌, ◌∙◌, [], ap, if◌then◌else◌, inl, inr, is_some, refl, subst, sym, true, List, None, Option, Result, Some}
use Rattle.std.proofs.lemmas.Result.{IfOk-weaker}
use Rattle.std.specs.Prelude.{IfOk}
use Rattle.clap.specs.Words.{App, FailsBy, HasKind, HasMatchesOf, Kinds, Row, Text, fault_of, found_of, is_simple, is_simple_and_free, kind_of, matches_of, rows_of}
use Rattle.clap.specs.Kinds.{or_else}
use Rattle.clap.specs.declared.error.ErrorKind.TheVariants.{ValueValidation}
use Rattle.clap.specs.declared.error.Error.{Error}
use Rattle.clap.specs.declared.parser.ArgMatches.{ArgMatches}
use Rattle.lfs_tool.specs.Command.{mklittlefs}
use Rattle.lfs_tool.specs.Matches.{faults, rows}
use Rattle.lfs_tool.specs.Values.{first_bad_text, number_errors}

is_simple_command : is_simple mklittlefs ≡ true
unfolding mklittlefs
is_simple_command = refl

is_free_command : is_simple_and_free mklittlefs ≡ true
unfolding mklittlefs
is_free_command = refl

matches_along : (a b : App) (words : List Text) (m : ArgMatches) → a ≡ b → is_simple b ≡ true → HasMatchesOf a words m
    → rows_of (found_of m) ≡ matches_of b words
matches_along a b words m same simple h = (h (ap is_simple same ∙ simple)).0 ∙ ap (λ (x : App). matches_of x words) same

-- the matches of a parse by the command
pub rows_are : (a : App) (words : List Text) (r : Result ArgMatches Error) → a ≡ mklittlefs → IfOk r (HasMatchesOf a words)
    → IfOk r (λ m. rows_of (found_of m) ≡ rows words)
unfolding rows
rows_are a words r same h = IfOk-weaker r _ _ (λ m. matches_along a mklittlefs words m same is_simple_command) h

faults_along : (a b : App) (words : List Text) (r : Result ArgMatches Error) → a ≡ b → is_simple_and_free b ≡ true
    → (is_simple_and_free a ≡ true → FailsBy (fault_of a words) r) → FailsBy (fault_of b words) r
faults_along a b words r same simple h =
    subst (λ (ks : Kinds). FailsBy ks r) (ap (λ (x : App). fault_of x words) same) (h (ap is_simple_and_free same ∙ simple))

-- when it fails
pub faults_are : (a : App) (words : List Text) (r : Result ArgMatches Error) → a ≡ mklittlefs
    → (is_simple_and_free a ≡ true → FailsBy (fault_of a words) r) → FailsBy (fault_of mklittlefs words) r
faults_are a words r same h = faults_along a mklittlefs words r same is_free_command h

-- what clap refuses is refused
pub refused_words : (words : List Text) (e : Error) → HasKind (fault_of mklittlefs words) e → HasKind (faults words) e
unfolding faults
refused_words words e refused = go (fault_of mklittlefs words) refused
  where
    go : (ks : Kinds) → HasKind ks e → HasKind (or_else ks (number_errors (rows words))) e
    go [] (inl memory) = inl memory
    go [] (inr none) = absurd none
    go (k ∷ ks) h = h

-- where clap takes the words, the numbers decide
faults_of_numbers : (words : List Text) (found : List Row) → fault_of mklittlefs words ≡ [] → found ≡ rows words → faults words ≡ number_errors found
unfolding faults
faults_of_numbers words found taken same = ap (λ (ks : Kinds). or_else ks (number_errors (rows words))) taken ∙ ap number_errors (sym same)

pub bad_number_refused : (words : List Text) (found : List Row) (text : Text) (e : Error) → fault_of mklittlefs words ≡ [] → found ≡ rows words
    → Some text ≡ first_bad_text found → kind_of e ≡ ValueValidation → HasKind (faults words) e
bad_number_refused words found text e taken same bad is =
    let faults_are_one : faults words ≡ ValueValidation ∷ [] = faults_of_numbers words found taken same
    ∙ ap (λ (o : Option Text). if is_some o then ValueValidation ∷ [] else []) (sym bad) in
    subst (λ (ks : Kinds). HasKind ks e) (sym faults_are_one) (inr (inl is))

pub good_numbers_taken : (words : List Text) (found : List Row) → fault_of mklittlefs words ≡ [] → found ≡ rows words
    → None ≡ first_bad_text found → faults words ≡ []
good_numbers_taken words found taken same good =
    faults_of_numbers words found taken same ∙ ap (λ (o : Option Text). if is_some o then ValueValidation ∷ [] else []) (sym good)
