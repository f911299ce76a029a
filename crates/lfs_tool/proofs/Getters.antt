-- What the getters give, by the rows.
use Rattle.std.proofs.Common.{◌≡◌, ◌∙◌, ap, Bool, true, false, Option, Some, None, refl, sym, codes, option_map, is_some, unwrap_or}
use Rattle.std.specs.Str.{bytes_eq}
use Rattle.std.specs.Str.Parse.{ParsesBool}
use Rattle.std.proofs.lemmas.Slice.Eq.{bytes_eq-Decides}
use Rattle.clap.specs.Words.{Text, first_of, first_value, one_text, rows_of}
use Rattle.clap.specs.Matches.{ReadsOne}
use Rattle.clap.specs.declared.parser.matches.Found.{Found}
use Rattle.clap.proofs.WalkLemmas.{first_value-rows, one_text-rows}
use Rattle.lfs_tool.specs.Values.{flag_in_rows, is_true}

flag_by : (E : Type 0) (t : Text) (r : Option Bool) → ReadsOne {T = Bool} {E = E} ParsesBool t r → unwrap_or r false ≡ bytes_eq t (codes "true")
flag_by E t (Some true) h = rw h refl
flag_by E t (Some false) h = rw h refl
flag_by E t None h = go (bytes_eq t (codes "true")) refl
  where
    go : (b : Bool) → bytes_eq t (codes "true") ≡ b → false ≡ b
    go true e = absurd (h.1.0 ((bytes_eq-Decides t (codes "true")).0 e))
    go false e = refl

pub flag_read : (E : Type 0) (f : Found) (id : Text) (r : Option Bool) → (one_text f id ≡ None → r ≡ None)
    → ((t : Text) → one_text f id ≡ Some t → ReadsOne {T = Bool} {E = E} ParsesBool t r) → unwrap_or r false ≡ flag_in_rows id (rows_of f)
flag_read E f id r none value = go (one_text f id) refl ∙ ap is_true (one_text-rows f id)
  where
    go : (o : Option Text) → one_text f id ≡ o → unwrap_or r false ≡ is_true (one_text f id)
    go None e = rw (e, none e) refl
    go (Some t) e = rw e (flag_by E t r (value t e))

pub text_there : (X : Type 0) (o : Option X) (text : X → Text) (f : Found) (id : Text) → option_map text o ≡ first_of id (rows_of f)
    → is_some (first_value f id) ≡ true → is_some o ≡ true
text_there X None text f id e some =
    let bad : false ≡ true = rw (first_value-rows f id ∙ sym e) at some in
    cc
text_there X (Some x) text f id e some = refl
