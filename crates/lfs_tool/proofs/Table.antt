-- Options that are added from a table, and numbers that are read by one.
use Rattle.std.proofs.Common.{◌≡◌, ◌<◌, ◌≤◌, ◌∙◌, ℕ, suc, List, Bor, Option, Some, None, length, get_or, map, ap, drop, drop-cons, refl, sym}
use Rattle.std.proofs.lemmas.List.{drop_all}
use Rattle.clap.specs.Words.{App, Row, Text, with_rule}
use Rattle.lfs_tool.specs.Command.{rule_of_row, with_rules}
use Rattle.lfs_tool.specs.Values.{bad_option_number, first_bad_number}
use Rattle.lfs_tool.specs.declared.options.OptionRow.{OptionRow}

pub row_added : (old new : App) (rows : List OptionRow) (i : ℕ) (d : OptionRow) → i < length rows → new ≡ with_rule old (rule_of_row (get_or rows i d))
    → with_rules new (map rule_of_row (drop (suc i) rows)) ≡ with_rules old (map rule_of_row (drop i rows))
row_added old new rows i d lt is = rw (drop-cons rows i d lt, is) refl

pub rows_done : (app start : App) (rows : List OptionRow) (i : ℕ) → length rows ≤ i
    → with_rules app (map rule_of_row (drop i rows)) ≡ start → app ≡ start
rows_done app start rows i done is = ap (λ (rs : List OptionRow). with_rules app (map rule_of_row rs)) (sym (drop_all i rows done)) ∙ is

pub bad_found : (ids : List (Bor Text)) (rows : List Row) (i : ℕ) (d : Bor Text) (wanted : Option Text) (text : Text) → i < length ids
    → Some text ≡ bad_option_number (get_or ids i d).now rows → first_bad_number (map (λ id. id.now) (drop i ids)) rows ≡ wanted → Some text ≡ wanted
bad_found ids rows i d wanted text lt bad is = rw (drop-cons ids i d lt, ← bad) at is

pub good_passed : (ids : List (Bor Text)) (rows : List Row) (i : ℕ) (d : Bor Text) (wanted : Option Text) → i < length ids
    → None ≡ bad_option_number (get_or ids i d).now rows → first_bad_number (map (λ id. id.now) (drop i ids)) rows ≡ wanted
    → first_bad_number (map (λ id. id.now) (drop (suc i) ids)) rows ≡ wanted
good_passed ids rows i d wanted lt good is = rw (drop-cons ids i d lt, ← good) at is

pub none_bad : (ids : List (Bor Text)) (rows : List Row) (i : ℕ) (wanted : Option Text) → length ids ≤ i
    → first_bad_number (map (λ id. id.now) (drop i ids)) rows ≡ wanted → None ≡ wanted
none_bad ids rows i wanted done is = rw (drop_all i ids done) at is
