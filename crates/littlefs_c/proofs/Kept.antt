-- A change that is kept is the call of its number.
use Rattle.std.proofs.Common.{ℕ, ◌≡◌, ◌+◌, ◌-◌, ◌<◌, ◌≤◌, ◌^◌, ◌∙◌, List, Option, Some, None, ltb, is_some, get_or, length, refl, sym, ap, arith, Bor}
use Rattle.std.specs.Prelude.{IfSome, slice_get}
use Rattle.std.proofs.lemmas.Bool.{ltb-true}
use Rattle.std.proofs.lemmas.List.{get_or-drop, get_or-map}
use Rattle.std.proofs.lemmas.Option.{slice_get_read}
use Rattle.lfs_model.specs.session.History.{DeviceCall}
use Rattle.littlefs_c.specs.ChangeLog.{AreRecordedChanges, change_call}
use Rattle.littlefs_c.specs.declared.notes.Change.{Change}

kept_call : (first number : ℕ) (kept : List Change) (calls : List DeviceCall) (x : Change) → first ≤ number → first < 2 ^ 62 → number - first < length kept → x ≡ get_or kept (number - first) x → AreRecordedChanges first kept calls
    → slice_get calls number ≡ Some (change_call x)
kept_call first number kept calls x after few within is noted =
    let n = noted few in
    let place : first + (number - first) ≡ number = omega (arith, after) in
    slice_get_read calls (length calls) number (change_call x) refl (omega (arith, after, within, n.0))
    (ap change_call is ∙ sym (get_or-map change_call kept (number - first) x (change_call x) within) ∙ ap (λ (cs : List DeviceCall). get_or cs (number - first) (change_call x)) n.1 ∙ get_or-drop first calls (number - first) (change_call x) ∙ ap (λ i. get_or calls i (change_call x)) place)

pub kept_call_if_some : (first number : ℕ) (kept : List Change) (r : Option (Bor Change)) → first ≤ number → first < 2 ^ 62 → is_some r ≡ ltb (number - first) (length kept) → IfSome r (λ x. x.now ≡ get_or kept (number - first) x.now)
    → IfSome r (λ c. (calls : List DeviceCall) → AreRecordedChanges first kept calls → slice_get calls number ≡ Some (change_call c.now))
kept_call_if_some first number kept None after few within is = tt
kept_call_if_some first number kept (Some x) after few within is = λ calls. kept_call first number kept calls x.now after few (ltb-true _ _ (sym within)) is
