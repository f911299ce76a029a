-- What a ghost field says of a device's calls, as a truncated fact, is so: each case of it is decided.
use Rattle.std.proofs.Common.{ℕ, ◌≡◌, ◌==◌, ◌⊎◌, inl, inr, Bool, true, false, List, [], ◌∷◌, Option, Some, None, refl, ap, ◌∙◌, eqb-true, eq-eqb}
use Rattle.std.proofs.Math.Logic.{∥∥₁_map, ∥∥₁_elim}
use Rattle.lfs_model.proofs.Common.{Blocks, SameExcept, block_bytes, overwritten_at, LogEntry, BlockLog, block_log, DeviceCall, Read, Program, Erase, Blank, CallEvent, AllCalls, MayEraseLeave, MayProgramLeave, power_loss_may_leave, ErasesCleanly, erases_cleanly, FailsLikeLoss, MeetsPowerLossPremises}
use Rattle.lfs_model.specs.crash.Stops.{log_revision}

abbrev Decided : Type 0 → Type 0
Decided A = A ⊎ (A → ⊥)

-- ---- what is decided

either : {A B : Type 0} → Decided A → Decided B → Decided (A ⊎ B)
either (inl a) other = inl (inl a)
either (inr differs) (inl b) = inl (inr b)
either (inr differs) (inr none) = inr (λ or. elim or [ inl a ↦ differs a | inr b ↦ none b ])

both : {A B : Type 0} → Decided A → Decided B → Decided (A × B)
both (inl a) (inl b) = inl (a, b)
both (inl a) (inr none) = inr (λ and. none and.1)
both (inr differs) other = inr (λ and. differs and.0)

same_number : (m n : ℕ) → Decided (m ≡ n)
same_number m n = elim (m == n) as (λ b. (m == n) ≡ b → Decided (m ≡ n)) [
  | true ↦ λ is. inl (eqb-true m n is)
  | false ↦ λ is. inr (λ same. let holds : (m == n) ≡ true = eq-eqb m n same in absurd (cc))
] refl

same_list : {A : Type 0} → ((x y : A) → Decided (x ≡ y)) → (xs ys : List A) → Decided (xs ≡ ys)
same_list same [] [] = inl refl
same_list same [] (y ∷ ys) = inr (λ is. absurd (cc))
same_list same (x ∷ xs) [] = inr (λ is. absurd (cc))
same_list same (x ∷ xs) (y ∷ ys) = elim (same x y) [
  | inl first ↦ elim (same_list same xs ys) [
    | inl rest ↦ inl (cc)
    | inr differs ↦ inr (λ is. let rest : xs ≡ ys = cc in differs rest)
  ]
  | inr differs ↦ inr (λ is. let first : x ≡ y = cc in differs first)
]

same_entry : (x y : LogEntry) → Decided (x ≡ y)
same_entry x y = elim (same_number x.tag y.tag) [
  | inl tag ↦ elim (same_list same_number x.bytes y.bytes) [
    | inl bytes ↦ inl (ap (λ t. record { tag = t; bytes = x.bytes }) tag ∙ ap (λ bs. record { tag = y.tag; bytes = bs }) bytes)
    | inr differs ↦ inr (λ is. differs (ap (λ (e : LogEntry). e.bytes) is))
  ]
  | inr differs ↦ inr (λ is. differs (ap (λ (e : LogEntry). e.tag) is))
]

same_log : (x y : BlockLog) → Decided (x ≡ y)
same_log x y = elim (same_number x.revision y.revision) [
  | inl revision ↦ elim (same_list (same_list same_entry) x.commits y.commits) [
    | inl commits ↦ inl (ap (λ n. record { revision = n; commits = x.commits }) revision ∙ ap (λ cs. record { revision = y.revision; commits = cs }) commits)
    | inr differs ↦ inr (λ is. differs (ap (λ (l : BlockLog). l.commits) is))
  ]
  | inr differs ↦ inr (λ is. differs (ap (λ (l : BlockLog). l.revision) is))
]

same_logs : (x y : Option BlockLog) → Decided (x ≡ y)
same_logs None None = inl refl
same_logs None (Some y) = inr (λ is. absurd (cc))
same_logs (Some x) None = inr (λ is. absurd (cc))
same_logs (Some x) (Some y) = elim (same_log x y) [
  | inl is ↦ inl (ap Some is)
  | inr differs ↦ inr (λ is. let logs : x ≡ y = cc in differs logs)
]

same_revisions : (x y : Option ℕ) → Decided (x ≡ y)
same_revisions None None = inl refl
same_revisions None (Some y) = inr (λ is. absurd (cc))
same_revisions (Some x) None = inr (λ is. absurd (cc))
same_revisions (Some x) (Some y) = elim (same_number x y) [
  | inl is ↦ inl (ap Some is)
  | inr differs ↦ inr (λ is. let revisions : x ≡ y = cc in differs revisions)
]

by_erase : (old new : List ℕ) → Decided (MayEraseLeave old new)
by_erase old new = either (same_revisions (log_revision new) (log_revision old)) (same_logs (block_log new) None)

by_program : (off : ℕ) (bytes old new : List ℕ) → Decided (MayProgramLeave off bytes old new)
by_program off bytes old new =
    either (same_logs (block_log new) (block_log old))
    (either (same_logs (block_log new) (block_log (overwritten_at old off bytes))) (both (same_number off 0) (same_logs (block_log new) None)))

-- ---- what is truncated

none_is_one : (x y : ⊥) → x ≡ y
none_is_one x y = absurd x

from_decided : {A : Type 0} → Decided A → ∥ A ∥₁ → A
from_decided (inl a) is = a
from_decided (inr differs) is = absurd (∥∥₁_elim is none_is_one differs)

same_but : (b : ℕ) (old new : Blocks) → ∥ SameExcept b old new ∥₁ → SameExcept b old new
same_but b old new is = record {
  count = from_decided (same_number _ _) (∥∥₁_map is (λ s. s.count));
  size = from_decided (same_number _ _) (∥∥₁_map is (λ s. s.size));
  others = λ other d. from_decided (same_list same_number (block_bytes new other) (block_bytes old other)) (∥∥₁_map is (λ s. s.others other d));
}

stopped : (call : DeviceCall) (before disk : Blocks) → ∥ power_loss_may_leave call before disk ∥₁ → power_loss_may_leave call before disk
stopped (Read block off len) before disk is = from_decided (same_list (same_list same_number) disk before) is
stopped (Program block off bytes) before disk is =
    (same_but block before disk (∥∥₁_map is (λ s. s.0)), from_decided (by_program off bytes (block_bytes before block) (block_bytes disk block)) (∥∥₁_map is (λ s. s.1)))
stopped (Erase block) before disk is =
    (same_but block before disk (∥∥₁_map is (λ s. s.0)), from_decided (by_erase (block_bytes before block) (block_bytes disk block)) (∥∥₁_map is (λ s. s.1)))
stopped (Blank block off len) before disk is = from_decided (same_list (same_list same_number) disk before) is

cleanly : (call : DeviceCall) (failed : Bool) (before after : Blocks) → ∥ erases_cleanly call failed before after ∥₁ → erases_cleanly call failed before after
cleanly (Read block off len) failed before after is = tt
cleanly (Program block off bytes) failed before after is = tt
cleanly (Erase block) true before after is = tt
cleanly (Erase block) false before after is = from_decided (by_erase (block_bytes before block) (block_bytes after block)) is
cleanly (Blank block off len) failed before after is = tt

each : (P : CallEvent → Type 0) → ((e : CallEvent) → ∥ P e ∥₁ → P e) → (events : List CallEvent) → ∥ AllCalls P events ∥₁ → AllCalls P events
each P one [] is = tt
each P one (e ∷ events) is = (one e (∥∥₁_map is (λ all. all.0)), each P one events (∥∥₁_map is (λ all. all.1)))

pub premises_hold : (history : List CallEvent) → ∥ MeetsPowerLossPremises history ∥₁ → MeetsPowerLossPremises history
premises_hold history is = record {
  erases = each ErasesCleanly (λ e one. cleanly e.call e.failed e.before e.after one) history (∥∥₁_map is (λ m. m.erases));
  failed = each FailsLikeLoss (λ e one failed. stopped e.call e.before e.after (∥∥₁_map one (λ f. f failed))) history (∥∥₁_map is (λ m. m.failed));
}
