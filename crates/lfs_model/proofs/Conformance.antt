-- Calls that conform: one more, and what they left, which is among what a stop in them may leave.
use Rattle.std.proofs.Common.{◌≡◌, ℕ, Bool, false, List, [], ◌∷◌, length, inl, inr, refl, sym, ap, subst, ◌∙◌, arith}
use Rattle.std.specs.Prelude.{Contains}
use Rattle.lfs_model.proofs.Common.{cases_lt, get_or_past, All-cons, All-contains, Blocks, SameExcept, block_bytes, programmed, block_log, DeviceCall, Read, Program, Erase, Blank, CallEvent, call_event, CallConforms, CallsConform, LeftByLoss, power_loss_may_leave, MayProgramLeave, ErasesCleanly, erases_cleanly}
use Rattle.std.proofs.lemmas.List.Elements.{All-same}
use Rattle.lfs_model.proofs.Overwrites.{block_bytes-programmed}

-- ---- one call more

-- what a call writes, and where
abbrev written_by : DeviceCall → Blocks → Blocks
written_by (Read block off len) blocks = blocks
written_by (Program block off bytes) blocks = programmed blocks block off bytes
written_by (Erase block) blocks = blocks
written_by (Blank block off len) blocks = blocks

abbrev place_of : DeviceCall → ℕ
place_of (Read block off len) = block
place_of (Program block off bytes) = block
place_of (Erase block) = block
place_of (Blank block off len) = block

pub conforms_read : (block off len : ℕ) (before after : Blocks) (failed : Bool) → after ≡ before → CallConforms (call_event (Read block off len) before after failed)
conforms_read block off len before after failed same = record {
  reads = λ b o n is ok. same;
  programs = λ b o bytes is ok. absurd (cc);
  others = λ b o bytes is ok. absurd (cc);
  erases = λ b is ok. absurd (cc);
  blanks = λ b o n is ok. absurd (cc);
}

pub conforms_blank : (block off len : ℕ) (before after : Blocks) (failed : Bool) → after ≡ before → CallConforms (call_event (Blank block off len) before after failed)
conforms_blank block off len before after failed same = record {
  reads = λ b o n is ok. absurd (cc);
  programs = λ b o bytes is ok. absurd (cc);
  others = λ b o bytes is ok. absurd (cc);
  erases = λ b is ok. absurd (cc);
  blanks = λ b o n is ok. same;
}

pub conforms_program : (block off : ℕ) (bytes : List ℕ) (before after : Blocks) (failed : Bool) → (failed ≡ false → after ≡ programmed before block off bytes) → SameExcept block before after
    → CallConforms (call_event (Program block off bytes) before after failed)
conforms_program block off bytes before after failed done same = record {
  reads = λ b o n is ok. absurd (cc);
  programs = λ b o other is ok. done ok ∙ ap (λ call. written_by call before) is;
  others = λ b o other is ok. subst (λ call. SameExcept (place_of call) before after) is same;
  erases = λ b is ok. absurd (cc);
  blanks = λ b o n is ok. absurd (cc);
}

pub conforms_erase : (block : ℕ) (before after : Blocks) (failed : Bool) → SameExcept block before after → CallConforms (call_event (Erase block) before after failed)
conforms_erase block before after failed same = record {
  reads = λ b o n is ok. absurd (cc);
  programs = λ b o bytes is ok. absurd (cc);
  others = λ b o bytes is ok. absurd (cc);
  erases = λ b is ok. subst (λ call. SameExcept (place_of call) before after) is same;
  blanks = λ b o n is ok. absurd (cc);
}

pub conforms_next : {e : CallEvent} {older later : List CallEvent} → later ≡ e ∷ older → CallConforms e → CallsConform older → CallsConform later
conforms_next {e} {older} {later} is here so_far = All-same CallConforms later (e ∷ older) is (All-cons CallConforms e older here so_far)

-- ---- what was left

left_by_program : (block off : ℕ) (bytes : List ℕ) (before after : Blocks) → SameExcept block before after → after ≡ programmed before block off bytes
    → MayProgramLeave off bytes (block_bytes before block) (block_bytes after block)
left_by_program block off bytes before after same done = elim (cases_lt block (length before)) [
  | inl there ↦ inr (inl (ap block_log (ap (λ (blocks : Blocks). block_bytes blocks block) done ∙ block_bytes-programmed before block off bytes there)))
  | inr beyond ↦ let count = same.count in inl (ap block_log (get_or_past after block [] (omega arith) ∙ sym (get_or_past before block [] beyond)))
]

pub conforming_stops : (e : CallEvent) → CallConforms e → e.failed ≡ false → ErasesCleanly e → LeftByLoss e e.after
conforming_stops e conforms ok cleanly = go e.call refl cleanly
  where
    go : (call : DeviceCall) → e.call ≡ call → erases_cleanly call e.failed e.before e.after → power_loss_may_leave call e.before e.after
    go (Read block off len) is clean = conforms.reads block off len is ok
    go (Program block off bytes) is clean =
        let same = conforms.others block off bytes is ok in
        (same, left_by_program block off bytes e.before e.after same (conforms.programs block off bytes is ok))
    go (Erase block) is clean = (conforms.erases block is ok, subst (λ failed. erases_cleanly (Erase block) failed e.before e.after) ok clean)
    go (Blank block off len) is clean = conforms.blanks block off len is ok

pub conforming_stops_among : (history : List CallEvent) (e : CallEvent) → CallsConform history → Contains history e → e.failed ≡ false → ErasesCleanly e → LeftByLoss e e.after
conforming_stops_among history e all among = conforming_stops e (All-contains CallConforms history e all among)
