use Rattle.std.proofs.Common.{true, false, [], ◌∷◌, refl, ap, arith}
use Rattle.std.specs.Prelude.{slice_index, replicate}
use Rattle.lfs_model.proofs.Common.{get_or-set_other, All-nil, All-cons, All-head, Blocks, block_bytes, SameExcept, CallConforms, CallsConform, example_before_erase, example_after_program, program_event, failed_read, history_after_erase, history_after_program}
use Rattle.lfs_model.specs.examples.Histories.{example_after_erase, erase_event, ineffective_program, wrong_block_erase}
use Rattle.lfs_model.proofs.Conformance.{conforms_read, conforms_program, conforms_erase}
use Rattle.lfs_model.proofs.calls.calls_conform_unless_failed.Goals as goal

erased : SameExcept 0 example_before_erase example_after_erase
erased = record { count = refl; size = refl; others = λ other ne. get_or-set_other example_before_erase 0 other (replicate 4 0xff) [] ne }

programmed : SameExcept 0 example_after_erase example_after_program
programmed = record { count = refl; size = refl; others = λ other ne. get_or-set_other example_after_erase 0 other (9 ∷ 9 ∷ 0xff ∷ 0xff ∷ []) [] ne }

by_erase : CallsConform history_after_erase
by_erase = All-cons CallConforms erase_event [] (conforms_erase 0 example_before_erase example_after_erase false erased) (All-nil CallConforms)

by_program : CallsConform history_after_program
by_program = All-cons CallConforms program_event history_after_erase (conforms_program 0 0 (9 ∷ 9 ∷ []) example_after_erase example_after_program false (λ ok. refl) programmed) by_erase

pub returns-clause-conforms : goal.returns-clause-conforms
returns-clause-conforms c = All-cons CallConforms failed_read history_after_program (conforms_read 1 0 2 example_after_program example_after_program true refl) by_program

pub returns-clause-not_programmed : goal.returns-clause-not_programmed
returns-clause-not_programmed c = λ h. absurd (
    let left = (All-head CallConforms ineffective_program [] h).programs 0 0 (9 ∷ 9 ∷ []) refl refl in
    let k = ap (λ (blocks : Blocks). slice_index (block_bytes blocks 0) 0) left in
    omega arith)

pub returns-clause-another_block : goal.returns-clause-another_block
returns-clause-another_block c = λ h. absurd (
    let same = (All-head CallConforms wrong_block_erase [] h).erases 1 refl refl in
    let k = ap (λ bytes. slice_index bytes 0) (same.others 0 (λ e. absurd (omega arith))) in
    omega arith)
