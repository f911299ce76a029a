-- A device with two blocks of four bytes, and its calls: block 0 is erased, two bytes of it are
-- programmed, and a read fails.
use Rattle.std.specs.Prelude.{true, false, List, [], ◌∷◌, replicate}
use Rattle.lfs_model.specs.format.Blocks.{Blocks}
use Rattle.lfs_model.specs.session.History.{CallEvent, Read, Program, Erase, Blank, call_event}

abbrev pub example_before_erase : Blocks
example_before_erase = (1 ∷ 2 ∷ 3 ∷ 4 ∷ []) ∷ (5 ∷ 6 ∷ 7 ∷ 8 ∷ []) ∷ []

abbrev pub example_after_erase : Blocks
example_after_erase = replicate 4 0xff ∷ (5 ∷ 6 ∷ 7 ∷ 8 ∷ []) ∷ []

abbrev pub example_after_program : Blocks
example_after_program = (9 ∷ 9 ∷ 0xff ∷ 0xff ∷ []) ∷ (5 ∷ 6 ∷ 7 ∷ 8 ∷ []) ∷ []

abbrev pub erase_event : CallEvent
erase_event = call_event (Erase 0) example_before_erase example_after_erase false

abbrev pub program_event : CallEvent
program_event = call_event (Program 0 0 (9 ∷ 9 ∷ [])) example_after_erase example_after_program false

abbrev pub failed_read : CallEvent
failed_read = call_event (Read 1 0 2) example_after_program example_after_program true

-- The histories after the erase, after the program, and after the read.
abbrev pub history_after_erase : List CallEvent
history_after_erase = erase_event ∷ []

abbrev pub history_after_program : List CallEvent
history_after_program = program_event ∷ erase_event ∷ []

abbrev pub after_read : List CallEvent
after_read = failed_read ∷ program_event ∷ erase_event ∷ []

-- The device says that the last two bytes of block 1 are blank.
abbrev pub blank_check_event : CallEvent
blank_check_event = call_event (Blank 1 2 2) example_after_program example_after_program false

-- A blank check that fails.
abbrev pub failed_blank_check : CallEvent
failed_blank_check = call_event (Blank 1 2 2) example_after_program example_after_program true

-- Calls that don't conform: a program that changes nothing, and an erase that changes another
-- block.
abbrev pub ineffective_program : CallEvent
ineffective_program = call_event (Program 0 0 (9 ∷ 9 ∷ [])) example_after_erase example_after_erase false

abbrev pub wrong_block_erase : CallEvent
wrong_block_erase = call_event (Erase 1) example_before_erase example_after_erase false
