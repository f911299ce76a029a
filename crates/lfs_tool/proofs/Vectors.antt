-- What some lines of words say.
use Rattle.std.proofs.Common.{◌≡◌, ◌∷◌, [], None, Some, List, refl, codes, true}
use Rattle.clap.specs.Words.{Text, first_of}
use Rattle.clap.specs.declared.error.ErrorKind.TheVariants as kind
use Rattle.clap.proofs.OnLiterals.{clap_on_literals}
use Rattle.lfs_tool.specs.Command.{mklittlefs}
use Rattle.lfs_tool.specs.Matches.{faults, mode_count, rows}
use Rattle.lfs_tool.specs.Numbers.{number_in_text, u32_or_none}
use Rattle.lfs_tool.specs.Values.{is_option_auto, number_or, number_in_rows}

abbrev create_line : List Text
create_line = codes "mklittlefs" ∷ codes "-cdir" ∷ codes "-b=512" ∷ codes "-p" ∷ codes "+16" ∷ codes "disk.img" ∷ []

created : (number_in_rows (codes "block") (rows create_line) ≡ Some 512) × (number_in_rows (codes "page") (rows create_line) ≡ Some 16)
    × (number_or 65536 (codes "size") (rows create_line) ≡ 65536) × (first_of (codes "create") (rows create_line) ≡ Some (codes "dir"))
    × (mode_count (rows create_line) ≡ 1) × (faults create_line ≡ [])
unfolding clap_on_literals mklittlefs rows faults number_in_text
created = (refl, refl, refl, refl, refl, refl)

too_large : faults (codes "m" ∷ codes "-l" ∷ codes "-s4294967296" ∷ codes "i" ∷ []) ≡ kind.ValueValidation ∷ []
unfolding clap_on_literals mklittlefs rows faults number_in_text
too_large = refl

no_image : faults (codes "m" ∷ codes "-l" ∷ []) ≡ kind.MissingRequiredArgument ∷ []
unfolding clap_on_literals mklittlefs faults
no_image = refl

no_mode : (faults (codes "m" ∷ codes "i" ∷ []) ≡ []) × (mode_count (rows (codes "m" ∷ codes "i" ∷ [])) ≡ 0)
unfolding clap_on_literals mklittlefs rows faults
no_mode = (refl, refl)

-- the size of a block may be that of the superblock
auto_size : (is_option_auto (codes "block") (rows (codes "m" ∷ codes "-l" ∷ codes "-bauto" ∷ codes "i" ∷ [])) ≡ true) × (faults (codes "m" ∷ codes "-l" ∷ codes "-bauto" ∷ codes "i" ∷ []) ≡ [])
    × (faults (codes "m" ∷ codes "-l" ∷ codes "-pauto" ∷ codes "i" ∷ []) ≡ kind.ValueValidation ∷ [])
unfolding clap_on_literals mklittlefs rows faults number_in_text
auto_size = (refl, refl, refl)

-- the size may be the one that is enough, with blocks to spare
abbrev fitted_line : List Text
fitted_line = codes "m" ∷ codes "-cdir" ∷ codes "-sauto" ∷ codes "--spare" ∷ codes "4" ∷ codes "i" ∷ []

fitted : (is_option_auto (codes "size") (rows fitted_line) ≡ true) × (number_in_rows (codes "spare") (rows fitted_line) ≡ Some 4) × (faults fitted_line ≡ [])
unfolding clap_on_literals mklittlefs rows faults number_in_text
fitted = (refl, refl, refl)

-- each form of a number
forms : (number_in_text (codes "4096") ≡ Some 4096) × (number_in_text (codes "0x160000") ≡ Some 1441792) × (number_in_text (codes "0XfF") ≡ Some 255)
    × (number_in_text (codes "4k") ≡ Some 4096) × (number_in_text (codes "2M") ≡ Some 2097152) × (number_in_text (codes "1.5M") ≡ Some 1572864)
    × (number_in_text (codes "0.5K") ≡ Some 512) × (number_in_text (codes "0.25m") ≡ Some 262144) × (number_in_text (codes "1.50k") ≡ Some 1536)
unfolding number_in_text
forms = (refl, refl, refl, refl, refl, refl, refl, refl, refl)

-- as clap reads them, a decimal may have a plus, and 0 a minus
signs : (number_in_text (codes "+16") ≡ Some 16) × (number_in_text (codes "-0") ≡ Some 0) × (number_in_text (codes "-1") ≡ None) × (number_in_text (codes "+-1") ≡ None)
unfolding number_in_text
signs = (refl, refl, refl, refl)

no_numbers : (number_in_text (codes "") ≡ None) × (number_in_text (codes "0x") ≡ None) × (number_in_text (codes "k") ≡ None)
    × (number_in_text (codes "1.3k") ≡ None) × (number_in_text (codes "1.5") ≡ None) × (number_in_text (codes "1.k") ≡ None)
    × (number_in_text (codes ".5k") ≡ None) × (number_in_text (codes "1.2.5M") ≡ None) × (number_in_text (codes "+4k") ≡ None)
    × (number_in_text (codes "0x10k") ≡ None) × (number_in_text (codes "4kB") ≡ None) × (number_in_text (codes "4g") ≡ None)
unfolding number_in_text
no_numbers = (refl, refl, refl, refl, refl, refl, refl, refl, refl, refl, refl, refl)

-- the largest number in each form, and the next one
largest : (u32_or_none (number_in_text (codes "0xffffffff")) ≡ Some 4294967295) × (u32_or_none (number_in_text (codes "0x100000000")) ≡ None)
    × (u32_or_none (number_in_text (codes "4095.5M")) ≡ Some 4294443008) × (u32_or_none (number_in_text (codes "4096M")) ≡ None)
unfolding number_in_text
largest = (refl, refl, refl, refl)

broken_size : faults (codes "m" ∷ codes "-l" ∷ codes "--page=1.3k" ∷ codes "i" ∷ []) ≡ kind.ValueValidation ∷ []
unfolding clap_on_literals mklittlefs rows faults number_in_text
broken_size = refl

abbrev forms_line : List Text
forms_line = codes "mklittlefs" ∷ codes "-cdir" ∷ codes "-s0x160000" ∷ codes "-b=4K" ∷ codes "--file-max" ∷ codes "1.5M" ∷ codes "disk.img" ∷ []

formed : (number_in_rows (codes "size") (rows forms_line) ≡ Some 1441792) × (number_in_rows (codes "block") (rows forms_line) ≡ Some 4096)
    × (number_in_rows (codes "file-max") (rows forms_line) ≡ Some 1572864) × (faults forms_line ≡ [])
unfolding clap_on_literals mklittlefs rows faults number_in_text
formed = (refl, refl, refl, refl)
