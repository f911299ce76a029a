-- The length of a path's last name.
use Rattle.std.specs.Prelude.{ℕ, ◌+◌, ◌==◌, if◌then◌else◌, List, [], ◌∷◌}
use Rattle.lfs_model.specs.format.Names.{slash_byte}

-- how many bytes there are after the last slash, counted on from the first argument
abbrev pub length_after_slash : ℕ → List ℕ → ℕ
length_after_slash n [] = n
length_after_slash n (b ∷ bytes) = length_after_slash (if b == slash_byte then 0 else n + 1) bytes
