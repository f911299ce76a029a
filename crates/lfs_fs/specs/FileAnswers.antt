-- What a session returns of an open file.
use Rattle.std.specs.Prelude.{ℕ, ◌≡◌, ◌⊎◌, true, false, length, Some, None, Result, Ok, Err}
use Rattle.std.specs.Option.{option_map}
use Rattle.lfs_device.specs.declared.error.Error.{Error}
use Rattle.lfs_device.specs.declared.error.Error.TheVariants.{BadFile, Failed}
use Rattle.lfs_model.specs.session.Session.{OpenFile, Reading, Writing, file_numbered}
use Rattle.lfs_model.specs.session.TreeEdits.{file_bytes}
use Rattle.lfs_tree.specs.TreeState.{visible_tree}
use Rattle.lfs_fs.specs.SessionView.{SessionView}

abbrev pub file_position : SessionView → OpenFile → ℕ
file_position h (Reading r) = r.position
file_position h (Writing w) = w.position

-- the size of a file in bytes, unsynced changes included
abbrev pub file_size : SessionView → OpenFile → ℕ
file_size h (Reading r) = length (file_bytes (visible_tree h.tree r.path))
file_size h (Writing w) = length w.contents

-- The result is the `number` of the open file `fd`; or it is `Failed` of a failed session, or `BadFile` if no such file is
-- open.
abbrev pub IsFileQueryResult : (SessionView → OpenFile → ℕ) → SessionView → ℕ → Result ℕ Error → Type 0
IsFileQueryResult number h fd (Ok n) = (h.tree.failed ≡ false) × (option_map (number h) (file_numbered h.files fd) ≡ Some n)
IsFileQueryResult number h fd (Err e) = ((h.tree.failed ≡ true) × (e ≡ Failed)) ⊎ ((h.tree.failed ≡ false) × (file_numbered h.files fd ≡ None) × (e ≡ BadFile))
