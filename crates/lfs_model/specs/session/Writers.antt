-- A writer after a call that no check refuses.
use Rattle.std.specs.Prelude.{ℕ, ◌+◌, ◌-◌, Bool, true, false, not, ◌&&◌, ◌||◌, ◌==◌, nat_lt, min, if◌then◌else◌, List, [], ◌∷◌, ◌++◌, length, take, drop, Option, Some, None, replicate, is_some}
use Rattle.lfs_model.specs.tree.Tree.{Path}
use Rattle.lfs_model.specs.session.Operations.{FlagsOfOpen}
use Rattle.lfs_model.specs.session.Session.{FileWriter}

-- The bytes, padded with zeros to at least `n`.
abbrev pub zero_padded : ℕ → List ℕ → List ℕ
zero_padded n bytes = bytes ++ replicate (n - length bytes) 0

-- The contents after `bytes` are written at the offset `at`. A gap is filled with zeros.
abbrev pub written_contents : List ℕ → ℕ → List ℕ → List ℕ
written_contents old at bytes = take at (zero_padded at old) ++ bytes ++ drop (at + length bytes) old

-- The offset of the next write: the end of the file in append mode, otherwise the position.
abbrev pub write_position : FileWriter → ℕ
write_position w = if w.append then length w.contents else w.position

-- Whether a write at `begin` doesn't begin where the last one ended.
abbrev pub turns_writer : Option ℕ → ℕ → Bool
turns_writer None begin = false
turns_writer (Some end) begin = not (begin == end)

-- The writer after a write.
abbrev pub writer_after_write : FileWriter → List ℕ → FileWriter
writer_after_write w [] = w
writer_after_write w (b ∷ bytes) = record w {
  contents = written_contents w.contents (write_position w) (b ∷ bytes);
  position = write_position w + length (b ∷ bytes);
  dirty = true;
  turned = w.turned || turns_writer w.last_end (min (write_position w) (length w.contents));
  last_end = Some (write_position w + length (b ∷ bytes));
}

-- The writer after a truncation to `size`, which may also extend the file.
abbrev pub truncated_writer : FileWriter → ℕ → FileWriter
truncated_writer w size =
    if size == length w.contents then w
    else record w {
      contents = take size (zero_padded size w.contents);
      dirty = true;
      turned = w.turned || is_some w.last_end;
      last_end = if nat_lt (length w.contents) size then Some size else w.last_end;
    }

-- The writer after a sync.
abbrev pub synced_writer : FileWriter → FileWriter
synced_writer w = if w.dirty then record w { dirty = false; turned = false; last_end = None } else w

-- The writer after an open of a file that has these bytes.
abbrev pub opened_writer : Path → FlagsOfOpen → List ℕ → FileWriter
opened_writer path flags bytes = record {
  path = path;
  contents = if flags.truncate then [] else bytes;
  position = 0;
  append = flags.append;
  dirty = flags.truncate && nat_lt 0 (length bytes);
  turned = false;
  last_end = None;
}
