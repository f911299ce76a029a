use Rattle.std.proofs.Common.{◌≡◌, ◌++◌, take}
use Rattle.lfs_model.specs.layers.Listing.{escaped_text}
use Rattle.lfs_lookup.proofs.escape.push_escaped_path.Given as goal

abbrev pub invariant-loop-byte : goal.invariant-loop-byte
invariant-loop-byte l = l.text.items ≡ l.initial.text.items ++ escaped_text (take l.byte-index l.path)
