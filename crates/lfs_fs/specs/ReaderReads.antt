-- How many reads of the device a read of an open file makes.
use Rattle.std.specs.Prelude.{ℕ, ◌≡◌, ◌≤◌, ◌+◌, ◌-◌, ◌*◌, ◌^◌, min, List, Some}
use Rattle.lfs_model.specs.session.History.{read_count}
use Rattle.lfs_model.specs.layers.Keeping.{struct_at}
use Rattle.lfs_model.specs.session.Session.{FileReader, file_numbered, file_reader}
use Rattle.lfs_model.specs.format.SkipLists.{IsByteInListBlock, skip_list_block_count}
use Rattle.lfs_model.specs.format.Slots.{Ctz, Inline}
use Rattle.lfs_fs.specs.SessionView.{SessionView}

-- Inline bytes cost no read. In a CTZ skip list, finding the last block of the bytes costs at most twice the logarithm of the
-- number of blocks. Each block before it costs two reads, of a pointer and of its bytes, and the last one costs one.
pub record BoundsFileReads (old : SessionView) (fd count : ℕ) (new : SessionView) : Type 0 where
  pub inline : (r : FileReader) (own : List ℕ) → file_reader (file_numbered old.files fd) ≡ Some r → struct_at old.tree.pairs r.path ≡ Some (Inline own) → read_count new.tree.history ≡ read_count old.tree.history
  pub list : (r : FileReader) (head size m first last off end : ℕ) → file_reader (file_numbered old.files fd) ≡ Some r → struct_at old.tree.pairs r.path ≡ Some (Ctz head size)
      → skip_list_block_count old.tree.disk.block_size size ≤ 2 ^ m → IsByteInListBlock old.tree.disk.block_size r.position first off → IsByteInListBlock old.tree.disk.block_size (r.position + min count (size - r.position) - 1) last end
      → read_count new.tree.history ≤ read_count old.tree.history + 2 * m + 2 * (last - first) + 1
