-- The device geometries that are supported.
use Rattle.std.specs.Prelude.{◌≡◌, ◌≤◌, ℕ, ◌*◌, ◌%◌, Bool, true, ◌==◌, ◌||◌}

-- True if `n` is a power of two from 8 to 512.
abbrev pub is_valid_page_size : ℕ → Bool
is_valid_page_size n = n == 8 || n == 16 || n == 32 || n == 64 || n == 128 || n == 256 || n == 512

-- The block size and the page size, in bytes, and the number of blocks are supported.
pub record IsValidGeometry (block_size page block_count : ℕ) : Type 0 where
  pub power : is_valid_page_size page ≡ true
  pub pages : 8 * page ≤ block_size
  pub no_smaller : 1024 ≤ block_size
  pub no_larger : block_size ≤ 65536
  pub whole_pages : block_size % page ≡ 0
  pub no_fewer : 2 ≤ block_count
  pub no_more : block_count ≤ 65536
  pub bytes : block_size * block_count ≤ 268435456
