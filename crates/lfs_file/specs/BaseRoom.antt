-- The most blocks of an old list in flight, and the room for a list besides them.
use Rattle.std.specs.Prelude.{ℕ, ◌<◌, ◌≤◌, ◌+◌, ◌^◌, if◌then◌else◌, length}
use Rattle.lfs_model.specs.layers.BlockSets.{BlockStates, used_count}
use Rattle.lfs_model.specs.format.SkipLists.{skip_list_block_count}
use Rattle.lfs_file.specs.declared.stored_list.StoredList.{StoredList}

abbrev pub in_flight_limit : ℕ → StoredList → ℕ
in_flight_limit block_size s = if s.in_flight then skip_list_block_count block_size s.size else 0

-- A list may grow from one size to a greater one: as many blocks are free as it then has, besides `in_flight` ones.
pub record HasGrowthRoom (map : BlockStates) (block_size from to in_flight : ℕ) : Type 0 where
  pub longer : from < to
  pub small : to < 2 ^ 31
  pub room : used_count map + skip_list_block_count block_size to + in_flight ≤ length map
