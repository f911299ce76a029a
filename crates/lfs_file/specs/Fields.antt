-- The fields of an extender.
use Rattle.std.specs.Prelude.{◌≡◌, ◌-◌, ◌*◌, length, take, drop}
use Rattle.lfs_model.specs.format.SkipLists.{pointer_count}
use Rattle.lfs_file.specs.Filled.{CountsAgree}
use Rattle.lfs_file.specs.Growing.{GrowingList}
use Rattle.lfs_file.specs.Known.{OnlyBelowKnown}
use Rattle.lfs_file.specs.declared.extender.ExtenderState.{ExtenderState}

abbrev pub growing_view : ExtenderState → GrowingList
growing_view e = record { geometry = e.geometry; full = e.front.count; head = e.front.head; known = e.front.known; rest = take (e.filled - 4 * pointer_count e.front.count) (drop (4 * pointer_count e.front.count) e.buffer.items); stand = e.stand }

-- the buffer is one block, the counts agree, and only full blocks are cached
pub record IsExtender (e : ExtenderState) : Type 0 where
  pub one_block : length e.buffer.items ≡ e.geometry.block_size
  pub in_step : CountsAgree e.geometry.block_size e.front.count e.filled e.size
  pub known : OnlyBelowKnown e.front.count e.front.known
