-- The memory that a slot owns.
use Rattle.std.specs.Prelude.{ℕ, Option, None, Some}
use base.Fml.{Fml, ftrue}
use denote.RattleType.{RattleType}
use denote.RawPtr.{Ptr}
use Rattle.std.specs.Box.Ownership.{box_owns}
use Rattle.std_heap.specs.declared.Global.{Global}
use Rattle.std_heap.specs.contracts.GlobalAllocator.TheImpl.{ghosts}
use Rattle.littlefs_c.specs.contracts.mounted.Mounted.{the_row as mounted_row}
use Rattle.littlefs_c.specs.declared.mounted.Mounted.{Mounted}

-- a box with this volume at the pointer, or nothing
abbrev pub handle_owns : Global → Ptr → Option Mounted → Fml
handle_owns alloc p None = ftrue
handle_owns alloc p (Some x) = box_owns (ghosts.dealloc_token alloc) mounted_row p x

-- 1 if there is a volume, else 0
abbrev pub mounted_count : Option Mounted → ℕ
mounted_count None = 0
mounted_count (Some x) = 1
