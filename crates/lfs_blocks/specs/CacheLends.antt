-- A cache after the borrow of a block's bytes has ended.
use Rattle.std.specs.Prelude.{ℕ, nat_eq, Option, Vec}
use Rattle.std.specs.Borrow.{Fml, MutBor, LendsIf, u8}
use Rattle.std.specs.Map.{set_value}
use Rattle.std.specs.contracts.alloc.Global as global
use Rattle.std.specs.contracts.vec.Vec as vec
use Rattle.std.specs.contracts.impls.GlobalAllocator.TheImpl.{ghosts}
use Rattle.std.specs.declared.alloc.Global.{Global}
use Rattle.lfs_model.specs.layers.Cache.{CachedBlocks}
use Rattle.lfs_blocks.specs.contracts.cache.Cache.{the_row}

-- After the borrow, block `b` of the cache has the bytes that were written through it. If the block
-- wasn't cached, the cache is unchanged.
abbrev pub lends_block : MutBor CachedBlocks → ℕ → Option (MutBor (Vec ℕ Global)) → Fml
lends_block c b r = LendsIf the_row (vec.the_row u8 global.the_row ghosts) c r (λ w. set_value (nat_eq b) c.now w.items) c.now
