-- The fields of a `Log`, which agree with its block's bytes.
use Rattle.std.specs.Prelude.{◌≡◌}
use Rattle.lfs_tag.specs.declared.log.Log.TheInside.{Inside}
use Rattle.lfs_model.specs.format.Log.{chain_of, block_revision}

-- The end, the last tag and the revision count are those of the block's log.
pub record AreLogFields (l : Inside) : Type 0 where
  pub end : l.end ≡ (chain_of l.block.now).end
  pub last : l.last ≡ (chain_of l.block.now).last
  pub revision : l.revision ≡ block_revision l.block.now
