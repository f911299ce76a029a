-- The code's superblocks and move states as the definitions see them.
use Rattle.lfs_model.specs.format.Slots.{Gstate, address_of_array}
use Rattle.lfs_model.specs.format.EntryTypes.{SuperblockFields}
use Rattle.lfs_tag.specs.declared.fields.Superblock.{Superblock}
use Rattle.lfs_tag.specs.declared.fields.MoveState.{MoveState}

abbrev pub superblock_view : Superblock → SuperblockFields
superblock_view s = record {
  version = s.version;
  block_size = s.block_size;
  block_count = s.block_count;
  name_max = s.name_max;
  file_max = s.file_max;
  attr_max = s.attr_max;
}

abbrev pub move_view : MoveState → Gstate
move_view m = record { sync = m.sync; kind = m.kind; id = m.id; pair = address_of_array m.pair }
