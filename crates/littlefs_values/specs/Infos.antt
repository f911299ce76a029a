-- What C gets of a superblock.
use Rattle.lfs_tag.specs.declared.fields.Superblock.{Superblock}
use Rattle.littlefs_values.specs.declared.info.FsInfo.{FsInfo}

abbrev pub superblock_info : Superblock → FsInfo
superblock_info f = record {
  version = f.version;
  block_size = f.block_size;
  block_count = f.block_count;
  name_max = f.name_max;
  file_max = f.file_max;
  attr_max = f.attr_max;
}
