-- What the settings mean.
use Rattle.std.specs.Prelude.{◌≤◌, ◌==◌, if◌then◌else◌}
use Rattle.lfs_model.specs.format.Disk.{AreValidLimits}
use Rattle.lfs_model.specs.declared.limits.AcceptedVersions.TheVariants.{AlsoTwoOne, OnlyTwoZero}
use Rattle.lfs_model.specs.declared.limits.Profile.{Profile}
use Rattle.littlefs_values.specs.declared.config.Config.{Config}

abbrev pub config_profile : Config → Profile
config_profile config = record {
  versions = if config.versions == 0 then OnlyTwoZero else AlsoTwoOne;
  name_max = config.name_max;
  file_max = config.file_max;
  attr_max = config.attr_max;
  inline_max = config.inline_max;
  pair_cycles = config.pair_cycles;
  search_seed = 0;
}

-- Versions are 0 or 1, and no limit is 0 or above its default.
pub record IsValidConfig (config : Config) : Type 0 where
  pub versions : config.versions ≤ 1
  pub limits : AreValidLimits (config_profile config)
