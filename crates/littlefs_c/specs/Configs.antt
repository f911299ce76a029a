-- What the numbers of a configuration mean.
use Rattle.std.specs.Prelude.{◌≤◌, ◌==◌, if◌then◌else◌}
use Rattle.lfs_model.specs.declared.limits.Profile.{Profile}
use Rattle.lfs_model.specs.declared.order.NameOrder.{NameOrder}
use Rattle.lfs_model.specs.declared.order.NameOrder.TheVariants.{LongerFirst, ShorterFirst}
use Rattle.littlefs_values.specs.Configs as values
use Rattle.littlefs_c.specs.declared.config.ImageConfig.{ImageConfig}

abbrev pub config_profile : ImageConfig → Profile
config_profile config = values.config_profile config.config

abbrev pub config_order : ImageConfig → NameOrder
config_order config = if config.order == 0 then LongerFirst else ShorterFirst

-- Order and versions are 0 or 1, and no limit is 0 or above its default.
pub record IsValidConfig (config : ImageConfig) : Type 0 where
  pub order : config.order ≤ 1
  pub others : values.IsValidConfig config.config
