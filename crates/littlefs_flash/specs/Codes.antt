-- The numbers of results that a session alone has.
use Rattle.std.specs.Prelude.{ℕ, ◌+◌, if◌then◌else◌, Option, None, Some}
use Rattle.std.specs.Option.{is_some}
use Rattle.lfs_fs.specs.declared.gstate.Gstate.{Gstate}
use Rattle.lfs_model.specs.declared.breaches.ProfileBreach.{ProfileBreach}
use Rattle.lfs_model.specs.declared.breaches.ProfileBreach.TheVariants as breach
use Rattle.lfs_model.specs.declared.order.NameOrder.{NameOrder}
use Rattle.lfs_model.specs.declared.order.NameOrder.TheVariants.{LongerFirst, ShorterFirst}

-- 1 if pairs may be orphans, and 2 more if a move isn't ended
abbrev pub gstate_number : Gstate → ℕ
gstate_number g = (if g.sync then 1 else 0) + (if is_some g.moving then 2 else 0)

-- 0 for littlefs's order of names, and 1 for the other
abbrev pub order_number : NameOrder → ℕ
order_number LongerFirst = 0
order_number ShorterFirst = 1

-- the number of a rule that an image breaks, or 0 if it breaks none
abbrev pub optional_breach_number : Option ProfileBreach → ℕ
optional_breach_number None = 0
optional_breach_number (Some (breach.OtherLimits pair slot limit)) = 1
optional_breach_number (Some (breach.LongInline pair slot)) = 2
optional_breach_number (Some (breach.EmptyPair pair)) = 3
optional_breach_number (Some (breach.TooLarge pair)) = 4
