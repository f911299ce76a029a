-- `none` makes a value of no bytes, whose ghost fields are empty lists.
use mathlib.Core.List.{[], ◌∷◌}
use mathlib.Core.Path.{◌≡◌, refl}
use mir.Syntax.{a_type}
use mir.Val.{vnil, vstruct}
use base.Logic.{emp}
use contract.Monad.{fact_i}
use denote.Param.{layouts}
use denote.Shadow.{makes_shadow}
use Rattle.lfs_model.proofs.Picked.{picked}
use Rattle.littlefs_flash.specs.contracts.chip.FlashState.{struct, the_row}
use Rattle.littlefs_flash.specs.contracts.chip.FlashState.none.{clauses}
use Rattle.littlefs_flash.specs.contracts.chip.FlashState.none.Key as key
use Rattle.littlefs_flash.proofs.chip.FlashState.none.Statement as stated
use Rattle.littlefs_flash.proofs.chip.FlashState.none.Code as code

pub none_spec : {M : Type 1} → stated.statement M
none_spec 𝓤 𝓛 𝓜 𝓡 wired Y Z lawsY lawsZ =
    picked struct.name the_row Y Z 𝓛 (clauses Y Z 𝓛 𝓜.mem 𝓡.returns) (λ κs a g. record { blocks = []; history = [] })
    (λ x. makes_shadow 𝓛 (the_row.own_val x (vstruct vnil ∷ [])) ((λ vss. (tt, tt)), tt) ((tt, (refl, tt)), tt))
    (λ κs a g e. fact_i 𝓤 (([] ≡ []) × ([] ≡ [])) (emp 𝓤) (refl, refl))
    𝓜 𝓡 (key.name (layouts (a_type ∷ a_type ∷ []) (Y, (Z, tt)))) (code.unfolded 𝓤 𝓛.H 𝓜 𝓡 wired (Y, (Z, tt)))
