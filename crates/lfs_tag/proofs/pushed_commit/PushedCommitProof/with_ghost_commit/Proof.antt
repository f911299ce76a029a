-- `with_ghost_commit` makes a value of no bytes, whose ghost field is the commit that the caller picks.
use mathlib.Core.List.{[], ◌∷◌}
use mathlib.Core.Path.{◌≡◌, refl}
use mir.Syntax.{a_type}
use mir.Val.{vnil, vstruct}
use base.Logic.{emp}
use contract.Monad.{fact_i}
use denote.Param.{layouts}
use denote.Shadow.{makes_shadow}
use Rattle.lfs_model.proofs.Picked.{picked}
use Rattle.lfs_tag.specs.contracts.pushed_commit.PushedCommitProof.{struct, the_row}
use Rattle.lfs_tag.specs.contracts.pushed_commit.PushedCommitProof.with_ghost_commit.{clauses}
use Rattle.lfs_tag.specs.contracts.pushed_commit.PushedCommitProof.with_ghost_commit.Key as key
use Rattle.lfs_tag.proofs.pushed_commit.PushedCommitProof.with_ghost_commit.Statement as stated
use Rattle.lfs_tag.proofs.pushed_commit.PushedCommitProof.with_ghost_commit.Code as code

pub with_ghost_commit_spec : {M : Type 1} → stated.statement M
with_ghost_commit_spec 𝓤 𝓛 𝓜 𝓡 wired Y Z lawsY lawsZ =
    picked struct.name the_row Y Z 𝓛 (clauses Y Z 𝓛 𝓜.mem 𝓡.returns) (λ κs a g. record { so_far = g })
    (λ x. makes_shadow 𝓛 (the_row.own_val x (vstruct vnil ∷ [])) ((λ vss. (tt, tt)), tt) ((tt, (refl, tt)), tt))
    (λ κs a g e. fact_i 𝓤 (g ≡ g) (emp 𝓤) refl)
    𝓜 𝓡 (key.name (layouts (a_type ∷ a_type ∷ []) (Y, (Z, tt)))) (code.unfolded 𝓤 𝓛.H 𝓜 𝓡 wired (Y, (Z, tt)))
