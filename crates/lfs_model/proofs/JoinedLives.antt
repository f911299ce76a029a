-- Lives joined and parted.
use Rattle.std.proofs.Common.{List, [], ◌∷◌, ◌++◌, refl, sym, subst}
use Rattle.lfs_model.proofs.Common.{SystemState}
use Rattle.lfs_model.specs.crash.Lives.{Turn, IsTurn, IsLife}

pub lives_joined : (turns more : List Turn) (a b c : SystemState) → IsLife a turns b → IsLife b more c → IsLife a (turns ++ more) c
lives_joined [] more a b c same h = subst (λ m. IsLife m more c) (sym same) h
lives_joined (turn ∷ turns) more a b c (one, rest) h = (one, lives_joined turns more turn.to b c rest h)

pub lives_parted : (turns more : List Turn) (a c : SystemState) → IsLife a (turns ++ more) c → (b : SystemState) × (IsLife a turns b × IsLife b more c)
lives_parted [] more a c h = (a, (refl, h))
lives_parted (turn ∷ turns) more a c (one, rest) =
    let p = lives_parted turns more turn.to c rest in
    (p.0, ((one, p.1.0), p.1.1))

pub one_turn : (turn : Turn) (a : SystemState) → IsTurn a turn → IsLife a (turn ∷ []) turn.to
one_turn turn a one = (one, refl)
