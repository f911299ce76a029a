use Rattle.std.proofs.Common.{◌≡◌, ◌⊎◌, length, ap₂, sym, ◌∙◌, arith, inl, inr}
use Rattle.lfs_tag.proofs.Common.{ordering_then, cases_lt}
use Rattle.lfs_tag.proofs.Compared.{by_shared}
use Rattle.lfs_tag.proofs.names.compare_longer_first.Goals as goal

pub returns : goal.returns
returns c =
    let a = c.args.name.now in
    let b = c.args.other.now in
    let n = c.min-shared.result in
    let is = c.min-shared.ensures in
    let ends : (n ≡ length a) ⊎ (n ≡ length b) = elim (cases_lt (length a) (length b)) [
      | inl lt ↦ inl (omega (arith, is, lt))
      | inr le ↦ inr (omega (arith, is, le))
    ] in
    c.then.ensures ∙ ap₂ ordering_then c.cmp.ensures c.cmp-2.ensures ∙ sym (by_shared a b n (omega (arith, is)) (omega (arith, is)) ends)
