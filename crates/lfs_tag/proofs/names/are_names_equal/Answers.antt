use Rattle.std.proofs.Common.{◌≡◌, ◌∙◌, Less, Equal, Greater, refl, sym}
use Rattle.std.specs.declared.cmp.Ordering.{Ordering}
use Rattle.lfs_tag.proofs.Common.{slice_cmp, is_equal}
use Rattle.std.specs.Ordering.{is_eq, nat_cmp}
use Rattle.std.proofs.lemmas.Map.Text.{is_eq-slice_cmp}
use Rattle.lfs_tag.proofs.names.are_names_equal.Goals as goal

equal : (o : Ordering) → is_eq o ≡ is_equal o
equal Less = refl
equal Equal = refl
equal Greater = refl

pub returns : goal.returns
returns c = c.eq.ensures ∙ sym (is_eq-slice_cmp c.args.name.now c.args.other.now) ∙ equal (slice_cmp nat_cmp c.args.name.now c.args.other.now)
