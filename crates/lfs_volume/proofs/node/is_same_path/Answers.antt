use Rattle.std.proofs.Common.{◌≡◌, ◌∙◌, Less, Equal, Greater, refl, sym}
use Rattle.std.specs.declared.cmp.Ordering.{Ordering}
use Rattle.std.specs.Cmp.Lexicographic.{slice_cmp}
use Rattle.std.specs.Ordering.{is_eq, nat_cmp}
use Rattle.std.proofs.lemmas.Map.Text.{is_eq-slice_cmp}
use Rattle.lfs_model.specs.format.Names.{is_equal}
use Rattle.lfs_volume.proofs.node.is_same_path.Goals as goal

equal : (o : Ordering) → is_eq o ≡ is_equal o
equal Less = refl
equal Equal = refl
equal Greater = refl

pub returns : goal.returns
returns c = c.eq.ensures ∙ sym (is_eq-slice_cmp c.args.path.now c.args.other.now) ∙ equal (slice_cmp nat_cmp c.args.path.now c.args.other.now)
