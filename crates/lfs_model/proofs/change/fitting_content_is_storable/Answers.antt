use Rattle.std.proofs.Common.{refl, arith}
use Rattle.lfs_model.proofs.change.fitting_content_is_storable.Goals as goal

pub returns : goal.returns
returns c = record {
  logged = record {
    slots = (
      record { name = record { of_class = refl; short = omega arith; in_table = refl }; struct = record { of_class = refl; short = omega arith; in_table = refl }; attributes = tt },
      (record { name = record { of_class = refl; short = omega arith; in_table = refl }; struct = record { of_class = refl; short = omega arith; in_table = refl }; attributes = (omega arith, omega arith, omega arith, tt) }, tt),
    );
    tail = tt;
    move = record { kind = omega arith; id = omega arith; pair = (omega arith, omega arith) };
  };
  names = (refl, (refl, tt));
  few = omega arith;
}
