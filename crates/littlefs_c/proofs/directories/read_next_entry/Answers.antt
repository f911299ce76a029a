-- The entry is the one at the position.
use Rattle.std.proofs.Common.{◌≡◌, ◌+◌, Some, ap, arith, length, refl, subst}
use Rattle.std.specs.Prelude.{slice_get}
use Rattle.std.proofs.lemmas.Option.{slice_get_read}
use Rattle.littlefs_c.specs.DirectoryView.{DirectoryView}
use Rattle.littlefs_c.proofs.directories.read_next_entry.Goals as goal

pub returns : goal.returns
returns c =
    let items = c.directory.inside.items.items in (
      ap (λ (d : DirectoryView). record d { position = d.position + 1 }) c.directory.view_is,
      (
        c.index.result.now,
        (
          subst (λ (d : DirectoryView). slice_get d.items d.position ≡ Some c.index.result.now) c.directory.view_is
              (slice_get_read items (length items) c.directory.inside.position c.index.result.now refl (omega (arith, c.directory.inside.items.ok.0)) c.index.ensures),
          (c.show_entry.ensures.shown, c.show_entry.ensures.named),
        ),
      ),
    )
