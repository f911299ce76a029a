use Rattle.std.proofs.Common.{◌∙◌, Some, ap, arith, inl, inr, length, refl, sym}
use Rattle.std.specs.Prelude.{slice_set}
use Rattle.littlefs_c.specs.DirectoryView.{DirectoryView}
use Rattle.littlefs_c.proofs.Tables.{entry_index, set_found}
use Rattle.littlefs_c.proofs.directories.seek_directory.Goals as goal

pub returns-then-position-len : goal.returns-then-position-len
returns-then-position-len c =
    let xs = c.args.directories.now.items in
    inr (
      refl,
      (
        c.in-Some.directory,
        (
          entry_index xs c.args.number c.index_mut.result.now (omega arith) c.index_mut.ensures.value ∙ c.in-Some.is,
          (
            let e = ap (λ (d : DirectoryView). length d.items) c.directory.view_is in omega (arith, e, c.directory.inside.items.ok.0),
            ap (slice_set xs c.args.number) (sym c.in-Some.is) ∙ set_found xs c.args.number c.index_mut.result.now (omega arith) c.index_mut.ensures.value,
          ),
        ),
      ),
    )

pub returns-else-position-len : goal.returns-else-position-len
returns-else-position-len c =
    let xs = c.args.directories.now.items in (
      c.in-Some.directory,
      (
        entry_index xs c.args.number c.index_mut.result.now (omega arith) c.index_mut.ensures.value ∙ c.in-Some.is,
        (
          let e = ap (λ (d : DirectoryView). length d.items) c.directory.view_is in omega (arith, e, c.directory.inside.items.ok.0),
          ap (λ (d : DirectoryView). slice_set xs c.args.number (Some (record d { position = c.args.position }))) c.directory.view_is,
        ),
      ),
    )

pub returns-in-None : goal.returns-in-None
returns-in-None c =
    let xs = c.args.directories.now.items in
    inl (refl, entry_index xs c.args.number c.index_mut.result.now (omega arith) c.index_mut.ensures.value ∙ c.in-None.is, set_found xs c.args.number c.index_mut.result.now (omega arith) c.index_mut.ensures.value)
