use Rattle.std.proofs.Common.{◌≡◌, Some, is_some, ap, arith, subst, sym}
use Rattle.lfs_fs.proofs.Common.{open_file_at, as_reader, writer_if_any}
use Rattle.lfs_fs.specs.declared.files.OpenFile.TheVariants as file
use Rattle.lfs_fs.proofs.OpenFiles.{few_set, inside_is}
use Rattle.lfs_fs.proofs.WritersInPlace.{as_many, same_files_before}
use Rattle.lfs_fs.proofs.files.Files.save.Goals as goal

pub save_in_table-requires : goal.save_in_table-requires
save_in_table-requires g c = (c.requires.0, subst (λ fs. open_file_at fs c.args.fd ≡ Some (file.Writing c.requires.0)) (sym c.self.view_is) c.requires.1, c.requires.2)

pub invariant_of-self : goal.invariant_of-self
invariant_of-self g c =
    let fs = c.self.inside.entries.items in
    let e = subst (λ fs. open_file_at fs c.args.fd ≡ Some (file.Writing c.requires.0)) (sym c.self.view_is) c.requires.1 in
    let h = c.save_in_table.ensures.saved c.requires.0 e in
    let lt = inside_is fs c.args.fd (ap is_some e) in (
      omega (arith, c.save_in_table.ensures.len, c.self.invariant.0),
      (
        few_set as_reader fs _ c.args.fd 16 _ h.only lt c.self.invariant.1.0 (omega arith),
        few_set writer_if_any fs _ c.args.fd 1 _ h.only lt c.self.invariant.1.1 (as_many fs c.args.fd h.writer c.requires.0 e),
      ),
    )

pub returns-clause-stored : goal.returns-clause-stored
returns-clause-stored g c w e = c.save_in_table.ensures.stored w (subst (λ fs. open_file_at fs c.args.fd ≡ Some (file.Writing w)) (sym c.self.view_is) e)

pub returns-clause-saved : goal.returns-clause-saved
returns-clause-saved g c w e =
    same_files_before c.self.inside.entries.items _ c.args.fd _ c.self.view_is
    (c.save_in_table.ensures.saved w (subst (λ fs. open_file_at fs c.args.fd ≡ Some (file.Writing w)) (sym c.self.view_is) e))

pub returns-clause-survives : goal.returns-clause-survives
returns-clause-survives g c w e = c.save_in_table.ensures.survives w (subst (λ fs. open_file_at fs c.args.fd ≡ Some (file.Writing w)) (sym c.self.view_is) e)
