use Rattle.std.proofs.Common.{◌≡◌, None, true, is_some, arith, subst, sym}
use Rattle.lfs_fs.proofs.Common.{open_file_at, as_reader, writer_if_any}
use Rattle.lfs_fs.proofs.OpenFiles.{few_set, inside_is}
use Rattle.lfs_fs.proofs.files.Files.close.Goals as goal

pub invariant_of-self : goal.invariant_of-self
invariant_of-self c =
    let lt = inside_is c.self.inside.entries.items c.args.fd (subst (λ fs. is_some (open_file_at fs c.args.fd) ≡ true) (sym c.self.view_is) c.requires) in (
      omega (arith, c.close_in_table.ensures.len, c.self.invariant.0),
      (
        few_set as_reader c.self.inside.entries.items _ c.args.fd 16 None c.close_in_table.ensures.files lt c.self.invariant.1.0 (omega arith),
        few_set writer_if_any c.self.inside.entries.items _ c.args.fd 1 None c.close_in_table.ensures.files lt c.self.invariant.1.1 (omega arith),
      ),
    )
