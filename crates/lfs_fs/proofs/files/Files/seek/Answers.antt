use Rattle.std.proofs.Common.{◌≡◌, true, is_some, arith, subst, sym}
use Rattle.lfs_fs.proofs.Common.{open_file_at, file_with_position, as_reader, writer_if_any}
use Rattle.lfs_fs.proofs.OpenFiles.{few_set, inside_is, less_changed, reader_moved, writer_moved}
use Rattle.lfs_fs.proofs.files.Files.seek.Goals as goal

pub invariant_of-self : goal.invariant_of-self
invariant_of-self c =
    let fs = c.self.inside.entries.items in
    let lt = inside_is fs c.args.fd (subst (λ fs. is_some (open_file_at fs c.args.fd) ≡ true) (sym c.self.view_is) c.requires) in (
      omega (arith, c.seek_in_table.ensures.len, c.self.invariant.0),
      (
        few_set as_reader fs _ c.args.fd 16 _ c.seek_in_table.ensures.files lt c.self.invariant.1.0 (less_changed as_reader (file_with_position c.args.position) (open_file_at fs c.args.fd) (reader_moved c.args.position)),
        few_set writer_if_any fs _ c.args.fd 1 _ c.seek_in_table.ensures.files lt c.self.invariant.1.1 (less_changed writer_if_any (file_with_position c.args.position) (open_file_at fs c.args.fd) (writer_moved c.args.position)),
      ),
    )
