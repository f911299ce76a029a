use Rattle.std.proofs.Common.{◌≡◌, ◌<◌, ◌≤◌, Some, [], length, ap, arith, subst, sym}
use Rattle.lfs_fs.proofs.Common.{filter_map_files, as_reader, writer_if_any, writers_among}
use Rattle.lfs_fs.specs.declared.files.OpenFile.TheVariants as file
use Rattle.lfs_fs.proofs.OpenFiles.{count_set, few_set}
use Rattle.lfs_fs.proofs.files.Files.add_writer.Goals as goal

pub invariant_of-self : goal.invariant_of-self
invariant_of-self c =
    let fs = c.self.inside.entries.items in
    let lt = subst (λ xs. c.args.fd < length xs) (sym c.self.view_is) c.requires.inside in
    let none = subst (λ xs. writers_among xs ≡ []) (sym c.self.view_is) c.requires.none in
    let k = count_set writer_if_any fs c.args.fd (Some (file.Writing c.args.writer)) lt in
    let l = ap (λ ws. length ws) none in (
      omega (arith, c.set_in_table.ensures.len, c.self.invariant.0),
      (
        few_set as_reader fs _ c.args.fd 16 _ c.set_in_table.ensures.files lt c.self.invariant.1.0 (omega arith),
        subst (λ xs. length (filter_map_files writer_if_any xs) ≤ 1) (sym c.set_in_table.ensures.files) (omega (arith, k, l)),
      ),
    )
