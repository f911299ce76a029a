use Rattle.std.proofs.Common.{◌≡◌, ◌<◌, ◌∙◌, length, subst, sym, ap, arith}
use Rattle.lfs_fs.proofs.Common.{lowest_free_fd, as_reader, readers_among, writer_if_any}
use Rattle.lfs_fs.proofs.OpenFiles.{few_open, few_put, free_at_most}
use Rattle.lfs_fs.proofs.files.Files.add_reader.Goals as goal

pub set_table_entry-requires-clause-inside : goal.set_table_entry-requires-clause-inside
set_table_entry-requires-clause-inside c =
    let e : c.free_number-number.result ≡ lowest_free_fd c.self.inside.entries.items = c.free_number-number.ensures ∙ ap lowest_free_fd c.deref.ensures.value in
    let k = free_at_most c.self.inside.entries.items in
    omega (arith, k, e, c.self.inside.entries.ok.0)

pub set_table_entry-requires-clause-few : goal.set_table_entry-requires-clause-few
set_table_entry-requires-clause-few c =
    let e : c.free_number-number.result ≡ lowest_free_fd c.self.inside.entries.items = c.free_number-number.ensures ∙ ap lowest_free_fd c.deref.ensures.value in
    let k = few_open c.self.inside.entries.items (subst (λ xs. length (readers_among xs) < 16) (sym c.self.view_is) c.requires.few) c.self.invariant.1.1 in
    omega (arith, k, e)

pub overflow_cast-result : goal.overflow_cast-result
overflow_cast-result c =
    let e : c.free_number-number.result ≡ lowest_free_fd c.self.inside.entries.items = c.free_number-number.ensures ∙ ap lowest_free_fd c.deref.ensures.value in
    let k = few_open c.self.inside.entries.items (subst (λ xs. length (readers_among xs) < 16) (sym c.self.view_is) c.requires.few) c.self.invariant.1.1 in
    omega (arith, k, e)

pub invariant_of-self-2 : goal.invariant_of-self-2
invariant_of-self-2 c =
    let fs = c.self.inside.entries.items in
    let few = subst (λ xs. length (readers_among xs) < 16) (sym c.self.view_is) c.requires.few in (
      c.in_ok-set_table_entry.ensures.few c.self.invariant.0,
      (
        few_put as_reader fs _ c.free_number-number.result 16 _ c.in_ok-set_table_entry.ensures.put (omega (arith, few)),
        few_put writer_if_any fs _ c.free_number-number.result 1 _ c.in_ok-set_table_entry.ensures.put (omega (arith, c.self.invariant.1.1)),
      ),
    )
