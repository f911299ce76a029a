use Rattle.std.proofs.Common.{◌≡◌, ◌∙◌, [], length, subst, sym, ap, arith}
use Rattle.lfs_fs.proofs.Common.{lowest_free_fd, open_file_at, as_reader, writer_if_any, writers_among}
use Rattle.lfs_fs.proofs.OpenFiles.{few_put, few_with_none, free_at_most, free_there}
use Rattle.lfs_fs.proofs.files.Files.reserve_number.Goals as goal

pub reserve_in_table-requires-clause-inside : goal.reserve_in_table-requires-clause-inside
reserve_in_table-requires-clause-inside c =
    let e : c.free_number-number.result ≡ lowest_free_fd c.self.inside.entries.items = c.free_number-number.ensures ∙ ap lowest_free_fd c.deref.ensures.value in
    let k = free_at_most c.self.inside.entries.items in
    omega (arith, k, e, c.self.inside.entries.ok.0)

pub reserve_in_table-requires-clause-few : goal.reserve_in_table-requires-clause-few
reserve_in_table-requires-clause-few c =
    let e : c.free_number-number.result ≡ lowest_free_fd c.self.inside.entries.items = c.free_number-number.ensures ∙ ap lowest_free_fd c.deref.ensures.value in
    let k = few_with_none c.self.inside.entries.items c.self.invariant.1.0 (subst (λ xs. writers_among xs ≡ []) (sym c.self.view_is) c.requires) in
    omega (arith, k, e)

pub reserve_in_table-requires-clause-free : goal.reserve_in_table-requires-clause-free
reserve_in_table-requires-clause-free c =
    let fs = c.self.inside.entries.items in
    ap (open_file_at fs) (c.free_number-number.ensures ∙ ap lowest_free_fd c.deref.ensures.value) ∙ free_there fs

pub overflow_cast-result : goal.overflow_cast-result
overflow_cast-result c =
    let e : c.free_number-number.result ≡ lowest_free_fd c.self.inside.entries.items = c.free_number-number.ensures ∙ ap lowest_free_fd c.deref.ensures.value in
    let k = few_with_none c.self.inside.entries.items c.self.invariant.1.0 (subst (λ xs. writers_among xs ≡ []) (sym c.self.view_is) c.requires) in
    omega (arith, k, e)

pub invariant_of-self-2 : goal.invariant_of-self-2
invariant_of-self-2 c =
    let fs = c.self.inside.entries.items in
    let none = ap (λ ws. length ws) (subst (λ xs. writers_among xs ≡ []) (sym c.self.view_is) c.requires) in (
      c.in_ok-reserve_in_table.ensures.few c.self.invariant.0,
      (
        few_put as_reader fs _ c.free_number-number.result 16 _ c.in_ok-reserve_in_table.ensures.put (omega (arith, c.self.invariant.1.0)),
        few_put writer_if_any fs _ c.free_number-number.result 1 _ c.in_ok-reserve_in_table.ensures.put (omega (arith, none)),
      ),
    )
