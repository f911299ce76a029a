use Rattle.std.proofs.Common.{List, ℕ, subst, sym, ap, ◌∙◌}
use Rattle.lfs_tool.proofs.Common.{on_ok_weaker, Appends, AppendsPrefix, path_struct_lines, tree_items_view}
use Rattle.lfs_tool.specs.Listings.{IsImageListing}
use Rattle.lfs_tool.proofs.Images.{walk_lists}
use Rattle.lfs_tool.proofs.Writers.{reports_written}
use Rattle.lfs_tool.proofs.listings.list.Goals as goal

pub returns-clause-ok : goal.returns-clause-ok
returns-clause-ok g c =
    let P : List ℕ → Type 0 = Appends (g.W.Write.contents c.args.out.now.inner) (g.W.Write.contents c.write_and_flush.new.out.inner) in
    let lists = subst (IsImageListing c.args.layout c.args.image.items) (sym (c.in_ok-text.ensures ∙ ap (λ found. path_struct_lines (tree_items_view found)) c.deref.ensures.value))
    (walk_lists c.args.layout c.args.image.items (tree_items_view c.in_ok-items.items.items) c.in_ok-items.ensures.ok) in
    on_ok_weaker c.write_and_flush.result (λ written. (c.in_ok-text.text.items, (lists, subst P c.as_slice.ensures.value written))) c.write_and_flush.ensures.ok

pub returns-clause-beginning : goal.returns-clause-beginning
returns-clause-beginning g c = λ failed.
    let P : List ℕ → Type 0 = AppendsPrefix (g.W.Write.contents c.args.out.now.inner) (g.W.Write.contents c.write_and_flush.new.out.inner) in
    let lists = subst (IsImageListing c.args.layout c.args.image.items) (sym (c.in_ok-text.ensures ∙ ap (λ found. path_struct_lines (tree_items_view found)) c.deref.ensures.value))
    (walk_lists c.args.layout c.args.image.items (tree_items_view c.in_ok-items.items.items) c.in_ok-items.ensures.ok) in
    (c.in_ok-text.text.items, (lists, subst P c.as_slice.ensures.value c.write_and_flush.ensures.beginning))

pub returns-clause-writer : goal.returns-clause-writer
returns-clause-writer g c = reports_written _ _ c.write_and_flush.result c.write_and_flush.ensures.kept c.write_and_flush.ensures.failed
