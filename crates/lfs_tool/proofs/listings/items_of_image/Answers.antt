use Rattle.std.proofs.lemmas.Result.{IfOk-weaker}
use Rattle.lfs_tool.proofs.Common.{IfErr-weaker, tree_items_view}
use Rattle.lfs_tool.proofs.Images.{refuses_image, walked_image}
use Rattle.lfs_tool.proofs.listings.items_of_image.Goals as goal

pub returns-in-Ok-clause-ok : goal.returns-in-Ok-clause-ok
returns-in-Ok-clause-ok c =
    let d = c.in-Ok.ensures in
    IfOk-weaker c.items_of_ram.result _ _ (λ items (t, walked). walked_image c.args.layout c.args.image.items _ t (tree_items_view items.items) d.image d.disk walked) c.items_of_ram.ensures.items

pub returns-in-Ok-clause-refused : goal.returns-in-Ok-clause-refused
returns-in-Ok-clause-refused c =
    let d = c.in-Ok.ensures in
    IfErr-weaker c.items_of_ram.result _ _ (λ e none. refuses_image c.args.layout c.args.image.items _ e d.image d.disk none) c.items_of_ram.ensures.err
