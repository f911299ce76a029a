use Rattle.std.proofs.Common.{sym, subst}
use Rattle.lfs_tree.proofs.Common.{CanOpenFileSlot, AreOpenedContents, opened_form}
use Rattle.lfs_lookup.specs.declared.entry.FileStorage.{FileStorage}
use Rattle.lfs_tree.proofs.opened_contents.open_contents.Goals as goal

pub returns-in-List-clause-opened : goal.returns-in-List-clause-opened
returns-in-List-clause-opened g c held can =
    subst (λ (x : FileStorage). AreOpenedContents c.args.thread.now.kept held.struct (opened_form x) c.open_list_contents.result) (sym c.in-List.is)
    (c.open_list_contents.ensures c.args.slot held (subst (λ (x : FileStorage). CanOpenFileSlot c.args.thread.now.kept c.args.slot x held) c.in-List.is can))
