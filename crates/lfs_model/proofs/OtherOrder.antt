-- What a disk shows doesn't depend on the order of its names: its pairs, its tree, and the writing profile.
use Rattle.std.proofs.Common.{◌≡◌, List, Some, sym, ap, ◌∙◌}
use Rattle.lfs_model.specs.declared.order.NameOrder.{NameOrder}
use Rattle.lfs_model.proofs.Common.{content_at, Disk, block_count, disk_with_order, IsWritable, ShowsTree, disk_tree, Pair, Tree, IsAccepted}
use Rattle.lfs_model.proofs.Uniqueness.{one_thread}

pub same_pairs : (order : NameOrder) (disk : Disk) (ps qs : List Pair) → IsAccepted disk ps → IsAccepted (disk_with_order order disk) qs → ps ≡ qs
same_pairs order disk ps qs a b = one_thread (content_at disk) (block_count disk) ps qs a.thread b.thread

pub same_tree : (order : NameOrder) (disk : Disk) (t u : Tree) → ShowsTree (disk_with_order order disk) (Some t) → ShowsTree disk (Some u) → t ≡ u
same_tree order disk t u (ps, (a, e)) (qs, (b, f)) = e ∙ ap (disk_tree disk) (sym (same_pairs order disk qs ps b a)) ∙ sym f

pub writable_in_order : (order : NameOrder) (disk : Disk) (ps : List Pair) → IsWritable disk ps → IsWritable (disk_with_order order disk) ps
writable_in_order order disk ps w = record { pairs = w.pairs; slots = w.slots; no_empty_pair = w.no_empty_pair }
