use Rattle.std.proofs.Common.{◌≡◌, ap, drop, length, subst, sym, take}
use Rattle.std.specs.Prelude.{IfOk, OnOk}
use Rattle.lfs_tree.proofs.Common.{file_bytes, AreKnownBlocks, struct_blocks, ThreadView, IsStorageAt, contents_struct, TreeState, visible_tree}
use Rattle.lfs_file.specs.Known.{ReadsKnownList}
use Rattle.lfs_tree.proofs.Asking.{asking, held, rooted_held}
use Rattle.lfs_tree.proofs.ReadContents.{list_read}
use Rattle.lfs_tree.proofs.tree.Tree.read.Goals as goal

pub read_known_contents-count-requires-clause-fits : goal.read_known_contents-count-requires-clause-fits
read_known_contents-count-requires-clause-fits g c = c.requires.there.1.fits

pub read_known_contents-count-requires-clause-list : goal.read_known_contents-count-requires-clause-list
read_known_contents-count-requires-clause-list g c =
    let r = rooted_held c.self.inside.thread c.self.inside.root c.self.inside.is_writable c.args.self.now c.self.invariant c.self.view_is c.requires.works in
    let t = c.self.inside.thread.kept in
    list_read t.disk t.pairs c.requires.there.0 c.args.contents.now r.sound.accepted
    (subst (λ (s : TreeState). IsStorageAt s.pairs c.requires.there.0 c.args.contents.now) (sym c.self.view_is) c.requires.there.1)

pub invariant_of-self : goal.invariant_of-self
invariant_of-self g c =
    held c.self.inside.thread c.read_known_contents-count.new.thread c.self.inside.root c.self.inside.is_writable (rooted_held c.self.inside.thread c.self.inside.root c.self.inside.is_writable c.args.self.now c.self.invariant c.self.view_is c.requires.works) c.read_known_contents-count.result c.fail_on_error.new.thread c.fail_on_error.ensures c.read_known_contents-count.ensures.reading

pub returns-clause-asks : goal.returns-clause-asks
returns-clause-asks g c =
    asking c.self.inside.thread c.read_known_contents-count.new.thread c.self.inside.root c.self.inside.is_writable (rooted_held c.self.inside.thread c.self.inside.root c.self.inside.is_writable c.args.self.now c.self.invariant c.self.view_is c.requires.works) c.args.self.now c.read_known_contents-count.result c.fail_on_error.new.thread c.self.view_is c.fail_on_error.ensures c.read_known_contents-count.ensures.reading

pub returns-clause-bytes : goal.returns-clause-bytes
returns-clause-bytes g c path there =
    subst (λ (s : TreeState). IfOk c.read_known_contents-count.result (λ n. take n c.read_known_contents-count.new.buf ≡ take (length c.args.buf.now) (drop c.args.position (file_bytes (visible_tree s path))))) c.self.view_is
    (c.read_known_contents-count.ensures.bytes path (subst (λ (s : TreeState). IsStorageAt s.pairs path c.args.contents.now) (sym c.self.view_is) there))

pub read_known_contents-count-requires-clause-blocks : goal.read_known_contents-count-requires-clause-blocks
read_known_contents-count-requires-clause-blocks g c =
    subst (λ (s : TreeState). AreKnownBlocks (struct_blocks s.disk (contents_struct c.args.contents.now)) c.args.known.now) (sym c.self.view_is) c.requires.blocks

pub returns-clause-blocks : goal.returns-clause-blocks
returns-clause-blocks g c =
    subst (λ (s : TreeState). AreKnownBlocks (struct_blocks s.disk (contents_struct c.args.contents.now)) c.read_known_contents-count.new.known) c.self.view_is c.read_known_contents-count.ensures.blocks

pub returns-clause-few : goal.returns-clause-few
returns-clause-few g c head size is =
    let history = ap (λ (t : ThreadView). t.kept.history) c.fail_on_error.ensures in
    subst (λ (s : TreeState). OnOk c.read_known_contents-count.result (ReadsKnownList s.disk.block_size size c.args.position (length c.args.buf.now) c.args.known.now c.read_known_contents-count.new.known s.history c.fail_on_error.new.thread.kept.history)) c.self.view_is
    (subst (λ h. OnOk c.read_known_contents-count.result (ReadsKnownList c.self.inside.thread.kept.disk.block_size size c.args.position (length c.args.buf.now) c.args.known.now c.read_known_contents-count.new.known c.self.inside.thread.kept.history h)) (sym history)
    (c.read_known_contents-count.ensures.few head size is))
