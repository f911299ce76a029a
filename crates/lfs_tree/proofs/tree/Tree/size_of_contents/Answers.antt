use Rattle.std.proofs.Common.{◌≡◌, ◌<◌, ◌≤◌, ◌∙◌, arith, ap, length, subst, sym}
use Rattle.lfs_tree.proofs.Common.{HasBlockSizes, Disk, file_bytes, IsStorageAt, TreeState, visible_tree}
use Rattle.lfs_lookup.specs.FileContents.{ContentsFitTag}
use Rattle.lfs_tree.proofs.Asking.{rooted_held}
use Rattle.lfs_tree.proofs.ReadContents.{contents_sized, size_of_file_contents}
use Rattle.lfs_tree.proofs.tree.Tree.size_of_contents.Goals as goal

pub overflow_cast-result : goal.overflow_cast-result
overflow_cast-result g c =
    let few : length c.in-Inline.bytes.items < 0x3ff = subst ContentsFitTag c.in-Inline.is c.requires.there.1.fits in
    omega (arith, few, c.len.ensures, c.in-Inline.bytes.ok.0)

pub returns-in-Inline-clause-size : goal.returns-in-Inline-clause-size
returns-in-Inline-clause-size g c path there =
    let r = rooted_held c.self.inside.thread c.self.inside.root c.self.inside.is_writable c.args.self.now c.self.invariant c.self.view_is c.requires.works in
    let t = c.self.inside.thread.kept in
    let device = c.device-device.result.now in
    let len : c.len.result ≡ length c.in-Inline.bytes.items = omega (arith, c.len.ensures, c.in-Inline.bytes.ok.0) in
    len ∙ sym (ap size_of_file_contents c.in-Inline.is)
    ∙ subst (λ (s : TreeState). size_of_file_contents c.args.contents.now ≡ length (file_bytes (visible_tree s path))) c.self.view_is
    (contents_sized t.disk t.pairs path c.args.contents.now (g.D.BlockDevice.geometry device).block_count r.sound.accepted
    (subst (λ (k : Disk). (1024 ≤ k.block_size) × HasBlockSizes k.block_size (g.D.BlockDevice.geometry device).block_count k.blocks) c.device-device.ensures.disk ((g.D.BlockDevice.geometry device).valid.no_smaller, g.met.D.BlockDevice.shape device))
    (subst (λ (s : TreeState). IsStorageAt s.pairs path c.args.contents.now) (sym c.self.view_is) there))

pub returns-in-List-clause-size : goal.returns-in-List-clause-size
returns-in-List-clause-size g c path there =
    let r = rooted_held c.self.inside.thread c.self.inside.root c.self.inside.is_writable c.args.self.now c.self.invariant c.self.view_is c.requires.works in
    let t = c.self.inside.thread.kept in
    let device = c.device-device.result.now in
    sym (ap size_of_file_contents c.in-List.is)
    ∙ subst (λ (s : TreeState). size_of_file_contents c.args.contents.now ≡ length (file_bytes (visible_tree s path))) c.self.view_is
    (contents_sized t.disk t.pairs path c.args.contents.now (g.D.BlockDevice.geometry device).block_count r.sound.accepted
    (subst (λ (k : Disk). (1024 ≤ k.block_size) × HasBlockSizes k.block_size (g.D.BlockDevice.geometry device).block_count k.blocks) c.device-device.ensures.disk ((g.D.BlockDevice.geometry device).valid.no_smaller, g.met.D.BlockDevice.shape device))
    (subst (λ (s : TreeState). IsStorageAt s.pairs path c.args.contents.now) (sym c.self.view_is) there))
