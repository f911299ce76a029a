use Rattle.std.proofs.Common.{◌∙◌, Some, ap, length, sym}
use Rattle.lfs_lookup.proofs.Common.{superblock_fields}
use Rattle.lfs_lookup.proofs.ImageSuperblock.{image_superblock, root_superblock, whole_struct}
use Rattle.lfs_lookup.proofs.image_superblock.superblock.Goals as goal

pub superblock_of_bytes-requires : goal.superblock_of_bytes-requires
superblock_of_bytes-requires g c =
    let first = root_superblock c.args.thread.now.kept.disk c.args.thread.now.kept.pairs c.args.root c.requires.accepted c.requires.root in
    ap length (c.deref.ensures.value ∙ c.in_ok-bytes.ensures.bytes first.slot first.own first.at first.is ∙ whole_struct first.own first.len) ∙ first.len

pub returns-clause-is : goal.returns-clause-is
returns-clause-is g c =
    let first = root_superblock c.args.thread.now.kept.disk c.args.thread.now.kept.pairs c.args.root c.requires.accepted c.requires.root in
    let read = c.deref.ensures.value ∙ c.in_ok-bytes.ensures.bytes first.slot first.own first.at first.is ∙ whole_struct first.own first.len in
    image_superblock c.args.thread.now.kept.pairs c.args.root first.slot first.own c.requires.root first.at first.is
    ∙ ap Some (sym (c.superblock_of_bytes.ensures ∙ ap superblock_fields read))
