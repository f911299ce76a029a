use Rattle.std.proofs.Common.{◌∙◌, arith, ap, length, sym, subst}
use Rattle.lfs_tree.proofs.Common.{BlockStates, Disk, HasGeometry, NoneInFlight}
use Rattle.lfs_tree.proofs.OpenedFiles.{all_taken, opened_in_memory}
use Rattle.lfs_tree.proofs.opened_contents.open_inline_contents.Goals as goal

pub contents_in_memory-requires : goal.contents_in_memory-requires
contents_in_memory-requires g c =
    let can = c.requires.can.1 in
    let k = can.file.shows in
    let e = c.deref.ensures.value ∙ all_taken c.in_ok-bytes.bytes.items k.0 c.args.len k.1.1.0 (c.in_ok-bytes.ensures.bytes c.requires.can.0 k.0 can.file.there k.1.0) in
    let l = ap length e in
    let m = k.1.1.0 in
    let n = k.1.1.1 in
    let o = c.geometry_of-geometry.result.valid.no_smaller in
    omega arith

pub returns-clause-opened : goal.returns-clause-opened
returns-clause-opened g c held can =
    let now = c.read_inline_at.new.thread.kept in
    let only = c.read_inline_at.ensures.reading.only in
    let k = can.file.shows in
    let e = c.deref.ensures.value ∙ all_taken c.in_ok-bytes.bytes.items k.0 c.args.len k.1.1.0 (c.in_ok-bytes.ensures.bytes held k.0 can.file.there k.1.0) in
    opened_in_memory now c.geometry_of-geometry.result c.deref.result.now k.0 held.struct c.args.len c.contents_in_memory.result
    (subst (λ (d : Disk). HasGeometry c.geometry_of-geometry.result d) (sym only.disk) c.geometry_of-geometry.ensures)
    (subst (λ (d : Disk). NoneInFlight now.map d.blocks) (sym only.disk) (subst (λ (m : BlockStates). NoneInFlight m c.args.thread.now.kept.disk.blocks) (sym only.map) can.idle))
    e k.1.0 k.1.1.0 c.contents_in_memory.ensures.holds
