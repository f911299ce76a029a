use Rattle.std.proofs.Common.{◌≡◌, ◌-◌, ap, length, min, arith}
use Rattle.lfs_fs.proofs.Common.{file_bytes, visible_tree}
use Rattle.lfs_fs.proofs.ReaderReads.{known_read, whole_buffer}
use Rattle.lfs_fs.proofs.reads.bytes_for_reader.Goals as goal

pub size_of_contents-requires-clause-there : goal.size_of_contents-requires-clause-there
size_of_contents-requires-clause-there g c = (c.args.reader.now.path, c.requires.kept.1.contents)

pub read-requires-clause-there : goal.read-requires-clause-there
read-requires-clause-there g c = (c.args.reader.now.path, c.requires.kept.1.contents)

pub returns-clause-bytes : goal.returns-clause-bytes
returns-clause-bytes g c =
    let file = file_bytes (visible_tree c.args.tree.now c.args.reader.now.path) in
    let position = c.args.reader.now.position in
    let size = c.size_of_contents.ensures.size c.args.reader.now.path c.requires.kept.1.contents in
    let long = ap (λ xs. length xs) c.deref_mut.ensures.value in
    let is : length c.deref_mut.result.now ≡ min c.args.count (length file - position) = omega (arith, size, long, c.in-Ok.ensures.len, c.in-Ok.bytes.ok.0, c.min.ensures, c.saturating_sub-left.ensures) in
    whole_buffer c.read.new.buf _ file c.in_ok-read.field-0 (length c.deref_mut.result.now) c.args.count position c.in-Ok.bytes.len (c.in_ok-read.ensures.bytes c.args.reader.now.path c.requires.kept.1.contents) c.in_ok-read.ensures.count.0
    (omega arith) is (omega (arith, long, c.in-Ok.bytes.ok.0))

pub returns-clause-few : goal.returns-clause-few
returns-clause-few g c head size is =
    known_read c.args.tree.now.disk.block_size size c.args.reader.now.position c.args.count _ c.args.known.now c.read.new.known c.args.tree.now.history c.read.new.self.history
    (omega (arith, c.size_of_contents.ensures.list head size is, ap (λ xs. length xs) c.deref_mut.ensures.value, c.in-Ok.ensures.len, c.in-Ok.bytes.ok.0, c.min.ensures, c.saturating_sub-left.ensures))
    (c.in_ok-read.ensures.few head size is)
