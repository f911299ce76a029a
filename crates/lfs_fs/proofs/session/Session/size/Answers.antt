use Rattle.std.proofs.Common.{sym}
use Rattle.lfs_fs.specs.FileAnswers.{file_size}
use Rattle.lfs_fs.proofs.Common.{open_file_at, writers_paths, IsCurrentReader}
use Rattle.lfs_fs.specs.declared.files.OpenFile.TheVariants as file
use Rattle.lfs_fs.proofs.FileAnswers.{a_reader_file, a_writer, answers_failed, answers_none, answers_some, no_file, writer_sized}
use Rattle.lfs_fs.proofs.OpenReaders.{one_of_all}
use Rattle.lfs_fs.proofs.session.Session.size.Goals as goal

pub size_of_contents-requires-clause-there : goal.size_of_contents-requires-clause-there
size_of_contents-requires-clause-there g c =
    let fs = c.self.inside.files in
    let r = one_of_all (IsCurrentReader c.self.inside.tree.pairs (writers_paths fs)) fs c.args.fd c.in-Some-reader.reader.now c.in-Some-reader.ensures (c.self.invariant.ready (sym c.if-has_failed.ensures)).read in
    (c.in-Some-reader.reader.now.path, r.contents)

pub returns-then-has_failed : goal.returns-then-has_failed
returns-then-has_failed g c = answers_failed file_size c.self.inside.tree c.self.inside.files _ c.args.fd c.self.view_is c.if-has_failed.ensures

pub returns-in-Some : goal.returns-in-Some
returns-in-Some g c =
    let t = c.self.inside.tree in
    let fs = c.self.inside.files in
    answers_some file_size t fs _ c.args.fd c.in-Some.writer.now.size (file.Writing c.in-Some.writer.now) c.self.view_is c.if-has_failed.ensures (a_writer (open_file_at fs c.args.fd) c.in-Some.writer.now c.in-Some.ensures)
    (writer_sized t fs c.args.fd c.in-Some.writer.now c.in-Some.ensures (c.self.invariant.ready (sym c.if-has_failed.ensures)).written)

pub returns-in-Some-reader : goal.returns-in-Some-reader
returns-in-Some-reader g c =
    let t = c.self.inside.tree in
    let fs = c.self.inside.files in
    let r = one_of_all (IsCurrentReader t.pairs (writers_paths fs)) fs c.args.fd c.in-Some-reader.reader.now c.in-Some-reader.ensures (c.self.invariant.ready (sym c.if-has_failed.ensures)).read in
    answers_some file_size t fs _ c.args.fd c.size_of_contents.result (file.Reading c.in-Some-reader.reader.now) c.self.view_is c.if-has_failed.ensures (a_reader_file (open_file_at fs c.args.fd) c.in-Some-reader.reader.now c.in-Some-reader.ensures)
    (sym (c.size_of_contents.ensures.size c.in-Some-reader.reader.now.path r.contents))

pub returns-in-None : goal.returns-in-None
returns-in-None g c = answers_none file_size c.self.inside.tree c.self.inside.files _ c.args.fd c.self.view_is c.if-has_failed.ensures (no_file (open_file_at c.self.inside.files c.args.fd) c.in_default.ensures c.in-None.ensures)
