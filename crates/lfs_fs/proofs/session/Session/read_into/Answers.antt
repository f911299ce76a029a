use Rattle.std.proofs.Common.{◌≡◌, ◌+◌, true, length, take, is_some, sym, ap, subst, arith}
use Rattle.std.proofs.lemmas.List.{length-take-le}
use Rattle.lfs_device.specs.declared.error.Error.TheVariants as error
use Rattle.lfs_model.specs.session.Operations as ops
use Rattle.lfs_fs.proofs.Common.{open_file_at, files_view, BoundsFileReads, session_view}
use Rattle.lfs_fs.proofs.Errors.{given_on}
use Rattle.lfs_fs.proofs.OpenFiles.{none_reader, reader_there}
use Rattle.lfs_fs.proofs.Questions.{failed_by}
use Rattle.lfs_fs.proofs.ReaderCalls.{broken_read, done_read, kept_reader, known_of_reader, read_invariant, refused_read}
use Rattle.lfs_fs.proofs.ReaderReads.{few_reads, no_reader}
use Rattle.lfs_fs.proofs.ReadersKnow.{there_noted}
use Rattle.lfs_fs.proofs.session.Session.read_into.Goals as goal

pub read-requires-clause-there : goal.read-requires-clause-there
read-requires-clause-there g c = (c.in-Some.reader.now.path, (kept_reader c.self.inside.tree c.self.inside.files c.args.fd c.in-Some.reader.now c.self.invariant.ready c.if-has_failed.ensures c.in-Some.ensures).contents)

pub read-requires-clause-blocks : goal.read-requires-clause-blocks
read-requires-clause-blocks g c = known_of_reader c.self.inside.tree c.self.inside.files c.args.fd c.in-Some.reader.now c.self.invariant.ready c.if-has_failed.ensures c.in-Some.ensures

pub seek-requires : goal.seek-requires
seek-requires g c =
    subst (λ fs. is_some (open_file_at fs c.args.fd) ≡ true) (sym c.set_index_cache.ensures)
    (there_noted c.read.new.known c.self.inside.files c.args.fd (reader_there (open_file_at c.self.inside.files c.args.fd) c.in-Some.reader.now c.in-Some.ensures))

-- a check refuses it
pub returns-then-has_failed-clause-call : goal.returns-then-has_failed-clause-call
returns-then-has_failed-clause-call g c =
    refused_read c.self.inside.tree c.self.inside.files _ c.args.fd (length c.args.buf.now) c.self.view_is c.self.invariant.ready error.Failed
    (failed_by (session_view c.self.inside.tree c.self.inside.files) (ops.Read c.args.fd (length c.args.buf.now)) c.if-has_failed.ensures)

pub returns-in_default-clause-call : goal.returns-in_default-clause-call
returns-in_default-clause-call g c =
    refused_read c.self.inside.tree c.self.inside.files _ c.args.fd (length c.args.buf.now) c.self.view_is c.self.invariant.ready error.BadFile
    (no_reader (session_view c.self.inside.tree c.self.inside.files) c.args.fd (length c.args.buf.now) c.if-has_failed.ensures (none_reader c.self.inside.tree c.self.inside.files c.args.fd c.in_default.ensures))

-- a call of the tree failed
pub returns-in_err-count-clause-call : goal.returns-in_err-count-clause-call
returns-in_err-count-clause-call g c =
    broken_read c.self.inside.tree c.self.inside.files _ c.args.fd (length c.args.buf.now) c.self.view_is c.self.invariant.ready (λ n. ops.Bytes (take n c.read.new.buf)) c.in-Some.reader.now _ c.read.new.self c.from_residual.result c.if-has_failed.ensures c.in-Some.ensures
    c.in_err-count.ensures.asks.broken c.in_err-count.ensures.asks.errors (given_on _ c.from_residual.result c.from_residual.ensures.1)

-- it is done
pub invariant_of-self-2 : goal.invariant_of-self-2
invariant_of-self-2 g c =
    read_invariant c.self.inside.tree c.read.new.self c.self.inside.files c.set_index_cache.new.self c.seek.new.self c.args.fd (c.in-Some.reader.now.position + c.in_ok-count.count) c.in-Some.reader.now c.read.new.known c.self.invariant.ready c.if-has_failed.ensures c.in-Some.ensures
    c.in_ok-count.ensures.asks.asked c.set_index_cache.ensures c.seek.ensures c.self.invariant c.in_ok-count.ensures.blocks

pub returns-clause-call : goal.returns-clause-call
returns-clause-call g c =
    let kept = kept_reader c.self.inside.tree c.self.inside.files c.args.fd c.in-Some.reader.now c.self.invariant.ready c.if-has_failed.ensures c.in-Some.ensures in
    done_read c.self.inside.tree c.read.new.self c.self.inside.files c.set_index_cache.new.self c.seek.new.self c.args.fd (c.in-Some.reader.now.position + c.in_ok-count.count) c.in-Some.reader.now c.read.new.known c.self.invariant.ready c.if-has_failed.ensures c.in-Some.ensures
    c.in_ok-count.ensures.asks.asked c.set_index_cache.ensures c.seek.ensures _ (length c.args.buf.now) (take c.in_ok-count.count c.read.new.buf) c.self.view_is (c.in_ok-count.ensures.bytes c.in-Some.reader.now.path kept.contents)
    (ap (λ k. c.in-Some.reader.now.position + k) (sym (length-take-le c.in_ok-count.count c.read.new.buf (omega (arith, c.in_ok-count.ensures.count.0)))))

pub returns-clause-few : goal.returns-clause-few
returns-clause-few g c =
    let kept = kept_reader c.self.inside.tree c.self.inside.files c.args.fd c.in-Some.reader.now c.self.invariant.ready c.if-has_failed.ensures c.in-Some.ensures in
    subst (λ h. BoundsFileReads h c.args.fd (length c.args.buf.now) (session_view c.read.new.self c.seek.new.self)) c.self.view_is
    (few_reads c.self.inside.tree c.read.new.self c.self.inside.files (files_view c.read.new.self c.seek.new.self) c.args.fd (length c.args.buf.now) c.in-Some.reader.now _ _ c.in-Some.ensures kept.contents c.in_ok-count.ensures.none c.in_ok-count.ensures.few)
