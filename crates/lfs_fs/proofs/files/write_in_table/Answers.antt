use Rattle.std.proofs.Common.{rules, sym}
use Rattle.lfs_fs.proofs.WritersInPlace.{same_writer}
use Rattle.lfs_fs.proofs.files.write_in_table.Goals as goal

pub returns-clause-written : goal.returns-clause-written
returns-clause-written g c w e =
    let same = same_writer c.args.entries.now.items c.args.index c.in-Some-Writing.writer w _ _ c.index_mut.ensures.value c.in-Some-Writing.is c.in-Some-Writing.field-0-is e in
    record {
      writer = c.write_to_draft.new.writer;
      only = search rules;
      holds = rw (sym same) c.write_to_draft.ensures.written;
    }
