use Rattle.std.proofs.Common.{rules, sym}
use Rattle.lfs_fs.proofs.WritersInPlace.{same_writer}
use Rattle.lfs_fs.proofs.files.save_in_table.Goals as goal

pub returns-clause-stored : goal.returns-clause-stored
returns-clause-stored g c w e =
    let same = same_writer c.args.entries.now.items c.args.index c.in-Some-Writing.writer w _ _ c.index_mut.ensures.value c.in-Some-Writing.is c.in-Some-Writing.field-0-is e in
    rw (sym same) c.save_writer.ensures.stored

pub returns-clause-saved : goal.returns-clause-saved
returns-clause-saved g c w e =
    let same = same_writer c.args.entries.now.items c.args.index c.in-Some-Writing.writer w _ _ c.index_mut.ensures.value c.in-Some-Writing.is c.in-Some-Writing.field-0-is e in
    record {
      writer = c.save_writer.new.writer;
      only = search rules;
      holds = rw (sym same) c.save_writer.ensures.saved;
    }

pub returns-clause-survives : goal.returns-clause-survives
returns-clause-survives g c w e =
    let same = same_writer c.args.entries.now.items c.args.index c.in-Some-Writing.writer w _ _ c.index_mut.ensures.value c.in-Some-Writing.is c.in-Some-Writing.field-0-is e in
    rw (sym same) c.save_writer.ensures.survives
