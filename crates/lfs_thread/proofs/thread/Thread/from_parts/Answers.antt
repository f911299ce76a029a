use Rattle.lfs_thread.proofs.Changing.{headers_read}
use Rattle.lfs_thread.proofs.thread.Thread.from_parts.Goals as goal

pub invariant_of-result : goal.invariant_of-result
invariant_of-result g c _ =
    let was = c.requires.kept in (
      record {
        each = headers_read _ _ was.before _ _ was.since was.each;
        links = was.links;
        distinct = was.distinct;
        size = was.size;
        used = was.used;
      },
      c.requires.current,
    )
