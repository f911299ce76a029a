use Rattle.std.proofs.Common.{arith}
use Rattle.lfs_tag.proofs.Common.{nat_tests, LogEntry, IsStorableEntry}
use Rattle.lfs_tag.proofs.BuilderEntries.{push_keeps}
use Rattle.lfs_tag.proofs.builder.CommitBuilder.push.Goals as goal

pub invariant_of-self : goal.invariant_of-self
invariant_of-self c =
    let e : LogEntry = record { tag = c.args.tag; bytes = c.args.bytes.now } in
    let s = c.self.inside in
    let t = c.with_ghost_commit-self-inside.ensures in
    let w = c.write_entry-end in
    let one : IsStorableEntry s.last e = record { valid = c.requires.valid; other = grind (arith, nat_tests, c.requires.other); size = c.requires.bytes; fits = rw (← c.encode-stored.ensures.stored) c.encode-stored.type_inv } in
    rw t (push_keeps s.page s.len s.last c.encode-stored.result w.result s.buf.now w.new.buf s.pushed.so_far e c.self.invariant one c.encode-stored.ensures.stored w.ensures.end w.ensures.exact w.ensures.len w.ensures.bytes)
