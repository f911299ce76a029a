use Rattle.std.proofs.Common.{sym, ◌∙◌}
use Rattle.lfs_tag.specs.EntryWalk.{entries_left}
use Rattle.lfs_tag.proofs.Runs.{run_past, back, shorter}
use Rattle.lfs_tag.proofs.entries.EntriesDoubleEndedIterator.next_back.Goals as goal

pub returns-then-self-clause-steps : goal.returns-then-self-clause-steps
returns-then-self-clause-steps c =
    let s = c.self.inside in
    let none = sym c.self.view_is ∙ run_past s.block.now s.at s.before s.end c.if-self.true in
    (none, none)

pub entry_before-found-requires-clause-room : goal.entry_before-found-requires-clause-room
entry_before-found-requires-clause-room c = let s = c.self.inside in (back s.block.now s.at s.before (entries_left s) s.end s.last c.self.invariant.run c.if-self.false).room

pub entry_before-found-requires-clause-within : goal.entry_before-found-requires-clause-within
entry_before-found-requires-clause-within c = let s = c.self.inside in (back s.block.now s.at s.before (entries_left s) s.end s.last c.self.invariant.run c.if-self.false).within

pub invariant_of-self : goal.invariant_of-self
invariant_of-self c =
    let s = c.self.inside in
    let b = back s.block.now s.at s.before (entries_left s) s.end s.last c.self.invariant.run c.if-self.false in
    record { run = rw c.entry_before-found.ensures.before (b.run c.entry_before-found.result.0 c.entry_before-found.ensures.start) }

steps : goal.returns-clause-steps
steps c =
    let s = c.self.inside in
    let b = back s.block.now s.at s.before (entries_left s) s.end s.last c.self.invariant.run c.if-self.false in
    sym c.self.view_is ∙ rw (c.entry_before-found.ensures.tag, c.entry_before-found.ensures.bytes) (b.list c.entry_before-found.result.0 c.entry_before-found.ensures.start)

pub returns-clause-steps : goal.returns-clause-steps
returns-clause-steps c = steps c

pub returns-clause-goes : goal.returns-clause-goes
returns-clause-goes c = record { on = λ _. (tt, tt, shorter _ _ _ (steps c)); keeps = tt; rests = λ _. tt }
