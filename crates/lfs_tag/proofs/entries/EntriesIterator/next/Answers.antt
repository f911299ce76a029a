use Rattle.std.proofs.Common.{rules, length, sym, ap, ◌∙◌}
use Rattle.lfs_tag.proofs.Common.{log_entry_view}
use Rattle.lfs_tag.proofs.Runs.{run_past, run_none, run_on, run_rest}
use Rattle.lfs_tag.proofs.entries.EntriesIterator.next.Goals as goal

pub returns-then-self-clause-steps : goal.returns-then-self-clause-steps
returns-then-self-clause-steps c =
    let s = c.self.inside in
    let none = sym c.self.view_is ∙ run_past s.block.now s.at s.before s.end c.if-self.true in
    (none, none)

pub returns-in_default-clause-steps : goal.returns-in_default-clause-steps
returns-in_default-clause-steps c =
    let s = c.self.inside in
    let none = sym c.self.view_is ∙ run_none s.block.now s.at s.before s.end (sym c.in_default.ensures.value) in
    (none, none)

pub invariant_of-self : goal.invariant_of-self
invariant_of-self c =
    let s = c.self.inside in
    let e = log_entry_view c.in-Some.entry in
    rw c.as_previous_tag-self-inside.ensures (record { run = run_rest s.block.now s.at s.before s.end s.last e c.if-self.false (sym c.in-Some.ensures.value) c.self.invariant.run })

steps : goal.returns-clause-steps
steps c =
    let s = c.self.inside in
    let e = log_entry_view c.in-Some.entry in
    rw c.as_previous_tag-self-inside.ensures (sym c.self.view_is ∙ run_on s.block.now s.at s.before s.end e c.if-self.false (sym c.in-Some.ensures.value))

pub returns-clause-steps : goal.returns-clause-steps
returns-clause-steps c = steps c

pub returns-clause-goes : goal.returns-clause-goes
returns-clause-goes c = let e = ap length (steps c) in search (rules, e)
