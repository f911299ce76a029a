use Rattle.std.proofs.Common.{◌<◌, ◌^◌, rules}
use Rattle.lfs_blocks.proofs.MarkLemmas.{IsFirstFree, IsFirstFree-trailing_ones, not_free-from_full}
use Rattle.lfs_blocks.proofs.marks.Marks.first_free.Goals as goal
use Rattle.lfs_blocks.proofs.marks.Marks.first_free.Goals.{After-trailing_ones}

found_is : (c : After-trailing_ones) → IsFirstFree c.args.self c.args.start c.trailing_ones.result
found_is c =
    let used : c.args.self.used < 2 ^ 64 = search rules in
    let flying : c.args.self.in_flight < 2 ^ 64 = search rules in
    rw c.trailing_ones.ensures (IsFirstFree-trailing_ones c.args.self c.args.start used flying c.requires c.if-taken.false)

pub returns-then-taken-clause-none : goal.returns-then-taken-clause-none
returns-then-taken-clause-none c = λ place from within.
    not_free-from_full c.args.self c.args.start place c.requires c.if-taken.true from within

pub returns-else-taken-clause-found : goal.returns-else-taken-clause-found
returns-else-taken-clause-found c = (found_is c).free

pub returns-else-taken-clause-within : goal.returns-else-taken-clause-within
returns-else-taken-clause-within c = (found_is c).within

pub returns-else-taken-clause-first : goal.returns-else-taken-clause-first
returns-else-taken-clause-first c = (found_is c).first
