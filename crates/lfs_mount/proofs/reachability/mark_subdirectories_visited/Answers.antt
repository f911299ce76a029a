use Rattle.std.proofs.Common.{◌≡◌, ◌++◌, take, arith, ap, sym, ◌∙◌, refl, get_or, subst, set, Some, true}
use Rattle.lfs_mount.proofs.Common.{length-set, take_all, slice_get_read, AreVisitedMarks}
use Rattle.lfs_mount.proofs.Marks.{one_more, more_found, found_twice}
use Rattle.lfs_mount.proofs.reachability.mark_subdirectories_visited.Goals as goal

pub returns-then-index-clause-twice : goal.returns-then-index-clause-twice
returns-then-index-clause-twice c =
    let branch = get_or c.args.branches.now c.loop-branch.branch-index 0 in
    let here = slice_get_read c.loop-branch.is_found.items _ branch c.index.result.now refl
    (omega (arith, c.requires.within c.loop-branch.branch-index 0 c.loop-branch-test.true, c.loop-branch.invariant.len)) c.index.ensures in
    found_twice c.loop-branch.is_found.items c.args.found.now.items c.args.branches.now c.loop-branch.found.items c.loop-branch.branch-index branch
    c.loop-branch.invariant.marked c.loop-branch.invariant.found c.loop-branch-test.true refl (here ∙ ap Some c.if-index.true)

pub loop-branch-preserved : goal.loop-branch-preserved
loop-branch-preserved c =
    let branch = get_or c.args.branches.now c.loop-branch.branch-index 0 in
    let pushed = c.in_ok-push.ensures.items in
    let here = slice_get_read c.loop-branch.is_found.items _ branch c.index.result.now refl
    (omega (arith, c.requires.within c.loop-branch.branch-index 0 c.loop-branch-test.true, c.loop-branch.invariant.len)) c.index.ensures in
    record {
      found = pushed ∙ more_found c.args.found.now.items c.args.branches.now c.loop-branch.found.items c.loop-branch.branch-index branch c.loop-branch.invariant.found c.loop-branch-test.true refl;
      marked = subst (AreVisitedMarks (set c.loop-branch.is_found.items branch true)) (sym pushed)
          (one_more c.loop-branch.is_found.items c.loop-branch.found.items branch c.loop-branch.invariant.marked (here ∙ ap Some c.if-index.false));
      len = length-set c.loop-branch.is_found.items branch true ∙ c.loop-branch.invariant.len;
    }

pub returns-clause-found : goal.returns-clause-found
returns-clause-found c = λ none.
    let all : take c.loop-branch.branch-index c.args.branches.now ≡ c.args.branches.now = take_all c.loop-branch.branch-index c.args.branches.now (omega arith) in
    record {
      found_is = c.loop-branch.invariant.found ∙ ap (λ bs. c.args.found.now.items ++ bs) all;
      marked = c.loop-branch.invariant.marked;
      len = c.loop-branch.invariant.len;
    }
