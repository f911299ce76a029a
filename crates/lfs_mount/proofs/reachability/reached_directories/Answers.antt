use Rattle.std.proofs.Common.{Result, Ok, Err, None, arith, ap, sym, ◌≡◌, ◌<◌, ◌∙◌, refl, true, false, subst, length, set, slice_get, get_or, ◌++◌, ◌∷◌, [], length-append, nat_eq, map}
use Rattle.std.specs.Prelude.{All, IfSome}
use Rattle.std.specs.List.{IsDistinct}
use Rattle.lfs_mount.proofs.Common.{length-set, length-replicate, length-map, and_from, slice_get_read, address_of_array, BreaksGraphRule, graph_view, vertex_view, AreVisitedMarks, OccursTwice}
use Rattle.lfs_model.specs.declared.violations.Violation.{Violation}
use Rattle.lfs_thread.specs.declared.mount_error.MountError.{MountError}
use Rattle.lfs_thread.specs.declared.mount_error.MountError.TheVariants.{Corrupt}
use Rattle.lfs_mount.proofs.BrokenTrees.{first_at, some_in, names_broken, branch_broken, paths_broken}
use Rattle.lfs_mount.proofs.Marks.{first_marked, marked_within, few_marked, sound_of, vertex_at, branches_found, next_sound, nothing_left, branches_within}
use Rattle.lfs_mount.proofs.reachability.reached_directories.Goals as goal

same_violation : {T : Type 0} {a b : Violation} → ◌≡◌ {A = Result T MountError} (Err (Corrupt a)) (Err (Corrupt b)) → a ≡ b
same_violation e = cc

pub loop-next-init : goal.loop-next-init
loop-next-init c =
    let none = c.in_ok-is_found.ensures.items_if_clones_equal (λ y e. e) in
    let pushed = c.in_ok-push.ensures.items in
    let empty = c.new-found.ensures.items in
    let found = pushed ∙ ap (λ xs. xs ++ 0 ∷ []) empty in
    record {
      found = found;
      marked = subst (AreVisitedMarks (set c.in_ok-is_found.is_found.items 0 true)) (sym found) (first_marked c.in_ok-is_found.is_found.items (length c.args.directories.now) none c.requires.some);
      len = length-set c.in_ok-is_found.is_found.items 0 true ∙ ap length none ∙ length-replicate (length c.args.directories.now) false;
      sound = λ j u lt. absurd (omega arith);
      passed = omega arith;
    }

pub bounds-directories-place : goal.bounds-directories-place
bounds-directories-place c =
    let at = slice_get_read c.loop-next.found.items _ c.loop-next.next c.index.result.now refl (omega arith) c.index.ensures in
    omega (arith, marked_within c.loop-next.is_found.items c.loop-next.found.items c.loop-next.invariant.marked c.loop-next.next c.index.result.now at, c.loop-next.invariant.len)

pub bounds-addresses-place : goal.bounds-addresses-place
bounds-addresses-place c =
    let at = slice_get_read c.loop-next.found.items _ c.loop-next.next c.index.result.now refl (omega arith) c.index.ensures in
    omega (arith, marked_within c.loop-next.is_found.items c.loop-next.found.items c.loop-next.invariant.marked c.loop-next.next c.index.result.now at, c.loop-next.invariant.len, c.requires.places)

pub returns-then-not-contains-clause-broken : goal.returns-then-not-contains-clause-broken
returns-then-not-contains-clause-broken c = λ v sync is.
    let at = slice_get_read c.loop-next.found.items _ c.loop-next.next c.index.result.now refl (omega arith) c.index.ensures in
    let within = marked_within c.loop-next.is_found.items c.loop-next.found.items c.loop-next.invariant.marked c.loop-next.next c.index.result.now at in
    let lt : c.index.result.now < length c.args.directories.now = omega (arith, within, c.loop-next.invariant.len) in
    let here = slice_get_read c.args.directories.now _ c.index.result.now c.index-directories-place.result refl lt c.index-directories-place.is in
    subst (BreaksGraphRule c.args.order (graph_view c.args.order c.args.directories.now) (map address_of_array c.args.addresses.now) sync) (same_violation is)
    (names_broken (graph_view c.args.order c.args.directories.now) (map address_of_array c.args.addresses.now) sync (some_in c.args.order c.args.directories.now c.requires.some) c.loop-next.next c.index.result.now
    (vertex_view c.args.order c.index-directories-place.result) (get_or c.args.addresses.now c.index.result.now []) c.loop-next.invariant.sound
    (ap (λ xs. slice_get xs c.loop-next.next) (sym c.loop-next.invariant.found) ∙ at) (vertex_at c.args.order c.args.directories.now c.index.result.now c.index-directories-place.result here)
    (sym c.contains.ensures ∙ c.if-not-contains.true) (first_at c.args.addresses.now c.index.result.now (omega (arith, lt, c.requires.places))))

pub returns-then-not-directory-clause-broken : goal.returns-then-not-directory-clause-broken
returns-then-not-directory-clause-broken c = λ v sync is.
    let at = slice_get_read c.loop-next.found.items _ c.loop-next.next c.index.result.now refl (omega arith) c.index.ensures in
    let within = marked_within c.loop-next.is_found.items c.loop-next.found.items c.loop-next.invariant.marked c.loop-next.next c.index.result.now at in
    let lt : c.index.result.now < length c.args.directories.now = omega (arith, within, c.loop-next.invariant.len) in
    let here = slice_get_read c.args.directories.now _ c.index.result.now c.index-directories-place.result refl lt c.index-directories-place.is in
    subst (BreaksGraphRule c.args.order (graph_view c.args.order c.args.directories.now) (map address_of_array c.args.addresses.now) sync) (same_violation is)
    (branch_broken (graph_view c.args.order c.args.directories.now) (map address_of_array c.args.addresses.now) sync (some_in c.args.order c.args.directories.now c.requires.some) c.loop-next.next c.index.result.now
    (vertex_view c.args.order c.index-directories-place.result) (get_or c.args.addresses.now c.index.result.now []) c.loop-next.invariant.sound
    (ap (λ xs. slice_get xs c.loop-next.next) (sym c.loop-next.invariant.found) ∙ at) (vertex_at c.args.order c.args.directories.now c.index.result.now c.index-directories-place.result here)
    (sym c.contains.ensures ∙ c.if-not-contains.false) c.if-not-directory.true (first_at c.args.addresses.now c.index.result.now (omega (arith, lt, c.requires.places))))

pub mark_subdirectories_visited-requires-clause-within : goal.mark_subdirectories_visited-requires-clause-within
mark_subdirectories_visited-requires-clause-within c =
    let at = slice_get_read c.loop-next.found.items _ c.loop-next.next c.index.result.now refl (omega arith) c.index.ensures in
    let within = marked_within c.loop-next.is_found.items c.loop-next.found.items c.loop-next.invariant.marked c.loop-next.next c.index.result.now at in
    let lt : c.index.result.now < length c.args.directories.now = omega (arith, within, c.loop-next.invariant.len) in
    let here = slice_get_read c.args.directories.now _ c.index.result.now c.index-directories-place.result refl lt c.index-directories-place.is in
    subst (All (λ b. b < length c.loop-next.is_found.items)) (sym c.deref.ensures.value)
    (subst (λ n. All (λ b. b < n) c.index-directories-place.result.branches.items) (sym c.loop-next.invariant.len)
    (branches_within c.args.directories.now (length c.args.directories.now) c.index.result.now c.index-directories-place.result c.requires.within here))

pub bounds-addresses-branch : goal.bounds-addresses-branch
bounds-addresses-branch c =
    let below = subst (λ o. IfSome o (λ b. b < length c.loop-next.is_found.items)) c.in-Some.is c.in_ok-branch.ensures.within in
    omega (arith, below, c.loop-next.invariant.len, c.requires.places)

pub returns-in-Some-clause-broken : goal.returns-in-Some-clause-broken
returns-in-Some-clause-broken c = λ v sync is.
    let at = slice_get_read c.loop-next.found.items _ c.loop-next.next c.index.result.now refl (omega arith) c.index.ensures in
    let within = marked_within c.loop-next.is_found.items c.loop-next.found.items c.loop-next.invariant.marked c.loop-next.next c.index.result.now at in
    let lt : c.index.result.now < length c.args.directories.now = omega (arith, within, c.loop-next.invariant.len) in
    let here = slice_get_read c.args.directories.now _ c.index.result.now c.index-directories-place.result refl lt c.index-directories-place.is in
    let below = subst (λ o. IfSome o (λ b. b < length c.loop-next.is_found.items)) c.in-Some.is c.in_ok-branch.ensures.within in
    let twice = subst (λ o. IfSome o (OccursTwice (c.loop-next.found.items ++ c.deref.result.now))) c.in-Some.is c.in_ok-branch.ensures.twice in
    let next = ap (λ xs. c.loop-next.found.items ++ xs) c.deref.ensures.value
    ∙ branches_found c.args.order c.args.directories.now c.loop-next.found.items c.loop-next.next c.index.result.now c.index-directories-place.result c.loop-next.invariant.found at here in
    let sound = sound_of c.args.order c.args.directories.now c.index.result.now c.index-directories-place.result here ∙ and_from _ _ (sym c.contains.ensures ∙ c.if-not-contains.false) c.if-not-directory.false in
    subst (BreaksGraphRule c.args.order (graph_view c.args.order c.args.directories.now) (map address_of_array c.args.addresses.now) sync) (same_violation is)
    (paths_broken (graph_view c.args.order c.args.directories.now) (map address_of_array c.args.addresses.now) sync (some_in c.args.order c.args.directories.now c.requires.some) c.loop-next.next c.in-Some.branch
    (get_or c.args.addresses.now c.in-Some.branch [])
    (next_sound (graph_view c.args.order c.args.directories.now) c.loop-next.next c.index.result.now (ap (λ xs. slice_get xs c.loop-next.next) (sym c.loop-next.invariant.found) ∙ at) c.loop-next.invariant.sound sound)
    (subst (IsDistinct nat_eq) c.loop-next.invariant.found c.loop-next.invariant.marked.distinct) (subst (λ xs. OccursTwice xs c.in-Some.branch) next twice)
    (first_at c.args.addresses.now c.in-Some.branch (omega (arith, below, c.loop-next.invariant.len, c.requires.places))))

pub loop-next-smaller : goal.loop-next-smaller
loop-next-smaller c = omega (arith, few_marked c.loop-next.is_found.items c.loop-next.found.items c.loop-next.invariant.marked, c.loop-next.invariant.len)

pub loop-next-preserved : goal.loop-next-preserved
loop-next-preserved c =
    let at = slice_get_read c.loop-next.found.items _ c.loop-next.next c.index.result.now refl (omega arith) c.index.ensures in
    let within = marked_within c.loop-next.is_found.items c.loop-next.found.items c.loop-next.invariant.marked c.loop-next.next c.index.result.now at in
    let lt : c.index.result.now < length c.args.directories.now = omega (arith, within, c.loop-next.invariant.len) in
    let here = slice_get_read c.args.directories.now _ c.index.result.now c.index-directories-place.result refl lt c.index-directories-place.is in
    let none : Ok c.in_ok-branch.field-0 ≡ Ok None = ap Ok c.in_default.is in
    let new = c.in_ok-branch.ensures.found none in
    let joined = new.found_is ∙ ap (λ xs. c.loop-next.found.items ++ xs) c.deref.ensures.value in
    let sound = sound_of c.args.order c.args.directories.now c.index.result.now c.index-directories-place.result here ∙ and_from _ _ (sym c.contains.ensures ∙ c.if-not-contains.false) c.if-not-directory.false in
    record {
      found = joined ∙ branches_found c.args.order c.args.directories.now c.loop-next.found.items c.loop-next.next c.index.result.now c.index-directories-place.result c.loop-next.invariant.found at here;
      marked = new.marked;
      len = new.len ∙ c.loop-next.invariant.len;
      sound = next_sound (graph_view c.args.order c.args.directories.now) c.loop-next.next c.index.result.now (ap (λ xs. slice_get xs c.loop-next.next) (sym c.loop-next.invariant.found) ∙ at) c.loop-next.invariant.sound sound;
      passed = omega (arith, ap length joined, length-append c.loop-next.found.items c.index-directories-place.result.branches.items);
    }

pub returns-clause-reached : goal.returns-clause-reached
returns-clause-reached c = record {
  steps = c.loop-next.next;
  finished = nothing_left (graph_view c.args.order c.args.directories.now) c.loop-next.is_found.items c.loop-next.found.items c.loop-next.next c.loop-next.invariant.found (omega arith) c.loop-next.invariant.marked c.loop-next.invariant.sound;
  marked = subst (AreVisitedMarks c.loop-next.is_found.items) c.loop-next.invariant.found c.loop-next.invariant.marked;
  len = c.loop-next.invariant.len ∙ sym (length-map c.args.directories.now (vertex_view c.args.order));
}
