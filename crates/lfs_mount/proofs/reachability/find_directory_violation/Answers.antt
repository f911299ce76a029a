use Rattle.std.proofs.Common.{Some, List, Bool, [], true, arith, sym, ◌≡◌, ◌∙◌, refl, subst, slice_get, get_or, map, false, true≢false}
use Rattle.std.specs.Prelude.{All}
use Rattle.lfs_mount.proofs.Common.{length-map, slice_get_within, address_of_array, graph_view, vertex_view}
use Rattle.lfs_mount.proofs.BrokenTrees.{first_at, some_in, no_path_broken}
use Rattle.lfs_mount.proofs.Rooted.{all_right}
use Rattle.lfs_mount.proofs.reachability.find_directory_violation.Goals as goal

pub returns-then-sync-clause-found : goal.returns-then-sync-clause-found
returns-then-sync-clause-found c = λ ps shows.
    all_right ps (graph_view c.args.order c.args.directories.now) (map address_of_array c.args.addresses.now) c.args.sync shows (some_in c.args.order c.args.directories.now c.requires.some) c.in-Ok.is_reached.items c.in-Ok.ensures.reached
    (λ clear. absurd (true≢false (sym c.if-sync.true ∙ clear)))

pub bounds-addresses-place : goal.bounds-addresses-place
bounds-addresses-place c =
    let unmarked = subst (λ (xs : List Bool). slice_get xs c.in-Some.place ≡ Some false) c.deref.ensures.value c.in-Some.ensures.unreached in
    omega (arith, slice_get_within c.in-Ok.is_reached.items c.in-Some.place false unmarked, c.in-Ok.ensures.reached.len, length-map c.args.directories.now (vertex_view c.args.order), c.requires.places)

pub returns-in-Some-clause-found : goal.returns-in-Some-clause-found
returns-in-Some-clause-found c =
    let unmarked = subst (λ (xs : List Bool). slice_get xs c.in-Some.place ≡ Some false) c.deref.ensures.value c.in-Some.ensures.unreached in
    no_path_broken (graph_view c.args.order c.args.directories.now) (map address_of_array c.args.addresses.now) c.args.sync (some_in c.args.order c.args.directories.now c.requires.some) c.in-Ok.is_reached.items c.in-Ok.ensures.reached
    c.in-Some.place (get_or c.args.addresses.now c.in-Some.place []) c.if-sync.false unmarked
    (first_at c.args.addresses.now c.in-Some.place (omega (arith, slice_get_within c.in-Ok.is_reached.items c.in-Some.place false unmarked, c.in-Ok.ensures.reached.len, length-map c.args.directories.now (vertex_view c.args.order), c.requires.places)))

pub returns-clause-found : goal.returns-clause-found
returns-clause-found c = λ ps shows.
    all_right ps (graph_view c.args.order c.args.directories.now) (map address_of_array c.args.addresses.now) c.args.sync shows (some_in c.args.order c.args.directories.now c.requires.some) c.in-Ok.is_reached.items c.in-Ok.ensures.reached
    (λ clear. subst (All (λ b. b ≡ true)) c.deref.ensures.value (c.in-None.ensures.none refl))
