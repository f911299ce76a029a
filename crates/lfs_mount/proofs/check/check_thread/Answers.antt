use Rattle.std.proofs.Common.{ℕ, ◌≡◌, ◌++◌, ◌∷◌, ◌∙◌, ◌<◌, List, Err, Option, Some, None, length, map, refl, sym, ap, subst, subst₂, true}
use Rattle.std.specs.Prelude.{All}
use Rattle.lfs_mount.proofs.Common.{length-map, err_from_is_err_and, disk_with_order, address_of_array, pairs_gstate, disk_of_device, graph_view, IsGraphOfThread, violation_in_order}
use Rattle.lfs_model.specs.declared.violations.Violation.{Violation}
use Rattle.lfs_mount.specs.Directories.{IsDirectoryTreeOrViolation}
use Rattle.lfs_mount.specs.declared.pass.DirectoryPairHeader.{DirectoryPairHeader}
use Rattle.lfs_mount.specs.declared.reachability.Directory.{Directory}
use Rattle.lfs_mount.proofs.Called.{only_read, quiet, same_error}
use Rattle.lfs_mount.proofs.Ending.{known_drawn, checked_accepted, checked_blocks, checked_moved}
use Rattle.lfs_mount.proofs.Within.{members_within, place_of_each, some_directory, within_directories}
use Rattle.lfs_mount.proofs.check.check_thread.Goals as goal

pub returns-in_err-directories-clause-broken : goal.returns-in_err-directories-clause-broken
returns-in_err-directories-clause-broken g c = λ v is order chain p rest known.
    let e = err_from_is_err_and c.from_residual.result c.from_residual.ensures.1 in
    c.in_err-directories.ensures.broken v (ap Err (same_error e.1 e.2 is)) order c.args.sync chain p rest known

pub scan_pairs-requires : goal.scan_pairs-requires
scan_pairs-requires g c =
    subst (λ n. All (λ (m : DirectoryPairHeader). m.active < n) c.args.members.now) (g.met.D.BlockDevice.shape c.args.device.now).count
    (members_within (disk_of_device g.D.BlockDevice c.args.device.now) (pairs_gstate (c.requires.0 ++ c.requires.1 ∷ c.requires.2)) true (c.requires.1 ∷ c.requires.2) c.args.members.now c.requires.3.described)

pub find_directory_violations-requires-clause-some : goal.find_directory_violations-requires-clause-some
find_directory_violations-requires-clause-some g c =
    let disk = disk_of_device g.D.BlockDevice c.args.device.now in
    subst (λ (ds : List Directory). 0 < length ds) (sym c.deref.ensures.value)
    (some_directory disk c.args.map.now c.args.places.now c.args.members.now c.args.sync c.requires disk.order c.in_ok-directories.directories.items c.scan_pairs.new.map (c.in_ok-directories.ensures.taken disk.order))

pub find_directory_violations-requires-clause-within : goal.find_directory_violations-requires-clause-within
find_directory_violations-requires-clause-within g c =
    let disk = disk_of_device g.D.BlockDevice c.args.device.now in
    subst (λ (ds : List Directory). All (λ d. All (λ b. b < length ds) d.branches.items) ds) (sym c.deref.ensures.value)
    (within_directories disk c.args.map.now c.args.places.now c.args.members.now c.args.sync c.requires disk.order c.in_ok-directories.directories.items c.scan_pairs.new.map (c.in_ok-directories.ensures.taken disk.order))

pub find_directory_violations-requires-clause-places : goal.find_directory_violations-requires-clause-places
find_directory_violations-requires-clause-places g c =
    let disk = disk_of_device g.D.BlockDevice c.args.device.now in
    sym (length-map c.addresses.result.now address_of_array) ∙ ap length c.addresses.ensures
    ∙ place_of_each disk c.args.map.now c.args.places.now c.args.members.now c.args.sync c.requires disk.order c.in_ok-directories.directories.items c.scan_pairs.new.map (c.in_ok-directories.ensures.taken disk.order)
    ∙ ap length (sym c.deref.ensures.value)

pub returns-in_err-found-clause-device : goal.returns-in_err-found-clause-device
returns-in_err-found-clause-device g c =
    let e = err_from_is_err_and c.from_residual-in_err-found.result c.from_residual-in_err-found.ensures.1 in
    let scanned = c.in_ok-directories.ensures.reading in
    only_read g.D.BlockDevice scanned.device (quiet g.D.BlockDevice scanned) (λ io. absurd (let none = c.in_err-found.ensures.error in let gives = same_error e.1 e.2 io in cc))

pub returns-clause-ok : goal.returns-clause-ok
returns-clause-ok g c = λ order chain p rest known.
    let disk = disk_with_order order (disk_of_device g.D.BlockDevice c.args.device.now) in
    let graph = graph_view order c.in_ok-directories.directories.items in
    let passes = c.in_ok-directories.ensures.taken order in
    let shows = known_drawn disk c.args.map.now c.args.places.now c.args.members.now c.args.sync chain p rest graph c.scan_pairs.new.map known passes in
    let draws = subst₂ (λ (ds : List Directory) (firsts : List (ℕ × ℕ)). IsGraphOfThread order (graph_view order ds) firsts c.args.sync (chain ++ p ∷ rest)) (sym c.deref.ensures.value) (sym c.addresses.ensures) shows in
    let judged : (o : Option Violation) → violation_in_order order c.in_ok-found.found ≡ o → IsDirectoryTreeOrViolation order (graph_view order c.deref.result.now) (map address_of_array c.addresses.result.now) c.args.sync o =
    λ o is. subst (IsDirectoryTreeOrViolation order (graph_view order c.deref.result.now) (map address_of_array c.addresses.result.now) c.args.sync) is (c.in_ok-found.ensures.found order) in
    record {
      moved = checked_moved disk c.args.map.now c.args.places.now c.args.members.now c.args.sync chain p rest graph c.scan_pairs.new.map known passes;
      marked = λ bytes head. checked_blocks disk c.args.map.now c.args.places.now c.args.members.now c.args.sync chain p rest bytes graph c.scan_pairs.new.map known head passes;
      accepted = λ none bytes head move. checked_accepted disk c.args.map.now c.args.places.now c.args.members.now c.args.sync chain p rest bytes graph c.scan_pairs.new.map known head move passes (judged None none (chain ++ p ∷ rest) draws);
      broken = λ v some. (judged (Some v) some).broken disk (chain ++ p ∷ rest) refl draws;
    }

pub returns-clause-device : goal.returns-clause-device
returns-clause-device g c =
    let scanned = c.in_ok-directories.ensures.reading in
    only_read g.D.BlockDevice scanned.device (quiet g.D.BlockDevice scanned) (λ io. absurd (cc))
