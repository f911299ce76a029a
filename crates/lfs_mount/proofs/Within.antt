-- The list indices in a scan are those of directories.
use Rattle.std.proofs.Common.{ℕ, suc, ◌≡◌, ◌<◌, ◌&&◌, Bool, true, false, cond, List, [], ◌∷◌, ◌++◌, length, Option, Some, None, refl, sym, ap, subst, ◌∙◌, arith, option_map, option_and_then}
use Rattle.std.specs.Prelude.{All}
use Rattle.lfs_mount.proofs.Common.{same_Some, length-map, All-from_recursion, BlockStates, RawSlot, Disk, block_count, Name, Slot, Gstate, same_pair, Pair, ThreadDirectory, directories_with_pair, is_hard_tail, unmoved_entries, pairs_gstate, pairs_from_root, pair_directories, all_directories, Each, each_append, pairs_behind, Vertex, DirectoryGraph, vertex_view, graph_view, address_index, comes_after_name, InSlot, InList, Below, NamedReference, raw_slot_entry, vertex_with_subdirectory, scan_with_entry, empty_scan, scan_after_slots, scan_after_tail, graph_after_tail, ScansPairs, ArePairDescriptions}
use Rattle.lfs_model.specs.declared.order.NameOrder.{NameOrder}
use Rattle.lfs_mount.specs.Checked.{DescribesThread}
use Rattle.lfs_mount.specs.declared.pass.DirectoryPairHeader.{DirectoryPairHeader}
use Rattle.lfs_mount.specs.declared.reachability.Directory.{Directory}
use Rattle.lfs_mount.proofs.Ending.{known_drawn}

abbrev Below_all : ℕ → Vertex → Type 0
Below_all n v = Each (λ b. b < n) v.branches

place_within : (firsts : List (ℕ × ℕ)) (at : ℕ × ℕ) (i : ℕ) → address_index firsts at ≡ Some i → i < length firsts
place_within [] at i e = absurd (cc)
place_within (a ∷ firsts) at i e = go (same_pair a at) (address_index firsts at) e (λ j f. place_within firsts at j f)
  where
    go : (b : Bool) (o : Option ℕ) → cond b (Some 0) (option_map (λ j. suc j) o) ≡ Some i → ((j : ℕ) → o ≡ Some j → j < length firsts) → i < suc (length firsts)
    go true o g next = let h = same_Some 0 i g in omega arith
    go false None g next = absurd (cc)
    go false (Some j) g next = let h = same_Some (suc j) i g in let k = next j refl in omega arith

branch_within : (firsts : List (ℕ × ℕ)) (v : Vertex) (to : ℕ × ℕ) → Below_all (length firsts) v → Below_all (length firsts) (vertex_with_subdirectory v (address_index firsts to))
branch_within firsts v to h = go (address_index firsts to) refl
  where
    go : (o : Option ℕ) → address_index firsts to ≡ o → Below_all (length firsts) (vertex_with_subdirectory v o)
    go None e = h
    go (Some i) e = each_append (λ b. b < length firsts) v.branches (i ∷ []) h (place_within firsts to i e, tt)

entry_within : (by : NameOrder) (firsts : List (ℕ × ℕ)) (known : Name × Vertex) (e : NamedReference) → Below_all (length firsts) known.1 → Below_all (length firsts) (scan_with_entry by firsts known e).1
entry_within by firsts (last, v) (name, InSlot) h = h
entry_within by firsts (last, v) (name, InList head size) h = h
entry_within by firsts (last, v) (name, Below to) h = branch_within firsts (record v { rises = v.rises && comes_after_name by last name }) to h

parts_of : {X : Type 0} (f : NamedReference → Option X) (y : X) (o : Option NamedReference) → option_and_then f o ≡ Some y → (x : NamedReference) × (f x ≡ Some y)
parts_of f y None e = absurd (cc)
parts_of f y (Some x) e = (x, e)

scan_within : (by : NameOrder) (firsts : List (ℕ × ℕ)) (known new : Name × Vertex) (raws : List RawSlot) → scan_after_slots by firsts known raws ≡ Some new → Below_all (length firsts) known.1 → Below_all (length firsts) new.1
scan_within by firsts known new [] e h = subst (λ (k : Name × Vertex). Below_all (length firsts) k.1) (same_Some known new e) h
scan_within by firsts known new (r ∷ raws) e h =
    let x = parts_of (λ y. scan_after_slots by firsts (scan_with_entry by firsts known y) raws) new (raw_slot_entry r) e in
    scan_within by firsts (scan_with_entry by firsts known x.0) new raws x.1 (entry_within by firsts known x.0 h)

hand_within : (n : ℕ) (hard : Bool) (new : Name × Vertex) → Below_all n new.1 → Below_all n (scan_after_tail hard new).1
hand_within n true new h = h
hand_within n false new h = tt

ended_within : (n : ℕ) (hard : Bool) (new : Name × Vertex) (rest : DirectoryGraph) → Below_all n new.1 → Each (Below_all n) rest → Each (Below_all n) (graph_after_tail hard new rest)
ended_within n true new rest h k = k
ended_within n false new rest h k = (h, k)

passes_within : (disk : Disk) (firsts : List (ℕ × ℕ)) (known : Name × Vertex) (sets : BlockStates) (ms : List DirectoryPairHeader) (graph : DirectoryGraph) (end : BlockStates) → ScansPairs disk firsts known sets ms graph end
    → Below_all (length firsts) known.1 → Each (Below_all (length firsts)) graph
passes_within disk firsts known sets [] graph end (e, f) h = subst (Each (Below_all (length firsts))) (sym e) tt
passes_within disk firsts known sets (m ∷ ms) graph end (new, mid, rest, (takes, (e, more))) h =
    let k = scan_within disk.order firsts known new takes.entries takes.scan h in
    subst (Each (Below_all (length firsts))) (sym e)
    (ended_within (length firsts) m.is_hard new rest k (passes_within disk firsts (scan_after_tail m.is_hard new) mid ms rest end more (hand_within (length firsts) m.is_hard new k)))

-- ---- the directories of the code

each_within : (by : NameOrder) (n : ℕ) (ds : List Directory) → Each (Below_all n) (graph_view by ds) → Each (λ (d : Directory). All (λ b. b < n) d.branches.items) ds
each_within by n [] h = tt
each_within by n (d ∷ ds) h = (All-from_recursion (λ b. b < n) d.branches.items h.0, each_within by n ds h.1)

some_joined : (at : ℕ × ℕ) (hard : Bool) (slots : List Slot) (ds : List ThreadDirectory) → 0 < length (directories_with_pair at hard slots ds)
some_joined at hard slots [] = omega arith
some_joined at true slots (d ∷ ds) = omega arith
some_joined at false slots (d ∷ ds) = omega arith

module _ (disk : Disk) (sets : BlockStates) (firsts : List (ℕ × ℕ)) (ms : List DirectoryPairHeader) (sync : Bool) (known : DescribesThread disk sets firsts ms sync) (by : NameOrder) (ds : List Directory) (end : BlockStates)
    (passes : ScansPairs disk firsts empty_scan sets ms (graph_view by ds) end) where
  abbrev ps : List Pair
  ps = known.0 ++ known.1 ∷ known.2

  same_length : (length ds ≡ length (all_directories ps)) × (length firsts ≡ length (all_directories ps))
  same_length = (
    sym (length-map ds (vertex_view by)) ∙ (known_drawn disk sets firsts ms sync known.0 known.1 known.2 (graph_view by ds) end known.3 passes).draws.len,
    ap length known.3.places ∙ length-map (all_directories ps) (λ (d : ThreadDirectory). d.at),
  )

  pub place_of_each : length firsts ≡ length ds
  place_of_each = same_length.1 ∙ sym same_length.0

  pub some_directory : 0 < length ds
  some_directory =
      let e : pairs_from_root ps ≡ known.1 ∷ known.2 = pairs_behind known.0 (known.1 ∷ known.2) known.3.chain_is in
      let lt : 0 < length (pair_directories (pairs_gstate ps) (known.1 ∷ known.2)) =
      some_joined known.1.at (is_hard_tail known.1.content.tail) (unmoved_entries (pairs_gstate ps) known.1) (pair_directories (pairs_gstate ps) known.2) in
      let l = ap (λ qs. length (pair_directories (pairs_gstate ps) qs)) e in
      let s = same_length.0 in
      omega arith

  pub within_directories : All (λ (d : Directory). All (λ b. b < length ds) d.branches.items) ds
  within_directories =
      All-from_recursion (λ (d : Directory). All (λ b. b < length ds) d.branches.items) ds
      (each_within by (length ds) ds (subst (λ n. Each (Below_all n) (graph_view by ds)) place_of_each (passes_within disk firsts empty_scan sets ms (graph_view by ds) end passes tt)))

-- ---- the blocks that hold are on the device

each_member : (disk : Disk) (g : Gstate) (is_first : Bool) (qs : List Pair) (ms : List DirectoryPairHeader) → ArePairDescriptions disk g is_first qs ms → Each (λ (m : DirectoryPairHeader). m.active < block_count disk) ms
each_member disk g is_first [] [] h = tt
each_member disk g is_first [] (m ∷ ms) h = absurd h
each_member disk g is_first (p ∷ qs) [] h = absurd h
each_member disk g is_first (p ∷ qs) (m ∷ ms) h = (h.0.within, each_member disk g false qs ms h.1)

pub members_within : (disk : Disk) (g : Gstate) (is_first : Bool) (qs : List Pair) (ms : List DirectoryPairHeader) → ArePairDescriptions disk g is_first qs ms → All (λ (m : DirectoryPairHeader). m.active < block_count disk) ms
members_within disk g is_first qs ms h = All-from_recursion (λ (m : DirectoryPairHeader). m.active < block_count disk) ms (each_member disk g is_first qs ms h)
