-- The result of a look-up, as a finding.
use Rattle.std.proofs.Common.{ℕ, ◌≡◌, ◌<◌, ◌≤◌, ◌+◌, ◌∙◌, Bool, nat_lt, List, [], ◌∷◌, ◌++◌, length, drop, map, Option, Some, None, Ok, Err, option_map, sym, ap, subst, arith}
use Rattle.std.specs.Prelude.{IfOk, IfSome, Result, sum_by}
use Rattle.lfs_lookup.proofs.Common.{length-map, sum_by-append, sum_by-cons, AreByteBlocks, sorted_names, directory_pair_count, ancestor_paths, listed_entries_at, node_file_size, joined_pair_count, Name, parents_refusal, slot_of_path, Gstate, Slot, Struct, Pair, pairs_gstate, count_before_root, Path, names_at, struct_node, directory_names, IsAccepted, disk_list_bytes, all_entries, disk_tree, run_length_is, KeptThread, IsLookupResult, IsStorageOfStruct, IsFoundNode, IsPermutation, AreSortedShorterFirst, NamedStruct, named_struct, AreNamedStructsInLimits, name_and_size, hard_tail_count_from, directory_entries_from, LeadsToPair, IsVisibleLookupResult, IsOnlyMovedSlot}
use Rattle.lfs_device.specs.declared.error.Error.{Error}
use Rattle.lfs_model.proofs.Orders.{length_in_order}
use Rattle.lfs_model.specs.declared.order.NameOrder.TheVariants.{ShorterFirst}
use Rattle.lfs_model.specs.session.Operations as ops
use Rattle.lfs_lookup.specs.AtPath.{FoundInlineFitsTag, node_or_refusal, found_directory_pair_index, has_entries_from}
use Rattle.lfs_lookup.specs.Finds.{has_entry_beneath}
use Rattle.lfs_lookup.specs.declared.entry.FileStorage.{FileStorage}
use Rattle.lfs_lookup.specs.declared.entry.FileStorage.TheVariants as contents
use Rattle.lfs_lookup.specs.declared.found_entries.FoundNode.{FoundNode}
use Rattle.lfs_lookup.specs.declared.found_entries.Node.TheVariants as node
use Rattle.lfs_lookup.specs.declared.paths.VisiblePathLookup.{VisiblePathLookup}
use Rattle.lfs_lookup.specs.declared.paths.VisiblePathLookup.TheVariants as shown
use Rattle.lfs_lookup.specs.declared.search.SlotPosition.{SlotPosition}
use Rattle.lfs_lookup.proofs.AtPaths.{SizedLists, directory_at_path, file_at, finds_directory, finds_nothing, nothing_at, refused_at, refused_none}
use Rattle.lfs_lookup.proofs.ByName.{nothing_moved}
use Rattle.lfs_lookup.proofs.Directories.{own_shapes, within}
use Rattle.lfs_lookup.proofs.ListAtItems.{listed_there, short_there}
use Rattle.lfs_lookup.proofs.Roots.{root_leads}

-- the directory at a path begins with that pair; where there is none, nothing stands beneath the path
abbrev pub IsFirstAt : KeptThread → Path → Option ℕ → Type 0
IsFirstAt t path (Some first) = LeadsToPair t.pairs path first
IsFirstAt t path None = directory_names (disk_tree t.disk t.pairs path) ≡ []

-- the directories above a path, and its own
pub few_own : (f : Path → ℕ) (path : Path) → sum_by f (ancestor_paths path ++ path ∷ []) ≡ sum_by f (ancestor_paths path) + f path
few_own f path = let a = sum_by-append f (ancestor_paths path) (path ∷ []) in let b = sum_by-cons f path [] in omega (arith, a, b)

-- what is shown where that slot counts as deleted which the global state names
pub shows_at : (t : KeptThread) (names path : Path) (g : Gstate) (moved : Option SlotPosition) (r : Result VisiblePathLookup Error) → names ≡ path → g ≡ pairs_gstate t.pairs → IsOnlyMovedSlot g moved 0 t.pairs → IfOk r (IsVisibleLookupResult t moved names) → IfOk r (IsLookupResult t path)
shows_at t names path g moved (Ok x) e is hides shows = record {
  moved = moved;
  hides = subst (λ (z : Gstate). IsOnlyMovedSlot z moved 0 t.pairs) is hides;
  shows = subst (λ p. IsVisibleLookupResult t moved p x) e shows;
}
shows_at t names path g moved (Err x) e is hides shows = tt

-- inline bytes are in the entry
pub in_entry : (t : KeptThread) (path : Path) (s : VisiblePathLookup) → IsLookupResult t path s → FoundInlineFitsTag s
in_entry t path shown.Root h = tt
in_entry t path (shown.Directory spot first) h = tt
in_entry t path (shown.File spot (contents.Inline len)) h = let (fault, (s, (bytes, (is, (l, short))))) = h.shows in short
in_entry t path (shown.File spot (contents.List head size)) h = tt
in_entry t path shown.Nothing h = tt
in_entry t path shown.ParentIsFile h = tt
in_entry t path shown.ParentIsMissing h = tt

module _ (t : KeptThread) (path : Path) (ok : IsAccepted t.disk t.pairs) where
  -- ---- what is found

  found_begun : (first : ℕ) (f : FoundNode) → LeadsToPair t.pairs path first → parents_refusal (disk_tree t.disk t.pairs) [] path ≡ None → f ≡ record { fault = None; node = node.Directory } → IsFoundNode (disk_tree t.disk t.pairs) path f
  found_begun first f on h k =
      let d = directory_at_path t.disk t.pairs path on.at on.leads in
      subst (λ z. IsFoundNode (disk_tree t.disk t.pairs) path z) (sym k) (finds_directory (disk_tree t.disk t.pairs) path d.attributes (sorted_names ShorterFirst (names_at (all_entries t.pairs) on.at)) d.is h)

  pub found_shown : (root : ℕ) (s : VisiblePathLookup) (f : FoundNode) → root ≡ count_before_root t.pairs → SizedLists t.disk → IsLookupResult t path s → f ≡ node_or_refusal s → IsFoundNode (disk_tree t.disk t.pairs) path f
  found_shown root shown.Root f r sized s k =
      found_begun root f (subst (λ (p : Path). LeadsToPair t.pairs p root) (sym s.shows) (root_leads t.disk t.pairs root ok r)) (ap (parents_refusal (disk_tree t.disk t.pairs) []) s.shows) k
  found_shown root (shown.Directory spot first) f r sized s k = found_begun first f s.shows.1.1 s.shows.0 k
  found_shown root (shown.File spot contents) f r sized s k = file_at t path ok s.moved spot contents f s.shows sized k
  found_shown root shown.Nothing f r sized s k =
      subst (λ z. IsFoundNode (disk_tree t.disk t.pairs) path z) (sym k) (finds_nothing (disk_tree t.disk t.pairs) path None (nothing_at t.disk t.pairs path s.shows.1) s.shows.0)
  found_shown root shown.ParentIsFile f r sized s k = refused_at t path ok ops.NotDir f s.shows k
  found_shown root shown.ParentIsMissing f r sized s k = refused_at t path ok ops.NoEnt f s.shows k

  -- ---- the first pair of a directory

  nameless : (x : Slot) (c : FileStorage) → slot_of_path t.pairs path ≡ Some x → IsStorageOfStruct c x.struct → directory_names (disk_tree t.disk t.pairs path) ≡ []
  nameless x (contents.Inline len) e k =
      ap (λ o. directory_names (option_map (λ (f : Slot). struct_node (disk_list_bytes t.disk) (all_entries t.pairs) f.attributes f.struct) o)) e
      ∙ ap (λ (z : Struct). directory_names (Some (struct_node (disk_list_bytes t.disk) (all_entries t.pairs) x.attributes z))) k.1.0
  nameless x (contents.List head size) e k =
      ap (λ o. directory_names (option_map (λ (f : Slot). struct_node (disk_list_bytes t.disk) (all_entries t.pairs) f.attributes f.struct) o)) e
      ∙ ap (λ (z : Struct). directory_names (Some (struct_node (disk_list_bytes t.disk) (all_entries t.pairs) x.attributes z))) k

  first_is : (root : ℕ) (s : VisiblePathLookup) → root ≡ count_before_root t.pairs → IsLookupResult t path s → IsFirstAt t path (found_directory_pair_index root s)
  first_is root shown.Root r s = subst (λ (p : Path). LeadsToPair t.pairs p root) (sym s.shows) (root_leads t.disk t.pairs root ok r)
  first_is root (shown.Directory spot first) r s = s.shows.1.1
  first_is root (shown.File spot contents) r s = let (h, (at, k)) = s.shows in nameless at.stands.stands.slot contents at.slot k
  first_is root shown.Nothing r s = ap directory_names (nothing_at t.disk t.pairs path s.shows.1)
  first_is root shown.ParentIsFile r s = ap directory_names (nothing_at t.disk t.pairs path (refused_none t.disk t.pairs path [] ops.NotDir s.shows))
  first_is root shown.ParentIsMissing r s = ap directory_names (nothing_at t.disk t.pairs path (refused_none t.disk t.pairs path [] ops.NoEnt s.shows))

  pub first_at : (root : ℕ) (s : VisiblePathLookup) (from : Option ℕ) → root ≡ count_before_root t.pairs → IsLookupResult t path s → from ≡ found_directory_pair_index root s → IsFirstAt t path from
  first_at root s from r h e = subst (IsFirstAt t path) (sym e) (first_is root s r h)

  pub first_within : (now : List Pair) (from : Option ℕ) → now ≡ t.pairs → IsFirstAt t path from → IfSome from (λ first. first < length now)
  first_within now None e h = tt
  first_within now (Some first) e on = subst (λ ps. first < length ps) (sym e) (within t.pairs on.at first on.begins)

  -- its pairs are those of the path's directory
  pub few_from : (now : List Pair) (from : Option ℕ) → now ≡ t.pairs → IsFirstAt t path from → hard_tail_count_from now from ≤ directory_pair_count t.pairs path
  few_from now None e h = omega arith
  few_from now (Some first) e on =
      let k = ap (λ ps. joined_pair_count (drop first ps)) e ∙ run_length_is t.disk t.pairs path on.at first ok on.leads on.begins in
      omega (arith, k)

  -- ---- the entry at the path

  pub has_beneath : (now : List Pair) (from : Option ℕ) (has : Bool) → now ≡ t.pairs → IsFirstAt t path from → has ≡ has_entries_from now from → has ≡ has_entry_beneath (disk_tree t.disk t.pairs) path
  has_beneath now None has e h k = k ∙ ap (λ (z : List Name). nat_lt 0 (length z)) (sym h)
  has_beneath now (Some first) has e on k =
      let d = directory_at_path t.disk t.pairs path on.at on.leads in
      k ∙ ap (λ ps. has_entries_from ps (Some first)) e
      ∙ ap (λ (n : ℕ). nat_lt 0 n) (ap length (own_shapes t.disk t.pairs path on.at first ok on.leads on.begins) ∙ length-map (all_entries t.pairs on.at) named_struct ∙ sym (length-map (all_entries t.pairs on.at) (λ (s : Slot). s.name)) ∙ sym (length_in_order ShorterFirst (names_at (all_entries t.pairs) on.at)))
      ∙ ap (λ z. nat_lt 0 (length (directory_names z))) (sym d.is)

  none_by_name : (found shapes : List NamedStruct) → found ≡ [] → AreSortedShorterFirst found shapes → shapes ≡ []
  none_by_name found shapes are by_name = nothing_moved shapes (subst (λ (z : List NamedStruct). IsPermutation z shapes) are by_name.permutation)

  pub short_from : (now : List Pair) (from : Option ℕ) (found shapes : List NamedStruct) → now ≡ t.pairs → IsFirstAt t path from → found ≡ directory_entries_from now from → AreSortedShorterFirst found shapes
      → AreByteBlocks t.disk.blocks → AreNamedStructsInLimits shapes
  short_from now None found shapes e h are by_name bytes = subst AreNamedStructsInLimits (sym (none_by_name found shapes are by_name)) tt
  short_from now (Some first) found shapes e on are by_name bytes = short_there t path ok now first found shapes e on are by_name bytes

  pub listed_from : (now : List Pair) (from : Option ℕ) (found shapes : List NamedStruct) (listed : List ops.ListedEntry) → now ≡ t.pairs → IsFirstAt t path from → found ≡ directory_entries_from now from
      → AreSortedShorterFirst found shapes → SizedLists t.disk → listed ≡ map name_and_size shapes → listed ≡ listed_entries_at (disk_tree t.disk t.pairs) path
  listed_from now None found shapes listed e h are by_name lists k =
      k ∙ ap (map name_and_size) (none_by_name found shapes are by_name)
      ∙ sym (ap (map (λ name. let item : ops.ListedEntry = record { name = name; size = node_file_size (disk_tree t.disk t.pairs (path ++ name ∷ [])) } in item)) h)
  listed_from now (Some first) found shapes listed e on are by_name lists k = listed_there t path ok now first found shapes e on are by_name listed lists k
