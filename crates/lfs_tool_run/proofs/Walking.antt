-- The entries that were read are a walk of the source's tree, so their operations carry it over.
use Rattle.std.proofs.Common.{ℕ, ◌≡◌, ◌∙◌, ◌++◌, ◌⊎◌, inl, inr, Bool, true, false, List, [], ◌∷◌, map, Option, Some, None, refl, sym, ap, ap₂, subst, append-nil, flat_map, option_and_then}
use Rattle.std.specs.Prelude.{Contains}
use Rattle.lfs_tool_run.proofs.Common.{IsPermutation, All-contains, All-contains_itself, All-from_recursion, recursion_from_All, Contains-permutation, IsPermutation-map, IsPermutation-sym, empty_tree, node_copy_operations, Name, name_cmp, Operation, path_bytes, AFile, AFolder, IsSourceTree, IsSourceNode, TreeSource, is_named_folder, source_names, path_in_folder, node_at, Path, Node, FileNode, DirectoryNode, Tree, Each, each_weaker, greater, append_step, AreSourceEntries, AreDepthFirst, AreSortedFolderNames, HasSourceContents, PathAndKind, paths_in_folder, optional_bytes_view, node_of_optional_bytes, entry_operations, entries_operations}
use Rattle.std.specs.declared.cmp.Ordering.TheVariants.{Less}
use Rattle.lfs_model.specs.declared.order.NameOrder.TheVariants.{ShorterFirst}
use Rattle.lfs_model.specs.session.TreeEdits as apply
use Rattle.lfs_model.specs.layers.Listing as listing
use Rattle.lfs_model.specs.layers.Listing.{IsDepthFirst, entry_paths}
use Rattle.lfs_tool.specs.declared.entries.SourceEntry.{SourceEntry}
use Rattle.lfs_tool_run.specs.MadeImages.{AreSourceCopyOperations}
use Rattle.lfs_tool_run.proofs.Growing.{beneath, carried_tree, tree_after}
use Rattle.lfs_tool_run.proofs.NamesGiven.{Rising, each_found, kind_moved, less_unlike, rising_from}
use Rattle.lfs_tool_run.proofs.PathPlaces.{path_more}

-- ---- names in order are known by which they are

abbrev Among : Name → List Name → Type 0
Among m [] = ⊥
Among m (n ∷ ns) = (m ≡ n) ⊎ Among m ns

among_each : (ns : List Name) → Each (λ m. Among m ns) ns
among_each [] = tt
among_each (n ∷ ns) = (inl refl, each_weaker (λ m. Among m ns) (λ m. Among m (n ∷ ns)) (λ m h. inr h) ns (among_each ns))

from_each : (P : Name → Type 0) (ns : List Name) (m : Name) → Each P ns → Among m ns → P m
from_each P [] m h a = absurd a
from_each P (n ∷ ns) m h (inl e) = subst P (sym e) h.0
from_each P (n ∷ ns) m h (inr a) = from_each P ns m h.1 a

among_moved : (xs ys : List Name) → IsPermutation xs ys → (m : Name) → Among m xs → Among m ys
among_moved xs ys moved m a =
    let c : Contains xs m = from_each (Contains xs) xs m (recursion_from_All (Contains xs) xs (All-contains_itself xs)) a in
    All-contains (λ n. Among n ys) ys m (All-from_recursion (λ n. Among n ys) ys (among_each ys)) (Contains-permutation xs ys m moved c)

-- the first is the same: else each would come before the other
first_same : (x y : Name) (xs ys : List Name) → Rising (x ∷ xs) → Rising (y ∷ ys) → Among x (y ∷ ys) → Among y (x ∷ xs) → x ≡ y
first_same x y xs ys r s (inl e) b = e
first_same x y xs ys r s (inr a) (inl e) = sym e
first_same x y xs ys r s (inr a) (inr b) = absurd (less_both x y (from_each (λ m. name_cmp ShorterFirst x m ≡ Less) xs y r.0 b) (from_each (λ m. name_cmp ShorterFirst y m ≡ Less) ys x s.0 a))
  where
    less_both : (a b : Name) → name_cmp ShorterFirst a b ≡ Less → name_cmp ShorterFirst b a ≡ Less → ⊥
    less_both a b e f = let g = sym f ∙ greater ShorterFirst a b e in absurd (cc)

later : (x : Name) (xs ys : List Name) → Each (λ m. name_cmp ShorterFirst x m ≡ Less) xs → ((m : Name) → Among m (x ∷ xs) → Among m (x ∷ ys)) → (m : Name) → Among m xs → Among m ys
later x xs ys r h m a = go (h m (inr a))
  where
    go : Among m (x ∷ ys) → Among m ys
    go (inl e) = absurd (less_unlike x m (from_each (λ n. name_cmp ShorterFirst x n ≡ Less) xs m r a) (sym e))
    go (inr b) = b

same_rising : (xs ys : List Name) → Rising xs → Rising ys → ((m : Name) → Among m xs → Among m ys) → ((m : Name) → Among m ys → Among m xs) → xs ≡ ys
same_rising [] [] r s h k = refl
same_rising [] (y ∷ ys) r s h k = absurd (k y (inl refl))
same_rising (x ∷ xs) [] r s h k = absurd (h x (inl refl))
same_rising (x ∷ xs) (y ∷ ys) r s h k =
    let e : x ≡ y = first_same x y xs ys r s (h x (inl refl)) (k y (inl refl)) in
    ap₂ (λ z zs. z ∷ zs) e (same_rising xs ys r.1 s.1
    (later x xs ys r.0 (λ m a. subst (λ z. Among m (z ∷ ys)) (sym e) (h m a)))
    (later x ys xs (subst (λ z. Each (λ m. name_cmp ShorterFirst z m ≡ Less) ys) (sym e) s.0) (λ m a. k m (subst (λ z. Among m (z ∷ ys)) e a))))

-- ---- places and their paths

-- what stands at the path is what stands at the place
record Stands (s : TreeSource) (q : Path) (p : PathAndKind) : Type 0 where
  bytes : path_bytes q ≡ p.0
  leads : (rest : Path) → node_at s [] (q ++ rest) ≡ beneath s p.0 rest p.1

abbrev AllStand : TreeSource → List Path → List PathAndKind → Type 0
AllStand s [] [] = Unit {0}
AllStand s [] (p ∷ ps) = ⊥
AllStand s (q ∷ qs) [] = ⊥
AllStand s (q ∷ qs) (p ∷ ps) = Stands s q p × AllStand s qs ps

stand_append : (s : TreeSource) (qs rs : List Path) (ps os : List PathAndKind) → AllStand s qs ps → AllStand s rs os → AllStand s (qs ++ rs) (ps ++ os)
stand_append s [] rs [] os h k = k
stand_append s [] rs (p ∷ ps) os h k = absurd h
stand_append s (q ∷ qs) rs [] os h k = absurd h
stand_append s (q ∷ qs) rs (p ∷ ps) os h k = (h.0, stand_append s qs rs ps os h.1 k)

below_stand : (s : TreeSource) (q : Path) (folder : List ℕ) (given : List (Name × Bool)) → path_bytes q ≡ folder → ((rest : Path) → node_at s [] (q ++ rest) ≡ node_at s folder rest)
    → Each (λ g. is_named_folder g.0 (s.names folder) ≡ Some g.1) given → AllStand s (map (λ n. q ++ n ∷ []) (source_names given)) (paths_in_folder folder given)
below_stand s q folder [] at leads kinds = tt
below_stand s q folder (g ∷ given) at leads kinds = (
  record {
    bytes = path_more q g.0 ∙ ap (λ f. path_in_folder f g.0) at;
    leads = λ rest. ap (node_at s []) (append_step q g.0 rest) ∙ leads (g.0 ∷ rest) ∙ ap (option_and_then (beneath s (path_in_folder folder g.0) rest)) kinds.0;
  },
  below_stand s q folder given at leads kinds.1,
)

kinds_within : (s : TreeSource) (folder : List ℕ) (within : List (Name × Bool)) → AreSortedFolderNames (Some s) folder within → Each (λ g. is_named_folder g.0 (s.names folder) ≡ Some g.1) within
kinds_within s folder within w =
    let rising = rising_from (source_names within) w.order.rise in
    each_weaker (λ (g : Name × Bool). is_named_folder g.0 within ≡ Some g.1) (λ (g : Name × Bool). is_named_folder g.0 (s.names folder) ≡ Some g.1)
    (λ g e. kind_moved (s.names folder) within w.names rising g.0 ∙ e) within (each_found within rising)

-- ---- the walk

record IsWalked (tree : Tree) (qs : List Path) (es : List SourceEntry) : Type 0 where
  entries : List listing.PathNode
  walk : IsDepthFirst tree qs entries
  same : flat_map entry_operations es ≡ flat_map listing.entry_copy_operations entries

-- what the tree has at a place, and the operations that bring it
record IsMet (s : TreeSource) (tree : Tree) (q : Path) (p : PathAndKind) (o : Option (List ℕ)) (within : List (Name × Bool)) : Type 0 where
  node : Node
  there : tree q ≡ Some node
  operations : node_copy_operations p.0 (node_of_optional_bytes o) ≡ node_copy_operations (path_bytes q) node
  below : AllStand s (entry_paths tree q) (paths_in_folder p.0 within)

met_file : (s : TreeSource) (tree : Tree) (q : Path) (folder : List ℕ) (bytes : List ℕ) (within : List (Name × Bool)) (o : Option Node) → tree q ≡ o → path_bytes q ≡ folder → bytes ≡ s.bytes folder → within ≡ []
    → IsSourceNode (Some (AFile (s.bytes folder))) o → IsMet s tree q (folder, false) (Some bytes) within
met_file s tree q folder bytes within None e at is none h = absurd h
met_file s tree q folder bytes within (Some (FileNode attributes shown)) e at is none h = record {
  node = FileNode attributes shown;
  there = e;
  operations = ap₂ (λ f xs. node_copy_operations f (FileNode [] xs)) (sym at) (is ∙ sym h.1);
  below = subst (λ (ps : List PathAndKind). AllStand s (entry_paths tree q) ps) (ap (paths_in_folder folder) (sym none)) (subst (λ (u : Option Node). AllStand s (map (λ name. q ++ name ∷ []) (apply.directory_names u)) []) (sym e) tt);
}
met_file s tree q folder bytes within (Some (DirectoryNode attributes shown)) e at is none h = absurd h

met_folder : (s : TreeSource) (tree : Tree) (q : Path) (folder : List ℕ) (within : List (Name × Bool)) (o : Option Node) → tree q ≡ o → path_bytes q ≡ folder → ((rest : Path) → node_at s [] (q ++ rest) ≡ node_at s folder rest)
    → AreSortedFolderNames (Some s) folder within → IsSourceNode (Some (AFolder (source_names (s.names folder)))) o → IsMet s tree q (folder, true) None within
met_folder s tree q folder within None e at leads w h = absurd h
met_folder s tree q folder within (Some (FileNode attributes shown)) e at leads w h = absurd h
met_folder s tree q folder within (Some (DirectoryNode attributes shown)) e at leads w h =
    let moved : IsPermutation (source_names (s.names folder)) (source_names within) = IsPermutation-map (λ (g : Name × Bool). g.0) (s.names folder) within w.names in
    let same : shown ≡ source_names within = same_rising shown (source_names within) (rising_from shown h.2) (rising_from (source_names within) w.order.rise)
    (λ m a. among_moved (source_names (s.names folder)) (source_names within) moved m (among_moved shown (source_names (s.names folder)) (IsPermutation-sym (source_names (s.names folder)) shown h.1) m a))
    (λ m a. among_moved (source_names (s.names folder)) shown h.1 m (among_moved (source_names within) (source_names (s.names folder)) (IsPermutation-sym (source_names (s.names folder)) (source_names within) moved) m a)) in
    record {
      node = DirectoryNode attributes shown;
      there = e;
      operations = ap (λ f. node_copy_operations f (DirectoryNode [] [])) (sym at);
      below = subst (λ (u : Option Node). AllStand s (map (λ name. q ++ name ∷ []) (apply.directory_names u)) (paths_in_folder folder within)) (sym e)
          (subst (λ ns. AllStand s (map (λ name. q ++ name ∷ []) ns) (paths_in_folder folder within)) (sym same) (below_stand s q folder within at leads (kinds_within s folder within w)));
    }

met : (s : TreeSource) (tree : Tree) (q : Path) (folder : List ℕ) (k : Bool) (o : Option (List ℕ)) (within : List (Name × Bool)) → IsSourceTree s tree → Stands s q (folder, k) → HasSourceContents (Some s) folder k o within
    → IsMet s tree q (folder, k) o within
met s tree q folder false None within shows stands holds = absurd holds
met s tree q folder false (Some bytes) within shows stands holds =
    met_file s tree q folder bytes within (tree q) refl stands.bytes holds.0 holds.1 (subst (λ x. IsSourceNode x (tree q)) (ap (node_at s []) (sym (append-nil q)) ∙ stands.leads []) (shows q))
met s tree q folder true None within shows stands holds =
    met_folder s tree q folder within (tree q) refl stands.bytes stands.leads holds (subst (λ x. IsSourceNode x (tree q)) (ap (node_at s []) (sym (append-nil q)) ∙ stands.leads []) (shows q))
met s tree q folder true (Some bytes) within shows stands holds = absurd holds

walked : (s : TreeSource) (tree : Tree) → IsSourceTree s tree → (es : List SourceEntry) (qs : List Path) (ps : List PathAndKind) → AllStand s qs ps → AreDepthFirst (Some s) ps es → IsWalked tree qs es
walked s tree shows [] [] [] h read = record { entries = []; walk = tt; same = refl }
walked s tree shows [] (q ∷ qs) [] h read = absurd h
walked s tree shows [] qs (p ∷ ps) h read = absurd read
walked s tree shows (e ∷ es) qs [] h read = absurd read
walked s tree shows (e ∷ es) [] (p ∷ ps) h read = absurd h
walked s tree shows (e ∷ es) (q ∷ qs) (p ∷ ps) h (path, (within, (holds, rest))) =
    let m = met s tree q p.0 p.1 (optional_bytes_view e.bytes) within shows h.0 holds in
    let w = walked s tree shows es (entry_paths tree q ++ qs) (paths_in_folder p.0 within ++ ps) (stand_append s (entry_paths tree q) qs (paths_in_folder p.0 within) ps m.below h.1) rest in
    record {
      entries = record { path = q; node = m.node } ∷ w.entries;
      walk = (refl, m.there, w.walk);
      same = ap₂ (λ (xs ys : List Operation). xs ++ ys) (ap (λ f. node_copy_operations f (node_of_optional_bytes (optional_bytes_view e.bytes))) path ∙ m.operations) w.same;
    }

pub carry_over : (known : Option TreeSource) (es : List SourceEntry) → AreSourceEntries known es → AreSourceCopyOperations known (entries_operations es)
carry_over None es all = tt
carry_over (Some s) es (top, (w, read)) =
    let whole = carried_tree s es (top, (w, read)) in
    let tree = tree_after es empty_tree in
    let m = met s tree [] [] true None top whole.tree (record { bytes = refl; leads = λ rest. refl }) w in
    let k = walked s tree whole.tree es (entry_paths tree []) (paths_in_folder [] top) m.below read in
    (tree, (whole.tree, (k.entries, (k.walk, k.same))))
