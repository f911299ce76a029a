-- Entries come into a tree one after another, each folder before what stands in it. What they make is the source's tree.
use Rattle.std.proofs.Common.{ℕ, zero, suc, ◌≡◌, ◌∙◌, ◌≤◌, ◌++◌, Bool, true, false, cond, List, [], ◌∷◌, length, Option, Some, None, refl, sym, ap, subst, arith, append_assoc, append-nil, length-append, option_and_then, option_map}
use Rattle.lfs_tool_run.proofs.Common.{IsPermutation-map, recursion_from_All, Name, is_component, name_cmp, Path, FileNode, DirectoryNode, Tree, tree_creating, names_with, node_with_names, empty_tree, path_bytes, AFile, AFolder, IsSourceTree, IsSourceNode, TreeSource, is_named_folder, source_names, path_in_folder, node_at, path_or_root, Each, each_append, each_both, each_weaker, append_step, not_longer, optional_bytes_view, AreSourceEntries, AreDepthFirst, AreSortedFolderNames, HasSourceContents, PathAndKind, paths_in_folder, node_of_optional_bytes}
use Rattle.std.specs.declared.cmp.Ordering.TheVariants.{Less}
use Rattle.lfs_model.specs.declared.order.NameOrder.TheVariants.{ShorterFirst}
use Rattle.lfs_model.specs.layers.Source.{SourceNode, source_file_node}
use Rattle.lfs_model.proofs.Paths.{cancel}
use Rattle.lfs_tool.specs.declared.entries.SourceEntry.{SourceEntry}
use Rattle.lfs_tool_run.proofs.NamesGiven.{Rising, before_it, each_given, each_names, kind_moved, less_unlike, name_at_end, none_given, rising_from, rising_right}
use Rattle.lfs_tool_run.proofs.PathPlaces.{AreComponents, added_above, added_aside, added_there, path_more, read_back}

-- ---- entries that come

abbrev pub grown : SourceEntry → Tree → Tree
grown e t = tree_creating (path_or_root e.path.items) (node_of_optional_bytes (optional_bytes_view e.bytes)) t

abbrev pub tree_after : List SourceEntry → Tree → Tree
tree_after [] t = t
tree_after (e ∷ es) t = tree_after es (grown e t)

-- nothing is at the path at which each comes
abbrev pub AreNew : List SourceEntry → Tree → Type 0
AreNew [] t = Unit {0}
AreNew (e ∷ es) t = (t (path_or_root e.path.items) ≡ None) × AreNew es (grown e t)

tree_append : (xs ys : List SourceEntry) (t : Tree) → tree_after (xs ++ ys) t ≡ tree_after ys (tree_after xs t)
tree_append [] ys t = refl
tree_append (e ∷ xs) ys t = tree_append xs ys (grown e t)

new_append : (xs ys : List SourceEntry) (t : Tree) → AreNew xs t → AreNew ys (tree_after xs t) → AreNew (xs ++ ys) t
new_append [] ys t h k = k
new_append (e ∷ xs) ys t h k = (h.0, new_append xs ys (grown e t) h.1 k)

-- ---- what was read, in two parts

record Parted (known : Option TreeSource) (ps qs : List PathAndKind) (es : List SourceEntry) : Type 0 where
  front : List SourceEntry
  back : List SourceEntry
  joined : es ≡ front ++ back
  first : AreDepthFirst known ps front
  second : AreDepthFirst known qs back

parted : (known : Option TreeSource) (ps qs : List PathAndKind) (es : List SourceEntry) → AreDepthFirst known (ps ++ qs) es → Parted known ps qs es
parted known [] qs es h = record { front = []; back = es; joined = refl; first = tt; second = h }
parted known (p ∷ ps) qs [] h = absurd h
parted known (p ∷ ps) qs (e ∷ es) (path, (within, (holds, rest))) =
    let k = parted known (paths_in_folder p.0 within ++ ps) qs es (subst (λ xs. AreDepthFirst known xs es) (sym (append_assoc (paths_in_folder p.0 within) ps qs)) rest) in
    record { front = e ∷ k.front; back = k.back; joined = ap (λ z. e ∷ z) k.joined; first = (path, (within, (holds, k.first))); second = k.second }

none_read : (known : Option TreeSource) (ps : List PathAndKind) (es : List SourceEntry) → ps ≡ [] → AreDepthFirst known ps es → es ≡ []
none_read known [] [] e h = refl
none_read known [] (x ∷ es) e h = absurd h
none_read known (p ∷ ps) es e h = absurd (cc)

-- ---- a folder

abbrev pub beneath : TreeSource → List ℕ → Path → Bool → Option SourceNode
beneath s path rest is_folder = cond is_folder (node_at s path rest) (source_file_node s path rest)

-- what stands at a name of a folder and beneath it
abbrev ShowsName : TreeSource → Path → Tree → Name × Bool → Type 0
ShowsName s f new g = (rest : Path) → IsSourceNode (beneath s (path_in_folder (path_bytes f) g.0) rest g.1) (new (f ++ g.0 ∷ rest))

-- the folder has these names, and nothing else stands in it
record IsWholeImage (s : TreeSource) (f : Path) (within : List (Name × Bool)) (new : Tree) : Type 0 where
  folder : new f ≡ Some (DirectoryNode [] (source_names within))
  below : Each (ShowsName s f new) within
  nothing : (m : Name) (rest : Path) → Each (λ g. m ≡ g.0 → ⊥) within → new (f ++ m ∷ rest) ≡ None

whole_shows : (s : TreeSource) (f : Path) (within : List (Name × Bool)) (new : Tree) → AreSortedFolderNames (Some s) (path_bytes f) within → IsWholeImage s f within new → (rest : Path) → IsSourceNode (node_at s (path_bytes f) rest) (new (f ++ rest))
whole_shows s f within new w h [] = subst (IsSourceNode (Some (AFolder (source_names (s.names (path_bytes f)))))) (sym (ap new (append-nil f) ∙ h.folder))
    (refl, IsPermutation-map (λ (g : Name × Bool). g.0) (s.names (path_bytes f)) within w.names, w.order.rise)
whole_shows s f within new w h (m ∷ rest) =
    subst (λ k. IsSourceNode (option_and_then (beneath s (path_in_folder (path_bytes f) m) rest) k) (new (f ++ m ∷ rest))) (sym (kind_moved (s.names (path_bytes f)) within w.names (rising_from (source_names within) w.order.rise) m)) (go (is_named_folder m within) refl)
  where
    go : (o : Option Bool) → is_named_folder m within ≡ o → IsSourceNode (option_and_then (beneath s (path_in_folder (path_bytes f) m) rest) o) (new (f ++ m ∷ rest))
    go None e = subst (IsSourceNode None) (sym (h.nothing m rest (none_given m within e))) tt
    go (Some k) e = each_given (ShowsName s f new) m within k e h.below rest

-- ---- what comes into a folder

-- The folder has the names so far, the names that come are greater, and nothing is there yet.
record IsSourceBegun (s : TreeSource) (f : Path) (ns : List Name) (gs : List (Name × Bool)) (es : List SourceEntry) (t : Tree) : Type 0 where
  read : AreDepthFirst (Some s) (paths_in_folder (path_bytes f) gs) es
  folder : t f ≡ Some (DirectoryNode [] ns)
  rising : Rising (ns ++ source_names gs)
  path : AreComponents f
  components : Each (λ g. is_component g.0 ≡ true) gs
  empty : Each (λ g. (rest : Path) → t (f ++ g.0 ∷ rest) ≡ None) gs

record HasGrown (s : TreeSource) (f : Path) (ns : List Name) (gs : List (Name × Bool)) (es : List SourceEntry) (t : Tree) : Type 0 where
  folder : tree_after es t f ≡ Some (DirectoryNode [] (ns ++ source_names gs))
  below : Each (ShowsName s f (tree_after es t)) gs
  others : (q : Path) → (q ≡ f → ⊥) → Each (λ g. (rest : Path) → q ≡ f ++ g.0 ∷ rest → ⊥) gs → tree_after es t q ≡ t q
  new : AreNew es t

-- What comes at a path and beneath it.
record HasCome (s : TreeSource) (p : Path) (is_folder : Bool) (es : List SourceEntry) (t : Tree) : Type 0 where
  below : (rest : Path) → IsSourceNode (beneath s (path_bytes p) rest is_folder) (tree_after es t (p ++ rest))
  others : (q : Path) → ((rest : Path) → q ≡ p ++ rest → ⊥) → tree_after es t q ≡ t q
  new : AreNew es t

abbrev Grows : ℕ → Type 0
Grows n = (s : TreeSource) (f : Path) (ns : List Name) (gs : List (Name × Bool)) (es : List SourceEntry) (t : Tree) → length es ≤ n → IsSourceBegun s f ns gs es t → HasGrown s f ns gs es t

a_file : (s : TreeSource) (p : Path) (bytes : List ℕ) (t : Tree) → bytes ≡ s.bytes (path_bytes p) → t p ≡ Some (FileNode [] bytes) → ((m : Name) (rest : Path) → t (p ++ m ∷ rest) ≡ None)
    → (rest : Path) → IsSourceNode (source_file_node s (path_bytes p) rest) (t (p ++ rest))
a_file s p bytes t is there none [] = subst (IsSourceNode (Some (AFile (s.bytes (path_bytes p))))) (sym (ap t (append-nil p) ∙ there)) (refl, is)
a_file s p bytes t is there none (m ∷ rest) = subst (IsSourceNode None) (sym (none m rest)) tt

come : (n : ℕ) → Grows n → (s : TreeSource) (p : Path) (is_folder : Bool) (o : Option (List ℕ)) (within : List (Name × Bool)) (es : List SourceEntry) (t : Tree) → length es ≤ n → HasSourceContents (Some s) (path_bytes p) is_folder o within
    → AreDepthFirst (Some s) (paths_in_folder (path_bytes p) within) es → AreComponents p → t p ≡ Some (node_of_optional_bytes o) → ((m : Name) (rest : Path) → t (p ++ m ∷ rest) ≡ None) → HasCome s p is_folder es t
come n ih s p false None within es t few holds read path there none = absurd holds
come n ih s p false (Some bytes) within es t few holds read path there none =
    let nothing : es ≡ [] = none_read (Some s) (paths_in_folder (path_bytes p) within) es (ap (paths_in_folder (path_bytes p)) holds.1) read in
    subst (λ xs. HasCome s p false xs t) (sym nothing) (record { below = a_file s p bytes t holds.0 there none; others = λ q h. refl; new = tt })
come n ih s p true None within es t few holds read path there none =
    let k = ih s p [] within es t few (record {
      read = read;
      folder = there;
      rising = rising_from (source_names within) holds.order.rise;
      path = path;
      components = each_names (λ m. is_component m ≡ true) within (recursion_from_All (λ m. is_component m ≡ true) (source_names within) holds.order.components);
      empty = each_none within;
    }) in
    record {
      below = whole_shows s p within (tree_after es t) holds (record {
        folder = k.folder;
        below = k.below;
        nothing = λ m rest other. k.others (p ++ m ∷ rest) (λ e. not_longer p m rest (sym e)) (each_weaker (λ (g : Name × Bool). m ≡ g.0 → ⊥) (λ (g : Name × Bool). (r : Path) → p ++ m ∷ rest ≡ p ++ g.0 ∷ r → ⊥)
            (λ g apart r e. apart (let f = cancel p (m ∷ rest) (g.0 ∷ r) e in cc)) within other) ∙ none m rest;
      });
      others = λ q away. k.others q (λ e. away [] (e ∙ sym (append-nil p))) (each_away q away within);
      new = k.new;
    }
  where
    each_none : (gs : List (Name × Bool)) → Each (λ (g : Name × Bool). (rest : Path) → t (p ++ g.0 ∷ rest) ≡ None) gs
    each_none [] = tt
    each_none (g ∷ gs) = ((λ rest. none g.0 rest), each_none gs)

    each_away : (q : Path) → ((rest : Path) → q ≡ p ++ rest → ⊥) → (gs : List (Name × Bool)) → Each (λ (g : Name × Bool). (rest : Path) → q ≡ p ++ g.0 ∷ rest → ⊥) gs
    each_away q away [] = tt
    each_away q away (g ∷ gs) = ((λ rest e. away (g.0 ∷ rest) e), each_away q away gs)
come n ih s p true (Some bytes) within es t few holds read path there none = absurd holds

nothing_grows : (s : TreeSource) (f : Path) (ns : List Name) (es : List SourceEntry) (t : Tree) → IsSourceBegun s f ns [] es t → HasGrown s f ns [] es t
nothing_grows s f ns es t b =
    let nothing : es ≡ [] = none_read (Some s) [] es refl b.read in
    subst (λ xs. HasGrown s f ns [] xs t) (sym nothing) (record { folder = b.folder ∙ ap (λ xs. Some (DirectoryNode [] xs)) (sym (append-nil ns)); below = tt; others = λ q a h. refl; new = tt })

module _ (n : ℕ) (ih : Grows n) (s : TreeSource) (f : Path) (ns : List Name) (g : Name × Bool) (gs : List (Name × Bool)) (e : SourceEntry) (es : List SourceEntry) (t : Tree) (few : length es ≤ n) (b : IsSourceBegun s f ns (g ∷ gs) (e ∷ es) t) where
  abbrev p : Path
  p = f ++ g.0 ∷ []

  abbrev within : List (Name × Bool)
  within = b.read.1.0

  abbrev k : Parted (Some s) (paths_in_folder (path_in_folder (path_bytes f) g.0) within) (paths_in_folder (path_bytes f) gs) es
  k = parted (Some s) (paths_in_folder (path_in_folder (path_bytes f) g.0) within) (paths_in_folder (path_bytes f) gs) es b.read.1.1.1

  spelled_path : path_in_folder (path_bytes f) g.0 ≡ path_bytes p
  spelled_path = sym (path_more f g.0)

  components : AreComponents p
  components = each_append (λ m. is_component m ≡ true) f (g.0 ∷ []) b.path (b.components.0, tt)

  at : path_or_root e.path.items ≡ p
  at = ap path_or_root (b.read.0 ∙ spelled_path) ∙ read_back f g.0 components

  abbrev one : Tree
  one = grown e t

  one_is : one ≡ tree_creating p (node_of_optional_bytes (optional_bytes_view e.bytes)) t
  one_is = ap (λ q. tree_creating q (node_of_optional_bytes (optional_bytes_view e.bytes)) t) at

  there : one p ≡ Some (node_of_optional_bytes (optional_bytes_view e.bytes))
  there = ap (λ (u : Tree). u p) one_is ∙ added_there p (node_of_optional_bytes (optional_bytes_view e.bytes)) t

  above : one f ≡ Some (DirectoryNode [] (ns ++ g.0 ∷ []))
  above = ap (λ (u : Tree). u f) one_is ∙ added_above f g.0 (node_of_optional_bytes (optional_bytes_view e.bytes)) t ∙ ap (option_map (node_with_names (names_with g.0))) b.folder
      ∙ ap (λ xs. Some (DirectoryNode [] xs)) (name_at_end g.0 ns (before_it ns g.0 (source_names gs) b.rising))

  aside : (q : Path) → (q ≡ f → ⊥) → (q ≡ p → ⊥) → one q ≡ t q
  aside q x y = ap (λ (u : Tree). u q) one_is ∙ added_aside f g.0 (node_of_optional_bytes (optional_bytes_view e.bytes)) t q x y

  beyond : (m : Name) (rest : Path) → one (p ++ m ∷ rest) ≡ None
  beyond m rest = aside (p ++ m ∷ rest) (λ x. not_longer f g.0 (m ∷ rest) (sym x ∙ append_step f g.0 (m ∷ rest))) (λ x. not_longer p m rest (sym x)) ∙ ap t (append_step f g.0 (m ∷ rest)) ∙ b.empty.0 (m ∷ rest)

  front_few : length k.front ≤ n
  front_few = omega (arith, few, ap length k.joined, length-append k.front k.back)

  back_few : length k.back ≤ n
  back_few = omega (arith, few, ap length k.joined, length-append k.front k.back)

  comes : HasCome s p g.1 k.front one
  comes = come n ih s p g.1 (optional_bytes_view e.bytes) within k.front one front_few (subst (λ x. HasSourceContents (Some s) x g.1 (optional_bytes_view e.bytes) within) spelled_path b.read.1.1.0)
      (subst (λ x. AreDepthFirst (Some s) (paths_in_folder x within) k.front) spelled_path k.first) components there beyond

  abbrev two : Tree
  two = tree_after k.front one

  apart : Each (λ (h : Name × Bool). g.0 ≡ h.0 → ⊥) gs
  apart = each_weaker (λ (h : Name × Bool). name_cmp ShorterFirst g.0 h.0 ≡ Less) (λ (h : Name × Bool). g.0 ≡ h.0 → ⊥) (λ h less. less_unlike g.0 h.0 less) gs
      (each_names (λ m. name_cmp ShorterFirst g.0 m ≡ Less) gs (rising_right ns (g.0 ∷ source_names gs) b.rising).0)

  off : (h : Name × Bool) → (g.0 ≡ h.0 → ⊥) → (rest r : Path) → f ++ h.0 ∷ rest ≡ f ++ g.0 ∷ r → ⊥
  off h other rest r x = other (let y = cancel f (h.0 ∷ rest) (g.0 ∷ r) x in cc)

  still_none : Each (λ (h : Name × Bool). (rest : Path) → two (f ++ h.0 ∷ rest) ≡ None) gs
  still_none = each_both (λ (h : Name × Bool). g.0 ≡ h.0 → ⊥) (λ (h : Name × Bool). (rest : Path) → t (f ++ h.0 ∷ rest) ≡ None) (λ (h : Name × Bool). (rest : Path) → two (f ++ h.0 ∷ rest) ≡ None)
      (λ h other none rest. comes.others (f ++ h.0 ∷ rest) (λ r x. off h other rest r (x ∙ append_step f g.0 r)) ∙ aside (f ++ h.0 ∷ rest) (λ x. not_longer f h.0 rest (sym x)) (λ x. off h other rest [] x) ∙ none rest) gs apart b.empty.1

  goes_on : HasGrown s f (ns ++ g.0 ∷ []) gs k.back two
  goes_on = ih s f (ns ++ g.0 ∷ []) gs k.back two back_few (record {
    read = k.second;
    folder = comes.others f (λ r x. not_longer f g.0 r (x ∙ append_step f g.0 r)) ∙ above;
    rising = subst Rising (sym (append_assoc ns (g.0 ∷ []) (source_names gs))) b.rising;
    path = b.path;
    components = b.components.1;
    empty = still_none;
  })

  whole : tree_after (e ∷ es) t ≡ tree_after k.back two
  whole = ap (λ xs. tree_after xs one) k.joined ∙ tree_append k.front k.back one

  here : ShowsName s f (tree_after k.back two) g
  here rest = subst (λ x. IsSourceNode (beneath s x rest g.1) (tree_after k.back two (f ++ g.0 ∷ rest))) (sym spelled_path)
      (subst (IsSourceNode (beneath s (path_bytes p) rest g.1)) (sym (goes_on.others (f ++ g.0 ∷ rest) (λ x. not_longer f g.0 rest (sym x))
      (each_weaker (λ (h : Name × Bool). g.0 ≡ h.0 → ⊥) (λ (h : Name × Bool). (r : Path) → f ++ g.0 ∷ rest ≡ f ++ h.0 ∷ r → ⊥) (λ h other r x. off h other r rest (sym x)) gs apart) ∙ ap two (sym (append_step f g.0 rest)))) (comes.below rest))

  more_grows : HasGrown s f ns (g ∷ gs) (e ∷ es) t
  more_grows = record {
    folder = ap (λ (u : Tree). u f) whole ∙ goes_on.folder ∙ ap (λ xs. Some (DirectoryNode [] xs)) (append_assoc ns (g.0 ∷ []) (source_names gs));
    below = subst (λ (u : Tree). Each (ShowsName s f u) (g ∷ gs)) (sym whole) (here, goes_on.below);
    others = λ q away off. ap (λ (u : Tree). u q) whole ∙ goes_on.others q away off.1 ∙ comes.others q (λ r x. off.0 r (x ∙ append_step f g.0 r)) ∙ aside q away (λ x. off.0 [] x);
    new = (ap t at ∙ b.empty.0 [], subst (λ xs. AreNew xs one) (sym k.joined) (new_append k.front k.back one comes.new goes_on.new));
  }

grows : (n : ℕ) → Grows n
grows zero s f ns [] es t few b = nothing_grows s f ns es t b
grows zero s f ns (g ∷ gs) [] t few b = absurd b.read
grows zero s f ns (g ∷ gs) (e ∷ es) t few b = absurd (omega (arith, few))
grows (suc n) s f ns [] es t few b = nothing_grows s f ns es t b
grows (suc n) s f ns (g ∷ gs) [] t few b = absurd b.read
grows (suc n) s f ns (g ∷ gs) (e ∷ es) t few b = more_grows n (grows n) s f ns g gs e es t (omega (arith, few)) b

-- ---- all of the source

pub record IsCarriedTree (s : TreeSource) (es : List SourceEntry) : Type 0 where
  pub tree : IsSourceTree s (tree_after es empty_tree)
  pub new : AreNew es empty_tree

pub carried_tree : (s : TreeSource) (es : List SourceEntry) → AreSourceEntries (Some s) es → IsCarriedTree s es
carried_tree s es (top, (w, read)) =
    let h = grows (length es) s [] [] top es empty_tree (omega arith) (record {
      read = read;
      folder = refl;
      rising = rising_from (source_names top) w.order.rise;
      path = tt;
      components = each_names (λ m. is_component m ≡ true) top (recursion_from_All (λ m. is_component m ≡ true) (source_names top) w.order.components);
      empty = each_none top;
    }) in
    record {
      tree = whole_shows s [] top (tree_after es empty_tree) w (record {
        folder = h.folder;
        below = h.below;
        nothing = λ m rest other. h.others (m ∷ rest) (λ e. absurd (cc)) (each_weaker (λ (g : Name × Bool). m ≡ g.0 → ⊥) (λ (g : Name × Bool). (r : Path) → m ∷ rest ≡ g.0 ∷ r → ⊥) (λ g apart r e. apart (cc)) top other);
      });
      new = h.new;
    }
  where
    each_none : (gs : List (Name × Bool)) → Each (λ (g : Name × Bool). (rest : Path) → empty_tree (g.0 ∷ rest) ≡ None) gs
    each_none [] = tt
    each_none (g ∷ gs) = ((λ rest. refl), each_none gs)
