-- A search through directories that aren't a tree: the rule that they break, and the directory.
use Rattle.std.proofs.Common.{ℕ, suc, ◌≡◌, ◌+◌, ◌<◌, Bool, true, false, List, [], ◌∷◌, ◌++◌, length, map, get_or, Option, Some, None, refl, sym, ap, subst, ◌∙◌, arith, slice_get, option_map, nat_eq, Less, AllPairs, add-one, true≢false}
use Rattle.std.specs.Prelude.{All}
use Rattle.std.specs.List.{IsDistinct}
use Rattle.lfs_mount.proofs.Common.{length-map, All-cons, same_Some, slice_get-map, slice_get_within, slice_get-get_or, Name, name_cmp, Slot, address_of_array, same_pair, Pair, BeginsDirectory, ThreadDirectory, root_address, IsReachedDirectory, all_directories, pair_back, DirectoryGraph, Vertex, AreReachedMarks, OccursTwice, visited_vertices, graph_view, vertex_view, IsPathReached, slots_subdirectory_addresses, directory_index, IsGraphOfThread, BreaksGraphRule}
use Rattle.lfs_model.specs.declared.order.NameOrder.{NameOrder}
use Rattle.lfs_model.specs.tree.Tree.{names_at}
use Rattle.lfs_model.specs.tree.Shown.{all_entries}
use Rattle.lfs_model.specs.layers.Violations.{IsReachedAt}
use Rattle.lfs_model.specs.declared.violations.Violation.TheVariants as violation
use Rattle.lfs_mount.specs.declared.reachability.Directory.{Directory}
use Rattle.lfs_mount.proofs.Finished.{led_finished}
use Rattle.lfs_mount.proofs.Indices.{at_index, begins_index, index_begins, mapped}
use Rattle.lfs_mount.proofs.Links.{branches-links, links_in}
use Rattle.lfs_mount.proofs.Rooted.{first, led_from_reached}
use Rattle.lfs_mount.proofs.Searches.{AreSoundBefore, Goes, IsLedTwice, found_led, found_twice_led, goes_on, known_at}

-- ---- the directories of the code

-- the address of a directory's first pair
pub first_at : (addresses : List (List ℕ)) (v : ℕ) → v < length addresses → slice_get (map address_of_array addresses) v ≡ Some (address_of_array (get_or addresses v []))
first_at addresses v lt = slice_get-map address_of_array addresses v ∙ ap (option_map address_of_array) (slice_get-get_or addresses v [] lt)

pub some_in : (by : NameOrder) (ds : List Directory) → 0 < length ds → 0 < length (graph_view by ds)
some_in by ds some = omega (arith, length-map ds (vertex_view by))

-- ---- an entry that leads to no directory

data Leads (ds : List ThreadDirectory) (xs : List (ℕ × ℕ)) : Type 0 where
  loose : (i : ℕ) (x : ℕ × ℕ) → slice_get xs i ≡ Some x → directory_index ds x ≡ None → Leads ds xs
  fast : All (BeginsDirectory ds) xs → Leads ds xs

leads_or_not : (ds : List ThreadDirectory) (xs : List (ℕ × ℕ)) → Leads ds xs
leads_or_not ds [] = fast (λ k d lt. absurd (omega arith))
leads_or_not ds (x ∷ xs) = go (directory_index ds x) refl (leads_or_not ds xs)
  where
    go : (o : Option ℕ) → directory_index ds x ≡ o → Leads ds xs → Leads ds (x ∷ xs)
    go None e next = loose 0 x refl e
    go (Some i) e (loose j y f g) = loose (suc j) y f g
    go (Some i) e (fast h) = fast (All-cons (BeginsDirectory ds) x xs (begins_index ds x i e) h)

record IsLooseLink (ds : List ThreadDirectory) (slots : List Slot) : Type 0 where
  pub b : ℕ
  pub name : Name
  pub to : ℕ × ℕ
  pub link : slice_get (links_in slots) b ≡ Some (name, to)
  pub loose : ¬ BeginsDirectory ds to

loose_link : (ds : List ThreadDirectory) (slots : List Slot) → ¬ All (BeginsDirectory ds) (slots_subdirectory_addresses slots) → IsLooseLink ds slots
loose_link ds slots h = go (leads_or_not ds (slots_subdirectory_addresses slots))
  where
    go : Leads ds (slots_subdirectory_addresses slots) → IsLooseLink ds slots
    go (fast all) = absurd (h all)
    go (loose i x here none) =
        let pair : option_map (λ l. l.1) (slice_get (links_in slots) i) ≡ Some x =
        sym (slice_get-map (λ (l : Name × (ℕ × ℕ)). l.1) (links_in slots) i) ∙ ap (λ xs. slice_get xs i) (sym (branches-links slots)) ∙ here in
        let link = mapped (λ (l : Name × (ℕ × ℕ)). l.1) (slice_get (links_in slots) i) x pair in
        record {
          b = i;
          name = link.0.0;
          to = x;
          link = link.1 ∙ ap (λ (y : ℕ × ℕ). Some (link.0.0, y)) link.2;
          loose = λ begins. let j = index_begins ds x begins in absurd (let c : None ≡ Some j.0 = sym none ∙ j.1 in cc);
        }

-- ---- a directory of a thread

abbrev Led : List Pair → ℕ → Type 0
Led ps v = IsPathReached (all_directories ps) (root_address ps) v

abbrev NamesRise : NameOrder → List Pair → ℕ × ℕ → Type 0
NamesRise by ps at = AllPairs (λ a b. name_cmp by a b ≡ Less) (names_at (all_entries ps) at)

-- a directory that is led to, and its names don't rise
record IsLedFalling (by : NameOrder) (ps : List Pair) (v : ℕ) : Type 0 where
  pub led : Led ps v
  pub falls : ¬ NamesRise by ps led.at

-- a directory that is led to, and an entry leads on from there to none
record IsLedLoose (ps : List Pair) (v : ℕ) : Type 0 where
  pub led : Led ps v
  pub name : Name
  pub to : ℕ × ℕ
  pub leads : Goes (all_directories ps) (root_address ps) (led.path ++ name ∷ []) to
  pub loose : ¬ BeginsDirectory (all_directories ps) to

module _ {by : NameOrder} (graph : DirectoryGraph) (firsts : List (ℕ × ℕ)) (sync : Bool) (some : 0 < length graph) where
  module _ (ps : List Pair) (shows : IsGraphOfThread by graph firsts sync ps) where
    begins_at : (v : ℕ) (d : ThreadDirectory) (at : ℕ × ℕ) → slice_get (all_directories ps) v ≡ Some d → slice_get firsts v ≡ Some at → d.at ≡ at
    begins_at v d at e there =
        same_Some d.at at
        (sym (ap (option_map (λ (c : ThreadDirectory). c.at)) e) ∙ sym (slice_get-map (λ (c : ThreadDirectory). c.at) (all_directories ps) v) ∙ ap (λ xs. slice_get xs v) (sym shows.places) ∙ there)

    reached_at : (v : ℕ) (at : ℕ × ℕ) → slice_get firsts v ≡ Some at → (l : Led ps v) → IsReachedAt ps at l.path l.at
    reached_at v at there l =
        let a = at_index (all_directories ps) l.at v l.index in
        record { leads = l.leads; same = pair_back at l.at (ap (λ (x : ℕ × ℕ). same_pair x l.at) (sym (begins_at v a.listing at a.here there)) ∙ a.same) }

    led_at : (k v : ℕ) → AreSoundBefore graph k → slice_get (visited_vertices graph k) k ≡ Some v → Led ps v
    led_at k v sound here = found_led (all_directories ps) (root_address ps) graph shows.draws (first ps graph firsts sync shows some) k sound k v here

    falling : (k v : ℕ) (x : Vertex) → AreSoundBefore graph k → slice_get (visited_vertices graph k) k ≡ Some v → slice_get graph v ≡ Some x → x.rises ≡ false → IsLedFalling by ps v
    falling k v x sound here vertex unrisen =
        let l = led_at k v sound here in
        let n = known_at (all_directories ps) graph shows.draws l.at v l.index in
        let same : n.vertex.rises ≡ false = ap (λ (y : Vertex). y.rises) (same_Some n.vertex x (sym n.known ∙ vertex)) ∙ unrisen in
        record {
          led = l;
          falls = λ rise. true≢false (sym (n.drawn.rises.1 (subst (λ (slots : List Slot). AllPairs (λ a b. name_cmp by a b ≡ Less) (map (λ s. s.name) slots)) n.entries rise)) ∙ same);
        }

    leading : (k v : ℕ) (x : Vertex) → AreSoundBefore graph k → slice_get (visited_vertices graph k) k ≡ Some v → slice_get graph v ≡ Some x → x.rises ≡ true → x.leads ≡ false → IsLedLoose ps v
    leading k v x sound here vertex risen unled =
        let l = led_at k v sound here in
        let n = known_at (all_directories ps) graph shows.draws l.at v l.index in
        let same : n.vertex ≡ x = same_Some n.vertex x (sym n.known ∙ vertex) in
        let rise = n.drawn.rises.0 (ap (λ (y : Vertex). y.rises) same ∙ risen) in
        let link = loose_link (all_directories ps) n.listing.slots (λ all. true≢false (sym (n.drawn.leads.1 all) ∙ ap (λ (y : Vertex). y.leads) same ∙ unled)) in
        record {
          led = l;
          name = link.name;
          to = link.to;
          leads = goes_on by (all_directories ps) (root_address ps) l.path l.at l.leads n.listing.slots n.entries rise link.b link.name link.to link.link;
          loose = link.loose;
        }

    twice : (k x : ℕ) → AreSoundBefore graph (k + 1) → IsDistinct nat_eq (visited_vertices graph k) → OccursTwice (visited_vertices graph (k + 1)) x → IsLedTwice (all_directories ps) (root_address ps) x
    twice k x sound distinct repeated =
        found_twice_led (all_directories ps) (root_address ps) graph shows.draws (first ps graph firsts sync shows some) k (subst (AreSoundBefore graph) (add-one k) sound) distinct x
        (subst (λ n. OccursTwice (visited_vertices graph n) x) (add-one k) repeated)

    never : (marks : List Bool) → AreReachedMarks graph marks → (v : ℕ) (d : ThreadDirectory) → slice_get (all_directories ps) v ≡ Some d → slice_get marks v ≡ Some false → ¬ IsReachedDirectory ps d.at
    never marks r v d here unmarked reached =
        let l = led_from_reached ps v d shows.distinct here reached in
        let i = led_finished (all_directories ps) (root_address ps) graph shows.draws (first ps graph firsts sync shows some) r.steps r.finished v l in
        absurd (let clash : Some false ≡ Some true = sym unmarked ∙ r.marked.all i.0 v i.1 in cc)

    directory_at : (marks : List Bool) → AreReachedMarks graph marks → (v : ℕ) → slice_get marks v ≡ Some false → (d : ThreadDirectory) × (slice_get (all_directories ps) v ≡ Some d)
    directory_at marks r v unmarked =
        let none : ThreadDirectory = record { at = (0, 0); slots = [] } in
        let same = shows.draws.len in
        let len = r.len in
        (get_or (all_directories ps) v none, slice_get-get_or (all_directories ps) v none (omega (arith, slice_get_within marks v false unmarked)))

  -- ---- the rules

  pub names_broken : (k v : ℕ) (x : Vertex) (pair : List ℕ) → AreSoundBefore graph k → slice_get (visited_vertices graph k) k ≡ Some v → slice_get graph v ≡ Some x → x.rises ≡ false
      → slice_get firsts v ≡ Some (address_of_array pair) → BreaksGraphRule by graph firsts sync (violation.Names pair)
  names_broken k v x pair sound here vertex unrisen there = record {
    broken = λ disk ps order shows.
        let f = falling ps shows k v x sound here vertex unrisen in
        record { path = f.led.path; to = f.led.at; reached = reached_at ps shows v (address_of_array pair) there f.led; falls = subst (λ (o : NameOrder). ¬ NamesRise o ps f.led.at) (sym order) f.falls };
  }

  pub branch_broken : (k v : ℕ) (x : Vertex) (pair : List ℕ) → AreSoundBefore graph k → slice_get (visited_vertices graph k) k ≡ Some v → slice_get graph v ≡ Some x → x.rises ≡ true → x.leads ≡ false
      → slice_get firsts v ≡ Some (address_of_array pair) → BreaksGraphRule by graph firsts sync (violation.Branch pair)
  branch_broken k v x pair sound here vertex risen unled there = record {
    broken = λ disk ps order shows.
        let f = leading ps shows k v x sound here vertex risen unled in
        record { path = f.led.path; to = f.led.at; reached = reached_at ps shows v (address_of_array pair) there f.led; name = f.name; target = f.to; leads = f.leads; loose = f.loose };
  }

  pub paths_broken : (k x : ℕ) (pair : List ℕ) → AreSoundBefore graph (k + 1) → IsDistinct nat_eq (visited_vertices graph k) → OccursTwice (visited_vertices graph (k + 1)) x
      → slice_get firsts x ≡ Some (address_of_array pair) → BreaksGraphRule by graph firsts sync (violation.TwoPaths pair)
  paths_broken k x pair sound distinct repeated there = record {
    broken = λ disk ps order shows.
        let t = twice ps shows k x sound distinct repeated in
        record {
          path = t.one.path;
          to = t.one.at;
          reached = reached_at ps shows x (address_of_array pair) there t.one;
          other = t.other.path;
          other_to = t.other.at;
          other_reached = reached_at ps shows x (address_of_array pair) there t.other;
          differ = t.differ;
        };
  }

  pub no_path_broken : (marks : List Bool) → AreReachedMarks graph marks → (v : ℕ) (pair : List ℕ) → sync ≡ false → slice_get marks v ≡ Some false → slice_get firsts v ≡ Some (address_of_array pair)
      → BreaksGraphRule by graph firsts sync (violation.NoPath pair)
  no_path_broken marks r v pair clear unmarked there = record {
    broken = λ disk ps order shows.
        let d = directory_at ps shows marks r v unmarked in
        let at = begins_at ps shows v d.0 (address_of_array pair) d.1 there in
        record {
          sync = shows.same ∙ clear;
          index = v;
          directory = d.0;
          there = d.1;
          at_is = at;
          unreached = subst (λ (x : ℕ × ℕ). ¬ IsReachedDirectory ps x) at (never ps shows marks r v d.0 d.1 unmarked);
        };
  }
