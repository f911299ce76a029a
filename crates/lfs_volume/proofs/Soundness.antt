-- What a volume keeps from call to call.
use Rattle.std.proofs.Common.{inl, inr, ℕ, zero, suc, ◌≡◌, ◌+◌, ◌==◌, ◌<◌, ◌≤◌, ◌≢◌, ◌-◌, ◌&&◌, ◌||◌, eqb, min, max, Bool, true, false, cond, List, [], ◌∷◌, ◌++◌, length, take, replicate, Option, Some, None, Ok, Err, Result, is_some, unwrap_or, refl, sym, ap, ap₂, subst, ◌∙◌, arith}
use Rattle.std.specs.Prelude.{◌⊎◌, IsSome, IfSome, slice_set}
use Rattle.std.specs.List.{list_any}
use Rattle.std.specs.Option.{option_map, option_or}
use Rattle.std.proofs.lemmas.Bool.{cases_lt, le-ltb, lt-ltb}
use Rattle.std.proofs.lemmas.Bool.Decides.{eqb_tells}
use Rattle.std.proofs.lemmas.List.{length-take-le, take-append-le}
use Rattle.lfs_device.specs.declared.error.Error.{Error}
use Rattle.lfs_lookup.specs.RefusalErrors as refusals
use Rattle.lfs_model.specs.format.Disk.{Disk, disk_with_order, profile_file_max}
use Rattle.lfs_model.specs.tree.Tree.{DirectoryNode, FileNode, Node, Path, Tree}
use Rattle.lfs_model.specs.session.Operations as ops
use Rattle.lfs_model.specs.session.Operations.{Operation, Reply}
use Rattle.lfs_model.specs.session.State.{HasFailed, Healthy, SessionHealth, is_remount, mounted_session, remount_result}
use Rattle.lfs_model.specs.session.Run.{HealthyHasDiskTree, ShowsTree}
use Rattle.lfs_model.specs.session.Refusals.{path_or_root}
use Rattle.lfs_model.specs.session.Session.{Session, directory_refusal, parents_refusal}
use Rattle.lfs_model.specs.session.TreeEdits.{file_bytes, is_file, same_path, tree_with_change}
use Rattle.lfs_model.specs.session.Effects.{node_with_bytes}
use Rattle.lfs_model.specs.session.Writers.{written_contents, zero_padded}
use Rattle.lfs_model.proofs.Paths.{path_from_same, path_itself}
use Rattle.lfs_tree.specs.TreeState.{visible_tree}
use Rattle.lfs_fs.specs.CallEffects.{IsCall}
use Rattle.lfs_fs.specs.SessionView.{SessionView, system_state, viewed_session}
use Rattle.lfs_volume.specs.declared.dirty_range.DirtyRange.{DirtyRange}
use Rattle.lfs_volume.specs.declared.handles.Handle.{Handle}
use Rattle.lfs_volume.specs.Calls.{named, refers_to_node, needs_sync, stored_node}
use Rattle.lfs_volume.specs.DirtyRanges.{DiffersInDirtyRange, truncate_dirty_range, extend_dirty_range, resize_dirty_range}
use Rattle.lfs_volume.specs.Opened.{IsIdleSession, LeadsToFile}
use Rattle.lfs_volume.specs.SessionCalls.{MayChangeTreeOnce, FailsInCalls, IsAcceptedCall}
use Rattle.lfs_volume.specs.Volume.{NodeView, VolumeView, entry_at, loaded_node, node_bytes, resized_node, stored_bytes, synced_node, with_position, write_offset, written_node}
use Rattle.lfs_volume.specs.VolumeCalls.{FailsSyncAt, IsAllowedWriteOffset, IsHandleDropped, IsLoadedAt, IsNodeSyncRefused, IsNodeSynced, IsVolumeRemount, IsSessionCallSequence, IsSoundIfWorking, IsSoundNode, IsSoundVolume, IsSyncedAt}
use Rattle.lfs_volume.proofs.Entries.{changed_entry, changed_entry_to, entry_inside, entry_other, entry_set, set_twice}
use Rattle.lfs_volume.proofs.DirtyRanges.{length-padded, length-written, lengthened, shortened, written_differs}
use Rattle.lfs_volume.proofs.Saving.{quiet_profile}
use Rattle.lfs_volume.proofs.Steps.{healthy_view, refusal_step}

-- ---- a node

-- over another session with the same tree
pub node_stays : (a b : SessionView) (n : NodeView) → visible_tree b.tree ≡ visible_tree a.tree → b.tree.disk.profile ≡ a.tree.disk.profile → IsSoundNode a n → IsSoundNode b n
node_stays a b n tree profile s = record {
  sized = λ none. subst (λ t. length (stored_bytes t n.path) ≡ n.size) (sym tree) (s.sized none);
  unchanged = s.unchanged;
  long = s.long;
  differs = λ path bytes at c. subst (λ t. DiffersInDirtyRange (stored_bytes t (Some path)) bytes n.dirty_range) (sym tree) (s.differs path bytes at c);
  small = λ k. subst (λ p. n.size ≤ profile_file_max p) (sym profile) (s.small k);
  leads = λ path at. subst (λ t. LeadsToFile t path) (sym tree) (s.leads path at);
}

module _ (h : SessionView) (n : NodeView) (s : IsSoundNode h n) where
  -- the bytes that its handles see
  abbrev seen : List ℕ
  seen = node_bytes (visible_tree h.tree) n

  pub seen_long : length (node_bytes (visible_tree h.tree) n) ≡ n.size
  seen_long = go n.contents refl
    where
      go : (o : Option (List ℕ)) → n.contents ≡ o → length (node_bytes (visible_tree h.tree) n) ≡ n.size
      go None e = ap (λ c. length (unwrap_or c (stored_bytes (visible_tree h.tree) n.path))) e ∙ s.sized e
      go (Some bytes) e = ap (λ c. length (unwrap_or c (stored_bytes (visible_tree h.tree) n.path))) e ∙ s.long bytes e

  seen_differs : (path : List ℕ) → n.path ≡ Some path → DiffersInDirtyRange (stored_bytes (visible_tree h.tree) (Some path)) (node_bytes (visible_tree h.tree) n) n.dirty_range
  seen_differs path at = go n.contents refl
    where
      go : (o : Option (List ℕ)) → n.contents ≡ o → DiffersInDirtyRange (stored_bytes (visible_tree h.tree) (Some path)) (node_bytes (visible_tree h.tree) n) n.dirty_range
      go None e = subst (DiffersInDirtyRange (stored_bytes (visible_tree h.tree) (Some path)) (node_bytes (visible_tree h.tree) n)) (sym (s.unchanged e))
          (sym (ap (λ c. unwrap_or c (stored_bytes (visible_tree h.tree) n.path)) e ∙ ap (stored_bytes (visible_tree h.tree)) at))
      go (Some bytes) e = subst (λ z. DiffersInDirtyRange (stored_bytes (visible_tree h.tree) (Some path)) z n.dirty_range) (sym (ap (λ c. unwrap_or c (stored_bytes (visible_tree h.tree) n.path)) e)) (s.differs path bytes at e)

  same_contents : (xs ys : List ℕ) → Some xs ≡ Some ys → xs ≡ ys
  same_contents xs ys e = cc

  no_contents : (xs : List ℕ) → Some xs ≡ None → ⊥
  no_contents xs e = absurd (cc)

  pub loaded_sound : IsSoundNode h (loaded_node (node_bytes (visible_tree h.tree) n) n)
  loaded_sound = record {
    sized = λ none. absurd (no_contents _ none);
    unchanged = λ none. absurd (no_contents _ none);
    long = λ bytes e. ap length (sym (same_contents _ bytes e)) ∙ seen_long;
    differs = λ path bytes at e. subst (λ z. DiffersInDirtyRange (stored_bytes (visible_tree h.tree) (Some path)) z n.dirty_range) (same_contents _ bytes e) (seen_differs path at);
    small = s.small;
    leads = s.leads;
  }

  pub written_sound : (at b : ℕ) (bytes : List ℕ) → max n.size (at + length (b ∷ bytes)) ≤ profile_file_max h.tree.disk.profile → IsSoundNode h (written_node at (b ∷ bytes) (node_bytes (visible_tree h.tree) n) n)
  written_sound at b bytes fits = record {
    sized = λ none. absurd (no_contents _ none);
    unchanged = λ none. absurd (no_contents _ none);
    long = λ bs e. ap length (sym (same_contents _ bs e)) ∙ length-written (node_bytes (visible_tree h.tree) n) (b ∷ bytes) at ∙ ap (λ k. max k (at + length (b ∷ bytes))) seen_long;
    differs = λ path bs place e. subst (λ z. DiffersInDirtyRange (stored_bytes (visible_tree h.tree) (Some path)) z (Some (extend_dirty_range n.dirty_range (min at n.size) (at + length (b ∷ bytes))))) (same_contents _ bs e)
        (subst (λ k. DiffersInDirtyRange (stored_bytes (visible_tree h.tree) (Some path)) (written_contents (node_bytes (visible_tree h.tree) n) at (b ∷ bytes)) (Some (extend_dirty_range n.dirty_range (min at k) (at + length (b ∷ bytes))))) seen_long
        (written_differs (stored_bytes (visible_tree h.tree) (Some path)) (node_bytes (visible_tree h.tree) n) (b ∷ bytes) n.dirty_range at (seen_differs path place)));
    small = λ k. fits;
    leads = s.leads;
  }

-- a node in memory that gets another size
pub resized_sound : (h : SessionView) (n : NodeView) → IsSoundNode h n → (size : ℕ) (nb : List ℕ) → n.contents ≡ Some nb → size ≤ profile_file_max h.tree.disk.profile → IsSoundNode h (resized_node size nb n)
resized_sound h n s size nb here small = go (size == n.size) refl
  where
    changed : NodeView
    changed = record n { size = size; contents = Some (take size (zero_padded size nb)); dirty_range = Some (resize_dirty_range n.dirty_range n.size size) }

    same_list : (xs ys : List ℕ) → Some xs ≡ Some ys → xs ≡ ys
    same_list xs ys e = cc

    no_list : (xs : List ℕ) → Some xs ≡ None → ⊥
    no_list xs e = absurd (cc)

    padded : length (zero_padded size nb) ≡ max size (length nb)
    padded = length-padded nb [] size

    long : length nb ≡ n.size
    long = s.long nb here

    by_size : (path : List ℕ) → n.path ≡ Some path → (n.size < size) ⊎ (size ≤ n.size) → DiffersInDirtyRange (stored_bytes (visible_tree h.tree) (Some path)) (take size (zero_padded size nb)) (Some (resize_dirty_range n.dirty_range n.size size))
    by_size path at (inl more) =
        subst (λ b. DiffersInDirtyRange (stored_bytes (visible_tree h.tree) (Some path)) (take size (zero_padded size nb)) (Some (cond b (extend_dirty_range n.dirty_range n.size size) (truncate_dirty_range n.dirty_range size)))) (sym (lt-ltb n.size size more))
        (subst (λ k. DiffersInDirtyRange (stored_bytes (visible_tree h.tree) (Some path)) (take size (zero_padded size nb)) (Some (extend_dirty_range n.dirty_range k size))) long
        (lengthened (stored_bytes (visible_tree h.tree) (Some path)) nb n.dirty_range size (let l = long in omega arith) (s.differs path nb at here)))
    by_size path at (inr less) =
        let inside : size ≤ length nb = (let l = long in omega arith) in
        subst (λ b. DiffersInDirtyRange (stored_bytes (visible_tree h.tree) (Some path)) (take size (zero_padded size nb)) (Some (cond b (extend_dirty_range n.dirty_range n.size size) (truncate_dirty_range n.dirty_range size)))) (sym (le-ltb n.size size less))
        (subst (λ xs. DiffersInDirtyRange (stored_bytes (visible_tree h.tree) (Some path)) xs (Some (truncate_dirty_range n.dirty_range size))) (sym (take-append-le size nb (replicate (size - length nb) 0) inside))
        (shortened (stored_bytes (visible_tree h.tree) (Some path)) nb n.dirty_range size inside (s.differs path nb at here)))

    go : (b : Bool) → (size == n.size) ≡ b → IsSoundNode h (resized_node size nb n)
    go true e = subst (IsSoundNode h) (sym (ap (λ b. cond b n changed) e)) s
    go false e = subst (IsSoundNode h) (sym (ap (λ b. cond b n changed) e)) (record {
      sized = λ none. absurd (no_list _ none);
      unchanged = λ none. absurd (no_list _ none);
      long = λ bytes c. ap length (sym (same_list _ bytes c)) ∙ length-take-le size (zero_padded size nb) (let p = padded in omega arith);
      differs = λ path bytes at c. subst (λ z. DiffersInDirtyRange (stored_bytes (visible_tree h.tree) (Some path)) z (Some (resize_dirty_range n.dirty_range n.size size))) (same_list _ bytes c) (by_size path at (cases_lt n.size size));
      small = λ k. small;
      leads = s.leads;
    })

-- ---- a volume of which one node changed

pub record ChangesNode (old : VolumeView) (i : ℕ) (n m : NodeView) (new : VolumeView) : Type 0 where
  pub was : entry_at old.nodes i ≡ Some n
  pub nodes : new.nodes ≡ slice_set old.nodes i (Some m)
  pub path : m.path ≡ n.path
  pub idle : IsIdleSession new.session (visible_tree new.session.tree)
  pub sound : IsSoundNode new.session m
  pub others : (j : ℕ) (k : NodeView) → (i ≡ j → ⊥) → entry_at old.nodes j ≡ Some k → IsSoundNode new.session k
  pub handles : (j : ℕ) (h : Handle) → entry_at new.handles j ≡ Some h → (g : Handle) × ((entry_at old.handles j ≡ Some g) × (h.node ≡ g.node))

pub same_or_not : (i j : ℕ) → (i ≡ j) ⊎ (i ≡ j → ⊥)
same_or_not zero zero = inl refl
same_or_not zero (suc j) = inr (λ e. absurd (omega arith))
same_or_not (suc i) zero = inr (λ e. absurd (omega arith))
same_or_not (suc i) (suc j) = go (same_or_not i j)
  where
    go : (i ≡ j) ⊎ (i ≡ j → ⊥) → (suc i ≡ suc j) ⊎ (suc i ≡ suc j → ⊥)
    go (inl e) = inl (ap suc e)
    go (inr ne) = inr (λ e. ne (omega arith))

module _ (old new : VolumeView) (i : ℕ) (n m : NodeView) (sound : IsSoundVolume old) (c : ChangesNode old i n m new) where
  same_node : (a b : NodeView) → Some a ≡ Some b → a ≡ b
  same_node a b e = cc

  at_i : entry_at new.nodes i ≡ Some m
  at_i = ap (λ (ns : List (Option NodeView)). entry_at ns i) c.nodes ∙ entry_set old.nodes i (Some m) (entry_inside old.nodes i n c.was)

  at_other : (j : ℕ) → (i ≡ j → ⊥) → entry_at new.nodes j ≡ entry_at old.nodes j
  at_other j ne = ap (λ (ns : List (Option NodeView)). entry_at ns j) c.nodes ∙ entry_other old.nodes i j (Some m) ne

  -- each node had the same path before
  before : (j : ℕ) (k : NodeView) → entry_at new.nodes j ≡ Some k → (o : NodeView) × ((entry_at old.nodes j ≡ Some o) × (k.path ≡ o.path))
  before j k e = go (same_or_not i j)
    where
      go : (i ≡ j) ⊎ (i ≡ j → ⊥) → (o : NodeView) × ((entry_at old.nodes j ≡ Some o) × (k.path ≡ o.path))
      go (inl same) = (n, (ap (entry_at old.nodes) (sym same) ∙ c.was, ap (λ (z : NodeView). z.path) (same_node k m (sym e ∙ ap (entry_at new.nodes) (sym same) ∙ at_i)) ∙ c.path))
      go (inr ne) = (k, (sym (at_other j ne) ∙ e, refl))

  node_sound : (j : ℕ) (k : NodeView) → entry_at new.nodes j ≡ Some k → IsSoundNode new.session k
  node_sound j k e = go (same_or_not i j)
    where
      go : (i ≡ j) ⊎ (i ≡ j → ⊥) → IsSoundNode new.session k
      go (inl same) = subst (IsSoundNode new.session) (same_node m k (sym at_i ∙ ap (entry_at new.nodes) same ∙ e)) c.sound
      go (inr ne) = c.others j k ne (sym (at_other j ne) ∙ e)

  still_named : (j : ℕ) → IsSome (entry_at old.nodes j) → IsSome (entry_at new.nodes j)
  still_named j is = go (same_or_not i j)
    where
      go : (i ≡ j) ⊎ (i ≡ j → ⊥) → IsSome (entry_at new.nodes j)
      go (inl same) = subst IsSome (sym (ap (entry_at new.nodes) (sym same) ∙ at_i)) refl
      go (inr ne) = subst IsSome (sym (at_other j ne)) is

  pub still_sound : IsSoundVolume new
  still_sound = record {
    idle = c.idle;
    nodes = node_sound;
    named = λ j h e. let g = c.handles j h e in subst (λ k. IsSome (entry_at new.nodes k)) (sym g.1.1) (still_named g.0.node (sound.named j g.0 g.1.0));
    apart = λ j k a b path other x y p q same.
        let u = before j a x in
        let w = before k b y in
        sound.apart j k u.0 w.0 path other u.1.0 w.1.0 (sym u.1.1 ∙ p) (sym w.1.1 ∙ q) same;
  }

-- ---- handles whose positions move

pub handles_stay : (old new : List (Option Handle)) → new ≡ old → (j : ℕ) (h : Handle) → entry_at new j ≡ Some h → (g : Handle) × ((entry_at old j ≡ Some g) × (h.node ≡ g.node))
handles_stay old new e j h at = (h, (ap (λ (hs : List (Option Handle)). entry_at hs j) (sym e) ∙ at, refl))

pub handles_move : (old new : List (Option Handle)) (i p : ℕ) → new ≡ slice_set old i (option_map (with_position p) (entry_at old i)) → (j : ℕ) (h : Handle) → entry_at new j ≡ Some h → (g : Handle) × ((entry_at old j ≡ Some g) × (h.node ≡ g.node))
handles_move old new i p e j h at = go (changed_entry old i j (with_position p))
  where
    moved : entry_at (slice_set old i (option_map (with_position p) (entry_at old i))) j ≡ Some h
    moved = ap (λ (hs : List (Option Handle)). entry_at hs j) (sym e) ∙ at

    from : (o : Option Handle) → option_map (with_position p) o ≡ Some h → (g : Handle) × ((o ≡ Some g) × (h.node ≡ g.node))
    from None k = absurd (cc)
    from (Some g) k = (g, (refl, ap (λ (z : Option Handle). unwrap_or (option_map (λ (x : Handle). x.node) z) 0) (sym k)))

    go : (entry_at (slice_set old i (option_map (with_position p) (entry_at old i))) j ≡ entry_at old j) ⊎ ((i ≡ j) × (entry_at (slice_set old i (option_map (with_position p) (entry_at old i))) j ≡ option_map (with_position p) (entry_at old j))) → (g : Handle) × ((entry_at old j ≡ Some g) × (h.node ≡ g.node))
    go (inl k) = (h, (sym k ∙ moved, refl))
    go (inr k) = from (entry_at old j) (sym k.1 ∙ moved)

-- ---- calls that keep the tree

-- a seek
pub sound_moved : (old new : VolumeView) → IsSoundVolume old → new.session ≡ old.session → new.nodes ≡ old.nodes → ((j : ℕ) (h : Handle) → entry_at new.handles j ≡ Some h → (g : Handle) × ((entry_at old.handles j ≡ Some g) × (h.node ≡ g.node))) → IsSoundVolume new
sound_moved old new sound session nodes handles = record {
  idle = subst (λ h. IsIdleSession h (visible_tree h.tree)) (sym session) sound.idle;
  nodes = λ j k e. subst (λ h. IsSoundNode h k) (sym session) (sound.nodes j k (ap (λ (ns : List (Option NodeView)). entry_at ns j) (sym nodes) ∙ e));
  named = λ j h e. let g = handles j h e in subst (λ (ns : List (Option NodeView)). IsSome (entry_at ns h.node)) (sym nodes) (subst (λ k. IsSome (entry_at old.nodes k)) (sym g.1.1) (sound.named j g.0 g.1.0));
  apart = λ j k a b path other x y. sound.apart j k a b path other (ap (λ (ns : List (Option NodeView)). entry_at ns j) (sym nodes) ∙ x) (ap (λ (ns : List (Option NodeView)). entry_at ns k) (sym nodes) ∙ y);
}

-- a node is changed in memory, after it was loaded
module _ (old mid new : VolumeView) (i : ℕ) (n m : NodeView) (sound : IsSoundVolume old) (was : entry_at old.nodes i ≡ Some n) (l : IsLoadedAt old.session old.nodes i mid.session mid.nodes) (session : new.session ≡ mid.session) where
  tree_stays : visible_tree new.session.tree ≡ visible_tree old.session.tree
  tree_stays = ap (λ (z : SessionView). visible_tree z.tree) session ∙ l.idle.shows

  profile_stays : new.session.tree.disk.profile ≡ old.session.tree.disk.profile
  profile_stays = ap (λ (z : SessionView). z.tree.disk.profile) session ∙ quiet_profile old.session mid.session l.operations l.calls

  pub sound_in_memory : new.nodes ≡ slice_set old.nodes i (Some m) → m.path ≡ n.path → IsSoundNode old.session m → ((j : ℕ) (h : Handle) → entry_at new.handles j ≡ Some h → (g : Handle) × ((entry_at old.handles j ≡ Some g) × (h.node ≡ g.node))) → IsSoundVolume new
  sound_in_memory nodes path one handles = still_sound old new i n m sound (record {
    was = was;
    nodes = nodes;
    path = path;
    idle = subst (λ h. IsIdleSession h (visible_tree h.tree)) (sym session) (record { works = l.idle.works; shows = refl; files = l.idle.files });
    sound = node_stays old.session new.session m tree_stays profile_stays one;
    others = λ j k ne e. node_stays old.session new.session k tree_stays profile_stays (sound.nodes j k e);
    handles = handles;
  })

-- ---- a tree in which one file has other bytes

dir_same : (b : Bool) (bytes : List ℕ) (x : Option Node) → directory_refusal (cond b (option_map (node_with_bytes bytes) x) x) ≡ directory_refusal x
dir_same false bytes x = refl
dir_same true bytes None = refl
dir_same true bytes (Some (FileNode a b)) = refl
dir_same true bytes (Some (DirectoryNode a ns)) = refl

file_same : (b : Bool) (bytes : List ℕ) (x : Option Node) → is_file (cond b (option_map (node_with_bytes bytes) x) x) ≡ is_file x
file_same false bytes x = refl
file_same true bytes None = refl
file_same true bytes (Some (FileNode a b)) = refl
file_same true bytes (Some (DirectoryNode a ns)) = refl

parents_same : (t u : Tree) → ((q : Path) → directory_refusal (u q) ≡ directory_refusal (t q)) → (above p : Path) → parents_refusal u above p ≡ parents_refusal t above p
parents_same t u h above [] = refl
parents_same t u h above (name ∷ []) = refl
parents_same t u h above (name ∷ next ∷ rest) = ap₂ option_or (h (above ++ name ∷ [])) (parents_same t u h (above ++ name ∷ []) (next ∷ rest))

leads_still : (p : Path) (bytes : List ℕ) (t : Tree) (path : List ℕ) → LeadsToFile t path → LeadsToFile (tree_with_change p (node_with_bytes bytes) t) path
leads_still p bytes t path l = record {
  given = l.given;
  parents = parents_same t (tree_with_change p (node_with_bytes bytes) t) (λ q. dir_same (same_path p q) bytes (t q)) [] (path_or_root path) ∙ l.parents;
  file = file_same (same_path p (path_or_root path)) bytes (t (path_or_root path)) ∙ l.file;
}

new_bytes : (bytes : List ℕ) (x : Option Node) → is_file x ≡ true → file_bytes (option_map (node_with_bytes bytes) x) ≡ bytes
new_bytes bytes None e = absurd (cc)
new_bytes bytes (Some (FileNode a b)) e = refl
new_bytes bytes (Some (DirectoryNode a ns)) e = absurd (cc)

stored_there : (path bytes : List ℕ) (t : Tree) → LeadsToFile t path → stored_bytes (tree_with_change (path_or_root path) (node_with_bytes bytes) t) (Some path) ≡ bytes
stored_there path bytes t l = ap (λ b. file_bytes (cond b (option_map (node_with_bytes bytes) (t (path_or_root path))) (t (path_or_root path)))) (path_itself (path_or_root path)) ∙ new_bytes bytes (t (path_or_root path)) l.file

stored_elsewhere : (p : Path) (bytes : List ℕ) (t : Tree) (at : Option (List ℕ)) → ((path : List ℕ) → at ≡ Some path → p ≡ path_or_root path → ⊥) → stored_bytes (tree_with_change p (node_with_bytes bytes) t) at ≡ stored_bytes t at
stored_elsewhere p bytes t None ne = refl
stored_elsewhere p bytes t (Some path) ne = go (same_path p (path_or_root path)) refl
  where
    go : (b : Bool) → same_path p (path_or_root path) ≡ b → stored_bytes (tree_with_change p (node_with_bytes bytes) t) (Some path) ≡ stored_bytes t (Some path)
    go true e = absurd (ne path refl (path_from_same p (path_or_root path) e))
    go false e = ap (λ b. file_bytes (cond b (option_map (node_with_bytes bytes) (t (path_or_root path))) (t (path_or_root path)))) e

-- a node that is as sound over another tree
pub node_carried : (a b : SessionView) (n : NodeView) → stored_bytes (visible_tree b.tree) n.path ≡ stored_bytes (visible_tree a.tree) n.path → ((path : List ℕ) → LeadsToFile (visible_tree a.tree) path → LeadsToFile (visible_tree b.tree) path) → b.tree.disk.profile ≡ a.tree.disk.profile → IsSoundNode a n → IsSoundNode b n
node_carried a b n stored leads profile s = record {
  sized = λ none. ap length stored ∙ s.sized none;
  unchanged = s.unchanged;
  long = s.long;
  differs = λ path bytes at c. subst (λ z. DiffersInDirtyRange z bytes n.dirty_range) (sym (ap (stored_bytes (visible_tree a.tree)) at) ∙ sym stored ∙ ap (stored_bytes (visible_tree b.tree)) at) (s.differs path bytes at c);
  small = λ k. subst (λ p. n.size ≤ profile_file_max p) (sym profile) (s.small k);
  leads = λ path at. leads path (s.leads path at);
}

-- ---- a sync

accepted_profile : (a b : SessionView) (op : Operation) → IsAcceptedCall a op b → b.tree.disk.profile ≡ a.tree.disk.profile
accepted_profile a b op one = one.call.answers.geometry.profile ∙ ap (λ r. (cond r (disk_with_order b.tree.disk.order a.tree.disk) a.tree.disk).profile) one.other

pub steps_profile : (a b : SessionView) (xs : List Operation) → MayChangeTreeOnce a xs b → b.tree.disk.profile ≡ a.tree.disk.profile
steps_profile a b xs (inl quiet) = quiet_profile a b xs quiet
steps_profile a b xs (inr c) = quiet_profile c.second b c.after c.rest ∙ accepted_profile c.first c.second c.change c.changed ∙ quiet_profile a c.first c.before c.quiet

module _ (old : VolumeView) (new : SessionView) (i : ℕ) (n : NodeView) (sound : IsSoundVolume old) (was : entry_at old.nodes i ≡ Some n) (s : IsNodeSynced old.session n new (stored_node n)) where
  t : Tree
  t = visible_tree old.session.tree

  profile : new.tree.disk.profile ≡ old.session.tree.disk.profile
  profile = steps_profile old.session new s.operations s.steps

  one : IsSoundNode old.session n
  one = sound.nodes i n was

  -- nothing is stored
  tree_kept : needs_sync n ≡ false → visible_tree new.tree ≡ visible_tree old.session.tree
  tree_kept e = s.idle.shows ∙ ap (λ b. cond b (tree_with_change (path_or_root (unwrap_or n.path [])) (node_with_bytes (node_bytes (visible_tree old.session.tree) n)) (visible_tree old.session.tree)) (visible_tree old.session.tree)) e

  tree_changed : (path : List ℕ) → needs_sync n ≡ true → n.path ≡ Some path → visible_tree new.tree ≡ tree_with_change (path_or_root path) (node_with_bytes (node_bytes (visible_tree old.session.tree) n)) (visible_tree old.session.tree)
  tree_changed path e at =
      s.idle.shows ∙ ap (λ b. cond b (tree_with_change (path_or_root (unwrap_or n.path [])) (node_with_bytes (node_bytes (visible_tree old.session.tree) n)) (visible_tree old.session.tree)) (visible_tree old.session.tree)) e
      ∙ ap (λ p. tree_with_change (path_or_root (unwrap_or p [])) (node_with_bytes (node_bytes (visible_tree old.session.tree) n)) (visible_tree old.session.tree)) at

  needed_path : (h : Option DirtyRange) (p : Option (List ℕ)) → (is_some h && is_some p) ≡ true → (path : List ℕ) × (p ≡ Some path)
  needed_path None p e = absurd (cc)
  needed_path (Some h) None e = absurd (cc)
  needed_path (Some h) (Some path) e = (path, refl)

  stored_sound : IsSoundNode new (stored_node n)
  stored_sound = go (needs_sync n) refl
    where
      go : (b : Bool) → needs_sync n ≡ b → IsSoundNode new (stored_node n)
      go false e = subst (IsSoundNode new) (sym (ap (λ b. cond b (synced_node n) n) e)) (node_stays old.session new n (tree_kept e) profile one)
      go true e =
          let p = needed_path n.dirty_range n.path e in
          let shows = tree_changed p.0 e p.1 in
          let stored : stored_bytes (visible_tree new.tree) n.path ≡ node_bytes (visible_tree old.session.tree) n = ap₂ stored_bytes shows p.1 ∙ stored_there p.0 (node_bytes (visible_tree old.session.tree) n) (visible_tree old.session.tree) (one.leads p.0 p.1) in
          subst (IsSoundNode new) (sym (ap (λ b. cond b (synced_node n) n) e)) (record {
            sized = λ none. ap length stored ∙ seen_long old.session n one;
            unchanged = λ none. refl;
            long = one.long;
            differs = λ path bytes at c. ap (stored_bytes (visible_tree new.tree)) (sym at) ∙ stored ∙ ap (λ x. unwrap_or x (stored_bytes (visible_tree old.session.tree) n.path)) c;
            small = λ k. absurd (let z : false ≡ true = k in cc);
            leads = λ path at. subst (λ z. LeadsToFile z path) (sym shows) (leads_still (path_or_root p.0) (node_bytes (visible_tree old.session.tree) n) (visible_tree old.session.tree) path (one.leads path at));
          })

  others_sound : (j : ℕ) (k : NodeView) → (i ≡ j → ⊥) → entry_at old.nodes j ≡ Some k → IsSoundNode new k
  others_sound j k ne at = go (needs_sync n) refl
    where
      go : (b : Bool) → needs_sync n ≡ b → IsSoundNode new k
      go false e = node_stays old.session new k (tree_kept e) profile (sound.nodes j k at)
      go true e =
          let p = needed_path n.dirty_range n.path e in
          let shows = tree_changed p.0 e p.1 in
          node_carried old.session new k (ap (λ z. stored_bytes z k.path) shows ∙ stored_elsewhere (path_or_root p.0) (node_bytes (visible_tree old.session.tree) n) (visible_tree old.session.tree) k.path (λ path there same. ne (sound.apart i j n k p.0 path was at p.1 there same)))
          (λ path l. subst (λ z. LeadsToFile z path) (sym shows) (leads_still (path_or_root p.0) (node_bytes (visible_tree old.session.tree) n) (visible_tree old.session.tree) path l)) profile (sound.nodes j k at)

  same_path_kept : (b : Bool) → (cond b (synced_node n) n).path ≡ n.path
  same_path_kept true = refl
  same_path_kept false = refl

  pub sound_synced : (whole : VolumeView) → whole.session ≡ new → whole.nodes ≡ slice_set old.nodes i (option_map stored_node (entry_at old.nodes i)) → whole.handles ≡ old.handles → IsSoundVolume whole
  sound_synced whole session nodes handles = still_sound old whole i n (stored_node n) sound (record {
    was = was;
    nodes = nodes ∙ ap (λ o. slice_set old.nodes i (option_map stored_node o)) was;
    path = same_path_kept (needs_sync n);
    idle = subst (λ h. IsIdleSession h (visible_tree h.tree)) (sym session) (record { works = s.idle.works; shows = refl; files = s.idle.files });
    sound = subst (λ h. IsSoundNode h (stored_node n)) (sym session) stored_sound;
    others = λ j k ne e. subst (λ h. IsSoundNode h k) (sym session) (others_sound j k ne e);
    handles = handles_stay old.handles whole.handles handles;
  })

-- ---- a close

names_itself : (hs : List (Option Handle)) (j : ℕ) (g : Handle) → entry_at hs j ≡ Some g → list_any (refers_to_node g.node) hs ≡ true
names_itself [] j g e = absurd (cc)
names_itself (x ∷ hs) zero g e = ap (λ o. refers_to_node g.node o || list_any (refers_to_node g.node) hs) e ∙ ap (λ b. b || list_any (refers_to_node g.node) hs) (same_number g.node)
  where
    same_number : (m : ℕ) → (m == m) ≡ true
    same_number m = told m (eqb_tells m m)
      where
        told : (k : ℕ) → ((eqb k k ≡ true) × (k ≡ k)) ⊎ ((eqb k k ≡ false) × (k ≢ k)) → (k == k) ≡ true
        told k (inl e) = e.0
        told k (inr e) = absurd (e.1 refl)
names_itself (x ∷ hs) (suc j) g e = ap (λ b. refers_to_node g.node x || b) (names_itself hs j g e) ∙ or_true (refers_to_node g.node x)
  where
    or_true : (b : Bool) → (b || true) ≡ true
    or_true true = refl
    or_true false = refl

taken_entry : {A : Type 0} (xs : List (Option A)) (i j : ℕ) (x : A) → entry_at (slice_set xs i None) j ≡ Some x → (entry_at xs j ≡ Some x)
taken_entry xs i j x e = go (changed_entry_to xs i j)
  where
    go : (entry_at (slice_set xs i None) j ≡ entry_at xs j) ⊎ (entry_at (slice_set xs i None) j ≡ None) → entry_at xs j ≡ Some x
    go (inl k) = sym k ∙ e
    go (inr k) = absurd (let z : Some x ≡ None = sym e ∙ k in cc)

module _ (v new : VolumeView) (handle : ℕ) (h : Handle) (sound : IsSoundVolume v) (d : IsHandleDropped v handle h new) where
  old_handle : (j : ℕ) (g : Handle) → entry_at new.handles j ≡ Some g → entry_at v.handles j ≡ Some g
  old_handle j g e = taken_entry v.handles handle j g (ap (λ (hs : List (Option Handle)). entry_at hs j) (sym d.handles) ∙ e)

  old_node : (j : ℕ) (k : NodeView) → entry_at new.nodes j ≡ Some k → entry_at v.nodes j ≡ Some k
  old_node j k e = go (named new.handles h.node) refl
    where
      go : (b : Bool) → named new.handles h.node ≡ b → entry_at v.nodes j ≡ Some k
      go true is = ap (λ (ns : List (Option NodeView)). entry_at ns j) (sym (d.nodes ∙ ap (λ b. cond b v.nodes (slice_set v.nodes h.node None)) is)) ∙ e
      go false is = taken_entry v.nodes h.node j k (ap (λ (ns : List (Option NodeView)). entry_at ns j) (sym (d.nodes ∙ ap (λ b. cond b v.nodes (slice_set v.nodes h.node None)) is)) ∙ e)

  kept_node : (j : ℕ) (g : Handle) → entry_at new.handles j ≡ Some g → IsSome (entry_at v.nodes g.node) → IsSome (entry_at new.nodes g.node)
  kept_node j g at is = go (named new.handles h.node) refl
    where
      go : (b : Bool) → named new.handles h.node ≡ b → IsSome (entry_at new.nodes g.node)
      go true e = subst (λ (ns : List (Option NodeView)). IsSome (entry_at ns g.node)) (sym (d.nodes ∙ ap (λ b. cond b v.nodes (slice_set v.nodes h.node None)) e)) is
      go false e = subst (λ (ns : List (Option NodeView)). IsSome (entry_at ns g.node)) (sym (d.nodes ∙ ap (λ b. cond b v.nodes (slice_set v.nodes h.node None)) e))
          (subst IsSome (sym (entry_other v.nodes h.node g.node None (λ same. let k : true ≡ false = sym (names_itself new.handles j g at) ∙ ap (λ m. named new.handles m) (sym same) ∙ e in absurd (cc)))) is)

  pub sound_dropped : IsSoundVolume new
  sound_dropped = record {
    idle = subst (λ s. IsIdleSession s (visible_tree s.tree)) (sym d.session) sound.idle;
    nodes = λ j k e. subst (λ s. IsSoundNode s k) (sym d.session) (sound.nodes j k (old_node j k e));
    named = λ j g e. kept_node j g e (sound.named j g (old_handle j g e));
    apart = λ j k a b path other x y. sound.apart j k a b path other (old_node j a x) (old_node k b y);
  }

-- ---- calls that end otherwise

-- a session that has failed doesn't work
pub failed_not_working : (e : Error) (old new : SessionView) → FailsInCalls e old new → new.tree.failed ≡ false → ⊥
failed_not_working e old new (not, (operations, k)) works =
    let ends : IsCall k.at k.next (Err e) new = subst (λ b. IsCall k.at k.next (cond b (Ok (ops.Refused (refusals.error_refusal e))) (Err e)) new) not k.ends in
    let a = ends.answers.fails.failed in
    let b = healthy_view new works in
    absurd (let z : HasFailed ≡ Healthy (viewed_session new) = sym a ∙ b in cc)

pub part_profile : (a b : SessionView) (xs : List Operation) → IsSessionCallSequence a xs b → b.tree.disk.profile ≡ a.tree.disk.profile
part_profile a b xs (inl steps) = steps_profile a b xs steps
part_profile a b xs (inr (e, (is, k))) =
    let step = refusal_step k.at k.next e b is k.ends.answers in
    step.geometry.profile ∙ same_profile (is_remount k.next) k.at.tree.disk ∙ quiet_profile a k.at k.before k.quiet
  where
    same_profile : (r : Bool) (d : Disk) → (cond r (disk_with_order b.tree.disk.order d) d).profile ≡ d.profile
    same_profile true d = refl
    same_profile false d = refl

-- a volume whose session kept its tree
pub sound_kept : (old new : VolumeView) → IsSoundVolume old → IsIdleSession new.session (visible_tree old.session.tree) → new.session.tree.disk.profile ≡ old.session.tree.disk.profile → new.nodes ≡ old.nodes → new.handles ≡ old.handles → IsSoundVolume new
sound_kept old new sound idle profile nodes handles = record {
  idle = record { works = idle.works; shows = refl; files = idle.files };
  nodes = λ j k e. node_stays old.session new.session k idle.shows profile (sound.nodes j k (ap (λ (ns : List (Option NodeView)). entry_at ns j) (sym nodes) ∙ e));
  named = λ j h e. subst (λ (ns : List (Option NodeView)). IsSome (entry_at ns h.node)) (sym nodes) (sound.named j h (ap (λ (hs : List (Option Handle)). entry_at hs j) (sym handles) ∙ e));
  apart = λ j k a b path other x y. sound.apart j k a b path other (ap (λ (ns : List (Option NodeView)). entry_at ns j) (sym nodes) ∙ x) (ap (λ (ns : List (Option NodeView)). entry_at ns k) (sym nodes) ∙ y);
}

some_entry : {A : Type 0} (o : Option A) → IsSome o → (x : A) × (o ≡ Some x)
some_entry None is = absurd (cc)
some_entry (Some x) is = (x, refl)

-- ---- the calls

-- the table once a node is loaded
loaded_table : (old new : SessionView) (nodes loaded : List (Option NodeView)) (i : ℕ) (n : NodeView) → entry_at nodes i ≡ Some n → IsLoadedAt old nodes i new loaded → loaded ≡ slice_set nodes i (Some (loaded_node (node_bytes (visible_tree old.tree) n) n))
loaded_table old new nodes loaded i n at l = l.are ∙ ap (λ (o : Option NodeView). slice_set nodes i (option_map (λ k. loaded_node (node_bytes (visible_tree old.tree) k) k) o)) at

-- only bytes came into memory, and a position moved
pub sound_loaded : (old mid new : VolumeView) (handle : ℕ) (h : Handle) → IsSoundVolume old → entry_at old.handles handle ≡ Some h → IsLoadedAt old.session old.nodes h.node mid.session mid.nodes → new.session ≡ mid.session → new.nodes ≡ mid.nodes
    → ((j : ℕ) (g : Handle) → entry_at new.handles j ≡ Some g → (f : Handle) × ((entry_at old.handles j ≡ Some f) × (g.node ≡ f.node))) → IsSoundVolume new
sound_loaded old mid new handle h sound found l session nodes handles =
    let s = some_entry (entry_at old.nodes h.node) (sound.named handle h found) in
    sound_in_memory old mid new h.node s.0 (loaded_node (node_bytes (visible_tree old.session.tree) s.0) s.0) sound s.1 l session (nodes ∙ loaded_table old.session mid.session old.nodes mid.nodes h.node s.0 s.1 l) refl (loaded_sound old.session s.0 (sound.nodes h.node s.0 s.1)) handles

pub sound_written : (old mid new : VolumeView) (handle at : ℕ) (bytes : List ℕ) (h : Handle) → IsSoundVolume old → entry_at old.handles handle ≡ Some h → 0 < length bytes → IsAllowedWriteOffset old h (length bytes) at → IsLoadedAt old.session old.nodes h.node mid.session mid.nodes
    → ((n : NodeView) (was : List ℕ) → entry_at mid.nodes h.node ≡ Some n → n.contents ≡ Some was → new.nodes ≡ slice_set mid.nodes h.node (Some (written_node at bytes was n))) → new.session ≡ mid.session
    → ((j : ℕ) (g : Handle) → entry_at new.handles j ≡ Some g → (f : Handle) × ((entry_at old.handles j ≡ Some f) × (g.node ≡ f.node))) → IsSoundVolume new
sound_written old mid new handle at [] h sound found some fits l writes session handles = absurd (omega arith)
sound_written old mid new handle at (b ∷ bytes) h sound found some fits l writes session handles =
    let s = some_entry (entry_at old.nodes h.node) (sound.named handle h found) in
    let nb = node_bytes (visible_tree old.session.tree) s.0 in
    let loaded = loaded_table old.session mid.session old.nodes mid.nodes h.node s.0 s.1 l in
    let here = ap (λ (ns : List (Option NodeView)). entry_at ns h.node) loaded ∙ entry_set old.nodes h.node (Some (loaded_node nb s.0)) (entry_inside old.nodes h.node s.0 s.1) in
    let f = subst (λ o. IfSome o (λ n. (at ≡ write_offset h n) × (max n.size (at + length (b ∷ bytes)) ≤ profile_file_max old.session.tree.disk.profile))) s.1 fits in
    sound_in_memory old mid new h.node s.0 (written_node at (b ∷ bytes) nb s.0) sound s.1 l session
    (writes (loaded_node nb s.0) nb here refl ∙ ap (λ (ns : List (Option NodeView)). slice_set ns h.node (Some (written_node at (b ∷ bytes) nb (loaded_node nb s.0)))) loaded ∙ set_twice old.nodes h.node (Some (loaded_node nb s.0)) (Some (written_node at (b ∷ bytes) nb s.0))) refl
    (written_sound old.session s.0 (sound.nodes h.node s.0 s.1) at b bytes f.1) handles

pub sound_resized : (old mid new : VolumeView) (handle size : ℕ) (h : Handle) → IsSoundVolume old → entry_at old.handles handle ≡ Some h → size ≤ profile_file_max old.session.tree.disk.profile → IsLoadedAt old.session old.nodes h.node mid.session mid.nodes
    → ((n : NodeView) (was : List ℕ) → entry_at mid.nodes h.node ≡ Some n → n.contents ≡ Some was → new.nodes ≡ slice_set mid.nodes h.node (Some (resized_node size was n))) → new.session ≡ mid.session
    → ((j : ℕ) (g : Handle) → entry_at new.handles j ≡ Some g → (f : Handle) × ((entry_at old.handles j ≡ Some f) × (g.node ≡ f.node))) → IsSoundVolume new
sound_resized old mid new handle size h sound found small l resizes session handles =
    let s = some_entry (entry_at old.nodes h.node) (sound.named handle h found) in
    let nb = node_bytes (visible_tree old.session.tree) s.0 in
    let loaded = loaded_table old.session mid.session old.nodes mid.nodes h.node s.0 s.1 l in
    let here = ap (λ (ns : List (Option NodeView)). entry_at ns h.node) loaded ∙ entry_set old.nodes h.node (Some (loaded_node nb s.0)) (entry_inside old.nodes h.node s.0 s.1) in
    let one = loaded_sound old.session s.0 (sound.nodes h.node s.0 s.1) in
    sound_in_memory old mid new h.node s.0 (resized_node size nb (loaded_node nb s.0)) sound s.1 l session
    (resizes (loaded_node nb s.0) nb here refl ∙ ap (λ (ns : List (Option NodeView)). slice_set ns h.node (Some (resized_node size nb (loaded_node nb s.0)))) loaded ∙ set_twice old.nodes h.node (Some (loaded_node nb s.0)) (Some (resized_node size nb (loaded_node nb s.0))))
    (resized_path (size == s.0.size) (loaded_node nb s.0) (record (loaded_node nb s.0) { size = size; contents = Some (take size (zero_padded size nb)); dirty_range = Some (resize_dirty_range s.0.dirty_range s.0.size size) }) refl) (resized_sound old.session (loaded_node nb s.0) one size nb refl small) handles
  where
    resized_path : (b : Bool) (n m : NodeView) → m.path ≡ n.path → (cond b n m).path ≡ n.path
    resized_path true n m e = refl
    resized_path false n m e = e

pub sound_after_sync : (old new : VolumeView) (handle : ℕ) (h : Handle) → IsSoundVolume old → entry_at old.handles handle ≡ Some h → IsSyncedAt old.session old.nodes h.node new.session new.nodes → new.handles ≡ old.handles → IsSoundVolume new
sound_after_sync old new handle h sound found s handles =
    let k = some_entry (entry_at old.nodes h.node) (sound.named handle h found) in
    sound_synced old new.session h.node k.0 sound k.1 (s.node k.0 k.1) new refl s.are handles

pub sound_if_working : (e : Error) (old new : VolumeView) (i : ℕ) → IsSoundVolume old → FailsSyncAt e old.session old.nodes i new.session → new.nodes ≡ old.nodes → new.handles ≡ old.handles → IsSoundIfWorking new
sound_if_working e old new i sound s nodes handles works = go s.ends
  where
    go : IsNodeSyncRefused e old.session s.node new.session ⊎ FailsInCalls e old.session new.session → IsSoundVolume new
    go (inl r) = sound_kept old new sound r.idle (part_profile old.session new.session r.operations r.part) nodes handles
    go (inr f) = absurd (failed_not_working e old.session new.session f works)

-- ---- a volume that begins

pub empty_sound : (h : SessionView) → h.tree.failed ≡ false → h.files ≡ [] → IsSoundVolume (record { session = h; nodes = []; handles = [] })
empty_sound h works files = record {
  idle = record { works = works; shows = refl; files = inl files };
  nodes = λ i n e. absurd (cc);
  named = λ i g e. absurd (cc);
  apart = λ i j n m path other x y p q same. absurd (cc);
}

pub begun_state : (h : SessionView) (s : Session) → s.files ≡ [] → (system_state h).state ≡ Healthy s → (h.tree.failed ≡ false) × (h.files ≡ [])
begun_state h s none e = go h.tree.failed refl e
  where
    same_view : (a b : Session) → Healthy a ≡ Healthy b → a ≡ b
    same_view a b k = cc

    go : (b : Bool) → h.tree.failed ≡ b → cond b HasFailed (Healthy (viewed_session h)) ≡ Healthy s → (h.tree.failed ≡ false) × (h.files ≡ [])
    go true f k = absurd (cc)
    go false f k = (f, ap (λ (z : Session). z.files) (same_view (viewed_session h) s k) ∙ none)

lost : (reply : Reply) → None ≡ Some reply → ⊥
lost reply e = absurd (cc)

-- after a remount that succeeds no file is open, and the tree is the disk's
pub remounted_state : (old new : SessionView) (reply : Reply) → IsCall old ops.Remount (Ok reply) new → (new.tree.failed ≡ false) × ((new.files ≡ []) × ShowsTree new.tree.disk (Some (visible_tree new.tree)))
remounted_state old new reply call =
    let s = go call.answers.answered.shown call.answers.answered.answers in
    (s.0, (s.1, subst (HealthyHasDiskTree new.tree.disk) (healthy_view new s.0) call.answers.agrees))
  where
    go : (shown : Option Tree) → remount_result shown ≡ (Some reply, (system_state new).state) → (new.tree.failed ≡ false) × (new.files ≡ [])
    go None e = absurd (lost reply (ap (λ (z : Option Reply × SessionHealth). z.0) e))
    go (Some tree) e = begun_state new (mounted_session tree) refl (sym (ap (λ (z : Option Reply × SessionHealth). z.1) e))

not_remounted : (old new : SessionView) (e : Error) → IsCall old ops.Remount (Err e) new → new.tree.failed ≡ true
not_remounted old new e call = go new.tree.failed refl
  where
    go : (b : Bool) → new.tree.failed ≡ b → new.tree.failed ≡ true
    go true k = k
    go false k =
        let a = call.answers.fails.failed in
        absurd (let z : HasFailed ≡ Healthy (viewed_session new) = sym a ∙ healthy_view new k in cc)

pub remounted_sound : (old new : VolumeView) (x : Result Reply Error) → IsCall old.session ops.Remount x new.session → new.nodes ≡ [] → new.handles ≡ [] → IsSoundIfWorking new
remounted_sound old new (Ok reply) call nodes handles works =
    let s = remounted_state old.session new.session reply call in
    subst IsSoundVolume (sym (ap₂ (λ (ns : List (Option NodeView)) (hs : List (Option Handle)). record { session = new.session; nodes = ns; handles = hs }) nodes handles)) (empty_sound new.session s.0 s.1.0)
remounted_sound old new (Err e) call nodes handles works = absurd (let k : true ≡ false = sym (not_remounted old.session new.session e call) ∙ works in cc)

pub remounted : (old new : VolumeView) (x : Result Reply Error) → IsCall old.session ops.Remount x new.session → new.nodes ≡ [] → new.handles ≡ [] → IsVolumeRemount old x new
remounted old new x call nodes handles = record {
  call = call;
  closed = (nodes, handles);
  works = λ reply e. let s = remounted_state old.session new.session reply (subst (λ z. IsCall old.session ops.Remount z new.session) e call) in (s.0, s.1.1);
  failed = λ e k. not_remounted old.session new.session e (subst (λ z. IsCall old.session ops.Remount z new.session) k call);
}
