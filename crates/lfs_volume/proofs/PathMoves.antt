-- A volume stays sound when a file is removed, and when an entry is renamed.
use Rattle.std.proofs.Common.{inl, inr, ℕ, ◌≡◌, ◌≤◌, ◌&&◌, ◌||◌, nat_lt, not, Bool, true, false, cond, is_none, is_some, List, [], ◌∷◌, ◌++◌, length, drop, map, Option, Some, None, Ok, Err, Result, unwrap_or, refl, sym, ap, ap₂, subst, ◌∙◌, arith}
use Rattle.std.specs.Prelude.{◌⊎◌, IsSome, slice_set}
use Rattle.std.specs.List.{position_or_len}
use Rattle.std.specs.Option.{option_and_then, option_map}
use Rattle.std.proofs.lemmas.Bool.{ltb-false}
use Rattle.lfs_device.specs.declared.error.Error.{Error}
use Rattle.lfs_model.specs.format.Disk.{profile_file_max}
use Rattle.lfs_model.specs.format.Names.{same_name}
use Rattle.lfs_model.specs.tree.Shown.{all_entries, disk_list_bytes}
use Rattle.lfs_model.specs.format.Thread.{root_address}
use Rattle.lfs_model.specs.tree.Tree.{Path, Tree, root_slot}
use Rattle.lfs_model.specs.session.Operations as ops
use Rattle.lfs_model.specs.session.Operations.{Busy, EntryFull, Invalid, IsDir, NameTooLong, NoEnt, NoSpace, NotDir, NotEmpty, ReadOnly, Refusal, parse_path, path_bytes}
use Rattle.lfs_model.specs.session.Session.{DiskSummary, exceeds_half_pair, has_long_name, has_open_file, lacks_room, parents_refusal, refuse_if}
use Rattle.lfs_model.specs.session.Refusals.{is_root_path, operation_refusal, path_or_root, path_unusable}
use Rattle.lfs_model.specs.session.TreeEdits.{directory_names, file_bytes, is_beneath, is_directory, is_file, last_name, names_with, names_without, node_attributes_of, node_with_names, parent_path, same_path, tree_removing, tree_renaming, tree_with_change, tree_with_subtree, without_prefix}
use Rattle.lfs_model.proofs.Parents.{parent_has_name}
use Rattle.lfs_model.proofs.Paths.{cancel, name_from_same, path_from_same, path_itself, rest_itself, same_itself}
use Rattle.lfs_tree.specs.TreeState.{visible_tree}
use Rattle.lfs_fs.specs.CallEffects.{IsCall}
use Rattle.lfs_fs.specs.Replies.{reply_from}
use Rattle.lfs_fs.specs.SessionView.{SessionView}
use Rattle.lfs_volume.specs.declared.handles.Handle.{Handle}
use Rattle.lfs_volume.specs.Calls.{Perform, has_path, is_at_or_beneath, node_after_rename, renamed_path, nodes_after_operation, unlink_path, with_path, nodes_with_paths, nodes_without_path}
use Rattle.lfs_volume.specs.DirtyRanges.{DiffersInDirtyRange}
use Rattle.lfs_volume.specs.Opened.{IsIdleSession, LeadsToFile}
use Rattle.lfs_volume.specs.Volume.{NodeView, VolumeView, entry_at, idle_session, loaded_node, node_bytes, stored_bytes, unlinked_node}
use Rattle.lfs_volume.specs.VolumeCalls.{IsSoundIfWorking, IsSoundNode, IsSoundVolume, IsHealthyVolumeCall}
use Rattle.lfs_volume.proofs.Entries.{no_entry, set_same}
use Rattle.lfs_volume.proofs.MovedFiles.{IsFileAt, MayRename, NamesNodes, StaysFile, moved_stays, not_beneath_new, other_stays, parents_from, parents_of, removed_stays}
use Rattle.lfs_volume.proofs.NodeTables.{HasPathOnce, entry_map, loaded_nodes, moved_table, unlinked_table}
use Rattle.lfs_volume.proofs.PathBytes.{Beneath, IsSpelled, appended, beneath, elsewhere, one_spelling, spelled_as, there, whole_path}
use Rattle.lfs_volume.proofs.Saving.{quiet_profile}
use Rattle.lfs_volume.proofs.Soundness.{node_stays, seen_long, sound_kept}
use Rattle.lfs_volume.proofs.Steps.{none_at, not_refused_if}
use Rattle.lfs_volume.proofs.Unlinking.{IsReady, accepted_after, ended_after, ended_sound, idle_after, is_done, passes_alone, profile_after, remove_on_entries, rename_on_entries, tree_after}

-- ---- the tree that a session shows

names_nodes : (h : SessionView) → NamesNodes (visible_tree h.tree)
names_nodes h path name node e = parent_has_name (disk_list_bytes h.tree.disk) (all_entries h.tree.pairs) (root_slot (root_address h.tree.pairs)) path name node e

root_no_file : (h : SessionView) → is_file (visible_tree h.tree []) ≡ false
root_no_file h = refl

file_at : (t : Tree) (path : List ℕ) → LeadsToFile t path → IsFileAt t (path_or_root path)
file_at t path l = record { parents = parents_of t (path_or_root path) l.parents; file = l.file }

leads_from : (t : Tree) (path : List ℕ) (q : Path) → parse_path path ≡ Some q → IsFileAt t q → LeadsToFile t path
leads_from t path q is f =
    let same : path_or_root path ≡ q = ap (λ o. unwrap_or o []) is in
    record {
      given = ap is_none is;
      parents = ap (parents_refusal t []) same ∙ parents_from t q f.parents;
      file = ap (λ p. is_file (t p)) same ∙ f.file;
    }

parsed : (path : List ℕ) → is_none (parse_path path) ≡ false → parse_path path ≡ Some (path_or_root path)
parsed path given = go (parse_path path) given
  where
    go : (o : Option Path) → is_none o ≡ false → o ≡ Some (unwrap_or o [])
    go None e = absurd (cc)
    go (Some p) e = refl

-- the path of a file
spelled_file : (h : SessionView) (path : List ℕ) → LeadsToFile (visible_tree h.tree) path → IsSpelled path (path_or_root path)
spelled_file h path l = spelled_as path (path_or_root path) (parsed path l.given) (go (path_or_root path) refl)
  where
    go : (p : Path) → path_or_root path ≡ p → is_root_path p ≡ false
    go [] e = absurd (let k : false ≡ true = sym (root_no_file h) ∙ ap (λ q. is_file (visible_tree h.tree q)) (sym e) ∙ l.file in cc)
    go (name ∷ p) e = refl

-- a path that may be an entry's
pub record IsEntryPath (path : List ℕ) : Type 0 where
  pub parsed : parse_path path ≡ Some (path_or_root path)
  pub inner : is_root_path (path_or_root path) ≡ false

entry_path : (path : List ℕ) → path_unusable (parse_path path) ≡ false → IsEntryPath path
entry_path path usable = record { parsed = is (parse_path path) usable; inner = inner (parse_path path) usable }
  where
    is : (o : Option Path) → path_unusable o ≡ false → o ≡ Some (unwrap_or o [])
    is None e = absurd (cc)
    is (Some p) e = refl

    inner : (o : Option Path) → path_unusable o ≡ false → is_root_path (unwrap_or o []) ≡ false
    inner None e = absurd (cc)
    inner (Some p) e = e

-- ---- a node at the same file

-- The same bytes, and the same dirty range, at a path that leads to the same stored bytes.
node_carried_to : (a b : SessionView) (n m : NodeView) → m.size ≡ n.size → m.contents ≡ n.contents → m.dirty_range ≡ n.dirty_range → stored_bytes (visible_tree b.tree) m.path ≡ stored_bytes (visible_tree a.tree) n.path
    → ((path : List ℕ) → m.path ≡ Some path → (was : List ℕ) × (n.path ≡ Some was)) → ((path : List ℕ) → m.path ≡ Some path → LeadsToFile (visible_tree b.tree) path) → b.tree.disk.profile ≡ a.tree.disk.profile → IsSoundNode a n → IsSoundNode b m
node_carried_to a b n m size contents dirty_range stored was leads profile s = record {
  sized = λ none. ap length stored ∙ s.sized (sym contents ∙ none) ∙ sym size;
  unchanged = λ none. dirty_range ∙ s.unchanged (sym contents ∙ none);
  long = λ bytes e. s.long bytes (sym contents ∙ e) ∙ sym size;
  differs = λ path bytes at c.
      let w = was path at in
      subst (λ z. DiffersInDirtyRange z bytes m.dirty_range) (sym (ap (stored_bytes (visible_tree a.tree)) w.1) ∙ sym stored ∙ ap (stored_bytes (visible_tree b.tree)) at)
      (subst (DiffersInDirtyRange (stored_bytes (visible_tree a.tree) (Some w.0)) bytes) (sym dirty_range) (s.differs w.0 bytes w.1 (sym contents ∙ c)));
  small = λ k. subst (λ p. m.size ≤ profile_file_max p) (sym profile) (subst (λ z. z ≤ profile_file_max a.tree.disk.profile) (sym size) (s.small (subst IsSome dirty_range k)));
  leads = leads;
}

-- a node without a path, whose bytes are in memory
unlinked_sound : (a b : SessionView) (n : NodeView) → IsSoundNode a n → IsSoundNode b (unlinked_node (loaded_node (node_bytes (visible_tree a.tree) n) n))
unlinked_sound a b n s = record {
  sized = λ none. absurd (no_list _ none);
  unchanged = λ none. refl;
  long = λ bytes e. ap length (sym (same_list _ bytes e)) ∙ seen_long a n s;
  differs = λ path bytes at c. absurd (lacks path at);
  small = λ k. absurd (let z : false ≡ true = k in cc);
  leads = λ path at. absurd (lacks path at);
}
  where
    same_list : (xs ys : List ℕ) → Some xs ≡ Some ys → xs ≡ ys
    same_list xs ys e = cc

    no_list : (xs : List ℕ) → Some xs ≡ None → ⊥
    no_list xs e = absurd (cc)

    lacks : (path : List ℕ) → None ≡ Some path → ⊥
    lacks path e = absurd (cc)

-- ---- a table of nodes that are changed one by one

-- paths that lead to one file came from paths that did
pub record CameFromOne (n m : NodeView) : Type 0 where
  pub path : List ℕ
  pub other : List ℕ
  pub is : n.path ≡ Some path
  pub also : m.path ≡ Some other
  pub same : path_or_root path ≡ path_or_root other

sound_mapped : (mid new : VolumeView) (nodes : List (Option NodeView)) (f : NodeView → NodeView) → (found : (i : ℕ) (n : NodeView) → entry_at nodes i ≡ Some n → IsSoundNode mid.session n)
    → (apart : (i j : ℕ) (n m : NodeView) (path other : List ℕ) → entry_at nodes i ≡ Some n → entry_at nodes j ≡ Some m → n.path ≡ Some path → m.path ≡ Some other → path_or_root path ≡ path_or_root other → i ≡ j)
    → (named : (i : ℕ) (h : Handle) → entry_at new.handles i ≡ Some h → IsSome (entry_at nodes h.node)) → new.nodes ≡ map (option_map f) nodes → IsIdleSession new.session (visible_tree new.session.tree)
    → ((n : NodeView) → IsSoundNode mid.session n → IsSoundNode new.session (f n))
    → ((n m : NodeView) (path other : List ℕ) → IsSoundNode mid.session n → IsSoundNode mid.session m → (f n).path ≡ Some path → (f m).path ≡ Some other → path_or_root path ≡ path_or_root other → CameFromOne n m) → IsSoundVolume new
sound_mapped mid new nodes f found apart named are idle each came = record {
  idle = idle;
  nodes = λ i n e. let k = was i n e in subst (IsSoundNode new.session) k.1.1 (each k.0 (found i k.0 k.1.0));
  named = λ i h e. subst IsSome (sym (entry_is h.node)) (still (entry_at nodes h.node) (named i h e));
  apart = λ i j n m path other x y p q same.
      let k = was i n x in
      let l = was j m y in
      let c = came k.0 l.0 path other (found i k.0 k.1.0) (found j l.0 l.1.0) (ap (λ (z : NodeView). z.path) k.1.1 ∙ p) (ap (λ (z : NodeView). z.path) l.1.1 ∙ q) same in
      apart i j k.0 l.0 c.path c.other k.1.0 l.1.0 c.is c.also c.same;
}
  where
    entry_is : (i : ℕ) → entry_at new.nodes i ≡ option_map f (entry_at nodes i)
    entry_is i = ap (λ (ns : List (Option NodeView)). entry_at ns i) are ∙ entry_map f nodes i

    from : (o : Option NodeView) (n : NodeView) → option_map f o ≡ Some n → (k : NodeView) × ((o ≡ Some k) × (f k ≡ n))
    from None n e = absurd (cc)
    from (Some k) n e = (k, (refl, (let z : Some (f k) ≡ Some n = e in cc)))

    was : (i : ℕ) (n : NodeView) → entry_at new.nodes i ≡ Some n → (k : NodeView) × ((entry_at nodes i ≡ Some k) × (f k ≡ n))
    was i n e = from (entry_at nodes i) n (sym (entry_is i) ∙ e)

    still : (o : Option NodeView) → IsSome o → IsSome (option_map f o)
    still None is = is
    still (Some n) is = refl

-- ---- nodes and a path

none_or_some : (o : Option (List ℕ)) → (o ≡ None) ⊎ ((path : List ℕ) × (o ≡ Some path))
none_or_some None = inl refl
none_or_some (Some path) = inr (path, refl)

true_or_false : (b : Bool) → (b ≡ true) ⊎ (b ≡ false)
true_or_false true = inl refl
true_or_false false = inr refl

has_path_is : (path was : List ℕ) (n : NodeView) → n.path ≡ Some was → has_path path (Some n) ≡ same_name was path
has_path_is path was n at = ap (λ o. unwrap_or (option_map (λ p. same_name p path) o) false) at

path_of : (path : List ℕ) (n : NodeView) → has_path path (Some n) ≡ true → n.path ≡ Some path
path_of path n e = go (none_or_some n.path)
  where
    go : (n.path ≡ None) ⊎ ((was : List ℕ) × (n.path ≡ Some was)) → n.path ≡ Some path
    go (inl none) = absurd (let k : false ≡ true = sym (ap (λ o. unwrap_or (option_map (λ p. same_name p path) o) false) none) ∙ e in cc)
    go (inr (was, at)) = at ∙ ap Some (name_from_same was path (sym (has_path_is path was n at) ∙ e))

pub once_at : (v : VolumeView) (path : List ℕ) → IsSoundVolume v → HasPathOnce path v.nodes
once_at v path sound i j n m x y p q = sound.apart i j n m path path x y (path_of path n p) (path_of path m q) refl

-- a node that hasn't the path leads elsewhere
leads_elsewhere : (path was : List ℕ) (n : NodeView) → IsEntryPath path → n.path ≡ Some was → is_none (parse_path was) ≡ false → has_path path (Some n) ≡ false → path_or_root path ≡ path_or_root was → ⊥
leads_elsewhere path was n e at given other same =
    let one : path ≡ was = one_spelling path was (path_or_root path) e.parsed (parsed was given ∙ ap Some (sym same)) in
    let k : true ≡ false = sym (ap (same_name was) one ∙ same_itself was) ∙ sym (has_path_is path was n at) ∙ other in
    absurd (cc)

kept_path : (t : Tree) (path to : List ℕ) (n : NodeView) → (unlink_path t path n).path ≡ Some to → n.path ≡ Some to
kept_path t path to n e = go (has_path path (Some n)) e
  where
    lacks : None ≡ Some to → n.path ≡ Some to
    lacks k = absurd (cc)

    go : (b : Bool) → (cond b (unlinked_node (loaded_node (node_bytes t n) n)) n).path ≡ Some to → n.path ≡ Some to
    go true k = lacks k
    go false k = k

zero_from : (n : ℕ) → nat_lt 0 n ≡ false → n ≡ 0
zero_from n e = (let l = ltb-false 0 n e in omega arith)

-- ---- a remove

abbrev remove_checks : DiskSummary → Tree → List ℕ → List (Option Refusal)
remove_checks around t path =
    refuse_if (not around.writable) ReadOnly
    ∷ refuse_if (path_unusable (parse_path path)) Invalid
    ∷ parents_refusal t [] (path_or_root path)
    ∷ refuse_if (is_none (t (path_or_root path))) NoEnt
    ∷ refuse_if (nat_lt 0 (length (directory_names (t (path_or_root path))))) NotEmpty
    ∷ refuse_if (has_open_file (same_path (path_or_root path)) []) Busy
    ∷ []

pub record MayRemove (t : Tree) (path : List ℕ) : Type 0 where
  pub entry : IsEntryPath path
  pub empty : length (directory_names (t (path_or_root path))) ≡ 0

may_remove : (around : DiskSummary) (t : Tree) (path : List ℕ) → operation_refusal around (idle_session t) (ops.Remove path) ≡ None → MayRemove t path
may_remove around t path passes =
    let usable : Option Refusal = refuse_if (path_unusable (parse_path path)) Invalid in
    let empty : Option Refusal = refuse_if (nat_lt 0 (length (directory_names (t (path_or_root path))))) NotEmpty in
    record {
      entry = entry_path path (not_refused_if (path_unusable (parse_path path)) Invalid (none_at (remove_checks around t path) 1 usable passes refl));
      empty = zero_from (length (directory_names (t (path_or_root path)))) (not_refused_if (nat_lt 0 (length (directory_names (t (path_or_root path))))) NotEmpty (none_at (remove_checks around t path) 4 empty passes refl));
    }

module _ (mid new : SessionView) (path : List ℕ) (may : MayRemove (visible_tree mid.tree) path) (shows : visible_tree new.tree ≡ tree_removing (path_or_root path) (visible_tree mid.tree)) (profile : new.tree.disk.profile ≡ mid.tree.disk.profile) where
  left_sound : (n : NodeView) → IsSoundNode mid n → IsSoundNode new (unlink_path (visible_tree mid.tree) path n)
  left_sound n s = go (true_or_false (has_path path (Some n))) (none_or_some n.path)
    where
      there_still : (was : List ℕ) → n.path ≡ Some was → has_path path (Some n) ≡ false → StaysFile (visible_tree mid.tree) (tree_removing (path_or_root path) (visible_tree mid.tree)) (path_or_root was) (path_or_root was)
      there_still was at other =
          removed_stays (path_or_root path) (path_or_root was) (visible_tree mid.tree) (names_nodes mid) may.empty
          (leads_elsewhere path was n may.entry at (s.leads was at).given other) (file_at (visible_tree mid.tree) was (s.leads was at))

      same : Option (List ℕ) → has_path path (Some n) ≡ false → unlink_path (visible_tree mid.tree) path n ≡ n
      same o other = ap (λ b. cond b (unlinked_node (loaded_node (node_bytes (visible_tree mid.tree) n) n)) n) other

      kept : has_path path (Some n) ≡ false → (n.path ≡ None) ⊎ ((was : List ℕ) × (n.path ≡ Some was)) → IsSoundNode new n
      kept other (inl none) =
          node_carried_to mid new n n refl refl refl (ap (stored_bytes (visible_tree new.tree)) none ∙ sym (ap (stored_bytes (visible_tree mid.tree)) none)) (λ q at. (q, at)) (λ q at. absurd (let z : None ≡ Some q = sym none ∙ at in cc)) profile s
      kept other (inr (was, at)) =
          let k = there_still was at other in
          node_carried_to mid new n n refl refl refl
          (ap₂ stored_bytes shows at ∙ k.bytes ∙ sym (ap (stored_bytes (visible_tree mid.tree)) at)) (λ q here. (q, here))
          (λ q here. subst (λ z. LeadsToFile z q) (sym shows) (subst (LeadsToFile (tree_removing (path_or_root path) (visible_tree mid.tree))) (let z : Some was ≡ Some q = sym at ∙ here in cc) (leads_from (tree_removing (path_or_root path) (visible_tree mid.tree)) was (path_or_root was) (parsed was (s.leads was at).given) k.leads))) profile s

      go : (has_path path (Some n) ≡ true) ⊎ (has_path path (Some n) ≡ false) → (n.path ≡ None) ⊎ ((was : List ℕ) × (n.path ≡ Some was)) → IsSoundNode new (unlink_path (visible_tree mid.tree) path n)
      go (inl has) at = subst (IsSoundNode new) (sym (ap (λ b. cond b (unlinked_node (loaded_node (node_bytes (visible_tree mid.tree) n) n)) n) has)) (unlinked_sound mid new n s)
      go (inr other) at = subst (IsSoundNode new) (sym (ap (λ b. cond b (unlinked_node (loaded_node (node_bytes (visible_tree mid.tree) n) n)) n) other)) (kept other at)

-- what is known of the nodes from before, once one of them was loaded
before_sound : (old mid : VolumeView) (place : ℕ) → IsSoundVolume old → IsReady old mid place → (i : ℕ) (n : NodeView) → entry_at old.nodes i ≡ Some n → IsSoundNode mid.session n
before_sound old mid place sound r i n e = node_stays old.session mid.session n r.loaded.idle.shows (quiet_profile old.session mid.session r.loaded.operations r.loaded.calls) (sound.nodes i n e)

pub sound_removed : (old mid new : VolumeView) (place : ℕ) (path : List ℕ) → IsSoundVolume old → IsReady old mid place → IsCall mid.session (ops.Remove path) (Ok ops.Done) new.session
    → new.nodes ≡ map (option_map (unlink_path (visible_tree mid.session.tree) path)) old.nodes → new.handles ≡ old.handles → IsSoundVolume new
sound_removed old mid new place path sound r call nodes handles =
    let o = remove_on_entries path in
    let op = ops.Remove path in
    let t = visible_tree mid.session.tree in
    let d = is_done old mid place sound r op o new.session ops.Done refl call in
    let may = may_remove d.around t path (passes_alone old mid place sound r op o new.session ops.Done d) in
    sound_mapped mid new old.nodes (unlink_path t path) (before_sound old mid place sound r) sound.apart
    (λ i h e. sound.named i h (ap (λ (hs : List (Option Handle)). entry_at hs i) (sym handles) ∙ e)) nodes (idle_after old mid place sound r op o new.session ops.Done d)
    (left_sound mid.session new.session path may (tree_after old mid place sound r op o new.session ops.Done d) (profile_after old mid place sound r op o new.session ops.Done call))
    (λ n m p q s k x y same. record { path = p; other = q; is = kept_path t path p n x; also = kept_path t path q m y; same = same })

-- ---- a rename

abbrev rename_checks : DiskSummary → Tree → List ℕ → List ℕ → List (Option Refusal)
rename_checks around t from to =
    refuse_if (not around.writable) ReadOnly
    ∷ refuse_if (path_unusable (parse_path from) || path_unusable (parse_path to) || is_beneath (path_or_root from) (path_or_root to)) Invalid
    ∷ parents_refusal t [] (path_or_root from)
    ∷ parents_refusal t [] (path_or_root to)
    ∷ refuse_if (has_long_name around (path_or_root to)) NameTooLong
    ∷ refuse_if (is_none (t (path_or_root from))) NoEnt
    ∷ refuse_if (not (same_path (path_or_root from) (path_or_root to)) && is_directory (t (path_or_root from)) && is_file (t (path_or_root to))) NotDir
    ∷ refuse_if (not (same_path (path_or_root from) (path_or_root to)) && is_file (t (path_or_root from)) && is_directory (t (path_or_root to))) IsDir
    ∷ refuse_if (not (same_path (path_or_root from) (path_or_root to)) && nat_lt 0 (length (directory_names (t (path_or_root to))))) NotEmpty
    ∷ refuse_if (has_open_file (λ p. is_some (without_prefix (path_or_root from) p) || same_path (path_or_root to) p) []) Busy
    ∷ refuse_if (not (same_path (path_or_root from) (path_or_root to)) && exceeds_half_pair around (last_name (path_or_root to)) (node_attributes_of (t (path_or_root from)))) EntryFull
    ∷ refuse_if (lacks_room around [] 2) NoSpace
    ∷ []

-- what the checks of a rename leave, where the paths differ
pub record IsRename (t : Tree) (from to : List ℕ) : Type 0 where
  pub entry : IsEntryPath from
  pub target : IsEntryPath to
  pub may : MayRename t (path_or_root from) (path_or_root to)

or_none : (a b : Bool) → (a || b) ≡ false → (a ≡ false) × (b ≡ false)
or_none true b e = absurd (cc)
or_none false b e = (refl, e)

and_not : (a b : Bool) → a ≡ false → (not a && b) ≡ false → b ≡ false
and_not a b e k = sym (ap (λ z. not z && b) e) ∙ k

no_rest : (p q : Path) → is_beneath p q ≡ false → same_path p q ≡ false → (r : Path) → q ≡ p ++ r → ⊥
no_rest p q not_beneath differ r e =
    let k : is_some (without_prefix p q) ≡ true = ap (λ z. is_some (without_prefix p z)) e ∙ ap is_some (rest_itself p r) in
    let l : true ≡ false = sym (ap₂ (λ a b. a && not b) k differ) ∙ not_beneath in
    absurd (cc)

is_rename : (h : SessionView) (around : DiskSummary) (from to : List ℕ) → same_name from to ≡ false → operation_refusal around (idle_session (visible_tree h.tree)) (ops.Rename from to) ≡ None → IsRename (visible_tree h.tree) from to
is_rename h around from to apart passes =
    let t = visible_tree h.tree in
    let p = path_or_root from in
    let q = path_or_root to in
    let unusable = path_unusable (parse_path from) || path_unusable (parse_path to) || is_beneath p q in
    let usable : Option Refusal = refuse_if unusable Invalid in
    let full = not (same_path p q) && nat_lt 0 (length (directory_names (t q))) in
    let empty : Option Refusal = refuse_if full NotEmpty in
    let k = or_none (path_unusable (parse_path from) || path_unusable (parse_path to)) (is_beneath p q) (not_refused_if unusable Invalid (none_at (rename_checks around t from to) 1 usable passes refl)) in
    let l = or_none (path_unusable (parse_path from)) (path_unusable (parse_path to)) k.0 in
    let entry = entry_path from l.0 in
    let target = entry_path to l.1 in
    let differ = differ_by entry target (true_or_false (same_path p q)) in
    record {
      entry = entry;
      target = target;
      may = record {
        differ = differ;
        aside_old = no_rest p q k.1 differ;
        not_root = λ e. (let z : true ≡ false = sym (ap is_root_path e) ∙ entry.inner in absurd (cc));
        parents = parents_of t q (none_at (rename_checks around t from to) 3 (parents_refusal t [] q) passes refl);
        names = names_nodes h;
        empty = zero_from (length (directory_names (t q))) (and_not (same_path p q) (nat_lt 0 (length (directory_names (t q)))) differ (not_refused_if full NotEmpty (none_at (rename_checks around t from to) 8 empty passes refl)));
      };
    }
  where
    differ_by : IsEntryPath from → IsEntryPath to → (same_path (path_or_root from) (path_or_root to) ≡ true) ⊎ (same_path (path_or_root from) (path_or_root to) ≡ false) → same_path (path_or_root from) (path_or_root to) ≡ false
    differ_by a b (inr e) = e
    differ_by a b (inl e) =
        let one : from ≡ to = one_spelling from to (path_or_root to) (a.parsed ∙ ap Some (path_from_same (path_or_root from) (path_or_root to) e)) b.parsed in
        let k : true ≡ false = sym (ap (same_name from) (sym one) ∙ same_itself from) ∙ apart in
        absurd (cc)

-- the new path isn't beneath the old one
pub aside_bytes : (t : Tree) (from to : List ℕ) → IsRename t from to → is_at_or_beneath from to ≡ false
aside_bytes t from to k = go (beneath from to (path_or_root from) (path_or_root to) (spelled_as from (path_or_root from) k.entry.parsed k.entry.inner) (spelled_as to (path_or_root to) k.target.parsed k.target.inner))
  where
    go : Beneath from to (path_or_root from) (path_or_root to) → is_at_or_beneath from to ≡ false
    go (there r e test left) = absurd (k.may.aside_old r e)
    go (elsewhere never test) = test

-- where a node is after the rename
data Way (t : Tree) (from to : List ℕ) (n : NodeView) : Type 0 where
  goes : node_after_rename from to (unlink_path t to n) ≡ unlinked_node (loaded_node (node_bytes t n) n) → Way t from to n
  moves : (was : List ℕ) (r : Path) → n.path ≡ Some was → path_or_root was ≡ path_or_root from ++ r → node_after_rename from to (unlink_path t to n) ≡ with_path (Some (to ++ path_bytes r)) n → parse_path (to ++ path_bytes r) ≡ Some (path_or_root to ++ r) → Way t from to n
  stays : (was : List ℕ) → n.path ≡ Some was → ((r : Path) → path_or_root was ≡ path_or_root from ++ r → ⊥) → (path_or_root to ≡ path_or_root was → ⊥) → node_after_rename from to (unlink_path t to n) ≡ n → Way t from to n
  nowhere : n.path ≡ None → node_after_rename from to (unlink_path t to n) ≡ n → Way t from to n

module _ (mid new : SessionView) (from to : List ℕ) (k : IsRename (visible_tree mid.tree) from to) (shows : visible_tree new.tree ≡ tree_renaming (path_or_root from) (path_or_root to) (visible_tree mid.tree)) (profile : new.tree.disk.profile ≡ mid.tree.disk.profile) where
  abbrev t : Tree
  t = visible_tree mid.tree

  way : (n : NodeView) → IsSoundNode mid n → Way (visible_tree mid.tree) from to n
  way n s = go (true_or_false (has_path to (Some n))) (none_or_some n.path)
    where
      with_test : (b : Bool) → has_path to (Some n) ≡ b → unlink_path (visible_tree mid.tree) to n ≡ cond b (unlinked_node (loaded_node (node_bytes (visible_tree mid.tree) n) n)) n
      with_test b e = ap (λ z. cond z (unlinked_node (loaded_node (node_bytes (visible_tree mid.tree) n) n)) n) e

      moved_to : (was : List ℕ) → n.path ≡ Some was → (b : Bool) → is_at_or_beneath from was ≡ b → renamed_path from to n ≡ cond b (Some (to ++ drop (length from) was)) None
      moved_to was at b e = ap (option_and_then (λ q. cond (is_at_or_beneath from q) (Some (to ++ drop (length from) q)) None)) at ∙ ap (λ z. cond z (Some (to ++ drop (length from) was)) None) e

      on : (was : List ℕ) → n.path ≡ Some was → has_path to (Some n) ≡ false → IsSpelled was (path_or_root was) → Beneath from was (path_or_root from) (path_or_root was) → Way (visible_tree mid.tree) from to n
      on was at other spelled (there r e test left) =
          moves was r at e (ap (node_after_rename from to) (with_test false other) ∙ ap (λ o. with_path o n) (moved_to was at true test ∙ ap (λ z. Some (to ++ z)) left))
          (appended to (path_or_root to) (path_or_root was) r (path_or_root from) (spelled_as to (path_or_root to) k.target.parsed k.target.inner) e spelled.components)
      on was at other spelled (elsewhere never test) =
          stays was at never (leads_elsewhere to was n k.target at (s.leads was at).given other) (ap (node_after_rename from to) (with_test false other) ∙ ap (λ o. with_path o n) (moved_to was at false test))

      go : (has_path to (Some n) ≡ true) ⊎ (has_path to (Some n) ≡ false) → (n.path ≡ None) ⊎ ((was : List ℕ) × (n.path ≡ Some was)) → Way (visible_tree mid.tree) from to n
      go (inl has) at = goes (ap (node_after_rename from to) (with_test true has))
      go (inr other) (inl none) = nowhere none (ap (node_after_rename from to) (with_test false other) ∙ ap (λ o. with_path (option_and_then (λ q. cond (is_at_or_beneath from q) (Some (to ++ drop (length from) q)) None) o) n) none)
      go (inr other) (inr (was, at)) =
          let spelled = spelled_file mid was (s.leads was at) in
          on was at other spelled (beneath from was (path_or_root from) (path_or_root was) (spelled_as from (path_or_root from) k.entry.parsed k.entry.inner) spelled)

  -- a file that leads to the same bytes
  carried : (n m : NodeView) (was path : List ℕ) (q to_path : Path) → IsSoundNode mid n → n.path ≡ Some was → m ≡ with_path (Some path) n → path_or_root was ≡ q → parse_path path ≡ Some to_path
      → StaysFile (visible_tree mid.tree) (tree_renaming (path_or_root from) (path_or_root to) (visible_tree mid.tree)) q to_path → IsSoundNode new m
  carried n m was path q to_path s at is old_is new_is stay =
      subst (IsSoundNode new) (sym is)
      (node_carried_to mid new n (with_path (Some path) n) refl refl refl
      (ap (λ z. stored_bytes z (Some path)) shows ∙ ap (λ o. file_bytes (tree_renaming (path_or_root from) (path_or_root to) (visible_tree mid.tree) (unwrap_or o []))) new_is ∙ stay.bytes ∙ sym (ap (λ z. file_bytes (visible_tree mid.tree z)) old_is) ∙ sym (ap (stored_bytes (visible_tree mid.tree)) at))
      (λ p e. (was, at)) (λ p e. subst (λ z. LeadsToFile z p) (sym shows) (subst (LeadsToFile (tree_renaming (path_or_root from) (path_or_root to) (visible_tree mid.tree))) (let z : Some path ≡ Some p = e in cc) (leads_from (tree_renaming (path_or_root from) (path_or_root to) (visible_tree mid.tree)) path to_path new_is stay.leads))) profile s)

  same_node : (n : NodeView) (was : List ℕ) → n.path ≡ Some was → n ≡ with_path (Some was) n
  same_node n was at = ap (λ o. record n { path = o }) at

  moved_sound : (n : NodeView) → IsSoundNode mid n → IsSoundNode new (node_after_rename from to (unlink_path (visible_tree mid.tree) to n))
  moved_sound n s = go (way n s)
    where
      go : Way (visible_tree mid.tree) from to n → IsSoundNode new (node_after_rename from to (unlink_path (visible_tree mid.tree) to n))
      go (goes is) = subst (IsSoundNode new) (sym is) (unlinked_sound mid new n s)
      go (moves was r at e is spelled) =
          carried n (node_after_rename from to (unlink_path (visible_tree mid.tree) to n)) was (to ++ path_bytes r) (path_or_root from ++ r) (path_or_root to ++ r) s at is e spelled
          (moved_stays (visible_tree mid.tree) (path_or_root from) (path_or_root to) k.may r (subst (IsFileAt (visible_tree mid.tree)) e (file_at (visible_tree mid.tree) was (s.leads was at))))
      go (stays was at not_old not_new is) =
          carried n (node_after_rename from to (unlink_path (visible_tree mid.tree) to n)) was was (path_or_root was) (path_or_root was) s at (is ∙ same_node n was at) refl (parsed was (s.leads was at).given)
          (other_stays (visible_tree mid.tree) (path_or_root from) (path_or_root to) k.may (path_or_root was) (file_at (visible_tree mid.tree) was (s.leads was at)) not_old not_new)
      go (nowhere none is) =
          subst (IsSoundNode new) (sym is)
          (node_carried_to mid new n n refl refl refl (ap (stored_bytes (visible_tree new.tree)) none ∙ sym (ap (stored_bytes (visible_tree mid.tree)) none)) (λ q at. (q, at)) (λ q at. absurd (let z : None ≡ Some q = sym none ∙ at in cc)) profile s)

  -- no two files come to one path
  came_from : (n m : NodeView) (path other : List ℕ) → IsSoundNode mid n → IsSoundNode mid m → (node_after_rename from to (unlink_path (visible_tree mid.tree) to n)).path ≡ Some path → (node_after_rename from to (unlink_path (visible_tree mid.tree) to m)).path ≡ Some other → path_or_root path ≡ path_or_root other → CameFromOne n m
  came_from n m path other s z x y same = go (way n s) (way m z)
    where
      lost : (a : NodeView) (p : List ℕ) → a.path ≡ None → a.path ≡ Some p → CameFromOne n m
      lost a p none some = absurd (let l : None ≡ Some p = sym none ∙ some in cc)

      new_path : (a : NodeView) (p is : List ℕ) (b : NodeView) → a.path ≡ Some p → a ≡ with_path (Some is) b → p ≡ is
      new_path a p is b some e = (let l : Some p ≡ Some is = sym some ∙ ap (λ (v : NodeView). v.path) e in cc)

      old_path : (a : NodeView) (p was : List ℕ) (b : NodeView) → a.path ≡ Some p → a ≡ b → b.path ≡ Some was → p ≡ was
      old_path a p was b some e at = (let l : Some p ≡ Some was = sym some ∙ ap (λ (v : NodeView). v.path) e ∙ at in cc)

      at_new : (r : Path) → parse_path (to ++ path_bytes r) ≡ Some (path_or_root to ++ r) → (p : List ℕ) → p ≡ to ++ path_bytes r → path_or_root p ≡ path_or_root to ++ r
      at_new r spelled p e = ap path_or_root e ∙ ap (λ o. unwrap_or o []) spelled

      never : (a : NodeView) (was : List ℕ) → IsSoundNode mid a → a.path ≡ Some was → (path_or_root to ≡ path_or_root was → ⊥) → (r : Path) → path_or_root was ≡ path_or_root to ++ r → ⊥
      never a was sa at not_new r e = not_beneath_new (visible_tree mid.tree) (path_or_root from) (path_or_root to) k.may (path_or_root was) (file_at (visible_tree mid.tree) was (sa.leads was at)) not_new r e

      go : Way (visible_tree mid.tree) from to n → Way (visible_tree mid.tree) from to m → CameFromOne n m
      go (goes is) b = lost (node_after_rename from to (unlink_path (visible_tree mid.tree) to n)) path (ap (λ (v : NodeView). v.path) is) x
      go (nowhere none is) b = lost (node_after_rename from to (unlink_path (visible_tree mid.tree) to n)) path (ap (λ (v : NodeView). v.path) is ∙ none) x
      go (moves was r at e is spelled) (goes also) = lost (node_after_rename from to (unlink_path (visible_tree mid.tree) to m)) other (ap (λ (v : NodeView). v.path) also) y
      go (moves was r at e is spelled) (nowhere none also) = lost (node_after_rename from to (unlink_path (visible_tree mid.tree) to m)) other (ap (λ (v : NodeView). v.path) also ∙ none) y
      go (stays was at not_old not_new is) (goes also) = lost (node_after_rename from to (unlink_path (visible_tree mid.tree) to m)) other (ap (λ (v : NodeView). v.path) also) y
      go (stays was at not_old not_new is) (nowhere none also) = lost (node_after_rename from to (unlink_path (visible_tree mid.tree) to m)) other (ap (λ (v : NodeView). v.path) also ∙ none) y
      go (moves was r at e is spelled) (moves too q here f also read) =
          let a = at_new r spelled path (new_path (node_after_rename from to (unlink_path (visible_tree mid.tree) to n)) path (to ++ path_bytes r) n x is) in
          let b = at_new q read other (new_path (node_after_rename from to (unlink_path (visible_tree mid.tree) to m)) other (to ++ path_bytes q) m y also) in
          record { path = was; other = too; is = at; also = here; same = e ∙ ap (λ z. path_or_root from ++ z) (cancel (path_or_root to) r q (sym a ∙ same ∙ b)) ∙ sym f }
      go (moves was r at e is spelled) (stays too here not_old not_new also) =
          let a = at_new r spelled path (new_path (node_after_rename from to (unlink_path (visible_tree mid.tree) to n)) path (to ++ path_bytes r) n x is) in
          let b = ap path_or_root (old_path (node_after_rename from to (unlink_path (visible_tree mid.tree) to m)) other too m y also here) in
          absurd (never m too z here not_new r (sym b ∙ sym same ∙ a))
      go (stays was at not_old not_new is) (moves too q here f also read) =
          let a = ap path_or_root (old_path (node_after_rename from to (unlink_path (visible_tree mid.tree) to n)) path was n x is at) in
          let b = at_new q read other (new_path (node_after_rename from to (unlink_path (visible_tree mid.tree) to m)) other (to ++ path_bytes q) m y also) in
          absurd (never n was s at not_new q (sym a ∙ same ∙ b))
      go (stays was at not_old not_new is) (stays too here nor_old nor_new also) =
          let a = ap path_or_root (old_path (node_after_rename from to (unlink_path (visible_tree mid.tree) to n)) path was n x is at) in
          let b = ap path_or_root (old_path (node_after_rename from to (unlink_path (visible_tree mid.tree) to m)) other too m y also here) in
          record { path = was; other = too; is = at; also = here; same = sym a ∙ same ∙ b }

-- what the checks left of a rename that was done
pub rename_done : (old mid : VolumeView) (new : SessionView) (place : ℕ) (from to : List ℕ) → IsSoundVolume old → IsReady old mid place → same_name from to ≡ false → IsCall mid.session (ops.Rename from to) (Ok ops.Done) new → IsRename (visible_tree mid.session.tree) from to
rename_done old mid new place from to sound r apart call =
    let o = rename_on_entries from to in
    let d = is_done old mid place sound r (ops.Rename from to) o new ops.Done refl call in
    is_rename mid.session d.around from to apart (passes_alone old mid place sound r (ops.Rename from to) o new ops.Done d)

pub sound_renamed : (old mid new : VolumeView) (place : ℕ) (from to : List ℕ) → IsSoundVolume old → IsReady old mid place → same_name from to ≡ false → IsCall mid.session (ops.Rename from to) (Ok ops.Done) new.session
    → new.nodes ≡ map (option_map (λ n. node_after_rename from to (unlink_path (visible_tree mid.session.tree) to n))) old.nodes → new.handles ≡ old.handles → IsSoundVolume new
sound_renamed old mid new place from to sound r apart call nodes handles =
    let o = rename_on_entries from to in
    let op = ops.Rename from to in
    let t = visible_tree mid.session.tree in
    let d = is_done old mid place sound r op o new.session ops.Done refl call in
    let k = rename_done old mid new.session place from to sound r apart call in
    let shows = tree_after old mid place sound r op o new.session ops.Done d in
    let profile = profile_after old mid place sound r op o new.session ops.Done call in
    sound_mapped mid new old.nodes (λ n. node_after_rename from to (unlink_path t to n)) (before_sound old mid place sound r) sound.apart
    (λ i h e. sound.named i h (ap (λ (hs : List (Option Handle)). entry_at hs i) (sym handles) ∙ e)) nodes (idle_after old mid place sound r op o new.session ops.Done d)
    (moved_sound mid.session new.session from to k shows profile) (came_from mid.session new.session from to k shows profile)

-- ---- the tables

-- the table after a remove
pub unlinked_nodes : (old mid : VolumeView) (place : ℕ) (path : List ℕ) (left : List (Option NodeView)) → IsSoundVolume old → IsReady old mid place → place ≡ position_or_len (has_path path) old.nodes → left ≡ nodes_without_path path mid.nodes
    → left ≡ map (option_map (unlink_path (visible_tree mid.session.tree) path)) old.nodes
unlinked_nodes old mid place path left sound r is are =
    are ∙ ap (nodes_without_path path) (r.loaded.are ∙ ap (λ i. loaded_nodes (visible_tree old.session.tree) i old.nodes) is) ∙ unlinked_table (visible_tree old.session.tree) path old.nodes (once_at old path sound)
    ∙ ap (λ (t : Tree). map (option_map (unlink_path t path)) old.nodes) (sym r.loaded.idle.shows)

-- the table after a rename
pub renamed_nodes : (old mid : VolumeView) (place : ℕ) (from to : List ℕ) (paths : List (Option (List ℕ))) (left new : List (Option NodeView)) → IsSoundVolume old → IsReady old mid place → place ≡ position_or_len (has_path to) old.nodes → is_at_or_beneath from to ≡ false
    → paths ≡ map (option_and_then (renamed_path from to)) mid.nodes → left ≡ nodes_without_path to mid.nodes → new ≡ nodes_with_paths paths left → new ≡ map (option_map (λ n. node_after_rename from to (unlink_path (visible_tree mid.session.tree) to n))) old.nodes
renamed_nodes old mid place from to paths left new sound r is aside moved unlinked are =
    let there = r.loaded.are ∙ ap (λ i. loaded_nodes (visible_tree old.session.tree) i old.nodes) is in
    are ∙ ap₂ nodes_with_paths (moved ∙ ap (map (option_and_then (renamed_path from to))) there) (unlinked ∙ ap (nodes_without_path to) there) ∙ moved_table (visible_tree old.session.tree) from to old.nodes (once_at old to sound) aside
    ∙ ap (λ (t : Tree). map (option_map (λ n. node_after_rename from to (unlink_path t to n))) old.nodes) (sym r.loaded.idle.shows)

-- it is that of the definitions, where the paths differ
pub apart_nodes : (t : Tree) (from to : List ℕ) (xs : List (Option NodeView)) → same_name from to ≡ false → map (option_map (λ n. node_after_rename from to (unlink_path t to n))) xs ≡ nodes_after_operation t (ops.Rename from to) xs
apart_nodes t from to xs apart = sym (ap (λ b. map (option_map (λ n. node_after_rename from to (cond b n (unlink_path t to n)))) xs) apart)

-- ---- a rename to the same path

renamed_same : (p : Path) (t : Tree) → tree_renaming p p t ≡ t
renamed_same p t = ap (λ b. cond b t (tree_with_subtree p (λ rest. t (p ++ rest)) (tree_with_subtree p (λ rest. None)
    (tree_with_change (parent_path p) (node_with_names (λ ns. names_with (last_name p) (names_without (last_name p) ns))) (tree_with_change (parent_path p) (node_with_names (names_without (last_name p))) t))))) (path_itself p)

ready_already : (v : VolumeView) → IsSoundVolume v → IsReady v v (length v.nodes)
ready_already v sound = record {
  loaded = record {
    are = sym (ap (λ (o : Option NodeView). slice_set v.nodes (length v.nodes) (option_map (λ n. loaded_node (node_bytes (visible_tree v.session.tree) n) n) o)) (no_entry v.nodes (length v.nodes) (omega arith))
        ∙ ap (slice_set v.nodes (length v.nodes)) (sym (no_entry v.nodes (length v.nodes) (omega arith))) ∙ set_same v.nodes (length v.nodes));
    idle = sound.idle;
    operations = [];
    calls = refl;
  };
  handles = refl;
}

moved_to_itself : (path : List ℕ) (n : NodeView) → node_after_rename path path n ≡ n
moved_to_itself path n = go (none_or_some n.path)
  where
    found : (was : List ℕ) → n.path ≡ Some was → (b : Bool) → is_at_or_beneath path was ≡ b → with_path (cond b (Some (path ++ drop (length path) was)) None) n ≡ n
    found was at false test = refl
    found was at true test = ap (λ z. record n { path = Some z }) (sym (whole_path path was test)) ∙ ap (λ o. record n { path = o }) (sym at)

    go : (n.path ≡ None) ⊎ ((was : List ℕ) × (n.path ≡ Some was)) → node_after_rename path path n ≡ n
    go (inl none) = ap (λ o. with_path (option_and_then (λ q. cond (is_at_or_beneath path q) (Some (path ++ drop (length path) q)) None) o) n) none
    go (inr (was, at)) = ap (λ o. with_path (option_and_then (λ q. cond (is_at_or_beneath path q) (Some (path ++ drop (length path) q)) None) o) n) at ∙ found was at (is_at_or_beneath path was) refl

all_to_themselves : (path : List ℕ) (xs : List (Option NodeView)) → xs ≡ map (option_map (node_after_rename path path)) xs
all_to_themselves path [] = refl
all_to_themselves path (None ∷ xs) = ap (λ os. None ∷ os) (all_to_themselves path xs)
all_to_themselves path (Some n ∷ xs) = ap₂ (λ m os. Some m ∷ os) (sym (moved_to_itself path n)) (all_to_themselves path xs)

kept_nodes : (t : Tree) (from to : List ℕ) (xs : List (Option NodeView)) → same_name from to ≡ true → xs ≡ nodes_after_operation t (ops.Rename from to) xs
kept_nodes t from to xs same =
    all_to_themselves from xs ∙ ap (λ z. map (option_map (node_after_rename from z)) xs) (name_from_same from to same)
    ∙ sym (ap (λ b. map (option_map (λ n. node_after_rename from to (cond b n (unlink_path t to n)))) xs) same)

module _ (old new : VolumeView) (from to : List ℕ) (sound : IsSoundVolume old) (same : same_name from to ≡ true) (nodes : new.nodes ≡ old.nodes) (handles : new.handles ≡ old.handles) where
  pub renamed_to_itself : {A : Type 0} (x : Result A Error) → IsCall old.session (ops.Rename from to) (reply_from (λ _. ops.Done) x) new.session → IsHealthyVolumeCall old (Perform (ops.Rename from to)) (reply_from (λ _. ops.Done) x) new
  renamed_to_itself (Ok x) call =
      accepted_after old old (length old.nodes) sound (ready_already old sound) (ops.Rename from to) (rename_on_entries from to) new ops.Done refl call (nodes ∙ kept_nodes (visible_tree old.session.tree) from to old.nodes same) handles
  renamed_to_itself (Err e) call = ended_after old old (length old.nodes) sound (ready_already old sound) (ops.Rename from to) (rename_on_entries from to) e new call nodes handles

  pub sound_to_itself : {A : Type 0} (x : Result A Error) → IsCall old.session (ops.Rename from to) (reply_from (λ _. ops.Done) x) new.session → IsSoundIfWorking new
  sound_to_itself (Err e) call works = ended_sound old old (length old.nodes) sound (ready_already old sound) (ops.Rename from to) (rename_on_entries from to) e new call nodes handles works
  sound_to_itself (Ok x) call works =
      let r = ready_already old sound in
      let o = rename_on_entries from to in
      let d = is_done old old (length old.nodes) sound r (ops.Rename from to) o new.session ops.Done refl call in
      let i = idle_after old old (length old.nodes) sound r (ops.Rename from to) o new.session ops.Done d in
      let p = path_or_root from in
      let stays : tree_renaming p (path_or_root to) (visible_tree old.session.tree) ≡ visible_tree old.session.tree =
      ap (λ z. tree_renaming p (path_or_root z) (visible_tree old.session.tree)) (sym (name_from_same from to same)) ∙ renamed_same p (visible_tree old.session.tree) in
      sound_kept old new sound (record { works = works; shows = tree_after old old (length old.nodes) sound r (ops.Rename from to) o new.session ops.Done d ∙ stays; files = i.files })
      (profile_after old old (length old.nodes) sound r (ops.Rename from to) o new.session ops.Done call) nodes handles
