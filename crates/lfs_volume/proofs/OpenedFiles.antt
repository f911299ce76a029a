-- A volume keeps what it kept when a file is opened.
use Rattle.std.proofs.Common.{inl, inr, ℕ, ◌≡◌, ◌==◌, ◌≤◌, ◌||◌, not, Bool, true, false, cond, List, [], ◌∷◌, length, take, Option, Some, None, is_none, is_some, unwrap_or, refl, sym, ap, ap₂, subst, ◌∙◌, arith}
use Rattle.std.specs.Prelude.{◌⊎◌, IsSome}
use Rattle.std.proofs.lemmas.Bool.{le-ltb}
use Rattle.lfs_device.specs.declared.error.Error.{Error}
use Rattle.lfs_lookup.specs.RefusalErrors as refusals
use Rattle.lfs_model.specs.tree.Tree.{DirectoryNode, FileNode, Node, Path, Tree}
use Rattle.lfs_model.specs.session.Operations as ops
use Rattle.lfs_model.specs.session.Operations.{FlagsOfOpen, Invalid, IsDir, Refusal, parse_path}
use Rattle.lfs_model.specs.session.Refusals.{operation_refusal, path_or_root}
use Rattle.lfs_model.specs.session.Session.{DiskSummary, Session, flags_allowed, parents_refusal, refuse_if}
use Rattle.lfs_model.specs.session.TreeEdits.{file_bytes, is_directory, is_file, last_name, names_with, node_with_names, parent_path, same_path, tree_creating, tree_with_change}
use Rattle.lfs_model.specs.session.Writers.{zero_padded}
use Rattle.lfs_model.proofs.Paths.{name_from_same, path_itself}
use Rattle.lfs_tree.specs.TreeState.{visible_tree}
use Rattle.lfs_fs.specs.CallEffects.{IsCall}
use Rattle.lfs_fs.specs.SessionView.{SessionView}
use Rattle.lfs_fs.proofs.SamePaths.{same_bytes}
use Rattle.lfs_volume.specs.declared.dirty_range.DirtyRange.{DirtyRange}
use Rattle.lfs_volume.specs.declared.handles.Handle.{Handle}
use Rattle.lfs_volume.specs.Calls.{free_entry_index, new_handle, node_index_for_path, node_after_open, nodes_after_open, session_flags, with_entry}
use Rattle.lfs_volume.specs.DirtyRanges.{DiffersInDirtyRange, DiffersOnlyWithinRange, truncate_dirty_range, extend_dirty_range, resize_dirty_range}
use Rattle.lfs_volume.specs.Opened.{IsIdleSession, LeadsToFile}
use Rattle.lfs_volume.specs.Saves.{found_tree}
use Rattle.lfs_volume.specs.SessionCalls.{error_result}
use Rattle.lfs_volume.specs.Volume.{NodeView, VolumeView, entry_at, idle_session, opened_node, resized_node, stored_bytes}
use Rattle.lfs_volume.specs.VolumeCalls.{IsSoundIfWorking, IsSoundNode, IsSoundVolume}
use Rattle.lfs_volume.proofs.Opening.{IsOpened, open_fails, open_part, open_steps, uncut_flags}
use Rattle.lfs_volume.proofs.PutEntries.{NodeOfPath, free_within, is_new, is_open, node_there, number_within, put_elsewhere, put_over, put_there}
use Rattle.lfs_volume.proofs.Saving.{idle_stays}
use Rattle.lfs_volume.proofs.Soundness.{failed_not_working, handles_stay, node_carried, part_profile, same_or_not, sound_kept, steps_profile, still_sound}
use Rattle.lfs_volume.proofs.Steps.{none_at, not_refused_if, open_checks, refusal_step, refused}
use Rattle.lfs_volume.proofs.TreesKept.{KeepsFiles, keeps_itself, keeps_with_new, leads_kept, parents_kept, stored_kept}

-- ---- paths

-- two paths that lead to one place are the same bytes
pub one_path : (xs ys : List ℕ) → is_none (parse_path xs) ≡ false → is_none (parse_path ys) ≡ false → path_or_root xs ≡ path_or_root ys → xs ≡ ys
one_path xs ys h k same = name_from_same xs ys (same_bytes xs ys (given (parse_path xs) h) (given (parse_path ys) k) ∙ ap (same_path (path_or_root ys)) same ∙ path_itself (path_or_root ys))
  where
    given : (o : Option Path) → is_none o ≡ false → is_some o ≡ true
    given None e = absurd (cc)
    given (Some p) e = refl

-- ---- the tree in which the file is there

pub keeps_found : (t : Tree) (p : Path) → KeepsFiles t (found_tree t p)
keeps_found t p = go (t p) refl
  where
    go : (o : Option Node) → t p ≡ o → KeepsFiles t (found_tree t p)
    go None e = subst (λ x. KeepsFiles t (cond (is_none x) (tree_creating p (FileNode [] []) t) t)) (sym e) (keeps_with_new p (FileNode [] []) (names_with (last_name p)) t e)
    go (Some n) e = subst (λ x. KeepsFiles t (cond (is_none x) (tree_creating p (FileNode [] []) t) t)) (sym e) (keeps_itself t)

file_there : (t : Tree) (p : Path) → is_directory (t p) ≡ false → is_file (found_tree t p p) ≡ true
file_there t p other = go (t p) refl
  where
    go : (o : Option Node) → t p ≡ o → is_file (found_tree t p p) ≡ true
    go None e =
        ap (λ x. is_file ((cond (is_none x) (tree_creating p (FileNode [] []) t) t) p)) e ∙ ap (λ b. is_file (cond b (Some (FileNode [] [])) (tree_with_change (parent_path p) (node_with_names (names_with (last_name p))) t p))) (path_itself p)
    go (Some (FileNode a bytes)) e = ap (λ x. is_file ((cond (is_none x) (tree_creating p (FileNode [] []) t) t) p)) e ∙ ap is_file e
    go (Some (DirectoryNode a ns)) e = absurd (let k : true ≡ false = sym (ap is_directory e) ∙ other in cc)

either_false : (a b : Bool) → (a || b) ≡ false → a ≡ false
either_false true b e = absurd (cc)
either_false false b e = refl

-- no check refused the open, so the path leads to a file afterwards
pub found_leads : (around : DiskSummary) (s : Session) (path : List ℕ) (flags : FlagsOfOpen) → operation_refusal around s (ops.Open path flags) ≡ None → LeadsToFile (found_tree s.tree (path_or_root path)) path
found_leads around s path flags passes = record {
  given =
      let check : Option Refusal = refuse_if (is_none (parse_path path) || not (flags_allowed flags)) Invalid in
      either_false (is_none (parse_path path)) (not (flags_allowed flags)) (not_refused_if (is_none (parse_path path) || not (flags_allowed flags)) Invalid (none_at (open_checks around s (parse_path path) (path_or_root path) flags) 1 check passes refl));
  parents = parents_kept s.tree (found_tree s.tree (path_or_root path)) (keeps_found s.tree (path_or_root path)).directories [] (path_or_root path) (none_at (open_checks around s (parse_path path) (path_or_root path) flags) 2 (parents_refusal s.tree [] (path_or_root path)) passes refl);
  file =
      let check : Option Refusal = refuse_if (is_directory (s.tree (path_or_root path))) IsDir in
      file_there s.tree (path_or_root path) (not_refused_if (is_directory (s.tree (path_or_root path))) IsDir (none_at (open_checks around s (parse_path path) (path_or_root path) flags) 6 check passes refl));
}

-- ---- the node

same_list : (xs ys : List ℕ) → Some xs ≡ Some ys → xs ≡ ys
same_list xs ys e = cc

no_list : (xs : List ℕ) → Some xs ≡ None → ⊥
no_list xs e = absurd (cc)

pub opened_sound : (h : SessionView) (path : List ℕ) (size : ℕ) → LeadsToFile (visible_tree h.tree) path → size ≡ length (file_bytes (visible_tree h.tree (path_or_root path))) → IsSoundNode h (opened_node path size)
opened_sound h path size leads is = record {
  sized = λ none. sym is;
  unchanged = λ none. refl;
  long = λ bytes e. absurd (no_list bytes (sym e));
  differs = λ other bytes at e. absurd (no_list bytes (sym e));
  small = λ k. absurd (let z : false ≡ true = k in cc);
  leads = λ other at. subst (LeadsToFile (visible_tree h.tree)) (same_list path other at) leads;
}

nothing_differs : (stored : List ℕ) (h : DirtyRange) → h.from ≡ 0 → h.end ≡ 0 → DiffersOnlyWithinRange stored [] h
nothing_differs stored h from end = subst (DiffersOnlyWithinRange stored []) (sym (ap₂ at from end)) (record { order = omega arith; inside = omega arith; begins = omega arith; before = refl; behind = refl })
  where
    at : ℕ → ℕ → DirtyRange
    at a b = record { from = a; end = b }

-- a dirty range that is cut to nothing
cut_to_nothing : (dirty_range : Option DirtyRange) (size : ℕ) → ((resize_dirty_range dirty_range size 0).from ≡ 0) × ((resize_dirty_range dirty_range size 0).end ≡ 0)
cut_to_nothing dirty_range size = subst (λ b. ((cond b (extend_dirty_range dirty_range size 0) (truncate_dirty_range dirty_range 0)).from ≡ 0) × ((cond b (extend_dirty_range dirty_range size 0) (truncate_dirty_range dirty_range 0)).end ≡ 0)) (sym (le-ltb size 0 (omega arith))) (cut dirty_range)
  where
    cut : (o : Option DirtyRange) → ((truncate_dirty_range o 0).from ≡ 0) × ((truncate_dirty_range o 0).end ≡ 0)
    cut None = (refl, refl)
    cut (Some h) = (omega arith, omega arith)

pub cleared_sound : (h : SessionView) (n : NodeView) → IsSoundNode h n → IsSoundNode h (resized_node 0 [] n)
cleared_sound h n s = go (0 == n.size) refl
  where
    changed : NodeView
    changed = record n { size = 0; contents = Some (take 0 (zero_padded 0 [])); dirty_range = Some (resize_dirty_range n.dirty_range n.size 0) }

    go : (b : Bool) → (0 == n.size) ≡ b → IsSoundNode h (resized_node 0 [] n)
    go true e = subst (IsSoundNode h) (sym (ap (λ b. cond b n changed) e)) s
    go false e = subst (IsSoundNode h) (sym (ap (λ b. cond b n changed) e)) (record {
      sized = λ none. absurd (no_list _ none);
      unchanged = λ none. absurd (no_list _ none);
      long = λ bytes c. ap length (sym (same_list _ bytes c));
      differs = λ path bytes at c. let k = cut_to_nothing n.dirty_range n.size in subst (λ z. DiffersInDirtyRange (stored_bytes (visible_tree h.tree) (Some path)) z (Some (resize_dirty_range n.dirty_range n.size 0))) (same_list _ bytes c) (nothing_differs (stored_bytes (visible_tree h.tree) (Some path)) (resize_dirty_range n.dirty_range n.size 0) k.0 k.1);
      small = λ k. omega arith;
      leads = s.leads;
    })

abbrev cut_if : Bool → NodeView → NodeView
cut_if truncates n = cond truncates (resized_node 0 [] n) n

cut_sound : (truncates : Bool) (h : SessionView) (n : NodeView) → IsSoundNode h n → IsSoundNode h (cut_if truncates n)
cut_sound true h n s = cleared_sound h n s
cut_sound false h n s = s

cut_path : (truncates : Bool) (n : NodeView) → (cut_if truncates n).path ≡ n.path
cut_path true n = go (0 == n.size)
  where
    go : (b : Bool) → (cond b n (record n { size = 0; contents = Some (take 0 (zero_padded 0 [])); dirty_range = Some (resize_dirty_range n.dirty_range n.size 0) })).path ≡ n.path
    go true = refl
    go false = refl
cut_path false n = refl

-- ---- the volume

-- over a tree that keeps its files
carried_sound : (old : VolumeView) (new : SessionView) → IsSoundVolume old → KeepsFiles (visible_tree old.session.tree) (visible_tree new.tree) → IsIdleSession new (visible_tree new.tree) → new.tree.disk.profile ≡ old.session.tree.disk.profile → IsSoundVolume (record { session = new; nodes = old.nodes; handles = old.handles })
carried_sound old new sound k idle profile = record {
  idle = idle;
  nodes = λ j n e.
      let s = sound.nodes j n e in
      node_carried old.session new n (stored_kept (visible_tree old.session.tree) (visible_tree new.tree) k n.path s.leads) (leads_kept (visible_tree old.session.tree) (visible_tree new.tree) k) profile s;
  named = sound.named;
  apart = sound.apart;
}

-- with one more node, whose path leads to no other node's file
module _ (v : VolumeView) (i : ℕ) (m : NodeView) (sound : IsSoundVolume v) (within : i ≤ length v.nodes) (one : IsSoundNode v.session m)
    (alone : (j : ℕ) (n : NodeView) (path other : List ℕ) → entry_at v.nodes j ≡ Some n → m.path ≡ Some path → n.path ≡ Some other → path_or_root path ≡ path_or_root other → ⊥) where
  same_some : (a b : NodeView) → Some a ≡ Some b → a ≡ b
  same_some a b e = cc

  -- the new one, or one that was there
  either : (j : ℕ) (k : NodeView) → entry_at (with_entry v.nodes i (Some m)) j ≡ Some k → ((i ≡ j) × (k ≡ m)) ⊎ (entry_at v.nodes j ≡ Some k)
  either j k e = go (same_or_not i j)
    where
      go : (i ≡ j) ⊎ (i ≡ j → ⊥) → ((i ≡ j) × (k ≡ m)) ⊎ (entry_at v.nodes j ≡ Some k)
      go (inl same) = inl (same, same_some k m (sym e ∙ ap (entry_at (with_entry v.nodes i (Some m))) (sym same) ∙ put_there v.nodes i within (Some m)))
      go (inr ne) = inr (sym (put_elsewhere v.nodes i within (Some m) j ne) ∙ e)

  sound_of : (j : ℕ) (k : NodeView) → ((i ≡ j) × (k ≡ m)) ⊎ (entry_at v.nodes j ≡ Some k) → IsSoundNode v.session k
  sound_of j k (inl e) = subst (IsSoundNode v.session) (sym e.1) one
  sound_of j k (inr e) = sound.nodes j k e

  still_there : (j : ℕ) → IsSome (entry_at v.nodes j) → IsSome (entry_at (with_entry v.nodes i (Some m)) j)
  still_there j is = go (same_or_not i j)
    where
      go : (i ≡ j) ⊎ (i ≡ j → ⊥) → IsSome (entry_at (with_entry v.nodes i (Some m)) j)
      go (inl same) = subst IsSome (sym (ap (entry_at (with_entry v.nodes i (Some m))) (sym same) ∙ put_there v.nodes i within (Some m))) refl
      go (inr ne) = subst IsSome (sym (put_elsewhere v.nodes i within (Some m) j ne)) is

  apart : (j k : ℕ) (a b : NodeView) (path other : List ℕ) → ((i ≡ j) × (a ≡ m)) ⊎ (entry_at v.nodes j ≡ Some a) → ((i ≡ k) × (b ≡ m)) ⊎ (entry_at v.nodes k ≡ Some b) → a.path ≡ Some path → b.path ≡ Some other → path_or_root path ≡ path_or_root other → j ≡ k
  apart j k a b path other (inl x) (inl y) p q same = sym x.0 ∙ y.0
  apart j k a b path other (inl x) (inr y) p q same = absurd (alone k b path other y (ap (λ (n : NodeView). n.path) (sym x.1) ∙ p) q same)
  apart j k a b path other (inr x) (inl y) p q same = absurd (alone j a other path x (ap (λ (n : NodeView). n.path) (sym y.1) ∙ q) p (sym same))
  apart j k a b path other (inr x) (inr y) p q same = sound.apart j k a b path other x y p q same

  sound_with_node : IsSoundVolume (record { session = v.session; nodes = with_entry v.nodes i (Some m); handles = v.handles })
  sound_with_node = record {
    idle = sound.idle;
    nodes = λ j k e. sound_of j k (either j k e);
    named = λ j h e. still_there h.node (sound.named j h e);
    apart = λ j k a b path other x y. apart j k a b path other (either j a x) (either k b y);
  }

-- with one more handle
sound_with_handle : (v : VolumeView) (i : ℕ) (h : Handle) → IsSoundVolume v → i ≤ length v.handles → IsSome (entry_at v.nodes h.node) → IsSoundVolume (record { session = v.session; nodes = v.nodes; handles = with_entry v.handles i (Some h) })
sound_with_handle v i h sound within is = record {
  idle = sound.idle;
  nodes = sound.nodes;
  named = λ j g e. named j g e (same_or_not i j);
  apart = sound.apart;
}
  where
    same_some : (a b : Handle) → Some a ≡ Some b → a ≡ b
    same_some a b e = cc

    named : (j : ℕ) (g : Handle) → entry_at (with_entry v.handles i (Some h)) j ≡ Some g → (i ≡ j) ⊎ (i ≡ j → ⊥) → IsSome (entry_at v.nodes g.node)
    named j g e (inl same) = subst (λ (z : Handle). IsSome (entry_at v.nodes z.node)) (same_some h g (sym (put_there v.handles i within (Some h)) ∙ ap (entry_at (with_entry v.handles i (Some h))) same ∙ e)) is
    named j g e (inr ne) = sound.named j g (sym (put_elsewhere v.handles i within (Some h) j ne) ∙ e)

module _ (old new : VolumeView) (path : List ℕ) (flags : FlagsOfOpen) (sound : IsSoundVolume old) (o : IsOpened old path flags new) where
  leads : LeadsToFile (visible_tree new.session.tree) path
  leads = subst (λ t. LeadsToFile t path) (sym o.found.idle.shows) (found_leads o.found.around (idle_session (visible_tree old.session.tree)) path (session_flags flags) o.found.passes)

  -- the session's tree has the file
  mid_sound : IsSoundVolume (record { session = new.session; nodes = old.nodes; handles = old.handles })
  mid_sound = carried_sound old new.session sound (subst (KeepsFiles (visible_tree old.session.tree)) (sym o.found.idle.shows) (keeps_found (visible_tree old.session.tree) (path_or_root path)))
      (record { works = o.found.idle.works; shows = refl; files = o.found.idle.files })
      (steps_profile old.session new.session (ops.Open path (session_flags flags) ∷ ops.Close 0 ∷ []) (open_steps old.session new.session path (session_flags flags) o.size o.found))

  put_as : (x : Option NodeView) (n : NodeView) → x ≡ Some n → Some (node_after_open path o.size flags.truncate x) ≡ Some (cut_if flags.truncate n)
  put_as x n e = ap (λ z. Some (cut_if flags.truncate (unwrap_or z (opened_node path o.size)))) e

  put_new : (x : Option NodeView) → x ≡ None → Some (node_after_open path o.size flags.truncate x) ≡ Some (cut_if flags.truncate (opened_node path o.size))
  put_new x e = ap (λ z. Some (cut_if flags.truncate (unwrap_or z (opened_node path o.size)))) e

  -- the node is in its table
  listed_sound : NodeOfPath old.nodes path → IsSoundVolume (record { session = new.session; nodes = nodes_after_open path o.size flags.truncate old.nodes; handles = old.handles })
  listed_sound (is_open n there named) = still_sound (record { session = new.session; nodes = old.nodes; handles = old.handles }) (record { session = new.session; nodes = nodes_after_open path o.size flags.truncate old.nodes; handles = old.handles })
      (node_index_for_path old.nodes path) n (cut_if flags.truncate n) mid_sound (record {
        was = there;
        nodes = ap (with_entry old.nodes (node_index_for_path old.nodes path)) (put_as (entry_at old.nodes (node_index_for_path old.nodes path)) n there) ∙ put_over old.nodes (node_index_for_path old.nodes path) n (Some (cut_if flags.truncate n)) there;
        path = cut_path flags.truncate n;
        idle = mid_sound.idle;
        sound = cut_sound flags.truncate new.session n (mid_sound.nodes (node_index_for_path old.nodes path) n there);
        others = λ j k ne e. mid_sound.nodes j k e;
        handles = handles_stay old.handles old.handles refl;
      })
  listed_sound (is_new free nobody) =
      subst (λ x. IsSoundVolume (record { session = new.session; nodes = with_entry old.nodes (node_index_for_path old.nodes path) x; handles = old.handles })) (sym (put_new (entry_at old.nodes (node_index_for_path old.nodes path)) free))
      (sound_with_node (record { session = new.session; nodes = old.nodes; handles = old.handles }) (node_index_for_path old.nodes path) (cut_if flags.truncate (opened_node path o.size)) mid_sound (number_within old.nodes path)
      (cut_sound flags.truncate new.session (opened_node path o.size) (opened_sound new.session path o.size leads (o.found.size_is ∙ ap (λ (t : Tree). length (file_bytes (t (path_or_root path)))) (sym o.found.idle.shows))))
      (λ j n mine other e p q same.
      let own : path ≡ mine = same_list path mine (sym (cut_path flags.truncate (opened_node path o.size)) ∙ p) in
      let here : path_or_root path ≡ path_or_root other = ap path_or_root own ∙ same in
      nobody j n e (q ∙ ap Some (sym (one_path path other leads.given ((mid_sound.nodes j n e).leads other q).given here)))))

  pub sound_opened : IsSoundVolume new
  sound_opened =
      let there : IsSome (entry_at (nodes_after_open path o.size flags.truncate old.nodes) (node_index_for_path old.nodes path)) =
      subst IsSome (sym (put_there old.nodes (node_index_for_path old.nodes path) (number_within old.nodes path) (Some (node_after_open path o.size flags.truncate (entry_at old.nodes (node_index_for_path old.nodes path)))))) refl in
      subst IsSoundVolume (sym (ap₂ (λ (ns : List (Option NodeView)) (hs : List (Option Handle)). record { session = new.session; nodes = ns; handles = hs }) o.nodes o.handles))
      (sound_with_handle (record { session = new.session; nodes = nodes_after_open path o.size flags.truncate old.nodes; handles = old.handles }) (free_entry_index old.handles) (new_handle (node_index_for_path old.nodes path) flags) (listed_sound (node_there old.nodes path)) (free_within old.handles) there)

-- ---- an open that was refused

pub sound_if_refused : (e : Error) (old new : VolumeView) (path : List ℕ) (flags : FlagsOfOpen) → IsSoundVolume old → IsCall old.session (ops.Open path flags) (error_result e) new.session → new.nodes ≡ old.nodes → new.handles ≡ old.handles → IsSoundIfWorking new
sound_if_refused e old new path flags sound call nodes handles works = go (refusals.is_refusal e) refl
  where
    go : (b : Bool) → refusals.is_refusal e ≡ b → IsSoundVolume new
    go true is =
        let r = refused old.session (ops.Open path flags) (refusals.error_refusal e) new.session refl sound.idle.works (λ around. refl) (refusal_step old.session (ops.Open path flags) e new.session is call.answers) in
        sound_kept old new sound (idle_stays old.session new.session sound.idle r.works r.stays) (part_profile old.session new.session (ops.Open path flags ∷ []) (open_part e old.session new.session path flags is call)) nodes handles
    go false is = absurd (failed_not_working e old.session new.session (open_fails e old.session new.session path flags is call) works)

pub sound_if_refused_by : (e : Error) (old new : VolumeView) (path : List ℕ) (flags asked : FlagsOfOpen) → asked ≡ session_flags flags → IsSoundVolume old → (IsIdleSession old.session (visible_tree old.session.tree) → asked.truncate ≡ false → IsCall old.session (ops.Open path asked) (error_result e) new.session)
    → new.nodes ≡ old.nodes → new.handles ≡ old.handles → IsSoundIfWorking new
sound_if_refused_by e old new path flags asked is sound ends = sound_if_refused e old new path asked sound (ends sound.idle (ap (λ (f : FlagsOfOpen). f.truncate) is ∙ uncut_flags flags))
