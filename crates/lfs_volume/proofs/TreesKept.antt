-- Operations that leave the files of a tree as they are.
use Rattle.std.proofs.Common.{ℕ, ◌≡◌, Bool, true, false, cond, not, is_none, is_some, List, [], ◌∷◌, ◌++◌, Option, Some, None, Result, Ok, Err, refl, sym, ap, ap₂, subst, ◌∙◌}
use Rattle.std.specs.Prelude.{IsSome}
use Rattle.std.specs.Option.{option_map, option_or}
use Rattle.lfs_device.specs.declared.error.Error.{Error}
use Rattle.lfs_lookup.specs.RefusalErrors as refusals
use Rattle.lfs_model.specs.format.Names.{Name}
use Rattle.lfs_model.specs.format.Slots.{Attributes}
use Rattle.lfs_model.specs.format.Content.{attributes_with, attributes_without}
use Rattle.lfs_model.specs.format.Disk.{disk_with_order}
use Rattle.lfs_model.specs.tree.Tree.{DirectoryNode, FileNode, Node, Path, Tree}
use Rattle.lfs_model.specs.session.Operations as ops
use Rattle.lfs_model.specs.session.Operations.{EntryFull, Exist, Invalid, NameTooLong, NoSpace, ReadOnly, Operation, Refusal, Reply, parse_path}
use Rattle.lfs_model.specs.session.Session.{DiskSummary, OpenFilesByNumber, Session, directory_refusal, exceeds_half_pair, has_long_name, lacks_room, parents_refusal, refuse_if}
use Rattle.lfs_model.specs.session.Refusals.{operation_refusal, path_or_root}
use Rattle.lfs_model.specs.session.TreeEdits.{file_bytes, is_file, last_name, names_with, node_attributes_of, node_with_names, parent_path, same_path, tree_with_node, tree_with_change, with_attributes}
use Rattle.lfs_model.specs.session.Effects as effects
use Rattle.lfs_model.specs.session.Effects.{operation_effect}
use Rattle.lfs_model.proofs.Paths.{path_from_same}
use Rattle.lfs_tree.specs.TreeState.{visible_tree}
use Rattle.lfs_fs.specs.CallEffects.{IsCall}
use Rattle.lfs_fs.specs.SessionView.{viewed_session}
use Rattle.lfs_volume.specs.declared.handles.Handle.{Handle}
use Rattle.lfs_volume.specs.Opened.{HasNoOpenFiles, LeadsToFile}
use Rattle.lfs_volume.specs.Volume.{NodeView, VolumeView, entry_at, stored_bytes}
use Rattle.lfs_volume.specs.VolumeCalls.{IsSoundIfWorking, IsSoundVolume}
use Rattle.lfs_volume.proofs.SessionOperations.{is_alone, no_refusal, not_remount, operation_keeps, with_files}
use Rattle.lfs_volume.proofs.Soundness.{failed_not_working, node_carried}
use Rattle.lfs_volume.proofs.Steps.{answered, none_at, not_refused_if}

-- Files stay files and have the same bytes, and directories stay directories.
pub record KeepsFiles (t u : Tree) : Type 0 where
  pub files : (q : Path) → is_file (t q) ≡ true → (is_file (u q) ≡ true) × (file_bytes (u q) ≡ file_bytes (t q))
  pub directories : (q : Path) → directory_refusal (t q) ≡ None → directory_refusal (u q) ≡ None

pub keeps_itself : (t : Tree) → KeepsFiles t t
keeps_itself t = record { files = λ q e. (e, refl); directories = λ q e. e }

-- ---- attributes

attributes_file : (b : Bool) (f : Node → Attributes) (x : Option Node) → is_file x ≡ true → (is_file (cond b (option_map (λ n. with_attributes (f n) n) x) x) ≡ true) × (file_bytes (cond b (option_map (λ n. with_attributes (f n) n) x) x) ≡ file_bytes x)
attributes_file false f x e = (e, refl)
attributes_file true f None e = absurd (cc)
attributes_file true f (Some (FileNode a bytes)) e = (refl, refl)
attributes_file true f (Some (DirectoryNode a ns)) e = absurd (cc)

attributes_directory : (b : Bool) (f : Node → Attributes) (x : Option Node) → directory_refusal x ≡ None → directory_refusal (cond b (option_map (λ n. with_attributes (f n) n) x) x) ≡ None
attributes_directory false f x e = e
attributes_directory true f None e = absurd (cc)
attributes_directory true f (Some (FileNode a bytes)) e = absurd (cc)
attributes_directory true f (Some (DirectoryNode a ns)) e = refl

keeps_with_attributes : (p : Path) (f : Node → Attributes) (t : Tree) → KeepsFiles t (tree_with_change p (λ n. with_attributes (f n) n) t)
keeps_with_attributes p f t = record { files = λ q e. attributes_file (same_path p q) f (t q) e; directories = λ q e. attributes_directory (same_path p q) f (t q) e }

-- ---- a new entry

created_file : (node : Node) (b d : Bool) (g : List Name → List Name) (x : Option Node) → (b ≡ true → x ≡ None) → is_file x ≡ true →
    (is_file (cond b (Some node) (cond d (option_map (node_with_names g) x) x)) ≡ true) × (file_bytes (cond b (Some node) (cond d (option_map (node_with_names g) x) x)) ≡ file_bytes x)
created_file node true d g x free e = absurd (let k : false ≡ true = sym (ap is_file (free refl)) ∙ e in cc)
created_file node false false g x free e = (e, refl)
created_file node false true g None free e = absurd (cc)
created_file node false true g (Some (FileNode a bytes)) free e = (refl, refl)
created_file node false true g (Some (DirectoryNode a ns)) free e = absurd (cc)

created_directory : (node : Node) (b d : Bool) (g : List Name → List Name) (x : Option Node) → (b ≡ true → x ≡ None) → directory_refusal x ≡ None → directory_refusal (cond b (Some node) (cond d (option_map (node_with_names g) x) x)) ≡ None
created_directory node true d g x free e = absurd (let k : directory_refusal None ≡ None = sym (ap directory_refusal (free refl)) ∙ e in cc)
created_directory node false false g x free e = e
created_directory node false true g None free e = absurd (cc)
created_directory node false true g (Some (FileNode a bytes)) free e = absurd (cc)
created_directory node false true g (Some (DirectoryNode a ns)) free e = refl

pub keeps_with_new : (p : Path) (node : Node) (g : List Name → List Name) (t : Tree) → t p ≡ None → KeepsFiles t (tree_with_node p (Some node) (tree_with_change (parent_path p) (node_with_names g) t))
keeps_with_new p node g t none = record {
  files = λ q e. created_file node (same_path p q) (same_path (parent_path p) q) g (t q) (λ same. sym (ap t (path_from_same p q same)) ∙ none) e;
  directories = λ q e. created_directory node (same_path p q) (same_path (parent_path p) q) g (t q) (λ same. sym (ap t (path_from_same p q same)) ∙ none) e;
}

is_free : (x : Option Node) → is_some x ≡ false → x ≡ None
is_free None e = refl
is_free (Some n) e = absurd (cc)

abbrev pub mkdir_checks : DiskSummary → Session → List ℕ → List (Option Refusal)
mkdir_checks around s path =
    refuse_if (not around.writable) ReadOnly
    ∷ refuse_if (is_none (parse_path path)) Invalid
    ∷ parents_refusal s.tree [] (path_or_root path)
    ∷ refuse_if (has_long_name around (path_or_root path)) NameTooLong
    ∷ refuse_if (is_some (s.tree (path_or_root path))) Exist
    ∷ refuse_if (exceeds_half_pair around (last_name (path_or_root path)) []) EntryFull
    ∷ refuse_if (lacks_room around s.files 4) NoSpace
    ∷ []

made_where_free : (around : DiskSummary) (s : Session) (path : List ℕ) → operation_refusal around s (ops.Mkdir path) ≡ None → s.tree (path_or_root path) ≡ None
made_where_free around s path passes =
    let check : Option Refusal = refuse_if (is_some (s.tree (path_or_root path))) Exist in
    is_free (s.tree (path_or_root path)) (not_refused_if (is_some (s.tree (path_or_root path))) Exist (none_at (mkdir_checks around s path) 4 check passes refl))

-- ---- an operation that no check refused

pub record KeepsAll (t : Tree) (files : OpenFilesByNumber) (after : Session) : Type 0 where
  pub tree : KeepsFiles t after.tree
  pub same_files : after.files ≡ files

effect_keeps : (t : Tree) (around : DiskSummary) (files : OpenFilesByNumber) (op : Operation) → is_alone op ≡ true → operation_refusal around (with_files t files) op ≡ None → KeepsAll t files (operation_effect around (with_files t files) op).1
effect_keeps t around files (ops.Mkdir path) is passes = record { tree = keeps_with_new (path_or_root path) (DirectoryNode [] []) (names_with (last_name (path_or_root path))) t (made_where_free around (with_files t files) path passes); same_files = refl }
effect_keeps t around files (ops.SetAttr path kind bytes) is passes = record { tree = keeps_with_attributes (path_or_root path) (λ n. attributes_with kind bytes (node_attributes_of (Some n))) t; same_files = refl }
effect_keeps t around files (ops.RemoveAttr path kind) is passes = record { tree = keeps_with_attributes (path_or_root path) (λ n. attributes_without kind (node_attributes_of (Some n))) t; same_files = refl }
effect_keeps t around files (ops.ListAll path) is passes = record { tree = keeps_itself t; same_files = refl }
effect_keeps t around files (ops.Stat path) is passes = record { tree = keeps_itself t; same_files = refl }
effect_keeps t around files (ops.GetAttr path kind) is passes = record { tree = keeps_itself t; same_files = refl }
effect_keeps t around files ops.AskGstate is passes = record { tree = keeps_itself t; same_files = refl }
effect_keeps t around files (ops.IsUsed block) is passes = record { tree = keeps_itself t; same_files = refl }
effect_keeps t around files ops.UsedCount is passes = record { tree = keeps_itself t; same_files = refl }
effect_keeps t around files ops.Recover is passes = record { tree = keeps_itself t; same_files = refl }
effect_keeps t around files op is passes = absurd (cc)

result_keeps : (t : Tree) (around : DiskSummary) (files : OpenFilesByNumber) (op : Operation) (r : Option Refusal) → is_alone op ≡ true → operation_refusal around (with_files t files) op ≡ r → KeepsAll t files (effects.unless_refused r (with_files t files) (operation_effect around (with_files t files) op)).1
result_keeps t around files op None is e = effect_keeps t around files op is e
result_keeps t around files op (Some refusal) is e = record { tree = keeps_itself t; same_files = refl }

-- ---- a volume over such a tree

pub parents_kept : (t u : Tree) → ((q : Path) → directory_refusal (t q) ≡ None → directory_refusal (u q) ≡ None) → (above p : Path) → parents_refusal t above p ≡ None → parents_refusal u above p ≡ None
parents_kept t u h above [] e = refl
parents_kept t u h above (name ∷ []) e = refl
parents_kept t u h above (name ∷ next ∷ rest) e =
    let two = both (directory_refusal (t (above ++ name ∷ []))) (parents_refusal t (above ++ name ∷ []) (next ∷ rest)) e in
    ap₂ option_or (h (above ++ name ∷ []) two.0) (parents_kept t u h (above ++ name ∷ []) (next ∷ rest) two.1)
  where
    both : (r s : Option Refusal) → option_or r s ≡ None → (r ≡ None) × (s ≡ None)
    both None s k = (refl, k)
    both (Some x) s k = absurd (cc)

pub leads_kept : (t u : Tree) → KeepsFiles t u → (path : List ℕ) → LeadsToFile t path → LeadsToFile u path
leads_kept t u k path l = record { given = l.given; parents = parents_kept t u k.directories [] (path_or_root path) l.parents; file = (k.files (path_or_root path) l.file).0 }

pub stored_kept : (t u : Tree) → KeepsFiles t u → (at : Option (List ℕ)) → ((path : List ℕ) → at ≡ Some path → LeadsToFile t path) → stored_bytes u at ≡ stored_bytes t at
stored_kept t u k None leads = refl
stored_kept t u k (Some path) leads = (k.files (path_or_root path) (leads path refl).file).1

pub performed_sound : (old new : VolumeView) (op : Operation) (x : Result Reply Error) → is_alone op ≡ true → IsSoundVolume old → IsCall old.session op x new.session → new.nodes ≡ old.nodes → new.handles ≡ old.handles → IsSoundIfWorking new
performed_sound old new op (Err e) alone sound call nodes handles works =
    let not = no_refusal e old.session new.session op call.answers in
    absurd (failed_not_working e old.session new.session (not, (op ∷ [], record { before = []; next = op; others = []; are = refl; at = old.session; quiet = refl; ends = subst (λ b. IsCall old.session op (cond b (Ok (ops.Refused (refusals.error_refusal e))) (Err e)) new.session) (sym not) call })) works)
performed_sound old new op (Ok reply) alone sound call nodes handles works =
    let t = visible_tree old.session.tree in
    let other = not_remount op alone in
    let a = answered old.session op reply new.session other sound.idle.works call.answers in
    let k = result_keeps t a.around old.session.files op (operation_refusal a.around (with_files t old.session.files) op) alone refl in
    let after : (effects.unless_refused (operation_refusal a.around (with_files t old.session.files) op) (with_files t old.session.files) (operation_effect a.around (with_files t old.session.files) op)).1 ≡ viewed_session new.session = ap (λ (z : Reply × Session). z.1) a.is in
    let tree = subst (λ (s : Session). KeepsFiles t s.tree) after k.tree in
    let files : new.session.files ≡ old.session.files = sym (ap (λ (s : Session). s.files) after) ∙ k.same_files in
    let profile : new.session.tree.disk.profile ≡ old.session.tree.disk.profile = call.answers.geometry.profile ∙ ap (λ r. (cond r (disk_with_order new.session.tree.disk.order old.session.tree.disk) old.session.tree.disk).profile) other in
    record {
      idle = record { works = works; shows = refl; files = subst HasNoOpenFiles (sym files) sound.idle.files };
      nodes = λ j n e.
          let s = sound.nodes j n (ap (λ (ns : List (Option NodeView)). entry_at ns j) (sym nodes) ∙ e) in
          node_carried old.session new.session n (stored_kept t (visible_tree new.session.tree) tree n.path s.leads) (leads_kept t (visible_tree new.session.tree) tree) profile s;
      named = λ j h e. subst (λ (ns : List (Option NodeView)). IsSome (entry_at ns h.node)) (sym nodes) (sound.named j h (ap (λ (hs : List (Option Handle)). entry_at hs j) (sym handles) ∙ e));
      apart = λ j l m n path p x y. sound.apart j l m n path p (ap (λ (ns : List (Option NodeView)). entry_at ns j) (sym nodes) ∙ x) (ap (λ (ns : List (Option NodeView)). entry_at ns l) (sym nodes) ∙ y);
    }

pub performed_keeps : (old new : VolumeView) (op : Operation) (x : Result Reply Error) → is_alone op ≡ true → IsSoundIfWorking old → IsCall old.session op x new.session → new.nodes ≡ old.nodes → new.handles ≡ old.handles → IsSoundIfWorking new
performed_keeps old new op x alone sound call nodes handles =
    operation_keeps old new op x (not_remount op alone) call sound (λ s. performed_sound old new op x alone s call nodes handles)
