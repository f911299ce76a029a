-- The invariant of the readers among open files.
use Rattle.std.proofs.Common.{ℕ, zero, suc, ◌≡◌, ◌||◌, ◌∙◌, Bool, true, false, cond, List, [], ◌∷◌, ◌++◌, length, map, set, nat_lt, unwrap_or, Option, Some, None, refl, sym, ap, subst}
use Rattle.lfs_fs.proofs.Common.{AllByRecursion, list_any, option_map, same_Some, Disk, vacates_path, Operation, disk_list_bytes, all_entries, disk_tree, slot_of_path, Attributes, Slot, Pair, Path, struct_node, is_file, same_path, path_from_same, path_itself, IsStorageAt, contents_struct, KeepsOtherFiles, IsOperationApplied, TreeState, kept_thread, visible_tree, RuntimeFiles, prepend_if_some, open_file_at, file_with_position, files_with_entry, as_reader, readers_among, writers_among, writers_paths, AreCurrentReaders, IsCurrentReader}
use Rattle.lfs_lookup.specs.FileContents.{AreContentsAt}
use Rattle.lfs_lookup.specs.declared.file_contents.FileContents.{FileContents}
use Rattle.lfs_lookup.specs.declared.file_contents.FileContents.TheVariants as contents
use Rattle.lfs_fs.specs.declared.files.OpenFile.{OpenFile}
use Rattle.lfs_fs.specs.declared.files.OpenFile.TheVariants as file
use Rattle.lfs_fs.specs.declared.files.Reader.{Reader}
use Rattle.lfs_fs.specs.declared.files.Writer.{Writer}

-- ---- contents

-- a file is where contents are
pub contents_are_file : (disk : Disk) (ps : List Pair) (path : Path) (c : FileContents) → IsStorageAt ps path c → is_file (disk_tree disk ps path) ≡ true
contents_are_file disk ps path c h = go (slot_of_path ps path) h.struct
  where
    kind : (attributes : Attributes) (d : FileContents) → is_file (Some (struct_node (disk_list_bytes disk) (all_entries ps) attributes (contents_struct d))) ≡ true
    kind attributes (contents.Inline bytes) = refl
    kind attributes (contents.List head size) = refl

    go : (o : Option Slot) → option_map (λ (u : Slot). u.struct) o ≡ Some (contents_struct c) → is_file (option_map (λ (u : Slot). struct_node (disk_list_bytes disk) (all_entries ps) u.attributes u.struct) o) ≡ true
    go None e = absurd (cc)
    go (Some u) e = subst (λ s. is_file (Some (struct_node (disk_list_bytes disk) (all_entries ps) u.attributes s)) ≡ true) (sym (same_Some u.struct (contents_struct c) e)) (kind u.attributes c)

-- contents that are found are those of the file there
pub found_contents : (t : TreeState) (path : Path) (o : Option FileContents) (x none : FileContents) → AreContentsAt (kept_thread t) path o → x ≡ unwrap_or o none → is_file (visible_tree t path) ≡ true → IsStorageAt t.pairs path x
found_contents t path None x none found is there = absurd (let k = sym found ∙ there in cc)
found_contents t path (Some c) x none found is there = subst (IsStorageAt t.pairs path) (sym is) found

-- ---- the readers of some open files

module _ (P : Reader → Type 0) where
  joined : (fs : RuntimeFiles) (entry : Option OpenFile) → AllByRecursion P (prepend_if_some (as_reader entry) []) → AllByRecursion P (readers_among fs) → AllByRecursion P (readers_among (entry ∷ fs))
  joined fs None e h = h
  joined fs (Some (file.Reading r)) e h = (e.0, h)
  joined fs (Some (file.Writing w)) e h = h

  -- with a replaced entry
  pub all_set : (fs : RuntimeFiles) (fd : ℕ) (entry : Option OpenFile) → AllByRecursion P (prepend_if_some (as_reader entry) []) → AllByRecursion P (readers_among fs) → AllByRecursion P (readers_among (set fs fd entry))
  all_set [] fd entry e h = h
  all_set (None ∷ fs) zero entry e h = joined fs entry e h
  all_set (Some (file.Reading r) ∷ fs) zero entry e h = joined fs entry e h.1
  all_set (Some (file.Writing w) ∷ fs) zero entry e h = joined fs entry e h
  all_set (None ∷ fs) (suc fd) entry e h = all_set fs fd entry e h
  all_set (Some (file.Reading r) ∷ fs) (suc fd) entry e h = (h.0, all_set fs fd entry e h.1)
  all_set (Some (file.Writing w) ∷ fs) (suc fd) entry e h = all_set fs fd entry e h

  -- with one more entry
  all_more : (fs : RuntimeFiles) (entry : Option OpenFile) → AllByRecursion P (prepend_if_some (as_reader entry) []) → AllByRecursion P (readers_among fs) → AllByRecursion P (readers_among (fs ++ entry ∷ []))
  all_more [] None e h = h
  all_more [] (Some (file.Reading r)) e h = e
  all_more [] (Some (file.Writing w)) e h = h
  all_more (None ∷ fs) entry e h = all_more fs entry e h
  all_more (Some (file.Reading r) ∷ fs) entry e h = (h.0, all_more fs entry e h.1)
  all_more (Some (file.Writing w) ∷ fs) entry e h = all_more fs entry e h

  pub all_put : (fs : RuntimeFiles) (fd : ℕ) (entry : Option OpenFile) → AllByRecursion P (prepend_if_some (as_reader entry) []) → AllByRecursion P (readers_among fs) → AllByRecursion P (readers_among (files_with_entry fs fd entry))
  all_put fs fd entry e h = go (nat_lt fd (length fs))
    where
      go : (b : Bool) → AllByRecursion P (readers_among (cond b (set fs fd entry) (fs ++ entry ∷ [])))
      go true = all_set fs fd entry e h
      go false = all_more fs entry e h

  -- the one of a number
  pub one_of_all : (fs : RuntimeFiles) (fd : ℕ) (r : Reader) → Some r ≡ as_reader (open_file_at fs fd) → AllByRecursion P (readers_among fs) → P r
  one_of_all [] fd r e h = absurd (cc)
  one_of_all (None ∷ fs) zero r e h = absurd (cc)
  one_of_all (Some (file.Reading q) ∷ fs) zero r e h = subst P (sym (same_Some r q e)) h.0
  one_of_all (Some (file.Writing w) ∷ fs) zero r e h = absurd (cc)
  one_of_all (None ∷ fs) (suc fd) r e h = one_of_all fs fd r e h
  one_of_all (Some (file.Reading q) ∷ fs) (suc fd) r e h = one_of_all fs fd r e h.1
  one_of_all (Some (file.Writing w) ∷ fs) (suc fd) r e h = one_of_all fs fd r e h

  -- for properties that don't depend on positions
  pub all_moved : ((r : Reader) (position : ℕ) → P r → P (record r { position = position })) → (fs : RuntimeFiles) (fd position : ℕ) → AllByRecursion P (readers_among fs) → AllByRecursion P (readers_among (set fs fd (option_map (file_with_position position) (open_file_at fs fd))))
  all_moved k [] fd position h = h
  all_moved k (None ∷ fs) zero position h = h
  all_moved k (Some (file.Reading r) ∷ fs) zero position h = (k r position h.0, h.1)
  all_moved k (Some (file.Writing w) ∷ fs) zero position h = h
  all_moved k (None ∷ fs) (suc fd) position h = all_moved k fs fd position h
  all_moved k (Some (file.Reading r) ∷ fs) (suc fd) position h = (h.0, all_moved k fs fd position h.1)
  all_moved k (Some (file.Writing w) ∷ fs) (suc fd) position h = all_moved k fs fd position h

pub all_weaker : (P Q : Reader → Type 0) → ((r : Reader) → P r → Q r) → (rs : List Reader) → AllByRecursion P rs → AllByRecursion Q rs
all_weaker P Q k [] h = tt
all_weaker P Q k (r ∷ rs) h = (k r h.0, all_weaker P Q k rs h.1)

-- ---- the paths of the writers

pub any_path : (p : Path) (ws : List Writer) → list_any (λ w. same_path p w.path) ws ≡ list_any (same_path p) (map (λ w. w.path) ws)
any_path p [] = refl
any_path p (w ∷ ws) = ap (λ b. same_path p w.path || b) (any_path p ws)

pub paths_moved : (fs : RuntimeFiles) (fd position : ℕ) → writers_paths (set fs fd (option_map (file_with_position position) (open_file_at fs fd))) ≡ writers_paths fs
paths_moved [] fd position = refl
paths_moved (None ∷ fs) zero position = refl
paths_moved (Some (file.Reading r) ∷ fs) zero position = refl
paths_moved (Some (file.Writing w) ∷ fs) zero position = refl
paths_moved (None ∷ fs) (suc fd) position = paths_moved fs fd position
paths_moved (Some (file.Reading r) ∷ fs) (suc fd) position = paths_moved fs fd position
paths_moved (Some (file.Writing w) ∷ fs) (suc fd) position = ap (λ ps. w.path ∷ ps) (paths_moved fs fd position)

no_more : (a b : Bool) → (a || b) ≡ false → (a ≡ false) × (b ≡ false)
no_more true b e = absurd (cc)
no_more false b e = (refl, e)

either : {a b : Bool} → a ≡ false → b ≡ false → (a || b) ≡ false
either e f = rw e f

paths_closed : (p : Path) (fs : RuntimeFiles) (fd : ℕ) → list_any (same_path p) (writers_paths fs) ≡ false → list_any (same_path p) (writers_paths (set fs fd None)) ≡ false
paths_closed p [] fd e = e
paths_closed p (None ∷ fs) zero e = e
paths_closed p (Some (file.Reading r) ∷ fs) zero e = e
paths_closed p (Some (file.Writing w) ∷ fs) zero e = (no_more (same_path p w.path) _ e).1
paths_closed p (None ∷ fs) (suc fd) e = paths_closed p fs fd e
paths_closed p (Some (file.Reading r) ∷ fs) (suc fd) e = paths_closed p fs fd e
paths_closed p (Some (file.Writing w) ∷ fs) (suc fd) e = let k = no_more (same_path p w.path) _ e in either k.0 (paths_closed p fs fd k.1)

-- ---- what they keep stays

pub read_moved : (ps : List Pair) (fs : RuntimeFiles) (fd position : ℕ) → AreCurrentReaders ps fs → AreCurrentReaders ps (set fs fd (option_map (file_with_position position) (open_file_at fs fd)))
read_moved ps fs fd position h =
    subst (λ written. AllByRecursion (IsCurrentReader ps written) (readers_among (set fs fd (option_map (file_with_position position) (open_file_at fs fd))))) (sym (paths_moved fs fd position))
    (all_moved (IsCurrentReader ps (writers_paths fs)) (λ r position k. record { contents = record { struct = k.contents.struct; fits = k.contents.fits }; apart = k.apart }) fs fd position h)

pub read_closed : (ps : List Pair) (fs : RuntimeFiles) (fd : ℕ) → AreCurrentReaders ps fs → AreCurrentReaders ps (set fs fd None)
read_closed ps fs fd h =
    all_set (IsCurrentReader ps (writers_paths (set fs fd None))) fs fd None tt
    (all_weaker (IsCurrentReader ps (writers_paths fs)) (IsCurrentReader ps (writers_paths (set fs fd None))) (λ r k. record { contents = k.contents; apart = paths_closed r.path fs fd k.apart }) (readers_among fs) h)

pub read_put : (ps : List Pair) (fs : RuntimeFiles) (fd : ℕ) (r : Reader) → writers_paths (files_with_entry fs fd (Some (file.Reading r))) ≡ writers_paths fs → IsCurrentReader ps (writers_paths fs) r → AreCurrentReaders ps fs → AreCurrentReaders ps (files_with_entry fs fd (Some (file.Reading r)))
read_put ps fs fd r same k h =
    subst (λ written. AllByRecursion (IsCurrentReader ps written) (readers_among (files_with_entry fs fd (Some (file.Reading r))))) (sym same)
    (all_put (IsCurrentReader ps (writers_paths fs)) fs fd (Some (file.Reading r)) (k, tt) h)

-- in an operation that is about none of them
pub read_carried : (old new : TreeState) (op : Operation) (written : List Path) (rs : List Reader) → IsOperationApplied old op new → AllByRecursion (λ r. vacates_path op r.path ≡ false) rs → AllByRecursion (IsCurrentReader old.pairs written) rs → AllByRecursion (IsCurrentReader new.pairs written) rs
read_carried old new op written [] carried off h = tt
read_carried old new op written (r ∷ rs) carried off h = (
  record {
    contents = record {
      struct = (carried.keeps r.path (contents_are_file old.disk old.pairs r.path r.contents h.0.contents) off.0).struct ∙ h.0.contents.struct;
      fits = h.0.contents.fits;
    };
    apart = h.0.apart;
  },
  read_carried old new op written rs carried off.1 h.1,
)

pub none_read : (op : Operation) → ((p : Path) → vacates_path op p ≡ false) → (rs : List Reader) → AllByRecursion (λ r. vacates_path op r.path ≡ false) rs
none_read op h [] = tt
none_read op h (r ∷ rs) = (h r.path, none_read op h rs)

pub other_way : (p q : Path) → same_path p q ≡ false → same_path q p ≡ false
other_way p q e = go (same_path q p) refl
  where
    go : (b : Bool) → same_path q p ≡ b → b ≡ false
    go false k = refl
    go true k = absurd (let l = sym e ∙ ap (λ z. same_path z q) (sym (path_from_same q p k)) ∙ path_itself q in cc)

-- after a writer's contents are committed to a path
pub read_stored : (disk : Disk) (old new : List Pair) (path : Path) (written later : List Path) (rs : List Reader) → KeepsOtherFiles (disk_tree disk old) old path new → ((p : Path) → list_any (same_path p) written ≡ false → (same_path p path ≡ false) × (list_any (same_path p) later ≡ false))
    → AllByRecursion (IsCurrentReader old written) rs → AllByRecursion (IsCurrentReader new later) rs
read_stored disk old new path written later rs keeps apart h =
    all_weaker (IsCurrentReader old written) (IsCurrentReader new later) (λ r k.
    let a = apart r.path k.apart in
    record {
      contents = record {
        struct = keeps r.path (contents_are_file disk old r.path r.contents k.contents) (other_way r.path path a.0) ∙ k.contents.struct;
        fits = k.contents.fits;
      };
      apart = a.1;
    }) rs h

pub alone_apart : (p path : Path) → list_any (same_path p) (path ∷ []) ≡ false → same_path p path ≡ false
alone_apart p path e = (no_more (same_path p path) _ e).0

-- ---- with a replaced writer

-- that writer has the path of the only one
pub read_rewritten : (ps qs : List Pair) (fs : RuntimeFiles) (fd : ℕ) (w v : Writer) → writers_among fs ≡ w ∷ [] → writers_among (set fs fd (Some (file.Writing v))) ≡ v ∷ [] → v.path ≡ w.path → qs ≡ ps → AreCurrentReaders ps fs → AreCurrentReaders qs (set fs fd (Some (file.Writing v)))
read_rewritten ps qs fs fd w v was now path same h =
    let paths : writers_paths fs ≡ writers_paths (set fs fd (Some (file.Writing v))) = ap (map (λ x. x.path)) was ∙ ap (λ p. p ∷ []) (sym path) ∙ sym (ap (map (λ x. x.path)) now) in
    subst (λ zs. AreCurrentReaders zs (set fs fd (Some (file.Writing v)))) (sym same)
    (subst (λ written. AllByRecursion (IsCurrentReader ps written) (readers_among (set fs fd (Some (file.Writing v))))) paths
    (all_set (IsCurrentReader ps (writers_paths fs)) fs fd (Some (file.Writing v)) tt h))

-- its contents were committed, and its entry replaced
pub read_saved : (disk : Disk) (old new : List Pair) (fs : RuntimeFiles) (fd : ℕ) (entry : Option OpenFile) (path : Path) (later : List Path) → as_reader entry ≡ None → writers_paths fs ≡ path ∷ [] → writers_paths (set fs fd entry) ≡ later
    → KeepsOtherFiles (disk_tree disk old) old path new → ((p : Path) → same_path p path ≡ false → list_any (same_path p) later ≡ false) → AreCurrentReaders old fs → AreCurrentReaders new (set fs fd entry)
read_saved disk old new fs fd entry path later none was now keeps apart h =
    subst (λ written. AllByRecursion (IsCurrentReader new written) (readers_among (set fs fd entry))) (sym now)
    (all_set (IsCurrentReader new later) fs fd entry (subst (λ o. AllByRecursion (IsCurrentReader new later) (prepend_if_some o [])) (sym none) tt)
    (read_stored disk old new path (path ∷ []) later (readers_among fs) keeps (λ p e. let k = alone_apart p path e in (k, apart p k)) (subst (λ written. AllByRecursion (IsCurrentReader old written) (readers_among fs)) was h)))

-- it is the first one, at a path where no reader is
pub read_opened : (ps : List Pair) (fs : RuntimeFiles) (fd : ℕ) (w : Writer) → writers_paths (files_with_entry fs fd (Some (file.Writing w))) ≡ w.path ∷ [] → AllByRecursion (λ r. same_path w.path r.path ≡ false) (readers_among fs) → AreCurrentReaders ps fs → AreCurrentReaders ps (files_with_entry fs fd (Some (file.Writing w)))
read_opened ps fs fd w now off h =
    subst (λ written. AllByRecursion (IsCurrentReader ps written) (readers_among (files_with_entry fs fd (Some (file.Writing w))))) (sym now)
    (all_put (IsCurrentReader ps (w.path ∷ [])) fs fd (Some (file.Writing w)) tt (each (readers_among fs) off h))
  where
    each : (rs : List Reader) → AllByRecursion (λ r. same_path w.path r.path ≡ false) rs → AllByRecursion (IsCurrentReader ps (writers_paths fs)) rs → AllByRecursion (IsCurrentReader ps (w.path ∷ [])) rs
    each [] off h = tt
    each (r ∷ rs) off h = (record { contents = h.0.contents; apart = either (other_way w.path r.path off.0) refl }, each rs off.1 h.1)
