-- The promises of a call on a thread, from its steps and their errors.
use Rattle.std.proofs.Common.{ℕ, ◌≡◌, ◌∙◌, false, true, List, [], Result, Ok, Err, refl, sym, ap, ap₂, subst}
use Rattle.std.specs.Prelude.{IfErr, OnOk, is_err, is_some}
use Rattle.lfs_device.specs.declared.error.Error.{Error}
use Rattle.lfs_device.specs.declared.error.Error.TheVariants.{Io}
use Rattle.lfs_tree.proofs.Common.{attributes_with, attributes_without, CallEvent, OnlyReadsSince, fault_count, FlagsOfOpen, Operation, path_or_root, is_recover, renames_itself, disk_tree, DirectoryNode, Path, Tree, tree_creating, tree_removing, tree_renaming, same_path, has_failed_after, KeepsRootPairIndex, KeptThread, ThreadView, ChangesThreadBlocks, IsOperationCall, tree_after_call, AppliesBeforeRelocation, IsLaterOnSameDevice, CanChangeRecovered, ChangesTreeOrFails, HasSoundImage, PowerLossLeavesEither, HasThreadCause, tree_with_attributes, uncached_state, tree_summary, ReadsOrReports}
use Rattle.lfs_model.specs.session.Operations as ops
use Rattle.lfs_tree.specs.TreeCalls as call
use Rattle.lfs_tree.proofs.SameErrors.{same_error}
use Rattle.lfs_tree.proofs.Carried.{with_history}
use Rattle.lfs_tree.proofs.CarrySurvives.{created_shows, survives_reading}
use Rattle.lfs_tree.proofs.ReportedFaults.{ReportsFaultsSince, called_by_reading, called_by_writing, reports_error}

-- ---- the operations that a call does

pub does_mkdir : (P : Operation → Type 0) (path : Path) → ((given : List ℕ) → path_or_root given ≡ path → P (ops.Mkdir given)) → (op : Operation) → IsOperationCall (call.Mkdir path) op → P op
does_mkdir P path h op d = subst P (sym d.1.0) (h d.0 d.1.1)

pub does_create : (P : Operation → Type 0) (path : Path) → ((given : List ℕ) (flags : FlagsOfOpen) → path_or_root given ≡ path → P (ops.Open given flags)) → (op : Operation) → IsOperationCall (call.Create path) op → P op
does_create P path h op d = subst P (sym d.1.1.0) (h d.0 d.1.0 d.1.1.1)

pub does_remove : (P : Operation → Type 0) (path : Path) → ((given : List ℕ) → path_or_root given ≡ path → P (ops.Remove given)) → (op : Operation) → IsOperationCall (call.Remove path) op → P op
does_remove P path h op d = subst P (sym d.1.0) (h d.0 d.1.1)

pub does_rename : (P : Operation → Type 0) (from to : Path) → ((given to_given : List ℕ) → path_or_root given ≡ from → path_or_root to_given ≡ to → P (ops.Rename given to_given)) → (op : Operation) → IsOperationCall (call.Rename from to) op → P op
does_rename P from to h op d = subst P (sym d.1.1.0) (h d.0 d.1.0 d.1.1.1.0 d.1.1.1.1)

pub does_set : (P : Operation → Type 0) (path : Path) (kind : ℕ) (bytes : List ℕ) → ((given : List ℕ) → path_or_root given ≡ path → P (ops.SetAttr given kind bytes)) → (op : Operation) → IsOperationCall (call.SetAttr path kind bytes) op → P op
does_set P path kind bytes h op d = subst P (sym d.1.0) (h d.0 d.1.1)

pub does_clear : (P : Operation → Type 0) (path : Path) (kind : ℕ) → ((given : List ℕ) → path_or_root given ≡ path → P (ops.RemoveAttr given kind)) → (op : Operation) → IsOperationCall (call.RemoveAttr path kind) op → P op
does_clear P path kind h op d = subst P (sym d.1.0) (h d.0 d.1.1)

-- an operation after a recovery: a change of its own
abbrev pub IsPlain : Operation → Type 0
IsPlain op = (renames_itself op ≡ false) × (is_recover op ≡ false)

pub plain_mkdir : (path : Path) (op : Operation) → IsOperationCall (call.Mkdir path) op → IsPlain op
plain_mkdir path = does_mkdir IsPlain path (λ given e. (refl, refl))

pub plain_create : (path : Path) (op : Operation) → IsOperationCall (call.Create path) op → IsPlain op
plain_create path = does_create IsPlain path (λ given flags e. (refl, refl))

pub plain_remove : (path : Path) (op : Operation) → IsOperationCall (call.Remove path) op → IsPlain op
plain_remove path = does_remove IsPlain path (λ given e. (refl, refl))

pub plain_rename : (from to : Path) → same_path from to ≡ false → (op : Operation) → IsOperationCall (call.Rename from to) op → IsPlain op
plain_rename from to apart = does_rename IsPlain from to (λ given to_given e f. (ap₂ same_path e f ∙ apart, refl))

pub plain_set : (path : Path) (kind : ℕ) (bytes : List ℕ) (op : Operation) → IsOperationCall (call.SetAttr path kind bytes) op → IsPlain op
plain_set path kind bytes = does_set IsPlain path kind bytes (λ given e. (refl, refl))

pub plain_clear : (path : Path) (kind : ℕ) (op : Operation) → IsOperationCall (call.RemoveAttr path kind) op → IsPlain op
plain_clear path kind = does_clear IsPlain path kind (λ given e. (refl, refl))

-- ---- what one of them leaves

module _ (a c : KeptThread) where
  stands : (tree : Tree) (op : Operation) → AppliesBeforeRelocation a op c → KeepsRootPairIndex a c → disk_tree c.disk c.pairs ≡ tree → HasSoundImage a tree c
  stands tree op k root shows = record { sound = k.applied.sound; fits = k.applied.fits; recovered = k.applied.recovered; root = root; shows = shows; no_fault = k.applied.no_fault }

  pub mkdir_stands : (path : Path) (given : List ℕ) → path_or_root given ≡ path → AppliesBeforeRelocation a (ops.Mkdir given) c → KeepsRootPairIndex a c → HasSoundImage a (tree_after_call (call.Mkdir path) (disk_tree a.disk a.pairs)) c
  mkdir_stands path given e k root = stands _ (ops.Mkdir given) k root (k.applied.shows (tree_summary (uncached_state a true false)) [] ∙ ap (λ p. tree_creating p (DirectoryNode [] []) (disk_tree a.disk a.pairs)) e)

  pub create_stands : (path : Path) (given : List ℕ) (flags : FlagsOfOpen) → is_some (disk_tree a.disk a.pairs path) ≡ false → path_or_root given ≡ path → AppliesBeforeRelocation a (ops.Open given flags) c → KeepsRootPairIndex a c → HasSoundImage a (tree_after_call (call.Create path) (disk_tree a.disk a.pairs)) c
  create_stands path given flags nothing e k root = stands _ (ops.Open given flags) k root (k.applied.shows (tree_summary (uncached_state a true false)) [] ∙ created_shows (disk_tree a.disk a.pairs) path (path_or_root given) e nothing)

  pub remove_stands : (path : Path) (given : List ℕ) → path_or_root given ≡ path → AppliesBeforeRelocation a (ops.Remove given) c → KeepsRootPairIndex a c → HasSoundImage a (tree_after_call (call.Remove path) (disk_tree a.disk a.pairs)) c
  remove_stands path given e k root = stands _ (ops.Remove given) k root (k.applied.shows (tree_summary (uncached_state a true false)) [] ∙ ap (λ p. tree_removing p (disk_tree a.disk a.pairs)) e)

  pub rename_stands : (from to : Path) (given to_given : List ℕ) → path_or_root given ≡ from → path_or_root to_given ≡ to → AppliesBeforeRelocation a (ops.Rename given to_given) c → KeepsRootPairIndex a c → HasSoundImage a (tree_after_call (call.Rename from to) (disk_tree a.disk a.pairs)) c
  rename_stands from to given to_given e f k root = stands _ (ops.Rename given to_given) k root (k.applied.shows (tree_summary (uncached_state a true false)) [] ∙ ap₂ (λ p q. tree_renaming p q (disk_tree a.disk a.pairs)) e f)

  pub set_stands : (path : Path) (kind : ℕ) (bytes given : List ℕ) → path_or_root given ≡ path → AppliesBeforeRelocation a (ops.SetAttr given kind bytes) c → KeepsRootPairIndex a c → HasSoundImage a (tree_after_call (call.SetAttr path kind bytes) (disk_tree a.disk a.pairs)) c
  set_stands path kind bytes given e k root = stands _ (ops.SetAttr given kind bytes) k root (k.applied.shows (tree_summary (uncached_state a true false)) [] ∙ ap (λ p. tree_with_attributes p (attributes_with kind bytes) (disk_tree a.disk a.pairs)) e)

  pub clear_stands : (path : Path) (kind : ℕ) (given : List ℕ) → path_or_root given ≡ path → AppliesBeforeRelocation a (ops.RemoveAttr given kind) c → KeepsRootPairIndex a c → HasSoundImage a (tree_after_call (call.RemoveAttr path kind) (disk_tree a.disk a.pairs)) c
  clear_stands path kind given e k root = stands _ (ops.RemoveAttr given kind) k root (k.applied.shows (tree_summary (uncached_state a true false)) [] ∙ ap (λ p. tree_with_attributes p (attributes_without kind) (disk_tree a.disk a.pairs)) e)

-- ---- errors

pub works_reported : {X : Type 0} (new : ThreadView) (r : Result X Error) → new.failed ≡ is_err r → OnOk r (new.failed ≡ false)
works_reported new (Ok x) e = e
works_reported new (Err e) f = tt

pub works_put : {X : Type 0} (new : ThreadView) (r : Result X Error) → new.failed ≡ has_failed_after r → OnOk r (new.failed ≡ false)
works_put new (Ok x) e = e
works_put new (Err e) f = tt

pub quiet_reported : {X : Type 0} (a c : KeptThread) (h : List CallEvent) (r : Result X Error) → fault_count h ≡ fault_count a.history → ReportsFaultsSince h c.history r → OnOk r (fault_count c.history ≡ fault_count a.history)
quiet_reported a c h (Ok x) same t = t.no_fault (λ io. absurd (cc)) ∙ same
quiet_reported a c h (Err e) same t = tt

errors_reported : {X : Type 0} (a c : KeptThread) (h : List CallEvent) (r : Result X Error) → fault_count h ≡ fault_count a.history → ReportsFaultsSince h c.history r → IfErr r (HasThreadCause a c)
errors_reported a c h (Ok x) same t = tt
errors_reported {X} a c h (Err e) same t = (let r : Result X Error = Err e in reports_error a c h r e same t refl)

-- a change after calls that only read
pub changed : {X : Type 0} (t new : ThreadView) (Done : KeptThread → Type 0) (after : Tree) (h : List CallEvent) (bs : List ℕ) (r : Result X Error) → fault_count h ≡ fault_count t.kept.history → OnlyReadsSince t.kept.disk.blocks t.kept.history h → ChangesThreadBlocks bs (with_history t.kept h) new.kept
    → ReportsFaultsSince h new.kept.history r → OnOk r (new.failed ≡ false) → OnOk r (Done new.kept × HasSoundImage t.kept after new.kept) → PowerLossLeavesEither t.kept new.kept after → ChangesTreeOrFails t Done after r new
changed t new Done after h bs r same reads w reported works both survives = record {
  done = first r both;
  works = works;
  stands = second r both;
  called = called_by_writing t.kept h new.kept bs reads w;
  errors = errors_reported t.kept new.kept h r same reported;
  survives = survives;
}
  where
    first : {X : Type 0} (r : Result X Error) → OnOk r (Done new.kept × HasSoundImage t.kept after new.kept) → OnOk r (Done new.kept)
    first (Ok x) k = k.0
    first (Err e) k = tt

    second : {X : Type 0} (r : Result X Error) → OnOk r (Done new.kept × HasSoundImage t.kept after new.kept) → OnOk r (HasSoundImage t.kept after new.kept)
    second (Ok x) k = k.1
    second (Err e) k = tt

-- a call that only read, and failed
pub only_read_change : {X : Type 0} (t : ThreadView) (root : ℕ) → CanChangeRecovered t root → (mid : ThreadView) (Done : KeptThread → Type 0) (after : Tree) (r : Result X Error) (e : Error) → r ≡ Err e → ReadsOrReports t mid r → ChangesTreeOrFails t Done after r mid
only_read_change {X} t root rests mid Done after r e is k =
    subst (λ (z : Result X Error). ChangesTreeOrFails t Done after z mid) (sym is) (go (subst (λ (z : Result X Error). ReadsOrReports t mid z) is k))
  where
    go : (let r : Result X Error = Err e in ReadsOrReports t mid r) → (let r : Result X Error = Err e in ChangesTreeOrFails t Done after r mid)
    go k = record {
      done = tt;
      works = tt;
      stands = tt;
      called = called_by_reading t.kept mid.kept k.only;
      errors = record { errors = k.reported.errors; fault = λ io. k.reported.fault (ap Err io); no_fault = λ other. k.reported.no_fault (λ z. other (same_error e Io z)) };
      survives = survives_reading t root rests mid.kept.history k.only.reads after;
    }

-- one that failed
pub failed_change : {X : Type 0} (t new : ThreadView) (Done : KeptThread → Type 0) (after : Tree) (r : Result X Error) (e : Error) → r ≡ Err e → IsLaterOnSameDevice t.kept new.kept → HasThreadCause t.kept new.kept e → PowerLossLeavesEither t.kept new.kept after → ChangesTreeOrFails t Done after r new
failed_change {X} t new Done after r e is called reported survives = subst (λ (z : Result X Error). ChangesTreeOrFails t Done after z new) (sym is) (record { done = tt; works = tt; stands = tt; called = called; errors = reported; survives = survives })
