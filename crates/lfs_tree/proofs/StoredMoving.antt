-- Contents that are committed, and a worn pair that may move then.
use Rattle.std.proofs.Common.{ℕ, ◌≡◌, ◌∙◌, ◌||◌, Bool, true, false, List, ◌++◌, Option, Result, Ok, Err, sym, ap, subst, if◌then◌else◌, arith}
use Rattle.std.specs.Prelude.{IfErr, OnErr, OnOk, is_err}
use Rattle.lfs_device.specs.declared.error.Error.{Error}
use Rattle.lfs_file.specs.declared.contents.WriterContents.{WriterContents}
use Rattle.lfs_model.proofs.KeptStructs.{struct_stays}
use Rattle.lfs_model.specs.session.History.{LeftByLatestCall}
use Rattle.lfs_model.specs.session.Operations as ops
use Rattle.lfs_operations.specs.declared.wear.RelocationPlan.{RelocationPlan}
use Rattle.lfs_tree.proofs.Common.{ChangesTreeOrFails, HasErrorCause, IsFailedTree, KeptThread, Operation, Path, IsSoundUnlessFailed, StoresBeforeRelocation, ThreadView, Tree, TreeState, disk_tree, node_with_bytes, is_file, uncached_state, kept_thread, option_map, recovered_from, same_path, visible_tree, thread_state, tree_with_change, writer_contents_bytes}
use Rattle.lfs_tree.specs.OpenContents.{IsWriterLayoutAfterOperation, IsStoreApplied}
use Rattle.lfs_tree.specs.TreeState.{PowerLossesLeaveEither}
use Rattle.lfs_tree.specs.Wear.{CanRelocateByPlan, HasRelocatedAtMostOne, IsRelocationPlanned, RelocatesUnlessChangeFailed, RelocatesOrFails}
use Rattle.lfs_tree.proofs.NotedErrors.{noted, noted_failed}
use Rattle.lfs_tree.proofs.RecoveredFirst.{fewer_flying}
use Rattle.lfs_tree.proofs.Relocated.{arranged_moved, breaks_moved, called_moved, can_spread, geometry_moved, keeps_moved, left_moved, reports_moved, survives_moved}
use Rattle.lfs_tree.proofs.StoreContents.{all_stored_working, survives_stored}
use Rattle.lfs_tree.proofs.TreeCalls.{breaks, reports}

-- ---- the image

module _ (old mid new : TreeState) (plan : Option RelocationPlan) (planned : IsRelocationPlanned old 2 plan) (path : Path) (bytes : List ℕ) (k : IsStoreApplied old path bytes mid) (m : HasRelocatedAtMostOne mid plan new) where
  -- another file stays
  file_mid : (q : Path) → is_file (visible_tree old q) ≡ true → same_path path q ≡ false → is_file (visible_tree mid q) ≡ true
  file_mid q file apart = ap (λ (t : Tree). is_file (t q)) k.shows ∙ ap (λ b. is_file (if b then option_map (node_with_bytes bytes) (visible_tree old q) else visible_tree old q)) apart ∙ file

  stored_moved : IsWriterLayoutAfterOperation old path bytes ops.Sync mid → IsWriterLayoutAfterOperation old path bytes ops.Close mid → LeftByLatestCall mid.history mid.disk.blocks → IsStoreApplied old path bytes new
  stored_moved synced closed newest = record {
    works = m.works;
    sound = m.sound;
    writable = m.writable;
    geometry = geometry_moved old mid new plan 2 planned.plan planned.sound k.sound.accepted m k.geometry;
    calls = m.calls ++ k.calls;
    called = called_moved old mid new plan 2 planned.plan planned.sound k.sound.accepted m k.calls k.called;
    no_fault = m.no_fault ∙ k.no_fault;
    fits = m.files.ready.writable;
    recovered = recovered_from new.disk new.pairs m.files.ready.accepted m.files.ready.settled;
    shows = m.files.shows ∙ k.shows;
    others = λ q file apart. struct_stays mid.disk mid.pairs new.pairs q (file_mid q file apart) (m.files.structs q) ∙ k.others q file apart;
    lists = λ q file apart. (keeps_moved old mid new plan 2 planned.plan planned.sound k.sound.accepted m q (file_mid q file apart)).list ∙ k.lists q file apart;
    synced = λ some files fd writer is. arranged_moved old mid new plan 2 planned.plan planned.sound k.sound.accepted m (record { tree = visible_tree old; files = files }) (ops.Sync fd) k.calls k.called k.geometry planned.newest newest some (synced files fd writer is);
    closed = λ some files fd writer is. arranged_moved old mid new plan 2 planned.plan planned.sound k.sound.accepted m (record { tree = visible_tree old; files = files }) (ops.Close fd) k.calls k.called k.geometry planned.newest newest some (closed files fd writer is);
    alone = λ files op only. left_moved old mid new plan 2 planned.plan planned.sound k.sound.accepted m (record { tree = visible_tree old; files = files }) op (k.alone files op only);
    none_in_flight = (let n = k.none_in_flight in let few = fewer_flying new.map mid.map (λ b. (m.files.flying b).0) in omega arith);
  }

-- ---- the call

-- what the call promises
pub record StoresOrFails (old : TreeState) (path : Path) (bytes : List ℕ) (result : Result (Unit {0}) Error) (new : TreeState) : Type 0 where
  pub stored : OnOk result (IsStoreApplied old path bytes new)
  pub broken : OnErr result (IsFailedTree old new)
  pub errors : IfErr result (HasErrorCause old new)
  pub survives : PowerLossesLeaveEither old new (tree_with_change path (node_with_bytes bytes) (visible_tree old))

module _ (t : ThreadView) (root : ℕ) (writable : Bool) (now : TreeState) (kept : IsSoundUnlessFailed t root writable) (view : thread_state t writable ≡ now) (works : now.failed ≡ false) (may : now.writable ≡ true) (path : Path) (contents : WriterContents)
    (b new : ThreadView) (r : Result (Unit {0}) Error) (w : ChangesTreeOrFails t (StoresBeforeRelocation t.kept path (writer_contents_bytes t.kept contents)) (tree_with_change path (node_with_bytes (writer_contents_bytes t.kept contents)) (disk_tree t.kept.disk t.kept.pairs)) r b)
    (f : new ≡ record b { failed = is_err r || b.failed }) (plan : Option RelocationPlan) (planned : IsRelocationPlanned now 2 plan) where
  abbrev Stores : KeptThread → Type 0
  Stores = StoresBeforeRelocation t.kept path (writer_contents_bytes t.kept contents)

  abbrev turn : Tree
  turn = tree_with_change path (node_with_bytes (writer_contents_bytes t.kept contents)) (disk_tree t.kept.disk t.kept.pairs)

  abbrev bytes : List ℕ
  bytes = writer_contents_bytes (kept_thread now) contents

  abbrev seen : TreeState
  seen = thread_state new writable

  made : ChangesTreeOrFails t Stores turn r new
  made = noted t b new Stores turn r w f

  alone : StoresOrFails now path bytes r seen
  alone = record {
    stored = all_stored_working t root writable now kept view works may path contents r new made.done made.works;
    broken = breaks t writable now view Stores turn r new made (noted_failed t b new Stores turn r w f);
    errors = reports t writable now view Stores turn r new made;
    survives = survives_stored t root writable now kept view works may path contents new.kept.history made.survives;
  }

  pub may_move_stored : OnOk r (CanRelocateByPlan seen plan)
  may_move_stored = go r alone.stored
    where
      go : (r : Result (Unit {0}) Error) → OnOk r (IsStoreApplied now path bytes seen) → OnOk r (CanRelocateByPlan seen plan)
      go (Err e) k = tt
      go (Ok u) k = can_spread now seen plan 2 planned.plan planned.sound k.sound k.geometry k.works k.writable k.recovered

  -- the layout of slots, seen from the tree
  laid : (op : ℕ → Operation) → IsWriterLayoutAfterOperation (uncached_state t.kept true false) path (writer_contents_bytes t.kept contents) op (uncached_state new.kept true false) → IsWriterLayoutAfterOperation now path bytes op seen
  laid op k = subst (λ (s : TreeState). IsWriterLayoutAfterOperation s path (writer_contents_bytes (kept_thread s) contents) op seen) view k

  pub stores_moving : (s : Result (Unit {0}) Error) (last : TreeState) → RelocatesUnlessChangeFailed seen plan r s last → StoresOrFails now path bytes s last
  stores_moving s last h = go r alone made.done h
    where
      moves : (s : Result (Unit {0}) Error) → IsStoreApplied now path bytes seen → PowerLossesLeaveEither now seen (tree_with_change path (node_with_bytes bytes) (visible_tree now)) → Stores new.kept → RelocatesOrFails seen plan s last → StoresOrFails now path bytes s last
      moves (Err e) k first is m = record {
        stored = tt;
        broken = breaks_moved now seen last k.calls k.called k.geometry m.broken;
        errors = reports_moved now seen last e k.no_fault m.errors;
        survives = survives_moved now seen last (tree_with_change path (node_with_bytes bytes) (visible_tree now)) k.calls m.broken.calls k.called m.broken.called k.geometry k.shows first m.survives;
      }
      moves (Ok v) k first is m = record {
        stored = stored_moved now seen last plan planned path bytes k m.done (laid ops.Sync is.synced) (laid ops.Close is.closed) m.newest;
        broken = tt;
        errors = tt;
        survives = survives_moved now seen last (tree_with_change path (node_with_bytes bytes) (visible_tree now)) k.calls m.done.calls k.called m.done.called k.geometry k.shows first m.survives;
      }

      go : (r : Result (Unit {0}) Error) → StoresOrFails now path bytes r seen → OnOk r (Stores new.kept) → RelocatesUnlessChangeFailed seen plan r s last → StoresOrFails now path bytes s last
      go (Err e) k is m = subst (λ (z : Result (Unit {0}) Error). StoresOrFails now path bytes z last) (sym m.0) (subst (λ (z : TreeState). let y : Result (Unit {0}) Error = Err e in StoresOrFails now path bytes y z) (sym m.1) k)
      go (Ok u) k is m = moves s k.stored k.survives is m
