-- An operation after a recovery is one on the image from before it.
use Rattle.std.proofs.Common.{ℕ, suc, ◌≡◌, ◌+◌, ◌≤◌, ◌⊎◌, ◌∙◌, ◌&&◌, inl, inr, true, false, not, cond, List, [], ◌∷◌, length, Option, Some, None, refl, sym, ap, ap₂, subst, arith}
use Rattle.lfs_tree.proofs.Common.{sum_by-cons, same_Some, node_attributes_of, is_file, last_name, directory_names, same_path, Blocks, attributes_with, Name, BlockStates, BlockState, IsInFlight, in_flight_count, state_in_flight, Free, InFlight, Used, SameGeometry, half_pair_capacity, profile_name_max, IsUnreachedOrRemoved, IsLayoutAfterRecovery, Operation, HasEitherTree, with_blocks, is_recover, renames_itself, Session, has_long_name, Attributes, reserved_entry_size, zero_gstate, Pair, pairs_gstate, count_before_root, Path, Tree, disk_tree, used_blocks, survives_then, Contains-occurrence_count, occurrence_count-Contains, used_count-AreUsed, occurrence_count, HoldsAtLosses-weaker, HasEndedMove, KeepsRootPairIndex, KeptThread, ThreadView, CanAddEntry, CanRemoveEntry, CanRemoveAttr, CanRenamePath, CanSetAttr, HasNeededBlocks, AppliesBeforeRelocation, AppliesOperation, IsLaterOnSameDevice, KeepsBlocksOutsideOperation, HasSoundImage, PowerLossLeavesEither, HasThreadCause, IsSoundWithRoot, OpenFilesByNumber, uncached_state, KeepsListBytes, HasDroppedUnreached, HasRecovered, IsSoundState, tree_summary, kept_thread}
use Rattle.std.specs.Prelude.{is_none, is_some, nat_lt}
use Rattle.lfs_device.specs.declared.error.Error.{Error}
use Rattle.lfs_model.specs.session.TreeEdits.{is_directory}
use Rattle.lfs_model.specs.format.Content.{attribute_bytes}
use Rattle.lfs_model.specs.session.Effects.{operation_effect}
use Rattle.lfs_model.proofs.Unmoved.{nothing_moves}
use Rattle.lfs_tree.proofs.RecoveredTwice.{recovers_through}
use Rattle.lfs_model.specs.declared.limits.Profile.{Profile}
use Rattle.lfs_model.specs.session.Operations as ops
use Rattle.lfs_model.specs.session.Session.{exceeds_half_pair, parents_refusal}
use Rattle.lfs_model.proofs.BlockCounts.{few_used}
use Rattle.lfs_operations.specs.EndingMove.{KeepsRecoveryLayouts}
use Rattle.lfs_model.proofs.RecoveryLayouts.{AreKin, stand_kin}
use Rattle.lfs_tree.proofs.KeptFiles.{keeps_then}
use Rattle.lfs_tree.proofs.Recovered.{called_then, leaves_then, recovered_already, some_since}

-- ---- the recovery

-- no more blocks are used
fewer_used : (c : KeptThread) (used : List ℕ) → IsSoundState (uncached_state c true false) → ((b : ℕ) → occurrence_count b (used_blocks c.disk c.pairs) ≤ occurrence_count b used) → length (used_blocks c.disk c.pairs) ≤ length used
fewer_used c used sound fewer =
    let e = used_count-AreUsed c.map (used_blocks c.disk c.pairs) sound.accepted.owned_once sound.used in
    let f = few_used used c.map (λ b is. Contains-occurrence_count used b (let k = occurrence_count-Contains (used_blocks c.disk c.pairs) b ((sound.used b).0 is) in let l = fewer b in omega arith)) in
    omega arith

pub settled_whole : (a b c : KeptThread) → (pairs_gstate a.pairs ≡ zero_gstate → ⊥) → HasEndedMove a b → HasDroppedUnreached b c → AppliesOperation a ops.Recover c → HasRecovered a c
settled_whole a b c left e d carries =
    let now : Session = record { tree = disk_tree b.disk b.pairs; files = [] } in
    let done = d.completed now refl in
    record {
      carries = carries;
      leads_on = λ s disk qs h. e.leads_on s disk qs (recovers_through b.disk b.pairs now c.disk c.pairs s disk qs done.laid_out d.ready.accepted d.ready.writable d.ready.settled h);
      room = fewer_used c (used_blocks a.disk a.pairs) carries.sound (λ k. let x = d.fewer k in let y = e.fewer k in omega arith);
      same = λ none. absurd (left none);
    }

pub settled_stands : (a c : KeptThread) → HasRecovered a c → KeepsRootPairIndex a c → HasSoundImage a (disk_tree a.disk a.pairs) c
settled_stands a c f root = record { sound = f.carries.sound; fits = f.carries.fits; recovered = f.carries.recovered; root = root; shows = f.carries.shows (tree_summary (uncached_state a true false)) []; no_fault = f.carries.no_fault }

-- nothing was left
pub settled_already : (t : ThreadView) (root : ℕ) → IsSoundWithRoot t root true → pairs_gstate t.kept.pairs ≡ zero_gstate → HasRecovered t.kept t.kept
settled_already t root r e = record {
  carries = recovered_already (uncached_state t.kept true false) refl refl r.sound e;
  leads_on = λ s disk qs h. h;
  room = omega arith;
  same = λ none. refl;
}

-- ---- an operation after it

kin_itself : (ps : List Pair) → AreKin ps ps
kin_itself [] = tt
kin_itself (p ∷ ps) = (record { at = refl; slots = refl; hard = refl }, kin_itself ps)

arranged_through : (a b c : KeptThread) (s : Session) (op : Operation) → SameGeometry a.disk b.disk → KeepsRecoveryLayouts a b → IsLayoutAfterRecovery b.disk b.pairs s op c.disk c.pairs → IsLayoutAfterRecovery a.disk a.pairs s op c.disk c.pairs
arranged_through a b c s op g leads k = record {
  middle = k.middle;
  between = k.between;
  accepted = k.accepted;
  recovered = k.recovered;
  recovery = leads s k.middle k.between k.recovery;
  operation = record {
    drafts = k.operation.drafts;
    parts = k.operation.parts;
    front = k.operation.front;
    fresh = k.operation.fresh;
    back = k.operation.back;
    edits = k.operation.edits;
    stand = stand_kin a.disk b.disk (IsUnreachedOrRemoved k.between op) (IsUnreachedOrRemoved k.between op) (record { block_size = g.block_size; page = g.page; there = λ x y. y; back = λ x y. y })
        (count_before_root k.between) None k.operation.drafts k.operation.drafts k.operation.parts (kin_itself k.operation.drafts) k.operation.stand;
    joined = k.operation.joined;
    is = k.operation.is;
  };
}

flying_cons : (state : BlockState) (sets : BlockStates) → in_flight_count (state ∷ sets) ≡ cond (state_in_flight state) 1 0 + in_flight_count sets
flying_cons state sets = sum_by-cons (λ x. cond (state_in_flight x) 1 0) state sets

flying_here : (x : BlockState) (o : Option BlockState) → (Some x ≡ Some InFlight → o ≡ Some InFlight) → cond (state_in_flight x) 1 0 ≤ cond (is_some o) 1 0
flying_here Free o h = omega arith
flying_here Used o h = omega arith
flying_here InFlight o h = let e = ap is_some (h refl) in subst (λ z. 1 ≤ cond z 1 0) (sym e) (omega arith)

both_fly : (x y : BlockState) → (Some x ≡ Some InFlight → Some y ≡ Some InFlight) → cond (state_in_flight x) 1 0 ≤ cond (state_in_flight y) 1 0
both_fly Free y h = omega arith
both_fly Used y h = omega arith
both_fly InFlight y h = let e = same_Some y InFlight (h refl) in subst (λ z. 1 ≤ cond (state_in_flight z) 1 0) (sym e) (omega arith)

-- none more is in flight
pub fewer_flying : (xs ys : BlockStates) → ((b : ℕ) → IsInFlight xs b → IsInFlight ys b) → in_flight_count xs ≤ in_flight_count ys
fewer_flying [] ys h = omega arith
fewer_flying (x ∷ xs) [] h =
    let k = fewer_flying xs [] (λ b f. h (suc b) f) in
    let e = flying_cons x xs in
    let n = flying_here x None (h 0) in
    omega arith
fewer_flying (x ∷ xs) (y ∷ ys) h =
    let k = fewer_flying xs ys (λ b f. h (suc b) f) in
    let e = flying_cons x xs in
    let f = flying_cons y ys in
    let n = both_fly x y (h 0) in
    omega arith

-- the tree from before is one of both
pub survives_before : (a c : KeptThread) (after : Tree) → PowerLossLeavesEither a c (disk_tree a.disk a.pairs) → PowerLossLeavesEither a c after
survives_before a c after k clean = HoldsAtLosses-weaker (λ left x. record { pairs = x.pairs; accepted = x.accepted; writable = x.writable; tree = go left x.pairs x.tree }) (k clean)
  where
    go : (left : Blocks) (ps : List Pair) → (disk_tree (with_blocks left a.disk) ps ≡ disk_tree a.disk a.pairs) ⊎ (disk_tree (with_blocks left a.disk) ps ≡ disk_tree a.disk a.pairs)
        → (disk_tree (with_blocks left a.disk) ps ≡ disk_tree a.disk a.pairs) ⊎ (disk_tree (with_blocks left a.disk) ps ≡ after)
    go left ps (inl e) = inl e
    go left ps (inr e) = inl e

called_by : (a b : KeptThread) (op : Operation) → AppliesOperation a op b → IsLaterOnSameDevice a b
called_by a b op k = record { geometry = k.geometry; calls = k.calls; called = k.called }

module _ (a b : KeptThread) (f : HasRecovered a b) where
  pub tree_is : disk_tree b.disk b.pairs ≡ disk_tree a.disk a.pairs
  tree_is = f.carries.shows (tree_summary (uncached_state a true false)) []

  pub called_after : (c : KeptThread) → IsLaterOnSameDevice b c → IsLaterOnSameDevice a c
  called_after c k = called_then a b c (called_by a b ops.Recover f.carries) k

  pub carried_after : (c : KeptThread) (op : Operation) → renames_itself op ≡ false → is_recover op ≡ false → AppliesBeforeRelocation b op c → AppliesBeforeRelocation a op c
  carried_after c op apart other made = record { applied = applied; stays = stays }
    where
      k : AppliesOperation b op c
      k = made.applied

      all : IsLaterOnSameDevice a c
      all = called_after c (called_by b c op k)

      stays : (files : OpenFilesByNumber) → IsLayoutAfterRecovery a.disk a.pairs (record { tree = disk_tree a.disk a.pairs; files = files }) op c.disk c.pairs
      stays files = arranged_through a b c (record { tree = disk_tree a.disk a.pairs; files = files }) op f.carries.geometry f.leads_on
          (subst (λ t. IsLayoutAfterRecovery b.disk b.pairs (record { tree = t; files = files }) op c.disk c.pairs) tree_is (made.stays files))

      applied : AppliesOperation a op c
      applied = record {
        works = k.works;
        sound = k.sound;
        writable = k.writable;
        geometry = all.geometry;
        calls = all.calls;
        called = all.called;
        no_fault = k.no_fault ∙ f.carries.no_fault;
        fits = k.fits;
        recovered = k.recovered;
        shows = λ around files. subst (λ t. disk_tree c.disk c.pairs ≡ (operation_effect around (record { tree = t; files = files }) op).1.tree) tree_is (k.shows around files);
        arranged = λ called files. nothing_moves a.disk a.pairs (record { tree = disk_tree a.disk a.pairs; files = files }) op all.calls c.disk c.pairs all.geometry k.sound.accepted (stays files);
        itself = λ e. absurd (cc (apart, e));
        nothing_left = λ e. absurd (cc (other, e));
        flight = leaves_then (uncached_state a true false) (uncached_state b true false) (uncached_state c true false) f.carries.flight k.flight;
        keeps = λ path file away. let first = f.carries.keeps path file refl in keeps_then (kept_thread (uncached_state a true false)) (kept_thread (uncached_state b true false)) (kept_thread (uncached_state c true false)) path first (k.keeps path first.file away);
        lists = λ none. subst (λ (z : KeptThread). pairs_gstate z.pairs ≡ zero_gstate → KeepsListBytes z.disk z.pairs c.disk) (f.same none) k.lists none;
        taken = (let t = k.taken in let r = f.room in omega arith);
      }

  pub spares_after : (c : KeptThread) (op : Operation) → KeepsBlocksOutsideOperation b op c → KeepsBlocksOutsideOperation a op c
  spares_after c op k none = subst (λ (z : KeptThread). KeepsBlocksOutsideOperation z op c) (f.same none) k none

  -- ---- a power loss

  left_on : (blocks : Blocks) → with_blocks blocks b.disk ≡ with_blocks blocks a.disk
  left_on blocks = λ j. record { block_size = f.carries.geometry.block_size j; page = f.carries.geometry.page j; order = f.carries.geometry.order j; profile = f.carries.geometry.profile j; blocks = blocks }

  pub survives_after : (c : KeptThread) (change : Tree → Tree) → IsLaterOnSameDevice b c → PowerLossLeavesEither a b (disk_tree a.disk a.pairs) → PowerLossLeavesEither b c (change (disk_tree b.disk b.pairs)) → PowerLossLeavesEither a c (change (disk_tree a.disk a.pairs))
  survives_after c change called first second =
      survives_then a.disk a.history b.history c.history (disk_tree a.disk a.pairs) (change (disk_tree a.disk a.pairs)) (some_since f.carries.calls a.history b.history f.carries.called) (some_since called.calls b.history c.history called.called)
      (survives_before a b (change (disk_tree a.disk a.pairs)) first)
      (λ clean. HoldsAtLosses-weaker (λ left x. subst (λ d. HasEitherTree d (disk_tree a.disk a.pairs) (change (disk_tree a.disk a.pairs))) (left_on left) (subst (λ t. HasEitherTree (with_blocks left b.disk) t (change t)) tree_is x)) (second clean))

  -- ---- what its checks have shown

  charge_is : (name : Name) (attributes : Attributes) → exceeds_half_pair (tree_summary (uncached_state b true false)) name attributes ≡ exceeds_half_pair (tree_summary (uncached_state a true false)) name attributes
  charge_is name attributes =
      ap₂ (λ (size page : ℕ). nat_lt (half_pair_capacity size page) (reserved_entry_size b.disk.profile size name attributes)) f.carries.geometry.block_size f.carries.geometry.page
      ∙ ap (λ (profile : Profile). nat_lt (half_pair_capacity a.disk.block_size a.disk.page) (reserved_entry_size profile a.disk.block_size name attributes)) f.carries.geometry.profile

  long_is : (path : Path) → has_long_name (tree_summary (uncached_state b true false)) path ≡ has_long_name (tree_summary (uncached_state a true false)) path
  long_is path = ap (λ (profile : Profile). nat_lt (profile_name_max profile) (length (last_name path))) f.carries.geometry.profile

  room_is : (need : ℕ) → HasNeededBlocks (uncached_state a true false) need → HasNeededBlocks (uncached_state b true false) need
  room_is need room =
      let few = fewer_flying b.map a.map f.carries.flight.none_comes in
      let used = f.room in
      let occurrence_count = f.carries.geometry.count in
      omega (arith, room)

  pub add_after : (path : Path) (need : ℕ) → CanAddEntry (uncached_state a true false) path need → CanAddEntry (uncached_state b true false) path need
  add_after path need can = record {
    works = refl;
    writable = refl;
    parents = subst (λ t. parents_refusal t [] path ≡ None) (sym tree_is) can.parents;
    name = long_is path ∙ can.name;
    nothing = subst (λ (t : Tree). is_some (t path) ≡ false) (sym tree_is) can.nothing;
    fits = charge_is (last_name path) [] ∙ can.fits;
    room = room_is need can.room;
  }

  pub remove_after : (path : Path) → CanRemoveEntry (uncached_state a true false) path → CanRemoveEntry (uncached_state b true false) path
  remove_after path can = record {
    works = refl;
    writable = refl;
    entry = can.entry;
    parents = subst (λ t. parents_refusal t [] path ≡ None) (sym tree_is) can.parents;
    something = subst (λ (t : Tree). is_none (t path) ≡ false) (sym tree_is) can.something;
    empty = subst (λ (t : Tree). nat_lt 0 (length (directory_names (t path))) ≡ false) (sym tree_is) can.empty;
  }

  pub set_attr_after : (path : Path) (kind : ℕ) (bytes : List ℕ) → CanSetAttr (uncached_state a true false) path kind bytes → CanSetAttr (uncached_state b true false) path kind bytes
  set_attr_after path kind bytes can = record {
    works = refl;
    writable = refl;
    entry = can.entry;
    parents = subst (λ t. parents_refusal t [] path ≡ None) (sym tree_is) can.parents;
    something = subst (λ (t : Tree). is_none (t path) ≡ false) (sym tree_is) can.something;
    len = can.len;
    fits = subst (λ (t : Tree). exceeds_half_pair (tree_summary (uncached_state b true false)) (last_name path) (attributes_with kind bytes (node_attributes_of (t path))) ≡ false) (sym tree_is)
        (charge_is (last_name path) (attributes_with kind bytes (node_attributes_of (disk_tree a.disk a.pairs path))) ∙ can.fits);
    room = room_is 2 can.room;
  }

  pub remove_attr_after : (path : Path) (kind : ℕ) → CanRemoveAttr (uncached_state a true false) path kind → CanRemoveAttr (uncached_state b true false) path kind
  remove_attr_after path kind can = record {
    works = refl;
    writable = refl;
    entry = can.entry;
    parents = subst (λ t. parents_refusal t [] path ≡ None) (sym tree_is) can.parents;
    something = subst (λ (t : Tree). is_none (t path) ≡ false) (sym tree_is) can.something;
    there = subst (λ (t : Tree). is_none (attribute_bytes kind (node_attributes_of (t path))) ≡ false) (sym tree_is) can.there;
  }

  pub rename_after : (from to : Path) → CanRenamePath (uncached_state a true false) from to → CanRenamePath (uncached_state b true false) from to
  rename_after from to can = record {
    works = refl;
    writable = refl;
    entry = can.entry;
    target = can.target;
    apart = can.apart;
    parents = subst (λ t. parents_refusal t [] from ≡ None) (sym tree_is) can.parents;
    target_parents = subst (λ t. parents_refusal t [] to ≡ None) (sym tree_is) can.target_parents;
    name = long_is to ∙ can.name;
    something = subst (λ (t : Tree). is_none (t from) ≡ false) (sym tree_is) can.something;
    directory = subst (λ (t : Tree). (not (same_path from to) && is_directory (t from) && is_file (t to)) ≡ false) (sym tree_is) can.directory;
    file = subst (λ (t : Tree). (not (same_path from to) && is_file (t from) && is_directory (t to)) ≡ false) (sym tree_is) can.file;
    empty = subst (λ (t : Tree). (not (same_path from to) && nat_lt 0 (length (directory_names (t to)))) ≡ false) (sym tree_is) can.empty;
    fits = subst (λ (t : Tree). (not (same_path from to) && exceeds_half_pair (tree_summary (uncached_state b true false)) (last_name to) (node_attributes_of (t from))) ≡ false) (sym tree_is)
        (ap (λ x. not (same_path from to) && x) (charge_is (last_name to) (node_attributes_of (disk_tree a.disk a.pairs from))) ∙ can.fits);
    room = room_is 2 can.room;
  }

  -- ---- errors

  pub reported_after : (c : KeptThread) (e : Error) → HasThreadCause b c e → HasThreadCause a c e
  reported_after c e reported = record {
    errors = reported.errors;
    fault = λ io. let k = reported.fault io in let same = f.carries.no_fault in omega (arith, k, same);
    no_fault = λ other. reported.no_fault other ∙ f.carries.no_fault;
  }
