-- A worn pair that is relocated after an operation: both together have the operation's result, with a pair in other blocks.
use Rattle.std.proofs.Common.{ℕ, zero, suc, ◌≡◌, ◌≢◌, ◌≤◌, ◌+◌, ◌⊎◌, ◌∙◌, ◌==◌, ◌&&◌, inl, inr, Bool, true, false, cond, List, [], ◌∷◌, ◌++◌, length, Option, Some, None, refl, sym, ap, subst, arith, eqb-true, append_assoc, flat_map}
use Rattle.std.specs.Prelude.{Contains, IfSome, nat_eq}
use Rattle.std.proofs.lemmas.Bool.{and_parts, or_cases}
use Rattle.lfs_device.specs.declared.error.Error.{Error}
use Rattle.lfs_model.proofs.AfterStops.{survives_after}
use Rattle.lfs_model.proofs.Alone.{moved_left_alone}
use Rattle.lfs_model.proofs.KeptStructs.{struct_stays}
use Rattle.lfs_model.proofs.Sites.{among_from}
use Rattle.lfs_model.proofs.Standing.{same_blocks}
use Rattle.lfs_model.proofs.Unmoved.{had_latest}
use Rattle.lfs_model.specs.format.Slots.{address_of_array}
use Rattle.lfs_model.specs.session.History.{LeftByLatestCall}
use Rattle.lfs_model.specs.session.Moved.{IsLayoutAfterRelocation, IsWearLeveled}
use Rattle.lfs_model.specs.session.Recovery.{IsRecovered}
use Rattle.lfs_operations.specs.Changing.{AreTwoFreeBlocks}
use Rattle.lfs_operations.specs.Wear.{HasDistinctPlanBlocks, IsRelocationPlanFor}
use Rattle.lfs_operations.specs.declared.wear.RelocationPlan.{RelocationPlan}
use Rattle.lfs_tree.proofs.Common.{All-contains, All-from_recursion, AllByRecursion, HoldsForSome, AreUsed, BlockStates, CallEvent, Contains-occurrence_count, Disk, Free, HasEitherTree, HoldsAtLosses-weaker, IsAccepted, IsOperationApplied, IsFailedTree, HasErrorCause, Blocks, once_from_distinct, recursion_from_All, IsFree, IsLayoutAfterRecovery, IsSoundState, IsUsedBlock, KeepsFileAt, KeepsInFlight, KeptThread, KeepsUnrelatedBlocks, OpenFilesByNumber, Operation, Pair, Path, SameFileBlocks, SameGeometry, Session, Slot, Tree, TreeState, Used, all_unmoved_slots, count_append, count_here, disk_block, fault_count, is_file, is_recover, kept_thread, occurrence_count, pairs_blocks, recovered_from, renames_itself, same_Some, same_pair, visible_tree, slice_get_within, slot_blocks, slot_of_path, struct_blocks, tree_summary, used_blocks, with_blocks, without_cache}
use Rattle.lfs_tree.specs.KeptFiles.{max_allocated_blocks}
use Rattle.lfs_tree.specs.TreeState.{KeepsOthersIfRecovered, PowerLossesLeaveEither}
use Rattle.lfs_tree.specs.Wear.{CanRelocateByPlan, HasRelocatedWornPair, HasRelocatedAtMostOne}
use Rattle.lfs_tree.proofs.CarryFreed.{none_there}
use Rattle.lfs_tree.proofs.KeptFiles.{keeps_by, keeps_then}
use Rattle.lfs_tree.proofs.Recovered.{leaves_then, some_since}
use Rattle.lfs_tree.proofs.SlotsHave.{slot_has}
use Rattle.lfs_tree.proofs.UsedBlocks.{count_is}

-- ---- blocks of an address

-- a block of an address is one of its two
own_is : (at : ℕ × ℕ) (b : ℕ) → 1 ≤ occurrence_count b (at.0 ∷ at.1 ∷ []) → (b ≡ at.0) ⊎ (b ≡ at.1)
own_is at b some = go (nat_eq b at.0) refl (nat_eq b at.1) refl some
  where
    go : (x : Bool) → nat_eq b at.0 ≡ x → (y : Bool) → nat_eq b at.1 ≡ y → 1 ≤ cond x 1 0 + (cond y 1 0 + 0) → (b ≡ at.0) ⊎ (b ≡ at.1)
    go true e y f h = inl (eqb-true b at.0 e)
    go false e true f h = inr (eqb-true b at.1 f)
    go false e false f h = absurd (omega arith)

-- the blocks of an address are those of the same address
same_own : (a at : ℕ × ℕ) (b : ℕ) → same_pair a at ≡ true → 1 ≤ occurrence_count b (a.0 ∷ a.1 ∷ []) → (b ≡ at.0) ⊎ (b ≡ at.1)
same_own a at b same some = go (or_cases (a.0 == at.0 && a.1 == at.1) (a.0 == at.1 && a.1 == at.0) same) (own_is a b some)
  where
    go : ((a.0 == at.0 && a.1 == at.1) ≡ true) ⊎ ((a.0 == at.1 && a.1 == at.0) ≡ true) → (b ≡ a.0) ⊎ (b ≡ a.1) → (b ≡ at.0) ⊎ (b ≡ at.1)
    go (inl h) (inl e) = inl (e ∙ eqb-true a.0 at.0 (and_parts (a.0 == at.0) (a.1 == at.1) h).0)
    go (inl h) (inr e) = inr (e ∙ eqb-true a.1 at.1 (and_parts (a.0 == at.0) (a.1 == at.1) h).1)
    go (inr h) (inl e) = inr (e ∙ eqb-true a.0 at.1 (and_parts (a.0 == at.1) (a.1 == at.0) h).0)
    go (inr h) (inr e) = inl (e ∙ eqb-true a.1 at.0 (and_parts (a.0 == at.1) (a.1 == at.0) h).1)

-- a pair of the thread has its blocks among the thread's
at_counted : (at : ℕ × ℕ) (ps : List Pair) → HoldsForSome (λ (p : Pair). p.at ≡ at) ps → (1 ≤ occurrence_count at.0 (pairs_blocks ps)) × (1 ≤ occurrence_count at.1 (pairs_blocks ps))
at_counted at [] h = absurd h
at_counted at (p ∷ ps) (inl e) = subst (λ (a : ℕ × ℕ). (1 ≤ occurrence_count a.0 (pairs_blocks (p ∷ ps))) × (1 ≤ occurrence_count a.1 (pairs_blocks (p ∷ ps)))) e (
  (let k = count_here p.at.0 (p.at.1 ∷ pairs_blocks ps) in omega arith),
  (let k = count_here p.at.1 (pairs_blocks ps) in let c = count_append p.at.1 (p.at.0 ∷ []) (p.at.1 ∷ pairs_blocks ps) in omega arith),
)
at_counted at (p ∷ ps) (inr h) =
    let k = at_counted at ps h in (
      (let a = k.0 in let c = count_append at.0 (p.at.0 ∷ p.at.1 ∷ []) (pairs_blocks ps) in omega arith),
      (let a = k.1 in let c = count_append at.1 (p.at.0 ∷ p.at.1 ∷ []) (pairs_blocks ps) in omega arith),
    )

-- a free block isn't used
free_unused : (sets : BlockStates) (used : List ℕ) (b : ℕ) → AreUsed sets used → IsFree sets b → occurrence_count b used ≡ 0
free_unused sets used b are free = go (occurrence_count b used) refl
  where
    go : (n : ℕ) → occurrence_count b used ≡ n → n ≡ 0
    go zero e = refl
    go (suc n) e =
        let is : IsUsedBlock sets b = (are b).1 (Contains-occurrence_count used b (omega arith)) in
        let k : Free ≡ Used = same_Some Free Used (sym free ∙ is) in
        absurd (cc)

-- ---- a pair that moved

module _ (old mid new : TreeState) (plan : Option RelocationPlan) (room : ℕ) (planned : IfSome plan (IsRelocationPlanFor (kept_thread old) room)) (sound : IsSoundState old) (between : IsAccepted mid.disk mid.pairs) (moved : HasRelocatedAtMostOne mid plan new) where
  plan_of : (m : HasRelocatedWornPair mid plan new) → IsRelocationPlanFor (kept_thread old) room m.given
  plan_of m = subst (λ p. IfSome p (IsRelocationPlanFor (kept_thread old) room)) m.planned planned

  unused : (m : HasRelocatedWornPair mid plan new) (b : ℕ) → 1 ≤ occurrence_count b (m.writes.fresh.at.0 ∷ m.writes.fresh.at.1 ∷ []) → occurrence_count b (used_blocks old.disk old.pairs) ≡ 0
  unused m b some = go (own_is (address_of_array m.given.fresh) b (subst (λ (a : ℕ × ℕ). 1 ≤ occurrence_count b (a.0 ∷ a.1 ∷ [])) m.writes.to some))
    where
      free : AreTwoFreeBlocks old.map (address_of_array m.given.fresh)
      free = (plan_of m).free

      go : (b ≡ (address_of_array m.given.fresh).0) ⊎ (b ≡ (address_of_array m.given.fresh).1) → occurrence_count b (used_blocks old.disk old.pairs) ≡ 0
      go (inl e) = free_unused old.map (used_blocks old.disk old.pairs) b sound.used (subst (IsFree old.map) (sym e) free.first)
      go (inr e) = free_unused old.map (used_blocks old.disk old.pairs) b sound.used (subst (IsFree old.map) (sym e) free.second)

  no_file : (m : HasRelocatedWornPair mid plan new) (b : ℕ) → 1 ≤ occurrence_count b (m.writes.written.at.0 ∷ m.writes.written.at.1 ∷ []) → occurrence_count b (flat_map (λ (t : Slot). struct_blocks old.disk t.struct) (all_unmoved_slots old.pairs)) ≡ 0
  no_file m b some = go (same_own m.writes.written.at (address_of_array m.given.at) b m.writes.at some)
    where
      there : (1 ≤ occurrence_count (address_of_array m.given.at).0 (pairs_blocks old.pairs)) × (1 ≤ occurrence_count (address_of_array m.given.at).1 (pairs_blocks old.pairs))
      there = at_counted (address_of_array m.given.at) old.pairs (among_from (λ (p : Pair). p.at ≡ address_of_array m.given.at) old.pairs (plan_of m).there)

      once : 1 ≤ occurrence_count b (pairs_blocks old.pairs) → occurrence_count b (flat_map (λ (t : Slot). struct_blocks old.disk t.struct) (all_unmoved_slots old.pairs)) ≡ 0
      once some =
          let o = once_from_distinct (used_blocks old.disk old.pairs) sound.accepted.owned_once b in
          let c = count_append b (pairs_blocks old.pairs) (flat_map (λ (t : Slot). struct_blocks old.disk t.struct) (all_unmoved_slots old.pairs)) in
          omega arith

      go : (b ≡ (address_of_array m.given.at).0) ⊎ (b ≡ (address_of_array m.given.at).1) → occurrence_count b (flat_map (λ (t : Slot). struct_blocks old.disk t.struct) (all_unmoved_slots old.pairs)) ≡ 0
      go (inl e) = once (subst (λ x. 1 ≤ occurrence_count x (pairs_blocks old.pairs)) (sym e) there.0)
      go (inr e) = once (subst (λ x. 1 ≤ occurrence_count x (pairs_blocks old.pairs)) (sym e) there.1)

  -- what the operation left alone, the move does, too
  pub left_moved : (s : Session) (op : Operation) → KeepsUnrelatedBlocks old.disk old.pairs s op mid.disk mid.pairs → KeepsUnrelatedBlocks old.disk old.pairs s op new.disk new.pairs
  left_moved s op k = go moved.spread
    where
      go : (kept_thread new ≡ kept_thread mid) ⊎ HasRelocatedWornPair mid plan new → KeepsUnrelatedBlocks old.disk old.pairs s op new.disk new.pairs
      go (inl same) = subst (λ (t : KeptThread). KeepsUnrelatedBlocks old.disk old.pairs s op t.disk t.pairs) (sym same) k
      go (inr m) =
          let w = m.writes in
          subst (KeepsUnrelatedBlocks old.disk old.pairs s op new.disk) (sym w.is)
          (moved_left_alone old.disk mid.disk new.disk old.pairs mid.pairs w.front w.written w.fresh w.back s op (record {
            old = sound.accepted;
            now = subst (IsAccepted new.disk) w.is moved.files.ready.accepted;
            stay = w.stay;
            stay_behind = w.stay_behind;
            same = λ b none. w.others.others b (All-from_recursion (λ c. c ≢ b) (w.written.at.0 ∷ w.written.at.1 ∷ w.fresh.at.0 ∷ w.fresh.at.1 ∷ [])
                (none_there b (w.written.at.0 ∷ w.written.at.1 ∷ w.fresh.at.0 ∷ w.fresh.at.1 ∷ [])
                (let c = count_append b (w.written.at.0 ∷ w.written.at.1 ∷ []) (w.fresh.at.0 ∷ w.fresh.at.1 ∷ []) in omega arith)));
            next = w.next;
            unused = unused m;
            no_file = no_file m;
          }) k)

  pub alone_moved : (op : Operation) → KeepsOthersIfRecovered old op mid → KeepsOthersIfRecovered old op new
  alone_moved op k none files = left_moved (record { tree = visible_tree old; files = files }) op (k none files)

  -- ---- files

  list_bytes : (path : Path) (o : Option Slot) → slot_of_path mid.pairs path ≡ o → (b : ℕ) → Contains (slot_blocks mid.disk o) b → disk_block new.disk b ≡ disk_block mid.disk b
  list_bytes path None e b has = absurd (omega (arith, has.1))
  list_bytes path (Some s) e b has =
      let same : AllByRecursion (λ x. disk_block new.disk x ≡ disk_block mid.disk x) (struct_blocks mid.disk s.struct) =
      slot_has (λ (x : Slot). SameFileBlocks mid.disk new.disk x.struct) mid.disk mid.pairs between (recursion_from_All (λ (x : Slot). SameFileBlocks mid.disk new.disk x.struct) (all_unmoved_slots mid.pairs) moved.files.lists) tt path s e in
      All-contains (λ x. disk_block new.disk x ≡ disk_block mid.disk x) (struct_blocks mid.disk s.struct) b (All-from_recursion (λ x. disk_block new.disk x ≡ disk_block mid.disk x) (struct_blocks mid.disk s.struct) same) has

  pub keeps_moved : (path : Path) → is_file (visible_tree mid path) ≡ true → KeepsFileAt (kept_thread mid) (kept_thread new) path
  keeps_moved path file = keeps_by (kept_thread mid) (kept_thread new) path file (struct_stays mid.disk mid.pairs new.pairs path file (moved.files.structs path)) moved.geometry (list_bytes path (slot_of_path mid.pairs path) refl)

  -- ---- the layout of slots

  spread_is : IsWearLeveled mid.disk mid.pairs new.disk new.pairs
  spread_is = go moved.spread
    where
      go : (kept_thread new ≡ kept_thread mid) ⊎ HasRelocatedWornPair mid plan new → IsWearLeveled mid.disk mid.pairs new.disk new.pairs
      go (inl same) = inl (ap (λ (t : KeptThread). t.disk) same, ap (λ (t : KeptThread). t.pairs) same)
      go (inr m) = inr m.moved

  pub arranged_moved : (s : Session) (op : Operation) (calls : List CallEvent) → mid.history ≡ calls ++ old.history → SameGeometry old.disk mid.disk → LeftByLatestCall old.history old.disk.blocks → LeftByLatestCall mid.history mid.disk.blocks → old.history ≢ []
      → IsLayoutAfterRecovery old.disk old.pairs s op mid.disk mid.pairs → IsLayoutAfterRelocation old.disk old.pairs s op (moved.calls ++ calls) new.disk new.pairs
  arranged_moved s op calls called geometry was now some laid =
      let latest : LeftByLatestCall (calls ++ old.history) mid.disk.blocks = subst (λ (h : List CallEvent). LeftByLatestCall h mid.disk.blocks) called now in
      record {
        done = mid.disk;
        after = mid.pairs;
        had = had_latest old.disk mid.disk new.disk moved.calls calls old.history latest
            (λ none. same_blocks old.history mid.disk.blocks old.disk.blocks some (subst (λ (e : List CallEvent). LeftByLatestCall (e ++ old.history) mid.disk.blocks) none latest) was);
        geometry = geometry;
        accepted = between;
        operation = laid;
        spread = spread_is;
      }

  -- ---- how many blocks are used

  few_moved : (least : ℕ) → length (used_blocks old.disk old.pairs) + room ≤ least → length (tree_summary mid).used ≤ least → length (tree_summary new).used ≤ least
  few_moved least enough k = go moved.spread
    where
      go : (kept_thread new ≡ kept_thread mid) ⊎ HasRelocatedWornPair mid plan new → length (tree_summary new).used ≤ least
      go (inl same) = let e = ap (λ (t : KeptThread). length (used_blocks t.disk t.pairs)) same in omega arith
      go (inr m) = by m.few
        where
          by : (length (tree_summary new).used ≤ length (tree_summary mid).used) ⊎ (length (tree_summary new).used ≤ m.given.limit) → length (tree_summary new).used ≤ least
          by (inl le) = omega arith
          by (inr le) = let l = (plan_of m).limit in let c = count_is old sound in omega arith

  -- ---- the whole

  pub geometry_moved : SameGeometry old.disk mid.disk → SameGeometry old.disk new.disk
  geometry_moved g = record {
    block_size = moved.geometry.block_size ∙ g.block_size;
    page = moved.geometry.page ∙ g.page;
    order = moved.geometry.order ∙ g.order;
    profile = moved.geometry.profile ∙ g.profile;
    count = moved.geometry.count ∙ g.count;
  }

  pub called_moved : (calls : List CallEvent) → mid.history ≡ calls ++ old.history → new.history ≡ (moved.calls ++ calls) ++ old.history
  called_moved calls called = moved.called ∙ ap (λ z. moved.calls ++ z) called ∙ sym (append_assoc moved.calls calls old.history)

  flight_moved : KeepsInFlight (without_cache mid) (without_cache new)
  flight_moved = record { stay = moved.flight.stay; none_comes = moved.flight.none_comes; bytes = moved.flight.bytes; unprogrammed_still = moved.flight.unprogrammed_still }

  pub applied_moved : (op : Operation) → max_allocated_blocks op ≡ room → renames_itself op ≡ false → is_recover op ≡ false → LeftByLatestCall old.history old.disk.blocks → LeftByLatestCall mid.history mid.disk.blocks → KeepsOthersIfRecovered old op mid → IsOperationApplied old op mid
      → ((files : OpenFilesByNumber) → IsLayoutAfterRecovery old.disk old.pairs (record { tree = visible_tree old; files = files }) op mid.disk mid.pairs) → IsOperationApplied old op new
  applied_moved op takes apart other was now spares k stays = record {
    works = moved.works;
    sound = moved.sound;
    writable = moved.writable;
    geometry = geometry_moved k.geometry;
    calls = moved.calls ++ k.calls;
    called = called_moved k.calls k.called;
    no_fault = moved.no_fault ∙ k.no_fault;
    fits = moved.files.ready.writable;
    recovered = recovered_from new.disk new.pairs moved.files.ready.accepted moved.files.ready.settled;
    shows = λ around files. moved.files.shows ∙ k.shows around files;
    arranged = λ some files. arranged_moved (record { tree = visible_tree old; files = files }) op k.calls k.called k.geometry was now some (stays files);
    itself = λ e. absurd (let z = sym apart ∙ e in cc);
    nothing_left = λ e. absurd (let z = sym other ∙ e in cc);
    flight = leaves_then (without_cache old) (without_cache mid) (without_cache new) k.flight flight_moved;
    keeps = λ path file away. let first = k.keeps path file away in keeps_then (kept_thread old) (kept_thread mid) (kept_thread new) path first (keeps_moved path first.file);
    lists = λ none. (alone_moved op spares none []).files;
    taken = few_moved (length (tree_summary old).used + max_allocated_blocks op) (omega arith) k.taken;
  }

-- ---- a power loss

pub survives_moved : (old mid new : TreeState) (after : Tree) (calls later : List CallEvent) → mid.history ≡ calls ++ old.history → new.history ≡ later ++ mid.history → SameGeometry old.disk mid.disk → visible_tree mid ≡ after
    → PowerLossesLeaveEither old mid after → PowerLossesLeaveEither mid new (visible_tree mid) → PowerLossesLeaveEither old new after
survives_moved old mid new after calls later called further geometry shows first second =
    survives_after old.disk old.history mid.history new.history (visible_tree old) after (some_since calls old.history mid.history called) (some_since later mid.history new.history further) first
    (λ clean. HoldsAtLosses-weaker (λ left x. subst (λ (d : Disk). HasEitherTree d after after) (left_on left) (subst (λ (t : Tree). HasEitherTree (with_blocks left mid.disk) t t) shows x)) (second clean))
  where
    left_on : (blocks : Blocks) → with_blocks blocks mid.disk ≡ with_blocks blocks old.disk
    left_on blocks = λ j. record { block_size = geometry.block_size j; page = geometry.page j; order = geometry.order j; profile = geometry.profile j; blocks = blocks }

-- ---- errors

pub reports_moved : (old mid new : TreeState) (e : Error) → fault_count mid.history ≡ fault_count old.history → HasErrorCause mid new e → HasErrorCause old new e
reports_moved old mid new e quiet t = record { errors = t.errors; fault = λ io. (let k = t.fault io in omega (arith, k, quiet)); no_fault = λ other. t.no_fault other ∙ quiet }

pub breaks_moved : (old mid new : TreeState) (calls : List CallEvent) → mid.history ≡ calls ++ old.history → SameGeometry old.disk mid.disk → IsFailedTree mid new → IsFailedTree old new
breaks_moved old mid new calls called g f = record {
  failed = f.failed;
  geometry = record { block_size = f.geometry.block_size ∙ g.block_size; page = f.geometry.page ∙ g.page; order = f.geometry.order ∙ g.order; profile = f.geometry.profile ∙ g.profile; count = f.geometry.count ∙ g.count };
  calls = f.calls ++ calls;
  called = f.called ∙ ap (λ z. f.calls ++ z) called ∙ sym (append_assoc f.calls calls old.history);
}

-- ---- what it needs

-- the map after the operation has the plan's blocks, too
pub has_plan : (old mid : TreeState) (plan : Option RelocationPlan) (room : ℕ) → IfSome plan (IsRelocationPlanFor (kept_thread old) room) → length mid.map ≡ length old.map → IfSome plan (HasDistinctPlanBlocks mid.map)
has_plan old mid None room planned same = tt
has_plan old mid (Some plan) room planned same = record {
  apart = planned.free.apart;
  first = (let l = slice_get_within old.map (address_of_array plan.fresh).0 Free planned.free.first in omega arith);
  second = (let l = slice_get_within old.map (address_of_array plan.fresh).1 Free planned.free.second in omega arith);
}

pub can_spread : (old mid : TreeState) (plan : Option RelocationPlan) (room : ℕ) → IfSome plan (IsRelocationPlanFor (kept_thread old) room) → IsSoundState old → IsSoundState mid → SameGeometry old.disk mid.disk → mid.failed ≡ false → mid.writable ≡ true → IsRecovered mid.pairs → CanRelocateByPlan mid plan
can_spread old mid plan room planned was now geometry works may recovered = record {
  works = works;
  writable = may;
  recovered = recovered;
  blocks = has_plan old mid plan room planned (now.size ∙ geometry.count ∙ sym was.size);
}
