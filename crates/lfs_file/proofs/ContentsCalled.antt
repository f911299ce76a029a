-- The faults of calls of a device in a row, and the blocks that they leave alone.
use Rattle.std.proofs.Common.{ℕ, ◌≡◌, Bool, List, ◌∷◌, Result, Ok, Err, refl, sym, subst, ◌∙◌, arith}
use Rattle.lfs_file.proofs.Common.{ChangesTheseBlocks, ReadsOnly, ReportsFaults, Blocks, BlockStates, call_event, fault_count, Read, LossLeavesAtWorst-read, HoldsAtLosses-read_count, OnlyReadsSince-trans, began, goes_on, GrowingList, unwritten_block, IsTakenNotPending, HasBlocksTaken, KeepsTakenBytes, KeepsTakenBlocks, CallKeepsUsed, KeepsUsedBlocks, KeepsUsedBytes}
use Rattle.lfs_device.specs.DeviceCalls.{ReportsIoOrNoMemory}
use Rattle.lfs_device.specs.declared.device.BlockDevice.{Ghosts}
use Rattle.lfs_device.specs.declared.error.Error.{Error}
use Rattle.lfs_model.proofs.Histories.{is_unprogrammed_byte-read_count}
use Rattle.lfs_file.specs.Outcomes.{WritesUnusedBlocks}
use Rattle.lfs_file.proofs.Growth.{Spares-refl, Spares-trans, TakenStayUnprogrammed-trans, stops_trans}
use Rattle.lfs_file.proofs.Spared.{KeepsUsedBlocks-refl, KeepsUsedBlocks-trans, KeepsUsedBytes-refl, KeepsUsedBytes-trans, UsedStayUnprogrammed-trans, pages_end, spares_end, stops_end, to_used, to_used_pages, to_used_stops, used_stops_trans}

module _ {D : Type 0} (g : Ghosts D) where
  -- a call that succeeds has no fault
  pub quiet : {X : Type 0} {old new : D} {x : X} → ReportsFaults g old new (Ok x) → fault_count (g.history new) ≡ fault_count (g.history old)
  quiet reported = reported.no_fault (λ is. absurd (cc))

  -- after calls without a fault
  pub reported_on : {X : Type 0} {old mid new : D} {result : Result X Error} → fault_count (g.history mid) ≡ fault_count (g.history old) → ReportsFaults g mid new result → ReportsFaults g old new result
  reported_on none reported = record {
    fault = λ is. (let more = reported.fault is in omega arith);
    no_fault = λ other. reported.no_fault other ∙ none;
  }

  -- the same error of a call with another result
  pub reported_as : {X Y : Type 0} {old new : D} {e : Error} → ReportsFaults {X = X} g old new (Err e) → ReportsFaults {X = Y} g old new (Err e)
  reported_as {X} {Y} {e = e} reported = record {
    fault = λ is. reported.fault (again is);
    no_fault = λ other. reported.no_fault (λ is. other (back is));
  }
    where
      again : {f : Error} → ◌≡◌ {A = Result Y Error} (Err e) (Err f) → ◌≡◌ {A = Result X Error} (Err e) (Err f)
      again {f} is = let same : e ≡ f = cc in subst (λ z. ◌≡◌ {A = Result X Error} (Err e) (Err z)) same refl

      back : {f : Error} → ◌≡◌ {A = Result X Error} (Err e) (Err f) → ◌≡◌ {A = Result Y Error} (Err e) (Err f)
      back {f} is = let same : e ≡ f = cc in subst (λ z. ◌≡◌ {A = Result Y Error} (Err e) (Err z)) same refl

  -- ---- reads

  pub not_read : (d : D) → ReadsOnly g d d
  not_read d = record { same = refl; geometry = refl; reads = began }

  pub read_on : {old mid new : D} → ReadsOnly g old mid → ReadsOnly g mid new → ReadsOnly g old new
  read_on first second = record {
    same = second.same ∙ first.same;
    geometry = second.geometry ∙ first.geometry;
    reads = OnlyReadsSince-trans first.reads second.reads first.same;
  }

  pub read_once : {old new : D} {block off len : ℕ} {failed : Bool} → g.history new ≡ call_event (Read block off len) (g.blocks old) (g.blocks new) failed ∷ g.history old
      → g.blocks new ≡ g.blocks old → g.geometry new ≡ g.geometry old → ReadsOnly g old new
  read_once called same geometry = record { same = same; geometry = geometry; reads = goes_on began called (record { reads = refl; before = refl; after = same }) }

  -- ---- blocks that stand apart

  pub apart_reads : {old new : D} (map : BlockStates) (pending : List ℕ) → ReadsOnly g old new → KeepsTakenBlocks g map pending old new
  apart_reads {old} {new} map pending only = record {
    spared = subst (KeepsTakenBytes map pending (g.blocks old)) (sym only.same) (Spares-refl map pending (g.blocks old));
    pages = record { stays = λ k i apart was. is_unprogrammed_byte-read_count k i only.reads ∙ was };
    geometry = only.geometry;
    at_worst = HoldsAtLosses-read_count LossLeavesAtWorst-read only.reads (Spares-refl map pending (g.blocks old));
  }

  -- the list's last block is written
  pub apart_end : {old new : D} {pending : List ℕ} (map : BlockStates) → ChangesTheseBlocks g pending old new → KeepsTakenBlocks g map pending old new
  apart_end {old} {new} {pending} map changes = record {
    spared = spares_end map pending (g.blocks old) (g.blocks new) changes.others;
    pages = pages_end map pending (g.history old) (g.history new) changes.elsewhere;
    geometry = changes.geometry;
    at_worst = stops_end map pending (g.blocks old) (g.history old) (g.history new) changes.at_worst;
  }

  pub apart_on : {map later : BlockStates} {pending then : List ℕ} {old mid new : D} → ((k : ℕ) → IsTakenNotPending map pending k → IsTakenNotPending later then k) → KeepsTakenBlocks g map pending old mid → KeepsTakenBlocks g later then mid new
      → KeepsTakenBlocks g map pending old new
  apart_on {map} {later} {pending} {then} {old} {mid} {new} apart first second = record {
    spared = Spares-trans map later pending then (g.blocks old) (g.blocks mid) (g.blocks new) apart first.spared second.spared;
    pages = TakenStayUnprogrammed-trans map later pending then (g.history old) (g.history mid) (g.history new) apart first.pages second.pages;
    geometry = second.geometry ∙ first.geometry;
    at_worst = stops_trans map later pending then (g.blocks old) (g.blocks mid) (g.history old) (g.history mid) (g.history new) apart first.at_worst first.spared second.at_worst;
  }

  pub apart_read : {map : BlockStates} {pending : List ℕ} {old mid new : D} → KeepsTakenBlocks g map pending old mid → ReadsOnly g mid new → KeepsTakenBlocks g map pending old new
  apart_read {map} {pending} first only = apart_on (λ k apart. apart) first (apart_reads map pending only)

  -- ---- used blocks

  pub used_reads : {old new : D} (map : BlockStates) → ReadsOnly g old new → CallKeepsUsed g map old new
  used_reads {old} {new} map only = record {
    spared = subst (KeepsUsedBytes map (g.blocks old)) (sym only.same) (KeepsUsedBytes-refl map (g.blocks old));
    pages = record { stays = λ k i used was. is_unprogrammed_byte-read_count k i only.reads ∙ was };
    geometry = only.geometry;
    at_worst = HoldsAtLosses-read_count LossLeavesAtWorst-read only.reads (KeepsUsedBytes-refl map (g.blocks old));
  }

  pub used_on : {map later : BlockStates} {old mid new : D} → KeepsUsedBlocks map later → CallKeepsUsed g map old mid → CallKeepsUsed g later mid new → CallKeepsUsed g map old new
  used_on {map} {later} {old} {mid} {new} keeps first second = record {
    spared = KeepsUsedBytes-trans map later (g.blocks old) (g.blocks mid) (g.blocks new) keeps first.spared second.spared;
    pages = UsedStayUnprogrammed-trans map later (g.history old) (g.history mid) (g.history new) keeps first.pages second.pages;
    geometry = second.geometry ∙ first.geometry;
    at_worst = used_stops_trans map later (g.blocks old) (g.blocks mid) (g.history old) (g.history mid) (g.history new) keeps first.at_worst first.spared second.at_worst;
  }

  pub used_read : {map : BlockStates} {old mid new : D} → CallKeepsUsed g map old mid → ReadsOnly g mid new → CallKeepsUsed g map old new
  used_read {map} first only = used_on (record { count = refl; used = refl; stays = λ b used. used }) first (used_reads map only)

  -- used blocks stand apart
  pub used_of : {map : BlockStates} {d : Blocks} {old new : D} (list : GrowingList) → HasBlocksTaken map d list → KeepsTakenBlocks g map (unwritten_block list) old new → CallKeepsUsed g map old new
  used_of {map} {d} {old} {new} list marked leaves = record {
    spared = to_used map d list marked (g.blocks old) (g.blocks new) leaves.spared;
    pages = to_used_pages map d list marked (g.history old) (g.history new) leaves.pages;
    geometry = leaves.geometry;
    at_worst = to_used_stops map d list marked (g.blocks old) (g.history old) (g.history new) leaves.at_worst;
  }

  -- ---- maps and errors too

  -- a call succeeds without a fault
  pub writes_well : {X : Type 0} {map later : BlockStates} {old new : D} {x : X} → KeepsUsedBlocks map later → CallKeepsUsed g map old new → fault_count (g.history new) ≡ fault_count (g.history old) → WritesUnusedBlocks g map later old new (Ok x)
  writes_well keeps device none = record {
    map = keeps;
    device = device;
    reports = record { faults = record { fault = λ is. absurd (cc); no_fault = λ _. none }; errors = tt };
  }

  -- and one behind it fails
  pub writes_fail : {X Y Z : Type 0} {map between later : BlockStates} {old mid new : D} {x : X} {e : Error} → WritesUnusedBlocks g map between old mid (Ok x) → KeepsUsedBlocks between later → CallKeepsUsed g between mid new → ReportsIoOrNoMemory {X = Y} g mid new (Err e)
      → WritesUnusedBlocks {X = Z} g map later old new (Err e)
  writes_fail first keeps device reports = record {
    map = KeepsUsedBlocks-trans first.map keeps;
    device = used_on first.map first.device device;
    reports = record { faults = reported_on (quiet first.reports.faults) (reported_as reports.faults); errors = reports.errors };
  }

  -- or succeeds
  pub writes_on : {X Y Z : Type 0} {map between later : BlockStates} {old mid new : D} {x : X} {y : Y} {z : Z} → WritesUnusedBlocks g map between old mid (Ok x) → KeepsUsedBlocks between later → CallKeepsUsed g between mid new → ReportsIoOrNoMemory g mid new (Ok y) → WritesUnusedBlocks g map later old new (Ok z)
  writes_on first keeps device reports = writes_well (KeepsUsedBlocks-trans first.map keeps) (used_on first.map first.device device) (quiet reports.faults ∙ quiet first.reports.faults)

  -- the same of a call with another result
  pub writes_as : {X Y : Type 0} {map later : BlockStates} {old new : D} {e : Error} → WritesUnusedBlocks {X = X} g map later old new (Err e) → WritesUnusedBlocks {X = Y} g map later old new (Err e)
  writes_as wrote = record { map = wrote.map; device = wrote.device; reports = record { faults = reported_as wrote.reports.faults; errors = wrote.reports.errors } }

  pub writes_same : {X Y : Type 0} {map later : BlockStates} {old new : D} {x : X} {y : Y} → WritesUnusedBlocks g map later old new (Ok x) → WritesUnusedBlocks g map later old new (Ok y)
  writes_same wrote = writes_well wrote.map wrote.device (quiet wrote.reports.faults)

  -- no call
  pub writes_none : {X : Type 0} {x : X} (map : BlockStates) (d : D) → WritesUnusedBlocks g map map d d (Ok x)
  writes_none map d = writes_well (KeepsUsedBlocks-refl map) (used_reads map (not_read d)) refl

  -- a call that only reads
  pub writes_of_reads : {X : Type 0} {map later : BlockStates} {old new : D} {result : Result X Error} → KeepsUsedBlocks map later → ReadsOnly g old new → ReportsIoOrNoMemory g old new result → WritesUnusedBlocks g map later old new result
  writes_of_reads {map = map} keeps only reports = record { map = keeps; device = used_reads map only; reports = reports }
