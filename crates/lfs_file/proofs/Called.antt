-- The effect of calls of a device in a row.
use Rattle.std.proofs.Common.{ℕ, ◌≡◌, ◌≢◌, Bool, List, [], ◌∷◌, Result, Ok, Err, inl, inr, refl, sym, subst, ◌∙◌, arith}
use Rattle.std.specs.Prelude.{All}
use Rattle.lfs_file.specs.FileCalls.{ReadsOrCorrupt}
use Rattle.lfs_file.proofs.Common.{ReadsOnly, ChangesTheseBlocks, ReportsFaults, SameExcept, call_event, fault_count, Read, began, goes_on, goes_on_by, AllCallsSince-weaker, OnlyReadsSince-trans, OthersStayUnprogrammed-trans, SameExcept-refl, SameExcept-trans, SameExceptBlocks-refl}
use Rattle.lfs_device.specs.DeviceCalls.{ChangesOneBlock}
use Rattle.lfs_device.specs.declared.device.BlockDevice.{Ghosts}
use Rattle.lfs_device.specs.declared.error.Error.{Error}
use Rattle.lfs_model.specs.session.History.DeviceCall.{Program, Erase}
use Rattle.lfs_model.proofs.Histories.{OthersStayUnprogrammed-erase, OthersStayUnprogrammed-program, OthersStayUnprogrammed-read_count, OthersStayUnprogrammed-refl}
use Rattle.lfs_model.proofs.Overwrites.{SameExceptBlocks-one}
use Rattle.lfs_file.proofs.Pushing.{stays_one}
use Rattle.lfs_file.proofs.Readings.{reads_stop}

module _ {D : Type 0} (g : Ghosts D) where
  pub not_read : (d : D) → ReadsOnly g d d
  not_read d = record { same = refl; geometry = refl; reads = began }

  pub read_on : {old mid new : D} → ReadsOnly g old mid → ReadsOnly g mid new → ReadsOnly g old new
  read_on first second = record {
    same = second.same ∙ first.same;
    geometry = second.geometry ∙ first.geometry;
    reads = OnlyReadsSince-trans first.reads second.reads first.same;
  }

  pub read_once : {old new : D} {block off len : ℕ} {failed : Bool} → g.history new ≡ call_event (Read block off len) (g.blocks old) (g.blocks new) failed ∷ g.history old
      → g.blocks new ≡ g.blocks old → g.geometry new ≡ g.geometry old → ReadsOnly g old new
  read_once called same geometry = record { same = same; geometry = geometry; reads = goes_on began called (record { reads = refl; before = refl; after = same }) }

  pub only_read : {old new : D} (b : ℕ) → ReadsOnly g old new → ChangesOneBlock g b old new
  only_read {old} b read = record {
    others = subst (SameExcept b (g.blocks old)) (sym read.same) (SameExcept-refl b (g.blocks old));
    elsewhere = OthersStayUnprogrammed-read_count (b ∷ []) read.reads;
    geometry = read.geometry;
    at_worst = reads_stop (g.blocks old) b _ _ read.reads;
  }

  pub erase_once : {old new : D} {block : ℕ} {failed : Bool} → g.history new ≡ call_event (Erase block) (g.blocks old) (g.blocks new) failed ∷ g.history old
      → SameExcept block (g.blocks old) (g.blocks new) → g.geometry new ≡ g.geometry old → ChangesOneBlock g block old new
  erase_once called others geometry = record {
    others = others;
    elsewhere = OthersStayUnprogrammed-erase called;
    geometry = geometry;
    at_worst = goes_on began called (λ left stop. stop);
  }

  pub program_once : {old new : D} {block off : ℕ} {bytes : List ℕ} {failed : Bool} → g.history new ≡ call_event (Program block off bytes) (g.blocks old) (g.blocks new) failed ∷ g.history old
      → SameExcept block (g.blocks old) (g.blocks new) → g.geometry new ≡ g.geometry old → ChangesOneBlock g block old new
  program_once called others geometry = record {
    others = others;
    elsewhere = OthersStayUnprogrammed-program called;
    geometry = geometry;
    at_worst = goes_on began called (λ left stop. stop);
  }

  pub changes_on : {old mid new : D} {b : ℕ} → ChangesOneBlock g b old mid → ChangesOneBlock g b mid new → ChangesOneBlock g b old new
  changes_on first second = record {
    others = SameExcept-trans first.others second.others;
    elsewhere = OthersStayUnprogrammed-trans first.elsewhere second.elsewhere;
    geometry = second.geometry ∙ first.geometry;
    at_worst = goes_on_by first.at_worst (AllCallsSince-weaker (λ e from left stop. SameExcept-trans first.others (from left stop)) second.at_worst);
  }

  pub changes_none : (bs : List ℕ) (d : D) → ChangesTheseBlocks g bs d d
  changes_none bs d = record {
    others = SameExceptBlocks-refl bs (g.blocks d);
    elsewhere = OthersStayUnprogrammed-refl bs (g.history d);
    geometry = refl;
    at_worst = began;
  }

  -- one of the blocks changes
  pub changes_one : {old mid new : D} {bs : List ℕ} {block : ℕ} → ((other : ℕ) → All (λ b. b ≢ other) bs → block ≢ other) → ChangesTheseBlocks g bs old mid → ChangesOneBlock g block mid new → ChangesTheseBlocks g bs old new
  changes_one {bs = bs} {block = block} among first second = record {
    others = SameExceptBlocks-one bs block _ _ _ among first.others second.others;
    elsewhere = stays_one bs block _ _ _ among first.elsewhere second.elsewhere;
    geometry = second.geometry ∙ first.geometry;
    at_worst = goes_on_by first.at_worst (AllCallsSince-weaker (λ e from left stop. SameExceptBlocks-one bs block _ _ _ among first.others (from left stop)) second.at_worst);
  }

  -- a call that succeeds has no fault
  pub quiet : {X : Type 0} {old new : D} {x : X} → ReportsFaults g old new (Ok x) → fault_count (g.history new) ≡ fault_count (g.history old)
  quiet reported = reported.no_fault (λ is. absurd (cc))

  -- after calls without a fault
  pub reported_on : {X : Type 0} {old mid new : D} {result : Result X Error} → fault_count (g.history mid) ≡ fault_count (g.history old) → ReportsFaults g mid new result → ReportsFaults g old new result
  reported_on none reported = record {
    fault = λ is. (let more = reported.fault is in omega arith);
    no_fault = λ other. reported.no_fault other ∙ none;
  }

  -- and neither has a list that isn't right
  pub reported_corrupt : {X : Type 0} {old new : D} → fault_count (g.history new) ≡ fault_count (g.history old) → ReportsFaults {X = X} g old new (Err Error.Corrupt)
  reported_corrupt none = record { fault = λ is. absurd (cc); no_fault = λ other. none }

  -- the same error of a call with another result
  pub reported_as : {X Y : Type 0} {old new : D} {e : Error} → ReportsFaults {X = X} g old new (Err e) → ReportsFaults {X = Y} g old new (Err e)
  reported_as {X} {Y} {e = e} reported = record {
    fault = λ is. reported.fault (again is);
    no_fault = λ other. reported.no_fault (λ is. other (back is));
  }
    where
      again : {f : Error} → ◌≡◌ {A = Result Y Error} (Err e) (Err f) → ◌≡◌ {A = Result X Error} (Err e) (Err f)
      again {f} is = let same : e ≡ f = cc in subst (λ z. ◌≡◌ {A = Result X Error} (Err e) (Err z)) same refl

      back : {f : Error} → ◌≡◌ {A = Result X Error} (Err e) (Err f) → ◌≡◌ {A = Result Y Error} (Err e) (Err f)
      back {f} is = let same : e ≡ f = cc in subst (λ z. ◌≡◌ {A = Result Y Error} (Err e) (Err z)) same refl

  -- after reads without a fault a list is read
  pub list_on : {X : Type 0} {old mid new : D} {result : Result X Error} → ReadsOnly g old mid → fault_count (g.history mid) ≡ fault_count (g.history old) → ReadsOrCorrupt g mid new result → ReadsOrCorrupt g old new result
  list_on read none reported = record { device = read_on read reported.device; faults = reported_on none reported.faults; errors = reported.errors }

  -- the same error of a reading with another result
  pub list_as : {X Y : Type 0} {old new : D} {e : Error} → ReadsOrCorrupt {X = X} g old new (Err e) → ReadsOrCorrupt {X = Y} g old new (Err e)
  list_as reported = record { device = reported.device; faults = reported_as reported.faults; errors = reported.errors }

  -- a part of a list wasn't read
  pub list_io : {X Y : Type 0} {old new : D} {e : Error} → ReadsOnly g old new → ReportsFaults {X = X} g old new (Err e) → e ≡ Error.Io → ReadsOrCorrupt {X = Y} g old new (Err e)
  list_io read reported is = record { device = read; faults = reported_as reported; errors = inl is }

  -- a list was read and isn't right
  pub list_corrupt : {X : Type 0} {old new : D} → ReadsOnly g old new → fault_count (g.history new) ≡ fault_count (g.history old) → ReadsOrCorrupt {X = X} g old new (Err Error.Corrupt)
  list_corrupt read none = record { device = read; faults = reported_corrupt none; errors = inr refl }

  -- a list was read
  pub list_ok : {X : Type 0} {old new : D} {x : X} → ReadsOnly g old new → fault_count (g.history new) ≡ fault_count (g.history old) → ReadsOrCorrupt g old new (Ok x)
  list_ok read none = record { device = read; faults = record { fault = λ is. absurd (cc); no_fault = λ other. none }; errors = tt }
