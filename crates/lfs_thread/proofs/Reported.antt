-- The errors of a call and its effect on the device, in terms of the thread.
use Rattle.std.proofs.Common.{ℕ, List, ◌≡◌, ◌≢◌, ◌⊎◌, ◌∙◌, refl, sym, ap, ap₂, subst, Result, Ok, Err}
use Rattle.std.specs.Prelude.{All, IfErr}
use Rattle.std.proofs.lemmas.List.Elements.{All-drop, All-take}
use Rattle.lfs_device.specs.declared.device.BlockDevice.{Ghosts}
use Rattle.lfs_device.specs.declared.error.Error.{Error}
use Rattle.lfs_device.specs.declared.error.Error.TheVariants.{Io, NoMemory}
use Rattle.lfs_device.specs.declared.geometry.Geometry.{Geometry}
use Rattle.lfs_thread.proofs.Common.{ReadsOnly, disk_of_blocks, Blocks, SameExceptBlocks, BlockStates, disk_with_order, HoldsAtLosses-weaker, goes_on_by, ChangesReadingFew, ReportsWritingNothing, PairHeader, kept_in_order, ThreadReportsErrors, ThreadReportsKeepingOthers, ChangesWithinReads, address_blocks, addresses_blocks}
use Rattle.lfs_device.specs.DeviceCalls.{ChangesTheseBlocks, ReportsFaults}
use Rattle.lfs_model.specs.declared.order.NameOrder.{NameOrder}
use Rattle.lfs_model.proofs.Histories.{OthersStayUnprogrammed-trans, OthersStayUnprogrammed-wider}
use Rattle.lfs_model.proofs.Overwrites.{SameExceptBlocks-trans, SameExceptBlocks-wider}
use Rattle.lfs_pair.specs.declared.pair.Pair.{Pair}
use Rattle.lfs_pair.specs.Commits.{CommitFails}
use Rattle.lfs_thread.specs.Kept.{KeptThread}
use Rattle.lfs_thread.specs.ThreadDevice.{ReportsKeepingOthers}
use Rattle.lfs_thread.specs.ThreadSteps.{OnlyReadsDevice, ChangesThreadBlocks}

module _ {D : Type 0} (g : Ghosts D) (order : NameOrder) (old new : D) (hs now_hs : List PairHeader) (sets now_sets : BlockStates) where
  pub unwritten_from : ReadsOnly g old new → OnlyReadsDevice (kept_in_order g order old hs sets) (kept_in_order g order new now_hs now_sets)
  unwritten_from r = record { disk = ap₂ (λ k bs. disk_with_order order (disk_of_blocks k bs)) r.geometry r.same; reads = r.reads }

  pub reported_from : {X : Type 0} (result : Result X Error) → ReportsWritingNothing g old new result → ThreadReportsErrors (kept_in_order g order old hs sets) (kept_in_order g order new now_hs now_sets) result
  reported_from result t = record {
    errors = t.errors;
    fault = t.faults.fault;
    no_fault = t.faults.no_fault;
    unwritten = λ (e : result ≡ Err NoMemory). unwritten_from (t.unwritten e);
  }

  pub reported_beside_from : {X : Type 0} (bs : List ℕ) (result : Result X Error) → ReportsKeepingOthers g bs old new result → ThreadReportsKeepingOthers bs (kept_in_order g order old hs sets) (kept_in_order g order new now_hs now_sets) result
  reported_beside_from bs result t = record { errors = t.errors; fault = t.faults.fault; no_fault = t.faults.no_fault; beside = t.beside }

  pub writes_from : (bs : List ℕ) → ChangesTheseBlocks g bs old new → ChangesThreadBlocks bs (kept_in_order g order old hs sets) (kept_in_order g order new now_hs now_sets)
  writes_from bs w = record {
    others = w.others;
    elsewhere = w.elsewhere;
    shape = record {
      block_size = ap (λ (k : Geometry). k.block_size) w.geometry;
      page = ap (λ (k : Geometry). k.page) w.geometry;
      order = refl;
      profile = ap (λ (k : Geometry). k.profile) w.geometry;
      count = w.others.count;
    };
    at_worst = w.at_worst;
  }

module _ {D : Type 0} (g : Ghosts D) (order : NameOrder) (old new : D) (hs now_hs : List PairHeader) (sets now_sets : BlockStates) where
  pub reading_from : {most : ℕ} (bs : List ℕ) → ChangesReadingFew g most bs old new → ChangesWithinReads most bs (kept_in_order g order old hs sets) (kept_in_order g order new now_hs now_sets)
  reading_from bs w = record { only = writes_from g order old new hs now_hs sets now_sets bs w.only; few = w.few }

-- ---- two calls, of which the first writes a fresh pair

-- a block that is none of four is none of the first two, and none of the others
among_first : (at fresh : ℕ × ℕ) (other : ℕ) → All (λ c. c ≢ other) (addresses_blocks at fresh) → All (λ c. c ≢ other) (address_blocks at)
among_first at fresh other apart = All-take (λ c. c ≢ other) 2 (addresses_blocks at fresh) apart

among_second : (at fresh : ℕ × ℕ) (other : ℕ) → All (λ c. c ≢ other) (addresses_blocks at fresh) → All (λ c. c ≢ other) (address_blocks fresh)
among_second at fresh other apart = All-drop (λ c. c ≢ other) 2 (addresses_blocks at fresh) apart

pub keeps_by_fresh : (at fresh : ℕ × ℕ) {old new : Blocks} → SameExceptBlocks (address_blocks fresh) old new → SameExceptBlocks (addresses_blocks at fresh) old new
keeps_by_fresh at fresh same = SameExceptBlocks-wider (addresses_blocks at fresh) (among_second at fresh) same

pub keeps_by_both : (at fresh : ℕ × ℕ) {old mid new : Blocks} → SameExceptBlocks (address_blocks fresh) old mid → SameExceptBlocks (address_blocks at) mid new → SameExceptBlocks (addresses_blocks at fresh) old new
keeps_by_both at fresh first second = SameExceptBlocks-trans (keeps_by_fresh at fresh first) (SameExceptBlocks-wider (addresses_blocks at fresh) (among_first at fresh) second)

module _ {D : Type 0} (g : Ghosts D) (at fresh : ℕ × ℕ) where
  pub changes_by_fresh : {old new : D} → ChangesTheseBlocks g (address_blocks fresh) old new → ChangesTheseBlocks g (addresses_blocks at fresh) old new
  changes_by_fresh w = record {
    others = keeps_by_fresh at fresh w.others;
    elsewhere = OthersStayUnprogrammed-wider (addresses_blocks at fresh) (among_second at fresh) w.elsewhere;
    geometry = w.geometry;
    at_worst = HoldsAtLosses-weaker (λ disk left. keeps_by_fresh at fresh left) w.at_worst;
  }

  pub changes_by_both : {old mid new : D} → ChangesTheseBlocks g (address_blocks fresh) old mid → ChangesTheseBlocks g (address_blocks at) mid new → ChangesTheseBlocks g (addresses_blocks at fresh) old new
  changes_by_both w v = record {
    others = keeps_by_both at fresh w.others v.others;
    elsewhere = OthersStayUnprogrammed-trans (OthersStayUnprogrammed-wider (addresses_blocks at fresh) (among_second at fresh) w.elsewhere) (OthersStayUnprogrammed-wider (addresses_blocks at fresh) (among_first at fresh) v.elsewhere);
    geometry = v.geometry ∙ w.geometry;
    at_worst = goes_on_by (HoldsAtLosses-weaker (λ disk left. keeps_by_fresh at fresh left) w.at_worst)
        (HoldsAtLosses-weaker (λ disk left. keeps_by_both at fresh w.others left) v.at_worst);
  }

-- ---- what a call of lfs_pair says of its error

same_error : (X : Type 0) (e f : Error) → (let r : Result X Error = Err e in r) ≡ Err f → e ≡ f
same_error X e f h = cc

pub reports_of : {D X : Type 0} {g : Ghosts D} {old new : D} (was now : Pair) {result : Result X Error} → IfErr result (λ e. CommitFails g old new was now e) → ReportsFaults g old new result → ReportsWritingNothing g old new result
reports_of was now {result = Ok x} h faults = record { errors = tt; faults = faults; unwritten = λ e. absurd (cc) }
reports_of {X = X} was now {result = Err e} h faults = record { errors = h.errors; faults = faults; unwritten = λ same. h.no_memory (same_error X e NoMemory same) }

-- an error that is passed on
pub errors_again : {D X Y : Type 0} {g : Ghosts D} {old new : D} (e : Error) (first : Result X Error) (second : Result Y Error) → first ≡ Err e → second ≡ Err e → ReportsWritingNothing g old new first → ReportsWritingNothing g old new second
errors_again {X = X} {Y = Y} e first second is now t = record {
  errors = subst (λ (r : Result Y Error). IfErr r (λ e. (e ≡ Io) ⊎ (e ≡ NoMemory))) (sym now) (subst (λ (r : Result X Error). IfErr r (λ e. (e ≡ Io) ⊎ (e ≡ NoMemory))) is t.errors);
  faults = record {
    fault = λ gives. t.faults.fault (is ∙ ap Err (same_error Y e Io (sym now ∙ gives)));
    no_fault = λ other. t.faults.no_fault (λ gives. other (now ∙ ap Err (same_error X e Io (sym is ∙ gives))));
  };
  unwritten = λ gives. t.unwritten (is ∙ ap Err (same_error Y e NoMemory (sym now ∙ gives)));
}

-- an error of the call that writes the fresh pair is passed on
pub errors_keeping : {D X Y : Type 0} {g : Ghosts D} {old new : D} (bs : List ℕ) (e : Error) (first : Result X Error) (second : Result Y Error) → first ≡ Err e → second ≡ Err e → (e ≡ Io) ⊎ (e ≡ NoMemory) → ReportsFaults g old new first
    → SameExceptBlocks bs (g.blocks old) (g.blocks new) → ReportsKeepingOthers g bs old new second
errors_keeping {X = X} {Y = Y} bs e first second is now which faults others = record {
  errors = subst (λ (r : Result Y Error). IfErr r (λ e. (e ≡ Io) ⊎ (e ≡ NoMemory))) (sym now) which;
  faults = record {
    fault = λ gives. faults.fault (is ∙ ap Err (same_error Y e Io (sym now ∙ gives)));
    no_fault = λ other. faults.no_fault (λ gives. other (now ∙ ap Err (same_error X e Io (sym is ∙ gives))));
  };
  beside = λ gives. others;
}

-- an error of a step is passed on
pub reported_again : {X Y : Type 0} {bs : List ℕ} {old new : KeptThread} (e : Error) (first : Result X Error) (second : Result Y Error) → first ≡ Err e → second ≡ Err e → ThreadReportsKeepingOthers bs old new first → ThreadReportsKeepingOthers bs old new second
reported_again {X = X} {Y = Y} e first second is now t = record {
  errors = subst (λ (r : Result Y Error). IfErr r (λ e. (e ≡ Io) ⊎ (e ≡ NoMemory))) (sym now) (subst (λ (r : Result X Error). IfErr r (λ e. (e ≡ Io) ⊎ (e ≡ NoMemory))) is t.errors);
  fault = λ gives. t.fault (is ∙ ap Err (same_error Y e Io (sym now ∙ gives)));
  no_fault = λ other. t.no_fault (λ gives. other (now ∙ ap Err (same_error X e Io (sym is ∙ gives))));
  beside = λ gives. t.beside (is ∙ ap Err (same_error Y e NoMemory (sym now ∙ gives)));
}
