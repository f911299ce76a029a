-- Calls that only read, one after another.
use Rattle.std.proofs.Common.{[], refl, ◌≡◌, ◌⊎◌, Result, Err, sym, ap, subst, ◌∙◌, arith}
use Rattle.std.specs.Prelude.{IfErr}
use Rattle.lfs_device.specs.declared.error.Error.{Error}
use Rattle.lfs_device.specs.declared.error.Error.TheVariants.{Io, NoMemory}
use Rattle.lfs_lookup.proofs.Common.{Disk, fault_count, KeptThread, OnlyReadsThread}
use Rattle.lfs_model.proofs.Histories.{OnlyReadsSince-trans}
use Rattle.lfs_thread.specs.ThreadSteps.{ThreadReportsErrors}

pub only_read : (a b c : KeptThread) → OnlyReadsThread a b → OnlyReadsThread b c → OnlyReadsThread a c
only_read a b c r s = record {
  disk = s.disk ∙ r.disk;
  reads = OnlyReadsSince-trans r.reads s.reads (ap (λ (d : Disk). d.blocks) r.disk);
  pairs = s.pairs ∙ r.pairs;
  map = s.map ∙ r.map;
}

same_error : (X : Type 0) (e f : Error) → (let r : Result X Error = Err e in r) ≡ Err f → e ≡ f
same_error X e f h = cc

-- the error of the last of them is passed on
pub reported_on : {X Y : Type 0} (a b c : KeptThread) (first : Result X Error) (second : Result Y Error) (e f : Error) → OnlyReadsThread a c → fault_count b.history ≡ fault_count a.history → ThreadReportsErrors b c first
    → first ≡ Err e → second ≡ Err f → f ≡ e → ThreadReportsErrors a c second
reported_on {X = X} {Y = Y} a b c first second e f r same t is now passed = record {
  errors = subst (λ (r : Result Y Error). IfErr r (λ e. (e ≡ Io) ⊎ (e ≡ NoMemory))) (sym (now ∙ ap Err passed)) (subst (λ (r : Result X Error). IfErr r (λ e. (e ≡ Io) ⊎ (e ≡ NoMemory))) is t.errors);
  fault = λ gives. let k = t.fault (is ∙ ap Err (same_error Y e Io (sym (now ∙ ap Err passed) ∙ gives))) in omega (arith, k, same);
  no_fault = λ other. t.no_fault (λ gives. other (now ∙ ap Err (passed ∙ same_error X e Io (sym is ∙ gives)))) ∙ same;
  unwritten = λ gives. record { disk = r.disk; reads = r.reads };
}

-- the last of them tells the same of all
pub reported_behind : {X : Type 0} (a b c : KeptThread) (result : Result X Error) → OnlyReadsThread a b → fault_count b.history ≡ fault_count a.history → OnlyReadsThread b c → ThreadReportsErrors b c result → ThreadReportsErrors a c result
reported_behind a b c result r same s t = record {
  errors = t.errors;
  fault = λ gives. let k = t.fault gives in omega (arith, k, same);
  no_fault = λ other. t.no_fault other ∙ same;
  unwritten = λ gives. let w = only_read a b c r s in record { disk = w.disk; reads = w.reads };
}

-- no call at all
pub only_itself : (a : KeptThread) → OnlyReadsThread a a
only_itself a = record { disk = refl; reads = record { events = []; extends = refl; each = tt }; pairs = refl; map = refl }
