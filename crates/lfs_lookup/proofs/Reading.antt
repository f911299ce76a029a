-- Calls that only read, one after another.
use Rattle.std.proofs.Common.{◌≡◌, ◌⊎◌, inr, false, Result, Ok, Err, refl, sym, ap, subst, ◌∙◌, arith}
use Rattle.std.specs.Prelude.{IfErr}
use Rattle.lfs_device.specs.declared.error.Error.{Error}
use Rattle.lfs_device.specs.declared.error.Error.TheVariants.{Io, NoMemory}
use Rattle.lfs_lookup.proofs.Common.{fault_count, ThreadView, OnlyReadsThread, ReadsOrReports}
use Rattle.lfs_lookup.proofs.ReadOnly.{only_itself, only_read}

-- calls that answered
pub record HasRead (old new : ThreadView) : Type 0 where
  pub only : OnlyReadsThread old.kept new.kept
  pub works : new.failed ≡ false
  pub same : fault_count new.kept.history ≡ fault_count old.kept.history

pub answered : {X : Type 0} (a b : ThreadView) (r : Result X Error) (x : X) → r ≡ Ok x → ReadsOrReports a b r → HasRead a b
answered a b r x e h = record { only = h.only; works = h.works; same = h.reported.no_fault (λ k. let z = sym e ∙ k in absurd (cc)) }

pub has_read_nothing : (a : ThreadView) → a.failed ≡ false → HasRead a a
has_read_nothing a works = record { only = only_itself a.kept; works = works; same = refl }

pub both : (a b c : ThreadView) → HasRead a b → HasRead b c → HasRead a c
both a b c r s = record { only = only_read a.kept b.kept c.kept r.only s.only; works = s.works; same = s.same ∙ r.same }

pub further : {X : Type 0} (a b c : ThreadView) (r : Result X Error) → HasRead a b → ReadsOrReports b c r → ReadsOrReports a c r
further a b c r h s =
    let same = h.same in
    record {
      only = only_read a.kept b.kept c.kept h.only s.only;
      works = s.works;
      reported = record {
        errors = s.reported.errors;
        fault = λ e. let k = s.reported.fault e in omega (arith, k, same);
        no_fault = λ e. s.reported.no_fault e ∙ same;
        unwritten = λ e. (let o = only_read a.kept b.kept c.kept h.only s.only in record { disk = o.disk; reads = o.reads });
      };
    }

pub answers : {X : Type 0} (a b : ThreadView) (r : Result X Error) (x : X) → r ≡ Ok x → HasRead a b → ReadsOrReports a b r
answers {X = X} a b r x e h = record {
  only = h.only;
  works = h.works;
  reported = record {
    errors = subst (λ (z : Result X Error). IfErr z (λ f. (f ≡ Io) ⊎ (f ≡ NoMemory))) (sym e) tt;
    fault = λ k. let z = sym e ∙ k in absurd (cc);
    no_fault = λ k. h.same;
    unwritten = λ k. record { disk = h.only.disk; reads = h.only.reads };
  };
}

pub lacks_memory : {X : Type 0} (a b : ThreadView) (r : Result X Error) → r ≡ Err NoMemory → HasRead a b → ReadsOrReports a b r
lacks_memory {X = X} a b r e h = record {
  only = h.only;
  works = h.works;
  reported = record {
    errors = subst (λ (z : Result X Error). IfErr z (λ f. (f ≡ Io) ⊎ (f ≡ NoMemory))) (sym e) (inr refl);
    fault = λ k. let z = sym e ∙ k in absurd (cc);
    no_fault = λ k. h.same;
    unwritten = λ k. record { disk = h.only.disk; reads = h.only.reads };
  };
}

pub same_error : (X : Type 0) (e f : Error) → (let r : Result X Error = Err e in r) ≡ Err f → e ≡ f
same_error X e f h = cc

-- an error is passed on
pub passed : {X Y : Type 0} (a b : ThreadView) (r : Result X Error) (s : Result Y Error) (e f : Error) → r ≡ Err e → s ≡ Err f → f ≡ e → ReadsOrReports a b r → ReadsOrReports a b s
passed {X = X} {Y = Y} a b r s e f is now same h = record {
  only = h.only;
  works = h.works;
  reported = record {
    errors = subst (λ (z : Result Y Error). IfErr z (λ g. (g ≡ Io) ⊎ (g ≡ NoMemory))) (sym (now ∙ ap Err same)) (subst (λ (z : Result X Error). IfErr z (λ g. (g ≡ Io) ⊎ (g ≡ NoMemory))) is h.reported.errors);
    fault = λ k. h.reported.fault (is ∙ ap Err (same_error Y e Io (sym (now ∙ ap Err same) ∙ k)));
    no_fault = λ k. h.reported.no_fault (λ z. k (now ∙ ap Err (same ∙ same_error X e Io (sym is ∙ z))));
    unwritten = λ k. record { disk = h.only.disk; reads = h.only.reads };
  };
}

-- no call at all
pub begun : (a : ThreadView) → a.failed ≡ false → HasRead a a
begun a works = record { only = only_itself a.kept; works = works; same = refl }
