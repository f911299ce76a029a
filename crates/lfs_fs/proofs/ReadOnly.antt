-- Whether a session may write, and why not.
use Rattle.std.proofs.Common.{◌≡◌, ◌∙◌, Bool, true, false, List, Option, Some, None, Result, Ok, Err, refl, sym, ap, subst}
use Rattle.std.specs.Prelude.{◌↔◌, IfOk, IsTrue}
use Rattle.lfs_device.specs.declared.error.Error.{Error}
use Rattle.lfs_model.specs.declared.breaches.ProfileBreach.{ProfileBreach}
use Rattle.lfs_model.specs.layers.ProfileBreaches.{BreaksProfile, IsBreachIfAny}
use Rattle.lfs_model.specs.tree.Profile.{IsWritable}
use Rattle.lfs_fs.proofs.Common.{Pair, content_at, block_count, one_thread, SystemState, IsReady, RuntimeFiles, SessionView, TreeState, session_view, viewed_session}
use Rattle.lfs_fs.specs.ReadOnly.{IsReadOnlyReason, IsWritableSession}
use Rattle.lfs_fs.proofs.Failing.{healthy_system}

module _ (t : TreeState) (files : RuntimeFiles) (now : SessionView) (is : session_view t files ≡ now) (ready : t.failed ≡ false → IsReady t files) where
  pub may_write : t.failed ≡ false → IsWritable t.disk t.pairs → IsWritableSession now
  may_write works fits = subst IsWritableSession is (record {
    works = works;
    agrees = record { session = viewed_session (session_view t files); healthy = ap (λ (m : SystemState). m.state) (healthy_system (session_view t files) works); shows = (t.pairs, ((ready works).sound.accepted, refl)) };
    profile = (t.pairs, ((ready works).sound.accepted, fits));
  })

  pub writable_may : false ≡ t.failed → true ≡ t.writable → IsWritableSession now
  writable_may works writable = may_write (sym works) ((ready (sym works)).sound.fits (sym writable))

  pub may_works : IsWritableSession now → t.failed ≡ false
  may_works may = ap (λ (h : SessionView). h.tree.failed) is ∙ may.works

  pub may_writable : IsWritableSession now → t.writable ≡ true
  may_writable may =
      let h : IsWritableSession (session_view t files) = subst IsWritableSession (sym is) may in
      let ok = (ready h.works).sound in
      ok.is_kept (subst (λ (ps : List Pair). IsWritable t.disk ps) (one_thread (content_at t.disk) (block_count t.disk) h.profile.0 t.pairs h.profile.1.0.thread ok.accepted.thread) h.profile.1.1)

  -- what is answered of a session that works
  pub writable_answer : (b : Bool) → false ≡ t.failed → b ≡ t.writable → IsTrue b ↔ IsWritableSession now
  writable_answer b works is_b = (λ e. writable_may works (sym e ∙ is_b), λ may. is_b ∙ may_writable may)

  pub failed_answer : true ≡ t.failed → IsTrue false ↔ IsWritableSession now
  failed_answer fails = (λ e. absurd (cc), λ may. sym (fails ∙ may_works may))

  reason : (b : Option ProfileBreach) → false ≡ t.failed → IsBreachIfAny t.disk t.pairs b → IsReadOnlyReason now b
  reason None works fits = may_write (sym works) fits
  reason (Some b) works breaks = subst (λ (h : SessionView). BreaksProfile h.tree.disk h.tree.pairs b) is breaks

  pub told_reason : (r : Result (Option ProfileBreach) Error) → false ≡ t.failed → IfOk r (IsBreachIfAny t.disk t.pairs) → IfOk r (IsReadOnlyReason now)
  told_reason (Ok b) works told = reason b works told
  told_reason (Err e) works told = tt
