-- A mounted image as a tree.
use Rattle.std.proofs.Common.{ℕ, ◌≡◌, ◌<◌, ◌∙◌, Bool, true, false, not, List, [], length, nat_eq, Option, None, Some, is_some, Result, Err, refl, sym, ap, subst, arith}
use Rattle.std.specs.List.{IsDistinct}
use Rattle.std.specs.Prelude.{◌↔◌, IsTrue}
use Rattle.lfs_device.specs.declared.device.BlockDevice.{Ghosts}
use Rattle.lfs_device.specs.declared.error.Error.{Error}
use Rattle.lfs_tree.proofs.Common.{disk_with_order, Disk, block_count, AreInFlight, AreUsed, BlockStates, CallEvent, OnlyReadsSince, fault_count, read_count, Pair, count_before_root, IsAccepted, IsWritable, used_blocks, OnlyReadsSince-trans, KeptThread, ThreadView, disk_of_device, OnlyReadsThread, IsFreshlyFormatted, IsEmptyWritable, IsSoundWithRoot, uncached_state, thread_state, ReadsOrReports, IsMountedTree, IsSoundState, HasRead}
use Rattle.lfs_device.specs.declared.error.Error.TheVariants.{Io}
use Rattle.lfs_model.specs.tree.View.{DiskView}
use Rattle.lfs_model.proofs.BlockSets.{in_flight_count-AreInFlight}
use Rattle.lfs_model.proofs.Histories.{read_count-since}
use Rattle.lfs_model.proofs.KeptProfiles.{writable_breaks_none}
use Rattle.lfs_model.specs.layers.ProfileBreaches.{IsBreachIfAny}
use Rattle.lfs_model.specs.declared.breaches.ProfileBreach.{ProfileBreach}
use Rattle.lfs_mount.specs.Accepted.{IsMountedUnwritten}
use Rattle.lfs_model.specs.declared.order.NameOrder.{NameOrder}
use Rattle.lfs_model.specs.declared.order.NameOrder.TheVariants.{LongerFirst}
use Rattle.lfs_thread.specs.ThreadDevice.{GivesDeviceBack}
use Rattle.lfs_tree.proofs.SameErrors.{same_error}

-- a sound image stays sound if it is only read
pub sound_read : (a b : KeptThread) (writable failed now : Bool) → OnlyReadsThread a b → IsSoundState (uncached_state a writable failed) → IsSoundState (uncached_state b writable now)
sound_read a b writable failed now r s = record {
  accepted = subst (λ (d : Disk). IsAccepted d b.pairs) (sym r.disk) (subst (λ (ps : List Pair). IsAccepted a.disk ps) (sym r.pairs) s.accepted);
  fits = λ e. subst (λ (d : Disk). IsWritable d b.pairs) (sym r.disk) (subst (λ (ps : List Pair). IsWritable a.disk ps) (sym r.pairs) (s.fits e));
  is_kept = λ h. s.is_kept (subst (λ (ps : List Pair). IsWritable a.disk ps) r.pairs (subst (λ (d : Disk). IsWritable d b.pairs) r.disk h));
  used = subst (λ (d : Disk). AreUsed b.map (used_blocks d b.pairs)) (sym r.disk) (subst (λ (ps : List Pair). AreUsed b.map (used_blocks a.disk ps)) (sym r.pairs)
      (subst (λ (sets : BlockStates). AreUsed sets (used_blocks a.disk a.pairs)) (sym r.map) s.used));
  size = ap (λ (sets : BlockStates). length sets) r.map ∙ s.size ∙ ap (λ (d : Disk). block_count d) (sym r.disk);
}

-- no rule is broken exactly if the image may be written
pub none_broken : (disk : Disk) (ps : List Pair) (o : Option ProfileBreach) (none : Bool) → is_some o ≡ not none → IsBreachIfAny disk ps o → IsTrue none ↔ IsWritable disk ps
none_broken disk ps None true e writable = (λ t. writable, λ w. refl)
none_broken disk ps None false e writable = absurd (cc)
none_broken disk ps (Some b) true e broken = absurd (cc)
none_broken disk ps (Some b) false e broken = (λ t. absurd (cc), λ w. absurd (writable_breaks_none disk ps b w broken))

none_twice : IsDistinct nat_eq []
unfolding IsDistinct
none_twice = tt

module _ (disk : Disk) (history : List CallEvent) (a b : ThreadView) (root : ℕ) (writable : Bool) (m : IsMountedUnwritten disk history a) (r : HasRead a b)
    (is : root ≡ count_before_root a.kept.pairs) (fits : IsTrue writable ↔ IsWritable a.kept.disk a.kept.pairs) where
  sound_now : IsSoundState (uncached_state b.kept writable false)
  sound_now = sound_read a.kept b.kept writable false false r.only (record {
    accepted = subst (λ (d : Disk). IsAccepted d a.kept.pairs) (sym m.disk_is) m.accepted;
    fits = λ e. fits.0 e;
    is_kept = λ h. fits.1 h;
    used = subst (λ (d : Disk). AreUsed a.kept.map (used_blocks d a.kept.pairs)) (sym m.disk_is) m.used;
    size = m.size ∙ ap (λ (d : Disk). block_count d) (sym m.disk_is);
  })

  pub mounted_rooted : IsSoundWithRoot b root writable
  mounted_rooted = record { works = r.works; sound = sound_now; root_is = is ∙ ap count_before_root (sym r.only.pairs) }

  pub mounted_tree : read_count history < read_count a.kept.history → IsMountedTree disk history (thread_state b writable)
  mounted_tree called = record {
    works = r.works;
    disk_is = r.only.disk ∙ m.disk_is;
    reads = OnlyReadsSince-trans m.reads r.only.reads (ap (λ (d : Disk). d.blocks) m.disk_is);
    called = (let k = read_count-since r.only.reads in omega (arith, called, k));
    no_fault = r.same ∙ m.no_fault;
    sound = record { accepted = sound_now.accepted; fits = sound_now.fits; is_kept = sound_now.is_kept; used = sound_now.used; size = sound_now.size };
    none_in_flight = in_flight_count-AreInFlight b.kept.map [] none_twice (subst (λ (sets : BlockStates). AreInFlight sets []) (sym r.only.map) m.none_in_flight);
  }

-- the device is returned with the error of a read
pub read_back : {D X : Type 0} (g : Ghosts D) (old back : D) (order now : NameOrder) (a b : ThreadView) (r : Result X Error) (e : Error)
    → IsMountedUnwritten (disk_with_order order (disk_of_device g old)) (g.history old) a → r ≡ Err e → ReadsOrReports a b r → disk_with_order now (disk_of_device g back) ≡ b.kept.disk → g.history back ≡ b.kept.history
    → GivesDeviceBack g old back e
read_back {X = X} g old back order now a b r e m is read same later = record {
  disk = ap (disk_with_order LongerFirst) (same ∙ read.only.disk ∙ m.disk_is);
  reads = subst (λ (h : List CallEvent). OnlyReadsSince (g.blocks old) (g.history old) h) (sym later) (OnlyReadsSince-trans m.reads read.only.reads (ap (λ (d : Disk). d.blocks) m.disk_is));
  fault = λ io. (let k = read.reported.fault (is ∙ ap Err io) in let n = m.no_fault in let l = ap fault_count later in omega (arith, k, n, l));
  no_fault = λ other. ap fault_count later ∙ read.reported.no_fault (λ z. other (same_error e Io (sym is ∙ z))) ∙ m.no_fault;
}

-- a fresh image as a tree
module _ (t : ThreadView) (works : t.failed ≡ false) (f : IsFreshlyFormatted t.kept) (s : IsEmptyWritable t.kept) where
  pub fresh_sound : IsSoundState (uncached_state t.kept true false)
  fresh_sound = record {
    accepted = s.accepted;
    fits = λ e. s.writable;
    is_kept = λ h. refl;
    used = subst (λ (bs : List ℕ). AreUsed t.kept.map bs) (sym (ap (λ (v : DiskView). v.used) s.view)) f.used;
    size = f.size;
  }

  pub fresh_rooted : IsSoundWithRoot t 0 true
  fresh_rooted = record { works = works; sound = fresh_sound; root_is = sym (ap count_before_root f.pairs) }
