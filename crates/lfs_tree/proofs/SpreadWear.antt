-- A worn pair that moves in a tree, or none that does.
use Rattle.std.proofs.Common.{ℕ, ◌≡◌, ◌≤◌, ◌⊎◌, ◌∙◌, inl, inr, Bool, true, false, List, [], ◌++◌, Option, Some, Result, Ok, Err, refl, sym, ap, subst}
use Rattle.std.specs.Prelude.{IfErr, IfOk, IfSome, is_err}
use Rattle.lfs_device.specs.declared.error.Error.{Error}
use Rattle.lfs_device.specs.declared.error.Error.TheVariants.{Io, NoMemory}
use Rattle.lfs_model.specs.session.History.{LeftByLatestCall}
use Rattle.lfs_model.specs.session.Moved.{IsOnePairRelocated}
use Rattle.lfs_operations.specs.Changing.{WritesThreadAndTwoFree}
use Rattle.lfs_operations.specs.Making.{ReportsDirectoryCreation}
use Rattle.lfs_operations.specs.Wear.{CanRelocate, HasDistinctPlanBlocks, HasRelocated, RelocatesByPlan, KeepsTreeAndFiles}
use Rattle.lfs_operations.specs.declared.wear.RelocationPlan.{RelocationPlan}
use Rattle.lfs_tree.proofs.Common.{All-from_recursion, AllByRecursion, Blocks, CallEvent, IsFree, IsRecoveredWritableImage, IsSoundState, KeptThread, SameFileBlocks, SameGeometry, Slot, IsSoundUnlessFailed, SurvivesLossSince, ThreadView, TreeState, all_unmoved_slots, disk_block, disk_tree, each_append, each_from_counted, each_pieces, each_weaker, kept_thread, pairs_blocks, pairs_gstate, visible_tree, struct_blocks, thread_state}
use Rattle.lfs_tree.specs.Wear.{CanRelocateByPlan, HasRelocatedWornPair, RelocatesUnlessChangeFailed, RelocatesOrFails}
use Rattle.lfs_tree.proofs.Carried.{IsPairsOrFree, all_pairs, apart_flying}
use Rattle.lfs_tree.proofs.Recovered.{held_sound, none_survives}
use Rattle.lfs_tree.proofs.SameErrors.{same_error}

-- what a device's laws say of the newest call, seen from a thread
pub newest_of : (one other : List CallEvent) (first last : Blocks) → first ≡ last → one ≡ other → LeftByLatestCall one first → LeftByLatestCall other last
newest_of one other first last blocks calls newest = subst (λ (bs : Blocks). LeftByLatestCall other bs) blocks (subst (λ (h : List CallEvent). LeftByLatestCall h first) calls newest)

-- ---- nothing moves

pub shows_itself : (t : KeptThread) → IsRecoveredWritableImage t → KeepsTreeAndFiles t t
shows_itself t ready = record {
  ready = ready;
  shows = refl;
  structs = λ path u e leaf. (u, (e, refl));
  lists = All-from_recursion (λ (s : Slot). SameFileBlocks t.disk t.disk s.struct) (all_unmoved_slots t.pairs)
      (each_pieces (λ b. disk_block t.disk b ≡ disk_block t.disk b) (λ (s : Slot). struct_blocks t.disk s.struct) (all_unmoved_slots t.pairs) (each_from_counted (λ b. disk_block t.disk b ≡ disk_block t.disk b) _ (λ b some. refl)));
  flying = λ b. ((λ flies. flies), (λ flies. flies));
}

pub spreads_nothing : (now : TreeState) (plan : Option RelocationPlan) → IsRecoveredWritableImage (kept_thread now) → IsSoundState now → now.failed ≡ false → now.writable ≡ true → LeftByLatestCall now.history now.disk.blocks → (let r : Result (Unit {0}) Error = Ok tt in RelocatesOrFails now plan r now)
spreads_nothing now plan ready sound works may newest = record {
  newest = newest;
  done = record {
    works = works;
    sound = sound;
    writable = may;
    geometry = record { block_size = refl; page = refl; order = refl; profile = refl; count = refl };
    calls = [];
    called = refl;
    no_fault = refl;
    files = shows_itself (kept_thread now) ready;
    flight = record { stay = λ b f. f; none_comes = λ b f. f; bytes = λ b f. refl; unprogrammed_still = λ b k f u. u };
    spread = inl refl;
  };
  broken = tt;
  errors = tt;
  survives = none_survives now (visible_tree now);
}

-- if the change itself didn't fail
pub spreads_behind : (now : TreeState) (plan : Option RelocationPlan) (done result : Result (Unit {0}) Error) (u : Unit {0}) (new : TreeState) → done ≡ Ok u → RelocatesOrFails now plan result new → RelocatesUnlessChangeFailed now plan done result new
spreads_behind now plan done result u new is k = subst (λ d. RelocatesUnlessChangeFailed now plan d result new) (sym is) k

-- ---- a move

module _ (t : ThreadView) (root : ℕ) (writable : Bool) (now : TreeState) (kept : IsSoundUnlessFailed t root writable) (view : thread_state t writable ≡ now) (plan : Option RelocationPlan) (can : CanRelocateByPlan now plan) where
  works_here : t.failed ≡ false
  works_here = ap (λ (s : TreeState). s.failed) view ∙ can.works

  may_here : writable ≡ true
  may_here = ap (λ (s : TreeState). s.writable) view ∙ can.writable

  pub ready_here : 1024 ≤ t.kept.disk.block_size → IsRecoveredWritableImage t.kept
  ready_here large =
      let s = (kept works_here).sound in
      record {
        accepted = s.accepted;
        writable = s.fits may_here;
        settled = ap (λ (s : TreeState). pairs_gstate s.pairs) view ∙ can.recovered.gstate;
        used = s.used;
        size = s.size;
        large = large;
      }

  pub nothing_here : 1024 ≤ t.kept.disk.block_size → LeftByLatestCall t.kept.history t.kept.disk.blocks → (let r : Result (Unit {0}) Error = Ok tt in RelocatesOrFails now plan r now)
  nothing_here large newest =
      spreads_nothing now plan (subst (λ (s : TreeState). IsRecoveredWritableImage (kept_thread s)) view (ready_here large)) (held_sound t root writable now kept view can.works) can.works can.writable
      (subst (λ (s : TreeState). LeftByLatestCall s.history s.disk.blocks) view newest)

  module _ (given : RelocationPlan) (planned : plan ≡ Some given) where
    pub can_relocate : 1024 ≤ t.kept.disk.block_size → CanRelocate t root given
    can_relocate large = record {
      works = works_here;
      ready = ready_here large;
      root_is = (kept works_here).root_is;
      blocks = subst (λ (s : TreeState). HasDistinctPlanBlocks s.map given) (sym view) (subst (λ p. IfSome p (HasDistinctPlanBlocks now.map)) planned can.blocks);
    }

    module _ (new : ThreadView) (r : Result ℕ Error) (done : IfOk r (HasRelocated t.kept given new.kept)) (told : ReportsDirectoryCreation t new r) (writes : WritesThreadAndTwoFree t.kept new.kept)
        (survives : SurvivesLossSince t.kept.disk t.kept.history new.kept.history (disk_tree t.kept.disk t.kept.pairs) (disk_tree t.kept.disk t.kept.pairs)) (newest : LeftByLatestCall t.kept.history t.kept.disk.blocks) where
      geometry : SameGeometry t.kept.disk new.kept.disk
      geometry = let s = writes.writes.shape in record { block_size = s.block_size; page = s.page; order = s.order; profile = s.profile; count = s.count }

      each : AllByRecursion (IsPairsOrFree t.kept) (pairs_blocks t.kept.pairs ++ writes.fresh)
      each = each_append (IsPairsOrFree t.kept) (pairs_blocks t.kept.pairs) writes.fresh (all_pairs t.kept) (each_weaker (IsFree t.kept.map) (IsPairsOrFree t.kept) (λ c f. inr f) writes.fresh writes.free)

      -- seen from the tree
      pub relocated_ok : (root_now : ℕ) → r ≡ Ok root_now → (let s : Result (Unit {0}) Error = Ok tt in RelocatesOrFails now plan s (thread_state new writable))
      relocated_ok root_now is =
          subst (λ (s : TreeState). let z : Result (Unit {0}) Error = Ok tt in RelocatesOrFails s plan z (thread_state new writable)) view (record {
            newest = newest;
            done = record {
              works = told.failed ∙ ap is_err is;
              sound = record { accepted = h.files.ready.accepted; fits = λ e. h.files.ready.writable; is_kept = λ k. may_here; used = h.files.ready.used; size = h.files.ready.size };
              writable = may_here;
              geometry = geometry;
              calls = writes.writes.at_worst.events;
              called = writes.writes.at_worst.extends;
              no_fault = told.no_fault (λ io. absurd (let k = sym is ∙ io in cc));
              files = h.files;
              flight = record {
                stay = λ b flies. (h.files.flying b).1 flies;
                none_comes = λ b flies. (h.files.flying b).0 flies;
                bytes = λ b flies. writes.writes.others.others b (apart_flying t.kept (pairs_blocks t.kept.pairs ++ writes.fresh) (kept works_here).sound.used each b flies);
                unprogrammed_still = λ b k flies was. writes.writes.elsewhere.stays b k (apart_flying t.kept (pairs_blocks t.kept.pairs ++ writes.fresh) (kept works_here).sound.used each b flies) was;
              };
              spread = spread h.moved;
            };
            broken = tt;
            errors = tt;
            survives = survives;
          })
        where
          h : HasRelocated t.kept given new.kept root_now
          h = subst (λ z. IfOk z (HasRelocated t.kept given new.kept)) is done

          spread : (new.kept ≡ t.kept) ⊎ (IsOnePairRelocated t.kept.disk t.kept.pairs new.kept.disk new.kept.pairs × RelocatesByPlan t.kept given new.kept) → (new.kept ≡ t.kept) ⊎ HasRelocatedWornPair (thread_state t writable) plan (thread_state new writable)
          spread (inl same) = inl same
          spread (inr m) = inr (record { given = given; planned = planned; moved = m.0; writes = m.1; few = h.few })

      pub relocated_failed : (e : Error) → r ≡ Err e → (let s : Result (Unit {0}) Error = Err e in RelocatesOrFails now plan s (thread_state new writable))
      relocated_failed e is =
          subst (λ (s : TreeState). let z : Result (Unit {0}) Error = Err e in RelocatesOrFails s plan z (thread_state new writable)) view (record {
            newest = newest;
            done = tt;
            broken = record { failed = told.failed ∙ ap is_err is; geometry = geometry; calls = writes.writes.at_worst.events; called = writes.writes.at_worst.extends };
            errors = record {
              errors = subst (λ (z : Result ℕ Error). IfErr z (λ f. (f ≡ Io) ⊎ (f ≡ NoMemory))) is told.errors;
              fault = λ io. told.fault (is ∙ ap Err io);
              no_fault = λ other. told.no_fault (λ io. other (same_error e Io (sym is ∙ io)));
            };
            survives = survives;
          })

      -- the root directory begins with the pair of the returned index
      pub relocated_held : (root_now : ℕ) → r ≡ Ok root_now → IsSoundUnlessFailed new root_now writable
      relocated_held root_now is works = record {
        works = works;
        sound = (let h : HasRelocated t.kept given new.kept root_now = subst (λ z. IfOk z (HasRelocated t.kept given new.kept)) is done in
            record { accepted = h.files.ready.accepted; fits = λ e. h.files.ready.writable; is_kept = λ k. may_here; used = h.files.ready.used; size = h.files.ready.size });
        root_is = (let h : HasRelocated t.kept given new.kept root_now = subst (λ z. IfOk z (HasRelocated t.kept given new.kept)) is done in h.root_is);
      }

      pub failed_held : (e : Error) → r ≡ Err e → IsSoundUnlessFailed new root writable
      failed_held e is works = absurd (let k = sym works ∙ told.failed ∙ ap is_err is in cc)
