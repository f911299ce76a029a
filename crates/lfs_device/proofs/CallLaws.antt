-- What calls do to a device together, from what each of them does.
use Rattle.std.proofs.Common.{◌≡◌, ℕ, Bool, List, [], ◌∷◌, refl, sym, ◌∙◌, subst}
use Rattle.lfs_device.specs.declared.device.BlockDevice.{Ghosts}
use Rattle.lfs_device.specs.DeviceCalls.{ReadsOnly, ChangesOneBlock}
use Rattle.lfs_model.specs.format.Blocks.{SameExcept}
use Rattle.lfs_model.specs.session.History.{call_event}
use Rattle.lfs_model.specs.session.History.DeviceCall.{Read, Program, Erase}
use Rattle.lfs_model.proofs.Histories.{began, goes_on, goes_on_by, HoldsAtLosses-weaker, HoldsAtLosses-read_count, LossLeavesAtWorst-read, OnlyReadsSince-read, OthersStayUnprogrammed-trans, OthersStayUnprogrammed-read_count, OthersStayUnprogrammed-erase, OthersStayUnprogrammed-program}
use Rattle.lfs_model.proofs.Overwrites.{SameExcept-refl, SameExcept-trans}

module _ {D : Type 0} (g : Ghosts D) where
  pub ReadsOnly-read : {old new : D} {b off len : ℕ} {failed : Bool} → g.history new ≡ call_event (Read b off len) (g.blocks old) (g.blocks new) failed ∷ g.history old
      → g.blocks new ≡ g.blocks old → g.geometry new ≡ g.geometry old → ReadsOnly g old new
  ReadsOnly-read is same geometry = record { same = same; geometry = geometry; reads = OnlyReadsSince-read began is refl same }

  -- ---- one block

  pub ChangesOneBlock-reads : {old new : D} (b : ℕ) → ReadsOnly g old new → ChangesOneBlock g b old new
  ChangesOneBlock-reads {old} b only = record {
    others = subst (SameExcept b (g.blocks old)) (sym only.same) (SameExcept-refl b (g.blocks old));
    elsewhere = OthersStayUnprogrammed-read_count (b ∷ []) only.reads;
    geometry = only.geometry;
    at_worst = HoldsAtLosses-read_count LossLeavesAtWorst-read only.reads (SameExcept-refl b (g.blocks old));
  }

  pub ChangesOneBlock-trans : {b : ℕ} {old mid new : D} → ChangesOneBlock g b old mid → ChangesOneBlock g b mid new → ChangesOneBlock g b old new
  ChangesOneBlock-trans first second = record {
    others = SameExcept-trans first.others second.others;
    elsewhere = OthersStayUnprogrammed-trans first.elsewhere second.elsewhere;
    geometry = second.geometry ∙ first.geometry;
    at_worst = goes_on_by first.at_worst (HoldsAtLosses-weaker (λ disk left. SameExcept-trans first.others left) second.at_worst);
  }

  pub ChangesOneBlock-erase : {old new : D} {b : ℕ} {failed : Bool} → g.history new ≡ call_event (Erase b) (g.blocks old) (g.blocks new) failed ∷ g.history old
      → SameExcept b (g.blocks old) (g.blocks new) → g.geometry new ≡ g.geometry old → ChangesOneBlock g b old new
  ChangesOneBlock-erase is others geometry = record {
    others = others;
    elsewhere = OthersStayUnprogrammed-erase is;
    geometry = geometry;
    at_worst = goes_on began is (λ disk left. left);
  }

  pub ChangesOneBlock-program : {old new : D} {b off : ℕ} {bytes : List ℕ} {failed : Bool} → g.history new ≡ call_event (Program b off bytes) (g.blocks old) (g.blocks new) failed ∷ g.history old
      → SameExcept b (g.blocks old) (g.blocks new) → g.geometry new ≡ g.geometry old → ChangesOneBlock g b old new
  ChangesOneBlock-program is others geometry = record {
    others = others;
    elsewhere = OthersStayUnprogrammed-program is;
    geometry = geometry;
    at_worst = goes_on began is (λ disk left. left);
  }
  -- ---- several blocks
