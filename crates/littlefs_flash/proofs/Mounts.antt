-- A mount of a device is one of its chip.
use Rattle.std.proofs.Common.{◌≡◌, ◌≢◌, ◌<◌, ◌⊎◌, List, inr, ap, arith, refl, subst, sym, ◌∙◌}
use Rattle.lfs_device.specs.DeviceDisk.{disk_of_blocks}
use Rattle.lfs_device.specs.Error.{error_number}
use Rattle.lfs_device.specs.declared.error.Error.{Error}
use Rattle.lfs_device.specs.declared.error.Error.TheVariants.{Corrupt, Io, NoMemory}
use Rattle.lfs_device.specs.declared.geometry.Geometry.{Geometry}
use Rattle.lfs_model.specs.crash.RepeatedPowerLoss.{IsJustMounted}
use Rattle.lfs_model.specs.declared.limits.Profile.{Profile}
use Rattle.lfs_model.specs.declared.order.NameOrder.{NameOrder}
use Rattle.lfs_model.specs.declared.order.NameOrder.TheVariants.{LongerFirst, ShorterFirst}
use Rattle.lfs_model.specs.format.Disk.{Disk, disk_with_order, longer_first_disk}
use Rattle.lfs_model.specs.format.Thread.{Pair}
use Rattle.lfs_model.specs.session.History.{OnlyReadsSince, fault_count}
use Rattle.lfs_model.specs.tree.View.{IsAccepted}
use Rattle.lfs_fs.specs.SessionView.{BeginsByMount, SessionView, system_state}
use Rattle.littlefs_values.specs.Configs.{config_profile}
use Rattle.littlefs_values.specs.declared.config.Config.{Config}
use Rattle.littlefs_flash.specs.Starts.{IsSessionOfChip, IsValidFlashConfig, PreventsMount, chip_disk}
use Rattle.littlefs_flash.specs.declared.chip.Chip.{Chip}

-- the disk by a geometry of the chip's sizes
by_sizes : (g : Geometry) (c : Chip) (p : Profile) → g.block_size ≡ c.block_size → g.page ≡ c.page → longer_first_disk g.block_size g.page p c.state.blocks ≡ chip_disk p c
by_sizes g c p size page =
    subst (λ n. longer_first_disk g.block_size g.page p c.state.blocks ≡ longer_first_disk n c.page p c.state.blocks) size
    (subst (λ n. longer_first_disk g.block_size g.page p c.state.blocks ≡ longer_first_disk g.block_size n p c.state.blocks) page refl)

-- a disk by another profile, in the order that nobody knows yet
abbrev with_profile : Profile → Disk → Disk
with_profile p k = longer_first_disk k.block_size k.page p k.blocks

not_io : NoMemory ≡ Io → ⊥
not_io e = let n : 12 ≡ 5 = ap error_number e in omega (arith, n)

not_corrupt : NoMemory ≡ Corrupt → ⊥
not_corrupt e = let n : 12 ≡ 84 = ap error_number e in omega (arith, n)

module _ (config : Config) (chip : Chip) (g : Geometry) (c : Chip) (valid : IsValidFlashConfig config chip) (same : c ≡ chip) (profile : g.profile ≡ config_profile config) (size : g.block_size ≡ c.block_size) (page : g.page ≡ c.page) where
  disk_is : disk_of_blocks g c.state.blocks ≡ chip_disk (config_profile config) chip
  disk_is = ap (λ p. longer_first_disk g.block_size g.page p c.state.blocks) profile ∙ by_sizes g c (config_profile config) size page ∙ ap (chip_disk (config_profile config)) same

  pub mounted : (s : SessionView) → BeginsByMount (disk_with_order s.tree.disk.order (disk_of_blocks g c.state.blocks)) c.state.history s → IsJustMounted (disk_with_order s.tree.disk.order (disk_of_blocks g c.state.blocks)) (system_state s)
      → (s.tree.disk.order ≡ ShorterFirst → (ps : List Pair) → ¬ IsAccepted (disk_with_order LongerFirst (disk_of_blocks g c.state.blocks)) ps) → IsSessionOfChip config chip s
  mounted s begun state longer =
      let o = s.tree.disk.order in
      record {
        valid = valid;
        begun = subst (λ k. BeginsByMount (disk_with_order o k) chip.state.history s) disk_is (subst (λ (x : Chip). BeginsByMount (disk_with_order o (disk_of_blocks g c.state.blocks)) x.state.history s) same begun);
        state = subst (λ k. IsJustMounted (disk_with_order o k) (system_state s)) disk_is state;
        longer = subst (λ k. o ≡ ShorterFirst → (ps : List Pair) → ¬ IsAccepted (disk_with_order LongerFirst k) ps) disk_is longer;
      }

  -- the chip comes back from another device, whose disk is the same but for the order
  module _ (g' : Geometry) (c' : Chip) (size' : g'.block_size ≡ c'.block_size) (page' : g'.page ≡ c'.page) where
    same_disk : (order order' : NameOrder) → disk_with_order order (disk_of_blocks g' c'.state.blocks) ≡ disk_with_order order' (disk_of_blocks g c.state.blocks) → (p : Profile) → chip_disk p c' ≡ chip_disk p chip
    same_disk order order' e p = sym (by_sizes g' c' p size' page') ∙ ap (with_profile p) e ∙ by_sizes g c p size page ∙ ap (chip_disk p) same

    pub no_room : (s : SessionView) → BeginsByMount (disk_with_order s.tree.disk.order (disk_of_blocks g c.state.blocks)) c.state.history s → disk_with_order s.tree.disk.order (disk_of_blocks g' c'.state.blocks) ≡ s.tree.disk
        → c'.state.history ≡ s.tree.history → PreventsMount config chip c' NoMemory
    no_room s begun disk history = inr (record {
      errors = inr (inr refl);
      corrupt = λ e. absurd (not_corrupt e);
      disk = same_disk s.tree.disk.order s.tree.disk.order (disk ∙ begun.disk_is);
      reads = subst (λ (x : Chip). OnlyReadsSince x.state.blocks x.state.history c'.state.history) same (subst (λ h. OnlyReadsSince c.state.blocks c.state.history h) (sym history) begun.reads);
      fault = λ e. absurd (not_io e);
      no_fault = λ _. ap fault_count history ∙ begun.no_fault ∙ ap (λ (x : Chip). fault_count x.state.history) same;
    })

    pub failed : (e : Error) → (e ≡ Io) ⊎ ((e ≡ Corrupt) ⊎ (e ≡ NoMemory)) → (e ≡ Corrupt → (order : NameOrder) (ps : List Pair) → ¬ IsAccepted (disk_with_order order (disk_of_blocks g c.state.blocks)) ps)
        → disk_of_blocks g' c'.state.blocks ≡ disk_of_blocks g c.state.blocks → OnlyReadsSince c.state.blocks c.state.history c'.state.history → (e ≡ Io → fault_count c.state.history < fault_count c'.state.history)
        → (e ≢ Io → fault_count c'.state.history ≡ fault_count c.state.history) → PreventsMount config chip c' e
    failed e errors corrupt disk reads fault no_fault = inr (record {
      errors = errors;
      corrupt = λ is order. subst (λ k. (ps : List Pair) → ¬ IsAccepted (disk_with_order order k) ps) disk_is (corrupt is order);
      disk = same_disk LongerFirst LongerFirst disk;
      reads = subst (λ (x : Chip). OnlyReadsSince x.state.blocks x.state.history c'.state.history) same reads;
      fault = λ is. subst (λ (x : Chip). fault_count x.state.history < fault_count c'.state.history) same (fault is);
      no_fault = λ is. no_fault is ∙ ap (λ (x : Chip). fault_count x.state.history) same;
    })
