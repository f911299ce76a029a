-- Contents on a thread's device.
use Rattle.std.proofs.Common.{ℕ, ◌≡◌, ◌≤◌, ◌+◌, List, length, Result, Ok, Err, sym, ap, ap₂, subst, ◌∙◌}
use Rattle.std.specs.Prelude.{IfOk}
use Rattle.lfs_device.specs.declared.error.Error.{Error}
use Rattle.lfs_device.specs.declared.device.BlockDevice.{Ghosts}
use Rattle.lfs_device.specs.declared.geometry.Geometry.{Geometry}
use Rattle.lfs_tree.proofs.Common.{Blocks, HasBlockSizes, BlockStates, used_count, Disk, inline_limit, HasGeometry, BelongToThread, KeptThread, HaveBytesInForm, AreSoundContents, finish_room, contents_form, ContentsForm, AreUsedAmong, contents_blocks, CanWriteRemainingDraft, CanTruncate, CanWriteToContents, HaveContentsForm, AreContentsOnDisk, contents_list_blocks}
use Rattle.lfs_file.specs.Contents.{CanFinishContents, CanTruncateContents, CanWriteContents, HasTruncationRoom, HasWriteRoom, memory_limit}
use Rattle.lfs_file.specs.declared.contents.WriterContents.{WriterContents}
use Rattle.lfs_file.proofs.ContentsGeometries.{geometry_is}

module _ {D : Type 0} (g : Ghosts D) (t : KeptThread) (device : D) (map : BlockStates) (shows : BelongToThread g t device map)
    (shape : HasBlockSizes (g.geometry device).block_size (g.geometry device).block_count (g.blocks device)) where
  pub blocks_here : g.blocks device ≡ t.disk.blocks
  blocks_here = ap (λ (d : Disk). d.blocks) shows.disk

  pub size_here : (g.geometry device).block_size ≡ t.disk.block_size
  size_here = ap (λ (d : Disk). d.block_size) shows.disk

  pub divided_here : HasGeometry (g.geometry device) t.disk
  divided_here = record { block_size = size_here; page = ap (λ (d : Disk). d.page) shows.disk; profile = ap (λ (d : Disk). d.profile) shows.disk; count = sym shape.count ∙ ap length blocks_here }

  pub limit_here : memory_limit (g.geometry device) ≡ inline_limit t.disk.profile t.disk.block_size
  limit_here = ap₂ (λ p n. inline_limit p n) divided_here.profile size_here

  pub geometry_here : (x : Geometry) → HasGeometry x t.disk → g.geometry device ≡ x
  geometry_here x of_disk = geometry_is (g.geometry device) x (size_here ∙ sym of_disk.block_size) (divided_here.page ∙ sym of_disk.page) (divided_here.profile ∙ sym of_disk.profile) (divided_here.count ∙ sym of_disk.count)

  pub stands_here : (contents : WriterContents) → AreContentsOnDisk t contents → AreSoundContents map (g.blocks device) (g.geometry device) contents
  stands_here contents is =
      subst (λ (m : BlockStates). AreSoundContents m (g.blocks device) (g.geometry device) contents) (sym shows.map)
      (subst (λ (d : Blocks). AreSoundContents t.map d (g.geometry device) contents) (sym blocks_here)
      (subst (λ (x : Geometry). AreSoundContents t.map t.disk.blocks x contents) (sym (geometry_here is.geometry is.divided)) is.stands))

  -- contents after a call
  pub holds_here : (x : Geometry) (contents : WriterContents) (bytes : List ℕ) (form : ContentsForm) → x ≡ g.geometry device → HaveBytesInForm map (g.blocks device) x contents bytes form → HaveContentsForm t contents bytes form
  holds_here x contents bytes form is has = record {
    geometry = g.geometry device;
    divided = divided_here;
    has = subst (λ (y : Geometry). HaveBytesInForm t.map t.disk.blocks y contents bytes form) is
        (subst (λ (m : BlockStates). HaveBytesInForm m t.disk.blocks x contents bytes form) shows.map
        (subst (λ (d : Blocks). HaveBytesInForm map d x contents bytes form) blocks_here has));
  }

  -- a write of the contents
  pub write_here : (contents : WriterContents) (place count : ℕ) → CanWriteToContents t contents place count → CanWriteContents map (g.blocks device) (g.geometry device) contents place count
  write_here contents place count can = record {
    stands = stands_here contents can.stands;
    fits = subst (λ (k : ℕ). HasWriteRoom map (g.geometry device).block_size (contents_form contents) k place count) (sym limit_here)
        (subst (λ (n : ℕ). HasWriteRoom map n (contents_form contents) limit place count) (sym size_here) (subst (λ (m : BlockStates). HasWriteRoom m t.disk.block_size (contents_form contents) limit place count) (sym shows.map) can.fits));
  }
    where
      limit : ℕ
      limit = inline_limit t.disk.profile t.disk.block_size

  -- a truncation
  pub truncate_here : (contents : WriterContents) (size : ℕ) → CanTruncate t contents size → CanTruncateContents map (g.blocks device) (g.geometry device) contents size
  truncate_here contents size can = record {
    stands = stands_here contents can.stands;
    fits = subst (λ (k : ℕ). HasTruncationRoom map (g.geometry device).block_size (contents_form contents) k size) (sym limit_here)
        (subst (λ (n : ℕ). HasTruncationRoom map n (contents_form contents) limit size) (sym size_here) (subst (λ (m : BlockStates). HasTruncationRoom m t.disk.block_size (contents_form contents) limit size) (sym shows.map) can.fits));
  }
    where
      limit : ℕ
      limit = inline_limit t.disk.profile t.disk.block_size

  -- the end of a draft
  pub finish_here : (contents : WriterContents) → CanWriteRemainingDraft t contents → CanFinishContents map (g.blocks device) (g.geometry device) contents
  finish_here contents can = record {
    stands = stands_here contents can.stands;
    room = subst (λ (n : ℕ). used_count map + finish_room n (contents_form contents) ≤ length map) (sym size_here)
        (subst (λ (m : BlockStates). used_count m + finish_room t.disk.block_size (contents_form contents) ≤ length m) (sym shows.map) can.room);
  }

-- the result of a call, seen from the thread
pub holds_after : {D : Type 0} (g : Ghosts D) (old new : KeptThread) (d e : D) (m n : BlockStates) → BelongToThread g old d m → BelongToThread g new e n → HasBlockSizes (g.geometry d).block_size (g.geometry d).block_count (g.blocks d)
    → HasBlockSizes (g.geometry e).block_size (g.geometry e).block_count (g.blocks e) → g.geometry e ≡ g.geometry d → (bytes : Blocks → ℕ → List ℕ) (form : ℕ → ContentsForm) (r : Result WriterContents Error)
    → IfOk r (λ c. HaveBytesInForm n (g.blocks e) (g.geometry d) c (bytes (g.blocks d) (g.geometry d).block_size) (form (memory_limit (g.geometry d))))
    → IfOk r (λ c. HaveContentsForm new c (bytes old.disk.blocks old.disk.block_size) (form (inline_limit old.disk.profile old.disk.block_size)))
holds_after g old new d e m n before after shape later geometry bytes form (Ok c) has =
    subst (λ (k : ℕ). HaveContentsForm new c (bytes old.disk.blocks old.disk.block_size) (form k)) (limit_here g old d m before shape)
    (subst (λ (x : Blocks). HaveContentsForm new c (bytes x old.disk.block_size) (form (memory_limit (g.geometry d)))) (blocks_here g old d m before shape)
    (subst (λ (k : ℕ). HaveContentsForm new c (bytes (g.blocks d) k) (form (memory_limit (g.geometry d)))) (size_here g old d m before shape)
    (holds_here g new e n after later (g.geometry d) c (bytes (g.blocks d) (g.geometry d).block_size) (form (memory_limit (g.geometry d))) (sym geometry) has)))
holds_after g old new d e m n before after shape later geometry bytes form (Err x) has = tt

-- no used block is added to the lists
pub owned_after : {D : Type 0} (g : Ghosts D) (old new : KeptThread) (d e : D) (m n : BlockStates) → BelongToThread g old d m → BelongToThread g new e n → HasBlockSizes (g.geometry d).block_size (g.geometry d).block_count (g.blocks d)
    → HasBlockSizes (g.geometry e).block_size (g.geometry e).block_count (g.blocks e) → g.geometry e ≡ g.geometry d → (contents : WriterContents) (r : Result WriterContents Error)
    → IfOk r (λ c. AreUsedAmong n (contents_blocks (g.blocks d) (g.geometry d).block_size contents) (contents_blocks (g.blocks e) (g.geometry d).block_size c)) → IfOk r (λ c. AreUsedAmong new.map (contents_list_blocks old contents) (contents_list_blocks new c))
owned_after g old new d e m n before after shape later geometry contents (Ok c) owned =
    subst (λ (s : BlockStates). AreUsedAmong s (contents_list_blocks old contents) (contents_list_blocks new c)) after.map
    (subst (λ (k : ℕ). AreUsedAmong n (contents_list_blocks old contents) (contents_blocks new.disk.blocks k c)) (ap (λ (x : Geometry). x.block_size) (sym geometry) ∙ size_here g new e n after later)
    (subst (λ (x : Blocks). AreUsedAmong n (contents_list_blocks old contents) (contents_blocks x (g.geometry d).block_size c)) (blocks_here g new e n after later)
    (subst (λ (k : ℕ). AreUsedAmong n (contents_blocks old.disk.blocks k contents) (contents_blocks (g.blocks e) (g.geometry d).block_size c)) (size_here g old d m before shape)
    (subst (λ (x : Blocks). AreUsedAmong n (contents_blocks x (g.geometry d).block_size contents) (contents_blocks (g.blocks e) (g.geometry d).block_size c)) (blocks_here g old d m before shape) owned))))
owned_after g old new d e m n before after shape later geometry contents (Err x) owned = tt
