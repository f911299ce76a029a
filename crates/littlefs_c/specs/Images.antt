-- A session over an image.
use Rattle.std.specs.Prelude.{ℕ, ◌≡◌, ◌⊎◌, true, false, List, [], ◌∷◌, ◌++◌, length, Result, Ok, Err, All}
use Rattle.lfs_model.specs.format.Disk.{IsWholeImage, default_profile, disk_of_image}
use Rattle.lfs_model.specs.declared.limits.Profile.{Profile}
use Rattle.lfs_model.specs.session.Operations as ops
use Rattle.lfs_model.specs.session.Operations.{Operation, Reply}
use Rattle.lfs_model.specs.session.Run.{AreSteps, IsStep, SystemState}
use Rattle.lfs_model.specs.session.Run as run
use Rattle.lfs_model.specs.tree.Shown.{disk_tree}
use Rattle.lfs_model.specs.session.State.{Healthy, mounted_session}
use Rattle.lfs_model.specs.format.Thread.{Pair}
use Rattle.lfs_model.specs.tree.View.{IsAccepted}
use Rattle.lfs_model.specs.declared.order.NameOrder.{NameOrder}
use Rattle.lfs_model.specs.declared.order.NameOrder.TheVariants.{LongerFirst, ShorterFirst}
use Rattle.lfs_device.specs.RamDevice.{ram_bytes, ram_geometry, ram_history}
use Rattle.lfs_device.specs.declared.error.Error.{Error}
use Rattle.lfs_device.specs.declared.error.Error.TheVariants.{Corrupt, Invalid, NoMemory}
use Rattle.lfs_device.specs.declared.ram.RamDevice.{RamDevice}
use Rattle.lfs_lookup.specs.RefusalErrors.{is_refusal, error_refusal}

-- ---- a session over an image

-- A device with this image and profile, before its first call.
pub record IsImageDevice (block_size page : ℕ) (profile : Profile) (image : List ℕ) (d : RamDevice) : Type 0 where
  pub whole : IsWholeImage block_size page image
  pub size : (ram_geometry d).block_size ≡ block_size
  pub its_page : (ram_geometry d).page ≡ page
  pub its_profile : (ram_geometry d).profile ≡ profile
  pub bytes : ram_bytes d ≡ image
  pub no_call : ram_history d ≡ []

-- A session at its mount of the image by that profile. The image is accepted. If both orders of names fit, the session's is the
-- one with the longer names first.
pub record IsSessionOverImage (block_size page : ℕ) (profile : Profile) (image : List ℕ) (from : SystemState) : Type 0 where
  pub whole : IsWholeImage block_size page image
  pub disk : from.disk ≡ disk_of_image block_size page profile from.disk.order image
  pub longer : from.disk.order ≡ ShorterFirst → (ps : List Pair) → ¬ IsAccepted (disk_of_image block_size page profile LongerFirst image) ps
  pub pairs : List Pair
  pub accepted : IsAccepted from.disk pairs
  pub mounts : from.state ≡ Healthy (mounted_session (disk_tree from.disk pairs))

-- The reason why a call runs no operation: the bytes are no image of that geometry, the image isn't accepted, or memory wasn't
-- granted.
abbrev pub PreventsSession : ℕ → ℕ → Profile → List ℕ → Error → Type 0
PreventsSession block_size page profile image Invalid = ¬ IsWholeImage block_size page image
PreventsSession block_size page profile image Corrupt = (order : NameOrder) (ps : List Pair) → ¬ IsAccepted (disk_of_image block_size page profile order image) ps
PreventsSession block_size page profile image NoMemory = Unit {0}
PreventsSession block_size page profile image other = ⊥
