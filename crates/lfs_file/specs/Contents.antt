-- The contents of an open writer: their form, their bytes, and the map and disk that have them.
use Rattle.std.specs.Prelude.{ℕ, ◌≡◌, ◌≢◌, ◌≤◌, ◌<◌, ◌+◌, ◌*◌, ◌^◌, true, min, max, ◌==◌, nat_lt, if◌then◌else◌, List, length}
use Rattle.lfs_model.specs.format.Blocks.{Blocks}
use Rattle.lfs_model.specs.format.Disk.{inline_limit}
use Rattle.lfs_model.specs.layers.BlockSets.{BlockStates, IsInFlight, used_count}
use Rattle.lfs_model.specs.format.SkipLists.{skip_list_block_count}
use Rattle.lfs_device.specs.declared.geometry.Geometry.{Geometry}
use Rattle.lfs_file.specs.Growing.{IsAllBuffered, GrowingList, growing_size}
use Rattle.lfs_file.specs.Form as form
use Rattle.lfs_file.specs.Form.{ContentsForm, form_size}
use Rattle.lfs_file.specs.Hand.{IsFinishedList, stored_list_bytes}
use Rattle.lfs_file.specs.HandWrites.{CanEndUnfinished, unfinished_bytes}
use Rattle.lfs_file.specs.declared.contents.WriterContents.{WriterContents}
use Rattle.lfs_file.specs.declared.contents.WriterContents.TheVariants.{InMemory, Finished, InHand}

-- the bytes of contents in memory
abbrev pub buffered_bytes : GrowingList → List ℕ
buffered_bytes list = list.rest

abbrev pub contents_form : WriterContents → ContentsForm
contents_form (InMemory list) = form.InMemory (length (buffered_bytes list))
contents_form (Finished stored) = form.Finished stored.size stored.in_flight
contents_form (InHand hand) = form.InHand (growing_size hand.list) hand.base.size hand.base.in_flight

abbrev pub contents_bytes : Blocks → ℕ → WriterContents → List ℕ
contents_bytes disk block_size (InMemory list) = buffered_bytes list
contents_bytes disk block_size (Finished stored) = stored_list_bytes disk block_size stored
contents_bytes disk block_size (InHand hand) = unfinished_bytes disk hand

-- no block is in flight
pub record NoneInFlight (map : BlockStates) (disk : Blocks) : Type 0 where
  pub count : length map ≡ length disk
  pub none : (b : ℕ) → ¬ (IsInFlight map b)

-- an extender of this device has all bytes in its buffer
pub record IsBuffered (now : Geometry) (list : GrowingList) : Type 0 where
  pub geometry : now ≡ list.geometry
  pub held : IsAllBuffered list

-- all bytes are in memory, and no block is in flight
pub record IsInMemory (map : BlockStates) (disk : Blocks) (now : Geometry) (list : GrowingList) : Type 0 where
  pub idle : NoneInFlight map disk
  pub resting : IsBuffered now list

abbrev pub AreSoundContents : BlockStates → Blocks → Geometry → WriterContents → Type 0
AreSoundContents map disk now (InMemory list) = IsInMemory map disk now list
AreSoundContents map disk now (Finished stored) = IsFinishedList map disk now.block_size stored
AreSoundContents map disk now (InHand hand) = CanEndUnfinished map disk now hand

-- the contents have this form and these bytes
pub record HaveBytesInForm (map : BlockStates) (disk : Blocks) (now : Geometry) (contents : WriterContents) (bytes : List ℕ) (shape : ContentsForm) : Type 0 where
  pub stands : AreSoundContents map disk now contents
  pub has : contents_bytes disk now.block_size contents ≡ bytes
  pub form : contents_form contents ≡ shape

-- the most bytes that contents in memory have
abbrev pub memory_limit : Geometry → ℕ
memory_limit now = inline_limit now.profile now.block_size

-- only contents longer than the limit have blocks in flight
abbrev pub FormFitsLimit : ℕ → ContentsForm → Type 0
FormFitsLimit limit (form.InMemory size) = size ≤ limit
FormFitsLimit limit (form.Finished size flying) = flying ≡ true → limit < size
FormFitsLimit limit (form.InHand stop base flying) = limit < max stop base

-- how many blocks may be in flight after a write past the limit
abbrev pub write_room : ℕ → ℕ → ℕ → ContentsForm → ℕ
write_room block_size place count (form.InMemory size) = skip_list_block_count block_size (place + count)
write_room block_size place count (form.Finished size flying) = skip_list_block_count block_size (place + count) + (if flying then skip_list_block_count block_size size else 0)
write_room block_size place count (form.InHand stop base flying) =
    if stop == min place (max stop base) then skip_list_block_count block_size (place + count) + (if flying then skip_list_block_count block_size base else 0)
    else 2 * skip_list_block_count block_size (max (max stop base) (place + count))

-- the form after a draft is completed, and how many blocks may be in flight then
abbrev pub form_after_finish : ContentsForm → ContentsForm
form_after_finish (form.InMemory size) = form.InMemory size
form_after_finish (form.Finished size flying) = form.Finished size flying
form_after_finish (form.InHand stop base flying) = form.Finished (max stop base) true

abbrev pub finish_room : ℕ → ContentsForm → ℕ
finish_room block_size (form.InMemory size) = 0
finish_room block_size (form.Finished size flying) = 0
finish_room block_size (form.InHand stop base flying) = (if flying then skip_list_block_count block_size base else 0) + skip_list_block_count block_size base

-- and after a truncation to a size, which completes a draft that it cuts
abbrev pub truncation_room : ℕ → ℕ → ContentsForm → ℕ
truncation_room block_size size (form.InMemory old) = skip_list_block_count block_size size
truncation_room block_size size (form.Finished old flying) = skip_list_block_count block_size size + (if flying then skip_list_block_count block_size old else 0)
truncation_room block_size size (form.InHand stop base flying) =
    if nat_lt (max stop base) size
    then (if stop == max stop base then skip_list_block_count block_size size + (if flying then skip_list_block_count block_size base else 0) else 2 * skip_list_block_count block_size size)
    else (if flying then skip_list_block_count block_size base else 0) + skip_list_block_count block_size base

-- a truncation to a size needs blocks: it pads a list, or completes a draft
abbrev pub NeedsTruncateRoom : ℕ → ℕ → ContentsForm → Type 0
NeedsTruncateRoom limit size (form.InMemory old) = limit < size
NeedsTruncateRoom limit size (form.Finished old flying) = (limit < size) × (old < size)
NeedsTruncateRoom limit size (form.InHand stop base flying) = size ≢ max stop base

-- `count` bytes, at least one, may be written at an offset. Past the limit, as many blocks are free as the form of the contents
-- needs.
pub record HasWriteRoom (map : BlockStates) (block_size : ℕ) (shape : ContentsForm) (limit place count : ℕ) : Type 0 where
  pub large : FormFitsLimit limit shape
  pub short : limit < block_size
  pub some : 1 ≤ count
  pub small : place + count < 2 ^ 31
  pub room : limit < max (form_size shape) (place + count) → used_count map + write_room block_size place count shape ≤ length map

-- The contents may be cut or padded to a size. If the size changes, as many blocks are free as their form needs.
pub record HasTruncationRoom (map : BlockStates) (block_size : ℕ) (shape : ContentsForm) (limit size : ℕ) : Type 0 where
  pub large : FormFitsLimit limit shape
  pub short : limit < block_size
  pub small : size < 2 ^ 31
  pub room : NeedsTruncateRoom limit size shape → used_count map + truncation_room block_size size shape ≤ length map

-- contents on a device of this geometry may be written to; truncated; completed
pub record CanWriteContents (map : BlockStates) (disk : Blocks) (now : Geometry) (contents : WriterContents) (place count : ℕ) : Type 0 where
  pub stands : AreSoundContents map disk now contents
  pub fits : HasWriteRoom map now.block_size (contents_form contents) (memory_limit now) place count

pub record CanTruncateContents (map : BlockStates) (disk : Blocks) (now : Geometry) (contents : WriterContents) (size : ℕ) : Type 0 where
  pub stands : AreSoundContents map disk now contents
  pub fits : HasTruncationRoom map now.block_size (contents_form contents) (memory_limit now) size

pub record CanFinishContents (map : BlockStates) (disk : Blocks) (now : Geometry) (contents : WriterContents) : Type 0 where
  pub stands : AreSoundContents map disk now contents
  pub room : used_count map + finish_room now.block_size (contents_form contents) ≤ length map
