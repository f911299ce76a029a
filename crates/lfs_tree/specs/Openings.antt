-- The contents of a file for a writer that opens it.
use Rattle.std.specs.Prelude.{All, false}
use Rattle.lfs_model.specs.layers.BlockSets.{IsFree}
use Rattle.lfs_model.specs.format.Slots.{Slot, Struct}
use Rattle.lfs_model.specs.tree.Shown.{struct_blocks}
use Rattle.lfs_tree.specs.ThreadContents.{HaveContentsForm, contents_list_blocks}
use Rattle.lfs_thread.specs.Kept.{KeptThread}
use Rattle.lfs_lookup.specs.BytesAt.{IsFileAt}
use Rattle.lfs_lookup.specs.FileBytes.{struct_file_bytes}
use Rattle.lfs_lookup.specs.declared.entry.FileStorage.{FileStorage}
use Rattle.lfs_lookup.specs.declared.entry.FileStorage.TheVariants as entry
use Rattle.lfs_lookup.specs.declared.search.SlotPosition.{SlotPosition}
use Rattle.lfs_file.specs.Contents.{NoneInFlight}
use Rattle.lfs_file.specs.Form as form
use Rattle.lfs_file.specs.Form.{ContentsForm}
use Rattle.lfs_file.specs.BlockOwners.{AreUsedAmong}
use Rattle.lfs_file.specs.declared.contents.WriterContents.{WriterContents}

-- `slot` is a file's slot `held`, no block is in flight, and the blocks of the file's list aren't free
pub record CanOpenFileSlot (t : KeptThread) (slot : SlotPosition) (contents : FileStorage) (held : Slot) : Type 0 where
  pub file : IsFileAt t slot contents held
  pub idle : NoneInFlight t.map t.disk.blocks
  pub marked : All (λ b. ¬ (IsFree t.map b)) (struct_blocks t.disk held.struct)

abbrev pub opened_form : FileStorage → ContentsForm
opened_form (entry.Inline len) = form.InMemory len
opened_form (entry.List head size) = form.Finished size false

-- the writer's contents are the struct's bytes, in memory or as the file's list
pub record AreOpenedContents (t : KeptThread) (struct : Struct) (shape : ContentsForm) (contents : WriterContents) : Type 0 where
  pub holds : HaveContentsForm t contents (struct_file_bytes t.disk struct) shape
  pub owned : AreUsedAmong t.map (struct_blocks t.disk struct) (contents_list_blocks t contents)
