-- A rename over a directory. It flips the sync bit, since the directory's pair is then an orphan.
use Rattle.std.specs.Prelude.{ℕ, ◌≡◌, ◌≢◌, ◌⊎◌, ◌<◌, true, false, List, [], ◌∷◌, ◌++◌, length, Result, is_err, IfErr, IsErrOf}
use Rattle.lfs_device.specs.declared.error.Error.{Error}
use Rattle.lfs_device.specs.declared.error.Error.TheVariants.{Io, NoMemory}
use Rattle.lfs_model.specs.session.TreeEdits.{tree_renaming}
use Rattle.lfs_model.specs.layers.Changes.{ContentChange, PutMove}
use Rattle.lfs_model.specs.format.Content.{content_at}
use Rattle.lfs_model.specs.format.Disk.{block_count}
use Rattle.lfs_model.specs.session.History.{fault_count}
use Rattle.lfs_model.specs.session.InDirectory.{IsPositionOfName}
use Rattle.lfs_model.specs.format.Names.{Name}
use Rattle.lfs_model.specs.format.Slots.{Branch, PairContent, gstate_xor, same_pair}
use Rattle.lfs_model.specs.format.Thread.{IsThread, pairs_gstate, is_hard_tail}
use Rattle.lfs_model.specs.tree.Tree.{Path}
use Rattle.lfs_model.specs.tree.Profile.{IsWritableEntry}
use Rattle.lfs_model.specs.layers.Steps.{sync_bit_delta, renamed_addresses, IsWritableChange}
use Rattle.lfs_thread.specs.Kept.{KeptThread, ThreadView}
use Rattle.lfs_thread.specs.ThreadSteps.{ThreadReportsErrors, IsPairCommitted, OnlyReadsThread, IsPairWritten, thread_pair, pairs_with_content}
use Rattle.lfs_operations.specs.Dropping.{HasTreeAfterDrops}
use Rattle.lfs_operations.specs.Editing.{CanEditIn, editable_slot}
use Rattle.lfs_operations.specs.Renaming.{CompletesRename, tree_with_entry_renamed, renaming_changes}

-- the pair's delta flips the sync bit, both slots are deleted, and the entry's is created at the directory's id
abbrev pub replace_directory_changes : KeptThread → ℕ → ℕ → ℕ → Name → List ContentChange
replace_directory_changes t pair id place name = PutMove (gstate_xor (thread_pair t pair).content.move sync_bit_delta) ∷ renaming_changes true t pair id place name

-- The image may be changed. The pair has an entry with the id, and a directory of another name at another id of the same pair
-- and directory. The entry may have that name.
pub record CanReplaceDirectory (t : KeptThread) (pair id place : ℕ) (name : Name) : Type 0 where
  pub can : CanEditIn t pair id
  pub target : IsPositionOfName t.pairs can.first name pair place
  pub to : ℕ × ℕ
  pub branch : target.stands.slot.struct ≡ Branch to
  pub differs : name ≢ can.name
  pub fits : IsWritableEntry t.disk.profile t.disk.block_size t.disk.page (record (editable_slot can) { name = name })

-- The tree has the entry under the directory's name. The image is accepted and in the writing profile, and the sync bit is set.
-- Only one pair's content has changed.
pub record IsDirectoryReplaced (old new : KeptThread) (pair id place : ℕ) (path : Path) (from to : Name) : Type 0 where
  pub changed : IsPairCommitted old pair (replace_directory_changes old pair id place to) new
  pub content : PairContent
  pub written : IsPairWritten old pair content new.disk
  pub pairs : new.pairs ≡ pairs_with_content old pair content
  pub thread : IsThread (content_at new.disk) (block_count new.disk) new.pairs
  pub map : new.map ≡ old.map
  pub gstate : pairs_gstate new.pairs ≡ sync_bit_delta
  pub taken : IsWritableChange old.disk old.pairs new.disk new.pairs (tree_renaming (path ++ from ∷ []) (path ++ to ∷ [])) (renamed_addresses (path ++ from ∷ []) (path ++ to ∷ []))

-- The errors of a step that reads a slot first and allocates no block: after an error the thread has failed, unless the slot
-- couldn't be read; then it is as it was.
pub record ReportsReadCommit {X : Type 0} (old new : ThreadView) (result : Result X Error) : Type 0 where
  pub failed : (new.failed ≡ is_err result) ⊎ ((new.failed ≡ false) × OnlyReadsThread old.kept new.kept)
  pub reported : ThreadReportsErrors old.kept new.kept result

-- ---- the operation

-- The premises of CanReplaceDirectory. The pair of index `gone` is the only one of the directory that is replaced, and has no
-- slots.
pub record CanRenameOverDirectory (t : KeptThread) (pair id place : ℕ) (name : Name) (gone : ℕ) : Type 0 where
  pub over : CanReplaceDirectory t pair id place name
  pub below : gone < length t.pairs
  pub at : same_pair (thread_pair t gone).at over.to ≡ true
  pub empty : (thread_pair t gone).content.slots ≡ []
  pub alone : is_hard_tail (thread_pair t gone).content.tail ≡ false

-- The tree has the entry under the directory's name, and the directory's pair is dropped. So a rename of its path onto the
-- directory's is complete.
pub record IsRenamedOverDirectory (old new : KeptThread) (path : Path) (from to : Name) : Type 0 where
  pub now : HasTreeAfterDrops old new (tree_with_entry_renamed old path from to) []
  pub completed : CompletesRename old new path from to

-- The errors of several steps that allocate no block, and of which the first one reads a slot. The result is `Io` exactly if a
-- device call failed. After an error the thread has failed, unless the slot couldn't be read; then it is as it was.
pub record ReportsReadCommits {X : Type 0} (old new : ThreadView) (result : Result X Error) : Type 0 where
  pub failed : (new.failed ≡ is_err result) ⊎ ((new.failed ≡ false) × OnlyReadsThread old.kept new.kept)
  pub errors : IfErr result (λ e. (e ≡ Io) ⊎ (e ≡ NoMemory))
  pub fault : IsErrOf result Io → fault_count old.kept.history < fault_count new.kept.history
  pub no_fault : ¬ IsErrOf result Io → fault_count new.kept.history ≡ fault_count old.kept.history
