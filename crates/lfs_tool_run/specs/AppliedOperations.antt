-- The operations that copy entries into an image, and how they end.
use Rattle.std.specs.Prelude.{ℕ, ◌≡◌, true, false, List, [], ◌∷◌, ◌++◌, Option, Some, None, Result, Ok, Err, All}
use Rattle.std.specs.List.{flat_map}
use Rattle.lfs_device.specs.declared.error.Error.{Error}
use Rattle.lfs_model.specs.layers.Listing.{node_copy_operations}
use Rattle.lfs_model.specs.session.Operations as ops
use Rattle.lfs_model.specs.session.Operations.{Operation, Reply}
use Rattle.lfs_model.specs.session.Run.{AreSteps, IsStep, SystemState}
use Rattle.lfs_model.specs.session.Run as run
use Rattle.lfs_model.specs.session.Session.{OpenFilesByNumber, Session}
use Rattle.lfs_model.specs.session.State.{Healthy}
use Rattle.lfs_model.specs.tree.Tree.{Node, FileNode, DirectoryNode}
use Rattle.lfs_fs.specs.SessionView.{EndsInError}
use Rattle.lfs_lookup.specs.RefusalErrors.{is_refusal, error_refusal}
use Rattle.lfs_tool.specs.MemorySources.{optional_bytes_view}
use Rattle.lfs_tool.specs.declared.entries.SourceEntry.{SourceEntry}

-- ---- the operations

-- the node of an entry; a folder is created empty, before its entries
abbrev pub node_of_optional_bytes : Option (List ℕ) → Node
node_of_optional_bytes None = DirectoryNode [] []
node_of_optional_bytes (Some bytes) = FileNode [] bytes

-- the operations that copy an entry
abbrev pub entry_operations : SourceEntry → List Operation
entry_operations e = node_copy_operations e.path.items (node_of_optional_bytes (optional_bytes_view e.bytes))

abbrev pub entries_operations : List SourceEntry → List Operation
entries_operations entries = flat_map entry_operations entries

-- ---- a session that runs them

-- no file is open, so the next open returns the number 0
abbrev pub AllFilesClosed : OpenFilesByNumber → Type 0
AllFilesClosed [] = Unit {0}
AllFilesClosed (None ∷ []) = Unit {0}
AllFilesClosed (None ∷ f ∷ fs) = ⊥
AllFilesClosed (Some o ∷ fs) = ⊥

pub record IsHealthyWithoutFiles (at : SystemState) : Type 0 where
  pub session : Session
  pub healthy : at.state ≡ Healthy session
  pub closed : AllFilesClosed session.files

-- ---- how they end

-- The operations are applied in order, and none of them is refused.
pub record AreApplied (from : SystemState) (operations : List Operation) (to : SystemState) : Type 0 where
  pub replies : List Reply
  pub session_steps : AreSteps from operations replies to
  pub accepted : All (λ r. run.is_refusal r ≡ false) replies

-- Some of the operations are applied, and the next one ends in that error.
pub record AppliesUpToError (e : Error) (from : SystemState) (operations : List Operation) (to : SystemState) : Type 0 where
  pub done : List Operation
  pub next : Operation
  pub others : List Operation
  pub are : operations ≡ done ++ next ∷ others
  pub at : SystemState
  pub carried : AreApplied from done at
  pub ends : EndsInError (is_refusal e) e at next to

abbrev pub AppliesUntilError : {X : Type 0} → SystemState → List Operation → Result X Error → SystemState → Type 0
AppliesUntilError from operations (Ok x) to = AreApplied from operations to
AppliesUntilError from operations (Err e) to = AppliesUpToError e from operations to

-- That refusal is the first one among the operations, in order.
pub record IsFirstRefusal (from : SystemState) (operations : List Operation) (e : Error) : Type 0 where
  pub done : List Operation
  pub next : Operation
  pub others : List Operation
  pub are : operations ≡ done ++ next ∷ others
  pub at : SystemState
  pub carried : AreApplied from done at
  pub to : SystemState
  pub refused : IsStep at next (ops.Refused (error_refusal e)) to
  pub refusal : is_refusal e ≡ true
