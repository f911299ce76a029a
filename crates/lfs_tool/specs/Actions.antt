-- The actions on a target.
use Rattle.std.specs.Prelude.{◌≡◌, ◌++◌, [], ◌∷◌, List, Option, Some, None}
use Rattle.lfs_model.specs.layers.Listing.{UnpackingAction, MakeDirectory, PutFile}
use Rattle.lfs_tool.specs.declared.target_memory.TargetAction.{TargetAction}
use Rattle.lfs_tool.specs.declared.target_memory.TargetAction.TheVariants as variant

-- the actions are the old ones and this one, if they are known
abbrev pub AddsAction : Option (List UnpackingAction) → Option (List UnpackingAction) → UnpackingAction → Type 0
AddsAction None new a = Unit {0}
AddsAction (Some done) None a = ⊥
AddsAction (Some done) (Some now) a = now ≡ done ++ a ∷ []

abbrev pub action_view : TargetAction → UnpackingAction
action_view (variant.Folder path) = MakeDirectory path.items
action_view (variant.File path bytes) = PutFile path.items bytes.items
