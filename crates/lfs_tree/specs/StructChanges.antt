-- Finished contents, and what a commit of them requires.
use Rattle.std.specs.Prelude.{ℕ, ◌≡◌, ◌+◌, nat_eq, List}
use Rattle.std.specs.List.{AllByRecursion, IsDistinct}
use Rattle.lfs_model.specs.layers.BlockSets.{IsInFlight}
use Rattle.lfs_model.specs.session.SlotEdits.{IsStructOfBytes}
use Rattle.lfs_model.specs.format.Slots.{Struct}
use Rattle.lfs_model.specs.tree.View.{IsWellFormedList}
use Rattle.lfs_model.specs.tree.Shown.{struct_blocks}
use Rattle.lfs_model.specs.layers.Steps.{occurrence_count}
use Rattle.lfs_thread.specs.Kept.{KeptThread}

-- `now` is a struct of these contents, inline or as a list on the disk. `come` are the blocks of its list that the old one
-- `was` doesn't share; they are in flight. `gone` are the blocks that only the old list has.
pub record IsNewContentsStruct (t : KeptThread) (contents : List ℕ) (was now : Struct) : Type 0 where
  pub stores : IsStructOfBytes t.disk contents now
  pub list : IsWellFormedList t.disk now
  pub gone : List ℕ
  pub come : List ℕ
  pub flying : AllByRecursion (IsInFlight t.map) come
  pub apart : IsDistinct nat_eq come
  pub blocks : (b : ℕ) → occurrence_count b (struct_blocks t.disk now) + occurrence_count b gone ≡ occurrence_count b come + occurrence_count b (struct_blocks t.disk was)
