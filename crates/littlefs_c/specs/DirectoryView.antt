-- An open directory, as contracts see it.
use Rattle.std.specs.Prelude.{ℕ, List}
use Rattle.lfs_lookup.specs.declared.kinds.ListItem.{ListItem}

-- its path, its entries at the time of the listing, and its position, an index of these
pub record DirectoryView : Type 0 where
  pub path : List ℕ
  pub items : List ListItem
  pub position : ℕ
