-- The result of a path's look-up.
use Rattle.std.specs.Prelude.{ℕ, ◌≡◌, ◌<◌, nat_lt, List, length, Option, Some, None, Bool}
use Rattle.lfs_model.specs.format.Thread.{Pair, pairs_gstate}
use Rattle.lfs_model.specs.tree.Tree.{Path}
use Rattle.lfs_thread.specs.Kept.{KeptThread}
use Rattle.lfs_lookup.specs.Listed.{directory_entries_from}
use Rattle.lfs_lookup.specs.LookupPaths.{IsVisibleLookupResult}
use Rattle.lfs_lookup.specs.NameSearch.{IsOnlyMovedSlot}
use Rattle.lfs_lookup.specs.declared.entry.FileStorage.{FileStorage}
use Rattle.lfs_lookup.specs.declared.entry.FileStorage.TheVariants as contents
use Rattle.lfs_lookup.specs.declared.found_entries.FoundNode.{FoundNode}
use Rattle.lfs_lookup.specs.declared.found_entries.Node.TheVariants as node
use Rattle.lfs_model.specs.session.Operations.{NoEnt, NotDir}
use Rattle.lfs_lookup.specs.declared.paths.VisiblePathLookup.{VisiblePathLookup}
use Rattle.lfs_lookup.specs.declared.paths.VisiblePathLookup.TheVariants as shown
use Rattle.lfs_lookup.specs.declared.search.SlotPosition.{SlotPosition}

-- it ignores only the slot that a pending move names, which counts as deleted
pub record IsLookupResult (t : KeptThread) (path : Path) (shown : VisiblePathLookup) : Type 0 where
  pub moved : Option SlotPosition
  pub hides : IsOnlyMovedSlot (pairs_gstate t.pairs) moved 0 t.pairs
  pub shows : IsVisibleLookupResult t moved path shown

-- whether the directory that begins with the pair of that index has an entry; false for None
abbrev pub has_entries_from : List Pair → Option ℕ → Bool
has_entries_from ps from = nat_lt 0 (length (directory_entries_from ps from))

-- the index of the first pair of the directory that was found
abbrev pub found_directory_pair_index : ℕ → VisiblePathLookup → Option ℕ
found_directory_pair_index root shown.Root = Some root
found_directory_pair_index root (shown.Directory slot first) = Some first
found_directory_pair_index root _ = None

abbrev pub storage_size : FileStorage → ℕ
storage_size (contents.Inline len) = len
storage_size (contents.List head size) = size

-- inline bytes are short enough for an entry's tag
abbrev pub InlineFitsTag : FileStorage → Type 0
InlineFitsTag (contents.Inline len) = len < 0x3ff
InlineFitsTag (contents.List head size) = Unit {0}

abbrev pub FoundInlineFitsTag : VisiblePathLookup → Type 0
FoundInlineFitsTag (shown.File slot contents) = InlineFitsTag contents
FoundInlineFitsTag _ = Unit {0}

-- the refusal of the path by a parent, and the entry at the path
abbrev pub node_or_refusal : VisiblePathLookup → FoundNode
node_or_refusal shown.Root = record { fault = None; node = node.Directory }
node_or_refusal (shown.Directory slot first) = record { fault = None; node = node.Directory }
node_or_refusal (shown.File slot contents) = record { fault = None; node = node.File (storage_size contents) }
node_or_refusal shown.Nothing = record { fault = None; node = node.Nothing }
node_or_refusal shown.ParentIsFile = record { fault = Some NotDir; node = node.Nothing }
node_or_refusal shown.ParentIsMissing = record { fault = Some NoEnt; node = node.Nothing }

-- no parent of the path refuses it
abbrev pub ParentsAllowLookup : VisiblePathLookup → Type 0
ParentsAllowLookup s = (node_or_refusal s).fault ≡ None
