-- An entry that replaces a directory without entries: the premises and the results of the operations on slots.
use Rattle.std.proofs.Common.{ℕ, ◌≡◌, ◌≢◌, ◌⊎◌, inl, inr, ◌-◌, ◌∙◌, ◌++◌, false, [], ◌∷◌, Result, Ok, Err, refl, sym, ap₂, subst, arith, true}
use Rattle.std.specs.Prelude.{OnOk, is_err}
use Rattle.lfs_device.specs.declared.error.Error.{Error}
use Rattle.lfs_tree.proofs.Common.{tree_renaming, without_prefix, IsPositionOfName, Name, Branch, Path, disk_tree, WritesChangedPairsOrFree, WritesThreadAndFree, IsRenamedBetweenPairs, route_blocks, tree_with_entry_moved, tree_with_entry_renamed, KeptThread, ThreadView, OnlyReadsThread, ChangesThreadBlocks, thread_pair, PowerLossLeavesEither, CanMoveEntry, CanMoveOntoDirectory, HasMovedEntry, WorksOrReportsIo, address_blocks, addresses_blocks}
use Rattle.lfs_operations.specs.MovingAcross.{CanReplaceDirectoryBetweenPairs}
use Rattle.lfs_operations.specs.RenamingOver.{CanRenameOverDirectory, IsRenamedOverDirectory, ReportsReadCommits}
use Rattle.lfs_tree.specs.declared.renames_at.RenameSource.{RenameSource}
use Rattle.lfs_lookup.specs.declared.search.SlotPosition.{SlotPosition}
use Rattle.lfs_tree.proofs.Carried.{among_two, behind_below}
use Rattle.lfs_tree.proofs.ShiftedAlone.{route_to, spares_one, spares_two}
use Rattle.lfs_tree.proofs.ShiftedPlaces.{IsPairOf, one_place, other_name, target_path}
use Rattle.lfs_tree.proofs.ShiftedSlots.{none_gone, survives_at}

-- the slot there, seen in the directory of another index
record IsDirectoryAt (t : KeptThread) (first index id : ℕ) (name : Name) (at : ℕ × ℕ) : Type 0 where
  target : IsPositionOfName t.pairs first name index id
  branch : target.stands.slot.struct ≡ Branch at

module _ (t : KeptThread) (from to : Path) (source : RenameSource) (slot : SlotPosition) (gone : ℕ) (name : Name) (can : CanMoveOntoDirectory t from to source slot gone name) where
  abbrev shift : CanMoveEntry t from to source name
  shift = can.can

  standing : IsPairOf t.pairs shift.first slot.pair
  standing = record { pair = can.target.pair; rest = can.target.rest; place = can.target.place }

  path_here : source.slot.pair ≡ slot.pair → to ≡ shift.old.path ++ name ∷ []
  path_here = target_path t from to source slot name shift standing

  directory_here : source.slot.pair ≡ slot.pair → IsDirectoryAt t shift.old.first source.slot.pair slot.id name can.at
  directory_here e =
      subst (λ i. IsDirectoryAt t shift.old.first i slot.id name can.at) (sym e)
      (subst (λ f. IsDirectoryAt t f slot.pair slot.id name can.at) (one_place t from to source slot name shift standing e) (record { target = can.target; branch = can.branch }))

  pub over_within : source.slot.pair ≡ slot.pair → CanRenameOverDirectory t source.slot.pair source.slot.id slot.id name gone
  over_within e =
      let there = directory_here e in
      record {
        over = record {
          can = shift.old;
          target = there.target;
          to = can.at;
          branch = there.branch;
          differs = other_name t from to source slot name shift standing e;
          fits = shift.fits;
        };
        below = can.below;
        at = can.there;
        empty = can.empty;
        alone = can.alone;
      }

  pub over_survives_within : (new : KeptThread) → source.slot.pair ≡ slot.pair → ((rename : CanRenameOverDirectory t source.slot.pair source.slot.id slot.id name gone) → PowerLossLeavesEither t new (tree_with_entry_renamed t rename.over.can.path rename.over.can.name name))
      → PowerLossLeavesEither t new (tree_renaming from to (disk_tree t.disk t.pairs))
  unfolding over_within
  over_survives_within new e gives = survives_at t new from to _ _ shift.old_is (path_here e) (gives (over_within e))

  pub over_done_within : (new : KeptThread) → source.slot.pair ≡ slot.pair → WritesChangedPairsOrFree t (address_blocks (thread_pair t source.slot.pair).at) new
      → ((rename : CanRenameOverDirectory t source.slot.pair source.slot.id slot.id name gone) → IsRenamedOverDirectory t new rename.over.can.path rename.over.can.name name) → HasMovedEntry t from to new
  unfolding over_within
  over_done_within new e alters gives =
      let is : IsRenamedOverDirectory t new shift.old.path shift.old.name name = gives (over_within e) in
      record {
        ready = none_gone new is.now.ready;
        flying = is.now.flying;
        root = is.now.root;
        completed = λ s given to_given tree f k. is.completed s given to_given tree (f ∙ shift.old_is) (k ∙ path_here e);
        alone = spares_one t new from to source name shift alters;
      }

  pub over_writes_within : (new : KeptThread) → ChangesThreadBlocks (addresses_blocks (thread_pair t source.slot.pair).at (thread_pair t (gone - 1)).at) t new → WritesThreadAndFree t new
  over_writes_within new w = record {
    blocks = addresses_blocks (thread_pair t source.slot.pair).at (thread_pair t (gone - 1)).at;
    writes = w;
    each = among_two t source.slot.pair (gone - 1) [] (behind_below t.pairs shift.old.first source.slot.pair shift.old.stands.pair shift.old.stands.rest shift.old.stands.place) (let b = can.below in omega (arith, b)) tt;
  }

  -- ---- in another pair

  pub over_apart : source.slot.pair ≢ slot.pair → CanReplaceDirectoryBetweenPairs t (route_to source slot) name gone
  over_apart ne = record {
    onto = record {
      old = shift.old;
      begins_old = shift.old_first;
      path = shift.above;
      at = shift.on.at;
      leads = shift.on.leads;
      to_first = shift.first;
      begins = shift.on.begins;
      gone = _;
      target = record { there = can.target; file = λ e. absurd (let wrong : true ≡ false = e in cc); blocks = refl };
      logged = shift.logged _;
      apart = ne;
      not_beneath = ap₂ without_prefix (sym shift.old_is) (sym shift.is) ∙ shift.not_beneath;
      fits = shift.fits;
    };
    to = can.at;
    branch = can.branch;
    below = can.below;
    alike = can.there;
    empty = can.empty;
    alone = can.alone;
  }

  pub over_survives_apart : (new : KeptThread) → source.slot.pair ≢ slot.pair → ((rename : CanReplaceDirectoryBetweenPairs t (route_to source slot) name gone) → PowerLossLeavesEither t new (tree_with_entry_moved t rename.onto.old.path rename.onto.old.name rename.onto.path name))
      → PowerLossLeavesEither t new (tree_renaming from to (disk_tree t.disk t.pairs))
  unfolding over_apart
  over_survives_apart new ne gives = survives_at t new from to _ _ shift.old_is shift.is (gives (over_apart ne))

  pub over_done_apart : (new : KeptThread) → source.slot.pair ≢ slot.pair → WritesChangedPairsOrFree t (route_blocks true t (route_to source slot)) new
      → ((rename : CanReplaceDirectoryBetweenPairs t (route_to source slot) name gone) → IsRenamedBetweenPairs t new rename.onto.old.path rename.onto.old.name rename.onto.path name []) → HasMovedEntry t from to new
  unfolding over_apart
  over_done_apart new ne alters gives =
      let is : IsRenamedBetweenPairs t new shift.old.path shift.old.name shift.above name [] = gives (over_apart ne) in
      record {
        ready = none_gone new is.now.ready;
        flying = is.now.flying;
        root = is.now.root;
        completed = λ s given to_given tree f k. is.completed s given to_given tree (f ∙ shift.old_is) (k ∙ shift.is);
        alone = spares_two t new from to source name shift slot can.target alters;
      }

-- ---- errors

pub reported_over : {X : Type 0} (old new : ThreadView) (r : Result X Error) → ReportsReadCommits old new r → WorksOrReportsIo old new r
reported_over {X} old new r t = record { works = works r t.failed; errors = t.errors; fault = t.fault; no_fault = t.no_fault }
  where
    works : (r : Result X Error) → (new.failed ≡ is_err r) ⊎ ((new.failed ≡ false) × OnlyReadsThread old.kept new.kept) → OnOk r (new.failed ≡ false)
    works (Ok x) (inl h) = h
    works (Ok x) (inr h) = h.0
    works (Err e) h = tt
