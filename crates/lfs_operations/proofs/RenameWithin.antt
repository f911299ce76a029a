-- A rename within one pair to a name that is new.
use Rattle.lfs_operations.proofs.Common.{ℕ, ◌≡◌, List, [], ◌∷◌, ◌++◌, sym, ap, subst, ◌∙◌, append-nil, tree_renaming, IsInsertionPosition, HasName, Name, Slot, Pair, all_entries, IsChangedImage, no_move_from, place_at, IsPlace, renamed_addresses, place_of_belongs, site, Site, thread_at, KeptThread, CanEditIn, false, None, Path, Disk, IsCommit, renaming_changes, CanRenameInPair}
use Rattle.lfs_model.proofs.RenameSteps.{ahead_follows, behind_follows, renamed_ahead_completed, renamed_behind_completed}
use Rattle.lfs_operations.proofs.Held.{here}
use Rattle.lfs_operations.proofs.RenameMade.{leaves_all}
use Rattle.lfs_operations.proofs.RenamePlaced.{with_name}
use Rattle.lfs_operations.proofs.RenameStepped.{HasMoves, Renames}
use Rattle.lfs_operations.proofs.PairAt.{HasPairAt, pair_at}
use Rattle.lfs_operations.proofs.RenameTarget.{IsMoving, IsPlaceInPair, can_put_over, moving}

module _ (t : KeptThread) (index id place : ℕ) (name : Name) (rename : CanRenameInPair false t index id place name) where
  abbrev can : CanEditIn t index id
  can = rename.can

  abbrev b : IsInsertionPosition t.disk.order t.pairs can.first name index place
  b = rename.target.belongs

  abbrev p : Pair
  p = b.pair

  abbrev s : HasName can.stands.pair.content.slots can.name id
  s = can.stands.stands

  abbrev v : Slot
  v = with_name s.slot name

  abbrev w : Site
  w = site t.disk t.pairs can.path can.at can.ready.accepted can.leads can.first index p (b.later ++ b.rest) b.place can.begins

  stand : HasPairAt t index can.path can.at w p
  stand = pair_at t can.ready can.path can.at can.leads can.first index p (b.later ++ b.rest) b.place can.begins

  -- the old slot is in that pair
  pair_same : b.pair ≡ can.stands.pair
  pair_same = sym (here t can.ready can.first index b.pair (b.later ++ b.rest) b.place) ∙ here t can.ready can.first index can.stands.pair can.stands.rest can.stands.place

  placed : IsPlaceInPair t index id place can w p b.left None b.right name
  placed = record {
    logged = record { ready = can.ready; first = can.first; rest = b.later ++ b.rest; place = b.place; logged = can.logged };
    stand = stand;
    held = ap (λ (z : Pair). z.content.slots) pair_same ∙ s.held;
    was = b.held;
    number = b.number;
    front = b.fronted;
    apart = tt;
    named = rename.target.is_name;
    fits = rename.fits;
  }

  -- ---- the tree

  place_there : IsPlace t.disk.order (all_entries (thread_at w (p ∷ [])) can.at) (place_at w b.left) name
  place_there = subst (λ z. IsPlace t.disk.order (all_entries z can.at) (place_at w b.left) name) stand.there
      (place_of_belongs t.disk t.pairs can.path can.at can.ready.accepted can.leads can.first index place name (no_move_from t.pairs can.ready.settled) b can.begins)

  under_its_name : (disk : Disk) (q : Pair) (more : List Pair)
      → IsChangedImage t.disk (thread_at w (p ∷ [])) disk (thread_at w (q ∷ more)) (tree_renaming (can.path ++ s.slot.name ∷ []) (can.path ++ name ∷ [])) (renamed_addresses (can.path ++ s.slot.name ∷ []) (can.path ++ name ∷ []))
      → IsChangedImage t.disk (thread_at w (p ∷ [])) disk (thread_at w (q ∷ more)) (tree_renaming (can.path ++ can.name ∷ []) (can.path ++ name ∷ [])) (renamed_addresses (can.path ++ can.name ∷ []) (can.path ++ name ∷ []))
  under_its_name disk q more h = subst (λ (n : Name). IsChangedImage t.disk (thread_at w (p ∷ [])) disk (thread_at w (q ∷ more)) (tree_renaming (can.path ++ n ∷ []) (can.path ++ name ∷ [])) (renamed_addresses (can.path ++ n ∷ []) (can.path ++ name ∷ [])))
      s.named h

  is_named : {given : Path} → given ≡ can.path ++ can.name ∷ [] → given ≡ can.path ++ s.slot.name ∷ []
  is_named e = e ∙ ap (λ n. can.path ++ n ∷ []) (sym s.named)

  behind : (passed : List Slot) → b.left ≡ s.left ++ s.slot ∷ passed → Renames t w p can.path can.name name s.left (s.slot ∷ (passed ++ [])) (passed ++ v ∷ []) b.right
  behind passed front = record {
    follows = λ disk q more k. under_its_name disk q more (behind_follows t.disk disk w p q more s.left s.slot passed b.right name (none disk q more k) s.entry can.path can.at stand.leads stand.begin place_now);
    completed = λ disk q more k z given to_given tree given_is to_is.
        renamed_behind_completed t.disk disk w p q more s.left s.slot passed b.right name (none disk q more k) s.entry can.path can.at stand.leads stand.begin place_now z given to_given tree (is_named given_is) to_is;
  }
    where
      place_now : IsPlace t.disk.order (all_entries (thread_at w (p ∷ [])) can.at) (place_at w (s.left ++ s.slot ∷ passed)) name
      place_now = subst (λ z. IsPlace t.disk.order (all_entries (thread_at w (p ∷ [])) can.at) (place_at w z) name) front place_there

      none : (disk : Disk) (q : Pair) (more : List Pair) → IsCommit t.disk disk w p q more [] s.left (s.slot ∷ (passed ++ [])) (passed ++ v ∷ []) b.right → IsCommit t.disk disk w p q more [] s.left (s.slot ∷ passed) (passed ++ v ∷ []) b.right
      none disk q more k = subst (λ z. IsCommit t.disk disk w p q more [] s.left (s.slot ∷ z) (passed ++ v ∷ []) b.right) (append-nil passed) k

  ahead : (passed : List Slot) → b.right ≡ passed ++ s.slot ∷ s.right → Renames t w p can.path can.name name b.left (passed ++ s.slot ∷ []) (v ∷ passed) s.right
  ahead passed back = record {
    follows = λ disk q more k. under_its_name disk q more (ahead_follows t.disk disk w p q more b.left s.slot passed s.right name k s.entry can.path can.at stand.leads stand.begin place_there);
    completed = λ disk q more k z given to_given tree given_is to_is.
        renamed_ahead_completed t.disk disk w p q more b.left s.slot passed s.right name k s.entry can.path can.at stand.leads stand.begin place_there z given to_given tree (is_named given_is) to_is;
  }

  -- ---- the step

  moves : IsMoving t index id place can w p None name (renaming_changes false t index id place name) p.content.move (Renames t w p can.path can.name name)
  moves = moving placed (leaves_all placed.logged) (Renames t w p can.path can.name name) behind ahead

  pub moves_within : HasMoves false t index id place name rename
  moves_within = record { w = w; p = p; target = None; can_put = can_put_over placed (leaves_all placed.logged) moves.x moves.y moves.over; moves = moves; blocks = sym rename.target.none }
