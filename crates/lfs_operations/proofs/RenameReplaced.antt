-- A rename within one pair over an entry: which slots are replaced, and the result if that entry is a file.
use Rattle.lfs_operations.proofs.Common.{ℕ, ◌≡◌, true, List, [], ◌∷◌, ◌++◌, sym, ap, subst, ◌∙◌, append_assoc, append-nil, tree_renaming, Disk, CallEvent, HasName, Name, SurvivesLossSince, Slot, Pair, pairs_blocks, struct_blocks, disk_tree, IsChangedImage, IsCommit, commit_step, recovered_from, renamed_addresses, Site, thread_at, CleanLossLeaves, KeptThread, LeftByCommitOrSplit, AreCommittedOrSplit, CanEditIn, tree_with_entry_renamed, ◌≢◌, false, Some, None, ContentChange, IsPositionOfName, Session, path_or_root, Gstate, Path, pairs_gstate, struct_directory_address, IsStep, IsWritableEntry, AllReached, CompletesOperation, renaming_changes, Bool, CanRenameInPair, IsRenamedInPair, refl}
use Rattle.lfs_operations.proofs.RenameWithin.{moves_within}
use Rattle.lfs_model.proofs.RenameOntoFile.{onto_file_ahead_completed, onto_file_behind_completed}
use Rattle.lfs_operations.proofs.Held.{here}
use Rattle.lfs_operations.proofs.RenameMade as made
use Rattle.lfs_operations.proofs.RenameMade.{Leaves, leaves_all, logged_of, name_at, site_of, stand_of}
use Rattle.lfs_model.proofs.OntoTrees.{onto_ahead_follows, onto_behind_follows}
use Rattle.lfs_operations.proofs.RenamePlaced.{with_name}
use Rattle.lfs_operations.proofs.RenameStepped.{HasMoves, moved_becomes, moved_completed, moved_once, moved_survives, Renames}
use Rattle.lfs_operations.proofs.RenameTarget.{IsMoving, IsPlaceInPair, can_put_over, moved_changes, moving}
use Rattle.lfs_operations.proofs.PairAt.{HasPairAt}
use Rattle.lfs_model.specs.session.Operations as ops

-- the premises of a rename onto an entry of the same pair and directory
module _ (t : KeptThread) (index id place : ℕ) (name : Name) (can : CanEditIn t index id) (to : IsPositionOfName t.pairs can.first name index place) (apart : name ≢ can.name)
    (fits : IsWritableEntry t.disk.profile t.disk.block_size t.disk.page (record can.stands.stands.slot { name = name })) where
  abbrev s : HasName can.stands.pair.content.slots can.name id
  s = can.stands.stands

  abbrev g : HasName to.pair.content.slots name place
  g = to.stands

  abbrev pub p : Pair
  p = can.stands.pair

  abbrev v : Slot
  v = with_name s.slot name

  abbrev pub w : Site
  w = site_of can

  stand : HasPairAt t index can.path can.at w p
  stand = stand_of can

  -- both stand in the same pair
  pub target_held : can.stands.pair.content.slots ≡ g.left ++ g.slot ∷ g.right
  target_held = ap (λ (z : Pair). z.content.slots) (sym (here t can.ready can.first index p can.stands.rest can.stands.place) ∙ here t can.ready can.first index to.pair to.rest to.place) ∙ g.held

  differs : g.slot.name ≡ s.slot.name → ⊥
  differs e = apart (sym g.named ∙ e ∙ s.named)

  pub placed : IsPlaceInPair t index id place can w can.stands.pair g.left (Some g.slot) g.right name
  placed = record {
    logged = logged_of can;
    stand = stand;
    held = s.held;
    was = target_held;
    number = g.number;
    front = g.entry;
    apart = ((λ e. differs (ap (λ (z : Slot). z.name) e)), tt);
    named = name_at can.ready to;
    fits = fits;
  }

  -- ---- the tree

  abbrev pub FollowsAs : Disk → Pair → List Pair → Name → Name → Type 0
  FollowsAs disk q more n m = IsChangedImage t.disk (thread_at w (p ∷ [])) disk (thread_at w (q ∷ more)) (tree_renaming (can.path ++ n ∷ []) (can.path ++ m ∷ [])) (renamed_addresses (can.path ++ n ∷ []) (can.path ++ m ∷ []))

  -- Each step that replaces these slots is the rename, if it may leave the other entry's struct. Each commit completes it, if that
  -- is a file.
  pub record RenamesOnto (l olds news r : List Slot) : Type 0 where
    pub follows : (disk : Disk) (q : Pair) (more : List Pair) (extra : List ℕ) → IsStep t.disk disk w p [] q more extra [] l olds news r
        → ((pairs_gstate (thread_at w (q ∷ more))).sync ≡ false → (struct_directory_address g.slot.struct ≡ None) × AllReached (thread_at w (p ∷ []))) → FollowsAs disk q more can.name name
    pub completed : struct_directory_address g.slot.struct ≡ None → (disk : Disk) (q : Pair) (more : List Pair) → IsCommit t.disk disk w p q more [] l olds news r → (s : Session) (given to_given : List ℕ) → s.tree ≡ disk_tree t.disk (thread_at w (p ∷ []))
        → path_or_root given ≡ can.path ++ can.name ∷ [] → path_or_root to_given ≡ can.path ++ name ∷ [] → CompletesOperation t.disk (thread_at w (p ∷ [])) s (ops.Rename given to_given) disk (thread_at w (q ∷ more))

  other_names : (disk : Disk) (q : Pair) (more : List Pair) → FollowsAs disk q more s.slot.name g.slot.name → FollowsAs disk q more can.name name
  other_names disk q more h = subst (λ (n : Name). FollowsAs disk q more n name) s.named (subst (λ (n : Name). FollowsAs disk q more s.slot.name n) g.named h)

  is_from : {given : Path} → given ≡ can.path ++ can.name ∷ [] → given ≡ can.path ++ s.slot.name ∷ []
  is_from e = e ∙ ap (λ n. can.path ++ n ∷ []) (sym s.named)

  is_to : {given : Path} → given ≡ can.path ++ name ∷ [] → given ≡ can.path ++ g.slot.name ∷ []
  is_to e = e ∙ ap (λ n. can.path ++ n ∷ []) (sym g.named)

  behind : (passed : List Slot) → g.left ≡ s.left ++ s.slot ∷ passed → RenamesOnto s.left (s.slot ∷ (passed ++ g.slot ∷ [])) (passed ++ v ∷ []) g.right
  behind passed front = record {
    follows = λ disk q more extra k file. other_names disk q more (onto_behind_follows t.disk disk w p q more extra s.left s.slot passed g.slot g.right
        (subst (λ (n : Name). IsStep t.disk disk w p [] q more extra [] s.left (s.slot ∷ (passed ++ g.slot ∷ [])) (passed ++ with_name s.slot n ∷ []) g.right) (sym g.named) k) held s.entry g.entry file differs can.path can.at stand.leads stand.begin);
    completed = λ file disk q more k z given to_given tree given_is to_is. onto_file_behind_completed t.disk disk w p q more s.left s.slot passed g.slot g.right
        (subst (λ (n : Name). IsCommit t.disk disk w p q more [] s.left (s.slot ∷ (passed ++ g.slot ∷ [])) (passed ++ with_name s.slot n ∷ []) g.right) (sym g.named) k) s.entry g.entry file differs can.path can.at stand.leads stand.begin
        z given to_given tree (is_from given_is) (is_to to_is);
  }
    where
      held : p.content.slots ≡ s.left ++ ((s.slot ∷ (passed ++ g.slot ∷ [])) ++ g.right)
      held = target_held ∙ ap (λ z. z ++ g.slot ∷ g.right) front ∙ append_assoc s.left (s.slot ∷ passed) (g.slot ∷ g.right) ∙ ap (λ z. s.left ++ s.slot ∷ z) (sym (append_assoc passed (g.slot ∷ []) g.right))

  ahead : (passed : List Slot) → g.right ≡ passed ++ s.slot ∷ s.right → RenamesOnto g.left (g.slot ∷ (passed ++ s.slot ∷ [])) (v ∷ passed) s.right
  ahead passed back = record {
    follows = λ disk q more extra k file. other_names disk q more (onto_ahead_follows t.disk disk w p q more extra g.left s.slot passed g.slot s.right
        (subst (λ (n : Name). IsStep t.disk disk w p [] q more extra [] g.left (g.slot ∷ (passed ++ s.slot ∷ [])) (with_name s.slot n ∷ passed) s.right) (sym g.named) k) held s.entry g.entry file differs can.path can.at stand.leads stand.begin);
    completed = λ file disk q more k z given to_given tree given_is to_is. onto_file_ahead_completed t.disk disk w p q more g.left s.slot passed g.slot s.right
        (subst (λ (n : Name). IsCommit t.disk disk w p q more [] g.left (g.slot ∷ (passed ++ s.slot ∷ [])) (with_name s.slot n ∷ passed) s.right) (sym g.named) k) s.entry g.entry file differs can.path can.at stand.leads stand.begin
        z given to_given tree (is_from given_is) (is_to to_is);
  }
    where
      held : p.content.slots ≡ g.left ++ ((g.slot ∷ (passed ++ s.slot ∷ [])) ++ s.right)
      held = target_held ∙ ap (λ z. g.left ++ g.slot ∷ z) (back ∙ sym (append_assoc passed (s.slot ∷ []) s.right))

  -- with a delta or without
  pub moving_onto : {turn : List ContentChange} {move : Gstate} → Leaves (made.c placed.logged).raw turn can.stands.pair.content.slots move
      → IsMoving t index id place can w can.stands.pair (Some g.slot) name (moved_changes (Some g.slot) turn t index id place name) move RenamesOnto
  moving_onto whole = moving placed whole RenamesOnto behind ahead

  -- ---- onto a file

  module _ (file : struct_directory_address g.slot.struct ≡ None) where
    onto_file : (l olds news r : List Slot) → RenamesOnto l olds news r → Renames t w p can.path can.name name l olds news r
    onto_file l olds news r h = record {
      follows = λ disk q more k. h.follows disk q more (pairs_blocks more) (commit_step t.disk disk w p q more [] l olds news r k) (λ e. (file, (recovered_from t.disk (thread_at w (p ∷ [])) k.accepted k.settled).reached));
      completed = h.completed file;
    }

    pub moving_file : IsMoving t index id place can w can.stands.pair (Some g.slot) name (renaming_changes true t index id place name) can.stands.pair.content.move (Renames t w can.stands.pair can.path can.name name)
    moving_file = moving placed (leaves_all placed.logged) (Renames t w p can.path can.name name) (λ passed front. onto_file s.left (s.slot ∷ (passed ++ g.slot ∷ [])) (passed ++ v ∷ []) g.right (behind passed front))
        (λ passed back. onto_file g.left (g.slot ∷ (passed ++ s.slot ∷ [])) (v ∷ passed) s.right (ahead passed back))

moves_onto : (t : KeptThread) (index id place : ℕ) (name : Name) (rename : CanRenameInPair true t index id place name) → HasMoves true t index id place name rename
moves_onto t index id place name rename =
    let to = rename.target.there in
    let k = placed t index id place name rename.can to (rename.differs refl) rename.fits in
    let moves = moving_file t index id place name rename.can to (rename.differs refl) rename.fits (rename.target.file refl) in
    record {
      w = w t index id place name rename.can to (rename.differs refl) rename.fits;
      p = rename.can.stands.pair;
      target = Some to.stands.slot;
      can_put = can_put_over k (leaves_all k.logged) moves.x moves.y moves.over;
      moves = moves;
      blocks = append-nil (struct_blocks t.disk to.stands.slot.struct) ∙ rename.target.blocks;
    }

-- ---- to a new name, or onto a file

pub moves_here : (replaces : Bool) (t : KeptThread) (index id place : ℕ) (name : Name) (rename : CanRenameInPair replaces t index id place name) → HasMoves replaces t index id place name rename
moves_here false t index id place name rename = moves_within t index id place name rename
moves_here true t index id place name rename = moves_onto t index id place name rename

module _ (replaces : Bool) (t : KeptThread) (index id place : ℕ) (name : Name) (rename : CanRenameInPair replaces t index id place name) where
  pub renamed_here : (new : KeptThread) → AreCommittedOrSplit t index (renaming_changes replaces t index id place name) new → IsRenamedInPair t new rename.can.path rename.can.name name rename.gone
  renamed_here new is =
      let m = moves_here replaces t index id place name rename in
      subst (IsRenamedInPair t new rename.can.path rename.can.name name) m.blocks (record { now = moved_becomes m.moves new is; once = moved_once m.moves new is; completed = moved_completed m.moves new is })

  pub survives_here : (new : List CallEvent) → CleanLossLeaves t.history new (LeftByCommitOrSplit t index (renaming_changes replaces t index id place name))
      → SurvivesLossSince t.disk t.history new (disk_tree t.disk t.pairs) (tree_with_entry_renamed t rename.can.path rename.can.name name)
  survives_here new stops = moved_survives (moves_here replaces t index id place name rename).moves new stops
