-- A rename within one pair as a step of the thread, whatever is replaced by whatever.
use Rattle.lfs_operations.proofs.Common.{ℕ, ◌≡◌, ◌≤◌, ◌+◌, List, [], ◌∷◌, ◌++◌, sym, ap, subst, ◌∙◌, arith, tree_renaming, ContentChange, Disk, CallEvent, Name, SurvivesLossSince, Session, Slot, path_or_root, Pair, Path, disk_tree, used_blocks, IsChangedImage, IsCommit, CompletesOperation, renamed_addresses, Site, thread_at, file_blocks, CleanLossLeaves, KeptThread, occurrence_count, LeftByCommitOrSplit, AreCommittedOrSplit, HasTreeBeforeMapUpdate, CompletesRename, tree_with_entry_renamed, PairContent, CanEditIn, Option, target_slots, Bool, CanCommitOrSplit, CanRenameInPair, renaming_changes}
use Rattle.lfs_model.specs.session.Operations as ops
use Rattle.lfs_operations.proofs.RenamePlaced.{splicing}
use Rattle.lfs_operations.proofs.Splicing.{IsSplicing}
use Rattle.lfs_operations.proofs.Stepped.{HasStep, becomes, put_step, survives}
use Rattle.lfs_operations.proofs.RenameTarget.{IsMoving, filled}

-- Each commit that replaces these slots is the rename.
pub record Renames (t : KeptThread) (w : Site) (p : Pair) (path : Path) (from to : Name) (l olds news r : List Slot) : Type 0 where
  pub follows : (disk : Disk) (q : Pair) (more : List Pair) → IsCommit t.disk disk w p q more [] l olds news r
      → IsChangedImage t.disk (thread_at w (p ∷ [])) disk (thread_at w (q ∷ more)) (tree_renaming (path ++ from ∷ []) (path ++ to ∷ [])) (renamed_addresses (path ++ from ∷ []) (path ++ to ∷ []))
  pub completed : (disk : Disk) (q : Pair) (more : List Pair) → IsCommit t.disk disk w p q more [] l olds news r → (s : Session) (given to_given : List ℕ) → s.tree ≡ disk_tree t.disk (thread_at w (p ∷ []))
      → path_or_root given ≡ path ++ from ∷ [] → path_or_root to_given ≡ path ++ to ∷ [] → CompletesOperation t.disk (thread_at w (p ∷ [])) s (ops.Rename given to_given) disk (thread_at w (q ∷ more))

module _ {t : KeptThread} {index id place : ℕ} {can : CanEditIn t index id} {w : Site} {p : Pair} {target : Option Slot} {name : Name} {changes : List ContentChange}
    (m : IsMoving t index id place can w p target name changes p.content.move (Renames t w p can.path can.name name)) where
  abbrev from : Path
  from = can.path ++ can.name ∷ []

  abbrev to : Path
  to = can.path ++ name ∷ []

  spliced : IsSplicing t index changes w p m.l m.olds m.news m.r (file_blocks t.disk (target_slots target)) []
  spliced = splicing t index changes w p m.l m.olds m.news m.r (target_slots target) _ _ m.placed (ap (λ (z : PairContent). z.move) m.is_content)

  stepped : (new : KeptThread) → AreCommittedOrSplit t index changes new → HasStep t w p m.l m.olds m.news m.r (file_blocks t.disk (target_slots target)) [] new
  stepped new is = put_step t index changes w p m.l m.olds m.news m.r (file_blocks t.disk (target_slots target)) [] spliced new is

  pub moved_becomes : (new : KeptThread) → AreCommittedOrSplit t index changes new → HasTreeBeforeMapUpdate t new (tree_with_entry_renamed t can.path can.name name) (file_blocks t.disk (target_slots target)) []
  moved_becomes new is = becomes t index changes w p m.l m.olds m.news m.r (file_blocks t.disk (target_slots target)) [] spliced (tree_renaming from to)
      (λ disk q more c. (renamed_addresses from to, m.follows.follows disk q more c.commit)) (λ e. filled m) new (stepped new is)

  pub moved_once : (new : KeptThread) → AreCommittedOrSplit t index changes new → (b : ℕ) → occurrence_count b (used_blocks new.disk new.pairs) + occurrence_count b (file_blocks t.disk (target_slots target)) ≤ 1
  moved_once new is b =
      let x = stepped new is in
      let e = x.used.same b in
      let o = x.once b in
      omega arith

  pub moved_completed : (new : KeptThread) → AreCommittedOrSplit t index changes new → CompletesRename t new can.path can.name name
  moved_completed new is s given to_given tree given_is to_is =
      let x = stepped new is in
      subst (λ y. CompletesOperation t.disk y s (ops.Rename given to_given) new.disk new.pairs) (sym m.placed.there)
      (subst (λ y. CompletesOperation t.disk (thread_at w (p ∷ [])) s (ops.Rename given to_given) new.disk y) (sym x.pairs)
      (m.follows.completed new.disk x.q x.more x.commit.commit s given to_given (tree ∙ ap (disk_tree t.disk) m.placed.there) given_is to_is))

  pub moved_survives : (new : List CallEvent) → CleanLossLeaves t.history new (LeftByCommitOrSplit t index changes) → SurvivesLossSince t.disk t.history new (disk_tree t.disk t.pairs) (tree_with_entry_renamed t can.path can.name name)
  moved_survives new stops = survives t index changes w p m.l m.olds m.news m.r (file_blocks t.disk (target_slots target)) [] spliced (tree_renaming from to)
      (λ disk q more c. (renamed_addresses from to, m.follows.follows disk q more c.commit)) (λ e. filled m) new stops

-- The slots that a rename within a pair replaces, and its effect, to a new name and over a file.
pub record HasMoves (replaces : Bool) (t : KeptThread) (index id place : ℕ) (name : Name) (rename : CanRenameInPair replaces t index id place name) : Type 1 where
  pub w : Site
  pub p : Pair
  pub target : Option Slot
  pub can_put : CanCommitOrSplit t index (renaming_changes replaces t index id place name)
  pub moves : IsMoving t index id place rename.can w p target name (renaming_changes replaces t index id place name) p.content.move (Renames t w p rename.can.path rename.can.name name)
  pub blocks : file_blocks t.disk (target_slots target) ≡ rename.gone
