-- The creation of a file, as a step of the thread.
use Rattle.lfs_operations.proofs.Common.{ℕ, ◌≡◌, ◌≤◌, List, [], ◌∷◌, ◌++◌, length, refl, sym, ap, ap₂, subst, ◌∙◌, arith, length-append, insert, ne_eqb, tree_creating, file_name_type, Disk, CallEvent, IsInsertionPosition, IsNameOrStruct, Name, SurvivesLossSince, Slot, path_or_root, Pair, pairs_blocks, Session, Tree, FileNode, IsAccepted, all_entries, disk_tree, IsChangedImage, CompletesOperation, no_move_from, recovered_from, commit_step, does_nothing, nothing_there, place_at, insert_here, IsPlace, some_filled, site, place_of_belongs, Site, thread_at, tag_type-make_tag, tag_length-make_tag, CleanLossLeaves, KeptThread, Contains, file_comes, create_completed, IsPairChangedOrDropped, CanCommitOrSplit, LeftByCommitOrSplit, AreCommittedOrSplit, CanCreateIn, IsFileCreated, creation_changes, tree_with_file}
use Rattle.lfs_model.specs.format.EntryTypes.{inline_struct_type}
use Rattle.lfs_model.specs.session.Operations as ops
use Rattle.lfs_model.specs.session.Operations.{FlagsOfOpen}
use Rattle.lfs_model.specs.session.SlotEdits.{file_slot}
use Rattle.lfs_operations.proofs.Altered.{commit_alters}
use Rattle.lfs_operations.proofs.Held.{below, fits_there, here, holds}
use Rattle.lfs_operations.proofs.Splicing.{Commits, IsSplicing}
use Rattle.lfs_operations.proofs.Threads.{pair_is}
use Rattle.lfs_operations.proofs.Stepped.{HasStep, becomes, put_step, ready_again, survives}
use Rattle.lfs_model.proofs.SlotParts.{name_length}
use Rattle.lfs_operations.proofs.PairAt.{HasPairAt, pair_at}
use Rattle.lfs_operations.proofs.MakingContents.{IsNewEntry, can_put_entry, entry_made}

-- ---- the parts of a file's slot

file_name : (name : Name) → length name ≤ 255 → IsNameOrStruct 0 (file_name_type, name)
file_name name short = record {
  of_class = refl;
  short = omega arith;
  in_table =
      let kind = tag_type-make_tag file_name_type 0 (length name) (omega arith) (omega arith) (omega arith) in
      let len = tag_length-make_tag file_name_type 0 (length name) (omega arith) in
      rw len (rw kind (rw (ne_eqb (length name) 0x3ff (λ e. omega arith)) refl));
}

no_bytes : IsNameOrStruct 2 (inline_struct_type, [])
no_bytes = record { of_class = refl; short = omega arith; in_table = refl }

module _ (t : KeptThread) (index id : ℕ) (name : Name) (can : CanCreateIn t index id name) where
  abbrev b : IsInsertionPosition t.disk.order t.pairs can.first name index id
  b = can.belongs

  abbrev p : Pair
  p = b.pair

  abbrev u : Slot
  u = file_slot name

  abbrev w : Site
  w = site t.disk t.pairs can.path can.at can.ready.accepted can.leads can.first index p (b.later ++ b.rest) b.place can.begins

  stand : HasPairAt t index can.path can.at w p
  stand = pair_at t can.ready can.path can.at can.leads can.first index p (b.later ++ b.rest) b.place can.begins

  -- ---- what the changes make

  within : id ≤ length p.content.slots
  within = let h = ap length b.held in let l = length-append b.left b.right in let n = b.number in omega arith

  new_entry : IsNewEntry t p id file_name_type name inline_struct_type [] u [] p.content.move
  new_entry = record {
    named = file_name name (name_length name can.is_name);
    part = no_bytes;
    slot = refl;
    within = within;
    fits = fits_there t can.ready can.first index p (b.later ++ b.rest) b.place;
    small = let f = can.fits.charge in omega arith;
    delta = λ m. m;
    does = does_nothing;
    state = refl;
  }

  pub can_put : CanCommitOrSplit t index (creation_changes id name)
  can_put = can_put_entry t index p (here t can.ready can.first index p (b.later ++ b.rest) b.place) (holds t can.ready can.first index p (b.later ++ b.rest) b.place) can.logged new_entry
      (below t can.ready can.first index p (b.later ++ b.rest) b.place)

  -- ---- after it

  slots_now : insert p.content.slots id u ≡ b.left ++ (u ∷ [] ++ b.right)
  slots_now = ap₂ (λ (z : List Slot) (i : ℕ). insert z i u) b.held (sym b.number) ∙ insert_here b.left b.right u

  splicing : IsSplicing t index (creation_changes id name) w p b.left [] (u ∷ []) b.right [] []
  splicing = record {
    ready = can.ready;
    there = stand.there;
    place = stand.number;
    site = stand.site;
    content = record { slots = insert p.content.slots id (file_slot name); tail = p.content.tail; move = p.content.move };
    made = entry_made t index p (here t can.ready can.first index p (b.later ++ b.rest) b.place) (holds t can.ready can.first index p (b.later ++ b.rest) b.place) can.logged new_entry;
    tail = refl;
    move = refl;
    was = b.held;
    now = slots_now;
    front = λ e. b.fronted;
    entries = (record { name = can.is_name; struct = tt }, tt);
    fit = (((λ e. absurd (cc)), (λ e. can.fits)), tt);
    flying = tt;
    apart = can.ready.accepted.owned_once;
    lists = λ disk geometry files come. (tt, tt);
    blocks = λ disk geometry files come n. refl;
  }

  place : IsPlace t.disk.order (all_entries t.pairs can.at) (place_at w b.left) name
  place = place_of_belongs t.disk t.pairs can.path can.at can.ready.accepted can.leads can.first index id name (no_move_from t.pairs can.ready.settled) b can.begins

  place_there : IsPlace t.disk.order (all_entries (thread_at w (p ∷ [])) can.at) (place_at w b.left) name
  place_there = subst (λ z. IsPlace t.disk.order (all_entries z can.at) (place_at w b.left) name) stand.there place

  follows : (disk : Disk) (q : Pair) (more : List Pair) → Commits t w p b.left [] (u ∷ []) b.right [] disk q more
      → IsChangedImage t.disk (thread_at w (p ∷ [])) disk (thread_at w (q ∷ more)) (tree_creating (can.path ++ name ∷ []) (FileNode [] [])) (λ d. d)
  follows disk q more commit = file_comes t.disk disk w p [] q more (pairs_blocks more) [] b.left b.right u (commit_step t.disk disk w p q more [] b.left [] (u ∷ []) b.right commit.commit) can.path can.at
      stand.leads stand.begin place_there [] refl (λ e. (recovered_from t.disk (thread_at w (p ∷ [])) commit.commit.accepted commit.commit.settled).reached)

  pub created : (new : KeptThread) → AreCommittedOrSplit t index (creation_changes id name) new → IsFileCreated t new can.path name
  created new is = go (put_step t index (creation_changes id name) w p b.left [] (u ∷ []) b.right [] [] splicing new is)
    where
      go : HasStep t w p b.left [] (u ∷ []) b.right [] [] new → IsFileCreated t new can.path name
      go s =
          let done = λ (z : Session) (given : List ℕ) (flags : FlagsOfOpen) (tree : z.tree ≡ disk_tree t.disk t.pairs) (is_path : path_or_root given ≡ can.path ++ name ∷ []).
          create_completed t.disk new.disk w p s.q s.more b.left b.right name s.commit.commit can.path can.at stand.leads stand.begin place_there z given flags (tree ∙ ap (disk_tree t.disk) stand.there) is_path
          (ap₂ (λ (f : Tree) x. f x) tree is_path ∙ (nothing_there t.disk t.pairs can.path can.at (place_at w b.left) name can.leads place).1) in
          record {
            now = ready_again t new (tree_with_file t can.path name) (becomes t index (creation_changes id name) w p b.left [] (u ∷ []) b.right [] [] splicing (tree_creating (can.path ++ name ∷ []) (FileNode [] []))
                (λ disk q more commit. ((λ d. d), follows disk q more commit)) (λ e. some_filled b.left b.right u) new s);
            completed = λ z given flags tree is_path. subst (λ x. CompletesOperation t.disk x z (ops.Open given flags) new.disk new.pairs) (sym stand.there)
                (subst (λ x. CompletesOperation t.disk (thread_at w (p ∷ [])) z (ops.Open given flags) new.disk x) (sym s.pairs) (done z given flags tree is_path));
          }

  -- the pair has one slot more, or is split
  pub alters : (new : KeptThread) → AreCommittedOrSplit t index (creation_changes id name) new → IsPairChangedOrDropped t index new
  alters new is has = go (put_step t index (creation_changes id name) w p b.left [] (u ∷ []) b.right [] [] splicing new is)
    where
      go : HasStep t w p b.left [] (u ∷ []) b.right [] [] new → ⊥
      go s = commit_alters t.disk new.disk w p s.q [] b.left [] (u ∷ []) b.right (λ e. absurd (omega arith)) s.more
          (subst (IsAccepted new.disk) s.pairs (created new is).now.ready.accepted) s.commit.commit
          (subst (λ z. Contains z p) s.pairs (subst (Contains new.pairs) (pair_is t index w p splicing.there splicing.place) has))

  pub create_survives : (new : List CallEvent) → CleanLossLeaves t.history new (LeftByCommitOrSplit t index (creation_changes id name)) → SurvivesLossSince t.disk t.history new (disk_tree t.disk t.pairs) (tree_with_file t can.path name)
  create_survives new stops = survives t index (creation_changes id name) w p b.left [] (u ∷ []) b.right [] [] splicing (tree_creating (can.path ++ name ∷ []) (FileNode [] []))
      (λ disk q more commit. ((λ d. d), follows disk q more commit)) (λ e. some_filled b.left b.right u) new stops
