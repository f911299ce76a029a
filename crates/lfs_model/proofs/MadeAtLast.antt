-- A directory is made whose entry comes into the last pair of its parent: its pair is threaded behind that one, with the sync bit set,
-- and then the entry comes.
use Rattle.std.proofs.Common.{ℕ, ◌≡◌, true, List, [], ◌∷◌, ◌++◌, refl, sym, ap, subst, ◌∙◌, append_assoc, subst₂}
use Rattle.lfs_model.proofs.Common.{append-nil, Disk, Name, Slot, zero_gstate, same_pair, FitsInPair, Pair, first_address, pairs_gstate, Path, DirectoryNode, IsWritable, IsDirectoryAtPath, all_entries, disk_tree, tree_creating, Session, path_or_root, pair_with_slots, directory_slot, IsFittingPair}
use Rattle.lfs_model.specs.session.Operations as ops
use Rattle.lfs_model.proofs.Names.{IsPlace}
use Rattle.lfs_model.proofs.Sites.{Site, thread_at, begin_of}
use Rattle.lfs_model.proofs.Moves.{IsStep, place_at}
use Rattle.lfs_model.proofs.Beside.{last_site, IsStepBeside, threaded}
use Rattle.lfs_model.proofs.Alike.{SameSlots, alike_itself}
use Rattle.lfs_model.proofs.Committed.{CompletesOperation, recovered_from}
use Rattle.lfs_model.proofs.Became.{Became}
use Rattle.lfs_model.proofs.Profiles.{step_writable}
use Rattle.lfs_model.proofs.Chained.{InTwo, mkdir_in_two}
use Rattle.lfs_model.proofs.StepsTaken.{IsWritableChange, IsPut, IsPutBeside, beside_taken, put_within, put_filled}
use Rattle.lfs_model.proofs.MadeDirectory.{Cut, IsMkdir, mkdir_completed, none_there}

-- the same site with the fresh pair's directory behind it
abbrev pub ahead_of : List Pair → List Pair → List Pair → Pair → List Pair → Site
ahead_of chain before left f after = record { chain = chain; before = before; left = left; right = []; after = f ∷ after }

module _ (disk middle new : Disk) (chain before left after : List Pair) (x y f : Pair) (extra : List ℕ) (l0 r0 : List Slot) (q : Pair) (more : List Pair) (extra2 : List ℕ) (l r : List Slot) (P : Path) (name : Name)
    (step : IsStepBeside disk middle chain before left after x [] y [] f extra [] l0 [] [] r0)
    (put : IsPutBeside disk (last_site chain before left after) x y [] f l0 [] [] r0)
    (step2 : IsStep middle new (ahead_of chain before left f after) y [] q more extra2 [] l [] (directory_slot name f.at ∷ []) r)
    (put2 : IsPut middle (ahead_of chain before left f after) y q more l [] (directory_slot name f.at ∷ []) r)
    (a : ℕ × ℕ) (leads : IsDirectoryAtPath (thread_at (last_site chain before left after) (x ∷ [])) P a)
    (same : same_pair (begin_of (last_site chain before left after) (x ∷ [])) a ≡ true)
    (place : IsPlace middle.order (all_entries (thread_at (ahead_of chain before left f after) (y ∷ [])) a) (place_at (ahead_of chain before left f after) l) name)
    (sync : (pairs_gstate (thread_at (last_site chain before left after) (y ∷ ([] ++ f ∷ [])))).sync ≡ true)
    (settled : pairs_gstate (thread_at (last_site chain before left after) (x ∷ [])) ≡ zero_gstate)
    (still : pairs_gstate (thread_at (ahead_of chain before left f after) (q ∷ more)) ≡ zero_gstate) where
  abbrev there : Site
  there = ahead_of chain before left f after

  first : IsWritableChange disk (thread_at (last_site chain before left after) (x ∷ [])) middle (thread_at (last_site chain before left after) (y ∷ ([] ++ f ∷ []))) (λ t. t) (λ d. d)
  first = beside_taken disk middle chain before left after x y [] f l0 [] [] r0 put extra [] (λ t. t) (λ d. d) step P a leads same
      (threaded disk middle chain before left after x [] y [] f extra l0 r0 step P a leads same sync)

  leads2 : IsDirectoryAtPath (thread_at (ahead_of chain before left f after) (y ∷ [])) P a
  leads2 = ap (λ d. d P) first.follows.leads ∙ leads

  same2 : same_pair (begin_of (ahead_of chain before left f after) (y ∷ [])) a ≡ true
  same2 = ap (λ z. same_pair z a) (go left) ∙ same
    where
      go : (xs : List Pair) → first_address (xs ++ y ∷ []) ≡ first_address (xs ++ x ∷ [])
      go [] = step.shape.at
      go (z ∷ xs) = refl

  both : InTwo disk (thread_at (last_site chain before left after) (x ∷ [])) middle (thread_at (ahead_of chain before left f after) (y ∷ [])) new (thread_at (ahead_of chain before left f after) (q ∷ more)) (λ t. t) (tree_creating (P ++ name ∷ []) (DirectoryNode [] []))
  both = mkdir_in_two disk middle new chain before left after x [] y [] f extra l0 r0 step P a leads same sync
      (ahead_of chain before left f after) y q more extra2 l r (directory_slot name f.at) step2 refl P a leads2 same2 place refl
      (recovered_from disk (thread_at (last_site chain before left after) (x ∷ [])) step.accepted settled).reached

  second : IsWritable new (thread_at (ahead_of chain before left f after) (q ∷ more))
  second = step_writable middle new (ahead_of chain before left f after) y [] q more extra2 [] l [] (directory_slot name f.at ∷ []) r step2 put2.writable
      (put_within middle there y q more l [] (directory_slot name f.at ∷ []) r put2) (put_filled middle there y q more l [] (directory_slot name f.at ∷ []) r put2)

  parted : (zs : List Pair) → chain ++ ((before ++ left) ++ ((q ∷ more) ++ zs)) ≡ (chain ++ ((before ++ left) ++ (q ∷ more))) ++ zs
  parted zs = ap (λ z. chain ++ z) (sym (append_assoc (before ++ left) (q ∷ more) zs)) ∙ sym (append_assoc chain ((before ++ left) ++ (q ∷ more)) zs)

  -- x and y hold the same
  same_slots : y.content.slots ≡ x.content.slots
  same_slots = sym (append-nil y.content.slots) ∙ put.is ∙ sym put.was

  made : IsMkdir disk new (thread_at (ahead_of chain before left f after) (q ∷ more)) chain (before ++ left) after x q more (chain ++ ((before ++ left) ++ (q ∷ more))) after f l r P name
  made = record {
    is_chain = step.site.chain;
    accepted = step.accepted;
    writable = put.writable;
    settled = settled;
    still = still;
    walk = both.walk_on;
    follows = both.end;
    still_writable = second;
    absent = sym (ap (λ t. t (P ++ name ∷ [])) both.between.shows) ∙ none_there middle (thread_at there (y ∷ [])) P a (place_at there l) name leads2 place;
    was = sym same_slots ∙ put2.was;
    at = step2.shape.at ∙ step.shape.at;
    is = put2.is;
    cut = became_cut more put2.became;
    empty = put.empty;
    placed = parted (f ∷ after);
    alike = subst (SameSlots (chain ++ ((before ++ left) ++ ((q ∷ more) ++ after)))) (parted after) (alike_itself (chain ++ ((before ++ left) ++ ((q ∷ more) ++ after))));
  }
    where
      -- the tails don't matter, and the sizes are the same on both disks
      sized : (d : Pair) → IsFittingPair middle d → IsFittingPair disk d
      sized d h = subst₂ (λ b g. FitsInPair b g d.content) step.device.geometry.block_size step.device.geometry.page h

      resized : (slots : List Slot) → IsFittingPair disk (pair_with_slots slots x) → IsFittingPair middle (pair_with_slots slots y)
      resized slots h = subst₂ (λ b g. FitsInPair b g (pair_with_slots slots y).content) (sym step.device.geometry.block_size) (sym step.device.geometry.page) (record { size = h.size; count = h.count })

      became_cut : (more : List Pair) → Became middle y (pair_with_slots (l ++ (directory_slot name f.at ∷ [] ++ r)) y) q more → Cut disk (pair_with_slots (l ++ directory_slot name f.at ∷ r) x) q more
      became_cut [] h = (let k = sized (pair_with_slots (l ++ directory_slot name f.at ∷ r) y) h.1 in record { size = k.size; count = k.count })
      became_cut (g ∷ []) h = ((λ k. h.2 (resized (l ++ directory_slot name f.at ∷ r) k)), sized q h.3, sized g h.4)
      became_cut (g ∷ i ∷ more) h = absurd h

  pub mkdir_at_last_completed : (s : Session) (path : List ℕ) → s.tree ≡ disk_tree disk (thread_at (last_site chain before left after) (x ∷ [])) → path_or_root path ≡ P ++ name ∷ []
      → CompletesOperation disk (thread_at (last_site chain before left after) (x ∷ [])) s (ops.Mkdir path) new (thread_at (ahead_of chain before left f after) (q ∷ more))
  mkdir_at_last_completed s path tree is =
      mkdir_completed disk new (thread_at (ahead_of chain before left f after) (q ∷ more)) chain (before ++ left) after x q more (chain ++ ((before ++ left) ++ (q ∷ more))) after f l r P name made s path tree is
