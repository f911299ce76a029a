-- A directory is made by the steps themselves: one commit to the last pair of its parent, and one to the pair where the name belongs.
use Rattle.std.proofs.Common.{ℕ, ◌≡◌, true, List, [], ◌∷◌, ◌++◌, refl, sym, ap, subst, ◌∙◌, append_assoc, append-nil, subst₂}
use Rattle.lfs_model.proofs.Common.{Disk, Name, Slot, zero_gstate, same_pair, FitsInPair, Pair, first_address, pairs_gstate, count_before_root, Path, DirectoryNode, IsAccepted, IsWritable, IsDirectoryAtPath, all_entries, disk_tree, tree_creating, Session, path_or_root, pair_with_slots, directory_slot, IsFittingPair}
use Rattle.lfs_model.specs.session.Operations as ops
use Rattle.lfs_model.proofs.Names.{IsPlace}
use Rattle.lfs_model.proofs.Sites.{Site, thread_at, begin_of}
use Rattle.lfs_model.proofs.Moves.{IsStep, place_at}
use Rattle.lfs_model.proofs.Beside.{last_site, IsStepBeside, threaded}
use Rattle.lfs_model.proofs.Alike.{SameSlots, alike_itself, alike_append}
use Rattle.lfs_model.proofs.Committed.{CompletesOperation, recovered_from}
use Rattle.lfs_model.proofs.MadeDirectory.{Cut, IsMkdir, mkdir_completed, none_there}
use Rattle.lfs_model.proofs.Changes.{IsChangedImage}
use Rattle.lfs_model.proofs.Became.{Became}
use Rattle.lfs_model.proofs.Profiles.{step_writable}
use Rattle.lfs_model.proofs.Chained.{InTwo, mkdir_in_two}
use Rattle.lfs_model.proofs.StepsTaken.{IsWritableChange, IsPut, IsPutBeside, beside_taken, put_within, put_filled}

-- ---- in two: the fresh pair is threaded behind the last pair of the parent, with the sync bit set; then the entry comes into a pair in front of that

module _ (disk middle new : Disk) (chain before front mid after : List Pair) (x y f : Pair) (extra : List ℕ) (l0 r0 : List Slot) (p q : Pair) (more : List Pair) (extra2 : List ℕ) (l r : List Slot) (P : Path) (name : Name)
    (step : IsStepBeside disk middle chain before (front ++ p ∷ mid) after x [] y [] f extra [] l0 [] [] r0)
    (put : IsPutBeside disk (last_site chain before (front ++ p ∷ mid) after) x y [] f l0 [] [] r0)
    (step2 : IsStep middle new (record { chain = chain; before = before; left = front; right = mid ++ y ∷ []; after = f ∷ after }) p [] q more extra2 [] l [] (directory_slot name f.at ∷ []) r)
    (put2 : IsPut middle (record { chain = chain; before = before; left = front; right = mid ++ y ∷ []; after = f ∷ after }) p q more l [] (directory_slot name f.at ∷ []) r)
    (a : ℕ × ℕ) (leads : IsDirectoryAtPath (thread_at (last_site chain before (front ++ p ∷ mid) after) (x ∷ [])) P a)
    (same : same_pair (begin_of (last_site chain before (front ++ p ∷ mid) after) (x ∷ [])) a ≡ true)
    (place : IsPlace middle.order (all_entries (thread_at (record { chain = chain; before = before; left = front; right = mid ++ y ∷ []; after = f ∷ after }) (p ∷ [])) a)
    (place_at (record { chain = chain; before = before; left = front; right = mid ++ y ∷ []; after = f ∷ after }) l) name)
    (sync : (pairs_gstate (thread_at (last_site chain before (front ++ p ∷ mid) after) (y ∷ ([] ++ f ∷ [])))).sync ≡ true)
    (settled : pairs_gstate (thread_at (last_site chain before (front ++ p ∷ mid) after) (x ∷ [])) ≡ zero_gstate)
    (still : pairs_gstate (thread_at (record { chain = chain; before = before; left = front; right = mid ++ y ∷ []; after = f ∷ after }) (q ∷ more)) ≡ zero_gstate) where
  abbrev there : Site
  there = record { chain = chain; before = before; left = front; right = mid ++ y ∷ []; after = f ∷ after }

  abbrev rs : List Pair
  rs = thread_at there (q ∷ more)

  -- the thread with some pairs in place of p, and some after its directory
  turned : (us vs : List Pair) → (before ++ (front ++ (us ++ mid))) ++ vs ≡ (before ++ front) ++ (us ++ (mid ++ vs))
  turned us vs = append_assoc before (front ++ (us ++ mid)) vs ∙ ap (λ z. before ++ z) (append_assoc front (us ++ mid) vs ∙ ap (λ z. front ++ z) (append_assoc us mid vs)) ∙ sym (append_assoc before front (us ++ (mid ++ vs)))

  same_thread : thread_at (last_site chain before (front ++ p ∷ mid) after) (y ∷ ([] ++ f ∷ [])) ≡ thread_at (record { chain = chain; before = before; left = front; right = mid ++ y ∷ []; after = f ∷ after }) (p ∷ [])
  same_thread = ap (λ z. chain ++ z) (turned (p ∷ []) (y ∷ f ∷ after) ∙ ap (λ z. (before ++ front) ++ (p ∷ z)) (sym (append_assoc mid (y ∷ []) (f ∷ after))))

  first : IsWritableChange disk (thread_at (last_site chain before (front ++ p ∷ mid) after) (x ∷ [])) middle (thread_at (last_site chain before (front ++ p ∷ mid) after) (y ∷ ([] ++ f ∷ []))) (λ t. t) (λ d. d)
  first = beside_taken disk middle chain before (front ++ p ∷ mid) after x y [] f l0 [] [] r0 put extra [] (λ t. t) (λ d. d) step P a leads same
      (threaded disk middle chain before (front ++ p ∷ mid) after x [] y [] f extra l0 r0 step P a leads same sync)

  leads2 : IsDirectoryAtPath (thread_at (record { chain = chain; before = before; left = front; right = mid ++ y ∷ []; after = f ∷ after }) (p ∷ [])) P a
  leads2 = subst (λ z. IsDirectoryAtPath z P a) same_thread (ap (λ d. d P) first.follows.leads ∙ leads)

  same2 : same_pair (begin_of (record { chain = chain; before = before; left = front; right = mid ++ y ∷ []; after = f ∷ after }) (p ∷ [])) a ≡ true
  same2 = ap (λ z. same_pair z a) (go front) ∙ same
    where
      go : (xs : List Pair) → first_address (xs ++ p ∷ []) ≡ first_address ((xs ++ p ∷ mid) ++ x ∷ [])
      go [] = refl
      go (z ∷ xs) = refl

  both : InTwo disk (thread_at (last_site chain before (front ++ p ∷ mid) after) (x ∷ [])) middle (thread_at (record { chain = chain; before = before; left = front; right = mid ++ y ∷ []; after = f ∷ after }) (p ∷ []))
      new (thread_at (record { chain = chain; before = before; left = front; right = mid ++ y ∷ []; after = f ∷ after }) (q ∷ more)) (λ t. t) (tree_creating (P ++ name ∷ []) (DirectoryNode [] []))
  both = mkdir_in_two disk middle new chain before (front ++ p ∷ mid) after x [] y [] f extra l0 r0 step P a leads same sync
      (record { chain = chain; before = before; left = front; right = mid ++ y ∷ []; after = f ∷ after }) p q more extra2 l r (directory_slot name f.at) step2 same_thread P a leads2 same2 place refl
      (recovered_from disk (thread_at (last_site chain before (front ++ p ∷ mid) after) (x ∷ [])) step.accepted settled).reached

  second : IsWritable new (thread_at (record { chain = chain; before = before; left = front; right = mid ++ y ∷ []; after = f ∷ after }) (q ∷ more))
  second = step_writable middle new (record { chain = chain; before = before; left = front; right = mid ++ y ∷ []; after = f ∷ after }) p [] q more extra2 [] l [] (directory_slot name f.at ∷ []) r step2 put2.writable
      (put_within middle there p q more l [] (directory_slot name f.at ∷ []) r put2) (put_filled middle there p q more l [] (directory_slot name f.at ∷ []) r put2)

  -- where the pairs are before and after
  were : thread_at (last_site chain before (front ++ p ∷ mid) after) (x ∷ []) ≡ chain ++ ((before ++ front) ++ (p ∷ [] ++ (mid ++ x ∷ after)))
  were = ap (λ z. chain ++ z) (turned (p ∷ []) (x ∷ after))

  parted : (zs : List Pair) → chain ++ ((before ++ front) ++ ((q ∷ more) ++ ((mid ++ y ∷ []) ++ zs))) ≡ (chain ++ ((before ++ front) ++ ((q ∷ more) ++ (mid ++ y ∷ [])))) ++ zs
  parted zs = ap (λ z. chain ++ ((before ++ front) ++ z)) (sym (append_assoc (q ∷ more) (mid ++ y ∷ []) zs)) ∙ ap (λ z. chain ++ z) (sym (append_assoc (before ++ front) ((q ∷ more) ++ (mid ++ y ∷ [])) zs))
      ∙ sym (append_assoc chain ((before ++ front) ++ ((q ∷ more) ++ (mid ++ y ∷ []))) zs)

  -- x and y hold the same
  same_slots : y.content.slots ≡ x.content.slots
  same_slots = sym (append-nil y.content.slots) ∙ put.is ∙ sym put.was

  alike : SameSlots (chain ++ ((before ++ front) ++ ((q ∷ more) ++ (mid ++ x ∷ after)))) ((chain ++ ((before ++ front) ++ ((q ∷ more) ++ (mid ++ y ∷ [])))) ++ after)
  alike = subst (SameSlots (chain ++ ((before ++ front) ++ ((q ∷ more) ++ (mid ++ x ∷ after))))) (ap (λ z. chain ++ ((before ++ front) ++ ((q ∷ more) ++ z))) (sym (append_assoc mid (y ∷ []) after)) ∙ parted after)
      (alike_append chain ((before ++ front) ++ ((q ∷ more) ++ (mid ++ x ∷ after))) chain ((before ++ front) ++ ((q ∷ more) ++ (mid ++ y ∷ after))) (alike_itself chain)
      (alike_append (before ++ front) ((q ∷ more) ++ (mid ++ x ∷ after)) (before ++ front) ((q ∷ more) ++ (mid ++ y ∷ after)) (alike_itself (before ++ front))
      (alike_append (q ∷ more) (mid ++ x ∷ after) (q ∷ more) (mid ++ y ∷ after) (alike_itself (q ∷ more))
      (alike_append mid (x ∷ after) mid (y ∷ after) (alike_itself mid) (step.shape.at, same_slots, alike_itself after)))))

  made2 : IsMkdir disk new (thread_at (record { chain = chain; before = before; left = front; right = mid ++ y ∷ []; after = f ∷ after }) (q ∷ more)) chain (before ++ front) (mid ++ x ∷ after) p q more
      (chain ++ ((before ++ front) ++ ((q ∷ more) ++ (mid ++ y ∷ [])))) after f l r P name
  made2 = record {
    is_chain = ap count_before_root (sym were) ∙ step.site.chain;
    accepted = subst (IsAccepted disk) were step.accepted;
    writable = subst (IsWritable disk) were put.writable;
    settled = ap pairs_gstate (sym were) ∙ settled;
    still = still;
    walk = both.walk_on;
    follows = subst (λ z. IsChangedImage disk z new (thread_at (record { chain = chain; before = before; left = front; right = mid ++ y ∷ []; after = f ∷ after }) (q ∷ more)) (tree_creating (P ++ name ∷ []) (DirectoryNode [] [])) both.walk_on) were both.end;
    still_writable = second;
    absent = ap (λ z. disk_tree disk z (P ++ name ∷ [])) (sym were) ∙ sym (ap (λ t. t (P ++ name ∷ [])) both.between.shows)
        ∙ none_there middle (thread_at there (p ∷ [])) P a (place_at there l) name leads2 place;
    was = put2.was;
    at = step2.shape.at;
    is = put2.is;
    cut = became_cut more put2.became;
    empty = put.empty;
    placed = parted (f ∷ after);
    alike = alike;
  }
    where
      -- the tails don't matter, and the sizes are the same on both disks
      sized : (d : Pair) → IsFittingPair middle d → IsFittingPair disk d
      sized d h = subst₂ (λ b g. FitsInPair b g d.content) step.device.geometry.block_size step.device.geometry.page h

      resized : (d : Pair) → IsFittingPair disk d → IsFittingPair middle d
      resized d h = subst₂ (λ b g. FitsInPair b g d.content) (sym step.device.geometry.block_size) (sym step.device.geometry.page) h

      became_cut : (more : List Pair) → Became middle p (pair_with_slots (l ++ (directory_slot name f.at ∷ [] ++ r)) p) q more → Cut disk (pair_with_slots (l ++ directory_slot name f.at ∷ r) p) q more
      became_cut [] h = sized (pair_with_slots (l ++ directory_slot name f.at ∷ r) p) h.1
      became_cut (g ∷ []) h = ((λ k. h.2 (resized (pair_with_slots (l ++ directory_slot name f.at ∷ r) p) k)), sized q h.3, sized g h.4)
      became_cut (g ∷ i ∷ more) h = absurd h

  pub mkdir_in_two_completed : (s : Session) (path : List ℕ) → s.tree ≡ disk_tree disk (thread_at (last_site chain before (front ++ p ∷ mid) after) (x ∷ [])) → path_or_root path ≡ P ++ name ∷ []
      → CompletesOperation disk (thread_at (last_site chain before (front ++ p ∷ mid) after) (x ∷ [])) s (ops.Mkdir path) new (thread_at (record { chain = chain; before = before; left = front; right = mid ++ y ∷ []; after = f ∷ after }) (q ∷ more))
  mkdir_in_two_completed s path tree is =
      subst (λ z. CompletesOperation disk z s (ops.Mkdir path) new (thread_at (record { chain = chain; before = before; left = front; right = mid ++ y ∷ []; after = f ∷ after }) (q ∷ more))) (sym were)
      (mkdir_completed disk new rs chain (before ++ front) (mid ++ x ∷ after) p q more (chain ++ ((before ++ front) ++ ((q ∷ more) ++ (mid ++ y ∷ [])))) after f l r P name made2 s path (tree ∙ ap (disk_tree disk) were) is)
