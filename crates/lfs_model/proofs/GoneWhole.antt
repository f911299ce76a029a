-- The entry of an empty directory goes with its pair, which held nothing else, and then the directory's own pair goes.
use Rattle.std.proofs.Common.{ℕ, ◌≡◌, ◌⊎◌, inl, inr, ◌+◌, ◌<◌, Bool, true, false, cond, nat_eq, List, [], ◌∷◌, ◌++◌, length, Option, Some, None, refl, sym, ap, subst, ◌∙◌, arith, append_assoc, length-append}
use Rattle.std.specs.List.{IsDistinct}
use Rattle.std.specs.Prelude.{is_some}
use Rattle.lfs_model.proofs.Common.{tree_with_subtree, tree_removing, Disk, directory_address, continued_directory_address, Session, slot_of_path, Branch, Slot, is_superblock, zero_gstate, same_pair, path_or_root, Pair, pairs_blocks, pairs_gstate, is_hard_tail, count_before_root, Path, IsAccepted, IsWritable, IsDirectoryAtPath, all_entries, disk_tree}
use Rattle.lfs_model.specs.session.Operations as ops
use Rattle.lfs_model.proofs.Alike.{SameSlots, alike_append, alike_itself}
use Rattle.lfs_model.proofs.Changes.{IsChangedImage}
use Rattle.lfs_model.proofs.Committed.{CompletesOperation}
use Rattle.lfs_model.proofs.Counts.{Each, each_append, each_left, each_right}
use Rattle.lfs_model.proofs.Layouts.{onward_all}
use Rattle.lfs_model.proofs.Moves.{IsStep}
use Rattle.lfs_model.proofs.RemovedDirectory.{IsRmdir, before_gone, from_kept, rmdir_completed}
use Rattle.lfs_model.proofs.RmdirSteps.{IsGone, rmdir_named, rmdir_taken}
use Rattle.lfs_model.proofs.Searches.{avoids_behind, avoids_front}
use Rattle.lfs_model.proofs.Sites.{Site, begin_of, dirs_at, thread_at}
use Rattle.lfs_model.proofs.StepsTaken.{IsWritableChange}
use Rattle.lfs_model.proofs.TwoPlaces.{two}
use Rattle.lfs_model.proofs.Unthreaded.{same_parts, SameParts}
use Rattle.lfs_model.proofs.PairsInFront.{last_pair}
use Rattle.lfs_model.proofs.EmptyDirectories.{Ahead, Behind, Itself, Next, WhereIs, soft_end, where_is}

hard_end : (from : Option (ℕ × ℕ)) (xs : List Pair) (x : Pair) → is_hard_tail x.content.tail ≡ true → is_some (onward_all from (xs ++ x ∷ [])) ≡ true
hard_end from [] x e = ap (λ b. is_some (cond b (Some (directory_address from x)) None)) e
hard_end from (z ∷ xs) x e = hard_end (continued_directory_address from z) xs x e

same_last : (xs : List Pair) (x : Pair) (ys : List Pair) (y : Pair) → xs ++ x ∷ [] ≡ ys ++ y ∷ [] → SameParts xs x [] ys y []
same_last xs x ys y e = same_parts xs x [] ys y [] (let a = length-append xs (x ∷ []) in let b = length-append ys (y ∷ []) in let n = ap length e in omega arith) e

-- The pair x0 takes over the tail of e behind it, whose only slot u names the directory at d; the sync bit is set.
pub record UnlinksWhole (disk middle : Disk) (w : Site) (x0 e q : Pair) (u : Slot) (P : Path) (a d : ℕ × ℕ) : Type 0 where
  pub step : IsStep disk middle w x0 (e ∷ []) q [] [] [] x0.content.slots (u ∷ []) [] []
  pub other : is_superblock u ≡ false
  pub old_writable : IsWritable disk (thread_at w (x0 ∷ e ∷ []))
  pub writable : IsWritable middle (thread_at w (q ∷ []))
  pub leads : IsDirectoryAtPath (thread_at w (x0 ∷ e ∷ [])) P a
  pub same : same_pair (begin_of w (x0 ∷ e ∷ [])) a ≡ true
  pub branch : u.struct ≡ Branch d
  pub empty : all_entries (thread_at w (x0 ∷ e ∷ [])) d ≡ []
  pub sync : (pairs_gstate (thread_at w (q ∷ []))).sync ≡ true
  pub settled : pairs_gstate (thread_at w (x0 ∷ e ∷ [])) ≡ zero_gstate
  pub held : e.content.slots ≡ u ∷ []
  pub at : q.at ≡ x0.at
  pub slots : q.content.slots ≡ x0.content.slots
  pub tail : q.content.tail ≡ e.content.tail
  pub hard : is_hard_tail x0.content.tail ≡ true

-- Where the pair o that goes stands then, and that the operation is completed once it is gone. It has moved up where it stood
-- behind e.
pub record HasPlaceWhole (disk middle : Disk) (w : Site) (x0 e q : Pair) (u : Slot) (P : Path) (o : Pair) (n : ℕ) (b : Pair) : Type 0 where
  pub front : List Pair
  pub x : Pair
  pub back : List Pair
  pub there : dirs_at w (q ∷ []) ≡ front ++ x ∷ o ∷ back
  pub number : ((length (w.before ++ w.left) + 1 < n + 1) × (length front + 1 ≡ n)) ⊎ ((n + 1 < length (w.before ++ w.left) + 1) × (length front ≡ n))
  pub was : (x.at ≡ b.at) ⊎ (x.at ≡ x0.at)
  pub soft : is_hard_tail x.content.tail ≡ false
  pub taken : (new : Disk) (y : Pair) → IsGone middle new w.chain front x o y back
      → IsWritableChange disk (thread_at w (x0 ∷ e ∷ [])) new (w.chain ++ (front ++ y ∷ back)) (tree_removing (P ++ u.name ∷ [])) (tree_with_subtree (P ++ u.name ∷ []) (λ t. None))
  pub completed : (new : Disk) (y : Pair) → IsGone middle new w.chain front x o y back → (s : Session) (path : List ℕ) → s.tree ≡ disk_tree disk (thread_at w (x0 ∷ e ∷ [])) → path_or_root path ≡ P ++ u.name ∷ []
      → CompletesOperation disk (thread_at w (x0 ∷ e ∷ [])) s (ops.Remove path) new (w.chain ++ (front ++ y ∷ back))

module _ (disk middle : Disk) (w : Site) (x0 e q : Pair) (u : Slot) (P : Path) (a d : ℕ × ℕ) (c : UnlinksWhole disk middle w x0 e q u P a d) (o : Pair) (address : same_pair o.at d ≡ true) (alone : is_hard_tail o.content.tail ≡ false) where
  abbrev in_front : List Pair
  in_front = w.before ++ w.left

  abbrev in_back : List Pair
  in_back = w.right ++ w.after

  abbrev path_there : Path
  path_there = P ++ u.name ∷ []

  takes_place : (front : List Pair) (x : Pair) (back : List Pair) → dirs_at w (q ∷ []) ≡ front ++ x ∷ o ∷ back → (new : Disk) (y : Pair) → IsGone middle new w.chain front x o y back
      → IsWritableChange disk (thread_at w (x0 ∷ e ∷ [])) new (w.chain ++ (front ++ y ∷ back)) (tree_removing (P ++ u.name ∷ [])) (tree_with_subtree (P ++ u.name ∷ []) (λ t. None))
  takes_place front x back there new y gone =
      rmdir_taken disk middle new w x0 (e ∷ []) q x0.content.slots [] u c.step c.other c.writable P a c.leads c.same d c.branch c.empty c.sync c.settled front x o y back there address alone gone

  -- the thread with e and o somewhere
  record IsParted (b : Bool) (front mid back rs : List Pair) : Type 0 where
    were : thread_at w (x0 ∷ e ∷ []) ≡ w.chain ++ two b front (e ∷ []) mid (o ∷ []) back
    begins : onward_all None (before_gone b front mid e) ≡ None
    apart : Each (λ z. same_pair z.at d ≡ false) (two b front (e ∷ []) mid [] back)
    from : is_some (from_kept b front mid o) ≡ true
    alike : SameSlots (w.chain ++ two b front [] mid [] back) rs

  completes : (b : Bool) (front mid back : List Pair) (new : Disk) (y : Pair) (f : List Pair) (x : Pair) (rest : List Pair) (there : dirs_at w (q ∷ []) ≡ f ++ x ∷ o ∷ rest) → IsGone middle new w.chain f x o y rest
      → IsParted b front mid back (w.chain ++ (f ++ y ∷ rest)) → (s : Session) (path : List ℕ) → s.tree ≡ disk_tree disk (thread_at w (x0 ∷ e ∷ [])) → path_or_root path ≡ P ++ u.name ∷ []
      → CompletesOperation disk (thread_at w (x0 ∷ e ∷ [])) s (ops.Remove path) new (w.chain ++ (f ++ y ∷ rest))
  completes b front mid back new y f x rest there gone h s path tree is =
      let rs = w.chain ++ (f ++ y ∷ rest) in
      let taken = takes_place f x rest there new y gone in
      let made : IsRmdir disk new (w.chain ++ (f ++ y ∷ rest)) b w.chain front mid back e o [] [] u [] d path_there = record {
        is_chain = ap count_before_root (sym h.were) ∙ c.step.site.chain;
        accepted = subst (IsAccepted disk) h.were c.step.accepted;
        writable = subst (IsWritable disk) h.were c.old_writable;
        settled = ap pairs_gstate (sym h.were) ∙ c.settled;
        still = gone.settled;
        walk = tree_with_subtree path_there (λ t. None);
        follows = subst (λ z. IsChangedImage disk z new (w.chain ++ (f ++ y ∷ rest)) (tree_removing path_there) (tree_with_subtree path_there (λ t. None))) h.were taken.follows;
        still_writable = taken.writable;
        held = c.held;
        branch = c.branch;
        alike_address = address;
        soft = alone;
        begins = h.begins;
        apart = h.apart;
        stays = (h.from, refl);
        alike = h.alike;
        named = subst (λ z. slot_of_path z path_there ≡ Some u) h.were
            (rmdir_named disk middle new w x0 (e ∷ []) q x0.content.slots [] u c.step c.other c.writable P a c.leads c.same d c.branch c.empty c.sync c.settled f x o y rest there address alone gone);
      } in
      subst (λ z. CompletesOperation disk z s (ops.Remove path) new (w.chain ++ (f ++ y ∷ rest))) (sym h.were)
      (rmdir_completed disk new (w.chain ++ (f ++ y ∷ rest)) b w.chain front mid back e o [] [] u [] d path_there made s path (tree ∙ ap (disk_tree disk) h.were) is)

  -- the pairs but o aren't at its address
  others_apart : (front back : List Pair) → thread_at w (x0 ∷ e ∷ []) ≡ w.chain ++ (front ++ o ∷ back) → Each (λ z. same_pair z.at d ≡ false) front × Each (λ z. same_pair z.at d ≡ false) back
  others_apart front back is =
      let distinct = subst (λ z. IsDistinct nat_eq (pairs_blocks z)) (is ∙ sym (append_assoc w.chain front (o ∷ back))) c.step.accepted.thread.distinct in
      (each_right (λ (z : Pair). same_pair z.at d ≡ false) w.chain front (avoids_front (w.chain ++ front) o back d distinct address), avoids_behind (w.chain ++ front) o back d distinct address)

  dirs_were : dirs_at w (x0 ∷ e ∷ []) ≡ (in_front ++ x0 ∷ []) ++ e ∷ in_back
  dirs_were = sym (append_assoc in_front (x0 ∷ []) (e ∷ in_back))

  -- ---- o stands behind e, with others between them

  ahead_place : (mid : List Pair) (x : Pair) (back : List Pair) (n : ℕ) → in_back ≡ mid ++ x ∷ o ∷ back → length ((in_front ++ x0 ∷ []) ++ e ∷ mid) ≡ n → is_hard_tail x.content.tail ≡ false
      → HasPlaceWhole disk middle w x0 e q u P o n x
  ahead_place mid x back n h k soft =
      let there : dirs_at w (q ∷ []) ≡ (in_front ++ q ∷ mid) ++ x ∷ o ∷ back = ap (λ z. in_front ++ q ∷ z) h ∙ sym (append_assoc in_front (q ∷ mid) (x ∷ o ∷ back)) in
      let head = in_front ++ x0 ∷ [] in
      let dirs : dirs_at w (x0 ∷ e ∷ []) ≡ (in_front ++ x0 ∷ []) ++ (e ∷ [] ++ ((mid ++ x ∷ []) ++ (o ∷ [] ++ back)))
      = dirs_were ∙ ap (λ z. (in_front ++ x0 ∷ []) ++ e ∷ z) (h ∙ sym (append_assoc mid (x ∷ []) (o ∷ back))) in
      let split : dirs_at w (x0 ∷ e ∷ []) ≡ ((in_front ++ x0 ∷ []) ++ e ∷ (mid ++ x ∷ [])) ++ o ∷ back = dirs ∙ sym (append_assoc (in_front ++ x0 ∷ []) (e ∷ (mid ++ x ∷ [])) (o ∷ back)) in
      let apart = others_apart ((in_front ++ x0 ∷ []) ++ e ∷ (mid ++ x ∷ [])) back (ap (λ z. w.chain ++ z) split) in
      record {
        front = in_front ++ q ∷ mid;
        x = x;
        back = back;
        there = there;
        number = inl (
          (let l = length-append head (e ∷ mid) in let m = length-append in_front (x0 ∷ []) in omega arith),
          (let l = length-append head (e ∷ mid) in let m = length-append in_front (x0 ∷ []) in let g = length-append in_front (q ∷ mid) in omega arith),
        );
        was = inl refl;
        soft = soft;
        taken = takes_place (in_front ++ q ∷ mid) x back there;
        completed = λ new y gone. completes true (in_front ++ x0 ∷ []) (mid ++ x ∷ []) back new y (in_front ++ q ∷ mid) x back there gone (record {
          were = ap (λ z. w.chain ++ z) dirs;
          begins = ap (onward_all None) (sym (append_assoc (in_front ++ x0 ∷ []) (e ∷ mid) (x ∷ []))) ∙ soft_end None ((in_front ++ x0 ∷ []) ++ e ∷ mid) x soft;
          apart =
              let F = λ (z : Pair). same_pair z.at d ≡ false in
              let rest = each_right (λ (z : Pair). same_pair z.at d ≡ false) (in_front ++ x0 ∷ []) (e ∷ (mid ++ x ∷ [])) apart.0 in
              each_append (λ (z : Pair). same_pair z.at d ≡ false) (in_front ++ x0 ∷ []) (e ∷ ((mid ++ x ∷ []) ++ back))
              (each_left (λ (z : Pair). same_pair z.at d ≡ false) (in_front ++ x0 ∷ []) (e ∷ (mid ++ x ∷ [])) apart.0)
              (rest.0, each_append (λ (z : Pair). same_pair z.at d ≡ false) (mid ++ x ∷ []) back rest.1 apart.1);
          from = hard_end None in_front x0 c.hard;
          alike = subst (λ z. SameSlots (w.chain ++ z) (w.chain ++ ((in_front ++ q ∷ mid) ++ y ∷ back)))
              (append_assoc in_front (x0 ∷ mid) (x ∷ back) ∙ ap (λ z. in_front ++ x0 ∷ z) (sym (append_assoc mid (x ∷ []) back)) ∙ sym (append_assoc in_front (x0 ∷ []) ((mid ++ x ∷ []) ++ back)))
              (alike_append w.chain ((in_front ++ x0 ∷ mid) ++ x ∷ back) w.chain ((in_front ++ q ∷ mid) ++ y ∷ back) (alike_itself w.chain)
              (alike_append (in_front ++ x0 ∷ mid) (x ∷ back) (in_front ++ q ∷ mid) (y ∷ back)
              (alike_append in_front (x0 ∷ mid) in_front (q ∷ mid) (alike_itself in_front) (c.at, c.slots, alike_itself mid)) (gone.at, gone.slots, alike_itself back)));
        });
      }

  -- ---- o stands right behind e

  next_place : (back : List Pair) (n : ℕ) (b : Pair) → in_back ≡ o ∷ back → length (in_front ++ x0 ∷ []) ≡ n → is_hard_tail e.content.tail ≡ false → HasPlaceWhole disk middle w x0 e q u P o n b
  next_place back n b h k soft =
      let there : dirs_at w (q ∷ []) ≡ in_front ++ q ∷ o ∷ back = ap (λ z. in_front ++ q ∷ z) h in
      let dirs : dirs_at w (x0 ∷ e ∷ []) ≡ (in_front ++ x0 ∷ []) ++ e ∷ o ∷ back = dirs_were ∙ ap (λ z. (in_front ++ x0 ∷ []) ++ e ∷ z) h in
      let split : dirs_at w (x0 ∷ e ∷ []) ≡ ((in_front ++ x0 ∷ []) ++ e ∷ []) ++ o ∷ back = dirs ∙ sym (append_assoc (in_front ++ x0 ∷ []) (e ∷ []) (o ∷ back)) in
      let apart = others_apart ((in_front ++ x0 ∷ []) ++ e ∷ []) back (ap (λ z. w.chain ++ z) split) in
      record {
        front = in_front;
        x = q;
        back = back;
        there = there;
        number = inl ((let m = length-append in_front (x0 ∷ []) in omega arith), (let m = length-append in_front (x0 ∷ []) in omega arith));
        was = inr c.at;
        soft = ap is_hard_tail c.tail ∙ soft;
        taken = takes_place in_front q back there;
        completed = λ new y gone. completes true (in_front ++ x0 ∷ []) [] back new y in_front q back there gone (record {
          were = ap (λ z. w.chain ++ z) dirs;
          begins = soft_end None (in_front ++ x0 ∷ []) e soft;
          apart =
              each_append (λ (z : Pair). same_pair z.at d ≡ false) (in_front ++ x0 ∷ []) (e ∷ back)
              (each_left (λ (z : Pair). same_pair z.at d ≡ false) (in_front ++ x0 ∷ []) (e ∷ []) apart.0)
              ((each_right (λ (z : Pair). same_pair z.at d ≡ false) (in_front ++ x0 ∷ []) (e ∷ []) apart.0).0, apart.1);
          from = hard_end None in_front x0 c.hard;
          alike = subst (λ z. SameSlots (w.chain ++ z) (w.chain ++ (in_front ++ y ∷ back))) (sym (append_assoc in_front (x0 ∷ []) back))
              (alike_append w.chain (in_front ++ x0 ∷ back) w.chain (in_front ++ y ∷ back) (alike_itself w.chain)
              (alike_append in_front (x0 ∷ back) in_front (y ∷ back) (alike_itself in_front) (gone.at ∙ c.at, gone.slots ∙ c.slots, alike_itself back)));
        });
      }

  -- ---- o stands in front of x0

  behind_place : (front : List Pair) (x : Pair) (mid : List Pair) → in_front ≡ front ++ x ∷ o ∷ mid → is_hard_tail x.content.tail ≡ false → HasPlaceWhole disk middle w x0 e q u P o (length front) x
  behind_place front x mid h soft =
      let there : dirs_at w (q ∷ []) ≡ front ++ x ∷ o ∷ (mid ++ q ∷ in_back) = ap (λ z. z ++ q ∷ in_back) h ∙ append_assoc front (x ∷ o ∷ mid) (q ∷ in_back) in
      let dirs : dirs_at w (x0 ∷ e ∷ []) ≡ (front ++ x ∷ []) ++ o ∷ ((mid ++ x0 ∷ []) ++ e ∷ in_back)
      = ap (λ z. z ++ x0 ∷ e ∷ in_back) h ∙ append_assoc front (x ∷ o ∷ mid) (x0 ∷ e ∷ in_back) ∙ ap (λ z. front ++ x ∷ o ∷ z) (sym (append_assoc mid (x0 ∷ []) (e ∷ in_back)))
      ∙ sym (append_assoc front (x ∷ []) (o ∷ ((mid ++ x0 ∷ []) ++ e ∷ in_back))) in
      let apart = others_apart (front ++ x ∷ []) ((mid ++ x0 ∷ []) ++ e ∷ in_back) (ap (λ z. w.chain ++ z) dirs) in
      record {
        front = front;
        x = x;
        back = mid ++ q ∷ in_back;
        there = there;
        number = inr ((let l = ap length h in let m = length-append front (x ∷ o ∷ mid) in omega arith), refl);
        was = inl refl;
        soft = soft;
        taken = takes_place front x (mid ++ q ∷ in_back) there;
        completed = λ new y gone. completes false (front ++ x ∷ []) (mid ++ x0 ∷ []) in_back new y front x (mid ++ q ∷ in_back) there gone (record {
          were = ap (λ z. w.chain ++ z) dirs;
          begins = soft_end None front x soft;
          apart = each_append (λ (z : Pair). same_pair z.at d ≡ false) (front ++ x ∷ []) ((mid ++ x0 ∷ []) ++ e ∷ in_back) apart.0 apart.1;
          from = hard_end (onward_all (onward_all None (front ++ x ∷ [])) (o ∷ [])) mid x0 c.hard;
          alike = subst (λ z. SameSlots (w.chain ++ z) (w.chain ++ (front ++ y ∷ (mid ++ q ∷ in_back))))
              (ap (λ z. front ++ x ∷ z) (sym (append_assoc mid (x0 ∷ []) in_back)) ∙ sym (append_assoc front (x ∷ []) ((mid ++ x0 ∷ []) ++ in_back)))
              (alike_append w.chain (front ++ x ∷ (mid ++ x0 ∷ in_back)) w.chain (front ++ y ∷ (mid ++ q ∷ in_back)) (alike_itself w.chain)
              (alike_append front (x ∷ (mid ++ x0 ∷ in_back)) front (y ∷ (mid ++ q ∷ in_back)) (alike_itself front)
              (gone.at, gone.slots, alike_append mid (x0 ∷ in_back) mid (q ∷ in_back) (alike_itself mid) (c.at, c.slots, alike_itself in_back))));
        });
      }

  -- ---- where it stands

  not_itself : o.content.slots ≡ [] → e ≡ o → ⊥
  not_itself none k = absurd (let z = sym c.held ∙ ap (λ (z : Pair). z.content.slots) k ∙ none in cc)

  not_front : x0 ≡ o → ⊥
  not_front k = absurd (let z = sym c.hard ∙ ap (λ (z : Pair). is_hard_tail z.content.tail) k ∙ alone in cc)

  pub place_whole : (front : List Pair) (x : Pair) (back : List Pair) → dirs_at w (x0 ∷ e ∷ []) ≡ front ++ x ∷ o ∷ back → is_hard_tail x.content.tail ≡ false → o.content.slots ≡ []
      → HasPlaceWhole disk middle w x0 e q u P o (length front) x
  place_whole front x back h soft none = by (where_is (in_front ++ x0 ∷ []) e in_back front x o back (sym dirs_were ∙ h))
    where
      before : (mid : List Pair) → in_front ++ x0 ∷ [] ≡ front ++ x ∷ o ∷ mid → HasPlaceWhole disk middle w x0 e q u P o (length front) x
      before [] g = absurd (not_front (same_last in_front x0 (front ++ x ∷ []) o (g ∙ sym (append_assoc front (x ∷ []) (o ∷ [])))).pair)
      before (m ∷ ms) g =
          let l = last_pair (m ∷ ms) (λ k. absurd (cc)) in
          let k = same_last in_front x0 (front ++ x ∷ o ∷ l.front) l.last (g ∙ ap (λ z. front ++ x ∷ o ∷ z) l.is ∙ sym (append_assoc front (x ∷ o ∷ l.front) (l.last ∷ []))) in
          behind_place front x l.front k.front soft

      by : WhereIs (in_front ++ x0 ∷ []) e in_back front x o back → HasPlaceWhole disk middle w x0 e q u P o (length front) x
      by (Ahead mid g k) = ahead_place mid x back (length front) g (ap length (sym k)) soft
      by (Next g i k) = next_place back (length front) x k (ap length g) (ap (λ (z : Pair). is_hard_tail z.content.tail) (sym i) ∙ soft)
      by (Itself g) = absurd (not_itself none g)
      by (Behind mid g) = before mid g
