-- The entry of an empty directory goes, and then its pair: what each of the two steps comes to, in an accepted image.
use Rattle.std.proofs.Common.{ℕ, ◌≡◌, true, false, List, [], ◌∷◌, ◌++◌, length, Option, Some, None, refl, sym, ap, subst, ◌∙◌, arith}
use Rattle.std.specs.Prelude.{◌≢◌, ◌&&◌, is_some}
use Rattle.lfs_model.proofs.Common.{recursion_from_All, tree_with_subtree, tree_removing, Disk, Session, slot_of_path, Branch, Slot, Tail, is_superblock, zero_gstate, same_pair, path_or_root, Pair, pairs_gstate, is_hard_tail, count_before_root, Path, IsAccepted, IsWritable, IsDirectoryAtPath, all_unmoved_slots, all_entries, disk_tree, used_blocks}
use Rattle.lfs_model.specs.layers.StepResults.{predecessor_tail_after_drop}
use Rattle.lfs_model.specs.session.Operations as ops
use Rattle.lfs_model.proofs.Alike.{alike_itself, SameSlots, alike_append}
use Rattle.lfs_model.proofs.Changes.{IsChangedImage, SameFiles, slots_files}
use Rattle.lfs_model.proofs.Committed.{CompletesOperation}
use Rattle.lfs_model.proofs.Counts.{occurrence_count, each_left, each_right}
use Rattle.lfs_model.proofs.Drops.{softened}
use Rattle.lfs_model.proofs.Files.{SameFileBlocks}
use Rattle.lfs_model.proofs.Global.{HasNoMove}
use Rattle.lfs_model.proofs.Layouts.{onward_all}
use Rattle.lfs_model.proofs.Moves.{IsStep}
use Rattle.lfs_model.proofs.RemovedDirectory.{IsRmdir, rmdir_completed}
use Rattle.lfs_model.proofs.RmdirSteps.{IsGone, rmdir_named, rmdir_taken}
use Rattle.lfs_model.proofs.Sites.{Site, begin_of, dirs_at, thread_at}
use Rattle.lfs_model.proofs.Splices.{IsDevice, count_files, file_blocks, all_slots, unmoved_in}
use Rattle.lfs_model.proofs.StepsTaken.{IsWritableChange}
use Rattle.lfs_model.proofs.OneCommit.{some_filled}
use Rattle.lfs_model.proofs.UsedCounts.{count_used, slots_append}
use Rattle.lfs_model.proofs.Placing.{blocks_append}
use Rattle.lfs_model.proofs.EmptyDirectories.{HasPlaceOver, place_over}

-- ---- the first step

-- the pair p loses the slot u, which names the directory at d, and the sync bit is set
pub record Unlinks (disk middle : Disk) (w : Site) (p q : Pair) (l r : List Slot) (u : Slot) (P : Path) (a d : ℕ × ℕ) : Type 0 where
  pub step : IsStep disk middle w p [] q [] [] [] l (u ∷ []) [] r
  pub other : is_superblock u ≡ false
  pub old_writable : IsWritable disk (thread_at w (p ∷ []))
  pub writable : IsWritable middle (thread_at w (q ∷ []))
  pub leads : IsDirectoryAtPath (thread_at w (p ∷ [])) P a
  pub same : same_pair (begin_of w (p ∷ [])) a ≡ true
  pub branch : u.struct ≡ Branch d
  pub empty : all_entries (thread_at w (p ∷ [])) d ≡ []
  pub sync : (pairs_gstate (thread_at w (q ∷ []))).sync ≡ true
  pub settled : pairs_gstate (thread_at w (p ∷ [])) ≡ zero_gstate
  pub held : p.content.slots ≡ l ++ u ∷ r
  pub kept : q.content.slots ≡ l ++ r
  pub tail : q.content.tail ≡ p.content.tail
  pub some : is_some (onward_all None (w.before ++ w.left)) ≡ true → l ++ r ≢ []

-- Where the pair o that goes stands then, and that the operation is completed once it is gone.
pub record HasPlace (disk middle : Disk) (w : Site) (p q : Pair) (u : Slot) (P : Path) (o : Pair) (n : ℕ) : Type 0 where
  pub front : List Pair
  pub x : Pair
  pub back : List Pair
  pub there : dirs_at w (q ∷ []) ≡ front ++ x ∷ o ∷ back
  pub number : length front ≡ n
  pub soft : is_hard_tail x.content.tail ≡ false
  pub taken : (new : Disk) (y : Pair) → IsGone middle new w.chain front x o y back
      → IsWritableChange disk (thread_at w (p ∷ [])) new (w.chain ++ (front ++ y ∷ back)) (tree_removing (P ++ u.name ∷ [])) (tree_with_subtree (P ++ u.name ∷ []) (λ t. None))
  pub completed : (new : Disk) (y : Pair) → IsGone middle new w.chain front x o y back → (s : Session) (path : List ℕ) → s.tree ≡ disk_tree disk (thread_at w (p ∷ [])) → path_or_root path ≡ P ++ u.name ∷ []
      → CompletesOperation disk (thread_at w (p ∷ [])) s (ops.Remove path) new (w.chain ++ (front ++ y ∷ back))

module _ (disk middle : Disk) (w : Site) (p q : Pair) (l r : List Slot) (u : Slot) (P : Path) (a d : ℕ × ℕ) (c : Unlinks disk middle w p q l r u P a d) (o : Pair) (address : same_pair o.at d ≡ true) (alone : is_hard_tail o.content.tail ≡ false) where
  abbrev path_there : Path
  path_there = P ++ u.name ∷ []

  takes_place : (front : List Pair) (x : Pair) (back : List Pair) → dirs_at w (q ∷ []) ≡ front ++ x ∷ o ∷ back → (new : Disk) (y : Pair) → IsGone middle new w.chain front x o y back
      → IsWritableChange disk (thread_at w (p ∷ [])) new (w.chain ++ (front ++ y ∷ back)) (tree_removing (P ++ u.name ∷ [])) (tree_with_subtree (P ++ u.name ∷ []) (λ t. None))
  takes_place front x back there new y gone =
      rmdir_taken disk middle new w p [] q l r u c.step c.other c.writable P a c.leads c.same d c.branch c.empty c.sync c.settled front x o y back there address alone gone

  pub place_of : (front : List Pair) (x : Pair) (back : List Pair) → dirs_at w (p ∷ []) ≡ front ++ x ∷ o ∷ back → is_hard_tail x.content.tail ≡ false → o.content.slots ≡ [] → HasPlace disk middle w p q u P o (length front)
  place_of front x back e soft none = go (place_over w p q o d address c.step.accepted.thread.distinct (ap is_hard_tail c.tail) front x back e soft (λ is. some_filled l r u (sym c.held ∙ ap (λ (z : Pair). z.content.slots) is ∙ none)))
    where
      go : HasPlaceOver w p q o d (length front) → HasPlace disk middle w p q u P o (length front)
      go k = record {
        front = k.front;
        x = k.x;
        back = k.back;
        there = k.there;
        number = k.number;
        soft = k.soft;
        taken = takes_place k.front k.x k.back k.there;
        completed = λ new y gone s path tree is. subst (λ z. CompletesOperation disk z s (ops.Remove path) new (w.chain ++ (k.front ++ y ∷ k.back))) (sym k.were)
            (rmdir_completed disk new (w.chain ++ (k.front ++ y ∷ k.back)) k.b w.chain k.one k.mid k.other p o (q ∷ []) l u r d path_there (made new y gone) s path (tree ∙ ap (disk_tree disk) k.were) is);
      }
        where
          made : (new : Disk) (y : Pair) → IsGone middle new w.chain k.front k.x o y k.back → IsRmdir disk new (w.chain ++ (k.front ++ y ∷ k.back)) k.b w.chain k.one k.mid k.other p o (q ∷ []) l u r d (P ++ u.name ∷ [])
          made new y gone =
              let taken = takes_place k.front k.x k.back k.there new y gone in
              record {
                is_chain = ap count_before_root (sym k.were) ∙ c.step.site.chain;
                accepted = subst (IsAccepted disk) k.were c.step.accepted;
                writable = subst (IsWritable disk) k.were c.old_writable;
                settled = ap pairs_gstate (sym k.were) ∙ c.settled;
                still = gone.settled;
                walk = tree_with_subtree path_there (λ t. None);
                follows = subst (λ z. IsChangedImage disk z new (w.chain ++ (k.front ++ y ∷ k.back)) (tree_removing path_there) (tree_with_subtree path_there (λ t. None))) k.were taken.follows;
                still_writable = taken.writable;
                held = c.held;
                branch = c.branch;
                alike_address = address;
                soft = alone;
                begins = k.begins;
                apart = k.apart;
                stays = (c.step.shape.at, c.kept, (λ h. c.some (k.led h)));
                alike = subst (λ z. SameSlots (w.chain ++ z) (w.chain ++ (k.front ++ y ∷ k.back))) (sym k.are)
                    (alike_append w.chain (k.front ++ k.x ∷ k.back) w.chain (k.front ++ y ∷ k.back) (alike_itself w.chain)
                    (alike_append k.front (k.x ∷ k.back) k.front (y ∷ k.back) (alike_itself k.front) (gone.at, gone.slots, alike_itself k.back)));
                named = subst (λ z. slot_of_path z path_there ≡ Some u) k.were
                    (rmdir_named disk middle new w p [] q l r u c.step c.other c.writable P a c.leads c.same d c.branch c.empty c.sync c.settled k.front k.x o y k.back k.there address alone gone);
              }

-- ---- the tail

pub over_soft : (f g : Option Tail) → is_hard_tail f ≡ false → predecessor_tail_after_drop f g ≡ softened g
over_soft f None h = refl
over_soft f (Some t) h = ap (λ b. Some (record { hard = b && t.hard; to = t.to })) h

-- ---- the blocks

module _ (disk new : Disk) (ahead : List Pair) (p q : Pair) (back : List Pair) (l r : List Slot) (u : Slot) (d : ℕ × ℕ) (none : HasNoMove (pairs_gstate (ahead ++ p ∷ back))) (still : HasNoMove (pairs_gstate (ahead ++ q ∷ back)))
    (on : IsDevice disk new (ahead ++ p ∷ back) (ahead ++ q ∷ back)) (at : q.at ≡ p.at) (held : p.content.slots ≡ l ++ u ∷ r) (kept : q.content.slots ≡ l ++ r) (branch : u.struct ≡ Branch d) where
  same_files : SameFiles disk new (all_slots ahead ++ (p.content.slots ++ all_slots back))
  same_files = subst (SameFiles disk new) (unmoved_in (pairs_gstate (ahead ++ p ∷ back)) none (ahead ++ p ∷ back) ∙ slots_append ahead (p ∷ back))
      (recursion_from_All (λ (s : Slot). SameFileBlocks disk new s.struct) (all_unmoved_slots (ahead ++ p ∷ back)) on.files)

  stays_same : (ss : List Slot) → SameFiles disk new ss → (b : ℕ) → occurrence_count b (file_blocks new ss) ≡ occurrence_count b (file_blocks disk ss)
  stays_same ss h b = ap (occurrence_count b) (slots_files disk new ss on.geometry h)

  no_blocks : (b : ℕ) → occurrence_count b (file_blocks disk (u ∷ [])) ≡ 0
  no_blocks b = ap (λ z. occurrence_count b (file_blocks disk (record u { struct = z } ∷ []))) branch

  -- a directory's entry has no list, so the image uses the same
  pub unlinked_count : (b : ℕ) → occurrence_count b (used_blocks new (ahead ++ q ∷ back)) ≡ occurrence_count b (used_blocks disk (ahead ++ p ∷ back))
  unlinked_count b =
      let f = all_slots ahead in
      let g = all_slots back in
      let F = λ (s : Slot). SameFileBlocks disk new s.struct in
      let h1 = each_left (λ (s : Slot). SameFileBlocks disk new s.struct) f (p.content.slots ++ g) same_files in
      let h2 = each_right (λ (s : Slot). SameFileBlocks disk new s.struct) f (p.content.slots ++ g) same_files in
      let h3 = subst (SameFiles disk new) held (each_left (λ (s : Slot). SameFileBlocks disk new s.struct) p.content.slots g h2) in
      let h4 = each_right (λ (s : Slot). SameFileBlocks disk new s.struct) p.content.slots g h2 in
      let e1 = stays_same f h1 b in
      let e2 = stays_same l (each_left (λ (s : Slot). SameFileBlocks disk new s.struct) l (u ∷ r) h3) b in
      let e3 = stays_same r (each_right (λ (s : Slot). SameFileBlocks disk new s.struct) (u ∷ []) r (each_right (λ (s : Slot). SameFileBlocks disk new s.struct) l (u ∷ r) h3)) b in
      let e4 = stays_same g h4 b in
      let a1 = count_used b new (ahead ++ q ∷ back) still in
      let a2 = count_used b disk (ahead ++ p ∷ back) none in
      let b1 = ap (λ z. occurrence_count b (file_blocks new z)) (slots_append ahead (q ∷ back) ∙ ap (λ z. f ++ (z ++ g)) kept) in
      let b2 = ap (λ z. occurrence_count b (file_blocks disk z)) (slots_append ahead (p ∷ back) ∙ ap (λ z. f ++ (z ++ g)) held) in
      let c1 = count_files b new f ((l ++ r) ++ g) in
      let c2 = count_files b new (l ++ r) g in
      let c3 = count_files b new l r in
      let c4 = count_files b disk f ((l ++ u ∷ r) ++ g) in
      let c5 = count_files b disk (l ++ u ∷ r) g in
      let c6 = count_files b disk l (u ∷ r) in
      let c7 = count_files b disk (u ∷ []) r in
      let n = no_blocks b in
      let d1 = blocks_append ahead (q ∷ back) b in
      let d2 = blocks_append ahead (p ∷ back) b in
      let d3 = blocks_append (q ∷ []) back b in
      let d4 = blocks_append (p ∷ []) back b in
      let d5 = ap (λ (x : ℕ × ℕ). occurrence_count b (x.0 ∷ x.1 ∷ [])) at in
      omega arith
