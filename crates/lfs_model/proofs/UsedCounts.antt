-- Which blocks an image uses after a commit: those that it used, and those of a pair that came.
use Rattle.std.proofs.Common.{ℕ, ◌≡◌, ◌+◌, List, [], ◌∷◌, ◌++◌, Some, refl, sym, ap, subst, ◌∙◌, arith, zero, suc}
use Rattle.lfs_model.proofs.Common.{append-nil, flat_map, recursion_from_All, flat_map-append, Disk, BlockStates, IsFree, Free, Used, Slot, Pair, pairs_blocks, pairs_gstate, all_unmoved_slots, struct_blocks, used_blocks}
use Rattle.lfs_model.specs.layers.BlockSets.{AreUsed}
use Rattle.lfs_model.proofs.BlockSets.{occurrence_count-Contains, Contains-occurrence_count}
use Rattle.lfs_model.proofs.Changes.{SameFiles, slots_files}
use Rattle.lfs_model.proofs.Committed.{IsCommit, no_move_from}
use Rattle.lfs_model.proofs.Counts.{each_left, each_right, occurrence_count, count_append}
use Rattle.lfs_model.proofs.Files.{SameFileBlocks}
use Rattle.lfs_model.proofs.Global.{HasNoMove}
use Rattle.lfs_model.proofs.Sites.{Site, thread_at}
use Rattle.lfs_model.proofs.Splices.{IsDevice, file_blocks, all_slots, unmoved_in, count_files}
use Rattle.lfs_model.proofs.Placing.{blocks_append}

-- ---- counting

pub slots_append : (xs ys : List Pair) → all_slots (xs ++ ys) ≡ all_slots xs ++ all_slots ys
slots_append xs ys = flat_map-append (λ (p : Pair). p.content.slots) xs ys

pub count_used : (b : ℕ) (disk : Disk) (ps : List Pair) → HasNoMove (pairs_gstate ps) → occurrence_count b (used_blocks disk ps) ≡ occurrence_count b (pairs_blocks ps) + occurrence_count b (file_blocks disk (all_slots ps))
count_used b disk ps none = count_append b (pairs_blocks ps) (flat_map (λ s. struct_blocks disk s.struct) (all_unmoved_slots ps))
    ∙ ap (λ z. occurrence_count b (pairs_blocks ps) + occurrence_count b (file_blocks disk z)) (unmoved_in (pairs_gstate ps) none ps)

-- the slots of a thread, by a site
pub slots_at : (w : Site) (ps : List Pair) → all_slots (thread_at w ps) ≡ all_slots w.chain ++ (all_slots (w.before ++ w.left) ++ (all_slots ps ++ all_slots (w.right ++ w.after)))
slots_at w ps = slots_append w.chain ((w.before ++ w.left) ++ (ps ++ (w.right ++ w.after)))
    ∙ ap (λ z. all_slots w.chain ++ z) (slots_append (w.before ++ w.left) (ps ++ (w.right ++ w.after)) ∙ ap (λ z. all_slots (w.before ++ w.left) ++ z) (slots_append ps (w.right ++ w.after)))

pub count_at : (b : ℕ) (disk : Disk) (w : Site) (ps : List Pair) (l mid r : List Slot) → all_slots ps ≡ l ++ (mid ++ r) → occurrence_count b (file_blocks disk (all_slots (thread_at w ps)))
    ≡ occurrence_count b (file_blocks disk (all_slots w.chain)) + (occurrence_count b (file_blocks disk (all_slots (w.before ++ w.left)))
    + ((occurrence_count b (file_blocks disk l) + (occurrence_count b (file_blocks disk mid) + occurrence_count b (file_blocks disk r))) + occurrence_count b (file_blocks disk (all_slots (w.right ++ w.after)))))
count_at b disk w ps l mid r e =
    let f1 = all_slots w.chain in
    let f2 = all_slots (w.before ++ w.left) in
    let g = all_slots (w.right ++ w.after) in
    let a = ap (λ z. occurrence_count b (file_blocks disk z)) (slots_at w ps) in
    let c = count_files b disk f1 (f2 ++ (all_slots ps ++ g)) in
    let d = count_files b disk f2 (all_slots ps ++ g) in
    let h = count_files b disk (all_slots ps) g in
    let i = ap (λ z. occurrence_count b (file_blocks disk z)) e in
    let j = count_files b disk l (mid ++ r) in
    let k = count_files b disk mid r in
    omega arith

pub count_pairs : (b : ℕ) (w : Site) (ps : List Pair) → occurrence_count b (pairs_blocks (thread_at w ps))
    ≡ occurrence_count b (pairs_blocks w.chain) + (occurrence_count b (pairs_blocks (w.before ++ w.left)) + (occurrence_count b (pairs_blocks ps) + occurrence_count b (pairs_blocks (w.right ++ w.after))))
count_pairs b w ps =
    let a = blocks_append w.chain ((w.before ++ w.left) ++ (ps ++ (w.right ++ w.after))) b in
    let c = blocks_append (w.before ++ w.left) (ps ++ (w.right ++ w.after)) b in
    let d = blocks_append ps (w.right ++ w.after) b in
    omega arith

-- the pair p becomes q and more, with news where olds stood; no move is set
pub record IsTurnOf (disk new : Disk) (w : Site) (p q : Pair) (more : List Pair) (l olds news r : List Slot) : Type 0 where
  pub none : HasNoMove (pairs_gstate (thread_at w (p ∷ [])))
  pub still : HasNoMove (pairs_gstate (thread_at w (q ∷ more)))
  pub device : IsDevice disk new (thread_at w (p ∷ [])) (thread_at w (q ∷ more))
  pub at : q.at ≡ p.at
  pub was : p.content.slots ≡ l ++ (olds ++ r)
  pub is : all_slots (q ∷ more) ≡ l ++ (news ++ r)

module _ (disk new : Disk) (w : Site) (p q : Pair) (more : List Pair) (l olds news r : List Slot) (gone come : List ℕ) (c : IsTurnOf disk new w p q more l olds news r)
    (blocks : (b : ℕ) → occurrence_count b (file_blocks new news) + occurrence_count b gone ≡ occurrence_count b come + occurrence_count b (file_blocks disk olds)) where
  abbrev ps : List Pair
  ps = thread_at w (p ∷ [])

  abbrev qs : List Pair
  qs = thread_at w (q ∷ more)

  was_one : all_slots (p ∷ []) ≡ l ++ (olds ++ r)
  was_one = append-nil p.content.slots ∙ c.was

  all_same : SameFiles disk new (all_slots w.chain ++ (all_slots (w.before ++ w.left) ++ ((l ++ (olds ++ r)) ++ all_slots (w.right ++ w.after))))
  all_same = subst (SameFiles disk new)
      (unmoved_in (pairs_gstate ps) c.none ps ∙ slots_at w (p ∷ []) ∙ ap (λ z. all_slots w.chain ++ (all_slots (w.before ++ w.left) ++ (z ++ all_slots (w.right ++ w.after)))) was_one)
      (recursion_from_All (λ (s : Slot). SameFileBlocks disk new s.struct) (all_unmoved_slots ps) c.device.files)

  abbrev F : Slot → Type 0
  F s = SameFileBlocks disk new s.struct

  kept : (ss : List Slot) → SameFiles disk new ss → (b : ℕ) → occurrence_count b (file_blocks new ss) ≡ occurrence_count b (file_blocks disk ss)
  kept ss h b = ap (occurrence_count b) (slots_files disk new ss c.device.geometry h)

  pub turned_count : (b : ℕ) → occurrence_count b (used_blocks new qs) + occurrence_count b gone ≡ occurrence_count b (pairs_blocks more) + occurrence_count b (used_blocks disk ps) + occurrence_count b come
  turned_count b =
      let f1 = all_slots w.chain in
      let f2 = all_slots (w.before ++ w.left) in
      let g = all_slots (w.right ++ w.after) in
      let h1 = each_left F f1 (f2 ++ ((l ++ (olds ++ r)) ++ g)) all_same in
      let h2 = each_right F f1 (f2 ++ ((l ++ (olds ++ r)) ++ g)) all_same in
      let h3 = each_left F f2 ((l ++ (olds ++ r)) ++ g) h2 in
      let h4 = each_right F f2 ((l ++ (olds ++ r)) ++ g) h2 in
      let h5 = each_left F (l ++ (olds ++ r)) g h4 in
      let h6 = each_right F (l ++ (olds ++ r)) g h4 in
      let e1 = kept f1 h1 b in
      let e2 = kept f2 h3 b in
      let e3 = kept g h6 b in
      let e4 = kept l (each_left F l (olds ++ r) h5) b in
      let e5 = kept r (each_right F olds r (each_right F l (olds ++ r) h5)) b in
      let e6 = blocks b in
      let a1 = count_used b new qs c.still in
      let a2 = count_used b disk ps c.none in
      let b1 = count_at b new w (q ∷ more) l news r c.is in
      let b2 = count_at b disk w (p ∷ []) l olds r was_one in
      let d1 = count_pairs b w (q ∷ more) in
      let d2 = count_pairs b w (p ∷ []) in
      let at = ap (λ (a : ℕ × ℕ). occurrence_count b (a.0 ∷ a.1 ∷ [])) c.at in
      let k = count_append b (q.at.0 ∷ q.at.1 ∷ []) (pairs_blocks more) in
      omega arith

pub used_count_now : (disk new : Disk) (w : Site) (p q : Pair) (more : List Pair) (l olds news r : List Slot) (gone come : List ℕ) → IsCommit disk new w p q more come l olds news r
    → ((b : ℕ) → occurrence_count b (file_blocks new news) + occurrence_count b gone ≡ occurrence_count b come + occurrence_count b (file_blocks disk olds))
    → (b : ℕ) → occurrence_count b (used_blocks new (thread_at w (q ∷ more))) + occurrence_count b gone ≡ occurrence_count b (pairs_blocks more) + occurrence_count b (used_blocks disk (thread_at w (p ∷ []))) + occurrence_count b come
used_count_now disk new w p q more l olds news r gone come c blocks = turned_count disk new w p q more l olds news r gone come
    (record {
      none = no_move_from (thread_at w (p ∷ [])) c.settled;
      still = no_move_from (thread_at w (q ∷ more)) c.still;
      device = c.device;
      at = c.at;
      was = c.was;
      is = c.is;
    }) blocks

-- ---- the map

unlike : Some Free ≡ Some Used → ⊥
unlike e = absurd (cc)

-- a free block isn't among the used ones
pub not_used : (sets : BlockStates) (bs : List ℕ) → AreUsed sets bs → (b : ℕ) → IsFree sets b → occurrence_count b bs ≡ 0
not_used sets bs used b free = go (occurrence_count b bs) refl
  where
    go : (n : ℕ) → occurrence_count b bs ≡ n → n ≡ 0
    go zero e = refl
    go (suc n) e = absurd (unlike (sym free ∙ (used b).1 (Contains-occurrence_count bs b (omega arith))))

-- where the image uses the same
pub used_same : (sets : BlockStates) (us vs : List ℕ) → ((b : ℕ) → occurrence_count b vs ≡ occurrence_count b us) → AreUsed sets us → AreUsed sets vs
used_same sets us vs same used b = (
  (λ h. Contains-occurrence_count vs b (let k = occurrence_count-Contains us b ((used b).0 h) in let e = same b in omega arith)),
  (λ h. (used b).1 (Contains-occurrence_count us b (let k = occurrence_count-Contains vs b h in let e = same b in omega arith))),
)
