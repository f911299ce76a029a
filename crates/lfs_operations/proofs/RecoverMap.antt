-- The used blocks of the map during a recovery: those of the image, and those of lists that only dropped pairs named.
use Rattle.lfs_operations.proofs.Common.{ℕ, ◌-◌, ◌≡◌, ◌+◌, ◌≤◌, List, [], ◌∷◌, ◌++◌, length, refl, sym, ap, ap₂, subst, ◌∙◌, arith, AreUsed, SameGeometry, block_count, Gstate, Pair, address_blocks, pairs_gstate, all_unmoved_slots, used_blocks, SameSlots, SameFiles, slots_files, occurrence_count, count_append, HasNoMove, Site, file_blocks, all_slots, unmoved_in, KeptThread, HasSameBlocksInFlight, IsPairDropped}
use Rattle.lfs_operations.proofs.Dropped.{HasMapWithout, IsToBeDropped, map_left, map_without, used_left}
use Rattle.lfs_operations.proofs.MovStep.{blocks_alike}
pub use Rattle.lfs_model.proofs.UsedCounts.{count_used}

-- the map has the image's blocks and those that are gone, each once
pub record HasMap (t : KeptThread) (gone : List ℕ) : Type 0 where
  pub owned : List ℕ
  pub are : AreUsed t.map owned
  pub same : (b : ℕ) → occurrence_count b owned ≡ occurrence_count b (used_blocks t.disk t.pairs) + occurrence_count b gone
  pub once : (b : ℕ) → occurrence_count b owned ≤ 1
  pub size : length t.map ≡ block_count t.disk

-- ---- a pair is dropped

-- the map then has the lists of its slots besides the image's blocks
pub map_drops : {now : KeptThread} {index : ℕ} {state : Gstate} {w : Site} {before x : Pair} (k : IsToBeDropped now index state w before x) (new : KeptThread) → IsPairDropped now (index - 1) state new → HasNoMove (pairs_gstate now.pairs) → HasNoMove state
    → (gone : List ℕ) → HasMap now gone → HasMap new (gone ++ file_blocks now.disk x.content.slots) × HasSameBlocksInFlight now.map new.map
map_drops {now} {index} {state} {w} {before} {x} k new d none still gone h = (
  record { owned = owned; are = m.used; same = λ b. count_append b (used_blocks new.disk new.pairs) (gone ++ lists); once = λ b. let l = less b in let o = h.once b in omega arith; size = m.size ∙ h.size ∙ sym d.written.shape.count },
  m.flying,
)
  where
    lists : List ℕ
    lists = file_blocks now.disk x.content.slots

    owned : List ℕ
    owned = used_blocks new.disk new.pairs ++ (gone ++ lists)

    -- without the pair's own blocks
    less : (b : ℕ) → occurrence_count b owned + occurrence_count b (address_blocks x.at) ≡ occurrence_count b h.owned
    less b =
        let c = count_append b (used_blocks new.disk new.pairs) (gone ++ lists) in
        let e = count_append b gone lists in
        let u = used_left k new d none still b in
        let s = h.same b in
        omega arith

    m : HasMapWithout now.map new.map owned
    m = map_without now.map x.at h.owned owned h.are h.once less new.map (map_left k new d)

-- ---- the same addresses and slots

alike_slots : (xs ys : List Pair) → SameSlots xs ys → all_slots ys ≡ all_slots xs
alike_slots [] [] h = refl
alike_slots [] (y ∷ ys) h = absurd h
alike_slots (x ∷ xs) [] h = absurd h
alike_slots (x ∷ xs) (y ∷ ys) h = ap₂ (λ a b. a ++ b) h.1 (alike_slots xs ys h.2)

module _ (now new : KeptThread) (alike : SameSlots now.pairs new.pairs) (none : HasNoMove (pairs_gstate now.pairs)) (still : HasNoMove (pairs_gstate new.pairs))
    (geometry : SameGeometry now.disk new.disk) (files : SameFiles now.disk new.disk (all_unmoved_slots now.pairs)) where
  pub files_stay : (b : ℕ) → occurrence_count b (file_blocks new.disk (all_slots new.pairs)) ≡ occurrence_count b (file_blocks now.disk (all_slots now.pairs))
  files_stay b = ap (λ z. occurrence_count b (file_blocks new.disk z)) (alike_slots now.pairs new.pairs alike)
      ∙ ap (occurrence_count b) (slots_files now.disk new.disk (all_slots now.pairs) geometry (subst (SameFiles now.disk new.disk) (unmoved_in (pairs_gstate now.pairs) none now.pairs) files))

  pub map_stays : (gone : List ℕ) → new.map ≡ now.map → HasMap now gone → HasMap new gone
  map_stays gone map_is h = record {
    owned = h.owned;
    are = subst (λ m. AreUsed m h.owned) (sym map_is) h.are;
    same = λ b.
        let f = files_stay b in
        let k = ap (occurrence_count b) (blocks_alike now.pairs new.pairs alike) in
        let u = count_used b new.disk new.pairs still in let v = count_used b now.disk now.pairs none in
        let s = h.same b in
        omega arith;
    once = h.once;
    size = ap length map_is ∙ h.size ∙ sym geometry.count;
  }
