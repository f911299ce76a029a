-- The result of a change or a split, and what a power loss in it leaves, as a commit of the laws.
use Rattle.lfs_operations.proofs.Common.{ℕ, ◌≡◌, ◌≢◌, true, false, ◌⊎◌, inl, inr, ⊎_elim, ◌+◌, ◌<◌, ◌≤◌, List, [], ◌∷◌, ◌++◌, length, sym, ap, subst, ◌∙◌, arith, append-nil, nat_eq, cases_lt, Blocks, AreUsed, IsFree, ContentChange, Disk, block_count, HasEitherTree as IsLeftOf, SurvivesLossSince, with_blocks, Slot, Pair, pairs_blocks, pairs_gstate, count_before_root, Tree, IsAccepted, IsWritable, disk_tree, used_blocks, Contains-occurrence_count, occurrence_count-Contains, IsChangedImage, last_tail_is_hard, occurrence_count, once_from_distinct, count_append, HoldsAtLosses-weaker, Site, dirs_at, thread_at, IsDevice, CallEvent, CleanLossLeaves, KeptThread, IsDistinct, Contains, PathAddresses, LeftByCommitOrSplit, AreCommittedOrSplit, AreUsedBeforeMapUpdate, IsRecoveredWithTree, HasTreeBeforeMapUpdate, AddsNoneInFlight, KeepsNonFreeStates}
use Rattle.lfs_model.proofs.Committed.{commit_writable}
use Rattle.lfs_model.proofs.UsedCounts.{count_pairs, used_count_now, used_same}
use Rattle.lfs_model.proofs.Placing.{left_after, left_still}
use Rattle.lfs_model.proofs.RootStays.{root_stays}
use Rattle.lfs_operations.proofs.Splicing.{Commits, IsSplicing, accepted, commits, turn}
use Rattle.lfs_operations.proofs.MovTurned.{IsMapped, TurnedOn, TurnedTo, left_put, put_turned}

-- the pair became that, or that and a new one behind it, as the thread and the map say
pub record HasStep (t : KeptThread) (w : Site) (p : Pair) (l olds news r : List Slot) (gone come : List ℕ) (new : KeptThread) : Type 0 where
  pub q : Pair
  pub more : List Pair
  pub commit : Commits t w p l olds news r come new.disk q more
  pub pairs : new.pairs ≡ thread_at w (q ∷ more)
  pub used : AreUsedBeforeMapUpdate new.map (used_blocks new.disk new.pairs) gone come
  pub once : (b : ℕ) → occurrence_count b used.owned ≤ 1
  pub places : (b : ℕ) → Contains (pairs_blocks new.pairs) b → Contains (pairs_blocks t.pairs) b ⊎ IsFree t.map b
  pub size : length new.map ≡ block_count new.disk
  pub stays : KeepsNonFreeStates t.map new.map
  pub none_comes : AddsNoneInFlight t.map new.map

module _ (t : KeptThread) (index : ℕ) (changes : List ContentChange) (w : Site) (p : Pair) (l olds news r : List Slot) (gone come : List ℕ) (k : IsSplicing t index changes w p l olds news r gone come) where
  -- a block of the pairs was one before, or is one that came
  place_of : (b : ℕ) (now : List Pair) (fresh : List ℕ) → occurrence_count b (pairs_blocks now) ≡ occurrence_count b (pairs_blocks (p ∷ [])) + occurrence_count b fresh → Contains (pairs_blocks (thread_at w now)) b
      → Contains (pairs_blocks t.pairs) b ⊎ (1 ≤ occurrence_count b fresh)
  place_of b now fresh e has = go (cases_lt 0 (occurrence_count b fresh))
    where
      go : (0 < occurrence_count b fresh) ⊎ (occurrence_count b fresh ≤ 0) → Contains (pairs_blocks t.pairs) b ⊎ (1 ≤ occurrence_count b fresh)
      go (inl some) = inr some
      go (inr none) =
          let some = occurrence_count-Contains (pairs_blocks (thread_at w now)) b has in
          let c = count_pairs b w now in
          let d = count_pairs b w (p ∷ []) in
          let g = ap (λ z. occurrence_count b (pairs_blocks z)) k.there in
          inl (Contains-occurrence_count (pairs_blocks t.pairs) b (omega arith))

  mapped : IsMapped t
  mapped = record { used = k.ready.used; size = k.ready.size }

  pub put_step : (new : KeptThread) → AreCommittedOrSplit t index changes new → HasStep t w p l olds news r gone come new
  put_step new is = go (put_turned t index changes w p (l ++ (news ++ r)) p.content.move (turn t index changes w p l olds news r gone come k) mapped new is)
    where
      go : TurnedTo t w p (l ++ (news ++ r)) p.content.move new → HasStep t w p l olds news r gone come new
      go x =
          let commit = commits t index changes w p l olds news r gone come k new.disk x.q x.more x.turned x.fresh in
          record {
            q = x.q;
            more = x.more;
            commit = commit;
            pairs = x.pairs;
            used = record {
              owned = pairs_blocks x.more ++ used_blocks t.disk (thread_at w (p ∷ []));
              are = x.used (used_blocks t.disk (thread_at w (p ∷ []))) (subst (λ z. AreUsed t.map (used_blocks t.disk z)) k.there k.ready.used);
              same = λ b.
                  let e = used_count_now t.disk new.disk w p x.q x.more l olds news r gone come commit.commit (k.blocks new.disk commit.commit.device.geometry commit.files commit.come_same) b in
                  let f = ap (λ z. occurrence_count b (used_blocks new.disk z)) x.pairs in
                  let g = count_append b (pairs_blocks x.more) (used_blocks t.disk (thread_at w (p ∷ []))) in
                  omega arith;
            };
            once = λ b. once_from_distinct (pairs_blocks x.more ++ used_blocks t.disk (thread_at w (p ∷ []))) (subst (λ z. IsDistinct nat_eq (z ++ used_blocks t.disk (thread_at w (p ∷ [])))) (append-nil (pairs_blocks x.more)) x.turned.free.distinct) b;
            places = λ b has. ⊎_elim (λ was. inl was) (λ some. inr (x.fresh b some))
                (place_of b (x.q ∷ x.more) (pairs_blocks x.more) (let a = ap (λ (z : ℕ × ℕ). occurrence_count b (z.0 ∷ z.1 ∷ [])) x.turned.at in let c = count_append b (x.q.at.0 ∷ x.q.at.1 ∷ []) (pairs_blocks x.more) in omega arith)
                (subst (λ (z : List Pair). Contains (pairs_blocks z) b) x.pairs has));
            size = x.size ∙ k.ready.size ∙ sym x.shape.count;
            stays = x.stays;
            none_comes = x.none_comes;
          }

  -- ---- at a power loss

  -- Where each commit follows by that change of the tree, a power loss leaves the tree from before or from after it.
  abbrev pub AllFollow : (Tree → Tree) → Type 0
  AllFollow change = (disk : Disk) (q : Pair) (more : List Pair) → Commits t w p l olds news r come disk q more
      → (walk : PathAddresses → PathAddresses) × IsChangedImage t.disk (thread_at w (p ∷ [])) disk (thread_at w (q ∷ more)) change walk

  left_tree : (change : Tree → Tree) → AllFollow change → (last_tail_is_hard false (w.before ++ w.left) ≡ true → l ++ (news ++ r) ≢ []) → (left : Blocks) → LeftByCommitOrSplit t index changes left
      → IsLeftOf (with_blocks left t.disk) (disk_tree t.disk t.pairs) (change (disk_tree t.disk t.pairs))
  left_tree change follow filled left is = go (left_put t index changes w p (l ++ (news ++ r)) p.content.move (turn t index changes w p l olds news r gone come k) mapped left is)
    where
      go : IsDevice t.disk (with_blocks left t.disk) (thread_at w (p ∷ [])) (thread_at w (p ∷ [])) ⊎ TurnedOn t w p (l ++ (news ++ r)) p.content.move (with_blocks left t.disk)
          → IsLeftOf (with_blocks left t.disk) (disk_tree t.disk t.pairs) (change (disk_tree t.disk t.pairs))
      go (inl d) = left_still t.disk left (thread_at w (p ∷ [])) (accepted t index changes w p l olds news r gone come k) (subst (IsWritable t.disk) k.there k.ready.writable) d (inl (ap (disk_tree t.disk) (sym k.there)))
      go (inr x) =
          let c = commits t index changes w p l olds news r gone come k (with_blocks left t.disk) x.q x.more x.turned x.fresh in
          let f = follow (with_blocks left t.disk) x.q x.more c in
          left_after {walk = f.0} (record { follows = f.1; writable = commit_writable t.disk (with_blocks left t.disk) w p x.q x.more come l olds news r c.commit filled }) (inr (ap (λ z. change (disk_tree t.disk z)) (sym k.there)))

  pub survives : (change : Tree → Tree) → AllFollow change → (last_tail_is_hard false (w.before ++ w.left) ≡ true → l ++ (news ++ r) ≢ []) → (new : List CallEvent) → CleanLossLeaves t.history new (LeftByCommitOrSplit t index changes)
      → SurvivesLossSince t.disk t.history new (disk_tree t.disk t.pairs) (change (disk_tree t.disk t.pairs))
  survives change follow filled new stops clean = HoldsAtLosses-weaker (left_tree change follow filled) (stops clean)

  -- ---- what it shows

  pub becomes : (change : Tree → Tree) → AllFollow change → (last_tail_is_hard false (w.before ++ w.left) ≡ true → l ++ (news ++ r) ≢ []) → (new : KeptThread) → HasStep t w p l olds news r gone come new
      → HasTreeBeforeMapUpdate t new (change (disk_tree t.disk t.pairs)) gone come
  becomes change follow filled new x =
      let f = (follow new.disk x.q x.more x.commit).1 in
      record {
        ready = record {
          accepted = subst (IsAccepted new.disk) (sym x.pairs) f.accepted;
          writable = subst (IsWritable new.disk) (sym x.pairs) (commit_writable t.disk new.disk w p x.q x.more come l olds news r x.commit.commit filled);
          settled = ap pairs_gstate x.pairs ∙ x.commit.commit.still;
          used = x.used;
          size = x.size;
          large = subst (λ n. 1024 ≤ n) (sym x.commit.commit.device.geometry.block_size) k.ready.large;
        };
        shows = ap (disk_tree new.disk) x.pairs ∙ f.shows ∙ ap (λ z. change (disk_tree t.disk z)) (sym k.there);
        stays = x.stays;
        none_comes = x.none_comes;
        root = ap count_before_root x.pairs
            ∙ root_stays t.disk new.disk w.chain (dirs_at w (p ∷ [])) (dirs_at w (x.q ∷ x.more)) k.site.chain (accepted t index changes w p l olds news r gone come k) f.accepted f.root
            ∙ sym (ap count_before_root k.there);
      }

-- where no block came or went
pub ready_again : (t new : KeptThread) (tree : Tree) → HasTreeBeforeMapUpdate t new tree [] [] → IsRecoveredWithTree t new tree
ready_again t new tree h = record {
  ready = record {
    accepted = h.ready.accepted;
    writable = h.ready.writable;
    settled = h.ready.settled;
    used = used_same new.map h.ready.used.owned (used_blocks new.disk new.pairs) (λ b. let e = h.ready.used.same b in omega arith) h.ready.used.are;
    size = h.ready.size;
    large = h.ready.large;
  };
  shows = h.shows;
  stays = h.stays;
  none_comes = h.none_comes;
  root = h.root;
}
