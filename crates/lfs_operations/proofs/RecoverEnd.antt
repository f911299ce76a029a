-- The end of a recovery: every pair was seen, and the sync bit is cleared.
use Rattle.lfs_operations.proofs.Common.{ℕ, suc, ◌≡◌, ◌+◌, ◌≤◌, ◌⊎◌, inl, inr, Bool, false, List, [], ◌∷◌, ◌++◌, length, take, Option, None, Result, Err, refl, sym, ap, subst, ◌∙◌, arith, append-nil, All-from_recursion, recursion_from_All, SameGeometry, fault_count, SurvivesLossSince, continued_directory_address, Gstate, Slot, zero_gstate, ThreadDirectory, Pair, pairs_blocks, pairs_from_root, pairs_gstate, count_before_root, IsAccepted, IsReachedDirectory, all_unmoved_slots, all_directories, disk_tree, IsWritable, SameSlots, alike_itself, SameFiles, Each, occurrence_count, each_weaker, SameFileBlocks, chain_of_thread, HasNoMove, NoneGoes, none_where, rest_all, AllReached, IsWritableChange, pairs_behind, KeptThread, ThreadView, ChangesThreadBlocks, Error, recovery_ends, AreUnreachedNumbers, AreUnreachedFrom, CanClearSync, HasCompletedRecovery, IsSyncCleared, ReportsRecovery, list_blocks_of_pairs, slots_of_pairs_at, HasSameBlocksInFlight, ReportsCommit}
use Rattle.lfs_model.specs.session.Recovery.{IsRecovered}
use Rattle.lfs_model.proofs.Changes.{follows_itself}
use Rattle.lfs_operations.proofs.Removed.{reports_again}
use Rattle.lfs_operations.proofs.RecoverLists.{each_at, files_kept, reported_once, files_itself}
use Rattle.lfs_model.proofs.RecoveryWay.{EachBegins, IsAtDrop, IsAtEnd, all_where, begins_weaker, goes_to}
use Rattle.lfs_operations.proofs.MovStep.{blocks_alike}
use Rattle.lfs_operations.proofs.RecoverMap.{HasMap, files_stay, map_stays}
use Rattle.lfs_operations.proofs.RecoverUnderWay.{IsUnderWay, StaysOn, survives_behind}
use Rattle.lfs_model.proofs.RootStays.{alike_stays}

-- ---- the sync bit

pub none_is : (g : Gstate) → HasNoMove g → g.sync ≡ false → g ≡ zero_gstate
none_is g h s = ap (λ (b : Bool). record { sync = b; kind = g.kind; id = g.id; pair = g.pair }) s
    ∙ ap (λ (k : ℕ). record { sync = false; kind = k; id = g.id; pair = g.pair }) h.kind
    ∙ ap (λ (k : ℕ). record { sync = false; kind = 0; id = k; pair = g.pair }) h.id
    ∙ ap (λ (k : ℕ × ℕ). record { sync = false; kind = 0; id = 0; pair = k }) h.pair

pub cleared_already : (t : KeptThread) → CanClearSync t → (pairs_gstate t.pairs).sync ≡ false → IsSyncCleared t t
cleared_already t can s = record {
  taken = record { follows = follows_itself t.disk t.pairs can.accepted; writable = can.writable };
  alike = alike_itself t.pairs;
  settled = none_is (pairs_gstate t.pairs) can.none s;
  map = refl;
  files = files_itself t.disk (all_unmoved_slots t.pairs);
}

-- ---- all pairs were seen

pub all_seen : (old now : KeptThread) (dropped : ℕ) → IsUnderWay old now dropped [] → IsAtEnd old.disk old.pairs now.disk now.pairs dropped (take (count_before_root old.pairs) old.pairs) []
all_seen old now dropped u = go (goes_to old.disk old.pairs now.disk now.pairs dropped (take (count_before_root old.pairs) old.pairs) u.seen u.todo u.parts u.kept [] u.way)
  where
    go : IsAtEnd old.disk old.pairs now.disk now.pairs dropped (take (count_before_root old.pairs) old.pairs) [] ⊎ IsAtDrop old.disk old.pairs now.disk now.pairs dropped (take (count_before_root old.pairs) old.pairs) []
        → IsAtEnd old.disk old.pairs now.disk now.pairs dropped (take (count_before_root old.pairs) old.pairs) []
    go (inl e) = e
    go (inr d) = absurd (let l = ap length d.is in omega arith)

module _ (old now : KeptThread) (dropped : ℕ) (u : IsUnderWay old now dropped []) where
  e : IsAtEnd old.disk old.pairs now.disk now.pairs dropped (take (count_before_root old.pairs) old.pairs) []
  e = all_seen old now dropped u

  abbrev C : List Pair
  C = take (count_before_root old.pairs) old.pairs

  leads_now : (a : ℕ × ℕ) → IsReachedDirectory old.pairs a → IsReachedDirectory (C ++ (e.kept ++ [])) a
  leads_now a (path, at, (l, s)) = (path, at, (ap (λ z. z path) e.way.is.taken.follows.leads ∙ l, s))

  all_reached : AllReached (C ++ (e.kept ++ []))
  all_reached = All-from_recursion (λ (d : ThreadDirectory). IsReachedDirectory (C ++ (e.kept ++ [])) d.at) (all_directories (C ++ (e.kept ++ [])))
      (subst (Each (λ (d : ThreadDirectory). IsReachedDirectory (C ++ (e.kept ++ [])) d.at)) (rest_all (all_directories (C ++ (e.kept ++ []))))
      (all_where (IsReachedDirectory (C ++ (e.kept ++ []))) (pairs_gstate (C ++ (e.kept ++ []))) None (pairs_from_root (C ++ (e.kept ++ [])))
      (subst (EachBegins (IsReachedDirectory (C ++ (e.kept ++ []))) None) (sym (pairs_behind C (e.kept ++ []) e.way.is.ready.is_chain))
      (subst (EachBegins (IsReachedDirectory (C ++ (e.kept ++ []))) None) (sym (append-nil e.kept))
      (begins_weaker (IsReachedDirectory old.pairs) (IsReachedDirectory (C ++ (e.kept ++ []))) leads_now None e.kept e.way.begins)))))

  pub can_end : CanClearSync now
  can_end = record {
    accepted = subst (IsAccepted now.disk) (sym e.way.there) e.way.is.ready.accepted;
    writable = subst (IsWritable now.disk) (sym e.way.there) e.way.is.ready.writable;
    none = subst (λ z. HasNoMove (pairs_gstate z)) (sym e.way.there) e.way.is.ready.no_move;
    reached = subst AllReached (sym e.way.there) all_reached;
  }

  pub shows_now : disk_tree now.disk now.pairs ≡ disk_tree old.disk old.pairs
  shows_now = ap (disk_tree now.disk) e.way.there ∙ e.way.is.taken.follows.shows

  pub ends : IsWritable old.disk old.pairs → 1024 ≤ old.disk.block_size → (new : KeptThread) (numbers : List ℕ) → AreUnreachedNumbers old.pairs numbers → ChangesThreadBlocks (pairs_blocks old.pairs) old new → StaysOn now new → IsSyncCleared now new → HasCompletedRecovery old numbers new
  ends fits large new numbers reported writes on c = record {
    ready = record {
      accepted = c.taken.follows.accepted;
      writable = c.taken.writable;
      settled = c.settled;
      used = record { owned = m.owned; are = m.are; same = λ b. let s = m.same b in let g = ap (occurrence_count b) all_gone in omega arith };
      size = m.size;
      large = let a = on.shape.block_size in let b = u.device.shape.block_size in omega arith;
    };
    stand = All-from_recursion (λ (s : Slot). SameFileBlocks old.disk new.disk s.struct) (slots_of_pairs_at old.pairs numbers)
        (each_at (λ (s : Slot). SameFileBlocks old.disk new.disk s.struct) old.pairs numbers (files_kept old new u.was e.way.no_move writes));
    lost = λ b. let l = u.lost b in let f = files_stay now new c.alike can_end.none still geometry files b in let g = ap (occurrence_count b) all_gone in omega arith;
    once = λ b. let s = m.same b in let o = m.once b in let g = ap (occurrence_count b) all_gone in omega arith;
    fewer = λ b. let l = u.fewer b in let k = ap (λ z. occurrence_count b z) (blocks_alike now.pairs new.pairs c.alike) in omega arith;
    flying = subst (HasSameBlocksInFlight old.map) (sym c.map) u.flying;
    root = alike_stays now.disk new.disk now.pairs new.pairs can_end.accepted c.taken.follows.accepted c.taken.follows.root c.alike
        ∙ ap count_before_root e.way.there ∙ e.way.is.ready.is_chain ∙ sym (ap count_before_root (chain_of_thread old.pairs).0 ∙ (chain_of_thread old.pairs).1);
    shows = c.taken.follows.shows ∙ shows_now;
    completed = λ s tree. recovery_ends old.disk old.pairs now.disk C e.seen e.parts e.kept new.disk new.pairs (λ d. d) s e.way.is fits
        (subst (λ z. IsWritableChange now.disk z new.disk new.pairs (λ t. t) (λ d. d)) e.way.there c.taken)
        (subst (λ z. SameSlots z new.pairs) (e.way.there ∙ ap (λ z. C ++ z) (append-nil e.kept)) c.alike) c.settled tree;
  }
    where
      all_gone : u.gone ≡ list_blocks_of_pairs old numbers
      all_gone = u.gone_are
          ∙ ap (list_blocks_of_pairs old) (reported_once (IsReachedDirectory old.pairs) (count_before_root old.pairs) None (pairs_from_root old.pairs) u.took numbers (subst (AreUnreachedNumbers old.pairs) (append-nil u.took) u.reported) reported)

      still : HasNoMove (pairs_gstate new.pairs)
      still = subst HasNoMove (sym c.settled) (record { kind = refl; id = refl; pair = refl })

      geometry : SameGeometry now.disk new.disk
      geometry = record { block_size = on.shape.block_size; page = on.shape.page; order = on.shape.order; profile = on.shape.profile; count = on.shape.count }

      files : SameFiles now.disk new.disk (all_unmoved_slots now.pairs)
      files = recursion_from_All (λ (s : Slot). SameFileBlocks now.disk new.disk s.struct) (all_unmoved_slots now.pairs) c.files

      m : HasMap new u.gone
      m = map_stays now new c.alike can_end.none still geometry files u.gone c.map u.map

  -- a power loss in the last step leaves the tree too
  pub end_survives : (new : KeptThread) → StaysOn now new → SurvivesLossSince now.disk now.history new.history (disk_tree now.disk now.pairs) (disk_tree now.disk now.pairs)
      → SurvivesLossSince old.disk old.history new.history (disk_tree old.disk old.pairs) (disk_tree old.disk old.pairs)
  end_survives new on last = survives_behind old now new u.device on shows_now u.survives last

-- ---- what the steps tell

pub reports_steps : {X Y : Type 0} (old mid new : ThreadView) (e : Error) (result : Result X Error) (given : Result Y Error) → fault_count mid.kept.history ≡ fault_count old.kept.history → result ≡ Err e → given ≡ Err e → ReportsCommit mid new result
    → ReportsRecovery old new given
reports_steps old mid new e result given quiet is same t =
    let k = reports_again mid new e result given is same t.failed t.reported in
    record {
      failed = k.failed;
      errors = k.reported.errors;
      fault = λ io. let f = k.reported.fault io in omega arith;
      no_fault = λ other. k.reported.no_fault other ∙ quiet;
    }

-- ---- if nothing is to recover

reported_none : (R : ℕ × ℕ → Type 0) (n : ℕ) (from : Option (ℕ × ℕ)) (xs : List Pair) (numbers : List ℕ) → NoneGoes (λ a. R a → ⊥) from xs → AreUnreachedFrom R n from xs numbers → numbers ≡ []
reported_none R n from [] numbers h reported = reported
reported_none R n from (x ∷ xs) numbers h (inl reported) = reported_none R (suc n) (continued_directory_address from x) xs numbers h.1 reported.1
reported_none R n from (x ∷ xs) numbers h (inr reported) = absurd (h.0 reported.1.1.0)

pub none_reported : (ps : List Pair) (numbers : List ℕ) → IsRecovered ps → AreUnreachedNumbers ps numbers → numbers ≡ []
none_reported ps numbers h reported = reported_none (IsReachedDirectory ps) (count_before_root ps) None (pairs_from_root ps) numbers
    (none_where (λ a. IsReachedDirectory ps a → ⊥) (pairs_gstate ps) None (pairs_from_root ps) (λ a k. absurd (cc))
    (subst (Each (λ (d : ThreadDirectory). (IsReachedDirectory ps d.at → ⊥) → ⊥)) (sym (rest_all (all_directories ps)))
    (each_weaker (λ (d : ThreadDirectory). IsReachedDirectory ps d.at) (λ (d : ThreadDirectory). (IsReachedDirectory ps d.at → ⊥) → ⊥) (λ d k n. n k) (all_directories ps)
    (recursion_from_All (λ (d : ThreadDirectory). IsReachedDirectory ps d.at) (all_directories ps) h.reached))))
    reported
