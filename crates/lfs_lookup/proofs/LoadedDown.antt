-- The directories of a path, as their pairs are brought in turn.
use Rattle.std.proofs.Common.{ℕ, zero, suc, ◌≡◌, ◌<◌, ◌≤◌, ◌+◌, List, [], ◌∷◌, ◌++◌, length, map, take, drop, slice_get, Option, Some, None, Result, Ok, Err, refl, sym, ap, subst, ◌∙◌, arith, length-append}
use Rattle.std.specs.Prelude.{IfOk}
use Rattle.lfs_lookup.proofs.Common.{AllByRecursion, option_map_or, length-map, CachedBlocks, cache_limit, directory_pairs, directory_pair_count, ancestor_paths, Disk, read_count, Name, all_entries, Pair, root_address, Path, IsAccepted, each_append, each_left, each_right, each_weaker, active_block_at, KeptThread, ThreadView, OnlyReadsThread, ArePairsCached, KeepsCachedPairs, BecomesMostRecent, IsRecentlyUsed, CachedBlocksStayCached, pairs_at, joined_pairs, hard_tail_chain_from, LeadsToPair}
use Rattle.lfs_device.specs.declared.error.Error.{Error}
use Rattle.lfs_model.specs.tree.Tree.{address_at_path}
use Rattle.lfs_lookup.specs.CachedPairs.{AreDirectoriesCached, ArePairsRecentlyUsed, AreDirectoriesRecentlyUsed, AreFewOnePairDirectories, KeepsCachedDirectories}
use Rattle.lfs_lookup.proofs.Descended.{parents_on, take_on, take_whole}
use Rattle.lfs_lookup.proofs.Directories.{own_pairs}
use Rattle.lfs_lookup.proofs.RecentBlocks.{Passes, after, wider}
use Rattle.lfs_lookup.proofs.ShownFindings.{IsFirstAt}

-- ---- the pairs of a directory

abbrev many_at : List Pair → Option (ℕ × ℕ) → ℕ
many_at ps None = 0
many_at ps (Some at) = length (directory_pairs ps at)

pub length-pairs_on : (ps : List Pair) (path : Path) → length (pairs_at ps path) ≡ directory_pair_count ps path
length-pairs_on ps path = go (address_at_path (all_entries ps) (root_address ps) path)
  where
    go : (o : Option (ℕ × ℕ)) → length (option_map_or (directory_pairs ps) o []) ≡ many_at ps o
    go None = refl
    go (Some at) = refl

pub run_on_path : (t : KeptThread) (path : Path) (first : ℕ) → IsAccepted t.disk t.pairs → LeadsToPair t.pairs path first → joined_pairs (drop first t.pairs) ≡ pairs_at t.pairs path
run_on_path t path first ok on = own_pairs t.disk t.pairs path on.at first ok on.leads on.begins ∙ sym (ap (λ o. option_map_or (directory_pairs t.pairs) o []) on.leads)

-- and after calls that only read
pub run_same : (a b : KeptThread) (path : Path) (first : ℕ) → IsAccepted a.disk a.pairs → OnlyReadsThread a b → LeadsToPair a.pairs path first → joined_pairs (drop first b.pairs) ≡ pairs_at a.pairs path
run_same a b path first ok r on = ap (λ ps. joined_pairs (drop first ps)) r.pairs ∙ run_on_path a path first ok on

-- ---- the directories above

pub length-ancestor_paths : (path : Path) → length (ancestor_paths path) ≡ length path
length-ancestor_paths [] = refl
length-ancestor_paths (x ∷ path) = ap suc (length-map (ancestor_paths path) (λ (p : Path). x ∷ p) ∙ length-ancestor_paths path)

under : (P : Path → Type 0) (x : Name) (qs : List Path) → AllByRecursion P (map (λ q. x ∷ q) qs) → AllByRecursion (λ q. P (x ∷ q)) qs
under P x [] h = tt
under P x (q ∷ qs) h = (h.0, under P x qs h.1)

pub parent_at : (P : Path → Type 0) (path : Path) (i : ℕ) (n : Name) → slice_get path i ≡ Some n → AllByRecursion P (ancestor_paths path) → P (take i path)
parent_at P [] i n e h = absurd (cc)
parent_at P (x ∷ path) zero n e h = h.0
parent_at P (x ∷ path) (suc i) n e h = parent_at (λ q. P (x ∷ q)) path i n e (under P x (ancestor_paths path) h.1)

-- ---- one directory more

module _ (disk : Disk) (ps : List Pair) (q : Path) (run : List Pair) (is : run ≡ pairs_at ps q) (now : ThreadView) (same : now.kept.disk ≡ disk) where
  pub on_hand : (cache : CachedBlocks) → ArePairsRecentlyUsed cache_limit disk cache (pairs_at ps q) → CachedBlocksStayCached cache now.cache → ArePairsCached now run
  on_hand cache there stay =
      subst (ArePairsCached now) (sym is) (subst (λ d. ArePairsRecentlyUsed cache_limit d now.cache (pairs_at ps q)) (sym same)
      (each_weaker (λ (p : Pair). IsRecentlyUsed cache_limit cache (active_block_at disk p.at)) (λ (p : Pair). IsRecentlyUsed cache_limit now.cache (active_block_at disk p.at)) (λ p k. stay (active_block_at disk p.at) k) (pairs_at ps q) there))

  module _ {X : Type 0} (new : ThreadView) (x : X) (b : KeepsCachedPairs run now new (Ok x)) (n : ℕ) (few : n < cache_limit) (small : directory_pair_count ps q ≡ 1) where
    one_is : length run ≡ 1
    one_is = ap length is ∙ length-pairs_on ps q ∙ small

    last_of : (qs : List Pair) → length qs ≡ 1 → AllByRecursion (λ p. BecomesMostRecent (active_block_at now.kept.disk p.at) now.cache new.cache) qs → ArePairsRecentlyUsed (suc n) now.kept.disk new.cache qs
    last_of [] e h = absurd (omega (arith, e))
    last_of (p ∷ []) e h = (wider 1 (suc n) _ new.cache (omega arith) h.0.first, tt)
    last_of (p ∷ (r ∷ qs)) e h = absurd (omega (arith, e))

    further_of : (qs : List Pair) → length qs ≡ 1 → AllByRecursion (λ p. BecomesMostRecent (active_block_at now.kept.disk p.at) now.cache new.cache) qs → (c : ℕ) → IsRecentlyUsed n now.cache c → IsRecentlyUsed (suc n) new.cache c
    further_of [] e h = absurd (omega (arith, e))
    further_of (p ∷ qs) e h = λ c k. h.0.others n c few k

    pub recent_more : (qs : List Path) → AreDirectoriesRecentlyUsed n disk now.cache ps qs → AreDirectoriesRecentlyUsed (suc n) disk new.cache ps (qs ++ q ∷ [])
    recent_more qs h = each_append (λ (p : Path). ArePairsRecentlyUsed (suc n) disk new.cache (pairs_at ps p)) qs (q ∷ [])
        (each_weaker (λ (p : Path). ArePairsRecentlyUsed n disk now.cache (pairs_at ps p)) (λ (p : Path). ArePairsRecentlyUsed (suc n) disk new.cache (pairs_at ps p))
        (λ p k. each_weaker (λ (r : Pair). IsRecentlyUsed n now.cache (active_block_at disk r.at)) (λ (r : Pair). IsRecentlyUsed (suc n) new.cache (active_block_at disk r.at))
        (λ r z. further_of run one_is (b.one one_is) (active_block_at disk r.at) z) (pairs_at ps p) k) qs h)
        (subst (λ d. ArePairsRecentlyUsed (suc n) d new.cache (pairs_at ps q)) same (subst (ArePairsRecentlyUsed (suc n) now.kept.disk new.cache) is (last_of run one_is (b.one one_is))), tt)

-- ---- on the way

-- the directories above the first i names of a path were searched, in turn
pub record HasSearched (path : Path) (i : ℕ) (old now : ThreadView) : Type 0 where
  pub disk : now.kept.disk ≡ old.kept.disk
  pub none : AreDirectoriesCached old (ancestor_paths path) → read_count now.kept.history ≡ read_count old.kept.history
  pub stay : AreDirectoriesCached old (ancestor_paths path) → CachedBlocksStayCached old.cache now.cache
  pub recent : AreFewOnePairDirectories old.kept.pairs (ancestor_paths path) → AreDirectoriesRecentlyUsed i old.kept.disk now.cache old.kept.pairs (ancestor_paths (take i path))

-- what isn't all the way brings no more than that
abbrev pub StopsShort : {Y : Type 0} → (Y → Type 0) → Result Y Error → Type 1
StopsShort through s = (Q : Type 0) → IfOk s (λ x. through x → Q)

pub stops_none : {Y : Type 0} (through : Y → Type 0) (s : Result Y Error) (e : Error) → s ≡ Err e → StopsShort through s
stops_none through s e is = λ Q. subst (λ z. IfOk z (λ x. through x → Q)) (sym is) tt

module _ (old now : ThreadView) (path : Path) (i : ℕ) (name : Name) (at : slice_get path i ≡ Some name) (h : HasSearched path i old now)
    (run : List Pair) (is : run ≡ pairs_at old.kept.pairs (take i path)) (new : ThreadView) where
  there_now : AreDirectoriesCached old (ancestor_paths path) → ArePairsCached now run
  there_now there = on_hand old.kept.disk old.kept.pairs (take i path) run is now h.disk old.cache
      (parent_at (λ p. ArePairsRecentlyUsed cache_limit old.kept.disk old.cache (pairs_at old.kept.pairs p)) path i name at there) (h.stay there)

  pub searched_to_here : {X Y : Type 0} (r : Result X Error) (s : Result Y Error) (through : Y → Type 0) → KeepsCachedPairs run now new r → Passes r s → StopsShort through s → KeepsCachedDirectories through (ancestor_paths path) old new s
  searched_to_here r s through b pass short = record {
    none = λ there. b.none (there_now there) ∙ h.none there;
    stay = λ there. pass _ (after r (λ st x k. st x (h.stay there x k)) (b.stay (there_now there)));
    recent = λ small. short _;
  }

  pub searched_on : {X : Type 0} (x : X) → KeepsCachedPairs run now new (Ok x) → new.kept.disk ≡ now.kept.disk → i < length path → HasSearched path (i + 1) old new
  searched_on x b same within = record {
    disk = same ∙ h.disk;
    none = λ there. b.none (there_now there) ∙ h.none there;
    stay = λ there c k. b.stay (there_now there) c (h.stay there c k);
    recent = λ small. (
        let l = length-ancestor_paths path in
        let f = small.few in
        let next : suc i ≡ i + 1 = omega arith in
        subst (λ n. AreDirectoriesRecentlyUsed n old.kept.disk new.cache old.kept.pairs (ancestor_paths (take (i + 1) path))) next
        (subst (AreDirectoriesRecentlyUsed (suc i) old.kept.disk new.cache old.kept.pairs) (sym (ap ancestor_paths (take_on path i name at) ∙ parents_on (take i path) name))
        (recent_more old.kept.disk old.kept.pairs (take i path) run is now h.disk new x b i (omega (arith, l, f, within)) (parent_at (λ p. directory_pair_count old.kept.pairs p ≡ 1) path i name at small.small) (ancestor_paths (take i path)) (h.recent small)))
        );
  }

pub searched_all : {Y : Type 0} (old now : ThreadView) (path : Path) (i : ℕ) (y : Y) (through : Y → Type 0) → HasSearched path i old now → length path ≤ i → i ≤ length path → KeepsCachedDirectories through (ancestor_paths path) old now (Ok y)
searched_all old now path i y through h past within = record {
  none = h.none;
  stay = h.stay;
  recent = λ small all. (
      let l = length-ancestor_paths path in
      let e : i ≡ length (ancestor_paths path) = omega (arith, l, past, within) in
      subst (λ n. AreDirectoriesRecentlyUsed n old.kept.disk now.cache old.kept.pairs (ancestor_paths path)) e (subst (λ p. AreDirectoriesRecentlyUsed i old.kept.disk now.cache old.kept.pairs (ancestor_paths p)) (take_whole i path past) (h.recent small))
      );
}

-- ---- the last directory

-- the way ends before the last directory
pub down_short : {X Y : Type 0} (enters : X → Type 0) (through : Y → Type 0) (old new : ThreadView) (path above : Path) (name : Name) (r : Result X Error) (s : Result Y Error) → path ≡ above ++ name ∷ [] → Passes r s → StopsShort through s
    → KeepsCachedDirectories enters (ancestor_paths above) old new r → KeepsCachedDirectories through (ancestor_paths path) old new s
down_short enters through old new path above name r s is pass short b = record { none = λ there. b.none (upper there); stay = λ there. pass _ (b.stay (upper there)); recent = λ small. short _ }
  where
    upper : AreDirectoriesCached old (ancestor_paths path) → AreDirectoriesCached old (ancestor_paths above)
    upper there = each_left (λ p. ArePairsRecentlyUsed cache_limit old.kept.disk old.cache (pairs_at old.kept.pairs p)) (ancestor_paths above) (above ∷ []) (subst (AreDirectoriesCached old) (ap ancestor_paths is ∙ parents_on above name) there)

pub down_last : {X Y : Type 0} (enters : X → Type 0) (through : Y → Type 0) (old mid new : ThreadView) (path above : Path) (name : Name) (x : X) (s : Result Y Error) (run : List Pair) → path ≡ above ++ name ∷ []
    → KeepsCachedDirectories enters (ancestor_paths above) old mid (Ok x) → enters x → mid.kept.disk ≡ old.kept.disk → run ≡ pairs_at old.kept.pairs above → KeepsCachedPairs run mid new s → KeepsCachedDirectories through (ancestor_paths path) old new s
down_last {Y = Y} enters through old mid new path above name x s run is a all same are b = record {
  none = λ there. (let p = parted there in b.none (on_hand old.kept.disk old.kept.pairs above run are mid same old.cache p.1 (a.stay p.0)) ∙ a.none p.0);
  stay = λ there. (let p = parted there in after s (λ st c k. st c (a.stay p.0 c k)) (b.stay (on_hand old.kept.disk old.kept.pairs above run are mid same old.cache p.1 (a.stay p.0))));
  recent = λ small. ended small s b;
}
  where
    parents_are : ancestor_paths path ≡ ancestor_paths above ++ above ∷ []
    parents_are = ap ancestor_paths is ∙ parents_on above name

    parted : AreDirectoriesCached old (ancestor_paths path) → AreDirectoriesCached old (ancestor_paths above) × ArePairsRecentlyUsed cache_limit old.kept.disk old.cache (pairs_at old.kept.pairs above)
    parted there =
        let k = subst (AreDirectoriesCached old) parents_are there in
        let P : Path → Type 0 = λ p. ArePairsRecentlyUsed cache_limit old.kept.disk old.cache (pairs_at old.kept.pairs p) in
        (each_left P (ancestor_paths above) (above ∷ []) k, (each_right P (ancestor_paths above) (above ∷ []) k).0)

    ended : AreFewOnePairDirectories old.kept.pairs (ancestor_paths path) → (s : Result Y Error) → KeepsCachedPairs run mid new s → IfOk s (λ y. through y → AreDirectoriesRecentlyUsed (length (ancestor_paths path)) old.kept.disk new.cache old.kept.pairs (ancestor_paths path))
    ended small (Err e) b = tt
    ended small (Ok y) b = λ ends.
        let n = ap length parents_are ∙ length-append (ancestor_paths above) (above ∷ []) in
        let f = small.few in
        let k = subst (AllByRecursion (λ p. directory_pair_count old.kept.pairs p ≡ 1)) parents_are small.small in
        let Q : Path → Type 0 = λ p. directory_pair_count old.kept.pairs p ≡ 1 in
        let first = a.recent (record { few = omega (arith, n, f); small = each_left Q (ancestor_paths above) (above ∷ []) k }) all in
        let e : suc (length (ancestor_paths above)) ≡ length (ancestor_paths path) = omega (arith, n) in
        subst (λ m. AreDirectoriesRecentlyUsed m old.kept.disk new.cache old.kept.pairs (ancestor_paths path)) e
        (subst (AreDirectoriesRecentlyUsed (suc (length (ancestor_paths above))) old.kept.disk new.cache old.kept.pairs) (sym parents_are)
        (recent_more old.kept.disk old.kept.pairs above run are mid same new y b (length (ancestor_paths above)) (omega (arith, n, f)) (each_right Q (ancestor_paths above) (above ∷ []) k).0 (ancestor_paths above) first))

-- ---- a directory's own pairs

pub on_hand_above : (t : ThreadView) (path : Path) → AreDirectoriesCached t (ancestor_paths path ++ path ∷ []) → AreDirectoriesCached t (ancestor_paths path)
on_hand_above t path there = each_left (λ p. ArePairsRecentlyUsed cache_limit t.kept.disk t.cache (pairs_at t.kept.pairs p)) (ancestor_paths path) (path ∷ []) there

pub first_on_hand : (old mid : ThreadView) (path : Path) → IsAccepted old.kept.disk old.kept.pairs → OnlyReadsThread old.kept mid.kept → (from : Option ℕ) → IsFirstAt old.kept path from → CachedBlocksStayCached old.cache mid.cache
    → AreDirectoriesCached old (ancestor_paths path ++ path ∷ []) → ArePairsCached mid (hard_tail_chain_from mid.kept.pairs from)
first_on_hand old mid path ok r None at stay there = tt
first_on_hand old mid path ok r (Some first) at stay there =
    on_hand old.kept.disk old.kept.pairs path (joined_pairs (drop first mid.kept.pairs)) (run_same old.kept mid.kept path first ok r at) mid r.disk old.cache
    (each_right (λ p. ArePairsRecentlyUsed cache_limit old.kept.disk old.cache (pairs_at old.kept.pairs p)) (ancestor_paths path) (path ∷ []) there).0 stay

-- ---- at the end

pub hand_after : {X : Type 0} (a b : ThreadView) (through : X → Type 0) (paths : List Path) (r : Result X Error) → KeepsCachedDirectories through paths a b r → OnlyReadsThread a.kept b.kept → AreFewOnePairDirectories a.kept.pairs paths
    → IfOk r (λ x. through x → AreDirectoriesRecentlyUsed cache_limit b.kept.disk b.cache b.kept.pairs paths)
hand_after a b through paths (Err e) d only small = tt
hand_after a b through paths (Ok x) d only small = λ ends.
    subst (λ ps. AreDirectoriesRecentlyUsed cache_limit b.kept.disk b.cache ps paths) (sym only.pairs) (subst (λ disk. AreDirectoriesRecentlyUsed cache_limit disk b.cache a.kept.pairs paths) (sym only.disk)
    (each_weaker (λ (p : Path). ArePairsRecentlyUsed (length paths) a.kept.disk b.cache (pairs_at a.kept.pairs p)) (λ (p : Path). ArePairsRecentlyUsed cache_limit a.kept.disk b.cache (pairs_at a.kept.pairs p))
    (λ p k. each_weaker (λ (q : Pair). IsRecentlyUsed (length paths) b.cache (active_block_at a.kept.disk q.at)) (λ (q : Pair). IsRecentlyUsed cache_limit b.cache (active_block_at a.kept.disk q.at))
    (λ q z. wider (length paths) cache_limit _ b.cache small.few z) (pairs_at a.kept.pairs p) k) paths (d.recent small ends)))
