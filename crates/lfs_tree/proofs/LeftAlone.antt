-- Blocks of pairs that an operation doesn't concern.
use Rattle.std.proofs.Common.{ℕ, zero, suc, ◌+◌, ◌<◌, ◌≤◌, ◌≢◌, length, ◌≡◌, ◌⊎◌, inl, inr, ◌∙◌, true, false, cond, List, [], ◌∷◌, ◌++◌, Some, slice_get, slice_index_or, nat_eq, refl, sym, ap, subst, arith, append_assoc}
use Rattle.std.specs.Prelude.{All, Any, Contains}
use Rattle.lfs_tree.proofs.Common.{AllByRecursion, All-from_recursion, same_Some, Contains-occurrence_count, file_blocks, AreUsed, IsFree, HoldsSlotOfPath, KeepsUnrelatedBlocks, changed_paths, Disk, disk_block, IsPairAt, IsDirectoryPair, HasHardTail, IsPositionOfName, Name, same_name, Operation, Session, IsDirectoryAtPath, all_unmoved_slots, struct_blocks, used_blocks, Slot, same_pair, Pair, pairs_blocks, Path, last_name, IsAccepted, Each, occurrence_count, count_append, count_here, each_from_counted, each_pieces, each_weaker, once_from_distinct, last_is, HoldsForSome, among_right, KeptThread, ChangesThreadBlocks, empty_anchor, thread_pair, KeepsListBytes, ChangesPathPair}
use Rattle.std.specs.List.{IsDistinct}
use Rattle.lfs_model.specs.crash.Frame.{IsEntryNamed, directory_pairs, tail_pairs}
use Rattle.lfs_model.proofs.Alone.{left_alone, others_left_alone, own_blocks}
use Rattle.lfs_model.proofs.Paths.{parent_is, same_itself}
use Rattle.lfs_model.proofs.Searches.{avoids_front}
use Rattle.lfs_model.proofs.Sites.{any_from}
use Rattle.lfs_operations.proofs.AlteredBehind.{owner_counted, same_owner}
use Rattle.lfs_operations.proofs.Splicing.{not_used}
use Rattle.lfs_tree.proofs.Carried.{IsPairsOrFree, apart_files, lists_from}

-- ---- the slot of a path

pub contains_among : (p : Pair) (xs : List Pair) → HoldsForSome (λ y. y ≡ p) xs → Contains xs p
contains_among p xs h = let a = any_from (λ y. y ≡ p) xs h in (a.0, a.2, subst (λ z. slice_index_or xs a.0 z ≡ z) a.4 a.3)

pub pair_there : (ps : List Pair) (index : ℕ) → index < length ps → Contains ps (slice_index_or ps index empty_anchor)
pair_there ps index low = (index, low, any_default ps index low empty_anchor (slice_index_or ps index empty_anchor))
  where
    any_default : (xs : List Pair) (i : ℕ) → i < length xs → (d e : Pair) → slice_index_or xs i e ≡ slice_index_or xs i d
    any_default [] i l d e = absurd (omega arith)
    any_default (x ∷ xs) zero l d e = refl
    any_default (x ∷ xs) (suc i) l d e = any_default xs i (omega arith) d e

head_among : (p : Pair) (rest : List Pair) → HoldsForSome (λ y. y ≡ p) (tail_pairs p rest)
head_among p [] = inl refl
head_among p (q ∷ rest) = inl refl

-- hard tails lead to it
run_has : (first : Pair) (left : List Pair) (p : Pair) (rest : List Pair) → Each HasHardTail (first ∷ left) → HoldsForSome (λ y. y ≡ p) (tail_pairs first (left ++ p ∷ rest))
run_has first [] p rest h = inr (subst (λ b. HoldsForSome (λ y. y ≡ p) (cond b (tail_pairs p rest) [])) (sym h.0) (head_among p rest))
run_has first (m ∷ left) p rest h = inr (subst (λ b. HoldsForSome (λ y. y ≡ p) (cond b (tail_pairs m (left ++ p ∷ rest)) [])) (sym h.0) (run_has m left p rest h.1))

pairs_past : (xs ys : List Pair) (a : ℕ × ℕ) → Each (λ x. same_pair x.at a ≡ false) xs → directory_pairs (xs ++ ys) a ≡ directory_pairs ys a
pairs_past [] ys a h = refl
pairs_past (x ∷ xs) ys a h = ap (λ b. cond b (tail_pairs x (xs ++ ys)) (directory_pairs (xs ++ ys) a)) h.0 ∙ pairs_past xs ys a h.1

get_behind : (xs : List Pair) (p : Pair) (ys : List Pair) → slice_get (xs ++ p ∷ ys) (length xs) ≡ Some p
get_behind [] p ys = refl
get_behind (x ∷ xs) p ys = get_behind xs p ys

-- the pairs from the one at an address on
pairs_from : (ps front : List Pair) (y : Pair) (ys : List Pair) (at : ℕ × ℕ) (first : ℕ) → IsDistinct nat_eq (pairs_blocks ps) → ps ≡ front ++ y ∷ ys → length front ≡ first → IsPairAt ps at first → directory_pairs ps at ≡ tail_pairs y ys
pairs_from ps front y ys at first distinct is number b =
    let there : b.pair ≡ y = same_Some b.pair y (sym b.there ∙ ap (λ z. slice_get z first) is ∙ ap (slice_get (front ++ y ∷ ys)) (sym number) ∙ get_behind front y ys) in
    let same : same_pair y.at at ≡ true = ap (λ (z : Pair). same_pair z.at at) (sym there) ∙ b.same in
    ap (λ z. directory_pairs z at) is
    ∙ pairs_past front (y ∷ ys) at (avoids_front front y ys at (subst (λ z. IsDistinct nat_eq (pairs_blocks z)) is distinct) same)
    ∙ ap (λ t. cond t (tail_pairs y ys) (directory_pairs ys at)) same

-- a pair of the directory is among its pairs
among_pairs : (ps : List Pair) (at : ℕ × ℕ) (first index : ℕ) (p : Pair) (rest : List Pair) → IsDistinct nat_eq (pairs_blocks ps) → IsPairAt ps at first → IsDirectoryPair ps first index p rest → HoldsForSome (λ y. y ≡ p) (directory_pairs ps at)
among_pairs ps at first index p rest distinct b place = go place.left place.parts place.joined
  where
    go : (left : List Pair) → ps ≡ place.front ++ (left ++ p ∷ rest) → AllByRecursion HasHardTail left → HoldsForSome (λ y. y ≡ p) (directory_pairs ps at)
    go [] is joined = subst (HoldsForSome (λ y. y ≡ p)) (sym (pairs_from ps place.front p rest at first distinct is place.begins b)) (head_among p rest)
    go (y ∷ left) is joined = subst (HoldsForSome (λ z. z ≡ p)) (sym (pairs_from ps place.front y (left ++ p ∷ rest) at first distinct is place.begins b)) (run_has y left p rest joined)

-- the pair with the last name of a path has the path's slot
pub holds_slot : (ps : List Pair) (above : Path) (at : ℕ × ℕ) (first : ℕ) (name : Name) (index id : ℕ) → IsDistinct nat_eq (pairs_blocks ps) → IsDirectoryAtPath ps above at → IsPairAt ps at first → (s : IsPositionOfName ps first name index id)
    → HoldsSlotOfPath ps s.pair (above ++ name ∷ [])
holds_slot ps above at first name index id distinct leads b s = (
  at,
  (
    subst (λ z. IsDirectoryAtPath ps z at) (sym (parent_is above name)) leads,
    contains_among s.pair (directory_pairs ps at) (among_pairs ps at first index s.pair s.rest distinct b s.place),
    any_from (IsEntryNamed (last_name (above ++ name ∷ []))) s.pair.content.slots
        (subst (HoldsForSome (IsEntryNamed (last_name (above ++ name ∷ [])))) (sym s.stands.held)
        (among_right (IsEntryNamed (last_name (above ++ name ∷ []))) s.stands.left (s.stands.slot ∷ s.stands.right)
        (inl (s.stands.entry, ap (λ z. same_name z s.stands.slot.name) (last_is above name ∙ sym s.stands.named) ∙ same_itself s.stands.slot.name)))),
  ),
)

pub about_one : (P : Path → Type 0) (given path : Path) → given ≡ path → P path → Any P (given ∷ [])
about_one P given path e h = (0, given, omega arith, refl, subst P (sym e) h)

-- ---- one pair is written

-- and blocks that were free; it changed what it holds, or holds a slot that the operation is about
pub rest_left_alone : (t c : KeptThread) (first index : ℕ) (p : Pair) (rest : List Pair) (fresh : List ℕ) (s : Session) (op : Operation) → IsAccepted t.disk t.pairs → AreUsed t.map (used_blocks t.disk t.pairs)
    → IsDirectoryPair t.pairs first index p rest → AllByRecursion (IsFree t.map) fresh → ChangesThreadBlocks (p.at.0 ∷ p.at.1 ∷ fresh) t c → (Contains c.pairs p → (Any (HoldsSlotOfPath t.pairs p) (changed_paths s op) → ⊥) → ⊥)
    → KeepsUnrelatedBlocks t.disk t.pairs s op c.disk c.pairs
rest_left_alone t c first index p rest fresh s op accepted used place free w changed =
    others_left_alone t.disk c.disk t.pairs c.pairs (place.front ++ place.left) rest p s op (p.at.0 ∷ p.at.1 ∷ fresh) accepted (place.parts ∙ sym (append_assoc place.front place.left (p ∷ rest))) (
      inl refl,
      (inr (inl refl), each_weaker (IsFree t.map) (λ b. (b ≡ p.at.0) ⊎ ((b ≡ p.at.1) ⊎ (occurrence_count b (used_blocks t.disk t.pairs) ≡ 0))) (λ b f. inr (inr (not_used t.map (used_blocks t.disk t.pairs) used b f))) fresh free),
    )
    w.others changed

-- ---- the pair that holds the slot of a path

among_contained : (p : Pair) (xs : List Pair) → Contains xs p → HoldsForSome (λ y. y ≡ p) xs
among_contained p [] (k, l, e) = absurd (omega arith)
among_contained p (x ∷ xs) (zero, l, e) = inl e
among_contained p (x ∷ xs) (suc k, l, e) = inr (among_contained p xs (k, omega arith, e))

pub first_owned : (p : Pair) → 1 ≤ occurrence_count p.at.0 (own_blocks p)
first_owned p = let k = count_here p.at.0 (p.at.1 ∷ []) in omega arith

pub second_owned : (p : Pair) → 1 ≤ occurrence_count p.at.1 (own_blocks p)
second_owned p = let k = count_here p.at.1 [] in let c = count_append p.at.1 (p.at.0 ∷ []) (p.at.1 ∷ []) in omega arith

module _ (disk new : Disk) (ps qs : List Pair) (path : Path) (ok : IsAccepted disk ps) (k : ChangesPathPair disk ps path new) where
  parts : (b : ℕ) → occurrence_count b (used_blocks disk ps) ≡ occurrence_count b (pairs_blocks ps) + occurrence_count b (file_blocks disk (all_unmoved_slots ps))
  parts b = count_append b (pairs_blocks ps) (file_blocks disk (all_unmoved_slots ps))

  once : (b : ℕ) → occurrence_count b (used_blocks disk ps) ≤ 1
  once b = once_from_distinct (used_blocks disk ps) ok.owned_once b

  owner : HoldsForSome (λ z. z ≡ k.pair) ps
  owner = among_contained k.pair ps k.there

  of_file : (b c : ℕ) → 1 ≤ occurrence_count c (own_blocks k.pair) → 1 ≤ occurrence_count b (file_blocks disk (all_unmoved_slots ps)) → b ≢ c
  of_file b c own some e =
      let o = owner_counted c k.pair ps owner own in let m = ap (λ z. occurrence_count z (pairs_blocks ps)) e in let u = parts b in let l = once b in absurd (omega arith)

  of_other : (x : Pair) → HoldsForSome (λ z. z ≡ x) ps → (HoldsSlotOfPath ps x path → ⊥) → (b c : ℕ) → 1 ≤ occurrence_count b (own_blocks x) → 1 ≤ occurrence_count c (own_blocks k.pair) → b ≢ c
  of_other x h n b c some own e =
      n (subst (λ z. HoldsSlotOfPath ps z path) (same_owner b ps k.pair x (let u = parts b in let l = once b in omega arith) owner h (subst (λ z. 1 ≤ occurrence_count z (own_blocks k.pair)) (sym e) own) some) k.holds)

  block_stays : (x : Pair) → HoldsForSome (λ z. z ≡ x) ps → (HoldsSlotOfPath ps x path → ⊥) → (b : ℕ) → 1 ≤ occurrence_count b (own_blocks x) → disk_block new b ≡ disk_block disk b
  block_stays x h n b some =
      k.others b (Contains-occurrence_count (used_blocks disk ps) b (let o = owner_counted b x ps h some in let u = parts b in omega arith))
      (of_other x h n b k.pair.at.0 some (first_owned k.pair)) (of_other x h n b k.pair.at.1 some (second_owned k.pair))

  -- every block of a list keeps its bytes
  pub files_of_alone : KeepsListBytes disk ps new
  files_of_alone = lists_from disk new ps (λ b some. k.others b (Contains-occurrence_count (used_blocks disk ps) b (let u = parts b in omega arith)) (of_file b k.pair.at.0 (first_owned k.pair) some) (of_file b k.pair.at.1 (second_owned k.pair) some))

  -- an operation on the path leaves the other blocks alone
  pub pair_of_alone : (s : Session) (op : Operation) → changed_paths s op ≡ path ∷ [] → KeepsUnrelatedBlocks disk ps s op new qs
  pair_of_alone s op about = record {
    files = files_of_alone;
    pairs = λ x a b n.
        let h = among_contained x ps a in
        let m : HoldsSlotOfPath ps x path → ⊥ = λ z. n (subst (Any (HoldsSlotOfPath ps x)) (sym about) (about_one (HoldsSlotOfPath ps x) path path refl z)) in
        (block_stays x h m x.at.0 (first_owned x), block_stays x h m x.at.1 (second_owned x));
  }

-- ---- several pairs are written

-- a block of a pair that holds the slot of one of the paths, or doesn't stay with what it held
pub record IsConcerned (ps : List Pair) (paths : List Path) (qs : List Pair) (b : ℕ) : Type 0 where
  pub pair : Pair
  pub there : Contains ps pair
  pub own : 1 ≤ occurrence_count b (own_blocks pair)
  pub why : Any (HoldsSlotOfPath ps pair) paths ⊎ (Contains qs pair → ⊥)

abbrev pub IsConcernedOrFree : KeptThread → List Path → List Pair → ℕ → Type 0
IsConcernedOrFree t paths qs b = IsConcerned t.pairs paths qs b ⊎ IsFree t.map b

-- both blocks of such a pair
pub concerned_pair : (t : KeptThread) (paths : List Path) (qs : List Pair) (index : ℕ) → index < length t.pairs → Any (HoldsSlotOfPath t.pairs (thread_pair t index)) paths ⊎ (Contains qs (thread_pair t index) → ⊥)
    → IsConcernedOrFree t paths qs (thread_pair t index).at.0 × IsConcernedOrFree t paths qs (thread_pair t index).at.1
concerned_pair t paths qs index low why =
    let p = thread_pair t index in
    let there = pair_there t.pairs index low in
    (inl (record { pair = p; there = there; own = first_owned p; why = why }), inl (record { pair = p; there = there; own = second_owned p; why = why }))

concerned_pairs : (t : KeptThread) (paths : List Path) (qs : List Pair) (b : ℕ) → IsConcernedOrFree t paths qs b → IsPairsOrFree t b
concerned_pairs t paths qs b (inl k) = inl (Contains-occurrence_count (pairs_blocks t.pairs) b (owner_counted b k.pair t.pairs (among_contained k.pair t.pairs k.there) k.own))
concerned_pairs t paths qs b (inr free) = inr free

module _ (t c : KeptThread) (s : Session) (op : Operation) (bs : List ℕ) (ok : IsAccepted t.disk t.pairs) (used : AreUsed t.map (used_blocks t.disk t.pairs)) (each : AllByRecursion (IsConcernedOrFree t (changed_paths s op) c.pairs) bs) (w : ChangesThreadBlocks bs t c) where
  among_used : (x : Pair) (b : ℕ) → Contains t.pairs x → 1 ≤ occurrence_count b (own_blocks x) → 1 ≤ occurrence_count b (used_blocks t.disk t.pairs)
  among_used x b a own = let o = owner_counted b x t.pairs (among_contained x t.pairs a) own in let u = count_append b (pairs_blocks t.pairs) (file_blocks t.disk (all_unmoved_slots t.pairs)) in omega arith

  -- a pair that stays and isn't concerned has none of these blocks
  apart_pair : (x : Pair) → Contains t.pairs x → Contains c.pairs x → (Any (HoldsSlotOfPath t.pairs x) (changed_paths s op) → ⊥) → (b : ℕ) → 1 ≤ occurrence_count b (own_blocks x) → All (λ y. y ≢ b) bs
  apart_pair x a stays n b own = All-from_recursion (λ y. y ≢ b) bs (each_weaker (IsConcernedOrFree t (changed_paths s op) c.pairs) (λ y. y ≢ b) other bs each)
    where
      other : (y : ℕ) → IsConcernedOrFree t (changed_paths s op) c.pairs y → y ≢ b
      other y (inl k) e = go k.why
        where
          same : k.pair ≡ x
          same = same_owner b t.pairs k.pair x
              (let u = count_append b (pairs_blocks t.pairs) (file_blocks t.disk (all_unmoved_slots t.pairs)) in let l = once_from_distinct (used_blocks t.disk t.pairs) ok.owned_once b in omega arith)
              (among_contained k.pair t.pairs k.there) (among_contained x t.pairs a) (subst (λ z. 1 ≤ occurrence_count z (own_blocks k.pair)) e k.own) own

          go : Any (HoldsSlotOfPath t.pairs k.pair) (changed_paths s op) ⊎ (Contains c.pairs k.pair → ⊥) → ⊥
          go (inl holds) = n (subst (λ z. Any (HoldsSlotOfPath t.pairs z) (changed_paths s op)) same holds)
          go (inr gone) = gone (subst (Contains c.pairs) (sym same) stays)
      other y (inr free) e =
          let none = not_used t.map (used_blocks t.disk t.pairs) used y free in
          let m = ap (λ z. occurrence_count z (used_blocks t.disk t.pairs)) e in
          let k = among_used x b a own in
          absurd (omega arith)

  pub concerned_alone : KeepsUnrelatedBlocks t.disk t.pairs s op c.disk c.pairs
  concerned_alone = left_alone t.disk c.disk t.pairs c.pairs s op bs w.others
      (each_pieces (λ b. All (λ y. y ≢ b) bs) (λ (u : Slot). struct_blocks t.disk u.struct) (all_unmoved_slots t.pairs)
      (each_from_counted (λ b. All (λ y. y ≢ b) bs) (file_blocks t.disk (all_unmoved_slots t.pairs))
      (λ b some. apart_files t bs ok used (each_weaker (IsConcernedOrFree t (changed_paths s op) c.pairs) (IsPairsOrFree t) (concerned_pairs t (changed_paths s op) c.pairs) bs each) b some)))
      (λ x a stays n. (apart_pair x a stays n x.at.0 (first_owned x), apart_pair x a stays n x.at.1 (second_owned x)))
