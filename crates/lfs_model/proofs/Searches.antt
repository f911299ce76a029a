-- What a search in a directory's pairs says of an accepted image: where a name stands, or where it belongs.
use Rattle.std.proofs.Common.{ℕ, zero, suc, ◌≡◌, ◌≢◌, ◌⊎◌, inl, inr, ◌+◌, ◌≤◌, true, false, cond, not, List, [], ◌∷◌, ◌++◌, length, take, drop, Option, Some, None, refl, sym, ap, ap₂, subst, ◌∙◌, arith, append_assoc, length-append, Less, slice_get}
use Rattle.std.specs.Prelude.{All}
use Rattle.std.specs.List.{IsDistinct}
use Rattle.std.proofs.Common.{nat_eq}
use Rattle.lfs_model.proofs.Common.{filter-append, recursion_from_All, flat_map-append, same_Some, false_from_ne_true, Disk, Name, name_cmp, Slot, is_superblock, same_pair, Pair, is_hard_tail, pairs_blocks, pairs_gstate, count_before_root, pairs_from_root, Path, IsAccepted, IsFileOrDirectory, IsDirectoryAtPath, all_entries, slot_of_path, directory_pair_count, entry_slots, all_slots}
use Rattle.lfs_model.specs.crash.Frame.{tail_pairs, directory_pairs}
use Rattle.lfs_model.specs.session.InDirectory.{BeginsWithGreaterName, HaveNoSuperblock, HasHardTail, joined_pair_count, AreJoinedByHardTails, last_has_hard_tail, IsDirectoryPair, IsPairAt, IsPositionOfName, IsInsertionPosition}
use Rattle.lfs_model.proofs.Counts.{Each, each_append, each_right, each_weaker}
use Rattle.lfs_model.proofs.Global.{HasNoMove}
use Rattle.lfs_model.proofs.PairLists.{get_behind}
use Rattle.lfs_model.proofs.Pairs.{pair_back, pair_on}
use Rattle.lfs_model.proofs.Listings.{IsRun, blocks_avoid}
use Rattle.lfs_model.proofs.Names.{IsPlace, Rise}
use Rattle.lfs_model.proofs.Sites.{Site, thread_at, IsSite, begin_of}
use Rattle.lfs_model.proofs.Moves.{place_at, shown_before, shown_behind}
use Rattle.lfs_model.proofs.Superblocks.{entry_is_other}
use Rattle.lfs_model.proofs.Found.{HasDirectory, chain_of_thread, led_directory}
use Rattle.lfs_model.proofs.Indexes.{IsInDirectory, site_in_directory, site_shows, slot_found, less_before, greater_behind, place_between, rise_right}

-- ---- by an address

-- no block comes twice, so at most one pair is at an address
each_at : (P : Pair → Type 0) (xs : List Pair) (i : ℕ) (p : Pair) → Each P xs → slice_get xs i ≡ Some p → P p
each_at P [] i p h e = absurd (cc)
each_at P (x ∷ xs) zero p h e = subst P (same_Some x p e) h.0
each_at P (x ∷ xs) (suc i) p h e = each_at P xs i p h.1 e

not_again : (x : Pair) (xs : List Pair) (j : ℕ) (p q : Pair) → Each (λ r. same_pair x.at r.at ≡ false) xs → x ≡ p → slice_get xs j ≡ Some q → same_pair p.at q.at ≡ true → ⊥
not_again x xs j p q h e f s = absurd (let k = each_at (λ r. same_pair x.at r.at ≡ false) xs j q h f in let m = ap (λ (y : Pair). same_pair y.at q.at) e in cc)

pub same_number : (xs : List Pair) (i j : ℕ) (p q : Pair) → IsDistinct nat_eq (pairs_blocks xs) → slice_get xs i ≡ Some p → slice_get xs j ≡ Some q → same_pair p.at q.at ≡ true → i ≡ j
unfolding IsDistinct
same_number [] i j p q h e f s = absurd (cc)
same_number (x ∷ xs) zero zero p q h e f s = refl
same_number (x ∷ xs) zero (suc j) p q h e f s = absurd (not_again x xs j p q (blocks_avoid x.at xs h.0.1) (same_Some x p e) f s)
same_number (x ∷ xs) (suc i) zero p q h e f s = absurd (not_again x xs i q p (blocks_avoid x.at xs h.0.1) (same_Some x q f) e (pair_back p.at q.at s))
same_number (x ∷ xs) (suc i) (suc j) p q h e f s = ap suc (same_number xs i j p q h.1.1 e f s)

-- the pair at a directory's address is the directory's first
pub record IsDirectory (ps : List Pair) (a : ℕ × ℕ) (first : ℕ) : Type 0 where
  pub directory : HasDirectory (pairs_from_root ps) a
  pub number : first ≡ count_before_root ps + length directory.before

pub begins_directory : (disk : Disk) (ps : List Pair) (P : Path) (a : ℕ × ℕ) (first : ℕ) → IsAccepted disk ps → IsDirectoryAtPath ps P a → IsPairAt ps a first → IsDirectory ps a first
begins_directory disk ps P a first ok leads b = record { directory = d; number = number }
  where
    d : HasDirectory (pairs_from_root ps) a
    d = led_directory disk ps P a ok leads

    chain : List Pair
    chain = take (count_before_root ps) ps

    chain_length : length (take (count_before_root ps) ps) ≡ count_before_root ps
    chain_length = let e = chain_of_thread ps in sym (ap count_before_root e.0 ∙ e.1)

    whole : ps ≡ (take (count_before_root ps) ps ++ d.before) ++ (d.first ∷ (d.run ++ d.after))
    whole = (chain_of_thread ps).0 ∙ ap (λ z. take (count_before_root ps) ps ++ z) d.is ∙ sym (append_assoc (take (count_before_root ps) ps) d.before (d.first ∷ (d.run ++ d.after)))

    there : slice_get ps (length (take (count_before_root ps) ps ++ d.before)) ≡ Some d.first
    there = ap (λ z. slice_get z (length (take (count_before_root ps) ps ++ d.before))) whole ∙ get_behind (take (count_before_root ps) ps ++ d.before) d.first (d.run ++ d.after)

    number : first ≡ count_before_root ps + length d.before
    number =
        let e = same_number ps first (length (take (count_before_root ps) ps ++ d.before)) b.pair d.first ok.thread.distinct b.there there (pair_on b.pair.at a d.first.at b.same (pair_back d.first.at a d.at)) in
        omega (arith, e, length-append (take (count_before_root ps) ps) d.before, chain_length)

-- the pairs in front aren't at that address
pub avoids_front : (xs : List Pair) (p : Pair) (ys : List Pair) (a : ℕ × ℕ) → IsDistinct nat_eq (pairs_blocks (xs ++ p ∷ ys)) → same_pair p.at a ≡ true → Each (λ x. same_pair x.at a ≡ false) xs
unfolding IsDistinct
avoids_front [] p ys a h s = tt
avoids_front (x ∷ xs) p ys a h s = (
  false_from_ne_true (same_pair x.at a) (λ e. not_again x (xs ++ p ∷ ys) (length xs) x p (blocks_avoid x.at (xs ++ p ∷ ys) h.0.1) refl (get_behind xs p ys) (pair_on x.at a p.at e (pair_back p.at a s))),
  avoids_front xs p ys a h.1.1 s,
)

-- nor are those after
pub avoids_behind : (xs : List Pair) (p : Pair) (ys : List Pair) (a : ℕ × ℕ) → IsDistinct nat_eq (pairs_blocks (xs ++ p ∷ ys)) → same_pair p.at a ≡ true → Each (λ x. same_pair x.at a ≡ false) ys
unfolding IsDistinct
avoids_behind [] p ys a h s = each_weaker (λ (x : Pair). same_pair p.at x.at ≡ false) (λ (x : Pair). same_pair x.at a ≡ false)
    (λ x e. false_from_ne_true (same_pair x.at a) (λ t. let k = pair_on p.at a x.at s (pair_back x.at a t) in absurd (cc))) ys (blocks_avoid p.at ys h.0.1)
avoids_behind (x ∷ xs) p ys a h s = avoids_behind xs p ys a h.1.1 s

pairs_past : (xs ys : List Pair) (a : ℕ × ℕ) → Each (λ x. same_pair x.at a ≡ false) xs → directory_pairs (xs ++ ys) a ≡ directory_pairs ys a
pairs_past [] ys a h = refl
pairs_past (x ∷ xs) ys a h = ap (λ b. cond b (tail_pairs x (xs ++ ys)) (directory_pairs (xs ++ ys) a)) h.0 ∙ pairs_past xs ys a h.1

run_is : (p : Pair) (run after : List Pair) → IsRun (p ∷ run) → tail_pairs p (run ++ after) ≡ p ∷ run
run_is p [] [] h = refl
run_is p [] (q ∷ after) h = ap (λ b. p ∷ cond b (tail_pairs q after) []) h
run_is p (q ∷ run) after h = ap (λ b. p ∷ cond b (tail_pairs q (run ++ after)) []) h.0 ∙ ap (λ z. p ∷ z) (run_is q run after h.1)

length_run : (p : Pair) (run after : List Pair) → IsRun (p ∷ run) → joined_pair_count (p ∷ (run ++ after)) ≡ length (p ∷ run)
length_run p [] after h = ap (λ b. cond b (1 + joined_pair_count after) 1) h
length_run p (q ∷ run) after h = ap (λ b. cond b (1 + joined_pair_count (q ∷ (run ++ after))) 1) h.0 ∙ (let e = length_run q run after h.1 in omega (arith, e))

-- the pairs of a directory that a path leads to, and how many they are
pub pairs_at : (disk : Disk) (ps : List Pair) (P : Path) (a : ℕ × ℕ) (ok : IsAccepted disk ps) → IsDirectoryAtPath ps P a → (d : HasDirectory (pairs_from_root ps) a) → directory_pairs ps a ≡ d.first ∷ d.run
pairs_at disk ps P a ok leads d =
    let whole : ps ≡ (take (count_before_root ps) ps ++ d.before) ++ (d.first ∷ (d.run ++ d.after))
    = (chain_of_thread ps).0 ∙ ap (λ z. take (count_before_root ps) ps ++ z) d.is ∙ sym (append_assoc (take (count_before_root ps) ps) d.before (d.first ∷ (d.run ++ d.after))) in
    ap (λ z. directory_pairs z a) whole
    ∙ pairs_past (take (count_before_root ps) ps ++ d.before) (d.first ∷ (d.run ++ d.after)) a
    (avoids_front (take (count_before_root ps) ps ++ d.before) d.first (d.run ++ d.after) a (subst (λ z. IsDistinct nat_eq (pairs_blocks z)) whole ok.thread.distinct) d.at)
    ∙ ap (λ b. cond b (tail_pairs d.first (d.run ++ d.after)) (directory_pairs (d.run ++ d.after) a)) d.at
    ∙ run_is d.first d.run d.after d.is_run

drop_behind : (xs ys : List Pair) (n : ℕ) → n ≡ length xs → drop n (xs ++ ys) ≡ ys
drop_behind [] ys n e = ap (λ k. drop k ys) e
drop_behind (x ∷ xs) ys n e = ap (λ k. drop k (x ∷ (xs ++ ys))) e ∙ drop_behind xs ys (length xs) refl

abbrev count_at : List Pair → Option (ℕ × ℕ) → ℕ
count_at ps None = 0
count_at ps (Some at) = length (directory_pairs ps at)

pub run_length_is : (disk : Disk) (ps : List Pair) (P : Path) (a : ℕ × ℕ) (first : ℕ) → IsAccepted disk ps → IsDirectoryAtPath ps P a → IsPairAt ps a first → joined_pair_count (drop first ps) ≡ directory_pair_count ps P
run_length_is disk ps P a first ok leads b =
    let i = begins_directory disk ps P a first ok leads b in
    let d = i.directory in
    let e = chain_of_thread ps in
    let front : List Pair = take (count_before_root ps) ps ++ d.before in
    let whole : ps ≡ (take (count_before_root ps) ps ++ d.before) ++ (d.first ∷ (d.run ++ d.after))
    = e.0 ∙ ap (λ z. take (count_before_root ps) ps ++ z) d.is ∙ sym (append_assoc (take (count_before_root ps) ps) d.before (d.first ∷ (d.run ++ d.after))) in
    let many : length (take (count_before_root ps) ps) ≡ count_before_root ps = sym (ap count_before_root e.0 ∙ e.1) in
    let at_first : first ≡ length (take (count_before_root ps) ps ++ d.before) = omega (arith, i.number, length-append (take (count_before_root ps) ps) d.before, many) in
    ap (λ z. joined_pair_count (drop first z)) whole
    ∙ ap joined_pair_count (drop_behind (take (count_before_root ps) ps ++ d.before) (d.first ∷ (d.run ++ d.after)) first at_first)
    ∙ length_run d.first d.run d.after d.is_run
    ∙ sym (ap (count_at ps) leads ∙ ap length (pairs_at disk ps P a ok leads d))

-- ---- lists

-- what is after as many
same_back : (xs ys us vs : List Pair) → length xs ≡ length us → xs ++ ys ≡ us ++ vs → ys ≡ vs
same_back [] ys [] vs l e = e
same_back [] ys (u ∷ us) vs l e = absurd (omega arith)
same_back (x ∷ xs) ys [] vs l e = absurd (omega arith)
same_back (x ∷ xs) ys (u ∷ us) vs l e = same_back xs ys us vs (omega arith) (cc)

-- a run that goes on with pairs of which all but the last are joined
record Parted (run left : List Pair) (pair : Pair) (rest after : List Pair) : Type 0 where
  ys : List Pair
  is : run ≡ left ++ pair ∷ ys
  rest_is : rest ≡ ys ++ after
  runs : IsRun (pair ∷ ys)

run_parts : (run left : List Pair) (pair : Pair) (rest after : List Pair) → run ≢ [] → IsRun run → Each HasHardTail left → left ++ pair ∷ rest ≡ run ++ after → Parted run left pair rest after
run_parts [] left pair rest after some is joined e = absurd (some refl)
run_parts (r ∷ run) [] pair rest after some is joined e =
    let h : pair ≡ r = cc in let t : rest ≡ run ++ after = cc in
    record { ys = run; is = ap (λ z. z ∷ run) (sym h); rest_is = t; runs = subst (λ z. IsRun (z ∷ run)) (sym h) is }
run_parts (r ∷ []) (l ∷ left) pair rest after some is joined e = let h : l ≡ r = cc in absurd (let k = ap (λ (p : Pair). is_hard_tail p.content.tail) h in let j = joined.0 in cc)
run_parts (r ∷ q ∷ run) (l ∷ left) pair rest after some is joined e =
    let h : l ≡ r = cc in let t : left ++ pair ∷ rest ≡ q ∷ run ++ after = cc in
    let p = run_parts (q ∷ run) left pair rest after (λ k. absurd (cc)) is.1 joined.1 t in
    record { ys = p.ys; is = ap₂ (λ x xs. x ∷ xs) (sym h) p.is; rest_is = p.rest_is; runs = p.runs }

record Goes (pair : Pair) (ys later : List Pair) : Type 0 where
  more : List Pair
  is : ys ≡ later ++ more
  last : last_has_hard_tail pair later ≡ false → more ≡ []

goes : (pair : Pair) (ys later rest after : List Pair) → IsRun (pair ∷ ys) → AreJoinedByHardTails pair later → later ++ rest ≡ ys ++ after → Goes pair ys later
goes pair [] [] rest after is runs e = record { more = []; is = refl; last = λ k. refl }
goes pair (y ∷ ys) [] rest after is runs e = record { more = y ∷ ys; is = refl; last = λ k. absurd (let j = is.0 in cc) }
goes pair [] (q ∷ later) rest after is runs e = absurd (let j = runs.0 in cc)
goes pair (y ∷ ys) (q ∷ later) rest after is runs e =
    let h : q ≡ y = cc in let t : later ++ rest ≡ ys ++ after = cc in
    let g = goes q ys later rest after (subst (λ z. IsRun (z ∷ ys)) (sym h) is.1) runs.1 t in
    record { more = g.more; is = ap₂ (λ x xs. x ∷ xs) (sym h) g.is; last = g.last }

-- ---- the site

module _ (disk : Disk) (ps : List Pair) (P : Path) (a : ℕ × ℕ) (ok : IsAccepted disk ps) (leads : IsDirectoryAtPath ps P a) (first index : ℕ) (pair : Pair) (rest : List Pair) (b : IsDirectoryPair ps first index pair rest)
    (begins : IsPairAt ps a first) where
  abbrev chain : List Pair
  chain = take (count_before_root ps) ps

  pub begun : IsDirectory ps a first
  begun = begins_directory disk ps P a first ok leads begins

  abbrev d : HasDirectory (pairs_from_root ps) a
  d = begun.directory

  chain_length : length chain ≡ count_before_root ps
  chain_length = let e = chain_of_thread ps in sym (ap count_before_root e.0 ∙ e.1)

  first_is : first ≡ length chain + length d.before
  first_is = begun.number ∙ ap (λ (n : ℕ). n + length d.before) (sym chain_length)

  parted : Parted (d.first ∷ d.run) b.left pair rest d.after
  parted =
      let e = chain_of_thread ps in
      let l = length-append chain d.before in
      let n = b.begins in
      let f = first_is in
      run_parts (d.first ∷ d.run) b.left pair rest d.after (λ k. absurd (cc)) d.is_run b.joined
      (same_back b.front (b.left ++ pair ∷ rest) (chain ++ d.before) ((d.first ∷ d.run) ++ d.after) (omega arith)
      (sym b.parts ∙ e.0 ∙ ap (λ z. chain ++ z) d.is ∙ sym (append_assoc chain d.before ((d.first ∷ d.run) ++ d.after))))

  pub site : Site
  site = record { chain = chain; before = d.before; left = b.left; right = parted.ys; after = d.after }

  in_directory : IsInDirectory chain (pairs_from_root ps) a pair (record { chain = chain; before = d.before; left = b.left; right = parted.ys; after = d.after })
  in_directory = site_in_directory chain (pairs_from_root ps) a (chain_of_thread ps).1 d b.left pair parted.ys parted.is

  pub thread_is : ps ≡ thread_at site (pair ∷ [])
  unfolding site
  thread_is = (chain_of_thread ps).0 ∙ ap (λ z. chain ++ z) in_directory.dirs_are

  pub is_site : IsSite site (pair ∷ [])
  unfolding site
  is_site = in_directory.site

  pub same : same_pair (begin_of site (pair ∷ [])) a ≡ true
  unfolding site
  same = in_directory.same

  pub number_is : index ≡ length site.chain + length (site.before ++ site.left)
  unfolding site
  number_is = let l = length-append d.before b.left in let n = b.number in let g = b.begins in let f = first_is in omega arith

-- ---- a name that stands there

pub slot_of_stands : (disk : Disk) (ps : List Pair) (P : Path) (a : ℕ × ℕ) (ok : IsAccepted disk ps) (leads : IsDirectoryAtPath ps P a) (first index id : ℕ) (name : Name) → HasNoMove (pairs_gstate ps)
    → (s : IsPositionOfName ps first name index id) → IsPairAt ps a first → slot_of_path ps (P ++ name ∷ []) ≡ Some s.stands.slot
slot_of_stands disk ps P a ok leads first index id name none s begins =
    let w = site disk ps P a ok leads first index s.pair s.rest s.place begins in
    let is = thread_is disk ps P a ok leads first index s.pair s.rest s.place begins in
    subst (λ z. slot_of_path ps (P ++ z ∷ []) ≡ Some s.stands.slot) s.stands.named
    (subst (λ z. slot_of_path z (P ++ s.stands.slot.name ∷ []) ≡ Some s.stands.slot) (sym is)
    (slot_found disk w s.pair s.stands.left s.stands.slot s.stands.right P a (subst (IsAccepted disk) is ok) (is_site disk ps P a ok leads first index s.pair s.rest s.place begins)
    (subst (λ z. HasNoMove (pairs_gstate z)) is none) (subst (λ z. IsDirectoryAtPath z P a) is leads) (same disk ps P a ok leads first index s.pair s.rest s.place begins) s.stands.held s.stands.entry))

-- ---- a name that belongs there

-- the last of some
record Last (xs : List Slot) : Type 0 where
  front : List Slot
  last : Slot
  is : xs ≡ front ++ last ∷ []

last_of : (xs : List Slot) → xs ≢ [] → Last xs
last_of [] n = absurd (n refl)
last_of (x ∷ []) n = record { front = []; last = x; is = refl }
last_of (x ∷ y ∷ xs) n = let l = last_of (y ∷ xs) (λ e. absurd (cc)) in record { front = x ∷ l.front; last = l.last; is = ap (λ z. x ∷ z) l.is }

module _ (disk : Disk) (ps : List Pair) (P : Path) (a : ℕ × ℕ) (ok : IsAccepted disk ps) (leads : IsDirectoryAtPath ps P a) (first index id : ℕ) (name : Name) (none : HasNoMove (pairs_gstate ps))
    (b : IsInsertionPosition disk.order ps first name index id) (begins : IsPairAt ps a first) where
  abbrev at_site : Site
  at_site = site disk ps P a ok leads first index b.pair (b.later ++ b.rest) b.place begins

  abbrev whole : ps ≡ thread_at at_site (b.pair ∷ [])
  whole = thread_is disk ps P a ok leads first index b.pair (b.later ++ b.rest) b.place begins

  goes_there : Goes b.pair at_site.right b.later
  unfolding site
  goes_there =
      let p = parted disk ps P a ok leads first index b.pair (b.later ++ b.rest) b.place begins in
      goes b.pair p.ys b.later b.rest (begun disk ps P a ok leads first index b.pair (b.later ++ b.rest) b.place begins).directory.after p.runs b.runs p.rest_is

  shows : all_entries ps a ≡ shown_before at_site b.left ++ shown_behind at_site b.right
  shows = ap (λ z. all_entries z a) whole
      ∙ site_shows disk at_site b.pair b.left [] b.right a (subst (IsAccepted disk) whole ok) (is_site disk ps P a ok leads first index b.pair (b.later ++ b.rest) b.place begins)
      (subst (λ z. HasNoMove (pairs_gstate z)) whole none) (same disk ps P a ok leads first index b.pair (b.later ++ b.rest) b.place begins) b.held

  rises : Rise disk.order (shown_before at_site b.left ++ shown_behind at_site b.right)
  rises = subst (Rise disk.order) shows (ok.order P a leads)

  left_is : at_site.left ≡ b.place.left
  unfolding site
  left_is = refl

  less : Each (λ s. name_cmp disk.order s.name name ≡ Less) (shown_before at_site b.left)
  less = go b.not_before
    where
      before_is : entry_slots (all_slots at_site.left ++ b.left) ≡ entry_slots (all_slots at_site.left) ++ entry_slots b.left
      before_is = filter-append (λ (s : Slot). not (is_superblock s)) (all_slots at_site.left) b.left

      go : (entry_slots (all_slots b.place.left) ≡ []) ⊎ (entry_slots b.left ≢ []) → Each (λ s. name_cmp disk.order s.name name ≡ Less) (entry_slots (all_slots at_site.left ++ b.left))
      go (inl e) = subst (Each (λ s. name_cmp disk.order s.name name ≡ Less)) (sym (before_is ∙ ap (λ z. z ++ entry_slots b.left) (ap (λ z. entry_slots (all_slots z)) left_is ∙ e))) b.less
      go (inr n) =
          let l = last_of (entry_slots b.left) n in
          let f = entry_slots (all_slots at_site.left) in
          let last = each_right (λ s. name_cmp disk.order s.name name ≡ Less) l.front (l.last ∷ []) (subst (Each (λ s. name_cmp disk.order s.name name ≡ Less)) l.is b.less) in
          let are : entry_slots (all_slots at_site.left ++ b.left) ≡ (f ++ l.front) ++ l.last ∷ [] = before_is ∙ ap (λ z. f ++ z) l.is ∙ sym (append_assoc f l.front (l.last ∷ [])) in
          let up : Rise disk.order ((f ++ l.front) ++ l.last ∷ shown_behind at_site b.right) =
          subst (Rise disk.order) (ap (λ z. z ++ shown_behind at_site b.right) are ∙ append_assoc (f ++ l.front) (l.last ∷ []) (shown_behind at_site b.right)) rises in
          subst (Each (λ s. name_cmp disk.order s.name name ≡ Less)) (sym are)
          (each_append (λ s. name_cmp disk.order s.name name ≡ Less) (f ++ l.front) (l.last ∷ []) (less_before disk.order (f ++ l.front) l.last (shown_behind at_site b.right) name up last.0) last)

  greater : Each (λ s. name_cmp disk.order name s.name ≡ Less) (shown_behind at_site b.right)
  greater = go b.not_behind
    where
      behind_is : entry_slots (b.right ++ all_slots at_site.right) ≡ entry_slots (b.right ++ all_slots b.later) ++ entry_slots (all_slots goes_there.more)
      behind_is = ap (λ z. entry_slots (b.right ++ all_slots z)) goes_there.is
          ∙ ap (λ z. entry_slots (b.right ++ z)) (flat_map-append (λ (p : Pair). p.content.slots) b.later goes_there.more)
          ∙ ap entry_slots (sym (append_assoc b.right (all_slots b.later) (all_slots goes_there.more)))
          ∙ filter-append (λ (s : Slot). not (is_superblock s)) (b.right ++ all_slots b.later) (all_slots goes_there.more)

      go : BeginsWithGreaterName disk.order name (entry_slots (b.right ++ all_slots b.later)) ⊎ ((entry_slots (b.right ++ all_slots b.later) ≡ []) × (last_has_hard_tail b.pair b.later ≡ false)) →
          Each (λ s. name_cmp disk.order name s.name ≡ Less) (entry_slots (b.right ++ all_slots at_site.right))
      go (inl begins) =
          let are : entry_slots (b.right ++ all_slots at_site.right) ≡ begins.first ∷ (begins.rest ++ entry_slots (all_slots goes_there.more)) =
          behind_is ∙ ap (λ z. z ++ entry_slots (all_slots goes_there.more)) begins.are in
          subst (Each (λ s. name_cmp disk.order name s.name ≡ Less)) (sym are) (
            begins.above,
            greater_behind disk.order begins.first (begins.rest ++ entry_slots (all_slots goes_there.more)) name
                (rise_right disk.order (shown_before at_site b.left) (begins.first ∷ (begins.rest ++ entry_slots (all_slots goes_there.more))) (subst (λ z. Rise disk.order (shown_before at_site b.left ++ z)) are rises)) begins.above,
          )
      go (inr (nothing, last)) =
          subst (Each (λ s. name_cmp disk.order name s.name ≡ Less)) (sym (behind_is ∙ ap₂ (λ x (y : List Pair). x ++ entry_slots (all_slots y)) nothing (goes_there.last last))) tt

  pub place_of_belongs : IsPlace disk.order (all_entries ps a) (place_at at_site b.left) name
  place_of_belongs = subst (λ z. IsPlace disk.order z (place_at at_site b.left) name) (sym shows) (place_between (shown_before at_site b.left) (shown_behind at_site b.right) name less greater)

-- ---- where no superblock stands

each_dropped : (P : Pair → Type 0) (m n : ℕ) (ps : List Pair) → m ≤ n → Each P (drop m ps) → Each P (drop n ps)
each_dropped P zero zero ps l h = h
each_dropped P zero (suc n) [] l h = tt
each_dropped P zero (suc n) (p ∷ ps) l h = each_dropped P zero n ps (omega arith) h.1
each_dropped P (suc m) zero ps l h = absurd (omega arith)
each_dropped P (suc m) (suc n) [] l h = tt
each_dropped P (suc m) (suc n) (p ∷ ps) l h = each_dropped P m n ps (omega arith) h

-- after the first pair of a directory
pub plain_behind : (disk : Disk) (ps : List Pair) (first : ℕ) → IsAccepted disk ps → count_before_root ps ≤ first → HaveNoSuperblock (drop (first + 1) ps)
plain_behind disk ps first ok low =
    each_weaker (λ (p : Pair). All IsFileOrDirectory p.content.slots) (λ (p : Pair). Each (λ s. is_superblock s ≡ false) p.content.slots)
    (λ p h. each_weaker IsFileOrDirectory (λ s. is_superblock s ≡ false) entry_is_other p.content.slots (recursion_from_All IsFileOrDirectory p.content.slots h)) (drop (first + 1) ps)
    (each_dropped (λ (p : Pair). All IsFileOrDirectory p.content.slots) (count_before_root ps + 1) (first + 1) ps (omega arith) (recursion_from_All (λ (p : Pair). All IsFileOrDirectory p.content.slots) (drop (count_before_root ps + 1) ps) ok.slots))
