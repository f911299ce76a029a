-- Where the pair of an empty directory stands in the thread, from the entry that names it.
use Rattle.std.proofs.Common.{ℕ, zero, suc, ◌≡◌, ◌+◌, ◌<◌, true, false, cond, slice_get, get_or, List, [], ◌∷◌, ◌++◌, length, Option, Some, None, refl, sym, ap, subst, ◌∙◌, arith, append_assoc, length-append, Bool, nat_eq}
use Rattle.std.specs.List.{IsDistinct}
use Rattle.std.specs.Prelude.{is_some}
use Rattle.lfs_model.proofs.Common.{append-nil, same_Some, Disk, directory_address, continued_directory_address, same_pair, Pair, pairs_from_root, first_address, pairs_gstate, is_hard_tail, root_address, pairs_blocks, Path, IsAccepted, IsDirectoryAtPath, all_entries}
use Rattle.lfs_model.proofs.Found.{HasDirectory, led_directory}
use Rattle.lfs_model.proofs.Global.{HasNoMove}
use Rattle.lfs_model.proofs.Indexes.{site_shows}
use Rattle.lfs_model.proofs.Layouts.{onward_all, onward_some}
use Rattle.lfs_model.proofs.Listings.{Ends, IsRun}
use Rattle.lfs_model.proofs.Pairs.{pair_back, pair_on}
use Rattle.lfs_model.proofs.Searches.{same_number, avoids_behind, avoids_front}
use Rattle.lfs_model.proofs.Sites.{Site, dirs_at, thread_at}
use Rattle.lfs_model.proofs.Superblocks.{IsChain, pairs_behind}
use Rattle.lfs_model.proofs.Writable.{last_tail_is_hard}
use Rattle.lfs_model.proofs.Counts.{Each, each_append, each_left, each_right}
use Rattle.lfs_model.proofs.RemovedDirectory.{onward_append, before_gone, from_kept}
use Rattle.lfs_model.proofs.TwoPlaces.{two}
use Rattle.lfs_model.proofs.PairsInFront.{last_pair}
use Rattle.lfs_model.proofs.PairLists.{get_behind}

-- ---- lists

pub get_some : (xs : List Pair) (n : ℕ) (d : Pair) → n < length xs → slice_get xs n ≡ Some (get_or xs n d)
get_some [] n d l = absurd (omega arith)
get_some (x ∷ xs) zero d l = refl
get_some (x ∷ xs) (suc n) d l = get_some xs n d (omega arith)

-- Where the pair p stands, beside two others of the same list that stand one behind the other.
pub data WhereIs (xs : List Pair) (p : Pair) (ys front : List Pair) (x o : Pair) (back : List Pair) : Type 0 where
  Ahead : (mid : List Pair) → ys ≡ mid ++ x ∷ o ∷ back → front ≡ xs ++ p ∷ mid → WhereIs xs p ys front x o back
  Next : xs ≡ front → x ≡ p → ys ≡ o ∷ back → WhereIs xs p ys front x o back
  Itself : p ≡ o → WhereIs xs p ys front x o back
  Behind : (mid : List Pair) → xs ≡ front ++ x ∷ o ∷ mid → WhereIs xs p ys front x o back

pub where_is : (xs : List Pair) (p : Pair) (ys front : List Pair) (x o : Pair) (back : List Pair) → xs ++ p ∷ ys ≡ front ++ x ∷ o ∷ back → WhereIs xs p ys front x o back
where_is [] p ys [] x o back e = Next refl (let h : x ≡ p = cc in h) (let h : ys ≡ o ∷ back = cc in h)
where_is [] p ys (f ∷ front) x o back e = Ahead front (let h : ys ≡ front ++ x ∷ o ∷ back = cc in h) (let h : f ≡ p = cc in ap (λ z. z ∷ front) h)
where_is (a ∷ []) p ys [] x o back e = Itself (let h : p ≡ o = cc in h)
where_is (a ∷ b ∷ xs) p ys [] x o back e =
    let h : a ≡ x = cc in
    let k : b ≡ o = cc in
    Behind xs (ap (λ z. z ∷ b ∷ xs) h ∙ ap (λ z. x ∷ z ∷ xs) k)
where_is (a ∷ xs) p ys (f ∷ front) x o back e =
    let h : a ≡ f = cc in
    let k : xs ++ p ∷ ys ≡ front ++ x ∷ o ∷ back = cc in
    go (where_is xs p ys front x o back k) h
  where
    go : WhereIs xs p ys front x o back → a ≡ f → WhereIs (a ∷ xs) p ys (f ∷ front) x o back
    go (Ahead mid e k) h = Ahead mid e (ap (λ z. f ∷ z) k ∙ ap (λ z. z ∷ (xs ++ p ∷ mid)) (sym h))
    go (Next e i k) h = Next (ap (λ z. a ∷ z) e ∙ ap (λ z. z ∷ front) h) i k
    go (Itself e) h = Itself e
    go (Behind mid e) h = Behind mid (ap (λ z. a ∷ z) e ∙ ap (λ z. z ∷ (front ++ x ∷ o ∷ mid)) h)

-- ---- hard tails

pub soft_end : (from : Option (ℕ × ℕ)) (xs : List Pair) (x : Pair) → is_hard_tail x.content.tail ≡ false → onward_all from (xs ++ x ∷ []) ≡ None
soft_end from [] x e = ap (λ b. cond b (Some (directory_address from x)) None) e
soft_end from (z ∷ xs) x e = soft_end (continued_directory_address from z) xs x e

pub flag_from : (from : Option (ℕ × ℕ)) (xs : List Pair) → is_some (onward_all from xs) ≡ last_tail_is_hard (is_some from) xs
flag_from from [] = refl
flag_from from (x ∷ xs) = flag_from (continued_directory_address from x) xs ∙ ap (λ b. last_tail_is_hard b xs) (onward_some from x)

ends_last : (xs : List Pair) (x : Pair) → Ends (xs ++ x ∷ []) → is_hard_tail x.content.tail ≡ false
ends_last [] x h = h
ends_last (y ∷ []) x h = h
ends_last (y ∷ z ∷ xs) x h = ends_last (z ∷ xs) x h

alone_run : (p : Pair) (run : List Pair) → IsRun (p ∷ run) → is_hard_tail p.content.tail ≡ false → run ≡ []
alone_run p [] h e = refl
alone_run p (q ∷ run) h e = absurd (let k = sym h.0 ∙ e in cc)

-- ---- the directory that an entry names

path_some : (P : Path) (n : List ℕ) → [] ≡ P ++ n ∷ [] → ⊥
path_some [] n e = absurd (cc)
path_some (x ∷ P) n e = absurd (cc)

-- Among the pairs of all directories, o is the only one of the directory at d, and a soft tail leads to it.
pub record HasFront (dirs : List Pair) (d : ℕ × ℕ) : Type 0 where
  pub front : List Pair
  pub before : Pair
  pub first : Pair
  pub run : List Pair
  pub after : List Pair
  pub is : dirs ≡ front ++ before ∷ first ∷ (run ++ after)
  pub soft : is_hard_tail before.content.tail ≡ false
  pub ends : Ends (front ++ before ∷ [])
  pub is_run : IsRun (first ∷ run)
  pub at : same_pair first.at d ≡ true

-- a directory that isn't the first of all has a pair in front of it
pub front_of : (dirs : List Pair) (d : ℕ × ℕ) (h : HasDirectory dirs d) → (h.before ≡ [] → ⊥) → HasFront dirs d
front_of dirs d h not_root = by h.before refl
  where
    by : (before : List Pair) → h.before ≡ before → HasFront dirs d
    by [] e = absurd (not_root e)
    by (b ∷ bs) e =
        let l = last_pair (b ∷ bs) (λ k. absurd (cc)) in
        let whole : h.before ≡ l.front ++ l.last ∷ [] = e ∙ l.is in
        record {
          front = l.front;
          before = l.last;
          first = h.first;
          run = h.run;
          after = h.after;
          is = h.is ∙ ap (λ z. z ++ (h.first ∷ h.run ++ h.after)) whole ∙ append_assoc l.front (l.last ∷ []) (h.first ∷ (h.run ++ h.after));
          soft = ends_last l.front l.last (subst Ends whole h.ends);
          ends = subst Ends whole h.ends;
          is_run = h.is_run;
          at = h.at;
        }

-- the root isn't named by an entry
pub not_the_root : (disk : Disk) (ps : List Pair) (P : Path) (n : List ℕ) (d : ℕ × ℕ) → IsAccepted disk ps → IsDirectoryAtPath ps (P ++ n ∷ []) d → same_pair (root_address ps) d ≡ true → ⊥
not_the_root disk ps P n d ok led e = path_some P n (ok.once [] (P ++ n ∷ []) (root_address ps) d refl led e)

pub has_front : (disk : Disk) (chain dirs : List Pair) (P : Path) (n : List ℕ) (d : ℕ × ℕ) → IsAccepted disk (chain ++ dirs) → IsChain chain dirs → IsDirectoryAtPath (chain ++ dirs) (P ++ n ∷ []) d → HasFront dirs d
has_front disk chain dirs P n d ok is_chain led =
    let h = led_directory disk (chain ++ dirs) (P ++ n ∷ []) d ok led in
    subst (λ z. HasFront z d) (pairs_behind chain dirs is_chain) (front_of (pairs_from_root (chain ++ dirs)) d h
    (λ e. not_the_root disk (chain ++ dirs) P n d ok led (subst (λ z. same_pair z d ≡ true) (sym (ap first_address (h.is ∙ ap (λ z. z ++ (h.first ∷ h.run ++ h.after)) e))) h.at)))

-- with no slots it shows nothing
pub shows_nothing : (disk : Disk) (chain dirs : List Pair) (d : ℕ × ℕ) → IsAccepted disk (chain ++ dirs) → IsChain chain dirs → HasNoMove (pairs_gstate (chain ++ dirs)) → (h : HasFront dirs d) → is_hard_tail h.first.content.tail ≡ false
    → h.first.content.slots ≡ [] → all_entries (chain ++ dirs) d ≡ []
shows_nothing disk chain dirs d ok is_chain none h soft empty =
    let v : Site = record { chain = chain; before = h.front ++ h.before ∷ []; left = []; right = []; after = h.after } in
    let alone = alone_run h.first h.run h.is_run soft in
    let whole : dirs ≡ dirs_at (record { chain = chain; before = h.front ++ h.before ∷ []; left = []; right = []; after = h.after }) (h.first ∷ [])
    = h.is ∙ ap (λ z. h.front ++ h.before ∷ h.first ∷ (z ++ h.after)) alone ∙ sym (append_assoc h.front (h.before ∷ []) (h.first ∷ h.after))
    ∙ ap (λ z. z ++ h.first ∷ h.after) (sym (append-nil (h.front ++ h.before ∷ []))) in
    ap (λ z. all_entries (chain ++ z) d) whole
    ∙ site_shows disk v h.first [] [] [] d (subst (λ z. IsAccepted disk (chain ++ z)) whole ok)
    (record { chain = subst (IsChain chain) whole is_chain; ends = h.ends; run = soft })
    (subst (λ z. HasNoMove (pairs_gstate (chain ++ z))) whole none) h.at empty

-- its number
pub number_of_first : (disk : Disk) (chain dirs : List Pair) (d : ℕ × ℕ) (ok : IsAccepted disk (chain ++ dirs)) (h : HasFront dirs d) (n : ℕ) (o : Pair) → slice_get (chain ++ dirs) n ≡ Some o → same_pair o.at d ≡ true
    → (n ≡ length (chain ++ h.front) + 1) × (h.first ≡ o)
number_of_first disk chain dirs d ok h n o there at =
    let ahead = chain ++ (h.front ++ h.before ∷ []) in
    let whole : chain ++ dirs ≡ (chain ++ (h.front ++ h.before ∷ [])) ++ h.first ∷ (h.run ++ h.after)
    = ap (λ z. chain ++ z) (h.is ∙ sym (append_assoc h.front (h.before ∷ []) (h.first ∷ (h.run ++ h.after)))) ∙ sym (append_assoc chain (h.front ++ h.before ∷ []) (h.first ∷ (h.run ++ h.after))) in
    let first_there = ap (λ z. slice_get z (length ahead)) whole ∙ get_behind (chain ++ (h.front ++ h.before ∷ [])) h.first (h.run ++ h.after) in
    let e : n ≡ length (chain ++ (h.front ++ h.before ∷ [])) = same_number (chain ++ dirs) n (length ahead) o h.first ok.thread.distinct there first_there (pair_on o.at d h.first.at at (pair_back h.first.at d h.at)) in
    let a = length-append chain (h.front ++ h.before ∷ []) in
    let b = length-append h.front (h.before ∷ []) in
    let c = length-append chain h.front in
    (omega arith, same_Some h.first o (sym first_there ∙ ap (slice_get (chain ++ dirs)) (sym e) ∙ there))

-- ---- the pair that goes, once the one of its entry is changed

-- Once p is q, the pair o stands behind x. Of the thread with p and o somewhere, o's directory begins with it, and no other pair is there.
pub record HasPlaceOver (w : Site) (p q o : Pair) (d : ℕ × ℕ) (n : ℕ) : Type 0 where
  pub front : List Pair
  pub x : Pair
  pub back : List Pair
  pub there : dirs_at w (q ∷ []) ≡ front ++ x ∷ o ∷ back
  pub number : length front ≡ n
  pub soft : is_hard_tail x.content.tail ≡ false
  pub b : Bool
  pub one : List Pair
  pub mid : List Pair
  pub other : List Pair
  pub were : thread_at w (p ∷ []) ≡ w.chain ++ two b one (p ∷ []) mid (o ∷ []) other
  pub begins : onward_all None (before_gone b one mid p) ≡ None
  pub apart : Each (λ z. same_pair z.at d ≡ false) (two b one (p ∷ []) mid [] other)
  pub are : two b one (q ∷ []) mid [] other ≡ front ++ x ∷ back
  pub led : is_some (from_kept b one mid o) ≡ true → is_some (onward_all None (w.before ++ w.left)) ≡ true

module _ (w : Site) (p q o : Pair) (d : ℕ × ℕ) (address : same_pair o.at d ≡ true) (distinct : IsDistinct nat_eq (pairs_blocks (thread_at w (p ∷ [])))) (tail : is_hard_tail q.content.tail ≡ is_hard_tail p.content.tail) where
  abbrev in_front : List Pair
  in_front = w.before ++ w.left

  abbrev in_back : List Pair
  in_back = w.right ++ w.after

  -- the pairs but o aren't at its address
  others_apart : (front back : List Pair) → thread_at w (p ∷ []) ≡ w.chain ++ (front ++ o ∷ back) → Each (λ z. same_pair z.at d ≡ false) front × Each (λ z. same_pair z.at d ≡ false) back
  others_apart front back is =
      let e = subst (λ z. IsDistinct nat_eq (pairs_blocks z)) (is ∙ sym (append_assoc w.chain front (o ∷ back))) distinct in
      (each_right (λ (z : Pair). same_pair z.at d ≡ false) w.chain front (avoids_front (w.chain ++ front) o back d e address), avoids_behind (w.chain ++ front) o back d e address)

  ahead_place : (mid : List Pair) (x : Pair) (back : List Pair) (n : ℕ) → in_back ≡ mid ++ x ∷ o ∷ back → length (in_front ++ p ∷ mid) ≡ n → is_hard_tail x.content.tail ≡ false → HasPlaceOver w p q o d n
  ahead_place mid x back n e k soft =
      let whole : thread_at w (p ∷ []) ≡ w.chain ++ ((in_front ++ p ∷ (mid ++ x ∷ [])) ++ o ∷ back)
      = ap (λ z. w.chain ++ (in_front ++ p ∷ z)) (e ∙ sym (append_assoc mid (x ∷ []) (o ∷ back))) ∙ ap (λ z. w.chain ++ z) (sym (append_assoc in_front (p ∷ (mid ++ x ∷ [])) (o ∷ back))) in
      let a = others_apart (in_front ++ p ∷ (mid ++ x ∷ [])) back whole in
      let f = each_left (λ (z : Pair). same_pair z.at d ≡ false) in_front (p ∷ (mid ++ x ∷ [])) a.0 in
      let g = each_right (λ (z : Pair). same_pair z.at d ≡ false) in_front (p ∷ (mid ++ x ∷ [])) a.0 in
      record {
        front = in_front ++ q ∷ mid;
        x = x;
        back = back;
        there = ap (λ z. in_front ++ q ∷ z) e ∙ sym (append_assoc in_front (q ∷ mid) (x ∷ o ∷ back));
        number = let g = length-append in_front (q ∷ mid) in let h = length-append in_front (p ∷ mid) in omega arith;
        soft = soft;
        b = true;
        one = in_front;
        mid = mid ++ x ∷ [];
        other = back;
        were = ap (λ z. w.chain ++ (in_front ++ p ∷ z)) (e ∙ sym (append_assoc mid (x ∷ []) (o ∷ back)));
        begins = ap (λ z. onward_all None z) (sym (append_assoc in_front (p ∷ mid) (x ∷ []))) ∙ soft_end None (in_front ++ p ∷ mid) x soft;
        apart = each_append (λ (z : Pair). same_pair z.at d ≡ false) in_front (p ∷ ((mid ++ x ∷ []) ++ back)) f (g.0, each_append (λ (z : Pair). same_pair z.at d ≡ false) (mid ++ x ∷ []) back g.1 a.1);
        are = ap (λ z. in_front ++ q ∷ z) (append_assoc mid (x ∷ []) back) ∙ sym (append_assoc in_front (q ∷ mid) (x ∷ back));
        led = λ h. h;
      }

  next_place : (back : List Pair) (n : ℕ) → in_back ≡ o ∷ back → length in_front ≡ n → is_hard_tail p.content.tail ≡ false → HasPlaceOver w p q o d n
  next_place back n e k soft =
      let whole : thread_at w (p ∷ []) ≡ w.chain ++ ((in_front ++ p ∷ []) ++ o ∷ back) = ap (λ z. w.chain ++ (in_front ++ p ∷ z)) e ∙ ap (λ z. w.chain ++ z) (sym (append_assoc in_front (p ∷ []) (o ∷ back))) in
      let a = others_apart (in_front ++ p ∷ []) back whole in
      let f = each_left (λ (z : Pair). same_pair z.at d ≡ false) in_front (p ∷ []) a.0 in
      let g = each_right (λ (z : Pair). same_pair z.at d ≡ false) in_front (p ∷ []) a.0 in
      record {
        front = in_front;
        x = q;
        back = back;
        there = ap (λ z. in_front ++ q ∷ z) e;
        number = k;
        soft = tail ∙ soft;
        b = true;
        one = in_front;
        mid = [];
        other = back;
        were = ap (λ z. w.chain ++ (in_front ++ p ∷ z)) e;
        begins = soft_end None in_front p soft;
        apart = each_append (λ (z : Pair). same_pair z.at d ≡ false) in_front (p ∷ back) f (g.0, a.1);
        are = refl;
        led = λ h. h;
      }

  behind_place : (front : List Pair) (x : Pair) (mid : List Pair) → in_front ≡ front ++ x ∷ o ∷ mid → is_hard_tail x.content.tail ≡ false → HasPlaceOver w p q o d (length front)
  behind_place front x mid e soft =
      let turned : dirs_at w (p ∷ []) ≡ (front ++ x ∷ []) ++ o ∷ (mid ++ p ∷ in_back) = ap (λ z. z ++ p ∷ in_back) e ∙ append_assoc front (x ∷ o ∷ mid) (p ∷ in_back) ∙ sym (append_assoc front (x ∷ []) (o ∷ (mid ++ p ∷ in_back))) in
      let a = others_apart (front ++ x ∷ []) (mid ++ p ∷ in_back) (ap (λ z. w.chain ++ z) turned) in
      record {
        front = front;
        x = x;
        back = mid ++ q ∷ in_back;
        there = ap (λ z. z ++ q ∷ in_back) e ∙ append_assoc front (x ∷ o ∷ mid) (q ∷ in_back);
        number = refl;
        soft = soft;
        b = false;
        one = front ++ x ∷ [];
        mid = mid;
        other = in_back;
        were = ap (λ z. w.chain ++ z) turned;
        begins = soft_end None front x soft;
        apart = each_append (λ (z : Pair). same_pair z.at d ≡ false) (front ++ x ∷ []) (mid ++ p ∷ in_back) a.0 a.1;
        are = append_assoc front (x ∷ []) (mid ++ q ∷ in_back);
        led = λ h. ap is_some (ap (onward_all None) (e ∙ sym (append_assoc front (x ∷ []) (o ∷ mid))) ∙ onward_append None (front ++ x ∷ []) (o ∷ mid)) ∙ h;
      }

  pub place_over : (front : List Pair) (x : Pair) (back : List Pair) → dirs_at w (p ∷ []) ≡ front ++ x ∷ o ∷ back → is_hard_tail x.content.tail ≡ false → (p ≡ o → ⊥) → HasPlaceOver w p q o d (length front)
  place_over front x back e soft not_itself = by (where_is in_front p in_back front x o back e)
    where
      by : WhereIs in_front p in_back front x o back → HasPlaceOver w p q o d (length front)
      by (Ahead mid h k) = ahead_place mid x back (length front) h (ap length (sym k)) soft
      by (Next h i k) = next_place back (length front) k (ap length h) (ap (λ (z : Pair). is_hard_tail z.content.tail) (sym i) ∙ soft)
      by (Itself h) = absurd (not_itself h)
      by (Behind mid h) = behind_place front x mid h soft
