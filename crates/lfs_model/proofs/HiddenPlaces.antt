-- Two pairs of one thread: a slot of the one comes into the other, and a set move hides it where it stood.
use Rattle.std.proofs.Common.{ℕ, zero, suc, ◌≡◌, Bool, true, false, cond, not, nat_eq, List, [], ◌∷◌, ◌++◌, length, take, drop, refl, sym, ap, ap₂, subst, ◌∙◌, arith, append_assoc, remove, Less}
use Rattle.std.specs.Prelude.{◌≢◌, ◌&&◌}
use Rattle.lfs_model.proofs.Common.{flat_map, append-nil, filter-append, Disk, Name, Slot, Gstate, is_superblock, same_pair, Pair, pairs_gstate, slots_not_moved, unmoved_entries, pair_directories, Path, DirectoryEntryMap, all_directories, all_entries, IsDirectoryAtPath, directory_slots}
use Rattle.lfs_model.specs.declared.order.NameOrder.{NameOrder}
use Rattle.lfs_model.specs.format.Names.{name_cmp}
use Rattle.lfs_model.proofs.Counts.{Each, each_append, each_left, each_right, each_weaker, each_always, each_pieces, each_joined}
use Rattle.lfs_model.proofs.Global.{unmoved_all}
use Rattle.lfs_model.proofs.Indexes.{site_shows, place_between}
use Rattle.lfs_model.proofs.Listings.{SameVisible, IsRun, Apart, distinct_apart, distinct_right}
use Rattle.lfs_model.proofs.Moves.{shown_before, shown_behind, place_at, remove_here, entry_only, shown_place, shown_of}
use Rattle.lfs_model.proofs.MoveSets.{SameAround, IsMoveSet, site_own, site_entries}
use Rattle.lfs_model.proofs.Names.{IsPlace}
use Rattle.lfs_model.proofs.Rests.{unmoved_elsewhere, hidden_visible}
use Rattle.lfs_model.proofs.Sites.{Site, dirs_at, thread_at, begin_of, run_changed, shown_at}
use Rattle.lfs_model.proofs.Splices.{all_slots, entry_slots, visible_in}
use Rattle.lfs_model.proofs.Superblocks.{pairs_behind}
use Rattle.lfs_model.proofs.Pairs.{put}

-- ---- lists

pub record SameParts (xs ys us vs : List Pair) : Type 0 where
  pub front : xs ≡ us
  pub back : ys ≡ vs

pub same_parts : (xs ys us vs : List Pair) → length xs ≡ length us → xs ++ ys ≡ us ++ vs → SameParts xs ys us vs
same_parts [] ys [] vs l e = record { front = refl; back = e }
same_parts [] ys (u ∷ us) vs l e = absurd (omega arith)
same_parts (x ∷ xs) ys [] vs l e = absurd (omega arith)
same_parts (x ∷ xs) ys (u ∷ us) vs l e =
    let h : x ≡ u = cc in
    let t : xs ++ ys ≡ us ++ vs = cc in
    let s = same_parts xs ys us vs (omega arith) t in
    record { front = ap₂ (λ a b. a ∷ b) h s.front; back = s.back }

-- the pair o stands in front of p, or behind it
pub data InTurn (xs : List Pair) (p : Pair) (ys us : List Pair) (o : Pair) (vs : List Pair) : Type 0 where
  ahead : (mid : List Pair) → vs ≡ mid ++ p ∷ ys → xs ≡ us ++ o ∷ mid → InTurn xs p ys us o vs
  behind : (mid : List Pair) → ys ≡ mid ++ o ∷ vs → us ≡ xs ++ p ∷ mid → InTurn xs p ys us o vs

in_turn_after : (x a : Pair) (xs : List Pair) (p : Pair) (ys us : List Pair) (o : Pair) (vs : List Pair) → x ≡ a → InTurn xs p ys us o vs → InTurn (x ∷ xs) p ys (a ∷ us) o vs
in_turn_after x a xs p ys us o vs h (ahead mid e f) = ahead mid e (ap₂ (λ k t. k ∷ t) h f)
in_turn_after x a xs p ys us o vs h (behind mid e f) = behind mid e (ap₂ (λ k t. k ∷ t) (sym h) f)

pub in_turn : (xs : List Pair) (p : Pair) (ys us : List Pair) (o : Pair) (vs : List Pair) → xs ++ p ∷ ys ≡ us ++ o ∷ vs → length xs ≢ length us → InTurn xs p ys us o vs
in_turn [] p ys [] o vs e n = absurd (n refl)
in_turn [] p ys (a ∷ us) o vs e n = let h : p ≡ a = cc in let t : ys ≡ us ++ o ∷ vs = cc in behind us t (ap (λ z. z ∷ us) (sym h))
in_turn (x ∷ xs) p ys [] o vs e n = let h : x ≡ o = cc in let t : xs ++ p ∷ ys ≡ vs = cc in ahead xs (sym t) (ap (λ z. z ∷ xs) h)
in_turn (x ∷ xs) p ys (a ∷ us) o vs e n =
    let h : x ≡ a = cc in
    let t : xs ++ p ∷ ys ≡ us ++ o ∷ vs = cc in
    in_turn_after x a xs p ys us o vs h (in_turn xs p ys us o vs t (λ k. n (ap suc k)))

-- ---- the slots of a pair without one

each_remove : (Q : Slot → Type 0) (slots : List Slot) (k : ℕ) → Each Q slots → Each Q (remove slots k)
each_remove Q slots k h = each_append Q (take k slots) (drop (suc k) slots) (each_take k slots h) (each_drop (suc k) slots h)
  where
    each_take : (k : ℕ) (slots : List Slot) → Each Q slots → Each Q (take k slots)
    each_take zero slots h = tt
    each_take (suc k) [] h = tt
    each_take (suc k) (s ∷ slots) h = (h.0, each_take k slots h.1)

    each_drop : (k : ℕ) (slots : List Slot) → Each Q slots → Each Q (drop k slots)
    each_drop zero slots h = h
    each_drop (suc k) [] h = tt
    each_drop (suc k) (s ∷ slots) h = each_drop k slots h.1

each_unmoved : (Q : Slot → Type 0) (g : Gstate) (p : Pair) → Each Q p.content.slots → Each Q (slots_not_moved g p)
each_unmoved Q g p h = go (nat_eq g.kind 0x4ff && same_pair g.pair p.at)
  where
    go : (b : Bool) → Each Q (cond b (remove p.content.slots g.id) p.content.slots)
    go true = each_remove Q p.content.slots g.id h
    go false = h

abbrev IfOther : (Slot → Type 0) → Slot → Type 0
IfOther F s = is_superblock s ≡ false → F s

from_entries : (F : Slot → Type 0) (ss : List Slot) → Each F (entry_slots ss) → Each (IfOther F) ss
from_entries F [] h = tt
from_entries F (s ∷ ss) h = go (is_superblock s) refl h (λ k. from_entries F ss k)
  where
    go : (b : Bool) → is_superblock s ≡ b → Each F (cond (not b) (s ∷ entry_slots ss) (entry_slots ss)) → (Each F (entry_slots ss) → Each (IfOther F) ss) → Each (IfOther F) (s ∷ ss)
    go true e k rest = ((λ f. absurd (let z = sym e ∙ f in cc)), rest k)
    go false e k rest = ((λ f. k.0), rest k.1)

to_entries : (F : Slot → Type 0) (ss : List Slot) → Each (IfOther F) ss → Each F (entry_slots ss)
to_entries F [] h = tt
to_entries F (s ∷ ss) h = go (is_superblock s) refl (to_entries F ss h.1)
  where
    go : (b : Bool) → is_superblock s ≡ b → Each F (entry_slots ss) → Each F (cond (not b) (s ∷ entry_slots ss) (entry_slots ss))
    go true e rest = rest
    go false e rest = (h.0 e, rest)

-- what holds of the entries of pairs holds of those that are visible
visible_each : (F : Slot → Type 0) (g : Gstate) (ss : List Pair) → Each (IfOther F) (all_slots ss) → Each F (flat_map (unmoved_entries g) ss)
visible_each F g ss h = subst (Each F) (sym (hidden_visible g ss)) (to_entries F (flat_map (slots_not_moved g) ss)
    (each_joined (IfOther F) (slots_not_moved g) ss (each_weaker (λ (s : Pair). Each (IfOther F) s.content.slots) (λ s. Each (IfOther F) (slots_not_moved g s)) (λ s k. each_unmoved (IfOther F) g s k) ss
    (each_pieces (IfOther F) (λ (s : Pair). s.content.slots) ss h))))

-- ---- a place

less_parts : {by : NameOrder} (xs ys : List Slot) (name : Name) → IsPlace by (xs ++ ys) (length xs) name → Each (λ s. name_cmp by s.name name ≡ Less) xs
less_parts [] ys name h = tt
less_parts (x ∷ xs) ys name h = (
  h.below 0 x (omega arith),
  less_parts xs ys name (record {
    within = (let w = h.within in omega arith);
    below = λ j d lt. h.below (suc j) d (omega arith);
    above = λ j d low high. h.above (suc j) d (omega arith) (omega arith);
  }),
)

greater_parts : {by : NameOrder} (xs ys : List Slot) (name : Name) → IsPlace by (xs ++ ys) (length xs) name → Each (λ s. name_cmp by name s.name ≡ Less) ys
greater_parts [] [] name h = tt
greater_parts [] (y ∷ ys) name h = (
  h.above 0 y (omega arith) (omega arith),
  greater_parts [] ys name (record {
    within = omega arith;
    below = λ j d lt. absurd (omega arith);
    above = λ j d low high. h.above (suc j) d (omega arith) (omega arith);
  }),
)
greater_parts (x ∷ xs) ys name h = greater_parts xs ys name (record {
  within = (let w = h.within in omega arith);
  below = λ j d lt. h.below (suc j) d (omega arith);
  above = λ j d low high. h.above (suc j) d (omega arith) (omega arith);
})

-- ---- the entries while a set move hides one

module _ (disk new : Disk) (wo : Site) (o : Pair) (lo : List Slot) (u : Slot) (ro : List Slot)
    (w : Site) (p : Pair) (q : Pair) (more : List Pair) (extra : List ℕ) (l : List Slot) (v : Slot) (r : List Slot)
    (step : IsMoveSet disk new wo o lo u ro w p [] q more extra l [] v r)
    (P : Path) (b : ℕ × ℕ) (leads : IsDirectoryAtPath (thread_at w (p ∷ [])) P b) (same_old : same_pair (begin_of wo (o ∷ [])) b ≡ true)
    (Q : Path) (a : ℕ × ℕ) (arrives : IsDirectoryAtPath (thread_at w (p ∷ [])) Q a) (same : same_pair (begin_of w (p ∷ [])) a ≡ true) where
  abbrev ps : List Pair
  ps = thread_at w (p ∷ [])

  abbrev g : Gstate
  g = pairs_gstate ps

  abbrev h : Gstate
  h = pairs_gstate (thread_at w (q ∷ more))

  abbrev dirs : List Pair
  dirs = dirs_at w (p ∷ [])

  abbrev E0 : DirectoryEntryMap
  E0 = all_entries ps

  were : all_directories ps ≡ pair_directories g dirs
  were = ap (pair_directories g) (pairs_behind w.chain dirs step.site.chain)

  apart_under : (k : Gstate) → Apart (pair_directories k dirs)
  apart_under k = distinct_apart k dirs (distinct_right w.chain dirs step.accepted.thread.distinct)

  run_now : IsRun (w.left ++ (q ∷ more ++ w.right))
  run_now = run_changed w.left p w.right q (more ++ w.right) (step.shape.run w.right) step.site.run

  same_under : (k : Gstate) (ss : List Pair) → SameVisible k k ss
  same_under k ss = each_always (λ s. unmoved_entries k s ≡ unmoved_entries k s) (λ s. refl) ss

  around_itself : SameAround h h w
  around_itself = record { before = same_under h w.before; left = same_under h w.left; right = same_under h w.right; after = same_under h w.after }

  abbrev Far : Pair → Type 0
  Far s = same_pair (pairs_gstate (thread_at w (q ∷ more))).pair s.at ≡ false

  far_front : Each Far (wo.before ++ wo.left)
  far_front = each_left Far (wo.before ++ wo.left) (wo.right ++ wo.after) (each_right Far w.chain ((wo.before ++ wo.left) ++ (wo.right ++ wo.after)) step.elsewhere)

  far_back : Each Far (wo.right ++ wo.after)
  far_back = each_right Far (wo.before ++ wo.left) (wo.right ++ wo.after) (each_right Far w.chain ((wo.before ++ wo.left) ++ (wo.right ++ wo.after)) step.elsewhere)

  far_same : (ss : List Pair) → Each Far ss → SameVisible g h ss
  far_same ss k = each_weaker Far (λ s. unmoved_entries h s ≡ unmoved_entries g s)
      (λ s e. ap entry_slots (unmoved_elsewhere h s e ∙ sym (unmoved_all g step.no_move s))) ss k

  around_old : SameAround g h wo
  around_old = record {
    before = far_same wo.before (each_left Far wo.before wo.left far_front);
    left = far_same wo.left (each_right Far wo.before wo.left far_front);
    right = far_same wo.right (each_left Far wo.right wo.after far_back);
    after = far_same wo.after (each_right Far wo.right wo.after far_back);
  }

  -- what the move hides
  hides : slots_not_moved h o ≡ lo ++ ro
  hides = ap₂ (λ k b. cond (nat_eq k 0x4ff && b) (remove o.content.slots h.id) o.content.slots) step.kind step.pair
      ∙ ap₂ (λ s i. remove s i) step.was_there step.id ∙ remove_here lo ro u

  showed : E0 b ≡ shown_before wo lo ++ u ∷ shown_behind wo ro
  showed = ap (λ ds. directory_slots ds b) were
      ∙ subst (λ z. directory_slots (pair_directories g z) b ≡ shown_at wo g (o ∷ [])) step.there
      (site_own g g wo o [] o [] step.ends step.run step.run refl (record { before = same_under g wo.before; left = same_under g wo.left; right = same_under g wo.right; after = same_under g wo.after }) b same_old
      (subst (λ z. Apart (pair_directories g z)) (sym step.there) (apart_under g)))
      ∙ shown_of g step.no_move wo (o ∷ []) lo (u ∷ []) ro (append-nil o.content.slots ∙ step.was_there)
      ∙ ap (λ s. shown_before wo lo ++ (s ++ shown_behind wo ro)) (entry_only u step.other)

  abbrev E1 : DirectoryEntryMap
  E1 = put E0 b (remove (E0 b) (place_at wo lo))

  hidden_there : flat_map (unmoved_entries g) wo.left ++ (flat_map (unmoved_entries h) (o ∷ []) ++ flat_map (unmoved_entries g) wo.right) ≡ remove (E0 b) (place_at wo lo)
  hidden_there = ap₂ (λ x y. x ++ (flat_map (unmoved_entries h) (o ∷ []) ++ y)) (visible_in g step.no_move wo.left) (visible_in g step.no_move wo.right)
      ∙ ap (λ z. entry_slots (all_slots wo.left) ++ (z ++ entry_slots (all_slots wo.right))) (append-nil (unmoved_entries h o) ∙ ap entry_slots hides)
      ∙ shown_place wo lo [] ro
      ∙ sym (ap (λ s. remove s (place_at wo lo)) showed ∙ remove_here (shown_before wo lo) (shown_behind wo ro) u)

  without : (x : ℕ × ℕ) → directory_slots (pair_directories h dirs) x ≡ E1 x
  without x = subst (λ z. directory_slots (pair_directories h z) x ≡ put (directory_slots (pair_directories g z)) b (flat_map (unmoved_entries g) wo.left ++ (flat_map (unmoved_entries h) (o ∷ []) ++ flat_map (unmoved_entries g) wo.right)) x) step.there
      (site_entries g h wo o [] o [] step.ends step.run step.run refl around_old b same_old (subst (λ z. Apart (pair_directories g z)) (sym step.there) (apart_under g)) x)
      ∙ ap₂ (λ ds s. put (directory_slots ds) b s x) (sym were) hidden_there

  abbrev shown_front : List Slot
  shown_front = flat_map (unmoved_entries h) w.left ++ entry_slots l

  abbrev shown_back : List Slot
  shown_back = entry_slots r ++ flat_map (unmoved_entries h) w.right

  hidden_none : (ss : List Pair) → Each Far ss → flat_map (slots_not_moved h) ss ≡ all_slots ss
  hidden_none [] k = refl
  hidden_none (s ∷ ss) k = ap₂ (λ x y. x ++ y) (unmoved_elsewhere h s k.0) (hidden_none ss k.1)

  there_before : E1 a ≡ shown_front ++ shown_back
  there_before = sym (without a) ∙ site_own h h w p [] q more step.site.ends step.site.run run_now step.shape.at around_itself a same (apart_under h)
      ∙ ap (λ z. flat_map (unmoved_entries h) w.left ++ (z ++ flat_map (unmoved_entries h) w.right)) (hidden_visible h (p ∷ []) ∙ ap entry_slots (hidden_none (p ∷ []) step.apart ∙ step.was))
      ∙ ap (λ z. flat_map (unmoved_entries h) w.left ++ (z ++ flat_map (unmoved_entries h) w.right)) (filter-append (λ (s : Slot). not (is_superblock s)) l r)
      ∙ ap (λ z. flat_map (unmoved_entries h) w.left ++ z) (append_assoc (entry_slots l) (entry_slots r) (flat_map (unmoved_entries h) w.right))
      ∙ sym (append_assoc (flat_map (unmoved_entries h) w.left) (entry_slots l) (entry_slots r ++ flat_map (unmoved_entries h) w.right))

  -- a name's place is between the same entries
  pub hidden_place : (name : Name) → IsPlace disk.order (all_entries (thread_at w (p ∷ [])) a) (place_at w l) name
      → IsPlace disk.order (put (all_entries (thread_at w (p ∷ []))) b (remove (all_entries (thread_at w (p ∷ [])) b) (place_at wo lo)) a) (length (flat_map (unmoved_entries (pairs_gstate (thread_at w (q ∷ more)))) w.left ++ entry_slots l)) name
  hidden_place name place =
      let shows : all_entries (thread_at w (p ∷ [])) a ≡ shown_before w l ++ shown_behind w r
      = site_shows disk w p l [] r a step.accepted step.site step.no_move same (sym (append-nil p.content.slots) ∙ step.was) in
      let here = subst (λ z. IsPlace disk.order z (place_at w l) name) shows place in
      let less = from_entries (λ s. name_cmp disk.order s.name name ≡ Less) (all_slots w.left ++ l) (less_parts (shown_before w l) (shown_behind w r) name here) in
      let more_than = from_entries (λ s. name_cmp disk.order name s.name ≡ Less) (r ++ all_slots w.right) (greater_parts (shown_before w l) (shown_behind w r) name here) in
      let L : Slot → Type 0 = λ s. name_cmp disk.order s.name name ≡ Less in
      let G : Slot → Type 0 = λ s. name_cmp disk.order name s.name ≡ Less in
      subst (λ z. IsPlace disk.order z (length shown_front) name) (sym there_before) (place_between shown_front shown_back name
      (each_append L (flat_map (unmoved_entries h) w.left) (entry_slots l) (visible_each L h w.left (each_left (IfOther L) (all_slots w.left) l less)) (to_entries L l (each_right (IfOther L) (all_slots w.left) l less)))
      (each_append G (entry_slots r) (flat_map (unmoved_entries h) w.right) (to_entries G r (each_left (IfOther G) r (all_slots w.right) more_than))
      (visible_each G h w.right (each_right (IfOther G) r (all_slots w.right) more_than))))
