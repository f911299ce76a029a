-- A search that skips a moved slot, in an accepted image.
use Rattle.std.proofs.Common.{ℕ, zero, suc, ◌≡◌, ◌+◌, ◌==◌, ◌&&◌, Bool, true, false, cond, not, List, [], ◌∷◌, ◌++◌, length, drop, Option, Some, None, refl, sym, ap, ap₂, subst, ◌∙◌, arith, append_assoc, length-append, slice_get, filter, flat_map, remove, take, nat_eq}
use Rattle.std.specs.List.{IsDistinct}
use Rattle.lfs_lookup.proofs.Common.{option_and_then, same_Some, Disk, IsPairAt, IsDirectoryPair, Name, slot_of_path, Slot, Gstate, is_superblock, same_pair, Pair, pairs_gstate, unmoved_entries, pairs_blocks, pair_directories, pairs_from_root, directory_slots, root_address, count_before_root, moved_id, Path, entry_named, root_slot, IsAccepted, IsDirectoryAtPath, all_entries, Each, each_append, listing, IsRun, run_directories, Apart, distinct_apart, distinct_right, entries_own, slot_there, begins_directory, HasDirectory, chain_of_thread, IsOnlyMovedSlot, IsNameAbsentFrom, IsNameAbsentExcept, IsNameAtVisibleSlot, skipped_id}
use Rattle.lfs_model.proofs.Paths.{unlike_test}
use Rattle.lfs_model.proofs.Searches as searches
use Rattle.lfs_model.proofs.Searches.{IsDirectory}
use Rattle.lfs_model.proofs.Sites.{Site, dirs_at, thread_at, IsSite, begin_of, shown_at, site_directories}
use Rattle.lfs_model.proofs.Superblocks.{pairs_behind}
use Rattle.lfs_model.proofs.Walks.{walk_below}
use Rattle.lfs_lookup.specs.declared.entry.FileOrDirectory.{FileOrDirectory}
use Rattle.lfs_lookup.specs.declared.search.SlotPosition.{SlotPosition}

-- ---- a slot among others

-- it is one of them
record Has (xs : List Slot) (u : Slot) : Type 0 where
  at : ℕ
  is : slice_get xs at ≡ Some u

has_left : (xs ys : List Slot) (u : Slot) (i : ℕ) → slice_get xs i ≡ Some u → slice_get (xs ++ ys) i ≡ Some u
has_left [] ys u i e = absurd (cc)
has_left (x ∷ xs) ys u zero e = e
has_left (x ∷ xs) ys u (suc i) e = has_left xs ys u i e

has_right : (xs ys : List Slot) (u : Slot) (i : ℕ) → slice_get ys i ≡ Some u → Has (xs ++ ys) u
has_right [] ys u i e = record { at = i; is = e }
has_right (x ∷ xs) ys u i e = let h = has_right xs ys u i e in record { at = suc h.at; is = h.is }

has_filter : (f : Slot → Bool) (xs : List Slot) (u : Slot) (i : ℕ) → slice_get xs i ≡ Some u → f u ≡ true → Has (filter f xs) u
has_filter f [] u i e k = absurd (cc)
has_filter f (x ∷ xs) u zero e k =
    let same : x ≡ u = same_Some x u e in
    subst (λ z. Has z u) (sym (ap (λ b. cond b (x ∷ filter f xs) (filter f xs)) (ap f same ∙ k))) (record { at = 0; is = e })
has_filter f (x ∷ xs) u (suc i) e k = go (f x) (has_filter f xs u i e k)
  where
    go : (b : Bool) → Has (filter f xs) u → Has (cond b (x ∷ filter f xs) (filter f xs)) u
    go true h = record { at = suc h.at; is = h.is }
    go false h = h

has_remove : (xs : List Slot) (m : ℕ) (u : Slot) (i : ℕ) → slice_get xs i ≡ Some u → (m ≡ i → ⊥) → Has (remove xs m) u
has_remove [] m u i e k = absurd (cc)
has_remove (x ∷ xs) zero u zero e k = absurd (k refl)
has_remove (x ∷ xs) zero u (suc i) e k = record { at = i; is = e }
has_remove (x ∷ xs) (suc m) u zero e k = record { at = 0; is = e }
has_remove (x ∷ xs) (suc m) u (suc i) e k = let h = has_remove xs m u i e (λ f. k (ap suc f)) in record { at = suc h.at; is = h.is }

-- where what is left of them was
record Was (xs : List Slot) (m : ℕ) (u : Slot) : Type 0 where
  at : ℕ
  is : slice_get xs at ≡ Some u
  other : m ≡ at → ⊥

was_there : (xs : List Slot) (m : ℕ) (u : Slot) (i : ℕ) → slice_get (remove xs m) i ≡ Some u → Was xs m u
was_there [] zero u i e = absurd (cc)
was_there [] (suc m) u i e = absurd (cc)
was_there (x ∷ xs) zero u i e = record { at = suc i; is = e; other = λ f. absurd (omega (arith, f)) }
was_there (x ∷ xs) (suc m) u zero e = record { at = 0; is = e; other = λ f. absurd (omega (arith, f)) }
was_there (x ∷ xs) (suc m) u (suc i) e = let w = was_there xs m u i e in record { at = suc w.at; is = w.is; other = λ f. w.other (omega (arith, f)) }

each_kept : (P : Slot → Type 0) (xs : List Slot) → ((i : ℕ) (s : Slot) → slice_get xs i ≡ Some s → is_superblock s ≡ false → P s) → Each P (filter (λ s. not (is_superblock s)) xs)
each_kept P [] h = tt
each_kept P (x ∷ xs) h = go (is_superblock x) refl (each_kept P xs (λ i. h (suc i)))
  where
    go : (b : Bool) → is_superblock x ≡ b → Each P (filter (λ s. not (is_superblock s)) xs) → Each P (cond (not b) (x ∷ filter (λ s. not (is_superblock s)) xs) (filter (λ s. not (is_superblock s)) xs))
    go true e rest = rest
    go false e rest = (h 0 x refl e, rest)

-- ---- in one pair

visible_has : (g : Gstate) (p : Pair) (u : Slot) (id : ℕ) → slice_get p.content.slots id ≡ Some u → is_superblock u ≡ false → (moved_id g p ≡ Some id → ⊥) → Has (unmoved_entries g p) u
visible_has g p u id e entry kept = go (g.kind == 0x4ff && same_pair g.pair p.at) refl
  where
    other : (xs : List Slot) (i : ℕ) → slice_get xs i ≡ Some u → Has (filter (λ s. not (is_superblock s)) xs) u
    other xs i at = has_filter (λ s. not (is_superblock s)) xs u i at (ap not entry)

    go : (b : Bool) → (g.kind == 0x4ff && same_pair g.pair p.at) ≡ b → Has (filter (λ s. not (is_superblock s)) (cond b (remove p.content.slots g.id) p.content.slots)) u
    go true f =
        let h = has_remove p.content.slots g.id u id e (λ same. kept (ap (λ b. cond b (Some g.id) None) f ∙ ap Some same)) in
        other (remove p.content.slots g.id) h.at h.is
    go false f = other p.content.slots id e

abbrev IsOther : Name → Slot → Type 0
IsOther name s = s.name ≡ name → ⊥

visible_absent : (g : Gstate) (p : Pair) (name : Name) → IsNameAbsentExcept (moved_id g p) p.content.slots name → Each (IsOther name) (unmoved_entries g p)
visible_absent g p name h = go (g.kind == 0x4ff && same_pair g.pair p.at) refl
  where
    go : (b : Bool) → (g.kind == 0x4ff && same_pair g.pair p.at) ≡ b → Each (IsOther name) (filter (λ s. not (is_superblock s)) (cond b (remove p.content.slots g.id) p.content.slots))
    go true f = each_kept (IsOther name) (remove p.content.slots g.id)
        (λ i s at entry. let w = was_there p.content.slots g.id s i at in h w.at s w.is entry (λ e. w.other (same_Some g.id w.at (sym (ap (λ b. cond b (Some g.id) None) f) ∙ e))))
    go false f = each_kept (IsOther name) p.content.slots (λ i s at entry. h i s at entry (λ e. absurd (let k = sym (ap (λ b. cond b (Some g.id) None) f) ∙ e in cc)))

-- ---- along the pairs of a directory

hides_behind : (g : Gstate) (moved : Option SlotPosition) (i : ℕ) (xs ys : List Pair) → IsOnlyMovedSlot g moved i (xs ++ ys) → IsOnlyMovedSlot g moved (i + length xs) ys
hides_behind g moved i [] ys h = let e : i ≡ i + 0 = omega arith in subst (λ (n : ℕ). IsOnlyMovedSlot g moved n ys) e h
hides_behind g moved i (x ∷ xs) ys h = let e : i + 1 + length xs ≡ i + suc (length xs) = omega arith in subst (λ (n : ℕ). IsOnlyMovedSlot g moved n ys) e (hides_behind g moved (i + 1) xs ys h.1)

absent_run : (g : Gstate) (moved : Option SlotPosition) (index : ℕ) (p : Pair) (run after : List Pair) (name : Name) → IsRun (p ∷ run) → IsOnlyMovedSlot g moved index (p ∷ (run ++ after))
    → IsNameAbsentFrom moved index (p ∷ (run ++ after)) name → Each (IsOther name) (flat_map (unmoved_entries g) (p ∷ run))
absent_run g moved index p [] after name is hides absent =
    each_append (IsOther name) (unmoved_entries g p) [] (visible_absent g p name (subst (λ k. IsNameAbsentExcept k p.content.slots name) hides.0 absent.0)) tt
absent_run g moved index p (q ∷ run) after name is hides absent =
    each_append (IsOther name) (unmoved_entries g p) (flat_map (unmoved_entries g) (q ∷ run)) (visible_absent g p name (subst (λ k. IsNameAbsentExcept k p.content.slots name) hides.0 absent.0))
    (absent_run g moved (index + 1) q run after name is.1 hides.1 (absent.1 is.0))

none_named : (name : Name) (xs : List Slot) → Each (IsOther name) xs → entry_named name xs ≡ None
none_named name [] h = refl
none_named name (x ∷ xs) h = ap (λ b. cond b (Some x) (entry_named name xs)) (unlike_test name x.name (λ e. h.0 (sym e))) ∙ none_named name xs h.1

-- ---- what the directory shows

shows_at : (disk : Disk) (w : Site) (p : Pair) (a : ℕ × ℕ) → IsAccepted disk (thread_at w (p ∷ [])) → IsSite w (p ∷ []) → same_pair (begin_of w (p ∷ [])) a ≡ true →
    all_entries (thread_at w (p ∷ [])) a ≡ shown_at w (pairs_gstate (thread_at w (p ∷ []))) (p ∷ [])
shows_at disk w p a ok there same =
    let g = pairs_gstate (thread_at w (p ∷ [])) in
    let dirs = site_directories g w p [] there.ends there.run in
    ap (λ z. directory_slots (pair_directories g z) a) (pairs_behind w.chain (dirs_at w (p ∷ [])) there.chain)
    ∙ ap (λ ds. directory_slots ds a) dirs
    ∙ entries_own (pair_directories g w.before) (listing (begin_of w (p ∷ [])) (shown_at w g (p ∷ []))) (pair_directories g w.after) a
    (subst Apart dirs (distinct_apart g (dirs_at w (p ∷ [])) (distinct_right w.chain (dirs_at w (p ∷ [])) ok.thread.distinct))) same

get_at : (xs : List Slot) (u : Slot) (ys : List Slot) → slice_get (xs ++ u ∷ ys) (length xs) ≡ Some u
get_at [] u ys = refl
get_at (x ∷ xs) u ys = get_at xs u ys

-- the slot of its path is found
pub shown_is : (disk : Disk) (ps : List Pair) (path : Path) (a : ℕ × ℕ) (moved : Option SlotPosition) (first : ℕ) (name : Name) (spot : SlotPosition) (entry : FileOrDirectory) → IsAccepted disk ps → IsOnlyMovedSlot (pairs_gstate ps) moved 0 ps
    → IsDirectoryAtPath ps path a → IsPairAt ps a first → (s : IsNameAtVisibleSlot ps moved first name spot entry) → slot_of_path ps (path ++ name ∷ []) ≡ Some s.stands.stands.slot
shown_is disk ps path a moved first name spot entry ok hides leads begins s =
    subst (λ z. slot_of_path ps (path ++ z ∷ []) ≡ Some u) s.stands.stands.named (slot_there disk ps path a h.at u ok leads h.is)
  where
    pair : Pair
    pair = s.stands.pair

    u : Slot
    u = s.stands.stands.slot

    b : IsDirectoryPair ps first spot.pair s.stands.pair s.stands.rest
    b = s.stands.place

    w : Site
    w = searches.site disk ps path a ok leads first spot.pair s.stands.pair s.stands.rest s.stands.place begins

    is : ps ≡ thread_at w (pair ∷ [])
    is = searches.thread_is disk ps path a ok leads first spot.pair s.stands.pair s.stands.rest s.stands.place begins

    hidden : skipped_id moved spot.pair ≡ moved_id (pairs_gstate ps) pair
    hidden =
        let whole : ps ≡ (b.front ++ b.left) ++ pair ∷ s.stands.rest = b.parts ∙ sym (append_assoc b.front b.left (pair ∷ s.stands.rest)) in
        let behind = hides_behind (pairs_gstate ps) moved 0 (b.front ++ b.left) (pair ∷ s.stands.rest) (subst (IsOnlyMovedSlot (pairs_gstate ps) moved 0) whole hides) in
        let n = b.number in
        let l = length-append b.front b.left in
        let count : 0 + length (b.front ++ b.left) ≡ spot.pair = omega (arith, n, l) in
        subst (λ (i : ℕ). skipped_id moved i ≡ moved_id (pairs_gstate ps) pair) count behind.0

    here : Has (unmoved_entries (pairs_gstate ps) pair) u
    here =
        let at : slice_get pair.content.slots spot.id ≡ Some u = ap₂ (λ z (i : ℕ). slice_get z i) s.stands.stands.held (sym s.stands.stands.number) ∙ get_at s.stands.stands.left u s.stands.stands.right in
        visible_has (pairs_gstate ps) pair u spot.id at s.stands.stands.entry (λ e. s.kept (hidden ∙ e))

    shows : all_entries ps a ≡ shown_at w (pairs_gstate ps) (pair ∷ [])
    shows = ap (λ z. all_entries z a) is
        ∙ shows_at disk w pair a (subst (IsAccepted disk) is ok) (searches.is_site disk ps path a ok leads first spot.pair s.stands.pair s.stands.rest s.stands.place begins)
        (searches.same disk ps path a ok leads first spot.pair s.stands.pair s.stands.rest s.stands.place begins)
        ∙ ap (λ z. shown_at w (pairs_gstate z) (pair ∷ [])) (sym is)

    h : Has (all_entries ps a) u
    h =
        let one = has_left (unmoved_entries (pairs_gstate ps) pair) [] u here.at here.is in
        let two = has_left (flat_map (unmoved_entries (pairs_gstate ps)) (pair ∷ [])) (flat_map (unmoved_entries (pairs_gstate ps)) w.right) u here.at one in
        subst (λ z. Has z u) (sym shows) (has_right (flat_map (unmoved_entries (pairs_gstate ps)) w.left) (flat_map (unmoved_entries (pairs_gstate ps)) (pair ∷ []) ++ flat_map (unmoved_entries (pairs_gstate ps)) w.right) u here.at two)

drop_to : (xs ys : List Pair) (n : ℕ) → n ≡ length xs → drop n (xs ++ ys) ≡ ys
drop_to [] ys n e = ap (λ k. drop k ys) e
drop_to (x ∷ xs) ys n e = ap (λ k. drop k (x ∷ (xs ++ ys))) e ∙ drop_to xs ys (length xs) refl

-- nothing of the name is shown
pub absent_is_shown : (disk : Disk) (ps : List Pair) (path : Path) (a : ℕ × ℕ) (moved : Option SlotPosition) (first : ℕ) (name : Name) → IsAccepted disk ps → IsOnlyMovedSlot (pairs_gstate ps) moved 0 ps
    → IsDirectoryAtPath ps path a → IsPairAt ps a first → IsNameAbsentFrom moved first (drop first ps) name → slot_of_path ps (path ++ name ∷ []) ≡ None
absent_is_shown disk ps path a moved first name ok hides leads begins absent = walk_below (all_entries ps) (root_slot (root_address ps)) path a leads name [] ∙ ap (option_and_then (λ z. Some z)) (none_named name (all_entries ps a) each)
  where
    begun : IsDirectory ps a first
    begun = begins_directory disk ps path a first ok leads begins

    d : HasDirectory (pairs_from_root ps) a
    d = begun.directory

    g : Gstate
    g = pairs_gstate ps

    chain : List Pair
    chain = take (count_before_root ps) ps

    whole : ps ≡ (take (count_before_root ps) ps ++ d.before) ++ (d.first ∷ (d.run ++ d.after))
    whole = (chain_of_thread ps).0 ∙ ap (λ z. take (count_before_root ps) ps ++ z) d.is ∙ sym (append_assoc (take (count_before_root ps) ps) d.before (d.first ∷ (d.run ++ d.after)))

    count : length (take (count_before_root ps) ps ++ d.before) ≡ first
    count =
        let many : length (take (count_before_root ps) ps) ≡ count_before_root ps = sym (ap count_before_root (chain_of_thread ps).0 ∙ (chain_of_thread ps).1) in
        let n = begun.number in
        omega (arith, n, length-append (take (count_before_root ps) ps) d.before, many)

    behind : drop first ps ≡ d.first ∷ (d.run ++ d.after)
    behind = ap (drop first) whole ∙ drop_to (take (count_before_root ps) ps ++ d.before) (d.first ∷ (d.run ++ d.after)) first (sym count)

    hidden : IsOnlyMovedSlot (pairs_gstate ps) moved first (d.first ∷ (d.run ++ d.after))
    hidden = subst (λ (i : ℕ). IsOnlyMovedSlot (pairs_gstate ps) moved i (d.first ∷ (d.run ++ d.after))) (let c = count in let k : 0 + length (take (count_before_root ps) ps ++ d.before) ≡ first = omega (arith, c) in k)
        (hides_behind (pairs_gstate ps) moved 0 (take (count_before_root ps) ps ++ d.before) (d.first ∷ (d.run ++ d.after)) (subst (IsOnlyMovedSlot (pairs_gstate ps) moved 0) whole hides))

    dirs : pair_directories (pairs_gstate ps) (pairs_from_root ps) ≡ pair_directories (pairs_gstate ps) d.before ++ listing d.first.at (flat_map (unmoved_entries (pairs_gstate ps)) (d.first ∷ d.run)) ∷ pair_directories (pairs_gstate ps) d.after
    dirs = ap (pair_directories (pairs_gstate ps)) d.is ∙ run_directories (pairs_gstate ps) d.before d.first d.run d.after d.ends d.is_run

    apart : Apart (pair_directories (pairs_gstate ps) (pairs_from_root ps))
    apart = distinct_apart (pairs_gstate ps) (pairs_from_root ps) (distinct_right (take (count_before_root ps) ps) (pairs_from_root ps) (subst (λ z. IsDistinct nat_eq (pairs_blocks z)) (chain_of_thread ps).0 ok.thread.distinct))

    shows : all_entries ps a ≡ flat_map (unmoved_entries (pairs_gstate ps)) (d.first ∷ d.run)
    shows = ap (λ ds. directory_slots ds a) dirs
        ∙ entries_own (pair_directories (pairs_gstate ps) d.before) (listing d.first.at (flat_map (unmoved_entries (pairs_gstate ps)) (d.first ∷ d.run))) (pair_directories (pairs_gstate ps) d.after) a (subst Apart dirs apart) d.at

    each : Each (IsOther name) (all_entries ps a)
    each = subst (Each (IsOther name)) (sym shows)
        (absent_run (pairs_gstate ps) moved first d.first d.run d.after name d.is_run hidden (subst (λ z. IsNameAbsentFrom moved first z name) behind absent))
