-- Names of entries are short.
use Rattle.std.proofs.Common.{ℕ, zero, suc, ◌≡◌, ◌≤◌, ◌+◌, ◌==◌, ◌&&◌, Bool, true, false, cond, not, List, [], ◌∷◌, filter, length, take, drop, refl}
use Rattle.std.specs.Prelude.{All, nat_le}
use Rattle.lfs_lookup.proofs.Common.{remove, recursion_from_All, Disk, is_component, Gstate, Slot, is_superblock, same_pair, Pair, pairs_gstate, count_before_root, slots_not_moved, unmoved_entries, Path, IsAccepted, IsFileOrDirectory, BeginsWithSuperblock, IsDirectoryAtPath, all_entries, Each, each_weaker}
use Rattle.std.proofs.lemmas.Bool.{leb-true}
use Rattle.lfs_model.specs.declared.limits.AcceptedVersions.{AcceptedVersions}
use Rattle.lfs_model.specs.format.Names.{name_limit}
use Rattle.lfs_lookup.proofs.Visits.{each_visible}

abbrev pub name_fits : Slot → Type 0
name_fits s = length s.name ≤ name_limit

-- of a superblock nothing is said
abbrev may_fit : Slot → Type 0
may_fit s = is_superblock s ≡ false → name_fits s

right : (a b : Bool) → (a && b) ≡ true → b ≡ true
right true b e = e
right false b e = absurd (cc)

entry_fits : (s : Slot) → IsFileOrDirectory s → may_fit s
entry_fits s h k = leb-true (length s.name) name_limit (right (is_component s.name) (nat_le (length s.name) name_limit) h.name)

entries_fit : (slots : List Slot) → All IsFileOrDirectory slots → Each may_fit slots
entries_fit slots h = each_weaker IsFileOrDirectory may_fit entry_fits slots (recursion_from_All IsFileOrDirectory slots h)

headed_fit : (versions : AcceptedVersions) (bytes : List ℕ) (slots : List Slot) → BeginsWithSuperblock versions bytes slots → Each may_fit slots
headed_fit versions bytes [] h = tt
headed_fit versions bytes (s ∷ slots) h = ((λ k. let e = h.0 in absurd (cc)), entries_fit slots h.2)

-- ---- the pairs of the thread

each_parted : (P : Pair → Type 0) (n : ℕ) (ps : List Pair) → Each P (take n ps) → Each P (drop n ps) → Each P ps
each_parted P zero ps h k = k
each_parted P (suc n) [] h k = tt
each_parted P (suc n) (p ∷ ps) h k = (h.0, each_parted P n ps h.1 k)

pairs_fit : (disk : Disk) (ps : List Pair) → IsAccepted disk ps → Each (λ p. Each may_fit p.content.slots) ps
pairs_fit disk ps ok =
    let n = count_before_root ps + 1 in
    let s = ok.superblock in
    each_parted (λ p. Each may_fit p.content.slots) n ps
    (each_weaker (λ (p : Pair). BeginsWithSuperblock disk.profile.versions s.0 p.content.slots) (λ (p : Pair). Each may_fit p.content.slots) (λ p h. headed_fit disk.profile.versions s.0 p.content.slots h) (take n ps)
    (recursion_from_All (λ (p : Pair). BeginsWithSuperblock disk.profile.versions s.0 p.content.slots) (take n ps) s.1.1))
    (each_weaker (λ (p : Pair). All IsFileOrDirectory p.content.slots) (λ (p : Pair). Each may_fit p.content.slots) (λ p h. entries_fit p.content.slots h) (drop n ps)
    (recursion_from_All (λ (p : Pair). All IsFileOrDirectory p.content.slots) (drop n ps) ok.slots))

-- ---- what they show

fit_removed : (xs : List Slot) (id : ℕ) → Each may_fit xs → Each may_fit (remove xs id)
fit_removed [] zero h = tt
fit_removed [] (suc id) h = tt
fit_removed (x ∷ xs) zero h = h.1
fit_removed (x ∷ xs) (suc id) h = (h.0, fit_removed xs id h.1)

fit_unmoved : (g : Gstate) (p : Pair) → Each may_fit p.content.slots → Each may_fit (slots_not_moved g p)
fit_unmoved g p h = go (g.kind == 0x4ff && same_pair g.pair p.at)
  where
    go : (b : Bool) → Each may_fit (cond b (remove p.content.slots g.id) p.content.slots)
    go true = fit_removed p.content.slots g.id h
    go false = h

fit_shown : (slots : List Slot) → Each may_fit slots → Each name_fits (filter (λ s. not (is_superblock s)) slots)
fit_shown [] h = tt
fit_shown (s ∷ slots) h = go (is_superblock s) refl (fit_shown slots h.1)
  where
    go : (b : Bool) → is_superblock s ≡ b → Each name_fits (filter (λ s. not (is_superblock s)) slots)
        → Each name_fits (cond (not b) (s ∷ filter (λ s. not (is_superblock s)) slots) (filter (λ s. not (is_superblock s)) slots))
    go true e rest = rest
    go false e rest = (h.0 e, rest)

-- each entry of a directory has a short name
pub fitting_names : (disk : Disk) (ps : List Pair) (path : Path) (at : ℕ × ℕ) → IsAccepted disk ps → IsDirectoryAtPath ps path at → Each name_fits (all_entries ps at)
fitting_names disk ps path at ok leads =
    each_visible name_fits disk ps path at ok leads
    (each_weaker (λ (p : Pair). Each may_fit p.content.slots) (λ (p : Pair). Each name_fits (unmoved_entries (pairs_gstate ps) p))
    (λ p h. fit_shown (slots_not_moved (pairs_gstate ps) p) (fit_unmoved (pairs_gstate ps) p h)) ps (pairs_fit disk ps ok))
