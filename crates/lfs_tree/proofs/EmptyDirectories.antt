-- A directory without entries, but the root, has one pair without slots.
use Rattle.std.proofs.Common.{ℕ, ◌≡◌, ◌≤◌, ◌+◌, ◌-◌, ◌∙◌, zero, suc, true, false, cond, not, List, [], ◌∷◌, ◌++◌, length, drop, get_or, slice_get, None, Some, refl, sym, ap, subst, arith, flat_map}
use Rattle.std.proofs.lemmas.List.{drop-drop}
use Rattle.std.proofs.lemmas.Option.{get_or_from_slice_get}
use Rattle.std.proofs.Math.Seq.{drop-append_seam}
use Rattle.lfs_tree.proofs.Common.{Disk, IsPairAt, Name, Slot, same_pair, Pair, pairs_from_root, first_address, pairs_gstate, is_hard_tail, root_address, count_before_root, Path, HasNoEmptyPairs, IsWritable, IsAccepted, IsDirectoryAtPath, all_entries, Each, HasNoMove, IsDirectory, begins_directory, empty_anchor}
use Rattle.lfs_model.specs.session.InDirectory.{HaveNoSuperblock, entry_slots, all_slots}
use Rattle.lfs_model.specs.format.Slots.{is_superblock}
use Rattle.lfs_model.specs.format.Thread.{unmoved_entries}
use Rattle.lfs_model.proofs.Found.{HasDirectory}
use Rattle.lfs_model.proofs.Layouts.{have_right}
use Rattle.lfs_model.proofs.Listings.{IsRun}
use Rattle.lfs_model.proofs.Searches.{plain_behind}
use Rattle.lfs_model.proofs.Splices as splices
use Rattle.lfs_lookup.specs.Listed.{joined_pairs}
use Rattle.lfs_lookup.proofs.Directories.{own_run, run_is}

-- entries are those of slots that aren't a superblock's
none_first : (xs ys : List Slot) → Each (λ s. is_superblock s ≡ false) xs → entry_slots (xs ++ ys) ≡ [] → (xs ≡ []) × (entry_slots ys ≡ [])
none_first [] ys plain e = (refl, e)
none_first (x ∷ xs) ys plain e = absurd (let k = sym (ap (λ b. cond (not b) (x ∷ entry_slots (xs ++ ys)) (entry_slots (xs ++ ys))) plain.0) ∙ e in cc)

path_some : (above : Path) (name : Name) → [] ≡ above ++ name ∷ [] → ⊥
path_some [] name e = absurd (cc)
path_some (x ∷ above) name e = absurd (cc)

-- the pair has no slots, and no hard tail
pub record IsBare (p : Pair) : Type 0 where
  pub empty : p.content.slots ≡ []
  pub alone : is_hard_tail p.content.tail ≡ false

module _ (disk : Disk) (ps : List Pair) (above : Path) (name : Name) (a : ℕ × ℕ) (n : ℕ) (ok : IsAccepted disk ps) (fits : IsWritable disk ps) (none : HasNoMove (pairs_gstate ps))
    (leads : IsDirectoryAtPath ps (above ++ name ∷ []) a) (b : IsPairAt ps a n) (empty : all_entries ps a ≡ []) where
  begun : IsDirectory ps a n
  begun = begins_directory disk ps (above ++ name ∷ []) a n ok leads b

  abbrev d : HasDirectory (pairs_from_root ps) a
  d = begun.directory

  -- the root isn't named by an entry
  not_root : d.before ≡ [] → ⊥
  not_root e =
      let root : root_address ps ≡ d.first.at = ap first_address (d.is ∙ ap (λ z. z ++ (d.first ∷ d.run ++ d.after)) e) in
      path_some above name (ok.once [] (above ++ name ∷ []) (root_address ps) a refl leads (subst (λ z. same_pair z a ≡ true) (sym root) d.at))

  some_before : 1 ≤ length d.before
  some_before = go d.before not_root
    where
      go : (xs : List Pair) → (xs ≡ [] → ⊥) → 1 ≤ length xs
      go [] h = absurd (h refl)
      go (x ∷ xs) h = omega arith

  rest_here : drop n ps ≡ d.first ∷ d.run ++ d.after
  rest_here = ap (λ k. drop k ps) begun.number ∙ sym (drop-drop (length d.before) (count_before_root ps) ps) ∙ ap (drop (length d.before)) d.is ∙ drop-append_seam d.before (d.first ∷ d.run ++ d.after)

  plain : HaveNoSuperblock (d.first ∷ d.run ++ d.after)
  plain =
      let number = begun.number in
      let some = some_before in
      let low : count_before_root ps ≤ n - 1 = omega arith in
      let next : n - 1 + 1 ≡ n = omega arith in
      subst HaveNoSuperblock (ap (λ k. drop k ps) next ∙ rest_here) (plain_behind disk ps (n - 1) ok low)

  shown : entry_slots (d.first.content.slots ++ all_slots d.run) ≡ []
  shown = sym (splices.visible_in (pairs_gstate ps) none (d.first ∷ d.run)) ∙ ap (flat_map (unmoved_entries (pairs_gstate ps))) (sym (ap joined_pairs rest_here ∙ run_is d.first d.run d.after d.is_run))
      ∙ own_run disk ps (above ++ name ∷ []) a n ok leads b ∙ empty

  first_bare : (d.first.content.slots ≡ []) × (entry_slots (all_slots d.run) ≡ [])
  first_bare = none_first d.first.content.slots (all_slots d.run) plain.0 shown

  have : HasNoEmptyPairs (is_hard_tail d.first.content.tail) (d.run ++ d.after)
  have = (have_right None d.before (d.first ∷ d.run ++ d.after) (subst (HasNoEmptyPairs false) d.is fits.no_empty_pair)).1

  no_run : (run : List Pair) → d.run ≡ run → IsRun (d.first ∷ run) → HaveNoSuperblock (run ++ d.after) → entry_slots (all_slots run) ≡ [] → HasNoEmptyPairs (is_hard_tail d.first.content.tail) (run ++ d.after) → is_hard_tail d.first.content.tail ≡ false
  no_run [] e is_run clean shows filled = is_run
  no_run (q ∷ run) e is_run clean shows filled = absurd (filled.0 is_run.0 (none_first q.content.slots (all_slots run) clean.0 shows).0)

  bare_first : IsBare d.first
  bare_first = record { empty = first_bare.0; alone = no_run d.run refl d.is_run plain.1 first_bare.1 have }

  first_there : slice_get ps n ≡ Some d.first
  first_there = sym (get_dropped n ps) ∙ ap (λ z. slice_get z 0) rest_here
    where
      get_dropped : (n : ℕ) (xs : List Pair) → slice_get (drop n xs) 0 ≡ slice_get xs n
      get_dropped zero xs = refl
      get_dropped (suc n) [] = refl
      get_dropped (suc n) (x ∷ xs) = get_dropped n xs

  -- the pair of that number is the directory's only one
  pub bare_there : IsBare (get_or ps n empty_anchor)
  bare_there = subst IsBare (sym (get_or_from_slice_get ps n d.first empty_anchor first_there)) bare_first

-- the pair of that number is at that address
pub at_there : (ps : List Pair) (a : ℕ × ℕ) (n : ℕ) → IsPairAt ps a n → same_pair (get_or ps n empty_anchor).at a ≡ true
at_there ps a n b = subst (λ (p : Pair). same_pair p.at a ≡ true) (sym (get_or_from_slice_get ps n b.pair empty_anchor b.there)) b.same
