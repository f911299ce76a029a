-- The root directory's entries are in the pairs along hard tails from the first pair of the thread on.
use Rattle.std.proofs.Common.{ℕ, zero, suc, ◌≡◌, ◌<◌, ◌+◌, ◌∙◌, Bool, true, false, cond, not, ◌&&◌, ◌==◌, List, [], ◌∷◌, ◌++◌, length, map, filter, flat_map, drop, remove, slice_get, Some, refl, sym, ap, subst, arith}
use Rattle.std.proofs.lemmas.Bool.{and_parts}
use Rattle.lfs_lookup.proofs.Common.{Disk, Slot, Gstate, is_superblock, same_pair, Pair, pairs_from_root, pairs_gstate, has_no_entry, is_hard_tail, chain_may_continue, has_superblock, root_address, count_before_root, unmoved_entries, IsPairAt, IsAccepted, all_entries, led_directory, named_struct, joined_pairs, directory_entries_from, LeadsToPair}
use Rattle.lfs_model.specs.format.Thread.{first_address}
use Rattle.lfs_model.proofs.Pairs.{pair_itself}
use Rattle.lfs_lookup.proofs.Directories.{own_run}

-- a pair with no slot or with the superblock alone shows nothing
bare_shows : (g : Gstate) (p : Pair) (slots : List Slot) → p.content.slots ≡ slots → has_no_entry slots ≡ true → unmoved_entries g p ≡ []
bare_shows g p (s ∷ t ∷ slots) e h = absurd (cc)
bare_shows g p [] e h = go (g.kind == 0x4ff && same_pair g.pair p.at)
  where
    rest : (id : ℕ) → filter (λ (t : Slot). not (is_superblock t)) (remove [] id) ≡ []
    rest zero = refl
    rest (suc id) = refl

    go : (b : Bool) → filter (λ t. not (is_superblock t)) (cond b (remove p.content.slots g.id) p.content.slots) ≡ []
    go true = ap (λ z. filter (λ t. not (is_superblock t)) (remove z g.id)) e ∙ rest g.id
    go false = ap (filter (λ t. not (is_superblock t))) e
bare_shows g p (s ∷ []) e h = go (g.kind == 0x4ff && same_pair g.pair p.at)
  where
    whole : filter (λ t. not (is_superblock t)) (s ∷ []) ≡ []
    whole = ap (λ b. cond (not b) (s ∷ []) []) h

    rest : (id : ℕ) → filter (λ t. not (is_superblock t)) (remove (s ∷ []) id) ≡ []
    rest zero = refl
    rest (suc zero) = whole
    rest (suc (suc id)) = whole

    go : (b : Bool) → filter (λ t. not (is_superblock t)) (cond b (remove p.content.slots g.id) p.content.slots) ≡ []
    go true = ap (λ z. filter (λ t. not (is_superblock t)) (remove z g.id)) e ∙ rest g.id
    go false = ap (filter (λ t. not (is_superblock t))) e ∙ whole

-- the superblock's pairs in front of the root directory show nothing
chain_shows : (g : Gstate) (ps : List Pair) → flat_map (unmoved_entries g) (joined_pairs ps) ≡ flat_map (unmoved_entries g) (joined_pairs (drop (count_before_root ps) ps))
chain_shows g [] = refl
chain_shows g (p ∷ ps) = go (has_superblock ps && chain_may_continue p) refl (chain_shows g ps)
  where
    go : (b : Bool) → (has_superblock ps && chain_may_continue p) ≡ b → (flat_map (unmoved_entries g) (joined_pairs ps) ≡ flat_map (unmoved_entries g) (joined_pairs (drop (count_before_root ps) ps))) → flat_map (unmoved_entries g) (joined_pairs (p ∷ ps)) ≡ flat_map (unmoved_entries g) (joined_pairs (drop (cond b (1 + count_before_root ps) 0) (p ∷ ps)))
    go false e later = refl
    go true e later =
        let leads = and_parts (has_no_entry p.content.slots) (is_hard_tail p.content.tail) (and_parts (has_superblock ps) (chain_may_continue p) e).1 in
        let one : 1 + count_before_root ps ≡ suc (count_before_root ps) = omega arith in
        ap (λ b. flat_map (unmoved_entries g) (p ∷ cond b (joined_pairs ps) [])) leads.1
        ∙ ap (λ z. z ++ flat_map (unmoved_entries g) (joined_pairs ps)) (bare_shows g p p.content.slots refl leads.0)
        ∙ later
        ∙ ap (λ n. flat_map (unmoved_entries g) (joined_pairs (drop n (p ∷ ps)))) (sym one)

-- where the root directory begins
dropped : (ps : List Pair) (n : ℕ) (p : Pair) (rest : List Pair) → drop n ps ≡ p ∷ rest → slice_get ps n ≡ Some p
dropped [] zero p rest e = absurd (cc)
dropped [] (suc n) p rest e = absurd (cc)
dropped (q ∷ ps) zero p rest e = ap (λ z. slice_get z 0) e
dropped (q ∷ ps) (suc n) p rest e = dropped ps n p rest e

none : (xs : List Pair) (x : Pair) (ys : List Pair) → [] ≡ xs ++ x ∷ ys → ⊥
none [] x ys h = cc
none (z ∷ xs) x ys h = cc

pub root_begins : (disk : Disk) (ps : List Pair) → IsAccepted disk ps → IsPairAt ps (root_address ps) (count_before_root ps)
root_begins disk ps ok = go (pairs_from_root ps) refl
  where
    go : (dirs : List Pair) → pairs_from_root ps ≡ dirs → IsPairAt ps (root_address ps) (count_before_root ps)
    go [] e =
        let d = led_directory disk ps [] (root_address ps) ok refl in
        absurd (none d.before d.first (d.run ++ d.after) (sym e ∙ d.is))
    go (p ∷ rest) e = record { pair = p; there = dropped ps (count_before_root ps) p rest e; same = ap (λ a. same_pair p.at a) (ap first_address e) ∙ pair_itself p.at }

pub root_shapes : (disk : Disk) (ps : List Pair) → IsAccepted disk ps → directory_entries_from ps (Some 0) ≡ map named_struct (all_entries ps (root_address ps))
root_shapes disk [] ok = absurd (let l = ok.thread.links in cc)
root_shapes disk (p ∷ ps) ok =
    ap (map named_struct) (chain_shows (pairs_gstate (p ∷ ps)) (p ∷ ps) ∙ own_run disk (p ∷ ps) [] (root_address (p ∷ ps)) (count_before_root (p ∷ ps)) ok refl (root_begins disk (p ∷ ps) ok))

pub some_pairs : (disk : Disk) (ps : List Pair) → IsAccepted disk ps → 0 < length ps
some_pairs disk [] ok = absurd (let l = ok.thread.links in cc)
some_pairs disk (p ∷ ps) ok = omega arith

-- the root directory begins behind the superblock's pairs
pub root_leads : (disk : Disk) (ps : List Pair) (root : ℕ) → IsAccepted disk ps → root ≡ count_before_root ps → LeadsToPair ps [] root
root_leads disk ps root ok e = record { at = root_address ps; leads = refl; begins = subst (λ n. IsPairAt ps (root_address ps) n) (sym e) (root_begins disk ps ok) }
