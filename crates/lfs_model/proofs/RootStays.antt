-- The root directory stays where it is: as many pairs stand in front of it as before.
use Rattle.std.proofs.Common.{ℕ, zero, suc, ◌≡◌, true, List, [], ◌∷◌, ◌++◌, length, drop, Option, Some, refl, sym, ap, subst, ◌∙◌, slice_get}
use Rattle.lfs_model.proofs.Common.{same_Some, Disk, same_pair, AreLinkedByTails, Pair, superblock_pair_address, pairs_from_root, first_address, tail_target, root_address, begins_with_superblock, count_before_root, IsAccepted, first_pair_slots}
use Rattle.lfs_model.specs.layers.Steps.{SameSlots}
use Rattle.lfs_model.proofs.Pairs.{pair_itself}
use Rattle.lfs_model.proofs.Searches.{same_number}
use Rattle.lfs_model.proofs.Superblocks.{IsChain, pairs_behind}
use Rattle.lfs_model.proofs.PairLists.{get_behind}

-- the pair of that number has that address
abbrev HasAddress : List Pair → ℕ → ℕ × ℕ → Type 0
HasAddress ps n at = (p : Pair) × ((slice_get ps n ≡ Some p) × (p.at ≡ at))

-- ---- the number of the root's first pair

get_dropped : (ps : List Pair) (n : ℕ) (d : Pair) (ds : List Pair) → drop n ps ≡ d ∷ ds → slice_get ps n ≡ Some d
get_dropped [] zero d ds e = absurd (cc)
get_dropped [] (suc n) d ds e = absurd (cc)
get_dropped (p ∷ ps) zero d ds e = cc
get_dropped (p ∷ ps) (suc n) d ds e = get_dropped ps n d ds e

root_there : (disk : Disk) (ps : List Pair) → IsAccepted disk ps → HasAddress ps (count_before_root ps) (root_address ps)
root_there disk ps ok = go (pairs_from_root ps) refl
  where
    go : (ds : List Pair) → pairs_from_root ps ≡ ds → HasAddress ps (count_before_root ps) (root_address ps)
    go [] e = absurd (let k = ap (λ z. begins_with_superblock (first_pair_slots z)) (sym e) ∙ ok.root in cc)
    go (d ∷ ds) e = (d, (get_dropped ps (count_before_root ps) d ds e, ap first_address (sym e)))

number_of_root : (disk : Disk) (ps : List Pair) (n : ℕ) → IsAccepted disk ps → HasAddress ps n (root_address ps) → count_before_root ps ≡ n
number_of_root disk ps n ok (p, (there, at)) =
    let r = root_there disk ps ok in
    same_number ps (count_before_root ps) n r.0 p ok.thread.distinct r.1.0 there (subst (λ a. same_pair r.0.at a ≡ true) (r.1.1 ∙ sym at) (pair_itself r.0.at))

-- ---- the pairs in front stay

two_links : (at : Option (ℕ × ℕ)) (chain dirs news : List Pair) → AreLinkedByTails at (chain ++ dirs) → AreLinkedByTails at (chain ++ news) → (to : Option (ℕ × ℕ)) × (AreLinkedByTails to dirs × AreLinkedByTails to news)
two_links at [] dirs news l m = (at, (l, m))
two_links at (c ∷ chain) dirs news l m = two_links (tail_target c.content.tail) chain dirs news l.1 m.1

first_there : (chain : List Pair) (to : Option (ℕ × ℕ)) (dirs news : List Pair) → AreLinkedByTails to dirs → AreLinkedByTails to news → begins_with_superblock (first_pair_slots dirs) ≡ true → HasAddress (chain ++ news) (length chain) (first_address dirs)
first_there chain to [] news l m e = absurd (cc)
first_there chain to (d ∷ dirs) [] l m e = absurd (let k = sym m ∙ l.0 in cc)
first_there chain to (d ∷ dirs) (n ∷ news) l m e = (n, (get_behind chain n news, same_Some n.at d.at (sym m.0 ∙ l.0)))

pub root_stays : (disk new : Disk) (chain dirs news : List Pair) → IsChain chain dirs → IsAccepted disk (chain ++ dirs) → IsAccepted new (chain ++ news) → root_address (chain ++ news) ≡ root_address (chain ++ dirs)
    → count_before_root (chain ++ news) ≡ count_before_root (chain ++ dirs)
root_stays disk new chain dirs news is_chain ok now same =
    let l = two_links (Some superblock_pair_address) chain dirs news ok.thread.links now.thread.links in
    let dirs_are = pairs_behind chain dirs is_chain in
    let first = first_there chain l.0 dirs news l.1.0 l.1.1 (ap (λ z. begins_with_superblock (first_pair_slots z)) (sym dirs_are) ∙ ok.root) in
    number_of_root new (chain ++ news) (length chain) now (first.0, (first.1.0, first.1.1 ∙ ap first_address (sym dirs_are) ∙ sym same)) ∙ sym is_chain

-- ---- pairs of the same addresses

alike_there : (ps qs : List Pair) (n : ℕ) (at : ℕ × ℕ) → SameSlots ps qs → HasAddress ps n at → HasAddress qs n at
alike_there [] qs n at alike (p, (e, a)) = absurd (cc)
alike_there (x ∷ ps) [] n at alike h = absurd alike
alike_there (x ∷ ps) (y ∷ qs) zero at alike (p, (e, a)) = (y, (refl, alike.0 ∙ ap (λ (z : Pair). z.at) (same_Some x p e) ∙ a))
alike_there (x ∷ ps) (y ∷ qs) (suc n) at alike h = alike_there ps qs n at alike.2 h

stays_there : (new : Disk) (ps qs : List Pair) → IsAccepted new qs → root_address qs ≡ root_address ps → HasAddress qs (count_before_root ps) (root_address ps) → count_before_root qs ≡ count_before_root ps
stays_there new ps qs now same h = number_of_root new qs (count_before_root ps) now (h.0, (h.1.0, h.1.1 ∙ sym same))

pub alike_stays : (disk new : Disk) (ps qs : List Pair) → IsAccepted disk ps → IsAccepted new qs → root_address qs ≡ root_address ps → SameSlots ps qs → count_before_root qs ≡ count_before_root ps
alike_stays disk new ps qs ok now same alike = stays_there new ps qs now same (alike_there ps qs (count_before_root ps) (root_address ps) alike (root_there disk ps ok))
