-- Slots of one pair are of one directory.
use Rattle.std.proofs.Common.{ℕ, zero, suc, ◌≡◌, ◌+◌, ◌-◌, ◌<◌, ◌≤◌, ◌∙◌, true, false, List, [], ◌∷◌, ◌++◌, length, take, get_or, refl, sym, ap, subst, arith}
use Rattle.std.proofs.lemmas.List.{get_or-append-add, get_or_append_left}
use Rattle.lfs_tree.proofs.Common.{same_Some, Disk, IsPairAt, IsDirectoryPair, HasHardTail, same_pair, Pair, is_hard_tail, count_before_root, Path, IsAccepted, IsDirectoryAtPath, Each, chain_of_thread, pair_back, pair_on, IsDirectory, begins_directory}
use Rattle.lfs_model.proofs.Listings.{Ends}

-- whether the pair of an index continues in the next one
abbrev hard_at : List Pair → ℕ → Pair → Type 0
hard_at ps n d = is_hard_tail (get_or ps n d).content.tail ≡ true

joined_at : (ps : List Pair) (n : ℕ) (d : Pair) → Each HasHardTail ps → n < length ps → hard_at ps n d
joined_at [] n d h l = absurd (omega arith)
joined_at (p ∷ ps) zero d h l = h.0
joined_at (p ∷ ps) (suc n) d h l = joined_at ps n d h.1 (omega arith)

-- up to the pair hard tails lead
joined_up_to : (ps : List Pair) (first index n : ℕ) (pair d : Pair) (rest : List Pair) → IsDirectoryPair ps first index pair rest → first ≤ n → n < index → hard_at ps n d
joined_up_to ps first index n pair d rest b low high =
    let e : length b.front + (n - length b.front) ≡ n = (let k = b.begins in omega (arith, low, k)) in
    let l : n - length b.front < length b.left = (let k = b.begins in let m = b.number in omega (arith, low, high, k, m)) in
    subst (λ m. hard_at ps m d) e
    (subst (λ xs. hard_at xs (length b.front + (n - length b.front)) d) (sym b.parts)
    (subst (λ (p : Pair). is_hard_tail p.content.tail ≡ true) (sym (get_or-append-add b.front (b.left ++ pair ∷ rest) (n - length b.front) d ∙ get_or_append_left b.left (pair ∷ rest) d (n - length b.front) l))
    (joined_at b.left (n - length b.front) d b.joined l)))

last_ends : (ps : List Pair) (d : Pair) → Ends ps → 0 < length ps → is_hard_tail (get_or ps (length ps - 1) d).content.tail ≡ false
last_ends [] d h l = absurd (omega arith)
last_ends (p ∷ []) d h l = h
last_ends (p ∷ q ∷ ps) d h l =
    let e : suc (suc (length ps) - 1) ≡ suc (suc (length ps)) - 1 = omega arith in
    subst (λ n. is_hard_tail (get_or (p ∷ q ∷ ps) n d).content.tail ≡ false) e (last_ends (q ∷ ps) d h (omega arith))

-- in front of a directory's first pair none does
not_joined : (ps : List Pair) (a : ℕ × ℕ) (first : ℕ) (d : Pair) → IsDirectory ps a first → count_before_root ps < first → is_hard_tail (get_or ps (first - 1) d).content.tail ≡ false
not_joined ps a first d h low =
    let before = h.directory.before in
    let rest = h.directory.first ∷ (h.directory.run ++ h.directory.after) in
    let chain = take (count_before_root ps) ps in
    let c = chain_of_thread ps in
    let n : length chain ≡ count_before_root ps = sym (ap count_before_root c.0 ∙ c.1) in
    let l : 0 < length before = (let k = h.number in omega (arith, low, k)) in
    let at : length chain + (length before - 1) ≡ first - 1 = (let k = h.number in omega (arith, l, n, k)) in
    subst (λ m. is_hard_tail (get_or ps m d).content.tail ≡ false) at
    (subst (λ xs. is_hard_tail (get_or xs (length chain + (length before - 1)) d).content.tail ≡ false) (sym (c.0 ∙ ap (λ z. chain ++ z) h.directory.is))
    (subst (λ (p : Pair). is_hard_tail p.content.tail ≡ false) (sym (get_or-append-add chain (before ++ rest) (length before - 1) d ∙ get_or_append_left before rest d (length before - 1) (omega (arith, l))))
    (last_ends before d h.directory.ends l)))

not_in_front : (ps : List Pair) (a : ℕ × ℕ) (first other index : ℕ) (pair : Pair) (rest : List Pair) → IsDirectory ps a other → count_before_root ps ≤ first → IsDirectoryPair ps first index pair rest → other ≤ index → first < other → ⊥
not_in_front ps a first other index pair rest h low b up l =
    let k = not_joined ps a other pair h (omega (arith, low, l)) in
    let j = joined_up_to ps first index (other - 1) pair pair rest b (omega (arith, l)) (omega (arith, l, up)) in
    absurd (let z = sym k ∙ j in cc)

behind_up : (ps : List Pair) (first index : ℕ) (pair : Pair) (rest : List Pair) → IsDirectoryPair ps first index pair rest → first ≤ index
behind_up ps first index pair rest b = let k = b.begins in let n = b.number in omega (arith, k, n)

-- two directories of which the pair is
pub same_first : (disk : Disk) (ps : List Pair) (P Q : Path) (a b : ℕ × ℕ) (first other index : ℕ) (pair pair' : Pair) (rest rest' : List Pair) → IsAccepted disk ps → IsDirectoryAtPath ps P a → IsPairAt ps a first → IsDirectoryAtPath ps Q b → IsPairAt ps b other
    → IsDirectoryPair ps first index pair rest → IsDirectoryPair ps other index pair' rest' → first ≡ other
same_first disk ps P Q a b first other index pair pair' rest rest' ok leads begins leads' begins' h k =
    let d = begins_directory disk ps P a first ok leads begins in
    let e = begins_directory disk ps Q b other ok leads' begins' in
    let low : count_before_root ps ≤ first = (let n = d.number in omega (arith, n)) in
    let low' : count_before_root ps ≤ other = (let n = e.number in omega (arith, n)) in
    equal first other (not_in_front ps b first other index pair rest e low h (behind_up ps other index pair' rest' k))
    (not_in_front ps a other first index pair' rest' d low' k (behind_up ps first index pair rest h))
  where
    equal : (m n : ℕ) → (m < n → ⊥) → (n < m → ⊥) → m ≡ n
    equal zero zero f g = refl
    equal zero (suc n) f g = absurd (f (omega arith))
    equal (suc m) zero f g = absurd (g (omega arith))
    equal (suc m) (suc n) f g = ap suc (equal m n (λ l. f (omega (arith, l))) (λ l. g (omega (arith, l))))

-- and so one path leads to it
pub same_above : (disk : Disk) (ps : List Pair) (P Q : Path) (a b : ℕ × ℕ) (first other : ℕ) → IsAccepted disk ps → IsDirectoryAtPath ps P a → IsPairAt ps a first → IsDirectoryAtPath ps Q b → IsPairAt ps b other → first ≡ other → P ≡ Q
same_above disk ps P Q a b first other ok leads begins leads' begins' e =
    let k = subst (IsPairAt ps b) (sym e) begins' in
    let same = same_Some begins.pair k.pair (sym begins.there ∙ k.there) in
    ok.once P Q a b leads leads' (pair_on a begins.pair.at b (pair_back begins.pair.at a begins.same) (ap (λ (p : Pair). same_pair p.at b) same ∙ k.same))
