-- Pairs that are changed or dropped, from their tails and slots.
use Rattle.lfs_operations.proofs.Common.{ℕ, ◌≡◌, ◌+◌, ◌-◌, ◌<◌, ◌≤◌, inl, inr, nat_eq, List, [], ◌∷◌, ◌++◌, length, Option, Some, refl, sym, ap, subst, ◌∙◌, arith, append-nil, length-append, IsDistinct, same_Some, Disk, Slot, AreLinkedByTails, Pair, superblock_pair_address, pairs_blocks, tail_target, address_blocks, IsAccepted, SameSlots, Became, occurrence_count, count_append, count_here, HoldsForSome, all_slots, KeptThread, thread_pair, Contains, IsPairChangedOrDropped}
use Rattle.lfs_operations.proofs.Altered.{among_contains, links_behind, only_there}
use Rattle.lfs_operations.proofs.DroppedTails.{front_is, gone_is, two_at}

-- ---- no two pairs share a block

pub owner_counted : (b : ℕ) (y : Pair) (zs : List Pair) → HoldsForSome (λ z. z ≡ y) zs → 1 ≤ occurrence_count b (address_blocks y.at) → 1 ≤ occurrence_count b (pairs_blocks zs)
owner_counted b y [] h some = absurd h
owner_counted b y (z ∷ zs) (inl e) some = let k = ap (λ (x : Pair). occurrence_count b (address_blocks x.at)) e in let c = count_append b (address_blocks z.at) (pairs_blocks zs) in omega arith
owner_counted b y (z ∷ zs) (inr h) some = let k = owner_counted b y zs h some in let c = count_append b (address_blocks z.at) (pairs_blocks zs) in omega arith

pub same_owner : (b : ℕ) (zs : List Pair) (x y : Pair) → occurrence_count b (pairs_blocks zs) ≤ 1 → HoldsForSome (λ z. z ≡ x) zs → HoldsForSome (λ z. z ≡ y) zs → 1 ≤ occurrence_count b (address_blocks x.at) → 1 ≤ occurrence_count b (address_blocks y.at) → x ≡ y
same_owner b [] x y once h k some more = absurd h
same_owner b (z ∷ zs) x y once (inl e) (inl f) some more = sym e ∙ f
same_owner b (z ∷ zs) x y once (inl e) (inr k) some more =
    let c = count_append b (address_blocks z.at) (pairs_blocks zs) in let m = ap (λ (w : Pair). occurrence_count b (address_blocks w.at)) e in let o = owner_counted b y zs k more in absurd (omega arith)
same_owner b (z ∷ zs) x y once (inr h) (inl f) some more =
    let c = count_append b (address_blocks z.at) (pairs_blocks zs) in let m = ap (λ (w : Pair). occurrence_count b (address_blocks w.at)) f in let o = owner_counted b x zs h some in absurd (omega arith)
same_owner b (z ∷ zs) x y once (inr h) (inr k) some more = same_owner b zs x y (let c = count_append b (address_blocks z.at) (pairs_blocks zs) in omega arith) h k some more

-- ---- a tail names the pair behind

names_behind : (x : Pair) (xs : List Pair) (o : Pair) (at : Option (ℕ × ℕ)) (a : ℕ × ℕ) → AreLinkedByTails at (x ∷ xs) → HoldsForSome (λ y. y ≡ o) (x ∷ xs) → tail_target o.content.tail ≡ Some a → 1 ≤ occurrence_count a.0 (pairs_blocks xs)
names_behind x [] o at a links (inl e) n = absurd (let k = sym n ∙ ap (λ (z : Pair). tail_target z.content.tail) (sym e) ∙ links.1 in cc)
names_behind x [] o at a links (inr h) n = absurd h
names_behind x (y ∷ xs) o at a links (inl e) n =
    let same : a ≡ y.at = same_Some a y.at (sym n ∙ ap (λ (z : Pair). tail_target z.content.tail) (sym e) ∙ links.1.0) in
    let k = ap (λ (z : ℕ × ℕ). occurrence_count z.0 (y.at.0 ∷ y.at.1 ∷ pairs_blocks xs)) same in
    let h = count_here y.at.0 (y.at.1 ∷ pairs_blocks xs) in omega arith
names_behind x (y ∷ xs) o at a links (inr h) n =
    let k = names_behind y xs o (tail_target x.content.tail) a links.1 h n in let c = count_append a.0 (y.at.0 ∷ y.at.1 ∷ []) (pairs_blocks xs) in omega arith

-- the pair that a tail names is there
pub named_there : (xs : List Pair) (o : Pair) (at : Option (ℕ × ℕ)) (a : ℕ × ℕ) → AreLinkedByTails at xs → HoldsForSome (λ y. y ≡ o) xs → tail_target o.content.tail ≡ Some a → 1 ≤ occurrence_count a.0 (pairs_blocks xs)
named_there [] o at a links h n = absurd h
named_there (x ∷ xs) o at a links h n = let k = names_behind x xs o at a links h n in let c = count_append a.0 (x.at.0 ∷ x.at.1 ∷ []) (pairs_blocks xs) in omega arith

-- no tail behind the first pair names what the first one's does
first_alone : (y : Pair) (ys : List Pair) (x o : Pair) (at : Option (ℕ × ℕ)) → AreLinkedByTails at (y ∷ ys) → ((b : ℕ) → occurrence_count b (pairs_blocks (y ∷ ys)) ≤ 1) → y ≡ x → HoldsForSome (λ z. z ≡ o) ys → tail_target x.content.tail ≡ tail_target o.content.tail → ⊥
first_alone y [] x o at links once e h n = h
first_alone y (z ∷ ys) x o at links once e h n =
    let k = names_behind z ys o (tail_target y.content.tail) z.at links.1 h (sym n ∙ ap (λ (k : Pair). tail_target k.content.tail) (sym e) ∙ links.1.0) in
    let l = once z.at.0 in
    let c = count_append z.at.0 (y.at.0 ∷ y.at.1 ∷ []) (pairs_blocks (z ∷ ys)) in
    let d = count_here z.at.0 (z.at.1 ∷ pairs_blocks ys) in
    let f = count_append z.at.0 (z.at.1 ∷ []) (pairs_blocks ys) in
    absurd (omega arith)

-- two pairs whose tails name the same are one
pub same_next : (xs : List Pair) (x o : Pair) (at : Option (ℕ × ℕ)) → AreLinkedByTails at xs → ((b : ℕ) → occurrence_count b (pairs_blocks xs) ≤ 1) → HoldsForSome (λ y. y ≡ x) xs → HoldsForSome (λ y. y ≡ o) xs → tail_target x.content.tail ≡ tail_target o.content.tail → x ≡ o
same_next [] x o at links once h k n = absurd h
same_next (y ∷ ys) x o at links once (inl e) (inl f) n = sym e ∙ f
same_next (y ∷ ys) x o at links once (inl e) (inr k) n = absurd (first_alone y ys x o at links once e k n)
same_next (y ∷ ys) x o at links once (inr h) (inl f) n = absurd (first_alone y ys o x at links once f h (sym n))
same_next (y ∷ ys) x o at links once (inr h) (inr k) n =
    same_next ys x o (tail_target y.content.tail) links.1 (λ b. let l = once b in let c = count_append b (y.at.0 ∷ y.at.1 ∷ []) (pairs_blocks ys) in omega arith) h k n

-- a pair, where the thread hasn't the one that it named any more
pub tail_goes : (t new : KeptThread) (index : ℕ) (to : ℕ × ℕ) → tail_target (thread_pair t index).content.tail ≡ Some to → AreLinkedByTails (Some superblock_pair_address) new.pairs → occurrence_count to.0 (pairs_blocks new.pairs) ≡ 0 → IsPairChangedOrDropped t index new
tail_goes t new index to names links none has = let k = named_there new.pairs (thread_pair t index) (Some superblock_pair_address) to links (among_contains (thread_pair t index) new.pairs has) names in absurd (omega arith)

pub names_next : (t : KeptThread) (front : ℕ) → front + 1 < length t.pairs → AreLinkedByTails (Some superblock_pair_address) t.pairs → tail_target (thread_pair t front).content.tail ≡ Some (thread_pair t (front + 1)).at
names_next t front low links =
    let two = two_at t.pairs front low in
    let k = (links_behind (Some superblock_pair_address) two.ahead (two.one ∷ two.other ∷ two.back) (subst (λ z. AreLinkedByTails (Some superblock_pair_address) z) two.is links)).1 in
    ap (λ (z : Pair). tail_target z.content.tail) (front_is t front two.ahead two.one two.other two.back two.is two.number) ∙ k.1.0
    ∙ ap (λ (z : Pair). Some z.at) (sym (gone_is t front two.ahead two.one two.other two.back two.is two.number))

-- the pair behind it was dropped
pub gone_alters : (t new : KeptThread) (index : ℕ) → 0 < index → index < length t.pairs → IsAccepted t.disk t.pairs → IsAccepted new.disk new.pairs → occurrence_count (thread_pair t index).at.0 (pairs_blocks new.pairs) ≡ 0 → IsPairChangedOrDropped t (index - 1) new
gone_alters t new index some low ok now none =
    let same : index - 1 + 1 ≡ index = omega (arith, some) in
    tail_goes t new (index - 1) (thread_pair t index).at (names_next t (index - 1) (omega (arith, some, low)) ok.thread.links ∙ ap (λ (i : ℕ). Some (thread_pair t i).at) same) now.thread.links none

-- ---- a pair has another slot, or is split

-- what stands where that pair did
record IsSplitAt (q : Pair) (ys rs : List Pair) : Type 0 where
  front : List Pair
  here : Pair
  back : List Pair
  is : rs ≡ front ++ here ∷ back
  at : here.at ≡ q.at
  slots : here.content.slots ≡ q.content.slots
  rest : SameSlots ys back

split_at : (xs : List Pair) (q : Pair) (ys rs : List Pair) → SameSlots (xs ++ q ∷ ys) rs → IsSplitAt q ys rs
split_at [] q ys [] h = absurd h
split_at [] q ys (r ∷ rs) h = record { front = []; here = r; back = rs; is = refl; at = h.0; slots = h.1; rest = h.2 }
split_at (x ∷ xs) q ys [] h = absurd h
split_at (x ∷ xs) q ys (r ∷ rs) h =
    let s = split_at xs q ys rs h.2 in record { front = r ∷ s.front; here = s.here; back = s.back; is = ap (λ z. r ∷ z) s.is; at = s.at; slots = s.slots; rest = s.rest }

pub entered_alters : (t new : KeptThread) (disk : Disk) (p d q : Pair) (more before behind : List Pair) (l r : List Slot) (v : Slot) → IsAccepted t.disk t.pairs → IsAccepted new.disk new.pairs → SameSlots (before ++ q ∷ (more ++ behind)) new.pairs
    → q.at ≡ p.at → all_slots (q ∷ more) ≡ l ++ v ∷ r → p.content.slots ≡ l ++ r → Became disk p d q more → ((b : ℕ) → 1 ≤ occurrence_count b (pairs_blocks more) → occurrence_count b (pairs_blocks t.pairs) ≡ 0) → HoldsForSome (λ y. y ≡ p) t.pairs → Contains new.pairs p → ⊥
entered_alters t new disk p d q more before behind l r v ok now alike at is was became fresh there has = go more (split_at before q (more ++ behind) new.pairs alike) is became fresh
  where
    -- the pair there has these slots
    same : (ys : List Pair) (s : IsSplitAt q ys new.pairs) → s.here ≡ p
    same ys s = only_there s.front s.here s.back p (subst (λ z. IsDistinct nat_eq (pairs_blocks z)) s.is now.thread.distinct) (s.at ∙ at) (subst (λ z. Contains z p) s.is has)

    go : (zs : List Pair) → IsSplitAt q (zs ++ behind) new.pairs → all_slots (q ∷ zs) ≡ l ++ v ∷ r → Became disk p d q zs → ((b : ℕ) → 1 ≤ occurrence_count b (pairs_blocks zs) → occurrence_count b (pairs_blocks t.pairs) ≡ 0) → ⊥
    go [] s is became fresh =
        let a = ap length (sym (append-nil q.content.slots) ∙ is) in
        let b = length-append l (v ∷ r) in
        let c = ap length was in
        let e = length-append l r in
        let f = ap (λ (z : Pair). length z.content.slots) (sym (same behind s)) in
        let g = ap length s.slots in
        absurd (omega arith)
    go (f ∷ []) s is became fresh = cut s s.back refl
      where
        cut : (s : IsSplitAt q (f ∷ behind) new.pairs) (back : List Pair) → s.back ≡ back → ⊥
        cut s [] e = absurd (subst (SameSlots (f ∷ behind)) e s.rest)
        cut s (g ∷ back) e =
            let h : g.at ≡ f.at = (subst (SameSlots (f ∷ behind)) e s.rest).0 in
            let links = (links_behind (Some superblock_pair_address) s.front (s.here ∷ g ∷ back) (subst (λ z. AreLinkedByTails (Some superblock_pair_address) z) (s.is ∙ ap (λ z. s.front ++ s.here ∷ z) e) now.thread.links)).1 in
            let k = named_there t.pairs p (Some superblock_pair_address) f.at ok.thread.links there (ap (λ (z : Pair). tail_target z.content.tail) (sym (same (f ∷ behind) s)) ∙ links.1.0 ∙ ap Some h) in
            let n = fresh f.at.0 (let m = count_here f.at.0 (f.at.1 ∷ []) in omega arith) in
            absurd (omega (arith, k, n))
    go (f ∷ g ∷ zs) s is became fresh = became
