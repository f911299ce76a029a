-- The move of a thread, by the headers of its directories and the slot that it names.
use Rattle.std.proofs.Common.{ℕ, zero, suc, ◌≡◌, ◌⊎◌, inl, inr, ◌==◌, ◌&&◌, ◌||◌, ◌+◌, Bool, true, false, cond, List, [], ◌∷◌, ◌++◌, length, map, drop, slice_get, Some, None, refl, sym, ap, ap₂, subst, ◌∙◌, arith, eqb-true, eq-eqb, drop_at, fold, length-append, ◌<◌}
use Rattle.lfs_mount.proofs.Common.{and_parts, and_from, drop-map, length-map, Disk, CallEvent, Gstate, Slot, zero_gstate, same_pair, Pair, pairs_gstate, has_no_entry, is_hard_tail, has_superblock, count_before_root, moved_id, IsFileOrDirectory, HasValidMove, IsEntry, PairsBreak, Each, HoldsForSome, among_from, any_from, IsChain, entry_is_other, move_view, header_address, AreHeaders, PairHeader, header_pairs, AreThreadHeaders, HasSuperblockChainLength, HeadersHaveGstate, MovedSlotIsEntry, MoveSourceIsEntry, is_among_addresses}
use Rattle.lfs_model.specs.format.Slots.{gstate_xor}
use Rattle.lfs_model.specs.format.Thread.{chain_may_continue}
use Rattle.lfs_model.specs.declared.violations.Violation.TheVariants as violation
use Rattle.lfs_model.proofs.Sites.{among_parts, among_right}
use Rattle.lfs_mount.specs.MoveChecks.{gstate_of_headers, is_move_within_pairs}
use Rattle.lfs_mount.proofs.Headers.{pair_of, seen_from}

-- ---- the global state

deltas : (disk : Disk) (history : List CallEvent) (hs : List PairHeader) → AreHeaders disk history hs → map (λ h. move_view h.move_state) hs ≡ map (λ p. p.content.move) (header_pairs disk hs)
deltas disk history [] is = refl
deltas disk history (h ∷ hs) is = ap₂ (λ (m : Gstate) (ms : List Gstate). m ∷ ms) (seen_from disk history h is.0).move (deltas disk history hs is.1)

pub joined_global : (disk : Disk) (history : List CallEvent) (hs : List PairHeader) → AreHeaders disk history hs → gstate_of_headers hs ≡ pairs_gstate (header_pairs disk hs)
joined_global disk history hs is = ap (fold gstate_xor zero_gstate) (deltas disk history hs is)

-- ---- a pair that the move names

abbrev Named : Gstate → Pair → Type 0
Named g q = (same_pair g.pair q.at ≡ true) × IsEntry (slice_get q.content.slots g.id)

other_slot : (g : Gstate) (q : Pair) → g.kind ≡ 0x4ff → same_pair g.pair q.at ≡ true → MovedSlotIsEntry (moved_id g q) q.content.slots → IsEntry (slice_get q.content.slots g.id)
other_slot g q kind same h =
    let is : moved_id g q ≡ Some g.id = ap (λ b. cond b (Some g.id) None) (and_from (g.kind == 0x4ff) (same_pair g.pair q.at) (eq-eqb g.kind 0x4ff kind) same) in
    let there : (t : Slot) × ((slice_get q.content.slots g.id ≡ Some t) × IsFileOrDirectory t) = subst (λ o. MovedSlotIsEntry o q.content.slots) is h in
    subst IsEntry (sym there.1.0) (entry_is_other there.0 there.1.1)

among_named : (g : Gstate) (qs : List Pair) → g.kind ≡ 0x4ff → is_among_addresses g.pair (map (λ q. q.at) qs) ≡ true → MoveSourceIsEntry g qs → HoldsForSome (Named g) qs
among_named g [] kind e h = absurd (cc)
among_named g (q ∷ qs) kind e h = go (same_pair g.pair q.at) refl e (λ k. among_named g qs kind k h.1)
  where
    go : (b : Bool) → same_pair g.pair q.at ≡ b → (b || is_among_addresses g.pair (map (λ r. r.at) qs)) ≡ true → (is_among_addresses g.pair (map (λ r. r.at) qs) ≡ true → HoldsForSome (Named g) qs) → HoldsForSome (Named g) (q ∷ qs)
    go true is k next = inl (is, other_slot g q kind is h.0)
    go false is k next = inr (next k)

names_among : (g : Gstate) (qs : List Pair) → HoldsForSome (Named g) qs → is_among_addresses g.pair (map (λ q. q.at) qs) ≡ true
names_among g [] k = absurd k
names_among g (q ∷ qs) (inl k) = ap (λ b. b || is_among_addresses g.pair (map (λ r. r.at) qs)) k.0
names_among g (q ∷ qs) (inr k) = go (same_pair g.pair q.at) (names_among g qs k)
  where
    go : (b : Bool) → is_among_addresses g.pair (map (λ r. r.at) qs) ≡ true → (b || is_among_addresses g.pair (map (λ r. r.at) qs)) ≡ true
    go true e = refl
    go false e = e

-- ---- a move that names one of the directories' pairs, and an entry there, is right

abbrev is_none : Gstate → Bool
is_none g = g.kind == 0 && g.id == 0 && (g.pair.0 == 0 && g.pair.1 == 0)

no_move : (g : Gstate) → is_none g ≡ true → (g.kind ≡ 0) × (g.id ≡ 0) × (g.pair ≡ (0, 0))
no_move g e =
    let a = and_parts (g.kind == 0 && g.id == 0) (g.pair.0 == 0 && g.pair.1 == 0) e in
    let b = and_parts (g.kind == 0) (g.id == 0) a.0 in
    let c = and_parts (g.pair.0 == 0) (g.pair.1 == 0) a.1 in
    (eqb-true g.kind 0 b.0, eqb-true g.id 0 b.1, ap₂ (λ (x y : ℕ). (x, y)) (eqb-true g.pair.0 0 c.0) (eqb-true g.pair.1 0 c.1))

move_right : (g : Gstate) (chain dirs : List Pair) → is_move_within_pairs g (map (λ q. q.at) dirs) ≡ true → MoveSourceIsEntry g dirs → HasValidMove (chain ++ dirs) g
move_right g chain dirs e h = go (is_none g) refl e
  where
    go : (b : Bool) → is_none g ≡ b → (b || (g.kind == 0x4ff && is_among_addresses g.pair (map (λ q. q.at) dirs))) ≡ true → HasValidMove (chain ++ dirs) g
    go true is k = inl (no_move g is)
    go false is k =
        let both = and_parts (g.kind == 0x4ff) (is_among_addresses g.pair (map (λ q. q.at) dirs)) k in
        let kind = eqb-true g.kind 0x4ff both.0 in
        inr (kind, any_from (Named g) (chain ++ dirs) (among_right (Named g) chain dirs (among_named g dirs kind both.1 h)))

pub known_right : (g : Gstate) (headers : List PairHeader) (chain : List Pair) (p : Pair) (rest : List Pair) → HeadersHaveGstate g headers chain p rest → is_move_within_pairs g (map header_address headers) ≡ true
    → MoveSourceIsEntry g (p ∷ rest) → HasValidMove (chain ++ p ∷ rest) g
known_right g headers chain p rest has e h = move_right g chain (p ∷ rest) (ap (is_move_within_pairs g) has.at ∙ e) h

-- ---- a valid move names one of the directories' pairs

-- a pair of the superblock's chain in front of the root's first one has no slot, or the superblock alone
have_bare : (chain : List Pair) (p : Pair) (rest : List Pair) → IsChain chain (p ∷ rest) → Each (λ q. has_no_entry q.content.slots ≡ true) chain
have_bare [] p rest h = tt
have_bare (c ∷ chain) p rest h = go (has_superblock (chain ++ p ∷ rest) && chain_may_continue c) refl h (have_bare chain p rest)
  where
    go : (b : Bool) → (has_superblock (chain ++ p ∷ rest) && chain_may_continue c) ≡ b → cond b (1 + count_before_root (chain ++ p ∷ rest)) 0 ≡ length (c ∷ chain)
        → (IsChain chain (p ∷ rest) → Each (λ q. has_no_entry q.content.slots ≡ true) chain) → Each (λ q. has_no_entry q.content.slots ≡ true) (c ∷ chain)
    go true e k next = ((and_parts (has_no_entry c.content.slots) (is_hard_tail c.content.tail) (and_parts (has_superblock (chain ++ p ∷ rest)) (chain_may_continue c) e).1).0, next (omega arith))
    go false e k next = absurd (omega arith)

no_other : (slots : List Slot) (id : ℕ) → has_no_entry slots ≡ true → IsEntry (slice_get slots id) → ⊥
no_other [] id h k = k
no_other (s ∷ []) zero h k = absurd (let clash : true ≡ false = sym h ∙ k in cc)
no_other (s ∷ []) (suc id) h k = k
no_other (s ∷ t ∷ slots) id h k = absurd (let clash : false ≡ true = h in cc)

none_named : (g : Gstate) (chain : List Pair) → Each (λ q. has_no_entry q.content.slots ≡ true) chain → HoldsForSome (Named g) chain → ⊥
none_named g [] bare k = k
none_named g (c ∷ chain) bare (inl k) = no_other c.content.slots g.id bare.0 k.1
none_named g (c ∷ chain) bare (inr k) = none_named g chain bare.1 k

move_known : (g : Gstate) (chain : List Pair) (p : Pair) (rest : List Pair) → IsChain chain (p ∷ rest) → HasValidMove (chain ++ p ∷ rest) g → is_move_within_pairs g (map (λ q. q.at) (p ∷ rest)) ≡ true
move_known g chain p rest is valid = go valid
  where
    named : HoldsForSome (Named g) chain ⊎ HoldsForSome (Named g) (p ∷ rest) → is_among_addresses g.pair (map (λ q. q.at) (p ∷ rest)) ≡ true
    named (inl k) = absurd (none_named g chain (have_bare chain p rest is) k)
    named (inr k) = names_among g (p ∷ rest) k

    go : HasValidMove (chain ++ p ∷ rest) g → is_move_within_pairs g (map (λ q. q.at) (p ∷ rest)) ≡ true
    go (inl k) =
        ap (λ b. b || (g.kind == 0x4ff && is_among_addresses g.pair (map (λ q. q.at) (p ∷ rest))))
        (and_from (g.kind == 0 && g.id == 0) (g.pair.0 == 0 && g.pair.1 == 0) (and_from (g.kind == 0) (g.id == 0) (eq-eqb g.kind 0 k.0) (eq-eqb g.id 0 k.1))
        (and_from (g.pair.0 == 0) (g.pair.1 == 0) (eq-eqb g.pair.0 0 (ap (λ (x : ℕ × ℕ). x.0) k.2)) (eq-eqb g.pair.1 0 (ap (λ (x : ℕ × ℕ). x.1) k.2))))
    go (inr k) =
        either (is_none g) (g.kind == 0x4ff && is_among_addresses g.pair (map (λ q. q.at) (p ∷ rest)))
        (and_from (g.kind == 0x4ff) (is_among_addresses g.pair (map (λ q. q.at) (p ∷ rest))) (eq-eqb g.kind 0x4ff k.0) (named (among_parts (Named g) chain (p ∷ rest) (among_from (Named g) (chain ++ p ∷ rest) k.1))))
      where
        either : (x y : Bool) → y ≡ true → (x || y) ≡ true
        either true y f = refl
        either false y f = f

pub unknown_breaks : (g : Gstate) (headers : List PairHeader) (disk : Disk) (chain : List Pair) (p : Pair) (rest : List Pair) → HeadersHaveGstate g headers chain p rest → is_move_within_pairs g (map header_address headers) ≡ false
    → PairsBreak disk (chain ++ p ∷ rest) violation.Move
unknown_breaks g headers disk chain p rest has e = λ valid. absurd (
    let known = move_known g chain p rest has.chain_is (subst (HasValidMove (chain ++ p ∷ rest)) has.global valid) in
    let clash : true ≡ false = sym known ∙ ap (is_move_within_pairs g) has.at ∙ e in cc)

-- ---- the headers of the directories' pairs are those behind the superblock's

pub directories_behind : (disk : Disk) (history : List CallEvent) (hs : List PairHeader) (count : ℕ) → AreThreadHeaders disk history hs → (head : HasSuperblockChainLength disk (header_pairs disk hs) count)
    → HeadersHaveGstate (gstate_of_headers hs) (drop count hs) head.chain head.p head.rest
directories_behind disk history hs count has head = record {
  at = ap (map (λ q. q.at)) (sym (ap (drop count) head.parts ∙ drop_at head.chain (head.p ∷ head.rest) count head.chain_is)) ∙ ap (map (λ q. q.at)) (drop-map (pair_of disk) count hs) ∙ addresses (drop count hs);
  global = ap pairs_gstate (sym head.parts) ∙ sym (joined_global disk history hs has.each);
  chain_is = ap count_before_root (sym head.parts) ∙ head.before ∙ sym head.chain_is;
}
  where
    addresses : (xs : List PairHeader) → map (λ q. q.at) (map (pair_of disk) xs) ≡ map header_address xs
    addresses [] = refl
    addresses (x ∷ xs) = ap (λ (ys : List (ℕ × ℕ)). header_address x ∷ ys) (addresses xs)

-- there is one of them
pub directories_within : (disk : Disk) (hs : List PairHeader) (count : ℕ) → HasSuperblockChainLength disk (header_pairs disk hs) count → count < length hs
directories_within disk hs count head =
    let all = ap length head.parts ∙ length-append head.chain (head.p ∷ head.rest) in
    let same = length-map hs (pair_of disk) in
    let chain = head.chain_is in
    omega (arith, all, same, chain)
