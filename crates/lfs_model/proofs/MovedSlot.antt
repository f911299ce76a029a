-- The pair whose slot a set move names.
use Rattle.std.proofs.Common.{ℕ, suc, zero, ◌≡◌, ◌+◌, ◌<◌, ◌≤◌, ◌⊎◌, inl, inr, Bool, true, false, cond, List, [], ◌∷◌, ◌++◌, length, Some, refl, sym, ap, subst, ◌∙◌, arith, get_or, slice_get}
use Rattle.std.specs.Prelude.{◌&&◌}
use Rattle.lfs_model.proofs.Common.{AllByRecursion, and_parts, cases_lt, same_Some, Gstate, Slot, is_superblock, same_pair, Disk, Pair, pairs_gstate, is_hard_tail, chain_may_continue, has_superblock, count_before_root, IsAccepted, HasValidMove, IsEntry, set_move_kind, has_no_entry, IsThreadEntry}
use Rattle.lfs_model.specs.session.InDirectory.{IsPairAt}
use Rattle.lfs_model.specs.format.Slots.{no_move_kind}
use Rattle.lfs_model.proofs.Pairs.{pair_back, pair_on}
use Rattle.lfs_model.proofs.Searches.{same_number}
use Rattle.lfs_model.proofs.Sites.{HoldsForSome, among_from}

-- ---- no move, or one that names a slot

named : (ps : List Pair) → HasValidMove ps (pairs_gstate ps) → (pairs_gstate ps).kind ≡ set_move_kind → IsThreadEntry ps (pairs_gstate ps).pair (pairs_gstate ps).id
named ps (inl h) e = absurd (let k : no_move_kind ≡ set_move_kind = sym h.0 ∙ e in omega arith)
named ps (inr h) e = h.1

record IsSomewhere (ps : List Pair) (a : ℕ × ℕ) (id : ℕ) : Type 0 where
  number : ℕ
  pair : Pair
  there : slice_get ps number ≡ Some pair
  same : same_pair a pair.at ≡ true
  slot : IsEntry (slice_get pair.content.slots id)

somewhere : (ps : List Pair) (a : ℕ × ℕ) (id : ℕ) → HoldsForSome (λ p. (same_pair a p.at ≡ true) × IsEntry (slice_get p.content.slots id)) ps → IsSomewhere ps a id
somewhere [] a id h = absurd h
somewhere (p ∷ ps) a id (inl h) = record { number = 0; pair = p; there = refl; same = h.0; slot = h.1 }
somewhere (p ∷ ps) a id (inr h) = let s = somewhere ps a id h in record { number = suc s.number; pair = s.pair; there = s.there; same = s.same; slot = s.slot }

record HasOther (slots : List Slot) (id : ℕ) : Type 0 where
  left : List Slot
  slot : Slot
  right : List Slot
  held : slots ≡ left ++ slot ∷ right
  number : length left ≡ id
  other : is_superblock slot ≡ false

has_other : (slots : List Slot) (id : ℕ) → IsEntry (slice_get slots id) → HasOther slots id
has_other [] id h = absurd h
has_other (s ∷ slots) zero h = record { left = []; slot = s; right = slots; held = refl; number = refl; other = h }
has_other (s ∷ slots) (suc id) h =
    let o = has_other slots id h in
    record { left = s ∷ o.left; slot = o.slot; right = o.right; held = ap (λ z. s ∷ z) o.held; number = ap suc o.number; other = o.other }

-- the pair of that number has the slot that a set move names
pub record IsNamedAt (ps : List Pair) (index : ℕ) : Type 0 where
  pub pair : Pair
  pub there : slice_get ps index ≡ Some pair
  pub same : same_pair pair.at (pairs_gstate ps).pair ≡ true
  pub left : List Slot
  pub slot : Slot
  pub right : List Slot
  pub held : pair.content.slots ≡ left ++ slot ∷ right
  pub number : length left ≡ (pairs_gstate ps).id
  pub other : is_superblock slot ≡ false

pub named_at : (disk : Disk) (ps : List Pair) (index : ℕ) → IsAccepted disk ps → (pairs_gstate ps).kind ≡ set_move_kind → IsPairAt ps (pairs_gstate ps).pair index → IsNamedAt ps index
named_at disk ps index ok kind b =
    let g = pairs_gstate ps in
    let s = somewhere ps g.pair g.id (among_from (λ (p : Pair). (same_pair g.pair p.at ≡ true) × IsEntry (slice_get p.content.slots g.id)) ps (named ps ok.move kind)) in
    let n = same_number ps index s.number b.pair s.pair ok.thread.distinct b.there s.there (pair_on b.pair.at g.pair s.pair.at b.same s.same) in
    let same : b.pair ≡ s.pair = same_Some b.pair s.pair (sym b.there ∙ ap (slice_get ps) n ∙ s.there) in
    let o = has_other b.pair.content.slots g.id (subst (λ (p : Pair). IsEntry (slice_get p.content.slots g.id)) (sym same) s.slot) in
    record { pair = b.pair; there = b.there; same = b.same; left = o.left; slot = o.slot; right = o.right; held = o.held; number = o.number; other = o.other }

-- somewhere there is such a pair
pub not_nowhere : (disk : Disk) (ps : List Pair) → IsAccepted disk ps → (pairs_gstate ps).kind ≡ set_move_kind → AllByRecursion (λ p. same_pair p.at (pairs_gstate ps).pair ≡ false) ps → ⊥
not_nowhere disk ps ok kind none = go ps none (among_from (λ (p : Pair). (same_pair g.pair p.at ≡ true) × IsEntry (slice_get p.content.slots g.id)) ps (named ps ok.move kind))
  where
    g : Gstate
    g = pairs_gstate ps

    go : (xs : List Pair) → AllByRecursion (λ p. same_pair p.at (pairs_gstate ps).pair ≡ false) xs → HoldsForSome (λ p. (same_pair (pairs_gstate ps).pair p.at ≡ true) × IsEntry (slice_get p.content.slots (pairs_gstate ps).id)) xs → ⊥
    go [] h a = a
    go (p ∷ xs) h (inl a) = absurd (let k = sym h.0 ∙ pair_back (pairs_gstate ps).pair p.at a.0 in cc)
    go (p ∷ xs) h (inr a) = go xs h.1 a

-- ---- it is one of a directory

chain_bare : (d : Pair) (ps : List Pair) (i : ℕ) → i < count_before_root ps → has_no_entry (get_or ps i d).content.slots ≡ true
chain_bare d [] i low = absurd (omega arith)
chain_bare d (p ∷ ps) i low = go (has_superblock ps && chain_may_continue p) refl i low (chain_bare d ps)
  where
    go : (t : Bool) → (has_superblock ps && chain_may_continue p) ≡ t → (i : ℕ) → i < cond t (1 + count_before_root ps) 0 → ((k : ℕ) → k < count_before_root ps → has_no_entry (get_or ps k d).content.slots ≡ true) →
        has_no_entry (get_or (p ∷ ps) i d).content.slots ≡ true
    go false e i l next = absurd (omega arith)
    go true e zero l next = (and_parts (has_no_entry p.content.slots) (is_hard_tail p.content.tail) (and_parts (has_superblock ps) (chain_may_continue p) e).1).0
    go true e (suc i) l next = next i (omega arith)

-- no slot of theirs is an entry
bare_other : (l : List Slot) (s : Slot) (r : List Slot) → is_superblock s ≡ false → has_no_entry (l ++ s ∷ r) ≡ true → ⊥
bare_other [] s [] other h = let z = sym h ∙ other in cc
bare_other [] s (t ∷ r) other h = let z : false ≡ true = h in cc
bare_other (x ∷ []) s r other h = let z : false ≡ true = h in cc
bare_other (x ∷ y ∷ l) s r other h = let z : false ≡ true = h in cc

-- a pair with a slot that is an entry isn't in front of the root directory
pub in_some_directory : (ps : List Pair) (index : ℕ) (d : Pair) (l : List Slot) (s : Slot) (r : List Slot) → (get_or ps index d).content.slots ≡ l ++ s ∷ r → is_superblock s ≡ false → count_before_root ps ≤ index
in_some_directory ps index d l s r held other = go (cases_lt index (count_before_root ps))
  where
    go : (index < count_before_root ps) ⊎ (count_before_root ps ≤ index) → count_before_root ps ≤ index
    go (inr h) = h
    go (inl h) = absurd (bare_other l s r other (ap has_no_entry (sym held) ∙ chain_bare d ps index h))
