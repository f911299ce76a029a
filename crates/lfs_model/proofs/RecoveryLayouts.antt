-- Where slots stand after a recovery of an image whose set move was ended, they stand after one of the image from before.
use Rattle.std.proofs.Common.{ℕ, zero, suc, ◌≡◌, ◌≤◌, inl, inr, Bool, true, false, cond, List, [], ◌∷◌, ◌++◌, map, length, Option, Some, None, refl, sym, ap, ap₂, subst, ◌∙◌, arith}
use Rattle.std.specs.Prelude.{is_none}
use Rattle.lfs_model.proofs.Common.{Disk, IsFittingPair, IsUnreachedOrRemoved, directory_address, continued_directory_address, pair_with_slots, pairs_without_moved, FitsInPair, Gstate, same_pair, Pair, pairs_gstate, is_hard_tail, count_before_root, slots_not_moved, IsReachedDirectory, Session}
use Rattle.lfs_model.specs.session.Layout.{IsLayoutAfterOperation, ArePairsSplitOrDropped, IsPairSplitOrDropped}
use Rattle.lfs_model.specs.session.Operations as ops
use Rattle.lfs_model.proofs.Became.{fits_same}
use Rattle.lfs_model.proofs.Changes.{IsChangedImage}
use Rattle.lfs_model.proofs.Counts.{Each}
use Rattle.lfs_model.proofs.Global.{HasNoMove, unmoved_all}
use Rattle.lfs_model.proofs.Layouts.{joined_parts}
use Rattle.lfs_model.proofs.RecoveryWay.{begin_same}
use Rattle.lfs_model.proofs.Rests.{unmoved_elsewhere}

-- ---- pairs of the same addresses and slots, which hard tails join alike

pub record IsKin (d e : Pair) : Type 0 where
  pub at : e.at ≡ d.at
  pub slots : e.content.slots ≡ d.content.slots
  pub hard : is_hard_tail e.content.tail ≡ is_hard_tail d.content.tail

abbrev pub AreKin : List Pair → List Pair → Type 0
AreKin [] [] = Unit {0}
AreKin [] (e ∷ es) = ⊥
AreKin (d ∷ ds) [] = ⊥
AreKin (d ∷ ds) (e ∷ es) = IsKin d e × AreKin ds es

-- the pair x goes, which has no slots, and the one in front of it takes over its tail
pub record IsGap (d x e : Pair) : Type 0 where
  pub at : e.at ≡ d.at
  pub slots : e.content.slots ≡ d.content.slots
  pub led : is_hard_tail d.content.tail ≡ true
  pub tail : is_hard_tail e.content.tail ≡ is_hard_tail x.content.tail
  pub none : x.content.slots ≡ []

-- the same directories go, on a disk of the same geometry
pub record GoAlike (disk other : Disk) (G H : ℕ × ℕ → Type 0) : Type 0 where
  pub block_size : other.block_size ≡ disk.block_size
  pub page : other.page ≡ disk.page
  pub there : (a : ℕ × ℕ) → H a → G a
  pub back : (a : ℕ × ℕ) → G a → H a

onward_kin : (from : Option (ℕ × ℕ)) (d e : Pair) → IsKin d e → continued_directory_address from e ≡ continued_directory_address from d
onward_kin from d e k = ap₂ (λ (b : Bool) (a : ℕ × ℕ). cond b (Some a) None) k.hard (begin_same from d e k.at)

module _ (disk other : Disk) (G H : ℕ × ℕ → Type 0) (alike : GoAlike disk other G H) where
  fits_on : (p : Pair) → IsFittingPair other p → IsFittingPair disk p
  fits_on p h = subst (λ b. FitsInPair b disk.page p.content) alike.block_size (subst (λ z. FitsInPair other.block_size z p.content) alike.page h)

  fits_off : (p : Pair) → IsFittingPair disk p → IsFittingPair other p
  fits_off p h = subst (λ b. FitsInPair b other.page p.content) (sym alike.block_size) (subst (λ z. FitsInPair disk.block_size z p.content) (sym alike.page) h)

  fits_kin : (d e : Pair) → e.content.slots ≡ d.content.slots → IsFittingPair other e → IsFittingPair disk d
  fits_kin d e slots h = fits_same disk e d (sym slots) (fits_on e h)

  fits_from : (d e : Pair) → e.content.slots ≡ d.content.slots → IsFittingPair disk d → IsFittingPair other e
  fits_from d e slots h = fits_off e (fits_same disk d e slots h)

  stands_kin : (first : Bool) (g h : Type 0) (d e : Pair) (now : List Pair) → (h → g) → (g → h) → e.at ≡ d.at → e.content.slots ≡ d.content.slots → IsPairSplitOrDropped other first h e now → IsPairSplitOrDropped disk first g d now
  stands_kin first g h d e [] f b at slots (inl goes) = inl (f goes)
  stands_kin first g h d e [] f b at slots (inr k) = inr (k.0, sym slots ∙ k.1)
  stands_kin first g h d e (q ∷ []) f b at slots s = (s.0 ∙ at, s.1 ∙ slots, fits_kin d e slots s.2, (λ x. s.3 (b x)), λ n none. s.4 n (slots ∙ none))
  stands_kin first g h d e (q ∷ r ∷ []) f b at slots s = (s.0 ∙ at, s.1 ∙ slots, (λ x. s.2 (fits_from d e slots x)), fits_on q s.3, fits_on r s.4, λ x. s.5 (b x))
  stands_kin first g h d e (q ∷ r ∷ t ∷ now) f b at slots s = absurd s

  here_kin : (from : Option (ℕ × ℕ)) (d e : Pair) (now : List Pair) → e.at ≡ d.at → e.content.slots ≡ d.content.slots → IsPairSplitOrDropped other (is_none from) (H (directory_address from e)) e now → IsPairSplitOrDropped disk (is_none from) (G (directory_address from d)) d now
  here_kin from d e now at slots s = stands_kin (is_none from) (G (directory_address from d)) (H (directory_address from e)) d e now
      (λ x. subst G (begin_same from d e at) (alike.there (directory_address from e) x)) (λ x. alike.back (directory_address from e) (subst G (sym (begin_same from d e at)) x)) at slots s

  pub stand_kin : (n : ℕ) (from : Option (ℕ × ℕ)) (ds es : List Pair) (parts : List (List Pair)) → AreKin ds es → ArePairsSplitOrDropped other H n from es parts → ArePairsSplitOrDropped disk G n from ds parts
  stand_kin n from [] [] [] k s = tt
  stand_kin n from [] [] (now ∷ parts) k s = absurd s
  stand_kin n from [] (e ∷ es) parts k s = absurd k
  stand_kin n from (d ∷ ds) [] parts k s = absurd k
  stand_kin n from (d ∷ ds) (e ∷ es) [] k s = absurd s
  stand_kin zero from (d ∷ ds) (e ∷ es) (now ∷ parts) k s =
      (here_kin from d e now k.0.at k.0.slots s.0, stand_kin zero (continued_directory_address from d) ds es parts k.1 (subst (λ z. ArePairsSplitOrDropped other H zero z es parts) (onward_kin from d e k.0) s.1))
  stand_kin (suc n) from (d ∷ ds) (e ∷ es) (now ∷ parts) k s = (stands_kin true ⊥ ⊥ d e now (λ x. x) (λ x. x) k.0.at k.0.slots s.0, stand_kin n None ds es parts k.1 s.1)

  -- ---- a pair without slots goes

  pub record Filled (n : ℕ) (from : Option (ℕ × ℕ)) (ds joined : List Pair) : Type 0 where
    pub parts : List (List Pair)
    pub stand : ArePairsSplitOrDropped disk G n from ds parts
    pub same : joined_parts parts ≡ joined

  gap_here : (from : Option (ℕ × ℕ)) (d x e : Pair) (ds es : List Pair) (parts : List (List Pair)) → IsGap d x e → AreKin ds es → ArePairsSplitOrDropped other H 0 from (e ∷ es) parts → Filled 0 from (d ∷ x ∷ ds) (joined_parts parts)
  gap_here from d x e ds es [] gap k s = absurd s
  gap_here from d x e ds es (now ∷ parts) gap k s = record {
    parts = now ∷ [] ∷ parts;
    stand = (
      here_kin from d e now gap.at gap.slots s.0,
      subst (λ (z : Option (ℕ × ℕ)). ArePairsSplitOrDropped disk G 0 z (x ∷ ds) ([] ∷ parts)) (sym on) (
        inr (refl, gap.none),
        stand_kin 0 (continued_directory_address (Some (directory_address from d)) x) ds es parts k (subst (λ z. ArePairsSplitOrDropped other H 0 z es parts) same s.1),
      ),
    );
    same = refl;
  }
    where
      on : continued_directory_address from d ≡ Some (directory_address from d)
      on = ap (λ b. cond b (Some (directory_address from d)) None) gap.led

      same : continued_directory_address from e ≡ continued_directory_address (Some (directory_address from d)) x
      same = ap₂ (λ (b : Bool) (a : ℕ × ℕ). cond b (Some a) None) gap.tail (begin_same from d e gap.at)

  pub stand_gap : (n : ℕ) (from : Option (ℕ × ℕ)) (xs : List Pair) (d x : Pair) (ds ys : List Pair) (e : Pair) (es : List Pair) (parts : List (List Pair)) → n ≤ length xs → AreKin xs ys → IsGap d x e → AreKin ds es
      → ArePairsSplitOrDropped other H n from (ys ++ e ∷ es) parts → Filled n from (xs ++ d ∷ x ∷ ds) (joined_parts parts)
  stand_gap zero from [] d x ds [] e es parts low k gap l s = gap_here from d x e ds es parts gap l s
  stand_gap (suc n) from [] d x ds ys e es parts low k gap l s = absurd (omega arith)
  stand_gap n from [] d x ds (y ∷ ys) e es parts low k gap l s = absurd k
  stand_gap n from (w ∷ xs) d x ds [] e es parts low k gap l s = absurd k
  stand_gap n from (w ∷ xs) d x ds (y ∷ ys) e es [] low k gap l s = absurd s
  stand_gap zero from (w ∷ xs) d x ds (y ∷ ys) e es (now ∷ parts) low k gap l s =
      let r = stand_gap zero (continued_directory_address from w) xs d x ds ys e es parts (omega arith) k.1 gap l (subst (λ z. ArePairsSplitOrDropped other H zero z (ys ++ e ∷ es) parts) (onward_kin from w y k.0) s.1) in
      record { parts = now ∷ r.parts; stand = (here_kin from w y now k.0.at k.0.slots s.0, r.stand); same = ap (λ z. now ++ z) r.same }
  stand_gap (suc n) from (w ∷ xs) d x ds (y ∷ ys) e es (now ∷ parts) low k gap l s =
      let r = stand_gap n None xs d x ds ys e es parts (omega arith) k.1 gap l s.1 in
      record { parts = now ∷ r.parts; stand = (stands_kin true ⊥ ⊥ w y now (λ x. x) (λ x. x) k.0.at k.0.slots s.0, r.stand); same = ap (λ z. now ++ z) r.same }

-- ---- the slot that a set move hides

abbrev pub hidden : Gstate → List Pair → List Pair
hidden g ps = map (λ p. pair_with_slots (slots_not_moved g p) p) ps

pub hidden_far : (g : Gstate) (ps : List Pair) → Each (λ (s : Pair). same_pair g.pair s.at ≡ false) ps → AreKin (hidden g ps) ps
hidden_far g [] h = tt
hidden_far g (p ∷ ps) h = (record { at = refl; slots = sym (unmoved_elsewhere g p h.0); hard = refl }, hidden_far g ps h.1)

pub hidden_append : (g : Gstate) (xs ys : List Pair) → hidden g (xs ++ ys) ≡ hidden g xs ++ hidden g ys
hidden_append g [] ys = refl
hidden_append g (x ∷ xs) ys = ap (λ z. pair_with_slots (slots_not_moved g x) x ∷ z) (hidden_append g xs ys)

pub hidden_length : (g : Gstate) (ps : List Pair) → length (hidden g ps) ≡ length ps
hidden_length g [] = refl
hidden_length g (p ∷ ps) = ap suc (hidden_length g ps)

pub kin_append : (xs ys us vs : List Pair) → AreKin xs us → AreKin ys vs → AreKin (xs ++ ys) (us ++ vs)
kin_append [] ys [] vs h k = k
kin_append [] ys (u ∷ us) vs h k = absurd h
kin_append (x ∷ xs) ys [] vs h k = absurd h
kin_append (x ∷ xs) ys (u ∷ us) vs h k = (h.0, kin_append xs ys us vs h.1 k)

pub hidden_in_none : (g : Gstate) (ps : List Pair) → HasNoMove g → hidden g ps ≡ ps
hidden_in_none g [] n = refl
hidden_in_none g (p ∷ ps) n = ap₂ (λ (s : Pair) (z : List Pair). s ∷ z) (ap (λ slots. pair_with_slots slots p) (unmoved_all g n p)) (hidden_in_none g ps n)

-- ---- of two images

-- what a recovery may make of the new image's slots, a recovery of the old one may make, too
abbrev pub GoOnAlike : Disk → List Pair → Disk → List Pair → Type 0
GoOnAlike old ps new qs = (s : Session) (disk : Disk) (rs : List Pair) → IsLayoutAfterOperation new qs s ops.Recover disk rs → IsLayoutAfterOperation old ps s ops.Recover disk rs

module _ (old new : Disk) (ps qs : List Pair) (walk : IsChangedImage old ps new qs (λ t. t) (λ d. d)) (size : new.block_size ≡ old.block_size) (page : new.page ≡ old.page)
    (none : HasNoMove (pairs_gstate qs)) (same : count_before_root qs ≡ count_before_root ps) where
  -- paths lead to the same directories
  abbrev Goes : ℕ × ℕ → Type 0
  Goes = IsUnreachedOrRemoved ps ops.Recover

  abbrev GoesNow : ℕ × ℕ → Type 0
  GoesNow = IsUnreachedOrRemoved qs ops.Recover

  go_alike : GoAlike old new Goes GoesNow
  go_alike = record { block_size = size; page = page; there = there; back = back }
    where
      on : (a : ℕ × ℕ) → IsReachedDirectory ps a → IsReachedDirectory qs a
      on a (path, at, (l, s)) = (path, at, (ap (λ z. z path) walk.leads ∙ l, s))

      off : (a : ℕ × ℕ) → IsReachedDirectory qs a → IsReachedDirectory ps a
      off a (path, at, (l, s)) = (path, at, (ap (λ z. z path) (sym walk.leads) ∙ l, s))

      there : (a : ℕ × ℕ) → GoesNow a → Goes a
      there a (inl n) = inl (λ r. n (on a r))
      there a (inr k) = inr k

      back : (a : ℕ × ℕ) → Goes a → GoesNow a
      back a (inl n) = inl (λ r. n (off a r))
      back a (inr k) = inr k

  stand_now : (drafts : List Pair) (parts : List (List Pair)) → drafts ≡ pairs_without_moved qs → ArePairsSplitOrDropped new GoesNow (count_before_root qs) None drafts parts → ArePairsSplitOrDropped new GoesNow (count_before_root ps) None qs parts
  stand_now drafts parts e s = subst (λ n. ArePairsSplitOrDropped new GoesNow n None qs parts) same
      (subst (λ z. ArePairsSplitOrDropped new GoesNow (count_before_root qs) None z parts) (e ∙ hidden_in_none (pairs_gstate qs) qs none) s)

  pub laid_out_kin : AreKin (pairs_without_moved ps) qs → GoOnAlike old ps new qs
  laid_out_kin kin s disk rs h = record {
    drafts = pairs_without_moved ps;
    parts = h.parts;
    front = h.front;
    fresh = h.fresh;
    back = h.back;
    edits = (h.edits.0, refl);
    stand = stand_kin old new Goes GoesNow go_alike (count_before_root ps) None (pairs_without_moved ps) qs h.parts kin (stand_now h.drafts h.parts h.edits.1 h.stand);
    joined = h.joined;
    is = h.is;
  }

  pub laid_out_gap : (xs : List Pair) (d x : Pair) (ds ys : List Pair) (e : Pair) (es : List Pair) → pairs_without_moved ps ≡ xs ++ d ∷ x ∷ ds → qs ≡ ys ++ e ∷ es → count_before_root ps ≤ length xs
      → AreKin xs ys → IsGap d x e → AreKin ds es → GoOnAlike old ps new qs
  laid_out_gap xs d x ds ys e es was is low k gap l s disk rs h =
      let now = subst (λ z. ArePairsSplitOrDropped new GoesNow (count_before_root ps) None z h.parts) is (stand_now h.drafts h.parts h.edits.1 h.stand) in
      let r = stand_gap old new Goes GoesNow go_alike (count_before_root ps) None xs d x ds ys e es h.parts low k gap l now in
      record {
        drafts = pairs_without_moved ps;
        parts = r.parts;
        front = h.front;
        fresh = h.fresh;
        back = h.back;
        edits = (h.edits.0, refl);
        stand = subst (λ z. ArePairsSplitOrDropped old Goes (count_before_root ps) None z r.parts) (sym was) r.stand;
        joined = r.same ∙ h.joined;
        is = h.is;
      }
