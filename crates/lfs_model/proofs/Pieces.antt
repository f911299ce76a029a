-- Where slots are after a rename onto a directory, whatever the order in which the three pairs stand: the one that loses the
-- slot, the one that gains it, and the one of the directory that goes.
use Rattle.std.proofs.Common.{ℕ, ◌≡◌, ◌≢◌, ◌⊎◌, inl, inr, Bool, true, false, cond, List, [], ◌∷◌, ◌++◌, length, map, Option, Some, None, refl, sym, ap, subst, ◌∙◌, flat_map}
use Rattle.std.specs.Prelude.{Any, is_some}
use Rattle.lfs_model.proofs.Common.{same_Some, Disk, Slot, same_pair, Pair, is_hard_tail, HasNoEmptyPairs, pair_with_slots, IsFittingPair, directory_address, continued_directory_address}
use Rattle.lfs_model.proofs.Counts.{Each, each_left, each_right}
use Rattle.lfs_model.proofs.Sites.{any_from}
use Rattle.lfs_model.proofs.Splices.{all_slots}
use Rattle.lfs_model.proofs.Became.{Became, became_stands}
use Rattle.lfs_model.proofs.TwoPlaces.{OldStays, old_stands}
use Rattle.lfs_model.proofs.Layouts.{onward_all, NoneGoes, none_goes_left, none_goes_right, have_left, have_right}
use Rattle.lfs_model.proofs.Alike.{SameSlots, Stood}
use Rattle.lfs_model.proofs.Layouts.{joined_parts}
use Rattle.lfs_model.proofs.RemovedDirectory.{none_both, none_apart}
use Rattle.lfs_model.proofs.Segments.{Segment, kept, gone, drafts_of, parts_of, SegmentsStand, kept_stands, gone_stands, segments_stood}

-- Pairs that stay; one that keeps these slots, as os; one that is to hold these, as q and more; one that goes.
pub data Piece : Type 0 where
  Stays : (ps : List Pair) → Piece
  Keeps : (o : Pair) (slots : List Slot) (os : List Pair) → Piece
  Gains : (p : Pair) (slots : List Slot) (q : Pair) (more : List Pair) → Piece
  Goes : (g : Pair) → Piece

abbrev pub old_of : Piece → List Pair
old_of (Stays ps) = ps
old_of (Keeps o slots os) = o ∷ []
old_of (Gains p slots q more) = p ∷ []
old_of (Goes g) = g ∷ []

abbrev pub olds_of : List Piece → List Pair
olds_of pieces = flat_map old_of pieces

abbrev pub segment_of : Piece → Segment
segment_of (Stays ps) = kept ps
segment_of (Keeps o slots os) = record { old = o ∷ []; drafts = pair_with_slots slots o ∷ []; parts = os ∷ [] }
segment_of (Gains p slots q more) = record { old = p ∷ []; drafts = pair_with_slots slots p ∷ []; parts = (q ∷ more) ∷ [] }
segment_of (Goes g) = gone g

-- What is known of each piece, where the directory before it goes on; the one at d goes.
abbrev pub AreThere : Disk → ℕ × ℕ → Option (ℕ × ℕ) → List Piece → Type 0
AreThere disk d from [] = Unit {0}
AreThere disk d from (Stays ps ∷ pieces) = Each (λ x. same_pair x.at d ≡ false) ps × AreThere disk d (onward_all from ps) pieces
AreThere disk d from (Keeps o slots os ∷ pieces) = (same_pair o.at d ≡ false) × IsFittingPair disk (pair_with_slots slots o) × OldStays from o slots os × AreThere disk d (continued_directory_address from o) pieces
AreThere disk d from (Gains p slots q more ∷ pieces) =
    (same_pair p.at d ≡ false) × (q.at ≡ p.at) × (all_slots (q ∷ more) ≡ slots) × Became disk p (pair_with_slots slots p) q more × (slots ≢ []) × AreThere disk d (continued_directory_address from p) pieces
AreThere disk d from (Goes g ∷ pieces) = (from ≡ None) × (same_pair g.at d ≡ true) × (is_hard_tail g.content.tail ≡ false) × AreThere disk d (continued_directory_address from g) pieces

-- no directory goes but the one at d
abbrev pub GoesAt : (ℕ × ℕ → Type 0) → ℕ × ℕ → ℕ × ℕ → Type 0
GoesAt unreached d x = unreached x ⊎ Any (λ at. same_pair x at ≡ true) (d ∷ [])

-- a directory that goes on isn't the one at d
abbrev OnApart : ℕ × ℕ → Option (ℕ × ℕ) → Type 0
OnApart d from = (x : ℕ × ℕ) → from ≡ Some x → same_pair x d ≡ true → ⊥

on_next : (d : ℕ × ℕ) (from : Option (ℕ × ℕ)) (p : Pair) → OnApart d from → same_pair p.at d ≡ false → OnApart d (continued_directory_address from p)
on_next d from p h e x k s = go (is_hard_tail p.content.tail) k
  where
    begins : (o : Option (ℕ × ℕ)) → from ≡ o → same_pair (directory_address o p) d ≡ true → ⊥
    begins None f t = absurd (let z = sym e ∙ t in cc)
    begins (Some y) f t = h y f t

    go : (b : Bool) → cond b (Some (directory_address from p)) None ≡ Some x → ⊥
    go true f = begins from refl (subst (λ y. same_pair y d ≡ true) (sym (same_Some (directory_address from p) x f)) s)
    go false f = absurd (cc)

on_all : (d : ℕ × ℕ) (from : Option (ℕ × ℕ)) (ps : List Pair) → OnApart d from → Each (λ x. same_pair x.at d ≡ false) ps → OnApart d (onward_all from ps)
on_all d from [] h k = h
on_all d from (p ∷ ps) h k = on_all d (continued_directory_address from p) ps (on_next d from p h k.0) k.1

module _ (disk : Disk) (unreached : ℕ × ℕ → Type 0) (d : ℕ × ℕ) where
  none_here : (from : Option (ℕ × ℕ)) (ps : List Pair) → OnApart d from → NoneGoes unreached from ps → Each (λ x. same_pair x.at d ≡ false) ps → NoneGoes (GoesAt unreached d) from ps
  none_here from ps on h k = none_both unreached (λ x. Any (λ at. same_pair x at ≡ true) (d ∷ [])) from ps h (none_apart d from ps on k)

  pub pieces_stand : (from : Option (ℕ × ℕ)) (pieces : List Piece) → OnApart d from → Each (IsFittingPair disk) (olds_of pieces) → HasNoEmptyPairs (is_some from) (olds_of pieces) → NoneGoes unreached from (olds_of pieces)
      → AreThere disk d from pieces → SegmentsStand disk (GoesAt unreached d) from (map segment_of pieces)
  pieces_stand from [] on fits have none there = tt
  pieces_stand from (Stays ps ∷ pieces) on fits have none there =
      kept_stands disk (GoesAt unreached d) from ps (map segment_of pieces) (each_left (IsFittingPair disk) ps (olds_of pieces) fits) (have_left (is_some from) ps (olds_of pieces) have)
      (none_here from ps on (none_goes_left unreached from ps (olds_of pieces) none) there.0)
      (pieces_stand (onward_all from ps) pieces (on_all d from ps on there.0) (each_right (IsFittingPair disk) ps (olds_of pieces) fits) (have_right from ps (olds_of pieces) have)
      (none_goes_right unreached from ps (olds_of pieces) none) there.1)
  pieces_stand from (Keeps o slots os ∷ pieces) on fits have none there = (
    old_stands disk (GoesAt unreached d) from o slots os there.1 there.2 (none_here from (o ∷ []) on (none.0, tt) (there.0, tt)),
    refl,
    pieces_stand (continued_directory_address from o) pieces (on_next d from o on there.0) fits.1 (have_right from (o ∷ []) (olds_of pieces) have) none.1 there.3,
  )
  pieces_stand from (Gains p slots q more ∷ pieces) on fits have none there = (
    (became_stands disk _ _ p (pair_with_slots slots p) q more there.1 there.2 there.3 (none_here from (p ∷ []) on (none.0, tt) (there.0, tt)).0 (λ e. there.4), tt),
    refl,
    pieces_stand (continued_directory_address from p) pieces (on_next d from p on there.0) fits.1 (have_right from (p ∷ []) (olds_of pieces) have) none.1 there.5,
  )
  pieces_stand from (Goes g ∷ pieces) on fits have none there =
      gone_stands disk (GoesAt unreached d) from g (map segment_of pieces)
      (inr (any_from (λ at. same_pair (directory_address from g) at ≡ true) (d ∷ []) (inl (subst (λ (z : Option (ℕ × ℕ)). same_pair (directory_address z g) d ≡ true) (sym there.0) there.1))))
      (pieces_stand (continued_directory_address from g) pieces ends fits.1 (have_right from (g ∷ []) (olds_of pieces) have) none.1 there.3)
    where
      ends : OnApart d (continued_directory_address from g)
      ends x k s = absurd (let z : None ≡ Some x = sym (ap (λ b. cond b (Some (directory_address from g)) None) there.2) ∙ k in cc)

  -- after the superblock's pairs
  pub pieces_stood : (chain : List Pair) (pieces : List Piece) (rs : List Pair) → Each (IsFittingPair disk) (chain ++ olds_of pieces) → HasNoEmptyPairs false (olds_of pieces) → NoneGoes unreached None (olds_of pieces)
      → AreThere disk d None pieces → SameSlots (chain ++ joined_parts (parts_of (map segment_of pieces))) rs
      → Stood disk (GoesAt unreached d) (length chain) None (chain ++ drafts_of (map segment_of pieces)) rs
  pieces_stood chain pieces rs fits have none there alike =
      segments_stood disk (GoesAt unreached d) chain (map segment_of pieces) rs (each_left (IsFittingPair disk) chain (olds_of pieces) fits)
      (pieces_stand None pieces (λ x e s. absurd (cc)) (each_right (IsFittingPair disk) chain (olds_of pieces) fits) have none there) alike
