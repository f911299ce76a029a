-- Where slots stand once a pair among others is gone: a piece is cut out.
use Rattle.std.proofs.Common.{ℕ, ◌≡◌, false, true, List, [], ◌∷◌, ◌++◌, map, Option, None, refl, sym, ap, subst, ◌∙◌, append_assoc}
use Rattle.std.specs.Prelude.{◌≢◌}
use Rattle.lfs_model.proofs.Common.{Disk, IsFittingPair, continued_directory_address, pair_with_slots, same_pair, Pair, is_hard_tail}
use Rattle.lfs_model.proofs.Alike.{SameSlots}
use Rattle.lfs_model.proofs.Became.{Became}
use Rattle.lfs_model.proofs.Counts.{Each, each_left, each_right}
use Rattle.lfs_model.proofs.Layouts.{joined_parts, joined_singles, onward_all, singles, joined_append}
use Rattle.lfs_model.proofs.Pieces.{Gains, Keeps, Piece, Stays, olds_of, segment_of, AreThere, Goes}
use Rattle.lfs_model.proofs.RemovedDirectory.{onward_append}
use Rattle.lfs_model.proofs.Segments.{drafts_of, parts_of}
use Rattle.lfs_model.proofs.Splices.{all_slots}
use Rattle.lfs_model.proofs.TwoPlaces.{OldStays}

-- ---- lists

data Splits (xs ys front : List Pair) (g : Pair) (back : List Pair) : Type 0 where
  Here : (rest : List Pair) → xs ≡ front ++ g ∷ rest → back ≡ rest ++ ys → Splits xs ys front g back
  Later : (rest : List Pair) → front ≡ xs ++ rest → ys ≡ rest ++ g ∷ back → Splits xs ys front g back

splits : (xs ys front : List Pair) (g : Pair) (back : List Pair) → xs ++ ys ≡ front ++ g ∷ back → Splits xs ys front g back
splits [] ys front g back e = Later front refl e
splits (x ∷ xs) ys [] g back e =
    let h : x ≡ g = cc in
    let k : xs ++ ys ≡ back = cc in
    Here xs (ap (λ z. z ∷ xs) h) (sym k)
splits (x ∷ xs) ys (f ∷ front) g back e =
    let h : x ≡ f = cc in
    let k : xs ++ ys ≡ front ++ g ∷ back = cc in
    go (splits xs ys front g back k) h
  where
    go : Splits xs ys front g back → x ≡ f → Splits (x ∷ xs) ys (f ∷ front) g back
    go (Here rest a b) h = Here rest (ap (λ z. x ∷ z) a ∙ ap (λ z. z ∷ (front ++ g ∷ rest)) h) b
    go (Later rest a b) h = Later rest (ap (λ z. f ∷ z) a ∙ ap (λ z. z ∷ (xs ++ rest)) (sym h)) b

-- ---- pieces that all stay

-- what is known of them, but that they aren't at an address; none is g but among those that stay as they are
abbrev pub AreKnown : Disk → Pair → Option (ℕ × ℕ) → List Piece → Type 0
AreKnown disk g from [] = Unit {0}
AreKnown disk g from (Stays ps ∷ pieces) = AreKnown disk g (onward_all from ps) pieces
AreKnown disk g from (Keeps o slots os ∷ pieces) = IsFittingPair disk (pair_with_slots slots o) × OldStays from o slots os × (o ≡ g → ⊥) × AreKnown disk g (continued_directory_address from o) pieces
AreKnown disk g from (Gains p slots q more ∷ pieces) =
    (q.at ≡ p.at) × (all_slots (q ∷ more) ≡ slots) × Became disk p (pair_with_slots slots p) q more × (slots ≢ []) × (p ≡ g → ⊥) × AreKnown disk g (continued_directory_address from p) pieces
AreKnown disk g from (Goes p ∷ pieces) = ⊥

-- with the pair g cut out
pub record IsCutOut (disk : Disk) (d : ℕ × ℕ) (g : Pair) (from : Option (ℕ × ℕ)) (pieces : List Piece) : Type 0 where
  pub all : List Piece
  pub olds : olds_of all ≡ olds_of pieces
  pub drafts : drafts_of (map segment_of all) ≡ drafts_of (map segment_of pieces)
  pub left : List Pair
  pub right : List Pair
  pub were : joined_parts (parts_of (map segment_of pieces)) ≡ left ++ g ∷ right
  pub are : joined_parts (parts_of (map segment_of all)) ≡ left ++ right
  pub there : AreThere disk d from all

pub joined_stays : (ps : List Pair) (pieces : List Piece) → joined_parts (parts_of (map segment_of (Stays ps ∷ pieces))) ≡ ps ++ joined_parts (parts_of (map segment_of pieces))
joined_stays ps pieces = joined_append (singles ps) (parts_of (map segment_of pieces)) ∙ ap (λ z. z ++ joined_parts (parts_of (map segment_of pieces))) (joined_singles ps)

module _ (disk : Disk) (d : ℕ × ℕ) (g : Pair) (address : same_pair g.at d ≡ true) (soft : is_hard_tail g.content.tail ≡ false) where
  abbrev Apart : Pair → Type 0
  Apart x = same_pair x.at d ≡ false

  all_there : (from : Option (ℕ × ℕ)) (pieces : List Piece) → AreKnown disk g from pieces → Each Apart (olds_of pieces) → AreThere disk d from pieces
  all_there from [] k a = tt
  all_there from (Stays ps ∷ pieces) k a = (each_left Apart ps (olds_of pieces) a, all_there (onward_all from ps) pieces k (each_right Apart ps (olds_of pieces) a))
  all_there from (Keeps o slots os ∷ pieces) k a = (a.0, k.0, k.1, all_there (continued_directory_address from o) pieces k.3 a.1)
  all_there from (Gains p slots q more ∷ pieces) k a = (a.0, k.0, k.1, k.2, k.3, all_there (continued_directory_address from p) pieces k.5 a.1)
  all_there from (Goes p ∷ pieces) k a = absurd k

  pub cut_out : (from : Option (ℕ × ℕ)) (pieces : List Piece) (front back : List Pair) → olds_of pieces ≡ front ++ g ∷ back → onward_all from front ≡ None → Each Apart front → Each Apart back → AreKnown disk g from pieces
      → IsCutOut disk d g from pieces
  cut_out from [] [] back e n a b k = absurd (cc)
  cut_out from [] (f ∷ front) back e n a b k = absurd (cc)
  cut_out from (Stays ps ∷ pieces) front back e n a b k = go (λ rest h m c. cut_out (onward_all from ps) pieces rest back h m c b k) (splits ps (olds_of pieces) front g back e)
    where
      go : ((rest : List Pair) → olds_of pieces ≡ rest ++ g ∷ back → onward_all (onward_all from ps) rest ≡ None → Each Apart rest → IsCutOut disk d g (onward_all from ps) pieces)
          → Splits ps (olds_of pieces) front g back → IsCutOut disk d g from (Stays ps ∷ pieces)
      go next (Here rest is h) =
          let ends : onward_all from ps ≡ onward_all (continued_directory_address (onward_all from front) g) rest = ap (onward_all from) is ∙ onward_append from front (g ∷ rest) in
          let apart = subst (Each Apart) h b in
          record {
            all = Stays front ∷ Goes g ∷ Stays rest ∷ pieces;
            olds = sym (append_assoc front (g ∷ rest) (olds_of pieces)) ∙ ap (λ z. z ++ olds_of pieces) (sym is);
            drafts = sym (append_assoc front (g ∷ rest) (drafts_of (map segment_of pieces))) ∙ ap (λ z. z ++ drafts_of (map segment_of pieces)) (sym is);
            left = front;
            right = rest ++ joined_parts (parts_of (map segment_of pieces));
            were = joined_stays ps pieces ∙ ap (λ z. z ++ joined_parts (parts_of (map segment_of pieces))) is ∙ append_assoc front (g ∷ rest) (joined_parts (parts_of (map segment_of pieces)));
            are = joined_stays front (Goes g ∷ Stays rest ∷ pieces) ∙ ap (λ z. front ++ z) (joined_stays rest pieces);
            there = (
              a,
              (
                n,
                address,
                soft,
                (
                  each_left Apart rest (olds_of pieces) apart,
                  all_there (onward_all (continued_directory_address (onward_all from front) g) rest) pieces (subst (λ z. AreKnown disk g z pieces) ends k) (each_right Apart rest (olds_of pieces) apart),
                ),
              ),
            );
          }
      go next (Later rest is h) =
          let apart = subst (Each Apart) is a in
          let c = next rest h (sym (ap (onward_all from) is ∙ onward_append from ps rest) ∙ n) (each_right Apart ps rest apart) in
          record {
            all = Stays ps ∷ c.all;
            olds = ap (λ z. ps ++ z) c.olds;
            drafts = ap (λ z. ps ++ z) c.drafts;
            left = ps ++ c.left;
            right = c.right;
            were = joined_stays ps pieces ∙ ap (λ z. ps ++ z) c.were ∙ sym (append_assoc ps c.left (g ∷ c.right));
            are = joined_stays ps c.all ∙ ap (λ z. ps ++ z) c.are ∙ sym (append_assoc ps c.left c.right);
            there = (each_left Apart ps rest apart, c.there);
          }
  cut_out from (Keeps o slots os ∷ pieces) [] back e n a b k = absurd (k.2 (let h : o ≡ g = cc in h))
  cut_out from (Keeps o slots os ∷ pieces) (f ∷ front) back e n a b k =
      let h : f ≡ o = cc in
      let c = cut_out (continued_directory_address from o) pieces front back (let z : olds_of pieces ≡ front ++ g ∷ back = cc in z) (ap (λ z. onward_all (continued_directory_address from z) front) (sym h) ∙ n) a.1 b k.3 in
      record {
        all = Keeps o slots os ∷ c.all;
        olds = ap (λ z. o ∷ z) c.olds;
        drafts = ap (λ z. pair_with_slots slots o ∷ z) c.drafts;
        left = os ++ c.left;
        right = c.right;
        were = ap (λ z. os ++ z) c.were ∙ sym (append_assoc os c.left (g ∷ c.right));
        are = ap (λ z. os ++ z) c.are ∙ sym (append_assoc os c.left c.right);
        there = (subst Apart h a.0, k.0, k.1, c.there);
      }
  cut_out from (Gains p slots q more ∷ pieces) [] back e n a b k = absurd (k.4 (let h : p ≡ g = cc in h))
  cut_out from (Gains p slots q more ∷ pieces) (f ∷ front) back e n a b k =
      let h : f ≡ p = cc in
      let c = cut_out (continued_directory_address from p) pieces front back (let z : olds_of pieces ≡ front ++ g ∷ back = cc in z) (ap (λ z. onward_all (continued_directory_address from z) front) (sym h) ∙ n) a.1 b k.5 in
      record {
        all = Gains p slots q more ∷ c.all;
        olds = ap (λ z. p ∷ z) c.olds;
        drafts = ap (λ z. pair_with_slots slots p ∷ z) c.drafts;
        left = (q ∷ more) ++ c.left;
        right = c.right;
        were = ap (λ z. (q ∷ more) ++ z) c.were ∙ sym (append_assoc (q ∷ more) c.left (g ∷ c.right));
        are = ap (λ z. (q ∷ more) ++ z) c.are ∙ sym (append_assoc (q ∷ more) c.left c.right);
        there = (subst Apart h a.0, k.0, k.1, k.2, k.3, c.there);
      }
  cut_out from (Goes p ∷ pieces) front back e n a b k = absurd k

  -- ---- pairs alike

  none_alike : (xs : List Pair) (y : Pair) (ys zs : List Pair) → y.at ≡ g.at → SameSlots (xs ++ y ∷ ys) zs → Each Apart zs → ⊥
  none_alike [] y ys [] e h a = h
  none_alike [] y ys (z ∷ zs) e h a = absurd (let k = sym a.0 ∙ ap (λ at. same_pair at d) (h.0 ∙ e) ∙ address in cc)
  none_alike (x ∷ xs) y ys [] e h a = h
  none_alike (x ∷ xs) y ys (z ∷ zs) e h a = none_alike xs y ys zs e h.2 a.1

  -- without the pair, too
  pub alike_without : (xs ys us vs : List Pair) → SameSlots (xs ++ g ∷ ys) (us ++ g ∷ vs) → Each Apart us → Each Apart vs → SameSlots (xs ++ ys) (us ++ vs)
  alike_without [] ys [] vs h a b = h.2
  alike_without [] ys (u ∷ us) vs h a b = absurd (let k = sym a.0 ∙ ap (λ at. same_pair at d) h.0 ∙ address in cc)
  alike_without (x ∷ xs) ys [] vs h a b = absurd (none_alike xs g ys vs refl h.2 b)
  alike_without (x ∷ xs) ys (u ∷ us) vs h a b = (h.0, h.1, alike_without xs ys us vs h.2 a.1 b)

pub alike_then : (xs ys zs : List Pair) → SameSlots xs ys → SameSlots ys zs → SameSlots xs zs
alike_then [] [] zs h k = k
alike_then [] (y ∷ ys) zs h k = absurd h
alike_then (x ∷ xs) [] zs h k = absurd h
alike_then (x ∷ xs) (y ∷ ys) [] h k = absurd k
alike_then (x ∷ xs) (y ∷ ys) (z ∷ zs) h k = (k.0 ∙ h.0, k.1 ∙ h.1, alike_then xs ys zs h.2 k.2)
