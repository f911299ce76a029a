-- A recovery with nothing left to recover moves no slots, so any layout after it is one after the first recovery.
use Rattle.std.proofs.Common.{ℕ, ◌≡◌, ◌⊎◌, ◌∙◌, inl, inr, true, false, List, [], ◌∷◌, ◌++◌, length, take, Option, None, refl, sym, ap, subst, append-nil}
use Rattle.std.specs.Prelude.{is_none, is_some}
use Rattle.lfs_tree.proofs.Common.{recursion_from_All, Disk, ArePairsSplitOrDropped, IsFittingPair, IsUnreachedOrRemoved, IsLayoutAfterOperation, directory_address, continued_directory_address, Session, zero_gstate, Pair, pairs_from_root, pairs_gstate, count_before_root, HasNoEmptyPairs, IsWritable, IsAccepted, recovered_from, Each, each_left, each_right, chain_of_thread, onward_some}
use Rattle.lfs_model.specs.session.Operations as ops
use Rattle.lfs_model.proofs.Alike.{SameSlots, stood_alike}
use Rattle.lfs_model.proofs.Committed.{none_goes, nothing_moved}
use Rattle.lfs_model.proofs.Layouts.{NoneGoes, first_or_some, joined_parts}

module _ (disk : Disk) (goes : ℕ × ℕ → Type 0) where
  alike_dirs : (from : Option (ℕ × ℕ)) (ds : List Pair) (parts : List (List Pair)) → Each (IsFittingPair disk) ds → HasNoEmptyPairs (is_some from) ds → NoneGoes goes from ds → ArePairsSplitOrDropped disk goes 0 from ds parts → SameSlots ds (joined_parts parts)
  alike_dirs from [] [] fits have none s = tt
  alike_dirs from [] (now ∷ parts) fits have none s = absurd s
  alike_dirs from (d ∷ ds) [] fits have none s = absurd s
  alike_dirs from (d ∷ ds) ([] ∷ parts) fits have none s = absurd (stays s.0)
    where
      stays : goes (directory_address from d) ⊎ ((is_none from ≡ false) × (d.content.slots ≡ [])) → ⊥
      stays (inl g) = none.0 g
      stays (inr k) = first_or_some from d.content.slots have.0 k.0 k.1
  alike_dirs from (d ∷ ds) ((q ∷ []) ∷ parts) fits have none s =
      (s.0.0, s.0.1, alike_dirs (continued_directory_address from d) ds parts fits.1 (subst (λ b. HasNoEmptyPairs b ds) (sym (onward_some from d)) have.1) none.1 s.1)
  alike_dirs from (d ∷ ds) ((q ∷ f ∷ []) ∷ parts) fits have none s = absurd (s.0.2 fits.0)
  alike_dirs from (d ∷ ds) ((q ∷ f ∷ g ∷ now) ∷ parts) fits have none s = absurd s.0

  -- behind the superblock's pairs
  alike_chain : (chain ds : List Pair) (parts : List (List Pair)) → Each (IsFittingPair disk) chain → ((rest : List (List Pair)) → ArePairsSplitOrDropped disk goes 0 None ds rest → SameSlots ds (joined_parts rest))
      → ArePairsSplitOrDropped disk goes (length chain) None (chain ++ ds) parts → SameSlots (chain ++ ds) (joined_parts parts)
  alike_chain [] ds parts fits behind s = behind parts s
  alike_chain (c ∷ chain) ds [] fits behind s = absurd s
  alike_chain (c ∷ chain) ds ([] ∷ parts) fits behind s = absurd (stays s.0)
    where
      stays : ⊥ ⊎ ((true ≡ false) × (c.content.slots ≡ [])) → ⊥
      stays (inl g) = g
      stays (inr k) = let e = k.0 in absurd (cc)
  alike_chain (c ∷ chain) ds ((q ∷ []) ∷ parts) fits behind s = (s.0.0, s.0.1, alike_chain chain ds parts fits.1 behind s.1)
  alike_chain (c ∷ chain) ds ((q ∷ f ∷ []) ∷ parts) fits behind s = absurd (s.0.2 fits.0)
  alike_chain (c ∷ chain) ds ((q ∷ f ∷ g ∷ now) ∷ parts) fits behind s = absurd s.0

joined_is : (disk : Disk) (ps : List Pair) (s : Session) (new : Disk) (qs : List Pair) (h : IsLayoutAfterOperation disk ps s ops.Recover new qs) → joined_parts h.parts ≡ qs
joined_is disk ps s new qs h = h.joined ∙ sym (h.is ∙ ap (λ z. h.front ++ (z ++ h.back)) h.edits.0)

stays_alike : (disk : Disk) (ps : List Pair) (s : Session) (new : Disk) (qs : List Pair) → IsAccepted disk ps → IsWritable disk ps → pairs_gstate ps ≡ zero_gstate → IsLayoutAfterOperation disk ps s ops.Recover new qs → SameSlots ps qs
stays_alike disk ps s new qs ok fits e h =
    let are = (chain_of_thread ps).0 in
    let count : count_before_root ps ≡ length chain = ap count_before_root are ∙ (chain_of_thread ps).1 in
    let drafts : h.drafts ≡ chain ++ dirs = h.edits.1 ∙ nothing_moved ps e ∙ are in
    let all = subst (Each (IsFittingPair disk)) are (recursion_from_All (IsFittingPair disk) ps fits.pairs) in
    let none = none_goes ps ops.Recover refl (recovered_from disk ps ok e).reached in
    let stand = subst (λ n. ArePairsSplitOrDropped disk goes n None (chain ++ dirs) h.parts) count (subst (λ xs. ArePairsSplitOrDropped disk goes (count_before_root ps) None xs h.parts) drafts h.stand) in
    subst (λ xs. SameSlots xs qs) (sym are) (subst (SameSlots (chain ++ dirs)) (joined_is disk ps s new qs h)
    (alike_chain disk goes chain dirs h.parts (each_left (IsFittingPair disk) chain dirs all)
    (λ rest k. alike_dirs disk goes None dirs rest (each_right (IsFittingPair disk) chain dirs all) fits.no_empty_pair none k) stand))
  where
    chain : List Pair
    chain = take (count_before_root ps) ps

    dirs : List Pair
    dirs = pairs_from_root ps

    goes : ℕ × ℕ → Type 0
    goes = IsUnreachedOrRemoved ps ops.Recover

-- so any layout of slots after a further recovery is one after the first
pub recovers_through : (disk : Disk) (ps : List Pair) (s : Session) (mid : Disk) (qs : List Pair) (r : Session) (new : Disk) (rs : List Pair) → IsLayoutAfterOperation disk ps s ops.Recover mid qs → IsAccepted mid qs → IsWritable mid qs
    → pairs_gstate qs ≡ zero_gstate → IsLayoutAfterOperation mid qs r ops.Recover new rs → IsLayoutAfterOperation disk ps r ops.Recover new rs
recovers_through disk ps s mid qs r new rs h ok fits e k =
    let alike = subst (λ z. SameSlots z rs) (sym (joined_is disk ps s mid qs h)) (stays_alike mid qs r new rs ok fits e k) in
    let stood = stood_alike disk (IsUnreachedOrRemoved ps ops.Recover) (count_before_root ps) None h.drafts h.parts rs h.stand alike in
    record {
      drafts = h.drafts;
      parts = stood.parts;
      front = rs;
      fresh = [];
      back = [];
      edits = (refl, h.edits.1);
      stand = stood.stand;
      joined = stood.joined ∙ sym (append-nil rs);
      is = sym (append-nil rs);
    }
