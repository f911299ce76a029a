-- A pair that gets more slots or fewer, or is split, counts as changed.
use Rattle.lfs_operations.proofs.Common.{ℕ, zero, suc, ◌≡◌, ◌≢◌, ◌⊎◌, inl, inr, ◌+◌, true, false, List, [], ◌∷◌, ◌++◌, length, Option, Some, refl, sym, ap, subst, ◌∙◌, arith, append-nil, append_assoc, length-append, IsDistinct, same_Some, Disk, Slot, same_pair, AreLinkedByTails, Pair, superblock_pair_address, pairs_blocks, tail_target, IsAccepted, pair_with_slots, Became, IsCommit, Each, pair_itself, avoids_behind, avoids_front, all_slots, HoldsForSome, Site, among_parts, thread_at, Contains}
use Rattle.std.proofs.Common.{nat_eq}

-- ---- a pair in a thread

pub among_contains : (p : Pair) (xs : List Pair) → Contains xs p → HoldsForSome (λ y. y ≡ p) xs
among_contains p [] (k, l, e) = absurd (omega arith)
among_contains p (x ∷ xs) (zero, l, e) = inl e
among_contains p (x ∷ xs) (suc k, l, e) = inr (among_contains p xs (k, omega arith, e))

avoided : (p : Pair) (xs : List Pair) → Each (λ x. same_pair x.at p.at ≡ false) xs → HoldsForSome (λ y. y ≡ p) xs → ⊥
avoided p [] h a = a
avoided p (x ∷ xs) h (inl e) = absurd (let k = sym (pair_itself p.at) ∙ ap (λ (y : Pair). same_pair y.at p.at) (sym e) ∙ h.0 in cc)
avoided p (x ∷ xs) h (inr a) = avoided p xs h.1 a

-- the pair at an address is the only one there
pub only_there : (xs : List Pair) (q : Pair) (ys : List Pair) (p : Pair) → IsDistinct nat_eq (pairs_blocks (xs ++ q ∷ ys)) → q.at ≡ p.at → Contains (xs ++ q ∷ ys) p → q ≡ p
only_there xs q ys p distinct e has = go (among_parts (λ y. y ≡ p) xs (q ∷ ys) (among_contains p (xs ++ q ∷ ys) has))
  where
    same : same_pair q.at p.at ≡ true
    same = ap (λ a. same_pair a p.at) e ∙ pair_itself p.at

    go : HoldsForSome (λ y. y ≡ p) xs ⊎ HoldsForSome (λ y. y ≡ p) (q ∷ ys) → q ≡ p
    go (inl h) = absurd (avoided p xs (avoids_front xs q ys p.at distinct same) h)
    go (inr (inl h)) = h
    go (inr (inr h)) = absurd (avoided p ys (avoids_behind xs q ys p.at distinct same) h)

pub links_behind : (at : Option (ℕ × ℕ)) (xs ys : List Pair) → AreLinkedByTails at (xs ++ ys) → (to : Option (ℕ × ℕ)) × AreLinkedByTails to ys
links_behind at [] ys h = (at, h)
links_behind at (x ∷ xs) ys h = links_behind (tail_target x.content.tail) xs ys h.1

-- no pair's tail names it
names_another : (xs : List Pair) (f : Pair) (ys : List Pair) → AreLinkedByTails (Some superblock_pair_address) (xs ++ f ∷ ys) → IsDistinct nat_eq (pairs_blocks (xs ++ f ∷ ys)) → tail_target f.content.tail ≡ Some f.at → ⊥
names_another xs f [] links distinct e = absurd (let k = sym e ∙ (links_behind (Some superblock_pair_address) xs (f ∷ []) links).1.1 in cc)
names_another xs f (g ∷ ys) links distinct e =
    let k = (links_behind (Some superblock_pair_address) xs (f ∷ g ∷ ys) links).1.1.0 in
    let same : f.at ≡ g.at = same_Some f.at g.at (sym e ∙ k) in
    avoided g (g ∷ ys) (avoids_behind xs f (g ∷ ys) g.at distinct (ap (λ a. same_pair a g.at) same ∙ pair_itself g.at)) (inl refl)

-- ---- a commit

module _ (disk new : Disk) (w : Site) (p q : Pair) (fresh : List ℕ) (l olds news r : List Slot) (more : length news ≢ length olds) where
  abbrev ahead : List Pair
  ahead = w.chain ++ (w.before ++ w.left)

  abbrev behind : List Pair
  behind = w.right ++ w.after

  counted : (xs : List Slot) → length (l ++ (xs ++ r)) ≡ length l + (length xs + length r)
  counted xs = let a = length-append l (xs ++ r) in let b = length-append xs r in omega arith

  -- the pair holds other slots
  other_slots : q ≡ p → q.content.slots ++ [] ≡ l ++ (news ++ r) → p.content.slots ≡ l ++ (olds ++ r) → ⊥
  other_slots e now was =
      let a = ap length (sym (append-nil q.content.slots) ∙ now) ∙ counted news in
      let b = ap length was ∙ counted olds in
      let c = ap (λ (z : Pair). length z.content.slots) e in
      more (omega arith)

  -- or its tail names the new one
  other_tail : (f : Pair) → q ≡ p → q.content.tail ≡ Some (record { hard = true; to = f.at }) → f.content.tail ≡ p.content.tail → tail_target f.content.tail ≡ Some f.at
  other_tail f e first second = ap tail_target (second ∙ ap (λ (z : Pair). z.content.tail) (sym e) ∙ first)

  pub put_alters : (rest : List Pair) → IsAccepted new (thread_at w (q ∷ rest)) → q.at ≡ p.at → p.content.slots ≡ l ++ (olds ++ r) → all_slots (q ∷ rest) ≡ l ++ (news ++ r) → Became disk p (pair_with_slots (l ++ (news ++ r)) p) q rest
      → Contains (thread_at w (q ∷ rest)) p → ⊥
  put_alters [] ok at was now became has =
      let e = sym (append_assoc w.chain (w.before ++ w.left) (q ∷ behind)) in
      other_slots (only_there ahead q behind p (subst (λ z. IsDistinct nat_eq (pairs_blocks z)) e ok.thread.distinct) at (subst (λ z. Contains z p) e has)) now was
  put_alters (f ∷ []) ok at was now became has =
      let e = sym (append_assoc w.chain (w.before ++ w.left) (q ∷ f ∷ behind)) in
      let is = only_there ahead q (f ∷ behind) p (subst (λ z. IsDistinct nat_eq (pairs_blocks z)) e ok.thread.distinct) at (subst (λ z. Contains z p) e has) in
      let g = e ∙ sym (append_assoc ahead (q ∷ []) (f ∷ behind)) in
      names_another (ahead ++ q ∷ []) f behind (subst (λ z. AreLinkedByTails (Some superblock_pair_address) z) g ok.thread.links) (subst (λ z. IsDistinct nat_eq (pairs_blocks z)) g ok.thread.distinct)
      (other_tail f is became.0 became.1)
  put_alters (f ∷ g ∷ rest) ok at was now became has = absurd became

  pub commit_alters : (rest : List Pair) → IsAccepted new (thread_at w (q ∷ rest)) → IsCommit disk new w p q rest fresh l olds news r → Contains (thread_at w (q ∷ rest)) p → ⊥
  commit_alters rest ok c = put_alters rest ok c.at c.was c.is c.became
