-- A disk has one thread.
use Rattle.std.proofs.Common.{ℕ, ◌≡◌, List, [], ◌∷◌, Option, Some, None, refl, sym, ap, ◌∙◌}
use Rattle.std.specs.Prelude.{All}
use Rattle.lfs_model.proofs.Common.{All-head, All-tail, same_Some, PairContent, Pair, AreLinkedByTails, tail_target, superblock_pair_address, IsThread}

same_pairs : (p q : Pair) → p.at ≡ q.at → p.content ≡ q.content → p ≡ q
same_pairs p q at content = ap (λ (x : ℕ × ℕ). record { at = x; content = p.content }) at ∙ ap (λ (x : PairContent). record { at = q.at; content = x }) content

pub one_way : (content_of : ℕ × ℕ → Option PairContent) (at : Option (ℕ × ℕ)) (ps qs : List Pair) → AreLinkedByTails at ps → AreLinkedByTails at qs
    → All (λ p. content_of p.at ≡ Some p.content) ps → All (λ p. content_of p.at ≡ Some p.content) qs → ps ≡ qs
one_way content_of at [] [] l m a b = refl
one_way content_of at [] (q ∷ qs) l m a b = absurd (let e : None ≡ Some q.at = sym l ∙ m.0 in cc)
one_way content_of at (p ∷ ps) [] l m a b = absurd (let e : None ≡ Some p.at = sym m ∙ l.0 in cc)
one_way content_of at (p ∷ ps) (q ∷ qs) l m a b =
    let P : Pair → Type 0 = λ p. content_of p.at ≡ Some p.content in
    let here : p.at ≡ q.at = same_Some p.at q.at (sym l.0 ∙ m.0) in
    let content : p.content ≡ q.content = same_Some p.content q.content (sym (All-head P p ps a) ∙ ap content_of here ∙ All-head P q qs b) in
    let pair : p ≡ q = same_pairs p q here content in
    let next : AreLinkedByTails (tail_target p.content.tail) qs = rw content m.1 in
    let rest : ps ≡ qs = one_way content_of (tail_target p.content.tail) ps qs l.1 next (All-tail P p ps a) (All-tail P q qs b) in
    ap (λ (x : Pair). x ∷ ps) pair ∙ ap (λ (xs : List Pair). q ∷ xs) rest

pub one_thread : (content_of : ℕ × ℕ → Option PairContent) (block_count : ℕ) (ps qs : List Pair) → IsThread content_of block_count ps → IsThread content_of block_count qs → ps ≡ qs
one_thread content_of block_count ps qs t u = one_way content_of (Some superblock_pair_address) ps qs t.links u.links t.contents u.contents
