-- Writes to parts of a buffer.
use Rattle.std.proofs.Common.{◌≡◌, ℕ, ◌+◌, ◌-◌, ◌≤◌, List, [], ◌++◌, length, take, drop, sym, ap, ◌∙◌, arith, append_assoc, length-append}
use Rattle.lfs_tag.proofs.Common.{take_all, drop-drop, length-drop, length-take-le, append-nil, take-append_seam, overwritten_at}
use Rattle.std.proofs.Math.ListN.{drop_of_length-le}
use Rattle.std.proofs.Math.Seq.{drop-append-add}
use borrow.Rule.Slice.PartMut.{put_mid}

-- a write of a whole part
pub put_mid-part : (at k : ℕ) (old bytes : List ℕ) → length bytes ≡ k → put_mid at k old bytes ≡ overwritten_at old at bytes
put_mid-part at k old bytes is =
    ap (λ (l : List ℕ). take at old ++ (bytes ++ l)) (drop-drop k at old ∙ ap (λ (n : ℕ). drop n old) (let e : at + k ≡ at + length bytes = omega (arith, is) in e))
    ∙ sym (append_assoc (take at old) bytes (drop (at + length bytes) old))

-- a write to the front of all that follows an offset
pub put_mid-front : (at n : ℕ) (old bytes now : List ℕ) → now ≡ bytes ++ drop n (take (length old - at) (drop at old)) → length bytes ≡ n → at ≤ length old → put_mid at (length old - at) old now ≡ overwritten_at old at bytes
put_mid-front at n old bytes now e is le =
    let whole : take (length old - at) (drop at old) ≡ drop at old = take_all (length old - at) (drop at old) (omega (arith, length-drop at old)) in
    let none : drop (length old - at) (drop at old) ≡ [] = drop_of_length-le (drop at old) (omega (arith, length-drop at old)) in
    let rest : drop n (drop at old) ≡ drop (at + length bytes) old = drop-drop n at old ∙ ap (λ (m : ℕ). drop (at + m) old) (sym is) in
    ap (λ (l : List ℕ). take at old ++ (now ++ l)) none ∙ ap (λ (l : List ℕ). take at old ++ l) (append-nil now ∙ e)
    ∙ ap (λ (l : List ℕ). take at old ++ (bytes ++ l)) (ap (drop n) whole ∙ rest)
    ∙ sym (append_assoc (take at old) bytes (drop (at + length bytes) old))

length-front : (at : ℕ) (old bytes : List ℕ) → at ≤ length old → length (take at old ++ bytes) ≡ at + length bytes
length-front at old bytes le = length-append (take at old) bytes ∙ ap (λ (n : ℕ). n + length bytes) (length-take-le at old le)

pub length-overwritten : (at : ℕ) (old bytes : List ℕ) → at + length bytes ≤ length old → length (overwritten_at old at bytes) ≡ length old
length-overwritten at old bytes le =
    length-append (take at old ++ bytes) (drop (at + length bytes) old)
    ∙ omega (arith, length-front at old bytes (omega arith), length-drop (at + length bytes) old)

-- what is before the end of a write
pub take-overwritten : (at n : ℕ) (old bytes : List ℕ) → at ≤ length old → n ≡ at + length bytes → take n (overwritten_at old at bytes) ≡ take at old ++ bytes
take-overwritten at n old bytes le is =
    ap (λ (m : ℕ). take m (overwritten_at old at bytes)) (is ∙ sym (length-front at old bytes le))
    ∙ take-append_seam (take at old ++ bytes) (drop (at + length bytes) old)

-- and after it
pub drop-overwritten : (at n more : ℕ) (old bytes : List ℕ) → at ≤ length old → n ≡ at + length bytes + more → drop n (overwritten_at old at bytes) ≡ drop n old
drop-overwritten at n more old bytes le is =
    ap (λ (m : ℕ). drop m (overwritten_at old at bytes)) (is ∙ ap (λ (m : ℕ). m + more) (sym (length-front at old bytes le)))
    ∙ drop-append-add (take at old ++ bytes) (drop (at + length bytes) old) more
    ∙ drop-drop more (at + length bytes) old ∙ ap (λ (m : ℕ). drop m old) (sym is)

-- two writes, one after the other
pub overwritten_at-twice : (at second : ℕ) (old xs ys : List ℕ) → at + length xs ≤ length old → second ≡ at + length xs → overwritten_at (overwritten_at old at xs) second ys ≡ overwritten_at old at (xs ++ ys)
overwritten_at-twice at second old xs ys le is =
    let front = take-overwritten at second old xs (omega arith) is in
    let back = drop-overwritten at (second + length ys) (length ys) old xs (omega arith) (omega arith) in
    let end : second + length ys ≡ at + length (xs ++ ys) = omega (arith, length-append xs ys) in
    rw (front, back, end) (ap (λ (l : List ℕ). l ++ drop (at + length (xs ++ ys)) old) (append_assoc (take at old) xs ys))
