-- What several calls in a row do to known bytes.
use Rattle.std.proofs.Common.{◌≡◌, ◌∙◌, ◌++◌, ◌+◌, ◌-◌, ◌≤◌, ◌<◌, ap, ap₂, inl, inr, ℕ, List, [], Option, Some, None, append_assoc, arith, drop, length, length-append, refl, sym, take}
use Rattle.std.specs.Prelude.{IfSome}
use Rattle.lfs_tool.proofs.Common.{Appends, Consumes, Keeps, IsReadToEnd, append-nil, take_all}
use Rattle.std.specs.Io.KnownBytes.{IsAtEnd}
use Rattle.std.proofs.Math.Seq.{take-add, take-append_seam}
use Rattle.std.proofs.lemmas.List.{length-drop, length-take-le}

rest_whole : (a : ℕ) (bs : List ℕ) → take (length bs - a) (drop a bs) ≡ drop a bs
rest_whole a bs = take_all _ (drop a bs) (omega (arith, length-drop a bs))

pub appends_more : (old mid new : Option (List ℕ)) (a n : ℕ) (bs : List ℕ) → Appends old mid (take a bs) → Appends mid new (take n (take (length bs - a) (drop a bs)))
    → Appends old new (take (a + n) bs)
appends_more None mid new a n bs first second = tt
appends_more (Some xs) None new a n bs first second = absurd first
appends_more (Some xs) (Some ys) None a n bs first second = absurd second
appends_more (Some xs) (Some ys) (Some zs) a n bs first second =
    second ∙ ap (λ s. ys ++ take n s) (rest_whole a bs) ∙ ap (λ s. s ++ take n (drop a bs)) first ∙ append_assoc xs (take a bs) (take n (drop a bs)) ∙ ap (λ s. xs ++ s) (sym (take-add a n bs))

-- as many bytes as are wanted were read
pub read_full : (old now : Option (List ℕ)) (items : List ℕ) (k : ℕ) → length items ≡ k → Consumes old now items → IfSome old (λ bytes. items ≡ take k bytes)
read_full None now items k len read = tt
read_full (Some xs) None items k len read = absurd read
read_full (Some xs) (Some ys) items k len read = rw (← len, read) (sym (take-append_seam items ys))

-- or all that there were
pub read_ended : (old mid new : Option (List ℕ)) (items buf : List ℕ) (k n : ℕ) → length items ≤ k → Consumes old mid items → n ≡ 0 → Consumes mid new (take n buf) → IsAtEnd new
    → IfSome old (λ bytes. items ≡ take k bytes)
read_ended None mid new items buf k n len read none last ends = tt
read_ended (Some xs) None new items buf k n len read none last ends = absurd read
read_ended (Some xs) (Some ys) None items buf k n len read none last ends = absurd last
read_ended (Some xs) (Some ys) (Some zs) items buf k n len read none last ends =
    let all : xs ≡ items = read ∙ ap (λ s. items ++ s) (last ∙ ap (λ i. take i buf ++ zs) none ∙ ends) ∙ append-nil items in
    rw all (sym (take_all k items len))

-- two reads in a row
pub reads_on : (old mid new : Option (List ℕ)) (front back : List ℕ) → Consumes old mid front → Consumes mid new back → Consumes old new (front ++ back)
reads_on None mid new front back first second = tt
reads_on (Some xs) None new front back first second = absurd first
reads_on (Some xs) (Some ys) None front back first second = absurd second
reads_on (Some xs) (Some ys) (Some zs) front back first second = first ∙ ap (λ s. front ++ s) second ∙ sym (append_assoc front back zs)

-- all was read, or more than an image may have
pub ended_behind : (old mid new : Option (List ℕ)) (front back : List ℕ) → Consumes old mid front → Consumes mid new back → IsAtEnd new → IsReadToEnd old new
ended_behind old mid new front back first second ends = (front ++ back, (reads_on old mid new front back first second, inl ends))

pub past_the_most : (old new : Option (List ℕ)) (items : List ℕ) → Consumes old new items → 268435456 < length items → IsReadToEnd old new
past_the_most old new items read many = (items, (read, inr many))

-- ---- a call that failed, or that a signal interrupted

pub consumes_behind : (old mid new : Option (List ℕ)) (bs : List ℕ) → Keeps old mid → Consumes mid new bs → Consumes old new bs
consumes_behind None mid new bs kept read = tt
consumes_behind (Some xs) None new bs kept read = absurd kept
consumes_behind (Some xs) (Some ys) None bs kept read = absurd read
consumes_behind (Some xs) (Some ys) (Some zs) bs kept read = sym kept ∙ read

pub appends_kept : (old mid new : Option (List ℕ)) (bs : List ℕ) → Appends old mid bs → Keeps mid new → Appends old new bs
appends_kept None mid new bs written kept = tt
appends_kept (Some xs) None new bs written kept = absurd written
appends_kept (Some xs) (Some ys) None bs written kept = absurd kept
appends_kept (Some xs) (Some ys) (Some zs) bs written kept = kept ∙ written
