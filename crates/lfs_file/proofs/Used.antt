-- Maps in which the same blocks are used.
use Rattle.std.proofs.Common.{ℕ, zero, suc, ◌≡◌, ◌≤◌, cond, [], ◌∷◌, length, Some, refl, sym, ap, subst, arith}
use Rattle.std.proofs.lemmas.List.Sums.{sum_by-cons}
use Rattle.std.proofs.lemmas.Option.{same_Some}
use Rattle.lfs_file.proofs.Common.{BlockState, BlockStates, IsUsedBlock, is_used, used_count, Free, InFlight, Used, KeepsUsedBlocks}

-- ---- as many blocks are used, so they are the same ones

abbrev number : BlockState → ℕ
number s = cond (is_used s) 1 0

number_le : (x y : BlockState) → (x ≡ Used → y ≡ Used) → number x ≤ number y
number_le Free y f = omega arith
number_le InFlight y f = omega arith
number_le Used y f = subst (λ (z : BlockState). 1 ≤ number z) (sym (f refl)) (omega arith)

number_is : (x : BlockState) → 1 ≤ number x → x ≡ Used
number_is Free some = absurd (omega (arith, some))
number_is InFlight some = absurd (omega (arith, some))
number_is Used some = refl

here_to : (x y : BlockState) (xs ys : BlockStates) → ((b : ℕ) → IsUsedBlock (x ∷ xs) b → IsUsedBlock (y ∷ ys) b) → x ≡ Used → y ≡ Used
here_to x y xs ys stays is = same_Some y Used (stays 0 (ap Some is))

count_le : (old new : BlockStates) → length new ≡ length old → ((b : ℕ) → IsUsedBlock old b → IsUsedBlock new b) → used_count old ≤ used_count new
count_le [] new size stays = omega arith
count_le (x ∷ xs) [] size stays = absurd (omega (arith, size))
count_le (x ∷ xs) (y ∷ ys) size stays =
    let behind = count_le xs ys (omega (arith, size)) (λ b used. stays (suc b) used) in
    let here = number_le x y (here_to x y xs ys stays) in
    let e = sum_by-cons number x xs in
    let f = sum_by-cons number y ys in
    omega arith

pub used_before : (old new : BlockStates) → length new ≡ length old → used_count new ≡ used_count old → ((b : ℕ) → IsUsedBlock old b → IsUsedBlock new b) → (b : ℕ) → IsUsedBlock new b → IsUsedBlock old b
used_before [] [] size count stays b used = used
used_before [] (y ∷ ys) size count stays b used = absurd (omega (arith, size))
used_before (x ∷ xs) [] size count stays b used = absurd (omega (arith, size))
used_before (x ∷ xs) (y ∷ ys) size count stays zero used =
    let behind = count_le xs ys (omega (arith, size)) (λ b u. stays (suc b) u) in
    let e = sum_by-cons number x xs in
    let f = sum_by-cons number y ys in
    let one = ap number (same_Some y Used used) in
    ap Some (number_is x (omega arith))
used_before (x ∷ xs) (y ∷ ys) size count stays (suc b) used =
    let behind = count_le xs ys (omega (arith, size)) (λ b u. stays (suc b) u) in
    let here = number_le x y (here_to x y xs ys stays) in
    let e = sum_by-cons number x xs in
    let f = sum_by-cons number y ys in
    used_before xs ys (omega (arith, size)) (omega arith) (λ c u. stays (suc c) u) b used

pub used_back : {old new : BlockStates} → KeepsUsedBlocks old new → (b : ℕ) → IsUsedBlock new b → IsUsedBlock old b
used_back {old} {new} keeps b used = used_before old new keeps.count keeps.used keeps.stays b used
