-- The pairs of directories in turn, by marks.
use Rattle.std.proofs.Common.{ℕ, zero, suc, ◌≡◌, ◌+◌, ◌-◌, ◌≤◌, ◌<◌, ◌∙◌, ◌&&◌, inl, inr, Bool, true, false, cond, List, [], ◌∷◌, ◌++◌, length, drop, get_or, slice_get, Option, Some, None, refl, sym, ap, ap₂, subst, arith, append_assoc, append-nil}
use Rattle.std.specs.Prelude.{is_some, nat_lt}
use Rattle.std.proofs.lemmas.Bool.{le-ltb, lt-ltb}
use Rattle.lfs_tree.proofs.Common.{same_Some, directory_address, continued_directory_address, Pair, is_hard_tail, count_before_root, IsReachedDirectory, onward_some, AreUnreachedNumbers, AreUnreachedFrom, empty_anchor, AreReachedMarked}
use Rattle.std.proofs.Math.Seq.{drop-cons}
use Rattle.lfs_lookup.specs.ProfileChecks.{follows_hard_tail_at}

pub record IsScanning (ps : List Pair) (root i : ℕ) (numbers : List ℕ) (flag : Bool) : Type 0 where
  pub from : Option (ℕ × ℕ)
  pub goes_on : (rest : List ℕ) → AreUnreachedFrom (IsReachedDirectory ps) i from (drop i ps) rest → AreUnreachedFrom (IsReachedDirectory ps) root None (drop root ps) (numbers ++ rest)
  pub led : is_some from ≡ follows_hard_tail_at root ps i
  pub there : (a : ℕ × ℕ) → from ≡ Some a → flag ≡ true → IsReachedDirectory ps a
  pub back : (a : ℕ × ℕ) → from ≡ Some a → IsReachedDirectory ps a → flag ≡ true

not_less : (n : ℕ) → nat_lt n n ≡ false
not_less n = le-ltb n n (omega arith)

pub scan_begun : (ps : List Pair) (root : ℕ) (flag : Bool) → IsScanning ps root root [] flag
scan_begun ps root flag = record {
  from = None;
  goes_on = λ rest h. h;
  led = sym (ap (λ b. b && is_hard_tail (get_or ps (root - 1) empty_anchor).content.tail) (not_less root));
  there = λ a e. absurd (cc);
  back = λ a e. absurd (cc);
}

pub got : {X : Type 0} (xs : List X) (i : ℕ) (d : X) → i < length xs → slice_get xs i ≡ Some (get_or xs i d)
got [] i d l = absurd (omega arith)
got (x ∷ xs) zero d l = refl
got (x ∷ xs) (suc i) d l = got xs i d (omega arith)

module _ (ps : List Pair) (marks : List Bool) (m : AreReachedMarked ps marks) (root i : ℕ) (low : root ≤ i) (below : i < length ps) (numbers : List ℕ) (flag : Bool) (s : IsScanning ps root i numbers flag) where
  abbrev p : Pair
  p = get_or ps i empty_anchor

  abbrev now : Bool
  now = cond (follows_hard_tail_at root ps i) flag (get_or marks i false)

  own_there : get_or marks i false ≡ true → IsReachedDirectory ps p.at
  own_there e = m.reached i p (got ps i empty_anchor below) (got marks i false (let l = m.len in omega arith) ∙ ap Some e)

  own_back : IsReachedDirectory ps p.at → get_or marks i false ≡ true
  own_back r = same_Some (get_or marks i false) true (sym (got marks i false (let l = m.len in omega arith)) ∙ m.marked i p (got ps i empty_anchor below) r)

  both : (now ≡ true → IsReachedDirectory ps (directory_address s.from p)) × (IsReachedDirectory ps (directory_address s.from p) → now ≡ true)
  both = go s.from refl s.led
    where
      go : (f : Option (ℕ × ℕ)) → s.from ≡ f → is_some f ≡ follows_hard_tail_at root ps i → (now ≡ true → IsReachedDirectory ps (directory_address f p)) × (IsReachedDirectory ps (directory_address f p) → now ≡ true)
      go None e l = (
        (λ h. own_there (ap (λ b. cond b flag (get_or marks i false)) l ∙ h)),
        (λ r. ap (λ b. cond b flag (get_or marks i false)) (sym l) ∙ own_back r),
      )
      go (Some a) e l = (
        (λ h. s.there a e (ap (λ b. cond b flag (get_or marks i false)) l ∙ h)),
        (λ r. ap (λ b. cond b flag (get_or marks i false)) (sym l) ∙ s.back a e r),
      )

  begin_is : (a : ℕ × ℕ) → continued_directory_address s.from p ≡ Some a → directory_address s.from p ≡ a
  begin_is a e = go (is_hard_tail p.content.tail) e
    where
      go : (b : Bool) → cond b (Some (directory_address s.from p)) None ≡ Some a → directory_address s.from p ≡ a
      go true f = same_Some (directory_address s.from p) a f
      go false f = absurd (cc)

  pub scan_on : (more : List ℕ) (after : Bool) → after ≡ cond (follows_hard_tail_at root ps i) flag (get_or marks i false) → more ≡ cond after numbers (numbers ++ i ∷ []) → IsScanning ps root (i + 1) more after
  scan_on more after f g = record {
    from = continued_directory_address s.from p;
    goes_on = λ rest h. go after refl rest (subst (λ (n : ℕ). AreUnreachedFrom (IsReachedDirectory ps) n (continued_directory_address s.from p) (drop n ps) rest) one h);
    led = onward_some s.from p ∙ sym (ap₂ (λ (b : Bool) (n : ℕ). b && is_hard_tail (get_or ps n empty_anchor).content.tail) (lt-ltb root (i + 1) (omega arith)) (let e : i + 1 - 1 ≡ i = omega arith in e));
    there = λ a e h. subst (IsReachedDirectory ps) (begin_is a e) (both.0 (sym f ∙ h));
    back = λ a e r. f ∙ both.1 (subst (IsReachedDirectory ps) (sym (begin_is a e)) r);
  }
    where
      one : i + 1 ≡ suc i
      one = omega arith

      cut : drop i ps ≡ p ∷ drop (suc i) ps
      cut = drop-cons ps i empty_anchor below

      go : (b : Bool) → after ≡ b → (rest : List ℕ) → AreUnreachedFrom (IsReachedDirectory ps) (suc i) (continued_directory_address s.from p) (drop (suc i) ps) rest → AreUnreachedFrom (IsReachedDirectory ps) root None (drop root ps) (more ++ rest)
      go true e rest h = subst (λ z. AreUnreachedFrom (IsReachedDirectory ps) root None (drop root ps) (z ++ rest)) (sym (g ∙ ap (λ b. cond b numbers (numbers ++ i ∷ [])) e))
          (s.goes_on rest (subst (λ z. AreUnreachedFrom (IsReachedDirectory ps) i s.from z rest) (sym cut) (inl (both.0 (sym f ∙ e), h))))
      go false e rest h = subst (λ z. AreUnreachedFrom (IsReachedDirectory ps) root None (drop root ps) z) (sym (ap (λ z. z ++ rest) (g ∙ ap (λ b. cond b numbers (numbers ++ i ∷ [])) e) ∙ append_assoc numbers (i ∷ []) rest))
          (s.goes_on (i ∷ rest) (subst (λ z. AreUnreachedFrom (IsReachedDirectory ps) i s.from z (i ∷ rest)) (sym cut)
          (inr (rest, (refl, ((λ r. absurd (let k = sym e ∙ (f ∙ both.1 r) in cc)), h))))))

drop_past : (n : ℕ) (xs : List Pair) → length xs ≤ n → drop n xs ≡ []
drop_past zero [] l = refl
drop_past zero (x ∷ xs) l = absurd (omega arith)
drop_past (suc n) [] l = refl
drop_past (suc n) (x ∷ xs) l = drop_past n xs (omega arith)

pub scanned : (ps : List Pair) (root i : ℕ) (numbers : List ℕ) (flag : Bool) → root ≡ count_before_root ps → length ps ≤ i → IsScanning ps root i numbers flag → AreUnreachedNumbers ps numbers
scanned ps root i numbers flag is past s =
    subst (λ (n : ℕ). AreUnreachedFrom (IsReachedDirectory ps) n None (drop n ps) numbers) is
    (subst (λ z. AreUnreachedFrom (IsReachedDirectory ps) root None (drop root ps) z) (append-nil numbers)
    (s.goes_on [] (subst (λ z. AreUnreachedFrom (IsReachedDirectory ps) i s.from z []) (sym (drop_past i ps past)) refl)))
