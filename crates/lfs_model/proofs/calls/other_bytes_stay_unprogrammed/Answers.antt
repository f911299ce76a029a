use Rattle.std.proofs.Common.{ℕ, zero, suc, ◌≡◌, ◌≢◌, true, false, ◌==◌, cond, [], ◌∷◌, refl, sym, ap, ◌∙◌, arith}
use Rattle.std.specs.Prelude.{All}
use Rattle.lfs_model.proofs.Common.{All-from_recursion, nat_tests, is_unprogrammed_byte, history_after_erase, after_read}
use Rattle.lfs_model.proofs.calls.other_bytes_stay_unprogrammed.Goals as goal

stays : (b k : ℕ) → All (λ c. c ≢ b) (0 ∷ []) → is_unprogrammed_byte history_after_erase b k ≡ true → is_unprogrammed_byte after_read b k ≡ true
stays zero k apart e = absurd (apart 0 0 (omega arith) refl)
stays (suc b) k apart e = absurd (let f : (suc b == 0) ≡ false = grind (arith, nat_tests) in let g = sym (ap (λ x. cond x true false) f) ∙ e in cc)

pub returns-clause-stay : goal.returns-clause-stay
returns-clause-stay c = record { stays = stays }

pub returns-clause-dont_stay : goal.returns-clause-dont_stay
returns-clause-dont_stay c = λ h. absurd (let k = h.stays 0 0 (All-from_recursion (λ c. c ≢ 0) (1 ∷ []) ((λ e. absurd (omega arith)), tt)) refl in cc)
